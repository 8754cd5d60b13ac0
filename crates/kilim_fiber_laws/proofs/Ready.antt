-- A fiber's next instruction is as the interpreter asks, and what it gives away is a tree.
use Rattle.std.proofs.Common.{◌≡◌, ◌<◌, ℕ, Bool, true, false, cond, List, [], ◌∷◌, length, map, Option, Some, None, refl, sym, ap, subst, ◌∙◌}
use Rattle.std.specs.Prelude.{nat_lt}
use Rattle.std.specs.FinMap.{get}
use Rattle.std.proofs.lemmas.Bool.{false≢true}
use Rattle.std.proofs.lemmas.Option.{same_Some, none-some}
use Rattle.kilim_program.specs.declared.names.MethodId.{MethodId}
use Rattle.kilim_program.specs.declared.value.Value.{Value}
use Rattle.kilim_program.specs.declared.value.Value.TheVariants.{Box, Fiber, Ref}
use Rattle.kilim_program.specs.Names.{◌>>=◌}
use Rattle.kilim_program.specs.Program.{Program}
use Rattle.kilim_fiber_spec.proofs.fiber_kin.Belows.{object_at}
use Rattle.kilim_fiber_spec.proofs.fiber_kin.Fine.{fine_kin}
use Rattle.kilim_fiber_spec.proofs.fiber_kin.Trees.{is_given}
use Rattle.kilim_fiber_spec.specs.fiber_kin.Acts.{IsGiven}
use Rattle.kilim_fiber_spec.specs.fiber_kin.Mine.{all_mine}
use Rattle.kilim_fiber_spec.specs.fiber_kin.Served.{gives_value}
use Rattle.kilim_run_interp.specs.Step.{stack_limit}
use Rattle.kilim_run_model.proofs.kin.Kins.{kin_length}
use Rattle.kilim_run_model.proofs.kin.Moving.{moves_kin}
use Rattle.kilim_run_model.proofs.kin.Renamed.{renamed, number_of, are_is}
use Rattle.kilim_run_model.proofs.kin.Rows.{rows_kin}
use Rattle.kilim_run_model.specs.kin.Kin.{Names, IsKin, AreKin, StandsIn, FramesKin, MoveKin}
use Rattle.kilim_run_state.specs.declared.value.Object.{Object}
use Rattle.kilim_run_machine.specs.Effect.{Effect}
use Rattle.kilim_run_machine.specs.Effect as effect
use Rattle.kilim_run_state.specs.Machine.{Objects, Activation}
use Rattle.kilim_program.specs.Members.{execute_of}
use Rattle.kilim_run_state.specs.declared.cause.EndCause.TheVariants as cause
use Rattle.kilim_run_machine.specs.Moves.{Enters, Move, effect_of, entered, frame_limit, goes_on, move_by, moves, receiver_of, returned}
use Rattle.kilim_run_machine.specs.Moves as move
use Rattle.kilim_run_machine.specs.Natives.{Native, FiberMember, native_of}
use Rattle.kilim_run_machine.specs.Natives as native
use Rattle.kilim_run_state.specs.Trees.{Root, OfMessage, OfTask}
use Rattle.kilim_run_model.specs.Course.{Course}
use Rattle.kilim_run_model.specs.Kept.{given}
use Rattle.kilim_run_model.specs.State.{Setting, class_of}
use Rattle.kilim_fiber_laws.proofs.Given.{all_well}
use Rattle.kilim_fiber_laws.proofs.Reached.{GivesObjects, acts, along, first, held_there, is_fine, moves_give, next_comes}
use Rattle.kilim_fiber_laws.specs.Fibers.{IsFiberOf, IsReached}
use Rattle.kilim_fiber_laws.specs.Laws.{FibersAreReady, RestsOnObject}
use Rattle.kilim_fiber_laws.specs.Ready.{HasRoom, IsObject, IsReady, ResultFits, may_give}
use Rattle.kilim_fiber_laws.specs.Served.{CanServe}
use Rattle.kilim_fiber_laws.specs.woven_kin.history.History.{Follows, state_in, world_of}
use Rattle.kilim_fiber_laws.proofs.woven_kin.Records.{receiver_kin}
use Rattle.kilim_fiber_laws.specs.woven_kin.Alike.{Like}
use Rattle.kilim_fiber_laws.specs.woven_kin.Nexts.{Next, next_in, next_of, resumes_next}
use Rattle.kilim_fiber_laws.specs.woven_kin.Standing.{Standing}
use Rattle.kilim_fiber_spec.specs.Fibers.{as_member, executes_on, first_receiver, member_of}
use Rattle.kilim_fiber_spec.specs.Rooms.{IsFineState, IsWholeAt, MemberHasRoom, ResultHasRoom}

-- ---- room for a result

module _ (W : Program) (top : Activation) (below : List Activation) where
  asks_fit : (m : MethodId) (frames : List Activation) → (gives_value (native_of W m) ≡ true → HasRoom W frames) → ((k : FiberMember) → member_of W m ≡ Some k → HasRoom W frames) → may_give (native_of W m) ≡ true → HasRoom W frames
  asks_fit m frames result member e = by (native_of W m) refl e
    where
      by : (o : Option Native) → native_of W m ≡ o → may_give o ≡ true → HasRoom W frames
      by None is e = absurd (false≢true e)
      by (Some (native.OfFiber k)) is e = member k (ap as_member is)
      by (Some n) is e = result (ap gives_value is ∙ e)

  called_fits : (m : MethodId) (args : List Value) (frames : List Activation) (h : Objects) → ResultFits W (move.called W m args frames h)
  called_fits m args frames h = by (nat_lt (length frames) frame_limit)
    where
      by : (z : Bool) → ResultFits W (cond z (move.Runs (Enters (receiver_of W m args)) (entered W m args ∷ frames) h) (move.Ends cause.Depth))
      by true = tt
      by false = tt

  returned_fits : (v : Option Value) (frames : List Activation) (h : Objects) → ResultFits W (returned v frames h)
  returned_fits v [] h = tt
  returned_fits v (caller ∷ frames) h = tt

  move_fits : (e : Effect) → ResultHasRoom W e top.method → MemberHasRoom W e top.method → ResultFits W (move_by W e top below)
  move_fits (effect.Goes q l s h) result member = tt
  move_fits (effect.Makes o q l s h) result member = tt
  move_fits (effect.Opens q l s h) result member = tt
  move_fits (effect.Calls m args q l s h) result member = called_fits m args (goes_on top q l s ∷ below) h
  move_fits (effect.Asks m args q l s h) result member = asks_fit m (goes_on top q l s ∷ below) result member
  move_fits (effect.Returns v h) result member = returned_fits v below h
  move_fits (effect.Raises why) result member = tt
  move_fits (effect.Throws object class why) result member = tt
  move_fits (effect.Ends why) result member = tt
  move_fits effect.Stuck result member = tt

  pub moves_fit : (h : Objects) → ResultHasRoom W (effect_of W top h) top.method → MemberHasRoom W (effect_of W top h) top.method → ResultFits W (moves W top below h)
  unfolding moves
  moves_fit h result member = move_fits (effect_of W top h) result member

-- ---- under other names

module _ (W : Program) (of : Names) where
  room_kin : (fs gs : List Activation) → FramesKin of fs gs → HasRoom W fs → HasRoom W gs
  room_kin [] [] e r = r
  room_kin (f ∷ fs) (g ∷ gs) e r = subst (λ (m : MethodId). length g.stack < stack_limit W m) e.0 (subst (λ (n : ℕ). n < stack_limit W f.method) (kin_length of f.stack g.stack e.3) r)
  room_kin _ _ e r = absurd e

  fits_kin : (good : ℕ → Type 0) (h k : Objects) (m n : Move) → MoveKin good of all_mine 0 h k m n → ResultFits W m → ResultFits W n
  fits_kin good h k (move.Asks m args fs x) (move.Asks n brgs gs y) e fits = λ gives. room_kin fs gs e.2 (fits (ap (λ (z : MethodId). may_give (native_of W z)) e.0 ∙ gives))
  fits_kin good h k (move.Runs a fs x) (move.Runs b gs y) e fits = tt
  fits_kin good h k (move.Makes o fs x) (move.Makes q gs y) e fits = tt
  fits_kin good h k (move.Opens fs x) (move.Opens gs y) e fits = tt
  fits_kin good h k (move.Returns x) (move.Returns y) e fits = tt
  fits_kin good h k (move.Raises c) (move.Raises d) e fits = tt
  fits_kin good h k (move.Throws n i c) (move.Throws x j d) e fits = tt
  fits_kin good h k (move.Ends c) (move.Ends d) e fits = tt
  fits_kin good h k move.Stuck move.Stuck e fits = tt
  fits_kin good h k _ _ e fits = absurd e

  -- the object that is given away, under its name in the machine's heap
  record Back (o : Option Native) (args : List Value) (root : Root) (x : ℕ) : Type 0 where
    name : ℕ
    given-there : given o args ≡ Some (root, name)
    named : of name ≡ Some x

  back_at : (o : Option Native) (args : List Value) (root : Root) (x n : ℕ) (got : Root × ℕ) → given o args ≡ Some (got.0, n) → of n ≡ Some got.1 → Some got ≡ Some (root, x) → Back o args root x
  back_at o args root x n got e named same =
      let pair = same_Some _ _ same in
      record { name = n; given-there = e ∙ ap (λ (z : Root × ℕ). Some (z.0, n)) pair; named = named ∙ ap (λ (z : Root × ℕ). Some z.1) pair }

  back_by : (root : Root) (x : ℕ) (o : Option Native) (args : List Value) → AreKin of args (map (renamed of) args) → given o (map (renamed of) args) ≡ Some (root, x) → Back o args root x
  back_by root x (Some native.Put) (Box box ∷ Ref n ∷ []) kin e = back_at (Some native.Put) (Box box ∷ Ref n ∷ []) root x n (OfMessage, number_of (of n)) refl kin.1.0 e
  back_by root x (Some native.PutWait) (Box box ∷ Ref n ∷ []) kin e = back_at (Some native.PutWait) (Box box ∷ Ref n ∷ []) root x n (OfMessage, number_of (of n)) refl kin.1.0 e
  back_by root x (Some native.PutWait) (Box box ∷ Ref n ∷ Fiber ∷ []) kin e = back_at (Some native.PutWait) (Box box ∷ Ref n ∷ Fiber ∷ []) root x n (OfMessage, number_of (of n)) refl kin.1.0 e
  back_by root x (Some native.Start) (Ref n ∷ []) kin e = back_at (Some native.Start) (Ref n ∷ []) root x n (OfTask, number_of (of n)) refl kin.0 e
  back_by root x _ _ kin e = absurd (none-some (root, x) e)

  back : (root : Root) (x : ℕ) (o : Option Native) (args brgs : List Value) → AreKin of args brgs → given o brgs ≡ Some (root, x) → Back o args root x
  back root x o args brgs kin e =
      let is = are_is of args brgs kin in
      back_by root x o args (subst (AreKin of args) (sym is) kin) (ap (given o) is ∙ e)

module _ (set : Setting) (W : Program) (marks : List (List Bool)) (served : CanServe set W marks) (t : ℕ) (c : Course) (f : Standing) (is : IsFiberOf set W marks t c f) where
  abbrev x : Standing
  x = is.holds.at

  abbrev r : IsReached set W marks t c x
  r = is.holds.reached

  abbrev like : Like x f
  like = is.holds.like

  -- ---- the next instruction

  by_move : (id : MethodId) (args : List Value) (after : List Activation) (k : Objects) (root : Root) (y : ℕ) → given (native_of W id) args ≡ Some (root, y) → (good : ℕ → Type 0) (m : Move) → MoveKin good like.of all_mine 0 x.heap f.heap m (move.Asks id args after k) → GivesObjects set.program W m →
      IsGiven set.program root f.heap y
  by_move id args after k root y gives good (move.Asks n brgs gs h) w object =
      let b = back W like.of root y (native_of W n) brgs args w.1 (ap (λ (z : MethodId). given (native_of W z) args) w.0 ∙ gives) in
      let at = subst (λ (z : Objects). IsWholeAt set.program root z b.name) w.3 (object root b.name b.given-there) in
      is_given set.program root like.of x.heap f.heap b.name y like.is.heaps b.named (all_well set.program root x.heap b.name at) at.tree
  by_move id args after k root y gives good _ w object = absurd w

  ready_by : (fs : List Activation) (top : Activation) (below : List Activation) → FramesKin like.of fs (top ∷ below) → IsFineState set.program W (state_in fs x.fiber (world_of t x [] (acts set W marks served t c x r)) (0 ∷ [])) → IsReady set.program W f.heap top below
  ready_by [] top below kin fine = absurd kin
  ready_by (mine ∷ fs) top below kin fine =
      let held = held_there x.heap mine.stack fine.there in
      let both = moves_kin W like.of all_mine 0 x.heap f.heap like.is.heaps (rows_kin W) mine top held fs below kin in
      record {
        fine = fine_kin W like.of x.heap f.heap like.is.heaps mine top held fs below kin fine.fine;
        result = fits_kin W like.of (StandsIn x.heap mine.stack) x.heap f.heap (moves W mine fs x.heap) (moves W top below f.heap) both (moves_fit W mine fs x.heap fine.result fine.member);
        gives = λ id args after k asks root y e.
            by_move id args after k root y e (StandsIn x.heap mine.stack) (moves W mine fs x.heap) (subst (MoveKin (StandsIn x.heap mine.stack) like.of all_mine 0 x.heap f.heap (moves W mine fs x.heap)) asks both)
            (moves_give set.program W mine fs x.heap fine.gives);
      }

  pub ready : (top : Activation) (below : List Activation) → f.frames ≡ top ∷ below → IsReady set.program W f.heap top below
  ready top below e = ready_by x.frames top below (subst (FramesKin like.of x.frames) e like.is.frames) (is_fine set W marks served t c x r)

  -- ---- at a rest

  -- the receiver, in the machine's heap
  record IsRoot (v : Value) : Type 0 where
    name : ℕ
    object : Object
    same : v ≡ Ref name
    there : get x.heap name ≡ Some object

  root_at : (n : ℕ) (o : Option Object) → get x.heap n ≡ o → (m : MethodId) → (o >>= λ (object : Object). class_of object.class.base >>= λ c. execute_of W c) ≡ Some m → IsRoot (Ref n)
  root_at n None at m e = absurd (none-some m e)
  root_at n (Some object) at m e = record { name = n; object = object; same = refl; there = at }

  root_of : (v : Value) (m : MethodId) → executes_on W x.heap v ≡ Some m → IsRoot v
  root_of (Ref n) m e = root_at n (get x.heap n) refl m e
  root_of _ m e = absurd (none-some m e)

  object_of : (v w : Value) → IsKin like.of v w → IsRoot v → IsObject f.heap w
  object_of v w kin root = by w (subst (λ (z : Value). IsKin like.of z w) root.same kin)
    where
      by : (w : Value) → IsKin like.of (Ref root.name) w → IsObject f.heap w
      by (Ref y) e = let q = object_at set.program like.of x.heap f.heap like.is.heaps root.name y root.object e root.there in (y, q.0, refl, q.1)
      by _ e = absurd e

  -- it goes on there, since the machine isn't lost
  resting : (o : Option MethodId) → executes_on W x.heap (first_receiver x.fiber) ≡ o → next_of set W marks t x ≡ resumes_next W x o → IsObject f.heap (first_receiver f.fiber)
  resting None at next =
      let lost = subst (λ (y : Next). Follows set W marks t (first set W marks served t c x r) c.deeds (acts set W marks served t c x r) y) next (next_comes set W marks served t c x r) in
      absurd ((along set W marks served t c x r lost.0).never_lost lost.1 lost.2)
  resting (Some m) at next = object_of (first_receiver x.fiber) (first_receiver f.fiber) (receiver_kin like.of x.fiber f.fiber like.is.fiber) (root_of (first_receiver x.fiber) m at)

  no_frame : (fs : List Activation) → FramesKin like.of fs [] → fs ≡ []
  no_frame [] e = refl
  no_frame (top ∷ fs) e = absurd e

  pub rests : f.frames ≡ [] → IsObject f.heap (first_receiver f.fiber)
  unfolding next_of
  rests e =
      let none : x.frames ≡ [] = no_frame x.frames (subst (FramesKin like.of x.frames) e like.is.frames) in
      resting (executes_on W x.heap (first_receiver x.fiber)) refl (ap (next_in set W marks t x) none)

pub fibers_are_ready : FibersAreReady
fibers_are_ready set W marks served t c f is top below e = ready set W marks served t c f is top below e

pub rests_on_object : RestsOnObject
rests_on_object set W marks served t c f is e = rests set W marks served t c f is e
