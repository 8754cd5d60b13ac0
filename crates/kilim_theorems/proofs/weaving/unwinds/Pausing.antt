-- A fiber that pauses goes on by itself, still pausing, or rests.
use Rattle.std.proofs.Common.{◌≡◌, ℕ, ℤ, pos, negsuc, zero, suc, Bool, true, false, cond, not, List, [], ◌∷◌, Option, Some, None, refl, sym, ap, subst, ◌∙◌, ◌+◌}
use Rattle.std.specs.Prelude.{nat_le, nat_lt, ◌&&◌}
use Rattle.kilim_program.specs.declared.instr.Instr.{Instr}
use Rattle.kilim_program.specs.declared.names.BoxName.{BoxName}
use Rattle.kilim_program.specs.declared.names.ClassId.{ClassId}
use Rattle.kilim_program.specs.declared.value.Value.{Value}
use Rattle.kilim_program.specs.declared.value.Value.TheVariants.{Int, Null, Ref, Box, Fiber}
use Rattle.kilim_program.specs.Program.{Program}
use Rattle.kilim_run_journal.specs.declared.entry.Act.{Act}
use Rattle.kilim_run_state.specs.declared.cause.EndCause.{EndCause}
use Rattle.kilim_run_state.specs.declared.cause.EndCause.TheVariants as cause
use Rattle.kilim_run_state.specs.declared.value.Token.{Token}
use Rattle.kilim_run_state.specs.Machine.{Activation}
use Rattle.kilim_program.specs.Members.{execute_of}
use Rattle.kilim_run_machine.specs.Moves.{Move, moves, push_result, push_value}
use Rattle.kilim_run_machine.specs.Moves as move
use Rattle.kilim_run_machine.specs.Natives.{Native, FiberMember, Pc, Down, Up, Save, Place, Restore, Receiver, native_of}
use Rattle.kilim_run_machine.specs.Natives as native
use Rattle.kilim_run_machine.specs.Raising.{index_at, other_index, raised_class, thrown, unwound}
use Rattle.kilim_run_state.specs.Objects.{new_object}
use Rattle.kilim_run_state.specs.Shapes.{shape_of}
use Rattle.kilim_run_model.specs.kin.Kin.{FramesKin}
use Rattle.kilim_run_model.specs.Course.{Course}
use Rattle.kilim_run_model.specs.declared.deed.Deed.{Deed}
use Rattle.kilim_run_model.specs.Lone.{arg_at, box_limit, printed}
use Rattle.kilim_run_model.specs.State.{Setting}
use Rattle.kilim_fiber_laws.proofs.woven_kin.history.Steps.{machine_follows}
use Rattle.kilim_fiber_laws.proofs.Reached.{acts, along, first, next_like, state}
use Rattle.kilim_fiber_laws.specs.Fibers.{IsFiberOf, IsReached}
use Rattle.kilim_fiber_laws.specs.Served.{CanServe}
use Rattle.kilim_fiber_laws.specs.woven_kin.history.History.{Does, Outcome, state_in, state_of, world_of}
use Rattle.kilim_fiber_laws.proofs.woven_kin.Records.{pausing_same}
use Rattle.kilim_fiber_laws.specs.woven_kin.Alike.{HasFree, Like, NextLike}
use Rattle.kilim_fiber_laws.specs.woven_kin.Nexts.{Next, Goes, Puts, Gets, Probes, Starts, Prints, Rests, Ends, Stands, arg_next, asks_next, begins_next, begun_with, found_next, finish_next, get_next, message_next, native_next, counted, next_by, next_in, next_of, opens_next, print_next, put_next, raised, raises, thrown_to, with_new, spent_or, start_next, stood, ticked, yield_next, put_wait_next, wait_next, bound_next, PutWaits, Bounds, PutsAgain, first_wait, putw_next, taken_at, wait_again, waiting_at}
use Rattle.kilim_fiber_laws.specs.woven_kin.Standing.{Standing}
use Rattle.kilim_fiber_spec.specs.Acts.{Over, World, Apart}
use Rattle.kilim_fiber_spec.specs.Fibers.{Fib, Fiber_at, Resting, Saved, WStop, is_pausing, is_rewinding, member_does, pausing, rewound, wfetch, wstep, wsteps}
use Rattle.kilim_fiber_spec.specs.Runs.{ComesToRest, most_uncounted}
use Rattle.kilim_fiber_laws.proofs.receivers.states.Along.{append_none}
use Rattle.kilim_theorems.specs.weaving.unwinds.Law.{IsUnwinding, PausingRests}

-- ---- it still pauses

abbrev pub StillPauses : Next → Type 0
StillPauses (Goes g) = is_pausing g.fiber ≡ true
StillPauses x = Unit {0}

module _ (set : Setting) (W : Program) (t : ℕ) where
  spent_still : (counts : Bool) (done : ℕ) (x : Next) → StillPauses x → StillPauses (spent_or set counts done x)
  spent_still counts done x e = by (counts && nat_le set.limits.steps done)
    where
      by : (z : Bool) → StillPauses (cond z (Ends cause.Spent) x)
      by true = tt
      by false = e

  ticked_still : (counts : Bool) (z : Standing) → is_pausing z.fiber ≡ true → StillPauses (Goes (ticked counts z))
  ticked_still true z e = e
  ticked_still false z e = e

  thrown_still : (z : Standing) (why : EndCause) (left : List Activation) → is_pausing z.fiber ≡ true → StillPauses (thrown_to z why left)
  thrown_still z why [] e = tt
  thrown_still z why (f ∷ fs) e = e

  raises_still : (z : Standing) (why : EndCause) (left : ClassId → List Activation) (o : Option ClassId) → is_pausing z.fiber ≡ true → StillPauses (raises W z why left o)
  raises_still z why left None e = tt
  raises_still z why left (Some c) e = thrown_still (with_new z (new_object W c)) why (left c) e

  ticked_pauses : (counts : Bool) (z : Standing) → is_pausing z.fiber ≡ true → is_pausing (ticked counts z).fiber ≡ true
  ticked_pauses true z e = e
  ticked_pauses false z e = e

  module _ (z : Standing) (e : is_pausing z.fiber ≡ true) where
    raised_still : (why : EndCause) → StillPauses (raised W z why)
    raised_still why = raises_still (counted z) why (λ c. unwound W c (Ref z.next) z.frames) (raised_class W other_index why) e

    put_still : (box : BoxName) (n : ℕ) (o : Option (List Token)) → StillPauses (put_next z box n o)
    put_still box n None = tt
    put_still box n (Some shape) = tt

    message_still : (box : BoxName) (v : Value) → StillPauses (message_next set.program W z box v)
    message_still box (Ref n) = put_still box n (shape_of set.program z.heap n)
    message_still box Null = raised_still cause.Null
    message_still box _ = tt

    put_wait_still : (box : BoxName) (n : ℕ) (o : Option (List Token)) → StillPauses (put_wait_next set.program z box n o)
    put_wait_still box n None = tt
    put_wait_still box n (Some shape) = tt

    wait_still : (box : BoxName) (v : Value) → StillPauses (wait_next set.program W z box v)
    wait_still box (Ref n) = put_wait_still box n (shape_of set.program z.heap n)
    wait_still box Null = raised_still cause.Null
    wait_still box _ = tt

    first_still : (v u : Value) → StillPauses (first_wait set.program W z v u)
    first_still (Box box) u = wait_still box u
    first_still _ u = tt

    again_still : (v : Value) (kept : List Apart) → StillPauses (wait_again set z v kept)
    again_still (Box box) (k ∷ ks) = spent_still true z.done (PutsAgain box k.root k.shape (taken_at (record z { heap = k.heap; aside = ks })) (waiting_at box z) (taken_at (record z { aside = ks }))) tt
    again_still _ _ = tt

    putw_still : (again : Bool) (v u : Value) → StillPauses (putw_next set W again z v u)
    putw_still true v u = again_still v z.aside
    putw_still false v u = spent_still true z.done (first_wait set.program W z v u) (first_still v u)

    bound_still : (box : BoxName) (i : ℤ) → StillPauses (bound_next W z box i)
    bound_still box (pos (suc n)) = tt
    bound_still box (pos zero) = raised_still cause.Size
    bound_still box (negsuc n) = raised_still cause.Size

    start_still : (n : ℕ) (o : Option (List Token)) → StillPauses (start_next z n o)
    start_still n None = tt
    start_still n (Some shape) = tt

    print_still : (o : Option Token) → StillPauses (print_next z o)
    print_still None = tt
    print_still (Some token) = tt

    arg_still : (o : Option ℤ) → StillPauses (arg_next W z o)
    arg_still None = raised_still cause.Index
    arg_still (Some n) = e

    get_still : (v : Value) → StillPauses (get_next z v)
    get_still (Box box) = tt
    get_still _ = tt

    member_still : (member : FiberMember) (args : List Value) (f : Fib) → is_pausing f ≡ true → StillPauses (member_does Stands (λ g v. Goes (record z { fiber = g; frames = push_result v z.frames })) member args f)
    member_still Pc (Fiber ∷ []) (Fiber_at lo (Saved q x vs) de re pa) p = p
    member_still Down (Fiber ∷ []) (Fiber_at lo r [] re pa) p = p
    member_still Down (Fiber ∷ []) (Fiber_at lo r (d ∷ de) re pa) p = p
    member_still Up (Fiber ∷ []) (Fiber_at [] r de re pa) p = tt
    member_still Up (Fiber ∷ []) (Fiber_at (k ∷ lo) r de re pa) p = p
    member_still Save (v ∷ Fiber ∷ []) (Fiber_at lo (Saved q x vs) de re pa) p = p
    member_still Place (Int (pos n) ∷ y ∷ Fiber ∷ []) (Fiber_at lo (Saved q x vs) de re pa) p = p
    member_still Restore (Fiber ∷ []) (Fiber_at lo (Saved q x []) de re pa) p = tt
    member_still Restore (Fiber ∷ []) (Fiber_at lo (Saved q x (v ∷ vs)) de re pa) p = p
    member_still Receiver (Fiber ∷ []) (Fiber_at lo r [] re pa) p = tt
    member_still Receiver (Fiber ∷ []) (Fiber_at lo r (Saved q x vs ∷ de) re pa) p = p
    member_still _ _ _ p = tt

    rewound_still : (f : Fib) → is_pausing f ≡ true → is_pausing (rewound f) ≡ true
    rewound_still (Fiber_at lo r de re pa) p = p

    pausing_still : (f : Fib) → is_pausing (pausing Null f) ≡ true
    pausing_still (Fiber_at lo r de re pa) = refl

    yield_still : (again : Bool) → StillPauses (yield_next again z)
    yield_still true = rewound_still z.fiber e
    yield_still false = pausing_still z.fiber

    native_still : (n : Native) (args : List Value) → StillPauses (native_next set W z n args)
    native_still native.Execute (Ref n ∷ Fiber ∷ []) = e
    native_still native.Getnb (Box box ∷ []) = tt
    native_still native.ArgCount [] = e
    native_still native.Start (Ref n ∷ []) = start_still n (shape_of set.program z.heap n)
    native_still native.Put (Box box ∷ v ∷ []) = message_still box v
    native_still native.PutWait (v ∷ u ∷ Fiber ∷ []) = putw_still (is_rewinding z.fiber) v u
    native_still native.Bound (Box box ∷ Int i ∷ []) = bound_still box i
    native_still native.Get (v ∷ Fiber ∷ []) = spent_still true z.done (get_next z v) (get_still v)
    native_still native.Print (v ∷ []) = print_still (printed v)
    native_still native.Yield (Fiber ∷ []) = yield_still (is_rewinding z.fiber)
    native_still native.Arg (Int i ∷ []) = arg_still (arg_at set.limits.args i)
    native_still (native.OfFiber member) args = member_still member args z.fiber e
    native_still _ _ = tt

    asks_still : (n : Option Native) (args : List Value) → StillPauses (asks_next set W z args n)
    asks_still None args = tt
    asks_still (Some n) args = native_still n args

    begins_still : (o : Option (List Activation)) → StillPauses (begins_next z o)
    begins_still None = tt
    begins_still (Some []) = tt
    begins_still (Some (top ∷ below)) = e

    finish_still : (o : Option ℕ) → StillPauses (finish_next set W z o)
    finish_still None = elim (is_pausing z.fiber) as (λ (b : Bool). StillPauses (cond b (Rests (record z { frames = [] })) (Ends cause.Done))) [ true ↦ tt | false ↦ tt ]
    finish_still (Some n) = begins_still (begun_with W (execute_of W set.main) (Ref n ∷ Fiber ∷ []))

    opens_still : (counts : Bool) → StillPauses (opens_next t counts z)
    opens_still counts = by (nat_lt z.boxes box_limit)
      where
        by : (b : Bool) → StillPauses (cond b (Goes (ticked counts (record z { frames = push_value (Box (record { task = t; number = z.boxes })) z.frames; boxes = z.boxes + 1 }))) (Ends cause.Boxes))
        by true = ticked_still counts (record z { frames = push_value (Box (record { task = t; number = z.boxes })) z.frames; boxes = z.boxes + 1 }) e
        by false = tt

  by_still : (x : Standing) (counts : Bool) (top : Activation) (below : List Activation) (m : Move) → is_pausing x.fiber ≡ true → StillPauses (next_by set W t counts x top below m)
  by_still x counts top below (move.Runs change frames heap) e = ticked_still counts (stood x frames heap) e
  by_still x counts top below (move.Makes o frames heap) e = ticked_still counts _ e
  by_still x counts top below (move.Opens frames heap) e = opens_still (stood x frames heap) e counts
  by_still x counts top below (move.Asks id args frames heap) e = asks_still (stood x frames heap) e (native_of W id) args
  by_still x counts top below (move.Returns heap) e = finish_still (record x { heap = heap }) e x.kept
  by_still x counts top below (move.Raises why) e =
      raises_still (ticked counts x) why (λ c. thrown W c (Ref x.next) top below) (raised_class W (index_at W top) why) (ticked_pauses counts x e)
  by_still x counts top below (move.Throws object class why) e = thrown_still (ticked counts x) why (thrown W class (Ref object) top below) (ticked_pauses counts x e)
  by_still x counts top below (move.Ends why) e = tt
  by_still x counts top below move.Stuck e = tt

  found_still : (x : Standing) (top : Activation) (below : List Activation) (o : Option (Instr × ℕ × Bool)) → is_pausing x.fiber ≡ true → StillPauses (found_next set W t x top below o)
  found_still x top below None e = tt
  found_still x top below (Some found) e =
      let counts : Bool = found.2 && not (is_rewinding x.fiber) in
      spent_still counts x.done (next_by set W t counts x top below (moves W top below x.heap)) (by_still x counts top below (moves W top below x.heap) e)

  pub still_pauses : (marks : List (List Bool)) (x : Standing) (top : Activation) (below : List Activation) → x.frames ≡ top ∷ below → is_pausing x.fiber ≡ true → StillPauses (next_of set W marks t x)
  unfolding next_of
  still_pauses marks x top below e p = subst (λ (fs : List Activation). StillPauses (next_in set W marks t x fs)) (sym e) (found_still x top below (wfetch set W marks top.method top.place) p)

-- ---- and it wants nothing

abbrev pub WantsNothing : Next → Type 0
WantsNothing (Goes g) = Unit {0}
WantsNothing (Rests g) = Unit {0}
WantsNothing x = ⊥

module _ (set : Setting) (W : Program) (marks : List (List Bool)) where
  -- what is over doesn't come to rest
  over_rests : (n : ℕ) (o : Over) (g : Fib) (w : World) (ps : List ℕ) → wsteps set W marks n (WStop o) ≡ Resting g w ps → ⊥
  over_rests zero o g w ps e = cc
  over_rests (suc n) o g w ps e = over_rests n o g w ps e

  module _ (t : ℕ) (out : Outcome) (acts : List Act) (g : Fib) (w : World) (ps : List ℕ) (n : ℕ) (rests : wsteps set W marks n (out [] acts (0 ∷ [])) ≡ Resting g w ps) where
    stops : (o : Over) → out [] acts (0 ∷ []) ≡ WStop o → ⊥
    stops o e = over_rests n o g w ps (sym (ap (wsteps set W marks n) e) ∙ rests)

    pub nothing_by : (y : Next) → Does set t out y → WantsNothing y
    nothing_by (Goes y) d = tt
    nothing_by (Rests y) d = tt
    nothing_by (Puts box root shape y) d = let s = d.0 acts [] in stops _ s.1
    nothing_by (PutWaits box root shape paused y) d = let s = d.0 acts [] in stops _ s.1
    nothing_by (PutsAgain box root shape full paused y) d = let s = d.0 acts [] in stops _ s.1
    nothing_by (Bounds box most y) d = let s = d.0 acts [] in stops _ s.1
    nothing_by (Gets box paused y) d = let s = d.0 acts [] in stops _ s.1
    nothing_by (Probes box y) d = let s = d.0 acts [] in stops _ s.1
    nothing_by (Starts root shape y) d = let s = d.0 acts [] in stops _ s.1
    nothing_by (Prints token y) d = let s = d.0 acts [] in stops _ s.1
    nothing_by (Ends why) d = let s = d acts [] in stops _ s.1
    nothing_by Stands d = stops _ (d acts [])

  pub nothing_wanted : (t : ℕ) (x : Standing) (acts : List Act) (g : Fib) (w : World) (ps : List ℕ) (n : ℕ) → wsteps set W marks n (wstep set W marks (state_of t x [] acts (0 ∷ []))) ≡ Resting g w ps → WantsNothing (next_of set W marks t x)
  nothing_wanted t x acts g w ps n rests = nothing_by t (λ rest done pauses. wstep set W marks (state_of t x rest done pauses)) acts g w ps n rests (next_of set W marks t x) (machine_follows set W marks t x)

pub nothing_alike : (p : Program) (a b : Next) → NextLike p a b → WantsNothing a → WantsNothing b
nothing_alike p (Goes a) (Goes b) like e = tt
nothing_alike p (Rests a) (Rests b) like e = tt
nothing_alike p (Goes a) _ like e = absurd like
nothing_alike p (Rests a) _ like e = absurd like
nothing_alike p _ _ like e = absurd e

-- ---- along a course

unwinding : (y : Next) → WantsNothing y → StillPauses y → IsUnwinding y
unwinding (Goes g) nothing still = still
unwinding (Rests g) nothing still = tt
unwinding _ nothing still = absurd nothing

module _ (set : Setting) (W : Program) (marks : List (List Bool)) (served : CanServe set W marks) (t : ℕ) (c : Course) (f : Standing) (is : IsFiberOf set W marks t c f) where
  abbrev x : Standing
  x = is.holds.at

  abbrev like : Like x f
  like = is.holds.like

  abbrev w : World
  w = world_of t x [] (acts set W marks served t c x is.holds.reached)

  abbrev r : IsReached set W marks t c x
  r = is.holds.reached

  -- the machine comes there with no deed to come, and so comes to rest
  abbrev Here : List Deed → Type 0
  Here deeds = (ps : List ℕ) × (j : ℕ) × (wsteps set W marks j (first set W marks served t c x r deeds ps) ≡ state set W marks served t c x r)

  here : Here c.deeds
  here = subst Here (append_none c.deeds) (r.comes [] 0 [])

  comes_to_rest : ComesToRest set W marks most_uncounted (state set W marks served t c x r)
  comes_to_rest = subst (ComesToRest set W marks most_uncounted) here.2 ((along set W marks served t c x r here.0).pausing here.1)

  -- it isn't at rest yet
  first_step : (top : Activation) (below : List Activation) (n : ℕ) (g : Fib) → wsteps set W marks n (state_in (top ∷ below) x.fiber w (0 ∷ [])) ≡ Resting g w (0 ∷ []) → (m : ℕ) × (wsteps set W marks m (wstep set W marks (state_in (top ∷ below) x.fiber w (0 ∷ []))) ≡ Resting g w (0 ∷ []))
  first_step top below zero g e = absurd (cc)
  first_step top below (suc m) g e = (m, e)

  nothing_at : (fs : List Activation) → x.frames ≡ fs → (top : Activation) (below : List Activation) → FramesKin like.of fs (top ∷ below) → is_pausing x.fiber ≡ true → ComesToRest set W marks most_uncounted (state_in fs x.fiber w (0 ∷ [])) → WantsNothing (next_of set W marks t x)
  nothing_at [] same top below kin pauses comes = absurd kin
  nothing_at (mine ∷ fs) same top below kin pauses comes =
      let r = comes pauses in
      let s = first_step mine fs r.0 r.2 r.3 in
      nothing_wanted set W marks t x (acts set W marks served t c x is.holds.reached) r.2 w (0 ∷ []) s.0
      (subst (λ (z : List Activation). wsteps set W marks s.0 (wstep set W marks (state_in z x.fiber w (0 ∷ []))) ≡ Resting r.2 w (0 ∷ [])) (sym same) s.1)

  pub pauses_on : HasFree set W marks t f → (top : Activation) (below : List Activation) → f.frames ≡ top ∷ below → is_pausing f.fiber ≡ true → IsUnwinding (next_of set W marks t f)
  pauses_on free top below e pauses =
      let nothing = nothing_at x.frames refl top below (subst (FramesKin like.of x.frames) e like.is.frames) (pausing_same like.of x.fiber f.fiber like.is.fiber ∙ pauses) comes_to_rest in
      unwinding (next_of set W marks t f) (nothing_alike set.program (next_of set W marks t x) (next_of set W marks t f) (next_like set W marks served t c x is.holds.reached f like free) nothing)
      (still_pauses set W t marks f top below e pauses)

pub pausing_rests : PausingRests
pausing_rests set W marks served t c f is free top below e pauses = pauses_on set W marks served t c f is free top below e pauses
