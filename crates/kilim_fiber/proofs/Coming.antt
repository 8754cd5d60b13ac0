-- What a body comes to is what the thread of the course does next.
use Rattle.std.proofs.Common.{◌≡◌, inl, inr, ◌≤◌, ◌+◌, ℕ, arith, Bool, true, List, [], ◌∷◌, Option, Some, None, refl, sym, ap, subst, ◌∙◌}
use Rattle.kilim_program.specs.declared.names.BoxName.{BoxName}
use Rattle.kilim_program.specs.declared.names.MethodId.{MethodId}
use Rattle.kilim_program.specs.declared.value.Value.{Value}
use Rattle.kilim_program.specs.Program.{Program}
use Rattle.kilim_run_state.specs.declared.value.Token.{Token}
use Rattle.kilim_run_state.specs.Machine.{Objects, Activation}
use Rattle.kilim_run_machine.specs.Moves.{Move, moves}
use Rattle.kilim_run_machine.specs.Moves as move
use Rattle.kilim_run_machine.specs.Natives.{Native, native_of}
use Rattle.kilim_run_machine.specs.Natives as native
use Rattle.kilim_run_state.specs.Trees.{Root}
use Rattle.kilim_run_model.specs.Kept.{given}
use Rattle.kilim_run_model.specs.State.{Setting}
use Rattle.kilim_run_model.specs.Lone.{Lone, get_at}
use Rattle.kilim_run_model.specs.Course.{Course, IsLone, stands_at}
use Rattle.kilim_run_model.specs.declared.deed.Deed.{Deed}
use Rattle.kilim_run_board.specs.fibers.Wishes.{wish_of}
use Rattle.kilim_fiber_spec.specs.fiber_kin.Acts.{IsGiven}
use Rattle.kilim_fiber_spec.proofs.fiber_kin.Leaving.{can_leave, out_suits}
use Rattle.kilim_fiber_spec.specs.Fibers.{first_receiver}
use Rattle.kilim_fiber_laws.specs.woven_kin.Standing.{Standing}
use Rattle.kilim_fiber_laws.specs.woven_kin.Nexts.{Next, Goes, next_of}
use Rattle.kilim_fiber_laws.specs.woven_kin.Alike.{HasFree}
use Rattle.kilim_fiber_body.specs.Comes.{CanGive, Comes, HasRoomFor, gives_result}
use Rattle.kilim_fiber_body.specs.Reach.{GoesTo, AtFirst, Further, IsReadyOn, IsWanting, Reaches, named}
use Rattle.kilim_fiber_body.specs.Steps.{HasRoom, IsReadyAt, MoveFits, ReceiverThere}
use Rattle.kilim_fiber_body.specs.declared.body.Body.{Body}
use Rattle.kilim_fiber_body.specs.declared.body.Came.{Came}
use Rattle.kilim_fiber_body.specs.declared.body.Came.TheVariants as came
use Rattle.kilim_fiber_body.specs.declared.code.Code.{Code}
use Rattle.kilim_fiber_laws.specs.Fibers.{Holds, IsFiberOf}
use Rattle.kilim_fiber_laws.specs.Nexts.{Behind, CanReceive, NextIs}
use Rattle.kilim_fiber_laws.specs.Ready.{IsObject, ResultFits, may_give}
use Rattle.kilim_fiber_laws.specs.Ready as follows
use Rattle.kilim_fiber_laws.proofs.Following.{next_follows}
use Rattle.kilim_fiber_laws.proofs.Ready.{fibers_are_ready, rests_on_object}
use Rattle.kilim_fiber.specs.Calls.{asks_by}
use Rattle.kilim_fiber.specs.Fiber.{CameApart, CameNext, CameTo, IsApart, ServesCode}
use Rattle.kilim_fiber.proofs.Kept.{apart_is, apart_same}
use Rattle.kilim_fiber.proofs.Resting.{HasNone, IsFirstOf, goes_apart, next_has_none}
use Rattle.kilim_fiber_body.specs.Body.{aside_in, behind_at}
use Rattle.kilim_fiber_body.specs.declared.body.Apart as body
use Rattle.kilim_fiber_spec.specs.Acts.{Apart}
use Rattle.kilim_run_board.specs.fibers.Wishes.{IsMessage}
use Rattle.kilim_fiber_spec.specs.fiber_kin.Acts.{IsSound}
use Rattle.kilim_run_state.specs.Trees.{OfMessage}
use Rattle.kilim_run_trees.specs.Moved.{tree_heap}
use Rattle.kilim_run_state.specs.declared.value.Object.{Object}
use Rattle.kilim_fiber_laws.specs.woven_kin.Alike.{ApartKin}
use Rattle.kilim_fiber_laws.specs.woven_kin.Nexts.{taken_at, waiting_at}

-- ---- the next name is nowhere looked at

module _ (set : Setting) (W : Program) (marks : List (List Bool)) (t : ℕ) where
  pub holds_named : (c : Course) (x : ℕ) (f : Standing) → Holds set W marks t c f → Holds set W marks t c (named x f)
  holds_named c x f h =
      let is = h.like.is in
      record {
        at = h.at;
        reached = h.reached;
        like = record { of = h.like.of; is = record { frames = is.frames; fiber = is.fiber; heaps = is.heaps; done = is.done; boxes = is.boxes; kept = is.kept; aside = is.aside; below = is.below } };
      }

  pub fiber_named : (c : Course) (x : ℕ) (f : Standing) → IsFiberOf set W marks t c f → IsFiberOf set W marks t c (named x f)
  fiber_named c x f w = record { lone = w.lone; is = w.is; holds = holds_named c x f w.holds }

-- ---- nor is a tree that stands apart, but for its shape

one_apart : (ks : List Apart) (a b : Apart) → a.shape ≡ b.shape → ApartKin ks (a ∷ []) → ApartKin ks (b ∷ [])
one_apart [] a b e kin = absurd kin
one_apart (k ∷ ks) a b e kin = (kin.0 ∙ e, kin.1)

module _ (set : Setting) (W : Program) (marks : List (List Bool)) (t : ℕ) where
  holds_apart : (c : Course) (f : Standing) (a b : Apart) → a.shape ≡ b.shape → Holds set W marks t c (record f { aside = a ∷ [] }) → Holds set W marks t c (record f { aside = b ∷ [] })
  holds_apart c f a b e h =
      let is = h.like.is in
      record {
        at = h.at;
        reached = h.reached;
        like = record { of = h.like.of; is = record { frames = is.frames; fiber = is.fiber; heaps = is.heaps; done = is.done; boxes = is.boxes; kept = is.kept; aside = one_apart h.at.aside a b e is.aside; below = is.below } };
      }

message_sound : (p : Program) (tree : List Object) (shape : List Token) → IsMessage p tree shape → IsSound p OfMessage tree shape
message_sound p tree shape s = record { has = s.has; allowed = s.allowed; formed = s.formed; suits = s.suits }

-- ---- what is known where it goes on

-- a result, or a member of the fiber
may_by : (n : Option Native) → gives_result n ≡ true → may_give n ≡ true
may_by (Some native.Get) e = refl
may_by (Some native.Getnb) e = refl
may_by (Some native.ArgCount) e = refl
may_by (Some native.Arg) e = refl
may_by (Some (native.OfFiber member)) e = refl
may_by _ e = absurd (cc)

room_by : (W : Program) (fs : List Activation) → follows.HasRoom W fs → HasRoom W fs
room_by W [] e = e
room_by W (f ∷ fs) e = e

can_give : (p : Program) (root : Root) (h : Objects) (n : ℕ) → IsGiven p root h n → CanGive p h n
can_give p root h n g = record {
  there = g.there;
  leaves = λ room fits. can_leave p root h n g room fits;
  large = g.large;
  suits = λ room fits after tree out. out_suits p root h n g room fits after tree out;
}

fits_by : (p W : Program) (h : Objects) (v : Move) → ResultFits W v → ((id : MethodId) (args : List Value) (after : List Activation) (k : Objects) → v ≡ move.Asks id args after k → (root : Root) (m : ℕ) → given (native_of W id) args ≡ Some (root, m) → IsGiven p root h m) → MoveFits p W h v
fits_by p W h (move.Asks id args frames heap) r gives = (λ g. room_by W frames (r (may_by (native_of W id) g)), λ root n is. can_give p root h n (gives id args frames heap refl root n is))
fits_by p W h _ r gives = tt

object_there : (h : Objects) (v : Value) → IsObject h v → ReceiverThere h v
object_there h v w = subst (λ (z : Value). ReceiverThere h z) (sym w.2) (w.1, w.3)

module _ (set : Setting) (code : Code) (served : ServesCode set code) (t : ℕ) (c : Course) (last : Lone) (is : IsLone set t c last) where
  abbrev W : Program
  W = code.program

  abbrev marks : List (List Bool)
  marks = code.counted

  abbrev HoldsAs : Standing → Type 0
  HoldsAs f = Holds set W marks t c f

  abbrev fiber : (f : Standing) → HoldsAs f → IsFiberOf set W marks t c f
  fiber f h = record { lone = last; is = is; holds = h }

  -- what it does next
  next_is : (f : Standing) → HoldsAs f → HasFree set W marks t f → NextIs set W marks t c last (next_of set W marks t f)
  next_is f h free = next_follows set W marks served.can t c f (fiber f h) free

  further : (l m : Standing) (x y : ℕ) → HoldsAs l → HasFree set W marks t (named x l) → next_of set W marks t (named x l) ≡ Goes (named y m) → HoldsAs m
  further l m x y h free e = holds_named set W marks t c m.next (named y m) (subst (λ (z : Next). NextIs set W marks t c last z) e (next_is (named x l) (holds_named set W marks t c x l h) free))

  pub along : (first m : Standing) → HoldsAs first → GoesTo set W marks t first m → HoldsAs m
  along first m h (AtFirst e) = subst HoldsAs (sym e) h
  along first m h (Further l x y goes free next) = further l m x y (along first l h goes) free next

  ready_at : (m : Standing) → HoldsAs m → IsReadyAt set W marks t m
  ready_at m h = record {
    fine = λ top below e left. (fibers_are_ready set W marks served.can t c m (fiber m h) top below e).fine;
    fits = λ top below e left.
        let ready = fibers_are_ready set W marks served.can t c m (fiber m h) top below e in
        fits_by set.program W m.heap (moves W top below m.heap) ready.result ready.gives;
    rests = λ none. object_there m.heap (first_receiver m.fiber) (rests_on_object set W marks served.can t c m (fiber m h) none);
    never = λ free is-free e. subst (λ (z : Next). NextIs set W marks t c last z) e (next_is (named free m) (holds_named set W marks t c free m h) is-free);
  }

  pub ready_on : (first : Standing) → HoldsAs first → IsReadyOn set W marks t first
  ready_on first h = λ m goes. ready_at m (along first m h goes)

  -- ---- what it comes to

  behind_named : (d : Deed) (f : Standing) → Behind set W marks t c d f → Behind set W marks t c d (named 0 f)
  behind_named d f w = fiber_named set W marks t _ 0 f w

  receive_named : (box : BoxName) (f : Standing) → CanReceive set W marks t c box f → CanReceive set W marks t c box (named 0 f)
  receive_named box f w = λ n tree shape heap x sound put. fiber_named set W marks t _ 0 _ (w n tree shape heap x sound put)

  abbrev Is : Next → Type 0
  Is n = NextIs set W marks t c last n

  -- while it waits
  waiting : (new : Body) (box : BoxName) (shape : List Token) (tree : List Object) (as1 : List Apart) → as1 ≡ [] → Holds set W marks t c (record (waiting_at box (behind_at 0 new)) { aside = record { root = 0; shape = shape; heap = tree_heap tree } ∷ as1 }) →
      Holds set W marks t c (waiting_at box (behind_at 0 (record new { apart = Some (record { tree = tree; shape = shape }) })))
  waiting new box shape tree as1 none h = subst (λ (ks : List Apart). Holds set W marks t c (record (waiting_at box (behind_at 0 new)) { aside = record { root = 0; shape = shape; heap = tree_heap tree } ∷ ks })) none h

  -- what is put again is what stood apart
  again_sound : (old : Option body.Apart) (tree : List Object) (shape : List Token) → IsApart set.program old → IsFirstOf (aside_in old) shape (tree_heap tree) → IsSound set.program OfMessage tree shape
  again_sound old tree shape apart first = message_sound set.program tree shape (apart_is set.program old first.kept first.others tree shape first.are first.shape-is first.heap-is apart)

  comes_to : (y : ℕ) (new : Body) (n : Next) → Is n → (old : Option body.Apart) → IsApart set.program old → HasNone (aside_in old) n → (a : Came) → Comes y n new a → HasRoomFor W new a → IsWanting a ≡ true → CameNext W marks set t c last new a
  unfolding stands_at
  comes_to y new n w old apart has (came.PutWaits box tree shape) (inl e) room wants =
      let v = subst Is e.2 w in
      let out = v.2.1 new.heap tree e.1.out in (
        ap wish_of v.0.2,
        (
          λ other. waiting new box shape other (aside_in new.apart) v.4 (holds_named set W marks t c 0 _ (v.1 new.heap tree e.1.out 0 (tree_heap other))),
          λ k. behind_named _ _ (out.1 k),
          ap get_at v.0.2,
          let some = v.5 in omega (arith, some),
        ),
        out.0,
      )
  comes_to y new n w old apart has (came.PutWaits box tree shape) (inr e) room wants =
      let v = subst Is e w in (
        ap wish_of v.0.2,
        (
          λ other. holds_apart set W marks t c (waiting_at box (behind_at 0 new)) (record { root = 0; shape = shape; heap = tree_heap tree }) (record { root = 0; shape = shape; heap = tree_heap other }) refl (holds_named set W marks t c 0 _ v.1),
          λ k. behind_named _ _ (v.2 k),
          ap get_at v.0.2,
          let some = v.5 in omega (arith, some),
        ),
        again_sound old tree shape apart (subst (HasNone (aside_in old)) e has),
      )
  comes_to y new n w old apart has (came.Bounds box most) e room wants =
      let v = subst Is e w in
      (ap wish_of v.0.1, behind_named _ _ v.1)
  comes_to y new n w old apart has came.On e room wants = absurd (cc)
  comes_to y new n w old apart has (came.Puts box tree shape) e room wants =
      let v = subst Is e.2 w in
      let out = v.1.1 new.heap tree e.1.out in
      (ap wish_of v.0.2, λ k. behind_named _ _ (out.1 k), out.0)
  comes_to y new n w old apart has (came.Takes box) e room wants =
      let v = subst Is e w in
      let some = v.4 in
      (ap wish_of v.0.1, (holds_named set W marks t c 0 _ v.1, receive_named box _ v.2, ap get_at v.0.1, room, omega (arith, some)))
  comes_to y new n w old apart has (came.Probes box) e room wants =
      let v = subst Is e w in
      (ap wish_of v.0.1, (behind_named _ _ v.1, receive_named box _ v.2, room))
  comes_to y new n w old apart has (came.Starts tree shape) e room wants =
      let v = subst Is e.2 w in
      let out = v.1.1 new.heap tree e.1.out in
      (ap wish_of v.0.2, λ k. behind_named _ _ (out.1 k), out.0)
  comes_to y new n w old apart has (came.Prints shape) e room wants =
      let v = subst Is e.2 w in
      subst (λ (z : List Token). CameNext W marks set t c last new (came.Prints z)) (sym e.1) (ap wish_of v.0.1, behind_named _ _ v.1)
  comes_to y new n w old apart has came.Rests e room wants = holds_named set W marks t c 0 _ (subst Is e w)
  comes_to y new n w old apart has (came.Ends why) e room wants = subst Is e w

  -- what stands apart then is a message
  apart_to : (y : ℕ) (new : Body) (n : Next) → Is n → (old : Option body.Apart) → IsApart set.program old → HasNone (aside_in old) n → (a : Came) → Comes y n new a → IsWanting a ≡ true → CameApart set.program new a
  apart_to y new n w old apart has came.On e wants = absurd (cc)
  apart_to y new n w old apart has (came.Puts box tree shape) e wants = apart_same set.program new.apart old (subst (HasNone (aside_in old)) e.2 has) apart
  apart_to y new n w old apart has (came.PutWaits box tree shape) (inl e) wants = apart_same set.program new.apart old (subst (HasNone (aside_in old)) e.2 has) apart
  apart_to y new n w old apart has (came.PutWaits box tree shape) (inr e) wants = apart_same set.program new.apart None (subst Is e w).4 tt
  apart_to y new n w old apart has (came.Bounds box most) e wants = apart_same set.program new.apart old (subst (HasNone (aside_in old)) e has) apart
  apart_to y new n w old apart has (came.Takes box) e wants = apart_same set.program new.apart old (subst (HasNone (aside_in old)) e has) apart
  apart_to y new n w old apart has (came.Probes box) e wants = apart_same set.program new.apart old (subst (HasNone (aside_in old)) e has) apart
  apart_to y new n w old apart has (came.Starts tree shape) e wants = apart_same set.program new.apart old (subst (HasNone (aside_in old)) e.2 has) apart
  apart_to y new n w old apart has (came.Prints shape) e wants = apart_same set.program new.apart old (subst (HasNone (aside_in old)) e.2 has) apart
  apart_to y new n w old apart has came.Rests e wants = apart_same set.program new.apart old (subst (HasNone (aside_in old)) e has).0 apart
  apart_to y new n w old apart has (came.Ends why) e wants = tt

  -- where it asks something, an instruction is left for that
  few_by : (y : ℕ) (new : Body) (n : Next) → Is n → (a : Came) → Comes y n new a → IsWanting a ≡ true → asks_by a ≡ true → new.count + 1 ≤ set.limits.steps
  few_by y new n w (came.Puts box tree shape) e wants asks = (subst Is e.2 w).2
  few_by y new n w (came.PutWaits box tree shape) (inl e) wants asks = (subst Is e.2 w).3
  few_by y new n w (came.PutWaits box tree shape) (inr e) wants asks = (subst Is e w).3
  few_by y new n w (came.Bounds box most) e wants asks = (subst Is e w).2
  few_by y new n w (came.Takes box) e wants asks = (subst Is e w).3
  few_by y new n w (came.Probes box) e wants asks = (subst Is e w).3
  few_by y new n w (came.Starts tree shape) e wants asks = (subst Is e.2 w).2
  few_by y new n w (came.Prints shape) e wants asks = (subst Is e.2 w).2
  few_by y new n w came.On e wants asks = absurd (cc)
  few_by y new n w came.Rests e wants asks = absurd (cc)
  few_by y new n w (came.Ends why) e wants asks = absurd (cc)

  pub few_to : (first : Standing) → HoldsAs first → (new : Body) (a : Came) → Reaches set W marks t first new a → IsWanting a ≡ true → asks_by a ≡ true → new.count + 1 ≤ set.limits.steps
  few_to first h new a r wants asks =
      few_by r.after new (next_of set W marks t (named r.free r.mid)) (next_is (named r.free r.mid) (holds_named set W marks t c r.free r.mid (along first r.mid h r.goes)) r.is-free) a r.comes wants asks

  pub came_to : (first : Standing) → HoldsAs first → (old : Option body.Apart) → first.aside ≡ aside_in old → IsApart set.program old → (new : Body) (a : Came) → Reaches set W marks t first new a → HasRoomFor W new a → IsWanting a ≡ true → CameTo W marks set t c last new a
  came_to first h old is-old apart new a r room wants =
      let next = next_of set W marks t (named r.free r.mid) in
      let is-next : Is next = next_is (named r.free r.mid) (holds_named set W marks t c r.free r.mid (along first r.mid h r.goes)) r.is-free in
      let has : HasNone (aside_in old) next = subst (λ (ks : List Apart). HasNone ks next) (goes_apart set W marks t first r.mid r.goes ∙ is-old) (next_has_none set W t marks (named r.free r.mid)) in
      record { next = comes_to r.after new next is-next old apart has a r.comes room wants; apart = apart_to r.after new next is-next old apart has a r.comes wants }
