-- What a fiber does next is what the woven machine's does next.
use Rattle.std.proofs.Common.{◌≡◌, ℕ, ◌+◌, ℤ, pos, Bool, true, false, cond, not, List, ◌∷◌, map, Option, Some, None, refl, sym, ap, subst, ◌∙◌, [], zero, suc, negsuc}
use Rattle.kilim_fiber_spec.specs.Acts.{Apart}
use Rattle.std.specs.Prelude.{nat_lt, nat_le, ◌&&◌}
use Rattle.std.specs.FinMap.{get, insert}
use Rattle.kilim_program.specs.Program.{Program}
use Rattle.kilim_program.specs.declared.class.Method.{Method}
use Rattle.kilim_program.specs.declared.instr.Instr.{Instr}
use Rattle.kilim_program.specs.declared.names.BoxName.{BoxName}
use Rattle.kilim_program.specs.declared.names.MethodId.{MethodId}
use Rattle.kilim_program.specs.declared.ty.Ty.{Ty}
use Rattle.kilim_program.specs.declared.value.Value.{Value}
use Rattle.kilim_program.specs.declared.value.Value.TheVariants.{Int, Long, Null, Ref, Text, Box, Fiber}
use Rattle.kilim_program.specs.Names.{◌>>=◌, method_at}
use Rattle.kilim_run_state.specs.declared.cause.EndCause.{EndCause}
use Rattle.kilim_run_state.specs.declared.cause.EndCause.TheVariants as cause
use Rattle.kilim_run_state.specs.declared.value.Object.{Object}
use Rattle.kilim_run_state.specs.declared.value.Token.{Token}
use Rattle.kilim_run_state.specs.Machine.{Objects, Activation}
use Rattle.kilim_program.specs.Members.{execute_of}
use Rattle.kilim_run_machine.specs.Moves.{Move, moves, entered, push_value, push_result}
use Rattle.kilim_run_machine.specs.Moves as move
use Rattle.kilim_run_machine.specs.Natives.{Native, FiberMember, Pc, Down, Up, Save, Place, Restore, Receiver, native_of}
use Rattle.kilim_run_machine.specs.Natives as native
use Rattle.kilim_run_state.specs.Shapes.{shape_of}
use Rattle.kilim_run_state.specs.Trees.{Root, OfMessage, OfTask}
use Rattle.kilim_run_model.specs.State.{Setting, class_of}
use Rattle.kilim_run_model.specs.Lone.{box_limit, printed, arg_at}
use Rattle.kilim_run_model.specs.Kept.{given}
use Rattle.kilim_run_model.specs.kin.Kin.{Names, IsKin, AreKin, FramesKin, MaybeKin, NameKin, ObjectsKin, Alike, AreHeld, IsThere, StandsIn, MoveKin}
use Rattle.kilim_run_model.proofs.kin.Kins.{kin_entered, kin_push, kin_result, frames_up, name_up}
use Rattle.kilim_run_model.proofs.kin.Renamed.{renamed, number_of, are_is}
use Rattle.kilim_run_model.proofs.kin.Rows.{new_kin, rows_kin}
use Rattle.kilim_run_model.proofs.kin.Thrown.{index_same, thrown_kin, unwound_kin}
use Rattle.kilim_run_state.specs.Objects.{new_object}
use Rattle.kilim_run_machine.specs.Raising.{index_at, other_index, raised_class, thrown, unwound}
use Rattle.kilim_program.specs.declared.names.ClassId.{ClassId}
use Rattle.kilim_run_model.proofs.kin.Moving.{moves_kin}
use Rattle.kilim_run_model.specs.kin.trees.TreeKin.{IsWholeTree}
use Rattle.kilim_run_model.proofs.kin.trees.Shaped.{shape_kin}
use Rattle.kilim_run_model.proofs.one_heap.Nexts.{printed_same}
use Rattle.kilim_fiber_spec.specs.fiber_kin.Mine.{all_mine}
use Rattle.kilim_fiber_spec.proofs.fiber_kin.Added.{added, added_new, added_old, added_bound, alike_made}
use Rattle.kilim_fiber_spec.proofs.fiber_kin.Nexts.{again}
use Rattle.kilim_fiber_spec.specs.Fibers.{Fib, Fiber_at, Rec, Saved, executes_on, first_receiver, is_pausing, is_rewinding, member_does, one_if, pausing, place_while, raised, rewound, wfetch}
use Rattle.kilim_fiber_laws.specs.woven_kin.Standing.{Standing}
use Rattle.kilim_fiber_laws.specs.woven_kin.Nexts.{raised as table_raised, raises, thrown_to, with_new, Next, Goes, Gets, Rests, Ends, Stands, counted, ticked, with_result, put_next, message_next, start_next, print_next, arg_next, paused_at, taken_at, get_next, yield_next, native_next, asks_next, opens_next, begun_in, begun_with, begins_next, finish_next, stood, next_by, spent_or, found_next, resumes_next, next_in, next_of, put_wait_next, wait_next, bound_next, PutsAgain, first_wait, putw_next, wait_again, waiting_at}
use Rattle.kilim_fiber_laws.specs.woven_kin.Alike.{RecordKin, RecordsKin, FibersKin, IsLike, Like, NextLike, GivesWhole, IsWholeAt, IsWhole, HasFree, TakesName, spends, ApartKin}
use Rattle.kilim_fiber_laws.proofs.woven_kin.Records.{fibers_up, rewinding_same, pausing_same, rewound_kin, pausing_kin, resumed_kin, receiver_kin}

-- ---- the frames with which a method begins

abbrev MaybeFrames : Names → Option (List Activation) → Option (List Activation) → Type 0
MaybeFrames of None None = Unit {0}
MaybeFrames of (Some fs) (Some gs) = FramesKin of fs gs
MaybeFrames of fs gs = ⊥

pub begun_kin : (W : Program) (of : Names) (vs ws : List Value) → AreKin of vs ws → (m : Option MethodId) → MaybeFrames of (begun_with W m vs) (begun_with W m ws)
begun_kin W of vs ws e None = tt
begun_kin W of vs ws e (Some m) = elim (method_at W m) as (λ (z : Option Method). MaybeFrames of (begun_in W m vs z) (begun_in W m ws z)) [
  | None ↦ tt
  | Some method ↦ elim method.built_in as (λ (b : Bool). FramesKin of (cond b [] (entered W m vs ∷ [])) (cond b [] (entered W m ws ∷ []))) [
    | true ↦ tt
    | false ↦ kin_entered of W m vs ws [] [] e tt
  ]
]

module _ (set : Setting) (W : Program) (of : Names) (t : ℕ) (a b : Standing) (kin : IsLike of a b) where
  abbrev p : Program
  p = set.program

  abbrev Fits : Next → Next → Type 0
  Fits x y = NextLike p x y

  -- ---- the two at other frames, with other records, or counts, with the same heaps

  like_at : (fs gs : List Activation) (f g : Fib) (done boxes : ℕ) → FramesKin of fs gs → FibersKin of f g → IsLike of (record a { frames = fs; fiber = f; done = done; boxes = boxes }) (record b { frames = gs; fiber = g; done = done; boxes = boxes })
  like_at fs gs f g done boxes e d = record { frames = e; fiber = d; heaps = kin.heaps; done = refl; boxes = refl; kept = kin.kept; aside = kin.aside; below = kin.below }

  like_of : (x y : Standing) → IsLike of x y → Like x y
  like_of x y e = record { of = of; is = e }

  over_kin : (c : EndCause) → Fits (Ends c) (Ends c)
  over_kin c = refl

  -- an instruction counts in both or in neither
  ticked_like : (counts : Bool) (x y : Standing) → Like x y → Like (ticked counts x) (ticked counts y)
  ticked_like false x y e = e
  ticked_like true x y e =
      let i = e.is in
      record { of = e.of; is = record { frames = i.frames; fiber = i.fiber; heaps = i.heaps; done = ap (λ (n : ℕ). n + 1) i.done; boxes = i.boxes; kept = i.kept; aside = i.aside; below = i.below } }

  -- ---- moves that go on

  runs_kin : (counts : Bool) (h k : Objects) (fs gs : List Activation) → FramesKin of fs gs → Alike of all_mine 0 b.heap h k → Fits (Goes (ticked counts (stood a fs h))) (Goes (ticked counts (stood b gs k)))
  runs_kin counts h k fs gs e alike = ticked_like counts (stood a fs h) (stood b gs k) (record {
    of = of;
    is = record { frames = e; fiber = kin.fiber; heaps = again of b.heap h k alike; done = kin.done; boxes = kin.boxes; kept = kin.kept; aside = kin.aside; below = kin.below };
  })

  -- one that makes an object, at a place that was free
  makes_kin : (counts : Bool) (o q : Object) (fs gs : List Activation) → get b.heap b.next ≡ None → ObjectsKin of o q → FramesKin of fs gs →
      Fits (Goes (ticked counts (record a { frames = push_value (Ref a.next) fs; heap = insert a.heap a.next o; next = a.next + 1 }))) (Goes (ticked counts (record b { frames = push_value (Ref b.next) gs; heap = insert b.heap b.next q; next = b.next + 1 })))
  makes_kin counts o q fs gs free objects frames =
      let more : Names = added of a.next b.next in
      let up = added_old of a.next b.next kin.below in
      ticked_like counts _ _ (record {
        of = more;
        is = record {
          frames = kin_push more (Ref a.next) (Ref b.next) fs gs (added_new of a.next b.next) (frames_up of more up fs gs frames);
          fiber = fibers_up of more up a.fiber b.fiber kin.fiber;
          heaps = alike_made of a.next b.next kin.below a.heap b.heap kin.heaps free o q objects;
          done = kin.done;
          boxes = kin.boxes;
          kept = name_up of more up a.kept b.kept kin.kept;
          aside = kin.aside;
          below = added_bound of a.next b.next kin.below;
        };
      })

  -- the number of a mailbox is the same
  opened_kin : (counts : Bool) (fs gs : List Activation) (boxes : ℕ) → FramesKin of fs gs → Like (ticked counts (record a { frames = push_value (Box (record { task = t; number = boxes })) fs; boxes = boxes + 1 })) (ticked counts (record b { frames = push_value (Box (record { task = t; number = boxes })) gs; boxes = boxes + 1 }))
  opened_kin counts fs gs boxes frames =
      let box : Value = Box (record { task = t; number = boxes }) in
      ticked_like counts _ _ (record {
        of = of;
        is = record { frames = kin_push of box box fs gs refl frames; fiber = kin.fiber; heaps = kin.heaps; done = kin.done; boxes = refl; kept = kin.kept; aside = kin.aside; below = kin.below };
      })

  opens_with : (counts : Bool) (fs gs : List Activation) (boxes : ℕ) → FramesKin of fs gs → Fits (opens_next t counts (record a { frames = fs; boxes = boxes })) (opens_next t counts (record b { frames = gs; boxes = boxes }))
  opens_with counts fs gs boxes frames =
      elim (nat_lt boxes box_limit) as (λ (c : Bool). Fits (cond c (Goes (ticked counts (record a { frames = push_value (Box (record { task = t; number = boxes })) fs; boxes = boxes + 1 }))) (Ends cause.Boxes))
      (cond c (Goes (ticked counts (record b { frames = push_value (Box (record { task = t; number = boxes })) gs; boxes = boxes + 1 }))) (Ends cause.Boxes))) [
        | true ↦ opened_kin counts fs gs boxes frames
        | false ↦ refl
      ]

  opens_kin : (counts : Bool) (fs gs : List Activation) → FramesKin of fs gs → Fits (opens_next t counts (record a { frames = fs })) (opens_next t counts (record b { frames = gs }))
  opens_kin counts fs gs frames = subst (λ (n : ℕ). Fits (opens_next t counts (record a { frames = fs })) (opens_next t counts (record b { frames = gs; boxes = n }))) kin.boxes (opens_with counts fs gs a.boxes frames)

  -- ---- the last frame returns

  begins_kin : (f g : Option (List Activation)) → MaybeFrames of f g → Fits (begins_next a f) (begins_next b g)
  begins_kin None None e = tt
  begins_kin (Some []) (Some []) e = refl
  begins_kin (Some (f ∷ fs)) (Some (g ∷ gs)) e = record { of = of; is = record { frames = e; fiber = kin.fiber; heaps = kin.heaps; done = ap (λ (n : ℕ). n + 1) kin.done; boxes = kin.boxes; kept = tt; aside = kin.aside; below = kin.below } }
  begins_kin _ _ e = absurd e

  rests_kin : (pauses : Bool) → Fits (cond pauses (Rests (record a { frames = [] })) (Ends cause.Done)) (cond pauses (Rests (record b { frames = [] })) (Ends cause.Done))
  rests_kin true = record { of = of; is = record { frames = tt; fiber = kin.fiber; heaps = kin.heaps; done = kin.done; boxes = kin.boxes; kept = kin.kept; aside = kin.aside; below = kin.below } }
  rests_kin false = refl

  finish_kin : (n y : Option ℕ) → NameKin of n y → Fits (finish_next set W a n) (finish_next set W b y)
  finish_kin None None e =
      subst (λ (z : Bool). Fits (cond (is_pausing a.fiber) (Rests (record a { frames = [] })) (Ends cause.Done)) (cond z (Rests (record b { frames = [] })) (Ends cause.Done))) (pausing_same of a.fiber b.fiber kin.fiber) (rests_kin (is_pausing a.fiber))
  finish_kin (Some n) (Some y) e = begins_kin (begun_with W (execute_of W set.main) (Ref n ∷ Fiber ∷ [])) (begun_with W (execute_of W set.main) (Ref y ∷ Fiber ∷ [])) (begun_kin W of (Ref n ∷ Fiber ∷ []) (Ref y ∷ Fiber ∷ []) (e, (tt, tt)) (execute_of W set.main))
  finish_kin _ _ e = absurd e

  -- ---- it goes on from a rest

  resumes_by : (m : MethodId) → Fits (resumes_next W a (Some m)) (resumes_next W b (Some m))
  resumes_by m =
      let r = receiver_kin of a.fiber b.fiber kin.fiber in
      record {
        of = of;
        is = record {
          frames = kin_entered of W m (first_receiver a.fiber ∷ Fiber ∷ []) (first_receiver b.fiber ∷ Fiber ∷ []) [] [] (r, (tt, tt)) tt;
          fiber = resumed_kin of a.fiber b.fiber kin.fiber;
          heaps = kin.heaps;
          done = kin.done;
          boxes = kin.boxes;
          kept = kin.kept;
          aside = kin.aside;
          below = kin.below;
        };
      }

  abbrev executes : Option Object → Option MethodId
  executes o = o >>= λ (object : Object). class_of object.class.base >>= λ c. execute_of W c

  -- the same class, the same method
  same_execute : (o q : Object) → o.class ≡ q.class → executes (Some o) ≡ executes (Some q)
  same_execute o q e = ap (λ (ty : Ty). class_of ty.base >>= λ c. execute_of W c) e

  resumes_at : (n x : ℕ) → of n ≡ Some x → (o : Option Object) → get a.heap n ≡ o → Fits (resumes_next W a (executes o)) (resumes_next W b (executes (get b.heap x)))
  resumes_at n x named None e = tt
  resumes_at n x named (Some o) e =
      let s = kin.heaps.same n o e in
      let at : get b.heap x ≡ Some s.1 = ap (λ (z : Option ℕ). get b.heap (number_of z)) (sym named ∙ s.2) ∙ s.3 in
      subst (λ (z : Option Object). Fits (resumes_next W a (executes (Some o))) (resumes_next W b (executes z))) (sym at)
      (subst (λ (z : Option MethodId). Fits (resumes_next W a (executes (Some o))) (resumes_next W b z)) (same_execute o s.1 s.4.class) (resumes_all (executes (Some o))))
    where
      resumes_all : (m : Option MethodId) → Fits (resumes_next W a m) (resumes_next W b m)
      resumes_all None = tt
      resumes_all (Some m) = resumes_by m

  resumes_from : (v w : Value) → IsKin of v w → Fits (resumes_next W a (executes_on W a.heap v)) (resumes_next W b (executes_on W b.heap w))
  resumes_from (Ref n) (Ref x) e = resumes_at n x e (get a.heap n) refl
  resumes_from (Int c) w e = tt
  resumes_from (Long c) w e = tt
  resumes_from Null w e = tt
  resumes_from (Text c) w e = tt
  resumes_from (Box c) w e = tt
  resumes_from Fiber w e = tt
  resumes_from (Ref n) _ e = absurd e

  -- a task that has done its instructions is spent, in both
  spent_with : (spent : Bool) (x y : Next) → (spent ≡ false → Fits x y) → Fits (cond spent (Ends cause.Spent) x) (cond spent (Ends cause.Spent) y)
  spent_with true x y e = refl
  spent_with false x y e = e refl

  spent_kin : (counts : Bool) (x y : Next) → (counts && nat_le set.limits.steps a.done ≡ false → Fits x y) → Fits (spent_or set counts a.done x) (spent_or set counts b.done y)
  spent_kin counts x y e = subst (λ (n : ℕ). Fits (spent_or set counts a.done x) (spent_or set counts n y)) kin.done (spent_with (counts && nat_le set.limits.steps a.done) x y e)

  -- its next name is free where it takes it
  abbrev Free : Next → Type 0
  Free y = TakesName b.next y → get b.heap b.next ≡ None

  free_spent : (counts : Bool) (y : Next) → Free (spent_or set counts b.done y) → counts && nat_le set.limits.steps a.done ≡ false → Free y
  free_spent counts y free left takes =
      free (subst (λ (n : ℕ). TakesName b.next (spent_or set counts n y)) kin.done (subst (λ (z : Bool). TakesName b.next (cond z (Ends cause.Spent) y)) (sym left) takes))

  -- ---- exceptions

  abbrev more : Names
  more = added of a.next b.next

  more_frames : (fs gs : List Activation) → FramesKin of fs gs → FramesKin more fs gs
  more_frames fs gs e = frames_up of more (added_old of a.next b.next kin.below) fs gs e

  made_like : (c : ClassId) (us ws : List Activation) → FramesKin more us ws → get b.heap b.next ≡ None → Like (record (with_new a (new_object W c)) { frames = us }) (record (with_new b (new_object W c)) { frames = ws })
  made_like c us ws frames free =
      let up = added_old of a.next b.next kin.below in
      record {
        of = more;
        is = record {
          frames = frames;
          fiber = fibers_up of more up a.fiber b.fiber kin.fiber;
          heaps = alike_made of a.next b.next kin.below a.heap b.heap kin.heaps free (new_object W c) (new_object W c) (new_kin W of c);
          done = kin.done;
          boxes = kin.boxes;
          kept = name_up of more up a.kept b.kept kin.kept;
          aside = kin.aside;
          below = added_bound of a.next b.next kin.below;
        };
      }

  caught_kin : (counts : Bool) (c : ClassId) (why : EndCause) (us ws : List Activation) → FramesKin more us ws → Free (thrown_to (with_new (ticked counts b) (new_object W c)) why ws) →
      Fits (thrown_to (with_new (ticked counts a) (new_object W c)) why us) (thrown_to (with_new (ticked counts b) (new_object W c)) why ws)
  caught_kin counts c why [] [] e free = refl
  caught_kin true c why (u ∷ us) (w ∷ ws) e free = ticked_like true (record (with_new a (new_object W c)) { frames = u ∷ us }) (record (with_new b (new_object W c)) { frames = w ∷ ws }) (made_like c (u ∷ us) (w ∷ ws) e (free refl))
  caught_kin false c why (u ∷ us) (w ∷ ws) e free = made_like c (u ∷ us) (w ∷ ws) e (free refl)
  caught_kin counts c why [] (w ∷ ws) e free = absurd e
  caught_kin counts c why (u ∷ us) [] e free = absurd e

  raises_kin : (counts : Bool) (why : EndCause) (left right : ClassId → List Activation) → ((c : ClassId) → FramesKin more (left c) (right c)) → (o : Option ClassId) → Free (raises W (ticked counts b) why right o) →
      Fits (raises W (ticked counts a) why left o) (raises W (ticked counts b) why right o)
  raises_kin counts why left right each None free = refl
  raises_kin counts why left right each (Some c) free = caught_kin counts c why (left c) (right c) (each c) free

  throws_kin : (counts : Bool) (why : EndCause) (us ws : List Activation) → FramesKin of us ws → Fits (thrown_to (ticked counts a) why us) (thrown_to (ticked counts b) why ws)
  throws_kin counts why [] [] e = refl
  throws_kin counts why (u ∷ us) (w ∷ ws) e = by counts
    where
      by : (z : Bool) → Like (record (ticked z a) { frames = u ∷ us }) (record (ticked z b) { frames = w ∷ ws })
      by true = ticked_like true (record a { frames = u ∷ us }) (record b { frames = w ∷ ws }) (record { of = of; is = record { frames = e; fiber = kin.fiber; heaps = kin.heaps; done = kin.done; boxes = kin.boxes; kept = kin.kept; aside = kin.aside; below = kin.below } })
      by false = record { of = of; is = record { frames = e; fiber = kin.fiber; heaps = kin.heaps; done = kin.done; boxes = kin.boxes; kept = kin.kept; aside = kin.aside; below = kin.below } }
  throws_kin counts why [] (w ∷ ws) e = absurd e
  throws_kin counts why (u ∷ us) [] e = absurd e

  -- ---- built-in methods

  module _ (fs gs : List Activation) (frames : FramesKin of fs gs) where
    abbrev c : Standing
    c = stood a fs a.heap

    abbrev d : Standing
    d = stood b gs b.heap

    abbrev AlsoFits : Next → Next → Type 0
    AlsoFits x y = NextLike p x y

    both : IsLike of c d
    both = record { frames = frames; fiber = kin.fiber; heaps = kin.heaps; done = kin.done; boxes = kin.boxes; kept = kin.kept; aside = kin.aside; below = kin.below }

    counts_both : IsLike of (counted c) (counted d)
    counts_both = record { frames = frames; fiber = kin.fiber; heaps = kin.heaps; done = ap (λ (n : ℕ). n + 1) kin.done; boxes = kin.boxes; kept = kin.kept; aside = kin.aside; below = kin.below }

    onward : Like (counted c) (counted d)
    onward = record { of = of; is = counts_both }

    onward_with : (v w : Value) → IsKin of v w → Like (with_result (Some v) (counted c)) (with_result (Some w) (counted d))
    onward_with v w e = record { of = of; is = record { frames = kin_push of v w fs gs e frames; fiber = kin.fiber; heaps = kin.heaps; done = ap (λ (n : ℕ). n + 1) kin.done; boxes = kin.boxes; kept = kin.kept; aside = kin.aside; below = kin.below } }

    -- other records, and a result
    also_kin : (f g : Fib) (v w : Option Value) → FibersKin of f g → MaybeKin of v w → Like (record c { fiber = f; frames = push_result v fs }) (record d { fiber = g; frames = push_result w gs })
    also_kin f g v w e k = record { of = of; is = record { frames = kin_result of v w fs gs k frames; fiber = e; heaps = kin.heaps; done = kin.done; boxes = kin.boxes; kept = kin.kept; aside = kin.aside; below = kin.below } }

    raised_kin : (why : EndCause) → Free (table_raised W d why) → AlsoFits (table_raised W c why) (table_raised W d why)
    raised_kin why free =
        raises_kin true why (λ k. unwound W k (Ref a.next) fs) (λ k. unwound W k (Ref b.next) gs)
        (λ k. unwound_kin W k more (Ref a.next) (Ref b.next) (added_new of a.next b.next) fs gs (more_frames fs gs frames)) (raised_class W other_index why) free

    put_kin : (box : BoxName) (n x : ℕ) → of n ≡ Some x → IsWholeTree p OfMessage a.heap n → (s : Option (List Token)) → shape_of p a.heap n ≡ s → AlsoFits (put_next c box n s) (put_next d box x s)
    put_kin box n x e whole None is = refl
    put_kin box n x e whole (Some shape) is = (refl, refl, record { of = of; is = counts_both; named = e; whole = whole; has = is })

    -- its next state, where it pauses or goes on
    waiting_both : (box : BoxName) → IsLike of (waiting_at box c) (waiting_at box d)
    waiting_both box = record { frames = frames; fiber = pausing_kin of (Box box) (Box box) refl a.fiber b.fiber kin.fiber; heaps = kin.heaps; done = kin.done; boxes = kin.boxes; kept = kin.kept; aside = kin.aside; below = kin.below }

    taken_with : (ks ms : List Apart) → ApartKin ks ms → IsLike of (taken_at (record c { aside = ks })) (taken_at (record d { aside = ms }))
    taken_with ks ms e = record { frames = frames; fiber = rewound_kin of a.fiber b.fiber kin.fiber; heaps = kin.heaps; done = ap (λ (n : ℕ). n + 1) kin.done; boxes = kin.boxes; kept = kin.kept; aside = e; below = kin.below }

    put_wait_kin : (box : BoxName) (n x : ℕ) → of n ≡ Some x → IsWholeTree p OfMessage a.heap n → (s : Option (List Token)) → shape_of p a.heap n ≡ s → AlsoFits (put_wait_next p c box n s) (put_wait_next p d box x s)
    put_wait_kin box n x e whole None is = refl
    put_wait_kin box n x e whole (Some shape) is = (
      refl,
      refl,
      record { of = of; is = waiting_both box; named = e; whole = whole; has = is },
      record { of = of; is = taken_with a.aside b.aside kin.aside; named = e; whole = whole; has = is },
    )

    start_kin : (n x : ℕ) → of n ≡ Some x → IsWholeTree p OfTask a.heap n → (s : Option (List Token)) → shape_of p a.heap n ≡ s → AlsoFits (start_next c n s) (start_next d x s)
    start_kin n x e whole None is = refl
    start_kin n x e whole (Some shape) is = (refl, record { of = of; is = counts_both; named = e; whole = whole; has = is })

    -- a tree has one shape
    same_shape : (root : Root) (n x : ℕ) → of n ≡ Some x → IsWholeTree p root a.heap n → shape_of p a.heap n ≡ shape_of p b.heap x
    same_shape root n x e whole = shape_kin p of all_mine 0 b.heap a.heap b.heap kin.heaps n x e whole.intact

    message_kin : (box : BoxName) (v : Value) → IsKin of v (renamed of v) → ((root : Root) (n : ℕ) → given (Some native.Put) (Box box ∷ v ∷ []) ≡ Some (root, n) → IsWholeTree p root a.heap n) →
        Free (message_next p W d box (renamed of v)) → AlsoFits (message_next p W c box v) (message_next p W d box (renamed of v))
    message_kin box Null e whole free = raised_kin cause.Null free
    message_kin box (Ref n) e whole free =
        let tree = whole OfMessage n refl in
        subst (λ (z : Option (List Token)). AlsoFits (put_next c box n (shape_of p a.heap n)) (put_next d box (number_of (of n)) z)) (same_shape OfMessage n (number_of (of n)) e tree)
        (put_kin box n (number_of (of n)) e tree (shape_of p a.heap n) refl)
    message_kin box _ e whole free = tt

    wait_kin : (box : BoxName) (v : Value) → IsKin of v (renamed of v) → ((root : Root) (n : ℕ) → given (Some native.PutWait) (Box box ∷ v ∷ Fiber ∷ []) ≡ Some (root, n) → IsWholeTree p root a.heap n) →
        Free (wait_next p W d box (renamed of v)) → AlsoFits (wait_next p W c box v) (wait_next p W d box (renamed of v))
    wait_kin box Null e whole free = raised_kin cause.Null free
    wait_kin box (Ref n) e whole free =
        let tree = whole OfMessage n refl in
        subst (λ (z : Option (List Token)). AlsoFits (put_wait_next p c box n (shape_of p a.heap n)) (put_wait_next p d box (number_of (of n)) z)) (same_shape OfMessage n (number_of (of n)) e tree)
        (put_wait_kin box n (number_of (of n)) e tree (shape_of p a.heap n) refl)
    wait_kin box _ e whole free = tt

    first_kin : (v u : Value) → IsKin of u (renamed of u) → ((root : Root) (n : ℕ) → given (Some native.PutWait) (v ∷ u ∷ Fiber ∷ []) ≡ Some (root, n) → IsWholeTree p root a.heap n) → Free (first_wait p W d (renamed of v) (renamed of u)) → AlsoFits (first_wait p W c v u) (first_wait p W d (renamed of v) (renamed of u))
    first_kin (Box box) u e whole free = wait_kin box u e whole free
    first_kin v u e whole free = tt

    -- made again: what stands apart has the same shapes
    again_kin : (v : Value) (ks ms : List Apart) → ApartKin ks ms → AlsoFits (wait_again set c v ks) (wait_again set d (renamed of v) ms)
    again_kin (Box box) (k ∷ ks) (m ∷ ms) e =
        spent_kin true (PutsAgain box k.root k.shape (taken_at (record c { heap = k.heap; aside = ks })) (waiting_at box c) (taken_at (record c { aside = ks }))) (PutsAgain box m.root m.shape (taken_at (record d { heap = m.heap; aside = ms })) (waiting_at box d) (taken_at (record d { aside = ms })))
        (λ left. (refl, e.0, ap (λ (n : ℕ). n + 1) kin.done, refl, record { of = of; is = waiting_both box }, record { of = of; is = taken_with ks ms e.1 }))
    again_kin (Box box) [] [] e = tt
    again_kin (Box box) [] (m ∷ ms) e = absurd e
    again_kin (Box box) (k ∷ ks) [] e = absurd e
    again_kin v ks ms e = tt

    putw_kin : (z : Bool) (v u : Value) → IsKin of u (renamed of u) → ((root : Root) (n : ℕ) → given (Some native.PutWait) (v ∷ u ∷ Fiber ∷ []) ≡ Some (root, n) → IsWholeTree p root a.heap n) → Free (putw_next set W z d (renamed of v) (renamed of u)) → AlsoFits (putw_next set W z c v u) (putw_next set W z d (renamed of v) (renamed of u))
    putw_kin true v u e whole free = again_kin v a.aside b.aside kin.aside
    putw_kin false v u e whole free =
        spent_kin true (first_wait p W c v u) (first_wait p W d (renamed of v) (renamed of u)) (λ left. first_kin v u e whole (free_spent true (first_wait p W d (renamed of v) (renamed of u)) free left))

    waits_kin : (v u : Value) → IsKin of u (renamed of u) → ((root : Root) (n : ℕ) → given (Some native.PutWait) (v ∷ u ∷ Fiber ∷ []) ≡ Some (root, n) → IsWholeTree p root a.heap n) →
        Free (putw_next set W (is_rewinding b.fiber) d (renamed of v) (renamed of u)) → AlsoFits (putw_next set W (is_rewinding a.fiber) c v u) (putw_next set W (is_rewinding b.fiber) d (renamed of v) (renamed of u))
    waits_kin v u e whole =
        subst (λ (z : Bool). Free (putw_next set W z d (renamed of v) (renamed of u)) → AlsoFits (putw_next set W (is_rewinding a.fiber) c v u) (putw_next set W z d (renamed of v) (renamed of u))) (rewinding_same of a.fiber b.fiber kin.fiber)
        (putw_kin (is_rewinding a.fiber) v u e whole)

    bound_kin : (box : BoxName) (i : ℤ) → Free (bound_next W d box i) → AlsoFits (bound_next W c box i) (bound_next W d box i)
    bound_kin box (pos (suc n)) free = (refl, refl, onward)
    bound_kin box (pos zero) free = raised_kin cause.Size free
    bound_kin box (negsuc n) free = raised_kin cause.Size free

    start_of_kin : (n : ℕ) → of n ≡ Some (number_of (of n)) → IsWholeTree p OfTask a.heap n → AlsoFits (start_next c n (shape_of p a.heap n)) (start_next d (number_of (of n)) (shape_of p b.heap (number_of (of n))))
    start_of_kin n e tree =
        subst (λ (z : Option (List Token)). AlsoFits (start_next c n (shape_of p a.heap n)) (start_next d (number_of (of n)) z)) (same_shape OfTask n (number_of (of n)) e tree)
        (start_kin n (number_of (of n)) e tree (shape_of p a.heap n) refl)

    print_kin : (o : Option Token) → AlsoFits (print_next c o) (print_next d o)
    print_kin None = tt
    print_kin (Some token) = (refl, onward)

    arg_kin : (o : Option ℤ) → Free (arg_next W d o) → AlsoFits (arg_next W c o) (arg_next W d o)
    arg_kin None free = raised_kin cause.Index free
    arg_kin (Some n) free = onward_with (Int n) (Int n) refl

    mailbox_kin : (box : BoxName) → AlsoFits (Gets box (paused_at box c) (taken_at c)) (Gets box (paused_at box d) (taken_at d))
    mailbox_kin box = (
      refl,
      also_kin (pausing (Box box) a.fiber) (pausing (Box box) b.fiber) (Some Null) (Some Null) (pausing_kin of (Box box) (Box box) refl a.fiber b.fiber kin.fiber) tt,
      record { of = of; is = record { frames = frames; fiber = rewound_kin of a.fiber b.fiber kin.fiber; heaps = kin.heaps; done = ap (λ (n : ℕ). n + 1) kin.done; boxes = kin.boxes; kept = kin.kept; aside = kin.aside; below = kin.below } },
    )

    get_by : (v : Value) → AlsoFits (get_next c v) (get_next d (renamed of v))
    get_by (Box box) = mailbox_kin box
    get_by v = tt

    get_kin : (v : Value) → AlsoFits (spent_or set true a.done (get_next c v)) (spent_or set true b.done (get_next d (renamed of v)))
    get_kin v = spent_kin true (get_next c v) (get_next d (renamed of v)) (λ left. get_by v)

    yield_by : (again : Bool) → AlsoFits (yield_next again c) (yield_next again d)
    yield_by true = also_kin (rewound a.fiber) (rewound b.fiber) None None (rewound_kin of a.fiber b.fiber kin.fiber) tt
    yield_by false = record {
      of = of;
      is = record { frames = frames; fiber = pausing_kin of Null Null tt a.fiber b.fiber kin.fiber; heaps = kin.heaps; done = ap (λ (n : ℕ). n + 1) kin.done; boxes = kin.boxes; kept = kin.kept; aside = kin.aside; below = kin.below };
    }

    yield_kin : AlsoFits (yield_next (is_rewinding a.fiber) c) (yield_next (is_rewinding b.fiber) d)
    yield_kin = subst (λ (z : Bool). AlsoFits (yield_next (is_rewinding a.fiber) c) (yield_next z d)) (rewinding_same of a.fiber b.fiber kin.fiber) (yield_by (is_rewinding a.fiber))

    -- members of `kilim/Fiber`
    member_kin : (f g : Fib) → FibersKin of f g → (member : FiberMember) (args : List Value) → AreKin of args (map (renamed of) args) →
        AlsoFits (member_does Stands (λ x v. Goes (record c { fiber = x; frames = push_result v fs })) member args f) (member_does Stands (λ x v. Goes (record d { fiber = x; frames = push_result v gs })) member (map (renamed of) args) g)
    member_kin (Fiber_at lo (Saved q x vs) de re pa) (Fiber_at lower (Saved r y ws) deeper anew pauses) e Pc (Fiber ∷ []) k =
        also_kin _ _ (Some (Int (pos (place_while re q)))) (Some (Int (pos (place_while anew r)))) e (λ i. pos (place_while (e.3 i) (e.1.0 i)))
    member_kin (Fiber_at lo r [] re pa) (Fiber_at lower s [] anew pauses) e Down (Fiber ∷ []) k = also_kin _ _ (Some Fiber) (Some Fiber) ((e.1, e.0), (refl, tt, tt), tt, e.3, e.4) tt
    member_kin (Fiber_at lo r (x ∷ xs) re pa) (Fiber_at lower s (y ∷ ys) anew pauses) e Down (Fiber ∷ []) k = also_kin _ _ (Some Fiber) (Some Fiber) ((e.1, e.0), e.2.0, e.2.1, e.3, e.4) tt
    member_kin (Fiber_at lo r [] re pa) (Fiber_at lower s (y ∷ ys) anew pauses) e Down (Fiber ∷ []) k = absurd e.2
    member_kin (Fiber_at lo r (x ∷ xs) re pa) (Fiber_at lower s [] anew pauses) e Down (Fiber ∷ []) k = absurd e.2
    member_kin (Fiber_at [] r de re pa) g e Up (Fiber ∷ []) k = tt
    member_kin (Fiber_at (x ∷ lo) r de re pa) (Fiber_at (y ∷ lower) s deeper anew pauses) e Up (Fiber ∷ []) k =
        also_kin _ _ (Some (one_if pa)) (Some (one_if pauses)) (e.0.1, e.0.0, raised_kin pa pauses e.4 de deeper r s e.2 e.1, e.3, e.4) (one_kin pa pauses e.4)
      where
        raised_kin : (x y : Bool) → x ≡ y → (rs ss : List Rec) (r s : Rec) → RecordsKin of rs ss → RecordKin of r s → RecordsKin of (raised x rs r) (raised y ss s)
        raised_kin true true w rs ss r s e o = (o, e)
        raised_kin false false w rs ss r s e o = e
        raised_kin true false w rs ss r s e o = absurd (cc)
        raised_kin false true w rs ss r s e o = absurd (cc)

        one_kin : (x y : Bool) → x ≡ y → IsKin of (one_if x) (one_if y)
        one_kin true true w = refl
        one_kin false false w = refl
        one_kin true false w = absurd (cc)
        one_kin false true w = absurd (cc)
    member_kin (Fiber_at (x ∷ lo) r de re pa) (Fiber_at [] s deeper anew pauses) e Up (Fiber ∷ []) k = absurd e.0
    member_kin (Fiber_at lo (Saved q x vs) de re pa) (Fiber_at lower (Saved r y ws) deeper anew pauses) e Save (v ∷ Fiber ∷ []) k = also_kin _ _ None None (e.0, (e.1.0, e.1.1, (k.0, e.1.2)), e.2, e.3, e.4) tt
    member_kin (Fiber_at lo (Saved q x vs) de re pa) (Fiber_at lower (Saved r y ws) deeper anew pauses) e Place (Int (pos n) ∷ v ∷ Fiber ∷ []) k = also_kin _ _ None None (e.0, (refl, k.1.0, e.1.2), e.2, e.3, e.4) tt
    member_kin (Fiber_at lo (Saved q x []) de re pa) g e Restore (Fiber ∷ []) k = tt
    member_kin (Fiber_at lo (Saved q x (v ∷ vs)) de re pa) (Fiber_at lower (Saved r y (w ∷ ws)) deeper anew pauses) e Restore (Fiber ∷ []) k = also_kin _ _ (Some v) (Some w) (e.0, (e.1.0, e.1.1, e.1.2.1), e.2, e.3, e.4) e.1.2.0
    member_kin (Fiber_at lo (Saved q x (v ∷ vs)) de re pa) (Fiber_at lower (Saved r y []) deeper anew pauses) e Restore (Fiber ∷ []) k = absurd e.1.2
    member_kin (Fiber_at lo r [] re pa) g e Receiver (Fiber ∷ []) k = tt
    member_kin (Fiber_at lo r (Saved q x vs ∷ de) re pa) (Fiber_at lower s (Saved o y ws ∷ deeper) anew pauses) e Receiver (Fiber ∷ []) k = also_kin _ _ (Some x) (Some y) e e.2.0.1
    member_kin (Fiber_at lo r (x ∷ de) re pa) (Fiber_at lower s [] anew pauses) e Receiver (Fiber ∷ []) k = absurd e.2
    member_kin f g e _ _ k = tt

    native_kin : (n : Native) (args : List Value) → AreKin of args (map (renamed of) args) → ((root : Root) (i : ℕ) → given (Some n) args ≡ Some (root, i) → IsWholeTree p root a.heap i) →
        Free (native_next set W d n (map (renamed of) args)) → AlsoFits (native_next set W c n args) (native_next set W d n (map (renamed of) args))
    native_kin native.Execute (Ref n ∷ Fiber ∷ []) e whole free = onward
    native_kin native.Start (Ref n ∷ []) e whole free = start_of_kin n e.0 (whole OfTask n refl)
    native_kin native.Put (Box box ∷ v ∷ []) e whole free = message_kin box v e.1.0 whole free
    native_kin native.PutWait (v ∷ u ∷ Fiber ∷ []) e whole free = waits_kin v u e.1.0 whole free
    native_kin native.Bound (Box box ∷ Int i ∷ []) e whole free = bound_kin box i free
    native_kin native.Get (v ∷ Fiber ∷ []) e whole free = get_kin v
    native_kin native.Getnb (Box box ∷ []) e whole free = (refl, onward)
    native_kin native.Print (v ∷ []) e whole free = subst (λ (z : Option Token). AlsoFits (print_next c (printed v)) (print_next d z)) (printed_same of v) (print_kin (printed v))
    native_kin native.Yield (Fiber ∷ []) e whole free = yield_kin
    native_kin native.ArgCount [] e whole free = onward_with _ _ refl
    native_kin native.Arg (Int i ∷ []) e whole free = arg_kin (arg_at set.limits.args i) free
    native_kin (native.OfFiber member) args e whole free = member_kin a.fiber b.fiber kin.fiber member args e
    native_kin _ _ e whole free = tt

    asks_kin : (n : Option Native) (args brgs : List Value) → AreKin of args brgs → ((root : Root) (i : ℕ) → given n args ≡ Some (root, i) → IsWholeTree p root a.heap i) →
        Free (asks_next set W d brgs n) → AlsoFits (asks_next set W c args n) (asks_next set W d brgs n)
    asks_kin None args brgs e whole free = tt
    asks_kin (Some n) args brgs e whole free =
        let is = are_is of args brgs e in
        subst (λ (z : List Value). Free (native_next set W d n z) → AlsoFits (native_next set W c n args) (native_next set W d n z)) is
        (native_kin n args (subst (λ (z : List Value). AreKin of args z) (sym is) e) whole) free

  -- ---- all moves

  -- the heaps are those of before
  here : (f g : Objects → Next) (h k : Objects) → h ≡ a.heap → k ≡ b.heap → (Free (g b.heap) → Fits (f a.heap) (g b.heap)) → Free (g k) → Fits (f h) (g k)
  here f g h k e d w = subst (λ (z : Objects). Free (g z) → Fits (f h) (g z)) (sym d) (subst (λ (z : Objects). Free (g b.heap) → Fits (f z) (g b.heap)) (sym e) w)

  module _ (top other : Activation) (tops others : List Activation) (frames : FramesKin of (top ∷ tops) (other ∷ others)) where
    abbrev left : Bool → Move → Next
    left counts m = next_by set W t counts a top tops m

    abbrev right : Bool → Move → Next
    right counts m = next_by set W t counts b other others m

    -- what makes an object takes a name
    makes_free : (counts : Bool) (o q : Object) (fs gs : List Activation) → ObjectsKin of o q → FramesKin of fs gs → Free (right counts (move.Makes q gs b.heap)) → Fits (left counts (move.Makes o fs a.heap)) (right counts (move.Makes q gs b.heap))
    makes_free true o q fs gs objects e free = makes_kin true o q fs gs (free refl) objects e
    makes_free false o q fs gs objects e free = makes_kin false o q fs gs (free refl) objects e

    raised_by : (counts : Bool) (x : EndCause) → Free (right counts (move.Raises x)) → Fits (left counts (move.Raises x)) (right counts (move.Raises x))
    raised_by counts x =
        subst (λ (n : List ℕ). Free (raises W (ticked counts b) x (λ k. thrown W k (Ref b.next) other others) (raised_class W n x)) → Fits (left counts (move.Raises x)) (raises W (ticked counts b) x (λ k. thrown W k (Ref b.next) other others) (raised_class W n x))) (index_same W top other frames.0 frames.1)
        (raises_kin counts x (λ k. thrown W k (Ref a.next) top tops) (λ k. thrown W k (Ref b.next) other others)
        (λ k. thrown_kin W k more (Ref a.next) (Ref b.next) (added_new of a.next b.next) top other tops others (more_frames (top ∷ tops) (other ∷ others) frames)) (raised_class W (index_at W top) x))

    move_kin : (good : ℕ → Type 0) (counts : Bool) (v w : Move) → MoveKin good of all_mine 0 a.heap b.heap v w → GivesWhole p W v → Free (right counts w) → Fits (left counts v) (right counts w)
    move_kin good counts (move.Runs x fs h) (move.Runs y gs k) e whole free = runs_kin counts h k fs gs e.1 e.2
    move_kin good counts (move.Makes o fs h) (move.Makes q gs k) e whole free = here (λ z. left counts (move.Makes o fs z)) (λ z. right counts (move.Makes q gs z)) h k e.2 e.3 (makes_free counts o q fs gs e.0 e.1) free
    move_kin good counts (move.Opens fs h) (move.Opens gs k) e whole free = here (λ z. left counts (move.Opens fs z)) (λ z. right counts (move.Opens gs z)) h k e.1 e.2 (λ f. opens_kin counts fs gs e.0) free
    move_kin good counts (move.Asks m args fs h) (move.Asks n brgs gs k) e whole free =
        here (λ z. left counts (move.Asks m args fs z)) (λ z. right counts (move.Asks n brgs gs z)) h k e.3 e.4
        (subst (λ (z : MethodId). Free (right counts (move.Asks z brgs gs b.heap)) → Fits (left counts (move.Asks m args fs a.heap)) (right counts (move.Asks z brgs gs b.heap))) e.0
        (asks_kin fs gs e.2 (native_of W m) args brgs e.1 (λ root i d. subst (λ (z : Objects). IsWholeTree p root z i) e.3 (whole root i d)))) free
    move_kin good counts (move.Returns h) (move.Returns k) e whole free = here (λ z. left counts (move.Returns z)) (λ z. right counts (move.Returns z)) h k e.0 e.1 (λ f. finish_kin a.kept b.kept kin.kept) free
    move_kin good counts (move.Raises x) (move.Raises y) e whole free = subst (λ (z : EndCause). Free (right counts (move.Raises z)) → Fits (left counts (move.Raises x)) (right counts (move.Raises z))) e (raised_by counts x) free
    move_kin good counts (move.Throws n c x) (move.Throws z d y) e whole free =
        subst (λ (why : EndCause). Fits (left counts (move.Throws n c x)) (right counts (move.Throws z d why))) e.cause
        (subst (λ (k : ClassId). Fits (left counts (move.Throws n c x)) (right counts (move.Throws z k x))) e.class
        (throws_kin counts x (thrown W c (Ref n) top tops) (thrown W c (Ref z) other others) (thrown_kin W c of (Ref n) (Ref z) e.object top other tops others frames)))
    move_kin good counts (move.Ends x) (move.Ends y) e whole free = e
    move_kin good counts move.Stuck w e whole free = tt
    move_kin good counts _ _ e whole free = absurd e

    counted_kin : (counts : Bool) → (counts && nat_le set.limits.steps a.done ≡ false → AreHeld (IsThere a.heap) top.stack × GivesWhole p W (moves W top tops a.heap)) → Free (spent_or set counts b.done (right counts (moves W other others b.heap))) →
        Fits (spent_or set counts a.done (left counts (moves W top tops a.heap))) (spent_or set counts b.done (right counts (moves W other others b.heap)))
    counted_kin counts whole free =
        let w : Move = moves W other others b.heap in
        spent_kin counts (left counts (moves W top tops a.heap)) (right counts w) (λ some.
        move_kin (StandsIn a.heap top.stack) counts (moves W top tops a.heap) w (moves_kin W of all_mine 0 a.heap b.heap kin.heaps (rows_kin W) top other (whole some).0 tops others frames) (whole some).1
        (free_spent counts (right counts w) free some))

    found_kin : (found : Option (Instr × ℕ × Bool)) → (spends set found a ≡ false → AreHeld (IsThere a.heap) top.stack × GivesWhole p W (moves W top tops a.heap)) → Free (found_next set W t b other others found) →
        Fits (found_next set W t a top tops found) (found_next set W t b other others found)
    found_kin None whole free = tt
    found_kin (Some found) whole free =
        let same : found.2 && not (is_rewinding a.fiber) ≡ found.2 && not (is_rewinding b.fiber) = ap (λ (z : Bool). found.2 && not z) (rewinding_same of a.fiber b.fiber kin.fiber) in
        let counts : Bool = found.2 && not (is_rewinding a.fiber) in
        subst (λ (z : Bool). Free (spent_or set z b.done (right z (moves W other others b.heap))) → Fits (spent_or set counts a.done (left counts (moves W top tops a.heap))) (spent_or set z b.done (right z (moves W other others b.heap)))) same
        (counted_kin counts whole) free

  module _ (marks : List (List Bool)) where
    pub frames_kin : (fs gs : List Activation) → FramesKin of fs gs → IsWholeAt set W marks a fs → Free (next_in set W marks t b gs) → NextLike p (next_in set W marks t a fs) (next_in set W marks t b gs)
    frames_kin [] [] e whole free = resumes_from (first_receiver a.fiber) (first_receiver b.fiber) (receiver_kin of a.fiber b.fiber kin.fiber)
    frames_kin (top ∷ fs) (other ∷ gs) e whole free =
        let same : wfetch set W marks top.method top.place ≡ wfetch set W marks other.method other.place = λ i. wfetch set W marks (e.0 i) (e.1 i) in
        subst (λ (z : Option (Instr × ℕ × Bool)). Free (found_next set W t b other gs z) → NextLike p (found_next set W t a top fs (wfetch set W marks top.method top.place)) (found_next set W t b other gs z)) same
        (found_kin top other fs gs e (wfetch set W marks top.method top.place) whole) free
    frames_kin _ _ e whole free = absurd e

pub next_kin : (set : Setting) (W : Program) (marks : List (List Bool)) (t : ℕ) (l f : Standing) → Like l f → IsWhole set W marks l → HasFree set W marks t f → NextLike set.program (next_of set W marks t l) (next_of set W marks t f)
unfolding next_of
next_kin set W marks t l f like whole free = frames_kin set W like.of t l f like.is marks l.frames f.frames like.is.frames whole free
