-- What a thread does next is the same on a heap of its own as on a heap that it shares.
use Rattle.std.proofs.Common.{◌≡◌, ℕ, ◌+◌, ◌<◌, ℤ, Bool, true, false, cond, List, [], ◌∷◌, map, Option, Some, None, refl, sym, subst, ◌∙◌, inl, inr, arith, le_refl}
use Rattle.std.specs.Prelude.{zero, suc, pos, negsuc, nat_lt}
use Rattle.std.specs.FinMap.{insert}
use Rattle.std.proofs.lemmas.Bool.Decides.{leb_tells}
use Rattle.kilim_program.specs.Program.{Program}
use Rattle.kilim_program.specs.declared.class.Method.{Method}
use Rattle.kilim_program.specs.declared.names.BoxName.{BoxName}
use Rattle.kilim_program.specs.declared.names.ClassId.{ClassId}
use Rattle.kilim_program.specs.declared.names.MethodId.{MethodId}
use Rattle.kilim_program.specs.declared.value.Value.{Value}
use Rattle.kilim_program.specs.declared.value.Value.TheVariants.{Int, Long, Null, Ref, Text, Box, Fiber}
use Rattle.kilim_program.specs.Names.{method_at}
use Rattle.kilim_run_state.specs.declared.cause.EndCause.{EndCause}
use Rattle.kilim_run_state.specs.declared.cause.EndCause.TheVariants as cause
use Rattle.kilim_run_state.specs.declared.value.Object.{Object}
use Rattle.kilim_run_state.specs.declared.value.Token.{Token}
use Rattle.kilim_run_state.specs.Machine.{Objects, Activation}
use Rattle.kilim_program.specs.Members.{execute_of}
use Rattle.kilim_run_machine.specs.Natives.{Native, native_of}
use Rattle.kilim_run_machine.specs.Natives as native
use Rattle.kilim_run_machine.specs.Moves.{Move, moves, entered, push_value}
use Rattle.kilim_run_machine.specs.Moves as move
use Rattle.kilim_run_machine.specs.Raising.{index_at, other_index, raised_class, thrown, unwound}
use Rattle.kilim_run_state.specs.Objects.{new_object}
use Rattle.kilim_run_state.specs.Shapes.{shape_of}
use Rattle.kilim_run_state.specs.Trees.{Root, OfMessage, OfTask}
use Rattle.kilim_run_model.specs.State.{Setting, Thread, Alive, Ended, begun_in, begun_on}
use Rattle.kilim_run_model.specs.Lone.{Lone, Next, Stands, went, pushed, ended, over, raised, raises_by, raises_of, raises_next, throws_by, put_next, message_next, put_wait_next, wait_next, bound_next, start_next, printed, print_next, narrowed, arg_at, arg_next, native_next, asks_next, box_limit, opens_next, begins_next, finish_next, on_heap, next_by, frames_next, thread_next, next_move}
use Rattle.kilim_run_model.specs.Lone as next
use Rattle.kilim_run_model.specs.Kept.{given}
use Rattle.kilim_run_model.specs.kin.Kin.{Names, Owner, OfNobody, IsKin, AreKin, ObjectsKin, FramesKin, NameKin, Alike, AreHeld, IsThere, StandsIn, MoveKin}
use Rattle.kilim_run_model.specs.kin.Kin as owned
use Rattle.kilim_run_model.proofs.kin.Kins.{kin_push, kin_entered, frames_up, name_up}
use Rattle.kilim_run_model.proofs.kin.Renamed.{renamed, number_of, are_is}
use Rattle.kilim_run_model.proofs.kin.Rows.{new_kin, rows_kin}
use Rattle.kilim_run_model.proofs.kin.Moving.{moves_kin}
use Rattle.kilim_run_model.proofs.kin.Thrown.{index_same, thrown_kin, unwound_kin}
use Rattle.kilim_run_model.specs.kin.trees.TreeKin.{IsWholeTree}
use Rattle.kilim_run_model.proofs.kin.trees.Shaped.{shape_kin}
use Rattle.kilim_run_model.specs.one_heap.Lones.{ThreadKin, LonesKin, NextKin, WholeMove, IsWholeThread}
use Rattle.kilim_run_model.specs.one_heap.Laws.{NextMovesAreKin}
use Rattle.kilim_run_model.proofs.one_heap.Added.{added, added_owner, added_new, added_old, added_bound, alike_added, owner_old, owner_only}

-- ---- frames with which a method begins

abbrev pub MaybeFrames : Names → Option (List Activation) → Option (List Activation) → Type 0
MaybeFrames of None None = Unit {0}
MaybeFrames of (Some fs) (Some gs) = FramesKin of fs gs
MaybeFrames of fs gs = ⊥

pub begun_kin : (p : Program) (of : Names) (n x : ℕ) → of n ≡ Some x → (m : Option MethodId) → MaybeFrames of (begun_on p m n) (begun_on p m x)
begun_kin p of n x e None = tt
begun_kin p of n x e (Some m) = elim (method_at p m) as (λ (z : Option Method). MaybeFrames of (begun_in p m n z) (begun_in p m x z)) [
  | None ↦ tt
  | Some method ↦ elim method.built_in as (λ (b : Bool). FramesKin of (cond b [] (entered p m (Ref n ∷ []) ∷ [])) (cond b [] (entered p m (Ref x ∷ []) ∷ []))) [
    | true ↦ tt
    | false ↦ kin_entered of p m (Ref n ∷ []) (Ref x ∷ []) [] [] (e, tt) tt
  ]
]

pub printed_same : (of : Names) (v : Value) → printed v ≡ printed (renamed of v)
printed_same of (Int a) = refl
printed_same of (Long a) = refl
printed_same of Null = refl
printed_same of (Ref n) = refl
printed_same of (Text a) = refl
printed_same of (Box a) = refl
printed_same of Fiber = refl

module _ (setting : Setting) (of : Names) (owner : ℕ → Owner) (t : ℕ) (a b : Lone) (kin : LonesKin of owner t b.heap a b) where
  abbrev p : Program
  p = setting.program

  abbrev Fits : Next → Next → Type 0
  Fits x y = NextKin p owner t b.heap x y

  -- ---- the two at other frames, with the same heaps

  at_frames : (fs gs : List Activation) (done boxes : ℕ) → FramesKin of fs gs → LonesKin of owner t b.heap (went a fs done boxes) (went b gs done boxes)
  at_frames fs gs done boxes e = record { threads = (e, refl, refl); heaps = kin.heaps; kept = kin.kept; below = kin.below; free = kin.free; keeps = kin.keeps }

  ended_kin : (c : EndCause) → LonesKin of owner t b.heap (ended a c) (ended b c)
  ended_kin c = record { threads = refl; heaps = kin.heaps; kept = tt; below = kin.below; free = kin.free; keeps = λ n. refl }

  over_kin : (c : EndCause) → Fits (over a c) (over b c)
  over_kin c = (refl, record { of = of; kin = ended_kin c })

  goes_kin : (x y : Lone) → LonesKin of owner t b.heap x y → Fits (next.Goes x) (next.Goes y)
  goes_kin x y e = record { of = of; later = owner; only = λ z. inl refl; kin = e }

  -- ---- moves

  -- other heaps, in which the thread's own objects may have changed
  runs_kin : (h k : Objects) (fs gs : List Activation) (done boxes : ℕ) → FramesKin of fs gs → Alike of owner t b.heap h k → Fits (next.Goes (went (on_heap a h) fs done boxes)) (next.Goes (went (on_heap b k) gs done boxes))
  runs_kin h k fs gs done boxes e alike = record { of = of; later = owner; only = λ z. inl refl; kin = record { threads = (e, refl, refl); heaps = alike; kept = kin.kept; below = kin.below; free = kin.free; keeps = kin.keeps } }

  makes_kin : (o q : Object) (fs gs : List Activation) (done boxes : ℕ) → ObjectsKin of o q → FramesKin of fs gs →
      Fits (next.Goes (went (record a { heap = insert a.heap a.next o; next = a.next + 1 }) (push_value (Ref a.next) fs) done boxes))
      (next.Goes (went (record b { heap = insert b.heap b.next q; next = b.next + 1 }) (push_value (Ref b.next) gs) done boxes))
  makes_kin o q fs gs done boxes objects frames =
      let free = kin.free b.next (le_refl b.next) in
      let more = added of a.next b.next in
      let up = added_old of a.next b.next kin.below in
      record {
        of = more;
        later = added_owner owner b.next (owned.OfTask t);
        only = owner_only owner b.next t free;
        kin = record {
          threads = (kin_push more (Ref a.next) (Ref b.next) fs gs (added_new of a.next b.next) (frames_up of more up fs gs frames), refl, refl);
          heaps = alike_added of a.next b.next kin.below owner t a.heap b.heap kin.heaps free o q objects;
          kept = name_up of more up a.kept b.kept kin.kept;
          below = added_bound of a.next b.next kin.below;
          free = λ x le. owner_old owner b.next (owned.OfTask t) x (λ e. absurd (omega (arith, le, e))) ∙ kin.free x (omega (arith, le));
          keeps = kin.keeps;
        };
      }

  -- ---- what is raised or thrown, whatever frames stand now

  throws_kin : (why : EndCause) (n m : ℕ) (fs gs : List Activation) → FramesKin of fs gs → Fits (throws_by a why n m fs) (throws_by b why n m gs)
  throws_kin why n m [] [] e = over_kin why
  throws_kin why n m (f ∷ fs) (g ∷ gs) e = goes_kin _ _ (record { threads = (e, refl, refl); heaps = kin.heaps; kept = kin.kept; below = kin.below; free = kin.free; keeps = kin.keeps })
  throws_kin why n m [] (g ∷ gs) e = absurd e
  throws_kin why n m (f ∷ fs) [] e = absurd e

  abbrev more : Names
  more = added of a.next b.next

  more_frames : (fs gs : List Activation) → FramesKin of fs gs → FramesKin more fs gs
  more_frames fs gs e = frames_up of more (added_old of a.next b.next kin.below) fs gs e

  -- an object is made where a frame is left
  module _ (x y : Thread) (why : EndCause) (n m : ℕ) where
    left_kin : (o q : Object) → ObjectsKin of o q → (fs gs : List Activation) → FramesKin more fs gs → Fits (raises_by (record a { thread = x }) o why n m fs) (raises_by (record b { thread = y }) q why n m gs)
    left_kin o q objects [] [] frames = (refl, record { of = of; kin = ended_kin why })
    left_kin o q objects (f ∷ fs) (g ∷ gs) frames =
        let free = kin.free b.next (le_refl b.next) in
        record {
          of = more;
          later = added_owner owner b.next (owned.OfTask t);
          only = owner_only owner b.next t free;
          kin = record {
            threads = (frames, refl, refl);
            heaps = alike_added of a.next b.next kin.below owner t a.heap b.heap kin.heaps free o q objects;
            kept = name_up of more (added_old of a.next b.next kin.below) a.kept b.kept kin.kept;
            below = added_bound of a.next b.next kin.below;
            free = λ z le. owner_old owner b.next (owned.OfTask t) z (λ e. absurd (omega (arith, le, e))) ∙ kin.free z (omega (arith, le));
            keeps = kin.keeps;
          };
        }
    left_kin o q objects [] (g ∷ gs) frames = absurd frames
    left_kin o q objects (f ∷ fs) [] frames = absurd frames

    of_kin : (left right : ClassId → List Activation) → ((c : ClassId) → FramesKin more (left c) (right c)) → (o : Option ClassId) → Fits (raises_of p (record a { thread = x }) why n m left o) (raises_of p (record b { thread = y }) why n m right o)
    of_kin left right each None = (refl, record { of = of; kin = ended_kin why })
    of_kin left right each (Some c) = left_kin (new_object p c) (new_object p c) (new_kin p of c) (left c) (right c) (each c)

  raises_kin : (why : EndCause) (done boxes : ℕ) (top other : Activation) (fs gs : List Activation) → FramesKin of (top ∷ fs) (other ∷ gs) → Fits (raises_next p a done boxes top fs why) (raises_next p b done boxes other gs why)
  raises_kin why done boxes top other fs gs e =
      subst (λ (z : List ℕ). Fits (raises_next p a done boxes top fs why) (raises_of p b why (done + 1) boxes (λ c. thrown p c (Ref b.next) other gs) (raised_class p z why))) (index_same p top other e.0 e.1)
      (of_kin a.thread b.thread why (done + 1) boxes (λ c. thrown p c (Ref a.next) top fs) (λ c. thrown p c (Ref b.next) other gs)
      (λ c. thrown_kin p c more (Ref a.next) (Ref b.next) (added_new of a.next b.next) top other fs gs (more_frames (top ∷ fs) (other ∷ gs) e)) (raised_class p (index_at p top) why))

  opens_kin : (fs gs : List Activation) (done boxes : ℕ) → FramesKin of fs gs → Fits (opens_next t a fs done boxes) (opens_next t b gs done boxes)
  opens_kin fs gs done boxes frames =
      elim (nat_lt boxes box_limit) as (λ (c : Bool). Fits (cond c (next.Goes (went a (push_value (Box (record { task = t; number = boxes })) fs) done (boxes + 1))) (over a cause.Boxes))
      (cond c (next.Goes (went b (push_value (Box (record { task = t; number = boxes })) gs) done (boxes + 1))) (over b cause.Boxes))) [
        | true ↦ goes_kin _ _ (at_frames (push_value (Box (record { task = t; number = boxes })) fs) (push_value (Box (record { task = t; number = boxes })) gs) done (boxes + 1)
            (kin_push of (Box (record { task = t; number = boxes })) (Box (record { task = t; number = boxes })) fs gs refl frames))
        | false ↦ over_kin cause.Boxes
      ]

  begins_kin : (done boxes : ℕ) (f g : Option (List Activation)) → MaybeFrames of f g → Fits (begins_next a done boxes f) (begins_next b done boxes g)
  begins_kin done boxes None None e = tt
  begins_kin done boxes (Some []) (Some []) e = over_kin cause.Done
  begins_kin done boxes (Some (f ∷ fs)) (Some (g ∷ gs)) e = record {
    of = of;
    later = owner;
    only = λ z. inl refl;
    kin = record { threads = (e, refl, refl); heaps = kin.heaps; kept = tt; below = kin.below; free = kin.free; keeps = λ n. refl };
  }
  begins_kin done boxes _ _ e = absurd e

  finish_kin : (done boxes : ℕ) (n y : Option ℕ) → NameKin of n y → Fits (finish_next setting a done boxes n) (finish_next setting b done boxes y)
  finish_kin done boxes None None e = over_kin cause.Done
  finish_kin done boxes (Some n) (Some y) e =
      begins_kin done boxes (begun_on p (execute_of p setting.main) n) (begun_on p (execute_of p setting.main) y) (begun_kin p of n y e (execute_of p setting.main))
  finish_kin done boxes _ _ e = absurd e

  -- ---- built-in methods

  module _ (fs gs : List Activation) (done boxes : ℕ) (frames : FramesKin of fs gs) where
    abbrev c : Lone
    c = went a fs done boxes

    abbrev d : Lone
    d = went b gs done boxes

    both : LonesKin of owner t b.heap c d
    both = at_frames fs gs done boxes frames

    ends_so : (why : EndCause) → Fits (over c why) (over d why)
    ends_so why = (refl, record { of = of; kin = record { threads = refl; heaps = kin.heaps; kept = tt; below = kin.below; free = kin.free; keeps = λ n. refl } })

    raised_so : (why : EndCause) → Fits (raised p c why) (raised p d why)
    raised_so why = of_kin (Alive fs (done + 1) boxes) (Alive gs (done + 1) boxes) why (done + 1) boxes (λ k. unwound p k (Ref a.next) fs) (λ k. unwound p k (Ref b.next) gs)
        (λ k. unwound_kin p k more (Ref a.next) (Ref b.next) (added_new of a.next b.next) fs gs (more_frames fs gs frames)) (raised_class p other_index why)

    onward_with : (v w : Value) → IsKin of v w → Fits (next.Goes (pushed v c)) (next.Goes (pushed w d))
    onward_with v w e = goes_kin _ _ (record { threads = (kin_push of v w fs gs e frames, refl, refl); heaps = kin.heaps; kept = kin.kept; below = kin.below; free = kin.free; keeps = kin.keeps })

    put_kin : (box : BoxName) (n x : ℕ) → of n ≡ Some x → IsWholeTree p OfMessage a.heap n → (s : Option (List Token)) → shape_of p a.heap n ≡ s → Fits (put_next c box n s) (put_next d box x s)
    put_kin box n x e whole None is = ends_so cause.Large
    put_kin box n x e whole (Some shape) is = (refl, refl, record { of = of; kin = both; named = e; whole = whole; has = is })

    start_kin : (n x : ℕ) → of n ≡ Some x → IsWholeTree p OfTask a.heap n → (s : Option (List Token)) → shape_of p a.heap n ≡ s → Fits (start_next c n s) (start_next d x s)
    start_kin n x e whole None is = ends_so cause.Large
    start_kin n x e whole (Some shape) is = (refl, record { of = of; kin = both; named = e; whole = whole; has = is })

    -- a tree has one shape
    same_shape : (root : Root) (n x : ℕ) → of n ≡ Some x → IsWholeTree p root a.heap n → shape_of p a.heap n ≡ shape_of p b.heap x
    same_shape root n x e whole = shape_kin p of owner t b.heap a.heap b.heap kin.heaps n x e whole.intact

    message_kin : (box : BoxName) (v : Value) → IsKin of v (renamed of v) → ((root : Root) (n : ℕ) → given (Some native.Put) (Box box ∷ v ∷ []) ≡ Some (root, n) → IsWholeTree p root a.heap n) →
        Fits (message_next p c box v) (message_next p d box (renamed of v))
    message_kin box Null e whole = raised_so cause.Null
    message_kin box (Ref n) e whole =
        let tree = whole OfMessage n refl in
        subst (λ (z : Option (List Token)). Fits (put_next c box n (shape_of p a.heap n)) (put_next d box (number_of (of n)) z)) (same_shape OfMessage n (number_of (of n)) e tree)
        (put_kin box n (number_of (of n)) e tree (shape_of p a.heap n) refl)
    message_kin box _ e whole = tt

    put_wait_kin : (box : BoxName) (n x : ℕ) → of n ≡ Some x → IsWholeTree p OfMessage a.heap n → (s : Option (List Token)) → shape_of p a.heap n ≡ s → Fits (put_wait_next c box n s) (put_wait_next d box x s)
    put_wait_kin box n x e whole None is = ends_so cause.Large
    put_wait_kin box n x e whole (Some shape) is = (refl, refl, record { of = of; kin = both; named = e; whole = whole; has = is })

    wait_kin : (box : BoxName) (v : Value) → IsKin of v (renamed of v) → ((root : Root) (n : ℕ) → given (Some native.PutWait) (Box box ∷ v ∷ []) ≡ Some (root, n) → IsWholeTree p root a.heap n) →
        Fits (wait_next p c box v) (wait_next p d box (renamed of v))
    wait_kin box Null e whole = raised_so cause.Null
    wait_kin box (Ref n) e whole =
        let tree = whole OfMessage n refl in
        subst (λ (z : Option (List Token)). Fits (put_wait_next c box n (shape_of p a.heap n)) (put_wait_next d box (number_of (of n)) z)) (same_shape OfMessage n (number_of (of n)) e tree)
        (put_wait_kin box n (number_of (of n)) e tree (shape_of p a.heap n) refl)
    wait_kin box _ e whole = tt

    bound_kin : (box : BoxName) (i : ℤ) → Fits (bound_next p c box i) (bound_next p d box i)
    bound_kin box (pos (suc i)) = (refl, refl, record { of = of; kin = both })
    bound_kin box (pos zero) = raised_so cause.Size
    bound_kin box (negsuc i) = raised_so cause.Size

    start_of_kin : (n : ℕ) → of n ≡ Some (number_of (of n)) → IsWholeTree p OfTask a.heap n → Fits (start_next c n (shape_of p a.heap n)) (start_next d (number_of (of n)) (shape_of p b.heap (number_of (of n))))
    start_of_kin n e tree =
        subst (λ (z : Option (List Token)). Fits (start_next c n (shape_of p a.heap n)) (start_next d (number_of (of n)) z)) (same_shape OfTask n (number_of (of n)) e tree)
        (start_kin n (number_of (of n)) e tree (shape_of p a.heap n) refl)

    print_kin : (o : Option Token) → Fits (print_next c o) (print_next d o)
    print_kin None = tt
    print_kin (Some token) = (refl, record { of = of; kin = both })

    arg_kin : (o : Option ℤ) → Fits (arg_next p c o) (arg_next p d o)
    arg_kin None = raised_so cause.Index
    arg_kin (Some n) = onward_with (Int n) (Int n) refl

    native_kin : (n : Native) (args : List Value) → AreKin of args (map (renamed of) args) → ((root : Root) (i : ℕ) → given (Some n) args ≡ Some (root, i) → IsWholeTree p root a.heap i) →
        Fits (native_next setting c n args) (native_next setting d n (map (renamed of) args))
    native_kin native.Execute (Ref n ∷ []) e whole = goes_kin c d both
    native_kin native.Start (Ref n ∷ []) e whole = start_of_kin n e.0 (whole OfTask n refl)
    native_kin native.Put (Box box ∷ v ∷ []) e whole = message_kin box v e.1.0 whole
    native_kin native.PutWait (Box box ∷ v ∷ []) e whole = wait_kin box v e.1.0 whole
    native_kin native.Bound (Box box ∷ Int i ∷ []) e whole = bound_kin box i
    native_kin native.Get (Box box ∷ []) e whole = (refl, record { of = of; kin = both })
    native_kin native.Getnb (Box box ∷ []) e whole = (refl, record { of = of; kin = both })
    native_kin native.Print (v ∷ []) e whole = subst (λ (z : Option Token). Fits (print_next c (printed v)) (print_next d z)) (printed_same of v) (print_kin (printed v))
    native_kin native.Yield [] e whole = goes_kin c d both
    native_kin native.ArgCount [] e whole = onward_with _ _ refl
    native_kin native.Arg (Int i ∷ []) e whole = arg_kin (arg_at setting.limits.args i)
    native_kin _ _ e whole = tt

    asks_kin : (n : Option Native) (args brgs : List Value) → AreKin of args brgs → ((root : Root) (i : ℕ) → given n args ≡ Some (root, i) → IsWholeTree p root a.heap i) →
        Fits (asks_next setting c args n) (asks_next setting d brgs n)
    asks_kin None args brgs e whole = tt
    asks_kin (Some n) args brgs e whole =
        let is = are_is of args brgs e in
        subst (λ (z : List Value). Fits (native_next setting c n args) (native_next setting d n z)) is
        (native_kin n args (subst (λ (z : List Value). AreKin of args z) (sym is) e) whole)

  -- ---- all moves

  -- the heaps are those of before
  here : (done boxes : ℕ) (top other : Activation) (below others : List Activation) (f g : Objects → Move) (h k : Objects) → h ≡ a.heap → k ≡ b.heap →
      Fits (next_by setting t a done boxes top below (f a.heap)) (next_by setting t b done boxes other others (g b.heap)) →
      Fits (next_by setting t a done boxes top below (f h)) (next_by setting t b done boxes other others (g k))
  here done boxes top other below others f g h k e d w =
      subst (λ (z : Objects). Fits (next_by setting t a done boxes top below (f h)) (next_by setting t b done boxes other others (g z))) (sym d)
      (subst (λ (z : Objects). Fits (next_by setting t a done boxes top below (f z)) (next_by setting t b done boxes other others (g b.heap))) (sym e) w)

  move_kin : (good : ℕ → Type 0) (done boxes : ℕ) (top other : Activation) (below others : List Activation) → FramesKin of (top ∷ below) (other ∷ others) → (v w : Move) → MoveKin good of owner t a.heap b.heap v w → WholeMove p a.heap v →
      Fits (next_by setting t a done boxes top below v) (next_by setting t b done boxes other others w)
  move_kin good done boxes top other below others frames (move.Runs x fs h) (move.Runs y gs k) e whole = runs_kin h k fs gs done boxes e.1 e.2
  move_kin good done boxes top other below others frames (move.Makes o fs h) (move.Makes q gs k) e whole =
      here done boxes top other below others (λ z. move.Makes o fs z) (λ z. move.Makes q gs z) h k e.2 e.3 (makes_kin o q fs gs done boxes e.0 e.1)
  move_kin good done boxes top other below others frames (move.Opens fs h) (move.Opens gs k) e whole = here done boxes top other below others (λ z. move.Opens fs z) (λ z. move.Opens gs z) h k e.1 e.2 (opens_kin fs gs done boxes e.0)
  move_kin good done boxes top other below others frames (move.Asks m args fs h) (move.Asks n brgs gs k) e whole =
      here done boxes top other below others (λ z. move.Asks m args fs z) (λ z. move.Asks n brgs gs z) h k e.3 e.4
      (subst (λ (z : MethodId). Fits (next_by setting t a done boxes top below (move.Asks m args fs a.heap)) (next_by setting t b done boxes other others (move.Asks z brgs gs b.heap))) e.0
      (asks_kin fs gs done boxes e.2 (native_of p m) args brgs e.1 whole))
  move_kin good done boxes top other below others frames (move.Returns h) (move.Returns k) e whole = here done boxes top other below others (λ z. move.Returns z) (λ z. move.Returns z) h k e.0 e.1 (finish_kin done boxes a.kept b.kept kin.kept)
  move_kin good done boxes top other below others frames (move.Raises x) (move.Raises y) e whole = subst (λ (z : EndCause). Fits (raises_next p a done boxes top below x) (raises_next p b done boxes other others z)) e (raises_kin x done boxes top other below others frames)
  move_kin good done boxes top other below others frames (move.Throws n c x) (move.Throws z d y) e whole =
      subst (λ (k : EndCause). Fits (throws_by a x (done + 1) boxes (thrown p c (Ref n) top below)) (throws_by b k (done + 1) boxes (thrown p d (Ref z) other others))) e.cause
      (subst (λ (k : ClassId). Fits (throws_by a x (done + 1) boxes (thrown p c (Ref n) top below)) (throws_by b x (done + 1) boxes (thrown p k (Ref z) other others))) e.class
      (throws_kin x (done + 1) boxes (thrown p c (Ref n) top below) (thrown p c (Ref z) other others) (thrown_kin p c of (Ref n) (Ref z) e.object top other below others frames)))
  move_kin good done boxes top other below others frames (move.Ends x) (move.Ends y) e whole = subst (λ (z : EndCause). Fits (over a x) (over b z)) e (over_kin x)
  move_kin good done boxes top other below others frames move.Stuck move.Stuck e whole = tt
  move_kin good done boxes top other below others frames _ _ e whole = absurd e

  frames_kin : (fs gs : List Activation) (done boxes : ℕ) → done < setting.limits.steps → FramesKin of fs gs → IsWholeThread setting a.heap (Alive fs done boxes) → Fits (frames_next setting t a fs done boxes) (frames_next setting t b gs done boxes)
  frames_kin [] [] done boxes lt e whole = over_kin cause.Done
  frames_kin (top ∷ fs) (other ∷ gs) done boxes lt e whole =
      move_kin (StandsIn a.heap top.stack) done boxes top other fs gs e (moves p top fs a.heap) (moves p other gs b.heap)
      (moves_kin p of owner t a.heap b.heap kin.heaps (rows_kin p) top other (whole lt).0 fs gs e) (whole lt).1
  frames_kin _ _ done boxes lt e whole = absurd e

  thread_kin : (x y : Thread) → ThreadKin of x y → IsWholeThread setting a.heap x → Fits (thread_next setting t a x) (thread_next setting t b y)
  thread_kin (Ended x) (Ended y) e whole = tt
  thread_kin (Alive fs done boxes) (Alive gs also more) e whole =
      subst (λ (z : ℕ). Fits (thread_next setting t a (Alive fs done boxes)) (thread_next setting t b (Alive gs z more))) e.1
      (subst (λ (z : ℕ). Fits (thread_next setting t a (Alive fs done boxes)) (thread_next setting t b (Alive gs done z))) e.2 counted)
    where
      counted : Fits (thread_next setting t a (Alive fs done boxes)) (thread_next setting t b (Alive gs done boxes))
      counted = elim (leb_tells setting.limits.steps done) [
        | inl w ↦ subst (λ (z : Bool). Fits (cond z (over a cause.Spent) (frames_next setting t a fs done boxes)) (cond z (over b cause.Spent) (frames_next setting t b gs done boxes))) (sym w.0) (over_kin cause.Spent)
        | inr w ↦ subst (λ (z : Bool). Fits (cond z (over a cause.Spent) (frames_next setting t a fs done boxes)) (cond z (over b cause.Spent) (frames_next setting t b gs done boxes))) (sym w.0) (frames_kin fs gs done boxes w.1 e.0 whole)
      ]
  thread_kin _ _ e whole = absurd e

pub next_kin : NextMovesAreKin
unfolding next_move
next_kin setting of owner t a b kin whole = thread_kin setting of owner t a b kin a.thread b.thread kin.threads whole
