-- Where a fiber goes on by itself its count falls never, and grows where it comes to pause.
use Rattle.std.proofs.Common.{◌≡◌, ◌<◌, ◌≤◌, ℕ, ℤ, pos, negsuc, zero, Bool, true, false, cond, not, List, [], ◌∷◌, Option, Some, None, refl, sym, ◌∙◌, ◌+◌, arith, suc}
use Rattle.kilim_fiber_spec.specs.Acts.{Apart}
use Rattle.std.specs.Prelude.{nat_le, nat_lt, ◌&&◌}
use Rattle.std.proofs.lemmas.Bool.{false≢true}
use Rattle.kilim_program.specs.declared.instr.Instr.{Instr}
use Rattle.kilim_program.specs.declared.names.BoxName.{BoxName}
use Rattle.kilim_program.specs.declared.names.ClassId.{ClassId}
use Rattle.kilim_program.specs.declared.names.MethodId.{MethodId}
use Rattle.kilim_program.specs.declared.value.Value.{Value}
use Rattle.kilim_program.specs.declared.value.Value.TheVariants.{Int, Null, Ref, Box, Fiber}
use Rattle.kilim_program.specs.Program.{Program}
use Rattle.kilim_run_state.specs.declared.cause.EndCause.{EndCause}
use Rattle.kilim_run_state.specs.declared.cause.EndCause.TheVariants as cause
use Rattle.kilim_run_state.specs.declared.value.Token.{Token}
use Rattle.kilim_run_state.specs.Machine.{Objects, Activation}
use Rattle.kilim_program.specs.Members.{execute_of}
use Rattle.kilim_run_machine.specs.Moves.{Move, moves, push_result, push_value}
use Rattle.kilim_run_machine.specs.Moves as move
use Rattle.kilim_run_machine.specs.Natives.{Native, FiberMember, Pc, Down, Up, Save, Place, Restore, Receiver, native_of}
use Rattle.kilim_run_machine.specs.Natives as native
use Rattle.kilim_run_machine.specs.Raising.{index_at, other_index, raised_class, thrown, unwound}
use Rattle.kilim_run_state.specs.Objects.{new_object}
use Rattle.kilim_run_state.specs.Shapes.{shape_of}
use Rattle.kilim_run_model.specs.Lone.{arg_at, box_limit, printed}
use Rattle.kilim_run_model.specs.State.{Setting}
use Rattle.kilim_fiber_laws.specs.woven_kin.Nexts.{Next, Goes, Rests, Ends, Stands, arg_next, counted, asks_next, begins_next, begun_with, found_next, finish_next, get_next, message_next, native_next, next_by, next_in, next_of, opens_next, print_next, put_next, raised, raises, resumes_next, thrown_to, with_new, spent_or, start_next, stood, ticked, yield_next, put_wait_next, wait_next, bound_next, PutsAgain, first_wait, putw_next, taken_at, wait_again, waiting_at}
use Rattle.kilim_fiber_laws.specs.woven_kin.Standing.{Standing}
use Rattle.kilim_fiber_spec.specs.Fibers.{Fib, Fiber_at, Saved, executes_on, first_receiver, is_pausing, is_rewinding, member_does, resumed, rewound, wfetch}
use Rattle.kilim_theorems.specs.weaving.unwinds.Law.{CountsOn, PausingCounts}

module _ (set : Setting) (W : Program) (t : ℕ) (x : Standing) where
  abbrev Ok : Next → Type 0
  Ok next = CountsOn x next

  -- the same flag, and a count that isn't less
  keeps : (g : Standing) → is_pausing g.fiber ≡ is_pausing x.fiber → x.done ≤ g.done → Ok (Goes g)
  keeps g same le = (le, λ before after. absurd (false≢true (sym before ∙ (sym same ∙ after))))

  goes : (b : Bool) (e : ℕ) → b ≡ is_pausing x.fiber → x.done ≤ e → (x.done ≤ e) × (is_pausing x.fiber ≡ false → b ≡ true → x.done < e)
  goes b e same le = (le, λ before after. absurd (false≢true (sym before ∙ (sym same ∙ after))))

  same_done : x.done ≤ x.done
  same_done = omega arith

  one_more : x.done ≤ x.done + 1
  one_more = omega arith

  less_more : x.done < x.done + 1
  less_more = omega arith

  ticked_ok : (counts : Bool) (z : Standing) → is_pausing z.fiber ≡ is_pausing x.fiber → z.done ≡ x.done → Ok (Goes (ticked counts z))
  ticked_ok true z same done = keeps (ticked true z) same (omega (arith, done))
  ticked_ok false z same done = keeps z same (omega (arith, done))

  spent_ok : (counts : Bool) (done : ℕ) (y : Next) → Ok y → Ok (spent_or set counts done y)
  spent_ok counts done y e = by (counts && nat_le set.limits.steps done)
    where
      by : (z : Bool) → Ok (cond z (Ends cause.Spent) y)
      by true = tt
      by false = e

  thrown_ok : (z : Standing) (why : EndCause) (left : List Activation) → is_pausing z.fiber ≡ is_pausing x.fiber → x.done ≤ z.done → Ok (thrown_to z why left)
  thrown_ok z why [] same le = tt
  thrown_ok z why (f ∷ fs) same le = goes _ _ same le

  raises_ok : (z : Standing) (why : EndCause) (left : ClassId → List Activation) (o : Option ClassId) → is_pausing z.fiber ≡ is_pausing x.fiber → x.done ≤ z.done → Ok (raises W z why left o)
  raises_ok z why left None same le = tt
  raises_ok z why left (Some c) same le = thrown_ok (with_new z (new_object W c)) why (left c) same le

  ticked_same : (counts : Bool) → is_pausing (ticked counts x).fiber ≡ is_pausing x.fiber
  ticked_same true = refl
  ticked_same false = refl

  ticked_more : (counts : Bool) → x.done ≤ (ticked counts x).done
  ticked_more true = one_more
  ticked_more false = same_done

  rewound_same : (f : Fib) → is_pausing (rewound f) ≡ is_pausing f
  rewound_same (Fiber_at lo r de re pa) = refl

  resumed_not : (f : Fib) → is_pausing (resumed f) ≡ false
  resumed_not (Fiber_at lo r de re pa) = refl

  -- ---- built-in methods

  module _ (fs : List Activation) (h : Objects) where
    abbrev z : Standing
    z = stood x fs h

    raised_ok : (why : EndCause) → Ok (raised W z why)
    raised_ok why = raises_ok (counted z) why (λ c. unwound W c (Ref x.next) fs) (raised_class W other_index why) refl one_more

    put_ok : (box : BoxName) (n : ℕ) (o : Option (List Token)) → Ok (put_next z box n o)
    put_ok box n None = tt
    put_ok box n (Some shape) = tt

    message_ok : (box : BoxName) (v : Value) → Ok (message_next set.program W z box v)
    message_ok box (Ref n) = put_ok box n (shape_of set.program h n)
    message_ok box Null = raised_ok cause.Null
    message_ok box _ = tt

    put_wait_ok : (box : BoxName) (n : ℕ) (o : Option (List Token)) → Ok (put_wait_next set.program z box n o)
    put_wait_ok box n None = tt
    put_wait_ok box n (Some shape) = tt

    wait_ok : (box : BoxName) (v : Value) → Ok (wait_next set.program W z box v)
    wait_ok box (Ref n) = put_wait_ok box n (shape_of set.program h n)
    wait_ok box Null = raised_ok cause.Null
    wait_ok box _ = tt

    first_ok : (v u : Value) → Ok (first_wait set.program W z v u)
    first_ok (Box box) u = wait_ok box u
    first_ok _ u = tt

    again_ok : (v : Value) (kept : List Apart) → Ok (wait_again set z v kept)
    again_ok (Box box) (k ∷ ks) = spent_ok true x.done (PutsAgain box k.root k.shape (taken_at (record z { heap = k.heap; aside = ks })) (waiting_at box z) (taken_at (record z { aside = ks }))) tt
    again_ok _ _ = tt

    putw_ok : (again : Bool) (v u : Value) → Ok (putw_next set W again z v u)
    putw_ok true v u = again_ok v x.aside
    putw_ok false v u = spent_ok true x.done (first_wait set.program W z v u) (first_ok v u)

    bound_ok : (box : BoxName) (i : ℤ) → Ok (bound_next W z box i)
    bound_ok box (pos (suc n)) = tt
    bound_ok box (pos zero) = raised_ok cause.Size
    bound_ok box (negsuc n) = raised_ok cause.Size

    start_ok : (n : ℕ) (o : Option (List Token)) → Ok (start_next z n o)
    start_ok n None = tt
    start_ok n (Some shape) = tt

    print_ok : (o : Option Token) → Ok (print_next z o)
    print_ok None = tt
    print_ok (Some token) = tt

    arg_ok : (o : Option ℤ) → Ok (arg_next W z o)
    arg_ok None = raised_ok cause.Index
    arg_ok (Some n) = goes _ _ refl one_more

    get_ok : (v : Value) → Ok (get_next z v)
    get_ok (Box box) = tt
    get_ok _ = tt

    member_ok : (member : FiberMember) (args : List Value) (f : Fib) → is_pausing f ≡ is_pausing x.fiber → Ok (member_does Stands (λ g v. Goes (record z { fiber = g; frames = push_result v fs })) member args f)
    member_ok Pc (Fiber ∷ []) (Fiber_at lo (Saved q y vs) de re pa) same = goes _ _ same same_done
    member_ok Down (Fiber ∷ []) (Fiber_at lo r [] re pa) same = goes _ _ same same_done
    member_ok Down (Fiber ∷ []) (Fiber_at lo r (d ∷ de) re pa) same = goes _ _ same same_done
    member_ok Up (Fiber ∷ []) (Fiber_at [] r de re pa) same = tt
    member_ok Up (Fiber ∷ []) (Fiber_at (k ∷ lo) r de re pa) same = goes _ _ same same_done
    member_ok Save (v ∷ Fiber ∷ []) (Fiber_at lo (Saved q y vs) de re pa) same = goes _ _ same same_done
    member_ok Place (Int (pos n) ∷ u ∷ Fiber ∷ []) (Fiber_at lo (Saved q y vs) de re pa) same = goes _ _ same same_done
    member_ok Restore (Fiber ∷ []) (Fiber_at lo (Saved q y []) de re pa) same = tt
    member_ok Restore (Fiber ∷ []) (Fiber_at lo (Saved q y (v ∷ vs)) de re pa) same = goes _ _ same same_done
    member_ok Receiver (Fiber ∷ []) (Fiber_at lo r [] re pa) same = tt
    member_ok Receiver (Fiber ∷ []) (Fiber_at lo r (Saved q y vs ∷ de) re pa) same = goes _ _ same same_done
    member_ok _ _ _ same = tt

    -- one that is made counts, and pauses
    yield_ok : (again : Bool) → Ok (yield_next again z)
    yield_ok true = goes _ _ (rewound_same x.fiber) same_done
    yield_ok false = (one_more, λ before after. less_more)

    native_ok : (n : Native) (args : List Value) → Ok (native_next set W z n args)
    native_ok native.Execute (Ref n ∷ Fiber ∷ []) = goes _ _ refl one_more
    native_ok native.Getnb (Box box ∷ []) = tt
    native_ok native.ArgCount [] = goes _ _ refl one_more
    native_ok native.Start (Ref n ∷ []) = start_ok n (shape_of set.program h n)
    native_ok native.Put (Box box ∷ v ∷ []) = message_ok box v
    native_ok native.PutWait (v ∷ u ∷ Fiber ∷ []) = putw_ok (is_rewinding x.fiber) v u
    native_ok native.Bound (Box box ∷ Int i ∷ []) = bound_ok box i
    native_ok native.Get (v ∷ Fiber ∷ []) = spent_ok true x.done (get_next z v) (get_ok v)
    native_ok native.Print (v ∷ []) = print_ok (printed v)
    native_ok native.Yield (Fiber ∷ []) = yield_ok (is_rewinding x.fiber)
    native_ok native.Arg (Int i ∷ []) = arg_ok (arg_at set.limits.args i)
    native_ok (native.OfFiber member) args = member_ok member args x.fiber refl
    native_ok _ _ = tt

    asks_ok : (n : Option Native) (args : List Value) → Ok (asks_next set W z args n)
    asks_ok None args = tt
    asks_ok (Some n) args = native_ok n args

    opens_ok : (counts : Bool) → Ok (opens_next t counts z)
    opens_ok counts = by (nat_lt x.boxes box_limit)
      where
        by : (b : Bool) → Ok (cond b (Goes (ticked counts (record (stood x fs h) { frames = push_value (Box (record { task = t; number = x.boxes })) fs; boxes = x.boxes + 1 }))) (Ends cause.Boxes))
        by true = ticked_ok counts (record (stood x fs h) { frames = push_value (Box (record { task = t; number = x.boxes })) fs; boxes = x.boxes + 1 }) refl refl
        by false = tt

  -- ---- moves

  begins_ok : (h : Objects) (o : Option (List Activation)) → Ok (begins_next (record x { heap = h }) o)
  begins_ok h None = tt
  begins_ok h (Some []) = tt
  begins_ok h (Some (top ∷ below)) = goes _ _ refl one_more

  finish_ok : (h : Objects) (o : Option ℕ) → Ok (finish_next set W (record x { heap = h }) o)
  finish_ok h None = elim (is_pausing x.fiber) as (λ (b : Bool). Ok (cond b (Rests (record x { heap = h; frames = [] })) (Ends cause.Done))) [ true ↦ tt | false ↦ tt ]
  finish_ok h (Some n) = begins_ok h (begun_with W (execute_of W set.main) (Ref n ∷ Fiber ∷ []))

  by_ok : (counts : Bool) (top : Activation) (below : List Activation) (m : Move) → Ok (next_by set W t counts x top below m)
  by_ok counts top below (move.Runs change frames h) = ticked_ok counts (stood x frames h) refl refl
  by_ok counts top below (move.Makes o frames h) = ticked_ok counts _ refl refl
  by_ok counts top below (move.Opens frames h) = opens_ok frames h counts
  by_ok counts top below (move.Asks id args frames h) = asks_ok frames h (native_of W id) args
  by_ok counts top below (move.Returns h) = finish_ok h x.kept
  by_ok counts top below (move.Raises why) =
      raises_ok (ticked counts x) why (λ c. thrown W c (Ref x.next) top below) (raised_class W (index_at W top) why) (ticked_same counts) (ticked_more counts)
  by_ok counts top below (move.Throws object class why) = thrown_ok (ticked counts x) why (thrown W class (Ref object) top below) (ticked_same counts) (ticked_more counts)
  by_ok counts top below (move.Ends why) = tt
  by_ok counts top below move.Stuck = tt

  found_ok : (top : Activation) (below : List Activation) (o : Option (Instr × ℕ × Bool)) → Ok (found_next set W t x top below o)
  found_ok top below None = tt
  found_ok top below (Some found) =
      spent_ok (found.2 && not (is_rewinding x.fiber)) x.done _ (by_ok (found.2 && not (is_rewinding x.fiber)) top below (moves W top below x.heap))

  resumes_ok : (o : Option MethodId) → Ok (resumes_next W x o)
  resumes_ok None = tt
  resumes_ok (Some m) = (same_done, λ before after. absurd (false≢true (sym (resumed_not x.fiber) ∙ after)))

  frames_ok : (marks : List (List Bool)) (fs : List Activation) → Ok (next_in set W marks t x fs)
  frames_ok marks [] = resumes_ok (executes_on W x.heap (first_receiver x.fiber))
  frames_ok marks (top ∷ below) = found_ok top below (wfetch set W marks top.method top.place)

pub pausing_counts : PausingCounts
unfolding next_of
pausing_counts set W marks t f = frames_ok set W t f marks f.frames
