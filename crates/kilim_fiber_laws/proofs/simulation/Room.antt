-- The next instruction isn't stuck, and there is room on the stacks for what it leaves there. So a state is fine.
use Rattle.std.proofs.Common.{◌≡◌, ◌≢◌, ℕ, Bool, true, false, List, [], ◌∷◌, Option, Some, None, refl, sym, ap, subst}
use Rattle.std.specs.FinMap.{get}
use Rattle.std.specs.Prelude.{if◌then◌else◌, ◌==◌}
use Rattle.kilim_program.specs.declared.class.Method.{Method}
use Rattle.kilim_program.specs.declared.instr.Instr.{Instr}
use Rattle.kilim_program.specs.declared.names.MethodId.{MethodId}
use Rattle.kilim_program.specs.declared.value.Value.{Value}
use Rattle.kilim_program.specs.declared.value.Value.TheVariants as value
use Rattle.kilim_program.specs.Lengths.{fetched, first_place}
use Rattle.kilim_program.specs.Names.{◌>>=◌, method_at}
use Rattle.kilim_program.specs.Program.{Program}
use Rattle.kilim_type_sound.specs.Fits.{AreThere, IsThere}
use Rattle.kilim_run_interp.specs.Step.{FitsStack}
use Rattle.kilim_run_machine.specs.Does.{does}
use Rattle.kilim_run_state.specs.declared.value.Object.{Object}
use Rattle.kilim_program.specs.Members.{execute_of}
use Rattle.kilim_run_machine.specs.Effect.{Effect}
use Rattle.kilim_run_state.specs.Machine.{Activation}
use Rattle.kilim_run_machine.specs.Moves.{effect_found, effect_in, effect_of}
use Rattle.kilim_run_rows.specs.Outcome.{is_stuck}
use Rattle.kilim_run_model.specs.State.{Setting, class_of}
use Rattle.kilim_fiber_spec.specs.Acts.{Lost, World}
use Rattle.kilim_fiber_spec.specs.Fibers.{Fib, Resting, WRun, WStop, Woven_state, executes_on, first_receiver, frame, marked, marks_of, wcode_in, wfetch, wfound, wresumes, wstep}
use Rattle.kilim_fiber_spec.specs.Rooms.{GivesWhole, HasRoom, IsFineAt, IsFineState, MemberHasRoom, ResultHasRoom}
use Rattle.kilim_fiber_spec.specs.Thread.{own_in, own_of}

-- a marked instruction stands in the code
marked_fetched : (es : List (ℕ × Instr)) (bs : List Bool) (end p : ℕ) (i : Instr) (nx : ℕ) (mk : Bool) → marked es bs end p ≡ Some (i, nx, mk) → fetched es end p ≡ Some (i, nx)
marked_fetched [] [] end p i nx mk h = absurd (cc)
marked_fetched [] (b ∷ bs) end p i nx mk h = absurd (cc)
marked_fetched (e ∷ es) [] end p i nx mk h = absurd (cc)
marked_fetched (e ∷ es) (b ∷ bs) end p i nx mk h = by (e.0 == p) h (λ k. marked_fetched es bs end p i nx mk k)
  where
    of : Option (Instr × ℕ × Bool) → Option (Instr × ℕ)
    of None = None
    of (Some z) = Some (z.0, z.1)

    by : (t : Bool) → (if t then Some (e.1, first_place es end, b) else marked es bs end p) ≡ Some (i, nx, mk) → (marked es bs end p ≡ Some (i, nx, mk) → fetched es end p ≡ Some (i, nx))
        → (if t then Some (e.1, first_place es end) else fetched es end p) ≡ Some (i, nx)
    by true h go = ap of h
    by false h go = go h

module _ (set : Setting) (W : Program) (marks : List (List Bool)) where
  -- The next instruction isn't stuck, and has room; what it gives away is a whole tree.
  abbrev pub NextHasRoom : Woven_state → Type 0
  NextHasRoom (WRun m p l s b f w ps) =
      (i : Instr) (nx : ℕ) (counts : Bool) → wfetch set W marks m p ≡ Some (i, nx, counts)
      → HasRoom W (does W (own_of W m) i nx l s w.heap) m b × MemberHasRoom W (does W (own_of W m) i nx l s w.heap) m × GivesWhole set.program W w.heap (does W (own_of W m) i nx l s w.heap)
  NextHasRoom (Resting f w ps) = Unit {0}
  NextHasRoom (WStop over) = Unit {0}

  -- what stands on the top frame's stack is in the heap
  abbrev pub StackIsThere : Woven_state → Type 0
  StackIsThere (WRun m p l s b f w ps) = AreThere w.heap s
  StackIsThere (Resting f w ps) = Unit {0}
  StackIsThere (WStop over) = Unit {0}

  module _ (m : MethodId) (p : ℕ) (l s : List Value) (b : List Activation) (f : Fib) (w : World) (ps : List ℕ) where
    effect_at : (o : Option Method) (i : Instr) (nx : ℕ) (mk : Bool) → wcode_in (marks_of marks m) o p ≡ Some (i, nx, mk) → effect_in W (frame m p l s) w.heap o ≡ does W (own_in o) i nx l s w.heap
    effect_at None i nx mk e = absurd (cc)
    effect_at (Some own) i nx mk e = ap (λ (z : Option (Instr × ℕ)). effect_found W own (frame m p l s) w.heap z) (marked_fetched own.code (marks_of marks m) own.code_length p i nx mk e)

    run_fine : NextHasRoom (WRun m p l s b f w ps) → AreThere w.heap s → wstep set W marks (WRun m p l s b f w ps) ≢ WStop Lost → IsFineAt set.program W m p l s b w.heap
    run_fine room there ok = by (wfetch set W marks m p) refl
      where
        by : (o : Option (Instr × ℕ × Bool)) → wfetch set W marks m p ≡ o → IsFineAt set.program W m p l s b w.heap
        by None e = absurd (ok (ap (λ (o : Option (Instr × ℕ × Bool)). wfound set W marks o (frame m p l s) b f w ps) e))
        by (Some z) e =
            let r = room z.0 z.1 z.2 e in
            let d : effect_of W (frame m p l s) w.heap ≡ does W (own_of W m) z.0 z.1 l s w.heap = effect_at (method_at W m) z.0 z.1 z.2 e in
            record {
              there = there;
              fine = record {
                fine = subst (λ (x : Effect). is_stuck x ≡ false) (sym d) r.0.unstuck;
                fits = subst (λ (x : Effect). FitsStack W x m b) (sym d) r.0.fits;
              };
              result = subst (λ (x : Effect). ResultHasRoom W x m) (sym d) r.0.result;
              member = subst (λ (x : Effect). MemberHasRoom W x m) (sym d) r.1;
              gives = subst (λ (x : Effect). GivesWhole set.program W w.heap x) (sym d) r.2;
            }

  -- the receiver of the first frame of a fiber that rests
  first_there : (f : Fib) (w : World) (ps : List ℕ) → wstep set W marks (Resting f w ps) ≢ WStop Lost → IsThere w.heap (first_receiver f)
  first_there f w ps ok = by (first_receiver f) (λ e. ok (ap (λ (o : Option MethodId). wresumes set W marks o f w ps) e))
    where
      by : (v : Value) → executes_on W w.heap v ≢ None → IsThere w.heap v
      by (value.Ref n) go = at (get w.heap n) refl
        where
          at : (o : Option Object) → get w.heap n ≡ o → IsThere w.heap (value.Ref n)
          at (Some o) e = (o, e)
          at None e = absurd (go (ap (λ (o : Option Object). o >>= λ (object : Object). class_of object.class.base >>= λ c. execute_of W c) e))
      by (value.Int x) go = tt
      by (value.Long x) go = tt
      by value.Null go = tt
      by (value.Text units) go = tt
      by (value.Box box) go = tt
      by value.Fiber go = tt

  -- where its next instruction has room, and its step isn't lost
  pub is_fine : (z : Woven_state) → NextHasRoom z → StackIsThere z → wstep set W marks z ≢ WStop Lost → IsFineState set.program W z
  is_fine (WRun m p l s b f w ps) room there ok = run_fine m p l s b f w ps room there ok
  is_fine (Resting f w ps) room there ok = first_there f w ps ok
  is_fine (WStop over) room there ok = tt
