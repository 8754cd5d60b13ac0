-- Paths of the woven machine.
use Rattle.std.specs.Prelude.{◌≡◌, ◌⊎◌, ℕ, suc, ◌+◌, ◌≤◌, Bool, true, List, Option, Some, None}
use Rattle.kilim_program.specs.Program.{Program}
use Rattle.kilim_run_model.specs.State.{Setting}
use Rattle.kilim_fiber_spec.specs.Fibers.{Fib, Woven_state, WRun, Resting, WStop, is_pausing, wstep, wsteps}

-- More uncounted instructions never stand before the next counted one, rest or end: 512 frames are wound down, or up again,
-- by codes of at most 32,767 bytes.
unfoldable pub most_uncounted : ℕ
most_uncounted = 67108864

abbrev pub done_in : Woven_state → Option ℕ
done_in (WRun m p l s b f w ps) = Some w.done
done_in (Resting f w ps) = None
done_in (WStop over) = None

module _ (set : Setting) (W : Program) (marks : List (List Bool)) where
  -- a counted instruction is done here, or the fiber rests, or it is over
  abbrev pub IsMark : Woven_state → Type 0
  IsMark x = ((n : ℕ) × (done_in x ≡ Some n) × (done_in (wstep set W marks x) ≡ Some (n + 1))) ⊎ (done_in x ≡ None)

  -- The machine comes from one state to another; each state on the way has the property Q. So many uncounted instructions
  -- stand before the first state since the last mark, and so many before the last one; before a mark never more than `most`.
  pub data Comes (most : ℕ) (Q : Woven_state → Type 0) : ℕ → Woven_state → ℕ → Woven_state → Type 0 where
    stop : {c : ℕ} {x : Woven_state} → Comes most Q c x c x
    idle : {c d : ℕ} {x y : Woven_state} → Q x → Comes most Q (suc c) (wstep set W marks x) d y → Comes most Q c x d y
    mark : {c d : ℕ} {x y : Woven_state} → Q x → c ≤ most → IsMark x → Comes most Q 0 (wstep set W marks x) d y → Comes most Q c x d y

  -- Where it pauses, it comes to rest within so many instructions, in the same world and with the same pauses to come.
  abbrev pub ComesToRest : ℕ → Woven_state → Type 0
  ComesToRest most (WRun m p l s b f w ps) = is_pausing f ≡ true → (n : ℕ) × (n ≤ most) × (g : Fib) × (wsteps set W marks n (WRun m p l s b f w ps) ≡ Resting g w ps)
  ComesToRest most (Resting f w ps) = Unit {0}
  ComesToRest most (WStop over) = Unit {0}

  -- from a state on, the next mark comes soon
  abbrev pub Soon : ℕ → Woven_state → Type 0
  Soon most x = (n : ℕ) × (n ≤ most) × IsMark (wsteps set W marks n x)
