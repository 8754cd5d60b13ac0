-- The beginnings: a constructor, and `execute`.
use Rattle.std.proofs.Common.{◌≡◌, ℕ, ◌+◌, ◌*◌, ◌≤◌, Bool, true, false, List, [], ◌∷◌, ◌++◌, length, refl, sym, ap, subst, ◌∙◌, arith}
use Rattle.std.specs.Prelude.{slice_get}
use Rattle.std.proofs.lemmas.Bool.{false≢true}
use Rattle.kilim_program.specs.declared.names.MethodId.{MethodId}
use Rattle.kilim_program.specs.declared.value.Value.{Value}
use Rattle.kilim_program.specs.declared.value.Value.TheVariants as value
use Rattle.kilim_program.specs.Program.{Program}
use Rattle.kilim_run_state.specs.Machine.{Activation}
use Rattle.kilim_run_state.specs.Machine.{slots_of}
use Rattle.kilim_run_machine.specs.Moves.{entered}
use Rattle.kilim_run_model.specs.State.{Setting}
use Rattle.kilim_fiber_spec.specs.Acts.{World}
use Rattle.kilim_fiber_spec.specs.Thread.{Run, self_of}
use Rattle.kilim_fiber_spec.specs.Fibers.{Fib, Fiber_at, Saved, Woven_state, WRun}
use Rattle.kilim_fiber_spec.specs.Form.{Facts, Starts, Members, longest, is_pausable}
use Rattle.kilim_fiber_spec.specs.Serves.{Rows}
use Rattle.kilim_fiber_spec.specs.Links.{Forms, code, Takes, Both, Fw, unwoven, woven, Fine}
use Rattle.kilim_fiber_laws.proofs.simulation.Paths as path
use Rattle.std.specs.Prelude.{replicate, ◌-◌}
use Rattle.kilim_fiber_spec.specs.Fibers.{new_fiber, enter}
use Rattle.kilim_type_sound.specs.Fits.{AreThere, IsThere}
use Rattle.kilim_fiber_laws.proofs.simulation.Still.{StepIsKnown}
use Rattle.kilim_fiber_laws.proofs.simulation.Forward.{calm}
use Rattle.kilim_fiber_laws.proofs.simulation.Forward as forward

module _ (set : Setting) (W : Program) (marks : List (List Bool)) (most : ℕ) (Q : Woven_state → Type 0)
    (runs : (m : MethodId) (p : ℕ) (l s : List Value) (b : List Activation) (f : Fib) (w : World) (ps : List ℕ) → StepIsKnown set W marks (WRun m p l s b f w ps) → AreThere w.heap s → Q (WRun m p l s b f w ps))
    (members : Members set.program W) (form : Forms set W marks) (facts : (m : MethodId) → Facts set.program W (code set W marks) (form m)) (rows : Rows set W marks form)
    (enough : calm + 8 + 512 * longest ≤ most) where
  -- a method that isn't pausable begins, with no other frame and a new fiber
  pub constructor_begins : (c : MethodId) (args : List Value) (w : World) (ps : List ℕ) → is_pausable set.program c ≡ false
      → (t : Both) × (unwoven t ≡ Run c 0 (entered set.program c args).locals [] (self_of set.program c args) [] w) × (woven set W marks form t ≡ enter set W marks c args [] new_fiber w ps) × Fine set W marks form t
  constructor_begins c args w ps np = (
    Fw c 0 [] (entered set.program c args).locals (entered W c args).locals (self_of set.program c args) [] [] 0 value.Null w ps,
    refl,
    ap (λ (k : ℕ). WRun c k (entered W c args).locals [] [] (Fiber_at [] (Saved 0 value.Null []) [] false false) w ps) quiet.0,
    record {
      alike = λ k z. ap (λ (ls : List Value). slice_get ls k) (sym same_locals);
      held = forward.held_false set W marks most Q runs members form facts rows enough c (entered set.program c args).locals (entered W c args).locals (self_of set.program c args) (form c).has_calls quiet.1 (subst (λ (ls : List Value). length (entered set.program c args).locals ≤ length ls) (sym same_locals) (omega arith)) (λ plain. same_locals);
      stacked = tt;
    },
  )
    where
      at0 : (a : Bool) → (form c).has_calls ≡ a → Starts set.program W (code set W marks) (form c) a → ((form c).at 0 ≡ 0) × (a ≡ false)
      at0 true e st = absurd (false≢true (sym np ∙ (facts c).calls_pausable e))
      at0 false e st = (st, refl)

      quiet : ((form c).at 0 ≡ 0) × ((form c).has_calls ≡ false)
      quiet = at0 (form c).has_calls refl (facts c).starts

      same_locals : (entered W c args).locals ≡ (entered set.program c args).locals
      same_locals = ap (λ (k : ℕ). slots_of args ++ replicate (k - length (slots_of args)) value.Null) (rows.same_slots c np)

  -- `execute` of a started task: a few added instructions lead to a state that both sides share
  pub execute_begins : (c : MethodId) (n : ℕ) (w : World) (ps : List ℕ) → Takes set W marks form c (value.Ref n ∷ []) (value.Ref n) → is_pausable set.program c ≡ true → IsThere w.heap (value.Ref n)
      → (t : Both) × (unwoven t ≡ Run c 0 (entered set.program c (value.Ref n ∷ [])).locals [] (value.Ref n) [] w) × Fine set W marks form t
      × (d : ℕ) × (d ≤ longest) × path.To set W marks most Q runs 0 (enter set W marks c (value.Ref n ∷ value.Fiber ∷ []) [] new_fiber w ps) d (woven set W marks form t)
  execute_begins c n w ps takes pauses self_there =
      let z = forward.begun set W marks most Q runs members form facts rows enough c (value.Ref n ∷ []) [] 0 value.Null (value.Ref n) w ps takes tt pauses self_there in
      (Fw c 0 [] (entered set.program c (value.Ref n ∷ [])).locals z.0 (value.Ref n) [] [] 0 value.Null w ps, refl, z.4, z.1, z.2, z.3)
