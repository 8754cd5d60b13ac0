-- A fiber's history goes on.
use Rattle.std.proofs.Common.{◌≡◌, ℕ, zero, suc, Bool, List, [], ◌∷◌, ◌++◌, refl, sym, ap, subst, ◌∙◌}
use Rattle.kilim_program.specs.Program.{Program}
use Rattle.kilim_run_journal.specs.declared.entry.Act.{Act}
use Rattle.kilim_run_model.specs.declared.deed.Deed.{Deed}
use Rattle.kilim_run_model.specs.State.{Setting}
use Rattle.kilim_fiber_laws.specs.woven_kin.history.History.{ComesTo, Does, Follows, GoesOn, Leads, Outcome, Reaches, StopsAt, state_of, took}
use Rattle.kilim_fiber_laws.specs.woven_kin.history.Laws.{HistoryGoesOn}
use Rattle.kilim_fiber_laws.proofs.woven_kin.history.Steps.{machine_follows}
use Rattle.kilim_fiber_laws.specs.woven_kin.Laws.{tree_came}
use Rattle.kilim_fiber_laws.specs.woven_kin.Nexts.{Next, Goes, Puts, Gets, Probes, Starts, Prints, Rests, Ends, Stands, next_of, PutWaits, Bounds, PutsAgain, apart_at}
use Rattle.kilim_fiber_laws.specs.woven_kin.Standing.{Standing}
use Rattle.kilim_fiber_spec.specs.Acts.{Action, Lost, Wants}
use Rattle.kilim_fiber_spec.specs.Fibers.{WStop, Woven_state, wstep, wsteps}

append_append : (xs : List Deed) (d : Deed) (ys : List Deed) → (xs ++ d ∷ []) ++ ys ≡ xs ++ d ∷ ys
append_append [] d ys = refl
append_append (x ∷ xs) d ys = ap (λ (ds : List Deed). x ∷ ds) (append_append xs d ys)

append_none : (xs : List Deed) → xs ++ [] ≡ xs
append_none [] = refl
append_none (x ∷ xs) = ap (λ (ds : List Deed). x ∷ ds) (append_none xs)

module _ (set : Setting) (W : Program) (marks : List (List Bool)) where
  -- a step more
  pub steps_more : (j : ℕ) (x y : Woven_state) → wsteps set W marks j x ≡ y → wsteps set W marks (suc j) x ≡ wstep set W marks y
  steps_more zero x y e = ap (wstep set W marks) e
  steps_more (suc j) x y e = steps_more j (wstep set W marks x) y e

  module _ (t : ℕ) (first : List Deed → List ℕ → Woven_state) (deeds : List Deed) (acts : List Act) (x : Standing) (reached : Reaches set W marks t first deeds acts x) where
    abbrev out : Outcome
    out rest done ps = wstep set W marks (state_of t x rest done ps)

    -- for some pauses it comes where the step leads
    abbrev Comes : List Deed → Woven_state → Type 0
    Comes ds y = (ps : List ℕ) × (j : ℕ) × (wsteps set W marks j (first ds ps) ≡ y)

    to : (rest : List Deed) (k : ℕ) (more : List ℕ) (y : Woven_state) → out rest acts (k ∷ more) ≡ y → Comes (deeds ++ rest) y
    to rest k more y e =
        let r = reached rest k more in
        (r.0, suc r.1, steps_more r.1 (first (deeds ++ rest) r.0) (state_of t x rest acts (k ∷ more)) r.2 ∙ e)

    -- with no deed to come
    over : (more : List ℕ) (y : Woven_state) → out [] acts (0 ∷ more) ≡ y → Comes deeds y
    over more y e = subst (λ (ds : List Deed). Comes ds y) (append_none deeds) (to [] 0 more y e)

    goes : (y : Standing) → ((rest : List Deed) (done : List Act) (ps : List ℕ) → out rest done ps ≡ state_of t y rest done ps) → Reaches set W marks t first deeds acts y
    goes y e rest k more = to rest k more (state_of t y rest acts (k ∷ more)) (e rest acts (k ∷ more))

    stops : (a : Action) (y : Standing) → StopsAt out a y → ComesTo set W marks t first deeds acts a y
    stops a y e =
        let s = e acts [] in
        let r = over [] (WStop (Wants a s.0)) s.1 in
        (r.0, r.1, s.0, r.2, s.2, s.3, s.4, s.5, s.6)

    -- behind a deed; a `get` and a put that waits have used up what is left of their pauses
    behind : (d : Deed) (y : Standing) → Leads t out d y → GoesOn set W marks t first deeds acts d y
    behind d y e rest k more =
        subst (λ (ds : List Deed). Comes ds (state_of t y rest (d.act ∷ acts) (k ∷ more))) (sym (append_append deeds d rest)) (to (d ∷ rest) k more (state_of t y rest (d.act ∷ acts) (k ∷ more)) (e rest acts (k ∷ more)))

    behind_get : (d : Deed) (y : Standing) → Leads t (λ rest done ps. out rest done (0 ∷ ps)) d y → GoesOn set W marks t first deeds acts d y
    behind_get d y e rest k more =
        subst (λ (ds : List Deed). Comes ds (state_of t y rest (d.act ∷ acts) (k ∷ more))) (sym (append_append deeds d rest)) (to (d ∷ rest) 0 (k ∷ more) (state_of t y rest (d.act ∷ acts) (k ∷ more)) (e rest acts (k ∷ more)))

    onward : (y : Next) → Does set t out y → Follows set W marks t first deeds acts y
    onward (Goes y) e = goes y e
    onward (Rests y) e = goes y e
    onward (Puts box root shape y) e = (stops _ y e.0, λ n. behind _ _ (e.1 n))
    onward (PutWaits box root shape paused y) e = (stops _ y e.0, λ rest k more. to rest (suc k) more (state_of t (apart_at set.program root shape paused) rest acts (k ∷ more)) (e.1 rest acts k more), λ n. behind_get _ _ (e.2 n))
    onward (PutsAgain box root shape full paused y) e = (stops _ full e.0, λ rest k more. to rest (suc k) more (state_of t paused rest acts (k ∷ more)) (e.1 rest acts k more), λ n. behind_get _ _ (e.2 n))
    onward (Bounds box most y) e = (stops _ y e.0, behind _ _ e.1)
    onward (Gets box paused y) e = (
      stops _ y e.0,
      λ rest k more. to rest (suc k) more (state_of t paused rest acts (k ∷ more)) (e.1 rest acts k more),
      λ n shape os d. behind_get (took box n shape) (tree_came os y) (e.2 n shape os d),
    )
    onward (Probes box y) e = (stops _ y e.0, behind _ _ e.1, λ n shape os d. behind (took box n shape) (tree_came os y) (e.2 n shape os d))
    onward (Starts root shape y) e = (stops _ y e.0, λ n. behind _ _ (e.1 n))
    onward (Prints token y) e = (stops _ y e.0, behind _ _ e.1)
    onward (Ends why) e =
        let s = e acts [] in
        let r = over [] (WStop (Wants _ s.0)) s.1 in
        (r.0, r.1, s.0, r.2, s.2)
    onward Stands e = over [] (WStop Lost) (e acts [])

pub history_goes_on : HistoryGoesOn
history_goes_on set W marks t first deeds acts x reached = onward set W marks t first deeds acts x reached (next_of set W marks t x) (machine_follows set W marks t x)
