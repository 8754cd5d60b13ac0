-- The store where only the entry was reached.
use Rattle.std.proofs.Common.{◌≡◌, ℕ, zero, suc, ◌<◌, ◌≤◌, eqb, Bool, cond, [], ◌∷◌, length, Some, refl, sym, ap, subst, ◌∙◌, arith, inl, inr}
use Rattle.std.proofs.lemmas.Bool.{cases_Bool}
use Rattle.kilim_isolation_paths.specs.Paths.{Machine, AreDifferent}
use Rattle.kilim_isolation_paths.specs.Search.{AreLinked, AreFew, Good, Known, states_at}
use Rattle.kilim_isolation_paths.specs.Stored.{Stored}
use Rattle.kilim_isolation_paths.specs.declared.store.Reached.{Reached}

abbrev pub first : {S : Type 0} → S → Reached S
first e = record { place = 0; state = e; from = 0 }

module _ {S : Type 0} (m : Machine S) (fits : ℕ → S → Type 0) (e : S) (is : e ≡ m.entry) where
  linked : AreLinked m (first e ∷ [])
  linked zero x at = let same : first e ≡ x = cc in (ap (λ (r : Reached S). r.place) (sym same), ap (λ (r : Reached S). r.state) (sym same) ∙ is)
  linked (suc k) x at = absurd (cc)

  different : (q : ℕ) → AreDifferent (states_at q (first e ∷ []))
  different q =
      elim (cases_Bool (eqb 0 q)) [
        | inl same ↦ subst (λ (b : Bool). AreDifferent (cond b (e ∷ []) [])) (sym same) (tt, tt)
        | inr apart ↦ subst (λ (b : Bool). AreDifferent (cond b (e ∷ []) [])) (sym apart) tt
      ]

  few : AreFew (first e ∷ [])
  few q =
      elim (cases_Bool (eqb 0 q)) [
        | inl same ↦ subst (λ (b : Bool). length (cond b (e ∷ []) []) ≤ 256) (sym same) (omega arith)
        | inr apart ↦ subst (λ (b : Bool). length (cond b (e ∷ []) []) ≤ 256) (sym apart) (omega arith)
      ]

  known : 0 < m.size → fits 0 e → Known m fits (first e ∷ [])
  known some fit = record { linked = linked; different = different; within = (some, tt); fit = (fit, tt); start = (0, ap (λ (s : S). Some s) is) }

  pub good_first : (s : Stored S) → 0 < m.size → fits 0 e → s ≡ record { entries = first e ∷ []; size = m.size } → Good m fits s []
  good_first s some fit at = subst (λ (t : Stored S). Good m fits t []) (sym at) (record { known = known some fit; few = few; size = refl; found = tt; ordered = tt })
