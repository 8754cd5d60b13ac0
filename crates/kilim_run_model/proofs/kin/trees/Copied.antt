-- The names of a new tree, and its copies.
use Rattle.std.proofs.Common.{◌≡◌, ℕ, suc, ◌+◌, ◌<◌, ◌≤◌, Bool, cond, List, [], ◌∷◌, length, Some, refl, sym, ap, ◌∙◌, inl, inr, arith}
use Rattle.std.proofs.lemmas.Bool.Decides.{eqb_tells}
use Rattle.std.proofs.lemmas.Bool.{eq-eqb}
use Rattle.std.proofs.lemmas.Option.{same_Some, none-some}
use Rattle.kilim_run_state.specs.declared.value.Object.{Object}
use Rattle.kilim_run_state.specs.Machine.{Objects}
use Rattle.kilim_run_model.specs.Kept.{IsIn}
use Rattle.kilim_run_model.specs.kin.Kin.{Names}
use Rattle.kilim_run_model.specs.kin.trees.TreeKin.{Copies, names_from}

pub first_name : (base : ℕ) (x : ℕ) (xs : List ℕ) → names_from base (x ∷ xs) base ≡ Some x
first_name base x xs = ap (λ (b : Bool). cond b (Some x) (names_from (suc base) xs base)) (eq-eqb base base refl)

-- where a name stands among the new ones
pub names_bounds : (base : ℕ) (xs : List ℕ) (n x : ℕ) → names_from base xs n ≡ Some x → (base ≤ n) × (n < base + length xs) × IsIn x xs
names_bounds base [] n x e = absurd (none-some x e)
names_bounds base (y ∷ ys) n x e = elim (eqb_tells n base) [
  | inl t ↦ (omega (arith, t.1), omega (arith, t.1), inl (sym (same_Some _ _ (sym (ap (λ (b : Bool). cond b (Some y) (names_from (suc base) ys n)) t.0) ∙ e))))
  | inr t ↦
      let below = names_bounds (suc base) ys n x (sym (ap (λ (b : Bool). cond b (Some y) (names_from (suc base) ys n)) t.0) ∙ e) in
      (omega (arith, below.0), omega (arith, below.1), inr below.2)
]

pub copies_length : (of : Names) (k : Objects) (os : List Object) (xs : List ℕ) → Copies of k os xs → length os ≡ length xs
copies_length of k [] [] c = refl
copies_length of k (o ∷ os) (x ∷ xs) c = ap suc (copies_length of k os xs c.3)
copies_length of k [] (x ∷ xs) c = absurd c
copies_length of k (o ∷ os) [] c = absurd c
