-- A table grows by one entry.
use Rattle.std.proofs.Common.{◌≡◌, ℕ, zero, suc, ◌+◌, List, [], ◌∷◌, ◌++◌, Some, length, length-append, ap, subst, ◌∙◌, arith}
use Rattle.std.specs.Prelude.{slice_get}
use Rattle.std.proofs.lemmas.Option.{same_Some, none-some}

pub grown : {A : Type 0} (P : ℕ → A → Type 0) (table : List A) (one : A) → ((at : ℕ) (x : A) → slice_get table at ≡ Some x → P at x) → P (length table) one → (at : ℕ) (x : A) → slice_get (table ++ one ∷ []) at ≡ Some x → P at x
grown P [] one all here zero x e = subst (λ z. P 0 z) (same_Some _ _ e) here
grown P [] one all here (suc n) x e = absurd (none-some x e)
grown P (y ∷ ys) one all here zero x e = all zero x e
grown P (y ∷ ys) one all here (suc n) x e = grown (λ at. P (suc at)) ys one (λ at z d. all (suc at) z d) here n x e

pub one_longer : {A : Type 0} (table after : List A) (one : A) (at : ℕ) → after ≡ table ++ one ∷ [] → length table ≡ at → length after ≡ at + 1
one_longer table after one at e long = ap length e ∙ omega (arith, length-append table (one ∷ []), long)
