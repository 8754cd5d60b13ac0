-- The code's table is the table of instructions: computed over all numbers of one byte.
use Rattle.std.proofs.Common.{◌≡◌, ℕ, zero, suc, ◌<◌, List, [], ◌∷◌, refl, subst, arith, inl, inr}
use Rattle.std.proofs.lemmas.Bool.{cases_lt}
use Rattle.kilim_class_code.specs.declared.opcodes.forms.TheConstants.{FORMS}
use Rattle.kilim_class_code.specs.opcodes.Table.{rows, form_in, form_of}

abbrev pub listed : {A : Type 0} → (ℕ → A) → ℕ → List A
listed f zero = []
listed f (suc n) = f n ∷ listed f n

head_same : {A : Type 0} (x y : A) (xs ys : List A) → (x ∷ xs) ≡ (y ∷ ys) → x ≡ y
head_same x y xs ys e = cc

tail_same : {A : Type 0} (x y : A) (xs ys : List A) → (x ∷ xs) ≡ (y ∷ ys) → xs ≡ ys
tail_same x y xs ys e = cc

pub same_at : {A : Type 0} (f g : ℕ → A) (n k : ℕ) → listed f n ≡ listed g n → k < n → f k ≡ g k
same_at f g zero k e lt = absurd (omega arith)
same_at f g (suc n) k e lt =
    elim (cases_lt k n) [
      | inl below ↦ same_at f g n k (tail_same (f n) (g n) (listed f n) (listed g n) e) below
      | inr above ↦
          let is : n ≡ k = omega arith in
          subst (λ (i : ℕ). f i ≡ g i) is (head_same (f n) (g n) (listed f n) (listed g n) e)
    ]

-- all 256 of them
pub same_forms : (op : ℕ) → op < 256 → form_in FORMS op ≡ form_of op
unfolding form_of rows
same_forms op lt = same_at (form_in FORMS) form_of 256 op refl lt
