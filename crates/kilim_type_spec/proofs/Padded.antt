-- The slots of a frame, one after the other.
use Rattle.std.proofs.Common.{◌≡◌, ℕ, zero, suc, ◌+◌, ◌-◌, ◌<◌, ◌≤◌, refl, ap, sym, ◌∙◌, arith, List, [], ◌∷◌, ◌++◌, length, drop, get_or}
use Rattle.std.proofs.lemmas.List.{drop-drop, append_assoc}
use Rattle.kilim_program.specs.declared.verified.VType.{VType}
use Rattle.kilim_program.specs.declared.verified.VType.TheVariants.{Top}
use Rattle.kilim_type_spec.specs.Step.{peek}
use Rattle.kilim_type_spec.specs.Typed.{padded}

pub peek_past : (xs : List VType) (k : ℕ) → length xs ≤ k → peek xs k ≡ Top
peek_past [] k h = refl
peek_past (x ∷ xs) zero h = absurd (omega arith)
peek_past (x ∷ xs) (suc k) h = peek_past xs k (omega arith)

pub peek_at : (xs : List VType) (k : ℕ) (d : VType) → k < length xs → peek xs k ≡ get_or xs k d
peek_at [] k d h = absurd (omega arith)
peek_at (x ∷ xs) zero d h = refl
peek_at (x ∷ xs) (suc k) d h = peek_at xs k d (omega arith)

padded_here : (n : ℕ) (ts : List VType) → padded (suc n) ts ≡ peek ts 0 ∷ padded n (drop 1 ts)
padded_here n [] = refl
padded_here n (t ∷ ts) = refl

peek_drop : (ts : List VType) (k : ℕ) → peek (drop k ts) 0 ≡ peek ts k
peek_drop [] zero = refl
peek_drop [] (suc k) = refl
peek_drop (t ∷ ts) zero = refl
peek_drop (t ∷ ts) (suc k) = peek_drop ts k

drop_one : (ts : List VType) (k : ℕ) → drop 1 (drop k ts) ≡ drop (k + 1) ts
drop_one ts k = drop-drop 1 k ts

pub padded_on : (ts slots : List VType) (count k : ℕ) → k < count → slots ++ padded (count - k) (drop k ts) ≡ padded count ts → (slots ++ peek ts k ∷ []) ++ padded (count - (k + 1)) (drop (k + 1) ts) ≡ padded count ts
padded_on ts slots count k h e =
    let one : padded (count - k) (drop k ts) ≡ peek ts k ∷ padded (count - (k + 1)) (drop (k + 1) ts) =
    ap (λ n. padded n (drop k ts)) (let n : count - k ≡ suc (count - (k + 1)) = omega arith in n) ∙ padded_here (count - (k + 1)) (drop k ts)
    ∙ ap (λ t. t ∷ padded (count - (k + 1)) (drop 1 (drop k ts))) (peek_drop ts k) ∙ ap (λ xs. peek ts k ∷ padded (count - (k + 1)) xs) (drop_one ts k) in
    append_assoc slots (peek ts k ∷ []) (padded (count - (k + 1)) (drop (k + 1) ts)) ∙ sym (ap (λ xs. slots ++ xs) one) ∙ e
