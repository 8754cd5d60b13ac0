-- Matches of a switch.
use Rattle.std.proofs.Common.{◌≡◌, ℕ, zero, suc, ◌+◌, ℤ, List, [], ◌∷◌, ◌++◌, ◌<◌, length, drop, get_or, slice_get, Option, Some, None, sym, ap, subst, ◌∙◌, append_assoc, arith, ◌≤◌}
use Rattle.std.specs.Prelude.{FitsSigned}
use Rattle.std.specs.Int.{w32}
use Rattle.std.specs.List.{flat_map, AllByRecursion}
use Rattle.std.proofs.lemmas.Option.{slice_get-get_or}
use Rattle.std.proofs.lemmas.List.{append-nil, drop_all}
use Rattle.kilim_lemmas.proofs.Lists.{drop_next}
use Rattle.kilim_class_code.specs.opcodes.Instr.{IsAbove, PairsFit, TargetFits}

-- matches of a switch, one more
pub pairs_step : (place : ℕ) (pairs : List (ℤ × ℤ)) (at : ℕ) (least : Option ℤ) (pair : ℤ × ℤ) (key : ℤ) → slice_get pairs at ≡ Some pair → key ≡ pair.0 → IsAbove least pair.0 → FitsSigned w32 pair.0 → TargetFits w32 place pair.1 →
    (PairsFit place least (drop at pairs) → PairsFit place None pairs) → PairsFit place (Some key) (drop (at + 1) pairs) → PairsFit place None pairs
pairs_step place pairs at least pair key there is above fits far before rest =
    before (subst (λ (ps : List (ℤ × ℤ)). PairsFit place least ps) (sym (drop_next pairs at pair there)) ((above, fits, far), subst (λ (k : ℤ). PairsFit place (Some k) (drop (at + 1) pairs)) is rest))

-- targets of a switch, one more
pub all_from : (P : ℤ → Type 0) (xs : List ℤ) (n : ℕ) (d : ℤ) → n < length xs → P (get_or xs n d) → AllByRecursion P (drop (suc n) xs) → AllByRecursion P (drop n xs)
all_from P [] n d lt p all = absurd (omega arith)
all_from P (x ∷ xs) zero d lt p all = (p, all)
all_from P (x ∷ xs) (suc n) d lt p all = all_from P xs n d (omega arith) p all

-- texts that are written one by one
pub text_step : {A : Type 0} (f : A → List ℕ) (xs : List A) (i : ℕ) (x : A) (old new all : List ℕ) → i < length xs → x ≡ get_or xs i x → old ++ flat_map f (drop i xs) ≡ all → new ≡ old ++ f x → new ++ flat_map f (drop (i + 1) xs) ≡ all
text_step f xs i x old new all lt is before more =
    let there : slice_get xs i ≡ Some x = slice_get-get_or xs i x lt ∙ ap Some (sym is) in
    let rest : List ℕ = flat_map f (drop (i + 1) xs) in
    ap (λ (bytes : List ℕ). bytes ++ rest) more ∙ (append_assoc old (f x) rest ∙ (ap (λ (ys : List _). old ++ flat_map f ys) (sym (drop_next xs i x there)) ∙ before))

-- none is left
pub all_written : {A : Type 0} (f : A → List ℕ) (xs : List A) (i : ℕ) (now whole : List ℕ) → length xs ≤ i → now ++ flat_map f (drop i xs) ≡ whole → now ≡ whole
all_written {A = A} f xs i now whole le so_far = sym (append-nil now) ∙ (ap (λ (ys : List A). now ++ flat_map f ys) (sym (drop_all i xs le)) ∙ so_far)
