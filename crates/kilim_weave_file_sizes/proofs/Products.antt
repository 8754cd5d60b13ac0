-- Sums of products, by their parts.
use Rattle.std.proofs.Common.{◌≡◌, ℕ, ◌+◌, ◌*◌, [], ◌∷◌, Result, Ok, Err, ◌∙◌, arith}
use Rattle.std.specs.Prelude.{IfOk, sum_by}
use Rattle.kilim_weave_file_sizes.specs.Parts.{product}

-- a sum that comes is that of its parts
pub sum_is : {E : Type 0} (r : Result ℕ E) (sum parts : ℕ) → sum ≡ parts → IfOk r (λ n. n ≡ sum) → IfOk r (λ n. n ≡ parts)
sum_is (Ok n) sum parts same is = is ∙ same
sum_is (Err e) sum parts same is = is

added : (w c n b a : ℕ) → sum_by product ((w, 1) ∷ (64, 1) ∷ (8, c) ∷ (n, b) ∷ (2, a) ∷ []) ≡ w + (64 + (8 * c + (n * b + 2 * a)))
added w c n b a = omega arith

pub pausing_sum : (w c n b a weight calls number bytes attributes : ℕ) → w ≡ weight → c ≡ calls → n ≡ number → b ≡ bytes → a ≡ attributes
    → sum_by product ((w, 1) ∷ (64, 1) ∷ (8, c) ∷ (n, b) ∷ (2, a) ∷ []) ≡ weight + (64 + (8 * calls + (number * bytes + 2 * attributes)))
pausing_sum w c n b a weight calls number bytes attributes is_w is_c is_n is_b is_a =
    let same : w + (64 + (8 * c + (n * b + 2 * a))) ≡ weight + (64 + (8 * calls + (number * bytes + 2 * attributes))) = λ i. is_w i + (64 + (8 * is_c i + (is_n i * is_b i + 2 * is_a i))) in
    added w c n b a ∙ same
