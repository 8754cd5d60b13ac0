-- A mark for each instruction.
use Rattle.std.proofs.Common.{◌≡◌, ℕ, zero, suc, ◌+◌, Bool, true, List, [], ◌∷◌, ◌++◌, length, map, refl, ap, ◌∙◌, arith}
use Rattle.kilim_program.specs.declared.instr.Instr.{Instr}

abbrev pub trues : ℕ → List Bool
trues zero = []
trues (suc n) = true ∷ trues n

more : (n : ℕ) → trues n ++ true ∷ [] ≡ trues (suc n)
more zero = refl
more (suc n) = ap (λ (bs : List Bool). true ∷ bs) (more n)

pub one_more : (n : ℕ) (bs bs' : List Bool) → bs ≡ trues n → bs' ≡ bs ++ true ∷ [] → bs' ≡ trues (n + 1)
one_more n bs bs' is pushed = let number : suc n ≡ n + 1 = omega arith in pushed ∙ (ap (λ (xs : List Bool). xs ++ true ∷ []) is ∙ (more n ∙ ap trues number))

all : (code : List (ℕ × Instr)) → trues (length code) ≡ map (λ e. true) code
all [] = refl
all (e ∷ code) = ap (λ (bs : List Bool). true ∷ bs) (all code)

pub all_marked : (code : List (ℕ × Instr)) (n : ℕ) (bs : List Bool) → n ≡ length code → bs ≡ trues n → bs ≡ map (λ e. true) code
all_marked code n bs long is = is ∙ (ap trues long ∙ all code)
