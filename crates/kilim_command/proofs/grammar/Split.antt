-- Words that are split, and what is asked of their parts.
use Rattle.std.proofs.Common.{◌≡◌, ◌≤◌, ℕ, List, Option, Some, None, length, map, take, drop, sym, ap, subst, ◌∙◌}
use Rattle.std.proofs.lemmas.List.{drop-map, take-map}
use Rattle.std.specs.Prelude.{IfSome}
use Rattle.kilim_command.specs.declared.grammar.asked.Asked.{Asked}
use Rattle.kilim_command.specs.grammar.Parts.{meant}
use Rattle.kilim_command.specs.grammar.Words.{Request, class_files}
use Rattle.kilim_command.proofs.grammar.Mapped.{length_map}

pub split_of : {A : Type 0} (g : A → List ℕ) (f : List (List ℕ) → List (List ℕ) → Option Request) (r : Option Request) (words front back : List A) (n k : ℕ) → n ≡ k → front ≡ take n words → back ≡ drop n words →
    r ≡ f (map g front) (map g back) → r ≡ f (take k (map g words)) (drop k (map g words))
split_of {A} g f r words front back n k count is_front is_back made =
    made
    ∙ (ap (λ (xs : List A). f (map g xs) (map g back)) is_front
    ∙ (ap (λ (xs : List A). f (map g (take n words)) (map g xs)) is_back
    ∙ (ap (λ (ws : List (List ℕ)). f ws (map g (drop n words))) (sym (take-map g n words))
    ∙ (ap (λ (ws : List (List ℕ)). f (take n (map g words)) ws) (sym (drop-map g n words)) ∙ ap (λ (m : ℕ). f (take m (map g words)) (drop m (map g words))) count))))

-- the files that are asked for are not too many
pub few_files : {A : Type 0} (g : A → List ℕ) (r : Option Asked) (files : List A) → length files ≤ 1000 → IfSome r (λ asked. class_files (meant asked) ≡ map g files) → IfSome r (λ asked. length (class_files (meant asked)) ≤ 1000)
few_files g None files few is = tt
few_files g (Some asked) files few is = subst (λ (n : ℕ). n ≤ 1000) (sym (ap (λ (ws : List (List ℕ)). length ws) is ∙ length_map g files)) few
