-- What the loop over a report keeps.
use Rattle.std.proofs.Common.{◌≡◌, ℕ, ◌+◌, ◌<◌, ◌≤◌, true, cond, List, [], ◌∷◌, ◌++◌, length, take, drop, slice_get, Some, refl, sym, ap, subst, ◌∙◌, arith, append_assoc}
use Rattle.std.specs.Prelude.{◌&&◌, nat_le}
use Rattle.std.proofs.lemmas.List.{take-append-drop, take-take, take_all}
use Rattle.std.proofs.lemmas.Bool.Decides.{nat_tests}
use Rattle.kilim_lemmas.proofs.Lists.{take_next}
use Rattle.kilim_explain.specs.Explains.{Says, nothing, of_line, Explained, SaidTo}

-- what stands between two places that are there
abbrev pub part : List ℕ → ℕ → ℕ → List ℕ
part xs from to = cond (nat_le from to && nat_le to (length xs)) (drop from (take to xs)) []

part_is : (xs : List ℕ) (from to : ℕ) → from ≤ to → to ≤ length xs → part xs from to ≡ drop from (take to xs)
part_is xs from to below within =
    let a : nat_le from to ≡ true = grind (arith, nat_tests) in
    let b : nat_le to (length xs) ≡ true = grind (arith, nat_tests) in
    rw (a, b) refl

pub said_first : (report text : List ℕ) → text ≡ [] → SaidTo report 0 0 text
said_first report text none = record { below = omega arith; within = omega arith; says = subst (λ (ys : List ℕ). Says [] ys) (sym none) nothing }

pub said_same : (report : List ℕ) (from i : ℕ) (text : List ℕ) → i < length report → SaidTo report from i text → SaidTo report from (i + 1) text
said_same report from i text lt so_far = record { below = omega (arith, so_far.below); within = omega arith; says = so_far.says }

pub said_more : (report : List ℕ) (from i : ℕ) (text said line next : List ℕ) → i < length report → SaidTo report from i text → slice_get report i ≡ Some 10 → line ≡ part report from i →
    next ≡ text ++ (said ++ (line ++ 10 ∷ [])) → SaidTo report (i + 1) (i + 1) next
said_more report from i text said line next lt so_far is here step =
    let le : i ≤ length report = omega arith in
    let own : line ≡ drop from (take i report) = here ∙ part_is report from i so_far.below le in
    let parted : take i report ≡ take from report ++ line =
    sym (take-append-drop from (take i report)) ∙ (ap (λ (xs : List ℕ). xs ++ drop from (take i report)) (take-take from i report so_far.below) ∙ ap (λ (xs : List ℕ). take from report ++ xs) (sym own)) in
    let front : take (i + 1) report ≡ take from report ++ (line ++ 10 ∷ []) =
    take_next report i 10 is ∙ (ap (λ (xs : List ℕ). xs ++ 10 ∷ []) parted ∙ append_assoc (take from report) line (10 ∷ [])) in
    record {
      below = omega arith;
      within = omega arith;
      says = subst (λ (xs : List ℕ). Says xs next) (sym front) (subst (λ (ys : List ℕ). Says (take from report ++ (line ++ 10 ∷ [])) ys) (sym step) (of_line (take from report) text said line so_far.says));
    }

pub said_all : (report : List ℕ) (from i : ℕ) (text rest next : List ℕ) → SaidTo report from i text → rest ≡ part report from (length report) → next ≡ text ++ rest → Explained report next
said_all report from i text rest next so_far here step =
    let low : from ≤ length report = omega (arith, so_far.below, so_far.within) in
    let high : length report ≤ length report = omega arith in
    let own : rest ≡ drop from report = here ∙ (part_is report from (length report) low high ∙ ap (drop from) (take_all (length report) report high)) in
    record {
      lines = take from report;
      said = text;
      rest = drop from report;
      whole = sym (take-append-drop from report);
      is = step ∙ ap (λ (xs : List ℕ). text ++ xs) own;
      says = so_far.says;
    }
