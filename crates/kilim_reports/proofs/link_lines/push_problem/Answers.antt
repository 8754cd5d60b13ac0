use Rattle.std.proofs.Common.{◌≡◌, ◌++◌, List, ℕ, ap, ◌∙◌, append_assoc}
use Rattle.kilim_link_spec.specs.declared.fault.Problem.{Problem}
use Rattle.kilim_reports.specs.LinkLines.{problem_words}
use Rattle.kilim_reports.specs.Problems.{problem_word, problem_told}
use Rattle.kilim_reports.proofs.Problems.{said}
use Rattle.kilim_reports.proofs.link_lines.push_problem.Goals as goal

joins : (p : Problem) (before word between behind : List ℕ) → between ≡ before ++ word → word ≡ problem_word p → behind ≡ between ++ problem_told p → behind ≡ before ++ problem_words p
joins p before word between behind first is then =
    then
    ∙ (ap (λ (t : List ℕ). t ++ problem_told p) first
    ∙ (append_assoc before word (problem_told p) ∙ ap (λ (t : List ℕ). before ++ t) (ap (λ (w : List ℕ). w ++ problem_told p) is ∙ said p)))

pub returns : goal.returns
returns c = joins c.args.problem.now c.args.text.now.items _ _ _ c.in-Ok.ensures c.problem_word.ensures c.in-Ok-push_told.ensures
