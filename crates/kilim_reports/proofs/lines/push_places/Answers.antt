use Rattle.std.proofs.Common.{ℕ, List, refl, ap, ◌∙◌, ◌++◌, codes, append_assoc}
use Rattle.std.proofs.lemmas.List.{take_all}
use Rattle.std.specs.Fmt.{decimal}
use Rattle.kilim_reports.specs.RuleLines.{places}
use Rattle.kilim_reports.proofs.Loops.{behind}
use Rattle.kilim_reports.proofs.lines.push_places.Goals as goal

pub loop-at-preserved : goal.loop-at-preserved
loop-at-preserved c = behind (λ at. codes " " ++ decimal at) c.args.text.now.items c.loop-at.text.items c.push_number.new.text.items c.args.path.now c.loop-at.at-index _ _ c.loop-at-test.true refl c.loop-at.invariant (c.in-Ok-push_number.ensures
    ∙ (ap (λ (text : List ℕ). text ++ decimal c.from.result) c.in-Ok.ensures
    ∙ (append_assoc c.loop-at.text.items (codes " ") (decimal c.from.result) ∙ ap (λ (n : ℕ). c.loop-at.text.items ++ (codes " " ++ decimal n)) c.from.ensures)))

pub returns : goal.returns
returns c = c.loop-at.invariant ∙ ap (λ path. c.args.text.now.items ++ places path) (take_all c.loop-at.at-index c.args.path.now c.loop-at-test.false)
