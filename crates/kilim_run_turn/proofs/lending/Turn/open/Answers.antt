use Rattle.std.proofs.Common.{length, sym, refl, ap, ◌∙◌, []}
use Rattle.kilim_run_turn.specs.Rule.{Lies}
use Rattle.kilim_run_turn.specs.Views.{fresh}
use Rattle.kilim_run_turn.proofs.Keeps.{begins}
use Rattle.kilim_run_turn.proofs.Passes.{shown_all}
use Rattle.kilim_run_turn.proofs.lending.Turn.open.Goals as goal

pub vacant-requires : goal.vacant-requires
vacant-requires g c = begins (Lies g.B.Cells.cells) (length (g.B.Cells.cells c.of-key.result.value)) _ _ (c.requires.seats ∙ ap (λ b. length (g.B.Cells.cells b)) (sym c.of-key.ensures)) refl

pub fill-passes-requires-clause-fresh : goal.fill-passes-requires-clause-fresh
fill-passes-requires-clause-fresh g c = let key = c.in-Ok-vacant.ensures in key.4 ∙ ap (λ k. (fresh (g.B.Cells.cells k.value), [])) (sym key.5)

pub returns-clause-cells : goal.returns-clause-cells
returns-clause-cells g c =
    let f = c.fill-passes.ensures in
    let key = c.in-Ok-vacant.ensures in
    let same = ap g.B.Cells.cells (ap (λ k. k.value) key.5 ∙ c.of-key.ensures) in
    shown_all _ _ _ _ (f.count ∙ (c.requires.seats ∙ ap length (sym same))) f.made ∙ same

pub fill-passes-requires-clause-seats : goal.fill-passes-requires-clause-seats
fill-passes-requires-clause-seats g c = let same = ap (λ k. k.value) c.in-Ok-vacant.ensures.5 ∙ c.of-key.ensures in c.requires.seats ∙ ap (λ b. length (g.B.Cells.cells b)) (sym same)

pub fill-passes-requires-clause-value : goal.fill-passes-requires-clause-value
fill-passes-requires-clause-value g c = let same = ap (λ k. k.value) c.in-Ok-vacant.ensures.5 ∙ c.of-key.ensures in ap g.B.Cells.cells (sym same)

pub returns-clause-seats : goal.returns-clause-seats
returns-clause-seats g c = let same = ap (λ k. k.value) c.in-Ok-vacant.ensures.5 ∙ c.of-key.ensures in ap (λ b. length (g.B.Cells.cells b)) same ∙ sym c.requires.seats
