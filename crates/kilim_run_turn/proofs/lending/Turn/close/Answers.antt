use Rattle.std.proofs.Common.{length, ap, ◌∙◌}
use lib.ListN.{length-map}
use Rattle.kilim_run_turn.specs.Turns.{shows}
use Rattle.kilim_run_turn.specs.Rule.{Lies}
use Rattle.kilim_run_turn.specs.Steps.{Sat}
use Rattle.kilim_run_turn.proofs.Hands.{loaded_is, seen}
use Rattle.kilim_run_turn.proofs.Passes.{told_all, inside_shows}
use Rattle.kilim_run_turn.proofs.lending.Turn.close.Goals as goal

pub take_out-requires-clause-inside : goal.take_out-requires-clause-inside
take_out-requires-clause-inside g c = loaded_is (Lies g.B.Cells.cells) c.gather-seat.result.me c.take_last.new.seat.me _ _ _ _ c.gather-seat.ensures.all c.take_last.ensures.inside

pub take_last-requires-clause-all : goal.take_last-requires-clause-all
take_last-requires-clause-all g c = ap (λ (p : Sat _). length p.0.shown) c.gather-seat.ensures.all ∙ (length-map c.args.passes.items shows ∙ c.requires.1)

pub take_last-requires-clause-outside : goal.take_last-requires-clause-outside
take_last-requires-clause-outside g c = seen _ _ _ _ _ c.gather-seat.ensures.all

pub returns : goal.returns
returns g c =
    let g' = c.gather-seat.ensures in
    let o = c.take_out.ensures in
    let shown = inside_shows (Lies g.B.Cells.cells) c.gather-seat.result.me c.take_last.new.seat.me _ _ _ _ g'.all c.take_last.ensures.inside in
    told_all _ _ _ _ _ c.take_out.new.seat.me o.inside o.told (ap length shown ∙ (length-map c.args.passes.items shows ∙ c.requires.1)) ∙ shown
