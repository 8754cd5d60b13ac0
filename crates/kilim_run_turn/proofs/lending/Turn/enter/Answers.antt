use Rattle.std.proofs.Common.{sym, ap, ◌∙◌, []}
use Rattle.kilim_run_turn.specs.Rule.{Lies}
use Rattle.kilim_run_turn.proofs.Hands.{heads, loaded_is, seen}
use Rattle.kilim_run_turn.proofs.lending.Turn.enter.Goals as goal

pub take_out-value-requires-clause-inside : goal.take_out-value-requires-clause-inside
take_out-value-requires-clause-inside g c =
    let p = c.requires in
    let i = c.into_seat-seat.ensures in
    let knows = heads _ _ [] [] (sym i.2 ∙ (ap (λ b. b.views) c.replace.ensures.value ∙ p.knows)) in
    loaded_is (Lies g.B.Cells.cells) c.into_seat-seat.result.me c.wait_for.new.seat.me _ _ _ _ (λ k. (knows k, i.3 k)) c.wait_for.ensures.inside

pub wait_for-requires-clause-outside : goal.wait_for-requires-clause-outside
wait_for-requires-clause-outside g c =
    let p = c.requires in
    let i = c.into_seat-seat.ensures in
    let knows = heads _ _ [] [] (sym i.2 ∙ (ap (λ b. b.views) c.replace.ensures.value ∙ p.knows)) in
    seen _ _ _ _ _ (λ k. (knows k, i.3 k))
