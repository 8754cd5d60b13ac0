use Rattle.std.proofs.Common.{rules, ◌<◌, length, Vec, Global}
use Rattle.kilim_run_turn.specs.declared.pass.Pass.{Pass}
use Rattle.kilim_mail_turns.proofs.Openings.{split, first_all}
use Rattle.kilim_mail_turns.proofs.opening.drop_each.Goals as goal

pub close-requires : goal.close-requires
close-requires g c =
    let some : 0 < length c.loop-turns.turns.items = search rules in
    let also : 0 < length c.loop-turns.passes.items = search rules in
    let turns = split c.loop-turns.turns.items c.remove-turn.new.self.items c.remove-turn.result some c.remove-turn.ensures.value c.remove-turn.ensures.items in
    let passes = split c.loop-turns.passes.items c.remove-all.new.self.items c.remove-all.result also c.remove-all.ensures.value c.remove-all.ensures.items in
    (first_all g.B.Cells.cells (λ (p : Vec Pass Global). p.items) c.loop-turns.turns.items c.remove-turn.new.self.items c.remove-turn.result c.loop-turns.passes.items c.remove-all.new.self.items c.remove-all.result turns passes c.loop-turns.invariant).0
