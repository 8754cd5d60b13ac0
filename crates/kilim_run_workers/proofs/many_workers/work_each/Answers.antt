use Rattle.std.proofs.Common.{ap, subst, sym, ◌∙◌}
use Rattle.kilim_run_turn.specs.declared.pass.Pass.{Pass}
use Rattle.kilim_run_turn.specs.Turns.{seat_of, shows, IsPassOf}
use Rattle.kilim_run_workers.specs.Codes.{board_cells}
use Rattle.kilim_run_workers.proofs.many_workers.work_each.Goals as goal

pub returns-clause-each : goal.returns-clause-each
returns-clause-each g c i d lt = let t = (c.for_each_mut.ensures i d lt).1 in subst (λ (p : Pass). IsPassOf board_cells c.args.turn.now p) t.left t.call.pass

pub returns-clause-order : goal.returns-clause-order
returns-clause-order g c i d lt = let t = (c.for_each_mut.ensures i d lt).1 in ap seat_of (sym t.left) ∙ (t.call.seat ∙ (ap seat_of t.argument_is ∙ c.requires.all.3 i d lt))

pub returns-clause-empty : goal.returns-clause-empty
returns-clause-empty g c i d lt = let t = (c.for_each_mut.ensures i d lt).1 in ap shows (sym t.left) ∙ t.call.empty
