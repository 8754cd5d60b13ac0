use Rattle.std.proofs.Common.{◌∙◌, ap, refl, sym, arith}
use Rattle.std.proofs.lemmas.List.{drop_all}
use Rattle.std.specs.List.{list_any}
use Rattle.kilim_isolation_rules.specs.Calls.{shares}
use Rattle.kilim_isolation_rules.proofs.Every.{found_at, passed_at}
use Rattle.kilim_isolation_rules.proofs.calls.shares_any.Goals as goal

pub returns-then-shares : goal.returns-then-shares
returns-then-shares c = found_at (shares c.args.program.now c.args.graph.now c.args.a.now) c.args.others.now c.loop-b.b-index _ _ c.loop-b-test.true refl (sym c.if-shares.true ∙ c.shares.ensures) c.loop-b.invariant

pub loop-b-preserved : goal.loop-b-preserved
loop-b-preserved c = passed_at (shares c.args.program.now c.args.graph.now c.args.a.now) c.args.others.now c.loop-b.b-index _ _ c.loop-b-test.true refl (sym c.if-shares.false ∙ c.shares.ensures) c.loop-b.invariant

pub returns : goal.returns
returns c = ap (list_any (shares c.args.program.now c.args.graph.now c.args.a.now)) (sym (drop_all c.loop-b.b-index c.args.others.now (omega arith))) ∙ c.loop-b.invariant
