use Rattle.std.proofs.Common.{◌∙◌, ap, sym}
use Rattle.std.proofs.lemmas.List.{drop_all}
use Rattle.std.specs.List.{list_any}
use Rattle.kilim_class_builder.specs.Members.{is_given}
use Rattle.kilim_class_builder.proofs.Loops.{found_at, passed_at}
use Rattle.kilim_class_builder.proofs.attributes.are_given.Goals as goal

pub returns-then-is_given : goal.returns-then-is_given
returns-then-is_given c = found_at is_given c.args.qs.now c.loop-q.q-index _ c.is_given.result c.loop-q-test.true c.is_given.ensures c.loop-q.invariant c.if-is_given.true

pub loop-q-preserved : goal.loop-q-preserved
loop-q-preserved c = passed_at is_given c.args.qs.now c.loop-q.q-index _ c.is_given.result c.loop-q-test.true c.is_given.ensures c.loop-q.invariant c.if-is_given.false

pub returns : goal.returns
returns c = ap (list_any is_given) (sym (drop_all c.loop-q.q-index c.args.qs.now c.loop-q-test.false)) ∙ c.loop-q.invariant
