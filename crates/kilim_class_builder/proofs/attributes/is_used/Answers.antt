use Rattle.std.proofs.Common.{◌∙◌, ap, sym}
use Rattle.std.proofs.lemmas.List.{drop_all}
use Rattle.std.specs.List.{list_any}
use Rattle.kilim_class_builder.specs.Members.{is_some_of}
use Rattle.kilim_class_builder.proofs.Loops.{found_at, passed_at}
use Rattle.kilim_class_builder.proofs.attributes.is_used.Goals as goal

pub returns-then-is_some_of : goal.returns-then-is_some_of
returns-then-is_some_of c = found_at (is_some_of c.args.q) c.args.qs.now c.loop-other.other-index _ c.is_some_of.result c.loop-other-test.true c.is_some_of.ensures c.loop-other.invariant c.if-is_some_of.true

pub loop-other-preserved : goal.loop-other-preserved
loop-other-preserved c = passed_at (is_some_of c.args.q) c.args.qs.now c.loop-other.other-index _ c.is_some_of.result c.loop-other-test.true c.is_some_of.ensures c.loop-other.invariant c.if-is_some_of.false

pub returns : goal.returns
returns c = ap (list_any (is_some_of c.args.q)) (sym (drop_all c.loop-other.other-index c.args.qs.now c.loop-other-test.false)) ∙ c.loop-other.invariant
