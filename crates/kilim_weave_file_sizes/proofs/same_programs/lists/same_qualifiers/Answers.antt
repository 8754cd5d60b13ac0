use Rattle.kilim_weave_file_sizes.proofs.same_programs.Compared.{all_same, same_more}
use Rattle.kilim_weave_file_sizes.proofs.same_programs.lists.same_qualifiers.Goals as goal

pub loop-x-preserved : goal.loop-x-preserved
loop-x-preserved c = same_more c.args.one.now c.args.other.now c.loop-x.rest.now c.loop-x.x-index _ _ c.loop-x-test.true c.in-len1-up.len_at_least (c.same_qualifier.ensures c.if-not-same_qualifier.false) c.loop-x.invariant

pub returns : goal.returns
returns c = all_same c.args.one.now c.args.other.now c.loop-x.rest.now c.loop-x.x-index c.is_empty.result c.loop-x-test.false c.is_empty.ensures c.loop-x.invariant
