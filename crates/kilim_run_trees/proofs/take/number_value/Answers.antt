use Rattle.std.proofs.Common.{sym}
use Rattle.kilim_run_trees.proofs.Stacks.{pop_reversed}
use Rattle.kilim_run_trees.proofs.take.number_value.Goals as goal

pub returns-in-Some-clause-refs : goal.returns-in-Some-clause-refs
returns-in-Some-clause-refs c = sym (pop_reversed c.args.stack.now.items c.pop.new.self.items c.in-Some.at c.in-Some.ensures.items)
