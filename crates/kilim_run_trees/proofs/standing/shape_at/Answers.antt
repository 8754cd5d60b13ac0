use Rattle.std.proofs.Common.{sym}
use Rattle.kilim_run_trees.proofs.Tokens.{sizes_agree}
use Rattle.kilim_run_trees.specs.Moved.{IsFault}
use Rattle.kilim_run_trees.specs.declared.fault.MoveFault.{MoveFault}
use Rattle.kilim_run_trees.proofs.Remaining.{shape_there, shape_is}
use Rattle.kilim_run_trees.proofs.standing.shape_at.Goals as goal

pub tokens_at-requires : goal.tokens_at-requires
tokens_at-requires c = shape_there c.args.program.now c.args.heap.now c.args.root _ c.requires.suits c.in-Ok.ensures.ok

pub returns-in-Ok-tokens_at : goal.returns-in-Ok-tokens_at
returns-in-Ok-tokens_at c = shape_is c.args.program.now c.args.heap.now c.args.root _ _ c.requires.suits c.in-Ok.ensures.ok c.in-Ok-tokens_at.ensures

pub returns-in-Err-TooLarge : goal.returns-in-Err-TooLarge
returns-in-Err-TooLarge c = sym ((sizes_agree c.args.program.now c.args.heap.now c.args.root c.requires.suits).0 (rw c.in-Err-TooLarge.field-0-is at c.in-Err-TooLarge.ensures.err))
