use Rattle.std.proofs.Common.{◌∙◌, List, ap, reverse, arith}
use Rattle.kilim_program.specs.declared.verified.VType.{VType}
use Rattle.kilim_weave_spec.specs.Woven.{save_stack}
use Rattle.kilim_weave_pieces.proofs.Lists.{take_whole}
use Rattle.kilim_weave_pieces.specs.Meant.{meant}
use Rattle.kilim_weave_pieces.proofs.Saving.{save_more}
use Rattle.kilim_weave_pieces.specs.Items.{items_of}
use Rattle.kilim_weave_pieces.proofs.saves.save_stack.Goals as goal

pub loop-at-preserved : goal.loop-at-preserved
loop-at-preserved c = save_more (meant c.args.plan.now) (items_of c.args.items.now) (items_of c.loop-at.items) (items_of c.save.new.items) c.args.stack.now c.loop-at.at c.type_at.result c.type_at.ensures c.loop-at.invariant c.in_ok-save.ensures

pub returns : goal.returns
returns c = c.loop-at.invariant ∙ ap (λ (ts : List VType). save_stack (meant c.args.plan.now) (reverse ts) (items_of c.args.items.now)) (take_whole c.args.stack.now c.loop-at.at (omega arith))
