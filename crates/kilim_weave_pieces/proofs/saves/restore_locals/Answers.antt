use Rattle.std.proofs.Common.{◌∙◌, ℕ, List, ap, sym, arith}
use Rattle.kilim_program.specs.declared.verified.VType.{VType}
use Rattle.kilim_weave_spec.specs.Woven.{restore_locals}
use Rattle.kilim_weave_pieces.proofs.Lists.{drop_whole}
use Rattle.kilim_weave_pieces.specs.Meant.{meant}
use Rattle.kilim_weave_pieces.proofs.Saving.{restore_local_more}
use Rattle.kilim_weave_pieces.specs.Items.{items_of}
use Rattle.kilim_weave_pieces.proofs.saves.restore_locals.Goals as goal

pub loop-at-preserved : goal.loop-at-preserved
loop-at-preserved c = restore_local_more (meant c.args.plan.now) (items_of c.args.items.now) (items_of c.loop-at.items) (items_of c.restore_local.new.items) c.args.locals.now c.loop-at.at c.pair_at-local.result c.pair_at-local.ensures c.loop-at.invariant c.in_ok-restore_local.ensures

pub returns : goal.returns
returns c =
    ap (λ (ls : List (ℕ × VType)). restore_locals (meant c.args.plan.now) ls (items_of c.loop-at.items)) (sym (drop_whole c.args.locals.now c.loop-at.at (omega arith))) ∙ c.loop-at.invariant
