use Rattle.std.proofs.Common.{◌∙◌, ap, sym, arith}
use Rattle.std.proofs.lemmas.List.{drop_all}
use Rattle.kilim_isolation.specs.Mark.{slots_mixed}
use Rattle.kilim_isolation.proofs.mark.slots_mixed.Goals as goal

pub returns : goal.returns
returns c = ap (slots_mixed c.loop-slot.mark) (sym (drop_all c.loop-slot.slot-index c.args.slots.now (omega arith))) ∙ c.loop-slot.invariant
