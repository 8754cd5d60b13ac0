use Rattle.std.proofs.Common.{◌∙◌, sym, arith}
use Rattle.kilim_type_step.proofs.Types.{half_kept, half_poked}
use Rattle.kilim_type_step.proofs.state.with_half.Goals as goal

pub overflow_add-slot : goal.overflow_add-slot
overflow_add-slot c = omega arith

pub returns-then-is_long : goal.returns-then-is_long
returns-then-is_long c =
    c.in-Ok.ensures ∙ sym (half_poked c.args.t c.args.types.now.items c.args.slot (sym c.is_long.ensures ∙ c.if-is_long.true))

pub returns : goal.returns
returns c = sym (half_kept c.args.t c.args.types.now.items c.args.slot (sym c.is_long.ensures ∙ c.if-is_long.false))
