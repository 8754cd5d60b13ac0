use Rattle.std.proofs.Common.{sym, ◌∙◌}
use Rattle.kilim_type_verify.proofs.Joined.{no_code, some_code}
use Rattle.kilim_type_verify.proofs.walk.walk.Goals as goal

pub returns-then-is_empty : goal.returns-then-is_empty
returns-then-is_empty c =
    let none = no_code c.args.program.now c.args.method.now (sym c.is_empty.ensures ∙ c.if-is_empty.true) in
    (none.0, c.new.ensures.items ∙ none.1)

pub returns : goal.returns
returns c =
    c.earlier.ensures c.args.program.now c.args.method.now c.in-Ok.ensures c.frame_fault-unfit.ensures (some_code c.args.method.now (sym c.is_empty.ensures ∙ c.if-is_empty.false))
