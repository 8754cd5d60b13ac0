use Rattle.kilim_type_flow.proofs.Growing.{no_column}
use Rattle.kilim_type_flow.proofs.table.column_if.Goals as goal

pub returns-then-is_read : goal.returns-then-is_read
returns-then-is_read c = rw c.from_vec.ensures c.in-Ok.ensures

pub returns : goal.returns
returns c = rw c.new.ensures (no_column c.args.method.now c.args.local (c.requires.unread c.if-is_read.false))
