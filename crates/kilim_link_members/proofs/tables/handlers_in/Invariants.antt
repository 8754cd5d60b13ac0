use Rattle.std.proofs.Common.{◌≡◌, drop}
use Rattle.kilim_link_spec.specs.Linked.{handler_in}
use Rattle.kilim_link_spec.specs.Types.{each_of}
use Rattle.kilim_link_code.specs.Each.{behind}
use Rattle.kilim_link_members.proofs.tables.handlers_in.Given as goal

abbrev pub invariant-loop-row : goal.invariant-loop-row
invariant-loop-row l = behind l.handlers (each_of (handler_in l.world l.pool) (drop l.row-index l.rows)) ≡ each_of (handler_in l.world l.pool) l.rows
