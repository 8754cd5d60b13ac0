use Rattle.std.proofs.Common.{◌∙◌, ap, length}
use Rattle.kilim_isolation_paths.proofs.Rows.{positions_length}
use Rattle.kilim_isolation_paths.proofs.store.Store.count.Goals as goal

pub returns : goal.returns
returns g c = ap length c.row.ensures ∙ positions_length c.args.place 0 c.args.self.now.entries
