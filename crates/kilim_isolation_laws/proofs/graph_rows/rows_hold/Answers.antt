use Rattle.kilim_isolation_laws.proofs.graph_rows.Table.{rows_hold}
use Rattle.kilim_isolation_laws.proofs.graph_rows.rows_hold.Goals as goal

pub returns : goal.returns
returns c p k m pl to f f1 g g1 at h ls st below after i hd v typed moved here = rows_hold p k m pl to f f1 g g1 at h ls st below after i hd v typed moved here
