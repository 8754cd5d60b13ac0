use Rattle.kilim_isolation_laws.proofs.graph_rows.Giving.{gives_keep}
use Rattle.kilim_isolation_laws.proofs.graph_rows.given_trees_leave.Goals as goal

pub returns : goal.returns
returns c p m f g at h h' ls st below hd nb o names root w ts xs rest s = gives_keep p m f g at h h' ls st below hd nb o names root w ts xs rest s
