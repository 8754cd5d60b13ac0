use Rattle.kilim_isolation_laws.proofs.graph_rows.Taking.{takes_keep}
use Rattle.kilim_isolation_laws.proofs.graph_rows.taken_trees_come.Goals as goal

pub returns : goal.returns
returns c p m f g at h h' ls st below hd within n dims stuff w t is = takes_keep p m f g at h h' ls st below hd within n dims stuff w t is
