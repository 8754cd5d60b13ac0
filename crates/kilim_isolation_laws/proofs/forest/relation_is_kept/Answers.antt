use Rattle.kilim_isolation_laws.specs.forest.Laws.{IsPlace}
use Rattle.kilim_isolation_laws.proofs.forest.relation_is_kept.Goals as goal
use Rattle.kilim_isolation_laws.proofs.forest.Stored.{stored}
use Rattle.kilim_isolation_laws.proofs.forest.Moves.{put_keeps}
use Rattle.kilim_isolation_laws.proofs.forest.Walks.{one_walk}
use Rattle.kilim_isolation_laws.proofs.forest.Called.{called}
use Rattle.kilim_isolation_laws.proofs.forest.Canon.{canonical_relates}

pub returns-clause-store : goal.returns-clause-store
returns-clause-store c h h' u ls na nb a b f fuel new l k forest fs tidy y s = stored IsPlace h h' u ls forest fs tidy na nb a b f fuel new l k y s

pub returns-clause-put : goal.returns-clause-put
returns-clause-put c h h' u ls nb b forest fs names root s = put_keeps IsPlace h h' u ls forest fs nb b names root s

pub returns-clause-once : goal.returns-clause-once
returns-clause-once c h o x is js forest e f = one_walk h forest o is js x e f

pub returns-clause-call : goal.returns-clause-call
returns-clause-call c h u ls fuel count qual arg value forest fs tidy k = called IsPlace h u ls forest fs tidy fuel count qual arg value k

pub returns-clause-canonical : goal.returns-clause-canonical
returns-clause-canonical c h nodes at slots r = canonical_relates IsPlace h nodes at slots r
