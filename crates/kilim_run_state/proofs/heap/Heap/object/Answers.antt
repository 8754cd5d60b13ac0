use Rattle.std.proofs.Common.{◌∙◌, arith}
use Rattle.kilim_run_state.proofs.Arena.{there_in, there_is_within, none_there, read_there}
use Rattle.kilim_run_state.proofs.heap.Heap.object.Goals as goal

pub index-requires : goal.index-requires
index-requires c = let h = there_is_within c.self.inside.places.items c.args.at (there_in _ _ _ c.self.view_is c.requires) in omega (arith, h, c.self.inside.places.ok.0)

pub unreachable-requires : goal.unreachable-requires
unreachable-requires c = none_there _ _ _ _ c.self.view_is c.requires c.index.ensures c.in-None.is

pub returns : goal.returns
returns c = read_there _ _ _ _ c.self.view_is c.requires c.index.ensures ∙ c.in-Some.is
