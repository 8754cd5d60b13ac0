use Rattle.std.proofs.Common.{arith, ◌∙◌}
use Rattle.kilim_isolation_paths.proofs.Reach.{back_within, leads_back, arrives_first}
use Rattle.kilim_isolation_paths.proofs.report.path_to.Goals as goal

pub get-requires-in-loop-k-2 : goal.get-requires-in-loop-k-2
get-requires-in-loop-k-2 g c = (back_within c.requires.linked.0 c.args.store.now.entries c.loop-k.k c.get-in-loop-k.result.now c.requires.linked.1 c.get-in-loop-k.ensures (omega arith)).1

pub loop-k-smaller : goal.loop-k-smaller
loop-k-smaller g c = (back_within c.requires.linked.0 c.args.store.now.entries c.loop-k.k c.get-in-loop-k.result.now c.requires.linked.1 c.get-in-loop-k.ensures (omega arith)).0

pub loop-k-preserved : goal.loop-k-preserved
loop-k-preserved g c = record {
  within = (back_within c.requires.linked.0 c.args.store.now.entries c.loop-k.k c.get-in-loop-k.result.now c.requires.linked.1 c.get-in-loop-k.ensures (omega arith)).1;
  back = leads_back c.args.store.now.entries c.args.at c.loop-k.k c.get-in-loop-k.result.now c.get-in-loop-k-2.result.now c.loop-k.path.items c.push-in-loop-k.new.self.items c.loop-k.invariant.back c.get-in-loop-k.ensures (omega arith) c.get-in-loop-k-2.ensures c.in-Ok-push.ensures.items;
}

pub returns : goal.returns
returns g c = arrives_first c.args.store.now.entries c.args.at c.loop-k.k c.loop-k.path.items c.from_vec.result c.loop-k.invariant.back (omega arith) c.loop-k.invariant.within (c.from_vec.ensures ∙ c.reverse.ensures.items)
