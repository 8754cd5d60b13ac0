use Rattle.std.proofs.Common.{ℕ, ◌∙◌, ap, arith}
use Rattle.kilim_type_spec.specs.Typed.{edges}
use Rattle.kilim_type_flow.specs.Marks.{flow_tos}
use Rattle.kilim_type_flow.proofs.FlowEdges.{all_before, none_before, one_before}
use Rattle.kilim_type_flow.proofs.before.befores.Goals as goal

pub loop-at-init : goal.loop-at-init
loop-at-init c = none_before flow_tos c.args.method.now c.args.size c.in-Ok.rows.items c.in-Ok.ensures

pub loop-at-preserved : goal.loop-at-preserved
loop-at-preserved c =
    one_before flow_tos c.args.method.now c.requires c.args.size c.loop-at.at c.entry_of-entry.result.now c.as_slice-targets.result.now c.loop-at.rows.items c.add_edges.new.rows.items
    c.entry_of-entry.ensures
    (c.as_slice-targets.ensures.value ∙ (c.in-Ok-edges_of.ensures ∙ ap (λ (n : ℕ). edges c.entry_of-entry.result.now.1 n) c.place_behind-next.ensures))
    c.loop-at.invariant c.in-Ok-add_edges.ensures

pub returns : goal.returns
returns c = all_before flow_tos c.args.method.now c.requires c.args.size c.loop-at.at c.loop-at.rows.items (omega arith) c.loop-at.invariant
