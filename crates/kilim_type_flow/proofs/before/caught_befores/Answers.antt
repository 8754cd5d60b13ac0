use Rattle.std.proofs.Common.{List, ◌∙◌, ap, arith}
use Rattle.kilim_program.specs.declared.class.Handler.{Handler}
use Rattle.kilim_type_spec.specs.Typed.{handlers_at}
use Rattle.kilim_type_flow.specs.Marks.{caught_tos}
use Rattle.kilim_type_flow.proofs.FlowEdges.{all_before, none_before, one_before}
use Rattle.kilim_type_flow.proofs.before.caught_befores.Goals as goal

pub loop-at-init : goal.loop-at-init
loop-at-init c = none_before (caught_tos c.args.method.now) c.args.method.now c.args.size c.in-Ok.rows.items c.in-Ok.ensures

pub loop-at-preserved : goal.loop-at-preserved
loop-at-preserved c =
    one_before (caught_tos c.args.method.now) c.args.method.now c.requires c.args.size c.loop-at.at c.entry_of-entry.result.now c.as_slice-targets.result.now c.loop-at.rows.items c.add_edges.new.rows.items
    c.entry_of-entry.ensures
    (c.as_slice-targets.ensures.value ∙ (c.in-Ok-handlers_at.ensures ∙ ap (λ (hs : List Handler). handlers_at hs c.entry_of-entry.result.now.0) c.as_slice-handlers.ensures))
    c.loop-at.invariant c.in-Ok-add_edges.ensures

pub returns : goal.returns
returns c = all_before (caught_tos c.args.method.now) c.args.method.now c.requires c.args.size c.loop-at.at c.loop-at.rows.items (omega arith) c.loop-at.invariant
