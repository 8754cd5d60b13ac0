use Rattle.std.proofs.Common.{List, ℕ, ◌+◌, ◌++◌, ◌∷◌, [], take, subst, sym, arith, get_or, set}
use Rattle.std.proofs.lemmas.List.{take_all}
use Rattle.kilim_type_flow.specs.Marks.{Further}
use Rattle.kilim_type_flow.proofs.FlowEdges.{no_further, one_further}
use Rattle.kilim_type_flow.proofs.Lists.{take_next}
use Rattle.kilim_type_flow.proofs.before.add_edges.Goals as goal

pub loop-at-init : goal.loop-at-init
loop-at-init c = no_further c.args.place c.args.rows.now.items

pub loop-at-preserved : goal.loop-at-preserved
loop-at-preserved c =
    let f = one_further c.args.place c.number_at-to.result (take c.loop-at.at c.args.tos.now) c.args.rows.now.items c.loop-at.rows.items c.loop-at.invariant in
    let g = subst (λ (ts : List ℕ). Further c.args.place ts c.args.rows.now.items (set c.loop-at.rows.items c.number_at-to.result (get_or c.loop-at.rows.items c.number_at-to.result [] ++ c.args.place ∷ []))) (sym (take_next c.args.tos.now c.loop-at.at c.number_at-to.result c.number_at-to.ensures)) f in
    subst (λ (rs : List (List ℕ)). Further c.args.place (take (c.loop-at.at + 1) c.args.tos.now) c.args.rows.now.items rs) (sym c.in-Ok.ensures) g

pub returns : goal.returns
returns c = subst (λ (ts : List ℕ). Further c.args.place ts c.args.rows.now.items c.loop-at.rows.items) (take_all c.loop-at.at c.args.tos.now (omega arith)) c.loop-at.invariant
