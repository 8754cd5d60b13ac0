use Rattle.std.proofs.Common.{◌+◌, ◌++◌, ◌∷◌, [], sym, ap, ◌∙◌, List, ℕ, take}
use Rattle.std.proofs.lemmas.List.{take_all}
use Rattle.kilim_program.specs.BuiltIn.{method_id, methods_from}
use Rattle.kilim_program.specs.declared.names.MethodId.{MethodId}
use Rattle.kilim_link_views.proofs.built_ins.Distances.{from_more}
use Rattle.kilim_link_views.proofs.built_ins.classes.methods_from.Goals as goal

pub loop-distance-preserved : goal.loop-distance-preserved
loop-distance-preserved c =
    let i = c.loop-distance.distance-index in
    let first = c.args.first in
    c.in-Ok.ensures.ok
    ∙ (ap (λ (ids : List MethodId). ids ++ method_id (first + c.from.result) ∷ []) c.loop-distance.invariant
    ∙ (ap (λ (n : ℕ). methods_from first (take i c.args.distances.now) ++ method_id (first + n) ∷ []) c.from.ensures
    ∙ sym (from_more first c.args.distances.now i 0 c.loop-distance-test.true)))

pub returns : goal.returns
returns c = c.loop-distance.invariant ∙ ap (methods_from c.args.first) (take_all c.loop-distance.distance-index c.args.distances.now c.loop-distance-test.false)
