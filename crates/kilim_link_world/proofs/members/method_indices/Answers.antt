use Rattle.kilim_link_spec.specs.declared.view.ClassView.{ClassView}
use Rattle.std.specs.Prelude.{slice_get}
use Rattle.std.proofs.lemmas.List.{take_all}
use Rattle.std.proofs.Common.{◌<◌, List, length, get_or, ap, ◌∙◌, arith}
use Rattle.std.proofs.lemmas.Option.{slice_get-get_or}
use Rattle.kilim_link_inherited.specs.declared.index.Index.{Index}
use Rattle.kilim_link_inherited.specs.Index.{places_from}
use Rattle.kilim_link_spec.specs.World.{is_method, methods_at}
use Rattle.kilim_link_spec.specs.declared.view.DeclaredMethod.{DeclaredMethod}
use Rattle.kilim_link_world.specs.Agrees.{indexed}
use Rattle.kilim_link_world.proofs.Saying.{indices_next, length_next}
use Rattle.kilim_link_world.proofs.members.method_indices.Goals as goal

pub loop-i-preserved : goal.loop-i-preserved
loop-i-preserved c =
    let classes = c.args.classes.now in
    let i = c.loop-i.i in
    let lt : i < length classes = omega (arith, c.loop-i-test.true) in
    let at = get_or classes i c.index-classes-i.result in
    let is = slice_get-get_or classes i c.index-classes-i.result lt in
    let own = c.in-Ok.index in (
      omega (arith, c.loop-i-test.true),
      length_next c.loop-i.indices own c.push.new.self i c.in-Ok-push.ensures.ok c.loop-i.invariant.1,
      λ k name descriptor.
          ap (λ (indices : List Index). indexed indices k name descriptor) c.in-Ok-push.ensures.ok
          ∙ indices_next name descriptor classes i at c.loop-i.indices own is c.loop-i.invariant.1
          (c.in-Ok.ensures name descriptor ∙ ap (λ (methods : List DeclaredMethod). places_from (is_method name descriptor) 0 methods) c.as_slice.ensures)
          (λ j. c.loop-i.invariant.2 j name descriptor) k,
    )

pub returns : goal.returns
returns c =
    λ k name descriptor.
    c.loop-i.invariant.2 k name descriptor
    ∙ ap (λ (vs : List ClassView). places_from (is_method name descriptor) 0 (methods_at (slice_get vs k))) (take_all c.loop-i.i c.args.classes.now (omega (arith, c.loop-i-test.false)))
