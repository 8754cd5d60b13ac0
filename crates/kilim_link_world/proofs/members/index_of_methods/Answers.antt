use Rattle.std.proofs.lemmas.List.{take_all}
use Rattle.std.proofs.Common.{◌<◌, Bool, List, ℕ, length, refl, ap, ◌∙◌, arith}
use Rattle.std.specs.Prelude.{◌&&◌}
use Rattle.std.specs.Str.{bytes_eq}
use Rattle.std.proofs.lemmas.Option.{slice_get_read}
use Rattle.kilim_link_spec.specs.World.{is_method}
use Rattle.kilim_link_inherited.specs.Index.{positions, places_from}
use Rattle.kilim_link_world.proofs.Lists.{index_next}
use Rattle.kilim_link_world.proofs.members.index_of_methods.Goals as goal

pub loop-i-preserved : goal.loop-i-preserved
loop-i-preserved c =
    let xs = c.args.methods.now in
    let i = c.loop-i.i in
    let lt : i < length xs = omega (arith, c.loop-i-test.true) in
    let at = c.index-methods-i.result in
    let s : List ℕ → List ℕ → List ℕ → List ℕ → Bool = λ n d name descriptor. bytes_eq n name && bytes_eq d descriptor in (
      omega (arith, c.loop-i-test.true),
      λ name descriptor.
          c.in-Ok-add.ensures name descriptor
          ∙ index_next (is_method name descriptor) xs i at (slice_get_read xs (length xs) i at refl lt c.index-methods-i.is)
          (s c.in-Ok.key.name c.in-Ok.key.descriptor name descriptor) (positions c.loop-i.index.places name descriptor)
          (c.loop-i.invariant.1 name descriptor)
          (ap (λ (n : List ℕ). s n c.in-Ok.key.descriptor name descriptor) c.in-Ok.ensures.name
          ∙ ap (λ (d : List ℕ). s at.name d name descriptor) c.in-Ok.ensures.descriptor),
    )

pub returns : goal.returns
returns c =
    λ name descriptor.
    c.loop-i.invariant.1 name descriptor
    ∙ ap (places_from (is_method name descriptor) 0) (take_all c.loop-i.i c.args.methods.now (omega (arith, c.loop-i-test.false)))
