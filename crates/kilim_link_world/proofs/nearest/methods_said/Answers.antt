use Rattle.kilim_link_spec.specs.declared.view.DeclaredMethod.{DeclaredMethod}
use Rattle.kilim_link_world.specs.Agrees.{placed}
use Rattle.std.specs.List.{position_from}
use Rattle.std.proofs.lemmas.List.{take_all}
use Rattle.std.proofs.Common.{◌<◌, ◌+◌, List, ℕ, length, Some, refl, ap, ◌∙◌, arith}
use Rattle.std.proofs.lemmas.Option.{slice_get_read}
use Rattle.kilim_link_spec.specs.World.{is_method}
use Rattle.kilim_link_inherited.specs.declared.said.Said.{Said}
use Rattle.kilim_link_inherited.specs.Nearest.{said_by}
use Rattle.kilim_link_world.proofs.Saying.{said_next}
use Rattle.kilim_link_world.proofs.nearest.methods_said.Goals as goal

pub loop-i-preserved : goal.loop-i-preserved
loop-i-preserved c =
    let xs = c.args.methods.now in
    let i = c.loop-i.i in
    let lt : i < length xs = omega (arith, c.loop-i-test.true) in
    let at = c.index-methods-i.result in
    let one : Said = record { signature = c.in-Ok.signature; value = Some (c.args.first + i) } in (
      omega (arith, c.loop-i-test.true),
      λ name descriptor.
          ap (λ (ss : List Said). said_by ss name descriptor) c.in-Ok-push.ensures.ok
          ∙ said_next (is_method name descriptor) c.args.first xs i at (slice_get_read xs (length xs) i at refl lt c.index-methods-i.is) name descriptor c.loop-i.said one
          (ap (λ (n : List ℕ). is_method name descriptor (record at { name = n; descriptor = c.in-Ok.signature.descriptor })) c.in-Ok.ensures.name
          ∙ ap (λ (d : List ℕ). is_method name descriptor (record at { descriptor = d })) c.in-Ok.ensures.descriptor)
          refl (c.loop-i.invariant.1 name descriptor),
    )

pub returns : goal.returns
returns c =
    λ name descriptor.
    c.loop-i.invariant.1 name descriptor
    ∙ ap (λ (ms : List DeclaredMethod). placed c.args.first (position_from (is_method name descriptor) 0 ms)) (take_all c.loop-i.i c.args.methods.now (omega (arith, c.loop-i-test.false)))
