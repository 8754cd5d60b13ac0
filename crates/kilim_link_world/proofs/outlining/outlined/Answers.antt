use Rattle.std.proofs.lemmas.List.{take_all}
use Rattle.std.proofs.Common.{◌<◌, Bool, false, List, [], ◌∷◌, ◌++◌, length, Option, refl, take, sym, ap, ◌∙◌, arith}
use Rattle.std.specs.Prelude.{unwrap_or}
use Rattle.std.proofs.lemmas.Option.{slice_get_read}
use Rattle.kilim_program.specs.declared.class.Class.{Class}
use Rattle.kilim_link_spec.specs.World.{outlined}
use Rattle.kilim_link_world.specs.Outlining.{mark_at}
use Rattle.kilim_link_world.proofs.Outlines.{outlined_next}
use Rattle.kilim_link_world.proofs.outlining.outlined.Goals as goal

pub loop-i-preserved : goal.loop-i-preserved
loop-i-preserved c =
    let vs = c.args.classes.now in
    let i = c.loop-i.i in
    let lt : i < length vs = omega (arith, c.loop-i-test.true) in
    let at = c.index-classes-i.result in (
      omega (arith, c.loop-i-test.true),
      c.in-Ok-push.ensures.ok
          ∙ (ap (λ (cs : List Class). cs ++ c.in-Ok.class ∷ []) c.loop-i.invariant.1
          ∙ (ap (λ (class : Class). outlined vs (λ d v. mark_at c.args.marks.now d) 0 (take i vs) ++ class ∷ []) c.in-Ok.ensures
          ∙ outlined_next c.args.ids.now (λ d v. mark_at c.args.marks.now d) vs i at c.get-message.result.now c.requires.named
          (slice_get_read vs (length vs) i at refl lt c.index-classes-i.is)
          (sym (ap (λ (o : Option Bool). unwrap_or o false) c.get-message.ensures)))),
    )

pub returns : goal.returns
returns c =
    let vs = c.args.classes.now in
    c.loop-i.invariant.1 ∙ ap (outlined vs (λ d v. mark_at c.args.marks.now d) 0) (take_all c.loop-i.i vs (omega (arith, c.loop-i-test.false)))
