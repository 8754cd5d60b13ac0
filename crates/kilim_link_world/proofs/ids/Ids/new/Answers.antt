use Rattle.kilim_link_world.specs.Ids.{named_in}
use Rattle.std.proofs.lemmas.List.{take_all}
use Rattle.std.proofs.Common.{◌<◌, length, get_or, sym, ap, ◌∙◌, arith, Some, None}
use Rattle.std.specs.Prelude.{if◌then◌else◌}
use Rattle.std.specs.Str.{bytes_eq}
use Rattle.std.proofs.lemmas.Option.{slice_get-get_or}
use Rattle.kilim_link_spec.specs.World.{or_else}
use Rattle.kilim_link_world.proofs.Lists.{position_next}
use Rattle.kilim_link_world.proofs.ids.Ids.new.Goals as goal

pub loop-i-preserved : goal.loop-i-preserved
loop-i-preserved c =
    let at = get_or c.args.classes.now c.loop-i.i c.index-classes-i.result in
    let lt : c.loop-i.i < length c.args.classes.now = omega (arith, c.loop-i-test.true) in (
      omega (arith, c.loop-i-test.true),
      λ name.
          c.in-Ok.ensures name
          ∙ (ap (λ o. or_else o (if bytes_eq at.name name then Some c.loop-i.i else None)) (c.loop-i.invariant.1 name)
          ∙ sym (position_next (λ v. bytes_eq v.name name) c.args.classes.now c.loop-i.i at (slice_get-get_or c.args.classes.now c.loop-i.i c.index-classes-i.result lt))),
    )

pub returns : goal.returns
returns c = λ name. c.loop-i.invariant.1 name ∙ ap (named_in name) (take_all c.loop-i.i c.args.classes.now (omega (arith, c.loop-i-test.false)))
