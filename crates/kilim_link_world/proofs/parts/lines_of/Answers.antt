use Rattle.std.proofs.Common.{◌≡◌, List, Option, length, ap, ◌∙◌, subst, arith}
use Rattle.kilim_program.specs.declared.names.ClassId.{ClassId}
use Rattle.kilim_link_inherited.specs.Roots.{IsRight}
use Rattle.kilim_link_world.specs.Agrees.{each_below}
use Rattle.kilim_link_world.specs.Superclasses.{own_key}
use Rattle.kilim_link_world.proofs.Climbing.{lineages_are}
use Rattle.kilim_link_world.proofs.Outlines.{length_outline}
use Rattle.kilim_link_world.proofs.parts.lines_of.Goals as goal

pub lineages_of-requires : goal.lineages_of-requires
lineages_of-requires c =
    let len = length_outline c.args.form c.args.classes.now c.in-Ok-new.outline c.in-Ok-new.ensures in
    let each = c.in-Ok-superclasses.ensures.one_each in
    let listed = ap (λ (us : List (Option ClassId)). length us) c.as_slice.ensures in
    let few = c.requires in
    omega arith

pub returns-in-Ok-lineages_of : goal.returns-in-Ok-lineages_of
returns-in-Ok-lineages_of c =
    let outline = c.in-Ok-new.outline in
    let ups = c.in-Ok-superclasses.superclasses in
    let are = c.in-Ok-superclasses.ensures in
    let len : length ups ≡ length c.args.classes.now = are.one_each ∙ length_outline c.args.form c.args.classes.now outline c.in-Ok-new.ensures in
    let right = subst (λ (us : List (Option ClassId)). IsRight us (each_below own_key (length us)) c.in-Ok-lineages_of.lineages) c.as_slice.ensures c.in-Ok-lineages_of.ensures in
    record {
      outlined = c.in-Ok-new.ensures;
      named = c.in-Ok.ensures;
      superclasses = are;
      lineages = λ d k lt. lineages_are outline ups c.in-Ok-lineages_of.lineages (length ups) are right d k (omega arith);
    }
