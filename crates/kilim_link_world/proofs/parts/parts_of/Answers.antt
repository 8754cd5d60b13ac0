use Rattle.std.proofs.Common.{List, Option, length, sym, ap, ◌∙◌, subst}
use Rattle.kilim_program.specs.declared.names.ClassId.{ClassId}
use Rattle.kilim_link_world.specs.Superclasses.{AreSuperclasses}
use Rattle.kilim_link_world.proofs.Outlines.{length_outline}
use Rattle.kilim_link_world.proofs.parts.parts_of.Goals as goal

pub all_members_of-requires : goal.all_members_of-requires
all_members_of-requires c =
    let lines = c.in-Ok.lines in
    record {
      one_each = ap (λ (us : List (Option ClassId)). length us) c.as_slice.ensures
          ∙ (c.in-Ok.ensures.superclasses.one_each
          ∙ length_outline c.args.form c.args.classes.now lines.outline c.in-Ok.ensures.outlined);
      methods_fit = c.requires.methods_fit;
      fields_fit = c.requires.fields_fit;
    }

pub returns-in-Ok-all_members_of : goal.returns-in-Ok-all_members_of
returns-in-Ok-all_members_of c =
    let form = c.args.form in
    let outline = c.in-Ok.lines.outline in
    let lines = c.in-Ok.ensures in
    let members = c.in-Ok-all_members_of.ensures in
    let are = subst (λ (us : List (Option ClassId)). AreSuperclasses outline us) (sym c.as_slice.ensures) lines.superclasses in
    record {
      outlined = lines.outlined;
      named = lines.named;
      superclasses_are = lines.superclasses;
      lineages_are = lines.lineages;
      methods_are = members.methods;
      first_methods_are = members.first_methods;
      first_fields_are = members.first_fields;
      nearest_methods_are = c.in-Ok-all_members_of.ensures.nearest_methods form outline are;
      nearest_fields_are = c.in-Ok-all_members_of.ensures.nearest_fields form outline are;
    }
