use Rattle.std.proofs.Common.{Bool, sym, ap, ◌∙◌}
use Rattle.std.specs.Prelude.{◌||◌}
use Rattle.std.specs.List.{list_any}
use Rattle.kilim_link_override_faults.specs.Parts.{stands_in}
use Rattle.kilim_link_override_faults.proofs.Places.{nearer_is}
use Rattle.kilim_link_override_faults.proofs.abstracts.is_nearer.Goals as goal

pub returns-else-stands_in : goal.returns-else-stands_in
returns-else-stands_in c =
    let w = c.args.world.now in
    let name = c.args.signature.now.name in
    let descriptor = c.args.signature.now.descriptor in
    let others = list_any (stands_in w name descriptor) c.args.nearer.now in
    c.stands_in_any.ensures
    ∙ (ap (λ (b : Bool). b || others) (sym c.if-stands_in.false ∙ c.stands_in.ensures) ∙ nearer_is w c.args.class c.args.nearer.now name descriptor)
