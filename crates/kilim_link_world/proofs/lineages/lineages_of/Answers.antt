use Rattle.std.proofs.Common.{List, length, ap, ◌∙◌, arith}
use Rattle.kilim_link_inherited.specs.declared.entry.Entry.{Entry}
use Rattle.kilim_link_world.specs.Superclasses.{own_key}
use Rattle.kilim_link_world.proofs.Below.{length_below}
use Rattle.kilim_link_world.proofs.lineages.lineages_of.Goals as goal

pub new-requires : goal.new-requires
new-requires c =
    let len = ap (λ (ess : List (List Entry)). length ess) (c.as_slice.ensures ∙ c.in-Ok.ensures) ∙ length_below own_key (length c.args.ups.now) in
    omega arith
