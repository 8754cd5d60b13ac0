use Rattle.std.proofs.Common.{List, ℕ, Option, ap, ◌∙◌}
use Rattle.std.specs.Prelude.{option_map}
use Rattle.std.proofs.lemmas.Int.{to_z-of_z}
use Rattle.kilim_program.specs.declared.instr.Instr.TheVariants.{Tableswitch}
use Rattle.kilim_link_spec.specs.Code.{applied, place_of}
use Rattle.kilim_link_code.proofs.instr.table_switch.Goals as goal

pub returns : goal.returns
returns c =
    let low = c.ranges.low in
    let made = simp to_z-of_z at c.table_of.ensures in
    made
    ∙ (ap (λ (first : Option ℕ). applied (option_map (λ to. Tableswitch to c.args.low) first) c.in-Ok-places_of.places) c.in-Ok.ensures
    ∙ ap (λ (places : Option (List ℕ)). applied (option_map (λ to. Tableswitch to c.args.low) (place_of c.args.default.now)) places) c.in-Ok-places_of.ensures)
