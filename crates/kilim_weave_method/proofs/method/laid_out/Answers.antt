use Rattle.std.proofs.Common.{Bool, List, subst, sym}
use Rattle.kilim_weave_spec.specs.Woven as form
use Rattle.kilim_weave_pieces.specs.Listed.{AreDeclared}
use Rattle.kilim_weave_method.specs.Laid.{IsLaid}
use Rattle.kilim_weave_method.proofs.Outcomes.{so_of}
use Rattle.kilim_weave_method.proofs.method.laid_out.Goals as goal

pub placed_items-placed-requires : goal.placed_items-placed-requires
placed_items-placed-requires c = record {
  slots = c.requires.slots;
  flags = subst (λ (bs : List Bool). AreDeclared c.args.method.now bs) (sym c.as_slice-flags.ensures.value) c.in-Ok.ensures;
  rising = c.requires.rising;
  listed = c.requires.listed;
}

pub returns-in-Ok-placed : goal.returns-in-Ok-placed
returns-in-Ok-placed c = so_of c.lay.result (λ laid so. subst (λ (is : List form.Item). IsLaid is laid) c.in-Ok-placed.ensures so) c.lay.ensures
