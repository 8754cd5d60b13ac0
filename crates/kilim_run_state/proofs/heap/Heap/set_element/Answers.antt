use Rattle.std.proofs.Common.{refl}
use Rattle.std.specs.Prelude.{slice_set}
use Rattle.kilim_run_state.specs.declared.value.Object.{Object}
use Rattle.kilim_run_state.proofs.Arena.{there_in}
use Rattle.kilim_run_state.proofs.Fields.{element_in_place, changed_arena, now_changed}
use Rattle.kilim_run_state.proofs.heap.Heap.set_element.Goals as goal

pub set_element_at-requires : goal.set_element_at-requires
set_element_at-requires c = element_in_place _ _ c.args.at c.args.index c.self.view_is c.requires.element

pub invariant_of-self : goal.invariant_of-self
invariant_of-self c = changed_arena _ _ _ c.args.at (λ (o : Object). record o { elements = slice_set o.elements c.args.index c.args.value }) _ _ c.self.invariant refl (there_in _ _ _ c.self.view_is c.requires.there) c.set_element_at.ensures

pub returns : goal.returns
returns c = now_changed _ _ _ c.args.at (λ (o : Object). record o { elements = slice_set o.elements c.args.index c.args.value }) _ c.self.view_is refl (there_in _ _ _ c.self.view_is c.requires.there) c.set_element_at.ensures
