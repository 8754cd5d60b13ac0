use Rattle.std.proofs.Common.{refl}
use Rattle.kilim_run_state.specs.declared.value.Object.{Object}
use Rattle.kilim_run_state.specs.Words.{with_field_in}
use Rattle.kilim_run_state.proofs.Arena.{there_in}
use Rattle.kilim_run_state.proofs.Fields.{field_in_place, changed_arena, now_changed}
use Rattle.kilim_run_state.proofs.heap.Heap.set_field.Goals as goal

pub set_field_at-requires : goal.set_field_at-requires
set_field_at-requires c = field_in_place _ _ c.args.at c.args.field c.self.view_is c.requires.field

pub invariant_of-self : goal.invariant_of-self
invariant_of-self c = changed_arena _ _ _ c.args.at (λ (o : Object). record o { fields = with_field_in o.fields c.args.field c.args.value }) _ _ c.self.invariant refl (there_in _ _ _ c.self.view_is c.requires.there) c.set_field_at.ensures

pub returns : goal.returns
returns c = now_changed _ _ _ c.args.at (λ (o : Object). record o { fields = with_field_in o.fields c.args.field c.args.value }) _ c.self.view_is refl (there_in _ _ _ c.self.view_is c.requires.there) c.set_field_at.ensures
