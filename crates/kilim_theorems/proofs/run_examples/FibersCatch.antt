-- A woven fiber catches as the thread beside it does.
use Rattle.std.proofs.Common.{ap, ◌∙◌, Option, [], ◌∷◌}
use Rattle.kilim_program.specs.declared.value.Value.TheVariants.{Box, Null, Ref}
use Rattle.kilim_run_state.specs.declared.cause.EndCause.TheVariants as cause
use Rattle.kilim_run_state.specs.Objects.{new_object}
use Rattle.kilim_run_machine.specs.Natives.{Native}
use Rattle.kilim_run_machine.specs.Raising.{thrown, unwound}
use Rattle.kilim_fiber_spec.specs.Acts.{World, counted, raises, thrown_to, with_heap, with_new}
use Rattle.kilim_fiber_spec.specs.Fibers.{WRun, WStop, as_member, frame, wasks, wraised_behind, wstands_at}
use Rattle.kilim_fiber_spec.specs.Thread.{Stop, left_at, push, stands_at}
use Rattle.kilim_theorems.specs.run_examples.FibersCatch.{FibersCatch}

pub fibers_catch : FibersCatch
fibers_catch = record {
  raised = λ set W marks top below f w ps c g fs class left.
      ap (raises set WStop (wstands_at set W marks f ps) (counted w) cause.Zero W (λ k. thrown W k (Ref w.next) top below)) class
      ∙ ap (thrown_to set WStop (wstands_at set W marks f ps) (counted w) cause.Zero (with_new (counted w) (new_object W c))) left;
  thrown_object = λ set W marks top below f w ps n c why g fs left. ap (thrown_to set WStop (wstands_at set W marks f ps) (counted w) why (counted w)) left;
  of_native = λ set W marks top below f w ps m box q l s heap c g fs known class left.
      let w2 : World = with_heap w heap in
      ap (λ (o : Option Native). wasks set W marks (λ f2 after rest v. WRun top.method q l (push v s) below f2 after rest) (wraised_behind set W marks (frame top.method q l s ∷ below)) (as_member o) o (Box box ∷ Null ∷ []) f w2 ps) known
      ∙ (ap (raises set WStop (wstands_at set W marks f ps) (counted w2) cause.Null W (λ k. unwound W k (Ref w.next) (frame top.method q l s ∷ below))) class
      ∙ ap (thrown_to set WStop (wstands_at set W marks f ps) (counted w2) cause.Null (with_new (counted w2) (new_object W c))) left);
  uncaught = λ set W marks top below f w ps n c why left. ap (thrown_to set WStop (wstands_at set W marks f ps) (counted w) why (counted w)) left;
  beside = λ set top x below w. (
    λ c m q l s y fs class left.
        ap (raises set Stop (stands_at set) (counted w) cause.Zero set.program (λ k. left_at set.program k (Ref w.next) top x below)) class
        ∙ ap (thrown_to set Stop (stands_at set) (counted w) cause.Zero (with_new (counted w) (new_object set.program c))) left,
    λ n c why left. ap (thrown_to set Stop (stands_at set) (counted w) why (counted w)) left,
  );
}
