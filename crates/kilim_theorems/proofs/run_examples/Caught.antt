-- What is caught counts as one instruction.
use Rattle.std.proofs.Common.{◌+◌, ap, ◌∙◌, [], ◌∷◌}
use Rattle.kilim_program.specs.declared.value.Value.TheVariants.{Box, Null, Ref}
use Rattle.kilim_run_state.specs.declared.cause.EndCause.TheVariants as cause
use Rattle.kilim_run_state.specs.Objects.{new_object}
use Rattle.kilim_run_machine.specs.Raising.{thrown, unwound}
use Rattle.kilim_run_model.specs.Lone.{Lone, asks_next, on_heap, raises_by, raises_of, throws_by, went}
use Rattle.kilim_theorems.specs.run_examples.Caught.{CaughtCountsOnce}

pub caught_counts_once : CaughtCountsOnce
caught_counts_once = record {
  raised = λ setting t l done boxes top f below fs c class left.
      ap (raises_of setting.program l cause.Zero (done + 1) boxes (λ k. thrown setting.program k (Ref l.next) top below)) class
      ∙ ap (raises_by l (new_object setting.program c) cause.Zero (done + 1) boxes) left;
  thrown_object = λ setting t l done boxes top f below fs object c why left. ap (throws_by l why (done + 1) boxes) left;
  of_native = λ setting t l done boxes top f below frames fs m box heap c known class left.
      let after : Lone = went (on_heap l heap) frames done boxes in
      ap (asks_next setting after (Box box ∷ Null ∷ [])) known
      ∙ (ap (raises_of setting.program after cause.Null (done + 1) boxes (λ k. unwound setting.program k (Ref l.next) frames)) class
      ∙ ap (raises_by after (new_object setting.program c) cause.Null (done + 1) boxes) left);
}
