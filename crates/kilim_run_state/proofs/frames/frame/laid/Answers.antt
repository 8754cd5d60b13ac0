use Rattle.std.proofs.Common.{◌∙◌, ◌++◌, ◌∷◌, [], List, ap, sym}
use Rattle.kilim_program.specs.declared.value.Value.{Value}
use Rattle.kilim_run_state.specs.Machine.{slots_of}
use Rattle.kilim_run_state.proofs.frames.Slots.{slots_append}
use Rattle.kilim_run_state.proofs.frames.frame.laid.Goals as goal

pub loop-value-preserved : goal.loop-value-preserved
loop-value-preserved c =
    c.in-Ok-push_slots.ensures
    ∙ (ap (λ (xs : List Value). xs ++ slots_of (c.in-Some.value ∷ [])) c.loop-value.invariant ∙ sym (slots_append c.loop-value.yielded (c.in-Some.value ∷ [])))
