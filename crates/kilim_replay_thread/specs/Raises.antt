-- What a thread does next whose instruction raises or throws, by its frames.
use Rattle.std.specs.Prelude.{ℕ, ◌+◌, List, [], ◌∷◌}
use Rattle.kilim_program.specs.declared.names.ClassId.{ClassId}
use Rattle.kilim_program.specs.declared.value.Value.TheVariants.{Ref}
use Rattle.kilim_program.specs.Program.{Program}
use Rattle.kilim_run_state.specs.declared.cause.EndCause.{EndCause}
use Rattle.kilim_run_state.specs.Machine.{Activation}
use Rattle.kilim_run_machine.specs.Raising.{thrown}
use Rattle.kilim_run_model.specs.Lone.{Lone, Next, Stands, raises_next, throws_by}

abbrev pub raised_at : Program → Lone → List Activation → ℕ → ℕ → EndCause → Next
raised_at p l [] done boxes why = Stands
raised_at p l (top ∷ below) done boxes why = raises_next p l done boxes top below why

abbrev pub thrown_at : Program → Lone → List Activation → ℕ → ℕ → ℕ → ClassId → EndCause → Next
thrown_at p l [] done boxes object class why = Stands
thrown_at p l (top ∷ below) done boxes object class why = throws_by l why (done + 1) boxes (thrown p class (Ref object) top below)
