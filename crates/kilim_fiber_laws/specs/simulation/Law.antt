-- A woven fiber does what the unwoven thread does, whatever pauses come.
use Rattle.std.specs.Prelude.{Bool, List}
use Rattle.kilim_program.specs.declared.names.MethodId.{MethodId}
use Rattle.kilim_program.specs.Program.{Program}
use Rattle.kilim_run_model.specs.State.{Setting}
use Rattle.kilim_fiber_spec.specs.Form.{Facts, Members}
use Rattle.kilim_fiber_spec.specs.Links.{Forms, code}
use Rattle.kilim_fiber_spec.specs.Runs.{most_uncounted}
use Rattle.kilim_fiber_spec.specs.Serves.{From, Known, Rows, Serves}
use Rattle.kilim_fiber_spec.specs.Thread.{Thread}

-- Where each woven method has the form of its old one by old place, both programs' instructions do alike, and what the thread comes
-- to is typed and intact.
abbrev pub WovenSimulates : Type 0
WovenSimulates =
    (set : Setting) (W : Program) (marks : List (List Bool)) (form : Forms set W marks) → Members set.program W → ((m : MethodId) → Facts set.program W (code set W marks) (form m)) → Rows set W marks form →
    (first : Thread) → Known set W marks form (From set first) → Serves set W marks form most_uncounted (From set first)
