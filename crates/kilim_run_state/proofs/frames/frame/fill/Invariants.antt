use Rattle.std.proofs.Common.{◌≡◌, ◌++◌, replicate}
use Rattle.kilim_program.specs.declared.value.Value.TheVariants.{Null}
use Rattle.kilim_run_state.proofs.frames.frame.fill.Given as goal

abbrev pub invariant-loop : goal.invariant-loop
invariant-loop l = l.items.items ≡ l.fn.items.items ++ replicate l.counter Null
