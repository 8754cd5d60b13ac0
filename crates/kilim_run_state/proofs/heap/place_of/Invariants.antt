use Rattle.kilim_program.specs.declared.value.Value.{Value}
use Rattle.kilim_run_state.proofs.Fields.{NotBefore}
use Rattle.kilim_run_state.proofs.heap.place_of.Given as goal

abbrev pub invariant-loop-i : goal.invariant-loop-i
invariant-loop-i l = (v : Value) → NotBefore l.fields l.field v l.i
