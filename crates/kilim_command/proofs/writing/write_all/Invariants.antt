use Rattle.std.proofs.Common.{◌≡◌, ◌++◌, ◌≤◌, List, ℕ, length}
use Rattle.kilim_outside.specs.Causes.{Appended}
use Rattle.kilim_command.proofs.writing.write_all.Given as goal

abbrev pub invariant-loop-rest : goal.invariant-loop-rest
invariant-loop-rest g l = record {
  later : g.K.TextSink.faults l.fn.out ≤ g.K.TextSink.faults l.out;
  quiet : g.K.TextSink.faults l.out ≡ g.K.TextSink.faults l.fn.out;
  so_far : (done : List ℕ) × (done ++ l.rest ≡ l.bytes) × Appended (g.K.TextSink.written l.fn.out) (g.K.TextSink.written l.out) done;
}

abbrev pub decreases-loop-rest : goal.decreases-loop-rest
decreases-loop-rest g l = length l.rest
