use Rattle.std.proofs.Common.{◌≡◌, ◌++◌, drop}
use Rattle.kilim_run_interp.specs.instruction.Making.{first_fields}
use Rattle.kilim_run_interp.proofs.instruction.making.push_fields.Given as goal

abbrev pub invariant-loop-id : goal.invariant-loop-id
invariant-loop-id l = l.fields.items ++ first_fields l.program (drop l.id-index l.declared) ≡ l.fn.fields.items ++ first_fields l.fn.program l.fn.declared
