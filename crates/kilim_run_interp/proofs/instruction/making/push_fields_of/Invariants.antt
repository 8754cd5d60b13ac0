use Rattle.std.proofs.Common.{◌≡◌, ◌++◌, drop}
use Rattle.std.specs.List.{flat_map}
use Rattle.kilim_program.specs.Names.{fields_of}
use Rattle.kilim_run_interp.specs.instruction.Making.{first_fields}
use Rattle.kilim_run_interp.proofs.instruction.making.push_fields_of.Given as goal

abbrev pub invariant-loop-at : goal.invariant-loop-at
invariant-loop-at l =
    l.fields.items ++ first_fields l.program (flat_map (fields_of l.program) (drop l.at-index l.line)) ≡ l.fn.fields.items ++ first_fields l.fn.program (flat_map (fields_of l.fn.program) l.fn.line)
