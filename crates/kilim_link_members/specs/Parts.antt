-- The parts of a body that are made of code alone.
use Rattle.std.specs.Prelude.{ℕ, List, Option, Some}
use Rattle.kilim_class_attributes.specs.declared.attribute.Code.{Code}
use Rattle.kilim_class_pool.specs.declared.entry.Entry.{Entry}
use Rattle.kilim_program.specs.declared.class.Handler.{Handler}
use Rattle.kilim_program.specs.declared.instr.Instr.{Instr}
use Rattle.kilim_program.specs.Names.{◌>>=◌}
use Rattle.kilim_link_spec.specs.Code.{code_of, decoded}
use Rattle.kilim_link_spec.specs.Linked.{handlers_in}
use Rattle.kilim_link_spec.specs.World.{World}

-- the instructions and the exception table, where the code has no fault and all that they name is there
abbrev pub parts_in : World → List Entry → Code → Option (List (ℕ × Instr) × List Handler)
parts_in w pool code = code_of w pool (decoded code.code) >>= λ instrs. handlers_in w pool code.exception_table >>= λ handlers. Some (instrs, handlers)
