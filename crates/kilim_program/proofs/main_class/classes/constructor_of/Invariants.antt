use Rattle.std.proofs.Common.{◌≡◌, drop}
use Rattle.std.specs.Prelude.{codes}
use Rattle.kilim_program.specs.Names.{first_that, methods_of}
use Rattle.kilim_program.specs.Members.{is_plain_method}
use Rattle.kilim_program.proofs.main_class.classes.constructor_of.Given as goal

abbrev pub invariant-loop-id : goal.invariant-loop-id
invariant-loop-id l = first_that (is_plain_method l.program (codes "<init>")) (drop l.id-index l.id-items) ≡ first_that (is_plain_method l.fn.program (codes "<init>")) (methods_of l.fn.program l.fn.class)
