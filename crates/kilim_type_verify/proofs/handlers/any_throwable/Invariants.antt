use Rattle.std.proofs.Common.{◌≡◌, drop}
use Rattle.std.specs.Prelude.{codes}
use Rattle.std.specs.List.{list_any}
use Rattle.kilim_program.specs.Fits.{is_named}
use Rattle.kilim_type_verify.proofs.handlers.any_throwable.Given as goal

abbrev pub invariant-loop-class : goal.invariant-loop-class
invariant-loop-class l = list_any (is_named l.program (codes "java/lang/Throwable")) (drop l.class-index l.line) ≡ list_any (is_named l.program (codes "java/lang/Throwable")) l.line
