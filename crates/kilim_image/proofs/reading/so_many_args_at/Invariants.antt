use Rattle.std.proofs.Common.{◌≡◌, ◌-◌}
use Rattle.std.specs.Int.{w32}
use Rattle.kilim_class_grammar.specs.Reader.{many, signed_at}
use Rattle.kilim_class_grammar.proofs.Loops.{with_front}
use Rattle.kilim_image.specs.declared.fault.ImageFault.TheVariants as fault
use Rattle.kilim_image.proofs.reading.so_many_args_at.Given as goal

abbrev pub invariant-loop : goal.invariant-loop
invariant-loop l = with_front l.args (many (signed_at fault.Cut w32) (l.count - l.counter) l.rest) ≡ many (signed_at fault.Cut w32) l.count l.bytes
