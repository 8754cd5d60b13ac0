use Rattle.std.proofs.Common.{ℕ, ℤ, rules}
use Rattle.std.specs.Prelude.{FitsSigned}
use Rattle.std.proofs.lemmas.Int.{to_z-of_z}
use Rattle.std.specs.Int.{w8}
use Rattle.kilim_class_code.specs.declared.opcodes.instr.RawInstr.TheVariants.{Iinc}
use Rattle.kilim_class_code.specs.opcodes.Reading.{unsigned_at, integer_at, operands_at}
use Rattle.kilim_class_code.proofs.opcodes.Boths.{both_made, both_fails, both_stops}
use Rattle.kilim_class_code.proofs.opcodes.reading.iinc_at.Goals as goal

pub returns-in-Ok-i8_at : goal.returns-in-Ok-i8_at
unfolding operands_at
returns-in-Ok-i8_at c =
    let fits : FitsSigned w8 c.in-Ok-i8_at.number = search rules in
    rw (to_z-of_z w8 c.in-Ok-i8_at.number fits) (both_made (λ (x : ℕ × ℤ). Iinc c.args.op x.0 x.1) (unsigned_at w8) c.args.bytes.now c.in-Ok.slot c.in-Ok.rest.now c.in-Ok.ensures (integer_at w8) c.in-Ok-i8_at.number c.in-Ok-i8_at.rest.now c.in-Ok-i8_at.ensures)

pub returns-in-Err-i8_at : goal.returns-in-Err-i8_at
unfolding operands_at
returns-in-Err-i8_at c = both_fails (λ (x : ℕ × ℤ). Iinc c.args.op x.0 x.1) (unsigned_at w8) c.args.bytes.now c.in-Ok.slot c.in-Ok.rest.now c.in-Ok.ensures (integer_at w8) c.in-Err-i8_at.fault c.in-Err-i8_at.ensures

pub returns-in-Err : goal.returns-in-Err
unfolding operands_at
returns-in-Err c = both_stops (λ (x : ℕ × ℤ). Iinc c.args.op x.0 x.1) (unsigned_at w8) c.args.bytes.now c.in-Err.fault c.in-Err.ensures (integer_at w8)
