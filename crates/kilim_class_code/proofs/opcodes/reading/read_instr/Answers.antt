use Rattle.std.proofs.Common.{sym, ap, ◌∙◌, drop, arith, inl, inr}
use Rattle.kilim_class_code.specs.opcodes.Reading.{instr_at}
use Rattle.kilim_class_code.proofs.opcodes.ReadAt.{shorter, stands, same_instr, none_spelled}
use Rattle.kilim_class_code.proofs.opcodes.reading.read_instr.Goals as goal

pub overflow_sub-result : goal.overflow_sub-result
overflow_sub-result c =
    shorter c.args.code.now c.args.at c.in-Ok.instr c.in-Ok.rest.now (λ i. let byte = c.type_inv.code i in omega arith) c.requires
    (ap (instr_at c.args.at) (sym c.split_at.ensures.back) ∙ c.in-Ok.ensures)

pub returns-in-Ok-clause-found : goal.returns-in-Ok-clause-found
returns-in-Ok-clause-found c =
    stands c.args.code.now c.args.at c.in-Ok.instr c.in-Ok.rest.now (λ i. let byte = c.type_inv.code i in omega arith) c.requires
    (ap (instr_at c.args.at) (sym c.split_at.ensures.back) ∙ c.in-Ok.ensures)

pub returns-in-Ok-clause-only : goal.returns-in-Ok-clause-only
returns-in-Ok-clause-only c = λ instr rest fits e.
    same_instr c.args.at (drop c.args.at c.args.code.now) c.in-Ok.instr c.in-Ok.rest.now instr rest
    (ap (instr_at c.args.at) (sym c.split_at.ensures.back) ∙ c.in-Ok.ensures) fits e

pub returns-in-Err-clause-only : goal.returns-in-Err-clause-only
returns-in-Err-clause-only c = λ instr rest fits e.
    elim c.in-Err.ensures [
      | inl memory ↦ memory
      | inr fault ↦ absurd (none_spelled c.args.at (drop c.args.at c.args.code.now) c.in-Err.fault instr rest (ap (instr_at c.args.at) (sym c.split_at.ensures.back) ∙ fault) fits e)
    ]
