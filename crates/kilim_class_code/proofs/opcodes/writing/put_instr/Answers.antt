use Rattle.std.proofs.Common.{ℕ, ◌++◌, ap, ◌∙◌}
use Rattle.kilim_class_grammar.specs.Spelling.{u1}
use Rattle.kilim_class_code.specs.opcodes.Instr.{instr_text, number_of, operands_text}
use Rattle.kilim_class_code.proofs.opcodes.Pieces.{on_joined}
use Rattle.kilim_class_code.proofs.opcodes.writing.put_instr.Goals as goal

pub returns : goal.returns
unfolding instr_text
returns c =
    on_joined c.put_operands.result c.args.into.now.items c.push_u8.new.into.items c.put_operands.new.into.items (u1 (number_of c.args.instr.now)) (operands_text c.args.at c.args.instr.now)
    (c.in_ok-push_u8.ensures.ok ∙ ap (λ (n : ℕ). c.args.into.now.items ++ u1 n) c.number_of.ensures) c.put_operands.ensures
