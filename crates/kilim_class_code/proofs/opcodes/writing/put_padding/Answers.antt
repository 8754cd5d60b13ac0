use Rattle.std.proofs.Common.{◌≡◌, ◌++◌, ◌∙◌, ℕ, subst, replicate, arith}
use Rattle.kilim_class_code.specs.opcodes.Instr.{padding_text}
use Rattle.kilim_class_code.proofs.opcodes.Pieces.{padded_more}
use Rattle.kilim_class_code.proofs.opcodes.writing.put_padding.Goals as goal

pub returns : goal.returns
unfolding padding_text
returns c =
    let all : c.loop.counter ≡ c.padding-end.result = omega arith in
    subst (λ (n : ℕ). c.loop.into.items ≡ c.args.into.now.items ++ replicate n 0) (all ∙ c.padding-end.ensures) c.loop.invariant

pub loop-preserved : goal.loop-preserved
loop-preserved c = padded_more c.args.into.now.items c.loop.into.items c.push.new.self.items c.loop.counter c.loop.invariant c.in-Ok.ensures.items
