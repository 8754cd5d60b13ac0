use Rattle.std.proofs.Common.{◌≡◌, ◌∙◌, ap, ℕ, FitsSigned, rules, w32, ◌∷◌, length}
use Rattle.std.proofs.lemmas.Int.{to_z-of_z}
use Rattle.kilim_program.specs.declared.value.Value.TheVariants.{Int}
use Rattle.kilim_run_machine.specs.Does.{int_length}
use Rattle.kilim_run_interp.proofs.instruction.Texts.{length_fits, length_left}
use Rattle.kilim_run_interp.proofs.instruction.calls.text_length.Goals as goal

pub push-requires : goal.push-requires
push-requires c = length_fits c.args.named.now c.args.next c.args.frame.now.locals c.args.heap.now c.args.frame.now.stack c.pop.new.self c.in-Text.units (rw c.in-Text.is at c.pop.ensures) c.requires.fine c.requires.room

pub returns-in-Text-clause-step : goal.returns-in-Text-clause-step
returns-in-Text-clause-step c =
    let fits : FitsSigned w32 c.cast_signed.result = search rules in
    let pushed : c.push.new.self ≡ record c.pop.new.self { values = Int c.cast_signed.result ∷ c.pop.new.self.values } = simp to_z-of_z at c.push.ensures in
    let is : c.cast_signed.result ≡ int_length (length c.in-Text.units) = c.cast_signed.ensures ∙ ap (λ (n : ℕ). int_length n) c.len.ensures in
    length_left c.args.named.now c.args.next c.args.frame.now.locals c.args.heap.now c.args.frame.now.stack c.pop.new.self c.in-Text.units (rw c.in-Text.is at c.pop.ensures) c.requires.fine c.push.new.self c.cast_signed.result pushed is
