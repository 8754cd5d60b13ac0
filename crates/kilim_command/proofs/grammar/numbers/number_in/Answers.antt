use Rattle.std.proofs.Common.{◌≡◌, ◌∙◌, sym, ap, true}
use Rattle.kilim_command.specs.grammar.Numbers.{is_number}
use Rattle.kilim_command.proofs.grammar.Read.{read_ok, read_err}
use Rattle.kilim_command.proofs.grammar.numbers.number_in.Goals as goal

pub returns-in-Ok-clause-number : goal.returns-in-Ok-clause-number
returns-in-Ok-clause-number c =
    let is : is_number c.args.word.now ≡ true = sym (c.if-not-is_number.ensures ∙ ap is_number c.as_bytes.ensures.value) in
    c.in_range.ensures.number ∙ read_ok c.args.least c.args.most c.in-Ok.n c.args.word.now is c.in-Ok.ensures.value.0.1

pub returns-in-Err-clause-number : goal.returns-in-Err-clause-number
returns-in-Err-clause-number c =
    let is : is_number c.args.word.now ≡ true = sym (c.if-not-is_number.ensures ∙ ap is_number c.as_bytes.ensures.value) in
    read_err c.args.least c.args.most c.args.word.now c.ranges.most.fits is c.in-Err.ensures.value.0
