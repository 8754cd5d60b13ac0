use Rattle.std.proofs.Common.{sym, ◌∙◌, ◌≡◌, length, false, ltb, rules, tests}
use Rattle.kilim_run_journal.proofs.Readings.{opens_at, opens_end}
use Rattle.kilim_run_journal.proofs.numbers.opens.Goals as goal

pub returns-then-end-bytes : goal.returns-then-end-bytes
returns-then-end-bytes c = sym (opens_at _ _ c.word_end-end.ensures.place c.if-end-bytes.true)

pub returns-else-end-bytes : goal.returns-else-end-bytes
returns-else-end-bytes c =
    let past_end : ltb c.word_end-end.result (length c.args.bytes.now) ≡ false = search (rules, tests) in
    past_end ∙ sym (opens_end _ _ c.word_end-end.ensures.place c.if-end-bytes.false)
