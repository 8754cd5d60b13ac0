use Rattle.std.proofs.Common.{arith, ◌++◌, ◌∷◌, [], ap, ◌∙◌, length}
use Rattle.kilim_run_board.specs.Board.{lent_of}
use Rattle.kilim_run_board.proofs.Closing.{new_stands, none_lent}
use Rattle.kilim_run_board.proofs.waiting.Named.{no_mails, none_counted}
use Rattle.kilim_run_board.proofs.board.Board.new.Goals as goal

pub returns-in-Ok-clause-roomy : goal.returns-in-Ok-clause-roomy
returns-in-Ok-clause-roomy g c =
    let e = c.in-Ok.ensures in
    let r = ap length (c.line_up.ensures.items ∙ ap (λ xs. xs ++ c.args.main ∷ []) e.2) in
    let p = ap length e.3 in
    let l = ap length (ap lent_of e.5 ∙ none_lent c.args.seats) in
    let cap = c.line_up.ensures.room in
    let t = e.1 in let a = e.7 in let b = e.8 in
    record { fits = omega arith; ready = omega arith; parked = omega arith; few = omega arith; counted = none_counted c.in-Ok.board.mailboxes.by_name e.4 (length c.in-Ok.board.journal.items) }

pub returns-in-Ok-clause-board : goal.returns-in-Ok-clause-board
returns-in-Ok-clause-board g c =
    let e = c.in-Ok.ensures in
    record { journal = e.0; tasks = e.1; ready = c.line_up.ensures.items ∙ ap (λ xs. xs ++ c.args.main ∷ []) e.2; parked = e.3; cells = e.5; mails = no_mails c.in-Ok.board.mailboxes.by_name e.4; stopped = e.6 }

pub returns-in-Ok-clause-stands : goal.returns-in-Ok-clause-stands
returns-in-Ok-clause-stands g c = λ set is-first boots stands.
    new_stands g.F.Fibers.task_of g.F.Fibers.course_of g.F.Fibers.holds set _ c.args.main c.args.seats (returns-in-Ok-clause-board g c) is-first boots stands
