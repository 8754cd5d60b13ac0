use Rattle.std.proofs.Common.{[]}
use Rattle.kilim_run_journal.specs.declared.entry.Act.TheVariants.{End}
use Rattle.kilim_mail_ledger.specs.Ledger.{items_of}
use Rattle.kilim_mail_notes.specs.Histories.{trace_of}
use Rattle.kilim_mail_worker.proofs.Noted.{made_on, made_buried, made_then, ends_alone, ended_over}
use Rattle.kilim_mail_worker.proofs.alone.end.Goals as goal

pub returns : goal.returns
returns g c =
    let o = c.args.own.now in
    let p = c.note.new.own in
    let old = c.args.body in
    let new = c.note.new.body in
    let n = c.in-Ok.ensures.noted in
    let some = c.requires.some in
    let alone = ends_alone some.0 o p old new c.args.cause (c.requires.ends some.0 some.1) in
    record {
      made = made_then g.K.Run.of o p c.bury.new.self (items_of (trace_of old.history)) (items_of (trace_of new.history)) [] (made_on o p old new (End c.args.cause) n alone g.K.Run.of)
          (made_buried g.K.Run.of p c.bury.new.self (trace_of new.history) c.bury.ensures.log c.bury.ensures.graves (λ set is. ended_over set o p old new c.args.cause (c.requires.ends set is) n));
    }
