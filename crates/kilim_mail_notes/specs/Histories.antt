-- Histories as lists.
use Rattle.std.specs.Prelude.{ℕ, List, [], ◌∷◌, ◌++◌}
use Rattle.kilim_run_journal.specs.declared.entry.Act.TheVariants as act
use Rattle.kilim_run_model.specs.Course.{plain}
use Rattle.kilim_run_model.specs.declared.deed.Deed.{Deed}
use Rattle.kilim_mail_ledger.specs.declared.items.Dated.{Dated}
use Rattle.kilim_mail_ledger.specs.Ledger.{Trace}
use Rattle.kilim_mail_notes.specs.declared.histories.Did.{Did}
use Rattle.kilim_mail_notes.specs.declared.histories.Did.TheVariants as did
use Rattle.kilim_mail_notes.specs.declared.histories.Mark.{Mark}
use Rattle.kilim_mail_notes.specs.declared.histories.History.{History}
use Rattle.kilim_mail_notes.specs.declared.histories.Past.{Past, Nothing, After'}

abbrev pub deed_of : Did → Deed
deed_of (did.Put box n shape) = plain (act.Put box n shape.value)
deed_of (did.Take box n shape) = record { act = act.Take box n; taken = shape.value }
deed_of (did.Empty box) = plain (act.Empty box)
deed_of (did.Bound box n) = plain (act.Bound box n)
deed_of (did.Start n shape) = plain (act.Start n shape.value)
deed_of (did.Print shape) = plain (act.Print shape.value)
deed_of (did.End why) = plain (act.End why)

abbrev pub dated_of : Mark → Dated
dated_of m = record { stamp = m.stamp; full = m.full; deed = deed_of m.did }

abbrev pub past_of : Past → List Dated
past_of Nothing = []
past_of (After' s past m) = past_of past ++ dated_of m.value ∷ []

abbrev pub trace_of : History → Trace
trace_of h = record { task = h.task; stamp = h.stamp; beginning = h.beginning.value; past = past_of h.past.value }
