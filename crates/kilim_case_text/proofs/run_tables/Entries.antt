-- Entries with a text may be written.
use Rattle.std.proofs.Common.{List, [], ◌∷◌}
use Rattle.std.specs.List.{AllByRecursion}
use Rattle.kilim_run_journal.specs.declared.entry.Entry.{Entry}
use Rattle.kilim_run_journal.specs.Read.{IsEntry}
use Rattle.kilim_run_journal.specs.Readable.{IsReadable}

pub readable : (es : List Entry) → AllByRecursion IsEntry es → IsReadable es
readable [] a = tt
readable (e ∷ es) a = (a.0.0, readable es a.1)
