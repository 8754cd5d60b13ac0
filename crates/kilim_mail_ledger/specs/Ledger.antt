-- Histories of tasks, wherever their fibers lie, against the entries, wherever they were noted.
use Rattle.std.specs.Prelude.{◌≡◌, ℕ, ◌+◌, ◌<◌, List, [], ◌∷◌, ◌++◌, map, filter}
use Rattle.std.specs.List.{AllByRecursion}
use Rattle.kilim_program.specs.declared.names.BoxName.{BoxName}
use Rattle.kilim_run_journal.specs.declared.entry.Act.{Act}
use Rattle.kilim_run_journal.specs.declared.entry.Act.TheVariants.{Start}
use Rattle.kilim_run_model.specs.State.{Setting, empty_mailbox}
use Rattle.kilim_run_model.specs.Lone.{Lone}
use Rattle.kilim_run_model.specs.Course.{Course, IsLone}
use Rattle.kilim_run_model.specs.Moving.{further}
use Rattle.kilim_run_model.specs.declared.deed.Deed.{Deed}
use Rattle.kilim_run_model.specs.declared.deed.Beginning.{Beginning}
use Rattle.kilim_run_model.specs.declared.deed.Beginning.TheVariants.{Boot, Begun}
use Rattle.kilim_mail_stamps.specs.declared.stamped.Stamped.{Stamped}
use Rattle.kilim_mail_ledger.specs.declared.items.Dated.{Dated}
use Rattle.kilim_mail_ledger.specs.declared.items.Item.{Item}
use Rattle.kilim_mail_ledger.specs.declared.items.Item.TheVariants.{Born, Did}
use Rattle.kilim_mail_stamps.specs.Stamps.{joined, is_on, is_registered, Rises, MailFrom, RegisterFrom, deed_in, Tells, StampedRun}
use Rattle.kilim_mail_stamps.specs.Merging.{weigh}

-- the history of a task: with what and with which stamp it began, and what it did, with the stamps
pub record Trace : Type 0 where
  pub task : ℕ
  pub stamp : ℕ
  pub beginning : Beginning
  pub past : List Dated

abbrev pub did_items : ℕ → List Dated → List Item
did_items t past = map (λ (x : Dated). Did t x) past

abbrev pub items_of : Trace → List Item
items_of trace = Born trace.task trace.stamp trace.beginning ∷ did_items trace.task trace.past

-- an entry, as a part of its task's history; and a start begins one
abbrev pub born_items : ℕ → Act → List Item
born_items stamp (Start n shape) = Born n stamp (Begun shape) ∷ []
born_items stamp act = []

abbrev pub dated_in : List Stamped → Stamped → Dated
dated_in all s = record { stamp = s.stamp; full = s.full; deed = deed_in all s.entry.act }

abbrev pub entry_items : List Stamped → Stamped → List Item
entry_items all s = Did s.entry.task (dated_in all s) ∷ born_items s.stamp s.entry.act

-- each stamp is greater than the one before, and than this
abbrev pub RisesFrom : ℕ → List Dated → Type 0
RisesFrom n [] = Unit {0}
RisesFrom n (x ∷ xs) = (n < x.stamp) × RisesFrom x.stamp xs

abbrev pub deeds_of : List Dated → List Deed
deeds_of past = map (λ (x : Dated). x.deed) past

abbrev pub trace_course : Trace → Course
trace_course trace = record { beginning = trace.beginning; deeds = deeds_of trace.past }

-- where a put ended the task, its full mailbox is told beside the deed
abbrev pub TellsPast : Setting → ℕ → Course → List Dated → Type 0
TellsPast set t c [] = Unit {0}
TellsPast set t c (x ∷ xs) = Tells set t c x.full x.deed.act × TellsPast set t (further c x.deed) xs

-- the history is that of a thread
pub record IsTrace (set : Setting) (trace : Trace) : Type 0 where
  pub lone : Lone
  pub is : IsLone set trace.task (trace_course trace) lone
  pub rises : RisesFrom trace.stamp trace.past
  pub told : TellsPast set trace.task (record { beginning = trace.beginning; deeds = [] }) trace.past

-- Histories and parts are the same items. Each mailbox's entries stand in one part, in their order, and so do the register's.
pub record Balanced (set : Setting) (parts : List (List Stamped)) (traces : List Trace) : Type 0 where
  pub each : AllByRecursion (IsTrace set) traces
  pub same : (h : Item → ℕ) → weigh (λ (trace : Trace). weigh h (items_of trace)) traces ≡ h (Born 0 0 Boot) + weigh (λ (s : Stamped). weigh h (entry_items (joined parts) s)) (joined parts)
  pub boxes_rise : (box : BoxName) → Rises (filter (is_on box) (joined parts))
  pub boxes : (box : BoxName) → MailFrom empty_mailbox (filter (is_on box) (joined parts))
  pub register_rises : Rises (filter is_registered (joined parts))
  pub register : RegisterFrom 1 (filter is_registered (joined parts))

-- Where histories and parts are the same items, the parts are those of a stamped run.
abbrev pub BalancedRuns : Type 0
BalancedRuns = (set : Setting) (parts : List (List Stamped)) (traces : List Trace) → Balanced set parts traces → StampedRun set parts
