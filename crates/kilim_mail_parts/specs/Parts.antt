-- The parts of a run: the register's entries, those of each mailbox turn, and those that workers made without a turn.
use Rattle.std.specs.Prelude.{◌≡◌, ℕ, suc, ◌+◌, true, List, [], ◌∷◌, ◌++◌, filter}
use Rattle.std.specs.List.{AllByRecursion}
use Rattle.kilim_program.specs.declared.names.BoxName.{BoxName}
use Rattle.kilim_run_model.specs.State.{Setting, empty_mailbox}
use Rattle.kilim_run_model.specs.declared.deed.Beginning.TheVariants.{Boot}
use Rattle.kilim_mail_stamps.specs.declared.stamped.Stamped.{Stamped}
use Rattle.kilim_mail_stamps.specs.Stamps.{is_on, is_registered, Rises, MailFrom}
use Rattle.kilim_mail_stamps.specs.Merging.{weigh}
use Rattle.kilim_mail_ledger.specs.declared.items.Item.{Item}
use Rattle.kilim_mail_ledger.specs.declared.items.Item.TheVariants.{Born}
use Rattle.kilim_mail_ledger.specs.Ledger.{Trace, items_of, entry_items, IsTrace, Balanced}
use Rattle.kilim_mail_ledger.specs.Mailboxes.{turn_of}
use Rattle.kilim_mail_register.specs.Register.{told_by, IsRegister}

-- the entries of the mailbox turn with that number, of so many: each is an act on a mailbox of this turn, and each mailbox's are a run of it
pub record IsTurn (turns number : ℕ) (log : List Stamped) : Type 0 where
  pub here : AllByRecursion (λ (s : Stamped). (box : BoxName) → is_on box s ≡ true → turn_of turns box ≡ number) log
  pub rises : (box : BoxName) → Rises (filter (is_on box) log)
  pub run : (box : BoxName) → MailFrom empty_mailbox (filter (is_on box) log)
  pub no_start : filter is_registered log ≡ []

-- those of the turns from that number on
abbrev pub AreTurns : ℕ → ℕ → List (List Stamped) → Type 0
AreTurns turns number [] = Unit {0}
AreTurns turns number (log ∷ logs) = IsTurn turns number log × AreTurns turns (suc number) logs

-- what a worker made without a turn: no act on a mailbox, and no start
pub record IsOwn (log : List Stamped) : Type 0 where
  pub no_box : (box : BoxName) → filter (is_on box) log ≡ []
  pub no_start : filter is_registered log ≡ []
  pub told : (all : List Stamped) (h : Item → ℕ) → weigh h (told_by [] log) ≡ weigh (λ (s : Stamped). weigh h (entry_items all s)) log

-- what they tell of the histories, each by its own entries
abbrev pub turns_told : (Item → ℕ) → List (List Stamped) → ℕ
turns_told h logs = weigh (λ (log : List Stamped). weigh h (told_by log log)) logs

abbrev pub own_told : (Item → ℕ) → List (List Stamped) → ℕ
own_told h owns = weigh (λ (log : List Stamped). weigh h (told_by [] log)) owns

abbrev pub all_parts : List Stamped → List (List Stamped) → List (List Stamped) → List (List Stamped)
all_parts register logs owns = register ∷ (logs ++ owns)

abbrev pub PartsBalance : Type 0
PartsBalance = (set : Setting) (turns : ℕ) (register : List Stamped) (logs owns : List (List Stamped)) (traces : List Trace) → IsRegister register → AreTurns turns 0 logs → AllByRecursion IsOwn owns → AllByRecursion (IsTrace set) traces →
    ((h : Item → ℕ) → weigh (λ (trace : Trace). weigh h (items_of trace)) traces ≡ h (Born 0 0 Boot) + (weigh h (told_by [] register) + (turns_told h logs + own_told h owns))) → Balanced set (all_parts register logs owns) traces
