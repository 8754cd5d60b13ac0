-- The run of ping and pong with four turns: its parts, and the order in which they are merged; a bounded mailbox; and lists that are no runs.
use Rattle.std.specs.Prelude.{◌≡◌, ℕ, pos, true, false, List, [], ◌∷◌, ◌++◌, Option, Some, None, filter, map, slice_get}
use Rattle.kilim_run_state.specs.declared.cause.EndCause.TheVariants as cause
use Rattle.kilim_program.specs.declared.names.BoxName.{BoxName}
use Rattle.kilim_run_state.specs.declared.value.Token.{Token}
use Rattle.kilim_run_state.specs.declared.value.Token.TheVariants as token
use Rattle.kilim_run_journal.specs.declared.entry.Act.{Act}
use Rattle.kilim_run_journal.specs.declared.entry.Act.TheVariants.{Put, Take, Empty, Start, Print, End, Bound}
use Rattle.kilim_run_journal.specs.declared.entry.Entry.{Entry}
use Rattle.kilim_run_model.specs.State.{empty_mailbox}
use Rattle.kilim_mail_stamps.specs.declared.stamped.Stamped.{Stamped}
use Rattle.kilim_mail_stamps.specs.Stamps.{entries_of, Merged, is_of, is_on, is_registered, Rises, MailFrom, RegisterFrom, births_in, IsLater}

abbrev pub box : ℕ → BoxName
box n = record { task = 0; number = n }

abbrev pub ball : ℕ → List Token
ball n = token.Int (pos n) ∷ []

abbrev pub noted : ℕ → ℕ → Act → Stamped
noted s t act = record { stamp = s; full = None; entry = record { task = t; act = act } }

abbrev pub ping : List Stamped
ping = noted 2 0 (Put (box 0) 0 (ball 0)) ∷ noted 3 1 (Take (box 0) 0) ∷ noted 7 0 (Put (box 0) 1 (ball 1)) ∷ noted 8 1 (Take (box 0) 1) ∷ noted 12 0 (Put (box 0) 2 (ball 2)) ∷ noted 13 1 (Take (box 0) 2) ∷ []

abbrev pub pong : List Stamped
pong = noted 4 1 (Put (box 1) 0 (ball 1)) ∷ noted 5 0 (Take (box 1) 0) ∷ noted 9 1 (Put (box 1) 1 (ball 2)) ∷ noted 10 0 (Take (box 1) 1) ∷ noted 14 1 (Put (box 1) 2 (ball 3)) ∷ noted 15 0 (Take (box 1) 2) ∷ []

abbrev pub starts : List Stamped
starts = noted 1 0 (Start 1 (ball 9)) ∷ []

abbrev pub alone : List Stamped
alone = noted 6 0 (Print (ball 1)) ∷ noted 11 0 (Print (ball 2)) ∷ noted 15 1 (End cause.Done) ∷ noted 16 0 (Print (ball 3)) ∷ noted 17 0 (End cause.Done) ∷ []

abbrev pub parts : List (List Stamped)
parts = ping ∷ pong ∷ [] ∷ [] ∷ starts ∷ alone ∷ []

-- task 2 puts into the first mailbox, which is full, and ends
abbrev pub full_end : ℕ → Stamped
full_end s = record { stamp = s; full = Some (box 0); entry = record { task = 2; act = End cause.Full } }

abbrev pub by : ℕ → Act → Entry
by t act = record { task = t; act = act }

-- the take of task 0 with the stamp 15 comes before the end of task 1 with that stamp
abbrev pub ping_pong : List Entry
ping_pong =
    by 0 (Start 1 (ball 9)) ∷ by 0 (Put (box 0) 0 (ball 0)) ∷ by 1 (Take (box 0) 0) ∷ by 1 (Put (box 1) 0 (ball 1)) ∷ by 0 (Take (box 1) 0) ∷ by 0 (Print (ball 1))
    ∷ by 0 (Put (box 0) 1 (ball 1)) ∷ by 1 (Take (box 0) 1) ∷ by 1 (Put (box 1) 1 (ball 2)) ∷ by 0 (Take (box 1) 1) ∷ by 0 (Print (ball 2))
    ∷ by 0 (Put (box 0) 2 (ball 2)) ∷ by 1 (Take (box 0) 2) ∷ by 1 (Put (box 1) 2 (ball 3)) ∷ by 0 (Take (box 1) 2) ∷ by 1 (End cause.Done) ∷ by 0 (Print (ball 3)) ∷ by 0 (End cause.Done) ∷ []

pub record ExamplesHold : Type 0 where
  pub merged : Merged ping_pong parts
  pub first_rises : Rises (filter (is_on (box 0)) (entries_of parts))
  pub first : MailFrom empty_mailbox (filter (is_on (box 0)) (entries_of parts))
  pub second : MailFrom empty_mailbox (filter (is_on (box 1)) (entries_of parts))
  pub register : RegisterFrom 1 (filter is_registered (entries_of parts))
  -- a mailbox for one message, at which a put of task 2 finds one and ends it; the end is an act of this mailbox alone
  pub bounded : MailFrom empty_mailbox (noted 1 0 (Bound (box 0) 1) ∷ noted 2 0 (Put (box 0) 0 (ball 0)) ∷ full_end 3 ∷ noted 4 1 (Take (box 0) 0) ∷ noted 5 0 (Put (box 0) 1 (ball 1)) ∷ [])
  pub of_it : filter (is_on (box 0)) (full_end 3 ∷ noted 4 1 (End cause.Done) ∷ []) ≡ full_end 3 ∷ []
  pub of_no_other : filter (is_on (box 1)) (full_end 3 ∷ []) ≡ []
  -- the newest message first; a message twice; empty while a message waits; the second task first
  pub newest : MailFrom empty_mailbox (noted 1 0 (Put (box 0) 0 (ball 0)) ∷ noted 2 0 (Put (box 0) 1 (ball 1)) ∷ noted 3 0 (Take (box 0) 1) ∷ []) → ⊥
  pub twice : MailFrom empty_mailbox (noted 1 0 (Put (box 0) 0 (ball 0)) ∷ noted 2 0 (Take (box 0) 0) ∷ noted 3 0 (Take (box 0) 0) ∷ []) → ⊥
  pub missed : MailFrom empty_mailbox (noted 1 0 (Put (box 0) 0 (ball 0)) ∷ noted 2 0 (Empty (box 0)) ∷ []) → ⊥
  -- more messages than the bound says; a full mailbox that isn't full
  pub over : MailFrom empty_mailbox (noted 1 0 (Bound (box 0) 1) ∷ noted 2 0 (Put (box 0) 0 (ball 0)) ∷ noted 3 0 (Put (box 0) 1 (ball 1)) ∷ []) → ⊥
  pub room : MailFrom empty_mailbox (noted 1 0 (Bound (box 0) 1) ∷ full_end 2 ∷ []) → ⊥
  pub number : RegisterFrom 1 (noted 1 0 (Start 2 (ball 9)) ∷ []) → ⊥
  pub tasks : RegisterFrom 1 (noted 1 0 (End cause.Tasks) ∷ []) → ⊥
  -- a task's first entry with the stamp of its start
  pub early : IsLater (Some 1) (noted 1 1 (Print (ball 1)) ∷ []) → ⊥
  -- two entries of one mailbox with one stamp
  pub same : Rises (noted 1 0 (Empty (box 0)) ∷ noted 1 1 (Empty (box 0)) ∷ []) → ⊥
