-- What came, what went and what was made under a turn, against what lies there.
use Rattle.std.specs.Prelude.{◌≡◌, ℕ, zero, suc, ◌+◌, ◌<◌, Bool, ◌==◌, List, [], ◌∷◌, ◌++◌, map, filter, length}
use Rattle.std.specs.List.{AllByRecursion}
use Rattle.std.specs.Coded.{Coded, codes}
use base.Stored.{Gv, gnil, gnum, gcons}
use Rattle.kilim_run_turn.specs.Views.{cell_at}
use Rattle.kilim_mail_stamps.specs.Merging.{weigh}
use Rattle.kilim_mail_ledger.specs.declared.items.Dated.{Dated}
use Rattle.kilim_mail_ledger.specs.declared.items.Item.{Item}
use Rattle.kilim_mail_ledger.specs.declared.items.Item.TheVariants.{Did}
use Rattle.kilim_mail_ledger.specs.Ledger.{items_of, born_items}
use Rattle.kilim_mail_notes.specs.Histories.{dated_of, trace_of}
use Rattle.kilim_mail_notes.specs.declared.notes.Ledger.{Ledger}
use Rattle.kilim_mail_notes.specs.declared.notes.Note.{Note}
use Rattle.kilim_mail_notes.specs.declared.notes.Note.TheVariants as note
use Rattle.kilim_mail_notes.specs.declared.notes.Notes.{Notes}
use Rattle.kilim_mail_notes.specs.declared.notes.Notes as notes

-- items that came, that went, and that were made; and before all others, of several turns of one kind, which one it is, and of how many
pub data Move : Type 0 where
  Named : (number turns : ℕ) → Move
  Came : (items : List Item) → Move
  Went : (items : List Item) → Move
  Made : (items : List Item) → Move

-- a move, with the seat that made it
pub record Moved : Type 0 where
  pub seat : ℕ
  pub move : Move

-- an entry is a part of its task's history; and a start begins one
abbrev pub made_items : ℕ → Dated → List Item
made_items t d = Did t d ∷ born_items d.stamp d.deed.act

abbrev pub moved_by : Note → Moved
moved_by (note.Came seat history) = record { seat = seat; move = Came (items_of (trace_of history.value)) }
moved_by (note.Went seat history) = record { seat = seat; move = Went (items_of (trace_of history.value)) }
moved_by (note.Made seat task mark) = record { seat = seat; move = Made (made_items task (dated_of mark.value)) }

-- so many seats from s on are told
abbrev pub named_from : ℕ → ℕ → ℕ → ℕ → List Moved
named_from s zero number turns = []
named_from s (suc n) number turns = record { seat = s; move = Named number turns } ∷ named_from (suc s) n number turns

abbrev pub notes_of : Notes → List Moved
notes_of notes.Nothing = []
notes_of (notes.Named seats number turns) = named_from 0 seats number turns
notes_of (notes.After' s past n) = notes_of past ++ moved_by n ∷ []

abbrev pub moves_in : Ledger → List Moved
moves_in l = notes_of l.notes.value

-- ---- the cell of a seat, as a list of numbers: all that it did there

pub moves_coded : Coded (List Move)
moves_coded = hlevel codes

-- a code, read out from left to right, before other numbers
abbrev pub read_out : Gv → List ℕ → List ℕ
read_out gnil rest = 0 ∷ rest
read_out (gnum n) rest = 1 ∷ n ∷ rest
read_out (gcons a b) rest = 2 ∷ read_out a (read_out b rest)

abbrev pub move_numbers : List Move → List ℕ
move_numbers moves = read_out (moves_coded.code moves) []

abbrev pub is_by : ℕ → Moved → Bool
is_by s m = m.seat == s

abbrev pub moves_by : ℕ → List Moved → List Move
moves_by s ms = map (λ (m : Moved). m.move) (filter (is_by s) ms)

-- the cells of so many seats from s on
abbrev pub cells_from : ℕ → ℕ → List Moved → List (List ℕ)
cells_from s zero ms = []
cells_from s (suc n) ms = move_numbers (moves_by s ms) ∷ cells_from (suc s) n ms

abbrev pub ledger_cells : Ledger → List (List ℕ)
ledger_cells l = cells_from 0 l.seats (moves_in l)

-- the cell of a seat under the turn of that number, of so many
abbrev pub IsNamed : ℕ → ℕ → List ℕ → Type 0
IsNamed number turns cell = (ms : List Move) × (cell ≡ move_numbers (Named number turns ∷ ms))

abbrev pub AllNamed : ℕ → ℕ → List (List ℕ) → Type 0
AllNamed number turns cells = (s : ℕ) → s < length cells → IsNamed number turns (cell_at cells s)

-- ---- the balance

-- what a move brings, and what it takes away or makes
abbrev pub brings : (Item → ℕ) → Move → ℕ
brings h (Came items) = weigh h items
brings h m = 0

abbrev pub owes : (Item → ℕ) → Move → ℕ
owes h (Went items) = weigh h items
owes h (Made items) = weigh h items
owes h m = 0

-- What is held there, with what went and what was made, is what came, with the entries that were made.
pub record Balances (l : Ledger) (held made : List Item) : Type 0 where
  pub same : (h : Item → ℕ) → weigh h held + weigh (λ (m : Moved). owes h m.move) (moves_in l) ≡ weigh (λ (m : Moved). brings h m.move) (moves_in l) + weigh h made
  pub seats : AllByRecursion (λ (m : Moved). m.seat < l.seats) (moves_in l)

-- A seat did something: what a worker has in hand was `before` and is `after`, by what its cell shows.
pub record Accounts (old new : List ℕ) (before after : List Item) : Type 0 where
  pub each : (ms : List Move) → old ≡ move_numbers ms → (more : List Move) × (new ≡ move_numbers (ms ++ more)) × ((h : Item → ℕ) → weigh h after + weigh (brings h) more ≡ weigh h before + weigh (owes h) more)
