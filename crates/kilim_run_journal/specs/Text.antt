-- The text of a journal: a line for each entry.
use Rattle.std.specs.Prelude.{ℕ, Bool, true, false, ◌&&◌, ◌||◌, not, ◌==◌, if◌then◌else◌, List, [], ◌∷◌, ◌++◌, codes}
use Rattle.std.specs.List.{flat_map}
use Rattle.std.specs.Fmt.{decimal, signed_decimal}
use Rattle.kilim_units.specs.Characters.{space, quotation_mark, backslash, tilde}
use Rattle.kilim_program.specs.declared.names.BoxName.{BoxName}
use Rattle.kilim_run_state.specs.declared.value.Token.{Token}
use Rattle.kilim_run_state.specs.declared.value.Token.TheVariants.{Open, Close, Int, Long, Null, Text, Box}
use Rattle.kilim_run_state.specs.Cause.{word_of}
use Rattle.kilim_units.specs.NameText.{escape, is_within, name_text}
use Rattle.kilim_run_journal.specs.declared.entry.Act.{Act}
use Rattle.kilim_run_journal.specs.declared.entry.Act.TheVariants.{Put, Take, Empty, Start, Print, End, Wait, Bound}
use Rattle.kilim_run_journal.specs.declared.entry.Entry.{Entry}

-- a mailbox: the task that made it, a point, its number
abbrev pub box_text : BoxName → List ℕ
box_text box = decimal box.task ++ (codes "." ++ decimal box.number)

-- in a text the units 0x20 to 0x7E stand for themselves, but not the quotation mark and the backslash
abbrev pub stands_in_text : ℕ → Bool
stands_in_text u = is_within space tilde u && not (u == quotation_mark || u == backslash)

abbrev pub text_unit : ℕ → List ℕ
text_unit u = if stands_in_text u then u ∷ [] else escape u

-- a token: a value, the beginning of an object with its name, or its end
abbrev pub token_text : Token → List ℕ
token_text (Open name) = name_text name ++ codes "("
token_text Close = codes ")"
token_text (Int n) = signed_decimal n
token_text (Long n) = signed_decimal n ++ codes "L"
token_text Null = codes "null"
token_text (Text units) = quotation_mark ∷ (flat_map text_unit units ++ quotation_mark ∷ [])
token_text (Box box) = codes "@" ++ box_text box

-- a comma stands before a value that isn't the first of its object
abbrev pub comma_before : Bool → Token → List ℕ
comma_before follows Close = []
comma_before true _ = codes ","
comma_before false _ = []

-- whether a value that comes after this token follows another one of its object
abbrev pub is_followed : Token → Bool
is_followed (Open name) = false
is_followed _ = true

abbrev pub tokens_text : Bool → List Token → List ℕ
tokens_text follows [] = []
tokens_text follows (t ∷ ts) = comma_before follows t ++ (token_text t ++ tokens_text (is_followed t) ts)

abbrev pub shape_text : List Token → List ℕ
shape_text shape = tokens_text false shape

abbrev pub act_text : Act → List ℕ
act_text (Put box n shape) = codes "put " ++ (box_text box ++ (codes " #" ++ (decimal n ++ (codes " " ++ shape_text shape))))
act_text (Take box n) = codes "take " ++ (box_text box ++ (codes " #" ++ decimal n))
act_text (Empty box) = codes "empty " ++ box_text box
act_text (Start task shape) = codes "start " ++ (decimal task ++ (codes " " ++ shape_text shape))
act_text (Print shape) = codes "print " ++ shape_text shape
act_text (End cause) = codes "end " ++ word_of cause
act_text (Wait box) = codes "waits " ++ box_text box
act_text (Bound box most) = codes "bound " ++ (box_text box ++ (codes " " ++ decimal most))

-- a line: the task, a space, the act, a line feed
abbrev pub entry_text : Entry → List ℕ
entry_text e = decimal e.task ++ (codes " " ++ (act_text e.act ++ codes "\n"))

abbrev pub journal_text : List Entry → List ℕ
journal_text es = flat_map entry_text es
