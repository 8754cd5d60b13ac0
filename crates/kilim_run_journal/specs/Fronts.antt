-- What stands at the front of a text. The inner calls of `read_text` cite this, and no clause of a public call does.
use Rattle.std.specs.Prelude.{ℕ, zero, suc, Option, Some, None, Bool, true, false, not, ◌||◌, ◌==◌, if◌then◌else◌, List, [], ◌∷◌, ◌++◌, codes}
use Rattle.std.specs.Char.{is_ascii_digit}
use Rattle.kilim_run_state.specs.declared.value.Token.{Token}
use Rattle.kilim_run_state.specs.declared.value.Token.TheVariants.{Open, Close, Text}
use Rattle.kilim_run_journal.specs.declared.entry.Act.{Act}
use Rattle.kilim_run_journal.specs.declared.entry.Act.TheVariants.{Put, Take, Empty, Start, Print, End, Wait, Bound}
use Rattle.kilim_run_journal.specs.declared.acts.Word.{Word}
use Rattle.kilim_run_journal.specs.declared.acts.Word.TheVariants as word
use Rattle.kilim_units.specs.NameText.{escape}
use Rattle.kilim_run_state.specs.Cause.{word_of as cause_word}
use Rattle.std.specs.Fmt.{decimal}
use Rattle.kilim_run_journal.specs.Text.{box_text, shape_text}

-- the units of a number: digits and the minus sign
abbrev pub is_number_unit : ℕ → Bool
is_number_unit c = is_ascii_digit c || c == 45

-- a quotation mark, a parenthesis, a comma or a line feed ends a word
abbrev pub is_in_word : ℕ → Bool
is_in_word c = not (c == 34 || c == 40 || c == 41 || c == 44 || c == 10)

-- whether a text is empty or begins with a unit that fails the test
abbrev pub ends_at : (ℕ → Bool) → List ℕ → Bool
ends_at test [] = true
ends_at test (c ∷ cs) = not (test c)

-- a unit that stands for itself, or its escape
abbrev pub unit_text : (ℕ → Bool) → ℕ → List ℕ
unit_text stands u = if stands u then u ∷ [] else escape u

-- what comes after a value: another one, the end of its object, or the end of the line
pub data AfterValue : List ℕ → Type 0 where
  comma : (x : List ℕ) → AfterValue (44 ∷ x)
  parenthesis : (x : List ℕ) → AfterValue (41 ∷ x)
  line_feed : (x : List ℕ) → AfterValue (10 ∷ x)

-- a number, null or a mailbox ends where its text is followed by what comes after a value
abbrev pub IsEnded : Token → List ℕ → Type 0
IsEnded (Open name) x = Unit {0}
IsEnded Close x = Unit {0}
IsEnded (Text units) x = Unit {0}
IsEnded t x = AfterValue x

-- whether the first word is the name of an object
abbrev pub opens : List ℕ → Bool
opens [] = false
opens (c ∷ cs) = if is_in_word c then opens cs else c == 40

-- how many objects have begun and not ended behind a token, where so many have before it
abbrev pub begun_behind : ℕ → Token → Option ℕ
begun_behind begun (Open name) = Some (suc begun)
begun_behind zero Close = None
begun_behind (suc begun) Close = Some begun
begun_behind begun t = Some begun

-- the word with which an act begins
abbrev pub word_of_act : Act → Word
word_of_act (Put box n shape) = word.Put
word_of_act (Take box n) = word.Take
word_of_act (Empty box) = word.Empty
word_of_act (Start task shape) = word.Start
word_of_act (Print shape) = word.Print
word_of_act (End cause) = word.End
word_of_act (Wait box) = word.Wait
word_of_act (Bound box most) = word.Bound

-- it, and the space behind it
abbrev pub word_text : Word → List ℕ
word_text word.Put = codes "put "
word_text word.Take = codes "take "
word_text word.Empty = codes "empty "
word_text word.Start = codes "start "
word_text word.Print = codes "print "
word_text word.End = codes "end "
word_text word.Wait = codes "waits "
word_text word.Bound = codes "bound "

-- and what stands behind that
abbrev pub text_behind : Act → List ℕ
text_behind (Put box n shape) = box_text box ++ (codes " #" ++ (decimal n ++ (codes " " ++ shape_text shape)))
text_behind (Take box n) = box_text box ++ (codes " #" ++ decimal n)
text_behind (Empty box) = box_text box
text_behind (Start task shape) = decimal task ++ (codes " " ++ shape_text shape)
text_behind (Print shape) = shape_text shape
text_behind (End cause) = cause_word cause
text_behind (Wait box) = box_text box
text_behind (Bound box most) = box_text box ++ (codes " " ++ decimal most)

-- whether tokens begin with the beginning of an object
abbrev pub begins_object : List Token → Bool
begins_object (Open name ∷ ts) = true
begins_object ts = false
