-- Which journals have a text that stands for them alone, and what a shape's text is, value by value.
use Rattle.std.specs.Prelude.{◌≡◌, ℕ, zero, suc, ◌<◌, ◌^◌, Bool, true, false, List, [], ◌∷◌, ◌++◌, codes}
use Rattle.std.specs.List.{AllByRecursion}
use Rattle.std.specs.Int.{w32, w64}
use Rattle.std.specs.Prelude.{FitsSigned}
use Rattle.kilim_program.specs.declared.names.BoxName.{BoxName}
use Rattle.kilim_run_state.specs.declared.value.Token.{Token}
use Rattle.kilim_run_state.specs.declared.value.Token.TheVariants.{Open, Close, Int, Long, Null, Text, Box}
use Rattle.kilim_run_journal.specs.declared.entry.Act.{Act}
use Rattle.kilim_run_journal.specs.declared.entry.Act.TheVariants.{Put, Take, Empty, Start, Print, End, Wait, Bound}
use Rattle.kilim_run_journal.specs.declared.entry.Entry.{Entry}
use Rattle.kilim_units.specs.NameText.{name_text}
use Rattle.kilim_run_journal.specs.Text.{token_text, tokens_text, journal_text}

abbrev pub is_empty : List Token → Bool
is_empty [] = true
is_empty (t ∷ ts) = false

-- Whether the tokens end just where the one value ends that they begin with, behind so many objects that
-- have begun.
abbrev pub ends_with_its_value : ℕ → List Token → Bool
ends_with_its_value begun [] = false
ends_with_its_value begun (Open name ∷ ts) = ends_with_its_value (suc begun) ts
ends_with_its_value zero (Close ∷ ts) = false
ends_with_its_value (suc zero) (Close ∷ ts) = is_empty ts
ends_with_its_value (suc (suc begun)) (Close ∷ ts) = ends_with_its_value (suc begun) ts
ends_with_its_value zero (t ∷ ts) = is_empty ts
ends_with_its_value (suc begun) (t ∷ ts) = ends_with_its_value (suc begun) ts

-- the tokens of one value
abbrev pub is_value : List Token → Bool
is_value shape = ends_with_its_value 0 shape

-- the tokens of one object or array
abbrev pub is_object : List Token → Bool
is_object (Open name ∷ ts) = is_value (Open name ∷ ts)
is_object _ = false

-- one token that is a value
abbrev pub is_plain_value : List Token → Bool
is_plain_value (Open name ∷ ts) = false
is_plain_value shape = is_value shape

-- a message and a task are objects, and what is printed is one token
abbrev pub is_readable_act : Act → Bool
is_readable_act (Put box n shape) = is_object shape
is_readable_act (Start task shape) = is_object shape
is_readable_act (Print shape) = is_plain_value shape
is_readable_act _ = true

abbrev pub IsReadable : List Entry → Type 0
IsReadable es = AllByRecursion (λ (e : Entry). is_readable_act e.act ≡ true) es

-- Each number is in the range of its type. In the program all are; here an entry is of any numbers.

abbrev pub BoxFits : BoxName → Type 0
BoxFits box = (box.task < 2 ^ 32) × (box.number < 2 ^ 32)

abbrev pub UnitsFit : List ℕ → Type 0
UnitsFit units = AllByRecursion (λ u. u < 2 ^ 16) units

abbrev pub TokenFits : Token → Type 0
TokenFits (Open name) = UnitsFit name
TokenFits Close = Unit {0}
TokenFits (Int n) = FitsSigned w32 n
TokenFits (Long n) = FitsSigned w64 n
TokenFits Null = Unit {0}
TokenFits (Text units) = UnitsFit units
TokenFits (Box box) = BoxFits box

abbrev pub ShapeFits : List Token → Type 0
ShapeFits shape = AllByRecursion TokenFits shape

abbrev pub ActFits : Act → Type 0
ActFits (Put box n shape) = BoxFits box × (n < 2 ^ 64) × ShapeFits shape
ActFits (Take box n) = BoxFits box × (n < 2 ^ 64)
ActFits (Empty box) = BoxFits box
ActFits (Start task shape) = (task < 2 ^ 32) × ShapeFits shape
ActFits (Print shape) = ShapeFits shape
ActFits (End cause) = Unit {0}
ActFits (Wait box) = BoxFits box
ActFits (Bound box most) = BoxFits box × (most < 2 ^ 32)

abbrev pub JournalFits : List Entry → Type 0
JournalFits es = AllByRecursion (λ (e : Entry). (e.task < 2 ^ 32) × ActFits e.act) es

-- no two journals have one text
abbrev pub HasOneJournal : Type 0
HasOneJournal = (es fs : List Entry) → IsReadable es → IsReadable fs → JournalFits es → JournalFits fs → journal_text es ≡ journal_text fs → es ≡ fs

-- Values one after the other, as trees: a value that is one token, or an object with the values of its
-- fields or elements; and those after it.
pub data Values : Type 0 where
  Nothing : Values
  Plain : Token → Values → Values
  Object : (name : List ℕ) (fields : Values) → Values → Values

abbrev pub preorder : Values → List Token
preorder Nothing = []
preorder (Plain t after) = t ∷ preorder after
preorder (Object name fields after) = Open name ∷ (preorder fields ++ Close ∷ preorder after)

-- one token is a value of its own
abbrev pub IsPlain : Token → Type 0
IsPlain (Open name) = ⊥
IsPlain Close = ⊥
IsPlain t = Unit {0}

abbrev pub ArePlain : Values → Type 0
ArePlain Nothing = Unit {0}
ArePlain (Plain t after) = IsPlain t × ArePlain after
ArePlain (Object name fields after) = ArePlain fields × ArePlain after

-- one value alone
abbrev pub IsSingle : Values → Type 0
IsSingle Nothing = ⊥
IsSingle (Plain t Nothing) = Unit {0}
IsSingle (Plain t after) = ⊥
IsSingle (Object name fields Nothing) = Unit {0}
IsSingle (Object name fields after) = ⊥

-- the shape is one value in preorder
pub record IsOneValue (shape : List Token) : Type 0 where
  pub value : Values
  pub plain : ArePlain value
  pub single : IsSingle value
  pub tokens : preorder value ≡ shape

-- the test of a shape tells whether it is one value in preorder
abbrev pub ShapesAreValues : Type 0
ShapesAreValues = (shape : List Token) → (is_value shape ≡ true → IsOneValue shape) × (IsOneValue shape → is_value shape ≡ true)

-- texts with commas between them
abbrev pub after_commas : List (List ℕ) → List ℕ
after_commas [] = []
after_commas (t ∷ ts) = codes "," ++ (t ++ after_commas ts)

abbrev pub joined : List (List ℕ) → List ℕ
joined [] = []
joined (t ∷ ts) = t ++ after_commas ts

-- The texts of the values. An object is its name, an opening parenthesis, its values with commas between
-- them, and a closing one.
abbrev pub texts_of : Values → List (List ℕ)
texts_of Nothing = []
texts_of (Plain t after) = token_text t ∷ texts_of after
texts_of (Object name fields after) = (name_text name ++ (codes "(" ++ (joined (texts_of fields) ++ codes ")"))) ∷ texts_of after

-- the text of tokens in preorder is that of the values, with commas between them
abbrev pub ValuesAreJoined : Type 0
ValuesAreJoined = (values : Values) → ArePlain values → tokens_text false (preorder values) ≡ joined (texts_of values)
