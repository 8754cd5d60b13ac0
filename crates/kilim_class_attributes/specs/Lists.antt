-- Lists of attributes: readers that know what stands before, and bytes behind a name and a length.
use Rattle.std.specs.Prelude.{ℕ, zero, suc, List, [], ◌∷◌, ◌++◌, length, Result, Ok, Err}
use Rattle.std.specs.Int.{w16, w32}
use Rattle.kilim_class_grammar.specs.Reader.{Reader, ◌>>=◌, number_at, bytes_at}
use Rattle.kilim_class_grammar.specs.Spelling.{u2, u4}

-- a value that is made of another one, or the fault of making it
abbrev pub turned : {F A B : Type 0} → (A → Result B F) → Reader F A → Reader F B
turned make one bytes = do
  x ← one bytes
  y ← make x.0
  Ok (y, x.1)

-- a value in another dress
abbrev pub as_a : {F A B : Type 0} → (A → B) → Result A F → Result B F
as_a make (Err fault) = Err fault
as_a make (Ok x) = Ok (make x)

-- So many values, each read knowing those before it.
unfoldable pub many_after : {F A : Type 0} → (List A → Reader F A) → List A → ℕ → Reader F (List A)
many_after one before zero bytes = Ok (before, bytes)
many_after one before (suc n) bytes = do
  x ← one before bytes
  many_after one (before ++ x.0 ∷ []) n x.1

-- a count of two bytes, and so many values
unfoldable pub listed : {F A : Type 0} → F → (List A → Reader F A) → Reader F (List A)
listed cut one bytes = do
  n ← number_at cut w16 bytes
  many_after one [] n.0 n.1

-- each fits behind those before it
abbrev pub EachAfter : {A : Type 0} → (List A → A → Type 0) → List A → List A → Type 0
EachAfter Fits before [] = Unit {0}
EachAfter Fits before (x ∷ xs) = Fits before x × EachAfter Fits (before ++ x ∷ []) xs

-- The index of a name, a length of four bytes, and so many bytes (JVMS 4.7). The bytes are cut where they end before
-- that length does, whatever they are.
unfoldable pub named_bytes_at : {F : Type 0} → F → Reader F (ℕ × List ℕ)
named_bytes_at cut bytes = do
  name ← number_at cut w16 bytes
  size ← number_at cut w32 name.1
  content ← bytes_at cut size.0 size.1
  Ok ((name.0, content.0), content.1)

abbrev pub named_text : ℕ → List ℕ → List ℕ
named_text name content = u2 name ++ (u4 (length content) ++ content)
