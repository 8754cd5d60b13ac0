-- Reading a part from the front of a list of bytes, and putting parts together in the order of the bytes. A reader
-- answers the value that is spelled at the front and the bytes behind it, or the fault of the first part that isn't
-- spelled there: a part is cut, where the bytes end inside it, or broken, where nothing that follows could spell it.
use Rattle.std.specs.Prelude.{◌≡◌, ◌⊎◌, ℕ, ℤ, zero, suc, Bool, true, false, nat_lt, if◌then◌else◌, List, [], ◌∷◌, length, take, drop, Result, Ok, Err}
use Rattle.std.specs.Int.{Width, byte_len, from_be_bytes, cast_signed}

infixl 10 ◌>>=◌
abbrev pub ◌>>=◌ : {F A B : Type 0} → Result A F → (A → Result B F) → Result B F
(Err e) >>= f = Err e
(Ok x) >>= f = f x

-- F are the faults, A the values
abbrev pub Reader : Type 0 → Type 0 → Type 0
Reader F A = List ℕ → Result (A × List ℕ) F

-- what follows a test, or the fault where it fails
abbrev pub checked : {F A : Type 0} → Bool → F → Result A F → Result A F
checked test fault next = if test then next else Err fault

-- a number, the highest byte first
abbrev pub number_at : {F : Type 0} → F → Width → Reader F ℕ
number_at cut w bytes = if nat_lt (length bytes) (byte_len w) then Err cut else Ok (from_be_bytes w (take (byte_len w) bytes), drop (byte_len w) bytes)

-- a signed number in two's complement
abbrev pub signed_at : {F : Type 0} → F → Width → Reader F ℤ
signed_at cut w bytes = number_at cut w bytes >>= λ x. Ok (cast_signed w x.0, x.1)

-- so many bytes, whatever they are
abbrev pub bytes_at : {F : Type 0} → F → ℕ → Reader F (List ℕ)
bytes_at cut n bytes = if nat_lt (length bytes) n then Err cut else Ok (take n bytes, drop n bytes)

-- nothing is read
abbrev pub given : {F A : Type 0} → A → Reader F A
given x bytes = Ok (x, bytes)

-- one value and then another
abbrev pub both : {F A B : Type 0} → Reader F A → Reader F B → Reader F (A × B)
both one other bytes = do
  x ← one bytes
  y ← other x.1
  Ok ((x.0, y.0), y.1)

-- a value and then another, whose form depends on the first
abbrev pub followed : {F A B : Type 0} → Reader F A → (A → Reader F B) → Reader F (A × B)
followed one other bytes = do
  x ← one bytes
  y ← other x.0 x.1
  Ok ((x.0, y.0), y.1)

-- a value in another dress
abbrev pub made : {F A B : Type 0} → (A → B) → Reader F A → Reader F B
made make one bytes = do
  x ← one bytes
  Ok (make x.0, x.1)

-- a value that passes a test; where it doesn't, its fault
abbrev pub tested : {F A : Type 0} → (A → Bool) → (A → F) → Reader F A → Reader F A
tested test fault one bytes = do
  x ← one bytes
  checked (test x.0) (fault x.0) (Ok x)

-- the faults in other words
abbrev pub with_fault : {F G A : Type 0} → (G → F) → Result A G → Result A F
with_fault to (Err fault) = Err (to fault)
with_fault to (Ok x) = Ok x

abbrev pub refaulted : {F G A : Type 0} → (G → F) → Reader G A → Reader F A
refaulted to one bytes = with_fault to (one bytes)

-- so many values
unfoldable pub many : {F A : Type 0} → Reader F A → ℕ → Reader F (List A)
many one zero bytes = Ok ([], bytes)
many one (suc n) bytes = do
  first ← one bytes
  others ← many one n first.1
  Ok (first.0 ∷ others.0, others.1)

-- a count, and so many values
abbrev pub counted : {F A : Type 0} → F → Width → Reader F A → Reader F (List A)
counted cut w one bytes = do
  n ← number_at cut w bytes
  many one n.0 n.1

abbrev pub is_empty : List ℕ → Bool
is_empty [] = true
is_empty (b ∷ bytes) = false

-- a value that takes just the bytes that are there; `own` where some are left
abbrev pub filled : {F A : Type 0} → F → Reader F A → List ℕ → Result A F
filled own one bytes = do
  x ← one bytes
  checked (is_empty x.1) own (Ok x.0)

-- ---- what a function returned, seen by `view`, is what is read; `memory` is want of memory, the one free answer

abbrev pub Reads : {F X Y : Type 0} → (X → Y) → Result X F → Result Y F → Type 0
Reads view (Ok x) read = read ≡ Ok (view x)
Reads view (Err e) read = read ≡ Err e

abbrev pub ReadsUnless : {F X Y : Type 0} → F → (X → Y) → Result X F → Result Y F → Type 0
ReadsUnless memory view (Ok x) read = read ≡ Ok (view x)
ReadsUnless memory view (Err e) read = (e ≡ memory) ⊎ (read ≡ Err e)
