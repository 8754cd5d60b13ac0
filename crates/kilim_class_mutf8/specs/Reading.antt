-- The unit at the front of bytes, or what is wrong there.
use Rattle.std.specs.Prelude.{◌≡◌, ℕ, ◌+◌, ◌-◌, ◌*◌, Bool, ◌&&◌, ◌||◌, ◌==◌, nat_lt, nat_le, if◌then◌else◌, List, [], ◌∷◌, Result, Ok, Err}
use Rattle.std.specs.Borrow.{Bor}
use Rattle.kilim_class_mutf8.specs.declared.unit.UnitFault.{UnitFault}
use Rattle.kilim_class_mutf8.specs.declared.unit.UnitFault.TheVariants.{BadByte, Cut, SecondSpelling}
use Rattle.kilim_class_mutf8.specs.Spelling.{is_short}

-- a byte that isn't the first of its unit
abbrev pub continues : ℕ → Bool
continues b = nat_le 0x80 b && nat_lt b 0xC0

-- the units of two and of three bytes
abbrev pub of_two : ℕ → ℕ → ℕ
of_two b c = (b - 0xC0) * 64 + (c - 0x80)

abbrev pub of_three : ℕ → ℕ → ℕ → ℕ
of_three b c d = (b - 0xE0) * 4096 + ((c - 0x80) * 64 + (d - 0x80))

abbrev pub if_spelled : Bool → ℕ → List ℕ → Result (ℕ × List ℕ) UnitFault
if_spelled spelled u rest = if spelled then Ok (u, rest) else Err SecondSpelling

-- behind a first byte of two
unfoldable pub two_at : ℕ → List ℕ → Result (ℕ × List ℕ) UnitFault
two_at b [] = Err Cut
two_at b (c ∷ rest) =
    if continues c then if_spelled (of_two b c == 0 || nat_le 0x80 (of_two b c)) (of_two b c) rest
    else Err (BadByte 1)

-- behind a first byte of three
unfoldable pub three_at : ℕ → List ℕ → Result (ℕ × List ℕ) UnitFault
three_at b [] = Err Cut
three_at b (c ∷ []) = Err Cut
three_at b (c ∷ d ∷ rest) =
    if continues c then
    (if continues d then if_spelled (nat_le 0x800 (of_three b c d)) (of_three b c d) rest
    else Err (BadByte 2))
    else Err (BadByte 1)

-- The first byte says how many bytes the unit takes. Where fewer are there it is cut, whatever they are. A bad
-- byte is named by its distance.
unfoldable pub unit_at : List ℕ → Result (ℕ × List ℕ) UnitFault
unit_at [] = Err Cut
unit_at (b ∷ rest) =
    if is_short b then Ok (b, rest)
    else (if nat_le 0xC0 b && nat_lt b 0xE0 then two_at b rest
    else (if nat_le 0xE0 b && nat_lt b 0xF0 then three_at b rest
    else Err (BadByte 0)))

-- what a function returned, with the bytes behind the unit, is what is read
abbrev pub Reads : Result (ℕ × Bor (List ℕ)) UnitFault → Result (ℕ × List ℕ) UnitFault → Type 0
Reads (Ok x) read = read ≡ Ok (x.0, x.1.now)
Reads (Err e) read = read ≡ Err e
