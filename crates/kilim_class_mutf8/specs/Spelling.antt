-- The one spelling of a text (JVMS 4.4.7).
use Rattle.std.specs.Prelude.{◌≡◌, ℕ, ◌+◌, ◌/◌, ◌%◌, ◌^◌, ◌<◌, Bool, ◌&&◌, nat_lt, if◌then◌else◌, List, [], ◌∷◌, ◌++◌}
use Rattle.std.specs.List.{flat_map, AllByRecursion}

-- U+0001 to U+007F take one byte, U+0000 and U+0080 to U+07FF two, every other unit three
abbrev pub is_short : ℕ → Bool
is_short u = nat_lt 0 u && nat_lt u 0x80

abbrev pub unit_text : ℕ → List ℕ
unit_text u =
    if is_short u then u ∷ []
    else (if nat_lt u 0x800 then (0xC0 + u / 64) ∷ (0x80 + u % 64) ∷ []
    else (0xE0 + u / 4096) ∷ (0x80 + u / 64 % 64) ∷ (0x80 + u % 64) ∷ [])

abbrev pub spelling : List ℕ → List ℕ
spelling units = flat_map unit_text units

-- a unit has 16 bits
abbrev pub UnitsFit : List ℕ → Type 0
UnitsFit units = AllByRecursion (λ u. u < 2 ^ 16) units
