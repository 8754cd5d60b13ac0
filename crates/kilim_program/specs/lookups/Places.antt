-- Places that increase.
use Rattle.std.specs.Prelude.{ℕ, ◌<◌, List, [], ◌∷◌}
use Rattle.kilim_program.specs.declared.instr.Instr.{Instr}

-- every place is above that one
abbrev pub Above : ℕ → List (ℕ × Instr) → Type 0
Above place [] = Unit {0}
Above place (entry ∷ entries) = (place < entry.0) × Above place entries

-- the places increase
abbrev pub Rising : List (ℕ × Instr) → Type 0
Rising [] = Unit {0}
Rising (entry ∷ entries) = Above entry.0 entries × Rising entries
