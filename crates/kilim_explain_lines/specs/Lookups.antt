-- What tables say of a place in code.
use Rattle.std.specs.Prelude.{ℕ, ◌+◌, Bool, true, ◌&&◌, ◌==◌, nat_le, nat_lt, if◌then◌else◌, List, [], ◌∷◌, Option, Some, None}
use Rattle.kilim_explain_lines.specs.declared.tables.LineNumber.{LineNumber}
use Rattle.kilim_explain_lines.specs.declared.tables.LocalVariable.{LocalVariable}

-- whether no row is known that begins behind this one
abbrev pub is_behind : Option LineNumber → LineNumber → Bool
is_behind None row = true
is_behind (Some best) row = nat_le best.start_pc row.start_pc

-- the better one of two rows: it begins at the place or before, and not before the other one
abbrev pub better : ℕ → Option LineNumber → LineNumber → Option LineNumber
better place best row = if nat_le row.start_pc place && is_behind best row then Some row else best

-- the last row of those that begin nearest before a place, or at it
abbrev pub best_row : ℕ → Option LineNumber → List LineNumber → Option LineNumber
best_row place best [] = best
best_row place best (row ∷ rows) = best_row place (better place best row) rows

abbrev pub line_of : Option LineNumber → Option ℕ
line_of None = None
line_of (Some row) = Some row.line_number

-- whether a slot holds a variable at a place (JVMS 4.7.13)
abbrev pub holds : ℕ → ℕ → LocalVariable → Bool
holds slot place row = row.index == slot && (nat_le row.start_pc place && nat_lt place (row.start_pc + row.length))

abbrev pub name_of : Option LocalVariable → Option ℕ
name_of None = None
name_of (Some row) = Some row.name_index
