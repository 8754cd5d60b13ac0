-- Exception tables (JVMS 4.7.3).
use Rattle.std.specs.Prelude.{ℕ, Bool, ◌&&◌, ◌||◌, ◌==◌, not, nat_le, nat_lt, List, codes}
use Rattle.std.specs.List.{list_all, list_any}
use Rattle.kilim_program.specs.declared.class.Handler.{Handler}
use Rattle.kilim_program.specs.declared.class.Method.{Method}
use Rattle.kilim_program.specs.declared.instr.Instr.{Instr}
use Rattle.kilim_program.specs.declared.names.ClassId.{ClassId}
use Rattle.kilim_program.specs.Program.{Program}
use Rattle.kilim_program.specs.Fits.{is_named}
use Rattle.kilim_program.specs.Lengths.{is_code_place}
use Rattle.kilim_program.specs.Names.{is_empty, line_of}

-- the range of an entry has the place
abbrev pub covers : Handler → ℕ → Bool
covers h at = nat_le h.start at && nat_lt at h.end

-- `java/lang/Throwable` or a class below it: its objects may be thrown and caught
abbrev pub is_throwable : Program → ClassId → Bool
is_throwable p c = list_any (is_named p (codes "java/lang/Throwable")) (line_of p c)

-- The range of an entry of an exception table isn't empty; it begins at an instruction, and ends at one or with the code. Its handler
-- is an instruction (JVMS 4.7.3, 4.9.1).
abbrev pub entry_stands : List (ℕ × Instr) → ℕ → Handler → Bool
entry_stands code size h = is_code_place code h.start && ((is_code_place code h.end || h.end == size) && (nat_lt h.start h.end && is_code_place code h.at))

abbrev pub table_stands : Method → Bool
table_stands m = list_all (entry_stands m.code m.code_length) m.handlers

-- it doesn't pause, or has no exception table
abbrev pub pauses_bare : Method → Bool
pauses_bare m = not m.pausable || is_empty m.handlers
