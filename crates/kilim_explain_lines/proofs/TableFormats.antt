-- Debug tables both ways.
use Rattle.std.proofs.Common.{ℕ, ◌^◌, ◌<◌, ◌++◌, length, refl}
use Rattle.std.specs.List.{AllByRecursion}
use Rattle.std.specs.Int.{w16}
use Rattle.kilim_class_grammar.specs.Spelling.{u2}
use Rattle.kilim_class_grammar.proofs.Bytes.{wide16}
use Rattle.kilim_class_grammar.proofs.Formats.{Format, n16, pair, dressed, refitted, so_many}
use Rattle.kilim_explain_lines.specs.declared.tables.TableFault.TheVariants.{NoTable}
use Rattle.kilim_explain_lines.specs.Tables.{line_number_text, local_variable_text, line_numbers_text, local_variables_text, LineNumberFits, LocalVariableFits, two_at, line_number_at, local_variable_at, line_numbers_at, local_variables_at}
use Rattle.kilim_explain_lines.specs.Laws.{TablesAreSpelled}

two_format : Format (λ (p : ℕ × ℕ). u2 p.0 ++ u2 p.1) two_at (λ p. (p.0 < 2 ^ 16) × (p.1 < 2 ^ 16))
two_format = pair (n16 NoTable) (n16 NoTable)

line_number_format : Format line_number_text line_number_at LineNumberFits
unfolding line_number_at
line_number_format =
    refitted (dressed two_format (λ x. record { start_pc = x.0; line_number = x.1 }) (λ row. (row.start_pc, row.line_number)) (λ row. refl) (λ x fit. refl))
    LineNumberFits (λ row fit. record { start = fit.0; line = fit.1 }) (λ row fit. (fit.start, fit.line))

local_variable_format : Format local_variable_text local_variable_at LocalVariableFits
unfolding local_variable_at
local_variable_format =
    refitted (dressed (pair two_format (pair two_format (n16 NoTable)))
    (λ x. record { start_pc = x.0.0; length = x.0.1; name_index = x.1.0.0; descriptor_index = x.1.0.1; index = x.1.1 })
    (λ row. ((row.start_pc, row.length), ((row.name_index, row.descriptor_index), row.index))) (λ row. refl) (λ x fit. refl))
    LocalVariableFits
    (λ row fit. record { start = fit.0.0; size = fit.0.1; name = fit.1.0.0; descriptor = fit.1.0.1; slot = fit.1.1 })
    (λ row fit. ((fit.start, fit.size), ((fit.name, fit.descriptor), fit.slot)))

lines_format : Format line_numbers_text line_numbers_at (λ rows. (length rows < 2 ^ 16) × AllByRecursion LineNumberFits rows)
unfolding line_numbers_at
lines_format = so_many line_number_format NoTable w16 (2 ^ 16) wide16

variables_format : Format local_variables_text local_variables_at (λ rows. (length rows < 2 ^ 16) × AllByRecursion LocalVariableFits rows)
unfolding local_variables_at
variables_format = so_many local_variable_format NoTable w16 (2 ^ 16) wide16

pub tables_are_spelled_lem : TablesAreSpelled
tables_are_spelled_lem = record { lines = lines_format; variables = variables_format }
