-- The debug tables of a class file: their texts, which have one, and how they are read (JVMS 4.7.12, 4.7.13).
use Rattle.std.specs.Prelude.{ℕ, ◌<◌, ◌^◌, List, ◌++◌}
use Rattle.std.specs.Int.{w16}
use Rattle.kilim_class_grammar.specs.Reader.{Reader, number_at, both, made, counted}
use Rattle.kilim_class_grammar.specs.Spelling.{u2, list_text}
use Rattle.kilim_explain_lines.specs.declared.tables.LineNumber.{LineNumber}
use Rattle.kilim_explain_lines.specs.declared.tables.LocalVariable.{LocalVariable}
use Rattle.kilim_explain_lines.specs.declared.tables.TableFault.{TableFault}
use Rattle.kilim_explain_lines.specs.declared.tables.TableFault.TheVariants.{NoTable}

-- ---- text

abbrev pub line_number_text : LineNumber → List ℕ
line_number_text row = u2 row.start_pc ++ u2 row.line_number

abbrev pub local_variable_text : LocalVariable → List ℕ
local_variable_text row = (u2 row.start_pc ++ u2 row.length) ++ ((u2 row.name_index ++ u2 row.descriptor_index) ++ u2 row.index)

abbrev pub line_numbers_text : List LineNumber → List ℕ
line_numbers_text rows = list_text line_number_text rows

abbrev pub local_variables_text : List LocalVariable → List ℕ
local_variables_text rows = list_text local_variable_text rows

-- ---- those that have a text

pub record LineNumberFits (row : LineNumber) : Type 0 where
  pub start : row.start_pc < 2 ^ 16
  pub line : row.line_number < 2 ^ 16

pub record LocalVariableFits (row : LocalVariable) : Type 0 where
  pub start : row.start_pc < 2 ^ 16
  pub size : row.length < 2 ^ 16
  pub name : row.name_index < 2 ^ 16
  pub descriptor : row.descriptor_index < 2 ^ 16
  pub slot : row.index < 2 ^ 16

-- ---- reading

abbrev pub two_at : Reader TableFault (ℕ × ℕ)
two_at = both (number_at NoTable w16) (number_at NoTable w16)

unfoldable pub line_number_at : Reader TableFault LineNumber
line_number_at = made (λ x. record { start_pc = x.0; line_number = x.1 }) two_at

unfoldable pub local_variable_at : Reader TableFault LocalVariable
local_variable_at =
    made (λ x. record { start_pc = x.0.0; length = x.0.1; name_index = x.1.0.0; descriptor_index = x.1.0.1; index = x.1.1 })
    (both two_at (both two_at (number_at NoTable w16)))

unfoldable pub line_numbers_at : Reader TableFault (List LineNumber)
line_numbers_at = counted NoTable w16 line_number_at

unfoldable pub local_variables_at : Reader TableFault (List LocalVariable)
local_variables_at = counted NoTable w16 local_variable_at
