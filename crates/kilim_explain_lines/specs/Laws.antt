-- Tables and their texts belong together.
use Rattle.std.specs.Prelude.{◌<◌, ◌^◌, length}
use Rattle.std.specs.List.{AllByRecursion}
use Rattle.kilim_class_grammar.specs.Format.{Format}
use Rattle.kilim_explain_lines.specs.Tables.{line_numbers_text, local_variables_text, line_numbers_at, local_variables_at, LineNumberFits, LocalVariableFits}

pub record TablesAreSpelled : Type 0 where
  pub lines : Format line_numbers_text line_numbers_at (λ rows. (length rows < 2 ^ 16) × AllByRecursion LineNumberFits rows)
  pub variables : Format local_variables_text local_variables_at (λ rows. (length rows < 2 ^ 16) × AllByRecursion LocalVariableFits rows)
