use Rattle.kilim_explain_lines.proofs.TableFormats.{tables_are_spelled_lem}
use Rattle.kilim_explain_lines.proofs.laws.tables_are_spelled.Goals as goal

pub returns : goal.returns
returns c = tables_are_spelled_lem
