-- What is answered for files that are accepted.
use Rattle.std.proofs.Common.{◌≡◌, ◌≤◌, ℕ, List, [], length, refl, ap, ◌∙◌}
use Rattle.kilim_program.specs.Program.{Program}
use Rattle.kilim_stages.specs.Accepted.{IsAcceptedOf}
use Rattle.kilim_weave_file_command.specs.Laws.{AcceptedFilesAreIsolated}
use Rattle.kilim_command.specs.grammar.Words.{Check}
use Rattle.kilim_outside.specs.written.OutputFile.{OutputFile}
use Rattle.kilim_top.specs.Inside.Answer.{IsReplyFor}
use Rattle.kilim_top.specs.Outcome.{coded_methods}
use Rattle.kilim_command.specs.Report.{accepted_line}
use Rattle.kilim_top.proofs.Replies.{check_done}

pub checked : (names files : List (List ℕ)) (p : Program) (classes methods : ℕ) (made : List OutputFile) (text : List ℕ) → AcceptedFilesAreIsolated → length files ≤ 1000 → IsAcceptedOf files p → classes ≡ length files → methods ≡ coded_methods p → made ≡ [] →
    text ≡ accepted_line classes methods → IsReplyFor (Check names) files 0 made text
checked names files p classes methods made text law few is many coded none e =
    check_done names files p 0 made text law few is refl none (e ∙ (ap (λ (n : ℕ). accepted_line n methods) many ∙ ap (λ (n : ℕ). accepted_line (length files) n) coded))
