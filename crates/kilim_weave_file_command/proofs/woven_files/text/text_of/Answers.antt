use Rattle.std.proofs.Common.{◌∙◌}
use Rattle.std.proofs.lemmas.Str.{IsUtf8-string_bytes}
use Rattle.kilim_weave_file_command.proofs.woven_files.Names.{text_is}
use Rattle.kilim_weave_file_command.proofs.woven_files.text.text_of.Goals as goal

pub returns-in-Ok : goal.returns-in-Ok
returns-in-Ok c = text_is _ _ (IsUtf8-string_bytes c.in-Ok.text) (rw c.in-Ok.is at c.in_ok-text.ensures.ok) ∙ c.as_slice.ensures
