use Rattle.std.proofs.Common.{ap, sym, subst, ◌∙◌}
use Rattle.std.specs.Int.{w64}
use Rattle.std.specs.Result.{result_ok}
use Rattle.std.proofs.lemmas.Fmt.{parse-signed_decimal, IsAscii-signed}
use Rattle.std.proofs.lemmas.Str.{IsUtf8-from_ascii}
use Rattle.std.specs.Str.{IsUtf8}
use Rattle.kilim_run_journal.proofs.Parted.{fits_64}
use Rattle.kilim_run_journal.proofs.numbers.parsed_signed.Goals as goal

pub returns-in-Ok : goal.returns-in-Ok
returns-in-Ok c z h e = c.ok.ensures.value ∙ ap result_ok (parse-signed_decimal w64 z _ _ h (fits_64 z h) (c.in-Ok.ensures.cases.0 ∙ e) c.parse.ensures.value.0)

pub returns-in-Err : goal.returns-in-Err
returns-in-Err c z h e = absurd (c.in-Err.ensures.cases.0 (subst IsUtf8 (sym e) (IsUtf8-from_ascii _ (IsAscii-signed z (fits_64 z h)))))
