use Rattle.std.proofs.Common.{length, refl}
use Rattle.std.proofs.lemmas.Option.{slice_get_read}
use Rattle.kilim_weave_code.proofs.frames.entry_at.Goals as goal

pub returns : goal.returns
returns c = slice_get_read c.args.code.now (length c.args.code.now) c.args.at c.index-code-at.result refl c.requires c.index-code-at.is
