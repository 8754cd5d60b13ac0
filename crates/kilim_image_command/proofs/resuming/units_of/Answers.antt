use Rattle.std.proofs.lemmas.Str.{IsUtf8-from_is_utf8}
use Rattle.kilim_image_command.proofs.resuming.units_of.Goals as goal

pub unreachable-requires : goal.unreachable-requires
unreachable-requires c = c.in-Err.ensures.cases.0 (IsUtf8-from_is_utf8 c.args.name.now c.requires)
