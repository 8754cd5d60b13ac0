use Rattle.std.proofs.Common.{map}
use Rattle.std.specs.Option.{option_map}
use Rattle.std.specs.String.{string_bytes}
use Rattle.kilim_command.specs.grammar.Parts.{meant}
use Rattle.kilim_command.specs.grammar.Words.{count_hyphened, save_behind}
use Rattle.kilim_command.proofs.grammar.Split.{split_of}
use Rattle.kilim_command.proofs.grammar.images.save_request.Goals as goal

pub returns-clause-request : goal.returns-clause-request
returns-clause-request c =
    split_of string_bytes save_behind (option_map meant c.save_behind.result) c.args.words.now _ _ c.count_hyphened.result (count_hyphened (map string_bytes c.args.words.now)) c.count_hyphened.ensures.count c.split_at.ensures.front c.split_at.ensures.back c.save_behind.ensures.request
