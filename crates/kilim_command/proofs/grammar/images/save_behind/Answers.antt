use Rattle.std.proofs.Common.{List, ℕ, map}
use Rattle.std.specs.Option.{option_map}
use Rattle.std.specs.String.{string_bytes}
use Rattle.kilim_command.specs.grammar.Parts.{meant}
use Rattle.kilim_command.specs.grammar.Words.{count_plain, save_of}
use Rattle.kilim_command.proofs.grammar.Split.{split_of}
use Rattle.kilim_command.proofs.grammar.images.save_behind.Goals as goal

pub returns-clause-request : goal.returns-clause-request
returns-clause-request c =
    split_of string_bytes (λ (files behind : List (List ℕ)). save_of (map string_bytes c.args.options.now) files behind) (option_map meant c.save_of.result) c.args.others.now _ _ c.count_plain.result (count_plain (map string_bytes c.args.others.now)) c.count_plain.ensures.count
    c.split_at.ensures.front c.split_at.ensures.back c.save_of.ensures.request
