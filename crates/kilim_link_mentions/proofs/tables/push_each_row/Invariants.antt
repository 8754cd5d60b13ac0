use Rattle.std.proofs.Common.{◌≡◌, ◌++◌, take}
use Rattle.std.specs.List.{flat_map}
use Rattle.kilim_link_spec.specs.Mentions.{mentions_of_row}
use Rattle.kilim_link_mentions.proofs.tables.push_each_row.Given as goal

abbrev pub invariant-loop-row : goal.invariant-loop-row
invariant-loop-row l = l.into ≡ l.fn.into ++ flat_map (mentions_of_row l.pool) (take l.row-index l.rows)
