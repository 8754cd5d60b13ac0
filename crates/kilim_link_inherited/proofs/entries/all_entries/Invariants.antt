use Rattle.std.proofs.Common.{take}
use Rattle.kilim_link_inherited.specs.Numbers.{number_at, Numbered}
use Rattle.kilim_link_inherited.specs.Keyed.{AllKeyed}
use Rattle.kilim_link_inherited.proofs.entries.all_entries.Given as goal

abbrev pub invariant-loop-one : goal.invariant-loop-one
invariant-loop-one l = Numbered l.numbers.places l.numbers.next × AllKeyed (number_at l.numbers.places) (take l.one-index l.said) l.entries
