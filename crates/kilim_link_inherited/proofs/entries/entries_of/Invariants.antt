use Rattle.std.proofs.Common.{take}
use Rattle.kilim_link_inherited.specs.Numbers.{number_at, Numbered, Keeps}
use Rattle.kilim_link_inherited.specs.Keyed.{Keyed}
use Rattle.kilim_link_inherited.proofs.entries.entries_of.Given as goal

abbrev pub invariant-loop-one : goal.invariant-loop-one
invariant-loop-one l =
    Numbered l.numbers.places l.numbers.next
    × (Keeps (number_at l.fn.numbers.places) (number_at l.numbers.places) × Keyed (number_at l.numbers.places) (take l.one-index l.said) l.entries)
