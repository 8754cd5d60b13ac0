use Rattle.std.proofs.Common.{◌≡◌, ◌++◌, map}
use Rattle.kilim_mail_stamps.proofs.merging.without_stamps.Given as goal

abbrev pub invariant-loop-stamped : goal.invariant-loop-stamped
invariant-loop-stamped l = l.entries.items ++ map (λ s. s.entry) l.stamped-iterator.rest.items ≡ map (λ s. s.entry) l.fn.all.items
