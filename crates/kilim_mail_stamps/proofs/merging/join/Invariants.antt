use Rattle.std.proofs.Common.{◌≡◌, ◌++◌, map}
use Rattle.kilim_mail_stamps.specs.Stamps.{joined}
use Rattle.kilim_mail_stamps.proofs.merging.join.Given as goal

abbrev pub invariant-loop-part : goal.invariant-loop-part
invariant-loop-part l = l.all.items ++ joined (map (λ p. p.items) l.part-iterator.rest.items) ≡ joined (map (λ p. p.items) l.fn.parts.items)
