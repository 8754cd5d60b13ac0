use Rattle.std.proofs.Common.{◌≡◌, ℕ, List, [], take, drop, reverse}
use Rattle.kilim_link_spec.specs.Faults.{repeated, same_member}
use Rattle.kilim_link_spec.specs.Linked.{first_of}
use Rattle.kilim_link_faults.specs.Seen.{seen_in, met_in}
use Rattle.kilim_link_faults.proofs.twice.first_repeated.Given as goal

abbrev pub invariant-loop-member : goal.invariant-loop-member
invariant-loop-member l =
    (first_of (repeated (same_member l.file) (reverse (take l.member-index l.members)) (drop l.member-index l.members)) ≡ first_of (repeated (same_member l.file) [] l.members))
    × ((name descriptor : List ℕ) → seen_in l.seen name descriptor ≡ met_in l.file (reverse (take l.member-index l.members)) name descriptor)
