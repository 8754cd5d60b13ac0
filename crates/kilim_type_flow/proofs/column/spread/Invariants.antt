use Rattle.std.proofs.Common.{◌≡◌, ℕ, true, take}
use Rattle.kilim_type_spec.specs.Typed.{Among}
use Rattle.kilim_type_flow.specs.Marks.{Grown, is_marked}
use Rattle.kilim_type_flow.proofs.column.spread.Given as goal

abbrev pub invariant-loop-at : goal.invariant-loop-at
invariant-loop-at l =
    Grown (λ x. Among (take l.at l.fn.befores) x × (is_marked l.fn.passing x ≡ true)) l.initial.marks.items l.initial.work.items l.marks.items l.work.items
    × ((x : ℕ) → Among (take l.at l.fn.befores) x → is_marked l.fn.passing x ≡ true → is_marked l.marks.items x ≡ true)
