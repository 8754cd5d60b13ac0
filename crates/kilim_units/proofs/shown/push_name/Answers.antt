use Rattle.std.proofs.Common.{◌≡◌, ℕ, zero, suc, ◌+◌, ◌<◌, List, [], ◌∷◌, ◌++◌, length, get_or, take, sym, ap, ◌∙◌, add-one, append_assoc, arith}
use Rattle.std.specs.List.{flat_map}
use Rattle.std.proofs.lemmas.List.{append-nil}
use Rattle.kilim_units.specs.NameText.{name_unit}
use Rattle.kilim_units.proofs.shown.push_name.Goals as goal

-- the text of so many units, and that of one more
next_text : (units : List ℕ) (i : ℕ) → i < length units → flat_map name_unit (take i units) ++ name_unit (get_or units i 0) ≡ flat_map name_unit (take (suc i) units)
next_text [] i lt = absurd (omega arith)
next_text (u ∷ units) zero lt = sym (append-nil (name_unit u))
next_text (u ∷ units) (suc i) lt =
    append_assoc (name_unit u) (flat_map name_unit (take i units)) (name_unit (get_or units i 0)) ∙ ap (λ (t : List ℕ). name_unit u ++ t) (next_text units i (omega arith))

one_more : (before now next units : List ℕ) (i : ℕ) → i < length units → now ≡ before ++ flat_map name_unit (take i units) → next ≡ now ++ name_unit (get_or units i 0)
    → next ≡ before ++ flat_map name_unit (take (i + 1) units)
one_more before now next units i lt so_far step =
    rw add-one
    (step
    ∙ (ap (λ (t : List ℕ). t ++ name_unit (get_or units i 0)) so_far
    ∙ (append_assoc before (flat_map name_unit (take i units)) (name_unit (get_or units i 0)) ∙ ap (λ (t : List ℕ). before ++ t) (next_text units i lt))))

pub loop-unit-preserved : goal.loop-unit-preserved
loop-unit-preserved c =
    one_more c.args.out.now.items c.loop-unit.out.items c.push_name_unit.new.out.items c.args.units.now c.loop-unit.unit-index c.loop-unit-test.true c.loop-unit.invariant c.in-Ok.ensures
