use Rattle.std.proofs.Common.{◌≡◌, ◌≤◌, ◌∙◌, sym, refl, arith, ℕ, true, false, List, [], ◌∷◌, length, drop, get_or, Option, Ok, Err}
use Rattle.std.specs.Prelude.{◌==◌}
use Rattle.kilim_class_descriptors.specs.declared.types.FieldText.{FieldText}
use Rattle.kilim_class_descriptors.specs.Reading.{params_at, result_at, whole_method}
use Rattle.kilim_class_descriptors.proofs.Fronts.{behind_first}
use Rattle.kilim_class_descriptors.proofs.methods.whole_method.Goals as goal

-- the parameters and the result were read, and nothing stands behind them
all_read : (units rest behind end : List ℕ) (d : ℕ) (params : List FieldText) (result : Option FieldText) → 1 ≤ length units → get_or units 0 d ≡ 40 → rest ≡ drop 1 units → params_at (length rest) rest ≡ Ok (params, behind) → result_at behind ≡ Ok (result, end)
    → (length end == 0) ≡ true → whole_method units ≡ Ok (record { params = params; result = result })
unfolding whole_method
all_read [] rest behind end d params result long first is ps r none = absurd (omega arith)
all_read (u ∷ us) rest behind end d params result long first is ps r none = rw (first, ← is, ps, r, none) refl

-- or something does
more_behind : (units rest behind end : List ℕ) (d : ℕ) (params : List FieldText) (result : Option FieldText) → 1 ≤ length units → get_or units 0 d ≡ 40 → rest ≡ drop 1 units → params_at (length rest) rest ≡ Ok (params, behind) → result_at behind ≡ Ok (result, end)
    → (length end == 0) ≡ false → whole_method units ≡ Err (length end)
unfolding whole_method
more_behind [] rest behind end d params result long first is ps r some = absurd (omega arith)
more_behind (u ∷ us) rest behind end d params result long first is ps r some = rw (first, ← is, ps, r, some) refl

pub returns-then-is_empty : goal.returns-then-is_empty
returns-then-is_empty c = all_read _ _ _ _ _ _ _ c.in-len1-up.len_at_least c.if-unit-ne40.false (behind_first c.args.units.now) c.in-Ok.ensures c.in-Ok-result_at.ensures (sym c.is_empty.ensures ∙ c.if-is_empty.true)

pub returns-else-is_empty : goal.returns-else-is_empty
returns-else-is_empty c = more_behind _ _ _ _ _ _ _ c.in-len1-up.len_at_least c.if-unit-ne40.false (behind_first c.args.units.now) c.in-Ok.ensures c.in-Ok-result_at.ensures (sym c.is_empty.ensures ∙ c.if-is_empty.false)
