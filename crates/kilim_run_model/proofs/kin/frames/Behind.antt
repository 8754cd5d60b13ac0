-- The call behind which a lower frame stands.
use Rattle.std.proofs.Common.{◌≡◌, ℕ, ◌<◌, Bool, true, false, cond, List, [], ◌∷◌, Option, Some, None, refl, ap, ◌∙◌, arith}
use Rattle.std.specs.Prelude.{◌==◌, ◌&&◌, nat_lt}
use Rattle.std.proofs.lemmas.Bool.{ltb-true, ne_eqb, eq-eqb, eqb-true}
use Rattle.kilim_program.specs.declared.instr.Instr.{Instr}
use Rattle.kilim_program.specs.Lengths.{first_place, fetched}
use Rattle.kilim_run_state.specs.Machine.{stands_behind}
use Rattle.kilim_run_model.specs.kin.frames.Laws.{places_rise, CallsStandBehind}

abbrev found_at : Instr → ℕ → Option (Instr × ℕ)
found_at i place = Some (i, place)

abbrev entry_at : ℕ → Instr → Option (ℕ × Instr)
entry_at at i = Some (at, i)

abbrev place_or : Option (Instr × ℕ) → ℕ
place_or None = 0
place_or (Some found) = found.1

abbrev instr_or : Instr → Option (Instr × ℕ) → Instr
instr_or i None = i
instr_or i (Some found) = found.0

both_true : (a b : Bool) → (a && b) ≡ true → (a ≡ true) × (b ≡ true)
both_true true b e = (refl, e)
both_true false b e = absurd (cc)

later_by : (here first place : ℕ) (j i : Instr) (b : Bool) (behind : Option (Instr × ℕ)) → here < first → (behind ≡ found_at i place → first < place) → cond b (found_at j first) behind ≡ found_at i place → here < place
later_by here first place j i true behind lt later e = let same : first ≡ place = ap place_or e in omega arith
later_by here first place j i false behind lt later e = let after = later e in omega arith

-- what stands behind an instruction comes after the first one
later : (es : List (ℕ × Instr)) (end at place : ℕ) (i : Instr) → places_rise es end ≡ true → fetched es end at ≡ found_at i place → first_place es end < place
later [] end at place i rises found = absurd (cc)
later (e ∷ es) end at place i rises found =
    let parts = both_true (nat_lt e.0 (first_place es end)) (places_rise es end) rises in
    later_by e.0 (first_place es end) place e.1 i (e.0 == at) (fetched es end at) (ltb-true e.0 (first_place es end) parts.0) (λ behind. later es end at place i parts.1 behind) found

behind_by : (e : ℕ × Instr) (es : List (ℕ × Instr)) (end at place : ℕ) (i : Instr) (b : Bool) → (e.0 == at) ≡ b →
    (fetched es end at ≡ found_at i place → first_place es end < place) → (fetched es end at ≡ found_at i place → stands_behind es end place ≡ entry_at at i) →
    cond b (found_at e.1 (first_place es end)) (fetched es end at) ≡ found_at i place → cond (first_place es end == place) (Some e) (stands_behind es end place) ≡ entry_at at i
behind_by e es end at place i true is later rest found =
    let same : first_place es end ≡ place = ap place_or found in
    let instr : e.1 ≡ i = ap (instr_or i) found in
    let here : e.0 ≡ at = eqb-true e.0 at is in
    ap (λ (b : Bool). cond b (Some e) (stands_behind es end place)) (eq-eqb (first_place es end) place same)
    ∙ (ap (λ (n : ℕ). entry_at n e.1) here ∙ ap (λ (j : Instr). entry_at at j) instr)
behind_by e es end at place i false is later rest found =
    let lt = later found in
    ap (λ (b : Bool). cond b (Some e) (stands_behind es end place)) (ne_eqb (first_place es end) place (λ same. absurd (omega arith))) ∙ rest found

pub calls_stand_behind : CallsStandBehind
calls_stand_behind [] end at place i rises found = absurd (cc)
calls_stand_behind (e ∷ es) end at place i rises found =
    let parts = both_true (nat_lt e.0 (first_place es end)) (places_rise es end) rises in
    behind_by e es end at place i (e.0 == at) refl (λ behind. later es end at place i parts.1 behind) (λ behind. calls_stand_behind es end at place i parts.1 behind) found
