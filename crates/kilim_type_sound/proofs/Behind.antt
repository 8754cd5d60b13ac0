-- In a method's code an instruction stands behind no other one than that before it: places increase.
use Rattle.std.proofs.Common.{◌≡◌, ℕ, ◌-◌, ◌<◌, List, [], ◌∷◌, Some, true, refl, subst, sym}
use Rattle.std.specs.Prelude.{nat_lt, ◌&&◌, ◌==◌}
use Rattle.std.proofs.lemmas.Bool.{and_from, and_parts, lt-ltb}
use Rattle.kilim_program.specs.declared.class.Method.{Method}
use Rattle.kilim_program.specs.declared.instr.Instr.{Instr}
use Rattle.kilim_program.specs.declared.names.MethodId.{MethodId}
use Rattle.kilim_program.specs.Keeps.{Keeps, code_is_whole}
use Rattle.kilim_program.specs.Lengths.{code_ends, code_stands, fetched, first_place, has_length, targets_stand}
use Rattle.kilim_program.specs.Names.{method_at}
use Rattle.kilim_program.specs.Program.{Program}
use Rattle.kilim_program.proofs.lookups.Rising.{longer_by, same_number}
use Rattle.kilim_run_state.specs.Machine.{stands_behind}
use Rattle.kilim_run_model.specs.kin.frames.Laws.{places_rise}
use Rattle.kilim_run_model.proofs.kin.frames.Behind.{calls_stand_behind}
use Rattle.kilim_type_laws.proofs.members.FromKeeps.{all_at}

rises : (at : ℕ) (es : List (ℕ × Instr)) (end : ℕ) → code_stands at es end ≡ true → places_rise es end ≡ true
unfolding code_stands
rises at [] end stands = refl
rises at (e ∷ es) end stands =
    let here = and_parts (e.0 == at) _ stands in
    let long = and_parts (has_length at e.1 (first_place es end - at)) _ here.1 in
    let same : e.0 ≡ at = same_number e.0 at here.0 in
    let less : at < first_place es end = longer_by at (first_place es end) (first_place es end - at) e.1 refl long.0 in
    and_from (nat_lt e.0 (first_place es end)) (places_rise es end) (lt-ltb e.0 (first_place es end) (subst (λ (n : ℕ). n < first_place es end) (sym same) less)) (rises (first_place es end) es end long.1)

pub stands_behind_it : (p : Program) → Keeps p → (id : MethodId) (m : Method) → method_at p id ≡ Some m → (at next : ℕ) (i : Instr) → fetched m.code m.code_length at ≡ Some (i, next) → stands_behind m.code m.code_length next ≡ Some (at, i)
unfolding code_is_whole
stands_behind_it p keeps id m is at next i here =
    let whole = all_at code_is_whole p.methods id.0 m keeps.code is in
    calls_stand_behind m.code m.code_length at next i (rises 0 m.code m.code_length (and_parts (code_stands 0 m.code m.code_length) (targets_stand m.code && code_ends m.code) whole).0) here
