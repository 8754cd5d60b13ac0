-- A method with pausable calls has its woven form, and its frames are listed.
use Rattle.std.proofs.Common.{◌≡◌, ℕ, zero, suc, Bool, true, not, List, [], ◌∷◌, Option, Some, map, slice_get, refl, sym, ap, subst, ◌∙◌}
use Rattle.std.specs.Prelude.{◌&&◌, nat_lt}
use Rattle.std.proofs.lemmas.Bool.{and_parts}
use Rattle.std.proofs.lemmas.Option.{same_Some}
use Rattle.kilim_lemmas.proofs.Lists.{map_at}
use Rattle.kilim_program.specs.declared.class.Method.{Method}
use Rattle.kilim_program.specs.declared.instr.Instr.{Instr}
use Rattle.kilim_program.specs.declared.names.MethodId.{MethodId}
use Rattle.kilim_program.specs.declared.verified.Frame.{Frame}
use Rattle.kilim_program.specs.Keeps.{Keeps, code_is_whole}
use Rattle.kilim_program.specs.Lengths.{code_ends, code_stands, targets_stand}
use Rattle.kilim_program.specs.Names.{is_empty, method_at}
use Rattle.kilim_program.specs.Program.{Program}
use Rattle.kilim_type_laws.proofs.members.FromKeeps.{all_at}
use Rattle.kilim_type_spec.specs.Typed.{IsLive, WellTypedBy, frames_of, has_code, listed}
use Rattle.kilim_type_laws.specs.Laws.{TypedByPlace, typing_in}
use Rattle.kilim_type_spec.specs.TypedProgram.{KeepsTyped, TypedProgram}
use Rattle.kilim_weave_pieces.specs.Listed.{Listed}
use Rattle.kilim_weave_spec.specs.Form.{IsWoven, has_calls, plan_of, woven_as}
use Rattle.kilim_weave_spec.specs.Weight.{calls_in}
use Rattle.kilim_weave_laws.specs.woven_program.labels.Law.{LabelsAreFound}
use Rattle.kilim_weave_laws.specs.woven_program.Made.{made_as, method_plan}

-- ---- woven forms

pub kept_as : (p : Program) (m w : Method) (counted : List Bool) (b : Bool) → m.pausable ≡ b → woven_as b (has_calls p m) p m w counted → IsWoven p m w counted
kept_as p m w counted b is h = subst (λ (z : Bool). woven_as z (has_calls p m) p m w counted) (sym is) h

pub kept_as_both : (p : Program) (m w : Method) (counted : List Bool) (b calls : Bool) → m.pausable ≡ b → has_calls p m ≡ calls → woven_as b calls p m w counted → IsWoven p m w counted
kept_as_both p m w counted b calls is has h = kept_as p m w counted b is (subst (λ (z : Bool). woven_as b z p m w counted) (sym has) h)

pub woven_by : LabelsAreFound → (p : Program) → Keeps p → (id : MethodId) (m : Method) → method_at p id ≡ Some m → m.pausable ≡ true → has_calls p m ≡ true → (live : ℕ → ℕ → Bool) → IsLive m live → (r : Method × List Bool) → r ≡ made_as true true p m live → IsWoven p m r.0 r.1
unfolding code_is_whole
woven_by law p keeps id m at pausable calls live right r is =
    let whole = (and_parts (code_stands 0 m.code m.code_length) (targets_stand m.code && code_ends m.code) (all_at code_is_whole p.methods id.0 m keeps.code at)).0 in
    let y = method_plan p m live in
    let l = law (plan_of p m live (λ place. 0) (λ number. 0)) whole in
    subst (λ (z : Method × List Bool). IsWoven p m z.0 z.1) (sym is)
    (kept_as_both p m (made_as true true p m live).0 (made_as true true p m live).1 true true pausable calls (live, y.at, y.block, right, record { labels = l.0; differ = l.1; method = refl; counts = refl }))

-- ---- code

-- ---- frames

pub frames_are : TypedByPlace → (t : TypedProgram) → Keeps t.program → KeepsTyped t → (id : MethodId) (m : Method) → method_at t.program id ≡ Some m → has_code m ≡ true → (frames : List Frame) → slice_get t.frames id.0 ≡ Some frames → Listed t.program m frames
frames_are law t keeps typed id m at code frames there = record {
  typed = subst (λ (o : Option Method). WellTypedBy t.program m (typing_in t.program o)) at (law t.program keeps typed.typed id m at code);
  are =
      same_Some frames (map (listed m) (frames_of t.program m))
      (sym there ∙ (ap (λ (fs : List (List Frame)). slice_get fs id.0) typed.frames ∙ map_at (λ (m : Method). map (listed m) (frames_of t.program m)) t.program.methods id.0 m at));
}
