-- Method by method, what is made is woven.
use Rattle.std.proofs.Common.{◌≡◌, ℕ, suc, ◌+◌, Bool, true, false, List, [], ◌∷◌, map, Some, slice_get, refl, sym, ap, ◌∙◌, arith}
use Rattle.std.specs.Prelude.{◌&&◌}
use Rattle.std.proofs.lemmas.Bool.{and_parts}
use Rattle.kilim_program.specs.declared.class.Form.TheVariants.{Woven}
use Rattle.kilim_program.specs.declared.class.Method.{Method}
use Rattle.kilim_program.specs.declared.names.MethodId.{MethodId}
use Rattle.kilim_program.specs.BuiltIn.{fiber_methods, method_id}
use Rattle.kilim_program.specs.Keeps.{Keeps, code_is_whole}
use Rattle.kilim_program.specs.Lengths.{code_ends, code_stands, targets_stand}
use Rattle.kilim_program.specs.Names.{method_at}
use Rattle.kilim_program.specs.Program.{Program}
use Rattle.kilim_type_spec.specs.Typed.{IsLive}
use Rattle.kilim_weave_spec.specs.Form.{AllWoven, all_counted, first_class, has_calls, plan_of, woven_as}
use Rattle.kilim_type_laws.proofs.members.FromKeeps.{all_at}
use Rattle.kilim_weave_laws.proofs.woven_program.labels.Labels.{labelled}
use Rattle.kilim_weave_laws.specs.woven_program.Law.{WovenFormIsThere}
use Rattle.kilim_weave_laws.specs.woven_program.Made.{made_as, made_from, method_plan}

first_of_all : (ws : List Method) → map (λ (e : Method × List Bool). e.0) (map (λ w. (w, all_counted w)) ws) ≡ ws
first_of_all [] = refl
first_of_all (w ∷ ws) = ap (λ (zs : List Method). w ∷ zs) (first_of_all ws)

counted_of_all : (ws : List Method) → map (λ (e : Method × List Bool). e.1) (map (λ w. (w, all_counted w)) ws) ≡ map all_counted ws
counted_of_all [] = refl
counted_of_all (w ∷ ws) = ap (λ (zs : List (List Bool)). all_counted w ∷ zs) (counted_of_all ws)

module _ (p : Program) (keeps : Keeps p) (lives : MethodId → ℕ → ℕ → Bool) (right : (id : MethodId) (m : Method) → method_at p id ≡ Some m → IsLive m (lives id)) where
  woven_by : (id : MethodId) (m : Method) (z calls : Bool) → method_at p id ≡ Some m → woven_as z calls p m (made_as z calls p m (lives id)).0 (made_as z calls p m (lives id)).1
  unfolding code_is_whole
  woven_by id m false calls at = (refl, refl)
  woven_by id m true false at = (refl, refl)
  woven_by id m true true at =
      let whole = (and_parts (code_stands 0 m.code m.code_length) (targets_stand m.code && code_ends m.code) (all_at code_is_whole p.methods id.0 m keeps.code at)).0 in
      let y = method_plan p m (lives id) in
      let l = labelled (plan_of p m (lives id) (λ place. 0) (λ number. 0)) whole in
      (lives id, y.at, y.block, right id m at, record { labels = l.0; differ = l.1; method = refl; counts = refl })

  all_woven : (ms : List Method) (n : ℕ) → ((k : ℕ) (m : Method) → slice_get ms k ≡ Some m → method_at p (method_id (n + k)) ≡ Some m) → AllWoven p ms (map (λ e. e.0) (made_from p lives n ms)) (map (λ e. e.1) (made_from p lives n ms))
  all_woven [] n there =
      let fs = fiber_methods Woven (first_class p) in
      (first_of_all fs, counted_of_all fs ∙ sym (ap (λ (ws : List Method). map all_counted ws) (first_of_all fs)))
  all_woven (m ∷ ms) n there =
      let number : n + 0 ≡ n = omega arith in
      let at = ap (λ (j : ℕ). method_at p (method_id j)) (sym number) ∙ there 0 m refl in (
        woven_by (method_id n) m m.pausable (has_calls p m) at,
        all_woven ms (suc n) (λ k o e. let later : suc n + k ≡ n + suc k = omega arith in ap (λ (j : ℕ). method_at p (method_id j)) later ∙ there (suc k) o e),
      )

pub there : WovenFormIsThere
there p keeps lives right = record {
  classes = refl;
  fields = refl;
  form = refl;
  methods = all_woven p keeps lives right p.methods 0 (λ k m e. let number : 0 + k ≡ k = omega arith in ap (λ (j : ℕ). slice_get p.methods j) number ∙ e);
}
