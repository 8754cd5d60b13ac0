-- A plan with the places that were found is the one of the definition.
use Rattle.std.proofs.Common.{◌≡◌, ℕ, ◌+◌, Bool, List, Option, get_or, None, refl, ap, sym, ◌∙◌}
use Rattle.kilim_program.specs.declared.class.Method.{Method}
use Rattle.kilim_program.specs.Program.{Program}
use Rattle.kilim_weave_spec.specs.Form.{plan_of}
use Rattle.kilim_weave_spec.specs.Woven.{Label, Old, Plan, Resumes, behind, woven_items}
use Rattle.kilim_weave_laws.specs.woven_program.labels.Law.{found, found_plan}
use Rattle.kilim_weave_laws.specs.shape.Law.{PlacesDontMatter, labels_from, placed}
use Rattle.kilim_weave_pieces.specs.Places.{Tables, at_in, block_in, or_else}
use Rattle.kilim_weave_method.specs.Found.{AreFound, first_place_of, looked}
use Rattle.kilim_weave_method.proofs.Finding.{found_is}

same_function : (f g : ℕ → ℕ) → ((n : ℕ) → f n ≡ g n) → f ≡ g
same_function f g h = λ i n. h n i

pub plan_found : PlacesDontMatter → (x : Plan) (at0 block0 : ℕ → ℕ) (t : Tables) → AreFound (woven_items (placed x at0 block0)) t → placed x (at_in t) (block_in t) ≡ found_plan x
plan_found law x at0 block0 t are =
    let same = law x at0 block0 0 in
    let first : (l : Label) → looked t l ≡ first_place_of l (labels_from 0 (woven_items x)) = λ l. are.first l ∙ ap (first_place_of l) same.0 in
    let end : t.end ≡ behind 0 (woven_items x) = are.end ∙ same.1 in
    let old : (place : ℕ) → at_in t place ≡ found (behind 0 (woven_items x) + place) (Old place) (labels_from 0 (woven_items x)) = λ place.
    ap (λ (n : ℕ). or_else (n + place) (looked t (Old place))) end
    ∙ (ap (λ (o : Option ℕ). or_else (behind 0 (woven_items x) + place) o) (first (Old place)) ∙ found_is (behind 0 (woven_items x) + place) (Old place) (labels_from 0 (woven_items x))) in
    let blocks : (number : ℕ) → block_in t number ≡ found 0 (Resumes number) (labels_from 0 (woven_items x)) = λ number.
    ap (λ (o : Option ℕ). or_else 0 o) (first (Resumes number)) ∙ found_is 0 (Resumes number) (labels_from 0 (woven_items x)) in
    let at : at_in t ≡ (λ place. found (behind 0 (woven_items x) + place) (Old place) (labels_from 0 (woven_items x))) = same_function _ _ old in
    let block : block_in t ≡ (λ number. found 0 (Resumes number) (labels_from 0 (woven_items x))) = same_function _ _ blocks in
    ap (λ (f : ℕ → ℕ). placed x f (block_in t)) at ∙ ap (λ (f : ℕ → ℕ). placed x (λ place. found (behind 0 (woven_items x) + place) (Old place) (labels_from 0 (woven_items x))) f) block
