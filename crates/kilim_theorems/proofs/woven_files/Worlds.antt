-- The members of classes keep their numbers where each class shows the same.
use Rattle.std.proofs.Common.{◌≡◌, ◌<◌, ◌+◌, ℕ, zero, suc, Bool, true, false, if◌then◌else◌, List, [], ◌∷◌, length, Option, Some, option_map, refl, sym, ap, ◌∙◌, arith, take}
use Rattle.std.specs.List.{position_from}
use Rattle.std.specs.Prelude.{slice_get, sum_by}
use Rattle.std.proofs.lemmas.List.Sums.{sum_by-cons}
use Rattle.kilim_program.specs.declared.names.ClassId.{ClassId}
use Rattle.std.specs.Str.{bytes_eq}
use Rattle.std.proofs.lemmas.Option.{none-some}
use Rattle.kilim_program.specs.BuiltIn.{class_id}
use Rattle.kilim_program.specs.Names.{class_from}
use Rattle.kilim_link_spec.specs.declared.view.ClassView.{ClassView}
use Rattle.kilim_link_spec.specs.declared.view.DeclaredMethod.{DeclaredMethod}
use Rattle.kilim_link_spec.specs.World.{World, field_id, field_in, fields_at, is_field, is_message_by, methods_at, or_else, outline_with, outlined}
use Rattle.kilim_weave_file_spec.specs.Texts.{woven_descriptor}
use Rattle.kilim_theorems.specs.woven_files.Members.{AllSame}
use Rattle.kilim_theorems.specs.woven_files.Views.{AllViews, ClassesAreFound, FieldsAreFound, MembersStay, SameView, ViewsJoin}

same_length : (ms ns : List DeclaredMethod) → AllSame woven_descriptor ms ns → length ns ≡ length ms
same_length [] [] all = refl
same_length [] (n ∷ ns) all = absurd all
same_length (m ∷ ms) [] all = absurd all
same_length (m ∷ ms) (n ∷ ns) all = ap suc (same_length ms ns all.1)

-- the same sum over the first classes
same_sum : (f : ClassView → ℕ) → ((u v : ClassView) → SameView u v → f v ≡ f u) → (us vs : List ClassView) → AllViews us vs → (k : ℕ) → k < length us → sum_by f (take k vs) ≡ sum_by f (take k us)
same_sum f same us vs all zero lt = refl
same_sum f same [] vs all (suc k) lt = let never : ⊥ = omega (arith, lt) in absurd never
same_sum f same (u ∷ us) [] all (suc k) lt = absurd all
same_sum f same (u ∷ us) (v ∷ vs) all (suc k) lt =
    sum_by-cons f v (take k vs) ∙ ((λ i. same u v all.0 i + same_sum f same us vs all.1 k (omega (arith, lt)) i) ∙ sym (sum_by-cons f u (take k us)))

same_methods : (us vs : List ClassView) → AllViews us vs → (k : ℕ) → k < length us → AllSame woven_descriptor (methods_at (slice_get us k)) (methods_at (slice_get vs k))
same_methods [] vs all k lt = let never : ⊥ = omega (arith, lt) in absurd never
same_methods (u ∷ us) [] all k lt = absurd all
same_methods (u ∷ us) (v ∷ vs) all zero lt = all.0.methods
same_methods (u ∷ us) (v ∷ vs) all (suc k) lt = same_methods us vs all.1 k (omega (arith, lt))

same_fields : (us vs : List ClassView) → AllViews us vs → (k : ℕ) → k < length us → fields_at (slice_get vs k) ≡ fields_at (slice_get us k)
same_fields [] vs all k lt = let never : ⊥ = omega (arith, lt) in absurd never
same_fields (u ∷ us) [] all k lt = absurd all
same_fields (u ∷ us) (v ∷ vs) all zero lt = all.0.fields
same_fields (u ∷ us) (v ∷ vs) all (suc k) lt = same_fields us vs all.1 k (omega (arith, lt))

pub members_stay : MembersStay
members_stay u v all c lt = record {
  method_numbers = same_sum (λ (x : ClassView). length x.methods) (λ x y same. same_length x.methods y.methods same.methods) u.classes v.classes all c.0 lt;
  field_numbers = ap suc (same_sum (λ (x : ClassView). length x.fields) (λ x y same. ap length same.fields) u.classes v.classes all c.0 lt);
  methods = same_methods u.classes v.classes all c.0 lt;
  fields = same_fields u.classes v.classes all c.0 lt;
}

-- ---- fields

field_same : (u v : World) → AllViews u.classes v.classes → (name descriptor : List ℕ) (c : ClassId) → c.0 < length u.classes → field_in v name descriptor c ≡ field_in u name descriptor c
field_same u v all name descriptor c lt =
    let same = members_stay u v all c lt in
    λ i. option_map (λ (k : ℕ). field_id (same.field_numbers i + k)) (position_from (is_field name descriptor) 0 (same.fields i))

pub fields_are_found : FieldsAreFound
fields_are_found u v all [] lt name descriptor = refl
fields_are_found u v all (c ∷ cs) lt name descriptor = λ i. or_else (field_same u v all name descriptor c lt.0 i) (fields_are_found u v all cs lt.1 name descriptor i)

-- ---- classes

pub views_join : ViewsJoin
views_join [] [] bs cs all same behind = behind
views_join [] (v ∷ vs) bs cs all same behind = absurd (let never : suc (length vs) ≡ 0 = same in cc)
views_join (u ∷ us) [] bs cs all same behind = absurd all
views_join (u ∷ us) (v ∷ vs) bs cs all same behind = (all.0, views_join us vs bs cs all.1 (omega (arith, same)) behind)

by_test : (b : Bool) (here x y : Option ClassId) (c : ClassId) → (x ≡ Some c → y ≡ Some c) → (if b then here else x) ≡ Some c → (if b then here else y) ≡ Some c
by_test true here x y c later e = e
by_test false here x y c later e = later e

class_by : (f g : List ClassView) (mark other : ClassId → ClassView → Bool) (us vs : List ClassView) → AllViews us vs → (name : List ℕ) (n k : ℕ) (c : ClassId) → class_from (outlined f mark n us) name k ≡ Some c → class_from (outlined g other n vs) name k ≡ Some c
class_by f g mark other [] vs all name n k c found = absurd (none-some c found)
class_by f g mark other (u ∷ us) [] all name n k c found = absurd all
class_by f g mark other (u ∷ us) (v ∷ vs) all name n k c found =
    ap (λ (t : List ℕ). if bytes_eq t name then Some (class_id k) else class_from (outlined g other (n + 1) vs) name (suc k)) all.0.name
    ∙ by_test (bytes_eq u.name name) (Some (class_id k)) (class_from (outlined f mark (n + 1) us) name (suc k)) (class_from (outlined g other (n + 1) vs) name (suc k)) c (λ e. class_by f g mark other us vs all.1 name (n + 1) (suc k) c e) found

pub classes_are_found : ClassesAreFound
classes_are_found f g us vs all name c found = class_by us vs (λ d x. is_message_by (outline_with f us (λ e y. y.is_marked)) d) (λ d x. is_message_by (outline_with g vs (λ e y. y.is_marked)) d) us vs all name 0 0 c found
