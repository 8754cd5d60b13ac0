-- What a tree holds: values and trees, by the declared types.
use Rattle.std.proofs.Common.{◌≡◌, ◌⊎◌, inl, inr, ℕ, zero, suc, Bool, true, false, not, ◌&&◌, ◌||◌, eqb, List, [], Option, Some, None, refl, sym, ap, ◌∙◌, true≢false, arith}
use Rattle.std.specs.Prelude.{if◌then◌else◌}
use Rattle.std.proofs.lemmas.Bool.{and_parts, ne_eqb}
use Rattle.kilim_program.specs.declared.class.Class.{Class}
use Rattle.kilim_program.specs.declared.class.Method.{Method}
use Rattle.kilim_program.specs.declared.names.ClassId.{ClassId}
use Rattle.kilim_program.specs.declared.ty.Base.{Base}
use Rattle.kilim_program.specs.declared.ty.Base.TheVariants as base
use Rattle.kilim_program.specs.declared.ty.Kind.{Kind}
use Rattle.kilim_program.specs.declared.ty.Kind.TheVariants as kind
use Rattle.kilim_program.specs.declared.ty.Ty.{Ty}
use Rattle.kilim_program.specs.declared.verified.VType.TheVariants as vtype
use Rattle.kilim_program.specs.Program.{Program}
use Rattle.kilim_program.specs.Fits.{fits_type, type_assignable}
use Rattle.kilim_program.specs.Kinds.{array_kind, base_kind, class_kind, is_message, is_private_kind, is_value_class, kind_of}
use Rattle.kilim_program.specs.Lengths.{is_reference_type}
use Rattle.kilim_program.specs.Names.{class_at, class_name, is_task}
use Rattle.kilim_run_state.specs.Trees.{is_class, is_whole_class}
use Rattle.kilim_isolation_rules.specs.Marks.{is_tree}
use Rattle.kilim_isolation_laws.specs.graph_rows.Holds.{Anything, KindsFlow, MayHold, Own, Sort, Tree, Wide, Word, is_tree_sort, object_sort, sort_by, type_sort}
use Rattle.kilim_isolation_laws.proofs.graph_rows.Casting.{flows_by, same_sort}

abbrev pub IsShared : Sort → Type 0
IsShared s = s ≡ Own → ⊥

pub tree_holds : (s t : Sort) → is_tree_sort s ≡ true → IsShared t → MayHold s t
tree_holds (Tree d x) (Tree e y) tree shared = tt
tree_holds (Tree d x) Own tree shared = absurd (shared refl)
tree_holds (Tree d x) Word tree shared = tt
tree_holds (Tree d x) Wide tree shared = tt
tree_holds (Tree d x) Anything tree shared = tt
tree_holds Own t tree shared = absurd (true≢false (sym tree))
tree_holds Word t tree shared = absurd (true≢false (sym tree))
tree_holds Wide t tree shared = absurd (true≢false (sym tree))
tree_holds Anything t tree shared = absurd (true≢false (sym tree))

pub holds_shared : (s t : Sort) → is_tree_sort s ≡ true → MayHold s t → IsShared t
holds_shared (Tree d x) Own tree may e = may
holds_shared (Tree d x) (Tree e y) tree may w = absurd (let z : is_tree_sort (Tree e y) ≡ is_tree_sort Own = ap is_tree_sort w in true≢false z)
holds_shared (Tree d x) Word tree may w = absurd (no_word w)
  where
    no_word : Word ≡ Own → ⊥
    no_word e = cc
holds_shared (Tree d x) Wide tree may w = absurd (no_wide w)
  where
    no_wide : Wide ≡ Own → ⊥
    no_wide e = cc
holds_shared (Tree d x) Anything tree may w = absurd (no_any w)
  where
    no_any : Anything ≡ Own → ⊥
    no_any e = cc
holds_shared Own t tree may e = absurd (true≢false (sym tree))
holds_shared Word t tree may e = absurd (true≢false (sym tree))
holds_shared Wide t tree may e = absurd (true≢false (sym tree))
holds_shared Anything t tree may e = absurd (true≢false (sym tree))

-- ---- kinds

module _ (p : Program) where
  any_is : (ty : Ty) (k : Kind) → sort_by p ty k ≡ Anything → ⊥
  any_is ty kind.Value e = cc
  any_is ty kind.Tree e = cc
  any_is ty kind.Private e = cc

  word_is : (ty : Ty) (k : Kind) → sort_by p ty k ≡ Word → k ≡ kind.Value
  word_is ty kind.Value e = refl
  word_is ty kind.Tree e = absurd (cc)
  word_is ty kind.Private e = absurd (cc)

  shared_kind : (ty : Ty) (k : Kind) → IsShared (sort_by p ty k) → is_private_kind k ≡ false
  shared_kind ty kind.Value shared = refl
  shared_kind ty kind.Tree shared = refl
  shared_kind ty kind.Private shared = absurd (shared refl)

  pub private_own : (ty : Ty) (k : Kind) → is_private_kind k ≡ true → sort_by p ty k ≡ Own
  private_own ty kind.Private e = refl
  private_own ty kind.Value e = absurd (true≢false (sym e))
  private_own ty kind.Tree e = absurd (true≢false (sym e))

  tree_kind : (ty : Ty) (k : Kind) → k ≡ kind.Value ⊎ is_private_kind k ≡ true ⊎ is_tree_sort (sort_by p ty k) ≡ true
  tree_kind ty kind.Value = inl refl
  tree_kind ty kind.Private = inr (inl refl)
  tree_kind ty kind.Tree = inr (inr refl)

  -- ---- objects are of no value class

  pub class_value : (name : List ℕ) (rest : Kind) → is_value_class name ≡ false → (if is_value_class name then kind.Value else rest) ≡ rest
  class_value name rest e = by (is_value_class name) e
    where
      by : (b : Bool) → b ≡ false → (if b then kind.Value else rest) ≡ rest
      by true e = absurd (true≢false e)
      by false e = refl

  or_false : (a : Bool) → (a || false) ≡ true → a ≡ true
  or_false true e = refl
  or_false false e = e

  not_false : (b : Bool) → not b ≡ true → b ≡ false
  not_false false e = refl
  not_false true e = absurd (true≢false (sym e))

  pub whole_name : (c : ClassId) → is_whole_class p (record { dims = 0; base = base.Class c }) ≡ true → is_value_class (class_name p c) ≡ false
  whole_name c e = by (class_at p c) e
    where
      by : (o : Option Class) → (elim o [ None ↦ false | Some class ↦ (not class.is_abstract && not (is_value_class class.name)) || not (eqb 0 0) ]) ≡ true → is_value_class (elim o [ None ↦ [] | Some class ↦ class.name ]) ≡ false
      by None e = absurd (true≢false (sym e))
      by (Some class) e = not_false (is_value_class class.name) (and_parts (not class.is_abstract) (not (is_value_class class.name)) (or_false (not class.is_abstract && not (is_value_class class.name)) e)).1

  pub no_value_class : (c : ClassId) → is_value_class (class_name p c) ≡ false → class_kind p c ≡ kind.Value → ⊥
  no_value_class c name e = by (is_task p c || is_message p c) (sym (class_value (class_name p c) (if is_task p c || is_message p c then kind.Tree else kind.Private) name) ∙ e)
    where
      by : (b : Bool) → (if b then kind.Tree else kind.Private) ≡ kind.Value → ⊥
      by true e = cc
      by false e = cc

  no_value_array : (k : Kind) → array_kind k ≡ kind.Value → ⊥
  no_value_array kind.Value e = cc
  no_value_array kind.Tree e = cc
  no_value_array kind.Private e = cc

  pub array_kind_is : (d : ℕ) (b : Base) → kind_of p (record { dims = suc d; base = b }) ≡ array_kind (base_kind p b)
  array_kind_is d b = by (eqb (suc d) 0) (ne_eqb (suc d) 0 (λ e. omega (arith, e)))
    where
      by : (z : Bool) → z ≡ false → (if z then base_kind p b else array_kind (base_kind p b)) ≡ array_kind (base_kind p b)
      by true e = absurd (true≢false e)
      by false e = refl

  whole_no_value : (d : ℕ) (b : Base) → is_whole_class p (record { dims = d; base = b }) ≡ true → kind_of p (record { dims = d; base = b }) ≡ kind.Value → ⊥
  whole_no_value zero (base.Class c) whole e = no_value_class c (whole_name c whole) e
  whole_no_value (suc d) b whole e = no_value_array (base_kind p b) (sym (array_kind_is d b) ∙ e)
  whole_no_value zero base.Bool whole e = absurd (true≢false (sym whole))
  whole_no_value zero base.Byte whole e = absurd (true≢false (sym whole))
  whole_no_value zero base.Char whole e = absurd (true≢false (sym whole))
  whole_no_value zero base.Short whole e = absurd (true≢false (sym whole))
  whole_no_value zero base.Int whole e = absurd (true≢false (sym whole))
  whole_no_value zero base.Long whole e = absurd (true≢false (sym whole))

  -- ---- what an object fits is a class or an array

  whole_reference : (d : ℕ) (b : Base) → is_whole_class p (record { dims = d; base = b }) ≡ true → is_reference_type d b ≡ true
  whole_reference zero (base.Class c) whole = refl
  whole_reference (suc d) b whole = refl
  whole_reference zero base.Bool whole = absurd (true≢false (sym whole))
  whole_reference zero base.Byte whole = absurd (true≢false (sym whole))
  whole_reference zero base.Char whole = absurd (true≢false (sym whole))
  whole_reference zero base.Short whole = absurd (true≢false (sym whole))
  whole_reference zero base.Int whole = absurd (true≢false (sym whole))
  whole_reference zero base.Long whole = absurd (true≢false (sym whole))

  prim_none : (d : ℕ) (b q : Base) → is_class q ≡ false → is_reference_type d b ≡ true → type_assignable p d b 0 q ≡ true → ⊥
  prim_none zero (base.Class c) (base.Class e) none there fit = true≢false none
  prim_none zero (base.Class c) base.Bool none there fit = true≢false (sym fit)
  prim_none zero (base.Class c) base.Byte none there fit = true≢false (sym fit)
  prim_none zero (base.Class c) base.Char none there fit = true≢false (sym fit)
  prim_none zero (base.Class c) base.Short none there fit = true≢false (sym fit)
  prim_none zero (base.Class c) base.Int none there fit = true≢false (sym fit)
  prim_none zero (base.Class c) base.Long none there fit = true≢false (sym fit)
  prim_none (suc d) b (base.Class e) none there fit = true≢false none
  prim_none (suc d) b base.Bool none there fit = true≢false (sym fit)
  prim_none (suc d) b base.Byte none there fit = true≢false (sym fit)
  prim_none (suc d) b base.Char none there fit = true≢false (sym fit)
  prim_none (suc d) b base.Short none there fit = true≢false (sym fit)
  prim_none (suc d) b base.Int none there fit = true≢false (sym fit)
  prim_none (suc d) b base.Long none there fit = true≢false (sym fit)
  prim_none zero base.Bool q none there fit = true≢false (sym there)
  prim_none zero base.Byte q none there fit = true≢false (sym there)
  prim_none zero base.Char q none there fit = true≢false (sym there)
  prim_none zero base.Short q none there fit = true≢false (sym there)
  prim_none zero base.Int q none there fit = true≢false (sym there)
  prim_none zero base.Long q none there fit = true≢false (sym there)

  reference_by : (d : ℕ) (b : Base) (n : ℕ) (q : Base) → is_reference_type d b ≡ true → type_assignable p d b n q ≡ true → type_sort p (record { dims = n; base = q }) ≡ object_sort p (record { dims = n; base = q })
  reference_by d b zero (base.Class c) there fit = refl
  reference_by d b (suc e) q there fit = refl
  reference_by d b zero base.Bool there fit = absurd (prim_none d b base.Bool refl there fit)
  reference_by d b zero base.Byte there fit = absurd (prim_none d b base.Byte refl there fit)
  reference_by d b zero base.Char there fit = absurd (prim_none d b base.Char refl there fit)
  reference_by d b zero base.Short there fit = absurd (prim_none d b base.Short refl there fit)
  reference_by d b zero base.Int there fit = absurd (prim_none d b base.Int refl there fit)
  reference_by d b zero base.Long there fit = absurd (prim_none d b base.Long refl there fit)

  pub reference_sort : (d : ℕ) (b : Base) (ty : Ty) → is_reference_type d b ≡ true → type_assignable p d b ty.dims ty.base ≡ true → type_sort p ty ≡ object_sort p ty
  reference_sort d b ty there fit = reference_by d b ty.dims ty.base there fit

  and_false : (a : Bool) → (a && false) ≡ false
  and_false true = refl
  and_false false = refl

  -- an object that fits a shared type is a tree of that type's sort
  pub object_shared : KindsFlow p → (m : Method) (found ty : Ty) → fits_type p found ty ≡ true → is_whole_class p found ≡ true → IsShared (type_sort p ty) → (type_sort p ty ≡ object_sort p found) × (is_tree_sort (object_sort p found) ≡ true)
  unfolding fits_type
  object_shared flow m found ty fit whole shared =
      let is = reference_sort found.dims found.base ty (whole_reference found.dims found.base whole) fit in
      let shared_too : IsShared (object_sort p ty) = λ e. shared (is ∙ e) in
      let no_mix = ap (λ (b : Bool). is_tree p (vtype.Object found) && b) (shared_kind ty (kind_of p ty) shared_too) ∙ and_false (is_tree p (vtype.Object found)) in
      let same = same_sort (object_sort p found) (object_sort p ty) (flows_by p flow m found ty fit no_mix) (any_is ty (kind_of p ty)) (λ e. whole_no_value found.dims found.base whole (word_is found (kind_of p found) e)) in (
        is ∙ sym same,
        elim (tree_kind found (kind_of p found)) [
          | inl e ↦ absurd (whole_no_value found.dims found.base whole e)
          | inr (inl e) ↦ absurd (shared_too (sym same ∙ private_own found (kind_of p found) e))
          | inr (inr e) ↦ e
        ],
      )
