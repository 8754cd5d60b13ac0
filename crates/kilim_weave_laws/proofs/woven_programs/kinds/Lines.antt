-- Classes, their lines of superclasses and their kinds are as they were.
use Rattle.std.proofs.Common.{◌≡◌, ℕ, zero, suc, ◌<◌, Bool, true, cond, eqb, not, List, [], ◌∷◌, ◌++◌, length, Option, Some, None, refl, ap, ◌∙◌, ltb-true}
use Rattle.std.specs.Prelude.{◌&&◌, ◌||◌, slice_get, codes}
use Rattle.std.specs.List.{list_any}
use Rattle.std.specs.Str.{bytes_eq}
use Rattle.kilim_program.specs.declared.class.Class.{Class}
use Rattle.kilim_program.specs.declared.names.ClassId.{ClassId}
use Rattle.kilim_program.specs.declared.ty.Base.{Base}
use Rattle.kilim_program.specs.declared.ty.Base.TheVariants as base
use Rattle.kilim_program.specs.declared.ty.Kind.{Kind}
use Rattle.kilim_program.specs.declared.ty.Kind.TheVariants.{Value, Tree, Private}
use Rattle.kilim_program.specs.declared.ty.Ty.{Ty}
use Rattle.kilim_program.specs.Keeps.{Keeps, ancestors_of, has_base, has_type, line_above, superclass_of}
use Rattle.kilim_program.specs.Kinds.{array_kind, base_kind, class_kind, field_may_hold, is_marked, is_message, is_private_kind, is_task_base, is_tree_kind, is_value_class, is_value_kind, kind_of}
use Rattle.kilim_program.specs.Names.{◌>>=◌, class_at, class_name, is_named_task, is_task, line_of, line_up_to}
use Rattle.kilim_program.specs.Program.{Program}
use Rattle.kilim_lemmas.proofs.Lists.{get_front}
use Rattle.kilim_type_laws.proofs.members.Through.{never_cut, up, up_there}
use Rattle.kilim_weave_laws.proofs.woven_programs.ClassLists.{one_more}

module _ (P W : Program) (keeps : Keeps P) (extra : Class) (grown : W.classes ≡ P.classes ++ extra ∷ []) where
  abbrev pub IsIn : ClassId → Type 0
  IsIn c = c.0 < length P.classes

  pub class_same : (c : ClassId) → IsIn c → class_at W c ≡ class_at P c
  class_same c less = ap (λ (cs : List Class). slice_get cs c.0) grown ∙ get_front P.classes (extra ∷ []) c.0 less

  pub name_same : (c : ClassId) → IsIn c → class_name W c ≡ class_name P c
  name_same c less = ap (λ (o : Option Class). elim o [ None ↦ [] | Some class ↦ class.name ]) (class_same c less)

  -- ---- lines

  pub line_same : (n : ℕ) (c : ClassId) → IsIn c → line_up_to W n c ≡ line_up_to P n c
  line_same zero c less = refl
  line_same (suc n) c less =
      ap (λ (o : Option Class). c ∷ elim (o >>= λ (class : Class). class.superclass) [ None ↦ [] | Some u ↦ line_up_to W n u ]) (class_same c less)
      ∙ by (up P c) refl (λ u e. line_same n u (up_there P keeps c u e))
    where
      by : (o : Option ClassId) → up P c ≡ o → ((u : ClassId) → up P c ≡ Some u → line_up_to W n u ≡ line_up_to P n u) → c ∷ elim o [ None ↦ [] | Some u ↦ line_up_to W n u ] ≡ c ∷ elim o [ None ↦ [] | Some u ↦ line_up_to P n u ]
      by None is again = refl
      by (Some u) is again = ap (λ (ds : List ClassId). c ∷ ds) (again u is)

  pub whole_same : (c : ClassId) → IsIn c → line_of W c ≡ line_of P c
  whole_same c less =
      ap (λ (n : ℕ). line_up_to W n c) (one_more P W extra grown)
      ∙ (line_same (suc (length P.classes)) c less ∙ never_cut P keeps c less)

  above_same : (o : Option ClassId) → ((u : ClassId) → o ≡ Some u → IsIn u) → line_above W o ≡ line_above P o
  above_same None in_it = refl
  above_same (Some u) in_it = whole_same u (in_it u refl)

  superclass_is : (o : Option Class) (u : ClassId) → superclass_of o ≡ Some u → (o >>= λ (class : Class). class.superclass) ≡ Some u
  superclass_is None u e = absurd (cc)
  superclass_is (Some class) u e = e

  pub ancestors_same : (c : ClassId) → IsIn c → ancestors_of W c ≡ ancestors_of P c
  ancestors_same c less =
      ap (λ (o : Option Class). line_above W (superclass_of o)) (class_same c less)
      ∙ above_same (superclass_of (class_at P c)) (λ u e. up_there P keeps c u (superclass_is (class_at P c) u e))

  -- what holds alike of all classes that are there, holds alike of a line
  pub any_alike : (f g : ClassId → Bool) → ((d : ClassId) → IsIn d → f d ≡ g d) → (n : ℕ) (c : ClassId) → IsIn c → list_any f (line_up_to P n c) ≡ list_any g (line_up_to P n c)
  any_alike f g same zero c less = refl
  any_alike f g same (suc n) c less =
      ap (λ (b : Bool). b || list_any f (elim (up P c) [ None ↦ [] | Some u ↦ line_up_to P n u ])) (same c less)
      ∙ ap (λ (b : Bool). g c || b) (by (up P c) refl (λ u e. any_alike f g same n u (up_there P keeps c u e)))
    where
      by : (o : Option ClassId) → up P c ≡ o → ((u : ClassId) → up P c ≡ Some u → list_any f (line_up_to P n u) ≡ list_any g (line_up_to P n u)) → list_any f (elim o [ None ↦ [] | Some u ↦ line_up_to P n u ]) ≡ list_any g (elim o [ None ↦ [] | Some u ↦ line_up_to P n u ])
      by None is again = refl
      by (Some u) is again = again u is

  -- ---- kinds

  pub task_same : (c : ClassId) → IsIn c → is_task W c ≡ is_task P c
  task_same c less =
      ap (list_any (is_named_task W)) (whole_same c less)
      ∙ any_alike (is_named_task W) (is_named_task P) (λ d l. ap (λ (n : List ℕ). bytes_eq n (codes "kilim/Task")) (name_same d l)) (length P.classes) c less

  pub message_same : (c : ClassId) → IsIn c → is_message W c ≡ is_message P c
  message_same c less = ap is_marked (class_same c less)

  pub class_kind_same : (c : ClassId) → IsIn c → class_kind W c ≡ class_kind P c
  class_kind_same c less =
      ap (λ (n : List ℕ). cond (is_value_class n) Value (cond (is_task W c || is_message W c) Tree Private)) (name_same c less)
      ∙ (ap (λ (b : Bool). cond (is_value_class (class_name P c)) Value (cond (b || is_message W c) Tree Private)) (task_same c less)
      ∙ ap (λ (b : Bool). cond (is_value_class (class_name P c)) Value (cond (is_task P c || b) Tree Private)) (message_same c less))

  base_kind_same : (b : Base) → has_base P b ≡ true → base_kind W b ≡ base_kind P b
  base_kind_same (base.Class c) h = class_kind_same c (ltb-true c.0 (length P.classes) h)
  base_kind_same b h = refl

  pub task_base_same : (b : Base) → has_base P b ≡ true → is_task_base W b ≡ is_task_base P b
  task_base_same (base.Class c) h = task_same c (ltb-true c.0 (length P.classes) h)
  task_base_same b h = refl

  pub kind_same : (ty : Ty) → has_type P ty ≡ true → kind_of W ty ≡ kind_of P ty
  kind_same ty h = ap (λ (k : Kind). cond (eqb ty.dims 0) k (array_kind k)) (base_kind_same ty.base h)

  pub hold_same : (k : Kind) (ty : Ty) → has_type P ty ≡ true → field_may_hold W k ty ≡ field_may_hold P k ty
  hold_same Value ty h = refl
  hold_same Tree ty h =
      ap (λ (k : Kind). is_value_kind k || (is_tree_kind k && not (eqb ty.dims 0 && is_task_base W ty.base))) (kind_same ty h)
      ∙ ap (λ (b : Bool). is_value_kind (kind_of P ty) || (is_tree_kind (kind_of P ty) && not (eqb ty.dims 0 && b))) (task_base_same ty.base h)
  hold_same Private ty h = ap (λ (k : Kind). is_value_kind k || is_private_kind k) (kind_same ty h)
