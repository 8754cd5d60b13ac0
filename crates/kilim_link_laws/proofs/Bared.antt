-- A program without its members agrees with it.
use Rattle.std.proofs.Common.{◌≡◌, ℕ, zero, suc, ◌==◌, nat_lt, Bool, ◌&&◌, ◌||◌, not, if◌then◌else◌, List, [], ◌∷◌, length, Option, Some, None, option_map, codes, refl, ap, ◌∙◌, bytes_eq}
use Rattle.std.proofs.lemmas.List.{length-map}
use Rattle.std.specs.List.{list_any}
use Rattle.kilim_lemmas.proofs.Lists.{any_same}
use Rattle.kilim_program.specs.declared.class.Class.{Class}
use Rattle.kilim_program.specs.declared.names.ClassId.{ClassId}
use Rattle.kilim_program.specs.declared.ty.Base.{Base}
use Rattle.kilim_program.specs.declared.ty.Base.TheVariants as base
use Rattle.kilim_program.specs.declared.ty.Kind.{Kind}
use Rattle.kilim_program.specs.declared.ty.Kind.TheVariants.{Value, Tree, Private}
use Rattle.kilim_program.specs.declared.ty.Ty.{Ty}
use Rattle.kilim_program.specs.Keeps.{ancestors_of, is_object, line_above, superclass_fits, superclass_of}
use Rattle.kilim_program.specs.Kinds.{array_kind, base_kind, class_kind, field_may_hold, is_marked, is_message, is_private_kind, is_task_array, is_task_base, is_task_type, is_tree_kind, is_value_class, is_value_kind, kind_of}
use Rattle.kilim_program.specs.Names.{◌>>=◌, class_at, class_name, is_named_task, is_task, line_of, line_up_to}
use Rattle.kilim_program.specs.Program.{Program}
use Rattle.kilim_link_laws.specs.Bridge.{BaredAgrees, bare, bared}
use Rattle.kilim_link_laws.proofs.Lists.{get_map}

abbrev pub super_in : Option Class → Option ClassId
super_in o = o >>= λ (class : Class). class.superclass

abbrev name_in : Option Class → List ℕ
name_in o = elim o [ None ↦ [] | Some class ↦ class.name ]

super_in_same : (o : Option Class) → super_in (option_map bare o) ≡ super_in o
super_in_same None = refl
super_in_same (Some class) = refl

superclass_of_same : (o : Option Class) → superclass_of (option_map bare o) ≡ superclass_of o
superclass_of_same None = refl
superclass_of_same (Some class) = refl

name_in_same : (o : Option Class) → name_in (option_map bare o) ≡ name_in o
name_in_same None = refl
name_in_same (Some class) = refl

is_marked_same : (o : Option Class) → is_marked (option_map bare o) ≡ is_marked o
is_marked_same None = refl
is_marked_same (Some class) = refl

abbrev pub line_from : Program → ℕ → Option ClassId → List ClassId
line_from p n o = elim o [ None ↦ [] | Some up ↦ line_up_to p n up ]

class_same : (p : Program) (c : ClassId) → class_at (bared p) c ≡ option_map bare (class_at p c)
class_same p c = get_map bare p.classes c.0

lines_from : (p : Program) (n : ℕ) → ((c : ClassId) → line_up_to (bared p) n c ≡ line_up_to p n c) → (o : Option ClassId) → line_from (bared p) n o ≡ line_from p n o
lines_from p n each None = refl
lines_from p n each (Some up) = each up

lines_up_to : (p : Program) (n : ℕ) (c : ClassId) → line_up_to (bared p) n c ≡ line_up_to p n c
lines_up_to p zero c = refl
lines_up_to p (suc n) c =
    let up : super_in (class_at (bared p) c) ≡ super_in (class_at p c) = ap super_in (class_same p c) ∙ super_in_same (class_at p c) in
    ap (λ (ds : List ClassId). c ∷ ds) (ap (line_from (bared p) n) up ∙ lines_from p n (lines_up_to p n) (super_in (class_at p c)))

lines : (p : Program) (c : ClassId) → line_of (bared p) c ≡ line_of p c
lines p c = ap (λ (n : ℕ). line_up_to (bared p) n c) (length-map p.classes bare) ∙ lines_up_to p (length p.classes) c

lines_above : (p : Program) (o : Option ClassId) → line_above (bared p) o ≡ line_above p o
lines_above p None = refl
lines_above p (Some up) = lines p up

ancestors : (p : Program) (c : ClassId) → ancestors_of (bared p) c ≡ ancestors_of p c
ancestors p c = ap (λ (o : Option Class). line_above (bared p) (superclass_of o)) (class_same p c) ∙ (ap (line_above (bared p)) (superclass_of_same (class_at p c)) ∙ lines_above p (superclass_of (class_at p c)))

names : (p : Program) (c : ClassId) → class_name (bared p) c ≡ class_name p c
names p c = ap name_in (class_same p c) ∙ name_in_same (class_at p c)

tasks : (p : Program) (c : ClassId) → is_task (bared p) c ≡ is_task p c
tasks p c =
    any_same (is_named_task (bared p)) (is_named_task p) (λ d. ap (λ (name : List ℕ). bytes_eq name (codes "kilim/Task")) (names p d)) (line_of (bared p) c)
    ∙ ap (list_any (is_named_task p)) (lines p c)

messages : (p : Program) (c : ClassId) → is_message (bared p) c ≡ is_message p c
messages p c = ap is_marked (class_same p c) ∙ is_marked_same (class_at p c)

abbrev kind_by : List ℕ → Bool → Bool → Kind
kind_by name task message = if is_value_class name then Value else (if task || message then Tree else Private)

class_kinds : (p : Program) (c : ClassId) → class_kind (bared p) c ≡ class_kind p c
class_kinds p c =
    ap (λ (name : List ℕ). kind_by name (is_task (bared p) c) (is_message (bared p) c)) (names p c)
    ∙ (ap (λ (b : Bool). kind_by (class_name p c) b (is_message (bared p) c)) (tasks p c)
    ∙ ap (λ (b : Bool). kind_by (class_name p c) (is_task p c) b) (messages p c))

base_kinds : (p : Program) (b : Base) → base_kind (bared p) b ≡ base_kind p b
base_kinds p (base.Class c) = class_kinds p c
base_kinds p _ = refl

kinds : (p : Program) (ty : Ty) → kind_of (bared p) ty ≡ kind_of p ty
kinds p ty = ap (λ (k : Kind). if ty.dims == 0 then k else array_kind k) (base_kinds p ty.base)

task_bases : (p : Program) (b : Base) → is_task_base (bared p) b ≡ is_task_base p b
task_bases p (base.Class c) = tasks p c
task_bases p _ = refl

task_types : (p : Program) (ty : Ty) → is_task_type (bared p) ty ≡ is_task_type p ty
task_types p ty = ap (λ (b : Bool). ty.dims == 0 && b) (task_bases p ty.base)

task_arrays : (p : Program) (ty : Ty) → is_task_array (bared p) ty ≡ is_task_array p ty
task_arrays p ty = ap (λ (b : Bool). nat_lt 0 ty.dims && b) (task_bases p ty.base)

may_hold : (p : Program) (kind : Kind) (ty : Ty) → field_may_hold (bared p) kind ty ≡ field_may_hold p kind ty
may_hold p Value ty = refl
may_hold p Tree ty =
    ap (λ (k : Kind). is_value_kind k || (is_tree_kind k && not (is_task_type (bared p) ty))) (kinds p ty)
    ∙ ap (λ (b : Bool). is_value_kind (kind_of p ty) || (is_tree_kind (kind_of p ty) && not b)) (task_types p ty)
may_hold p Private ty = ap (λ (k : Kind). is_value_kind k || is_private_kind k) (kinds p ty)

objects : (p : Program) (c : ClassId) → is_object (bared p) c ≡ is_object p c
objects p c = ap (λ (name : List ℕ). bytes_eq name (codes "java/lang/Object")) (names p c)

abbrev fits_by : Bool → Bool → Bool → Kind → Kind → Bool
fits_by message object up kind other = if message then object || up else not (is_private_kind kind) || is_private_kind other

supers : (p : Program) (c : ClassId) (up : Option ClassId) → superclass_fits (bared p) c up ≡ superclass_fits p c up
supers p c None = objects p c
supers p c (Some up) =
    ap (λ (b : Bool). fits_by b (is_object (bared p) up) (is_message (bared p) up) (class_kind (bared p) c) (class_kind (bared p) up)) (messages p c)
    ∙ (ap (λ (b : Bool). fits_by (is_message p c) b (is_message (bared p) up) (class_kind (bared p) c) (class_kind (bared p) up)) (objects p up)
    ∙ (ap (λ (b : Bool). fits_by (is_message p c) (is_object p up) b (class_kind (bared p) c) (class_kind (bared p) up)) (messages p up)
    ∙ (ap (λ (k : Kind). fits_by (is_message p c) (is_object p up) (is_message p up) k (class_kind (bared p) up)) (class_kinds p c)
    ∙ ap (λ (k : Kind). fits_by (is_message p c) (is_object p up) (is_message p up) (class_kind p c) k) (class_kinds p up))))

pub bared_agrees : BaredAgrees
bared_agrees p = record {
  lines = lines p;
  ancestors = ancestors p;
  names = names p;
  tasks = tasks p;
  messages = messages p;
  class_kinds = class_kinds p;
  kinds = kinds p;
  task_types = task_types p;
  task_arrays = task_arrays p;
  may_hold = may_hold p;
  objects = objects p;
  supers = supers p;
}
