-- The classes of what is raised can be thrown, and have objects: they are built in, below `java/lang/Throwable`.
use Rattle.std.proofs.Common.{◌≡◌, inl, inr, ℕ, suc, ◌+◌, Bool, true, false, List, [], ◌∷◌, length, Option, Some, None, refl, sym, ap, subst, ◌∙◌, arith}
use Rattle.std.specs.Prelude.{◌||◌, not, slice_get, codes}
use Rattle.std.specs.List.{AllByRecursion, list_any}
use Rattle.std.specs.Str.{bytes_eq}
use Rattle.std.proofs.lemmas.Bool.{and_from, or_left}
use Rattle.std.proofs.lemmas.List.{length-append}
use Rattle.kilim_program.specs.declared.class.Class.{Class}
use Rattle.kilim_program.specs.declared.class.Form.{Form}
use Rattle.kilim_program.specs.declared.class.Form.TheVariants.{Plain, Woven}
use Rattle.kilim_program.specs.declared.names.ClassId.{ClassId}
use Rattle.kilim_program.specs.declared.ty.Base.{Base}
use Rattle.kilim_program.specs.declared.ty.Base.TheVariants as base
use Rattle.kilim_program.specs.declared.ty.Ty.{Ty}
use Rattle.kilim_program.specs.Program.{Program}
use Rattle.kilim_program.specs.BuiltIn.{built_in_classes_in, class_id, class_type, exception_numbers}
use Rattle.kilim_program.specs.Fits.{is_named}
use Rattle.kilim_program.specs.Keeps.{Keeps}
use Rattle.kilim_program.specs.Kinds.{is_value_class}
use Rattle.kilim_program.specs.Members.{is_concrete, named_class}
use Rattle.kilim_program.specs.Names.{◌>>=◌, class_at, class_name, class_named, line_up_to}
use Rattle.kilim_lemmas.proofs.Lists.{get_right}
use Rattle.kilim_run_state.specs.declared.cause.EndCause.{EndCause}
use Rattle.kilim_run_state.specs.declared.cause.EndCause.TheVariants as cause
use Rattle.kilim_run_machine.specs.Raising.{array_index, is_throwable, other_index, raised_class, text_index}
use Rattle.kilim_type_laws.proofs.members.ValueClasses.{type_is}
use Rattle.kilim_type_sound.specs.Facts.{IsIndexName}
use Rattle.kilim_type_sound.specs.Fits.{has_objects}
use Rattle.kilim_type_sound.proofs.Throwables.{throwable_name}

-- a built-in class by its place among them, with the place of its superclass
pub record IsRow (classes : List Class) (first k up : ℕ) (name : List ℕ) : Type 0 where
  pub class : Class
  pub at : slice_get classes k ≡ Some class
  pub above : class.superclass ≡ Some (class_id (first + up))
  pub named : bytes_eq class.name name ≡ true
  pub concrete : class.is_abstract ≡ false
  pub plain : is_value_class class.name ≡ false
  pub unmarked : class.message ≡ false

exception : (form : Form) (a b : ℕ) → IsRow (built_in_classes_in form a b) a 8 7 (codes "java/lang/Exception")
exception Plain a b = record { class = _; at = refl; above = refl; named = refl; concrete = refl; plain = refl; unmarked = refl }
exception Woven a b = record { class = _; at = refl; above = refl; named = refl; concrete = refl; plain = refl; unmarked = refl }

runtime : (form : Form) (a b : ℕ) → IsRow (built_in_classes_in form a b) a 9 8 (codes "java/lang/RuntimeException")
runtime Plain a b = record { class = _; at = refl; above = refl; named = refl; concrete = refl; plain = refl; unmarked = refl }
runtime Woven a b = record { class = _; at = refl; above = refl; named = refl; concrete = refl; plain = refl; unmarked = refl }

arithmetic : (form : Form) (a b : ℕ) → IsRow (built_in_classes_in form a b) a 10 9 (codes "java/lang/ArithmeticException")
arithmetic Plain a b = record { class = _; at = refl; above = refl; named = refl; concrete = refl; plain = refl; unmarked = refl }
arithmetic Woven a b = record { class = _; at = refl; above = refl; named = refl; concrete = refl; plain = refl; unmarked = refl }

null_pointer : (form : Form) (a b : ℕ) → IsRow (built_in_classes_in form a b) a 11 9 (codes "java/lang/NullPointerException")
null_pointer Plain a b = record { class = _; at = refl; above = refl; named = refl; concrete = refl; plain = refl; unmarked = refl }
null_pointer Woven a b = record { class = _; at = refl; above = refl; named = refl; concrete = refl; plain = refl; unmarked = refl }

negative_size : (form : Form) (a b : ℕ) → IsRow (built_in_classes_in form a b) a 12 9 (codes "java/lang/NegativeArraySizeException")
negative_size Plain a b = record { class = _; at = refl; above = refl; named = refl; concrete = refl; plain = refl; unmarked = refl }
negative_size Woven a b = record { class = _; at = refl; above = refl; named = refl; concrete = refl; plain = refl; unmarked = refl }

class_cast : (form : Form) (a b : ℕ) → IsRow (built_in_classes_in form a b) a 13 9 (codes "java/lang/ClassCastException")
class_cast Plain a b = record { class = _; at = refl; above = refl; named = refl; concrete = refl; plain = refl; unmarked = refl }
class_cast Woven a b = record { class = _; at = refl; above = refl; named = refl; concrete = refl; plain = refl; unmarked = refl }

array_store : (form : Form) (a b : ℕ) → IsRow (built_in_classes_in form a b) a 14 9 (codes "java/lang/ArrayStoreException")
array_store Plain a b = record { class = _; at = refl; above = refl; named = refl; concrete = refl; plain = refl; unmarked = refl }
array_store Woven a b = record { class = _; at = refl; above = refl; named = refl; concrete = refl; plain = refl; unmarked = refl }

index_past : (form : Form) (a b : ℕ) → IsRow (built_in_classes_in form a b) a 15 9 other_index
index_past Plain a b = record { class = _; at = refl; above = refl; named = refl; concrete = refl; plain = refl; unmarked = refl }
index_past Woven a b = record { class = _; at = refl; above = refl; named = refl; concrete = refl; plain = refl; unmarked = refl }

array_past : (form : Form) (a b : ℕ) → IsRow (built_in_classes_in form a b) a 16 15 array_index
array_past Plain a b = record { class = _; at = refl; above = refl; named = refl; concrete = refl; plain = refl; unmarked = refl }
array_past Woven a b = record { class = _; at = refl; above = refl; named = refl; concrete = refl; plain = refl; unmarked = refl }

text_past : (form : Form) (a b : ℕ) → IsRow (built_in_classes_in form a b) a 17 15 text_index
text_past Plain a b = record { class = _; at = refl; above = refl; named = refl; concrete = refl; plain = refl; unmarked = refl }
text_past Woven a b = record { class = _; at = refl; above = refl; named = refl; concrete = refl; plain = refl; unmarked = refl }

pub throwable_row : (form : Form) (a b : ℕ) → IsRow (built_in_classes_in form a b) a 7 0 throwable_name
throwable_row Plain a b = record { class = _; at = refl; above = let e : a ≡ a + 0 = omega arith in ap (λ (k : ℕ). Some (class_id k)) e; named = refl; concrete = refl; plain = refl; unmarked = refl }
throwable_row Woven a b = record { class = _; at = refl; above = let e : a ≡ a + 0 = omega arith in ap (λ (k : ℕ). Some (class_id k)) e; named = refl; concrete = refl; plain = refl; unmarked = refl }

-- there are more classes than any line of them is long
five : (form : Form) (a b : ℕ) → (n : ℕ) × (length (built_in_classes_in form a b) ≡ suc (suc (suc (suc (suc n)))))
five Plain a b = (13, refl)
five Woven a b = (14, refl)

module _ (p : Program) (keeps : Keeps p) where
  abbrev pub n : ℕ
  n = length keeps.built_in.own_classes

  abbrev pub methods : ℕ
  methods = length keeps.built_in.own_methods

  abbrev pub built : List Class
  built = built_in_classes_in p.form n methods

  abbrev pub numbered : ℕ → ClassId
  numbered k = class_id (n + k)

  module _ (k up : ℕ) (name : List ℕ) (row : IsRow built n k up name) where
    pub there : class_at p (numbered k) ≡ Some row.class
    there = ap (λ (cs : List Class). slice_get cs (n + k)) keeps.built_in.classes ∙ (get_right keeps.built_in.own_classes built (n + k) k refl ∙ row.at)

    pub name_is : class_name p (numbered k) ≡ row.class.name
    name_is = ap (λ (o : Option Class). elim o [ None ↦ [] | Some class ↦ class.name ]) there

    -- the class that is found by that name
    pub found : bytes_eq [] name ≡ false → (c : ClassId) → class_named p name ≡ Some c → c ≡ numbered k
    found some c e = ap class_id (number c (ap named_class (sym e) ∙ type_is p keeps name (numbered k) some (ap (λ (t : List ℕ). bytes_eq t name) name_is ∙ row.named)))
      where
        of_base : Base → ℕ
        of_base (base.Class c) = c.0
        of_base b = 0

        of_type : Option Ty → ℕ
        of_type None = 0
        of_type (Some ty) = of_base ty.base

        number : (c : ClassId) → named_class (Some c) ≡ Some (class_type (n + k)) → c.0 ≡ n + k
        number c e = ap of_type e

    pub objects : has_objects p (numbered k) ≡ true
    objects = and_from (is_concrete (class_at p (numbered k))) _ (ap is_concrete there ∙ ap not row.concrete) (ap (λ (t : List ℕ). not (is_value_class t)) name_is ∙ ap not row.plain)

  -- ---- lines

  abbrev Thrown : ℕ → ℕ → Type 0
  Thrown fuel k = list_any (is_named p throwable_name) (line_up_to p fuel (numbered k)) ≡ true

  first : (m : ℕ) → Thrown (suc m) 7
  first m =
      let row = throwable_row p.form n methods in
      or_left (is_named p throwable_name (numbered 7)) _ (ap (λ (t : List ℕ). bytes_eq t throwable_name) (name_is 7 0 throwable_name row) ∙ row.named)

  step : (k up : ℕ) (name : List ℕ) → IsRow built n k up name → (m : ℕ) → Thrown m up → Thrown (suc m) k
  step k up name row m e = subst (λ (o : Option ClassId). (is_named p throwable_name (numbered k) || list_any (is_named p throwable_name) (elim o [ None ↦ [] | Some u ↦ line_up_to p m u ])) ≡ true)
      (sym (ap (λ (o : Option Class). o >>= λ (class : Class). class.superclass) (there k up name row) ∙ row.above)) (or_right (is_named p throwable_name (numbered k)) e)
    where
      or_right : (a : Bool) {b : Bool} → b ≡ true → (a || b) ≡ true
      or_right true e = refl
      or_right false e = e

  of_exception : (m : ℕ) → Thrown (suc (suc m)) 8
  of_exception m = step 8 7 _ (exception p.form n methods) (suc m) (first m)

  of_runtime : (m : ℕ) → Thrown (suc (suc (suc m))) 9
  of_runtime m = step 9 8 _ (runtime p.form n methods) (suc (suc m)) (of_exception m)

  pub many : (m : ℕ) × (length p.classes ≡ suc (suc (suc (suc (suc m)))))
  many =
      let f = five p.form n methods in
      let e = ap length keeps.built_in.classes ∙ (length-append keeps.built_in.own_classes built ∙ ap (λ (k : ℕ). n + k) f.1) in
      (n + f.0, e ∙ omega arith)

  in_all : (k : ℕ) → ((m : ℕ) → Thrown (suc (suc (suc (suc (suc m))))) k) → is_throwable p (numbered k) ≡ true
  in_all k each = ap (λ (fuel : ℕ). list_any (is_named p throwable_name) (line_up_to p fuel (numbered k))) many.1 ∙ each many.0

  -- ---- what is raised

  abbrev Raisable : ClassId → Type 0
  Raisable c = (is_throwable p c ≡ true) × (has_objects p c ≡ true)

  below_runtime : (k : ℕ) (name : List ℕ) → IsRow built n k 9 name → is_throwable p (numbered k) ≡ true
  below_runtime k name row = in_all k (λ m. step k 9 name row (suc (suc (suc (suc m)))) (of_runtime (suc m)))

  below_index : (k : ℕ) (name : List ℕ) → IsRow built n k 15 name → is_throwable p (numbered k) ≡ true
  below_index k name row = in_all k (λ m. step k 15 name row (suc (suc (suc (suc m)))) (step 15 9 _ (index_past p.form n methods) (suc (suc (suc m))) (of_runtime m)))

  -- each class of exceptions that is built in
  pub all_thrown : AllByRecursion (λ (k : ℕ). is_throwable p (numbered k) ≡ true) (7 ∷ exception_numbers)
  all_thrown = (
    in_all 7 (λ m. first (suc (suc (suc (suc m))))),
    (
      in_all 8 (λ m. of_exception (suc (suc (suc m)))),
      (
        in_all 9 (λ m. of_runtime (suc (suc m))),
        (
          below_runtime 10 _ (arithmetic p.form n methods),
          (
            below_runtime 11 _ (null_pointer p.form n methods),
            (
              below_runtime 12 _ (negative_size p.form n methods),
              (
                below_runtime 13 _ (class_cast p.form n methods),
                (
                  below_runtime 14 _ (array_store p.form n methods),
                  (
                    below_runtime 15 _ (index_past p.form n methods),
                    (
                      below_index 16 _ (array_past p.form n methods),
                      (below_index 17 _ (text_past p.form n methods), tt),
                    ),
                  ),
                ),
              ),
            ),
          ),
        ),
      ),
    ),
  )

  -- directly below `java/lang/RuntimeException`
  below : (k : ℕ) (name : List ℕ) → IsRow built n k 9 name → bytes_eq [] name ≡ false → (c : ClassId) → class_named p name ≡ Some c → Raisable c
  below k name row some c e = subst Raisable (sym (found k 9 name row some c e)) (below_runtime k name row, objects k 9 name row)

  -- directly below `java/lang/IndexOutOfBoundsException`
  past : (k : ℕ) (name : List ℕ) → IsRow built n k 15 name → bytes_eq [] name ≡ false → (c : ClassId) → class_named p name ≡ Some c → Raisable c
  past k name row some c e = subst Raisable (sym (found k 15 name row some c e)) (below_index k name row, objects k 15 name row)

  index : (name : List ℕ) → IsIndexName name → (c : ClassId) → class_named p name ≡ Some c → Raisable c
  index name (inl is) c e = past 16 array_index (array_past p.form n methods) refl c (ap (class_named p) (sym is) ∙ e)
  index name (inr (inl is)) c e = past 17 text_index (text_past p.form n methods) refl c (ap (class_named p) (sym is) ∙ e)
  index name (inr (inr is)) c e = below 15 other_index (index_past p.form n methods) refl c (ap (class_named p) (sym is) ∙ e)

  pub raised : (name : List ℕ) → IsIndexName name → (why : EndCause) (c : ClassId) → raised_class p name why ≡ Some c → (is_throwable p c ≡ true) × (has_objects p c ≡ true)
  raised name is cause.Null c e = below 11 _ (null_pointer p.form n methods) refl c e
  raised name is cause.Index c e = index name is c e
  raised name is cause.Size c e = below 12 _ (negative_size p.form n methods) refl c e
  raised name is cause.Cast c e = below 13 _ (class_cast p.form n methods) refl c e
  raised name is cause.Store c e = below 14 _ (array_store p.form n methods) refl c e
  raised name is cause.Zero c e = below 10 _ (arithmetic p.form n methods) refl c e
  raised name is why c e = absurd (cc)

  -- the class of that name is the built-in one
  pub throwable_is : (c : ClassId) → class_named p throwable_name ≡ Some c → c ≡ numbered 7
  throwable_is c e = found 7 0 throwable_name (throwable_row p.form n methods) refl c e
