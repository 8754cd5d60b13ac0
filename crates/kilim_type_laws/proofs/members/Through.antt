-- Lines of superclasses are never cut short, so which type fits which is transitive.
use Rattle.std.proofs.Common.{◌≡◌, ℕ, zero, suc, ◌+◌, ◌<◌, ◌≤◌, Bool, true, false, true≢false, eqb, List, [], ◌∷◌, length, map, Option, Some, None, refl, sym, ap, subst, ◌∙◌, arith}
use Rattle.std.specs.Prelude.{◌&&◌, ◌||◌, not, slice_get, codes}
use Rattle.std.specs.List.{list_all, list_any, AllByRecursion, IsDistinct}
use Rattle.std.specs.Str.{bytes_eq}
use Rattle.std.proofs.lemmas.Bool.{and_parts, and_from, eqb-true, eq-eqb, false_from_ne_true, ltb-true, not-true, or_left, or_right}
use Rattle.std.proofs.lemmas.List.{length-map}
use Rattle.std.proofs.lemmas.Map.Steps.{length-le_from_distinct_below}
use Rattle.kilim_program.specs.declared.class.Class.{Class}
use Rattle.kilim_program.specs.declared.class.Form.TheVariants.{Plain, Woven}
use Rattle.kilim_program.specs.declared.class.Form.{Form}
use Rattle.kilim_program.specs.declared.names.ClassId.{ClassId}
use Rattle.kilim_program.specs.declared.ty.Base.{Base}
use Rattle.kilim_program.specs.declared.ty.Base.TheVariants as base
use Rattle.kilim_program.specs.declared.ty.Ty.{Ty}
use Rattle.kilim_program.specs.Program.{Program}
use Rattle.kilim_program.specs.BuiltIn.{built_in_classes_in, class_id, class_type}
use Rattle.kilim_program.specs.Fits.{base_assignable, class_assignable, fits_type, is_named, is_object_base, type_assignable}
use Rattle.kilim_program.specs.Kinds.{is_marked, is_message}
use Rattle.kilim_program.specs.Names.{◌>>=◌, class_at, class_name, line_of, line_up_to}
use Rattle.kilim_program.specs.Keeps.{Keeps, ancestors_of, class_ids_there, each_class_from, has_superclass, ids_are_places, line_above, none_is_its_ancestor, superclass_of}
use Rattle.kilim_lemmas.proofs.Lists.{get_right}
use Rattle.kilim_type_laws.proofs.members.FromKeeps.{all_at}
use Rattle.kilim_type_laws.proofs.members.ValueClasses.{type_is}

-- ---- going up

abbrev pub up : Program → ClassId → Option ClassId
up p a = class_at p a >>= λ (class : Class). class.superclass

abbrev line_from : Program → ℕ → Option ClassId → List ClassId
line_from p n o = elim o [ None ↦ [] | Some u ↦ line_up_to p n u ]

-- with more fuel no fewer
any_more : (p : Program) (test : ClassId → Bool) (m n : ℕ) (a : ClassId) → m ≤ n → list_any test (line_up_to p m a) ≡ true → list_any test (line_up_to p n a) ≡ true
any_more p test zero n a less e = absurd (cc)
any_more p test (suc m) zero a less e = absurd (omega (arith, less))
any_more p test (suc m) (suc n) a less e = by (test a) (up p a) e (λ u later. any_more p test m n u (omega (arith, less)) later)
  where
    by : (z : Bool) (o : Option ClassId) → (z || list_any test (line_from p m o)) ≡ true → ((u : ClassId) → list_any test (line_up_to p m u) ≡ true → list_any test (line_up_to p n u) ≡ true) → (z || list_any test (line_from p n o)) ≡ true
    by true o e again = refl
    by false None e again = e
    by false (Some u) e again = again u e

pub each_at : (test : ClassId → Class → Bool) (n : ℕ) (cs : List Class) (k : ℕ) (c : Class) → each_class_from test n cs ≡ true → slice_get cs k ≡ Some c → test (class_id (n + k)) c ≡ true
each_at test n [] k c all at = absurd (cc)
each_at test n (x ∷ cs) zero c all at =
    let s : x ≡ c = cc in let number : n ≡ n + 0 = omega arith in
    subst (λ (m : ℕ). test (class_id m) c ≡ true) number (subst (λ (y : Class). test (class_id n) y ≡ true) s (and_parts (test (class_id n) x) (each_class_from test (suc n) cs) all).0)
each_at test n (x ∷ cs) (suc k) c all at =
    let number : suc n + k ≡ n + suc k = omega arith in
    subst (λ (m : ℕ). test (class_id m) c ≡ true) number (each_at test (suc n) cs k c (and_parts (test (class_id n) x) (each_class_from test (suc n) cs) all).1 at)

none_same : (k : ℕ) (ds : List ClassId) → list_any (λ (d : ClassId). eqb d.0 k) ds ≡ false → AllByRecursion (λ (y : ℕ). eqb k y ≡ false) (map (λ (d : ClassId). d.0) ds)
none_same k [] e = tt
none_same k (d ∷ ds) e = by (eqb d.0 k) (eqb k d.0) refl refl e (λ rest. none_same k ds rest)
  where
    by : (a b : Bool) → eqb d.0 k ≡ a → eqb k d.0 ≡ b → (a || list_any (λ (d : ClassId). eqb d.0 k) ds) ≡ false → (list_any (λ (d : ClassId). eqb d.0 k) ds ≡ false → AllByRecursion (λ (y : ℕ). eqb k y ≡ false) (map (λ (d : ClassId). d.0) ds)) → (b ≡ false) × AllByRecursion (λ (y : ℕ). eqb k y ≡ false) (map (λ (d : ClassId). d.0) ds)
    by true b f g e again = absurd (cc)
    by false true f g e again = absurd (let s = eqb-true k d.0 g in let t = eq-eqb d.0 k (sym s) in cc)
    by false false f g e again = (refl, again e)

get_within : {A : Type 0} (xs : List A) (k : ℕ) (x : A) → slice_get xs k ≡ Some x → k < length xs
get_within [] k x e = absurd (cc)
get_within (y ∷ xs) zero x e = omega arith
get_within (y ∷ xs) (suc k) x e = let l = get_within xs k x e in omega (arith, l)

module _ (p : Program) (keeps : Keeps p) where
  abbrev pub count : ℕ
  count = length p.classes

  abbrev pub ids : ℕ → ClassId → List ℕ
  ids n a = map (λ (d : ClassId). d.0) (line_up_to p n a)

  -- superclasses are there
  pub up_there : (a u : ClassId) → up p a ≡ Some u → u.0 < count
  unfolding ids_are_places
  up_there a u e = by (class_at p a) refl e
    where
      by : (o : Option Class) → class_at p a ≡ o → (o >>= λ (class : Class). class.superclass) ≡ Some u → u.0 < count
      by None there e = absurd (cc)
      by (Some c) there e =
          let all = (and_parts (list_all (class_ids_there p) p.classes) _ keeps.ids).0 in
          let here = (and_parts (has_superclass p c.superclass) _ (all_at (class_ids_there p) p.classes a.0 c all there)).0 in
          ltb-true u.0 count (subst (λ (o : Option ClassId). has_superclass p o ≡ true) e here)

  -- no class is above itself
  not_above : (a u : ClassId) (m : ℕ) → up p a ≡ Some u → m ≤ count → list_any (λ (d : ClassId). eqb d.0 a.0) (line_up_to p m u) ≡ false
  unfolding none_is_its_ancestor
  not_above a u m e less = by (class_at p a) refl e
    where
      by : (o : Option Class) → class_at p a ≡ o → (o >>= λ (class : Class). class.superclass) ≡ Some u → list_any (λ (d : ClassId). eqb d.0 a.0) (line_up_to p m u) ≡ false
      by None there e = absurd (cc)
      by (Some c) there e =
          let one = each_at (λ (k : ClassId) (class : Class). not (list_any (λ (d : ClassId). eqb d.0 k.0) (ancestors_of p k))) 0 p.classes a.0 c keeps.ancestors there in
          let number : 0 + a.0 ≡ a.0 = omega arith in
          let at_a = subst (λ (k : ℕ). not (list_any (λ (d : ClassId). eqb d.0 k) (ancestors_of p (class_id k))) ≡ true) number one in
          let none = not-true _ at_a in
          let is : superclass_of (class_at p a) ≡ Some u = ap superclass_of there ∙ e in
          let whole : list_any (λ (d : ClassId). eqb d.0 a.0) (line_up_to p count u) ≡ false = subst (λ (o : Option ClassId). list_any (λ (d : ClassId). eqb d.0 a.0) (line_above p o) ≡ false) is none in
          false_from_ne_true _ (λ yes. let more = any_more p (λ (d : ClassId). eqb d.0 a.0) m count u less yes in absurd (cc))

  pub distinct : (n : ℕ) (a : ClassId) → n ≤ suc count → IsDistinct eqb (ids n a)
  unfolding IsDistinct
  distinct zero a less = tt
  distinct (suc n) a less = by (up p a) refl (λ u. distinct n u (omega (arith, less)))
    where
      by : (o : Option ClassId) → up p a ≡ o → ((u : ClassId) → IsDistinct eqb (ids n u)) → IsDistinct eqb (a.0 ∷ map (λ (d : ClassId). d.0) (line_from p n o))
      by None e again = (tt, tt)
      by (Some u) e again = (none_same a.0 (line_up_to p n u) (not_above a u n e (omega (arith, less))), again u)

  below : (n : ℕ) (a : ClassId) → a.0 < count → (q : ℕ) → list_any (eqb q) (ids n a) ≡ true → q < count
  below zero a there q e = absurd (cc)
  below (suc n) a there q e = by (eqb q a.0) (up p a) refl refl e (λ u less later. below n u less q later)
    where
      by : (z : Bool) (o : Option ClassId) → eqb q a.0 ≡ z → up p a ≡ o → (z || list_any (eqb q) (map (λ (d : ClassId). d.0) (line_from p n o))) ≡ true → ((u : ClassId) → u.0 < count → list_any (eqb q) (ids n u) ≡ true → q < count) → q < count
      by true o is f e again = subst (λ (k : ℕ). k < count) (sym (eqb-true q a.0 is)) there
      by false None is f e again = absurd (cc)
      by false (Some u) is f e again = again u (up_there a u f) e

  few : (a : ClassId) → a.0 < count → length (line_up_to p (suc count) a) ≤ count
  few a there =
      let l = length-le_from_distinct_below (ids (suc count) a) count (distinct (suc count) a (omega arith)) (below (suc count) a there) in
      let m = length-map (line_up_to p (suc count) a) (λ (d : ClassId). d.0) in
      omega (arith, l, m)

  -- a line that is shorter than its fuel is whole
  whole : (m : ℕ) (a : ClassId) → length (line_up_to p (suc m) a) ≤ m → line_up_to p (suc m) a ≡ line_up_to p m a
  whole zero a short = absurd (omega (arith, short))
  whole (suc m) a short = by (up p a) refl short (λ u less. whole m u less)
    where
      by : (o : Option ClassId) → up p a ≡ o → length (a ∷ line_from p (suc m) o) ≤ suc m → ((u : ClassId) → length (line_up_to p (suc m) u) ≤ m → line_up_to p (suc m) u ≡ line_up_to p m u) → a ∷ line_from p (suc m) o ≡ a ∷ line_from p m o
      by None e short again = refl
      by (Some u) e short again = ap (λ (ds : List ClassId). a ∷ ds) (again u (omega (arith, short)))

  pub never_cut : (a : ClassId) → a.0 < count → line_up_to p (suc count) a ≡ line_of p a
  never_cut a there = whole count a (few a there)

  -- what holds above a class holds above what is below it
  any_above : (test : ClassId → Bool) (a u : ClassId) → a.0 < count → up p a ≡ Some u → list_any test (line_of p u) ≡ true → list_any test (line_of p a) ≡ true
  any_above test a u there e any =
      subst (λ (ds : List ClassId). list_any test ds ≡ true) (never_cut a there) (by (test a) (subst (λ (o : Option ClassId). list_any test (line_from p count o) ≡ true) (sym e) any))
    where
      by : (z : Bool) → list_any test (line_from p count (up p a)) ≡ true → (z || list_any test (line_from p count (up p a))) ≡ true
      by true e = refl
      by false e = e

  within : (a u : ClassId) → up p a ≡ Some u → a.0 < count
  within a u e = by (class_at p a) refl e
    where
      by : (o : Option Class) → class_at p a ≡ o → (o >>= λ (class : Class). class.superclass) ≡ Some u → a.0 < count
      by None there e = absurd (cc)
      by (Some c) there e = get_within p.classes a.0 c there

  pub any_through : (test : ClassId → Bool) (n : ℕ) (a b : ClassId) → list_any (λ (c : ClassId). eqb c.0 b.0) (line_up_to p n a) ≡ true → list_any test (line_of p b) ≡ true → list_any test (line_of p a) ≡ true
  any_through test zero a b e any = absurd (cc)
  any_through test (suc n) a b e any = by (eqb a.0 b.0) (up p a) refl refl e (λ u later. any_through test n u b later any)
    where
      by : (z : Bool) (o : Option ClassId) → eqb a.0 b.0 ≡ z → up p a ≡ o → (z || list_any (λ (c : ClassId). eqb c.0 b.0) (line_from p n o)) ≡ true → ((u : ClassId) → list_any (λ (c : ClassId). eqb c.0 b.0) (line_up_to p n u) ≡ true → list_any test (line_of p u) ≡ true) → list_any test (line_of p a) ≡ true
      by true o is f e again = subst (λ (k : ℕ). list_any test (line_of p (class_id k)) ≡ true) (sym (eqb-true a.0 b.0 is)) any
      by false None is f e again = absurd (cc)
      by false (Some u) is f e again = any_above test a u (within a u f) f (again u e)

-- ---- the classes `java/lang/Object` and `kilim/Message`

pub record Top (form : Form) (first method k : ℕ) (up : Option ClassId) (name : List ℕ) : Type 0 where
  pub class : Class
  pub at : slice_get (built_in_classes_in form first method) k ≡ Some class
  pub is : class.name ≡ name
  pub superclass : class.superclass ≡ up
  pub fields : class.fields ≡ []

pub object_top : (form : Form) (first method : ℕ) → Top form first method 0 None (codes "java/lang/Object")
object_top Plain first method = record { class = _; at = refl; is = refl; superclass = refl; fields = refl }
object_top Woven first method = record { class = _; at = refl; is = refl; superclass = refl; fields = refl }

object_unmarked : (form : Form) (first method : ℕ) → is_marked (slice_get (built_in_classes_in form first method) 0) ≡ false
object_unmarked Plain first method = refl
object_unmarked Woven first method = refl

pub message_top : (form : Form) (first method : ℕ) → Top form first method 2 (Some (class_id first)) (codes "kilim/Message")
message_top Plain first method = record { class = _; at = refl; is = refl; superclass = refl; fields = refl }
message_top Woven first method = record { class = _; at = refl; is = refl; superclass = refl; fields = refl }

abbrev number_of : Base → ℕ
number_of (base.Class c) = c.0
number_of b = 0

pub cases : {P : Type 0} (l o m k : Bool) → (l || (o || (m && k))) ≡ true → (l ≡ true → P) → (o ≡ true → P) → (m ≡ true → k ≡ true → P) → P
cases true o m k e in_line is_object is_message = in_line refl
cases false true m k e in_line is_object is_message = is_object refl
cases false false true true e in_line is_object is_message = is_message refl refl
cases false false true false e in_line is_object is_message = absurd (cc)
cases false false false k e in_line is_object is_message = absurd (cc)

module _ (p : Program) (keeps : Keeps p) where
  abbrev first : ℕ
  first = length keeps.built_in.own_classes

  abbrev methods : ℕ
  methods = length keeps.built_in.own_methods

  built_at : (k : ℕ) (class : Class) → slice_get (built_in_classes_in p.form first methods) k ≡ Some class → class_at p (class_id (first + k)) ≡ Some class
  built_at k class at = ap (λ (cs : List Class). slice_get cs (first + k)) keeps.built_in.classes ∙ (get_right keeps.built_in.own_classes (built_in_classes_in p.form first methods) (first + k) k refl ∙ at)

  same_class : (name : List ℕ) → bytes_eq [] name ≡ false → (a b : ClassId) → bytes_eq (class_name p a) name ≡ true → bytes_eq (class_name p b) name ≡ true → a.0 ≡ b.0
  same_class name some a b e f =
      let x = type_is p keeps name a some e in
      let y = type_is p keeps name b some f in
      let s : Some (class_type a.0) ≡ Some (class_type b.0) = sym x ∙ y in
      let t : class_type a.0 ≡ class_type b.0 = cc in
      ap (λ (ty : Ty). number_of ty.base) t

  -- a class of the name of a built-in one is that one
  named_is : (k : ℕ) (o : Option ClassId) (name : List ℕ) → bytes_eq [] name ≡ false → bytes_eq name name ≡ true → (t : Top p.form first methods k o name) → (b : ClassId) → bytes_eq (class_name p b) name ≡ true → class_at p b ≡ Some t.class
  named_is k o name some itself t b e =
      let there = built_at k t.class t.at in
      let named : bytes_eq (class_name p (class_id (first + k))) name ≡ true = ap (λ (c : Option Class). bytes_eq (elim c [ None ↦ [] | Some class ↦ class.name ]) name) there ∙ (ap (λ (n : List ℕ). bytes_eq n name) t.is ∙ itself) in
      ap (λ (n : ℕ). class_at p (class_id n)) (same_class name some b (class_id (first + k)) e named) ∙ there

  pub object_at : (b : ClassId) → is_named p (codes "java/lang/Object") b ≡ true → class_at p b ≡ Some (object_top p.form first methods).class
  object_at b e = named_is 0 None (codes "java/lang/Object") refl refl (object_top p.form first methods) b e

  object_up : (b : ClassId) → is_named p (codes "java/lang/Object") b ≡ true → up p b ≡ None
  object_up b e = ap (λ (c : Option Class). c >>= λ (class : Class). class.superclass) (object_at b e) ∙ (object_top p.form first methods).superclass

  object_no_message : (b : ClassId) → is_named p (codes "java/lang/Object") b ≡ true → is_message p b ≡ false
  object_no_message b e = ap is_marked (object_at b e ∙ sym (object_top p.form first methods).at) ∙ object_unmarked p.form first methods

  message_up : (b : ClassId) → is_named p (codes "kilim/Message") b ≡ true → up p b ≡ Some (class_id first)
  message_up b e =
      ap (λ (c : Option Class). c >>= λ (class : Class). class.superclass) (named_is 2 (Some (class_id first)) (codes "kilim/Message") refl refl (message_top p.form first methods) b e)
      ∙ (message_top p.form first methods).superclass

  first_is_object : is_named p (codes "java/lang/Object") (class_id first) ≡ true
  first_is_object =
      let there = built_at 0 (object_top p.form first methods).class (object_top p.form first methods).at in
      let number : first + 0 ≡ first = omega arith in
      ap (λ (n : ℕ). is_named p (codes "java/lang/Object") (class_id n)) (sym number)
      ∙ (ap (λ (c : Option Class). bytes_eq (elim c [ None ↦ [] | Some class ↦ class.name ]) (codes "java/lang/Object")) there ∙ ap (λ (n : List ℕ). bytes_eq n (codes "java/lang/Object")) (object_top p.form first methods).is)

  pub message_at : (b : ClassId) → is_named p (codes "kilim/Message") b ≡ true → class_at p b ≡ Some (message_top p.form first methods).class
  message_at b e = named_is 2 (Some (class_id first)) (codes "kilim/Message") refl refl (message_top p.form first methods) b e

  -- ---- lines of one class and of two

  of_one : (test : ClassId → Bool) (n : ℕ) (b : ClassId) → up p b ≡ None → list_any test (line_up_to p n b) ≡ true → test b ≡ true
  of_one test zero b e any = absurd (cc)
  of_one test (suc n) b e any = by (test b) (subst (λ (o : Option ClassId). (test b || list_any test (line_from p n o)) ≡ true) e any)
    where
      by : (z : Bool) → (z || false) ≡ true → z ≡ true
      by true e = refl
      by false e = e

  of_two : (P : Type 0) (test : ClassId → Bool) (n : ℕ) (b u : ClassId) → up p b ≡ Some u → up p u ≡ None → list_any test (line_up_to p n b) ≡ true → (test b ≡ true → P) → (test u ≡ true → P) → P
  of_two P test zero b u e f any here above = absurd (cc)
  of_two P test (suc n) b u e f any here above = by (test b) refl (subst (λ (o : Option ClassId). (test b || list_any test (line_from p n o)) ≡ true) e any)
    where
      by : (z : Bool) → test b ≡ z → (z || list_any test (line_up_to p n u)) ≡ true → P
      by true is any = here is
      by false is any = above (of_one test n u f any)

  -- ---- through a class between

  class_through : (a b c : ClassId) → class_assignable p a b ≡ true → class_assignable p b c ≡ true → class_assignable p a c ≡ true
  class_through a b c e f =
      cases (list_any (λ (d : ClassId). eqb d.0 b.0) (line_of p a)) (is_named p (codes "java/lang/Object") b) (is_named p (codes "kilim/Message") b) (list_any (is_message p) (line_of p a)) e
      (λ x. second (λ l. in_line (any_through p keeps (λ (d : ClassId). eqb d.0 c.0) (length p.classes) a b x l)) (λ m k. is_message_of m (any_through p keeps (is_message p) (length p.classes) a b x k)))
      (λ o. second (λ l. is_object_of (moved (codes "java/lang/Object") b (of_one (λ (d : ClassId). eqb d.0 c.0) (length p.classes) b (object_up b o) l) o))
      (λ m k. absurd (let yes = of_one (is_message p) (length p.classes) b (object_up b o) k in let none = object_no_message b o in cc)))
      (λ m any. second (λ l. of_two (class_assignable p a c ≡ true) (λ (d : ClassId). eqb d.0 c.0) (length p.classes) b (class_id first) (message_up b m) (object_up (class_id first) first_is_object) l
      (λ here. is_message_of (moved (codes "kilim/Message") b here m) any) (λ above. is_object_of (moved (codes "java/lang/Object") (class_id first) above first_is_object)))
      (λ m2 k. is_message_of m2 any))
    where
      in_line : list_any (λ (d : ClassId). eqb d.0 c.0) (line_of p a) ≡ true → class_assignable p a c ≡ true
      in_line l = or_left _ _ l

      is_object_of : is_named p (codes "java/lang/Object") c ≡ true → class_assignable p a c ≡ true
      is_object_of o = or_right (list_any (λ (d : ClassId). eqb d.0 c.0) (line_of p a)) _ (or_left _ _ o)

      is_message_of : is_named p (codes "kilim/Message") c ≡ true → list_any (is_message p) (line_of p a) ≡ true → class_assignable p a c ≡ true
      is_message_of m k = or_right (list_any (λ (d : ClassId). eqb d.0 c.0) (line_of p a)) _ (or_right (is_named p (codes "java/lang/Object") c) _ (and_from _ _ m k))

      moved : (name : List ℕ) (d : ClassId) → eqb d.0 c.0 ≡ true → is_named p name d ≡ true → is_named p name c ≡ true
      moved name d same is = subst (λ (k : ℕ). is_named p name (class_id k) ≡ true) (eqb-true d.0 c.0 same) is

      second : (list_any (λ (d : ClassId). eqb d.0 c.0) (line_of p b) ≡ true → class_assignable p a c ≡ true) → (is_named p (codes "kilim/Message") c ≡ true → list_any (is_message p) (line_of p b) ≡ true → class_assignable p a c ≡ true) → class_assignable p a c ≡ true
      second x z = cases (list_any (λ (d : ClassId). eqb d.0 c.0) (line_of p b)) (is_named p (codes "java/lang/Object") c) (is_named p (codes "kilim/Message") c) (list_any (is_message p) (line_of p b)) f x is_object_of z

  -- what `java/lang/Object` is assignable to is that class
  above_object : (b c : ClassId) → is_named p (codes "java/lang/Object") b ≡ true → class_assignable p b c ≡ true → is_named p (codes "java/lang/Object") c ≡ true
  above_object b c o f =
      cases (list_any (λ (d : ClassId). eqb d.0 c.0) (line_of p b)) (is_named p (codes "java/lang/Object") c) (is_named p (codes "kilim/Message") c) (list_any (is_message p) (line_of p b)) f
      (λ l. subst (λ (k : ℕ). is_named p (codes "java/lang/Object") (class_id k) ≡ true) (eqb-true b.0 c.0 (of_one (λ (d : ClassId). eqb d.0 c.0) (length p.classes) b (object_up b o) l)) o)
      (λ is. is)
      (λ m k. absurd (let yes = of_one (is_message p) (length p.classes) b (object_up b o) k in let none = object_no_message b o in cc))

  -- ---- bases and types

  base_through : (a b c : Base) → base_assignable p a b ≡ true → base_assignable p b c ≡ true → base_assignable p a c ≡ true
  base_through (base.Class a) (base.Class b) (base.Class c) e f = class_through a b c e f
  base_through (base.Class a) (base.Class b) base.Bool e f = absurd (true≢false (sym f))
  base_through (base.Class a) (base.Class b) base.Byte e f = absurd (true≢false (sym f))
  base_through (base.Class a) (base.Class b) base.Char e f = absurd (true≢false (sym f))
  base_through (base.Class a) (base.Class b) base.Short e f = absurd (true≢false (sym f))
  base_through (base.Class a) (base.Class b) base.Int e f = absurd (true≢false (sym f))
  base_through (base.Class a) (base.Class b) base.Long e f = absurd (true≢false (sym f))
  base_through (base.Class a) base.Bool c e f = absurd (true≢false (sym e))
  base_through (base.Class a) base.Byte c e f = absurd (true≢false (sym e))
  base_through (base.Class a) base.Char c e f = absurd (true≢false (sym e))
  base_through (base.Class a) base.Short c e f = absurd (true≢false (sym e))
  base_through (base.Class a) base.Int c e f = absurd (true≢false (sym e))
  base_through (base.Class a) base.Long c e f = absurd (true≢false (sym e))
  base_through base.Bool base.Bool c e f = f
  base_through base.Byte base.Byte c e f = f
  base_through base.Char base.Char c e f = f
  base_through base.Short base.Short c e f = f
  base_through base.Int base.Int c e f = f
  base_through base.Long base.Long c e f = f
  base_through a b c e f = absurd (true≢false (sym e))

  object_base_through : (b c : Base) → is_object_base p b ≡ true → base_assignable p b c ≡ true → is_object_base p c ≡ true
  object_base_through (base.Class b) (base.Class c) o f = above_object b c o f
  object_base_through (base.Class b) base.Bool o f = absurd (true≢false (sym f))
  object_base_through (base.Class b) base.Byte o f = absurd (true≢false (sym f))
  object_base_through (base.Class b) base.Char o f = absurd (true≢false (sym f))
  object_base_through (base.Class b) base.Short o f = absurd (true≢false (sym f))
  object_base_through (base.Class b) base.Int o f = absurd (true≢false (sym f))
  object_base_through (base.Class b) base.Long o f = absurd (true≢false (sym f))
  object_base_through b c o f = absurd (true≢false (sym o))

  type_through : (m n k : ℕ) (a b c : Base) → type_assignable p m a n b ≡ true → type_assignable p n b k c ≡ true → type_assignable p m a k c ≡ true
  type_through zero zero zero a b c e f = base_through a b c e f
  type_through zero zero (suc k) a b c e f = absurd (cc)
  type_through zero (suc n) k a b c e f = absurd (cc)
  type_through (suc m) zero zero a b c e f = object_base_through b c e f
  type_through (suc m) zero (suc k) a b c e f = absurd (cc)
  type_through (suc m) (suc n) zero a b c e f = f
  type_through (suc m) (suc n) (suc k) a b c e f = type_through m n k a b c e f

  pub through : (a b c : Ty) → fits_type p a b ≡ true → fits_type p b c ≡ true → fits_type p a c ≡ true
  unfolding fits_type
  through a b c e f = type_through a.dims b.dims c.dims a.base b.base c.base e f
