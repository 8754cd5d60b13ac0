-- All of it.
use Rattle.std.proofs.Common.{◌≡◌, ◌⊎◌, inl, inr, ℕ, zero, suc, ◌+◌, ◌-◌, ◌<◌, ◌≤◌, Bool, true, false, cond, eqb, not, List, [], ◌∷◌, ◌++◌, length, Option, Some, None, refl, sym, ap, subst, ◌∙◌, arith, length-append, eq-eqb, leb-true, ltb-true}
use Rattle.std.specs.Prelude.{◌&&◌, ◌||◌, nat_le, slice_get, codes}
use Rattle.std.specs.List.{list_all, list_any, flat_map}
use Rattle.std.specs.Str.{bytes_eq}
use Rattle.std.proofs.lemmas.Bool.{and_parts, and_from, not-true, or_from, or_left, or_parts, or_right}
use Rattle.std.proofs.lemmas.Option.{slice_get_within}
use Rattle.kilim_program.specs.declared.class.Class.{Class}
use Rattle.kilim_program.specs.declared.class.Form.{Form}
use Rattle.kilim_program.specs.declared.class.Form.TheVariants.{Plain, Woven}
use Rattle.kilim_program.specs.declared.class.Method.{Method}
use Rattle.kilim_program.specs.declared.names.ClassId.{ClassId}
use Rattle.kilim_program.specs.declared.names.MethodId.{MethodId}
use Rattle.kilim_program.specs.BuiltIn.{built_in_classes_in, built_in_methods_in, class_id, fiber_methods, method_id, methods_from}
use Rattle.kilim_program.specs.Keeps.{Keeps, agrees_with, ancestors_of, each_class_from, has_method, is_left_abstract, is_same_id, line_above, method_is_sound, none_is_left_abstract, overriding_agrees, superclass_of}
use Rattle.kilim_program.specs.Names.{◌>>=◌, class_at, first_that, line_of, line_up_to, method_at, methods_of}
use Rattle.kilim_program.specs.Program.{Program}
use Rattle.kilim_program.specs.Same.{answers, argument_slots, is_constructor, same_flag, same_signature, selected}
use Rattle.kilim_lemmas.proofs.Lists.{get_last, get_right, get_some}
use Rattle.kilim_weave_spec.specs.Form.{AllWoven, IsWoven, WovenForm, first_class, first_method}
use Rattle.kilim_type_laws.proofs.members.ClassMethods.{IsAmong, names_owner}
use Rattle.kilim_type_laws.proofs.members.Finding.{finds_chosen}
use Rattle.kilim_type_laws.proofs.members.FromKeeps.{all_at}
use Rattle.kilim_type_laws.proofs.members.SameNames.{named_alike}
use Rattle.kilim_type_laws.proofs.members.Through.{up, up_there}
use Rattle.kilim_weave_laws.proofs.woven_programs.ClassLists.{one_more}
use Rattle.kilim_weave_laws.proofs.woven_programs.Methods.{IsFound, Like, like, members_behind, woven_at}
use Rattle.kilim_weave_laws.proofs.woven_programs.Naming.{owner_there, params_there}
use Rattle.kilim_weave_laws.proofs.woven_programs.Selecting.{answers_back, answers_forth, methods_there, selected_kept}
use Rattle.kilim_weave_laws.proofs.woven_programs.Theorem.{fiber_parts, first_is, grown, how_many}
use Rattle.kilim_weave_laws.proofs.woven_programs.classes.BuiltIns.{first_methods}
use Rattle.kilim_weave_laws.proofs.woven_programs.classes.Differing.{AllOwned, fiber_owned}
use Rattle.kilim_weave_laws.proofs.woven_programs.classes.Listing.{all_joined, all_kept, each_joined, each_kept}
use Rattle.kilim_weave_laws.proofs.woven_programs.kinds.Lines.{IsIn, ancestors_same, class_same, line_same, whole_same}
use Rattle.kilim_weave_laws.specs.woven_programs.selects.Law.{WovenSelectsKeep}
use Rattle.kilim_weave_laws.proofs.woven_programs.selects.Agreeing.{Kept, agreement, kept, other_name}

-- ---- lists

all_among : {A : Type 0} (t f g : A → Bool) → ((x : A) → t x ≡ true → f x ≡ true → g x ≡ true) → (xs : List A) → list_all t xs ≡ true → list_all f xs ≡ true → list_all g xs ≡ true
all_among t f g k [] a h = refl
all_among t f g k (x ∷ xs) a h = let p = and_parts (t x) _ a in let q = and_parts (f x) _ h in and_from (g x) _ (k x p.0 q.0) (all_among t f g k xs p.1 q.1)

none_among : {A : Type 0} (f g : A → Bool) (xs : List A) → ((x : A) → IsAmong x xs → g x ≡ true → f x ≡ true) → list_any f xs ≡ false → list_any g xs ≡ false
none_among f g [] k n = refl
none_among f g (x ∷ xs) k n =
    let p = or_parts (f x) (list_any f xs) n in
    or_from (g x) _ (by (g x) refl p.0) (none_among f g xs (λ y i e. k y (inr i) e) p.1)
  where
    by : (b : Bool) → g x ≡ b → f x ≡ false → b ≡ false
    by true e h = let y = k x (inl refl) e in let z : true ≡ false = sym y ∙ h in z
    by false e h = refl

first_alike : {A : Type 0} (f g : A → Bool) (xs : List A) → ((x : A) → IsAmong x xs → f x ≡ g x) → first_that f xs ≡ first_that g xs
first_alike f g [] same = refl
first_alike f g (x ∷ xs) same =
    ap (λ (b : Bool). cond b (Some x) (first_that f xs)) (same x (inl refl)) ∙ ap (λ o. cond (g x) (Some x) o) (first_alike f g xs (λ y i. same y (inr i)))

among_split : {A : Type 0} (x : A) (xs ys : List A) → IsAmong x (xs ++ ys) → IsAmong x xs ⊎ IsAmong x ys
among_split x [] ys i = inr i
among_split x (y ∷ xs) ys (inl e) = inl (inl e)
among_split x (y ∷ xs) ys (inr i) = elim (among_split x xs ys i) [ inl l ↦ inl (inr l) | inr r ↦ inr r ]

all_of_among : {A : Type 0} (t : A → Bool) (xs : List A) (x : A) → list_all t xs ≡ true → IsAmong x xs → t x ≡ true
all_of_among t [] x a i = absurd i
all_of_among t (y ∷ xs) x a (inl e) = ap t e ∙ (and_parts (t y) _ a).0
all_of_among t (y ∷ xs) x a (inr i) = all_of_among t xs x (and_parts (t y) _ a).1 i

same_both : (x y : Bool) → (x ≡ true → y ≡ true) → (y ≡ true → x ≡ true) → x ≡ y
same_both true y f g = sym (f refl)
same_both false true f g = g refl
same_both false false f g = refl

or_kept : (a b d : Bool) → (b ≡ true → d ≡ true) → (a || b) ≡ true → (a || d) ≡ true
or_kept true b d k h = refl
or_kept false b d k h = k h

not_kept : (x y : Bool) → (x ≡ false → y ≡ false) → not x ≡ true → not y ≡ true
not_kept true y k h = absurd (cc)
not_kept false y k h = ap not (k refl)

plain_if : (x y : Bool) → not (x && y) ≡ true → x ≡ true → y ≡ false
plain_if true true h e = absurd (cc)
plain_if true false h e = refl
plain_if false y h e = absurd (cc)

abbrev open_body : Method → Bool
open_body m = not (m.is_abstract && m.is_private)

open_by : (x y z : Bool) → not (x && (y || z)) ≡ true → not (x && y) ≡ true
open_by true true z h = absurd (cc)
open_by true false z h = refl
open_by false y z h = refl

built_open : (form : Form) (n : ℕ) → list_all open_body (built_in_methods_in form n) ≡ true
built_open Plain n = refl
built_open Woven n = refl

fiber_concrete : (n : ℕ) → list_all (λ m. not m.is_abstract) (fiber_methods Woven n) ≡ true
fiber_concrete n = refl

fiber_plain : (n : ℕ) → list_all (λ m. not (bytes_eq m.name (codes "<init>"))) (fiber_methods Woven n) ≡ true
fiber_plain n = refl

object_in : (form : Form) (a b : ℕ) → (c : Class) × (slice_get (built_in_classes_in form a b) 0 ≡ Some c) × (c.superclass ≡ None) × (c.methods ≡ method_id (b + 0) ∷ [])
object_in Plain a b = (_, refl, refl, refl)
object_in Woven a b = (_, refl, refl, refl)

first_in : (form : Form) (n : ℕ) → (m : Method) × (slice_get (built_in_methods_in form n) 0 ≡ Some m) × (m.name ≡ codes "<init>") × (m.is_abstract ≡ false)
first_in Plain n = (_, refl, refl, refl)
first_in Woven n = (_, refl, refl, refl)

module _ (P W : Program) (counted : List (List Bool)) (keeps : Keeps P) (plainly : P.form ≡ Plain) (form : WovenForm P W counted) where
  abbrev fiber : Class
  fiber = fiber_parts P W counted keeps plainly form

  abbrev more : W.classes ≡ P.classes ++ fiber ∷ []
  more = grown P W counted keeps plainly form

  abbrev last : ClassId
  last = class_id (0 + length P.classes)

  abbrev object : ClassId
  object = class_id (first_class P)

  object_is_in : first_class P < length P.classes
  object_is_in = let e = first_is P W counted keeps plainly form in let n = how_many P W counted keeps plainly form in omega (arith, e, n)

  found : (id : MethodId) (a : Method) → method_at P id ≡ Some a → IsFound P W.methods id.0 a
  found id a at = woven_at P P.methods W.methods counted form.methods id.0 a at

  woven : (id : MethodId) (a : Method) → method_at P id ≡ Some a → (b : Method) × (method_at W id ≡ Some b) × Like P a b
  woven id a at = let f = found id a at in (f.woven, f.there, like P a f.woven f.counted f.is)

  -- ---- the methods of a line

  methods_same : (c : ClassId) → IsIn P W keeps fiber more c → methods_of W c ≡ methods_of P c
  methods_same c less = ap (λ (o : Option Class). elim o [ None ↦ [] | Some class ↦ class.methods ]) (class_same P W keeps fiber more c less)

  line_methods : (n : ℕ) (c : ClassId) → IsIn P W keeps fiber more c → flat_map (methods_of W) (line_up_to P n c) ≡ flat_map (methods_of P) (line_up_to P n c)
  line_methods zero c less = refl
  line_methods (suc n) c less =
      ap (λ (ms : List MethodId). ms ++ flat_map (methods_of W) (elim (up P c) [ None ↦ [] | Some u ↦ line_up_to P n u ])) (methods_same c less)
      ∙ ap (λ (ms : List MethodId). methods_of P c ++ ms) (by (up P c) refl (λ u e. line_methods n u (up_there P keeps c u e)))
    where
      by : (o : Option ClassId) → up P c ≡ o → ((u : ClassId) → up P c ≡ Some u → flat_map (methods_of W) (line_up_to P n u) ≡ flat_map (methods_of P) (line_up_to P n u)) →
          flat_map (methods_of W) (elim o [ None ↦ [] | Some u ↦ line_up_to P n u ]) ≡ flat_map (methods_of P) (elim o [ None ↦ [] | Some u ↦ line_up_to P n u ])
      by None is again = refl
      by (Some u) is again = again u is

  superclass_is : (o : Option Class) (u : ClassId) → superclass_of o ≡ Some u → (o >>= λ (class : Class). class.superclass) ≡ Some u
  superclass_is None u e = absurd (cc)
  superclass_is (Some class) u e = e

  above_methods : (c : ClassId) → flat_map (methods_of W) (ancestors_of P c) ≡ flat_map (methods_of P) (ancestors_of P c)
  above_methods c = by (superclass_of (class_at P c)) (λ u e. up_there P keeps c u (superclass_is (class_at P c) u e))
    where
      by : (o : Option ClassId) → ((u : ClassId) → o ≡ Some u → IsIn P W keeps fiber more u) → flat_map (methods_of W) (line_above P o) ≡ flat_map (methods_of P) (line_above P o)
      by None in_it = refl
      by (Some u) in_it = line_methods (length P.classes) u (in_it u refl)

  -- ---- `java/lang/Object`

  object_there : (c : Class) × (class_at P object ≡ Some c) × (c.superclass ≡ None) × (c.methods ≡ method_id (length keeps.built_in.own_methods + 0) ∷ [])
  object_there =
      let own = length keeps.built_in.own_classes in
      let o = object_in P.form own (length keeps.built_in.own_methods) in
      let e = first_is P W counted keeps plainly form in (
        o.0,
        ap (λ (cs : List Class). slice_get cs (first_class P)) keeps.built_in.classes
            ∙ (get_right keeps.built_in.own_classes (built_in_classes_in P.form own (length keeps.built_in.own_methods)) (first_class P) 0 (omega (arith, e)) ∙ o.1),
        o.2,
        o.3,
      )

  abbrev made : MethodId
  made = method_id (length keeps.built_in.own_methods + 0)

  -- its constructor
  made_there : (m : Method) × (method_at P made ≡ Some m) × (m.name ≡ codes "<init>") × (m.is_abstract ≡ false)
  made_there =
      let f = first_in P.form (length keeps.built_in.own_classes) in (
        f.0,
        ap (λ (ms : List Method). slice_get ms (length keeps.built_in.own_methods + 0)) keeps.built_in.methods
            ∙ (get_right keeps.built_in.own_methods (built_in_methods_in P.form (length keeps.built_in.own_classes)) (length keeps.built_in.own_methods + 0) 0 refl ∙ f.1),
        f.2,
        f.3,
      )

  object_methods : (n : ℕ) → flat_map (methods_of P) (line_up_to P (suc n) object) ≡ made ∷ []
  object_methods n =
      ap (λ (o : Option ClassId). methods_of P object ++ flat_map (methods_of P) (elim o [ None ↦ [] | Some u ↦ line_up_to P n u ])) up_none
      ∙ ap (λ (ms : List MethodId). ms ++ []) (ap (λ (o : Option Class). elim o [ None ↦ [] | Some class ↦ class.methods ]) object_there.1 ∙ object_there.3)
    where
      up_none : up P object ≡ None
      up_none = ap (λ (o : Option Class). o >>= λ (class : Class). class.superclass) object_there.1 ∙ object_there.2

  object_line : flat_map (methods_of W) (line_of W object) ≡ made ∷ []
  object_line =
      let number : length P.classes ≡ suc (length keeps.built_in.own_classes + 17) = (let n = how_many P W counted keeps plainly form in omega (arith, n)) in
      ap (flat_map (methods_of W)) (whole_same P W keeps fiber more object object_is_in)
      ∙ (line_methods (length P.classes) object object_is_in
      ∙ (ap (λ (n : ℕ). flat_map (methods_of P) (line_up_to P n object)) number ∙ object_methods (length keeps.built_in.own_classes + 17)))

  fiber_there : (n : ℕ) → n ≡ length P.classes → class_at W (class_id n) ≡ Some fiber
  fiber_there n is = ap (λ (k : ℕ). slice_get W.classes k) is ∙ (ap (λ (cs : List Class). slice_get cs (length P.classes)) more ∙ get_last P.classes fiber)

  -- ---- overriding

  abbrev fine : Method → Bool
  fine m = list_all (λ o. agrees_with m (method_at W o)) (flat_map (methods_of W) (ancestors_of W m.owner))

  abbrev fine_before : Method → Bool
  fine_before m = list_all (λ o. agrees_with m (method_at P o)) (flat_map (methods_of P) (ancestors_of P m.owner))

  fine_kept : (id : MethodId) (a b : Method) (marks : List Bool) → method_at P id ≡ Some a → IsWoven P a b marks → fine_before a ≡ true → fine b ≡ true
  fine_kept id a b marks at is h =
      let la = like P a b marks is in
      let ka = kept P a b marks is in
      let less = ltb-true a.owner.0 (length P.classes) (owner_there P keeps id a at) in
      ap (λ (c : ClassId). list_all (λ o. agrees_with b (method_at W o)) (flat_map (methods_of W) (ancestors_of W c))) la.owner
      ∙ (ap (λ (cs : List ClassId). list_all (λ o. agrees_with b (method_at W o)) (flat_map (methods_of W) cs)) (ancestors_same P W keeps fiber more a.owner less)
      ∙ (ap (list_all (λ o. agrees_with b (method_at W o))) (above_methods a.owner)
      ∙ all_among (has_method P) (λ o. agrees_with a (method_at P o)) (λ o. agrees_with b (method_at W o)) (λ o there e. one la ka o there e) (flat_map (methods_of P) (ancestors_of P a.owner)) (methods_there P W keeps fiber more woven (ancestors_of P a.owner)) h))
    where
      one : Like P a b → Kept a b → (x : MethodId) → has_method P x ≡ true → agrees_with a (method_at P x) ≡ true → agrees_with b (method_at W x) ≡ true
      one la ka x there e =
          let o = get_some P.methods x.0 (ltb-true x.0 (length P.methods) there) in
          let f = found x o.0 o.1 in
          subst (λ (z : Option Method). agrees_with b z ≡ true) (sym f.there)
          (agreement P a b o.0 f.woven la (like P o.0 f.woven f.counted f.is) ka (kept P o.0 f.woven f.counted f.is) (params_there P keeps id a at) (params_there P keeps x o.0 o.1) (subst (λ (z : Option Method). agrees_with a z ≡ true) o.1 e))

  fiber_fine : list_all fine (fiber_methods Woven (first_class P)) ≡ true
  fiber_fine = each (fiber_methods Woven (first_class P)) (fiber_owned (first_class P)) (fiber_plain (first_class P))
    where
      above : flat_map (methods_of W) (ancestors_of W (class_id (first_class P + 18))) ≡ made ∷ []
      above =
          let number : first_class P + 18 ≡ length P.classes = (let e = first_is P W counted keeps plainly form in let n = how_many P W counted keeps plainly form in omega (arith, e, n)) in
          ap (λ (o : Option Class). flat_map (methods_of W) (line_above W (superclass_of o))) (fiber_there (first_class P + 18) number) ∙ object_line

      each : (ms : List Method) → AllOwned (λ (m : Method). m.owner) (class_id (first_class P + 18)) ms → list_all (λ m. not (bytes_eq m.name (codes "<init>"))) ms ≡ true → list_all fine ms ≡ true
      each [] all named = refl
      each (m ∷ ms) all named =
          let p = and_parts (not (bytes_eq m.name (codes "<init>"))) _ named in
          let w = woven made made_there.0 made_there.1 in
          let name : w.0.name ≡ codes "<init>" = w.2.name ∙ made_there.2 in
          let differs : bytes_eq m.name w.0.name ≡ false = ap (bytes_eq m.name) name ∙ not-true _ p.0 in
          let here : fine m ≡ true =
          ap (λ (c : ClassId). list_all (λ o. agrees_with m (method_at W o)) (flat_map (methods_of W) (ancestors_of W c))) all.0
          ∙ (ap (list_all (λ o. agrees_with m (method_at W o))) above
          ∙ (ap (λ (o : Option Method). agrees_with m o && true) w.1 ∙ and_from (agrees_with m (Some w.0)) true (other_name m w.0 differs) refl)) in
          and_from (fine m) _ here (each ms all.1 p.1)

  all_fine : (ms ws : List Method) (cs : List (List Bool)) (before : ℕ) → AllWoven P ms ws cs → ((k : ℕ) (m : Method) → slice_get ms k ≡ Some m → method_at P (method_id (before + k)) ≡ Some m) → list_all fine_before ms ≡ true → list_all fine ws ≡ true
  all_fine [] ws cs before a there h = ap (list_all fine) a.0 ∙ fiber_fine
  all_fine (m ∷ ms) [] cs before a there h = absurd a
  all_fine (m ∷ ms) (w ∷ ws) [] before a there h = absurd a
  all_fine (m ∷ ms) (w ∷ ws) (c ∷ cs) before a there h =
      let p = and_parts (fine_before m) _ h in
      and_from (fine w) _ (fine_kept (method_id (before + 0)) m w c (there 0 m refl) a.0 p.0)
      (all_fine ms ws cs (suc before) a.1 (λ k n e. let number : suc before + k ≡ before + suc k = omega arith in ap (λ (j : ℕ). method_at P (method_id j)) number ∙ there (suc k) n e) p.1)

  begins : (k : ℕ) (m : Method) → slice_get P.methods k ≡ Some m → method_at P (method_id (0 + k)) ≡ Some m
  begins k m e = let number : 0 + k ≡ k = omega arith in ap (λ (j : ℕ). slice_get P.methods j) number ∙ e

  overriding : overriding_agrees W ≡ true
  unfolding overriding_agrees
  overriding = all_fine P.methods W.methods counted 0 form.methods begins keeps.overriding

  -- ---- abstract methods

  -- a method of a line is of a class of the line
  owner_in : (ds : List ClassId) (x : MethodId) (a : Method) → method_at P x ≡ Some a → IsAmong x (flat_map (methods_of P) ds) → list_any (λ (d : ClassId). eqb d.0 a.owner.0) ds ≡ true
  owner_in [] x a at i = absurd i
  owner_in (d ∷ ds) x a at i =
      elim (among_split x (methods_of P d) (flat_map (methods_of P) ds) i) [
        | inl l ↦ or_left (eqb d.0 a.owner.0) _ (eq-eqb d.0 a.owner.0 (sym (names_owner P keeps d x a at l)))
        | inr r ↦ or_right (eqb d.0 a.owner.0) _ (owner_in ds x a at r)
      ]

  -- an abstract method isn't private
  all_open : list_all open_body P.methods ≡ true
  all_open =
      ap (list_all open_body) keeps.built_in.methods
      ∙ all_joined open_body keeps.built_in.own_methods (built_in_methods_in P.form (length keeps.built_in.own_classes))
      (all_kept (λ m. not m.built_in && (same_flag (eqb m.code_length 0) m.is_abstract && not (m.is_abstract && (m.is_private || m.is_static)))) open_body
      (λ m h. open_by m.is_abstract m.is_private m.is_static (and_parts (same_flag (eqb m.code_length 0) m.is_abstract) _ (and_parts (not m.built_in) _ h).1).1) keeps.built_in.own_methods keeps.built_in.bodies)
      (built_open P.form (length keeps.built_in.own_classes))

  -- constructors don't pause
  constructors : (id : MethodId) (a : Method) → method_at P id ≡ Some a → is_constructor a ≡ true → a.pausable ≡ false
  unfolding method_is_sound
  constructors id a at is =
      let s = all_at method_is_sound P.methods id.0 a keeps.methods at in
      let t = and_parts (eqb (length a.qualifiers) (length a.params)) _ s in
      plain_if (is_constructor a) a.pausable (and_parts (nat_le (argument_slots a) 255) _ t.1).1 is

  module _ (c : ClassId) (less : IsIn P W keeps fiber more c) where
    abbrev line : List MethodId
    line = flat_map (methods_of P) (line_of P c)

    line_is : flat_map (methods_of W) (line_of W c) ≡ line
    line_is = ap (flat_map (methods_of W)) (whole_same P W keeps fiber more c less) ∙ line_methods (length P.classes) c less

    selects : (x : MethodId) (a b : Method) → method_at P x ≡ Some a → (la : Like P a b) → IsAmong x line → a.is_private ≡ false → (z : Bool) → is_constructor a ≡ z → is_same_id x (selected W c b) ≡ true → is_same_id x (selected P c a) ≡ true
    selects x a b at la i public true is e =
        let alike = first_alike (λ (m : MethodId). answers a (method_at P m)) (λ (m : MethodId). answers b (method_at W m)) line (λ y j. one y (all_of_among (has_method P) line y (methods_there P W keeps fiber more woven (line_of P c)) j)) in
        ap (is_same_id x) (alike ∙ ap (first_that (λ (m : MethodId). answers b (method_at W m))) (sym line_is)) ∙ e
      where
        forth : (y : MethodId) (o : Method) → method_at P y ≡ Some o → answers a (method_at P y) ≡ true → answers b (method_at W y) ≡ true
        forth y o there h =
            let p = and_parts (not o.is_private) (same_signature a o) (subst (λ (z : Option Method). answers a z ≡ true) there h) in
            let name = (named_alike a o p.1).name in
            let ctor : is_constructor o ≡ true = ap (λ (n : List ℕ). bytes_eq n (codes "<init>")) (sym name) ∙ is in
            answers_forth P W keeps fiber more woven x a b at la y o there (constructors x a at is ∙ sym (constructors y o there ctor)) h

        one : (y : MethodId) → has_method P y ≡ true → answers a (method_at P y) ≡ answers b (method_at W y)
        one y there =
            let o = get_some P.methods y.0 (ltb-true y.0 (length P.methods) there) in
            same_both (answers a (method_at P y)) (answers b (method_at W y)) (forth y o.0 o.1) (answers_back P W keeps fiber more woven x a b at la y there)
    selects x a b at la i public false is e =
        let f = finds_chosen P x a c keeps at public is (owner_in (line_of P c) x a at i) in
        let new = selected_kept P W keeps fiber more woven x a b at la c f.0 f.1 f.2 in
        ap (is_same_id x) f.1 ∙ (sym (ap (is_same_id x) new) ∙ e)

    left_back : (x : MethodId) → IsAmong x line → is_left_abstract W c x (method_at W x) ≡ true → is_left_abstract P c x (method_at P x) ≡ true
    left_back x i e =
        let there = all_of_among (has_method P) line x (methods_there P W keeps fiber more woven (line_of P c)) i in
        let o = get_some P.methods x.0 (ltb-true x.0 (length P.methods) there) in
        let w = woven x o.0 o.1 in
        let p = and_parts w.0.is_abstract _ (subst (λ (z : Option Method). is_left_abstract W c x z ≡ true) w.1 e) in
        let abstract_one : o.0.is_abstract ≡ true = sym w.2.is_abstract ∙ p.0 in
        let public = plain_if o.0.is_abstract o.0.is_private (all_at open_body P.methods x.0 o.0 all_open o.1) abstract_one in
        subst (λ (z : Option Method). is_left_abstract P c x z ≡ true) (sym o.1)
        (and_from o.0.is_abstract _ abstract_one (selects x o.0 w.0 o.1 w.2 i public (is_constructor o.0) refl p.1))

    none_left : list_any (λ m. is_left_abstract P c m (method_at P m)) line ≡ false → list_any (λ m. is_left_abstract W c m (method_at W m)) (flat_map (methods_of W) (line_of W c)) ≡ false
    none_left n =
        ap (list_any (λ m. is_left_abstract W c m (method_at W m))) line_is
        ∙ none_among (λ m. is_left_abstract P c m (method_at P m)) (λ m. is_left_abstract W c m (method_at W m)) line (λ x i e. left_back x i e) n

  -- methods behind those of the plain program are the fiber's, and not abstract
  concrete_by : (c : ClassId) (x : MethodId) (o : Option Method) → ((m : Method) → o ≡ Some m → m.is_abstract ≡ false) → is_left_abstract W c x o ≡ false
  concrete_by c x None k = refl
  concrete_by c x (Some m) k = ap (λ (b : Bool). b && is_same_id x (selected W c m)) (k m refl)

  behind : (x : MethodId) (m : Method) → length P.methods ≤ x.0 → method_at W x ≡ Some m → m.is_abstract ≡ false
  behind x m past at =
      let r = members_behind P P.methods W.methods counted form.methods in
      let k = x.0 - length P.methods in
      let n = r.2 in
      let there : slice_get (fiber_methods Woven (first_class P)) k ≡ Some m =
      sym (get_right r.0 (fiber_methods Woven (first_class P)) x.0 k (omega (arith, n, past))) ∙ (sym (ap (λ (ms : List Method). slice_get ms x.0) r.1) ∙ at) in
      not-true m.is_abstract (all_at (λ m. not m.is_abstract) (fiber_methods Woven (first_class P)) k m (fiber_concrete (first_class P)) there)

  many_methods : length P.methods ≡ first_method P + 43
  many_methods =
      let e = first_methods P W counted keeps plainly form in
      let f : first_method P ≡ length P.methods - 43 = refl in
      let h = ap length keeps.built_in.methods ∙ (length-append keeps.built_in.own_methods _ ∙ ap (λ f. length keeps.built_in.own_methods + length (built_in_methods_in f (length keeps.built_in.own_classes))) plainly) in
      omega (arith, e, f, h)

  none_of_fiber : (c : ClassId) (ks : List ℕ) → list_all (nat_le 43) ks ≡ true → list_any (λ m. is_left_abstract W c m (method_at W m)) (methods_from (first_method P) ks ++ made ∷ []) ≡ false
  none_of_fiber c [] h =
      let w = woven made made_there.0 made_there.1 in
      or_from (is_left_abstract W c made (method_at W made)) false (concrete_by c made (method_at W made) (λ m e. let s : w.0 ≡ m = (let t : Some w.0 ≡ Some m = sym w.1 ∙ e in cc) in ap (λ (z : Method). z.is_abstract) (sym s) ∙ (w.2.is_abstract ∙ made_there.3))) refl
  none_of_fiber c (k ∷ ks) h =
      let p = and_parts (nat_le 43 k) _ h in
      let x = method_id (first_method P + k) in
      let n = many_methods in
      let l = leb-true 43 k p.0 in
      or_from (is_left_abstract W c x (method_at W x)) _ (concrete_by c x (method_at W x) (λ m e. behind x m (omega (arith, n, l)) e)) (none_of_fiber c ks p.1)

  fiber_left : list_any (λ m. is_left_abstract W last m (method_at W m)) (flat_map (methods_of W) (line_of W last)) ≡ false
  fiber_left =
      ap (list_any (λ m. is_left_abstract W last m (method_at W m))) line
      ∙ none_of_fiber last (43 ∷ 44 ∷ 45 ∷ 46 ∷ 47 ∷ 48 ∷ 49 ∷ 50 ∷ 51 ∷ 52 ∷ 53 ∷ []) refl
    where
      number : 0 + length P.classes ≡ length P.classes
      number = omega arith

      object_again : flat_map (methods_of W) (line_up_to W (length P.classes) object) ≡ made ∷ []
      object_again =
          let many : length P.classes ≡ suc (length keeps.built_in.own_classes + 17) = (let n = how_many P W counted keeps plainly form in omega (arith, n)) in
          ap (flat_map (methods_of W)) (line_same P W keeps fiber more (length P.classes) object object_is_in)
          ∙ (line_methods (length P.classes) object object_is_in
          ∙ (ap (λ (n : ℕ). flat_map (methods_of P) (line_up_to P n object)) many ∙ object_methods (length keeps.built_in.own_classes + 17)))

      line : flat_map (methods_of W) (line_of W last) ≡ methods_from (first_method P) (43 ∷ 44 ∷ 45 ∷ 46 ∷ 47 ∷ 48 ∷ 49 ∷ 50 ∷ 51 ∷ 52 ∷ 53 ∷ []) ++ made ∷ []
      line =
          ap (λ (n : ℕ). flat_map (methods_of W) (line_up_to W n last)) (one_more P W fiber more)
          ∙ (ap (λ (o : Option Class). elim o [ None ↦ [] | Some class ↦ class.methods ] ++ flat_map (methods_of W) (elim (o >>= λ (class : Class). class.superclass) [ None ↦ [] | Some u ↦ line_up_to W (length P.classes) u ])) (fiber_there (0 + length P.classes) number)
          ∙ ap (λ (ms : List MethodId). methods_from (first_method P) (43 ∷ 44 ∷ 45 ∷ 46 ∷ 47 ∷ 48 ∷ 49 ∷ 50 ∷ 51 ∷ 52 ∷ 53 ∷ []) ++ ms) object_again)

  abstract_left : none_is_left_abstract W ≡ true
  unfolding none_is_left_abstract
  abstract_left =
      ap (each_class_from g 0) more
      ∙ each_joined g 0 P.classes (fiber ∷ [])
      (each_kept f g 0 P.classes (λ k x e h. let less = slice_get_within P.classes k x e in
      or_kept x.is_abstract (not (list_any (λ m. is_left_abstract P (class_id (0 + k)) m (method_at P m)) (flat_map (methods_of P) (line_of P (class_id (0 + k)))))) (not (list_any (λ m. is_left_abstract W (class_id (0 + k)) m (method_at W m)) (flat_map (methods_of W) (line_of W (class_id (0 + k))))))
      (λ n. not_kept _ _ (none_left (class_id (0 + k)) (omega (arith, less))) n) h) keeps.abstract_left)
      (and_from (g last fiber) true (ap not fiber_left) refl)
    where
      f : ClassId → Class → Bool
      f c class = class.is_abstract || not (list_any (λ m. is_left_abstract P c m (method_at P m)) (flat_map (methods_of P) (line_of P c)))

      g : ClassId → Class → Bool
      g c class = class.is_abstract || not (list_any (λ m. is_left_abstract W c m (method_at W m)) (flat_map (methods_of W) (line_of W c)))

pub woven_selects : WovenSelectsKeep
woven_selects p w counted keeps plainly form = record {
  overriding = overriding p w counted keeps plainly form;
  abstract_left = abstract_left p w counted keeps plainly form;
}
