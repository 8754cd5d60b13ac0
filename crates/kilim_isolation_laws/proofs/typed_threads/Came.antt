-- Objects that come under new names: their classes, and the heap with them.
use Rattle.std.proofs.Common.{◌≡◌, ◌⊎◌, inl, inr, ℕ, zero, suc, ◌+◌, ◌≤◌, Bool, true, false, cond, eqb, List, [], ◌∷◌, length, Some, None, refl, sym, ap, subst, ◌∙◌, arith}
use Rattle.std.specs.FinMap.{get, insert, remove}
use Rattle.std.proofs.lemmas.Bool.{eq-eqb, ne_eqb}
use Rattle.std.proofs.lemmas.Bool.Decides.{eqb_tells}
use Rattle.kilim_program.specs.declared.ty.Base.{Base}
use Rattle.kilim_program.specs.declared.ty.Base.TheVariants as base
use Rattle.kilim_program.specs.declared.ty.Ty.{Ty}
use Rattle.kilim_program.specs.Lengths.{is_reference_type}
use Rattle.kilim_program.specs.Program.{Program}
use Rattle.kilim_run_state.specs.declared.value.Object.{Object}
use Rattle.kilim_run_state.specs.Machine.{Objects}
use Rattle.kilim_run_state.specs.Trees.{with_objects, without}
use Rattle.kilim_lemmas.proofs.Maps.{put_there, put_other, out_there, out_other}
use Rattle.kilim_type_sound.specs.Fits.{Classes, ContentFits, HeapFits, ObjectFits}
use Rattle.kilim_type_sound.specs.Law.{Extends, with_class}
use Rattle.kilim_type_sound.proofs.Grown.{came}
use Rattle.kilim_isolation_laws.proofs.typed_threads.Read.{AllFit, Placed}

none_some : {A : Type 0} (x : A) → None ≡ Some x → ⊥
none_some x e = cc

some_same : {A : Type 0} (x y : A) → Some x ≡ Some y → x ≡ y
some_same x y e = cc

-- ---- one more name

class_there : (of : Classes) (n : ℕ) (c : Ty) → with_class of n c n ≡ Some c
class_there of n c = ap (λ (z : Bool). cond z (Some c) (of n)) (eq-eqb n n refl)

class_other : (of : Classes) (n q : ℕ) (c : Ty) → (n ≡ q → ⊥) → with_class of n c q ≡ of q
class_other of n q c e = ap (λ (z : Bool). cond z (Some c) (of q)) (ne_eqb n q e)

pub one_extends : (of : Classes) (n : ℕ) (c : Ty) → of n ≡ None → Extends of (with_class of n c)
one_extends of n c none q d e = class_other of n q c (λ same. none_some d (sym none ∙ (ap of same ∙ e))) ∙ e

pub one_fresh : (of : Classes) (n : ℕ) (c : Ty) → ((q : ℕ) → n ≤ q → of q ≡ None) → (q : ℕ) → n + 1 ≤ q → with_class of n c q ≡ None
one_fresh of n c fresh q le = class_other of n q c (λ e. omega (arith, le, e)) ∙ fresh q (omega (arith, le))

-- ---- names of a list of objects

abbrev pub with_classes : Classes → ℕ → List Object → Classes
with_classes of base [] = of
with_classes of base (o ∷ os) = with_class (with_classes of (suc base) os) base o.class

pub classes_fresh : (of : Classes) (base : ℕ) (os : List Object) → ((q : ℕ) → base ≤ q → of q ≡ None) → (q : ℕ) → base + length os ≤ q → with_classes of base os q ≡ None
classes_fresh of base [] fresh q le = fresh q (omega (arith, le))
classes_fresh of base (o ∷ os) fresh q le = class_other (with_classes of (suc base) os) base q o.class (λ e. omega (arith, le, e)) ∙ classes_fresh of (suc base) os (λ r l. fresh r (omega (arith, l))) q (omega (arith, le))

pub classes_extend : (of : Classes) (base : ℕ) (os : List Object) → ((q : ℕ) → base ≤ q → of q ≡ None) → Extends of (with_classes of base os)
classes_extend of base [] fresh q c e = e
classes_extend of base (o ∷ os) fresh q c e =
    class_other (with_classes of (suc base) os) base q o.class (λ same. none_some c (sym (fresh base (omega arith)) ∙ (ap of same ∙ e))) ∙ classes_extend of (suc base) os (λ r l. fresh r (omega (arith, l))) q c e

placed_alike : (of more : Classes) (base : ℕ) (os : List Object) → ((q : ℕ) → base ≤ q → more q ≡ of q) → Placed of base os → Placed more base os
placed_alike of more base [] same e = tt
placed_alike of more base (o ∷ os) same e = (same base (omega arith) ∙ e.0, placed_alike of more (suc base) os (λ q le. same q (omega (arith, le))) e.1)

pub classes_placed : (of : Classes) (base : ℕ) (os : List Object) → Placed (with_classes of base os) base os
classes_placed of base [] = tt
classes_placed of base (o ∷ os) = (
  class_there (with_classes of (suc base) os) base o.class,
  placed_alike (with_classes of (suc base) os) (with_classes of base (o ∷ os)) (suc base) os (λ q le. class_other (with_classes of (suc base) os) base q o.class (λ e. omega (arith, le, e))) (classes_placed of (suc base) os),
)

-- ---- each is a class or an array

content_proper : (p : Program) (of : Classes) (d : ℕ) (b : Base) (o : Object) → ContentFits p of d b o → is_reference_type d b ≡ true
content_proper p of zero (base.Class c) o e = refl
content_proper p of (suc d) b o e = refl
content_proper p of zero base.Bool o e = absurd e
content_proper p of zero base.Byte o e = absurd e
content_proper p of zero base.Char o e = absurd e
content_proper p of zero base.Short o e = absurd e
content_proper p of zero base.Int o e = absurd e
content_proper p of zero base.Long o e = absurd e

pub object_proper : (p : Program) (of : Classes) (o : Object) → ObjectFits p of o → is_reference_type o.class.dims o.class.base ≡ true
object_proper p of o e = content_proper p of o.class.dims o.class.base o e

abbrev AreProper : Classes → Type 0
AreProper of = (n : ℕ) (c : Ty) → of n ≡ Some c → is_reference_type c.dims c.base ≡ true

pub one_proper : (of : Classes) (n : ℕ) (d : Ty) → AreProper of → is_reference_type d.dims d.base ≡ true → AreProper (with_class of n d)
one_proper of n d proper own q c e = by (eqb n q) e
  where
    by : (z : Bool) → cond z (Some d) (of q) ≡ Some c → is_reference_type c.dims c.base ≡ true
    by true e = subst (λ (t : Ty). is_reference_type t.dims t.base ≡ true) (some_same d c e) own
    by false e = proper q c e

classes_proper : (p : Program) (any of : Classes) (base : ℕ) (os : List Object) → AreProper of → AllFit p any os → AreProper (with_classes of base os)
classes_proper p any of base [] proper fit = proper
classes_proper p any of base (o ∷ os) proper fit = one_proper (with_classes of (suc base) os) base o.class (classes_proper p any of (suc base) os proper fit.1) (object_proper p any o fit.0)

-- ---- the heap with them

module _ (p : Program) (more : Classes) where
  abbrev Old : Objects → ℕ → Object → Type 0
  Old h n o = (get h n ≡ Some o) ⊎ ((more n ≡ Some o.class) × ObjectFits p more o)

  among : (h : Objects) (base : ℕ) (os : List Object) → Placed more base os → AllFit p more os → (n : ℕ) (o : Object) → get (with_objects h base os) n ≡ Some o → Old h n o
  among h base [] placed fit n o e = inl e
  among h base (x ∷ os) placed fit n o e = by (among (insert h base x) (suc base) os placed.1 fit.1 n o e)
    where
      here : base ≡ n → get (insert h base x) n ≡ Some o → Old h n o
      here same e =
          let is : x ≡ o = some_same x o (sym (put_there h base x) ∙ (ap (get (insert h base x)) same ∙ e)) in
          inr (subst (λ (k : ℕ). more k ≡ Some o.class) same (placed.0 ∙ ap (λ (y : Object). Some y.class) is), subst (ObjectFits p more) is fit.0)

      by : Old (insert h base x) n o → Old h n o
      by (inr new) = inr new
      by (inl e) = elim (eqb_tells base n) [ inl same ↦ here same.1 e | inr other ↦ inl (sym (put_other h base x n (λ z. other.1 (sym z))) ∙ e) ]

pub came_fit : (p : Program) (of : Classes) (h : Objects) (base : ℕ) (os : List Object) → HeapFits p of h → ((q : ℕ) → base ≤ q → of q ≡ None) → AllFit p (with_classes of base os) os → HeapFits p (with_classes of base os) (with_objects h base os)
came_fit p of h base os heap fresh fit =
    came p of (with_classes of base os) (classes_extend of base os fresh) h (with_objects h base os) heap (classes_proper p (with_classes of base os) of base os heap.proper fit) (among p (with_classes of base os) h base os (classes_placed of base os) fit)

-- ---- the heap without some

pub left_old : (h : Objects) (ns : List ℕ) (n : ℕ) (o : Object) → get (without h ns) n ≡ Some o → get h n ≡ Some o
left_old h [] n o e = e
left_old h (m ∷ ns) n o e = elim (eqb_tells n m) [
  | inl t ↦ absurd (none_some o (sym (ap (get (remove (without h ns) m)) t.1 ∙ out_there (without h ns) m) ∙ e))
  | inr t ↦ left_old h ns n o (sym (out_other (without h ns) m n t.1) ∙ e)
]
