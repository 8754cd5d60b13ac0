-- Values of types, and what operands are.
use Rattle.std.proofs.Common.{◌≡◌, ◌⊎◌, inl, inr, ℕ, zero, suc, ℤ, Bool, true, false, true≢false, eqb, List, [], ◌∷◌, ◌++◌, length, drop, Option, Some, None, Result, Ok, refl, sym, subst}
use Rattle.std.specs.Prelude.{◌&&◌, ◌||◌, nat_lt, codes}
use Rattle.std.specs.List.{list_any}
use Rattle.std.proofs.lemmas.Bool.{and_parts, and_from, eqb-true}
use Rattle.kilim_program.specs.declared.class.Method.{Method}
use Rattle.kilim_program.specs.declared.names.ClassId.{ClassId}
use Rattle.kilim_program.specs.declared.ty.Base.{Base}
use Rattle.kilim_program.specs.declared.ty.Base.TheVariants as base
use Rattle.kilim_program.specs.declared.ty.Ty.{Ty}
use Rattle.kilim_program.specs.declared.value.Value.{Value}
use Rattle.kilim_program.specs.declared.value.Value.TheVariants as value
use Rattle.kilim_program.specs.declared.verified.VType.{VType}
use Rattle.kilim_program.specs.declared.verified.VType.TheVariants.{Top, Int, Long, Null, UninitThis, Uninit, Object}
use Rattle.kilim_program.specs.Program.{Program}
use Rattle.kilim_run_state.specs.Machine.{Objects}
use Rattle.kilim_program.specs.Fits.{fits_type, type_assignable, base_assignable, is_object_base, is_reference_base}
use Rattle.kilim_program.specs.Same.{same_base}
use Rattle.kilim_program.specs.Members.{named_type, named_class}
use Rattle.kilim_program.specs.Names.{class_named}
use Rattle.kilim_type_spec.specs.Step.{Types, Operand, Is, AReference, Initialized, ArrayOf, References, AnArray, Own, Further, further, rule, Takes, by_row, meets, all_meet, assignable, class_vtype, is_top, is_array_of, has_operands, room_for}
use Rattle.kilim_type_sound.specs.Fits.{Classes, is_of, is_int_type, is_long_type, has_type, have_types, IsThere, AreThere}
use Rattle.kilim_type_sound.specs.Facts.{Ordered}

pub passed : {A : Type 0} (n : ℕ) (b : Bool) (go : Result A ℕ) (x : A) → rule n b go ≡ Ok x → (b ≡ true) × (go ≡ Ok x)
passed n true go x e = (refl, e)
passed n false go x e = absurd (cc)

abbrev pub Furthers : Program → List Further → List VType → Type 0
Furthers p [] s = Unit {0}
Furthers p (r ∷ rs) s = ((r.holds && all_meet p r.operands s) ≡ true) × Furthers p rs s

pub furthers : {A : Type 0} (p : Program) (rs : List Further) (s : List VType) (go : Result A ℕ) (x : A) → further p rs s go ≡ Ok x → Furthers p rs s × (go ≡ Ok x)
furthers p [] s go x e = (tt, e)
furthers p (r ∷ rs) s go x e =
    let one = passed r.number (r.holds && all_meet p r.operands s) (further p rs s go) x e in
    let others = furthers p rs s go x one.1 in
    ((one.0, others.0), others.1)

abbrev pub okay : {A : Type 0} → A → Result A ℕ
okay x = Ok x

pub ok_is : {A : Type 0} (x y : A) → okay x ≡ okay y → x ≡ y
ok_is x y e = cc

pub record Inverse (p : Program) (takes : List Operand) (gives : List VType) (also : List Further) (f g : Types) : Type 0 where
  pub meet : all_meet p takes f.stack ≡ true
  pub also_hold : Furthers p also f.stack
  pub after : record f { stack = gives ++ drop (length takes) f.stack } ≡ g

pub takes_inverse : (p : Program) (m : Method) (at : ℕ) (takes : List Operand) (gives : List VType) (also : List Further) (f g : Types) → by_row p m at (Takes takes gives also) f ≡ Ok g → Inverse p takes gives also f g
takes_inverse p m at takes gives also f g e =
    let go : Types = record f { stack = gives ++ drop (length takes) f.stack } in
    let a = passed 3 (has_operands (length takes) f.stack) _ g e in
    let b = passed 4 (room_for m gives (drop (length takes) f.stack)) _ g a.1 in
    let c = passed 5 (all_meet p takes f.stack) _ g b.1 in
    let d = furthers p also f.stack (Ok go) g c.1 in
    record { meet = c.0; also_hold = d.0; after = ok_is go g d.1 }

-- ---- references

abbrev pub class_of : Program → Classes → Value → Option Ty
class_of p of (value.Int x) = None
class_of p of (value.Long x) = None
class_of p of value.Null = None
class_of p of (value.Ref n) = of n
class_of p of (value.Text units) = named_type p (codes "java/lang/String")
class_of p of (value.Box box) = named_type p (codes "kilim/Mailbox")
class_of p of value.Fiber = named_type p (codes "kilim/Fiber")

abbrev pub is_reference : Value → Bool
is_reference (value.Int x) = false
is_reference (value.Long x) = false
is_reference v = true

-- null, or an object of an array type that passes a test
abbrev pub HeldArray : Classes → (Ty → Bool) → Value → Type 0
HeldArray of test value.Null = Unit {0}
HeldArray of test (value.Ref n) = (c : Ty) × (of n ≡ Some c) × (test c ≡ true)
HeldArray of test v = ⊥

-- no string, mailbox or fiber
abbrev pub HeldAny : Value → Type 0
HeldAny (value.Text u) = ⊥
HeldAny (value.Box x) = ⊥
HeldAny value.Fiber = ⊥
HeldAny v = Unit {0}

abbrev pub has_dims : ℕ → Bool
has_dims zero = false
has_dims (suc d) = true

abbrev pub is_array : Ty → Bool
is_array ty = has_dims ty.dims

pub some_dims : (d : ℕ) → nat_lt 0 d ≡ true → has_dims d ≡ true
some_dims zero e = e
some_dims (suc d) e = refl

abbrev pub is_ref_array : ℕ → Base → Bool
is_ref_array zero b = false
is_ref_array (suc zero) b = is_reference_base b
is_ref_array (suc (suc d)) b = true

abbrev pub is_references : Ty → Bool
is_references ty = is_ref_array ty.dims ty.base

pub ref_array : (d : ℕ) (b : Base) → (nat_lt 1 d || (eqb d 1 && is_reference_base b)) ≡ true → is_ref_array d b ≡ true
ref_array zero b e = e
ref_array (suc zero) b e = e
ref_array (suc (suc d)) b e = refl

module _ (p : Program) (order : Ordered p) (m : Method) (of : Classes) where
  pub of_through : (c : Option Ty) (a b : Ty) → is_of p c a ≡ true → fits_type p a b ≡ true → is_of p c b ≡ true
  of_through None a b h k = h
  of_through (Some c) a b h k = order.through c a b h k

  pub object_assigned : (a b : Ty) (v : Value) → fits_type p a b ≡ true → has_type p m of (Object a) v ≡ true → has_type p m of (Object b) v ≡ true
  object_assigned a b (value.Int x) h k = k
  object_assigned a b (value.Long x) h k = k
  object_assigned a b value.Null h k = refl
  object_assigned a b (value.Ref n) h k = of_through (of n) a b k h
  object_assigned a b (value.Text units) h k = of_through (named_type p (codes "java/lang/String")) a b k h
  object_assigned a b (value.Box box) h k = of_through (named_type p (codes "kilim/Mailbox")) a b k h
  object_assigned a b value.Fiber h k = of_through (named_type p (codes "kilim/Fiber")) a b k h

  pub null_alone : (v : Value) → has_type p m of Null v ≡ true → v ≡ value.Null
  null_alone (value.Int x) k = absurd (cc)
  null_alone (value.Long x) k = absurd (cc)
  null_alone value.Null k = refl
  null_alone (value.Ref n) k = absurd (cc)
  null_alone (value.Text units) k = absurd (cc)
  null_alone (value.Box box) k = absurd (cc)
  null_alone value.Fiber k = absurd (cc)

  -- a value of a type is of each type that it is assignable to
  pub assigned : (a b : VType) (v : Value) → assignable p a b ≡ true → is_top b ≡ false → has_type p m of a v ≡ true → has_type p m of b v ≡ true
  assigned a Top v h n k = absurd (true≢false n)
  assigned Int Int v h n k = k
  assigned Long Long v h n k = k
  assigned Null Null v h n k = k
  assigned UninitThis UninitThis v h n k = k
  assigned (Uninit a) (Uninit b) v h n k = subst (λ (q : ℕ). has_type p m of (Uninit q) v ≡ true) (eqb-true a b h) k
  assigned Null (Object b) v h n k = subst (λ (w : Value). has_type p m of (Object b) w ≡ true) (sym (null_alone v k)) refl
  assigned (Object a) (Object b) v h n k = object_assigned a b v h k
  assigned a b v h n k = absurd (true≢false (sym h))

  -- ---- operands

  abbrev pub Held : Operand → Value → Type 0
  Held (Is Top) v = Unit {0}
  Held (Is t) v = has_type p m of t v ≡ true
  Held AReference v = is_reference v ≡ true
  Held Initialized v = Unit {0}
  Held (ArrayOf bases) v = HeldArray of (is_array_of bases) v
  Held References v = HeldArray of is_references v
  Held AnArray v = HeldArray of is_array v
  Held (Own c) v = (has_type p m of UninitThis v ≡ true) ⊎ (has_type p m of (class_vtype c) v ≡ true)

  -- the topmost values are such operands, and the others have these types
  abbrev pub Taken : Objects → List Operand → List VType → List Value → Type 0
  Taken h [] ts vs = have_types p m of ts vs ≡ true
  Taken h (o ∷ os) ts [] = ⊥
  Taken h (o ∷ os) ts (v ∷ vs) = Held o v × (IsThere h v × Taken h os ts vs)

  no_number : (t : VType) (x : ℤ) → is_int_type t ≡ true → t ≡ Int
  no_number Int x k = refl
  no_number Top x k = absurd (cc)
  no_number Long x k = absurd (cc)
  no_number Null x k = absurd (cc)
  no_number UninitThis x k = absurd (cc)
  no_number (Uninit q) x k = absurd (cc)
  no_number (Object ty) x k = absurd (cc)

  pub held_is : (t u : VType) (v : Value) → assignable p t u ≡ true → has_type p m of t v ≡ true → Held (Is u) v
  held_is t Top v h k = tt
  held_is t Int v h k = assigned t Int v h refl k
  held_is t Long v h k = assigned t Long v h refl k
  held_is t Null v h k = assigned t Null v h refl k
  held_is t UninitThis v h k = assigned t UninitThis v h refl k
  held_is t (Uninit q) v h k = assigned t (Uninit q) v h refl k
  held_is t (Object ty) v h k = assigned t (Object ty) v h refl k

  -- ---- arrays

  dims_class : (o : Option ClassId) (d : ℕ) (b : Base) → has_dims d ≡ true → is_of p (named_class o) (record { dims = d; base = b }) ≡ true → ⊥
  unfolding fits_type
  dims_class None d b n k = absurd (cc)
  dims_class (Some c) zero b n k = absurd (cc)
  dims_class (Some c) (suc d) b n k = absurd (cc)

  array_value : (test : Ty → Bool) (ty : Ty) (v : Value) → is_array ty ≡ true → has_type p m of (Object ty) v ≡ true → ((c : Ty) → fits_type p c ty ≡ true → test c ≡ true) → HeldArray of test v
  array_value test ty (value.Int x) a k t = absurd (cc)
  array_value test ty (value.Long x) a k t = absurd (cc)
  array_value test ty value.Null a k t = tt
  array_value test ty (value.Ref n) a k t = elim (of n) as (λ (c : Option Ty). is_of p c ty ≡ true → (d : Ty) × (c ≡ Some d) × (test d ≡ true)) [ None ↦ λ k. absurd (cc) | Some c ↦ λ k. (c, refl, t c k) ] k
  array_value test ty (value.Text units) a k t = dims_class (class_named p (codes "java/lang/String")) ty.dims ty.base a k
  array_value test ty (value.Box box) a k t = dims_class (class_named p (codes "kilim/Mailbox")) ty.dims ty.base a k
  array_value test ty value.Fiber a k t = dims_class (class_named p (codes "kilim/Fiber")) ty.dims ty.base a k

  same_primitive : (a b : Base) → is_reference_base b ≡ false → same_base a b ≡ true → a ≡ b
  same_primitive base.Bool base.Bool n e = refl
  same_primitive base.Byte base.Byte n e = refl
  same_primitive base.Char base.Char n e = refl
  same_primitive base.Short base.Short n e = refl
  same_primitive base.Int base.Int n e = refl
  same_primitive base.Long base.Long n e = refl
  same_primitive a (base.Class c) n e = absurd (cc)
  same_primitive a b n e = absurd (cc)

  primitive_assigned : (a b : Base) → is_reference_base b ≡ false → base_assignable p a b ≡ true → a ≡ b
  primitive_assigned (base.Class a) (base.Class b) n e = absurd (cc)
  primitive_assigned (base.Class a) base.Bool n e = absurd (cc)
  primitive_assigned (base.Class a) base.Byte n e = absurd (cc)
  primitive_assigned (base.Class a) base.Char n e = absurd (cc)
  primitive_assigned (base.Class a) base.Short n e = absurd (cc)
  primitive_assigned (base.Class a) base.Int n e = absurd (cc)
  primitive_assigned (base.Class a) base.Long n e = absurd (cc)
  primitive_assigned base.Bool b n e = same_primitive base.Bool b n e
  primitive_assigned base.Byte b n e = same_primitive base.Byte b n e
  primitive_assigned base.Char b n e = same_primitive base.Char b n e
  primitive_assigned base.Short b n e = same_primitive base.Short b n e
  primitive_assigned base.Int b n e = same_primitive base.Int b n e
  primitive_assigned base.Long b n e = same_primitive base.Long b n e

  no_object : (b : Base) → is_reference_base b ≡ false → is_object_base p b ≡ true → ⊥
  no_object (base.Class c) n e = absurd (cc)
  no_object base.Bool n e = absurd (cc)
  no_object base.Byte n e = absurd (cc)
  no_object base.Char n e = absurd (cc)
  no_object base.Short n e = absurd (cc)
  no_object base.Int n e = absurd (cc)
  no_object base.Long n e = absurd (cc)

  -- bases that are no classes
  abbrev pub Plain : List Base → Type 0
  Plain bases = (b : Base) → is_reference_base b ≡ true → list_any (same_base b) bases ≡ false

  is_plain : (bases : List Base) → Plain bases → (b : Base) → list_any (same_base b) bases ≡ true → is_reference_base b ≡ false
  is_plain bases plain (base.Class c) e = absurd (let z = plain (base.Class c) refl in cc)
  is_plain bases plain base.Bool e = refl
  is_plain bases plain base.Byte e = refl
  is_plain bases plain base.Char e = refl
  is_plain bases plain base.Short e = refl
  is_plain bases plain base.Int e = refl
  is_plain bases plain base.Long e = refl

  array_below : (bases : List Base) → Plain bases → (d : ℕ) (a b : Base) → type_assignable p d a 1 b ≡ true → list_any (same_base b) bases ≡ true → (d ≡ 1) × (list_any (same_base a) bases ≡ true)
  array_below bases plain zero a b e t = absurd (cc)
  array_below bases plain (suc zero) a b e t = (refl, subst (λ (z : Base). list_any (same_base z) bases ≡ true) (sym (primitive_assigned a b (is_plain bases plain b t) e)) t)
  array_below bases plain (suc (suc d)) a b e t = absurd (no_object b (is_plain bases plain b t) e)

  array_of_below : (bases : List Base) → Plain bases → (c ty : Ty) → is_array_of bases ty ≡ true → fits_type p c ty ≡ true → is_array_of bases c ≡ true
  unfolding fits_type
  array_of_below bases plain c ty t e =
      let ts = and_parts (eqb ty.dims 1) (list_any (same_base ty.base) bases) t in
      let one = array_below bases plain c.dims c.base ty.base (subst (λ (d : ℕ). type_assignable p c.dims c.base d ty.base ≡ true) (eqb-true ty.dims 1 ts.0) e) ts.1 in
      and_from (eqb c.dims 1) (list_any (same_base c.base) bases) (subst (λ (d : ℕ). eqb d 1 ≡ true) (sym one.0) refl) one.1

  array_dims : (bases : List Base) (ty : Ty) → is_array_of bases ty ≡ true → is_array ty ≡ true
  array_dims bases ty t = let ts = and_parts (eqb ty.dims 1) (list_any (same_base ty.base) bases) t in subst (λ (d : ℕ). has_dims d ≡ true) (sym (eqb-true ty.dims 1 ts.0)) refl

  array_by_dims : (a b : ℕ) (c t : Base) → type_assignable p a c b t ≡ true → has_dims b ≡ true → has_dims a ≡ true
  array_by_dims a zero c t e n = absurd (cc)
  array_by_dims zero (suc b) c t e n = absurd (cc)
  array_by_dims (suc a) (suc b) c t e n = refl

  any_array_below : (c ty : Ty) → is_array ty ≡ true → fits_type p c ty ≡ true → is_array c ≡ true
  unfolding fits_type
  any_array_below c ty t e = array_by_dims c.dims ty.dims c.base ty.base e t

  reference_below : (a b : Base) → is_reference_base b ≡ true → base_assignable p a b ≡ true → is_reference_base a ≡ true
  reference_below (base.Class a) (base.Class b) n e = refl
  reference_below a (base.Class b) n e = absurd (cc)
  reference_below a b n e = absurd (cc)

  ref_array_below : (a b : ℕ) (c t : Base) → type_assignable p a c b t ≡ true → is_ref_array b t ≡ true → is_ref_array a c ≡ true
  ref_array_below a zero c t e n = absurd (cc)
  ref_array_below zero (suc b) c t e n = absurd (cc)
  ref_array_below (suc zero) (suc zero) c t e n = reference_below c t n e
  ref_array_below (suc (suc a)) (suc b) c t e n = refl
  ref_array_below (suc zero) (suc (suc b)) c t e n = absurd (cc)

  pub references_below : (c ty : Ty) → is_references ty ≡ true → fits_type p c ty ≡ true → is_references c ≡ true
  unfolding fits_type
  references_below c ty t e = ref_array_below c.dims ty.dims c.base ty.base e t

  ref_dims : (d : ℕ) (b : Base) → is_ref_array d b ≡ true → has_dims d ≡ true
  ref_dims zero b e = absurd (cc)
  ref_dims (suc d) b e = refl

  -- ---- an operand from its type

  null_array : (test : Ty → Bool) (v : Value) → has_type p m of Null v ≡ true → HeldArray of test v
  null_array test v k = subst (λ (w : Value). HeldArray of test w) (sym (null_alone v k)) tt

  abbrev pub PlainOperand : Operand → Type 0
  PlainOperand (ArrayOf bases) = Plain bases
  PlainOperand o = Unit {0}

  abbrev pub PlainOperands : List Operand → Type 0
  PlainOperands [] = Unit {0}
  PlainOperands (o ∷ os) = PlainOperand o × PlainOperands os

  reference_of : (t : VType) (v : Value) → meets p AReference t ≡ true → has_type p m of t v ≡ true → is_reference v ≡ true
  unfolding meets
  reference_of Null v h k = subst (λ (w : Value). is_reference w ≡ true) (sym (null_alone v k)) refl
  reference_of t (value.Int x) h k = by_int t h k
    where
      by_int : (t : VType) → meets p AReference t ≡ true → is_int_type t ≡ true → false ≡ true
      by_int Int h k = h
      by_int t h k = absurd (cc)
  reference_of t (value.Long x) h k = by_long t h k
    where
      by_long : (t : VType) → meets p AReference t ≡ true → is_long_type t ≡ true → false ≡ true
      by_long Long h k = h
      by_long t h k = absurd (cc)
  reference_of t v h k = refl

  pub held : (o : Operand) (t : VType) (v : Value) → PlainOperand o → meets p o t ≡ true → has_type p m of t v ≡ true → Held o v
  unfolding meets
  held (Is u) t v plain h k = held_is t u v h k
  held AReference t v plain h k = reference_of t v h k
  held Initialized t v plain h k = tt
  held (ArrayOf bases) Null v plain h k = null_array (is_array_of bases) v k
  held (ArrayOf bases) (Object ty) v plain h k = array_value (is_array_of bases) ty v (array_dims bases ty h) k (λ c e. array_of_below bases plain c ty h e)
  held (ArrayOf bases) t v plain h k = absurd (cc)
  held References Null v plain h k = null_array is_references v k
  held References (Object ty) v plain h k = let r = ref_array ty.dims ty.base h in array_value is_references ty v (ref_dims ty.dims ty.base r) k (λ c e. references_below c ty r e)
  held References t v plain h k = absurd (cc)
  held AnArray Null v plain h k = null_array is_array v k
  held AnArray (Object ty) v plain h k = array_value is_array ty v (some_dims ty.dims h) k (λ c e. any_array_below c ty (some_dims ty.dims h) e)
  held AnArray t v plain h k = absurd (cc)
  held (Own c) UninitThis v plain h k = inl k
  held (Own c) t v plain h k = inr (assigned t (class_vtype c) v h refl k)

  pub taken : (h : Objects) (os : List Operand) (ts : List VType) (vs : List Value) → PlainOperands os → all_meet p os ts ≡ true → have_types p m of ts vs ≡ true → AreThere h vs → Taken h os (drop (length os) ts) vs
  taken h [] ts vs plain a k t = k
  taken h (o ∷ os) [] vs plain a k t = absurd (cc)
  taken h (o ∷ os) (u ∷ ts) [] plain a k t = absurd (cc)
  taken h (o ∷ os) (u ∷ ts) (v ∷ vs) plain a k t =
      let as1 = and_parts (meets p o u) (all_meet p os ts) a in
      let ks = and_parts (has_type p m of u v) (have_types p m of ts vs) k in
      (held o u v plain.0 as1.0 ks.0, (t.0, taken h os ts vs plain.1 as1.1 ks.1 t.1))

  -- strings, mailboxes and fibers are no arrays
  pub not_array : (ty : Ty) (v : Value) → is_array ty ≡ true → has_type p m of (Object ty) v ≡ true → HeldAny v
  not_array ty (value.Int x) a k = tt
  not_array ty (value.Long x) a k = tt
  not_array ty value.Null a k = tt
  not_array ty (value.Ref n) a k = tt
  not_array ty (value.Text u) a k = dims_class (class_named p (codes "java/lang/String")) ty.dims ty.base a k
  not_array ty (value.Box x) a k = dims_class (class_named p (codes "kilim/Mailbox")) ty.dims ty.base a k
  not_array ty value.Fiber a k = dims_class (class_named p (codes "kilim/Fiber")) ty.dims ty.base a k
