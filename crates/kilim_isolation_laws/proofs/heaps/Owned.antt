-- New objects, one behind the other, that are trees below some values: each is named once, by a value or by an object before it.
use Rattle.std.proofs.Common.{◌≡◌, ◌⊎◌, inl, inr, ℕ, zero, suc, ◌+◌, ◌*◌, ◌<◌, ◌≤◌, ◌==◌, Bool, true, false, cond, eqb, List, [], ◌∷◌, ◌++◌, length, Option, Some, None, refl, sym, ap, subst, ◌∙◌, arith}
use Rattle.std.specs.Prelude.{if◌then◌else◌, slice_get}
use Rattle.std.proofs.lemmas.Bool.{eq-eqb, ne_eqb, eqb-true}
use Rattle.std.proofs.lemmas.Bool.Decides.{eqb_tells}
use Rattle.std.proofs.lemmas.List.{length-append}
use Rattle.kilim_program.specs.declared.names.FieldId.{FieldId}
use Rattle.kilim_program.specs.declared.ty.Base.{Base}
use Rattle.kilim_program.specs.declared.value.Value.{Value}
use Rattle.kilim_program.specs.declared.value.Value.TheVariants.{Int, Long, Null, Ref, Text, Box, Fiber}
use Rattle.kilim_program.specs.Program.{Program}
use Rattle.kilim_run_state.specs.declared.value.Object.{Object}
use Rattle.kilim_run_state.specs.Shapes.{field_in, fields_in_order}
use Rattle.kilim_run_state.specs.Trees.{object_of, with_keys}
use Rattle.kilim_isolation_laws.specs.graph_rows.Holds.{field_id, half, held_by, refers, refers_in}
use Rattle.kilim_isolation_laws.proofs.graph_rows.Heaps.{place_is}

-- ---- what stands at a name

abbrev pub object_at : ℕ → List Object → ℕ → Option Object
object_at base [] n = None
object_at base (o ∷ os) n = if n == base then Some o else object_at (suc base) os n

none_some : {A : Type 0} (x : A) → None ≡ Some x → ⊥
none_some x e = cc

pub some_same : {A : Type 0} (x y : A) → Some x ≡ Some y → x ≡ y
some_same x y e = cc

pub at_first : (base : ℕ) (o : Object) (os : List Object) → object_at base (o ∷ os) base ≡ Some o
at_first base o os = ap (λ (b : Bool). cond b (Some o) (object_at (suc base) os base)) (eq-eqb base base refl)

pub at_later : (base : ℕ) (o : Object) (os : List Object) (n : ℕ) → (n ≡ base → ⊥) → object_at base (o ∷ os) n ≡ object_at (suc base) os n
at_later base o os n other = ap (λ (b : Bool). cond b (Some o) (object_at (suc base) os n)) (ne_eqb n base other)

-- the first, or one behind it
pub at_parts : (base : ℕ) (o : Object) (os : List Object) (n : ℕ) (q : Object) → object_at base (o ∷ os) n ≡ Some q → ((n ≡ base) × (o ≡ q)) ⊎ (object_at (suc base) os n ≡ Some q)
at_parts base o os n q e = elim (eqb_tells n base) [
  | inl t ↦ inl (t.1, some_same o q (sym (ap (object_at base (o ∷ os)) t.1 ∙ at_first base o os) ∙ e))
  | inr t ↦ inr (sym (at_later base o os n t.1) ∙ e)
]

pub at_within : (base : ℕ) (os : List Object) (n : ℕ) (q : Object) → object_at base os n ≡ Some q → (base ≤ n) × (n < base + length os)
at_within base [] n q e = absurd (none_some q e)
at_within base (o ∷ os) n q e = elim (at_parts base o os n q e) [
  | inl t ↦ (let s = t.0 in (omega (arith, s), omega (arith, s)))
  | inr later ↦ (let w = at_within (suc base) os n q later in let a = w.0 in let b = w.1 in (omega (arith, a), omega (arith, b)))
]

pub behind_first : (base : ℕ) (o : Object) (os : List Object) (n : ℕ) (q : Object) → object_at (suc base) os n ≡ Some q → object_at base (o ∷ os) n ≡ Some q
behind_first base o os n q e =
    let w = (at_within (suc base) os n q e).0 in
    at_later base o os n (λ s. omega (arith, s, w)) ∙ e

pub at_there : (base : ℕ) (os : List Object) (n : ℕ) → base ≤ n → n < base + length os → (o : Object) × (object_at base os n ≡ Some o)
at_there base [] n low high = absurd (omega (arith, low, high))
at_there base (o ∷ os) n low high = elim (eqb_tells n base) [
  | inl t ↦ (o, ap (object_at base (o ∷ os)) t.1 ∙ at_first base o os)
  | inr t ↦
      let other = t.1 in
      let more : suc base ≤ n = elim (eqb_tells n base) [ inl s ↦ absurd (other s.1) | inr s ↦ least base n low other ] in
      let r = at_there (suc base) os n more (omega (arith, high)) in
      (r.0, behind_first base o os n r.0 r.1)
]
  where
    least : (b n : ℕ) → b ≤ n → (n ≡ b → ⊥) → suc b ≤ n
    least zero zero le other = absurd (other refl)
    least zero (suc n) le other = omega arith
    least (suc b) zero le other = absurd (omega (arith, le))
    least (suc b) (suc n) le other = let r = least b n (omega (arith, le)) (λ e. other (ap suc e)) in omega (arith, r)

pub at_left : (base : ℕ) (os qs : List Object) (n : ℕ) (o : Object) → object_at base os n ≡ Some o → object_at base (os ++ qs) n ≡ Some o
at_left base [] qs n o e = absurd (none_some o e)
at_left base (x ∷ os) qs n o e = elim (at_parts base x os n o e) [
  | inl t ↦ ap (object_at base (x ∷ (os ++ qs))) t.0 ∙ (at_first base x (os ++ qs) ∙ ap (λ (z : Object). Some z) t.1)
  | inr later ↦ behind_first base x (os ++ qs) n o (at_left (suc base) os qs n o later)
]

pub at_right : (base : ℕ) (os qs : List Object) (n : ℕ) (o : Object) → object_at (base + length os) qs n ≡ Some o → object_at base (os ++ qs) n ≡ Some o
at_right base [] qs n o e = subst (λ (k : ℕ). object_at k qs n ≡ Some o) (let z : base + 0 ≡ base = omega arith in z) e
at_right base (x ∷ os) qs n o e =
    behind_first base x (os ++ qs) n o (at_right (suc base) os qs n o (subst (λ (k : ℕ). object_at k qs n ≡ Some o) (let z : base + suc (length os) ≡ suc base + length os = omega arith in z) e))

pub at_split : (base : ℕ) (os qs : List Object) (n : ℕ) (o : Object) → object_at base (os ++ qs) n ≡ Some o → (object_at base os n ≡ Some o) ⊎ (object_at (base + length os) qs n ≡ Some o)
at_split base [] qs n o e = inr (subst (λ (k : ℕ). object_at k qs n ≡ Some o) (let z : base ≡ base + 0 = omega arith in z) e)
at_split base (x ∷ os) qs n o e = elim (at_parts base x (os ++ qs) n o e) [
  | inl t ↦ inl (ap (object_at base (x ∷ os)) t.0 ∙ (at_first base x os ∙ ap (λ (z : Object). Some z) t.1))
  | inr later ↦ elim (at_split (suc base) os qs n o later) [
    | inl l ↦ inl (behind_first base x os n o l)
    | inr r ↦ inr (subst (λ (k : ℕ). object_at k qs n ≡ Some o) (let z : suc base + length os ≡ base + suc (length os) = omega arith in z) r)
  ]
]

-- ---- each named once

-- what the object holds at a place, fields at even ones and elements at odd ones
abbrev pub held : Object → ℕ → Option ℕ
held o i = held_by o (half i)

pub record Owned (base : ℕ) (vs : List Value) (os : List Object) : Type 0 where
  pub tops : (k x : ℕ) → slice_get vs k ≡ Some (Ref x) → (base ≤ x) × (x < base + length os)
  -- an object holds later ones alone
  pub later : (n i x : ℕ) (o : Object) → object_at base os n ≡ Some o → held o i ≡ Some x → (n < x) × (x < base + length os)
  pub tops_once : (k l x : ℕ) → slice_get vs k ≡ Some (Ref x) → slice_get vs l ≡ Some (Ref x) → k ≡ l
  pub apart : (k n i x : ℕ) (o : Object) → slice_get vs k ≡ Some (Ref x) → object_at base os n ≡ Some o → held o i ≡ Some x → ⊥
  pub once : (n m i j x : ℕ) (o q : Object) → object_at base os n ≡ Some o → object_at base os m ≡ Some q → held o i ≡ Some x → held q j ≡ Some x → (n ≡ m) × (i ≡ j)

pub no_values : (base : ℕ) → Owned base [] []
no_values base = record {
  tops = λ k x e. absurd (none_some (Ref x) e);
  later = λ n i x o e d. absurd (none_some o e);
  tops_once = λ k l x e d. absurd (none_some (Ref x) e);
  apart = λ k n i x o e d f. absurd (none_some (Ref x) e);
  once = λ n m i j x o q e d f g. absurd (none_some o e);
}

one_value : (v : Value) (k : ℕ) (x : Value) → slice_get (v ∷ []) k ≡ Some x → (k ≡ 0) × (v ≡ x)
one_value v zero x e = (refl, some_same v x e)
one_value v (suc k) x e = absurd (none_some x e)

-- a value that is no object
pub leaf_owned : (base : ℕ) (v : Value) → refers v ≡ None → Owned base (v ∷ []) []
leaf_owned base v none = record {
  tops = λ k x e. absurd (no_ref k x e);
  later = λ n i x o e d. absurd (none_some o e);
  tops_once = λ k l x e d. absurd (no_ref k x e);
  apart = λ k n i x o e d f. absurd (no_ref k x e);
  once = λ n m i j x o q e d f g. absurd (none_some o e);
}
  where
    no_ref : (k x : ℕ) → slice_get (v ∷ []) k ≡ Some (Ref x) → ⊥
    no_ref k x e = none_some x (sym none ∙ ap refers (one_value v k (Ref x) e).1)

-- what an object holds are these values, each at a place of its own
abbrev pub HoldsThese : (ℕ → ℕ) → Object → List Value → Type 0
HoldsThese place o vs = (i x : ℕ) → held o i ≡ Some x → (k : ℕ) × (slice_get vs k ≡ Some (Ref x)) × (i ≡ place k)

-- an object of values
pub object_owned : (base : ℕ) (place : ℕ → ℕ) (o : Object) (vs : List Value) (os : List Object) → HoldsThese place o vs → Owned (suc base) vs os → Owned base (Ref base ∷ []) (o ∷ os)
object_owned base place o vs os holds below = record {
  tops = λ k x e. (let s = the_base k x e in (omega (arith, s), omega (arith, s)));
  later = later;
  tops_once = λ k l x e d. (one_value (Ref base) k (Ref x) e).0 ∙ sym (one_value (Ref base) l (Ref x) d).0;
  apart = λ k n i x q e at h.
      let s = the_base k x e in
      let low = (at_within base (o ∷ os) n q at).0 in
      let more = (later n i x q at h).0 in
      omega (arith, s, low, more);
  once = λ n m i j x a b at there h g. elim (at_parts base o os n a at) [
    | inl s ↦ elim (at_parts base o os m b there) [
      | inl t ↦ (s.0 ∙ sym t.0, same_place i j x (ap (λ (z : Object). held z i) s.1 ∙ h) (ap (λ (z : Object). held z j) t.1 ∙ g))
      | inr t ↦ let w = holds i x (ap (λ (z : Object). held z i) s.1 ∙ h) in absurd (below.apart w.0 m j x b w.1 t g)
    ]
    | inr s ↦ elim (at_parts base o os m b there) [
      | inl t ↦ let w = holds j x (ap (λ (z : Object). held z j) t.1 ∙ g) in absurd (below.apart w.0 n i x a w.1 s h)
      | inr t ↦ below.once n m i j x a b s t h g
    ]
  ];
}
  where
    the_base : (k x : ℕ) → slice_get (Ref base ∷ []) k ≡ Some (Ref x) → base ≡ x
    the_base k x e = some_same base x (ap refers (one_value (Ref base) k (Ref x) e).1)

    same_place : (i j x : ℕ) → held o i ≡ Some x → held o j ≡ Some x → i ≡ j
    same_place i j x h g =
        let a = holds i x h in
        let b = holds j x g in
        a.2 ∙ (ap place (below.tops_once a.0 b.0 x a.1 b.1) ∙ sym b.2)

    later : (n i x : ℕ) (q : Object) → object_at base (o ∷ os) n ≡ Some q → held q i ≡ Some x → (n < x) × (x < base + suc (length os))
    later n i x q at h = elim (at_parts base o os n q at) [
      | inl s ↦
          let w = holds i x (ap (λ (z : Object). held z i) s.1 ∙ h) in
          let t = below.tops w.0 x w.1 in
          let a = t.0 in
          let b = t.1 in
          let e = s.0 in
          (omega (arith, a, e), omega (arith, b))
      | inr s ↦
          let t = below.later n i x q s h in
          let b = t.1 in
          (t.0, omega (arith, b))
    ]

-- one value more
pub more_owned : (base : ℕ) (v : Value) (vs : List Value) (os qs : List Object) → Owned base (v ∷ []) os → Owned (base + length os) vs qs → Owned base (v ∷ vs) (os ++ qs)
more_owned base v vs os qs first rest = record {
  tops = tops;
  later = later;
  tops_once = tops_once;
  apart = apart;
  once = λ n m i j x a b at there h g. elim (at_split base os qs n a at) [
    | inl s ↦ elim (at_split base os qs m b there) [
      | inl t ↦ first.once n m i j x a b s t h g
      | inr t ↦ absurd (far n m i j x a b s t h g)
    ]
    | inr s ↦ elim (at_split base os qs m b there) [
      | inl t ↦ absurd (far m n j i x b a t s g h)
      | inr t ↦ rest.once n m i j x a b s t h g
    ]
  ];
}
  where
    long : length (os ++ qs) ≡ length os + length qs
    long = length-append os qs

    tops : (k x : ℕ) → slice_get (v ∷ vs) k ≡ Some (Ref x) → (base ≤ x) × (x < base + length (os ++ qs))
    tops zero x e =
        let t = first.tops 0 x e in
        let a = t.1 in
        (t.0, omega (arith, a, long))
    tops (suc k) x e =
        let t = rest.tops k x e in
        let a = t.0 in
        let b = t.1 in
        (omega (arith, a), omega (arith, b, long))

    later : (n i x : ℕ) (o : Object) → object_at base (os ++ qs) n ≡ Some o → held o i ≡ Some x → (n < x) × (x < base + length (os ++ qs))
    later n i x o at h = elim (at_split base os qs n o at) [
      | inl s ↦ (let t = first.later n i x o s h in let b = t.1 in (t.0, omega (arith, b, long)))
      | inr s ↦ (let t = rest.later n i x o s h in let b = t.1 in (t.0, omega (arith, b, long)))
    ]

    tops_once : (k l x : ℕ) → slice_get (v ∷ vs) k ≡ Some (Ref x) → slice_get (v ∷ vs) l ≡ Some (Ref x) → k ≡ l
    tops_once zero zero x e d = refl
    tops_once zero (suc l) x e d = let a = (first.tops 0 x e).1 in let b = (rest.tops l x d).0 in absurd (omega (arith, a, b))
    tops_once (suc k) zero x e d = let a = (first.tops 0 x d).1 in let b = (rest.tops k x e).0 in absurd (omega (arith, a, b))
    tops_once (suc k) (suc l) x e d = ap suc (rest.tops_once k l x e d)

    apart : (k n i x : ℕ) (o : Object) → slice_get (v ∷ vs) k ≡ Some (Ref x) → object_at base (os ++ qs) n ≡ Some o → held o i ≡ Some x → ⊥
    apart zero n i x o e at h = elim (at_split base os qs n o at) [
      | inl s ↦ first.apart 0 n i x o e s h
      | inr s ↦
          let a = (first.tops 0 x e).1 in
          let b = (at_within (base + length os) qs n o s).0 in
          let c = (rest.later n i x o s h).0 in
          omega (arith, a, b, c)
    ]
    apart (suc k) n i x o e at h = elim (at_split base os qs n o at) [
      | inl s ↦ (let a = (rest.tops k x e).0 in let b = (first.later n i x o s h).1 in omega (arith, a, b))
      | inr s ↦ rest.apart k n i x o e s h
    ]

    far : (n m i j x : ℕ) (a b : Object) → object_at base os n ≡ Some a → object_at (base + length os) qs m ≡ Some b → held a i ≡ Some x → held b j ≡ Some x → ⊥
    far n m i j x a b at there h g =
        let c = (first.later n i x a at h).1 in
        let d = (at_within (base + length os) qs m b there).0 in
        let e = (rest.later m j x b there g).0 in
        omega (arith, c, d, e)

-- ---- an object of some values holds these

the_ref : (v : Value) (x : ℕ) → refers v ≡ Some x → v ≡ Ref x
the_ref (Ref n) x e = ap Ref (some_same n x e)
the_ref (Int n) x e = absurd (none_some x e)
the_ref (Long n) x e = absurd (none_some x e)
the_ref Null x e = absurd (none_some x e)
the_ref (Text units) x e = absurd (none_some x e)
the_ref (Box box) x e = absurd (none_some x e)
the_ref Fiber x e = absurd (none_some x e)

pub ref_in : (o : Option Value) (x : ℕ) → refers_in o ≡ Some x → o ≡ Some (Ref x)
ref_in None x e = absurd (none_some x e)
ref_in (Some v) x e = ap (λ (z : Value). Some z) (the_ref v x e)

pub record Keyed (fs : List FieldId) (vs : List Value) (g : FieldId) (v : Value) : Type 0 where
  pub k : ℕ
  pub key : FieldId
  pub is : slice_get vs k ≡ Some v
  pub keyed : slice_get fs k ≡ Some key
  pub same : key.0 ≡ g.0

pub keyed_at : (fs : List FieldId) (vs : List Value) (g : FieldId) (v : Value) → field_in (with_keys fs vs) g ≡ Some v → Keyed fs vs g v
keyed_at [] vs g v e = absurd (none_some v e)
keyed_at (f ∷ fs) [] g v e = absurd (none_some v e)
keyed_at (f ∷ fs) (w ∷ vs) g v e = by (eqb f.0 g.0) refl e (λ d. keyed_at fs vs g v d)
  where
    by : (b : Bool) → eqb f.0 g.0 ≡ b → cond b (Some w) (field_in (with_keys fs vs) g) ≡ Some v → (field_in (with_keys fs vs) g ≡ Some v → Keyed fs vs g v) → Keyed (f ∷ fs) (w ∷ vs) g v
    by true t d again = record { k = 0; key = f; is = d; keyed = refl; same = eqb-true f.0 g.0 t }
    by false t d again = let r = again d in record { k = suc r.k; key = r.key; is = r.is; keyed = r.keyed; same = r.same }

abbrev number_or : Option FieldId → ℕ
number_or None = 0
number_or (Some f) = f.0

-- the place at which the object holds the value of a number
abbrev pub place_of : Program → ℕ → Base → ℕ → ℕ
place_of p zero b k = 2 * number_or (slice_get (fields_in_order p b) k)
place_of p (suc d) b k = 2 * k + 1

abbrev pub of_fields : Program → Base → List Value → Object
of_fields p b vs = record { class = record { dims = 0; base = b }; fields = with_keys (fields_in_order p b) vs; elements = [] }

abbrev pub of_elements : ℕ → Base → List Value → Object
of_elements d b vs = record { class = record { dims = suc d; base = b }; fields = []; elements = vs }

-- an object by its dimensions
pub of_array : (p : Program) (d : ℕ) (b : Base) (vs : List Value) → object_of p (record { dims = suc d; base = b }) vs ≡ of_elements d b vs
of_array p d b vs = picked (eqb (suc d) 0) (ne_eqb (suc d) 0 (λ e. omega (arith, e)))
  where
    picked : (z : Bool) → z ≡ false → cond {A = Object} z (record { class = record { dims = suc d; base = b }; fields = with_keys (fields_in_order p b) vs; elements = [] }) (of_elements d b vs) ≡ of_elements d b vs
    picked true e = absurd (cc)
    picked false e = refl

fields_held : (p : Program) (b : Base) (vs : List Value) → HoldsThese (place_of p 0 b) (of_fields p b vs) vs
fields_held p b vs i x h = by (half i) (place_is i) h
  where
    by : (z : Bool × ℕ) → ((i ≡ 2 * z.1) × (z.0 ≡ false)) ⊎ ((i ≡ 2 * z.1 + 1) × (z.0 ≡ true)) → held_by (of_fields p b vs) z ≡ Some x → (k : ℕ) × (slice_get vs k ≡ Some (Ref x)) × (i ≡ place_of p 0 b k)
    by (false, n) (inl w) e =
        let r = keyed_at (fields_in_order p b) vs (field_id n) (Ref x) (ref_in (field_in (with_keys (fields_in_order p b) vs) (field_id n)) x e) in
        (r.k, r.is, w.0 ∙ ap (λ (j : ℕ). 2 * j) (sym (ap number_or r.keyed ∙ r.same)))
    by (false, n) (inr w) e = absurd (cc)
    by (true, n) w e = absurd (none_some x e)

elements_held : (p : Program) (d : ℕ) (b : Base) (vs : List Value) → HoldsThese (place_of p (suc d) b) (of_elements d b vs) vs
elements_held p d b vs i x h = by (half i) (place_is i) h
  where
    by : (z : Bool × ℕ) → ((i ≡ 2 * z.1) × (z.0 ≡ false)) ⊎ ((i ≡ 2 * z.1 + 1) × (z.0 ≡ true)) → held_by (of_elements d b vs) z ≡ Some x → (k : ℕ) × (slice_get vs k ≡ Some (Ref x)) × (i ≡ place_of p (suc d) b k)
    by (true, n) (inr w) e = (n, ref_in (slice_get vs n) x e, w.0)
    by (true, n) (inl w) e = absurd (cc)
    by (false, n) w e = absurd (none_some x e)

pub these_held : (p : Program) (d : ℕ) (b : Base) (vs : List Value) → HoldsThese (place_of p d b) (object_of p (record { dims = d; base = b }) vs) vs
these_held p zero b vs = fields_held p b vs
these_held p (suc d) b vs = subst (λ (o : Object). HoldsThese (place_of p (suc d) b) o vs) (sym (of_array p d b vs)) (elements_held p d b vs)
