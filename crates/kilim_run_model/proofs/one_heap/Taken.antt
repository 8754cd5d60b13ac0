-- A tree that comes into a thread's heap.
use Rattle.std.proofs.Common.{◌≡◌, ℕ, suc, ◌+◌, ◌<◌, ◌≤◌, Bool, cond, List, [], ◌∷◌, length, Option, Some, None, refl, sym, ap, subst, ◌∙◌, ◌⊎◌, inl, inr, arith}
use Rattle.std.proofs.lemmas.Bool.Decides.{eqb_tells}
use Rattle.std.proofs.lemmas.Bool.{ne_eqb}
use Rattle.std.specs.FinMap.{get, insert}
use Rattle.kilim_run_state.specs.declared.value.Object.{Object}
use Rattle.kilim_run_state.specs.Machine.{Objects}
use Rattle.kilim_run_state.specs.Trees.{with_objects}
use Rattle.kilim_run_model.specs.Kept.{IsIn, IsOnce}
use Rattle.kilim_run_model.specs.kin.Kin.{Names, Owner, OfTask, ObjectsKin, Alike}
use Rattle.kilim_run_model.specs.kin.trees.TreeKin.{Copies, names_from}
use Rattle.kilim_lemmas.proofs.Maps.{put_there, put_other}
use Rattle.std.proofs.lemmas.Option.{same_Some, none-some}
use Rattle.kilim_run_model.proofs.kin.Kins.{object_up}
use Rattle.kilim_run_model.proofs.kin.trees.Copied.{first_name, names_bounds, copies_length}
use Rattle.kilim_run_model.proofs.one_heap.Owners.{marked, marked_in, marked_out}

-- ---- new names

names_below : (base : ℕ) (xs : List ℕ) (n : ℕ) → n < base → names_from base xs n ≡ None
names_below base [] n lt = refl
names_below base (y ∷ ys) n lt = ap (λ (b : Bool). cond b (Some y) (names_from (suc base) ys n)) (ne_eqb n base (λ e. omega (arith, e, lt))) ∙ names_below (suc base) ys n (omega (arith, lt))

names_apart : (base : ℕ) (xs : List ℕ) (n m x : ℕ) → IsOnce xs → names_from base xs n ≡ Some x → names_from base xs m ≡ Some x → n ≡ m
names_apart base [] n m x o e d = absurd (none-some x e)
names_apart base (y ∷ ys) n m x o e d =
    let at : (i : ℕ) → names_from base (y ∷ ys) i ≡ Some x → ((i ≡ base) × (x ≡ y)) ⊎ (names_from (suc base) ys i ≡ Some x) = λ i f. elim (eqb_tells i base) [
      | inl t ↦ inl (t.1, sym (same_Some _ _ (sym (ap (λ (b : Bool). cond b (Some y) (names_from (suc base) ys i)) t.0) ∙ f)))
      | inr t ↦ inr (sym (ap (λ (b : Bool). cond b (Some y) (names_from (suc base) ys i)) t.0) ∙ f)
    ] in
    elim (at n e) [
      | inl a ↦ elim (at m d) [
        | inl b ↦ a.0 ∙ sym b.0
        | inr b ↦ absurd (o.0 (subst (λ (z : ℕ). IsIn z ys) a.1 (names_bounds (suc base) ys m x b).2))
      ]
      | inr a ↦ elim (at m d) [
        | inl b ↦ absurd (o.0 (subst (λ (z : ℕ). IsIn z ys) b.1 (names_bounds (suc base) ys n x a).2))
        | inr b ↦ names_apart (suc base) ys n m x o.1 a b
      ]
    ]

-- ---- new objects

abbrev IsObject : ℕ → List Object → ℕ → Object → Type 0
IsObject base [] n o = ⊥
IsObject base (q ∷ os) n o = ((n ≡ base) × (q ≡ o)) ⊎ IsObject (suc base) os n o

with_one : (h : Objects) (base : ℕ) (os : List Object) (n : ℕ) (o : Object) → get (with_objects h base os) n ≡ Some o → (get h n ≡ Some o) ⊎ IsObject base os n o
with_one h base [] n o e = inl e
with_one h base (q ∷ os) n o e = elim (with_one (insert h base q) (suc base) os n o e) [
  | inl d ↦ elim (eqb_tells n base) [
    | inl t ↦ inr (inl (t.1, same_Some _ _ (sym (ap (get (insert h base q)) t.1 ∙ put_there h base q) ∙ d)))
    | inr t ↦ inl (sym (put_other h base q n t.1) ∙ d)
  ]
  | inr d ↦ inr (inr d)
]

object_above : (base : ℕ) (os : List Object) (n : ℕ) (o : Object) → IsObject base os n o → base ≤ n
object_above base [] n o e = absurd e
object_above base (q ∷ os) n o (inl e) = omega (arith, e.0)
object_above base (q ∷ os) n o (inr e) = let le = object_above (suc base) os n o e in omega (arith, le)

object_at : (of : Names) (k : Objects) (base : ℕ) (os : List Object) (xs : List ℕ) (n : ℕ) (o : Object) → Copies of k os xs → IsObject base os n o →
    (x : ℕ) × (q : Object) × (names_from base xs n ≡ Some x) × (get k x ≡ Some q) × ObjectsKin of o q × IsIn x xs
object_at of k base [] [] n o c e = absurd e
object_at of k base (q ∷ os) (x ∷ xs) n o c (inl e) =
    (x, c.0, ap (names_from base (x ∷ xs)) e.0 ∙ first_name base x xs, c.1, subst (λ (z : Object). ObjectsKin of z c.0) e.1 c.2, inl refl)
object_at of k base (q ∷ os) (x ∷ xs) n o c (inr e) =
    let le = object_above (suc base) os n o e in
    let w = object_at of k (suc base) os xs n o c.3 e in
    (w.0, w.1, ap (λ (b : Bool). cond b (Some x) (names_from (suc base) xs n)) (ne_eqb n base (λ z. omega (arith, z, le))) ∙ w.2, w.3, w.4, inr w.5)
object_at of k base [] (x ∷ xs) n o c e = absurd c
object_at of k base (q ∷ os) [] n o c e = absurd c

-- ---- names of the new objects, and of those before

pick_name : Option ℕ → Option ℕ → Option ℕ
pick_name None later = later
pick_name (Some x) later = Some x

pub joined : Names → Names → Names
unfolding pick_name
joined new of n = pick_name (new n) (of n)

pub joined_first : (base y : ℕ) (ys : List ℕ) (of : Names) → joined (names_from base (y ∷ ys)) of base ≡ Some y
unfolding joined
joined_first base y ys of = ap (λ (z : Option ℕ). pick_name z (of base)) (first_name base y ys)

module _ (of : Names) (owner : ℕ → Owner) (t base : ℕ) (h k : Objects) (a : Alike of owner t k h k) (below : (n x : ℕ) → of n ≡ Some x → n < base)
    (os : List Object) (xs : List ℕ) (once : IsOnce xs) (copies : Copies (names_from base xs) k os xs) (apart : (x : ℕ) → IsIn x xs → owner x ≡ OfTask t → ⊥) where
  abbrev more : Names
  more = joined (names_from base xs) of

  pub joined_old : (n x : ℕ) → of n ≡ Some x → more n ≡ Some x
  unfolding joined
  joined_old n x e = ap (λ (z : Option ℕ). pick_name z (of n)) (names_below base xs n (below n x e)) ∙ e

  pub joined_new : (n x : ℕ) → names_from base xs n ≡ Some x → more n ≡ Some x
  unfolding joined
  joined_new n x e = ap (λ (z : Option ℕ). pick_name z (of n)) e

  joined_is : (n x : ℕ) → more n ≡ Some x → (of n ≡ Some x) ⊎ (names_from base xs n ≡ Some x)
  unfolding joined
  joined_is n x e = elim (names_from base xs n) as (λ (z : Option ℕ). pick_name z (of n) ≡ Some x → (of n ≡ Some x) ⊎ (z ≡ Some x)) [ None ↦ λ d. inl d | Some y ↦ λ d. inr d ] e

  pub joined_bound : (n x : ℕ) → more n ≡ Some x → n < base + length os
  joined_bound n x e = elim (joined_is n x e) [
    | inl d ↦ let lt = below n x d in omega (arith, lt)
    | inr d ↦ subst (λ (z : ℕ). n < base + z) (sym (copies_length (names_from base xs) k os xs copies)) (names_bounds base xs n x d).1
  ]

  -- an object of the new heap is an old one, or a new one
  abbrev IsOld : ℕ → ℕ → Object → Type 0
  IsOld n x o = (get h n ≡ Some o) × (of n ≡ Some x) × (owner x ≡ OfTask t)

  sides : (n x : ℕ) (o : Object) → get (with_objects h base os) n ≡ Some o → more n ≡ Some x → IsOld n x o ⊎ ((names_from base xs n ≡ Some x) × IsIn x xs)
  sides n x o e d = elim (with_one h base os n o e) [
    | inl f ↦
        let s = a.same n o f in
        let same : s.0 ≡ x = same_Some _ _ (sym (joined_old n s.0 s.2) ∙ d) in
        inl (f, s.2 ∙ ap Some same, ap owner (sym same) ∙ s.5)
    | inr f ↦
        let s = object_at (names_from base xs) k base os xs n o copies f in
        let same : s.0 ≡ x = same_Some _ _ (sym (joined_new n s.0 s.2) ∙ d) in
        inr (s.2 ∙ ap Some same, subst (λ (z : ℕ). IsIn z xs) same s.5)
  ]

  marked_mine : (x : ℕ) → owner x ≡ OfTask t → marked owner xs (OfTask t) x ≡ OfTask t
  marked_mine x e = marked_out owner xs (OfTask t) x (λ i. apart x i e) ∙ e

  pub alike_taken : Alike more (marked owner xs (OfTask t)) t k (with_objects h base os) k
  alike_taken = record {
    same = λ n o e. elim (with_one h base os n o e) [
      | inl f ↦
          let s = a.same n o f in
          (s.0, s.1, joined_old n s.0 s.2, s.3, object_up of more joined_old o s.1 s.4, marked_mine s.0 s.5)
      | inr f ↦
          let s = object_at (names_from base xs) k base os xs n o copies f in
          (s.0, s.1, joined_new n s.0 s.2, s.3, object_up (names_from base xs) more joined_new o s.1 s.4, marked_in owner xs (OfTask t) s.0 s.5)
    ];
    apart = λ n m x o q c d f g. elim (sides n x o f c) [
      | inl u ↦ elim (sides m x q g d) [
        | inl v ↦ a.apart n m x o q u.1 v.1 u.0 v.0
        | inr v ↦ absurd (apart x v.1 u.2)
      ]
      | inr u ↦ elim (sides m x q g d) [
        | inl v ↦ absurd (apart x u.1 v.2)
        | inr v ↦ names_apart base xs n m x once u.0 v.0
      ]
    ];
    rest = λ x. inl refl;
  }
