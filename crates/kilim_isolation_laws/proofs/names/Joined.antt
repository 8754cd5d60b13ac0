-- The names in what an object holds, part by part.
use Rattle.std.proofs.Common.{◌≡◌, ◌⊎◌, inl, inr, ℕ, zero, suc, true, List, [], ◌∷◌, ◌++◌, Option, Some, None, refl, sym, ap, subst, ◌∙◌}
use Rattle.std.specs.Prelude.{slice_get}
use Rattle.std.specs.FinMap.{get}
use Rattle.kilim_program.specs.declared.value.Value.{Value}
use Rattle.kilim_program.specs.declared.value.Value.TheVariants.{Int, Long, Null, Ref, Text, Box, Fiber}
use Rattle.kilim_program.specs.Names.{◌>>=◌}
use Rattle.kilim_program.specs.Program.{Program}
use Rattle.kilim_run_state.specs.declared.value.Object.{Object}
use Rattle.kilim_run_state.specs.declared.value.Token.{Token}
use Rattle.kilim_run_state.specs.Machine.{Objects}
use Rattle.kilim_run_state.specs.Shapes.{joined_tokens, value_tokens}
use Rattle.kilim_run_state.specs.Trees.{joined_names, names_where, value_names}
use Rattle.kilim_run_model.specs.Kept.{IsIn, IsOnce}
use Rattle.kilim_isolation_laws.specs.forest.Heap.{Below, Heap, IsForest}
use Rattle.kilim_isolation_laws.proofs.forest.Paths.{comparable}
use Rattle.kilim_isolation_laws.proofs.forest.Walks.{one_child}

-- ---- lists of names

in_left : (q : ℕ) (xs ys : List ℕ) → IsIn q xs → IsIn q (xs ++ ys)
in_left q [] ys i = absurd i
in_left q (x ∷ xs) ys (inl e) = inl e
in_left q (x ∷ xs) ys (inr i) = inr (in_left q xs ys i)

in_right : (q : ℕ) (xs ys : List ℕ) → IsIn q ys → IsIn q (xs ++ ys)
in_right q [] ys i = i
in_right q (x ∷ xs) ys i = inr (in_right q xs ys i)

in_either : (q : ℕ) (xs ys : List ℕ) → IsIn q (xs ++ ys) → IsIn q xs ⊎ IsIn q ys
in_either q [] ys i = inr i
in_either q (x ∷ xs) ys (inl e) = inl (inl e)
in_either q (x ∷ xs) ys (inr i) = elim (in_either q xs ys i) [ inl j ↦ inl (inr j) | inr j ↦ inr j ]

once_both : (xs ys : List ℕ) → IsOnce xs → IsOnce ys → ((q : ℕ) → IsIn q xs → IsIn q ys → ⊥) → IsOnce (xs ++ ys)
once_both [] ys a b none = b
once_both (x ∷ xs) ys a b none = (λ i. elim (in_either x xs ys i) [ inl j ↦ a.0 j | inr j ↦ none x (inl refl) j ], once_both xs ys a.1 b (λ q i j. none q (inr i) j))

module _ {A : Type 0} (g : A → List ℕ) where
  record IsInOne (q : ℕ) (items : List A) : Type 0 where
    place : ℕ
    item : A
    at : slice_get items place ≡ Some item
    is : IsIn q (g item)

  in_one : (q : ℕ) (items : List A) → IsIn q (joined_names g items) → IsInOne q items
  in_one q [] i = absurd i
  in_one q (a ∷ items) i = elim (in_either q (g a) (joined_names g items) i) [
    | inl j ↦ record { place = 0; item = a; at = refl; is = j }
    | inr j ↦ (let r = in_one q items j in record { place = suc r.place; item = r.item; at = r.at; is = r.is })
  ]

  in_all : (q : ℕ) (items : List A) (k : ℕ) (a : A) → slice_get items k ≡ Some a → IsIn q (g a) → IsIn q (joined_names g items)
  in_all q [] k a at i = absurd (cc)
  in_all q (b ∷ items) zero a at i = in_left q (g b) (joined_names g items) (subst (λ (x : A). IsIn q (g x)) (sym (let s : b ≡ a = cc in s)) i)
  in_all q (b ∷ items) (suc k) a at i = in_right q (g b) (joined_names g items) (in_all q items k a at i)

  once_all : (items : List A) → ((k : ℕ) (a : A) → slice_get items k ≡ Some a → IsOnce (g a)) → ((j k : ℕ) (a b : A) (q : ℕ) → slice_get items j ≡ Some a → slice_get items k ≡ Some b → IsIn q (g a) → IsIn q (g b) → j ≡ k) →
      IsOnce (joined_names g items)
  once_all [] each one = tt
  once_all (a ∷ items) each one =
      once_both (g a) (joined_names g items) (each 0 a refl) (once_all items (λ k b at. each (suc k) b at) (λ j k b c q s t x y. let e = one (suc j) (suc k) b c q s t x y in next j k e))
      (λ q i j. let r = in_one q items j in apart r.place (one 0 (suc r.place) a r.item q refl r.at i r.is))
    where
      next : (j k : ℕ) → suc j ≡ suc k → j ≡ k
      next j k e = cc

      apart : (k : ℕ) → 0 ≡ suc k → ⊥
      apart k e = cc

tokens_of_one : {A : Type 0} (tokens : A → Option (List Token)) (items : List A) (ts : List Token) (k : ℕ) (a : A) → joined_tokens tokens items ≡ Some ts → slice_get items k ≡ Some a → (us : List Token) × (tokens a ≡ Some us)
tokens_of_one tokens [] ts k a e at = absurd (cc)
tokens_of_one {A} tokens (b ∷ items) ts zero a e at = by (tokens b) refl e
  where
    by : (o : Option (List Token)) → tokens b ≡ o → (o >>= λ first. joined_tokens tokens items >>= λ others. Some (first ++ others)) ≡ Some ts → (us : List Token) × (tokens a ≡ Some us)
    by None is e = absurd (cc)
    by (Some us) is e = (us, ap tokens (sym (let s : b ≡ a = cc in s)) ∙ is)
tokens_of_one tokens (b ∷ items) ts (suc k) a e at = by (tokens b) (joined_tokens tokens items) refl e (λ us is. tokens_of_one tokens items us k a is at)
  where
    by : (o r : Option (List Token)) → joined_tokens tokens items ≡ r → (o >>= λ first. r >>= λ others. Some (first ++ others)) ≡ Some ts → ((us : List Token) → joined_tokens tokens items ≡ Some us → (vs : List Token) × (tokens a ≡ Some vs)) → (vs : List Token) × (tokens a ≡ Some vs)
    by None r is e again = absurd (cc)
    by (Some first) None is e again = absurd (cc)
    by (Some first) (Some others) is e again = again others is

-- ---- an object's values

module _ (p : Program) (h : Objects) where
  -- names are those of references alone
  only_ref : (d : ℕ) (v : Value) (q : ℕ) → IsIn q (value_names p h d v) → (y : ℕ) × (v ≡ Ref y)
  only_ref zero v q i = absurd i
  only_ref (suc d) (Ref y) q i = (y, refl)
  only_ref (suc d) (Int x) q i = absurd i
  only_ref (suc d) (Long x) q i = absurd i
  only_ref (suc d) Null q i = absurd i
  only_ref (suc d) (Text u) q i = absurd i
  only_ref (suc d) (Box b) q i = absurd i
  only_ref (suc d) Fiber q i = absurd i

  once_value : (d : ℕ) (v : Value) → ((y : ℕ) → v ≡ Ref y → IsOnce (value_names p h d (Ref y))) → IsOnce (value_names p h d v)
  once_value zero v e = tt
  once_value (suc d) (Ref y) e = e y refl
  once_value (suc d) (Int x) e = tt
  once_value (suc d) (Long x) e = tt
  once_value (suc d) Null e = tt
  once_value (suc d) (Text u) e = tt
  once_value (suc d) (Box b) e = tt
  once_value (suc d) Fiber e = tt

  abbrev pub look : ℕ → Option Object
  look n = get h n

  -- An object's items: each has a place in the heap, and a value or none.
  module _ {A : Type 0} (t : Heap) (n d : ℕ) (val : A → Option Value) (place : ℕ → A → ℕ) (items : List A) (edge : (k : ℕ) (a : A) (y : ℕ) → slice_get items k ≡ Some a → val a ≡ Some (Ref y) → t.to n (place k a) ≡ Some y)
      (back : (i x : ℕ) → t.to n i ≡ Some x → (k : ℕ) × (a : A) × (slice_get items k ≡ Some a) × (val a ≡ Some (Ref x))) (apart : (j k : ℕ) (a b : A) → slice_get items j ≡ Some a → slice_get items k ≡ Some b → place j a ≡ place k b → j ≡ k) where
    abbrev names_of : A → List ℕ
    names_of a = names_where (value_names p h d) (val a)

    abbrev tokens_of : A → Option (List Token)
    tokens_of a = val a >>= value_tokens p look d

    pub record IsChild (q : ℕ) : Type 0 where
      pub slot : ℕ
      pub child : ℕ
      pub holds : t.to n slot ≡ Some child
      pub is : IsIn q (value_names p h d (Ref child))

    record RefItem (k : ℕ) (a : A) (q : ℕ) : Type 0 where
      child : ℕ
      ref : val a ≡ Some (Ref child)
      is : IsIn q (value_names p h d (Ref child))

    ref_item : (k : ℕ) (a : A) (q : ℕ) → IsIn q (names_of a) → RefItem k a q
    ref_item k a q i = by (val a) refl i
      where
        by : (o : Option Value) → val a ≡ o → IsIn q (names_where (value_names p h d) o) → RefItem k a q
        by None is i = absurd i
        by (Some v) is i = let r = only_ref d v q i in record { child = r.0; ref = is ∙ ap (λ (x : Value). Some x) r.1; is = subst (λ (x : Value). IsIn q (value_names p h d x)) r.1 i }

    pub in_child : (q : ℕ) → IsIn q (joined_names names_of items) → IsChild q
    in_child q i =
        let r = in_one names_of q items i in
        let c = ref_item r.place r.item q r.is in
        record { slot = place r.place r.item; child = c.child; holds = edge r.place r.item c.child r.at c.ref; is = c.is }

    pub child_in : (q i y : ℕ) → t.to n i ≡ Some y → IsIn q (value_names p h d (Ref y)) → IsIn q (joined_names names_of items)
    child_in q i y e is =
        let b = back i y e in
        in_all names_of q items b.0 b.1 b.2 (subst (λ (o : Option Value). IsIn q (names_where (value_names p h d) o)) (sym b.3) is)

    pub child_tokens : (i y : ℕ) (ts : List Token) → t.to n i ≡ Some y → joined_tokens tokens_of items ≡ Some ts → (us : List Token) × (value_tokens p look d (Ref y) ≡ Some us)
    child_tokens i y ts e is =
        let b = back i y e in
        let r = tokens_of_one tokens_of items ts b.0 b.1 is b.2 in
        (r.0, ap (λ (o : Option Value). o >>= value_tokens p look d) (sym b.3) ∙ r.1)

    pub once_held : IsForest t → ((y q : ℕ) → t.has y ≡ true → IsIn q (value_names p h d (Ref y)) → Below t y q) → ((i y : ℕ) → t.to n i ≡ Some y → IsOnce (value_names p h d (Ref y))) → IsOnce (joined_names names_of items)
    once_held forest below each = once_all names_of items one two
      where
        one : (k : ℕ) (a : A) → slice_get items k ≡ Some a → IsOnce (names_of a)
        one k a at = by (val a) refl
          where
            by : (o : Option Value) → val a ≡ o → IsOnce (names_where (value_names p h d) o)
            by None is = tt
            by (Some v) is = once_value d v (λ y e. each (place k a) y (edge k a y at (is ∙ ap (λ (x : Value). Some x) e)))

        two : (j k : ℕ) (a b : A) (q : ℕ) → slice_get items j ≡ Some a → slice_get items k ≡ Some b → IsIn q (names_of a) → IsIn q (names_of b) → j ≡ k
        two j k a b q s u x y =
            let c = ref_item j a q x in
            let d2 = ref_item k b q y in
            let ec = edge j a c.child s c.ref in
            let ed = edge k b d2.child u d2.ref in
            let bc = below c.child q (forest.there n (place j a) c.child ec).1 c.is in
            let bd = below d2.child q (forest.there n (place k b) d2.child ed).1 d2.is in
            elim (comparable t forest c.child d2.child q bc bd) [
              | inl w ↦ apart j k a b s u (one_child t forest n (place j a) (place k b) c.child d2.child q ec ed w).0
              | inr w ↦ sym (apart k j b a u s (one_child t forest n (place k b) (place j a) d2.child c.child q ed ec w).0)
            ]
