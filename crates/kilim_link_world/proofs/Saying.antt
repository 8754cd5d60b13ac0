-- What classes say of members, one by one.
use Rattle.std.proofs.Common.{◌≡◌, ℕ, ◌+◌, Bool, true, false, List, [], ◌∷◌, ◌++◌, length, take, Option, Some, None, refl, sym, ap, ◌∙◌, inl, inr, arith}
use Rattle.std.specs.Prelude.{if◌then◌else◌, slice_get, sum_by}
use Rattle.std.specs.List.{position_from}
use Rattle.std.proofs.lemmas.Bool.{cases_lt}
use Rattle.std.proofs.lemmas.Option.{slice_get_past, slice_get_within}
use Rattle.std.proofs.lemmas.List.{length-append, length-take}
use Rattle.std.proofs.lemmas.List.Sums.{sum_by-append, sum_by-cons}
use Rattle.kilim_lemmas.proofs.Lists.{get_last, get_front, take_next}
use Rattle.kilim_link_spec.specs.World.{is_method, methods_at, or_else}
use Rattle.kilim_link_spec.specs.declared.view.ClassView.{ClassView}
use Rattle.kilim_link_inherited.specs.Index.{places_from, positions, same_signature}
use Rattle.kilim_link_inherited.specs.declared.index.Index.{Index}
use Rattle.kilim_link_inherited.specs.declared.said.Said.{Said}
use Rattle.kilim_link_inherited.specs.Nearest.{said_by, said_of}
use Rattle.kilim_link_world.specs.Agrees.{field_count, fields_before, indexed, placed, places_at}
use Rattle.kilim_link_world.proofs.Lists.{position_next}

first_or : (found : Bool) (v : Option ℕ) (more others last : Option (Option ℕ)) → more ≡ or_else others last → (if found then Some v else more) ≡ or_else (if found then Some v else others) last
first_or true v more others last e = refl
first_or false v more others last e = e

-- what is said at the end
said_more : (ss : List Said) (s : Said) (name descriptor : List ℕ) → said_by (ss ++ s ∷ []) name descriptor ≡ or_else (said_by ss name descriptor) (if same_signature s.signature name descriptor then Some s.value else None)
said_more [] s name descriptor = refl
said_more (t ∷ ss) s name descriptor =
    first_or (same_signature t.signature name descriptor) t.value (said_by (ss ++ s ∷ []) name descriptor) (said_by ss name descriptor) (if same_signature s.signature name descriptor then Some s.value else None) (said_more ss s name descriptor)

placed_or : (first : ℕ) (place : Option ℕ) (found : Bool) (i : ℕ) → or_else (placed first place) (if found then Some (Some (first + i)) else None) ≡ placed first (or_else place (if found then Some i else None))
placed_or first (Some k) found i = refl
placed_or first None true i = refl
placed_or first None false i = refl

-- one more member
pub said_next : {A : Type 0} (test : A → Bool) (first : ℕ) (xs : List A) (i : ℕ) (x : A) → slice_get xs i ≡ Some x → (name descriptor : List ℕ) (ss : List Said) (s : Said) → same_signature s.signature name descriptor ≡ test x → s.value ≡ Some (first + i)
    → said_by ss name descriptor ≡ placed first (position_from test 0 (take i xs)) → said_by (ss ++ s ∷ []) name descriptor ≡ placed first (position_from test 0 (take (i + 1) xs))
said_next test first xs i x is name descriptor ss s same value so_far =
    said_more ss s name descriptor
    ∙ (ap (λ (o : Option (Option ℕ)). or_else o (if same_signature s.signature name descriptor then Some s.value else None)) so_far
    ∙ (ap (λ (b : Bool). or_else (placed first (position_from test 0 (take i xs))) (if b then Some s.value else None)) same
    ∙ (ap (λ (v : Option ℕ). or_else (placed first (position_from test 0 (take i xs))) (if test x then Some v else None)) value
    ∙ (placed_or first (position_from test 0 (take i xs)) (test x) i
    ∙ ap (placed first) (sym (position_next test xs i x is))))))

-- ---- one more class

-- the elements of a list that grows at its end, by what another one has that does
module _ {A B C : Type 0} (of_one : Option A → C) (of_other : ℕ → Option B → C) (past : (k : ℕ) → of_one None ≡ of_other k None) where
  pub grown : (xs : List A) (ys : List B) (x : A) (y : B) → length xs ≡ length ys → of_one (Some x) ≡ of_other (length ys) (Some y)
      → ((k : ℕ) → of_one (slice_get xs k) ≡ of_other k (slice_get ys k)) → (k : ℕ) → of_one (slice_get (xs ++ x ∷ []) k) ≡ of_other k (slice_get (ys ++ y ∷ []) k)
  grown xs ys x y same last before k =
      elim (cases_lt k (length xs)) [
        | inl front ↦
            ap of_one (get_front xs (x ∷ []) k front)
            ∙ (before k ∙ ap (of_other k) (sym (get_front ys (y ∷ []) k (omega arith))))
        | inr not_front ↦
            elim (cases_lt (length xs) k) [
              | inl behind ↦
                  let one : slice_get (xs ++ x ∷ []) k ≡ None = slice_get_past (xs ++ x ∷ []) k (let len = length-append xs (x ∷ []) in omega arith) in
                  let other : slice_get (ys ++ y ∷ []) k ≡ None = slice_get_past (ys ++ y ∷ []) k (let len = length-append ys (y ∷ []) in omega arith) in
                  ap of_one one ∙ (past k ∙ ap (of_other k) (sym other))
              | inr at ↦
                  let here : k ≡ length xs = omega arith in
                  let there : length ys ≡ k = omega arith in
                  ap (λ (j : ℕ). of_one (slice_get (xs ++ x ∷ []) j)) here
                  ∙ (ap of_one (get_last xs x)
                  ∙ (last
                  ∙ (ap (of_other (length ys)) (sym (get_last ys y))
                  ∙ ap (λ (j : ℕ). of_other j (slice_get (ys ++ y ∷ []) j)) there)))
            ]
      ]

-- of classes
module _ {M : Type 0} (test : M → Bool) (members : Option ClassView → List M) (none : members None ≡ []) (name descriptor : List ℕ) (first : ℕ → ℕ) where
  abbrev place_in : ℕ → Option ClassView → Option (Option ℕ)
  place_in c o = placed (first c) (position_from test 0 (members o))

  pub class_next : (classes : List ClassView) (i : ℕ) (v : ClassView) (said : List (List Said)) (of_class : List Said) → slice_get classes i ≡ Some v → length said ≡ i
      → said_by of_class name descriptor ≡ placed (first i) (position_from test 0 (members (Some v)))
      → ((c : ℕ) → said_of (slice_get said c) name descriptor ≡ place_in c (slice_get (take i classes) c))
      → (c : ℕ) → said_of (slice_get (said ++ of_class ∷ []) c) name descriptor ≡ place_in c (slice_get (take (i + 1) classes) c)
  class_next classes i v said of_class is len one before c =
      let lt = slice_get_within classes i v is in
      let front : length (take i classes) ≡ i = let k = length-take i classes in omega arith in
      let same : length said ≡ length (take i classes) = len ∙ sym front in
      grown (λ (o : Option (List Said)). said_of o name descriptor) place_in (λ k. ap (λ (ms : List M). placed (first k) (position_from test 0 ms)) (sym none))
      said (take i classes) of_class v same
      (one ∙ ap (λ (k : ℕ). place_in k (Some v)) (sym front)) before c
      ∙ ap (λ (vs : List ClassView). place_in c (slice_get vs c)) (sym (take_next classes i v is))

-- where they have a method
pub indices_next : (name descriptor : List ℕ) (classes : List ClassView) (i : ℕ) (v : ClassView) (indices : List Index) (own : Index) → slice_get classes i ≡ Some v → length indices ≡ i
    → positions own.places name descriptor ≡ places_from (is_method name descriptor) 0 v.methods
    → ((c : ℕ) → indexed indices c name descriptor ≡ places_from (is_method name descriptor) 0 (methods_at (slice_get (take i classes) c)))
    → (c : ℕ) → indexed (indices ++ own ∷ []) c name descriptor ≡ places_from (is_method name descriptor) 0 (methods_at (slice_get (take (i + 1) classes) c))
indices_next name descriptor classes i v indices own is len one before c =
    let lt = slice_get_within classes i v is in
    let front : length (take i classes) ≡ i = let k = length-take i classes in omega arith in
    grown (λ (o : Option Index). places_at o name descriptor) (λ k o. places_from (is_method name descriptor) 0 (methods_at o)) (λ k. refl)
    indices (take i classes) own v (len ∙ sym front) one before c
    ∙ ap (λ (vs : List ClassView). places_from (is_method name descriptor) 0 (methods_at (slice_get vs c))) (sym (take_next classes i v is))

-- ---- lengths and totals

pub length_next : {A : Type 0} (xs : List A) (x : A) (ys : List A) (i : ℕ) → ys ≡ xs ++ x ∷ [] → length xs ≡ i → length ys ≡ i + 1
length_next xs x ys i is len = ap length is ∙ (length-append xs (x ∷ []) ∙ ap (λ (n : ℕ). n + 1) len)

pub total_next : {A : Type 0} (count : A → ℕ) (xs : List A) (i : ℕ) (x : A) (total : ℕ) → slice_get xs i ≡ Some x → total ≡ sum_by count (take i xs) → (n : ℕ) → n ≡ count x → total + n ≡ sum_by count (take (i + 1) xs)
total_next count xs i x total is so_far n counts =
    let all = sum_by-append count (take i xs) (x ∷ []) in
    let one = sum_by-cons count x [] in
    let more : sum_by count (take (i + 1) xs) ≡ sum_by count (take i xs ++ x ∷ []) = ap (sum_by count) (take_next xs i x is) in
    omega arith

pub fields_next : (classes : List ClassView) (i : ℕ) (x : ClassView) (total : ℕ) → slice_get classes i ≡ Some x → total ≡ fields_before classes i → (n : ℕ) → n ≡ field_count x → total + n ≡ fields_before classes (i + 1)
fields_next classes i x total is so_far n counts =
    let next = total_next field_count classes i x (sum_by field_count (take i classes)) is refl n counts in
    omega arith
