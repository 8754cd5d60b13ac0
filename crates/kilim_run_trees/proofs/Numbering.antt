-- References become numbers from a stack, one item after the other.
use Rattle.std.proofs.Common.{◌≡◌, ℕ, zero, suc, ◌+◌, ◌<◌, ◌≤◌, List, [], ◌∷◌, ◌++◌, length, refl, sym, ap, subst, ◌∙◌, arith, length-append, append_assoc, get_or, set}
use Rattle.std.specs.List.{flat_map, AllByRecursion}
use Rattle.kilim_program.specs.declared.names.FieldId.{FieldId}
use Rattle.kilim_program.specs.declared.value.Value.{Value}
use Rattle.kilim_program.specs.declared.value.Value.TheVariants.{Int, Long, Null, Ref, Text, Box, Fiber}
use Rattle.kilim_run_trees.specs.Walk.{value_refs, renamed_value, renamed_fields, renamed_elements}
use Rattle.kilim_run_trees.specs.Steps.{Alike, AlikeField, EachPair}

pub get_middle : {A : Type 0} (xs : List A) (y : A) (ys : List A) (d : A) → get_or (xs ++ y ∷ ys) (length xs) d ≡ y
get_middle [] y ys d = refl
get_middle (x ∷ xs) y ys d = get_middle xs y ys d

pub set_middle : {A : Type 0} (xs : List A) (y : A) (ys : List A) (z : A) → set (xs ++ y ∷ ys) (length xs) z ≡ xs ++ z ∷ ys
set_middle [] y ys z = refl
set_middle (x ∷ xs) y ys z = ap (λ zs. x ∷ zs) (set_middle xs y ys z)

pub flat_map_join : {A : Type 0} (f : A → List ℕ) (xs ys : List A) → flat_map f (xs ++ ys) ≡ flat_map f xs ++ flat_map f ys
flat_map_join f [] ys = refl
flat_map_join f (x ∷ xs) ys = ap (λ zs. f x ++ zs) (flat_map_join f xs ys) ∙ sym (append_assoc (f x) (flat_map f xs) (flat_map f ys))

pub append_nothing : {A : Type 0} (xs : List A) → xs ++ [] ≡ xs
append_nothing [] = refl
append_nothing (x ∷ xs) = ap (λ ys. x ∷ ys) (append_nothing xs)

pub pair_length : {A : Type 0} (R : A → A → Type 0) (xs ys : List A) → EachPair R xs ys → length xs ≡ length ys
pair_length R [] [] p = refl
pair_length R [] (y ∷ ys) p = absurd p
pair_length R (x ∷ xs) [] p = absurd p
pair_length R (x ∷ xs) (y ∷ ys) p = ap suc (pair_length R xs ys p.1)

pub pair_more : {A : Type 0} (R : A → A → Type 0) (xs ys : List A) (x y : A) → EachPair R xs ys → R x y → EachPair R (xs ++ x ∷ []) (ys ++ y ∷ [])
pair_more R [] [] x y p r = (r, tt)
pair_more R [] (b ∷ ys) x y p r = absurd p
pair_more R (a ∷ xs) [] x y p r = absurd p
pair_more R (a ∷ xs) (b ∷ ys) x y p r = (p.0, pair_more R xs ys x y p.1 r)

pub pair_refs : {A : Type 0} (f : A → List ℕ) (R : A → A → Type 0) (same : (x y : A) → R x y → length (f x) ≡ length (f y)) (xs ys : List A) → EachPair R xs ys → length (flat_map f xs) ≡ length (flat_map f ys)
pair_refs f R same [] [] p = refl
pair_refs f R same [] (y ∷ ys) p = absurd p
pair_refs f R same (x ∷ xs) [] p = absurd p
pair_refs f R same (x ∷ xs) (y ∷ ys) p = omega (arith, same x y p.0, pair_refs f R same xs ys p.1, length-append (f x) (flat_map f xs), length-append (f y) (flat_map f ys))

pub record Numbering {A : Type 0} (f : A → List ℕ) (R : A → A → Type 0) (initial now : List A) (first left : List ℕ) (k : ℕ) : Type 0 where
  pub front : List A
  pub done : List A
  pub rest : List A
  pub was : initial ≡ front ++ rest
  pub is : now ≡ done ++ rest
  pub alike : EachPair R front done
  pub refs : flat_map f done ++ left ≡ first
  pub counted : length front ≡ k

pub number_none : {A : Type 0} (f : A → List ℕ) (R : A → A → Type 0) (initial : List A) (first : List ℕ) → Numbering f R initial initial first first 0
number_none f R initial first = record { front = []; done = []; rest = initial; was = refl; is = refl; alike = tt; refs = refl; counted = refl }

-- the next item
pub record NextItem {A : Type 0} (f : A → List ℕ) (R : A → A → Type 0) (initial now : List A) (first left : List ℕ) (k : ℕ) : Type 0 where
  pub item : A
  pub there : (d : A) → get_or now k d ≡ item
  pub was_there : (d : A) → get_or initial k d ≡ item
  pub after : (new : A) (left' : List ℕ) → R item new → f new ++ left' ≡ left → Numbering f R initial (set now k new) first left' (k + 1)
  pub enough : (same : (x y : A) → R x y → length (f x) ≡ length (f y)) → length (flat_map f initial) ≤ length first → length (f item) ≤ length left

next_from : {A : Type 0} (f : A → List ℕ) (R : A → A → Type 0) (front done rest : List A) (first left : List ℕ) → EachPair R front done → flat_map f done ++ left ≡ first → length front < length (done ++ rest) → NextItem f R (front ++ rest) (done ++ rest) first left (length front)
next_from f R front done [] first left p r lt = let l = pair_length R front done p in absurd (omega (arith, l, length-append done []))
next_from f R front done (x ∷ rest) first left p r lt =
    let l : length front ≡ length done = pair_length R front done p in
    record {
      item = x;
      there = λ d. ap (λ k. get_or (done ++ x ∷ rest) k d) l ∙ get_middle done x rest d;
      was_there = λ d. get_middle front x rest d;
      after = λ new left' alike e. record {
        front = front ++ x ∷ [];
        done = done ++ new ∷ [];
        rest = rest;
        was = sym (append_assoc front (x ∷ []) rest);
        is = ap (λ k. set (done ++ x ∷ rest) k new) l ∙ (set_middle done x rest new ∙ sym (append_assoc done (new ∷ []) rest));
        alike = pair_more R front done x new p alike;
        refs = ap (λ ns. ns ++ left') (flat_map_join f done (new ∷ [])) ∙ (append_assoc (flat_map f done) (flat_map f (new ∷ [])) left' ∙ (ap (λ ns. flat_map f done ++ (ns ++ left')) (append_nothing (f new)) ∙ (ap (λ ns. flat_map f done ++ ns) e ∙ r)));
        counted = omega (arith, length-append front (x ∷ []));
      };
      enough = λ same fits. omega (arith, fits, ap length r, length-append (flat_map f done) left, pair_refs f R same front done p, ap length (flat_map_join f front (x ∷ rest)), length-append (flat_map f front) (f x ++ flat_map f rest), length-append (f x) (flat_map f rest));
    }

pub next_item : {A : Type 0} (f : A → List ℕ) (R : A → A → Type 0) (initial now : List A) (first left : List ℕ) (k : ℕ) → Numbering f R initial now first left k → k < length now → NextItem f R initial now first left k
next_item f R initial now first left k n lt =
    let lt' : length n.front < length (n.done ++ n.rest) = omega (arith, lt, n.counted, ap length n.is) in
    let h = next_from f R n.front n.done n.rest first left n.alike n.refs lt' in
    let h1 = subst (λ xs. NextItem f R xs (n.done ++ n.rest) first left (length n.front)) (sym n.was) h in
    let h2 = subst (λ xs. NextItem f R initial xs first left (length n.front)) (sym n.is) h1 in
    subst (λ k. NextItem f R initial now first left k) n.counted h2

-- in the words of a loop
pub number_next : {A : Type 0} (f : A → List ℕ) (R : A → A → Type 0) (initial now after : List A) (first left left' : List ℕ) (k : ℕ) (old new d : A) →
    Numbering f R initial now first left k → k < length now → old ≡ get_or now k d → R old new → f new ++ left' ≡ left → after ≡ set now k new → Numbering f R initial after first left' (k + 1)
number_next f R initial now after first left left' k old new d n lt at alike e a =
    let h = next_item f R initial now first left k n lt in
    let is : old ≡ h.item = at ∙ h.there d in
    subst (λ xs. Numbering f R initial xs first left' (k + 1)) (sym a) (h.after new left' (subst (λ x. R x new) is alike) e)

pub number_enough : {A : Type 0} (f : A → List ℕ) (R : A → A → Type 0) (initial now : List A) (first left : List ℕ) (k : ℕ) (old d : A) →
    ((x y : A) → R x y → length (f x) ≡ length (f y)) → Numbering f R initial now first left k → k < length now → old ≡ get_or now k d → length (flat_map f initial) ≤ length first → length (f old) ≤ length left
number_enough f R initial now first left k old d same n lt at fits =
    let h = next_item f R initial now first left k n lt in
    let is : old ≡ h.item = at ∙ h.there d in
    subst (λ x. length (f x) ≤ length left) (sym is) (h.enough same fits)

no_rest : {A : Type 0} (xs rest : List A) → length rest ≡ 0 → xs ++ rest ≡ xs
no_rest xs [] e = append_nothing xs
no_rest xs (y ∷ rest) e = absurd (omega arith)

-- at the end
pub number_end : {A : Type 0} (f : A → List ℕ) (R : A → A → Type 0) (initial now : List A) (first left : List ℕ) (k : ℕ) → Numbering f R initial now first left k → k ≡ length initial → EachPair R initial now × (flat_map f now ++ left ≡ first)
number_end f R initial now first left k n e =
    let none : length n.rest ≡ 0 = omega (arith, e, n.counted, ap length n.was, length-append n.front n.rest) in
    let front_is : initial ≡ n.front = n.was ∙ no_rest n.front n.rest none in
    let done_is : now ≡ n.done = n.is ∙ no_rest n.done n.rest none in
    (subst (λ xs. EachPair R xs now) (sym front_is) (subst (λ ys. EachPair R n.front ys) (sym done_is) n.alike), ap (λ xs. flat_map f xs ++ left) done_is ∙ n.refs)

-- ---- what is alike

pub same_many : (v w : Value) → Alike v w → length (value_refs v) ≡ length (value_refs w)
same_many (Int n) w a = ap (λ w. length (value_refs w)) a
same_many (Long n) w a = ap (λ w. length (value_refs w)) a
same_many Null w a = ap (λ w. length (value_refs w)) a
same_many (Ref n) w a = ap (λ w. length (value_refs w)) a.1
same_many (Text units) w a = ap (λ w. length (value_refs w)) a
same_many (Box box) w a = ap (λ w. length (value_refs w)) a
same_many Fiber w a = ap (λ w. length (value_refs w)) a

pub same_many_field : (e f : FieldId × Value) → AlikeField e f → length (value_refs e.1) ≡ length (value_refs f.1)
same_many_field e f a = same_many e.1 f.1 a.1

-- ---- other names

pub all_apart : (P : ℕ → Type 0) (xs ys : List ℕ) → AllByRecursion P (xs ++ ys) → AllByRecursion P xs × AllByRecursion P ys
all_apart P [] ys a = (tt, a)
all_apart P (x ∷ xs) ys a = let r = all_apart P xs ys a.1 in ((a.0, r.0), r.1)

pub all_at : {A : Type 0} (g : A → List ℕ) (P : ℕ → Type 0) (xs : List A) (k : ℕ) (d : A) → AllByRecursion P (flat_map g xs) → k < length xs → AllByRecursion P (g (get_or xs k d))
all_at g P [] k d a lt = absurd (omega arith)
all_at g P (x ∷ xs) zero d a lt = (all_apart P (g x) (flat_map g xs) a).0
all_at g P (x ∷ xs) (suc k) d a lt = let lt' : k < length xs = omega arith in all_at g P xs k d (all_apart P (g x) (flat_map g xs) a).1 lt'

abbrev pub no_refs : {A : Type 0} → A → List ℕ
no_refs x = []

-- the item at a place is still the one that it was
pub still_inside : {A : Type 0} (g : A → List ℕ) (P : ℕ → Type 0) (R : A → A → Type 0) (initial now : List A) (k : ℕ) (old d : A) → Numbering no_refs R initial now [] [] k → k < length now → length now ≡ length initial → old ≡ get_or now k d → AllByRecursion P (flat_map g initial) → AllByRecursion P (g old)
still_inside g P R initial now k old d n lt l at a =
    let h = next_item no_refs R initial now [] [] k n lt in
    let lt' : k < length initial = omega (arith, lt, l) in
    subst (λ x. AllByRecursion P (g x)) (h.was_there d ∙ sym (h.there d) ∙ sym at) (all_at g P initial k d a lt')

pub elements_pairs : (f : ℕ → ℕ) (vs ws : List Value) → EachPair (λ v w. renamed_value f v ≡ w) vs ws → renamed_elements f vs ≡ ws
elements_pairs f [] [] p = refl
elements_pairs f [] (w ∷ ws) p = absurd p
elements_pairs f (v ∷ vs) [] p = absurd p
elements_pairs f (v ∷ vs) (w ∷ ws) p = λ i. p.0 i ∷ elements_pairs f vs ws p.1 i

pub fields_pairs : (f : ℕ → ℕ) (vs ws : List (FieldId × Value)) → EachPair (λ v w. (v.0, renamed_value f v.1) ≡ w) vs ws → renamed_fields f vs ≡ ws
fields_pairs f [] [] p = refl
fields_pairs f [] (w ∷ ws) p = absurd p
fields_pairs f (v ∷ vs) [] p = absurd p
fields_pairs f (v ∷ vs) (w ∷ ws) p = λ i. p.0 i ∷ fields_pairs f vs ws p.1 i
