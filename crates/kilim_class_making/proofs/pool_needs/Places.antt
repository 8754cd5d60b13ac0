-- The index at which a search through a pool's indices stops.
use Rattle.std.proofs.Common.{OnOk, Result, Ok, Err, ◌&&◌, ◌==◌, bytes_eq, eq-eqb, ◌≡◌, inl, inr, ℕ, zero, suc, ◌+◌, ◌<◌, ◌≤◌, Bool, true, false, cond, List, [], ◌∷◌, ◌++◌, length, Option, Some, None, option_map, refl, sym, ap, ◌∙◌, arith}
use Rattle.std.specs.List.{position_from}
use Rattle.std.proofs.lemmas.Slice.Eq.{bytes_eq-Decides}
use Rattle.std.proofs.lemmas.Option.{none-some}
use Rattle.kilim_class_pool.specs.declared.entry.Entry.{Entry}
use Rattle.kilim_class_pool.specs.declared.entry.Entry.TheVariants.{Utf8}
use Rattle.kilim_class_pool.specs.Entries.{slots_of, slot, entry_at, count_of}
use Rattle.kilim_class_pool.specs.Adding.{Adds}
use Rattle.kilim_class_making.specs.pool_needs.Adding.{Test, class_index, found, index_or_none, is_text, text_index, unless_found, with_call, with_class, with_method, with_text}
use Rattle.kilim_class_making.proofs.pool_needs.Searching.{found_last, found_passes}

abbrev Slots : Type 0
Slots = List (Option Entry)

-- ---- places

first_by : (t : Test) (n : ℕ) (x : Option Entry) (xs : Slots) (k : ℕ) → t x ≡ false → position_from t (n + 1) xs ≡ Some k → position_from t n (x ∷ xs) ≡ Some k
first_by t n x xs k is h = ap (λ b. cond b (Some n) (position_from t (n + 1) xs)) is ∙ h

position_first : (t : Test) (n : ℕ) (xs : Slots) (k : ℕ) → ((j : ℕ) → j < k → t (slot xs j) ≡ false) → k < length xs → t (slot xs k) ≡ true → position_from t n xs ≡ Some (n + k)
position_first t n [] k below lt h = absurd (omega (arith, lt))
position_first t n (x ∷ xs) zero below lt h = ap (λ b. cond b (Some n) (position_from t (n + 1) xs)) h ∙ ap Some (let e : n ≡ n + 0 = omega arith in e)
position_first t n (x ∷ xs) (suc k) below lt h =
    first_by t n x xs (n + suc k) (below 0 (omega arith)) (position_first t (n + 1) xs k (λ j l. below (suc j) (omega (arith, l))) (omega (arith, lt)) h ∙ ap Some (let e : (n + 1) + k ≡ n + suc k = omega arith in e))

position_none : (t : Test) (n : ℕ) (xs : Slots) → ((j : ℕ) → j < length xs → t (slot xs j) ≡ false) → position_from t n xs ≡ None
position_none t n [] below = refl
position_none t n (x ∷ xs) below =
    ap (λ b. cond b (Some n) (position_from t (n + 1) xs)) (below 0 (omega arith)) ∙ position_none t (n + 1) xs (λ j l. below (suc j) (omega (arith, l)))

-- ---- indices

first_at : (t : Test) (pool : List Entry) (index : ℕ) → ((k : ℕ) → k < index → t (entry_at pool k) ≡ false) → 1 ≤ index → index < count_of pool → t (entry_at pool index) ≡ true → index_or_none (found t pool) ≡ index
unfolding found
first_at t pool zero below least lt h = absurd (omega (arith, least))
first_at t pool (suc k) below least lt h =
    ap (λ o. index_or_none (option_map suc o)) (position_first t 0 (slots_of pool) k (λ j l. below (suc j) (omega (arith, l))) (omega (arith, lt)) h) ∙ (let e : suc (0 + k) ≡ suc k = omega arith in e)

-- the test holds there, and of none before
pub is_first : (t : Test) (pool : List Entry) (index : ℕ) → t None ≡ false → ((k : ℕ) → 1 ≤ k → k < index → t (entry_at pool k) ≡ false) → 1 ≤ index → index < count_of pool → t (entry_at pool index) ≡ true → index ≡ index_or_none (found t pool)
is_first t pool index nothing below least lt h = sym (first_at t pool index (all_below t pool index nothing below) least lt h)
  where
    all_below : (t : Test) (pool : List Entry) (index : ℕ) → t None ≡ false → ((k : ℕ) → 1 ≤ k → k < index → t (entry_at pool k) ≡ false) → (k : ℕ) → k < index → t (entry_at pool k) ≡ false
    all_below t pool index nothing below zero l = nothing
    all_below t pool index nothing below (suc k) l = below (suc k) (omega arith) l

-- it holds of none
pub is_nowhere : (t : Test) (pool : List Entry) → ((k : ℕ) → 1 ≤ k → k < count_of pool → t (entry_at pool k) ≡ false) → 0 ≡ index_or_none (found t pool)
unfolding found
is_nowhere t pool below =
    sym (ap (λ o. index_or_none (option_map suc o)) (position_none t 0 (slots_of pool) (λ j l. below (suc j) (omega arith) (omega (arith, l)))))

-- ---- whether there is one

none_by : (o : Option ℕ) → index_or_none (option_map suc o) ≡ 0 → option_map suc o ≡ None
none_by None h = refl
none_by (Some k) h = absurd (omega (arith, h))

pub none_found : (t : Test) (pool : List Entry) → index_or_none (found t pool) ≡ 0 → found t pool ≡ None
unfolding found
none_found t pool h = none_by (position_from t 0 (slots_of pool)) h

stays_by : (o : Option ℕ) (pool more : List Entry) → (index_or_none o ≡ 0 → ⊥) → unless_found o pool more ≡ pool
stays_by None pool more h = absurd (h refl)
stays_by (Some k) pool more h = refl

-- where one is found, nothing is added
pub kept : (t : Test) (pool more : List Entry) → (index_or_none (found t pool) ≡ 0 → ⊥) → unless_found (found t pool) pool more ≡ pool
kept t pool more h = stays_by (found t pool) pool more h

passes_by : (t : Test) (pool : List Entry) (o : Option ℕ) → found t pool ≡ o → (index_or_none o ≡ 0 → ⊥) → t (entry_at pool (index_or_none o)) ≡ true
passes_by t pool None is h = absurd (h refl)
passes_by t pool (Some k) is h = found_passes t pool k is

-- the one that is found passes
pub passes : (t : Test) (pool : List Entry) → (index_or_none (found t pool) ≡ 0 → ⊥) → t (entry_at pool (index_or_none (found t pool))) ≡ true
passes t pool h = passes_by t pool (found t pool) refl h

fails_by : (t : Test) (n : ℕ) (x : Option Entry) (xs : Slots) → (position_from t (n + 1) xs ≡ None → (k : ℕ) → k < length xs → t (slot xs k) ≡ false) →
    (b : Bool) → t x ≡ b → cond b (Some n) (position_from t (n + 1) xs) ≡ None → (k : ℕ) → k < length (x ∷ xs) → t (slot (x ∷ xs) k) ≡ false
fails_by t n x xs rest true is h k l = absurd (none-some n (sym h))
fails_by t n x xs rest false is h zero l = is
fails_by t n x xs rest false is h (suc k) l = rest h k (omega (arith, l))

position_fails : (t : Test) (n : ℕ) (xs : Slots) → position_from t n xs ≡ None → (k : ℕ) → k < length xs → t (slot xs k) ≡ false
position_fails t n [] h k l = absurd (omega (arith, l))
position_fails t n (x ∷ xs) h k l = fails_by t n x xs (position_fails t (n + 1) xs) (t x) refl h k l

slot_within : (xs : Slots) (k : ℕ) (e : Entry) → slot xs k ≡ Some e → k < length xs
slot_within [] k e h = absurd (none-some e h)
slot_within (x ∷ xs) zero e h = omega arith
slot_within (x ∷ xs) (suc k) e h = let l = slot_within xs k e h in omega (arith, l)

mapped_none : (o : Option ℕ) → option_map suc o ≡ None → o ≡ None
mapped_none None h = refl
mapped_none (Some n) h = absurd (none-some (suc n) (sym h))

-- an entry that passes is found
pub not_there : (t : Test) (pool : List Entry) (index : ℕ) (e : Entry) → found t pool ≡ None → entry_at pool index ≡ Some e → t (Some e) ≡ true → ⊥
unfolding found
not_there t pool zero e none there h = none-some e there
not_there t pool (suc k) e none there h =
    let f : t (slot (slots_of pool) k) ≡ false = position_fails t 0 (slots_of pool) (mapped_none (position_from t 0 (slots_of pool)) none) k (slot_within (slots_of pool) k e there) in
    let g : true ≡ false = sym h ∙ (ap t (sym there) ∙ f) in absurd (cc)

-- ---- an entry that is added

pub appended : (old new : List Entry) (e : Entry) (index : ℕ) → Adds old e new index → (t : Test) → found t old ≡ None → t (Some e) ≡ true → new ≡ old ++ e ∷ []
appended old new e index adds t none passes =
    elim adds [ inl is ↦ absurd (not_there t old index e none is.0.there passes) | inr is ↦ is.2 ]

-- where none is found, it is what was added
pub put : (t : Test) (old new : List Entry) (e : Entry) → index_or_none (found t old) ≡ 0 → ((u : Test) → found u old ≡ None → u (Some e) ≡ true → new ≡ old ++ e ∷ []) → t (Some e) ≡ true → new ≡ unless_found (found t old) old (old ++ e ∷ [])
put t old new e h added passes =
    let none = none_found t old h in
    added t none passes ∙ ap (λ o. unless_found o old (old ++ e ∷ [])) (sym none)

pub same_units : (units : List ℕ) → bytes_eq units units ≡ true
same_units units = (bytes_eq-Decides units units).1 refl

pub same_numbers : (a b : ℕ) → ((a == a) && (b == b)) ≡ true
same_numbers a b = ap (λ x. x && (b == b)) (eq-eqb a a refl) ∙ eq-eqb b b refl

-- ---- a method, step by step

-- what follows where all was added
pub on_ok : {A E P Q : Type 0} (r : Result A E) → (P → Q) → OnOk r P → OnOk r Q
on_ok (Ok x) go p = go p
on_ok (Err x) go p = p

pub method_chain : (o n d : List ℕ) (p0 p1 p2 : List Entry) (c t : ℕ) → p1 ≡ with_class o p0 → p2 ≡ with_text n p1 → c ≡ class_index p2 o → t ≡ text_index p2 n → with_call c t d p2 ≡ with_method o n d p0
method_chain o n d p0 p1 p2 c t e1 e2 ec et =
    ap (λ x. with_call x t d p2) ec
    ∙ (ap (λ x. with_call (class_index p2 o) x d p2) et ∙ ap (λ (p : List Entry). with_call (class_index p o) (text_index p n) d p) (e2 ∙ ap (with_text n) e1))

-- ---- a text that was added is there

found_not : (t : Test) (pool : List Entry) (k : ℕ) → found t pool ≡ Some k → index_or_none (found t pool) ≡ 0 → ⊥
found_not t pool k is h = none-some k (sym (none_found t pool h) ∙ is)

pub text_there : (units : List ℕ) (pool : List Entry) → text_index (with_text units pool) units ≡ 0 → ⊥
unfolding with_text
text_there units pool = by (found (is_text units) pool) refl
  where
    by : (o : Option ℕ) → found (is_text units) pool ≡ o → index_or_none (found (is_text units) (unless_found o pool (pool ++ Utf8 units ∷ []))) ≡ 0 → ⊥
    by (Some k) is h = found_not (is_text units) pool k is h
    by None is h = let l = found_last (is_text units) pool (Utf8 units) refl (same_units units) in found_not (is_text units) (pool ++ Utf8 units ∷ []) l.0 l.1 h
