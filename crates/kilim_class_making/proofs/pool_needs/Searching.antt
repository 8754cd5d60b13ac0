-- The first entry that passes a test, in a pool that grows at its end.
use Rattle.std.proofs.Common.{◌≡◌, ℕ, zero, suc, ◌+◌, Bool, true, false, cond, List, [], ◌∷◌, ◌++◌, Option, Some, None, option_map, refl, sym, ap, ◌∙◌, arith}
use Rattle.std.specs.List.{position_from}
use Rattle.std.proofs.lemmas.List.{append-nil}
use Rattle.std.proofs.lemmas.Option.{none-some, same_Some}
use Rattle.kilim_class_pool.specs.declared.entry.Entry.{Entry}
use Rattle.kilim_class_pool.specs.Entries.{slots_of, slots_of_entry, slot, entry_at}
use Rattle.kilim_class_pool.proofs.SlotLaws.{slots-append}
use Rattle.kilim_class_making.specs.pool_needs.Adding.{Test, found}

abbrev Slots : Type 0
Slots = List (Option Entry)

-- ---- entries stay

slot_stays : (xs ys : Slots) (k : ℕ) (e : Entry) → slot xs k ≡ Some e → slot (xs ++ ys) k ≡ Some e
slot_stays [] ys k e h = absurd (none-some e h)
slot_stays (x ∷ xs) ys zero e h = h
slot_stays (x ∷ xs) ys (suc k) e h = slot_stays xs ys k e h

pub stays : (old more : List Entry) (index : ℕ) (e : Entry) → entry_at old index ≡ Some e → entry_at (old ++ more) index ≡ Some e
stays old more zero e h = absurd (none-some e h)
stays old more (suc k) e h = ap (λ (ss : Slots). slot ss k) (slots-append old more) ∙ slot_stays (slots_of old) (slots_of more) k e h

-- ---- places in a list

left_by : (t : Test) (n : ℕ) (xs ys : Slots) (k : ℕ) → (position_from t (n + 1) xs ≡ Some k → position_from t (n + 1) (xs ++ ys) ≡ Some k) →
    (b : Bool) → cond b (Some n) (position_from t (n + 1) xs) ≡ Some k → cond b (Some n) (position_from t (n + 1) (xs ++ ys)) ≡ Some k
left_by t n xs ys k rest true h = h
left_by t n xs ys k rest false h = rest h

pub position_left : (t : Test) (n : ℕ) (xs ys : Slots) (k : ℕ) → position_from t n xs ≡ Some k → position_from t n (xs ++ ys) ≡ Some k
position_left t n [] ys k h = absurd (none-some k h)
position_left t n (x ∷ xs) ys k h = left_by t n xs ys k (position_left t (n + 1) xs ys k) (t x) h

-- a place of the list, of which the test holds
pub record Passes (t : Test) (n : ℕ) (xs : Slots) (k : ℕ) : Type 0 where
  pub place : ℕ
  pub is : k ≡ n + place
  pub holds : t (slot xs place) ≡ true

passes_by : (t : Test) (n : ℕ) (x : Option Entry) (xs : Slots) (k : ℕ) → (position_from t (n + 1) xs ≡ Some k → Passes t (n + 1) xs k) →
    (b : Bool) → t x ≡ b → cond b (Some n) (position_from t (n + 1) xs) ≡ Some k → Passes t n (x ∷ xs) k
passes_by t n x xs k rest true is h = record { place = 0; is = (let e = same_Some n k h in omega (arith, e)); holds = is }
passes_by t n x xs k rest false is h = let r = rest h in record { place = suc r.place; is = (let e = r.is in omega (arith, e)); holds = r.holds }

pub position_passes : (t : Test) (n : ℕ) (xs : Slots) (k : ℕ) → position_from t n xs ≡ Some k → Passes t n xs k
position_passes t n [] k h = absurd (none-some k h)
position_passes t n (x ∷ xs) k h = passes_by t n x xs k (position_passes t (n + 1) xs k) (t x) refl h

there_by : (t : Test) (n : ℕ) (rest : Option ℕ) → (k : ℕ) × (rest ≡ Some k) → (b : Bool) → (k : ℕ) × (cond b (Some n) rest ≡ Some k)
there_by t n rest r true = (n, refl)
there_by t n rest r false = r

pub position_there : (t : Test) (n : ℕ) (xs ys : Slots) (o : Option Entry) → t o ≡ true → (k : ℕ) × (position_from t n (xs ++ o ∷ ys) ≡ Some k)
position_there t n [] ys o h = (n, ap (λ b. cond b (Some n) (position_from t (n + 1) ys)) h)
position_there t n (x ∷ xs) ys o h = there_by t n (position_from t (n + 1) (xs ++ o ∷ ys)) (position_there t (n + 1) xs ys o h) (t x)

pub position_same : (t u : Test) (n : ℕ) (xs : Slots) → ((k : ℕ) → t (slot xs k) ≡ u (slot xs k)) → position_from t n xs ≡ position_from u n xs
position_same t u n [] same = refl
position_same t u n (x ∷ xs) same =
    ap (λ b. cond b (Some n) (position_from t (n + 1) xs)) (same 0) ∙ ap (cond (u x) (Some n)) (position_same t u (n + 1) xs (λ k. same (suc k)))

-- ---- indices

passes_at : (test : Test) (pool : List Entry) (index : ℕ) (o : Option ℕ) → position_from test 0 (slots_of pool) ≡ o → option_map suc o ≡ Some index → test (entry_at pool index) ≡ true
unfolding found
passes_at test pool index None is h = absurd (none-some index h)
passes_at test pool index (Some k) is h =
    let p = position_passes test 0 (slots_of pool) k is in
    let e : suc p.place ≡ index = (let f = same_Some (suc k) index h in let g = p.is in omega (arith, f, g)) in
    ap (λ i. test (entry_at pool i)) (sym e) ∙ p.holds

pub found_passes : (test : Test) (pool : List Entry) (index : ℕ) → found test pool ≡ Some index → test (entry_at pool index) ≡ true
unfolding found
found_passes test pool index h = passes_at test pool index (position_from test 0 (slots_of pool)) refl h

left_at : (test : Test) (xs ys : Slots) (index : ℕ) (o : Option ℕ) → position_from test 0 xs ≡ o → option_map suc o ≡ Some index → option_map suc (position_from test 0 (xs ++ ys)) ≡ Some index
unfolding found
left_at test xs ys index None is h = absurd (none-some index h)
left_at test xs ys index (Some k) is h = ap (option_map suc) (position_left test 0 xs ys k is) ∙ h

pub found_stays : (test : Test) (old more : List Entry) (index : ℕ) → found test old ≡ Some index → found test (old ++ more) ≡ Some index
unfolding found
found_stays test old more index h =
    ap (λ (ss : Slots). option_map suc (position_from test 0 ss)) (slots-append old more) ∙ left_at test (slots_of old) (slots_of more) index (position_from test 0 (slots_of old)) refl h

pub found_same : (t u : Test) (pool : List Entry) → ((k : ℕ) → t (entry_at pool (suc k)) ≡ u (entry_at pool (suc k))) → found t pool ≡ found u pool
unfolding found
found_same t u pool same = ap (option_map suc) (position_same t u 0 (slots_of pool) same)

-- an entry of one index, at the end
pub found_last : (test : Test) (old : List Entry) (e : Entry) → slots_of_entry e ≡ Some e ∷ [] → test (Some e) ≡ true → (index : ℕ) × (found test (old ++ e ∷ []) ≡ Some index)
unfolding found
found_last test old e plain h =
    let r = position_there test 0 (slots_of old) [] (Some e) h in
    let ss : slots_of (old ++ e ∷ []) ≡ slots_of old ++ Some e ∷ [] = slots-append old (e ∷ []) ∙ ap (λ (ss : Slots). slots_of old ++ ss) (append-nil (slots_of_entry e) ∙ plain) in
    (suc r.0, ap (λ (ss : Slots). option_map suc (position_from test 0 ss)) ss ∙ ap (option_map suc) r.1)
