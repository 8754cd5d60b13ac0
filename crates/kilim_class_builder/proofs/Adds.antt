-- What adding an entry to a pool comes to.
use Rattle.std.proofs.Common.{◌≡◌, ◌≢◌, ◌⊎◌, inl, inr, ◌==◌, ◌<◌, ◌≤◌, ◌+◌, ◌^◌, ℕ, zero, suc, Bool, true, false, nat_lt, cond, List, [], ◌∷◌, ◌++◌, Option, Some, None, Result, Ok, Err, bytes_eq, refl, sym, ap, ◌∙◌, arith, eqb-true, eq-eqb}
use Rattle.std.specs.Prelude.{IfOk, ◌↔◌}
use Rattle.std.proofs.lemmas.Bool.{ltb-false, ltb-true}
use Rattle.std.proofs.lemmas.Slice.Eq.{bytes_eq-Decides}
use Rattle.kilim_class_grammar.specs.Reader.{ReadsUnless}
use Rattle.kilim_class_pool.specs.declared.entry.Entry.{Entry}
use Rattle.kilim_class_pool.specs.declared.entry.Entry.TheVariants.{Utf8, Class}
use Rattle.kilim_class_pool.specs.declared.fault.AddFault.{AddFault}
use Rattle.kilim_class_pool.specs.declared.fault.AddFault.TheVariants as add
use Rattle.kilim_class_pool.specs.Adding.{Adds, IsAbsent, IsFirstIndex, IsFull}
use Rattle.kilim_class_pool.specs.Entries.{count_of, entry_at, slot, slots_of, width_of}
use Rattle.kilim_class_builder.specs.Adding.{added_by, class_by, index_from, index_in, is_class_of, is_text, passes, text_added}

abbrev Slots : Type 0
Slots = List (Option Entry)

-- a test that one entry passes
pub record Finds (test : Entry → Bool) (entry : Entry) : Type 0 where
  pub own : test entry ≡ true
  pub only : (other : Entry) → test other ≡ true → other ≡ entry

none_is_some : {A : Type 0} (x : A) → None ≡ Some x → ⊥
none_is_some x is = cc

abbrev pub answered : List Entry → ℕ → ℕ × List Entry
answered new index = (index, new)

abbrev index_answered : ℕ → Result ℕ AddFault
index_answered index = Ok index

not_refused : (index : ℕ) → index_answered index ≡ Err add.Full → ⊥
not_refused index is = cc

module _ (test : Entry → Bool) (entry : Entry) (finds : Finds test entry) where
  fails_by : (s : Option Entry) (b : Bool) → passes test s ≡ b → (s ≡ Some entry → ⊥) → b ≡ false
  fails_by s false is other = refl
  fails_by None true is other = absurd (cc)
  fails_by (Some e) true is other = absurd (other (ap (λ (x : Entry). Some x) (finds.only e is)))

  fails : (s : Option Entry) → (s ≡ Some entry → ⊥) → passes test s ≡ false
  fails s other = fails_by s (passes test s) refl other

  first_at : (slots : Slots) (n k : ℕ) → slot slots k ≡ Some entry → ((j : ℕ) → j < k → slot slots j ≡ Some entry → ⊥) → index_from test n slots ≡ Some (n + k)
  first_at [] n k is before = absurd (none_is_some entry is)
  first_at (s ∷ slots) n zero is before =
      let holds : passes test s ≡ true = ap (passes test) is ∙ finds.own in
      let number : n ≡ n + 0 = omega arith in
      ap (λ b. cond b (Some n) (index_from test (suc n) slots)) holds ∙ ap (λ (m : ℕ). Some m) number
  first_at (s ∷ slots) n (suc k) is before =
      let fails_here : passes test s ≡ false = fails s (before 0 (omega arith)) in
      let number : suc n + k ≡ n + suc k = omega arith in
      ap (λ b. cond b (Some n) (index_from test (suc n) slots)) fails_here
      ∙ (first_at slots (suc n) k is (λ j lt. before (suc j) (omega (arith, lt))) ∙ ap (λ (m : ℕ). Some m) number)

  none_at : (slots : Slots) (n : ℕ) → ((k : ℕ) → slot slots k ≡ Some entry → ⊥) → index_from test n slots ≡ None
  none_at [] n absent = refl
  none_at (s ∷ slots) n absent =
      ap (λ b. cond b (Some n) (index_from test (suc n) slots)) (fails s (absent 0)) ∙ none_at slots (suc n) (λ k. absent (suc k))

  first_index : (pool : List Entry) (index : ℕ) → IsFirstIndex pool entry index → index_in test pool ≡ Some index
  unfolding index_in
  first_index pool zero first = absurd (none_is_some entry first.there)
  first_index pool (suc k) first =
      let number : 1 + k ≡ suc k = omega arith in
      first_at (slots_of pool) 1 k first.there (λ j lt. first.first (suc j) (omega (arith, lt))) ∙ ap (λ (m : ℕ). Some m) number

  no_index : (pool : List Entry) → IsAbsent pool entry → index_in test pool ≡ None
  unfolding index_in
  no_index pool absent = none_at (slots_of pool) 1 (λ k. absent (suc k))

  -- ---- room

  room_by : (pool : List Entry) (b : Bool) → nat_lt (count_of pool + 1) (2 ^ 16) ≡ b → IsAbsent pool entry → width_of entry ≡ 1 → (IsFull pool entry → ⊥) → b ≡ true
  room_by pool true is absent width room = refl
  room_by pool false is absent width room =
      let most : 2 ^ 16 ≤ count_of pool + 1 = ltb-false (count_of pool + 1) (2 ^ 16) is in
      absurd (room (record { absent = absent; full = omega (arith, most, width) }))

  full_by : (pool : List Entry) (b : Bool) → nat_lt (count_of pool + 1) (2 ^ 16) ≡ b → width_of entry ≡ 1 → 2 ^ 16 ≤ count_of pool + width_of entry → b ≡ false
  full_by pool false is width full = refl
  full_by pool true is width full = let lt = ltb-true (count_of pool + 1) (2 ^ 16) is in absurd (omega (arith, lt, width, full))

  abbrev IsDone : List Entry → List Entry → Result ℕ AddFault → Type 0
  IsDone old new r = ReadsUnless add.Memory (answered new) r (added_by (index_in test old) entry old)

  added_or : (old new : List Entry) (index : ℕ) → width_of entry ≡ 1 → (IsFull old entry → ⊥) → Adds old entry new index → added_by (index_in test old) entry old ≡ Ok (index, new)
  added_or old new index width room (inl found) =
      ap (λ o. added_by o entry old) (first_index old index found.0) ∙ ap (λ (es : List Entry). Ok (index, es)) (sym found.1)
  added_or old new index width room (inr added) =
      ap (λ o. added_by o entry old) (no_index old added.0)
      ∙ (ap (λ b. cond b (Ok (count_of old, old ++ entry ∷ [])) (Err add.Full)) (room_by old (nat_lt (count_of old + 1) (2 ^ 16)) refl added.0 width room)
      ∙ (ap (λ (n : ℕ). Ok (n, old ++ entry ∷ [])) (sym added.1) ∙ ap (λ (es : List Entry). Ok (index, es)) (sym added.2)))

  refused : (old : List Entry) → width_of entry ≡ 1 → IsFull old entry → added_by (index_in test old) entry old ≡ Err add.Full
  refused old width full =
      ap (λ o. added_by o entry old) (no_index old full.absent)
      ∙ ap (λ b. cond b (Ok (count_of old, old ++ entry ∷ [])) (Err add.Full)) (full_by old (nat_lt (count_of old + 1) (2 ^ 16)) refl width full.full)

  pub done : (old new : List Entry) (r : Result ℕ AddFault) → width_of entry ≡ 1 → IfOk r (λ index. Adds old entry new index) → ((r ≡ Err add.Full) ↔ IsFull old entry) → IsDone old new r
  done old new (Ok index) width added full = added_or old new index width (λ f. not_refused index (full.1 f)) added
  done old new (Err add.Full) width added full = inr (refused old width (full.0 refl))
  done old new (Err add.Memory) width added full = inl refl

-- ---- texts, and classes by the index of their name

text_other : (units : List ℕ) (other : Entry) → is_text units other ≡ true → other ≡ Utf8 units
text_other units (Utf8 us) is = ap (λ (xs : List ℕ). Utf8 xs) ((bytes_eq-Decides us units).0 is)
text_other units _ is = absurd (cc)

finds_text : (units : List ℕ) → Finds (is_text units) (Utf8 units)
finds_text units = record { own = (bytes_eq-Decides units units).1 refl; only = text_other units }

class_other : (name : ℕ) (other : Entry) → is_class_of name other ≡ true → other ≡ Class name
class_other name (Class n) is = ap (λ (m : ℕ). Class m) (eqb-true n name is)
class_other name _ is = absurd (cc)

finds_class : (name : ℕ) → Finds (is_class_of name) (Class name)
finds_class name = record { own = eq-eqb name name refl; only = class_other name }

pub text_done : (units : List ℕ) (old new : List Entry) (r : Result ℕ AddFault) → IfOk r (λ index. Adds old (Utf8 units) new index) → ((r ≡ Err add.Full) ↔ IsFull old (Utf8 units)) → ReadsUnless add.Memory (answered new) r (text_added units old)
unfolding text_added
text_done units old new r added full = done (is_text units) (Utf8 units) (finds_text units) old new r refl added full

pub class_done : (name : ℕ) (old new : List Entry) (r : Result ℕ AddFault) → IfOk r (λ index. Adds old (Class name) new index) → ((r ≡ Err add.Full) ↔ IsFull old (Class name)) → ReadsUnless add.Memory (answered new) r (class_by name old)
unfolding class_by
class_done name old new r added full = done (is_class_of name) (Class name) (finds_class name) old new r refl added full
