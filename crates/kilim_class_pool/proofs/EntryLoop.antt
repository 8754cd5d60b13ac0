-- Reading the entries of so many indices, one index after the other, as a loop does.
use Rattle.std.proofs.Common.{◌≡◌, ℕ, suc, ◌-◌, ◌+◌, ◌≤◌, ◌<◌, Bool, true, false, cond, ltb, Result, Ok, Err, List, [], ◌∷◌, ◌++◌, refl, sym, ap, subst, ◌∙◌, append_assoc, arith, inl, inr}
use Rattle.std.proofs.lemmas.Bool.{cases_lt, lt-ltb, le-ltb, ltb-true}
use Rattle.std.proofs.lemmas.List.{append-nil}
use Rattle.kilim_class_grammar.proofs.Loops.{with_front, FailsUnless}
use Rattle.kilim_class_pool.specs.declared.entry.Entry.{Entry}
use Rattle.kilim_class_pool.specs.declared.fault.PoolFault.{PoolFault}
use Rattle.kilim_class_pool.specs.Entries.{is_wide, width_of, count_of}
use Rattle.kilim_class_pool.proofs.SlotLaws.{count_more}
use Rattle.kilim_class_pool.specs.Reading.{entry_at_index, with_entry, entries_at}

abbrev pub Read : Type 0
Read = Result (List Entry × List ℕ) PoolFault

regroup : (front : List Entry) (x : Entry) (read : Read) → with_front front (with_entry x read) ≡ with_front (front ++ x ∷ []) read
regroup front x (Err e) = refl
regroup front x (Ok y) = ap (λ (xs : List Entry). Ok (xs, y.1)) (simp append_assoc)

-- whether there is another index
room_is : (i count : ℕ) → ltb (i + 1) count ≡ ltb 0 (count - (i + 1))
room_is i count =
    elim (cases_lt (i + 1) count) [
      | inl lt ↦ lt-ltb (i + 1) count lt ∙ sym (lt-ltb 0 (count - (i + 1)) (omega arith))
      | inr le ↦ le-ltb (i + 1) count le ∙ sym (le-ltb 0 (count - (i + 1)) (omega arith))
    ]

module _ (front : List Entry) (count i : ℕ) (bytes : List ℕ) (total : Read) where
  pub skips : i < count → with_front front (entries_at (count - i) true (i + 1) bytes) ≡ total → with_front front (entries_at (count - (i + 1)) false (i + 1 + 1) bytes) ≡ total
  unfolding entries_at
  skips lt so_far =
      let k : count - i ≡ suc (count - (i + 1)) = omega arith in
      let step : with_front front (entries_at (count - i) true (i + 1) bytes) ≡ with_front front (entries_at (count - (i + 1)) false (i + 1 + 1) bytes) = rw k refl in
      sym step ∙ so_far

  pub goes_on : (x : Entry) (after : List ℕ) → i < count → entry_at_index (i + 1) (ltb (i + 1) count) bytes ≡ Ok (x, after)
      → with_front front (entries_at (count - i) false (i + 1) bytes) ≡ total → with_front (front ++ x ∷ []) (entries_at (count - (i + 1)) (is_wide x) (i + 1 + 1) after) ≡ total
  unfolding entries_at
  goes_on x after lt h so_far =
      let k : count - i ≡ suc (count - (i + 1)) = omega arith in
      let h' : entry_at_index (i + 1) (ltb 0 (count - (i + 1))) bytes ≡ Ok (x, after) = ap (λ (b : Bool). entry_at_index (i + 1) b bytes) (sym (room_is i count)) ∙ h in
      let step : with_front front (entries_at (count - i) false (i + 1) bytes) ≡ with_front (front ++ x ∷ []) (entries_at (count - (i + 1)) (is_wide x) (i + 1 + 1) after) =
      rw (k, h') (regroup front x (entries_at (count - (i + 1)) (is_wide x) (i + 1 + 1) after)) in
      sym step ∙ so_far

  pub stops : (free e : PoolFault) → i < count → FailsUnless free e (entry_at_index (i + 1) (ltb (i + 1) count) bytes)
      → with_front front (entries_at (count - i) false (i + 1) bytes) ≡ total → FailsUnless free e total
  unfolding entries_at
  stops free e lt (inl m) so_far = inl m
  stops free e lt (inr f) so_far =
      let k : count - i ≡ suc (count - (i + 1)) = omega arith in
      let f' : entry_at_index (i + 1) (ltb 0 (count - (i + 1))) bytes ≡ Err e = ap (λ (b : Bool). entry_at_index (i + 1) b bytes) (sym (room_is i count)) ∙ f in
      let step : with_front front (entries_at (count - i) false (i + 1) bytes) ≡ Err e = rw (k, f') refl in
      inr (sym so_far ∙ step)

  pub is_done : (second : Bool) → count ≤ i → with_front front (entries_at (count - i) second (i + 1) bytes) ≡ total → total ≡ Ok (front, bytes)
  unfolding entries_at
  is_done second le so_far =
      let k : count - i ≡ 0 = omega arith in
      let step : with_front front (entries_at (count - i) second (i + 1) bytes) ≡ Ok (front, bytes) = rw k (ap (λ (xs : List Entry). Ok (xs, bytes)) (append-nil front)) in
      sym so_far ∙ step

-- the indices that an entry takes beyond its first
of_bool : (wide : Bool) → cond wide 2 1 ≡ 1 + cond wide 1 0
of_bool true = refl
of_bool false = refl

pub width_is : (x : Entry) → width_of x ≡ 1 + cond (is_wide x) 1 0
width_is x = of_bool (is_wide x)

-- ---- what the loop knows before index i + 1

pub record SoFar (total : Read) (count i : ℕ) (entries : List Entry) (second : Bool) (rest : List ℕ) : Type 0 where
  pub so_far : with_front entries (entries_at (count - i) second (i + 1) rest) ≡ total
  pub counted : count_of entries ≡ i + (1 + cond second 1 0)
  pub room : second ≡ true → i < count

pub same : (total : Read) (count i : ℕ) (entries entries' : List Entry) (second second' : Bool) (rest rest' : List ℕ) → entries ≡ entries' → second ≡ second' → rest ≡ rest' → SoFar total count i entries second rest → SoFar total count i entries' second' rest'
same total count i entries entries' second second' rest rest' e s r known =
    subst (λ (es : List Entry). SoFar total count i es second' rest') e (subst (λ (b : Bool). SoFar total count i entries b rest') s (subst (λ (bs : List ℕ). SoFar total count i entries second bs) r known))

module _ (total : Read) (count i : ℕ) (entries : List Entry) (rest : List ℕ) (lt : i < count) where
  pub after_second : SoFar total count i entries true rest → SoFar total count (i + 1) entries false rest
  after_second known = let counted = known.counted in record {
    so_far = skips entries count i rest total lt known.so_far;
    counted = omega arith;
    room = λ e. absurd cc;
  }

  -- where a wide entry has its second index
  pub after_entry : (x : Entry) (after : List ℕ) → SoFar total count i entries false rest → entry_at_index (i + 1) (ltb (i + 1) count) rest ≡ Ok (x, after) → (is_wide x ≡ true → ltb (i + 1) count ≡ true)
      → SoFar total count (i + 1) (entries ++ x ∷ []) (is_wide x) after
  after_entry x after known h wide =
      let counted = known.counted in
      let more = count_more entries x in
      let width = width_is x in
      record {
        so_far = goes_on entries count i rest total x after lt h known.so_far;
        counted = omega arith;
        room = λ e. ltb-true (i + 1) count (wide e);
      }
