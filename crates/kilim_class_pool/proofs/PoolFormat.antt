-- What is read as a pool is spelled so, and what is spelled is read again.
use Rattle.std.proofs.Common.{◌≡◌, ℕ, zero, suc, ◌+◌, ◌-◌, ◌^◌, ◌<◌, Bool, true, false, cond, ltb, List, [], ◌∷◌, ◌++◌, length, Option, Some, None, Result, Ok, Err, refl, ap, subst, ◌∙◌, append_assoc, arith}
use Rattle.std.specs.List.{flat_map, AllByRecursion}
use Rattle.std.specs.Int.{w16}
use Rattle.std.proofs.lemmas.Bool.{ltb-true, lt-ltb}
use Rattle.std.proofs.lemmas.List.{length-append}
use Rattle.kilim_class_grammar.specs.Reader.{◌>>=◌, checked, number_at}
use Rattle.kilim_class_grammar.specs.Spelling.{u2}
use Rattle.kilim_class_grammar.proofs.Bytes.{IsBytes, Takes, Takes-then}
use Rattle.kilim_class_grammar.proofs.Formats.{Format, well_is, bind_ok, checked_ok, n16}
use Rattle.kilim_class_mutf8.specs.Whole.{UnitsAreSpelled}
use Rattle.kilim_class_pool.specs.declared.entry.Entry.{Entry}
use Rattle.kilim_class_pool.specs.declared.fault.PoolFault.{PoolFault}
use Rattle.kilim_class_pool.specs.declared.fault.PoolFault.TheVariants as pool
use Rattle.kilim_class_pool.specs.Entries.{is_wide, slots_of_entry, slots_of, count_of, first_bad}
use Rattle.kilim_class_pool.specs.Spelling.{entry_text, pool_text, EntryFits, PoolFits}
use Rattle.kilim_class_pool.specs.Reading.{entry_at_index, with_entry, entries_at, unless_bad, pool_at}
use Rattle.kilim_class_pool.proofs.SlotLaws.{length_entry}
use Rattle.kilim_class_pool.proofs.EntryLoop.{width_is}
use Rattle.kilim_class_pool.proofs.EntryFormat.{RoomFor, an_entry}

abbrev Fault : Type 0
Fault = PoolFault

abbrev one_if : Bool → ℕ
one_if second = cond second 1 0

-- the entry, and what was read behind it
rest_of : (x : Entry) (read : Result (List Entry × List ℕ) Fault) (y : List Entry × List ℕ) → with_entry x read ≡ Ok y → (z : List Entry × List ℕ) × (read ≡ Ok z) × ((x ∷ z.0, z.1) ≡ y)
rest_of x (Err e) y h = absurd cc
rest_of x (Ok z) y h = (z, refl, well_is {F = Fault} (x ∷ z.0, z.1) y h)

slots_more : (x : Entry) (xs : List Entry) → length (slots_of (x ∷ xs)) ≡ 1 + one_if (is_wide x) + length (slots_of xs)
slots_more x xs = let w = length_entry x in let v = width_is x in let e = length-append (slots_of_entry x) (slots_of xs) in omega arith

module _ (law : UnitsAreSpelled) where
  -- entries of just so many indices
  entries_takes : (n : ℕ) (second : Bool) (index : ℕ) → (second ≡ true → 0 < n) → (bytes : List ℕ) (xs : List Entry) (rest : List ℕ) → IsBytes bytes → entries_at n second index bytes ≡ Ok (xs, rest)
      → Takes bytes (flat_map entry_text xs) rest × (AllByRecursion EntryFits xs × (length (slots_of xs) + one_if second ≡ n))
  unfolding entries_at
  entries_takes zero true index some bytes xs rest fits e = absurd (let lt = some refl in omega arith)
  entries_takes zero false index some bytes xs rest fits e =
      let none : List Entry × List ℕ = ([], bytes) in
      subst (λ (q : List Entry × List ℕ). Takes bytes (flat_map entry_text q.0) q.1 × (AllByRecursion EntryFits q.0 × (length (slots_of q.0) + 0 ≡ 0))) (well_is {F = Fault} none (xs, rest) e)
      (record { parts = refl; rest_fits = fits }, (tt, refl))
  entries_takes (suc n) true index some bytes xs rest fits e =
      let t = entries_takes n false (index + 1) (λ f. absurd cc) bytes xs rest fits e in
      let len = t.1.1 in
      (t.0, (t.1.0, omega arith))
  entries_takes (suc n) false index some bytes xs rest fits e =
      let a = bind_ok (entry_at_index index (ltb 0 n) bytes) (λ first. with_entry first.0 (entries_at n (is_wide first.0) (index + 1) first.1)) (xs, rest) e in
      let b = rest_of a.0.0 (entries_at n (is_wide a.0.0) (index + 1) a.0.1) (xs, rest) a.2 in
      let t = (an_entry law index (ltb 0 n)).takes bytes a.0.0 a.0.1 fits a.1 in
      let u = entries_takes n (is_wide a.0.0) (index + 1) (λ w. ltb-true 0 n (t.1.1 w)) a.0.1 b.0.0 b.0.1 t.0.rest_fits b.1 in
      let len : length (slots_of (a.0.0 ∷ b.0.0)) + 0 ≡ suc n = let more = slots_more a.0.0 b.0.0 in let below = u.1.1 in omega arith in
      subst (λ (q : List Entry × List ℕ). Takes bytes (flat_map entry_text q.0) q.1 × (AllByRecursion EntryFits q.0 × (length (slots_of q.0) + 0 ≡ suc n))) b.2
      (Takes-then bytes (entry_text a.0.0) a.0.1 (flat_map entry_text b.0.0) b.0.1 t.0 u.0, ((t.1.0, u.1.0), len))

  entries_again : (n : ℕ) (second : Bool) (index : ℕ) (xs : List Entry) (rest : List ℕ) → AllByRecursion EntryFits xs → length (slots_of xs) + one_if second ≡ n
      → entries_at n second index (flat_map entry_text xs ++ rest) ≡ Ok (xs, rest)
  unfolding entries_at
  entries_again zero second index [] rest fits len = refl
  entries_again zero second index (x ∷ xs) rest fits len = absurd (let more = slots_more x xs in omega arith)
  entries_again (suc n) true index xs rest fits len = entries_again n false (index + 1) xs rest fits (omega arith)
  entries_again (suc n) false index [] rest fits len = absurd (omega arith)
  entries_again (suc n) false index (x ∷ xs) rest fits len =
      let more = slots_more x xs in
      let left : length (slots_of xs) + one_if (is_wide x) ≡ n = omega arith in
      let roomy : RoomFor law (ltb 0 n) x = λ w. lt-ltb 0 n (let one = ap one_if w in omega arith) in
      ap (entries_at (suc n) false index) (append_assoc (entry_text x) (flat_map entry_text xs) rest)
      ∙ rw ((an_entry law index (ltb 0 n)).again x (flat_map entry_text xs ++ rest) (fits.0, roomy), entries_again n (is_wide x) (index + 1) xs rest fits.1 left) refl

  -- ---- the pool

  abbrev Read : Type 0
  Read = List Entry × List ℕ

  not_bad : (o : Option ℕ) (x y : Read) → unless_bad o x ≡ Ok y → (o ≡ None) × (x ≡ y)
  not_bad None x y e = (refl, well_is {F = Fault} x y e)
  not_bad (Some place) x y e = absurd cc

  pool_takes : (bytes : List ℕ) (xs : List Entry) (rest : List ℕ) → IsBytes bytes → pool_at bytes ≡ Ok (xs, rest) → Takes bytes (pool_text xs) rest × PoolFits xs
  unfolding pool_at
  pool_takes bytes xs rest fits e =
      let a = bind_ok (number_at pool.Cut w16 bytes) (λ count. checked (ltb 0 count.0) (pool.BadIndex 0) (entries_at (count.0 - 1) false 1 count.1) >>= λ es. unless_bad (first_bad es.0) es) (xs, rest) e in
      let b = bind_ok (checked (ltb 0 a.0.0) (pool.BadIndex 0) (entries_at (a.0.0 - 1) false 1 a.0.1)) (λ es. unless_bad (first_bad es.0) es) (xs, rest) a.2 in
      let g = checked_ok (ltb 0 a.0.0) (pool.BadIndex 0) (entries_at (a.0.0 - 1) false 1 a.0.1) b.0 b.1 in
      let d = not_bad (first_bad b.0.0) b.0 (xs, rest) b.2 in
      let t = (n16 pool.Cut).takes bytes a.0.0 a.0.1 fits a.1 in
      let u = entries_takes (a.0.0 - 1) false 1 (λ f. absurd cc) a.0.1 b.0.0 b.0.1 t.0.rest_fits g.1 in
      let some : 0 < a.0.0 = ltb-true 0 a.0.0 g.0 in
      let len : a.0.0 ≡ count_of b.0.0 = let below = u.1.1 in omega arith in
      let first : Takes bytes (u2 (count_of b.0.0)) a.0.1 = subst (λ (k : ℕ). Takes bytes (u2 k) a.0.1) len t.0 in
      let few : count_of b.0.0 < 2 ^ 16 = subst (λ (k : ℕ). k < 2 ^ 16) len t.1 in
      let pool_fits : PoolFits b.0.0 = record { few = few; fit = u.1.0; refer = d.0 } in
      subst (λ (q : Read). Takes bytes (pool_text q.0) q.1 × PoolFits q.0) d.1
      (Takes-then bytes (u2 (count_of b.0.0)) a.0.1 (flat_map entry_text b.0.0) b.0.1 first u.0, pool_fits)

  pool_again : (xs : List Entry) (rest : List ℕ) → PoolFits xs → pool_at (pool_text xs ++ rest) ≡ Ok (xs, rest)
  unfolding pool_at
  pool_again xs rest fits =
      let k : count_of xs - 1 ≡ length (slots_of xs) = omega arith in
      let es : entries_at (count_of xs - 1) false 1 (flat_map entry_text xs ++ rest) ≡ Ok (xs, rest) = entries_again (count_of xs - 1) false 1 xs rest fits.fit (omega arith) in
      ap pool_at (append_assoc (u2 (count_of xs)) (flat_map entry_text xs) rest)
      ∙ rw ((n16 pool.Cut).again (count_of xs) (flat_map entry_text xs ++ rest) fits.few, lt-ltb 0 (count_of xs) (omega arith), es, fits.refer) refl

  pub a_pool : Format pool_text pool_at PoolFits
  a_pool = record { takes = pool_takes; again = pool_again }
