-- A pool with entries behind it.
use Rattle.std.proofs.Common.{◌≡◌, ◌==◌, ◌+◌, ℕ, zero, suc, Bool, true, false, not, ◌&&◌, ◌||◌, cond, List, [], ◌∷◌, ◌++◌, Option, Some, None, refl, sym, ap, subst, ◌∙◌}
use Rattle.std.specs.List.{AllByRecursion, position_from}
use Rattle.std.proofs.lemmas.Iterator.Adapters.{position_from-zero}
use Rattle.kilim_class_pool.specs.declared.entry.Entry.{Entry}
use Rattle.kilim_class_pool.specs.declared.entry.Entry.TheVariants.{Utf8, Integer, Float, Long, Double, Class, String, Fieldref, Methodref, InterfaceMethodref, NameAndType, MethodHandle, MethodType, InvokeDynamic}
use Rattle.kilim_class_pool.specs.Entries.{entry_at, first_bad, is_bad, is_class, is_handled, is_member, is_name_and_type, is_utf8, is_wide, refers_well, slot, slots_of}
use Rattle.kilim_class_pool.specs.Spelling.{EntryFits, PoolFits}
use Rattle.kilim_class_pool.proofs.SlotLaws.{slots-append}
use Rattle.kilim_class_making.specs.pool_needs.growth.Growth.{CanFollow, Extends, Grows}
use Rattle.kilim_class_making.proofs.pool_needs.growth.Parts.{all_mapped, passes_too}

abbrev Slots : Type 0
Slots = List (Option Entry)

-- ---- old indices

nothing_there : (entry : Entry) → None ≡ Some entry → ⊥
nothing_there entry is = cc

slot_stays : (xs ys : Slots) (k : ℕ) (entry : Entry) → slot xs k ≡ Some entry → slot (xs ++ ys) k ≡ Some entry
slot_stays [] ys k entry is = absurd (nothing_there entry is)
slot_stays (x ∷ xs) ys zero entry is = is
slot_stays (x ∷ xs) ys (suc k) entry is = slot_stays xs ys k entry is

pub extends_by : (old more : List Entry) → Extends old (old ++ more)
extends_by old more zero entry is = absurd (nothing_there entry is)
extends_by old more (suc k) entry is = ap (λ (ss : Slots). slot ss k) (slots-append old more) ∙ slot_stays (slots_of old) (slots_of more) k entry is

-- ---- entries that refer well

both_hold : (a b c d : Bool) → (a ≡ true → c ≡ true) → (b ≡ true → d ≡ true) → (a && b) ≡ true → (c && d) ≡ true
both_hold true true c d first second is = ap (λ x. x && d) (first refl) ∙ second refl
both_hold true false c d first second is = absurd (cc)
both_hold false b c d first second is = absurd (cc)

-- a method handle of any kind names something
handles_none : (a b c d : Bool) → cond a false (cond b false (cond c false (cond d false false))) ≡ false
handles_none true b c d = refl
handles_none false true c d = refl
handles_none false false true d = refl
handles_none false false false true = refl
handles_none false false false false = refl

module _ (old new : List Entry) (extends : Extends old new) where
  text : (index : ℕ) → is_utf8 (entry_at old index) ≡ true → is_utf8 (entry_at new index) ≡ true
  text index is = passes_too is_utf8 refl old new extends index is

  pair : (index : ℕ) → is_name_and_type (entry_at old index) ≡ true → is_name_and_type (entry_at new index) ≡ true
  pair index is = passes_too is_name_and_type refl old new extends index is

  member : (class index : ℕ) → is_member old class index ≡ true → is_member new class index ≡ true
  member class index is =
      both_hold (is_class (entry_at old class)) (is_name_and_type (entry_at old index)) (is_class (entry_at new class)) (is_name_and_type (entry_at new index))
      (λ h. passes_too is_class refl old new extends class h) (λ h. pair index h) is

  pub refers_too : (entry : Entry) → refers_well old entry ≡ true → refers_well new entry ≡ true
  unfolding refers_well
  refers_too (Class name) is = text name is
  refers_too (String index) is = text index is
  refers_too (Fieldref class index) is = member class index is
  refers_too (Methodref class index) is = member class index is
  refers_too (InterfaceMethodref class index) is = member class index is
  refers_too (NameAndType name descriptor) is = both_hold (is_utf8 (entry_at old name)) (is_utf8 (entry_at old descriptor)) (is_utf8 (entry_at new name)) (is_utf8 (entry_at new descriptor)) (text name) (text descriptor) is
  refers_too (MethodHandle kind named) is = passes_too (is_handled kind) (handles_none (kind == 1 || kind == 2 || kind == 3 || kind == 4) (kind == 5 || kind == 8) (kind == 6 || kind == 7) (kind == 9)) old new extends named is
  refers_too (MethodType descriptor) is = text descriptor is
  refers_too (InvokeDynamic bootstrap index) is = pair index is
  refers_too (Utf8 units) is = refl
  refers_too (Integer n) is = refl
  refers_too (Float bits) is = refl
  refers_too (Long n) is = refl
  refers_too (Double bits) is = refl

-- ---- no slot of the pool is bad

abbrev Test : Type 0
Test = Option Entry → Bool

fails_by : (t : Test) (n : ℕ) (x : Option Entry) (xs : Slots) (b : Bool) → t x ≡ b → cond b (Some n) (position_from t (n + 1) xs) ≡ None → (t x ≡ false) × (position_from t (n + 1) xs ≡ None)
fails_by t n x xs true is none = absurd (cc)
fails_by t n x xs false is none = (is, none)

all_fail : (t : Test) (n : ℕ) (xs : Slots) → position_from t n xs ≡ None → AllByRecursion (λ x. t x ≡ false) xs
all_fail t n [] none = tt
all_fail t n (x ∷ xs) none = let f = fails_by t n x xs (t x) refl none in (f.0, all_fail t (n + 1) xs f.1)

none_passes : (t : Test) (n : ℕ) (xs : Slots) → AllByRecursion (λ x. t x ≡ false) xs → position_from t n xs ≡ None
none_passes t n [] all = refl
none_passes t n (x ∷ xs) all = ap (λ b. cond b (Some n) (position_from t (n + 1) xs)) all.0 ∙ none_passes t (n + 1) xs all.1

abbrev NoneBad : List Entry → Slots → Type 0
NoneBad pool slots = AllByRecursion (λ s. is_bad pool s ≡ false) slots

pub none_bad : (pool : List Entry) → first_bad pool ≡ None → NoneBad pool (slots_of pool)
unfolding first_bad
none_bad pool none = all_fail (is_bad pool) 0 (slots_of pool) (sym (position_from-zero (is_bad pool) (slots_of pool)) ∙ none)

pub none_first : (pool : List Entry) → NoneBad pool (slots_of pool) → first_bad pool ≡ None
unfolding first_bad
none_first pool all = position_from-zero (is_bad pool) (slots_of pool) ∙ none_passes (is_bad pool) 0 (slots_of pool) all

not_false : (b : Bool) → not b ≡ false → b ≡ true
not_false true is = refl
not_false false is = absurd (cc)

good_too : (old new : List Entry) → Extends old new → (s : Option Entry) → is_bad old s ≡ false → is_bad new s ≡ false
good_too old new extends None is = refl
good_too old new extends (Some entry) is = ap not (refers_too old new extends entry (not_false (refers_well old entry) is))

all_both : (P : Option Entry → Type 0) (xs ys : Slots) → AllByRecursion P xs → AllByRecursion P ys → AllByRecursion P (xs ++ ys)
all_both P [] ys one other = other
all_both P (x ∷ xs) ys one other = (one.0, all_both P xs ys one.1 other)

pub entries_both : (P : Entry → Type 0) (xs ys : List Entry) → AllByRecursion P xs → AllByRecursion P ys → AllByRecursion P (xs ++ ys)
entries_both P [] ys one other = other
entries_both P (x ∷ xs) ys one other = (one.0, entries_both P xs ys one.1 other)

of_entry : (pool : List Entry) (entry : Entry) (rest : Slots) (wide : Bool) → refers_well pool entry ≡ true → NoneBad pool rest → NoneBad pool (cond wide (Some entry ∷ None ∷ []) (Some entry ∷ []) ++ rest)
of_entry pool entry rest true well others = (ap not well, (refl, others))
of_entry pool entry rest false well others = (ap not well, others)

of_entries : (pool more : List Entry) → AllByRecursion (λ entry. refers_well pool entry ≡ true) more → NoneBad pool (slots_of more)
of_entries pool [] well = tt
of_entries pool (x ∷ xs) well = of_entry pool x (slots_of xs) (is_wide x) well.0 (of_entries pool xs well.1)

pub grows : (old more : List Entry) → PoolFits old → CanFollow old more → Grows old (old ++ more)
grows old more fits can =
    let new = old ++ more in
    let extends = extends_by old more in
    let olds : NoneBad new (slots_of old) = all_mapped (λ s. is_bad old s ≡ false) (λ s. is_bad new s ≡ false) (good_too old new extends) (slots_of old) (none_bad old fits.refer) in
    let all : NoneBad new (slots_of old ++ slots_of more) = all_both (λ s. is_bad new s ≡ false) (slots_of old) (slots_of more) olds (of_entries new more can.refer) in
    record {
      extends = extends;
      fits = record {
        few = can.few;
        fit = entries_both EntryFits old more fits.fit can.fit;
        refer = none_first new (subst (NoneBad new) (sym (slots-append old more)) all);
      };
    }
