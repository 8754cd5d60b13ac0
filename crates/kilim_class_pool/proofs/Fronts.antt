-- What stays of reading a pool, whatever follows.
use Rattle.std.proofs.Common.{◌≡◌, ℕ, zero, suc, ◌+◌, ◌-◌, ◌==◌, Bool, true, false, not, ltb, List, [], ◌∷◌, ◌++◌, Option, Some, None, Result, Ok, Err, refl, inl, inr}
use Rattle.std.specs.Int.{w8, w16, w32, w64}
use Rattle.kilim_class_grammar.specs.Reader.{Reader, ◌>>=◌, checked, number_at, signed_at, bytes_at, both, made}
use Rattle.kilim_class_grammar.specs.Fronts.{Stays, StaysRead}
use Rattle.kilim_class_grammar.proofs.Fronts.{then_stays, also_stays, checked_stays, choice_stays, bytes_stay, number_stays, signed_stays, both_stay, made_stays}
use Rattle.kilim_class_mutf8.specs.Whole.{units_of}
use Rattle.kilim_class_pool.specs.declared.entry.Entry.{Entry}
use Rattle.kilim_class_pool.specs.declared.entry.Entry.TheVariants.{Utf8, Integer, Float, Long, Double, Class, String, Fieldref, Methodref, InterfaceMethodref, NameAndType, MethodHandle, MethodType, InvokeDynamic}
use Rattle.kilim_class_pool.specs.declared.fault.PoolFault.{PoolFault}
use Rattle.kilim_class_pool.specs.declared.fault.PoolFault.TheVariants as pool
use Rattle.kilim_class_pool.specs.Entries.{is_wide, first_bad}
use Rattle.kilim_class_pool.specs.Reading.{or_text, text_at, pair_at, index_at, handle_at, reference_at, content_at, has_room, entry_at_index, with_entry, entries_at, unless_bad, pool_at}
use Rattle.kilim_class_pool.specs.Fronts.{IsCut, PoolStays}

abbrev Stay : {A : Type 0} → Reader PoolFault A → Type 0
Stay one = StaysRead IsCut one one

a_number : (w : _) → Stay (number_at pool.Cut w)
a_number w = number_stays IsCut pool.Cut pool.Cut refl w

a_signed : (w : _) → Stay (signed_at pool.Cut w)
a_signed w = signed_stays IsCut pool.Cut pool.Cut refl w

-- a value that is made of what was read
of_entry : {A : Type 0} (make : A → Entry) (one : Reader PoolFault A) → Stay one → Stay (made make one)
of_entry make one h = made_stays IsCut one one h make

a_text : (index : ℕ) → Stay (text_at index)
unfolding text_at
a_text index bytes more =
    then_stays IsCut more (number_at pool.Cut w16 bytes) (number_at pool.Cut w16 (bytes ++ more)) _ _ (a_number w16 bytes more)
    (λ n rest. then_stays IsCut more (bytes_at pool.Cut n rest) (bytes_at pool.Cut n (rest ++ more)) _ _ (bytes_stay IsCut pool.Cut pool.Cut refl n rest more)
    (λ text after. also_stays IsCut more (or_text index (units_of text)) _ _ (λ units. refl)))

a_pair : Stay pair_at
unfolding pair_at
a_pair = both_stay IsCut (number_at pool.Cut w16) (number_at pool.Cut w16) (a_number w16) (number_at pool.Cut w16) (number_at pool.Cut w16) (a_number w16)

a_handle : Stay handle_at
unfolding handle_at
a_handle = both_stay IsCut (number_at pool.Cut w8) (number_at pool.Cut w8) (a_number w8) (number_at pool.Cut w16) (number_at pool.Cut w16) (a_number w16)

a_reference : (index tag : ℕ) → Stay (reference_at index tag)
unfolding reference_at
a_reference index tag bytes more =
    choice_stays IsCut more (tag == 7) _ _ _ _ (of_entry Class index_at (a_number w16) bytes more)
    (choice_stays IsCut more (tag == 8) _ _ _ _ (of_entry String index_at (a_number w16) bytes more)
    (choice_stays IsCut more (tag == 9) _ _ _ _ (of_entry (λ p. Fieldref p.0 p.1) pair_at a_pair bytes more)
    (choice_stays IsCut more (tag == 10) _ _ _ _ (of_entry (λ p. Methodref p.0 p.1) pair_at a_pair bytes more)
    (choice_stays IsCut more (tag == 11) _ _ _ _ (of_entry (λ p. InterfaceMethodref p.0 p.1) pair_at a_pair bytes more)
    (choice_stays IsCut more (tag == 12) _ _ _ _ (of_entry (λ p. NameAndType p.0 p.1) pair_at a_pair bytes more)
    (choice_stays IsCut more (tag == 15) _ _ _ _ (of_entry (λ p. MethodHandle p.0 p.1) handle_at a_handle bytes more)
    (choice_stays IsCut more (tag == 16) _ _ _ _ (of_entry MethodType index_at (a_number w16) bytes more)
    (choice_stays IsCut more (tag == 18) _ _ _ _ (of_entry (λ p. InvokeDynamic p.0 p.1) pair_at a_pair bytes more) (inr refl)))))))))

a_content : (index tag : ℕ) → Stay (content_at index tag)
unfolding content_at
a_content index tag bytes more =
    choice_stays IsCut more (tag == 1) _ _ _ _ (of_entry Utf8 (text_at index) (a_text index) bytes more)
    (choice_stays IsCut more (tag == 3) _ _ _ _ (of_entry Integer (signed_at pool.Cut w32) (a_signed w32) bytes more)
    (choice_stays IsCut more (tag == 4) _ _ _ _ (of_entry Float (number_at pool.Cut w32) (a_number w32) bytes more)
    (choice_stays IsCut more (tag == 5) _ _ _ _ (of_entry Long (signed_at pool.Cut w64) (a_signed w64) bytes more)
    (choice_stays IsCut more (tag == 6) _ _ _ _ (of_entry Double (number_at pool.Cut w64) (a_number w64) bytes more) (a_reference index tag bytes more)))))

an_entry : (index : ℕ) (room : Bool) → Stay (entry_at_index index room)
unfolding entry_at_index
an_entry index room bytes more =
    then_stays IsCut more (number_at pool.Cut w8 bytes) (number_at pool.Cut w8 (bytes ++ more)) _ _ (a_number w8 bytes more)
    (λ tag rest. checked_stays IsCut more (has_room room tag) (pool.BadIndex index) (content_at index tag rest) (content_at index tag (rest ++ more)) (a_content index tag rest more))

with_more : (entry : Entry) (more : List ℕ) (r longer : Result (List Entry × List ℕ) PoolFault) → Stays IsCut more r longer → Stays IsCut more (with_entry entry r) (with_entry entry longer)
with_more entry more (Ok x) longer h = rw h refl
with_more entry more (Err fault) longer (inl cut) = inl cut
with_more entry more (Err fault) longer (inr h) = inr (rw h refl)

entries : (n : ℕ) (second : Bool) (index : ℕ) → Stay (entries_at n second index)
unfolding entries_at
entries zero second index bytes more = refl
entries (suc n) true index bytes more = entries n false (index + 1) bytes more
entries (suc n) false index bytes more =
    then_stays IsCut more (entry_at_index index (ltb 0 n) bytes) (entry_at_index index (ltb 0 n) (bytes ++ more)) _ _ (an_entry index (ltb 0 n) bytes more)
    (λ first rest. with_more first more (entries_at n (is_wide first) (index + 1) rest) (entries_at n (is_wide first) (index + 1) (rest ++ more)) (entries n (is_wide first) (index + 1) rest more))

unless_more : {A : Type 0} (place : Option ℕ) (x : A) (rest more : List ℕ) → Stays IsCut more (unless_bad place (x, rest)) (unless_bad place (x, rest ++ more))
unless_more (Some place) x rest more = inr refl
unless_more None x rest more = refl

pub pool_stays : PoolStays
unfolding pool_at
pool_stays bytes more =
    then_stays IsCut more (number_at pool.Cut w16 bytes) (number_at pool.Cut w16 (bytes ++ more)) _ _ (a_number w16 bytes more)
    (λ count rest. then_stays IsCut more (checked (ltb 0 count) (pool.BadIndex 0) (entries_at (count - 1) false 1 rest)) (checked (ltb 0 count) (pool.BadIndex 0) (entries_at (count - 1) false 1 (rest ++ more))) _ _
    (checked_stays IsCut more (ltb 0 count) (pool.BadIndex 0) _ _ (entries (count - 1) false 1 rest more))
    (λ found after. unless_more (first_bad found) found after more))
