-- Reading a constant pool from its first byte: the count, the entries in order, and then, once all are there, the
-- indices in them in order.
use Rattle.std.specs.Prelude.{ℕ, zero, suc, ◌+◌, ◌-◌, ◌==◌, nat_lt, Bool, true, false, ◌&&◌, ◌||◌, not, if◌then◌else◌, List, [], ◌∷◌, Option, Some, None, Result, Ok, Err}
use Rattle.std.specs.Int.{w8, w16, w32, w64}
use Rattle.kilim_class_grammar.specs.Reader.{Reader, ◌>>=◌, checked, number_at, signed_at, bytes_at, both, made}
use Rattle.kilim_class_mutf8.specs.Whole.{units_of}
use Rattle.kilim_class_pool.specs.declared.entry.Entry.{Entry}
use Rattle.kilim_class_pool.specs.declared.entry.Entry.TheVariants.{Utf8, Integer, Float, Long, Double, Class, String, Fieldref, Methodref, InterfaceMethodref, NameAndType, MethodHandle, MethodType, InvokeDynamic}
use Rattle.kilim_class_pool.specs.declared.fault.PoolFault.{PoolFault}
use Rattle.kilim_class_pool.specs.declared.fault.PoolFault.TheVariants as pool
use Rattle.kilim_class_pool.specs.Entries.{is_wide, first_bad}

-- the units of a text, or the fault of the entry
abbrev pub or_text : ℕ → Option (List ℕ) → Result (List ℕ) PoolFault
or_text index (Some units) = Ok units
or_text index None = Err (pool.Text index)

-- a length and so many bytes, which are all there before it is asked whether they are text
unfoldable pub text_at : ℕ → Reader PoolFault (List ℕ)
text_at index bytes = do
  n ← number_at pool.Cut w16 bytes
  text ← bytes_at pool.Cut n.0 n.1
  units ← or_text index (units_of text.0)
  Ok (units, text.1)

unfoldable pub pair_at : Reader PoolFault (ℕ × ℕ)
pair_at = both (number_at pool.Cut w16) (number_at pool.Cut w16)

abbrev pub index_at : Reader PoolFault ℕ
index_at = number_at pool.Cut w16

-- a kind of method handle, and what it names
unfoldable pub handle_at : Reader PoolFault (ℕ × ℕ)
handle_at = both (number_at pool.Cut w8) index_at

-- what follows the tag of an entry that names others; there are no other tags
unfoldable pub reference_at : ℕ → ℕ → Reader PoolFault Entry
reference_at index tag bytes =
    if tag == 7 then made Class index_at bytes
    else (if tag == 8 then made String index_at bytes
    else (if tag == 9 then made (λ p. Fieldref p.0 p.1) pair_at bytes
    else (if tag == 10 then made (λ p. Methodref p.0 p.1) pair_at bytes
    else (if tag == 11 then made (λ p. InterfaceMethodref p.0 p.1) pair_at bytes
    else (if tag == 12 then made (λ p. NameAndType p.0 p.1) pair_at bytes
    else (if tag == 15 then made (λ p. MethodHandle p.0 p.1) handle_at bytes
    else (if tag == 16 then made MethodType index_at bytes
    else (if tag == 18 then made (λ p. InvokeDynamic p.0 p.1) pair_at bytes
    else Err (pool.Tag index tag)))))))))

-- what follows a tag
unfoldable pub content_at : ℕ → ℕ → Reader PoolFault Entry
content_at index tag bytes =
    if tag == 1 then made Utf8 (text_at index) bytes
    else (if tag == 3 then made Integer (signed_at pool.Cut w32) bytes
    else (if tag == 4 then made Float (number_at pool.Cut w32) bytes
    else (if tag == 5 then made Long (signed_at pool.Cut w64) bytes
    else (if tag == 6 then made Double (number_at pool.Cut w64) bytes
    else reference_at index tag bytes))))

-- Whether the second index of a Long or a Double is there: `room` says so. It is asked at the tag.
abbrev pub has_room : Bool → ℕ → Bool
has_room room tag = room || (not (tag == 5) && not (tag == 6))

unfoldable pub entry_at_index : ℕ → Bool → Reader PoolFault Entry
entry_at_index index room bytes = do
  tag ← number_at pool.Cut w8 bytes
  checked (has_room room tag.0) (pool.BadIndex index) (content_at index tag.0 tag.1)

abbrev pub with_entry : Entry → Result (List Entry × List ℕ) PoolFault → Result (List Entry × List ℕ) PoolFault
with_entry entry (Err fault) = Err fault
with_entry entry (Ok x) = Ok (entry ∷ x.0, x.1)

-- The entries of so many indices, beginning with `index`; the first of these is a second index where `second` says
-- so, and then nothing is read for it.
unfoldable pub entries_at : ℕ → Bool → ℕ → Reader PoolFault (List Entry)
entries_at zero second index bytes = Ok ([], bytes)
entries_at (suc n) true index bytes = entries_at n false (index + 1) bytes
entries_at (suc n) false index bytes = do
  first ← entry_at_index index (nat_lt 0 n) bytes
  with_entry first.0 (entries_at n (is_wide first.0) (index + 1) first.1)

-- the fault of the entry at a place of the slots
abbrev pub unless_bad : {A : Type 0} → Option ℕ → A → Result A PoolFault
unless_bad (Some place) x = Err (pool.BadIndex (place + 1))
unless_bad None x = Ok x

unfoldable pub pool_at : Reader PoolFault (List Entry)
pool_at bytes = do
  count ← number_at pool.Cut w16 bytes
  entries ← checked (nat_lt 0 count.0) (pool.BadIndex 0) (entries_at (count.0 - 1) false 1 count.1)
  unless_bad (first_bad entries.0) entries
