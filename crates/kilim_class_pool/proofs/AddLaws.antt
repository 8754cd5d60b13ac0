-- An entry that is appended, and the indices that were there.
use Rattle.std.proofs.Common.{◌≡◌, ℕ, zero, suc, ◌+◌, ◌<◌, Bool, true, false, cond, List, [], ◌∷◌, ◌++◌, length, Option, Some, None, Result, Ok, Err, refl, sym, ap, ◌∙◌, arith}
use Rattle.kilim_class_pool.specs.declared.entry.Entry.{Entry}
use Rattle.kilim_class_pool.specs.declared.fault.AddFault.{AddFault}
use Rattle.kilim_class_pool.specs.Entries.{is_wide, slots_of, slot, entry_at, count_of}
use Rattle.kilim_class_pool.specs.declared.fault.AddFault.TheVariants.{Full}
use Rattle.kilim_class_pool.specs.Adding.{IsFull}
use Rattle.kilim_class_pool.proofs.SlotLaws.{slots-append}

abbrev Slots : Type 0
Slots = List (Option Entry)

before : (xs ys : Slots) (k : ℕ) → k < length xs → slot (xs ++ ys) k ≡ slot xs k
before [] ys k lt = absurd (omega arith)
before (x ∷ xs) ys zero lt = refl
before (x ∷ xs) ys (suc k) lt = before xs ys k (omega arith)

behind : (xs ys : Slots) → slot (xs ++ ys) (length xs) ≡ slot ys 0
behind [] ys = refl
behind (x ∷ xs) ys = behind xs ys

of_wide : (entry : Entry) (wide : Bool) → slot (cond wide (Some entry ∷ None ∷ []) (Some entry ∷ []) ++ []) 0 ≡ Some entry
of_wide entry true = refl
of_wide entry false = refl

pub old_index : (entries : List Entry) (entry : Entry) (index : ℕ) → index < count_of entries → entry_at (entries ++ entry ∷ []) index ≡ entry_at entries index
old_index entries entry zero lt = refl
old_index entries entry (suc place) lt =
    ap (λ (slots : Slots). slot slots place) (slots-append entries (entry ∷ [])) ∙ before (slots_of entries) (slots_of (entry ∷ [])) place (omega arith)

pub new_index : (entries : List Entry) (entry : Entry) → entry_at (entries ++ entry ∷ []) (count_of entries) ≡ Some entry
new_index entries entry =
    let k : count_of entries ≡ suc (length (slots_of entries)) = omega arith in
    ap (entry_at (entries ++ entry ∷ [])) k
    ∙ (ap (λ (slots : Slots). slot slots (length (slots_of entries))) (slots-append entries (entry ∷ []))
    ∙ (behind (slots_of entries) (slots_of (entry ∷ [])) ∙ of_wide entry (is_wide entry)))

abbrev answered : ℕ → Result ℕ AddFault
answered index = Ok index

-- where the entry is there, the pool isn't full for it
pub not_full : (entries : List Entry) (entry : Entry) (place : ℕ) (slots : Slots) → slots ≡ slots_of entries → slot slots place ≡ Some entry → (answered (place + 1) ≡ Err Full → IsFull entries entry) × (IsFull entries entry → answered (place + 1) ≡ Err Full)
not_full entries entry place slots are there = (λ e. absurd cc, λ f. absurd (f.absent (suc place) (ap (λ (ss : Slots). slot ss place) (sym are) ∙ there)))
