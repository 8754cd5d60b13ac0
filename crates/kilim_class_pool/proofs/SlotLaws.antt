-- Slots of entries, one after the other.
use Rattle.std.proofs.Common.{◌≡◌, ℕ, zero, suc, get_or, ◌+◌, ◌^◌, ◌<◌, Bool, true, false, cond, List, [], ◌∷◌, ◌++◌, length, Option, Some, None, Result, Ok, Err, OnOk, OnErr, refl, sym, ap, subst, ◌∙◌, append_assoc, arith}
use Rattle.std.specs.List.{flat_map, AllByRecursion}
use Rattle.std.proofs.lemmas.List.{append-nil, length-append}
use Rattle.kilim_class_grammar.specs.Spelling.{u2}
use Rattle.kilim_class_pool.specs.declared.entry.Entry.{Entry}
use Rattle.kilim_class_pool.specs.Entries.{is_wide, width_of, slots_of_entry, slots_of, count_of}
use Rattle.kilim_class_pool.specs.Spelling.{entry_text, pool_text, EntryFits}
use Rattle.kilim_class_pool.specs.Slots.{present, AreSlots, slot_text, SlotFits}

present-append : (xs ys : List (Option Entry)) → present (xs ++ ys) ≡ present xs ++ present ys
present-append [] ys = refl
present-append (Some entry ∷ xs) ys = ap (λ (es : List Entry). entry ∷ es) (present-append xs ys)
present-append (None ∷ xs) ys = present-append xs ys

pub slots-append : (xs ys : List Entry) → slots_of (xs ++ ys) ≡ slots_of xs ++ slots_of ys
slots-append [] ys = refl
slots-append (x ∷ xs) ys = ap (λ (ss : List (Option Entry)). slots_of_entry x ++ ss) (slots-append xs ys) ∙ sym (append_assoc (slots_of_entry x) (slots_of xs) (slots_of ys))

of_wide : (entry : Entry) (wide : Bool) → (present (cond wide (Some entry ∷ None ∷ []) (Some entry ∷ [])) ≡ entry ∷ []) × (length (cond wide (Some entry ∷ None ∷ []) (Some entry ∷ [])) ≡ cond wide 2 1)
of_wide entry true = (refl, refl)
of_wide entry false = (refl, refl)

pub present_entry : (entry : Entry) → present (slots_of_entry entry) ≡ entry ∷ []
present_entry entry = (of_wide entry (is_wide entry)).0

pub length_entry : (entry : Entry) → length (slots_of_entry entry) ≡ width_of entry
length_entry entry = (of_wide entry (is_wide entry)).1

pub one_more : (slots : List (Option Entry)) (entry : Entry) → present (slots ++ slots_of_entry entry) ≡ present slots ++ entry ∷ []
one_more slots entry = present-append slots (slots_of_entry entry) ∙ ap (λ (es : List Entry). present slots ++ es) (present_entry entry)

pub count_more : (entries : List Entry) (entry : Entry) → count_of (entries ++ entry ∷ []) ≡ count_of entries + width_of entry
count_more entries entry =
    let e : length (slots_of (entries ++ entry ∷ [])) ≡ length (slots_of entries) + length (slots_of_entry entry) =
    ap length (slots-append entries (entry ∷ []) ∙ ap (λ (ss : List (Option Entry)). slots_of entries ++ ss) (append-nil (slots_of_entry entry))) ∙ length-append (slots_of entries) (slots_of_entry entry) in
    let w = length_entry entry in
    omega arith

pub still_slots : (slots : List (Option Entry)) (entry : Entry) → AreSlots slots → count_of (present slots) + width_of entry < 2 ^ 16 → AreSlots (slots ++ slots_of_entry entry)
still_slots slots entry are room =
    let w = length_entry entry in
    let len = length-append slots (slots_of_entry entry) in
    let same : length (slots_of (present slots)) ≡ length slots = ap length are.whole in
    record {
      whole = ap slots_of (one_more slots entry) ∙ (slots-append (present slots) (entry ∷ []) ∙ (ap (λ (ss : List (Option Entry)). ss ++ slots_of (entry ∷ [])) are.whole ∙ ap (λ (ss : List (Option Entry)). slots ++ ss) (append-nil (slots_of_entry entry))));
      few = omega arith;
    }

-- ---- what `push` leaves

module _ {T E : Type 0} (old new : List (Option Entry)) (entry : Entry) where
  pub pushed_slots : (r : Result T E) → AreSlots old → count_of (present old) + width_of entry < 2 ^ 16 → OnOk r (new ≡ old ++ slots_of_entry entry) → OnErr r (new ≡ old) → AreSlots new
  pushed_slots (Ok x) are room ok err = subst (λ (slots : List (Option Entry)). AreSlots slots) (sym ok) (still_slots old entry are room)
  pushed_slots (Err e) are room ok err = subst (λ (slots : List (Option Entry)). AreSlots slots) (sym err) are

  pub pushed_entries : (r : Result T E) (entries : List Entry) → present old ≡ entries → OnOk r (new ≡ old ++ slots_of_entry entry) → OnOk r (present new ≡ entries ++ entry ∷ [])
  pushed_entries (Ok x) entries is ok = ap present ok ∙ (one_more old entry ∙ ap (λ (es : List Entry). es ++ entry ∷ []) is)
  pushed_entries (Err e) entries is ok = ok

-- ---- the text of slots

of_slots : (x : Entry) (slots : List (Option Entry)) (wide : Bool) → flat_map slot_text (cond wide (Some x ∷ None ∷ []) (Some x ∷ []) ++ slots) ≡ entry_text x ++ flat_map slot_text slots
of_slots x slots true = refl
of_slots x slots false = refl

pub slots_text : (entries : List Entry) → flat_map slot_text (slots_of entries) ≡ flat_map entry_text entries
slots_text [] = refl
slots_text (x ∷ xs) = of_slots x (slots_of xs) (is_wide x) ∙ ap (λ (bytes : List ℕ). entry_text x ++ bytes) (slots_text xs)

pub written : {T E : Type 0} (r : Result T E) (old mid new : List ℕ) (entries : List Entry) (slots : List (Option Entry)) → slots ≡ slots_of entries → mid ≡ old ++ u2 (count_of entries)
    → OnOk r (new ≡ mid ++ flat_map slot_text slots) → OnOk r (new ≡ old ++ pool_text entries)
written (Ok x) old mid new entries slots are is ok =
    ok ∙ (ap (λ (bytes : List ℕ). bytes ++ flat_map slot_text slots) is ∙ (append_assoc old (u2 (count_of entries)) (flat_map slot_text slots)
    ∙ ap (λ (bytes : List ℕ). old ++ (u2 (count_of entries) ++ bytes)) (ap (flat_map slot_text) are ∙ slots_text entries)))
written (Err e) old mid new entries slots are is ok = ok

in_entry : (x : Entry) (slots : List (Option Entry)) (d : Option Entry) (wide : Bool) → EntryFits x → ((j : ℕ) → j < length slots → SlotFits (get_or slots j d)) → (k : ℕ)
    → k < length (cond wide (Some x ∷ None ∷ []) (Some x ∷ []) ++ slots) → SlotFits (get_or (cond wide (Some x ∷ None ∷ []) (Some x ∷ []) ++ slots) k d)
in_entry x slots d true fit others zero lt = fit
in_entry x slots d true fit others (suc zero) lt = tt
in_entry x slots d true fit others (suc (suc k)) lt = others k (omega arith)
in_entry x slots d false fit others zero lt = fit
in_entry x slots d false fit others (suc k) lt = others k (omega arith)

-- each slot has a text where each entry has
pub slots_fit : (entries : List Entry) (k : ℕ) (d : Option Entry) → AllByRecursion EntryFits entries → k < length (slots_of entries) → SlotFits (get_or (slots_of entries) k d)
slots_fit [] k d fits lt = absurd (omega arith)
slots_fit (x ∷ xs) k d fits lt = in_entry x (slots_of xs) d (is_wide x) fits.0 (λ j below. slots_fit xs j d fits.1 below) k lt
