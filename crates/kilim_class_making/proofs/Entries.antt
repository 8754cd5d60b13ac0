-- Pools are equal where their indices name the same entries.
use Rattle.std.proofs.Common.{◌≡◌, ◌<◌, ◌+◌, ℕ, zero, suc, Bool, true, false, cond, List, [], ◌∷◌, ◌++◌, length, Option, Some, None, refl, sym, ap, ◌∙◌, arith}
use Rattle.kilim_class_pool.specs.declared.entry.Entry.{Entry}
use Rattle.kilim_class_pool.specs.Entries.{count_of, entry_at, is_wide, slot, slots_of}
use Rattle.kilim_class_pool.specs.Slots.{present}

abbrev Slots : Type 0
Slots = List (Option Entry)

same_slots : (xs ys : Slots) → length xs ≡ length ys → ((k : ℕ) → k < length xs → slot xs k ≡ slot ys k) → xs ≡ ys
same_slots [] [] len same = refl
same_slots [] (y ∷ ys) len same = absurd (omega (arith, len))
same_slots (x ∷ xs) [] len same = absurd (omega (arith, len))
same_slots (x ∷ xs) (y ∷ ys) len same =
    let first : x ≡ y = same 0 (omega arith) in
    let rest : xs ≡ ys = same_slots xs ys (omega (arith, len)) (λ k lt. same (suc k) (omega (arith, lt))) in
    ap (λ (s : Option Entry). s ∷ xs) first ∙ ap (λ (ss : Slots). y ∷ ss) rest

of_entry : (x : Entry) (slots : Slots) (wide : Bool) → present (cond wide (Some x ∷ None ∷ []) (Some x ∷ []) ++ slots) ≡ x ∷ present slots
of_entry x slots true = refl
of_entry x slots false = refl

present_all : (entries : List Entry) → present (slots_of entries) ≡ entries
present_all [] = refl
present_all (x ∷ xs) = of_entry x (slots_of xs) (is_wide x) ∙ ap (λ (es : List Entry). x ∷ es) (present_all xs)

pub same_pools : (one other : List Entry) → count_of one ≡ count_of other → ((k : ℕ) → k < count_of one → entry_at one k ≡ entry_at other k) → one ≡ other
same_pools one other count same =
    let len : length (slots_of one) ≡ length (slots_of other) = omega (arith, count) in
    let slots : slots_of one ≡ slots_of other = same_slots (slots_of one) (slots_of other) len (λ k lt. same (suc k) (omega (arith, lt))) in
    sym (present_all one) ∙ (ap present slots ∙ present_all other)
