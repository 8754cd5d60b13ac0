-- Arguments as locals.
use Rattle.std.proofs.Common.{◌≡◌, ◌∙◌, refl, sym, ap, ℕ, ◌+◌, ◌<◌, true, false, true≢false, List, [], ◌∷◌, ◌++◌, append_assoc, get_or, length, take}
use Rattle.std.proofs.lemmas.List.{take_more}
use Rattle.kilim_program.specs.declared.value.Value.{Value}
use Rattle.kilim_program.specs.declared.value.Value.TheVariants.{Int, Long, Null, Ref, Text, Box, Fiber}
use Rattle.kilim_run_state.specs.Machine.{slots_of}
use Rattle.kilim_run_state.specs.frames.Stacked.{is_long}

pub slots_append : (xs ys : List Value) → slots_of (xs ++ ys) ≡ slots_of xs ++ slots_of ys
slots_append [] ys = refl
slots_append (Int n ∷ xs) ys = ap (λ (t : List Value). Int n ∷ t) (slots_append xs ys)
slots_append (Long n ∷ xs) ys = ap (λ (t : List Value). Long n ∷ Null ∷ t) (slots_append xs ys)
slots_append (Null ∷ xs) ys = ap (λ (t : List Value). Null ∷ t) (slots_append xs ys)
slots_append (Ref n ∷ xs) ys = ap (λ (t : List Value). Ref n ∷ t) (slots_append xs ys)
slots_append (Text t ∷ xs) ys = ap (λ (r : List Value). Text t ∷ r) (slots_append xs ys)
slots_append (Box b ∷ xs) ys = ap (λ (t : List Value). Box b ∷ t) (slots_append xs ys)
slots_append (Fiber ∷ xs) ys = ap (λ (t : List Value). Fiber ∷ t) (slots_append xs ys)

pub slots_of_long : (v : Value) → is_long v ≡ true → slots_of (v ∷ []) ≡ v ∷ Null ∷ []
slots_of_long (Int n) wide = absurd (true≢false (sym wide))
slots_of_long (Long n) wide = refl
slots_of_long Null wide = absurd (true≢false (sym wide))
slots_of_long (Ref n) wide = absurd (true≢false (sym wide))
slots_of_long (Text t) wide = absurd (true≢false (sym wide))
slots_of_long (Box b) wide = absurd (true≢false (sym wide))
slots_of_long Fiber wide = absurd (true≢false (sym wide))

pub slots_of_other : (v : Value) → is_long v ≡ false → slots_of (v ∷ []) ≡ v ∷ []
slots_of_other (Int n) narrow = refl
slots_of_other (Long n) narrow = absurd (true≢false narrow)
slots_of_other Null narrow = refl
slots_of_other (Ref n) narrow = refl
slots_of_other (Text t) narrow = refl
slots_of_other (Box b) narrow = refl
slots_of_other Fiber narrow = refl

-- one argument more, in its slots
pub laid_more : (before now next args : List Value) (i : ℕ) (v d : Value) → i < length args → v ≡ get_or args i d → now ≡ before ++ slots_of (take i args) → next ≡ now ++ slots_of (v ∷ []) → next ≡ before ++ slots_of (take (i + 1) args)
laid_more before now next args i v d less is so_far step =
    let more : take i args ++ v ∷ [] ≡ take (i + 1) args = ap (λ (z : Value). take i args ++ z ∷ []) is ∙ sym (take_more args i d less) in
    step
    ∙ ap (λ (zs : List Value). zs ++ slots_of (v ∷ [])) so_far
    ∙ append_assoc before (slots_of (take i args)) (slots_of (v ∷ []))
    ∙ ap (λ (zs : List Value). before ++ zs) (sym (slots_append (take i args) (v ∷ [])))
    ∙ ap (λ (zs : List Value). before ++ slots_of zs) more
