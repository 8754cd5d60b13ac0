-- The forms that copy words: what they come to, by the width of the words that they meet, and that an outcome shows it.
use Rattle.std.proofs.Common.{◌≡◌, ◌∙◌, sym, ap, refl, subst, arith, ℕ, ◌+◌, ◌<◌, ◌≤◌, Bool, true, false, true≢false, not, List, [], ◌∷◌, ◌++◌, Some, None, length, take, drop, slice_get, Option}
use Rattle.std.proofs.lemmas.List.{length-append, length-drop, length-take}
use Rattle.kilim_program.specs.declared.class.Method.{Method}
use Rattle.kilim_program.specs.declared.instr.Instr.{Instr}
use Rattle.kilim_program.specs.declared.instr.Instr.TheVariants.{Dup, DupX1, DupX2, Dup2, Dup2X1, Dup2X2}
use Rattle.kilim_program.specs.declared.value.Value.{Value}
use Rattle.kilim_program.specs.Program.{Program}
use Rattle.kilim_run_state.specs.Machine.{Objects}
use Rattle.kilim_run_machine.specs.Effect.{Effect, Goes, Stuck, is_wide, when, wide_or}
use Rattle.kilim_run_machine.specs.Does.{does}
use Rattle.kilim_run_state.specs.declared.frames.frame.Frame.{Frame}
use Rattle.kilim_run_rows.specs.declared.outcome.Moved.{Moved}
use Rattle.kilim_run_rows.specs.declared.outcome.Moved.TheVariants.{Next, Jump, Made, Opened, Called, Asked, Returned, ReturnedValue, Raised, Thrown, Ended, NoMemory}
use Rattle.kilim_run_rows.specs.Laid.{IsLaid, copied}
use Rattle.kilim_run_rows.specs.Outcome.{height, is_stuck, Shows}

-- an outcome that lays these words shows the effect that they come to
pub laid_shows : (own : Method) (e : Effect) (next : ℕ) (result : Moved) (old before after : Frame) (values : List Value) (h : Objects) → IsLaid result before after values → e ≡ Goes next before.locals values h →
    Shows own e next result old after h h
laid_shows own e next Next old before after values h laid is = is ∙ ap (λ (f : Frame). Goes next f.locals f.stack.values h) (sym laid)
laid_shows own e next (Jump to) old before after values h laid is = absurd laid
laid_shows own e next (Made at) old before after values h laid is = absurd laid
laid_shows own e next Opened old before after values h laid is = absurd laid
laid_shows own e next (Called m n) old before after values h laid is = absurd laid
laid_shows own e next (Asked m n) old before after values h laid is = absurd laid
laid_shows own e next Returned old before after values h laid is = absurd laid
laid_shows own e next ReturnedValue old before after values h laid is = absurd laid
laid_shows own e next (Raised cause) old before after values h laid is = absurd laid
laid_shows own e next (Thrown at class cause) old before after values h laid is = absurd laid
laid_shows own e next (Ended cause) old before after values h laid is = absurd laid
laid_shows own e next NoMemory old before after values h laid is = tt

-- no long on top, and one word behind it
narrow : (x y : Bool) (e g : Effect) → x ≡ false → is_stuck (wide_or x e (when (not y) g)) ≡ false → (wide_or x e (when (not y) g) ≡ g) × (is_stuck g ≡ false)
narrow true y e g wide fine = absurd (true≢false wide)
narrow false true e g wide fine = absurd (true≢false fine)
narrow false false e g wide fine = (refl, fine)

-- a long on top
long : (x : Bool) (e g : Effect) → x ≡ true → is_stuck (wide_or x e g) ≡ false → (wide_or x e g ≡ e) × (is_stuck e ≡ false)
long true e g wide fine = (refl, fine)
long false e g wide fine = absurd (true≢false (sym wide))

-- one word
one : (y : Bool) (g : Effect) → is_stuck (when (not y) g) ≡ false → (when (not y) g ≡ g) × (is_stuck g ≡ false)
one true g fine = absurd (true≢false fine)
one false g fine = (refl, fine)

-- An instruction copies so many words below so many: there are enough of them, and that is its effect.
pub record Copies (p : Program) (own : Method) (i : Instr) (next : ℕ) (ls s : List Value) (h : Objects) (count depth : ℕ) : Type 0 where
  pub there : depth ≤ length s
  pub longer : length (copied count depth s) ≡ length s + count
  pub is : does p own i next ls s h ≡ Goes next ls (copied count depth s) h

-- there is room for the copies where there is room for what the instruction leaves
pub has_room : (p : Program) (own : Method) (i : Instr) (next : ℕ) (ls s : List Value) (h : Objects) (count depth room : ℕ) → Copies p own i next ls s h count depth → height (does p own i next ls s h) ≤ room → length s + count ≤ room
has_room p own i next ls s h count depth room copies fits = let tall : height (does p own i next ls s h) ≡ length (copied count depth s) = ap height copies.is in omega (arith, tall, copies.longer, fits)

-- what a form shows that copies so many words below so many
pub copies_show : (p : Program) (own : Method) (i : Instr) (next : ℕ) (result : Moved) (before after : Frame) (h : Objects) (count depth : ℕ) → Copies p own i next before.locals before.stack.values h count depth → IsLaid result before after (copied count depth before.stack.values) →
    Shows own (does p own i next before.locals before.stack.values h) next result before after h h
copies_show p own i next result before after h count depth copies laid = laid_shows own (does p own i next before.locals before.stack.values h) next result before before after (copied count depth before.stack.values) h laid copies.is

same_value : (x v : Value) → ◌≡◌ {A = Option Value} (Some x) (Some v) → v ≡ x
same_value x v e = cc

-- what is said of a value at a place of the stack, said of the value that stands there
there_is : (x v : Value) (w : Bool) → ◌≡◌ {A = Option Value} (Some x) (Some v) → is_wide v ≡ w → is_wide x ≡ w
there_is x v w at is = subst (λ (u : Value). is_wide u ≡ w) (same_value x v at) is

-- one word alone is stuck
lone : (x : Bool) (e : Effect) → x ≡ false → is_stuck (wide_or x e Stuck) ≡ false → ⊥
lone true e wide fine = true≢false wide
lone false e wide fine = true≢false fine

nothing_there : (x : Value) → ◌≡◌ {A = Option Value} None (Some x) → ⊥
nothing_there x e = cc

-- so many copies more
longer_by : (count depth : ℕ) (s : List Value) → (count ≤ depth) × (depth ≤ length s) → length (copied count depth s) ≡ length s + count
longer_by count depth s fits = omega (arith, length-append (take depth s) (take count s ++ drop depth s), length-append (take count s) (drop depth s), length-take depth s, length-take count s, length-drop depth s, fits.0, fits.1)

pub word_copies : (p : Program) (own : Method) (next : ℕ) (ls s : List Value) (h : Objects) → is_stuck (does p own Dup next ls s h) ≡ false → Copies p own Dup next ls s h 1 1
unfolding does
word_copies p own next ls [] h fine = absurd (true≢false fine)
word_copies p own next ls (a ∷ rest) h fine = record { there = omega arith; longer = longer_by 1 1 (a ∷ rest) (omega arith, omega arith); is = (one (is_wide a) _ fine).0 }

pub below_one_copies : (p : Program) (own : Method) (next : ℕ) (ls s : List Value) (h : Objects) → is_stuck (does p own DupX1 next ls s h) ≡ false → Copies p own DupX1 next ls s h 1 2
unfolding does
below_one_copies p own next ls [] h fine = absurd (true≢false fine)
below_one_copies p own next ls (a ∷ []) h fine = absurd (true≢false (one (is_wide a) _ fine).1)
below_one_copies p own next ls (a ∷ b ∷ rest) h fine = let first = one (is_wide a) _ fine in record { there = omega arith; longer = longer_by 1 2 (a ∷ b ∷ rest) (omega arith, omega arith); is = first.0 ∙ (one (is_wide b) _ first.1).0 }

pub below_long_copies : (p : Program) (own : Method) (next : ℕ) (ls s : List Value) (h : Objects) (x : Value) → slice_get s 1 ≡ Some x → is_wide x ≡ true → is_stuck (does p own DupX2 next ls s h) ≡ false → Copies p own DupX2 next ls s h 1 2
unfolding does
below_long_copies p own next ls [] h x at_x is_x fine = absurd (nothing_there x at_x)
below_long_copies p own next ls (a ∷ []) h x at_x is_x fine = absurd (nothing_there x at_x)
below_long_copies p own next ls (a ∷ b ∷ rest) h x at_x is_x fine = let first = one (is_wide a) _ fine in record { there = omega arith; longer = longer_by 1 2 (a ∷ b ∷ rest) (omega arith, omega arith); is = first.0 ∙ (long (is_wide b) _ _ (there_is b x true at_x is_x) first.1).0 }

pub below_pair_copies : (p : Program) (own : Method) (next : ℕ) (ls s : List Value) (h : Objects) (x : Value) → slice_get s 1 ≡ Some x → is_wide x ≡ false → is_stuck (does p own DupX2 next ls s h) ≡ false → Copies p own DupX2 next ls s h 1 3
unfolding does
below_pair_copies p own next ls [] h x at_x is_x fine = absurd (nothing_there x at_x)
below_pair_copies p own next ls (a ∷ []) h x at_x is_x fine = absurd (nothing_there x at_x)
below_pair_copies p own next ls (a ∷ b ∷ []) h x at_x is_x fine = let first = one (is_wide a) _ fine in absurd (lone (is_wide b) _ (there_is b x false at_x is_x) first.1)
below_pair_copies p own next ls (a ∷ b ∷ c ∷ rest) h x at_x is_x fine = let first = one (is_wide a) _ fine in record { there = omega arith; longer = longer_by 1 3 (a ∷ b ∷ c ∷ rest) (omega arith, omega arith); is = first.0 ∙ (narrow (is_wide b) (is_wide c) _ _ (there_is b x false at_x is_x) first.1).0 }

pub long_copies : (p : Program) (own : Method) (next : ℕ) (ls s : List Value) (h : Objects) (x : Value) → slice_get s 0 ≡ Some x → is_wide x ≡ true → is_stuck (does p own Dup2 next ls s h) ≡ false → Copies p own Dup2 next ls s h 1 1
unfolding does
long_copies p own next ls [] h x at_x is_x fine = absurd (nothing_there x at_x)
long_copies p own next ls (a ∷ rest) h x at_x is_x fine = record { there = omega arith; longer = longer_by 1 1 (a ∷ rest) (omega arith, omega arith); is = (long (is_wide a) _ _ (there_is a x true at_x is_x) fine).0 }

pub pair_copies : (p : Program) (own : Method) (next : ℕ) (ls s : List Value) (h : Objects) (x : Value) → slice_get s 0 ≡ Some x → is_wide x ≡ false → is_stuck (does p own Dup2 next ls s h) ≡ false → Copies p own Dup2 next ls s h 2 2
unfolding does
pair_copies p own next ls [] h x at_x is_x fine = absurd (nothing_there x at_x)
pair_copies p own next ls (a ∷ []) h x at_x is_x fine = absurd (lone (is_wide a) _ (there_is a x false at_x is_x) fine)
pair_copies p own next ls (a ∷ b ∷ rest) h x at_x is_x fine = record { there = omega arith; longer = longer_by 2 2 (a ∷ b ∷ rest) (omega arith, omega arith); is = (narrow (is_wide a) (is_wide b) _ _ (there_is a x false at_x is_x) fine).0 }

pub long_below_one_copies : (p : Program) (own : Method) (next : ℕ) (ls s : List Value) (h : Objects) (x : Value) → slice_get s 0 ≡ Some x → is_wide x ≡ true → is_stuck (does p own Dup2X1 next ls s h) ≡ false → Copies p own Dup2X1 next ls s h 1 2
unfolding does
long_below_one_copies p own next ls [] h x at_x is_x fine = absurd (nothing_there x at_x)
long_below_one_copies p own next ls (a ∷ []) h x at_x is_x fine = absurd (true≢false (long (is_wide a) _ _ (there_is a x true at_x is_x) fine).1)
long_below_one_copies p own next ls (a ∷ b ∷ rest) h x at_x is_x fine = let first = long (is_wide a) _ _ (there_is a x true at_x is_x) fine in record { there = omega arith; longer = longer_by 1 2 (a ∷ b ∷ rest) (omega arith, omega arith); is = first.0 ∙ (one (is_wide b) _ first.1).0 }

pub pair_below_one_copies : (p : Program) (own : Method) (next : ℕ) (ls s : List Value) (h : Objects) (x : Value) → slice_get s 0 ≡ Some x → is_wide x ≡ false → is_stuck (does p own Dup2X1 next ls s h) ≡ false → Copies p own Dup2X1 next ls s h 2 3
unfolding does
pair_below_one_copies p own next ls [] h x at_x is_x fine = absurd (nothing_there x at_x)
pair_below_one_copies p own next ls (a ∷ []) h x at_x is_x fine = absurd (lone (is_wide a) _ (there_is a x false at_x is_x) fine)
pair_below_one_copies p own next ls (a ∷ b ∷ []) h x at_x is_x fine = absurd (true≢false (narrow (is_wide a) (is_wide b) _ _ (there_is a x false at_x is_x) fine).1)
pair_below_one_copies p own next ls (a ∷ b ∷ c ∷ rest) h x at_x is_x fine = let first = narrow (is_wide a) (is_wide b) _ _ (there_is a x false at_x is_x) fine in record { there = omega arith; longer = longer_by 2 3 (a ∷ b ∷ c ∷ rest) (omega arith, omega arith); is = first.0 ∙ (one (is_wide c) _ first.1).0 }

pub long_below_long_copies : (p : Program) (own : Method) (next : ℕ) (ls s : List Value) (h : Objects) (x y : Value) → slice_get s 0 ≡ Some x → is_wide x ≡ true → slice_get s 1 ≡ Some y → is_wide y ≡ true → is_stuck (does p own Dup2X2 next ls s h) ≡ false → Copies p own Dup2X2 next ls s h 1 2
unfolding does
long_below_long_copies p own next ls [] h x y at_x is_x at_y is_y fine = absurd (nothing_there y at_y)
long_below_long_copies p own next ls (a ∷ []) h x y at_x is_x at_y is_y fine = absurd (nothing_there y at_y)
long_below_long_copies p own next ls (a ∷ b ∷ rest) h x y at_x is_x at_y is_y fine = let first = long (is_wide a) _ _ (there_is a x true at_x is_x) fine in record { there = omega arith; longer = longer_by 1 2 (a ∷ b ∷ rest) (omega arith, omega arith); is = first.0 ∙ (long (is_wide b) _ _ (there_is b y true at_y is_y) first.1).0 }

pub long_below_pair_copies : (p : Program) (own : Method) (next : ℕ) (ls s : List Value) (h : Objects) (x y : Value) → slice_get s 0 ≡ Some x → is_wide x ≡ true → slice_get s 1 ≡ Some y → is_wide y ≡ false → is_stuck (does p own Dup2X2 next ls s h) ≡ false → Copies p own Dup2X2 next ls s h 1 3
unfolding does
long_below_pair_copies p own next ls [] h x y at_x is_x at_y is_y fine = absurd (nothing_there y at_y)
long_below_pair_copies p own next ls (a ∷ []) h x y at_x is_x at_y is_y fine = absurd (nothing_there y at_y)
long_below_pair_copies p own next ls (a ∷ b ∷ []) h x y at_x is_x at_y is_y fine = let first = long (is_wide a) _ _ (there_is a x true at_x is_x) fine in absurd (lone (is_wide b) _ (there_is b y false at_y is_y) first.1)
long_below_pair_copies p own next ls (a ∷ b ∷ c ∷ rest) h x y at_x is_x at_y is_y fine = let first = long (is_wide a) _ _ (there_is a x true at_x is_x) fine in record { there = omega arith; longer = longer_by 1 3 (a ∷ b ∷ c ∷ rest) (omega arith, omega arith); is = first.0 ∙ (narrow (is_wide b) (is_wide c) _ _ (there_is b y false at_y is_y) first.1).0 }

pub pair_below_long_copies : (p : Program) (own : Method) (next : ℕ) (ls s : List Value) (h : Objects) (x y : Value) → slice_get s 0 ≡ Some x → is_wide x ≡ false → slice_get s 2 ≡ Some y → is_wide y ≡ true → is_stuck (does p own Dup2X2 next ls s h) ≡ false → Copies p own Dup2X2 next ls s h 2 3
unfolding does
pair_below_long_copies p own next ls [] h x y at_x is_x at_y is_y fine = absurd (nothing_there y at_y)
pair_below_long_copies p own next ls (a ∷ []) h x y at_x is_x at_y is_y fine = absurd (nothing_there y at_y)
pair_below_long_copies p own next ls (a ∷ b ∷ []) h x y at_x is_x at_y is_y fine = absurd (nothing_there y at_y)
pair_below_long_copies p own next ls (a ∷ b ∷ c ∷ rest) h x y at_x is_x at_y is_y fine = let first = narrow (is_wide a) (is_wide b) _ _ (there_is a x false at_x is_x) fine in record { there = omega arith; longer = longer_by 2 3 (a ∷ b ∷ c ∷ rest) (omega arith, omega arith); is = first.0 ∙ (long (is_wide c) _ _ (there_is c y true at_y is_y) first.1).0 }

pub pair_below_pair_copies : (p : Program) (own : Method) (next : ℕ) (ls s : List Value) (h : Objects) (x y : Value) → slice_get s 0 ≡ Some x → is_wide x ≡ false → slice_get s 2 ≡ Some y → is_wide y ≡ false → is_stuck (does p own Dup2X2 next ls s h) ≡ false → Copies p own Dup2X2 next ls s h 2 4
unfolding does
pair_below_pair_copies p own next ls [] h x y at_x is_x at_y is_y fine = absurd (nothing_there y at_y)
pair_below_pair_copies p own next ls (a ∷ []) h x y at_x is_x at_y is_y fine = absurd (nothing_there y at_y)
pair_below_pair_copies p own next ls (a ∷ b ∷ []) h x y at_x is_x at_y is_y fine = absurd (nothing_there y at_y)
pair_below_pair_copies p own next ls (a ∷ b ∷ c ∷ []) h x y at_x is_x at_y is_y fine = let first = narrow (is_wide a) (is_wide b) _ _ (there_is a x false at_x is_x) fine in absurd (lone (is_wide c) _ (there_is c y false at_y is_y) first.1)
pair_below_pair_copies p own next ls (a ∷ b ∷ c ∷ d ∷ rest) h x y at_x is_x at_y is_y fine = let first = narrow (is_wide a) (is_wide b) _ _ (there_is a x false at_x is_x) fine in record { there = omega arith; longer = longer_by 2 4 (a ∷ b ∷ c ∷ d ∷ rest) (omega arith, omega arith); is = first.0 ∙ (narrow (is_wide c) (is_wide d) _ _ (there_is c y false at_y is_y) first.1).0 }

-- what is looked at is there
pub two_below_pair : (p : Program) (own : Method) (next : ℕ) (ls s : List Value) (h : Objects) → is_stuck (does p own DupX2 next ls s h) ≡ false → 1 < length s
unfolding does
two_below_pair p own next ls [] h fine = absurd (true≢false fine)
two_below_pair p own next ls (a ∷ []) h fine = absurd (true≢false (one (is_wide a) _ fine).1)
two_below_pair p own next ls (a ∷ b ∷ rest) h fine = omega arith

pub two_below_long : (p : Program) (own : Method) (next : ℕ) (ls s : List Value) (h : Objects) (x : Value) → slice_get s 0 ≡ Some x → is_wide x ≡ true → is_stuck (does p own Dup2X2 next ls s h) ≡ false → 1 < length s
unfolding does
two_below_long p own next ls [] h x at_x is_x fine = absurd (nothing_there x at_x)
two_below_long p own next ls (a ∷ []) h x at_x is_x fine = absurd (true≢false (long (is_wide a) _ _ (there_is a x true at_x is_x) fine).1)
two_below_long p own next ls (a ∷ b ∷ rest) h x at_x is_x fine = omega arith

pub three_below_pair : (p : Program) (own : Method) (next : ℕ) (ls s : List Value) (h : Objects) (x : Value) → slice_get s 0 ≡ Some x → is_wide x ≡ false → is_stuck (does p own Dup2X2 next ls s h) ≡ false → 2 < length s
unfolding does
three_below_pair p own next ls [] h x at_x is_x fine = absurd (nothing_there x at_x)
three_below_pair p own next ls (a ∷ []) h x at_x is_x fine = absurd (lone (is_wide a) _ (there_is a x false at_x is_x) fine)
three_below_pair p own next ls (a ∷ b ∷ []) h x at_x is_x fine = absurd (true≢false (narrow (is_wide a) (is_wide b) _ _ (there_is a x false at_x is_x) fine).1)
three_below_pair p own next ls (a ∷ b ∷ c ∷ rest) h x at_x is_x fine = omega arith
