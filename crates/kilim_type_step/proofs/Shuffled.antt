-- Pop, dup and swap forms.
use Rattle.std.proofs.Common.{◌≡◌, ℕ, ◌+◌, ◌-◌, ◌<◌, ◌≤◌, true, false, not, refl, ap, sym, ◌∙◌, inl, inr, arith, List, [], ◌∷◌, ◌++◌, length, take, drop, reverse, slice_get, get_or, Option, Result, Ok, Err}
use Rattle.std.specs.Prelude.{nat_le}
use Rattle.std.proofs.lemmas.Bool.{cases_lt, lt-leb, le-leb}
use Rattle.std.proofs.lemmas.List.{drop_more, drop_all, append_assoc, append-nil, reverse-append, reverse-reverse}
use Rattle.kilim_program.specs.declared.verified.VType.{VType}
use Rattle.kilim_program.specs.declared.verified.VType.TheVariants.{Top, Int, Long, Null, UninitThis, Uninit, Object}
use Rattle.kilim_type_spec.specs.Step.{Types, words, off, then_off, shuffled, with_stack, Drops, Copies, Swaps}
use Rattle.kilim_type_step.proofs.Types.{words_reverse}
use Rattle.kilim_type_step.specs.Answers.{answers}
use Rattle.kilim_type_step.specs.Forms.{SplitFails, count_off, number}
use Rattle.kilim_type_step.specs.declared.fault.StepFault.{StepFault}
use Rattle.kilim_type_step.specs.declared.fault.StepFault.TheVariants.{Rule, Memory}
use Rattle.kilim_type_step.specs.declared.shuffles.Words.{Words}
use Rattle.kilim_type_step.specs.declared.shuffles.Words.TheVariants as number_of

-- ---- numbers of words

-- at least so many: not at most one less
least_within : (n w : ℕ) → 0 < n → not (nat_le w (n - 1)) ≡ nat_le n w
least_within n w h = elim (cases_lt w n) [ inl lt ↦ ap not (le-leb w (n - 1) (omega arith)) ∙ sym (lt-leb n w lt) | inr le ↦ ap not (lt-leb w (n - 1) (omega arith)) ∙ sym (le-leb n w le) ]

pub is_within : (n : ℕ) (s : List VType) → 0 < n → not (nat_le (words s) (n - 1)) ≡ nat_le n (words (reverse s))
is_within n s h = least_within n (words s) h ∙ ap (nat_le n) (sym (words_reverse s))

pub none_needed : (n w : ℕ) → n ≡ 0 → nat_le n w ≡ true
none_needed n w e = le-leb n w (omega arith)

within_after : (w more most : ℕ) → more ≤ most → nat_le w (most - more) ≡ nat_le (w + more) most
within_after w more most h = elim (cases_lt (most - more) w) [ inl lt ↦ lt-leb w (most - more) lt ∙ sym (lt-leb (w + more) most (omega arith)) | inr le ↦ le-leb w (most - more) le ∙ sym (le-leb (w + more) most (omega arith)) ]

pub room_after : (s : List VType) (more most : ℕ) → more ≤ most → nat_le (words s) (most - more) ≡ nat_le (words (reverse s) + more) most
room_after s more most h = within_after (words s) more most h ∙ ap (λ w. nat_le (w + more) most) (sym (words_reverse s))

pub too_many : (w more most : ℕ) → most < more → nat_le (w + more) most ≡ false
too_many w more most h = lt-leb (w + more) most (omega arith)

-- ---- splitting off

abbrev pub parts : Result ℕ ℕ → List VType → Result (List VType × List VType) ℕ
parts (Ok k) s = Ok (take k s, drop k s)
parts (Err r) s = Err r

one_off : (s : List VType) → off 1 s ≡ parts (count_off 1 (slice_get s 0) (slice_get s 1)) s
one_off [] = refl
one_off (Long ∷ s) = refl
one_off (Top ∷ s) = refl
one_off (Int ∷ s) = refl
one_off (Null ∷ s) = refl
one_off (UninitThis ∷ s) = refl
one_off (Uninit at ∷ s) = refl
one_off (Object ty ∷ s) = refl

two_off : (s : List VType) → off 2 s ≡ parts (count_off 2 (slice_get s 0) (slice_get s 1)) s
two_off [] = refl
two_off (Long ∷ s) = refl
two_off (Top ∷ []) = refl
two_off (Int ∷ []) = refl
two_off (Null ∷ []) = refl
two_off (UninitThis ∷ []) = refl
two_off (Uninit at ∷ []) = refl
two_off (Object ty ∷ []) = refl
two_off (Top ∷ Long ∷ s) = refl
two_off (Top ∷ Top ∷ s) = refl
two_off (Top ∷ Int ∷ s) = refl
two_off (Top ∷ Null ∷ s) = refl
two_off (Top ∷ UninitThis ∷ s) = refl
two_off (Top ∷ Uninit b ∷ s) = refl
two_off (Top ∷ Object b ∷ s) = refl
two_off (Int ∷ Long ∷ s) = refl
two_off (Int ∷ Top ∷ s) = refl
two_off (Int ∷ Int ∷ s) = refl
two_off (Int ∷ Null ∷ s) = refl
two_off (Int ∷ UninitThis ∷ s) = refl
two_off (Int ∷ Uninit b ∷ s) = refl
two_off (Int ∷ Object b ∷ s) = refl
two_off (Null ∷ Long ∷ s) = refl
two_off (Null ∷ Top ∷ s) = refl
two_off (Null ∷ Int ∷ s) = refl
two_off (Null ∷ Null ∷ s) = refl
two_off (Null ∷ UninitThis ∷ s) = refl
two_off (Null ∷ Uninit b ∷ s) = refl
two_off (Null ∷ Object b ∷ s) = refl
two_off (UninitThis ∷ Long ∷ s) = refl
two_off (UninitThis ∷ Top ∷ s) = refl
two_off (UninitThis ∷ Int ∷ s) = refl
two_off (UninitThis ∷ Null ∷ s) = refl
two_off (UninitThis ∷ UninitThis ∷ s) = refl
two_off (UninitThis ∷ Uninit b ∷ s) = refl
two_off (UninitThis ∷ Object b ∷ s) = refl
two_off (Uninit a ∷ Long ∷ s) = refl
two_off (Uninit a ∷ Top ∷ s) = refl
two_off (Uninit a ∷ Int ∷ s) = refl
two_off (Uninit a ∷ Null ∷ s) = refl
two_off (Uninit a ∷ UninitThis ∷ s) = refl
two_off (Uninit a ∷ Uninit b ∷ s) = refl
two_off (Uninit a ∷ Object b ∷ s) = refl
two_off (Object a ∷ Long ∷ s) = refl
two_off (Object a ∷ Top ∷ s) = refl
two_off (Object a ∷ Int ∷ s) = refl
two_off (Object a ∷ Null ∷ s) = refl
two_off (Object a ∷ UninitThis ∷ s) = refl
two_off (Object a ∷ Uninit b ∷ s) = refl
two_off (Object a ∷ Object b ∷ s) = refl

off_shown : (w : Words) (s : List VType) → off (number w) s ≡ parts (count_off (number w) (slice_get s 0) (slice_get s 1)) s
off_shown number_of.Zero s = refl
off_shown number_of.One s = one_off s
off_shown number_of.Two s = two_off s

pub off_ok : (w : Words) (s : List VType) (a b : Option VType) (k : ℕ) → a ≡ slice_get s 0 → b ≡ slice_get s 1 → count_off (number w) a b ≡ Ok k → off (number w) s ≡ Ok (take k s, drop k s)
off_ok w s a b k e f g = off_shown w s ∙ ap (λ (o : Option VType). parts (count_off (number w) o (slice_get s 1)) s) (sym e) ∙ ap (λ (o : Option VType). parts (count_off (number w) a o) s) (sym f) ∙ ap (λ r. parts r s) g

pub off_err : (w : Words) (s : List VType) (a b : Option VType) (r : ℕ) → a ≡ slice_get s 0 → b ≡ slice_get s 1 → count_off (number w) a b ≡ Err r → off (number w) s ≡ Err r
off_err w s a b r e f g = off_shown w s ∙ ap (λ (o : Option VType). parts (count_off (number w) o (slice_get s 1)) s) (sym e) ∙ ap (λ (o : Option VType). parts (count_off (number w) a o) s) (sym f) ∙ ap (λ q. parts q s) g

-- so many words are split off
abbrev pub in_two : List VType → List VType → Result (List VType × List VType) ℕ
in_two above below = Ok (above, below)

pub split_ok : (w : Words) (f g : Types) (a b : Option VType) (k : ℕ) (xs : List VType) → a ≡ slice_get f.stack 0 → b ≡ slice_get f.stack 1 → count_off (number w) a b ≡ Ok k → xs ≡ take k f.stack → g ≡ record f { stack = drop k f.stack } →
    off (number w) f.stack ≡ Ok (xs, g.stack)
split_ok w f g a b k xs e h counted is after = off_ok w f.stack a b k e h counted ∙ (ap (λ (ys : List VType). in_two ys (drop k f.stack)) (sym is) ∙ ap (λ (t : Types). in_two xs t.stack) (sym after))

pub rest_kept : (f g : Types) (s : List VType) → g ≡ record f { stack = s } → g ≡ record f { stack = g.stack }
rest_kept f g s e = e ∙ ap (λ (t : Types). record f { stack = t.stack }) (sym e)

-- ---- forms

pub drops_ok : (n : ℕ) (s a rest : List VType) → off n s ≡ Ok (a, rest) → shuffled (Drops n) s ≡ Ok rest
drops_ok n s a rest e = ap (λ r. then_off r (λ x y. Ok y)) e

pub drops_err : (n r : ℕ) (s : List VType) → off n s ≡ Err r → shuffled (Drops n) s ≡ Err r
drops_err n r s e = ap (λ q. then_off q (λ x y. Ok y)) e

pub copies_ok : (n k : ℕ) (s a below b rest : List VType) → off n s ≡ Ok (a, below) → off k below ≡ Ok (b, rest) → shuffled (Copies n k) s ≡ Ok (a ++ (b ++ (a ++ rest)))
copies_ok n k s a below b rest e f = ap (λ r. then_off r (λ x y. then_off (off k y) (λ z w. Ok (x ++ (z ++ (x ++ w)))))) e ∙ ap (λ r. then_off r (λ z w. Ok (a ++ (z ++ (a ++ w))))) f

pub copies_first : (n k r : ℕ) (s : List VType) → off n s ≡ Err r → shuffled (Copies n k) s ≡ Err r
copies_first n k r s e = ap (λ q. then_off q (λ x y. then_off (off k y) (λ z w. Ok (x ++ (z ++ (x ++ w)))))) e

pub copies_second : (n k r : ℕ) (s a below : List VType) → off n s ≡ Ok (a, below) → off k below ≡ Err r → shuffled (Copies n k) s ≡ Err r
copies_second n k r s a below e f = ap (λ q. then_off q (λ x y. then_off (off k y) (λ z w. Ok (x ++ (z ++ (x ++ w)))))) e ∙ ap (λ q. then_off q (λ z w. Ok (a ++ (z ++ (a ++ w))))) f

pub swaps_ok : (s a below b rest : List VType) → off 1 s ≡ Ok (a, below) → off 1 below ≡ Ok (b, rest) → shuffled Swaps s ≡ Ok (b ++ (a ++ rest))
swaps_ok s a below b rest e f = ap (λ r. then_off r (λ x y. then_off (off 1 y) (λ z w. Ok (z ++ (x ++ w))))) e ∙ ap (λ r. then_off r (λ z w. Ok (z ++ (a ++ w)))) f

pub swaps_first : (r : ℕ) (s : List VType) → off 1 s ≡ Err r → shuffled Swaps s ≡ Err r
swaps_first r s e = ap (λ q. then_off q (λ x y. then_off (off 1 y) (λ z w. Ok (z ++ (x ++ w))))) e

pub swaps_second : (r : ℕ) (s a below : List VType) → off 1 s ≡ Ok (a, below) → off 1 below ≡ Err r → shuffled Swaps s ≡ Err r
swaps_second r s a below e f = ap (λ q. then_off q (λ x y. then_off (off 1 y) (λ z w. Ok (z ++ (x ++ w))))) e ∙ ap (λ q. then_off q (λ z w. Ok (z ++ (a ++ w)))) f

-- ---- faults of splitting off

pub drops_fault : (f g : Types) (n : ℕ) (fault : StepFault) → SplitFails n f.stack fault → answers (with_stack f (shuffled (Drops n) f.stack)) (Err fault) g
drops_fault f g n (Rule r) h = ap (with_stack f) (drops_err n r f.stack h)
drops_fault f g n Memory h = tt

pub copies_fault : (f g : Types) (n k : ℕ) (fault : StepFault) → SplitFails n f.stack fault → answers (with_stack f (shuffled (Copies n k) f.stack)) (Err fault) g
copies_fault f g n k (Rule r) h = ap (with_stack f) (copies_first n k r f.stack h)
copies_fault f g n k Memory h = tt

pub copies_later : (f g : Types) (n k : ℕ) (fault : StepFault) (a below : List VType) → off n f.stack ≡ Ok (a, below) → SplitFails k below fault → answers (with_stack f (shuffled (Copies n k) f.stack)) (Err fault) g
copies_later f g n k (Rule r) a below e h = ap (with_stack f) (copies_second n k r f.stack a below e h)
copies_later f g n k Memory a below e h = tt

pub swaps_fault : (f g : Types) (fault : StepFault) → SplitFails 1 f.stack fault → answers (with_stack f (shuffled Swaps f.stack)) (Err fault) g
swaps_fault f g (Rule r) h = ap (with_stack f) (swaps_first r f.stack h)
swaps_fault f g Memory h = tt

pub swaps_later : (f g : Types) (fault : StepFault) (a below : List VType) → off 1 f.stack ≡ Ok (a, below) → SplitFails 1 below fault → answers (with_stack f (shuffled Swaps f.stack)) (Err fault) g
swaps_later f g (Rule r) a below e h = ap (with_stack f) (swaps_second r f.stack a below e h)
swaps_later f g Memory a below e h = tt

-- ---- types pushed one by one, the last first

pub reversed_on : (old now xs : List VType) (left : ℕ) → 0 < left → left ≤ length xs → now ≡ old ++ reverse (drop left xs) → now ++ get_or xs (left - 1) Top ∷ [] ≡ old ++ reverse (drop (left - 1) xs)
reversed_on old now xs left h k is =
    let more : drop (left - 1) xs ≡ get_or xs (left - 1) Top ∷ drop left xs = drop_more xs (left - 1) Top (omega arith) ∙ ap (λ n. get_or xs (left - 1) Top ∷ drop n xs) (let n : left - 1 + 1 ≡ left = omega arith in n) in
    ap (λ zs. zs ++ get_or xs (left - 1) Top ∷ []) is ∙ append_assoc old (reverse (drop left xs)) (get_or xs (left - 1) Top ∷ [])
    ∙ ap (λ zs. old ++ zs) (sym (ap reverse more ∙ reverse-append (get_or xs (left - 1) Top ∷ []) (drop left xs)))

pub reversed_all : (old xs : List VType) (left : ℕ) → left ≡ length xs → old ≡ old ++ reverse (drop left xs)
reversed_all old xs left e = sym (ap (λ zs. old ++ reverse zs) (drop_all left xs (omega arith)) ∙ append-nil old)

pub reversed_none : (old xs : List VType) (left : ℕ) → left ≤ 0 → old ++ reverse (drop left xs) ≡ old ++ reverse xs
reversed_none old xs left h = ap (λ n. old ++ reverse (drop n xs)) (let n : left ≡ 0 = omega arith in n)

pub pushed_reversed : (old xs : List VType) → reverse (old ++ reverse xs) ≡ xs ++ reverse old
pushed_reversed old xs = reverse-append old (reverse xs) ∙ ap (λ zs. zs ++ reverse old) (reverse-reverse xs)
