-- Declared frames, one by one, and the slots of a frame.
use Rattle.std.proofs.Common.{◌≡◌, ℕ, zero, suc, ◌+◌, ◌-◌, ◌<◌, Bool, true, false, ◌||◌, ◌&&◌, not, cond, refl, ap, sym, ◌∙◌, inl, inr, arith, List, [], ◌∷◌, ◌++◌, length, drop, reverse, slice_get, Some}
use Rattle.std.specs.Prelude.{nat_lt, nat_le}
use Rattle.std.specs.List.{list_all, list_any}
use Rattle.std.proofs.lemmas.Bool.{eq-eqb, ne_eqb, cases_lt, lt-ltb, le-ltb}
use Rattle.std.proofs.lemmas.List.{drop_more, reverse-reverse}
use Rattle.std.proofs.lemmas.Option.{slice_get_within, get_or_from_slice_get}
use Rattle.kilim_program.specs.declared.class.Method.{Method}
use Rattle.kilim_program.specs.declared.instr.Instr.{Instr}
use Rattle.kilim_program.specs.declared.verified.Frame.{Frame}
use Rattle.kilim_program.specs.declared.verified.VType.{VType}
use Rattle.kilim_program.specs.Lengths.{is_code_place}
use Rattle.kilim_program.specs.Same.{is_constructor}
use Rattle.kilim_type_spec.specs.Step.{Types, peek, is_top, is_long, is_unset_this, words}
use Rattle.kilim_type_spec.specs.Typed.{frame_fits, stands_at_new, halves, is_proper, padded, listed}
use Rattle.kilim_type_spec.specs.Faults.{frame_fault}
use Rattle.kilim_type_verify.specs.Frames.{half_at, locals_fit, types_fit}

front_is : {A : Type 0} → (s : List A) (k : ℕ) (t : A) → slice_get s k ≡ Some t → drop k s ≡ t ∷ drop (k + 1) s
front_is s k t e = drop_more s k t (slice_get_within s k t e) ∙ ap (λ x. x ∷ drop (k + 1) s) (get_or_from_slice_get s k t t e)

and_assoc : (a b c : Bool) → (a && (b && c)) ≡ ((a && b) && c)
and_assoc true b c = refl
and_assoc false b c = refl

or_assoc : (a b c : Bool) → (a || (b || c)) ≡ ((a || b) || c)
or_assoc true b c = refl
or_assoc false b c = refl

-- ---- places of code

pub place_here : (code : List (ℕ × Instr)) (k at : ℕ) (e : ℕ × Instr) → slice_get code k ≡ Some e → e.0 ≡ at → is_code_place (drop k code) at ≡ true
place_here code k at e is here = ap (λ es. is_code_place es at) (front_is code k e is) ∙ ap (λ b. b || is_code_place (drop (k + 1) code) at) (eq-eqb e.0 at here)

pub place_on : (code : List (ℕ × Instr)) (k at : ℕ) (e : ℕ × Instr) → slice_get code k ≡ Some e → (e.0 ≡ at → ⊥) → is_code_place (drop (k + 1) code) at ≡ is_code_place (drop k code) at
place_on code k at e is other = sym (ap (λ es. is_code_place es at) (front_is code k e is) ∙ ap (λ b. b || is_code_place (drop (k + 1) code) at) (ne_eqb e.0 at other))

-- ---- rule 12

pub frame_fails : (m : Method) (fs : List (ℕ × Frame)) (k : ℕ) (e : ℕ × Frame) → slice_get fs k ≡ Some e → frame_fits m e ≡ false → Some (e.0, 12) ≡ frame_fault m (drop k fs)
frame_fails m fs k e is f = sym (ap (frame_fault m) (front_is fs k e is) ∙ ap (λ b. cond b (frame_fault m (drop (k + 1) fs)) (Some (e.0, 12))) f)

pub frame_passes : (m : Method) (fs : List (ℕ × Frame)) (k : ℕ) (e : ℕ × Frame) → slice_get fs k ≡ Some e → frame_fits m e ≡ true → frame_fault m (drop (k + 1) fs) ≡ frame_fault m (drop k fs)
frame_passes m fs k e is f = sym (ap (frame_fault m) (front_is fs k e is) ∙ ap (λ b. cond b (frame_fault m (drop (k + 1) fs)) (Some (e.0, 12))) f)

-- a frame fits in parts: of both lists of types together and of each
all_parts : {A : Type 0} → (test : A → Bool) (xs ys : List A) → list_all test (xs ++ ys) ≡ (list_all test xs && list_all test ys)
all_parts test [] ys = refl
all_parts test (x ∷ xs) ys = ap (λ b. test x && b) (all_parts test xs ys) ∙ and_assoc (test x) (list_all test xs) (list_all test ys)

any_parts : {A : Type 0} → (test : A → Bool) (xs ys : List A) → list_any test (xs ++ ys) ≡ (list_any test xs || list_any test ys)
any_parts test [] ys = refl
any_parts test (x ∷ xs) ys = ap (λ b. test x || b) (any_parts test xs ys) ∙ or_assoc (test x) (list_any test xs) (list_any test ys)

-- the tests of a frame in two orders
shuffle_tests : (c l s t n1 n2 h p1 p2 k u1 u2 : Bool) →
    (c && (l && (s && (t && ((n1 && n2) && (h && ((p1 && p2) && (k || not (u1 || u2)))))))))
    ≡ (c && ((l && (s && (t && h))) && ((n1 && (p1 && (k || not u1))) && (n2 && (p2 && (k || not u2))))))
shuffle_tests false l s t n1 n2 h p1 p2 k u1 u2 = refl
shuffle_tests true false s t n1 n2 h p1 p2 k u1 u2 = refl
shuffle_tests true true false t n1 n2 h p1 p2 k u1 u2 = refl
shuffle_tests true true true false n1 n2 h p1 p2 k u1 u2 = refl
shuffle_tests true true true true false n2 true p1 p2 k u1 u2 = refl
shuffle_tests true true true true false n2 false p1 p2 k u1 u2 = refl
shuffle_tests true true true true true false true false p2 k u1 u2 = refl
shuffle_tests true true true true true false true true p2 true u1 u2 = refl
shuffle_tests true true true true true false true true p2 false true u2 = refl
shuffle_tests true true true true true false true true p2 false false u2 = refl
shuffle_tests true true true true true false false p1 p2 k u1 u2 = refl
shuffle_tests true true true true true true false p1 p2 k u1 u2 = refl
shuffle_tests true true true true true true true false p2 k u1 u2 = refl
shuffle_tests true true true true true true true true false true u1 u2 = refl
shuffle_tests true true true true true true true true false false true u2 = refl
shuffle_tests true true true true true true true true false false false u2 = refl
shuffle_tests true true true true true true true true true true u1 u2 = refl
shuffle_tests true true true true true true true true true false true u2 = refl
shuffle_tests true true true true true true true true true false false u2 = refl

pub fits_in_parts : (m : Method) (at : ℕ) (f : Frame) → (is_code_place m.code at && (locals_fit m f && (types_fit m f.locals && types_fit m f.stack))) ≡ frame_fits m (at, f)
fits_in_parts m at f =
    sym (ap (λ b. is_code_place m.code at && (nat_le (length f.locals) m.max_locals && (nat_le (words f.stack) m.max_stack && (not (list_any is_top f.stack)
    && (b && (halves f.locals && (list_all is_proper (f.locals ++ f.stack) && (is_constructor m || not (list_any is_unset_this (f.locals ++ f.stack))))))))))
    (all_parts (stands_at_new m) f.locals f.stack)
    ∙ ap (λ b. is_code_place m.code at && (nat_le (length f.locals) m.max_locals && (nat_le (words f.stack) m.max_stack && (not (list_any is_top f.stack)
    && ((list_all (stands_at_new m) f.locals && list_all (stands_at_new m) f.stack) && (halves f.locals && (b && (is_constructor m || not (list_any is_unset_this (f.locals ++ f.stack))))))))))
    (all_parts is_proper f.locals f.stack)
    ∙ ap (λ b. is_code_place m.code at && (nat_le (length f.locals) m.max_locals && (nat_le (words f.stack) m.max_stack && (not (list_any is_top f.stack)
    && ((list_all (stands_at_new m) f.locals && list_all (stands_at_new m) f.stack) && (halves f.locals && ((list_all is_proper f.locals && list_all is_proper f.stack) && (is_constructor m || not b))))))))
    (any_parts is_unset_this f.locals f.stack)
    ∙ shuffle_tests (is_code_place m.code at) (nat_le (length f.locals) m.max_locals) (nat_le (words f.stack) m.max_stack) (not (list_any is_top f.stack)) (list_all (stands_at_new m) f.locals) (list_all (stands_at_new m) f.stack)
    (halves f.locals) (list_all is_proper f.locals) (list_all is_proper f.stack) (is_constructor m) (list_any is_unset_this f.locals) (list_any is_unset_this f.stack))

-- ---- halves

one_more : (a b : ℕ) → nat_lt a b ≡ nat_lt (suc a) (suc b)
one_more a b = elim (cases_lt a b) [ inl h ↦ lt-ltb a b h ∙ sym (lt-ltb (suc a) (suc b) (omega arith)) | inr h ↦ le-ltb a b h ∙ sym (le-ltb (suc a) (suc b) (omega arith)) ]

half_zero : (t : VType) (ts : List VType) → (not (is_long t) || (nat_lt 0 (length ts) && is_top (peek ts 0))) ≡ half_at (t ∷ ts) 0
half_zero t ts = ap (λ b. not (is_long t) || (b && is_top (peek ts 0))) (one_more 0 (length ts))

half_next : (t : VType) (ts : List VType) (k : ℕ) → half_at ts k ≡ half_at (t ∷ ts) (suc k)
half_next t ts k = ap (λ b. not (is_long (peek ts k)) || (b && is_top (peek ts (k + 1)))) (one_more (k + 1) (length ts)) ∙ ap (λ n. not (is_long (peek ts k)) || (nat_lt n (suc (length ts)) && is_top (peek (t ∷ ts) n))) (let n : suc (k + 1) ≡ suc k + 1 = omega arith in n)

half_here : (ts : List VType) (k : ℕ) → k < length ts → halves (drop k ts) ≡ (half_at ts k && halves (drop (k + 1) ts))
half_here [] k h = absurd (omega arith)
half_here (t ∷ ts) zero h = ap (λ b. b && halves ts) (half_zero t ts)
half_here (t ∷ ts) (suc k) h = half_here ts k (omega arith) ∙ ap (λ b. b && halves (drop (k + 1) ts)) (half_next t ts k) ∙ ap (λ n. half_at (t ∷ ts) (suc k) && halves (drop n (t ∷ ts))) (let n : suc (k + 1) ≡ suc k + 1 = omega arith in n)

pub half_on : (ts : List VType) (k : ℕ) → k < length ts → half_at ts k ≡ true → halves (drop (k + 1) ts) ≡ halves (drop k ts)
half_on ts k h e = sym (half_here ts k h ∙ ap (λ b. b && halves (drop (k + 1) ts)) e)

pub half_fails : (ts : List VType) (k : ℕ) → k < length ts → half_at ts k ≡ false → halves (drop k ts) ≡ false
half_fails ts k h e = half_here ts k h ∙ ap (λ b. b && halves (drop (k + 1) ts)) e

-- ---- frames as they are listed

-- the stack has its bottom first
pub listed_is : (m : Method) (f : Types) (locals stack : List VType) → locals ≡ f.locals → f.stack ≡ reverse stack → listed m f ≡ record { locals = padded m.max_locals locals; stack = stack }
listed_is m f locals stack same turned =
    ap (λ (xs : List VType). record { locals = padded m.max_locals f.locals; stack = xs }) (ap reverse turned ∙ reverse-reverse stack)
    ∙ ap (λ (xs : List VType). record { locals = padded m.max_locals xs; stack = stack }) (sym same)
