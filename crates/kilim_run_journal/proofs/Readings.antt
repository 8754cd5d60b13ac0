-- What is found at the front of a text.
use Rattle.std.proofs.Common.{◌≡◌, ℕ, suc, ◌<◌, ◌≤◌, Bool, true, false, List, [], ◌∷◌, ◌++◌, length, take, drop, get_or, refl, sym, ap, subst, ◌∙◌, inl, inr, arith}
use Rattle.std.specs.Borrow.{Bor}
use Rattle.std.specs.Prelude.{ℤ, FitsSigned}
use Rattle.std.specs.Int.{w64}
use mir.Val.{to_z, of_z}
use Rattle.std.proofs.lemmas.Int.{to_z-of_z}
use Rattle.std.specs.Prelude.{Option, Some, None, IsSomeAnd, IfSome, MatchOption, ◌==◌}
use Rattle.std.specs.List.{list_all, prefix_len}
use Rattle.std.proofs.lemmas.Bool.{and_parts, not-true, cases_Bool}
use Rattle.std.proofs.lemmas.List.{append_cancel_left}
use Rattle.kilim_run_journal.specs.Fronts.{ends_at, is_in_word, opens}

-- ---- words

pub span_past : (test : ℕ → Bool) (a x : List ℕ) → list_all test a ≡ true → ends_at test x ≡ true → prefix_len test (a ++ x) ≡ length a
span_past test [] [] ha hx = refl
span_past test [] (c ∷ x) ha hx = rw (not-true (test c) hx) refl
span_past test (c ∷ a) x ha hx =
    let both = and_parts (test c) (list_all test a) ha in
    let rest : prefix_len test (a ++ x) ≡ length a = span_past test a x both.1 hx in
    rw both.0 (omega arith)

take_front : (a x : List ℕ) → take (length a) (a ++ x) ≡ a
take_front [] x = refl
take_front (c ∷ a) x = ap (λ xs. c ∷ xs) (take_front a x)

drop_front : (a x : List ℕ) → drop (length a) (a ++ x) ≡ x
drop_front [] x = refl
drop_front (c ∷ a) x = drop_front a x

-- a text that begins with a word is parted at the word's end
pub parted_at : (test : ℕ → Bool) (bytes : List ℕ) (n : ℕ) (front rest a x : List ℕ) → n ≡ prefix_len test bytes → front ≡ take n bytes → rest ≡ drop n bytes → list_all test a ≡ true → ends_at test x ≡ true → bytes ≡ a ++ x → (front ≡ a) × (rest ≡ x)
parted_at test bytes n front rest a x is f r ha hx e =
    let at : n ≡ length a = is ∙ (ap (prefix_len test) e ∙ span_past test a x ha hx) in
    let both : (take n bytes ≡ a) × (drop n bytes ≡ x) = subst (λ m. (take m bytes ≡ a) × (drop m bytes ≡ x)) (sym at) (subst (λ bs. (take (length a) bs ≡ a) × (drop (length a) bs ≡ x)) (sym e) (take_front a x, drop_front a x)) in
    (f ∙ both.0, r ∙ both.1)

-- ---- results

pub not_none : {A : Type 0} (a : A) → ◌≡◌ {A = Option A} None (Some a) → ⊥
not_none a e = cc

pub same_some : {A : Type 0} (a b : A) → ◌≡◌ {A = Option A} (Some a) (Some b) → a ≡ b
same_some a b e = cc

-- what `strip_prefix` finds
pub stripped : (bytes word : List ℕ) (r : Option (Bor (List ℕ))) → MatchOption r ((rest : List ℕ) → bytes ≡ word ++ rest → ⊥) (λ x. bytes ≡ word ++ x.now) → (tail : List ℕ) → bytes ≡ word ++ tail → IsSomeAnd r (λ x. x.now ≡ tail)
stripped bytes word None h tail e = h tail e
stripped bytes word (Some x) h tail e = append_cancel_left word _ _ (sym h ∙ e)

pub stripped_is : (bytes word : List ℕ) (r : Option (Bor (List ℕ))) → MatchOption r ((rest : List ℕ) → bytes ≡ word ++ rest → ⊥) (λ x. bytes ≡ word ++ x.now) → IfSome r (λ x. bytes ≡ word ++ x.now)
stripped_is bytes word None h = tt
stripped_is bytes word (Some x) h = h

-- ---- the first word

past : (test : ℕ → Bool) (c : ℕ) (cs : List ℕ) → test c ≡ true → prefix_len test (c ∷ cs) ≡ suc (prefix_len test cs)
past test c cs h = rw h (omega arith)

opens_past : (c : ℕ) (cs : List ℕ) → is_in_word c ≡ true → opens (c ∷ cs) ≡ opens cs
opens_past c cs h = rw h refl

opens_here : (c : ℕ) (cs : List ℕ) → is_in_word c ≡ false → opens (c ∷ cs) ≡ (c == 40)
opens_here c cs h = rw h refl

span_here : (c : ℕ) (cs : List ℕ) → is_in_word c ≡ false → prefix_len is_in_word (c ∷ cs) ≡ 0
span_here c cs h = rw h refl

pub opens_at : (bs : List ℕ) (n : ℕ) → n ≡ prefix_len is_in_word bs → n < length bs → opens bs ≡ (get_or bs n 0 == 40)
opens_at [] n is lt = absurd (omega arith)
opens_at (c ∷ cs) n is lt =
    elim (cases_Bool (is_in_word c)) [
      | inl h ↦
          let step : n ≡ suc (prefix_len is_in_word cs) = is ∙ past is_in_word c cs h in
          let lt' : prefix_len is_in_word cs < length cs = omega arith in
          opens_past c cs h ∙ (opens_at cs (prefix_len is_in_word cs) refl lt' ∙ ap (λ m. get_or (c ∷ cs) m 0 == 40) (sym step))
      | inr h ↦
          let step : n ≡ 0 = is ∙ span_here c cs h in
          opens_here c cs h ∙ ap (λ m. get_or (c ∷ cs) m 0 == 40) (sym step)
    ]

pub opens_end : (bs : List ℕ) (n : ℕ) → n ≡ prefix_len is_in_word bs → length bs ≤ n → opens bs ≡ false
opens_end [] n is le = refl
opens_end (c ∷ cs) n is le =
    elim (cases_Bool (is_in_word c)) [
      | inl h ↦
          let step : n ≡ suc (prefix_len is_in_word cs) = is ∙ past is_in_word c cs h in
          let le' : length cs ≤ prefix_len is_in_word cs = omega arith in
          opens_past c cs h ∙ opens_end cs (prefix_len is_in_word cs) refl le'
      | inr h ↦
          let step : n ≡ 0 = is ∙ span_here c cs h in
          absurd (omega arith)
    ]

pub same_signed : (y z : ℤ) → y ≡ z → FitsSigned w64 z → to_z w64 (of_z w64 y) ≡ z
same_signed y z e h = ap (λ v. to_z w64 (of_z w64 v)) e ∙ to_z-of_z w64 z h
