-- What the frames of well-typed code are, in a method that is no constructor.
use Rattle.std.proofs.Common.{◌≡◌, ◌≢◌, inl, inr, ℕ, zero, suc, ◌+◌, ◌<◌, ◌≤◌, Bool, true, false, List, [], ◌∷◌, ◌++◌, length, drop, Option, Some, None, Result, Ok, Err, refl, sym, ap, subst, ◌∙◌, arith}
use Rattle.std.specs.Prelude.{◌&&◌, not, nat_lt, ◌-◌}
use Rattle.std.specs.List.{list_all}
use Rattle.std.proofs.lemmas.Bool.{and_parts, and_from, false≢true, leb-true}
use Rattle.kilim_program.specs.declared.class.Method.{Method}
use Rattle.kilim_program.specs.declared.names.ClassId.{ClassId}
use Rattle.kilim_program.specs.declared.ty.Base.{Base}
use Rattle.kilim_program.specs.declared.ty.Base.TheVariants as base
use Rattle.kilim_program.specs.declared.ty.Ty.{Ty}
use Rattle.kilim_program.specs.declared.verified.VType.{VType}
use Rattle.kilim_program.specs.declared.verified.VType.TheVariants.{Top, Int, Long, Null, UninitThis, Uninit, Object}
use Rattle.kilim_program.specs.Program.{Program}
use Rattle.kilim_program.specs.Same.{is_constructor}
use Rattle.kilim_type_spec.specs.Step.{Types, peek, poke, split_long, split_at, with_half, stored, is_top, is_long, is_same, size, words, vtype, class_vtype, vtype_of_class, result_types, replaced, one_replaced, Operand, Further, further, meets, all_meet, has_room, Form, Drops, Copies, Swaps, pushed, shuffled, off, above, then_off, store, element, constructed, Row, Takes, Element, Shuffles, Loads, Stores, Adds, Makes, Constructs, Leaves, by_row}
use Rattle.kilim_weave_laws.specs.woven_types.Facts.{is_reference}
use Rattle.kilim_weave_laws.proofs.woven_types.Moved.{passed}
use Rattle.kilim_weave_laws.proofs.woven_types.Locals.{same_or, peek_poke, peek_other, peek_replaced}
use Rattle.kilim_weave_laws.proofs.woven_types.Forms.{some_size, form_low, given_low, element_low}
use Rattle.kilim_weave_laws.proofs.woven_types.Crux.{ok_same, FirmRow, Firm, element_is, stack_is}

module _ (fresh : ℕ → Bool) where
  -- no mark of a constructor, objects are classes or arrays, and an uninitialized one has its `new`
  abbrev pub sane : VType → Bool
  sane UninitThis = false
  sane (Object ty) = is_reference (Object ty)
  sane (Uninit q) = fresh q
  sane t = true

  abbrev pub sane_item : VType → Bool
  sane_item t = sane t && not (is_top t)

  -- a long has its second half behind it, within the method's locals
  abbrev pub Halves : ℕ → List VType → Type 0
  Halves most ls = (k : ℕ) → is_long (peek ls k) ≡ true → (is_top (peek ls (suc k)) ≡ true) × (suc (suc k) ≤ most)

  abbrev pub All : (VType → Bool) → List VType → Type 0
  All p ls = (k : ℕ) → p (peek ls k) ≡ true

  pub record Sane (m : Method) (f : Types) : Type 0 where
    pub room : words f.stack ≤ m.max_stack
    pub within : length f.locals ≤ m.max_locals
    pub set : f.unset ≡ false
    pub locals : All sane f.locals
    pub stack : list_all sane_item f.stack ≡ true
    pub halves : Halves m.max_locals f.locals

  -- ---- lists

  pub all_append : (p : VType → Bool) (a b : List VType) → list_all p a ≡ true → list_all p b ≡ true → list_all p (a ++ b) ≡ true
  all_append p [] b h k = k
  all_append p (t ∷ a) b h k = let x = and_parts (p t) (list_all p a) h in and_from (p t) (list_all p (a ++ b)) x.0 (all_append p a b x.1 k)

  pub all_drop : (p : VType → Bool) (n : ℕ) (a : List VType) → list_all p a ≡ true → list_all p (drop n a) ≡ true
  all_drop p zero a h = h
  all_drop p (suc n) [] h = refl
  all_drop p (suc n) (t ∷ a) h = all_drop p n a (and_parts (p t) (list_all p a) h).1

  -- ---- stores

  pred_poke : (p : VType → Bool) (ls : List VType) (k : ℕ) (t : VType) → All p ls → p t ≡ true → All p (poke ls k t)
  pred_poke p ls k t h e j = elim (same_or j k) [ inl x ↦ subst (λ i. p (peek (poke ls k t) i) ≡ true) (sym x) (ap p (peek_poke ls k t) ∙ e) | inr ne ↦ ap p (peek_other ls k j t ne) ∙ h j ]

  pred_split_at : (p : VType → Bool) (b : Bool) (ls : List VType) (k : ℕ) → All p ls → p Top ≡ true → All p (split_at b ls k)
  pred_split_at p true ls k h e = pred_poke p ls k Top h e
  pred_split_at p false ls k h e = h

  pred_split : (p : VType → Bool) (ls : List VType) (k : ℕ) → All p ls → p Top ≡ true → All p (split_long ls k)
  pred_split p ls zero h e = h
  pred_split p ls (suc k) h e = pred_split_at p (is_long (peek ls k)) ls k h e

  pred_half : (p : VType → Bool) (t : VType) (ls : List VType) (k : ℕ) → All p ls → p Top ≡ true → All p (with_half t ls k)
  pred_half p Long ls k h e = pred_poke p ls (suc k) Top h e
  pred_half p Top ls k h e = h
  pred_half p Int ls k h e = h
  pred_half p Null ls k h e = h
  pred_half p UninitThis ls k h e = h
  pred_half p (Uninit q) ls k h e = h
  pred_half p (Object ty) ls k h e = h

  pub pred_stored : (p : VType → Bool) (ls : List VType) (k : ℕ) (t : VType) → All p ls → p t ≡ true → p Top ≡ true → All p (stored ls k t)
  pred_stored p ls k t h e top = pred_half p t (poke (split_long ls k) k t) k (pred_poke p (split_long ls k) k t (pred_split p ls k h top) e) top

  long_poke : (ls : List VType) (k n : ℕ) (t : VType) → k < n → length ls ≤ n → length (poke ls k t) ≤ n
  long_poke [] zero n t h l = omega (arith, h)
  long_poke [] (suc k) zero t h l = absurd (omega (arith, h))
  long_poke [] (suc k) (suc n) t h l = let r = long_poke [] k n t (omega (arith, h)) (omega arith) in omega (arith, r)
  long_poke (x ∷ xs) zero n t h l = omega (arith, l)
  long_poke (x ∷ xs) (suc k) zero t h l = absurd (omega (arith, h))
  long_poke (x ∷ xs) (suc k) (suc n) t h l = let r = long_poke xs k n t (omega (arith, h)) (omega (arith, l)) in omega (arith, r)

  long_split_at : (b : Bool) (ls : List VType) (k n : ℕ) → k < n → length ls ≤ n → length (split_at b ls k) ≤ n
  long_split_at true ls k n h l = long_poke ls k n Top h l
  long_split_at false ls k n h l = l

  long_split : (ls : List VType) (k n : ℕ) → k < n → length ls ≤ n → length (split_long ls k) ≤ n
  long_split ls zero n h l = l
  long_split ls (suc k) n h l = long_split_at (is_long (peek ls k)) ls k n (omega (arith, h)) l

  long_half : (t : VType) (ls : List VType) (k n : ℕ) → k + size t ≤ n → length ls ≤ n → length (with_half t ls k) ≤ n
  long_half Long ls k n h l = long_poke ls (suc k) n Top (omega (arith, h)) l
  long_half Top ls k n h l = l
  long_half Int ls k n h l = l
  long_half Null ls k n h l = l
  long_half UninitThis ls k n h l = l
  long_half (Uninit q) ls k n h l = l
  long_half (Object ty) ls k n h l = l

  long_stored : (ls : List VType) (k n : ℕ) (t : VType) → k + size t ≤ n → length ls ≤ n → length (stored ls k t) ≤ n
  long_stored ls k n t h l =
      let s = some_size t in
      long_half t (poke (split_long ls k) k t) k n h (long_poke (split_long ls k) k n t (omega (arith, h, s)) (long_split ls k n (omega (arith, h, s)) l))

  -- ---- halves

  -- Where nothing but a Top was written, longs are as they were.
  halves_top : (most : ℕ) (ls : List VType) (k : ℕ) → Halves most ls → Halves most (poke ls k Top)
  halves_top most ls k h j l = elim (same_or j k) [
    | inl e ↦ absurd (let x = ap is_long (peek_poke ls k Top) in let y = ap (λ i. is_long (peek (poke ls k Top) i)) (sym e) ∙ l in cc)
    | inr ne ↦ (let r = h j (ap is_long (sym (peek_other ls k j Top ne)) ∙ l) in (next r.0, r.1))
  ]
    where
      next : is_top (peek ls (suc j)) ≡ true → is_top (peek (poke ls k Top) (suc j)) ≡ true
      next t = elim (same_or (suc j) k) [ inl e ↦ subst (λ i. is_top (peek (poke ls k Top) i) ≡ true) (sym e) (ap is_top (peek_poke ls k Top)) | inr ne ↦ ap is_top (peek_other ls k (suc j) Top ne) ∙ t ]

  halves_split_at : (most : ℕ) (b : Bool) (ls : List VType) (k : ℕ) → Halves most ls → Halves most (split_at b ls k)
  halves_split_at most true ls k h = halves_top most ls k h
  halves_split_at most false ls k h = h

  halves_split : (most : ℕ) (ls : List VType) (k : ℕ) → Halves most ls → Halves most (split_long ls k)
  halves_split most ls zero h = h
  halves_split most ls (suc k) h = halves_split_at most (is_long (peek ls k)) ls k h

  -- right before the slot no long is left
  split_none : (b : Bool) (ls : List VType) (k : ℕ) → is_long (peek ls k) ≡ b → is_long (peek (split_at b ls k) k) ≡ false
  split_none true ls k e = ap is_long (peek_poke ls k Top)
  split_none false ls k e = e

  no_long_before : (ls : List VType) (k j : ℕ) → suc j ≡ k → is_long (peek (split_long ls k) j) ≡ false
  no_long_before ls zero j e = absurd (omega (arith, e))
  no_long_before ls (suc k) j e = subst (λ i. is_long (peek (split_long ls (suc k)) i) ≡ false) (let x : k ≡ j = omega (arith, e) in x) (split_none (is_long (peek ls k)) ls k refl)

  -- a type that is no long, where none stands right before
  halves_short : (most : ℕ) (ls : List VType) (k : ℕ) (t : VType) → is_long t ≡ false → ((j : ℕ) → suc j ≡ k → is_long (peek ls j) ≡ false) → Halves most ls → Halves most (poke ls k t)
  halves_short most ls k t n none h j l = elim (same_or j k) [
    | inl e ↦ absurd (let x = ap is_long (peek_poke ls k t) ∙ n in let y = ap (λ i. is_long (peek (poke ls k t) i)) (sym e) ∙ l in cc)
    | inr ne ↦ kept ne
  ]
    where
      kept : j ≢ k → (is_top (peek (poke ls k t) (suc j)) ≡ true) × (suc (suc j) ≤ most)
      kept ne =
          let was = ap is_long (sym (peek_other ls k j t ne)) ∙ l in
          let r = h j was in
          elim (same_or (suc j) k) [ inl e ↦ absurd (let z = none j e in cc) | inr nf ↦ (ap is_top (peek_other ls k (suc j) t nf) ∙ r.0, r.1) ]

  halves_long : (most : ℕ) (ls : List VType) (k : ℕ) → suc (suc k) ≤ most → ((j : ℕ) → suc j ≡ k → is_long (peek ls j) ≡ false) → Halves most ls → Halves most (poke (poke ls k Long) (suc k) Top)
  halves_long most ls k w none h j l = elim (same_or j k) [ inl e ↦ at_slot e | inr ne ↦ elim (same_or j (suc k)) [ inl f ↦ absurd (half f) | inr nf ↦ kept ne nf ] ]
    where
      at_slot : j ≡ k → (is_top (peek (poke (poke ls k Long) (suc k) Top) (suc j)) ≡ true) × (suc (suc j) ≤ most)
      at_slot e = (ap (λ i. is_top (peek (poke (poke ls k Long) (suc k) Top) (suc i))) e ∙ ap is_top (peek_poke (poke ls k Long) (suc k) Top), omega (arith, w, e))

      half : j ≡ suc k → ⊥
      half f = let x = ap is_long (peek_poke (poke ls k Long) (suc k) Top) in let y = ap (λ i. is_long (peek (poke (poke ls k Long) (suc k) Top) i)) (sym f) ∙ l in absurd (cc)

      kept : j ≢ k → j ≢ suc k → (is_top (peek (poke (poke ls k Long) (suc k) Top) (suc j)) ≡ true) × (suc (suc j) ≤ most)
      kept ne nf =
          let was = ap is_long (sym (peek_other (poke ls k Long) (suc k) j Top nf ∙ peek_other ls k j Long ne)) ∙ l in
          let r = h j was in
          elim (same_or (suc j) k) [
            | inl e ↦ absurd (let z = none j e in cc)
            | inr ng ↦ (ap is_top (peek_other (poke ls k Long) (suc k) (suc j) Top (λ e. ne (omega (arith, e))) ∙ peek_other ls k (suc j) Long ng) ∙ r.0, r.1)
          ]

  halves_stored : (most : ℕ) (ls : List VType) (k : ℕ) (t : VType) → k + size t ≤ most → Halves most ls → Halves most (stored ls k t)
  halves_stored most ls k Long w h = halves_long most (split_long ls k) k (omega (arith, w)) (no_long_before ls k) (halves_split most ls k h)
  halves_stored most ls k Top w h = halves_short most (split_long ls k) k Top refl (no_long_before ls k) (halves_split most ls k h)
  halves_stored most ls k Int w h = halves_short most (split_long ls k) k Int refl (no_long_before ls k) (halves_split most ls k h)
  halves_stored most ls k Null w h = halves_short most (split_long ls k) k Null refl (no_long_before ls k) (halves_split most ls k h)
  halves_stored most ls k UninitThis w h = halves_short most (split_long ls k) k UninitThis refl (no_long_before ls k) (halves_split most ls k h)
  halves_stored most ls k (Uninit q) w h = halves_short most (split_long ls k) k (Uninit q) refl (no_long_before ls k) (halves_split most ls k h)
  halves_stored most ls k (Object ty) w h = halves_short most (split_long ls k) k (Object ty) refl (no_long_before ls k) (halves_split most ls k h)

  -- ---- an uninitialized type is replaced

  one_pred : (p : VType → Bool) (b : Bool) (t new : VType) → p t ≡ true → p new ≡ true → p (one_replaced b t new) ≡ true
  one_pred p true t new h e = e
  one_pred p false t new h e = h

  pub pred_replaced : (p : VType → Bool) (old new : VType) (ls : List VType) → All p ls → p new ≡ true → All p (replaced old new ls)
  pred_replaced p old new ls h e j = ap p (peek_replaced old new ls j) ∙ one_pred p (is_same old (peek ls j)) (peek ls j) new (h j) e

  pub all_replaced : (p : VType → Bool) (old new : VType) (ls : List VType) → list_all p ls ≡ true → p new ≡ true → list_all p (replaced old new ls) ≡ true
  all_replaced p old new [] h e = refl
  all_replaced p old new (t ∷ ls) h e =
      let x = and_parts (p t) (list_all p ls) h in
      and_from (p (one_replaced (is_same old t) t new)) (list_all p (replaced old new ls)) (one_pred p (is_same old t) t new x.0 e) (all_replaced p old new ls x.1 e)

  long_replaced : (old new : VType) (ls : List VType) → length (replaced old new ls) ≡ length ls
  long_replaced old new [] = refl
  long_replaced old new (t ∷ ls) = let h = long_replaced old new ls in omega (arith, h)

  same_size : (old t new : VType) (b : Bool) → is_same old t ≡ b → size new ≡ 1 → size (one_replaced b t new) ≡ size t
  same_size old t new false e n = refl
  same_size UninitThis UninitThis new true e n = n
  same_size (Uninit a) (Uninit c) new true e n = n
  same_size old t new true e n = absurd (cc)

  words_replaced : (old new : VType) (ls : List VType) → size new ≡ 1 → words (replaced old new ls) ≡ words ls
  words_replaced old new [] n = refl
  words_replaced old new (t ∷ ls) n = let a = same_size old t new (is_same old t) refl n in let b = words_replaced old new ls n in omega (arith, a, b)

  one_long : (old t new : VType) (b : Bool) → is_same old t ≡ b → is_long new ≡ false → is_long (one_replaced b t new) ≡ true → (is_long t ≡ true) × (b ≡ false)
  one_long old t new true e n h = absurd (cc)
  one_long old t new false e n h = (h, refl)

  one_top : (old t new : VType) (b : Bool) → is_same old t ≡ b → is_top t ≡ true → is_top (one_replaced b t new) ≡ true
  one_top old t new false e h = h
  one_top UninitThis Top new true e h = absurd (cc)
  one_top (Uninit a) Top new true e h = absurd (cc)
  one_top old t new true e h = absurd (cc)

  halves_replaced : (most : ℕ) (old new : VType) (ls : List VType) → is_long new ≡ false → Halves most ls → Halves most (replaced old new ls)
  halves_replaced most old new ls n h j l =
      let a = one_long old (peek ls j) new (is_same old (peek ls j)) refl n (ap is_long (sym (peek_replaced old new ls j)) ∙ l) in
      let r = h j a.0 in
      (ap is_top (peek_replaced old new ls (suc j)) ∙ one_top old (peek ls (suc j)) new (is_same old (peek ls (suc j))) refl r.0, r.1)

  -- ---- stack forms

  both_above : (p : VType → Bool) (t : VType) (r : Result (List VType × List VType) ℕ) (parts : List VType × List VType) → above t r ≡ Ok parts → p t ≡ true →
      ((q : List VType × List VType) → r ≡ Ok q → (list_all p q.0 ≡ true) × (list_all p q.1 ≡ true)) → (list_all p parts.0 ≡ true) × (list_all p parts.1 ≡ true)
  both_above p t (Ok q) parts e h k =
      let s = k q refl in
      let same = ok_same (t ∷ q.0, q.1) parts e in
      (ap (λ z. list_all p z.0) (sym same) ∙ and_from (p t) (list_all p q.0) h s.0, ap (λ z. list_all p z.1) (sym same) ∙ s.1)
  both_above p t (Err n) parts e h k = absurd (cc)

  all_off : (p : VType → Bool) (n : ℕ) (s : List VType) (parts : List VType × List VType) → off n s ≡ Ok parts → list_all p s ≡ true → (list_all p parts.0 ≡ true) × (list_all p parts.1 ≡ true)
  all_off p zero s parts e h = let same = ok_same ([], s) parts e in (ap (λ z. list_all p z.0) (sym same), ap (λ z. list_all p z.1) (sym same) ∙ h)
  all_off p (suc zero) [] parts e h = absurd (cc)
  all_off p (suc (suc n)) [] parts e h = absurd (cc)
  all_off p (suc zero) (Long ∷ s) parts e h = absurd (cc)
  all_off p (suc (suc n)) (Long ∷ s) parts e h = let x = and_parts (p Long) (list_all p s) h in both_above p Long (off n s) parts e x.0 (λ q d. all_off p n s q d x.1)
  all_off p (suc zero) (Top ∷ s) parts e h = let x = and_parts (p Top) (list_all p s) h in both_above p Top (Ok ([], s)) parts e x.0 (λ q d. all_off p zero s q d x.1)
  all_off p (suc zero) (Int ∷ s) parts e h = let x = and_parts (p Int) (list_all p s) h in both_above p Int (Ok ([], s)) parts e x.0 (λ q d. all_off p zero s q d x.1)
  all_off p (suc zero) (Null ∷ s) parts e h = let x = and_parts (p Null) (list_all p s) h in both_above p Null (Ok ([], s)) parts e x.0 (λ q d. all_off p zero s q d x.1)
  all_off p (suc zero) (UninitThis ∷ s) parts e h = let x = and_parts (p UninitThis) (list_all p s) h in both_above p UninitThis (Ok ([], s)) parts e x.0 (λ q d. all_off p zero s q d x.1)
  all_off p (suc zero) (Uninit a ∷ s) parts e h = let x = and_parts (p (Uninit a)) (list_all p s) h in both_above p (Uninit a) (Ok ([], s)) parts e x.0 (λ q d. all_off p zero s q d x.1)
  all_off p (suc zero) (Object ty ∷ s) parts e h = let x = and_parts (p (Object ty)) (list_all p s) h in both_above p (Object ty) (Ok ([], s)) parts e x.0 (λ q d. all_off p zero s q d x.1)
  all_off p (suc (suc n)) (Top ∷ s) parts e h = let x = and_parts (p Top) (list_all p s) h in both_above p Top (off (suc n) s) parts e x.0 (λ q d. all_off p (suc n) s q d x.1)
  all_off p (suc (suc n)) (Int ∷ s) parts e h = let x = and_parts (p Int) (list_all p s) h in both_above p Int (off (suc n) s) parts e x.0 (λ q d. all_off p (suc n) s q d x.1)
  all_off p (suc (suc n)) (Null ∷ s) parts e h = let x = and_parts (p Null) (list_all p s) h in both_above p Null (off (suc n) s) parts e x.0 (λ q d. all_off p (suc n) s q d x.1)
  all_off p (suc (suc n)) (UninitThis ∷ s) parts e h = let x = and_parts (p UninitThis) (list_all p s) h in both_above p UninitThis (off (suc n) s) parts e x.0 (λ q d. all_off p (suc n) s q d x.1)
  all_off p (suc (suc n)) (Uninit a ∷ s) parts e h = let x = and_parts (p (Uninit a)) (list_all p s) h in both_above p (Uninit a) (off (suc n) s) parts e x.0 (λ q d. all_off p (suc n) s q d x.1)
  all_off p (suc (suc n)) (Object ty ∷ s) parts e h = let x = and_parts (p (Object ty)) (list_all p s) h in both_above p (Object ty) (off (suc n) s) parts e x.0 (λ q d. all_off p (suc n) s q d x.1)

  off_is : (r : Result (List VType × List VType) ℕ) (go : List VType → List VType → Result (List VType) ℕ) (out : List VType) → then_off r go ≡ Ok out → (parts : List VType × List VType) × (r ≡ Ok parts) × (go parts.0 parts.1 ≡ Ok out)
  off_is (Ok parts) go out e = (parts, refl, e)
  off_is (Err n) go out e = absurd (cc)

  pub all_shuffled : (p : VType → Bool) (form : Form) (s out : List VType) → shuffled form s ≡ Ok out → list_all p s ≡ true → list_all p out ≡ true
  all_shuffled p (Drops n) s out e h =
      let a = off_is (off n s) (λ a rest. Ok rest) out e in
      let x = all_off p n s a.0 a.1 h in
      ap (list_all p) (sym (ok_same a.0.1 out a.2)) ∙ x.1
  all_shuffled p (Copies n k) s out e h =
      let a = off_is (off n s) _ out e in
      let x = all_off p n s a.0 a.1 h in
      let b = off_is (off k a.0.1) (λ b rest. Ok (a.0.0 ++ (b ++ (a.0.0 ++ rest)))) out a.2 in
      let y = all_off p k a.0.1 b.0 b.1 x.1 in
      ap (list_all p) (sym (ok_same (a.0.0 ++ (b.0.0 ++ (a.0.0 ++ b.0.1))) out b.2))
      ∙ all_append p a.0.0 (b.0.0 ++ (a.0.0 ++ b.0.1)) x.0 (all_append p b.0.0 (a.0.0 ++ b.0.1) y.0 (all_append p a.0.0 b.0.1 x.0 y.1))
  all_shuffled p Swaps s out e h =
      let a = off_is (off 1 s) _ out e in
      let x = all_off p 1 s a.0 a.1 h in
      let b = off_is (off 1 a.0.1) (λ b rest. Ok (b ++ (a.0.0 ++ rest))) out a.2 in
      let y = all_off p 1 a.0.1 b.0 b.1 x.1 in
      ap (list_all p) (sym (ok_same (b.0.0 ++ (a.0.0 ++ b.0.1)) out b.2)) ∙ all_append p b.0.0 (a.0.0 ++ b.0.1) y.0 (all_append p a.0.0 b.0.1 x.0 y.1)

  -- ---- values of declared types are sane

  sane_at : (n : ℕ) (b : Base) → sane_item (vtype (record { dims = n; base = b })) ≡ true
  sane_at zero base.Bool = refl
  sane_at zero base.Byte = refl
  sane_at zero base.Char = refl
  sane_at zero base.Short = refl
  sane_at zero base.Int = refl
  sane_at zero base.Long = refl
  sane_at zero (base.Class c) = refl
  sane_at (suc n) b = refl

  pub sane_vtype : (ty : Ty) → sane_item (vtype ty) ≡ true
  sane_vtype ty = sane_at ty.dims ty.base

  pub sane_results : (o : Option Ty) → list_all sane_item (result_types o) ≡ true
  sane_results None = refl
  sane_results (Some ty) = and_from (sane_item (vtype ty)) true (sane_vtype ty) refl

  sane_class : (o : Option ClassId) → sane_item (vtype_of_class o) ≡ true
  sane_class None = refl
  sane_class (Some c) = refl

  element_sane : (s : List VType) (t : VType) → element s ≡ Ok t → sane_item t ≡ true
  element_sane [] t e = absurd (cc)
  element_sane (i ∷ []) t e = absurd (cc)
  element_sane (i ∷ Null ∷ s) t e = ap sane_item (sym (ok_same Null t e))
  element_sane (i ∷ Object ty ∷ s) t e = ap sane_item (sym (ok_same (vtype (record ty { dims = ty.dims - 1 })) t e)) ∙ sane_vtype (record ty { dims = ty.dims - 1 })
  element_sane (i ∷ Top ∷ s) t e = absurd (cc)
  element_sane (i ∷ Int ∷ s) t e = absurd (cc)
  element_sane (i ∷ Long ∷ s) t e = absurd (cc)
  element_sane (i ∷ UninitThis ∷ s) t e = absurd (cc)
  element_sane (i ∷ Uninit q ∷ s) t e = absurd (cc)

  -- ---- rows keep frames sane

  abbrev pub SaneRow : Row → Type 0
  SaneRow (Takes takes gives also) = list_all sane_item gives ≡ true
  SaneRow (Constructs takes gives class before after) = list_all sane_item gives ≡ true
  SaneRow r = Unit {0}

  item_sane : (t : VType) → sane t ≡ true → is_top t ≡ false → sane_item t ≡ true
  item_sane t h n = and_from (sane t) (not (is_top t)) h (ap (λ b. not b) n)

  pub passed_further : {A : Type 0} (P : Program) (rs : List Further) (s : List VType) (go : Result A ℕ) (x : A) → further P rs s go ≡ Ok x → go ≡ Ok x
  passed_further P [] s go x h = h
  passed_further P (r ∷ rs) s go x h = passed_further P rs s go x (passed r.number (r.holds && all_meet P r.operands s) (further P rs s go) x h).1

  module _ (P : Program) (m : Method) (plain : is_constructor m ≡ false) where
    with_new_stack : (f g : Types) (s : List VType) → Sane m f → record f { stack = s } ≡ g → words s ≤ m.max_stack → list_all sane_item s ≡ true → Sane m g
    with_new_stack f g s sf e room h = subst (λ z. Sane m z) e (record { room = room; within = sf.within; set = sf.set; locals = sf.locals; stack = h; halves = sf.halves })

    sane_takes : (q : ℕ) (takes : List Operand) (gives : List VType) (also : List Further) (f g : Types) → Sane m f → list_all sane_item gives ≡ true → by_row P m q (Takes takes gives also) f ≡ Ok g → Sane m g
    sane_takes q takes gives also f g sf h e =
        let out = gives ++ drop (length takes) f.stack in
        let p3 = passed 3 _ _ g e in
        let p4 = passed 4 _ _ g p3.1 in
        let p5 = passed 5 _ _ g p4.1 in
        let p6 = passed_further P also f.stack (Ok (record f { stack = out })) g p5.1 in
        with_new_stack f g out sf (ok_same (record f { stack = out }) g p6) (given_low m gives f.stack (length takes) p4.0 sf.room) (all_append sane_item gives (drop (length takes) f.stack) h (all_drop sane_item (length takes) f.stack sf.stack))

    sane_element : (q : ℕ) (f g : Types) → Sane m f → by_row P m q Element f ≡ Ok g → Sane m g
    sane_element q f g sf e =
        let p3 = passed 3 _ _ g e in
        let p4 = passed 4 _ _ g p3.1 in
        let p5 = passed 5 _ _ g p4.1 in
        let is = element_is f g (element f.stack) p5.1 in
        with_new_stack f g (is.0 ∷ drop 2 f.stack) sf is.2 (element_low m f.stack is.0 is.1 sf.room) (and_from (sane_item is.0) (list_all sane_item (drop 2 f.stack)) (element_sane f.stack is.0 is.1) (all_drop sane_item 2 f.stack sf.stack))

    loaded_room : (o : Operand) (t : VType) (s : List VType) → size t ≡ size (pushed o) → has_room m (pushed o ∷ s) ≡ true → words (t ∷ s) ≤ m.max_stack
    loaded_room o t s e h = let a = leb-true (words (pushed o ∷ s)) m.max_stack h in omega (arith, a, e)

    sane_shuffles : (q : ℕ) (form : Form) (f g : Types) → Sane m f → by_row P m q (Shuffles form) f ≡ Ok g → Sane m g
    sane_shuffles q form f g sf e =
        let p3 = passed 3 _ _ g e in
        let p4 = passed 4 _ _ g p3.1 in
        let is = stack_is f g (shuffled form f.stack) p4.1 in
        with_new_stack f g is.0 sf is.2 (form_low m form f.stack is.0 is.1 p4.0 sf.room) (all_shuffled sane_item form f.stack is.0 is.1 sf.stack)

    sane_loads : (q : ℕ) (o : Operand) (slot : ℕ) (f g : Types) → Sane m f → Firm P o → by_row P m q (Loads o slot) f ≡ Ok g → Sane m g
    sane_loads q o slot f g sf firm e =
        let t = peek f.locals slot in
        let p4 = passed 4 _ _ g e in
        let p6 = passed 6 _ _ g p4.1 in
        let b = and_parts (nat_lt slot m.max_locals) (meets P o t) p6.0 in
        with_new_stack f g (t ∷ f.stack) sf (ok_same (record f { stack = t ∷ f.stack }) g p6.1) (loaded_room o t f.stack (firm t b.1).1 p4.0) (and_from (sane_item t) (list_all sane_item f.stack) (item_sane t (sf.locals slot) (firm t b.1).0) sf.stack)

    sane_stores : (q : ℕ) (o : Operand) (slot : ℕ) (s : List VType) (f g : Types) → Sane m f → f.stack ≡ s → store P m o slot s f ≡ Ok g → Sane m g
    sane_stores q o slot [] f g sf is e = absurd (cc)
    sane_stores q o slot (t ∷ s) f g sf is e =
        let p5 = passed 5 _ _ g e in
        let p6 = passed 6 _ _ g p5.1 in
        let within = leb-true (slot + size t) m.max_locals p6.0 in
        let all = ap (list_all sane_item) (sym is) ∙ sf.stack in
        let parts = and_parts (sane_item t) (list_all sane_item s) all in
        let one = and_parts (sane t) (not (is_top t)) parts.0 in
        let less = ap words is in
        let room = sf.room in
        subst (λ z. Sane m z) (ok_same (record f { locals = stored f.locals slot t; stack = s }) g p6.1) (record {
          room = omega (arith, less, room);
          within = long_stored f.locals slot m.max_locals t within sf.within;
          set = sf.set;
          locals = pred_stored sane f.locals slot t sf.locals one.0 refl;
          stack = parts.1;
          halves = halves_stored m.max_locals f.locals slot t within sf.halves;
        })

    sane_adds : (q slot : ℕ) (f g : Types) → Sane m f → by_row P m q (Adds slot) f ≡ Ok g → Sane m g
    sane_adds q slot f g sf e = let p6 = passed 6 _ _ g e in subst (λ z. Sane m z) (ok_same f g p6.1) sf

    sane_makes : (q : ℕ) (may : Bool) (f g : Types) → Sane m f → fresh q ≡ true → by_row P m q (Makes may) f ≡ Ok g → Sane m g
    sane_makes q may f g sf new e =
        let p4 = passed 4 _ _ g e in
        let p10 = passed 10 _ _ g p4.1 in
        let p13 = passed 13 _ _ g p10.1 in
        let same_length = long_replaced (Uninit q) Top f.locals in
        let within = sf.within in
        subst (λ z. Sane m z) (ok_same (record f { locals = replaced (Uninit q) Top f.locals; stack = Uninit q ∷ f.stack }) g p13.1) (record {
          room = leb-true (words (Uninit q ∷ f.stack)) m.max_stack p4.0;
          within = omega (arith, same_length, within);
          set = sf.set;
          locals = pred_replaced sane (Uninit q) Top f.locals sf.locals refl;
          stack = and_from (fresh q && true) (list_all sane_item f.stack) (and_from (fresh q) true new refl) sf.stack;
          halves = halves_replaced m.max_locals (Uninit q) Top f.locals refl sf.halves;
        })

    made_sane : (old new : VType) (gives s : List VType) (n : ℕ) (f g : Types) → Sane m f → size new ≡ 1 → sane_item new ≡ true → is_long new ≡ false → list_all sane_item gives ≡ true → list_all sane_item s ≡ true → words (gives ++ s) ≤ m.max_stack →
        record { locals = replaced old new f.locals; stack = gives ++ replaced old new s; unset = false } ≡ g → Sane m g
    made_sane old new gives s n f g sf one new_sane short hg hs room e =
        let same_length = long_replaced old new f.locals in
        let within = sf.within in
        let a = words_both gives s in
        let b = words_both gives (replaced old new s) in
        let c = words_replaced old new s one in
        subst (λ z. Sane m z) e (record {
          room = omega (arith, a, b, c, room);
          within = omega (arith, same_length, within);
          set = refl;
          locals = pred_replaced sane old new f.locals sf.locals (and_parts (sane new) (not (is_top new)) new_sane).0;
          stack = all_append sane_item gives (replaced old new s) hg (all_replaced sane_item old new s hs new_sane);
          halves = halves_replaced m.max_locals old new f.locals short sf.halves;
        })
      where
        words_both : (a b : List VType) → words (a ++ b) ≡ words a + words b
        words_both [] b = omega arith
        words_both (t ∷ a) b = let h = words_both a b in omega (arith, h)

    sane_constructed : (class : ClassId) (gives : List VType) (after : List Further) (d : List VType) (f g : Types) → Sane m f → list_all sane_item gives ≡ true → list_all sane_item d ≡ true → words (gives ++ drop 1 d) ≤ m.max_stack → constructed P m class gives after d f ≡ Ok g → Sane m g
    sane_constructed class gives after (UninitThis ∷ s) f g sf hg hd room e = absurd (false≢true (and_parts false (list_all sane_item s) hd).0)
    sane_constructed class gives after (Uninit q ∷ s) f g sf hg hd room e =
        let p10 = passed 10 _ _ g e in
        let new = class_vtype class in
        let p = passed_further P after f.stack (Ok (record f { locals = replaced (Uninit q) new f.locals; stack = gives ++ replaced (Uninit q) new s })) g p10.1 in
        made_sane (Uninit q) new gives s 0 f g sf refl refl refl hg (and_parts (sane_item (Uninit q)) (list_all sane_item s) hd).1 room
        (ap (λ u. record { locals = replaced (Uninit q) new f.locals; stack = gives ++ replaced (Uninit q) new s; unset = u }) (sym sf.set) ∙ ok_same (record f { locals = replaced (Uninit q) new f.locals; stack = gives ++ replaced (Uninit q) new s }) g p)
    sane_constructed class gives after d f g sf hg hd room e = absurd (cc)

    drop_one : (n : ℕ) (s : List VType) → drop 1 (drop n s) ≡ drop (suc n) s
    drop_one zero [] = refl
    drop_one zero (t ∷ s) = refl
    drop_one (suc n) [] = refl
    drop_one (suc n) (t ∷ s) = drop_one n s

    sane_constructs : (q : ℕ) (takes : List Operand) (gives : List VType) (class : ClassId) (before after : List Further) (f g : Types) → Sane m f → list_all sane_item gives ≡ true → by_row P m q (Constructs takes gives class before after) f ≡ Ok g → Sane m g
    sane_constructs q takes gives class before after f g sf h e =
        let p3 = passed 3 _ _ g e in
        let p4 = passed 4 _ _ g p3.1 in
        let p5 = passed 5 _ _ g p4.1 in
        let d = drop (length takes) f.stack in
        let p6 = passed_further P before f.stack (constructed P m class gives after d f) g p5.1 in
        let room = given_low m gives f.stack (suc (length takes)) p4.0 sf.room in
        sane_constructed class gives after d f g sf h (all_drop sane_item (length takes) f.stack sf.stack) (subst (λ z. words (gives ++ z) ≤ m.max_stack) (sym (drop_one (length takes) f.stack)) room) p6

    sane_leaves : (q : ℕ) (takes : List Operand) (also : List Further) (f g : Types) → Sane m f → by_row P m q (Leaves takes also) f ≡ Ok g → Sane m g
    sane_leaves q takes also f g sf e =
        let p3 = passed 3 _ _ g e in
        let p5 = passed 5 _ _ g p3.1 in
        let p6 = passed_further P also f.stack _ g p5.1 in
        let p11 = passed 11 _ _ g p6 in
        subst (λ z. Sane m z) (ok_same (record f { stack = [] }) g p11.1) (record { room = omega arith; within = sf.within; set = sf.set; locals = sf.locals; stack = refl; halves = sf.halves })

    abbrev pub FreshRow : ℕ → Row → Type 0
    FreshRow q (Makes may) = fresh q ≡ true
    FreshRow q r = Unit {0}

    pub sane_row : (q : ℕ) (r : Row) (f g : Types) → Sane m f → SaneRow r → FirmRow P r → FreshRow q r → by_row P m q r f ≡ Ok g → Sane m g
    sane_row q (Takes takes gives also) f g sf h firm new e = sane_takes q takes gives also f g sf h e
    sane_row q Element f g sf h firm new e = sane_element q f g sf e
    sane_row q (Shuffles form) f g sf h firm new e = sane_shuffles q form f g sf e
    sane_row q (Loads o slot) f g sf h firm new e = sane_loads q o slot f g sf firm e
    sane_row q (Stores o slot) f g sf h firm new e = sane_stores q o slot f.stack f g sf refl e
    sane_row q (Adds slot) f g sf h firm new e = sane_adds q slot f g sf e
    sane_row q (Makes may) f g sf h firm new e = sane_makes q may f g sf new e
    sane_row q (Constructs takes gives class before after) f g sf h firm new e = sane_constructs q takes gives class before after f g sf h e
    sane_row q (Leaves takes also) f g sf h firm new e = sane_leaves q takes also f g sf e
