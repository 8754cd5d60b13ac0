-- What instructions do in one frame fits: numbers, locals, stack forms, jumps, returns.
use Rattle.std.proofs.Common.{◌≡◌, ◌≢◌, ◌⊎◌, inl, inr, ℕ, ◌+◌, ◌<◌, ◌≤◌, ℤ, pos, Bool, true, false, cond, List, [], ◌∷◌, ◌++◌, length, drop, Option, Some, None, Result, Ok, Err, refl, sym, subst, ◌∙◌, arith}
use Rattle.std.specs.Prelude.{◌&&◌, nat_le, nat_lt, slice_get, slice_set}
use Rattle.std.specs.Ordering.{int_eq}
use Rattle.std.proofs.lemmas.Bool.{and_parts, and_from, leb-true}
use Rattle.std.proofs.lemmas.Bool.Decides.{eqb_tells}
use Rattle.kilim_run_state.specs.declared.cause.EndCause.TheVariants as cause
use Rattle.kilim_program.specs.declared.class.Method.{Method}
use Rattle.kilim_program.specs.declared.instr.Instr.{Instr}
use Rattle.kilim_program.specs.declared.value.Value.{Value}
use Rattle.kilim_program.specs.declared.value.Value.TheVariants as value
use Rattle.kilim_program.specs.declared.verified.VType.{VType}
use Rattle.kilim_program.specs.declared.verified.VType.TheVariants.{Top, Int, Long, Null, UninitThis, Uninit, Object}
use Rattle.kilim_program.specs.Program.{Program}
use Rattle.kilim_run_state.specs.Machine.{Objects}
use Rattle.kilim_run_machine.specs.Effect.{Effect, Goes, Raises, with_some, as_int, as_long, as_reference, on_int, on_long, on_two_longs, on_word, on_two_words}
use Rattle.kilim_run_machine.specs.Does.{int_binary, int_division, int_unary, long_binary, long_division, long_shift, int_jump, compare_jump, reference_jump, null_jump, place_if, same_reference, is_null}
use Rattle.kilim_type_spec.specs.Step.{Types, peek, stored, size, is_top, Operand, Is, AReference, Initialized, Further, Takes, Shuffles, Form, Drops, Copies, Swaps, Loads, by_row, gives_int, gives_long, ints, longs, compares, tests_null, store, shuffled, with_stack, off, then_off, meets, has_room, form_words, words, pushed, form_room}
use Rattle.kilim_type_spec.specs.Typed.{reads, writes, edges, Among}
use Rattle.kilim_type_sound.specs.Fits.{Classes, has_type, have_types, Holds, LocalsFit, HeapFits, AreThere, WantsAt}
use Rattle.kilim_type_sound.specs.Sound.{EffectFits}
use Rattle.kilim_type_sound.specs.Facts.{Ordered}
use Rattle.kilim_type_sound.proofs.Basics.{passed, okay, ok_is, Furthers, takes_inverse, PlainOperands, Taken, taken, held}
use Rattle.kilim_type_sound.proofs.Words.{int_is, long_is, int_took, two_ints, long_took, two_longs, reference_took, reference_is, word_off, words_off, have_both}
use Rattle.kilim_type_sound.proofs.Slots.{set_there, set_other, set_length, stored_here, stored_other, get_within, Otherwise, Same, BecameTop, IsTop}

-- the frame before an instruction
pub record Before (p : Program) (m : Method) (of : Classes) (h : Objects) (live : ℕ → ℕ → Bool) (at next : ℕ) (f : Types) (ls vs : List Value) (i : Instr) : Type 0 where
  pub wants : WantsAt m.handlers live at next i
  pub locals : LocalsFit p m of (live at) f.locals ls
  pub stack : have_types p m of f.stack vs ≡ true
  pub there : AreThere h vs

module _ (p : Program) (order : Ordered p) (m : Method) (of : Classes) (h : Objects) (heap : HeapFits p of h) (live : ℕ → ℕ → Bool) (at next : ℕ) (f g : Types) (ls vs : List Value) where
  abbrev pub B : Instr → Type 0
  B i = Before p m of h live at next f ls vs i

  abbrev pub After : Instr → Effect → Type 0
  After i e = EffectFits p m of live next ls h (edges i next) g e

  -- the same, where the stack gets these types, and the locals stay
  abbrev pub At : Instr → List VType → Effect → Type 0
  At i s e = EffectFits p m of live next ls h (edges i next) (record f { stack = s }) e

  pub by_takes : (i : Instr) → B i → (takes : List Operand) (gives : List VType) (also : List Further) → PlainOperands p order m of takes → by_row p m at (Takes takes gives also) f ≡ Ok g → (e : Effect) →
      (Furthers p also f.stack → (ts : List VType) → Taken p order m of h takes ts vs → At i (gives ++ ts) e) → After i e
  by_takes i b takes gives also plain r e k =
      let inv = takes_inverse p m at takes gives also f g r in
      subst (λ (z : Types). EffectFits p m of live next ls h (edges i next) z e) inv.after (k inv.also_hold (drop (length takes) f.stack) (taken p order m of h takes f.stack vs plain inv.meet b.stack b.there))

  pub kept : (i : Instr) → B i → ((k : ℕ) → writes i k ≡ false) → (q : ℕ) → Among (edges i next) q → LocalsFit p m of (live q) f.locals ls
  kept i b w q a = record { room = b.locals.room; slots = λ k l. b.locals.slots k (b.wants.flow q k a l (w k)) }

  pub going : (i : Instr) → B i → ((k : ℕ) → writes i k ≡ false) → (q : ℕ) → Among (edges i next) q → (s : List VType) (ws : List Value) → have_types p m of s ws ≡ true → At i s (Goes q ls ws h)
  going i b w q a s ws e = record { among = a; locals = kept i b w q a; stack = e; heap = heap }

  module _ (i : Instr) (b : B i) (w : (k : ℕ) → writes i k ≡ false) where
    -- ---- numbers
    module _ (on : Among (edges i next) next) where
      pub push : (t : VType) (v : Value) → has_type p m of t v ≡ true → by_row p m at (Takes [] (t ∷ []) []) f ≡ Ok g → After i (Goes next ls (v ∷ vs) h)
      push t v e r = by_takes i b [] (t ∷ []) [] tt r (Goes next ls (v ∷ vs) h) (λ a ts k. going i b w next on (t ∷ ts) (v ∷ vs) (and_from (has_type p m of t v) (have_types p m of ts vs) e k))

      pub nop : by_row p m at (Takes [] [] []) f ≡ Ok g → After i (Goes next ls vs h)
      nop r = by_takes i b [] [] [] tt r (Goes next ls vs h) (λ a ts k. going i b w next on ts vs k)

      pub ints_row : (op : ℤ → ℤ → ℤ) → by_row p m at (gives_int ints) f ≡ Ok g → After i (int_binary op next ls vs h)
      ints_row op r = by_takes i b ints (Int ∷ []) [] (tt, (tt, tt)) r _ (λ a ts k. two_ints p order m of h heap (At i (Int ∷ ts)) (λ c. tt) [] ts vs k _ (λ x y rest t. going i b w next on (Int ∷ ts) _ t))

      pub division_row : (op : ℤ → ℤ → ℤ) → by_row p m at (gives_int ints) f ≡ Ok g → After i (int_division op next ls vs h)
      division_row op r = by_takes i b ints (Int ∷ []) [] (tt, (tt, tt)) r _ (λ a ts k. two_ints p order m of h heap (At i (Int ∷ ts)) (λ c. tt) [] ts vs k _
          (λ x y rest t. elim (int_eq y (pos 0)) as (λ (z : Bool). At i (Int ∷ ts) (cond z (Raises cause.Zero) (Goes next ls (value.Int (op x y) ∷ rest) h))) [ true ↦ tt | false ↦ going i b w next on (Int ∷ ts) _ t ]))

      pub int_row : (op : ℤ → ℤ) → by_row p m at (gives_int (Is Int ∷ [])) f ≡ Ok g → After i (int_unary op next ls vs h)
      int_row op r = by_takes i b (Is Int ∷ []) (Int ∷ []) [] (tt, tt) r _ (λ a ts k. int_took p order m of h heap (At i (Int ∷ ts)) (λ c. tt) [] ts vs k _ (λ x rest t. going i b w next on (Int ∷ ts) _ t))

      pub to_long_row : (op : ℤ → ℤ) → by_row p m at (gives_long (Is Int ∷ [])) f ≡ Ok g → After i (on_int vs (λ a rest. Goes next ls (value.Long (op a) ∷ rest) h))
      to_long_row op r = by_takes i b (Is Int ∷ []) (Long ∷ []) [] (tt, tt) r _ (λ a ts k. int_took p order m of h heap (At i (Long ∷ ts)) (λ c. tt) [] ts vs k _ (λ x rest t. going i b w next on (Long ∷ ts) _ t))

      pub to_int_row : (op : ℤ → ℤ) → by_row p m at (gives_int (Is Long ∷ [])) f ≡ Ok g → After i (on_long vs (λ a rest. Goes next ls (value.Int (op a) ∷ rest) h))
      to_int_row op r = by_takes i b (Is Long ∷ []) (Int ∷ []) [] (tt, tt) r _ (λ a ts k. long_took p order m of h heap (At i (Int ∷ ts)) (λ c. tt) [] ts vs k _ (λ x rest t. going i b w next on (Int ∷ ts) _ t))

      pub long_row : (op : ℤ → ℤ) → by_row p m at (gives_long (Is Long ∷ [])) f ≡ Ok g → After i (on_long vs (λ a rest. Goes next ls (value.Long (op a) ∷ rest) h))
      long_row op r = by_takes i b (Is Long ∷ []) (Long ∷ []) [] (tt, tt) r _ (λ a ts k. long_took p order m of h heap (At i (Long ∷ ts)) (λ c. tt) [] ts vs k _ (λ x rest t. going i b w next on (Long ∷ ts) _ t))

      pub longs_row : (op : ℤ → ℤ → ℤ) → by_row p m at (gives_long longs) f ≡ Ok g → After i (long_binary op next ls vs h)
      longs_row op r = by_takes i b longs (Long ∷ []) [] (tt, (tt, tt)) r _ (λ a ts k. two_longs p order m of h heap (At i (Long ∷ ts)) (λ c. tt) [] ts vs k _ (λ x y rest t. going i b w next on (Long ∷ ts) _ t))

      pub long_division_row : (op : ℤ → ℤ → ℤ) → by_row p m at (gives_long longs) f ≡ Ok g → After i (long_division op next ls vs h)
      long_division_row op r = by_takes i b longs (Long ∷ []) [] (tt, (tt, tt)) r _ (λ a ts k. two_longs p order m of h heap (At i (Long ∷ ts)) (λ c. tt) [] ts vs k _
          (λ x y rest t. elim (int_eq y (pos 0)) as (λ (z : Bool). At i (Long ∷ ts) (cond z (Raises cause.Zero) (Goes next ls (value.Long (op x y) ∷ rest) h))) [ true ↦ tt | false ↦ going i b w next on (Long ∷ ts) _ t ]))

      pub compare_row : (op : ℤ → ℤ → ℤ) → by_row p m at (gives_int longs) f ≡ Ok g → After i (on_two_longs vs (λ a b rest. Goes next ls (value.Int (op a b) ∷ rest) h))
      compare_row op r = by_takes i b longs (Int ∷ []) [] (tt, (tt, tt)) r _ (λ a ts k. two_longs p order m of h heap (At i (Int ∷ ts)) (λ c. tt) [] ts vs k _ (λ x y rest t. going i b w next on (Int ∷ ts) _ t))

      pub shift_row : (op : ℤ → ℤ → ℤ) → by_row p m at (gives_long (Is Int ∷ Is Long ∷ [])) f ≡ Ok g → After i (long_shift op next ls vs h)
      shift_row op r = by_takes i b (Is Int ∷ Is Long ∷ []) (Long ∷ []) [] (tt, (tt, tt)) r _ (λ a ts k. int_took p order m of h heap (At i (Long ∷ ts)) (λ c. tt) (Is Long ∷ []) ts vs k _
          (λ x below t. long_took p order m of h heap (At i (Long ∷ ts)) (λ c. tt) [] ts below t _ (λ y rest u. going i b w next on (Long ∷ ts) _ u)))

    -- ---- jumps
    among_if : (c : Bool) (to : ℕ) → Among (edges i next) to → Among (edges i next) next → Among (edges i next) (place_if c to next)
    among_if true to a n = a
    among_if false to a n = n

    module _ (to : ℕ) (there : Among (edges i next) to) (on : Among (edges i next) next) where
      pub jump_row : (test : ℤ → Bool) → by_row p m at (Takes (Is Int ∷ []) [] []) f ≡ Ok g → After i (int_jump test to next ls vs h)
      jump_row test r = by_takes i b (Is Int ∷ []) [] [] (tt, tt) r _ (λ a ts k. int_took p order m of h heap (At i ts) (λ c. tt) [] ts vs k _ (λ x rest t. going i b w _ (among_if (test x) to there on) ts rest t))

      pub compare_jump_row : (test : ℤ → ℤ → Bool) → by_row p m at (Takes ints [] []) f ≡ Ok g → After i (compare_jump test to next ls vs h)
      compare_jump_row test r = by_takes i b ints [] [] (tt, (tt, tt)) r _ (λ a ts k. two_ints p order m of h heap (At i ts) (λ c. tt) [] ts vs k _ (λ x y rest t. going i b w _ (among_if (test x y) to there on) ts rest t))

      pub reference_jump_row : (test : Bool → Bool) → by_row p m at compares f ≡ Ok g → After i (reference_jump test to next ls vs h)
      reference_jump_row test r = by_takes i b (AReference ∷ AReference ∷ []) [] (record { number = 10; holds = true; operands = Initialized ∷ Initialized ∷ [] } ∷ []) (tt, (tt, tt)) r _ (λ a ts k. reference_took p order m of h heap (At i ts) (λ c. tt) (AReference ∷ []) ts vs k _
          (λ y below t. reference_took p order m of h heap (At i ts) (λ c. tt) [] ts below t _ (λ x rest u. going i b w _ (among_if (test (same_reference x y)) to there on) ts rest u)))

      pub null_jump_row : (test : Bool → Bool) → by_row p m at tests_null f ≡ Ok g → After i (null_jump test to next ls vs h)
      null_jump_row test r = by_takes i b (AReference ∷ []) [] (record { number = 10; holds = true; operands = Initialized ∷ [] } ∷ []) (tt, tt) r _ (λ a ts k. reference_took p order m of h heap (At i ts) (λ c. tt) [] ts vs k _ (λ x rest t. going i b w _ (among_if (test (is_null x)) to there on) ts rest t))

    pub goto_row : (to : ℕ) → Among (edges i next) to → by_row p m at (Takes [] [] []) f ≡ Ok g → After i (Goes to ls vs h)
    goto_row to a r = by_takes i b [] [] [] tt r (Goes to ls vs h) (λ c ts k. going i b w to a ts vs k)

    pub switch_row : (target : ℤ → ℕ) → ((x : ℤ) → Among (edges i next) (target x)) → by_row p m at (Takes (Is Int ∷ []) [] []) f ≡ Ok g → After i (on_int vs (λ a rest. Goes (target a) ls rest h))
    switch_row target among r = by_takes i b (Is Int ∷ []) [] [] (tt, tt) r _ (λ a ts k. int_took p order m of h heap (At i ts) (λ c. tt) [] ts vs k _ (λ x rest t. going i b w _ (among x) ts rest t))

    -- ---- stack forms
    pub record Shuffled (form : Form) : Type 0 where
      pub s : List VType
      pub is : shuffled form f.stack ≡ Ok s
      pub after : record f { stack = s } ≡ g

    shuffle_of : (r : Result (List VType) ℕ) (form : Form) → shuffled form f.stack ≡ r → with_stack f r ≡ Ok g → Shuffled form
    shuffle_of (Err n) form e d = absurd (cc)
    shuffle_of (Ok s) form e d = record { s = s; is = e; after = ok_is (record f { stack = s }) g d }

    shuffle : (form : Form) → by_row p m at (Shuffles form) f ≡ Ok g → Shuffled form
    shuffle form r = shuffle_of (shuffled form f.stack) form refl (passed 4 (form_room m form (words f.stack)) _ g (passed 3 (nat_le (form_words form) (words f.stack)) _ g r).1).1

    pub by_shuffle : (form : Form) → by_row p m at (Shuffles form) f ≡ Ok g → (e : Effect) → ((s : List VType) → shuffled form f.stack ≡ Ok s → At i s e) → After i e
    by_shuffle form r e k = let x = shuffle form r in subst (λ (z : Types). EffectFits p m of live next ls h (edges i next) z e) x.after (k x.s x.is)

    both_have : (t : VType) (v : Value) (ts : List VType) (ws : List Value) → has_type p m of t v ≡ true → have_types p m of ts ws ≡ true → have_types p m of (t ∷ ts) (v ∷ ws) ≡ true
    both_have t v ts ws e d = and_from (has_type p m of t v) (have_types p m of ts ws) e d

    ends_so : (s u : List VType) (ws : List Value) → okay u ≡ okay s → have_types p m of u ws ≡ true → have_types p m of s ws ≡ true
    ends_so s u ws e d = subst (λ (z : List VType). have_types p m of z ws ≡ true) (ok_is u s e) d

    module _ (on : Among (edges i next) next) where
      end : (s u : List VType) (ws : List Value) → okay u ≡ okay s → have_types p m of u ws ≡ true → At i s (Goes next ls ws h)
      end s u ws e d = going i b w next on s ws (ends_so s u ws e d)

      both : (a c : List VType) (xs ys : List Value) → have_types p m of a xs ≡ true → have_types p m of c ys ≡ true → have_types p m of (a ++ c) (xs ++ ys) ≡ true
      both a c xs ys e d = have_both p order m of h heap (λ _. Unit {0}) (λ c. tt) a c xs ys e d

      pub pop_row : by_row p m at (Shuffles (Drops 1)) f ≡ Ok g → After i (on_word vs (λ v rest. Goes next ls rest h))
      pop_row r = by_shuffle (Drops 1) r _ (λ s e. word_off p order m of h heap (At i s) (λ c. tt) s f.stack vs b.stack (λ a rest. Ok rest) (λ v rest. Goes next ls rest h) e (λ t v d us ws k q. end s us ws q k))

      pub pop2_row : by_row p m at (Shuffles (Drops 2)) f ≡ Ok g → After i (on_two_words vs (λ v rest. Goes next ls rest h))
      pop2_row r = by_shuffle (Drops 2) r _ (λ s e. words_off p order m of h heap (At i s) (λ c. tt) s f.stack vs b.stack (λ a rest. Ok rest) (λ v rest. Goes next ls rest h) e (λ a xs d us ws k q. end s us ws q k))

      pub dup_row : by_row p m at (Shuffles (Copies 1 0)) f ≡ Ok g → After i (on_word vs (λ v rest. Goes next ls (v ∷ v ∷ rest) h))
      dup_row r = by_shuffle (Copies 1 0) r _ (λ s e. word_off p order m of h heap (At i s) (λ c. tt) s f.stack vs b.stack (λ a below. then_off (off 0 below) (λ b rest. Ok (a ++ (b ++ (a ++ rest))))) (λ v rest. Goes next ls (v ∷ v ∷ rest) h) e (λ t v d us ws k q. end s (t ∷ t ∷ us) (v ∷ v ∷ ws) q (both_have t v (t ∷ us) (v ∷ ws) d (both_have t v us ws d k))))

      pub dup_x1_row : by_row p m at (Shuffles (Copies 1 1)) f ≡ Ok g → After i (on_word vs (λ v below. on_word below (λ w rest. Goes next ls (v ∷ w ∷ v ∷ rest) h)))
      dup_x1_row r = by_shuffle (Copies 1 1) r _ (λ s e. word_off p order m of h heap (At i s) (λ c. tt) s f.stack vs b.stack (λ a below. then_off (off 1 below) (λ b rest. Ok (a ++ (b ++ (a ++ rest))))) (λ v below. on_word below (λ w rest. Goes next ls (v ∷ w ∷ v ∷ rest) h)) e (λ t v d us ws k q. word_off p order m of h heap (At i s) (λ c. tt) s us ws k (λ b rest. Ok ((t ∷ []) ++ (b ++ ((t ∷ []) ++ rest)))) (λ w rest. Goes next ls (v ∷ w ∷ v ∷ rest) h) q (λ u x d2 us2 ws2 k2 q2. end s (t ∷ u ∷ t ∷ us2) (v ∷ x ∷ v ∷ ws2) q2 (both_have t v (u ∷ t ∷ us2) (x ∷ v ∷ ws2) d (both_have u x (t ∷ us2) (v ∷ ws2) d2 (both_have t v us2 ws2 d k2))))))

      pub dup_x2_row : by_row p m at (Shuffles (Copies 1 2)) f ≡ Ok g → After i (on_word vs (λ v below. on_two_words below (λ ws rest. Goes next ls (v ∷ (ws ++ v ∷ rest)) h)))
      dup_x2_row r = by_shuffle (Copies 1 2) r _ (λ s e. word_off p order m of h heap (At i s) (λ c. tt) s f.stack vs b.stack (λ a below. then_off (off 2 below) (λ b rest. Ok (a ++ (b ++ (a ++ rest))))) (λ v below. on_two_words below (λ ws rest. Goes next ls (v ∷ (ws ++ v ∷ rest)) h)) e (λ t v d us ws k q. words_off p order m of h heap (At i s) (λ c. tt) s us ws k (λ b rest. Ok ((t ∷ []) ++ (b ++ ((t ∷ []) ++ rest)))) (λ ws rest. Goes next ls (v ∷ (ws ++ v ∷ rest)) h) q (λ a xs d2 us2 ws2 k2 q2. end s (t ∷ (a ++ (t ∷ us2))) (v ∷ (xs ++ v ∷ ws2)) q2 (both_have t v (a ++ (t ∷ us2)) (xs ++ v ∷ ws2) d (both a (t ∷ us2) xs (v ∷ ws2) d2 (both_have t v us2 ws2 d k2))))))

      pub dup2_row : by_row p m at (Shuffles (Copies 2 0)) f ≡ Ok g → After i (on_two_words vs (λ vs rest. Goes next ls (vs ++ (vs ++ rest)) h))
      dup2_row r = by_shuffle (Copies 2 0) r _ (λ s e. words_off p order m of h heap (At i s) (λ c. tt) s f.stack vs b.stack (λ a below. then_off (off 0 below) (λ b rest. Ok (a ++ (b ++ (a ++ rest))))) (λ vs rest. Goes next ls (vs ++ (vs ++ rest)) h) e (λ a xs d us ws k q. end s (a ++ (a ++ us)) (xs ++ (xs ++ ws)) q (both a (a ++ us) xs (xs ++ ws) d (both a us xs ws d k))))

      pub dup2_x1_row : by_row p m at (Shuffles (Copies 2 1)) f ≡ Ok g → After i (on_two_words vs (λ vs below. on_word below (λ w rest. Goes next ls (vs ++ w ∷ (vs ++ rest)) h)))
      dup2_x1_row r = by_shuffle (Copies 2 1) r _ (λ s e. words_off p order m of h heap (At i s) (λ c. tt) s f.stack vs b.stack (λ a below. then_off (off 1 below) (λ b rest. Ok (a ++ (b ++ (a ++ rest))))) (λ vs below. on_word below (λ w rest. Goes next ls (vs ++ w ∷ (vs ++ rest)) h)) e (λ a xs d us ws k q. word_off p order m of h heap (At i s) (λ c. tt) s us ws k (λ b rest. Ok (a ++ (b ++ (a ++ rest)))) (λ w rest. Goes next ls (xs ++ w ∷ (xs ++ rest)) h) q (λ u x d2 us2 ws2 k2 q2. end s (a ++ (u ∷ (a ++ us2))) (xs ++ x ∷ (xs ++ ws2)) q2 (both a (u ∷ (a ++ us2)) xs (x ∷ (xs ++ ws2)) d (both_have u x (a ++ us2) (xs ++ ws2) d2 (both a us2 xs ws2 d k2))))))

      pub dup2_x2_row : by_row p m at (Shuffles (Copies 2 2)) f ≡ Ok g → After i (on_two_words vs (λ vs below. on_two_words below (λ ws rest. Goes next ls (vs ++ (ws ++ (vs ++ rest))) h)))
      dup2_x2_row r = by_shuffle (Copies 2 2) r _ (λ s e. words_off p order m of h heap (At i s) (λ c. tt) s f.stack vs b.stack (λ a below. then_off (off 2 below) (λ b rest. Ok (a ++ (b ++ (a ++ rest))))) (λ vs below. on_two_words below (λ ws rest. Goes next ls (vs ++ (ws ++ (vs ++ rest))) h)) e (λ a xs d us ws k q. words_off p order m of h heap (At i s) (λ c. tt) s us ws k (λ b rest. Ok (a ++ (b ++ (a ++ rest)))) (λ ys rest. Goes next ls (xs ++ (ys ++ (xs ++ rest))) h) q (λ c ys d2 us2 ws2 k2 q2. end s (a ++ (c ++ (a ++ us2))) (xs ++ (ys ++ (xs ++ ws2))) q2 (both a (c ++ (a ++ us2)) xs (ys ++ (xs ++ ws2)) d (both c (a ++ us2) ys (xs ++ ws2) d2 (both a us2 xs ws2 d k2))))))

      pub swap_row : by_row p m at (Shuffles (Swaps)) f ≡ Ok g → After i (on_word vs (λ v below. on_word below (λ w rest. Goes next ls (w ∷ v ∷ rest) h)))
      swap_row r = by_shuffle (Swaps) r _ (λ s e. word_off p order m of h heap (At i s) (λ c. tt) s f.stack vs b.stack (λ a below. then_off (off 1 below) (λ b rest. Ok (b ++ (a ++ rest)))) (λ v below. on_word below (λ w rest. Goes next ls (w ∷ v ∷ rest) h)) e (λ t v d us ws k q. word_off p order m of h heap (At i s) (λ c. tt) s us ws k (λ b rest. Ok (b ++ ((t ∷ []) ++ rest))) (λ w rest. Goes next ls (w ∷ v ∷ rest) h) q (λ u x d2 us2 ws2 k2 q2. end s (u ∷ t ∷ us2) (x ∷ v ∷ ws2) q2 (both_have u x (t ∷ us2) (v ∷ ws2) d2 (both_have t v us2 ws2 d k2)))))

  -- ---- locals

  pub slot_value : (t : VType) (o : Option Value) (S : Effect → Type 0) (go : Value → Effect) → is_top t ≡ false → Holds p m of t o → ((v : Value) → has_type p m of t v ≡ true → S (go v)) → S (with_some o go)
  slot_value Top o S go n d k = absurd (cc)
  slot_value Int None S go n d k = absurd d
  slot_value Long None S go n d k = absurd d
  slot_value Null None S go n d k = absurd d
  slot_value UninitThis None S go n d k = absurd d
  slot_value (Uninit q) None S go n d k = absurd d
  slot_value (Object ty) None S go n d k = absurd d
  slot_value Int (Some v) S go n d k = k v d
  slot_value Long (Some v) S go n d k = k v d
  slot_value Null (Some v) S go n d k = k v d
  slot_value UninitThis (Some v) S go n d k = k v d
  slot_value (Uninit q) (Some v) S go n d k = k v d
  slot_value (Object ty) (Some v) S go n d k = k v d

  pub met_int : (t : VType) → meets p (Is Int) t ≡ true → t ≡ Int
  unfolding meets
  met_int Int e = refl
  met_int t e = absurd (cc)

  pub met_long : (t : VType) → meets p (Is Long) t ≡ true → t ≡ Long
  unfolding meets
  met_long Long e = refl
  met_long t e = absurd (cc)

  met_no_top : (t : VType) → meets p AReference t ≡ true → is_top t ≡ false
  unfolding meets
  met_no_top Top e = absurd (cc)
  met_no_top t e = refl

  pub record Loaded (o : Operand) (slot : ℕ) : Type 0 where
    pub meet : meets p o (peek f.locals slot) ≡ true
    pub after : record f { stack = peek f.locals slot ∷ f.stack } ≡ g

  loads : (o : Operand) (slot : ℕ) → by_row p m at (Loads o slot) f ≡ Ok g → Loaded o slot
  loads o slot r =
      let a = passed 4 (has_room m (pushed o ∷ f.stack)) _ g r in
      let c = passed 6 (nat_lt slot m.max_locals && meets p o (peek f.locals slot)) _ g a.1 in
      record { meet = (and_parts (nat_lt slot m.max_locals) (meets p o (peek f.locals slot)) c.0).1; after = ok_is (record f { stack = peek f.locals slot ∷ f.stack }) g c.1 }

  module _ (i : Instr) (b : B i) (w : (k : ℕ) → writes i k ≡ false) (on : Among (edges i next) next) (n : ℕ) (read : reads i n ≡ true) where
    load : (t : VType) (v : Value) → has_type p m of t v ≡ true → record f { stack = t ∷ f.stack } ≡ g → After i (Goes next ls (v ∷ vs) h)
    load t v e d = subst (λ (z : Types). EffectFits p m of live next ls h (edges i next) z (Goes next ls (v ∷ vs) h)) d (going i b w next on (t ∷ f.stack) (v ∷ vs) (and_from (has_type p m of t v) (have_types p m of f.stack vs) e b.stack))

    here : Holds p m of (peek f.locals n) (slice_get ls n)
    here = b.locals.slots n (b.wants.read n read)

    pub iload_row : by_row p m at (Loads (Is Int) n) f ≡ Ok g → After i (with_some (slice_get ls n) (λ v. as_int v (λ x. Goes next ls (value.Int x ∷ vs) h)))
    iload_row r =
        let l = loads (Is Int) n r in
        let is = met_int (peek f.locals n) l.meet in
        slot_value Int (slice_get ls n) (After i) _ refl (subst (λ (t : VType). Holds p m of t (slice_get ls n)) is here)
        (λ v e. int_is p order m of h heap (After i) (λ c. tt) v e _ (λ x. load Int (value.Int x) refl (subst (λ (t : VType). record f { stack = t ∷ f.stack } ≡ g) is l.after)))

    pub lload_row : by_row p m at (Loads (Is Long) n) f ≡ Ok g → After i (with_some (slice_get ls n) (λ v. as_long v (λ x. Goes next ls (value.Long x ∷ vs) h)))
    lload_row r =
        let l = loads (Is Long) n r in
        let is = met_long (peek f.locals n) l.meet in
        slot_value Long (slice_get ls n) (After i) _ refl (subst (λ (t : VType). Holds p m of t (slice_get ls n)) is here)
        (λ v e. long_is p order m of h heap (After i) (λ c. tt) v e _ (λ x. load Long (value.Long x) refl (subst (λ (t : VType). record f { stack = t ∷ f.stack } ≡ g) is l.after)))

    pub aload_row : by_row p m at (Loads AReference n) f ≡ Ok g → After i (with_some (slice_get ls n) (λ v. as_reference v (λ x. Goes next ls (x ∷ vs) h)))
    aload_row r =
        let l = loads AReference n r in
        slot_value (peek f.locals n) (slice_get ls n) (After i) _ (met_no_top (peek f.locals n) l.meet) here
        (λ v e. reference_is p order m of h heap (After i) (λ c. tt) v (held p order m of AReference (peek f.locals n) v tt l.meet e) _ (load (peek f.locals n) v e l.after))

  -- ---- stores

  pub record Stored (o : Operand) (slot : ℕ) : Type 0 where
    pub t : VType
    pub s : List VType
    pub v : Value
    pub rest : List Value
    pub is : f.stack ≡ t ∷ s
    pub vs_is : vs ≡ v ∷ rest
    pub typed : has_type p m of t v ≡ true
    pub others : have_types p m of s rest ≡ true
    pub meet : meets p o t ≡ true
    pub within : slot + size t ≤ m.max_locals
    pub after : record f { locals = stored f.locals slot t; stack = s } ≡ g

  pub stores_of : (o : Operand) (slot : ℕ) (ts : List VType) (xs : List Value) → f.stack ≡ ts → vs ≡ xs → have_types p m of ts xs ≡ true → store p m o slot ts f ≡ Ok g → Stored o slot
  stores_of o slot [] xs e d k r = absurd (cc)
  stores_of o slot (t ∷ s) [] e d k r = absurd (cc)
  stores_of o slot (t ∷ s) (v ∷ rest) e d k r =
      let a = passed 5 (meets p o t) _ g r in
      let c = passed 6 (nat_le (slot + size t) m.max_locals) _ g a.1 in
      let ks = and_parts (has_type p m of t v) (have_types p m of s rest) k in
      record { t = t; s = s; v = v; rest = rest; is = e; vs_is = d; typed = ks.0; others = ks.1; meet = a.0; within = leb-true (slot + size t) m.max_locals c.0; after = ok_is (record f { locals = stored f.locals slot t; stack = s }) g c.1 }

  holds_of : (t : VType) (v : Value) → has_type p m of t v ≡ true → Holds p m of t (Some v)
  holds_of Top v e = tt
  holds_of Int v e = e
  holds_of Long v e = e
  holds_of Null v e = e
  holds_of UninitThis v e = e
  holds_of (Uninit q) v e = e
  holds_of (Object ty) v e = e

  size_positive : (t : VType) → 1 ≤ size t
  size_positive Long = omega arith
  size_positive Top = omega arith
  size_positive Int = omega arith
  size_positive Null = omega arith
  size_positive UninitThis = omega arith
  size_positive (Uninit q) = omega arith
  size_positive (Object ty) = omega arith

  module _ (i : Instr) (b : B i) (on : Among (edges i next) next) (n : ℕ) where
    -- `only` : what isn't written is no part of what was stored
    pub store_there : (o : Operand) (x : Stored o n) → ((k : ℕ) → n ≢ k → IsTop (peek (stored f.locals n x.t) k) ⊎ (writes i k ≡ false)) → After i (with_some (slice_get ls n) (λ _. Goes next (slice_set ls n x.v) x.rest h))
    store_there o x only =
        let within : n < length ls = let r = b.locals.room in let y = x.within in let z = size_positive x.t in omega (arith, r, y, z) in
        let old = get_within ls n within in
        subst (λ (o : Option Value). After i (with_some o (λ _. Goes next (slice_set ls n x.v) x.rest h))) (sym old.1)
        (subst (λ (z : Types). EffectFits p m of live next ls h (edges i next) z (Goes next (slice_set ls n x.v) x.rest h)) x.after
        (record { among = on; locals = record { room = set_length ls n x.v ∙ b.locals.room; slots = slots old.0 old.1 }; stack = x.others; heap = heap }))
      where
        slots : (y : Value) → slice_get ls n ≡ Some y → (k : ℕ) → live next k ≡ true → Holds p m of (peek (stored f.locals n x.t) k) (slice_get (slice_set ls n x.v) k)
        slots y e k l = elim (eqb_tells n k) [
          | inl z ↦ subst (λ (j : ℕ). Holds p m of (peek (stored f.locals n x.t) j) (slice_get (slice_set ls n x.v) j)) z.1
              (subst (λ (t : VType). Holds p m of t (slice_get (slice_set ls n x.v) n)) (sym (stored_here x.t f.locals n)) (subst (λ (o : Option Value). Holds p m of x.t o) (sym (set_there ls n y x.v e)) (holds_of x.t x.v x.typed)))
          | inr z ↦ subst (λ (o : Option Value). Holds p m of (peek (stored f.locals n x.t) k) o) (sym (set_other ls n k x.v (λ q. z.1 (sym q)))) (elsewhere k l z.1 (only k z.1) (stored_other x.t f.locals n k (λ q. z.1 (sym q))))
        ]
          where
            elsewhere : (k : ℕ) → live next k ≡ true → n ≢ k → IsTop (peek (stored f.locals n x.t) k) ⊎ (writes i k ≡ false) → Otherwise f.locals (peek (stored f.locals n x.t) k) k → Holds p m of (peek (stored f.locals n x.t) k) (slice_get ls k)
            elsewhere k l n (inl t) d = subst (λ (t : VType). Holds p m of t (slice_get ls k)) (sym t) tt
            elsewhere k l n (inr w) (BecameTop e) = subst (λ (t : VType). Holds p m of t (slice_get ls k)) (sym e) tt
            elsewhere k l n (inr w) (Same e) = subst (λ (t : VType). Holds p m of t (slice_get ls k)) (sym e) (b.locals.slots k (b.wants.flow next k on l w))
