-- What instructions do in one frame, seen from one mailbox: numbers, jumps, words of the stack, locals, arrays, returns.
use Rattle.std.proofs.Common.{◌≡◌, inl, inr, ℕ, zero, suc, ◌+◌, ℤ, pos, negsuc, Bool, true, false, cond, List, [], ◌∷◌, ◌++◌, length, drop, Option, Some, None, Result, Ok, Err, refl, sym, ap, subst, ◌∙◌}
use Rattle.std.specs.Prelude.{◌&&◌, ◌-◌, not, nat_le, nat_lt, slice_get, slice_set}
use Rattle.std.specs.FinMap.{insert}
use Rattle.std.specs.Ordering.{int_eq}
use Rattle.std.proofs.lemmas.Bool.{and_parts}
use Rattle.std.proofs.lemmas.Bool.Decides.{eqb_tells}
use Rattle.kilim_run_state.specs.declared.cause.EndCause.TheVariants as cause
use Rattle.kilim_program.specs.declared.class.Method.{Method}
use Rattle.kilim_program.specs.declared.names.BoxName.{BoxName}
use Rattle.kilim_program.specs.declared.ty.Base.{Base}
use Rattle.kilim_program.specs.declared.ty.Ty.{Ty}
use Rattle.kilim_program.specs.declared.value.Value.{Value}
use Rattle.kilim_program.specs.declared.value.Value.TheVariants as value
use Rattle.kilim_program.specs.declared.verified.VType.{VType}
use Rattle.kilim_program.specs.declared.verified.VType.TheVariants.{Top, Int, Long, Null, Object}
use Rattle.kilim_program.specs.Program.{Program}
use Rattle.kilim_program.specs.Same.{is_constructor}
use Rattle.kilim_run_state.specs.declared.value.Object.{Object as HeapObject}
use Rattle.kilim_run_state.specs.Machine.{Objects}
use Rattle.kilim_run_state.specs.Objects.{new_array}
use Rattle.kilim_run_machine.specs.Does.{array_limit, bit, cast_fits, compare_jump, element_type, int_binary, int_division, int_jump, int_length, int_unary, is_instance, is_null, loads_int, long_binary, long_division, long_shift, makes_array, narrowed_result, null_jump, place_if, reference_jump, same_reference, with_element}
use Rattle.kilim_run_machine.specs.Effect.{Effect, Ends, Goes, Makes, Raises, Returns, Stuck, as_class, as_int, as_long, at_index, on_int, on_long, on_object, on_reference, on_two_longs, on_two_words, on_value, on_word, with_some}
use Rattle.kilim_type_spec.specs.Step.{Types, Operand, Is, AReference, Initialized, ArrayOf, References, AnArray, Adds, Element, Form, Copies, Drops, Swaps, Further, Leaves, Loads, Shuffles, Stores, Takes, all_meet, by_row, element, form_room, form_words, further, gives_int, gives_long, has_operands, has_room, ints, is_top, is_unset, longs, meets, object_type, off, peek, pushed, returns_object, rule, shuffled, size, store, stored, then_off, vtype, vtype_of_class, with_element as typed_element, with_stack, words}
use Rattle.kilim_type_sound.proofs.Basics.{Furthers, furthers, ok_is, okay, passed, takes_inverse}
use Rattle.kilim_type_sound.proofs.Slots.{BecameTop, Otherwise, Same, set_other, set_there, stored_here, stored_other}
use Rattle.kilim_type_sound.proofs.Steps.{vtype_set}
use Rattle.kilim_new_bounds.proofs.Slots.{HeapSo, LocalsSo, Mode, Away, Raw, Known, ObjectSo, SlotSo, StackSo, get_so, good, good_slot, insert_so, is_box, same_so, set_so, slot_good, slot_so, value_so}
use Rattle.kilim_new_bounds.proofs.Effects.{EffectSo, FrameSo, TakenSo, class_is, index_is, int_is, int_took, long_is, long_took, object_took, plain, reference_is, reference_took, some_is, taken_so, two_ints, two_longs, value_took}
use Rattle.kilim_new_bounds.proofs.Pairs.{Paired, both_paired, unpaired, word_off, words_off}

-- what is no mailbox is good, and may stand in a slot of an initialized type
pub other_good : (m : Mode) → good m false ≡ true
other_good Away = refl
other_good (Raw at) = refl
other_good Known = refl

pub other_value : (b : BoxName) (m : Mode) (v : Value) → is_box b v ≡ false → value_so b m v ≡ true
other_value b m v e = ap (good m) e ∙ other_good m

pub other_slot : (b : BoxName) (m : Mode) (t : VType) (v : Value) → is_unset t ≡ false → is_box b v ≡ false → slot_so b m t v ≡ true
other_slot b m t v u e = good_slot b m t v u (other_value b m v e)

module _ (p : Program) (b : BoxName) (m : Mode) (own : Method) (at : ℕ) (f g : Types) (ls vs : List Value) (h : Objects) (frame : FrameSo b m f ls vs) (pairs : Paired b m f.stack vs) (heap : HeapSo b m h) where
  abbrev pub After : Effect → Type 0
  After e = EffectSo p b m at g e

  -- the same, where the stack gets these types, and the locals stay
  abbrev pub At : List VType → Effect → Type 0
  At s e = EffectSo p b m at (record f { stack = s }) e

  pub going : (place : ℕ) (s : List VType) (ws : List Value) → StackSo b m s ws → At s (Goes place ls ws h)
  going place s ws e = (inl (record { locals = frame.locals; stack = e }), heap)

  pub writing : (place : ℕ) (s : List VType) (ws : List Value) → StackSo b m s ws → (n : ℕ) (o : HeapObject) → ObjectSo b m o → At s (Goes place ls ws (insert h n o))
  writing place s ws e n o fit = (inl (record { locals = frame.locals; stack = e }), insert_so b m h n o heap fit)

  pub by_takes : (takes : List Operand) (gives : List VType) (also : List Further) → by_row p own at (Takes takes gives also) f ≡ Ok g → (e : Effect) → (Furthers p also f.stack → (ts : List VType) → TakenSo b m takes ts vs → At (gives ++ ts) e) → After e
  by_takes takes gives also r e k =
      let inv = takes_inverse p own at takes gives also f g r in
      subst (λ (z : Types). EffectSo p b m at z e) inv.after (k inv.also_hold (drop (length takes) f.stack) (taken_so p b m takes f.stack vs inv.meet frame.stack))

  pub int_slot : (x : ℤ) → slot_so b m Int (value.Int x) ≡ true
  int_slot x = other_slot b m Int (value.Int x) refl refl

  pub long_slot : (x : ℤ) → slot_so b m Long (value.Long x) ≡ true
  long_slot x = other_slot b m Long (value.Long x) refl refl

  -- ---- numbers

  pub push : (next : ℕ) (t : VType) (v : Value) → is_unset t ≡ false → is_box b v ≡ false → by_row p own at (Takes [] (t ∷ []) []) f ≡ Ok g → After (Goes next ls (v ∷ vs) h)
  push next t v u e r = by_takes [] (t ∷ []) [] r (Goes next ls (v ∷ vs) h) (λ a ts k. going next (t ∷ ts) (v ∷ vs) (other_slot b m t v u e, k))

  pub nop : (next : ℕ) → by_row p own at (Takes [] [] []) f ≡ Ok g → After (Goes next ls vs h)
  nop next r = by_takes [] [] [] r (Goes next ls vs h) (λ a ts k. going next ts vs k)

  pub ints_row : (next : ℕ) (op : ℤ → ℤ → ℤ) → by_row p own at (gives_int ints) f ≡ Ok g → After (int_binary op next ls vs h)
  ints_row next op r = by_takes ints (Int ∷ []) [] r _ (λ a ts k. two_ints p b m h (At (Int ∷ ts)) tt (λ c. tt) (Is Int) (Is Int) [] ts vs k _ (λ x y rest t. going next (Int ∷ ts) (value.Int (op x y) ∷ rest) (int_slot (op x y), t)))

  pub division_row : (next : ℕ) (op : ℤ → ℤ → ℤ) → by_row p own at (gives_int ints) f ≡ Ok g → After (int_division op next ls vs h)
  division_row next op r = by_takes ints (Int ∷ []) [] r _ (λ a ts k. two_ints p b m h (At (Int ∷ ts)) tt (λ c. tt) (Is Int) (Is Int) [] ts vs k _
      (λ x y rest t. elim (int_eq y (pos 0)) as (λ (z : Bool). At (Int ∷ ts) (cond z (Raises cause.Zero) (Goes next ls (value.Int (op x y) ∷ rest) h))) [ true ↦ tt | false ↦ going next (Int ∷ ts) (value.Int (op x y) ∷ rest) (int_slot (op x y), t) ]))

  pub int_row : (next : ℕ) (op : ℤ → ℤ) → by_row p own at (gives_int (Is Int ∷ [])) f ≡ Ok g → After (int_unary op next ls vs h)
  int_row next op r = by_takes (Is Int ∷ []) (Int ∷ []) [] r _ (λ a ts k. int_took p b m h (At (Int ∷ ts)) tt (λ c. tt) (Is Int) [] ts vs k _ (λ x rest t. going next (Int ∷ ts) (value.Int (op x) ∷ rest) (int_slot (op x), t)))

  pub to_long_row : (next : ℕ) (op : ℤ → ℤ) → by_row p own at (gives_long (Is Int ∷ [])) f ≡ Ok g → After (on_int vs (λ a rest. Goes next ls (value.Long (op a) ∷ rest) h))
  to_long_row next op r = by_takes (Is Int ∷ []) (Long ∷ []) [] r _ (λ a ts k. int_took p b m h (At (Long ∷ ts)) tt (λ c. tt) (Is Int) [] ts vs k _ (λ x rest t. going next (Long ∷ ts) (value.Long (op x) ∷ rest) (long_slot (op x), t)))

  pub to_int_row : (next : ℕ) (op : ℤ → ℤ) → by_row p own at (gives_int (Is Long ∷ [])) f ≡ Ok g → After (on_long vs (λ a rest. Goes next ls (value.Int (op a) ∷ rest) h))
  to_int_row next op r = by_takes (Is Long ∷ []) (Int ∷ []) [] r _ (λ a ts k. long_took p b m h (At (Int ∷ ts)) tt (λ c. tt) (Is Long) [] ts vs k _ (λ x rest t. going next (Int ∷ ts) (value.Int (op x) ∷ rest) (int_slot (op x), t)))

  pub long_row : (next : ℕ) (op : ℤ → ℤ) → by_row p own at (gives_long (Is Long ∷ [])) f ≡ Ok g → After (on_long vs (λ a rest. Goes next ls (value.Long (op a) ∷ rest) h))
  long_row next op r = by_takes (Is Long ∷ []) (Long ∷ []) [] r _ (λ a ts k. long_took p b m h (At (Long ∷ ts)) tt (λ c. tt) (Is Long) [] ts vs k _ (λ x rest t. going next (Long ∷ ts) (value.Long (op x) ∷ rest) (long_slot (op x), t)))

  pub longs_row : (next : ℕ) (op : ℤ → ℤ → ℤ) → by_row p own at (gives_long longs) f ≡ Ok g → After (long_binary op next ls vs h)
  longs_row next op r = by_takes longs (Long ∷ []) [] r _ (λ a ts k. two_longs p b m h (At (Long ∷ ts)) tt (λ c. tt) (Is Long) (Is Long) [] ts vs k _ (λ x y rest t. going next (Long ∷ ts) (value.Long (op x y) ∷ rest) (long_slot (op x y), t)))

  pub long_division_row : (next : ℕ) (op : ℤ → ℤ → ℤ) → by_row p own at (gives_long longs) f ≡ Ok g → After (long_division op next ls vs h)
  long_division_row next op r = by_takes longs (Long ∷ []) [] r _ (λ a ts k. two_longs p b m h (At (Long ∷ ts)) tt (λ c. tt) (Is Long) (Is Long) [] ts vs k _
      (λ x y rest t. elim (int_eq y (pos 0)) as (λ (z : Bool). At (Long ∷ ts) (cond z (Raises cause.Zero) (Goes next ls (value.Long (op x y) ∷ rest) h))) [ true ↦ tt | false ↦ going next (Long ∷ ts) (value.Long (op x y) ∷ rest) (long_slot (op x y), t) ]))

  pub compare_row : (next : ℕ) (op : ℤ → ℤ → ℤ) → by_row p own at (gives_int longs) f ≡ Ok g → After (on_two_longs vs (λ a b rest. Goes next ls (value.Int (op a b) ∷ rest) h))
  compare_row next op r = by_takes longs (Int ∷ []) [] r _ (λ a ts k. two_longs p b m h (At (Int ∷ ts)) tt (λ c. tt) (Is Long) (Is Long) [] ts vs k _ (λ x y rest t. going next (Int ∷ ts) (value.Int (op x y) ∷ rest) (int_slot (op x y), t)))

  pub shift_row : (next : ℕ) (op : ℤ → ℤ → ℤ) → by_row p own at (gives_long (Is Int ∷ Is Long ∷ [])) f ≡ Ok g → After (long_shift op next ls vs h)
  shift_row next op r = by_takes (Is Int ∷ Is Long ∷ []) (Long ∷ []) [] r _ (λ a ts k. int_took p b m h (At (Long ∷ ts)) tt (λ c. tt) (Is Int) (Is Long ∷ []) ts vs k _
      (λ x below t. long_took p b m h (At (Long ∷ ts)) tt (λ c. tt) (Is Long) [] ts below t _ (λ y rest u. going next (Long ∷ ts) (value.Long (op y x) ∷ rest) (long_slot (op y x), u))))

  -- ---- jumps

  pub jump_row : (next to : ℕ) (test : ℤ → Bool) → by_row p own at (Takes (Is Int ∷ []) [] []) f ≡ Ok g → After (int_jump test to next ls vs h)
  jump_row next to test r = by_takes (Is Int ∷ []) [] [] r _ (λ a ts k. int_took p b m h (At ts) tt (λ c. tt) (Is Int) [] ts vs k _ (λ x rest t. going (place_if (test x) to next) ts rest t))

  pub compare_jump_row : (next to : ℕ) (test : ℤ → ℤ → Bool) → by_row p own at (Takes ints [] []) f ≡ Ok g → After (compare_jump test to next ls vs h)
  compare_jump_row next to test r = by_takes ints [] [] r _ (λ a ts k. two_ints p b m h (At ts) tt (λ c. tt) (Is Int) (Is Int) [] ts vs k _ (λ x y rest t. going (place_if (test x y) to next) ts rest t))

  pub reference_jump_row : (next to : ℕ) (test : Bool → Bool) (also : List Further) → by_row p own at (Takes (AReference ∷ AReference ∷ []) [] also) f ≡ Ok g → After (reference_jump test to next ls vs h)
  reference_jump_row next to test also r = by_takes (AReference ∷ AReference ∷ []) [] also r _ (λ a ts k. reference_took p b m h (At ts) tt (λ c. tt) AReference (AReference ∷ []) ts vs k _
      (λ y hy below t. reference_took p b m h (At ts) tt (λ c. tt) AReference [] ts below t _ (λ x hx rest u. going (place_if (test (same_reference x y)) to next) ts rest u)))

  pub null_jump_row : (next to : ℕ) (test : Bool → Bool) (also : List Further) → by_row p own at (Takes (AReference ∷ []) [] also) f ≡ Ok g → After (null_jump test to next ls vs h)
  null_jump_row next to test also r = by_takes (AReference ∷ []) [] also r _ (λ a ts k. reference_took p b m h (At ts) tt (λ c. tt) AReference [] ts vs k _ (λ x hx rest t. going (place_if (test (is_null x)) to next) ts rest t))

  pub switch_row : (target : ℤ → ℕ) → by_row p own at (Takes (Is Int ∷ []) [] []) f ≡ Ok g → After (on_int vs (λ a rest. Goes (target a) ls rest h))
  switch_row target r = by_takes (Is Int ∷ []) [] [] r _ (λ a ts k. int_took p b m h (At ts) tt (λ c. tt) (Is Int) [] ts vs k _ (λ x rest t. going (target x) ts rest t))

  -- ---- words of the stack

  record Shuffled (form : Form) : Type 0 where
    s : List VType
    is : shuffled form f.stack ≡ Ok s
    after : record f { stack = s } ≡ g

  shuffle_of : (r : Result (List VType) ℕ) (form : Form) → shuffled form f.stack ≡ r → with_stack f r ≡ Ok g → Shuffled form
  shuffle_of (Err n) form e d = absurd (cc)
  shuffle_of (Ok s) form e d = record { s = s; is = e; after = ok_is (record f { stack = s }) g d }

  shuffle : (form : Form) → by_row p own at (Shuffles form) f ≡ Ok g → Shuffled form
  shuffle form r = shuffle_of (shuffled form f.stack) form refl (passed 4 (form_room own form (words f.stack)) _ g (passed 3 (nat_le (form_words form) (words f.stack)) _ g r).1).1

  by_shuffle : (form : Form) → by_row p own at (Shuffles form) f ≡ Ok g → (e : Effect) → ((s : List VType) → shuffled form f.stack ≡ Ok s → At s e) → After e
  by_shuffle form r e k = let x = shuffle form r in subst (λ (z : Types). EffectSo p b m at z e) x.after (k x.s x.is)

  end : (next : ℕ) (s u : List VType) (ws : List Value) → okay u ≡ okay s → Paired b m u ws → At s (Goes next ls ws h)
  end next s u ws e d = going next s ws (unpaired b m s ws (subst (λ (z : List VType). Paired b m z ws) (ok_is u s e) d))

  both : (a c : List VType) (xs ys : List Value) → Paired b m a xs → Paired b m c ys → Paired b m (a ++ c) (xs ++ ys)
  both a c xs ys e d = both_paired b m a c xs ys e d

  module _ (next : ℕ) where
    pub pop_row : by_row p own at (Shuffles (Drops 1)) f ≡ Ok g → After (on_word vs (λ v rest. Goes next ls rest h))
    pop_row r = by_shuffle (Drops 1) r _ (λ s e. word_off b m (At s) s f.stack vs pairs (λ a rest. Ok rest) (λ v rest. Goes next ls rest h) e (λ t v d us ws k q. end next s us ws q k))

    pub pop2_row : by_row p own at (Shuffles (Drops 2)) f ≡ Ok g → After (on_two_words vs (λ v rest. Goes next ls rest h))
    pop2_row r = by_shuffle (Drops 2) r _ (λ s e. words_off b m (At s) s f.stack vs pairs (λ a rest. Ok rest) (λ v rest. Goes next ls rest h) e (λ a xs d us ws k q. end next s us ws q k))

    pub dup_row : by_row p own at (Shuffles (Copies 1 0)) f ≡ Ok g → After (on_word vs (λ v rest. Goes next ls (v ∷ v ∷ rest) h))
    dup_row r = by_shuffle (Copies 1 0) r _ (λ s e. word_off b m (At s) s f.stack vs pairs (λ a below. then_off (off 0 below) (λ b rest. Ok (a ++ (b ++ (a ++ rest))))) (λ v rest. Goes next ls (v ∷ v ∷ rest) h) e (λ t v d us ws k q. end next s (t ∷ t ∷ us) (v ∷ v ∷ ws) q (d, (d, k))))

    pub dup_x1_row : by_row p own at (Shuffles (Copies 1 1)) f ≡ Ok g → After (on_word vs (λ v below. on_word below (λ w rest. Goes next ls (v ∷ w ∷ v ∷ rest) h)))
    dup_x1_row r = by_shuffle (Copies 1 1) r _ (λ s e. word_off b m (At s) s f.stack vs pairs (λ a below. then_off (off 1 below) (λ b rest. Ok (a ++ (b ++ (a ++ rest))))) (λ v below. on_word below (λ w rest. Goes next ls (v ∷ w ∷ v ∷ rest) h)) e
        (λ t v d us ws k q. word_off b m (At s) s us ws k (λ b rest. Ok ((t ∷ []) ++ (b ++ ((t ∷ []) ++ rest)))) (λ w rest. Goes next ls (v ∷ w ∷ v ∷ rest) h) q (λ u x d2 us2 ws2 k2 q2. end next s (t ∷ u ∷ t ∷ us2) (v ∷ x ∷ v ∷ ws2) q2 (d, (d2, (d, k2))))))

    pub dup_x2_row : by_row p own at (Shuffles (Copies 1 2)) f ≡ Ok g → After (on_word vs (λ v below. on_two_words below (λ ws rest. Goes next ls (v ∷ (ws ++ v ∷ rest)) h)))
    dup_x2_row r = by_shuffle (Copies 1 2) r _ (λ s e. word_off b m (At s) s f.stack vs pairs (λ a below. then_off (off 2 below) (λ b rest. Ok (a ++ (b ++ (a ++ rest))))) (λ v below. on_two_words below (λ ws rest. Goes next ls (v ∷ (ws ++ v ∷ rest)) h)) e
        (λ t v d us ws k q. words_off b m (At s) s us ws k (λ b rest. Ok ((t ∷ []) ++ (b ++ ((t ∷ []) ++ rest)))) (λ ws rest. Goes next ls (v ∷ (ws ++ v ∷ rest)) h) q (λ a xs d2 us2 ws2 k2 q2. end next s (t ∷ (a ++ (t ∷ us2))) (v ∷ (xs ++ v ∷ ws2)) q2 (d, both a (t ∷ us2) xs (v ∷ ws2) d2 (d, k2)))))

    pub dup2_row : by_row p own at (Shuffles (Copies 2 0)) f ≡ Ok g → After (on_two_words vs (λ vs rest. Goes next ls (vs ++ (vs ++ rest)) h))
    dup2_row r = by_shuffle (Copies 2 0) r _ (λ s e. words_off b m (At s) s f.stack vs pairs (λ a below. then_off (off 0 below) (λ b rest. Ok (a ++ (b ++ (a ++ rest))))) (λ vs rest. Goes next ls (vs ++ (vs ++ rest)) h) e (λ a xs d us ws k q. end next s (a ++ (a ++ us)) (xs ++ (xs ++ ws)) q (both a (a ++ us) xs (xs ++ ws) d (both a us xs ws d k))))

    pub dup2_x1_row : by_row p own at (Shuffles (Copies 2 1)) f ≡ Ok g → After (on_two_words vs (λ vs below. on_word below (λ w rest. Goes next ls (vs ++ w ∷ (vs ++ rest)) h)))
    dup2_x1_row r = by_shuffle (Copies 2 1) r _ (λ s e. words_off b m (At s) s f.stack vs pairs (λ a below. then_off (off 1 below) (λ b rest. Ok (a ++ (b ++ (a ++ rest))))) (λ vs below. on_word below (λ w rest. Goes next ls (vs ++ w ∷ (vs ++ rest)) h)) e
        (λ a xs d us ws k q. word_off b m (At s) s us ws k (λ b rest. Ok (a ++ (b ++ (a ++ rest)))) (λ w rest. Goes next ls (xs ++ w ∷ (xs ++ rest)) h) q (λ u x d2 us2 ws2 k2 q2. end next s (a ++ (u ∷ (a ++ us2))) (xs ++ x ∷ (xs ++ ws2)) q2 (both a (u ∷ (a ++ us2)) xs (x ∷ (xs ++ ws2)) d (d2, both a us2 xs ws2 d k2)))))

    pub dup2_x2_row : by_row p own at (Shuffles (Copies 2 2)) f ≡ Ok g → After (on_two_words vs (λ vs below. on_two_words below (λ ws rest. Goes next ls (vs ++ (ws ++ (vs ++ rest))) h)))
    dup2_x2_row r = by_shuffle (Copies 2 2) r _ (λ s e. words_off b m (At s) s f.stack vs pairs (λ a below. then_off (off 2 below) (λ b rest. Ok (a ++ (b ++ (a ++ rest))))) (λ vs below. on_two_words below (λ ws rest. Goes next ls (vs ++ (ws ++ (vs ++ rest))) h)) e
        (λ a xs d us ws k q. words_off b m (At s) s us ws k (λ b rest. Ok (a ++ (b ++ (a ++ rest)))) (λ ys rest. Goes next ls (xs ++ (ys ++ (xs ++ rest))) h) q (λ c ys d2 us2 ws2 k2 q2. end next s (a ++ (c ++ (a ++ us2))) (xs ++ (ys ++ (xs ++ ws2))) q2 (both a (c ++ (a ++ us2)) xs (ys ++ (xs ++ ws2)) d (both c (a ++ us2) ys (xs ++ ws2) d2 (both a us2 xs ws2 d k2))))))

    pub swap_row : by_row p own at (Shuffles Swaps) f ≡ Ok g → After (on_word vs (λ v below. on_word below (λ w rest. Goes next ls (w ∷ v ∷ rest) h)))
    swap_row r = by_shuffle Swaps r _ (λ s e. word_off b m (At s) s f.stack vs pairs (λ a below. then_off (off 1 below) (λ b rest. Ok (b ++ (a ++ rest)))) (λ v below. on_word below (λ w rest. Goes next ls (w ∷ v ∷ rest) h)) e
        (λ t v d us ws k q. word_off b m (At s) s us ws k (λ b rest. Ok (b ++ ((t ∷ []) ++ rest))) (λ w rest. Goes next ls (w ∷ v ∷ rest) h) q (λ u x d2 us2 ws2 k2 q2. end next s (u ∷ t ∷ us2) (x ∷ v ∷ ws2) q2 (d2, (d, k2)))))

  -- ---- locals

  loaded_is : (o : Operand) (n : ℕ) → by_row p own at (Loads o n) f ≡ Ok g → record f { stack = peek f.locals n ∷ f.stack } ≡ g
  loaded_is o n r =
      let go : Types = record f { stack = peek f.locals n ∷ f.stack } in
      let a = passed 4 (has_room own (pushed o ∷ f.stack)) _ g r in
      ok_is go g (passed 6 (nat_lt n own.max_locals && meets p o (peek f.locals n)) (Ok go) g a.1).1

  -- what is in a local goes on the stack, by its type
  pub load_row : (next : ℕ) (o : Operand) (n : ℕ) (go : Value → Effect) → ((S : Effect → Type 0) → S Stuck → (v : Value) → (slice_get ls n ≡ Some v) → S (Goes next ls (v ∷ vs) h) → S (go v)) → by_row p own at (Loads o n) f ≡ Ok g → After (with_some (slice_get ls n) go)
  load_row next o n go k r = subst (λ (z : Types). EffectSo p b m at z (with_some (slice_get ls n) go)) (loaded_is o n r)
      (some_is p b m h (At (peek f.locals n ∷ f.stack)) tt (λ c. tt) (slice_get ls n) go (λ v e. k (At (peek f.locals n ∷ f.stack)) tt v e (going next (peek f.locals n ∷ f.stack) (v ∷ vs) (subst (λ (x : Option Value). SlotSo b m (peek f.locals n) x) e (frame.locals n), frame.stack))))

  record Store (o : Operand) (n : ℕ) (ts : List VType) (ws : List Value) : Type 0 where
    t : VType
    s : List VType
    v : Value
    rest : List Value
    vs_is : ws ≡ v ∷ rest
    slot : slot_so b m t v ≡ true
    others : StackSo b m s rest
    after : record f { locals = stored f.locals n t; stack = s } ≡ g

  stores_of : (o : Operand) (n : ℕ) (ts : List VType) (ws : List Value) → StackSo b m ts ws → store p own o n ts f ≡ Ok g → Store o n ts ws
  stores_of o n [] ws s r = absurd (cc)
  stores_of o n (t ∷ s) [] d r = absurd d
  stores_of o n (t ∷ s) (v ∷ rest) d r =
      let go : Types = record f { locals = stored f.locals n t; stack = s } in
      let a = passed 5 (meets p o t) (rule 6 (nat_le (n + size t) own.max_locals) (Ok go)) g r in
      record { t = t; s = s; v = v; rest = rest; vs_is = refl; slot = d.0; others = d.1; after = ok_is go g (passed 6 (nat_le (n + size t) own.max_locals) (Ok go) g a.1).1 }

  set_locals : (n : ℕ) (t : VType) (v : Value) → slot_so b m t v ≡ true → LocalsSo b m (stored f.locals n t) (slice_set ls n v)
  set_locals n t v e k = elim (eqb_tells n k) [
    | inl z ↦ subst (λ (j : ℕ). SlotSo b m (peek (stored f.locals n t) j) (slice_get (slice_set ls n v) j)) z.1 (subst (λ (u : VType). SlotSo b m u (slice_get (slice_set ls n v) n)) (sym (stored_here t f.locals n)) (here (slice_get ls n) refl))
    | inr z ↦ subst (λ (o : Option Value). SlotSo b m (peek (stored f.locals n t) k) o) (sym (set_other ls n k v (λ q. z.1 (sym q)))) (elsewhere (stored_other t f.locals n k (λ q. z.1 (sym q))))
  ]
    where
      none_set : (xs : List Value) (j : ℕ) → slice_get xs j ≡ None → slice_get (slice_set xs j v) j ≡ None
      none_set [] j e = e
      none_set (x ∷ xs) zero e = absurd (cc)
      none_set (x ∷ xs) (suc j) e = none_set xs j e

      here : (o : Option Value) → slice_get ls n ≡ o → SlotSo b m t (slice_get (slice_set ls n v) n)
      here None d = subst (λ (o : Option Value). SlotSo b m t o) (sym (none_set ls n d)) tt
      here (Some y) d = subst (λ (o : Option Value). SlotSo b m t o) (sym (set_there ls n y v d)) e

      top : (o : Option Value) → SlotSo b m Top o
      top None = tt
      top (Some y) = refl

      elsewhere : Otherwise f.locals (peek (stored f.locals n t) k) k → SlotSo b m (peek (stored f.locals n t) k) (slice_get ls k)
      elsewhere (BecameTop d) = subst (λ (u : VType). SlotSo b m u (slice_get ls k)) (sym d) (top (slice_get ls k))
      elsewhere (Same d) = subst (λ (u : VType). SlotSo b m u (slice_get ls k)) (sym d) (frame.locals k)

  -- what is on the stack goes into a local, by its type
  pub store_row : (next : ℕ) (o : Operand) (n : ℕ) (go : List Value → Effect) → ((S : Effect → Type 0) → S Stuck → (v : Value) (rest : List Value) → S (with_some (slice_get ls n) (λ _. Goes next (slice_set ls n v) rest h)) → S (go (v ∷ rest))) → by_row p own at (Stores o n) f ≡ Ok g → After (go vs)
  store_row next o n go k r =
      let x = stores_of o n f.stack vs frame.stack r in
      subst (λ (ws : List Value). After (go ws)) (sym x.vs_is)
      (subst (λ (z : Types). EffectSo p b m at z (go (x.v ∷ x.rest))) x.after
      (k (EffectSo p b m at (record f { locals = stored f.locals n x.t; stack = x.s })) tt x.v x.rest
      (some_is p b m h (EffectSo p b m at (record f { locals = stored f.locals n x.t; stack = x.s })) tt (λ c. tt) (slice_get ls n) (λ _. Goes next (slice_set ls n x.v) x.rest h) (λ y e.
      (inl (record { locals = set_locals n x.t x.v x.slot; stack = x.others }), heap)))))

  met_int : (t : VType) → meets p (Is Int) t ≡ true → t ≡ Int
  unfolding meets
  met_int Int e = refl
  met_int t e = absurd (cc)

  pub add_row : (next n : ℕ) (op : ℤ → ℤ) → by_row p own at (Adds n) f ≡ Ok g → After (with_some (slice_get ls n) (λ v. as_int v (λ x. Goes next (slice_set ls n (value.Int (op x))) vs h)))
  add_row next n op r =
      let c = passed 6 (nat_lt n own.max_locals && meets p (Is Int) (peek f.locals n)) (Ok f) g r in
      let is = met_int (peek f.locals n) (and_parts (nat_lt n own.max_locals) (meets p (Is Int) (peek f.locals n)) c.0).1 in
      subst (λ (z : Types). EffectSo p b m at z (with_some (slice_get ls n) (λ v. as_int v (λ x. Goes next (slice_set ls n (value.Int (op x))) vs h)))) (ok_is f g c.1)
      (some_is p b m h (EffectSo p b m at f) tt (λ c. tt) (slice_get ls n) _ (λ v e. int_is p b m h (EffectSo p b m at f) tt (λ c. tt) v _ (λ x d. (inl (record { locals = slots is v (op x) e; stack = frame.stack }), heap))))
    where
      slots : peek f.locals n ≡ Int → (v : Value) (x : ℤ) → slice_get ls n ≡ Some v → LocalsSo b m f.locals (slice_set ls n (value.Int x))
      slots is v x e k = elim (eqb_tells n k) [
        | inl z ↦ subst (λ (j : ℕ). SlotSo b m (peek f.locals j) (slice_get (slice_set ls n (value.Int x)) j)) z.1
            (subst (λ (t : VType). SlotSo b m t (slice_get (slice_set ls n (value.Int x)) n)) (sym is) (subst (λ (o : Option Value). SlotSo b m Int o) (sym (set_there ls n v (value.Int x) e)) (int_slot x)))
        | inr z ↦ subst (λ (o : Option Value). SlotSo b m (peek f.locals k) o) (sym (set_other ls n k (value.Int x) (λ q. z.1 (sym q)))) (frame.locals k)
      ]

  -- ---- arrays

  with_value : (o : HeapObject) (k : ℕ) (v : Value) → ObjectSo b m o → value_so b m v ≡ true → ObjectSo b m (with_element o k v)
  with_value o k v fit e = (fit.0, set_so b m o.elements k v fit.1 e)

  pub load_ints : (next : ℕ) (bases : List Base) → by_row p own at (gives_int (Is Int ∷ ArrayOf bases ∷ [])) f ≡ Ok g → After (loads_int next ls vs h)
  load_ints next bases r = by_takes (Is Int ∷ ArrayOf bases ∷ []) (Int ∷ []) [] r _ (λ a ts k.
      int_took p b m h (At (Int ∷ ts)) tt (λ c. tt) (Is Int) (ArrayOf bases ∷ []) ts vs k _ (λ x below t.
      object_took p b m h (At (Int ∷ ts)) tt (λ c. tt) (ArrayOf bases) [] ts below t _ (λ n o there rest u.
      index_is p b m h (At (Int ∷ ts)) tt (λ c. tt) o.elements x _ (λ j v e.
      int_is p b m h (At (Int ∷ ts)) tt (λ c. tt) v _ (λ y d. going next (Int ∷ ts) (value.Int y ∷ rest) (int_slot y, u))))))

  pub load_longs : (next : ℕ) (bases : List Base) → by_row p own at (gives_long (Is Int ∷ ArrayOf bases ∷ [])) f ≡ Ok g → After (on_int vs (λ i below. on_object below h (λ n o rest. at_index o.elements i (λ k v. as_long v (λ x. Goes next ls (value.Long x ∷ rest) h)))))
  load_longs next bases r = by_takes (Is Int ∷ ArrayOf bases ∷ []) (Long ∷ []) [] r _ (λ a ts k.
      int_took p b m h (At (Long ∷ ts)) tt (λ c. tt) (Is Int) (ArrayOf bases ∷ []) ts vs k _ (λ x below t.
      object_took p b m h (At (Long ∷ ts)) tt (λ c. tt) (ArrayOf bases) [] ts below t _ (λ n o there rest u.
      index_is p b m h (At (Long ∷ ts)) tt (λ c. tt) o.elements x _ (λ j v e.
      long_is p b m h (At (Long ∷ ts)) tt (λ c. tt) v _ (λ y d. going next (Long ∷ ts) (value.Long y ∷ rest) (long_slot y, u))))))

  pub store_ints : (next : ℕ) (bases : List Base) (to : Base → ℤ → ℤ) → by_row p own at (Takes (Is Int ∷ Is Int ∷ ArrayOf bases ∷ []) [] []) f ≡ Ok g →
      After (on_int vs (λ x above. on_int above (λ i below. on_object below h (λ n o rest. at_index o.elements i (λ k old. Goes next ls rest (insert h n (with_element o k (value.Int (to o.class.base x)))))))))
  store_ints next bases to r = by_takes (Is Int ∷ Is Int ∷ ArrayOf bases ∷ []) [] [] r _ (λ a ts k.
      int_took p b m h (At ts) tt (λ c. tt) (Is Int) (Is Int ∷ ArrayOf bases ∷ []) ts vs k _ (λ y above t.
      int_took p b m h (At ts) tt (λ c. tt) (Is Int) (ArrayOf bases ∷ []) ts above t _ (λ x below u.
      object_took p b m h (At ts) tt (λ c. tt) (ArrayOf bases) [] ts below u _ (λ n o there rest q.
      index_is p b m h (At ts) tt (λ c. tt) o.elements x _ (λ j v e.
      writing next ts rest q n (with_element o j (value.Int (to o.class.base y))) (with_value o j _ (heap n o there) (other_value b m (value.Int (to o.class.base y)) refl)))))))

  pub store_longs : (next : ℕ) (bases : List Base) → by_row p own at (Takes (Is Long ∷ Is Int ∷ ArrayOf bases ∷ []) [] []) f ≡ Ok g →
      After (on_long vs (λ x above. on_int above (λ i below. on_object below h (λ n o rest. at_index o.elements i (λ k old. Goes next ls rest (insert h n (with_element o k (value.Long x))))))))
  store_longs next bases r = by_takes (Is Long ∷ Is Int ∷ ArrayOf bases ∷ []) [] [] r _ (λ a ts k.
      long_took p b m h (At ts) tt (λ c. tt) (Is Long) (Is Int ∷ ArrayOf bases ∷ []) ts vs k _ (λ y above t.
      int_took p b m h (At ts) tt (λ c. tt) (Is Int) (ArrayOf bases ∷ []) ts above t _ (λ x below u.
      object_took p b m h (At ts) tt (λ c. tt) (ArrayOf bases) [] ts below u _ (λ n o there rest q.
      index_is p b m h (At ts) tt (λ c. tt) o.elements x _ (λ j v e.
      writing next ts rest q n (with_element o j (value.Long y)) (with_value o j _ (heap n o there) (other_value b m (value.Long y) refl)))))))

  object_plain : plain (Is (object_type p)) ≡ true
  object_plain = by _
    where
      by : (o : Option _) → plain (Is (vtype_of_class o)) ≡ true
      by None = refl
      by (Some c) = refl

  pub store_object : (next : ℕ) → by_row p own at (Takes (Is (object_type p) ∷ Is Int ∷ References ∷ []) [] []) f ≡ Ok g →
      After (on_value vs (λ v above. on_int above (λ i below. on_object below h (λ n o rest. at_index o.elements i (λ k old. as_class p v h (λ class.
      cond (cast_fits p class (element_type o.class)) (Goes next ls rest (insert h n (with_element o k v))) (Raises cause.Store)))))))
  store_object next r = by_takes (Is (object_type p) ∷ Is Int ∷ References ∷ []) [] [] r _ (λ a ts k.
      value_took p b m h (At ts) tt (λ c. tt) (Is (object_type p)) (Is Int ∷ References ∷ []) ts vs k _ (λ v held above t.
      int_took p b m h (At ts) tt (λ c. tt) (Is Int) (References ∷ []) ts above t _ (λ x below u.
      object_took p b m h (At ts) tt (λ c. tt) References [] ts below u _ (λ n o there rest q.
      index_is p b m h (At ts) tt (λ c. tt) o.elements x _ (λ j old e.
      class_is p b m h (At ts) tt (λ c. tt) v _ (λ class. elim (cast_fits p class (element_type o.class)) as (λ (z : Bool). At ts (cond z (Goes next ls rest (insert h n (with_element o j v))) (Raises cause.Store))) [
        | true ↦ writing next ts rest q n (with_element o j v) (with_value o j v (heap n o there) (held object_plain))
        | false ↦ tt
      ]))))))

  pub length_row : (next : ℕ) → by_row p own at (gives_int (AnArray ∷ [])) f ≡ Ok g → After (on_object vs h (λ n o rest. Goes next ls (value.Int (int_length (length o.elements)) ∷ rest) h))
  length_row next r = by_takes (AnArray ∷ []) (Int ∷ []) [] r _ (λ a ts k.
      object_took p b m h (At (Int ∷ ts)) tt (λ c. tt) AnArray [] ts vs k _ (λ n o there rest q. going next (Int ∷ ts) (value.Int (int_length (length o.elements)) ∷ rest) (int_slot (int_length (length o.elements)), q)))

  pub cast_row : (next : ℕ) (ty : Ty) → by_row p own at (Takes (Is (object_type p) ∷ []) (Object ty ∷ []) []) f ≡ Ok g → After (on_value vs (λ v rest. as_class p v h (λ class. cond (cast_fits p class ty) (Goes next ls (v ∷ rest) h) (Raises cause.Cast))))
  cast_row next ty r = by_takes (Is (object_type p) ∷ []) (Object ty ∷ []) [] r _ (λ a ts k.
      value_took p b m h (At (Object ty ∷ ts)) tt (λ c. tt) (Is (object_type p)) [] ts vs k _ (λ v held rest t.
      class_is p b m h (At (Object ty ∷ ts)) tt (λ c. tt) v _ (λ class. elim (cast_fits p class ty) as (λ (z : Bool). At (Object ty ∷ ts) (cond z (Goes next ls (v ∷ rest) h) (Raises cause.Cast))) [
        | true ↦ going next (Object ty ∷ ts) (v ∷ rest) (good_slot b m (Object ty) v refl (held object_plain), t)
        | false ↦ tt
      ])))

  pub instance_row : (next : ℕ) (ty : Ty) → by_row p own at (Takes (Is (object_type p) ∷ []) (Int ∷ []) []) f ≡ Ok g → After (on_value vs (λ v rest. as_class p v h (λ class. Goes next ls (value.Int (bit (is_instance p class ty)) ∷ rest) h)))
  instance_row next ty r = by_takes (Is (object_type p) ∷ []) (Int ∷ []) [] r _ (λ a ts k.
      value_took p b m h (At (Int ∷ ts)) tt (λ c. tt) (Is (object_type p)) [] ts vs k _ (λ v held rest t.
      class_is p b m h (At (Int ∷ ts)) tt (λ c. tt) v _ (λ class. going next (Int ∷ ts) (value.Int (bit (is_instance p class ty)) ∷ rest) (int_slot (bit (is_instance p class ty)), t))))

  makes_so : (next : ℕ) (ty made : Ty) (v : Value) (x : ℤ) (ts : List VType) (rest : List Value) → is_box b v ≡ false → StackSo b m ts rest → At (Object made ∷ ts) (makes_array ty v x next ls rest h)
  unfolding array_limit
  makes_so next ty made v (negsuc n) ts rest e t = tt
  makes_so next ty made v (pos n) ts rest e t = elim (nat_lt array_limit n) as (λ (z : Bool). At (Object made ∷ ts) (cond z (Ends cause.Large) (Makes (new_array ty v n) next ls rest h))) [
    | true ↦ tt
    | false ↦ ((tt, same_so b m n v (other_value b m v e)), inr (record { type = Object made; set = refl; types = ts; is = refl; locals = frame.locals; stack = t }), heap)
  ]

  pub array_row : (next : ℕ) (ty made : Ty) (v : Value) (also : List Further) → is_box b v ≡ false → by_row p own at (Takes (Is Int ∷ []) (Object made ∷ []) also) f ≡ Ok g → After (on_int vs (λ n rest. makes_array ty v n next ls rest h))
  array_row next ty made v also e r = by_takes (Is Int ∷ []) (Object made ∷ []) also r _ (λ a ts k.
      int_took p b m h (At (Object made ∷ ts)) tt (λ c. tt) (Is Int) [] ts vs k _ (λ x rest t. makes_so next ty made v x ts rest e t))

  -- ---- the element of an array of references

  record Loaded : Type 0 where
    type : VType
    set : is_unset type ≡ false
    meet : all_meet p (Is Int ∷ References ∷ []) f.stack ≡ true
    after : record f { stack = type ∷ drop 2 f.stack } ≡ g

  element_set : (s : List VType) (e : VType) → element s ≡ Ok e → is_unset e ≡ false
  element_set (i ∷ Null ∷ s) e d = ap is_unset (sym (let z : Null ≡ e = cc in z))
  element_set (i ∷ Object ty ∷ s) e d = ap is_unset (sym (let z : vtype (record ty { dims = ty.dims - 1 }) ≡ e = cc in z)) ∙ vtype_set _
  element_set s e d = absurd (cc)

  pub element_row : (next : ℕ) → by_row p own at Element f ≡ Ok g → After (on_int vs (λ i below. on_object below h (λ n o rest. at_index o.elements i (λ k v. Goes next ls (v ∷ rest) h))))
  element_row next r =
      let a = passed 3 (has_operands 2 f.stack) _ g r in
      let d = passed 4 (has_room own (Null ∷ drop 2 f.stack)) _ g a.1 in
      let c = passed 5 (all_meet p (Is Int ∷ References ∷ []) f.stack) (typed_element f (element f.stack)) g d.1 in
      by (of_element (element f.stack) refl c.0 c.1)
    where
      of_element : (x : Result VType ℕ) → element f.stack ≡ x → all_meet p (Is Int ∷ References ∷ []) f.stack ≡ true → typed_element f x ≡ Ok g → Loaded
      of_element (Err n) is meet d = absurd (cc)
      of_element (Ok t) is meet d = record { type = t; set = element_set f.stack t is; meet = meet; after = ok_is (record f { stack = t ∷ drop 2 f.stack }) g d }

      by : Loaded → After (on_int vs (λ i below. on_object below h (λ n o rest. at_index o.elements i (λ k v. Goes next ls (v ∷ rest) h))))
      by x = subst (λ (z : Types). EffectSo p b m at z (on_int vs (λ i below. on_object below h (λ n o rest. at_index o.elements i (λ k v. Goes next ls (v ∷ rest) h))))) x.after
          (int_took p b m h (At (x.type ∷ drop 2 f.stack)) tt (λ c. tt) (Is Int) (References ∷ []) (drop 2 f.stack) vs (taken_so p b m (Is Int ∷ References ∷ []) f.stack vs x.meet frame.stack) _ (λ i below t.
          object_took p b m h (At (x.type ∷ drop 2 f.stack)) tt (λ c. tt) References [] (drop 2 f.stack) below t _ (λ n o there rest u.
          index_is p b m h (At (x.type ∷ drop 2 f.stack)) tt (λ c. tt) o.elements i _ (λ k v e.
          going next (x.type ∷ drop 2 f.stack) (v ∷ rest) (good_slot b m x.type v x.set (get_so b m o.elements k v (heap n o there).1 e), u)))))

  -- ---- returns

  left_meets : (takes : List Operand) (also : List Further) → by_row p own at (Leaves takes also) f ≡ Ok g → (all_meet p takes f.stack ≡ true) × Furthers p also f.stack
  left_meets takes also r =
      let go : Result Types ℕ = rule 11 (not (f.unset && is_constructor own)) (Ok (record f { stack = [] })) in
      let a = passed 3 (has_operands (length takes) f.stack) (rule 5 (all_meet p takes f.stack) (further p also f.stack go)) g r in
      let c = passed 5 (all_meet p takes f.stack) (further p also f.stack go) g a.1 in
      (c.0, (furthers p also f.stack go g c.1).0)

  pub int_return : (ty : Option Ty) → After (on_int vs (λ x rest. Returns (Some (narrowed_result ty (value.Int x))) h))
  int_return ty = by vs
    where
      narrowed : (o : Option Ty) (x : ℤ) → is_box b (narrowed_result o (value.Int x)) ≡ false
      narrowed None x = refl
      narrowed (Some ty) x = refl

      by : (ws : List Value) → After (on_int ws (λ x rest. Returns (Some (narrowed_result ty (value.Int x))) h))
      by [] = tt
      by (v ∷ ws) = int_is p b m h After tt (λ c. tt) v _ (λ x e. (other_value b m _ (narrowed ty x), heap))

  pub long_return : After (on_long vs (λ x rest. Returns (Some (value.Long x)) h))
  long_return = by vs
    where
      by : (ws : List Value) → After (on_long ws (λ x rest. Returns (Some (value.Long x)) h))
      by [] = tt
      by (v ∷ ws) = long_is p b m h After tt (λ c. tt) v _ (λ x e. (other_value b m (value.Long x) refl, heap))

  reference_set : (t : VType) → meets p AReference t ≡ true → is_top t ≡ false
  unfolding meets
  reference_set Top e = absurd (cc)
  reference_set t e = refl

  initialized_set : (t : VType) → meets p Initialized t ≡ true → is_unset t ≡ false
  unfolding meets
  initialized_set t e = by (is_unset t) e
    where
      by : (z : Bool) → not z ≡ true → z ≡ false
      by true e = absurd (cc)
      by false e = refl

  pub reference_return : by_row p own at (Leaves (AReference ∷ []) (returns_object own)) f ≡ Ok g → After (on_reference vs (λ v rest. Returns (Some v) h))
  reference_return r =
      let l = left_meets (AReference ∷ []) (returns_object own) r in
      by f.stack vs frame.stack l.0 l.1.0
    where
      by : (ts : List VType) (ws : List Value) → StackSo b m ts ws → all_meet p (AReference ∷ []) ts ≡ true → (true && all_meet p (Initialized ∷ []) ts) ≡ true → After (on_reference ws (λ v rest. Returns (Some v) h))
      by [] ws s a c = absurd (cc)
      by (t ∷ ts) [] s a c = absurd s
      by (t ∷ ts) (v ∷ ws) s a c =
          let as1 = and_parts (meets p AReference t) true a in
          let cs = and_parts (meets p Initialized t) true c in
          reference_is p b m h After tt (λ c. tt) v _ (slot_good b m t v (initialized_set t cs.0) (reference_set t as1.0) s.0, heap)
