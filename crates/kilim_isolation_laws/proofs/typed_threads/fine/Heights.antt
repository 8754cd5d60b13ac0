-- No frame of a well-typed method has more words on its stack than the method may have there.
use Rattle.std.proofs.Common.{◌≡◌, ℕ, zero, suc, ◌+◌, ◌≤◌, Bool, true, false, ◌||◌, cond, eqb, refl, ap, sym, subst, arith, List, [], ◌∷◌, ◌++◌, length, drop, reverse, Option, Some, None, Result, Ok, Err}
use mathlib.Core.List.{reverse_aux}
use Rattle.std.specs.Prelude.{nat_le}
use Rattle.std.specs.List.{list_all}
use Rattle.std.proofs.lemmas.Bool.{and_parts, eqb-true, leb-true}
use Rattle.kilim_program.specs.declared.class.Method.{Method}
use Rattle.kilim_program.specs.declared.instr.Instr.{Instr}
use Rattle.kilim_program.specs.declared.names.ClassId.{ClassId}
use Rattle.kilim_program.specs.declared.verified.Frame.{Frame}
use Rattle.kilim_program.specs.declared.verified.VType.{VType}
use Rattle.kilim_program.specs.declared.verified.VType.TheVariants.{Top, Int, Long, Null, UninitThis, Uninit, Object}
use Rattle.kilim_program.specs.Lengths.{ends_path, is_code_place}
use Rattle.kilim_program.specs.Program.{Program}
use Rattle.kilim_type_spec.specs.Step.{Types, Operand, Row, Takes, Element, Shuffles, Loads, Stores, Adds, Makes, Constructs, Leaves, Further, Form, form_room, has_room, room_for, is_same, one_replaced, peek, pushed, size, replaced, stored, class_vtype, by_row, row, with_stack, with_element, element, shuffled, store, constructed, words}
use Rattle.kilim_type_spec.specs.Typed.{Here, TypedBy, WellTypedBy, declared, entry, frame_fits, frame_in, frame_types, goes_on}
use Rattle.kilim_type_laws.proofs.Tops.{passed, past}
use Rattle.kilim_weave_laws.proofs.woven_types.Crux.{FirmRow}
use Rattle.kilim_weave_laws.proofs.woven_types.Forms.{form_low, given_low, element_low, words_append}
use Rattle.kilim_weave_laws.proofs.woven_types.Old.{firm_row}

-- ---- words

pub some_size : (t : VType) → 1 ≤ size t
some_size Long = omega arith
some_size Top = omega arith
some_size Int = omega arith
some_size Null = omega arith
some_size UninitThis = omega arith
some_size (Uninit at) = omega arith
some_size (Object ty) = omega arith

same_size : (old t new : VType) (b : Bool) → is_same old t ≡ b → size new ≡ 1 → size (one_replaced b t new) ≡ size t
same_size old t new false e n = refl
same_size UninitThis UninitThis new true e n = n
same_size (Uninit a) (Uninit c) new true e n = n
same_size old t new true e n = absurd (cc)

words_replaced : (old new : VType) (ts : List VType) → size new ≡ 1 → words (replaced old new ts) ≡ words ts
words_replaced old new [] n = refl
words_replaced old new (t ∷ ts) n = let a = same_size old t new (is_same old t) refl n in let b = words_replaced old new ts n in omega (arith, a, b)

words_aux : (ts us : List VType) → words (reverse_aux ts us) ≡ words ts + words us
words_aux [] us = omega arith
words_aux (t ∷ ts) us = let a = words_aux ts (t ∷ us) in omega (arith, a)

words_reversed : (ts : List VType) → words (reverse ts) ≡ words ts
words_reversed ts = let a = words_aux ts [] in omega (arith, a)

-- what is under the constructed object
drop_more : (n : ℕ) (ts us : List VType) (t : VType) → drop n ts ≡ t ∷ us → drop (suc n) ts ≡ us
drop_more zero (x ∷ ts) us t e = let pair : x ∷ ts ≡ t ∷ us = e in cc
drop_more zero [] us t e = absurd (cc)
drop_more (suc n) [] us t e = absurd (cc)
drop_more (suc n) (x ∷ ts) us t e = drop_more n ts us t e

-- ---- rows

stack_is : (f g : Types) (n : ℕ) → (let r : Result Types ℕ = Ok f in r) ≡ Ok g → words f.stack ≤ n → words g.stack ≤ n
stack_is f g n e few = subst (λ (z : Types). words z.stack ≤ n) (let is : f ≡ g = cc in is) few

module _ (p : Program) (m : Method) where
  shuffled_low : (form : Form) (f g : Types) (r : Result (List VType) ℕ) → shuffled form f.stack ≡ r → with_stack f r ≡ Ok g → form_room m form (words f.stack) ≡ true → words f.stack ≤ m.max_stack → words g.stack ≤ m.max_stack
  shuffled_low form f g (Ok s) is e room few = stack_is (record f { stack = s }) g m.max_stack e (form_low m form f.stack s is room few)
  shuffled_low form f g (Err r) is e room few = absurd (cc)

  loaded_low : (f g : Types) (r : Result VType ℕ) → element f.stack ≡ r → with_element f r ≡ Ok g → words f.stack ≤ m.max_stack → words g.stack ≤ m.max_stack
  loaded_low f g (Ok t) is e few = stack_is (record f { stack = t ∷ drop 2 f.stack }) g m.max_stack e (element_low m f.stack t is few)
  loaded_low f g (Err r) is e few = absurd (cc)

  store_low : (o : Operand) (slot : ℕ) (s : List VType) (f g : Types) → store p m o slot s f ≡ Ok g → words s ≤ m.max_stack → words g.stack ≤ m.max_stack
  store_low o slot [] f g e few = absurd (cc)
  store_low o slot (t ∷ s) f g e few =
      let one = passed 5 _ _ g e in
      let two = passed 6 (nat_le (slot + size t) m.max_locals) _ g one.1 in
      stack_is (record f { locals = stored f.locals slot t; stack = s }) g m.max_stack two.1 (omega (arith, few))

  made_low : (gives s rest : List VType) (old new : VType) → size new ≡ 1 → s ≡ rest → words (gives ++ rest) ≤ m.max_stack → words (gives ++ replaced old new s) ≤ m.max_stack
  made_low gives s rest old new one is few =
      let a = words_append gives rest in
      let b = words_append gives (replaced old new s) in
      let c = words_replaced old new s one in
      let d = ap words is in
      omega (arith, a, b, c, d, few)

  constructed_low : (class : ClassId) (gives : List VType) (after : List Further) (s rest : List VType) (f g : Types) → constructed p m class gives after s f ≡ Ok g → ((t : VType) (us : List VType) → s ≡ t ∷ us → us ≡ rest) → words (gives ++ rest) ≤ m.max_stack → words g.stack ≤ m.max_stack
  constructed_low class gives after (UninitThis ∷ s) rest f g e is few =
      let one = passed 10 _ _ g e in
      stack_is _ g m.max_stack (past p after f.stack _ g one.1) (made_low gives s rest UninitThis (class_vtype m.owner) refl (is UninitThis s refl) few)
  constructed_low class gives after (Uninit at ∷ s) rest f g e is few =
      let one = passed 10 _ _ g e in
      stack_is _ g m.max_stack (past p after f.stack _ g one.1) (made_low gives s rest (Uninit at) (class_vtype class) refl (is (Uninit at) s refl) few)
  constructed_low class gives after [] rest f g e is few = absurd (cc)
  constructed_low class gives after (Top ∷ s) rest f g e is few = absurd (cc)
  constructed_low class gives after (Int ∷ s) rest f g e is few = absurd (cc)
  constructed_low class gives after (Long ∷ s) rest f g e is few = absurd (cc)
  constructed_low class gives after (Null ∷ s) rest f g e is few = absurd (cc)
  constructed_low class gives after (Object ty ∷ s) rest f g e is few = absurd (cc)

  by_row_low : (at : ℕ) (r : Row) (f g : Types) → FirmRow p r → by_row p m at r f ≡ Ok g → words f.stack ≤ m.max_stack → words g.stack ≤ m.max_stack
  by_row_low at (Takes takes gives also) f g firm e few =
      let one = passed 3 _ _ g e in
      let two = passed 4 (room_for m gives (drop (length takes) f.stack)) _ g one.1 in
      let three = passed 5 _ _ g two.1 in
      stack_is _ g m.max_stack (past p also f.stack _ g three.1) (given_low m gives f.stack (length takes) two.0 few)
  by_row_low at Element f g firm e few =
      let one = passed 3 _ _ g e in
      let two = passed 4 (has_room m (Null ∷ drop 2 f.stack)) _ g one.1 in
      let three = passed 5 _ _ g two.1 in
      loaded_low f g (element f.stack) refl three.1 few
  by_row_low at (Shuffles form) f g firm e few =
      let one = passed 3 _ _ g e in
      let two = passed 4 (form_room m form (words f.stack)) _ g one.1 in
      shuffled_low form f g (shuffled form f.stack) refl two.1 two.0 few
  by_row_low at (Loads o slot) f g firm e few =
      let one = passed 4 (has_room m (pushed o ∷ f.stack)) _ g e in
      let two = passed 6 _ _ g one.1 in
      let same = (firm (peek f.locals slot) (and_parts _ _ two.0).1).1 in
      let low = leb-true (words (pushed o ∷ f.stack)) m.max_stack one.0 in
      stack_is (record f { stack = peek f.locals slot ∷ f.stack }) g m.max_stack two.1 (omega (arith, same, low))
  by_row_low at (Stores o slot) f g firm e few = store_low o slot f.stack f g e few
  by_row_low at (Adds slot) f g firm e few = stack_is f g m.max_stack (passed 6 _ _ g e).1 few
  by_row_low at (Makes may) f g firm e few =
      let one = passed 4 (has_room m (Uninit at ∷ f.stack)) _ g e in
      let two = passed 10 _ _ g one.1 in
      let three = passed 13 _ _ g two.1 in
      stack_is (record f { locals = replaced (Uninit at) Top f.locals; stack = Uninit at ∷ f.stack }) g m.max_stack three.1 (leb-true (words (Uninit at ∷ f.stack)) m.max_stack one.0)
  by_row_low at (Constructs takes gives class before after) f g firm e few =
      let one = passed 3 _ _ g e in
      let two = passed 4 (room_for m gives (drop (suc (length takes)) f.stack)) _ g one.1 in
      let three = passed 5 _ _ g two.1 in
      constructed_low class gives after (drop (length takes) f.stack) (drop (suc (length takes)) f.stack) f g (past p before f.stack _ g three.1) (λ t us is. sym (drop_more (length takes) f.stack us t is))
      (given_low m gives f.stack (suc (length takes)) two.0 few)
  by_row_low at (Leaves takes also) f g firm e few =
      let one = passed 3 _ _ g e in
      let two = passed 5 _ _ g one.1 in
      let three = passed 11 _ _ g (past p also f.stack _ g two.1) in
      stack_is (record f { stack = [] }) g m.max_stack three.1 (omega arith)

  -- what an instruction leaves
  pub step_low : (at : ℕ) (i : Instr) (f g : Types) → by_row p m at (row p m i) f ≡ Ok g → words f.stack ≤ m.max_stack → words g.stack ≤ m.max_stack
  step_low at i f g e few = by_row_low at (row p m i) f g (firm_row p m i) e few

-- ---- the walk

module _ (p : Program) (m : Method) (typing : ℕ → Types) where
  low_declared : (es : List (ℕ × Frame)) (at : ℕ) (d : Types) → list_all (frame_fits m) es ≡ true → frame_in es at ≡ Some d → words d.stack ≤ m.max_stack
  low_declared [] at d h k = absurd (cc)
  low_declared (e ∷ es) at d h k = by_test (eqb e.0 at) k (λ again. low_declared es at d hs.1 again)
    where
      hs : (frame_fits m e ≡ true) × (list_all (frame_fits m) es ≡ true)
      hs = and_parts (frame_fits m e) (list_all (frame_fits m) es) h

      here : words (frame_types e.1).stack ≤ m.max_stack
      here =
          let a = leb-true (words e.1.stack) m.max_stack (and_parts (nat_le (words e.1.stack) m.max_stack) _ (and_parts (nat_le (length e.1.locals) m.max_locals) _ (and_parts (is_code_place m.code e.0) _ hs.0).1).1).0 in
          let b = words_reversed e.1.stack in
          omega (arith, a, b)

      by_test : (b : Bool) → cond b (Some (frame_types e.1)) (frame_in es at) ≡ Some d → (frame_in es at ≡ Some d → words d.stack ≤ m.max_stack) → words d.stack ≤ m.max_stack
      by_test true k again = let is : frame_types e.1 ≡ d = cc in subst (λ (z : Types). words z.stack ≤ m.max_stack) is here
      by_test false k again = again k

  LowIn : Option Types → Type 0
  LowIn None = Unit {0}
  LowIn (Some g) = words g.stack ≤ m.max_stack

  low_on : (ends : Bool) (g : Types) → words g.stack ≤ m.max_stack → LowIn (goes_on ends g)
  unfolding LowIn
  low_on true g few = tt
  low_on false g few = few

  low_here : (frames : list_all (frame_fits m) m.frames ≡ true) (at : ℕ) (flow o : Option Types) (f : Types) → declared m at ≡ o → LowIn flow → Here p flow o f → words f.stack ≤ m.max_stack
  unfolding LowIn
  low_here frames at None None f is few h = absurd h
  low_here frames at None (Some d) f is few h = subst (λ (z : Types). words z.stack ≤ m.max_stack) (sym h) (low_declared m.frames at d frames is)
  low_here frames at (Some g) (Some d) f is few h = subst (λ (z : Types). words z.stack ≤ m.max_stack) (sym h.0) (low_declared m.frames at d frames is)
  low_here frames at (Some g) None f is few h = subst (λ (z : Types). words z.stack ≤ m.max_stack) (sym h) few

  low_at : (frames : list_all (frame_fits m) m.frames ≡ true) (flow : Option Types) (es : List (ℕ × Instr)) (at : ℕ) → LowIn flow → TypedBy p m typing flow es → is_code_place es at ≡ true → words (typing at).stack ≤ m.max_stack
  low_at frames flow [] at few h place = absurd (cc)
  low_at frames flow (e ∷ es) at few h place =
      let here : words (typing e.0).stack ≤ m.max_stack = low_here frames e.0 flow (declared m e.0) (typing e.0) refl few h.0 in
      by_test here (λ later. low_at frames (goes_on (ends_path e.1) h.1) es at (low_on (ends_path e.1) h.1 (step_low p m e.0 e.1 (typing e.0) h.1 h.2 here)) h.4 later) (eqb e.0 at) refl place
    where
      by_test : words (typing e.0).stack ≤ m.max_stack → (is_code_place es at ≡ true → words (typing at).stack ≤ m.max_stack) → (b : Bool) → eqb e.0 at ≡ b → (b || is_code_place es at) ≡ true → words (typing at).stack ≤ m.max_stack
      by_test here behind true is place = subst (λ (q : ℕ). words (typing q).stack ≤ m.max_stack) (eqb-true e.0 at is) here
      by_test here behind false is place = behind place

  -- the frame at a place of the code
  pub low_stack : WellTypedBy p m typing → (at : ℕ) → is_code_place m.code at ≡ true → words (typing at).stack ≤ m.max_stack
  unfolding LowIn
  low_stack well at place = low_at well.frames (Some (entry m)) m.code at (omega arith) well.walk place
