-- The declared frames of woven code (rule 12).
use Rattle.std.proofs.Common.{◌≡◌, ℕ, zero, suc, ◌+◌, ◌≤◌, Bool, true, false, cond, List, [], ◌∷◌, ◌++◌, map, length, Option, Some, None, refl, sym, ap, subst, ◌∙◌, arith, append_assoc, eq-eqb}
use Rattle.std.specs.Prelude.{◌&&◌, ◌||◌, not, nat_le, nat_lt, ◌-◌, is_some, reverse}
use Rattle.std.specs.List.{list_all, list_any}
use Rattle.std.proofs.lemmas.Bool.{and_parts, and_from, false≢true, le-leb, lt-ltb}
use Rattle.std.proofs.lemmas.List.{reverse-append, length-append}
use Rattle.kilim_program.specs.declared.class.Method.{Method}
use Rattle.kilim_program.specs.declared.instr.Instr.{Instr}
use Rattle.kilim_program.specs.declared.names.ClassId.{ClassId}
use Rattle.kilim_program.specs.declared.verified.Frame.{Frame}
use Rattle.kilim_program.specs.declared.verified.VType.{VType}
use Rattle.kilim_program.specs.declared.verified.VType.TheVariants.{Top, Int, Long, Null, UninitThis, Uninit, Object}
use Rattle.kilim_program.specs.Lengths.{is_code_place}
use Rattle.kilim_program.specs.Lengths.{first_place}
use Rattle.kilim_program.specs.Same.{is_constructor, argument_slots}
use Rattle.kilim_type_spec.specs.Step.{peek, is_top, is_long, is_unset_this, size, words, made_at, class_vtype}
use Rattle.kilim_type_spec.specs.Typed.{declared, frame_fits, halves, is_proper, stands_at_new}
use Rattle.kilim_weave_laws.specs.woven_types.Facts.{WovenMethod}
use Rattle.kilim_weave_spec.specs.Woven.{Plan, old_size, moved_instr, Item, Mark, Does, fiber, fiber_slot, added_types, moved_type, live_type, kept_local, slots_from, old_frame, resume_frame, frame_if, resume_code, piece, pieces, block, blocks, count, pausable_callee, lay, lay_frames, woven_items, self_slot, added}
use Rattle.kilim_weave_laws.proofs.woven_types.Moved.{moved_words, moved_top}
use Rattle.kilim_weave_laws.proofs.woven_types.Flow.{is_larger}
use Rattle.kilim_weave_laws.proofs.woven_types.Spans.{Word, onto, Span, group_code, group_span, resume_span}
use Rattle.kilim_weave_laws.proofs.woven_types.Laying.{Sound, items_sound, Grows}
use Rattle.kilim_weave_laws.proofs.woven_types.Sane.{Sane, sane, sane_item}
use Rattle.kilim_weave_laws.proofs.woven_types.OldFacts.{AllSane}
use Rattle.kilim_weave_laws.proofs.woven_types.Codes.{makes_moved, new_places}

-- ---- lists

all_more : (p : VType → Bool) (a b : List VType) → list_all p a ≡ true → list_all p b ≡ true → list_all p (a ++ b) ≡ true
all_more p [] b h k = k
all_more p (t ∷ a) b h k = let x = and_parts (p t) (list_all p a) h in and_from (p t) (list_all p (a ++ b)) x.0 (all_more p a b x.1 k)

all_back : (p : VType → Bool) (a : List VType) → list_all p a ≡ true → list_all p (reverse a) ≡ true
all_back p [] h = refl
all_back p (t ∷ a) h = let x = and_parts (p t) (list_all p a) h in ap (list_all p) (reverse-append (t ∷ []) a) ∙ all_more p (reverse a) (t ∷ []) (all_back p a x.1) (and_from (p t) true x.0 refl)

all_slots : (p : VType → Bool) (k n : ℕ) (f : ℕ → VType) → ((j : ℕ) → p (f j) ≡ true) → list_all p (slots_from k n f) ≡ true
all_slots p k zero f h = refl
all_slots p k (suc n) f h = and_from (p (f k)) (list_all p (slots_from (suc k) n f)) (h k) (all_slots p (suc k) n f h)

none_any : (p : VType → Bool) (ts : List VType) → list_all (λ t. not (p t)) ts ≡ true → not (list_any p ts) ≡ true
none_any p [] h = refl
none_any p (t ∷ ts) h = let x = and_parts (not (p t)) (list_all (λ u. not (p u)) ts) h in both (p t) (list_any p ts) x.0 (none_any p ts x.1)
  where
    both : (a b : Bool) → not a ≡ true → not b ≡ true → not (a || b) ≡ true
    both true b h k = h
    both false b h k = k

length_slots : (k n : ℕ) (f : ℕ → VType) → length (slots_from k n f) ≡ n
length_slots k zero f = refl
length_slots k (suc n) f = let h = length_slots (suc k) n f in omega (arith, h)

words_more : (a b : List VType) → words (a ++ b) ≡ words a + words b
words_more [] b = omega arith
words_more (t ∷ a) b = let h = words_more a b in omega (arith, h)

words_back : (a : List VType) → words (reverse a) ≡ words a
words_back [] = refl
words_back (t ∷ a) = let e = ap words (reverse-append (t ∷ []) a) in let b = words_more (reverse a) (t ∷ []) in let h = words_back a in omega (arith, e, b, h)

-- longs among the slots have their halves there
half_or : (b : Bool) (c : Bool) → (b ≡ true → c ≡ true) → (not b || c) ≡ true
half_or true c h = h refl
half_or false c h = refl

halves_slots : (k n : ℕ) (f : ℕ → VType) (rest : List VType) → ((j : ℕ) → is_long (f j) ≡ true → (is_top (f (suc j)) ≡ true) × (suc (suc j) ≤ k + n)) → halves rest ≡ true → halves (slots_from k n f ++ rest) ≡ true
halves_slots k zero f rest h r = r
halves_slots k (suc n) f rest h r =
    and_from (not (is_long (f k)) || (nat_lt 0 (length (slots_from (suc k) n f ++ rest)) && is_top (peek (slots_from (suc k) n f ++ rest) 0))) (halves (slots_from (suc k) n f ++ rest))
    (half_or (is_long (f k)) _ (λ l. let x = h k l in next n x.0 x.1))
    (halves_slots (suc k) n f rest (λ j l. let x = h j l in (x.0, let y = x.1 in omega (arith, y))) r)
  where
    next : (n : ℕ) → is_top (f (suc k)) ≡ true → suc (suc k) ≤ k + suc n → (nat_lt 0 (length (slots_from (suc k) n f ++ rest)) && is_top (peek (slots_from (suc k) n f ++ rest) 0)) ≡ true
    next zero t w = absurd (omega (arith, w))
    next (suc n) t w = and_from (nat_lt 0 (suc (length (slots_from (suc (suc k)) n f ++ rest)))) (is_top (f (suc k))) (lt-ltb 0 (suc (length (slots_from (suc (suc k)) n f ++ rest))) (omega arith)) t

-- ---- one frame

-- rule 12 but for the place
abbrev pub rest_fits : Method → Frame → Bool
rest_fits m frame =
    nat_le (length frame.locals) m.max_locals
    && (nat_le (words frame.stack) m.max_stack
    && (not (list_any is_top frame.stack)
    && (list_all (stands_at_new m) (frame.locals ++ frame.stack)
    && (halves frame.locals
    && (list_all is_proper (frame.locals ++ frame.stack)
    && (is_constructor m || not (list_any is_unset_this (frame.locals ++ frame.stack))))))))

or_later : (a b : Bool) → b ≡ true → (a || b) ≡ true
or_later true b h = refl
or_later false b h = h

module _ (x : Plan) (w : Method) (woven : WovenMethod x w) (grows : Grows x w x.method.code) where
  fresh : ℕ → Bool
  fresh = new_places x.method

  abbrev good : VType → Bool
  good t = sane (new_places x.method) t

  some_class : (o : Option ClassId) → is_some o ≡ true → (c : ClassId) × (o ≡ Some c)
  some_class None h = absurd (cc)
  some_class (Some c) h = (c, refl)

  new_moved : (q : ℕ) → is_some (made_at x.method.code q) ≡ true → is_some (made_at w.code (x.at q)) ≡ true
  new_moved q h = let c = some_class (made_at x.method.code q) h in ap is_some (makes_moved x w woven grows q c.0 c.1)

  moved_stands : (t : VType) → good t ≡ true → stands_at_new w (moved_type x.at t) ≡ true
  moved_stands (Uninit q) h = new_moved q h
  moved_stands Top h = refl
  moved_stands Int h = refl
  moved_stands Long h = refl
  moved_stands Null h = refl
  moved_stands UninitThis h = refl
  moved_stands (Object ty) h = refl

  moved_proper : (t : VType) → good t ≡ true → is_proper (moved_type x.at t) ≡ true
  moved_proper (Object ty) h = h
  moved_proper (Uninit q) h = refl
  moved_proper Top h = refl
  moved_proper Int h = refl
  moved_proper Long h = refl
  moved_proper Null h = refl
  moved_proper UninitThis h = refl

  moved_set : (t : VType) → good t ≡ true → not (is_unset_this (moved_type x.at t)) ≡ true
  moved_set UninitThis h = absurd (false≢true h)
  moved_set (Object ty) h = refl
  moved_set (Uninit q) h = refl
  moved_set Top h = refl
  moved_set Int h = refl
  moved_set Long h = refl
  moved_set Null h = refl

  live_pred : (p : VType → Bool) (b : Bool) (t : VType) → p Top ≡ true → p t ≡ true → p (live_type b t) ≡ true
  live_pred p true t top h = h
  live_pred p false t top h = top

  -- a property that Top has, the added types have, and sane types have when they are moved
  stack_pred : (p : VType → Bool) → ((t : VType) → good t ≡ true → p (moved_type x.at t) ≡ true) → (s : List VType) → list_all (sane_item (new_places x.method)) s ≡ true → list_all p (map (moved_type x.at) s) ≡ true
  stack_pred p h [] g = refl
  stack_pred p h (t ∷ s) g =
      let y = and_parts (sane_item (new_places x.method) t) (list_all (sane_item (new_places x.method)) s) g in
      and_from (p (moved_type x.at t)) (list_all p (map (moved_type x.at) s)) (h t (and_parts (good t) (not (is_top t)) y.0).0) (stack_pred p h s y.1)

  stack_no_top : (s : List VType) → list_all (sane_item (new_places x.method)) s ≡ true → list_all (λ t. not (is_top t)) (map (moved_type x.at) s) ≡ true
  stack_no_top [] g = refl
  stack_no_top (t ∷ s) g =
      let y = and_parts (sane_item (new_places x.method) t) (list_all (sane_item (new_places x.method)) s) g in
      and_from (not (is_top (moved_type x.at t))) (list_all (λ u. not (is_top u)) (map (moved_type x.at) s)) (ap (λ b. not b) (moved_top x.at t) ∙ (and_parts (good t) (not (is_top t)) y.0).1) (stack_no_top s y.1)

  added_pred : (p : VType → Bool) → ((c : ClassId) → p (class_vtype c) ≡ true) → list_all p (added_types x) ≡ true
  added_pred p h = by x.method.is_static
    where
      by : (b : Bool) → list_all p (fiber x.program ∷ cond b [] (class_vtype x.method.owner ∷ [])) ≡ true
      by true = and_from (p (fiber x.program)) true (h _) refl
      by false = and_from (p (fiber x.program)) (p (class_vtype x.method.owner) && true) (h _) (and_from (p (class_vtype x.method.owner)) true (h x.method.owner) refl)

  added_halves : halves (added_types x) ≡ true
  added_halves = by x.method.is_static
    where
      by : (b : Bool) → halves (fiber x.program ∷ cond b [] (class_vtype x.method.owner ∷ [])) ≡ true
      by true = refl
      by false = refl

  locals_pred : (p : VType → Bool) (f : ℕ → VType) → ((j : ℕ) → p (f j) ≡ true) → ((c : ClassId) → p (class_vtype c) ≡ true) → list_all p (slots_from 0 (fiber_slot x.method) f ++ added_types x) ≡ true
  locals_pred p f h c = all_more p (slots_from 0 (fiber_slot x.method) f) (added_types x) (all_slots p 0 (fiber_slot x.method) f h) (added_pred p c)

  locals_few : (f : ℕ → VType) → length (slots_from 0 (fiber_slot x.method) f ++ added_types x) ≤ w.max_locals
  locals_few f = let a = length-append (slots_from 0 (fiber_slot x.method) f) (added_types x) in let b = length_slots 0 (fiber_slot x.method) f in let c = woven.max_locals in omega (arith, a, b, c)

  long_live : (b : Bool) (t : VType) → is_long (live_type b (moved_type x.at t)) ≡ true → is_long t ≡ true
  long_live true Long h = refl
  long_live true t h = absurd (cc)
  long_live false t h = absurd (cc)

  top_live : (b : Bool) (t : VType) → is_top t ≡ true → is_top (live_type b (moved_type x.at t)) ≡ true
  top_live true Top h = refl
  top_live true t h = absurd (cc)
  top_live false t h = refl

  pub old_fits : (p : ℕ) → Sane (new_places x.method) x.method (x.typing p) → rest_fits w (old_frame x p) ≡ true
  old_fits p s =
      let f = kept_local x p in
      let ls = slots_from 0 (fiber_slot x.method) f ++ added_types x in
      let st = map (moved_type x.at) (x.typing p).stack in
      let few = locals_few f in
      let a = words_back st in
      let b = moved_words x.at (x.typing p).stack in
      let c = s.room in
      let d = woven.max_stack in
      let l = (is_larger x.method.max_locals (suc (argument_slots x.method))).0 in
      let slot = λ (q : VType → Bool) (top : q Top ≡ true) (h : (t : VType) → good t ≡ true → q (moved_type x.at t) ≡ true) (j : ℕ). live_pred q (x.live p j) (moved_type x.at (peek (x.typing p).locals j)) top (h (peek (x.typing p).locals j) (s.locals j)) in
      and_from (nat_le (length ls) w.max_locals) _ (le-leb (length ls) w.max_locals few)
      (and_from (nat_le (words (reverse st)) w.max_stack) _ (le-leb (words (reverse st)) w.max_stack (omega (arith, a, b, c, d)))
      (and_from (not (list_any is_top (reverse st))) _ (none_any is_top (reverse st) (all_back (λ t. not (is_top t)) st (stack_no_top (x.typing p).stack s.stack)))
      (and_from (list_all (stands_at_new w) (ls ++ reverse st)) _ (all_more (stands_at_new w) ls (reverse st) (locals_pred (stands_at_new w) f (slot (stands_at_new w) refl moved_stands) (λ k. refl)) (all_back (stands_at_new w) st (stack_pred (stands_at_new w) moved_stands (x.typing p).stack s.stack)))
      (and_from (halves ls) _ (halves_slots 0 (fiber_slot x.method) f (added_types x)
      (λ j y. let r = s.halves j (long_live (x.live p j) (peek (x.typing p).locals j) y) in (top_live (x.live p (suc j)) (peek (x.typing p).locals (suc j)) r.0, let z = r.1 in omega (arith, z, l))) added_halves)
      (and_from (list_all is_proper (ls ++ reverse st)) _ (all_more is_proper ls (reverse st) (locals_pred is_proper f (slot is_proper refl moved_proper) (λ k. refl)) (all_back is_proper st (stack_pred is_proper moved_proper (x.typing p).stack s.stack)))
      (or_later (is_constructor w) _ (none_any is_unset_this (ls ++ reverse st) (all_more (λ t. not (is_unset_this t)) ls (reverse st) (locals_pred (λ t. not (is_unset_this t)) f (slot (λ t. not (is_unset_this t)) refl moved_set) (λ k. refl)) (all_back (λ t. not (is_unset_this t)) st (stack_pred (λ t. not (is_unset_this t)) moved_set (x.typing p).stack s.stack))))))))))

  pub resume_fits : rest_fits w (resume_frame x) ≡ true
  resume_fits =
      let f : ℕ → VType = λ j. Top in
      let ls = slots_from 0 (fiber_slot x.method) f ++ added_types x in
      and_from (nat_le (length ls) w.max_locals) _ (le-leb (length ls) w.max_locals (locals_few f))
      (and_from (nat_le 0 w.max_stack) _ (le-leb 0 w.max_stack (omega arith))
      (and_from (list_all (stands_at_new w) (ls ++ [])) _ (all_more (stands_at_new w) ls [] (locals_pred (stands_at_new w) f (λ j. refl) (λ k. refl)) refl)
      (and_from (halves ls) _ (halves_slots 0 (fiber_slot x.method) f (added_types x) (λ j y. absurd (false≢true y)) added_halves)
      (and_from (list_all is_proper (ls ++ [])) _ (all_more is_proper ls [] (locals_pred is_proper f (λ j. refl) (λ k. refl)) refl)
      (or_later (is_constructor w) _ (none_any is_unset_this (ls ++ []) (all_more (λ t. not (is_unset_this t)) ls [] (locals_pred (λ t. not (is_unset_this t)) f (λ j. refl) (λ k. refl)) refl)))))))

-- ---- all frames

any_code : (front rest : List (ℕ × Instr)) (q : ℕ) (i : Instr) → is_code_place (front ++ ((q, i) ∷ rest)) q ≡ true
any_code [] rest q i = let h = eq-eqb q q refl in rw h refl
any_code (c ∷ front) rest q i = or_later _ (is_code_place (front ++ ((q, i) ∷ rest)) q) (any_code front rest q i)

abbrev pub Good : Method → List Item → Type 0
Good w [] = Unit {0}
Good w (Mark label None ∷ rest) = Good w rest
Good w (Mark label (Some frame) ∷ rest) = (rest_fits w frame ≡ true) × Good w rest
Good w (Does i size counted ∷ rest) = Good w rest

-- behind a mark stands an instruction
mark_place : (w : Method) (rest : List Item) (q : ℕ) (front : List (ℕ × Instr)) → w.code ≡ front ++ lay q rest → Sound true rest → is_code_place w.code q ≡ true
mark_place w [] q front e s = absurd (cc)
mark_place w (Mark label frame ∷ rest) q front e s = absurd (let y = s.0 in cc)
mark_place w (Does i size counted ∷ rest) q front e s = ap (λ c. is_code_place c q) e ∙ any_code front (lay (q + size q) rest) q i

frames_fit : (w : Method) (b : Bool) (items : List Item) (q : ℕ) (front : List (ℕ × Instr)) → w.code ≡ front ++ lay q items → Sound b items → Good w items → list_all (frame_fits w) (lay_frames q items) ≡ true
frames_fit w b [] q front e s g = refl
frames_fit w b (Mark label None ∷ rest) q front e s g = frames_fit w true rest q front e s.1 g
frames_fit w b (Mark label (Some frame) ∷ rest) q front e s g =
    and_from (frame_fits w (q, frame)) (list_all (frame_fits w) (lay_frames q rest)) (and_from (is_code_place w.code q) (rest_fits w frame) (mark_place w rest q front e s.1) g.0) (frames_fit w true rest q front e s.1 g.1)
frames_fit w b (Does i size counted ∷ rest) q front e s g = frames_fit w false rest (q + size q) (front ++ ((q, i) ∷ [])) (e ∙ sym (append_assoc front ((q, i) ∷ []) (lay (q + size q) rest))) s.1 g

good_onto : (w : Method) (ws : List Word) (rest : List Item) → Good w rest → Good w (onto ws rest)
good_onto w [] rest g = g
good_onto w (v ∷ ws) rest g = good_onto w ws rest g

good_span : (w : Method) (f : List Item → List Item) (most : ℕ) (rest : List Item) → Span f most → Good w rest → Good w (f rest)
good_span w f most rest s g = subst (λ z. Good w z) (sym (s.is rest)) (good_onto w s.words rest g)

module _ (x : Plan) (w : Method) (woven : WovenMethod x w) (grows : Grows x w x.method.code) (plain : is_constructor x.method ≡ false) where
  mark_good : (b : Bool) (p : ℕ) (rest : List Item) → rest_fits w (old_frame x p) ≡ true → Good w rest → Good w (Mark (Rattle.kilim_weave_spec.specs.Woven.Old p) (frame_if b x p) ∷ rest)
  mark_good true p rest h g = (h, g)
  mark_good false p rest h g = g

  piece_good : (o : Option Method) (first : Bool) (number place next : ℕ) (i : Instr) (rest : List Item) → rest_fits w (old_frame x place) ≡ true → Good w rest → Good w (piece o x first number place next i rest)
  piece_good None first number place next i rest h g = mark_good (first || is_some (declared x.method place)) place (Does (moved_instr x.at i) (old_size i (next - place)) true ∷ rest) h g
  piece_good (Some callee) first number place next i rest h g = (h, good_span w (group_code x number callee place next i) _ rest (group_span x number callee place next i) g)

  pieces_good : (es : List (ℕ × Instr)) (first : Bool) (number : ℕ) (rest : List Item) → AllSane (new_places x.method) x.program x.method plain (λ q. refl) x.typing es → Good w rest → Good w (pieces x first number es rest)
  pieces_good [] first number rest s g = g
  pieces_good (e ∷ es) first number rest s g =
      let o = pausable_callee x.program e.1 in
      piece_good o first number e.0 (first_place es x.method.code_length) e.1 _ (old_fits x w woven grows e.0 s.0) (pieces_good es (is_some o) (count o number) rest s.1 g)

  block_good : (o : Option Method) (number place next : ℕ) (rest : List Item) → Good w rest → Good w (block o x number place next rest)
  block_good None number place next rest g = g
  block_good (Some callee) number place next rest g = (resume_fits x w woven grows, good_span w (resume_code x callee place next) _ rest (resume_span x callee place next) g)

  blocks_good : (es : List (ℕ × Instr)) (number : ℕ) → Good w (blocks x number es)
  blocks_good [] number = tt
  blocks_good (e ∷ es) number = let o = pausable_callee x.program e.1 in block_good o number e.0 (first_place es x.method.code_length) (blocks x (count o number) es) (blocks_good es (count o number))

  self_good : (b : Bool) (i j : Instr) (n m : ℕ) (rest : List Item) → Good w rest → Good w (cond b rest (added i n ∷ added j m ∷ rest))
  self_good true i j n m rest g = g
  self_good false i j n m rest g = g

  -- rule 12 in woven code
  pub woven_frames : AllSane (new_places x.method) x.program x.method plain (λ q. refl) x.typing x.method.code → list_all (frame_fits w) w.frames ≡ true
  woven_frames s =
      let g = self_good x.method.is_static _ _ _ _ _ (pieces_good x.method.code true 1 (blocks x 1 x.method.code) s (blocks_good x.method.code 1)) in
      ap (list_all (frame_fits w)) woven.frames ∙ frames_fit w false (woven_items x) 0 [] woven.code (items_sound x w grows) g
