-- From the lists of the woven form to what stands at each place.
use Rattle.std.proofs.Common.{◌≡◌, ℕ, ◌+◌, ◌<◌, ◌≤◌, Bool, true, false, cond, List, [], ◌∷◌, ◌++◌, Option, Some, None, refl, sym, ap, subst, ◌∙◌, arith, append_assoc, eq-eqb, ne_eqb}
use Rattle.std.specs.Prelude.{◌-◌, is_some}
use Rattle.kilim_program.specs.declared.class.Method.{Method}
use Rattle.kilim_program.specs.declared.instr.Instr.{Instr}
use Rattle.kilim_program.specs.declared.instr.Instr.TheVariants.{Iload, Lload, Aload, Istore, Lstore, Astore, Tableswitch, Lookupswitch}
use Rattle.kilim_program.specs.declared.verified.Frame.{Frame}
use Rattle.kilim_program.specs.Lengths.{first_place}
use Rattle.kilim_program.specs.Same.{argument_slots}
use Rattle.kilim_type_spec.specs.Typed.{frame_in}
use Rattle.kilim_weave_spec.specs.Woven.{Plan, Item, Mark, Does, fiber_slot, self_slot, restore_stack, restore_locals, restore_receiver, dummies, below, saved, receiver, resume_code, piece, pieces, block, blocks, count, pausable_callee, woven_items, old_size, lay_frames, with_frame, Labelled}
use Rattle.kilim_weave_laws.specs.woven_types.Facts.{Stands, types_if, WovenMethod}
use Rattle.kilim_weave_laws.proofs.woven_types.Spans.{Word, item, onto, Positive, Span, group_code, group_span, resume_span, local_bytes}
use Rattle.kilim_weave_laws.proofs.woven_types.Spans as spans

-- no two marks stand side by side, and each instruction has a length
abbrev pub Sound : Bool → List Item → Type 0
Sound marked [] = marked ≡ false
Sound marked (Mark label frame ∷ rest) = (marked ≡ false) × Sound true rest
Sound marked (Does i size counted ∷ rest) = ((q : ℕ) → 1 ≤ size q) × Sound false rest

-- begins with an instruction
pub record Begins (items : List Item) : Type 0 where
  pub instr : Instr
  pub size : ℕ → ℕ
  pub counted : Bool
  pub rest : List Item
  pub is : items ≡ Does instr size counted ∷ rest

begins_onto : (ws : List Word) (rest : List Item) → Begins rest → Begins (onto ws rest)
begins_onto [] rest b = b
begins_onto (w ∷ ws) rest b = record { instr = w.instr; size = λ place. w.bytes; counted = w.counted; rest = onto ws rest; is = refl }

begins_span : (f : List Item → List Item) (most : ℕ) (rest : List Item) → Span f most → Begins rest → Begins (f rest)
begins_span f most rest s b = subst (λ z. Begins z) (sym (s.is rest)) (begins_onto s.words rest b)

sound_true : (items : List Item) → Begins items → Sound false items → Sound true items
sound_true items b s = subst (λ z. Sound true z) (sym b.is) (subst (λ z. Sound false z) b.is s)

sound_onto : (ws : List Word) (rest : List Item) → Positive ws → Sound false rest → Sound false (onto ws rest)
sound_onto [] rest p s = s
sound_onto (w ∷ ws) rest p s = (λ q. p.0, sound_onto ws rest p.1 s)

sound_span : (f : List Item → List Item) (most : ℕ) (rest : List Item) → Span f most → Sound false rest → Sound false (f rest)
sound_span f most rest s h = subst (λ z. Sound false z) (sym (s.is rest)) (sound_onto s.words rest s.positive h)

-- ---- frames by place

abbrev Below : ℕ → List (ℕ × Frame) → Type 0
Below q [] = Unit {0}
Below q (e ∷ es) = (e.0 < q) × Below q es

abbrev Above : ℕ → List (ℕ × Frame) → Type 0
Above q [] = Unit {0}
Above q (e ∷ es) = (q < e.0) × Above q es

below_more : (q r : ℕ) (es : List (ℕ × Frame)) → q ≤ r → Below q es → Below r es
below_more q r [] h b = tt
below_more q r (e ∷ es) h b = (let y = b.0 in omega (arith, y, h), below_more q r es h b.1)

below_append : (q : ℕ) (a b : List (ℕ × Frame)) → Below q a → Below q b → Below q (a ++ b)
below_append q [] b p r = r
below_append q (e ∷ a) b p r = (p.0, below_append q a b p.1 r)

frame_past : (q : ℕ) (a b : List (ℕ × Frame)) → Below q a → frame_in (a ++ b) q ≡ frame_in b q
frame_past q [] b h = refl
frame_past q (e ∷ a) b h = let y = h.0 in let n = ne_eqb e.0 q (λ z. omega (arith, z, y)) in let r = frame_past q a b h.1 in rw n r

frame_above : (q : ℕ) (es : List (ℕ × Frame)) → Above q es → frame_in es q ≡ None
frame_above q [] h = refl
frame_above q (e ∷ es) h = let y = h.0 in let n = ne_eqb e.0 q (λ z. omega (arith, z, y)) in let r = frame_above q es h.1 in rw n r

-- frames of what is laid out from a place on are not before it
above_lay : (b : Bool) (items : List Item) (q r : ℕ) → q < r → Sound b items → Above q (lay_frames r items)
above_lay b [] q r h s = tt
above_lay b (Mark label None ∷ rest) q r h s = above_lay true rest q r h s.1
above_lay b (Mark label (Some frame) ∷ rest) q r h s = (h, above_lay true rest q r h s.1)
above_lay b (Does i size counted ∷ rest) q r h s = above_lay false rest q (r + size r) (omega (arith, h)) s.1

-- the frame at a place where an instruction stands
frame_here : (q r : ℕ) (before : Option Frame) (front rest : List (ℕ × Frame)) → Below q front → Above q rest → frame_in (front ++ with_frame q before rest) q ≡ types_if before
frame_here q r None front rest b a = frame_past q front rest b ∙ frame_above q rest a
frame_here q r (Some frame) front rest b a = frame_past q front ((q, frame) ∷ rest) b ∙ (let e = eq-eqb q q refl in rw e refl)

is_marked : Option Frame → Bool → Type 0
is_marked before false = before ≡ None
is_marked before true = Unit {0}

module _ (x : Plan) (w : Method) where
  pub stands_lay : (b : Bool) (items : List Item) (q : ℕ) (before : Option Frame) (front : List (ℕ × Frame)) → w.frames ≡ front ++ with_frame q before (lay_frames q items) → Below q front → (b ≡ false → before ≡ None) → Sound b items → Labelled x q items → Stands x w q (types_if before) items
  stands_lay b [] q before front e below m s l = tt
  stands_lay b (Mark label frame ∷ rest) q before front e below m s l =
      let none = m s.0 in
      (l.0, stands_lay true rest q frame front (subst (λ z. w.frames ≡ front ++ with_frame q z (with_frame q frame (lay_frames q rest))) none e) below (λ z. absurd (let y = z in cc)) s.1 l.1)
  stands_lay b (Does i size counted ∷ rest) q before front e below m s l =
      let grows = s.0 q in (
        ap (λ fs. frame_in fs q) e ∙ frame_here q q before front (lay_frames (q + size q) rest) below (above_lay false rest q (q + size q) (omega (arith, grows)) s.1),
        stands_lay false rest (q + size q) None (front ++ with_frame q before [])
            (e ∙ (ap (λ z. front ++ z) (split before (lay_frames (q + size q) rest)) ∙ sym (append_assoc front (with_frame q before []) (lay_frames (q + size q) rest))))
            (below_append (q + size q) front (with_frame q before []) (below_more q (q + size q) front (omega arith) below) (one_below before grows)) (λ z. refl) s.1 l,
      )
    where
      split : (before : Option Frame) (fs : List (ℕ × Frame)) → with_frame q before fs ≡ with_frame q before [] ++ fs
      split None fs = refl
      split (Some frame) fs = refl

      one_below : (before : Option Frame) → 1 ≤ size q → Below (q + size q) (with_frame q before [])
      one_below None g = tt
      one_below (Some frame) g = (omega (arith, g), tt)

  -- ---- the woven items are sound

  -- places grow
  abbrev pub Grows : List (ℕ × Instr) → Type 0
  Grows [] = Unit {0}
  Grows (e ∷ es) = (e.0 < first_place es x.method.code_length) × Grows es

  old_grows : (i : Instr) (n q : ℕ) → 1 ≤ n → 1 ≤ old_size i n q
  old_grows (Iload slot) n q h = (local_bytes slot).0
  old_grows (Lload slot) n q h = (local_bytes slot).0
  old_grows (Aload slot) n q h = (local_bytes slot).0
  old_grows (Istore slot) n q h = (local_bytes slot).0
  old_grows (Lstore slot) n q h = (local_bytes slot).0
  old_grows (Astore slot) n q h = (local_bytes slot).0
  old_grows (Tableswitch default low targets) n q h = omega arith
  old_grows (Lookupswitch default pairs) n q h = omega arith
  old_grows i n q h = h

  piece_sound : (o : Option Method) (first : Bool) (number place next : ℕ) (i : Instr) (rest : List Item) → place < next → Sound false rest → Sound false (piece o x first number place next i rest)
  piece_sound None first number place next i rest h s = (refl, (λ q. old_grows i (next - place) q (omega (arith, h)), s))
  piece_sound (Some callee) first number place next i rest h s =
      (refl, sound_true (group_code x number callee place next i rest) (record { instr = _; size = _; counted = false; rest = _; is = refl }) (sound_span (group_code x number callee place next i) _ rest (group_span x number callee place next i) s))

  pub pieces_sound : (es : List (ℕ × Instr)) (first : Bool) (number : ℕ) (rest : List Item) → Grows es → Sound false rest → Sound false (pieces x first number es rest)
  pieces_sound [] first number rest g s = s
  pieces_sound (e ∷ es) first number rest g s =
      let o = pausable_callee x.program e.1 in
      piece_sound o first number e.0 (first_place es x.method.code_length) e.1 _ g.0 (pieces_sound es (is_some o) (count o number) rest g.1 s)

  pub resume_begins : (callee : Method) (place next : ℕ) (rest : List Item) → Begins (resume_code x callee place next rest)
  resume_begins callee place next rest =
      begins_span (restore_locals x (saved x place next)) _ _ (spans.restore_locals_span x (saved x place next))
      (begins_span (restore_stack x (below x callee place)) _ _ (spans.restore_stack_span x (below x callee place))
      (begins_span (restore_receiver callee.is_static x (receiver x callee place)) _ _ (spans.restore_receiver_span x callee.is_static (receiver x callee place))
      (begins_span (dummies callee.params) _ _ (spans.dummies_span x callee.params) (record { instr = _; size = _; counted = false; rest = rest; is = refl }))))

  block_sound : (o : Option Method) (number place next : ℕ) (rest : List Item) → Sound false rest → Sound false (block o x number place next rest)
  block_sound None number place next rest s = s
  block_sound (Some callee) number place next rest s =
      (refl, sound_true (resume_code x callee place next rest) (resume_begins callee place next rest) (sound_span (resume_code x callee place next) _ rest (resume_span x callee place next) s))

  pub blocks_sound : (es : List (ℕ × Instr)) (number : ℕ) → Sound false (blocks x number es)
  blocks_sound [] number = refl
  blocks_sound (e ∷ es) number =
      let o = pausable_callee x.program e.1 in
      block_sound o number e.0 (first_place es x.method.code_length) (blocks x (count o number) es) (blocks_sound es (count o number))

  self_sound : (b : Bool) (i j : Item) (rest : List Item) → Sound false rest → ((rest : List Item) → Sound false rest → Sound false (i ∷ j ∷ rest)) → Sound false (cond b rest (i ∷ j ∷ rest))
  self_sound true i j rest s h = s
  self_sound false i j rest s h = h rest s

  pub items_sound : Grows x.method.code → Sound false (woven_items x)
  items_sound g =
      let s = pieces_sound x.method.code true 1 (blocks x 1 x.method.code) g (blocks_sound x.method.code 1) in (
        λ q. (local_bytes (argument_slots x.method)).0,
        (
          λ q. (local_bytes (fiber_slot x.method)).0,
          self_sound x.method.is_static _ _ _ (λ q. (local_bytes (fiber_slot x.method)).0, (λ q. omega arith, (λ q. omega arith, s))) (λ rest t. (λ q. omega arith, (λ q. (local_bytes (self_slot x.method)).0, t))),
        ),
      )

  -- what stands at the places of a woven method
  pub woven_stands : WovenMethod x w → Grows x.method.code → Stands x w 0 None (woven_items x)
  woven_stands woven g = stands_lay false (woven_items x) 0 None [] woven.frames tt (λ z. refl) (items_sound g) woven.labels
