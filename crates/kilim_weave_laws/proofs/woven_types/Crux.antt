-- The type step of an old instruction in woven code: with dead locals unknown and more locals, it does the same.
use Rattle.std.proofs.Common.{◌≡◌, ◌⊎◌, inl, inr, ℕ, zero, suc, ◌+◌, ◌≤◌, Bool, true, false, eqb, List, [], ◌∷◌, ◌++◌, map, length, drop, Option, Some, None, Result, Ok, Err, refl, sym, ap, subst, ◌∙◌, arith}
use Rattle.std.specs.Prelude.{◌||◌, not, nat_le, nat_lt, ◌-◌}
use Rattle.std.specs.List.{list_any}
use Rattle.std.proofs.lemmas.Bool.{leb-true, le-leb, ltb-true, lt-ltb, and_parts, and_from}
use Rattle.std.proofs.lemmas.List.{drop-map, length-map, map-append}
use Rattle.kilim_program.specs.declared.class.Method.{Method}
use Rattle.kilim_program.specs.declared.names.ClassId.{ClassId}
use Rattle.kilim_program.specs.declared.ty.Base.{Base}
use Rattle.kilim_program.specs.declared.ty.Base.TheVariants as base
use Rattle.kilim_program.specs.declared.ty.Ty.{Ty}
use Rattle.kilim_program.specs.declared.verified.VType.{VType}
use Rattle.kilim_program.specs.declared.verified.VType.TheVariants.{Top, Int, Long, Null, UninitThis, Uninit, Object}
use Rattle.kilim_program.specs.Program.{Program}
use Rattle.kilim_program.specs.Names.{class_at}
use Rattle.kilim_type_spec.specs.Step.{Types, base_vtype, dims_vtype, assignable, one_replaced, peek, stored, is_top, is_long, is_same, size, words, replaced, Operand, Is, References, Further, further, rule, meets, vtype, class_vtype, has_room, room_for, has_operands, Form, Drops, Copies, Swaps, form_words, form_room, pushed, shuffled, off, above, then_off, with_stack, loaded, element, with_element, constructed, made_at, is_class, superclass_at, Row, Takes, Element, Shuffles, Loads, Stores, Adds, Makes, Constructs, Leaves, by_row}
use Rattle.kilim_weave_spec.specs.Woven.{moved_type, first_of}
use Rattle.kilim_weave_laws.specs.woven_types.Same.{Shared}
use Rattle.kilim_weave_laws.proofs.woven_types.Moved.{passed, passes, moved_size, moved_words, moved_long, moved_top, moved_operand, moved_further}
use Rattle.kilim_weave_laws.proofs.woven_types.Moved as moved
use Rattle.kilim_weave_laws.proofs.woven_types.Locals.{Covers, covers_stored, covers_replaced, replaced_moved, same_moved, untouched, peek_replaced}
use Rattle.std.proofs.lemmas.Bool.{false≢true}

abbrev pub moved_row : (ℕ → ℕ) → Row → Row
moved_row at (Takes takes gives also) = Takes (map (moved_operand at) takes) (map (moved_type at) gives) (map (moved_further at) also)
moved_row at Element = Element
moved_row at (Shuffles form) = Shuffles form
moved_row at (Loads o slot) = Loads (moved_operand at o) slot
moved_row at (Stores o slot) = Stores (moved_operand at o) slot
moved_row at (Adds slot) = Adds slot
moved_row at (Makes may) = Makes may
moved_row at (Constructs takes gives class before after) = Constructs (map (moved_operand at) takes) (map (moved_type at) gives) class (map (moved_further at) before) (map (moved_further at) after)
moved_row at (Leaves takes also) = Leaves (map (moved_operand at) takes) (map (moved_further at) also)

from_ok : {A : Type 0} → A → Result A ℕ → A
from_ok d (Ok x) = x
from_ok d (Err n) = d

pub ok_same : {A : Type 0} (x y : A) → ◌≡◌ {A = Result A ℕ} (Ok x) (Ok y) → x ≡ y
unfolding from_ok
ok_same x y e = ap (from_ok x) e

-- the frame of the old code, and its twin
abbrev pub plain : List VType → List VType → Types
plain fl fs = record { locals = fl; stack = fs; unset = false }

abbrev pub twin : (ℕ → ℕ) → List VType → List VType → Types
twin at fs cl = record { locals = cl; stack = map (moved_type at) fs; unset = false }

-- which locals a row writes
abbrev pub RowWrites : Row → List VType → ℕ → Type 0
RowWrites (Stores o slot) fs j = (slot ≡ j) ⊎ ((suc slot ≡ j) × (is_long (first_of fs) ≡ true))
RowWrites (Adds slot) fs j = slot ≡ j
RowWrites r fs j = ⊥

abbrev pub RowReads : Row → ℕ → Type 0
RowReads (Loads o slot) j = slot ≡ j
RowReads (Adds slot) j = slot ≡ j
RowReads r j = ⊥

-- ---- parts of the stack, moved

abbrev moved_parts : (ℕ → ℕ) → Result (List VType × List VType) ℕ → Result (List VType × List VType) ℕ
moved_parts at (Ok parts) = Ok (map (moved_type at) parts.0, map (moved_type at) parts.1)
moved_parts at (Err n) = Err n

abbrev moved_list : (ℕ → ℕ) → Result (List VType) ℕ → Result (List VType) ℕ
moved_list at (Ok s) = Ok (map (moved_type at) s)
moved_list at (Err n) = Err n

above_moved : (at : ℕ → ℕ) (t : VType) (r : Result (List VType × List VType) ℕ) → above (moved_type at t) (moved_parts at r) ≡ moved_parts at (above t r)
above_moved at t (Ok parts) = refl
above_moved at t (Err n) = refl

off_moved : (at : ℕ → ℕ) (n : ℕ) (s : List VType) → off n (map (moved_type at) s) ≡ moved_parts at (off n s)
off_moved at zero s = refl
off_moved at (suc zero) [] = refl
off_moved at (suc (suc n)) [] = refl
off_moved at (suc zero) (Long ∷ s) = refl
off_moved at (suc (suc n)) (Long ∷ s) = ap (above Long) (off_moved at n s) ∙ above_moved at Long (off n s)
off_moved at (suc zero) (Top ∷ s) = refl
off_moved at (suc zero) (Int ∷ s) = refl
off_moved at (suc zero) (Null ∷ s) = refl
off_moved at (suc zero) (UninitThis ∷ s) = refl
off_moved at (suc zero) (Uninit q ∷ s) = refl
off_moved at (suc zero) (Object ty ∷ s) = refl
off_moved at (suc (suc n)) (Top ∷ s) = ap (above Top) (off_moved at (suc n) s) ∙ above_moved at Top (off (suc n) s)
off_moved at (suc (suc n)) (Int ∷ s) = ap (above Int) (off_moved at (suc n) s) ∙ above_moved at Int (off (suc n) s)
off_moved at (suc (suc n)) (Null ∷ s) = ap (above Null) (off_moved at (suc n) s) ∙ above_moved at Null (off (suc n) s)
off_moved at (suc (suc n)) (UninitThis ∷ s) = ap (above UninitThis) (off_moved at (suc n) s) ∙ above_moved at UninitThis (off (suc n) s)
off_moved at (suc (suc n)) (Uninit q ∷ s) = ap (above (Uninit (at q))) (off_moved at (suc n) s) ∙ above_moved at (Uninit q) (off (suc n) s)
off_moved at (suc (suc n)) (Object ty ∷ s) = ap (above (Object ty)) (off_moved at (suc n) s) ∙ above_moved at (Object ty) (off (suc n) s)

-- the parts are put together alike
then_moved : (at : ℕ → ℕ) (r : Result (List VType × List VType) ℕ) (go go' : List VType → List VType → Result (List VType) ℕ) →
    ((a b : List VType) → go' (map (moved_type at) a) (map (moved_type at) b) ≡ moved_list at (go a b)) → then_off (moved_parts at r) go' ≡ moved_list at (then_off r go)
then_moved at (Ok parts) go go' h = h parts.0 parts.1
then_moved at (Err n) go go' h = refl

off_then : (at : ℕ → ℕ) (n : ℕ) (s : List VType) (go go' : List VType → List VType → Result (List VType) ℕ) →
    ((a b : List VType) → go' (map (moved_type at) a) (map (moved_type at) b) ≡ moved_list at (go a b)) → then_off (off n (map (moved_type at) s)) go' ≡ moved_list at (then_off (off n s) go)
off_then at n s go go' h = ap (λ r. then_off r go') (off_moved at n s) ∙ then_moved at (off n s) go go' h

twice : (at : ℕ → ℕ) (a b rest : List VType) → map (moved_type at) a ++ (map (moved_type at) b ++ (map (moved_type at) a ++ map (moved_type at) rest)) ≡ map (moved_type at) (a ++ (b ++ (a ++ rest)))
twice at a b rest = simp map-append refl

crossed : (at : ℕ → ℕ) (a b rest : List VType) → map (moved_type at) b ++ (map (moved_type at) a ++ map (moved_type at) rest) ≡ map (moved_type at) (b ++ (a ++ rest))
crossed at a b rest = simp map-append refl

shuffled_moved : (at : ℕ → ℕ) (form : Form) (s : List VType) → shuffled form (map (moved_type at) s) ≡ moved_list at (shuffled form s)
shuffled_moved at (Drops n) s = off_then at n s _ _ (λ a b. refl)
shuffled_moved at (Copies n passed) s = off_then at n s _ _ (λ a below. off_then at passed below _ _ (λ b rest. ap (λ z. Ok z) (twice at a b rest)))
shuffled_moved at Swaps s = off_then at 1 s _ _ (λ a below. off_then at 1 below _ _ (λ b rest. ap (λ z. Ok z) (crossed at a b rest)))

moved_base_vtype : (at : ℕ → ℕ) (ty : Ty) (b : Base) → moved_type at (base_vtype ty b) ≡ base_vtype ty b
moved_base_vtype at ty base.Bool = refl
moved_base_vtype at ty base.Byte = refl
moved_base_vtype at ty base.Char = refl
moved_base_vtype at ty base.Short = refl
moved_base_vtype at ty base.Int = refl
moved_base_vtype at ty base.Long = refl
moved_base_vtype at ty (base.Class c) = refl

moved_dims_vtype : (at : ℕ → ℕ) (ty : Ty) (n : ℕ) → moved_type at (dims_vtype ty n) ≡ dims_vtype ty n
moved_dims_vtype at ty zero = moved_base_vtype at ty ty.base
moved_dims_vtype at ty (suc n) = refl

pub moved_vtype : (at : ℕ → ℕ) (ty : Ty) → moved_type at (vtype ty) ≡ vtype ty
moved_vtype at ty = moved_dims_vtype at ty ty.dims

element_moved : (at : ℕ → ℕ) (s : List VType) (t : VType) → element s ≡ Ok t → element (map (moved_type at) s) ≡ Ok (moved_type at t)
element_moved at [] t e = absurd (cc)
element_moved at (i ∷ []) t e = absurd (cc)
element_moved at (i ∷ Null ∷ s) t e = ap (λ z. Ok (moved_type at z)) (ok_same Null t e)
element_moved at (i ∷ Object ty ∷ s) t e = let ty' : Ty = record ty { dims = ty.dims - 1 } in ap (λ z. Ok z) (sym (moved_vtype at ty')) ∙ ap (λ z. Ok (moved_type at z)) (ok_same (vtype ty') t e)
element_moved at (i ∷ Top ∷ s) t e = absurd (cc)
element_moved at (i ∷ Int ∷ s) t e = absurd (cc)
element_moved at (i ∷ Long ∷ s) t e = absurd (cc)
element_moved at (i ∷ UninitThis ∷ s) t e = absurd (cc)
element_moved at (i ∷ Uninit q ∷ s) t e = absurd (cc)

pub element_is : (f g : Types) (r : Result VType ℕ) → with_element f r ≡ Ok g → (t : VType) × (r ≡ Ok t) × (record f { stack = t ∷ drop 2 f.stack } ≡ g)
element_is f g (Ok t) e = (t, refl, ok_same (record f { stack = t ∷ drop 2 f.stack }) g e)
element_is f g (Err n) e = absurd (cc)

pub stack_is : (f g : Types) (r : Result (List VType) ℕ) → with_stack f r ≡ Ok g → (s : List VType) × (r ≡ Ok s) × (record f { stack = s } ≡ g)
stack_is f g (Ok s) e = (s, refl, ok_same (record f { stack = s }) g e)
stack_is f g (Err n) e = absurd (cc)

pushed_moved : (at : ℕ → ℕ) (o : Operand) → pushed (moved_operand at o) ≡ moved_type at (pushed o)
pushed_moved at (Is t) = refl
pushed_moved at o = refl

any_moved : (at : ℕ → ℕ) (differ : (a b : ℕ) → at a ≡ at b → a ≡ b) (u : VType) (s : List VType) → list_any (is_same (moved_type at u)) (map (moved_type at) s) ≡ list_any (is_same u) s
any_moved at differ u [] = refl
any_moved at differ u (t ∷ s) = let a = same_moved at differ u t in let r = any_moved at differ u s in rw (a, r) refl

is_some_class : (class : ClassId) (o : Option ClassId) → is_class class o ≡ true → (c : ClassId) × (o ≡ Some c)
is_some_class class None h = absurd (cc)
is_some_class class (Some c) h = (c, refl)

an_int : (P : Program) (t : VType) → assignable P t Int ≡ true → is_top t ≡ false
an_int P Int h = refl
an_int P t h = absurd (false≢true h)

-- what is loaded is no Top, and takes the room that was asked for
abbrev pub Firm : Program → Operand → Type 0
Firm P o = (t : VType) → meets P o t ≡ true → (is_top t ≡ false) × (size t ≡ size (pushed o))

abbrev pub FirmRow : Program → Row → Type 0
FirmRow P (Loads o slot) = Firm P o
FirmRow P r = Unit {0}

module _ (P W : Program) (m w : Method) (at : ℕ → ℕ) (same : Shared P W m w at) (E : ℕ → Type 0) (more : ℕ → VType) (apart : (j : ℕ) → E j → m.max_locals ≤ j) (steady : (j : ℕ) → E j → (t : VType) → is_same t (more j) ≡ false) where
  -- the locals of the fiber and of the receiver are there
  abbrev pub Added : List VType → Type 0
  Added cl = (j : ℕ) → E j → peek cl j ≡ more j

  pub record Next (S : ℕ → Type 0) (q : ℕ) (r : Row) (fs cl : List VType) (g : Types) : Type 0 where
    pub fl' : List VType
    pub fs' : List VType
    pub cl' : List VType
    pub is : g ≡ plain fl' fs'
    pub steps : by_row W w (at q) (moved_row at r) (twin at fs cl) ≡ Ok (twin at fs' cl')
    pub covers : Covers at S fl' cl'
    pub added : Added cl'

  left : (takes : List Operand) (fs : List VType) → drop (length (map (moved_operand at) takes)) (map (moved_type at) fs) ≡ map (moved_type at) (drop (length takes) fs)
  left takes fs = ap (λ n. drop n (map (moved_type at) fs)) (length-map takes (moved_operand at)) ∙ drop-map (moved_type at) (length takes) fs

  outs : (takes : List Operand) (gives fs : List VType) → map (moved_type at) gives ++ drop (length (map (moved_operand at) takes)) (map (moved_type at) fs) ≡ map (moved_type at) (gives ++ drop (length takes) fs)
  outs takes gives fs = ap (λ s. map (moved_type at) gives ++ s) (left takes fs) ∙ sym (map-append (moved_type at) gives (drop (length takes) fs))

  counts : (takes : List Operand) (fs : List VType) → has_operands (length takes) fs ≡ true → has_operands (length (map (moved_operand at) takes)) (map (moved_type at) fs) ≡ true
  counts takes fs h = ap (λ n. has_operands n (map (moved_type at) fs)) (length-map takes (moved_operand at)) ∙ moved.enough P W m w at same (length takes) fs h

  only : (S : ℕ → Type 0) (j : ℕ) → S j ⊎ ⊥ → S j
  only S j (inl s) = s
  only S j (inr b) = absurd b

  takes_next : (S : ℕ → Type 0) (q : ℕ) (takes : List Operand) (gives : List VType) (also : List Further) (fl fs cl : List VType) (g : Types) → Covers at S fl cl → Added cl →
      by_row P m q (Takes takes gives also) (plain fl fs) ≡ Ok g → Next (λ j. S j ⊎ ⊥) q (Takes takes gives also) fs cl g
  takes_next S q takes gives also fl fs cl g c a e =
      let out = gives ++ drop (length takes) fs in
      let p3 = passed 3 _ _ g e in
      let p4 = passed 4 _ _ g p3.1 in
      let p5 = passed 5 _ _ g p4.1 in
      let p6 = moved.holds_further P W m w at same also fs (Ok (plain fl out)) g p5.1 in
      record {
        fl' = fl;
        fs' = out;
        cl' = cl;
        is = sym (ok_same (plain fl out) g p6.0);
        steps = passes 3 _ _ (twin at out cl) (counts takes fs p3.0)
            (passes 4 _ _ (twin at out cl) (ap (room_for w (map (moved_type at) gives)) (left takes fs) ∙ moved.room_given P W m w at same gives (drop (length takes) fs) p4.0)
            (passes 5 _ _ (twin at out cl) (moved.all_met P W m w at same takes fs p5.0)
            (p6.1 _ (twin at out cl) (ap (λ s. Ok (record { locals = cl; stack = s; unset = false })) (outs takes gives fs)))));
        covers = λ j s n. c j (only S j s) n;
        added = a;
      }

  element_next : (S : ℕ → Type 0) (q : ℕ) (fl fs cl : List VType) (g : Types) → Covers at S fl cl → Added cl → by_row P m q Element (plain fl fs) ≡ Ok g → Next (λ j. S j ⊎ ⊥) q Element fs cl g
  element_next S q fl fs cl g c a e =
      let p3 = passed 3 _ _ g e in
      let p4 = passed 4 _ _ g p3.1 in
      let p5 = passed 5 _ _ g p4.1 in
      let is = element_is (plain fl fs) g (element fs) p5.1 in
      let out = is.0 ∷ drop 2 fs in
      record {
        fl' = fl;
        fs' = out;
        cl' = cl;
        is = sym is.2;
        steps = passes 3 _ _ (twin at out cl) (moved.enough P W m w at same 2 fs p3.0)
            (passes 4 _ _ (twin at out cl) (ap (λ s. has_room w (Null ∷ s)) (drop-map (moved_type at) 2 fs) ∙ moved.room P W m w at same (Null ∷ drop 2 fs) p4.0)
            (passes 5 _ _ (twin at out cl) (moved.all_met P W m w at same (Is Int ∷ References ∷ []) fs p5.0)
            (ap (with_element (twin at fs cl)) (element_moved at fs is.0 is.1)
            ∙ ap (λ s. Ok (record { locals = cl; stack = moved_type at is.0 ∷ s; unset = false })) (drop-map (moved_type at) 2 fs))));
        covers = λ j s n. c j (only S j s) n;
        added = a;
      }

  room_above : (n : ℕ) (fs : List VType) → nat_le (words fs + n) m.max_stack ≡ true → nat_le (words (map (moved_type at) fs) + n) w.max_stack ≡ true
  room_above n fs h =
      let a = leb-true (words fs + n) m.max_stack h in
      let b = same.stack in
      let c = moved_words at fs in
      le-leb (words (map (moved_type at) fs) + n) w.max_stack (omega (arith, a, b, c))

  room_of_form : (form : Form) (fs : List VType) → form_room m form (words fs) ≡ true → form_room w form (words (map (moved_type at) fs)) ≡ true
  room_of_form (Drops n) fs h = refl
  room_of_form (Copies n passed) fs h = room_above n fs h
  room_of_form Swaps fs h = room_above 0 fs h

  shuffles_next : (S : ℕ → Type 0) (q : ℕ) (form : Form) (fl fs cl : List VType) (g : Types) → Covers at S fl cl → Added cl → by_row P m q (Shuffles form) (plain fl fs) ≡ Ok g → Next (λ j. S j ⊎ ⊥) q (Shuffles form) fs cl g
  shuffles_next S q form fl fs cl g c a e =
      let p3 = passed 3 _ _ g e in
      let p4 = passed 4 _ _ g p3.1 in
      let is = stack_is (plain fl fs) g (shuffled form fs) p4.1 in
      record {
        fl' = fl;
        fs' = is.0;
        cl' = cl;
        is = sym is.2;
        steps = passes 3 _ _ (twin at is.0 cl) (ap (λ n. nat_le (form_words form) n) (moved_words at fs) ∙ p3.0)
            (passes 4 _ _ (twin at is.0 cl) (room_of_form form fs p4.0)
            (ap (with_stack (twin at fs cl)) (shuffled_moved at form fs ∙ ap (moved_list at) is.1)));
        covers = λ j s n. c j (only S j s) n;
        added = a;
      }

  slot_there : (slot : ℕ) → nat_lt slot m.max_locals ≡ true → nat_lt slot w.max_locals ≡ true
  slot_there slot h = let a = ltb-true slot m.max_locals h in let b = same.locals in lt-ltb slot w.max_locals (omega (arith, a, b))

  slots_there : (n : ℕ) → nat_le n m.max_locals ≡ true → nat_le n w.max_locals ≡ true
  slots_there n h = let a = leb-true n m.max_locals h in let b = same.locals in le-leb n w.max_locals (omega (arith, a, b))

  loads_next : (S : ℕ → Type 0) (q : ℕ) (o : Operand) (slot : ℕ) (fl fs cl : List VType) (g : Types) → Firm P o → S slot → Covers at S fl cl → Added cl →
      by_row P m q (Loads o slot) (plain fl fs) ≡ Ok g → Next (λ j. S j ⊎ ⊥) q (Loads o slot) fs cl g
  loads_next S q o slot fl fs cl g firm reads c a e =
      let t = peek fl slot in
      let p4 = passed 4 _ _ g e in
      let p6 = passed 6 _ _ g p4.1 in
      let b = and_parts (nat_lt slot m.max_locals) (meets P o t) p6.0 in
      let known = c slot reads (firm t b.1).0 in
      let out = t ∷ fs in
      record {
        fl' = fl;
        fs' = out;
        cl' = cl;
        is = sym (ok_same (plain fl out) g p6.1);
        steps = ap (λ u. loaded W w (moved_operand at o) slot u (twin at fs cl)) known
            ∙ passes 4 _ _ (twin at out cl) (ap (λ u. has_room w (u ∷ map (moved_type at) fs)) (pushed_moved at o) ∙ moved.room P W m w at same (pushed o ∷ fs) p4.0)
            (passes 6 _ _ (twin at out cl) (and_from (nat_lt slot w.max_locals) (meets W (moved_operand at o) (moved_type at t)) (slot_there slot b.0) (moved.met P W m w at same o t b.1)) refl);
        covers = λ j s n. c j (only S j s) n;
        added = a;
      }

  stores_next : (S : ℕ → Type 0) (q : ℕ) (o : Operand) (slot : ℕ) (fl fs cl : List VType) (g : Types) → Covers at S fl cl → Added cl →
      by_row P m q (Stores o slot) (plain fl fs) ≡ Ok g → Next (λ j. S j ⊎ RowWrites (Stores o slot) fs j) q (Stores o slot) fs cl g
  stores_next S q o slot fl [] cl g c a e = absurd (cc)
  stores_next S q o slot fl (t ∷ fs) cl g c a e =
      let p5 = passed 5 _ _ g e in
      let p6 = passed 6 _ _ g p5.1 in
      let cl' = stored cl slot (moved_type at t) in
      let within = leb-true (slot + size t) m.max_locals p6.0 in
      record {
        fl' = stored fl slot t;
        fs' = fs;
        cl' = cl';
        is = sym (ok_same (plain (stored fl slot t) fs) g p6.1);
        steps = passes 5 _ _ (twin at fs cl') (moved.met P W m w at same o t p5.0)
            (passes 6 _ _ (twin at fs cl') (ap (λ n. nat_le (slot + n) w.max_locals) (moved_size at t) ∙ slots_there (slot + size t) p6.0) refl);
        covers = covers_stored at S fl cl slot t c;
        added = λ j x. let y = apart j x in let z = moved_size at t in untouched (moved_type at t) cl slot j (omega (arith, within, y, z)) ∙ a j x;
      }

  adds_next : (S : ℕ → Type 0) (q slot : ℕ) (fl fs cl : List VType) (g : Types) → S slot → Covers at S fl cl → Added cl →
      by_row P m q (Adds slot) (plain fl fs) ≡ Ok g → Next (λ j. S j ⊎ (slot ≡ j)) q (Adds slot) fs cl g
  unfolding meets
  adds_next S q slot fl fs cl g reads c a e =
      let t = peek fl slot in
      let p6 = passed 6 _ _ g e in
      let b = and_parts (nat_lt slot m.max_locals) (meets P (Is Int) t) p6.0 in
      let known = c slot reads (an_int P t b.1) in
      record {
        fl' = fl;
        fs' = fs;
        cl' = cl;
        is = sym (ok_same (plain fl fs) g p6.1);
        steps = passes 6 _ _ (twin at fs cl) (and_from (nat_lt slot w.max_locals) (meets W (Is Int) (peek cl slot)) (slot_there slot b.0) (ap (meets W (Is Int)) known ∙ moved.met P W m w at same (Is Int) t b.1)) refl;
        covers = λ j s n. c j (read S slot reads j s) n;
        added = a;
      }
    where
      read : (S : ℕ → Type 0) (slot : ℕ) → S slot → (j : ℕ) → S j ⊎ (slot ≡ j) → S j
      read S slot r j (inl s) = s
      read S slot r j (inr e) = subst S e r

  still_added : (old new : VType) (cl : List VType) → Added cl → Added (replaced old new cl)
  still_added old new cl a j x = peek_replaced old new cl j ∙ (ap (λ u. one_replaced (is_same old u) u new) (a j x) ∙ ap (λ b. one_replaced b (more j) new) (steady j x old))

  makes_next : (S : ℕ → Type 0) (q : ℕ) (may : Bool) (fl fs cl : List VType) (g : Types) → Covers at S fl cl → Added cl →
      by_row P m q (Makes may) (plain fl fs) ≡ Ok g → Next (λ j. S j ⊎ ⊥) q (Makes may) fs cl g
  makes_next S q may fl fs cl g c a e =
      let old = Uninit q in
      let p4 = passed 4 _ _ g e in
      let p10 = passed 10 _ _ g p4.1 in
      let p13 = passed 13 _ _ g p10.1 in
      let cl' = replaced (Uninit (at q)) Top cl in
      record {
        fl' = replaced old Top fl;
        fs' = old ∷ fs;
        cl' = cl';
        is = sym (ok_same (plain (replaced old Top fl) (old ∷ fs)) g p13.1);
        steps = passes 4 _ _ (twin at (old ∷ fs) cl') (moved.room P W m w at same (old ∷ fs) p4.0)
            (passes 10 _ _ (twin at (old ∷ fs) cl') (ap (λ b. not b) (any_moved at same.differ old fs) ∙ p10.0)
            (passes 13 _ _ (twin at (old ∷ fs) cl') p13.0 refl));
        covers = λ j s n. covers_replaced at same.differ S fl cl old Top c j (only S j s) n;
        added = still_added (Uninit (at q)) Top cl a;
      }

  leaves_next : (S : ℕ → Type 0) (q : ℕ) (takes : List Operand) (also : List Further) (fl fs cl : List VType) (g : Types) → Covers at S fl cl → Added cl →
      by_row P m q (Leaves takes also) (plain fl fs) ≡ Ok g → Next (λ j. S j ⊎ ⊥) q (Leaves takes also) fs cl g
  leaves_next S q takes also fl fs cl g c a e =
      let p3 = passed 3 _ _ g e in
      let p5 = passed 5 _ _ g p3.1 in
      let p6 = moved.holds_further P W m w at same also fs (Ok (plain fl [])) g p5.1 in
      record {
        fl' = fl;
        fs' = [];
        cl' = cl;
        is = sym (ok_same (plain fl []) g p6.0);
        steps = passes 3 _ _ (twin at [] cl) (counts takes fs p3.0)
            (passes 5 _ _ (twin at [] cl) (moved.all_met P W m w at same takes fs p5.0) (p6.1 _ (twin at [] cl) refl));
        covers = λ j s n. c j (only S j s) n;
        added = a;
      }

  -- ---- constructors

  pub record Made (S : ℕ → Type 0) (class : ClassId) (gives : List VType) (after : List Further) (all d fs cl : List VType) (g : Types) : Type 0 where
    pub fl' : List VType
    pub fs' : List VType
    pub cl' : List VType
    pub is : g ≡ plain fl' fs'
    pub steps : constructed W w class (map (moved_type at) gives) (map (moved_further at) after) (map (moved_type at) d) (twin at all cl) ≡ Ok (twin at fs' cl')
    pub covers : Covers at S fl' cl'
    pub added : Added cl'

  given : (gives : List VType) (old new : VType) (s : List VType) → map (moved_type at) gives ++ replaced (moved_type at old) (moved_type at new) (map (moved_type at) s) ≡ map (moved_type at) (gives ++ replaced old new s)
  given gives old new s = ap (λ z. map (moved_type at) gives ++ z) (replaced_moved at same.differ old new s) ∙ sym (map-append (moved_type at) gives (replaced old new s))

  made_next : (S : ℕ → Type 0) (class : ClassId) (gives : List VType) (after : List Further) (fs d fl cl : List VType) (g : Types) → Covers at S fl cl → Added cl →
      constructed P m class gives after d (plain fl fs) ≡ Ok g → Made S class gives after fs d fs cl g
  made_next S class gives after fs (UninitThis ∷ s) fl cl g c a e =
      let new = class_vtype m.owner in
      let p10 = passed 10 _ _ g e in
      let fs' = gives ++ replaced UninitThis new s in
      let fl' = replaced UninitThis new fl in
      let p = moved.holds_further P W m w at same after fs (Ok (plain fl' fs')) g p10.1 in
      let cl' = replaced UninitThis new cl in
      record {
        fl' = fl';
        fs' = fs';
        cl' = cl';
        is = sym (ok_same (plain fl' fs') g p.0);
        steps = ap (λ o. rule 10 (eqb class.0 o.0 || is_class class (superclass_at (class_at W o))) (further W (map (moved_further at) after) (map (moved_type at) fs) (Ok (record { locals = replaced UninitThis (class_vtype o) cl; stack = map (moved_type at) gives ++ replaced UninitThis (class_vtype o) (map (moved_type at) s); unset = false })))) same.owner
            ∙ passes 10 _ _ (twin at fs' cl') (ap (λ o. eqb class.0 m.owner.0 || is_class class o) same.above ∙ p10.0)
            (p.1 _ (twin at fs' cl') (ap (λ z. Ok (record { locals = cl'; stack = z; unset = false })) (given gives UninitThis new s)));
        covers = covers_replaced at same.differ S fl cl UninitThis new c;
        added = still_added UninitThis new cl a;
      }
  made_next S class gives after fs (Uninit q ∷ s) fl cl g c a e =
      let old = Uninit q in
      let new = class_vtype class in
      let p10 = passed 10 _ _ g e in
      let fs' = gives ++ replaced old new s in
      let fl' = replaced old new fl in
      let p = moved.holds_further P W m w at same after fs (Ok (plain fl' fs')) g p10.1 in
      let cl' = replaced (Uninit (at q)) new cl in
      let there = is_some_class class (made_at m.code q) p10.0 in
      record {
        fl' = fl';
        fs' = fs';
        cl' = cl';
        is = sym (ok_same (plain fl' fs') g p.0);
        steps = passes 10 _ _ (twin at fs' cl') (ap (is_class class) (same.made q there.0 there.1) ∙ (ap (is_class class) (sym there.1) ∙ p10.0))
            (p.1 _ (twin at fs' cl') (ap (λ z. Ok (record { locals = cl'; stack = z; unset = false })) (given gives old new s)));
        covers = covers_replaced at same.differ S fl cl old new c;
        added = still_added (Uninit (at q)) new cl a;
      }
  made_next S class gives after fs d fl cl g c a e = absurd (cc)

  constructs_next : (S : ℕ → Type 0) (q : ℕ) (takes : List Operand) (gives : List VType) (class : ClassId) (before after : List Further) (fl fs cl : List VType) (g : Types) → Covers at S fl cl → Added cl →
      by_row P m q (Constructs takes gives class before after) (plain fl fs) ≡ Ok g → Next (λ j. S j ⊎ ⊥) q (Constructs takes gives class before after) fs cl g
  constructs_next S q takes gives class before after fl fs cl g c a e =
      let mt = moved_type at in
      let k = length-map takes (moved_operand at) in
      let p3 = passed 3 _ _ g e in
      let p4 = passed 4 _ _ g p3.1 in
      let p5 = passed 5 _ _ g p4.1 in
      let d = drop (length takes) fs in
      let p6 = moved.holds_further P W m w at same before fs (constructed P m class gives after d (plain fl fs)) g p5.1 in
      let t = made_next S class gives after fs d fl cl g c a p6.0 in
      record {
        fl' = t.fl';
        fs' = t.fs';
        cl' = t.cl';
        is = t.is;
        steps = passes 3 _ _ (twin at t.fs' t.cl') (ap (λ n. has_operands (suc n) (map mt fs)) k ∙ moved.enough P W m w at same (suc (length takes)) fs p3.0)
            (passes 4 _ _ (twin at t.fs' t.cl')
            (ap (λ n. room_for w (map mt gives) (drop (suc n) (map mt fs))) k ∙ (ap (room_for w (map mt gives)) (drop-map mt (suc (length takes)) fs) ∙ moved.room_given P W m w at same gives (drop (suc (length takes)) fs) p4.0))
            (passes 5 _ _ (twin at t.fs' t.cl') (moved.all_met P W m w at same takes fs p5.0)
            (p6.1 _ (twin at t.fs' t.cl') (ap (λ n. constructed W w class (map mt gives) (map (moved_further at) after) (drop n (map mt fs)) (twin at fs cl)) k ∙ (ap (λ z. constructed W w class (map mt gives) (map (moved_further at) after) z (twin at fs cl)) (drop-map mt (length takes) fs) ∙ t.steps)))));
        covers = λ j s n. t.covers j (only S j s) n;
        added = t.added;
      }

  -- ---- every row

  pub row_next : (S : ℕ → Type 0) (q : ℕ) (r : Row) (fl fs cl : List VType) (g : Types) → FirmRow P r → ((j : ℕ) → RowReads r j → S j) → Covers at S fl cl → Added cl →
      by_row P m q r (plain fl fs) ≡ Ok g → Next (λ j. S j ⊎ RowWrites r fs j) q r fs cl g
  row_next S q (Takes takes gives also) fl fs cl g firm reads c a e = takes_next S q takes gives also fl fs cl g c a e
  row_next S q Element fl fs cl g firm reads c a e = element_next S q fl fs cl g c a e
  row_next S q (Shuffles form) fl fs cl g firm reads c a e = shuffles_next S q form fl fs cl g c a e
  row_next S q (Loads o slot) fl fs cl g firm reads c a e = loads_next S q o slot fl fs cl g firm (reads slot refl) c a e
  row_next S q (Stores o slot) fl fs cl g firm reads c a e = stores_next S q o slot fl fs cl g c a e
  row_next S q (Adds slot) fl fs cl g firm reads c a e = adds_next S q slot fl fs cl g (reads slot refl) c a e
  row_next S q (Makes may) fl fs cl g firm reads c a e = makes_next S q may fl fs cl g c a e
  row_next S q (Constructs takes gives class before after) fl fs cl g firm reads c a e = constructs_next S q takes gives class before after fl fs cl g c a e
  row_next S q (Leaves takes also) fl fs cl g firm reads c a e = leaves_next S q takes also fl fs cl g c a e
