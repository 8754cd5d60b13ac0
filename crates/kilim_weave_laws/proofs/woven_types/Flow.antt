-- What flows to a place with a declared frame in the old code, flows there in woven code, where dead locals are Top.
use Rattle.std.proofs.Common.{◌≡◌, ◌⊎◌, inl, inr, ℕ, zero, suc, ◌+◌, ◌<◌, ◌≤◌, Bool, true, false, eqb, cond, List, [], ◌∷◌, ◌++◌, map, refl, sym, ap, ◌∙◌, arith, eq-eqb, ne_eqb}
use Rattle.std.specs.Prelude.{nat_lt, ◌-◌, if◌then◌else◌}
use Rattle.std.proofs.lemmas.Bool.{and_parts, and_from, false≢true}
use Rattle.std.proofs.lemmas.Bool.Decides.{leb_tells}
use Rattle.std.proofs.lemmas.List.{reverse-reverse}
use Rattle.kilim_program.specs.declared.class.Method.{Method}
use Rattle.kilim_program.specs.declared.verified.VType.{VType}
use Rattle.kilim_program.specs.declared.verified.VType.TheVariants.{Top, Int, Long, Null, UninitThis, Uninit, Object}
use Rattle.kilim_program.specs.Program.{Program}
use Rattle.kilim_program.specs.Same.{argument_slots}
use Rattle.kilim_type_spec.specs.Step.{peek, is_top, is_same, assignable, class_vtype}
use Rattle.kilim_type_spec.specs.Typed.{frame_types, FlowsInto, all_assignable}
use Rattle.kilim_weave_spec.specs.Woven.{Plan, fiber, larger, fiber_slot, self_slot, moved_type, slots_from, added_types, live_type, kept_local, old_frame}
use Rattle.kilim_weave_laws.specs.woven_types.Facts.{Whole}
use Rattle.kilim_weave_laws.proofs.woven_types.Moved.{assigned}
use Rattle.kilim_weave_laws.proofs.woven_types.Locals.{Covers, no_slot}
use Rattle.kilim_weave_laws.proofs.woven_types.Crux.{plain, twin}

-- ---- slots

pub peek_slots : (k n : ℕ) (f : ℕ → VType) (rest : List VType) (j : ℕ) → j < n → peek (slots_from k n f ++ rest) j ≡ f (k + j)
peek_slots k zero f rest j h = absurd (omega (arith, h))
peek_slots k (suc n) f rest zero h = ap f (omega arith)
peek_slots k (suc n) f rest (suc j) h = peek_slots (suc k) n f rest j (omega (arith, h)) ∙ ap f (omega arith)

pub peek_behind : (k n : ℕ) (f : ℕ → VType) (rest : List VType) (i j : ℕ) → j ≡ n + i → peek (slots_from k n f ++ rest) j ≡ peek rest i
peek_behind k zero f rest i j e = ap (peek rest) (let x : j ≡ i = omega (arith, e) in x)
peek_behind k (suc n) f rest i zero e = absurd (omega (arith, e))
peek_behind k (suc n) f rest i (suc j) e = peek_behind (suc k) n f rest i j (omega (arith, e))

pub is_zero : (i : ℕ) → (i ≡ 0) ⊎ (1 ≤ i)
is_zero zero = inl refl
is_zero (suc i) = inr (omega arith)

-- ---- the added locals

abbrev pub Extra : Plan → ℕ → Type 0
Extra x j = (fiber_slot x.method ≡ j) ⊎ ((x.method.is_static ≡ false) × (self_slot x.method ≡ j))

abbrev pub extra_type : Plan → ℕ → VType
extra_type x j = if eqb (fiber_slot x.method) j then fiber x.program else class_vtype x.method.owner

larger_by : (b : Bool) (l r : ℕ) → nat_lt l r ≡ b → (l ≤ cond b r l) × (r ≤ cond b r l)
larger_by true l r e = (let t = leb_tells (suc l) r in elim t [ inl y ↦ let z = y.1 in omega (arith, z) | inr y ↦ let z = y.0 in absurd (cc) ], omega arith)
larger_by false l r e = (omega arith, let t = leb_tells (suc l) r in elim t [ inl y ↦ let z = y.0 in absurd (cc) | inr y ↦ let z = y.1 in omega (arith, z) ])

pub is_larger : (l r : ℕ) → (l ≤ larger l r) × (r ≤ larger l r)
is_larger l r = larger_by (nat_lt l r) l r refl

pub extra_apart : (x : Plan) (j : ℕ) → Extra x j → x.method.max_locals ≤ j
extra_apart x j (inl e) = let h = (is_larger x.method.max_locals (suc (argument_slots x.method))).0 in omega (arith, h, e)
extra_apart x j (inr e) = let h = (is_larger x.method.max_locals (suc (argument_slots x.method))).0 in let y = e.1 in omega (arith, h, y)

no_object_same : (t : VType) (b : Bool) (x : Plan) → is_same t (cond b (fiber x.program) (class_vtype x.method.owner)) ≡ false
no_object_same UninitThis true x = refl
no_object_same UninitThis false x = refl
no_object_same (Uninit q) true x = refl
no_object_same (Uninit q) false x = refl
no_object_same Top b x = refl
no_object_same Int b x = refl
no_object_same Long b x = refl
no_object_same Null b x = refl
no_object_same (Object ty) b x = refl

pub extra_steady : (x : Plan) (j : ℕ) → Extra x j → (t : VType) → is_same t (extra_type x j) ≡ false
extra_steady x j e t = no_object_same t (eqb (fiber_slot x.method) j) x

abbrev pub Kept : Plan → List VType → Type 0
Kept x cl = (j : ℕ) → Extra x j → peek cl j ≡ extra_type x j

pub has_fiber : (x : Plan) (cl : List VType) → Kept x cl → peek cl (fiber_slot x.method) ≡ fiber x.program
has_fiber x cl k = k (fiber_slot x.method) (inl refl) ∙ ap (λ b. cond b (fiber x.program) (class_vtype x.method.owner)) (eq-eqb (fiber_slot x.method) (fiber_slot x.method) refl)

pub has_self : (x : Plan) (cl : List VType) → Kept x cl → x.method.is_static ≡ false → peek cl (self_slot x.method) ≡ class_vtype x.method.owner
has_self x cl k s = k (self_slot x.method) (inr (s, refl)) ∙ ap (λ b. cond b (fiber x.program) (class_vtype x.method.owner)) (ne_eqb (fiber_slot x.method) (self_slot x.method) (λ e. omega (arith, e)))

-- ---- flow

module _ (x : Plan) (W : Program) (w : Method) (whole : Whole x W w) where
  pub to_itself : (t : VType) → assignable W t t ≡ true
  to_itself t = whole.shared.assigns t t (whole.itself t)

  top_from : (a : VType) → assignable x.program Top a ≡ true → is_top a ≡ true
  top_from Top h = refl
  top_from a h = absurd (false≢true h)

  to_top : (t a : VType) → is_top a ≡ true → assignable W t (moved_type x.at a) ≡ true
  to_top t Top h = refl
  to_top t a h = absurd (false≢true h)

  is_the_top : (t : VType) → is_top t ≡ true → t ≡ Top
  is_the_top Top h = refl
  is_the_top t h = absurd (false≢true h)

  -- a slot that is live where the flow goes
  live_slot : (b : Bool) (f c d : VType) → is_top f ≡ b → (b ≡ false → c ≡ moved_type x.at f) → assignable x.program f d ≡ true → assignable W c (moved_type x.at d) ≡ true
  live_slot true f c d e k h = to_top c d (top_from d (ap (λ t. assignable x.program t d) (sym (is_the_top f e)) ∙ h))
  live_slot false f c d e k h = ap (λ t. assignable W t (moved_type x.at d)) (k refl) ∙ assigned x.program W x.method w x.at whole.shared f d h

  cut_slot : (b : Bool) (f c d : VType) → (b ≡ true → is_top f ≡ false → c ≡ moved_type x.at f) → assignable x.program f d ≡ true → assignable W c (live_type b (moved_type x.at d)) ≡ true
  cut_slot true f c d k h = live_slot (is_top f) f c d refl (k refl) h
  cut_slot false f c d k h = refl

  -- the slots of the fiber and of the receiver, and those behind
  added_slot : (b : Bool) (cl : List VType) → x.method.is_static ≡ b → Kept x cl → (i : ℕ) → assignable W (peek cl (fiber_slot x.method + i)) (peek (fiber x.program ∷ (cond b [] (class_vtype x.method.owner ∷ []))) i) ≡ true
  added_slot b cl s k zero = ap (λ j. assignable W (peek cl j) (fiber x.program)) (let e : fiber_slot x.method + 0 ≡ fiber_slot x.method = omega arith in e) ∙ (ap (λ t. assignable W t (fiber x.program)) (has_fiber x cl k) ∙ to_itself (fiber x.program))
  added_slot true cl s k (suc i) = ap (λ t. assignable W (peek cl (fiber_slot x.method + suc i)) t) (no_slot i)
  added_slot false cl s k (suc zero) = ap (λ j. assignable W (peek cl j) (class_vtype x.method.owner)) (let e : fiber_slot x.method + 1 ≡ self_slot x.method = omega arith in e) ∙ (ap (λ t. assignable W t (class_vtype x.method.owner)) (has_self x cl k s) ∙ to_itself (class_vtype x.method.owner))
  added_slot false cl s k (suc (suc i)) = ap (λ t. assignable W (peek cl (fiber_slot x.method + suc (suc i))) t) (no_slot i)

  pub all_assigned : (ss ds : List VType) → all_assignable x.program ss ds ≡ true → all_assignable W (map (moved_type x.at) ss) (map (moved_type x.at) ds) ≡ true
  all_assigned [] [] h = refl
  all_assigned [] (d ∷ ds) h = absurd (cc)
  all_assigned (s ∷ ss) [] h = absurd (cc)
  all_assigned (s ∷ ss) (d ∷ ds) h =
      let p = and_parts (assignable x.program s d) (all_assignable x.program ss ds) h in
      and_from (assignable W (moved_type x.at s) (moved_type x.at d)) (all_assignable W (map (moved_type x.at) ss) (map (moved_type x.at) ds)) (assigned x.program W x.method w x.at whole.shared s d p.0) (all_assigned ss ds p.1)

  pub slot_flows : (g : ℕ → VType) (cl : List VType) → Kept x cl → ((j : ℕ) → j < fiber_slot x.method → assignable W (peek cl j) (g j) ≡ true) →
      (j : ℕ) → assignable W (peek cl j) (peek (slots_from 0 (fiber_slot x.method) g ++ added_types x) j) ≡ true
  slot_flows g cl k h j = elim (leb_tells (suc j) (fiber_slot x.method)) [
    | inl y ↦ ap (λ t. assignable W (peek cl j) t) (peek_slots 0 (fiber_slot x.method) g (added_types x) j y.1 ∙ ap g (omega arith)) ∙ h j y.1
    | inr y ↦ behind (j - fiber_slot x.method) (let z = y.1 in omega (arith, z))
  ]
    where
      behind : (i : ℕ) → j ≡ fiber_slot x.method + i → assignable W (peek cl j) (peek (slots_from 0 (fiber_slot x.method) g ++ added_types x) j) ≡ true
      behind i e =
          ap (λ t. assignable W (peek cl j) t) (peek_behind 0 (fiber_slot x.method) g (added_types x) i j e)
          ∙ (ap (λ z. assignable W (peek cl z) (peek (added_types x) i)) e ∙ added_slot x.method.is_static cl refl k i)

  -- the flow into the frame at an old place
  pub flows_old : (q : ℕ) (fl fs cl : List VType) → Covers x.at (λ j. x.live q j ≡ true) fl cl → Kept x cl → FlowsInto x.program (plain fl fs) (x.typing q) → FlowsInto W (twin x.at fs cl) (frame_types (old_frame x q))
  flows_old q fl fs cl c k f = record {
    locals = slot_flows (kept_local x q) cl k (λ j h. cut_slot (x.live q j) (peek fl j) (peek cl j) (peek (x.typing q).locals j) (λ live top. c j live top) (f.locals j));
    stack = ap (all_assignable W (map (moved_type x.at) fs)) (reverse-reverse (map (moved_type x.at) (x.typing q).stack)) ∙ all_assigned fs (x.typing q).stack f.stack;
    unset = λ e. absurd (false≢true e);
  }

  -- the frame at an old place is the twin of the old one
  covered_slot : (b : Bool) (t : VType) → b ≡ true → live_type b t ≡ t
  covered_slot true t h = refl
  covered_slot false t h = absurd (cc)

  pub old_covers : (q : ℕ) → ((j : ℕ) → is_top (peek (x.typing q).locals j) ≡ false → j < fiber_slot x.method) → Covers x.at (λ j. x.live q j ≡ true) (x.typing q).locals (slots_from 0 (fiber_slot x.method) (kept_local x q) ++ added_types x)
  old_covers q short j live top =
      peek_slots 0 (fiber_slot x.method) (kept_local x q) (added_types x) j (short j top)
      ∙ (ap (kept_local x q) (let e : 0 + j ≡ j = omega arith in e) ∙ covered_slot (x.live q j) (moved_type x.at (peek (x.typing q).locals j)) live)

  added_is : (b : Bool) → x.method.is_static ≡ b → (g : ℕ → VType) (j : ℕ) → Extra x j → peek (slots_from 0 (fiber_slot x.method) g ++ (fiber x.program ∷ cond b [] (class_vtype x.method.owner ∷ []))) j ≡ extra_type x j
  added_is b s g j (inl e) =
      peek_behind 0 (fiber_slot x.method) g (fiber x.program ∷ cond b [] (class_vtype x.method.owner ∷ [])) 0 j (omega (arith, e))
      ∙ sym (ap (λ z. cond z (fiber x.program) (class_vtype x.method.owner)) (eq-eqb (fiber_slot x.method) j e))
  added_is true s g j (inr e) = let a = e.0 in absurd (false≢true (sym a ∙ s))
  added_is false s g j (inr e) = let y = e.1 in
      peek_behind 0 (fiber_slot x.method) g (fiber x.program ∷ class_vtype x.method.owner ∷ []) 1 j (omega (arith, y))
      ∙ sym (ap (λ z. cond z (fiber x.program) (class_vtype x.method.owner)) (ne_eqb (fiber_slot x.method) j (λ n. omega (arith, n, y))))

  pub old_kept : (g : ℕ → VType) → Kept x (slots_from 0 (fiber_slot x.method) g ++ added_types x)
  old_kept g j e = added_is x.method.is_static refl g j e
