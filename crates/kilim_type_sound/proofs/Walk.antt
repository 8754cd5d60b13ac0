-- Where control goes on, the frame of verification stands, and what fits the frame that flows there fits it.
use Rattle.std.proofs.Common.{◌≡◌, ◌⊎◌, inl, inr, ℕ, Bool, true, false, cond, eqb, List, [], ◌∷◌, ◌++◌, length, Option, Some, None, Ok, refl, sym, ap, subst, ◌∙◌}
use mathlib.Core.List.{reverse_aux}
use Rattle.std.specs.Prelude.{◌&&◌, ◌||◌, not, nat_le, is_some, slice_get, reverse}
use Rattle.std.specs.List.{list_any, list_all}
use Rattle.std.proofs.lemmas.Bool.{and_parts, and_from, eqb-true, eq-eqb}
use Rattle.kilim_program.specs.declared.class.Method.{Method}
use Rattle.kilim_program.specs.declared.instr.Instr.{Instr}
use Rattle.kilim_program.specs.declared.ty.Ty.{Ty}
use Rattle.kilim_program.specs.declared.value.Value.{Value}
use Rattle.kilim_program.specs.declared.verified.Frame.{Frame}
use Rattle.kilim_program.specs.declared.verified.VType.{VType}
use Rattle.kilim_program.specs.declared.verified.VType.TheVariants.{Top, Int, Long, Null, UninitThis, Uninit, Object}
use Rattle.kilim_program.specs.Program.{Program}
use Rattle.kilim_program.specs.Lengths.{jump_targets, ends_path, is_code_place}
use Rattle.kilim_program.specs.Same.{is_constructor}
use Rattle.kilim_program.specs.Lengths.{fetched, first_place}
use Rattle.kilim_program.specs.Fits.{fits_type}
use Rattle.kilim_type_spec.specs.Step.{Types, peek, is_top, is_unset_this, words, assignable, type_step}
use Rattle.kilim_type_spec.specs.Typed.{frame_types, frame_in, declared, frame_fits, stands_at_new, halves, is_proper, all_assignable, FlowsInto, Jumps, Here, goes_on, TypedBy, WellTypedBy, Among, edges}
use Rattle.kilim_type_sound.specs.Fits.{Classes, refers, has_type, have_types, Holds, LocalsFit, Awaited, Nothing, AValue, AReference, StackFits}
use Rattle.kilim_type_sound.specs.Facts.{Ordered}
use Rattle.kilim_type_sound.proofs.Basics.{of_through, assigned}

pub or_none : (a b : Bool) → (a || b) ≡ false → (a ≡ false) × (b ≡ false)
or_none true b e = absurd (cc)
or_none false b e = (refl, e)

pub none_from : (a b : Bool) → a ≡ false → b ≡ false → (a || b) ≡ false
none_from true b e d = absurd (cc)
none_from false b e d = d

pub is_not : (b : Bool) → not b ≡ true → b ≡ false
is_not true e = absurd (cc)
is_not false e = refl

none_aux : {A : Type 0} (f : A → Bool) (xs acc : List A) → list_any f xs ≡ false → list_any f acc ≡ false → list_any f (reverse_aux xs acc) ≡ false
none_aux f [] acc h k = k
none_aux f (x ∷ xs) acc h k = let hs = or_none (f x) (list_any f xs) h in none_aux f xs (x ∷ acc) hs.1 (none_from (f x) (list_any f acc) hs.0 k)

none_reverse : {A : Type 0} (f : A → Bool) (xs : List A) → list_any f xs ≡ false → list_any f (reverse xs) ≡ false
none_reverse f xs h = none_aux f xs [] h refl

-- ---- places

pub is_there : (es : List (ℕ × Instr)) (end q : ℕ) → is_code_place es q ≡ true → is_some (fetched es end q) ≡ true
is_there [] end q h = absurd (cc)
is_there (e ∷ es) end q h = by_test (eqb e.0 q) h (is_there es end q)
  where
    by_test : (b : Bool) → (b || is_code_place es q) ≡ true → (is_code_place es q ≡ true → is_some (fetched es end q) ≡ true) → is_some (cond b (Some (e.1, first_place es end)) (fetched es end q)) ≡ true
    by_test true h again = refl
    by_test false h again = again h

pub later : (e : ℕ × Instr) (es : List (ℕ × Instr)) (q : ℕ) → is_code_place es q ≡ true → is_code_place (e ∷ es) q ≡ true
later e es q h = by_test (eqb e.0 q)
  where
    by_test : (b : Bool) → (b || is_code_place es q) ≡ true
    by_test true = refl
    by_test false = h

pub first : (e : ℕ × Instr) (es : List (ℕ × Instr)) → is_code_place (e ∷ es) e.0 ≡ true
first e es = subst (λ (b : Bool). (b || is_code_place es e.0) ≡ true) (sym (eq-eqb e.0 e.0 refl)) refl

module _ (p : Program) (m : Method) (typing : ℕ → Types) where
  -- as flow, or into a declared frame, which has no Top on its stack
  abbrev pub Flows : Types → Types → Type 0
  Flows g f = (g ≡ f) ⊎ (FlowsInto p g f × (list_any is_top f.stack ≡ false))

  fourth : (a b c d e : Bool) → (a && (b && (c && (d && e)))) ≡ true → d ≡ true
  fourth a b c d e h = (and_parts d e (and_parts c (d && e) (and_parts b (c && (d && e)) (and_parts a (b && (c && (d && e))) h).1).1).1).0

  abbrev others : ℕ × Frame → Bool
  others e = list_all (stands_at_new m) (e.1.locals ++ e.1.stack) && (halves e.1.locals && (list_all is_proper (e.1.locals ++ e.1.stack) && (is_constructor m || not (list_any is_unset_this (e.1.locals ++ e.1.stack)))))

  no_top : (e : ℕ × Frame) → frame_fits m e ≡ true → list_any is_top (frame_types e.1).stack ≡ false
  no_top e h = none_reverse is_top e.1.stack (is_not (list_any is_top e.1.stack)
      (fourth (is_code_place m.code e.0) (nat_le (length e.1.locals) m.max_locals) (nat_le (words e.1.stack) m.max_stack) (not (list_any is_top e.1.stack)) (others e) h))

  stands_there : (e : ℕ × Frame) → frame_fits m e ≡ true → is_code_place m.code e.0 ≡ true
  stands_there e h = (and_parts (is_code_place m.code e.0) (nat_le (length e.1.locals) m.max_locals && (nat_le (words e.1.stack) m.max_stack && (not (list_any is_top e.1.stack) && others e))) h).0

  pub record Declared (at : ℕ) (d : Types) : Type 0 where
    pub place : is_code_place m.code at ≡ true
    pub plain : list_any is_top d.stack ≡ false

  pub declared_in : (es : List (ℕ × Frame)) (at : ℕ) (d : Types) → list_all (frame_fits m) es ≡ true → frame_in es at ≡ Some d → Declared at d
  declared_in [] at d h k = absurd (cc)
  declared_in (e ∷ es) at d h k = by_test (eqb e.0 at) refl k (declared_in es at d)
    where
      hs : (frame_fits m e ≡ true) × (list_all (frame_fits m) es ≡ true)
      hs = and_parts (frame_fits m e) (list_all (frame_fits m) es) h

      by_test : (b : Bool) → eqb e.0 at ≡ b → cond b (Some (frame_types e.1)) (frame_in es at) ≡ Some d → (list_all (frame_fits m) es ≡ true → frame_in es at ≡ Some d → Declared at d) → Declared at d
      by_test true t k again =
          let is : frame_types e.1 ≡ d = cc in
          record {
            place = subst (λ (q : ℕ). is_code_place m.code q ≡ true) (eqb-true e.0 at t) (stands_there e hs.0);
            plain = subst (λ (z : Types). list_any is_top z.stack ≡ false) is (no_top e hs.0);
          }
      by_test false t k again = again hs.1 k

  -- ---- the walk

  pub here_flows : (frames : list_all (frame_fits m) m.frames ≡ true) (at : ℕ) (g f : Types) (o : Option Types) → declared m at ≡ o → Here p (Some g) o f → Flows g f
  here_flows frames at g f None e h = inl (sym h)
  here_flows frames at g f (Some d) e h = inr (subst (λ (z : Types). FlowsInto p g z × (list_any is_top z.stack ≡ false)) (sym h.0) (h.1, (declared_in m.frames at d frames e).plain))

  pub record Stands (at : ℕ) (i : Instr) (next : ℕ) : Type 0 where
    pub after : Types
    pub step : type_step p m at i (typing at) ≡ Ok after
    pub jumps : Jumps p m after (jump_targets i)
    pub on : ends_path i ≡ false → (is_code_place m.code next ≡ true) × Flows after (typing next)

  module _ (frames : list_all (frame_fits m) m.frames ≡ true) where
    next_of : (g : Types) (es : List (ℕ × Instr)) (end : ℕ) → TypedBy p m typing (Some g) es → (is_code_place es (first_place es end) ≡ true) × Flows g (typing (first_place es end))
    next_of g [] end h = absurd (cc)
    next_of g (e ∷ es) end h = (first e es, here_flows frames e.0 g (typing e.0) (declared m e.0) refl h.0)

    pub stands : (flow : Option Types) (es : List (ℕ × Instr)) (end at : ℕ) (i : Instr) (next : ℕ) → ((q : ℕ) → is_code_place es q ≡ true → is_code_place m.code q ≡ true) → TypedBy p m typing flow es → fetched es end at ≡ Some (i, next) → Stands at i next
    stands flow [] end at i next within h k = absurd (cc)
    stands flow (e ∷ es) end at i next within h k = by_test (eqb e.0 at) refl k (stands (goes_on (ends_path e.1) h.1) es end at i next (λ q z. within q (later e es q z)) h.4)
      where
        here : (is : e.0 ≡ at) → (j : e.1 ≡ i) → (n : first_place es end ≡ next) → Stands at i next
        here is j n = subst (λ (q : ℕ). Stands at i q) n (subst (λ (x : Instr). Stands at x (first_place es end)) j (subst (λ (q : ℕ). Stands q e.1 (first_place es end)) is
            (record {
              after = h.1;
              step = h.2;
              jumps = h.3;
              on = λ z. let t = next_of h.1 es end (subst (λ (b : Bool). TypedBy p m typing (goes_on b h.1) es) z h.4) in (within (first_place es end) (later e es (first_place es end) t.0), t.1);
            })))

        by_test : (b : Bool) → eqb e.0 at ≡ b → cond b (Some (e.1, first_place es end)) (fetched es end at) ≡ Some (i, next) → (fetched es end at ≡ Some (i, next) → Stands at i next) → Stands at i next
        by_test true t k again = let pair : (e.1, first_place es end) ≡ (i, next) = cc in here (eqb-true e.0 at t) (ap (λ (z : Instr × ℕ). z.0) pair) (ap (λ (z : Instr × ℕ). z.1) pair)
        by_test false t k again = again k

    here_is : (flow : Option Types) (d f : Types) → Here p flow (Some d) f → f ≡ d
    here_is None d f h = h
    here_is (Some g) d f h = h.0

    pub typed_at : (flow : Option Types) (es : List (ℕ × Instr)) (q : ℕ) (d : Types) → TypedBy p m typing flow es → is_code_place es q ≡ true → declared m q ≡ Some d → typing q ≡ d
    typed_at flow [] q d h c k = absurd (cc)
    typed_at flow (e ∷ es) q d h c k = by_test (eqb e.0 q) refl c (typed_at (goes_on (ends_path e.1) h.1) es q d h.4)
      where
        by_test : (b : Bool) → eqb e.0 q ≡ b → (b || is_code_place es q) ≡ true → (is_code_place es q ≡ true → declared m q ≡ Some d → typing q ≡ d) → typing q ≡ d
        by_test true t c again = subst (λ (z : ℕ). typing z ≡ d) (eqb-true e.0 q t)
            (here_is flow d (typing e.0) (subst (λ (o : Option Types). Here p flow o (typing e.0)) (ap (declared m) (eqb-true e.0 q t) ∙ k) h.0))
        by_test false t c again = again c k

  pub record Reached (g : Types) (q : ℕ) : Type 0 where
    pub place : is_code_place m.code q ≡ true
    pub flows : Flows g (typing q)

  module _ (well : WellTypedBy p m typing) where
    pub stands_at : (at : ℕ) (i : Instr) (next : ℕ) → fetched m.code m.code_length at ≡ Some (i, next) → Stands at i next
    stands_at at i next k = stands well.frames _ m.code m.code_length at i next (λ q z. z) well.walk k

    jump_reached : (g : Types) (tos : List ℕ) (q : ℕ) → Jumps p m g tos → Among tos q → Reached g q
    jump_reached g [] q js a = absurd a
    jump_reached g (to ∷ tos) q js (inl e) =
        let d = js.0.0 in
        let fit = declared_in m.frames to d well.frames js.0.1 in
        let is = typed_at well.frames _ m.code to d well.walk fit.place js.0.1 in
        subst (λ (z : ℕ). Reached g z) e (record { place = fit.place; flows = inr (subst (λ (z : Types). FlowsInto p g z × (list_any is_top z.stack ≡ false)) (sym is) (js.0.2, fit.plain)) })
    jump_reached g (to ∷ tos) q js (inr a) = jump_reached g tos q js.1 a

    pub reached : (at : ℕ) (i : Instr) (next q : ℕ) (s : Stands at i next) → Among (edges i next) q → Reached s.after q
    reached at i next q s a = by_test (ends_path i) refl a
      where
        by_test : (b : Bool) → ends_path i ≡ b → Among (cond b (jump_targets i) (next ∷ jump_targets i)) q → Reached s.after q
        by_test true e a = jump_reached s.after (jump_targets i) q s.jumps a
        by_test false e (inl z) = let n = s.on e in subst (λ (x : ℕ). Reached s.after x) z (record { place = n.0; flows = n.1 })
        by_test false e (inr a) = jump_reached s.after (jump_targets i) q s.jumps a

-- ---- what fits flows

module _ (p : Program) (order : Ordered p) (m : Method) (of : Classes) where
  holds_assigned : (t u : VType) (o : Option Value) → assignable p t u ≡ true → Holds p m of t o → Holds p m of u o
  holds_assigned t Top o a h = tt
  holds_assigned Int Int o a h = h
  holds_assigned Long Long o a h = h
  holds_assigned Null Null o a h = h
  holds_assigned UninitThis UninitThis o a h = h
  holds_assigned (Uninit q) (Uninit r) o a h = subst (λ (z : ℕ). Holds p m of (Uninit z) o) (eqb-true q r a) h
  holds_assigned Null (Object ty) None a h = h
  holds_assigned Null (Object ty) (Some v) a h = assigned p order m of Null (Object ty) v a refl h
  holds_assigned (Object b) (Object c) None a h = h
  holds_assigned (Object b) (Object c) (Some v) a h = assigned p order m of (Object b) (Object c) v a refl h
  holds_assigned t u o a h = absurd (cc)

  pub through_type : (t u w : VType) → assignable p t u ≡ true → assignable p u w ≡ true → is_top u ≡ false → assignable p t w ≡ true
  through_type t Top w a b n = absurd (cc)
  through_type Int Int w a b n = b
  through_type Long Long w a b n = b
  through_type Null Null w a b n = b
  through_type UninitThis UninitThis w a b n = b
  through_type (Uninit q) (Uninit r) w a b n = subst (λ (z : ℕ). assignable p (Uninit z) w ≡ true) (sym (eqb-true q r a)) b
  through_type Null (Object ty) w a b n = null_through ty w b
    where
      null_through : (ty : Ty) (w : VType) → assignable p (Object ty) w ≡ true → assignable p Null w ≡ true
      null_through ty Top b = refl
      null_through ty (Object c) b = refl
      null_through ty w b = absurd (cc)
  through_type (Object t) (Object u) w a b n = objects t u w a b
    where
      objects : (t u : Ty) (w : VType) → fits_type p t u ≡ true → assignable p (Object u) w ≡ true → assignable p (Object t) w ≡ true
      objects t u Top a b = refl
      objects t u (Object w) a b = order.through t u w a b
      objects t u w a b = absurd (cc)
  through_type t u w a b n = absurd (cc)

  pub refers_assigned : (t u : VType) (c : Option Ty) → assignable p t u ≡ true → is_top u ≡ false → refers p m t c ≡ true → refers p m u c ≡ true
  refers_assigned t Top c a n h = absurd (cc)
  refers_assigned Int Int c a n h = h
  refers_assigned Long Long c a n h = h
  refers_assigned Null Null c a n h = h
  refers_assigned Null (Object ty) c a n h = absurd (cc)
  refers_assigned UninitThis UninitThis c a n h = h
  refers_assigned (Uninit q) (Uninit r) c a n h = subst (λ (z : ℕ). refers p m (Uninit z) c ≡ true) (eqb-true q r a) h
  refers_assigned (Object b) (Object d) c a n h = of_through p order m of c b d h a
  refers_assigned t u c a n h = absurd (cc)

  stack_assigned : (ts us : List VType) (vs : List Value) → all_assignable p ts us ≡ true → list_any is_top us ≡ false → have_types p m of ts vs ≡ true → have_types p m of us vs ≡ true
  stack_assigned [] [] vs a n h = h
  stack_assigned (t ∷ ts) (u ∷ us) [] a n h = absurd (cc)
  stack_assigned (t ∷ ts) (u ∷ us) (v ∷ vs) a n h =
      let as1 = and_parts (assignable p t u) (all_assignable p ts us) a in
      let ns = or_none (is_top u) (list_any is_top us) n in
      let hs = and_parts (has_type p m of t v) (have_types p m of ts vs) h in
      and_from (has_type p m of u v) (have_types p m of us vs) (assigned p order m of t u v as1.0 ns.0 hs.0) (stack_assigned ts us vs as1.1 ns.1 hs.1)
  stack_assigned ts us vs a n h = absurd (cc)

  awaiting : (w : Awaited) (ts us : List VType) (vs : List Value) → all_assignable p ts us ≡ true → list_any is_top us ≡ false → StackFits p m of w ts vs → StackFits p m of w us vs
  awaiting Nothing ts us vs a n h = stack_assigned ts us vs a n h
  awaiting (AValue t) [] us vs a n h = absurd h
  awaiting (AReference c) [] us vs a n h = absurd h
  awaiting (AValue t) (x ∷ ts) [] vs a n h = absurd (cc)
  awaiting (AReference c) (x ∷ ts) [] vs a n h = absurd (cc)
  awaiting (AValue t) (x ∷ ts) (u ∷ us) vs a n h =
      let as1 = and_parts (assignable p x u) (all_assignable p ts us) a in
      let ns = or_none (is_top u) (list_any is_top us) n in
      (through_type t x u h.0 as1.0 h.1, ns.0, stack_assigned ts us vs as1.1 ns.1 h.2)
  awaiting (AReference c) (x ∷ ts) (u ∷ us) vs a n h =
      let as1 = and_parts (assignable p x u) (all_assignable p ts us) a in
      let ns = or_none (is_top u) (list_any is_top us) n in
      (refers_assigned x u c as1.0 ns.0 h.0, stack_assigned ts us vs as1.1 ns.1 h.1)

  pub flows_stack : (w : Awaited) (g f : Types) (vs : List Value) → (g ≡ f) ⊎ (FlowsInto p g f × (list_any is_top f.stack ≡ false)) → StackFits p m of w g.stack vs → StackFits p m of w f.stack vs
  flows_stack w g f vs (inl e) h = subst (λ (z : Types). StackFits p m of w z.stack vs) e h
  flows_stack w g f vs (inr e) h = awaiting w g.stack f.stack vs e.0.stack e.1 h

  pub flows_locals : (wanted : ℕ → Bool) (g f : Types) (ls : List Value) → (g ≡ f) ⊎ (FlowsInto p g f × (list_any is_top f.stack ≡ false)) → LocalsFit p m of wanted g.locals ls → LocalsFit p m of wanted f.locals ls
  flows_locals wanted g f ls (inl e) h = subst (λ (z : Types). LocalsFit p m of wanted z.locals ls) e h
  flows_locals wanted g f ls (inr e) h = record { room = h.room; slots = λ k w. holds_assigned (peek g.locals k) (peek f.locals k) (slice_get ls k) (e.0.locals k) (h.slots k w) }
