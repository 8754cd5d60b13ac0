-- The old code in its new form: pieces and groups.
use Rattle.std.proofs.Common.{◌≡◌, ◌⊎◌, inl, inr, ℕ, zero, suc, ◌+◌, ◌<◌, ◌≤◌, Bool, true, false, cond, ℤ, List, [], ◌∷◌, ◌++◌, map, length, Option, Some, None, Ok, refl, sym, ap, subst, ◌∙◌, arith}
use Rattle.std.specs.Prelude.{◌&&◌, ◌||◌, not, ◌-◌, is_some}
use Rattle.std.specs.List.{list_any}
use Rattle.std.proofs.lemmas.Bool.{and_parts, and_from, not-true}
use Rattle.std.proofs.lemmas.Bool.Decides.{leb_tells}
use Rattle.std.proofs.lemmas.List.{map-append, reverse-reverse}
use Rattle.kilim_program.specs.declared.class.Method.{Method}
use Rattle.kilim_program.specs.declared.instr.Instr.{Instr}
use Rattle.kilim_program.specs.declared.instr.Instr.TheVariants.{Lookupswitch, Ifeq, Invokevirtual, Invokespecial, Invokestatic}
use Rattle.kilim_program.specs.declared.verified.VType.{VType}
use Rattle.kilim_program.specs.declared.verified.VType.TheVariants.{Top, Int, Long, Null, UninitThis, Uninit, Object}
use Rattle.kilim_program.specs.Program.{Program}
use Rattle.kilim_program.specs.Lengths.{jump_targets, ends_path}
use Rattle.kilim_program.specs.Lengths.{first_place}
use Rattle.kilim_program.specs.Same.{argument_slots}
use Rattle.kilim_type_spec.specs.Step.{Types, peek, is_top, is_unset_this, size, words, class_vtype, result_types, Is, assignable, row, type_step}
use Rattle.kilim_type_spec.specs.Typed.{declared, frame_types, FlowsInto, all_assignable, Jumps, Here, goes_on, Typed, TypedBy, writes, edges, Among}
use Rattle.kilim_weave_spec.specs.Woven.{Plan, fiber, fiber_ty, member, fiber_slot, added_types, moved_type, moved_pairs, moved_instr, live_type, kept_local, slots_from, old_frame, resume_frame, frame_if, Item, Mark, Does, Old, added, load_fiber, calls_member, lay, leave, drop_result, group, piece, pieces, block, blocks, count, pausable_callee, below, taken, saved, saved_from, old_size}
use Rattle.kilim_weave_laws.specs.woven_types.Facts.{Whole, Stands, Savable, PlaceFacts, LawsAt, Facts, Marked, types_if, int_ty, is_savable}
use Rattle.kilim_weave_laws.proofs.woven_types.Locals.{Covers}
use Rattle.kilim_weave_laws.proofs.woven_types.Moved.{moved_words}
use Rattle.kilim_weave_laws.proofs.woven_types.Crux.{plain, twin}
use Rattle.kilim_weave_laws.proofs.woven_types.Rows.{moved_results}
use Rattle.kilim_weave_laws.proofs.woven_types.Old.{old_step}
use Rattle.kilim_weave_laws.proofs.woven_types.Flow.{Extra, extra_type, extra_apart, extra_steady, Kept}
use Rattle.kilim_weave_laws.proofs.woven_types.Flow as flow
use Rattle.kilim_weave_laws.proofs.woven_types.Added.{state, Runs, Starts}
use Rattle.kilim_weave_laws.proofs.woven_types.Added as add
use Rattle.kilim_weave_laws.proofs.woven_types.Saves as saves
use Rattle.kilim_weave_laws.proofs.woven_types.Leaves as leaves
use Rattle.kilim_weave_laws.proofs.woven_types.Calls.{call_takes}
use Rattle.kilim_weave_laws.proofs.woven_types.Calls as calls
use Rattle.kilim_weave_laws.proofs.woven_types.Forms.{words_drop}
use Rattle.kilim_weave_laws.proofs.woven_types.Resumes.{Fine, fine_tail, no_top_savable, resume_runs}
use Rattle.kilim_weave_laws.proofs.woven_types.Nothing.{none_is}

-- ---- targets of moved instructions

pairs_moved : (at : ℕ → ℕ) (es : List (ℤ × ℕ)) → map (λ pair. pair.1) (moved_pairs at es) ≡ map at (map (λ pair. pair.1) es)
pairs_moved at [] = refl
pairs_moved at (e ∷ es) = ap (λ z. at e.1 ∷ z) (pairs_moved at es)

targets_moved : (at : ℕ → ℕ) (i : Instr) → jump_targets (moved_instr at i) ≡ map at (jump_targets i)
unfolding jump_targets
targets_moved at (Lookupswitch default es) = ap (λ z. at default ∷ z) (pairs_moved at es)
targets_moved at i = refl

ends_moved : (at : ℕ → ℕ) (i : Instr) → ends_path (moved_instr at i) ≡ ends_path i
unfolding ends_path
ends_moved at (Lookupswitch default es) = refl
ends_moved at i = refl

-- a call goes on to the next place alone, and writes no local
pub record Straight (i : Instr) : Type 0 where
  pub targets : jump_targets i ≡ []
  pub goes : ends_path i ≡ false
  pub writes_none : (k : ℕ) → writes i k ≡ false
  pub edges_are : (to : ℕ) → edges i to ≡ to ∷ []

pub call_straight : (x : Plan) (i : Instr) (callee : Method) → pausable_callee x.program i ≡ Some callee → Straight i
unfolding jump_targets ends_path
call_straight x (Invokevirtual id) callee e = record { targets = refl; goes = refl; writes_none = λ k. refl; edges_are = λ to. refl }
call_straight x (Invokespecial id) callee e = record { targets = refl; goes = refl; writes_none = λ k. refl; edges_are = λ to. refl }
call_straight x (Invokestatic id) callee e = record { targets = refl; goes = refl; writes_none = λ k. refl; edges_are = λ to. refl }
call_straight x i callee e = absurd (none_is callee e)

-- ---- no frame of woven code has the mark of a constructor

none_at : (ls : List VType) (k : ℕ) → list_any is_unset_this ls ≡ false → is_unset_this (peek ls k) ≡ false
none_at [] zero h = refl
none_at [] (suc k) h = refl
none_at (t ∷ ts) zero h = or_left (is_unset_this t) (list_any is_unset_this ts) h
  where
    or_left : (a b : Bool) → (a || b) ≡ false → a ≡ false
    or_left true b h = absurd (cc)
    or_left false b h = refl
none_at (t ∷ ts) (suc k) h = none_at ts k (or_right (is_unset_this t) (list_any is_unset_this ts) h)
  where
    or_right : (a b : Bool) → (a || b) ≡ false → b ≡ false
    or_right true b h = absurd (cc)
    or_right false b h = h

no_slots : (k n : ℕ) (f : ℕ → VType) (rest : List VType) → ((j : ℕ) → is_unset_this (f j) ≡ false) → list_any is_unset_this rest ≡ false → list_any is_unset_this (slots_from k n f ++ rest) ≡ false
no_slots k zero f rest h r = r
no_slots k (suc n) f rest h r = let a = h k in let b = no_slots (suc k) n f rest h r in rw (a, b) refl

live_none : (b : Bool) (at : ℕ → ℕ) (t : VType) → is_unset_this t ≡ false → is_unset_this (live_type b (moved_type at t)) ≡ false
live_none false at t h = refl
live_none true at Top h = refl
live_none true at Int h = refl
live_none true at Long h = refl
live_none true at Null h = refl
live_none true at (Uninit q) h = refl
live_none true at (Object ty) h = refl
live_none true at UninitThis h = h

added_none : (x : Plan) → list_any is_unset_this (added_types x) ≡ false
added_none x = by x.method.is_static
  where
    by : (b : Bool) → list_any is_unset_this (fiber x.program ∷ cond b [] (class_vtype x.method.owner ∷ [])) ≡ false
    by true = refl
    by false = refl

module _ (x : Plan) (W : Program) (w : Method) (whole : Whole x W w) where
  -- ---- declared frames of woven code

  abbrev pub old_locals : ℕ → List VType
  old_locals p = slots_from 0 (fiber_slot x.method) (kept_local x p) ++ added_types x

  pub old_types : (p : ℕ) → list_any is_unset_this (x.typing p).locals ≡ false → frame_types (old_frame x p) ≡ twin x.at (x.typing p).stack (old_locals p)
  old_types p h =
      ap (λ s. record { locals = old_locals p; stack = s; unset = list_any is_unset_this (old_locals p) }) (reverse-reverse (map (moved_type x.at) (x.typing p).stack))
      ∙ ap (λ u. record { locals = old_locals p; stack = map (moved_type x.at) (x.typing p).stack; unset = u })
      (no_slots 0 (fiber_slot x.method) (kept_local x p) (added_types x) (λ j. live_none (x.live p j) x.at (peek (x.typing p).locals j) (none_at (x.typing p).locals j h)) (added_none x))

  pub resume_types : frame_types (resume_frame x) ≡ state (slots_from 0 (fiber_slot x.method) (λ j. Top) ++ added_types x) []
  resume_types = ap (λ u. record { locals = slots_from 0 (fiber_slot x.method) (λ j. Top) ++ added_types x; stack = []; unset = u }) (no_slots 0 (fiber_slot x.method) (λ j. Top) (added_types x) (λ j. refl) (added_none x))

  -- ---- what flows to an old place

  abbrev pub Reach : Bool → ℕ → Option Types → Option Types → Type 0
  Reach true p was now = now ≡ None
  Reach false p None now = now ≡ None
  Reach false p (Some f) now = (fl : List VType) × (fs : List VType) × (cl : List VType) × (f ≡ plain fl fs) × (now ≡ Some (twin x.at fs cl)) × Covers x.at (λ j. x.live p j ≡ true) fl cl × Kept x cl

  -- the frames at an old place, in both codes
  pub record Arrived (p : ℕ) (now : Option Types) (mark : Option Types) : Type 0 where
    pub fl : List VType
    pub fs : List VType
    pub cl : List VType
    pub old : x.typing p ≡ plain fl fs
    pub here : Here W now mark (twin x.at fs cl)
    pub covers : Covers x.at (λ j. x.live p j ≡ true) fl cl
    pub kept : Kept x cl

  itself_flows : (f : Types) → FlowsInto x.program f f
  itself_flows f = record { locals = λ j. whole.itself (peek f.locals j); stack = all f.stack; unset = λ e. e }
    where
      all : (ts : List VType) → all_assignable x.program ts ts ≡ true
      all [] = refl
      all (t ∷ ts) = and_from (assignable x.program t t) (all_assignable x.program ts ts) (whole.itself t) (all ts)

  -- what flows to a place fits the frame there
  pub here_flows : (f d : Types) (o : Option Types) → Here x.program (Some f) o d → FlowsInto x.program f d
  here_flows f d (Some e) h = subst (λ z. FlowsInto x.program f z) (sym h.0) h.1
  here_flows f d None h = subst (λ z. FlowsInto x.program f z) (sym h) (itself_flows f)

  none_here : (now : Option Types) (c : Types) → now ≡ None → Here W now (Some c) c
  none_here now c e = subst (λ z. Here W z (Some c) c) (sym e) refl

  abbrev pub Short : ℕ → Type 0
  Short p = (j : ℕ) → is_top (peek (x.typing p).locals j) ≡ false → j < fiber_slot x.method

  -- at a place with a mark
  marked_here : (first : Bool) (p : ℕ) (was now o : Option Types) → Here x.program was o (x.typing p) → Reach first p was now → list_any is_unset_this (x.typing p).locals ≡ false →
      Here W now (Some (twin x.at (x.typing p).stack (old_locals p))) (twin x.at (x.typing p).stack (old_locals p))
  marked_here true p was now o h r n = none_here now _ r
  marked_here false p None now o h r n = none_here now _ r
  marked_here false p (Some f) now o h r n =
      let c = twin x.at (x.typing p).stack (old_locals p) in
      subst (λ z. Here W z (Some c) c) (sym r.4) (
        refl,
        subst (λ z. FlowsInto W (twin x.at r.1 r.2) z) (old_types p n) (flow.flows_old x W w whole p r.0 r.1 r.2 r.5 r.6 (subst (λ z. FlowsInto x.program z (x.typing p)) r.3 (here_flows f (x.typing p) o h))),
      )

  pub arrive_marked : (first : Bool) (p : ℕ) (was now o : Option Types) → Here x.program was o (x.typing p) → Reach first p was now → list_any is_unset_this (x.typing p).locals ≡ false → (x.typing p).unset ≡ false → Short p →
      Arrived p now (Some (frame_types (old_frame x p)))
  arrive_marked first p was now o h r n set short = record {
    fl = (x.typing p).locals;
    fs = (x.typing p).stack;
    cl = old_locals p;
    old = ap (λ u. record { locals = (x.typing p).locals; stack = (x.typing p).stack; unset = u }) set;
    here = subst (λ z. Here W now (Some z) (twin x.at (x.typing p).stack (old_locals p))) (sym (old_types p n)) (marked_here first p was now o h r n);
    covers = flow.old_covers x W w whole p short;
    kept = flow.old_kept x W w whole (kept_local x p);
  }

  -- at a place without one
  pub arrive_plain : (p : ℕ) (was now : Option Types) → Here x.program was None (x.typing p) → Reach false p was now → Arrived p now None
  arrive_plain p None now h r = absurd h
  arrive_plain p (Some f) now h r = record {
    fl = r.0;
    fs = r.1;
    cl = r.2;
    old = h ∙ r.3;
    here = subst (λ z. Here W z None (twin x.at r.1 r.2)) (sym r.4) refl;
    covers = r.5;
    kept = r.6;
  }

  arrive_by : (first : Bool) (b : Bool) (p : ℕ) (was now o : Option Types) → is_some o ≡ b → Here x.program was o (x.typing p) → Reach first p was now → list_any is_unset_this (x.typing p).locals ≡ false → (x.typing p).unset ≡ false → Short p →
      Arrived p now (types_if (frame_if (first || b) x p))
  arrive_by true b p was now o e h r n set short = arrive_marked true p was now o h r n set short
  arrive_by false true p was now o e h r n set short = arrive_marked false p was now o h r n set short
  arrive_by false false p was now None e h r n set short = arrive_plain p was now h r
  arrive_by false false p was now (Some d) e h r n set short = absurd (cc)

  -- ---- jumps

  among_later : (b : Bool) (to t : ℕ) (ts : List ℕ) → Among ts t → Among (cond b ts (to ∷ ts)) t
  among_later true to t ts a = a
  among_later false to t ts a = inr a

  jumps_moved : (g : Types) (fl fs cl : List VType) (ts : List ℕ) → g ≡ plain fl fs → Jumps x.program x.method g ts → ((t : ℕ) → Among ts t → Covers x.at (λ j. x.live t j ≡ true) fl cl) → Kept x cl → Jumps W w (twin x.at fs cl) (map x.at ts)
  jumps_moved g fl fs cl [] is j c k = tt
  jumps_moved g fl fs cl (t ∷ ts) is j c k =
      let d = j.0.0 in
      let there = whole.targets t d j.0.1 in (
        (frame_types (old_frame x t), there.1, flow.flows_old x W w whole t fl fs cl (c t (inl refl)) k (subst (λ z. FlowsInto x.program z (x.typing t)) is (subst (λ z. FlowsInto x.program g z) (sym there.0) j.0.2))),
        jumps_moved g fl fs cl ts is j.1 (λ u a. c u (inr a)) k,
      )

  -- ---- an old instruction

  peek_past : (ls : List VType) (j : ℕ) → length ls ≤ j → is_top (peek ls j) ≡ true
  peek_past [] zero h = refl
  peek_past [] (suc j) h = refl
  peek_past (t ∷ ts) zero h = absurd (omega (arith, h))
  peek_past (t ∷ ts) (suc j) h = peek_past ts j (omega (arith, h))

  shorter : (ls : List VType) (n j : ℕ) → length ls ≤ n → is_top (peek ls j) ≡ false → j < n
  shorter ls n j h t = elim (leb_tells (suc j) n) [ inl y ↦ y.1 | inr y ↦ absurd (let z = y.1 in let e = peek_past ls j (omega (arith, h, z)) in cc) ]

  pub short : (e : ℕ × Instr) (to : ℕ) → PlaceFacts x e to → Short e.0
  short e to facts j t = let a = shorter (x.typing e.0).locals x.method.max_locals j facts.within t in let b = (flow.is_larger x.method.max_locals (suc (argument_slots x.method))).0 in omega (arith, a, b)

  -- the next place is reached alike
  reach_next : (b : Bool) (to : ℕ) (g : Types) (fl fs cl : List VType) → g ≡ plain fl fs → (b ≡ false → Covers x.at (λ j. x.live to j ≡ true) fl cl) → Kept x cl → Reach false to (goes_on b g) (goes_on b (twin x.at fs cl))
  reach_next true to g fl fs cl is c k = refl
  reach_next false to g fl fs cl is c k = (fl, fs, cl, is, refl, c refl, k)

  cover_next : (p to t : ℕ) (i : Instr) (fl cl : List VType) → LawsAt x.live x.program p to i → Among (edges i to) t → Covers x.at (λ j. (x.live p j ≡ true) ⊎ (writes i j ≡ true)) fl cl → Covers x.at (λ j. x.live t j ≡ true) fl cl
  cover_next p to t i fl cl laws a c j l top = c j (laws.flow t j a l) top

  first_among : (b : Bool) (to : ℕ) (ts : List ℕ) → b ≡ false → Among (cond b ts (to ∷ ts)) to
  first_among true to ts e = absurd (cc)
  first_among false to ts e = inl refl

  plain_typed : (first : Bool) (p to : ℕ) (i : Instr) (was now : Option Types) (size : ℕ → ℕ) (q : ℕ) (rest : List Item) (g : Types) → pausable_callee x.program i ≡ None → PlaceFacts x (p, i) to →
      Here x.program was (declared x.method p) (x.typing p) → Reach first p was now → type_step x.program x.method p i (x.typing p) ≡ Ok g → Jumps x.program x.method g (jump_targets i) →
      Stands x w q None (Mark (Old p) (frame_if (first || is_some (declared x.method p)) x p) ∷ Does (moved_instr x.at i) size true ∷ rest) →
      ((now' : Option Types) → Reach false to (goes_on (ends_path i) g) now' → Stands x w (q + size q) None rest → Typed W w now' (lay (q + size q) rest)) →
      Typed W w now (lay q (Mark (Old p) (frame_if (first || is_some (declared x.method p)) x p) ∷ Does (moved_instr x.at i) size true ∷ rest))
  plain_typed first p to i was now size q rest g n facts h r step jumps st go =
      let a = arrive_by first (is_some (declared x.method p)) p was now (declared x.method p) refl h r facts.no_this facts.set (short (p, i) to facts) in
      let t = old_step x.program W x.method w x.at whole.shared whole.progs (Extra x) (extra_type x) (extra_apart x) (extra_steady x) (λ j. x.live p j ≡ true) p i a.fl a.fs a.cl g n (λ j y. facts.laws.read j y) a.covers a.kept (ap (type_step x.program x.method p i) (sym a.old) ∙ step) in
      let c' = twin x.at t.fs' t.cl' in (
        twin x.at a.fs a.cl,
        subst (λ z. Here W now z (twin x.at a.fs a.cl)) (sym st.1.0) a.here,
        c',
        ap (λ z. type_step W w z (moved_instr x.at i) (twin x.at a.fs a.cl)) (sym st.0) ∙ t.steps,
        subst (λ z. Jumps W w c' z) (sym (targets_moved x.at i)) (jumps_moved g t.fl' t.fs' t.cl' (jump_targets i) t.is jumps (λ u y. cover_next p to u i t.fl' t.cl' facts.laws (among_later (ends_path i) to u (jump_targets i) y) t.covers) t.added),
        subst (λ z. Typed W w (goes_on z c') (lay (q + size q) rest)) (sym (ends_moved x.at i))
            (go (goes_on (ends_path i) c') (reach_next (ends_path i) to g t.fl' t.fs' t.cl' t.is (λ on. cover_next p to to i t.fl' t.cl' facts.laws (first_among (ends_path i) to (jump_targets i) on) t.covers) t.added) st.1.1),
      )

  -- ---- a group

  words_below : (a b : List VType) → words b ≤ words (a ++ b)
  words_below [] b = omega arith
  words_below (t ∷ a) b = let h = words_below a b in omega (arith, h)

  in_locals_by : (b : Bool) (k : ℕ) (t : VType) (es : List (ℕ × VType)) (cl : List VType) → (b ≡ true → (peek cl k ≡ t) × (is_savable t ≡ true) × (k < w.max_locals)) → saves.InLocals x W w whole cl es → saves.InLocals x W w whole cl (cond b ((k, t) ∷ es) es)
  in_locals_by true k t es cl h i = (h refl, i)
  in_locals_by false k t es cl h i = i

  in_locals : (live : ℕ → Bool) (k : ℕ) (ts cl : List VType) → Fine x.method.max_locals k ts → ((j : ℕ) → live (k + j) ≡ true → is_top (peek ts j) ≡ false → peek cl (k + j) ≡ moved_type x.at (peek ts j)) → saves.InLocals x W w whole cl (saved_from live k ts)
  in_locals live k [] cl f h = tt
  in_locals live k (t ∷ ts) cl f h =
      in_locals_by (live k && not (is_top t)) k t (saved_from live (suc k) ts) cl
      (λ b. let p = and_parts (live k) (not (is_top t)) b in
      let n = not-true (is_top t) p.1 in
      let s = no_top_savable t (f.savable 0) n in
      let e : k + 0 ≡ k = omega arith in
      let a = f.within in
      let c = whole.shared.locals in
      (ap (peek cl) (sym e) ∙ (h 0 (ap live e ∙ p.0) n ∙ saves.moved_savable x.at t s), s, omega (arith, a, c)))
      (in_locals live (suc k) ts cl (fine_tail x.method.max_locals k t ts f) (λ j l n. let e : suc k + j ≡ k + suc j = omega arith in ap (peek cl) e ∙ h (suc j) (ap live (sym e) ∙ l) n))

  -- what is live behind a call is live before it
  live_before : (p to : ℕ) (i : Instr) (callee : Method) → pausable_callee x.program i ≡ Some callee → LawsAt x.live x.program p to i → (k : ℕ) → x.live to k ≡ true → x.live p k ≡ true
  live_before p to i callee n laws k h =
      let s = call_straight x i callee n in
      elim (laws.flow to k (subst (λ ts. Among ts to) (sym (s.edges_are to)) (inl refl)) h) [ inl y ↦ y | inr z ↦ absurd (let e = s.writes_none k in cc) ]

  -- the facts of a call that the old code tells
  pub called : (e : ℕ × Instr) (to : ℕ) (callee : Method) (cl : List VType) (g : Types) → pausable_callee x.program e.1 ≡ Some callee → (x.typing e.0).unset ≡ false → type_step x.program x.method e.0 e.1 (x.typing e.0) ≡ Ok g →
      calls.Call x W w whole e.1 callee (x.typing e.0).locals (x.typing e.0).stack cl g
  called e to callee cl g n set step =
      calls.calls x W w whole e.0 e.1 callee (x.typing e.0).locals (x.typing e.0).stack cl g n
      (ap (λ u. type_step x.program x.method e.0 e.1 (record { locals = (x.typing e.0).locals; stack = (x.typing e.0).stack; unset = u })) (sym set) ∙ step)

  pub locals_fine : (p : ℕ) (callee : Method) → Savable x callee p → length (x.typing p).locals ≤ x.method.max_locals → Fine x.method.max_locals 0 (x.typing p).locals
  locals_fine p callee sv inside = record { savable = sv.locals; halves = λ j h. let y = sv.halves j h in (y.0, let z = y.1 in omega (arith, z)); within = omega (arith, inside) }

  group_runs : (number p to : ℕ) (i : Instr) (callee : Method) (cl : List VType) (rest : List Item) (g : Types) → pausable_callee x.program i ≡ Some callee → PlaceFacts x (p, i) to → type_step x.program x.method p i (x.typing p) ≡ Ok g →
      Covers x.at (λ j. x.live p j ≡ true) (x.typing p).locals cl → Kept x cl → FlowsInto x.program g (x.typing to) → declared w (x.at to) ≡ Some (frame_types (old_frame x to)) → Starts x W w whole rest →
      Runs x W w whole (state cl (map (moved_type x.at) (x.typing p).stack)) (load_fiber x ∷ calls_member x 1 ∷ Does i (λ q. 3) true ∷ load_fiber x ∷ calls_member x 2 ∷ added (Ifeq (x.at to)) 3 ∷ drop_result callee.result (leave x number callee p to rest))
  unfolding row jump_targets ends_path
  group_runs number p to i callee cl rest g n facts step c k into there r =
      let mt = moved_type x.at in
      let fl = (x.typing p).locals in
      let fs = (x.typing p).stack in
      let call = called (p, i) to callee cl g n facts.set step in
      let s = call_straight x i callee n in
      let sv = facts.savable callee n in
      let bel = below x callee p in
      let out = result_types callee.result ++ bel in
      let out' = result_types callee.result ++ map mt bel in
      let same_out : out' ≡ map mt out = ap (λ z. z ++ map mt bel) (sym (moved_results x.at callee.result)) ∙ sym (map-append mt (result_types callee.result) bel) in
      let room = facts.room in
      let few = call.room room in
      let more = whole.room in
      let w1 = moved_words x.at fs in
      let w2 = ap words same_out ∙ moved_words x.at out in
      let laws = facts.laws in
      let fine = locals_fine p callee sv facts.within in
      add.load_runs x W w whole cl (map mt fs) _ k (omega (arith, w1, room, more))
      (add.member_runs x W w whole (member x.program 1) (fiber_ty x.program) (fiber x.program) cl (map mt fs) _ whole.members.down refl (omega (arith, w1, room, more))
      (add.one x W w whole i _ true (state cl (fiber x.program ∷ map mt fs)) (state cl out') _ call.steps (subst (λ ts. Jumps W w (state cl out') ts) (sym s.targets) tt) s.goes
      (add.load_runs x W w whole cl out' _ k (omega (arith, w2, few, more))
      (add.member_runs x W w whole (member x.program 2) int_ty Int cl out' _ whole.members.up refl (omega (arith, w2, few, more))
      (add.one x W w whole (Ifeq (x.at to)) _ false (state cl (Int ∷ out')) (state cl out') _
      (λ q. add.takes_step x W w whole q (Ifeq (x.at to)) (Is Int ∷ []) [] [] cl (Int ∷ out') refl (omega arith) (omega (arith, w2, few, more)) (add.int_meets x W w whole out') refl) (
        (
          frame_types (old_frame x to),
          there,
          subst (λ z. FlowsInto W (state cl z) (frame_types (old_frame x to))) (sym same_out)
              (flow.flows_old x W w whole to fl out cl (λ j l top. c j (live_before p to i callee n laws j l) top) k (subst (λ z. FlowsInto x.program z (x.typing to)) call.is into)),
        ),
        tt,
      )
      refl
      (leaves.drop_runs x W w whole callee.result cl (map mt bel) _ (omega (arith, w2, few, more))
      (subst (λ z. Runs x W w whole (state cl z) (leave x number callee p to rest)) (sym (saves.moved_savables x.at bel sv.stack))
      (leaves.leave_runs x W w whole number bel (saved x p to) cl rest sv.stack
      (in_locals (x.live to) 0 fl cl fine (λ j l top. let e : 0 + j ≡ j = omega arith in ap (peek cl) e ∙ c j (live_before p to i callee n laws j (ap (x.live to) (sym e) ∙ l)) top))
      k (let w4 = words_drop (taken callee) fs in omega (arith, w4, room, more)) (omega (arith, more)) r))))))))

  group_typed : (first : Bool) (number p to : ℕ) (i : Instr) (callee : Method) (was now : Option Types) (q : ℕ) (rest : List Item) (g : Types) → pausable_callee x.program i ≡ Some callee → PlaceFacts x (p, i) to →
      Here x.program was (declared x.method p) (x.typing p) → Reach first p was now → type_step x.program x.method p i (x.typing p) ≡ Ok g → FlowsInto x.program g (x.typing to) → declared w (x.at to) ≡ Some (frame_types (old_frame x to)) →
      Stands x w q None (group x number callee p to i rest) → Starts x W w whole rest → Typed W w now (lay q (group x number callee p to i rest))
  group_typed first number p to i callee was now q rest g n facts h r step into there st start =
      let c = twin x.at (x.typing p).stack (old_locals p) in
      (group_runs number p to i callee (old_locals p) rest g n facts step (flow.old_covers x W w whole p (short (p, i) to facts)) (flow.old_kept x W w whole (kept_local x p)) into there start).go
      now (Some (frame_types (old_frame x p))) q
      (subst (λ z. Here W now (Some z) c) (sym (old_types p facts.no_this)) (marked_here first p was now (declared x.method p) h r facts.no_this)) st.1

  -- ---- all of the old code

  -- where a call goes on there is a next instruction, with a frame into which it flows
  next_there : (es : List (ℕ × Instr)) (g : Types) → TypedBy x.program x.method x.typing (Some g) es → Marked x w true es →
      FlowsInto x.program g (x.typing (first_place es x.method.code_length)) × (declared w (x.at (first_place es x.method.code_length)) ≡ Some (frame_types (old_frame x (first_place es x.method.code_length))))
  next_there [] g t m = absurd (cc)
  next_there (e ∷ es) g t m = (here_flows g (x.typing e.0) (declared x.method e.0) t.0, m.0 refl)

  -- the step of an entry, and what is behind it
  piece_typed : (o : Option Method) (first : Bool) (number : ℕ) (e : ℕ × Instr) (es : List (ℕ × Instr)) (was now : Option Types) (q : ℕ) (rest : List Item) → pausable_callee x.program e.1 ≡ o →
      TypedBy x.program x.method x.typing was (e ∷ es) → PlaceFacts x e (first_place es x.method.code_length) → Marked x w (is_some o) es → Reach first e.0 was now →
      ((was' now' : Option Types) (q' : ℕ) → TypedBy x.program x.method x.typing was' es → Reach (is_some o) (first_place es x.method.code_length) was' now' → Stands x w q' None rest → Typed W w now' (lay q' rest)) →
      Stands x w q None (piece o x first number e.0 (first_place es x.method.code_length) e.1 rest) → Typed W w now (lay q (piece o x first number e.0 (first_place es x.method.code_length) e.1 rest))
  piece_typed None first number e es was now q rest n t facts m r go st =
      let to = first_place es x.method.code_length in
      plain_typed first e.0 to e.1 was now (old_size e.1 (to - e.0)) q rest t.1 n facts t.0 r t.2 t.3 st
      (λ now' r' st'. go (goes_on (ends_path e.1) t.1) now' (q + old_size e.1 (to - e.0) q) t.4 r' st')
  piece_typed (Some callee) first number e es was now q rest n t facts m r go st =
      let to = first_place es x.method.code_length in
      let s = call_straight x e.1 callee n in
      let behind = subst (λ b. TypedBy x.program x.method x.typing (goes_on b t.1) es) s.goes t.4 in
      let next = next_there es t.1 behind m in
      group_typed first number e.0 to e.1 callee was now q rest t.1 n facts t.0 r t.2 next.0 next.1 st (record { go = λ q' st'. go (Some t.1) None q' behind refl st' })

  pub pieces_typed : (es : List (ℕ × Instr)) (first : Bool) (number : ℕ) (was now : Option Types) (q : ℕ) (rest : List Item) → TypedBy x.program x.method x.typing was es → Facts x es → Marked x w first es → Reach first (first_place es x.method.code_length) was now →
      Starts x W w whole rest → Stands x w q None (pieces x first number es rest) → Typed W w now (lay q (pieces x first number es rest))
  pieces_typed [] true number was now q rest t f m r start st = subst (λ z. Typed W w z (lay q rest)) (sym r) (start.go q st)
  pieces_typed [] false number None now q rest t f m r start st = subst (λ z. Typed W w z (lay q rest)) (sym r) (start.go q st)
  pieces_typed [] false number (Some g) now q rest t f m r start st = absurd (cc)
  pieces_typed (e ∷ es) first number was now q rest t f m r start st =
      let o = pausable_callee x.program e.1 in
      piece_typed o first number e es was now q (pieces x (is_some o) (count o number) es rest) refl t f.0 m.1 r
      (λ was' now' q' t' r' st'. pieces_typed es (is_some o) (count o number) was' now' q' rest t' f.1 m.1 r' start st') st

  -- ---- resume blocks

  kept_live : (p to : ℕ) (i : Instr) (callee : Method) → pausable_callee x.program i ≡ Some callee → LawsAt x.live x.program p to i → (k : ℕ) → x.live p k ≡ true → x.live to k ≡ true
  kept_live p to i callee n laws k h = laws.kept callee n k h

  block_starts : (o : Option Method) (first : Bool) (number : ℕ) (e : ℕ × Instr) (to : ℕ) (g : Types) (rest : List Item) → pausable_callee x.program e.1 ≡ o → PlaceFacts x e to → type_step x.program x.method e.0 e.1 (x.typing e.0) ≡ Ok g →
      ((first || (is_some (declared x.method e.0) || is_some o)) ≡ true → declared w (x.at e.0) ≡ Some (frame_types (old_frame x e.0))) → Starts x W w whole rest → Starts x W w whole (block o x number e.0 to rest)
  block_starts None first number e to g rest n facts step m start = start
  block_starts (Some callee) first number e to g rest n facts step m start = record {
    go = λ q st.
        let clR = slots_from 0 (fiber_slot x.method) (λ j. Top) ++ added_types x in
        let call = called e to callee clR g n facts.set step in
        (resume_runs x W w whole callee e.0 to clR rest (facts.savable callee n) (kept_live e.0 to e.1 callee n facts.laws) call.meet call.enough facts.room facts.within
        (m (either first (is_some (declared x.method e.0)))) (flow.old_kept x W w whole (λ j. Top)) start).go
        None (Some (frame_types (resume_frame x))) q (sym resume_types) st.1;
  }
    where
      either : (a b : Bool) → (a || (b || true)) ≡ true
      either true b = refl
      either false true = refl
      either false false = refl

  pub blocks_start : (es : List (ℕ × Instr)) (first : Bool) (number : ℕ) (was : Option Types) → TypedBy x.program x.method x.typing was es → Facts x es → Marked x w first es → Starts x W w whole (blocks x number es)
  blocks_start [] first number was t f m = record { go = λ q st. refl }
  blocks_start (e ∷ es) first number was t f m =
      let o = pausable_callee x.program e.1 in
      block_starts o first number e (first_place es x.method.code_length) t.1 (blocks x (count o number) es) refl f.0 t.2 m.0 (blocks_start es (is_some o) (count o number) (goes_on (ends_path e.1) t.1) t.4 f.1 m.1)
