-- Each method of a woven program has the facts by old place that the simulation uses.
use Rattle.std.proofs.Common.{◌≡◌, ◌≢◌, ◌⊎◌, inl, inr, ℕ, zero, suc, ◌+◌, ◌<◌, ◌≤◌, Bool, true, false, eqb, not, List, [], ◌∷◌, map, length, Option, Some, None, refl, sym, ap, subst, ◌∙◌, arith, ltb-false}
use Rattle.std.specs.Prelude.{slice_get, nat_lt, if◌then◌else◌, ◌==◌, ◌-◌}
use Rattle.std.proofs.lemmas.Bool.{and_parts, false≢true}
use Rattle.std.proofs.lemmas.Bool.Decides.{eqb_tells}
use Rattle.kilim_program.specs.declared.class.Form.TheVariants.{Plain, Woven}
use Rattle.kilim_program.specs.declared.class.Method.{Method}
use Rattle.kilim_program.specs.declared.instr.Instr.{Instr}
use Rattle.kilim_program.specs.declared.instr.Instr.TheVariants as instr
use Rattle.kilim_program.specs.declared.names.MethodId.{MethodId}
use Rattle.kilim_program.specs.declared.verified.VType.{VType}
use Rattle.kilim_program.specs.BuiltIn.{fiber_methods}
use Rattle.kilim_program.specs.Keeps.{Keeps, code_is_whole}
use Rattle.kilim_program.specs.Lengths.{code_ends, code_stands, targets_stand, fetched, first_place}
use Rattle.kilim_program.specs.Names.{is_empty, method_at}
use Rattle.kilim_program.specs.Program.{Program}
use Rattle.kilim_program.specs.Same.{argument_slots}
use Rattle.kilim_run_machine.specs.Moves.{slots_in}
use Rattle.kilim_run_model.specs.State.{Setting}
use Rattle.kilim_type_spec.specs.Step.{class_vtype, is_top, peek}
use Rattle.kilim_type_spec.specs.Typed.{IsLive, IsWellTyped, WellTypedBy, frame_among, frames_of, has_code, no_types, typing_of}
use Rattle.kilim_type_laws.proofs.members.FromKeeps.{all_at}
use Rattle.kilim_weave_spec.specs.Form.{AllWoven, IsWoven, WovenForm, all_counted, first_class, has_calls, plan_of, woven_as}
use Rattle.kilim_weave_spec.specs.Weight.{calls_in, one_more}
use Rattle.kilim_weave_spec.specs.Woven.{fiber, Does, IsWovenBy, Item, Mark, Plan, behind, fiber_slot, larger, lay, marks, moved_instr, moved_pairs, pausable_callee, woven_items}
use Rattle.kilim_weave_laws.specs.woven_types.Facts.{CallsNone}
use Rattle.kilim_weave_laws.proofs.woven_types.Codes.{whole_code}
use Rattle.kilim_weave_laws.proofs.woven_types.Flow.{is_larger}
use Rattle.kilim_weave_laws.proofs.woven_types.Laying.{Grows, Sound, items_sound}
use Rattle.kilim_weave_laws.proofs.woven_types.OldFacts.{GrowsTo}
use Rattle.kilim_weave_laws.specs.woven_programs.Law.{KeepsPauses}
use Rattle.kilim_weave_laws.proofs.woven_programs.Frames.{by_place}
use Rattle.kilim_weave_laws.proofs.woven_programs.Theorem.{woven_programs}
use Rattle.kilim_weave_laws.specs.woven_programs.keeps.Law.{NoneIsTooLong}
use Rattle.kilim_weave_laws.proofs.woven_programs.keeps.Lengths.{reach_is}
use Rattle.kilim_fiber_spec.specs.Fibers.{marked, marks_of, wcode_in}
use Rattle.kilim_fiber_spec.specs.Form.{Facts, Form, longest, sets}
use Rattle.kilim_fiber_spec.specs.Links.{code}
use Rattle.kilim_fiber_spec.specs.Thread.{code_in, fetch, no_method}
use Rattle.kilim_run_interp.specs.Step.{limit_in, stack_limit}
use Rattle.kilim_fiber_laws.specs.stands.Law.{IsFormOf}
use Rattle.kilim_fiber_laws.proofs.stands.Laid.{EndsPath, Laid, Wide, number_at}
use Rattle.kilim_fiber_laws.proofs.stands.LiveFacts as live
use Rattle.kilim_fiber_laws.proofs.stands.Placed as placed
use Rattle.kilim_fiber_laws.proofs.stands.Targets as targets

-- ---- places that stay

list_stays : (ts : List ℕ) → map (λ (q : ℕ). q) ts ≡ ts
list_stays [] = refl
list_stays (t ∷ ts) = ap (λ (z : List ℕ). t ∷ z) (list_stays ts)

pairs_stay : (es : List (_ × ℕ)) → moved_pairs (λ (q : ℕ). q) es ≡ es
pairs_stay [] = refl
pairs_stay (e ∷ es) = ap (λ z. e ∷ z) (pairs_stay es)

moved_by_nothing : (i : Instr) → moved_instr (λ (q : ℕ). q) i ≡ i
moved_by_nothing (instr.Tableswitch d low ts) = ap (λ (z : List ℕ). instr.Tableswitch d low z) (list_stays ts)
moved_by_nothing (instr.Lookupswitch d es) = ap (λ z. instr.Lookupswitch d z) (pairs_stay es)
moved_by_nothing i = refl

-- ---- code of which all instructions count

all_marked : (es : List (ℕ × Instr)) (end p to : ℕ) (i : Instr) → fetched es end p ≡ Some (i, to) → marked es (map (λ e. true) es) end p ≡ Some (i, to, true)
all_marked [] end p to i h = absurd (cc)
all_marked (e ∷ es) end p to i h = by (e.0 == p) h (λ k. all_marked es end p to i k)
  where
    by : (b : Bool) → (if b then Some (e.1, first_place es end) else fetched es end p) ≡ Some (i, to) → (fetched es end p ≡ Some (i, to) → marked es (map (λ e. true) es) end p ≡ Some (i, to, true))
        → (if b then Some (e.1, first_place es end, true) else marked es (map (λ e. true) es) end p) ≡ Some (i, to, true)
    by true h go = ap (λ (o : Option (Instr × ℕ)). elim o [ None ↦ None | Some z ↦ Some (z.0, z.1, true) ]) h
    by false h go = go h

-- an instruction in it counts, and the place behind it is a greater one
counted_on : (es : List (ℕ × Instr)) (end q nx : ℕ) (i : Instr) (c : Bool) → GrowsTo end es → marked es (map (λ e. true) es) end q ≡ Some (i, nx, c) → (c ≡ true) × (q < nx)
counted_on [] end q nx i c g h = absurd (cc)
counted_on (e ∷ es) end q nx i c g h = by (eqb_tells e.0 q) h (λ k. counted_on es end q nx i c g.1 k)
  where
    of : Option (Instr × ℕ × Bool) → ℕ × Bool
    of None = (0, true)
    of (Some z) = (z.1, z.2)

    by : ((eqb e.0 q ≡ true) × (e.0 ≡ q)) ⊎ ((eqb e.0 q ≡ false) × (e.0 ≢ q)) → (if e.0 == q then Some (e.1, first_place es end, true) else marked es (map (λ e. true) es) end q) ≡ Some (i, nx, c)
        → (marked es (map (λ e. true) es) end q ≡ Some (i, nx, c) → (c ≡ true) × (q < nx)) → (c ≡ true) × (q < nx)
    by (inl t) h go =
        let h2 = ap (λ (b : Bool). if b then Some (e.1, first_place es end, true) else marked es (map (λ e. true) es) end q) (sym t.0) ∙ h in
        let r = ap of h2 in
        (sym (ap (λ (z : ℕ × Bool). z.1) r), subst (λ (n : ℕ). q < n) (ap (λ (z : ℕ × Bool). z.0) r) (subst (λ (n : ℕ). n < first_place es end) t.1 g.0))
    by (inr t) h go = go (ap (λ (b : Bool). if b then Some (e.1, first_place es end, true) else marked es (map (λ e. true) es) end q) (sym t.0) ∙ h)

-- ---- code that is laid out

wide_of : (b : Bool) (items : List Item) (q : ℕ) → Sound b items → Wide q items
wide_of b [] q s = tt
wide_of b (Mark label frame ∷ rest) q s = wide_of true rest q s.1
wide_of b (Does i size counted ∷ rest) q s = (let a = s.0 q in omega (arith, a), wide_of false rest (q + size q) s.1)

not_before : (items : List Item) (q : ℕ) → q ≤ behind q items
not_before [] q = omega arith
not_before (Mark label frame ∷ rest) q = not_before rest q
not_before (Does i size counted ∷ rest) q = let a = not_before rest (q + size q) in omega (arith, a)

first_laid : (items : List Item) (q : ℕ) → first_place (lay q items) (behind q items) ≡ q
first_laid [] q = refl
first_laid (Mark label frame ∷ rest) q = first_laid rest q
first_laid (Does i size counted ∷ rest) q = refl

-- the place behind an instruction is a greater one, and none is past the end
laid_on : (items : List Item) (q0 q nx : ℕ) (i : Instr) (c : Bool) → Wide q0 items → marked (lay q0 items) (marks items) (behind q0 items) q ≡ Some (i, nx, c) → (q < nx) × (nx ≤ behind q0 items)
laid_on [] q0 q nx i c w h = absurd (cc)
laid_on (Mark label frame ∷ rest) q0 q nx i c w h = laid_on rest q0 q nx i c w h
laid_on (Does j size counted ∷ rest) q0 q nx i c w h = by (eqb_tells q0 q) h (λ k. laid_on rest (q0 + size q0) q nx i c w.1 k)
  where
    end : ℕ
    end = behind (q0 + size q0) rest

    of : Option (Instr × ℕ × Bool) → ℕ
    of None = 0
    of (Some z) = z.1

    by : ((eqb q0 q ≡ true) × (q0 ≡ q)) ⊎ ((eqb q0 q ≡ false) × (q0 ≢ q))
        → (if q0 == q then Some (j, first_place (lay (q0 + size q0) rest) (behind (q0 + size q0) rest), counted) else marked (lay (q0 + size q0) rest) (marks rest) (behind (q0 + size q0) rest) q) ≡ Some (i, nx, c)
        → (marked (lay (q0 + size q0) rest) (marks rest) (behind (q0 + size q0) rest) q ≡ Some (i, nx, c) → (q < nx) × (nx ≤ behind (q0 + size q0) rest)) → (q < nx) × (nx ≤ behind (q0 + size q0) rest)
    by (inl t) h go =
        let h2 = ap (λ (b : Bool). if b then Some (j, first_place (lay (q0 + size q0) rest) (behind (q0 + size q0) rest), counted) else marked (lay (q0 + size q0) rest) (marks rest) (behind (q0 + size q0) rest) q) (sym t.0) ∙ h in
        let r : first_place (lay (q0 + size q0) rest) (behind (q0 + size q0) rest) ≡ nx = ap of h2 in
        let at = first_laid rest (q0 + size q0) in
        let far = not_before rest (q0 + size q0) in
        let some = w.0 in
        let is = t.1 in
        (omega (arith, r, at, some, is), omega (arith, r, at, far))
    by (inr t) h go = go (ap (λ (b : Bool). if b then Some (j, first_place (lay (q0 + size q0) rest) (behind (q0 + size q0) rest), counted) else marked (lay (q0 + size q0) rest) (marks rest) (behind (q0 + size q0) rest) q) (sym t.0) ∙ h)

-- ---- without pausable calls

none_called : (P : Program) (es : List (ℕ × Instr)) → nat_lt 0 (calls_in P es) ≡ false → CallsNone P es
none_called P [] h = tt
none_called P (e ∷ es) h = by (pausable_callee P e.1) refl h (none_called P es)
  where
    by : (o : Option Method) → pausable_callee P e.1 ≡ o → nat_lt 0 (one_more o (calls_in P es)) ≡ false → (nat_lt 0 (calls_in P es) ≡ false → CallsNone P es) → (pausable_callee P e.1 ≡ None) × CallsNone P es
    by None is h go = (is, go h)
    by (Some callee) is h go = absurd (let z = ltb-false 0 (suc (calls_in P es)) h in omega (arith, z))

none_at : (P : Program) (es : List (ℕ × Instr)) (end p to : ℕ) (i : Instr) → CallsNone P es → fetched es end p ≡ Some (i, to) → pausable_callee P i ≡ None
none_at P [] end p to i n h = absurd (cc)
none_at P (e ∷ es) end p to i n h = by (e.0 == p) h (λ k. none_at P es end p to i n.1 k)
  where
    of : Option (Instr × ℕ) → Instr
    of None = e.1
    of (Some z) = z.0

    by : (b : Bool) → (if b then Some (e.1, first_place es end) else fetched es end p) ≡ Some (i, to) → (fetched es end p ≡ Some (i, to) → pausable_callee P i ≡ None) → pausable_callee P i ≡ None
    by true h go = subst (λ (j : Instr). pausable_callee P j ≡ None) (ap of h) n.0
    by false h go = go h

ends_from : (es : List (ℕ × Instr)) → code_ends es ≡ true → EndsPath es
unfolding code_ends
ends_from [] h = tt
ends_from (e ∷ []) h = h
ends_from (e ∷ next ∷ es) h = ends_from (next ∷ es) h

has_some : (P : Program) (es : List (ℕ × Instr)) → nat_lt 0 (calls_in P es) ≡ true → not (is_empty es) ≡ true
has_some P [] e = absurd (cc)
has_some P (x ∷ es) e = refl

has_found : (es : List (ℕ × Instr)) (end p : ℕ) (z : Instr × ℕ) → fetched es end p ≡ Some z → not (is_empty es) ≡ true
has_found [] end p z e = absurd (cc)
has_found (x ∷ es) end p z e = refl

-- ---- the methods of a woven program

pub record Found (P : Program) (ws : List Method) (cs : List (List Bool)) (k : ℕ) (m : Method) : Type 0 where
  pub woven : Method
  pub counted : List Bool
  pub there : slice_get ws k ≡ Some woven
  pub marked_there : slice_get cs k ≡ Some counted
  pub is : IsWoven P m woven counted

pub found_at : (P : Program) (ms ws : List Method) (cs : List (List Bool)) → AllWoven P ms ws cs → (k : ℕ) (m : Method) → slice_get ms k ≡ Some m → Found P ws cs k m
found_at P [] ws cs a k m e = absurd (cc)
found_at P (x ∷ ms) [] cs a k m e = absurd a
found_at P (x ∷ ms) (w ∷ ws) [] a k m e = absurd a
found_at P (x ∷ ms) (w ∷ ws) (c ∷ cs) a zero m e = let s : x ≡ m = cc in record { woven = w; counted = c; there = refl; marked_there = refl; is = subst (λ (z : Method). IsWoven P z w c) s a.0 }
found_at P (x ∷ ms) (w ∷ ws) (c ∷ cs) a (suc k) m e = let r = found_at P ms ws cs a.1 k m e in record { woven = r.woven; counted = r.counted; there = r.there; marked_there = r.marked_there; is = r.is }

-- what is none of the old methods has no code
no_code_behind : (P : Program) (ms ws : List Method) (cs : List (List Bool)) → AllWoven P ms ws cs → (k : ℕ) (b : Method) → slice_get ms k ≡ None → slice_get ws k ≡ Some b → is_empty b.code ≡ true
no_code_behind P [] ws cs a k b n e = all_at (λ (m : Method). is_empty m.code) (fiber_methods Woven (first_class P)) k b refl (subst (λ (z : List Method). slice_get z k ≡ Some b) a.0 e)
no_code_behind P (x ∷ ms) [] cs a k b n e = absurd a
no_code_behind P (x ∷ ms) (w ∷ ws) [] a k b n e = absurd a
no_code_behind P (x ∷ ms) (w ∷ ws) (c ∷ cs) a zero b n e = absurd (cc)
no_code_behind P (x ∷ ms) (w ∷ ws) (c ∷ cs) a (suc k) b n e = no_code_behind P ms ws cs a.1 k b n e

no_place : (es : List (ℕ × Instr)) (bs : List Bool) (end p : ℕ) (z : Instr × ℕ × Bool) → is_empty es ≡ true → marked es bs end p ≡ Some z → ⊥
no_place [] [] end p z h e = absurd (cc)
no_place [] (b ∷ bs) end p z h e = absurd (cc)
no_place (x ∷ es) bs end p z h e = absurd (false≢true h)

nothing_top : (k : ℕ) → not (is_top (peek no_types.locals k)) ≡ true → ⊥
nothing_top k h = false≢true h

module _ (set : Setting) (W : Program) (counted : List (List Bool)) (keeps : Keeps set.program) (plainly : set.program.form ≡ Plain) (typed : IsWellTyped set.program) (pauses : KeepsPauses set.program)
    (short : NoneIsTooLong set.program) (woven : WovenForm set.program W counted) where
  abbrev P : Program
  P = set.program

  abbrev C : MethodId → ℕ → Option (Instr × ℕ × Bool)
  C = code set W counted

  stands_whole : (id : MethodId) (m : Method) → method_at P id ≡ Some m → (code_stands 0 m.code m.code_length ≡ true) × (code_ends m.code ≡ true)
  unfolding code_is_whole
  stands_whole id m at =
      let a = and_parts (code_stands 0 m.code m.code_length) _ (all_at code_is_whole P.methods id.0 m keeps.code at) in
      (a.0, (and_parts (targets_stand m.code) (code_ends m.code) a.1).1)

  -- the instruction at a place of a method that is there
  fetch_is : (id : MethodId) (m : Method) → method_at P id ≡ Some m → (p : ℕ) (found : Instr × ℕ) → fetch P id p ≡ Some found → fetched m.code m.code_length p ≡ Some found
  fetch_is id m at p found h = ap (λ (o : Option Method). code_in o p) (sym at) ∙ h

  code_is : (id : MethodId) (w : Method) (bs : List Bool) → method_at W id ≡ Some w → slice_get counted id.0 ≡ Some bs → (q : ℕ) → C id q ≡ marked w.code bs w.code_length q
  code_is id w bs there marked_there q =
      ap (λ (o : Option Method). wcode_in (marks_of counted id) o q) there
      ∙ ap (λ (o : Option (List Bool)). wcode_in (elim o [ None ↦ [] | Some z ↦ z ]) (Some w) q) marked_there

  abbrev Formed : MethodId → Type 0
  Formed m = (fm : Form P W C m) × Facts P W C fm × ((a : Method) → method_at P m ≡ Some a → IsFormOf P W C m fm a)

  -- ---- a number that names no method of the program

  absent : (id : MethodId) → method_at P id ≡ None → Formed id
  absent id none = (
    record {
      method = no_method;
      there = λ a e. absurd (no_some a (sym none ∙ e));
      typing = λ q. no_types;
      live = λ q k. true;
      at = λ q. q;
      block_at = λ n. 0;
      has_calls = false;
      number = λ q. 0;
      call_at = λ q. 0;
      up_at = λ q. 0;
      block = λ q. 0;
    },
    record {
      stays = λ p to i h n. absurd (no_found (i, to) (sym (ap (λ (o : Option Method). code_in o p) none) ∙ h));
      group = λ p to i callee h n. absurd (no_found (i, to) (sym (ap (λ (o : Option Method). code_in o p) none) ∙ h));
      starts = refl;
      calls_pausable = λ h. absurd (false≢true h);
      unmoved = λ h p. refl;
      reads_shown = λ p to k i h r. absurd (no_found (i, to) (sym (ap (λ (o : Option Method). code_in o p) none) ∙ h));
      flows = λ p to q k i h a s. absurd (no_found (i, to) (sym (ap (λ (o : Option Method). code_in o p) none) ∙ h));
      arguments = λ k h. absurd (nothing_top k h);
      room = λ h. absurd (false≢true h);
      same_room = subst (λ (o : Option Method). slots_in o ≤ slots_in (method_at W id)) (sym none) (omega arith);
      higher = λ h. absurd (false≢true h);
      as_high = subst (λ (o : Option Method). limit_in o ≤ stack_limit W id) (sym none) (omega arith);
      within = λ q nx i h. absurd (no_code q (i, nx, false) h);
      grows = λ q nx i c h. absurd (no_code q (i, nx, c) h);
    },
    λ a e. absurd (no_some a (sym none ∙ e)),
  )
    where
      no_some : (a : Method) → None ≡ Some a → ⊥
      no_some a e = absurd (cc)

      no_found : (z : Instr × ℕ) → None ≡ Some z → ⊥
      no_found z e = absurd (cc)

      by : (o : Option Method) → method_at W id ≡ o → (bs : List Bool) (q : ℕ) (z : Instr × ℕ × Bool) → wcode_in bs o q ≡ Some z → ⊥
      by None e bs q z h = absurd (cc)
      by (Some b) e bs q z h = no_place b.code bs b.code_length q z (no_code_behind P P.methods W.methods counted woven.methods id.0 b none e) h

      no_code : (q : ℕ) (z : Instr × ℕ × Bool) → C id q ≡ Some z → ⊥
      no_code q z h = by (method_at W id) refl (marks_of counted id) q z h

  -- ---- a method without pausable calls: its code is as it was, and all of it counts

  module _ (id : MethodId) (m w : Method) (bs : List Bool) (at : method_at P id ≡ Some m) (there : method_at W id ≡ Some w) (marked_there : slice_get counted id.0 ≡ Some bs)
      (same_code : w.code ≡ m.code) (same_end : w.code_length ≡ m.code_length) (all : bs ≡ all_counted m) (locals : m.max_locals ≤ w.max_locals) (high : m.max_stack ≤ w.max_stack) (none : CallsNone P m.code) where
    code_was : (q : ℕ) → C id q ≡ marked m.code (map (λ e. true) m.code) m.code_length q
    code_was q =
        code_is id w bs there marked_there q ∙ ap (λ (es : List (ℕ × Instr)). marked es bs w.code_length q) same_code ∙ ap (λ (n : ℕ). marked m.code bs n q) same_end
        ∙ ap (λ (cs : List Bool). marked m.code cs m.code_length q) all

    goes_on : (q nx : ℕ) (i : Instr) (c : Bool) → C id q ≡ Some (i, nx, c) → (c ≡ true) × (q < nx)
    goes_on q nx i c h = counted_on m.code m.code_length q nx i c (whole_code m (stands_whole id m at).0).grows (sym (code_was q) ∙ h)

    well : has_code m ≡ true → WellTypedBy P m (typing_of P m)
    well coded = by_place P m (whole_code m (stands_whole id m at).0).grows (typed.methods id m at coded)

    first : (k : ℕ) → not (is_top (peek (typing_of P m 0).locals k)) ≡ true → k < argument_slots m
    unfolding typing_of
    first k h = by m.code refl
      where
        by : (es : List (ℕ × Instr)) → m.code ≡ es → k < argument_slots m
        by [] e = absurd (nothing_top k (subst (λ (c : List (ℕ × Instr)). not (is_top (peek (frame_among c (frames_of P m) 0).locals k)) ≡ true) e h))
        by (f ∷ es) e = live.first_typed P m (typing_of P m) (well (subst (λ (c : List (ℕ × Instr)). not (is_empty c) ≡ true) (sym e) refl)) f es e
            (subst (λ (c : List (ℕ × Instr)). first_place c m.code_length ≡ 0) e (whole_code m (stands_whole id m at).0).begins) k (live.flips (is_top (peek (typing_of P m 0).locals k)) h)

    unwoven : Formed id
    unwoven = (
      record {
        method = m;
        there = λ a e. same_some a m (sym e ∙ at);
        typing = typing_of P m;
        live = λ q k. true;
        at = λ q. q;
        block_at = λ n. 0;
        has_calls = false;
        number = λ q. 0;
        call_at = λ q. 0;
        up_at = λ q. 0;
        block = λ q. 0;
      },
      record {
        stays = λ p to i h n. record {
          next = to;
          is = code_was p ∙ all_marked m.code m.code_length p to i (fetch_is id m at p (i, to) h) ∙ ap (λ (j : Instr). Some (j, to, true)) (sym (moved_by_nothing i));
          goes = λ g. refl;
        };
        group = λ p to i callee h n. absurd (no_callee callee (sym (none_at P m.code m.code_length p to i none (fetch_is id m at p (i, to) h)) ∙ n));
        starts = refl;
        calls_pausable = λ h. absurd (false≢true h);
        unmoved = λ h p. refl;
        reads_shown = λ p to k i h r. let f = fetch_is id m at p (i, to) h in ap not (live.typed_reads P keeps m (typing_of P m) (well (has_found m.code m.code_length p (i, to) f)) p to k i f r);
        flows = λ p to q k i h a s. let f = fetch_is id m at p (i, to) h in
            flowed p k i (live.typed_flows P keeps m (typing_of P m) (well (has_found m.code m.code_length p (i, to) f)) p to q k i f a (live.flips (is_top (peek (typing_of P m q).locals k)) s));
        arguments = first;
        room = λ h. absurd (false≢true h);
        same_room = subst (λ (o : Option Method). slots_in o ≤ slots_in (method_at W id)) (sym at) (subst (λ (o : Option Method). m.max_locals ≤ slots_in o) (sym there) locals);
        higher = λ h. absurd (false≢true h);
        as_high = subst (λ (o : Option Method). limit_in o ≤ stack_limit W id) (sym at) (subst (λ (o : Option Method). m.max_stack ≤ limit_in o) (sym there) high);
        within = λ q nx i h. absurd (false≢true (goes_on q nx i false h).0);
        grows = λ q nx i c h. (goes_on q nx i c h).1;
      },
      λ a e. record { typing = ap (λ (z : Method). typing_of P z) (same_some m a (sym at ∙ e)); live = λ h. absurd (false≢true h) },
    )
      where
        same_some : (a b : Method) → Some a ≡ Some b → a ≡ b
        same_some a b e = cc

        no_callee : (callee : Method) → None ≡ Some callee → ⊥
        no_callee callee e = absurd (cc)

        flowed : (p k : ℕ) (i : Instr) → (is_top (peek (typing_of P m p).locals k) ≡ false) ⊎ (sets i k ≡ true) → (not (is_top (peek (typing_of P m p).locals k)) ≡ true) ⊎ (sets i k ≡ true)
        flowed p k i (inl e) = inl (ap not e)
        flowed p k i (inr e) = inr e

  -- ---- a method with pausable calls

  module _ (id : MethodId) (m w : Method) (bs : List Bool) (at : method_at P id ≡ Some m) (there : method_at W id ≡ Some w) (marked_there : slice_get counted id.0 ≡ Some bs)
      (pausable : m.pausable ≡ true) (calls : has_calls P m ≡ true) (lv : ℕ → ℕ → Bool) (new block : ℕ → ℕ) (is_live : IsLive m lv) (by : IsWovenBy (plan_of P m lv new block) w bs) where
    abbrev x : Plan
    x = plan_of P m lv new block

    old_grows : (es : List (ℕ × Instr)) → GrowsTo m.code_length es → Grows x w es
    old_grows [] g = tt
    old_grows (e ∷ es) g = (g.0, old_grows es g.1)

    wide : Wide 0 (woven_items x)
    wide = wide_of false (woven_items x) 0 (items_sound x w (old_grows m.code (whole_code m (stands_whole id m at).0).grows))

    laid : Laid (C id) x 0 (woven_items x)
    laid =
        subst (λ (o : Option Method). Laid (λ q. wcode_in (marks_of counted id) o q) x 0 (woven_items x)) (sym there)
        (subst (λ (o : Option (List Bool)). Laid (λ q. wcode_in (elim o [ None ↦ [] | Some z ↦ z ]) (Some w) q) x 0 (woven_items x)) (sym marked_there) (placed.laid_out x w bs by wide))

    code_now : (q : ℕ) → C id q ≡ marked (lay 0 (woven_items x)) (marks (woven_items x)) (behind 0 (woven_items x)) q
    code_now q = code_is id w bs there marked_there q ∙ ap (λ (z : Method). marked z.code bs z.code_length q) by.method ∙ ap (λ (b : List Bool). marked (lay 0 (woven_items x)) b (behind 0 (woven_items x)) q) by.counts

    behind_it : (q nx : ℕ) (i : Instr) (c : Bool) → C id q ≡ Some (i, nx, c) → (q < nx) × (nx ≤ behind 0 (woven_items x))
    behind_it q nx i c h = laid_on (woven_items x) 0 q nx i c wide (sym (code_now q) ∙ h)

    ends : EndsPath m.code
    ends = ends_from m.code (stands_whole id m at).1

    coded : has_code m ≡ true
    coded = has_some P m.code calls

    typed_well : WellTypedBy P m (typing_of P m)
    typed_well = by_place P m (whole_code m (stands_whole id m at).0).grows (typed.methods id m at coded)

    few : behind 0 (woven_items x) ≤ longest
    few =
        let a = (woven_programs P W counted keeps plainly typed pauses woven).1 id m w at there in
        let b = short id m at pausable calls in
        let c = reach_is in
        let d = ap (λ (z : Method). z.code_length) by.method in
        omega (arith, a, b, c, d)

    by_static : (b : Bool) (t u : VType) → length (t ∷ (if b then [] else u ∷ [])) ≡ (if b then 1 else 2)
    by_static true t u = refl
    by_static false t u = refl

    locals_now : w.max_locals ≡ fiber_slot m + (if m.is_static then 1 else 2)
    locals_now = ap (λ (z : Method). z.max_locals) by.method ∙ ap (λ (n : ℕ). fiber_slot m + n) (by_static m.is_static (fiber P) (class_vtype m.owner))

    stack_now : w.max_stack ≡ m.max_stack + 4
    stack_now = ap (λ (z : Method). z.max_stack) by.method

    first_entry : (k : ℕ) → live.shown P keeps m (typing_of P m) typed_well lv is_live 0 k ≡ true → k < argument_slots m
    first_entry k h = go m.code refl coded
      where
        go : (es : List (ℕ × Instr)) → m.code ≡ es → not (is_empty m.code) ≡ true → k < argument_slots m
        go [] e c = absurd (false≢true (subst (λ (z : List (ℕ × Instr)). not (is_empty z) ≡ true) e c))
        go (f ∷ es) e c = live.arguments P keeps m (typing_of P m) typed_well lv is_live f es e (subst (λ (z : List (ℕ × Instr)). first_place z m.code_length ≡ 0) e (whole_code m (stands_whole id m at).0).begins) k h

    abbrev fm : Form P W C id
    fm = placed.form P W C id m (typing_of P m) lv new block at ends laid

    rewoven : Formed id
    rewoven = (
      placed.form P W C id m (typing_of P m) lv new block at ends laid,
      record {
        stays = placed.stays P W C id m (typing_of P m) lv new block at ends laid;
        group = λ p to i callee h n.
            let g = placed.group_stands P W C id m (typing_of P m) lv new block at ends laid p to i callee h n in
            let f = fetch_is id m at p (i, to) h in
            let one = targets.no_less x m.code 1 p in
            record {
              has_calls = refl;
              pausable = ap (λ (o : Option Method). elim o [ None ↦ false | Some z ↦ z.pausable ]) at ∙ pausable;
              down_at = g.down_at;
              load = g.load;
              down = g.down;
              call = g.call;
              up_rest = g.up_rest;
              back_rest = g.back_rest;
              up = g.up;
              back = g.back;
              target = targets.target x (new 0) p to (number_at x 1 m.code p - 1) i callee f n (omega (arith, one));
              kept = λ k s. live.kept P keeps m (typing_of P m) typed_well lv is_live p to k i callee f n s;
              saves = λ k s. live.saves P keeps m (typing_of P m) typed_well lv is_live p to k i callee f n s;
            };
        starts = placed.starts P W C id m (typing_of P m) lv new block at ends laid;
        calls_pausable = λ h. ap (λ (o : Option Method). elim o [ None ↦ false | Some z ↦ z.pausable ]) at ∙ pausable;
        unmoved = λ h p. absurd (false≢true (sym h));
        reads_shown = λ p to k i h r. live.reads_shown P keeps m (typing_of P m) typed_well lv is_live p to k i (fetch_is id m at p (i, to) h) r;
        flows = λ p to q k i h a s. live.flows P keeps m (typing_of P m) typed_well lv is_live p to q k i (fetch_is id m at p (i, to) h) a s;
        arguments = first_entry;
        room = λ h. let e = locals_now in subst (λ (o : Option Method). fiber_slot m + (if m.is_static then 1 else 2) ≤ slots_in o) (sym there) (omega (arith, e));
        same_room = subst (λ (o : Option Method). slots_in o ≤ slots_in (method_at W id)) (sym at)
            (subst (λ (o : Option Method). m.max_locals ≤ slots_in o) (sym there) (let e = locals_now in let l = (is_larger m.max_locals (suc (argument_slots m))).0 in omega (arith, e, l)));
        higher = λ h. subst (λ (o : Option Method). limit_in o + 4 ≤ stack_limit W id) (sym at) (subst (λ (o : Option Method). m.max_stack + 4 ≤ limit_in o) (sym there) (let e = stack_now in omega (arith, e)));
        as_high = subst (λ (o : Option Method). limit_in o ≤ stack_limit W id) (sym at) (subst (λ (o : Option Method). m.max_stack ≤ limit_in o) (sym there) (let e = stack_now in omega (arith, e)));
        within = λ q nx i h. let a = (behind_it q nx i false h).1 in let b = few in omega (arith, a, b);
        grows = λ q nx i c h. (behind_it q nx i c h).0;
      },
      λ a e. record { typing = ap (λ (z : Method). typing_of P z) (same_some m a (sym at ∙ e)); live = λ h. subst (λ (z : Method). IsLive z lv) (same_some m a (sym at ∙ e)) is_live },
    )
      where
        same_some : (a b : Method) → Some a ≡ Some b → a ≡ b
        same_some a b e = cc

  -- ---- all of them

  wider : (b : Bool) (a n : ℕ) → a ≤ n → a ≤ (if b then n else a)
  wider true a n h = h
  wider false a n h = omega arith

  pub formed : (id : MethodId) → Formed id
  formed id = by (method_at P id) refl
    where
      by : (o : Option Method) → method_at P id ≡ o → Formed id
      by None e = absent id e
      by (Some m) e = cases m.pausable (has_calls P m) refl refl f.is
        where
          f : Found P W.methods counted id.0 m
          f = found_at P P.methods W.methods counted woven.methods id.0 m e

          cases : (z c : Bool) → m.pausable ≡ z → has_calls P m ≡ c → woven_as z c P m f.woven f.counted → Formed id
          cases false c is cs k =
              unwoven id m f.woven f.counted e f.there f.marked_there (ap (λ (w : Method). w.code) k.0) (ap (λ (w : Method). w.code_length) k.0) k.1 (let l = ap (λ (w : Method). w.max_locals) k.0 in omega (arith, l)) (let s = ap (λ (w : Method). w.max_stack) k.0 in omega (arith, s)) (pauses.plain id m e is)
          cases true false is cs k =
              unwoven id m f.woven f.counted e f.there f.marked_there (ap (λ (w : Method). w.code) k.0) (ap (λ (w : Method). w.code_length) k.0) k.1
              (let l = ap (λ (w : Method). w.max_locals) k.0 in let z = wider (has_code m) m.max_locals (larger m.max_locals (suc (argument_slots m))) (is_larger m.max_locals (suc (argument_slots m))).0 in omega (arith, l, z))
              (let s = ap (λ (w : Method). w.max_stack) k.0 in omega (arith, s)) (none_called P m.code cs)
          cases true true is cs k = rewoven id m f.woven f.counted e f.there f.marked_there is cs k.0 k.1 k.2 k.3 k.4
