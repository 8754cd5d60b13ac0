-- The walk through a well-typed method, by its flow edges.
use Rattle.std.proofs.Common.{◌≡◌, inl, inr, ℕ, zero, suc, Bool, true, false, ◌||◌, cond, eqb, refl, ap, sym, ◌∙◌, subst, List, [], ◌∷◌, Option, Some, None, Ok, slice_get}
use Rattle.std.specs.List.{list_all}
use Rattle.std.proofs.lemmas.Bool.{and_parts, eqb-true, eq-eqb}
use Rattle.kilim_program.specs.declared.class.Handler.{Handler}
use Rattle.kilim_program.specs.declared.class.Method.{Method}
use Rattle.kilim_program.specs.declared.instr.Instr.{Instr}
use Rattle.kilim_program.specs.declared.verified.Frame.{Frame}
use Rattle.kilim_program.specs.Keeps.{Keeps}
use Rattle.kilim_program.specs.Lengths.{ends_path, fetched, first_place, is_code_place, jump_targets}
use Rattle.kilim_program.specs.Program.{Program}
use Rattle.kilim_type_spec.specs.Step.{Types, type_step}
use Rattle.kilim_type_spec.specs.Typed.{Among, AreHandled, FlowsInto, HandlesBy, Here, IsCaught, IsHandled, caught_type, covers, Jumps, TypedBy, WellTypedBy, declared, edges, frame_fits, frame_in, frame_types, goes_on}
use Rattle.kilim_type_laws.specs.Laws.{EdgesFlow, HandlersFlow}
use Rattle.kilim_type_laws.proofs.Itself.{flows_itself}

-- ---- places

later : (e : ℕ × Instr) (es : List (ℕ × Instr)) (q : ℕ) → is_code_place es q ≡ true → is_code_place (e ∷ es) q ≡ true
later e es q h = by_test (eqb e.0 q)
  where
    by_test : (b : Bool) → (b || is_code_place es q) ≡ true
    by_test true = refl
    by_test false = h

first : (e : ℕ × Instr) (es : List (ℕ × Instr)) → is_code_place (e ∷ es) e.0 ≡ true
first e es = subst (λ (b : Bool). (b || is_code_place es e.0) ≡ true) (sym (eq-eqb e.0 e.0 refl)) refl

module _ (p : Program) (keeps : Keeps p) (m : Method) (typing : ℕ → Types) where
  -- a declared frame stands at an instruction
  declared_place : (es : List (ℕ × Frame)) (at : ℕ) (d : Types) → list_all (frame_fits m) es ≡ true → frame_in es at ≡ Some d → is_code_place m.code at ≡ true
  declared_place [] at d h k = absurd (cc)
  declared_place (e ∷ es) at d h k = by_test (eqb e.0 at) refl k (λ again. declared_place es at d hs.1 again)
    where
      hs : (frame_fits m e ≡ true) × (list_all (frame_fits m) es ≡ true)
      hs = and_parts (frame_fits m e) (list_all (frame_fits m) es) h

      by_test : (b : Bool) → eqb e.0 at ≡ b → cond b (Some (frame_types e.1)) (frame_in es at) ≡ Some d → (frame_in es at ≡ Some d → is_code_place m.code at ≡ true) → is_code_place m.code at ≡ true
      by_test true t k again = subst (λ (q : ℕ). is_code_place m.code q ≡ true) (eqb-true e.0 at t) (and_parts (is_code_place m.code e.0) _ hs.0).0
      by_test false t k again = again k

  here_flows : (g f : Types) (o : Option Types) → Here p (Some g) o f → FlowsInto p g f
  here_flows g f None h = subst (λ (z : Types). FlowsInto p g z) (sym h) (flows_itself p keeps g)
  here_flows g f (Some d) h = subst (λ (z : Types). FlowsInto p g z) (sym h.0) h.1

  -- what is known of an instruction
  pub record Stands (at : ℕ) (i : Instr) (next : ℕ) : Type 0 where
    pub after : Types
    pub step : type_step p m at i (typing at) ≡ Ok after
    pub jumps : Jumps p m after (jump_targets i)
    pub on : ends_path i ≡ false → (is_code_place m.code next ≡ true) × FlowsInto p after (typing next)

  next_of : (g : Types) (es : List (ℕ × Instr)) (end : ℕ) → TypedBy p m typing (Some g) es → (is_code_place es (first_place es end) ≡ true) × FlowsInto p g (typing (first_place es end))
  next_of g [] end h = absurd (cc)
  next_of g (e ∷ es) end h = (first e es, here_flows g (typing e.0) (declared m e.0) h.0)

  stands : (flow : Option Types) (es : List (ℕ × Instr)) (end at : ℕ) (i : Instr) (next : ℕ) → ((q : ℕ) → is_code_place es q ≡ true → is_code_place m.code q ≡ true) → TypedBy p m typing flow es → fetched es end at ≡ Some (i, next) → Stands at i next
  stands flow [] end at i next within h k = absurd (cc)
  stands flow (e ∷ es) end at i next within h k = by_test (eqb e.0 at) refl k (stands (goes_on (ends_path e.1) h.1) es end at i next (λ q z. within q (later e es q z)) h.4)
    where
      here : (is : e.0 ≡ at) → (j : e.1 ≡ i) → (n : first_place es end ≡ next) → Stands at i next
      here is j n = subst (λ (q : ℕ). Stands at i q) n (subst (λ (x : Instr). Stands at x (first_place es end)) j (subst (λ (q : ℕ). Stands q e.1 (first_place es end)) is
          (record {
            after = h.1;
            step = h.2;
            jumps = h.3;
            on = λ z. let t = next_of h.1 es end (subst (λ (b : Bool). TypedBy p m typing (goes_on b h.1) es) z h.4) in (within (first_place es end) (later e es (first_place es end) t.0), t.1);
          })))

      by_test : (b : Bool) → eqb e.0 at ≡ b → cond b (Some (e.1, first_place es end)) (fetched es end at) ≡ Some (i, next) → (fetched es end at ≡ Some (i, next) → Stands at i next) → Stands at i next
      by_test true t k again = let pair : (e.1, first_place es end) ≡ (i, next) = cc in here (eqb-true e.0 at t) (ap (λ (z : Instr × ℕ). z.0) pair) (ap (λ (z : Instr × ℕ). z.1) pair)
      by_test false t k again = again k

  here_is : (flow : Option Types) (d f : Types) → Here p flow (Some d) f → f ≡ d
  here_is None d f h = h
  here_is (Some g) d f h = h.0

  typed_at : (flow : Option Types) (es : List (ℕ × Instr)) (q : ℕ) (d : Types) → TypedBy p m typing flow es → is_code_place es q ≡ true → declared m q ≡ Some d → typing q ≡ d
  typed_at flow [] q d h c k = absurd (cc)
  typed_at flow (e ∷ es) q d h c k = by_test (eqb e.0 q) refl c (typed_at (goes_on (ends_path e.1) h.1) es q d h.4)
    where
      by_test : (b : Bool) → eqb e.0 q ≡ b → (b || is_code_place es q) ≡ true → (is_code_place es q ≡ true → declared m q ≡ Some d → typing q ≡ d) → typing q ≡ d
      by_test true t c again = subst (λ (z : ℕ). typing z ≡ d) (eqb-true e.0 q t)
          (here_is flow d (typing e.0) (subst (λ (o : Option Types). Here p flow o (typing e.0)) (ap (declared m) (eqb-true e.0 q t) ∙ k) h.0))
      by_test false t c again = again c k

  module _ (well : WellTypedBy p m typing) where
    pub stands_at : (at : ℕ) (i : Instr) (next : ℕ) → fetched m.code m.code_length at ≡ Some (i, next) → Stands at i next
    stands_at at i next k = stands _ m.code m.code_length at i next (λ q z. z) well.walk k

    jump_flows : (g : Types) (tos : List ℕ) (q : ℕ) → Jumps p m g tos → Among tos q → (is_code_place m.code q ≡ true) × FlowsInto p g (typing q)
    jump_flows g [] q js a = absurd a
    jump_flows g (to ∷ tos) q js (inl e) =
        let place = declared_place m.frames to js.0.0 well.frames js.0.1 in
        let is = typed_at _ m.code to js.0.0 well.walk place js.0.1 in
        subst (λ (z : ℕ). (is_code_place m.code z ≡ true) × FlowsInto p g (typing z)) e (place, subst (λ (z : Types). FlowsInto p g z) (sym is) js.0.2)
    jump_flows g (to ∷ tos) q js (inr a) = jump_flows g tos q js.1 a

    reached : (at : ℕ) (i : Instr) (next q : ℕ) (s : Stands at i next) → Among (edges i next) q → (is_code_place m.code q ≡ true) × FlowsInto p s.after (typing q)
    reached at i next q s a = by_test (ends_path i) refl a
      where
        by_test : (b : Bool) → ends_path i ≡ b → Among (cond b (jump_targets i) (next ∷ jump_targets i)) q → (is_code_place m.code q ≡ true) × FlowsInto p s.after (typing q)
        by_test true e a = jump_flows s.after (jump_targets i) q s.jumps a
        by_test false e (inl z) = subst (λ (x : ℕ). (is_code_place m.code x ≡ true) × FlowsInto p s.after (typing x)) z (s.on e)
        by_test false e (inr a) = jump_flows s.after (jump_targets i) q s.jumps a

  -- ---- handlers

  handled_there : (es : List (ℕ × Instr)) (end at next : ℕ) (i : Instr) → HandlesBy p m typing es → fetched es end at ≡ Some (i, next) → AreHandled p m at (typing at) m.handlers
  handled_there [] end at next i h k = absurd (cc)
  handled_there (e ∷ es) end at next i h k = by_test (eqb e.0 at) refl k (λ again. handled_there es end at next i h.1 again)
    where
      by_test : (b : Bool) → eqb e.0 at ≡ b → cond b (Some (e.1, first_place es end)) (fetched es end at) ≡ Some (i, next) → (fetched es end at ≡ Some (i, next) → AreHandled p m at (typing at) m.handlers) → AreHandled p m at (typing at) m.handlers
      by_test true t k again = subst (λ (q : ℕ). AreHandled p m q (typing q) m.handlers) (eqb-true e.0 at t) h.0
      by_test false t k again = again k

  handled_one : (at : ℕ) (f : Types) (hs : List Handler) (n : ℕ) (h : Handler) → AreHandled p m at f hs → slice_get hs n ≡ Some h → IsHandled p m at f h
  handled_one at f [] n h all there = absurd (cc)
  handled_one at f (x ∷ hs) zero h all there = subst (λ (z : Handler). IsHandled p m at f z) (let same : x ≡ h = cc in same) all.0
  handled_one at f (x ∷ hs) (suc n) h all there = handled_one at f hs n h all.1 there

  pub caught_at : WellTypedBy p m typing → (at next n : ℕ) (i : Instr) (h : Handler) → fetched m.code m.code_length at ≡ Some (i, next) → slice_get m.handlers n ≡ Some h → covers h at ≡ true → IsCaught p m (typing at) h
  caught_at well at next n i h is there covering = (handled_one at (typing at) m.handlers n h (handled_there m.code m.code_length at next i well.handled is) there).within covering

pub handlers_flow : HandlersFlow
handlers_flow p keeps m typing well at next n i h is there covering =
    let c = caught_at p keeps m typing well at next n i h is there covering in
    let place = declared_place p keeps m typing m.frames h.at c.frame well.frames c.there in
    let same = typed_at p keeps m typing _ m.code h.at c.frame well.walk place c.there in
    record { place = place; flows = subst (λ (z : Types). FlowsInto p (record (typing at) { stack = caught_type p h.catch ∷ [] }) z) (sym same) c.flows }

pub edges_flow : EdgesFlow
edges_flow p keeps m typing well at next to i is among =
    let s = stands_at p keeps m typing well at i next is in
    let r = reached p keeps m typing well at i next to s among in
    record { left = s.after; step = s.step; place = r.0; flows = r.1 }
