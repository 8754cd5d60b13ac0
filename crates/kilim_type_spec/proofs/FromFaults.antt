-- A method without a fault is well typed.
use Rattle.std.proofs.Common.{◌≡◌, ℕ, zero, suc, ◌+◌, Bool, true, false, ◌||◌, ◌&&◌, not, cond, refl, ap, sym, ◌∙◌, subst, ◌==◌, List, [], ◌∷◌, ◌++◌, Option, Some, None, Result, Ok, Err}
use Rattle.std.specs.Prelude.{is_some, nat_le, unwrap_or}
use Rattle.std.specs.List.{list_all}
use Rattle.std.proofs.lemmas.Bool.{and_parts}
use Rattle.kilim_program.specs.declared.class.Handler.{Handler}
use Rattle.kilim_program.specs.declared.class.Method.{Method}
use Rattle.kilim_program.specs.declared.instr.Instr.{Instr}
use Rattle.kilim_program.specs.declared.verified.Frame.{Frame}
use Rattle.kilim_program.specs.declared.verified.VType.{VType}
use Rattle.kilim_program.specs.declared.verified.VType.TheVariants.{Top, Int, Long, Null, UninitThis, Uninit, Object}
use Rattle.kilim_program.specs.Lengths.{jump_targets, ends_path, code_ends}
use Rattle.kilim_program.specs.Program.{Program}
use Rattle.kilim_program.specs.Names.{is_empty}
use Rattle.kilim_program.specs.Same.{argument_slots}
use Rattle.kilim_type_spec.specs.Step.{Types, peek, assignable, type_step}
use Rattle.kilim_type_spec.specs.Typed.{declared, frame_fits, all_assignable, FlowsInto, Jumps, Here, goes_on, Typed, entry, WellTyped, has_code, arriving, flows_on, left_by, no_types, frames_from, covers, caught_type, catch_fits, IsCaught, IsHandled, AreHandled, Handles}
use Rattle.kilim_type_spec.specs.Faults.{lesser, fails_unless, locals_flow, flows_into, flows_into_declared, next_places, flow_rule, begins_declared, targets_declared, rule_of, instr_rule, place_rule, fault_or, walk_fault, entry_rule, body_fault, frame_fault, comes_first, earlier, method_fault, caught_flows, rule_15, rule_16, handler_rule}
use Rattle.kilim_type_spec.specs.Laws.{NoFaultIsWellTyped}

-- ---- rules that don't fail

lesser_none : (a b : Option ℕ) → lesser a b ≡ None → (a ≡ None) × (b ≡ None)
lesser_none None b e = (refl, e)
lesser_none (Some a) None e = absurd (cc)
lesser_none (Some a) (Some b) e = absurd (by (nat_le a b) e)
  where
    by : (t : Bool) → cond t (Some a) (Some b) ≡ None → ⊥
    by true x = cc
    by false x = cc

unless_none : (b : Bool) (n : ℕ) → fails_unless b n ≡ None → b ≡ true
unless_none true n e = refl
unless_none false n e = absurd (cc)

fault_none : (at : ℕ) (a : Option ℕ) (b : Option (ℕ × ℕ)) → fault_or at a b ≡ None → (a ≡ None) × (b ≡ None)
fault_none at None b e = (refl, e)
fault_none at (Some n) b e = absurd (cc)

earlier_none : (a b : Option (ℕ × ℕ)) → earlier a b ≡ None → (a ≡ None) × (b ≡ None)
earlier_none None b e = (refl, e)
earlier_none (Some a) None e = absurd (cc)
earlier_none (Some a) (Some b) e = absurd (by (comes_first a b) e)
  where
    by : (t : Bool) → cond t (Some a) (Some b) ≡ None → ⊥
    by true x = cc
    by false x = cc

result_ok : (r : Result Types ℕ) → rule_of r ≡ None → (g : Types) × (r ≡ Ok g)
result_ok (Ok g) e = (g, refl)
result_ok (Err n) e = absurd (cc)

-- ---- flow

top_takes : (p : Program) (t : VType) → assignable p t Top ≡ true
top_takes p t = refl

slots_flow : (p : Program) (fs ds : List VType) → locals_flow p fs ds ≡ true → (slot : ℕ) → assignable p (peek fs slot) (peek ds slot) ≡ true
slots_flow p fs [] e slot = top_takes p (peek fs slot)
slots_flow p [] (d ∷ ds) e zero = (and_parts (assignable p Top d) (locals_flow p [] ds) e).0
slots_flow p [] (d ∷ ds) e (suc k) = slots_flow p [] ds (and_parts (assignable p Top d) (locals_flow p [] ds) e).1 k
slots_flow p (f ∷ fs) (d ∷ ds) e zero = (and_parts (assignable p f d) (locals_flow p fs ds) e).0
slots_flow p (f ∷ fs) (d ∷ ds) e (suc k) = slots_flow p fs ds (and_parts (assignable p f d) (locals_flow p fs ds) e).1 k

unset_kept : (a b : Bool) → (not a || b) ≡ true → a ≡ true → b ≡ true
unset_kept true b e h = e
unset_kept false b e h = absurd (cc)

flows : (p : Program) (f d : Types) → flows_into p f d ≡ true → FlowsInto p f d
flows p f d e =
    let one = and_parts (locals_flow p f.locals d.locals) (all_assignable p f.stack d.stack && (not f.unset || d.unset)) e in
    let two = and_parts (all_assignable p f.stack d.stack) (not f.unset || d.unset) one.1 in
    record { locals = slots_flow p f.locals d.locals one.0; stack = two.0; unset = unset_kept f.unset d.unset two.1 }

declared_flow : (p : Program) (g : Types) (o : Option Types) → is_some o ≡ true → flows_into_declared p g o ≡ true → (d : Types) × (o ≡ Some d) × FlowsInto p g d
declared_flow p g None s e = absurd (cc)
declared_flow p g (Some d) s e = (d, refl, flows p g d e)

jumps : (p : Program) (m : Method) (g : Types) (tos : List ℕ) → list_all (λ to. is_some (declared m to)) tos ≡ true → list_all (λ to. flows_into_declared p g (declared m to)) tos ≡ true → Jumps p m g tos
jumps p m g [] s e = tt
jumps p m g (to ∷ tos) s e =
    let a = and_parts (is_some (declared m to)) (list_all (λ t. is_some (declared m t)) tos) s in
    let b = and_parts (flows_into_declared p g (declared m to)) (list_all (λ t. flows_into_declared p g (declared m t)) tos) e in
    (declared_flow p g (declared m to) a.0 b.0, jumps p m g tos a.1 b.1)

all_parts : (test : ℕ → Bool) (xs ys : List ℕ) → list_all test (xs ++ ys) ≡ true → (list_all test xs ≡ true) × (list_all test ys ≡ true)
all_parts test [] ys e = (refl, e)
all_parts test (x ∷ xs) ys e =
    let a = and_parts (test x) (list_all test (xs ++ ys)) e in
    let b = all_parts test xs ys a.1 in
    (ap (λ t. t && list_all test xs) a.0 ∙ b.0, b.1)

-- ---- handlers

not_set : (b : Bool) → not b ≡ true → b ≡ false
not_set true e = absurd (cc)
not_set false e = refl

caught_frame : (p : Program) (m : Method) (f : Types) (h : Handler) (o : Option Types) → declared m h.at ≡ o → caught_flows p f h o ≡ true → f.unset ≡ false → IsCaught p m f h
caught_frame p m f h None is e set = absurd (cc)
caught_frame p m f h (Some d) is e set =
    let parts = and_parts (locals_flow p f.locals d.locals) (all_assignable p (caught_type p h.catch ∷ []) d.stack) e in
    record { frame = d; there = is; flows = record { locals = slots_flow p f.locals d.locals parts.0; stack = parts.1; unset = λ marked. absurd (let x = sym set ∙ marked in cc) }; set = set }

one_handled : (p : Program) (m : Method) (at : ℕ) (f : Types) (h : Handler) → rule_15 p m at f h ≡ true → rule_16 p at f h ≡ true → IsHandled p m at f h
one_handled p m at f h caught set =
    let two = and_parts (not (covers h at) || not f.unset) (not (h.start == at) || catch_fits p h.catch) set in
    record {
      within = λ c. caught_frame p m f h (declared m h.at) refl (unset_kept (covers h at) (caught_flows p f h (declared m h.at)) caught c) (not_set f.unset (unset_kept (covers h at) (not f.unset) two.0 c));
      begins = unset_kept (h.start == at) (catch_fits p h.catch) two.1;
    }

all_handled : (p : Program) (m : Method) (at : ℕ) (f : Types) (hs : List Handler) → list_all (rule_15 p m at f) hs ≡ true → list_all (rule_16 p at f) hs ≡ true → AreHandled p m at f hs
all_handled p m at f [] a b = tt
all_handled p m at f (h ∷ hs) a b =
    let one = and_parts (rule_15 p m at f h) (list_all (rule_15 p m at f) hs) a in
    let two = and_parts (rule_16 p at f h) (list_all (rule_16 p at f) hs) b in
    (one_handled p m at f h one.0 two.0, all_handled p m at f hs one.1 two.1)

handled : (p : Program) (m : Method) (at : ℕ) (f : Types) → handler_rule p m at f ≡ None → AreHandled p m at f m.handlers
handled p m at f none =
    let both = lesser_none (fails_unless (list_all (rule_15 p m at f) m.handlers) 15) (fails_unless (list_all (rule_16 p at f) m.handlers) 16) none in
    all_handled p m at f m.handlers (unless_none (list_all (rule_15 p m at f) m.handlers) 15 both.0) (unless_none (list_all (rule_16 p at f) m.handlers) 16 both.1)

-- ---- the walk

-- what flows to the next place may stand there
abbrev pub MayStand : Program → Option Types → Option Types → Type 0
MayStand p None None = ⊥
MayStand p None (Some d) = Unit {0}
MayStand p (Some g) None = Unit {0}
MayStand p (Some g) (Some d) = FlowsInto p g d

abbrev pub Ready : Program → Method → Option Types → List (ℕ × Instr) → Type 0
Ready p m flow [] = flow ≡ None
Ready p m flow (e ∷ es) = MayStand p flow (declared m e.0)

stands : (p : Program) (flow d : Option Types) → MayStand p flow d → (f : Types) × (arriving flow d ≡ Some f) × Here p flow d f
stands p None None r = absurd r
stands p None (Some d) r = (d, refl, refl)
stands p (Some g) None r = (g, refl, refl)
stands p (Some g) (Some d) r = (d, refl, (refl, r))

may_stand : (p : Program) (g : Types) (o : Option Types) → flows_into_declared p g o ≡ true → MayStand p (Some g) o
may_stand p g None e = tt
may_stand p g (Some d) e = flows p g d e

may_begin : (p : Program) (o : Option Types) → is_some o ≡ true → MayStand p None o
may_begin p None e = absurd (cc)
may_begin p (Some d) e = tt

-- control goes on, or not
ready_on : (p : Program) (m : Method) (g : Types) (ends : Bool) (e : ℕ × Instr) (es : List (ℕ × Instr)) → list_all (λ to. flows_into_declared p g (declared m to)) (next_places ends (e ∷ es)) ≡ true →
    (not ends || begins_declared m (e ∷ es)) ≡ true → Ready p m (goes_on ends g) (e ∷ es)
ready_on p m g true e es a b = may_begin p (declared m e.0) b
ready_on p m g false e es a b = may_stand p g (declared m e.0) (and_parts (flows_into_declared p g (declared m e.0)) true a).0

ready_last : (p : Program) (m : Method) (g : Types) (ends : Bool) → ends ≡ true → Ready p m (goes_on ends g) []
ready_last p m g true e = refl
ready_last p m g false e = absurd (cc)

-- what is behind an instruction is ready
ready_behind : (p : Program) (m : Method) (g : Types) (e : ℕ × Instr) (es : List (ℕ × Instr)) → code_ends (e ∷ es) ≡ true → list_all (λ to. flows_into_declared p g (declared m to)) (next_places (ends_path e.1) es) ≡ true →
    (not (ends_path e.1) || begins_declared m es) ≡ true → Ready p m (goes_on (ends_path e.1) g) es
unfolding code_ends
ready_behind p m g e [] c a b = ready_last p m g (ends_path e.1) c
ready_behind p m g e (next ∷ es) c a b = ready_on p m g (ends_path e.1) next es a b

rest_ends : (e : ℕ × Instr) (es : List (ℕ × Instr)) → code_ends (e ∷ es) ≡ true → code_ends es ≡ true
unfolding code_ends
rest_ends e [] c = refl
rest_ends e (next ∷ es) c = c

-- an instruction without a fault
pub record Passes (p : Program) (m : Method) (e : ℕ × Instr) (es : List (ℕ × Instr)) (f : Types) : Type 0 where
  pub after : Types
  pub steps : type_step p m e.0 e.1 f ≡ Ok after
  pub jump : Jumps p m after (jump_targets e.1)
  pub next : list_all (λ to. flows_into_declared p after (declared m to)) (next_places (ends_path e.1) es) ≡ true
  pub behind : (not (ends_path e.1) || begins_declared m es) ≡ true
  pub handled : AreHandled p m e.0 f m.handlers

passes : (p : Program) (m : Method) (e : ℕ × Instr) (es : List (ℕ × Instr)) (f : Types) → place_rule p m e es (Some f) ≡ None → Passes p m e es f
passes p m e es f fails =
    let r : Result Types ℕ = type_step p m e.0 e.1 f in
    let first = lesser_none (instr_rule p m e.1 es r) (handler_rule p m e.0 f) fails in
    let tos : List ℕ = jump_targets e.1 ++ next_places (ends_path e.1) es in
    let one = lesser_none (flow_rule p m tos r) (lesser (fails_unless (targets_declared m e.1 es) 2) (rule_of r)) first.0 in
    let two = lesser_none (fails_unless (targets_declared m e.1 es) 2) (rule_of r) one.1 in
    let made = result_ok r two.1 in
    let all : list_all (λ to. flows_into_declared p made.0 (declared m to)) tos ≡ true =
    unless_none (list_all (λ to. flows_into_declared p made.0 (declared m to)) tos) 1 (sym (ap (flow_rule p m tos) made.1) ∙ one.0) in
    let parts = all_parts (λ to. flows_into_declared p made.0 (declared m to)) (jump_targets e.1) (next_places (ends_path e.1) es) all in
    let there = and_parts (list_all (λ to. is_some (declared m to)) (jump_targets e.1)) (not (ends_path e.1) || begins_declared m es) (unless_none (targets_declared m e.1 es) 2 two.0) in
    record { after = made.0; steps = made.1; jump = jumps p m made.0 (jump_targets e.1) there.0 parts.0; next = parts.1; behind = there.1; handled = handled p m e.0 f first.1 }

left_is : (p : Program) (m : Method) (e : ℕ × Instr) (f g : Types) (o : Option Types) → o ≡ Some f → type_step p m e.0 e.1 f ≡ Ok g → left_by p m e o ≡ goes_on (ends_path e.1) g
left_is p m e f g o is s = ap (left_by p m e) is ∙ ap (flows_on (ends_path e.1)) s

pub typed_from : (p : Program) (m : Method) (pending : Option ℕ) (flow : Option Types) (es : List (ℕ × Instr)) → code_ends es ≡ true → Ready p m flow es → walk_fault p m pending flow es ≡ None → Typed p m flow es
typed_from p m pending flow [] c r w = r
typed_from p m pending flow (e ∷ es) c r w =
    let o : Option Types = arriving flow (declared m e.0) in
    let here = stands p flow (declared m e.0) r in
    let parts = fault_none e.0 (lesser pending (place_rule p m e es o)) (walk_fault p m None (left_by p m e o) es) w in
    let rule : place_rule p m e es (Some here.0) ≡ None = sym (ap (place_rule p m e es) here.1) ∙ (lesser_none pending (place_rule p m e es o) parts.0).1 in
    let done = passes p m e es here.0 rule in
    let left : left_by p m e o ≡ goes_on (ends_path e.1) done.after = left_is p m e here.0 done.after o here.1 done.steps in (
      here.0,
      here.2,
      done.after,
      done.steps,
      done.jump,
      typed_from p m None (goes_on (ends_path e.1) done.after) es (rest_ends e es c) (ready_behind p m done.after e es c done.next done.behind) (sym (ap (λ g. walk_fault p m None g es) left) ∙ parts.1),
    )

-- the same, of handlers
handled_from : (p : Program) (m : Method) (pending : Option ℕ) (flow : Option Types) (es : List (ℕ × Instr)) → code_ends es ≡ true → Ready p m flow es → walk_fault p m pending flow es ≡ None → Handles p m es (frames_from p m flow es)
handled_from p m pending flow [] c r w = tt
handled_from p m pending flow (e ∷ es) c r w =
    let o : Option Types = arriving flow (declared m e.0) in
    let here = stands p flow (declared m e.0) r in
    let parts = fault_none e.0 (lesser pending (place_rule p m e es o)) (walk_fault p m None (left_by p m e o) es) w in
    let rule : place_rule p m e es (Some here.0) ≡ None = sym (ap (place_rule p m e es) here.1) ∙ (lesser_none pending (place_rule p m e es o) parts.0).1 in
    let done = passes p m e es here.0 rule in
    let left : left_by p m e o ≡ goes_on (ends_path e.1) done.after = left_is p m e here.0 done.after o here.1 done.steps in (
      subst (λ (f : Types). AreHandled p m e.0 f m.handlers) (sym (ap (λ (x : Option Types). unwrap_or x no_types) here.1)) done.handled,
      subst (λ (g : Option Types). Handles p m es (frames_from p m g es)) (sym left)
          (handled_from p m None (goes_on (ends_path e.1) done.after) es (rest_ends e es c) (ready_behind p m done.after e es c done.next done.behind) (sym (ap (λ g. walk_fault p m None g es) left) ∙ parts.1)),
    )

frames_fit : (m : Method) (fs : List (ℕ × Frame)) → frame_fault m fs ≡ None → list_all (frame_fits m) fs ≡ true
frames_fit m [] e = refl
frames_fit m (f ∷ fs) e = by (frame_fits m f) (λ (x : frame_fault m fs ≡ None). frames_fit m fs x) refl
  where
    by : (b : Bool) → (frame_fault m fs ≡ None → list_all (frame_fits m) fs ≡ true) → frame_fits m f ≡ b → list_all (frame_fits m) (f ∷ fs) ≡ true
    by true rest t = ap (λ b. b && list_all (frame_fits m) fs) t ∙ rest (sym (ap (λ b. cond b (frame_fault m fs) (Some (f.0, 12))) t) ∙ e)
    by false rest t = let x : Some (f.0, 12) ≡ None = sym (ap (λ b. cond b (frame_fault m fs) (Some (f.0, 12))) t) ∙ e in absurd (cc (x))

-- the body of a method with code
pub record BodyPasses (p : Program) (m : Method) (es : List (ℕ × Instr)) : Type 0 where
  pub arguments : nat_le (argument_slots m) m.max_locals ≡ true
  pub walk : Typed p m (Some (entry m)) es
  pub handled : Handles p m es (frames_from p m (Some (entry m)) es)

body_passes : (p : Program) (m : Method) (e : ℕ × Instr) (es : List (ℕ × Instr)) → code_ends (e ∷ es) ≡ true → body_fault p m (e ∷ es) ≡ None → BodyPasses p m (e ∷ es)
body_passes p m e es c w =
    let o : Option Types = arriving (Some (entry m)) (declared m e.0) in
    let parts = fault_none e.0 (lesser (entry_rule p m e.0) (place_rule p m e es o)) (walk_fault p m None (left_by p m e o) es) w in
    let first = (lesser_none (entry_rule p m e.0) (place_rule p m e es o) parts.0).0 in
    let both = lesser_none (fails_unless (flows_into_declared p (entry m) (declared m e.0)) 1) (fails_unless (nat_le (argument_slots m) m.max_locals) 6) first in
    record {
      arguments = unless_none (nat_le (argument_slots m) m.max_locals) 6 both.1;
      walk = typed_from p m (entry_rule p m e.0) (Some (entry m)) (e ∷ es) c (may_stand p (entry m) (declared m e.0) (unless_none (flows_into_declared p (entry m) (declared m e.0)) 1 both.0)) w;
      handled = handled_from p m (entry_rule p m e.0) (Some (entry m)) (e ∷ es) c (may_stand p (entry m) (declared m e.0) (unless_none (flows_into_declared p (entry m) (declared m e.0)) 1 both.0)) w;
    }

body_of : (p : Program) (m : Method) (es : List (ℕ × Instr)) → not (is_empty es) ≡ true → code_ends es ≡ true → body_fault p m es ≡ None → BodyPasses p m es
body_of p m [] n c w = absurd (cc)
body_of p m (e ∷ es) n c w = body_passes p m e es c w

pub no_fault_is_well_typed : NoFaultIsWellTyped
unfolding method_fault
no_fault_is_well_typed p m code c none =
    let both = earlier_none (body_fault p m m.code) (frame_fault m m.frames) (sym (ap (λ b. cond b (earlier (body_fault p m m.code) (frame_fault m m.frames)) None) code) ∙ none) in
    let body = body_of p m m.code code c both.0 in
    record { arguments = body.arguments; frames = frames_fit m m.frames both.1; walk = body.walk; handled = body.handled }
