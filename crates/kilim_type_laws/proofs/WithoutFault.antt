-- A well-typed method has no type fault.
use Rattle.std.proofs.Common.{◌≡◌, ℕ, suc, Bool, true, false, ◌||◌, ◌&&◌, not, refl, ap, sym, ◌∙◌, subst, List, [], ◌∷◌, ◌++◌, Option, Some, None, Ok}
use Rattle.std.specs.Prelude.{◌==◌, is_some, nat_le, slice_get, if◌then◌else◌, unwrap_or}
use Rattle.std.specs.List.{list_all}
use Rattle.std.proofs.lemmas.Bool.{and_parts}
use Rattle.kilim_program.specs.declared.class.Handler.{Handler}
use Rattle.kilim_program.specs.declared.class.Method.{Method}
use Rattle.kilim_program.specs.declared.instr.Instr.{Instr}
use Rattle.kilim_program.specs.declared.verified.Frame.{Frame}
use Rattle.kilim_program.specs.declared.verified.VType.{VType}
use Rattle.kilim_program.specs.declared.verified.VType.TheVariants.{Top}
use Rattle.kilim_program.specs.Lengths.{ends_path, jump_targets}
use Rattle.kilim_program.specs.Program.{Program}
use Rattle.kilim_program.specs.Same.{argument_slots}
use Rattle.kilim_type_spec.specs.Step.{Types, peek, assignable, type_step}
use Rattle.kilim_type_spec.specs.Typed.{AreHandled, FlowsInto, Handles, Here, IsHandled, Jumps, Typed, WellTyped, all_assignable, arriving, declared, entry, catch_fits, covers, flows_on, frame_fits, frames_from, goes_on, has_code, left_by, no_types}
use Rattle.kilim_type_spec.specs.Faults.{caught_flows, handler_rule, rule_15, rule_16, lesser, fails_unless, locals_flow, flows_into, flows_into_declared, next_places, begins_declared, targets_declared, instr_rule, place_rule, fault_or, walk_fault, entry_rule, body_fault, frame_fault, earlier, method_fault, in_method, faults_from, first_type_fault}
use Rattle.kilim_type_laws.specs.Laws.{NoFaultWhereWellTyped}

and_from : (a b : Bool) → a ≡ true → b ≡ true → (a && b) ≡ true
and_from true b e h = h
and_from false b e h = absurd (cc)

-- ---- flow

locals_flows : (p : Program) (fs ds : List VType) → ((slot : ℕ) → assignable p (peek fs slot) (peek ds slot) ≡ true) → locals_flow p fs ds ≡ true
locals_flows p fs [] h = refl
locals_flows p [] (d ∷ ds) h = and_from (assignable p Top d) (locals_flow p [] ds) (h 0) (locals_flows p [] ds (λ slot. h (suc slot)))
locals_flows p (f ∷ fs) (d ∷ ds) h = and_from (assignable p f d) (locals_flow p fs ds) (h 0) (locals_flows p fs ds (λ slot. h (suc slot)))

marked : (a b : Bool) → (a ≡ true → b ≡ true) → (not a || b) ≡ true
marked true b h = h refl
marked false b h = refl

flows : (p : Program) (f d : Types) → FlowsInto p f d → flows_into p f d ≡ true
flows p f d h = and_from (locals_flow p f.locals d.locals) _ (locals_flows p f.locals d.locals h.locals) (and_from (all_assignable p f.stack d.stack) _ h.stack (marked f.unset d.unset h.unset))

jumps_flow : (p : Program) (m : Method) (g : Types) (tos : List ℕ) → Jumps p m g tos → list_all (λ to. flows_into_declared p g (declared m to)) tos ≡ true
jumps_flow p m g [] js = refl
jumps_flow p m g (to ∷ tos) js = and_from (flows_into_declared p g (declared m to)) _ (ap (flows_into_declared p g) js.0.1 ∙ flows p g js.0.0 js.0.2) (jumps_flow p m g tos js.1)

jumps_declared : (p : Program) (m : Method) (g : Types) (tos : List ℕ) → Jumps p m g tos → list_all (λ to. is_some (declared m to)) tos ≡ true
jumps_declared p m g [] js = refl
jumps_declared p m g (to ∷ tos) js = and_from (is_some (declared m to)) _ (ap is_some js.0.1) (jumps_declared p m g tos js.1)

all_append : (test : ℕ → Bool) (xs ys : List ℕ) → list_all test xs ≡ true → list_all test ys ≡ true → list_all test (xs ++ ys) ≡ true
all_append test [] ys a b = b
all_append test (x ∷ xs) ys a b = let t = and_parts (test x) (list_all test xs) a in and_from (test x) (list_all test (xs ++ ys)) t.0 (all_append test xs ys t.1 b)

-- what flows on, or where it doesn't, the frame behind
here_flows : (p : Program) (g f : Types) (o : Option Types) → Here p (Some g) o f → flows_into_declared p g o ≡ true
here_flows p g f None h = refl
here_flows p g f (Some d) h = flows p g d h.1

here_declared : (p : Program) (f : Types) (o : Option Types) → Here p None o f → is_some o ≡ true
here_declared p f None h = absurd h
here_declared p f (Some d) h = refl

next_flows : (p : Program) (m : Method) (g : Types) (ends : Bool) (es : List (ℕ × Instr)) → Typed p m (goes_on ends g) es → list_all (λ to. flows_into_declared p g (declared m to)) (next_places ends es) ≡ true
next_flows p m g true es typed = refl
next_flows p m g false [] typed = refl
next_flows p m g false (e ∷ es) typed = and_from (flows_into_declared p g (declared m e.0)) true (here_flows p g typed.0 (declared m e.0) typed.1) refl

next_declared : (p : Program) (m : Method) (g : Types) (ends : Bool) (es : List (ℕ × Instr)) → Typed p m (goes_on ends g) es → (not ends || begins_declared m es) ≡ true
next_declared p m g false es typed = refl
next_declared p m g true [] typed = refl
next_declared p m g true (e ∷ es) typed = here_declared p typed.0 (declared m e.0) typed.1

arrives : (p : Program) (flow d : Option Types) (f : Types) → Here p flow d f → arriving flow d ≡ Some f
arrives p None (Some d) f h = ap (λ (x : Types). Option.Some x) (sym h)
arrives p (Some g) (Some d) f h = ap (λ (x : Types). Option.Some x) (sym h.0)
arrives p (Some g) None f h = ap (λ (x : Types). Option.Some x) (sym h)
arrives p None None f h = absurd h

-- ---- handlers

module _ (p : Program) (m : Method) (at : ℕ) (f : Types) where
  rule_15_holds : (h : Handler) → IsHandled p m at f h → rule_15 p m at f h ≡ true
  rule_15_holds h is = marked (covers h at) (caught_flows p f h (declared m h.at)) (λ c.
      let w = is.within c in
      ap (caught_flows p f h) w.there ∙ and_from (locals_flow p f.locals w.frame.locals) _ (locals_flows p f.locals w.frame.locals w.flows.locals) w.flows.stack)

  rule_16_holds : (h : Handler) → IsHandled p m at f h → rule_16 p at f h ≡ true
  rule_16_holds h is =
      and_from (not (covers h at) || not f.unset) _ (marked (covers h at) (not f.unset) (λ c. ap not (is.within c).set)) (marked (h.start == at) (catch_fits p h.catch) is.begins)

  all_15 : (hs : List Handler) → AreHandled p m at f hs → list_all (rule_15 p m at f) hs ≡ true
  all_15 [] all = refl
  all_15 (h ∷ hs) all = and_from (rule_15 p m at f h) _ (rule_15_holds h all.0) (all_15 hs all.1)

  all_16 : (hs : List Handler) → AreHandled p m at f hs → list_all (rule_16 p at f) hs ≡ true
  all_16 [] all = refl
  all_16 (h ∷ hs) all = and_from (rule_16 p at f h) _ (rule_16_holds h all.0) (all_16 hs all.1)

  handlers_pass : AreHandled p m at f m.handlers → handler_rule p m at f ≡ None
  handlers_pass all =
      ap (λ (b : Bool). lesser (fails_unless b 15) (fails_unless (list_all (rule_16 p at f) m.handlers) 16)) (all_15 m.handlers all)
      ∙ ap (λ (b : Bool). lesser None (fails_unless b 16)) (all_16 m.handlers all)

-- ---- an instruction

module _ (p : Program) (m : Method) where
  none_fails : (e : ℕ × Instr) (es : List (ℕ × Instr)) (f g : Types) → type_step p m e.0 e.1 f ≡ Ok g → Jumps p m g (jump_targets e.1) → Typed p m (goes_on (ends_path e.1) g) es → AreHandled p m e.0 f m.handlers → place_rule p m e es (Some f) ≡ None
  none_fails e es f g step js typed handled =
      let targets = and_from (list_all (λ to. is_some (declared m to)) (jump_targets e.1)) (not (ends_path e.1) || begins_declared m es) (jumps_declared p m g (jump_targets e.1) js) (next_declared p m g (ends_path e.1) es typed) in
      let flow = all_append (λ to. flows_into_declared p g (declared m to)) (jump_targets e.1) (next_places (ends_path e.1) es) (jumps_flow p m g (jump_targets e.1) js) (next_flows p m g (ends_path e.1) es typed) in
      let instr : instr_rule p m e.1 es (type_step p m e.0 e.1 f) ≡ None =
      ap (instr_rule p m e.1 es) step
      ∙ ap (λ (b : Bool). lesser (fails_unless b 1) (lesser (fails_unless (targets_declared m e.1 es) 2) None)) flow
      ∙ ap (λ (b : Bool). lesser None (lesser (fails_unless b 2) None)) targets in
      ap (λ (o : Option ℕ). lesser o (handler_rule p m e.0 f)) instr ∙ handlers_pass p m e.0 f handled

  walks : (pending : Option ℕ) (flow : Option Types) (es : List (ℕ × Instr)) → pending ≡ None → Typed p m flow es → Handles p m es (frames_from p m flow es) → walk_fault p m pending flow es ≡ None
  walks pending flow [] none typed handled = refl
  walks pending flow (e ∷ es) none typed handled =
      let f : Types = typed.0 in
      let g : Types = typed.2 in
      let arrived : arriving flow (declared m e.0) ≡ Some f = arrives p flow (declared m e.0) f typed.1 in
      let left : left_by p m e (arriving flow (declared m e.0)) ≡ goes_on (ends_path e.1) g = ap (left_by p m e) arrived ∙ ap (flows_on (ends_path e.1)) typed.3 in
      let here : place_rule p m e es (arriving flow (declared m e.0)) ≡ None = ap (place_rule p m e es) arrived ∙ none_fails e es f g typed.3 typed.4 typed.5 (subst (λ (z : Types). AreHandled p m e.0 z m.handlers) (ap (λ (o : Option Types). unwrap_or o no_types) arrived) handled.0) in
      ap (λ (o : Option ℕ). fault_or e.0 (lesser o (place_rule p m e es (arriving flow (declared m e.0)))) (walk_fault p m None (left_by p m e (arriving flow (declared m e.0))) es)) none
      ∙ ap (λ (o : Option ℕ). fault_or e.0 o (walk_fault p m None (left_by p m e (arriving flow (declared m e.0))) es)) here
      ∙ ap (λ (o : Option Types). walk_fault p m None o es) left
      ∙ walks None (goes_on (ends_path e.1) g) es refl typed.5 (subst (λ (o : Option Types). Handles p m es (frames_from p m o es)) left handled.1)

  frames_pass : (fs : List (ℕ × Frame)) → list_all (frame_fits m) fs ≡ true → frame_fault m fs ≡ None
  frames_pass [] h = refl
  frames_pass (f ∷ fs) h = let t = and_parts (frame_fits m f) (list_all (frame_fits m) fs) h in ap (λ (b : Bool). if b then frame_fault m fs else Some (f.0, 12)) t.0 ∙ frames_pass fs t.1

  entry_passes : (e : ℕ × Instr) (es : List (ℕ × Instr)) → nat_le (argument_slots m) m.max_locals ≡ true → Typed p m (Some (entry m)) (e ∷ es) → entry_rule p m e.0 ≡ None
  entry_passes e es arguments typed =
      ap (λ (b : Bool). lesser (fails_unless b 1) (fails_unless (nat_le (argument_slots m) m.max_locals) 6)) (here_flows p (entry m) typed.0 (declared m e.0) typed.1)
      ∙ ap (λ (b : Bool). fails_unless b 6) arguments

  body_passes : (es : List (ℕ × Instr)) → nat_le (argument_slots m) m.max_locals ≡ true → Typed p m (Some (entry m)) es → Handles p m es (frames_from p m (Some (entry m)) es) → body_fault p m es ≡ None
  body_passes [] arguments typed handled = refl
  body_passes (e ∷ es) arguments typed handled = walks (entry_rule p m e.0) (Some (entry m)) (e ∷ es) (entry_passes e es arguments typed) typed handled

  of_method : WellTyped p m → method_fault p m ≡ None
  unfolding method_fault
  of_method well = by (has_code m)
    where
      by : (b : Bool) → (if b then earlier (body_fault p m m.code) (frame_fault m m.frames) else None) ≡ None
      by true = ap (λ o. earlier o (frame_fault m m.frames)) (body_passes m.code well.arguments well.walk well.handled) ∙ frames_pass m.frames well.frames
      by false = refl

  no_code : has_code m ≡ false → method_fault p m ≡ None
  unfolding method_fault
  no_code e = ap (λ (b : Bool). if b then earlier (body_fault p m m.code) (frame_fault m m.frames) else None) e

  no_fault : (has_code m ≡ true → WellTyped p m) → method_fault p m ≡ None
  no_fault well = by (has_code m) refl
    where
      by : (b : Bool) → has_code m ≡ b → method_fault p m ≡ None
      by true e = of_method (well e)
      by false e = no_code e

-- ---- a program

none_of : (p : Program) (n : ℕ) (ms : List Method) → ((k : ℕ) (m : Method) → slice_get ms k ≡ Some m → method_fault p m ≡ None) → faults_from p n ms ≡ None
none_of p n [] each = refl
none_of p n (m ∷ ms) each = ap (λ o. in_method n o (faults_from p (suc n) ms)) (each 0 m refl) ∙ none_of p (suc n) ms (λ k x is. each (suc k) x is)

pub no_fault_where_well_typed : NoFaultWhereWellTyped
unfolding first_type_fault
no_fault_where_well_typed p well = none_of p 0 p.methods (λ k m is. no_fault p m (λ code. well.methods (record { 0 = k }) m is code))
