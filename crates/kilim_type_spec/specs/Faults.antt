-- The first type fault of a program: the first method, of it the first place, of that the least rule that fails.
--   1 what flows into a place isn't assignable to the frame that is declared there
--   2 a jump target, or the place behind an instruction that control doesn't go past, has no frame
--   6 at place 0, too: an argument slot is at or past max_locals
--   12 a declared frame doesn't fit its method
--   3 to 11, 13, 14: an instruction under the frame at its place (Step.antt)
--   15 a handler in whose range the instruction stands has no frame, or what is caught there doesn't flow into it
--   16 `this` isn't initialized in the range of a handler, or what a handler catches, which fails where its range begins, can't be thrown
-- Rules 1 and 2 fail at the instruction from which the flow comes, rule 1 at place 0 for the flow from the method's entry,
-- rule 12 at the frame's place. An instruction with a fault leaves no frame; so rule 1 isn't asked of its flow.
use Rattle.std.specs.Prelude.{ℕ, suc, Result, Ok, Err, Bool, true, false, ◌||◌, ◌&&◌, not, ◌==◌, nat_lt, nat_le, if◌then◌else◌, List, [], ◌∷◌, ◌++◌, Option, Some, None, is_some}
use Rattle.std.specs.List.{list_all}
use Rattle.kilim_program.specs.declared.class.Handler.{Handler}
use Rattle.kilim_program.specs.declared.class.Method.{Method}
use Rattle.kilim_program.specs.declared.instr.Instr.{Instr}
use Rattle.kilim_program.specs.declared.names.MethodId.{MethodId}
use Rattle.kilim_program.specs.declared.verified.Frame.{Frame}
use Rattle.kilim_program.specs.declared.verified.VType.{VType}
use Rattle.kilim_program.specs.declared.verified.VType.TheVariants.{Top}
use Rattle.kilim_program.specs.Lengths.{jump_targets, ends_path}
use Rattle.kilim_program.specs.Program.{Program}
use Rattle.kilim_program.specs.Same.{argument_slots}
use Rattle.kilim_type_spec.specs.Step.{Types, assignable, type_step}
use Rattle.kilim_type_spec.specs.Typed.{declared, frame_fits, all_assignable, entry, has_code, arriving, left_by, covers, caught_type, catch_fits}

-- the lesser of two rules, where there are two
abbrev pub lesser : Option ℕ → Option ℕ → Option ℕ
lesser None b = b
lesser (Some a) None = Some a
lesser (Some a) (Some b) = if nat_le a b then Some a else Some b

abbrev pub fails_unless : Bool → ℕ → Option ℕ
fails_unless true rule = None
fails_unless false rule = Some rule

-- ---- rule 1

-- each slot is assignable; one that isn't listed is Top
abbrev pub locals_flow : Program → List VType → List VType → Bool
locals_flow p fs [] = true
locals_flow p [] (d ∷ ds) = assignable p Top d && locals_flow p [] ds
locals_flow p (f ∷ fs) (d ∷ ds) = assignable p f d && locals_flow p fs ds

abbrev pub flows_into : Program → Types → Types → Bool
flows_into p f d = locals_flow p f.locals d.locals && (all_assignable p f.stack d.stack && (not f.unset || d.unset))

abbrev pub flows_into_declared : Program → Types → Option Types → Bool
flows_into_declared p f None = true
flows_into_declared p f (Some d) = flows_into p f d

-- the place behind an instruction, where control goes on to it
abbrev pub next_places : Bool → List (ℕ × Instr) → List ℕ
next_places true es = []
next_places false [] = []
next_places false (e ∷ es) = e.0 ∷ []

abbrev pub flow_rule : Program → Method → List ℕ → Result Types ℕ → Option ℕ
flow_rule p m tos (Err n) = None
flow_rule p m tos (Ok g) = fails_unless (list_all (λ to. flows_into_declared p g (declared m to)) tos) 1

-- ---- rule 2

-- the place behind, where control doesn't go on to it
abbrev pub begins_declared : Method → List (ℕ × Instr) → Bool
begins_declared m [] = true
begins_declared m (e ∷ es) = is_some (declared m e.0)

abbrev pub targets_declared : Method → Instr → List (ℕ × Instr) → Bool
targets_declared m i es = list_all (λ to. is_some (declared m to)) (jump_targets i) && (not (ends_path i) || begins_declared m es)

-- ---- an instruction

abbrev pub rule_of : Result Types ℕ → Option ℕ
rule_of (Ok g) = None
rule_of (Err n) = Some n

-- the least rule but 12 that fails at an instruction, by what it makes of its frame; the code behind it
abbrev pub instr_rule : Program → Method → Instr → List (ℕ × Instr) → Result Types ℕ → Option ℕ
instr_rule p m i es r =
    lesser (flow_rule p m (jump_targets i ++ next_places (ends_path i) es) r) (lesser (fails_unless (targets_declared m i es) 2) (rule_of r))

-- ---- exception tables

-- rule 15, of an entry whose range has an instruction: what is caught there, alone on the stack, flows into the frame at the handler
abbrev pub caught_flows : Program → Types → Handler → Option Types → Bool
caught_flows p f h None = false
caught_flows p f h (Some d) = locals_flow p f.locals d.locals && all_assignable p (caught_type p h.catch ∷ []) d.stack

abbrev pub rule_15 : Program → Method → (at : ℕ) → Types → Handler → Bool
rule_15 p m at f h = not (covers h at) || caught_flows p f h (declared m h.at)

-- rule 16: `this` is initialized in the range, and at its beginning what is caught can be thrown
abbrev pub rule_16 : Program → (at : ℕ) → Types → Handler → Bool
rule_16 p at f h = (not (covers h at) || not f.unset) && (not (h.start == at) || catch_fits p h.catch)

abbrev pub handler_rule : Program → Method → (at : ℕ) → Types → Option ℕ
handler_rule p m at f = lesser (fails_unless (list_all (rule_15 p m at f) m.handlers) 15) (fails_unless (list_all (rule_16 p at f) m.handlers) 16)

-- where an instruction before it has a fault, there may be no frame
abbrev pub place_rule : Program → Method → ℕ × Instr → List (ℕ × Instr) → Option Types → Option ℕ
place_rule p m e es None = fails_unless (targets_declared m e.1 es) 2
place_rule p m e es (Some f) = lesser (instr_rule p m e.1 es (type_step p m e.0 e.1 f)) (handler_rule p m e.0 f)

abbrev pub fault_or : ℕ → Option ℕ → Option (ℕ × ℕ) → Option (ℕ × ℕ)
fault_or at None behind = behind
fault_or at (Some rule) behind = Some (at, rule)

-- The first place and rule, but for rule 12; `pending` is a further rule that fails at the first place.
abbrev pub walk_fault : Program → Method → (pending : Option ℕ) → Option Types → List (ℕ × Instr) → Option (ℕ × ℕ)
walk_fault p m pending flow [] = None
walk_fault p m pending flow (e ∷ es) =
    fault_or e.0 (lesser pending (place_rule p m e es (arriving flow (declared m e.0)))) (walk_fault p m None (left_by p m e (arriving flow (declared m e.0))) es)

-- ---- a method

abbrev pub entry_rule : Program → Method → ℕ → Option ℕ
entry_rule p m first = lesser (fails_unless (flows_into_declared p (entry m) (declared m first)) 1) (fails_unless (nat_le (argument_slots m) m.max_locals) 6)

abbrev pub body_fault : Program → Method → List (ℕ × Instr) → Option (ℕ × ℕ)
body_fault p m [] = None
body_fault p m (e ∷ es) = walk_fault p m (entry_rule p m e.0) (Some (entry m)) (e ∷ es)

-- rule 12
abbrev pub frame_fault : Method → List (ℕ × Frame) → Option (ℕ × ℕ)
frame_fault m [] = None
frame_fault m (e ∷ es) = if frame_fits m e then frame_fault m es else Some (e.0, 12)

abbrev pub comes_first : ℕ × ℕ → ℕ × ℕ → Bool
comes_first a b = nat_lt a.0 b.0 || (a.0 == b.0 && nat_le a.1 b.1)

-- the one at the earlier place; of two at one place that with the lesser rule
abbrev pub earlier : Option (ℕ × ℕ) → Option (ℕ × ℕ) → Option (ℕ × ℕ)
earlier None b = b
earlier (Some a) None = Some a
earlier (Some a) (Some b) = if comes_first a b then Some a else Some b

-- the first type fault of a method: its place and its rule
unfoldable pub method_fault : Program → Method → Option (ℕ × ℕ)
method_fault p m = if has_code m then earlier (body_fault p m m.code) (frame_fault m m.frames) else None

-- ---- a program

abbrev pub in_method : ℕ → Option (ℕ × ℕ) → Option (MethodId × ℕ × ℕ) → Option (MethodId × ℕ × ℕ)
in_method n None behind = behind
in_method n (Some fault) behind = Some (record { 0 = n }, fault.0, fault.1)

abbrev pub faults_from : Program → ℕ → List Method → Option (MethodId × ℕ × ℕ)
faults_from p n [] = None
faults_from p n (m ∷ ms) = in_method n (method_fault p m) (faults_from p (suc n) ms)

-- the first type fault of a program: its method, its place and its rule
unfoldable pub first_type_fault : Program → Option (MethodId × ℕ × ℕ)
first_type_fault p = faults_from p 0 p.methods
