-- Calls and returns.
use Rattle.std.proofs.Common.{◌≡◌, ◌∙◌, ◌<◌, sym, ap, refl, subst, true, false, List, [], ◌∷◌, Option, Some, length, map, nat_le, nat_lt, suc, arith}
use Rattle.std.proofs.lemmas.List.{length-map}
use Rattle.std.specs.List.{AllByRecursion}
use Rattle.kilim_program.specs.declared.class.Method.{Method}
use Rattle.kilim_run_machine.specs.Does.{narrowed_result}
use Rattle.kilim_run_rows.specs.Outcome.{returned_by}
use Rattle.kilim_program.specs.declared.names.MethodId.{MethodId}
use Rattle.kilim_program.specs.declared.value.Value.{Value}
use Rattle.kilim_program.specs.Program.{Program}
use Rattle.kilim_run_state.specs.declared.cause.EndCause.TheVariants as cause
use Rattle.kilim_run_state.specs.Machine.{Activation, Objects}
use Rattle.kilim_run_machine.specs.Moves as move
use Rattle.kilim_run_machine.specs.Moves.{called, entered, push_result, receiver_of, returned}
use Rattle.kilim_run_state.specs.declared.frames.frame.Frame.{Frame}
use Rattle.kilim_run_state.specs.frames.Calls.{activation}
use Rattle.kilim_run_interp.specs.Step.{CallerFits, IsRoomy, IsWent, RanOn, stack_limit}

pub too_deep : (p : Program) (m : MethodId) (args : List Value) (a : Activation) (below : List Frame) (h : Objects) → nat_le 511 (length below) ≡ true → called p m args (a ∷ map activation below) h ≡ move.Ends cause.Depth
too_deep p m args a below h full =
    let same : length (map activation below) ≡ length below = length-map below activation in
    let e : nat_lt (suc (length (map activation below))) 512 ≡ false = grind (arith, full, same) in
    rw e

pub enters : (p : Program) (m : MethodId) (args : List Value) (a : Activation) (below : List Frame) (new : List Activation) (h : Objects) → nat_le 511 (length below) ≡ false → new ≡ entered p m args ∷ a ∷ map activation below →
    IsWent (called p m args (a ∷ map activation below) h) new h h
enters p m args a below new h few is =
    let same : length (map activation below) ≡ length below = length-map below activation in
    let e : nat_lt (suc (length (map activation below))) 512 ≡ true = grind (arith, few, same) in
    let calls : List Activation = a ∷ map activation below in
    let goes : called p m args calls h ≡ move.Runs (move.Enters (receiver_of p m args)) (entered p m args ∷ calls) h = rw e in
    RanOn (move.Enters (receiver_of p m args)) (goes ∙ ap (λ (c : List Activation). move.Runs (move.Enters (receiver_of p m args)) c h) (sym is))

-- back to the topmost of the frames below
pub leaves : (v : Option Value) (below rest : List Frame) (caller : Frame) (new : List Activation) (h : Objects) → below ≡ caller ∷ rest → new ≡ push_result v (activation caller ∷ map activation rest) →
    IsWent (returned v (map activation below) h) new h h
leaves v below rest caller new h is same =
    RanOn move.Leaves (ap (λ (b : List Frame). returned v (map activation b) h) is ∙ ap (λ (c : List Activation). move.Runs move.Leaves c h) (sym same))

pub ends_all : (v : Option Value) (below : List Frame) (h : Objects) → below ≡ [] → returned v (map activation below) h ≡ move.Returns h
ends_all v below h none = ap (λ (b : List Frame). returned v (map activation b) h) none

pub returned_is : (own : Method) (stack rest : List Value) (v : Value) → stack ≡ v ∷ rest → returned_by own stack ≡ Some (narrowed_result own.result v)
returned_is own stack rest v is = ap (returned_by own) is

-- ---- the topmost of the frames below

pub caller_fits : (p : Program) (below rest : List Frame) (caller : Frame) → below ≡ caller ∷ rest → CallerFits p (map activation below) → length caller.stack.values < stack_limit p caller.method
caller_fits p below rest caller is fits = subst (λ (b : List Frame). CallerFits p (map activation b)) is fits

pub callers_roomy : (p : Program) (below rest : List Frame) (caller : Frame) → below ≡ caller ∷ rest → AllByRecursion (IsRoomy p) below → IsRoomy p caller × AllByRecursion (IsRoomy p) rest
callers_roomy p below rest caller is all = subst (AllByRecursion (IsRoomy p)) is all

pub none_below : (below : List Frame) → length below ≡ 0 → below ≡ []
none_below [] none = refl
none_below (f ∷ fs) none = absurd (omega (arith, none))

pub some_below : (below : List Frame) → (length below ≡ 0 → ⊥) → below ≡ [] → ⊥
some_below below some none = some (ap length none)
