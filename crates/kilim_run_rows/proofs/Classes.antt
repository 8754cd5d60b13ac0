-- What a reference is, by what it refers to; and a cast of the topmost value.
use Rattle.std.proofs.Common.{◌≡◌, ◌∙◌, sym, ap, refl, arith, ℕ, ◌<◌, Bool, true, false, true≢false, List, [], ◌∷◌, Option, Some, None, Result, Ok, Err, IfOk, length, slice_get, is_some}
use Rattle.std.specs.Prelude.{if◌then◌else◌}
use Rattle.std.specs.FinMap.{get}
use Rattle.kilim_program.specs.declared.class.Method.{Method}
use Rattle.kilim_program.specs.declared.instr.Instr.TheVariants.{Checkcast}
use Rattle.kilim_program.specs.declared.ty.Ty.{Ty}
use Rattle.kilim_program.specs.declared.value.Value.{Value}
use Rattle.kilim_program.specs.declared.value.Value.TheVariants.{Int, Long, Null, Ref, Text, Box, Fiber}
use Rattle.kilim_program.specs.Program.{Program}
use Rattle.kilim_run_state.specs.declared.cause.EndCause.TheVariants as cause
use Rattle.kilim_run_state.specs.declared.value.Object.{Object}
use Rattle.kilim_run_state.specs.Machine.{Objects}
use Rattle.kilim_run_machine.specs.Effect.{Effect, Goes, Raises, as_class, with_some}
use Rattle.kilim_program.specs.Members.{named_type}
use Rattle.kilim_run_machine.specs.Does.{cast_fits, does}
use Rattle.kilim_run_rows.specs.Outcome.{is_stuck}
use Rattle.kilim_run_rows.specs.Types.{class_of, is_found, type_at}

no_value : (v : Value) → ◌≡◌ {A = Option Value} None (Some v) → ⊥
no_value v e = cc

same_value : (v w : Value) → ◌≡◌ {A = Option Value} (Some v) (Some w) → v ≡ w
same_value v w e = cc

no_class : (c : Option Ty) → ◌≡◌ {A = Option (Option Ty)} None (Some c) → ⊥
no_class c e = cc

same_class : (c d : Option Ty) → ◌≡◌ {A = Option (Option Ty)} (Some c) (Some d) → c ≡ d
same_class c d e = cc

found_by : (o : Option Object) (go : Option Ty → Effect) → is_stuck (with_some o (λ (object : Object). go (Some object.class))) ≡ false → is_some o ≡ true
found_by None go fine = absurd (true≢false fine)
found_by (Some object) go fine = refl

-- what has a class refers to what is there
pub found : (p : Program) (v : Value) (h : Objects) (go : Option Ty → Effect) → is_stuck (as_class p v h go) ≡ false → is_found v h ≡ true
found p (Int x) h go fine = absurd (true≢false fine)
found p (Long x) h go fine = absurd (true≢false fine)
found p Null h go fine = refl
found p (Ref n) h go fine = found_by (get h n) go fine
found p (Text units) h go fine = refl
found p (Box box) h go fine = refl
found p Fiber h go fine = refl

object_is : (o : Option Object) (go : Option Ty → Effect) (c : Option Ty) → class_of o ≡ Some c → with_some o (λ (object : Object). go (Some object.class)) ≡ go c
object_is None go c is = absurd (no_class c is)
object_is (Some object) go c is = ap go (same_class (Some object.class) c is)

-- it goes on with that class
pub class_is : (p : Program) (v : Value) (h : Objects) (go : Option Ty → Effect) (c : Option Ty) → type_at p v h ≡ Some c → as_class p v h go ≡ go c
class_is p (Int x) h go c is = absurd (no_class c is)
class_is p (Long x) h go c is = absurd (no_class c is)
class_is p Null h go c is = ap go (same_class _ c is)
class_is p (Ref n) h go c is = object_is (get h n) go c is
class_is p (Text units) h go c is = ap go (same_class _ c is)
class_is p (Box box) h go c is = ap go (same_class _ c is)
class_is p Fiber h go c is = ap go (same_class _ c is)

-- what is found of a class by its name is what such a value is
pub named_is : {E : Type 0} (p : Program) (v : Value) (h : Objects) (name : List ℕ) (r : Result (Option Ty) E) → type_at p v h ≡ Some (named_type p name) → IfOk r (λ ty. ty ≡ named_type p name) → IfOk r (λ ty. type_at p v h ≡ Some ty)
named_is p v h name (Ok ty) at is = at ∙ ap (λ (t : Option Ty). Some t) (sym is)
named_is p v h name (Err e) at is = tt

abbrev cast_of : Program → Ty → ℕ → List Value → List Value → Objects → Option Ty → Effect
cast_of p ty next ls s h c = if cast_fits p c ty then Goes next ls s h else Raises cause.Cast

-- what a cast does, by the value on top as it stands
cast_row : (p : Program) (own : Method) (ty : Ty) (next : ℕ) (ls s : List Value) (h : Objects) (v : Value) → slice_get s 0 ≡ Some v → does p own (Checkcast ty) next ls s h ≡ as_class p v h (cast_of p ty next ls s h)
unfolding does
cast_row p own ty next ls [] h v top = absurd (no_value v top)
cast_row p own ty next ls (w ∷ rest) h v top = ap (λ (x : Value). as_class p x h (cast_of p ty next ls (w ∷ rest) h)) (same_value w v top)

pub cast_there : (p : Program) (own : Method) (ty : Ty) (next : ℕ) (ls s : List Value) (h : Objects) → is_stuck (does p own (Checkcast ty) next ls s h) ≡ false → 0 < length s
unfolding does
cast_there p own ty next ls [] h fine = absurd (true≢false fine)
cast_there p own ty next ls (v ∷ rest) h fine = omega arith

module _ (p : Program) (own : Method) (ty : Ty) (next : ℕ) (ls s : List Value) (h : Objects) (v : Value) (top : slice_get s 0 ≡ Some v) where
  pub cast_found : is_stuck (does p own (Checkcast ty) next ls s h) ≡ false → is_found v h ≡ true
  cast_found fine = found p v h (cast_of p ty next ls s h) (ap is_stuck (sym (cast_row p own ty next ls s h v top)) ∙ fine)

  cast_goes : (c : Option Ty) → type_at p v h ≡ Some c → does p own (Checkcast ty) next ls s h ≡ cast_of p ty next ls s h c
  cast_goes c is = cast_row p own ty next ls s h v top ∙ class_is p v h (cast_of p ty next ls s h) c is

  pub cast_passes : (c : Option Ty) → type_at p v h ≡ Some c → cast_fits p c ty ≡ true → does p own (Checkcast ty) next ls s h ≡ Goes next ls s h
  cast_passes c is fits = cast_goes c is ∙ ap (λ (b : Bool). if b then Goes next ls s h else Raises cause.Cast) fits

  pub cast_refused : (c : Option Ty) → type_at p v h ≡ Some c → cast_fits p c ty ≡ false → does p own (Checkcast ty) next ls s h ≡ Raises cause.Cast
  cast_refused c is other = cast_goes c is ∙ ap (λ (b : Bool). if b then Goes next ls s h else Raises cause.Cast) other
