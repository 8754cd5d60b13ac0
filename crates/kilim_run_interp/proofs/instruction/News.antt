-- New objects and arrays.
use Rattle.std.proofs.Common.{◌≡◌, ◌∙◌, sym, ap, ℕ, ℤ, pos, ◌<◌, ◌≤◌, suc, true, false, List, ◌∷◌, length, nat_lt, arith}
use Rattle.kilim_program.specs.declared.class.Method.{Method}
use Rattle.kilim_program.specs.declared.instr.Instr.TheVariants.{New}
use Rattle.kilim_program.specs.declared.names.ClassId.{ClassId}
use Rattle.kilim_program.specs.declared.ty.Ty.{Ty}
use Rattle.kilim_program.specs.declared.value.Value.{Value}
use Rattle.kilim_program.specs.declared.value.Value.TheVariants.{Int}
use Rattle.kilim_program.specs.Program.{Program}
use Rattle.kilim_run_state.specs.declared.cause.EndCause.TheVariants as cause
use Rattle.kilim_run_state.specs.declared.value.Object.{Object}
use Rattle.kilim_run_state.specs.Machine.{Objects}
use Rattle.kilim_run_state.specs.Objects.{new_array, new_object}
use Rattle.kilim_run_machine.specs.Effect.{Effect, Ends, Makes, on_int}
use Rattle.kilim_run_machine.specs.Does.{does, array_limit, is_mailbox, makes_array}
use Rattle.kilim_run_state.specs.declared.frames.frame.Frame.{Frame}
use Rattle.kilim_run_rows.specs.Outcome.{IsAdded, IsMade, height}

pub made_by : (e : Effect) (object : Object) (next at : ℕ) (before after : Frame) (h k : Objects) → e ≡ Makes object next before.locals before.stack.values h → IsAdded at object before after h k → IsMade e next at after h k
made_by e object next at before after h k is added = record {
  object = object;
  rest = before.stack.values;
  stack = added.stack;
  is = is ∙ ap (λ (ls : List Value). Makes object next ls before.stack.values h) (sym added.locals);
  fresh = added.fresh;
  added = added.added;
}

pub object_row : (p : Program) (own : Method) (c : ClassId) (next : ℕ) (ls stack : List Value) (h : Objects) → is_mailbox p c ≡ false → does p own (New c) next ls stack h ≡ Makes (new_object p c) next ls stack h
unfolding does
object_row p own c next ls stack h other = rw other

array_by : (ty : Ty) (el : Value) (n next : ℕ) (ls rest : List Value) (h : Objects) → nat_lt array_limit n ≡ false → makes_array ty el (pos n) next ls rest h ≡ Makes (new_array ty el n) next ls rest h
array_by ty el n next ls rest h few = rw few

pub array_row : (ty : Ty) (el : Value) (x : ℤ) (n next : ℕ) (ls stack rest : List Value) (h : Objects) → stack ≡ Int x ∷ rest → x ≡ pos n → nat_lt array_limit n ≡ false →
    on_int stack (λ m below. makes_array ty el m next ls below h) ≡ Makes (new_array ty el n) next ls rest h
array_row ty el x n next ls stack rest h is size few =
    ap (λ (s : List Value). on_int s (λ m below. makes_array ty el m next ls below h)) is
    ∙ (ap (λ (m : ℤ). makes_array ty el m next ls rest h) size ∙ array_by ty el n next ls rest h few)

large_by : (ty : Ty) (el : Value) (n next : ℕ) (ls rest : List Value) (h : Objects) → nat_lt array_limit n ≡ true → makes_array ty el (pos n) next ls rest h ≡ Ends cause.Large
large_by ty el n next ls rest h many = rw many

pub large_row : (ty : Ty) (el : Value) (x : ℤ) (n next : ℕ) (ls stack rest : List Value) (h : Objects) → stack ≡ Int x ∷ rest → x ≡ pos n → nat_lt array_limit n ≡ true →
    on_int stack (λ m below. makes_array ty el m next ls below h) ≡ Ends cause.Large
large_row ty el x n next ls stack rest h is size many =
    ap (λ (s : List Value). on_int s (λ m below. makes_array ty el m next ls below h)) is
    ∙ (ap (λ (m : ℤ). makes_array ty el m next ls rest h) size ∙ large_by ty el n next ls rest h many)

pub room_for : (e : Effect) (object : Object) (next room : ℕ) (ls stack : List Value) (h : Objects) → e ≡ Makes object next ls stack h → height e ≤ room → length stack < room
room_for e object next room ls stack h is fits = let f : height e ≡ suc (length stack) = ap height is in omega (arith, f, fits)
