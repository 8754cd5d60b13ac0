-- In a program without exception tables nothing is caught.
use Rattle.std.proofs.Common.{◌≡◌, ℕ, zero, suc, true, true≢false, List, [], ◌∷◌, Option, Some, None, refl, sym, ap, ◌∙◌}
use Rattle.std.specs.Prelude.{slice_get}
use Rattle.std.specs.List.{list_all}
use Rattle.std.proofs.lemmas.Bool.{and_parts}
use Rattle.std.proofs.lemmas.Option.{same_Some, none-some}
use Rattle.kilim_program.specs.declared.class.Handler.{Handler}
use Rattle.kilim_program.specs.declared.class.Method.{Method}
use Rattle.kilim_program.specs.declared.instr.Instr.{Instr}
use Rattle.kilim_program.specs.declared.names.ClassId.{ClassId}
use Rattle.kilim_program.specs.declared.value.Value.{Value}
use Rattle.kilim_program.specs.Names.{is_empty, method_at}
use Rattle.kilim_program.specs.Program.{Program}
use Rattle.kilim_run_state.specs.Machine.{Activation}
use Rattle.kilim_run_machine.specs.Raising.{NoTables, call_in, caught_behind, caught_by, caught_in, handler_of, or_below, thrown, unwound}

empty_at : (ms : List Method) (k : ℕ) (m : Method) → list_all (λ (x : Method). is_empty x.handlers) ms ≡ true → slice_get ms k ≡ Some m → is_empty m.handlers ≡ true
empty_at [] k m all e = absurd (none-some m e)
empty_at (x ∷ ms) zero m all e = ap (λ (z : Method). is_empty z.handlers) (sym (same_Some x m e)) ∙ (and_parts (is_empty x.handlers) (list_all (λ (z : Method). is_empty z.handlers) ms) all).0
empty_at (x ∷ ms) (suc k) m all e = empty_at ms k m (and_parts (is_empty x.handlers) (list_all (λ (z : Method). is_empty z.handlers) ms) all).1 e

module _ (p : Program) (none : NoTables p) (c : ClassId) (v : Value) where
  by_none : (a : Activation) (at : ℕ) (hs : List Handler) → is_empty hs ≡ true → caught_by a v (handler_of p c at hs) ≡ None
  by_none a at [] e = refl
  by_none a at (h ∷ hs) e = absurd (true≢false (sym e))

  in_none : (a : Activation) (at : ℕ) (o : Option Method) → method_at p a.method ≡ o → caught_in p c v a at o ≡ None
  in_none a at None e = refl
  in_none a at (Some m) e = by_none a at m.handlers (empty_at p.methods a.method.0 m none e)

  behind_none : (a : Activation) (e : Option (ℕ × Instr)) → caught_behind p c v a e ≡ None
  behind_none a None = refl
  behind_none a (Some e) = in_none a e.0 (method_at p a.method) refl

  pub unwound_none : (frames : List Activation) → unwound p c v frames ≡ []
  unwound_none [] = refl
  unwound_none (a ∷ rest) = ap (λ (o : Option Activation). or_below o rest (unwound p c v rest)) (behind_none a (call_in (method_at p a.method) a.place)) ∙ unwound_none rest

  pub thrown_none : (top : Activation) (below : List Activation) → thrown p c v top below ≡ []
  thrown_none top below = ap (λ (o : Option Activation). or_below o below (unwound p c v below)) (in_none top top.place (method_at p top.method) refl) ∙ unwound_none below
