-- A built-in method that isn't of the message of an exception is handed out.
use Rattle.std.proofs.Common.{◌≡◌, ℕ, Bool, true, false, List, refl, sym, ap, ◌∙◌}
use Rattle.std.specs.Prelude.{if◌then◌else◌, not, ◌&&◌, ◌||◌, codes}
use Rattle.std.specs.Str.{bytes_eq}
use Rattle.std.proofs.lemmas.Bool.{false≢true}
use Rattle.kilim_program.specs.declared.class.Method.{Method}
use Rattle.kilim_program.specs.declared.names.MethodId.{MethodId}
use Rattle.kilim_program.specs.declared.value.Value.{Value}
use Rattle.kilim_run_state.specs.Machine.{Objects}
use Rattle.kilim_run_machine.specs.Effect.{Asks}
use Rattle.kilim_run_machine.specs.Does.{calls_built_in, keeps_message, gives_message}
use Rattle.kilim_run_machine.specs.Natives.{is_built_in_constructor, is_of, is_message_constructor, is_get_message, is_of_message, is_handed_out_of}

or_split : (b c : Bool) → (b || c) ≡ false → (b ≡ false) × (c ≡ false)
or_split true c h = absurd (false≢true (sym h))
or_split false c h = (refl, h)

pub asks_other : (method : Method) (m : MethodId) (args : List Value) (next : ℕ) (locals rest : List Value) (heap : Objects) → is_of_message method ≡ false → calls_built_in method m args next locals rest heap ≡ Asks m args next locals rest heap
asks_other method m args next locals rest heap h =
    let z = or_split (is_message_constructor method) (is_get_message method) h in
    ap (λ (t : Bool). if t then keeps_message args next locals rest heap else (if is_get_message method then gives_message args next locals rest heap else Asks m args next locals rest heap)) z.0
    ∙ ap (λ (t : Bool). if t then gives_message args next locals rest heap else Asks m args next locals rest heap) z.1

last_false : (a b c d e : Bool) → (a && not (b || (c || (d || e)))) ≡ true → e ≡ false
last_false a b c d false h = refl
last_false true false false false true h = absurd (false≢true h)
last_false true false false true true h = absurd (false≢true h)
last_false true false true d true h = absurd (false≢true h)
last_false true true c d true h = absurd (false≢true h)
last_false false b c d true h = absurd (false≢true h)

pub asks_handed : (class : List ℕ) (method : Method) → is_handed_out_of class method ≡ true → is_of_message method ≡ false
asks_handed class method h =
    last_false method.built_in (is_built_in_constructor method) (is_of class (codes "java/lang/String") method) (is_of class (codes "kilim/Sys") method && bytes_eq method.name (codes "take")) (is_of_message method) h
