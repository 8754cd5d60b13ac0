-- What is told of a method that is handed out, by its name.
use Rattle.std.proofs.Common.{◌≡◌, Bool, true, false, cond, List, ℕ, Option, Some, None, refl, ap, ◌∙◌}
use Rattle.std.specs.Prelude.{◌&&◌}
use Rattle.std.proofs.lemmas.Bool.{and_parts}
use Rattle.kilim_program.specs.declared.class.Method.{Method}
use Rattle.kilim_run_machine.specs.Natives.{Native, is_handed_out_of, native_in, native_named, natives}

no_native : (k : Native) → None ≡ Some k → ⊥
no_native k e = cc

-- it is built in, and its name is in the list
pub native_is_named : (class : List ℕ) (m : Method) (k : Native) → native_in class m ≡ Some k → (m.built_in ≡ true) × (native_named natives class m.name ≡ Some k)
native_is_named class m k e = by (is_handed_out_of class m) refl e
  where
    by : (z : Bool) → is_handed_out_of class m ≡ z → cond z (native_named natives class m.name) None ≡ Some k → (m.built_in ≡ true) × (native_named natives class m.name ≡ Some k)
    by true h e = ((and_parts m.built_in _ h).0, e)
    by false h e = absurd (no_native k e)

-- one that is handed out does what its name says
pub named_native : (class : List ℕ) (m : Method) → is_handed_out_of class m ≡ true → native_in class m ≡ native_named natives class m.name
named_native class m e = ap (λ (z : Bool). cond z (native_named natives class m.name) None) e

-- another one does nothing of this list
pub no_named_native : (class : List ℕ) (m : Method) → is_handed_out_of class m ≡ false → native_in class m ≡ None
no_named_native class m e = ap (λ (z : Bool). cond z (native_named natives class m.name) None) e
