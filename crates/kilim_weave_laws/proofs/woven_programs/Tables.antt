-- What catches in a woven program.
use Rattle.std.proofs.Common.{◌≡◌, ℕ, ◌<◌, Bool, true, false, List, ◌∷◌, [], ◌++◌, Option, Some, refl, ap, ◌∙◌}
use Rattle.kilim_program.specs.declared.class.Class.{Class}
use Rattle.kilim_program.specs.declared.class.Form.TheVariants.{Plain}
use Rattle.kilim_program.specs.declared.class.Method.{Method}
use Rattle.kilim_program.specs.declared.names.MethodId.{MethodId}
use Rattle.kilim_program.specs.Keeps.{Keeps}
use Rattle.kilim_program.specs.Names.{is_empty, method_at}
use Rattle.kilim_program.specs.Program.{Program}
use Rattle.kilim_weave_spec.specs.Form.{WovenForm, has_calls, woven_as}
use Rattle.kilim_weave_laws.specs.woven_programs.Law.{NoPausableTables, TablesKeep, WovenTablesKeep}
use Rattle.kilim_weave_laws.proofs.woven_programs.Methods.{IsFound, woven_at}
use Rattle.kilim_weave_laws.proofs.woven_programs.Theorem.{fiber_parts, grown}
use Rattle.kilim_weave_laws.proofs.woven_programs.kinds.Lines.{whole_same}

module _ (P W : Program) (counted : List (List Bool)) (keeps : Keeps P) (plainly : P.form ≡ Plain) (none : NoPausableTables P) (form : WovenForm P W counted) where
  at_woven : (id : MethodId) (m : Method) → method_at P id ≡ Some m → IsFound P W.methods id.0 m
  at_woven id m at = woven_at P P.methods W.methods counted form.methods id.0 m at

  is_plain : (m w : Method) (marks : List Bool) (z calls : Bool) → z ≡ false → woven_as z calls P m w marks → w ≡ m
  is_plain m w marks false calls e is = is.0
  is_plain m w marks true calls e is = absurd (cc)

  is_paused : (m w : Method) (marks : List Bool) (z calls : Bool) → z ≡ true → is_empty m.handlers ≡ true → woven_as z calls P m w marks → is_empty w.handlers ≡ true
  is_paused m w marks false calls e empty is = absurd (cc)
  is_paused m w marks true false e empty is = ap (λ (x : Method). is_empty x.handlers) is.0 ∙ empty
  is_paused m w marks true true e empty is = ap (λ (x : Method). is_empty x.handlers) is.4.method ∙ empty

  tables : TablesKeep P W
  tables = record {
    plain = λ id m at is. let f = at_woven id m at in f.there ∙ ap (λ (x : Method). Some x) (is_plain m f.woven f.counted m.pausable (has_calls P m) is f.is);
    paused = λ id m at is. let f = at_woven id m at in (f.woven, f.there, is_paused m f.woven f.counted m.pausable (has_calls P m) is (none id m at is) f.is);
    lines = λ c less. whole_same P W keeps (fiber_parts P W counted keeps plainly form) (grown P W counted keeps plainly form) c less;
  }

pub woven_tables : WovenTablesKeep
woven_tables p w counted keeps plainly none form = tables p w counted keeps plainly none form
