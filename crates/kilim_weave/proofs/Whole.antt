-- The woven program keeps what a program keeps, and is what `weave` promises.
use Rattle.std.proofs.Common.{◌≡◌, sym, refl, Bool, List, ◌++◌, Some, None, Err}
use Rattle.kilim_program.specs.declared.class.Class.{Class}
use Rattle.kilim_program.specs.declared.class.Field.{Field}
use Rattle.kilim_program.specs.declared.class.Form.TheVariants.{Plain, Woven}
use Rattle.kilim_program.specs.declared.class.Method.{Method}
use Rattle.kilim_program.specs.BuiltIn.{fiber_classes}
use Rattle.kilim_program.specs.Keeps.{Keeps}
use Rattle.kilim_program.specs.Program.{Program}
use Rattle.kilim_type_spec.specs.Typed.{IsWellTyped}
use Rattle.kilim_type_spec.specs.TypedProgram.{KeepsTyped, TypedProgram}
use Rattle.kilim_isolation.specs.Faults.{IsAccepted}
use Rattle.kilim_weave_spec.specs.Form.{AllWoven, WovenForm, first_class, first_method}
use Rattle.kilim_weave_laws.specs.woven_programs.kept.Law.{WovenIsKept}
use Rattle.kilim_weave_pauses.specs.Law.{PausesAreKept}
use Rattle.kilim_weave_laws.specs.woven_programs.Law.{KeepsPauses, WovenProgramsAreTyped}
use Rattle.kilim_weave.specs.declared.fault.WeaveFault.{WeaveFault}
use Rattle.kilim_weave.specs.declared.fault.WeaveFault.TheVariants.{TooLong, ArgumentsFull, Memory}
use Rattle.kilim_weave.specs.declared.weaving.Woven as one
use Rattle.kilim_weave.specs.Faults.{weave_fault}
use Rattle.kilim_weave.specs.Weaves.{IsWoven, Weaves}
use Rattle.kilim_weave.proofs.Searching.{none_full, none_too_long}
use Rattle.kilim_weave.proofs.Pausing.{none_of_pausing}

abbrev pub program_of : List Class → List Method → List Field → Program
program_of classes methods fields = record { classes = classes; methods = methods; fields = fields; form = Woven }

pub form_of : (p : Program) (classes : List Class) (methods : List Method) (fields : List Field) (counted : List (List Bool))
    → classes ≡ p.classes ++ fiber_classes Woven (first_class p) (first_method p) → fields ≡ p.fields → AllWoven p p.methods methods counted → WovenForm p (program_of classes methods fields) counted
form_of p classes methods fields counted cs fs all = record { classes = cs; fields = fs; form = refl; methods = all }

module _ (kept : WovenIsKept) (pauses_law : PausesAreKept) (typed_law : WovenProgramsAreTyped) (t : TypedProgram) (keeps : Keeps t.program) (typed : KeepsTyped t) (accepted : IsAccepted t) (plain : t.program.form ≡ Plain) (none : weave_fault t.program ≡ None) where
  pauses : KeepsPauses t.program
  pauses = pauses_law t keeps typed (none_of_pausing t accepted)

  pub keeps_woven : (w : Program) (counted : List (List Bool)) → WovenForm t.program w counted → Keeps w × IsWellTyped w
  keeps_woven w counted form = kept t.program w counted keeps plain typed.typed pauses (none_too_long t.program keeps none) (none_full t.program keeps none) form

  pub weaves : (w : one.Woven) → WovenForm t.program w.program w.counted → Weaves t.program w
  weaves w form = record {
    form = form;
    typed = (keeps_woven w.program w.counted form).1;
    short = (typed_law t.program w.program w.counted keeps plain typed.typed pauses form).1;
    pauses = pauses;
    too_long = none_too_long t.program keeps none;
    full = none_full t.program keeps none;
  }

pub refused : (p : Program) (f : WeaveFault) → Some f ≡ weave_fault p → IsWoven p (Err f)
refused p (TooLong id n) e = sym e
refused p (ArgumentsFull id) e = sym e
refused p Memory e = tt
