-- What the superclasses and kinds of a woven program keep.
use Rattle.std.specs.Prelude.{◌≡◌, Bool, true, List}
use Rattle.kilim_program.specs.declared.class.Form.TheVariants.{Plain}
use Rattle.kilim_program.specs.Keeps.{Keeps, fields_fit, none_is_both, none_is_its_ancestor, superclasses_fit}
use Rattle.kilim_program.specs.Program.{Program}
use Rattle.kilim_weave_spec.specs.Form.{WovenForm}

-- No class is its own ancestor, none is both a task and a message, and superclasses and fields are of kinds that fit.
pub record KindsKeep (w : Program) : Type 0 where
  pub ancestors : none_is_its_ancestor w ≡ true
  pub both : none_is_both w ≡ true
  pub superclasses : superclasses_fit w ≡ true
  pub fields : fields_fit w ≡ true

abbrev pub WovenKindsKeep : Type 0
WovenKindsKeep = (p w : Program) (counted : List (List Bool)) → Keeps p → p.form ≡ Plain → WovenForm p w counted → KindsKeep w
