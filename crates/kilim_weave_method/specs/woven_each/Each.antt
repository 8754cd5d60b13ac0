-- Methods, woven one by one.
use Rattle.std.specs.Prelude.{Bool, List, [], ◌∷◌}
use Rattle.kilim_program.specs.declared.class.Method.{Method}
use Rattle.kilim_program.specs.Program.{Program}
use Rattle.kilim_weave_spec.specs.Form.{IsWoven}

abbrev pub IsEachWoven : Program → List Method → List Method → List (List Bool) → Type 0
IsEachWoven p [] [] [] = Unit {0}
IsEachWoven p (m ∷ ms) (w ∷ ws) (marks ∷ counted) = IsWoven p m w marks × IsEachWoven p ms ws counted
IsEachWoven p _ _ _ = ⊥
