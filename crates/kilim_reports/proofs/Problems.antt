-- The two parts of a problem's words are its words.
use Rattle.std.proofs.Common.{◌≡◌, ◌++◌, refl}
use Rattle.kilim_link_spec.specs.declared.fault.Problem.{Problem}
use Rattle.kilim_link_spec.specs.declared.fault.Problem.TheVariants as problem
use Rattle.kilim_reports.specs.LinkLines.{problem_words}
use Rattle.kilim_reports.specs.Problems.{problem_word, problem_told}

pub said : (p : Problem) → problem_word p ++ problem_told p ≡ problem_words p
said (problem.Twice name) = refl
said (problem.Missing name) = refl
said problem.Circular = refl
said (problem.NoMember member) = refl
said (problem.LeftOut part) = refl
said problem.Both = refl
said (problem.FieldKind field) = refl
said (problem.OverrideDiffers method) = refl
said (problem.Code method fault) = refl
said (problem.Descriptor text) = refl
said problem.SuperKind = refl
said problem.Name = refl
said (problem.AbstractLeft method) = refl
said (problem.Handler method number) = refl
