-- A program to which class files link as they are is plain.
use Rattle.std.proofs.Common.{◌≡◌, ℕ, List, Result, Ok, Err, ap}
use Rattle.std.specs.Prelude.{IfOk}
use Rattle.kilim_program.specs.declared.class.Form.TheVariants.{Plain}
use Rattle.kilim_program.specs.Program.{Program}
use Rattle.kilim_class_file.specs.declared.class_file.ClassFile.{ClassFile}
use Rattle.kilim_link_spec.specs.Laws.{LinkedInParts}
use Rattle.kilim_type_spec.specs.TypedProgram.{TypedProgram}
use Rattle.kilim_stages.specs.Accepted.{IsAcceptedOf}
use Rattle.kilim_stages.specs.Parts.{IsTypedFrom}
use Rattle.kilim_stages.specs.declared.refusal.Refusal.{Refusal}

pub plain_typed : LinkedInParts → (cs : List ClassFile) (r : Result TypedProgram Refusal) → IfOk r (IsTypedFrom cs) → IfOk r (λ t. t.program.form ≡ Plain)
plain_typed in_parts cs (Ok t) is = ap (λ (q : Program). q.form) (in_parts cs Plain t.program is.links.linked).is
plain_typed in_parts cs (Err e) is = tt

pub plain_form : LinkedInParts → (files : List (List ℕ)) (p : Program) → IsAcceptedOf files p → p.form ≡ Plain
plain_form in_parts files p is = ap (λ (q : Program). q.form) (in_parts is.of_files.classes Plain p is.of_files.linked).is
