use Rattle.std.proofs.Common.{◌≡◌, ◌∙◌, ℕ, List, Bool, ap}
use Rattle.std.specs.Prelude.{is_some}
use Rattle.kilim_program.specs.declared.class.Method.{Method}
use Rattle.kilim_program.specs.declared.verified.Frame.{Frame}
use Rattle.kilim_type_spec.specs.Typed.{frame_in}
use Rattle.kilim_weave_pieces.specs.Listed.{AreDeclared}
use Rattle.kilim_weave_method.specs.Flags.{AreFlags}
use Rattle.kilim_weave_method.proofs.Outcomes.{so_of}
use Rattle.kilim_weave_method.proofs.flags.declared_flags.Goals as goal

declared_by : (m : Method) (frames : List (ℕ × Frame)) (flags : List Bool) → frames ≡ m.frames → AreFlags frames flags → AreDeclared m flags
declared_by m frames flags same are = record { each = λ place. are.each place ∙ ap (λ (fs : List (ℕ × Frame)). is_some (frame_in fs place)) same }

pub returns : goal.returns
returns c = so_of c.flags_of.result (λ flags are. declared_by c.args.method.now c.as_slice.result.now flags.items c.as_slice.ensures are) c.flags_of.ensures
