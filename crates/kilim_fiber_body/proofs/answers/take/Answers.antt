use Rattle.std.proofs.Common.{Some, ap, ◌∙◌}
use Rattle.kilim_program.specs.declared.value.Value.TheVariants.{Ref}
use Rattle.kilim_fiber_spec.specs.Fibers.{Fib}
use Rattle.kilim_fiber_laws.specs.woven_kin.Nexts.{counted, with_result}
use Rattle.kilim_fiber_body.specs.Body.{behind_at}
use Rattle.kilim_fiber_body.proofs.answers.take.Goals as goal

pub returns : goal.returns
returns c = record {
  mid = c.tree_comes.new.body;
  root = c.in-Ok.root;
  received = c.in-Ok.ensures;
  stands = c.go_on_with.ensures.stands ∙ ap (λ (f : Fib). with_result (Some (Ref c.in-Ok.root)) (record (counted (behind_at 0 c.tree_comes.new.body)) { fiber = f })) c.end_rewinding.ensures;
  roomy = c.go_on_with.ensures.roomy;
}
