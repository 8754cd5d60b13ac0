use Rattle.std.proofs.Common.{◌++◌, ◌∙◌, ap, option_to_list, refl}
use Rattle.kilim_run_board.specs.Seen.{seen}
use Rattle.kilim_run_follow.proofs.Orders.{last_moved, reordered}
use Rattle.kilim_run_follow.proofs.lending.settle_at.Goals as goal

pub returns-clause-order : goal.returns-clause-order
returns-clause-order g c =
    let last = c.pop_back.ensures.items ∙ ap (λ o. c.pop_back.new.self.items ++ option_to_list o) c.in-Some.is in
    last_moved (seen c.args.board.now) _ c.pop_back.new.self.items _ c.in-Some.fiber last c.in-Ok.ensures.items refl refl (λ box. refl) refl refl refl

pub returns-clause-stands : goal.returns-clause-stands
returns-clause-stands g c = λ set st.
    let last = c.pop_back.ensures.items ∙ ap (λ o. c.pop_back.new.self.items ++ option_to_list o) c.in-Some.is in
    reordered g.F.Fibers.task_of g.F.Fibers.course_of g.F.Fibers.holds set (seen c.args.board.now) _ (last_moved (seen c.args.board.now) _ c.pop_back.new.self.items _ c.in-Some.fiber last c.in-Ok.ensures.items refl refl (λ box. refl) refl refl refl) st
