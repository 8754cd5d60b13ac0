use Rattle.std.proofs.Common.{rules, ◌≡◌, ℕ, List, [], length, sym, subst}
use Rattle.std.specs.Prelude.{slice_index_or, slice_set}
use Rattle.kilim_run_turn.specs.declared.pass.Pass.{Pass}
use Rattle.kilim_mail_crew.proofs.Deals.{Dealing, starts, goes_on, dealt}
use Rattle.kilim_mail_crew.proofs.crew.deal.Goals as goal

pub loop-pass-init : goal.loop-pass-init
loop-pass-init g c = starts c.args.workers.now.items c.args.passes.items c.requires.size

pub loop-pass-preserved : goal.loop-pass-preserved
loop-pass-preserved g c =
    let at : c.len.result ≡ length c.pop.new.self.items = search rules in
    let there : c.index_mut.result.now ≡ slice_index_or c.loop-pass.workers.items c.len.result c.index_mut.result.now = search rules in
    subst (λ (n : ℕ). Dealing c.args.workers.now.items c.args.passes.items (slice_set c.loop-pass.workers.items n c.hand.new.worker) c.pop.new.self.items) (sym at)
    (goes_on c.args.workers.now.items c.loop-pass.workers.items c.args.passes.items c.loop-pass.passes.items c.pop.new.self.items c.in-Some.pass c.index_mut.result.now c.hand.new.worker c.pop.result c.loop-pass.invariant c.pop.ensures.items c.in-Some.is
    (subst (λ (n : ℕ). c.index_mut.result.now ≡ slice_index_or c.loop-pass.workers.items n c.index_mut.result.now) at there) c.in-Ok.ensures.passes c.hand.ensures.own)

pub returns-clause-dealt : goal.returns-clause-dealt
returns-clause-dealt g c = λ turns turn are all.
    let none : c.loop-pass.passes.items ≡ [] = search rules in
    dealt c.args.workers.now.items c.loop-pass.workers.items c.args.passes.items turns turn (subst (λ (ps : List Pass). Dealing c.args.workers.now.items c.args.passes.items c.loop-pass.workers.items ps) none c.loop-pass.invariant) are all
