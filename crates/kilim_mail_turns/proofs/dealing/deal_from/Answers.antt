use Rattle.std.proofs.Common.{rules, ◌≡◌, ℕ, List, [], length, sym, ap, subst, refl, ◌∙◌}
use Rattle.std.specs.Prelude.{slice_index_or, slice_set}
use Rattle.kilim_run_turn.specs.declared.pass.Pass.{Pass}
use Rattle.kilim_mail_crew.proofs.Deals.{Dealing, starts, goes_on, dealt}
use Rattle.kilim_mail_turns.proofs.Dealings.{popped_size, has_room, map_set}
use Rattle.kilim_mail_turns.specs.Rooms.{room_of}
use Rattle.kilim_mail_turns.proofs.dealing.deal_from.Goals as goal

pub loop-pass-init : goal.loop-pass-init
loop-pass-init g c = (starts c.args.workers.now.items c.args.passes.now.items c.requires.size, refl, refl)

pub hand-requires : goal.hand-requires
hand-requires g c =
    let at : c.len.result ≡ length c.pop.new.self.items = search rules in
    let there : c.index_mut.result.now ≡ slice_index_or c.loop-pass.workers.items c.len.result c.index_mut.result.now = search rules in
    let d = c.loop-pass.invariant.0 in
    let long = popped_size c.loop-pass.passes.items c.pop.new.self.items c.pop.result c.in-Some.pass c.pop.ensures.items c.in-Some.is in
    has_room c.args.workers.now.items c.loop-pass.workers.items c.args.passes.now.items c.loop-pass.passes.items c.pop.new.self.items c.index_mut.result.now d long
    (subst (λ (n : ℕ). c.index_mut.result.now ≡ slice_index_or c.loop-pass.workers.items n c.index_mut.result.now) at there) c.requires.room

pub loop-pass-preserved : goal.loop-pass-preserved
loop-pass-preserved g c =
    let at : c.len.result ≡ length c.pop.new.self.items = search rules in
    let there : c.index_mut.result.now ≡ slice_index_or c.loop-pass.workers.items c.len.result c.index_mut.result.now = search rules in (
      subst (λ (n : ℕ). Dealing c.args.workers.now.items c.args.passes.now.items (slice_set c.loop-pass.workers.items n c.hand.new.worker) c.pop.new.self.items) (sym at)
          (goes_on c.args.workers.now.items c.loop-pass.workers.items c.args.passes.now.items c.loop-pass.passes.items c.pop.new.self.items c.in-Some.pass c.index_mut.result.now c.hand.new.worker c.pop.result c.loop-pass.invariant.0 c.pop.ensures.items c.in-Some.is
          (subst (λ (n : ℕ). c.index_mut.result.now ≡ slice_index_or c.loop-pass.workers.items n c.index_mut.result.now) at there) c.hand.ensures.passes c.hand.ensures.own),
      c.pop.ensures.capacity ∙ c.loop-pass.invariant.1,
      map_set room_of c.loop-pass.workers.items c.len.result c.hand.new.worker c.index_mut.result.now (c.hand.ensures.room ∙ ap room_of there) ∙ c.loop-pass.invariant.2,
    )

pub returns-clause-dealt : goal.returns-clause-dealt
returns-clause-dealt g c = λ turns turn are all.
    let none : c.loop-pass.passes.items ≡ [] = search rules in
    dealt c.args.workers.now.items c.loop-pass.workers.items c.args.passes.now.items turns turn (subst (λ (ps : List Pass). Dealing c.args.workers.now.items c.args.passes.now.items c.loop-pass.workers.items ps) none c.loop-pass.invariant.0) are all
