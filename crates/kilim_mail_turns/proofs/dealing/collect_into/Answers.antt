use Rattle.std.proofs.Common.{rules, ◌≡◌, ◌<◌, ◌≤◌, ◌∙◌, length, sym, ap}
use Rattle.std.specs.Prelude.{slice_index_or}
use Rattle.std.specs.Vec.{vec_capacity}
use Rattle.kilim_mail_crew.proofs.Deals.{one_collected, all_come_back}
use Rattle.kilim_mail_turns.proofs.dealing.collect_into.Goals as goal

pub loop-s-preserved : goal.loop-s-preserved
loop-s-preserved g c =
    let there : c.index_mut.result.now ≡ slice_index_or c.loop-s.workers.items c.loop-s.s c.index_mut.result.now = search rules in
    let lt : c.loop-s.s < length c.loop-s.workers.items = search rules in
    let room : c.len-many.result ≤ vec_capacity c.push_reserved.new.self = search rules in (
      one_collected c.args.workers.now.items c.loop-s.workers.items c.loop-s.passes.items c.push_reserved.new.self.items c.loop-s.s c.index_mut.result.now c.last_pass-pass.new.worker c.last_pass-pass.result c.loop-s.invariant.0 lt there
          (ap (λ w. w.passes.items) (sym there) ∙ c.last_pass-pass.ensures.pass) c.push_reserved.ensures.items c.last_pass-pass.ensures.own,
      c.loop-s.invariant.1,
      room,
      c.push_reserved.ensures.capacity ∙ c.loop-s.invariant.3,
    )

pub returns-clause-back : goal.returns-clause-back
returns-clause-back g c = all_come_back c.args.workers.now.items c.loop-s.workers.items c.loop-s.passes.items
