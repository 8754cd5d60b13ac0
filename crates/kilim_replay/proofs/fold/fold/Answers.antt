use Rattle.std.proofs.Common.{◌≡◌, ◌+◌, ℕ, None, suc, arith, rules, subst}
use Rattle.kilim_replay_thread.specs.Reach.{setting_of}
use Rattle.kilim_replay.proofs.Differing.{got_or}
use Rattle.kilim_replay.proofs.Folding.{Done, all_done, first_done, goes_on, stops}
use Rattle.kilim_replay.proofs.fold.fold.Goals as goal

pub loop-at-init : goal.loop-at-init
loop-at-init c = record { done = first_done (setting_of c.args.program.now c.args.main c.args.limits.now) c.args.entries.now c.args.machine.now c.requires.first; all = c.requires.all }

pub do_entry-requires-clause-some : goal.do_entry-requires-clause-some
do_entry-requires-clause-some c = let done = c.loop-at.invariant.done in (done.last, done.at)

pub returns-in-Some-clause-folded : goal.returns-in-Some-clause-folded
returns-in-Some-clause-folded c =
    let set = setting_of c.args.program.now c.args.main c.args.limits.now in
    let done = c.loop-at.invariant.done in
    let lt = c.loop-at-test.true in
    stops set c.args.entries.now c.loop-at.at c.index-entries-at.result (got_or c.args.entries.now c.loop-at.at c.index-entries-at.result lt c.index-entries-at.is) c.loop-at.machine c.do_entry.new.machine done
    (omega (arith, lt)) c.in-Ok.step c.stopped_by.result c.in-Some.verdict c.in-Some.is (c.in-Ok.ensures.stepped done.last done.at) c.stopped_by.ensures

pub loop-at-preserved : goal.loop-at-preserved
loop-at-preserved c =
    let set = setting_of c.args.program.now c.args.main c.args.limits.now in
    let done = c.loop-at.invariant.done in
    let lt = c.loop-at-test.true in
    let none : c.stopped_by.result ≡ None = search rules in
    let more : suc c.loop-at.at ≡ c.loop-at.at + 1 = omega arith in
    record {
      done = subst (λ (k : ℕ). Done set c.args.entries.now k c.do_entry.new.machine) more
          (goes_on set c.args.entries.now c.loop-at.at c.index-entries-at.result (got_or c.args.entries.now c.loop-at.at c.index-entries-at.result lt c.index-entries-at.is) c.loop-at.machine c.do_entry.new.machine done
          c.in-Ok.step c.stopped_by.result none (c.in-Ok.ensures.stepped done.last done.at) c.stopped_by.ensures);
      all = c.in-Ok.ensures.all;
    }

pub returns-clause-folded : goal.returns-clause-folded
returns-clause-folded c =
    let past = c.loop-at-test.false in
    all_done (setting_of c.args.program.now c.args.main c.args.limits.now) c.args.entries.now c.loop-at.at c.loop-at.machine (omega (arith, past)) c.loop-at.invariant.done
