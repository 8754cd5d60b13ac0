use Rattle.std.specs.Prelude.{IfOk}
use Rattle.std.specs.List.{AllByRecursion}
use Rattle.std.proofs.Common.{◌≡◌, ◌<◌, ◌≤◌, ◌+◌, ◌++◌, ◌∷◌, ◌∙◌, ℕ, List, [], arith, length, refl, rules, subst, suc, sym}
use Rattle.kilim_replay_thread.specs.Reach.{setting_of}
use Rattle.kilim_replay.specs.Rest.{AsksAll, HasRested, HasSettled, IsFrom, IsShownFor}
use Rattle.kilim_replay.specs.declared.rest.Standing.{Standing}
use Rattle.kilim_replay.proofs.Ending.{Passed, all_shown, first_passed, in_now, many_now, pass_more, rests_all}
use Rattle.kilim_replay.proofs.Folding.{over_ok}
use Rattle.kilim_replay.proofs.rest.settle_all.Goals as goal

pub loop-at-init : goal.loop-at-init
loop-at-init c =
    let none : c.new-standings.result.items ≡ [] = search rules in
    let set = setting_of c.args.program.now c.args.main c.args.limits.now in
    record {
      passed = λ s at. subst (λ (sts : List Standing). Passed set s 0 c.args.machine.now sts) (sym none) (first_passed set s c.args.machine.now at);
      all = c.requires.all;
      many = refl;
    }

pub settle_task-requires-clause-some : goal.settle_task-requires-clause-some
settle_task-requires-clause-some c =
    let some = c.requires.some in
    let p = c.loop-at.invariant.passed some.0 some.1 in
    let set = setting_of c.args.program.now c.args.main c.args.limits.now in
    let e : c.in-Ok.task ≡ c.loop-at.at = search rules in
    (p.now, subst (λ (n : ℕ). IsFrom set n c.loop-at.machine p.now) (sym e) p.from)

pub loop-at-preserved : goal.loop-at-preserved
loop-at-preserved c = record {
  passed = λ s at.
      let set = setting_of c.args.program.now c.args.main c.args.limits.now in
      let p = c.loop-at.invariant.passed s at in
      let after = c.settle_task.new.machine in
      let k = c.loop-at.at in
      let st = c.in-Ok-settle_task.standing in
      let e : c.in-Ok.task ≡ k = search rules in
      let lt : k < length c.loop-at.machine.tasks.items = search rules in
      let here : HasSettled set p.now k after st =
      subst (λ (n : ℕ). HasSettled set p.now n after st) e (c.in-Ok-settle_task.ensures.settled p.now (subst (λ (n : ℕ). IsFrom set n c.loop-at.machine p.now) (sym e) p.from)) in
      let next : suc k ≡ k + 1 = omega arith in
      let pushed : c.loop-at.standings.items ++ st ∷ [] ≡ c.push.new.self.items = search rules in
      subst (λ (sts : List Standing). Passed set s (k + 1) after sts) pushed
      (subst (λ (n : ℕ). Passed set s n after (c.loop-at.standings.items ++ st ∷ [])) next (pass_more set s k c.loop-at.machine c.loop-at.standings.items p lt after st c.in-Ok-settle_task.ensures.tasks here));
  all = c.in-Ok-settle_task.ensures.all;
  many = c.in-Ok-settle_task.ensures.tasks ∙ c.loop-at.invariant.many;
}

pub ask_all-requires : goal.ask_all-requires
ask_all-requires c = record {
  shown =
      let set = setting_of c.args.program.now c.args.main c.args.limits.now in
      let some = c.requires.some in
      let p = c.loop-at.invariant.passed some.0 some.1 in
      let past : length c.loop-at.machine.tasks.items ≤ c.loop-at.at = search rules in
      subst (AllByRecursion (IsShownFor c.args.program.now c.loop-at.machine.world.heap)) (sym c.as_slice.ensures.value) (all_shown set some.0 c.loop-at.at c.loop-at.machine c.loop-at.standings.items p past);
}

pub returns : goal.returns
returns c = record {
  rested = λ s at.
      let set = setting_of c.args.program.now c.args.main c.args.limits.now in
      let p = c.loop-at.invariant.passed s at in
      let k = c.loop-at.at in
      let m = c.loop-at.machine in
      let sts = c.loop-at.standings.items in
      let past : length m.tasks.items ≤ k = search rules in
      let most : k ≤ length m.tasks.items = search rules in
      over_ok (AsksAll c.args.program.now m.world.heap m.mailboxes sts) (HasRested set s) c.ask_all.result
      (subst (λ (xs : List Standing). IfOk c.ask_all.result (AsksAll c.args.program.now m.world.heap m.mailboxes xs)) c.as_slice.ensures.value c.ask_all.ensures.asks)
      (λ x asks. rests_all set s k m sts p past x (asks set p.now (in_now set s k m sts p past) p.stand (many_now set s k m sts p past (omega (arith, past, most)))));
}
