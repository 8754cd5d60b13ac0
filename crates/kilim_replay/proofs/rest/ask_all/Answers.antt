use Rattle.std.proofs.Common.{◌≡◌, ◌<◌, ◌≤◌, ◌+◌, ◌++◌, ◌∷◌, ◌∙◌, ℕ, List, [], ap, arith, length, rules, subst, suc, sym}
use Rattle.kilim_run_journal.specs.declared.entry.Act.TheVariants.{Wait}
use Rattle.kilim_run_journal.specs.declared.entry.Entry.{Entry}
use Rattle.kilim_replay.specs.Rest.{AsksAll}
use Rattle.kilim_replay.specs.declared.rest.Rested.TheVariants as rested
use Rattle.kilim_replay.proofs.Ending.{Asked, asked_all, asked_goes, asked_over, asked_waits, first_asked, shown_as}
use Rattle.kilim_replay.proofs.rest.ask_all.Goals as goal
use Rattle.kilim_replay.proofs.rest.ask_all.Goals.{in-Over, in-Waits+in-Ok-push}

pub loop-at-init : goal.loop-at-init
loop-at-init c =
    let none : c.new-waits.result.items ≡ [] = search rules in
    subst (λ (es : List Entry). Asked c.args.program.now c.args.heap.now c.args.mailboxes.now c.args.standings.now 0 es) (sym none) (first_asked c.args.program.now c.args.heap.now c.args.mailboxes.now c.args.standings.now)

pub ask_one-requires : goal.ask_one-requires
ask_one-requires c = record {
  shown =
      let lt : c.loop-at.at < length c.args.standings.now = search rules in
      shown_as c.args.program.now c.args.heap.now c.args.standings.now c.loop-at.at _ lt c.requires.shown;
}

pub returns-in-Goes : goal.returns-in-Goes
returns-in-Goes c = record {
  asks =
      let e : c.in-Ok.task ≡ c.loop-at.at = search rules in
      let lt : c.loop-at.at < length c.args.standings.now = search rules in
      let p = c.args.program.now in
      let h = c.args.heap.now in
      let boxes = c.args.mailboxes.now in
      subst (λ (n : ℕ). AsksAll p h boxes c.args.standings.now (rested.Goes n)) (sym e)
      (asked_goes p h boxes c.args.standings.now c.loop-at.at _ lt c.loop-at.waits.items c.loop-at.invariant _ c.in-Goes.is c.in-Ok-ask_one.ensures.asks);
}

pub returns : goal.returns
returns c = record {
  asks =
      let past : length c.args.standings.now ≤ c.loop-at.at = search rules in
      asked_all c.args.program.now c.args.heap.now c.args.mailboxes.now c.args.standings.now c.loop-at.at c.loop-at.waits.items c.loop-at.invariant past;
}

pub loop-at-preserved : goal.loop-at-preserved
loop-at-preserved c =
    let lt : c.loop-at.at < length c.args.standings.now = search rules in
    let p = c.args.program.now in
    let h = c.args.heap.now in
    let boxes = c.args.mailboxes.now in
    let sts = c.args.standings.now in
    let k = c.loop-at.at in
    let next : suc k ≡ k + 1 = omega arith in
    elim c.match-settled.branch [
      | in-Over w ↦
          rw w.waits-is
          (subst (λ (n : ℕ). Asked p h boxes sts n c.loop-at.waits.items) next
          (asked_over p h boxes sts k _ lt c.loop-at.waits.items c.loop-at.invariant _ w.in-Over.is c.in-Ok-ask_one.ensures.asks))
      | in-Waits+in-Ok-push w ↦
          let e : c.in-Ok.task ≡ k = search rules in
          let name = w.in-Waits.name in
          let pushed : w.push.new.self.items ≡ c.loop-at.waits.items ++ record { task = c.in-Ok.task; act = Wait name } ∷ [] = search rules in
          let entry : c.loop-at.waits.items ++ record { task = k; act = Wait name } ∷ [] ≡ w.push.new.self.items = sym (pushed ∙ ap (λ (n : ℕ). c.loop-at.waits.items ++ record { task = n; act = Wait name } ∷ []) e) in
          rw w.waits-is
          (subst (λ (n : ℕ). Asked p h boxes sts n w.push.new.self.items) next
          (subst (λ (es : List Entry). Asked p h boxes sts (suc k) es) entry
          (asked_waits p h boxes sts k _ lt c.loop-at.waits.items c.loop-at.invariant _ name w.in-Waits.is c.in-Ok-ask_one.ensures.asks)))
    ]
