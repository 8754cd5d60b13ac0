use Rattle.std.proofs.Common.{◌≡◌, ◌+◌, ◌∙◌, List, None, Some, arith, rules, subst, sym}
use Rattle.kilim_run_journal.specs.declared.entry.Entry.{Entry}
use Rattle.kilim_run_model.specs.Runs.{AtRest}
use Rattle.kilim_replay_laws.specs.Verdicts.{DifferAt}
use Rattle.kilim_replay_thread.specs.Reach.{setting_of}
use Rattle.kilim_replay.specs.Rest.{HasRested, IsFirstDifference}
use Rattle.kilim_replay.proofs.checker.close.Goals as goal

pub returns-in-Goes : goal.returns-in-Goes
returns-in-Goes c = record {
  closed = λ s at.
      let behind : c.in-Some.behind ≡ c.args.acts + 1 = search rules in
      (behind, subst (HasRested (setting_of c.args.program.now c.args.main c.args.limits.now) s) c.in-Goes.is (c.in-Ok.ensures.rested s at));
}

pub returns-in-None : goal.returns-in-None
returns-in-None c = record {
  closed = λ s at.
      let set = setting_of c.args.program.now c.args.main c.args.limits.now in
      let rests : AtRest set s c.in-Waits.entries.items = subst (HasRested set s) c.in-Waits.is (c.in-Ok.ensures.rested s at) in
      let none : c.first_difference.result ≡ None = search rules in
      let same : c.args.waits.now ≡ c.as_slice.result.now = subst (IsFirstDifference c.args.waits.now c.as_slice.result.now) none c.first_difference.ensures in
      subst (AtRest set s) (sym (same ∙ c.as_slice.ensures.value)) rests;
}

pub returns-in-Some-checked_add : goal.returns-in-Some-checked_add
returns-in-Some-checked_add c = record {
  closed = λ s at.
      let set = setting_of c.args.program.now c.args.main c.args.limits.now in
      let rests : AtRest set s c.in-Waits.entries.items = subst (HasRested set s) c.in-Waits.is (c.in-Ok.ensures.rested s at) in
      let some : c.first_difference.result ≡ Some c.in-Some-first_difference.common = search rules in
      let differ : DifferAt c.args.waits.now c.as_slice.result.now c.in-Some-first_difference.common = subst (IsFirstDifference c.args.waits.now c.as_slice.result.now) some c.first_difference.ensures in
      let behind : c.in-Some.behind ≡ c.args.acts + 1 = search rules in
      let line : c.in-Some-checked_add.line ≡ c.in-Some.behind + c.in-Some-first_difference.common = search rules in
      record {
        own = c.in-Waits.entries.items;
        at_rest = rests;
        common = c.in-Some-first_difference.common;
        differ = subst (λ (es : List Entry). DifferAt c.args.waits.now es c.in-Some-first_difference.common) c.as_slice.ensures.value differ;
        number = omega (arith, behind, line);
      };
}
