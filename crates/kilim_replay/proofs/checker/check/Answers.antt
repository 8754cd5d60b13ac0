use Rattle.std.proofs.Common.{◌≡◌, ◌-◌, List, true, ap, drop, length, subst, sym, take}
use Rattle.std.specs.Prelude.{IfOk}
use Rattle.kilim_program.specs.Members.{is_fit_main}
use Rattle.kilim_program.specs.Program.{Program}
use Rattle.kilim_type_spec.specs.TypedProgram.{TypedProgram}
use Rattle.kilim_run_journal.specs.declared.entry.Entry.{Entry}
use Rattle.kilim_run_model.specs.State.{first_state}
use Rattle.kilim_replay_laws.specs.Verdicts.{IsVerdict}
use Rattle.kilim_replay_laws.specs.declared.verdict.Verdict.{Verdict}
use Rattle.kilim_replay_thread.specs.Reach.{setting_of}
use Rattle.kilim_replay.specs.Check.{BeginsAs, IsClosed}
use Rattle.kilim_replay.specs.Fold.{HasFolded, IsReadableVerdict}
use Rattle.kilim_replay.specs.Machine.{IsAt}
use Rattle.kilim_replay.proofs.Beginning.{closed, closed_readable, counted_acts, first_at, rest_is, stopped}
use Rattle.kilim_replay.proofs.Folding.{over_ok}
use Rattle.kilim_replay.proofs.checker.check.Goals as goal

pub fold-requires-clause-first : goal.fold-requires-clause-first
fold-requires-clause-first c =
    let same : c.typed.inside.program ≡ c.args.typed.now.program = ap (λ (t : TypedProgram). t.program) c.typed.view_is in
    subst (λ (p : Program). IsAt (setting_of p c.args.main c.args.limits.now) c.in-Ok.machine (first_state (setting_of p c.args.main c.args.limits.now))) (sym same)
    (first_at c.args.typed.now.program c.args.main c.args.limits.now c.keeps_program.ensures c.requires.plain c.keeps_typed.ensures.typed c.requires.fit c.in-Ok.machine
    (subst (λ (p : Program). BeginsAs p c.args.main c.in-Ok.machine) same c.in-Ok.ensures.first))

pub returns-in-Some-clause-verdict : goal.returns-in-Some-clause-verdict
returns-in-Some-clause-verdict c =
    let same : c.typed.inside.program ≡ c.args.typed.now.program = ap (λ (t : TypedProgram). t.program) c.typed.view_is in
    let set = setting_of c.typed.inside.program c.args.main c.args.limits.now in
    let a = c.count_acts-acts.ensures in
    subst (λ (p : Program). IsVerdict (setting_of p c.args.main c.args.limits.now) c.args.journal.now c.in-Some.verdict) same
    (stopped set c.args.journal.now c.count_acts-acts.result a.acts a.waits c.in-Some.verdict
    (subst (HasFolded set (take c.count_acts-acts.result c.args.journal.now) c.fold.new.machine) c.in-Some.is c.in-Ok-fold.ensures.folded))

pub close-requires-clause-some : goal.close-requires-clause-some
close-requires-clause-some c =
    let set = setting_of c.typed.inside.program c.args.main c.args.limits.now in
    let replayed = subst (HasFolded set (take c.count_acts-acts.result c.args.journal.now) c.fold.new.machine) c.in-None.is c.in-Ok-fold.ensures.folded in
    (replayed.last, replayed.at)

pub returns-clause-verdict : goal.returns-clause-verdict
returns-clause-verdict c =
    let same : c.typed.inside.program ≡ c.args.typed.now.program = ap (λ (t : TypedProgram). t.program) c.typed.view_is in
    let set = setting_of c.typed.inside.program c.args.main c.args.limits.now in
    let a = c.count_acts-acts.ensures in
    let fit = subst (λ (p : Program). is_fit_main p c.args.main ≡ true) (sym same) c.requires.fit in
    let replayed = subst (HasFolded set (take c.count_acts-acts.result c.args.journal.now) c.fold.new.machine) c.in-None.is c.in-Ok-fold.ensures.folded in
    subst (λ (p : Program). IfOk c.close.result (λ verdict. IsVerdict (setting_of p c.args.main c.args.limits.now) c.args.journal.now verdict)) same
    (over_ok (λ (v : Verdict). IsClosed set replayed.last c.count_acts-acts.result (take (length c.args.journal.now - c.count_acts-acts.result) (drop c.count_acts-acts.result c.args.journal.now)) v) (λ (v : Verdict). IsVerdict set c.args.journal.now v) c.close.result
    (c.close.ensures.closed replayed.last replayed.at)
    (λ v is. closed set c.args.journal.now c.count_acts-acts.result a.acts a.waits fit c.fold.new.machine replayed (counted_acts c.args.journal.now c.count_acts-acts.result a.within a.acts) v
    (subst (λ (es : List Entry). IsClosed set replayed.last c.count_acts-acts.result es v) (rest_is c.args.journal.now c.count_acts-acts.result) is)))

pub returns-clause-readable : goal.returns-clause-readable
returns-clause-readable c =
    let set = setting_of c.typed.inside.program c.args.main c.args.limits.now in
    let replayed = subst (HasFolded set (take c.count_acts-acts.result c.args.journal.now) c.fold.new.machine) c.in-None.is c.in-Ok-fold.ensures.folded in
    over_ok (λ (v : Verdict). IsClosed set replayed.last c.count_acts-acts.result (take (length c.args.journal.now - c.count_acts-acts.result) (drop c.count_acts-acts.result c.args.journal.now)) v) IsReadableVerdict c.close.result
    (c.close.ensures.closed replayed.last replayed.at)
    (λ v is. closed_readable set replayed.last c.count_acts-acts.result (take (length c.args.journal.now - c.count_acts-acts.result) (drop c.count_acts-acts.result c.args.journal.now)) v is)
