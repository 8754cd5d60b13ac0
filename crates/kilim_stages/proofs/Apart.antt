-- What the laws of accepted programs give of the accepted program of some class files.
use Rattle.std.proofs.Common.{◌≡◌, ◌≤◌, ℕ, List, Result, Ok, Err, false, true, sym, subst}
use Rattle.std.specs.Prelude.{IfOk, length}
use Rattle.kilim_program.specs.declared.class.Form.TheVariants.{Plain}
use Rattle.kilim_program.specs.Keeps.{Keeps}
use Rattle.kilim_program.specs.Program.{Program}
use Rattle.kilim_isolation.specs.Faults.{IsAccepted}
use Rattle.kilim_isolation.specs.IsolatedProgram.{IsolatedProgram}
use Rattle.kilim_link_spec.specs.LinksWell.{LinksWell}
use Rattle.kilim_isolation_laws.specs.accepted_runs.begins.Begins.{MainsBegin}
use Rattle.kilim_isolation_laws.specs.accepted_runs.plain.Laws.{LinkedIsPlain}
use Rattle.kilim_isolation_laws.specs.kept.Laws.{AcceptedIsKept}
use Rattle.kilim_isolation_laws.specs.Laws.{IsRunOfAccepted}
use Rattle.kilim_isolation_laws.specs.reached_objects.Laws.{AreLive, typed}
use Rattle.kilim_isolation_laws.specs.Standing.{MainBegins}
use Rattle.kilim_isolation_laws.specs.tree_types.Laws.{AreNamedPlainly}
use Rattle.kilim_run_model.specs.one_heap.Laws.{NoneShares, OneHeapIsMany, PlaysReplay}
use Rattle.kilim_run_model.specs.Reach.{Liveness}
use Rattle.kilim_run_model.specs.State.{Setting}
use Rattle.kilim_type_spec.specs.Typed.{IsWellTyped}
use Rattle.kilim_type_spec.specs.TypedProgram.{TypedProgram}
use Rattle.kilim_type_verify.proofs.Verified.{well_typed}
use Rattle.kilim_stages.specs.declared.refusal.Refusal.{Refusal}
use Rattle.kilim_stages.specs.Accepted.{IsAcceptedOf, IsTypedOf, typed_of}
use Rattle.kilim_stages.specs.Parts.{IsIsolated}
use Rattle.kilim_stages.specs.Runs.{IsRunOf, RunsApart, AcceptedRunsApart}
use Rattle.kilim_stages.proofs.Both.{all_fit, as_many}
use Rattle.kilim_stages.proofs.Parts.{accepted_one}

links_well : (files : List (List ℕ)) (p : Program) → length files ≤ 1000 → (is : IsAcceptedOf files p) → LinksWell is.of_files.classes Plain p
links_well files p few is = record {
  few = subst (λ (n : ℕ). n ≤ 1000) (sym (as_many files is.of_files.classes is.of_files.are_files)) few;
  fit = all_fit files is.of_files.classes is.of_files.are_files;
  none = is.of_files.none;
  linked = is.of_files.linked;
}

module _ (plain : LinkedIsPlain) (begins : MainsBegin) (files : List (List ℕ)) (p : Program) (few : length files ≤ 1000) (keeps : Keeps p) (is : IsAcceptedOf files p) where
  own_run : (set : Setting) → set.program ≡ p → IsRunOf p set → IsRunOfAccepted set
  own_run set e run =
      let links = links_well files p few is in
      let form = plain is.of_files.classes p links keeps in
      let back = sym e in
      record {
        keeps = subst Keeps back keeps;
        named = subst AreNamedPlainly back form.1;
        form = subst (λ (q : Program). q.form ≡ Plain) back form.0;
        well = subst IsWellTyped back (well_typed p keeps is.accepts.typed);
        accepted = subst (λ (q : Program). IsAccepted (typed q)) back is.accepts.isolated;
        main = run.main;
        begins = subst (λ (q : Program). MainBegins q set.main) back (begins is.of_files.classes Plain p links set.main);
      }

  run_of : (set : Setting) → IsRunOf p set → IsRunOfAccepted set
  run_of set run = own_run set run.program run

  alive : (set : Setting) → IsRunOf p set → (live : Liveness) → AreLive p live → AreLive set.program live
  alive set run live there = subst (λ (q : Program). AreLive q live) (sym run.program) there

  -- where no local is taken for live, none has to be
  stacks_alone : Liveness
  stacks_alone = record { top = λ id at k. false; below = λ id at k. false }

  none_live : (q : Program) → AreLive q stacks_alone
  unfolding stacks_alone
  none_live q = (λ id m at k there e. absurd (let z : false ≡ true = e in cc), λ id m at k there e. absurd (let z : false ≡ true = e in cc))

  apart_of : AcceptedIsKept → NoneShares → PlaysReplay → OneHeapIsMany → RunsApart p
  apart_of keep none plays many = record {
    kept = λ set run live there. keep set (run_of set run) live (alive set run live there);
    isolated = λ set run live there. none live set run.main (keep set (run_of set run) live (alive set run live there));
    replayed = λ set run schedule. plays stacks_alone set run.main (keep set (run_of set run) stacks_alone (none_live set.program)) schedule;
    same = λ set run entries. many stacks_alone set run.main (keep set (run_of set run) stacks_alone (none_live set.program)) entries;
  }

pub apart : LinkedIsPlain → MainsBegin → AcceptedIsKept → NoneShares → PlaysReplay → OneHeapIsMany → AcceptedRunsApart
apart plain begins keep none plays many files p few keeps is = apart_of plain begins files p few keeps is keep none plays many

-- ---- of what the stage answers

apart_one : AcceptedRunsApart → (files : List (List ℕ)) (t : TypedProgram) (i : IsolatedProgram) → length files ≤ 1000 → Keeps t.program → IsTypedOf files t.program → t ≡ typed_of t.program → IsIsolated t i → RunsApart i.typed.program
apart_one law files t i few keeps of is isolated =
    law files i.typed.program few (subst (λ (u : TypedProgram). Keeps u.program) (sym isolated.is) keeps) (accepted_one files t i of is isolated)

pub apart_files : AcceptedRunsApart → (files : List (List ℕ)) (t : TypedProgram) (r : Result IsolatedProgram Refusal) → length files ≤ 1000 → Keeps t.program → IsTypedOf files t.program → t ≡ typed_of t.program → IfOk r (IsIsolated t) → IfOk r (λ i. RunsApart i.typed.program)
apart_files law files t (Ok i) few keeps of is isolated = apart_one law files t i few keeps of is isolated
apart_files law files t (Err e) few keeps of is isolated = tt
