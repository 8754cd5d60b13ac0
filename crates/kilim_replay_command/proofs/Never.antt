-- No text is that of the journal of a whole run and reported.
use Rattle.std.proofs.Common.{◌≡◌, ℕ, true, List, [], ◌∷◌, Option, Some, sym, ap, subst, ◌∙◌, inl, inr, arith}
use Rattle.std.specs.List.{AllByRecursion}
use Rattle.kilim_program.specs.Names.{class_named}
use Rattle.kilim_program.specs.Program.{Program}
use Rattle.kilim_program.specs.declared.names.ClassId.{ClassId}
use Rattle.kilim_replay_laws.specs.Verdicts.{IsVerdict, OneVerdict}
use Rattle.kilim_replay_laws.specs.declared.verdict.Verdict.TheVariants as verdict
use Rattle.kilim_run_journal.specs.Read.{IsEntry, IsJournal}
use Rattle.kilim_run_journal.specs.Readable.{HasOneJournal, IsReadable, JournalFits}
use Rattle.kilim_run_journal.specs.declared.entry.Entry.{Entry}
use Rattle.kilim_run_model.specs.Runs.{Whole}
use Rattle.kilim_run_state.specs.declared.run.Limits.{Limits}
use Rattle.kilim_stages.specs.Laws.{NeverTypedAndReported, OneProgramOf}
use Rattle.kilim_replay_command.specs.Laws.{NeverWholeAndReported}
use Rattle.kilim_replay_command.specs.Replay.{IsMain, IsTextReport, run_of}

all_readable : (es : List Entry) → AllByRecursion IsEntry es → IsReadable es
all_readable [] each = tt
all_readable (e ∷ es) each = (each.0.0, all_readable es each.1)

all_fit : (es : List Entry) → AllByRecursion IsEntry es → JournalFits es
all_fit [] each = tt
all_fit (e ∷ es) each = (each.0.1, all_fit es each.1)

one_journal : HasOneJournal → (text : List ℕ) (es fs : List Entry) → IsJournal text es → IsJournal text fs → es ≡ fs
one_journal law text es fs a b = law es fs (all_readable es a.each) (all_readable fs b.each) (all_fit es a.each) (all_fit fs b.each) (sym a.text ∙ b.text)

some_is : (a b : ClassId) → Some a ≡ Some b → a ≡ b
some_is a b e = cc

one_main : (p : Program) (name : List ℕ) (a b : ClassId) → IsMain p name a → IsMain p name b → a ≡ b
one_main p name a b is also = some_is a b (sym is.named ∙ also.named)

moved : (p q : Program) (a b : ClassId) (es fs : List Entry) (limits : Limits) → p ≡ q → a ≡ b → es ≡ fs → Whole (run_of p a limits) es → Whole (run_of q b limits) fs
moved p q a b es fs limits same main journal whole =
    subst (λ (r : Program). Whole (run_of r b limits) fs) same (subst (λ (c : ClassId). Whole (run_of p c limits) fs) main (subst (λ (gs : List Entry). Whole (run_of p a limits) gs) journal whole))

pub never : OneProgramOf → NeverTypedAndReported → HasOneJournal → OneVerdict → NeverWholeAndReported
never one typing texts verdicts names name limits files text report whole (inl stage) = typing names files report whole.program whole.replayed.typed stage
never one typing texts verdicts names name limits files text report whole (inr (inl read)) = unread read.is_text
  where
    unread : IsTextReport text report → ⊥
    unread (inl large) = let few = whole.replayed.few in let many = large.0 in omega (arith, few, many)
    unread (inr bad) = bad.2.none whole.journal whole.replayed.is
never one typing texts verdicts names name limits files text report whole (inr (inr (inl main))) =
    let same = one files whole.program main.program whole.replayed.typed.of_files main.replayed.typed.of_files in
    main.none whole.main (subst (λ (p : Program). IsMain p name whole.main) same whole.is_main)
never one typing texts verdicts names name limits files text report whole (inr (inr (inr wrong))) =
    let same = one files whole.program wrong.program whole.replayed.typed.of_files wrong.replayed.typed.of_files in
    let main = one_main wrong.program name whole.main wrong.main (subst (λ (p : Program). IsMain p name whole.main) same whole.is_main) wrong.is_main in
    let journal = one_journal texts text whole.journal wrong.journal whole.replayed.is wrong.replayed.is in
    wrong.wrong (sym (verdicts (run_of wrong.program wrong.main limits) wrong.journal verdict.Whole wrong.found (moved whole.program wrong.program whole.main wrong.main whole.journal wrong.journal limits same main journal whole.whole) wrong.is))
