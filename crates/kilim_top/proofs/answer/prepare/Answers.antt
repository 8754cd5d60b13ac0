use Rattle.std.proofs.Common.{◌≡◌, ◌≤◌, ◌+◌, ◌∙◌, ℕ, List, [], ◌∷◌, ◌++◌, ap, arith, length, length-append, map, subst, sym}
use Rattle.std.specs.Prelude.{IfOk}
use Rattle.std.specs.String.{string_bytes}
use Rattle.std.proofs.lemmas.List.{length-map}
use Rattle.kilim_command.specs.declared.grammar.asked.Asked.{Asked}
use Rattle.kilim_command.specs.grammar.Parts.{meant}
use Rattle.kilim_command.specs.grammar.Words.{class_files, files_read}
use Rattle.kilim_top.specs.declared.answer.Ready.{Ready}
use Rattle.kilim_top.specs.Inside.Answer.{IsReadyFor}
use Rattle.kilim_top.proofs.Demos.{demo_prepared}
use Rattle.kilim_top.proofs.answer.prepare.Goals as goal

few_read : (named read files : List (List ℕ)) → named ≡ read → length named ≤ 1000 → length read ≡ length files → length files ≤ 1000
few_read named read files same few as_many = subst (λ (n : ℕ). n ≤ 1000) (ap (λ (ws : List (List ℕ)). length ws) same ∙ as_many) few

few_named : {A : Type 0} (f : A → List ℕ) (names : List A) (named : List (List ℕ)) → named ≡ map f names → length named ≤ 1000 → length names ≤ 1000
few_named f names named same few = subst (λ (n : ℕ). n ≤ 1000) (ap (λ (ws : List (List ℕ)). length ws) same ∙ length-map names f) few

one_more : {A : Type 0} (f : A → List ℕ) (names : List A) (journal : List ℕ) (read files : List (List ℕ)) → read ≡ map f names ++ journal ∷ [] → length read ≡ length files → length names + 1 ≡ length files
one_more f names journal read files same as_many =
    let n = ap (λ (ws : List (List ℕ)). length ws) same in omega (arith, n, as_many, length-append (map f names) (journal ∷ []), length-map names f)

pub returns-in-Check : goal.returns-in-Check
returns-in-Check g c = subst (λ (a : Asked). IfOk c.check_ready.result (λ (r : Ready). IsReadyFor (meant a) c.args.files.now r)) (sym c.in-Check.is) c.check_ready.ensures

pub returns-in-Weave : goal.returns-in-Weave
returns-in-Weave g c = subst (λ (a : Asked). IfOk c.weave_ready.result (λ (r : Ready). IsReadyFor (meant a) c.args.files.now r)) (sym c.in-Weave.is) c.weave_ready.ensures

pub returns-in-Run : goal.returns-in-Run
returns-in-Run g c = subst (λ (a : Asked). IfOk c.run_ready.result (λ (r : Ready). IsReadyFor (meant a) c.args.files.now r)) (sym c.in-Run.is) c.run_ready.ensures

pub returns-in-Replay : goal.returns-in-Replay
returns-in-Replay g c = subst (λ (a : Asked). IfOk c.replay_ready.result (λ (r : Ready). IsReadyFor (meant a) c.args.files.now r)) (sym c.in-Replay.is) c.replay_ready.ensures

pub returns-in-Save : goal.returns-in-Save
returns-in-Save g c = subst (λ (a : Asked). IfOk c.save_ready.result (λ (r : Ready). IsReadyFor (meant a) c.args.files.now r)) (sym c.in-Save.is) c.save_ready.ensures

pub returns-in-Resume : goal.returns-in-Resume
returns-in-Resume g c = subst (λ (a : Asked). IfOk c.resume_ready.result (λ (r : Ready). IsReadyFor (meant a) c.args.files.now r)) (sym c.in-Resume.is) c.resume_ready.ensures

pub returns-in-Demo : goal.returns-in-Demo
returns-in-Demo g c =
    subst (λ (a : Asked). IfOk c.demo_ready.result (λ (r : Ready). IsReadyFor (meant a) c.args.files.now r)) (sym c.in-Demo.is)
    (demo_prepared c.in-Demo.words.number c.in-Demo.words.workers c.args.files.now c.demo_ready.result c.demo_ready.ensures)

pub check_ready-requires-clause-same : goal.check_ready-requires-clause-same
check_ready-requires-clause-same g c = sym (length-map _ string_bytes) ∙ (sym (ap (λ (a : Asked). length (files_read (meant a))) c.in-Check.is) ∙ c.requires.same)

pub weave_ready-requires-clause-same : goal.weave_ready-requires-clause-same
weave_ready-requires-clause-same g c = sym (length-map _ string_bytes) ∙ (sym (ap (λ (a : Asked). length (files_read (meant a))) c.in-Weave.is) ∙ c.requires.same)

pub run_ready-requires-clause-same : goal.run_ready-requires-clause-same
run_ready-requires-clause-same g c = sym (length-map _ string_bytes) ∙ (sym (ap (λ (a : Asked). length (files_read (meant a))) c.in-Run.is) ∙ c.requires.same)

pub check_ready-requires-clause-few : goal.check_ready-requires-clause-few
check_ready-requires-clause-few g c =
    few_read (class_files (meant c.args.asked.now)) (files_read (meant c.args.asked.now)) c.args.files.now (ap (λ (a : Asked). class_files (meant a)) c.in-Check.is ∙ sym (ap (λ (a : Asked). files_read (meant a)) c.in-Check.is)) c.requires.few c.requires.same

pub weave_ready-requires-clause-few : goal.weave_ready-requires-clause-few
weave_ready-requires-clause-few g c =
    few_read (class_files (meant c.args.asked.now)) (files_read (meant c.args.asked.now)) c.args.files.now (ap (λ (a : Asked). class_files (meant a)) c.in-Weave.is ∙ sym (ap (λ (a : Asked). files_read (meant a)) c.in-Weave.is)) c.requires.few c.requires.same

pub run_ready-requires-clause-few : goal.run_ready-requires-clause-few
run_ready-requires-clause-few g c =
    few_read (class_files (meant c.args.asked.now)) (files_read (meant c.args.asked.now)) c.args.files.now (ap (λ (a : Asked). class_files (meant a)) c.in-Run.is ∙ sym (ap (λ (a : Asked). files_read (meant a)) c.in-Run.is)) c.requires.few c.requires.same

pub replay_ready-requires-clause-few : goal.replay_ready-requires-clause-few
replay_ready-requires-clause-few g c = few_named string_bytes _ (class_files (meant c.args.asked.now)) (ap (λ (a : Asked). class_files (meant a)) c.in-Replay.is) c.requires.few

pub replay_ready-requires-clause-same : goal.replay_ready-requires-clause-same
replay_ready-requires-clause-same g c = one_more string_bytes _ _ (files_read (meant c.args.asked.now)) c.args.files.now (ap (λ (a : Asked). files_read (meant a)) c.in-Replay.is) c.requires.same

pub save_ready-requires-clause-few : goal.save_ready-requires-clause-few
save_ready-requires-clause-few g c = λ κs within.
    few_read (class_files (meant c.args.asked.now)) (files_read (meant c.args.asked.now)) c.args.files.now (ap (λ (a : Asked). class_files (meant a)) c.in-Save.is ∙ sym (ap (λ (a : Asked). files_read (meant a)) c.in-Save.is)) c.requires.few c.requires.same

pub save_ready-requires-clause-same : goal.save_ready-requires-clause-same
save_ready-requires-clause-same g c = λ κs within. sym (length-map _ string_bytes) ∙ (sym (ap (λ (a : Asked). length (files_read (meant a))) c.in-Save.is) ∙ c.requires.same)

pub resume_ready-requires : goal.resume_ready-requires
resume_ready-requires g c = sym c.requires.same ∙ ap (λ (a : Asked). length (files_read (meant a))) c.in-Resume.is
