-- What is answered for files: what the work makes, or a report, and never both.
use Rattle.std.proofs.Common.{◌≡◌, ℕ, ℤ, ◌≤◌, ◌<◌, true, List, [], ◌∷◌, length, take, drop, get_or, Option, Some, None, Result, Ok, Err, refl, sym, ap, subst, inl, inr, ◌∙◌, arith}
use Rattle.std.specs.Prelude.{IfOk}
use Rattle.kilim_units.specs.declared.memory.NoMemory.{NoMemory}
use Rattle.kilim_program.specs.declared.names.ClassId.{ClassId}
use Rattle.kilim_program.specs.Names.{class_named}
use Rattle.kilim_program.specs.Program.{Program}
use Rattle.kilim_run_state.specs.declared.run.Limits.{Limits}
use Rattle.kilim_program.specs.Members.{is_fit_main}
use Rattle.kilim_stages.specs.Accepted.{IsAcceptedOf}
use Rattle.kilim_stages.specs.Laws.{NeverBoth, OneProgramOf}
use Rattle.kilim_stages.specs.Parts.{Refused}
use Rattle.kilim_stages.specs.Reports.{IsStageReport}
use Rattle.kilim_stages.specs.declared.refusal.Refusal.{Refusal}
use Rattle.kilim_stages.specs.declared.refusal.Refusal.TheVariants as refusal
use Rattle.kilim_top.specs.demo.Demo.{demo_texts, IsDemoReport}
use Rattle.kilim_weave_file_command.specs.Laws.{AcceptedFilesAreIsolated, NeverWeavableAndReported}
use Rattle.kilim_weave_file_command.specs.Weaving.{IsWeaving}
use Rattle.kilim_weave_file_command.specs.woven_files.Reports.{IsWeaveReport}
use Rattle.kilim_weave.specs.Faults.{weave_fault}
use Rattle.kilim_weave.specs.declared.weaving.Woven.{Woven}
use Rattle.kilim_command.specs.grammar.Words.{Request, Check, Weave, Run, Replay, Save, Resume, Demo}
use Rattle.kilim_image_command.specs.Laws.{NeverBegunAndReported, NeverGoneOnAndReported, NeverSavedAndReported}
use Rattle.kilim_replay_command.specs.Laws.{NeverWholeAndReported}
use Rattle.kilim_replay_command.specs.Replay.{IsReplayReport}
use Rattle.kilim_stages.specs.woven_stage.Laws.{WovenIsNotReported}
use Rattle.kilim_stages.specs.woven_stage.Reports.{IsWovenReport}
use Rattle.kilim_stages.specs.woven_stage.Stage.{IsWithMain, IsWovenOf}
use Rattle.kilim_stages.specs.declared.woven_stage.stage.WovenProgram.{WovenProgram}
use Rattle.kilim_outside.specs.written.OutputFile.{OutputFile}
use Rattle.kilim_top.specs.declared.answer.Reply.{Reply}
use Rattle.kilim_top.specs.declared.answer.Ready.{Ready}
use Rattle.kilim_top.specs.declared.answer.Ready.TheVariants as ready
use Rattle.kilim_top.specs.Inside.Answer.{IsMainOf, IsNoMain, IsReadyFor, IsReadyOf, IsRefusedBy, IsReplyFor, IsToRun, IsWithoutMain}
use Rattle.kilim_top.specs.Outcome.{IsDone, IsFitFor, IsFitRun, IsReport, IsStageFault, class_texts, coded_methods, first_text, text_behind}
use Rattle.kilim_command.specs.Report.{accepted_line, named_line, utf16_of}
use Rattle.kilim_command.specs.RunText.{demo_number, run_text}
use Rattle.kilim_command.specs.Words.{limits_of}
use Rattle.kilim_run_model.specs.State.{Setting}
use Rattle.kilim_run_journal.specs.declared.entry.Entry.{Entry}
use Rattle.kilim_image_command.specs.Laws.{WovenIsServed}
use Rattle.kilim_run.specs.Runs.{IsJournalOf, setting_of}
use Rattle.kilim_program.specs.main_class.Main.{fit_class_named}
use Rattle.kilim_image_command.proofs.Mains.{fit_named, none_named}
use Rattle.kilim_top.proofs.WholeRun.{to_run}

-- ---- what is reported, and what is done

module _ (both : NeverBoth) (one : OneProgramOf) (weavable : NeverWeavableAndReported) (replays : NeverWholeAndReported) (woven : WovenIsNotReported) (begun : NeverBegunAndReported) (saves : NeverSavedAndReported) (goes : NeverGoneOnAndReported) where
  never_run : (main : List ℕ) (workers steps : ℕ) (args : List ℤ) (names files : List (List ℕ)) (text : List ℕ) → IsFitRun main files → IsReport (Run main workers steps args names) files text → ⊥
  never_run main workers steps args names files text fit (inl stage) = woven names files text fit.program fit.accepted fit.weavable (inl stage)
  never_run main workers steps args names files text fit (inr (inl method)) = woven names files text fit.program fit.accepted fit.weavable (inr method)
  never_run main workers steps args names files text fit (inr (inr other)) =
      let same = one files fit.program other.program fit.accepted.of_files other.accepted.of_files in
      other.none fit.class (subst (λ (p : Program). class_named p (utf16_of main) ≡ Some fit.class) same fit.named) (subst (λ (p : Program). is_fit_main p fit.class ≡ true) same fit.fit)

  never_demo : (number : ℕ) (text : List ℕ) (p : Program) → IsAcceptedOf (demo_texts number) p → weave_fault p ≡ None → IsDemoReport number text → ⊥
  never_demo number text p is none (inl link) = woven [] (demo_texts number) text p is none (inl (inr (inl link)))
  never_demo number text p is none (inr (inl typing)) = woven [] (demo_texts number) text p is none (inl (inr (inr (inl typing))))
  never_demo number text p is none (inr (inr (inl rules))) = woven [] (demo_texts number) text p is none (inl (inr (inr (inr rules))))
  never_demo number text p is none (inr (inr (inr method))) = woven [] (demo_texts number) text p is none (inr method)

  pub never : (work : Request) (files : List (List ℕ)) (text : List ℕ) → IsFitFor work files → IsReport work files text → ⊥
  never (Check names) files text fit report = both names files text fit.0 fit.1 report
  never (Weave to names) files text fit report = weavable names files text fit report
  never (Run main workers steps args names) files text fit report = never_run main workers steps args names files text fit report
  never (Replay main journal steps args names) files text fit report = replays names (utf16_of main) (limits_of steps args) (class_texts names files) (text_behind names files) text fit report
  never (Save main image entries steps args names) files text fit report = saves names main (limits_of steps args) entries files text fit report
  never (Resume image workers) files text fit report = goes (first_text files) text fit report
  never (Demo number workers) files text fit report = never_demo number text fit.0 fit.1 fit.2 report

  -- where the work was done, no stage has a fault
  pub undone : (work : Request) (files : List (List ℕ)) (made : List OutputFile) (text other : List ℕ) → IsDone work files made text → IsStageFault work files other → ⊥
  undone (Check names) files made text other done fault = never (Check names) files other (done.1.program, done.1.accepted) fault
  undone (Weave to names) files made text other done fault =
      let w = done.weaving.are_woven in
      never (Weave to names) files other (record { program = w.program; accepted = w.accepted; none = w.none; classes = w.classes; are_files = w.are_files; fit = w.fit }) fault
  undone (Run main workers steps args names) files made text other done fault =
      let whole = done.1 in
      never (Run main workers steps args names) files other (record { program = whole.program; accepted = whole.accepted; weavable = whole.weavable; class = whole.class; named = whole.named; fit = whole.fit }) fault
  undone (Replay main journal steps args names) files made text other done fault = never (Replay main journal steps args names) files other done.1.whole fault
  undone (Save main image entries steps args names) files made text other done fault = let here = done.saved.here in begun names (utf16_of main) files other here.program here.class here.start fault
  undone (Resume image workers) files made text other done fault = never (Resume image workers) files other done.1.resumed.can fault
  undone (Demo number workers) files made text other done fault = never (Demo number workers) files other (done.1.program, done.1.accepted, done.1.none) fault

-- ---- from an accepted program to the bytes of its files

main_in : (p w : WovenProgram) (name : List ℕ) (limits : Limits) (class : ClassId) → w ≡ p → fit_class_named p.plain name ≡ Some class → IsMainOf p name limits (setting_of w.plain class limits) w.woven
main_in p w name limits class same found =
    let f = fit_named p.plain name class found in
    subst (λ (v : WovenProgram). IsMainOf p name limits (setting_of v.plain class limits) v.woven) (sym same) (record { is = refl; is_woven = refl; named = f.named; fit = f.fit })

-- what is done with the main class, or without one
pub main_of : (p w : WovenProgram) (seen name : List ℕ) (limits : Limits) (class : ClassId) (o : Option (WovenProgram × ClassId)) → o ≡ Some (w, class) → seen ≡ name → IsWithMain p seen o → IsMainOf p name limits (setting_of w.plain class limits) w.woven
main_of p w seen name limits class o e same is =
    let found = subst (λ (x : Option (WovenProgram × ClassId)). IsWithMain p seen x) e is in
    main_in p w name limits class found.0 (subst (λ (n : List ℕ). fit_class_named p.plain n ≡ Some class) same found.1)

no_class : (p : Program) (name : List ℕ) (status : ℕ) (made : List OutputFile) (text : List ℕ) → fit_class_named p name ≡ None → text ≡ named_line name → status ≡ 1 → made ≡ [] → (status ≡ 1) × ((made ≡ []) × IsNoMain p name text)
no_class p name status made text found is one none = (one, (none, record { none = none_named p name found; is_text = is }))

without_in : (p : WovenProgram) (name : List ℕ) (limits : Limits) (r : Result Ready NoMemory) → fit_class_named p.plain name ≡ None → IfOk r (IsWithoutMain name) → IfOk r (IsReadyOf p name limits)
without_in p name limits (Ok (ready.Reply reply)) none h = no_class p.plain name reply.status reply.files.items reply.text.items none h.1.1 h.0 h.1.0
without_in p name limits (Ok (ready.Run plain woven class l)) none h = absurd h
without_in p name limits (Ok (ready.Resume stopped)) none h = absurd h
without_in p name limits (Err e) none h = tt

pub without : (p : WovenProgram) (seen name : List ℕ) (limits : Limits) (r : Result Ready NoMemory) (o : Option (WovenProgram × ClassId)) → o ≡ None → seen ≡ name → IsWithMain p seen o → IfOk r (IsWithoutMain seen) → IfOk r (IsReadyOf p name limits)
without p seen name limits r o e same is h =
    without_in p name limits r (subst (λ (n : List ℕ). fit_class_named p.plain n ≡ None) same (subst (λ (x : Option (WovenProgram × ClassId)). IsWithMain p seen x) e is))
    (subst (λ (n : List ℕ). IfOk r (IsWithoutMain n)) same h)

module _ (law : AcceptedFilesAreIsolated) (serves : WovenIsServed) (files : List (List ℕ)) (few : length files ≤ 1000) where
  ready_one : (main : List ℕ) (workers steps : ℕ) (args : List ℤ) (names : List (List ℕ)) (p : WovenProgram) (r : Ready) → IsWovenOf files p.plain p.woven → IsReadyOf p (utf16_of main) (limits_of steps args) r → IsReadyFor (Run main workers steps args names) files r
  ready_one main workers steps args names p (ready.Reply reply) of h =
      inr (h.0, (h.1.0, inr (inr (record { program = p.plain; accepted = of.accepted; weavable = of.none; none = h.1.1.none; is_text = h.1.1.is_text }))))
  ready_one main workers steps args names p (ready.Run plain woven class l) of h = to_run law serves files p few of main workers steps args names (setting_of plain class l) woven h
  ready_one main workers steps args names p (ready.Resume stopped) of h = absurd h

  ready_of : (main : List ℕ) (workers steps : ℕ) (args : List ℤ) (names : List (List ℕ)) (p : WovenProgram) (r : Result Ready NoMemory) → IsWovenOf files p.plain p.woven →
      IfOk r (IsReadyOf p (utf16_of main) (limits_of steps args)) → IfOk r (IsReadyFor (Run main workers steps args names) files)
  ready_of main workers steps args names p (Ok r) of h = ready_one main workers steps args names p r of h
  ready_of main workers steps args names p (Err e) of h = tt

  pub ready_run : (main : List ℕ) (workers steps : ℕ) (args : List ℤ) (names : List (List ℕ)) (name : List ℕ) (limits : Limits) (p : WovenProgram) (r : Result Ready NoMemory) → name ≡ utf16_of main → limits ≡ limits_of steps args →
      IsWovenOf files p.plain p.woven → IfOk r (IsReadyOf p name limits) → IfOk r (IsReadyFor (Run main workers steps args names) files)
  ready_run main workers steps args names name limits p r named limited of h =
      ready_of main workers steps args names p r of
      (subst (λ (n : List ℕ). IfOk r (IsReadyOf p n (limits_of steps args))) named (subst (λ (l : Limits). IfOk r (IsReadyOf p name l)) limited h))

pub check_done : (names files : List (List ℕ)) (p : Program) (status : ℕ) (made : List OutputFile) (text : List ℕ) → AcceptedFilesAreIsolated → length files ≤ 1000 → IsAcceptedOf files p → status ≡ 0 → made ≡ [] →
    text ≡ accepted_line (length files) (coded_methods p) → IsReplyFor (Check names) files status made text
check_done names files p status made text law few is zero none e =
    inl (zero, (none, record { program = p; accepted = is; isolated = λ class fit limits live sound. law files p few is class fit limits live sound; is_text = e }))

-- a run that was done
ran_one : (work : Request) (files : List (List ℕ)) (set : Setting) (w : Woven) (demo : Option ℕ) (es : List Entry) (made : List OutputFile) (text : List ℕ) → IsToRun work files set w → demo ≡ demo_number work → IsJournalOf set es → made ≡ [] → text ≡ run_text demo es → IsDone work files made text
ran_one work files set w demo es made text to same is none e =
    subst (λ (fs : List OutputFile). IsDone work files fs text) (sym none) (to.done text (record { journal = es; is = is; is_text = e ∙ ap (λ (d : Option ℕ). run_text d es) same }))

pub ran : (work : Request) (files : List (List ℕ)) (set : Setting) (w : Woven) (demo : Option ℕ) (es : List Entry) (r : Result Reply NoMemory) → IsToRun work files set w → demo ≡ demo_number work → IsJournalOf set es → IfOk r (λ reply. reply.status ≡ 0) →
    IfOk r (λ reply. reply.files.items ≡ []) → IfOk r (λ reply. reply.text.items ≡ run_text demo es) → IfOk r (λ reply. IsReplyFor work files reply.status reply.files.items reply.text.items)
ran work files set w demo es (Ok reply) to same is zero none text = inl (zero, ran_one work files set w demo es reply.files.items reply.text.items to same is none text)
ran work files set w demo es (Err e) to same is zero none text = tt

-- a report of the stages
refused_one : (work : Request) (files : List (List ℕ)) (r : Refusal) (d : Ready) → Refused r (IsReport work files) → IsRefusedBy r d → IsReadyFor work files d
refused_one work files refusal.NoMemory d said by = absurd by
refused_one work files (refusal.Report t) (ready.Reply reply) said by = inr (by.0, (by.1.0, subst (λ (s : List ℕ). IsReport work files s) (sym by.1.1) said))
refused_one work files (refusal.Report t) (ready.Run plain woven class limits) said by = absurd by
refused_one work files (refusal.Report t) (ready.Resume stopped) said by = absurd by

pub refused_ready : (work : Request) (files : List (List ℕ)) (refusal : Refusal) (r : Result Ready NoMemory) → Refused refusal (IsReport work files) → IfOk r (IsRefusedBy refusal) → IfOk r (IsReadyFor work files)
refused_ready work files refusal (Ok d) said by = refused_one work files refusal d said by
refused_ready work files refusal (Err e) said by = tt

pub refused_as : (A B : List ℕ → Type 0) (r : Refusal) → ((text : List ℕ) → A text → B text) → Refused r A → Refused r B
refused_as A B refusal.NoMemory f said = tt
refused_as A B (refusal.Report t) f said = f t.items said

pub refused_check : (names files : List (List ℕ)) (refusal : Refusal) (r : Result Ready NoMemory) → Refused refusal (IsStageReport names files) → IfOk r (IsRefusedBy refusal) → IfOk r (IsReadyFor (Check names) files)
refused_check names files refusal r said by = refused_ready (Check names) files refusal r (refused_as (IsStageReport names files) (IsReport (Check names) files) refusal (λ text report. report) said) by

pub refused_weave : (to : List ℕ) (names files : List (List ℕ)) (refusal : Refusal) (r : Result Ready NoMemory) → Refused refusal (IsWeaveReport names files) → IfOk r (IsRefusedBy refusal) → IfOk r (IsReadyFor (Weave to names) files)
refused_weave to names files refusal r said by = refused_ready (Weave to names) files refusal r (refused_as (IsWeaveReport names files) (IsReport (Weave to names) files) refusal (λ text report. report) said) by

run_report : (main : List ℕ) (workers steps : ℕ) (args : List ℤ) (names files : List (List ℕ)) (text : List ℕ) → IsWovenReport names files text → IsReport (Run main workers steps args names) files text
run_report main workers steps args names files text (inl stage) = inl stage
run_report main workers steps args names files text (inr method) = inr (inl method)

run_refused : (main : List ℕ) (workers steps : ℕ) (args : List ℤ) (names files : List (List ℕ)) (r : Refusal) → Refused r (IsWovenReport names files) → Refused r (IsReport (Run main workers steps args names) files)
run_refused main workers steps args names files refusal.NoMemory said = tt
run_refused main workers steps args names files (refusal.Report t) said = run_report main workers steps args names files t.items said

pub refused_run : (main : List ℕ) (workers steps : ℕ) (args : List ℤ) (names files : List (List ℕ)) (refusal : Refusal) (r : Result Ready NoMemory) → Refused refusal (IsWovenReport names files) → IfOk r (IsRefusedBy refusal) →
    IfOk r (IsReadyFor (Run main workers steps args names) files)
refused_run main workers steps args names files refusal r said by = refused_ready (Run main workers steps args names) files refusal r (run_refused main workers steps args names files refusal said) by

-- woven files
pub woven_reply : (to : List ℕ) (names files : List (List ℕ)) (made : List OutputFile) (text : List ℕ) → AcceptedFilesAreIsolated → WovenIsServed → length files ≤ 1000 → IsWeaving to files made text → IsReplyFor (Weave to names) files 0 made text
woven_reply to names files made text law served few weaving =
    let woven = weaving.are_woven in
    inl (
      refl,
      record {
        weaving = weaving;
        isolated = λ class fit limits live sound. law files woven.program few woven.accepted class fit limits live sound;
        serves = λ class fit limits. (served files woven.program woven.woven few woven.accepted woven.weaves class fit limits).runs;
      },
    )

-- ---- a journal that is replayed

behind_is : (names files classes behind : List (List ℕ)) (text : List ℕ) (n : ℕ) → n ≡ length names → behind ≡ drop n files → text ≡ get_or behind 0 text → 0 < length behind → text_behind names files ≡ text
behind_is names files classes [] text n many is at some = absurd (omega (arith, some))
behind_is names files classes (b ∷ bs) text n many is at some = sym (ap (λ (k : ℕ). first_text (drop k files)) many) ∙ (ap first_text (sym is) ∙ sym at)

module _ (main journal : List ℕ) (steps : ℕ) (args : List ℤ) (names files classes behind : List (List ℕ)) (text name : List ℕ) (limits : Limits) (n : ℕ) (many : n ≡ length names) (front : classes ≡ take n files) (back : behind ≡ drop n files)
    (at : text ≡ get_or behind 0 text) (some : 0 < length behind) (named : name ≡ utf16_of main) (limited : limits ≡ limits_of steps args) where
  classes_are : classes ≡ class_texts names files
  classes_are = front ∙ ap (λ (k : ℕ). take k files) many

  text_is : text ≡ text_behind names files
  text_is = sym (behind_is names files classes behind text n many back at some)

  report_is : (report : List ℕ) → IsReplayReport names name limits classes text report → IsReport (Replay main journal steps args names) files report
  report_is report is =
      subst (λ (nm : List ℕ). IsReplayReport names nm (limits_of steps args) (class_texts names files) (text_behind names files) report) named
      (subst (λ (l : Limits). IsReplayReport names name l (class_texts names files) (text_behind names files) report) limited
      (subst (λ (cs : List (List ℕ)). IsReplayReport names name limits cs (text_behind names files) report) classes_are (subst (λ (t : List ℕ). IsReplayReport names name limits classes t report) text_is is)))

  pub refused_replay : (refusal : Refusal) (r : Result Ready NoMemory) → Refused refusal (IsReplayReport names name limits classes text) → IfOk r (IsRefusedBy refusal) → IfOk r (IsReadyFor (Replay main journal steps args names) files)
  refused_replay refusal r said by =
      refused_ready (Replay main journal steps args names) files refusal r (refused_as (IsReplayReport names name limits classes text) (IsReport (Replay main journal steps args names) files) refusal report_is said) by
