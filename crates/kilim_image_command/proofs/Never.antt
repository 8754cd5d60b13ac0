-- What can be done isn't reported.
use Rattle.std.proofs.Common.{◌≡◌, ◌≤◌, ◌<◌, ℕ, true, List, Option, Some, sym, ap, subst, ◌∙◌, inl, inr, arith, length}
use Rattle.kilim_command.specs.Report.{utf16_of}
use Rattle.kilim_command.specs.Words.{limits_of}
use Rattle.kilim_image.specs.Laws.{OneImage}
use Rattle.kilim_image.specs.declared.image.Run.{Run}
use Rattle.kilim_program.specs.Members.{is_fit_main}
use Rattle.kilim_program.specs.Names.{class_named}
use Rattle.kilim_program.specs.Program.{Program}
use Rattle.kilim_program.specs.declared.names.ClassId.{ClassId}
use Rattle.kilim_run.specs.Runs.{IsCourseOf, setting_of}
use Rattle.kilim_run_follow.specs.Follow.{DiffersAt}
use Rattle.kilim_run_follow.proofs.Journals.{never_differs}
use Rattle.kilim_run_journal.specs.declared.entry.Entry.{Entry}
use Rattle.kilim_run_state.specs.declared.run.Limits.{Limits}
use Rattle.kilim_stages.specs.Laws.{OneProgramOf}
use Rattle.kilim_stages.specs.ProgramOf.{IsProgramOf}
use Rattle.kilim_stages.specs.woven_stage.Laws.{WovenIsNotReported}
use Rattle.kilim_image_command.specs.Laws.{NeverBegunAndReported, NeverGoneOnAndReported, NeverSavedAndReported}
use Rattle.kilim_image_command.specs.Programs.{IsStart, IsStartReport, names_from}
use Rattle.kilim_image_command.specs.Resuming.{CanGoOn, IsDiffersReport, IsPartsReport, setting_in}
use Rattle.kilim_image_command.specs.Saving.{CanBeSaved, IsTooLarge}

pub begun : OneProgramOf → WovenIsNotReported → NeverBegunAndReported
begun one woven names name files report p main start (inl stage) = woven names files report p start.accepted start.weavable (inl stage)
begun one woven names name files report p main start (inr (inl method)) = woven names files report p start.accepted start.weavable (inr method)
begun one woven names name files report p main start (inr (inr other)) =
    let same = one files p other.program start.accepted.of_files other.accepted.of_files in
    other.none main (subst (λ (q : Program). class_named q name ≡ Some main) same start.named) (subst (λ (q : Program). is_fit_main q main ≡ true) same start.fit)

some_is : (a b : ClassId) → Some a ≡ Some b → a ≡ b
some_is a b e = cc

-- the main class of a name
one_class : (p q : Program) (name other : List ℕ) (a b : ClassId) → p ≡ q → name ≡ other → class_named p name ≡ Some a → class_named q other ≡ Some b → a ≡ b
one_class p q name other a b same named is also = some_is a b (sym is ∙ (ap (λ (r : Program). class_named r name) same ∙ (ap (λ (n : List ℕ). class_named q n) named ∙ also)))

-- ---- an image that isn't too large

course_of : (p q : Program) (a b : ClassId) (limits : Limits) (few : ℕ) (es : List Entry) → p ≡ q → a ≡ b → IsCourseOf (setting_of p a limits) few es → IsCourseOf (setting_of q b limits) few es
course_of p q a b limits few es same class course =
    subst (λ (r : Program). IsCourseOf (setting_of r b limits) few es) same (subst (λ (c : ClassId). IsCourseOf (setting_of p c limits) few es) class course)

not_large : OneProgramOf → (main : List ℕ) (limits : Limits) (few : ℕ) (files : List (List ℕ)) (report : List ℕ) → CanBeSaved main limits few files → IsTooLarge main limits few files report → ⊥
not_large one main limits few files report can large =
    let here = large.here in
    let same = one files here.program can.program here.start.accepted.of_files can.start.accepted.of_files in
    let class = one_class here.program can.program (utf16_of main) (utf16_of main) here.class can.class same (λ i. utf16_of main) here.start.named can.start.named in
    let small = can.small large.journal (course_of here.program can.program here.class can.class limits few large.journal same class here.course) in
    let is = large.size.is in
    let many = large.size.many in
    omega (arith, small, is, many)

pub saved : OneProgramOf → NeverBegunAndReported → NeverSavedAndReported
saved one law names main limits few files report can (inl stage) = law names (utf16_of main) files report can.program can.class can.start stage
saved one law names main limits few files report can (inr large) = not_large one main limits few files report can large

-- ---- a journal that leads to a state

differs_of : (p q : Program) (a b : ClassId) (r s : Run) (js ks : List Entry) (n : ℕ) → p ≡ q → a ≡ b → r ≡ s → js ≡ ks → DiffersAt (setting_of p a (limits_of r.steps r.args)) js n → DiffersAt (setting_of q b (limits_of s.steps s.args)) ks n
differs_of p q a b r s js ks n same class run journal d =
    subst (λ (x : Program). DiffersAt (setting_of x b (limits_of s.steps s.args)) ks n) same
    (subst (λ (x : ClassId). DiffersAt (setting_of p x (limits_of s.steps s.args)) ks n) class
    (subst (λ (x : Run). DiffersAt (setting_of p a (limits_of x.steps x.args)) ks n) run (subst (λ (xs : List Entry). DiffersAt (setting_of p a (limits_of r.steps r.args)) xs n) journal d)))

module _ (images : OneImage) (one : OneProgramOf) (law : NeverBegunAndReported) (bytes report : List ℕ) (can : CanGoOn bytes) where
  not_parts : IsPartsReport bytes report → ⊥
  not_parts parts =
      let own = can.image in
      let same = images parts.run parts.journal own.run own.journal parts.is.fits own.is.fits (sym parts.is.spelled ∙ own.is.spelled) in
      law (names_from 1 own.run.files) (utf16_of own.run.main) own.run.files report own.program own.class own.start
      (subst (λ (r : Run). IsStartReport (names_from 1 r.files) (utf16_of r.main) r.files report) same.0 parts.start)

  not_other : IsDiffersReport bytes report → ⊥
  not_other d =
      let own = can.image in
      let its = d.image in
      let same = images its.run its.journal own.run own.journal its.is.fits own.is.fits (sym its.is.spelled ∙ own.is.spelled) in
      let program = one own.run.files its.program own.program (subst (λ (r : Run). IsProgramOf r.files its.program) same.0 its.start.accepted.of_files) own.start.accepted.of_files in
      let class = one_class its.program own.program (utf16_of its.run.main) (utf16_of own.run.main) its.class own.class program (ap (λ (r : Run). utf16_of r.main) same.0) its.start.named own.start.named in
      never_differs (setting_in own) own.journal d.number can.came (differs_of its.program own.program its.class own.class its.run own.run its.journal own.journal d.number program class same.0 same.1 d.differs)

pub gone_on : OneImage → OneProgramOf → NeverBegunAndReported → NeverGoneOnAndReported
gone_on images one law bytes report can (inl fault) = fault.none can.image.run can.image.journal can.image.is
gone_on images one law bytes report can (inr (inl parts)) = not_parts images one law bytes report can parts
gone_on images one law bytes report can (inr (inr d)) = not_other images one law bytes report can d
