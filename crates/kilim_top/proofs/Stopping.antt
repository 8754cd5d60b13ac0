-- What is answered where a run is saved, and where it goes on.
use Rattle.std.proofs.Common.{◌≡◌, ◌≤◌, ◌∙◌, ℕ, ℤ, zero, suc, List, [], ◌∷◌, get_or, length, Result, Ok, Err, refl, sym, ap, subst, inl, inr, arith, Vec}
use Rattle.std.specs.Prelude.{IfOk}
use Rattle.std.specs.declared.alloc.Global.{Global}
use Rattle.kilim_units.specs.declared.memory.NoMemory.{NoMemory}
use Rattle.kilim_command.specs.Words.{limits_of}
use Rattle.kilim_command.specs.grammar.Words.{Request, Save, Resume}
use Rattle.kilim_image_command.specs.Resuming.{CanGoOn, IsDiffersLine, IsGoneOn, IsImage, IsImageReport, IsStopped, setting_in}
use Rattle.kilim_image_command.specs.Saving.{IsSaveReport, IsSavedRun}
use Rattle.kilim_image_command.specs.declared.resuming.Stopped.{Stopped}
use Rattle.kilim_image_command.specs.declared.saving.Saved.{Saved}
use Rattle.kilim_run.specs.Runs.{setting_of}
use Rattle.kilim_run_journal.specs.declared.entry.Entry.{Entry}
use Rattle.kilim_run_model.specs.State.{Setting}
use Rattle.kilim_run_state.specs.declared.run.Limits.{Limits}
use Rattle.kilim_stages.specs.Parts.{IfReport, Refused}
use Rattle.kilim_stages.specs.declared.refusal.Refusal.{Refusal}
use Rattle.kilim_stages.specs.declared.refusal.Refusal.TheVariants as refusal
use Rattle.kilim_weave_file_command.specs.Laws.{AcceptedFilesAreIsolated}
use Rattle.kilim_top.specs.declared.answer.Ready.{Ready}
use Rattle.kilim_top.specs.declared.answer.Ready.TheVariants as ready
use Rattle.kilim_top.specs.declared.answer.Reply.{Reply}
use Rattle.kilim_top.specs.Inside.Answer.{IsAnsweredBy, IsReadyFor, IsRefusedBy, IsReplyFor, IsSavedReady, IsToResume}
use Rattle.kilim_top.specs.Outcome.{IsDone, IsReport, IsSave, first_text}
use Rattle.kilim_top.proofs.Replies.{refused_as, refused_ready}

-- ---- a run is saved

module _ (law : AcceptedFilesAreIsolated) (main image : List ℕ) (entries steps : ℕ) (args : List ℤ) (names files : List (List ℕ)) (limits : Limits) (limited : limits ≡ limits_of steps args) where
  saved_one : length files ≤ 1000 → (saved : Saved) (r : Ready) → IsSavedRun main (limits_of steps args) entries files saved.image.items saved.text.items → IsSavedReady image saved r → IsReadyFor (Save main image entries steps args names) files r
  saved_one few saved (ready.Reply reply) is h =
      let run = subst (λ (t : List ℕ). IsSavedRun main (limits_of steps args) entries files saved.image.items t) (sym h.1.1) is in
      inl (
        h.0,
        record {
          bytes = saved.image.items;
          made_is = h.1.0;
          saved = run;
          isolated = λ live sound. law files run.here.program few run.here.start.accepted run.here.class run.here.start.fit (limits_of steps args) live sound;
        },
      )
  saved_one few saved (ready.Run plain woven class l) is h = absurd h
  saved_one few saved (ready.Resume stopped) is h = absurd h

  pub saved_ready : length files ≤ 1000 → (saved : Saved) (r : Result Ready NoMemory) → IsSavedRun main limits entries files saved.image.items saved.text.items → IfOk r (IsSavedReady image saved) → IfOk r (IsReadyFor (Save main image entries steps args names) files)
  saved_ready few saved (Ok r) is h = saved_one few saved r (subst (λ (l : Limits). IsSavedRun main l entries files saved.image.items saved.text.items) limited is) h
  saved_ready few saved (Err e) is h = tt

  pub refused_save : (refusal : Refusal) (r : Result Ready NoMemory) → Refused refusal (IsSaveReport names main limits entries files) → IfOk r (IsRefusedBy refusal) → IfOk r (IsReadyFor (Save main image entries steps args names) files)
  refused_save refusal r said by =
      refused_ready (Save main image entries steps args names) files refusal r
      (refused_as (IsSaveReport names main limits entries files) (IsReport (Save main image entries steps args names) files) refusal (λ text report. subst (λ (l : Limits). IsSaveReport names main l entries files text) limited report) said) by

-- ---- a run goes on

one_text : (files : List (List ℕ)) (bytes : List ℕ) → length files ≡ 1 → bytes ≡ get_or files 0 bytes → first_text files ≡ bytes
one_text [] bytes one is = absurd (omega (arith, one))
one_text (f ∷ files) bytes one is = sym is

module _ (law : AcceptedFilesAreIsolated) (image : List ℕ) (workers : ℕ) (files : List (List ℕ)) (stopped : Stopped) (is : IsStopped (first_text files) stopped) where
  abbrev own : Setting
  own = setting_of stopped.plain stopped.main stopped.limits

  gone : (text : List ℕ) → IsGoneOn own stopped.journal.items text → IsGoneOn (setting_in is.image) is.image.journal text
  gone text on = subst (λ (s : Setting). IsGoneOn s is.image.journal text) is.set (subst (λ (js : List Entry). IsGoneOn own js text) is.journal on)

  differs : (text : List ℕ) → IsDiffersLine own stopped.journal.items text → IsDiffersLine (setting_in is.image) is.image.journal text
  differs text line = subst (λ (s : Setting). IsDiffersLine s is.image.journal text) is.set (subst (λ (js : List Entry). IsDiffersLine own js text) is.journal line)

  went_on : (text : List ℕ) → IsGoneOn (setting_in is.image) is.image.journal text → IsDone (Resume image workers) files [] text
  went_on text on = (
    refl,
    record {
      resumed = record { can = record { image = is.image; came = on.came }; rest = on.rest; whole = on.whole; is_text = on.is_text };
      isolated = λ live sound. law is.image.run.files is.image.program is.few is.image.start.accepted is.image.class is.image.start.fit (limits_of is.image.run.steps is.image.run.args) live sound;
    },
  )

  said : (text : List ℕ) → IsDiffersLine (setting_in is.image) is.image.journal text → IsReport (Resume image workers) files text
  said text line = inr (inr (record { image = is.image; number = line.number; differs = line.differs; is_text = line.is_text }))

  to_resume : IsToResume (Resume image workers) files stopped
  to_resume = record { served = is.served; done = λ text on. went_on text (gone text on); reported = λ text line. said text (differs text line) }

pub stopped_ready : (law : AcceptedFilesAreIsolated) (image : List ℕ) (workers : ℕ) (files : List (List ℕ)) (bytes : List ℕ) (stopped : Stopped) → length files ≡ 1 → bytes ≡ get_or files 0 bytes → IsStopped bytes stopped → IsToResume (Resume image workers) files stopped
stopped_ready law image workers files bytes stopped one at is = to_resume law image workers files stopped (subst (λ (bs : List ℕ). IsStopped bs stopped) (sym (one_text files bytes one at)) is)

image_report : (image : List ℕ) (workers : ℕ) (files : List (List ℕ)) (text : List ℕ) → IsImageReport (first_text files) text → IsReport (Resume image workers) files text
image_report image workers files text (inl fault) = inl fault
image_report image workers files text (inr parts) = inr (inl parts)

pub refused_resume : (image : List ℕ) (workers : ℕ) (files : List (List ℕ)) (bytes : List ℕ) (refusal : Refusal) (r : Result Ready NoMemory) → length files ≡ 1 → bytes ≡ get_or files 0 bytes → Refused refusal (IsImageReport bytes) → IfOk r (IsRefusedBy refusal) →
    IfOk r (IsReadyFor (Resume image workers) files)
refused_resume image workers files bytes refusal r one at said by =
    refused_ready (Resume image workers) files refusal r
    (refused_as (IsImageReport bytes) (IsReport (Resume image workers) files) refusal (λ text report. image_report image workers files text (subst (λ (bs : List ℕ). IsImageReport bs text) (sym (one_text files bytes one at)) report)) said) by

-- what is answered of a run that went on, or couldn't
went_one : (work : Request) (files : List (List ℕ)) (stopped : Stopped) (a : Result (Vec ℕ Global) Refusal) (reply : Reply) → IsToResume work files stopped → IfOk a (λ text. IsGoneOn (setting_of stopped.plain stopped.main stopped.limits) stopped.journal.items text.items) →
    IfReport a (IsDiffersLine (setting_of stopped.plain stopped.main stopped.limits) stopped.journal.items) → IsAnsweredBy a reply → IsReplyFor work files reply.status reply.files.items reply.text.items
went_one work files stopped (Ok text) reply to on line by =
    let done = to.done text.items on in
    inl (by.0, subst (λ fs. IsDone work files fs reply.text.items) (sym by.1.0) (subst (λ (t : List ℕ). IsDone work files [] t) (sym by.1.1) done))
went_one work files stopped (Err refusal.NoMemory) reply to on line by = absurd by
went_one work files stopped (Err (refusal.Report text)) reply to on line by = inr (by.0, (by.1.0, subst (λ (t : List ℕ). IsReport work files t) (sym by.1.1) (to.reported text.items line)))

pub went : (work : Request) (files : List (List ℕ)) (stopped : Stopped) (a : Result (Vec ℕ Global) Refusal) (r : Result Reply NoMemory) → IsToResume work files stopped → IfOk a (λ text. IsGoneOn (setting_of stopped.plain stopped.main stopped.limits) stopped.journal.items text.items) →
    IfReport a (IsDiffersLine (setting_of stopped.plain stopped.main stopped.limits) stopped.journal.items) → IfOk r (IsAnsweredBy a) → IfOk r (λ reply. IsReplyFor work files reply.status reply.files.items reply.text.items)
went work files stopped a (Ok reply) to on line by = went_one work files stopped a reply to on line by
went work files stopped a (Err e) to on line by = tt
