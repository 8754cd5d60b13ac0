-- From the bytes that were read to what the folder held.
use Rattle.std.proofs.Common.{◌≡◌, ℕ, zero, suc, ◌≤◌, arith, List, [], ◌∷◌, ◌++◌, length, length-append, Option, Some, None, refl, sym, ap, subst, ◌∙◌, inl, inr, ◌⊎◌, slice_index_or}
use Rattle.std.specs.Prelude.{Contains}
use Rattle.kilim_outside.specs.Causes.{Rose}
use Rattle.kilim_outside.specs.declared.folder.FailedCall.{FailedCall}
use Rattle.kilim_outside.specs.declared.folder.FailedCall.TheVariants.{Write}
use Rattle.kilim_outside.specs.Files.{Files}
use Rattle.kilim_command.specs.grammar.Words.{Request, Check, Weave, Run, Replay, Save, Resume, Demo, files_read}
use Rattle.kilim_outside.specs.written.OutputFile.{OutputFile}
use Rattle.kilim_top.specs.Inside.Respond.{Wrote0, Wrote1, WroteFrontOf, Responded}
use Rattle.kilim_command.specs.Reads.{WereRead}
use Rattle.kilim_top.specs.Outcome.{AsksForFiles, CanBegin, FailedAtMost, HasReport, HowFar, InFiles, InText, IsBegun, IsDone, IsFault, IsFit, IsFitFor, IsReport, IsStageFault, IsToWrite, Outside, Promises, WriteFailed, WroteFront, WroteLarge, WroteReport, WroteSomeFiles, WroteText, read_of, shown}

length_read : (contents : Option Files) (names files : List (List ℕ)) → WereRead contents names files → length names ≡ length files
length_read contents [] [] were = refl
length_read contents (n ∷ names) (b ∷ files) were = ap suc (length_read contents names files were.1)
length_read contents [] (b ∷ files) were = absurd were
length_read contents (n ∷ names) [] were = absurd were

pub were_read_as : (contents : Option Files) (names asked : List (List ℕ)) (files read : List (List ℕ)) → names ≡ asked → read ≡ files → WereRead contents names files → WereRead contents asked read
were_read_as contents names asked files read e same were = subst (λ (ns : List (List ℕ)). WereRead contents ns read) e (subst (λ (fs : List (List ℕ)). WereRead contents names fs) (sym same) were)

pub many_read : (contents : Option Files) (names asked files read : List (List ℕ)) → names ≡ asked → read ≡ files → WereRead contents names files → length asked ≡ length read
many_read contents names asked files read e same were = length_read contents asked read (were_read_as contents names asked files read e same were)

read_is : (held : Files) (names files : List (List ℕ)) → WereRead (Some held) names files → read_of held names ≡ files
read_is held [] [] were = refl
read_is held (n ∷ names) (b ∷ files) were = ap (λ (bs : List ℕ). bs ∷ read_of held names) (sym were.0) ∙ ap (λ (bs : List (List ℕ)). b ∷ bs) (read_is held names files were.1)
read_is held [] (b ∷ files) were = absurd were
read_is held (n ∷ names) [] were = absurd were

-- what was written for the bytes, of what was asked
wrote_text : (work : Request) (files : List (List ℕ)) (old new : Outside) → WereRead old.contents (files_read work) files → Wrote0 work files old new → WroteText (Some work) old new
wrote_text work files old new were wrote = record {
  work = work;
  asked = refl;
  files = files;
  were_read = were;
  made = wrote.made;
  text = wrote.text;
  done = wrote.done;
  were_made = wrote.were_made;
  written = wrote.written;
}

wrote_report : (work : Request) (files : List (List ℕ)) (old new : Outside) → WereRead old.contents (files_read work) files → Wrote1 work files old new → WroteReport (Some work) old new
wrote_report work files old new were wrote = record {
  work = work;
  asked = refl;
  files = files;
  were_read = were;
  text = wrote.text;
  report = wrote.report;
  written = wrote.written;
}

wrote_front : (work : Request) (files : List (List ℕ)) (old new : Outside) → WereRead old.contents (files_read work) files → WroteFrontOf work files old new → WroteFront (Some work) old new
wrote_front work files old new were wrote = record {
  work = work;
  asked = refl;
  files = files;
  were_read = were;
  made = wrote.made;
  text = wrote.text;
  to_write = wrote.to_write;
  how_far = wrote.how_far;
}

pub unfit : (contents : Option Files) (work : Request) (files : List (List ℕ)) → WereRead contents (files_read work) files → (IsFitFor work files → ⊥) → IsFit contents (Some work) → ⊥
unfit contents (Demo number workers) files were not_fit fit = not_fit fit
unfit None (Check names) files were not_fit fit = fit
unfit None (Weave to names) files were not_fit fit = fit
unfit None (Run main workers steps args names) files were not_fit fit = fit
unfit None (Replay main journal steps args names) files were not_fit fit = fit
unfit None (Save main image entries steps args names) files were not_fit fit = fit
unfit None (Resume image workers) files were not_fit fit = fit
unfit (Some held) work files were not_fit fit = not_fit (subst (λ (bs : List (List ℕ)). IsFitFor work bs) (read_is held (files_read work) files were) fit)

pub unreported : (contents : Option Files) (work : Request) (files : List (List ℕ)) → WereRead contents (files_read work) files → ((text : List ℕ) → IsStageFault work files text → ⊥) → HasReport contents (Some work) → ⊥
unreported contents (Demo number workers) files were none has = none has.0 has.1
unreported None (Check names) files were none has = has
unreported None (Weave to names) files were none has = has
unreported None (Run main workers steps args names) files were none has = has
unreported None (Replay main journal steps args names) files were none has = has
unreported None (Save main image entries steps args names) files were none has = has
unreported None (Resume image workers) files were none has = has
unreported (Some held) work files were none has = none has.0 (subst (λ (bs : List (List ℕ)). IsStageFault work bs has.0) (read_is held (files_read work) files were) has.1)

begun_of : (contents : Option Files) (work : Request) (files : List (List ℕ)) → WereRead contents (files_read work) files → CanBegin contents (Some work) → IsBegun work files
begun_of None work files were can = absurd can
begun_of (Some held) work files were can = subst (λ (bs : List (List ℕ)). IsBegun work bs) (read_is held (files_read work) files were) can

wrote_large : (work : Request) (files : List (List ℕ)) (old new : Outside) (status : ℕ) → WereRead old.contents (files_read work) files → Responded work files old new status → status ≡ 1 → CanBegin old.contents (Some work) → WroteLarge (Some work) old new
wrote_large work files old new status were r one can =
    let l = r.large one (begun_of old.contents work files were can) in
    record { work = work; asked = refl; files = files; were_read = were; text = l.0; large = l.1; written = l.2 }

-- ---- the promises, at each end of the work

-- one of six
pub six : {A : Type 0} (n : ℕ) → n ≤ 5 → (n ≡ 0 → A) → (n ≡ 1 → A) → (n ≡ 2 → A) → (n ≡ 3 → A) → (n ≡ 4 → A) → (n ≡ 5 → A) → A
six zero le a b c d e f = a refl
six (suc zero) le a b c d e f = b refl
six (suc (suc zero)) le a b c d e f = c refl
six (suc (suc (suc zero))) le a b c d e f = d refl
six (suc (suc (suc (suc zero)))) le a b c d e f = e refl
six (suc (suc (suc (suc (suc zero))))) le a b c d e f = f refl
six (suc (suc (suc (suc (suc (suc n)))))) le a b c d e f = absurd (omega arith)

neither : (n : ℕ) → (n ≡ 2) ⊎ (n ≡ 3) → (n ≡ 2 → ⊥) → (n ≡ 3 → ⊥) → ⊥
neither n (inl e) two three = two e
neither n (inr e) two three = three e

pub some_work : (work : Request) → Some work ≡ None → ⊥
some_work work e = cc

-- ---- the folder's calls

-- one more call was noted
longer : (calls : List FailedCall) (call : FailedCall) → calls ++ call ∷ [] ≡ calls → ⊥
longer calls call e = let n = sym (length-append calls (call ∷ [])) ∙ ap length e in omega (arith, n)

pub not_still : (now calls : List FailedCall) (call : FailedCall) → now ≡ calls ++ call ∷ [] → now ≡ calls → ⊥
not_still now calls call grown same = longer calls call (sym grown ∙ same)

among : (before : List OutputFile) (file : OutputFile) (behind : List OutputFile) → Contains (before ++ file ∷ behind) file
among before file behind = (length before, omega (arith, length-append before (file ∷ behind)), there before)
  where
    there : (front : List OutputFile) → slice_index_or (front ++ file ∷ behind) (length front) file ≡ file
    there [] = refl
    there (f ∷ front) = there front

-- where a file stands among them, it is the work that makes them
made_by : (work : Request) (files : List (List ℕ)) (made : List OutputFile) (text : List ℕ) (file : OutputFile) → IsToWrite work files made text → Contains made file → IsDone work files made text
made_by work files made text file (inl done) is = done
made_by work files made text file (inr report) is = absurd (none made file report.0 is)
  where
    none : (fs : List OutputFile) (f : OutputFile) → fs ≡ [] → Contains fs f → ⊥
    none [] f e is = let lt = is.1 in omega (arith, lt)
    none (g ∷ fs) f e is = cc

file_failed : (work : Request) (files : List (List ℕ)) (old new : Outside) (made : List OutputFile) (text : List ℕ) → WereRead old.contents (files_read work) files → IsToWrite work files made text → (some : WroteSomeFiles made old new) →
    new.failed ≡ old.failed ++ Write some.stopped.file.path ∷ [] → WriteFailed (Some work) old new
file_failed work files old new made text were to_write some failed =
    let is = subst (λ (fs : List OutputFile). Contains fs some.stopped.file) (sym some.stopped.are) (among some.stopped.before some.stopped.file some.stopped.behind) in
    record {
      work = work;
      asked = refl;
      files = files;
      were_read = were;
      made = made;
      text = text;
      done = made_by work files made text some.stopped.file to_write is;
      file = some.stopped.file;
      is = is;
      failed = failed;
    }

own_call : (work : Request) (files : List (List ℕ)) (old new : Outside) (made : List OutputFile) (text : List ℕ) → WereRead old.contents (files_read work) files → IsToWrite work files made text → (some : WroteSomeFiles made old new) →
    (new.failed ≡ old.failed) ⊎ (new.failed ≡ old.failed ++ Write some.stopped.file.path ∷ []) → FailedAtMost (Some work) old new
own_call work files old new made text were to_write some (inl same) = inl same
own_call work files old new made text were to_write some (inr failed) = inr (inr (file_failed work files old new made text were to_write some failed))

calls_by : (work : Request) (files : List (List ℕ)) (old new : Outside) (made : List OutputFile) (text : List ℕ) → WereRead old.contents (files_read work) files → IsToWrite work files made text → HowFar made text old new → FailedAtMost (Some work) old new
calls_by work files old new made text were to_write (InFiles some) = own_call work files old new made text were to_write some some.stopped.own
calls_by work files old new made text were to_write (InText some) = inl some.failed

-- a fault of the outside isn't missed
pub faulty : (made : List OutputFile) (text : List ℕ) (old new : Outside) (how : HowFar made text old new) → IsFault made text old new how → new.failed ≡ old.failed → (Rose old.faults new.faults → ⊥) → ⊥
faulty made text old new (InFiles some) fault still calm = not_still new.failed old.failed (Write some.stopped.file.path) fault still
faulty made text old new (InText some) fault still calm = calm fault

-- what was answered for the bytes was written, or as much of it as could be
responded_at : (work : Request) (files : List (List ℕ)) (old new : Outside) (status : ℕ) → WereRead old.contents (files_read work) files → Responded work files old new status → Promises (Some work) old new status
unfolding wrote_front
responded_at work files old new status were r = record {
  known = r.known;
  usage = (λ e. absurd (r.not_usage e), λ e. absurd (some_work work e));
  whole = λ e. wrote_text work files old new were (r.whole e);
  report = λ e. wrote_report work files old new were (r.report e);
  only_unread = λ e. absurd (r.not_unread e);
  nothing = λ e. absurd (neither status e r.not_usage r.not_unread);
  only_unwritten = λ e. let w = r.write e in (wrote_front work files old new were w.0, w.1);
  memory = λ e. inr (wrote_front work files old new were (r.memory e));
  sink_is_quiet = r.quiet;
  folder_is_quiet = r.failed;
  contents = λ e. r.contents (no_files_at e);
  calls = six status r.known (λ e. inl (r.failed (inl e))) (λ e. inl (r.failed (inr e))) (λ e. absurd (r.not_usage e)) (λ e. absurd (r.not_unread e))
      (λ e. let w = r.write e in calls_by work files old new w.0.made w.0.text were w.0.to_write w.0.how_far) (λ e. let w = r.memory e in calls_by work files old new w.made w.text were w.to_write w.how_far);
  complete = λ fit still calm.
      six status r.known (λ e. inl e) (λ e. absurd (unfit old.contents work files were (r.fit e) fit)) (λ e. absurd (r.not_usage e)) (λ e. absurd (r.not_unread e))
      (λ e. let w = r.write e in absurd (faulty w.0.made w.0.text old new w.0.how_far w.1 still calm)) (λ e. inr e);
  reported = λ has still calm.
      six status r.known (λ e. absurd (unreported old.contents work files were (r.unreported e) has)) (λ e. inl e) (λ e. absurd (r.not_usage e)) (λ e. absurd (r.not_unread e))
      (λ e. let w = r.write e in absurd (faulty w.0.made w.0.text old new w.0.how_far w.1 still calm)) (λ e. inr e);
  saved = λ can still calm.
      six status r.known (λ e. inl (inl e)) (λ e. inr (e, wrote_large work files old new status were r e can)) (λ e. absurd (r.not_usage e)) (λ e. absurd (r.not_unread e))
      (λ e. let w = r.write e in absurd (faulty w.0.made w.0.text old new w.0.how_far w.1 still calm)) (λ e. inl (inr e));
}
  where
    no_files_at : (AsksForFiles (Some work) → ⊥) ⊎ ((status ≡ 1) ⊎ ((status ≡ 2) ⊎ (status ≡ 3))) → (AsksForFiles (Some work) → ⊥) ⊎ (status ≡ 1)
    no_files_at (inl none) = inl none
    no_files_at (inr (inl e)) = inr e
    no_files_at (inr (inr (inl e))) = absurd (r.not_usage e)
    no_files_at (inr (inr (inr e))) = absurd (r.not_unread e)

pub same_outside : (contents now_contents : Option Files) (calls now_calls : List FailedCall) (w : Option (List ℕ)) (n : ℕ) → now_contents ≡ contents → now_calls ≡ calls → shown now_contents now_calls w n ≡ shown contents calls w n
same_outside contents now_contents calls now_calls w n kept same = ap (λ (c : Option Files). shown c now_calls w n) kept ∙ ap (λ (f : List FailedCall). shown contents f w n) same

pub responded : (work : Request) (files : List (List ℕ)) (old mid new : Outside) (status : ℕ) → mid ≡ old → WereRead old.contents (files_read work) files → Responded work files mid new status → Promises (Some work) old new status
responded work files old mid new status same were r = responded_at work files old new status were (subst (λ (o : Outside). Responded work files o new status) same r)
