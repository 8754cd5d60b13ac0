-- What was written of a reply.
use Rattle.std.proofs.Common.{◌≡◌, ◌⊎◌, ℕ, List, [], Some, sym, subst, inl, inr, arith}
use Rattle.kilim_outside.specs.Causes.{Appended}
use Rattle.kilim_stages.specs.Laws.{NeverBoth, OneProgramOf}
use Rattle.kilim_weave_file_command.specs.Laws.{NeverWeavableAndReported}
use Rattle.kilim_command.specs.grammar.Words.{Request, Check, Weave, Run, Replay, Save, Resume, Demo}
use Rattle.kilim_image_command.specs.Laws.{NeverBegunAndReported, NeverGoneOnAndReported, NeverSavedAndReported}
use Rattle.kilim_replay_command.specs.Laws.{NeverWholeAndReported}
use Rattle.kilim_stages.specs.woven_stage.Laws.{WovenIsNotReported}
use Rattle.kilim_outside.specs.written.OutputFile.{OutputFile}
use Rattle.kilim_outside.specs.written.Written.{HaveOwnPaths, WroteFiles}
use Rattle.kilim_top.specs.Inside.Answer.{IsReplyFor}
use Rattle.kilim_top.specs.Inside.Respond.{Responded}
use Rattle.kilim_command.specs.Report.{utf16_of}
use Rattle.kilim_top.specs.Outcome.{AsksForFiles, HowFar, IsBegun, IsDone, IsFault, IsLarge, IsReport, IsToWrite, Outside}
use Rattle.kilim_top.proofs.Replies.{never, undone}

-- ---- what a reply has to be written

pub to_write : (work : Request) (files : List (List ℕ)) (status : ℕ) (made : List OutputFile) (text : List ℕ) → IsReplyFor work files status made text → IsToWrite work files made text
to_write work files status made text (inl done) = inl done.1
to_write work files status made text (inr report) = inr report.1

no_paths : (made : List OutputFile) → made ≡ [] → HaveOwnPaths made
no_paths made e = subst HaveOwnPaths (sym e) tt

paths_of_done : (work : Request) (files : List (List ℕ)) (made : List OutputFile) (text : List ℕ) → IsDone work files made text → HaveOwnPaths made
paths_of_done (Check names) files made text done = no_paths made done.0
paths_of_done (Weave to names) files made text done = done.weaving.own_paths
paths_of_done (Run main workers steps args names) files made text done = no_paths made done.0
paths_of_done (Replay main journal steps args names) files made text done = no_paths made done.0
paths_of_done (Save main image entries steps args names) files made text done = subst HaveOwnPaths (sym done.made_is) (tt, tt)
paths_of_done (Resume image workers) files made text done = no_paths made done.0
paths_of_done (Demo number workers) files made text done = no_paths made done.0

own_paths : (work : Request) (files : List (List ℕ)) (made : List OutputFile) (text : List ℕ) → IsToWrite work files made text → HaveOwnPaths made
own_paths work files made text (inl done) = paths_of_done work files made text done
own_paths work files made text (inr report) = no_paths made report.0

pub reply_paths : (work : Request) (files : List (List ℕ)) (status : ℕ) (made : List OutputFile) (text : List ℕ) → IsReplyFor work files status made text → HaveOwnPaths made
reply_paths work files status made text reply = own_paths work files made text (to_write work files status made text reply)

none_done : (work : Request) (files : List (List ℕ)) (made : List OutputFile) (text : List ℕ) → IsDone work files made text → (AsksForFiles (Some work) → ⊥) → made ≡ []
none_done (Check names) files made text done none = done.0
none_done (Weave to names) files made text done none = absurd (none tt)
none_done (Run main workers steps args names) files made text done none = done.0
none_done (Replay main journal steps args names) files made text done none = done.0
none_done (Save main image entries steps args names) files made text done none = absurd (none tt)
none_done (Resume image workers) files made text done none = done.0
none_done (Demo number workers) files made text done none = done.0

no_files : (work : Request) (files : List (List ℕ)) (made : List OutputFile) (text : List ℕ) → IsToWrite work files made text → (AsksForFiles (Some work) → ⊥) → made ≡ []
no_files work files made text (inl done) none = none_done work files made text done none
no_files work files made text (inr report) none = report.0

pub reply_as : (work : Request) (files : List (List ℕ)) (status : ℕ) (made of : List OutputFile) (text from : List ℕ) → made ≡ of → text ≡ from → IsReplyFor work files status of from → IsReplyFor work files status made text
reply_as work files status made of text from same_files same_text reply =
    subst (λ (fs : List OutputFile). IsReplyFor work files status fs text) (sym same_files) (subst (λ (bs : List ℕ). IsReplyFor work files status of bs) (sym same_text) reply)

-- where the run that is to be saved can be begun, the report is that its image is too large
large_in : NeverBegunAndReported → (work : Request) (files : List (List ℕ)) (text : List ℕ) → IsBegun work files → IsReport work files text → IsLarge work files text
large_in law (Check names) files text is report = absurd is
large_in law (Weave to names) files text is report = absurd is
large_in law (Run main workers steps args names) files text is report = absurd is
large_in law (Replay main journal steps args names) files text is report = absurd is
large_in law (Save main image entries steps args names) files text is (inl start) = absurd (law names (utf16_of main) files text is.0 is.1 is.2 start)
large_in law (Save main image entries steps args names) files text is (inr large) = large
large_in law (Resume image workers) files text is report = absurd is
large_in law (Demo number workers) files text is report = absurd is

-- ---- at each status

either : {A B : Type 0} → A ⊎ B → (A → ⊥) → (B → ⊥) → ⊥
either (inl a) f g = f a
either (inr b) f g = g b

zero_one : (n : ℕ) → n ≡ 0 → n ≡ 1 → ⊥
zero_one n a b = omega (arith, a, b)

module _ (work : Request) (files : List (List ℕ)) (made : List OutputFile) (text : List ℕ) (old new : Outside) where
  abbrev Stays : Type 0
  Stays = made ≡ [] → new.contents ≡ old.contents

  -- where the words ask for no files
  kept : {A : Type 0} → IsToWrite work files made text → Stays → (A → ⊥) → (AsksForFiles (Some work) → ⊥) ⊎ A → new.contents ≡ old.contents
  kept to stays other (inl none) = stays (no_files work files made text to none)
  kept to stays other (inr a) = absurd (other a)

  unwritten : IsToWrite work files made text → (how : HowFar made text old new) → IsFault made text old new how → Stays → Responded work files old new 4
  unwritten to how fault stays = record {
    known = omega arith;
    not_usage = λ e. omega (arith, e);
    not_unread = λ e. omega (arith, e);
    whole = λ e. absurd (omega (arith, e));
    report = λ e. absurd (omega (arith, e));
    write = λ e. (record { made = made; text = text; to_write = to; how_far = how }, fault);
    memory = λ e. absurd (omega (arith, e));
    fit = λ e. absurd (omega (arith, e));
    large = λ e. absurd (omega (arith, e));
    unreported = λ e. absurd (omega (arith, e));
    quiet = λ e. absurd (either e (λ z. omega (arith, z)) (λ z. omega (arith, z)));
    failed = λ e. absurd (either e (λ z. omega (arith, z)) (λ z. omega (arith, z)));
    contents = kept to stays (λ e. omega (arith, e));
  }

  short : IsToWrite work files made text → HowFar made text old new → Stays → Responded work files old new 5
  short to how stays = record {
    known = omega arith;
    not_usage = λ e. omega (arith, e);
    not_unread = λ e. omega (arith, e);
    whole = λ e. absurd (omega (arith, e));
    report = λ e. absurd (omega (arith, e));
    write = λ e. absurd (omega (arith, e));
    memory = λ e. record { made = made; text = text; to_write = to; how_far = how };
    fit = λ e. absurd (omega (arith, e));
    large = λ e. absurd (omega (arith, e));
    unreported = λ e. absurd (omega (arith, e));
    quiet = λ e. absurd (either e (λ z. omega (arith, z)) (λ z. omega (arith, z)));
    failed = λ e. absurd (either e (λ z. omega (arith, z)) (λ z. omega (arith, z)));
    contents = kept to stays (λ e. omega (arith, e));
  }

  module _ (both : NeverBoth) (one : OneProgramOf) (weavable : NeverWeavableAndReported) (replays : NeverWholeAndReported) (woven : WovenIsNotReported) (begun : NeverBegunAndReported) (saves : NeverSavedAndReported) (goes : NeverGoneOnAndReported) (status : ℕ) where
    done_at : status ≡ 0 → IsDone work files made text → WroteFiles made old.contents new.contents → new.failed ≡ old.failed → new.faults ≡ old.faults → Appended old.written new.written text → Stays → Responded work files old new status
    done_at is done were_made failed quiet written stays = record {
      known = omega (arith, is);
      not_usage = λ e. omega (arith, is, e);
      not_unread = λ e. omega (arith, is, e);
      whole = λ e. record { made = made; text = text; done = done; were_made = were_made; written = written };
      report = λ e. absurd (zero_one status is e);
      write = λ e. absurd (omega (arith, is, e));
      memory = λ e. absurd (omega (arith, is, e));
      fit = λ e fit. zero_one status is e;
      large = λ e begins. absurd (zero_one status is e);
      unreported = λ e other fault. undone both one weavable replays woven begun saves goes work files made text other done fault;
      quiet = λ e. quiet;
      failed = λ e. failed;
      contents = kept (inl done) stays (zero_one status is);
    }

    reported_at : status ≡ 1 → made ≡ [] → IsReport work files text → new.failed ≡ old.failed → new.faults ≡ old.faults → Appended old.written new.written text → Stays → Responded work files old new status
    reported_at is none report failed quiet written stays = record {
      known = omega (arith, is);
      not_usage = λ e. omega (arith, is, e);
      not_unread = λ e. omega (arith, is, e);
      whole = λ e. absurd (zero_one status e is);
      report = λ e. record { text = text; report = report; written = written };
      write = λ e. absurd (omega (arith, is, e));
      memory = λ e. absurd (omega (arith, is, e));
      fit = λ e fit. never both one weavable replays woven begun saves goes work files text fit report;
      large = λ e begins. (text, large_in begun work files text begins report, written);
      unreported = λ e. absurd (zero_one status e is);
      quiet = λ e. quiet;
      failed = λ e. failed;
      contents = λ e. stays none;
    }

    pub responded_whole : IsReplyFor work files status made text → WroteFiles made old.contents new.contents → new.failed ≡ old.failed → new.faults ≡ old.faults → Appended old.written new.written text → Stays → Responded work files old new status
    responded_whole (inl done) were_made failed quiet written stays = done_at done.0 done.1 were_made failed quiet written stays
    responded_whole (inr report) were_made failed quiet written stays = reported_at report.0 report.1.0 report.1.1 failed quiet written stays

  pub responded_unwritten : (status : ℕ) → IsReplyFor work files status made text → (how : HowFar made text old new) → IsFault made text old new how → Stays → Responded work files old new 4
  responded_unwritten status reply how fault stays = unwritten (to_write work files status made text reply) how fault stays

  pub responded_short : (status : ℕ) → IsReplyFor work files status made text → HowFar made text old new → Stays → Responded work files old new 5
  responded_short status reply how stays = short (to_write work files status made text reply) how stays
