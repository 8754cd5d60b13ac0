-- The promises where the work ends before anything is written.
use Rattle.std.proofs.Common.{◌≡◌, ◌⊎◌, ◌<◌, ◌≤◌, ℕ, List, Option, Some, None, refl, sym, subst, inl, inr, arith}
use Rattle.kilim_outside.specs.declared.folder.FailedCall.{FailedCall}
use Rattle.kilim_outside.specs.Files.{Files}
use Rattle.kilim_command.specs.grammar.Words.{Request, files_read}
use Rattle.kilim_command.specs.Reads.{OneFailed}
use Rattle.kilim_top.specs.Outcome.{CanBegin, FailedAtMost, HasReport, IsFit, Outside, Promises, shown}
use Rattle.kilim_top.proofs.TopLaws.{not_still, some_work}

below : {A : Type 0} (m n : ℕ) → m < n → m ≡ n → A
below m n lt e = absurd (omega (arith, lt, e))

above : {A : Type 0} (m n : ℕ) → n < m → m ≡ n → A
above m n lt e = absurd (omega (arith, lt, e))

-- neither done nor reported
not_written : {A : Type 0} (status : ℕ) → 1 < status → (status ≡ 0) ⊎ (status ≡ 1) → A
not_written status lt (inl e) = absurd (omega (arith, lt, e))
not_written status lt (inr e) = absurd (omega (arith, lt, e))

-- ---- the words aren't in the grammar

no_fit : (contents : Option Files) → IsFit contents None → ⊥
no_fit None fit = fit
no_fit (Some held) fit = fit

no_report : (contents : Option Files) → HasReport contents None → ⊥
no_report None has = has
no_report (Some held) has = has

no_begin : (contents : Option Files) → CanBegin contents None → ⊥
no_begin None can = can
no_begin (Some held) can = can

refused_words : (old : Outside) → Promises None old old 2
refused_words old = record {
  known = let few : 2 ≤ 5 = omega arith in few;
  usage = (λ e. refl, λ e. refl);
  whole = λ e. above 2 0 (omega arith) e;
  report = λ e. above 2 1 (omega arith) e;
  only_unread = λ e. below 2 3 (omega arith) e;
  nothing = λ e. refl;
  only_unwritten = λ e. below 2 4 (omega arith) e;
  memory = λ e. below 2 5 (omega arith) e;
  sink_is_quiet = λ e. refl;
  folder_is_quiet = λ e. refl;
  contents = λ e. refl;
  calls = inl refl;
  complete = λ fit still calm. absurd (no_fit old.contents fit);
  reported = λ has still calm. absurd (no_report old.contents has);
  saved = λ can still calm. absurd (no_begin old.contents can);
}

pub not_in_grammar : (request : Option Request) (old : Outside) → request ≡ None → Promises request old old 2
not_in_grammar request old e = subst (λ (r : Option Request). Promises r old old 2) (sym e) (refused_words old)

-- ---- the files aren't read, or memory is short

pub short : (work : Request) (contents now_contents : Option Files) (failed now_failed : List FailedCall) (written : Option (List ℕ)) (faults : ℕ) → now_contents ≡ contents →
    FailedAtMost (Some work) (shown contents failed written faults) (shown now_contents now_failed written faults) → Promises (Some work) (shown contents failed written faults) (shown now_contents now_failed written faults) 5
short work contents now_contents failed now_failed written faults kept calls = record {
  known = let few : 5 ≤ 5 = omega arith in few;
  usage = (λ e. above 5 2 (omega arith) e, λ e. absurd (some_work work e));
  whole = λ e. above 5 0 (omega arith) e;
  report = λ e. above 5 1 (omega arith) e;
  only_unread = λ e. above 5 3 (omega arith) e;
  nothing = λ e. refl;
  only_unwritten = λ e. above 5 4 (omega arith) e;
  memory = λ e. inl (kept, refl);
  sink_is_quiet = λ e. refl;
  folder_is_quiet = λ e. not_written 5 (omega arith) e;
  contents = λ e. kept;
  calls = calls;
  complete = λ fit still calm. inr refl;
  reported = λ has still calm. inr refl;
  saved = λ can still calm. inl (inr refl);
}

own_call : (work : Request) (names : List (List ℕ)) (contents now_contents : Option Files) (failed now_failed : List FailedCall) (written : Option (List ℕ)) (faults : ℕ) → names ≡ files_read work →
    (now_failed ≡ failed) ⊎ OneFailed names failed now_failed → FailedAtMost (Some work) (shown contents failed written faults) (shown now_contents now_failed written faults)
own_call work names contents now_contents failed now_failed written faults named (inl same) = inl same
own_call work names contents now_contents failed now_failed written faults named (inr one) = inr (inl (subst (λ (ns : List (List ℕ)). OneFailed ns failed now_failed) named one))

pub read_short : (work : Request) (names : List (List ℕ)) (contents now_contents : Option Files) (failed now_failed : List FailedCall) (written : Option (List ℕ)) (faults : ℕ) → names ≡ files_read work → now_contents ≡ contents →
    (now_failed ≡ failed) ⊎ OneFailed names failed now_failed → Promises (Some work) (shown contents failed written faults) (shown now_contents now_failed written faults) 5
read_short work names contents now_contents failed now_failed written faults named kept own =
    short work contents now_contents failed now_failed written faults kept (own_call work names contents now_contents failed now_failed written faults named own)

pub not_read : (work : Request) (names : List (List ℕ)) (contents now_contents : Option Files) (failed now_failed : List FailedCall) (written : Option (List ℕ)) (faults : ℕ) → names ≡ files_read work → now_contents ≡ contents →
    OneFailed names failed now_failed → Promises (Some work) (shown contents failed written faults) (shown now_contents now_failed written faults) 3
not_read work names contents now_contents failed now_failed written faults named kept one =
    let of_work = subst (λ (ns : List (List ℕ)). OneFailed ns failed now_failed) named one in
    record {
      known = let few : 3 ≤ 5 = omega arith in few;
      usage = (λ e. above 3 2 (omega arith) e, λ e. absurd (some_work work e));
      whole = λ e. above 3 0 (omega arith) e;
      report = λ e. above 3 1 (omega arith) e;
      only_unread = λ e. of_work;
      nothing = λ e. refl;
      only_unwritten = λ e. below 3 4 (omega arith) e;
      memory = λ e. below 3 5 (omega arith) e;
      sink_is_quiet = λ e. refl;
      folder_is_quiet = λ e. not_written 3 (omega arith) e;
      contents = λ e. kept;
      calls = inr (inl of_work);
      complete = λ fit still calm. absurd (not_still now_failed failed _ of_work.2 still);
      reported = λ has still calm. absurd (not_still now_failed failed _ of_work.2 still);
      saved = λ can still calm. absurd (not_still now_failed failed _ of_work.2 still);
    }

-- the words ask for this work
pub asked_for : (request : Option Request) (work : Request) (old new : Outside) (status : ℕ) → Some work ≡ request → Promises (Some work) old new status → Promises request old new status
asked_for request work old new status e p = subst (λ (r : Option Request). Promises r old new status) e p
