-- From what the top call promises to the main sentence.
use Rattle.std.proofs.Common.{◌≡◌, ◌⊎◌, ℕ, ℤ, List, [], ◌∷◌, ◌++◌, take, Option, Some, None, refl, sym, ap, subst, ◌∙◌}
use Rattle.std.specs.Prelude.{IfSome}
use Rattle.kilim_outside.specs.Files.{Files, content_of, file_limit}
use Rattle.kilim_command.specs.Reads.{WereRead}
use Rattle.kilim_command.specs.Words.{limits_of}
use Rattle.kilim_command.specs.grammar.Words.{Request, Run, files_read}
use Rattle.kilim_top.specs.Outcome.{IsDone, IsFit, IsWholeRun, Promises, WroteText, shown}
use Rattle.kilim_headline.specs.Headline.{EndsWell, Headline, IsMade, texts}

read_is : (held : Files) (names files : List (List ℕ)) → WereRead (Some held) names files → files ≡ texts held names
read_is held [] [] were = refl
read_is held (n ∷ names) (b ∷ files) were = ap (λ (t : List ℕ). t ∷ files) were.0 ∙ ap (λ (ts : List (List ℕ)). take file_limit (content_of held n) ∷ ts) (read_is held names files were.1)
read_is held [] (b ∷ files) were = absurd were
read_is held (n ∷ names) [] were = absurd were

some_work : (a b : Request) → Some a ≡ Some b → a ≡ b
some_work a b e = cc

some_text : (a b : List ℕ) → Some a ≡ Some b → a ≡ b
some_text a b e = cc

whole : (main : List ℕ) (steps : ℕ) (args : List ℤ) (files : List (List ℕ)) (text : List ℕ) → IsWholeRun main (limits_of steps args) files text → Headline main steps args files text
whole main steps args files text run = (run.program, run.class, run.journal, run.accepted, run.named, run.whole, run.is_text, λ live counts schedule. run.isolated live counts schedule)

module _ (request : Option Request) (held : Files) (now : Option Files) (old new : List ℕ) where
  wrote : (main : List ℕ) (workers steps : ℕ) (args : List ℤ) (names : List (List ℕ)) → request ≡ Some (Run main workers steps args names) → WroteText request (shown (Some held) [] (Some old) 0) (shown now [] (Some new) 0) →
      (text : List ℕ) × (new ≡ old ++ text) × Headline main steps args (texts held names) text
  wrote main workers steps args names asked w =
      let same = some_work w.work (Run main workers steps args names) (sym w.asked ∙ asked) in
      let done = subst (λ (work : Request). IsDone work w.files w.made w.text) same w.done in
      let are = read_is held names w.files (subst (λ (work : Request). WereRead (Some held) (files_read work) w.files) same w.were_read) in
      (w.text, some_text new (old ++ w.text) w.written, subst (λ (files : List (List ℕ)). Headline main steps args files w.text) are (whole main steps args w.files w.text done.1))

  pub ends : (result : Option ℕ) → IfSome result (λ status. Promises request (shown (Some held) [] (Some old) 0) (shown now [] (Some new) 0) status) → EndsWell request held old new result
  ends None p main workers steps args names asked zero = absurd (cc)
  ends (Some status) p main workers steps args names asked zero =
      wrote main workers steps args names asked (p.whole (some_status status 0 zero))
    where
      some_status : (a b : ℕ) → Some a ≡ Some b → a ≡ b
      some_status a b e = cc

pub made : (request : Option Request) (held : Files) (result : Option ℕ) → (IsFit (Some held) request → (result ≡ None) ⊎ ((result ≡ Some 0) ⊎ (result ≡ Some 5))) → IsMade request held result
made request held result complete main workers steps args names program class asked accepted weavable named fit =
    complete (subst (λ (r : Option Request). IsFit (Some held) r) (sym asked) (record { program = program; accepted = accepted; weavable = weavable; class = class; named = named; fit = fit }))
