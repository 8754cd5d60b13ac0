-- Acts, entries and lines at the front of a text.
use Rattle.std.proofs.Common.{◌≡◌, ℕ, ◌<◌, ◌≤◌, List, [], ◌∷◌, ◌++◌, get_or, refl, sym, ap, subst, ◌∙◌, arith}
use Rattle.std.proofs.lemmas.List.{append_cancel_left}
use Rattle.std.specs.Prelude.{◌==◌, if◌then◌else◌}
use Rattle.kilim_run_state.specs.declared.cause.EndCause.{EndCause}
use Rattle.kilim_run_state.specs.declared.cause.EndCause.TheVariants.{Done, Spent, Depth, Null, Index, Size, Large, Cast, Store, Zero, Boxes, Tasks, Full, Thrown}
use Rattle.kilim_run_state.specs.Cause.{word_of}
use Rattle.kilim_run_journal.specs.declared.acts.Word.{Word}
use Rattle.kilim_run_journal.specs.declared.acts.Word.TheVariants as word
use Rattle.kilim_run_journal.specs.declared.entry.Act.{Act}
use Rattle.kilim_run_journal.specs.declared.entry.Act.TheVariants.{Put, Take, Empty, Start, Print, End, Wait, Bound}
use Rattle.kilim_run_journal.specs.Text.{act_text}
use Rattle.kilim_run_journal.specs.Fronts.{word_text, word_of_act, text_behind}
use Rattle.kilim_run_journal.proofs.Journals.{causes}

-- ---- causes

-- a cause in the list of all
pub record Listed (cause : EndCause) : Type 0 where
  pub place : ℕ
  pub within : place < 14
  pub there : get_or causes place Done ≡ cause

pub listed : (cause : EndCause) → Listed cause
listed Done = record { place = 0; within = omega arith; there = refl }
listed Spent = record { place = 1; within = omega arith; there = refl }
listed Depth = record { place = 2; within = omega arith; there = refl }
listed Null = record { place = 3; within = omega arith; there = refl }
listed Index = record { place = 4; within = omega arith; there = refl }
listed Size = record { place = 5; within = omega arith; there = refl }
listed Large = record { place = 6; within = omega arith; there = refl }
listed Cast = record { place = 7; within = omega arith; there = refl }
listed Store = record { place = 8; within = omega arith; there = refl }
listed Zero = record { place = 9; within = omega arith; there = refl }
listed Boxes = record { place = 10; within = omega arith; there = refl }
listed Tasks = record { place = 11; within = omega arith; there = refl }
listed Full = record { place = 12; within = omega arith; there = refl }
listed Thrown = record { place = 13; within = omega arith; there = refl }

pub none_named : (word : List ℕ) (k : ℕ) → 14 ≤ k → ((j : ℕ) → j < k → word ≡ word_of (get_or causes j Done) → ⊥) → (cause : EndCause) → word ≡ word_of cause → ⊥
none_named word k all none cause e =
    let l = listed cause in
    none l.place (omega (arith, l.within)) (e ∙ sym (ap word_of l.there))

-- ---- acts

-- an act is its word, a space and what stands behind that
pub act_parts : (a : Act) (bytes x : List ℕ) → bytes ≡ act_text a ++ (10 ∷ x) → bytes ≡ word_text (word_of_act a) ++ (text_behind a ++ (10 ∷ x))
act_parts (Put box n shape) bytes x e = e
act_parts (Take box n) bytes x e = e
act_parts (Empty box) bytes x e = e
act_parts (Start task shape) bytes x e = e
act_parts (Print shape) bytes x e = e
act_parts (End cause) bytes x e = e
act_parts (Wait box) bytes x e = e
act_parts (Bound box most) bytes x e = e

-- ---- words

abbrev pub words : List Word
words = word.Put ∷ word.Take ∷ word.Empty ∷ word.Start ∷ word.Print ∷ word.End ∷ word.Wait ∷ word.Bound ∷ []

-- the word that two letters begin
abbrev begun : ℕ → ℕ → Word
begun a b =
    if a == 112 then (if b == 117 then word.Put else word.Print)
    else (if a == 116 then word.Take else (if a == 101 then (if b == 109 then word.Empty else word.End) else (if a == 115 then word.Start else (if a == 119 then word.Wait else word.Bound))))

abbrev first_word : List ℕ → Word
first_word (a ∷ b ∷ rest) = begun a b
first_word rest = word.Put

word_again : (w : Word) (x : List ℕ) → first_word (word_text w ++ x) ≡ w
word_again word.Put x = refl
word_again word.Take x = refl
word_again word.Empty x = refl
word_again word.Start x = refl
word_again word.Print x = refl
word_again word.End x = refl
word_again word.Wait x = refl
word_again word.Bound x = refl

pub same_word : (v w : Word) (bytes y x : List ℕ) → bytes ≡ word_text v ++ y → bytes ≡ word_text w ++ x → (v ≡ w) × (y ≡ x)
same_word v w bytes y x is e =
    let both = sym is ∙ e in
    let same : v ≡ w = sym (word_again v y) ∙ (ap first_word both ∙ word_again w x) in
    (same, append_cancel_left (word_text w) y x (subst (λ (u : Word). word_text u ++ y ≡ word_text w ++ x) same both))

-- a word in the list of all
pub record ListedWord (w : Word) : Type 0 where
  pub place : ℕ
  pub within : place < 8
  pub there : get_or words place word.Put ≡ w

listed_word : (w : Word) → ListedWord w
listed_word word.Put = record { place = 0; within = omega arith; there = refl }
listed_word word.Take = record { place = 1; within = omega arith; there = refl }
listed_word word.Empty = record { place = 2; within = omega arith; there = refl }
listed_word word.Start = record { place = 3; within = omega arith; there = refl }
listed_word word.Print = record { place = 4; within = omega arith; there = refl }
listed_word word.End = record { place = 5; within = omega arith; there = refl }
listed_word word.Wait = record { place = 6; within = omega arith; there = refl }
listed_word word.Bound = record { place = 7; within = omega arith; there = refl }

pub no_word : (bytes : List ℕ) (k : ℕ) → 8 ≤ k → ((j : ℕ) (x : List ℕ) → j < k → bytes ≡ word_text (get_or words j word.Put) ++ x → ⊥) → (w : Word) (x : List ℕ) → bytes ≡ word_text w ++ x → ⊥
no_word bytes k all none w x e =
    let l = listed_word w in
    none l.place x (omega (arith, l.within)) (e ∙ sym (ap (λ (u : Word). word_text u ++ x) l.there))
