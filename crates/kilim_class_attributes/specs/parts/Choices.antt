-- Readers for parts whose form a tag tells.
use Rattle.std.specs.Prelude.{ℕ, zero, suc, List, [], ◌∷◌, ◌++◌, Ok, Err}
use Rattle.std.specs.Int.{w8}
use Rattle.kilim_class_grammar.specs.Reader.{Reader, ◌>>=◌, number_at}

-- nothing can be read
abbrev pub refused : {F A : Type 0} → F → Reader F A
refused fault bytes = Err fault

-- a tag of one byte, and what follows it
abbrev pub tagged : {F A : Type 0} → F → (ℕ → Reader F A) → Reader F A
tagged cut behind bytes = do
  tag ← number_at cut w8 bytes
  behind tag.0 tag.1

-- The parts of a sentence from the left: `kinds` is what is still to come, and each part asks for others, which come
-- next. Each part has at least one byte, so that there are no more of them than `most`, the number of bytes.
unfoldable pub sentence_at : {F A K : Type 0} → F → (K → Reader F A) → (A → List K) → ℕ → List K → Reader F (List A)
sentence_at cut one asks most [] bytes = Ok ([], bytes)
sentence_at cut one asks zero (kind ∷ kinds) bytes = Err cut
sentence_at cut one asks (suc most) (kind ∷ kinds) bytes = do
  first ← one kind bytes
  others ← sentence_at cut one asks most (asks first.0 ++ kinds) first.1
  Ok (first.0 ∷ others.0, others.1)

-- parts that make up a sentence
abbrev pub Sentence : {A K : Type 0} → (K → A → Type 0) → (A → List K) → List K → List A → Type 0
Sentence Fits asks [] [] = Unit {0}
Sentence Fits asks (kind ∷ kinds) [] = ⊥
Sentence Fits asks [] (part ∷ parts) = ⊥
Sentence Fits asks (kind ∷ kinds) (part ∷ parts) = Fits kind part × Sentence Fits asks (asks part ++ kinds) parts
