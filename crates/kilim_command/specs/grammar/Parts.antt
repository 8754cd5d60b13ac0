-- How the code reads the words. No clause of `request` cites what stands here but `meant`, with `numbers_of`.
use Rattle.std.specs.Prelude.{◌≡◌, ◌≤◌, ℕ, ℤ, Bool, is_some, List, [], ◌∷◌, Option, Some, None, length, map, codes}
use Rattle.std.specs.String.{string_bytes}
use Rattle.kilim_command.specs.declared.grammar.options.Values.{Values}
use Rattle.kilim_command.specs.declared.grammar.options.Values.TheVariants as values
use Rattle.kilim_command.specs.declared.grammar.asked.Asked.{Asked}
use Rattle.kilim_command.specs.declared.grammar.asked.Asked.TheVariants as asked
use Rattle.kilim_command.specs.grammar.Words.{Request, Check, Weave, Run, Replay, Save, Resume, Demo, ints_of, value_behind}
use Rattle.kilim_command.specs.grammar.Numbers.{int_by}

-- the values of an option, as far as they matter
abbrev pub Tells : Values → List (List ℕ) → Type 0
Tells values.Nothing vs = vs ≡ []
Tells (values.One v) vs = vs ≡ v.now ∷ []
Tells values.Many vs = 2 ≤ length vs

abbrev pub is_int : List ℕ → Bool
is_int word = is_some (int_by word (value_behind (codes "-") word))

abbrev pub numbers_or : Option (List ℤ) → List ℤ
numbers_or None = []
numbers_or (Some numbers) = numbers

-- the integers that words write, none where one of them writes none
abbrev pub numbers_of : List (List ℕ) → List ℤ
numbers_of words = numbers_or (ints_of words)

-- what the words that were read ask for
abbrev pub meant : Asked → Request
meant (asked.Check files) = Check (map string_bytes files.now)
meant (asked.Weave weave) = Weave weave.to.now (map string_bytes weave.files.now)
meant (asked.Run run) = Run run.main.now run.workers run.steps (numbers_of (map string_bytes run.args.now)) (map string_bytes run.files.now)
meant (asked.Replay replay) = Replay replay.main.now replay.journal.now replay.steps (numbers_of (map string_bytes replay.args.now)) (map string_bytes replay.files.now)
meant (asked.Save save) = Save save.main.now save.image.now save.entries save.steps (numbers_of (map string_bytes save.args.now)) (map string_bytes save.files.now)
meant (asked.Resume resume) = Resume resume.image.now resume.workers
meant (asked.Demo demo) = Demo demo.number demo.workers

-- the journal or the image that a command reads, behind its class files
abbrev pub other_read : Request → List (List ℕ)
other_read (Replay main journal steps args files) = journal ∷ []
other_read (Resume image workers) = image ∷ []
other_read request = []

-- a word or none, as a list of words
abbrev pub listed_word : Option (List ℕ) → List (List ℕ)
listed_word None = []
listed_word (Some word) = word ∷ []
