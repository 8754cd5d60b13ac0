-- The words for the causes of an end.
use Rattle.std.specs.Prelude.{ℕ, List, codes}
use Rattle.kilim_run_state.specs.declared.cause.EndCause.{EndCause}
use Rattle.kilim_run_state.specs.declared.cause.EndCause.TheVariants.{Done, Spent, Depth, Null, Index, Size, Large, Cast, Store, Zero, Boxes, Tasks, Full, Thrown}

-- the word that a journal has for a cause, as bytes
abbrev pub word_of : EndCause → List ℕ
word_of Done = codes "done"
word_of Spent = codes "spent"
word_of Depth = codes "depth"
word_of Null = codes "null"
word_of Index = codes "index"
word_of Size = codes "size"
word_of Large = codes "large"
word_of Cast = codes "cast"
word_of Store = codes "store"
word_of Zero = codes "zero"
word_of Boxes = codes "boxes"
word_of Tasks = codes "tasks"
word_of Full = codes "full"
word_of Thrown = codes "thrown"
