-- Entries that are looked for in a pool, and added at its end where they aren't there.
use Rattle.std.specs.Prelude.{ℕ, suc, ◌+◌, ◌^◌, ◌==◌, nat_lt, Bool, false, if◌then◌else◌, List, [], ◌∷◌, ◌++◌, Option, Some, None, Result, Ok, Err}
use Rattle.std.specs.Str.{bytes_eq}
use Rattle.kilim_class_grammar.specs.Reader.{◌>>=◌}
use Rattle.kilim_class_pool.specs.declared.entry.Entry.{Entry}
use Rattle.kilim_class_pool.specs.declared.entry.Entry.TheVariants.{Utf8, Class}
use Rattle.kilim_class_pool.specs.declared.fault.AddFault.{AddFault}
use Rattle.kilim_class_pool.specs.declared.fault.AddFault.TheVariants.{Full}
use Rattle.kilim_class_pool.specs.Entries.{count_of, slots_of}

-- What is found in a pool, or added, with the pool that then is; or the fault.
abbrev pub Adding : Type 0 → Type 0
Adding A = List Entry → Result (A × List Entry) AddFault

abbrev pub passes : (Entry → Bool) → Option Entry → Bool
passes test None = false
passes test (Some entry) = test entry

-- the first index whose entry passes, of slots that begin at an index
abbrev pub index_from : (Entry → Bool) → ℕ → List (Option Entry) → Option ℕ
index_from test index [] = None
index_from test index (s ∷ slots) = if passes test s then Some index else index_from test (suc index) slots

unfoldable pub index_in : (Entry → Bool) → List Entry → Option ℕ
index_in test pool = index_from test 1 (slots_of pool)

abbrev pub is_text : List ℕ → Entry → Bool
is_text units (Utf8 other) = bytes_eq other units
is_text units _ = false

-- a class, by the index of its name
abbrev pub is_class_of : ℕ → Entry → Bool
is_class_of name (Class other) = other == name
is_class_of name _ = false

-- An entry of one index: where it isn't there, it is added, unless the count of indices would pass 65,535.
abbrev pub added_by : Option ℕ → Entry → Adding ℕ
added_by (Some index) entry pool = Ok (index, pool)
added_by None entry pool = if nat_lt (count_of pool + 1) (2 ^ 16) then Ok (count_of pool, pool ++ entry ∷ []) else Err Full

-- a text
unfoldable pub text_added : List ℕ → Adding ℕ
text_added units pool = added_by (index_in (is_text units) pool) (Utf8 units) pool

-- the class of a name that is there
unfoldable pub class_by : ℕ → Adding ℕ
class_by name pool = added_by (index_in (is_class_of name) pool) (Class name) pool

-- a class: first its name
unfoldable pub class_added : List ℕ → Adding ℕ
class_added name pool = do
  text ← text_added name pool
  class_by text.0 text.1

-- classes in order
unfoldable pub classes_added : List (List ℕ) → List Entry → Result (List Entry) AddFault
classes_added [] pool = Ok pool
classes_added (name ∷ names) pool = do
  class ← class_added name pool
  classes_added names class.1
