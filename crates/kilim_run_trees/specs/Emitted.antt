-- The tokens that are still to come. No clause of a public call cites this.
use Rattle.std.specs.Prelude.{◌≡◌, ℕ, zero, suc, List, [], ◌∷◌, ◌++◌, Option, Some, drop, ◌<◌}
use Rattle.kilim_program.specs.declared.class.Program.{Program}
use Rattle.kilim_run_state.specs.declared.value.Object.{Object}
use Rattle.kilim_run_state.specs.declared.value.Token.{Token}
use Rattle.kilim_run_state.specs.declared.value.Token.TheVariants as token
use Rattle.kilim_program.specs.declared.value.Value.{Value}
use Rattle.kilim_program.specs.declared.value.Value.TheVariants.{Int, Long, Null, Ref, Text, Box, Fiber}
use Rattle.kilim_run_state.specs.Machine.{Objects}
use Rattle.kilim_program.specs.Members.{shown_name}
use Rattle.kilim_run_state.specs.Shapes.{joined_tokens, tree_limit}
use Rattle.kilim_run_trees.specs.Moved.{heap_tokens}
use Rattle.std.specs.FinMap.{get}
use Rattle.kilim_run_trees.specs.Moved.{tree_heap}
use Rattle.kilim_run_trees.specs.Shaping.{held, Suits}

-- the token of a value that is no object
abbrev pub plain_tokens : Value → List Token
plain_tokens (Int n) = token.Int n ∷ []
plain_tokens (Long n) = token.Long n ∷ []
plain_tokens Null = token.Null ∷ []
plain_tokens (Ref n) = []
plain_tokens (Text units) = token.Text units ∷ []
plain_tokens (Box box) = token.Box box ∷ []
plain_tokens Fiber = []

-- the values of the object at a place
abbrev pub held_at : List Object → ℕ → List Value
held_at [] n = []
held_at (o ∷ os) zero = held o
held_at (o ∷ os) (suc n) = held_at os n

pub data Item : Type 0 where
  Shows : Value → Item
  Ends : Item

abbrev pub all_shown : List Value → List Item → List Item
all_shown [] after = after
all_shown (v ∷ vs) after = Shows v ∷ all_shown vs after

-- the rest of objects that have begun, the last one first, each with the number of its values that are done
abbrev pub items_of : List Object → List (ℕ × ℕ) → List Item
items_of os [] = []
items_of os (f ∷ fs) = all_shown (drop f.1 (held_at os f.0)) (Ends ∷ items_of os fs)

abbrev pub item_tokens : Program → Objects → ℕ → Item → Option (List Token)
item_tokens p heap d (Shows v) = heap_tokens p heap d v
item_tokens p heap d Ends = Some (token.Close ∷ [])

abbrev pub to_come : Program → Objects → ℕ → List Object → List (ℕ × ℕ) → Option (List Token)
to_come p heap d os fs = joined_tokens (item_tokens p heap d) (items_of os fs)

-- as many opening brackets
abbrev pub brackets : ℕ → List ℕ
brackets zero = []
brackets (suc n) = 91 ∷ brackets n

-- the token with which the object at a place begins
abbrev pub opening : Program → List Object → ℕ → List Token
opening p [] n = []
opening p (o ∷ os) zero = token.Open (shown_name p o.class) ∷ []
opening p (o ∷ os) (suc n) = opening p os n

abbrev pub RefWithin : Value → ℕ → Type 0
RefWithin (Int n) limit = Unit {0}
RefWithin (Long n) limit = Unit {0}
RefWithin Null limit = Unit {0}
RefWithin (Ref n) limit = n < limit
RefWithin (Text units) limit = Unit {0}
RefWithin (Box box) limit = Unit {0}
RefWithin Fiber limit = Unit {0}

-- a value's token, or the beginning of an object
abbrev pub Emits : Program → List Object → Value → List Token → List Token → List (ℕ × ℕ) → List (ℕ × ℕ) → Type 0
Emits p os (Ref n) tokens after frames now = (after ≡ tokens ++ opening p os n) × (now ≡ frames ++ (n, 0) ∷ [])
Emits p os v tokens after frames now = (after ≡ tokens ++ plain_tokens v) × (now ≡ frames)

abbrev pub AreTokens : Program → List Object → List Token → Type 0
AreTokens p os tokens = heap_tokens p (tree_heap os) tree_limit (Ref 0) ≡ Some tokens

-- the program's objects, and they have tokens
pub record HasShape (p : Program) (os : List Object) : Type 0 where
  pub suit : (j : ℕ) (o : Object) → get (tree_heap os) j ≡ Some o → Suits p o
  pub tokens : List Token
  pub are : AreTokens p os tokens
