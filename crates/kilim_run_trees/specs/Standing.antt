-- The tokens of a tree that stays in its heap. No clause of a public call cites this.
use Rattle.std.specs.Prelude.{◌≡◌, ℕ, List, [], ◌∷◌, ◌++◌, Option, Some, None, drop, IsSome}
use Rattle.std.specs.List.{AllByRecursion}
use Rattle.std.specs.FinMap.{get}
use Rattle.kilim_program.specs.declared.class.Program.{Program}
use Rattle.kilim_program.specs.declared.value.Value.{Value}
use Rattle.kilim_program.specs.declared.value.Value.TheVariants.{Int, Long, Null, Ref, Text, Box, Fiber}
use Rattle.kilim_program.specs.Members.{shown_name}
use Rattle.kilim_run_state.specs.declared.value.Object.{Object}
use Rattle.kilim_run_state.specs.declared.value.Token.{Token}
use Rattle.kilim_run_state.specs.declared.value.Token.TheVariants as token
use Rattle.kilim_run_state.specs.Machine.{Objects}
use Rattle.kilim_run_state.specs.Shapes.{joined_tokens, tree_limit}
use Rattle.kilim_run_trees.specs.Moved.{heap_tokens}
use Rattle.kilim_run_trees.specs.Shaping.{AllSuit, held}
use Rattle.kilim_run_trees.specs.Emitted.{Item, Ends, all_shown, item_tokens, plain_tokens}

abbrev pub held_by : Option Object → List Value
held_by None = []
held_by (Some o) = held o

-- the values of the object at a place
abbrev pub held_of : Objects → ℕ → List Value
held_of heap n = held_by (get heap n)

-- the rest of objects that have begun, the last one first, each with the number of its values that are done
abbrev pub items_at : Objects → List (ℕ × ℕ) → List Item
items_at heap [] = []
items_at heap (f ∷ fs) = all_shown (drop f.1 (held_of heap f.0)) (Ends ∷ items_at heap fs)

abbrev pub left_at : Program → Objects → ℕ → List (ℕ × ℕ) → Option (List Token)
left_at p heap d fs = joined_tokens (item_tokens p heap d) (items_at heap fs)

abbrev pub opening_by : Program → Option Object → List Token
opening_by p None = []
opening_by p (Some o) = token.Open (shown_name p o.class) ∷ []

-- the token with which the object at a place begins
abbrev pub opening_at : Program → Objects → ℕ → List Token
opening_at p heap n = opening_by p (get heap n)

abbrev pub RefThere : Objects → Value → Type 0
RefThere heap (Int n) = Unit {0}
RefThere heap (Long n) = Unit {0}
RefThere heap Null = Unit {0}
RefThere heap (Ref n) = IsSome (get heap n)
RefThere heap (Text units) = Unit {0}
RefThere heap (Box box) = Unit {0}
RefThere heap Fiber = Unit {0}

-- a value's token, or the beginning of an object
abbrev pub EmitsAt : Program → Objects → Value → List Token → List Token → List (ℕ × ℕ) → List (ℕ × ℕ) → Type 0
EmitsAt p heap (Ref n) tokens after frames now = (after ≡ tokens ++ opening_at p heap n) × (now ≡ frames ++ (n, 0) ∷ [])
EmitsAt p heap v tokens after frames now = (after ≡ tokens ++ plain_tokens v) × (now ≡ frames)

abbrev pub AreTokensAt : Program → Objects → ℕ → List Token → Type 0
AreTokensAt p heap root tokens = heap_tokens p heap tree_limit (Ref root) ≡ Some tokens

-- the program's objects, and the one at the place has tokens
pub record HasShapeAt (p : Program) (heap : Objects) (root : ℕ) : Type 0 where
  pub suit : AllSuit p heap
  pub tokens : List Token
  pub are : AreTokensAt p heap root tokens
