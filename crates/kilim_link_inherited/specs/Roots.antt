-- The trees of classes, each by its topmost node.
use Rattle.std.specs.Prelude.{◌≡◌, ℕ, ◌<◌, ◌≤◌, ◌^◌, true, is_some, List, Option, Some, None, length, slice_get, unwrap_or}
use Rattle.kilim_program.specs.declared.names.ClassId.{ClassId}
use Rattle.kilim_link_inherited.specs.declared.entry.Entry.{Entry}
use Rattle.kilim_link_inherited.specs.declared.node.Node.{Node}
use Rattle.kilim_link_inherited.specs.Inherited.{said_at, said_or, inherited, line_in, up_in, from_above}
use Rattle.kilim_link_inherited.specs.Trees.{Forest, IsTable, Has, Fits, value_at, key_levels}

-- the tree of a class, none where it isn't made
abbrev pub root_at : List (Option ℕ) → ClassId → Option ℕ
root_at roots c = unwrap_or (slice_get roots c.0) None

-- each tree that is made has what its class inherits, and nothing of numbers with more digits than keys have
pub record Sound (ups : List (Option ClassId)) (entries : List (List Entry)) (nodes : List Node) (roots : List (Option ℕ)) : Type 0 where
  pub table : IsTable nodes
  pub inside : (c : ClassId) (root : ℕ) → root_at roots c ≡ Some root → root < length nodes
  pub values : (c : ClassId) (root : ℕ) → root_at roots c ≡ Some root → Has nodes key_levels root (λ k. inherited entries k (line_in ups c))
  pub fits : (c : ClassId) (root : ℕ) → root_at roots c ≡ Some root → Fits nodes key_levels root

-- lists of trees in which no made one is lost
pub record Keeps (old new : List (Option ℕ)) : Type 0 where
  pub count : length new ≡ length old
  pub made : (c : ClassId) → is_some (root_at old c) ≡ true → is_some (root_at new c) ≡ true

-- the trees of all classes below a place are made
abbrev pub MadeBelow : ℕ → List (Option ℕ) → Type 0
MadeBelow n roots = (c : ClassId) → c.0 < n → is_some (root_at roots c) ≡ true

-- the value of a key in a tree, none where there is no tree
abbrev pub value_in : List Node → ℕ → Option ℕ → Option ℕ
value_in nodes k None = None
value_in nodes k (Some root) = value_at nodes key_levels root k

-- what a class inherits of a number
unfoldable pub inherits : Forest → ClassId → ℕ → Option ℕ
inherits it c k = value_in it.nodes k (root_at it.roots c)

-- a class inherits no value of any number
abbrev pub InheritsNone : Forest → ClassId → Type 0
InheritsNone it c = (k : ℕ) → inherits it c k ≡ None

-- it inherits one of some key
abbrev pub InheritsSome : Forest → ClassId → Type 0
InheritsSome it c = (k : ℕ) × (k < 2 ^ 32) × (is_some (inherits it c k) ≡ true)

-- nothing is inherited of a number that is no key, having more digits
abbrev pub OnlyKeys : Forest → Type 0
OnlyKeys it = (c : ClassId) (k : ℕ) → 2 ^ 32 ≤ k → inherits it c k ≡ None

-- Each class inherits what the first class of its line says that says something; which is what it says itself, or else
-- what its superclass inherits, in a circle too. Nothing is inherited of a number that is no key.
pub record IsRight (ups : List (Option ClassId)) (entries : List (List Entry)) (it : Forest) : Type 0 where
  pub inherited_is : (c : ClassId) (k : ℕ) → inherits it c k ≡ inherited entries k (line_in ups c)
  pub by_one : (c : ClassId) (k : ℕ) → inherits it c k ≡ said_or (said_at entries k c) (from_above (λ up. inherits it up k) (up_in ups c))
  pub only_keys : OnlyKeys it
