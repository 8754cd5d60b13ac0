-- Trees of keys in a list of nodes, each tree by its place.
use Rattle.std.specs.Prelude.{◌≡◌, ℕ, zero, suc, ◌/◌, ◌%◌, ◌^◌, ◌<◌, ◌≤◌, ◌==◌, true, false, ◌++◌, if◌then◌else◌, List, Option, Some, None, is_some, length, slice_get}
use Rattle.kilim_link_inherited.specs.declared.node.Node.{Node}
use Rattle.kilim_link_inherited.specs.declared.node.Node.TheVariants.{Empty, Leaf, Branch}

-- the trees of all classes: their nodes, and the topmost one of each class
pub record Forest : Type 0 where
  pub nodes : List Node
  pub roots : List (Option ℕ)

-- a value at one key alone
abbrev pub only_at : ℕ → Option ℕ → ℕ → Option ℕ
only_at key value k = if key == k then value else None

-- of two trees, the one that a key goes to
abbrev pub side : ℕ → ℕ → ℕ → ℕ
side even odd k = if k % 2 == 0 then even else odd

-- the value of a key at a node, by what the trees below have
abbrev pub value_by : (ℕ → ℕ → Option ℕ) → Option Node → ℕ → Option ℕ
value_by below None k = None
value_by below (Some Empty) k = None
value_by below (Some (Leaf rest value)) k = only_at rest (Some value) k
value_by below (Some (Branch even odd)) k = below (side even odd k) (k / 2)

-- the value of a key in a tree with so many levels below it
abbrev pub value_at : List Node → ℕ → ℕ → ℕ → Option ℕ
value_at nodes zero tree k = value_by (λ _ _. None) (slice_get nodes tree) k
value_at nodes (suc levels) tree k = value_by (value_at nodes levels) (slice_get nodes tree) k

-- the trees below a node stand among so many
abbrev pub ChildrenWithin : ℕ → Option Node → Type 0
ChildrenWithin n None = Unit {0}
ChildrenWithin n (Some Empty) = Unit {0}
ChildrenWithin n (Some (Leaf rest value)) = Unit {0}
ChildrenWithin n (Some (Branch even odd)) = (even < n) × (odd < n)

-- the first node is the empty tree, and all trees stand in the list
pub record IsTable (nodes : List Node) : Type 0 where
  pub begins : slice_get nodes 0 ≡ Some Empty
  pub inside : (i : ℕ) → ChildrenWithin (length nodes) (slice_get nodes i)

-- nodes were added alone
abbrev pub Grows : List Node → List Node → Type 0
Grows old new = (more : List Node) × (new ≡ old ++ more)

-- a tree was made: the old ones stay
pub record Makes (old new : List Node) (made : ℕ) : Type 0 where
  pub table : IsTable new
  pub grown : Grows old new
  pub inside : made < length new

-- a tree has these values
abbrev pub Has : List Node → ℕ → ℕ → (ℕ → Option ℕ) → Type 0
Has nodes levels tree value = (k : ℕ) → value_at nodes levels tree k ≡ value k

-- a tree has no value of any number
abbrev pub HasNone : List Node → ℕ → ℕ → Type 0
HasNone nodes levels tree = (k : ℕ) → value_at nodes levels tree k ≡ None

-- it has one of some number
abbrev pub HasSome : List Node → ℕ → ℕ → Type 0
HasSome nodes levels tree = (k : ℕ) × (is_some (value_at nodes levels tree k) ≡ true)

-- a tree has no value of a number with more digits than it has levels
abbrev pub Fits : List Node → ℕ → ℕ → Type 0
Fits nodes levels tree = (k : ℕ) → 2 ^ levels ≤ k → value_at nodes levels tree k ≡ None

-- a value at one key, and others as they were
abbrev pub changed_at : ℕ → Option ℕ → (ℕ → Option ℕ) → ℕ → Option ℕ
changed_at key value before k = if key == k then value else before k

-- the trees of a tree's even keys and of its odd keys
pub record Opens (old new : List Node) (tree even odd : ℕ) : Type 0 where
  pub table : IsTable new
  pub grown : Grows old new
  pub even_inside : even < length new
  pub odd_inside : odd < length new
  pub values : (levels k : ℕ) → value_at new levels (side even odd k) (k / 2) ≡ value_at old (suc levels) tree k

-- no other key than this has a value, however many levels there are
abbrev pub IsAlone : List Node → ℕ → ℕ → Type 0
IsAlone nodes tree key = (levels k : ℕ) → (key == k) ≡ false → value_at nodes levels tree k ≡ None

-- a tree has a value at one key alone, however many levels there are
abbrev pub HasOnly : List Node → ℕ → ℕ → Option ℕ → Type 0
HasOnly nodes tree key value = (levels k : ℕ) → value_at nodes levels tree k ≡ only_at key value k

-- a tree has, one level up, the values of two trees
abbrev pub Joins : List Node → List Node → ℕ → ℕ → ℕ → Type 0
Joins old new even odd made = (levels k : ℕ) → value_at new (suc levels) made k ≡ value_at old levels (side even odd k) (k / 2)

-- how many digits a key has
unfoldable pub key_levels : ℕ
key_levels = 32
