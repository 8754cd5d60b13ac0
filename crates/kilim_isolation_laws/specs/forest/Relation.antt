-- How the nodes of a graph stand for objects.
use Rattle.std.specs.Prelude.{◌≡◌, ℕ, Bool, true, false, ◌⊎◌, Option, Some, None, List, [], ◌∷◌, All}
use Rattle.kilim_isolation_laws.specs.forest.Heap.{Heap, Below, IsUnder}
-- the words of graphs, under one roof
pub use Rattle.kilim_isolation_graph.specs.declared.node.Standing.{Standing}
pub use Rattle.kilim_isolation_graph.specs.declared.node.Standing.TheVariants.{Root, Inner, Safe, Gone}
pub use Rattle.kilim_isolation_graph.specs.declared.node.Label.{Label}
pub use Rattle.kilim_isolation_graph.specs.declared.node.Label.TheVariants.{Field, Element}
pub use Rattle.kilim_isolation_graph.specs.declared.node.Node.{Node}
pub use Rattle.kilim_isolation_graph.specs.Nodes.{is_gone, is_safe}

-- a graph, and for each node the object that it stands for, or none where it stands for null
pub record Named : Type 0 where
  pub node : ℕ → Node
  pub at : ℕ → Option ℕ

-- the node isn't gone and stands for this object
abbrev pub Names : Named → ℕ → ℕ → Type 0
Names g n o = (is_gone (g.node n).standing ≡ false) × (g.at n ≡ Some o)

pub record IsEdge (IsPlace : ℕ → Label → Type 0) (h : Heap) (o : ℕ) (l : Label) (value : Option ℕ) : Type 0 where
  pub place : ℕ
  pub fits : IsPlace place l
  pub holds : h.to o place ≡ value

pub record Relates (IsPlace : ℕ → Label → Type 0) (h : Heap) (g : Named) : Type 0 where
  -- what a node stands for is there
  pub there : (n o : ℕ) → Names g n o → h.has o ≡ true
  -- where one object is at or below another, the nodes are of one region
  pub apart : (n m o x : ℕ) → Names g n o → Names g m x → Below h o x → (g.node n).region ≡ (g.node m).region
  -- a head is above all others of its region
  pub headed : (n m x : ℕ) → (g.node n).head ≡ true → is_gone (g.node n).standing ≡ false → Names g m x → (g.node n).region ≡ (g.node m).region →
      (n ≡ m) ⊎ ((o : ℕ) × (g.at n ≡ Some o) × IsUnder h o x)
  -- a known edge is an edge of the heap
  pub edged : (n m : ℕ) (l : Label) → (g.node m).parent ≡ Some (n, l) → is_gone (g.node n).standing ≡ false → is_gone (g.node m).standing ≡ false →
      (o : ℕ) × (g.at n ≡ Some o) × IsEdge IsPlace h o l (g.at m)
  -- nothing in the heap holds a root
  pub whole : (n o p i : ℕ) → Names g n o → (g.node n).standing ≡ Root → h.to p i ≡ Some o → ⊥

-- the node isn't gone, may be changed, and stands for this object
abbrev pub Owns : Named → ℕ → ℕ → Type 0
Owns g n o = (is_gone (g.node n).standing ≡ false) × (is_safe (g.node n).standing ≡ false) × (g.at n ≡ Some o)

-- what an upper frame may do leaves alone what a lower frame will still use
pub record Respects (h : Heap) (upper lower : Named) : Type 0 where
  pub strictly : (n o m x : ℕ) → Owns upper n o → Names lower m x → IsUnder h o x → ⊥
  pub root : (n o m : ℕ) → Owns upper n o → (upper.node n).standing ≡ Root → Names lower m o → ⊥
  pub no_edge : (n o m k : ℕ) (l : Label) → Owns upper n o → Names lower m o → (lower.node k).parent ≡ Some (m, l) → is_gone (lower.node k).standing ≡ false → ⊥

-- the frames of a thread, the top one first
abbrev pub RespectsAll : Heap → Named → List Named → Type 0
RespectsAll h u [] = Unit {0}
RespectsAll h u (l ∷ ls) = Respects h u l × RespectsAll h u ls

abbrev pub Frames : (ℕ → Label → Type 0) → Heap → List Named → Type 0
Frames p h [] = Unit {0}
Frames p h (u ∷ ls) = Relates p h u × RespectsAll h u ls × Frames p h ls
