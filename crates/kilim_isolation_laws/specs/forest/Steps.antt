-- The steps on the nodes of a graph as functions from numbers, and what is asked of them.
use Rattle.std.specs.Prelude.{◌≡◌, ℕ, zero, suc, Bool, true, false, not, ◌||◌, if◌then◌else◌, Option, Some, None, List, [], ◌∷◌, eqb, ◌<◌}
use Rattle.kilim_isolation_laws.specs.forest.Heap.{Heap}
use Rattle.kilim_isolation_laws.specs.forest.Relation.{Standing, Root, Inner, Safe, Gone, is_gone, is_safe, Label, Node, Named, Names, Owns}
pub use Rattle.kilim_program.specs.declared.ty.Qualifier.{Qualifier as Access}
use Rattle.kilim_program.specs.declared.ty.Qualifier.TheVariants as qualifier
pub use Rattle.kilim_isolation_graph.specs.Entry.{entry_node}
pub use Rattle.kilim_isolation_rules.specs.Steps.{rises, climbs, is_part, is_that, is_left, no_parent, cut_node, join_node, gone_node, Argument, Free, Cuttable}
pub use Rattle.kilim_isolation_rules.specs.Calls.{is_owned, more_arguments}

abbrev pub pick : {A : Type 0} → Bool → A → A → A
pick b x y = if b then x else y

abbrev pub either : Bool → Bool → Bool
either a b = a || b

abbrev pub negated : Bool → Bool
negated b = not b

-- what may be done with an argument; none where it is no tree
abbrev pub Qualifier : Type 0
Qualifier = Option Access

-- what holds of each graph
pub record IsTidy (g : ℕ → Node) : Type 0 where
  pub live : (n m : ℕ) (l : Label) → (g m).parent ≡ Some (n, l) → (is_gone (g n).standing ≡ false) × (is_gone (g m).standing ≡ false)
  pub roots : (n : ℕ) → (g n).standing ≡ Root → (g n).head ≡ true
  pub one_head : (n m : ℕ) → (g n).head ≡ true → (g m).head ≡ true → is_gone (g n).standing ≡ false → is_gone (g m).standing ≡ false → (g n).region ≡ (g m).region → n ≡ m
  pub heads_top : (n : ℕ) (p : ℕ × Label) → (g n).head ≡ true → (g n).parent ≡ Some p → ⊥

-- a store of a root into a field of an object that isn't safe, where no rule fails; c is the known child by that field
pub record IsField_store (IsPlace : ℕ → Label → Type 0) (h : Heap) (u : Named) (na nb a b f new : ℕ) (l : Label) (c : Option ℕ) : Type 0 where
  pub owns_a : Owns u na a
  pub names_b : Names u nb b
  pub root : (u.node nb).standing ≡ Root
  pub apart : (u.node nb).region ≡ (u.node na).region → ⊥
  pub place : IsPlace f l
  pub fresh : (n : ℕ) → is_gone (u.node n).standing ≡ false → (u.node n).region ≡ new → ⊥
  pub child : (root : ℕ) → c ≡ Some root → ((u.node root).parent ≡ Some (na, l)) × ((place : ℕ) → IsPlace place l → place ≡ f)

abbrev pub set_node : (ℕ → Node) → ℕ → Node → ℕ → Node
set_node g k node n = pick (eqb n k) node (g n)

abbrev pub after_argument : ℕ → (ℕ → Node) → Argument → ℕ → Node
after_argument fuel g (Free n) = λ m. gone_node g n m
after_argument fuel g (Cuttable n) = λ m. cut_node g fuel n None 0 m

abbrev pub after_arguments : ℕ → (ℕ → Node) → List Argument → ℕ → Node
after_arguments fuel g [] = g
after_arguments fuel g (x ∷ xs) = after_arguments fuel (after_argument fuel g x) xs

-- the arguments that are nodes and free or cuttable, the last first
abbrev pub arguments : (ℕ → Qualifier) → (ℕ → Option ℕ) → ℕ → List Argument
arguments qual arg zero = []
arguments qual arg (suc n) = more_arguments (qual n) (arg n) (arguments qual arg n)

abbrev pub number_or : Option ℕ → ℕ
number_or None = 0
number_or (Some n) = n

-- what the rules of arguments ask of a call, and the values of the arguments
pub record IsCall (u : Named) (count : ℕ) (qual : ℕ → Qualifier) (arg value : ℕ → Option ℕ) : Type 0 where
  pub slots : (k n : ℕ) → arg k ≡ Some n → (value k ≡ u.at n) × (is_gone (u.node n).standing ≡ false)
  pub none : (k : ℕ) → arg k ≡ None → value k ≡ None
  pub free : (k n : ℕ) → qual k ≡ Some qualifier.Free → arg k ≡ Some n → (u.node n).standing ≡ Root
  pub cuttable : (k n : ℕ) → qual k ≡ Some qualifier.Cuttable → arg k ≡ Some n → is_safe (u.node n).standing ≡ false
  pub apart : (j k n m : ℕ) → (j ≡ k → ⊥) → arg j ≡ Some n → arg k ≡ Some m → (u.node n).region ≡ (u.node m).region → (is_owned (qual j) ≡ false) × (is_owned (qual k) ≡ false)
  pub within : (k : ℕ) → is_owned (qual k) ≡ true → k < count

-- all of IsTidy but `live`
pub record IsNearly_tidy (g : ℕ → Node) : Type 0 where
  pub roots : (n : ℕ) → (g n).standing ≡ Root → (g n).head ≡ true
  pub one_head : (n m : ℕ) → (g n).head ≡ true → (g m).head ≡ true → is_gone (g n).standing ≡ false → is_gone (g m).standing ≡ false → (g n).region ≡ (g m).region → n ≡ m
  pub heads_top : (n : ℕ) (p : ℕ × Label) → (g n).head ≡ true → (g n).parent ≡ Some p → ⊥
