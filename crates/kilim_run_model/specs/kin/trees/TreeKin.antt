-- Trees that are the same but for the names of their objects.
use Rattle.std.specs.Prelude.{◌≡◌, ℕ, zero, suc, ◌==◌, if◌then◌else◌, true, List, [], ◌∷◌, Some, None}
use Rattle.std.specs.FinMap.{get}
use Rattle.kilim_program.specs.Program.{Program}
use Rattle.kilim_program.specs.declared.names.FieldId.{FieldId}
use Rattle.kilim_program.specs.declared.value.Value.{Value}
use Rattle.kilim_program.specs.declared.value.Value.TheVariants.{Ref}
use Rattle.kilim_run_state.specs.declared.value.Object.{Object}
use Rattle.kilim_run_state.specs.declared.value.Token.{Token}
use Rattle.kilim_run_state.specs.Machine.{Objects}
use Rattle.kilim_run_state.specs.Shapes.{tree_limit, shape_of}
use Rattle.kilim_run_state.specs.Trees.{Root, is_allowed, tree_names, built}
use Rattle.kilim_run_model.specs.Kept.{IsFormed, IsOnce}
use Rattle.kilim_run_model.specs.kin.Kin.{Names, ObjectsKin}

-- the names of a new tree, from `base` on
abbrev pub names_from : ℕ → List ℕ → Names
names_from base [] n = None
names_from base (y ∷ ys) n = if n == base then Some y else names_from (suc base) ys n

-- objects of their own, and those of a heap by these names
abbrev pub Copies : Names → Objects → List Object → List ℕ → Type 0
Copies of k [] [] = Unit {0}
Copies of k (o ∷ os) (x ∷ xs) = (q : Object) × (get k x ≡ Some q) × ObjectsKin of o q × Copies of k os xs
Copies of k os xs = ⊥

-- The objects at these names in the heap are a tree of this shape, the root first: what is built of the shape,
-- under whatever names, is the same but for names.
pub record IsTree (p : Program) (root : Root) (k : Objects) (xs : List ℕ) (shape : List Token) : Type 0 where
  pub once : IsOnce xs
  pub copy : (base : ℕ) → (os : List Object) × (built p root base shape ≡ Some os) × Copies (names_from base xs) k os xs

abbrev pub AllValues : (Value → Type 0) → List Value → Type 0
AllValues holds [] = Unit {0}
AllValues holds (v ∷ vs) = holds v × AllValues holds vs

abbrev pub AllFields : (Value → Type 0) → List (FieldId × Value) → Type 0
AllFields holds [] = Unit {0}
AllFields holds (e ∷ es) = holds e.1 × AllFields holds es

-- what a value names, and what is below that, at most so deep, is in the heap and as its class declares
abbrev pub IsIntact : Program → Objects → ℕ → Value → Type 0
IsIntact p h zero v = Unit {0}
IsIntact p h (suc depth) (Ref n) = (o : Object) × (get h n ≡ Some o) × IsFormed p o × AllFields (IsIntact p h depth) o.fields × AllValues (IsIntact p h depth) o.elements
IsIntact p h (suc depth) v = Unit {0}

-- a tree: whole, no object of it is met twice, and the program's declared types allow it
pub record IsWholeTree (p : Program) (root : Root) (h : Objects) (n : ℕ) : Type 0 where
  pub intact : IsIntact p h tree_limit (Ref n)
  pub once : IsOnce (tree_names p h n)
  pub allowed : (shape : List Token) → shape_of p h n ≡ Some shape → is_allowed p root shape ≡ true
