-- What is known of shapes and trees.
use Rattle.std.specs.Prelude.{◌≡◌, ◌≢◌, ℕ, suc, true, List, [], ◌∷◌, Some}
use Rattle.std.specs.Str.{bytes_eq}
use Rattle.kilim_program.specs.Program.{Program}
use Rattle.kilim_program.specs.declared.class.Class.{Class}
use Rattle.kilim_program.specs.declared.names.ClassId.{ClassId}
use Rattle.kilim_program.specs.declared.ty.Base.{Base}
use Rattle.kilim_program.specs.declared.ty.Base.TheVariants as base
use Rattle.kilim_program.specs.declared.value.Value.TheVariants.{Ref}
use Rattle.kilim_program.specs.Names.{class_at}
use Rattle.kilim_program.specs.Same.{all_differ}
use Rattle.kilim_run_state.specs.declared.value.Token.{Token}
use Rattle.kilim_run_state.specs.Machine.{Objects}
use Rattle.kilim_program.specs.Members.{shown_name}
use Rattle.kilim_run_state.specs.Shapes.{tree_limit, shape_of}
use Rattle.kilim_run_state.specs.Trees.{Root, bracket, tree_names, type_named}
use Rattle.kilim_run_model.specs.kin.Kin.{Names, Owner, Alike}
use Rattle.kilim_run_model.specs.kin.trees.TreeKin.{IsIntact, IsTree, IsWholeTree}

-- A shape is that of one tree, but for names.
abbrev pub ShapesGive : Program → Type 0
ShapesGive p = (root : Root) (h : Objects) (n : ℕ) (shape : List Token) → IsWholeTree p root h n → shape_of p h n ≡ Some shape → IsTree p root h (tree_names p h n) shape

abbrev pub ShapesAreRead : Type 0
ShapesAreRead = (p : Program) → ShapesGive p

-- A tree has one shape, under whatever names its objects are.
abbrev pub ShapesAreKin : Type 0
ShapesAreKin = (p : Program) (of : Names) (owner : ℕ → Owner) (t : ℕ) (k0 h k : Objects) → Alike of owner t k0 h k →
    (n x : ℕ) → of n ≡ Some x → IsIntact p h tree_limit (Ref n) → shape_of p h n ≡ shape_of p k x

-- the name doesn't begin with a bracket, as an array's descriptor does
abbrev pub IsPlain : List ℕ → Type 0
IsPlain [] = ⊥
IsPlain (c ∷ cs) = c ≢ bracket

-- the class of a base, if it is one, is there
abbrev pub IsPlaced : Program → Base → Type 0
IsPlaced p (base.Class c) = (class : Class) × (class_at p c ≡ Some class)
IsPlaced p b = Unit {0}

-- A type is found by the name under which it is shown, where classes' names differ and none begins with a bracket.
abbrev pub TypesAreNamed : Type 0
TypesAreNamed = (p : Program) → all_differ (λ a b. bytes_eq a.name b.name) p.classes ≡ true → ((c : ClassId) (class : Class) → class_at p c ≡ Some class → IsPlain class.name) →
    ((c : ClassId) (class : Class) → class_at p c ≡ Some class → type_named p (shown_name p (record { dims = 0; base = base.Class c })) ≡ Some (record { dims = 0; base = base.Class c }))
    × ((d : ℕ) (b : Base) → IsPlaced p b → type_named p (shown_name p (record { dims = suc d; base = b })) ≡ Some (record { dims = suc d; base = b }))
