-- The methods of a class in woven form, and the searches that find the same ones.
use Rattle.std.specs.Prelude.{◌≡◌, ◌≢◌, ℕ, Bool, true, false, List, [], ◌∷◌, None}
use Rattle.std.specs.List.{AllByRecursion}
use Rattle.kilim_program.specs.declared.names.ClassId.{ClassId}
use Rattle.kilim_link_spec.specs.declared.view.DeclaredMethod.{DeclaredMethod}
use Rattle.kilim_link_spec.specs.World.{World, declared_methods, first_method, is_method, method_in, first_found}

-- a descriptor of a method that pauses has the fiber
abbrev pub pausing : (List ℕ → List ℕ) → Bool → List ℕ → List ℕ
pausing woven true descriptor = woven descriptor
pausing woven false descriptor = descriptor

-- a method that is the same but for its descriptor and its marks
pub record SameButFiber (woven : List ℕ → List ℕ) (m n : DeclaredMethod) : Type 0 where
  pub name : n.name ≡ m.name
  pub pausable : n.pausable ≡ m.pausable
  pub descriptor : n.descriptor ≡ pausing woven m.pausable m.descriptor

abbrev pub AllSame : (List ℕ → List ℕ) → List DeclaredMethod → List DeclaredMethod → Type 0
AllSame woven [] [] = Unit {0}
AllSame woven (m ∷ ms) (n ∷ ns) = SameButFiber woven m n × AllSame woven ms ns
AllSame woven _ _ = ⊥

-- The descriptors that are there before weaving: no two get one, and none has the fiber already.
pub record Apart (woven : List ℕ → List ℕ) (Is : List ℕ → Type 0) : Type 0 where
  pub one : (a b : List ℕ) → Is a → Is b → woven a ≡ woven b → a ≡ b
  pub none : (a b : List ℕ) → Is a → Is b → woven a ≢ b

-- of the first class that has the method, each method of that name and descriptor pauses, or none does
abbrev pub FoundPauses : World → List ℕ → List ℕ → Bool → List ClassId → Type 0
FoundPauses w name descriptor b [] = Unit {0}
FoundPauses w name descriptor b (c ∷ cs) =
    AllByRecursion (λ (m : DeclaredMethod). is_method name descriptor m ≡ true → m.pausable ≡ b) (declared_methods w c)
    × (method_in w name descriptor c ≡ None → FoundPauses w name descriptor b cs)

-- the methods of a class in the plain and the woven world
pub record SameClass (woven : List ℕ → List ℕ) (Is : List ℕ → Type 0) (w v : World) (c : ClassId) : Type 0 where
  pub first : first_method v c ≡ first_method w c
  pub methods : AllSame woven (declared_methods w c) (declared_methods v c)
  pub known : AllByRecursion (λ (m : DeclaredMethod). Is m.descriptor) (declared_methods w c)

-- A method is found in woven form where it was found before, with the fiber where it pauses.
abbrev pub MethodsAreFound : Type 1
MethodsAreFound = (woven : List ℕ → List ℕ) (Is : List ℕ → Type 0) (w v : World) (cs : List ClassId) (name descriptor : List ℕ) (b : Bool) →
    Apart woven Is → AllByRecursion (SameClass woven Is w v) cs → Is descriptor → FoundPauses w name descriptor b cs →
    first_found (method_in v name (pausing woven b descriptor)) cs ≡ first_found (method_in w name descriptor) cs
