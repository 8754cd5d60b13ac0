-- Fronts of lines of classes, which trees are made of.
use Rattle.std.specs.Prelude.{◌≡◌, ℕ, zero, suc, ◌⊎◌, List, [], ◌∷◌, Option, Some, None, length, option_and_then}
use Rattle.kilim_program.specs.declared.names.ClassId.{ClassId}
use Rattle.kilim_link_inherited.specs.declared.entry.Entry.{Entry}
use Rattle.kilim_link_inherited.specs.Inherited.{said_at, said_or, up_in, line_up}
use Rattle.kilim_link_inherited.specs.Roots.{root_at}

-- the class so many superclasses above a class
abbrev pub class_after : List (Option ClassId) → ℕ → ClassId → Option ClassId
class_after ups zero c = Some c
class_after ups (suc m) c = option_and_then (class_after ups m) (up_in ups c)

-- what the first class of a list that says something of a key says, or else this
abbrev pub said_onto : List (List Entry) → ℕ → List ClassId → Option ℕ → Option ℕ
said_onto entries k [] value = value
said_onto entries k (c ∷ line) value = said_or (said_at entries k c) (said_onto entries k line value)

-- a line says nothing more behind so many classes: it ends, it comes back to the class, or there are no more classes
abbrev pub SaysNoMore : List (Option ClassId) → ClassId → ℕ → Type 0
SaysNoMore ups c m = (class_after ups m c ≡ None) ⊎ (((j : ℕ) × (m ≡ suc j) × (class_after ups m c ≡ Some c)) ⊎ (m ≡ length ups))

-- the tree that a front's entries are put onto: the empty one, or that of the class behind it
abbrev pub IsBase : List (Option ClassId) → List (Option ℕ) → ClassId → ℕ → ℕ → Type 0
IsBase ups roots c m base = ((base ≡ 0) × SaysNoMore ups c m) ⊎ ((d : ClassId) × (class_after ups m c ≡ Some d) × (root_at roots d ≡ Some base))

-- the first classes of a line, and what their entries are put onto
pub record IsFront (ups : List (Option ClassId)) (roots : List (Option ℕ)) (c : ClassId) (classes : List ClassId) (base : ℕ) : Type 0 where
  pub count : ℕ
  pub classes_are : classes ≡ line_up ups count c
  pub base_is : IsBase ups roots c count base
