-- What classes inherit, by names with descriptors.
use Rattle.std.specs.Prelude.{◌≡◌, ◌<◌, ◌^◌, ℕ, true, is_some, List, Option, Some, None}
use Rattle.kilim_program.specs.declared.names.ClassId.{ClassId}
use Rattle.kilim_link_inherited.specs.Inherited.{said_or, line_in, up_in, from_above}
use Rattle.kilim_link_inherited.specs.Roots.{inherits}
use Rattle.kilim_link_inherited.specs.Numbers.{number_at}
use Rattle.kilim_link_inherited.specs.declared.nearest.Nearest.{Nearest}
use Rattle.kilim_link_inherited.specs.declared.said.Said.{Said}
use Rattle.kilim_link_inherited.specs.Nearest.{nearest, says}

-- what a number has; of a name without one nothing is said
abbrev pub by_number : (ℕ → Option ℕ) → Option ℕ → Option ℕ
by_number of_number None = None
by_number of_number (Some k) = of_number k

-- what a class inherits of a name with its descriptor
abbrev pub known : Nearest → ClassId → List ℕ → List ℕ → Option ℕ
known it c name descriptor = by_number (inherits it.inherited c) (number_at it.numbers.places name descriptor)

-- a class inherits nothing of any name
abbrev pub KnowsNone : Nearest → ClassId → Type 0
KnowsNone it c = (name descriptor : List ℕ) → known it c name descriptor ≡ None

-- it inherits something of some name
abbrev pub KnowsSome : Nearest → ClassId → Type 0
KnowsSome it c = (name : List ℕ) × (descriptor : List ℕ) × (is_some (known it c name descriptor) ≡ true)

-- a number is that of a name with its descriptor
abbrev pub IsNamed : Nearest → ℕ → Type 0
IsNamed it k = (name : List ℕ) × (descriptor : List ℕ) × (number_at it.numbers.places name descriptor ≡ Some k)

-- each number that some class inherits something of is one
abbrev pub AllNamed : Nearest → Type 0
AllNamed it = (c : ClassId) (k : ℕ) → is_some (inherits it.inherited c k) ≡ true → IsNamed it k

-- each such key is one
abbrev pub KeysNamed : Nearest → Type 0
KeysNamed it = (c : ClassId) (k : ℕ) → k < 2 ^ 32 → is_some (inherits it.inherited c k) ≡ true → IsNamed it k

-- Each class inherits what the nearest class of its line says; which is what it says itself, or else what its superclass
-- inherits, in a circle too. Each number that something is inherited of is a name's.
pub record Tells (it : Nearest) (ups : List (Option ClassId)) (said : List (List Said)) : Type 0 where
  pub nearest_is : (c : ClassId) (name descriptor : List ℕ) → known it c name descriptor ≡ nearest said name descriptor (line_in ups c)
  pub by_one : (c : ClassId) (name descriptor : List ℕ) → known it c name descriptor ≡ said_or (says said name descriptor c) (from_above (λ up. known it up name descriptor) (up_in ups c))
  pub named : AllNamed it
