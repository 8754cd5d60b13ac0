-- What classes say of methods by name and descriptor, and what the nearest class of a line says.
use Rattle.std.specs.Prelude.{◌≡◌, ℕ, ◌+◌, ◌==◌, Bool, true, ◌&&◌, not, is_some, if◌then◌else◌, List, [], ◌∷◌, ◌++◌, map, filter, length, slice_get, Option, Some, None, option_map}
use Rattle.std.specs.List.{list_any, position_from}
use Rattle.std.specs.Option.{option_and_then, option_or}
use Rattle.kilim_program.specs.declared.names.ClassId.{ClassId}
use Rattle.kilim_program.specs.BuiltIn.{class_id}
use Rattle.kilim_program.specs.Keeps.{ancestors_of}
use Rattle.kilim_program.specs.Names.{line_of}
use Rattle.kilim_link_spec.specs.declared.view.ClassView.{ClassView}
use Rattle.kilim_link_spec.specs.declared.view.DeclaredMethod.{DeclaredMethod}
use Rattle.kilim_link_spec.specs.Linked.{first_of}
use Rattle.kilim_link_spec.specs.World.{World, declared_methods, is_method}
use Rattle.kilim_link_inherited.specs.Inherited.{said_or}
use Rattle.kilim_link_inherited.specs.declared.nearest.Nearest.{Nearest}
use Rattle.kilim_link_inherited.specs.declared.said.Said.{Said}
use Rattle.kilim_link_inherited.specs.Known.{known, AllNamed}
use Rattle.kilim_link_override_faults.specs.declared.heritage.Heritage.{Heritage}
use Rattle.kilim_link_override_faults.specs.declared.heritage.Place.{Place}
use Rattle.kilim_link_override_faults.specs.Parts.{is_shared, shared_as, stands_in}

-- ---- what a class says

-- an abstract method that isn't private
abbrev pub is_shared_abstract : DeclaredMethod → Bool
is_shared_abstract m = m.is_abstract && not m.is_private

-- a class declares such a method of that name and descriptor
abbrev pub asks_for : World → List ℕ → List ℕ → ClassId → Bool
asks_for w name descriptor d = list_any (λ o. is_shared_abstract o && is_method name descriptor o) (declared_methods w d)

-- the first method of that name and descriptor that it declares and that isn't private
abbrev pub first_declared : World → List ℕ → List ℕ → ClassId → Option DeclaredMethod
first_declared w name descriptor c = first_of (filter (shared_as name descriptor) (declared_methods w c))

-- where it stands
abbrev pub first_place : World → List ℕ → List ℕ → ClassId → Option Place
first_place w name descriptor c = option_map (λ i. record { class = c; index = i }) (position_from (shared_as name descriptor) 0 (declared_methods w c))

-- 0 where it declares an abstract one; none from here down where it only declares others
abbrev pub says_left : World → List ℕ → List ℕ → ClassId → Option (Option ℕ)
says_left w name descriptor c = if asks_for w name descriptor c then Some (Some 0) else (if stands_in w name descriptor c then Some None else None)

-- ---- in a line

-- what the first class that says something says
abbrev pub first_said : (ClassId → Option (Option ℕ)) → List ClassId → Option ℕ
first_said says [] = None
first_said says (c ∷ line) = said_or (says c) (first_said says line)

-- the first class that declares a method of that name and descriptor that isn't private
abbrev pub first_shared : World → List ℕ → List ℕ → List ClassId → Option ClassId
first_shared w name descriptor line = first_of (filter (stands_in w name descriptor) line)

-- where the first one of that class stands
abbrev pub nearest_place : World → List ℕ → List ℕ → List ClassId → Option Place
nearest_place w name descriptor [] = None
nearest_place w name descriptor (c ∷ line) = option_or (first_place w name descriptor c) (nearest_place w name descriptor line)

-- the method there, where it is one of that class
abbrev pub own_at : World → ClassId → Option Place → Option DeclaredMethod
own_at w c None = None
own_at w c (Some p) = if p.class.0 == c.0 then slice_get (declared_methods w c) p.index else None

-- whether such a method is left to be implemented: the first class that declares one declares an abstract one
abbrev pub left_in : World → List ℕ → List ℕ → List ClassId → Option ℕ
left_in w name descriptor line = first_said (says_left w name descriptor) line

-- no method of any name is left so in a class and its ancestors
abbrev pub LeavesNone : World → ClassId → Type 0
LeavesNone w c = (name descriptor : List ℕ) → left_in w name descriptor (c ∷ ancestors_of w.outline c) ≡ None

-- one is
abbrev pub LeavesSome : World → ClassId → Type 0
LeavesSome w c = (name : List ℕ) × (descriptor : List ℕ) × (is_some (left_in w name descriptor (c ∷ ancestors_of w.outline c)) ≡ true)

-- What a map has of each class is what the first class of its line says that says something; the same where its
-- ancestors are put behind the class, which is longer than its line where it is its own ancestor.
pub record Finds (w : World) (it : Nearest) (each : List ℕ → List ℕ → ClassId → Option (Option ℕ)) : Type 0 where
  pub in_line : (c : ClassId) (name descriptor : List ℕ) → known it c name descriptor ≡ first_said (each name descriptor) (line_of w.outline c)
  pub in_longer : (c : ClassId) (name descriptor : List ℕ) → known it c name descriptor ≡ first_said (each name descriptor) (c ∷ ancestors_of w.outline c)
  pub named : AllNamed it

-- what a map of numbers has of a class, in a list of places
abbrev pub placed : List Place → Nearest → ClassId → List ℕ → List ℕ → Option Place
placed places it c name descriptor = option_and_then (slice_get places) (known it c name descriptor)

-- The same of the nearest method that isn't private, whose number says where it stands.
pub record Places (w : World) (places : List Place) (it : Nearest) : Type 0 where
  pub in_line : (c : ClassId) (name descriptor : List ℕ) → placed places it c name descriptor ≡ nearest_place w name descriptor (line_of w.outline c)
  pub in_longer : (c : ClassId) (name descriptor : List ℕ) → placed places it c name descriptor ≡ nearest_place w name descriptor (c ∷ ancestors_of w.outline c)

-- What each class inherits is right.
pub record Inherits (w : World) (h : Heritage) : Type 0 where
  pub shared : Places w h.places h.shared
  pub left : Finds w h.left (says_left w)

-- ---- in lists

-- what is said of a method
abbrev pub saying : Option ℕ → DeclaredMethod → Said
saying value m = record { signature = record { name = m.name; descriptor = m.descriptor }; value = value }

-- the same of each one that passes a test
abbrev pub sayings : (DeclaredMethod → Bool) → Option ℕ → List DeclaredMethod → List Said
sayings test value ms = map (saying value) (filter test ms)

-- of the abstract ones before the others: the first counts
abbrev pub left_sayings : List DeclaredMethod → List Said
left_sayings ms = sayings is_shared_abstract (Some 0) ms ++ sayings is_shared None ms

-- of each method that isn't private its number, from one on
abbrev pub numbered : ℕ → List DeclaredMethod → List Said
numbered n [] = []
numbered n (m ∷ ms) = if is_shared m then saying (Some n) m ∷ numbered (n + 1) ms else numbered n ms

-- where they stand, where the list starts at an index
abbrev pub places_in : ClassId → ℕ → List DeclaredMethod → List Place
places_in c i [] = []
places_in c i (m ∷ ms) = if is_shared m then (record { class = c; index = i }) ∷ places_in c (i + 1) ms else places_in c (i + 1) ms

-- the same of each class, where the list starts at one
abbrev pub all_numbered : ℕ → List ClassView → List (List Said)
all_numbered n [] = []
all_numbered n (v ∷ vs) = numbered n v.methods ∷ all_numbered (n + length (filter is_shared v.methods)) vs

abbrev pub all_places : ℕ → List ClassView → List Place
all_places c [] = []
all_places c (v ∷ vs) = places_in (class_id c) 0 v.methods ++ all_places (c + 1) vs

abbrev pub left_by_class : List ClassView → List (List Said)
left_by_class vs = map (λ v. left_sayings v.methods) vs
