-- Parts of the lists of problems with methods, as the code goes over them.
use Rattle.std.specs.Prelude.{◌≡◌, ℕ, Bool, true, false, not, ◌&&◌, ◌==◌, List, [], ◌∷◌, ◌++◌, map, Option, Some, None, slice_get, codes}
use Rattle.std.specs.List.{list_any, flat_map}
use Rattle.std.specs.Str.{bytes_eq}
use Rattle.kilim_program.specs.declared.names.ClassId.{ClassId}
use Rattle.kilim_program.specs.Same.{same_flag}
use Rattle.kilim_link_spec.specs.Faults.{is_left_above, agrees, differs_from, same_qualified}
use Rattle.kilim_link_spec.specs.Qualified.{is_constructor_name, qualified}
use Rattle.kilim_link_spec.specs.World.{World, declared_methods, is_method}
use Rattle.kilim_link_spec.specs.declared.view.Marks.{Marks}
use Rattle.kilim_link_spec.specs.declared.view.Marks.TheVariants.{Annotated}
use Rattle.kilim_link_spec.specs.declared.view.DeclaredMethod.{DeclaredMethod}

-- ---- members by their places

-- the element at a place is there and passes a test
abbrev pub is_so : {A : Type 0} → (A → Bool) → Option A → Bool
is_so test None = false
is_so test (Some x) = test x

abbrev pub passes_at : {A : Type 0} → (A → Bool) → List A → ℕ → Bool
passes_at test xs place = is_so test (slice_get xs place)

-- ---- overriding

-- a method differs from that one of its name and descriptor, which isn't private
abbrev pub other_differs : World → ClassId → DeclaredMethod → ClassId → DeclaredMethod → Bool
other_differs w c m d other = not other.is_private && not (agrees w c m d other)

-- no annotation stands on a method or on its parameters
abbrev pub has_no_marks : Marks → Bool
has_no_marks (Annotated [] []) = true
has_no_marks marks = false

-- It has no annotation and is neither `execute` nor a constructor: its receiver is safe, in every class.
abbrev pub is_unmarked : DeclaredMethod → Bool
is_unmarked m = has_no_marks m.marks && (not (bytes_eq m.name (codes "execute")) && not (is_constructor_name m.name))

-- both are so and have one descriptor: they have the same qualifiers
abbrev pub are_unmarked : DeclaredMethod → DeclaredMethod → Bool
are_unmarked m other = is_unmarked m && (is_unmarked other && bytes_eq m.descriptor other.descriptor)

-- two of one name and descriptor are alike: what may override one may override the other
abbrev pub alike : World → ClassId → DeclaredMethod → DeclaredMethod → Bool
alike w c m other = same_flag m.pausable other.pausable && (same_flag m.is_static other.is_static && (same_flag m.is_final other.is_final && same_qualified (qualified w c m) (qualified w c other)))

-- a method differs from one that a class above declares
abbrev pub differs_in : World → ClassId → DeclaredMethod → ClassId → Bool
differs_in w c m d = list_any (differs_from w c m) (map (λ other. (d, other)) (declared_methods w d))

-- ---- abstract methods

abbrev pub is_shared : DeclaredMethod → Bool
is_shared m = not m.is_private

-- it has that name and descriptor, and isn't private
abbrev pub shared_as : List ℕ → List ℕ → DeclaredMethod → Bool
shared_as name descriptor o = not o.is_private && is_method name descriptor o

-- a class declares such a method
abbrev pub stands_in : World → List ℕ → List ℕ → ClassId → Bool
stands_in w name descriptor d = list_any (shared_as name descriptor) (declared_methods w d)

-- the methods of a class and of these ancestors
abbrev pub nearer_than : World → ClassId → List ClassId → List DeclaredMethod
nearer_than w c ds = declared_methods w c ++ flat_map (declared_methods w) ds

-- one of them has that name and descriptor, and isn't private
abbrev pub is_nearer : World → ClassId → List ClassId → List ℕ → List ℕ → Bool
is_nearer w c ds name descriptor = list_any (shared_as name descriptor) (nearer_than w c ds)

-- an abstract method of an ancestor is left, where these are nearer
abbrev pub is_left_over : World → ClassId → List ClassId → DeclaredMethod → Bool
is_left_over w c ds m = is_left_above (nearer_than w c ds) m

-- it is this class
abbrev pub is_class : ClassId → Option ClassId → Bool
is_class d None = false
is_class d (Some e) = e.0 == d.0

-- in a list of classes these stand before this one
abbrev pub StandsBehind : List ClassId → List ClassId → ClassId → Type 0
StandsBehind ds nearer d = (later : List ClassId) × (ds ≡ nearer ++ d ∷ later)
