-- Methods that differ from the nearest one that they override, or from one beside them.
use Rattle.std.specs.Prelude.{ℕ, ◌+◌, Bool, false, ◌&&◌, ◌||◌, not, if◌then◌else◌, List, [], ◌∷◌, Option, Some, None}
use Rattle.std.specs.List.{list_any}
use Rattle.kilim_program.specs.declared.names.ClassId.{ClassId}
use Rattle.kilim_program.specs.BuiltIn.{class_id}
use Rattle.kilim_program.specs.Keeps.{ancestors_of}
use Rattle.kilim_link_spec.specs.Faults.{agrees}
use Rattle.kilim_link_spec.specs.Qualified.{is_constructor_name}
use Rattle.kilim_link_spec.specs.declared.view.ClassView.{ClassView}
use Rattle.kilim_link_spec.specs.declared.view.DeclaredMethod.{DeclaredMethod}
use Rattle.kilim_link_spec.specs.World.{World, declared_methods, is_method}
use Rattle.kilim_link_inherited.specs.declared.said.Said.{Said}
use Rattle.kilim_link_override_faults.specs.Parts.{alike}
use Rattle.kilim_link_override_faults.specs.Heritage.{first_declared, first_shared, sayings}

-- a method may not override that one, where there is one
abbrev pub disagrees : World → ClassId → DeclaredMethod → ClassId → Option DeclaredMethod → Bool
disagrees w c m d None = false
disagrees w c m d (Some other) = not (agrees w c m d other)

-- the same of the first one of a class, where there is such a class
abbrev pub differs_there : World → ClassId → DeclaredMethod → Option ClassId → Bool
differs_there w c m None = false
differs_there w c m (Some d) = disagrees w c m d (first_declared w m.name m.descriptor d)

-- a method differs from the first one of the nearest ancestor that declares one that it overrides
abbrev pub differs_nearest : World → ClassId → DeclaredMethod → Bool
differs_nearest w c m = differs_there w c m (first_shared w m.name m.descriptor (ancestors_of w.outline c))

-- a method is unlike that one, where there is one
abbrev pub is_unlike : World → ClassId → DeclaredMethod → Option DeclaredMethod → Bool
is_unlike w c m None = false
is_unlike w c m (Some other) = not (alike w c m other)

-- a method, which isn't private, is unlike the first one of its class
abbrev pub differs_here : World → ClassId → DeclaredMethod → Bool
differs_here w c m = is_unlike w c m (first_declared w m.name m.descriptor c)

-- either of a method that overrides: constructors and private ones override nothing
abbrev pub is_apart : World → ClassId → DeclaredMethod → Bool
is_apart w c m = not (is_constructor_name m.name) && (not m.is_private && (differs_here w c m || differs_nearest w c m))

-- a class declares such a method of that name and descriptor
abbrev pub has_apart : World → List ℕ → List ℕ → ClassId → Bool
has_apart w name descriptor c = list_any (λ m. is_apart w c m && is_method name descriptor m) (declared_methods w c)

-- 0 where it declares one
abbrev pub says_apart : World → List ℕ → List ℕ → ClassId → Option (Option ℕ)
says_apart w name descriptor c = if has_apart w name descriptor c then Some (Some 0) else None

-- what each class says, in order, where the list starts at one
abbrev pub apart_from : World → ℕ → List ClassView → List (List Said)
apart_from w c [] = []
apart_from w c (v ∷ vs) = sayings (is_apart w (class_id c)) (Some 0) v.methods ∷ apart_from w (c + 1) vs
