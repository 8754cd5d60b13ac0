-- What attributes say of parameters, by their places.
use Rattle.std.specs.Prelude.{ℕ, ◌+◌, Bool, if◌then◌else◌, List, [], ◌∷◌, slice_get, unwrap_or}
use Rattle.std.specs.List.{flat_map}
use Rattle.kilim_class_descriptors.specs.declared.types.FieldText.{FieldText}
use Rattle.kilim_program.specs.declared.ty.Qualifier.{Qualifier}
use Rattle.kilim_program.specs.declared.ty.Qualifier.TheVariants.{Free, Cuttable, Safe}
use Rattle.kilim_link_spec.specs.World.{World}
use Rattle.kilim_link_spec.specs.Qualified.{param_by}

-- the qualifier of the first of three marks that is there, else the default
abbrev pub first_mark : Bool → Bool → Bool → Qualifier → Qualifier
first_mark free cuttable safe default = if free then Free else (if cuttable then Cuttable else (if safe then Safe else default))

-- what an attribute says of the parameter at a place, nothing past its end
abbrev pub types_at : ℕ → List (List (List ℕ)) → List (List ℕ)
types_at at lists = unwrap_or (slice_get lists at) []

-- what all attributes say of it
abbrev pub all_at : ℕ → List (List (List (List ℕ))) → List (List ℕ)
all_at at attributes = flat_map (types_at at) attributes

-- the qualifiers of parameters, of which the first stands at a place
abbrev pub params_from : World → ℕ → List FieldText → List (List (List (List ℕ))) → List Qualifier
params_from w at [] attributes = []
params_from w at (f ∷ fs) attributes = param_by w f (all_at at attributes) ∷ params_from w (at + 1) fs attributes
