-- What a world keeps beside its classes, so that names are looked up in maps.
use Rattle.std.specs.Prelude.{◌≡◌, ℕ, zero, suc, ◌+◌, ◌<◌, ◌==◌, List, [], ◌∷◌, ◌++◌, length, take, sum_by, slice_get, option_map, Option, Some, None, is_some}
use Rattle.std.specs.List.{list_any}
use Rattle.kilim_program.specs.declared.class.Form.{Form}
use Rattle.kilim_program.specs.declared.names.ClassId.{ClassId}
use Rattle.kilim_program.specs.BuiltIn.{method_id}
use Rattle.kilim_program.specs.Names.{line_of}
use Rattle.kilim_program.specs.Program.{Program}
use Rattle.kilim_link_spec.specs.World.{outline_of, methods_at, is_method, field_id, find_method, find_field}
use Rattle.kilim_link_spec.specs.declared.view.ClassView.{ClassView}
use Rattle.kilim_link_inherited.specs.Trees.{Forest}
use Rattle.kilim_link_inherited.specs.Roots.{inherits}
use Rattle.kilim_link_inherited.specs.declared.nearest.Nearest.{Nearest}
use Rattle.kilim_link_inherited.specs.Known.{known}
use Rattle.kilim_link_world.specs.declared.ids.Ids.{Ids}
use Rattle.kilim_link_inherited.specs.declared.index.Index.{Index}
use Rattle.kilim_link_world.specs.Ids.{id_in, named_in}
use Rattle.kilim_link_world.specs.Superclasses.{AreSuperclasses}
use Rattle.kilim_link_inherited.specs.Index.{positions, places_from}

-- what is made of each number below a bound, in order
abbrev pub each_below : {A : Type 0} → (ℕ → A) → ℕ → List A
each_below make zero = []
each_below make (suc n) = each_below make n ++ make n ∷ []

-- how many methods a class declares
abbrev pub method_count : ClassView → ℕ
method_count v = length v.methods

-- how many fields
abbrev pub field_count : ClassView → ℕ
field_count v = length v.fields

-- the number of the first field of a class: the message of an exception stands before all of them
abbrev pub fields_before : List ClassView → ℕ → ℕ
fields_before classes n = suc (sum_by field_count (take n classes))

-- that of each class, and of one behind the last
abbrev pub field_firsts_of : List ClassView → List ℕ
field_firsts_of classes = each_below (fields_before classes) (length classes + 1)

-- the number of the first member of each class, and of one behind the last
abbrev pub firsts_of : (ClassView → ℕ) → List ClassView → List ℕ
firsts_of count classes = each_below (λ c. sum_by count (take c classes)) (length classes + 1)

-- the places that an index has, none where there is no index
abbrev pub places_at : Option Index → List ℕ → List ℕ → List ℕ
places_at None name descriptor = []
places_at (Some index) name descriptor = positions index.places name descriptor

-- the places of a member in a class
abbrev pub indexed : List Index → ℕ → List ℕ → List ℕ → List ℕ
indexed indices c name descriptor = places_at (slice_get indices c) name descriptor

-- the number of a member at a place of a class, where the class says something of it
abbrev pub placed : ℕ → Option ℕ → Option (Option ℕ)
placed first place = option_map (λ k. Some (first + k)) place

-- Superclasses, names, and the places and first numbers of members agree with the classes, and what is known of
-- lines and of nearest members is what is found by going up.
pub record Agrees (form : Form) (classes : List ClassView) (outline : Program) (ids : Ids) (superclasses : List (Option ClassId)) (lineages : Forest) (methods : List Index) (first_methods first_fields : List ℕ) (nearest_methods nearest_fields : Nearest) : Type 0 where
  pub outlined : outline ≡ outline_of form classes
  pub named : (name : List ℕ) → id_in ids.places name ≡ named_in name classes
  pub superclasses_are : AreSuperclasses outline superclasses
  pub lineages_are : (c : ClassId) (k : ℕ) → k < length classes → is_some (inherits lineages c k) ≡ list_any (λ d. d.0 == k) (line_of outline c)
  pub methods_are : (c : ℕ) (name descriptor : List ℕ) → indexed methods c name descriptor ≡ places_from (is_method name descriptor) 0 (methods_at (slice_get classes c))
  pub first_methods_are : first_methods ≡ firsts_of method_count classes
  pub first_fields_are : first_fields ≡ field_firsts_of classes
  pub nearest_methods_are : (c : ClassId) (name descriptor : List ℕ) → option_map method_id (known nearest_methods c name descriptor) ≡ find_method (record { form = form; classes = classes; outline = outline }) c name descriptor
  pub nearest_fields_are : (c : ClassId) (name descriptor : List ℕ) → option_map field_id (known nearest_fields c name descriptor) ≡ find_field (record { form = form; classes = classes; outline = outline }) c name descriptor
