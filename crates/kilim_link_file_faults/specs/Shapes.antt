-- The types of descriptors and of arrays, of any number of dimensions.
use Rattle.std.specs.Prelude.{nat_lt}
use Rattle.kilim_class_descriptors.specs.declared.types.FieldText.{FieldText}
pub use Rattle.kilim_link_file_faults.specs.declared.types.Shape.{Shape}

-- whether a type is an array, and its element
abbrev pub shape_of : FieldText → Shape
shape_of f = record { is_array = nat_lt 0 f.dims; base = f.base }
