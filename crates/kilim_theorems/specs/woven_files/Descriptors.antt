-- Descriptors in plain form, and with the fiber.
use Rattle.std.specs.Prelude.{◌≡◌, ◌≢◌, ℕ, List, Ok}
use Rattle.std.specs.List.{AllByRecursion}
use Rattle.kilim_class_descriptors.specs.declared.types.MethodText.{MethodText}
use Rattle.kilim_class_descriptors.specs.Reading.{whole_method}
use Rattle.kilim_weave_file_spec.specs.Texts.{fiber_text, woven_descriptor}
use Rattle.kilim_theorems.specs.woven_files.Members.{Apart}

-- a descriptor of which no parameter is the fiber
pub record IsPlain (units : List ℕ) : Type 0 where
  pub method : MethodText
  pub is : whole_method units ≡ Ok method
  pub plain : AllByRecursion (λ f. f ≢ fiber_text) method.params

abbrev pub DescriptorsApart : Type 0
DescriptorsApart = Apart woven_descriptor IsPlain
