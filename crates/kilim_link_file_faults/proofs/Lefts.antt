-- The left-out parts, by the tests for them.
use Rattle.std.proofs.Common.{◌≡◌, List, [], ◌∷◌, ◌++◌, map, refl}
use Rattle.std.specs.Prelude.{option_map}
use Rattle.kilim_class_file.specs.declared.class_file.ClassFile.{ClassFile}
use Rattle.kilim_link_spec.specs.declared.fault.LeftOutPart.TheVariants as part
use Rattle.kilim_link_spec.specs.World.{World, or_else}
use Rattle.kilim_link_spec.specs.Linked.{first_of}
use Rattle.kilim_link_spec.specs.LeftOut.{left_out_ops, left_out_parts}
use Rattle.kilim_link_file_faults.specs.Lefts.{tested_parts}

first_append : {A B : Type 0} (f : A → B) (xs : List A) (ys : List B) → first_of (map f xs ++ ys) ≡ or_else (option_map f (first_of xs)) (first_of ys)
first_append f [] ys = refl
first_append f (x ∷ xs) ys = refl

-- the instructions first
pub parted : (w : World) (file : ClassFile) → first_of (left_out_parts w file) ≡ or_else (option_map part.Opcode (first_of (left_out_ops file))) (first_of (tested_parts w file))
unfolding left_out_parts
parted w file = first_append part.Opcode (left_out_ops file) (tested_parts w file)
