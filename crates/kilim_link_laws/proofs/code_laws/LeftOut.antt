-- What a class has not, of which nothing is left out.
use Rattle.std.proofs.Common.{◌≡◌, Bool, true, false, List, [], ◌∷◌, ◌++◌, map, refl}
use Rattle.std.specs.Prelude.{not}
use Rattle.std.specs.List.{AllByRecursion}
use Rattle.kilim_lemmas.proofs.Lists.{front_none, rest_none, map_none}
use Rattle.kilim_class_file.specs.declared.class_file.ClassFile.{ClassFile}
use Rattle.kilim_program.specs.declared.names.ClassId.{ClassId}
use Rattle.kilim_link_spec.specs.declared.fault.LeftOutPart.{LeftOutPart}
use Rattle.kilim_link_spec.specs.declared.fault.LeftOutPart.TheVariants as part
use Rattle.kilim_link_spec.specs.declared.fault.Problem.TheVariants as problem
use Rattle.kilim_link_spec.specs.Faults.{if_left, left_out, left_out_parts, left_out_ops, has_float, has_initializer, has_static_field, has_method_flag, has_interface, has_pausable_constructor, has_pausable_handlers, has_task_array, has_fiber_name, has_other_parameters}
use Rattle.kilim_link_spec.specs.World.{World, acc_super, acc_synchronized, acc_native, has_flag}

pub record NothingLeftOut (w : World) (file : ClassFile) : Type 0 where
  pub ops : left_out_ops file ≡ []
  pub float : has_float file ≡ false
  pub static_field : has_static_field w file ≡ false
  pub pausable_constructor : has_pausable_constructor file ≡ false
  pub task_array : has_task_array w file ≡ false
  pub fiber : has_fiber_name w file ≡ false

-- parts, each with whether a class has it
abbrev named_parts : List (Bool × LeftOutPart) → List LeftOutPart
named_parts [] = []
named_parts (x ∷ []) = if_left x.0 x.1
named_parts (x ∷ y ∷ xs) = if_left x.0 x.1 ++ named_parts (y ∷ xs)

is_not : (b : Bool) (p : LeftOutPart) → if_left b p ≡ [] → b ≡ false
is_not true p e = absurd (cc)
is_not false p e = refl

none_named : (xs : List (Bool × LeftOutPart)) → named_parts xs ≡ [] → AllByRecursion (λ x. x.0 ≡ false) xs
none_named [] e = tt
none_named (x ∷ []) e = (is_not x.0 x.1 e, tt)
none_named (x ∷ y ∷ xs) e =
    (is_not x.0 x.1 (front_none (if_left x.0 x.1) (named_parts (y ∷ xs)) e), none_named (y ∷ xs) (rest_none (if_left x.0 x.1) (named_parts (y ∷ xs)) e))

-- in the order in which one of several is named
abbrev parts_with : World → ClassFile → List (Bool × LeftOutPart)
parts_with w file =
    (has_float file, part.Float)
    ∷ (has_initializer file, part.ClassInitializer)
    ∷ (has_static_field w file, part.StaticField)
    ∷ (has_method_flag acc_synchronized file, part.Synchronized)
    ∷ (has_method_flag acc_native file, part.Native)
    ∷ (has_interface file, part.Interface)
    ∷ (not (has_flag acc_super file.access_flags), part.NoSuperFlag)
    ∷ (has_pausable_constructor file, part.PausableConstructor)
    ∷ (has_pausable_handlers file, part.PausableHandlers)
    ∷ (has_task_array w file, part.TaskArray)
    ∷ (has_fiber_name w file, part.Fiber)
    ∷ (has_other_parameters file, part.ParameterAnnotations)
    ∷ []

pub nothing_left_out : (w : World) (file : ClassFile) (c : ClassId) → left_out w file c ≡ [] → NothingLeftOut w file
unfolding left_out left_out_parts
nothing_left_out w file c e =
    let none : map part.Opcode (left_out_ops file) ++ named_parts (parts_with w file) ≡ [] = map_none problem.LeftOut _ e in
    let all = none_named (parts_with w file) (rest_none (map part.Opcode (left_out_ops file)) (named_parts (parts_with w file)) none) in
    record {
      ops = map_none part.Opcode (left_out_ops file) (front_none (map part.Opcode (left_out_ops file)) (named_parts (parts_with w file)) none);
      float = all.0;
      static_field = all.1.1.0;
      pausable_constructor = all.1.1.1.1.1.1.1.0;
      task_array = all.1.1.1.1.1.1.1.1.1.0;
      fiber = all.1.1.1.1.1.1.1.1.1.1.0;
    }
