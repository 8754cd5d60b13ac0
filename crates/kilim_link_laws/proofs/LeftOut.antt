-- Of a class without a problem nothing is left out.
use Rattle.std.proofs.Common.{◌≡◌, Bool, true, false, not, [], refl}
use Rattle.kilim_lemmas.proofs.Lists.{front_none, rest_none, map_none}
use Rattle.kilim_class_file.specs.declared.class_file.ClassFile.{ClassFile}
use Rattle.kilim_program.specs.declared.names.ClassId.{ClassId}
use Rattle.kilim_link_spec.specs.declared.fault.LeftOutPart.{LeftOutPart}
use Rattle.kilim_link_spec.specs.Faults.{has_fiber_name, has_float, has_initializer, has_interface, has_method_flag, has_other_parameters, has_pausable_constructor, has_pausable_handlers, has_static_field, has_task_array, if_left, left_out, left_out_ops, left_out_parts}
use Rattle.kilim_link_spec.specs.Laws.{NoProblem}
use Rattle.kilim_link_spec.specs.World.{World, acc_native, acc_super, acc_synchronized, has_flag}

not_left : (b : Bool) (p : LeftOutPart) → if_left b p ≡ [] → b ≡ false
not_left true p e = absurd (cc)
not_left false p e = refl

pub record NothingLeftOut (w : World) (file : ClassFile) : Type 0 where
  pub ops : left_out_ops file ≡ []
  pub float : has_float file ≡ false
  pub initializer : has_initializer file ≡ false
  pub static_field : has_static_field w file ≡ false
  pub synchronized : has_method_flag acc_synchronized file ≡ false
  pub native : has_method_flag acc_native file ≡ false
  pub interface : has_interface file ≡ false
  pub super_flag : not (has_flag acc_super file.access_flags) ≡ false
  pub constructor : has_pausable_constructor file ≡ false
  pub handlers : has_pausable_handlers file ≡ false
  pub task_array : has_task_array w file ≡ false
  pub fiber : has_fiber_name w file ≡ false
  pub parameters : has_other_parameters file ≡ false

pub nothing_left_out : (w : World) (file : ClassFile) (c : ClassId) → NoProblem w file c → NothingLeftOut w file
unfolding left_out left_out_parts
nothing_left_out w file c n =
    let e = map_none _ (left_out_parts w file) n.none_left_out in
    let r2 = rest_none _ _ e in
    let r3 = rest_none _ _ r2 in
    let r4 = rest_none _ _ r3 in
    let r5 = rest_none _ _ r4 in
    let r6 = rest_none _ _ r5 in
    let r7 = rest_none _ _ r6 in
    let r8 = rest_none _ _ r7 in
    let r9 = rest_none _ _ r8 in
    let r10 = rest_none _ _ r9 in
    let r11 = rest_none _ _ r10 in
    let r12 = rest_none _ _ r11 in
    record {
      ops = map_none _ _ (front_none _ _ e);
      float = not_left _ _ (front_none _ _ r2);
      initializer = not_left _ _ (front_none _ _ r3);
      static_field = not_left _ _ (front_none _ _ r4);
      synchronized = not_left _ _ (front_none _ _ r5);
      native = not_left _ _ (front_none _ _ r6);
      interface = not_left _ _ (front_none _ _ r7);
      super_flag = not_left _ _ (front_none _ _ r8);
      constructor = not_left _ _ (front_none _ _ r9);
      handlers = not_left _ _ (front_none _ _ r10);
      task_array = not_left _ _ (front_none _ _ r11);
      fiber = not_left _ _ (front_none _ _ r12);
      parameters = not_left _ _ (rest_none _ _ r12);
    }
