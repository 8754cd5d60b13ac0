-- The whole table, seen from one mailbox: each instruction.
use Rattle.std.proofs.Common.{◌≡◌, ℕ, zero, suc, true, false, List, [], ◌∷◌, Option, Some, None, Ok, refl}
use Rattle.std.specs.Prelude.{not, slice_get, slice_set, nat_lt, ◌-ℤ◌}
use Rattle.std.specs.Int.{w32, w64, int_wrapping_add, int_wrapping_neg}
use Rattle.kilim_program.specs.declared.class.Method.{Method}
use Rattle.kilim_program.specs.declared.instr.Instr.{Instr}
use Rattle.kilim_program.specs.declared.instr.Instr.TheVariants as instr
use Rattle.kilim_program.specs.declared.names.BoxName.{BoxName}
use Rattle.kilim_program.specs.declared.names.ClassId.{ClassId}
use Rattle.kilim_program.specs.declared.names.MethodId.{MethodId}
use Rattle.kilim_program.specs.declared.ty.Base.{Base}
use Rattle.kilim_program.specs.declared.ty.Base.TheVariants as base
use Rattle.kilim_program.specs.declared.value.Value.{Value}
use Rattle.kilim_program.specs.declared.value.Value.TheVariants as value
use Rattle.kilim_program.specs.declared.verified.VType.TheVariants.{Int, Long, Null}
use Rattle.kilim_program.specs.Names.{field_of, method_at}
use Rattle.kilim_program.specs.Program.{Program}
use Rattle.kilim_run_state.specs.Machine.{Objects}
use Rattle.kilim_run_machine.specs.Does.{array_of, compared, does, is_mailbox, match_target, narrowed_int, table_target, throws_object, to_int}
use Rattle.kilim_run_machine.specs.Effect.{Effect, Goes, Stuck, as_int, as_long, as_reference, on_constant, on_int, on_long, on_object, on_reference, with_some}
use Rattle.kilim_type_spec.specs.Step.{Types, AReference, Initialized, Is, array_ty, by_row, row, constant_row, long_constant_row, made_at, needs, text_type, type_step, vtype_of_class, is_unset}
use Rattle.kilim_type_sound.specs.Facts.{Facts}
use Rattle.kilim_type_sound.proofs.Basics.{takes_inverse}
use Rattle.kilim_new_bounds.proofs.Slots.{HeapSo, Mode, Raw, is_box}
use Rattle.kilim_new_bounds.proofs.Effects.{EffectSo, FrameSo, object_is}
use Rattle.kilim_new_bounds.proofs.Pairs.{Paired}
use Rattle.kilim_new_bounds.proofs.Rows.{add_row, array_row, cast_row, compare_jump_row, compare_row, division_row, dup2_row, dup2_x1_row, dup2_x2_row, dup_row, dup_x1_row, dup_x2_row, element_row, instance_row, int_return, int_row, ints_row, jump_row, length_row, load_ints, load_longs, load_row, long_division_row, long_return, long_row, longs_row, nop, null_jump_row, pop2_row, pop_row, push, reference_jump_row, reference_return, shift_row, store_ints, store_longs, store_object, store_row, swap_row, switch_row, to_int_row, to_long_row}
use Rattle.kilim_new_bounds.proofs.Calls.{get_field, new_so, put_field, special_so, static_field, static_so, virtual_so}
use Rattle.kilim_run_state.specs.Objects.{first_value_of}

first_plain : (b : BoxName) (c : Base) → is_box b (first_value_of c) ≡ false
first_plain b base.Bool = refl
first_plain b base.Byte = refl
first_plain b base.Char = refl
first_plain b base.Short = refl
first_plain b base.Int = refl
first_plain b base.Long = refl
first_plain b (base.Class c) = refl

-- a value that is loaded or stored as it is
module _ (S : Effect → Type 0) (stuck : S Stuck) (v : Value) (go : Value → Effect) (k : S (go v)) where
  same_int : S (as_int v (λ x. go (value.Int x)))
  same_int = by v k
    where
      by : (v : Value) → S (go v) → S (as_int v (λ x. go (value.Int x)))
      by (value.Int x) k = k
      by (value.Long x) k = stuck
      by value.Null k = stuck
      by (value.Ref n) k = stuck
      by (value.Text u) k = stuck
      by (value.Box u) k = stuck
      by value.Fiber k = stuck

  same_long : S (as_long v (λ x. go (value.Long x)))
  same_long = by v k
    where
      by : (v : Value) → S (go v) → S (as_long v (λ x. go (value.Long x)))
      by (value.Long x) k = k
      by (value.Int x) k = stuck
      by value.Null k = stuck
      by (value.Ref n) k = stuck
      by (value.Text u) k = stuck
      by (value.Box u) k = stuck
      by value.Fiber k = stuck

  same_reference : S (as_reference v go)
  same_reference = by v k
    where
      by : (v : Value) → S (go v) → S (as_reference v go)
      by (value.Int x) k = stuck
      by (value.Long x) k = stuck
      by value.Null k = k
      by (value.Ref n) k = k
      by (value.Text u) k = k
      by (value.Box u) k = k
      by value.Fiber k = k

module _ (p : Program) (facts : Facts p) (built : (id : MethodId) (callee : Method) → method_at p id ≡ Some callee → is_mailbox p callee.owner ≡ true → callee.built_in ≡ true) (b : BoxName) (m : Mode) (own : Method)
    (raw_made : (q : ℕ) → m ≡ Raw q → (c : ClassId) → made_at own.code q ≡ Some c → is_mailbox p c ≡ true) (at : ℕ) (f g : Types) (ls vs : List Value) (h : Objects) (frame : FrameSo b m f ls vs) (pairs : Paired b m f.stack vs) (heap : HeapSo b m h) (next : ℕ) where
  abbrev After : Effect → Type 0
  After e = EffectSo p b m at g e

  text_set : (o : Option ClassId) → is_unset (vtype_of_class o) ≡ false
  text_set None = refl
  text_set (Some c) = refl

  constant : (v : Value) → by_row p own at (constant_row p v) f ≡ Ok g → After (on_constant v (λ c. Goes next ls (c ∷ vs) h))
  constant (value.Int x) e = push p b m own at f g ls vs h frame pairs heap next Int (value.Int x) refl refl e
  constant (value.Text u) e = push p b m own at f g ls vs h frame pairs heap next (text_type p) (value.Text u) (text_set _) refl e
  constant (value.Long x) e = absurd (let z = (takes_inverse p own at [] (Int ∷ []) (needs 9 false ∷ []) f g e).also_hold.0 in cc)
  constant value.Null e = tt
  constant (value.Ref n) e = tt
  constant (value.Box n) e = tt
  constant value.Fiber e = tt

  long_constant : (v : Value) → by_row p own at (long_constant_row v) f ≡ Ok g → After (on_constant v (λ c. Goes next ls (c ∷ vs) h))
  long_constant (value.Long x) e = push p b m own at f g ls vs h frame pairs heap next Long (value.Long x) refl refl e
  long_constant (value.Int x) e = absurd (let z = (takes_inverse p own at [] (Long ∷ []) (needs 9 false ∷ []) f g e).also_hold.0 in cc)
  long_constant (value.Text n) e = absurd (let z = (takes_inverse p own at [] (Long ∷ []) (needs 9 false ∷ []) f g e).also_hold.0 in cc)
  long_constant value.Null e = tt
  long_constant (value.Ref n) e = tt
  long_constant (value.Box n) e = tt
  long_constant value.Fiber e = tt

  athrow : (ws : List Value) → After (on_object ws h (λ n object rest. throws_object p n object.class.dims object.class.base))
  athrow [] = tt
  athrow (v ∷ ws) = object_is p b m h After tt (λ c. tt) v _ (λ n o there. by n o.class.dims o.class.base)
    where
      by : (n d : ℕ) (c : Base) → After (throws_object p n d c)
      by n zero (base.Class c) = tt
      by n (suc d) c = tt
      by n zero base.Bool = tt
      by n zero base.Byte = tt
      by n zero base.Char = tt
      by n zero base.Short = tt
      by n zero base.Int = tt
      by n zero base.Long = tt

  pub table_so : (i : Instr) → type_step p own at i f ≡ Ok g → After (does p own i next ls vs h)
  unfolding does row
  table_so instr.Nop e = nop p b m own at f g ls vs h frame pairs heap next e
  table_so instr.AconstNull e = push p b m own at f g ls vs h frame pairs heap next Null value.Null refl refl e
  table_so (instr.Iconst n) e = push p b m own at f g ls vs h frame pairs heap next Int (value.Int n) refl refl e
  table_so (instr.Lconst n) e = push p b m own at f g ls vs h frame pairs heap next Long (value.Long n) refl refl e
  table_so (instr.Bipush n) e = push p b m own at f g ls vs h frame pairs heap next Int (value.Int n) refl refl e
  table_so (instr.Sipush n) e = push p b m own at f g ls vs h frame pairs heap next Int (value.Int n) refl refl e
  table_so (instr.Iload n) e = load_row p b m own at f g ls vs h frame pairs heap next (Is Int) n _ (λ S stuck v at_it k. same_int S stuck v (λ w. Goes next ls (w ∷ vs) h) k) e
  table_so (instr.Lload n) e = load_row p b m own at f g ls vs h frame pairs heap next (Is Long) n _ (λ S stuck v at_it k. same_long S stuck v (λ w. Goes next ls (w ∷ vs) h) k) e
  table_so (instr.Aload n) e = load_row p b m own at f g ls vs h frame pairs heap next AReference n _ (λ S stuck v at_it k. same_reference S stuck v (λ w. Goes next ls (w ∷ vs) h) k) e
  table_so (instr.Istore n) e = store_row p b m own at f g ls vs h frame pairs heap next (Is Int) n (λ ws. on_int ws (λ x rest. with_some (slice_get ls n) (λ _. Goes next (slice_set ls n (value.Int x)) rest h))) (λ S stuck v rest k. same_int S stuck v (λ w. with_some (slice_get ls n) (λ _. Goes next (slice_set ls n w) rest h)) k) e
  table_so (instr.Lstore n) e = store_row p b m own at f g ls vs h frame pairs heap next (Is Long) n (λ ws. on_long ws (λ x rest. with_some (slice_get ls n) (λ _. Goes next (slice_set ls n (value.Long x)) rest h))) (λ S stuck v rest k. same_long S stuck v (λ w. with_some (slice_get ls n) (λ _. Goes next (slice_set ls n w) rest h)) k) e
  table_so (instr.Astore n) e = store_row p b m own at f g ls vs h frame pairs heap next AReference n (λ ws. on_reference ws (λ x rest. with_some (slice_get ls n) (λ _. Goes next (slice_set ls n x) rest h))) (λ S stuck v rest k. same_reference S stuck v (λ w. with_some (slice_get ls n) (λ _. Goes next (slice_set ls n w) rest h)) k) e
  table_so (instr.Iinc n k) e = add_row p b m own at f g ls vs h frame pairs heap next n (λ x. int_wrapping_add w32 x k) e
  table_so instr.Pop e = pop_row p b m own at f g ls vs h frame pairs heap next e
  table_so instr.Pop2 e = pop2_row p b m own at f g ls vs h frame pairs heap next e
  table_so instr.Dup e = dup_row p b m own at f g ls vs h frame pairs heap next e
  table_so instr.DupX1 e = dup_x1_row p b m own at f g ls vs h frame pairs heap next e
  table_so instr.DupX2 e = dup_x2_row p b m own at f g ls vs h frame pairs heap next e
  table_so instr.Dup2 e = dup2_row p b m own at f g ls vs h frame pairs heap next e
  table_so instr.Dup2X1 e = dup2_x1_row p b m own at f g ls vs h frame pairs heap next e
  table_so instr.Dup2X2 e = dup2_x2_row p b m own at f g ls vs h frame pairs heap next e
  table_so instr.Swap e = swap_row p b m own at f g ls vs h frame pairs heap next e
  table_so instr.Iadd e = ints_row p b m own at f g ls vs h frame pairs heap next _ e
  table_so instr.Isub e = ints_row p b m own at f g ls vs h frame pairs heap next _ e
  table_so instr.Imul e = ints_row p b m own at f g ls vs h frame pairs heap next _ e
  table_so instr.Iand e = ints_row p b m own at f g ls vs h frame pairs heap next _ e
  table_so instr.Ior e = ints_row p b m own at f g ls vs h frame pairs heap next _ e
  table_so instr.Ixor e = ints_row p b m own at f g ls vs h frame pairs heap next _ e
  table_so instr.Ishl e = ints_row p b m own at f g ls vs h frame pairs heap next _ e
  table_so instr.Ishr e = ints_row p b m own at f g ls vs h frame pairs heap next _ e
  table_so instr.Iushr e = ints_row p b m own at f g ls vs h frame pairs heap next _ e
  table_so instr.Idiv e = division_row p b m own at f g ls vs h frame pairs heap next _ e
  table_so instr.Irem e = division_row p b m own at f g ls vs h frame pairs heap next _ e
  table_so instr.Ineg e = int_row p b m own at f g ls vs h frame pairs heap next _ e
  table_so instr.I2b e = int_row p b m own at f g ls vs h frame pairs heap next _ e
  table_so instr.I2c e = int_row p b m own at f g ls vs h frame pairs heap next _ e
  table_so instr.I2s e = int_row p b m own at f g ls vs h frame pairs heap next _ e
  table_so instr.I2l e = to_long_row p b m own at f g ls vs h frame pairs heap next (λ a. a) e
  table_so instr.L2i e = to_int_row p b m own at f g ls vs h frame pairs heap next to_int e
  table_so instr.Lneg e = long_row p b m own at f g ls vs h frame pairs heap next (int_wrapping_neg w64) e
  table_so instr.Ladd e = longs_row p b m own at f g ls vs h frame pairs heap next _ e
  table_so instr.Lsub e = longs_row p b m own at f g ls vs h frame pairs heap next _ e
  table_so instr.Lmul e = longs_row p b m own at f g ls vs h frame pairs heap next _ e
  table_so instr.Land e = longs_row p b m own at f g ls vs h frame pairs heap next _ e
  table_so instr.Lor e = longs_row p b m own at f g ls vs h frame pairs heap next _ e
  table_so instr.Lxor e = longs_row p b m own at f g ls vs h frame pairs heap next _ e
  table_so instr.Ldiv e = long_division_row p b m own at f g ls vs h frame pairs heap next _ e
  table_so instr.Lrem e = long_division_row p b m own at f g ls vs h frame pairs heap next _ e
  table_so instr.Lshl e = shift_row p b m own at f g ls vs h frame pairs heap next _ e
  table_so instr.Lshr e = shift_row p b m own at f g ls vs h frame pairs heap next _ e
  table_so instr.Lushr e = shift_row p b m own at f g ls vs h frame pairs heap next _ e
  table_so instr.Lcmp e = compare_row p b m own at f g ls vs h frame pairs heap next compared e
  table_so (instr.Ifeq to) e = jump_row p b m own at f g ls vs h frame pairs heap next to _ e
  table_so (instr.Ifne to) e = jump_row p b m own at f g ls vs h frame pairs heap next to _ e
  table_so (instr.Iflt to) e = jump_row p b m own at f g ls vs h frame pairs heap next to _ e
  table_so (instr.Ifge to) e = jump_row p b m own at f g ls vs h frame pairs heap next to _ e
  table_so (instr.Ifgt to) e = jump_row p b m own at f g ls vs h frame pairs heap next to _ e
  table_so (instr.Ifle to) e = jump_row p b m own at f g ls vs h frame pairs heap next to _ e
  table_so (instr.IfIcmpeq to) e = compare_jump_row p b m own at f g ls vs h frame pairs heap next to _ e
  table_so (instr.IfIcmpne to) e = compare_jump_row p b m own at f g ls vs h frame pairs heap next to _ e
  table_so (instr.IfIcmplt to) e = compare_jump_row p b m own at f g ls vs h frame pairs heap next to _ e
  table_so (instr.IfIcmpge to) e = compare_jump_row p b m own at f g ls vs h frame pairs heap next to _ e
  table_so (instr.IfIcmpgt to) e = compare_jump_row p b m own at f g ls vs h frame pairs heap next to _ e
  table_so (instr.IfIcmple to) e = compare_jump_row p b m own at f g ls vs h frame pairs heap next to _ e
  table_so (instr.IfAcmpeq to) e = reference_jump_row p b m own at f g ls vs h frame pairs heap next to (λ b. b) (record { number = 10; holds = true; operands = Initialized ∷ Initialized ∷ [] } ∷ []) e
  table_so (instr.IfAcmpne to) e = reference_jump_row p b m own at f g ls vs h frame pairs heap next to not (record { number = 10; holds = true; operands = Initialized ∷ Initialized ∷ [] } ∷ []) e
  table_so (instr.Ifnull to) e = null_jump_row p b m own at f g ls vs h frame pairs heap next to (λ b. b) (record { number = 10; holds = true; operands = Initialized ∷ [] } ∷ []) e
  table_so (instr.Ifnonnull to) e = null_jump_row p b m own at f g ls vs h frame pairs heap next to not (record { number = 10; holds = true; operands = Initialized ∷ [] } ∷ []) e
  table_so (instr.Goto to) e = nop p b m own at f g ls vs h frame pairs heap to e
  table_so (instr.GotoW to) e = nop p b m own at f g ls vs h frame pairs heap to e
  table_so (instr.Tableswitch default low targets) e = switch_row p b m own at f g ls vs h frame pairs heap (λ a. table_target targets (a -ℤ low) default) e
  table_so (instr.Lookupswitch default entries) e = switch_row p b m own at f g ls vs h frame pairs heap (λ a. match_target entries a default) e
  table_so instr.Ireturn e = int_return p b m own at f g ls vs h frame pairs heap own.result
  table_so instr.Lreturn e = long_return p b m own at f g ls vs h frame pairs heap
  table_so instr.Areturn e = reference_return p b m own at f g ls vs h frame pairs heap e
  table_so instr.Return e = (tt, heap)
  table_so instr.Iaload e = load_ints p b m own at f g ls vs h frame pairs heap next (base.Int ∷ []) e
  table_so instr.Baload e = load_ints p b m own at f g ls vs h frame pairs heap next (base.Byte ∷ base.Bool ∷ []) e
  table_so instr.Caload e = load_ints p b m own at f g ls vs h frame pairs heap next (base.Char ∷ []) e
  table_so instr.Saload e = load_ints p b m own at f g ls vs h frame pairs heap next (base.Short ∷ []) e
  table_so instr.Laload e = load_longs p b m own at f g ls vs h frame pairs heap next (base.Long ∷ []) e
  table_so instr.Iastore e = store_ints p b m own at f g ls vs h frame pairs heap next (base.Int ∷ []) (λ c x. x) e
  table_so instr.Bastore e = store_ints p b m own at f g ls vs h frame pairs heap next (base.Byte ∷ base.Bool ∷ []) narrowed_int e
  table_so instr.Castore e = store_ints p b m own at f g ls vs h frame pairs heap next (base.Char ∷ []) narrowed_int e
  table_so instr.Sastore e = store_ints p b m own at f g ls vs h frame pairs heap next (base.Short ∷ []) narrowed_int e
  table_so instr.Lastore e = store_longs p b m own at f g ls vs h frame pairs heap next (base.Long ∷ []) e
  table_so instr.Aastore e = store_object p b m own at f g ls vs h frame pairs heap next e
  table_so instr.Arraylength e = length_row p b m own at f g ls vs h frame pairs heap next e
  table_so (instr.Checkcast ty) e = cast_row p b m own at f g ls vs h frame pairs heap next ty e
  table_so (instr.Instanceof ty) e = instance_row p b m own at f g ls vs h frame pairs heap next ty e
  table_so (instr.Newarray c) e = array_row p b m own at f g ls vs h frame pairs heap next (record { dims = 1; base = c }) (record { dims = 1; base = c }) (first_value_of c) [] (first_plain b c) e
  table_so (instr.Ldc v) e = constant v e
  table_so (instr.LdcW v) e = constant v e
  table_so (instr.Ldc2W v) e = long_constant v e
  table_so (instr.New c) e = new_so p facts built b m own raw_made at f g ls vs h frame pairs heap next c e
  table_so (instr.Anewarray ty) e = array_row p b m own at f g ls vs h frame pairs heap next (array_of ty) (array_ty ty) value.Null (needs 13 (nat_lt ty.dims 255) ∷ []) refl e
  table_so (instr.Invokevirtual id) e = virtual_so p facts built b m own raw_made at f g ls vs h frame pairs heap next id (method_at p id) refl e
  table_so (instr.Invokestatic id) e = static_so p facts built b m own raw_made at f g ls vs h frame pairs heap next id (method_at p id) refl e
  table_so (instr.Invokespecial id) e = special_so p facts built b m own raw_made at f g ls vs h frame pairs heap next id (method_at p id) refl e
  table_so (instr.Getstatic x) e = static_field p facts built b m own raw_made at f g ls vs h frame pairs heap next x (field_of p x) e
  table_so (instr.Getfield x) e = get_field p facts built b m own raw_made at f g ls vs h frame pairs heap next x (field_of p x) e
  table_so (instr.Putfield x) e = put_field p facts built b m own raw_made at f g ls vs h frame pairs heap next x (field_of p x) refl e
  table_so instr.Aaload e = element_row p b m own at f g ls vs h frame pairs heap next e
  table_so instr.Athrow e = athrow vs
