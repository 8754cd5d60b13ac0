-- The whole table: each instruction.
use Rattle.std.proofs.Common.{◌≡◌, inl, inr, ℕ, zero, suc, ℤ, pos, negsuc, Bool, true, false, cond, List, [], ◌∷◌, map, Option, Ok, refl, sym, subst}
use Rattle.std.specs.Prelude.{not, slice_get, nat_lt, ◌-ℤ◌}
use Rattle.std.specs.Int.{w32, w64, int_wrapping_add, int_wrapping_neg}
use Rattle.std.specs.Ordering.{int_eq}
use Rattle.std.specs.List.{list_any}
use Rattle.std.proofs.lemmas.Bool.{eq-eqb}
use Rattle.kilim_program.specs.declared.class.Method.{Method}
use Rattle.kilim_program.specs.declared.instr.Instr.{Instr}
use Rattle.kilim_program.specs.declared.instr.Instr.TheVariants as instr
use Rattle.kilim_program.specs.declared.ty.Base.{Base}
use Rattle.kilim_program.specs.declared.ty.Base.TheVariants as base
use Rattle.kilim_program.specs.declared.value.Value.{Value}
use Rattle.kilim_program.specs.declared.value.Value.TheVariants as value
use Rattle.kilim_program.specs.declared.verified.VType.TheVariants.{Int, Long, Null}
use Rattle.kilim_program.specs.Program.{Program}
use Rattle.kilim_run_state.specs.Machine.{Objects}
use Rattle.kilim_program.specs.Names.{method_at, field_of}
use Rattle.kilim_program.specs.Lengths.{jump_targets, ends_path}
use Rattle.kilim_program.specs.Same.{same_base}
use Rattle.kilim_program.specs.Fits.{is_reference_base}
use Rattle.kilim_run_machine.specs.Does.{does, compared, to_int, table_target, target_or, match_target, narrowed_int}
use Rattle.kilim_type_spec.specs.Step.{Types, row, by_row, type_step, constant_row, long_constant_row, text_type, vtype_of_class, needs, made_at, made_by}
use Rattle.kilim_program.specs.BuiltIn.{class_type}
use Rattle.kilim_program.specs.declared.names.ClassId.{ClassId}
use Rattle.kilim_run_machine.specs.Effect.{Goes, on_constant}
use Rattle.kilim_program.specs.Members.{named_class}
use Rattle.kilim_type_spec.specs.Typed.{writes, edges, Among}
use Rattle.kilim_type_sound.specs.Fits.{Classes, HeapFits, int_fits, has_type, refers, IsProper}
use Rattle.kilim_type_sound.specs.Sound.{EffectFits}
use Rattle.kilim_type_sound.specs.Facts.{Facts, Narrows}
use Rattle.kilim_type_sound.proofs.Values.{is_int_base}
use Rattle.kilim_type_sound.proofs.Rows.{Before, push, nop, ints_row, division_row, int_row, to_long_row, to_int_row, long_row, longs_row, long_division_row, compare_row, shift_row, jump_row, compare_jump_row, reference_jump_row, null_jump_row, goto_row, switch_row, pop_row, pop2_row, dup_row, dup_x1_row, dup_x2_row, dup2_row, dup2_x1_row, dup2_x2_row, swap_row, iload_row, lload_row, aload_row}
use Rattle.kilim_type_sound.proofs.Locals.{istore_row, lstore_row, astore_row, iinc_row, ireturn_row, lreturn_row, return_row, areturn_row}
use Rattle.kilim_type_sound.proofs.Heap.{load_ints, load_longs, store_ints, store_longs, store_object, length_row, cast_row, instance_row, newarray_row, anewarray_row}
use Rattle.kilim_type_sound.proofs.Basics.{takes_inverse}
use Rattle.kilim_type_sound.proofs.Creation.{new_row}
use Rattle.kilim_type_sound.proofs.Fields.{getstatic_row, getfield_row, putfield_row}
use Rattle.kilim_type_sound.proofs.Throwing.{throw_row}
use Rattle.kilim_type_sound.proofs.Elements.{element_row}
use Rattle.kilim_type_sound.proofs.Invokes.{virtual_fits, static_fits, special_fit}

-- ---- targets of switches

among_more : (to default : ℕ) (t : ℕ) (ts : List ℕ) → Among (default ∷ ts) to → Among (default ∷ t ∷ ts) to
among_more to default t ts (inl e) = inl e
among_more to default t ts (inr a) = inr (inr a)

table_at : (targets : List ℕ) (i : ℕ) (default : ℕ) → Among (default ∷ targets) (target_or (slice_get targets i) default)
table_at [] i default = inl refl
table_at (t ∷ ts) zero default = inr (inl refl)
table_at (t ∷ ts) (suc i) default = among_more _ default t ts (table_at ts i default)

table_among : (targets : List ℕ) (i : ℤ) (default : ℕ) → Among (default ∷ targets) (table_target targets i default)
table_among targets (pos i) default = table_at targets i default
table_among targets (negsuc i) default = inl refl

match_among : (entries : List (ℤ × ℕ)) (x : ℤ) (default : ℕ) → Among (default ∷ map (λ pair. pair.1) entries) (match_target entries x default)
match_among [] x default = inl refl
match_among (e ∷ es) x default = by (int_eq e.0 x) (match_among es x default)
  where
    by : (z : Bool) → Among (default ∷ map (λ (pair : ℤ × ℕ). pair.1) es) (match_target es x default) → Among (default ∷ e.1 ∷ map (λ (pair : ℤ × ℕ). pair.1) es) (cond z e.1 (match_target es x default))
    by true a = inr (inl refl)
    by false a = among_more _ default e.1 (map (λ (pair : ℤ × ℕ). pair.1) es) a

-- ---- the bases of arrays of numbers

plain_int : (c : Base) → is_reference_base c ≡ true → list_any (same_base c) (base.Int ∷ []) ≡ false
plain_int (base.Class c) e = refl
plain_int c e = absurd (cc)

of_int : (c : Base) → list_any (same_base c) (base.Int ∷ []) ≡ true → is_int_base c ≡ true
of_int base.Int e = refl
of_int c e = absurd (cc)

plain_byte : (c : Base) → is_reference_base c ≡ true → list_any (same_base c) (base.Byte ∷ base.Bool ∷ []) ≡ false
plain_byte (base.Class c) e = refl
plain_byte c e = absurd (cc)

of_byte : (c : Base) → list_any (same_base c) (base.Byte ∷ base.Bool ∷ []) ≡ true → is_int_base c ≡ true
of_byte base.Byte e = refl
of_byte base.Bool e = refl
of_byte c e = absurd (cc)

plain_char : (c : Base) → is_reference_base c ≡ true → list_any (same_base c) (base.Char ∷ []) ≡ false
plain_char (base.Class c) e = refl
plain_char c e = absurd (cc)

of_char : (c : Base) → list_any (same_base c) (base.Char ∷ []) ≡ true → is_int_base c ≡ true
of_char base.Char e = refl
of_char c e = absurd (cc)

plain_short : (c : Base) → is_reference_base c ≡ true → list_any (same_base c) (base.Short ∷ []) ≡ false
plain_short (base.Class c) e = refl
plain_short c e = absurd (cc)

of_short : (c : Base) → list_any (same_base c) (base.Short ∷ []) ≡ true → is_int_base c ≡ true
of_short base.Short e = refl
of_short c e = absurd (cc)

whole_int : (c : Base) (x : ℤ) → list_any (same_base c) (base.Int ∷ []) ≡ true → int_fits c x ≡ true
whole_int base.Int x e = refl
whole_int c x e = absurd (cc)

module _ (p : Program) (facts : Facts p) (narrows : Narrows) (m : Method) (of : Classes) (h : Objects) (heap : HeapFits p of h) (live : ℕ → ℕ → Bool) (at next : ℕ) (f g : Types) (ls vs : List Value) where
  module _ (i : Instr) (b : Before p m of h live at next f ls vs i) (w : (k : ℕ) → writes i k ≡ false) (on : Among (edges i next) next) where
    constant : (v : Value) → by_row p m at (constant_row p v) f ≡ Ok g → EffectFits p m of live next ls h (edges i next) g (on_constant v (λ c. Goes next ls (c ∷ vs) h))
    constant (value.Int x) e = push p facts.order m of h heap live at next f g ls vs i b w on Int (value.Int x) refl e
    constant (value.Text u) e = push p facts.order m of h heap live at next f g ls vs i b w on (text_type p) (value.Text u) text e
      where
        text : has_type p m of (text_type p) (value.Text u) ≡ true
        text = subst (λ (o : Option ClassId). refers p m (vtype_of_class o) (named_class o) ≡ true) (sym facts.string.1) (facts.order.itself (class_type facts.string.0.0))
    constant (value.Long x) e = absurd (let z = (takes_inverse p m at [] (Int ∷ []) (needs 9 false ∷ []) f g e).also_hold.0 in cc)
    constant value.Null e = absurd (let z = (takes_inverse p m at [] (Int ∷ []) (needs 9 false ∷ []) f g e).also_hold.0 in cc)
    constant (value.Ref n) e = absurd (let z = (takes_inverse p m at [] (Int ∷ []) (needs 9 false ∷ []) f g e).also_hold.0 in cc)
    constant (value.Box n) e = absurd (let z = (takes_inverse p m at [] (Int ∷ []) (needs 9 false ∷ []) f g e).also_hold.0 in cc)
    constant value.Fiber e = absurd (let z = (takes_inverse p m at [] (Int ∷ []) (needs 9 false ∷ []) f g e).also_hold.0 in cc)

    long_constant : (v : Value) → by_row p m at (long_constant_row v) f ≡ Ok g → EffectFits p m of live next ls h (edges i next) g (on_constant v (λ c. Goes next ls (c ∷ vs) h))
    long_constant (value.Long x) e = push p facts.order m of h heap live at next f g ls vs i b w on Long (value.Long x) refl e
    long_constant (value.Int x) e = absurd (let z = (takes_inverse p m at [] (Long ∷ []) (needs 9 false ∷ []) f g e).also_hold.0 in cc)
    long_constant value.Null e = absurd (let z = (takes_inverse p m at [] (Long ∷ []) (needs 9 false ∷ []) f g e).also_hold.0 in cc)
    long_constant (value.Ref n) e = absurd (let z = (takes_inverse p m at [] (Long ∷ []) (needs 9 false ∷ []) f g e).also_hold.0 in cc)
    long_constant (value.Text n) e = absurd (let z = (takes_inverse p m at [] (Long ∷ []) (needs 9 false ∷ []) f g e).also_hold.0 in cc)
    long_constant (value.Box n) e = absurd (let z = (takes_inverse p m at [] (Long ∷ []) (needs 9 false ∷ []) f g e).also_hold.0 in cc)
    long_constant value.Fiber e = absurd (let z = (takes_inverse p m at [] (Long ∷ []) (needs 9 false ∷ []) f g e).also_hold.0 in cc)

  pub table_fits : (i : Instr) → Before p m of h live at next f ls vs i → made_at m.code at ≡ made_by i → IsProper p i → type_step p m at i f ≡ Ok g → EffectFits p m of live next ls h (edges i next) g (does p m i next ls vs h)
  unfolding does row jump_targets ends_path
  table_fits instr.Nop b made proper e = nop p facts.order m of h heap live at next f g ls vs instr.Nop b (λ k. refl) (inl refl) e
  table_fits instr.AconstNull b made proper e = push p facts.order m of h heap live at next f g ls vs instr.AconstNull b (λ k. refl) (inl refl) Null value.Null refl e
  table_fits (instr.Iconst n) b made proper e = push p facts.order m of h heap live at next f g ls vs (instr.Iconst n) b (λ k. refl) (inl refl) Int (value.Int n) refl e
  table_fits (instr.Lconst n) b made proper e = push p facts.order m of h heap live at next f g ls vs (instr.Lconst n) b (λ k. refl) (inl refl) Long (value.Long n) refl e
  table_fits (instr.Bipush n) b made proper e = push p facts.order m of h heap live at next f g ls vs (instr.Bipush n) b (λ k. refl) (inl refl) Int (value.Int n) refl e
  table_fits (instr.Sipush n) b made proper e = push p facts.order m of h heap live at next f g ls vs (instr.Sipush n) b (λ k. refl) (inl refl) Int (value.Int n) refl e
  table_fits (instr.Iload n) b made proper e = iload_row p facts.order m of h heap live at next f g ls vs (instr.Iload n) b (λ k. refl) (inl refl) n (eq-eqb n n refl) e
  table_fits (instr.Lload n) b made proper e = lload_row p facts.order m of h heap live at next f g ls vs (instr.Lload n) b (λ k. refl) (inl refl) n (eq-eqb n n refl) e
  table_fits (instr.Aload n) b made proper e = aload_row p facts.order m of h heap live at next f g ls vs (instr.Aload n) b (λ k. refl) (inl refl) n (eq-eqb n n refl) e
  table_fits (instr.Istore n) b made proper e = istore_row p facts.order m of h heap live at next f g ls vs (instr.Istore n) b (inl refl) n (λ k. refl) e
  table_fits (instr.Lstore n) b made proper e = lstore_row p facts.order m of h heap live at next f g ls vs (instr.Lstore n) b (inl refl) n (λ k. refl) e
  table_fits (instr.Astore n) b made proper e = astore_row p facts.order m of h heap live at next f g ls vs (instr.Astore n) b (inl refl) n (λ k. refl) e
  table_fits (instr.Iinc n k) b made proper e = iinc_row p facts.order m of h heap live at next f g ls vs (instr.Iinc n k) b (inl refl) n (λ x. int_wrapping_add w32 x k) (eq-eqb n n refl) (λ j. refl) e
  table_fits instr.Pop b made proper e = pop_row p facts.order m of h heap live at next f g ls vs instr.Pop b (λ k. refl) (inl refl) e
  table_fits instr.Pop2 b made proper e = pop2_row p facts.order m of h heap live at next f g ls vs instr.Pop2 b (λ k. refl) (inl refl) e
  table_fits instr.Dup b made proper e = dup_row p facts.order m of h heap live at next f g ls vs instr.Dup b (λ k. refl) (inl refl) e
  table_fits instr.DupX1 b made proper e = dup_x1_row p facts.order m of h heap live at next f g ls vs instr.DupX1 b (λ k. refl) (inl refl) e
  table_fits instr.DupX2 b made proper e = dup_x2_row p facts.order m of h heap live at next f g ls vs instr.DupX2 b (λ k. refl) (inl refl) e
  table_fits instr.Dup2 b made proper e = dup2_row p facts.order m of h heap live at next f g ls vs instr.Dup2 b (λ k. refl) (inl refl) e
  table_fits instr.Dup2X1 b made proper e = dup2_x1_row p facts.order m of h heap live at next f g ls vs instr.Dup2X1 b (λ k. refl) (inl refl) e
  table_fits instr.Dup2X2 b made proper e = dup2_x2_row p facts.order m of h heap live at next f g ls vs instr.Dup2X2 b (λ k. refl) (inl refl) e
  table_fits instr.Swap b made proper e = swap_row p facts.order m of h heap live at next f g ls vs instr.Swap b (λ k. refl) (inl refl) e
  table_fits instr.Iadd b made proper e = ints_row p facts.order m of h heap live at next f g ls vs instr.Iadd b (λ k. refl) (inl refl) _ e
  table_fits instr.Isub b made proper e = ints_row p facts.order m of h heap live at next f g ls vs instr.Isub b (λ k. refl) (inl refl) _ e
  table_fits instr.Imul b made proper e = ints_row p facts.order m of h heap live at next f g ls vs instr.Imul b (λ k. refl) (inl refl) _ e
  table_fits instr.Iand b made proper e = ints_row p facts.order m of h heap live at next f g ls vs instr.Iand b (λ k. refl) (inl refl) _ e
  table_fits instr.Ior b made proper e = ints_row p facts.order m of h heap live at next f g ls vs instr.Ior b (λ k. refl) (inl refl) _ e
  table_fits instr.Ixor b made proper e = ints_row p facts.order m of h heap live at next f g ls vs instr.Ixor b (λ k. refl) (inl refl) _ e
  table_fits instr.Ishl b made proper e = ints_row p facts.order m of h heap live at next f g ls vs instr.Ishl b (λ k. refl) (inl refl) _ e
  table_fits instr.Ishr b made proper e = ints_row p facts.order m of h heap live at next f g ls vs instr.Ishr b (λ k. refl) (inl refl) _ e
  table_fits instr.Iushr b made proper e = ints_row p facts.order m of h heap live at next f g ls vs instr.Iushr b (λ k. refl) (inl refl) _ e
  table_fits instr.Idiv b made proper e = division_row p facts.order m of h heap live at next f g ls vs instr.Idiv b (λ k. refl) (inl refl) _ e
  table_fits instr.Irem b made proper e = division_row p facts.order m of h heap live at next f g ls vs instr.Irem b (λ k. refl) (inl refl) _ e
  table_fits instr.Ineg b made proper e = int_row p facts.order m of h heap live at next f g ls vs instr.Ineg b (λ k. refl) (inl refl) _ e
  table_fits instr.I2b b made proper e = int_row p facts.order m of h heap live at next f g ls vs instr.I2b b (λ k. refl) (inl refl) _ e
  table_fits instr.I2c b made proper e = int_row p facts.order m of h heap live at next f g ls vs instr.I2c b (λ k. refl) (inl refl) _ e
  table_fits instr.I2s b made proper e = int_row p facts.order m of h heap live at next f g ls vs instr.I2s b (λ k. refl) (inl refl) _ e
  table_fits instr.I2l b made proper e = to_long_row p facts.order m of h heap live at next f g ls vs instr.I2l b (λ k. refl) (inl refl) (λ a. a) e
  table_fits instr.L2i b made proper e = to_int_row p facts.order m of h heap live at next f g ls vs instr.L2i b (λ k. refl) (inl refl) to_int e
  table_fits instr.Lneg b made proper e = long_row p facts.order m of h heap live at next f g ls vs instr.Lneg b (λ k. refl) (inl refl) (int_wrapping_neg w64) e
  table_fits instr.Ladd b made proper e = longs_row p facts.order m of h heap live at next f g ls vs instr.Ladd b (λ k. refl) (inl refl) _ e
  table_fits instr.Lsub b made proper e = longs_row p facts.order m of h heap live at next f g ls vs instr.Lsub b (λ k. refl) (inl refl) _ e
  table_fits instr.Lmul b made proper e = longs_row p facts.order m of h heap live at next f g ls vs instr.Lmul b (λ k. refl) (inl refl) _ e
  table_fits instr.Land b made proper e = longs_row p facts.order m of h heap live at next f g ls vs instr.Land b (λ k. refl) (inl refl) _ e
  table_fits instr.Lor b made proper e = longs_row p facts.order m of h heap live at next f g ls vs instr.Lor b (λ k. refl) (inl refl) _ e
  table_fits instr.Lxor b made proper e = longs_row p facts.order m of h heap live at next f g ls vs instr.Lxor b (λ k. refl) (inl refl) _ e
  table_fits instr.Ldiv b made proper e = long_division_row p facts.order m of h heap live at next f g ls vs instr.Ldiv b (λ k. refl) (inl refl) _ e
  table_fits instr.Lrem b made proper e = long_division_row p facts.order m of h heap live at next f g ls vs instr.Lrem b (λ k. refl) (inl refl) _ e
  table_fits instr.Lshl b made proper e = shift_row p facts.order m of h heap live at next f g ls vs instr.Lshl b (λ k. refl) (inl refl) _ e
  table_fits instr.Lshr b made proper e = shift_row p facts.order m of h heap live at next f g ls vs instr.Lshr b (λ k. refl) (inl refl) _ e
  table_fits instr.Lushr b made proper e = shift_row p facts.order m of h heap live at next f g ls vs instr.Lushr b (λ k. refl) (inl refl) _ e
  table_fits instr.Lcmp b made proper e = compare_row p facts.order m of h heap live at next f g ls vs instr.Lcmp b (λ k. refl) (inl refl) compared e
  table_fits (instr.Ifeq to) b made proper e = jump_row p facts.order m of h heap live at next f g ls vs (instr.Ifeq to) b (λ k. refl) to (inr (inl refl)) (inl refl) _ e
  table_fits (instr.Ifne to) b made proper e = jump_row p facts.order m of h heap live at next f g ls vs (instr.Ifne to) b (λ k. refl) to (inr (inl refl)) (inl refl) _ e
  table_fits (instr.Iflt to) b made proper e = jump_row p facts.order m of h heap live at next f g ls vs (instr.Iflt to) b (λ k. refl) to (inr (inl refl)) (inl refl) _ e
  table_fits (instr.Ifge to) b made proper e = jump_row p facts.order m of h heap live at next f g ls vs (instr.Ifge to) b (λ k. refl) to (inr (inl refl)) (inl refl) _ e
  table_fits (instr.Ifgt to) b made proper e = jump_row p facts.order m of h heap live at next f g ls vs (instr.Ifgt to) b (λ k. refl) to (inr (inl refl)) (inl refl) _ e
  table_fits (instr.Ifle to) b made proper e = jump_row p facts.order m of h heap live at next f g ls vs (instr.Ifle to) b (λ k. refl) to (inr (inl refl)) (inl refl) _ e
  table_fits (instr.IfIcmpeq to) b made proper e = compare_jump_row p facts.order m of h heap live at next f g ls vs (instr.IfIcmpeq to) b (λ k. refl) to (inr (inl refl)) (inl refl) _ e
  table_fits (instr.IfIcmpne to) b made proper e = compare_jump_row p facts.order m of h heap live at next f g ls vs (instr.IfIcmpne to) b (λ k. refl) to (inr (inl refl)) (inl refl) _ e
  table_fits (instr.IfIcmplt to) b made proper e = compare_jump_row p facts.order m of h heap live at next f g ls vs (instr.IfIcmplt to) b (λ k. refl) to (inr (inl refl)) (inl refl) _ e
  table_fits (instr.IfIcmpge to) b made proper e = compare_jump_row p facts.order m of h heap live at next f g ls vs (instr.IfIcmpge to) b (λ k. refl) to (inr (inl refl)) (inl refl) _ e
  table_fits (instr.IfIcmpgt to) b made proper e = compare_jump_row p facts.order m of h heap live at next f g ls vs (instr.IfIcmpgt to) b (λ k. refl) to (inr (inl refl)) (inl refl) _ e
  table_fits (instr.IfIcmple to) b made proper e = compare_jump_row p facts.order m of h heap live at next f g ls vs (instr.IfIcmple to) b (λ k. refl) to (inr (inl refl)) (inl refl) _ e
  table_fits (instr.IfAcmpeq to) b made proper e = reference_jump_row p facts.order m of h heap live at next f g ls vs (instr.IfAcmpeq to) b (λ k. refl) to (inr (inl refl)) (inl refl) (λ b. b) e
  table_fits (instr.IfAcmpne to) b made proper e = reference_jump_row p facts.order m of h heap live at next f g ls vs (instr.IfAcmpne to) b (λ k. refl) to (inr (inl refl)) (inl refl) not e
  table_fits (instr.Ifnull to) b made proper e = null_jump_row p facts.order m of h heap live at next f g ls vs (instr.Ifnull to) b (λ k. refl) to (inr (inl refl)) (inl refl) (λ b. b) e
  table_fits (instr.Ifnonnull to) b made proper e = null_jump_row p facts.order m of h heap live at next f g ls vs (instr.Ifnonnull to) b (λ k. refl) to (inr (inl refl)) (inl refl) not e
  table_fits (instr.Goto to) b made proper e = goto_row p facts.order m of h heap live at next f g ls vs (instr.Goto to) b (λ k. refl) to (inl refl) e
  table_fits (instr.GotoW to) b made proper e = goto_row p facts.order m of h heap live at next f g ls vs (instr.GotoW to) b (λ k. refl) to (inl refl) e
  table_fits (instr.Tableswitch default low targets) b made proper e = switch_row p facts.order m of h heap live at next f g ls vs (instr.Tableswitch default low targets) b (λ k. refl) (λ a. table_target targets (a -ℤ low) default) (λ x. table_among targets (x -ℤ low) default) e
  table_fits (instr.Lookupswitch default entries) b made proper e = switch_row p facts.order m of h heap live at next f g ls vs (instr.Lookupswitch default entries) b (λ k. refl) (λ a. match_target entries a default) (λ x. match_among entries x default) e
  table_fits instr.Ireturn b made proper e = ireturn_row p facts.order m of h heap live at next f g ls vs instr.Ireturn b e
  table_fits instr.Lreturn b made proper e = lreturn_row p facts.order m of h heap live at next f g ls vs instr.Lreturn b e
  table_fits instr.Areturn b made proper e = areturn_row p facts.order m of h heap live at next f g ls vs instr.Areturn b e
  table_fits instr.Return b made proper e = return_row p facts.order m of h heap live at next f g ls vs instr.Return b e
  table_fits instr.Iaload b made proper e = load_ints p facts.order m of h heap live at next f g ls vs instr.Iaload b (λ k. refl) (inl refl) (base.Int ∷ []) plain_int of_int e
  table_fits instr.Baload b made proper e = load_ints p facts.order m of h heap live at next f g ls vs instr.Baload b (λ k. refl) (inl refl) (base.Byte ∷ base.Bool ∷ []) plain_byte of_byte e
  table_fits instr.Caload b made proper e = load_ints p facts.order m of h heap live at next f g ls vs instr.Caload b (λ k. refl) (inl refl) (base.Char ∷ []) plain_char of_char e
  table_fits instr.Saload b made proper e = load_ints p facts.order m of h heap live at next f g ls vs instr.Saload b (λ k. refl) (inl refl) (base.Short ∷ []) plain_short of_short e
  table_fits instr.Laload b made proper e = load_longs p facts.order m of h heap live at next f g ls vs instr.Laload b (λ k. refl) (inl refl) e
  table_fits instr.Iastore b made proper e = store_ints p facts.order m of h heap live at next f g ls vs instr.Iastore b (λ k. refl) (inl refl) (base.Int ∷ []) plain_int (λ c x. x) whole_int e
  table_fits instr.Bastore b made proper e = store_ints p facts.order m of h heap live at next f g ls vs instr.Bastore b (λ k. refl) (inl refl) (base.Byte ∷ base.Bool ∷ []) plain_byte narrowed_int (λ c x k. narrows c x (of_byte c k)) e
  table_fits instr.Castore b made proper e = store_ints p facts.order m of h heap live at next f g ls vs instr.Castore b (λ k. refl) (inl refl) (base.Char ∷ []) plain_char narrowed_int (λ c x k. narrows c x (of_char c k)) e
  table_fits instr.Sastore b made proper e = store_ints p facts.order m of h heap live at next f g ls vs instr.Sastore b (λ k. refl) (inl refl) (base.Short ∷ []) plain_short narrowed_int (λ c x k. narrows c x (of_short c k)) e
  table_fits instr.Lastore b made proper e = store_longs p facts.order m of h heap live at next f g ls vs instr.Lastore b (λ k. refl) (inl refl) e
  table_fits instr.Aastore b made proper e = store_object p facts.order m of h heap live at next f g ls vs instr.Aastore b (λ k. refl) (inl refl) e
  table_fits instr.Arraylength b made proper e = length_row p facts.order m of h heap live at next f g ls vs instr.Arraylength b (λ k. refl) (inl refl) e
  table_fits (instr.Checkcast ty) b made proper e = cast_row p facts.order m of h heap live at next f g ls vs (instr.Checkcast ty) b (λ k. refl) (inl refl) ty e
  table_fits (instr.Instanceof ty) b made proper e = instance_row p facts.order m of h heap live at next f g ls vs (instr.Instanceof ty) b (λ k. refl) (inl refl) ty e
  table_fits (instr.Newarray c) b made proper e = newarray_row p facts.order m of h heap live at next f g ls vs (instr.Newarray c) b (λ k. refl) (inl refl) c proper e
  table_fits (instr.Ldc v) b made proper e = constant (instr.Ldc v) b (λ k. refl) (inl refl) v e
  table_fits (instr.LdcW v) b made proper e = constant (instr.LdcW v) b (λ k. refl) (inl refl) v e
  table_fits (instr.Ldc2W v) b made proper e = long_constant (instr.Ldc2W v) b (λ k. refl) (inl refl) v e
  table_fits (instr.New c) b made proper e = new_row p facts m of h heap live at next f g ls vs (instr.New c) b (λ k. refl) (inl refl) c made e
  table_fits (instr.Anewarray ty) b made proper e = anewarray_row p facts.order m of h heap live at next f g ls vs (instr.Anewarray ty) b (λ k. refl) (inl refl) ty proper.0 proper.1 (needs 13 (nat_lt ty.dims 255) ∷ []) e
  table_fits (instr.Invokevirtual id) b made proper e = virtual_fits p facts m of h heap live at next f g ls vs (instr.Invokevirtual id) b (λ k. refl) (inl refl) id (method_at p id) refl e
  table_fits (instr.Invokestatic id) b made proper e = static_fits p facts m of h heap live at next f g ls vs (instr.Invokestatic id) b (λ k. refl) (inl refl) id (method_at p id) refl e
  table_fits (instr.Invokespecial id) b made proper e = special_fit p facts m of h heap live at next f g ls vs (instr.Invokespecial id) b (λ k. refl) (inl refl) id (method_at p id) refl e
  table_fits (instr.Getstatic x) b made proper e = getstatic_row p facts narrows m of h heap live at next f g ls vs (instr.Getstatic x) b (λ k. refl) (inl refl) x (field_of p x) refl e
  table_fits (instr.Getfield x) b made proper e = getfield_row p facts narrows m of h heap live at next f g ls vs (instr.Getfield x) b (λ k. refl) (inl refl) x (field_of p x) refl e
  table_fits (instr.Putfield x) b made proper e = putfield_row p facts narrows m of h heap live at next f g ls vs (instr.Putfield x) b (λ k. refl) (inl refl) x (field_of p x) refl e
  table_fits instr.Aaload b made proper e = element_row p facts.order m of h heap live at next f g ls vs instr.Aaload b (λ k. refl) (inl refl) e
  table_fits instr.Athrow b made proper e = throw_row p facts m of h heap live at next f g ls vs instr.Athrow b e
