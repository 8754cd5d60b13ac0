-- More rows without trees: numbers, jumps, loads of numbers, constants.
use Rattle.std.proofs.Common.{◌≡◌, ℕ, zero, suc, ℤ, ◌==◌, Bool, true, false, true≢false, cond, ◌&&◌, ◌||◌, List, [], ◌∷◌, map, Option, Some, None, Result, Ok, Err, refl, sym, ap, subst, ◌∙◌, inl, inr}
use Rattle.std.specs.Prelude.{codes, drop}
use Rattle.std.specs.Ordering.{int_eq}
use Rattle.std.specs.Str.{bytes_eq}
use Rattle.kilim_program.specs.declared.class.Field.{Field}
use Rattle.kilim_program.specs.declared.class.Method.{Method}
use Rattle.kilim_program.specs.declared.instr.Instr.{Instr}
use Rattle.kilim_program.specs.declared.instr.Instr.TheVariants as instr
use Rattle.kilim_program.specs.declared.names.ClassId.{ClassId}
use Rattle.kilim_program.specs.declared.names.FieldId.{FieldId}
use Rattle.kilim_program.specs.declared.ty.Base.{Base}
use Rattle.kilim_program.specs.declared.ty.Base.TheVariants as base
use Rattle.kilim_program.specs.declared.ty.Kind.TheVariants as kind
use Rattle.kilim_program.specs.declared.ty.Ty.{Ty}
use Rattle.kilim_program.specs.declared.value.Value.{Value}
use Rattle.kilim_program.specs.declared.value.Value.TheVariants.{Int, Long, Null, Ref, Text, Box, Fiber}
use Rattle.kilim_program.specs.declared.verified.VType.{VType}
use Rattle.kilim_program.specs.declared.verified.VType.TheVariants as vtype
use Rattle.kilim_program.specs.Program.{Program}
use Rattle.kilim_program.specs.BuiltIn.{class_type}
use Rattle.kilim_program.specs.Keeps.{constant_fits, is_int_like, is_long, is_string_base}
use Rattle.kilim_program.specs.Kinds.{array_kind, base_kind, class_kind, is_message}
use Rattle.kilim_program.specs.Lengths.{ends_path, jump_targets}
use Rattle.kilim_program.specs.Names.{class_name, class_named, field_of, is_task}
use Rattle.kilim_run_state.specs.Machine.{Objects}
use Rattle.kilim_run_machine.specs.Effect.{Effect, Goes, on_constant}
use Rattle.kilim_run_machine.specs.Does.{does, match_target}
use Rattle.kilim_type_spec.specs.Step as type
use Rattle.kilim_type_spec.specs.Step.{Is, Takes, Types, row, text_type, type_step}
use Rattle.kilim_type_spec.specs.Typed.{Among}
use Rattle.kilim_isolation_graph.specs.declared.graph.Graph.{Graph}
use Rattle.kilim_isolation_rules.specs.Rules.{deed}
use Rattle.kilim_isolation_laws.specs.graph_rows.Holds.{Fits, Holds, Sort, Stands, Waiting, Word, sort, sort_of_vtype, unnamed}
use Rattle.kilim_isolation_laws.proofs.graph_rows.Making.{not_zero}
use Rattle.kilim_isolation_laws.proofs.graph_rows.Passed.{rule_passed}
use Rattle.kilim_isolation_laws.proofs.graph_rows.Plain.{E, IsStep, compare_jump_h, int_binary_h, int_jump_h, int_unary_h, long_binary_h, long_division_h, plain_left}
use Rattle.kilim_isolation_laws.proofs.graph_rows.Settle.{and_left, and_right}
use Rattle.kilim_isolation_laws.proofs.graph_rows.Words.{index_h, int_h, long_h, object_h, on_int_h, on_long_h, some_h}

among_match : (entries : List (ℤ × ℕ)) (x : ℤ) (default : ℕ) → Among (default ∷ map (λ (pair : ℤ × ℕ). pair.1) entries) (match_target entries x default)
among_match [] x default = inl refl
among_match (e ∷ es) x default = by (int_eq e.0 x) (among_match es x default)
  where
    later : (q : ℕ) → Among (default ∷ map (λ (pair : ℤ × ℕ). pair.1) es) q → Among (default ∷ e.1 ∷ map (λ (pair : ℤ × ℕ). pair.1) es) q
    later q (inl w) = inl w
    later q (inr w) = inr (inr w)

    by : (b : Bool) → Among (default ∷ map (λ (pair : ℤ × ℕ). pair.1) es) (match_target es x default) → Among (default ∷ e.1 ∷ map (λ (pair : ℤ × ℕ). pair.1) es) (cond b e.1 (match_target es x default))
    by true w = inr (inl refl)
    by false w = later (match_target es x default) w

module _ (p : Program) (keeps : (x : FieldId) (field : Field) → field_of p x ≡ Some field → field.is_static ≡ true → constant_fits p field.ty field.constant ≡ true)
    (text : (c : ClassId) → class_named p (codes "java/lang/String") ≡ Some c → bytes_eq (class_name p c) (codes "java/lang/String") ≡ true)
    (m : Method) (pl to : ℕ) (f f1 : Types) (g g1 : Graph) (at : ℕ → Option ℕ) (h : Objects) (ls st : List Value) (below : List Waiting) (after : Option Types) where
  abbrev EI : Instr → Effect → Type 0
  EI i e = E p m pl to f f1 g g1 at h ls st below after i e

  refl_int : (x : ℤ) → Fits p h (unnamed (sort p m vtype.Int)) (Int x)
  unfolding sort
  refl_int x = (refl, refl)

  refl_long : (x : ℤ) → Fits p h (unnamed (sort p m vtype.Long)) (Long x)
  unfolding sort
  refl_long x = refl

  -- the class of strings is one of values
  string_kind : (c : ClassId) → bytes_eq (class_name p c) (codes "java/lang/String") ≡ true → class_kind p c ≡ kind.Value
  string_kind c e = ap (λ b. cond (b || bytes_eq (class_name p c) (codes "kilim/Mailbox")) kind.Value (cond (is_task p c || is_message p c) kind.Tree kind.Private)) e

  text_fits : (units : List ℕ) → Fits p h (unnamed (sort p m (text_type p))) (Text units)
  unfolding sort
  text_fits units = by (class_named p (codes "java/lang/String")) refl
    where
      by : (o : Option ClassId) → class_named p (codes "java/lang/String") ≡ o → Fits p h (unnamed (sort p m (type.vtype_of_class o))) (Text units)
      by None e = (refl, refl)
      by (Some c) e = subst (λ z. Fits p h (unnamed (Rattle.kilim_isolation_laws.specs.graph_rows.Holds.sort_by p (class_type c.0) z)) (Text units)) (sym (string_kind c (text c e))) (refl, refl)

  refused : (gives : List VType) → type.by_row p m pl (Takes [] gives (type.needs 9 false ∷ [])) f ≡ Ok f1 → ⊥
  refused gives e =
      let a = rule_passed 3 (type.has_operands 0 f.stack) _ f1 e in
      let b = rule_passed 4 (type.room_for m gives f.stack) _ f1 a.1 in
      let c = rule_passed 5 (type.all_meet p [] f.stack) _ f1 b.1 in
      none_passes c.1
    where
      none_passes : ◌≡◌ {A = Result Types ℕ} (Err 9) (Ok f1) → ⊥
      none_passes w = cc

  no_dims : (d : ℕ) (b : Bool) → (suc d == 0 && b) ≡ true → ⊥
  no_dims d b e = true≢false (sym (ap (λ z. z && b) (sym (not_zero d)) ∙ e))

  int_constant : (ty : Ty) (n : ℤ) → (ty.dims == 0 && is_int_like ty.base) ≡ true → Fits p h (unnamed (sort p m (type.vtype ty))) (Int n)
  unfolding sort
  int_constant ty n e = by ty.dims e
    where
      of_base : (b : Base) → is_int_like b ≡ true → Fits p h (unnamed (sort p m (type.base_vtype ty b))) (Int n)
      of_base base.Bool w = (refl, refl)
      of_base base.Byte w = (refl, refl)
      of_base base.Char w = (refl, refl)
      of_base base.Short w = (refl, refl)
      of_base base.Int w = (refl, refl)
      of_base base.Long w = absurd (true≢false (sym w))
      of_base (base.Class c) w = absurd (true≢false (sym w))

      by : (d : ℕ) → (d == 0 && is_int_like ty.base) ≡ true → Fits p h (unnamed (sort p m (type.dims_vtype ty d))) (Int n)
      by zero w = of_base ty.base (and_right (0 == 0) (is_int_like ty.base) w)
      by (suc d) w = absurd (no_dims d (is_int_like ty.base) w)

  long_constant : (ty : Ty) (n : ℤ) → (ty.dims == 0 && is_long ty.base) ≡ true → Fits p h (unnamed (sort p m (type.vtype ty))) (Long n)
  unfolding sort
  long_constant ty n e = by ty.dims e
    where
      of_base : (b : Base) → is_long b ≡ true → Fits p h (unnamed (sort p m (type.base_vtype ty b))) (Long n)
      of_base base.Long w = refl
      of_base base.Bool w = absurd (true≢false (sym w))
      of_base base.Byte w = absurd (true≢false (sym w))
      of_base base.Char w = absurd (true≢false (sym w))
      of_base base.Short w = absurd (true≢false (sym w))
      of_base base.Int w = absurd (true≢false (sym w))
      of_base (base.Class c) w = absurd (true≢false (sym w))

      by : (d : ℕ) → (d == 0 && is_long ty.base) ≡ true → Fits p h (unnamed (sort p m (type.dims_vtype ty d))) (Long n)
      by zero w = of_base ty.base (and_right (0 == 0) (is_long ty.base) w)
      by (suc d) w = absurd (no_dims d (is_long ty.base) w)

  text_constant : (ty : Ty) (units : List ℕ) → (ty.dims == 0 && is_string_base p ty.base) ≡ true → Fits p h (unnamed (sort p m (type.vtype ty))) (Text units)
  unfolding sort
  text_constant ty units e = by ty.dims refl e
    where
      of_base : (b : Base) → ty.base ≡ b → ty.dims ≡ 0 → is_string_base p b ≡ true → Fits p h (unnamed (sort p m (type.base_vtype ty b))) (Text units)
      of_base (base.Class c) is none w = subst (λ z. Fits p h (unnamed (Rattle.kilim_isolation_laws.specs.graph_rows.Holds.sort_by p ty z)) (Text units))
          (sym (ap (λ b. cond b (base_kind p ty.base) (array_kind (base_kind p ty.base))) (ap (λ d. d == 0) none) ∙ ap (base_kind p) is ∙ string_kind c w)) (refl, refl)
      of_base base.Bool is none w = absurd (true≢false (sym w))
      of_base base.Byte is none w = absurd (true≢false (sym w))
      of_base base.Char is none w = absurd (true≢false (sym w))
      of_base base.Short is none w = absurd (true≢false (sym w))
      of_base base.Int is none w = absurd (true≢false (sym w))
      of_base base.Long is none w = absurd (true≢false (sym w))

      by : (d : ℕ) → ty.dims ≡ d → (d == 0 && is_string_base p ty.base) ≡ true → Fits p h (unnamed (sort p m (type.dims_vtype ty d))) (Text units)
      by zero is w = of_base ty.base refl is (and_right (0 == 0) (is_string_base p ty.base) w)
      by (suc d) is w = absurd (no_dims d (is_string_base p ty.base) w)

  pub ishr_h : IsStep p m pl to f f1 g g1 at h ls st below after instr.Ishr → EI instr.Ishr (does p m instr.Ishr to ls st h)
  unfolding does row deed ends_path jump_targets
  ishr_h s = int_binary_h p m pl to f f1 g g1 at h ls st below after instr.Ishr s (refl, refl) (inl refl) _

  pub iushr_h : IsStep p m pl to f f1 g g1 at h ls st below after instr.Iushr → EI instr.Iushr (does p m instr.Iushr to ls st h)
  unfolding does row deed ends_path jump_targets
  iushr_h s = int_binary_h p m pl to f f1 g g1 at h ls st below after instr.Iushr s (refl, refl) (inl refl) _

  pub ior_h : IsStep p m pl to f f1 g g1 at h ls st below after instr.Ior → EI instr.Ior (does p m instr.Ior to ls st h)
  unfolding does row deed ends_path jump_targets
  ior_h s = int_binary_h p m pl to f f1 g g1 at h ls st below after instr.Ior s (refl, refl) (inl refl) _

  pub ixor_h : IsStep p m pl to f f1 g g1 at h ls st below after instr.Ixor → EI instr.Ixor (does p m instr.Ixor to ls st h)
  unfolding does row deed ends_path jump_targets
  ixor_h s = int_binary_h p m pl to f f1 g g1 at h ls st below after instr.Ixor s (refl, refl) (inl refl) _

  pub lsub_h : IsStep p m pl to f f1 g g1 at h ls st below after instr.Lsub → EI instr.Lsub (does p m instr.Lsub to ls st h)
  unfolding does row deed ends_path jump_targets
  lsub_h s = long_binary_h p m pl to f f1 g g1 at h ls st below after instr.Lsub s (refl, refl) (inl refl) _

  pub lmul_h : IsStep p m pl to f f1 g g1 at h ls st below after instr.Lmul → EI instr.Lmul (does p m instr.Lmul to ls st h)
  unfolding does row deed ends_path jump_targets
  lmul_h s = long_binary_h p m pl to f f1 g g1 at h ls st below after instr.Lmul s (refl, refl) (inl refl) _

  pub land_h : IsStep p m pl to f f1 g g1 at h ls st below after instr.Land → EI instr.Land (does p m instr.Land to ls st h)
  unfolding does row deed ends_path jump_targets
  land_h s = long_binary_h p m pl to f f1 g g1 at h ls st below after instr.Land s (refl, refl) (inl refl) _

  pub lor_h : IsStep p m pl to f f1 g g1 at h ls st below after instr.Lor → EI instr.Lor (does p m instr.Lor to ls st h)
  unfolding does row deed ends_path jump_targets
  lor_h s = long_binary_h p m pl to f f1 g g1 at h ls st below after instr.Lor s (refl, refl) (inl refl) _

  pub lxor_h : IsStep p m pl to f f1 g g1 at h ls st below after instr.Lxor → EI instr.Lxor (does p m instr.Lxor to ls st h)
  unfolding does row deed ends_path jump_targets
  lxor_h s = long_binary_h p m pl to f f1 g g1 at h ls st below after instr.Lxor s (refl, refl) (inl refl) _

  pub lrem_h : IsStep p m pl to f f1 g g1 at h ls st below after instr.Lrem → EI instr.Lrem (does p m instr.Lrem to ls st h)
  unfolding does row deed ends_path jump_targets
  lrem_h s = long_division_h p m pl to f f1 g g1 at h ls st below after instr.Lrem s (refl, refl) (inl refl) _

  pub i2c_h : IsStep p m pl to f f1 g g1 at h ls st below after instr.I2c → EI instr.I2c (does p m instr.I2c to ls st h)
  unfolding does row deed ends_path jump_targets
  i2c_h s = int_unary_h p m pl to f f1 g g1 at h ls st below after instr.I2c s (refl, refl) (inl refl) _

  pub i2s_h : IsStep p m pl to f f1 g g1 at h ls st below after instr.I2s → EI instr.I2s (does p m instr.I2s to ls st h)
  unfolding does row deed ends_path jump_targets
  i2s_h s = int_unary_h p m pl to f f1 g g1 at h ls st below after instr.I2s s (refl, refl) (inl refl) _

  pub ifne_h : (t : ℕ) → IsStep p m pl to f f1 g g1 at h ls st below after (instr.Ifne t) → EI (instr.Ifne t) (does p m (instr.Ifne t) to ls st h)
  unfolding does row deed ends_path jump_targets
  ifne_h t s = int_jump_h p m pl to f f1 g g1 at h ls st below after (instr.Ifne t) s (refl, refl) t (inr (inl refl)) (inl refl) _

  pub ifge_h : (t : ℕ) → IsStep p m pl to f f1 g g1 at h ls st below after (instr.Ifge t) → EI (instr.Ifge t) (does p m (instr.Ifge t) to ls st h)
  unfolding does row deed ends_path jump_targets
  ifge_h t s = int_jump_h p m pl to f f1 g g1 at h ls st below after (instr.Ifge t) s (refl, refl) t (inr (inl refl)) (inl refl) _

  pub ifgt_h : (t : ℕ) → IsStep p m pl to f f1 g g1 at h ls st below after (instr.Ifgt t) → EI (instr.Ifgt t) (does p m (instr.Ifgt t) to ls st h)
  unfolding does row deed ends_path jump_targets
  ifgt_h t s = int_jump_h p m pl to f f1 g g1 at h ls st below after (instr.Ifgt t) s (refl, refl) t (inr (inl refl)) (inl refl) _

  pub ifle_h : (t : ℕ) → IsStep p m pl to f f1 g g1 at h ls st below after (instr.Ifle t) → EI (instr.Ifle t) (does p m (instr.Ifle t) to ls st h)
  unfolding does row deed ends_path jump_targets
  ifle_h t s = int_jump_h p m pl to f f1 g g1 at h ls st below after (instr.Ifle t) s (refl, refl) t (inr (inl refl)) (inl refl) _

  pub if_icmpne_h : (t : ℕ) → IsStep p m pl to f f1 g g1 at h ls st below after (instr.IfIcmpne t) → EI (instr.IfIcmpne t) (does p m (instr.IfIcmpne t) to ls st h)
  unfolding does row deed ends_path jump_targets
  if_icmpne_h t s = compare_jump_h p m pl to f f1 g g1 at h ls st below after (instr.IfIcmpne t) s (refl, refl) t (inr (inl refl)) (inl refl) _

  pub if_icmpge_h : (t : ℕ) → IsStep p m pl to f f1 g g1 at h ls st below after (instr.IfIcmpge t) → EI (instr.IfIcmpge t) (does p m (instr.IfIcmpge t) to ls st h)
  unfolding does row deed ends_path jump_targets
  if_icmpge_h t s = compare_jump_h p m pl to f f1 g g1 at h ls st below after (instr.IfIcmpge t) s (refl, refl) t (inr (inl refl)) (inl refl) _

  pub if_icmpgt_h : (t : ℕ) → IsStep p m pl to f f1 g g1 at h ls st below after (instr.IfIcmpgt t) → EI (instr.IfIcmpgt t) (does p m (instr.IfIcmpgt t) to ls st h)
  unfolding does row deed ends_path jump_targets
  if_icmpgt_h t s = compare_jump_h p m pl to f f1 g g1 at h ls st below after (instr.IfIcmpgt t) s (refl, refl) t (inr (inl refl)) (inl refl) _

  pub if_icmple_h : (t : ℕ) → IsStep p m pl to f f1 g g1 at h ls st below after (instr.IfIcmple t) → EI (instr.IfIcmple t) (does p m (instr.IfIcmple t) to ls st h)
  unfolding does row deed ends_path jump_targets
  if_icmple_h t s = compare_jump_h p m pl to f f1 g g1 at h ls st below after (instr.IfIcmple t) s (refl, refl) t (inr (inl refl)) (inl refl) _

  pub lneg_h : IsStep p m pl to f f1 g g1 at h ls st below after instr.Lneg → EI instr.Lneg (does p m instr.Lneg to ls st h)
  unfolding does row deed ends_path jump_targets
  lneg_h s = on_long_h (EI instr.Lneg) tt (λ c. tt) (λ c. tt) st _ (λ x rest e. (inl refl, plain_left p m pl to f f1 g g1 at h ls st below after instr.Lneg s (Is vtype.Long ∷ []) (vtype.Long ∷ []) [] (refl, refl) (Long _ ∷ []) rest (ap (drop 1) e) (refl_long _, tt)))

  pub lshl_h : IsStep p m pl to f f1 g g1 at h ls st below after instr.Lshl → EI instr.Lshl (does p m instr.Lshl to ls st h)
  unfolding does row deed ends_path jump_targets
  lshl_h s = on_int_h (EI instr.Lshl) tt (λ c. tt) (λ c. tt) st _ (λ b under e. on_long_h (EI instr.Lshl) tt (λ c. tt) (λ c. tt) under _ (λ a rest e'.
      (inl refl, plain_left p m pl to f f1 g g1 at h ls st below after instr.Lshl s (Is vtype.Int ∷ Is vtype.Long ∷ []) (vtype.Long ∷ []) [] (refl, refl) (Long _ ∷ []) rest (ap (drop 2) e ∙ ap (drop 1) e') (refl_long _, tt))))

  pub lshr_h : IsStep p m pl to f f1 g g1 at h ls st below after instr.Lshr → EI instr.Lshr (does p m instr.Lshr to ls st h)
  unfolding does row deed ends_path jump_targets
  lshr_h s = on_int_h (EI instr.Lshr) tt (λ c. tt) (λ c. tt) st _ (λ b under e. on_long_h (EI instr.Lshr) tt (λ c. tt) (λ c. tt) under _ (λ a rest e'.
      (inl refl, plain_left p m pl to f f1 g g1 at h ls st below after instr.Lshr s (Is vtype.Int ∷ Is vtype.Long ∷ []) (vtype.Long ∷ []) [] (refl, refl) (Long _ ∷ []) rest (ap (drop 2) e ∙ ap (drop 1) e') (refl_long _, tt))))

  pub lushr_h : IsStep p m pl to f f1 g g1 at h ls st below after instr.Lushr → EI instr.Lushr (does p m instr.Lushr to ls st h)
  unfolding does row deed ends_path jump_targets
  lushr_h s = on_int_h (EI instr.Lushr) tt (λ c. tt) (λ c. tt) st _ (λ b under e. on_long_h (EI instr.Lushr) tt (λ c. tt) (λ c. tt) under _ (λ a rest e'.
      (inl refl, plain_left p m pl to f f1 g g1 at h ls st below after instr.Lushr s (Is vtype.Int ∷ Is vtype.Long ∷ []) (vtype.Long ∷ []) [] (refl, refl) (Long _ ∷ []) rest (ap (drop 2) e ∙ ap (drop 1) e') (refl_long _, tt))))

  pub goto_w_h : (t : ℕ) → IsStep p m pl to f f1 g g1 at h ls st below after (instr.GotoW t) → EI (instr.GotoW t) (does p m (instr.GotoW t) to ls st h)
  unfolding does row deed ends_path jump_targets
  goto_w_h t s = (inl refl, plain_left p m pl to f f1 g g1 at h ls st below after (instr.GotoW t) s [] [] [] (refl, refl) [] st refl tt)

  pub lookupswitch_h : (d : ℕ) (entries : List (ℤ × ℕ)) → IsStep p m pl to f f1 g g1 at h ls st below after (instr.Lookupswitch d entries) → EI (instr.Lookupswitch d entries) (does p m (instr.Lookupswitch d entries) to ls st h)
  unfolding does row deed ends_path jump_targets
  lookupswitch_h d entries s = on_int_h (EI (instr.Lookupswitch d entries)) tt (λ c. tt) (λ c. tt) st _ (λ x rest e.
      (among_match entries x d, plain_left p m pl to f f1 g g1 at h ls st below after (instr.Lookupswitch d entries) s (Is vtype.Int ∷ []) [] [] (refl, refl) [] rest (ap (drop 1) e) tt))

  pub baload_h : IsStep p m pl to f f1 g g1 at h ls st below after instr.Baload → EI instr.Baload (does p m instr.Baload to ls st h)
  unfolding does row deed ends_path jump_targets
  baload_h s = on_int_h (EI instr.Baload) tt (λ c. tt) (λ c. tt) st _ (λ k under e. object_h (EI instr.Baload) tt (λ c. tt) (λ c. tt) under h _ (λ n object rest e' _. index_h (EI instr.Baload) tt (λ c. tt) (λ c. tt) object.elements k _ (λ j v _.
      int_h (EI instr.Baload) tt (λ c. tt) (λ c. tt) v _ (λ x _. (inl refl, plain_left p m pl to f f1 g g1 at h ls st below after instr.Baload s _ (vtype.Int ∷ []) [] (refl, refl) (Int x ∷ []) rest (ap (drop 2) e ∙ ap (drop 1) e') (refl_int x, tt))))))

  pub caload_h : IsStep p m pl to f f1 g g1 at h ls st below after instr.Caload → EI instr.Caload (does p m instr.Caload to ls st h)
  unfolding does row deed ends_path jump_targets
  caload_h s = on_int_h (EI instr.Caload) tt (λ c. tt) (λ c. tt) st _ (λ k under e. object_h (EI instr.Caload) tt (λ c. tt) (λ c. tt) under h _ (λ n object rest e' _. index_h (EI instr.Caload) tt (λ c. tt) (λ c. tt) object.elements k _ (λ j v _.
      int_h (EI instr.Caload) tt (λ c. tt) (λ c. tt) v _ (λ x _. (inl refl, plain_left p m pl to f f1 g g1 at h ls st below after instr.Caload s _ (vtype.Int ∷ []) [] (refl, refl) (Int x ∷ []) rest (ap (drop 2) e ∙ ap (drop 1) e') (refl_int x, tt))))))

  pub saload_h : IsStep p m pl to f f1 g g1 at h ls st below after instr.Saload → EI instr.Saload (does p m instr.Saload to ls st h)
  unfolding does row deed ends_path jump_targets
  saload_h s = on_int_h (EI instr.Saload) tt (λ c. tt) (λ c. tt) st _ (λ k under e. object_h (EI instr.Saload) tt (λ c. tt) (λ c. tt) under h _ (λ n object rest e' _. index_h (EI instr.Saload) tt (λ c. tt) (λ c. tt) object.elements k _ (λ j v _.
      int_h (EI instr.Saload) tt (λ c. tt) (λ c. tt) v _ (λ x _. (inl refl, plain_left p m pl to f f1 g g1 at h ls st below after instr.Saload s _ (vtype.Int ∷ []) [] (refl, refl) (Int x ∷ []) rest (ap (drop 2) e ∙ ap (drop 1) e') (refl_int x, tt))))))

  pub laload_h : IsStep p m pl to f f1 g g1 at h ls st below after instr.Laload → EI instr.Laload (does p m instr.Laload to ls st h)
  unfolding does row deed ends_path jump_targets
  laload_h s = on_int_h (EI instr.Laload) tt (λ c. tt) (λ c. tt) st _ (λ k under e. object_h (EI instr.Laload) tt (λ c. tt) (λ c. tt) under h _ (λ n object rest e' _. index_h (EI instr.Laload) tt (λ c. tt) (λ c. tt) object.elements k _ (λ j v _.
      long_h (EI instr.Laload) tt (λ c. tt) (λ c. tt) v _ (λ x _. (inl refl, plain_left p m pl to f f1 g g1 at h ls st below after instr.Laload s _ (vtype.Long ∷ []) [] (refl, refl) (Long x ∷ []) rest (ap (drop 2) e ∙ ap (drop 1) e') (refl_long x, tt))))))

  pub ldc_h : (v : Value) → IsStep p m pl to f f1 g g1 at h ls st below after (instr.Ldc v) → EI (instr.Ldc v) (does p m (instr.Ldc v) to ls st h)
  unfolding does row deed ends_path jump_targets
  ldc_h (Int x) s = (inl refl, plain_left p m pl to f f1 g g1 at h ls st below after (instr.Ldc (Int x)) s [] (vtype.Int ∷ []) [] (refl, refl) (Int x ∷ []) st refl (refl_int x, tt))
  ldc_h (Text units) s = (inl refl, plain_left p m pl to f f1 g g1 at h ls st below after (instr.Ldc (Text units)) s [] (text_type p ∷ []) [] (refl, refl) (Text units ∷ []) st refl (text_fits units, tt))
  ldc_h (Long x) s = absurd (refused (vtype.Int ∷ []) s.1)
  ldc_h Null s = tt
  ldc_h (Ref n) s = tt
  ldc_h (Box box) s = tt
  ldc_h Fiber s = tt

  pub ldc_w_h : (v : Value) → IsStep p m pl to f f1 g g1 at h ls st below after (instr.LdcW v) → EI (instr.LdcW v) (does p m (instr.LdcW v) to ls st h)
  unfolding does row deed ends_path jump_targets
  ldc_w_h (Int x) s = (inl refl, plain_left p m pl to f f1 g g1 at h ls st below after (instr.LdcW (Int x)) s [] (vtype.Int ∷ []) [] (refl, refl) (Int x ∷ []) st refl (refl_int x, tt))
  ldc_w_h (Text units) s = (inl refl, plain_left p m pl to f f1 g g1 at h ls st below after (instr.LdcW (Text units)) s [] (text_type p ∷ []) [] (refl, refl) (Text units ∷ []) st refl (text_fits units, tt))
  ldc_w_h (Long x) s = absurd (refused (vtype.Int ∷ []) s.1)
  ldc_w_h Null s = tt
  ldc_w_h (Ref n) s = tt
  ldc_w_h (Box box) s = tt
  ldc_w_h Fiber s = tt

  pub ldc2_w_h : (v : Value) → IsStep p m pl to f f1 g g1 at h ls st below after (instr.Ldc2W v) → EI (instr.Ldc2W v) (does p m (instr.Ldc2W v) to ls st h)
  unfolding does row deed ends_path jump_targets
  ldc2_w_h (Long x) s = (inl refl, plain_left p m pl to f f1 g g1 at h ls st below after (instr.Ldc2W (Long x)) s [] (vtype.Long ∷ []) [] (refl, refl) (Long x ∷ []) st refl (refl_long x, tt))
  ldc2_w_h (Int x) s = absurd (refused (vtype.Long ∷ []) s.1)
  ldc2_w_h (Text units) s = absurd (refused (vtype.Long ∷ []) s.1)
  ldc2_w_h Null s = tt
  ldc2_w_h (Ref n) s = tt
  ldc2_w_h (Box box) s = tt
  ldc2_w_h Fiber s = tt

  constant_left : (x : FieldId) → IsStep p m pl to f f1 g g1 at h ls st below after (instr.Getstatic x) → (field : Field) → field_of p x ≡ Some field → (v : Value) → field.constant ≡ Some v → EI (instr.Getstatic x) (on_constant v (λ c. Goes to ls (c ∷ st) h))
  unfolding row deed ends_path jump_targets
  constant_left x s field is v holds = by v holds
    where
      typed : type.by_row p m pl (Takes [] (type.vtype field.ty ∷ []) (type.needs 8 (field.is_static && type.may_name m field.is_private field.owner) ∷ [])) f ≡ Ok f1
      typed = subst (λ z. type.by_row p m pl (type.field_row (instr.Getstatic x) m z) f ≡ Ok f1) is s.1

      static : field.is_static ≡ true
      static =
          let a = rule_passed 3 (type.has_operands 0 f.stack) _ f1 typed in
          let b = rule_passed 4 (type.has_room m (type.vtype field.ty ∷ f.stack)) _ f1 a.1 in
          let c = rule_passed 5 (type.all_meet p [] f.stack) _ f1 b.1 in
          let d = rule_passed 8 ((field.is_static && type.may_name m field.is_private field.owner) && true) _ f1 c.1 in
          and_left field.is_static (type.may_name m field.is_private field.owner) (and_left (field.is_static && type.may_name m field.is_private field.owner) true d.0)

      fits : (w : Value) → field.constant ≡ Some w → constant_fits p field.ty (Some w) ≡ true
      fits w e = ap (constant_fits p field.ty) (sym e) ∙ keeps x field is static

      left : (w : Value) → Fits p h (unnamed (sort p m (type.vtype field.ty))) w → EI (instr.Getstatic x) (Goes to ls (w ∷ st) h)
      left w fit = (
        inl refl,
        plain_left p m pl to f f1 g g1 at h ls st below after (instr.Getstatic x) s [] (type.vtype field.ty ∷ []) (type.needs 8 (field.is_static && type.may_name m field.is_private field.owner) ∷ [])
            (ap (type.field_row (instr.Getstatic x) m) is, refl) (w ∷ []) st refl (fit, tt),
      )

      by : (w : Value) → field.constant ≡ Some w → EI (instr.Getstatic x) (on_constant w (λ c. Goes to ls (c ∷ st) h))
      by (Int n) e = left (Int n) (int_constant field.ty n (fits (Int n) e))
      by (Long n) e = left (Long n) (long_constant field.ty n (fits (Long n) e))
      by (Text units) e = left (Text units) (text_constant field.ty units (fits (Text units) e))
      by Null e = tt
      by (Ref n) e = tt
      by (Box box) e = tt
      by Fiber e = tt

  pub getstatic_h : (x : FieldId) → IsStep p m pl to f f1 g g1 at h ls st below after (instr.Getstatic x) → EI (instr.Getstatic x) (does p m (instr.Getstatic x) to ls st h)
  unfolding does
  getstatic_h x s = some_h (EI (instr.Getstatic x)) tt (λ c. tt) (λ c. tt) (field_of p x) _ (λ field is. some_h (EI (instr.Getstatic x)) tt (λ c. tt) (λ c. tt) field.constant _ (λ v holds. constant_left x s field is v holds))
