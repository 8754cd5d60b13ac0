-- The rows of moved instructions.
use Rattle.std.proofs.Common.{◌≡◌, ℕ, Bool, true, false, List, [], ◌∷◌, ◌++◌, map, Option, Some, None, refl, sym, ap, ◌∙◌}
use Rattle.std.specs.Prelude.{reverse, slice_get, is_none}
use Rattle.std.proofs.lemmas.List.{map-append, reverse-append}
use Rattle.kilim_program.specs.declared.class.Field.{Field}
use Rattle.kilim_program.specs.declared.class.Method.{Method}
use Rattle.kilim_program.specs.declared.instr.Instr.{Instr}
use Rattle.kilim_program.specs.declared.instr.Instr.TheVariants.{Ldc, LdcW, Ldc2W, Aastore, Ireturn, Lreturn, Areturn, Return, Getstatic, Getfield, Putfield, Invokevirtual, Invokespecial, Invokestatic, New, Checkcast, Instanceof, Athrow}
use Rattle.kilim_program.specs.declared.names.ClassId.{ClassId}
use Rattle.kilim_program.specs.declared.names.MethodId.{MethodId}
use Rattle.kilim_program.specs.declared.names.FieldId.{FieldId}
use Rattle.kilim_program.specs.declared.ty.Ty.{Ty}
use Rattle.kilim_program.specs.declared.value.Value.{Value}
use Rattle.kilim_program.specs.declared.value.Value.TheVariants as value
use Rattle.kilim_program.specs.declared.verified.VType.{VType}
use Rattle.kilim_program.specs.declared.verified.VType.TheVariants.{Top, Int, Long, Object}
use Rattle.kilim_program.specs.Program.{Program}
use Rattle.kilim_program.specs.Names.{class_named, method_at, field_of}
use Rattle.kilim_program.specs.Same.{is_constructor}
use Rattle.kilim_type_spec.specs.Step.{vtype, class_vtype, result_types, object_type, throwable_type, vtype_of_class, arguments, Operand, Is, References, needs, field_row, static_row, virtual_row, special_row, special_by, special_fits, has_int, has_long, constant_row, long_constant_row, Takes, Leaves, Makes, row, may_name}
use Rattle.kilim_weave_spec.specs.Woven.{moved_type, moved_instr}
use Rattle.kilim_weave_laws.specs.woven_types.Same.{Shared, Programs}
use Rattle.kilim_weave_laws.proofs.woven_types.Moved.{moved_operand}
use Rattle.kilim_weave_laws.proofs.woven_types.Crux.{moved_row, moved_vtype}

pub map_reverse : {A B : Type 0} (f : A → B) (xs : List A) → map f (reverse xs) ≡ reverse (map f xs)
map_reverse f [] = refl
map_reverse f (x ∷ xs) = ap (map f) (reverse-append (x ∷ []) xs) ∙ (map-append f (reverse xs) (x ∷ []) ∙ (ap (λ z. z ++ (f x ∷ [])) (map_reverse f xs) ∙ sym (reverse-append (f x ∷ []) (map f xs))))

module _ (at : ℕ → ℕ) where
  pub same_arguments : (tys : List Ty) → map (moved_operand at) (map (λ ty. Is (vtype ty)) tys) ≡ map (λ ty. Is (vtype ty)) tys
  same_arguments [] = refl
  same_arguments (ty ∷ tys) = let a = moved_vtype at ty in let r = same_arguments tys in rw (a, r) refl

  pub moved_arguments : (callee : Method) → map (moved_operand at) (arguments callee) ≡ arguments callee
  moved_arguments callee = map_reverse (moved_operand at) (map (λ ty. Is (vtype ty)) callee.params) ∙ ap reverse (same_arguments callee.params)

  pub moved_results : (o : Option Ty) → map (moved_type at) (result_types o) ≡ result_types o
  moved_results None = refl
  moved_results (Some ty) = ap (λ t. t ∷ []) (moved_vtype at ty)

  moved_class : (o : Option ClassId) → moved_type at (vtype_of_class o) ≡ vtype_of_class o
  moved_class None = refl
  moved_class (Some c) = refl

  pub moved_receiver : (callee : Method) (t : VType) → moved_type at t ≡ t → map (moved_operand at) (arguments callee ++ (Is t ∷ [])) ≡ arguments callee ++ (Is t ∷ [])
  moved_receiver callee t e = map-append (moved_operand at) (arguments callee) (Is t ∷ []) ∙ (ap (λ z. z ++ (Is (moved_type at t) ∷ [])) (moved_arguments callee) ∙ ap (λ z. arguments callee ++ (Is z ∷ [])) e)

  moved_results_operands : (o : Option Ty) → map (moved_operand at) (map (λ t. Is t) (result_types o)) ≡ map (λ t. Is t) (result_types o)
  moved_results_operands None = refl
  moved_results_operands (Some ty) = ap (λ t. Is t ∷ []) (moved_vtype at ty)

  any_below : List Operand → List Operand
  any_below os = map (λ o. Is Top) os

  moved_any : (os : List Operand) → map (moved_operand at) (map (λ o. Is Top) os) ≡ map (λ o. Is Top) os
  moved_any [] = refl
  moved_any (o ∷ os) = ap (λ z. Is Top ∷ z) (moved_any os)

  pub moved_own : (m callee : Method) → map (moved_operand at) (map (λ o. Is Top) (arguments callee) ++ (Is (class_vtype m.owner) ∷ [])) ≡ map (λ o. Is Top) (arguments callee) ++ (Is (class_vtype m.owner) ∷ [])
  moved_own m callee = map-append (moved_operand at) (map (λ o. Is Top) (arguments callee)) (Is (class_vtype m.owner) ∷ []) ∙ ap (λ z. z ++ (Is (class_vtype m.owner) ∷ [])) (moved_any (arguments callee))

-- an instruction that names no pausable method, and names one that is there
abbrev pub Named : Program → MethodId → Type 0
Named P id = (callee : Method) × (method_at P id ≡ Some callee) × (callee.pausable ≡ false)

-- by invokespecial, which may call it
abbrev pub Fitting : Program → Method → MethodId → Type 0
Fitting P m id = (callee : Method) × (method_at P id ≡ Some callee) × (callee.pausable ≡ false) × (is_constructor callee ≡ false → (may_name m callee.is_private callee.owner ≡ true) × (special_fits P m id callee ≡ true))

abbrev pub Settled : Program → Method → Instr → Type 0
Settled P m (Invokevirtual id) = Named P id
Settled P m (Invokespecial id) = Fitting P m id
Settled P m (Invokestatic id) = Named P id
Settled P m i = Unit {0}

module _ (P W : Program) (m w : Method) (at : ℕ → ℕ) (same : Shared P W m w at) (progs : Programs P W m w) where
  constant_moved : (v : Value) → constant_row W v ≡ moved_row at (constant_row P v)
  constant_moved (value.Text units) = ap (λ t. Takes [] (t ∷ []) []) (progs.text ∙ sym (moved_class at (class_named P _)))
  constant_moved (value.Int n) = refl
  constant_moved (value.Long n) = refl
  constant_moved value.Null = refl
  constant_moved (value.Ref n) = refl
  constant_moved (value.Box n) = refl
  constant_moved value.Fiber = refl

  long_moved : (v : Value) → long_constant_row v ≡ moved_row at (long_constant_row v)
  long_moved (value.Text units) = refl
  long_moved (value.Int n) = refl
  long_moved (value.Long n) = refl
  long_moved value.Null = refl
  long_moved (value.Ref n) = refl
  long_moved (value.Box n) = refl
  long_moved value.Fiber = refl

  object_moved : object_type W ≡ moved_type at (object_type P)
  object_moved = progs.object ∙ sym (moved_class at (class_named P _))

  throwable_moved : throwable_type W ≡ moved_type at (throwable_type P)
  throwable_moved = progs.throwable ∙ sym (moved_class at (class_named P _))

  static_moved : (f : FieldId) (o : Option Field) → field_row (Getstatic f) w o ≡ moved_row at (field_row (Getstatic f) m o)
  static_moved f None = refl
  static_moved f (Some field) = let a = moved_vtype at field.ty in let b = same.owner in rw (b, a) refl

  get_moved : (f : FieldId) (o : Option Field) → field_row (Getfield f) w o ≡ moved_row at (field_row (Getfield f) m o)
  get_moved f None = refl
  get_moved f (Some field) = let a = moved_vtype at field.ty in let b = same.owner in rw (b, a) refl

  put_moved : (f : FieldId) (o : Option Field) → field_row (Putfield f) w o ≡ moved_row at (field_row (Putfield f) m o)
  put_moved f None = refl
  put_moved f (Some field) = let a = moved_vtype at field.ty in let b = same.owner in let c = same.plain in let d = same.plain_too in rw (b, a, c, d) refl

  static_call : (callee : Method) → static_row w (Some callee) ≡ moved_row at (static_row m (Some callee))
  static_call callee = let a = moved_arguments at callee in let r = moved_results at callee.result in let b = same.owner in rw (b, a, r) refl

  virtual_call : (callee : Method) → virtual_row w (Some callee) ≡ moved_row at (virtual_row m (Some callee))
  virtual_call callee = let a = moved_receiver at callee (class_vtype callee.owner) refl in let r = moved_results at callee.result in let b = same.owner in rw (b, a, r) refl

  special_call : (b : Bool) (id : MethodId) (callee : Method) → (b ≡ false → special_fits W w id callee ≡ special_fits P m id callee) → special_by b W w id callee ≡ moved_row at (special_by b P m id callee)
  special_call true id callee e = let a = moved_arguments at callee in let r = moved_results at callee.result in let b = same.owner in rw (b, a, r) refl
  special_call false id callee fits =
      let e = fits refl in
      let a = moved_receiver at callee (class_vtype callee.owner) refl in
      let r = moved_results at callee.result in
      let b = same.owner in
      let o = moved_own at m callee in
      rw (e, b, a, r, o) refl

  pub row_moved : (i : Instr) → Settled P m i → row W w (moved_instr at i) ≡ moved_row at (row P m i)
  unfolding row
  row_moved (Ldc v) s = constant_moved v
  row_moved (LdcW v) s = constant_moved v
  row_moved (Ldc2W v) s = long_moved v
  row_moved Aastore s = ap (λ t. Takes (Is t ∷ Is Int ∷ References ∷ []) [] []) object_moved
  row_moved (Checkcast ty) s = ap (λ t. Takes (Is t ∷ []) (Object ty ∷ []) []) object_moved
  row_moved (Instanceof ty) s = ap (λ t. Takes (Is t ∷ []) (Int ∷ []) []) object_moved
  row_moved Athrow s = ap (λ t. Takes (Is t ∷ []) [] []) throwable_moved
  row_moved Ireturn s = ap (λ r. Leaves (Is Int ∷ []) (needs 11 (has_int r) ∷ [])) same.result
  row_moved Lreturn s = ap (λ r. Leaves (Is Long ∷ []) (needs 11 (has_long r) ∷ [])) same.result
  row_moved Areturn s = let a = same.result in let b = moved_results_operands at m.result in rw (a, b) refl
  row_moved Return s = ap (λ r. Leaves [] (needs 11 (is_none r) ∷ [])) same.result
  row_moved (Getstatic f) s = ap (λ fs. field_row (Getstatic f) w (slice_get fs f.0)) progs.fields ∙ static_moved f (field_of P f)
  row_moved (Getfield f) s = ap (λ fs. field_row (Getfield f) w (slice_get fs f.0)) progs.fields ∙ get_moved f (field_of P f)
  row_moved (Putfield f) s = ap (λ fs. field_row (Putfield f) w (slice_get fs f.0)) progs.fields ∙ put_moved f (field_of P f)
  row_moved (New c) s = ap (λ b. Makes b) (progs.makes c)
  row_moved (Invokestatic id) s = ap (static_row w) (progs.unchanged id s.0 s.1 s.2) ∙ (static_call s.0 ∙ ap (λ o. moved_row at (static_row m o)) (sym s.1))
  row_moved (Invokevirtual id) s = ap (virtual_row w) (progs.unchanged id s.0 s.1 s.2) ∙ (virtual_call s.0 ∙ ap (λ o. moved_row at (virtual_row m o)) (sym s.1))
  row_moved (Invokespecial id) s =
      let there = progs.unchanged id s.0 s.1 s.2 in
      ap (special_row W w id) there ∙ (special_call (is_constructor s.0) id s.0 (λ n. let h = s.3 n in progs.special id s.0 s.0 s.1 there n h.0 h.1 ∙ sym h.1) ∙ ap (λ o. moved_row at (special_row P m id o)) (sym s.1))
  row_moved _ s = refl
