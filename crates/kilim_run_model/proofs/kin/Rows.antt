-- What an instruction does doesn't depend on the names of objects.
use Rattle.std.specs.Prelude.{codes}
use Rattle.std.specs.Str.{bytes_eq}
use Rattle.kilim_run_machine.specs.Does.{long_shift, loads_int, stores_int, calls_text, text_answers, is_text, unit_at, at_unit, bit, calls_built_in, calls_method, chosen, gives_message, keeps_message, special, narrowed_result}
use Rattle.kilim_run_machine.specs.Natives.{is_text_method, is_built_in_constructor, is_get_message, is_handed_out, is_message_constructor}
use Rattle.kilim_run_state.specs.Objects.{first_value_of, first_value, first_field, new_object, new_array}
use Rattle.kilim_run_state.specs.Shapes.{field_in}
use Rattle.kilim_run_model.proofs.kin.Words.{constant_kin}
use mathlib.Core.List.{reverse_aux}
use Rattle.std.proofs.Common.{◌≡◌, ℕ, zero, suc, ℤ, pos, negsuc, Bool, true, false, not, cond, List, [], ◌∷◌, ◌++◌, map, length, reverse, Option, Some, None, refl, sym, ap, subst, ◌∙◌, inl, inr, ◌==◌, ◌%◌, ◌^◌}
use Rattle.std.specs.Prelude.{slice_get, slice_set, nat_lt}
use Rattle.std.specs.Int.{cast_signed, w32}
use Rattle.std.specs.Ordering.{int_eq}
use Rattle.std.specs.FinMap.{insert}
use Rattle.std.proofs.lemmas.Bool.Decides.{eqb_tells}
use Rattle.std.proofs.lemmas.Bool.{eq-eqb, ne_eqb}
use Rattle.kilim_run_state.specs.declared.cause.EndCause.TheVariants as cause
use Rattle.kilim_program.specs.declared.class.Field.{Field}
use Rattle.kilim_program.specs.declared.class.Method.{Method}
use Rattle.kilim_program.specs.declared.instr.Instr.{Instr}
use Rattle.kilim_program.specs.declared.instr.Instr.TheVariants as instr
use Rattle.kilim_program.specs.declared.names.FieldId.{FieldId}
use Rattle.kilim_program.specs.declared.names.MethodId.{MethodId}
use Rattle.kilim_program.specs.declared.names.ClassId.{ClassId}
use Rattle.kilim_program.specs.declared.ty.Base.{Base}
use Rattle.kilim_program.specs.declared.ty.Base.TheVariants as base
use Rattle.kilim_program.specs.declared.ty.Ty.{Ty}
use Rattle.kilim_program.specs.declared.value.Value.{Value}
use Rattle.kilim_program.specs.declared.value.Value.TheVariants.{Int, Long, Null, Ref, Text, Box, Fiber}
use Rattle.kilim_program.specs.BuiltIn.{message_field}
use Rattle.kilim_program.specs.Program.{Program}
use Rattle.kilim_run_state.specs.Machine.{Objects}
use Rattle.kilim_program.specs.Names.{method_at, field_of}
use Rattle.kilim_program.specs.Members.{object_fields}
use Rattle.kilim_run_machine.specs.Effect.{Effect}
use Rattle.kilim_run_machine.specs.Effect as effect
use Rattle.kilim_run_machine.specs.Does.{does, int_binary, int_unary, int_division, long_binary, long_division, int_jump, compare_jump, reference_jump, null_jump, place_if, same_reference, is_null, with_field, narrowed_int, narrowed_to, array_limit, makes_array, calls_on, cast_fits, element_type, throws_object}
use Rattle.kilim_run_model.specs.kin.Kin.{Names, Owner, IsKin, AreKin, FieldsKin, ObjectsKin, MaybeKin, IsHeld, AreHeld, IsThere, IsAmong, StandsIn, Alike, EffectKin}
use Rattle.kilim_run_model.specs.kin.Laws.{RowsKin}
use Rattle.kilim_run_model.proofs.kin.Kins.{kin_append, kin_reverse, kin_get, kin_set, kin_replicate, kin_length}
use Rattle.kilim_run_model.proofs.kin.Renamed.{number_of, renamed, kin_is}
use Rattle.kilim_run_model.proofs.kin.Words.{some_kin, slot_kin, value_kin, values_kin, int_kin, long_kin, on_int_kin, on_two_ints_kin, on_long_kin, on_two_longs_kin, reference_kin, on_reference_kin, on_receiver_kin, receiver_kin, when_kin, word_kin, two_words_kin, at_object_kin, object_kin, class_kin, index_kin, cond_kin, written}

held_turn : (good : ℕ → Type 0) (vs cs : List Value) → AreHeld good vs → AreHeld good cs → AreHeld good (reverse_aux vs cs)
held_turn good [] cs e d = d
held_turn good (v ∷ vs) cs e d = held_turn good vs (v ∷ cs) e.1 (e.0, d)

held_reverse : (good : ℕ → Type 0) (vs : List Value) → AreHeld good vs → AreHeld good (reverse vs)
held_reverse good vs e = held_turn good vs [] e tt

-- ---- values of new objects

module _ (p : Program) (of : Names) where
  zero_kin : (b : Base) → IsKin of (first_value_of b) (first_value_of b)
  zero_kin base.Long = refl
  zero_kin (base.Class c) = tt
  zero_kin base.Bool = refl
  zero_kin base.Byte = refl
  zero_kin base.Char = refl
  zero_kin base.Short = refl
  zero_kin base.Int = refl

  first_value_kin : (ty : Ty) → IsKin of (first_value ty) (first_value ty)
  first_value_kin ty = elim (ty.dims == 0) as (λ (b : Bool). IsKin of (cond b (first_value_of ty.base) Null) (cond b (first_value_of ty.base) Null)) [ true ↦ zero_kin ty.base | false ↦ tt ]

  first_fields_kin : (fs : List FieldId) → FieldsKin of (map (first_field p) fs) (map (first_field p) fs)
  first_fields_kin [] = tt
  first_fields_kin (f ∷ fs) = (refl, first_field_kin (field_of p f), first_fields_kin fs)
    where
      first_field_kin : (o : Option Field) → IsKin of (elim o [ None ↦ Null | Some field ↦ first_value field.ty ]) (elim o [ None ↦ Null | Some field ↦ first_value field.ty ])
      first_field_kin None = tt
      first_field_kin (Some field) = first_value_kin field.ty

  pub new_kin : (c : ClassId) → ObjectsKin of (new_object p c) (new_object p c)
  new_kin c = record { class = refl; fields = first_fields_kin (object_fields p c); elements = tt }

module _ (p : Program) (own : Method) (good : ℕ → Type 0) (of : Names) (owner : ℕ → Owner) (t : ℕ) (h k : Objects) (alike : Alike of owner t k h k) (there : (n : ℕ) → good n → IsThere h n) where
  abbrev EKin : Effect → Effect → Type 0
  EKin e d = EffectKin good of owner t h k e d

  throws_kin : (n x : ℕ) → of n ≡ Some x → (dims : ℕ) (b : Base) → EKin (throws_object p n dims b) (throws_object p x dims b)
  throws_kin n x e zero (base.Class c) = record { object = e; class = refl; cause = refl }
  throws_kin n x e zero b = tt
  throws_kin n x e (suc d) b = tt

  array_kin : (ty : Ty) (v : Value) (n : ℕ) → IsKin of v v → ObjectsKin of (new_array ty v n) (new_array ty v n)
  array_kin ty v n e = record { class = refl; fields = tt; elements = kin_replicate of n v v e }

  -- ---- fields

  field_get : (es ds : List (FieldId × Value)) (f : FieldId) → FieldsKin of es ds → MaybeKin of (field_in es f) (field_in ds f)
  field_get [] [] f e = tt
  field_get (a ∷ es) (b ∷ ds) f e =
      subst (λ (g : FieldId). MaybeKin of (cond (a.0.0 == f.0) (Some a.1) (field_in es f)) (cond (g.0 == f.0) (Some b.1) (field_in ds f))) e.0
      (elim (a.0.0 == f.0) as (λ (z : Bool). MaybeKin of (cond z (Some a.1) (field_in es f)) (cond z (Some b.1) (field_in ds f))) [ true ↦ e.1 | false ↦ field_get es ds f e.2 ])
  field_get _ _ f e = absurd e

  field_set : (es ds : List (FieldId × Value)) (f : FieldId) (v w : Value) → FieldsKin of es ds → IsKin of v w → FieldsKin of (with_field es f v) (with_field ds f w)
  field_set [] [] f v w e d = tt
  field_set (a ∷ es) (b ∷ ds) f v w e d =
      subst (λ (g : FieldId). FieldsKin of (cond (a.0.0 == f.0) ((a.0, v) ∷ es) (a ∷ with_field es f v)) (cond (g.0 == f.0) ((b.0, w) ∷ ds) (b ∷ with_field ds f w))) e.0
      (elim (a.0.0 == f.0) as (λ (z : Bool). FieldsKin of (cond z ((a.0, v) ∷ es) (a ∷ with_field es f v)) (cond z ((b.0, w) ∷ ds) (b ∷ with_field ds f w))) [ true ↦ (e.0, d, e.2) | false ↦ (e.0, e.1, field_set es ds f v w e.2 d) ])
  field_set _ _ f v w e d = absurd e

  narrowed_kin : (ty : Ty) (v w : Value) → IsKin of v w → IsKin of (narrowed_to ty v) (narrowed_to ty w)
  narrowed_kin ty (Int a) (Int b) e = ap (λ (z : ℤ). cond (ty.dims == 0) (narrowed_int ty.base z) z) e
  narrowed_kin ty (Long a) (Long b) e = e
  narrowed_kin ty Null Null e = tt
  narrowed_kin ty (Ref a) (Ref b) e = e
  narrowed_kin ty (Text a) (Text b) e = e
  narrowed_kin ty (Box a) (Box b) e = e
  narrowed_kin ty Fiber Fiber e = tt
  narrowed_kin ty _ _ e = absurd e

  -- ---- two references

  -- where both are in the heap, two names are one name exactly where they are in the shared heap
  same_names : (n m : ℕ) → IsKin of (Ref n) (Ref (number_of (of n))) → IsKin of (Ref m) (Ref (number_of (of m))) → IsHeld good (Ref n) → IsHeld good (Ref m) → (n == m) ≡ (number_of (of n) == number_of (of m))
  same_names n m e d u v = elim (eqb_tells n m) [
    | inl z ↦ z.0 ∙ sym (eq-eqb _ _ (ap (λ (i : ℕ). number_of (of i)) z.1))
    | inr z ↦ z.0 ∙ sym (ne_eqb _ _ (λ w. z.1 (alike.apart n m (number_of (of m)) (there n u).0 (there m v).0 (e ∙ ap Some w) d (there n u).1 (there m v).1)))
  ]

  same_renamed : (v w : Value) → IsKin of v (renamed of v) → IsKin of w (renamed of w) → IsHeld good v → IsHeld good w → same_reference v w ≡ same_reference (renamed of v) (renamed of w)
  same_renamed (Ref n) (Ref m) e d u v = same_names n m e d u v
  same_renamed Null Null e d u v = refl
  same_renamed (Text a) (Text b) e d u v = refl
  same_renamed (Box a) (Box b) e d u v = refl
  same_renamed Fiber Fiber e d u v = refl
  same_renamed _ _ e d u v = refl

  same_kin : (v w a b : Value) → IsKin of v a → IsKin of w b → IsHeld good v → IsHeld good w → same_reference v w ≡ same_reference a b
  same_kin v w a b e d i j =
      let x = kin_is of v a e in
      let y = kin_is of w b d in
      same_renamed v w (subst (λ (z : Value). IsKin of v z) (sym x) e) (subst (λ (z : Value). IsKin of w z) (sym y) d) i j ∙ (ap (λ (z : Value). same_reference z (renamed of w)) x ∙ ap (same_reference a) y)

  text_renamed : (v : Value) → effect.text_of v ≡ effect.text_of (renamed of v)
  text_renamed (Text a) = refl
  text_renamed _ = refl

  text_same : (v w : Value) → IsKin of v w → effect.text_of v ≡ effect.text_of w
  text_same v w e = text_renamed v ∙ ap effect.text_of (kin_is of v w e)

  result_kin : (o : Option Ty) (x : ℤ) → IsKin of (narrowed_result o (Int x)) (narrowed_result o (Int x))
  result_kin None x = refl
  result_kin (Some ty) x = refl

  unit_kin : (units : List ℕ) (i : ℤ) (go ho : Value → Effect) → ((x : ℤ) → EKin (go (Int x)) (ho (Int x))) → EKin (unit_at units i go) (unit_at units i ho)
  unit_kin units (negsuc i) go ho each = refl
  unit_kin units (pos i) go ho each = found (slice_get units i)
    where
      found : (o : Option ℕ) → EKin (at_unit o go) (at_unit o ho)
      found None = refl
      found (Some unit) = each (pos unit)

  answers_kin : (name units : List ℕ) (xs ys : List Value) → AreKin of xs ys → (go ho : Value → Effect) → ((x : ℤ) → EKin (go (Int x)) (ho (Int x))) → EKin (text_answers name units xs go) (text_answers name units ys ho)
  answers_kin name units [] [] e go ho each = when_kin good of owner t h k alike there _ _ refl _ _ (each _)
  answers_kin name units (v ∷ []) (w ∷ []) e go ho each =
      cond_kin good of owner t h k alike there (bytes_eq name (codes "equals")) (go (Int (bit (is_text units (effect.text_of v))))) (ho (Int (bit (is_text units (effect.text_of w))))) _ _
      (subst (λ (o : Option (List ℕ)). EKin (go (Int (bit (is_text units (effect.text_of v))))) (ho (Int (bit (is_text units o))))) (text_same v w e.0) (each _))
      (when_kin good of owner t h k alike there _ _ refl _ _ (int_kin good of owner t h k alike there v w e.0 _ _ (λ i. unit_kin units i go ho each)))
  answers_kin name units (v ∷ a ∷ vs) (w ∷ b ∷ ws) e go ho each = tt
  answers_kin name units [] (w ∷ ws) e go ho each = absurd e
  answers_kin name units (v ∷ vs) [] e go ho each = absurd e
  answers_kin name units (v ∷ []) (w ∷ b ∷ ws) e go ho each = absurd e.1
  answers_kin name units (v ∷ a ∷ vs) (w ∷ []) e go ho each = absurd e.1

  null_same : (v w : Value) → IsKin of v w → is_null v ≡ is_null w
  null_same v w e = null_renamed v ∙ ap is_null (kin_is of v w e)
    where
      null_renamed : (v : Value) → is_null v ≡ is_null (renamed of v)
      null_renamed Null = refl
      null_renamed _ = refl

  module _ (next : ℕ) (ls ms vs ws : List Value) (l : AreKin of ls ms) (s : AreKin of vs ws × AreHeld good vs) where
    -- ---- families

    ints : (f : ℤ → ℤ → ℤ) → EKin (int_binary f next ls vs h) (int_binary f next ms ws k)
    ints f = on_two_ints_kin good of owner t h k alike there vs ws s _ _ (λ x y rs ss r. (refl, l, (refl, r.0), alike))

    ints_divide : (f : ℤ → ℤ → ℤ) → EKin (int_division f next ls vs h) (int_division f next ms ws k)
    ints_divide f = on_two_ints_kin good of owner t h k alike there vs ws s _ _ (λ x y rs ss r. cond_kin good of owner t h k alike there (int_eq y (pos 0)) _ _ _ _ refl (refl, l, (refl, r.0), alike))

    int_one : (f : ℤ → ℤ) → EKin (int_unary f next ls vs h) (int_unary f next ms ws k)
    int_one f = on_int_kin good of owner t h k alike there vs ws s _ _ (λ x rs ss r. (refl, l, (refl, r.0), alike))

    longs : (f : ℤ → ℤ → ℤ) → EKin (long_binary f next ls vs h) (long_binary f next ms ws k)
    longs f = on_two_longs_kin good of owner t h k alike there vs ws s _ _ (λ x y rs ss r. (refl, l, (refl, r.0), alike))

    longs_divide : (f : ℤ → ℤ → ℤ) → EKin (long_division f next ls vs h) (long_division f next ms ws k)
    longs_divide f = on_two_longs_kin good of owner t h k alike there vs ws s _ _ (λ x y rs ss r. cond_kin good of owner t h k alike there (int_eq y (pos 0)) _ _ _ _ refl (refl, l, (refl, r.0), alike))

    int_jumps : (f : ℤ → Bool) (to : ℕ) → EKin (int_jump f to next ls vs h) (int_jump f to next ms ws k)
    int_jumps f to = on_int_kin good of owner t h k alike there vs ws s _ _ (λ x rs ss r. (refl, l, r.0, alike))

    compare_jumps : (f : ℤ → ℤ → Bool) (to : ℕ) → EKin (compare_jump f to next ls vs h) (compare_jump f to next ms ws k)
    compare_jumps f to = on_two_ints_kin good of owner t h k alike there vs ws s _ _ (λ x y rs ss r. (refl, l, r.0, alike))

    reference_jumps : (f : Bool → Bool) (to : ℕ) → EKin (reference_jump f to next ls vs h) (reference_jump f to next ms ws k)
    reference_jumps f to = on_reference_kin good of owner t h k alike there vs ws s _ _ (λ w b q ts us u. on_reference_kin good of owner t h k alike there ts us u _ _ (λ v a r rs ss z.
        (ap (λ (c : Bool). place_if (f c) to next) (same_kin v w a b r.0 q.0 r.1 q.1), l, z.0, alike)))

    null_jumps : (f : Bool → Bool) (to : ℕ) → EKin (null_jump f to next ls vs h) (null_jump f to next ms ws k)
    null_jumps f to = on_reference_kin good of owner t h k alike there vs ws s _ _ (λ v w q rs ss r. (ap (λ (c : Bool). place_if (f c) to next) (null_same v w q.0), l, r.0, alike))

    arrays : (ty : Ty) (v : Value) → IsKin of v v → EKin (effect.on_int vs (λ n rest. makes_array ty v n next ls rest h)) (effect.on_int ws (λ n rest. makes_array ty v n next ms rest k))
    arrays ty v e = on_int_kin good of owner t h k alike there vs ws s _ _ (λ x rs ss r. sized x rs ss r.0)
      where
        sized : (x : ℤ) (rs ss : List Value) → AreKin of rs ss → EKin (makes_array ty v x next ls rs h) (makes_array ty v x next ms ss k)
        sized (pos n) rs ss r = cond_kin good of owner t h k alike there (nat_lt array_limit n) _ _ _ _ refl (array_kin ty v n e, refl, l, r, refl, refl)
        sized (negsuc n) rs ss r = refl

    keeps_kin : (xs ys rs ss : List Value) → AreKin of xs ys → AreHeld good xs → AreKin of rs ss → EKin (keeps_message xs next ls rs h) (keeps_message ys next ms ss k)
    keeps_kin [] [] rs ss e g d = tt
    keeps_kin (v ∷ []) (w ∷ []) rs ss e g d = tt
    keeps_kin (v ∷ a ∷ []) (w ∷ b ∷ []) rs ss e g d = at_object_kin good of owner t h k alike there v w (e.0, g.0) _ _ (λ n x o q held.
        slot_kin good of owner t h k alike there _ _ (field_get o.fields q.fields message_field held.3.fields) _ _ (λ old was i.
        (refl, l, d, written good of owner t h k alike there n x o q held _ _ (record { class = held.3.class; fields = field_set o.fields q.fields message_field a b held.3.fields e.1.0; elements = held.3.elements }))))
    keeps_kin (v ∷ a ∷ c ∷ xs) (w ∷ b ∷ x ∷ ys) rs ss e g d = tt
    keeps_kin [] (w ∷ ys) rs ss e g d = absurd e
    keeps_kin (v ∷ xs) [] rs ss e g d = absurd e
    keeps_kin (v ∷ []) (w ∷ b ∷ ys) rs ss e g d = absurd e.1
    keeps_kin (v ∷ a ∷ xs) (w ∷ []) rs ss e g d = absurd e.1
    keeps_kin (v ∷ a ∷ []) (w ∷ b ∷ x ∷ ys) rs ss e g d = absurd e.1.1
    keeps_kin (v ∷ a ∷ c ∷ xs) (w ∷ b ∷ []) rs ss e g d = absurd e.1.1

    gives_kin : (xs ys rs ss : List Value) → AreKin of xs ys → AreHeld good xs → AreKin of rs ss → EKin (gives_message xs next ls rs h) (gives_message ys next ms ss k)
    gives_kin [] [] rs ss e g d = tt
    gives_kin (v ∷ []) (w ∷ []) rs ss e g d = at_object_kin good of owner t h k alike there v w (e.0, g.0) _ _ (λ n x o q held.
        slot_kin good of owner t h k alike there _ _ (field_get o.fields q.fields message_field held.3.fields) _ _ (λ a b i. (refl, l, (i, d), alike)))
    gives_kin (v ∷ a ∷ xs) (w ∷ b ∷ ys) rs ss e g d = tt
    gives_kin [] (w ∷ ys) rs ss e g d = absurd e
    gives_kin (v ∷ xs) [] rs ss e g d = absurd e
    gives_kin (v ∷ []) (w ∷ b ∷ ys) rs ss e g d = absurd e.1
    gives_kin (v ∷ a ∷ xs) (w ∷ []) rs ss e g d = absurd e.1

    built_in_kin : (method : Method) (m : MethodId) (xs ys rs ss : List Value) → AreKin of xs ys → AreHeld good xs → AreKin of rs ss → EKin (calls_built_in method m xs next ls rs h) (calls_built_in method m ys next ms ss k)
    built_in_kin method m xs ys rs ss e g d = cond_kin good of owner t h k alike there (is_message_constructor method) _ _ _ _ (keeps_kin xs ys rs ss e g d)
        (cond_kin good of owner t h k alike there (is_get_message method) _ _ _ _ (gives_kin xs ys rs ss e g d) (refl, e, refl, l, d, refl, refl, g))

    method_kin : (o : Option Method) (m : MethodId) (xs ys rs ss : List Value) → AreKin of xs ys → AreHeld good xs → AreKin of rs ss → EKin (calls_method o m xs next ls rs h) (calls_method o m ys next ms ss k)
    method_kin None m xs ys rs ss e g d = tt
    method_kin (Some method) m xs ys rs ss e g d = cond_kin good of owner t h k alike there method.built_in _ _ _ _ (built_in_kin method m xs ys rs ss e g d) (refl, e, refl, l, d, refl, refl)

    called_kin : (method : Method) (m : MethodId) (xs ys rs ss : List Value) (v w : Value) → AreKin of xs ys → AreKin of rs ss → IsKin of v w → AreHeld good (v ∷ xs) → (c : Option Ty) → EKin (calls_on p method m xs next ls rs h v c) (calls_on p method m ys next ms ss k w c)
    called_kin method m xs ys rs ss v w e d q g None = refl
    called_kin method m xs ys rs ss v w e d q g (Some ty) = method_kin (method_at p (chosen p method m ty)) (chosen p method m ty) (v ∷ xs) (w ∷ ys) rs ss (q, e) g d

    if_kin : (b : Bool) (e d : Effect) → EKin e d → EKin (cond b e effect.Stuck) (cond b d effect.Stuck)
    if_kin true e d x = x
    if_kin false e d x = tt

    long_shifts : (f : ℤ → ℤ → ℤ) → EKin (long_shift f next ls vs h) (long_shift f next ms ws k)
    long_shifts f = on_int_kin good of owner t h k alike there vs ws s _ _ (λ y ts us u. on_long_kin good of owner t h k alike there ts us u _ _ (λ x rs ss r. (refl, l, (refl, r.0), alike)))

    int_loads : EKin (loads_int next ls vs h) (loads_int next ms ws k)
    int_loads = on_int_kin good of owner t h k alike there vs ws s _ _ (λ i ts us u. object_kin good of owner t h k alike there ts us u _ _ (λ n x o q held rs ss r. index_kin good of owner t h k alike there o.elements q.elements held.3.elements i _ _ (λ j v w e. int_kin good of owner t h k alike there v w e _ _ (λ y. (refl, l, (refl, r.0), alike)))))

    int_stores : EKin (stores_int next ls vs h) (stores_int next ms ws k)
    int_stores = on_int_kin good of owner t h k alike there vs ws s _ _ (λ y as1 bs1 z. on_int_kin good of owner t h k alike there as1 bs1 z _ _ (λ i ts us u. object_kin good of owner t h k alike there ts us u _ _ (λ n x o q held rs ss r. index_kin good of owner t h k alike there o.elements q.elements held.3.elements i _ _ (λ j v w e.
        (refl, l, r.0, written good of owner t h k alike there n x o q held _ _ (record { class = held.3.class; fields = held.3.fields; elements = kin_set of o.elements q.elements j _ _ held.3.elements (ap (λ (ty : Ty). narrowed_int ty.base y) held.3.class) }))))))

    texts : (method : Method) (xs ys rs ss : List Value) (v w : Value) → AreKin of xs ys → AreKin of rs ss → IsKin of v w → EKin (calls_text method xs next ls rs h v) (calls_text method ys next ms ss k w)
    texts method xs ys rs ss v w e d q = receiver_kin good of owner t h k alike there v w q _ _ (λ c.
        subst (λ (o : Option (List ℕ)). EKin (effect.with_some (effect.text_of v) (λ units. text_answers method.name units xs (λ a. effect.Goes next ls (a ∷ rs) h))) (effect.with_some o (λ units. text_answers method.name units ys (λ a. effect.Goes next ms (a ∷ ss) k)))) (text_same v w q)
        (some_kin good of owner t h k alike there (effect.text_of v) _ _ (λ units. answers_kin method.name units xs ys e _ _ (λ x. (refl, l, (refl, d), alike)))))

    -- ---- the table

    pop2_row : EKin (does p own instr.Pop2 next ls vs h) (does p own instr.Pop2 next ms ws k)
    unfolding does
    pop2_row = two_words_kin good of owner t h k alike there vs ws s (λ xs rs. effect.Goes next ls rs h) (λ xs rs. effect.Goes next ms rs k) (λ xs ys q rs ss r. (refl, l, r.0, alike))

    dup_x1_row : EKin (does p own instr.DupX1 next ls vs h) (does p own instr.DupX1 next ms ws k)
    unfolding does
    dup_x1_row = word_kin good of owner t h k alike there vs ws s _ _ (λ v w q ts us u. word_kin good of owner t h k alike there ts us u _ _ (λ a b c rs ss r. (refl, l, (q.0, (c.0, (q.0, r.0))), alike)))

    dup_x2_row : EKin (does p own instr.DupX2 next ls vs h) (does p own instr.DupX2 next ms ws k)
    unfolding does
    dup_x2_row = word_kin good of owner t h k alike there vs ws s _ _ (λ v w q ts us u. two_words_kin good of owner t h k alike there ts us u (λ xs rs. effect.Goes next ls (v ∷ (xs ++ v ∷ rs)) h) (λ xs rs. effect.Goes next ms (w ∷ (xs ++ w ∷ rs)) k) (λ xs ys c rs ss r. (refl, l, (q.0, kin_append of xs ys (v ∷ rs) (w ∷ ss) c (q.0, r.0)), alike)))

    dup2_row : EKin (does p own instr.Dup2 next ls vs h) (does p own instr.Dup2 next ms ws k)
    unfolding does
    dup2_row = two_words_kin good of owner t h k alike there vs ws s (λ xs rs. effect.Goes next ls (xs ++ (xs ++ rs)) h) (λ xs rs. effect.Goes next ms (xs ++ (xs ++ rs)) k) (λ xs ys q rs ss r. (refl, l, kin_append of xs ys _ _ q (kin_append of xs ys rs ss q r.0), alike))

    dup2_x1_row : EKin (does p own instr.Dup2X1 next ls vs h) (does p own instr.Dup2X1 next ms ws k)
    unfolding does
    dup2_x1_row = two_words_kin good of owner t h k alike there vs ws s (λ xs b. effect.on_word b (λ w rs. effect.Goes next ls (xs ++ w ∷ (xs ++ rs)) h)) (λ xs b. effect.on_word b (λ w rs. effect.Goes next ms (xs ++ w ∷ (xs ++ rs)) k)) (λ xs ys q ts us u. word_kin good of owner t h k alike there ts us u _ _ (λ v w c rs ss r. (refl, l, kin_append of xs ys (v ∷ (xs ++ rs)) (w ∷ (ys ++ ss)) q (c.0, kin_append of xs ys rs ss q r.0), alike)))

    dup2_x2_row : EKin (does p own instr.Dup2X2 next ls vs h) (does p own instr.Dup2X2 next ms ws k)
    unfolding does
    dup2_x2_row = two_words_kin good of owner t h k alike there vs ws s (λ xs b. effect.on_two_words b (λ as1 rs. effect.Goes next ls (xs ++ (as1 ++ (xs ++ rs))) h)) (λ xs b. effect.on_two_words b (λ as1 rs. effect.Goes next ms (xs ++ (as1 ++ (xs ++ rs))) k)) (λ xs ys q ts us u. two_words_kin good of owner t h k alike there ts us u (λ as1 rs. effect.Goes next ls (xs ++ (as1 ++ (xs ++ rs))) h) (λ as1 rs. effect.Goes next ms (ys ++ (as1 ++ (ys ++ rs))) k) (λ as1 bs1 c rs ss r. (refl, l, kin_append of xs ys _ _ q (kin_append of as1 bs1 _ _ c (kin_append of xs ys rs ss q r.0)), alike)))

    swap_row : EKin (does p own instr.Swap next ls vs h) (does p own instr.Swap next ms ws k)
    unfolding does
    swap_row = word_kin good of owner t h k alike there vs ws s _ _ (λ v w q ts us u. word_kin good of owner t h k alike there ts us u _ _ (λ a b c rs ss r. (refl, l, (c.0, (q.0, r.0)), alike)))

    lcmp_row : EKin (does p own instr.Lcmp next ls vs h) (does p own instr.Lcmp next ms ws k)
    unfolding does
    lcmp_row = on_two_longs_kin good of owner t h k alike there vs ws s _ _ (λ x y rs ss r. (refl, l, (refl, r.0), alike))

    getfield_row : (f : FieldId) → EKin (does p own (instr.Getfield f) next ls vs h) (does p own (instr.Getfield f) next ms ws k)
    unfolding does
    getfield_row f = object_kin good of owner t h k alike there vs ws s _ _ (λ n x o q held rs ss r. slot_kin good of owner t h k alike there _ _ (field_get o.fields q.fields f held.3.fields) _ _ (λ v w e. (refl, l, (e, r.0), alike)))

    putfield_row : (f : FieldId) → EKin (does p own (instr.Putfield f) next ls vs h) (does p own (instr.Putfield f) next ms ws k)
    unfolding does
    putfield_row f = value_kin good of owner t h k alike there vs ws s _ _ (λ v w e ts us u. object_kin good of owner t h k alike there ts us u _ _ (λ n x o q held rs ss r. some_kin good of owner t h k alike there (field_of p f) _ _ (λ field.
        slot_kin good of owner t h k alike there _ _ (field_get o.fields q.fields f held.3.fields) _ _ (λ a b d.
        (refl, l, r.0, written good of owner t h k alike there n x o q held _ _ (record { class = held.3.class; fields = field_set o.fields q.fields f _ _ held.3.fields (narrowed_kin field.ty v w e.0); elements = held.3.elements }))))))

    invokevirtual_row : (m : MethodId) → EKin (does p own (instr.Invokevirtual m) next ls vs h) (does p own (instr.Invokevirtual m) next ms ws k)
    unfolding does
    invokevirtual_row m = some_kin good of owner t h k alike there (method_at p m) _ _ (λ (method : Method). values_kin good of owner t h k alike there (length method.params) vs ws s _ _ (λ xs ys a ts us u. value_kin good of owner t h k alike there ts us u _ _ (λ v w e rs ss r.
        cond_kin good of owner t h k alike there (is_text_method p method) (calls_text method (reverse xs) next ls rs h v) (calls_text method (reverse ys) next ms ss k w) (effect.as_class p v h (calls_on p method m (reverse xs) next ls rs h v)) (effect.as_class p w k (calls_on p method m (reverse ys) next ms ss k w))
        (texts method (reverse xs) (reverse ys) rs ss v w (kin_reverse of xs ys a.0) r.0 e.0)
        (class_kin good of owner t h k alike there p v w e _ _ (called_kin method m (reverse xs) (reverse ys) rs ss v w (kin_reverse of xs ys a.0) r.0 e.0 (e.1, held_reverse good xs a.1))))))

    invokespecial_row : (m : MethodId) → EKin (does p own (instr.Invokespecial m) next ls vs h) (does p own (instr.Invokespecial m) next ms ws k)
    unfolding does
    invokespecial_row m = some_kin good of owner t h k alike there (method_at p m) _ _ (λ (method : Method). cond_kin good of owner t h k alike there (is_built_in_constructor method)
        (effect.on_receiver vs (λ v rs. effect.Goes next ls rs h)) (effect.on_receiver ws (λ v rs. effect.Goes next ms rs k))
        (effect.on_values (length method.params) vs (λ xs b. effect.on_receiver b (λ v rs. calls_method (method_at p (special p own method m)) (special p own method m) (v ∷ reverse xs) next ls rs h)))
        (effect.on_values (length method.params) ws (λ xs b. effect.on_receiver b (λ v rs. calls_method (method_at p (special p own method m)) (special p own method m) (v ∷ reverse xs) next ms rs k)))
        (on_receiver_kin good of owner t h k alike there vs ws s _ _ (λ v w q rs ss r. (refl, l, r.0, alike)))
        (values_kin good of owner t h k alike there (length method.params) vs ws s _ _ (λ xs ys a ts us u. on_receiver_kin good of owner t h k alike there ts us u _ _ (λ v w q rs ss r.
        method_kin (method_at p (special p own method m)) (special p own method m) (v ∷ reverse xs) (w ∷ reverse ys) rs ss (q.0, kin_reverse of xs ys a.0) (q.1, held_reverse good xs a.1) r.0))))

    invokestatic_row : (m : MethodId) → EKin (does p own (instr.Invokestatic m) next ls vs h) (does p own (instr.Invokestatic m) next ms ws k)
    unfolding does
    invokestatic_row m = some_kin good of owner t h k alike there (method_at p m) _ _ (λ (method : Method). cond_kin good of owner t h k alike there (is_handed_out p method)
        (effect.on_values (length method.params) vs (λ xs rs. effect.Asks m (reverse xs) next ls rs h)) (effect.on_values (length method.params) ws (λ xs rs. effect.Asks m (reverse xs) next ms rs k)) _ _
        (values_kin good of owner t h k alike there (length method.params) vs ws s _ _ (λ xs ys a rs ss r. (refl, kin_reverse of xs ys a.0, refl, l, r.0, refl, refl, held_reverse good xs a.1)))
        (cond_kin good of owner t h k alike there method.built_in
        (effect.on_int vs (λ i b. effect.on_object b h (λ n o rs. effect.at_index o.elements i (λ j v. effect.Goes next ls (v ∷ rs) (insert h n (record o { elements = slice_set o.elements j Null }))))))
        (effect.on_int ws (λ i b. effect.on_object b k (λ n o rs. effect.at_index o.elements i (λ j v. effect.Goes next ms (v ∷ rs) (insert k n (record o { elements = slice_set o.elements j Null }))))))
        (effect.on_values (length method.params) vs (λ xs rs. effect.Calls m (reverse xs) next ls rs h)) (effect.on_values (length method.params) ws (λ xs rs. effect.Calls m (reverse xs) next ms rs k))
        (on_int_kin good of owner t h k alike there vs ws s _ _ (λ i ts us u. object_kin good of owner t h k alike there ts us u _ _ (λ n x o q held rs ss r. index_kin good of owner t h k alike there o.elements q.elements held.3.elements i _ _ (λ j v w e.
        (refl, l, (e, r.0), written good of owner t h k alike there n x o q held _ _ (record { class = held.3.class; fields = held.3.fields; elements = kin_set of o.elements q.elements j Null Null held.3.elements tt }))))))
        (values_kin good of owner t h k alike there (length method.params) vs ws s _ _ (λ xs ys a rs ss r. (refl, kin_reverse of xs ys a.0, refl, l, r.0, refl, refl)))))

    arraylength_row : EKin (does p own instr.Arraylength next ls vs h) (does p own instr.Arraylength next ms ws k)
    unfolding does
    arraylength_row = object_kin good of owner t h k alike there vs ws s _ _ (λ n x o q held rs ss r. (refl, l, (ap (λ (i : ℕ). cast_signed w32 (i % 2 ^ 32)) (kin_length of o.elements q.elements held.3.elements), r.0), alike))

    checkcast_row : (ty : Ty) → EKin (does p own (instr.Checkcast ty) next ls vs h) (does p own (instr.Checkcast ty) next ms ws k)
    unfolding does
    checkcast_row ty = value_kin good of owner t h k alike there vs ws s _ _ (λ v w e rs ss r. class_kin good of owner t h k alike there p v w e _ _ (λ c. cond_kin good of owner t h k alike there (cast_fits p c ty) (effect.Goes next ls (v ∷ rs) h) (effect.Goes next ms (w ∷ ss) k) (effect.Raises cause.Cast) (effect.Raises cause.Cast) (refl, l, (e.0, r.0), alike) refl))

    instanceof_row : (ty : Ty) → EKin (does p own (instr.Instanceof ty) next ls vs h) (does p own (instr.Instanceof ty) next ms ws k)
    unfolding does
    instanceof_row ty = value_kin good of owner t h k alike there vs ws s _ _ (λ v w e rs ss r. class_kin good of owner t h k alike there p v w e _ _ (λ c. (refl, l, (refl, r.0), alike)))

    iaload_row : EKin (does p own instr.Iaload next ls vs h) (does p own instr.Iaload next ms ws k)
    unfolding does
    iaload_row = on_int_kin good of owner t h k alike there vs ws s _ _ (λ i ts us u. object_kin good of owner t h k alike there ts us u _ _ (λ n x o q held rs ss r. index_kin good of owner t h k alike there o.elements q.elements held.3.elements i _ _ (λ j v w e. int_kin good of owner t h k alike there v w e _ _ (λ y. (refl, l, (refl, r.0), alike)))))

    aaload_row : EKin (does p own instr.Aaload next ls vs h) (does p own instr.Aaload next ms ws k)
    unfolding does
    aaload_row = on_int_kin good of owner t h k alike there vs ws s _ _ (λ i ts us u. object_kin good of owner t h k alike there ts us u _ _ (λ n x o q held rs ss r. index_kin good of owner t h k alike there o.elements q.elements held.3.elements i _ _ (λ j v w e. (refl, l, (e, r.0), alike))))

    iastore_row : EKin (does p own instr.Iastore next ls vs h) (does p own instr.Iastore next ms ws k)
    unfolding does
    iastore_row = on_int_kin good of owner t h k alike there vs ws s _ _ (λ y as1 bs1 z. on_int_kin good of owner t h k alike there as1 bs1 z _ _ (λ i ts us u. object_kin good of owner t h k alike there ts us u _ _ (λ n x o q held rs ss r. index_kin good of owner t h k alike there o.elements q.elements held.3.elements i _ _ (λ j v w e.
        (refl, l, r.0, written good of owner t h k alike there n x o q held _ _ (record { class = held.3.class; fields = held.3.fields; elements = kin_set of o.elements q.elements j _ _ held.3.elements refl }))))))

    aastore_row : EKin (does p own instr.Aastore next ls vs h) (does p own instr.Aastore next ms ws k)
    unfolding does
    aastore_row = value_kin good of owner t h k alike there vs ws s _ _ (λ a b c as1 bs1 z. on_int_kin good of owner t h k alike there as1 bs1 z _ _ (λ i ts us u. object_kin good of owner t h k alike there ts us u _ _ (λ n x o q held rs ss r. index_kin good of owner t h k alike there o.elements q.elements held.3.elements i _ _ (λ j v w e.
        class_kin good of owner t h k alike there p a b c _ _ (λ d. subst (λ (ty : Ty). EKin (cond (cast_fits p d (element_type o.class)) (effect.Goes next ls rs (insert h n (record o { elements = slice_set o.elements j a }))) (effect.Raises cause.Store)) (cond (cast_fits p d (element_type ty)) (effect.Goes next ms ss (insert k x (record q { elements = slice_set q.elements j b }))) (effect.Raises cause.Store))) held.3.class
        (cond_kin good of owner t h k alike there (cast_fits p d (element_type o.class)) _ _ _ _
        (refl, l, r.0, written good of owner t h k alike there n x o q held _ _ (record { class = held.3.class; fields = held.3.fields; elements = kin_set of o.elements q.elements j _ _ held.3.elements c.0 })) refl))))))

    getstatic_row : (f : FieldId) → EKin (does p own (instr.Getstatic f) next ls vs h) (does p own (instr.Getstatic f) next ms ws k)
    unfolding does
    getstatic_row f = some_kin good of owner t h k alike there (field_of p f) _ _ (λ (field : Field). some_kin good of owner t h k alike there field.constant _ _ (λ v. constant_kin good of owner t h k alike there v _ _ (λ c e. (refl, l, (e, s.0), alike))))

    laload_row : EKin (does p own instr.Laload next ls vs h) (does p own instr.Laload next ms ws k)
    unfolding does
    laload_row = on_int_kin good of owner t h k alike there vs ws s _ _ (λ i ts us u. object_kin good of owner t h k alike there ts us u _ _ (λ n x o q held rs ss r. index_kin good of owner t h k alike there o.elements q.elements held.3.elements i _ _ (λ j v w e. long_kin good of owner t h k alike there v w e _ _ (λ y. (refl, l, (refl, r.0), alike)))))

    lastore_row : EKin (does p own instr.Lastore next ls vs h) (does p own instr.Lastore next ms ws k)
    unfolding does
    lastore_row = on_long_kin good of owner t h k alike there vs ws s _ _ (λ y as1 bs1 z. on_int_kin good of owner t h k alike there as1 bs1 z _ _ (λ i ts us u. object_kin good of owner t h k alike there ts us u _ _ (λ n x o q held rs ss r. index_kin good of owner t h k alike there o.elements q.elements held.3.elements i _ _ (λ j v w e.
        (refl, l, r.0, written good of owner t h k alike there n x o q held _ _ (record { class = held.3.class; fields = held.3.fields; elements = kin_set of o.elements q.elements j _ _ held.3.elements refl }))))))

    athrow_row : EKin (does p own instr.Athrow next ls vs h) (does p own instr.Athrow next ms ws k)
    unfolding does
    athrow_row = object_kin good of owner t h k alike there vs ws s _ _ (λ n x o q held rs ss r.
        subst (λ (ty : Ty). EKin (throws_object p n o.class.dims o.class.base) (throws_object p x ty.dims ty.base)) held.3.class (throws_kin n x held.0 o.class.dims o.class.base))

    row : (i : Instr) → EKin (does p own i next ls vs h) (does p own i next ms ws k)
    unfolding does
    row instr.Nop = (refl, l, s.0, alike)
    row instr.AconstNull = (refl, l, (tt, s.0), alike)
    row (instr.Iconst n) = (refl, l, (refl, s.0), alike)
    row (instr.Lconst n) = (refl, l, (refl, s.0), alike)
    row (instr.Bipush n) = (refl, l, (refl, s.0), alike)
    row (instr.Sipush n) = (refl, l, (refl, s.0), alike)
    row (instr.Iload n) = slot_kin good of owner t h k alike there _ _ (kin_get of ls ms n l) _ _ (λ v w e. int_kin good of owner t h k alike there v w e _ _ (λ x. (refl, l, (refl, s.0), alike)))
    row (instr.Lload n) = slot_kin good of owner t h k alike there _ _ (kin_get of ls ms n l) _ _ (λ v w e. long_kin good of owner t h k alike there v w e _ _ (λ x. (refl, l, (refl, s.0), alike)))
    row (instr.Aload n) = slot_kin good of owner t h k alike there _ _ (kin_get of ls ms n l) _ _ (λ v w e. reference_kin good of owner t h k alike there v w e _ _ (λ d. (refl, l, (d, s.0), alike)))
    row (instr.Istore n) = on_int_kin good of owner t h k alike there vs ws s _ _ (λ x rs ss r. slot_kin good of owner t h k alike there _ _ (kin_get of ls ms n l) _ _ (λ v w e. (refl, kin_set of ls ms n (Int x) (Int x) l refl, r.0, alike)))
    row (instr.Lstore n) = on_long_kin good of owner t h k alike there vs ws s _ _ (λ x rs ss r. slot_kin good of owner t h k alike there _ _ (kin_get of ls ms n l) _ _ (λ v w e. (refl, kin_set of ls ms n (Long x) (Long x) l refl, r.0, alike)))
    row (instr.Astore n) = on_reference_kin good of owner t h k alike there vs ws s _ _ (λ a b q rs ss r. slot_kin good of owner t h k alike there _ _ (kin_get of ls ms n l) _ _ (λ v w e. (refl, kin_set of ls ms n a b l q.0, r.0, alike)))
    row (instr.Iinc n d) = slot_kin good of owner t h k alike there _ _ (kin_get of ls ms n l) _ _ (λ v w e. int_kin good of owner t h k alike there v w e _ _ (λ x. (refl, kin_set of ls ms n _ _ l refl, s.0, alike)))
    row instr.Pop = word_kin good of owner t h k alike there vs ws s _ _ (λ v w q rs ss r. (refl, l, r.0, alike))
    row instr.Pop2 = pop2_row
    row instr.Dup = word_kin good of owner t h k alike there vs ws s _ _ (λ v w q rs ss r. (refl, l, (q.0, (q.0, r.0)), alike))
    row instr.DupX1 = dup_x1_row
    row instr.DupX2 = dup_x2_row
    row instr.Dup2 = dup2_row
    row instr.Dup2X1 = dup2_x1_row
    row instr.Dup2X2 = dup2_x2_row
    row instr.Swap = swap_row
    row instr.Iadd = ints _
    row instr.Isub = ints _
    row instr.Imul = ints _
    row instr.Idiv = ints_divide _
    row instr.Irem = ints_divide _
    row instr.Iand = ints _
    row instr.Ishl = ints _
    row instr.Ineg = int_one _
    row instr.I2b = int_one _
    row instr.I2l = on_int_kin good of owner t h k alike there vs ws s _ _ (λ x rs ss r. (refl, l, (refl, r.0), alike))
    row instr.L2i = on_long_kin good of owner t h k alike there vs ws s _ _ (λ x rs ss r. (refl, l, (refl, r.0), alike))
    row instr.Ladd = longs _
    row instr.Ldiv = longs_divide _
    row instr.Lcmp = lcmp_row
    row (instr.Ifeq to) = int_jumps _ to
    row (instr.Iflt to) = int_jumps _ to
    row (instr.IfIcmpeq to) = compare_jumps _ to
    row (instr.IfIcmplt to) = compare_jumps _ to
    row (instr.IfAcmpeq to) = reference_jumps (λ b. b) to
    row (instr.IfAcmpne to) = reference_jumps not to
    row (instr.Ifnull to) = null_jumps (λ b. b) to
    row (instr.Ifnonnull to) = null_jumps not to
    row (instr.Goto to) = (refl, l, s.0, alike)
    row (instr.Tableswitch default low targets) = on_int_kin good of owner t h k alike there vs ws s _ _ (λ x rs ss r. (refl, l, r.0, alike))
    row instr.Ireturn = on_int_kin good of owner t h k alike there vs ws s _ _ (λ x rs ss r. (result_kin own.result x, refl, refl))
    row instr.Lreturn = on_long_kin good of owner t h k alike there vs ws s _ _ (λ x rs ss r. (refl, refl, refl))
    row instr.Areturn = on_reference_kin good of owner t h k alike there vs ws s _ _ (λ v w q rs ss r. (q.0, refl, refl))
    row instr.Return = (tt, refl, refl)
    row (instr.Getfield f) = getfield_row f
    row (instr.Putfield f) = putfield_row f
    row (instr.Invokevirtual m) = invokevirtual_row m
    row (instr.Invokespecial m) = invokespecial_row m
    row (instr.Invokestatic m) = invokestatic_row m
    row (instr.New c) = cond_kin good of owner t h k alike there _ (effect.Opens next ls vs h) (effect.Opens next ms ws k) (effect.Makes (new_object p c) next ls vs h) (effect.Makes (new_object p c) next ms ws k) (refl, l, s.0, refl, refl) (new_kin p of c, refl, l, s.0, refl, refl)
    row (instr.Newarray b) = arrays _ _ (zero_kin p of b)
    row (instr.Anewarray ty) = arrays _ _ tt
    row instr.Arraylength = arraylength_row
    row (instr.Checkcast ty) = checkcast_row ty
    row (instr.Instanceof ty) = instanceof_row ty
    row instr.Iaload = iaload_row
    row instr.Aaload = aaload_row
    row instr.Iastore = iastore_row
    row instr.Aastore = aastore_row
    row (instr.Ldc v) = constant_kin good of owner t h k alike there v _ _ (λ c e. (refl, l, (e, s.0), alike))
    row (instr.LdcW v) = constant_kin good of owner t h k alike there v _ _ (λ c e. (refl, l, (e, s.0), alike))
    row (instr.Ldc2W v) = constant_kin good of owner t h k alike there v _ _ (λ c e. (refl, l, (e, s.0), alike))
    row (instr.Getstatic f) = getstatic_row f
    row instr.Lsub = longs _
    row instr.Lmul = longs _
    row instr.Lrem = longs_divide _
    row instr.Land = longs _
    row instr.Lor = longs _
    row instr.Lxor = longs _
    row instr.Ior = ints _
    row instr.Ixor = ints _
    row instr.Ishr = ints _
    row instr.Iushr = ints _
    row instr.Lshl = long_shifts _
    row instr.Lshr = long_shifts _
    row instr.Lushr = long_shifts _
    row instr.Lneg = on_long_kin good of owner t h k alike there vs ws s _ _ (λ x rs ss r. (refl, l, (refl, r.0), alike))
    row instr.I2c = int_one _
    row instr.I2s = int_one _
    row (instr.Ifne to) = int_jumps _ to
    row (instr.Ifge to) = int_jumps _ to
    row (instr.Ifgt to) = int_jumps _ to
    row (instr.Ifle to) = int_jumps _ to
    row (instr.IfIcmpne to) = compare_jumps _ to
    row (instr.IfIcmpge to) = compare_jumps _ to
    row (instr.IfIcmpgt to) = compare_jumps _ to
    row (instr.IfIcmple to) = compare_jumps _ to
    row (instr.GotoW to) = (refl, l, s.0, alike)
    row (instr.Lookupswitch default entries) = on_int_kin good of owner t h k alike there vs ws s _ _ (λ x rs ss r. (refl, l, r.0, alike))
    row instr.Laload = laload_row
    row instr.Baload = int_loads
    row instr.Caload = int_loads
    row instr.Saload = int_loads
    row instr.Lastore = lastore_row
    row instr.Bastore = int_stores
    row instr.Castore = int_stores
    row instr.Sastore = int_stores
    row instr.Athrow = athrow_row

-- what stands on the stack stands on the stack
all_stand : (h : Objects) (vs ws : List Value) → ((n : ℕ) → IsAmong ws n → IsAmong vs n) → AreHeld (IsThere h) ws → AreHeld (StandsIn h vs) ws
all_stand h vs [] up e = tt
all_stand h vs (Ref n ∷ ws) up e = ((up n (inl refl), e.0), all_stand h vs ws (λ m w. up m (inr w)) e.1)
all_stand h vs (Int a ∷ ws) up e = (tt, all_stand h vs ws (λ m w. up m (inr w)) e.1)
all_stand h vs (Long a ∷ ws) up e = (tt, all_stand h vs ws (λ m w. up m (inr w)) e.1)
all_stand h vs (Null ∷ ws) up e = (tt, all_stand h vs ws (λ m w. up m (inr w)) e.1)
all_stand h vs (Text a ∷ ws) up e = (tt, all_stand h vs ws (λ m w. up m (inr w)) e.1)
all_stand h vs (Box a ∷ ws) up e = (tt, all_stand h vs ws (λ m w. up m (inr w)) e.1)
all_stand h vs (Fiber ∷ ws) up e = (tt, all_stand h vs ws (λ m w. up m (inr w)) e.1)

pub rows_kin : (p : Program) → RowsKin p
rows_kin p of owner t h k alike own i next ls ms vs ws l s held = row p own (StandsIn h vs) of owner t h k alike (λ n g. g.1) next ls ms vs ws l (s, all_stand h vs vs (λ n w. w) held) i
