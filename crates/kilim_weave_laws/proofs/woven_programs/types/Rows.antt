-- A test of types that holds of the elements of arrays, where it holds of the arrays: instructions keep it.
use Rattle.std.proofs.Common.{◌≡◌, ℕ, zero, suc, ◌-◌, Bool, true, false, List, [], ◌∷◌, ◌++◌, length, drop, Option, Some, None, Ok, refl, sym, ap, subst, ◌∙◌}
use Rattle.std.specs.List.{list_all}
use Rattle.std.proofs.lemmas.Bool.{and_parts, and_from}
use Rattle.kilim_program.specs.declared.class.Field.{Field}
use Rattle.kilim_program.specs.declared.class.Method.{Method}
use Rattle.kilim_program.specs.declared.instr.Instr.{Instr}
use Rattle.kilim_program.specs.declared.instr.Instr.TheVariants.{Ldc, LdcW, Ldc2W, Iload, Lload, Aload, Aaload, Istore, Lstore, Astore, Iinc, Pop, Pop2, Dup, DupX1, DupX2, Dup2, Dup2X1, Dup2X2, Swap, Ireturn, Lreturn, Areturn, Return, Getstatic, Getfield, Putfield, Invokestatic, Invokevirtual, Invokespecial, New, Newarray, Anewarray, Checkcast}
use Rattle.kilim_program.specs.declared.names.ClassId.{ClassId}
use Rattle.kilim_program.specs.declared.names.FieldId.{FieldId}
use Rattle.kilim_program.specs.declared.names.MethodId.{MethodId}
use Rattle.kilim_program.specs.declared.ty.Base.{Base}
use Rattle.kilim_program.specs.declared.ty.Base.TheVariants as base
use Rattle.kilim_program.specs.declared.ty.Ty.{Ty}
use Rattle.kilim_program.specs.declared.value.Value.{Value}
use Rattle.kilim_program.specs.declared.value.Value.TheVariants as value
use Rattle.kilim_program.specs.declared.verified.VType.{VType}
use Rattle.kilim_program.specs.declared.verified.VType.TheVariants.{Top, Int, Long, Null, UninitThis, Uninit, Object}
use Rattle.kilim_program.specs.Keeps.{types_of_instr}
use Rattle.kilim_program.specs.Names.{field_of, method_at}
use Rattle.kilim_program.specs.Program.{Program}
use Rattle.kilim_program.specs.Same.{is_constructor}
use Rattle.kilim_type_spec.specs.Step.{Types, Operand, Further, Form, Row, Takes, Element, Shuffles, Loads, Stores, Adds, Makes, Constructs, Leaves, peek, base_vtype, dims_vtype, vtype, class_vtype, text_type, result_types, replaced, stored, element, store, shuffled, constructed, by_row, row, constant_row, long_constant_row, field_row, static_row, virtual_row, special_by, special_row}
use Rattle.kilim_weave_laws.proofs.woven_types.Crux.{ok_same, element_is, stack_is}
use Rattle.kilim_weave_laws.proofs.woven_types.Moved.{passed}
use Rattle.kilim_weave_laws.proofs.woven_types.Sane.{all_append, all_drop, all_replaced, all_shuffled, passed_further, pred_replaced, pred_stored}

-- these lemmas are of any test
fresh : ℕ → Bool
fresh q = true

module _ (t : Ty → Bool) (element_of : (ty : Ty) → t ty ≡ true → t (record ty { dims = ty.dims - 1 }) ≡ true) where
  abbrev pub holds : VType → Bool
  holds (Object ty) = t ty
  holds v = true

  pub record Held (f : Types) : Type 0 where
    pub locals : (k : ℕ) → holds (peek f.locals k) ≡ true
    pub stack : list_all holds f.stack ≡ true

  base_holds : (ty : Ty) (b : Base) → t ty ≡ true → holds (base_vtype ty b) ≡ true
  base_holds ty (base.Class c) h = h
  base_holds ty base.Bool h = refl
  base_holds ty base.Byte h = refl
  base_holds ty base.Char h = refl
  base_holds ty base.Short h = refl
  base_holds ty base.Int h = refl
  base_holds ty base.Long h = refl

  dims_holds : (ty : Ty) (n : ℕ) → t ty ≡ true → holds (dims_vtype ty n) ≡ true
  dims_holds ty zero h = base_holds ty ty.base h
  dims_holds ty (suc n) h = h

  pub vtype_holds : (ty : Ty) → t ty ≡ true → holds (vtype ty) ≡ true
  vtype_holds ty h = dims_holds ty ty.dims h

  element_holds : (s : List VType) (v : VType) → list_all holds s ≡ true → element s ≡ Ok v → holds v ≡ true
  element_holds [] v h e = absurd (cc)
  element_holds (i ∷ []) v h e = absurd (cc)
  element_holds (i ∷ Null ∷ s) v h e = ap holds (sym (ok_same Null v e))
  element_holds (i ∷ Object ty ∷ s) v h e =
      let p = and_parts (holds i) (list_all holds (Object ty ∷ s)) h in
      let q = and_parts (t ty) (list_all holds s) p.1 in
      ap holds (sym (ok_same (vtype (record ty { dims = ty.dims - 1 })) v e)) ∙ vtype_holds (record ty { dims = ty.dims - 1 }) (element_of ty q.0)
  element_holds (i ∷ Top ∷ s) v h e = absurd (cc)
  element_holds (i ∷ Int ∷ s) v h e = absurd (cc)
  element_holds (i ∷ Long ∷ s) v h e = absurd (cc)
  element_holds (i ∷ UninitThis ∷ s) v h e = absurd (cc)
  element_holds (i ∷ Uninit q ∷ s) v h e = absurd (cc)

  abbrev pub HeldRow : Row → Type 0
  HeldRow (Takes takes gives also) = list_all holds gives ≡ true
  HeldRow (Constructs takes gives class before after) = (list_all holds gives ≡ true) × (holds (class_vtype class) ≡ true)
  HeldRow r = Unit {0}

  module _ (P : Program) (m : Method) (own : holds (class_vtype m.owner) ≡ true) where
    with_new_stack : (f g : Types) (s : List VType) → Held f → record f { stack = s } ≡ g → list_all holds s ≡ true → Held g
    with_new_stack f g s hf e h = subst (λ (z : Types). Held z) e (record { locals = hf.locals; stack = h })

    held_takes : (q : ℕ) (takes : List Operand) (gives : List VType) (also : List Further) (f g : Types) → Held f → list_all holds gives ≡ true → by_row P m q (Takes takes gives also) f ≡ Ok g → Held g
    held_takes q takes gives also f g hf h e =
        let out = gives ++ drop (length takes) f.stack in
        let p3 = passed 3 _ _ g e in
        let p4 = passed 4 _ _ g p3.1 in
        let p5 = passed 5 _ _ g p4.1 in
        let p6 = passed_further fresh P also f.stack (Ok (record f { stack = out })) g p5.1 in
        with_new_stack f g out hf (ok_same (record f { stack = out }) g p6) (all_append fresh holds gives (drop (length takes) f.stack) h (all_drop fresh holds (length takes) f.stack hf.stack))

    held_element : (q : ℕ) (f g : Types) → Held f → by_row P m q Element f ≡ Ok g → Held g
    held_element q f g hf e =
        let p3 = passed 3 _ _ g e in
        let p4 = passed 4 _ _ g p3.1 in
        let p5 = passed 5 _ _ g p4.1 in
        let is = element_is f g (element f.stack) p5.1 in
        with_new_stack f g (is.0 ∷ drop 2 f.stack) hf is.2 (and_from (holds is.0) (list_all holds (drop 2 f.stack)) (element_holds f.stack is.0 hf.stack is.1) (all_drop fresh holds 2 f.stack hf.stack))

    held_shuffles : (q : ℕ) (form : Form) (f g : Types) → Held f → by_row P m q (Shuffles form) f ≡ Ok g → Held g
    held_shuffles q form f g hf e =
        let p3 = passed 3 _ _ g e in
        let p4 = passed 4 _ _ g p3.1 in
        let is = stack_is f g (shuffled form f.stack) p4.1 in
        with_new_stack f g is.0 hf is.2 (all_shuffled fresh holds form f.stack is.0 is.1 hf.stack)

    held_loads : (q : ℕ) (o : Operand) (slot : ℕ) (f g : Types) → Held f → by_row P m q (Loads o slot) f ≡ Ok g → Held g
    held_loads q o slot f g hf e =
        let v = peek f.locals slot in
        let p4 = passed 4 _ _ g e in
        let p6 = passed 6 _ _ g p4.1 in
        with_new_stack f g (v ∷ f.stack) hf (ok_same (record f { stack = v ∷ f.stack }) g p6.1) (and_from (holds v) (list_all holds f.stack) (hf.locals slot) hf.stack)

    held_stores : (q : ℕ) (o : Operand) (slot : ℕ) (s : List VType) (f g : Types) → Held f → f.stack ≡ s → store P m o slot s f ≡ Ok g → Held g
    held_stores q o slot [] f g hf is e = absurd (cc)
    held_stores q o slot (v ∷ s) f g hf is e =
        let p5 = passed 5 _ _ g e in
        let p6 = passed 6 _ _ g p5.1 in
        let parts = and_parts (holds v) (list_all holds s) (ap (list_all holds) (sym is) ∙ hf.stack) in
        subst (λ (z : Types). Held z) (ok_same (record f { locals = stored f.locals slot v; stack = s }) g p6.1) (record { locals = pred_stored fresh holds f.locals slot v hf.locals parts.0 refl; stack = parts.1 })

    held_adds : (q slot : ℕ) (f g : Types) → Held f → by_row P m q (Adds slot) f ≡ Ok g → Held g
    held_adds q slot f g hf e = let p6 = passed 6 _ _ g e in subst (λ (z : Types). Held z) (ok_same f g p6.1) hf

    held_makes : (q : ℕ) (may : Bool) (f g : Types) → Held f → by_row P m q (Makes may) f ≡ Ok g → Held g
    held_makes q may f g hf e =
        let p4 = passed 4 _ _ g e in
        let p10 = passed 10 _ _ g p4.1 in
        let p13 = passed 13 _ _ g p10.1 in
        subst (λ (z : Types). Held z) (ok_same (record f { locals = replaced (Uninit q) Top f.locals; stack = Uninit q ∷ f.stack }) g p13.1)
        (record { locals = pred_replaced fresh holds (Uninit q) Top f.locals hf.locals refl; stack = hf.stack })

    made_held : (old new : VType) (gives s : List VType) (u : Bool) (f g : Types) → Held f → holds new ≡ true → list_all holds gives ≡ true → list_all holds s ≡ true → record { locals = replaced old new f.locals; stack = gives ++ replaced old new s; unset = u } ≡ g → Held g
    made_held old new gives s u f g hf new_holds hg hs e =
        subst (λ (z : Types). Held z) e (record { locals = pred_replaced fresh holds old new f.locals hf.locals new_holds; stack = all_append fresh holds gives (replaced old new s) hg (all_replaced fresh holds old new s hs new_holds) })

    held_constructed : (class : ClassId) (gives : List VType) (after : List Further) (d : List VType) (f g : Types) → Held f → list_all holds gives ≡ true → holds (class_vtype class) ≡ true → list_all holds d ≡ true → constructed P m class gives after d f ≡ Ok g → Held g
    held_constructed class gives after (UninitThis ∷ s) f g hf hg hc hd e =
        let new = class_vtype m.owner in
        let out : Types = record { locals = replaced UninitThis new f.locals; stack = gives ++ replaced UninitThis new s; unset = false } in
        let p10 = passed 10 _ _ g e in
        let p = passed_further fresh P after f.stack (Ok out) g p10.1 in
        made_held UninitThis new gives s false f g hf own hg hd (ok_same out g p)
    held_constructed class gives after (Uninit q ∷ s) f g hf hg hc hd e =
        let new = class_vtype class in
        let out : Types = record f { locals = replaced (Uninit q) new f.locals; stack = gives ++ replaced (Uninit q) new s } in
        let p10 = passed 10 _ _ g e in
        let p = passed_further fresh P after f.stack (Ok out) g p10.1 in
        made_held (Uninit q) new gives s f.unset f g hf hc hg hd (ok_same out g p)
    held_constructed class gives after d f g hf hg hc hd e = absurd (cc)

    held_constructs : (q : ℕ) (takes : List Operand) (gives : List VType) (class : ClassId) (before after : List Further) (f g : Types) → Held f → list_all holds gives ≡ true → holds (class_vtype class) ≡ true → by_row P m q (Constructs takes gives class before after) f ≡ Ok g → Held g
    held_constructs q takes gives class before after f g hf hg hc e =
        let p3 = passed 3 _ _ g e in
        let p4 = passed 4 _ _ g p3.1 in
        let p5 = passed 5 _ _ g p4.1 in
        let d = drop (length takes) f.stack in
        let p6 = passed_further fresh P before f.stack (constructed P m class gives after d f) g p5.1 in
        held_constructed class gives after d f g hf hg hc (all_drop fresh holds (length takes) f.stack hf.stack) p6

    held_leaves : (q : ℕ) (takes : List Operand) (also : List Further) (f g : Types) → Held f → by_row P m q (Leaves takes also) f ≡ Ok g → Held g
    held_leaves q takes also f g hf e =
        let p3 = passed 3 _ _ g e in
        let p5 = passed 5 _ _ g p3.1 in
        let p6 = passed_further fresh P also f.stack _ g p5.1 in
        let p11 = passed 11 _ _ g p6 in
        subst (λ (z : Types). Held z) (ok_same (record f { stack = [] }) g p11.1) (record { locals = hf.locals; stack = refl })

    pub held_row : (q : ℕ) (r : Row) (f g : Types) → Held f → HeldRow r → by_row P m q r f ≡ Ok g → Held g
    held_row q (Takes takes gives also) f g hf h e = held_takes q takes gives also f g hf h e
    held_row q Element f g hf h e = held_element q f g hf e
    held_row q (Shuffles form) f g hf h e = held_shuffles q form f g hf e
    held_row q (Loads o slot) f g hf h e = held_loads q o slot f g hf e
    held_row q (Stores o slot) f g hf h e = held_stores q o slot f.stack f g hf refl e
    held_row q (Adds slot) f g hf h e = held_adds q slot f g hf e
    held_row q (Makes may) f g hf h e = held_makes q may f g hf e
    held_row q (Constructs takes gives class before after) f g hf h e = held_constructs q takes gives class before after f g hf h.0 h.1 e
    held_row q (Leaves takes also) f g hf h e = held_leaves q takes also f g hf e

    -- ---- instructions

    module _ (text : holds (text_type P) ≡ true) (fields : (f : FieldId) (field : Field) → field_of P f ≡ Some field → t field.ty ≡ true)
        (results : (id : MethodId) (callee : Method) → method_at P id ≡ Some callee → (list_all holds (result_types callee.result) ≡ true) × (holds (class_vtype callee.owner) ≡ true)) where
      constant_held : (v : Value) → HeldRow (constant_row P v)
      constant_held (value.Text units) = and_from (holds (text_type P)) true text refl
      constant_held (value.Int n) = refl
      constant_held (value.Long n) = refl
      constant_held value.Null = refl
      constant_held (value.Ref n) = refl
      constant_held (value.Box n) = refl
      constant_held value.Fiber = refl

      long_held : (v : Value) → HeldRow (long_constant_row v)
      long_held (value.Text units) = refl
      long_held (value.Int n) = refl
      long_held (value.Long n) = refl
      long_held value.Null = refl
      long_held (value.Ref n) = refl
      long_held (value.Box n) = refl
      long_held value.Fiber = refl

      getstatic_held : (f : FieldId) (o : Option Field) → field_of P f ≡ o → HeldRow (field_row (Getstatic f) m o)
      getstatic_held f None is = refl
      getstatic_held f (Some field) is = and_from (holds (vtype field.ty)) true (vtype_holds field.ty (fields f field is)) refl

      getfield_held : (f : FieldId) (o : Option Field) → field_of P f ≡ o → HeldRow (field_row (Getfield f) m o)
      getfield_held f None is = refl
      getfield_held f (Some field) is = and_from (holds (vtype field.ty)) true (vtype_holds field.ty (fields f field is)) refl

      putfield_held : (f : FieldId) (o : Option Field) → HeldRow (field_row (Putfield f) m o)
      putfield_held f None = refl
      putfield_held f (Some field) = refl

      static_held : (id : MethodId) (o : Option Method) → method_at P id ≡ o → HeldRow (static_row m o)
      static_held id None is = refl
      static_held id (Some callee) is = (results id callee is).0

      virtual_held : (id : MethodId) (o : Option Method) → method_at P id ≡ o → HeldRow (virtual_row m o)
      virtual_held id None is = refl
      virtual_held id (Some callee) is = (results id callee is).0

      special_by_held : (b : Bool) (id : MethodId) (callee : Method) → method_at P id ≡ Some callee → HeldRow (special_by b P m id callee)
      special_by_held true id callee is = results id callee is
      special_by_held false id callee is = (results id callee is).0

      special_held : (id : MethodId) (o : Option Method) → method_at P id ≡ o → HeldRow (special_row P m id o)
      special_held id None is = refl
      special_held id (Some callee) is = special_by_held (is_constructor callee) id callee is

      pub instr_held : (i : Instr) → list_all t (types_of_instr i) ≡ true → HeldRow (row P m i)
      unfolding row
      instr_held (Ldc v) h = constant_held v
      instr_held (LdcW v) h = constant_held v
      instr_held (Ldc2W v) h = long_held v
      instr_held (Getstatic f) h = getstatic_held f (field_of P f) refl
      instr_held (Getfield f) h = getfield_held f (field_of P f) refl
      instr_held (Putfield f) h = putfield_held f (field_of P f)
      instr_held (Invokestatic id) h = static_held id (method_at P id) refl
      instr_held (Invokevirtual id) h = virtual_held id (method_at P id) refl
      instr_held (Invokespecial id) h = special_held id (method_at P id) refl
      instr_held (Checkcast ty) h = h
      instr_held (Newarray element) h = h
      instr_held (Anewarray element) h = h
      instr_held Aaload h = tt
      instr_held (Iload n) h = tt
      instr_held (Lload n) h = tt
      instr_held (Aload n) h = tt
      instr_held (Istore n) h = tt
      instr_held (Lstore n) h = tt
      instr_held (Astore n) h = tt
      instr_held (Iinc n by) h = tt
      instr_held Pop h = tt
      instr_held Pop2 h = tt
      instr_held Dup h = tt
      instr_held DupX1 h = tt
      instr_held DupX2 h = tt
      instr_held Dup2 h = tt
      instr_held Dup2X1 h = tt
      instr_held Dup2X2 h = tt
      instr_held Swap h = tt
      instr_held Ireturn h = tt
      instr_held Lreturn h = tt
      instr_held Areturn h = tt
      instr_held Return h = tt
      instr_held (New c) h = tt
      instr_held i h = refl
