-- The rows of calls.
use Rattle.std.proofs.Common.{◌≡◌, ℕ, Bool, true, false, cond, eqb, List, [], ◌∷◌, ◌++◌, map, length, reverse, Option, Some, None, Ok, refl, sym, ap, subst, ◌∙◌}
use Rattle.std.specs.Prelude.{◌&&◌, ◌||◌, not, codes}
use Rattle.std.specs.Str.{bytes_eq}
use Rattle.kilim_lemmas.proofs.Texts.{text_is}
use Rattle.std.specs.FinMap.{insert}
use Rattle.std.specs.Prelude.{slice_set}
use Rattle.std.proofs.lemmas.Bool.{and_parts}
use Rattle.kilim_program.specs.declared.class.Method.{Method}
use Rattle.kilim_program.specs.declared.instr.Instr.{Instr}
use Rattle.kilim_program.specs.declared.names.MethodId.{MethodId}
use Rattle.kilim_program.specs.declared.value.Value.{Value}
use Rattle.kilim_program.specs.declared.value.Value.TheVariants as value
use Rattle.kilim_program.specs.Program.{Program}
use Rattle.kilim_run_state.specs.Machine.{Objects}
use Rattle.kilim_program.specs.Names.{class_at, method_at, is_empty}
use Rattle.kilim_program.specs.Same.{is_constructor}
use Rattle.kilim_run_machine.specs.Effect.{Effect, Goes, Calls, Asks, with_some, on_values, on_value, on_int, on_object, at_index, on_receiver, as_class}
use Rattle.kilim_run_machine.specs.Does.{above_of, superclass_of, calls_built_in, calls_text, calls_on, calls_method, gives_message, keeps_message, special}
use Rattle.kilim_run_machine.specs.Natives.{is_text_method, is_built_in_constructor, is_get_message, is_handed_out, is_message_constructor}
use Rattle.kilim_type_spec.specs.Step.{Types, Operand, Is, needs, Takes, by_row, arguments, result_types, vtype, class_vtype, may_name, static_row, static_rules, virtual_row, virtual_rules, special_row, special_by, special_rules, special_fits}
use Rattle.kilim_type_spec.specs.Typed.{writes, edges, Among}
use Rattle.kilim_type_sound.specs.Fits.{Classes, HeapFits}
use Rattle.kilim_type_sound.specs.Sound.{EffectFits}
use Rattle.kilim_type_sound.specs.Facts.{Facts}
use Rattle.kilim_type_sound.proofs.Basics.{takes_inverse, PlainOperands, Taken}
use Rattle.kilim_type_sound.proofs.Elements.{take_row}
use Rattle.kilim_program.specs.BuiltIn.{plain_type}
use Rattle.kilim_program.specs.declared.names.ClassId.{ClassId}
use Rattle.kilim_program.specs.declared.ty.Base.TheVariants as base
use Rattle.kilim_program.specs.declared.ty.Ty.{Ty}
use Rattle.kilim_program.specs.declared.verified.VType.TheVariants.{Int, Object}
use Rattle.kilim_type_sound.proofs.Calls.{static_calls, static_native, virtual_calls, text_calls, special_calls}
use Rattle.kilim_type_sound.proofs.Creation.{constructor_calls, constructor_asks, constructor_built_in, constructor_keeps, construct_first}
use Rattle.kilim_type_sound.proofs.Rows.{Before, by_takes}

is_not : (b : Bool) → not b ≡ true → b ≡ false
is_not true e = absurd (cc)
is_not false e = refl

-- no constructor has that name
apart : (name : List ℕ) → bytes_eq name (codes "getMessage") ≡ true → bytes_eq name (codes "<init>") ≡ true → ⊥
apart name e d = let z : false ≡ true = ap (λ (t : List ℕ). bytes_eq t (codes "<init>")) (sym (text_is name (codes "getMessage") e)) ∙ d in cc

module _ (p : Program) (facts : Facts p) (m : Method) (of : Classes) (h : Objects) (heap : HeapFits p of h) (live : ℕ → ℕ → Bool) (at next : ℕ) (f g : Types) (ls vs : List Value) where
  abbrev After : Instr → Effect → Type 0
  After i e = EffectFits p m of live next ls h (edges i next) g e

  missing_is : by_row p m at (Takes [] [] (needs 8 false ∷ [])) f ≡ Ok g → ⊥
  missing_is r = let z = (takes_inverse p m at [] [] (needs 8 false ∷ []) f g r).also_hold.0 in absurd (cc)

  module _ (i : Instr) (b : Before p m of h live at next f ls vs i) (w : (k : ℕ) → writes i k ≡ false) (on : Among (edges i next) next) (id : MethodId) where
    pub virtual_fits : (o : Option Method) → method_at p id ≡ o → by_row p m at (virtual_row m o) f ≡ Ok g →
        After i (with_some o (λ method. on_values (length method.params) vs (λ args below. on_value below (λ receiver rest.
        cond (is_text_method p method) (calls_text method (reverse args) next ls rest h receiver) (as_class p receiver h (calls_on p method id (reverse args) next ls rest h receiver))))))
    virtual_fits None e r = absurd (missing_is r)
    virtual_fits (Some callee) e r =
        let a = (takes_inverse p m at (arguments callee ++ (Is (class_vtype callee.owner) ∷ [])) (result_types callee.result) (virtual_rules m callee) f g r).also_hold in
        let inst = (and_parts (not callee.is_static) (may_name m callee.is_private callee.owner) (and_parts (not callee.is_static && may_name m callee.is_private callee.owner) true a.0).0).0 in
        let con = (and_parts (not (is_constructor callee)) true a.1.0).0 in
        by (is_text_method p callee) refl (is_not callee.is_static inst) (is_not (is_constructor callee) con)
      where
        by : (z : Bool) → is_text_method p callee ≡ z → callee.is_static ≡ false → is_constructor callee ≡ false →
            After i (on_values (length callee.params) vs (λ args below. on_value below (λ receiver rest. cond z (calls_text callee (reverse args) next ls rest h receiver) (as_class p receiver h (calls_on p callee id (reverse args) next ls rest h receiver)))))
        by true t inst con = text_calls p facts m of h heap live at next f g ls vs i b w on id callee e t inst con (virtual_rules m callee) r
        by false t inst con = virtual_calls p facts m of h heap live at next f g ls vs i b w on id callee e inst con (virtual_rules m callee) r

    abbrev takes_effect : List Value → Effect
    takes_effect vs = on_int vs (λ i below. on_object below h (λ n object rest. at_index object.elements i (λ k v. Goes next ls (v ∷ rest) (insert h n (record object { elements = slice_set object.elements k value.Null })))))

    pub static_fits : (o : Option Method) → method_at p id ≡ o → by_row p m at (static_row m o) f ≡ Ok g →
        After i (with_some o (λ method. cond (is_handed_out p method) (on_values (length method.params) vs (λ args rest. Asks id (reverse args) next ls rest h))
        (cond method.built_in (takes_effect vs) (on_values (length method.params) vs (λ args rest. Calls id (reverse args) next ls rest h)))))
    static_fits None e r = absurd (missing_is r)
    static_fits (Some callee) e r =
        let a = (takes_inverse p m at (arguments callee) (result_types callee.result) (static_rules m callee) f g r).also_hold in
        let static = (and_parts callee.is_static (may_name m callee.is_private callee.owner) (and_parts (callee.is_static && may_name m callee.is_private callee.owner) true a.0).0).0 in
        by (is_handed_out p callee) refl static
      where
        by : (z : Bool) → is_handed_out p callee ≡ z → callee.is_static ≡ true →
            After i (cond z (on_values (length callee.params) vs (λ args rest. Asks id (reverse args) next ls rest h)) (cond callee.built_in (takes_effect vs) (on_values (length callee.params) vs (λ args rest. Calls id (reverse args) next ls rest h))))
        by true z static = static_native p facts m of h heap live at next f g ls vs i b w on id callee e (and_parts callee.built_in _ z).0 static (static_rules m callee) r
        by false z static = by_own callee.built_in refl
          where
            taken_types : (k : ClassId) → callee.params ≡ record { dims = 1; base = base.Class k } ∷ plain_type base.Int ∷ [] → arguments callee ≡ Is Int ∷ Is (Object (record { dims = 1; base = base.Class k })) ∷ []
            taken_types k q = ap (λ (tys : List Ty). reverse (map (λ ty. Is (vtype ty)) tys)) q

            by_own : (y : Bool) → callee.built_in ≡ y → After i (cond y (takes_effect vs) (on_values (length callee.params) vs (λ args rest. Calls id (reverse args) next ls rest h)))
            by_own false own = static_calls p facts m of h heap live at next f g ls vs i b w on id callee e own static (static_rules m callee) r
            by_own true own =
                let t = facts.takes id callee e own static z in
                by_takes p facts.order m of h heap live at next f g ls vs i b (arguments callee) (result_types callee.result) (static_rules m callee)
                (subst (λ (os : List Operand). PlainOperands p facts.order m of os) (sym (taken_types t.0 t.1)) (tt, (tt, tt))) r (takes_effect vs) (λ a ts k.
                subst (λ (o : Option Ty). EffectFits p m of live next ls h (edges i next) (record f { stack = result_types o ++ ts }) (takes_effect vs)) (sym t.2)
                (take_row p facts.order m of h heap live at next f g ls vs i b w on t.0 ts (subst (λ (os : List Operand). Taken p facts.order m of h os ts vs) (taken_types t.0 t.1) k)))

    abbrev Goal : Method → Bool → Type 0
    Goal callee z = After i (cond z (on_receiver vs (λ receiver rest. Goes next ls rest h)) (on_values (length callee.params) vs (λ args below. on_receiver below (λ receiver rest. calls_method (method_at p (special p m callee id)) (special p m callee id) (receiver ∷ reverse args) next ls rest h))))

    pub special_fit : (o : Option Method) → method_at p id ≡ o → by_row p m at (special_row p m id o) f ≡ Ok g →
        After i (with_some o (λ method. cond (is_built_in_constructor method) (on_receiver vs (λ receiver rest. Goes next ls rest h))
        (on_values (length method.params) vs (λ args below. on_receiver below (λ receiver rest. calls_method (method_at p (special p m method id)) (special p m method id) (receiver ∷ reverse args) next ls rest h)))))
    special_fit None e r = absurd (missing_is r)
    special_fit (Some callee) e r = by (is_constructor callee) refl r
      where
        by_own : (z : Bool) → callee.built_in ≡ z → is_constructor callee ≡ true → by_row p m at (special_by true p m id callee) f ≡ Ok g → Goal callee (z && (is_constructor callee && is_empty callee.params))
        by_own true own con r = subst (λ (y : Bool). Goal callee y) (sym (ap (λ (y : Bool). y && is_empty callee.params) con)) (by_params (is_empty callee.params) refl)
          where
            itself : special p m callee id ≡ id
            itself = ap (λ (y : Bool). cond (y || eqb callee.owner.0 m.owner.0) id (above_of p callee id (superclass_of (class_at p m.owner)))) con

            none : (tys : List Ty) → is_empty tys ≡ true → tys ≡ []
            none [] e = refl
            none (ty ∷ tys) e = absurd (cc)

            by_params : (y : Bool) → is_empty callee.params ≡ y → Goal callee y
            by_params true empty =
                constructor_built_in p facts m of h heap live at next f g ls vs i b w on id callee e own con (none callee.params empty) (needs 8 (not callee.is_static && may_name m callee.is_private callee.owner) ∷ []) (needs 14 (not callee.is_abstract) ∷ []) r
            by_params false some =
                let first = construct_first p facts m of h heap live at next f g ls vs i b w on callee (needs 8 (not callee.is_static && may_name m callee.is_private callee.owner) ∷ []) (needs 14 (not callee.is_abstract) ∷ []) r in
                let inst = is_not callee.is_static (and_parts (not callee.is_static) (may_name m callee.is_private callee.owner) (and_parts (not callee.is_static && may_name m callee.is_private callee.owner) true first.0).0).0 in
                subst (λ (q : MethodId). After i (on_values (length callee.params) vs (λ args below. on_receiver below (λ receiver rest. calls_method (method_at p q) q (receiver ∷ reverse args) next ls rest h)))) (sym itself)
                (subst (λ (o : Option Method). After i (on_values (length callee.params) vs (λ args below. on_receiver below (λ receiver rest. calls_method o id (receiver ∷ reverse args) next ls rest h)))) (sym e)
                (subst (λ (y : Bool). After i (on_values (length callee.params) vs (λ args below. on_receiver below (λ receiver rest. cond y (calls_built_in callee id (receiver ∷ reverse args) next ls rest h) (Calls id (receiver ∷ reverse args) next ls rest h))))) (sym own)
                (by_kind inst (is_message_constructor callee) (is_get_message callee) refl refl)))
              where
                no_message : is_get_message callee ≡ true → ⊥
                no_message k = apart callee.name (and_parts callee.built_in _ k).1 con

                by_kind : callee.is_static ≡ false → (k l : Bool) → is_message_constructor callee ≡ k → is_get_message callee ≡ l →
                    After i (on_values (length callee.params) vs (λ args below. on_receiver below (λ receiver rest. cond k (keeps_message (receiver ∷ reverse args) next ls rest h) (cond l (gives_message (receiver ∷ reverse args) next ls rest h) (Asks id (receiver ∷ reverse args) next ls rest h)))))
                by_kind inst true l is other =
                    let x = facts.keeps_messages id callee e is in
                    constructor_keeps p facts m of h heap live at next f g ls vs i b w on id callee e own con x.0 x.1 (needs 8 (not callee.is_static && may_name m callee.is_private callee.owner) ∷ []) (needs 14 (not callee.is_abstract) ∷ []) r
                by_kind inst false true is other = absurd (no_message other)
                by_kind inst false false is other =
                    constructor_asks p facts m of h heap live at next f g ls vs i b w on id callee e own inst (needs 8 (not callee.is_static && may_name m callee.is_private callee.owner) ∷ []) (needs 14 (not callee.is_abstract) ∷ []) r
        by_own false own con r =
            let first = construct_first p facts m of h heap live at next f g ls vs i b w on callee (needs 8 (not callee.is_static && may_name m callee.is_private callee.owner) ∷ []) (needs 14 (not callee.is_abstract) ∷ []) r in
            let inst = is_not callee.is_static (and_parts (not callee.is_static) (may_name m callee.is_private callee.owner) (and_parts (not callee.is_static && may_name m callee.is_private callee.owner) true first.0).0).0 in
            subst (λ (q : MethodId). After i (on_values (length callee.params) vs (λ args below. on_receiver below (λ receiver rest. calls_method (method_at p q) q (receiver ∷ reverse args) next ls rest h)))) (sym itself)
            (subst (λ (o : Option Method). After i (on_values (length callee.params) vs (λ args below. on_receiver below (λ receiver rest. calls_method o id (receiver ∷ reverse args) next ls rest h)))) (sym e)
            (subst (λ (y : Bool). After i (on_values (length callee.params) vs (λ args below. on_receiver below (λ receiver rest. cond y (calls_built_in callee id (receiver ∷ reverse args) next ls rest h) (Calls id (receiver ∷ reverse args) next ls rest h))))) (sym own)
            (constructor_calls p facts m of h heap live at next f g ls vs i b w on id callee e own inst con (needs 8 (not callee.is_static && may_name m callee.is_private callee.owner) ∷ []) r)))
          where
            itself : special p m callee id ≡ id
            itself = ap (λ (y : Bool). cond (y || eqb callee.owner.0 m.owner.0) id (above_of p callee id (superclass_of (class_at p m.owner)))) con

        by : (z : Bool) → is_constructor callee ≡ z → by_row p m at (special_by z p m id callee) f ≡ Ok g → Goal callee (callee.built_in && (is_constructor callee && is_empty callee.params))
        by true con r = by_own callee.built_in refl con r
        by false con r =
            let a = (takes_inverse p m at (arguments callee ++ (Is (class_vtype callee.owner) ∷ [])) (result_types callee.result) (special_rules p m id callee) f g r).also_hold in
            let eight = and_parts (not callee.is_static) (may_name m callee.is_private callee.owner) (and_parts (not callee.is_static && may_name m callee.is_private callee.owner) true a.1.0).0 in
            let inst = is_not callee.is_static eight.0 in
            let fits = (and_parts (special_fits p m id callee) true a.1.1.0).0 in
            subst (λ (y : Bool). Goal callee y) (sym (ap (λ (y : Bool). callee.built_in && (y && is_empty callee.params)) con ∙ none callee.built_in))
            (special_calls p facts m of h heap live at next f g ls vs i b w on id callee e inst con eight.1 fits (special_rules p m id callee) a.0 r)
          where
            none : (y : Bool) → (y && false) ≡ false
            none true = refl
            none false = refl
