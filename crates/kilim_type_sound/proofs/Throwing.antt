-- What is thrown is null, or an object of a class.
use Rattle.std.proofs.Common.{◌≡◌, ℕ, zero, suc, Bool, true, false, true≢false, List, [], ◌∷◌, Option, Some, None, Ok, refl, sym, subst, ◌∙◌}
use Rattle.std.specs.Prelude.{codes}
use Rattle.std.specs.FinMap.{get}
use Rattle.kilim_program.specs.declared.class.Method.{Method}
use Rattle.kilim_program.specs.declared.instr.Instr.{Instr}
use Rattle.kilim_program.specs.declared.names.ClassId.{ClassId}
use Rattle.kilim_program.specs.declared.ty.Base.{Base}
use Rattle.kilim_program.specs.declared.ty.Base.TheVariants as base
use Rattle.kilim_program.specs.declared.ty.Ty.{Ty}
use Rattle.kilim_program.specs.declared.value.Value.{Value}
use Rattle.kilim_program.specs.declared.value.Value.TheVariants as value
use Rattle.kilim_program.specs.declared.verified.VType.{VType}
use Rattle.kilim_program.specs.declared.verified.VType.TheVariants.{Null}
use Rattle.kilim_program.specs.Program.{Program}
use Rattle.kilim_program.specs.BuiltIn.{class_type}
use Rattle.kilim_program.specs.Fits.{fits_type}
use Rattle.kilim_program.specs.Members.{named_type}
use Rattle.kilim_program.specs.Names.{class_named}
use Rattle.kilim_run_state.specs.declared.value.Object.{Object as HeapObject}
use Rattle.kilim_run_state.specs.Machine.{Objects}
use Rattle.kilim_run_machine.specs.Effect.{Effect, as_object, on_object, with_some}
use Rattle.kilim_run_machine.specs.Does.{throws_object}
use Rattle.kilim_type_spec.specs.Step.{Is, Takes, Types, by_row, throwable_type, vtype_of_class}
use Rattle.kilim_type_spec.specs.Typed.{edges}
use Rattle.kilim_type_sound.specs.Facts.{Facts}
use Rattle.kilim_type_sound.specs.Fits.{Classes, HeapFits, IsThere, has_type, is_of}
use Rattle.kilim_type_sound.specs.Sound.{EffectFits}
use Rattle.kilim_type_sound.proofs.Basics.{Held}
use Rattle.kilim_type_sound.proofs.Rows.{Before, by_takes}
use Rattle.kilim_type_sound.proofs.Words.{value_took}

module _ (p : Program) (facts : Facts p) (m : Method) (of : Classes) (h : Objects) (heap : HeapFits p of h) (live : ℕ → ℕ → Bool) (at next : ℕ) (f g : Types) (ls vs : List Value) where
  abbrev At : Instr → List VType → Effect → Type 0
  At i s e = EffectFits p m of live next ls h (edges i next) (record f { stack = s }) e

  abbrev thrown_by : ℕ → HeapObject → Effect
  thrown_by n object = throws_object p n object.class.dims object.class.base

  module _ (i : Instr) (b : Before p m of h live at next f ls vs i) (ts : List VType) where
    of_class : (c : ClassId) → class_named p (codes "java/lang/Throwable") ≡ Some c → (n : ℕ) (k : ClassId) (d : ℕ) (b : Base) → d ≡ 0 → b ≡ base.Class k → of n ≡ Some (record { dims = d; base = b }) →
        fits_type p (record { dims = d; base = b }) (class_type c.0) ≡ true → IsThere h (value.Ref n) → At i ts (throws_object p n d b)
    of_class c named n k zero (base.Class j) e q is fits there = (is, facts.throwable c named j fits, there)
    of_class c named n k zero b e q is fits there = absurd (cc)
    of_class c named n k (suc d) b e q is fits there = absurd (cc)

    object_is : (c : ClassId) → class_named p (codes "java/lang/Throwable") ≡ Some c → (n : ℕ) (o : HeapObject) → get h n ≡ Some o → is_of p (of n) (class_type c.0) ≡ true → At i ts (thrown_by n o)
    object_is c named n o there fits =
        let is : of n ≡ Some o.class = heap.classes n o there in
        let below = subst (λ (t : Option Ty). is_of p t (class_type c.0) ≡ true) is fits in
        let k = facts.thrown c named o.class.dims o.class.base below in
        of_class c named n k.0 o.class.dims o.class.base k.1 k.2 is below (o, there)

    is_null : (v : Value) → has_type p m of Null v ≡ true → At i ts (as_object v h thrown_by)
    is_null value.Null e = tt
    is_null (value.Int x) e = absurd (cc)
    is_null (value.Long x) e = absurd (cc)
    is_null (value.Ref n) e = absurd (cc)
    is_null (value.Text u) e = absurd (cc)
    is_null (value.Box x) e = absurd (cc)
    is_null value.Fiber e = absurd (cc)

    no_value : (c : ClassId) (name : List ℕ) → is_of p (named_type p name) (class_type c.0) ≡ false → is_of p (named_type p name) (class_type c.0) ≡ true → ⊥
    no_value c name never fits = true≢false (sym fits ∙ never)

    throwable_is : (o : Option ClassId) → class_named p (codes "java/lang/Throwable") ≡ o → (v : Value) → Held p facts.order m of (Is (vtype_of_class o)) v → IsThere h v → At i ts (as_object v h thrown_by)
    throwable_is None named v e t = is_null v e
    throwable_is (Some c) named (value.Int x) e t = absurd (cc)
    throwable_is (Some c) named (value.Long x) e t = absurd (cc)
    throwable_is (Some c) named value.Null e t = tt
    throwable_is (Some c) named (value.Ref n) e t = subst (λ (z : Option HeapObject). At i ts (with_some z (thrown_by n))) (sym t.1) (object_is c named n t.0 t.1 e)
    throwable_is (Some c) named (value.Text u) e t = absurd (no_value c (codes "java/lang/String") (facts.no_thrown c named (codes "java/lang/String") refl) e)
    throwable_is (Some c) named (value.Box x) e t = absurd (no_value c (codes "kilim/Mailbox") (facts.no_thrown c named (codes "kilim/Mailbox") refl) e)
    throwable_is (Some c) named value.Fiber e t = absurd (no_value c (codes "kilim/Fiber") (facts.no_thrown c named (codes "kilim/Fiber") refl) e)

  pub throw_row : (i : Instr) → Before p m of h live at next f ls vs i → by_row p m at (Takes (Is (throwable_type p) ∷ []) [] []) f ≡ Ok g → EffectFits p m of live next ls h (edges i next) g (on_object vs h (λ n object rest. thrown_by n object))
  throw_row i b r = by_takes p facts.order m of h heap live at next f g ls vs i b (Is (throwable_type p) ∷ []) [] [] (tt, tt) r _ (λ a ts k.
      value_took p facts.order m of h heap (At i ts) (λ c. tt) (Is (throwable_type p)) [] ts vs k _ (λ v e there rest t.
      throwable_is i b ts (class_named p (codes "java/lang/Throwable")) refl v e there))
