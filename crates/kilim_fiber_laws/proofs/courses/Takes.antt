-- A call that fits has arguments as its method takes them.
use Rattle.std.proofs.Common.{◌≡◌, ℕ, zero, suc, ◌+◌, Bool, true, false, cond, eqb, List, [], ◌∷◌, ◌++◌, map, length, Option, Some, refl, sym, ap, subst, ◌∙◌, arith}
use Rattle.std.specs.Prelude.{◌&&◌, if◌then◌else◌, slice_get, sum_by}
use Rattle.std.proofs.lemmas.Bool.{and_parts, ne_eqb, false≢true}
use Rattle.std.proofs.lemmas.List.Sums.{sum_by-cons}
use Rattle.kilim_program.specs.declared.class.Method.{Method}
use Rattle.kilim_program.specs.declared.names.MethodId.{MethodId}
use Rattle.kilim_program.specs.declared.ty.Base.{Base}
use Rattle.kilim_program.specs.declared.ty.Base.TheVariants as base
use Rattle.kilim_program.specs.declared.ty.Ty.{Ty}
use Rattle.kilim_program.specs.declared.value.Value.{Value}
use Rattle.kilim_program.specs.declared.value.Value.TheVariants as value
use Rattle.kilim_program.specs.declared.verified.VType.{VType}
use Rattle.kilim_program.specs.declared.verified.VType.TheVariants.{Top, Int, Long, Null, UninitThis, Uninit, Object}
use Rattle.kilim_program.specs.BuiltIn.{class_type}
use Rattle.kilim_program.specs.Names.{method_at}
use Rattle.kilim_program.specs.Program.{Program}
use Rattle.kilim_program.specs.Same.{argument_slots, is_constructor, is_wide_base, type_slots}
use Rattle.kilim_type_sound.specs.Fits.{Classes, has_type, have_types, is_long_type}
use Rattle.kilim_type_sound.proofs.Steps.{wide_as}
use Rattle.kilim_type_sound.specs.Sound.{argument_types}
use Rattle.kilim_run_machine.specs.Effect.{is_wide}
use Rattle.kilim_run_state.specs.Machine.{slots_of}
use Rattle.kilim_run_model.specs.State.{Setting}
use Rattle.kilim_type_spec.specs.Step.{base_vtype, class_vtype, dims_vtype, size, vtype, words}
use Rattle.kilim_fiber_spec.specs.Links.{Forms, IsReference, Takes}
use Rattle.kilim_fiber_spec.specs.Thread.{first_of, self_in, self_of}

-- ---- how many slots arguments take

slots_length : (v : Value) (vs : List Value) → length (slots_of (v ∷ vs)) ≡ (cond (is_wide v) 2 1) + length (slots_of vs)
slots_length (value.Int x) vs = omega arith
slots_length (value.Long x) vs = omega arith
slots_length value.Null vs = omega arith
slots_length (value.Ref n) vs = omega arith
slots_length (value.Text units) vs = omega arith
slots_length (value.Box box) vs = omega arith
slots_length value.Fiber vs = omega arith

size_as : (t : VType) → size t ≡ cond (is_long_type t) 2 1
size_as Top = refl
size_as Int = refl
size_as Long = refl
size_as Null = refl
size_as UninitThis = refl
size_as (Uninit q) = refl
size_as (Object ty) = refl

base_size : (ty : Ty) (b : Base) → size (base_vtype ty b) ≡ cond (is_wide_base b) 2 1
base_size ty base.Long = refl
base_size ty (base.Class c) = refl
base_size ty base.Bool = refl
base_size ty base.Byte = refl
base_size ty base.Char = refl
base_size ty base.Short = refl
base_size ty base.Int = refl

type_size : (ty : Ty) (d : ℕ) → size (dims_vtype ty d) ≡ cond (eqb d 0 && is_wide_base ty.base) 2 1
type_size ty zero = base_size ty ty.base
type_size ty (suc d) = sym (ap (λ (b : Bool). cond (b && is_wide_base ty.base) 2 1) (ne_eqb (suc d) 0 (λ e. absurd (omega (arith, e)))))

params_words : (tys : List Ty) → words (map vtype tys) ≡ sum_by type_slots tys
params_words [] = refl
params_words (ty ∷ tys) = ap (λ (n : ℕ). n + words (map vtype tys)) (type_size ty ty.dims) ∙ (ap (λ (n : ℕ). type_slots ty + n) (params_words tys) ∙ sym (sum_by-cons type_slots ty tys))

arguments_words : (m : Method) → words (argument_types m) ≡ argument_slots m
arguments_words m = by_static m.is_static
  where
    by_constructor : (b : Bool) → words ((cond b UninitThis (class_vtype m.owner) ∷ []) ++ map vtype m.params) ≡ 1 + sum_by type_slots m.params
    by_constructor true = ap (λ (n : ℕ). 1 + n) (params_words m.params)
    by_constructor false = ap (λ (n : ℕ). 1 + n) (params_words m.params)

    by_static : (b : Bool) → words ((cond b [] (cond (is_constructor m) UninitThis (class_vtype m.owner) ∷ [])) ++ map vtype m.params) ≡ cond b 0 1 + sum_by type_slots m.params
    by_static true = let e = params_words m.params in omega (arith, e)
    by_static false = by_constructor (is_constructor m)

module _ (p : Program) (m : Method) (of : Classes) where
  slots_words : (ts : List VType) (vs : List Value) → have_types p m of ts vs ≡ true → length (slots_of vs) ≡ words ts
  slots_words [] [] h = refl
  slots_words [] (v ∷ vs) h = absurd (cc)
  slots_words (t ∷ ts) [] h = absurd (cc)
  slots_words (t ∷ ts) (v ∷ vs) h =
      let hs = and_parts (has_type p m of t v) (have_types p m of ts vs) h in
      slots_length v vs ∙ (ap (λ (n : ℕ). n + length (slots_of vs)) (ap (λ (b : Bool). cond b 2 1) (wide_as p m of t v hs.0) ∙ sym (size_as t)) ∙ ap (λ (n : ℕ). size t + n) (slots_words ts vs hs.1))

  -- ---- the receiver

  -- the first argument stands in the first slot
  first_slot : (v : Value) (vs : List Value) → slice_get (slots_of (v ∷ vs)) 0 ≡ Some v
  first_slot (value.Int x) vs = refl
  first_slot (value.Long x) vs = refl
  first_slot value.Null vs = refl
  first_slot (value.Ref n) vs = refl
  first_slot (value.Text units) vs = refl
  first_slot (value.Box box) vs = refl
  first_slot value.Fiber vs = refl

  object_is : (ty : Ty) (v : Value) → has_type p m of (Object ty) v ≡ true → IsReference v
  object_is ty (value.Int x) h = absurd (false≢true h)
  object_is ty (value.Long x) h = absurd (false≢true h)
  object_is ty value.Null h = λ go. refl
  object_is ty (value.Ref n) h = λ go. refl
  object_is ty (value.Text units) h = λ go. refl
  object_is ty (value.Box box) h = λ go. refl
  object_is ty value.Fiber h = λ go. refl

  this_is : (v : Value) → has_type p m of UninitThis v ≡ true → IsReference v
  this_is (value.Int x) h = absurd (false≢true h)
  this_is (value.Long x) h = absurd (false≢true h)
  this_is value.Null h = λ go. refl
  this_is (value.Ref n) h = λ go. refl
  this_is (value.Text units) h = λ go. refl
  this_is (value.Box box) h = λ go. refl
  this_is value.Fiber h = λ go. refl

  record Receiver (args : List Value) : Type 0 where
    first : slice_get (slots_of args) 0 ≡ Some (first_of args)
    is : IsReference (first_of args)

  receiver_by : (z : Bool) (ts : List VType) (args : List Value) → have_types p m of ((cond z UninitThis (class_vtype m.owner) ∷ []) ++ ts) args ≡ true → Receiver args
  receiver_by z ts [] h = absurd (none z h)
    where
      none : (z : Bool) → have_types p m of ((cond z UninitThis (class_vtype m.owner) ∷ []) ++ ts) [] ≡ true → ⊥
      none true h = false≢true h
      none false h = false≢true h
  receiver_by true ts (v ∷ vs) h = record { first = first_slot v vs; is = this_is v (and_parts (has_type p m of UninitThis v) (have_types p m of ts vs) h).0 }
  receiver_by false ts (v ∷ vs) h = record { first = first_slot v vs; is = object_is (class_type m.owner.0) v (and_parts (has_type p m of (class_vtype m.owner) v) (have_types p m of ts vs) h).0 }

  receiver_of : (args : List Value) → have_types p m of (argument_types m) args ≡ true → m.is_static ≡ false → Receiver args
  receiver_of args h e =
      receiver_by (is_constructor m) (map vtype m.params) args (subst (λ (z : Bool). have_types p m of ((cond z [] (cond (is_constructor m) UninitThis (class_vtype m.owner) ∷ [])) ++ map vtype m.params) args ≡ true) e h)

-- ---- all that a call says

module _ (set : Setting) (W : Program) (marks : List (List Bool)) (form : Forms set W marks) (c : MethodId) (callee : Method) (there : method_at set.program c ≡ Some callee) where
  itself : callee ≡ (form c).method
  itself = (form c).there callee there

  self_is : (z : Bool) → callee.is_static ≡ z → (args : List Value) → self_of set.program c args ≡ (if z then value.Null else first_of args)
  self_is z e args = ap (λ (o : Option Method). self_in o args) there ∙ ap (λ (b : Bool). if b then value.Null else first_of args) e

  pub takes_typed : (of : Classes) (args : List Value) → have_types set.program callee of (argument_types callee) args ≡ true → Takes set W marks form c args (self_of set.program c args)
  takes_typed of args h = by callee.is_static refl
    where
      slots_are : length (slots_of args) ≡ argument_slots (form c).method
      slots_are = slots_words set.program callee of (argument_types callee) args h ∙ (arguments_words callee ∙ ap argument_slots itself)

      by : (z : Bool) → callee.is_static ≡ z → Takes set W marks form c args (self_of set.program c args)
      by true e = record {
        slots = slots_are;
        self = refl;
        self_first = λ n. absurd (false≢true (sym n ∙ (ap (λ (m : Method). m.is_static) (sym itself) ∙ e)));
        self_none = λ n. self_is true e args;
        is_reference = subst (λ (v : Value). IsReference v) (sym (self_is true e args)) (λ go. refl);
      }
      by false e =
          let r = receiver_of set.program callee of args h e in
          record {
            slots = slots_are;
            self = refl;
            self_first = λ n. r.first ∙ ap (λ (v : Value). Some v) (sym (self_is false e args));
            self_none = λ n. absurd (false≢true (sym (sym (ap (λ (m : Method). m.is_static) itself ∙ n) ∙ e)));
            is_reference = subst (λ (v : Value). IsReference v) (sym (self_is false e args)) r.is;
          }
