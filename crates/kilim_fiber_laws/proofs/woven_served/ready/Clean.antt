-- No value of a verification type is a fiber.
use Rattle.std.proofs.Common.{◌≡◌, ℕ, zero, suc, ◌+◌, true, List, [], ◌∷◌, length, Option, Some, None, refl, sym, ap, subst, ◌∙◌, arith}
use Rattle.std.specs.Prelude.{codes}
use Rattle.std.proofs.lemmas.Bool.{and_parts, false≢true}
use Rattle.kilim_program.specs.declared.class.Method.{Method}
use Rattle.kilim_program.specs.declared.names.ClassId.{ClassId}
use Rattle.kilim_program.specs.declared.ty.Base.{Base}
use Rattle.kilim_program.specs.declared.ty.Base.TheVariants as base
use Rattle.kilim_program.specs.declared.ty.Ty.{Ty}
use Rattle.kilim_program.specs.declared.value.Value.{Value}
use Rattle.kilim_program.specs.declared.value.Value.TheVariants as value
use Rattle.kilim_program.specs.declared.verified.VType.{VType}
use Rattle.kilim_program.specs.declared.verified.VType.TheVariants.{Top, Int, Long, Null, UninitThis, Uninit, Object}
use Rattle.kilim_program.specs.Names.{class_at}
use Rattle.kilim_program.specs.Program.{Program}
use Rattle.kilim_program.specs.Keeps.{has_base}
use Rattle.kilim_type_sound.specs.Fits.{Classes, ContentFits, HeapFits, has_objects, has_type, have_types, is_made, refers}
use Rattle.kilim_run_state.specs.declared.value.Object.{Object as HeapObject}
use Rattle.kilim_program.specs.Members.{named_type}
use Rattle.kilim_run_state.specs.Machine.{Objects}
use Rattle.kilim_program.specs.Members.{is_concrete}
use Rattle.kilim_type_spec.specs.Step.{made_at, vtype}
use Rattle.kilim_fiber_spec.specs.Links.{dummy_value, with_dummies}
use Rattle.kilim_fiber_spec.specs.Rows.{Clean, OldHeap, below_arguments, is_old_base}
use Rattle.std.proofs.lemmas.Option.{slice_get_within}
use Rattle.std.proofs.Common.{◌<◌, ltb-true}
use Rattle.kilim_program.specs.declared.class.Class.{Class}

module _ (p : Program) (none : named_type p (codes "kilim/Fiber") ≡ None) (m : Method) (of : Classes) where
  pub no_fiber : (t : VType) → has_type p m of t value.Fiber ≡ true → ⊥
  no_fiber t e = never t (sym (ap (refers p m t) none) ∙ e)
    where
      never : (t : VType) → refers p m t None ≡ true → ⊥
      never (Object ty) e = false≢true e
      never UninitThis e = false≢true e
      never (Uninit at) e = made (made_at m.code at) e
        where
          made : (o : Option ClassId) → is_made p None o ≡ true → ⊥
          made None e = false≢true e
          made (Some c) e = false≢true e
      never Top e = false≢true e
      never Int e = false≢true e
      never Long e = false≢true e
      never Null e = false≢true e

  pub stack_clean : (ts : List VType) (vs : List Value) → have_types p m of ts vs ≡ true → Clean vs
  stack_clean [] [] e = tt
  stack_clean (t ∷ ts) [] e = tt
  stack_clean [] (v ∷ vs) e = absurd (false≢true e)
  stack_clean (t ∷ ts) (v ∷ vs) e =
      let parts = and_parts (has_type p m of t v) (have_types p m of ts vs) e in
      (λ same. no_fiber t (subst (λ (z : Value). has_type p m of t z ≡ true) same parts.0), stack_clean ts vs parts.1)

-- dummies are none
dummy_clean : (t : VType) → dummy_value t ≡ value.Fiber → ⊥
dummy_clean Int e = absurd (cc)
dummy_clean Long e = absurd (cc)
dummy_clean Top e = absurd (cc)
dummy_clean Null e = absurd (cc)
dummy_clean UninitThis e = absurd (cc)
dummy_clean (Uninit at) e = absurd (cc)
dummy_clean (Object ty) e = absurd (cc)

pub dummies_clean : (tys : List Ty) (s : List Value) → Clean s → Clean (with_dummies tys s)
dummies_clean [] s c = c
dummies_clean (ty ∷ tys) s c = dummies_clean tys (dummy_value (vtype ty) ∷ s) (dummy_clean (vtype ty), c)

-- the stack below the dummies
below_from : (tys : List Ty) (k : ℕ) (s : List Value) → below_arguments (length tys + k) (with_dummies tys s) ≡ below_arguments k s
below_from [] k s = let e : length {A = Ty} [] + k ≡ k = omega arith in ap (λ (n : ℕ). below_arguments n s) e
below_from (ty ∷ tys) k s =
    let e : suc (length tys) + k ≡ length tys + suc k = omega arith in
    ap (λ (n : ℕ). below_arguments n (with_dummies tys (dummy_value (vtype ty) ∷ s))) e ∙ below_from tys (suc k) (dummy_value (vtype ty) ∷ s)

pub below_dummies : (tys : List Ty) (s : List Value) → below_arguments (length tys) (with_dummies tys s) ≡ s
below_dummies tys s = let e : length tys ≡ length tys + 0 = omega arith in ap (λ (n : ℕ). below_arguments n (with_dummies tys s)) e ∙ below_from tys 0 s

-- ---- a class that has objects is there

class_there : (p : Program) (c : ClassId) → has_objects p c ≡ true → c.0 < length p.classes
class_there p c h = by (class_at p c) refl (and_parts (is_concrete (class_at p c)) _ h).0
  where
    by : (o : Option Class) → class_at p c ≡ o → is_concrete o ≡ true → c.0 < length p.classes
    by None e is = absurd (false≢true is)
    by (Some class) e is = slice_get_within p.classes c.0 class e

base_there : (p : Program) (b : Base) → has_base p b ≡ true → is_old_base p b
base_there p (base.Class c) h = ltb-true c.0 (length p.classes) h
base_there p base.Bool h = tt
base_there p base.Byte h = tt
base_there p base.Char h = tt
base_there p base.Short h = tt
base_there p base.Int h = tt
base_there p base.Long h = tt

content_old : (p : Program) (of : Classes) (o : HeapObject) (d : ℕ) (b : Base) → ContentFits p of d b o → is_old_base p b
content_old p of o zero (base.Class c) f = class_there p c f.0
content_old p of o zero base.Bool f = absurd f
content_old p of o zero base.Byte f = absurd f
content_old p of o zero base.Char f = absurd f
content_old p of o zero base.Short f = absurd f
content_old p of o zero base.Int f = absurd f
content_old p of o zero base.Long f = absurd f
content_old p of o (suc n) b f = base_there p b f.2

pub heap_old : (p : Program) (of : Classes) (h : Objects) → HeapFits p of h → OldHeap p h
heap_old p of h f n o e = content_old p of o o.class.dims o.class.base (f.objects n o e)
