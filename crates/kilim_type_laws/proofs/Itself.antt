-- Each verification type is assignable to itself, where there is a class.
use Rattle.std.proofs.Common.{◌≡◌, ℕ, zero, suc, ◌+◌, Bool, true, false, ◌||◌, eqb, refl, ap, sym, ◌∙◌, subst, arith, List, [], ◌∷◌, length}
use Rattle.std.specs.List.{list_any}
use Rattle.std.proofs.lemmas.Bool.{eq-eqb}
use Rattle.std.proofs.lemmas.List.{length-append}
use Rattle.kilim_program.specs.declared.class.Form.{Form}
use Rattle.kilim_program.specs.declared.class.Form.TheVariants.{Plain, Woven}
use Rattle.kilim_program.specs.declared.names.ClassId.{ClassId}
use Rattle.kilim_program.specs.declared.ty.Base.{Base}
use Rattle.kilim_program.specs.declared.ty.Base.TheVariants as base
use Rattle.kilim_program.specs.declared.ty.Ty.{Ty}
use Rattle.kilim_program.specs.declared.verified.VType.{VType}
use Rattle.kilim_program.specs.declared.verified.VType.TheVariants.{Top, Int, Long, Null, UninitThis, Uninit, Object}
use Rattle.kilim_program.specs.BuiltIn.{built_in_classes_in}
use Rattle.kilim_program.specs.Fits.{base_assignable, class_assignable, fits_type, type_assignable}
use Rattle.kilim_program.specs.Keeps.{Keeps}
use Rattle.kilim_program.specs.Names.{line_up_to}
use Rattle.kilim_program.specs.Program.{Program}
use Rattle.kilim_type_spec.specs.Step.{assignable}
use Rattle.kilim_type_spec.specs.Typed.{FlowsInto, all_assignable}
use Rattle.kilim_type_spec.specs.Step.{Types, peek}
use Rattle.kilim_type_laws.specs.Laws.{AssignsItself}

has_classes : (form : Form) (a b : ℕ) → (n : ℕ) × (length (built_in_classes_in form a b) ≡ suc n)
has_classes Plain a b = (17, refl)
has_classes Woven a b = (18, refl)

some_class : (p : Program) → Keeps p → (n : ℕ) × (length p.classes ≡ suc n)
some_class p keeps =
    let s = has_classes p.form (length keeps.built_in.own_classes) (length keeps.built_in.own_methods) in
    let e = ap length keeps.built_in.classes ∙ (length-append keeps.built_in.own_classes _ ∙ ap (λ (k : ℕ). length keeps.built_in.own_classes + k) s.1) in
    (length keeps.built_in.own_classes + s.0, e ∙ omega arith)

or_left : (a b : Bool) → a ≡ true → (a || b) ≡ true
or_left true b e = refl
or_left false b e = absurd (cc)

module _ (p : Program) (keeps : Keeps p) where
  class_itself : (c : ClassId) → class_assignable p c c ≡ true
  class_itself c =
      let some = some_class p keeps in
      or_left _ _ (subst (λ (k : ℕ). list_any (λ (d : ClassId). eqb d.0 c.0) (line_up_to p k c) ≡ true) (sym some.1) (or_left (eqb c.0 c.0) _ (eq-eqb c.0 c.0 refl)))

  base_itself : (b : Base) → base_assignable p b b ≡ true
  base_itself (base.Class c) = class_itself c
  base_itself base.Bool = refl
  base_itself base.Byte = refl
  base_itself base.Char = refl
  base_itself base.Short = refl
  base_itself base.Int = refl
  base_itself base.Long = refl

  type_itself : (n : ℕ) (b : Base) → type_assignable p n b n b ≡ true
  type_itself zero b = base_itself b
  type_itself (suc n) b = type_itself n b

  object_itself : (ty : Ty) → fits_type p ty ty ≡ true
  unfolding fits_type
  object_itself ty = type_itself ty.dims ty.base

  pub itself : (t : VType) → assignable p t t ≡ true
  itself Top = refl
  itself Int = refl
  itself Long = refl
  itself Null = refl
  itself UninitThis = refl
  itself (Uninit at) = eq-eqb at at refl
  itself (Object ty) = object_itself ty

  all_itself : (ts : List VType) → all_assignable p ts ts ≡ true
  all_itself [] = refl
  all_itself (t ∷ ts) = ap (λ (b : Bool). if_both b (all_assignable p ts ts)) (itself t) ∙ all_itself ts
    where
      if_both : Bool → Bool → Bool
      if_both true b = b
      if_both false b = false

  -- types flow where they are the frame
  pub flows_itself : (f : Types) → FlowsInto p f f
  flows_itself f = record { locals = λ slot. itself (peek f.locals slot); stack = all_itself f.stack; unset = λ e. e }

pub assigns_itself : AssignsItself
assigns_itself p keeps t = itself p keeps t
