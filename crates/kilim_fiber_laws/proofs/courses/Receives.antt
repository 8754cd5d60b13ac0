-- The receiver of a call on an object is of the class that is named.
use Rattle.std.proofs.Common.{◌≡◌, ℕ, true, List, [], ◌∷◌, ◌++◌, map, length, Option, Some, None, Ok, refl, sym, ap, subst, ◌∙◌}
use Rattle.std.specs.FinMap.{get}
use Rattle.std.proofs.lemmas.Bool.{and_parts, false≢true}
use Rattle.std.proofs.lemmas.List.{length-map, length-reverse}
use Rattle.std.proofs.lemmas.Option.{none-some}
use Rattle.kilim_program.specs.BuiltIn.{class_type}
use Rattle.kilim_program.specs.declared.class.Method.{Method}
use Rattle.kilim_program.specs.declared.instr.Instr.{Instr}
use Rattle.kilim_program.specs.declared.instr.Instr.TheVariants.{Invokevirtual}
use Rattle.kilim_program.specs.declared.ty.Ty.{Ty}
use Rattle.kilim_program.specs.declared.value.Value.{Value}
use Rattle.kilim_program.specs.declared.value.Value.TheVariants as value
use Rattle.kilim_program.specs.declared.verified.VType.{VType}
use Rattle.kilim_program.specs.declared.verified.VType.TheVariants.{Object}
use Rattle.kilim_program.specs.Fits.{fits_type}
use Rattle.kilim_program.specs.Program.{Program}
use Rattle.kilim_type_sound.proofs.Basics.{assigned, takes_inverse}
use Rattle.kilim_type_sound.specs.Facts.{Ordered}
use Rattle.kilim_type_sound.specs.Fits.{Classes, HeapFits, has_type, have_types, is_of}
use Rattle.kilim_run_state.specs.declared.value.Object.{Object as HeapObject}
use Rattle.kilim_run_state.specs.Machine.{Objects}
use Rattle.kilim_type_spec.specs.Step.{Is, Operand, Types, all_meet, arguments, by_row, class_vtype, meets, result_types, row, type_step, virtual_row, virtual_rules, vtype}
use Rattle.kilim_fiber_spec.specs.Rows.{Receives, below_arguments, class_if, value_class}

module _ (p : Program) (order : Ordered p) (m : Method) (of : Classes) where
  -- what stands below so many operands
  below_typed : (os : List Operand) (ty : Ty) (ts : List VType) (vs : List Value) → all_meet p (os ++ (Is (Object ty) ∷ [])) ts ≡ true → have_types p m of ts vs ≡ true → (v : Value) (rest : List Value) → below_arguments (length os) vs ≡ v ∷ rest → has_type p m of (Object ty) v ≡ true
  unfolding meets
  below_typed [] ty [] vs a h v rest e = absurd (false≢true a)
  below_typed [] ty (t ∷ ts) [] a h v rest e = absurd (false≢true h)
  below_typed [] ty (t ∷ ts) (x ∷ vs) a h v rest e =
      let met = and_parts (meets p (Is (Object ty)) t) (all_meet p [] ts) a in
      let hs = and_parts (has_type p m of t x) (have_types p m of ts vs) h in
      subst (λ (z : Value). has_type p m of (Object ty) z ≡ true) (top_is x v vs rest e) (assigned p order m of t (Object ty) x met.0 refl hs.0)
    where
      top_is : (x v : Value) (vs rest : List Value) → x ∷ vs ≡ v ∷ rest → x ≡ v
      top_is x v vs rest e = cc
  below_typed (o ∷ os) ty [] vs a h v rest e = absurd (false≢true a)
  below_typed (o ∷ os) ty (t ∷ ts) [] a h v rest e = absurd (false≢true h)
  below_typed (o ∷ os) ty (t ∷ ts) (x ∷ vs) a h v rest e =
      below_typed os ty ts vs (and_parts (meets p o t) (all_meet p (os ++ (Is (Object ty) ∷ [])) ts) a).1 (and_parts (has_type p m of t x) (have_types p m of ts vs) h).1 v rest e

  class_fits : (heap : Objects) → HeapFits p of heap → (v : Value) (t ty : Ty) → has_type p m of (Object t) v ≡ true → value_class p v heap ≡ Some ty → fits_type p ty t ≡ true
  class_fits heap fits (value.Ref n) t ty h e = by (get heap n) refl e
    where
      by : (o : Option HeapObject) → get heap n ≡ o → class_if o ≡ Some ty → fits_type p ty t ≡ true
      by None g c = absurd (none-some ty c)
      by (Some o) g c = subst (λ (z : Option Ty). is_of p z t ≡ true) (fits.classes n o g ∙ c) h
  class_fits heap fits (value.Text units) t ty h e = subst (λ (z : Option Ty). is_of p z t ≡ true) e h
  class_fits heap fits (value.Box box) t ty h e = subst (λ (z : Option Ty). is_of p z t ≡ true) e h
  class_fits heap fits (value.Int x) t ty h e = absurd (none-some ty e)
  class_fits heap fits (value.Long x) t ty h e = absurd (none-some ty e)
  class_fits heap fits value.Null t ty h e = absurd (none-some ty e)
  class_fits heap fits value.Fiber t ty h e = absurd (none-some ty e)

  arguments_many : (a : Method) → length (arguments a) ≡ length a.params
  arguments_many a = length-reverse (map (λ (ty : Ty). Is (vtype ty)) a.params) ∙ length-map a.params (λ (ty : Ty). Is (vtype ty))

  pub receives_typed : (heap : Objects) → HeapFits p of heap → (at : ℕ) (i : Instr) (f g : Types) (s : List Value) → have_types p m of f.stack s ≡ true → type_step p m at i f ≡ Ok g → Receives p i s heap
  unfolding row
  receives_typed heap fits at (Invokevirtual id) f g s h step = λ a there v rest below ty class.
      let inverse = takes_inverse p m at (arguments a ++ (Is (class_vtype a.owner) ∷ [])) (result_types a.result) (virtual_rules m a) f g (ap (λ (o : Option Method). by_row p m at (virtual_row m o) f) (sym there) ∙ step) in
      class_fits heap fits v (class_type a.owner.0) ty (below_typed (arguments a) (class_type a.owner.0) f.stack s inverse.meet h v rest (ap (λ (n : ℕ). below_arguments n s) (arguments_many a) ∙ below)) class
  receives_typed heap fits at i f g s h step = tt
