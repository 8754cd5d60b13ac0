-- The receiver of a call on an object has a type that is assignable to the class of the method.
use Rattle.std.proofs.Common.{◌≡◌, ℕ, suc, Bool, true, false, List, [], ◌∷◌, ◌++◌, drop, length, Option, Some, Ok, refl, sym, ap, subst, ◌∙◌}
use Rattle.std.specs.Prelude.{◌&&◌, map, not}
use Rattle.std.proofs.lemmas.Bool.{and_parts, false≢true, not-true}
use Rattle.std.proofs.lemmas.List.{length-reverse}
use Rattle.std.proofs.lemmas.Option.{none-some}
use Rattle.kilim_program.specs.declared.class.Method.{Method}
use Rattle.kilim_program.specs.declared.instr.Instr.{Instr}
use Rattle.kilim_program.specs.declared.instr.Instr.TheVariants as instr
use Rattle.kilim_program.specs.declared.ty.Ty.{Ty}
use Rattle.kilim_program.specs.declared.verified.VType.{VType}
use Rattle.kilim_program.specs.declared.names.MethodId.{MethodId}
use Rattle.kilim_program.specs.Names.{method_at}
use Rattle.kilim_program.specs.Program.{Program}
use Rattle.kilim_program.specs.Same.{is_constructor}
use Rattle.kilim_type_sound.proofs.Basics.{takes_inverse}
use Rattle.kilim_isolation_pauses.specs.Pausing.{called}
use Rattle.kilim_type_spec.specs.Step.{Is, Operand, Types, all_meet, arguments, assignable, by_row, class_vtype, may_name, meets, result_types, row, special_by, special_fits, special_row, special_rules, static_row, static_rules, type_step, virtual_row, virtual_rules, vtype}
use Rattle.kilim_weave_spec.specs.Woven.{first_of}

count_in : (tys : List Ty) → length (map (λ ty. Is (vtype ty)) tys) ≡ length tys
count_in [] = refl
count_in (ty ∷ tys) = ap suc (count_in tys)

pub argument_count : (callee : Method) → length (arguments callee) ≡ length callee.params
argument_count callee = length-reverse (map (λ ty. Is (vtype ty)) callee.params) ∙ count_in callee.params

module _ (p : Program) where
  meets_last : (ops : List Operand) (t : VType) (s : List VType) → all_meet p (ops ++ (Is t ∷ [])) s ≡ true → assignable p (first_of (drop (length ops) s)) t ≡ true
  unfolding meets
  meets_last [] t [] e = absurd (false≢true e)
  meets_last [] t (u ∷ s) e = (and_parts (assignable p u t) true e).0
  meets_last (o ∷ ops) t [] e = absurd (false≢true e)
  meets_last (o ∷ ops) t (u ∷ s) e = meets_last ops t s (and_parts (meets p o u) (all_meet p (ops ++ (Is t ∷ [])) s) e).1

  met : (named : Method) (s : List VType) → all_meet p (arguments named ++ (Is (class_vtype named.owner) ∷ [])) s ≡ true → assignable p (first_of (drop (length named.params) s)) (class_vtype named.owner) ≡ true
  met named s e = subst (λ (n : ℕ). assignable p (first_of (drop n s)) (class_vtype named.owner) ≡ true) (argument_count named) (meets_last (arguments named) (class_vtype named.owner) s e)

  module _ (own : Method) (at : ℕ) (named : Method) (instance : named.is_static ≡ false) (plain : is_constructor named ≡ false) (f g : Types) where
    pub receiver_meets : (i : Instr) → called p i ≡ Some named → type_step p own at i f ≡ Ok g → assignable p (first_of (drop (length named.params) f.stack)) (class_vtype named.owner) ≡ true
    unfolding row
    receiver_meets (instr.Invokevirtual id) there step =
        let e : by_row p own at (virtual_row own (Some named)) f ≡ Ok g = subst (λ (o : Option Method). by_row p own at (virtual_row own o) f ≡ Ok g) there step in
        met named f.stack (takes_inverse p own at (arguments named ++ (Is (class_vtype named.owner) ∷ [])) (result_types named.result) (virtual_rules own named) f g e).meet
    receiver_meets (instr.Invokespecial id) there step =
        let e : by_row p own at (special_row p own id (Some named)) f ≡ Ok g = subst (λ (o : Option Method). by_row p own at (special_row p own id o) f ≡ Ok g) there step in
        let d : by_row p own at (special_by false p own id named) f ≡ Ok g = subst (λ (z : Bool). by_row p own at (special_by z p own id named) f ≡ Ok g) plain e in
        met named f.stack (takes_inverse p own at (arguments named ++ (Is (class_vtype named.owner) ∷ [])) (result_types named.result) (special_rules p own id named) f g d).meet
    receiver_meets (instr.Invokestatic id) there step =
        let e : by_row p own at (static_row own (Some named)) f ≡ Ok g = subst (λ (o : Option Method). by_row p own at (static_row own o) f ≡ Ok g) there step in
        let a = (takes_inverse p own at (arguments named) (result_types named.result) (static_rules own named) f g e).also_hold in
        absurd (false≢true (sym instance ∙ (and_parts named.is_static (may_name own named.is_private named.owner) (and_parts (named.is_static && may_name own named.is_private named.owner) true a.0).0).0))
    receiver_meets i there step = absurd (none-some named there)

  -- a call on an object names no static method
  pub virtual_instance : (own : Method) (at : ℕ) (named : Method) (f g : Types) (id : MethodId) → method_at p id ≡ Some named → type_step p own at (instr.Invokevirtual id) f ≡ Ok g → named.is_static ≡ false
  unfolding row
  virtual_instance own at named f g id there step =
      let e : by_row p own at (virtual_row own (Some named)) f ≡ Ok g = subst (λ (o : Option Method). by_row p own at (virtual_row own o) f ≡ Ok g) there step in
      let a = (takes_inverse p own at (arguments named ++ (Is (class_vtype named.owner) ∷ [])) (result_types named.result) (virtual_rules own named) f g e).also_hold in
      not-true named.is_static (and_parts (not named.is_static) (may_name own named.is_private named.owner) (and_parts (not named.is_static && may_name own named.is_private named.owner) true a.0).0).0

  -- nor does a special one, and it may name its method
  pub special_instance : (own : Method) (at : ℕ) (named : Method) (f g : Types) (id : MethodId) → method_at p id ≡ Some named → is_constructor named ≡ false → type_step p own at (instr.Invokespecial id) f ≡ Ok g →
      (named.is_static ≡ false) × (may_name own named.is_private named.owner ≡ true) × (special_fits p own id named ≡ true)
  unfolding row
  special_instance own at named f g id there plain step =
      let e : by_row p own at (special_row p own id (Some named)) f ≡ Ok g = subst (λ (o : Option Method). by_row p own at (special_row p own id o) f ≡ Ok g) there step in
      let d : by_row p own at (special_by false p own id named) f ≡ Ok g = subst (λ (z : Bool). by_row p own at (special_by z p own id named) f ≡ Ok g) plain e in
      let a = (takes_inverse p own at (arguments named ++ (Is (class_vtype named.owner) ∷ [])) (result_types named.result) (special_rules p own id named) f g d).also_hold in
      let eight = and_parts (not named.is_static) (may_name own named.is_private named.owner) (and_parts (not named.is_static && may_name own named.is_private named.owner) true a.1.0).0 in
      (not-true named.is_static eight.0, eight.1, (and_parts (special_fits p own id named) true a.1.1.0).0)

  -- a static call names a static method
  pub static_static : (own : Method) (at : ℕ) (named : Method) (f g : Types) (id : MethodId) → method_at p id ≡ Some named → type_step p own at (instr.Invokestatic id) f ≡ Ok g → named.is_static ≡ true
  unfolding row
  static_static own at named f g id there step =
      let e : by_row p own at (static_row own (Some named)) f ≡ Ok g = subst (λ (o : Option Method). by_row p own at (static_row own o) f ≡ Ok g) there step in
      let a = (takes_inverse p own at (arguments named) (result_types named.result) (static_rules own named) f g e).also_hold in
      (and_parts named.is_static (may_name own named.is_private named.owner) (and_parts (named.is_static && may_name own named.is_private named.owner) true a.0).0).0
