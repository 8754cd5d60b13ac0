-- From the stack to the arguments of a call.
use Rattle.std.proofs.Common.{◌≡◌, ℕ, zero, suc, true, false, true≢false, not, ◌&&◌, List, [], ◌∷◌, ◌++◌, map, length, reverse, Option, Some, refl, sym, ap, subst, ◌∙◌, arith}
use Rattle.std.specs.List.{list_any}
use Rattle.std.specs.Prelude.{take}
use Rattle.std.proofs.lemmas.List.{reverse-reverse, length-reverse}
use mathlib.Core.List.{reverse_aux}
use Rattle.kilim_program.specs.declared.verified.VType.TheVariants as vtype
use Rattle.kilim_type_spec.specs.Step as type
use Rattle.kilim_program.specs.declared.class.Method.{Method}
use Rattle.kilim_program.specs.declared.ty.Qualifier.{Qualifier}
use Rattle.kilim_program.specs.declared.ty.Ty.{Ty}
use Rattle.kilim_program.specs.declared.value.Value.{Value}
use Rattle.kilim_program.specs.declared.verified.VType.{VType}
use Rattle.kilim_program.specs.Program.{Program}
use Rattle.kilim_run_state.specs.Machine.{Objects}
use Rattle.kilim_run_machine.specs.Effect.{Effect, Ends, Raises, Stuck, on_values}
use Rattle.kilim_type_spec.specs.Step.{Types, peek, assignable, Operand, Is, meets, all_meet, arguments, class_vtype}
use Rattle.kilim_isolation_laws.specs.forest.Relation.{is_gone, Named}
use Rattle.kilim_isolation_graph.specs.Graphs.{slot}
use Rattle.kilim_isolation_rules.specs.declared.deed.Passed.{Passed}
use Rattle.kilim_isolation_graph.specs.Entry.{declared_parameters}
use Rattle.kilim_isolation_rules.specs.Calls.{parameters}
use Rattle.kilim_isolation_rules.specs.Marks.{mixes}
use Rattle.kilim_isolation_laws.specs.graph_rows.Holds.{sort, SlotFits, AreSlots, KindsFlow}
use Rattle.kilim_isolation_laws.proofs.graph_rows.Settle.{or_left, or_right, and_left, and_right, flow_slot}
use Rattle.kilim_isolation_laws.proofs.graph_rows.Words.{value_h}
use Rattle.kilim_isolation_laws.proofs.graph_rows.Fields.{slot_sort}
use Rattle.kilim_isolation_laws.proofs.graph_rows.Leaving.{mix_of}
use Rattle.kilim_isolation_laws.specs.graph_rows.Outcome.{ArgsFit}
use Rattle.kilim_run_state.specs.declared.cause.EndCause.{EndCause}

-- so many values
pub values_h : (P : Effect → Type 0) (stuck : P Stuck) (raises : (c : EndCause) → P (Raises c)) (ends : (c : EndCause) → P (Ends c)) (n : ℕ) (s : List Value) (go : List Value → List Value → Effect) →
    ((vs rest : List Value) → s ≡ vs ++ rest → length vs ≡ n → P (go vs rest)) → P (on_values n s go)
values_h P stuck raises ends zero s go w = w [] s refl refl
values_h P stuck raises ends (suc n) s go w = value_h P stuck raises ends s _ (λ v rest e. values_h P stuck raises ends n rest _ (λ vs below e' size. w (v ∷ vs) below (e ∙ ap (λ z. v ∷ z) e') (ap suc size)))

module _ (p : Program) (m : Method) (h : Objects) (u : Named) (count : ℕ) where
  -- values on the stack, each with its slot, and the type into which it flows
  abbrev pub Flows : List Ty → List VType → List (Option ℕ) → List Value → Type 0
  Flows [] [] [] [] = Unit {0}
  Flows (ty ∷ tys) (t ∷ ts) (x ∷ xs) (v ∷ vs) = (assignable p t (type.vtype ty) ≡ true) × SlotFits p h u count (sort p m t) x v × ((n : ℕ) → x ≡ Some n → is_gone (u.node n).standing ≡ false) × Flows tys ts xs vs
  Flows tys ts xs vs = ⊥

  pub turned : (tys : List Ty) (ts : List VType) (xs : List (Option ℕ)) (vs : List Value) (tys' : List Ty) (ts' : List VType) (xs' : List (Option ℕ)) (vs' : List Value) → Flows tys ts xs vs → Flows tys' ts' xs' vs' →
      Flows (reverse_aux tys tys') (reverse_aux ts ts') (reverse_aux xs xs') (reverse_aux vs vs')
  turned [] [] [] [] tys' ts' xs' vs' a b = b
  turned (ty ∷ tys) (t ∷ ts) (x ∷ xs) (v ∷ vs) tys' ts' xs' vs' a b = turned tys ts xs vs (ty ∷ tys') (t ∷ ts') (x ∷ xs') (v ∷ vs') a.3 (a.0, a.1, a.2, b)
  turned [] [] [] (v ∷ vs) tys' ts' xs' vs' a b = absurd a
  turned [] [] (x ∷ xs) vs tys' ts' xs' vs' a b = absurd a
  turned [] (t ∷ ts) xs vs tys' ts' xs' vs' a b = absurd a
  turned (ty ∷ tys) [] xs vs tys' ts' xs' vs' a b = absurd a
  turned (ty ∷ tys) (t ∷ ts) [] vs tys' ts' xs' vs' a b = absurd a
  turned (ty ∷ tys) (t ∷ ts) (x ∷ xs) [] tys' ts' xs' vs' a b = absurd a

  abbrev operand : Ty → Operand
  operand ty = Is (type.vtype ty)

  abbrev AllLive : List (Option ℕ) → Type 0
  AllLive xs = (k n : ℕ) → slot xs k ≡ Some n → is_gone (u.node n).standing ≡ false

  pub from_stack : (tys : List Ty) (more : List Operand) (ts : List VType) (xs : List (Option ℕ)) (vs rest : List Value) → all_meet p (map (λ ty. Is (type.vtype ty)) tys ++ more) ts ≡ true → AreSlots p m h u count ts xs (vs ++ rest) → length vs ≡ length tys →
      ((k n : ℕ) → slot xs k ≡ Some n → is_gone (u.node n).standing ≡ false) → Flows tys (take (length tys) ts) (take (length tys) xs) vs
  unfolding meets
  from_stack [] more ts xs [] rest e s size live = tt
  from_stack [] more ts xs (v ∷ vs) rest e s size live = absurd (omega arith)
  from_stack (ty ∷ tys) more ts xs [] rest e s size live = absurd (omega arith)
  from_stack (ty ∷ tys) more [] xs (v ∷ vs) rest e s size live = absurd (true≢false (sym e))
  from_stack (ty ∷ tys) more (t ∷ ts) [] (v ∷ vs) rest e s size live = absurd s
  from_stack (ty ∷ tys) more (t ∷ ts) (x ∷ xs) (v ∷ vs) rest e s size live = (
    and_left (assignable p t (type.vtype ty)) (all_meet p (map (λ z. Is (type.vtype z)) tys ++ more) ts) e,
    s.0,
    (λ n w. live 0 n w),
    from_stack tys more ts xs vs rest (and_right (assignable p t (type.vtype ty)) (all_meet p (map (λ z. Is (type.vtype z)) tys ++ more) ts) e) s.1 (omega arith) (λ k n w. live (suc k) n w),
  )

  -- the arguments fit the parameters
  pub arguments_fit : KindsFlow p → (tys : List Ty) (qs : List Qualifier) (ts : List VType) (xs : List (Option ℕ)) (vs : List Value) → Flows tys ts xs vs → length qs ≡ length tys →
      list_any (λ (a : Passed). not a.is_begun && mixes p a.ty (vtype.Object a.into)) (parameters tys qs xs ts) ≡ false → ArgsFit p h u count (parameters tys qs xs ts) vs (declared_parameters tys qs)
  arguments_fit flow [] [] [] [] [] f size mix = tt
  arguments_fit flow (ty ∷ tys) (q ∷ qs) (t ∷ ts) (x ∷ xs) (v ∷ vs) f size mix = (
    subst (λ z. SlotFits p h u count z x v) (slot_sort p m ty)
        (flow_slot p h u count (sort p m t) (sort p m (type.vtype ty)) (flow m t (type.vtype ty) f.0 (mix_of p t ty (or_left (mixes p t (vtype.Object ty)) _ mix))) x v f.1),
    f.2,
    refl,
    arguments_fit flow tys qs ts xs vs f.3 (omega arith) (or_right (mixes p t (vtype.Object ty)) _ mix),
  )
  arguments_fit flow [] (q ∷ qs) ts xs vs f size mix = absurd (omega arith)
  arguments_fit flow (ty ∷ tys) [] ts xs vs f size mix = absurd (omega arith)
  arguments_fit flow [] [] [] [] (v ∷ vs) f size mix = absurd f
  arguments_fit flow [] [] [] (x ∷ xs) vs f size mix = absurd f
  arguments_fit flow [] [] (t ∷ ts) xs vs f size mix = absurd f
  arguments_fit flow (ty ∷ tys) (q ∷ qs) [] xs vs f size mix = absurd f
  arguments_fit flow (ty ∷ tys) (q ∷ qs) (t ∷ ts) [] vs f size mix = absurd f
  arguments_fit flow (ty ∷ tys) (q ∷ qs) (t ∷ ts) (x ∷ xs) [] f size mix = absurd f

  -- the operands of a call are those of its parameters, the last first
  turned_map : (tys tys' : List Ty) → reverse_aux (map (λ ty. Is (type.vtype ty)) tys) (map (λ ty. Is (type.vtype ty)) tys') ≡ map (λ ty. Is (type.vtype ty)) (reverse_aux tys tys')
  turned_map [] tys' = refl
  turned_map (ty ∷ tys) tys' = turned_map tys (ty ∷ tys')

  pub arguments_are : (callee : Method) → arguments callee ≡ map (λ ty. Is (type.vtype ty)) (reverse callee.params)
  arguments_are callee = turned_map callee.params []

  -- all arguments but the receiver, as the code of the call leaves them
  pub params_fit : KindsFlow p → (callee : Method) (more : List Operand) (ts : List VType) (xs : List (Option ℕ)) (vs rest : List Value) → all_meet p (arguments callee ++ more) ts ≡ true → AreSlots p m h u count ts xs (vs ++ rest) → length vs ≡ length callee.params →
      ((k n : ℕ) → slot xs k ≡ Some n → is_gone (u.node n).standing ≡ false) → length callee.qualifiers ≡ length callee.params →
      list_any (λ (a : Passed). not a.is_begun && mixes p a.ty (vtype.Object a.into)) (parameters callee.params callee.qualifiers (reverse (take (length callee.params) xs)) (reverse (take (length callee.params) ts))) ≡ false →
      ArgsFit p h u count (parameters callee.params callee.qualifiers (reverse (take (length callee.params) xs)) (reverse (take (length callee.params) ts))) (reverse vs) (declared_parameters callee.params callee.qualifiers)
  params_fit flow callee more ts xs vs rest e s size live sized mix =
      arguments_fit flow callee.params callee.qualifiers (reverse (take (length callee.params) ts)) (reverse (take (length callee.params) xs)) (reverse vs)
      (subst (λ z. Flows z (reverse (take (length callee.params) ts)) (reverse (take (length callee.params) xs)) (reverse vs)) (reverse-reverse callee.params)
      (turned (reverse callee.params) (take (length callee.params) ts) (take (length callee.params) xs) vs [] [] [] []
      (subst (λ k. Flows (reverse callee.params) (take k ts) (take k xs) vs) (length-reverse callee.params)
      (from_stack (reverse callee.params) more ts xs vs rest (ap (λ z. all_meet p (z ++ more) ts) (sym (arguments_are callee)) ∙ e) s (size ∙ sym (length-reverse callee.params)) live)) tt))
      sized mix
