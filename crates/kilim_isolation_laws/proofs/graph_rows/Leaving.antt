-- Rows of returns.
use Rattle.std.proofs.Common.{◌≡◌, ℕ, zero, suc, ℤ, ◌==◌, Bool, true, false, true≢false, not, cond, ◌&&◌, List, [], ◌∷◌, length, Option, Some, None, Result, Ok, refl, sym, ap, subst, ◌∙◌}
use Rattle.std.specs.List.{list_any}
use Rattle.std.specs.Prelude.{drop, slice_get, is_none}
use Rattle.kilim_program.specs.declared.instr.Instr.TheVariants as instr
use Rattle.kilim_program.specs.declared.ty.Base.TheVariants as base
use Rattle.kilim_program.specs.declared.ty.Kind.TheVariants as kind
use Rattle.kilim_program.specs.declared.verified.VType.TheVariants as vtype
use Rattle.kilim_type_spec.specs.Step as type
use Rattle.kilim_program.specs.declared.class.Method.{Method}
use Rattle.kilim_program.specs.declared.instr.Instr.{Instr}
use Rattle.kilim_program.specs.declared.ty.Base.{Base}
use Rattle.kilim_program.specs.declared.ty.Ty.{Ty}
use Rattle.kilim_program.specs.declared.value.Value.{Value}
use Rattle.kilim_program.specs.declared.value.Value.TheVariants.{Int, Long}
use Rattle.kilim_program.specs.declared.verified.VType.{VType}
use Rattle.kilim_program.specs.Program.{Program}
use Rattle.kilim_program.specs.Kinds.{kind_of}
use Rattle.kilim_run_state.specs.Machine.{Objects}
use Rattle.kilim_run_machine.specs.Does.{does, narrowed_int, narrowed_result}
use Rattle.kilim_type_spec.specs.Step.{Types, peek, assignable, Operand, Further, Is, meets, all_meet, further, rule, by_row, row, type_step, returns_object, has_object, result_types, is_object, has_int, has_long, is_int, is_long, dims_vtype, base_vtype}
use Rattle.kilim_isolation_laws.specs.forest.Relation.{Root, is_gone, Names}
use Rattle.kilim_isolation_laws.specs.forest.Canonical.{node_at}
use Rattle.kilim_isolation_graph.specs.declared.graph.Graph.{Graph}
use Rattle.kilim_isolation_graph.specs.Graphs.{slot, node_of}
use Rattle.kilim_isolation_rules.specs.Rules.{deed, result_mixes}
use Rattle.kilim_isolation_rules.specs.Marks.{mixes, is_tree, names_gone, names_no_root, names_one}
use Rattle.kilim_isolation_graph.specs.Nodes.{is_root}
use Rattle.kilim_isolation_laws.specs.graph_rows.Holds.{sort, type_sort, sort_of_vtype, Fits, unnamed, refers, SlotFits, named_by, Waiting, KindsFlow}
use Rattle.kilim_isolation_laws.specs.graph_rows.Outcome.{ReturnHolds}
use Rattle.kilim_isolation_laws.proofs.graph_rows.Settle.{not_true, and_left, and_right, flow_slot}
use Rattle.kilim_isolation_laws.proofs.graph_rows.Passed.{rule_passed, moves_passed, IsPassed}
use Rattle.kilim_isolation_laws.proofs.graph_rows.Words.{on_reference_h, on_int_h, on_long_h}
use Rattle.kilim_isolation_laws.proofs.graph_rows.Plain.{IsStep, E}
use Rattle.kilim_isolation_laws.proofs.graph_rows.Fields.{slot_sort, tree_sort}
use Rattle.kilim_isolation_laws.proofs.graph_rows.Reading.{slot_peeked, slot_lives, met}
use Rattle.kilim_isolation_laws.proofs.graph_rows.Putting.{slot_value, not_false, root_is, none_some}

leaves_passed : (p : Program) (m : Method) (at : ℕ) (takes : List Operand) (also : List Further) (f f1 : Types) → by_row p m at (type.Leaves takes also) f ≡ Ok f1 →
    (all_meet p takes f.stack ≡ true) × (further {A = Types} p also f.stack (rule 11 (not (f.unset && Rattle.kilim_program.specs.Same.is_constructor m)) (Ok (record f { stack = [] }))) ≡ Ok f1)
leaves_passed p m at takes also f f1 e =
    let a = rule_passed 3 (type.has_operands (length takes) f.stack) _ f1 e in
    let b = rule_passed 5 (all_meet p takes f.stack) _ f1 a.1 in
    (b.0, b.1)

pub first_further : (p : Program) (r : Further) (rs : List Further) (s : List VType) (go : Result Types ℕ) (x : Types) → further p (r ∷ rs) s go ≡ Ok x → ((r.holds && all_meet p r.operands s) ≡ true) × (further p rs s go ≡ Ok x)
first_further p r rs s go x e = rule_passed r.number (r.holds && all_meet p r.operands s) (further p rs s go) x e

pub mix_of : (p : Program) (t : VType) (ty : Ty) → mixes p t (vtype.Object ty) ≡ false → mixes p t (type.vtype ty) ≡ false
mix_of p t ty e = by ty.dims
  where
    false_and : (a : Bool) → (a && false) ≡ false
    false_and true = refl
    false_and false = refl

    of_base : (b : Base) → mixes p t (base_vtype ty b) ≡ false
    of_base base.Bool = false_and (is_tree p t)
    of_base base.Byte = false_and (is_tree p t)
    of_base base.Char = false_and (is_tree p t)
    of_base base.Short = false_and (is_tree p t)
    of_base base.Int = false_and (is_tree p t)
    of_base base.Long = false_and (is_tree p t)
    of_base (base.Class c) = e

    by : (d : ℕ) → mixes p t (dims_vtype ty d) ≡ false
    by zero = of_base ty.base
    by (suc d) = e

abbrev result_operands : Option Ty → List Operand
result_operands r = Rattle.std.specs.Prelude.map (λ t. Is t) (result_types r)

module _ (p : Program) (flow : KindsFlow p) (m : Method) (pl to : ℕ) (f f1 : Types) (g g1 : Graph) (at : ℕ → Option ℕ) (h : Objects) (ls st : List Value) (below : List Waiting) (after : Option Types)
    (s : IsStep p m pl to f f1 g g1 at h ls st below after instr.Areturn) (v : Value) (rest : List Value) (e : st ≡ v ∷ rest) where
  passed : IsPassed p m g f instr.Areturn after g1
  passed = moves_passed p m g f instr.Areturn after g1 s.2

  fits_result : (has_object m.result && all_meet p (result_operands m.result) f.stack) ≡ true
  unfolding row
  fits_result = (first_further p (record { number = 11; holds = has_object m.result; operands = result_operands m.result }) [] f.stack _ f1
      (first_further p (record { number = 10; holds = true; operands = type.Initialized ∷ [] }) (record { number = 11; holds = has_object m.result; operands = result_operands m.result } ∷ []) f.stack _ f1
      (leaves_passed p m pl (type.AReference ∷ []) (returns_object m) f f1 s.1).1).1).0

  same_nodes : g1.nodes ≡ g.nodes
  unfolding deed
  same_nodes = ap (λ (z : Graph). z.nodes) passed.graph

  lives : (n : ℕ) → slot g.stack 0 ≡ Some n → is_gone (node_at g.nodes n).standing ≡ false
  lives n x = slot_lives g g.stack (not_true (list_any (names_gone g) g.stack) s.0.live) 0 n x

  module _ (ty : Ty) (w : m.result ≡ Some ty) where
    both : (has_object (Some ty) && all_meet p (result_operands (Some ty)) f.stack) ≡ true
    both = ap (λ z. has_object z && all_meet p (result_operands z) f.stack) (sym w) ∙ fits_result

    fits : assignable p (peek f.stack 0) (type.vtype ty) ≡ true
    unfolding meets
    fits = met p (Is (type.vtype ty) ∷ []) f.stack 0 (Is (type.vtype ty)) refl (and_right (has_object (Some ty)) (all_meet p (Is (type.vtype ty) ∷ []) f.stack) both)

    mix : mixes p (peek f.stack 0) (type.vtype ty) ≡ false
    unfolding deed
    mix = mix_of p (peek f.stack 0) ty (ap (λ z. result_mixes p z (peek f.stack 0)) (sym w) ∙ passed.mixed)

    slot_is : SlotFits p h (named_by g at) (length g.nodes) (type_sort p ty) (slot g.stack 0) v
    slot_is = subst (λ z. SlotFits p h (named_by g at) (length g.nodes) z (slot g.stack 0) v) (slot_sort p m ty)
        (flow_slot p h (named_by g at) (length g.nodes) (sort p m (peek f.stack 0)) (sort p m (type.vtype ty)) (flow m (peek f.stack 0) (type.vtype ty) fits mix) (slot g.stack 0) v
        (slot_peeked p m h (named_by g at) (length g.nodes) f.stack g.stack st s.0.holds.slots.on_stack 0 v (ap (λ z. slice_get z 0) e)))

    root : (n : ℕ) → slot g.stack 0 ≡ Some n → (node_at g.nodes n).standing ≡ Root
    unfolding deed
    root n x = root_is (node_at g.nodes n).standing (not_false (is_root (node_at g.nodes n).standing) (ap (names_no_root g) (sym x) ∙ passed.not_free))

    named : kind_of p ty ≡ kind.Tree → (o : ℕ) → refers v ≡ Some o → (n : ℕ) × Names (named_by g1 at) n o × ((node_of g1 n).standing ≡ Root)
    named kd o r = by (slot g.stack 0) refl slot_is
      where
        by : (x : Option ℕ) → slot g.stack 0 ≡ x → SlotFits p h (named_by g at) (length g.nodes) (type_sort p ty) x v → (n : ℕ) × Names (named_by g1 at) n o × ((node_of g1 n).standing ≡ Root)
        by None x q = absurd (none_some o (sym (subst (λ z. Fits p h (unnamed z) v) (tree_sort p ty kd).2 q).1 ∙ r))
        by (Some n) x q = (n, subst (λ z. Names (record { node = node_at z; at = at }) n o) (sym same_nodes) (lives n x, sym q.0 ∙ r), ap (λ z. (node_at z n).standing) same_nodes ∙ root n x)

    value_holds : ReturnHolds p m g1 at h (Some ty) (Some v)
    value_holds = (slot_value p h (named_by g at) (length g.nodes) (type_sort p ty) (slot g.stack 0) v slot_is lives, named)

  areturn_value : (r : Option Ty) → m.result ≡ r → ReturnHolds p m g1 at h r (Some v)
  areturn_value None w = absurd (true≢false (sym (ap (λ z. has_object z && all_meet p (result_operands z) f.stack) (sym w) ∙ fits_result)))
  areturn_value (Some ty) w = value_holds ty w

module _ (p : Program) (flow : KindsFlow p) (m : Method) (pl to : ℕ) (f f1 : Types) (g g1 : Graph) (at : ℕ → Option ℕ) (h : Objects) (ls st : List Value) (below : List Waiting) (after : Option Types) where
  abbrev EI : Instr → Rattle.kilim_run_machine.specs.Effect.Effect → Type 0
  EI i e = E p m pl to f f1 g g1 at h ls st below after i e

  pub areturn_h : IsStep p m pl to f f1 g g1 at h ls st below after instr.Areturn → EI instr.Areturn (does p m instr.Areturn to ls st h)
  unfolding does
  areturn_h s = on_reference_h (EI instr.Areturn) tt (λ c. tt) (λ c. tt) st _ (λ v rest e _.
      (areturn_value p flow m pl to f f1 g g1 at h ls st below after s v rest e m.result refl, refl, same_nodes p flow m pl to f f1 g g1 at h ls st below after s v rest e))

  other_nodes : (i : Instr) (takes : List Operand) (also : List Further) → IsStep p m pl to f f1 g g1 at h ls st below after i → deed p m g f i ≡ Rattle.kilim_isolation_rules.specs.Marks.plain (record g { stack = [] }) → g1.nodes ≡ g.nodes
  other_nodes i takes also s e = ap (λ (z : Graph). z.nodes) ((moves_passed p m g f i after g1 s.2).graph ∙ ap (λ (z : Rattle.kilim_isolation_rules.specs.declared.deed.Deed.Deed). z.graph) e)

  pub return_h : IsStep p m pl to f f1 g g1 at h ls st below after instr.Return → EI instr.Return (does p m instr.Return to ls st h)
  unfolding does row deed
  return_h s = (
    by m.result (first_further p (record { number = 11; holds = is_none m.result; operands = [] }) [] f.stack _ f1 (leaves_passed p m pl [] (type.needs 11 (is_none m.result) ∷ []) f f1 s.1).1).0,
    refl,
    other_nodes instr.Return [] (type.needs 11 (is_none m.result) ∷ []) s refl,
  )
    where
      by : (r : Option Ty) → (is_none r && true) ≡ true → ReturnHolds p m g1 at h r None
      by None e = tt
      by (Some ty) e = absurd (true≢false (sym e))

  -- ints and longs
  number_fits : (ty : Ty) (d : ℕ) → is_int (dims_vtype ty d) ≡ true → (x : ℤ) → Fits p h (sort_of_vtype p (dims_vtype ty d)) (Int x)
  number_fits ty (suc d) e x = absurd (true≢false (sym e))
  number_fits ty zero e x = by ty.base e
    where
      by : (b : Base) → is_int (base_vtype ty b) ≡ true → Fits p h (sort_of_vtype p (base_vtype ty b)) (Int x)
      by base.Bool e = (refl, refl)
      by base.Byte e = (refl, refl)
      by base.Char e = (refl, refl)
      by base.Short e = (refl, refl)
      by base.Int e = (refl, refl)
      by base.Long e = absurd (true≢false (sym e))
      by (base.Class c) e = absurd (true≢false (sym e))

  long_fits : (ty : Ty) (d : ℕ) → is_long (dims_vtype ty d) ≡ true → (x : ℤ) → Fits p h (sort_of_vtype p (dims_vtype ty d)) (Long x)
  long_fits ty (suc d) e x = absurd (true≢false (sym e))
  long_fits ty zero e x = by ty.base e
    where
      by : (b : Base) → is_long (base_vtype ty b) ≡ true → Fits p h (sort_of_vtype p (base_vtype ty b)) (Long x)
      by base.Bool e = absurd (true≢false (sym e))
      by base.Byte e = absurd (true≢false (sym e))
      by base.Char e = absurd (true≢false (sym e))
      by base.Short e = absurd (true≢false (sym e))
      by base.Int e = absurd (true≢false (sym e))
      by base.Long e = refl
      by (base.Class c) e = absurd (true≢false (sym e))

  pub ireturn_h : IsStep p m pl to f f1 g g1 at h ls st below after instr.Ireturn → EI instr.Ireturn (does p m instr.Ireturn to ls st h)
  unfolding does row deed
  ireturn_h s = on_int_h (EI instr.Ireturn) tt (λ c. tt) (λ c. tt) st _ (λ x rest e. (
    by x m.result (first_further p (record { number = 11; holds = has_int m.result; operands = [] }) [] f.stack _ f1 (leaves_passed p m pl (Is vtype.Int ∷ []) (type.needs 11 (has_int m.result) ∷ []) f f1 s.1).1).0,
    refl,
    other_nodes instr.Ireturn (Is vtype.Int ∷ []) (type.needs 11 (has_int m.result) ∷ []) s refl,
  ))
    where
      by : (x : ℤ) (r : Option Ty) → (has_int r && true) ≡ true → ReturnHolds p m g1 at h r (Some (narrowed_result r (Int x)))
      by x None e = absurd (true≢false (sym e))
      by x (Some ty) e = (number_fits ty ty.dims (and_left (is_int (type.vtype ty)) true e) (cond (ty.dims == 0) (narrowed_int ty.base x) x), λ kd o r. absurd (none_some o r))

  pub lreturn_h : IsStep p m pl to f f1 g g1 at h ls st below after instr.Lreturn → EI instr.Lreturn (does p m instr.Lreturn to ls st h)
  unfolding does row deed
  lreturn_h s = on_long_h (EI instr.Lreturn) tt (λ c. tt) (λ c. tt) st _ (λ x rest e. (
    by x m.result (first_further p (record { number = 11; holds = has_long m.result; operands = [] }) [] f.stack _ f1 (leaves_passed p m pl (Is vtype.Long ∷ []) (type.needs 11 (has_long m.result) ∷ []) f f1 s.1).1).0,
    refl,
    other_nodes instr.Lreturn (Is vtype.Long ∷ []) (type.needs 11 (has_long m.result) ∷ []) s refl,
  ))
    where
      by : (x : ℤ) (r : Option Ty) → (has_long r && true) ≡ true → ReturnHolds p m g1 at h r (Some (Long x))
      by x None e = absurd (true≢false (sym e))
      by x (Some ty) e = (long_fits ty ty.dims (and_left (is_long (type.vtype ty)) true e) x, λ kd o r. absurd (none_some o r))
