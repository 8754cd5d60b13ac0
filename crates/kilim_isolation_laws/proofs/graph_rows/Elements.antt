-- aaload.
use Rattle.std.proofs.Common.{◌≡◌, ℕ, zero, suc, ℤ, ◌+◌, ◌*◌, ◌-◌, ◌==◌, Bool, true, false, true≢false, not, ◌&&◌, ◌||◌, cond, List, [], ◌∷◌, length, Option, Some, None, Ok, refl, sym, ap, subst, ◌∙◌, ◌⊎◌, inl, inr, arith}
use Rattle.std.specs.List.{list_any}
use Rattle.std.specs.Prelude.{drop, slice_get}
use Rattle.std.specs.FinMap.{get}
use Rattle.kilim_program.specs.declared.instr.Instr.TheVariants as instr
use Rattle.kilim_program.specs.declared.ty.Base.TheVariants as base
use Rattle.kilim_program.specs.declared.ty.Kind.TheVariants as kind
use Rattle.kilim_program.specs.declared.verified.VType.TheVariants as vtype
use Rattle.kilim_type_spec.specs.Step as type
use Rattle.kilim_program.specs.declared.class.Method.{Method}
use Rattle.kilim_program.specs.declared.ty.Base.{Base}
use Rattle.kilim_program.specs.declared.ty.Kind.{Kind}
use Rattle.kilim_program.specs.declared.ty.Ty.{Ty}
use Rattle.kilim_run_state.specs.declared.value.Object.{Object}
use Rattle.kilim_program.specs.declared.value.Value.{Value}
use Rattle.kilim_program.specs.declared.value.Value.TheVariants.{Int, Ref}
use Rattle.kilim_program.specs.declared.verified.VType.{VType}
use Rattle.kilim_program.specs.Program.{Program}
use Rattle.kilim_program.specs.Kinds.{kind_of, base_kind, array_kind}
use Rattle.kilim_run_state.specs.Machine.{Objects}
use Rattle.kilim_program.specs.Lengths.{jump_targets, ends_path}
use Rattle.kilim_run_machine.specs.Does.{does, element_type}
use Rattle.kilim_type_spec.specs.Step.{Types, peek, Operand, Is, References, meets, all_meet, is_array_of_references, by_row, row, type_step, dims_vtype, base_vtype, element, with_element}
use Rattle.kilim_isolation_laws.specs.forest.Relation.{is_gone, Element, Named}
use Rattle.kilim_isolation_laws.specs.forest.Canonical.{node_at}
use Rattle.kilim_isolation_graph.specs.declared.graph.Graph.{Graph}
use Rattle.kilim_isolation_graph.specs.Graphs.{slot, push, popped}
use Rattle.kilim_isolation_rules.specs.Rules.{deed}
use Rattle.kilim_isolation_rules.specs.Marks.{names_gone}
use Rattle.kilim_isolation_rules.specs.Fields.{child_by, reads, element_kind}
use Rattle.kilim_isolation_laws.specs.graph_rows.Holds.{Sort, Anything, Wide, Word, Own, Tree, Stuff, Longs, Words, Trees, stuff_of, sort, sort_by, object_sort, type_sort, sort_of_vtype, Fits, unnamed, refers_in, SlotFits, AreSlots, named_by, Waiting, MayHold, held_by, is_tree_object, is_tree_sort, IsOf}
use Rattle.kilim_isolation_laws.specs.graph_rows.Outcome.{Left}
use Rattle.kilim_isolation_laws.proofs.graph_rows.Settle.{not_true}
use Rattle.kilim_isolation_laws.proofs.graph_rows.Heaps.{half_odd, some_same}
use Rattle.kilim_isolation_laws.proofs.graph_rows.Passed.{moves_passed, rule_passed, ok_is}
use Rattle.kilim_isolation_laws.proofs.graph_rows.Words.{object_h, index_h, on_int_h}
use Rattle.kilim_isolation_laws.proofs.graph_rows.Plain.{IsStep, E, moved, dropped}
use Rattle.kilim_isolation_laws.proofs.graph_rows.Making.{not_zero}
use Rattle.kilim_isolation_laws.proofs.graph_rows.Fields.{slot_sort, no_tree_sort, tree_sort, private_sort, read_holds}
use Rattle.kilim_isolation_laws.proofs.graph_rows.Reading.{slot_peeked, slot_lives, met, object_known, tree_to}

-- ---- the sort of an array's elements follows from that of the array

abbrev elements_of : ℕ → Stuff → Sort
elements_of (suc d) x = Tree (suc d) x
elements_of zero Longs = Wide
elements_of zero Words = Word
elements_of zero Trees = Tree 0 Trees

abbrev ty_of : ℕ → Base → Ty
ty_of d b = record { dims = d; base = b }

pub array_is : (p : Program) (d : ℕ) (b : Base) → kind_of p (ty_of (suc d) b) ≡ array_kind (base_kind p b)
array_is p d b = ap (λ z. cond z (base_kind p b) (array_kind (base_kind p b))) (not_zero d)

tree_parts : (d e : ℕ) (x y : Stuff) → Tree d x ≡ Tree e y → (d ≡ e) × (x ≡ y)
tree_parts d e x y w = (ap (λ z. dims_in z) w, ap (λ z. stuff_in z) w)
  where
    dims_in : Sort → ℕ
    dims_in (Tree k z) = k
    dims_in s = 0

    stuff_in : Sort → Stuff
    stuff_in (Tree k z) = z
    stuff_in s = Words

-- an element of an array of a base
base_element : (p : Program) (b : Base) (k : Kind) → base_kind p b ≡ k → (k ≡ kind.Private → ⊥) → sort_of_vtype p (base_vtype (ty_of 0 b) b) ≡ elements_of 0 (stuff_of p b k)
base_element p base.Bool k e not = by k e
  where
    by : (j : Kind) → kind.Value ≡ j → Word ≡ elements_of 0 (stuff_of p base.Bool j)
    by kind.Value w = refl
    by kind.Tree w = absurd (cc)
    by kind.Private w = refl
base_element p base.Byte k e not = by k e
  where
    by : (j : Kind) → kind.Value ≡ j → Word ≡ elements_of 0 (stuff_of p base.Byte j)
    by kind.Value w = refl
    by kind.Tree w = absurd (cc)
    by kind.Private w = refl
base_element p base.Char k e not = by k e
  where
    by : (j : Kind) → kind.Value ≡ j → Word ≡ elements_of 0 (stuff_of p base.Char j)
    by kind.Value w = refl
    by kind.Tree w = absurd (cc)
    by kind.Private w = refl
base_element p base.Short k e not = by k e
  where
    by : (j : Kind) → kind.Value ≡ j → Word ≡ elements_of 0 (stuff_of p base.Short j)
    by kind.Value w = refl
    by kind.Tree w = absurd (cc)
    by kind.Private w = refl
base_element p base.Int k e not = by k e
  where
    by : (j : Kind) → kind.Value ≡ j → Word ≡ elements_of 0 (stuff_of p base.Int j)
    by kind.Value w = refl
    by kind.Tree w = absurd (cc)
    by kind.Private w = refl
base_element p base.Long k e not = refl
base_element p (base.Class c) k e not = by k e not
  where
    by : (j : Kind) → base_kind p (base.Class c) ≡ j → (j ≡ kind.Private → ⊥) → sort_by p (ty_of 0 (base.Class c)) (base_kind p (base.Class c)) ≡ elements_of 0 (stuff_of p (base.Class c) j)
    by kind.Value w n = ap (sort_by p (ty_of 0 (base.Class c))) w
    by kind.Tree w n = ap (sort_by p (ty_of 0 (base.Class c))) w ∙ ap (λ z. Tree 0 (stuff_of p (base.Class c) z)) w
    by kind.Private w n = absurd (n refl)

array_sort : (p : Program) (d : ℕ) (b : Base) (k : Kind) → base_kind p b ≡ k → object_sort p (ty_of (suc d) b) ≡ sort_by p (ty_of (suc d) b) (array_kind k)
array_sort p d b k e = ap (sort_by p (ty_of (suc d) b)) (array_is p d b ∙ ap array_kind e)

tree_element : (p : Program) (d : ℕ) (b : Base) (k : Kind) → base_kind p b ≡ k → (k ≡ kind.Private → ⊥) → type_sort p (ty_of d b) ≡ elements_of d (stuff_of p b k)
tree_element p zero b k e not = base_element p b k e not
tree_element p (suc d) b k e not = array_sort p d b k e ∙ by k e not
  where
    by : (j : Kind) → base_kind p b ≡ j → (j ≡ kind.Private → ⊥) → sort_by p (ty_of (suc d) b) (array_kind j) ≡ Tree (suc d) (stuff_of p b j)
    by kind.Value w n = ap (λ z. Tree (suc d) (stuff_of p b z)) w
    by kind.Tree w n = ap (λ z. Tree (suc d) (stuff_of p b z)) w
    by kind.Private w n = absurd (n refl)

-- two array types of one tree sort have elements of one sort
same_elements : (p : Program) (d : ℕ) (a : Base) (dims : ℕ) (x : Stuff) → object_sort p (ty_of (suc d) a) ≡ Tree dims x → (dims ≡ suc d) × (type_sort p (ty_of d a) ≡ elements_of d x)
same_elements p d a dims x e = by (base_kind p a) refl
  where
    by : (k : Kind) → base_kind p a ≡ k → (dims ≡ suc d) × (type_sort p (ty_of d a) ≡ elements_of d x)
    by kind.Value w =
        let t = tree_parts (suc d) dims (stuff_of p a (base_kind p a)) x (sym (array_sort p d a kind.Value w) ∙ e) in
        (sym t.0, tree_element p d a kind.Value w (λ q. cc) ∙ ap (λ z. elements_of d (stuff_of p a z)) (sym w) ∙ ap (elements_of d) t.1)
    by kind.Tree w =
        let t = tree_parts (suc d) dims (stuff_of p a (base_kind p a)) x (sym (array_sort p d a kind.Tree w) ∙ e) in
        (sym t.0, tree_element p d a kind.Tree w (λ q. cc) ∙ ap (λ z. elements_of d (stuff_of p a z)) (sym w) ∙ ap (elements_of d) t.1)
    by kind.Private w = absurd (own_tree (sym (array_sort p d a kind.Private w) ∙ e))
      where
        own_tree : Own ≡ Tree dims x → ⊥
        own_tree q = cc

pub minus_one : (ty : Ty) (d : ℕ) → ty.dims ≡ suc d → element_type ty ≡ ty_of d ty.base
minus_one ty d e =
    let w : ty.dims - 1 ≡ d = ap (λ z. z - 1) e ∙ less d in
    ap (λ z. ty_of z ty.base) w
  where
    less : (k : ℕ) → suc k - 1 ≡ k
    less k = omega arith

pub dims_is : (ty : Ty) (d : ℕ) → ty.dims ≡ suc d → ty ≡ ty_of (suc d) ty.base
dims_is ty d e = ap (λ z. ty_of z ty.base) e

pub elements_same : (p : Program) (a b : Ty) (d dims : ℕ) (x : Stuff) → b.dims ≡ suc d → object_sort p b ≡ Tree dims x → object_sort p a ≡ Tree dims x → type_sort p (element_type a) ≡ type_sort p (element_type b)
elements_same p a b d dims x eb sb sa = by a.dims refl
  where
    ob : (dims ≡ suc d) × (type_sort p (ty_of d b.base) ≡ elements_of d x)
    ob = same_elements p d b.base dims x (ap (object_sort p) (sym (dims_is b d eb)) ∙ sb)

    kind_tree : (k : Kind) → sort_by p a k ≡ Tree dims x → dims ≡ a.dims
    kind_tree kind.Tree e = (tree_parts dims a.dims x (stuff_of p a.base (base_kind p a.base)) (sym e)).0
    kind_tree kind.Value e = absurd (cc)
    kind_tree kind.Private e = absurd (cc)

    by : (k : ℕ) → a.dims ≡ k → type_sort p (element_type a) ≡ type_sort p (element_type b)
    by k e =
        let da : a.dims ≡ suc d = sym (kind_tree (kind_of p a) sa) ∙ ob.0 in
        let oa = same_elements p d a.base dims x (ap (object_sort p) (sym (dims_is a d da)) ∙ sa) in
        ap (type_sort p) (minus_one a d da) ∙ oa.1 ∙ sym ob.1 ∙ ap (type_sort p) (sym (minus_one b d eb))

pub sort_private : (p : Program) (a : Ty) (k : Kind) → sort_by p a k ≡ Own → k ≡ kind.Private
sort_private p a kind.Private e = refl
sort_private p a kind.Value e = absurd (cc)
sort_private p a kind.Tree e = absurd (cc)

pub own_elements : (p : Program) (a : Ty) → kind_of p a ≡ kind.Private → kind_of p (element_type a) ≡ kind.Private
own_elements p a e = by a.dims refl
  where
    of_array : (k : Kind) → array_kind k ≡ kind.Private → k ≡ kind.Private
    of_array kind.Private w = refl
    of_array kind.Value w = absurd (cc)
    of_array kind.Tree w = absurd (cc)

    either_way : (b : Bool) (k : Kind) → k ≡ kind.Private → cond b k (array_kind k) ≡ kind.Private
    either_way true k w = w
    either_way false k w = ap array_kind w

    by : (d : ℕ) → a.dims ≡ d → kind_of p (element_type a) ≡ kind.Private
    by zero w =
        let same : a.dims - 1 ≡ a.dims = omega arith in
        ap (λ z. kind_of p (ty_of z a.base)) same ∙ e
    by (suc d) w =
        let base_private = of_array (base_kind p a.base) (sym (array_is p d a.base) ∙ ap (kind_of p) (sym (dims_is a d w)) ∙ e) in
        ap (kind_of p) (minus_one a d w) ∙ either_way (d == 0) (base_kind p a.base) base_private

element_passed : (f f1 : Types) (ts : List VType) → with_element f (element ts) ≡ Ok f1 →
    ((peek ts 1 ≡ vtype.Null) × (f1 ≡ record f { stack = vtype.Null ∷ drop 2 f.stack })) ⊎ ((ty : Ty) × (peek ts 1 ≡ vtype.Object ty) × (f1 ≡ record f { stack = type.vtype (element_type ty) ∷ drop 2 f.stack }))
element_passed f f1 [] e = absurd (cc)
element_passed f f1 (i ∷ []) e = absurd (cc)
element_passed f f1 (i ∷ vtype.Null ∷ ts) e = inl (refl, ok_is (record f { stack = vtype.Null ∷ drop 2 f.stack }) f1 e)
element_passed f f1 (i ∷ vtype.Object ty ∷ ts) e = inr (ty, refl, ok_is (record f { stack = type.vtype (element_type ty) ∷ drop 2 f.stack }) f1 e)
element_passed f f1 (i ∷ vtype.Top ∷ ts) e = absurd (cc)
element_passed f f1 (i ∷ vtype.Int ∷ ts) e = absurd (cc)
element_passed f f1 (i ∷ vtype.Long ∷ ts) e = absurd (cc)
element_passed f f1 (i ∷ vtype.UninitThis ∷ ts) e = absurd (cc)
element_passed f f1 (i ∷ vtype.Uninit at ∷ ts) e = absurd (cc)

pub array_dims : (ty : Ty) → is_array_of_references ty ≡ true → (d : ℕ) × (ty.dims ≡ suc d)
array_dims ty e = by ty.dims e
  where
    by : (k : ℕ) → (Rattle.std.specs.Prelude.nat_lt 1 k || (k == 1 && Rattle.kilim_program.specs.Fits.is_reference_base ty.base)) ≡ true → (d : ℕ) × (k ≡ suc d)
    by zero w = absurd (true≢false (sym w))
    by (suc d) w = (d, refl)

ref_none : (n : ℕ) → Some n ≡ None → ⊥
ref_none n e = cc

-- an object in a slot of an array's type
pub of_slot : (p : Program) (h : Objects) (u : Named) (count : ℕ) (s : Sort) (x : Option ℕ) (n : ℕ) → SlotFits p h u count s x (Ref n) → ((a : ℕ) → x ≡ Some a → is_gone (u.node a).standing ≡ false) → (s ≡ Anything → ⊥) →
    ((d : ℕ) × (y : Stuff) × (s ≡ Tree d y) × IsOf p h n (Tree d y)) ⊎ ((s ≡ Own) × IsOf p h n Own)
of_slot p h u count Anything x n f live known = absurd (known refl)
of_slot p h u count Wide None n f live known = absurd (true≢false (sym f))
of_slot p h u count Wide (Some a) n f live known = absurd (true≢false (sym (f.2 (live a refl))))
of_slot p h u count Word None n f live known = absurd (ref_none n f.1)
of_slot p h u count Word (Some a) n f live known = absurd (ref_none n (f.2 (live a refl)).1)
of_slot p h u count Own None n f live known = inr (refl, f.1 n refl)
of_slot p h u count Own (Some a) n f live known = absurd (ref_none n (f.2 (live a refl)).1)
of_slot p h u count (Tree d y) None n f live known = absurd (ref_none n f.1)
of_slot p h u count (Tree d y) (Some a) n f live known = inl (d, y, refl, (f.2 (live a refl)).1 n refl)

module _ (p : Program) (m : Method) (pl to : ℕ) (f f1 : Types) (g g1 : Graph) (at : ℕ → Option ℕ) (h : Objects) (ls st : List Value) (below : List Waiting) (after : Option Types)
    (s : IsStep p m pl to f f1 g g1 at h ls st below after instr.Aaload) (i : ℤ) (n : ℕ) (object : Object) (rest : List Value) (e : st ≡ Int i ∷ Ref n ∷ rest) (there : get h n ≡ Some object) (k : ℕ) (v : Value)
    (has : slice_get object.elements k ≡ Some v) where
  passed : (all_meet p (Is vtype.Int ∷ References ∷ []) f.stack ≡ true) × (with_element f (element f.stack) ≡ Ok f1)
  unfolding row
  passed =
      let a = rule_passed 3 (type.has_operands 2 f.stack) _ f1 s.1 in
      let b = rule_passed 4 (type.has_room m (vtype.Null ∷ drop 2 f.stack)) _ f1 a.1 in
      rule_passed 5 (all_meet p (Is vtype.Int ∷ References ∷ []) f.stack) _ f1 b.1

  lives : (a : ℕ) → slot g.stack 1 ≡ Some a → is_gone (node_at g.nodes a).standing ≡ false
  lives a x = slot_lives g g.stack (not_true (list_any (names_gone g) g.stack) s.0.live) 1 a x

  array : SlotFits p h (named_by g at) (length g.nodes) (sort p m (peek f.stack 1)) (slot g.stack 1) (Ref n)
  array = slot_peeked p m h (named_by g at) (length g.nodes) f.stack g.stack st s.0.holds.slots.on_stack 1 (Ref n) (ap (λ z. slice_get z 1) e)

  rest_slots : AreSlots p m h (named_by g at) (length g.nodes) (drop 2 f.stack) (drop 2 g.stack) rest
  rest_slots = subst (λ z. AreSlots p m h (named_by g at) (length g.nodes) (drop 2 f.stack) (drop 2 g.stack) z) (ap (drop 2) e) (dropped p m h (named_by g at) (length g.nodes) 2 f.stack g.stack st s.0.holds.slots.on_stack)

  entry : Fits p h (type_sort p (element_type object.class)) v × MayHold (object_sort p object.class) (type_sort p (element_type object.class))
  entry = (s.0.holds.heap n object there).elements k v has

  module _ (ty : Ty) (typed : peek f.stack 1 ≡ vtype.Object ty) where
    graph_is : g1 ≡ reads (kind_of p (element_type ty)) 2 Element (slot g.stack 1) g
    unfolding deed
    graph_is = (moves_passed p m g f instr.Aaload after g1 s.2).graph ∙ ap (λ z. reads (element_kind p z) 2 Element (slot g.stack 1) g) typed

    sort_is : sort p m (peek f.stack 1) ≡ object_sort p ty
    unfolding sort
    sort_is = ap (sort p m) typed

    known : sort p m (peek f.stack 1) ≡ Anything → ⊥
    known w = Rattle.kilim_isolation_laws.proofs.graph_rows.Reading.not_anything p ty (kind_of p ty) (sym sort_is ∙ w)

    dims : (d : ℕ) × (ty.dims ≡ suc d)
    unfolding meets
    dims = array_dims ty (ap (meets p References) (sym typed) ∙ met p (Is vtype.Int ∷ References ∷ []) f.stack 1 References refl passed.0)

    same_object : (z : Sort) → IsOf p h n z → object_sort p object.class ≡ z
    same_object z w = ap (λ o. object_sort p o.class) (some_same object w.0 (sym there ∙ w.1)) ∙ w.2

    value_case : (j : Kind) → kind_of p (element_type ty) ≡ j → (j ≡ kind.Tree → ⊥) → Fits p h (type_sort p (element_type ty)) v →
        Left p m (record f { stack = type.vtype (element_type ty) ∷ drop 2 f.stack }) (push None (popped 2 g)) h ls (v ∷ rest) below
    value_case j kd not fits = (
      at,
      moved p m f (record f { stack = type.vtype (element_type ty) ∷ drop 2 f.stack }) g g.locals (None ∷ drop 2 g.stack) at h ls st ls (v ∷ rest) below s.0.holds (record {
        on_stack = (subst (λ z. Fits p h z v) (sym (ap unnamed (slot_sort p m (element_type ty)) ∙ no_tree_sort p (element_type ty) j kd not)) fits, rest_slots);
        in_locals = s.0.holds.slots.in_locals;
      }),
    )

    by_kind : (j : Kind) → kind_of p (element_type ty) ≡ j → Fits p h (type_sort p (element_type ty)) v → is_tree_object p (get h n) ≡ true ⊎ (j ≡ kind.Private) →
        Left p m (record f { stack = type.vtype (element_type ty) ∷ drop 2 f.stack }) (reads j 2 Element (slot g.stack 1) g) h ls (v ∷ rest) below
    by_kind kind.Value kd fits t = value_case kind.Value kd (λ w. cc) fits
    by_kind kind.Private kd fits t = value_case kind.Private kd (λ w. cc) fits
    by_kind kind.Tree kd fits (inr w) = absurd (cc)
    by_kind kind.Tree kd fits (inl tree) =
        let t = tree_sort p (element_type ty) kd in
        read_holds p m f g at h ls st below s.0 Element (2 * k + 1) n (k, refl) (drop 2 f.stack) (drop 2 g.stack) rest rest_slots (type.vtype (element_type ty)) t.0 t.1 (slot_sort p m (element_type ty) ∙ t.2) v
        (subst (λ z. Fits p h z v) t.2 fits) (sym (tree_to p h n object there tree (2 * k + 1) ∙ ap (held_by object) (half_odd k) ∙ ap refers_in has)) (peek f.stack 1) (slot g.stack 1) object array
        lives known there (λ own. tree_own (object_sort p object.class) (ap (is_tree_object p) (sym there) ∙ tree) own) (λ a c w. absurd (no_child a c w))
      where
        tree_own : (z : Sort) → is_tree_sort z ≡ true → z ≡ Own → ⊥
        tree_own z w is = true≢false (sym w ∙ ap is_tree_sort is)

        no_child : (a c : ℕ) → child_by g Element a ≡ Some c → ⊥
        no_child a c w = cc

    element_left : Left p m (record f { stack = type.vtype (element_type ty) ∷ drop 2 f.stack }) (reads (kind_of p (element_type ty)) 2 Element (slot g.stack 1) g) h ls (v ∷ rest) below
    element_left = elim (of_slot p h (named_by g at) (length g.nodes) (sort p m (peek f.stack 1)) (slot g.stack 1) n array lives known) [
      | inl w ↦ by_kind (kind_of p (element_type ty)) refl
          (subst (λ z. Fits p h z v) (elements_same p object.class ty dims.0 w.0 w.1 dims.1 (sym sort_is ∙ w.2) (same_object (Tree w.0 w.1) w.3)) entry.0)
          (inl (ap (is_tree_object p) there ∙ ap is_tree_sort (same_object (Tree w.0 w.1) w.3)))
      | inr w ↦
          let mine = own_elements p ty (sort_private p ty (kind_of p ty) (sym sort_is ∙ w.0)) in
          let its = own_elements p object.class (sort_private p object.class (kind_of p object.class) (same_object Own w.1)) in
          by_kind (kind_of p (element_type ty)) refl (subst (λ z. Fits p h z v) (private_sort p (element_type object.class) its ∙ sym (private_sort p (element_type ty) mine)) entry.0) (inr mine)
    ]

  aaload_left : Left p m f1 g1 h ls (v ∷ rest) below
  unfolding sort
  aaload_left = elim (element_passed f f1 f.stack passed.1) [
    | inl w ↦ absurd (null_array (sort p m (peek f.stack 1)) (null_sort w.0) (of_slot p h (named_by g at) (length g.nodes) (sort p m (peek f.stack 1)) (slot g.stack 1) n array lives (λ any. word_any (sym (null_sort w.0) ∙ any))))
    | inr w ↦ subst (λ z. Left p m z g1 h ls (v ∷ rest) below) (sym w.2) (subst (λ z. Left p m (record f { stack = type.vtype (element_type w.0) ∷ drop 2 f.stack }) z h ls (v ∷ rest) below) (sym (graph_is w.0 w.1)) (element_left w.0 w.1))
  ]
    where
      null_sort : peek f.stack 1 ≡ vtype.Null → sort p m (peek f.stack 1) ≡ Word
      null_sort w = ap (sort p m) w

      word_any : Word ≡ Anything → ⊥
      word_any w = cc

      null_array : (z : Sort) → z ≡ Word → ((d : ℕ) × (y : Stuff) × (z ≡ Tree d y) × IsOf p h n (Tree d y)) ⊎ ((z ≡ Own) × IsOf p h n Own) → ⊥
      null_array z w (inl q) = word_tree (sym w ∙ q.2)
        where
          word_tree : Word ≡ Tree q.0 q.1 → ⊥
          word_tree x = cc
      null_array z w (inr q) = word_own (sym w ∙ q.0)
        where
          word_own : Word ≡ Own → ⊥
          word_own x = cc

pub aaload_h : (p : Program) (m : Method) (pl to : ℕ) (f f1 : Types) (g g1 : Graph) (at : ℕ → Option ℕ) (h : Objects) (ls st : List Value) (below : List Waiting) (after : Option Types) →
    IsStep p m pl to f f1 g g1 at h ls st below after instr.Aaload → E p m pl to f f1 g g1 at h ls st below after instr.Aaload (does p m instr.Aaload to ls st h)
unfolding does ends_path jump_targets
aaload_h p m pl to f f1 g g1 at h ls st below after s = on_int_h (E p m pl to f f1 g g1 at h ls st below after instr.Aaload) tt (λ c. tt) (λ c. tt) st _ (λ i under e.
    object_h (E p m pl to f f1 g g1 at h ls st below after instr.Aaload) tt (λ c. tt) (λ c. tt) under h _ (λ n object rest e' there. index_h (E p m pl to f f1 g g1 at h ls st below after instr.Aaload) tt (λ c. tt) (λ c. tt) object.elements i _ (λ k v has.
    (inl refl, aaload_left p m pl to f f1 g g1 at h ls st below after s i n object rest (e ∙ ap (λ z. Int i ∷ z) e') there k v has))))
