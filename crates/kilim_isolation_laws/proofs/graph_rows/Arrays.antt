-- aastore.
use Rattle.std.proofs.Common.{◌≡◌, ℕ, zero, suc, ℤ, ◌+◌, ◌*◌, Bool, true, false, true≢false, ◌&&◌, List, [], ◌∷◌, length, Option, Some, None, refl, sym, ap, subst, ◌∙◌, ◌⊎◌, inl, inr}
use Rattle.std.specs.List.{list_any}
use Rattle.std.specs.Prelude.{drop, slice_get, slice_set}
use Rattle.std.specs.FinMap.{get, insert}
use Rattle.kilim_program.specs.declared.instr.Instr.TheVariants as instr
use Rattle.kilim_program.specs.declared.ty.Kind.TheVariants as kind
use Rattle.kilim_program.specs.declared.ty.Base.TheVariants as base
use Rattle.kilim_program.specs.declared.verified.VType.TheVariants as vtype
use Rattle.kilim_program.specs.declared.class.Method.{Method}
use Rattle.kilim_program.specs.declared.ty.Kind.{Kind}
use Rattle.kilim_program.specs.declared.ty.Ty.{Ty}
use Rattle.kilim_run_state.specs.declared.value.Object.{Object}
use Rattle.kilim_program.specs.declared.value.Value.{Value}
use Rattle.kilim_program.specs.Program.{Program}
use Rattle.kilim_run_state.specs.Machine.{Objects}
use Rattle.kilim_program.specs.declared.ty.Base.{Base}
use Rattle.kilim_program.specs.declared.value.Value.TheVariants.{Int, Ref}
use Rattle.kilim_program.specs.declared.verified.VType.{VType}
use Rattle.kilim_program.specs.Kinds.{kind_of, is_tree_kind, is_private_kind}
use Rattle.kilim_program.specs.Fits.{fits_type}
use Rattle.kilim_program.specs.Lengths.{jump_targets, ends_path}
use Rattle.kilim_run_machine.specs.Does.{does, element_type, cast_fits}
use Rattle.kilim_type_spec.specs.Step.{Types, peek, assignable, Is, References, meets, all_meet, object_type, is_array_of_references, dims_vtype, base_vtype, row}
use Rattle.kilim_isolation_laws.specs.forest.Heap.{IsSet_at}
use Rattle.kilim_isolation_laws.specs.forest.Relation.{is_gone, Element}
use Rattle.kilim_isolation_laws.specs.forest.Canonical.{node_at}
use Rattle.kilim_isolation_graph.specs.declared.graph.Graph.{Graph}
use Rattle.kilim_isolation_graph.specs.Graphs.{slot, popped}
use Rattle.kilim_isolation_rules.specs.Rules.{deed}
use Rattle.kilim_isolation_rules.specs.Marks.{names_gone, is_tree, is_private}
use Rattle.kilim_isolation_graph.specs.Nodes.{is_root}
use Rattle.kilim_isolation_rules.specs.Fields.{stored, stores, element_kind}
use Rattle.kilim_isolation_laws.specs.graph_rows.Outcome.{Left}
use Rattle.kilim_isolation_laws.proofs.graph_rows.Settle.{not_true}
use Rattle.kilim_isolation_laws.proofs.graph_rows.Passed.{takes_passed, moves_passed}
use Rattle.kilim_isolation_laws.proofs.graph_rows.Words.{value_h, object_h, index_h, on_int_h, class_h, cond_h, IsClass, OfObject, OfNone}
use Rattle.kilim_isolation_laws.proofs.graph_rows.Plain.{IsStep, E, dropped}
use Rattle.kilim_isolation_laws.proofs.graph_rows.Fields.{private_sort, plain_kind, null_or_own}
use Rattle.kilim_isolation_laws.proofs.graph_rows.Reading.{slot_peeked, slot_lives, met, not_anything}
use Rattle.kilim_isolation_laws.proofs.graph_rows.Storing.{null_stored, root_stored}
use Rattle.kilim_isolation_laws.proofs.graph_rows.Putting.{same_holds, slot_value, not_false, root_is, both_false, none_some}
use Rattle.kilim_isolation_laws.proofs.graph_rows.Elements.{of_slot, elements_same, own_elements, sort_private, array_dims, minus_one, dims_is}
use Rattle.kilim_isolation_laws.proofs.graph_rows.Casting.{null_slot, tree_sorted, object_is, known_of, and_no, same_sort, flows_by}
use Rattle.kilim_isolation_laws.proofs.forest.Store.{is_not_same}
use Rattle.kilim_isolation_laws.specs.graph_rows.Holds.{Waiting, KindsFlow, SlotFits, AreSlots, named_by, sort, sort_by, sort_of_vtype, Sort, Anything, Wide, Word, Own, Tree, Stuff, object_sort, type_sort, Fits, refers, refers_in, HeapFits, trees, IsOf, MayHold, held_by, tree_held, half, is_tree_sort, is_tree_object}
use Rattle.kilim_isolation_laws.proofs.graph_rows.Heaps.{Grows, fits_grow, half_odd, place_is, element_there, element_other, set_grows, set_fits, set_at, set_same, same_has, is_or_not, some_same}

-- ---- an array after a store

module _ (p : Program) (h : Objects) (n : ℕ) (object : Object) (there : get h n ≡ Some object) (k : ℕ) (old w : Value) (has : slice_get object.elements k ≡ Some old) where
  abbrev pub filled : Object
  filled = record object { elements = slice_set object.elements k w }

  abbrev pub array_after : Objects
  array_after = insert h n (record object { elements = slice_set object.elements k w })

  pub array_grows : Grows p h array_after
  array_grows = set_grows p h n object filled there refl

  some_value : (a b : Value) → Some a ≡ Some b → a ≡ b
  some_value a b e = cc

  pub array_fits : HeapFits p h → Fits p h (type_sort p (element_type object.class)) w → HeapFits p array_after
  array_fits hf fits = set_fits p h n object filled there refl hf (record {
    fields = λ f v e. (fits_grow p h array_after array_grows _ v ((hf n object there).fields f v e).0, ((hf n object there).fields f v e).1);
    elements = λ j v e. by j v (is_or_not j k) e;
  })
    where
      by : (j : ℕ) (v : Value) → (j ≡ k) ⊎ (j ≡ k → ⊥) → slice_get (slice_set object.elements k w) j ≡ Some v → Fits p array_after (type_sort p (element_type object.class)) v × MayHold (object_sort p object.class) (type_sort p (element_type object.class))
      by j v (inl is) e = (
        subst (Fits p array_after (type_sort p (element_type object.class))) (some_value w v (sym (element_there object.elements k old w has) ∙ ap (slice_get (slice_set object.elements k w)) (sym is) ∙ e))
            (fits_grow p h array_after array_grows (type_sort p (element_type object.class)) w fits),
        ((hf n object there).elements k old has).1,
      )
      by j v (inr other) e =
          let o = (hf n object there).elements j v (sym (element_other object.elements k w j other) ∙ e) in
          (fits_grow p h array_after array_grows (type_sort p (element_type object.class)) v o.0, o.1)

  held_other : (z : Bool × ℕ) → (z ≡ (true, k) → ⊥) → held_by filled z ≡ held_by object z
  held_other (false, j) other = refl
  held_other (true, j) other = ap refers_in (element_other object.elements k w j (λ e. other (ap (λ x. (true, x)) e)))

  not_place : (j : ℕ) → (j ≡ 2 * k + 1 → ⊥) → half j ≡ (true, k) → ⊥
  not_place j other e = elim (place_is j) [
    | inl v ↦ true≢false (sym (ap (λ z. z.0) e) ∙ v.1)
    | inr v ↦ other (v.0 ∙ ap (λ z. 2 * z.1 + 1) e)
  ]

  tree_other : (s : Sort) (j : ℕ) → (j ≡ 2 * k + 1 → ⊥) → tree_held filled s j ≡ tree_held object s j
  tree_other (Tree d x) j other = held_other (half j) (not_place j other)
  tree_other Anything j other = refl
  tree_other Wide j other = refl
  tree_other Word j other = refl
  tree_other Own j other = refl

  tree_place : (s : Sort) → is_tree_sort s ≡ true → tree_held filled s (2 * k + 1) ≡ refers w
  tree_place (Tree d x) e = ap (held_by filled) (half_odd k) ∙ ap refers_in (element_there object.elements k old w has)
  tree_place Anything e = absurd (true≢false (sym e))
  tree_place Wide e = absurd (true≢false (sym e))
  tree_place Word e = absurd (true≢false (sym e))
  tree_place Own e = absurd (true≢false (sym e))

  pub element_set : is_tree_object p (get h n) ≡ true → IsSet_at (trees p h) (trees p array_after) n (2 * k + 1) (refers w)
  element_set tree = set_at p h n object filled there refl (2 * k + 1) (refers w) (tree_place (object_sort p object.class) (ap (is_tree_object p) (sym there) ∙ tree)) (tree_other (object_sort p object.class))

  -- no tree is stored and none was there
  pub array_same : ((d : ℕ) (x : Stuff) → object_sort p object.class ≡ Tree d x → refers w ≡ refers old) → (o j : ℕ) → (trees p array_after).to o j ≡ (trees p h).to o j
  array_same same = set_same p h n object filled there refl (λ j. by (object_sort p object.class) refl j)
    where
      at_place : refers w ≡ refers old → (z : Bool × ℕ) → held_by filled z ≡ held_by object z
      at_place e (false, j) = refl
      at_place e (true, j) = elim (is_or_not j k) [
        | inl is ↦ subst (λ y. refers_in (slice_get (slice_set object.elements k w) y) ≡ refers_in (slice_get object.elements y)) (sym is)
            (ap refers_in (element_there object.elements k old w has) ∙ e ∙ sym (ap refers_in has))
        | inr other ↦ ap refers_in (element_other object.elements k w j other)
      ]

      by : (s : Sort) → object_sort p object.class ≡ s → (j : ℕ) → tree_held filled s j ≡ tree_held object s j
      by (Tree d x) is j = at_place (same d x is) (half j)
      by Anything is j = refl
      by Wide is j = refl
      by Word is j = refl
      by Own is j = refl

  pub array_has : (o : ℕ) → (trees p array_after).has o ≡ (trees p h).has o
  array_has = same_has p h n object filled there refl

-- ---- sorts of elements

not_tree_kind : (p : Program) (a : Ty) (z : Kind) → sort_by p a z ≡ Own → is_tree_kind z ≡ false
not_tree_kind p a kind.Private q = refl
not_tree_kind p a kind.Value q = absurd (cc)
not_tree_kind p a kind.Tree q = absurd (cc)

ref_sort : (p : Program) (ty : Ty) → (kind_of p ty ≡ kind.Value → ⊥) → type_sort p ty ≡ object_sort p ty
ref_sort p ty not_value = by ty.dims ty.base refl refl
  where
    of_base : (b : Base) → ty.dims ≡ 0 → ty.base ≡ b → sort_of_vtype p (base_vtype ty b) ≡ object_sort p ty
    of_base (base.Class c) no_dims is = refl
    of_base base.Bool no_dims is = absurd (not_value (plain_kind p ty base.Bool refl no_dims is))
    of_base base.Byte no_dims is = absurd (not_value (plain_kind p ty base.Byte refl no_dims is))
    of_base base.Char no_dims is = absurd (not_value (plain_kind p ty base.Char refl no_dims is))
    of_base base.Short no_dims is = absurd (not_value (plain_kind p ty base.Short refl no_dims is))
    of_base base.Int no_dims is = absurd (not_value (plain_kind p ty base.Int refl no_dims is))
    of_base base.Long no_dims is = absurd (not_value (plain_kind p ty base.Long refl no_dims is))

    by : (d : ℕ) (b : Base) → ty.dims ≡ d → ty.base ≡ b → sort_of_vtype p (dims_vtype ty d) ≡ object_sort p ty
    by zero b no_dims is = of_base ty.base no_dims refl
    by (suc d) b some_dims is = refl

element_ref : (p : Program) (d : ℕ) (b : Base) → is_array_of_references (record { dims = suc d; base = b }) ≡ true → type_sort p (record { dims = d; base = b }) ≡ object_sort p (record { dims = d; base = b })
element_ref p (suc d) b e = refl
element_ref p zero (base.Class c) e = refl
element_ref p zero base.Bool e = absurd (true≢false (sym e))
element_ref p zero base.Byte e = absurd (true≢false (sym e))
element_ref p zero base.Char e = absurd (true≢false (sym e))
element_ref p zero base.Short e = absurd (true≢false (sym e))
element_ref p zero base.Int e = absurd (true≢false (sym e))
element_ref p zero base.Long e = absurd (true≢false (sym e))

module _ (p : Program) (flow : KindsFlow p) (m : Method) (pl to : ℕ) (f f1 : Types) (g g1 : Graph) (at : ℕ → Option ℕ) (h : Objects) (ls st : List Value) (below : List Waiting) (after : Option Types)
    (s : IsStep p m pl to f f1 g g1 at h ls st below after instr.Aastore) (v : Value) (i : ℤ) (n : ℕ) (object : Object) (rest : List Value) (e : st ≡ v ∷ Int i ∷ Ref n ∷ rest) (there : get h n ≡ Some object) (k : ℕ) (old : Value)
    (has : slice_get object.elements k ≡ Some old) (class : Option Ty) (is_class : IsClass h v class) (may_cast : cast_fits p class (element_type object.class) ≡ true) where
  typed : (all_meet p (Is (object_type p) ∷ Is vtype.Int ∷ References ∷ []) f.stack ≡ true) × (f1 ≡ record f { stack = drop 3 f.stack })
  unfolding row
  typed = takes_passed p m pl (Is (object_type p) ∷ Is vtype.Int ∷ References ∷ []) [] [] f f1 s.1

  lives : (j a : ℕ) → slot g.stack j ≡ Some a → is_gone (node_at g.nodes a).standing ≡ false
  lives j a x = slot_lives g g.stack (not_true (list_any (names_gone g) g.stack) s.0.live) j a x

  abbrev after_heap : Objects
  after_heap = array_after p h n object there k old v has

  entry : Fits p h (type_sort p (element_type object.class)) old × MayHold (object_sort p object.class) (type_sort p (element_type object.class))
  entry = (s.0.holds.heap n object there).elements k old has

  rest_slots : AreSlots p m h (named_by g at) (length g.nodes) (drop 3 f.stack) (drop 3 g.stack) rest
  rest_slots = subst (λ z. AreSlots p m h (named_by g at) (length g.nodes) (drop 3 f.stack) (drop 3 g.stack) z) (ap (drop 3) e) (dropped p m h (named_by g at) (length g.nodes) 3 f.stack g.stack st s.0.holds.slots.on_stack)

  value_before : SlotFits p h (named_by g at) (length g.nodes) (sort p m (peek f.stack 0)) (slot g.stack 0) v
  value_before = slot_peeked p m h (named_by g at) (length g.nodes) f.stack g.stack st s.0.holds.slots.on_stack 0 v (ap (λ z. slice_get z 0) e)

  array : SlotFits p h (named_by g at) (length g.nodes) (sort p m (peek f.stack 2)) (slot g.stack 2) (Ref n)
  array = slot_peeked p m h (named_by g at) (length g.nodes) f.stack g.stack st s.0.holds.slots.on_stack 2 (Ref n) (ap (λ z. slice_get z 2) e)

  value_type : assignable p (peek f.stack 0) (object_type p) ≡ true
  unfolding meets
  value_type = met p (Is (object_type p) ∷ Is vtype.Int ∷ References ∷ []) f.stack 0 (Is (object_type p)) refl typed.0

  module _ (ty : Ty) (is_array : peek f.stack 2 ≡ vtype.Object ty) (refs : is_array_of_references ty ≡ true) where
    sort_is : sort p m (peek f.stack 2) ≡ object_sort p ty
    unfolding sort
    sort_is = ap (sort p m) is_array

    known : sort p m (peek f.stack 2) ≡ Anything → ⊥
    known w = not_anything p ty (kind_of p ty) (sym sort_is ∙ w)

    dims : (d : ℕ) × (ty.dims ≡ suc d)
    dims = array_dims ty refs

    refs_sort : type_sort p (element_type ty) ≡ object_sort p (element_type ty)
    refs_sort = ap (type_sort p) (minus_one ty dims.0 dims.1) ∙ element_ref p dims.0 ty.base (ap is_array_of_references (sym (dims_is ty dims.0 dims.1)) ∙ refs) ∙ ap (object_sort p) (sym (minus_one ty dims.0 dims.1))

    same_object : (z : Sort) → IsOf p h n z → object_sort p object.class ≡ z
    same_object z w = ap (λ o. object_sort p o.class) (some_same object w.0 (sym there ∙ w.1)) ∙ w.2

    -- the array: a tree, or private
    abbrev IsArray : Type 0
    IsArray = (is_tree_object p (get h n) ≡ true) ⊎ ((kind_of p (element_type ty) ≡ kind.Private) × (object_sort p object.class ≡ Own))

    which : (type_sort p (element_type object.class) ≡ object_sort p (element_type ty)) × ((is_tree_object p (get h n) ≡ true) ⊎ ((kind_of p (element_type ty) ≡ kind.Private) × (object_sort p object.class ≡ Own)))
    which = elim (of_slot p h (named_by g at) (length g.nodes) (sort p m (peek f.stack 2)) (slot g.stack 2) n array (λ a x. lives 2 a x) known) [
      | inl w ↦ (elements_same p object.class ty dims.0 w.0 w.1 dims.1 (sym sort_is ∙ w.2) (same_object (Tree w.0 w.1) w.3) ∙ refs_sort, inl (ap (is_tree_object p) there ∙ ap is_tree_sort (same_object (Tree w.0 w.1) w.3)))
      | inr w ↦
          let mine = own_elements p ty (sort_private p ty (kind_of p ty) (sym sort_is ∙ w.0)) in
          let its = own_elements p object.class (sort_private p object.class (kind_of p object.class) (same_object Own w.1)) in
          (private_sort p (element_type object.class) its ∙ sym (private_sort p (element_type ty) mine) ∙ refs_sort, inr (mine, same_object Own w.1))
    ]

    -- the value has the sort of the array's elements
    value_slot : (kind_of p (element_type ty) ≡ kind.Private → is_tree p (peek f.stack 0) ≡ false) → SlotFits p h (named_by g at) (length g.nodes) (object_sort p (element_type ty)) (slot g.stack 0) v
    value_slot six = by is_class
      where
        private_of : (z : Kind) → sort_by p (element_type object.class) z ≡ Own → z ≡ kind.Private
        private_of z q = sort_private p (element_type object.class) z q

        elem_private : (z : Kind) → (z ≡ kind.Private → ⊥) → is_private_kind z ≡ false
        elem_private kind.Value x = refl
        elem_private kind.Tree x = refl
        elem_private kind.Private x = absurd (x refl)

        by : IsClass h v class → SlotFits p h (named_by g at) (length g.nodes) (object_sort p (element_type ty)) (slot g.stack 0) v
        by (OfNone r narrow) = null_slot p h (named_by g at) (length g.nodes) (element_type ty) (sort p m (peek f.stack 0)) (slot g.stack 0) v r narrow value_before
        by (OfObject q other is there_q class_is) = choose (of_slot p h (named_by g at) (length g.nodes) (sort p m (peek f.stack 0)) (slot g.stack 0) q
            (subst (SlotFits p h (named_by g at) (length g.nodes) (sort p m (peek f.stack 0)) (slot g.stack 0)) is value_before) (λ a x. lives 0 a x) (known_of p m (peek f.stack 0) (object_type p) value_type (object_is p)))
          where
            assigns : fits_type p other.class (element_type object.class) ≡ true
            assigns = ap (λ z. cast_fits p z (element_type object.class)) (sym class_is) ∙ may_cast

            sort_of : (z : Sort) → IsOf p h q z → object_sort p other.class ≡ z
            sort_of z w = ap (λ o. object_sort p o.class) (some_same other w.0 (sym there_q ∙ w.1)) ∙ w.2

            finish : (z : Sort) → sort p m (peek f.stack 0) ≡ z → z ≡ object_sort p (element_type object.class) → (kind_of p (element_type object.class) ≡ kind.Value → ⊥) → SlotFits p h (named_by g at) (length g.nodes) (object_sort p (element_type ty)) (slot g.stack 0) v
            finish z a b c = subst (λ y. SlotFits p h (named_by g at) (length g.nodes) y (slot g.stack 0) v) (a ∙ b ∙ sym (ref_sort p (element_type object.class) c) ∙ which.0) value_before

            no_value : (z : Sort) → (z ≡ Word → ⊥) → object_sort p (element_type object.class) ≡ z → kind_of p (element_type object.class) ≡ kind.Value → ⊥
            no_value z not_word a b = not_word (sym a ∙ ap (sort_by p (element_type object.class)) b)

            tree_word : (d : ℕ) (y : Stuff) → Tree d y ≡ Word → ⊥
            tree_word d y x = cc

            own_word : Own ≡ Word → ⊥
            own_word x = cc

            not_private_elem : is_tree p (peek f.stack 0) ≡ true → kind_of p (element_type object.class) ≡ kind.Private → ⊥
            not_private_elem tree x = elim which.1 [
              | inl is_tree_array ↦ tree_holds (object_sort p object.class) (ap (is_tree_object p) (sym there) ∙ is_tree_array) (subst (MayHold (object_sort p object.class)) (private_sort p (element_type object.class) x) entry.1)
              | inr own ↦ true≢false (sym tree ∙ six own.0)
            ]
              where
                tree_holds : (z : Sort) → is_tree_sort z ≡ true → MayHold z Own → ⊥
                tree_holds (Tree d y) w c = c
                tree_holds Anything w c = true≢false (sym w)
                tree_holds Wide w c = true≢false (sym w)
                tree_holds Word w c = true≢false (sym w)
                tree_holds Own w c = true≢false (sym w)

            choose : ((d : ℕ) × (y : Stuff) × (sort p m (peek f.stack 0) ≡ Tree d y) × IsOf p h q (Tree d y)) ⊎ ((sort p m (peek f.stack 0) ≡ Own) × IsOf p h q Own) →
                SlotFits p h (named_by g at) (length g.nodes) (object_sort p (element_type ty)) (slot g.stack 0) v
            choose (inl w) =
                let tree = tree_sorted p m (peek f.stack 0) (object_type p) value_type (object_is p) w.0 w.1 w.2 in
                let no_private = elem_private (kind_of p (element_type object.class)) (not_private_elem tree) in
                let mix = and_no (is_tree p (vtype.Object other.class)) (is_private p (vtype.Object (element_type object.class))) no_private in
                let to_sort = same_sort (object_sort p other.class) (object_sort p (element_type object.class)) (flows_by p flow m other.class (element_type object.class) assigns mix) (not_anything p (element_type object.class) (kind_of p (element_type object.class)))
                (λ x. tree_word w.0 w.1 (sym (sort_of (Tree w.0 w.1) w.3) ∙ x)) in
                finish (Tree w.0 w.1) w.2 (sym (sort_of (Tree w.0 w.1) w.3) ∙ to_sort) (no_value (Tree w.0 w.1) (tree_word w.0 w.1) (sym to_sort ∙ sort_of (Tree w.0 w.1) w.3))
            choose (inr w) =
                let no_tree = not_tree_kind p other.class (kind_of p other.class) (sort_of Own w.1) in
                let to_sort = same_sort (object_sort p other.class) (object_sort p (element_type object.class)) (flows_by p flow m other.class (element_type object.class) assigns (ap (λ b. b && is_private p (vtype.Object (element_type object.class))) no_tree))
                (not_anything p (element_type object.class) (kind_of p (element_type object.class))) (λ x. own_word (sym (sort_of Own w.1) ∙ x)) in
                finish Own w.0 (sym (sort_of Own w.1) ∙ to_sort) (no_value Own own_word (sym to_sort ∙ sort_of Own w.1))

    module _ (six : kind_of p (element_type ty) ≡ kind.Private → is_tree p (peek f.stack 0) ≡ false) where
      value_fits : Fits p h (type_sort p (element_type object.class)) v
      value_fits = subst (λ z. Fits p h z v) (sym which.0) (slot_value p h (named_by g at) (length g.nodes) (object_sort p (element_type ty)) (slot g.stack 0) v (value_slot six) (λ a x. lives 0 a x))

      new_heap : HeapFits p after_heap
      new_heap = array_fits p h n object there k old v has s.0.holds.heap value_fits

      old_fits : Fits p h (object_sort p (element_type ty)) old
      old_fits = subst (λ z. Fits p h z old) which.0 entry.0

      plain_case : ((d : ℕ) (x : Stuff) → object_sort p object.class ≡ Tree d x → refers v ≡ refers old) → Left p m (record f { stack = drop 3 f.stack }) (popped 3 g) after_heap ls rest below
      plain_case same = (
        at,
        same_holds p m f g at h after_heap ls st below s.0.holds (array_grows p h n object there k old v has) new_heap (array_has p h n object there k old v has) (array_same p h n object there k old v has same)
            (drop 3 f.stack) (drop 3 g.stack) rest rest_slots,
      )

      value_case : kind_of p (element_type ty) ≡ kind.Value → Left p m (record f { stack = drop 3 f.stack }) (popped 3 g) after_heap ls rest below
      value_case kd = plain_case (λ d x o. (subst (λ z. Fits p h z v) (which.0 ∙ word) value_fits).1 ∙ sym (subst (λ z. Fits p h z old) word old_fits).1)
        where
          word : object_sort p (element_type ty) ≡ Word
          word = ap (sort_by p (element_type ty)) kd

      own_case : kind_of p (element_type ty) ≡ kind.Private → Left p m (record f { stack = drop 3 f.stack }) (popped 3 g) after_heap ls rest below
      own_case kd = plain_case (λ d x o. absurd (subst (λ z. MayHold z Own) o (subst (MayHold (object_sort p object.class)) (which.0 ∙ ap (sort_by p (element_type ty)) kd) entry.1)))

      tree_case : kind_of p (element_type ty) ≡ kind.Tree → (x y : Option ℕ) → slot g.stack 2 ≡ x → slot g.stack 0 ≡ y → (stored (popped 3 g) Element x y).not_free ≡ false → (stored (popped 3 g) Element x y).safe_changed ≡ false →
          (stored (popped 3 g) Element x y).cycle ≡ false → Left p m (record f { stack = drop 3 f.stack }) (stored (popped 3 g) Element x y).graph after_heap ls rest below
      tree_case kd = by
        where
          tree_private : kind.Tree ≡ kind.Private → ⊥
          tree_private q = cc

          is_tree_array : is_tree_object p (get h n) ≡ true
          is_tree_array = elim which.1 [ inl w ↦ w | inr w ↦ absurd (tree_private (sym kd ∙ w.0)) ]

          not_own : object_sort p object.class ≡ Own → ⊥
          not_own q = true≢false (sym is_tree_array ∙ ap (is_tree_object p) there ∙ ap is_tree_sort q)

          step : IsSet_at (trees p h) (trees p after_heap) n (2 * k + 1) (refers v)
          step = element_set p h n object there k old v has is_tree_array

          no_child : (a c : ℕ) → Rattle.kilim_isolation_rules.specs.Fields.child_by g Element a ≡ Some c → (j : ℕ) → Rattle.kilim_isolation_laws.specs.forest.Laws.IsPlace j Element → j ≡ 2 * k + 1
          no_child a c w j q = absurd (none c w)
            where
              none : (b : ℕ) → None ≡ Some b → ⊥
              none b x = cc

          by : (x y : Option ℕ) → slot g.stack 2 ≡ x → slot g.stack 0 ≡ y → (stored (popped 3 g) Element x y).not_free ≡ false → (stored (popped 3 g) Element x y).safe_changed ≡ false →
              (stored (popped 3 g) Element x y).cycle ≡ false → Left p m (record f { stack = drop 3 f.stack }) (stored (popped 3 g) Element x y).graph after_heap ls rest below
          by None y is_x is_y not_free safe cycle = absurd (not_own (null_or_own p h (sort p m (peek f.stack 2)) n object there known (subst (λ z. SlotFits p h (named_by g at) (length g.nodes) (sort p m (peek f.stack 2)) z (Ref n)) is_x array)))
          by (Some a) None is_x is_y not_free safe cycle =
              let r = subst (λ z. SlotFits p h (named_by g at) (length g.nodes) (sort p m (peek f.stack 2)) z (Ref n)) is_x array in
              let q = subst (λ z. SlotFits p h (named_by g at) (length g.nodes) z None v) (tree_of_kind (kind_of p (element_type ty)) kd) (subst (λ z. SlotFits p h (named_by g at) (length g.nodes) (object_sort p (element_type ty)) z v) is_y (value_slot six)) in
              null_stored p m f g at h after_heap ls st below s.0 Element a n (2 * k + 1) (k, refl) (no_child a) (sym r.0) (lives 2 a is_x) safe (array_grows p h n object there k old v has) new_heap
              (drop 3 f.stack) (drop 3 g.stack) rest rest_slots (subst (IsSet_at (trees p h) (trees p after_heap) n (2 * k + 1)) q.1 step)
            where
              tree_of_kind : (z : Kind) → z ≡ kind.Tree → sort_by p (element_type ty) z ≡ sort_by p (element_type ty) kind.Tree
              tree_of_kind z w = ap (sort_by p (element_type ty)) w
          by (Some a) (Some b) is_x is_y not_free safe cycle =
              let r = subst (λ z. SlotFits p h (named_by g at) (length g.nodes) (sort p m (peek f.stack 2)) z (Ref n)) is_x array in
              let q = subst (λ z. SlotFits p h (named_by g at) (length g.nodes) (object_sort p (element_type ty)) z v) is_y (value_slot six) in
              let root = not_false (is_root (node_at g.nodes b).standing) not_free in
              root_stored p m f g at h after_heap ls st below s.0 Element a n (2 * k + 1) (k, refl) (no_child a) (sym r.0) (lives 2 a is_x) safe (array_grows p h n object there k old v has) new_heap
              (drop 3 f.stack) (drop 3 g.stack) rest rest_slots b (root_is (node_at g.nodes b).standing root)
              (is_not_same (node_at g.nodes b).region (node_at g.nodes a).region (both_false (is_root (node_at g.nodes b).standing) _ root cycle))
              (subst (IsSet_at (trees p h) (trees p after_heap) n (2 * k + 1)) q.0 step)

    by_kind : (z : Kind) → kind_of p (element_type ty) ≡ z → (stores p z (peek f.stack 0) Element (slot g.stack 2) (slot g.stack 0) (popped 3 g)).not_free ≡ false →
        (stores p z (peek f.stack 0) Element (slot g.stack 2) (slot g.stack 0) (popped 3 g)).safe_changed ≡ false → (stores p z (peek f.stack 0) Element (slot g.stack 2) (slot g.stack 0) (popped 3 g)).cycle ≡ false →
        (stores p z (peek f.stack 0) Element (slot g.stack 2) (slot g.stack 0) (popped 3 g)).mixed ≡ false →
        Left p m (record f { stack = drop 3 f.stack }) (stores p z (peek f.stack 0) Element (slot g.stack 2) (slot g.stack 0) (popped 3 g)).graph after_heap ls rest below
    by_kind kind.Value kd a b c d = value_case (λ q. absurd (value_private (sym kd ∙ q))) kd
      where
        value_private : kind.Value ≡ kind.Private → ⊥
        value_private q = cc
    by_kind kind.Private kd a b c d = own_case (λ q. d) kd
    by_kind kind.Tree kd a b c d = tree_case (λ q. absurd (tree_private (sym kd ∙ q))) kd (slot g.stack 2) (slot g.stack 0) refl refl a b c
      where
        tree_private : kind.Tree ≡ kind.Private → ⊥
        tree_private q = cc

    array_left : Left p m f1 g1 after_heap ls rest below
    unfolding deed
    array_left =
        let q = moves_passed p m g f instr.Aastore after g1 s.2 in
        let kinds = λ (z : VType). stores p (element_kind p z) (peek f.stack 0) Element (slot g.stack 2) (slot g.stack 0) (popped 3 g) in
        subst (λ z. Left p m z g1 after_heap ls rest below) (sym typed.1) (subst (λ z. Left p m (record f { stack = drop 3 f.stack }) z after_heap ls rest below) (sym (q.graph ∙ ap (λ (z : VType). (stores p (element_kind p z) (peek f.stack 0) Element (slot g.stack 2) (slot g.stack 0) (popped 3 g)).graph) is_array))
        (by_kind (kind_of p (element_type ty)) refl
        (ap (λ (z : VType). (stores p (element_kind p z) (peek f.stack 0) Element (slot g.stack 2) (slot g.stack 0) (popped 3 g)).not_free) (sym is_array) ∙ q.not_free)
        (ap (λ (z : VType). (stores p (element_kind p z) (peek f.stack 0) Element (slot g.stack 2) (slot g.stack 0) (popped 3 g)).safe_changed) (sym is_array) ∙ q.safe_changed)
        (ap (λ (z : VType). (stores p (element_kind p z) (peek f.stack 0) Element (slot g.stack 2) (slot g.stack 0) (popped 3 g)).cycle) (sym is_array) ∙ q.cycle)
        (ap (λ (z : VType). (stores p (element_kind p z) (peek f.stack 0) Element (slot g.stack 2) (slot g.stack 0) (popped 3 g)).mixed) (sym is_array) ∙ q.mixed)))

  -- the array's type is null, which holds no object, or an array of references
  reference_array : (t : VType) → meets p References t ≡ true → (t ≡ vtype.Null) ⊎ ((ty : Ty) × (t ≡ vtype.Object ty) × (is_array_of_references ty ≡ true))
  unfolding meets
  reference_array vtype.Null w = inl refl
  reference_array (vtype.Object ty) w = inr (ty, refl, w)
  reference_array vtype.Top w = absurd (true≢false (sym w))
  reference_array vtype.Int w = absurd (true≢false (sym w))
  reference_array vtype.Long w = absurd (true≢false (sym w))
  reference_array vtype.UninitThis w = absurd (true≢false (sym w))
  reference_array (vtype.Uninit a) w = absurd (true≢false (sym w))

  null_array : peek f.stack 2 ≡ vtype.Null → ⊥
  unfolding sort
  null_array w = by (slot g.stack 2) (λ a x. lives 2 a x) (subst (λ z. SlotFits p h (named_by g at) (length g.nodes) z (slot g.stack 2) (Ref n)) (ap (sort p m) w) array)
    where
      by : (x : Option ℕ) → ((a : ℕ) → x ≡ Some a → is_gone (node_at g.nodes a).standing ≡ false) → SlotFits p h (named_by g at) (length g.nodes) Word x (Ref n) → ⊥
      by None l q = none_some n (sym q.1)
      by (Some a) l q = none_some n (sym (q.2 (l a refl)).1)

  pub aastore_left : Left p m f1 g1 after_heap ls rest below
  aastore_left = elim (reference_array (peek f.stack 2) (met p (Is (object_type p) ∷ Is vtype.Int ∷ References ∷ []) f.stack 2 References refl typed.0)) [
    | inl w ↦ absurd (null_array w)
    | inr w ↦ array_left w.0 w.1 w.2
  ]

pub aastore_h : (p : Program) → KindsFlow p → (m : Method) (pl to : ℕ) (f f1 : Types) (g g1 : Graph) (at : ℕ → Option ℕ) (h : Objects) (ls st : List Value) (below : List Waiting) (after : Option Types) →
    IsStep p m pl to f f1 g g1 at h ls st below after instr.Aastore → E p m pl to f f1 g g1 at h ls st below after instr.Aastore (does p m instr.Aastore to ls st h)
unfolding does ends_path jump_targets
aastore_h p flow m pl to f f1 g g1 at h ls st below after s = value_h (E p m pl to f f1 g g1 at h ls st below after instr.Aastore) tt (λ c. tt) (λ c. tt) st _ (λ v above e. on_int_h (E p m pl to f f1 g g1 at h ls st below after instr.Aastore) tt (λ c. tt) (λ c. tt) above _ (λ i under e'.
    object_h (E p m pl to f f1 g g1 at h ls st below after instr.Aastore) tt (λ c. tt) (λ c. tt) under h _ (λ n object rest e'' there. index_h (E p m pl to f f1 g g1 at h ls st below after instr.Aastore) tt (λ c. tt) (λ c. tt) object.elements i _ (λ k old has.
    class_h (E p m pl to f f1 g g1 at h ls st below after instr.Aastore) tt (λ c. tt) (λ c. tt) p v h _ (λ class is_class. cond_h (E p m pl to f f1 g g1 at h ls st below after instr.Aastore) tt (λ c. tt) (λ c. tt) (cast_fits p class (element_type object.class)) _ _ (λ c.
    (inl refl, aastore_left p flow m pl to f f1 g g1 at h ls st below after s v i n object rest (e ∙ ap (λ z. v ∷ z) (e' ∙ ap (λ z. Int i ∷ z) e'')) there k old has class is_class c)) (λ c. tt))))))
