-- putfield.
use Rattle.std.proofs.Common.{◌≡◌, ℕ, zero, suc, ◌*◌, ◌==◌, Bool, true, false, true≢false, not, ◌&&◌, cond, List, [], ◌∷◌, map, length, Option, Some, None, Ok, refl, sym, ap, subst, ◌∙◌, ◌⊎◌, inl, inr}
use Rattle.std.specs.List.{list_any}
use Rattle.std.specs.Prelude.{drop, slice_get}
use Rattle.std.specs.FinMap.{get, insert}
use Rattle.kilim_program.specs.declared.instr.Instr.TheVariants as instr
use Rattle.kilim_program.specs.declared.ty.Base.TheVariants as base
use Rattle.kilim_program.specs.declared.ty.Kind.TheVariants as kind
use Rattle.kilim_program.specs.declared.verified.VType.TheVariants as vtype
use Rattle.kilim_type_spec.specs.Step as type
use Rattle.kilim_isolation_laws.specs.forest.Relation as label
use Rattle.kilim_program.specs.declared.class.Field.{Field}
use Rattle.kilim_program.specs.declared.class.Method.{Method}
use Rattle.kilim_program.specs.declared.names.ClassId.{ClassId}
use Rattle.kilim_program.specs.declared.names.FieldId.{FieldId}
use Rattle.kilim_program.specs.declared.ty.Base.{Base}
use Rattle.kilim_program.specs.declared.ty.Kind.{Kind}
use Rattle.kilim_program.specs.declared.ty.Ty.{Ty}
use Rattle.kilim_run_state.specs.declared.value.Object.{Object}
use Rattle.kilim_program.specs.declared.value.Value.{Value}
use Rattle.kilim_program.specs.declared.value.Value.TheVariants.{Int, Long, Null, Ref, Text, Box, Fiber}
use Rattle.kilim_program.specs.declared.verified.VType.{VType}
use Rattle.kilim_program.specs.Program.{Program}
use Rattle.kilim_program.specs.BuiltIn.{class_type}
use Rattle.kilim_program.specs.Kinds.{kind_of, is_private_kind}
use Rattle.kilim_program.specs.Names.{field_of}
use Rattle.kilim_run_state.specs.Machine.{Objects}
use Rattle.kilim_program.specs.Same.{is_constructor}
use Rattle.kilim_program.specs.Lengths.{jump_targets, ends_path}
use Rattle.kilim_run_machine.specs.Effect.{is_wide}
use Rattle.kilim_run_machine.specs.Does.{does, with_field, narrowed_to}
use Rattle.kilim_run_state.specs.Shapes.{field_in}
use Rattle.kilim_type_spec.specs.Step.{Types, peek, assignable, Operand, Is, Own as OwnOperand, meets, class_vtype, holder, by_row, field_row, dims_vtype, base_vtype, row, type_step}
use Rattle.kilim_isolation_laws.specs.forest.Heap.{IsSet_at}
use Rattle.kilim_isolation_laws.specs.forest.Relation.{Standing, Root, Inner, Safe, Gone, is_gone, is_safe, Label, Node, Named, Frames}
use Rattle.kilim_isolation_laws.specs.forest.Canonical.{node_at}
use Rattle.kilim_isolation_laws.proofs.forest.Store.{is_not_same}
use Rattle.kilim_isolation_graph.specs.declared.graph.Graph.{Graph}
use Rattle.kilim_isolation_graph.specs.Graphs.{slot, popped}
use Rattle.kilim_isolation_rules.specs.Rules.{deed}
use Rattle.kilim_isolation_rules.specs.Marks.{mixes, is_tree, is_private, names_gone}
use Rattle.kilim_isolation_graph.specs.Nodes.{is_root}
use Rattle.kilim_isolation_rules.specs.Fields.{stored, stores, puts_field}
use Rattle.kilim_isolation_laws.specs.graph_rows.Holds.{Sort, Anything, Wide, Word, Own, Tree, sort, object_sort, type_sort, sort_of_vtype, field_sort, field_sort_of, Fits, unnamed, named_sort, refers, refers_in, SlotFits, AreSlots, SlotsFit, named_by, value_at, Waiting, waiting_named, Holds, Stands, HeapFits, ObjectFits, trees, IsOf, MayHold, held_by, tree_held, half, field_id, KindsFlow, FlowsTo}
use Rattle.kilim_isolation_laws.specs.graph_rows.Outcome.{Left}
use Rattle.kilim_isolation_laws.proofs.graph_rows.Settle.{not_true, flow_slot}
use Rattle.kilim_isolation_laws.proofs.graph_rows.Heaps.{Grows, fits_grow, slot_grows, half_even, place_is, field_there, field_other, set_grows, set_fits, set_at, set_same, same_has, same_more, same_forest, more_frames, is_or_not}
use Rattle.kilim_isolation_laws.proofs.graph_rows.Passed.{takes_passed, moves_passed}
use Rattle.kilim_isolation_laws.proofs.graph_rows.Words.{some_h, value_h, object_h}
use Rattle.kilim_isolation_laws.proofs.graph_rows.Plain.{IsStep, E, dropped}
use Rattle.kilim_isolation_laws.proofs.graph_rows.Added.{slots_grow}
use Rattle.kilim_isolation_laws.proofs.graph_rows.Fields.{slot_sort, private_sort, no_tree_sort, tree_sort, null_or_own, tree_not_own}
use Rattle.kilim_isolation_laws.proofs.graph_rows.Reading.{slot_peeked, slot_lives, met, object_known, not_anything, tree_here}
use Rattle.kilim_isolation_laws.proofs.graph_rows.Storing.{waits_grow, null_stored, root_stored}

-- ---- a value of a slot

pub none_some : (o : ℕ) → None ≡ Some o → ⊥
none_some o e = cc

pub slot_value : (p : Program) (h : Objects) (u : Named) (count : ℕ) (s : Sort) (x : Option ℕ) (v : Value) → SlotFits p h u count s x v → ((n : ℕ) → x ≡ Some n → is_gone (u.node n).standing ≡ false) → Fits p h s v
slot_value p h u count Anything None v f live = tt
slot_value p h u count Wide None v f live = f
slot_value p h u count Word None v f live = f
slot_value p h u count Own None v f live = f
slot_value p h u count (Tree d x) None v f live = (f.0, λ o e. absurd (none_some o (sym f.1 ∙ e)))
slot_value p h u count Anything (Some n) v f live = tt
slot_value p h u count Wide (Some n) v f live = f.2 (live n refl)
slot_value p h u count Word (Some n) v f live = f.2 (live n refl)
slot_value p h u count Own (Some n) v f live =
    let w = f.2 (live n refl) in
    (w.0, λ o e. absurd (none_some o (sym w.1 ∙ e)))
slot_value p h u count (Tree d x) (Some n) v f live = f.2 (live n refl)

-- narrowing changes no reference
narrowed_same : (ty : Ty) (v : Value) → (refers (narrowed_to ty v) ≡ refers v) × (is_wide (narrowed_to ty v) ≡ is_wide v)
narrowed_same ty (Int x) = (refl, refl)
narrowed_same ty (Long x) = (refl, refl)
narrowed_same ty Null = (refl, refl)
narrowed_same ty (Ref n) = (refl, refl)
narrowed_same ty (Text units) = (refl, refl)
narrowed_same ty (Box box) = (refl, refl)
narrowed_same ty Fiber = (refl, refl)

fits_like : (p : Program) (h : Objects) (s : Sort) (v w : Value) → refers w ≡ refers v → is_wide w ≡ is_wide v → Fits p h s v → Fits p h s w
fits_like p h Anything v w r i f = tt
fits_like p h Wide v w r i f = i ∙ f
fits_like p h Word v w r i f = (i ∙ f.0, r ∙ f.1)
fits_like p h Own v w r i f = (i ∙ f.0, λ o e. f.1 o (sym r ∙ e))
fits_like p h (Tree d x) v w r i f = (i ∙ f.0, λ o e. f.1 o (sym r ∙ e))

-- a type that isn't private
not_private : (p : Program) (ty : Ty) (k : Kind) → kind_of p ty ≡ k → is_private_kind k ≡ false → is_private p (type.vtype ty) ≡ false
not_private p ty k e no_it = by ty.dims
  where
    of_base : (b : Base) → is_private p (base_vtype ty b) ≡ false
    of_base base.Bool = refl
    of_base base.Byte = refl
    of_base base.Char = refl
    of_base base.Short = refl
    of_base base.Int = refl
    of_base base.Long = refl
    of_base (base.Class c) = ap is_private_kind e ∙ no_it

    by : (d : ℕ) → is_private p (dims_vtype ty d) ≡ false
    by zero = of_base ty.base
    by (suc d) = ap is_private_kind e ∙ no_it

and_false : (a b : Bool) → b ≡ false → (a && b) ≡ false
and_false true b e = e
and_false false b e = refl

no_mix : (p : Program) (ty : Ty) (t : VType) (k : Kind) → kind_of p ty ≡ k → is_private_kind k ≡ false ⊎ (is_tree p t ≡ false) → mixes p t (type.vtype ty) ≡ false
no_mix p ty t k e (inl no_it) = and_false (is_tree p t) (is_private p (type.vtype ty)) (not_private p ty k e no_it)
no_mix p ty t k e (inr no_tree) = ap (λ b. b && is_private p (type.vtype ty)) no_tree

-- the receiver's sort is known
holder_known : (p : Program) (m : Method) (c : ClassId) (t : VType) → meets p (holder m c) t ≡ true → sort p m t ≡ Anything → ⊥
unfolding meets sort
holder_known p m c t e = by (is_constructor m && c.0 == m.owner.0) e
  where
    own : (y : VType) → meets p (OwnOperand c) y ≡ true → sort p m y ≡ Anything → ⊥
    own vtype.UninitThis w = not_anything p (class_type m.owner.0) (kind_of p (class_type m.owner.0))
    own vtype.Top w = object_known p m (class_type c.0) vtype.Top w
    own vtype.Int w = object_known p m (class_type c.0) vtype.Int w
    own vtype.Long w = object_known p m (class_type c.0) vtype.Long w
    own vtype.Null w = object_known p m (class_type c.0) vtype.Null w
    own (vtype.Uninit at) w = object_known p m (class_type c.0) (vtype.Uninit at) w
    own (vtype.Object ty) w = object_known p m (class_type c.0) (vtype.Object ty) w

    by : (b : Bool) → meets p (cond b (OwnOperand c) (Is (class_vtype c))) t ≡ true → sort p m t ≡ Anything → ⊥
    by true w = own t w
    by false w = object_known p m (class_type c.0) t w

-- ---- the object after the store

module _ (p : Program) (h : Objects) (n : ℕ) (object : Object) (there : get h n ≡ Some object) (i : FieldId) (old w : Value) (has : field_in object.fields i ≡ Some old) where
  abbrev pub written : Object
  written = record object { fields = with_field object.fields i w }

  abbrev pub heap_after : Objects
  heap_after = insert h n (record object { fields = with_field object.fields i w })

  pub grows : Grows p h heap_after
  grows = set_grows p h n object written there refl

  pub heap_fits : HeapFits p h → Fits p h (field_sort p i) w → HeapFits p heap_after
  heap_fits hf fits = set_fits p h n object written there refl hf (record {
    fields = λ k v e. by k v (is_or_not k.0 i.0) e;
    elements = λ k v e. (fits_grow p h heap_after grows _ v ((hf n object there).elements k v e).0, ((hf n object there).elements k v e).1);
  })
    where
      some_value : (a b : Value) → Some a ≡ Some b → a ≡ b
      some_value a b e = cc

      by : (k : FieldId) (v : Value) → (k.0 ≡ i.0) ⊎ (k.0 ≡ i.0 → ⊥) → field_in (with_field object.fields i w) k ≡ Some v → Fits p heap_after (field_sort p k) v × MayHold (object_sort p object.class) (field_sort p k)
      by k v (inl is) e = subst (λ z. Fits p heap_after (field_sort p z) v × MayHold (object_sort p object.class) (field_sort p z)) (sym (ap field_id is))
          (subst (λ z. Fits p heap_after (field_sort p i) z × MayHold (object_sort p object.class) (field_sort p i)) (some_value w v (sym (field_there object.fields i old w has) ∙ ap (λ z. field_in (with_field object.fields i w) (field_id z)) (sym is) ∙ e))
          (fits_grow p h heap_after grows (field_sort p i) w fits, ((hf n object there).fields i old has).1))
      by k v (inr other) e =
          let o = (hf n object there).fields k v (sym (field_other object.fields i w k other) ∙ e) in
          (fits_grow p h heap_after grows (field_sort p k) v o.0, o.1)

  held_other : (z : Bool × ℕ) → (z ≡ (false, i.0) → ⊥) → held_by written z ≡ held_by object z
  held_other (true, k) other = refl
  held_other (false, k) other = ap refers_in (field_other object.fields i w (field_id k) (λ e. other (ap (λ x. (false, x)) e)))

  held_here : held_by written (false, i.0) ≡ refers w
  held_here = ap refers_in (field_there object.fields i old w has)

  not_place : (j : ℕ) → (j ≡ 2 * i.0 → ⊥) → half j ≡ (false, i.0) → ⊥
  not_place j other e = elim (place_is j) [
    | inl v ↦ other (v.0 ∙ ap (λ z. 2 * z.1) e)
    | inr v ↦ true≢false (sym v.1 ∙ ap (λ z. z.0) e)
  ]

  tree_other : (s : Sort) (j : ℕ) → (j ≡ 2 * i.0 → ⊥) → tree_held written s j ≡ tree_held object s j
  tree_other (Tree d x) j other = held_other (half j) (not_place j other)
  tree_other Anything j other = refl
  tree_other Wide j other = refl
  tree_other Word j other = refl
  tree_other Own j other = refl

  tree_place : (s : Sort) → Rattle.kilim_isolation_laws.specs.graph_rows.Holds.is_tree_sort s ≡ true → tree_held written s (2 * i.0) ≡ refers w
  tree_place (Tree d x) e = ap (held_by written) (half_even i.0) ∙ held_here
  tree_place Anything e = absurd (true≢false (sym e))
  tree_place Wide e = absurd (true≢false (sym e))
  tree_place Word e = absurd (true≢false (sym e))
  tree_place Own e = absurd (true≢false (sym e))

  pub field_set : Rattle.kilim_isolation_laws.specs.graph_rows.Holds.is_tree_object p (get h n) ≡ true → IsSet_at (trees p h) (trees p heap_after) n (2 * i.0) (refers w)
  field_set tree = set_at p h n object written there refl (2 * i.0) (refers w) (tree_place (object_sort p object.class) (ap (Rattle.kilim_isolation_laws.specs.graph_rows.Holds.is_tree_object p) (sym there) ∙ tree)) (tree_other (object_sort p object.class))

  -- no tree is stored and none was there
  pub same_trees : ((d : ℕ) (x : Rattle.kilim_isolation_laws.specs.graph_rows.Holds.Stuff) → object_sort p object.class ≡ Tree d x → refers w ≡ refers old) → (o j : ℕ) → (trees p heap_after).to o j ≡ (trees p h).to o j
  same_trees same = set_same p h n object written there refl (λ j. by (object_sort p object.class) refl j)
    where
      at_place : (j : ℕ) → refers w ≡ refers old → (z : Bool × ℕ) → held_by written z ≡ held_by object z
      at_place j e (true, k) = refl
      at_place j e (false, k) = elim (is_or_not k i.0) [
        | inl is ↦ subst (λ y. refers_in (field_in (with_field object.fields i w) (field_id y)) ≡ refers_in (field_in object.fields (field_id y))) (sym is)
            (ap refers_in (field_there object.fields i old w has) ∙ e ∙ sym (ap refers_in has))
        | inr other ↦ ap refers_in (field_other object.fields i w (field_id k) other)
      ]

      by : (s : Sort) → object_sort p object.class ≡ s → (j : ℕ) → tree_held written s j ≡ tree_held object s j
      by (Tree d x) is j = at_place j (same d x is) (half j)
      by Anything is j = refl
      by Wide is j = refl
      by Word is j = refl
      by Own is j = refl

-- a step that changes no tree, and no node
pub same_holds : (p : Program) (m : Method) (f : Types) (g : Graph) (at : ℕ → Option ℕ) (h h' : Objects) (ls st : List Value) (below : List Waiting) → Holds p m f g at h ls st below → Grows p h h' → HeapFits p h' →
    ((o : ℕ) → (trees p h').has o ≡ (trees p h).has o) → ((o j : ℕ) → (trees p h').to o j ≡ (trees p h).to o j) → (ts : List VType) (xs : List (Option ℕ)) (rest : List Value) →
    AreSlots p m h (named_by g at) (length g.nodes) ts xs rest → Holds p m (record f { stack = ts }) (record g { stack = xs }) at h' ls rest below
same_holds p m f g at h h' ls st below hd gr hf has to ts xs rest s = record {
  heap = hf;
  forest = same_forest (trees p h) (trees p h') hd.forest has to;
  frames = more_frames (trees p h) (trees p h') hd.forest (same_more (trees p h) (trees p h') hd.forest has to) (named_by g at) (map waiting_named below) hd.frames;
  tidy = hd.tidy;
  slots = record {
    on_stack = slots_grow p m h h' gr (named_by g at) (named_by g at) (length g.nodes) (length g.nodes) (λ k lt. refl) (λ k lt. lt) (λ k lt live. live) ts xs rest s;
    in_locals = λ k. slot_grows p h h' gr (named_by g at) (named_by g at) (length g.nodes) (length g.nodes) (λ j lt. refl) (λ j lt. lt) (λ j lt live. live) (sort p m (peek f.locals k)) (slot g.locals k) (value_at ls k) (hd.slots.in_locals k);
  };
  waits = waits_grow p h h' gr below hd.waits;
}

pub root_is : (s : Standing) → is_root s ≡ true → s ≡ Root
root_is Root e = refl
root_is Inner e = absurd (true≢false (sym e))
root_is Safe e = absurd (true≢false (sym e))
root_is Gone e = absurd (true≢false (sym e))

pub not_false : (b : Bool) → not b ≡ false → b ≡ true
not_false true e = refl
not_false false e = absurd (true≢false e)

pub both_false : (a b : Bool) → a ≡ true → (a && b) ≡ false → b ≡ false
both_false true b e w = w
both_false false b e w = absurd (true≢false (sym e))

value_none : (p : Program) (h : Objects) (s : Sort) (v : Value) → Fits p h s v → unnamed s ≡ s → (s ≡ Own → ⊥) → (s ≡ Anything → ⊥) → refers v ≡ None
value_none p h Anything v f e own any = absurd (any refl)
value_none p h Own v f e own any = absurd (own refl)
value_none p h Word v f e own any = f.1
value_none p h (Tree d x) v f e own any = absurd (tree_word e)
  where
    tree_word : Word ≡ Tree d x → ⊥
    tree_word w = cc
value_none p h Wide (Long x) f e own any = refl
value_none p h Wide (Int x) f e own any = refl
value_none p h Wide Null f e own any = refl
value_none p h Wide (Ref n) f e own any = absurd (true≢false (sym f))
value_none p h Wide (Text units) f e own any = refl
value_none p h Wide (Box box) f e own any = refl
value_none p h Wide Fiber f e own any = refl

-- the sort of a type is never Anything; a value type's isn't Own
type_known : (p : Program) (ty : Ty) → type_sort p ty ≡ Anything → ⊥
type_known p ty = by ty.dims
  where
    of_base : (b : Base) → sort_of_vtype p (base_vtype ty b) ≡ Anything → ⊥
    of_base base.Bool e = cc
    of_base base.Byte e = cc
    of_base base.Char e = cc
    of_base base.Short e = cc
    of_base base.Int e = cc
    of_base base.Long e = cc
    of_base (base.Class c) e = not_anything p ty (kind_of p ty) e

    by : (d : ℕ) → sort_of_vtype p (dims_vtype ty d) ≡ Anything → ⊥
    by zero e = of_base ty.base e
    by (suc d) e = not_anything p ty (kind_of p ty) e

value_not_own : (p : Program) (ty : Ty) → kind_of p ty ≡ kind.Value → type_sort p ty ≡ Own → ⊥
value_not_own p ty kd = by ty.dims
  where
    of_kind : (k : Kind) → k ≡ kind.Value → Rattle.kilim_isolation_laws.specs.graph_rows.Holds.sort_by p ty k ≡ Own → ⊥
    of_kind kind.Value e w = cc
    of_kind kind.Tree e w = cc
    of_kind kind.Private e w = cc

    of_base : (b : Base) → sort_of_vtype p (base_vtype ty b) ≡ Own → ⊥
    of_base base.Bool e = cc
    of_base base.Byte e = cc
    of_base base.Char e = cc
    of_base base.Short e = cc
    of_base base.Int e = cc
    of_base base.Long e = cc
    of_base (base.Class c) e = of_kind (kind_of p ty) kd e

    by : (d : ℕ) → sort_of_vtype p (dims_vtype ty d) ≡ Own → ⊥
    by zero e = of_base ty.base e
    by (suc d) e = of_kind (kind_of p ty) kd e

module _ (p : Program) (flow : KindsFlow p) (m : Method) (pl to : ℕ) (f f1 : Types) (g g1 : Graph) (at : ℕ → Option ℕ) (h : Objects) (ls st : List Value) (below : List Waiting) (after : Option Types) where
  module _ (i : FieldId) (s : IsStep p m pl to f f1 g g1 at h ls st below after (instr.Putfield i)) (v : Value) (n : ℕ) (object : Object) (rest : List Value) (e : st ≡ v ∷ Ref n ∷ rest) (there : get h n ≡ Some object) (old : Value)
      (has : field_in object.fields i ≡ Some old) (field : Field) (is : field_of p i ≡ Some field) (fits_type : assignable p (peek f.stack 0) (type.vtype field.ty) ≡ true)
      (known : sort p m (peek f.stack 1) ≡ Anything → ⊥) where
    abbrev w : Value
    w = narrowed_to field.ty v

    abbrev after_heap : Objects
    after_heap = heap_after p h n object there i old (narrowed_to field.ty v) has

    field_is : field_sort p i ≡ type_sort p field.ty
    field_is = ap (field_sort_of p) is

    holder_may : MayHold (object_sort p object.class) (type_sort p field.ty)
    holder_may = subst (MayHold (object_sort p object.class)) field_is ((s.0.holds.heap n object there).fields i old has).1

    old_fits : Fits p h (type_sort p field.ty) old
    old_fits = subst (λ z. Fits p h z old) field_is ((s.0.holds.heap n object there).fields i old has).0

    rest_slots : AreSlots p m h (named_by g at) (length g.nodes) (drop 2 f.stack) (drop 2 g.stack) rest
    rest_slots = subst (λ z. AreSlots p m h (named_by g at) (length g.nodes) (drop 2 f.stack) (drop 2 g.stack) z) (ap (drop 2) e) (dropped p m h (named_by g at) (length g.nodes) 2 f.stack g.stack st s.0.holds.slots.on_stack)

    lives : (k a : ℕ) → slot g.stack k ≡ Some a → is_gone (node_at g.nodes a).standing ≡ false
    lives k a x = slot_lives g g.stack (not_true (list_any (names_gone g) g.stack) s.0.live) k a x

    -- the value, as one of the field's type
    value_slot : mixes p (peek f.stack 0) (type.vtype field.ty) ≡ false → SlotFits p h (named_by g at) (length g.nodes) (type_sort p field.ty) (slot g.stack 0) v
    value_slot mix = subst (λ z. SlotFits p h (named_by g at) (length g.nodes) z (slot g.stack 0) v) (slot_sort p m field.ty)
        (flow_slot p h (named_by g at) (length g.nodes) (sort p m (peek f.stack 0)) (sort p m (type.vtype field.ty)) (flow m (peek f.stack 0) (type.vtype field.ty) fits_type mix) (slot g.stack 0) v
        (slot_peeked p m h (named_by g at) (length g.nodes) f.stack g.stack st s.0.holds.slots.on_stack 0 v (ap (λ z. slice_get z 0) e)))

    value_fits : mixes p (peek f.stack 0) (type.vtype field.ty) ≡ false → Fits p h (type_sort p field.ty) (narrowed_to field.ty v)
    value_fits mix = fits_like p h (type_sort p field.ty) v (narrowed_to field.ty v) (narrowed_same field.ty v).0 (narrowed_same field.ty v).1
        (slot_value p h (named_by g at) (length g.nodes) (type_sort p field.ty) (slot g.stack 0) v (value_slot mix) (λ a x. lives 0 a x))

    new_heap : mixes p (peek f.stack 0) (type.vtype field.ty) ≡ false → HeapFits p after_heap
    new_heap mix = heap_fits p h n object there i old (narrowed_to field.ty v) has s.0.holds.heap (subst (λ z. Fits p h z (narrowed_to field.ty v)) (sym field_is) (value_fits mix))

    -- no tree is stored
    plain_case : mixes p (peek f.stack 0) (type.vtype field.ty) ≡ false → ((d : ℕ) (x : Rattle.kilim_isolation_laws.specs.graph_rows.Holds.Stuff) → object_sort p object.class ≡ Tree d x → refers (narrowed_to field.ty v) ≡ refers old) →
        Left p m (record f { stack = drop 2 f.stack }) (popped 2 g) after_heap ls rest below
    plain_case mix same = (
      at,
      same_holds p m f g at h after_heap ls st below s.0.holds (grows p h n object there i old (narrowed_to field.ty v) has) (new_heap mix)
          (same_has p h n object (written p h n object there i old (narrowed_to field.ty v) has) there refl) (same_trees p h n object there i old (narrowed_to field.ty v) has same)
          (drop 2 f.stack) (drop 2 g.stack) rest rest_slots,
    )

    value_case : kind_of p field.ty ≡ kind.Value → Left p m (record f { stack = drop 2 f.stack }) (popped 2 g) after_heap ls rest below
    value_case kd =
        let mix = no_mix p field.ty (peek f.stack 0) kind.Value kd (inl refl) in
        let un = no_tree_sort p field.ty kind.Value kd (λ x. cc) in
        plain_case mix (λ d x o. value_none p h (type_sort p field.ty) (narrowed_to field.ty v) (value_fits mix) un (value_not_own p field.ty kd) (type_known p field.ty)
        ∙ sym (value_none p h (type_sort p field.ty) old old_fits un (value_not_own p field.ty kd) (type_known p field.ty)))

    -- no private value is stored into a tree
    own_case : kind_of p field.ty ≡ kind.Private → is_tree p (peek f.stack 0) ≡ false → Left p m (record f { stack = drop 2 f.stack }) (popped 2 g) after_heap ls rest below
    own_case kd no_tree =
        let mix = no_mix p field.ty (peek f.stack 0) kind.Private kd (inr no_tree) in
        plain_case mix (λ d x o. absurd (subst (λ z. MayHold z Own) o (subst (MayHold (object_sort p object.class)) (private_sort p field.ty kd) holder_may)))

    store_step : Rattle.kilim_isolation_laws.specs.graph_rows.Holds.is_tree_object p (get h n) ≡ true → IsSet_at (trees p h) (trees p after_heap) n (2 * i.0) (refers (narrowed_to field.ty v))
    store_step tree = field_set p h n object there i old (narrowed_to field.ty v) has tree

    tree_case : kind_of p field.ty ≡ kind.Tree → (x y : Option ℕ) → slot g.stack 1 ≡ x → slot g.stack 0 ≡ y → (stored (popped 2 g) (label.Field i) x y).not_free ≡ false → (stored (popped 2 g) (label.Field i) x y).safe_changed ≡ false →
        (stored (popped 2 g) (label.Field i) x y).cycle ≡ false → Left p m (record f { stack = drop 2 f.stack }) (stored (popped 2 g) (label.Field i) x y).graph after_heap ls rest below
    tree_case kd x y is_x is_y = by x y is_x is_y
      where
        mix : mixes p (peek f.stack 0) (type.vtype field.ty) ≡ false
        mix = no_mix p field.ty (peek f.stack 0) kind.Tree kd (inl refl)

        t : (d : ℕ) × (z : Rattle.kilim_isolation_laws.specs.graph_rows.Holds.Stuff) × (type_sort p field.ty ≡ Tree d z)
        t = tree_sort p field.ty kd

        no_own : object_sort p object.class ≡ Own → ⊥
        no_own own = tree_not_own 0 p (object_sort p object.class) (type_sort p field.ty) holder_may own t.0 t.1 t.2

        receiver : SlotFits p h (named_by g at) (length g.nodes) (sort p m (peek f.stack 1)) (slot g.stack 1) (Ref n)
        receiver = slot_peeked p m h (named_by g at) (length g.nodes) f.stack g.stack st s.0.holds.slots.on_stack 1 (Ref n) (ap (λ z. slice_get z 1) e)

        tree : Rattle.kilim_isolation_laws.specs.graph_rows.Holds.is_tree_object p (get h n) ≡ true
        tree = tree_here p m pl to f f1 g g1 at h ls st below after s.0 1 n object (ap (λ z. slice_get z 1) e) there known no_own

        value_is : SlotFits p h (named_by g at) (length g.nodes) (type_sort p field.ty) (slot g.stack 0) v
        value_is = value_slot mix

        by : (x y : Option ℕ) → slot g.stack 1 ≡ x → slot g.stack 0 ≡ y → (stored (popped 2 g) (label.Field i) x y).not_free ≡ false → (stored (popped 2 g) (label.Field i) x y).safe_changed ≡ false →
            (stored (popped 2 g) (label.Field i) x y).cycle ≡ false → Left p m (record f { stack = drop 2 f.stack }) (stored (popped 2 g) (label.Field i) x y).graph after_heap ls rest below
        by None y is_x is_y not_free safe cycle = absurd (no_own (null_or_own p h (sort p m (peek f.stack 1)) n object there known (subst (λ z. SlotFits p h (named_by g at) (length g.nodes) (sort p m (peek f.stack 1)) z (Ref n)) is_x receiver)))
        by (Some a) None is_x is_y not_free safe cycle =
            let r = subst (λ z. SlotFits p h (named_by g at) (length g.nodes) (sort p m (peek f.stack 1)) z (Ref n)) is_x receiver in
            let q = subst (λ z. SlotFits p h (named_by g at) (length g.nodes) z None v) t.2 (subst (λ z. SlotFits p h (named_by g at) (length g.nodes) (type_sort p field.ty) z v) is_y value_is) in
            null_stored p m f g at h after_heap ls st below s.0 (label.Field i) a n (2 * i.0) refl (λ c x j w. w) (sym r.0) (lives 1 a is_x) safe (grows p h n object there i old (narrowed_to field.ty v) has) (new_heap mix)
            (drop 2 f.stack) (drop 2 g.stack) rest rest_slots (subst (IsSet_at (trees p h) (trees p after_heap) n (2 * i.0)) ((narrowed_same field.ty v).0 ∙ q.1) (store_step tree))
        by (Some a) (Some b) is_x is_y not_free safe cycle =
            let r = subst (λ z. SlotFits p h (named_by g at) (length g.nodes) (sort p m (peek f.stack 1)) z (Ref n)) is_x receiver in
            let q = subst (λ z. SlotFits p h (named_by g at) (length g.nodes) (type_sort p field.ty) z v) is_y value_is in
            let root = not_false (is_root (node_at g.nodes b).standing) not_free in
            root_stored p m f g at h after_heap ls st below s.0 (label.Field i) a n (2 * i.0) refl (λ c x j w. w) (sym r.0) (lives 1 a is_x) safe (grows p h n object there i old (narrowed_to field.ty v) has) (new_heap mix)
            (drop 2 f.stack) (drop 2 g.stack) rest rest_slots b (root_is (node_at g.nodes b).standing root)
            (is_not_same (node_at g.nodes b).region (node_at g.nodes a).region (both_false (is_root (node_at g.nodes b).standing) _ root cycle))
            (subst (IsSet_at (trees p h) (trees p after_heap) n (2 * i.0)) ((narrowed_same field.ty v).0 ∙ q.0) (store_step tree))

    by_kind : (k : Kind) → kind_of p field.ty ≡ k → (stores p k (peek f.stack 0) (label.Field i) (slot g.stack 1) (slot g.stack 0) (popped 2 g)).not_free ≡ false →
        (stores p k (peek f.stack 0) (label.Field i) (slot g.stack 1) (slot g.stack 0) (popped 2 g)).safe_changed ≡ false →
        (stores p k (peek f.stack 0) (label.Field i) (slot g.stack 1) (slot g.stack 0) (popped 2 g)).cycle ≡ false →
        (stores p k (peek f.stack 0) (label.Field i) (slot g.stack 1) (slot g.stack 0) (popped 2 g)).mixed ≡ false →
        Left p m (record f { stack = drop 2 f.stack }) (stores p k (peek f.stack 0) (label.Field i) (slot g.stack 1) (slot g.stack 0) (popped 2 g)).graph after_heap ls rest below
    by_kind kind.Value kd not_free safe cycle mixed = value_case kd
    by_kind kind.Private kd not_free safe cycle mixed = own_case kd mixed
    by_kind kind.Tree kd not_free safe cycle mixed = tree_case kd (slot g.stack 1) (slot g.stack 0) refl refl not_free safe cycle

  putfield_left : (i : FieldId) (s : IsStep p m pl to f f1 g g1 at h ls st below after (instr.Putfield i)) (v : Value) (n : ℕ) (object : Object) (rest : List Value) → st ≡ v ∷ Ref n ∷ rest → get h n ≡ Some object → (old : Value) →
      field_in object.fields i ≡ Some old → (field : Field) → field_of p i ≡ Some field → Left p m f1 g1 (insert h n (record object { fields = with_field object.fields i (narrowed_to field.ty v) })) ls rest below
  unfolding row deed meets
  putfield_left i s v n object rest e there old has field is =
      let t = takes_passed p m pl (Is (type.vtype field.ty) ∷ holder m field.owner ∷ []) [] (type.needs 8 (not field.is_static && type.may_name m field.is_private field.owner) ∷ []) f f1
      (subst (λ z. by_row p m pl (field_row (instr.Putfield i) m z) f ≡ Ok f1) is s.1) in
      let q = moves_passed p m g f (instr.Putfield i) after g1 s.2 in
      let graph = q.graph ∙ ap (λ z. (puts_field p g f.stack i z).graph) is in
      subst (λ z. Left p m z g1 (insert h n (record object { fields = with_field object.fields i (narrowed_to field.ty v) })) ls rest below) (sym t.1)
      (subst (λ z. Left p m (record f { stack = drop 2 f.stack }) z (insert h n (record object { fields = with_field object.fields i (narrowed_to field.ty v) })) ls rest below) (sym graph)
      (by_kind i s v n object rest e there old has field is (met p (Is (type.vtype field.ty) ∷ holder m field.owner ∷ []) f.stack 0 (Is (type.vtype field.ty)) refl t.0)
      (holder_known p m field.owner (peek f.stack 1) (met p (Is (type.vtype field.ty) ∷ holder m field.owner ∷ []) f.stack 1 (holder m field.owner) refl t.0)) (kind_of p field.ty) refl
      (ap (λ z. (puts_field p g f.stack i z).not_free) (sym is) ∙ q.not_free) (ap (λ z. (puts_field p g f.stack i z).safe_changed) (sym is) ∙ q.safe_changed)
      (ap (λ z. (puts_field p g f.stack i z).cycle) (sym is) ∙ q.cycle) (ap (λ z. (puts_field p g f.stack i z).mixed) (sym is) ∙ q.mixed)))

  pub putfield_h : (i : FieldId) → IsStep p m pl to f f1 g g1 at h ls st below after (instr.Putfield i) → E p m pl to f f1 g g1 at h ls st below after (instr.Putfield i) (does p m (instr.Putfield i) to ls st h)
  unfolding does ends_path jump_targets
  putfield_h i s = value_h (E p m pl to f f1 g g1 at h ls st below after (instr.Putfield i)) tt (λ c. tt) (λ c. tt) st _ (λ v under e. object_h (E p m pl to f f1 g g1 at h ls st below after (instr.Putfield i)) tt (λ c. tt) (λ c. tt) under h _ (λ n object rest e' there.
      some_h (E p m pl to f f1 g g1 at h ls st below after (instr.Putfield i)) tt (λ c. tt) (λ c. tt) (field_of p i) _ (λ field is. some_h (E p m pl to f f1 g g1 at h ls st below after (instr.Putfield i)) tt (λ c. tt) (λ c. tt) (field_in object.fields i) _ (λ old has.
      (inl refl, putfield_left i s v n object rest (e ∙ ap (λ z. v ∷ z) e') there old has field is)))))
