-- New objects.
use Rattle.std.proofs.Common.{◌≡◌, ℕ, zero, suc, ◌==◌, Bool, true, false, true≢false, not, ◌||◌, cond, List, [], ◌∷◌, map, length, Option, Some, None, refl, sym, ap, subst, ◌∙◌, ◌⊎◌, inl, inr, arith}
use Rattle.std.specs.List.{list_any}
use Rattle.std.specs.Prelude.{slice_get, codes}
use Rattle.std.specs.Str.{bytes_eq}
use Rattle.std.specs.FinMap.{get, insert}
use Rattle.kilim_program.specs.declared.instr.Instr.TheVariants as instr
use Rattle.kilim_program.specs.declared.ty.Base.TheVariants as base
use Rattle.kilim_program.specs.declared.ty.Kind.TheVariants as kind
use Rattle.kilim_program.specs.declared.verified.VType.TheVariants as vtype
use Rattle.kilim_type_spec.specs.Step as type
use Rattle.kilim_program.specs.declared.class.Field.{Field}
use Rattle.kilim_program.specs.declared.class.Method.{Method}
use Rattle.kilim_program.specs.declared.names.ClassId.{ClassId}
use Rattle.kilim_program.specs.declared.names.FieldId.{FieldId}
use Rattle.kilim_program.specs.declared.ty.Base.{Base}
use Rattle.kilim_program.specs.declared.ty.Kind.{Kind}
use Rattle.kilim_program.specs.declared.ty.Ty.{Ty}
use Rattle.kilim_run_state.specs.declared.value.Object.{Object}
use Rattle.kilim_program.specs.declared.value.Value.{Value}
use Rattle.kilim_program.specs.declared.value.Value.TheVariants.{Null, Ref, Box}
use Rattle.kilim_program.specs.declared.verified.VType.{VType}
use Rattle.kilim_program.specs.Program.{Program}
use Rattle.kilim_program.specs.BuiltIn.{class_type}
use Rattle.kilim_program.specs.Kinds.{kind_of, class_kind, is_value_class, is_message}
use Rattle.kilim_program.specs.Names.{field_of, class_name, is_task, class_at}
use Rattle.kilim_program.specs.Members.{object_fields}
use Rattle.kilim_run_state.specs.Machine.{Objects}
use Rattle.kilim_program.specs.Lengths.{jump_targets, ends_path}
use Rattle.kilim_run_machine.specs.Does.{does, is_mailbox}
use Rattle.kilim_run_state.specs.Shapes.{field_in}
use Rattle.kilim_run_state.specs.Objects.{new_object, first_field, first_value, first_value_of}
use Rattle.kilim_type_spec.specs.Step.{Types, peek, is_same, replaced, one_replaced, dims_vtype, base_vtype, made_at, made_by, may_make, by_row, Makes as MakesRow, row, type_step}
use Rattle.kilim_isolation_laws.specs.forest.Heap.{Below, Here, IsForest, Then}
use Rattle.kilim_isolation_laws.specs.forest.Relation.{Root, Named, Names, Relates, Frames}
use Rattle.kilim_isolation_laws.proofs.forest.Paths.{some_is}
use Rattle.kilim_isolation_laws.proofs.forest.Moves.{set_named, root_keeps, AllBelow}
use Rattle.kilim_isolation_graph.specs.declared.graph.Graph.{Graph}
use Rattle.kilim_isolation_graph.specs.Graphs.{slot, added, push}
use Rattle.kilim_isolation_graph.specs.Nodes.{new_region}
use Rattle.kilim_isolation_rules.specs.Rules.{deed}
use Rattle.kilim_isolation_rules.specs.Marks.{given, root_node}
use Rattle.kilim_isolation_laws.specs.graph_rows.Holds.{Sort, Anything, Wide, Word, Own, Tree, sort, sort_by, object_sort, type_sort, sort_of_vtype, made_sort, field_sort, field_sort_of, Fits, unnamed, named_sort, refers, refers_in, SlotFits, AreSlots, SlotsFit, named_by, value_at, Waiting, waiting_named, AllWait, Holds, Stands, HeapFits, ObjectFits, trees, IsOf, MayHold, held_by, tree_held, held_at, half, is_tree_object, is_tree_sort}
use Rattle.kilim_isolation_laws.specs.forest.Laws.{IsPlace}
use Rattle.kilim_isolation_laws.specs.graph_rows.Outcome.{Left}
use Rattle.kilim_isolation_laws.proofs.graph_rows.Nodes.{region_fresh, end_absent}
use Rattle.kilim_isolation_laws.proofs.graph_rows.Settle.{any_slot}
use Rattle.kilim_isolation_laws.proofs.graph_rows.Heaps.{Grows, object_grows, slot_grows, put_there, put_other, some_same, is_or_not, new_more, new_forest, more_frames}
use Rattle.kilim_isolation_laws.proofs.graph_rows.Passed.{rule_passed, ok_is, moves_passed}
use Rattle.kilim_isolation_laws.proofs.graph_rows.Words.{cond_h}
use Rattle.kilim_isolation_laws.proofs.graph_rows.Plain.{IsStep, E}
use Rattle.kilim_isolation_laws.proofs.graph_rows.Added.{slots_grow, added_holds}
use Rattle.kilim_isolation_laws.proofs.graph_rows.Storing.{waits_grow}

module _ (p : Program) (h : Objects) (n : ℕ) (ob : Object) (free : get h n ≡ None) (nothing : (z : Bool × ℕ) → held_by ob z ≡ None) where
  abbrev h' : Objects
  h' = insert h n ob

  none_some : {A : Type 0} (x : A) → None ≡ Some x → ⊥
  none_some x e = cc

  not_new : (o : ℕ) (x : Object) → get h o ≡ Some x → o ≡ n → ⊥
  not_new o x e is = none_some x (sym free ∙ ap (get h) (sym is) ∙ e)

  pub new_grows : Grows p h (insert h n ob)
  new_grows o s w = (w.0, put_other h n ob o (not_new o w.0 w.1) ∙ w.1, w.2)

  pub new_fits : HeapFits p h → ObjectFits p (insert h n ob) ob → HeapFits p (insert h n ob)
  new_fits hf of o object e = elim (is_or_not o n) [
    | inl is ↦ subst (ObjectFits p (insert h n ob)) (some_same ob object (sym (put_there h n ob) ∙ ap (get (insert h n ob)) (sym is) ∙ e)) of
    | inr other ↦ object_grows p h (insert h n ob) new_grows object (hf o object (sym (put_other h n ob o other) ∙ e))
  ]

  has_not : (trees p h).has n ≡ false
  has_not = ap (is_tree_object p) free

  nothing_held : (s : Sort) (i : ℕ) → tree_held ob s i ≡ None
  nothing_held (Tree d x) i = nothing (half i)
  nothing_held Anything i = refl
  nothing_held Wide i = refl
  nothing_held Word i = refl
  nothing_held Own i = refl

  to_new : (i : ℕ) → (trees p (insert h n ob)).to n i ≡ None
  to_new i = ap (λ z. held_at p z i) (put_there h n ob) ∙ nothing_held (object_sort p ob.class) i

  same_to : (o i : ℕ) → (trees p (insert h n ob)).to o i ≡ (trees p h).to o i
  same_to o i = elim (is_or_not o n) [
    | inl e ↦ ap (λ z. (trees p (insert h n ob)).to z i) e ∙ to_new i ∙ sym (ap (λ z. held_at p z i) free) ∙ ap (λ z. (trees p h).to z i) (sym e)
    | inr other ↦ ap (λ z. held_at p z i) (put_other h n ob o other)
  ]

  same_has : (o : ℕ) → (o ≡ n) ⊎ ((trees p (insert h n ob)).has o ≡ (trees p h).has o)
  same_has o = elim (is_or_not o n) [ inl e ↦ inl e | inr other ↦ inr (ap (is_tree_object p) (put_other h n ob o other)) ]

  -- the new object is below no other, and holds none
  leaf : (x : ℕ) → Below (trees p (insert h n ob)) n x → n ≡ x
  leaf x (Here e) = e
  leaf x (Then q i b e) = absurd (none_some x (sym (to_new i) ∙ ap (λ z. (trees p (insert h n ob)).to z i) (leaf q b) ∙ e))

  -- the frames that wait
  pub record WaitingGrown (ws : List Waiting) : Type 0 where
    pub heap : HeapFits p (insert h n ob)
    pub forest : IsForest (trees p (insert h n ob))
    pub frames : Frames IsPlace (trees p (insert h n ob)) (map waiting_named ws)
    pub waits : AllWait p (insert h n ob) ws

  pub waiting_grown : HeapFits p h → IsForest (trees p h) → (w : Waiting) (ws : List Waiting) → Frames IsPlace (trees p h) (waiting_named w ∷ map waiting_named ws) → AllWait p h (w ∷ ws) → ObjectFits p (insert h n ob) ob → WaitingGrown (w ∷ ws)
  waiting_grown heap forest w ws frames waits of = record {
    heap = new_fits heap of;
    forest = new_forest (trees p h) (trees p (insert h n ob)) forest n same_has has_not same_to;
    frames = more_frames (trees p h) (trees p (insert h n ob)) forest (new_more (trees p h) (trees p (insert h n ob)) forest n same_has has_not same_to) (waiting_named w) (map waiting_named ws) frames;
    waits = waits_grow p h (insert h n ob) new_grows (w ∷ ws) waits;
  }

  module _ (m : Method) (f : Types) (g : Graph) (at : ℕ → Option ℕ) (ls st : List Value) (below : List Waiting) (hd : Stands p m f g at h ls st below) (of : ObjectFits p (insert h n ob) ob) where
    -- before the slot names it
    pub grown : Holds p m f g at (insert h n ob) ls st below
    grown = record {
      heap = new_fits hd.holds.heap of;
      forest = new_forest (trees p h) (trees p (insert h n ob)) hd.holds.forest n same_has has_not same_to;
      frames = more_frames (trees p h) (trees p (insert h n ob)) hd.holds.forest (new_more (trees p h) (trees p (insert h n ob)) hd.holds.forest n same_has has_not same_to) (named_by g at) (map waiting_named below) hd.holds.frames;
      tidy = hd.holds.tidy;
      slots = record {
        on_stack = slots_grow p m h (insert h n ob) new_grows (named_by g at) (named_by g at) (length g.nodes) (length g.nodes) (λ k lt. refl) (λ k lt. lt) (λ k lt live. live) f.stack g.stack st hd.holds.slots.on_stack;
        in_locals = λ k. slot_grows p h (insert h n ob) new_grows (named_by g at) (named_by g at) (length g.nodes) (length g.nodes) (λ j lt. refl) (λ j lt. lt) (λ j lt live. live) (sort p m (peek f.locals k)) (slot g.locals k) (value_at ls k) (hd.holds.slots.in_locals k);
      };
      waits = waits_grow p h (insert h n ob) new_grows below hd.holds.waits;
    }

    there : (l : Named) → Relates IsPlace (trees p h) l → (k x : ℕ) → Names l k x → n ≡ x → ⊥
    there l r k x w e = true≢false (sym (r.there k x w) ∙ ap (trees p h).has (sym e) ∙ has_not)

    lower : (ws : List Named) → Frames IsPlace (trees p h) ws → AllBelow (trees p (insert h n ob)) (Some n) ws
    lower [] fs = tt
    lower (w ∷ ws) fs = ((λ o k x e named down. there w fs.0 k x named (leaf x (subst (λ z. Below (trees p (insert h n ob)) z x) (sym (some_is n o e)) down))), lower ws fs.2)

    root_frames : is_tree_object p (Some ob) ≡ true →
        Frames IsPlace (trees p (insert h n ob)) (set_named (named_by g at) (length g.nodes) (record { region = new_region g.nodes; standing = Root; head = true; parent = None }) (Some n) ∷ map waiting_named below)
    root_frames tree = root_keeps IsPlace (trees p (insert h n ob)) (named_by g at) (map waiting_named below) grown.forest grown.frames hd.tidy (length g.nodes) (new_region g.nodes) (Some n) (end_absent g.nodes)
        (λ k live e. region_fresh g.nodes k live e)
        (λ o e. ap (λ z. is_tree_object p (get (insert h n ob) z)) (sym (some_is n o e)) ∙ ap (is_tree_object p) (put_there h n ob) ∙ tree)
        (λ o q i e edge. true≢false (sym (hd.holds.forest.there q i n (sym (same_to q i) ∙ edge ∙ sym e)).1 ∙ has_not))
        (λ o k x e named down. there (named_by g at) hd.holds.frames.0 k x named (leaf x (subst (λ z. Below (trees p (insert h n ob)) z x) (sym (some_is n o e)) down)))
        (lower (map waiting_named below) hd.holds.frames.2)

    -- a new tree, named by a slot of that type
    pub tree_made : is_tree_object p (Some ob) ≡ true → (ts : List VType) (xs : List (Option ℕ)) (vs : List Value) → AreSlots p m h (named_by g at) (length g.nodes) ts xs vs → (t : VType) → sort p m t ≡ object_sort p ob.class →
        Left p m (record f { stack = t ∷ ts }) (added (root_node g) (record g { stack = xs })) (insert h n ob) ls (Ref n ∷ vs) below
    tree_made tree ts xs vs s t is = (
      _,
      added_holds p m f g at (insert h n ob) ls st below grown (record { region = new_region g.nodes; standing = Root; head = true; parent = None }) (Some n) (root_frames tree)
          (λ e. refl) (λ e. refl) (λ e q w. none_some q w) ts xs vs
          (slots_grow p m h (insert h n ob) new_grows (named_by g at) (named_by g at) (length g.nodes) (length g.nodes) (λ k lt. refl) (λ k lt. lt) (λ k lt live. live) ts xs vs s) t (Ref n) refl
          (subst (λ z. Fits p (insert h n ob) (named_sort z) (Ref n)) (sym is) (by (object_sort p ob.class) refl tree)),
    )
      where
        the : (o : ℕ) → refers (Ref n) ≡ Some o → n ≡ o
        the o e = some_is n o e

        by : (z : Sort) → object_sort p ob.class ≡ z → is_tree_sort z ≡ true → Fits p (insert h n ob) (named_sort z) (Ref n)
        by (Tree d x) e w = (refl, λ o q. (ob, ap (get (insert h n ob)) (sym (the o q)) ∙ put_there h n ob, e))
        by Anything e w = absurd (true≢false (sym w))
        by Wide e w = absurd (true≢false (sym w))
        by Word e w = absurd (true≢false (sym w))
        by Own e w = absurd (true≢false (sym w))

    -- a new private object
    pub own_made : object_sort p ob.class ≡ Own → (ts : List VType) (xs : List (Option ℕ)) (vs : List Value) → AreSlots p m h (named_by g at) (length g.nodes) ts xs vs → (t : VType) → sort p m t ≡ Own →
        Left p m (record f { stack = t ∷ ts }) (push None (record g { stack = xs })) (insert h n ob) ls (Ref n ∷ vs) below
    own_made own ts xs vs s t is = (
      at,
      record {
        heap = grown.heap;
        forest = grown.forest;
        frames = grown.frames;
        tidy = grown.tidy;
        waits = grown.waits;
        slots = record {
          on_stack = (
            subst (λ z. Fits p (insert h n ob) (unnamed z) (Ref n)) (sym is) (refl, λ o e. (ob, ap (get (insert h n ob)) (sym (some_is n o e)) ∙ put_there h n ob, own)),
            slots_grow p m h (insert h n ob) new_grows (named_by g at) (named_by g at) (length g.nodes) (length g.nodes) (λ k lt. refl) (λ k lt. lt) (λ k lt live. live) ts xs vs s,
          );
          in_locals = grown.slots.in_locals;
        };
      },
    )

-- ---- `new`

pub not_zero : (d : ℕ) → (suc d == 0) ≡ false
not_zero d = elim (Rattle.kilim_isolation_laws.proofs.forest.Store.both_ways (suc d == 0)) [
  | inl w ↦
      let e = Rattle.kilim_isolation_laws.proofs.forest.Store.is_same (suc d) 0 w in
      absurd (omega arith)
  | inr w ↦ w
]

pub zero_fits : (p : Program) (h : Objects) (ty : Ty) (d : ℕ) → Fits p h (sort_of_vtype p (dims_vtype ty d)) (cond (d == 0) (first_value_of ty.base) Null)
zero_fits p h ty (suc d) = subst (λ b. Fits p h (sort_by p ty (kind_of p ty)) (cond b (first_value_of ty.base) Null)) (sym (not_zero d)) (of_kind (kind_of p ty))
  where
    of_kind : (k : Kind) → Fits p h (sort_by p ty k) Null
    of_kind kind.Value = (refl, refl)
    of_kind kind.Tree = (refl, λ o e. absurd (cc))
    of_kind kind.Private = (refl, λ o e. absurd (cc))
zero_fits p h ty zero = of_base ty.base
  where
    of_kind : (k : Kind) → Fits p h (sort_by p ty k) Null
    of_kind kind.Value = (refl, refl)
    of_kind kind.Tree = (refl, λ o e. absurd (cc))
    of_kind kind.Private = (refl, λ o e. absurd (cc))

    of_base : (b : Base) → Fits p h (sort_of_vtype p (base_vtype ty b)) (first_value_of b)
    of_base base.Bool = (refl, refl)
    of_base base.Byte = (refl, refl)
    of_base base.Char = (refl, refl)
    of_base base.Short = (refl, refl)
    of_base base.Int = (refl, refl)
    of_base base.Long = refl
    of_base (base.Class c) = of_kind (kind_of p ty)

zero_value_fits : (p : Program) (h : Objects) (f : Option Field) → Fits p h (field_sort_of p f) (elim f [ None ↦ Null | Some field ↦ first_value field.ty ])
zero_value_fits p h None = (refl, refl)
zero_value_fits p h (Some field) = zero_fits p h field.ty field.ty.dims

zero_refers : (ty : Ty) → refers (first_value ty) ≡ None
zero_refers ty = by (ty.dims == 0) ty.base
  where
    by : (b : Bool) (c : Base) → refers (cond b (first_value_of c) Null) ≡ None
    by false c = refl
    by true base.Bool = refl
    by true base.Byte = refl
    by true base.Char = refl
    by true base.Short = refl
    by true base.Int = refl
    by true base.Long = refl
    by true (base.Class c) = refl

some_value : (a b : Value) → Some a ≡ Some b → a ≡ b
some_value a b e = cc

zero_field_of : (p : Program) (fs : List FieldId) (f : FieldId) (v : Value) → field_in (map (first_field p) fs) f ≡ Some v → (h : Objects) → Fits p h (field_sort p f) v × (refers v ≡ None)
zero_field_of p [] f v e h = absurd (cc)
zero_field_of p (k ∷ fs) f v e h = elim (is_or_not k.0 f.0) [
  | inl is ↦
      let key : (k.0 == f.0) ≡ true = ap (λ z. z == f.0) is ∙ Rattle.kilim_isolation_laws.proofs.forest.Store.same_is f.0 in
      let w = some_value (first_field p k).1 v (ap (λ b. cond b (Some (first_field p k).1) (field_in (map (first_field p) fs) f)) (sym key) ∙ e) in (
        subst (λ z. Fits p h (field_sort p z) v) (ap Rattle.kilim_isolation_laws.specs.graph_rows.Holds.field_id is) (subst (Fits p h (field_sort p k)) w (zero_value_fits p h (field_of p k))),
        ap refers (sym w) ∙ none_of (field_of p k),
      )
  | inr other ↦ zero_field_of p fs f v (ap (λ b. cond b (Some (first_field p k).1) (field_in (map (first_field p) fs) f)) (sym (differs k.0 f.0 other)) ∙ e) h
]
  where
    none_of : (o : Option Field) → refers (elim o [ None ↦ Null | Some field ↦ first_value field.ty ]) ≡ None
    none_of None = refl
    none_of (Some field) = zero_refers field.ty

    differs : (a b : ℕ) → (a ≡ b → ⊥) → (a == b) ≡ false
    differs a b not_it = elim (Rattle.kilim_isolation_laws.proofs.forest.Store.both_ways (a == b)) [ inl w ↦ absurd (not_it (Rattle.kilim_isolation_laws.proofs.forest.Store.is_same a b w)) | inr w ↦ w ]

pub zero_holds : (p : Program) (c : ClassId) (z : Bool × ℕ) → held_by (new_object p c) z ≡ None
zero_holds p c (true, k) = refl
zero_holds p c (false, k) = by (field_in (new_object p c).fields (Rattle.kilim_isolation_laws.specs.graph_rows.Holds.field_id k)) refl
  where
    by : (x : Option Value) → field_in (new_object p c).fields (Rattle.kilim_isolation_laws.specs.graph_rows.Holds.field_id k) ≡ x → refers_in x ≡ None
    by None e = refl
    by (Some v) e = (zero_field_of p (object_fields p c) (Rattle.kilim_isolation_laws.specs.graph_rows.Holds.field_id k) v e Rattle.std.specs.FinMap.empty).1

pub new_object_fits : (p : Program) → ((c : ClassId) (k : FieldId) (v : Value) → field_in (new_object p c).fields k ≡ Some v → MayHold (object_sort p (class_type c.0)) (field_sort p k)) → (c : ClassId) (h : Objects) (n : ℕ) →
    ObjectFits p (insert h n (new_object p c)) (new_object p c)
new_object_fits p may c h n = record { fields = λ k v e. ((zero_field_of p (object_fields p c) k v e (insert h n (new_object p c))).0, may c k v e); elements = λ k v e. absurd (no_element k v e) }
  where
    no_element : (k : ℕ) (v : Value) → slice_get [] k ≡ Some v → ⊥
    no_element k v e = cc

-- a local that was typed as the old object of this place is Top
pub replaced_holds : (p : Program) (m : Method) (f : Types) (g : Graph) (at : ℕ → Option ℕ) (h : Objects) (ls st : List Value) (below : List Waiting) (old : VType) → Holds p m f g at h ls st below →
    Holds p m (record f { locals = replaced old vtype.Top f.locals }) g at h ls st below
unfolding sort
replaced_holds p m f g at h ls st below old hd = record {
  heap = hd.heap;
  forest = hd.forest;
  frames = hd.frames;
  tidy = hd.tidy;
  waits = hd.waits;
  slots = record { on_stack = hd.slots.on_stack; in_locals = λ k. by f.locals k (slot g.locals k) (value_at ls k) (hd.slots.in_locals k) };
}
  where
    one : (b : Bool) (t : VType) (x : Option ℕ) (v : Value) → SlotFits p h (named_by g at) (length g.nodes) (sort p m t) x v → SlotFits p h (named_by g at) (length g.nodes) (sort p m (one_replaced b t vtype.Top)) x v
    one true t x v s = any_slot p h (named_by g at) (length g.nodes) (sort p m t) x v s
    one false t x v s = s

    by : (ts : List VType) (k : ℕ) (x : Option ℕ) (v : Value) → SlotFits p h (named_by g at) (length g.nodes) (sort p m (peek ts k)) x v → SlotFits p h (named_by g at) (length g.nodes) (sort p m (peek (replaced old vtype.Top ts) k)) x v
    by [] k x v s = s
    by (t ∷ ts) zero x v s = one (is_same old t) t x v s
    by (t ∷ ts) (suc k) x v s = by ts k x v s

or_true : (a b : Bool) → b ≡ true → (a || b) ≡ true
or_true true b e = refl
or_true false b e = e

or_is : (a b : Bool) → (a || b) ≡ true → b ≡ false → a ≡ true
or_is true b e w = refl
or_is false b e w = absurd (true≢false (sym e ∙ w))

module _ (p : Program) (m : Method) (pl to : ℕ) (f f1 : Types) (g g1 : Graph) (at : ℕ → Option ℕ) (h : Objects) (ls st : List Value) (below : List Waiting) (after : Option Types) (c : ClassId)
    (s : IsStep p m pl to f f1 g g1 at h ls st below after (instr.New c)) (made : made_at m.code pl ≡ Some c)
    (may : (c : ClassId) (k : FieldId) (v : Value) → field_in (new_object p c).fields k ≡ Some v → MayHold (object_sort p (class_type c.0)) (field_sort p k)) where
  sort_is : sort p m (vtype.Uninit pl) ≡ object_sort p (class_type c.0)
  unfolding sort
  sort_is = ap (made_sort p) made

  kinds : (k : Kind) → class_kind p c ≡ k → object_sort p (class_type c.0) ≡ sort_by p (class_type c.0) k
  kinds k e = ap (sort_by p (class_type c.0)) e

  value_name : class_kind p c ≡ kind.Value → is_value_class (class_name p c) ≡ true
  value_name e = by (is_value_class (class_name p c)) (is_task p c || is_message p c) e
    where
      by : (a b : Bool) → cond a kind.Value (cond b kind.Tree kind.Private) ≡ kind.Value → a ≡ true
      by true b w = refl
      by false true w = absurd (cc)
      by false false w = absurd (cc)

  passed : (f1 ≡ record f { locals = replaced (vtype.Uninit pl) vtype.Top f.locals; stack = vtype.Uninit pl ∷ f.stack }) × (may_make p c (class_at p c) ≡ true)
  unfolding row
  passed =
      let a = rule_passed 4 (type.has_room m (vtype.Uninit pl ∷ f.stack)) _ f1 s.1 in
      let b = rule_passed 10 (not (list_any (is_same (vtype.Uninit pl)) f.stack)) _ f1 a.1 in
      let d = rule_passed 13 (may_make p c (class_at p c)) _ f1 b.1 in
      (ok_is _ f1 d.1, d.0)

  graph_is : g1 ≡ given (class_kind p c) g
  unfolding deed
  graph_is = (moves_passed p m g f (instr.New c) after g1 s.2).graph

  back : (g' : Graph) (h' : Objects) (vs : List Value) → g1 ≡ g' → Left p m (record f { stack = vtype.Uninit pl ∷ f.stack }) g' h' ls vs below → Left p m f1 g1 h' ls vs below
  back g' h' vs e w = subst (λ z. Left p m z g1 h' ls vs below) (sym passed.0) (subst (λ z. Left p m (record f { locals = replaced (vtype.Uninit pl) vtype.Top f.locals; stack = vtype.Uninit pl ∷ f.stack }) z h' ls vs below) (sym e)
      (w.0, replaced_holds p m (record f { stack = vtype.Uninit pl ∷ f.stack }) g' w.0 h' ls vs below (vtype.Uninit pl) w.1))

  new_left : is_mailbox p c ≡ false → (n : ℕ) → get h n ≡ None → (k : Kind) → class_kind p c ≡ k → Left p m f1 g1 (insert h n (new_object p c)) ls (Ref n ∷ st) below
  new_left no_box n free kind.Tree e = back (given kind.Tree g) (insert h n (new_object p c)) (Ref n ∷ st) (graph_is ∙ ap (λ z. given z g) e)
      (tree_made p h n (new_object p c) free (zero_holds p c) m f g at ls st below s.0 (new_object_fits p may c h n) (ap is_tree_sort (kinds kind.Tree e)) f.stack g.stack st s.0.holds.slots.on_stack (vtype.Uninit pl) sort_is)
  new_left no_box n free kind.Private e = back (given kind.Private g) (insert h n (new_object p c)) (Ref n ∷ st) (graph_is ∙ ap (λ z. given z g) e)
      (own_made p h n (new_object p c) free (zero_holds p c) m f g at ls st below s.0 (new_object_fits p may c h n) (kinds kind.Private e) f.stack g.stack st s.0.holds.slots.on_stack (vtype.Uninit pl) (sort_is ∙ kinds kind.Private e))
  new_left no_box n free kind.Value e = absurd (by (class_at p c) passed.1)
    where
      string : bytes_eq (class_name p c) (codes "java/lang/String") ≡ true
      string = or_is (bytes_eq (class_name p c) (codes "java/lang/String")) (bytes_eq (class_name p c) (codes "kilim/Mailbox")) (value_name e) no_box

      refused : (a b x : Bool) → not (a || (b || (true || x))) ≡ true → ⊥
      refused true b x w = true≢false (sym w)
      refused false true x w = true≢false (sym w)
      refused false false x w = true≢false (sym w)

      by : (o : Option Rattle.kilim_program.specs.declared.class.Class.Class) → may_make p c o ≡ true → ⊥
      by None w = true≢false (sym w)
      by (Some class) w = refused class.is_abstract (bytes_eq (class_name p c) (codes "kilim/Message")) (Rattle.kilim_program.specs.Fits.is_named p (codes "kilim/Sys") c || Rattle.kilim_program.specs.Fits.is_named p (codes "kilim/Fiber") c) (ap (λ y. not (class.is_abstract || (bytes_eq (class_name p c) (codes "kilim/Message") || (y || (Rattle.kilim_program.specs.Fits.is_named p (codes "kilim/Sys") c || Rattle.kilim_program.specs.Fits.is_named p (codes "kilim/Fiber") c))))) (sym string) ∙ w)

  mailbox_left : is_mailbox p c ≡ true → (box : Rattle.kilim_program.specs.declared.names.BoxName.BoxName) → Left p m f1 g1 h ls (Box box ∷ st) below
  mailbox_left is box = back (push None g) h (Box box ∷ st) (graph_is ∙ ap (λ z. given z g) value) (
    at,
    record {
      heap = s.0.holds.heap;
      forest = s.0.holds.forest;
      frames = s.0.holds.frames;
      tidy = s.0.holds.tidy;
      waits = s.0.holds.waits;
      slots = record { on_stack = (subst (λ z. Fits p h (unnamed z) (Box box)) (sym (sort_is ∙ kinds kind.Value value)) (refl, refl), s.0.holds.slots.on_stack); in_locals = s.0.holds.slots.in_locals };
    },
  )
    where
      value : class_kind p c ≡ kind.Value
      value = ap (λ b. cond b kind.Value (cond (is_task p c || is_message p c) kind.Tree kind.Private)) (or_true (bytes_eq (class_name p c) (codes "java/lang/String")) (bytes_eq (class_name p c) (codes "kilim/Mailbox")) is)

  pub new_h : E p m pl to f f1 g g1 at h ls st below after (instr.New c) (does p m (instr.New c) to ls st h)
  unfolding does ends_path jump_targets
  new_h = cond_h (E p m pl to f f1 g g1 at h ls st below after (instr.New c)) tt (λ x. tt) (λ x. tt) (is_mailbox p c) _ _ (λ is. (inl refl, mailbox_left is)) (λ no_box. (inl refl, λ n free. new_left no_box n free (class_kind p c) refl))
