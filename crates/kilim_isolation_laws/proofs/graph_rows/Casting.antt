-- checkcast.
use Rattle.std.proofs.Common.{◌≡◌, ℕ, Bool, true, false, true≢false, ◌&&◌, List, [], ◌∷◌, length, Option, Some, None, refl, sym, ap, subst, ◌∙◌, ◌⊎◌, inl, inr}
use Rattle.std.specs.List.{list_any}
use Rattle.std.specs.Prelude.{drop, slice_get}
use Rattle.std.specs.FinMap.{get}
use Rattle.kilim_program.specs.declared.instr.Instr.TheVariants as instr
use Rattle.kilim_program.specs.declared.ty.Kind.TheVariants as kind
use Rattle.kilim_program.specs.declared.verified.VType.TheVariants as vtype
use Rattle.kilim_program.specs.declared.class.Method.{Method}
use Rattle.kilim_program.specs.declared.ty.Kind.{Kind}
use Rattle.kilim_program.specs.declared.ty.Ty.{Ty}
use Rattle.kilim_program.specs.declared.value.Value.{Value}
use Rattle.kilim_program.specs.declared.verified.VType.{VType}
use Rattle.kilim_program.specs.Program.{Program}
use Rattle.kilim_program.specs.Kinds.{kind_of, is_tree_kind}
use Rattle.kilim_run_state.specs.Machine.{Objects}
use Rattle.kilim_program.specs.Lengths.{jump_targets, ends_path}
use Rattle.kilim_run_machine.specs.Effect.{is_wide}
use Rattle.kilim_program.specs.Fits.{fits_type}
use Rattle.kilim_run_machine.specs.Does.{does, cast_fits}
use Rattle.kilim_type_spec.specs.Step.{Types, peek, assignable, Is, meets, all_meet, object_type, vtype_of_class, row}
use Rattle.kilim_isolation_laws.specs.forest.Relation.{Named}
use Rattle.kilim_isolation_graph.specs.declared.graph.Graph.{Graph}
use Rattle.kilim_isolation_graph.specs.Graphs.{slot}
use Rattle.kilim_isolation_rules.specs.Rules.{deed, cast_mixes}
use Rattle.kilim_isolation_rules.specs.Marks.{mixes, is_tree, is_private, names_gone}
use Rattle.kilim_isolation_laws.specs.graph_rows.Holds.{Sort, Anything, Word, Own, Tree, Stuff, sort, sort_by, object_sort, refers, SlotFits, AreSlots, named_by, Waiting, KindsFlow, FlowsTo, IsOf}
use Rattle.kilim_isolation_laws.specs.graph_rows.Outcome.{Left}
use Rattle.kilim_isolation_laws.proofs.graph_rows.Settle.{not_true, or_left, word_slot}
use Rattle.kilim_isolation_laws.proofs.graph_rows.Heaps.{some_same}
use Rattle.kilim_isolation_laws.proofs.graph_rows.Passed.{takes_passed, moves_passed}
use Rattle.kilim_isolation_laws.proofs.graph_rows.Words.{value_h, class_h, cond_h, IsClass, OfObject, OfNone}
use Rattle.kilim_isolation_laws.proofs.graph_rows.Plain.{IsStep, E, moved}
use Rattle.kilim_isolation_laws.proofs.graph_rows.Reading.{slot_peeked, slot_lives, met, not_anything}
use Rattle.kilim_isolation_laws.proofs.graph_rows.Elements.{of_slot}

-- a slot without an object may be of any reference type
pub null_slot : (p : Program) (h : Objects) (u : Named) (count : ℕ) (ty : Ty) (s : Sort) (x : Option ℕ) (v : Value) → refers v ≡ None → is_wide v ≡ false → SlotFits p h u count s x v → SlotFits p h u count (object_sort p ty) x v
null_slot p h u count ty s x v r narrow f = by (kind_of p ty)
  where
    as_word : (y : Option ℕ) → SlotFits p h u count s y v → SlotFits p h u count Word y v
    as_word None w = (narrow, r)
    as_word (Some n) w = (w.0, w.1, λ live. (narrow, r))

    by : (k : Kind) → SlotFits p h u count (sort_by p ty k) x v
    by kind.Value = as_word x f
    by kind.Private = word_slot p h u count Own tt x v (as_word x f)
    by kind.Tree = word_slot p h u count (Tree _ _) tt x v (as_word x f)

-- what is assignable to java/lang/Object is null or of a reference type
pub tree_sorted : (p : Program) (m : Method) (t : VType) (to : VType) → assignable p t to ≡ true → (to ≡ vtype.Null) ⊎ ((ty : Ty) × (to ≡ vtype.Object ty)) → (d : ℕ) (y : Stuff) → sort p m t ≡ Tree d y → is_tree p t ≡ true
unfolding sort
tree_sorted p m (vtype.Object a) to e is d y w = by (kind_of p a) w
  where
    by : (k : Kind) → sort_by p a k ≡ Tree d y → is_tree_kind k ≡ true
    by kind.Tree q = refl
    by kind.Value q = absurd (cc)
    by kind.Private q = absurd (cc)
tree_sorted p m vtype.Null to e is d y w = absurd (cc)
tree_sorted p m vtype.Int to e is d y w = absurd (cc)
tree_sorted p m vtype.Long to e is d y w = absurd (cc)
tree_sorted p m vtype.Top to e is d y w = absurd (cc)
tree_sorted p m vtype.UninitThis to e (inl is) d y w = absurd (true≢false (sym e ∙ ap (assignable p vtype.UninitThis) is))
tree_sorted p m vtype.UninitThis to e (inr is) d y w = absurd (true≢false (sym e ∙ ap (assignable p vtype.UninitThis) is.1))
tree_sorted p m (vtype.Uninit at) to e (inl is) d y w = absurd (true≢false (sym e ∙ ap (assignable p (vtype.Uninit at)) is))
tree_sorted p m (vtype.Uninit at) to e (inr is) d y w = absurd (true≢false (sym e ∙ ap (assignable p (vtype.Uninit at)) is.1))

pub object_is : (p : Program) → (object_type p ≡ vtype.Null) ⊎ ((ty : Ty) × (object_type p ≡ vtype.Object ty))
object_is p = by (Rattle.kilim_program.specs.Names.class_named p (Rattle.std.specs.Prelude.codes "java/lang/Object"))
  where
    by : (c : Option Rattle.kilim_program.specs.declared.names.ClassId.ClassId) → (vtype_of_class c ≡ vtype.Null) ⊎ ((ty : Ty) × (vtype_of_class c ≡ vtype.Object ty))
    by None = inl refl
    by (Some c) = inr (_, refl)

pub known_of : (p : Program) (m : Method) (t to : VType) → assignable p t to ≡ true → (to ≡ vtype.Null) ⊎ ((ty : Ty) × (to ≡ vtype.Object ty)) → sort p m t ≡ Anything → ⊥
unfolding sort
known_of p m (vtype.Object a) to e is w = not_anything p a (kind_of p a) w
known_of p m vtype.Null to e is w = absurd (cc)
known_of p m vtype.Int to e is w = absurd (cc)
known_of p m vtype.Long to e is w = absurd (cc)
known_of p m vtype.UninitThis to e is w = not_anything p (Rattle.kilim_program.specs.BuiltIn.class_type m.owner.0) (kind_of p (Rattle.kilim_program.specs.BuiltIn.class_type m.owner.0)) w
known_of p m vtype.Top to e (inl is) w = true≢false (sym e ∙ ap (assignable p vtype.Top) is)
known_of p m vtype.Top to e (inr is) w = true≢false (sym e ∙ ap (assignable p vtype.Top) is.1)
known_of p m (vtype.Uninit at) to e (inl is) w = true≢false (sym e ∙ ap (assignable p (vtype.Uninit at)) is)
known_of p m (vtype.Uninit at) to e (inr is) w = true≢false (sym e ∙ ap (assignable p (vtype.Uninit at)) is.1)

and_none : (a b : Bool) → (a && b) ≡ false → a ≡ true → b ≡ false
and_none true b e w = e
and_none false b e w = absurd (true≢false (sym w))

pub and_no : (a b : Bool) → b ≡ false → (a && b) ≡ false
and_no true b e = e
and_no false b e = refl

-- from a sort that holds objects only the same sort, or one that a tree may not become
pub same_sort : (s to : Sort) → FlowsTo s to → (to ≡ Anything → ⊥) → (s ≡ Word → ⊥) → s ≡ to
same_sort s to (inl e) any word = absurd (any e)
same_sort s to (inr (inl w)) any word = absurd (word w.0)
same_sort s to (inr (inr e)) any word = e

pub flows_by : (p : Program) → KindsFlow p → (m : Method) (a b : Ty) → fits_type p a b ≡ true → mixes p (vtype.Object a) (vtype.Object b) ≡ false → FlowsTo (object_sort p a) (object_sort p b)
unfolding sort
flows_by p flow m a b e mix = flow m (vtype.Object a) (vtype.Object b) e mix

module _ (p : Program) (flow : KindsFlow p) (m : Method) (pl to : ℕ) (f f1 : Types) (g g1 : Graph) (at : ℕ → Option ℕ) (h : Objects) (ls st : List Value) (below : List Waiting) (after : Option Types) (ty : Ty)
    (s : IsStep p m pl to f f1 g g1 at h ls st below after (instr.Checkcast ty)) where
  typed : (all_meet p (Is (object_type p) ∷ []) f.stack ≡ true) × (f1 ≡ record f { stack = vtype.Object ty ∷ drop 1 f.stack })
  unfolding row
  typed = takes_passed p m pl (Is (object_type p) ∷ []) (vtype.Object ty ∷ []) [] f f1 s.1

  fits : assignable p (peek f.stack 0) (object_type p) ≡ true
  unfolding meets
  fits = met p (Is (object_type p) ∷ []) f.stack 0 (Is (object_type p)) refl typed.0

  graph_is : (g1 ≡ g) × (cast_mixes p (peek f.stack 0) (vtype.Object ty) ≡ false)
  unfolding deed
  graph_is = ((moves_passed p m g f (instr.Checkcast ty) after g1 s.2).graph, (moves_passed p m g f (instr.Checkcast ty) after g1 s.2).mixed)

  abbrev Slot : Sort → Option ℕ → Value → Type 0
  Slot z x v = SlotFits p h (named_by g at) (length g.nodes) z x v

  cast_slot : (v : Value) (rest : List Value) → st ≡ v ∷ rest → (class : Option Ty) → IsClass h v class → cast_fits p class ty ≡ true → SlotFits p h (named_by g at) (length g.nodes) (object_sort p ty) (slot g.stack 0) v
  cast_slot v rest e class (OfNone r narrow) c = null_slot p h (named_by g at) (length g.nodes) ty (sort p m (peek f.stack 0)) (slot g.stack 0) v r narrow
      (slot_peeked p m h (named_by g at) (length g.nodes) f.stack g.stack st s.0.holds.slots.on_stack 0 v (ap (λ z. slice_get z 0) e))
  cast_slot v rest e class (OfObject n object is there class_is) c = by (of_slot p h (named_by g at) (length g.nodes) (sort p m (peek f.stack 0)) (slot g.stack 0) n
      (subst (SlotFits p h (named_by g at) (length g.nodes) (sort p m (peek f.stack 0)) (slot g.stack 0)) is before)
      (λ a x. slot_lives g g.stack (not_true (list_any (names_gone g) g.stack) s.0.live) 0 a x) (known_of p m (peek f.stack 0) (object_type p) fits (object_is p)))
    where
      before : SlotFits p h (named_by g at) (length g.nodes) (sort p m (peek f.stack 0)) (slot g.stack 0) v
      before = slot_peeked p m h (named_by g at) (length g.nodes) f.stack g.stack st s.0.holds.slots.on_stack 0 v (ap (λ z. slice_get z 0) e)

      assigns : fits_type p object.class ty ≡ true
      assigns = ap (λ z. cast_fits p z ty) (sym class_is) ∙ c

      object_of : (z : Sort) → IsOf p h n z → object_sort p object.class ≡ z
      object_of z w = ap (λ o. object_sort p o.class) (some_same object w.0 (sym there ∙ w.1)) ∙ w.2

      flows : mixes p (vtype.Object object.class) (vtype.Object ty) ≡ false → FlowsTo (object_sort p object.class) (object_sort p ty)
      flows mix = flows_by p flow m object.class ty assigns mix

      not_tree : (k : Kind) → sort_by p object.class k ≡ Own → is_tree_kind k ≡ false
      not_tree kind.Private q = refl
      not_tree kind.Value q = absurd (cc)
      not_tree kind.Tree q = absurd (cc)

      by : ((d : ℕ) × (y : Stuff) × (sort p m (peek f.stack 0) ≡ Tree d y) × IsOf p h n (Tree d y)) ⊎ ((sort p m (peek f.stack 0) ≡ Own) × IsOf p h n Own) → SlotFits p h (named_by g at) (length g.nodes) (object_sort p ty) (slot g.stack 0) v
      by (inl w) =
          let tree = tree_sorted p m (peek f.stack 0) (object_type p) fits (object_is p) w.0 w.1 w.2 in
          let no_private : is_private p (vtype.Object ty) ≡ false = and_none (is_tree p (peek f.stack 0)) (is_private p (vtype.Object ty)) (or_left (mixes p (peek f.stack 0) (vtype.Object ty)) _ graph_is.1) tree in
          let to_sort = same_sort (object_sort p object.class) (object_sort p ty) (flows (and_no (is_tree p (vtype.Object object.class)) (is_private p (vtype.Object ty)) no_private)) (not_anything p ty (kind_of p ty))
          (λ q. tree_word w.0 w.1 (sym (object_of (Tree w.0 w.1) w.3) ∙ q)) in
          subst (λ z. SlotFits p h (named_by g at) (length g.nodes) z (slot g.stack 0) v) (w.2 ∙ sym (object_of (Tree w.0 w.1) w.3) ∙ to_sort) before
        where
          tree_word : (d : ℕ) (y : Stuff) → Tree d y ≡ Word → ⊥
          tree_word d y q = cc
      by (inr w) =
          let no_tree : is_tree p (vtype.Object object.class) ≡ false = not_tree (kind_of p object.class) (object_of Own w.1) in
          let to_sort = same_sort (object_sort p object.class) (object_sort p ty) (flows (ap (λ b. b && is_private p (vtype.Object ty)) no_tree)) (not_anything p ty (kind_of p ty)) (λ q. own_word (sym (object_of Own w.1) ∙ q)) in
          subst (λ z. SlotFits p h (named_by g at) (length g.nodes) z (slot g.stack 0) v) (w.0 ∙ sym (object_of Own w.1) ∙ to_sort) before
        where
          own_word : Own ≡ Word → ⊥
          own_word q = cc

  cast_left : (v : Value) (rest : List Value) → st ≡ v ∷ rest → SlotFits p h (named_by g at) (length g.nodes) (object_sort p ty) (slot g.stack 0) v → Left p m f1 g1 h ls (v ∷ rest) below
  unfolding sort
  cast_left v rest e fits_now = subst (λ z. Left p m z g1 h ls (v ∷ rest) below) (sym typed.1) (subst (λ z. Left p m (record f { stack = vtype.Object ty ∷ drop 1 f.stack }) z h ls (v ∷ rest) below) (sym graph_is.0) (
    at,
    moved p m f (record f { stack = vtype.Object ty ∷ drop 1 f.stack }) g g.locals g.stack at h ls st ls (v ∷ rest) below s.0.holds (record {
      on_stack = split g.stack (subst (λ z. AreSlots p m h (named_by g at) (length g.nodes) f.stack g.stack z) e s.0.holds.slots.on_stack) fits_now;
      in_locals = s.0.holds.slots.in_locals;
    }),
  ))
    where
      split : (xs : List (Option ℕ)) → AreSlots p m h (named_by g at) (length g.nodes) f.stack xs (v ∷ rest) → SlotFits p h (named_by g at) (length g.nodes) (object_sort p ty) (slot xs 0) v →
          AreSlots p m h (named_by g at) (length g.nodes) (vtype.Object ty ∷ drop 1 f.stack) xs (v ∷ rest)
      split xs a now = by f.stack xs a now
        where
          by : (ts : List VType) (ys : List (Option ℕ)) → AreSlots p m h (named_by g at) (length g.nodes) ts ys (v ∷ rest) → SlotFits p h (named_by g at) (length g.nodes) (object_sort p ty) (slot ys 0) v →
              AreSlots p m h (named_by g at) (length g.nodes) (vtype.Object ty ∷ drop 1 ts) ys (v ∷ rest)
          by [] [] b q = absurd b
          by [] (y ∷ ys) b q = absurd b
          by (t ∷ ts) [] b q = absurd b
          by (t ∷ ts) (y ∷ ys) b q = (q, b.1)

  pub checkcast_h : E p m pl to f f1 g g1 at h ls st below after (instr.Checkcast ty) (does p m (instr.Checkcast ty) to ls st h)
  unfolding does ends_path jump_targets
  checkcast_h = value_h (E p m pl to f f1 g g1 at h ls st below after (instr.Checkcast ty)) tt (λ c. tt) (λ c. tt) st _ (λ v rest e. class_h (E p m pl to f f1 g g1 at h ls st below after (instr.Checkcast ty)) tt (λ c. tt) (λ c. tt) p v h _ (λ class is.
      cond_h (E p m pl to f f1 g g1 at h ls st below after (instr.Checkcast ty)) tt (λ c. tt) (λ c. tt) (cast_fits p class ty) _ _ (λ c. (inl refl, cast_left v rest e (cast_slot v rest e class is c))) (λ c. tt)))
