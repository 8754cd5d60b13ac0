-- getfield.
use Rattle.std.proofs.Common.{◌≡◌, ℕ, zero, suc, ◌*◌, true, false, true≢false, not, ◌&&◌, List, [], ◌∷◌, length, Option, Some, None, Result, Ok, Err, refl, sym, ap, subst, ◌∙◌, inl}
use Rattle.std.specs.List.{list_any}
use Rattle.std.specs.Prelude.{drop, slice_get}
use Rattle.std.specs.FinMap.{get}
use Rattle.kilim_program.specs.declared.instr.Instr.TheVariants as instr
use Rattle.kilim_program.specs.declared.ty.Kind.TheVariants as kind
use Rattle.kilim_program.specs.declared.verified.VType.TheVariants as vtype
use Rattle.kilim_type_spec.specs.Step as type
use Rattle.kilim_isolation_laws.specs.forest.Relation as label
use Rattle.kilim_program.specs.declared.class.Field.{Field}
use Rattle.kilim_program.specs.declared.class.Method.{Method}
use Rattle.kilim_program.specs.declared.names.FieldId.{FieldId}
use Rattle.kilim_program.specs.declared.ty.Kind.{Kind}
use Rattle.kilim_program.specs.declared.ty.Ty.{Ty}
use Rattle.kilim_run_state.specs.declared.value.Object.{Object}
use Rattle.kilim_program.specs.declared.value.Value.{Value}
use Rattle.kilim_program.specs.declared.value.Value.TheVariants.{Ref}
use Rattle.kilim_program.specs.declared.verified.VType.{VType}
use Rattle.kilim_program.specs.Program.{Program}
use Rattle.kilim_program.specs.Kinds.{kind_of}
use Rattle.kilim_program.specs.Names.{field_of}
use Rattle.kilim_run_state.specs.Machine.{Objects}
use Rattle.kilim_program.specs.Lengths.{jump_targets, ends_path}
use Rattle.kilim_run_machine.specs.Does.{does}
use Rattle.kilim_run_state.specs.Shapes.{field_in}
use Rattle.kilim_type_spec.specs.Step.{Types, peek, assignable, Operand, Further, Is, meets, all_meet, class_vtype, further, by_row, field_row, missing, row, type_step}
use Rattle.kilim_isolation_laws.specs.forest.Relation.{is_gone, Label, Element, Node, Named, Names}
use Rattle.kilim_isolation_laws.specs.forest.Canonical.{node_at}
use Rattle.kilim_isolation_graph.specs.declared.graph.Graph.{Graph}
use Rattle.kilim_isolation_graph.specs.Graphs.{slot, push, popped}
use Rattle.kilim_isolation_rules.specs.Rules.{deed}
use Rattle.kilim_isolation_rules.specs.Marks.{names_gone}
use Rattle.kilim_isolation_rules.specs.Fields.{reads, read_from, gets_field}
use Rattle.kilim_isolation_laws.specs.graph_rows.Holds.{Sort, Anything, Wide, Word, Own, Tree, sort, sort_by, object_sort, type_sort, field_sort_of, Fits, unnamed, refers, refers_in, SlotFits, AreSlots, named_by, Waiting, Stands, trees, MayHold, held_by, tree_held, held_at, half, is_tree_object, is_tree_sort}
use Rattle.kilim_isolation_laws.specs.graph_rows.Outcome.{Left}
use Rattle.kilim_isolation_laws.proofs.graph_rows.Settle.{not_true, or_left, or_right, and_left, and_right}
use Rattle.kilim_isolation_laws.proofs.graph_rows.Heaps.{half_even}
use Rattle.kilim_isolation_laws.proofs.graph_rows.Passed.{takes_passed, moves_passed, rule_passed}
use Rattle.kilim_isolation_laws.proofs.graph_rows.Words.{some_h, object_h}
use Rattle.kilim_isolation_laws.proofs.graph_rows.Plain.{IsStep, E, moved, dropped}
use Rattle.kilim_isolation_laws.proofs.graph_rows.Fields.{slot_sort, no_tree_sort, tree_sort, null_or_own, tree_not_own, read_holds}

-- ---- slots by their numbers

pub slot_peeked : (p : Program) (m : Method) (h : Objects) (u : Named) (count : ℕ) (ts : List VType) (xs : List (Option ℕ)) (vs : List Value) → AreSlots p m h u count ts xs vs → (k : ℕ) (v : Value) → slice_get vs k ≡ Some v →
    SlotFits p h u count (sort p m (peek ts k)) (slot xs k) v
slot_peeked p m h u count [] [] [] s k v e = absurd (cc)
slot_peeked p m h u count (t ∷ ts) (x ∷ xs) (w ∷ vs) s zero v e = subst (SlotFits p h u count (sort p m t) x) (the w e) s.0
  where
    the : (y : Value) → Some y ≡ Some v → y ≡ v
    the y q = cc
slot_peeked p m h u count (t ∷ ts) (x ∷ xs) (w ∷ vs) s (suc k) v e = slot_peeked p m h u count ts xs vs s.1 k v e
slot_peeked p m h u count [] [] (w ∷ vs) s k v e = absurd s
slot_peeked p m h u count [] (x ∷ xs) vs s k v e = absurd s
slot_peeked p m h u count (t ∷ ts) [] vs s k v e = absurd s
slot_peeked p m h u count (t ∷ ts) (x ∷ xs) [] s k v e = absurd s

pub slot_lives : (g : Graph) (xs : List (Option ℕ)) → list_any (names_gone g) xs ≡ false → (k n : ℕ) → slot xs k ≡ Some n → is_gone (node_at g.nodes n).standing ≡ false
slot_lives g [] e k n is = absurd (cc)
slot_lives g (x ∷ xs) e zero n is = ap (names_gone g) (sym is) ∙ or_left (names_gone g x) (list_any (names_gone g) xs) e
slot_lives g (x ∷ xs) e (suc k) n is = slot_lives g xs (or_right (names_gone g x) (list_any (names_gone g) xs) e) k n is

pub met : (p : Program) (os : List Operand) (ts : List VType) (k : ℕ) (o : Operand) → slice_get os k ≡ Some o → all_meet p os ts ≡ true → meets p o (peek ts k) ≡ true
met p [] ts k o is e = absurd (cc)
met p (y ∷ os) [] k o is e = absurd (true≢false (sym e))
met p (y ∷ os) (t ∷ ts) zero o is e = ap (λ z. meets p z t) (sym (the y is)) ∙ and_left (meets p y t) (all_meet p os ts) e
  where
    the : (z : Operand) → Some z ≡ Some o → z ≡ o
    the z w = cc
met p (y ∷ os) (t ∷ ts) (suc k) o is e = met p os ts k o is (and_right (meets p y t) (all_meet p os ts) e)

-- ---- sorts that are known

pub not_anything : (p : Program) (ty : Ty) (k : Kind) → sort_by p ty k ≡ Anything → ⊥
not_anything p ty kind.Value e = cc
not_anything p ty kind.Tree e = cc
not_anything p ty kind.Private e = cc

pub object_known : (p : Program) (m : Method) (ty : Ty) (t : VType) → assignable p t (vtype.Object ty) ≡ true → sort p m t ≡ Anything → ⊥
unfolding sort
object_known p m ty vtype.Top e is = true≢false (sym e)
object_known p m ty vtype.Int e is = true≢false (sym e)
object_known p m ty vtype.Long e is = true≢false (sym e)
object_known p m ty vtype.UninitThis e is = true≢false (sym e)
object_known p m ty (vtype.Uninit at) e is = true≢false (sym e)
object_known p m ty vtype.Null e is = absurd (cc)
object_known p m ty (vtype.Object a) e is = not_anything p a (kind_of p a) is

-- ---- what a tree holds

pub tree_to : (p : Program) (h : Objects) (n : ℕ) (object : Object) → get h n ≡ Some object → is_tree_object p (get h n) ≡ true → (i : ℕ) → (trees p h).to n i ≡ held_by object (half i)
tree_to p h n object there is i = ap (λ z. held_at p z i) there ∙ by (object_sort p object.class) (ap (is_tree_object p) (sym there) ∙ is)
  where
    by : (s : Sort) → is_tree_sort s ≡ true → tree_held object s i ≡ held_by object (half i)
    by (Tree dims stuff) e = refl
    by Anything e = absurd (true≢false (sym e))
    by Wide e = absurd (true≢false (sym e))
    by Word e = absurd (true≢false (sym e))
    by Own e = absurd (true≢false (sym e))

pub field_held : (p : Program) (h : Objects) (n : ℕ) (object : Object) → get h n ≡ Some object → is_tree_object p (get h n) ≡ true → (f : FieldId) (v : Value) → field_in object.fields f ≡ Some v →
    refers v ≡ (trees p h).to n (2 * f.0)
field_held p h n object there is f v e = sym (tree_to p h n object there is (2 * f.0) ∙ ap (held_by object) (half_even f.0) ∙ ap refers_in e)

pub missing_never : (p : Program) (m : Method) (at : ℕ) (f f1 : Types) → by_row p m at missing f ≡ Ok f1 → ⊥
missing_never p m at f f1 e =
    let a = rule_passed 3 (type.has_operands 0 f.stack) _ f1 e in
    let b = rule_passed 4 (type.room_for m [] f.stack) _ f1 a.1 in
    let c = rule_passed 5 true _ f1 b.1 in
    err_ok c.1
  where
    err_ok : ◌≡◌ {A = Result Types ℕ} (Err 8) (Ok f1) → ⊥
    err_ok w = cc

module _ (p : Program) (m : Method) (pl to : ℕ) (f f1 : Types) (g g1 : Graph) (at : ℕ → Option ℕ) (h : Objects) (ls st : List Value) (below : List Waiting) (after : Option Types) where
  -- the object in a slot is a tree, unless it is private
  pub tree_here : Stands p m f g at h ls st below → (k n : ℕ) (object : Object) → slice_get st k ≡ Some (Ref n) → get h n ≡ Some object → (sort p m (peek f.stack k) ≡ Anything → ⊥) → (object_sort p object.class ≡ Own → ⊥) →
      is_tree_object p (get h n) ≡ true
  tree_here hd k n object e there known no_own = by (slot g.stack k) refl (slot_peeked p m h (named_by g at) (length g.nodes) f.stack g.stack st hd.holds.slots.on_stack k (Ref n) e)
    where
      by : (x : Option ℕ) → slot g.stack k ≡ x → SlotFits p h (named_by g at) (length g.nodes) (sort p m (peek f.stack k)) x (Ref n) → is_tree_object p (get h n) ≡ true
      by None is s = absurd (no_own (null_or_own p h (sort p m (peek f.stack k)) n object there known s))
      by (Some a) is s = hd.holds.frames.0.there a n (slot_lives g g.stack (not_true (list_any (names_gone g) g.stack) hd.live) k a is, sym s.0)

  module _ (i : FieldId) (s : IsStep p m pl to f f1 g g1 at h ls st below after (instr.Getfield i)) (n : ℕ) (object : Object) (rest : List Value) (e : st ≡ Ref n ∷ rest) (there : get h n ≡ Some object) (v : Value)
      (has : field_in object.fields i ≡ Some v) (field : Field) (is : field_of p i ≡ Some field) where
    entry : Fits p h (type_sort p field.ty) v × MayHold (object_sort p object.class) (type_sort p field.ty)
    entry = subst (λ z. Fits p h (field_sort_of p z) v × MayHold (object_sort p object.class) (field_sort_of p z)) is ((s.0.holds.heap n object there).fields i v has)

    rest_slots : AreSlots p m h (named_by g at) (length g.nodes) (drop 1 f.stack) (drop 1 g.stack) rest
    rest_slots = subst (λ z. AreSlots p m h (named_by g at) (length g.nodes) (drop 1 f.stack) (drop 1 g.stack) z) (ap (drop 1) e) (dropped p m h (named_by g at) (length g.nodes) 1 f.stack g.stack st s.0.holds.slots.on_stack)

    receiver : slice_get st 0 ≡ Some (Ref n)
    receiver = ap (λ z. slice_get z 0) e

    value_case : (k : Kind) → kind_of p field.ty ≡ k → (k ≡ kind.Tree → ⊥) → Left p m (record f { stack = type.vtype field.ty ∷ drop 1 f.stack }) (push None (popped 1 g)) h ls (v ∷ rest) below
    value_case k kd not = (
      at,
      moved p m f (record f { stack = type.vtype field.ty ∷ drop 1 f.stack }) g g.locals (None ∷ drop 1 g.stack) at h ls st ls (v ∷ rest) below s.0.holds (record {
        on_stack = (subst (λ z. Fits p h z v) (sym (ap unnamed (slot_sort p m field.ty) ∙ no_tree_sort p field.ty k kd not)) entry.0, rest_slots);
        in_locals = s.0.holds.slots.in_locals;
      }),
    )

    tree_case : assignable p (peek f.stack 0) (class_vtype field.owner) ≡ true → kind_of p field.ty ≡ kind.Tree →
        Left p m (record f { stack = type.vtype field.ty ∷ drop 1 f.stack }) (read_from (popped 1 g) (label.Field i) (slot g.stack 0)) h ls (v ∷ rest) below
    tree_case meets_it kd =
        let t = tree_sort p field.ty kd in
        let known = object_known p m _ (peek f.stack 0) meets_it in
        let no_own : object_sort p object.class ≡ Own → ⊥ = λ own. tree_not_own 0 p (object_sort p object.class) (type_sort p field.ty) entry.1 own t.0 t.1 t.2 in
        let tree = tree_here s.0 0 n object receiver there known no_own in
        read_holds p m f g at h ls st below s.0 (label.Field i) (2 * i.0) n refl (drop 1 f.stack) (drop 1 g.stack) rest rest_slots (type.vtype field.ty) t.0 t.1 (slot_sort p m field.ty ∙ t.2) v
        (subst (λ z. Fits p h z v) t.2 entry.0) (field_held p h n object there tree i v has) (peek f.stack 0) (slot g.stack 0) object
        (slot_peeked p m h (named_by g at) (length g.nodes) f.stack g.stack st s.0.holds.slots.on_stack 0 (Ref n) receiver)
        (λ a x. slot_lives g g.stack (not_true (list_any (names_gone g) g.stack) s.0.live) 0 a x) known there no_own (λ a c w j pl'. pl')

    by_kind : assignable p (peek f.stack 0) (class_vtype field.owner) ≡ true → (k : Kind) → kind_of p field.ty ≡ k →
        Left p m (record f { stack = type.vtype field.ty ∷ drop 1 f.stack }) (reads k 1 (label.Field i) (slot g.stack 0) g) h ls (v ∷ rest) below
    by_kind meets_it kind.Value kd = value_case kind.Value kd (λ w. cc)
    by_kind meets_it kind.Private kd = value_case kind.Private kd (λ w. cc)
    by_kind meets_it kind.Tree kd = tree_case meets_it kd

  getfield_left : (i : FieldId) (s : IsStep p m pl to f f1 g g1 at h ls st below after (instr.Getfield i)) (n : ℕ) (object : Object) (rest : List Value) → st ≡ Ref n ∷ rest → get h n ≡ Some object → (v : Value) →
      field_in object.fields i ≡ Some v → (o : Option Field) → field_of p i ≡ o → Left p m f1 g1 h ls (v ∷ rest) below
  unfolding row deed meets
  getfield_left i s n object rest e there v has None is = absurd (missing_never p m pl f f1 (subst (λ z. by_row p m pl (field_row (instr.Getfield i) m z) f ≡ Ok f1) is s.1))
  getfield_left i s n object rest e there v has (Some field) is =
      let t = takes_passed p m pl (Is (class_vtype field.owner) ∷ []) (type.vtype field.ty ∷ []) (type.needs 8 (not field.is_static && type.may_name m field.is_private field.owner) ∷ []) f f1 (subst (λ z. by_row p m pl (field_row (instr.Getfield i) m z) f ≡ Ok f1) is s.1) in
      let q = moves_passed p m g f (instr.Getfield i) after g1 s.2 in
      let graph = q.graph ∙ ap (λ z. (gets_field p g i z).graph) is in
      subst (λ z. Left p m z g1 h ls (v ∷ rest) below) (sym t.1) (subst (λ z. Left p m (record f { stack = type.vtype field.ty ∷ drop 1 f.stack }) z h ls (v ∷ rest) below) (sym graph)
      (by_kind i s n object rest e there v has field is (met p (Is (class_vtype field.owner) ∷ []) f.stack 0 (Is (class_vtype field.owner)) refl t.0) (kind_of p field.ty) refl))

  pub getfield_h : (i : FieldId) → IsStep p m pl to f f1 g g1 at h ls st below after (instr.Getfield i) → E p m pl to f f1 g g1 at h ls st below after (instr.Getfield i) (does p m (instr.Getfield i) to ls st h)
  unfolding does ends_path jump_targets
  getfield_h i s = object_h (E p m pl to f f1 g g1 at h ls st below after (instr.Getfield i)) tt (λ c. tt) (λ c. tt) st h _ (λ n object rest e there. some_h (E p m pl to f f1 g g1 at h ls st below after (instr.Getfield i)) tt (λ c. tt) (λ c. tt) (field_in object.fields i) _
      (λ v has. (inl refl, getfield_left i s n object rest e there v has (field_of p i) refl)))
