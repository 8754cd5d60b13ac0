-- Stores of numbers into arrays, and `iinc`.
use Rattle.std.proofs.Common.{◌≡◌, ℕ, ◌==◌, ℤ, true, false, true≢false, ◌&&◌, List, [], ◌∷◌, length, Option, Some, None, Result, Ok, refl, sym, ap, subst, ◌∙◌, inl, inr}
use Rattle.std.specs.FinMap.{get, insert}
use Rattle.std.specs.List.{list_any}
use Rattle.std.specs.Int.{int_wrapping_add, w32}
use Rattle.std.specs.Prelude.{drop, nat_lt, slice_get, slice_set}
use Rattle.kilim_program.specs.declared.class.Method.{Method}
use Rattle.kilim_program.specs.declared.instr.Instr.{Instr}
use Rattle.kilim_program.specs.declared.instr.Instr.TheVariants as instr
use Rattle.kilim_program.specs.declared.ty.Base.{Base}
use Rattle.kilim_program.specs.declared.ty.Base.TheVariants as base
use Rattle.kilim_program.specs.declared.ty.Ty.{Ty}
use Rattle.kilim_program.specs.declared.names.ClassId.{ClassId}
use Rattle.kilim_program.specs.declared.value.Value.{Value}
use Rattle.kilim_program.specs.declared.value.Value.TheVariants.{Int, Long, Null, Ref, Text, Box, Fiber}
use Rattle.kilim_program.specs.declared.verified.VType.{VType}
use Rattle.kilim_program.specs.declared.verified.VType.TheVariants as vtype
use Rattle.kilim_program.specs.Lengths.{ends_path, jump_targets}
use Rattle.kilim_program.specs.Program.{Program}
use Rattle.kilim_program.specs.Same.{same_base}
use Rattle.kilim_run_state.specs.declared.value.Object.{Object}
use Rattle.kilim_run_machine.specs.Does.{does, element_type}
use Rattle.kilim_run_machine.specs.Effect.{Effect, is_wide}
use Rattle.kilim_run_state.specs.Machine.{Objects}
use Rattle.kilim_type_spec.specs.Step as type
use Rattle.kilim_type_spec.specs.Step.{ArrayOf, Is, Operand, Takes, Types, assignable, is_array_of, meets, peek, row, type_step}
use Rattle.kilim_isolation_laws.specs.forest.Canonical.{node_at}
use Rattle.kilim_isolation_laws.specs.forest.Relation.{is_gone}
use Rattle.kilim_isolation_laws.proofs.forest.Store.{is_same}
use Rattle.kilim_isolation_graph.specs.declared.graph.Graph.{Graph}
use Rattle.kilim_isolation_graph.specs.Graphs.{slot}
use Rattle.kilim_isolation_rules.specs.declared.deed.Deed.{Deed}
use Rattle.kilim_isolation_rules.specs.Rules.{by_types, deed}
use Rattle.kilim_isolation_rules.specs.Marks.{names_gone}
use Rattle.kilim_isolation_laws.specs.graph_rows.Holds.{Anything, AreSlots, Fits, Holds, IsOf, Own, SlotFits, Sort, Stands, Stuff, Tree, Waiting, Wide, Word, named_by, object_sort, refers, sort, type_sort, value_at}
use Rattle.kilim_isolation_laws.specs.graph_rows.Outcome.{Left}
use Rattle.kilim_isolation_laws.proofs.graph_rows.Arrays.{array_after, array_fits, array_grows, array_has, array_same}
use Rattle.kilim_isolation_laws.proofs.graph_rows.Elements.{elements_same, minus_one, of_slot, own_elements, sort_private}
use Rattle.kilim_isolation_laws.proofs.graph_rows.Fields.{private_sort}
use Rattle.kilim_isolation_laws.proofs.graph_rows.Heaps.{some_same}
use Rattle.kilim_isolation_laws.proofs.graph_rows.Locals.{value_get, value_set}
use Rattle.kilim_isolation_laws.proofs.graph_rows.Passed.{moves_passed, ok_is, rule_passed, takes_passed}
use Rattle.kilim_isolation_laws.proofs.graph_rows.Plain.{E, IsPlain, IsStep, dropped, moved}
use Rattle.kilim_isolation_laws.proofs.graph_rows.Putting.{same_holds}
use Rattle.kilim_isolation_laws.proofs.graph_rows.Reading.{met, not_anything, slot_lives, slot_peeked}
use Rattle.kilim_isolation_laws.proofs.graph_rows.Settle.{and_left, and_right, not_true}
use Rattle.kilim_isolation_laws.proofs.graph_rows.Words.{index_h, int_h, object_h, on_int_h, on_long_h, some_h}

-- what the elements are of, by the primitive types that an instruction takes
pub word_elements : (p : Program) (bases : List Base) → list_any (same_base base.Long) bases ≡ false → ((c : ClassId) → list_any (same_base (base.Class c)) bases ≡ false) → (b : Base) → list_any (same_base b) bases ≡ true →
    type_sort p (record { dims = 0; base = b }) ≡ Word
word_elements p bases long class base.Bool e = refl
word_elements p bases long class base.Byte e = refl
word_elements p bases long class base.Char e = refl
word_elements p bases long class base.Short e = refl
word_elements p bases long class base.Int e = refl
word_elements p bases long class base.Long e = absurd (true≢false (sym e ∙ long))
word_elements p bases long class (base.Class c) e = absurd (true≢false (sym e ∙ class c))

wide_elements : (p : Program) (b : Base) → list_any (same_base b) (base.Long ∷ []) ≡ true → type_sort p (record { dims = 0; base = b }) ≡ Wide
wide_elements p base.Long e = refl
wide_elements p base.Bool e = absurd (true≢false (sym e))
wide_elements p base.Byte e = absurd (true≢false (sym e))
wide_elements p base.Char e = absurd (true≢false (sym e))
wide_elements p base.Short e = absurd (true≢false (sym e))
wide_elements p base.Int e = absurd (true≢false (sym e))
wide_elements p (base.Class c) e = absurd (true≢false (sym e))

wide_none : (v : Value) → is_wide v ≡ true → refers v ≡ None
wide_none (Long x) e = refl
wide_none (Int x) e = refl
wide_none Null e = refl
wide_none (Ref n) e = absurd (true≢false (sym e))
wide_none (Text units) e = refl
wide_none (Box box) e = refl
wide_none Fiber e = refl

module _ (p : Program) (m : Method) (pl to : ℕ) (f f1 : Types) (g g1 : Graph) (at : ℕ → Option ℕ) (h : Objects) (ls st : List Value) (below : List Waiting) (after : Option Types) where
  abbrev EI : Instr → Effect → Type 0
  EI i e = E p m pl to f f1 g g1 at h ls st below after i e

  module _ (i : Instr) (s : IsStep p m pl to f f1 g g1 at h ls st below after i) (o : Operand) (bases : List Base) (is : IsPlain p m pl to f f1 g g1 at h ls st below after i (o ∷ Is vtype.Int ∷ ArrayOf bases ∷ []) [] [])
      (z : Sort) (no_own : z ≡ Own → ⊥) (none : (v : Value) → Fits p h z v → refers v ≡ None) (elements : (b : Base) → list_any (same_base b) bases ≡ true → type_sort p (record { dims = 0; base = b }) ≡ z)
      (x y : Value) (n : ℕ) (object : Object) (rest : List Value) (e : st ≡ x ∷ y ∷ Ref n ∷ rest) (there : get h n ≡ Some object) (k : ℕ) (old : Value) (has : slice_get object.elements k ≡ Some old) (w : Value) (fits : Fits p h z w) where
    typed : (type.all_meet p (o ∷ Is vtype.Int ∷ ArrayOf bases ∷ []) f.stack ≡ true) × (f1 ≡ record f { stack = drop 3 f.stack })
    typed = takes_passed p m pl (o ∷ Is vtype.Int ∷ ArrayOf bases ∷ []) [] [] f f1 (subst (λ r. type.by_row p m pl r f ≡ Ok f1) is.0 s.1)

    graph : g1 ≡ record g { stack = drop 3 g.stack }
    graph = (moves_passed p m g f i after g1 s.2).graph ∙ ap (λ (d : Deed). d.graph) is.1 ∙ ap (by_types g f) is.0

    array : SlotFits p h (named_by g at) (length g.nodes) (sort p m (peek f.stack 2)) (slot g.stack 2) (Ref n)
    array = slot_peeked p m h (named_by g at) (length g.nodes) f.stack g.stack st s.0.holds.slots.on_stack 2 (Ref n) (ap (λ q. slice_get q 2) e)

    lives : (a : ℕ) → slot g.stack 2 ≡ Some a → is_gone (node_at g.nodes a).standing ≡ false
    lives a q = slot_lives g g.stack (not_true (Rattle.std.specs.List.list_any (names_gone g) g.stack) s.0.live) 2 a q

    same_object : (q : Sort) → IsOf p h n q → object_sort p object.class ≡ q
    same_object q of = ap (λ (ob : Object). object_sort p ob.class) (some_same object of.0 (sym there ∙ of.1)) ∙ of.2

    null_no : sort p m vtype.Null ≡ Word
    unfolding sort
    null_no = refl

    object_is : (ty : Ty) → sort p m (vtype.Object ty) ≡ object_sort p ty
    unfolding sort
    object_is ty = refl

    -- the elements of the array that is there are of that sort
    element_is : (t : VType) → peek f.stack 2 ≡ t → meets p (ArrayOf bases) t ≡ true → type_sort p (element_type object.class) ≡ z
    unfolding meets
    element_is vtype.Null q a = elim (of_slot p h (named_by g at) (length g.nodes) (sort p m (peek f.stack 2)) (slot g.stack 2) n array lives (λ any. absurd (word_any (sym (ap (sort p m) q ∙ null_no) ∙ any)))) [
      | inl v ↦ absurd (word_tree v.0 v.1 (sym (ap (sort p m) q ∙ null_no) ∙ v.2))
      | inr v ↦ absurd (word_own (sym (ap (sort p m) q ∙ null_no) ∙ v.0))
    ]
      where
        word_any : Word ≡ Anything → ⊥
        word_any q = cc

        word_own : Word ≡ Own → ⊥
        word_own q = cc

        word_tree : (d : ℕ) (s : Stuff) → Word ≡ Tree d s → ⊥
        word_tree d s q = cc
    element_is (vtype.Object ty) q a = elim (of_slot p h (named_by g at) (length g.nodes) (sort p m (peek f.stack 2)) (slot g.stack 2) n array lives
        (λ any. not_anything p ty (Rattle.kilim_program.specs.Kinds.kind_of p ty) (sym (ap (sort p m) q ∙ object_is ty) ∙ any))) [
          | inl v ↦ elements_same p object.class ty 0 v.0 v.1 dims (sym (ap (sort p m) q ∙ object_is ty) ∙ v.2) (same_object (Tree v.0 v.1) v.3) ∙ mine
          | inr v ↦ absurd (no_own (sym mine ∙ private_sort p (element_type ty) (own_elements p ty (sort_private p ty (Rattle.kilim_program.specs.Kinds.kind_of p ty) (sym (ap (sort p m) q ∙ object_is ty) ∙ v.0)))))
        ]
      where
        dims : ty.dims ≡ 1
        dims = is_same ty.dims 1 (and_left (ty.dims == 1) (list_any (same_base ty.base) bases) a)

        mine : type_sort p (element_type ty) ≡ z
        mine = ap (type_sort p) (minus_one ty 0 dims) ∙ elements ty.base (and_right (ty.dims == 1) (list_any (same_base ty.base) bases) a)
    element_is vtype.Top q a = absurd (true≢false (sym a))
    element_is vtype.Int q a = absurd (true≢false (sym a))
    element_is vtype.Long q a = absurd (true≢false (sym a))
    element_is vtype.UninitThis q a = absurd (true≢false (sym a))
    element_is (vtype.Uninit pl') q a = absurd (true≢false (sym a))

    element_sort : type_sort p (element_type object.class) ≡ z
    element_sort = element_is (peek f.stack 2) refl (met p (o ∷ Is vtype.Int ∷ ArrayOf bases ∷ []) f.stack 2 (ArrayOf bases) refl typed.0)

    pub number_stored : Left p m f1 g1 (array_after p h n object there k old w has) ls rest below
    number_stored = (
      at,
      subst (λ q. Holds p m q g1 at (array_after p h n object there k old w has) ls rest below) (sym typed.1)
          (subst (λ q. Holds p m (record f { stack = drop 3 f.stack }) q at (array_after p h n object there k old w has) ls rest below) (sym graph)
          (same_holds p m f g at h (array_after p h n object there k old w has) ls st below s.0.holds (array_grows p h n object there k old w has)
          (array_fits p h n object there k old w has s.0.holds.heap (subst (λ q. Fits p h q w) (sym element_sort) fits)) (array_has p h n object there k old w has)
          (array_same p h n object there k old w has (λ d q tree. none w fits ∙ sym (none old (subst (λ v. Fits p h v old) element_sort ((s.0.holds.heap n object there).elements k old has).0))))
          (drop 3 f.stack) (drop 3 g.stack) rest
          (subst (λ q. AreSlots p m h (named_by g at) (length g.nodes) (drop 3 f.stack) (drop 3 g.stack) q) (ap (drop 3) e) (dropped p m h (named_by g at) (length g.nodes) 3 f.stack g.stack st s.0.holds.slots.on_stack)))),
    )

  word_own : Word ≡ Own → ⊥
  word_own q = cc

  wide_own : Wide ≡ Own → ⊥
  wide_own q = cc

  pub iastore_h : IsStep p m pl to f f1 g g1 at h ls st below after instr.Iastore → EI instr.Iastore (does p m instr.Iastore to ls st h)
  unfolding does row deed ends_path jump_targets
  iastore_h s = on_int_h (EI instr.Iastore) tt (λ c. tt) (λ c. tt) st _ (λ x above e. on_int_h (EI instr.Iastore) tt (λ c. tt) (λ c. tt) above _ (λ j under e'. object_h (EI instr.Iastore) tt (λ c. tt) (λ c. tt) under h _ (λ n object rest e'' there.
      index_h (EI instr.Iastore) tt (λ c. tt) (λ c. tt) object.elements j _ (λ k old has. (
        inl refl,
        number_stored instr.Iastore s (Is vtype.Int) (base.Int ∷ []) (refl, refl) Word word_own (λ v q. q.1)
            (word_elements p (base.Int ∷ []) refl (λ c. refl)) (Int x) (Int j) n object rest (e ∙ ap (λ q. Int x ∷ q) (e' ∙ ap (λ q. Int j ∷ q) e'')) there k old has (Int _) (refl, refl),
      )))))

  pub bastore_h : IsStep p m pl to f f1 g g1 at h ls st below after instr.Bastore → EI instr.Bastore (does p m instr.Bastore to ls st h)
  unfolding does row deed ends_path jump_targets
  bastore_h s = on_int_h (EI instr.Bastore) tt (λ c. tt) (λ c. tt) st _ (λ x above e. on_int_h (EI instr.Bastore) tt (λ c. tt) (λ c. tt) above _ (λ j under e'. object_h (EI instr.Bastore) tt (λ c. tt) (λ c. tt) under h _ (λ n object rest e'' there.
      index_h (EI instr.Bastore) tt (λ c. tt) (λ c. tt) object.elements j _ (λ k old has. (
        inl refl,
        number_stored instr.Bastore s (Is vtype.Int) (base.Byte ∷ base.Bool ∷ []) (refl, refl) Word word_own (λ v q. q.1)
            (word_elements p (base.Byte ∷ base.Bool ∷ []) refl (λ c. refl)) (Int x) (Int j) n object rest (e ∙ ap (λ q. Int x ∷ q) (e' ∙ ap (λ q. Int j ∷ q) e'')) there k old has (Int _) (refl, refl),
      )))))

  pub castore_h : IsStep p m pl to f f1 g g1 at h ls st below after instr.Castore → EI instr.Castore (does p m instr.Castore to ls st h)
  unfolding does row deed ends_path jump_targets
  castore_h s = on_int_h (EI instr.Castore) tt (λ c. tt) (λ c. tt) st _ (λ x above e. on_int_h (EI instr.Castore) tt (λ c. tt) (λ c. tt) above _ (λ j under e'. object_h (EI instr.Castore) tt (λ c. tt) (λ c. tt) under h _ (λ n object rest e'' there.
      index_h (EI instr.Castore) tt (λ c. tt) (λ c. tt) object.elements j _ (λ k old has. (
        inl refl,
        number_stored instr.Castore s (Is vtype.Int) (base.Char ∷ []) (refl, refl) Word word_own (λ v q. q.1)
            (word_elements p (base.Char ∷ []) refl (λ c. refl)) (Int x) (Int j) n object rest (e ∙ ap (λ q. Int x ∷ q) (e' ∙ ap (λ q. Int j ∷ q) e'')) there k old has (Int _) (refl, refl),
      )))))

  pub sastore_h : IsStep p m pl to f f1 g g1 at h ls st below after instr.Sastore → EI instr.Sastore (does p m instr.Sastore to ls st h)
  unfolding does row deed ends_path jump_targets
  sastore_h s = on_int_h (EI instr.Sastore) tt (λ c. tt) (λ c. tt) st _ (λ x above e. on_int_h (EI instr.Sastore) tt (λ c. tt) (λ c. tt) above _ (λ j under e'. object_h (EI instr.Sastore) tt (λ c. tt) (λ c. tt) under h _ (λ n object rest e'' there.
      index_h (EI instr.Sastore) tt (λ c. tt) (λ c. tt) object.elements j _ (λ k old has. (
        inl refl,
        number_stored instr.Sastore s (Is vtype.Int) (base.Short ∷ []) (refl, refl) Word word_own (λ v q. q.1)
            (word_elements p (base.Short ∷ []) refl (λ c. refl)) (Int x) (Int j) n object rest (e ∙ ap (λ q. Int x ∷ q) (e' ∙ ap (λ q. Int j ∷ q) e'')) there k old has (Int _) (refl, refl),
      )))))

  pub lastore_h : IsStep p m pl to f f1 g g1 at h ls st below after instr.Lastore → EI instr.Lastore (does p m instr.Lastore to ls st h)
  unfolding does row deed ends_path jump_targets
  lastore_h s = on_long_h (EI instr.Lastore) tt (λ c. tt) (λ c. tt) st _ (λ x above e. on_int_h (EI instr.Lastore) tt (λ c. tt) (λ c. tt) above _ (λ j under e'. object_h (EI instr.Lastore) tt (λ c. tt) (λ c. tt) under h _ (λ n object rest e'' there.
      index_h (EI instr.Lastore) tt (λ c. tt) (λ c. tt) object.elements j _ (λ k old has. (
        inl refl,
        number_stored instr.Lastore s (Is vtype.Long) (base.Long ∷ []) (refl, refl) Wide wide_own (λ v q. wide_none v q)
            (wide_elements p) (Long x) (Int j) n object rest (e ∙ ap (λ q. Long x ∷ q) (e' ∙ ap (λ q. Int j ∷ q) e'')) there k old has (Long x) refl,
      )))))

  -- ---- an int in a local is changed

  counted : (n : ℕ) (v : Value) → slice_get ls n ≡ Some v → (x y : ℤ) → v ≡ Int x → (peek f.locals n ≡ vtype.Int) → Stands p m f g at h ls st below → (j : ℕ) →
      SlotFits p h (named_by g at) (length g.nodes) (sort p m (peek f.locals j)) (slot g.locals j) (value_at (slice_set ls n (Int y)) j)
  unfolding sort
  counted n v there x y is int s j = elim (value_set ls n v (Int y) there j) [
    | inr w ↦ subst (SlotFits p h (named_by g at) (length g.nodes) (sort p m (peek f.locals j)) (slot g.locals j)) (sym w.1) (s.holds.slots.in_locals j)
    | inl w ↦ subst (SlotFits p h (named_by g at) (length g.nodes) (sort p m (peek f.locals j)) (slot g.locals j)) (sym w.1)
        (subst (λ q. SlotFits p h (named_by g at) (length g.nodes) (sort p m (peek f.locals q)) (slot g.locals q) (Int y)) (sym w.0)
        (subst (λ q. SlotFits p h (named_by g at) (length g.nodes) (sort p m q) (slot g.locals n) (Int y)) (sym int)
        (same (slot g.locals n) (subst (λ q. SlotFits p h (named_by g at) (length g.nodes) (sort p m q) (slot g.locals n) (Int x)) int
        (subst (SlotFits p h (named_by g at) (length g.nodes) (sort p m (peek f.locals n)) (slot g.locals n)) (value_get ls n v there ∙ is) (s.holds.slots.in_locals n))))))
  ]
    where
      same : (a : Option ℕ) → SlotFits p h (named_by g at) (length g.nodes) Word a (Int x) → SlotFits p h (named_by g at) (length g.nodes) Word a (Int y)
      same None q = (refl, refl)
      same (Some a) q = (q.0, q.1, λ live. (refl, refl))

  int_is : (t : VType) → assignable p t vtype.Int ≡ true → t ≡ vtype.Int
  int_is vtype.Int e = refl
  int_is vtype.Top e = absurd (true≢false (sym e))
  int_is vtype.Long e = absurd (true≢false (sym e))
  int_is vtype.Null e = absurd (true≢false (sym e))
  int_is vtype.UninitThis e = absurd (true≢false (sym e))
  int_is (vtype.Uninit pl') e = absurd (true≢false (sym e))
  int_is (vtype.Object ty) e = absurd (true≢false (sym e))

  pub iinc_h : (n : ℕ) (by : ℤ) → IsStep p m pl to f f1 g g1 at h ls st below after (instr.Iinc n by) → EI (instr.Iinc n by) (does p m (instr.Iinc n by) to ls st h)
  unfolding does row deed ends_path jump_targets meets
  iinc_h n by s = some_h (EI (instr.Iinc n by)) tt (λ c. tt) (λ c. tt) (slice_get ls n) _ (λ v there. int_h (EI (instr.Iinc n by)) tt (λ c. tt) (λ c. tt) v _ (λ x is. (
    inl refl,
    (
      at,
      subst (λ q. Holds p m q g1 at h (slice_set ls n (Int (int_wrapping_add w32 x by))) st below) (sym (ok_is f f1 passed.1)) (subst (λ q. Holds p m f q at h (slice_set ls n (Int (int_wrapping_add w32 x by))) st below) (sym (moves_passed p m g f (instr.Iinc n by) after g1 s.2).graph)
          (moved p m f f g g.locals g.stack at h ls st (slice_set ls n (Int (int_wrapping_add w32 x by))) st below s.0.holds (record {
            on_stack = s.0.holds.slots.on_stack;
            in_locals = counted n v there x (int_wrapping_add w32 x by) is (int_is (peek f.locals n) (and_right (nat_lt n m.max_locals) (assignable p (peek f.locals n) vtype.Int) passed.0)) s.0;
          }))),
    ),
  )))
    where
      passed : ((nat_lt n m.max_locals && assignable p (peek f.locals n) vtype.Int) ≡ true) × (◌≡◌ {A = Result Types ℕ} (Ok f) (Ok f1))
      passed = rule_passed 6 (nat_lt n m.max_locals && assignable p (peek f.locals n) vtype.Int) _ f1 s.1
