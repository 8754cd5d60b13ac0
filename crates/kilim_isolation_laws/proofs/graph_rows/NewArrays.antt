-- newarray and anewarray.
use Rattle.std.proofs.Common.{◌≡◌, ℕ, zero, suc, ℤ, pos, negsuc, Bool, true, false, true≢false, Ok, List, [], ◌∷◌, length, Option, Some, None, refl, sym, ap, subst, ◌∙◌, inl}
use Rattle.std.specs.FinMap.{get, insert}
use Rattle.std.specs.Prelude.{drop, nat_lt, replicate, slice_get}
use Rattle.kilim_program.specs.declared.class.Method.{Method}
use Rattle.kilim_program.specs.declared.instr.Instr.{Instr}
use Rattle.kilim_program.specs.declared.instr.Instr.TheVariants as instr
use Rattle.kilim_program.specs.declared.names.ClassId.{ClassId}
use Rattle.kilim_program.specs.declared.names.FieldId.{FieldId}
use Rattle.kilim_program.specs.declared.ty.Base.{Base}
use Rattle.kilim_program.specs.declared.ty.Base.TheVariants as base
use Rattle.kilim_program.specs.declared.ty.Kind.{Kind}
use Rattle.kilim_program.specs.declared.ty.Kind.TheVariants as kind
use Rattle.kilim_program.specs.declared.ty.Ty.{Ty}
use Rattle.kilim_program.specs.declared.value.Value.{Value}
use Rattle.kilim_program.specs.declared.value.Value.TheVariants.{Int, Null, Ref}
use Rattle.kilim_program.specs.declared.verified.VType.TheVariants as vtype
use Rattle.kilim_program.specs.Kinds.{array_kind, base_kind, kind_of}
use Rattle.kilim_program.specs.Lengths.{ends_path, is_primitive, is_reference, is_reference_type, jump_targets}
use Rattle.kilim_program.specs.Program.{Program}
use Rattle.kilim_run_machine.specs.Does.{array_limit, array_of, does, element_type, makes_array}
use Rattle.kilim_run_machine.specs.Effect.{Effect}
use Rattle.kilim_run_state.specs.Machine.{Objects}
use Rattle.kilim_run_state.specs.Objects.{first_value_of, new_array}
use Rattle.kilim_run_state.specs.Shapes.{field_in}
use Rattle.kilim_type_spec.specs.Step as type
use Rattle.kilim_type_spec.specs.Step.{Further, Is, Takes, Types, row, type_step}
use Rattle.kilim_isolation_graph.specs.declared.graph.Graph.{Graph}
use Rattle.kilim_isolation_graph.specs.Graphs.{popped}
use Rattle.kilim_isolation_rules.specs.Rules.{deed}
use Rattle.kilim_isolation_rules.specs.Marks.{given}
use Rattle.kilim_isolation_laws.specs.graph_rows.Holds.{AreSlots, Fits, MayHold, ObjectFits, Waiting, held_by, is_tree_sort, named_by, object_sort, refers, refers_in, sort, sort_by, sort_of_vtype, type_sort}
use Rattle.kilim_isolation_laws.specs.graph_rows.Outcome.{Left}
use Rattle.kilim_isolation_laws.proofs.graph_rows.Elements.{array_is, minus_one}
use Rattle.kilim_isolation_laws.proofs.graph_rows.Making.{own_made, tree_made, zero_fits}
use Rattle.kilim_isolation_laws.proofs.graph_rows.Passed.{moves_passed, takes_passed}
use Rattle.kilim_isolation_laws.proofs.graph_rows.Plain.{E, IsStep, dropped}
use Rattle.kilim_isolation_laws.proofs.graph_rows.Words.{cond_h, on_int_h}

same_element : (v : Value) (count k : ℕ) (w : Value) → slice_get (replicate count v) k ≡ Some w → v ≡ w
same_element v zero k w e = absurd (cc)
same_element v (suc count) zero w e = cc
same_element v (suc count) (suc k) w e = same_element v count k w e

none_held : (ty : Ty) (v : Value) (count : ℕ) → refers v ≡ None → (z : Bool × ℕ) → held_by (new_array ty v count) z ≡ None
none_held ty v count none (false, k) = refl
none_held ty v count none (true, k) = by count k
  where
    by : (count k : ℕ) → refers_in (slice_get (replicate count v) k) ≡ None
    by zero k = refl
    by (suc count) zero = none
    by (suc count) (suc k) = by count k

-- a tree holds trees and values, a private array private objects and values
may_array : (p : Program) (d : ℕ) (b : Base) → MayHold (object_sort p (record { dims = suc d; base = b })) (type_sort p (record { dims = d; base = b }))
may_array p d b = subst (λ z. MayHold (sort_by p (record { dims = suc d; base = b }) z) (type_sort p (record { dims = d; base = b }))) (sym (array_is p d b)) (by d b (base_kind p b) refl)
  where
    deep : (d : ℕ) (b : Base) (k : Kind) → MayHold (sort_by p (record { dims = suc (suc d); base = b }) (array_kind k)) (sort_by p (record { dims = suc d; base = b }) (array_kind k))
    deep d b kind.Value = tt
    deep d b kind.Tree = tt
    deep d b kind.Private = tt

    flat : (c : ClassId) (k : Kind) → MayHold (sort_by p (record { dims = 1; base = base.Class c }) (array_kind k)) (sort_by p (record { dims = 0; base = base.Class c }) k)
    flat c kind.Value = tt
    flat c kind.Tree = tt
    flat c kind.Private = tt

    by : (d : ℕ) (b : Base) (k : Kind) → base_kind p b ≡ k → MayHold (sort_by p (record { dims = suc d; base = b }) (array_kind (base_kind p b))) (type_sort p (record { dims = d; base = b }))
    by (suc d) b k e = subst (λ z. MayHold (sort_by p (record { dims = suc (suc d); base = b }) (array_kind (base_kind p b))) (sort_by p (record { dims = suc d; base = b }) z)) (sym (array_is p d b)) (deep d b (base_kind p b))
    by zero (base.Class c) k e = flat c (base_kind p (base.Class c))
    by zero base.Bool k e = tt
    by zero base.Byte k e = tt
    by zero base.Char k e = tt
    by zero base.Short k e = tt
    by zero base.Int k e = tt
    by zero base.Long k e = tt

array_no_value : (p : Program) (d : ℕ) (b : Base) → kind_of p (record { dims = suc d; base = b }) ≡ kind.Value → ⊥
array_no_value p d b e = by (base_kind p b) (sym (array_is p d b) ∙ e)
  where
    by : (k : Kind) → array_kind k ≡ kind.Value → ⊥
    by kind.Value w = cc
    by kind.Tree w = cc
    by kind.Private w = cc

module _ (p : Program) (m : Method) (pl to : ℕ) (f f1 : Types) (g g1 : Graph) (at : ℕ → Option ℕ) (h : Objects) (ls st : List Value) (below : List Waiting) (after : Option Types) where
  abbrev EI : Instr → Effect → Type 0
  EI i e = E p m pl to f f1 g g1 at h ls st below after i e

  module _ (i : Instr) (s : IsStep p m pl to f f1 g g1 at h ls st below after i) (d : ℕ) (b : Base) (also : List Further) (is : row p m i ≡ Takes (Is vtype.Int ∷ []) (vtype.Object (record { dims = suc d; base = b }) ∷ []) also)
      (graph : (deed p m g f i).graph ≡ given (kind_of p (record { dims = suc d; base = b })) (popped 1 g)) (v : Value) (none : refers v ≡ None) (fits : (h' : Objects) → Fits p h' (type_sort p (record { dims = d; base = b })) v)
      (rest : List Value) (x : ℤ) (e : st ≡ Int x ∷ rest) (count : ℕ) (n : ℕ) (free : get h n ≡ None) where
    abbrev class : Ty
    class = record { dims = suc d; base = b }

    typed : f1 ≡ record f { stack = vtype.Object (record { dims = suc d; base = b }) ∷ drop 1 f.stack }
    typed = (takes_passed p m pl (Is vtype.Int ∷ []) (vtype.Object (record { dims = suc d; base = b }) ∷ []) also f f1 (subst (λ r. type.by_row p m pl r f ≡ Ok f1) is s.1)).1

    rest_slots : AreSlots p m h (named_by g at) (length g.nodes) (drop 1 f.stack) (drop 1 g.stack) rest
    rest_slots = subst (λ z. AreSlots p m h (named_by g at) (length g.nodes) (drop 1 f.stack) (drop 1 g.stack) z) (ap (drop 1) e) (dropped p m h (named_by g at) (length g.nodes) 1 f.stack g.stack st s.0.holds.slots.on_stack)

    element_is : element_type (record { dims = suc d; base = b }) ≡ record { dims = d; base = b }
    element_is = minus_one (record { dims = suc d; base = b }) d refl

    object_fits : ObjectFits p (insert h n (new_array (record { dims = suc d; base = b }) v count)) (new_array (record { dims = suc d; base = b }) v count)
    object_fits = record {
      fields = λ k w has. absurd (no_field k w has);
      elements = λ k w has. (
        subst (λ z. Fits p (insert h n (new_array (record { dims = suc d; base = b }) v count)) (type_sort p z) w) (sym element_is)
            (subst (Fits p (insert h n (new_array (record { dims = suc d; base = b }) v count)) (type_sort p (record { dims = d; base = b }))) (same_element v count k w has) (fits (insert h n (new_array (record { dims = suc d; base = b }) v count)))),
        subst (λ z. MayHold (object_sort p (record { dims = suc d; base = b })) (type_sort p z)) (sym element_is) (may_array p d b),
      );
    }
      where
        no_field : (k : FieldId) (w : Value) → field_in [] k ≡ Some w → ⊥
        no_field k w q = cc

    sort_is : (k : Kind) → kind_of p (record { dims = suc d; base = b }) ≡ k → object_sort p (record { dims = suc d; base = b }) ≡ sort_by p (record { dims = suc d; base = b }) k
    sort_is k q = ap (sort_by p (record { dims = suc d; base = b })) q

    type_is : sort p m (vtype.Object (record { dims = suc d; base = b })) ≡ object_sort p (record { dims = suc d; base = b })
    unfolding sort
    type_is = refl

    back : (g' : Graph) → g1 ≡ g' → Left p m (record f { stack = vtype.Object (record { dims = suc d; base = b }) ∷ drop 1 f.stack }) g' (insert h n (new_array (record { dims = suc d; base = b }) v count)) ls (Ref n ∷ rest) below →
        Left p m f1 g1 (insert h n (new_array (record { dims = suc d; base = b }) v count)) ls (Ref n ∷ rest) below
    back g' q w = subst (λ z. Left p m z g1 (insert h n (new_array (record { dims = suc d; base = b }) v count)) ls (Ref n ∷ rest) below) (sym typed)
        (subst (λ z. Left p m (record f { stack = vtype.Object (record { dims = suc d; base = b }) ∷ drop 1 f.stack }) z (insert h n (new_array (record { dims = suc d; base = b }) v count)) ls (Ref n ∷ rest) below) (sym q) w)

    graph_is : (k : Kind) → kind_of p (record { dims = suc d; base = b }) ≡ k → g1 ≡ given k (popped 1 g)
    graph_is k q = (moves_passed p m g f i after g1 s.2).graph ∙ graph ∙ ap (λ z. given z (popped 1 g)) q

    by : (k : Kind) → kind_of p (record { dims = suc d; base = b }) ≡ k → Left p m f1 g1 (insert h n (new_array (record { dims = suc d; base = b }) v count)) ls (Ref n ∷ rest) below
    by kind.Value q = absurd (array_no_value p d b q)
    by kind.Tree q = back (given kind.Tree (popped 1 g)) (graph_is kind.Tree q)
        (tree_made p h n (new_array (record { dims = suc d; base = b }) v count) free (none_held (record { dims = suc d; base = b }) v count none) m f g at ls st below s.0 object_fits (ap is_tree_sort (sort_is kind.Tree q))
        (drop 1 f.stack) (drop 1 g.stack) rest rest_slots (vtype.Object (record { dims = suc d; base = b })) type_is)
    by kind.Private q = back (given kind.Private (popped 1 g)) (graph_is kind.Private q)
        (own_made p h n (new_array (record { dims = suc d; base = b }) v count) free (none_held (record { dims = suc d; base = b }) v count none) m f g at ls st below s.0 object_fits (sort_is kind.Private q)
        (drop 1 f.stack) (drop 1 g.stack) rest rest_slots (vtype.Object (record { dims = suc d; base = b })) (type_is ∙ sort_is kind.Private q))

    pub array_made : Left p m f1 g1 (insert h n (new_array (record { dims = suc d; base = b }) v count)) ls (Ref n ∷ rest) below
    array_made = by (kind_of p (record { dims = suc d; base = b })) refl

  makes_h : (i : Instr) (ty : Ty) (v : Value) (x : ℤ) (rest : List Value) → ((count : ℕ) → EI i (Rattle.kilim_run_machine.specs.Effect.Makes (new_array ty v count) to ls rest h)) → EI i (makes_array ty v x to ls rest h)
  makes_h i ty v (negsuc n) rest w = tt
  makes_h i ty v (pos n) rest w = cond_h (EI i) tt (λ c. tt) (λ c. tt) (nat_lt array_limit n) _ _ (λ large. tt) (λ small. w n)

  tree_kind : (b : Base) → is_primitive b ≡ true → kind.Tree ≡ kind_of p (record { dims = 1; base = b })
  tree_kind base.Bool e = refl
  tree_kind base.Byte e = refl
  tree_kind base.Char e = refl
  tree_kind base.Short e = refl
  tree_kind base.Int e = refl
  tree_kind base.Long e = refl
  tree_kind (base.Class c) e = absurd (true≢false (sym e))

  first_none : (b : Base) → refers (first_value_of b) ≡ None
  first_none base.Bool = refl
  first_none base.Byte = refl
  first_none base.Char = refl
  first_none base.Short = refl
  first_none base.Int = refl
  first_none base.Long = refl
  first_none (base.Class c) = refl

  pub newarray_h : (b : Base) → is_primitive b ≡ true → IsStep p m pl to f f1 g g1 at h ls st below after (instr.Newarray b) → EI (instr.Newarray b) (does p m (instr.Newarray b) to ls st h)
  unfolding does row deed ends_path jump_targets
  newarray_h b prim s = on_int_h (EI (instr.Newarray b)) tt (λ c. tt) (λ c. tt) st _ (λ x rest e. makes_h (instr.Newarray b) (record { dims = 1; base = b }) (first_value_of b) x rest (λ count. (
    inl refl,
    λ n free.
        array_made (instr.Newarray b) s 0 b [] refl (ap (λ k. given k (popped 1 g)) (tree_kind b prim)) (first_value_of b) (first_none b) (λ h'. zero_fits p h' (record { dims = 0; base = b }) 0) rest x e count n free,
  )))

  null_fits : (ty : Ty) → is_reference ty ≡ true → (h' : Objects) → Fits p h' (type_sort p ty) Null
  null_fits ty e h' = by ty.dims e
    where
      of_kind : (k : Kind) → Fits p h' (sort_by p ty k) Null
      of_kind kind.Value = (refl, refl)
      of_kind kind.Tree = (refl, λ o q. absurd (cc))
      of_kind kind.Private = (refl, λ o q. absurd (cc))

      of_base : (b : Base) → is_reference_type 0 b ≡ true → Fits p h' (sort_of_vtype p (type.base_vtype ty b)) Null
      of_base (base.Class c) w = of_kind (kind_of p ty)
      of_base base.Bool w = absurd (true≢false (sym w))
      of_base base.Byte w = absurd (true≢false (sym w))
      of_base base.Char w = absurd (true≢false (sym w))
      of_base base.Short w = absurd (true≢false (sym w))
      of_base base.Int w = absurd (true≢false (sym w))
      of_base base.Long w = absurd (true≢false (sym w))

      by : (d : ℕ) → is_reference_type d ty.base ≡ true → Fits p h' (sort_of_vtype p (type.dims_vtype ty d)) Null
      by zero w = of_base ty.base w
      by (suc d) w = of_kind (kind_of p ty)

  pub anewarray_h : (ty : Ty) → is_reference ty ≡ true → IsStep p m pl to f f1 g g1 at h ls st below after (instr.Anewarray ty) → EI (instr.Anewarray ty) (does p m (instr.Anewarray ty) to ls st h)
  unfolding does row deed ends_path jump_targets
  anewarray_h ty whole s = on_int_h (EI (instr.Anewarray ty)) tt (λ c. tt) (λ c. tt) st _ (λ x rest e. makes_h (instr.Anewarray ty) (array_of ty) Null x rest (λ count. (
    inl refl,
    λ n free.
        array_made (instr.Anewarray ty) s ty.dims ty.base (type.needs 13 (nat_lt ty.dims 255) ∷ []) refl refl Null refl (null_fits ty whole) rest x e count n free,
  )))
