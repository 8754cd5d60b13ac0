-- A tree that a thread gives away, and the same tree in the fiber's heap.
use Rattle.std.proofs.Common.{◌≡◌, ◌≤◌, ℕ, zero, suc, Bool, true, false, cond, List, [], ◌∷◌, ◌++◌, Option, Some, length, sym, subst, ◌∙◌, inl, inr}
use Rattle.std.specs.Prelude.{◌==◌}
use Rattle.std.specs.List.{AllByRecursion}
use Rattle.std.specs.FinMap.{get}
use Rattle.std.proofs.lemmas.Option.{same_Some}
use Rattle.kilim_program.specs.Program.{Program}
use Rattle.kilim_program.specs.declared.names.FieldId.{FieldId}
use Rattle.kilim_program.specs.declared.ty.Ty.{Ty}
use Rattle.kilim_program.specs.declared.value.Value.{Value}
use Rattle.kilim_program.specs.declared.value.Value.TheVariants.{Int, Long, Null, Ref, Text, Box, Fiber}
use Rattle.kilim_run_state.specs.declared.value.Object.{Object}
use Rattle.kilim_run_state.specs.declared.value.Token.{Token}
use Rattle.kilim_run_state.specs.Machine.{Objects}
use Rattle.kilim_run_state.specs.Shapes.{tree_limit, field_in, fields_in_order, shape_of}
use Rattle.kilim_run_state.specs.Trees.{Root, joined_names, names_where, content_names, names_in, value_names, tree_names}
use Rattle.kilim_run_model.specs.Kept.{IsFormed, IsIn, IsOnce}
use Rattle.kilim_run_model.specs.kin.Kin.{Names, IsKin, AreKin, FieldsKin, ObjectsKin, Alike}
use Rattle.kilim_run_model.specs.kin.trees.TreeKin.{AllFields, AllValues, IsIntact, IsWholeTree}
use Rattle.kilim_run_model.proofs.kin.trees.ReadBack.{shapes_give}
use Rattle.kilim_run_model.proofs.kin.trees.Shaped.{shape_kin}
use Rattle.kilim_run_model.proofs.one_heap.Given.{Named, AreThere, copies_there, there_in, named_in}
use Rattle.kilim_run_state.specs.Places.{AllDiffer}
use Rattle.kilim_run_trees.specs.Walk.{places}
use Rattle.kilim_run_trees.proofs.Named.{names_are_places}
use Rattle.kilim_run_trees.proofs.Tokens.{has_shape}
use Rattle.kilim_run_trees.proofs.Walks.{one_tree}
use Rattle.kilim_fiber_spec.specs.fiber_kin.Mine.{all_mine}
use Rattle.kilim_fiber_spec.specs.fiber_kin.Acts.{IsGiven}
use Rattle.kilim_fiber_spec.proofs.fiber_kin.Belows.{AllWell, all_there, well_kin, entries_below, at_root}
use Rattle.kilim_fiber_spec.proofs.fiber_kin.Sizes.{tree_of_shape, large_has_none, each_suits}

-- ---- the names of a tree's objects, in both heaps

named_append : (of : Names) (ns xs ms ys : List ℕ) → Named of ns xs → Named of ms ys → Named of (ns ++ ms) (xs ++ ys)
named_append of [] [] ms ys e d = d
named_append of (n ∷ ns) (x ∷ xs) ms ys e d = (e.0, named_append of ns xs ms ys e.1 d)
named_append of [] (x ∷ xs) ms ys e d = absurd e
named_append of (n ∷ ns) [] ms ys e d = absurd e

module _ (p : Program) (of : Names) (holds : Value → Type 0) (left right : Value → List ℕ) (one : (v w : Value) → IsKin of v w → holds v → Named of (left v) (right w)) where
  field_names : (f : FieldId) (es ds : List (FieldId × Value)) → FieldsKin of es ds → AllFields holds es → Named of (names_where left (field_in es f)) (names_where right (field_in ds f))
  field_names f [] [] e d = tt
  field_names f (a ∷ es) (b ∷ ds) e d =
      subst (λ (g : FieldId). Named of (names_where left (cond (a.0.0 == f.0) (Some a.1) (field_in es f))) (names_where right (cond (g.0 == f.0) (Some b.1) (field_in ds f)))) e.0
      (elim (a.0.0 == f.0) as (λ (z : Bool). Named of (names_where left (cond z (Some a.1) (field_in es f))) (names_where right (cond z (Some b.1) (field_in ds f)))) [
        | true ↦ one a.1 b.1 e.1 d.0
        | false ↦ field_names f es ds e.2 d.1
      ])
  field_names f _ _ e d = absurd e

  fields_join : (fs : List FieldId) (es ds : List (FieldId × Value)) → FieldsKin of es ds → AllFields holds es → Named of (joined_names (λ f. names_where left (field_in es f)) fs) (joined_names (λ f. names_where right (field_in ds f)) fs)
  fields_join [] es ds e d = tt
  fields_join (f ∷ fs) es ds e d = named_append of _ _ _ _ (field_names f es ds e d) (fields_join fs es ds e d)

  values_join : (vs ws : List Value) → AreKin of vs ws → AllValues holds vs → Named of (joined_names left vs) (joined_names right ws)
  values_join [] [] e d = tt
  values_join (v ∷ vs) (w ∷ ws) e d = named_append of (left v) (right w) (joined_names left vs) (joined_names right ws) (one v w e.0 d.0) (values_join vs ws e.1 d.1)
  values_join _ _ e d = absurd e

  content_join : (o q : Object) → ObjectsKin of o q → AllFields holds o.fields → AllValues holds o.elements → Named of (content_names p left o) (content_names p right q)
  content_join o q e f d =
      subst (λ (c : Ty). Named of (content_names p left o) (cond (c.dims == 0) (joined_names (λ g. names_where right (field_in q.fields g)) (fields_in_order p c.base)) (joined_names right q.elements))) e.class
      (elim (o.class.dims == 0) as (λ (z : Bool). Named of (cond z (joined_names (λ g. names_where left (field_in o.fields g)) (fields_in_order p o.class.base)) (joined_names left o.elements))
      (cond z (joined_names (λ g. names_where right (field_in q.fields g)) (fields_in_order p o.class.base)) (joined_names right q.elements))) [
        | true ↦ fields_join (fields_in_order p o.class.base) o.fields q.fields e.fields f
        | false ↦ values_join o.elements q.elements e.elements d
      ])

module _ (p : Program) (of : Names) (h k : Objects) (alike : Alike of all_mine 0 k h k) where
  names_kin : (d : ℕ) (v w : Value) → IsKin of v w → IsIntact p h d v → Named of (value_names p h d v) (value_names p k d w)
  names_kin zero v w e i = tt
  names_kin (suc d) (Int a) (Int b) e i = tt
  names_kin (suc d) (Long a) (Long b) e i = tt
  names_kin (suc d) Null Null e i = tt
  names_kin (suc d) (Text a) (Text b) e i = tt
  names_kin (suc d) (Box a) (Box b) e i = tt
  names_kin (suc d) Fiber Fiber e i = tt
  names_kin (suc d) (Ref n) (Ref x) e i =
      let there = alike.same n i.0 i.1 in
      let at_x : get k x ≡ Some there.1 = subst (λ (z : ℕ). get k z ≡ Some there.1) (same_Some _ _ (sym there.2 ∙ e)) there.3 in (
        e,
        subst (λ (z : Option Object). Named of (names_in p (value_names p h d) z) (names_in p (value_names p k d) (get k x))) (sym i.1)
            (subst (λ (z : Option Object). Named of (names_in p (value_names p h d) (Some i.0)) (names_in p (value_names p k d) z)) (sym at_x)
            (content_join p of (IsIntact p h d) (value_names p h d) (value_names p k d) (names_kin d) i.0 there.1 there.4 i.3 i.4)),
      )
  names_kin _ _ _ e i = absurd e

  pub tree_named : (n x : ℕ) → of n ≡ Some x → IsIntact p h tree_limit (Ref n) → Named of (tree_names p h n) (tree_names p k x)
  unfolding tree_names
  tree_named n x e i = names_kin tree_limit (Ref n) (Ref x) e i

  once_moved : (ns xs : List ℕ) → AreThere h ns → Named of ns xs → IsOnce ns → IsOnce xs
  once_moved [] [] w e o = tt
  once_moved (n ∷ ns) (x ∷ xs) w e o = (
    λ i. let m = named_in of ns xs x e.1 i in
        let q = there_in h ns m.0 w.1 m.1 in
        o.0 (subst (λ (z : ℕ). IsIn z ns) (alike.apart m.0 n x q.0 w.0.0 m.2 e.0 q.1 w.0.1) m.1),
    once_moved ns xs w.1 e.1 o.1,
  )
  once_moved [] (x ∷ xs) w e o = absurd e
  once_moved (n ∷ ns) [] w e o = absurd e

  -- ---- a tree whose objects are well

  pub tree_there : (root : Root) (n : ℕ) (shape : List Token) → IsWholeTree p root h n → shape_of p h n ≡ Some shape → AreThere h (tree_names p h n)
  tree_there root n shape whole has = let c = (shapes_give p root h n shape whole has).copy 0 in copies_there _ h c.0 (tree_names p h n) c.2

  pub once_kin : (root : Root) (n x : ℕ) (shape : List Token) → of n ≡ Some x → IsWholeTree p root h n → shape_of p h n ≡ Some shape → IsOnce (tree_names p k x)
  once_kin root n x shape e whole has = once_moved (tree_names p h n) (tree_names p k x) (tree_there root n shape whole has) (tree_named n x e whole.intact) whole.once

all_apart : (n : ℕ) (ns : List ℕ) → (IsIn n ns → ⊥) → AllByRecursion (λ m. n ≡ m → ⊥) ns
all_apart n [] out = tt
all_apart n (m ∷ ns) out = (λ e. out (inl e), all_apart n ns (λ i. out (inr i)))

pub once_differ : (ns : List ℕ) → IsOnce ns → AllDiffer ns
once_differ [] o = tt
once_differ (n ∷ ns) o = (all_apart n ns o.0, once_differ ns o.1)

-- what a thread gives away, in the fiber's heap
pub is_given : (p : Program) (root : Root) (of : Names) (h k : Objects) (n x : ℕ) → Alike of all_mine 0 k h k → of n ≡ Some x → AllWell p h n → IsWholeTree p root h n → IsGiven p root k x
is_given p root of h k n x alike e well whole =
    let mine : AllWell p k x = well_kin p of h k alike n x e well in
    let same : shape_of p h n ≡ shape_of p k x = shape_kin p of all_mine 0 k h k alike n x e whole.intact in
    record {
      there = all_there k x (λ y b. let w = mine y b in (w.object, w.there));
      formed = λ entries t. entries_below k x (λ e. IsFormed p e.1) (λ e b there.
          let w = mine e.0 b in
          subst (IsFormed p) (same_Some _ _ (sym w.there ∙ there)) w.formed) (x ∷ []) entries [] t.leads t.are_in (at_root k x);
      large = large_has_none p k x mine;
      once = λ entries t small.
          let suits = each_suits p k x mine entries t in
          let s = has_shape p k x entries suits t small in
          once_differ (places entries) (subst IsOnce (names_are_places p k x entries t suits small) (once_kin p of h k alike root n x s.0 e whole (same ∙ s.1)));
      small = λ entries t shape has.
          let w = tree_of_shape p k x mine shape has in
          subst (λ (es : List (ℕ × Object)). length es ≤ tree_limit) (one_tree k (x ∷ []) w.0 entries w.1.leads w.1.are_in t.leads t.are_in) w.2;
      suits = λ entries t. each_suits p k x mine entries t;
      allowed = λ shape has. whole.allowed shape (same ∙ has);
    }
