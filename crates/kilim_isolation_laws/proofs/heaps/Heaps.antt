-- A heap with the objects of a tree that is built.
use Rattle.std.proofs.Common.{◌≡◌, ◌⊎◌, inl, inr, ℕ, zero, suc, ◌+◌, ◌<◌, ◌≤◌, true, true≢false, List, [], ◌∷◌, length, Option, Some, None, refl, sym, ap, ◌∙◌, arith}
use Rattle.std.specs.FinMap.{get, insert}
use Rattle.kilim_program.specs.declared.ty.Ty.{Ty}
use Rattle.kilim_program.specs.declared.value.Value.{Value}
use Rattle.kilim_program.specs.Program.{Program}
use Rattle.kilim_run_state.specs.declared.value.Object.{Object}
use Rattle.kilim_run_state.specs.Machine.{Objects}
use Rattle.kilim_run_state.specs.Trees.{with_objects}
use Rattle.kilim_isolation_laws.specs.forest.Heap.{Ends, IsForest, Up}
use Rattle.kilim_isolation_laws.specs.graph_rows.Facts.{IsTaken, ProgramKeeps, class_in}
use Rattle.kilim_isolation_laws.specs.graph_rows.Holds.{Anything, Fits, IsOf, ObjectFits, Own, Sort, Tree, Trees, Wide, Word, held_at, is_tree_object, object_sort, tree_held, trees}
use Rattle.kilim_lemmas.proofs.Maps.{put_there, put_other}
use Rattle.kilim_isolation_laws.specs.heaps.Laws.{TakenTreesCome}
use Rattle.kilim_isolation_laws.proofs.heaps.Built.{IsSorted, IsTreeOf, tree_built}
use Rattle.kilim_isolation_laws.proofs.heaps.Contents.{FitsBy, IsBy}
use Rattle.kilim_isolation_laws.proofs.heaps.Owned.{at_first, at_later, at_parts, at_there, at_within, held, object_at}
use Rattle.kilim_isolation_laws.proofs.heaps.Sorts.{tree_holds}

none_some : {A : Type 0} (x : A) → None ≡ Some x → ⊥
none_some x e = cc

-- ---- what stands in the heap with new objects

none_before : (base : ℕ) (os : List Object) (n : ℕ) → n < base → object_at base os n ≡ None
none_before base os n lt = by (object_at base os n) refl
  where
    by : (o : Option Object) → object_at base os n ≡ o → o ≡ None
    by None e = refl
    by (Some q) e = let w = (at_within base os n q e).0 in absurd (omega (arith, lt, w))

pub get_old : (h : Objects) (base : ℕ) (os : List Object) (n : ℕ) → object_at base os n ≡ None → get (with_objects h base os) n ≡ get h n
get_old h base [] n e = refl
get_old h base (x ∷ os) n e = get_old (insert h base x) (suc base) os n (sym (at_later base x os n other) ∙ e) ∙ put_other h base x n other
  where
    other : n ≡ base → ⊥
    other same = none_some x (sym e ∙ (ap (object_at base (x ∷ os)) same ∙ at_first base x os))

pub get_new : (h : Objects) (base : ℕ) (os : List Object) (n : ℕ) (o : Object) → object_at base os n ≡ Some o → get (with_objects h base os) n ≡ Some o
get_new h base [] n o e = absurd (none_some o e)
get_new h base (x ∷ os) n o e = elim (at_parts base x os n o e) [
  | inl t ↦
      let there = get_old (insert h base x) (suc base) os base (none_before (suc base) os base (omega arith)) in
      ap (get (with_objects h base (x ∷ os))) t.0 ∙ (there ∙ (put_there h base x ∙ ap (λ (z : Object). Some z) t.1))
  | inr later ↦ get_new (insert h base x) (suc base) os n o later
]

held_parts : (p : Program) (r : Option Object) (i y : ℕ) → held_at p r i ≡ Some y → (o : Object) × (r ≡ Some o) × (held o i ≡ Some y)
held_parts p None i y e = absurd (none_some y e)
held_parts p (Some o) i y e = (o, refl, by (object_sort p o.class) e)
  where
    by : (s : Sort) → tree_held o s i ≡ Some y → held o i ≡ Some y
    by (Tree d x) e = e
    by Own e = absurd (none_some y e)
    by Word e = absurd (none_some y e)
    by Wide e = absurd (none_some y e)
    by Anything e = absurd (none_some y e)

module _ (p : Program) (k : ProgramKeeps p) (h : Objects) (next : ℕ) (objects : List Object) (fresh : (x : ℕ) → next ≤ x → get h x ≡ None) (forest : IsForest (trees p h)) (t : IsTreeOf p k next objects) where
  abbrev after : Objects
  after = with_objects h next objects

  abbrev of : ℕ → Option Ty
  of n = class_in (object_at next objects n)

  sorted : (n : ℕ) (o : Object) → object_at next objects n ≡ Some o → IsSorted p of o
  sorted n o e = t.sorted of (λ m q d. ap class_in d) n o e

  -- ---- old and new

  is_old : (x : ℕ) → (get h x ≡ None → ⊥) → x < next
  is_old x some = by x next (λ le. some (fresh x le))
    where
      by : (a b : ℕ) → (b ≤ a → ⊥) → a < b
      by a zero above = absurd (above (omega arith))
      by zero (suc b) above = omega arith
      by (suc a) (suc b) above = let r = by a b (λ le. above (omega (arith, le))) in omega (arith, r)

  old_get : (x : ℕ) → x < next → get after x ≡ get h x
  old_get x lt = get_old h next objects x (none_before next objects x lt)

  abbrev IsNew : ℕ → Object → Type 0
  IsNew x o = object_at next objects x ≡ Some o

  sides : (x : ℕ) (o : Object) → get after x ≡ Some o → IsNew x o ⊎ (get h x ≡ Some o)
  sides x o e = by (object_at next objects x) refl
    where
      by : (r : Option Object) → object_at next objects x ≡ r → IsNew x o ⊎ (get h x ≡ Some o)
      by None is = inr (sym (get_old h next objects x is) ∙ e)
      by (Some q) is = inl (is ∙ (sym (get_new h next objects x q is) ∙ e))

  -- an edge of the heap is one of a new object, or an old edge
  edges : (x i y : ℕ) → (trees p after).to x i ≡ Some y → ((o : Object) × IsNew x o × (held o i ≡ Some y)) ⊎ ((trees p h).to x i ≡ Some y)
  edges x i y e =
      let w = held_parts p (get after x) i y e in
      elim (sides x w.0 w.1) [
        | inl new ↦ inl (w.0, new, w.2)
        | inr old ↦ inr (ap (λ (r : Option Object). held_at p r i) (old ∙ sym w.1) ∙ e)
      ]

  tree_some : (x : ℕ) → is_tree_object p (get h x) ≡ true → get h x ≡ None → ⊥
  tree_some x tree none = true≢false (sym tree ∙ ap (is_tree_object p) none)

  record OldEdge (x y : ℕ) : Type 0 where
    from : x < next
    to : y < next

  old_edge : (x i y : ℕ) → (trees p h).to x i ≡ Some y → OldEdge x y
  old_edge x i y e =
      let w = forest.there x i y e in
      record { from = is_old x (tree_some x w.0); to = is_old y (tree_some y w.1) }

  record NewEdge (x y : ℕ) : Type 0 where
    from : next ≤ x
    less : x < y
    within : y < next + length objects

  new_edge : (x i y : ℕ) (o : Object) → IsNew x o → held o i ≡ Some y → NewEdge x y
  new_edge x i y o new e =
      let w = t.owned.later x i y o new e in
      record { from = (at_within next objects x o new).0; less = w.0; within = w.1 }

  -- ---- what fits

  of_sort : (n : ℕ) (s : Sort) → IsBy p of n s → IsOf p after n s
  of_sort n s w = by (object_at next objects n) refl w.1
    where
      by : (r : Option Object) → object_at next objects n ≡ r → class_in r ≡ Some w.0 → IsOf p after n s
      by None is e = absurd (none_some w.0 e)
      by (Some o) is e = (o, get_new h next objects n o is, ap (object_sort p) (class_same o.class w.0 e) ∙ w.2)
        where
          class_same : (a b : Ty) → Some a ≡ Some b → a ≡ b
          class_same a b e = cc

  fits_after : (s : Sort) (v : Value) → FitsBy p of s v → Fits p after s v
  fits_after Anything v f = tt
  fits_after Wide v f = f
  fits_after Word v f = f
  fits_after Own v f = (f.0, λ n e. of_sort n Own (f.1 n e))
  fits_after (Tree d x) v f = (f.0, λ n e. of_sort n (Tree d x) (f.1 n e))

  object_fits : (o : Object) → IsSorted p of o → ObjectFits p after o
  object_fits o s = record {
    fields = λ f v e. (let w = s.fields f v e in (fits_after _ v w.0, tree_holds _ _ s.tree w.1));
    elements = λ j v e. (let w = s.elements j v e in (fits_after _ v w.0, tree_holds _ _ s.tree w.1));
  }

  -- ---- the forest

  new_has : (x : ℕ) (o : Object) → IsNew x o → (trees p after).has x ≡ true
  new_has x o new = ap (is_tree_object p) (get_new h next objects x o new) ∙ (sorted x o new).tree

  old_has : (x : ℕ) → (trees p h).has x ≡ true → (trees p after).has x ≡ true
  old_has x has = ap (is_tree_object p) (old_get x (is_old x (tree_some x has))) ∙ has

  old_ends : (x : ℕ) → Ends (trees p h) x → x < next → Ends (trees p after) x
  old_ends x (Up up) lt = Up (λ q i e. elim (edges q i x e) [
    | inl w ↦
        let edge = new_edge q i x w.0 w.1 w.2 in
        let a = edge.from in
        let b = edge.less in
        absurd (omega (arith, a, b, lt))
    | inr old ↦ old_ends q (up q i old) (old_edge q i x old).from
  ])

  new_ends : (bound x : ℕ) → x < bound → Ends (trees p after) x
  new_ends zero x lt = absurd (omega (arith, lt))
  new_ends (suc bound) x lt = Up (λ q i e. elim (edges q i x e) [
    | inl w ↦ (let b = (new_edge q i x w.0 w.1 w.2).less in new_ends bound q (omega (arith, b, lt)))
    | inr old ↦ old_ends q (forest.ends q) (old_edge q i x old).from
  ])

  mixed : (x q r i j : ℕ) (o : Object) → IsNew q o → held o i ≡ Some x → (trees p h).to r j ≡ Some x → ⊥
  mixed x q r i j o new e old =
      let edge = new_edge q i x o new e in
      let a = edge.from in
      let b = edge.less in
      let c = (old_edge r j x old).to in
      omega (arith, a, b, c)

  forest_after : IsForest (trees p after)
  forest_after = record {
    one = λ x q r i j e d. elim (edges q i x e) [
      | inl w ↦ elim (edges r j x d) [
        | inl v ↦ t.owned.once q r i j x w.0 v.0 w.1 v.1 w.2 v.2
        | inr old ↦ absurd (mixed x q r i j w.0 w.1 w.2 old)
      ]
      | inr old ↦ elim (edges r j x d) [
        | inl v ↦ absurd (mixed x r q j i v.0 v.1 v.2 old)
        | inr too ↦ forest.one x q r i j old too
      ]
    ];
    ends = λ x. new_ends (suc x) x (omega arith);
    there = λ q i x e. elim (edges q i x e) [
      | inl w ↦
          let edge = new_edge q i x w.0 w.1 w.2 in
          let a = edge.from in
          let b = edge.less in
          let o = at_there next objects x (omega (arith, a, b)) edge.within in
          (new_has q w.0 w.1, new_has x o.0 o.1)
      | inr old ↦ (let w = forest.there q i x old in (old_has q w.0, old_has x w.1))
    ];
  }

  some_or : (r : Option Object) (o : Object) → r ≡ None → r ≡ Some o → ⊥
  some_or r o a b = none_some o (sym a ∙ b)

  pub taken : IsTaken p h after next 0 Trees
  taken = record {
    old = λ x o e. old_get x (is_old x (λ none. some_or (get h x) o none e)) ∙ e;
    fits = λ x o none e. elim (sides x o e) [ inl new ↦ object_fits o (sorted x o new) | inr old ↦ absurd (some_or (get h x) o none old) ];
    forest = forest_after;
    apart = λ x i y none e. elim (edges x i y e) [
      | inl w ↦
          let edge = new_edge x i y w.0 w.1 w.2 in
          let a = edge.from in
          let b = edge.less in
          fresh y (omega (arith, a, b))
      | inr old ↦ absurd (tree_some x (forest.there x i y old).0 none)
    ];
    fresh = fresh next (omega arith);
    root = λ q i e. elim (edges q i next e) [
      | inl w ↦
          let edge = new_edge q i next w.0 w.1 w.2 in
          let a = edge.from in
          let b = edge.less in
          omega (arith, a, b)
      | inr old ↦ (let c = (old_edge q i next old).to in omega (arith, c))
    ];
    is = (t.first, get_new h next objects next t.first t.at, t.root);
  }

pub taken_trees_come : TakenTreesCome
taken_trees_come p k h next root shape objects fresh forest e = taken p k h next objects fresh forest (tree_built p k root next shape objects e)
