-- Rows that read a field or an element of a tree.
use Rattle.std.proofs.Common.{◌≡◌, ℕ, zero, suc, ◌==◌, Bool, true, false, true≢false, not, cond, List, ◌∷◌, map, length, Option, Some, None, refl, sym, ap, subst, ◌∙◌}
use Rattle.std.specs.FinMap.{get}
use Rattle.kilim_program.specs.declared.ty.Base.TheVariants as base
use Rattle.kilim_program.specs.declared.ty.Kind.TheVariants as kind
use Rattle.kilim_type_spec.specs.Step as type
use Rattle.kilim_program.specs.declared.class.Method.{Method}
use Rattle.kilim_program.specs.declared.ty.Base.{Base}
use Rattle.kilim_program.specs.declared.ty.Kind.{Kind}
use Rattle.kilim_program.specs.declared.ty.Ty.{Ty}
use Rattle.kilim_run_state.specs.declared.value.Object.{Object}
use Rattle.kilim_program.specs.declared.value.Value.{Value}
use Rattle.kilim_program.specs.declared.value.Value.TheVariants.{Ref}
use Rattle.kilim_program.specs.declared.verified.VType.{VType}
use Rattle.kilim_program.specs.Program.{Program}
use Rattle.kilim_program.specs.Kinds.{kind_of, base_kind, array_kind}
use Rattle.kilim_run_state.specs.Machine.{Objects}
use Rattle.kilim_type_spec.specs.Step.{Types, peek, dims_vtype, base_vtype}
use Rattle.kilim_isolation_laws.specs.forest.Relation.{Root, Inner, Safe, is_gone, is_safe, Label, Named}
use Rattle.kilim_isolation_laws.specs.forest.Canonical.{node_at}
use Rattle.kilim_isolation_laws.proofs.forest.Paths.{some_is}
use Rattle.kilim_isolation_laws.proofs.forest.Moves.{get_keeps, get_safe_keeps}
use Rattle.kilim_isolation_graph.specs.declared.graph.Graph.{Graph}
use Rattle.kilim_isolation_rules.specs.Fields.{child_by, got, got_safe, read_from}
use Rattle.kilim_isolation_laws.specs.graph_rows.Holds.{Sort, Anything, Wide, Word, Own, Tree, sort, object_sort, sort_by, type_sort, sort_of_vtype, Fits, unnamed, named_sort, refers, refers_in, SlotFits, AreSlots, SlotsFit, named_by, value_at, Waiting, waiting_named, Holds, Stands, trees, IsOf, MayHold, held_by, tree_held, held_at, half, is_tree_object, is_tree_sort}
use Rattle.kilim_isolation_laws.specs.forest.Laws.{IsPlace}
use Rattle.kilim_isolation_laws.proofs.graph_rows.Nodes.{end_absent, live_within}
use Rattle.kilim_isolation_laws.proofs.graph_rows.Heaps.{some_same}
use Rattle.kilim_isolation_laws.proofs.graph_rows.Added.{added_holds, child_found}
use Rattle.kilim_isolation_laws.proofs.graph_rows.Plain.{moved}
use Rattle.kilim_isolation_laws.specs.graph_rows.Outcome.{Left}

-- ---- sorts of types

type_sort_is : (p : Program) (m : Method) (ty : Ty) (d : ℕ) (b : Base) → sort p m (dims_vtype ty d) ≡ sort_of_vtype p (dims_vtype ty d)
unfolding sort
type_sort_is p m ty (suc d) b = refl
type_sort_is p m ty zero b = by ty.base
  where
    by : (c : Base) → sort p m (base_vtype ty c) ≡ sort_of_vtype p (base_vtype ty c)
    by base.Bool = refl
    by base.Byte = refl
    by base.Char = refl
    by base.Short = refl
    by base.Int = refl
    by base.Long = refl
    by (base.Class c) = refl

-- the sort of a slot of a declared type
pub slot_sort : (p : Program) (m : Method) (ty : Ty) → sort p m (type.vtype ty) ≡ type_sort p ty
slot_sort p m ty = type_sort_is p m ty ty.dims ty.base

-- a type that is no tree names no node
pub no_tree_sort : (p : Program) (ty : Ty) (k : Kind) → kind_of p ty ≡ k → (k ≡ kind.Tree → ⊥) → unnamed (type_sort p ty) ≡ type_sort p ty
no_tree_sort p ty k e not = by ty.dims
  where
    of_kind : (j : Kind) → (j ≡ kind.Tree → ⊥) → unnamed (sort_by p ty j) ≡ sort_by p ty j
    of_kind kind.Value n = refl
    of_kind kind.Private n = refl
    of_kind kind.Tree n = absurd (n refl)

    of_base : (b : Base) → unnamed (sort_of_vtype p (base_vtype ty b)) ≡ sort_of_vtype p (base_vtype ty b)
    of_base base.Bool = refl
    of_base base.Byte = refl
    of_base base.Char = refl
    of_base base.Short = refl
    of_base base.Int = refl
    of_base base.Long = refl
    of_base (base.Class c) = of_kind (kind_of p ty) (λ w. not (sym e ∙ w))

    by : (d : ℕ) → unnamed (sort_of_vtype p (dims_vtype ty d)) ≡ sort_of_vtype p (dims_vtype ty d)
    by zero = of_base ty.base
    by (suc d) = of_kind (kind_of p ty) (λ w. not (sym e ∙ w))

some_tree : (dims : ℕ) (n : ℕ) → Some n ≡ None → ⊥
some_tree dims n e = cc

-- a receiver that names no node is a private object, which has no tree
pub null_or_own : (p : Program) (h : Objects) (s : Sort) (n : ℕ) (object : Object) → get h n ≡ Some object → (s ≡ Anything → ⊥) → Fits p h (unnamed s) (Ref n) → object_sort p object.class ≡ Own
null_or_own p h Anything n object there not f = absurd (not refl)
null_or_own p h Wide n object there not f = absurd (true≢false (sym f))
null_or_own p h Word n object there not f = absurd (some_tree 0 n f.1)
null_or_own p h (Tree dims stuff) n object there not f = absurd (some_tree 0 n f.1)
null_or_own p h Own n object there not f =
    let w = f.1 n refl in
    ap (λ z. object_sort p z.class) (some_same object w.0 (sym there ∙ w.1)) ∙ w.2

pub tree_not_own : (dims : ℕ) (p : Program) (holder s : Sort) → MayHold holder s → holder ≡ Own → (d : ℕ) (x : Rattle.kilim_isolation_laws.specs.graph_rows.Holds.Stuff) → s ≡ Tree d x → ⊥
tree_not_own dims p holder s may is d x e = subst (λ z. MayHold z (Tree d x)) is (subst (λ z. MayHold holder z) e may)

no_value : (p : Program) (ty : Ty) (b : Base) → base_kind p b ≡ kind.Value → ty.dims ≡ 0 → ty.base ≡ b → kind_of p ty ≡ kind.Tree → ⊥
no_value p ty b value no_dims is e = value_tree (sym value ∙ ap (base_kind p) (sym is) ∙ sym (ap (λ k. cond (k == 0) (base_kind p ty.base) (array_kind (base_kind p ty.base))) no_dims) ∙ e)
  where
    value_tree : kind.Value ≡ kind.Tree → ⊥
    value_tree w = cc

pub plain_kind : (p : Program) (ty : Ty) (b : Base) → base_kind p b ≡ kind.Value → ty.dims ≡ 0 → ty.base ≡ b → kind_of p ty ≡ kind.Value
plain_kind p ty b value no_dims is = ap (λ k. cond (k == 0) (base_kind p ty.base) (array_kind (base_kind p ty.base))) no_dims ∙ ap (base_kind p) is ∙ value

-- a Tree type's sort, in every place
pub tree_sort : (p : Program) (ty : Ty) → kind_of p ty ≡ kind.Tree → (d : ℕ) × (x : Rattle.kilim_isolation_laws.specs.graph_rows.Holds.Stuff) × (type_sort p ty ≡ Tree d x)
tree_sort p ty e = by ty.dims ty.base refl refl
  where
    of_kind : (k : Kind) → k ≡ kind.Tree → (d : ℕ) × (x : Rattle.kilim_isolation_laws.specs.graph_rows.Holds.Stuff) × (sort_by p ty k ≡ Tree d x)
    of_kind kind.Value n = absurd (cc)
    of_kind kind.Private n = absurd (cc)
    of_kind kind.Tree n = (_, _, refl)

    of_base : (b : Base) → ty.dims ≡ 0 → ty.base ≡ b → (d : ℕ) × (x : Rattle.kilim_isolation_laws.specs.graph_rows.Holds.Stuff) × (sort_of_vtype p (base_vtype ty b) ≡ Tree d x)
    of_base (base.Class c) no_dims is = of_kind (kind_of p ty) e
    of_base base.Bool no_dims is = absurd (no_value p ty base.Bool refl no_dims is e)
    of_base base.Byte no_dims is = absurd (no_value p ty base.Byte refl no_dims is e)
    of_base base.Char no_dims is = absurd (no_value p ty base.Char refl no_dims is e)
    of_base base.Short no_dims is = absurd (no_value p ty base.Short refl no_dims is e)
    of_base base.Int no_dims is = absurd (no_value p ty base.Int refl no_dims is e)
    of_base base.Long no_dims is = absurd (no_value p ty base.Long refl no_dims is e)

    by : (k : ℕ) (b : Base) → ty.dims ≡ k → ty.base ≡ b → (d : ℕ) × (x : Rattle.kilim_isolation_laws.specs.graph_rows.Holds.Stuff) × (sort_of_vtype p (dims_vtype ty k) ≡ Tree d x)
    by zero b no_dims is = subst (λ z. (d : ℕ) × (x : Rattle.kilim_isolation_laws.specs.graph_rows.Holds.Stuff) × (sort_of_vtype p (base_vtype ty z) ≡ Tree d x)) (sym is) (of_base b no_dims is)
    by (suc k) b some_dims is = of_kind (kind_of p ty) e

pub private_sort : (p : Program) (ty : Ty) → kind_of p ty ≡ kind.Private → type_sort p ty ≡ Own
private_sort p ty e = by ty.dims ty.base refl
  where
    of_kind : (k : Kind) → k ≡ kind.Private → sort_by p ty k ≡ Own
    of_kind kind.Value n = absurd (cc)
    of_kind kind.Tree n = absurd (cc)
    of_kind kind.Private n = refl

    private_value : kind.Private ≡ kind.Value → ⊥
    private_value w = cc

    of_base : (b : Base) → ty.dims ≡ 0 → ty.base ≡ b → sort_of_vtype p (base_vtype ty b) ≡ Own
    of_base (base.Class c) no_dims is = of_kind (kind_of p ty) e
    of_base base.Bool no_dims is = absurd (private_value (sym e ∙ plain_kind p ty base.Bool refl no_dims is))
    of_base base.Byte no_dims is = absurd (private_value (sym e ∙ plain_kind p ty base.Byte refl no_dims is))
    of_base base.Char no_dims is = absurd (private_value (sym e ∙ plain_kind p ty base.Char refl no_dims is))
    of_base base.Short no_dims is = absurd (private_value (sym e ∙ plain_kind p ty base.Short refl no_dims is))
    of_base base.Int no_dims is = absurd (private_value (sym e ∙ plain_kind p ty base.Int refl no_dims is))
    of_base base.Long no_dims is = absurd (private_value (sym e ∙ plain_kind p ty base.Long refl no_dims is))

    by : (k : ℕ) (b : Base) → ty.dims ≡ k → sort_of_vtype p (dims_vtype ty k) ≡ Own
    by zero b no_dims = of_base ty.base no_dims refl
    by (suc k) b some_dims = of_kind (kind_of p ty) e

-- ---- a tree is read

module _ (p : Program) (m : Method) (f : Types) (g : Graph) (at : ℕ → Option ℕ) (h : Objects) (ls st : List Value) (below : List Waiting) (hd : Stands p m f g at h ls st below) where
  abbrev u : Named
  u = named_by g at

  fresh : is_gone (u.node (length g.nodes)).standing ≡ true
  fresh = end_absent g.nodes

  module _ (l : Label) (i n : ℕ) (place : IsPlace i l) (ts : List VType) (xs : List (Option ℕ)) (rest : List Value) (slots : AreSlots p m h (named_by g at) (length g.nodes) ts xs rest)
      (t' : VType) (d : ℕ) (x' : Rattle.kilim_isolation_laws.specs.graph_rows.Holds.Stuff) (is_tree : sort p m t' ≡ Tree d x') (v : Value) (fits : Fits p h (Tree d x') v) (held : refers v ≡ (trees p h).to n i) where
    fits_here : Fits p h (named_sort (sort p m t')) v
    fits_here = subst (λ z. Fits p h (named_sort z) v) (sym is_tree) fits

    read_safe : (a : ℕ) → at a ≡ Some n → is_gone (node_at g.nodes a).standing ≡ false → Left p m (record f { stack = t' ∷ ts }) (got_safe (record g { stack = xs }) a) h ls (v ∷ rest) below
    read_safe a is live = (
      _,
      added_holds p m f g at h ls st below hd.holds (record { region = (node_at g.nodes a).region; standing = Safe; head = false; parent = None }) ((trees p h).to n i)
          (get_safe_keeps IsPlace (trees p h) u (map waiting_named below) hd.holds.forest hd.holds.frames hd.tidy (length g.nodes) a n i l fresh place (live, is))
          (λ e. absurd (safe_root e)) (λ e. absurd (true≢false (sym e))) (λ e. absurd (true≢false (sym e))) ts xs rest slots t' v held fits_here,
    )
      where
        safe_root : Safe ≡ Root → ⊥
        safe_root e = cc

    read_new : (a : ℕ) → at a ≡ Some n → is_gone (node_at g.nodes a).standing ≡ false → is_safe (node_at g.nodes a).standing ≡ false →
        Left p m (record f { stack = t' ∷ ts }) (got (record g { stack = xs }) l a None) h ls (v ∷ rest) below
    read_new a is live not_safe = (
      _,
      added_holds p m f g at h ls st below hd.holds (record { region = (node_at g.nodes a).region; standing = Inner; head = false; parent = Some (a, l) }) ((trees p h).to n i)
          (get_keeps IsPlace (trees p h) u (map waiting_named below) hd.holds.forest hd.holds.frames hd.tidy (length g.nodes) a n i l fresh place (live, not_safe, is))
          (λ e. absurd (inner_root e)) (λ e. absurd (true≢false (sym e))) (λ e. absurd (true≢false (sym e))) ts xs rest slots t' v held fits_here,
    )
      where
        inner_root : Inner ≡ Root → ⊥
        inner_root e = cc

    read_known : (a c : ℕ) → at a ≡ Some n → is_gone (node_at g.nodes a).standing ≡ false → (node_at g.nodes c).parent ≡ Some (a, l) → ((j : ℕ) → IsPlace j l → j ≡ i) →
        Left p m (record f { stack = t' ∷ ts }) (got (record g { stack = xs }) l a (Some c)) h ls (v ∷ rest) below
    read_known a c is live parent only =
        let lives = hd.tidy.live a c l parent in
        let e = hd.holds.frames.0.edged a c l parent lives.0 lives.1 in
        let same = some_is e.0 n (sym e.1 ∙ is) in
        let held' : (trees p h).to n i ≡ at c = ap (λ z. (trees p h).to z i) (sym same) ∙ ap (λ z. (trees p h).to e.0 z) (sym (only e.2.place e.2.fits)) ∙ e.2.holds in (
          at,
          moved p m f (record f { stack = t' ∷ ts }) g g.locals (Some c ∷ xs) at h ls st ls (v ∷ rest) below hd.holds (record {
            on_stack = ((held ∙ held', live_within g.nodes c lives.1, (λ _. fits_here)), slots);
            in_locals = hd.holds.slots.in_locals;
          }),
        )

    read_child : (a : ℕ) → at a ≡ Some n → is_gone (node_at g.nodes a).standing ≡ false → is_safe (node_at g.nodes a).standing ≡ false → ((c : ℕ) → child_by g l a ≡ Some c → (j : ℕ) → IsPlace j l → j ≡ i) →
        (c : Option ℕ) → child_by g l a ≡ c → Left p m (record f { stack = t' ∷ ts }) (got (record g { stack = xs }) l a c) h ls (v ∷ rest) below
    read_child a is live not_safe only None e = read_new a is live not_safe
    read_child a is live not_safe only (Some c) e = read_known a c is live (child_found g l a c e) (only c e)

    read_node : (a : ℕ) → at a ≡ Some n → is_gone (node_at g.nodes a).standing ≡ false → ((c : ℕ) → child_by g l a ≡ Some c → (j : ℕ) → IsPlace j l → j ≡ i) → (b : Bool) → is_safe (node_at g.nodes a).standing ≡ b →
        Left p m (record f { stack = t' ∷ ts }) (cond b (got_safe (record g { stack = xs }) a) (got (record g { stack = xs }) l a (child_by g l a))) h ls (v ∷ rest) below
    read_node a is live only true e = read_safe a is live
    read_node a is live only false e = read_child a is live e only (child_by g l a) refl

    -- from what a slot names
    pub read_holds : (t : VType) (x : Option ℕ) (object : Object) → SlotFits p h (named_by g at) (length g.nodes) (sort p m t) x (Ref n) → ((a : ℕ) → x ≡ Some a → is_gone (node_at g.nodes a).standing ≡ false) →
        (sort p m t ≡ Anything → ⊥) → get h n ≡ Some object → (object_sort p object.class ≡ Own → ⊥) → ((a c : ℕ) → child_by g l a ≡ Some c → (j : ℕ) → IsPlace j l → j ≡ i) →
        Left p m (record f { stack = t' ∷ ts }) (read_from (record g { stack = xs }) l x) h ls (v ∷ rest) below
    read_holds t None object s live known there no_own only = absurd (no_own (null_or_own p h (sort p m t) n object there known s))
    read_holds t (Some a) object s live known there no_own only = read_node a (sym s.0) (live a refl) (only a) (is_safe (node_at g.nodes a).standing) refl
