-- What a call gives comes on top of the caller's stack.
use Rattle.std.proofs.Common.{◌≡◌, ℕ, ◌<◌, true, false, List, [], ◌∷◌, ◌++◌, map, length, Option, Some, None, refl, sym, ap, subst, ◌∙◌, inr, arith}
use Rattle.kilim_program.specs.declared.ty.Kind.TheVariants as kind
use Rattle.kilim_program.specs.declared.class.Method.{Method}
use Rattle.kilim_program.specs.declared.ty.Kind.{Kind}
use Rattle.kilim_program.specs.declared.ty.Ty.{Ty}
use Rattle.kilim_program.specs.declared.value.Value.{Value}
use Rattle.kilim_program.specs.Program.{Program}
use Rattle.kilim_program.specs.Kinds.{kind_of}
use Rattle.kilim_run_state.specs.Machine.{Objects}
use Rattle.kilim_type_spec.specs.Step.{Types, vtype, result_types}
use Rattle.kilim_isolation_laws.specs.forest.Heap.{Heap, Below, IsForest}
use Rattle.kilim_isolation_laws.specs.forest.Relation.{Root, is_gone, Label, Node, Named, Names, RespectsAll, Frames}
use Rattle.kilim_isolation_laws.specs.forest.Canonical.{node_at}
use Rattle.kilim_isolation_laws.proofs.forest.Grow.{root_relates}
use Rattle.kilim_isolation_laws.proofs.forest.Moves.{set_named, set_here, set_there, set_respects, AllBelow, below_root}
use Rattle.kilim_isolation_graph.specs.declared.graph.Graph.{Graph}
use Rattle.kilim_isolation_graph.specs.Nodes.{new_region}
use Rattle.kilim_isolation_rules.specs.Marks.{given, root_node}
use Rattle.kilim_isolation_rules.specs.Calls.{given_result}
use Rattle.kilim_isolation_graph.specs.Graphs.{added, push, node_of}
use Rattle.kilim_isolation_laws.specs.graph_rows.Holds.{sort, type_sort, Fits, unnamed, named_sort, refers, named_by, Waiting, waiting_named, Holds, Stands, trees}
use Rattle.kilim_isolation_laws.specs.forest.Laws.{IsPlace}
use Rattle.kilim_isolation_laws.proofs.graph_rows.Nodes.{region_fresh, end_absent}
use Rattle.kilim_isolation_laws.proofs.graph_rows.Added.{added_holds}
use Rattle.kilim_isolation_laws.proofs.graph_rows.Fields.{slot_sort, no_tree_sort, tree_sort}
use Rattle.kilim_isolation_laws.specs.graph_rows.Outcome.{Left, ReturnHolds}
use Rattle.kilim_program.specs.declared.verified.VType.{VType}

-- a Root that comes, to a graph whose known parents are nodes of it
module _ (h : Heap) (u : Named) (ls : List Named) (forest : IsForest h) (fs : Frames IsPlace h (u ∷ ls)) (k new : ℕ) (value : Option ℕ) (fresh : is_gone (u.node k).standing ≡ true)
    (edges : (n m : ℕ) (l : Label) → (u.node m).parent ≡ Some (n, l) → n ≡ k → ⊥) (unused : (n : ℕ) → is_gone (u.node n).standing ≡ false → (u.node n).region ≡ new → ⊥) where
  abbrev new_root : Node
  new_root = record { region = new; standing = Root; head = true; parent = None }

  pub root_comes : ((o : ℕ) → value ≡ Some o → h.has o ≡ true) → ((o p i : ℕ) → value ≡ Some o → h.to p i ≡ Some o → ⊥) → ((o n x : ℕ) → value ≡ Some o → Names u n x → Below h o x → ⊥) →
      AllBelow h value ls → Frames IsPlace h (set_named u k (record { region = new; standing = Root; head = true; parent = None }) value ∷ ls)
  root_comes there top apart lower = (
    root_relates IsPlace h u g k forest fs.0 (record { each = set_there u k new_root value; fresh = fresh; unused = edges }) (record {
      region = λ n live same. unused n live (same ∙ ap (λ z. z.region) here.0);
      parent = λ n l e. none_is (g.node k).parent (n, l) (ap (λ z. z.parent) here.0) e;
      there = λ o e. there o (sym here.1 ∙ e);
      top = λ o p i e. top o p i (sym here.1 ∙ e);
      apart = λ o n x e. apart o n x (sym here.1 ∙ e);
    }),
    respects ls fs.1 lower,
    fs.2,
  )
    where
      g : Named
      g = set_named u k new_root value

      here : (g.node k ≡ new_root) × (g.at k ≡ value)
      here = set_here u k new_root value

      none_is : (p : Option (ℕ × Label)) (q : ℕ × Label) → p ≡ None → p ≡ Some q → ⊥
      none_is p q e w = cc

      respects : (los : List Named) → RespectsAll h u los → AllBelow h value los → RespectsAll h g los
      respects [] rs low = tt
      respects (lo ∷ los) rs low = (set_respects u k new_root value h lo (λ o e _. inr (λ m x w. low.0 o m x e w)) rs.0, respects los rs.1 low.1)

pub none_below : (h : Heap) (ls : List Named) → AllBelow h None ls
none_below h [] = tt
none_below h (l ∷ ls) = ((λ o m x e w d. none_some o e), none_below h ls)
  where
    none_some : (o : ℕ) → None ≡ Some o → ⊥
    none_some o e = cc

-- ---- what a call gives comes on top of the stack

-- a tree that comes to a frame: it is there, nothing holds it, and nothing that the frame names is at or below it
pub record IsNews (p : Program) (h : Objects) (u : Named) (value : Option ℕ) : Type 0 where
  pub there : (o : ℕ) → value ≡ Some o → (trees p h).has o ≡ true
  pub top : (o q i : ℕ) → value ≡ Some o → (trees p h).to q i ≡ Some o → ⊥
  pub apart : (o n x : ℕ) → value ≡ Some o → Names u n x → Below (trees p h) o x → ⊥

abbrev pub pushed_value : Option Value → List Value → List Value
pushed_value None st = st
pushed_value (Some v) st = v ∷ st

-- the known parents of a graph are nodes of it
abbrev pub IsWithin : Graph → Type 0
IsWithin g = (n k : ℕ) (l : Label) → (node_at g.nodes k).parent ≡ Some (n, l) → n < length g.nodes

module _ (p : Program) (m : Method) (f : Types) (g : Graph) (at : ℕ → Option ℕ) (h : Objects) (ls st : List Value) (below : List Waiting) (hd : Holds p m f g at h ls st below) (within : IsWithin g) where
  comes : (value : Option ℕ) → IsNews p h (named_by g at) value → AllBelow (trees p h) value (map waiting_named below) →
      Frames IsPlace (trees p h) (set_named (named_by g at) (length g.nodes) (record { region = new_region g.nodes; standing = Root; head = true; parent = None }) value ∷ map waiting_named below)
  comes value w lower = root_comes (trees p h) (named_by g at) (map waiting_named below) hd.forest hd.frames (length g.nodes) (new_region g.nodes) value (end_absent g.nodes)
      (λ n k l e is. past n (within n k l e) is) (λ n live e. region_fresh g.nodes n live e) w.there w.top w.apart lower
    where
      past : (n : ℕ) → n < length g.nodes → n ≡ length g.nodes → ⊥
      past n lt e = omega arith

  pub tree_comes : (t : VType) (v : Value) → Fits p h (named_sort (sort p m t)) v → IsNews p h (named_by g at) (refers v) → AllBelow (trees p h) (refers v) (map waiting_named below) →
      Left p m (record f { stack = t ∷ f.stack }) (added (root_node g) g) h ls (v ∷ st) below
  tree_comes t v fits w lower = (
    _,
    added_holds p m f g at h ls st below hd (record { region = new_region g.nodes; standing = Root; head = true; parent = None }) (refers v) (comes (refers v) w lower)
        (λ e. refl) (λ e. refl) (λ e q x. none_some q x) f.stack g.stack st hd.slots.on_stack t v refl fits,
  )
    where
      none_some : (q : ℕ × Label) → ◌≡◌ {A = Option (ℕ × Label)} None (Some q) → ⊥
      none_some q e = cc

  plain_comes : (ty : Ty) (k : Kind) → kind_of p ty ≡ k → (k ≡ kind.Tree → ⊥) → (v : Value) → Fits p h (type_sort p ty) v → Left p m (record f { stack = vtype ty ∷ f.stack }) (push None g) h ls (v ∷ st) below
  plain_comes ty k kd not_tree v fits = (
    at,
    record {
      heap = hd.heap;
      forest = hd.forest;
      frames = hd.frames;
      tidy = hd.tidy;
      waits = hd.waits;
      slots = record { on_stack = (subst (λ z. Fits p h z v) (sym (ap unnamed (slot_sort p m ty) ∙ no_tree_sort p ty k kd not_tree)) fits, hd.slots.on_stack); in_locals = hd.slots.in_locals };
    },
  )

  by_kind : (ty : Ty) (k : Kind) → kind_of p ty ≡ k → (v : Value) → Fits p h (type_sort p ty) v → (kind_of p ty ≡ kind.Tree → IsNews p h (named_by g at) (refers v) × AllBelow (trees p h) (refers v) (map waiting_named below)) →
      Left p m (record f { stack = vtype ty ∷ f.stack }) (given k g) h ls (v ∷ st) below
  by_kind ty kind.Value kd v fits w = plain_comes ty kind.Value kd (λ e. cc) v fits
  by_kind ty kind.Private kd v fits w = plain_comes ty kind.Private kd (λ e. cc) v fits
  by_kind ty kind.Tree kd v fits w = tree_comes (vtype ty) v
      (subst (λ z. Fits p h (named_sort z) v) (sym (slot_sort p m ty ∙ (tree_sort p ty kd).2)) (subst (λ z. Fits p h z v) (tree_sort p ty kd).2 fits)) (w kd).0 (w kd).1

  pub value_comes : (ty : Ty) (v : Value) → Fits p h (type_sort p ty) v → (kind_of p ty ≡ kind.Tree → IsNews p h (named_by g at) (refers v) × AllBelow (trees p h) (refers v) (map waiting_named below)) →
      Left p m (record f { stack = vtype ty ∷ f.stack }) (given_result p (Some ty) g) h ls (v ∷ st) below
  value_comes ty v fits w = by_kind ty (kind_of p ty) refl v fits w

-- ---- a return

module _ (p : Program) (m : Method) (f : Types) (g g1 : Graph) (at : ℕ → Option ℕ) (h : Objects) (ls st : List Value) (w : Waiting) (ws : List Waiting) (hd : Stands p m f g at h ls st (w ∷ ws)) (nodes : g1.nodes ≡ g.nodes) where
  waits : Holds p w.method w.types w.graph w.at h w.locals w.stack ws
  waits = record { heap = hd.holds.heap; forest = hd.holds.forest; frames = hd.holds.frames.2; tidy = hd.holds.waits.0.tidy; slots = hd.holds.waits.0.slots; waits = hd.holds.waits.1 }

  news : (value : Option ℕ) → ((o : ℕ) → value ≡ Some o → (n : ℕ) × Names (named_by g at) n o × ((node_of g n).standing ≡ Root)) → IsNews p h (waiting_named w) value × AllBelow (trees p h) value (map waiting_named ws)
  news value root = (
    record {
      there = λ o e. hd.holds.frames.0.there (root o e).0 o (root o e).1;
      top = λ o q i e edge. hd.holds.frames.0.whole (root o e).0 o q i (root o e).1 (root o e).2 edge;
      apart = λ o n x e named down. below_root IsPlace (trees p h) (named_by g at) (root o e).0 o (root o e).1 (root o e).2 (waiting_named w) hd.holds.frames.1.0 n x named down;
    },
    lower (map waiting_named ws) hd.holds.frames.1.1,
  )
    where
      lower : (los : List Named) → RespectsAll (trees p h) (named_by g at) los → AllBelow (trees p h) value los
      lower [] rs = tt
      lower (lo ∷ los) rs = ((λ o k x e named down. below_root IsPlace (trees p h) (named_by g at) (root o e).0 o (root o e).1 (root o e).2 lo rs.0 k x named down), lower los rs.1)

  pub back : (result : Option Ty) (value : Option Value) → ReturnHolds p m g1 at h result value → Left p w.method (record w.types { stack = result_types result ++ w.types.stack }) (given_result p result w.graph) h w.locals (pushed_value value w.stack) ws
  back None None r = (w.at, waits)
  back None (Some v) r = absurd r
  back (Some ty) None r = absurd r
  back (Some ty) (Some v) r = value_comes p w.method w.types w.graph w.at h w.locals w.stack ws waits hd.holds.waits.0.within ty v r.0 (λ kd. news (refers v) (λ o e.
      let q = r.1 kd o e in
      (q.0, subst (λ z. Names (record { node = node_at z; at = at }) q.0 o) nodes q.1, ap (λ z. (node_at z q.0).standing) (sym nodes) ∙ q.2)))
