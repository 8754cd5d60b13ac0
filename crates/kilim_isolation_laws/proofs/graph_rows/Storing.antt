-- A tree, or null, is stored into a field or an element of a tree.
use Rattle.std.proofs.Common.{if◌then◌else◌, ◌≡◌, ℕ, zero, suc, ◌<◌, ◌==◌, true, false, true≢false, List, [], ◌∷◌, map, length, Option, Some, None, refl, sym, ap, subst, ◌∙◌, inl, inr, arith}
use Rattle.kilim_program.specs.declared.class.Method.{Method}
use Rattle.kilim_program.specs.declared.value.Value.{Value}
use Rattle.kilim_program.specs.declared.verified.VType.{VType}
use Rattle.kilim_program.specs.Program.{Program}
use Rattle.kilim_run_state.specs.Machine.{Objects}
use Rattle.kilim_type_spec.specs.Step.{Types, peek}
use Rattle.kilim_isolation_laws.specs.forest.Heap.{Below, IsForest, IsSet_at, IsUnder}
use Rattle.kilim_isolation_laws.specs.forest.Relation.{Root, Inner, is_gone, is_safe, Label, Node, Named, Names, Owns, RespectsAll, Frames}
use Rattle.kilim_isolation_laws.specs.forest.Steps.{join_node}
use Rattle.kilim_isolation_laws.specs.forest.Canonical.{node_at}
use Rattle.kilim_isolation_laws.proofs.forest.Tidy.{cut_tidy, cut_was_live, root_stays, join_tidy, join_was_live}
use Rattle.kilim_isolation_laws.specs.forest.Steps.{IsNearly_tidy}
use Rattle.kilim_isolation_laws.proofs.forest.Store.{a_before}
use Rattle.kilim_isolation_laws.proofs.forest.Nulls.{empty_keeps, graph, null_keeps}
use Rattle.kilim_isolation_laws.proofs.forest.Paths.{one_step, some_is, under_below}
use Rattle.kilim_isolation_laws.proofs.forest.Forests.{cut_path, cut_top}
use Rattle.kilim_isolation_laws.proofs.forest.Store.{has_some}
use Rattle.kilim_isolation_laws.proofs.forest.Moves.{AllBelow}
use Rattle.kilim_isolation_laws.proofs.forest.Stored.{stored}
use Rattle.kilim_isolation_graph.specs.declared.graph.Graph.{Graph}
use Rattle.kilim_isolation_graph.specs.Graphs.{slot, changed}
use Rattle.kilim_isolation_graph.specs.Nodes.{listed, new_region}
use Rattle.kilim_isolation_rules.specs.Fields.{cut, child_by, without_child}
use Rattle.kilim_isolation_laws.specs.graph_rows.Holds.{sort, AreSlots, named_by, value_at, Waiting, waiting_named, AllWait, Holds, Stands, HeapFits, trees}
use Rattle.kilim_isolation_laws.specs.forest.Laws.{IsPlace}
use Rattle.kilim_isolation_laws.specs.graph_rows.Outcome.{Left}
use Rattle.kilim_isolation_laws.proofs.graph_rows.Nodes.{region_fresh, live_within, listed_at, listed_length, listed_live, listed_each, same_frames, same_tidy}
use Rattle.kilim_isolation_laws.proofs.graph_rows.Heaps.{Grows, slot_grows}
use Rattle.kilim_isolation_laws.proofs.graph_rows.Added.{slots_grow, child_found}

pub waits_grow : (p : Program) (h h' : Objects) → Grows p h h' → (ws : List Waiting) → AllWait p h ws → AllWait p h' ws
waits_grow p h h' gr [] a = tt
waits_grow p h h' gr (w ∷ ws) a = (
  record {
    slots = record {
      on_stack = slots_grow p w.method h h' gr (waiting_named w) (waiting_named w) (length w.graph.nodes) (length w.graph.nodes) (λ n lt. refl) (λ n lt. lt) (λ n lt live. live) w.types.stack w.graph.stack w.stack a.0.slots.on_stack;
      in_locals = λ k. slot_grows p h h' gr (waiting_named w) (waiting_named w) (length w.graph.nodes) (length w.graph.nodes) (λ n lt. refl) (λ n lt. lt) (λ n lt live. live) (sort p w.method (peek w.types.locals k)) (slot w.graph.locals k) (value_at w.locals k) (a.0.slots.in_locals k);
    };
    tidy = a.0.tidy;
    within = a.0.within;
  },
  waits_grow p h h' gr ws a.1,
)

-- the nodes of a graph are changed, and the heap grows
pub changed_holds : (p : Program) (m : Method) (f : Types) (g : Graph) (at : ℕ → Option ℕ) (h h' : Objects) (ls st : List Value) (below : List Waiting) → Holds p m f g at h ls st below → (node : ℕ → Node) → Grows p h h' → HeapFits p h' →
    IsForest (trees p h') → Frames IsPlace (trees p h') (record { node = node; at = at } ∷ map waiting_named below) → IsNearly_tidy node →
    ((n : ℕ) → is_gone (node n).standing ≡ false → is_gone (node_at g.nodes n).standing ≡ false) → (ts : List VType) (xs : List (Option ℕ)) (rest : List Value) →
    AreSlots p m h (named_by g at) (length g.nodes) ts xs rest → Holds p m (record f { stack = ts }) (changed node (record g { stack = xs })) at h' ls rest below
changed_holds p m f g at h h' ls st below hd node gr hf forest frames tidy lives ts xs rest s = record {
  heap = hf;
  forest = forest;
  frames = same_frames IsPlace (trees p h') (record { node = node; at = at }) (record { node = node_at (listed node (length g.nodes)); at = at })
      (record { node = λ n live. (listed_live node (length g.nodes) n live).1; at = λ n live. refl }) (map waiting_named below) frames;
  tidy = same_tidy node (node_at (listed node (length g.nodes))) (listed_each node (length g.nodes)) tidy;
  slots = record {
    on_stack = slots_grow p m h h' gr (named_by g at) (record { node = node_at (listed node (length g.nodes)); at = at }) (length g.nodes) (length (listed node (length g.nodes))) (λ n lt. refl) more lives' ts xs rest s;
    in_locals = λ k. slot_grows p h h' gr (named_by g at) (record { node = node_at (listed node (length g.nodes)); at = at }) (length g.nodes) (length (listed node (length g.nodes))) (λ n lt. refl) more lives'
        (sort p m (peek f.locals k)) (slot g.locals k) (value_at ls k) (hd.slots.in_locals k);
  };
  waits = waits_grow p h h' gr below hd.waits;
}
  where
    more : (n : ℕ) → n < length g.nodes → n < length (listed node (length g.nodes))
    more n lt = subst (λ k. n < k) (sym (listed_length node (length g.nodes))) lt

    lives' : (n : ℕ) → n < length g.nodes → is_gone (node_at (listed node (length g.nodes)) n).standing ≡ false → is_gone (node_at g.nodes n).standing ≡ false
    lives' n lt live = lives n (ap (λ z. is_gone z.standing) (sym (listed_live node (length g.nodes) n live).1) ∙ live)

listed_same : (u v : ℕ → Node) (count : ℕ) → ((n : ℕ) → n < count → u n ≡ v n) → listed u count ≡ listed v count
listed_same u v zero same = refl
listed_same u v (suc count) same = ap (λ z. z ∷ listed (λ n. u (suc n)) count) (same 0 (omega arith)) ∙ ap (λ z. v 0 ∷ z) (listed_same (λ n. u (suc n)) (λ n. v (suc n)) count (λ n lt. same (suc n) (omega arith)))

abbrev join_by : Node → Node → Node → (a b : ℕ) → Label → ℕ → Node
join_by x of_a of_b a b l n =
    if x.region == of_b.region then record { region = of_a.region; standing = (if n == b then Inner else x.standing); head = false; parent = (if n == b then Some (a, l) else x.parent) } else x

joined_same : (u v : ℕ → Node) (a b : ℕ) (l : Label) (n : ℕ) → u n ≡ v n → u a ≡ v a → u b ≡ v b → join_node u a b l n ≡ join_node v a b l n
joined_same u v a b l n e ea eb = ap (λ x. join_by x (u a) (u b) a b l n) e ∙ ap (λ x. join_by (v n) x (u b) a b l n) ea ∙ ap (λ x. join_by (v n) (v a) x a b l n) eb

module _ (p : Program) (m : Method) (f : Types) (g : Graph) (at : ℕ → Option ℕ) (h h' : Objects) (ls st : List Value) (below : List Waiting) (hd : Stands p m f g at h ls st below)
    (l : Label) (a n i : ℕ) (place : IsPlace i l) (only : (c : ℕ) → child_by g l a ≡ Some c → (j : ℕ) → IsPlace j l → j ≡ i) (is : at a ≡ Some n) (live : is_gone (node_at g.nodes a).standing ≡ false)
    (not_safe : is_safe (node_at g.nodes a).standing ≡ false) (gr : Grows p h h') (hf : HeapFits p h') (ts : List VType) (xs : List (Option ℕ)) (rest : List Value)
    (slots : AreSlots p m h (named_by g at) (length g.nodes) ts xs rest) where
  abbrev node : ℕ → Node
  node = node_at g.nodes

  abbrev u : Named
  u = named_by g at

  owns : Owns u a n
  owns = (live, not_safe, is)

  fresh : (k : ℕ) → is_gone (node k).standing ≡ false → (node k).region ≡ new_region g.nodes → ⊥
  fresh k lives = region_fresh g.nodes k lives

  child : (root : ℕ) → child_by g l a ≡ Some root → ((node root).parent ≡ Some (a, l)) × ((j : ℕ) → IsPlace j l → j ≡ i)
  child root e = (child_found g l a root e, only root e)

  child_live : (root : ℕ) → child_by g l a ≡ Some root → ((node root).parent ≡ Some (a, l)) × (is_gone (node root).standing ≡ false)
  child_live root e = (child_found g l a root e, (hd.tidy.live a root l (child_found g l a root e)).1)

  nearly : IsNearly_tidy node
  nearly = hd.holds.tidy

  cut_tidied : IsNearly_tidy (cut g l a)
  cut_tidied = cut_tidy node nearly (length g.nodes) a (new_region g.nodes) l (child_by g l a) fresh child_live

  cut_lives : (k : ℕ) → is_gone (cut g l a k).standing ≡ false → is_gone (node k).standing ≡ false
  cut_lives k lives = cut_was_live node nearly (length g.nodes) a (new_region g.nodes) l (child_by g l a) fresh child_live k lives

  -- null is stored
  module _ (s : IsSet_at (trees p h) (trees p h') n i None) where
    emptied : IsForest (trees p h') × Frames IsPlace (trees p h') (record { node = cut g l a; at = at } ∷ map waiting_named below)
    emptied = empty_keeps IsPlace (trees p h) (trees p h') u (map waiting_named below) hd.holds.forest hd.holds.frames hd.tidy a n i (length g.nodes) (new_region g.nodes) l (child_by g l a) owns fresh child s

    pub null_holds : Holds p m (record f { stack = ts }) (changed (cut g l a) (record g { stack = xs })) at h' ls rest below
    null_holds = changed_holds p m f g at h h' ls st below hd.holds (cut g l a) gr hf emptied.0 emptied.1 cut_tidied cut_lives ts xs rest slots

    pub null_stored : Left p m (record f { stack = ts }) (changed (cut g l a) (record g { stack = xs })) h' ls rest below
    null_stored = (at, null_holds)

    -- what stood there is above nothing that a frame names
    under_was : (x y : ℕ) → (trees p h).to n i ≡ Some x → Below (trees p h') x y → IsUnder (trees p h) n y
    under_was x y was down = under_below (trees p h) n x y (one_step (trees p h) n i x was) (cut_path (trees p h) (trees p h') n i hd.holds.forest s x y down)

    pub was_apart : child_by g l a ≡ None → (x : ℕ) → (trees p h).to n i ≡ Some x → (k y : ℕ) → Names (record { node = cut g l a; at = at }) k y → Below (trees p h') x y → ⊥
    was_apart no_child x was k y w down = elim ((graph IsPlace (trees p h) (trees p h') u (map waiting_named below) hd.holds.forest hd.holds.frames hd.tidy a n i (length g.nodes) (new_region g.nodes) l (child_by g l a) owns fresh child s).kinds k w.0) [
      | inl part ↦ true≢false (sym part.some_part ∙ ap has_some no_child)
      | inr rest ↦ rest.outside y w.1 (under_was x y was down)
    ]

    pub was_lower : (x : ℕ) → (trees p h).to n i ≡ Some x → AllBelow (trees p h') (Some x) (map waiting_named below)
    was_lower x was = by (map waiting_named below) hd.holds.frames.1
      where
        by : (los : List Named) → RespectsAll (trees p h) u los → AllBelow (trees p h') (Some x) los
        by [] rs = tt
        by (lo ∷ los) rs = ((λ o k y e w down. rs.0.strictly a n k y owns w (under_was x y was (subst (λ z. Below (trees p h') z y) (sym (some_is x o e)) down))), by los rs.1)

    pub was_top : (x : ℕ) → (trees p h).to n i ≡ Some x → (q j : ℕ) → (trees p h').to q j ≡ Some x → ⊥
    was_top x was q j e = cut_top (trees p h) (trees p h') n i hd.holds.forest s x was q j e

  -- a root is stored
  module _ (b : ℕ) (root : (node b).standing ≡ Root) (apart : (node b).region ≡ (node a).region → ⊥) where
    b_stays : ((cut g l a b).standing ≡ Root) × ((cut g l a b).head ≡ true)
    b_stays = root_stays node nearly (length g.nodes) a (new_region g.nodes) l (child_by g l a) fresh child_live b root apart

    joined : ℕ → Node
    joined k = join_node (cut g l a) a b l k

    join_tidied : IsNearly_tidy (λ k. join_node (cut g l a) a b l k)
    join_tidied = join_tidy (cut g l a) cut_tidied a b l b_stays.0

    join_lives : (k : ℕ) → is_gone (join_node (cut g l a) a b l k).standing ≡ false → is_gone (node k).standing ≡ false
    join_lives k lives = cut_lives k (join_was_live (cut g l a) cut_tidied a b l b_stays.0 k lives)

    tree_frames : (c : ℕ) → at b ≡ Some c → IsSet_at (trees p h) (trees p h') n i (Some c) →
        IsForest (trees p h') × Frames IsPlace (trees p h') (record { node = λ k. join_node (cut g l a) a b l k; at = at } ∷ map waiting_named below)
    tree_frames c at_b s = stored IsPlace (trees p h) (trees p h') u (map waiting_named below) hd.holds.forest hd.holds.frames hd.tidy a b n c i (length g.nodes) (new_region g.nodes) l (child_by g l a) (record {
      owns_a = owns;
      names_b = (ap is_gone root, at_b);
      root = root;
      apart = apart;
      place = place;
      fresh = fresh;
      child = child;
    }) s

    null_frames : at b ≡ None → IsSet_at (trees p h) (trees p h') n i None →
        IsForest (trees p h') × Frames IsPlace (trees p h') (record { node = λ k. join_node (cut g l a) a b l k; at = at } ∷ map waiting_named below)
    null_frames at_b s =
        let e = emptied s in
        let names_a = (a_before IsPlace (trees p h) (trees p h') u hd.holds.forest hd.holds.frames.0 hd.tidy a n i (length g.nodes) (new_region g.nodes) l (child_by g l a) (live, is) fresh child s).0 in
        (e.0, null_keeps IsPlace (trees p h') (record { node = cut g l a; at = at }) (map waiting_named below) e.1 a b n i l names_a b_stays.0 at_b b_stays.1 s.is place)

    by_value : (w : Option ℕ) → at b ≡ w → IsSet_at (trees p h) (trees p h') n i w →
        IsForest (trees p h') × Frames IsPlace (trees p h') (record { node = λ k. join_node (cut g l a) a b l k; at = at } ∷ map waiting_named below)
    by_value None e s = null_frames e s
    by_value (Some c) e s = tree_frames c e s

    stored_nodes : listed (join_node (node_at (listed (cut g l a) (length g.nodes))) a b l) (length (listed (cut g l a) (length g.nodes))) ≡ listed (join_node (cut g l a) a b l) (length g.nodes)
    stored_nodes = ap (listed (join_node (node_at (listed (cut g l a) (length g.nodes))) a b l)) (listed_length (cut g l a) (length g.nodes))
        ∙ listed_same (join_node (node_at (listed (cut g l a) (length g.nodes))) a b l) (join_node (cut g l a) a b l) (length g.nodes) (λ k lt.
        joined_same (node_at (listed (cut g l a) (length g.nodes))) (cut g l a) a b l k (listed_at (cut g l a) (length g.nodes) k lt) (listed_at (cut g l a) (length g.nodes) a (live_within g.nodes a live))
        (listed_at (cut g l a) (length g.nodes) b (live_within g.nodes b (ap is_gone root))))

    root_left : IsSet_at (trees p h) (trees p h') n i (at b) → Left p m (record f { stack = ts }) (changed (join_node (cut g l a) a b l) (record g { stack = xs })) h' ls rest below
    root_left s = (at, changed_holds p m f g at h h' ls st below hd.holds (λ k. join_node (cut g l a) a b l k) gr hf (by_value (at b) refl s).0 (by_value (at b) refl s).1 join_tidied join_lives ts xs rest slots)

    pub root_stored : IsSet_at (trees p h) (trees p h') n i (at b) → Left p m (record f { stack = ts }) (Rattle.kilim_isolation_rules.specs.Fields.joined (without_child (record g { stack = xs }) l a) l a b) h' ls rest below
    root_stored s = subst (λ z. Left p m (record f { stack = ts }) (record g { stack = xs; nodes = z }) h' ls rest below) (sym stored_nodes) (root_left s)
