-- A node comes, and the topmost slot names it; and what else a step does to slots.
use Rattle.std.proofs.Common.{◌≡◌, ℕ, suc, ◌+◌, ◌<◌, ◌==◌, true, false, true≢false, eqb, cond, List, [], ◌∷◌, ◌++◌, map, length, Option, Some, None, refl, sym, ap, subst, ◌∙◌, ◌⊎◌, inl, inr, arith}
use Rattle.std.specs.List.{list_any}
use Rattle.kilim_program.specs.declared.class.Method.{Method}
use Rattle.kilim_program.specs.declared.names.FieldId.{FieldId}
use Rattle.kilim_program.specs.declared.value.Value.{Value}
use Rattle.kilim_program.specs.declared.verified.VType.{VType}
use Rattle.kilim_program.specs.Program.{Program}
use Rattle.kilim_run_state.specs.Machine.{Objects}
use Rattle.kilim_type_spec.specs.Step.{Types, peek}
use Rattle.kilim_isolation_laws.specs.forest.Relation.{Root, is_gone, Label, Field, Element, Node, Named, Frames}
use Rattle.kilim_isolation_laws.specs.forest.Steps.{pick, set_node}
use Rattle.kilim_isolation_laws.specs.forest.Canonical.{node_at}
use Rattle.kilim_isolation_laws.proofs.forest.Store.{both_ways, is_same, is_not_same, same_is}
use Rattle.kilim_isolation_laws.specs.forest.Steps.{IsNearly_tidy}
use Rattle.kilim_isolation_laws.proofs.forest.Moves.{set_named}
use Rattle.kilim_isolation_graph.specs.declared.graph.Graph.{Graph}
use Rattle.kilim_isolation_graph.specs.Graphs.{slot, added}
use Rattle.kilim_isolation_graph.specs.Nodes.{new_region}
use Rattle.kilim_isolation_rules.specs.Marks.{names_gone}
use Rattle.kilim_isolation_rules.specs.Fields.{is_child, same_label, known_child, child_by}
use Rattle.kilim_isolation_laws.specs.graph_rows.Holds.{sort, Fits, named_sort, refers, AreSlots, named_by, value_at, Waiting, waiting_named, Holds, trees}
use Rattle.kilim_isolation_laws.specs.forest.Laws.{IsPlace}
use Rattle.kilim_isolation_laws.proofs.graph_rows.Nodes.{last_at, other_at, more_length, region_fresh, HasSameLive, same_frames}
use Rattle.kilim_isolation_laws.proofs.graph_rows.Heaps.{Grows, slot_grows}
use Rattle.kilim_isolation_laws.proofs.graph_rows.Settle.{or_left, or_right, and_left, and_right}

module _ (p : Program) (m : Method) (h h' : Objects) (gr : Grows p h h') (u u' : Named) (count count' : ℕ) (at : (n : ℕ) → n < count → u'.at n ≡ u.at n) (more : (n : ℕ) → n < count → n < count')
    (lives : (n : ℕ) → n < count → is_gone (u'.node n).standing ≡ false → is_gone (u.node n).standing ≡ false) where
  pub slots_grow : (ts : List VType) (xs : List (Option ℕ)) (vs : List Value) → AreSlots p m h u count ts xs vs → AreSlots p m h' u' count' ts xs vs
  slots_grow [] [] [] s = tt
  slots_grow (t ∷ ts) (x ∷ xs) (v ∷ vs) s = (slot_grows p h h' gr u u' count count' at more lives (sort p m t) x v s.0, slots_grow ts xs vs s.1)
  slots_grow [] [] (v ∷ vs) s = absurd s
  slots_grow [] (x ∷ xs) vs s = absurd s
  slots_grow (t ∷ ts) [] vs s = absurd s
  slots_grow (t ∷ ts) (x ∷ xs) [] s = absurd s

module _ (p : Program) (m : Method) (f : Types) (g : Graph) (at : ℕ → Option ℕ) (h : Objects) (ls st : List Value) (below : List Waiting) (hd : Holds p m f g at h ls st below) (node : Node) (value : Option ℕ) where
  abbrev pub at_added : ℕ → Option ℕ
  at_added n = pick (eqb n (length g.nodes)) value (at n)

  abbrev pub node_added : ℕ → Node
  node_added n = node_at (g.nodes ++ node ∷ []) n

  added_same : HasSameLive (set_named (named_by g at) (length g.nodes) node value) (record { node = node_added; at = at_added })
  added_same = record { node = λ n live. by n (both_ways (eqb n (length g.nodes))); at = λ n live. refl }
    where
      by : (n : ℕ) → (eqb n (length g.nodes) ≡ true) ⊎ (eqb n (length g.nodes) ≡ false) → node_added n ≡ set_node (node_at g.nodes) (length g.nodes) node n
      by n (inl e) = ap node_added (is_same n (length g.nodes) e) ∙ last_at g.nodes node ∙ sym (ap (λ b. pick b node (node_at g.nodes n)) e)
      by n (inr e) = other_at g.nodes node n (is_not_same n (length g.nodes) e) ∙ sym (ap (λ b. pick b node (node_at g.nodes n)) e)

  each : (n : ℕ) → (n ≡ length g.nodes) × (node_added n ≡ node) ⊎ (node_added n ≡ node_at g.nodes n)
  each n = elim (both_ways (eqb n (length g.nodes))) [
    | inl e ↦ inl (is_same n (length g.nodes) e, ap node_added (is_same n (length g.nodes) e) ∙ last_at g.nodes node)
    | inr e ↦ inr (other_at g.nodes node n (is_not_same n (length g.nodes) e))
  ]

  added_tidy : (node.standing ≡ Root → node.head ≡ true) → (node.head ≡ true → node.region ≡ new_region g.nodes) → (node.head ≡ true → (q : ℕ × Label) → node.parent ≡ Some q → ⊥) → IsNearly_tidy node_added
  added_tidy rh hr ht = record {
    roots = λ n e. elim (each n) [
      | inl w ↦ ap (λ z. z.head) w.1 ∙ rh (ap (λ z. z.standing) (sym w.1) ∙ e)
      | inr w ↦ ap (λ z. z.head) w ∙ hd.tidy.roots n (ap (λ z. z.standing) (sym w) ∙ e)
    ];
    one_head = λ a b ha hb la lb same. elim (each a) [
      | inl v ↦ elim (each b) [
        | inl w ↦ v.0 ∙ sym w.0
        | inr w ↦ absurd (region_fresh g.nodes b (ap (λ z. is_gone z.standing) (sym w) ∙ lb)
            (ap (λ z. z.region) (sym w) ∙ sym same ∙ ap (λ z. z.region) v.1 ∙ hr (ap (λ z. z.head) (sym v.1) ∙ ha)))
      ]
      | inr v ↦ elim (each b) [
        | inl w ↦ absurd (region_fresh g.nodes a (ap (λ z. is_gone z.standing) (sym v) ∙ la)
            (ap (λ z. z.region) (sym v) ∙ same ∙ ap (λ z. z.region) w.1 ∙ hr (ap (λ z. z.head) (sym w.1) ∙ hb)))
        | inr w ↦ hd.tidy.one_head a b (ap (λ z. z.head) (sym v) ∙ ha) (ap (λ z. z.head) (sym w) ∙ hb) (ap (λ z. is_gone z.standing) (sym v) ∙ la) (ap (λ z. is_gone z.standing) (sym w) ∙ lb)
            (ap (λ z. z.region) (sym v) ∙ same ∙ ap (λ z. z.region) w)
      ]
    ];
    heads_top = λ n q hn e. elim (each n) [
      | inl w ↦ ht (ap (λ z. z.head) (sym w.1) ∙ hn) q (ap (λ z. z.parent) (sym w.1) ∙ e)
      | inr w ↦ hd.tidy.heads_top n q (ap (λ z. z.head) (sym w) ∙ hn) (ap (λ z. z.parent) (sym w) ∙ e)
    ];
  }

  old_at : (n : ℕ) → n < length g.nodes → at_added n ≡ at n
  old_at n lt = elim (both_ways (eqb n (length g.nodes))) [
    | inl e ↦
        let is = is_same n (length g.nodes) e in
        absurd (omega arith)
    | inr e ↦ ap (λ b. pick b value (at n)) e
  ]

  old_lives : (n : ℕ) → n < length g.nodes → is_gone (node_added n).standing ≡ false → is_gone (node_at g.nodes n).standing ≡ false
  old_lives n lt live = elim (each n) [
    | inl w ↦
        let is = w.0 in
        absurd (omega arith)
    | inr w ↦ ap (λ z. is_gone z.standing) (sym w) ∙ live
  ]

  more : (n : ℕ) → n < length g.nodes → n < length (g.nodes ++ node ∷ [])
  more n lt =
      let e = more_length g.nodes node in
      subst (λ k. n < k) (sym e) (omega arith)

  pub added_holds : Frames IsPlace (trees p h) (set_named (named_by g at) (length g.nodes) node value ∷ map waiting_named below) →
      (node.standing ≡ Root → node.head ≡ true) → (node.head ≡ true → node.region ≡ new_region g.nodes) → (node.head ≡ true → (q : ℕ × Label) → node.parent ≡ Some q → ⊥) →
      (ts : List VType) (xs : List (Option ℕ)) (vs : List Value) → AreSlots p m h (named_by g at) (length g.nodes) ts xs vs → (t : VType) (v : Value) → refers v ≡ value → Fits p h (named_sort (sort p m t)) v →
      Holds p m (record f { stack = t ∷ ts }) (added node (record g { stack = xs })) at_added h ls (v ∷ vs) below
  added_holds frames rh hr ht ts xs vs s t v is fits = record {
    heap = hd.heap;
    forest = hd.forest;
    frames = same_frames IsPlace (trees p h) (set_named (named_by g at) (length g.nodes) node value) (record { node = node_added; at = at_added }) added_same (map waiting_named below) frames;
    tidy = added_tidy rh hr ht;
    slots = record {
      on_stack = (
        (is ∙ sym (ap (λ b. pick b value (at (length g.nodes))) (same_is (length g.nodes))), end_within, (λ live. fits)),
        slots_grow p m h h (λ o z w. w) (named_by g at) (record { node = node_added; at = at_added }) (length g.nodes) (length (g.nodes ++ node ∷ [])) old_at more old_lives ts xs vs s,
      );
      in_locals = λ k. slot_grows p h h (λ o z w. w) (named_by g at) (record { node = node_added; at = at_added }) (length g.nodes) (length (g.nodes ++ node ∷ [])) old_at more old_lives (sort p m (peek f.locals k)) (slot g.locals k) (value_at ls k) (hd.slots.in_locals k);
    };
    waits = hd.waits;
  }
    where
      end_within : length g.nodes < length (g.nodes ++ node ∷ [])
      end_within =
          let e = more_length g.nodes node in
          subst (λ k. length g.nodes < k) (sym e) (omega arith)

-- ---- the search for a known child is right

label_is : (l : Label) (f : FieldId) → same_label l f ≡ true → l ≡ Field f
label_is (Field k) f e = ap (λ (z : ℕ). Field (record { 0 = z })) (is_same k.0 f.0 e)
label_is Element f e = absurd (true≢false (sym e))

child_is : (q : Option (ℕ × Label)) (a : ℕ) (f : FieldId) → is_child q a f ≡ true → q ≡ Some (a, Field f)
child_is None a f e = absurd (true≢false (sym e))
child_is (Some q) a f e =
    ap (λ z. Some (z, q.1)) (is_same q.0 a (and_left (q.0 == a) (same_label q.1 f) e)) ∙ ap (λ z. Some (a, z)) (label_is q.1 f (and_right (q.0 == a) (same_label q.1 f) e))

found_child : (ns : List Node) (k a : ℕ) (f : FieldId) (c : ℕ) → known_child ns k a f ≡ Some c → (i : ℕ) × (c ≡ k + i) × ((node_at ns i).parent ≡ Some (a, Field f))
found_child [] k a f c e = absurd (cc)
found_child (x ∷ ns) k a f c e = elim (both_ways (is_child x.parent a f)) [
  | inl it ↦
      let is : k ≡ c = the k (ap (λ b. cond b (Some k) (known_child ns (suc k) a f)) (sym it) ∙ e) in
      (0, omega arith, child_is x.parent a f it)
  | inr other ↦
      let w = found_child ns (suc k) a f c (ap (λ b. cond b (Some k) (known_child ns (suc k) a f)) (sym other) ∙ e) in
      let is = w.1 in
      (suc w.0, omega arith, w.2)
]
  where
    the : (j : ℕ) → Some j ≡ Some c → j ≡ c
    the j w = cc

pub child_found : (g : Graph) (l : Label) (a c : ℕ) → child_by g l a ≡ Some c → (node_at g.nodes c).parent ≡ Some (a, l)
child_found g (Field f) a c e =
    let w = found_child g.nodes 0 a f c e in
    let e' = w.1 in
    let is : c ≡ w.0 = omega arith in
    ap (λ z. (node_at g.nodes z).parent) is ∙ w.2
child_found g Element a c e = absurd (cc)
