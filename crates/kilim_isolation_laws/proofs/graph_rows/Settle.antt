-- From a graph that an instruction left to the canonical one at the next place.
use Rattle.std.proofs.Common.{◌≡◌, ℕ, zero, suc, ◌<◌, Bool, true, false, true≢false, not, ◌&&◌, ◌||◌, Option, Some, None, List, [], ◌∷◌, ◌++◌, map, length, reverse, eqb, refl, ap, sym, subst, ◌∙◌, ◌⊎◌, inl, inr}
use Rattle.std.specs.List.{list_any}
use mathlib.Core.List.{reverse_aux}
use Rattle.kilim_program.specs.declared.verified.VType.TheVariants as vtype
use Rattle.kilim_program.specs.declared.class.Method.{Method}
use Rattle.kilim_program.specs.declared.value.Value.{Value}
use Rattle.kilim_program.specs.declared.verified.VType.{VType}
use Rattle.kilim_program.specs.Program.{Program}
use Rattle.kilim_run_state.specs.Machine.{Objects}
use Rattle.kilim_type_spec.specs.Step.{Types, peek, assignable}
use Rattle.kilim_type_spec.specs.Typed.{FlowsInto, all_assignable}
use Rattle.kilim_isolation_laws.specs.forest.Relation.{is_gone, Node, Named}
use Rattle.kilim_isolation_laws.specs.forest.Steps.{either, IsTidy}
use Rattle.kilim_isolation_laws.specs.forest.Canonical.{node_at, number_at, index_of, member, firsts, canonical_nodes}
use Rattle.kilim_isolation_laws.proofs.forest.Store.{same_is}
use Rattle.kilim_isolation_laws.proofs.forest.Canon.{number_of_index, in_firsts, member_tail}
use Rattle.kilim_isolation_laws.proofs.forest.Nulls.{canonical_keeps}
use Rattle.kilim_isolation_graph.specs.declared.graph.Graph.{Graph}
use Rattle.kilim_isolation_graph.specs.Graphs.{slot}
use Rattle.kilim_isolation_graph.specs.Canonical.{named, slots_of, renumbered, canonical, kept_name, kept_names, cleared}
use Rattle.kilim_isolation_rules.specs.Marks.{mixes, any_mixes, flow_mixes, names_gone, stack_lives, is_tree}
use Rattle.kilim_isolation_laws.specs.graph_rows.Holds.{Sort, Anything, Wide, Word, Own, Tree, sort, Fits, unnamed, named_sort, SlotFits, AreSlots, SlotsFit, named_by, value_at, Waiting, Holds, Stands, FlowsTo, IsReference, KindsFlow, trees}
use Rattle.kilim_isolation_laws.specs.forest.Laws.{IsPlace}
use Rattle.kilim_isolation_laws.proofs.graph_rows.Nodes.{canonical_index, canonical_length, canonical_tidy, index_within}

-- ---- booleans

pub or_left : (a b : Bool) → (a || b) ≡ false → a ≡ false
or_left true b e = absurd (true≢false e)
or_left false b e = refl

pub or_right : (a b : Bool) → (a || b) ≡ false → b ≡ false
or_right true b e = absurd (true≢false e)
or_right false b e = e

pub and_left : (a b : Bool) → (a && b) ≡ true → a ≡ true
and_left true b e = refl
and_left false b e = absurd (true≢false (sym e))

pub and_right : (a b : Bool) → (a && b) ≡ true → b ≡ true
and_right true b e = e
and_right false b e = absurd (true≢false (sym e))

pub not_true : (a : Bool) → not a ≡ true → a ≡ false
not_true true e = absurd (true≢false (sym e))
not_true false e = refl

-- ---- a slot of one sort becomes one of another

module _ (p : Program) (h : Objects) (u : Named) (count : ℕ) where
  word_to : (to : Sort) → IsReference to → (v : Value) → Fits p h Word v → Fits p h (unnamed to) v × Fits p h (named_sort to) v
  word_to Own r v f = ((f.0, λ o e. absurd (none_some o (sym f.1 ∙ e))), f)
    where
      none_some : (o : ℕ) → None ≡ Some o → ⊥
      none_some o e = cc
  word_to (Tree dims stuff) r v f = (f, (f.0, λ o e. absurd (none_some o (sym f.1 ∙ e))))
    where
      none_some : (o : ℕ) → None ≡ Some o → ⊥
      none_some o e = cc
  word_to Anything r v f = absurd r
  word_to Wide r v f = absurd r
  word_to Word r v f = absurd r

  pub any_slot : (s : Sort) (x : Option ℕ) (v : Value) → SlotFits p h u count s x v → SlotFits p h u count Anything x v
  any_slot s None v f = tt
  any_slot s (Some n) v f = (f.0, f.1, λ live. tt)

  pub word_slot : (to : Sort) → IsReference to → (x : Option ℕ) (v : Value) → SlotFits p h u count Word x v → SlotFits p h u count to x v
  word_slot to r None v f = (word_to to r v f).0
  word_slot to r (Some n) v f = (f.0, f.1, λ live. (word_to to r v (f.2 live)).1)

  pub flow_slot : (s to : Sort) → FlowsTo s to → (x : Option ℕ) (v : Value) → SlotFits p h u count s x v → SlotFits p h u count to x v
  flow_slot s to (inl e) x v f = subst (λ z. SlotFits p h u count z x v) (sym e) (any_slot s x v f)
  flow_slot s to (inr (inl w)) x v f = word_slot to w.1 x v (subst (λ z. SlotFits p h u count z x v) w.0 f)
  flow_slot s to (inr (inr e)) x v f = subst (λ z. SlotFits p h u count z x v) e f

  unname : (m : Method) (x : Option ℕ) (v : Value) → SlotFits p h u count (sort p m vtype.Top) None v
  unfolding sort
  unname m x v = tt

  -- into a declared frame
  pub into_slot : (flow : KindsFlow p) (m : Method) (t to : VType) → assignable p t to ≡ true → mixes p t to ≡ false → (x : Option ℕ) (v : Value) → SlotFits p h u count (sort p m t) x v →
      SlotFits p h u count (sort p m to) (kept_name to x) v
  into_slot flow m t vtype.Top a mix x v f = unname m x v
  into_slot flow m t vtype.Int a mix x v f = flow_slot (sort p m t) (sort p m vtype.Int) (flow m t vtype.Int a mix) x v f
  into_slot flow m t vtype.Long a mix x v f = flow_slot (sort p m t) (sort p m vtype.Long) (flow m t vtype.Long a mix) x v f
  into_slot flow m t vtype.Null a mix x v f = flow_slot (sort p m t) (sort p m vtype.Null) (flow m t vtype.Null a mix) x v f
  into_slot flow m t vtype.UninitThis a mix x v f = flow_slot (sort p m t) (sort p m vtype.UninitThis) (flow m t vtype.UninitThis a mix) x v f
  into_slot flow m t (vtype.Uninit at) a mix x v f = flow_slot (sort p m t) (sort p m (vtype.Uninit at)) (flow m t (vtype.Uninit at) a mix) x v f
  into_slot flow m t (vtype.Object ty) a mix x v f = flow_slot (sort p m t) (sort p m (vtype.Object ty)) (flow m t (vtype.Object ty) a mix) x v f

  into_stack : (flow : KindsFlow p) (m : Method) (ts ds : List VType) → all_assignable p ts ds ≡ true → any_mixes p ts ds ≡ false → (xs : List (Option ℕ)) (vs : List Value) →
      AreSlots p m h u count ts xs vs → AreSlots p m h u count ds (kept_names ds xs) vs
  into_stack flow m [] [] a mix [] [] s = tt
  into_stack flow m (t ∷ ts) (d ∷ ds) a mix (x ∷ xs) (v ∷ vs) s = (
    into_slot flow m t d (and_left (assignable p t d) (all_assignable p ts ds) a) (or_left (mixes p t d) (any_mixes p ts ds) mix) x v s.0,
    into_stack flow m ts ds (and_right (assignable p t d) (all_assignable p ts ds) a) (or_right (mixes p t d) (any_mixes p ts ds) mix) xs vs s.1,
  )
  into_stack flow m [] (d ∷ ds) a mix xs vs s = absurd (true≢false (sym a))
  into_stack flow m (t ∷ ts) [] a mix xs vs s = absurd (true≢false (sym a))
  into_stack flow m [] [] a mix (x ∷ xs) vs s = absurd s
  into_stack flow m [] [] a mix [] (v ∷ vs) s = absurd s
  into_stack flow m (t ∷ ts) (d ∷ ds) a mix [] vs s = absurd s
  into_stack flow m (t ∷ ts) (d ∷ ds) a mix (x ∷ xs) [] s = absurd s

no_mix : (p : Program) (ts ds : List VType) → any_mixes p ts ds ≡ false → (k : ℕ) → mixes p (peek ts k) (peek ds k) ≡ false
no_mix p [] ds e k = refl
no_mix p (t ∷ ts) [] e k = by (is_tree p (peek (t ∷ ts) k))
  where
    by : (b : Bool) → (b && false) ≡ false
    by true = refl
    by false = refl
no_mix p (t ∷ ts) (d ∷ ds) e zero = or_left (mixes p t d) (any_mixes p ts ds) e
no_mix p (t ∷ ts) (d ∷ ds) e (suc k) = no_mix p ts ds (or_right (mixes p t d) (any_mixes p ts ds) e) k

pub kept_slot : (types : List VType) (xs : List (Option ℕ)) (k : ℕ) → slot (kept_names types xs) k ≡ kept_name (peek types k) (slot xs k)
kept_slot types [] k = by (peek types k)
  where
    by : (t : VType) → None ≡ kept_name t None
    by vtype.Top = refl
    by vtype.Int = refl
    by vtype.Long = refl
    by vtype.Null = refl
    by vtype.UninitThis = refl
    by (vtype.Uninit at) = refl
    by (vtype.Object ty) = refl
kept_slot [] (x ∷ xs) zero = refl
kept_slot (t ∷ ts) (x ∷ xs) zero = refl
kept_slot [] (x ∷ xs) (suc k) = kept_slot [] xs k
kept_slot (t ∷ ts) (x ∷ xs) (suc k) = kept_slot ts xs k

pub slots_cleared : (p : Program) (m : Method) (f d : Types) (g : Graph) (at : ℕ → Option ℕ) (h : Objects) (locals stack : List Value) → KindsFlow p → FlowsInto p f d → flow_mixes p f d ≡ false →
    SlotsFit p m f g at h locals stack → SlotsFit p m d (cleared d g) at h locals stack
slots_cleared p m f d g at h locals stack flow into mix s = record {
  on_stack = into_stack p h (named_by g at) (length g.nodes) flow m f.stack d.stack into.stack (or_right (any_mixes p f.locals d.locals) (any_mixes p f.stack d.stack) mix) g.stack stack s.on_stack;
  in_locals = λ k. subst (λ x. SlotFits p h (named_by g at) (length g.nodes) (sort p m (peek d.locals k)) x (value_at locals k)) (sym (kept_slot d.locals g.locals k))
      (into_slot p h (named_by g at) (length g.nodes) flow m (peek f.locals k) (peek d.locals k) (into.locals k)
      (no_mix p f.locals d.locals (or_left (any_mixes p f.locals d.locals) (any_mixes p f.stack d.stack) mix) k) (slot g.locals k) (value_at locals k) (s.in_locals k));
}

-- ---- the canonical form

pub member_named : (xs : List (Option ℕ)) (k n : ℕ) → slot xs k ≡ Some n → member n (named xs) ≡ true
member_named [] k n e = absurd (cc)
member_named (None ∷ xs) zero n e = absurd (cc)
member_named (None ∷ xs) (suc k) n e = member_named xs k n e
member_named (Some y ∷ xs) zero n e = ap (λ b. either b (member n (named xs))) (ap (λ z. eqb z n) (the y e) ∙ same_is n)
  where
    the : (z : ℕ) → Some z ≡ Some n → z ≡ n
    the z w = cc
member_named (Some y ∷ xs) (suc k) n e = member_tail n y (named xs) (member_named xs k n e)

slot_left : (xs ys : List (Option ℕ)) (k n : ℕ) → slot xs k ≡ Some n → slot (xs ++ ys) k ≡ Some n
slot_left [] ys k n e = absurd (cc)
slot_left (x ∷ xs) ys zero n e = e
slot_left (x ∷ xs) ys (suc k) n e = slot_left xs ys k n e

-- some slot of a list names the node
abbrev pub Has : List (Option ℕ) → ℕ → Type 0
Has xs n = (k : ℕ) × (slot xs k ≡ Some n)

has_right : (xs ys : List (Option ℕ)) (n : ℕ) → Has ys n → Has (xs ++ ys) n
has_right [] ys n w = w
has_right (x ∷ xs) ys n w =
    let r = has_right xs ys n w in
    (suc r.0, r.1)

pub has_left : (xs ys : List (Option ℕ)) (n : ℕ) → Has xs n → Has (xs ++ ys) n
has_left xs ys n w = (w.0, slot_left xs ys w.0 n w.1)

has_turned : (xs ys : List (Option ℕ)) (n : ℕ) → Has xs n ⊎ Has ys n → Has (reverse_aux xs ys) n
has_turned [] ys n (inr w) = w
has_turned [] ys n (inl w) = absurd (by w.0 w.1)
  where
    by : (k : ℕ) → slot [] k ≡ Some n → ⊥
    by k e = cc
has_turned (x ∷ xs) ys n (inl (zero, e)) = has_turned xs (x ∷ ys) n (inr (0, e))
has_turned (x ∷ xs) ys n (inl (suc k, e)) = has_turned xs (x ∷ ys) n (inl (k, e))
has_turned (x ∷ xs) ys n (inr w) = has_turned xs (x ∷ ys) n (inr (suc w.0, w.1))

has_reversed : (xs : List (Option ℕ)) (n : ℕ) → Has xs n → Has (reverse xs) n
has_reversed xs n w = has_turned xs [] n (inl w)

module _ (p : Program) (m : Method) (h : Objects) (g : Graph) (at : ℕ → Option ℕ) where
  abbrev ns : List ℕ
  ns = firsts [] (slots_of g)

  abbrev pub canonical_at_objects : ℕ → Option ℕ
  canonical_at_objects n = at (number_at (firsts [] (slots_of g)) n)

  in_order : (n : ℕ) → Has (g.locals ++ reverse g.stack) n → member n ns ≡ true
  in_order n w = elim (in_firsts n [] (slots_of g) (member_named (g.locals ++ reverse g.stack) w.0 n w.1)) [ inl e ↦ absurd (true≢false (sym e)) | inr e ↦ e ]

  abbrev u : Named
  u = named_by g at

  abbrev v : Named
  v = record { node = node_at (canonical_nodes g.nodes (slots_of g)); at = canonical_at_objects }

  canon_slot : (s : Sort) (x : Option ℕ) (w : Value) → ((n : ℕ) → x ≡ Some n → member n ns ≡ true) → SlotFits p h u (length g.nodes) s x w →
      SlotFits p h v (length (canonical_nodes g.nodes (slots_of g))) s (renumbered ns x) w
  canon_slot s None w is f = f
  canon_slot s (Some n) w is f = (
    f.0 ∙ ap at (sym (number_of_index n ns (is n refl))),
    subst (λ k. index_of n ns < k) (sym (canonical_length g.nodes (slots_of g))) (index_within n ns (is n refl)),
    λ live. f.2 (ap (λ z. is_gone z.standing) (sym (canonical_index g.nodes (slots_of g) n (is n refl))) ∙ live),
  )

  canon_stack : (ts : List VType) (xs : List (Option ℕ)) (vs : List Value) → ((n : ℕ) → Has xs n → member n ns ≡ true) → AreSlots p m h u (length g.nodes) ts xs vs →
      AreSlots p m h v (length (canonical_nodes g.nodes (slots_of g))) ts (map (renumbered ns) xs) vs
  canon_stack [] [] [] is s = tt
  canon_stack (t ∷ ts) (x ∷ xs) (w ∷ vs) is s = (canon_slot (sort p m t) x w (λ n e. is n (0, e)) s.0, canon_stack ts xs vs (λ n k. is n (suc k.0, k.1)) s.1)
  canon_stack [] [] (w ∷ vs) is s = absurd s
  canon_stack [] (x ∷ xs) vs is s = absurd s
  canon_stack (t ∷ ts) [] vs is s = absurd s
  canon_stack (t ∷ ts) (x ∷ xs) [] is s = absurd s

  canon_of : (xs : List (Option ℕ)) (k : ℕ) → slot (map (renumbered ns) xs) k ≡ renumbered ns (slot xs k)
  canon_of [] k = refl
  canon_of (x ∷ xs) zero = refl
  canon_of (x ∷ xs) (suc k) = canon_of xs k

  canon_live : (xs : List (Option ℕ)) → ((n : ℕ) → Has xs n → member n ns ≡ true) → list_any (names_gone g) xs ≡ false →
      list_any (names_gone (record { locals = []; stack = []; nodes = canonical_nodes g.nodes (slots_of g) })) (map (renumbered ns) xs) ≡ false
  canon_live [] is e = refl
  canon_live (None ∷ xs) is e = canon_live xs (λ n k. is n (suc k.0, k.1)) e
  canon_live (Some n ∷ xs) is e =
      ap (λ (z : Node). is_gone z.standing || list_any (names_gone (record { locals = []; stack = []; nodes = canonical_nodes g.nodes (slots_of g) })) (map (renumbered ns) xs))
      (canonical_index g.nodes (slots_of g) n (is n (0, refl)))
      ∙ ap (λ (b : Bool). b || list_any (names_gone (record { locals = []; stack = []; nodes = canonical_nodes g.nodes (slots_of g) })) (map (renumbered ns) xs)) (or_left (is_gone (node_at g.nodes n).standing) (list_any (names_gone g) xs) e)
      ∙ canon_live xs (λ k w. is k (suc w.0, w.1)) (or_right (is_gone (node_at g.nodes n).standing) (list_any (names_gone g) xs) e)

  stack_in : (n : ℕ) → Has g.stack n → member n ns ≡ true
  stack_in n w = in_order n (has_right g.locals (reverse g.stack) n (has_reversed g.stack n w))

  pub canonical_stands : (f : Types) (locals stack : List Value) (below : List Waiting) → Holds p m f g at h locals stack below → stack_lives g ≡ true →
      Stands p m f (canonical g) canonical_at_objects h locals stack below
  unfolding canonical
  canonical_stands f locals stack below hd live = record {
    holds = record {
      heap = hd.heap;
      forest = hd.forest;
      frames = canonical_keeps IsPlace (trees p h) g.nodes at (slots_of g) _ hd.frames;
      tidy = record { roots = tidy.roots; one_head = tidy.one_head; heads_top = tidy.heads_top };
      slots = record {
        on_stack = canon_stack f.stack g.stack stack stack_in hd.slots.on_stack;
        in_locals = λ k. subst (λ x. SlotFits p h v (length (canonical_nodes g.nodes (slots_of g))) (sort p m (peek f.locals k)) x (value_at locals k)) (sym (canon_of g.locals k))
            (canon_slot (sort p m (peek f.locals k)) (slot g.locals k) (value_at locals k) (λ n e. in_order n (has_left g.locals (reverse g.stack) n (k, e))) (hd.slots.in_locals k));
      };
      waits = hd.waits;
    };
    tidy = tidy;
    live = ap not (canon_live g.stack stack_in (not_true (list_any (names_gone g) g.stack) live));
  }
    where
      tidy : IsTidy (node_at (canonical_nodes g.nodes (slots_of g)))
      tidy = canonical_tidy g.nodes (slots_of g) hd.tidy
