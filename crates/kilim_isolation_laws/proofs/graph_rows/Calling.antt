-- A call: the frame of the callee begins.
use Rattle.std.proofs.Common.{◌≡◌, ℕ, zero, suc, ◌+◌, ◌<◌, ◌==◌, Bool, true, false, true≢false, ◌&&◌, ◌||◌, cond, List, [], ◌∷◌, ◌++◌, map, length, Option, Some, None, refl, sym, ap, subst, ◌∙◌, ◌⊎◌, inl, inr, arith}
use Rattle.std.specs.List.{list_any}
use Rattle.std.specs.Prelude.{replicate, drop, ◌-◌}
use Rattle.kilim_program.specs.declared.ty.Kind.TheVariants as kind
use Rattle.kilim_program.specs.declared.verified.VType.TheVariants as vtype
use Rattle.kilim_type_spec.specs.Step as type
use Rattle.kilim_program.specs.declared.class.Method.{Method}
use Rattle.kilim_program.specs.declared.names.MethodId.{MethodId}
use Rattle.kilim_program.specs.declared.ty.Kind.{Kind}
use Rattle.kilim_program.specs.declared.ty.Ty.{Ty}
use Rattle.kilim_program.specs.declared.value.Value.{Value}
use Rattle.kilim_program.specs.declared.value.Value.TheVariants.{Int, Long, Null, Ref, Text, Box, Fiber}
use Rattle.kilim_program.specs.declared.verified.VType.{VType}
use Rattle.kilim_program.specs.Program.{Program}
use Rattle.kilim_program.specs.BuiltIn.{class_type}
use Rattle.kilim_program.specs.Kinds.{kind_of, is_tree_kind}
use Rattle.kilim_run_state.specs.Machine.{Objects, slots_of}
use Rattle.kilim_program.specs.Names.{method_at}
use Rattle.kilim_program.specs.Same.{is_constructor}
use Rattle.kilim_run_machine.specs.Effect.{is_wide}
use Rattle.kilim_type_spec.specs.Step.{Types, peek, class_vtype}
use Rattle.kilim_type_spec.specs.Typed.{entry, param_slots, slots_of_type}
use Rattle.kilim_isolation_laws.specs.forest.Heap.{Heap}
use Rattle.kilim_isolation_laws.specs.forest.Relation.{Root, is_gone, is_safe, Label, Node, Named, Frames}
use Rattle.kilim_isolation_laws.specs.forest.Steps.{IsCall, Qualifier, after_arguments, entry_node, IsNearly_tidy}
use Rattle.kilim_isolation_rules.specs.Calls.{handler_graph, is_owned, arguments, quality_in, is_free, is_cuttable, same_region, shares, any_two, after_call, given_result}
use Rattle.kilim_program.specs.declared.ty.Qualifier.TheVariants as qualifier
use Rattle.kilim_isolation_laws.specs.forest.Canonical.{node_at}
use Rattle.kilim_isolation_laws.proofs.forest.Store.{same_is}
use Rattle.kilim_isolation_laws.proofs.forest.Less.{IsLess}
use Rattle.kilim_isolation_laws.proofs.forest.View.{respects_less}
use Rattle.kilim_isolation_laws.proofs.forest.Called.{owned_region, root_free, no_parent}
use Rattle.kilim_isolation_graph.specs.declared.graph.Graph.{Graph}
use Rattle.kilim_isolation_graph.specs.Graphs.{slot, popped}
use Rattle.kilim_isolation_graph.specs.Nodes.{listed, is_root}
use Rattle.kilim_isolation_rules.specs.declared.deed.Passed.{Passed}
use Rattle.kilim_isolation_graph.specs.Entry.{parameters_of, declared_parameters, quality, quality_from, tree_name, name_slots, entry_names, entry_nodes}
use Rattle.kilim_isolation_laws.proofs.graph_rows.Passing.{IsAfter, Weaker, after_is, behind, called, passed_at, quality_at}
use Rattle.kilim_isolation_rules.specs.Marks.{names_no_root, names_safe}
use Rattle.kilim_isolation_graph.specs.declared.entry.Parameter.{Parameter}
use Rattle.kilim_isolation_laws.specs.graph_rows.Holds.{Sort, Anything, Wide, Word, Own, Tree, sort, type_sort, sort_of_vtype, Fits, unnamed, named_sort, refers, SlotFits, AreSlots, SlotsFit, named_by, value_at, Waiting, waiting_named, WaitFits, Holds, Stands, trees}
use Rattle.kilim_isolation_laws.specs.forest.Laws.{IsPlace}
use Rattle.kilim_isolation_laws.specs.graph_rows.Outcome.{ArgsFit, CallHolds, NativeHolds}
use Rattle.kilim_isolation_laws.proofs.graph_rows.Nodes.{live_within, listed_length, listed_live, listed_each, HasSameLive, same_view, same_frames, same_tidy}
use Rattle.kilim_isolation_laws.proofs.graph_rows.Heaps.{slot_grows}
use Rattle.kilim_isolation_laws.proofs.graph_rows.Settle.{or_left, or_right}
use Rattle.kilim_isolation_laws.proofs.graph_rows.Added.{slots_grow}
use Rattle.kilim_isolation_laws.proofs.graph_rows.Fields.{slot_sort, no_tree_sort, tree_sort}
use Rattle.kilim_isolation_laws.proofs.graph_rows.Putting.{slot_value, not_false, root_is}

-- ---- the tests of a call, argument by argument

module _ (p : Program) (g : Graph) where
  free_root : (args : List Passed) → list_any (λ a. is_free (quality_in p a) && names_no_root g a.name) args ≡ false → (k n : ℕ) → quality_at p args k ≡ Some qualifier.Free → passed_at args k ≡ Some n → (node_at g.nodes n).standing ≡ Root
  free_root [] e k n q is = absurd (cc)
  free_root (a ∷ args) e (suc k) n q is = free_root args (or_right (is_free (quality_in p a) && names_no_root g a.name) _ e) k n q is
  free_root (a ∷ args) e zero n q is =
      let t = or_left (is_free (quality_in p a) && names_no_root g a.name) _ e in
      let w : (true && names_no_root g (Some n)) ≡ false = ap (λ z. is_free z && names_no_root g (Some n)) (sym q) ∙ ap (λ z. is_free (quality_in p a) && names_no_root g z) (sym is) ∙ t in
      root_is (node_at g.nodes n).standing (not_false (is_root (node_at g.nodes n).standing) w)

  cuttable_changes : (args : List Passed) → list_any (λ a. is_cuttable (quality_in p a) && names_safe g a.name) args ≡ false → (k n : ℕ) → quality_at p args k ≡ Some qualifier.Cuttable → passed_at args k ≡ Some n → is_safe (node_at g.nodes n).standing ≡ false
  cuttable_changes [] e k n q is = absurd (cc)
  cuttable_changes (a ∷ args) e (suc k) n q is = cuttable_changes args (or_right (is_cuttable (quality_in p a) && names_safe g a.name) _ e) k n q is
  cuttable_changes (a ∷ args) e zero n q is =
      let t = or_left (is_cuttable (quality_in p a) && names_safe g a.name) _ e in
      ap (λ z. is_cuttable z && names_safe g (Some n)) (sym q) ∙ ap (λ z. is_cuttable (quality_in p a) && names_safe g z) (sym is) ∙ t

  and_false : (a b : Bool) → a ≡ true → (a && b) ≡ false → b ≡ false
  and_false true b e w = w
  and_false false b e w = absurd (true≢false (sym e))

  -- the first argument against a later one
  first_apart : (a : Passed) (args : List Passed) → list_any (shares p g a) args ≡ false → (k n m : ℕ) → a.name ≡ Some n → passed_at args k ≡ Some m → (node_at g.nodes n).region ≡ (node_at g.nodes m).region →
      (is_owned (quality_in p a) ≡ false) × (is_owned (quality_at p args k) ≡ false)
  first_apart a [] e k n m en em same = absurd (cc)
  first_apart a (b ∷ args) e (suc k) n m en em same = first_apart a args (or_right (shares p g a b) _ e) k n m en em same
  first_apart a (b ∷ args) e zero n m en em same =
      let t = or_left (shares p g a b) _ e in
      let region : same_region g a.name b.name ≡ true = ap (λ z. same_region g z b.name) en ∙ ap (λ z. same_region g (Some n) z) em ∙ ap (λ z. z == (node_at g.nodes m).region) same ∙ same_is (node_at g.nodes m).region in
      let both = and_false (same_region g a.name b.name) (is_owned (quality_in p a) || is_owned (quality_in p b)) region t in
      (or_left (is_owned (quality_in p a)) (is_owned (quality_in p b)) both, or_right (is_owned (quality_in p a)) (is_owned (quality_in p b)) both)

  arguments_apart : (args : List Passed) → any_two (shares p g) args ≡ false → (j k n m : ℕ) → (j ≡ k → ⊥) → passed_at args j ≡ Some n → passed_at args k ≡ Some m → (node_at g.nodes n).region ≡ (node_at g.nodes m).region →
      (is_owned (quality_at p args j) ≡ false) × (is_owned (quality_at p args k) ≡ false)
  arguments_apart [] e j k n m differ en em same = absurd (cc)
  arguments_apart (a ∷ args) e zero zero n m differ en em same = absurd (differ refl)
  arguments_apart (a ∷ args) e zero (suc k) n m differ en em same = first_apart a args (or_left (list_any (shares p g a) args) _ e) k n m en em same
  arguments_apart (a ∷ args) e (suc j) zero n m differ en em same =
      let w = first_apart a args (or_left (list_any (shares p g a) args) _ e) j m n em en (sym same) in
      (w.1, w.0)
  arguments_apart (a ∷ args) e (suc j) (suc k) n m differ en em same = arguments_apart args (or_right (list_any (shares p g a) args) _ e) j k n m (λ w. differ (ap suc w)) en em same

  quality_within : (args : List Passed) (k : ℕ) → is_owned (quality_at p args k) ≡ true → k < length args
  quality_within [] k e = absurd (true≢false (sym e))
  quality_within (a ∷ args) zero e = omega arith
  quality_within (a ∷ args) (suc k) e =
      let w = quality_within args k e in
      omega arith

-- ---- arguments, their values, and the parameters of the method that runs

abbrev pub value_by : (ℕ → Option ℕ) → Option ℕ → Option ℕ
value_by at None = None
value_by at (Some n) = at n

-- what the callee knows of an argument: what it is passed as, or nothing, where a constructor's class is no tree
abbrev pub Knows : Option Rattle.kilim_program.specs.declared.ty.Qualifier.Qualifier → Option Rattle.kilim_program.specs.declared.ty.Qualifier.Qualifier → Type 0
Knows known passed = (known ≡ passed) ⊎ (known ≡ None)

abbrev pub ArgsMeet : Program → Objects → Named → ℕ → List Passed → List Value → List Parameter → Type 0
ArgsMeet p h u count [] [] [] = Unit {0}
ArgsMeet p h u count (a ∷ args) (v ∷ vs) (q ∷ qs) = SlotFits p h u count (type_sort p q.ty) a.name v × ((n : ℕ) → a.name ≡ Some n → is_gone (u.node n).standing ≡ false) × Knows (quality p q.ty q.qualifier) (quality_in p a) × ArgsMeet p h u count args vs qs
ArgsMeet p h u count args vs qs = ⊥

pub meet : (p : Program) (h : Objects) (u : Named) (count : ℕ) (args : List Passed) (vs : List Value) (qs : List Parameter) → ArgsFit p h u count args vs qs → ArgsMeet p h u count args vs qs
meet p h u count [] [] [] f = tt
meet p h u count (a ∷ args) (v ∷ vs) (q ∷ qs) f = (f.0, f.1, inl f.2, meet p h u count args vs qs f.3)
meet p h u count [] [] (q ∷ qs) f = absurd f
meet p h u count [] (v ∷ vs) qs f = absurd f
meet p h u count (a ∷ args) [] qs f = absurd f
meet p h u count (a ∷ args) (v ∷ vs) [] f = absurd f

known_is : (known passed : Option Rattle.kilim_program.specs.declared.ty.Qualifier.Qualifier) → Knows known passed → is_owned known ≡ true → passed ≡ known
known_is known passed (inl same) owned = sym same
known_is known passed (inr none) owned = absurd (true≢false (sym owned ∙ ap is_owned none))

weaker_is : (p : Program) (h : Objects) (u : Named) (count : ℕ) (args : List Passed) (vs : List Value) (qs : List Parameter) → ArgsMeet p h u count args vs qs → Weaker (quality_from p qs) (quality_at p args)
weaker_is p h u count [] [] [] f k owned = refl
weaker_is p h u count (a ∷ args) (v ∷ vs) (q ∷ qs) f zero owned = known_is (quality p q.ty q.qualifier) (quality_in p a) f.2 owned
weaker_is p h u count (a ∷ args) (v ∷ vs) (q ∷ qs) f (suc k) owned = weaker_is p h u count args vs qs f.3 k owned
weaker_is p h u count [] [] (q ∷ qs) f k owned = absurd f
weaker_is p h u count [] (v ∷ vs) qs f k owned = absurd f
weaker_is p h u count (a ∷ args) [] qs f k owned = absurd f
weaker_is p h u count (a ∷ args) (v ∷ vs) [] f k owned = absurd f

-- no argument is gone
abbrev pub PassedLive : Named → List Passed → Type 0
PassedLive u args = (k n : ℕ) → passed_at args k ≡ Some n → is_gone (u.node n).standing ≡ false

pub argument_lives : (p : Program) (h : Objects) (u : Named) (count : ℕ) (args : List Passed) (vs : List Value) (qs : List Parameter) → ArgsMeet p h u count args vs qs → (k n : ℕ) → passed_at args k ≡ Some n → is_gone (u.node n).standing ≡ false
argument_lives p h u count [] [] [] f k n e = absurd (cc)
argument_lives p h u count (a ∷ args) (v ∷ vs) (q ∷ qs) f zero n e = f.1 n e
argument_lives p h u count (a ∷ args) (v ∷ vs) (q ∷ qs) f (suc k) n e = argument_lives p h u count args vs qs f.3 k n e
argument_lives p h u count [] [] (q ∷ qs) f k n e = absurd f
argument_lives p h u count [] (v ∷ vs) qs f k n e = absurd f
argument_lives p h u count (a ∷ args) [] qs f k n e = absurd f
argument_lives p h u count (a ∷ args) (v ∷ vs) [] f k n e = absurd f

-- ---- the lower of two frames has the same live nodes

same_second : (h : Heap) (e u v : Named) (ls : List Named) → HasSameLive u v → Frames IsPlace h (e ∷ u ∷ ls) → Frames IsPlace h (e ∷ v ∷ ls)
same_second h e u v ls s fs = (fs.0, (respects_less IsPlace h e u v (λ n. n) (same_view IsPlace h u v s) (λ n m l w ln lm. ap (λ z. z.parent) (sym (s.node m lm)) ∙ w) (λ n live. ap (λ z. is_gone z.standing) (sym (s.node n live)) ∙ live) fs.1.0, fs.1.1), same_frames IsPlace h u v s ls fs.2)

pub less_tidy : (u v : Named) → IsLess u v → IsNearly_tidy u.node → IsNearly_tidy v.node
less_tidy u v less t = record {
  roots = λ n e. less.head n ∙ t.roots n (sym (less.standing n (ap is_gone e)) ∙ e);
  one_head = λ n m hn hm ln lm same. t.one_head n m (sym (less.head n) ∙ hn) (sym (less.head m) ∙ hm) (ap is_gone (sym (less.standing n ln)) ∙ ln) (ap is_gone (sym (less.standing m lm)) ∙ lm)
      (sym (less.region n) ∙ same ∙ less.region m);
  heads_top = λ n q hd e. t.heads_top n q (sym (less.head n) ∙ hd) (less.edges q.0 n q.1 e);
}

entry_tidy : (qual : ℕ → Qualifier) → IsNearly_tidy (λ k. entry_node (qual k) k)
entry_tidy qual = record {
  roots = λ n e. of_free n (qual n) (root_free (qual n) n e);
  one_head = λ n m hn hm ln lm same.
      let a = (owned_region (qual n) n hn).1 in
      let b = (owned_region (qual m) m hm).1 in
      let w = sym a ∙ same ∙ b in
      omega arith;
  heads_top = λ n q hd e. no_parent (qual n) n q e;
}
  where
    of_free : (n : ℕ) (q : Qualifier) → q ≡ Some qualifier.Free → (entry_node q n).head ≡ true
    of_free n q e = ap (λ z. (entry_node z n).head) e

-- a call that no rule refuses, with what the callee knows of its arguments
by_rules : (p : Program) (g : Graph) (at : ℕ → Option ℕ) (args : List Passed) → PassedLive (named_by g at) args → list_any (λ a. is_free (quality_in p a) && names_no_root g a.name) args ≡ false → any_two (shares p g) args ≡ false →
    list_any (λ a. is_cuttable (quality_in p a) && names_safe g a.name) args ≡ false → (inside : ℕ → Qualifier) → Weaker inside (quality_at p args) →
    IsCall (named_by g at) (length args) inside (passed_at args) (λ k. value_by at (passed_at args k))
by_rules p g at args live i1 i5 i7 inside weaker = record {
  slots = λ k n e. (ap (value_by at) e, live k n e);
  none = λ k e. ap (value_by at) e;
  free = λ k n q e. free_root p g args i1 k n (weaker k (ap is_owned q) ∙ q) e;
  cuttable = λ k n q e. cuttable_changes p g args i7 k n (weaker k (ap is_owned q) ∙ q) e;
  apart = λ j k n o differ en em same.
      let w = arguments_apart p g args i5 j k n o differ en em same in
      (less_owned j w.0, less_owned k w.1);
  within = λ k e. quality_within p g args k (ap is_owned (weaker k e) ∙ e);
}
  where
    less_owned : (k : ℕ) → is_owned (quality_at p args k) ≡ false → is_owned (inside k) ≡ false
    less_owned k e = not_true (is_owned (inside k)) (λ owned. true≢false (sym owned ∙ (ap is_owned (sym (weaker k owned)) ∙ e)))
      where
        not_true : (b : Bool) → (b ≡ true → ⊥) → b ≡ false
        not_true true never = absurd (never refl)
        not_true false never = refl

-- ---- what is left of the caller

module _ (p : Program) (m : Method) (f : Types) (g : Graph) (at : ℕ → Option ℕ) (h : Objects) (ls st : List Value) (below : List Waiting) (hd : Stands p m f g at h ls st below) (args : List Passed)
    (live : PassedLive (named_by g at) args)
    (i1 : list_any (λ a. is_free (quality_in p a) && names_no_root g a.name) args ≡ false) (i5 : any_two (shares p g) args ≡ false)
    (i7 : list_any (λ a. is_cuttable (quality_in p a) && names_safe g a.name) args ≡ false) where
  abbrev u : Named
  u = named_by g at

  abbrev pub value : ℕ → Option ℕ
  value k = value_by at (passed_at args k)

  abbrev after_named : Named
  after_named = record { node = after_arguments (length g.nodes) (node_at g.nodes) (arguments p args); at = at }

  module _ (inside : ℕ → Qualifier) (weaker : Weaker inside (quality_at p args)) where
    is_call : IsCall (named_by g at) (length args) inside (passed_at args) (λ k. value_by at (passed_at args k))
    is_call = by_rules p g at args live i1 i5 i7 inside weaker

    frames : Frames IsPlace (trees p h) (record { node = λ k. entry_node (inside k) k; at = λ k. value_by at (passed_at args k) } ∷ after_named ∷ map waiting_named below)
    frames = called IsPlace (trees p h) u (map waiting_named below) hd.holds.forest hd.holds.frames hd.tidy (length g.nodes) p args inside weaker (λ k. value_by at (passed_at args k)) is_call

    less : IsLess (named_by g at) after_named
    less = (behind IsPlace (trees p h) u (map waiting_named below) hd.holds.forest hd.holds.frames hd.tidy (length g.nodes) p args inside weaker (λ k. value_by at (passed_at args k)) is_call).0

    pub began : Frames IsPlace (trees p h) (record { node = λ k. entry_node (inside k) k; at = λ k. value_by at (passed_at args k) } ∷ named_by (after_call p args g) at ∷ map waiting_named below)
    began = same_second (trees p h) (record { node = λ k. entry_node (inside k) k; at = λ k. value_by at (passed_at args k) }) after_named (named_by (after_call p args g) at) (map waiting_named below) after_same frames
      where
        after_same : HasSameLive after_named (named_by (after_call p args g) at)
        after_same = record { node = λ n live. (after_is (arguments p args) g).nodes n; at = λ n live. refl }

  abbrev pub after_graph : Graph
  after_graph = after_call p args g

  pub is_after : IsAfter g (arguments p args)
  is_after = after_is (arguments p args) g

  less_here : IsLess (named_by g at) after_named
  less_here = less (quality_at p args) (λ k e. refl)

  pub after_tidy : IsNearly_tidy (node_at after_graph.nodes)
  after_tidy = same_tidy (after_arguments (length g.nodes) (node_at g.nodes) (arguments p args)) (node_at after_graph.nodes) (λ n. inr (is_after.nodes n)) (less_tidy u after_named less_here hd.holds.tidy)

  pub after_within : (n k : ℕ) (l : Label) → (node_at after_graph.nodes k).parent ≡ Some (n, l) → n < length after_graph.nodes
  after_within n k l e = subst (λ c. n < c) (sym is_after.count) (live_within g.nodes n (hd.tidy.live n k l (less_here.edges n k l (ap (λ z. z.parent) (sym (is_after.nodes k)) ∙ e))).0)

  -- the caller's slots
  pub caller_slots : (k : ℕ) (rest : List Value) → AreSlots p m h (named_by g at) (length g.nodes) (drop k f.stack) (drop k g.stack) rest →
      SlotsFit p m (record f { stack = drop k f.stack }) (popped k after_graph) at h ls rest
  caller_slots k rest s = record {
    on_stack = subst (λ z. AreSlots p m h (named_by after_graph at) (length after_graph.nodes) (drop k f.stack) (drop k z) rest) (sym is_after.stack)
        (slots_grow p m h h (λ o z w. w) u (named_by after_graph at) (length g.nodes) (length after_graph.nodes) (λ n lt. refl) more after_lives (drop k f.stack) (drop k g.stack) rest s);
    in_locals = λ j. subst (λ z. SlotFits p h (named_by after_graph at) (length after_graph.nodes) (sort p m (peek f.locals j)) (slot z j) (value_at ls j)) (sym is_after.locals)
        (slot_grows p h h (λ o z w. w) u (named_by after_graph at) (length g.nodes) (length after_graph.nodes) (λ n lt. refl) more after_lives (sort p m (peek f.locals j)) (slot g.locals j) (value_at ls j) (hd.holds.slots.in_locals j));
  }
    where
      more : (n : ℕ) → n < length g.nodes → n < length after_graph.nodes
      more n lt = subst (λ c. n < c) (sym is_after.count) lt

      after_lives : (n : ℕ) → n < length g.nodes → is_gone (node_at after_graph.nodes n).standing ≡ false → is_gone (node_at g.nodes n).standing ≡ false
      after_lives n lt live =
          let a = ap (λ z. is_gone z.standing) (sym (is_after.nodes n)) ∙ live in
          ap is_gone (sym (less_here.standing n a)) ∙ a

  -- the caller, with its graph after the arguments
  pub caller_holds : (k : ℕ) (rest : List Value) → AreSlots p m h (named_by g at) (length g.nodes) (drop k f.stack) (drop k g.stack) rest → Holds p m (record f { stack = drop k f.stack }) (popped k after_graph) at h ls rest below
  caller_holds k rest s = record {
    heap = hd.holds.heap;
    forest = hd.holds.forest;
    frames = (began (quality_at p args) (λ k e. refl)).2;
    tidy = after_tidy;
    slots = caller_slots k rest s;
    waits = hd.holds.waits;
  }

-- ---- the callee's graph

module _ (p : Program) (m : Method) (f : Types) (g : Graph) (at : ℕ → Option ℕ) (h : Objects) (ls st : List Value) (below : List Waiting) (hd : Stands p m f g at h ls st below) (args : List Passed) (vs : List Value) (callee : Method)
    (fits : ArgsMeet p h (named_by g at) (length g.nodes) args vs (parameters_of callee))
    (i1 : list_any (λ a. is_free (quality_in p a) && names_no_root g a.name) args ≡ false) (i5 : any_two (shares p g) args ≡ false)
    (i7 : list_any (λ a. is_cuttable (quality_in p a) && names_safe g a.name) args ≡ false) where
  abbrev params : List Parameter
  params = parameters_of callee

  pub args_live : PassedLive (named_by g at) args
  args_live = argument_lives p h (named_by g at) (length g.nodes) args vs params fits

  abbrev entry_named : Named
  entry_named = record { node = λ k. entry_node (quality_from p params k) k; at = λ k. value_by at (passed_at args k) }

  entry_same : HasSameLive entry_named (record { node = node_at (entry_nodes p callee).nodes; at = λ k. value_by at (passed_at args k) })
  unfolding entry_nodes
  entry_same = record {
    node = λ n live. (listed_live (λ k. entry_node (quality_from p params k) k) (length params) n live).1;
    at = λ n live. refl;
  }

  pub call_frames : Frames IsPlace (trees p h) (record { node = node_at (entry_nodes p callee).nodes; at = λ k. value_by at (passed_at args k) } ∷ named_by (after_call p args g) at ∷ map waiting_named below)
  call_frames = same_frames IsPlace (trees p h) entry_named (record { node = node_at (entry_nodes p callee).nodes; at = λ k. value_by at (passed_at args k) }) entry_same (named_by (after_call p args g) at ∷ map waiting_named below)
      (began p m f g at h ls st below hd args args_live i1 i5 i7 (quality_from p params) (weaker_is p h (named_by g at) (length g.nodes) args vs params fits))

  pub entry_is_tidy : IsNearly_tidy (node_at (entry_nodes p callee).nodes)
  unfolding entry_nodes
  entry_is_tidy = same_tidy (λ k. entry_node (quality_from p params k) k) (node_at (entry_nodes p callee).nodes) (listed_each (λ k. entry_node (quality_from p params k) k) (length params)) (entry_tidy (quality_from p params))

-- ---- the callee's locals

abbrev pub types_of : List Parameter → List VType
types_of [] = []
types_of (q ∷ qs) = slots_of_type (type.vtype q.ty) (types_of qs)

wide_is : (v : Value) → is_wide v ≡ true → (rest : List Value) → slots_of (v ∷ rest) ≡ v ∷ Null ∷ slots_of rest
wide_is (Long x) e rest = refl
wide_is (Int x) e rest = absurd (true≢false (sym e))
wide_is Null e rest = absurd (true≢false (sym e))
wide_is (Ref n) e rest = absurd (true≢false (sym e))
wide_is (Text units) e rest = absurd (true≢false (sym e))
wide_is (Box box) e rest = absurd (true≢false (sym e))
wide_is Fiber e rest = absurd (true≢false (sym e))

narrow_is : (v : Value) → is_wide v ≡ false → (rest : List Value) → slots_of (v ∷ rest) ≡ v ∷ slots_of rest
narrow_is (Long x) e rest = absurd (true≢false e)
narrow_is (Int x) e rest = refl
narrow_is Null e rest = refl
narrow_is (Ref n) e rest = refl
narrow_is (Text units) e rest = refl
narrow_is (Box box) e rest = refl
narrow_is Fiber e rest = refl

-- a value of a type that isn't long is one slot
narrow_of : (p : Program) (h : Objects) (s : Sort) (v : Value) → Fits p h s v → (s ≡ Wide → ⊥) → (s ≡ Anything → ⊥) → is_wide v ≡ false
narrow_of p h Word v f wide any = f.0
narrow_of p h Own v f wide any = f.0
narrow_of p h (Tree d x) v f wide any = f.0
narrow_of p h Wide v f wide any = absurd (wide refl)
narrow_of p h Anything v f wide any = absurd (any refl)

object_not : (p : Program) (ty : Ty) (k : Kind) → (Rattle.kilim_isolation_laws.specs.graph_rows.Holds.sort_by p ty k ≡ Wide → ⊥) × (Rattle.kilim_isolation_laws.specs.graph_rows.Holds.sort_by p ty k ≡ Anything → ⊥)
object_not p ty kind.Value = ((λ e. absurd (cc)), (λ e. absurd (cc)))
object_not p ty kind.Tree = ((λ e. absurd (cc)), (λ e. absurd (cc)))
object_not p ty kind.Private = ((λ e. absurd (cc)), (λ e. absurd (cc)))

-- the verified type of a declared type is Int, Long or that type
pub data IsDeclared (ty : Ty) (t : VType) : Type 0 where
  IsInt : t ≡ vtype.Int → IsDeclared ty t
  IsLong : t ≡ vtype.Long → IsDeclared ty t
  IsObject : t ≡ vtype.Object ty → IsDeclared ty t

declared_is : (ty : Ty) → IsDeclared ty (type.vtype ty)
declared_is ty = by ty.dims
  where
    of_base : (b : Rattle.kilim_program.specs.declared.ty.Base.Base) → IsDeclared ty (type.base_vtype ty b)
    of_base Rattle.kilim_program.specs.declared.ty.Base.TheVariants.Bool = IsInt refl
    of_base Rattle.kilim_program.specs.declared.ty.Base.TheVariants.Byte = IsInt refl
    of_base Rattle.kilim_program.specs.declared.ty.Base.TheVariants.Char = IsInt refl
    of_base Rattle.kilim_program.specs.declared.ty.Base.TheVariants.Short = IsInt refl
    of_base Rattle.kilim_program.specs.declared.ty.Base.TheVariants.Int = IsInt refl
    of_base Rattle.kilim_program.specs.declared.ty.Base.TheVariants.Long = IsLong refl
    of_base (Rattle.kilim_program.specs.declared.ty.Base.TheVariants.Class c) = IsObject refl

    by : (d : ℕ) → IsDeclared ty (type.dims_vtype ty d)
    by zero = of_base ty.base
    by (suc d) = IsObject refl

module _ (p : Program) (h : Objects) (u : Named) (count : ℕ) (callee : Method) (at : ℕ → Option ℕ) (total : ℕ) (node : ℕ → Node) (value : ℕ → Option ℕ) where
  abbrev inside : Named
  inside = record { node = node; at = value }

  abbrev Slot : VType → Option ℕ → Value → Type 0
  Slot t x v = SlotFits p h inside total (sort p callee t) x v

  top_slot : (v : Value) → SlotFits p h (record { node = node; at = value }) total (sort p callee vtype.Top) None v
  unfolding sort
  top_slot v = tt

  name_is : (x : Option ℕ) (n : ℕ) (s : Sort) (v : Value) → value n ≡ value_by u.at x → SlotFits p h u count s x v → (d : ℕ) (y : Rattle.kilim_isolation_laws.specs.graph_rows.Holds.Stuff) → s ≡ Tree d y → refers v ≡ value n
  name_is None n s v is f d y tree = (subst (λ z. Fits p h (unnamed z) v) tree f).1 ∙ sym is
  name_is (Some k) n s v is f d y tree = f.0 ∙ sym is

  -- one argument
  argument_slot : (a : Passed) (v : Value) (q : Parameter) (n : ℕ) → n < total → value n ≡ value_by u.at a.name → SlotFits p h u count (type_sort p q.ty) a.name v → ((k : ℕ) → a.name ≡ Some k → is_gone (u.node k).standing ≡ false) →
      SlotFits p h (record { node = node; at = value }) total (sort p callee (type.vtype q.ty)) (tree_name p q.ty n) v
  argument_slot a v q n lt is f lives = by (kind_of p q.ty) refl
    where
      fits : Fits p h (type_sort p q.ty) v
      fits = slot_value p h u count (type_sort p q.ty) a.name v f lives

      plain_case : (k : Kind) → kind_of p q.ty ≡ k → (k ≡ kind.Tree → ⊥) → SlotFits p h (record { node = node; at = value }) total (sort p callee (type.vtype q.ty)) None v
      plain_case k e not_tree = subst (λ z. Fits p h z v) (sym (ap unnamed (slot_sort p callee q.ty) ∙ no_tree_sort p q.ty k e not_tree)) fits

      by : (k : Kind) → kind_of p q.ty ≡ k → SlotFits p h (record { node = node; at = value }) total (sort p callee (type.vtype q.ty)) (tree_name p q.ty n) v
      by kind.Value e = subst (λ z. SlotFits p h (record { node = node; at = value }) total (sort p callee (type.vtype q.ty)) (cond (is_tree_kind z) (Some n) None) v) (sym e) (plain_case kind.Value e (λ w. cc))
      by kind.Private e = subst (λ z. SlotFits p h (record { node = node; at = value }) total (sort p callee (type.vtype q.ty)) (cond (is_tree_kind z) (Some n) None) v) (sym e) (plain_case kind.Private e (λ w. cc))
      by kind.Tree e = subst (λ z. SlotFits p h (record { node = node; at = value }) total (sort p callee (type.vtype q.ty)) (cond (is_tree_kind z) (Some n) None) v) (sym e) (
        name_is a.name n (type_sort p q.ty) v is f (tree_sort p q.ty e).0 (tree_sort p q.ty e).1 (tree_sort p q.ty e).2,
        lt,
        (λ live. subst (λ z. Fits p h (named_sort z) v) (sym (slot_sort p callee q.ty ∙ (tree_sort p q.ty e).2)) (subst (λ z. Fits p h z v) (tree_sort p q.ty e).2 fits)),
      )

  rest_slots : (args : List Passed) (vs : List Value) (qs : List Parameter) (n spare : ℕ) → ArgsMeet p h u count args vs qs → n + length args ≡ total → ((k : ℕ) → value (n + k) ≡ value_by u.at (passed_at args k)) → (j : ℕ) →
      SlotFits p h (record { node = node; at = value }) total (sort p callee (peek (types_of qs) j)) (slot (entry_names p qs n) j) (value_at (slots_of vs ++ replicate spare Null) j)
  rest_slots [] [] [] n spare f size is j = top_slot (value_at (replicate spare Null) j)
  rest_slots (a ∷ args) (v ∷ vs) (q ∷ qs) n spare f size is j = by (declared_is q.ty) (rest_slots args vs qs (suc n) spare f.3 (omega arith) later)
    where
      later : (k : ℕ) → value (suc n + k) ≡ value_by u.at (passed_at args k)
      later k =
          let e : suc n + k ≡ n + suc k = omega arith in
          ap value e ∙ is (suc k)

      here : SlotFits p h (record { node = node; at = value }) total (sort p callee (type.vtype q.ty)) (tree_name p q.ty n) v
      here =
          let e : n + 0 ≡ n = omega arith in
          let within : n < total = omega arith in
          argument_slot a v q n within (ap value (sym e) ∙ is 0) f.0 f.1

      fits : Fits p h (type_sort p q.ty) v
      fits = slot_value p h u count (type_sort p q.ty) a.name v f.0 f.1

      one : (t : VType) → type.vtype q.ty ≡ t → slots_of (v ∷ vs) ≡ v ∷ slots_of vs → (slots_of_type t (types_of qs) ≡ t ∷ types_of qs) × (name_slots t (tree_name p q.ty n) (entry_names p qs (suc n)) ≡ tree_name p q.ty n ∷ entry_names p qs (suc n)) →
          ((i : ℕ) → SlotFits p h (record { node = node; at = value }) total (sort p callee (peek (types_of qs) i)) (slot (entry_names p qs (suc n)) i) (value_at (slots_of vs ++ replicate spare Null) i)) → (i : ℕ) →
          SlotFits p h (record { node = node; at = value }) total (sort p callee (peek (slots_of_type t (types_of qs)) i)) (slot (name_slots t (tree_name p q.ty n) (entry_names p qs (suc n))) i) (value_at (slots_of (v ∷ vs) ++ replicate spare Null) i)
      one t e values shape more i = subst (λ z. SlotFits p h (record { node = node; at = value }) total (sort p callee (peek z i)) (slot (name_slots t (tree_name p q.ty n) (entry_names p qs (suc n))) i) (value_at (slots_of (v ∷ vs) ++ replicate spare Null) i)) (sym shape.0)
          (subst (λ z. SlotFits p h (record { node = node; at = value }) total (sort p callee (peek (t ∷ types_of qs) i)) (slot z i) (value_at (slots_of (v ∷ vs) ++ replicate spare Null) i)) (sym shape.1)
          (subst (λ z. SlotFits p h (record { node = node; at = value }) total (sort p callee (peek (t ∷ types_of qs) i)) (slot (tree_name p q.ty n ∷ entry_names p qs (suc n)) i) (value_at (z ++ replicate spare Null) i)) (sym values) (at_slot i)))
        where
          at_slot : (i : ℕ) → SlotFits p h (record { node = node; at = value }) total (sort p callee (peek (t ∷ types_of qs) i)) (slot (tree_name p q.ty n ∷ entry_names p qs (suc n)) i) (value_at (v ∷ (slots_of vs ++ replicate spare Null)) i)
          at_slot zero = subst (λ z. SlotFits p h (record { node = node; at = value }) total (sort p callee z) (tree_name p q.ty n) v) e here
          at_slot (suc i) = more i

      long_sort : type.vtype q.ty ≡ vtype.Long → type_sort p q.ty ≡ Wide
      long_sort e = ap (sort_of_vtype p) e

      long : type.vtype q.ty ≡ vtype.Long → ((i : ℕ) → SlotFits p h (record { node = node; at = value }) total (sort p callee (peek (types_of qs) i)) (slot (entry_names p qs (suc n)) i) (value_at (slots_of vs ++ replicate spare Null) i)) → (i : ℕ) →
          SlotFits p h (record { node = node; at = value }) total (sort p callee (peek (vtype.Long ∷ vtype.Top ∷ types_of qs) i)) (slot (tree_name p q.ty n ∷ None ∷ entry_names p qs (suc n)) i) (value_at (v ∷ Null ∷ (slots_of vs ++ replicate spare Null)) i)
      long e more zero = subst (λ z. SlotFits p h (record { node = node; at = value }) total (sort p callee z) (tree_name p q.ty n) v) e here
      long e more (suc zero) = top_slot Null
      long e more (suc (suc i)) = more i

      by : IsDeclared q.ty (type.vtype q.ty) →
          ((i : ℕ) → SlotFits p h (record { node = node; at = value }) total (sort p callee (peek (types_of qs) i)) (slot (entry_names p qs (suc n)) i) (value_at (slots_of vs ++ replicate spare Null) i)) →
          SlotFits p h (record { node = node; at = value }) total (sort p callee (peek (slots_of_type (type.vtype q.ty) (types_of qs)) j)) (slot (name_slots (type.vtype q.ty) (tree_name p q.ty n) (entry_names p qs (suc n))) j) (value_at (slots_of (v ∷ vs) ++ replicate spare Null) j)
      by (IsInt e) more = subst (λ t. SlotFits p h (record { node = node; at = value }) total (sort p callee (peek (slots_of_type t (types_of qs)) j)) (slot (name_slots t (tree_name p q.ty n) (entry_names p qs (suc n))) j) (value_at (slots_of (v ∷ vs) ++ replicate spare Null) j)) (sym e)
          (one vtype.Int e (narrow_is v (narrow_of p h (type_sort p q.ty) v fits (λ w. word_wide (sym (ap (sort_of_vtype p) e) ∙ w)) (λ w. word_any (sym (ap (sort_of_vtype p) e) ∙ w))) vs) (refl, refl) more j)
        where
          word_wide : Word ≡ Wide → ⊥
          word_wide w = cc

          word_any : Word ≡ Anything → ⊥
          word_any w = cc
      by (IsObject e) more = subst (λ t. SlotFits p h (record { node = node; at = value }) total (sort p callee (peek (slots_of_type t (types_of qs)) j)) (slot (name_slots t (tree_name p q.ty n) (entry_names p qs (suc n))) j) (value_at (slots_of (v ∷ vs) ++ replicate spare Null) j)) (sym e)
          (one (vtype.Object q.ty) e (narrow_is v (narrow_of p h (type_sort p q.ty) v fits (λ w. (object_not p q.ty (kind_of p q.ty)).0 (sym (ap (sort_of_vtype p) e) ∙ w)) (λ w. (object_not p q.ty (kind_of p q.ty)).1 (sym (ap (sort_of_vtype p) e) ∙ w))) vs) (refl, refl) more j)
      by (IsLong e) more = subst (λ t. SlotFits p h (record { node = node; at = value }) total (sort p callee (peek (slots_of_type t (types_of qs)) j)) (slot (name_slots t (tree_name p q.ty n) (entry_names p qs (suc n))) j) (value_at (slots_of (v ∷ vs) ++ replicate spare Null) j)) (sym e)
          (subst (λ z. SlotFits p h (record { node = node; at = value }) total (sort p callee (peek (vtype.Long ∷ vtype.Top ∷ types_of qs) j)) (slot (tree_name p q.ty n ∷ None ∷ entry_names p qs (suc n)) j) (value_at (z ++ replicate spare Null) j))
          (sym (wide_is v (subst (λ z. Fits p h z v) (long_sort e) fits) vs)) (long e more j))
  rest_slots [] [] (q ∷ qs) n spare f size is j = absurd f
  rest_slots [] (v ∷ vs) qs n spare f size is j = absurd f
  rest_slots (a ∷ args) [] qs n spare f size is j = absurd f
  rest_slots (a ∷ args) (v ∷ vs) [] n spare f size is j = absurd f

-- ---- the callee begins

padded : (xs : List (Option ℕ)) (count j : ℕ) → slot (xs ++ replicate count None) j ≡ slot xs j
padded [] zero j = refl
padded [] (suc count) zero = refl
padded [] (suc count) (suc j) = padded [] count j
padded (x ∷ xs) count zero = refl
padded (x ∷ xs) count (suc j) = padded xs count j

declared_types : (tys : List Ty) (qs : List Rattle.kilim_program.specs.declared.ty.Qualifier.Qualifier) → length qs ≡ length tys → types_of (declared_parameters tys qs) ≡ param_slots tys
declared_types [] [] e = refl
declared_types (ty ∷ tys) (q ∷ qs) e = ap (slots_of_type (type.vtype ty)) (declared_types tys qs (omega arith))
declared_types [] (q ∷ qs) e = absurd (omega arith)
declared_types (ty ∷ tys) [] e = absurd (omega arith)

-- the types at entry are of the sorts of the parameters
entry_sort : (p : Program) (callee : Method) → length callee.qualifiers ≡ length callee.params → (j : ℕ) → sort p callee (peek (types_of (parameters_of callee)) j) ≡ sort p callee (peek (entry callee).locals j)
unfolding sort
entry_sort p callee sized j = by callee.is_static (is_constructor callee)
  where
    of_this : (b : Bool) (i : ℕ) → sort p callee (peek (vtype.Object (class_type callee.owner.0) ∷ types_of (declared_parameters callee.params callee.qualifiers)) i) ≡
        sort p callee (peek (cond b vtype.UninitThis (class_vtype callee.owner) ∷ param_slots callee.params) i)
    of_this true zero = refl
    of_this false zero = refl
    of_this b (suc i) = ap (λ z. sort p callee (peek z i)) (declared_types callee.params callee.qualifiers sized)

    by : (s c : Bool) → sort p callee (peek (types_of (cond s (declared_parameters callee.params callee.qualifiers) (record { ty = class_type callee.owner.0; qualifier = callee.receiver } ∷ declared_parameters callee.params callee.qualifiers))) j) ≡
        sort p callee (peek (cond s [] (cond c vtype.UninitThis (class_vtype callee.owner) ∷ []) ++ param_slots callee.params) j)
    by true c = ap (λ z. sort p callee (peek z j)) (declared_types callee.params callee.qualifiers sized)
    by false c = of_this c j

same_length : (p : Program) (h : Objects) (u : Named) (count : ℕ) (args : List Passed) (vs : List Value) (qs : List Parameter) → ArgsMeet p h u count args vs qs → length args ≡ length qs
same_length p h u count [] [] [] f = refl
same_length p h u count (a ∷ args) (v ∷ vs) (q ∷ qs) f = ap suc (same_length p h u count args vs qs f.3)
same_length p h u count [] [] (q ∷ qs) f = absurd f
same_length p h u count [] (v ∷ vs) qs f = absurd f
same_length p h u count (a ∷ args) [] qs f = absurd f
same_length p h u count (a ∷ args) (v ∷ vs) [] f = absurd f

module _ (p : Program) (m : Method) (f : Types) (g : Graph) (at : ℕ → Option ℕ) (h : Objects) (ls st : List Value) (below : List Waiting) (hd : Stands p m f g at h ls st below) (args : List Passed) (vs : List Value) (callee : Method)
    (fits : ArgsMeet p h (named_by g at) (length g.nodes) args vs (parameters_of callee))
    (i1 : list_any (λ a. is_free (quality_in p a) && names_no_root g a.name) args ≡ false) (i5 : any_two (shares p g) args ≡ false)
    (i7 : list_any (λ a. is_cuttable (quality_in p a) && names_safe g a.name) args ≡ false) (sized : length callee.qualifiers ≡ length callee.params) where
  abbrev pub waiting : Types → ℕ → List Value → Waiting
  waiting types k rest = record { method = m; types = types; graph = popped k (after_call p args g); at = at; locals = ls; stack = rest }

  pub caller_waits : (types : Types) (k : ℕ) (rest : List Value) → SlotsFit p m types (popped k (after_call p args g)) at h ls rest → WaitFits p h (waiting types k rest)
  caller_waits types k rest s = record {
    slots = s;
    tidy = after_tidy p m f g at h ls st below hd args (args_live p m f g at h ls st below hd args vs callee fits i1 i5 i7) i1 i5 i7;
    within = after_within p m f g at h ls st below hd args (args_live p m f g at h ls st below hd args vs callee fits i1 i5 i7) i1 i5 i7;
  }

  pub call_begins : (types : Types) (k spare : ℕ) (rest : List Value) → SlotsFit p m types (popped k (after_call p args g)) at h ls rest →
      Holds p callee (entry callee) (entry_nodes p callee) (λ n. value_by at (passed_at args n)) h (slots_of vs ++ replicate spare Null) [] (waiting types k rest ∷ below)
  unfolding entry_nodes
  call_begins types k spare rest s = record {
    heap = hd.holds.heap;
    forest = hd.holds.forest;
    frames = call_frames p m f g at h ls st below hd args vs callee fits i1 i5 i7;
    tidy = entry_is_tidy p m f g at h ls st below hd args vs callee fits i1 i5 i7;
    slots = record {
      on_stack = tt;
      in_locals = λ j. subst (λ z. SlotFits p h (named_by (entry_nodes p callee) (λ n. value_by at (passed_at args n))) (length (entry_nodes p callee).nodes) (sort p callee (peek (entry callee).locals j)) z (value_at (slots_of vs ++ replicate spare Null) j))
          (sym (padded (entry_names p (parameters_of callee) 0) (callee.max_locals - length (entry_names p (parameters_of callee) 0)) j))
          (subst (λ z. SlotFits p h (named_by (entry_nodes p callee) (λ n. value_by at (passed_at args n))) (length (entry_nodes p callee).nodes) z (slot (entry_names p (parameters_of callee) 0) j) (value_at (slots_of vs ++ replicate spare Null) j))
          (entry_sort p callee sized j)
          (rest_slots p h (named_by g at) (length g.nodes) callee at (length (entry_nodes p callee).nodes) (node_at (entry_nodes p callee).nodes) (λ n. value_by at (passed_at args n)) args vs (parameters_of callee) 0 spare fits size (λ i. zero_plus i) j));
    };
    waits = (caller_waits types k rest s, hd.holds.waits);
  }
    where
      size : 0 + length args ≡ length (listed (λ n. entry_node (quality_from p (parameters_of callee) n) n) (length (parameters_of callee)))
      size =
          let a = same_length p h (named_by g at) (length g.nodes) args vs (parameters_of callee) fits in
          let b = listed_length (λ n. entry_node (quality_from p (parameters_of callee) n) n) (length (parameters_of callee)) in
          let c : 0 + length args ≡ length args = omega arith in
          c ∙ a ∙ sym b

      zero_plus : (i : ℕ) → value_by at (passed_at args (0 + i)) ≡ value_by at (passed_at args i)
      zero_plus i =
          let e : 0 + i ≡ i = omega arith in
          ap (λ z. value_by at (passed_at args z)) e

  pub call_holds : (id : MethodId) (types : Types) (k : ℕ) (rest : List Value) (f1 : Types) (g1 : Graph) → method_at p id ≡ Some callee → SlotsFit p m types (popped k (after_call p args g)) at h ls rest →
      f1 ≡ record types { stack = type.result_types callee.result ++ types.stack } → g1 ≡ given_result p callee.result (popped k (after_call p args g)) → (raised : Graph) → raised ≡ handler_graph (after_call p args g) → ((j : ℕ) → sort p m (peek types.locals j) ≡ sort p m (peek f.locals j)) → CallHolds p m f1 g1 f raised h id vs ls rest below
  call_holds id types k rest f1 g1 is s shape graph raised raised_is sorts = record {
    raised_is = raised_is;
    sorts = sorts;
    callee = callee;
    is = is;
    caller = waiting types k rest;
    method = refl;
    locals_are = refl;
    stack_is = refl;
    types = shape;
    graph = graph;
    at = λ n. value_by at (passed_at args n);
    entered = call_begins types k (Rattle.kilim_run_machine.specs.Moves.slots_in (method_at p id) - length (slots_of vs)) rest s;
  }

  pub native_holds : ArgsFit p h (named_by g at) (length g.nodes) args vs (parameters_of callee) → (id : MethodId) (k : ℕ) (rest : List Value) (f1 : Types) (g1 : Graph) → method_at p id ≡ Some callee → AreSlots p m h (named_by g at) (length g.nodes) (drop k f.stack) (drop k g.stack) rest →
      f1 ≡ record f { stack = type.result_types callee.result ++ drop k f.stack } → g1 ≡ given_result p callee.result (popped k (after_call p args g)) → (raised : Graph) → raised ≡ handler_graph (after_call p args g) → NativeHolds p m f1 g1 f raised h id vs ls rest below
  native_holds all id k rest f1 g1 is s shape graph raised raised_is = record {
    raised_is = raised_is;
    sorts = λ j. refl;
    callee = callee;
    is = is;
    types = f;
    kept = record f { stack = drop k f.stack };
    graph = g;
    at = at;
    values = st;
    stands = hd;
    passed = args;
    takes = k;
    hands = inl (record { kept_is = refl; fits = all; not_free = i1; rest = s });
    after = shape;
    left = graph;
    waits = caller_waits (record f { stack = drop k f.stack }) k rest (caller_slots p m f g at h ls st below hd args (args_live p m f g at h ls st below hd args vs callee fits i1 i5 i7) i1 i5 i7 k rest s);
    frames = (call_frames p m f g at h ls st below hd args vs callee fits i1 i5 i7).2;
  }
