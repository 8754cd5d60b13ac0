-- The graph after the arguments of a call, and what they leave behind.
use Rattle.std.proofs.Common.{if◌then◌else◌, ◌≡◌, ℕ, zero, suc, ◌≤◌, ◌==◌, Bool, true, false, cond, List, [], ◌∷◌, length, Option, Some, None, refl, sym, ap, subst, ◌∙◌, inl, inr}
use Rattle.kilim_program.specs.declared.ty.Qualifier.TheVariants as qualifier
use Rattle.kilim_program.specs.Program.{Program}
use Rattle.kilim_isolation_laws.specs.forest.Heap.{Heap, IsForest}
use Rattle.kilim_isolation_laws.specs.forest.Relation.{Gone, is_gone, Label, Node, Named, Names, Owns, Frames}
use Rattle.kilim_isolation_laws.specs.forest.Steps.{IsTidy, IsCall, Qualifier, Argument, Free, Cuttable, entry_node, after_argument, after_arguments, more_arguments, number_or, is_owned}
use Rattle.kilim_isolation_laws.specs.forest.Canonical.{absent, node_at}
use Rattle.kilim_isolation_laws.proofs.forest.Arguments.{AllLeft_behind, IsLeft_behind, arguments_behind, less_itself}
use Rattle.kilim_isolation_laws.proofs.forest.Called.{of_named, owned, owned_of, root_free, tail_behind, view}
use Rattle.kilim_isolation_laws.proofs.forest.Calls.{IsAfter_call}
use Rattle.kilim_isolation_laws.proofs.forest.Less.{IsLess, lives}
use Rattle.kilim_isolation_laws.proofs.forest.Moves.{call_keeps}
use Rattle.kilim_isolation_graph.specs.declared.graph.Graph.{Graph}
use Rattle.kilim_isolation_graph.specs.Nodes.{listed}
use Rattle.kilim_isolation_rules.specs.declared.deed.Passed.{Passed}
use Rattle.kilim_isolation_rules.specs.Calls as calls
use Rattle.kilim_isolation_rules.specs.Calls.{arguments, quality_in}
use Rattle.kilim_isolation_laws.proofs.graph_rows.Nodes.{listed_at, listed_length, past_absent, within_or_past}

abbrev pub passed_at : List Passed → ℕ → Option ℕ
passed_at [] k = None
passed_at (a ∷ rest) zero = a.name
passed_at (a ∷ rest) (suc k) = passed_at rest k

abbrev pub quality_at : Program → List Passed → ℕ → Qualifier
quality_at p [] k = None
quality_at p (a ∷ rest) zero = quality_in p a
quality_at p (a ∷ rest) (suc k) = quality_at p rest k

-- ---- the graph is that of the functions

gone_absent : (b : Bool) → cond b (record absent { standing = Gone }) absent ≡ absent
gone_absent true = refl
gone_absent false = refl

left_absent : (b : Bool) → ◌≡◌ {A = Node} (record { region = 0; standing = (if b then Gone else Gone); head = false; parent = None }) absent
left_absent true = refl
left_absent false = refl

-- what no node is stays none
stays_absent : (node : ℕ → Node) (count : ℕ) (x : Argument) (n : ℕ) → node n ≡ absent → after_argument count node x n ≡ absent
stays_absent node count (Free b) n e = ap (λ (z : Node). if z.region == (node b).region then record z { standing = Gone } else z) e ∙ gone_absent ((absent).region == (node b).region)
stays_absent node count (Cuttable a) n e =
    ap (λ (z : Node). record { region = z.region; standing = (if Rattle.kilim_isolation_laws.specs.forest.Steps.is_left node count a n then z.standing else Gone); head = z.head; parent = Rattle.kilim_isolation_laws.specs.forest.Steps.no_parent a z.parent }) e
    ∙ left_absent (Rattle.kilim_isolation_laws.specs.forest.Steps.is_left node count a n)

listed_is : (g : Graph) (x : Argument) (n : ℕ) →
    node_at (listed (after_argument (length g.nodes) (node_at g.nodes) x) (length g.nodes)) n ≡ after_argument (length g.nodes) (node_at g.nodes) x n
listed_is g x n = elim (within_or_past n (length g.nodes)) [
  | inl lt ↦ listed_at (after_argument (length g.nodes) (node_at g.nodes) x) (length g.nodes) n lt
  | inr le ↦ past_absent (listed (after_argument (length g.nodes) (node_at g.nodes) x) (length g.nodes)) n
      (subst (λ k. k ≤ n) (sym (listed_length (after_argument (length g.nodes) (node_at g.nodes) x) (length g.nodes))) le)
      ∙ sym (stays_absent (node_at g.nodes) (length g.nodes) x n (past_absent g.nodes n le))
]

one_is : (g : Graph) (x : Argument) → calls.after_argument x g ≡ record g { nodes = listed (after_argument (length g.nodes) (node_at g.nodes) x) (length g.nodes) }
one_is g (Free b) = refl
one_is g (Cuttable a) = refl

pub record IsAfter (g : Graph) (xs : List Argument) : Type 0 where
  pub locals : (calls.after_arguments xs g).locals ≡ g.locals
  pub stack : (calls.after_arguments xs g).stack ≡ g.stack
  pub count : length (calls.after_arguments xs g).nodes ≡ length g.nodes
  pub nodes : (n : ℕ) → node_at (calls.after_arguments xs g).nodes n ≡ after_arguments (length g.nodes) (node_at g.nodes) xs n

pub after_is : (xs : List Argument) (g : Graph) → IsAfter g xs
after_is [] g = record { locals = refl; stack = refl; count = refl; nodes = λ n. refl }
after_is (x ∷ xs) g =
    let fn = after_argument (length g.nodes) (node_at g.nodes) x in
    let more = after_is xs (record g { nodes = listed (after_argument (length g.nodes) (node_at g.nodes) x) (length g.nodes) }) in
    let long = listed_length (after_argument (length g.nodes) (node_at g.nodes) x) (length g.nodes) in
    let same : node_at (listed (after_argument (length g.nodes) (node_at g.nodes) x) (length g.nodes)) ≡ after_argument (length g.nodes) (node_at g.nodes) x = λ i n. listed_is g x n i in
    record {
      locals = ap (λ z. (calls.after_arguments xs z).locals) (one_is g x) ∙ more.locals;
      stack = ap (λ z. (calls.after_arguments xs z).stack) (one_is g x) ∙ more.stack;
      count = ap (λ z. length (calls.after_arguments xs z).nodes) (one_is g x) ∙ more.count ∙ long;
      nodes = λ n. ap (λ z. node_at (calls.after_arguments xs z).nodes n) (one_is g x) ∙ more.nodes n
          ∙ ap (λ k. after_arguments k (node_at (listed (after_argument (length g.nodes) (node_at g.nodes) x) (length g.nodes))) xs n) long
          ∙ ap (λ z. after_arguments (length g.nodes) z xs n) same;
    }

-- ---- what the arguments leave behind

module _ (h : Heap) (u after : Named) (p : Program) where
  behind_free : (args : List Passed) → AllLeft_behind h u after (arguments p args) → (k n : ℕ) → quality_at p args k ≡ Some qualifier.Free → passed_at args k ≡ Some n → IsLeft_behind h u after (Free n)
  behind_free [] all k n q e = absurd (cc)
  behind_free (a ∷ args) all zero n q e = (subst (λ y. AllLeft_behind h u after (more_arguments (Some qualifier.Free) y (arguments p args))) e
      (subst (λ z. AllLeft_behind h u after (more_arguments z a.name (arguments p args))) q all)).0
  behind_free (a ∷ args) all (suc k) n q e = behind_free args (tail_behind h u after (quality_in p a) a.name (arguments p args) all) k n q e

  behind_cuttable : (args : List Passed) → AllLeft_behind h u after (arguments p args) → (k n : ℕ) → quality_at p args k ≡ Some qualifier.Cuttable → passed_at args k ≡ Some n → IsLeft_behind h u after (Cuttable n)
  behind_cuttable [] all k n q e = absurd (cc)
  behind_cuttable (a ∷ args) all zero n q e = (subst (λ y. AllLeft_behind h u after (more_arguments (Some qualifier.Cuttable) y (arguments p args))) e
      (subst (λ z. AllLeft_behind h u after (more_arguments z a.name (arguments p args))) q all)).0
  behind_cuttable (a ∷ args) all (suc k) n q e = behind_cuttable args (tail_behind h u after (quality_in p a) a.name (arguments p args) all) k n q e

-- The callee may know less of an argument than it is passed as: the constructor of `java/lang/Object` knows nothing of a tree that is its receiver.
abbrev pub Weaker : (ℕ → Qualifier) → (ℕ → Qualifier) → Type 0
Weaker inside qual = (k : ℕ) → is_owned (inside k) ≡ true → qual k ≡ inside k

owned_is : (q : Qualifier) (x : Rattle.kilim_program.specs.declared.ty.Qualifier.Qualifier) → q ≡ Some x → is_owned (Some x) ≡ true → is_owned q ≡ true
owned_is q x e owned = ap is_owned e ∙ owned

module _ (IsPlace : ℕ → Label → Type 0) (h : Heap) (u : Named) (ls : List Named) (forest : IsForest h) (fs : Frames IsPlace h (u ∷ ls)) (tidy : IsTidy u.node) (fuel : ℕ) (p : Program) (args : List Passed)
    (inside : ℕ → Qualifier) (weaker : Weaker inside (quality_at p args)) (value : ℕ → Option ℕ) (c : IsCall u (length args) inside (passed_at args) value) where
  abbrev pub entry_named : Named
  entry_named = record { node = λ k. entry_node (inside k) k; at = value }

  abbrev pub after_named : Named
  after_named = record { node = after_arguments fuel u.node (arguments p args); at = u.at }

  abbrev of : ℕ → ℕ
  of k = number_or (passed_at args k)

  pub behind : IsLess u after_named × AllLeft_behind h u after_named (arguments p args)
  behind = arguments_behind IsPlace h u forest fs.0 tidy fuel u (less_itself u) (arguments p args)

  name_of : (k o : ℕ) → value k ≡ Some o → (passed_at args k ≡ Some (of k)) × Names u (of k) o
  name_of k o e = of_named IsPlace h u ls forest fs tidy fuel (length args) inside (passed_at args) value c k o e

  -- what the callee owns is passed as such
  free_passed : (k : ℕ) → inside k ≡ Some qualifier.Free → quality_at p args k ≡ Some qualifier.Free
  free_passed k e = weaker k (owned_is (inside k) qualifier.Free e refl) ∙ e

  cuttable_passed : (k : ℕ) → inside k ≡ Some qualifier.Cuttable → quality_at p args k ≡ Some qualifier.Cuttable
  cuttable_passed k e = weaker k (owned_is (inside k) qualifier.Cuttable e refl) ∙ e

  gone_region : (k o m : ℕ) → Owns entry_named k o → inside k ≡ (Some qualifier.Free) → is_gone (after_named.node m).standing ≡ false → (u.node m).region ≡ (u.node (of k)).region → ⊥
  gone_region k o m w free live same = behind_free h u after_named p args behind.1 k (of k) (free_passed k free) (name_of k o w.2).0 m live same

  after_call_is : IsAfter_call h u after_named entry_named of
  after_call_is = record {
    at = λ n. refl;
    lives = λ n e. lives IsPlace h u after_named behind.0 n e;
    free = λ k o m w root live same. gone_region k o m w (root_free (inside k) k root) live same;
    cuttable = λ k o m x w wm same. elim (owned_of (inside k) k w.0 w.1) [
      | inl free ↦ absurd (gone_region k o m w free wm.0 same)
      | inr cuttable ↦ (behind_cuttable h u after_named p args behind.1 k (of k) (cuttable_passed k cuttable) (name_of k o w.2).0).0 o m x (name_of k o w.2).1.1 wm same
    ];
    no_edge = λ k o m l w live_k e live. elim (owned_of (inside k) k w.0 w.1) [
      | inl free ↦ gone_region k o (of k) w free live_k refl
      | inr cuttable ↦ (behind_cuttable h u after_named p args behind.1 k (of k) (cuttable_passed k cuttable) (name_of k o w.2).0).1 m l e
    ];
  }

  -- a call that no rule refuses keeps the relation of all frames
  pub called : Frames IsPlace h (entry_named ∷ after_named ∷ ls)
  called = call_keeps IsPlace h u after_named entry_named of ls forest fs (view IsPlace h u ls forest fs tidy fuel (length args) inside (passed_at args) value c)
      (owned IsPlace h u ls forest fs tidy fuel (length args) inside (passed_at args) value c) behind.0 after_call_is
