-- A method that may not give its receiver away begins with its receiver as an object that is kept below it.
use Rattle.std.proofs.Common.{◌≡◌, ◌⊎◌, inl, inr, ℕ, zero, suc, true, false, true≢false, cond, List, [], ◌∷◌, length, Option, Some, None, refl, sym, ap, subst, ◌∙◌, arith}
use Rattle.kilim_program.specs.declared.class.Method.{Method}
use Rattle.kilim_program.specs.declared.ty.Kind.TheVariants as kind
use Rattle.kilim_program.specs.declared.ty.Qualifier.{Qualifier}
use Rattle.kilim_program.specs.declared.ty.Qualifier.TheVariants as qualifier
use Rattle.kilim_program.specs.declared.value.Value.{Value}
use Rattle.kilim_program.specs.BuiltIn.{class_type}
use Rattle.kilim_program.specs.Kinds.{is_tree_kind, kind_of}
use Rattle.kilim_program.specs.Program.{Program}
use Rattle.kilim_run_state.specs.Machine.{Objects}
use Rattle.kilim_type_spec.specs.Typed.{entry}
use Rattle.kilim_isolation_laws.specs.forest.Canonical.{absent, node_at}
use Rattle.kilim_isolation_laws.specs.forest.Heap.{Below, Here, IsUnder, Then}
use Rattle.kilim_isolation_laws.specs.forest.Laws.{IsPlace}
use Rattle.kilim_isolation_laws.specs.forest.Relation.{Label, Node, Owns, Relates, Respects, Root, is_gone, is_safe}
use Rattle.kilim_isolation_laws.proofs.forest.Called.{owned_of, root_free}
use Rattle.kilim_isolation_laws.proofs.forest.Paths.{never_round}
use Rattle.kilim_isolation_graph.specs.Entry.{declared_parameters, entry_node, entry_nodes, parameters_of, quality_from}
use Rattle.kilim_isolation_graph.specs.Nodes.{listed}
use Rattle.kilim_isolation_laws.specs.graph_rows.Holds.{Holds, WaitFits, Waiting, named_by, sort, trees, waiting_named}
use Rattle.kilim_isolation_laws.specs.reached_objects.graphs.Threads.{keeper}

some_is : (a b : ℕ) → Some a ≡ Some b → a ≡ b
some_is a b e = cc

-- ---- the object that is kept, as a frame

module _ (p : Program) (h : Objects) (o : ℕ) (there : (trees p h).has o ≡ true) where
  no_head : (n : ℕ) → ((waiting_named (keeper o)).node n).head ≡ true → ⊥
  no_head zero e = true≢false (sym e)
  no_head (suc n) e = true≢false (sym e)

  no_root : (n : ℕ) → ((waiting_named (keeper o)).node n).standing ≡ Root → ⊥
  no_root zero e = absurd (cc)
  no_root (suc n) e = absurd (cc)

  no_edge : (n : ℕ) (q : ℕ × Label) → ((waiting_named (keeper o)).node n).parent ≡ Some q → ⊥
  no_edge zero q e = absurd (cc)
  no_edge (suc n) q e = absurd (cc)

  same_region : (n m : ℕ) → is_gone ((waiting_named (keeper o)).node n).standing ≡ false → is_gone ((waiting_named (keeper o)).node m).standing ≡ false → ((waiting_named (keeper o)).node n).region ≡ ((waiting_named (keeper o)).node m).region
  same_region zero zero a b = refl
  same_region zero (suc m) a b = absurd (true≢false b)
  same_region (suc n) m a b = absurd (true≢false a)

  keeper_relates : Relates IsPlace (trees p h) (waiting_named (keeper o))
  keeper_relates = record {
    there = λ n x w. subst (λ z. (trees p h).has z ≡ true) (some_is o x w.1) there;
    apart = λ n m x y wn wm b. same_region n m wn.0 wm.0;
    headed = λ n m x hd ln wm same. absurd (no_head n hd);
    edged = λ n m l e ln lm. absurd (no_edge m (n, l) e);
    whole = λ n x q i w e. absurd (no_root n e);
  }

  keeper_waits : WaitFits p h (keeper o)
  unfolding sort
  keeper_waits = record {
    slots = record { on_stack = tt; in_locals = λ j. tt };
    tidy = record { roots = λ n e. absurd (no_root n e); one_head = λ n m hn hm ln lm same. absurd (no_head n hn); heads_top = λ n q hd e. no_head n hd };
    within = λ n m l e. absurd (no_edge m (n, l) e);
  }

-- ---- the nodes with which a method begins

listed_at : (f : ℕ → Node) (c n : ℕ) → (node_at (listed f c) n ≡ f n) ⊎ (node_at (listed f c) n ≡ absent)
listed_at f zero n = inr refl
listed_at f (suc c) zero = inl refl
listed_at f (suc c) (suc n) = listed_at (λ k. f (suc k)) c n

module _ (p : Program) (m : Method) (instance : m.is_static ≡ false) (tree : kind_of p (class_type m.owner.0) ≡ kind.Tree) (held : m.receiver ≡ qualifier.Free → ⊥) where
  parameters : parameters_of m ≡ record { ty = class_type m.owner.0; qualifier = m.receiver } ∷ declared_parameters m.params m.qualifiers
  parameters = ap (λ s. cond s (declared_parameters m.params m.qualifiers) (record { ty = class_type m.owner.0; qualifier = m.receiver } ∷ declared_parameters m.params m.qualifiers)) instance

  first_is : quality_from p (parameters_of m) 0 ≡ Some m.receiver
  first_is = ap (λ ps. quality_from p ps 0) parameters ∙ ap (λ z. cond (is_tree_kind z) (Some m.receiver) None) tree

  node_zero : node_at (entry_nodes p m).nodes 0 ≡ entry_node (Some m.receiver) 0
  unfolding entry_nodes
  node_zero = ap (λ (c : ℕ). node_at (listed (λ k. entry_node (quality_from p (parameters_of m) k) k) c) 0) (ap length parameters) ∙ ap (λ q. entry_node q 0) first_is

  node_each : (n : ℕ) → (node_at (entry_nodes p m).nodes n ≡ entry_node (quality_from p (parameters_of m) n) n) ⊎ (node_at (entry_nodes p m).nodes n ≡ absent)
  unfolding entry_nodes
  node_each n = listed_at (λ k. entry_node (quality_from p (parameters_of m) k) k) (length (parameters_of m)) n

  zero_lives : is_gone (node_at (entry_nodes p m).nodes 0).standing ≡ false
  zero_lives = ap (λ (z : Node). is_gone z.standing) node_zero ∙ by m.receiver
    where
      by : (q : Qualifier) → is_gone (entry_node (Some q) 0).standing ≡ false
      by qualifier.Free = refl
      by qualifier.Cuttable = refl
      by qualifier.Safe = refl

  -- a node of the receiver's region that may be changed is the receiver's
  owned_zero : (n : ℕ) → is_gone (node_at (entry_nodes p m).nodes n).standing ≡ false → is_safe (node_at (entry_nodes p m).nodes n).standing ≡ false → (node_at (entry_nodes p m).nodes n).region ≡ (node_at (entry_nodes p m).nodes 0).region → n ≡ 0
  owned_zero n lives owned same = by (node_each n)
    where
      zero_region : (q : Qualifier) → (q ≡ qualifier.Free → ⊥) → suc n ≡ (entry_node (Some q) 0).region → n ≡ 0
      zero_region qualifier.Free free e = absurd (free refl)
      zero_region qualifier.Cuttable free e = omega (arith, e)
      zero_region qualifier.Safe free e = absurd (omega (arith, e))

      own_region : (q : Option Qualifier) → (q ≡ Some qualifier.Free) ⊎ (q ≡ Some qualifier.Cuttable) → (entry_node q n).region ≡ suc n
      own_region q (inl e) = ap (λ z. (entry_node z n).region) e
      own_region q (inr e) = ap (λ z. (entry_node z n).region) e

      by : (node_at (entry_nodes p m).nodes n ≡ entry_node (quality_from p (parameters_of m) n) n) ⊎ (node_at (entry_nodes p m).nodes n ≡ absent) → n ≡ 0
      by (inr e) = absurd (true≢false (sym (ap (λ (z : Node). is_gone z.standing) e) ∙ lives))
      by (inl e) =
          let q = owned_of (quality_from p (parameters_of m) n) n (sym (ap (λ (z : Node). is_gone z.standing) e) ∙ lives) (sym (ap (λ (z : Node). is_safe z.standing) e) ∙ owned) in
          zero_region m.receiver held (sym (own_region (quality_from p (parameters_of m) n) q) ∙ (sym (ap (λ (z : Node). z.region) e) ∙ (same ∙ ap (λ (z : Node). z.region) node_zero)))

  not_root : (node_at (entry_nodes p m).nodes 0).standing ≡ Root → ⊥
  not_root e = held (the m.receiver (root_free (Some m.receiver) 0 (sym (ap (λ (z : Node). z.standing) node_zero) ∙ e)))
    where
      the : (q : Qualifier) → Some q ≡ Some qualifier.Free → q ≡ qualifier.Free
      the q e = cc

  -- what stands below is forgotten but for the receiver
  pub kept_below : (at : ℕ → Option ℕ) (h : Objects) (locals : List Value) (below : List Waiting) (o : ℕ) → at 0 ≡ Some o → Holds p m (entry m) (entry_nodes p m) at h locals [] below → Holds p m (entry m) (entry_nodes p m) at h locals [] (keeper o ∷ [])
  kept_below at h locals below o is hd = record {
    heap = hd.heap;
    forest = hd.forest;
    frames = (hd.frames.0, (respects, tt), (keeper_relates p h o there, tt, tt));
    tidy = hd.tidy;
    slots = hd.slots;
    waits = (keeper_waits p h o there, tt);
  }
    where
      there : (trees p h).has o ≡ true
      there = hd.frames.0.there 0 o (zero_lives, is)

      no_edge_below : (y : ℕ) (q : ℕ × Label) → ((waiting_named (keeper o)).node y).parent ≡ Some q → ⊥
      no_edge_below zero q e = absurd (cc)
      no_edge_below (suc y) q e = absurd (cc)

      -- what may be changed at or above the receiver is the receiver
      above : (n x y : ℕ) → Owns (named_by (entry_nodes p m) at) n x → o ≡ y → Below (trees p h) x y → (n ≡ 0) × (x ≡ o)
      above n x y own e below =
          let z = owned_zero n own.0 own.1 (hd.frames.0.apart n 0 x y (own.0, own.2) (zero_lives, is ∙ ap (λ (k : ℕ). Some k) e) below) in
          (z, some_is x o (sym own.2 ∙ (ap at z ∙ is)))

      respects : Respects (trees p h) (named_by (entry_nodes p m) at) (waiting_named (keeper o))
      respects = record {
        strictly = λ n x j y own w under.
            let e = some_is o y w.1 in
            let a = above n x y own e (Then under.0 under.1 under.2 under.3) in
            never_round (trees p h) hd.forest o (subst (λ z. IsUnder (trees p h) o z) (sym e) (subst (λ z. IsUnder (trees p h) z y) a.1 under));
        root = λ n x j own root w.
            let e = some_is o x w.1 in
            let a = above n x x own e (Here refl) in
            not_root (subst (λ (z : ℕ). (node_at (entry_nodes p m).nodes z).standing ≡ Root) a.0 root);
        no_edge = λ n x j y l own w e live. no_edge_below y (j, l) e;
      }
