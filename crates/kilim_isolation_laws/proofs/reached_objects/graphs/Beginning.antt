-- A method begins on an object.
use Rattle.std.specs.Prelude.{replicate}
use Rattle.std.proofs.Common.{if◌then◌else◌, ◌≡◌, ℕ, zero, suc, ◌-◌, Bool, true, false, true≢false, cond, List, [], ◌∷◌, ◌++◌, map, length, Option, Some, None, refl, sym, ap, subst, ◌∙◌, ◌⊎◌, inl, inr, arith}
use Rattle.kilim_program.specs.declared.class.Method.{Method}
use Rattle.kilim_program.specs.declared.names.MethodId.{MethodId}
use Rattle.kilim_program.specs.declared.ty.Kind.{Kind}
use Rattle.kilim_program.specs.declared.ty.Kind.TheVariants as kind
use Rattle.kilim_program.specs.declared.ty.Qualifier.{Qualifier}
use Rattle.kilim_program.specs.declared.ty.Qualifier.TheVariants as qualifier
use Rattle.kilim_program.specs.declared.value.Value.TheVariants.{Null, Ref}
use Rattle.kilim_program.specs.declared.verified.VType.TheVariants as vtype
use Rattle.kilim_program.specs.BuiltIn.{class_type}
use Rattle.kilim_program.specs.Kinds.{is_tree_kind, kind_of}
use Rattle.kilim_program.specs.Names.{method_at}
use Rattle.kilim_program.specs.Program.{Program}
use Rattle.kilim_program.specs.Same.{is_constructor}
use Rattle.kilim_run_state.specs.Machine.{Objects}
use Rattle.kilim_run_machine.specs.Moves.{entered, slots_in}
use Rattle.kilim_type_spec.specs.Step.{class_vtype, peek}
use Rattle.kilim_type_spec.specs.Typed.{entry, this_types}
use Rattle.kilim_isolation_laws.specs.forest.Canonical.{absent, node_at}
use Rattle.kilim_isolation_laws.specs.forest.Heap.{IsUnder}
use Rattle.kilim_isolation_laws.specs.forest.Laws.{IsPlace}
use Rattle.kilim_isolation_laws.specs.forest.Relation.{Frames, Label, Named, Node, Relates, Respects, Root, Safe, is_gone}
use Rattle.kilim_isolation_laws.proofs.forest.Called.{no_parent, root_free}
use Rattle.kilim_isolation_laws.proofs.forest.Paths.{never_round, some_is}
use Rattle.kilim_isolation_laws.specs.forest.Steps.{IsNearly_tidy}
use Rattle.kilim_isolation_graph.specs.Entry.{declared_parameters, entry_names, entry_node, entry_nodes, parameters_of, quality, quality_from, tree_name}
use Rattle.kilim_isolation_graph.specs.Graphs.{slot}
use Rattle.kilim_isolation_graph.specs.Nodes.{listed}
use Rattle.kilim_isolation_laws.specs.graph_rows.Holds.{AllWait, Fits, HeapFits, Holds, IsOf, SlotFits, Sort, Tree, Trees, WaitFits, Waiting, named_by, object_sort, refers, sort, sort_by, trees, value_at, waiting_named, is_tree_object, is_tree_sort}
use Rattle.kilim_isolation_laws.specs.reached_objects.graphs.Threads.{BeginningsKeep, BeginsOn, keeper, keepers}
use Rattle.kilim_isolation_laws.proofs.reached_objects.graphs.Thread.{method_begins}

-- ---- the object that is kept, as a frame

module _ (p : Program) (h : Objects) (o : ℕ) (there : (trees p h).has o ≡ true) where
  abbrev k : Named
  k = waiting_named (keeper o)

  zero_lives : (n : ℕ) → is_gone ((waiting_named (keeper o)).node n).standing ≡ false → n ≡ 0
  zero_lives zero e = refl
  zero_lives (suc n) e = absurd (true≢false e)

  no_head : (n : ℕ) → ((waiting_named (keeper o)).node n).head ≡ true → ⊥
  no_head zero e = true≢false (sym e)
  no_head (suc n) e = true≢false (sym e)

  no_root : (n : ℕ) → ((waiting_named (keeper o)).node n).standing ≡ Root → ⊥
  no_root zero e = absurd (cc)
  no_root (suc n) e = absurd (cc)

  no_edge : (n : ℕ) (q : ℕ × Label) → ((waiting_named (keeper o)).node n).parent ≡ Some q → ⊥
  no_edge zero q e = absurd (cc)
  no_edge (suc n) q e = absurd (cc)

  same_region : (n m : ℕ) → is_gone ((waiting_named (keeper o)).node n).standing ≡ false → is_gone ((waiting_named (keeper o)).node m).standing ≡ false → ((waiting_named (keeper o)).node n).region ≡ ((waiting_named (keeper o)).node m).region
  same_region zero zero a b = refl
  same_region zero (suc m) a b = absurd (true≢false b)
  same_region (suc n) m a b = absurd (true≢false a)

  keeper_relates : Relates IsPlace (trees p h) (waiting_named (keeper o))
  keeper_relates = record {
    there = λ n x w. subst (λ z. (trees p h).has z ≡ true) (some_is o x w.1) there;
    apart = λ n m x y wn wm b. same_region n m wn.0 wm.0;
    headed = λ n m x hd ln wm same. absurd (no_head n hd);
    edged = λ n m l e ln lm. absurd (no_edge m (n, l) e);
    whole = λ n x q i w e. absurd (no_root n e);
  }

  keeper_waits : WaitFits p h (keeper o)
  unfolding sort
  keeper_waits = record {
    slots = record { on_stack = tt; in_locals = λ j. tt };
    tidy = record { roots = λ n e. absurd (no_root n e); one_head = λ n m hn hm ln lm same. absurd (no_head n hn); heads_top = λ n q hd e. no_head n hd };
    within = λ n m l e. absurd (no_edge m (n, l) e);
  }

module _ (p : Program) (m : Method) (kept : Option ℕ) (h : Objects) (n : ℕ) (b : BeginsOn p m kept h n) where
  kind_is : (k : Kind) → sort_by p (class_type m.owner.0) k ≡ Tree 0 Trees → k ≡ kind.Tree
  kind_is kind.Tree e = refl
  kind_is kind.Value e = absurd (cc)
  kind_is kind.Private e = absurd (cc)

  tree : kind_of p (class_type m.owner.0) ≡ kind.Tree
  tree = kind_is (kind_of p (class_type m.owner.0)) b.owner

  parameters : parameters_of m ≡ record { ty = class_type m.owner.0; qualifier = m.receiver } ∷ []
  parameters = ap (λ s. cond s (declared_parameters m.params m.qualifiers) (record { ty = class_type m.owner.0; qualifier = m.receiver } ∷ declared_parameters m.params m.qualifiers)) b.instance
      ∙ ap (λ ps. record { ty = class_type m.owner.0; qualifier = m.receiver } ∷ declared_parameters ps m.qualifiers) b.plain

  quality_is : quality p (class_type m.owner.0) m.receiver ≡ Some m.receiver
  quality_is = ap (λ z. cond (is_tree_kind z) (Some m.receiver) None) tree

  name_is : tree_name p (class_type m.owner.0) 0 ≡ Some 0
  name_is = ap (λ z. cond (is_tree_kind z) (Some 0) None) tree

  nodes_are : (entry_nodes p m).nodes ≡ entry_node (Some m.receiver) 0 ∷ []
  unfolding entry_nodes
  nodes_are = ap (λ ps. listed (λ j. entry_node (quality_from p ps j) j) (length ps)) parameters ∙ ap (λ q. entry_node q 0 ∷ []) quality_is

  locals_are : (entry_nodes p m).locals ≡ (Some 0 ∷ []) ++ replicate (m.max_locals - length (entry_names p (parameters_of m) 0)) None
  unfolding entry_nodes
  locals_are = ap (λ ps. entry_names p ps 0 ++ replicate (m.max_locals - length (entry_names p (parameters_of m) 0)) None) parameters
      ∙ ap (λ x. (x ∷ []) ++ replicate (m.max_locals - length (entry_names p (parameters_of m) 0)) None) name_is

  stack_is : (entry_nodes p m).stack ≡ []
  unfolding entry_nodes
  stack_is = refl

  there : (trees p h).has n ≡ true
  there = ap (is_tree_object p) b.is.1 ∙ ap is_tree_sort b.is.2

  -- the one node
  abbrev one : List Node
  one = entry_node (Some m.receiver) 0 ∷ []

  abbrev u : Named
  u = record { node = node_at (entry_node (Some m.receiver) 0 ∷ []); at = λ j. Some n }

  live_zero : (j : ℕ) → is_gone (node_at (entry_node (Some m.receiver) 0 ∷ []) j).standing ≡ false → j ≡ 0
  live_zero zero e = refl
  live_zero (suc j) e = absurd (true≢false e)

  no_edge_here : (j : ℕ) (q : ℕ × Label) → (node_at (entry_node (Some m.receiver) 0 ∷ []) j).parent ≡ Some q → ⊥
  no_edge_here zero q e = no_parent (Some m.receiver) 0 q e
  no_edge_here (suc j) q e = absurd (cc)

  free_is : (j : ℕ) → (node_at (entry_node (Some m.receiver) 0 ∷ []) j).standing ≡ Root → m.receiver ≡ qualifier.Free
  free_is zero e = the m.receiver (root_free (Some m.receiver) 0 e)
    where
      the : (q : Qualifier) → Some q ≡ Some qualifier.Free → q ≡ qualifier.Free
      the q w = cc
  free_is (suc j) e = absurd (cc)

  relates : Relates IsPlace (trees p h) (record { node = node_at (entry_node (Some m.receiver) 0 ∷ []); at = λ j. Some n })
  relates = record {
    there = λ j x w. subst (λ z. (trees p h).has z ≡ true) (some_is n x w.1) there;
    apart = λ j i x y wj wi down. ap (λ z. (node_at (entry_node (Some m.receiver) 0 ∷ []) z).region) (live_zero j wj.0 ∙ sym (live_zero i wi.0));
    headed = λ j i x hd lj wi same. inl (live_zero j lj ∙ sym (live_zero i wi.0));
    edged = λ j i l e lj li. absurd (no_edge_here i (j, l) e);
    whole = λ j x q i w e held. b.whole (free_is j e) q i (held ∙ sym w.1);
  }

  respects : (o : ℕ) → kept ≡ Some o → Respects (trees p h) (record { node = node_at (entry_node (Some m.receiver) 0 ∷ []); at = λ j. Some n }) (waiting_named (keeper o))
  respects o is = record {
    strictly = λ j x i y w wi under. never_round (trees p h) b.forest n (subst (λ z. IsUnder (trees p h) n z) (sym (some_is o y wi.1) ∙ (b.keeps o is).0) (subst (λ z. IsUnder (trees p h) z y) (sym (some_is n x w.2)) under));
    root = λ j x i w e wi. (b.keeps o is).1 (free_is j e);
    no_edge = λ j x i y l w wi e live. no_edge_here' y (i, l) e;
  }
    where
      no_edge_here' : (y : ℕ) (q : ℕ × Label) → ((waiting_named (keeper o)).node y).parent ≡ Some q → ⊥
      no_edge_here' zero q e = absurd (cc)
      no_edge_here' (suc y) q e = absurd (cc)

  frames : (k : Option ℕ) → kept ≡ k → Frames IsPlace (trees p h) (record { node = node_at (entry_node (Some m.receiver) 0 ∷ []); at = λ j. Some n } ∷ map waiting_named (keepers k))
  frames None is = (relates, tt, tt)
  frames (Some o) is = (relates, (respects o is, tt), (keeper_relates p h o (subst (λ z. (trees p h).has z ≡ true) (sym (b.keeps o is).0) there), tt, tt))

  all_wait : (k : Option ℕ) → kept ≡ k → AllWait p h (keepers k)
  all_wait None is = tt
  all_wait (Some o) is = (keeper_waits p h o (subst (λ z. (trees p h).has z ≡ true) (sym (b.keeps o is).0) there), tt)

  tidy : IsNearly_tidy (node_at (entry_node (Some m.receiver) 0 ∷ []))
  tidy = record {
    roots = λ j e. head_of j (free_is j e) e;
    one_head = λ j i hj hi lj li same. live_zero j lj ∙ sym (live_zero i li);
    heads_top = λ j q hd e. no_edge_here j q e;
  }
    where
      head_of : (j : ℕ) → m.receiver ≡ qualifier.Free → (node_at (entry_node (Some m.receiver) 0 ∷ []) j).standing ≡ Root → (node_at (entry_node (Some m.receiver) 0 ∷ []) j).head ≡ true
      head_of zero free e = ap (λ q. (entry_node (Some q) 0).head) free
      head_of (suc j) free e = absurd (cc)

  -- the first local is the receiver
  local_slot : (spare count : ℕ) (j : ℕ) → SlotFits p h (record { node = node_at (entry_node (Some m.receiver) 0 ∷ []); at = λ j. Some n }) 1 (sort p m (peek (entry m).locals j)) (slot ((Some 0 ∷ []) ++ replicate count None) j) (value_at (Ref n ∷ replicate spare Null) j)
  unfolding sort
  local_slot spare count j = subst (λ ts. SlotFits p h (record { node = node_at (entry_node (Some m.receiver) 0 ∷ []); at = λ j. Some n }) 1 (sort p m (peek ts j)) (slot ((Some 0 ∷ []) ++ replicate count None) j) (value_at (Ref n ∷ replicate spare Null) j)) (sym types_are)
      (by (is_constructor m) j)
    where
      types_are : (entry m).locals ≡ (if◌then◌else◌ (is_constructor m) vtype.UninitThis (class_vtype m.owner)) ∷ []
      types_are = ap (λ s. cond s [] (cond (is_constructor m) vtype.UninitThis (class_vtype m.owner) ∷ []) ++ Rattle.kilim_type_spec.specs.Typed.param_slots m.params) b.instance
          ∙ ap (λ ps. (cond (is_constructor m) vtype.UninitThis (class_vtype m.owner) ∷ []) ++ Rattle.kilim_type_spec.specs.Typed.param_slots ps) b.plain

      receiver : SlotFits p h (record { node = node_at (entry_node (Some m.receiver) 0 ∷ []); at = λ j. Some n }) 1 (object_sort p (class_type m.owner.0)) (Some 0) (Ref n)
      receiver = (refl, omega arith, (λ live. subst (λ z. Fits p h (Rattle.kilim_isolation_laws.specs.graph_rows.Holds.named_sort z) (Ref n)) (sym b.owner) (refl, λ o e. subst (λ z. IsOf p h z (Tree 0 Trees)) (some_is n o e) b.is)))

      none_after : (count j : ℕ) → slot (replicate count None) j ≡ None
      none_after zero j = refl
      none_after (suc count) zero = refl
      none_after (suc count) (suc j) = none_after count j

      by : (c : Bool) (j : ℕ) → SlotFits p h (record { node = node_at (entry_node (Some m.receiver) 0 ∷ []); at = λ j. Some n }) 1 (sort p m (peek ((if◌then◌else◌ c vtype.UninitThis (class_vtype m.owner)) ∷ []) j)) (slot ((Some 0 ∷ []) ++ replicate count None) j)
          (value_at (Ref n ∷ replicate spare Null) j)
      by true zero = receiver
      by false zero = receiver
      by c (suc j) = subst (λ x. SlotFits p h (record { node = node_at (entry_node (Some m.receiver) 0 ∷ []); at = λ j. Some n }) 1 Rattle.kilim_isolation_laws.specs.graph_rows.Holds.Anything x (value_at (replicate spare Null) j)) (sym (none_after count j)) tt

  abbrev spare : MethodId → ℕ
  spare id = slots_in (method_at p id) - length (Ref n ∷ [])

  pub begun : (id : MethodId) → Holds p m (entry m) (entry_nodes p m) (λ j. Some n) h (entered p id (Ref n ∷ [])).locals [] (keepers kept)
  begun id = record {
    heap = b.heap;
    forest = b.forest;
    frames = subst (λ ns. Frames IsPlace (trees p h) (record { node = node_at ns; at = λ j. Some n } ∷ map waiting_named (keepers kept))) (sym nodes_are) (frames kept refl);
    tidy = subst (λ ns. IsNearly_tidy (node_at ns)) (sym nodes_are) tidy;
    slots = record {
      on_stack = subst (λ xs. Rattle.kilim_isolation_laws.specs.graph_rows.Holds.AreSlots p m h (named_by (entry_nodes p m) (λ j. Some n)) (length (entry_nodes p m).nodes) [] xs []) (sym stack_is) tt;
      in_locals = λ j. subst (λ ns. SlotFits p h (record { node = node_at ns; at = λ j. Some n }) (length ns) (sort p m (peek (entry m).locals j)) (slot (entry_nodes p m).locals j) (value_at (entered p id (Ref n ∷ [])).locals j)) (sym nodes_are)
          (subst (λ xs. SlotFits p h (record { node = node_at (entry_node (Some m.receiver) 0 ∷ []); at = λ j. Some n }) 1 (sort p m (peek (entry m).locals j)) (slot xs j) (value_at (entered p id (Ref n ∷ [])).locals j)) (sym locals_are)
          (local_slot (slots_in (method_at p id) - length (Ref n ∷ [])) (m.max_locals - length (entry_names p (parameters_of m) 0)) j));
    };
    waits = all_wait kept refl;
  }

pub beginnings_keep : BeginningsKeep
beginnings_keep p typings listed kept s id m h n is b = method_begins p typings listed kept s id m is b.coded h (entered p id (Ref n ∷ [])).locals (keepers kept) (λ j. Some n) [] (begun p m kept h n b id) refl
