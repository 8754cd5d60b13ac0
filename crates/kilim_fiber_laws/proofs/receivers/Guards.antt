-- A pausable method keeps its receiver from its beginning on.
use Rattle.std.specs.Prelude.{replicate}
use Rattle.std.proofs.Common.{◌≡◌, inl, inr, cond, ℕ, zero, suc, ◌-◌, Bool, true, false, not, List, [], ◌∷◌, ◌++◌, length, Option, Some, None, refl, sym, ap, subst, ◌∙◌}
use Rattle.std.specs.Prelude.{◌&&◌}
use Rattle.std.proofs.lemmas.Bool.{and_from, false≢true}
use Rattle.kilim_program.specs.declared.class.Method.{Method}
use Rattle.kilim_program.specs.declared.instr.Instr.{Instr}
use Rattle.kilim_program.specs.declared.instr.Instr.TheVariants.{Athrow}
use Rattle.kilim_program.specs.declared.names.ClassId.{ClassId}
use Rattle.kilim_program.specs.declared.names.MethodId.{MethodId}
use Rattle.kilim_program.specs.declared.ty.Base.{Base}
use Rattle.kilim_program.specs.declared.ty.Base.TheVariants as base
use Rattle.kilim_program.specs.declared.ty.Kind.{Kind}
use Rattle.kilim_program.specs.declared.ty.Kind.TheVariants as kind
use Rattle.kilim_program.specs.declared.ty.Qualifier.TheVariants as qualifier
use Rattle.kilim_program.specs.declared.value.Value.{Value}
use Rattle.kilim_program.specs.declared.value.Value.TheVariants.{Null, Ref}
use Rattle.kilim_program.specs.declared.verified.VType.TheVariants as vtype
use Rattle.kilim_program.specs.BuiltIn.{class_type}
use Rattle.kilim_program.specs.Kinds.{class_kind, is_tree_kind, kind_of}
use Rattle.kilim_program.specs.Lengths.{fetched}
use Rattle.kilim_program.specs.Names.{is_task, method_at}
use Rattle.kilim_program.specs.Program.{Program}
use Rattle.kilim_program.specs.Same.{is_constructor}
use Rattle.kilim_type_sound.specs.Fits.{Classes}
use Rattle.kilim_isolation_laws.specs.forest.Heap.{IsForest}
use Rattle.kilim_isolation_laws.specs.graph_rows.Holds.{HeapFits, IsOf, SlotFits, Sort, Tree, Trees, is_tree_sort, named_by, refers, sort, sort_by, trees, value_at, Waiting, Holds}
use Rattle.kilim_isolation_laws.specs.graph_rows.Outcome.{CallHolds, EffectHolds}
use Rattle.kilim_isolation_laws.proofs.graph_rows.Table.{rows_hold}
use Rattle.kilim_isolation_laws.proofs.graph_rows.Words.{object_h}
use Rattle.kilim_isolation.specs.Walks.{declared_to, is_throw}
use Rattle.kilim_isolation_rules.specs.Rules.{deed, raised_deed}
use Rattle.kilim_isolation_pauses.specs.Pausing.{is_free}
use Rattle.kilim_run_machine.specs.Does.{does, throws_object}
use Rattle.kilim_run_machine.specs.Effect.{Calls, Effect}
use Rattle.kilim_run_state.specs.Machine.{Objects}
use Rattle.kilim_program.specs.Members.{execute_of}
use Rattle.kilim_run_machine.specs.Moves.{entered}
use Rattle.kilim_isolation_laws.specs.reached_objects.Laws.{typed}
use Rattle.kilim_isolation_graph.specs.Entry.{declared_parameters, entry_names, entry_nodes, parameters_of, tree_name}
use Rattle.kilim_isolation_graph.specs.Graphs.{slot}
use Rattle.kilim_isolation_laws.specs.Laws.{IsRunOfAccepted, listed_at}
use Rattle.kilim_isolation_laws.specs.reached_objects.graphs.Threads.{ThreadFits, TopIsCoded, keeper}
use Rattle.kilim_isolation_laws.proofs.reached_objects.live.Along.{some_by}
use Rattle.kilim_isolation_laws.proofs.reached_objects.graphs.Beginning.{beginnings_keep}
use Rattle.kilim_isolation_laws.proofs.reached_objects.graphs.Thread.{flows, method_begins}
use Rattle.kilim_run_model.specs.State.{Setting}
use Rattle.kilim_type_spec.specs.Step.{class_vtype, peek}
use Rattle.kilim_type_spec.specs.Typed.{edges, entry, has_code, param_slots}
use Rattle.kilim_type_laws.specs.Laws.{typing_at}
use Rattle.kilim_fiber_spec.specs.lone.Law.{lone_at, lone_frames}
use Rattle.kilim_weave_pauses.proofs.Accepted.{receivers_held}
use Rattle.kilim_fiber_laws.proofs.receivers.Chain.{IsWell}
use Rattle.kilim_fiber_laws.proofs.receivers.Held.{Guard, Stays, rules_hold, top_verified}
use Rattle.kilim_fiber_laws.proofs.receivers.Keeper.{kept_below}
use Rattle.kilim_fiber_laws.proofs.receivers.Tasks.{execute_found}
use Rattle.kilim_fiber_spec.specs.Acts.{World}
use Rattle.kilim_fiber_spec.specs.Fibers.{frame}
use Rattle.kilim_fiber_spec.specs.Form.{is_pausable}
use Rattle.kilim_fiber_spec.specs.Thread.{Frame, code_in, fetch, first_of, own_in, own_of, self_in, self_of}

abbrev NoCall : Effect → Type 0
NoCall (Calls c args q l s h) = ⊥
NoCall e = Unit {0}

throws_none : (p : Program) (n dims : ℕ) (b : Base) → NoCall (throws_object p n dims b)
throws_none p n zero (base.Class c) = tt
throws_none p n zero b = tt
throws_none p n (suc d) b = tt

-- what calls a method doesn't throw
calling : (p : Program) (m : Method) (i : Instr) (to : ℕ) (l s : List Value) (h : Objects) (c : MethodId) (args : List Value) (q : ℕ) (l2 s2 : List Value) (h2 : Objects) → does p m i to l s h ≡ Calls c args q l2 s2 h2 → is_throw i ≡ false
unfolding does
calling p m Athrow to l s h c args q l2 s2 h2 e = absurd (subst NoCall e (object_h NoCall tt (λ c. tt) (λ c. tt) s h _ (λ n object rest x y. throws_none p n object.class.dims object.class.base)))
calling p m i to l s h c args q l2 s2 h2 e = refl

ref_is : (a b : ℕ) → Some a ≡ Some b → a ≡ b
ref_is a b e = cc

-- the first argument, where it is an object
first_ref : (args : List Value) (o : ℕ) → first_of args ≡ Ref o → (rest : List Value) × (args ≡ Ref o ∷ rest)
first_ref [] o e = absurd (cc)
first_ref (v ∷ vs) o e = (vs, ap (λ (x : Value). x ∷ vs) e)

module _ (p : Program) (m : Method) (instance : m.is_static ≡ false) where
  first_slot : slot (entry_nodes p m).locals 0 ≡ tree_name p (class_type m.owner.0) 0
  unfolding entry_nodes
  first_slot = ap (λ ps. slot (entry_names p ps 0 ++ replicate (m.max_locals - length (entry_names p (parameters_of m) 0)) None) 0)
      (ap (λ s. cond s (declared_parameters m.params m.qualifiers) (record { ty = class_type m.owner.0; qualifier = m.receiver } ∷ declared_parameters m.params m.qualifiers)) instance)

  first_type : peek (entry m).locals 0 ≡ cond (is_constructor m) vtype.UninitThis (class_vtype m.owner)
  first_type = ap (λ s. peek (cond s [] (cond (is_constructor m) vtype.UninitThis (class_vtype m.owner) ∷ []) ++ param_slots m.params) 0) instance

  first_sort : sort p m (peek (entry m).locals 0) ≡ sort_by p (class_type m.owner.0) (kind_of p (class_type m.owner.0))
  unfolding sort
  first_sort = ap (sort p m) first_type ∙ by (is_constructor m)
    where
      by : (z : Bool) → sort p m (cond z vtype.UninitThis (class_vtype m.owner)) ≡ sort_by p (class_type m.owner.0) (kind_of p (class_type m.owner.0))
      by true = refl
      by false = refl

module _ (set : Setting) (run : IsRunOfAccepted set) where
  pub not_free : (id : MethodId) (m : Method) → method_at set.program id ≡ Some m → m.pausable ≡ true → m.is_static ≡ false → m.receiver ≡ qualifier.Free → ⊥
  not_free id m there pausable instance free =
      false≢true (sym (receivers_held (typed set.program) run.keeps (record { typed = run.well; frames = refl }) run.accepted id m there)
      ∙ and_from m.pausable (not m.is_static && is_free m.receiver) pausable (and_from (not m.is_static) (is_free m.receiver) (ap not instance) (ap is_free free)))

  pausable_is : (c : MethodId) (m : Method) → method_at set.program c ≡ Some m → is_pausable set.program c ≡ true → m.pausable ≡ true
  pausable_is c m there e = sym (ap (λ (o : Option Method). elim o [ None ↦ false | Some method ↦ method.pausable ]) there) ∙ e

  -- ---- a call

  module _ (h : Objects) (c : MethodId) (m : Method) (there : method_at set.program c ≡ Some m) (args : List Value) (below : List Waiting) (at : ℕ → Option ℕ) (holds : Holds set.program m (entry m) (entry_nodes set.program m) at h (entered set.program c args).locals [] below)
      (instance : m.is_static ≡ false) (held : m.receiver ≡ qualifier.Free → ⊥) (coded : has_code m ≡ true) (o : ℕ) (rest : List Value) (own : args ≡ Ref o ∷ rest) where
    slot_fits : SlotFits set.program h (named_by (entry_nodes set.program m) at) (length (entry_nodes set.program m).nodes) (sort_by set.program (class_type m.owner.0) (kind_of set.program (class_type m.owner.0))) (tree_name set.program (class_type m.owner.0) 0) (Ref o)
    slot_fits =
        subst (λ (s : Sort). SlotFits set.program h (named_by (entry_nodes set.program m) at) (length (entry_nodes set.program m).nodes) s (tree_name set.program (class_type m.owner.0) 0) (Ref o)) (first_sort set.program m instance)
        (subst (λ (x : Option ℕ). SlotFits set.program h (named_by (entry_nodes set.program m) at) (length (entry_nodes set.program m).nodes) (sort set.program m (peek (entry m).locals 0)) x (Ref o)) (first_slot set.program m instance)
        (subst (λ (vs : List Value). SlotFits set.program h (named_by (entry_nodes set.program m) at) (length (entry_nodes set.program m).nodes) (sort set.program m (peek (entry m).locals 0)) (slot (entry_nodes set.program m).locals 0) (value_at (entered set.program c vs).locals 0)) own
        (holds.slots.in_locals 0)))

    by_kind : (k : Kind) → kind_of set.program (class_type m.owner.0) ≡ k → SlotFits set.program h (named_by (entry_nodes set.program m) at) (length (entry_nodes set.program m).nodes) (sort_by set.program (class_type m.owner.0) k) (cond (is_tree_kind k) (Some 0) None) (Ref o) →
        Stays set run h (entered set.program c args ∷ []) o
    by_kind kind.Tree e fits =
        inl (method_begins set.program (typing_at set.program) (listed_at set.program) (Some o) (rules_hold set run) c m there coded h (entered set.program c args).locals (keeper o ∷ []) at []
        (kept_below set.program m instance e held at h (entered set.program c args).locals below o (sym fits.0) holds) refl)
    by_kind kind.Private e fits = let r = fits.1 o refl in inr (r.0, r.1, ap is_tree_sort r.2)
    by_kind kind.Value e fits = absurd (no fits.1)
      where
        no : refers (Ref o) ≡ None → ⊥
        no e = cc

    pub begun_stays : Stays set run h (entered set.program c args ∷ []) o
    begun_stays = by_kind (kind_of set.program (class_type m.owner.0)) refl slot_fits

  pub call_guards : (of : Classes) (m : MethodId) (p : ℕ) (l s : List Value) (b : List Frame) (w : World) → IsWell set run of (lone_at m p l s b w) → (i : Instr) (to : ℕ) → fetch set.program m p ≡ Some (i, to) →
      (c : MethodId) (args : List Value) (q : ℕ) (l2 s2 : List Value) (h : Objects) → does set.program (own_of set.program m) i to l s w.heap ≡ Calls c args q l2 s2 h → TopIsCoded set.program (entered set.program c args ∷ []) → Guard set run h (entered set.program c args ∷ []) c (self_of set.program c args)
  call_guards of m p l s b w is i to f c args q l2 s2 h e coded pausable o own = by called.callee.is_static refl
    where
      t : ThreadFits set.program (typing_at set.program) (listed_at set.program) w.kept w.heap (frame m p l s) (lone_frames b)
      t = is.stands

      here : fetched t.top_fits.method.code t.top_fits.method.code_length p ≡ Some (i, to)
      here = ap (λ (o : Option Method). code_in o p) (sym t.top_fits.is) ∙ f

      mine : does set.program t.top_fits.method i to l s w.heap ≡ Calls c args q l2 s2 h
      mine = ap (λ (o : Option Method). does set.program (own_in o) i to l s w.heap) (sym t.top_fits.is) ∙ e

      called : CallHolds set.program t.top_fits.method (flows set.program (typing_at set.program) (listed_at set.program) w.kept (rules_hold set run) (frame m p l s) (lone_frames b) w.heap t i to here).0
          (deed set.program t.top_fits.method t.top_fits.graph (typing_at set.program m p) i).graph (typing_at set.program m p) (raised_deed set.program t.top_fits.graph (typing_at set.program m p) i).graph h c args l2 s2 t.below
      called =
          let out = some_by i to (calling set.program t.top_fits.method i to l s w.heap c args q l2 s2 h mine) in
          let flow = flows set.program (typing_at set.program) (listed_at set.program) w.kept (rules_hold set run) (frame m p l s) (lone_frames b) w.heap t i to here in
          let passed = (((rules_hold set run).methods m t.top_fits.method t.top_fits.is t.top_fits.coded).passes t.top_fits.first t.top_fits.begins p t.top_fits.graph t.top_fits.reaches i to here out.0 out.1).passed in
          let whole : EffectHolds set.program t.top_fits.method (edges i to) flow.0 (deed set.program t.top_fits.method t.top_fits.graph (typing_at set.program m p) i).graph t.top_fits.at t.below w.heap t.top_fits.graph.nodes to (typing_at set.program m p) (raised_deed set.program t.top_fits.graph (typing_at set.program m p) i).graph (does set.program t.top_fits.method i to l s w.heap) =
          rows_hold set.program (rules_hold set run).keeps t.top_fits.method p to (typing_at set.program m p) flow.0 t.top_fits.graph (deed set.program t.top_fits.method t.top_fits.graph (typing_at set.program m p) i).graph t.top_fits.at w.heap l s t.below
          (declared_to t.top_fits.method out.0) i t.top_fits.stands
          (top_verified set run of (frame m p l s) (lone_frames b) w.heap is.fits.fits t.top_fits.method i to t.top_fits.is here) flow.1 passed here in
          (subst (λ (z : Effect). EffectHolds set.program t.top_fits.method (edges i to) flow.0 (deed set.program t.top_fits.method t.top_fits.graph (typing_at set.program m p) i).graph t.top_fits.at t.below w.heap t.top_fits.graph.nodes to (typing_at set.program m p) (raised_deed set.program t.top_fits.graph (typing_at set.program m p) i).graph z) mine whole).2

      self_is : (z : Bool) → called.callee.is_static ≡ z → cond z Null (first_of args) ≡ Ref o
      self_is z st = sym (ap (λ (o : Option Method). self_in o args) called.is ∙ ap (λ (x : Bool). cond x Null (first_of args)) st) ∙ own

      null_not : Null ≡ Ref o → ⊥
      null_not e = cc

      by : (z : Bool) → called.callee.is_static ≡ z → Stays set run h (entered set.program c args ∷ []) o
      by true st = absurd (null_not (self_is true st))
      by false st =
          let first = first_ref args o (self_is false st) in
          begun_stays h c called.callee called.is args (called.caller ∷ t.below) called.at called.entered st (not_free c called.callee called.is (pausable_is c called.callee called.is pausable) st) (coded called.callee called.is) o first.0 first.1

  -- ---- a task

  pub task_guards : (h : Objects) (q : ℕ) (k : ClassId) → is_task set.program k ≡ true → class_kind set.program k ≡ kind.Tree → HeapFits set.program h → IsForest (trees set.program h) → IsOf set.program h q (Tree 0 Trees) →
      (c : MethodId) → execute_of set.program k ≡ Some c → TopIsCoded set.program (entered set.program c (Ref q ∷ []) ∷ []) → Guard set run h (entered set.program c (Ref q ∷ []) ∷ []) c (Ref q)
  task_guards h q k task tree heap forest is c e coded pausable o own =
      let x = execute_found set.program run.keeps run.form k task tree c e in
      subst (λ (j : ℕ). Stays set run h (entered set.program c (Ref q ∷ []) ∷ []) j) (name own)
      (inl (beginnings_keep set.program (typing_at set.program) (listed_at set.program) (Some q) (rules_hold set run) c x.method h q x.there (record {
        coded = coded x.method x.there;
        instance = x.instance;
        plain = x.params;
        none = x.qualifiers;
        heap = heap;
        forest = forest;
        is = is;
        owner = x.owner;
        whole = λ free j i edge. cuttable (sym x.receiver ∙ free);
        keeps = λ z e. (sym (ref_is q z e), λ free. cuttable (sym x.receiver ∙ free));
      })))
    where
      name : Ref q ≡ Ref o → q ≡ o
      name e = cc

      cuttable : {A : Type 0} → qualifier.Cuttable ≡ qualifier.Free → A
      cuttable e = absurd (cc)
