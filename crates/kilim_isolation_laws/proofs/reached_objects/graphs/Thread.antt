-- One move of a thread.
use Rattle.std.proofs.Common.{◌≡◌, ℕ, zero, suc, Bool, true, false, not, cond, List, [], ◌∷◌, ◌++◌, map, length, Option, Some, None, Ok, refl, sym, ap, subst, ◌∙◌, true≢false, inl, inr}
use Rattle.std.specs.Prelude.{drop, nat_lt}
use Rattle.std.specs.FinMap.{insert}
use Rattle.kilim_program.specs.declared.class.Method.{Method}
use Rattle.kilim_program.specs.declared.instr.Instr.{Instr}
use Rattle.kilim_program.specs.declared.instr.Instr.TheVariants.{Athrow}
use Rattle.kilim_program.specs.declared.names.MethodId.{MethodId}
use Rattle.kilim_program.specs.declared.ty.Base.{Base}
use Rattle.kilim_program.specs.declared.ty.Base.TheVariants as base
use Rattle.kilim_program.specs.declared.ty.Ty.{Ty}
use Rattle.kilim_program.specs.declared.value.Value.{Value}
use Rattle.kilim_program.specs.declared.value.Value.TheVariants.{Box, Ref}
use Rattle.kilim_program.specs.Program.{Program}
use Rattle.kilim_program.specs.Lengths.{fetched}
use Rattle.kilim_program.specs.Names.{method_at}
use Rattle.kilim_run_machine.specs.Does.{does, throws_object}
use Rattle.kilim_run_machine.specs.Effect.{Effect, Goes, Makes, Opens, Calls, Asks, Returns, Raises, Throws, Ends, Stuck}
use Rattle.kilim_run_state.specs.Machine.{Activation, Objects, stands_behind}
use Rattle.kilim_run_state.specs.Objects.{new_object}
use Rattle.kilim_run_machine.specs.Moves.{Move, effect_found, effect_in, entered, frame_limit, goes_on, move_by, moves, push_result, returned}
use Rattle.kilim_type_spec.specs.Step.{Types, peek, result_types, type_step, vtype}
use Rattle.kilim_type_spec.specs.Typed.{Among, declared, edges, entry, has_code}
use Rattle.kilim_isolation_laws.specs.forest.Canonical.{node_at}
use Rattle.kilim_isolation_laws.specs.forest.Relation.{Names, Root}
use Rattle.kilim_isolation_laws.proofs.forest.Moves.{AllBelow}
use Rattle.kilim_isolation_paths.specs.Paths.{Has, Reaches}
use Rattle.kilim_isolation_graph.specs.declared.graph.Graph.{Graph}
use Rattle.kilim_isolation_graph.specs.Canonical.{canonical_at}
use Rattle.kilim_isolation_graph.specs.Entry.{entry_nodes, parameters_of}
use Rattle.kilim_isolation_graph.specs.Graphs.{popped}
use Rattle.kilim_isolation_rules.specs.Calls.{after_call, arguments, given_result, handler_graph}
use Rattle.kilim_isolation_rules.specs.Calls as calls
use Rattle.kilim_isolation_rules.specs.Marks.{flow_mixes, given, stack_lives}
use Rattle.kilim_isolation_rules.specs.Rules.{any_flow_mixes, deed, left_by, raised_deed}
use Rattle.kilim_isolation_rules.specs.Steps.{Free}
use Rattle.kilim_isolation.specs.Walks.{declared_to, entry_graph, entry_mixes, exits_by, is_throw, machine_of}
use Rattle.kilim_isolation_laws.specs.graph_rows.Facts.{IsGivenAway}
use Rattle.kilim_isolation_laws.specs.graph_rows.Holds.{sort, Holds, KindsFlow, Stands, Waiting, named_by, refers, trees, waiting_named}
use Rattle.kilim_isolation_laws.specs.graph_rows.Outcome.{EffectHolds, HandsOn, Left, NativeHolds, ReturnHolds}
use Rattle.kilim_isolation_laws.proofs.graph_rows.Fields.{slot_sort}
use Rattle.kilim_isolation_laws.proofs.graph_rows.Giving.{given_left}
use Rattle.kilim_isolation_laws.proofs.graph_rows.Making.{waiting_grown, zero_holds}
use Rattle.kilim_isolation_laws.proofs.graph_rows.Passed.{moves_passed, ok_is, rule_passed}
use Rattle.kilim_isolation_laws.proofs.graph_rows.Results.{IsNews, back, none_below, pushed_value, value_comes}
use Rattle.kilim_isolation_laws.proofs.graph_rows.Settle.{not_true}
use Rattle.kilim_isolation_laws.proofs.graph_rows.Table.{rows_hold}
use Rattle.kilim_isolation_laws.proofs.graph_rows.Taking.{taken_left}
use Rattle.kilim_isolation_laws.proofs.graph_rows.Words.{object_h}
use Rattle.kilim_isolation_laws.specs.reached_objects.graphs.Threads.{AllWaitFor, AskFits, Becomes, EndFits, FramesFit, Gives, Handled, IsSound, Listed, MoveFits, MovesKeep, Passes, ThreadFits, TopIsVerified, Typings, Waits, keepers}
use Rattle.kilim_isolation_laws.proofs.reached_objects.live.Along.{among_by, some_by}
use Rattle.kilim_isolation_laws.proofs.reached_objects.graphs.Given.{gives_name, no_gift}
use Rattle.kilim_isolation_laws.proofs.reached_objects.graphs.Places.{flow_passed, settled}
use Rattle.kilim_isolation_laws.proofs.reached_objects.graphs.Raising.{unwound_fit}

module _ (p : Program) (typings : Typings) (listed : Listed) (kept : Option ℕ) (s : IsSound p typings listed) where
  abbrev flow : KindsFlow p
  flow = s.keeps.flow

  module _ (id : MethodId) (m : Method) (is : method_at p id ≡ Some m) (coded : has_code m ≡ true) (first : Graph) (begins : entry_graph p m ≡ Ok first) (pl : ℕ) (g : Graph) (reaches : Reaches (machine_of p m (listed id) first) pl g) (i : Instr) (to : ℕ)
      (here : fetched m.code m.code_length pl ≡ Some (i, to)) (f1 : Types) (typed : type_step p m pl i (typings id pl) ≡ Ok f1) where
    abbrev g1 : Graph
    g1 = (deed p m g (typings id pl) i).graph

    passes : (exit : Option ℕ) → Has (exits_by i to) exit → Passes p m (typings id) (listed id) first pl g i exit
    passes exit has = (s.methods id m is coded).passes first begins pl g reaches i to here exit has

    lives : (q : ℕ) → Among (edges i to) q → stack_lives (deed p m g (typings id pl) i).graph ≡ true
    lives q a = (moves_passed p m g (typings id pl) i (declared m q) (deed p m g (typings id pl) i).graph (passes (Some q) (among_by i to q a)).passed).live

    becomes : (q : ℕ) → Among (edges i to) q → Becomes p f1 (declared m q) (typings id q)
    becomes q a =
        let w = (s.methods id m is coded).flow.goes pl to i here in
        subst (λ z. Becomes p z (declared m q) (typings id q)) (ok_is f1 w.0 (sym typed ∙ w.1)) (w.2 q a)

    no_mix : (q : ℕ) → Among (edges i to) q → (t : Types) → declared m q ≡ Some t → flow_mixes p f1 t ≡ false
    no_mix q a t e =
        let c = moves_passed p m g (typings id pl) i (declared m q) (deed p m g (typings id pl) i).graph (passes (Some q) (among_by i to q a)).passed in
        flow_passed p m pl i (typings id pl) f1 t (ap (any_flow_mixes p (left_by p m i (typings id pl))) (sym e) ∙ c.flow) typed

    -- the frame at the next place
    pub arrives : (q : ℕ) → Among (edges i to) q → (h : Objects) (ls st : List Value) (below : List Waiting) (frames : List Activation) → Left p m f1 (deed p m g (typings id pl) i).graph h ls st below → (result : Option Ty) → m.result ≡ result →
        AllWaitFor p typings listed kept frames below result → ThreadFits p typings listed kept h (record { method = id; place = q; locals = ls; stack = st }) frames
    arrives q a h ls st below frames left result gives waits =
        let w = settled p s.keeps.flow m f1 (deed p m g (typings id pl) i).graph left.0 h ls st below left.1 (lives q a) (declared m q) (typings id q) (becomes q a) (no_mix q a) in
        record {
          below = below;
          result = result;
          waits = waits;
          top_fits = record {
            method = m;
            is = is;
            coded = coded;
            gives = gives;
            first = first;
            begins = begins;
            graph = canonical_at (declared m q) (deed p m g (typings id pl) i).graph;
            reaches = (passes (Some q) (among_by i to q a)).arrives q refl;
            at = w.0;
            stands = w.1;
          };
        }

    -- a frame that waits at the next place
    pub comes_to_wait : (q : ℕ) → Among (edges i to) q → q ≡ to → (w : Waiting) → w.method ≡ m → (gets : Option Ty) → f1 ≡ record w.types { stack = result_types gets ++ w.types.stack } → (deed p m g (typings id pl) i).graph ≡ given_result p gets w.graph →
        (raised_deed p g (typings id pl) i).graph ≡ handler_graph w.graph → ((k : ℕ) → sort p m (peek w.types.locals k) ≡ sort p m (peek (typings id pl).locals k)) → (ls st : List Value) → w.locals ≡ ls → w.stack ≡ st → Waits p typings listed (record { method = id; place = q; locals = ls; stack = st }) w gets m.result
    comes_to_wait q a behind w method gets types graph raised sorts ls st locals stack = record {
      call = (pl, i);
      stands = ap (λ (z : Method). stands_behind z.code z.code_length q) method ∙ ap (stands_behind m.code m.code_length) behind ∙ (s.methods id m is coded).behind pl to i here;
      sorts = λ k. subst (λ z. sort p z (peek w.types.locals k) ≡ sort p z (peek (typings id pl).locals k)) (sym method) (sorts k);
      handled = λ hd has covering. subst (λ z. Handled p z (typings id) (listed id) first (typings id pl) (handler_graph w.graph) hd) (sym method)
          (subst (λ z. Handled p m (typings id) (listed id) first (typings id pl) z hd) raised
          ((s.methods id m is coded).handled first begins pl g reaches i to here hd (subst (λ (z : Method). Has z.handlers hd) method has) covering));
      is = is ∙ ap Some (sym method);
      coded = ap has_code method ∙ coded;
      result = ap (λ (z : Method). z.result) method;
      locals = locals;
      stack = stack;
      first = first;
      begins = ap (entry_graph p) method ∙ begins;
      reaches = subst (λ z. Reaches (machine_of p z (listed id) first) q (canonical_at (declared z q) (given_result p gets w.graph))) (sym method)
          (subst (λ z. Reaches (machine_of p m (listed id) first) q (canonical_at (declared m q) z)) graph ((passes (Some q) (among_by i to q a)).arrives q refl));
      types = subst (λ z. Becomes p (record w.types { stack = result_types gets ++ w.types.stack }) (declared z q) (typings id q)) (sym method)
          (subst (λ z. Becomes p z (declared m q) (typings id q)) types (becomes q a));
      flow = λ d e. ap (λ z. flow_mixes p z d) (sym types) ∙ no_mix q a d (ap (λ z. declared z q) (sym method) ∙ e);
      live = ap stack_lives (sym graph) ∙ lives q a;
    }

  -- the frame of a method that begins
  pub method_begins : (id : MethodId) (m : Method) → method_at p id ≡ Some m → has_code m ≡ true → (h : Objects) (ls : List Value) (below : List Waiting) (at : ℕ → Option ℕ) (frames : List Activation) → Holds p m (entry m) (entry_nodes p m) at h ls [] below →
      AllWaitFor p typings listed kept frames below m.result → ThreadFits p typings listed kept h (record { method = id; place = 0; locals = ls; stack = [] }) frames
  unfolding entry_nodes
  method_begins id m is coded h ls below at frames hd waits =
      let k = s.methods id m is coded in
      let passed = rule_passed 6 (not (entry_mixes p m (declared m 0))) _ k.begins.0 k.begins.1 in
      let t = settled p s.keeps.flow m (entry m) (entry_nodes p m) at h ls [] below hd refl (declared m 0) (typings id 0) k.flow.begins
      (λ d e. ap (entry_mixes p m) (sym e) ∙ not_true (entry_mixes p m (declared m 0)) passed.0) in
      let is_first : k.begins.0 ≡ canonical_at (declared m 0) (entry_nodes p m) = ok_is (canonical_at (declared m 0) (entry_nodes p m)) k.begins.0 passed.1 in
      record {
        below = below;
        result = m.result;
        waits = waits;
        top_fits = record {
          method = m;
          is = is;
          coded = coded;
          gives = refl;
          first = k.begins.0;
          begins = k.begins.1;
          graph = canonical_at (declared m 0) (entry_nodes p m);
          reaches = (0 ∷ [], (refl, (refl, is_first)));
          at = t.0;
          stands = t.1;
        };
      }

  -- a frame gets its result
  resumed : (h : Objects) (m : Method) (f : Types) (g g1 : Graph) (at : ℕ → Option ℕ) (ls st : List Value) (w : Waiting) (ws : List Waiting) (value : Option Value) → Stands p m f g at h ls st (w ∷ ws) → g1.nodes ≡ g.nodes →
      ReturnHolds p m g1 at h m.result value → (a : Activation) (rest : List Activation) (gives : Option Ty) → Waits p typings listed a w m.result gives → AllWaitFor p typings listed kept rest ws gives →
      ThreadFits p typings listed kept h (record { method = a.method; place = a.place; locals = a.locals; stack = pushed_value value a.stack }) rest
  resumed h m f g g1 at ls st w ws value stands nodes holds a rest gives waits others =
      let left = back p m f g g1 at h ls st w ws stands nodes m.result value holds in
      let t = settled p s.keeps.flow w.method (record w.types { stack = result_types m.result ++ w.types.stack }) (given_result p m.result w.graph) left.0 h w.locals (pushed_value value w.stack) ws left.1 waits.live
      (declared w.method a.place) (typings a.method a.place) waits.types waits.flow in
      record {
        below = ws;
        result = gives;
        waits = others;
        top_fits = record {
          method = w.method;
          is = waits.is;
          coded = waits.coded;
          gives = waits.result;
          first = waits.first;
          begins = waits.begins;
          graph = canonical_at (declared w.method a.place) (given_result p m.result w.graph);
          reaches = waits.reaches;
          at = t.0;
          stands = subst (λ z. Stands p w.method (typings a.method a.place) (canonical_at (declared w.method a.place) (given_result p m.result w.graph)) t.0 h z (pushed_value value a.stack) ws) waits.locals
              (subst (λ z. Stands p w.method (typings a.method a.place) (canonical_at (declared w.method a.place) (given_result p m.result w.graph)) t.0 h w.locals (pushed_value value z) ws) waits.stack t.1);
        };
      }

  push_is : (value : Option Value) (a : Activation) (rest : List Activation) → push_result value (a ∷ rest) ≡ record { method = a.method; place = a.place; locals = a.locals; stack = pushed_value value a.stack } ∷ rest
  push_is None a rest = refl
  push_is (Some v) a rest = refl

  cond_fits : (b : Bool) (x y : Move) → MoveFits p typings listed kept x → MoveFits p typings listed kept y → MoveFits p typings listed kept (cond b x y)
  cond_fits true x y a c = a
  cond_fits false x y a c = c

  -- the object that is kept, where no frame is left
  ends : (h : Objects) (m : Method) (f : Types) (g : Graph) (at : ℕ → Option ℕ) (ls st : List Value) (ws : List Waiting) → Stands p m f g at h ls st ws → ws ≡ keepers kept → EndFits p kept h
  ends h m f g at ls st ws stands e = record {
    heap = stands.holds.heap;
    forest = stands.holds.forest;
    there = λ o is. by kept (subst (λ z. Stands p m f g at h ls st z) e stands) o is;
  }
    where
      some_same : (a b : ℕ) → Some a ≡ Some b → a ≡ b
      some_same a b q = cc

      by : (k : Option ℕ) → Stands p m f g at h ls st (keepers k) → (o : ℕ) → k ≡ Some o → (trees p h).has o ≡ true
      by None w o q = absurd (cc)
      by (Some x) w o q = ap (trees p h).has (sym (some_same x o q)) ∙ w.holds.frames.2.0.there 0 x (refl, refl)

  module _ (top : Activation) (frames : List Activation) (h : Objects) (t : ThreadFits p typings listed kept h top frames) (i : Instr) (to : ℕ) (here : fetched t.top_fits.method.code t.top_fits.method.code_length top.place ≡ Some (i, to)) where
    abbrev m : Method
    m = t.top_fits.method

    abbrev after_graph : Graph
    after_graph = (deed p t.top_fits.method t.top_fits.graph (typings top.method top.place) i).graph

    pub flows : (f1 : Types) × (type_step p t.top_fits.method top.place i (typings top.method top.place) ≡ Ok f1) × ((q : ℕ) → Among (edges i to) q → Becomes p f1 (declared t.top_fits.method q) (typings top.method q))
    flows = (s.methods top.method t.top_fits.method t.top_fits.is t.top_fits.coded).flow.goes top.place to i here

    go : (q : ℕ) → Among (edges i to) q → (h' : Objects) (ls st : List Value) → Left p t.top_fits.method flows.0 (deed p t.top_fits.method t.top_fits.graph (typings top.method top.place) i).graph h' ls st t.below →
        ThreadFits p typings listed kept h' (record { method = top.method; place = q; locals = ls; stack = st }) frames
    go q a h' ls st left = arrives top.method t.top_fits.method t.top_fits.is t.top_fits.coded t.top_fits.first t.top_fits.begins top.place t.top_fits.graph t.top_fits.reaches i to here flows.0 flows.1 q a h' ls st t.below frames left
        t.result t.top_fits.gives t.waits

    goes_back : (value : Option Value) (h' : Objects) → h' ≡ h → (deed p t.top_fits.method t.top_fits.graph (typings top.method top.place) i).graph.nodes ≡ t.top_fits.graph.nodes →
        ReturnHolds p t.top_fits.method (deed p t.top_fits.method t.top_fits.graph (typings top.method top.place) i).graph t.top_fits.at h' t.top_fits.method.result value → (fs : List Activation) (ws : List Waiting) →
        Stands p t.top_fits.method (typings top.method top.place) t.top_fits.graph t.top_fits.at h top.locals top.stack ws → AllWaitFor p typings listed kept fs ws t.result → MoveFits p typings listed kept (returned value fs h')
    goes_back value h' same nodes holds [] ws stands waits = subst (EndFits p kept) (sym same) (ends h t.top_fits.method (typings top.method top.place) t.top_fits.graph t.top_fits.at top.locals top.stack ws stands waits)
    goes_back value h' same nodes holds (a ∷ rest) [] stands waits = absurd waits
    goes_back value h' same nodes holds (a ∷ rest) (w ∷ ws) stands waits = λ coded.
        subst (FramesFit p typings listed kept h') (sym (push_is value a rest))
        (subst (λ z. ThreadFits p typings listed kept z (record { method = a.method; place = a.place; locals = a.locals; stack = pushed_value value a.stack }) rest) (sym same)
        (resumed h t.top_fits.method (typings top.method top.place) t.top_fits.graph (deed p t.top_fits.method t.top_fits.graph (typings top.method top.place) i).graph t.top_fits.at top.locals top.stack w ws value stands nodes
        (subst (λ z. ReturnHolds p t.top_fits.method (deed p t.top_fits.method t.top_fits.graph (typings top.method top.place) i).graph t.top_fits.at z t.top_fits.method.result value) same holds)
        a rest waits.0 (subst (λ z. Waits p typings listed a w z waits.0) (sym t.top_fits.gives) waits.1) waits.2))

    -- ---- a built-in method

    module _ (id : MethodId) (args : List Value) (place : ℕ) (among : Among (edges i to) place) (behind : place ≡ to) (ls st : List Value) (h' : Objects)
        (w : NativeHolds p t.top_fits.method flows.0 (deed p t.top_fits.method t.top_fits.graph (typings top.method top.place) i).graph (typings top.method top.place) (raised_deed p t.top_fits.graph (typings top.method top.place) i).graph h' id args ls st t.below) where
      abbrev mid : Graph
      mid = popped w.takes (after_call p w.passed w.graph)

      abbrev mid_waiting : Waiting
      mid_waiting = record { method = t.top_fits.method; types = w.kept; graph = popped w.takes (after_call p w.passed w.graph); at = w.at; locals = ls; stack = st }

      abbrev mid_types : Types
      mid_types = w.kept

      waiting : Holds p t.top_fits.method w.kept (popped w.takes (after_call p w.passed w.graph)) w.at h' ls st t.below
      waiting = record { heap = w.stands.holds.heap; forest = w.stands.holds.forest; frames = w.frames; tidy = w.waits.tidy; slots = w.waits.slots; waits = w.stands.holds.waits }

      -- with a result of that type
      goes : (result : Option Ty) → w.callee.result ≡ result → (h'' : Objects) (st' : List Value) →
          Left p t.top_fits.method (record w.kept { stack = result_types result ++ w.kept.stack }) (given_result p result (popped w.takes (after_call p w.passed w.graph))) h'' ls st' t.below →
          ThreadFits p typings listed kept h'' (record { method = top.method; place = place; locals = ls; stack = st' }) frames
      goes result is h'' st' left = go place among h'' ls st'
          (subst (λ z. Left p t.top_fits.method z (deed p t.top_fits.method t.top_fits.graph (typings top.method top.place) i).graph h'' ls st' t.below) (sym (w.after ∙ ap (λ z. record w.kept { stack = result_types z ++ w.kept.stack }) is))
          (subst (λ z. Left p t.top_fits.method (record w.kept { stack = result_types result ++ w.kept.stack }) z h'' ls st' t.below)
          (sym (w.left ∙ ap (λ z. given_result p z (popped w.takes (after_call p w.passed w.graph))) is)) left))

      null_news : (v : Value) → refers v ≡ None → IsNews p h' (named_by (popped w.takes (after_call p w.passed w.graph)) w.at) (refers v) × AllBelow (trees p h') (refers v) (map waiting_named t.below)
      null_news v e = (record { there = λ o q. absurd (none_some o q); top = λ o q i z. absurd (none_some o z); apart = λ o n x q. absurd (none_some o q) }, subst (λ z. AllBelow (trees p h') z (map waiting_named t.below)) (sym e) (none_below (trees p h') (map waiting_named t.below)))
        where
          none_some : (o : ℕ) → refers v ≡ Some o → ⊥
          none_some o q = no o (sym e ∙ q)
            where
              no : (o : ℕ) → None ≡ Some o → ⊥
              no o z = cc

      -- the node of what is given away
      abbrev Given : ℕ → Type 0
      Given o = (nb : ℕ) × (arguments p w.passed ≡ Free nb ∷ []) × Names (named_by w.graph w.at) nb o × ((node_at w.graph.nodes nb).standing ≡ Root)

      of_args : HandsOn p t.top_fits.method w.types w.kept w.graph w.at h' w.passed w.callee args st w.takes → (o : ℕ) → Gives p (parameters_of w.callee) args o → Given o
      of_args hands o q = gives_name p h' (named_by w.graph w.at) (length w.graph.nodes) w.graph w.at refl w.passed args (parameters_of w.callee) hands.fits hands.not_free o q

      given_node : (o : ℕ) → Gives p (parameters_of w.callee) args o → Given o
      given_node o q = elim w.hands [ inl hands ↦ of_args hands o q | inr free ↦ absurd (no_gift p (parameters_of w.callee) args o free q) ]

      given_away : (o : ℕ) (q : Gives p (parameters_of w.callee) args o) (h'' : Objects) → IsGivenAway p h' h'' o → Left p t.top_fits.method w.kept (popped w.takes (after_call p w.passed w.graph)) h'' ls st t.below
      given_away o q h'' away = elim w.hands [
        | inl hands ↦
            let n = of_args hands o q in
            subst (λ z. Left p t.top_fits.method z (popped w.takes (after_call p w.passed w.graph)) h'' ls st t.below) (sym hands.kept_is)
            (subst (λ z. Left p t.top_fits.method (record w.types { stack = drop w.takes w.types.stack }) (popped w.takes (calls.after_arguments z w.graph)) h'' ls st t.below) (sym n.1)
            (given_left p t.top_fits.method w.types w.graph w.at h' h'' ls w.values t.below w.stands n.0 o n.2 n.3 away (drop w.takes w.types.stack) (drop w.takes w.graph.stack) st hands.rest))
        | inr free ↦ absurd (no_gift p (parameters_of w.callee) args o free q)
      ]

      asks : AskFits p typings listed kept id args (goes_on top place ls st ∷ frames) h'
      asks = record {
        callee = w.callee;
        is = w.is;
        done = λ none. goes None none h' st (w.at, waiting);
        raises = λ c n free object thrown.
            let more = waiting_grown p h' n (new_object p c) free (zero_holds p c) w.stands.holds.heap w.stands.holds.forest mid_waiting t.below w.frames (w.waits, w.stands.holds.waits) object in
            unwound_fit p typings listed kept s (insert h' n (new_object p c)) c n thrown (goes_on top place ls st ∷ frames) (mid_waiting ∷ t.below) w.callee.result (
              t.top_fits.method.result,
              comes_to_wait top.method t.top_fits.method t.top_fits.is t.top_fits.coded t.top_fits.first t.top_fits.begins top.place t.top_fits.graph t.top_fits.reaches i to here flows.0 flows.1 place among behind mid_waiting refl
                  w.callee.result w.after w.left w.raised_is w.sorts ls st refl refl,
              subst (AllWaitFor p typings listed kept frames t.below) (sym t.top_fits.gives) t.waits,
            ) more.heap more.forest more.frames more.waits;
        answered = λ ty v is fits null. goes (Some ty) is h' (v ∷ st)
            (value_comes p t.top_fits.method w.kept (popped w.takes (after_call p w.passed w.graph)) w.at h' ls st t.below waiting w.waits.within ty v fits (λ kd. null_news v (null kd)));
        whole = λ o q.
            let n = given_node o q in
            (w.stands.holds.frames.0.there n.0 o n.2, λ x j e. w.stands.holds.frames.0.whole n.0 o x j n.2 n.3 e);
        gives = λ none o q h'' away. goes None none h'' st (given_away o q h'' away);
        comes = λ ty is h'' n dims stuff taken sort tree. goes (Some ty) is h'' (Ref n ∷ st)
            (subst (λ z. Left p t.top_fits.method (record w.kept { stack = vtype ty ∷ w.kept.stack }) (Rattle.kilim_isolation_rules.specs.Marks.given z (popped w.takes (after_call p w.passed w.graph))) h'' ls (Ref n ∷ st) t.below) (sym tree)
            (taken_left p t.top_fits.method w.kept (popped w.takes (after_call p w.passed w.graph)) w.at h' h'' ls st t.below waiting w.waits.within n dims stuff taken (vtype ty) (slot_sort p t.top_fits.method ty ∙ sort)));
      }

    pub move_fits : (e : Effect) → EffectHolds p t.top_fits.method (edges i to) flows.0 (deed p t.top_fits.method t.top_fits.graph (typings top.method top.place) i).graph t.top_fits.at t.below h t.top_fits.graph.nodes to (typings top.method top.place) (raised_deed p t.top_fits.graph (typings top.method top.place) i).graph e →
        MoveFits p typings listed kept (move_by p e top frames)
    move_fits (Goes place ls st h') w = λ coded. go place w.0 h' ls st w.1
    move_fits (Makes object place ls st h') w = λ n free. go place w.0 (insert h' n object) ls (Ref n ∷ st) (w.1 n free)
    move_fits (Opens place ls st h') w = λ box. go place w.0 h' ls (Box box ∷ st) (w.1 box)
    move_fits (Calls id args place ls st h') w = cond_fits (nat_lt (length (goes_on top place ls st ∷ frames)) frame_limit) _ _
        (λ coded. method_begins id w.2.callee w.2.is (coded w.2.callee w.2.is) h' (entered p id args).locals (w.2.caller ∷ t.below) w.2.at (goes_on top place ls st ∷ frames) w.2.entered (
          t.top_fits.method.result,
          comes_to_wait top.method t.top_fits.method t.top_fits.is t.top_fits.coded t.top_fits.first t.top_fits.begins top.place t.top_fits.graph t.top_fits.reaches i to here flows.0 flows.1 place w.0 w.1 w.2.caller w.2.method
              w.2.callee.result w.2.types w.2.graph w.2.raised_is w.2.sorts ls st w.2.locals_are w.2.stack_is,
          subst (AllWaitFor p typings listed kept frames t.below) (sym t.top_fits.gives) t.waits,
        )) tt
    move_fits (Asks id args place ls st h') w = asks id args place w.0 w.1 ls st h' w.2
    move_fits (Returns value h') w = goes_back value h' w.1 w.2 w.0 frames t.below t.top_fits.stands t.waits
    move_fits (Raises cause) w = tt
    move_fits (Throws object class cause) w = tt
    move_fits (Ends cause) w = tt
    move_fits Stuck w = tt

module _ (p : Program) (typings : Typings) (listed : Listed) (kept : Option ℕ) (s : IsSound p typings listed) (top : Activation) (frames : List Activation) (h : Objects) (v : TopIsVerified p typings top h) (t : ThreadFits p typings listed kept h top frames) where
  throws_fits : (n dims : ℕ) (b : Base) → MoveFits p typings listed kept (move_by p (throws_object p n dims b) top frames)
  throws_fits n zero (base.Class c) = tt
  throws_fits n zero b = tt
  throws_fits n (suc d) b = tt

  -- what is thrown changes neither frames nor heap
  thrown_fits : (i : Instr) (to : ℕ) → is_throw i ≡ true → MoveFits p typings listed kept (move_by p (does p t.top_fits.method i to top.locals top.stack h) top frames)
  unfolding does
  thrown_fits Athrow to e = object_h (λ z. MoveFits p typings listed kept (move_by p z top frames)) tt (λ c. tt) (λ c. tt) top.stack h _ (λ n object rest x y. throws_fits n object.class.dims object.class.base)
  thrown_fits i to e = absurd (true≢false (sym e))

  found_fits : (x : Option (Instr × ℕ)) → fetched t.top_fits.method.code t.top_fits.method.code_length top.place ≡ x → MoveFits p typings listed kept (move_by p (effect_found p t.top_fits.method top h x) top frames)
  found_fits None e = tt
  found_fits (Some found) e = by (is_throw found.0) refl
    where
      by : (b : Bool) → is_throw found.0 ≡ b → MoveFits p typings listed kept (move_by p (effect_found p t.top_fits.method top h (Some found)) top frames)
      by true throws = thrown_fits found.0 found.1 throws
      by false goes =
          let out = some_by found.0 found.1 goes in
          let passed = ((s.methods top.method t.top_fits.method t.top_fits.is t.top_fits.coded).passes t.top_fits.first t.top_fits.begins top.place t.top_fits.graph t.top_fits.reaches found.0 found.1 e out.0 out.1).passed in
          let flow = flows p typings listed kept s top frames h t found.0 found.1 e in
          move_fits p typings listed kept s top frames h t found.0 found.1 e _
          (rows_hold p s.keeps t.top_fits.method top.place found.1 (typings top.method top.place) flow.0 t.top_fits.graph (deed p t.top_fits.method t.top_fits.graph (typings top.method top.place) found.0).graph t.top_fits.at h top.locals top.stack
          t.below (declared_to t.top_fits.method out.0) found.0 t.top_fits.stands (v t.top_fits.method found.0 found.1 t.top_fits.is e) flow.1 passed e)

  pub move_keeps : MoveFits p typings listed kept (moves p top frames h)
  unfolding moves
  move_keeps = subst (λ z. MoveFits p typings listed kept (move_by p (effect_in p top h z) top frames)) (sym t.top_fits.is) (found_fits (fetched t.top_fits.method.code t.top_fits.method.code_length top.place) refl)

pub moves_keep : MovesKeep
moves_keep p typings listed kept top frames h s v t = move_keeps p typings listed kept s top frames h v t
