-- Exceptions: a frame whose handler catches stands there, with the graph along the handler edge.
use Rattle.std.proofs.Common.{◌≡◌, ℕ, suc, ◌<◌, Bool, true, false, cond, List, [], ◌∷◌, map, length, Option, Some, None, Ok, refl, sym, ap, subst, ◌∙◌}
use Rattle.kilim_program.specs.declared.class.Handler.{Handler}
use Rattle.kilim_program.specs.declared.class.Method.{Method}
use Rattle.kilim_program.specs.declared.instr.Instr.{Instr}
use Rattle.kilim_program.specs.declared.instr.Instr.TheVariants as instr
use Rattle.kilim_program.specs.declared.names.ClassId.{ClassId}
use Rattle.kilim_program.specs.declared.ty.Ty.{Ty}
use Rattle.kilim_program.specs.declared.value.Value.{Value}
use Rattle.kilim_program.specs.declared.value.Value.TheVariants.{Ref}
use Rattle.kilim_program.specs.Lengths.{fetched}
use Rattle.kilim_program.specs.Names.{method_at}
use Rattle.kilim_program.specs.Program.{Program}
use Rattle.kilim_run_state.specs.Machine.{Activation, Objects}
use Rattle.kilim_type_spec.specs.Step.{Types, class_vtype, peek}
use Rattle.kilim_type_spec.specs.Typed.{declared, has_code}
use Rattle.kilim_isolation_graph.specs.declared.graph.Graph.{Graph}
use Rattle.kilim_isolation_graph.specs.Canonical.{canonical_at}
use Rattle.kilim_isolation_graph.specs.Graphs.{slot}
use Rattle.kilim_isolation_laws.specs.forest.Canonical.{node_at}
use Rattle.kilim_isolation_laws.specs.forest.Heap.{IsForest}
use Rattle.kilim_isolation_laws.specs.forest.Laws.{IsPlace}
use Rattle.kilim_isolation_laws.specs.forest.Relation.{Frames, Named, is_gone}
use Rattle.kilim_isolation_laws.specs.forest.Steps.{after_arguments}
use Rattle.kilim_isolation_laws.proofs.forest.Arguments.{arguments_behind, less_itself}
use Rattle.kilim_isolation_laws.proofs.forest.Less.{IsLess, less_relates, less_respects}
use Rattle.kilim_isolation_rules.specs.Calls.{after_call, all_passed, arguments, call_raises, handler_graph}
use Rattle.kilim_isolation_rules.specs.declared.deed.Passed.{Passed}
use Rattle.kilim_isolation_rules.specs.Rules.{raised_deed}
use Rattle.kilim_isolation_laws.specs.graph_rows.Holds.{AllWait, Fits, HeapFits, Holds, IsOf, Own, SlotFits, Stands, Waiting, named_by, sort, trees, unnamed, value_at, waiting_named}
use Rattle.kilim_isolation_paths.specs.Paths.{Has}
use Rattle.kilim_run_machine.specs.Raising.{call_in, catches, catches_class, caught_behind, caught_by, caught_in, covers, handler_of, lands, or_below, thrown, unwound}
use Rattle.kilim_isolation.specs.Walks.{entry_graph}
use Rattle.kilim_isolation_laws.specs.reached_objects.graphs.Threads.{AllWaitFor, CaughtFit, Handled, IsSound, IsThrown, Listed, NewObjectsKeep, ThreadFits, ThrowsKeep, Typings}
use Rattle.kilim_isolation_laws.proofs.graph_rows.Making.{grown}
use Rattle.kilim_isolation_laws.proofs.graph_rows.Calling.{less_tidy}
use Rattle.kilim_isolation_laws.proofs.graph_rows.Heaps.{slot_grows}
use Rattle.kilim_isolation_laws.proofs.graph_rows.Passing.{after_is}
use Rattle.kilim_isolation_laws.proofs.graph_rows.Settle.{and_left, and_right}
use Rattle.kilim_isolation_laws.proofs.reached_objects.graphs.Places.{settled}

-- ---- tables

-- what is found in a table is an entry of it that covers the place and catches the class
pub record IsFound (p : Program) (c : ClassId) (at : ℕ) (hs : List Handler) (hd : Handler) : Type 0 where
  pub among : Has hs hd
  pub covers_it : covers hd at ≡ true
  pub catches_it : catches_class p hd.catch c ≡ true

found : (p : Program) (c : ClassId) (at : ℕ) (hs : List Handler) (hd : Handler) → handler_of p c at hs ≡ Some hd → IsFound p c at hs hd
found p c at [] hd e = absurd (cc)
found p c at (h ∷ hs) hd e = by (catches p c at h) refl (found p c at hs hd) e
  where
    the : (a b : Handler) → Some a ≡ Some b → a ≡ b
    the a b e = cc

    by : (b : Bool) → catches p c at h ≡ b → (handler_of p c at hs ≡ Some hd → IsFound p c at hs hd) → cond b (Some h) (handler_of p c at hs) ≡ Some hd → IsFound p c at (h ∷ hs) hd
    by true is go w =
        let same = the h hd w in
        record {
          among = (0, ap Some same);
          covers_it = ap (λ z. covers z at) (sym same) ∙ and_left (covers h at) (catches_class p h.catch c) is;
          catches_it = ap (λ (z : Handler). catches_class p z.catch c) (sym same) ∙ and_right (covers h at) (catches_class p h.catch c) is;
        }
    by false is go w =
        let r = go w in
        record { among = (suc r.among.0, r.among.1); covers_it = r.covers_it; catches_it = r.catches_it }

-- ---- the object that is thrown, alone on the stack

module _ (p : Program) (m : Method) (f : Types) (g : Graph) (at : ℕ → Option ℕ) (h : Objects) (ls st : List Value) (below : List Waiting) where
  pub handler_holds : Holds p m f g at h ls st below → (c : ClassId) (n : ℕ) → IsThrown p h c n → Holds p m (record f { stack = class_vtype c ∷ [] }) (handler_graph g) at h ls (Ref n ∷ []) below
  unfolding sort
  handler_holds hd c n t = record {
    heap = hd.heap;
    forest = hd.forest;
    frames = hd.frames;
    tidy = hd.tidy;
    waits = hd.waits;
    slots = record {
      on_stack = (subst (λ z. Fits p h (unnamed z) (Ref n)) (sym t.own) (refl, λ o e. subst (λ z. IsOf p h z Own) (the n o e) t.is), tt);
      in_locals = hd.slots.in_locals;
    };
  }
    where
      the : (a b : ℕ) → Some a ≡ Some b → a ≡ b
      the a b e = cc

  -- types of the same sorts do as well
  pub sorts_hold : Holds p m f g at h ls st below → (f' : Types) → ((k : ℕ) → sort p m (peek f.locals k) ≡ sort p m (peek f'.locals k)) → Holds p m (record f' { stack = [] }) (record g { stack = [] }) at h ls [] below
  sorts_hold hd f' same = record {
    heap = hd.heap;
    forest = hd.forest;
    frames = hd.frames;
    tidy = hd.tidy;
    waits = hd.waits;
    slots = record { on_stack = tt; in_locals = λ k. subst (λ z. SlotFits p h (named_by g at) (length g.nodes) z (slot g.locals k) (value_at ls k)) (same k) (hd.slots.in_locals k) };
  }

-- ---- the top frame: a call has given away its arguments, and no other instruction has changed anything

module _ (p : Program) (m : Method) (f : Types) (g : Graph) (at : ℕ → Option ℕ) (h : Objects) (ls st : List Value) (below : List Waiting) (hd : Stands p m f g at h ls st below) where
  -- the frame with a graph along a handler edge
  pub record Raised (raised : Graph) : Type 0 where
    pub graph : Graph
    pub is : raised ≡ handler_graph graph
    pub holds : Holds p m (record f { stack = [] }) (record graph { stack = [] }) at h ls [] below

  unchanged : Raised (handler_graph g)
  unchanged = record { graph = g; is = refl; holds = sorts_hold p m f g at h ls st below hd.holds f (λ k. refl) }

  module _ (args : List Passed) where
    abbrev u : Named
    u = named_by g at

    abbrev after_named : Named
    after_named = record { node = after_arguments (length g.nodes) (node_at g.nodes) (arguments p args); at = at }

    abbrev after : Graph
    after = after_call p args g

    less : IsLess (named_by g at) after_named
    less = (arguments_behind IsPlace (trees p h) u hd.holds.forest hd.holds.frames.0 hd.tidy (length g.nodes) u (less_itself u) (arguments p args)).0

    -- the same, of the list of nodes
    less_list : IsLess (named_by g at) (named_by (after_call p args g) at)
    less_list =
        let same = (after_is (arguments p args) g).nodes in
        record {
          at = λ n. refl;
          standing = λ n e. ap (λ z. z.standing) (same n) ∙ less.standing n (ap (λ z. is_gone z.standing) (sym (same n)) ∙ e);
          region = λ n. ap (λ z. z.region) (same n) ∙ less.region n;
          head = λ n. ap (λ z. z.head) (same n) ∙ less.head n;
          edges = λ n k l e. less.edges n k l (ap (λ z. z.parent) (sym (same k)) ∙ e);
        }

    given_away : Raised (handler_graph (after_call p args g))
    given_away =
        let a = after_is (arguments p args) g in
        record {
          graph = after;
          is = refl;
          holds = record {
            heap = hd.holds.heap;
            forest = hd.holds.forest;
            frames = (less_relates IsPlace (trees p h) u (named_by after at) less_list hd.holds.frames.0, lower (map waiting_named below) hd.holds.frames.1, hd.holds.frames.2);
            tidy = less_tidy u (named_by after at) less_list hd.holds.tidy;
            waits = hd.holds.waits;
            slots = record {
              on_stack = tt;
              in_locals = λ k. subst (λ z. SlotFits p h (named_by after at) (length after.nodes) (sort p m (peek f.locals k)) (slot z k) (value_at ls k)) (sym a.locals)
                  (slot_grows p h h (λ o z w. w) u (named_by after at) (length g.nodes) (length after.nodes) (λ n lt. refl) (λ n lt. subst (λ z. n < z) (sym a.count) lt)
                  (λ n lt live. ap is_gone (sym (less_list.standing n live)) ∙ live) (sort p m (peek f.locals k)) (slot g.locals k) (value_at ls k) (hd.holds.slots.in_locals k));
            };
          };
        }
      where
        lower : (los : List Named) → Rattle.kilim_isolation_laws.specs.forest.Relation.RespectsAll (trees p h) u los → Rattle.kilim_isolation_laws.specs.forest.Relation.RespectsAll (trees p h) (named_by after at) los
        lower [] rs = tt
        lower (lo ∷ los) rs = (less_respects IsPlace (trees p h) u (named_by after at) less_list lo rs.0, lower los rs.1)

  of_call : (o : Option Method) → Raised (call_raises p g f.stack o).graph
  of_call None = unchanged
  of_call (Some callee) = given_away (all_passed callee g f.stack)

  pub raised_left : (i : Instr) → Raised (raised_deed p g f i).graph
  unfolding raised_deed
  raised_left (instr.Invokevirtual id) = of_call (method_at p id)
  raised_left (instr.Invokespecial id) = of_call (method_at p id)
  raised_left (instr.Invokestatic id) = of_call (method_at p id)
  raised_left _ = unchanged

-- ---- the frames that are left

module _ (p : Program) (typings : Typings) (listed : Listed) (kept : Option ℕ) (s : IsSound p typings listed) (h : Objects) (c : ClassId) (n : ℕ) (t : IsThrown p h c n) where
  -- a frame at its handler
  pub landed : (a : Activation) (m : Method) → method_at p a.method ≡ Some m → has_code m ≡ true → (result : Option Ty) → m.result ≡ result → (first : Graph) → entry_graph p m ≡ Ok first → (f : Types) (g : Graph) (at : ℕ → Option ℕ) (below : List Waiting) →
      Holds p m (record f { stack = [] }) (record g { stack = [] }) at h a.locals [] below → (hd : Handler) → Handled p m (typings a.method) (listed a.method) first f (handler_graph g) hd → catches_class p hd.catch c ≡ true →
      (rest : List Activation) → AllWaitFor p typings listed kept rest below result → ThreadFits p typings listed kept h (lands a (Ref n) hd) rest
  landed a m is coded result gives first begins f g at below holds hd handled catches_it rest waits =
      let w = settled p s.keeps.flow m (record f { stack = class_vtype c ∷ [] }) (handler_graph g) at h a.locals (Ref n ∷ []) below
      (handler_holds p m (record f { stack = [] }) (record g { stack = [] }) at h a.locals [] below holds c n t) refl (declared m hd.at) (typings a.method hd.at)
      (handled.types c t.throwable catches_it) (handled.flow c t.throwable) in
      record {
        below = below;
        result = result;
        waits = waits;
        top_fits = record {
          method = m;
          is = is;
          coded = coded;
          gives = gives;
          first = first;
          begins = begins;
          graph = canonical_at (declared m hd.at) (handler_graph g);
          reaches = handled.reaches;
          at = w.0;
          stands = w.1;
        };
      }

  abbrev Fit : List Activation → Type 0
  Fit frames = CaughtFit p typings listed kept h frames

  -- where nobody catches, the frames below are asked
  pub caught_or : (a : Activation) (at : ℕ) (hs : List Handler) (rest un : List Activation) → CaughtFit p typings listed kept h un → ((hd : Handler) → IsFound p c at hs hd → ThreadFits p typings listed kept h (lands a (Ref n) hd) rest) →
      CaughtFit p typings listed kept h (or_below (caught_by a (Ref n) (handler_of p c at hs)) rest un)
  caught_or a at hs rest un w go = by (handler_of p c at hs) refl
    where
      by : (o : Option Handler) → handler_of p c at hs ≡ o → CaughtFit p typings listed kept h (or_below (caught_by a (Ref n) o) rest un)
      by None e = w
      by (Some hd) e = go hd (found p c at hs hd e)

  pub unwound_fit : (frames : List Activation) (ws : List Waiting) (gets : Option Ty) → AllWaitFor p typings listed kept frames ws gets → HeapFits p h → IsForest (trees p h) → Frames IsPlace (trees p h) (map waiting_named ws) → AllWait p h ws →
      CaughtFit p typings listed kept h (unwound p c (Ref n) frames)
  unwound_fit [] ws gets waits heap forest fs aw = tt
  unwound_fit (a ∷ rest) [] gets waits heap forest fs aw = absurd waits
  unwound_fit (a ∷ rest) (w ∷ ws) gets (gives, one, others) heap forest fs aw =
      subst (λ z. CaughtFit p typings listed kept h (or_below (caught_behind p c (Ref n) a (call_in z a.place)) rest (unwound p c (Ref n) rest))) (sym one.is)
      (subst (λ z. CaughtFit p typings listed kept h (or_below (caught_behind p c (Ref n) a z) rest (unwound p c (Ref n) rest))) (sym one.stands)
      (subst (λ z. CaughtFit p typings listed kept h (or_below (caught_in p c (Ref n) a one.call.0 z) rest (unwound p c (Ref n) rest))) (sym one.is)
      (caught_or a one.call.0 w.method.handlers rest (unwound p c (Ref n) rest) (unwound_fit rest ws gives others heap forest fs.2 aw.1) (λ hd found.
      landed a w.method one.is one.coded gives one.result one.first one.begins (typings a.method one.call.0) w.graph w.at ws
      (subst (λ z. Holds p w.method (record (typings a.method one.call.0) { stack = [] }) (record w.graph { stack = [] }) w.at h z [] ws) one.locals
      (sorts_hold p w.method w.types w.graph w.at h w.locals w.stack ws (record { heap = heap; forest = forest; frames = fs; tidy = aw.0.tidy; slots = aw.0.slots; waits = aw.1 }) (typings a.method one.call.0) one.sorts))
      hd (one.handled hd found.among found.covers_it) found.catches_it rest others))))

  -- the top frame throws
  pub thrown_fit : (top : Activation) (frames : List Activation) → ThreadFits p typings listed kept h top frames → (m : Method) (i : Instr) (next : ℕ) → method_at p top.method ≡ Some m → fetched m.code m.code_length top.place ≡ Some (i, next) →
      CaughtFit p typings listed kept h (thrown p c (Ref n) top frames)
  thrown_fit top frames fits m i next is here =
      subst (λ z. CaughtFit p typings listed kept h (or_below (caught_in p c (Ref n) top top.place z) frames (unwound p c (Ref n) frames))) (sym fits.top_fits.is)
      (caught_or top top.place fits.top_fits.method.handlers frames (unwound p c (Ref n) frames)
      (unwound_fit frames fits.below fits.result fits.waits fits.top_fits.stands.holds.heap fits.top_fits.stands.holds.forest fits.top_fits.stands.holds.frames.2 fits.top_fits.stands.holds.waits) (λ hd found.
      let raised = raised_left p fits.top_fits.method (typings top.method top.place) fits.top_fits.graph fits.top_fits.at h top.locals top.stack fits.below fits.top_fits.stands i in
      landed top fits.top_fits.method fits.top_fits.is fits.top_fits.coded fits.result fits.top_fits.gives fits.top_fits.first fits.top_fits.begins (typings top.method top.place) raised.graph fits.top_fits.at fits.below raised.holds hd
      (subst (λ z. Handled p fits.top_fits.method (typings top.method) (listed top.method) fits.top_fits.first (typings top.method top.place) z hd) raised.is
      ((s.methods top.method fits.top_fits.method fits.top_fits.is fits.top_fits.coded).handled fits.top_fits.first fits.top_fits.begins top.place fits.top_fits.graph fits.top_fits.reaches i next
      (ap (λ (z : Method). fetched z.code z.code_length top.place) (the fits.top_fits.method m (sym fits.top_fits.is ∙ is)) ∙ here) hd found.among found.covers_it)) found.catches_it frames fits.waits))
    where
      the : (a b : Method) → Some a ≡ Some b → a ≡ b
      the a b e = cc

-- ---- the laws

pub throws_keep : ThrowsKeep
throws_keep p typings listed kept top frames h s fits m i next is here c n t = thrown_fit p typings listed kept s h c n t top frames fits m i next is here

pub new_objects_keep : NewObjectsKeep
new_objects_keep p typings listed kept top frames h n ob free nothing of fits = record {
  below = fits.below;
  result = fits.result;
  waits = fits.waits;
  top_fits = record {
    method = fits.top_fits.method;
    is = fits.top_fits.is;
    coded = fits.top_fits.coded;
    gives = fits.top_fits.gives;
    first = fits.top_fits.first;
    begins = fits.top_fits.begins;
    graph = fits.top_fits.graph;
    reaches = fits.top_fits.reaches;
    at = fits.top_fits.at;
    stands = record {
      holds = grown p h n ob free nothing fits.top_fits.method (typings top.method top.place) fits.top_fits.graph fits.top_fits.at top.locals top.stack fits.below fits.top_fits.stands of;
      tidy = fits.top_fits.stands.tidy;
      live = fits.top_fits.stands.live;
    };
  };
}
