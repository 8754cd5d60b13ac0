-- What the frames of a thread name is there.
use Rattle.std.proofs.Common.{◌≡◌, ◌⊎◌, inl, inr, ℕ, suc, ◌+◌, ◌<◌, Bool, true, false, not, true≢false, List, [], ◌∷◌, ◌++◌, length, map, Option, Some, None, Result, Ok, refl, sym, ap, subst, ◌∙◌, arith}
use Rattle.std.specs.Prelude.{slice_get}
use Rattle.std.specs.FinMap.{get}
use Rattle.std.proofs.lemmas.Bool.{and_parts}
use Rattle.kilim_program.specs.declared.instr.Instr.{Instr}
use Rattle.kilim_program.specs.declared.class.Method.{Method}
use Rattle.kilim_program.specs.declared.names.MethodId.{MethodId}
use Rattle.kilim_program.specs.declared.ty.Kind.{Kind}
use Rattle.kilim_program.specs.declared.ty.Kind.TheVariants as kind
use Rattle.kilim_program.specs.declared.ty.Ty.{Ty}
use Rattle.kilim_program.specs.declared.value.Value.{Value}
use Rattle.kilim_program.specs.declared.value.Value.TheVariants.{Ref}
use Rattle.kilim_program.specs.declared.value.Value.TheVariants as value
use Rattle.kilim_program.specs.declared.verified.VType.{VType}
use Rattle.kilim_program.specs.declared.verified.VType.TheVariants.{Top, Int, Long, Null, UninitThis, Uninit, Object}
use Rattle.kilim_program.specs.Kinds.{kind_of}
use Rattle.kilim_program.specs.Names.{method_at}
use Rattle.kilim_program.specs.Program.{Program}
use Rattle.kilim_run_state.specs.declared.value.Object.{Object as HeapObject}
use Rattle.kilim_program.specs.Lengths.{fetched}
use Rattle.kilim_run_state.specs.Machine.{Activation, Objects, stands_behind}
use Rattle.kilim_run_model.specs.Reach.{Below, FramesName, LowerName, LiveNames, Liveness, MaybeNames, Names as NamesOne, SomeNames}
use Rattle.kilim_type_spec.specs.Step.{Types, assignable, is_top, peek, result_types, vtype}
use Rattle.kilim_type_spec.specs.Typed.{Catches, FlowsInto, GoesOn, Live, ReadsIt, all_assignable, covers, declared, has_code}
use Rattle.kilim_type_laws.specs.Laws.{typing_at}
use Rattle.kilim_type_laws.proofs.ByPlace.{typed_by_place}
use Rattle.kilim_type_laws.proofs.Handlers.{among_handlers}
use Rattle.kilim_type_laws.proofs.Itself.{flows_itself}
use Rattle.kilim_type_laws.proofs.Lives.{live_is_typed}
use Rattle.kilim_isolation_paths.specs.Paths.{Reaches}
use Rattle.kilim_isolation_laws.specs.forest.Relation.{Frames}
use Rattle.kilim_isolation_laws.specs.forest.Laws.{IsPlace}
use Rattle.kilim_isolation_graph.specs.declared.graph.Graph.{Graph}
use Rattle.kilim_isolation_graph.specs.Canonical.{canonical_at}
use Rattle.kilim_isolation_graph.specs.Graphs.{node_of, slot}
use Rattle.kilim_isolation_graph.specs.Nodes.{is_gone}
use Rattle.kilim_isolation_rules.specs.Calls.{given_result, handler_graph}
use Rattle.kilim_isolation_rules.specs.Marks.{given}
use Rattle.kilim_isolation_pauses.specs.Pausing.{frames_at}
use Rattle.kilim_isolation.specs.Walks.{entry_graph, machine_of}
use Rattle.kilim_type_sound.specs.Fits as fits
use Rattle.kilim_type_sound.specs.Fits.{AValue, AreThere, Awaited, BelowFit, Classes, FrameFits, StandsAtCall, Holds, Nothing, StackFits, Wanted, has_type, have_types, result_awaited, result_of}
use Rattle.kilim_isolation_laws.specs.reached_objects.live.Laws.{IsAcceptedBy, IsThere as LiveIsThere}
use Rattle.kilim_isolation_laws.proofs.reached_objects.live.Gone.{result_stays}
use Rattle.kilim_isolation_laws.proofs.reached_objects.live.Live.{lands, live_is_there}
use Rattle.kilim_isolation_laws.proofs.reached_objects.live.Live.{has_type as has_type_at}
use Rattle.kilim_isolation_laws.proofs.reached_objects.live.Locals.{result_locals}
use Rattle.kilim_isolation_laws.proofs.reached_objects.live.Nodes.{HasType, gone_at}
use Rattle.kilim_isolation_laws.proofs.reached_objects.walk.Methods.{every_method_goes}
use Rattle.kilim_isolation_laws.specs.graph_rows.Holds.{AllWait, SlotFits, WaitFits, Waiting, is_tree_object, named_by, sort, trees, value_at, waiting_named}
use Rattle.kilim_isolation_laws.proofs.graph_rows.Locals.{value_get}
use Rattle.kilim_isolation_laws.specs.reached_objects.graphs.Threads.{AllWaitFor, Becomes, Listed, TopFits, Waits, keepers}
use Rattle.kilim_isolation_laws.specs.reached_objects.Laws.{AreLive, FitsBoth, IsChecked, IsLiveAtHandler, ReachedAreThere, TopStacksAreThere, typed}
use Rattle.kilim_isolation_laws.proofs.reached_objects.Held.{IsThere, below_there}
use Rattle.kilim_isolation_laws.proofs.reached_objects.Slots.{free_items, live_at, slot_there, sort_known, stack_there}

same_method : (a b : Method) (o : Option Method) → o ≡ Some a → o ≡ Some b → a ≡ b
same_method a b o e d = cc

same_graph : (a b : Graph) (r : Result Graph ℕ) → r ≡ Ok a → r ≡ Ok b → a ≡ b
same_graph a b r e d = cc

not_true : (b : Bool) → not b ≡ true → b ≡ false
not_true false e = refl
not_true true e = absurd (true≢false (sym e))

not_both : (b : Bool) → (b ≡ true → ⊥) → b ≡ false
not_both true no_true = absurd (no_true refl)
not_both false no_true = refl

same_call : (a b : ℕ × Instr) (o : Option (ℕ × Instr)) → o ≡ Some a → o ≡ Some b → a ≡ b
same_call a b o e d = cc

-- a wanted local that has a type
slot_typed : (p : Program) (m : Method) (of : Classes) (t : VType) (o : Option Value) (v : Value) → is_top t ≡ false → o ≡ Some v → Holds p m of t o → has_type p m of t v ≡ true
slot_typed p m of Top o v top e holds = absurd (true≢false top)
slot_typed p m of Int o v top e holds = subst (Holds p m of Int) e holds
slot_typed p m of Long o v top e holds = subst (Holds p m of Long) e holds
slot_typed p m of Null o v top e holds = subst (Holds p m of Null) e holds
slot_typed p m of UninitThis o v top e holds = subst (Holds p m of UninitThis) e holds
slot_typed p m of (Uninit at) o v top e holds = subst (Holds p m of (Uninit at)) e holds
slot_typed p m of (Object ty) o v top e holds = subst (Holds p m of (Object ty)) e holds

-- the stack below a result is that which waits
later_item : (p : Program) (gets : Option Ty) (g : Graph) (k : ℕ) → (j : ℕ) × (slot (given_result p gets g).stack j ≡ slot g.stack k)
later_item p None g k = (k, refl)
later_item p (Some ty) g k = by (kind_of p ty)
  where
    by : (x : Kind) → (j : ℕ) × (slot (given x g).stack j ≡ slot g.stack k)
    by kind.Tree = (suc k, refl)
    by kind.Value = (suc k, refl)
    by kind.Private = (suc k, refl)

module _ (p : Program) (wanted : Wanted) (live : Liveness) (of : Classes) (h : Objects) (checked : IsChecked p wanted) (alive : AreLive p live) where
  abbrev listed : Listed
  listed id = frames_at (typed p) id

  accepted_by : (id : MethodId) (m : Method) → method_at p id ≡ Some m → has_code m ≡ true → IsAcceptedBy p id m (typing_at p id) (listed id)
  accepted_by id m is coded = record {
    keeps = checked.keeps;
    is = is;
    coded = coded;
    well = typed_by_place p checked.keeps checked.well id m is coded;
    goes = every_method_goes (typed p) checked.keeps checked.accepted id m is coded;
  }

  live_in : (id : MethodId) (m : Method) (first : Graph) → method_at p id ≡ Some m → has_code m ≡ true → entry_graph p m ≡ Ok first → (at : ℕ) (g : Graph) → Reaches (machine_of p m (listed id) first) at g → (k : ℕ) → Live m k at → LiveIsThere (typing_at p id) k at g
  live_in id m first is coded begins at g r k l =
      let a = accepted_by id m is coded in
      live_is_there p id m (typing_at p id) (listed id) a k at l g (subst (λ (f : Graph). Reaches (machine_of p m (listed id) f) at g) (same_graph first a.goes.first (entry_graph p m) begins a.goes.begins) r)

  wanted_live : (id : MethodId) (m : Method) → method_at p id ≡ Some m → (k at : ℕ) → Live m k at → wanted id at k ≡ true
  wanted_live id m is k at (ReadsIt x to i here read) = (checked.verified.wants id m is x (i, to) here).read k read
  wanted_live id m is k at (GoesOn x to q i here unwritten among l) = (checked.verified.wants id m is x (i, to) here).flow q k among (wanted_live id m is k q l) unwritten
  wanted_live id m is k at (Catches x to q i here among l) = (checked.verified.wants id m is x (i, to) here).caught q k among (wanted_live id m is k q l)

  -- ---- the top frame

  abbrev Names : Activation → ℕ → Type 0
  Names a n = SomeNames a.stack n ⊎ LiveNames (live.top a.method a.place) 0 a.locals n

  abbrev LowerNames : Activation → ℕ → Type 0
  LowerNames a n = SomeNames a.stack n ⊎ LiveNames (live.below a.method a.place) 0 a.locals n

  -- a live local has a type, by which its value is typed
  local_typed : (a : Activation) (awaited : Awaited) (m : Method) → method_at p a.method ≡ Some m → (fit : FrameFits p (typing_at p) wanted of awaited a) → (j n : ℕ) → Live m j a.place → is_top (peek (typing_at p a.method a.place).locals j) ≡ false → slice_get a.locals j ≡ Some (Ref n) →
      has_type p m of (peek (typing_at p a.method a.place).locals j) (Ref n) ≡ true
  local_typed a awaited m is fit j n l top e =
      let same = same_method fit.method m (method_at p a.method) fit.there is in
      let holds = fit.locals.slots j (wanted_live a.method m is j a.place l) in
      subst (λ (z : Method). has_type p z of (peek (typing_at p a.method a.place).locals j) (Ref n) ≡ true) same (slot_typed p fit.method of (peek (typing_at p a.method a.place).locals j) (slice_get a.locals j) (Ref n) top e holds)

  top_there : (a : Activation) (below : List Waiting) (result : Option Ty) → TopFits p (typing_at p) listed h a below result → FrameFits p (typing_at p) wanted of Nothing a → (n : ℕ) → Names a n → IsThere h n
  top_there a below result t fit n (inl names) =
      let f = typing_at p a.method a.place in
      let same = same_method fit.method t.method (method_at p a.method) fit.there t.is in
      let typed = subst (λ (z : Method). have_types p z of f.stack a.stack ≡ true) same fit.stack in
      let none = not_true _ t.stands.live in
      stack_there p t.method of h (named_by t.graph t.at) (length t.graph.nodes) f.stack f.stack t.graph.stack a.stack t.stands.holds.slots.on_stack (flows_itself p checked.keeps f).stack typed (λ k x e lt. free_items t.graph t.graph.stack none k x e) n names
  top_there a below result t fit n (inr names) =
      let f = typing_at p a.method a.place in
      let l = live_at (live.top a.method a.place) 0 a.locals n names in
      let number : 0 + l.0 ≡ l.0 = omega arith in
      let lives = alive.0 a.method t.method a.place l.0 t.is (subst (λ (k : ℕ). live.top a.method a.place k ≡ true) number l.1) in
      let there = live_in a.method t.method t.first t.is t.coded t.begins a.place t.graph t.reaches l.0 lives in
      let typed = local_typed a Nothing t.method t.is fit l.0 n lives there.typed l.2 in
      slot_there p h (named_by t.graph t.at) (length t.graph.nodes) (sort p t.method (peek f.locals l.0)) (slot t.graph.locals l.0) n (sort_known p t.method of (peek f.locals l.0) (peek f.locals l.0) n ((flows_itself p checked.keeps f).locals l.0) typed) (λ x e lt. there.lives x e)
      (subst (SlotFits p h (named_by t.graph t.at) (length t.graph.nodes) (sort p t.method (peek f.locals l.0)) (slot t.graph.locals l.0)) (value_get a.locals l.0 (Ref n) l.2) (t.stands.holds.slots.in_locals l.0))

  -- ---- a frame that waits

  becomes_flows : (flow f : Types) (o : Option Types) → Becomes p flow o f → FlowsInto p flow f
  becomes_flows flow f None b = subst (λ (z : Types). FlowsInto p flow z) (sym b) (flows_itself p checked.keeps flow)
  becomes_flows flow f (Some d) b = subst (λ (z : Types). FlowsInto p flow z) (sym b.0) b.1

  becomes_typed : (flow f : Types) (o : Option Types) (k : ℕ) → Becomes p flow o f → is_top (peek f.locals k) ≡ false → HasType o k
  becomes_typed flow f None k b top = tt
  becomes_typed flow f (Some d) k b top = ap (λ (z : Types). is_top (peek z.locals k)) (sym b.0) ∙ top

  record Rest (m : Method) (ts : List VType) (vs : List Value) : Type 0 where
    us : List VType
    flows : all_assignable p ts us ≡ true
    typed : have_types p m of us vs ≡ true

  -- the types below the result
  rest_typed : (m : Method) (gets : Option Ty) (ts us : List VType) (vs : List Value) → all_assignable p (result_types gets ++ ts) us ≡ true → StackFits p m of (result_awaited gets) us vs → Rest m ts vs
  rest_typed m None ts us vs a fit = record { us = us; flows = a; typed = fit }
  rest_typed m (Some ty) ts [] vs a fit = absurd fit
  rest_typed m (Some ty) ts (u ∷ us) vs a fit = record { us = us; flows = (and_parts (assignable p (vtype ty) u) (all_assignable p ts us) a).1; typed = fit.2 }

  gone_later : (gets : Option Ty) (g : Graph) (x : ℕ) → x < length g.nodes → is_gone (node_of (given_result p gets g) x).standing ≡ false → is_gone (node_of g x).standing ≡ false
  gone_later gets g x lt lives = not_both (is_gone (node_of g x).standing) (λ gone. true≢false (sym ((result_stays p gets g).gone x lt gone) ∙ lives))

  -- what is live at a handler of the call: it is there before the call, and not gone where the call raises
  caught_there : (a : Activation) (w : Waiting) (gets gives : Option Ty) → Waits p (typing_at p) listed a w gets gives → WaitFits p h w → StandsAtCall p (typing_at p) wanted of a → (j n : ℕ) → IsLiveAtHandler w.method j a.place → slice_get a.locals j ≡ Some (Ref n) → IsThere h n
  caught_there a w gets gives ws fits st j n (call, hd, behind, has, covering, lives) e =
      let id = a.method in
      let m = w.method in
      let method : st.method ≡ m = same_method st.method m (method_at p id) st.there ws.is in
      let one : ws.call ≡ call = same_call ws.call call (stands_behind m.code m.code_length a.place) ws.stands behind in
      let other : st.call ≡ call = same_call st.call call (stands_behind m.code m.code_length a.place) (ap (λ (z : Method). stands_behind z.code z.code_length a.place) (sym method) ∙ st.behind) behind in
      let here : fetched m.code m.code_length call.0 ≡ Some (call.1, a.place) =
      subst (λ (z : ℕ × Instr). fetched m.code m.code_length z.0 ≡ Some (z.1, a.place)) other (ap (λ (z : Method). fetched z.code z.code_length st.call.0) (sym method) ∙ st.here) in
      let live_call : Live m j call.0 = Catches call.0 a.place hd.at call.1 here (among_handlers m.handlers call.0 has.0 hd has.1 covering) lives in
      let t = peek (typing_at p id call.0).locals j in
      let typed_call : is_top t ≡ false = live_is_typed p checked.keeps m (typing_at p id) (accepted_by id m ws.is ws.coded).well j call.0 live_call in
      let holds : Holds p m of t (slice_get a.locals j) =
      subst (λ (z : Method). Holds p z of t (slice_get a.locals j)) method
      (subst (λ (z : ℕ × Instr). Holds p st.method of (peek (typing_at p id z.0).locals j) (slice_get a.locals j)) other (st.locals.slots j (subst (λ (z : ℕ × Instr). wanted id z.0 j ≡ true) (sym other) (wanted_live id m ws.is j call.0 live_call)))) in
      let typed : has_type p m of t (Ref n) ≡ true = slot_typed p m of t (slice_get a.locals j) (Ref n) typed_call e holds in
      let sorts : sort p m (peek w.types.locals j) ≡ sort p m t = ws.sorts j ∙ ap (λ (z : ℕ × Instr). sort p m (peek (typing_at p id z.0).locals j)) one in
      let handled = ws.handled hd has (ap (λ (z : ℕ × Instr). covers hd z.0) one ∙ covering) in
      let there = live_in id m ws.first ws.is ws.coded ws.begins hd.at (canonical_at (declared m hd.at) (handler_graph w.graph)) handled.reaches j lives in
      let a1 = accepted_by id m ws.is ws.coded in
      let known = has_type_at p id m (typing_at p id) (listed id) a1 hd.at j (declared m hd.at) (lands p id m (typing_at p id) (listed id) a1 call.0 a.place call.1 here hd has covering).place refl there.typed in
      slot_there p h (named_by w.graph w.at) (length w.graph.nodes) (sort p m (peek w.types.locals j)) (slot w.graph.locals j) n (λ unknown. sort_known p m of t t n ((flows_itself p checked.keeps (typing_at p id call.0)).locals j) typed (sym sorts ∙ unknown))
      (λ x named lt. not_both (is_gone (node_of w.graph x).standing) (λ gone.
      let later = gone_at (declared m hd.at) (handler_graph w.graph) j x known named gone in
      true≢false (sym later.2 ∙ there.lives later.0 later.1)))
      (subst (SlotFits p h (named_by w.graph w.at) (length w.graph.nodes) (sort p m (peek w.types.locals j)) (slot w.graph.locals j)) (ap (λ (ls : List Value). value_at ls j) ws.locals ∙ value_get a.locals j (Ref n) e) (fits.slots.in_locals j))

  -- what is live behind the call
  behind_there : (a : Activation) (w : Waiting) (gets gives : Option Ty) → Waits p (typing_at p) listed a w gets gives → WaitFits p h w → FrameFits p (typing_at p) wanted of (result_awaited gets) a → (j n : ℕ) → Live w.method j a.place → slice_get a.locals j ≡ Some (Ref n) → IsThere h n
  behind_there a w gets gives ws fits fit j n lives named =
      let f = typing_at p a.method a.place in
      let g = given_result p gets w.graph in
      let there = live_in a.method w.method ws.first ws.is ws.coded ws.begins a.place (canonical_at (declared w.method a.place) g) ws.reaches j lives in
      let typed = local_typed a (result_awaited gets) w.method ws.is fit j n lives there.typed named in
      let flows = becomes_flows (record w.types { stack = result_types gets ++ w.types.stack }) f (declared w.method a.place) ws.types in
      let has = becomes_typed (record w.types { stack = result_types gets ++ w.types.stack }) f (declared w.method a.place) j ws.types there.typed in
      slot_there p h (named_by w.graph w.at) (length w.graph.nodes) (sort p w.method (peek w.types.locals j)) (slot w.graph.locals j) n (sort_known p w.method of (peek w.types.locals j) (peek f.locals j) n (flows.locals j) typed)
      (λ x e lt. gone_later gets w.graph x lt (not_both (is_gone (node_of g x).standing) (λ gone.
      let later = gone_at (declared w.method a.place) g j x has (ap (λ (ls : List (Option ℕ)). slot ls j) (result_locals p gets w.graph) ∙ e) gone in
      true≢false (sym later.2 ∙ there.lives later.0 later.1))))
      (subst (SlotFits p h (named_by w.graph w.at) (length w.graph.nodes) (sort p w.method (peek w.types.locals j)) (slot w.graph.locals j)) (ap (λ (ls : List Value). value_at ls j) ws.locals ∙ value_get a.locals j (Ref n) named) (fits.slots.in_locals j))

  waiting_there : (a : Activation) (w : Waiting) (gets gives : Option Ty) → Waits p (typing_at p) listed a w gets gives → WaitFits p h w → FrameFits p (typing_at p) wanted of (result_awaited gets) a → StandsAtCall p (typing_at p) wanted of a → (n : ℕ) → LowerNames a n → IsThere h n
  waiting_there a w gets gives ws fits fit st n (inl names) =
      let f = typing_at p a.method a.place in
      let same = same_method fit.method w.method (method_at p a.method) fit.there ws.is in
      let flows = becomes_flows (record w.types { stack = result_types gets ++ w.types.stack }) f (declared w.method a.place) ws.types in
      let rest = rest_typed w.method gets w.types.stack f.stack a.stack flows.stack (subst (λ (z : Method). StackFits p z of (result_awaited gets) f.stack a.stack) same fit.stack) in
      let none = not_true _ ws.live in
      stack_there p w.method of h (named_by w.graph w.at) (length w.graph.nodes) w.types.stack rest.us w.graph.stack w.stack fits.slots.on_stack rest.flows (subst (λ (vs : List Value). have_types p w.method of rest.us vs ≡ true) (sym ws.stack) rest.typed)
      (λ k x e lt. let j = later_item p gets w.graph k in gone_later gets w.graph x lt (free_items (given_result p gets w.graph) (given_result p gets w.graph).stack none j.0 x (j.1 ∙ e))) n (subst (λ (vs : List Value). SomeNames vs n) (sym ws.stack) names)
  waiting_there a w gets gives ws fits fit st n (inr names) =
      let l = live_at (live.below a.method a.place) 0 a.locals n names in
      let number : 0 + l.0 ≡ l.0 = omega arith in
      elim (alive.1 a.method w.method a.place l.0 ws.is (subst (λ (k : ℕ). live.below a.method a.place k ≡ true) number l.1)) [
        | inl lives ↦ behind_there a w gets gives ws fits fit l.0 n lives l.2
        | inr lives ↦ caught_there a w gets gives ws fits st l.0 n lives l.2
      ]

  -- ---- all frames

  below_name : (kept : Option ℕ) (frames : List Activation) (ws : List Waiting) (gets fits : Option Ty) → fits ≡ gets → AllWaitFor p (typing_at p) listed kept frames ws gets → AllWait p h ws → BelowFit p (typing_at p) wanted of fits frames → (n : ℕ) → LowerName live frames n → IsThere h n
  below_name kept [] ws gets fits same waits all fit n names = absurd names
  below_name kept (a ∷ rest) [] gets fits same waits all fit n names = absurd waits
  below_name kept (a ∷ rest) (w ∷ ws) gets fits same waits all fit n names = by names (λ s. below_name kept rest ws waits.0 (result_of (method_at p a.method)) next waits.2 all.1 fit.2 n s)
    where
      here : FrameFits p (typing_at p) wanted of (result_awaited gets) a
      here = subst (λ (r : Option Ty). FrameFits p (typing_at p) wanted of (result_awaited r) a) same fit.0

      next : result_of (method_at p a.method) ≡ waits.0
      next = ap result_of waits.1.is ∙ waits.1.result

      by : SomeNames a.stack n ⊎ (LiveNames (live.below a.method a.place) 0 a.locals n ⊎ LowerName live rest n) → (LowerName live rest n → IsThere h n) → IsThere h n
      by (inl s) later = waiting_there a w gets waits.0 waits.1 all.0 here fit.1 n (inl s)
      by (inr (inl s)) later = waiting_there a w gets waits.0 waits.1 all.0 here fit.1 n (inr s)
      by (inr (inr s)) later = later s

  tree_there : (o : ℕ) → (trees p h).has o ≡ true → IsThere h o
  tree_there o has = by (get h o) refl has
    where
      by : (r : Option HeapObject) → get h o ≡ r → is_tree_object p r ≡ true → IsThere h o
      by None is e = absurd (true≢false (sym e))
      by (Some object) is e = (object, is)

  kept_there : (kept : Option ℕ) (frames : List Activation) (ws : List Waiting) (gets : Option Ty) (o : ℕ) → kept ≡ Some o → AllWaitFor p (typing_at p) listed kept frames ws gets → Frames IsPlace (trees p h) (map waiting_named ws) → IsThere h o
  kept_there kept [] ws gets o is waits fs =
      let all = subst (λ (z : List Waiting). Frames IsPlace (trees p h) (map waiting_named z)) (waits ∙ ap keepers is) fs in
      tree_there o (all.0.there 0 o (refl, refl))
  kept_there kept (a ∷ rest) [] gets o is waits fs = absurd waits
  kept_there kept (a ∷ rest) (w ∷ ws) gets o is waits fs = kept_there kept rest ws waits.0 o is waits.2 fs.2

  maybe_is : (kept : Option ℕ) (n : ℕ) → MaybeNames kept n → kept ≡ Some n
  maybe_is None n e = absurd e
  maybe_is (Some m) n e = ap (λ (k : ℕ). Some k) e

  pub reached : (kept : Option ℕ) (frames : List Activation) → FitsBoth p wanted of kept frames h → (n : ℕ) → FramesName live frames n ⊎ MaybeNames kept n → IsThere h n
  reached kept [] both n (inl names) = absurd names
  reached kept [] both n (inr is) = tree_there n (both.graphs.there n (maybe_is kept n is))
  reached kept (top ∷ frames) both n (inl names) = by names
    where
      by : SomeNames top.stack n ⊎ (LiveNames (live.top top.method top.place) 0 top.locals n ⊎ LowerName live frames n) → IsThere h n
      by (inl s) = top_there top both.graphs.below both.graphs.result both.graphs.top_fits both.types.frames.0 n (inl s)
      by (inr (inl s)) = top_there top both.graphs.below both.graphs.result both.graphs.top_fits both.types.frames.0 n (inr s)
      by (inr (inr s)) = below_name kept frames both.graphs.below both.graphs.result (result_of (method_at p top.method)) (ap result_of both.graphs.top_fits.is ∙ both.graphs.top_fits.gives) both.graphs.waits both.graphs.top_fits.stands.holds.waits both.types.frames.1 n s
  reached kept (top ∷ frames) both n (inr is) = kept_there kept frames both.graphs.below both.graphs.result n (maybe_is kept n is) both.graphs.waits both.graphs.top_fits.stands.holds.frames.2

  pub all_there : (kept : Option ℕ) (frames : List Activation) → FitsBoth p wanted of kept frames h → (n x : ℕ) → FramesName live frames n ⊎ MaybeNames kept n → Below h n x → IsThere h x
  all_there kept [] both n x names below = below_there p checked.keeps of h both.graphs.heap both.types.heap n (reached kept [] both n names) x below
  all_there kept (top ∷ frames) both n x names below = below_there p checked.keeps of h both.graphs.top_fits.stands.holds.heap both.types.heap n (reached kept (top ∷ frames) both n names) x below

pub reached_are_there : ReachedAreThere
reached_are_there p wanted live of kept frames h checked alive both n x names below = all_there p wanted live of h checked alive kept frames both n x names below

-- none is taken for live
none_live : Liveness
none_live = record { top = λ id at k. false; below = λ id at k. false }

items_there : (h : Objects) (vs : List Value) → ((n : ℕ) → SomeNames vs n → IsThere h n) → AreThere h vs
items_there h [] each = tt
items_there h (v ∷ vs) each = (by v (λ n e. each n (inl e)), items_there h vs (λ n s. each n (inr s)))
  where
    by : (v : Value) → ((n : ℕ) → NamesOne v n → IsThere h n) → fits.IsThere h v
    by (value.Ref n) there = there n refl
    by (value.Int x) there = tt
    by (value.Long x) there = tt
    by value.Null there = tt
    by (value.Text units) there = tt
    by (value.Box box) there = tt
    by value.Fiber there = tt

none_alive : (p : Program) → AreLive p none_live
unfolding none_live
none_alive p = (λ id m at k is e. absurd (true≢false (sym e)), λ id m at k is e. absurd (true≢false (sym e)))

pub top_stacks_are_there : TopStacksAreThere
top_stacks_are_there p wanted of kept top frames h checked both = items_there h top.stack (λ n names. reached p wanted none_live of h checked (none_alive p) kept (top ∷ frames) both n (inl (inl names)))
