-- A local that is live names nothing that was given away: a slot that does so names it until it is written, and the first
-- instruction that reads it would break a rule.
use Rattle.std.proofs.Common.{◌≡◌, ℕ, Bool, true, false, eqb, refl, ap, sym, ◌∙◌, subst, true≢false, List, Option, Some, None, Ok}
use Rattle.std.specs.Prelude.{nat_lt}
use Rattle.std.proofs.lemmas.Bool.{and_parts, eqb-true}
use Rattle.kilim_program.specs.declared.class.Handler.{Handler}
use Rattle.kilim_program.specs.declared.class.Method.{Method}
use Rattle.kilim_program.specs.declared.instr.Instr.{Instr}
use Rattle.kilim_program.specs.declared.instr.Instr.TheVariants.{Iload, Lload, Aload, Iinc}
use Rattle.kilim_program.specs.declared.names.MethodId.{MethodId}
use Rattle.kilim_program.specs.declared.verified.Frame.{Frame}
use Rattle.kilim_program.specs.declared.verified.VType.{VType}
use Rattle.kilim_program.specs.declared.verified.VType.TheVariants.{Top, Int, Long, Null, UninitThis, Uninit, Object}
use Rattle.kilim_program.specs.Lengths.{fetched, is_code_place}
use Rattle.kilim_program.specs.Program.{Program}
use Rattle.kilim_type_spec.specs.Step.{Types, Operand, Is, Loads, Adds, by_row, is_top, meets, peek, row, type_step}
use Rattle.kilim_type_spec.specs.Typed.{Among, Catches, GoesOn, Live, ReadsIt, covers, declared, edges, entry, reads}
use Rattle.kilim_type_laws.specs.Laws.{Lands}
use Rattle.kilim_type_laws.proofs.Edges.{edges_flow, handlers_flow, stands_at}
use Rattle.kilim_type_laws.proofs.Handlers.{entry_at}
use Rattle.kilim_type_laws.proofs.Lives.{live_is_typed}
use Rattle.kilim_type_laws.proofs.Tops.{passed, top_flows}
use Rattle.kilim_isolation_paths.specs.declared.machine.Exit.TheVariants as exit
use Rattle.kilim_isolation_paths.specs.Paths.{Has, Reaches}
use Rattle.kilim_isolation_paths.proofs.Accepted.{reaches_more}
use Rattle.kilim_isolation_graph.specs.declared.graph.Graph.{Graph}
use Rattle.kilim_isolation_graph.specs.Canonical.{canonical_at}
use Rattle.kilim_isolation_graph.specs.Entry.{entry_nodes}
use Rattle.kilim_isolation_graph.specs.Graphs.{node_of, slot}
use Rattle.kilim_isolation_graph.specs.Nodes.{is_gone}
use Rattle.kilim_isolation_rules.specs.Marks.{names_gone}
use Rattle.kilim_isolation_rules.specs.Rules.{any_flow_mixes, deed, left_by, moves, raised_deed}
use Rattle.kilim_isolation.specs.Walks.{declared_to, exits_at, exits_by, handled_at, machine_of, types_at}
use Rattle.kilim_isolation_laws.specs.reached_objects.live.Laws.{IsAcceptedBy, IsThere, IsThereBelow, LiveBelowIsThere, LiveIsThere, NamedIsNoNumber, is_number}
use Rattle.kilim_isolation_laws.proofs.reached_objects.live.Along.{BreaksNone, among_by, begins_with, clean, exit_at, judged_none, raised_to, reached, reader_goes, some_by, stepped}
use Rattle.kilim_isolation_laws.proofs.reached_objects.graphs.FromSteps.{handles_has, has_behind}
use Rattle.kilim_isolation_laws.proofs.reached_objects.live.Entry.{entry_named}
use Rattle.kilim_isolation_laws.proofs.reached_objects.live.Gone.{deed_stays, raised_stays}
use Rattle.kilim_isolation_laws.proofs.reached_objects.live.Locals.{named_no_number, raised_locals, slot_stays}
use Rattle.kilim_isolation_laws.proofs.reached_objects.live.Nodes.{HasType, gone_at, named_at}
use Rattle.kilim_isolation_laws.proofs.reached_objects.live.Places.{declared_is, entry_here, number_flows, number_here}

not_both : (b : Bool) → (b ≡ true → ⊥) → b ≡ false
not_both true no_true = absurd (no_true refl)
not_both false no_true = refl

module _ (p : Program) (id : MethodId) (m : Method) (typing : ℕ → Types) (fs : List Frame) (a : IsAcceptedBy p id m typing fs) where
  -- an instruction at a graph that is reached, on the way to an exit: it breaks no rule, by the types over which the rules walk
  pub record Passes (at : ℕ) (i : Instr) (g : Graph) (to : Option ℕ) : Type 0 where
    pub moves_on : moves p m g (types_at m fs at) i (declared_to m to) ≡ Ok (deed p m g (types_at m fs at) i).graph
    pub breaks_none : BreaksNone (deed p m g (types_at m fs at) i) (deed p m g (types_at m fs at) i).graph
    pub comes : (q : ℕ) → to ≡ Some q → Reaches (machine_of p m fs a.goes.first) q (canonical_at (declared m q) (deed p m g (types_at m fs at) i).graph)

  pub passes : (at next : ℕ) (i : Instr) (g : Graph) (to : Option ℕ) → Reaches (machine_of p m fs a.goes.first) at g → fetched m.code m.code_length at ≡ Some (i, next) → Has (exits_by i next) to → Passes at i g to
  unfolding moves
  passes at next i g to r is out =
      let goes = a.goes.goes at g (exit.To to) r (exit_at m at next i to is out) in
      let s = stepped p m fs at next i g to goes.0 is goes.1 in
      let b = judged_none (deed p m g (types_at m fs at) i) (any_flow_mixes p (left_by p m i (types_at m fs at)) (declared_to m to)) s.0 s.1 in
      record {
        moves_on = s.1 ∙ ap (λ (z : Graph). Ok z) (sym b.graph);
        breaks_none = record { free = b.free; there = b.there; graph = refl };
        comes = λ q e. subst (λ (z : Graph). Reaches (machine_of p m fs a.goes.first) q z) (sym (ap (canonical_at (declared m q)) b.graph ∙ (ap (λ (o : Option ℕ). canonical_at (declared_to m o) s.0) (sym e) ∙ s.2)))
            (reaches_more (machine_of p m fs a.goes.first) at g (exit.To to) q goes.0 r e (exit_at m at next i to is out) goes.1);
      }

  -- the graph along a handler's edge is reached
  pub comes_to : (at next : ℕ) (i : Instr) (g : Graph) (h : Handler) → Reaches (machine_of p m fs a.goes.first) at g → fetched m.code m.code_length at ≡ Some (i, next) → Has m.handlers h → covers h at ≡ true →
      Reaches (machine_of p m fs a.goes.first) h.at (canonical_at (declared m h.at) (raised_deed p g (types_at m fs at) i).graph)
  comes_to at next i g h r is has covering =
      let out : Has (exits_at m at) (exit.Handler h.at) = has_behind _ (handled_at m.handlers at) (exit.Handler h.at) (handles_has m.handlers at h has covering) in
      let goes = a.goes.goes at g (exit.Handler h.at) r out in
      subst (λ (z : Graph). Reaches (machine_of p m fs a.goes.first) h.at z) (raised_to p m fs at next i g h.at goes.0 is goes.1)
      (reaches_more (machine_of p m fs a.goes.first) at g (exit.Handler h.at) h.at goes.0 r refl out goes.1)

  -- each local before an instruction flows into the frame at its handler
  pub lands : (at next : ℕ) (i : Instr) → fetched m.code m.code_length at ≡ Some (i, next) → (h : Handler) → Has m.handlers h → covers h at ≡ true → Lands p m typing at h
  lands at next i is h has covering = handlers_flow p a.keeps m typing a.well at next has.0 i h is has.1 covering

  -- ---- names and numbers

  abbrev AreNamed : ℕ → Graph → Type 0
  AreNamed at g = (k n : ℕ) → slot g.locals k ≡ Some n → is_number (peek (typing at).locals k) ≡ false

  first_named : AreNamed 0 a.goes.first
  first_named k n e =
      let b = named_at (declared m 0) (entry_nodes p m) k n (ap (λ (z : Graph). slot z.locals k) (begins_with p m fs a.goes.first a.goes.begins) ∙ e) in
      not_both (is_number (peek (typing 0).locals k)) (λ t.
      true≢false (sym (number_here p (entry m) (typing 0) (declared m 0) k (entry_here p a.keeps id m typing a.is a.coded a.well) t) ∙ entry_named p m k b.0 b.1))

  next_named : (at next q : ℕ) (i : Instr) (g g1 : Graph) → fetched m.code m.code_length at ≡ Some (i, next) → Among (edges i next) q → moves p m g (types_at m fs at) i (declared m q) ≡ Ok g1 → AreNamed at g → AreNamed q (canonical_at (declared m q) g1)
  unfolding moves
  next_named at next q i g g1 is among goes here k n e =
      let d = judged_none (deed p m g (types_at m fs at) i) (any_flow_mixes p (left_by p m i (types_at m fs at)) (declared m q)) g1 goes in
      let b = named_at (declared m q) g1 k n e in
      let flow = edges_flow p a.keeps m typing a.well at next q i is among in
      let left = named_no_number p m at i g (types_at m fs at) (typing at) flow.left flow.step here k b.0 (ap (λ (z : Graph). slot z.locals k) d.graph ∙ b.1) in
      not_both (is_number (peek (typing q).locals k)) (λ t. true≢false (sym (number_flows p (peek flow.left.locals k) (peek (typing q).locals k) (flow.flows.locals k) t) ∙ left))

  caught_named : (at next : ℕ) (i : Instr) (h : Handler) (g : Graph) → fetched m.code m.code_length at ≡ Some (i, next) → Has m.handlers h → covers h at ≡ true → AreNamed at g → AreNamed h.at (canonical_at (declared m h.at) (raised_deed p g (types_at m fs at) i).graph)
  caught_named at next i h g is has covering here k n e =
      let b = named_at (declared m h.at) (raised_deed p g (types_at m fs at) i).graph k n e in
      let flow = (lands at next i is h has covering).flows in
      let before = here k b.0 (ap (λ ls. slot ls k) (sym (raised_locals p g (types_at m fs at) i)) ∙ b.1) in
      not_both (is_number (peek (typing h.at).locals k)) (λ t. true≢false (sym (number_flows p (peek (typing at).locals k) (peek (typing h.at).locals k) (flow.locals k) t) ∙ before))

  pub named : (at : ℕ) (g : Graph) → Reaches (machine_of p m fs a.goes.first) at g → AreNamed at g
  named at g r = reached p m fs a.goes.first AreNamed (record { on = next_named; caught = caught_named }) first_named at g r

  -- ---- live locals

  Lives : ℕ → Graph → Type 0
  Lives k g = (n : ℕ) → slot g.locals k ≡ Some n → is_gone (node_of g n).standing ≡ false

  an_int : (t : VType) → meets p (Is Int) t ≡ true → is_number t ≡ true
  unfolding meets
  an_int Int e = refl
  an_int Top e = absurd (true≢false (sym e))
  an_int Long e = absurd (true≢false (sym e))
  an_int Null e = absurd (true≢false (sym e))
  an_int UninitThis e = absurd (true≢false (sym e))
  an_int (Uninit at) e = absurd (true≢false (sym e))
  an_int (Object ty) e = absurd (true≢false (sym e))

  a_long : (t : VType) → meets p (Is Long) t ≡ true → is_number t ≡ true
  unfolding meets
  a_long Long e = refl
  a_long Top e = absurd (true≢false (sym e))
  a_long Int e = absurd (true≢false (sym e))
  a_long Null e = absurd (true≢false (sym e))
  a_long UninitThis e = absurd (true≢false (sym e))
  a_long (Uninit at) e = absurd (true≢false (sym e))
  a_long (Object ty) e = absurd (true≢false (sym e))

  number_loaded : (at j k : ℕ) (o : Operand) (left : Types) → ((t : VType) → meets p o t ≡ true → is_number t ≡ true) → by_row p m at (Loads o j) (typing at) ≡ Ok left → eqb j k ≡ true → is_number (peek (typing at).locals k) ≡ true
  number_loaded at j k o left firm e same =
      let one = passed 4 _ _ left e in
      let two = passed 6 _ _ left one.1 in
      subst (λ (z : ℕ). is_number (peek (typing at).locals z) ≡ true) (eqb-true j k same) (firm (peek (typing at).locals j) (and_parts (nat_lt j m.max_locals) (meets p o (peek (typing at).locals j)) two.0).1)

  number_added : (at j k : ℕ) (left : Types) → by_row p m at (Adds j) (typing at) ≡ Ok left → eqb j k ≡ true → is_number (peek (typing at).locals k) ≡ true
  number_added at j k left e same =
      let one = passed 6 _ _ left e in
      subst (λ (z : ℕ). is_number (peek (typing at).locals z) ≡ true) (eqb-true j k same) (an_int (peek (typing at).locals j) (and_parts (nat_lt j m.max_locals) (meets p (Is Int) (peek (typing at).locals j)) one.0).1)

  -- what an instruction reads names nothing that is gone
  read_lives : (at k : ℕ) (i : Instr) (g : Graph) (seen left : Types) → reads i k ≡ true → type_step p m at i (typing at) ≡ Ok left → (deed p m g seen i).gone ≡ false → AreNamed at g → Lives k g
  unfolding Lives deed row
  read_lives at k (Aload j) g seen left r t there are n e = ap (names_gone g) (sym e) ∙ subst (λ (z : ℕ). names_gone g (slot g.locals z) ≡ false) (eqb-true j k r) there
  read_lives at k (Iload j) g seen left r t there are n e = absurd (true≢false (sym (number_loaded at j k (Is Int) left an_int t r) ∙ are k n e))
  read_lives at k (Lload j) g seen left r t there are n e = absurd (true≢false (sym (number_loaded at j k (Is Long) left a_long t r) ∙ are k n e))
  read_lives at k (Iinc j by) g seen left r t there are n e = absurd (true≢false (sym (number_added at j k left t r) ∙ are k n e))
  read_lives at k i g seen left r t there are n e = absurd (true≢false (sym r))

  pub has_type : (q k : ℕ) (o : Option Types) → is_code_place m.code q ≡ true → declared m q ≡ o → is_top (peek (typing q).locals k) ≡ false → HasType o k
  has_type q k None place is typed = tt
  has_type q k (Some d) place is typed = ap (λ (z : Types). is_top (peek z.locals k)) (sym (declared_is p m typing a.well q d place is)) ∙ typed

  -- What is live at a handler isn't gone where the instruction raises: there it would stay gone.
  caught_lives : (k x next : ℕ) (i : Instr) (g : Graph) (h : Handler) → Reaches (machine_of p m fs a.goes.first) x g → fetched m.code m.code_length x ≡ Some (i, next) → Has m.handlers h → covers h x ≡ true → is_top (peek (typing h.at).locals k) ≡ false →
      ((u : Graph) → Reaches (machine_of p m fs a.goes.first) h.at u → Lives k u) → Lives k (raised_deed p g (types_at m fs x) i).graph
  unfolding Lives
  caught_lives k x next i g h r is has covering typed behind n e =
      let raised = (raised_deed p g (types_at m fs x) i).graph in
      let there = behind (canonical_at (declared m h.at) raised) (comes_to x next i g h r is has covering) in
      not_both (is_gone (node_of raised n).standing) (λ gone.
      let later = gone_at (declared m h.at) raised k n (has_type h.at k (declared m h.at) (lands x next i is h has covering).place refl typed) e gone in
      true≢false (sym later.2 ∙ there later.0 later.1))

  live_lives : (k at : ℕ) → Live m k at → (g : Graph) → Reaches (machine_of p m fs a.goes.first) at g → Lives k g
  unfolding Lives
  live_lives k at (ReadsIt x next i is read) g r n e =
      let s = stands_at p a.keeps m typing a.well x i next is in
      let out = some_by i next (reader_goes i k read) in
      let w = passes x next i g out.0 r is out.1 in
      read_lives x k i g (types_at m fs x) s.after read s.step w.breaks_none.there (named x g r) n e
  live_lives k at (GoesOn x next q i is unwritten among live) g r n e =
      let clean_here = clean p m fs a.goes.first a.goes.begins x g r in
      let w = passes x next i g (Some q) r is (among_by i next q among) in
      let behind = live_lives k q live (canonical_at (declared m q) (deed p m g (types_at m fs x) i).graph) (w.comes q refl) in
      let flow = edges_flow p a.keeps m typing a.well x next q i is among in
      let typed = has_type q k (declared m q) flow.place refl (live_is_typed p a.keeps m typing a.well k q live) in
      let kept = deed_stays p m g (types_at m fs x) i clean_here.held w.breaks_none.free in
      not_both (is_gone (node_of g n).standing) (λ gone.
      let later = gone_at (declared m q) (deed p m g (types_at m fs x) i).graph k n typed (slot_stays p m g (types_at m fs x) i k unwritten ∙ e) (kept.gone n (clean_here.within k n e) gone) in
      true≢false (sym later.2 ∙ behind later.0 later.1))
  live_lives k at (Catches x next q i is among live) g r n e =
      let clean_here = clean p m fs a.goes.first a.goes.begins x g r in
      let kept = raised_stays p g (types_at m fs x) i in
      let en = entry_at m.handlers x q among in
      let typed = ap (λ (z : ℕ). is_top (peek (typing z).locals k)) en.leads ∙ live_is_typed p a.keeps m typing a.well k q live in
      let lives = caught_lives k x next i g en.entry r is (en.n, en.there) en.covering typed (λ u reached. live_lives k q live u (subst (λ (z : ℕ). Reaches (machine_of p m fs a.goes.first) z u) en.leads reached)) in
      not_both (is_gone (node_of g n).standing) (λ gone.
      true≢false (sym (kept.gone n (clean_here.within k n e) gone) ∙ lives n (ap (λ ls. slot ls k) (raised_locals p g (types_at m fs x) i) ∙ e)))

  pub live_there : (k at : ℕ) → Live m k at → (g : Graph) → Reaches (machine_of p m fs a.goes.first) at g → IsThere typing k at g
  unfolding Lives
  live_there k at live g r = record { typed = live_is_typed p a.keeps m typing a.well k at live; lives = live_lives k at live g r }

  pub live_there_below : (at to : ℕ) (i : Instr) → fetched m.code m.code_length at ≡ Some (i, to) → (h : Handler) → Has m.handlers h → covers h at ≡ true → (k : ℕ) → Live m k h.at → (g : Graph) → Reaches (machine_of p m fs a.goes.first) at g → IsThereBelow p m typing fs k at i g
  unfolding Lives
  live_there_below at to i is h has covering k live g r = record {
    typed = not_both (is_top (peek (typing at).locals k)) (λ top. true≢false (sym (top_flows p _ _ ((lands at to i is h has covering).flows.locals k) top) ∙ live_is_typed p a.keeps m typing a.well k h.at live));
    lives = caught_lives k at to i g h r is has covering (live_is_typed p a.keeps m typing a.well k h.at live) (λ u reached. live_lives k h.at live u reached);
  }

pub live_is_there : LiveIsThere
live_is_there p id m typing fs a k at live g r = live_there p id m typing fs a k at live g r

pub named_is_no_number : NamedIsNoNumber
named_is_no_number p id m typing fs a at g r k n e = named p id m typing fs a at g r k n e

pub live_below_is_there : LiveBelowIsThere
live_below_is_there p id m typing fs a at to i is h has covering k live g r = live_there_below p id m typing fs a at to i is h has covering k live g r
