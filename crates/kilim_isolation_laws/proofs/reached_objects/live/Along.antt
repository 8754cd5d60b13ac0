-- What holds of each graph that a path leads to a place.
use Rattle.std.proofs.Common.{◌≡◌, inl, inr, ℕ, zero, suc, Bool, true, false, true≢false, not, ◌&&◌, cond, List, [], ◌∷◌, ◌++◌, map, Option, Some, None, Result, Ok, Err, refl, sym, ap, subst, ◌∙◌}
use Rattle.std.specs.Prelude.{slice_get}
use Rattle.kilim_program.specs.declared.class.Handler.{Handler}
use Rattle.kilim_program.specs.declared.class.Method.{Method}
use Rattle.kilim_program.specs.declared.instr.Instr.{Instr}
use Rattle.kilim_program.specs.declared.instr.Instr.TheVariants.{Athrow}
use Rattle.kilim_program.specs.declared.verified.Frame.{Frame}
use Rattle.kilim_program.specs.Lengths.{ends_path, fetched, jump_targets}
use Rattle.kilim_program.specs.Program.{Program}
use Rattle.kilim_type_spec.specs.Typed.{Among, covers, declared, edges, reads}
use Rattle.kilim_type_laws.proofs.Tops.{passed}
use Rattle.kilim_isolation_paths.specs.declared.machine.Exit.{Exit}
use Rattle.kilim_isolation_paths.specs.declared.machine.Exit.TheVariants as exit
use Rattle.kilim_isolation_paths.specs.Paths.{ArrivesBy, Has, Leads, Reaches, target}
use Rattle.kilim_isolation_graph.specs.declared.graph.Graph.{Graph}
use Rattle.kilim_isolation_graph.specs.Canonical.{canonical_at}
use Rattle.kilim_isolation_graph.specs.Entry.{entry_nodes}
use Rattle.kilim_isolation_rules.specs.declared.deed.Deed.{Deed}
use Rattle.kilim_isolation_rules.specs.Rules.{judged, moves, raised_deed, to_handler}
use Rattle.kilim_isolation.specs.Walks.{canonical_of, declared_to, entry_graph, exits_at, exits_by, exits_of, exits_to, handled_at, is_throw, machine_of, step, step_by, types_at}
use Rattle.kilim_isolation_laws.proofs.reached_objects.graphs.FromSteps.{came, passed_to}
use Rattle.kilim_isolation_laws.proofs.reached_objects.live.Nodes.{IsClean, clean_at}

-- ---- exits

listed_among : (xs : List ℕ) (q k : ℕ) → slice_get (map (λ x. Some x) xs) k ≡ Some (Some q) → Among xs q
listed_among [] q k e = absurd (cc)
listed_among (x ∷ xs) q zero e = let same : x ≡ q = cc in inl same
listed_among (x ∷ xs) q (suc k) e = inr (listed_among xs q k e)

among_listed : (xs : List ℕ) (q : ℕ) → Among xs q → (k : ℕ) × (slice_get (map (λ x. Some x) xs) k ≡ Some (Some q))
among_listed [] q a = absurd a
among_listed (x ∷ xs) q (inl e) = (0, ap (λ z. Some (Some z)) e)
among_listed (x ∷ xs) q (inr a) = let later = among_listed xs q a in (suc later.0, later.1)

exit_among : (tos : List ℕ) (q : ℕ) → Has (exits_to tos) (Some q) → Among tos q
exit_among [] q (zero, e) = absurd (cc)
exit_among [] q (suc k, e) = absurd (cc)
exit_among (to ∷ tos) q (k, e) = listed_among (to ∷ tos) q k e

among_exit : (tos : List ℕ) (q : ℕ) → Among tos q → Has (exits_to tos) (Some q)
among_exit [] q a = absurd a
among_exit (to ∷ tos) q a = among_listed (to ∷ tos) q a

-- there is some exit
some_exit : (tos : List ℕ) → (to : Option ℕ) × Has (exits_to tos) to
some_exit [] = (None, (0, refl))
some_exit (to ∷ tos) = (Some to, (0, refl))

-- ---- of an instruction: `athrow` has none

no_edge : (i : Instr) (next q : ℕ) → is_throw i ≡ true → Among (edges i next) q → ⊥
unfolding ends_path jump_targets
no_edge Athrow next q e a = a
no_edge i next q e a = true≢false (sym e)

pub among_by : (i : Instr) (next q : ℕ) → Among (edges i next) q → Has (exits_by i next) (Some q)
among_by i next q a = by (is_throw i) refl
  where
    by : (b : Bool) → is_throw i ≡ b → Has (cond b [] (exits_to (edges i next))) (Some q)
    by true e = absurd (no_edge i next q e a)
    by false e = among_exit (edges i next) q a

done_by : (b : Bool) (xs : List (Option ℕ)) (to : Option ℕ) → Has (cond b [] xs) to → Has xs to
done_by true xs to (k, e) = absurd (cc)
done_by false xs to h = h

pub by_among : (i : Instr) (next q : ℕ) → Has (exits_by i next) (Some q) → Among (edges i next) q
by_among i next q h = exit_among (edges i next) q (done_by (is_throw i) (exits_to (edges i next)) (Some q) h)

pub some_by : (i : Instr) (next : ℕ) → is_throw i ≡ false → (to : Option ℕ) × Has (exits_by i next) to
some_by i next e = subst (λ (b : Bool). (to : Option ℕ) × Has (cond b [] (exits_to (edges i next))) to) (sym e) (some_exit (edges i next))

pub reader_goes : (i : Instr) (k : ℕ) → reads i k ≡ true → is_throw i ≡ false
reader_goes Athrow k e = absurd (true≢false (sym e))
reader_goes i k e = refl

has_leads : (xs : List (Option ℕ)) (ys : List Exit) (to : Option ℕ) → Has xs to → Has (map exit.To xs ++ ys) (exit.To to)
has_leads [] ys to (k, e) = absurd (cc)
has_leads (x ∷ xs) ys to (zero, e) = let same : x ≡ to = cc in (0, ap (λ z. Some (exit.To z)) same)
has_leads (x ∷ xs) ys to (suc k, e) = let later = has_leads xs ys to (k, e) in (suc later.0, later.1)

pub exit_at : (m : Method) (at next : ℕ) (i : Instr) (to : Option ℕ) → fetched m.code m.code_length at ≡ Some (i, next) → Has (exits_by i next) to → Has (exits_at m at) (exit.To to)
exit_at m at next i to is h = has_leads (exits_of (fetched m.code m.code_length at)) (handled_at m.handlers at) to (subst (λ (o : Option (Instr × ℕ)). Has (exits_of o) to) (sym is) h)

-- an exit leads to a next place, or to a handler whose range has the place
abbrev IsExit : List (Option ℕ) → List Handler → ℕ → Exit → Type 0
IsExit xs hs at (exit.To to) = Has xs to
IsExit xs hs at (exit.Handler q) = (h : Handler) × (h.at ≡ q) × Has hs h × (covers h at ≡ true)

handler_among : (hs : List Handler) (at : ℕ) (e : Exit) → Has (handled_at hs at) e → (h : Handler) × (exit.Handler h.at ≡ e) × Has hs h × (covers h at ≡ true)
handler_among [] at e (zero, is) = absurd (cc)
handler_among [] at e (suc k, is) = absurd (cc)
handler_among (h ∷ hs) at e has = by (covers h at) refl has (λ w. handler_among hs at e w)
  where
    here : (k : ℕ) → covers h at ≡ true → slice_get (exit.Handler h.at ∷ handled_at hs at) k ≡ Some e → (Has (handled_at hs at) e → (d : Handler) × (exit.Handler d.at ≡ e) × Has hs d × (covers d at ≡ true)) →
        (d : Handler) × (exit.Handler d.at ≡ e) × Has (h ∷ hs) d × (covers d at ≡ true)
    here zero c is again = let same : exit.Handler h.at ≡ e = cc in (h, same, (0, refl), c)
    here (suc k) c is again = let w = again (k, is) in (w.0, w.1, (suc w.2.0, w.2.1), w.3)

    by : (b : Bool) → covers h at ≡ b → Has (cond b (exit.Handler h.at ∷ handled_at hs at) (handled_at hs at)) e → (Has (handled_at hs at) e → (d : Handler) × (exit.Handler d.at ≡ e) × Has hs d × (covers d at ≡ true)) →
        (d : Handler) × (exit.Handler d.at ≡ e) × Has (h ∷ hs) d × (covers d at ≡ true)
    by true c (k, is) again = here k c is again
    by false c w again = let v = again w in (v.0, v.1, (suc v.2.0, v.2.1), v.3)

more_exits : (x : Option ℕ) (xs : List (Option ℕ)) (hs : List Handler) (at : ℕ) (e : Exit) → IsExit xs hs at e → IsExit (x ∷ xs) hs at e
more_exits x xs hs at (exit.To to) (k, is) = (suc k, is)
more_exits x xs hs at (exit.Handler q) w = w

handled_exit : (hs : List Handler) (at : ℕ) (e : Exit) → (h : Handler) × (exit.Handler h.at ≡ e) × Has hs h × (covers h at ≡ true) → IsExit [] hs at e
handled_exit hs at (exit.To to) (h, is, has, c) = absurd (cc)
handled_exit hs at (exit.Handler q) (h, is, has, c) = (h, (let same : h.at ≡ q = cc in same), has, c)

is_exit : (xs : List (Option ℕ)) (hs : List Handler) (at : ℕ) (e : Exit) → Has (map exit.To xs ++ handled_at hs at) e → IsExit xs hs at e
is_exit [] hs at e has = handled_exit hs at e (handler_among hs at e has)
is_exit (x ∷ xs) hs at e (zero, is) = let same : exit.To x ≡ e = cc in subst (IsExit (x ∷ xs) hs at) same (0, refl)
is_exit (x ∷ xs) hs at e (suc k, is) = more_exits x xs hs at e (is_exit xs hs at e (k, is))

-- ---- steps

-- the graph that a step leaves before its canonical form, and that no rule is broken by it
pub record BreaksNone (d : Deed) (g1 : Graph) : Type 0 where
  pub free : d.not_free ≡ false
  pub there : d.gone ≡ false
  pub graph : d.graph ≡ g1

not_true : (b : Bool) → not b ≡ true → b ≡ false
not_true false e = refl
not_true true e = absurd (cc)

the_graph : (g g1 : Graph) → (let r : Result Graph ℕ = Ok g in r) ≡ Ok g1 → g ≡ g1
the_graph g g1 e = cc

pub judged_none : (d : Deed) (flows : Bool) (g1 : Graph) → judged d flows ≡ Ok g1 → BreaksNone d g1
judged_none d flows g1 e =
    let one = passed 1 _ _ g1 e in
    let two = passed 2 _ _ g1 one.1 in
    let three = passed 3 _ _ g1 two.1 in
    let four = passed 4 _ _ g1 three.1 in
    let five = passed 5 _ _ g1 four.1 in
    let six = passed 6 _ _ g1 five.1 in
    let seven = passed 7 _ _ g1 six.1 in
    let nine = passed 9 _ _ g1 seven.1 in
    record { free = not_true d.not_free one.0; there = not_true d.gone two.0; graph = the_graph d.graph g1 nine.1 }

moved : (p : Program) (m : Method) (fs : List Frame) (at : ℕ) (g : Graph) (i : Instr) (to : Option ℕ) (r : Result Graph ℕ) (u : Graph) → moves p m g (types_at m fs at) i (declared_to m to) ≡ r → canonical_of (declared_to m to) r ≡ Ok u →
    (g1 : Graph) × (moves p m g (types_at m fs at) i (declared_to m to) ≡ Ok g1) × (canonical_at (declared_to m to) g1 ≡ u)
moved p m fs at g i to (Ok g1) u is e = (g1, is, the_graph (canonical_at (declared_to m to) g1) u e)
moved p m fs at g i to (Err n) u is e = absurd (cc)

pub stepped : (p : Program) (m : Method) (fs : List Frame) (at next : ℕ) (i : Instr) (g : Graph) (to : Option ℕ) (u : Graph) → fetched m.code m.code_length at ≡ Some (i, next) → step p m fs at g (exit.To to) ≡ Ok u →
    (g1 : Graph) × (moves p m g (types_at m fs at) i (declared_to m to) ≡ Ok g1) × (canonical_at (declared_to m to) g1 ≡ u)
unfolding step
stepped p m fs at next i g to u is e = moved p m fs at g i to (moves p m g (types_at m fs at) i (declared_to m to)) u refl (subst (λ (o : Option (Instr × ℕ)). step_by p m fs at g (exit.To to) o ≡ Ok u) is e)

-- the same, along the edge to a handler
pub raised_to : (p : Program) (m : Method) (fs : List Frame) (at next : ℕ) (i : Instr) (g : Graph) (q : ℕ) (u : Graph) → fetched m.code m.code_length at ≡ Some (i, next) → step p m fs at g (exit.Handler q) ≡ Ok u →
    u ≡ canonical_at (declared m q) (raised_deed p g (types_at m fs at) i).graph
unfolding step
raised_to p m fs at next i g q u is e =
    let c = came (declared m q) (to_handler p g (types_at m fs at) i (declared m q)) u (ap (step_by p m fs at g (exit.Handler q)) (sym is) ∙ e) in
    c.2 ∙ ap (canonical_at (declared m q)) (passed_to p g (types_at m fs at) i (declared m q) c.0 c.1).0

-- ---- paths

module _ (p : Program) (m : Method) (fs : List Frame) (first : Graph) where
  -- what one step keeps all keep
  pub record EachStep (P : ℕ → Graph → Type 0) : Type 0 where
    pub on : (at next q : ℕ) (i : Instr) (g g1 : Graph) → fetched m.code m.code_length at ≡ Some (i, next) → Among (edges i next) q → moves p m g (types_at m fs at) i (declared m q) ≡ Ok g1 → P at g → P q (canonical_at (declared m q) g1)
    pub caught : (at next : ℕ) (i : Instr) (h : Handler) (g : Graph) → fetched m.code m.code_length at ≡ Some (i, next) → Has m.handlers h → covers h at ≡ true → P at g → P h.at (canonical_at (declared m h.at) (raised_deed p g (types_at m fs at) i).graph)

  by_found : (P : ℕ → Graph → Type 0) → EachStep P → (at q : ℕ) (g u : Graph) (e : Exit) → target e ≡ Some q → (found : Option (Instr × ℕ)) → fetched m.code m.code_length at ≡ found → IsExit (exits_of found) m.handlers at e → step p m fs at g e ≡ Ok u → P at g → P q u
  unfolding step
  by_found P each at q g u (exit.To to) te None is (k, bad) goes here = absurd (cc)
  by_found P each at q g u (exit.Handler to) te None is has goes here = absurd (let bad = ap (step_by p m fs at g (exit.Handler to)) (sym is) ∙ goes in cc)
  by_found P each at q g u (exit.To to) te (Some found) is has goes here =
      let s = stepped p m fs at found.1 found.0 g (Some q) u is (subst (λ (z : Option ℕ). step p m fs at g (exit.To z) ≡ Ok u) te goes) in
      subst (P q) s.2 (each.on at found.1 q found.0 g s.0 is (by_among found.0 found.1 q (subst (λ (z : Option ℕ). Has (exits_by found.0 found.1) z) te has)) s.1 here)
  by_found P each at q g u (exit.Handler to) te (Some found) is (h, there, has, c) goes here =
      let same : h.at ≡ q = there ∙ (let w : to ≡ q = cc in w) in
      let arrived = raised_to p m fs at found.1 found.0 g to u is goes in
      subst (λ (z : ℕ). P z u) same (subst (P h.at) (ap (λ (z : ℕ). canonical_at (declared m z) (raised_deed p g (types_at m fs at) found.0).graph) there ∙ sym arrived) (each.caught at found.1 found.0 h g is has c here))

  one_step : (P : ℕ → Graph → Type 0) → EachStep P → (at q : ℕ) (g u : Graph) (e : Exit) → target e ≡ Some q → Has (exits_at m at) e → step p m fs at g e ≡ Ok u → P at g → P q u
  one_step P each at q g u e te has goes here =
      by_found P each at q g u e te (fetched m.code m.code_length at) refl (is_exit (exits_of (fetched m.code m.code_length at)) m.handlers at e has) goes here

  along : (P : ℕ → Graph → Type 0) → EachStep P → (rest : List ℕ) (at : ℕ) (g : Graph) (q : ℕ) (u : Graph) → Leads (machine_of p m fs first) at g rest q u → P at g → P q u
  along P each [] at g q u l here = subst (λ (z : ℕ). P z u) l.0 (subst (P at) l.1 here)
  along P each (n ∷ rest) at g q u (v, e, te, has, ok, way) here = along P each rest n v q u way (one_step P each at n g v e te has ok here)

  arrives : (P : ℕ → Graph → Type 0) → EachStep P → P 0 first → (path : List ℕ) (q : ℕ) (u : Graph) → ArrivesBy (machine_of p m fs first) path q u → P q u
  arrives P each begins [] q u a = absurd a
  arrives P each begins (x ∷ rest) q u a = along P each rest 0 first q u a.1 begins

  pub reached : (P : ℕ → Graph → Type 0) → EachStep P → P 0 first → (q : ℕ) (u : Graph) → Reaches (machine_of p m fs first) q u → P q u
  reached P each begins q u r = arrives P each begins r.0 q u r.1

  pub begins_with : entry_graph p m ≡ Ok first → canonical_at (declared m 0) (entry_nodes p m) ≡ first
  begins_with e = the_graph _ first (passed 6 _ _ first e).1

  -- each graph that is reached is in its canonical form
  pub clean : entry_graph p m ≡ Ok first → (q : ℕ) (u : Graph) → Reaches (machine_of p m fs first) q u → IsClean u
  clean e q u r = reached (λ at g. IsClean g) (record { on = λ at next to i g g1 is among goes here. clean_at (declared m to) g1; caught = λ at next i h g is has c here. clean_at (declared m h.at) (raised_deed p g (types_at m fs at) i).graph }) (subst IsClean (begins_with e) (clean_at (declared m 0) (entry_nodes p m))) q u r
