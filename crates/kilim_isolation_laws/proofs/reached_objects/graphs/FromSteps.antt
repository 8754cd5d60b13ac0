-- What a handler's edge needs, from the steps along it: the paths go on, and verification's rule on handlers holds.
use Rattle.std.proofs.Common.{◌≡◌, ℕ, zero, suc, Bool, true, false, not, ◌&&◌, ◌||◌, cond, List, [], ◌∷◌, ◌++◌, map, Option, Some, None, refl, sym, ap, subst, ◌∙◌}
use Rattle.std.specs.Prelude.{Result, Ok, Err}
use Rattle.kilim_program.specs.declared.class.Handler.{Handler}
use Rattle.kilim_program.specs.declared.class.Method.{Method}
use Rattle.kilim_program.specs.declared.instr.Instr.{Instr}
use Rattle.kilim_program.specs.declared.instr.Instr.TheVariants.{Invokespecial, Invokestatic, Invokevirtual}
use Rattle.kilim_program.specs.declared.names.ClassId.{ClassId}
use Rattle.kilim_program.specs.declared.verified.Frame.{Frame}
use Rattle.kilim_program.specs.declared.verified.VType.{VType}
use Rattle.kilim_program.specs.Lengths.{fetched}
use Rattle.kilim_program.specs.Names.{method_at}
use Rattle.kilim_program.specs.Program.{Program}
use Rattle.kilim_type_spec.specs.Step.{Types, class_vtype}
use Rattle.kilim_type_spec.specs.Typed.{covers, declared}
use Rattle.kilim_isolation_graph.specs.declared.graph.Graph.{Graph}
use Rattle.kilim_isolation_graph.specs.Canonical.{canonical_at}
use Rattle.kilim_isolation_rules.specs.declared.deed.Deed.{Deed}
use Rattle.kilim_isolation_rules.specs.Calls.{call_raises}
use Rattle.kilim_isolation_rules.specs.Marks.{any_mixes, flow_mixes, is_private, is_tree, mixes, stack_lives}
use Rattle.kilim_isolation_rules.specs.Rules.{locals_mix, raised_deed, to_handler}
use Rattle.kilim_isolation_paths.specs.declared.machine.Exit.{Exit}
use Rattle.kilim_isolation_paths.specs.declared.machine.Exit.TheVariants as exit
use Rattle.kilim_isolation_paths.specs.Paths.{Has, Reaches}
use Rattle.kilim_isolation_paths.proofs.Accepted.{reaches_more}
use Rattle.kilim_run_machine.specs.Raising.{catches_class, is_throwable}
use Rattle.kilim_isolation.specs.Walks.{canonical_of, exits_at, handled_at, machine_of, step, step_by, types_at}
use Rattle.kilim_isolation_laws.specs.reached_objects.graphs.Threads.{Becomes, Handled}
use Rattle.kilim_isolation_laws.proofs.graph_rows.Passed.{ok_is, rule_passed}
use Rattle.kilim_isolation_laws.proofs.graph_rows.Settle.{not_true, or_right}
use Rattle.kilim_isolation_laws.proofs.reached_objects.walk.Agree.{AgreeLocals}
use Rattle.kilim_isolation_laws.proofs.reached_objects.walk.Same.{mixes_agree}

-- ---- the exit to a handler

pub has_behind : {X : Type 0} (xs ys : List X) (x : X) → Has ys x → Has (xs ++ ys) x
has_behind [] ys x w = w
has_behind (y ∷ xs) ys x w = let r = has_behind xs ys x w in (suc r.0, r.1)

pub handles_has : (hs : List Handler) (at : ℕ) (hd : Handler) → Has hs hd → covers hd at ≡ true → Has (handled_at hs at) (exit.Handler hd.at)
handles_has [] at hd (zero, e) c = absurd (cc)
handles_has [] at hd (suc k, e) c = absurd (cc)
handles_has (h ∷ hs) at hd (zero, e) c = first (covers h at) refl
  where
    same : h ≡ hd
    same = cc

    first : (b : Bool) → covers h at ≡ b → Has (cond b (exit.Handler h.at ∷ handled_at hs at) (handled_at hs at)) (exit.Handler hd.at)
    first true is = (0, ap (λ (z : Handler). Some (exit.Handler z.at)) same)
    first false is = absurd (let a = ap (λ z. covers z at) same ∙ c in let b = sym is ∙ a in cc)
handles_has (h ∷ hs) at hd (suc k, e) c = later (covers h at) (handles_has hs at hd (k, e) c)
  where
    later : (b : Bool) → Has (handled_at hs at) (exit.Handler hd.at) → Has (cond b (exit.Handler h.at ∷ handled_at hs at) (handled_at hs at)) (exit.Handler hd.at)
    later true w = (suc w.0, w.1)
    later false w = w

-- ---- what a step that passes says

pub passed_to : (p : Program) (g : Graph) (f : Types) (i : Instr) (after : Option Types) (g1 : Graph) → to_handler p g f i after ≡ Ok g1 → (g1 ≡ (raised_deed p g f i).graph) × (locals_mix p f after ≡ false)
unfolding to_handler
passed_to p g f i after g1 e =
    let d = raised_deed p g f i in
    let r1 = rule_passed 1 (not d.not_free) _ g1 e in
    let r2 = rule_passed 2 (not d.gone) _ g1 r1.1 in
    let r3 = rule_passed 3 (not d.safe_changed) _ g1 r2.1 in
    let r4 = rule_passed 4 (not d.cycle) _ g1 r3.1 in
    let r5 = rule_passed 5 (not d.shared) _ g1 r4.1 in
    let r6 = rule_passed 6 (not (d.mixed || locals_mix p f after)) _ g1 r5.1 in
    let r7 = rule_passed 7 (not d.not_cuttable) _ g1 r6.1 in
    let r9 = rule_passed 9 (stack_lives d.graph) _ g1 r7.1 in
    (ok_is d.graph g1 r9.1, or_right d.mixed (locals_mix p f after) (not_true (d.mixed || locals_mix p f after) r6.0))

-- the same, in the canonical form
pub came : (after : Option Types) (r : Result Graph ℕ) (g2 : Graph) → canonical_of after r ≡ Ok g2 → (g1 : Graph) × (r ≡ Ok g1) × (g2 ≡ canonical_at after g1)
came after (Ok g) g2 e = (g, refl, ok_is (canonical_at after g) g2 e)
came after (Err n) g2 e = absurd (cc)

or_same : (a b : Bool) → a ≡ false → b ≡ false → (a || b) ≡ false
or_same true b e f = absurd (cc)
or_same false b e f = f

private_alone : (p : Program) (t : VType) (ds : List VType) → is_tree p t ≡ false → any_mixes p (t ∷ []) ds ≡ false
private_alone p t [] e = refl
private_alone p t (d ∷ ds) e = or_same (mixes p t d) false (ap (λ (b : Bool). b && is_private p d) e) refl

-- ---- a handler

-- only the types on the stack are seen
raised_same : (p : Program) (g : Graph) (f seen : Types) (i : Instr) → f.stack ≡ seen.stack → raised_deed p g f i ≡ raised_deed p g seen i
unfolding raised_deed
raised_same p g f seen (Invokevirtual id) e = ap (λ (ts : List VType). call_raises p g ts (method_at p id)) e
raised_same p g f seen (Invokespecial id) e = ap (λ (ts : List VType). call_raises p g ts (method_at p id)) e
raised_same p g f seen (Invokestatic id) e = ap (λ (ts : List VType). call_raises p g ts (method_at p id)) e
raised_same p g f seen i e = refl

pub handled_from : (p : Program) (m : Method) (typing : ℕ → Types) (fs : List Frame) (first : Graph) → ((c : ClassId) → is_throwable p c ≡ true → is_tree p (class_vtype c) ≡ false) →
    (at : ℕ) (g : Graph) → AgreeLocals (typing at).locals (types_at m fs at).locals → (typing at).stack ≡ (types_at m fs at).stack → Reaches (machine_of p m fs first) at g →
    ((e : Exit) → Has (exits_at m at) e → (next : Graph) × (step p m fs at g e ≡ Ok next)) → (i : Instr) (next : ℕ) → fetched m.code m.code_length at ≡ Some (i, next) → (hd : Handler) → Has m.handlers hd → covers hd at ≡ true →
    ((c : ClassId) → is_throwable p c ≡ true → catches_class p hd.catch c ≡ true → Becomes p (record (typing at) { stack = class_vtype c ∷ [] }) (declared m hd.at) (typing hd.at)) →
    Handled p m typing fs first (typing at) (raised_deed p g (typing at) i).graph hd
unfolding step
handled_from p m typing fs first private at g locals stack reaches goes i next here hd among covering flows =
    let out : Has (exits_at m at) (exit.Handler hd.at) = has_behind _ (handled_at m.handlers at) (exit.Handler hd.at) (handles_has m.handlers at hd among covering) in
    let w = goes (exit.Handler hd.at) out in
    let e : canonical_of (declared m hd.at) (to_handler p g (types_at m fs at) i (declared m hd.at)) ≡ Ok w.0 = ap (step_by p m fs at g (exit.Handler hd.at)) (sym here) ∙ w.1 in
    let c = came (declared m hd.at) (to_handler p g (types_at m fs at) i (declared m hd.at)) w.0 e in
    let passed = passed_to p g (types_at m fs at) i (declared m hd.at) c.0 c.1 in
    let graph : c.0 ≡ (raised_deed p g (typing at) i).graph = passed.0 ∙ ap (λ (d : Deed). d.graph) (sym (raised_same p g (typing at) (types_at m fs at) i stack)) in
    record {
      reaches = subst (λ z. Reaches (machine_of p m fs first) hd.at (canonical_at (declared m hd.at) z)) graph
          (subst (λ z. Reaches (machine_of p m fs first) hd.at z) c.2 (reaches_more (machine_of p m fs first) at g (exit.Handler hd.at) hd.at w.0 reaches refl out w.1));
      types = flows;
      flow = λ k throwable d is. or_same (any_mixes p (typing at).locals d.locals) (any_mixes p (class_vtype k ∷ []) d.stack)
          (mixes_agree p (typing at).locals (types_at m fs at).locals d.locals locals ∙ (ap (locals_mix p (types_at m fs at)) (sym is) ∙ passed.1)) (private_alone p (class_vtype k) d.stack (private k throwable));
    }
