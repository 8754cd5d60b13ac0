-- A built-in method that verified code asks gets arguments that it takes.
use Rattle.std.proofs.Common.{◌≡◌, cond, eqb, ℕ, Bool, true, false, List, [], ◌∷◌, Option, Some, refl, sym, ap, subst, ◌∙◌}
use Rattle.std.proofs.lemmas.Bool.{false≢true}
use Rattle.kilim_program.specs.declared.class.Method.{Method}
use Rattle.kilim_program.specs.declared.instr.Instr.{Instr}
use Rattle.kilim_program.specs.Lengths.{fetched, first_place}
use Rattle.kilim_program.specs.Names.{◌>>=◌, method_at}
use Rattle.kilim_type_sound.specs.Sound.{EffectFits, NativeFits, native_types}
use Rattle.kilim_type_sound.specs.Fits.{have_types}
use Rattle.kilim_type_sound.proofs.Grounds.{facts_hold}
use Rattle.kilim_type_sound.proofs.Narrowed.{narrows}
use Rattle.kilim_type_sound.proofs.Table.{table_fits}
use Rattle.kilim_type_sound.proofs.Walk.{stands_at}
use Rattle.kilim_run_machine.specs.Does.{does}
use Rattle.kilim_run_machine.specs.Effect.{Asks, Effect}
use Rattle.kilim_run_machine.specs.Natives.{Native, native_method, native_of}
use Rattle.kilim_type_spec.specs.Step.{made_at, made_by}
use Rattle.kilim_type_spec.specs.Typed.{edges}
use Rattle.kilim_fiber_laws.proofs.courses.answers.Asked.{AsksWell, Asked, rows}
use Rattle.kilim_fiber_laws.proofs.courses.answers.Deeds.{does_so, is_lost, raised_so}
use Rattle.kilim_fiber_laws.proofs.courses.answers.Table.{answers}
use Rattle.kilim_fiber_laws.specs.courses.answers.Law.{NativesAnswer}
use Rattle.kilim_fiber_laws.proofs.courses.Receives.{receives_typed}
use Rattle.kilim_fiber_spec.specs.Acts.{asks, with_heap}
use Rattle.kilim_fiber_spec.specs.Thread.{At, Run, Stop, code_in, own_in, push, raised_behind}

-- places of `new`
made_there : (es : List (ℕ × Instr)) (end at : ℕ) (i : Instr) (next : ℕ) → fetched es end at ≡ Some (i, next) → made_at es at ≡ made_by i
made_there [] end at i next e = absurd (cc)
made_there (x ∷ es) end at i next e = by (eqb x.0 at) e (made_there es end at i next)
  where
    by : (z : Bool) → cond z (Some (x.1, first_place es end)) (fetched es end at) ≡ Some (i, next) → (fetched es end at ≡ Some (i, next) → made_at es at ≡ made_by i) → cond z (made_by x.1) (made_at es at) ≡ made_by i
    by true e again = let pair : (x.1, first_place es end) ≡ (i, next) = cc in ap (λ (y : Instr × ℕ). made_by y.0) pair
    by false e again = again e

same : {A : Type 0} (o : Option A) (x y : A) → o ≡ Some x → o ≡ Some y → x ≡ y
same o x y e f = cc

pub natives_answer : NativesAnswer
natives_answer set typing wanted is of m p to q i l s l2 s2 args x b w heap c top fits there f d =
    let own : fetched top.method.code top.method.code_length p ≡ Some (i, to) = ap (λ (o : Option Method). code_in o p) (sym top.there) ∙ f in
    let at = stands_at set.program top.method (typing m) (is.verified.typed m top.method top.there top.code) p i to own in
    let mine : does set.program top.method i to l s w.heap ≡ Asks c args q l2 s2 heap = ap (λ (o : Option Method). does set.program (own_in o) i to l s w.heap) (sym top.there) ∙ d in
    let effect = table_fits set.program (facts_hold set.program is.keeps) narrows top.method of w.heap fits (wanted m) p to (typing m p) at.after l s i
    (record { wants = is.verified.wants m top.method top.there p (i, to) own; locals = top.locals; stack = top.stack; there = there }) (made_there top.method.code top.method.code_length p i to own)
    (is.verified.proper m top.method top.there p (i, to) own) at.step in
    let native : NativeFits set.program top.method of (wanted m) to l w.heap (edges i to) at.after c args q l2 s2 heap = subst (λ (z : Effect). EffectFits set.program top.method of (wanted m) to l w.heap (edges i to) at.after z) mine effect in
    let asked : (k : Method) × (method_at set.program c ≡ Some k) × AsksWell set.program w.heap k args =
    subst (λ (z : Effect). Asked set.program w.heap z) mine
    (rows set.program is.keeps is.form of w.heap fits top.method to l s there m top.there top.code p (typing m p) at.after i at.step
    (receives_typed set.program (facts_hold set.program is.keeps).order top.method of w.heap fits p i (typing m p) at.after s top.stack at.step)) in
    let one = same (method_at set.program c) native.callee asked.0 native.there asked.1 in
    let r = answers set.program is.keeps is.form of w.heap fits c asked.0 asked.1 (subst (λ (k : Method). k.built_in ≡ true) one native.built_in) args asked.2 (subst (λ (k : Method). have_types set.program k of (native_types k) args ≡ true) one native.arguments) in
    let known : native_of set.program c ≡ Some r.0 = ap (λ (o : Option Method). o >>= native_method set.program) asked.1 ∙ r.1 in
    λ e. false≢true (sym (subst (λ (o : Option Native). is_lost (asks set (with_heap w heap) Stop (λ after v. Run m q l2 (push v s2) x b after) (raised_behind set (At m q l2 s2 x ∷ b) (with_heap w heap)) o args) ≡ false) (sym known) (does_so set (with_heap w heap) (λ after v. Run m q l2 (push v s2) x b after) (λ after v. refl) (raised_behind set (At m q l2 s2 x ∷ b) (with_heap w heap)) (raised_so set (At m q l2 s2 x ∷ b) (with_heap w heap)) r.0 args r.2)) ∙ ap is_lost e)
