use Rattle.std.proofs.Common.{◌≡◌, ℕ, true, List, take, subst, arith}
use Rattle.std.proofs.lemmas.List.{take_all}
use Rattle.kilim_type_spec.specs.Typed.{Among}
use Rattle.kilim_type_flow.specs.Marks.{Grown, is_marked}
use Rattle.kilim_type_flow.proofs.Growing.{no_growth, took}
use Rattle.kilim_type_flow.proofs.Lists.{among_at}
use Rattle.kilim_type_flow.proofs.column.spread.Goals as goal

pub visit_open-requires : goal.visit_open-requires
visit_open-requires c =
    let lt = c.requires c.number_at-place.result (among_at c.args.befores.now c.loop-at.at c.number_at-place.result c.number_at-place.ensures) in
    let s = c.loop-at.invariant.0.same in
    omega (arith, lt, s)

pub loop-at-init : goal.loop-at-init
loop-at-init c = (no_growth _ c.args.marks.now.items c.args.work.now.items, λ x h. absurd h)

pub loop-at-preserved : goal.loop-at-preserved
loop-at-preserved c =
    took c.args.befores.now c.args.passing.now c.loop-at.at c.number_at-place.result c.args.marks.now.items c.args.work.now.items c.loop-at.marks.items c.loop-at.work.items c.visit_open.new.marks.items c.visit_open.new.work.items
    c.number_at-place.ensures c.loop-at.invariant c.in-Ok.ensures.grown c.in-Ok.ensures.marked

pub returns : goal.returns
returns c =
    let whole : take c.loop-at.at c.args.befores.now ≡ c.args.befores.now = take_all c.loop-at.at c.args.befores.now (omega arith) in
    record {
      grown = subst (λ (bs : List ℕ). Grown (λ x. Among bs x × (is_marked c.args.passing.now x ≡ true)) c.args.marks.now.items c.args.work.now.items c.loop-at.marks.items c.loop-at.work.items) whole c.loop-at.invariant.0;
      all = subst (λ (bs : List ℕ). (x : ℕ) → Among bs x → is_marked c.args.passing.now x ≡ true → is_marked c.loop-at.marks.items x ≡ true) whole c.loop-at.invariant.1;
    }
