use Rattle.std.proofs.Common.{arith, ◌≡◌, sym, true≢false, length, None, subst, Option}
use Rattle.std.specs.Prelude.{IsSome}
use Rattle.kilim_program.specs.declared.value.Value.{Value}
use Rattle.kilim_program.specs.declared.value.Value.TheVariants.{Null}
use Rattle.kilim_run_state.proofs.Fields.{not_before_none, not_before_more, place_found, found_nowhere}
use Rattle.kilim_run_state.proofs.heap.place_of.Goals as goal

pub loop-i-init : goal.loop-i-init
loop-i-init c v = not_before_none c.args.fields.now c.args.field v

pub returns-then-fields-i : goal.returns-then-fields-i
returns-then-fields-i c = place_found c.args.fields.now c.args.field c.loop-i.i c.index-fields-i.result c.loop-i.invariant c.loop-i-test.true c.if-fields-i.true

pub loop-i-preserved : goal.loop-i-preserved
loop-i-preserved c v = not_before_more c.args.fields.now c.args.field v c.loop-i.i c.index-fields-i.result (c.loop-i.invariant v) c.loop-i-test.true c.if-fields-i.false

pub unreachable-requires : goal.unreachable-requires
unreachable-requires c =
    let at_end : c.loop-i.i ≡ length c.args.fields.now = omega (arith, c.loop-i-test.false, c.loop-i.auto.i-end) in
    let none = (found_nowhere c.args.fields.now c.args.field Null c.loop-i.i (c.loop-i.invariant Null) at_end).0 in
    let nothing : Option Value = None in
    let bad : IsSome nothing = subst (λ (x : Option Value). IsSome x) none c.requires in true≢false (sym bad)
