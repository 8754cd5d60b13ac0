use Rattle.std.proofs.lemmas.List.Sums.{sum_by_more_le}
use Rattle.std.proofs.Common.{◌<◌, length, get_or, take, arith, ◌≡◌, ◌+◌, ℕ, ap, ◌∙◌}
use Rattle.std.specs.Prelude.{sum_by}
use Rattle.std.proofs.lemmas.Option.{slice_get-get_or}
use Rattle.kilim_link_world.specs.Agrees.{field_count, each_below, fields_before}
use Rattle.kilim_link_world.proofs.Below.{one_more}
use Rattle.kilim_link_world.proofs.Saying.{fields_next}
use Rattle.kilim_link_world.proofs.members.field_firsts.Goals as goal

pub loop-i-preserved : goal.loop-i-preserved
loop-i-preserved c =
    let classes = c.args.classes.now in
    let i = c.loop-i.i in
    let lt : i < length classes = omega (arith, c.loop-i-test.true) in
    let at = get_or classes i c.index-classes-i.result in
    let is = slice_get-get_or classes i c.index-classes-i.result lt in (
      omega (arith, c.loop-i-test.true),
      fields_next classes i at c.loop-i.total is c.loop-i.invariant.1 c.len.result c.len.ensures,
      one_more (λ n. fields_before classes n) c.loop-i.firsts c.push.new.self i c.loop-i.total c.loop-i.invariant.2 c.loop-i.invariant.1 c.in-Ok.ensures.ok,
    )

pub returns : goal.returns
returns c =
    let classes = c.args.classes.now in
    let first = λ (n : ℕ). fields_before classes n in
    let at_end : c.loop-i.i ≡ length classes = omega (arith, c.loop-i-test.false, c.loop-i.invariant.0) in
    one_more first c.loop-i.firsts _ c.loop-i.i c.loop-i.total c.loop-i.invariant.2 c.loop-i.invariant.1 c.in-Ok-push.ensures.ok
    ∙ ap (λ (n : ℕ). each_below first (n + 1)) at_end

pub overflow_cast-total : goal.overflow_cast-total
overflow_cast-total c =
    let classes = c.args.classes.now in
    let lt : c.loop-i.i < length classes = omega (arith, c.loop-i-test.true) in
    let fit = sum_by_more_le field_count classes c.loop-i.i c.index-classes-i.result lt in
    let few = c.requires in
    let so_far : c.loop-i.total ≡ fields_before classes c.loop-i.i = c.loop-i.invariant.1 in
    let own = c.len.ensures in
    omega arith

pub overflow_add-total : goal.overflow_add-total
overflow_add-total c =
    let classes = c.args.classes.now in
    let lt : c.loop-i.i < length classes = omega (arith, c.loop-i-test.true) in
    let fit = sum_by_more_le field_count classes c.loop-i.i c.index-classes-i.result lt in
    let few = c.requires in
    let so_far : c.loop-i.total ≡ fields_before classes c.loop-i.i = c.loop-i.invariant.1 in
    let own = c.len.ensures in
    omega arith
