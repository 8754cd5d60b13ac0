use Rattle.std.proofs.lemmas.List.Sums.{sum_by_more_le}
use Rattle.kilim_link_spec.specs.declared.view.ClassView.{ClassView}
use Rattle.std.proofs.lemmas.List.{take_all}
use Rattle.std.proofs.Common.{◌≡◌, ◌<◌, List, ℕ, length, get_or, take, refl, ap, ◌∙◌, arith}
use Rattle.std.specs.Prelude.{slice_get, sum_by}
use Rattle.std.specs.List.{position_from}
use Rattle.std.proofs.lemmas.Option.{slice_get-get_or}
use Rattle.kilim_link_spec.specs.declared.view.DeclaredField.{DeclaredField}
use Rattle.kilim_link_spec.specs.World.{is_field, fields_at}
use Rattle.kilim_link_inherited.specs.declared.said.Said.{Said}
use Rattle.kilim_link_inherited.specs.Nearest.{said_by, said_of}
use Rattle.kilim_link_world.specs.Agrees.{field_count, fields_before, placed}
use Rattle.kilim_link_world.proofs.Saying.{class_next, fields_next, length_next}
use Rattle.kilim_link_world.proofs.nearest.all_fields_said.Goals as goal

pub loop-i-preserved : goal.loop-i-preserved
loop-i-preserved c =
    let classes = c.args.classes.now in
    let i = c.loop-i.i in
    let lt : i < length classes = omega (arith, c.loop-i-test.true) in
    let at = get_or classes i c.index-classes-i.result in
    let is = slice_get-get_or classes i c.index-classes-i.result lt in
    let own = c.in-Ok.own in
    let first : c.loop-i.total ≡ fields_before classes i = c.loop-i.invariant.1.1.0 in
    let listed = c.as_slice-fields.ensures in
    let said_first : (name descriptor : List ℕ) → said_by own name descriptor ≡ placed (fields_before classes i) (position_from (is_field name descriptor) 0 at.fields) =
    λ name descriptor.
    c.in-Ok.ensures name descriptor
    ∙ (ap (λ (n : ℕ). placed n (position_from (is_field name descriptor) 0 c.as_slice-fields.result.now)) first
    ∙ ap (λ (ms : List DeclaredField). placed (fields_before classes i) (position_from (is_field name descriptor) 0 ms)) listed) in (
      omega (arith, c.loop-i-test.true),
      (
        length_next c.loop-i.said own c.push.new.self i c.in-Ok-push.ensures.ok c.loop-i.invariant.1.0,
        (
          fields_next classes i at c.loop-i.total is first (length c.as_slice-fields.result.now) (ap length listed),
          λ d name descriptor.
              ap (λ (ss : List (List Said)). said_of (slice_get ss d) name descriptor) c.in-Ok-push.ensures.ok
              ∙ class_next (is_field name descriptor) fields_at refl name descriptor (λ k. fields_before classes k) classes i at c.loop-i.said own is c.loop-i.invariant.1.0 (said_first name descriptor)
              (λ k. c.loop-i.invariant.1.1.1 k name descriptor) d,
        ),
      ),
    )

pub returns-clause-counted : goal.returns-clause-counted
returns-clause-counted c = omega (arith, c.loop-i-test.false, c.loop-i.invariant.0, c.loop-i.invariant.1.0)

pub returns-clause-said : goal.returns-clause-said
returns-clause-said c =
    let classes = c.args.classes.now in
    λ d name descriptor.
    c.loop-i.invariant.1.1.1 d.0 name descriptor
    ∙ ap (λ (vs : List ClassView). placed (fields_before classes d.0) (position_from (is_field name descriptor) 0 (fields_at (slice_get vs d.0)))) (take_all c.loop-i.i classes (omega (arith, c.loop-i-test.false)))

pub fields_said-requires : goal.fields_said-requires
fields_said-requires c =
    let classes = c.args.classes.now in
    let lt : c.loop-i.i < length classes = omega (arith, c.loop-i-test.true) in
    let fit = sum_by_more_le field_count classes c.loop-i.i c.index-classes-i.result lt in
    let few = c.requires in
    let so_far : c.loop-i.total ≡ fields_before classes c.loop-i.i = c.loop-i.invariant.1.1.0 in
    let own = ap length c.as_slice-fields.ensures in
    omega arith

pub overflow_cast-total : goal.overflow_cast-total
overflow_cast-total c =
    let classes = c.args.classes.now in
    let lt : c.loop-i.i < length classes = omega (arith, c.loop-i-test.true) in
    let fit = sum_by_more_le field_count classes c.loop-i.i c.index-classes-i.result lt in
    let few = c.requires in
    let so_far : c.loop-i.total ≡ fields_before classes c.loop-i.i = c.loop-i.invariant.1.1.0 in
    let own = ap length c.as_slice-fields.ensures in
    omega arith

pub overflow_add-total : goal.overflow_add-total
overflow_add-total c =
    let classes = c.args.classes.now in
    let lt : c.loop-i.i < length classes = omega (arith, c.loop-i-test.true) in
    let fit = sum_by_more_le field_count classes c.loop-i.i c.index-classes-i.result lt in
    let few = c.requires in
    let so_far : c.loop-i.total ≡ fields_before classes c.loop-i.i = c.loop-i.invariant.1.1.0 in
    let own = ap length c.as_slice-fields.ensures in
    omega arith
