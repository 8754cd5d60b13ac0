use Rattle.std.proofs.Common.{◌≡◌, ◌<◌, length, arith, refl, ◌∙◌, []}
use Rattle.std.proofs.Math.ListN.{length-set}
use Rattle.kilim_run_trees.specs.Walk.{value_refs, renamed_value}
use Rattle.kilim_run_trees.specs.Moved.{at_places}
use Rattle.kilim_run_trees.proofs.Numbering.{no_refs, number_none, number_next, number_end, still_inside, elements_pairs}
use Rattle.kilim_run_trees.proofs.put.rename_elements.Goals as goal

pub loop-k-init : goal.loop-k-init
loop-k-init c = record { numbering = number_none no_refs (λ v w. renamed_value (at_places c.args.places.now) v ≡ w) c.args.values.now.items []; same_length = refl }

pub rename_value-requires : goal.rename_value-requires
rename_value-requires c =
    let lt : c.loop-k.k < length c.loop-k.values.items = omega (arith, c.loop-k-test.true, c.loop-k.invariant.same_length, c.len-k-end.ensures, c.args.values.now.ok.0) in
    still_inside value_refs (λ n. n < length c.args.places.now) (λ v w. renamed_value (at_places c.args.places.now) v ≡ w) c.args.values.now.items c.loop-k.values.items c.loop-k.k c.index_mut-value.result.now c.index_mut-value.result.now c.loop-k.invariant.numbering lt c.loop-k.invariant.same_length c.index_mut-value.ensures.value c.requires

pub loop-k-preserved : goal.loop-k-preserved
loop-k-preserved c =
    let lt : c.loop-k.k < length c.loop-k.values.items = omega (arith, c.loop-k-test.true, c.loop-k.invariant.same_length, c.len-k-end.ensures, c.args.values.now.ok.0) in
    record {
      numbering = number_next no_refs (λ v w. renamed_value (at_places c.args.places.now) v ≡ w) c.args.values.now.items c.loop-k.values.items _ [] [] [] c.loop-k.k c.index_mut-value.result.now c.rename_value.new.value c.index_mut-value.result.now c.loop-k.invariant.numbering lt c.index_mut-value.ensures.value c.rename_value.ensures refl refl;
      same_length = length-set c.loop-k.values.items c.loop-k.k c.rename_value.new.value ∙ c.loop-k.invariant.same_length;
    }

pub returns : goal.returns
returns c = elements_pairs (at_places c.args.places.now) c.args.values.now.items c.loop-k.values.items (number_end no_refs (λ v w. renamed_value (at_places c.args.places.now) v ≡ w) c.args.values.now.items c.loop-k.values.items [] [] c.loop-k.k c.loop-k.invariant.numbering (omega arith)).0
