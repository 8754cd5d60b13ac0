use Rattle.std.proofs.Common.{ℕ, refl, List, sym, ap, ◌∙◌}
use Rattle.std.proofs.lemmas.List.{drop_all}
use Rattle.kilim_program.specs.declared.class.Field.{Field}
use Rattle.kilim_program.specs.Names.{descriptor}
use Rattle.kilim_weave_file_spec.specs.Sizes.{field_longest, larger, spelled_length}
use Rattle.kilim_weave_file_sizes.proofs.Loops.{passed}
use Rattle.kilim_weave_file_sizes.proofs.sizes.field_longest.Goals as goal

pub loop-field-preserved : goal.loop-field-preserved
loop-field-preserved c =
    passed (field_longest c.args.program.now) (λ (n : ℕ) (x : Field). larger (larger n (spelled_length x.name)) (spelled_length (descriptor c.args.program.now x.ty))) (λ x xs n. refl) c.args.fields.now c.loop-field.field-index c.field-item.result _ c.loop-field.longest c.in-Ok.length
    (field_longest c.args.program.now c.args.fields.now c.args.least) c.loop-field-test.true c.field-item.is c.in-Ok.ensures c.loop-field.invariant

pub returns : goal.returns
returns c = ap (λ (xs : List Field). field_longest c.args.program.now xs c.loop-field.longest) (sym (drop_all c.loop-field.field-index c.args.fields.now c.loop-field-test.false)) ∙ c.loop-field.invariant
