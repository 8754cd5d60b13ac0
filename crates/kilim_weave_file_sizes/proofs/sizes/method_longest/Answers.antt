use Rattle.std.proofs.Common.{ℕ, refl, List, sym, ap, ◌∙◌}
use Rattle.std.proofs.lemmas.List.{drop_all}
use Rattle.kilim_program.specs.declared.class.Method.{Method}
use Rattle.kilim_link_spec.specs.World.{method_descriptor}
use Rattle.kilim_weave_file_spec.specs.Sizes.{method_longest, larger, spelled_length}
use Rattle.kilim_weave_file_sizes.proofs.Loops.{passed}
use Rattle.kilim_weave_file_sizes.proofs.sizes.method_longest.Goals as goal

pub loop-method-preserved : goal.loop-method-preserved
loop-method-preserved c =
    passed (method_longest c.args.program.now) (λ (n : ℕ) (x : Method). larger (larger n (spelled_length x.name)) (spelled_length (method_descriptor c.args.program.now x))) (λ x xs n. refl) c.args.methods.now c.loop-method.method-index c.method-item.result _ c.loop-method.longest c.in-Ok.length
    (method_longest c.args.program.now c.args.methods.now c.args.least) c.loop-method-test.true c.method-item.is c.in-Ok.ensures c.loop-method.invariant

pub returns : goal.returns
returns c = ap (λ (xs : List Method). method_longest c.args.program.now xs c.loop-method.longest) (sym (drop_all c.loop-method.method-index c.args.methods.now c.loop-method-test.false)) ∙ c.loop-method.invariant
