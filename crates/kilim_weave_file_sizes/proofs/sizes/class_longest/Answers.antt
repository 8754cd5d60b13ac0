use Rattle.std.proofs.Common.{ℕ, refl, ap, ◌∙◌, List, sym}
use Rattle.std.proofs.lemmas.List.{drop_all}
use Rattle.kilim_program.specs.declared.class.Class.{Class}
use Rattle.kilim_weave_file_spec.specs.Sizes.{class_longest, larger, spelled_length}
use Rattle.kilim_weave_file_sizes.proofs.Loops.{passed}
use Rattle.kilim_weave_file_sizes.proofs.sizes.class_longest.Goals as goal

pub loop-class-preserved : goal.loop-class-preserved
loop-class-preserved c =
    passed class_longest (λ (n : ℕ) (x : Class). larger n (spelled_length x.name)) (λ x xs n. refl) c.args.classes.now c.loop-class.class-index c.class-item.result _ c.loop-class.longest c.larger-longest.result
    (class_longest c.args.classes.now c.args.least) c.loop-class-test.true c.class-item.is (c.larger-longest.ensures ∙ ap (λ (k : ℕ). larger c.loop-class.longest k) c.in-Ok.ensures) c.loop-class.invariant

pub returns : goal.returns
returns c = ap (λ (xs : List Class). class_longest xs c.loop-class.longest) (sym (drop_all c.loop-class.class-index c.args.classes.now c.loop-class-test.false)) ∙ c.loop-class.invariant
