use Rattle.std.proofs.Common.{◌≡◌, subst}
use Rattle.std.specs.Prelude.{IfOk}
use Rattle.kilim_class_file.specs.declared.class_file.ClassFile.{ClassFile}
use Rattle.kilim_weave_file.proofs.weaving.made.Goals as goal

pub returns-clause-made : goal.returns-clause-made
returns-clause-made c = subst (λ (whole : ClassFile). IfOk c.fitting.result (λ (f : ClassFile). f ≡ whole)) c.in-Ok-woven_file.ensures c.fitting.ensures.same
