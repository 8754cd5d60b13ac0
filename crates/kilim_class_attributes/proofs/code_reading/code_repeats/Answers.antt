use Rattle.std.proofs.Common.{◌∙◌, ap, sym}
use Rattle.std.proofs.lemmas.List.{drop_all}
use Rattle.std.specs.List.{list_any}
use Rattle.kilim_class_attributes.specs.declared.attribute.CodeAttribute.{CodeAttribute}
use Rattle.kilim_class_attributes.specs.Codes.{code_info_is}
use Rattle.kilim_class_attributes.proofs.Any.{found_at, passed_at}
use Rattle.kilim_class_attributes.proofs.code_reading.code_repeats.Goals as goal

pub returns-then-is_of : goal.returns-then-is_of
returns-then-is_of c =
    found_at (λ (a : CodeAttribute). code_info_is c.args.form a.info) c.args.before.now c.loop-attribute.attribute-index c.attribute-item.result c.is_of.result
    c.loop-attribute-test.true c.attribute-item.is c.is_of.ensures c.loop-attribute.invariant c.if-is_of.true

pub loop-attribute-preserved : goal.loop-attribute-preserved
loop-attribute-preserved c =
    passed_at (λ (a : CodeAttribute). code_info_is c.args.form a.info) c.args.before.now c.loop-attribute.attribute-index c.attribute-item.result c.is_of.result
    c.loop-attribute-test.true c.attribute-item.is c.is_of.ensures c.loop-attribute.invariant c.if-is_of.false

pub returns : goal.returns
returns c = ap (list_any (λ (a : CodeAttribute). code_info_is c.args.form a.info)) (sym (drop_all c.loop-attribute.attribute-index c.args.before.now c.loop-attribute-test.false)) ∙ c.loop-attribute.invariant
