use Rattle.std.proofs.Common.{◌∙◌, ap, sym}
use Rattle.std.proofs.lemmas.List.{drop_all}
use Rattle.kilim_class_attributes.specs.declared.attribute.Attribute.{Attribute}
use Rattle.kilim_class_file.specs.Parts.{has_code, is_code}
use Rattle.kilim_class_file.proofs.Loops.{found_at, passed_at}
use Rattle.kilim_class_file.proofs.members.has_code.Goals as goal

pub returns-then-is_code : goal.returns-then-is_code
returns-then-is_code c =
    found_at (λ (a : Attribute). is_code a.info) c.args.attributes.now c.loop-attribute.attribute-index c.attribute-item.result c.is_code.result
    c.loop-attribute-test.true c.attribute-item.is c.is_code.ensures c.loop-attribute.invariant c.if-is_code.true

pub loop-attribute-preserved : goal.loop-attribute-preserved
loop-attribute-preserved c =
    passed_at (λ (a : Attribute). is_code a.info) c.args.attributes.now c.loop-attribute.attribute-index c.attribute-item.result c.is_code.result
    c.loop-attribute-test.true c.attribute-item.is c.is_code.ensures c.loop-attribute.invariant c.if-is_code.false

pub returns : goal.returns
returns c = ap has_code (sym (drop_all c.loop-attribute.attribute-index c.args.attributes.now c.loop-attribute-test.false)) ∙ c.loop-attribute.invariant
