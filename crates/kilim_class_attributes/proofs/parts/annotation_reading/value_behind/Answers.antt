use Rattle.std.proofs.Common.{sym, ◌∙◌}
use Rattle.std.proofs.lemmas.Bool.{ne_eqb}
use Rattle.kilim_class_attributes.proofs.parts.Tags.{constant_ok, constant_err, enum_ok, enum_err, class_ok, class_err, nested_ok, array_ok, array_err, unknown}
use Rattle.kilim_class_attributes.proofs.parts.annotation_reading.value_behind.Goals as goal

pub returns-in-Ok : goal.returns-in-Ok
returns-in-Ok c = constant_ok c.args.pool.now c.args.ends c.args.tag c.args.bytes.now c.constant_kind.result (sym c.is_constant_tag.ensures ∙ c.if-is_constant_tag.true) c.constant_kind.ensures c.in-Ok.index c.in-Ok.rest.now c.in-Ok.ensures

pub returns-in-Err : goal.returns-in-Err
returns-in-Err c = constant_err c.args.pool.now c.args.ends c.args.tag c.args.bytes.now c.constant_kind.result (sym c.is_constant_tag.ensures ∙ c.if-is_constant_tag.true) c.constant_kind.ensures c.in-Err.fault c.in-Err.ensures

pub returns-in-Ok-two_texts_at : goal.returns-in-Ok-two_texts_at
returns-in-Ok-two_texts_at c = enum_ok c.args.pool.now c.args.ends c.args.tag c.args.bytes.now c.if-tag-eq101.true c.in-Ok-two_texts_at.class c.in-Ok-two_texts_at.name c.in-Ok-two_texts_at.rest.now c.in-Ok-two_texts_at.ensures

pub returns-in-Err-two_texts_at : goal.returns-in-Err-two_texts_at
returns-in-Err-two_texts_at c = enum_err c.args.pool.now c.args.ends c.args.tag c.args.bytes.now c.if-tag-eq101.true c.in-Err-two_texts_at.fault c.in-Err-two_texts_at.ensures

pub returns-in-Ok-index_at : goal.returns-in-Ok-index_at
returns-in-Ok-index_at c = class_ok c.args.pool.now c.args.ends c.args.tag c.args.bytes.now c.if-tag-eq99.true c.in-Ok-index_at.descriptor c.in-Ok-index_at.rest.now c.in-Ok-index_at.ensures

pub returns-in-Err-index_at : goal.returns-in-Err-index_at
returns-in-Err-index_at c = class_err c.args.pool.now c.args.ends c.args.tag c.args.bytes.now c.if-tag-eq99.true c.in-Err-index_at.fault c.in-Err-index_at.ensures

pub returns-then-tag-eq64 : goal.returns-then-tag-eq64
returns-then-tag-eq64 c = nested_ok c.args.pool.now c.args.ends c.args.tag c.args.bytes.now c.if-tag-eq64.true

pub returns-in-Ok-u16_at : goal.returns-in-Ok-u16_at
returns-in-Ok-u16_at c = array_ok c.args.pool.now c.args.ends c.args.tag c.args.bytes.now c.if-tag-eq91.true c.in-Ok-u16_at.count c.in-Ok-u16_at.rest.now c.in-Ok-u16_at.ensures

pub returns-in-Err-u16_at : goal.returns-in-Err-u16_at
returns-in-Err-u16_at c = array_err c.args.pool.now c.args.ends c.args.tag c.args.bytes.now c.if-tag-eq91.true c.in-Err-u16_at.fault c.in-Err-u16_at.ensures

pub returns-else-tag-eq91 : goal.returns-else-tag-eq91
returns-else-tag-eq91 c =
    unknown c.args.pool.now c.args.ends c.args.tag c.args.bytes.now (sym c.is_constant_tag.ensures ∙ c.if-is_constant_tag.false)
    (ne_eqb c.args.tag 101 c.if-tag-eq101.false) (ne_eqb c.args.tag 99 c.if-tag-eq99.false) (ne_eqb c.args.tag 64 c.if-tag-eq64.false) (ne_eqb c.args.tag 91 c.if-tag-eq91.false)
