use Rattle.std.proofs.Common.{ℕ, ap, ◌∙◌}
use Rattle.std.specs.Int.{w16}
use Rattle.std.proofs.lemmas.Bool.{ne_eqb}
use Rattle.kilim_class_grammar.specs.Reader.{number_at}
use Rattle.kilim_class_attributes.specs.declared.parts.frame.VerificationType.TheVariants.{Object, Uninitialized}
use Rattle.kilim_class_attributes.specs.declared.parts.index.EntryKind.TheVariants.{Class}
use Rattle.kilim_class_attributes.specs.parts.Frames.{ends, type_behind}
use Rattle.kilim_class_attributes.specs.parts.Indices.{index_at}
use Rattle.kilim_class_attributes.proofs.parts.Tags.{made_ok, made_err}
use Rattle.kilim_class_attributes.proofs.parts.FrameTags.{no_type}
use Rattle.kilim_class_attributes.proofs.parts.frame_reading.type_behind.Goals as goal

pub returns-then-tag-lt7 : goal.returns-then-tag-lt7
returns-then-tag-lt7 c = c.plain_type.ensures c.args.pool.now c.args.bytes.now

pub returns-in-Ok : goal.returns-in-Ok
unfolding type_behind
returns-in-Ok c = ap (λ (tag : ℕ). type_behind c.args.pool.now tag c.args.bytes.now) c.if-tag-eq7.true ∙ made_ok Object (index_at c.args.pool.now Class ends) c.args.bytes.now c.in-Ok.class c.in-Ok.rest.now c.in-Ok.ensures

pub returns-in-Err : goal.returns-in-Err
unfolding type_behind
returns-in-Err c = ap (λ (tag : ℕ). type_behind c.args.pool.now tag c.args.bytes.now) c.if-tag-eq7.true ∙ made_err Object (index_at c.args.pool.now Class ends) c.args.bytes.now c.in-Err.fault c.in-Err.ensures

pub returns-in-Ok-u16_at : goal.returns-in-Ok-u16_at
unfolding type_behind
returns-in-Ok-u16_at c = ap (λ (tag : ℕ). type_behind c.args.pool.now tag c.args.bytes.now) c.if-tag-eq8.true ∙ made_ok Uninitialized (number_at ends w16) c.args.bytes.now c.in-Ok-u16_at.place c.in-Ok-u16_at.rest.now c.in-Ok-u16_at.ensures

pub returns-in-Err-u16_at : goal.returns-in-Err-u16_at
unfolding type_behind
returns-in-Err-u16_at c = ap (λ (tag : ℕ). type_behind c.args.pool.now tag c.args.bytes.now) c.if-tag-eq8.true ∙ made_err Uninitialized (number_at ends w16) c.args.bytes.now c.in-Err-u16_at.fault c.in-Err-u16_at.ensures

pub returns-else-tag-eq8 : goal.returns-else-tag-eq8
returns-else-tag-eq8 c =
    no_type c.args.pool.now c.args.tag c.args.bytes.now c.if-tag-lt7.false (ne_eqb c.args.tag 7 c.if-tag-eq7.false) (ne_eqb c.args.tag 8 c.if-tag-eq8.false)
