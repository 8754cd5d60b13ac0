use Rattle.std.proofs.Common.{◌≡◌, ℕ, sym, subst, ap, ◌∙◌, inr}
use Rattle.std.proofs.lemmas.Bool.{ne_eqb}
use Rattle.kilim_class_grammar.specs.Reader.{ReadsUnless, made}
use Rattle.kilim_class_attributes.specs.declared.parts.fault.AttributeFault.TheVariants.{Memory}
use Rattle.kilim_class_attributes.specs.declared.parts.frame.Frame.TheVariants.{Append}
use Rattle.kilim_class_attributes.specs.parts.Frames.{appended_at, frame_behind}
use Rattle.kilim_class_attributes.proofs.parts.FrameTags.{same_is, item_is, no_frame, chop_is, append_is, full_is}
use Rattle.kilim_class_attributes.proofs.parts.frame_reading.frame_behind.Goals as goal

pub returns-then-tag-lt64 : goal.returns-then-tag-lt64
returns-then-tag-lt64 c = same_is c.args.pool.now c.args.tag c.args.bytes.now c.if-tag-lt64.true

pub returns-then-tag-lt128 : goal.returns-then-tag-lt128
returns-then-tag-lt128 c = subst (ReadsUnless Memory (λ x. (x.0, x.1.now)) c.item_at.result) (sym (item_is c.args.pool.now c.args.tag c.args.bytes.now c.if-tag-lt64.false c.if-tag-lt128.true)) c.item_at.ensures

pub returns-then-tag-lt247 : goal.returns-then-tag-lt247
returns-then-tag-lt247 c = inr (no_frame c.args.pool.now c.args.tag c.args.bytes.now c.if-tag-lt64.false c.if-tag-lt128.false c.if-tag-lt247.true)

pub returns-then-tag-eq247 : goal.returns-then-tag-eq247
unfolding frame_behind
returns-then-tag-eq247 c = subst (ReadsUnless Memory (λ x. (x.0, x.1.now)) c.extended_item_at.result) (sym (ap (λ (tag : ℕ). frame_behind c.args.pool.now tag c.args.bytes.now) c.if-tag-eq247.true)) c.extended_item_at.ensures

pub returns-then-tag-lt251 : goal.returns-then-tag-lt251
returns-then-tag-lt251 c = subst (ReadsUnless Memory (λ x. (x.0, x.1.now)) c.chop_at.result) (sym (chop_is c.args.pool.now c.args.tag c.args.bytes.now c.if-tag-lt64.false c.if-tag-lt128.false c.if-tag-lt247.false (ne_eqb c.args.tag 247 c.if-tag-eq247.false) c.if-tag-lt251.true)) c.chop_at.ensures

pub returns-then-tag-eq251 : goal.returns-then-tag-eq251
unfolding frame_behind
returns-then-tag-eq251 c = subst (ReadsUnless Memory (λ x. (x.0, x.1.now)) c.same_extended_at.result) (sym (ap (λ (tag : ℕ). frame_behind c.args.pool.now tag c.args.bytes.now) c.if-tag-eq251.true)) c.same_extended_at.ensures

pub returns-then-tag-lt255 : goal.returns-then-tag-lt255
returns-then-tag-lt255 c =
    let made_of : frame_behind c.args.pool.now c.args.tag c.args.bytes.now ≡ made (λ x. Append x.0 x.1) (appended_at c.args.pool.now c.from.result) c.args.bytes.now =
    append_is c.args.pool.now c.args.tag c.args.bytes.now c.if-tag-lt64.false c.if-tag-lt128.false c.if-tag-lt247.false (ne_eqb c.args.tag 247 c.if-tag-eq247.false) c.if-tag-lt251.false (ne_eqb c.args.tag 251 c.if-tag-eq251.false) c.if-tag-lt255.true ∙ ap (λ (n : ℕ). made (λ x. Append x.0 x.1) (appended_at c.args.pool.now n) c.args.bytes.now) (sym c.from.ensures) in
    subst (ReadsUnless Memory (λ x. (x.0, x.1.now)) c.append_at.result) (sym made_of) c.append_at.ensures

pub returns-else-tag-lt255 : goal.returns-else-tag-lt255
returns-else-tag-lt255 c = subst (ReadsUnless Memory (λ x. (x.0, x.1.now)) c.full_at.result) (sym (full_is c.args.pool.now c.args.tag c.args.bytes.now c.if-tag-lt64.false c.if-tag-lt128.false c.if-tag-lt247.false (ne_eqb c.args.tag 247 c.if-tag-eq247.false) c.if-tag-lt251.false (ne_eqb c.args.tag 251 c.if-tag-eq251.false) c.if-tag-lt255.false)) c.full_at.ensures
