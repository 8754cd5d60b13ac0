use Rattle.std.proofs.Common.{sym, subst, ◌∙◌}
use Rattle.std.proofs.lemmas.Bool.{ne_eqb}
use Rattle.kilim_class_grammar.specs.Reader.{Reads}
use Rattle.kilim_class_pool.proofs.Tags.{single_is, paired_is, handle_is, none_is}
use Rattle.kilim_class_pool.proofs.reading.reference_at.Goals as goal

pub returns-then-is_single-clause-read : goal.returns-then-is_single-clause-read
returns-then-is_single-clause-read c =
    subst (Reads (λ x. (x.0, x.1.now)) c.single_at.result) (sym (single_is c.args.index c.args.tag c.args.bytes.now (sym c.is_single.ensures ∙ c.if-is_single.true))) c.single_at.ensures.read

pub returns-then-is_paired-clause-read : goal.returns-then-is_paired-clause-read
returns-then-is_paired-clause-read c =
    subst (Reads (λ x. (x.0, x.1.now)) c.paired_at.result) (sym (paired_is c.args.index c.args.tag c.args.bytes.now (sym c.is_paired.ensures ∙ c.if-is_paired.true))) c.paired_at.ensures.read

pub returns-then-tag-eq15-clause-read : goal.returns-then-tag-eq15-clause-read
returns-then-tag-eq15-clause-read c =
    subst (Reads (λ x. (x.0, x.1.now)) c.handle_at.result) (sym (handle_is c.args.index c.args.tag c.args.bytes.now c.if-tag-eq15.true)) c.handle_at.ensures.read

pub returns-else-tag-eq15-clause-read : goal.returns-else-tag-eq15-clause-read
returns-else-tag-eq15-clause-read c =
    none_is c.args.index c.args.tag c.args.bytes.now (sym c.is_single.ensures ∙ c.if-is_single.false) (sym c.is_paired.ensures ∙ c.if-is_paired.false) (ne_eqb c.args.tag 15 c.if-tag-eq15.false)
