use Rattle.std.proofs.Common.{◌≡◌, true, sym, ◌∙◌}
use Rattle.kilim_type_spec.specs.Typed.{reads}
use Rattle.kilim_type_flow.proofs.Growing.{no_growth, grown_as, both_ways}
use Rattle.kilim_type_flow.proofs.column.visit_read.Goals as goal

pub returns-then-reads-clause-grown : goal.returns-then-reads-clause-grown
returns-then-reads-clause-grown c =
    grown_as (λ x. x ≡ c.args.entry.now.0) (λ x. (x ≡ c.args.entry.now.0) × (reads c.args.entry.now.1 c.args.local ≡ true)) _ _ _ _
    (λ x e. (e, sym c.reads.ensures ∙ c.if-reads.true)) c.in-Ok.ensures.grown

pub returns-then-reads-clause-marked : goal.returns-then-reads-clause-marked
returns-then-reads-clause-marked c h = c.in-Ok.ensures.marked

pub returns-clause-grown : goal.returns-clause-grown
returns-clause-grown c = no_growth (λ x. (x ≡ c.args.entry.now.0) × (reads c.args.entry.now.1 c.args.local ≡ true)) c.args.marks.now.items c.args.work.now.items

pub returns-clause-marked : goal.returns-clause-marked
returns-clause-marked c h = absurd (both_ways c.reads.result (c.reads.ensures ∙ h) c.if-reads.false)
