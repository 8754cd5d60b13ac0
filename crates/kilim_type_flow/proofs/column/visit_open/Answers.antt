use Rattle.std.proofs.Common.{◌≡◌, ℕ, true, subst, sym, ◌∙◌}
use Rattle.kilim_type_flow.specs.Marks.{is_marked}
use Rattle.kilim_type_flow.proofs.Growing.{no_growth, grown_as, both_ways}
use Rattle.kilim_type_flow.proofs.column.visit_open.Goals as goal

pub returns-then-is_marked-clause-grown : goal.returns-then-is_marked-clause-grown
returns-then-is_marked-clause-grown c =
    grown_as (λ x. x ≡ c.args.place) (λ x. (x ≡ c.args.place) × (is_marked c.args.passing.now x ≡ true)) _ _ _ _
    (λ x e. (e, subst (λ (n : ℕ). is_marked c.args.passing.now n ≡ true) (sym e) (sym c.is_marked.ensures ∙ c.if-is_marked.true))) c.in-Ok.ensures.grown

pub returns-then-is_marked-clause-marked : goal.returns-then-is_marked-clause-marked
returns-then-is_marked-clause-marked c h = c.in-Ok.ensures.marked

pub returns-clause-grown : goal.returns-clause-grown
returns-clause-grown c = no_growth (λ x. (x ≡ c.args.place) × (is_marked c.args.passing.now x ≡ true)) c.args.marks.now.items c.args.work.now.items

pub returns-clause-marked : goal.returns-clause-marked
returns-clause-marked c h = absurd (both_ways c.is_marked.result (c.is_marked.ensures ∙ h) c.if-is_marked.false)
