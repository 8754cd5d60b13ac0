use Rattle.std.proofs.Common.{◌≡◌, ℕ, Bool, List, length, true, subst, sym, ◌∙◌, ap, set}
use Rattle.std.proofs.lemmas.Bool.{eqb-true}
use Rattle.std.proofs.lemmas.List.{length-set}
use Rattle.kilim_type_flow.specs.Marks.{is_marked}
use Rattle.kilim_type_flow.proofs.Lists.{set_keeps, set_marks}
use Rattle.kilim_type_flow.proofs.table.mark_read.Goals as goal

pub returns-in-Some-clause-same : goal.returns-in-Some-clause-same
returns-in-Some-clause-same c = ap length c.mark.ensures ∙ length-set c.args.marks.now.items c.in-Some.slot true

pub returns-in-Some-clause-keeps : goal.returns-in-Some-clause-keeps
returns-in-Some-clause-keeps c k h = subst (λ (ms : List Bool). is_marked ms k ≡ true) (sym c.mark.ensures) (set_keeps c.args.marks.now.items c.in-Some.slot k h)

pub returns-in-Some-clause-marked : goal.returns-in-Some-clause-marked
returns-in-Some-clause-marked c k it =
    let same : c.in-Some.slot ≡ k = eqb-true c.in-Some.slot k (sym (c.in-Some.ensures k) ∙ it) in
    subst (λ (ms : List Bool). is_marked ms k ≡ true) (sym c.mark.ensures)
    (subst (λ (n : ℕ). is_marked (set c.args.marks.now.items n true) k ≡ true) (sym same) (set_marks c.args.marks.now.items k (c.requires k it)))

pub returns-in-None-clause-marked : goal.returns-in-None-clause-marked
returns-in-None-clause-marked c k it = absurd (cc (c.in-None.ensures k, it))
