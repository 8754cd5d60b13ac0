use Rattle.std.proofs.Common.{◌∙◌, sym, refl, ◌∷◌, ◌++◌, codes, Some}
use Rattle.kilim_run_journal.specs.declared.entry.Act.TheVariants as act
use Rattle.kilim_run_journal.specs.Text.{shape_text}
use Rattle.kilim_run_journal.proofs.Readings.{not_none, same_some}
use Rattle.kilim_run_journal.proofs.acts.start_at.Goals as goal

pub returns-in_default-clause-right : goal.returns-in_default-clause-right
returns-in_default-clause-right c n shape x object fits e = absurd (c.in_default.ensures n (codes " " ++ (shape_text shape ++ (10 ∷ x))) fits.0 refl e)

pub returns-in_default-after-clause-right : goal.returns-in_default-after-clause-right
returns-in_default-after-clause-right c n shape x object fits e =
    let task = c.in-Some.ensures n (codes " " ++ (shape_text shape ++ (10 ∷ x))) fits.0 refl e in
    absurd (c.in_default-after.ensures.right (shape_text shape ++ (10 ∷ x)) task.1)

pub returns-in-None-clause-right : goal.returns-in-None-clause-right
returns-in-None-clause-right c n shape x object fits e =
    let task = c.in-Some.ensures n (codes " " ++ (shape_text shape ++ (10 ∷ x))) fits.0 refl e in
    let found = c.in-Ok.ensures.right shape x object fits.1 (c.in-Some-after.ensures.right (shape_text shape ++ (10 ∷ x)) task.1) in
    absurd (not_none _ (sym c.in-None.is ∙ found))

pub returns-in-Some-found-clause-right : goal.returns-in-Some-found-clause-right
returns-in-Some-found-clause-right c n shape x object fits e =
    let task = c.in-Some.ensures n (codes " " ++ (shape_text shape ++ (10 ∷ x))) fits.0 refl e in
    let found = same_some _ _ (sym c.in-Some-found.is ∙ c.in-Ok.ensures.right shape x object fits.1 (c.in-Some-after.ensures.right (shape_text shape ++ (10 ∷ x)) task.1)) in
    λ i. Some (act.Start (task.0 i) (found i))
