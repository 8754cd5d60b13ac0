use Rattle.std.proofs.Common.{◌≡◌, ◌∙◌, ℕ, List, ◌∷◌, ◌++◌, refl, append_assoc}
use Rattle.std.specs.Fmt.{decimal}
use Rattle.kilim_program.specs.declared.names.BoxName.{BoxName}
use Rattle.kilim_run_journal.specs.Text.{box_text}
use Rattle.kilim_run_journal.proofs.numbers.box_at.Goals as goal

-- a mailbox is a number, a point and a number
box_parts : (b : BoxName) (x bytes : List ℕ) → bytes ≡ box_text b ++ x → bytes ≡ decimal b.task ++ (46 ∷ (decimal b.number ++ x))
box_parts b x bytes e = e ∙ append_assoc (decimal b.task) (46 ∷ decimal b.number) x

pub returns-in_default-clause-right : goal.returns-in_default-clause-right
returns-in_default-clause-right c b x fits ends e = c.in_default.ensures b.task (46 ∷ (decimal b.number ++ x)) fits.0 refl (box_parts b x _ e)

pub returns-in_default-after-clause-right : goal.returns-in_default-after-clause-right
returns-in_default-after-clause-right c b x fits ends e =
    let task = c.in-Some.ensures b.task (46 ∷ (decimal b.number ++ x)) fits.0 refl (box_parts b x _ e) in
    c.in_default-after.ensures.right (decimal b.number ++ x) task.1

pub returns-in-None-clause-right : goal.returns-in-None-clause-right
returns-in-None-clause-right c b x fits ends e =
    let task = c.in-Some.ensures b.task (46 ∷ (decimal b.number ++ x)) fits.0 refl (box_parts b x _ e) in
    c.in-None.ensures b.number x fits.1 ends (c.in-Some-after.ensures.right (decimal b.number ++ x) task.1)

pub returns-in-Some-small_at-clause-right : goal.returns-in-Some-small_at-clause-right
returns-in-Some-small_at-clause-right c b x fits ends e =
    let task = c.in-Some.ensures b.task (46 ∷ (decimal b.number ++ x)) fits.0 refl (box_parts b x _ e) in
    let number = c.in-Some-small_at.ensures b.number x fits.1 ends (c.in-Some-after.ensures.right (decimal b.number ++ x) task.1) in
    (λ i. record { task = task.0 i; number = number.0 i }, number.1)
