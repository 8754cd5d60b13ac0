use Rattle.std.proofs.Common.{◌≡◌, ◌∙◌, sym, ap, refl, ℕ, List, [], ◌∷◌, ◌++◌, codes, Some, append_assoc}
use Rattle.std.specs.Fmt.{decimal}
use Rattle.kilim_run_journal.specs.declared.entry.Entry.{Entry}
use Rattle.kilim_run_journal.specs.Text.{act_text, entry_text}
use Rattle.kilim_run_journal.proofs.Readings.{not_none, same_some}
use Rattle.kilim_run_journal.proofs.acts.entry_at.Goals as goal

-- an entry is a number, a space, an act and a line feed
entry_parts : (e : Entry) (x bytes : List ℕ) → bytes ≡ entry_text e ++ x → bytes ≡ decimal e.task ++ (codes " " ++ (act_text e.act ++ (10 ∷ x)))
entry_parts e x bytes is = is ∙ (append_assoc (decimal e.task) (32 ∷ (act_text e.act ++ 10 ∷ [])) x ∙ ap (λ behind. decimal e.task ++ (32 ∷ behind)) (append_assoc (act_text e.act) (10 ∷ []) x))

pub returns-in_default-clause-right : goal.returns-in_default-clause-right
returns-in_default-clause-right c e x entry is = absurd (c.in_default.ensures e.task (codes " " ++ (act_text e.act ++ (10 ∷ x))) entry.1.0 refl (entry_parts e x _ is))

pub returns-in_default-after-clause-right : goal.returns-in_default-after-clause-right
returns-in_default-after-clause-right c e x entry is =
    let task = c.in-Some.ensures e.task (codes " " ++ (act_text e.act ++ (10 ∷ x))) entry.1.0 refl (entry_parts e x _ is) in
    absurd (c.in_default-after.ensures.right (act_text e.act ++ (10 ∷ x)) task.1)

pub returns-in-None-clause-right : goal.returns-in-None-clause-right
returns-in-None-clause-right c e x entry is =
    let task = c.in-Some.ensures e.task (codes " " ++ (act_text e.act ++ (10 ∷ x))) entry.1.0 refl (entry_parts e x _ is) in
    let found = c.in-Ok.ensures.right e.act x entry.0 entry.1.1 (c.in-Some-after.ensures.right (act_text e.act ++ (10 ∷ x)) task.1) in
    absurd (not_none _ (sym c.in-None.is ∙ found))

pub returns-in-Some-found-clause-right : goal.returns-in-Some-found-clause-right
returns-in-Some-found-clause-right c e x entry is =
    let task = c.in-Some.ensures e.task (codes " " ++ (act_text e.act ++ (10 ∷ x))) entry.1.0 refl (entry_parts e x _ is) in
    let found = same_some _ _ (sym c.in-Some-found.is ∙ c.in-Ok.ensures.right e.act x entry.0 entry.1.1 (c.in-Some-after.ensures.right (act_text e.act ++ (10 ∷ x)) task.1)) in
    λ i. Some (record { task = task.0 i; act = found i })
