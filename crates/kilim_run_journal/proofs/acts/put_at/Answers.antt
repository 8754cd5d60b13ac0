use Rattle.std.proofs.Common.{◌∙◌, sym, refl, ◌∷◌, ◌++◌, codes, Some}
use Rattle.std.specs.Fmt.{decimal}
use Rattle.kilim_run_journal.specs.declared.entry.Act.TheVariants as act
use Rattle.kilim_run_journal.specs.Text.{shape_text}
use Rattle.kilim_run_journal.proofs.Readings.{not_none, same_some}
use Rattle.kilim_run_journal.proofs.acts.put_at.Goals as goal

pub returns-in_default-clause-right : goal.returns-in_default-clause-right
returns-in_default-clause-right c b n shape x object fits e =
    absurd (c.in_default.ensures.right b (codes " #" ++ (decimal n ++ (codes " " ++ (shape_text shape ++ (10 ∷ x))))) fits.0 refl e)

pub returns-in_default-after-clause-right : goal.returns-in_default-after-clause-right
returns-in_default-after-clause-right c b n shape x object fits e =
    let box = c.in-Some.ensures.right b (codes " #" ++ (decimal n ++ (codes " " ++ (shape_text shape ++ (10 ∷ x))))) fits.0 refl e in
    absurd (c.in_default-after.ensures.right (decimal n ++ (codes " " ++ (shape_text shape ++ (10 ∷ x)))) box.1)

pub returns-in_default-number_at-clause-right : goal.returns-in_default-number_at-clause-right
returns-in_default-number_at-clause-right c b n shape x object fits e =
    let box = c.in-Some.ensures.right b (codes " #" ++ (decimal n ++ (codes " " ++ (shape_text shape ++ (10 ∷ x))))) fits.0 refl e in
    let behind = c.in-Some-after.ensures.right (decimal n ++ (codes " " ++ (shape_text shape ++ (10 ∷ x)))) box.1 in
    absurd (c.in_default-number_at.ensures n (codes " " ++ (shape_text shape ++ (10 ∷ x))) fits.1 refl behind)

pub returns-in_default-after-2-clause-right : goal.returns-in_default-after-2-clause-right
returns-in_default-after-2-clause-right c b n shape x object fits e =
    let box = c.in-Some.ensures.right b (codes " #" ++ (decimal n ++ (codes " " ++ (shape_text shape ++ (10 ∷ x))))) fits.0 refl e in
    let behind = c.in-Some-after.ensures.right (decimal n ++ (codes " " ++ (shape_text shape ++ (10 ∷ x)))) box.1 in
    let number = c.in-Some-number_at.ensures n (codes " " ++ (shape_text shape ++ (10 ∷ x))) fits.1 refl behind in
    absurd (c.in_default-after-2.ensures.right (shape_text shape ++ (10 ∷ x)) number.1)

pub returns-in-None-clause-right : goal.returns-in-None-clause-right
returns-in-None-clause-right c b n shape x object fits e =
    let box = c.in-Some.ensures.right b (codes " #" ++ (decimal n ++ (codes " " ++ (shape_text shape ++ (10 ∷ x))))) fits.0 refl e in
    let behind = c.in-Some-after.ensures.right (decimal n ++ (codes " " ++ (shape_text shape ++ (10 ∷ x)))) box.1 in
    let number = c.in-Some-number_at.ensures n (codes " " ++ (shape_text shape ++ (10 ∷ x))) fits.1 refl behind in
    let found = c.in-Ok.ensures.right shape x object fits.2 (c.in-Some-after-2.ensures.right (shape_text shape ++ (10 ∷ x)) number.1) in
    absurd (not_none _ (sym c.in-None.is ∙ found))

pub returns-in-Some-found-clause-right : goal.returns-in-Some-found-clause-right
returns-in-Some-found-clause-right c b n shape x object fits e =
    let box = c.in-Some.ensures.right b (codes " #" ++ (decimal n ++ (codes " " ++ (shape_text shape ++ (10 ∷ x))))) fits.0 refl e in
    let behind = c.in-Some-after.ensures.right (decimal n ++ (codes " " ++ (shape_text shape ++ (10 ∷ x)))) box.1 in
    let number = c.in-Some-number_at.ensures n (codes " " ++ (shape_text shape ++ (10 ∷ x))) fits.1 refl behind in
    let found = same_some _ _ (sym c.in-Some-found.is ∙ c.in-Ok.ensures.right shape x object fits.2 (c.in-Some-after-2.ensures.right (shape_text shape ++ (10 ∷ x)) number.1)) in
    λ i. Some (act.Put (box.0 i) (number.0 i) (found i))
