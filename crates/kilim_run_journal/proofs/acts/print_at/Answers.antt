use Rattle.std.proofs.Common.{◌≡◌, ◌∙◌, sym, ap, true, List, ◌∷◌, Some}
use Rattle.kilim_run_state.specs.declared.value.Token.{Token}
use Rattle.kilim_run_state.specs.declared.value.Token.TheVariants.{Open}
use Rattle.kilim_run_journal.specs.declared.entry.Act.TheVariants as act
use Rattle.kilim_run_journal.specs.Readable.{is_plain_value, is_value}
use Rattle.kilim_run_journal.specs.Fronts.{begins_object}
use Rattle.kilim_run_journal.proofs.Readings.{same_some}
use Rattle.kilim_run_journal.proofs.acts.print_at.Goals as goal

plain_value : (shape : List Token) → is_plain_value shape ≡ true → is_value shape ≡ true
plain_value (Open name ∷ ts) plain = absurd cc
plain_value shape plain = plain

no_object : (shape : List Token) → begins_object shape ≡ true → is_plain_value shape ≡ true → ⊥
no_object (Open name ∷ ts) begins plain = absurd cc
no_object shape begins plain = absurd cc

pub returns-then-begins_object-clause-right : goal.returns-then-begins_object-clause-right
returns-then-begins_object-clause-right c shape x plain fits e =
    let found = same_some _ _ (sym c.in-Some.is ∙ c.in-Ok.ensures.right shape x (plain_value shape plain) fits e) in
    absurd (no_object shape (ap begins_object (sym (c.as_slice.ensures ∙ found)) ∙ (sym c.begins_object.ensures ∙ c.if-begins_object.true)) plain)

pub returns-else-begins_object-clause-right : goal.returns-else-begins_object-clause-right
returns-else-begins_object-clause-right c shape x plain fits e =
    let found = same_some _ _ (sym c.in-Some.is ∙ c.in-Ok.ensures.right shape x (plain_value shape plain) fits e) in
    λ i. Some (act.Print (found i))
