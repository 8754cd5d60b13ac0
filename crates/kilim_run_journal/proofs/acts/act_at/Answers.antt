use Rattle.kilim_run_journal.proofs.ActsRead.{act_parts}
use Rattle.kilim_run_journal.specs.Fronts.{word_of_act, text_behind}
use Rattle.std.proofs.Common.{◌++◌, ◌∷◌}
use Rattle.kilim_run_journal.proofs.acts.act_at.Goals as goal

pub returns-in-Some-clause-right : goal.returns-in-Some-clause-right
returns-in-Some-clause-right c a x readable fits e =
    let found = c.in-Some.ensures (word_of_act a) (text_behind a ++ (10 ∷ x)) (act_parts a _ x e) in
    c.act_behind.ensures.right a x found.0 readable fits found.1

pub returns-in-None-clause-right : goal.returns-in-None-clause-right
returns-in-None-clause-right c a x readable fits e =
    absurd (c.in-None.ensures (word_of_act a) (text_behind a ++ (10 ∷ x)) (act_parts a _ x e))
