use Rattle.std.proofs.Common.{◌++◌, ◌∷◌, [], ap, ◌∙◌}
use Rattle.kilim_class_pool.specs.Entries.{entry_at}
use Rattle.kilim_class_pool.proofs.AddLaws.{old_index, new_index, not_full}
use Rattle.kilim_class_pool.proofs.pool.Pool.add.Goals as goal

pub returns-in-Some-clause-full : goal.returns-in-Some-clause-full
returns-in-Some-clause-full c = not_full c.args.self.now c.args.entry c.in-Some.place c.slots.result.now c.slots.ensures.slots c.in-Some.ensures.0

pub returns-in-Ok-clause-keeps : goal.returns-in-Ok-clause-keeps
returns-in-Ok-clause-keeps c = λ index lt. ap (λ es. entry_at es index) c.in-Ok.ensures.ok ∙ old_index c.args.self.now c.args.entry index lt

pub returns-in-Ok-clause-now : goal.returns-in-Ok-clause-now
returns-in-Ok-clause-now c = ap (λ es. entry_at es c.count-index.result) c.in-Ok.ensures.ok ∙ (ap (entry_at (c.args.self.now ++ c.args.entry ∷ [])) c.count-index.ensures ∙ new_index c.args.self.now c.args.entry)
