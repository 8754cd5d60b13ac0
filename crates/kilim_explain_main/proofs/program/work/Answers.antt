use Rattle.std.proofs.Common.{None, subst, ◌≤◌, ℕ}
use Rattle.std.specs.String.{string_bytes}
use Rattle.kilim_explain_main.proofs.Read.{many_named}
use Rattle.kilim_explain_main.proofs.program.work.Goals as goal

pub answer-requires-clause-few : goal.answer-requires-clause-few
answer-requires-clause-few g c =
    subst (λ (n : ℕ). n ≤ 1000) (many_named None string_bytes c.args.asked.now.files.now c.in-Ok.files c.as_slice.result.now c.as_slice.ensures c.in-Ok.ensures.read) c.requires

pub answer-requires-clause-same : goal.answer-requires-clause-same
answer-requires-clause-same g c = many_named None string_bytes c.args.asked.now.files.now c.in-Ok.files c.as_slice.result.now c.as_slice.ensures c.in-Ok.ensures.read
