use Rattle.std.proofs.Common.{length, ◌≤◌}
use Rattle.kilim_explain_main.proofs.words.request.Given as goal

abbrev pub invariant-loop-word : goal.invariant-loop-word
invariant-loop-word l = length l.asked.files.now ≤ 1000
