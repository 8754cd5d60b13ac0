use Rattle.std.proofs.Common.{◌≡◌, ◌++◌, List, ℕ, take, drop, ap, ◌∙◌, append_assoc, arith}
use Rattle.std.proofs.lemmas.List.{take-append-drop}
use Rattle.kilim_command.proofs.Written.{more}
use Rattle.kilim_command.proofs.writing.write_all.Goals as goal

pub loop-rest-preserved : goal.loop-rest-preserved
loop-rest-preserved g c =
    let before = c.loop-rest.invariant.so_far in
    let n = c.in_ok-count.count in
    let piece = take n c.loop-rest.rest.now in
    let whole : (before.0 ++ piece) ++ drop n c.loop-rest.rest.now ≡ c.args.bytes.now =
    append_assoc before.0 piece (drop n c.loop-rest.rest.now) ∙ (ap (λ (xs : List ℕ). before.0 ++ xs) (take-append-drop n c.loop-rest.rest.now) ∙ before.1) in
    record {
      later = omega arith;
      quiet = c.in_ok-count.ensures.quiet ∙ c.loop-rest.invariant.quiet;
      so_far = (before.0 ++ piece, rw c.split_at.ensures.back whole, more _ _ _ before.0 piece before.2 c.in_ok-count.ensures.taken);
    }
