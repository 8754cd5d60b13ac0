use Rattle.std.proofs.Common.{◌≡◌, false, arith, rules}
use Rattle.kilim_replay.proofs.Differing.{differ_at, ends_first, ends_second, got_or, not_so, unlike_at}
use Rattle.kilim_replay.proofs.rest.first_difference.Goals as goal
use Rattle.kilim_replay.proofs.rest.first_difference.Goals.{then-loop-at-test+else-at-b, else-loop-at-test}

pub returns-then-not-same_entry : goal.returns-then-not-same_entry
returns-then-not-same_entry c =
    let no : c.same_entry.result ≡ false = search rules in
    differ_at c.args.a.now c.args.b.now c.loop-at.at c.loop-at.invariant.same c.loop-at.invariant.first
    (unlike_at c.args.a.now c.args.b.now c.loop-at.at c.index-a-at.result c.index-b-at.result (got_or c.args.a.now c.loop-at.at c.index-a-at.result c.loop-at-test.true c.index-a-at.is) (got_or c.args.b.now c.loop-at.at c.index-b-at.result c.if-at-b.true c.index-b-at.is) (not_so c.same_entry.result _ c.same_entry.ensures no))

pub returns-else-a-b : goal.returns-else-a-b
returns-else-a-b c =
    let i = c.loop-at.invariant in
    let first = i.first in
    let second = i.second in
    let other = c.if-a-b.false in
    elim c.loop-at-test.branch [
      | then-loop-at-test+else-at-b w ↦
          let in-a = w.loop-at-test in
          let past-b = w.if-at-b in
          differ_at c.args.a.now c.args.b.now c.loop-at.at i.same first (ends_second c.args.a.now c.args.b.now c.loop-at.at (omega (arith, past-b)) (omega (arith, in-a)))
      | else-loop-at-test w ↦
          let past-a = w.loop-at-test in
          differ_at c.args.a.now c.args.b.now c.loop-at.at i.same first (ends_first c.args.a.now c.args.b.now c.loop-at.at (omega (arith, past-a)) (omega (arith, past-a, first, second, other)))
    ]
