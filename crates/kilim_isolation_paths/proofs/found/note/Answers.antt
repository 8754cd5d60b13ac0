use Rattle.std.proofs.Common.{arith, ◌<◌, length, refl, sym, ◌∙◌}
use Rattle.kilim_isolation_paths.proofs.Notes.{passed}
use Rattle.kilim_isolation_paths.proofs.found.note.Goals as goal

pub loop-k-preserved : goal.loop-k-preserved
loop-k-preserved c =
    let lt : c.loop-k.k < length c.args.found.now.items = omega (arith, c.loop-k-test.true, c.len.ensures, c.args.found.now.ok.0) in
    record {
      within = omega (arith, lt);
      so_far = passed c.args.found.now.items c.loop-k.k c.index.result.now c.args.new lt c.index.ensures (sym c.is_before.ensures ∙ c.if-is_before.true) c.loop-k.invariant.so_far;
      same = refl;
    }
