use Rattle.std.proofs.Common.{ℕ, ◌+◌, List, [], ◌∷◌, slice_get, length, length-append, ap, sym, ◌∙◌, Vec}
use Rattle.std.specs.declared.alloc.Global.{Global}
use Rattle.kilim_isolation_paths.specs.Stored.{positions}
use Rattle.kilim_isolation_paths.specs.declared.store.Reached.{Reached}
use Rattle.kilim_isolation_paths.proofs.Rows.{rows_empty}
use Rattle.kilim_isolation_paths.proofs.store.Store.new.Goals as goal

pub loop-preserved : goal.loop-preserved
loop-preserved g c = record {
  count = ap length c.in-Ok.ensures.items ∙ length-append c.loop.rows.items (c.new.result ∷ []) ∙ ap (λ (n : ℕ). n + 1) c.loop.invariant.count;
  empty = λ q row h.
      rows_empty c.loop.rows.items c.new.result c.loop.invariant.empty c.new.ensures.items q row (ap (λ (rows : List (Vec ℕ Global)). slice_get rows q) (sym c.in-Ok.ensures.items) ∙ h);
}

pub invariant_of-result : goal.invariant_of-result
invariant_of-result g c q row h = c.loop.invariant.empty q row h ∙ sym (ap (λ (es : List (Reached _)). positions q 0 es) c.new-3.ensures.items)
