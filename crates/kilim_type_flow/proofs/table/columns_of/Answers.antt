use Rattle.std.proofs.Common.{◌∙◌, ◌+◌, ◌∷◌, [], List, Bool, ap, sym, subst, length, length-append, ◌≡◌, ℕ, arith}
use Rattle.kilim_type_flow.specs.Marks.{AreColumns}
use Rattle.kilim_type_flow.proofs.Growing.{column_more, none_reads}
use Rattle.kilim_type_flow.proofs.table.columns_of.Goals as goal

pub column_if-requires : goal.column_if-requires
column_if-requires c = record {
  rising = c.requires.rising;
  below = c.requires.below;
  befores = c.requires.befores;
  caught = c.requires.caught;
  unread = none_reads c.args.method.now c.args.read.now c.loop-local.local c.flag_at-is_read.result c.requires.marked c.flag_at-is_read.ensures;
}

pub loop-local-preserved : goal.loop-local-preserved
loop-local-preserved c =
    let is = c.in-Ok-push.ensures.items in (
      ap length is ∙ (length-append c.loop-local.columns.items (c.in-Ok.column ∷ []) ∙ ap (λ n. n + 1) c.loop-local.invariant.0),
      subst (λ (cs : List (List Bool)). AreColumns c.args.method.now (c.loop-local.local + 1) cs) (sym is)
          (column_more c.args.method.now c.loop-local.local c.loop-local.columns.items c.in-Ok.column c.loop-local.invariant.0 c.loop-local.invariant.1 c.in-Ok.ensures),
    )

pub returns : goal.returns
returns c =
    let whole : length c.loop-local.columns.items ≡ length c.args.read.now = omega arith in
    record { same = whole; each = subst (λ (n : ℕ). AreColumns c.args.method.now n c.loop-local.columns.items) (sym c.loop-local.invariant.0) c.loop-local.invariant.1 }
