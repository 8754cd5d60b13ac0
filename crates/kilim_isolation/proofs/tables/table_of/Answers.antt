use Rattle.std.proofs.Common.{◌-◌, ℕ, List, length, subst, sym, arith}
use Rattle.kilim_isolation.specs.Tables.{places_of}
use Rattle.kilim_isolation.proofs.Numbered.{IsNoted, none_noted, noted_all, one_noted}
use Rattle.kilim_isolation.proofs.tables.table_of.Goals as goal

pub loop-number-init : goal.loop-number-init
loop-number-init g c = (
  omega arith,
  subst (λ (t : List ℕ). IsNoted t (places_of c.args.entries.now) c.args.size (length c.args.entries.now)) (sym (c.in-Ok.ensures.items_if_clones_equal (λ y e. e))) (none_noted c.args.entries.now c.args.size),
)

pub loop-number-preserved : goal.loop-number-preserved
loop-number-preserved g c = (
  omega (arith, c.loop-number.invariant.0),
  one_noted c.loop-number.table.items c.note.new.table.items c.args.entries.now c.args.size (c.loop-number.number - 1) c.loop-number.number c.index-entries-number.result c.loop-number.invariant.1 (omega (arith, c.loop-number-test.true)) c.note.ensures,
)

pub returns : goal.returns
returns g c = noted_all c.loop-number.table.items (places_of c.args.entries.now) c.args.size c.loop-number.number c.loop-number.invariant.1 (omega (arith, c.loop-number-test.false))
