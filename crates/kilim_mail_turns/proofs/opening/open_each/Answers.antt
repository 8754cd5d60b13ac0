use Rattle.std.proofs.Common.{rules, ◌<◌, [], ◌∷◌, length, length-append, ap, ◌∙◌, arith, Vec, Global}
use Rattle.kilim_run_turn.specs.declared.pass.Pass.{Pass}
use Rattle.kilim_mail_turns.proofs.Openings.{split, first_seated, are_all, one_opened}
use Rattle.kilim_mail_turns.proofs.opening.open_each.Goals as goal

pub loop-alloc-preserved : goal.loop-alloc-preserved
loop-alloc-preserved g c =
    let some : 0 < length c.loop-alloc.values.items = search rules in
    let values = split c.loop-alloc.values.items c.remove-value.new.self.items c.remove-value.result some c.remove-value.ensures.value c.remove-value.ensures.items in
    let long = ap length values in
    let turns = ap length c.push_reserved.ensures.items ∙ length-append c.loop-alloc.turns.items (c.in-Ok-open.turn ∷ []) in
    let passes = ap length c.push_reserved-in-Ok-open.ensures.items ∙ length-append c.loop-alloc.passes.items (c.in-Ok-open.all ∷ []) in
    let o = c.in-Ok-open.ensures in
    let a = c.push_reserved.ensures.capacity in
    let b = c.push_reserved-in-Ok-open.ensures.capacity in
    let d = c.remove-value.ensures.capacity in
    let i = c.loop-alloc.invariant.2 in
    let j = c.loop-alloc.invariant.3 in
    let k = c.loop-alloc.invariant.4 in
    let l = c.loop-alloc.invariant.5 in (
      one_opened g.B.Cells.cells (λ (p : Vec Pass Global). p.items) c.args.seats c.args.values.items c.loop-alloc.values.items c.remove-value.new.self.items c.remove-value.result c.loop-alloc.turns.items c.push_reserved.new.self.items c.in-Ok-open.turn
          c.loop-alloc.passes.items c.push_reserved-in-Ok-open.new.self.items c.in-Ok-open.all c.loop-alloc.invariant.0 values c.push_reserved.ensures.items c.push_reserved-in-Ok-open.ensures.items (record { all = o.passes; many = o.seats; shown = o.cells }),
      (first_seated g.B.Cells.cells c.args.seats c.loop-alloc.values.items c.remove-value.new.self.items c.remove-value.result values c.loop-alloc.invariant.1).1,
      omega arith,
      omega arith,
      omega arith,
      omega arith,
    )

pub drop_each-requires : goal.drop_each-requires
drop_each-requires g c = let o = c.loop-alloc.invariant.0 in are_all g.B.Cells.cells c.args.seats o.done c.loop-alloc.turns.items _ o.opened
