use Rattle.std.proofs.Common.{◌≡◌, ◌∙◌, ap, false, length, replicate, arith, rules}
use Rattle.std.proofs.lemmas.List.{length-set, length-replicate}
use Rattle.kilim_class_code.proofs.Marking.{marked_more, is_below, none_marked, none_placed}
use Rattle.kilim_class_code.proofs.marks.place_marks.Goals as goal

pub loop-at-init : goal.loop-at-init
loop-at-init c =
    let e : c.in_ok-marks.marks.items ≡ replicate c.args.len false = search rules in
    record { len = ap length e ∙ length-replicate c.args.len false; marked = λ to. rw e (none_marked c.args.len to ∙ none_placed to) }

pub index_mut-requires : goal.index_mut-requires
index_mut-requires c =
    let below = is_below c.args.len c.args.code.now c.loop-at.at-index c.loop-at-item.result c.loop-at-item.is c.requires c.loop-at-test.true in
    omega (arith, c.loop-at.invariant.len)

pub loop-at-preserved : goal.loop-at-preserved
loop-at-preserved c =
    let below = is_below c.args.len c.args.code.now c.loop-at.at-index c.loop-at-item.result c.loop-at-item.is c.requires c.loop-at-test.true in
    record {
      len = simp length-set c.loop-at.invariant.len;
      marked = marked_more c.loop-at.marks.items c.args.code.now c.loop-at.at-index c.loop-at-item.result c.loop-at-item.is c.loop-at-test.true (omega (arith, c.loop-at.invariant.len)) c.loop-at.invariant.marked;
    }
