use Rattle.std.proofs.Common.{◌≡◌, ℕ, suc, ◌+◌, ◌<◌, ◌∙◌, List, length, get_or, drop, drop-cons, add-one, ap, sym}
use Rattle.std.proofs.lemmas.List.{drop_all}
use Rattle.kilim_class_pool.specs.declared.entry.Entry.{Entry}
use Rattle.kilim_class_making.specs.declared.pool_needs.need.Need.{Need}
use Rattle.kilim_class_making.specs.pool_needs.Adding.{with_need, with_needs}
use Rattle.kilim_class_making.proofs.pool_needs.adding.with_needs.Goals as goal

one_more : (needs : List Need) (i : ℕ) (need : Need) (pool next whole : List Entry) → i < length needs → need ≡ get_or needs i need → next ≡ with_need pool need → with_needs pool (drop i needs) ≡ whole
    → with_needs next (drop (i + 1) needs) ≡ whole
unfolding with_needs
one_more needs i need pool next whole lt is made so_far =
    rw add-one
    (ap (λ (p : List Entry). with_needs p (drop (suc i) needs)) (made ∙ ap (with_need pool) is) ∙ (ap (with_needs pool) (sym (drop-cons needs i need lt)) ∙ so_far))

pub loop-need-preserved : goal.loop-need-preserved
loop-need-preserved c =
    one_more c.args.needs.now c.loop-need.need-index c.need-item.result c.loop-need.pool c.with_need.new.pool _ c.loop-need-test.true c.need-item.is c.in-Ok.ensures c.loop-need.invariant

pub returns : goal.returns
unfolding with_needs
returns c = ap (with_needs c.loop-need.pool) (sym (drop_all c.loop-need.need-index c.args.needs.now c.loop-need-test.false)) ∙ c.loop-need.invariant
