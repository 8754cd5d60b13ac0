use Rattle.kilim_run_turn.proofs.Hands.{posted_is, reshown, slots_are}
use Rattle.kilim_run_turn.proofs.lending.Turn.leave.Goals as goal

pub put_in-requires-clause-inside : goal.put_in-requires-clause-inside
put_in-requires-clause-inside g c =
    let p = c.requires.inside in
    reshown _ _ _ _ _ _ _ (posted_is _ _ _ _ _ _ _ _ p.below p.knows c.post.ensures.posted p.size c.requires.others)

pub post-requires-clause-inside : goal.post-requires-clause-inside
post-requires-clause-inside g c = slots_are _ _ _ c.requires.inside.knows
