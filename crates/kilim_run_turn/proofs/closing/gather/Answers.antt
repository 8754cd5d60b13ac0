use Rattle.std.proofs.Common.{length, arith, ap, ◌∙◌, ◌∷◌, []}
use Rattle.kilim_run_turn.specs.Rule.{Lies}
use Rattle.kilim_run_turn.proofs.Keeps.{takes_over}
use Rattle.kilim_run_turn.proofs.Passes.{last_of, last_one, popped, seat_is, over_is, behind, one_less}
use Rattle.kilim_run_turn.proofs.closing.gather.Goals as goal

pub join_seat-requires : goal.join_seat-requires
join_seat-requires g c =
    let w = c.requires.at.words in
    let v = c.loop-pass.invariant in
    let i = c.into_seat-seat-in-Some.ensures in
    let e = popped _ _ _ _ c.pop-in-loop-pass.ensures.items c.in-Some.is in
    let l = last_of _ _ _ _ _ _ _ c.requires.all v.split e in
    let own = seat_is _ _ _ c.in-Some.pass c.into_seat-seat-in-Some.result.me l.0 l.1 i.2 i.3 in (
      i.0 ∙ l.0.same,
      v.same,
      ap (λ m. m.1) v.knows,
      omega arith,
      takes_over (Lies g.B.Cells.cells) (length (g.B.Cells.cells c.args.shelf.now.key.value)) _ _ _ _ _ _ _ _ _ _ (ap (λ m. m.0) own) (ap (λ m. m.0) v.knows) (one_less _ _ _ e),
    )

pub into_seat-seat-requires-in-Some : goal.into_seat-seat-requires-in-Some
into_seat-seat-requires-in-Some g c =
    let v = c.loop-pass.invariant in
    let e = popped _ _ _ _ c.pop-in-loop-pass.ensures.items c.in-Some.is in
    (_, (last_of _ _ _ _ _ _ _ c.requires.all v.split e).0.knows)

pub loop-pass-preserved : goal.loop-pass-preserved
loop-pass-preserved g c =
    let v = c.loop-pass.invariant in
    let i = c.into_seat-seat-in-Some.ensures in
    let j = c.join_seat.ensures in
    let e = popped _ _ _ _ c.pop-in-loop-pass.ensures.items c.in-Some.is in
    let l = last_of _ _ _ _ _ _ _ c.requires.all v.split e in
    let own = seat_is _ _ _ c.in-Some.pass c.into_seat-seat-in-Some.result.me l.0 l.1 i.2 i.3 in record {
      rest = c.in-Some.pass ∷ v.rest;
      split = behind _ _ _ _ _ v.split e;
      same = j.0 ∙ (i.0 ∙ l.0.same);
      knows = over_is _ _ _ c.in-Some.pass v.rest _ _ _ _ own v.knows j.2;
    }

pub into_seat-seat-requires : goal.into_seat-seat-requires
into_seat-seat-requires g c =
    let e = popped _ _ _ _ c.pop.ensures.items c.unwrap-last.ensures in
    (_, (last_one _ _ _ _ _ c.requires.all e).0.knows)

pub loop-pass-init : goal.loop-pass-init
loop-pass-init g c =
    let last = c.unwrap-last.result in
    let i = c.into_seat-seat.ensures in
    let e = popped _ _ _ _ c.pop.ensures.items c.unwrap-last.ensures in
    let l = last_one _ _ _ _ _ c.requires.all e in record {
      rest = last ∷ [];
      split = e;
      same = i.0 ∙ l.0.same;
      knows = seat_is _ _ _ last c.into_seat-seat.result.me l.0 l.1 i.2 i.3;
    }
