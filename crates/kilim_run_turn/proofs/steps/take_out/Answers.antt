use Rattle.std.proofs.Common.{length, arith, sym, ap, ◌∙◌, Some, []}
use Rattle.kilim_run_turn.specs.Rule.{Lies}
use Rattle.kilim_run_turn.proofs.Keeps.{takes_in, tells}
use Rattle.kilim_run_turn.proofs.Hands.{one_slot, heads, joined_is, found_fits}
use Rattle.kilim_run_turn.proofs.steps.take_out.Goals as goal

pub exchange-found-requires : goal.exchange-found-requires
exchange-found-requires g c = let t = c.requires.inside in (c.requires.at.same, (Some t.0, one_slot _ _ _ t.2))

pub join_seat-requires : goal.join_seat-requires
join_seat-requires g c =
    let w = c.requires.at.words in
    let t = c.requires.inside in
    let x = c.exchange-found.ensures in
    let i = c.into_seat.ensures in
    let fits = found_fits g.B.Cells.cells _ _ _ _ _ _ t.1 t.2 x.2 c.in-Some.is in (
      x.0 ∙ c.requires.at.same,
      i.0 ∙ fits.0,
      i.3,
      omega arith,
      takes_in (Lies g.B.Cells.cells) (length (g.B.Cells.cells c.args.shelf.now.key.value)) _ _ _ _ _ _ _ _ _ (ap (λ m. m.0) x.3 ∙ ap (λ m. m.0) t.2) (heads _ _ [] [] (sym i.2 ∙ fits.1)),
    )

pub load-requires : goal.load-requires
load-requires g c =
    let w = c.requires.at.words in
    let t = c.requires.inside in
    let x = c.exchange-found.ensures in
    let i = c.into_seat.ensures in
    let j = c.join_seat.ensures in
    let fits = found_fits g.B.Cells.cells _ _ _ _ _ _ t.1 t.2 x.2 c.in-Some.is in (
      j.0 ∙ (x.0 ∙ c.requires.at.same),
      omega arith,
      tells (Lies g.B.Cells.cells) (length (g.B.Cells.cells c.args.shelf.now.key.value)) _ _ _ _ _ _ _ _ (joined_is _ _ _ _ _ _ _ _ _ _ t.2 x.3 (heads _ _ [] [] (sym i.2 ∙ fits.1)) j.2),
    )
