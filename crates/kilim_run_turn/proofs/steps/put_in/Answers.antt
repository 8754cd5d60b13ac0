use Rattle.std.proofs.Common.{length, arith, ap, ◌∙◌, [], ◌∷◌, None}
use Rattle.atomic_table.specs.Table.{rest}
use Rattle.kilim_run_turn.specs.declared.view.View.{View}
use Rattle.kilim_run_turn.specs.Views.{note_of, bare, outside}
use Rattle.kilim_run_turn.specs.Steps.{Sat}
use Rattle.kilim_run_turn.specs.Rule.{Lies}
use Rattle.kilim_run_turn.proofs.Keeps.{lays_down, gives_back}
use Rattle.kilim_run_turn.proofs.Hands.{one_slot, filled_is}
use Rattle.kilim_run_turn.proofs.steps.put_in.Goals as goal

pub split_seat-requires : goal.split_seat-requires
split_seat-requires g c = let w = c.requires.at.words in (
  c.requires.at.same,
  omega arith,
  lays_down (Lies g.B.Cells.cells) (length (g.B.Cells.cells c.args.shelf.now.key.value)) _ _ _ _ _ _ _ (ap (λ m. m.0) c.requires.inside),
)

pub exchange-left-requires : goal.exchange-left-requires
exchange-left-requires g c = let k = c.split_seat.ensures in (k.0 ∙ c.requires.at.same, (None, one_slot _ _ _ (k.2 ∙ ap (λ (p : Sat _). (bare p.0, p.1)) c.requires.inside)))

pub returns-clause-outside : goal.returns-clause-outside
returns-clause-outside g c = c.store.ensures.2 ∙ ap (λ (p : Sat _). (outside p.0, rest p.1)) (filled_is _ _ _ _ _ _ _ _ _ _ c.requires.inside c.split_seat.ensures.2 c.exchange-left.ensures.3)

pub store-requires : goal.store-requires
store-requires g c =
    let w = c.requires.at.words in
    let n = c.requires.at.slots in
    let h = c.into_badge-note.ensures in
    let k = c.split_seat.ensures in
    let x = c.exchange-left.ensures in
    let e = c.requires.inside in (
      x.0 ∙ (k.0 ∙ c.requires.at.same),
      omega arith,
      gives_back (Lies g.B.Cells.cells) (length (g.B.Cells.cells c.args.shelf.now.key.value)) _ _ _ _ _ _ _ _ (filled_is _ _ _ _ _ _ _ _ _ _ e k.2 x.3)
          (h.0 ∙ (k.3 ∙ c.requires.at.same), h.2 ∙ ap (λ (v : View). v ∷ []) (ap (λ m. m.0) k.4 ∙ ap (λ m. note_of m.0) e))
          (omega arith),
    )
