use Rattle.std.proofs.Common.{◌≡◌, ℕ, length, length-set, arith, sym, ap, ◌∙◌, [], ◌∷◌, None}
use Rattle.kilim_run_turn.specs.Views.{cell_at, opener, holder}
use Rattle.kilim_run_turn.proofs.Hands.{reshown}
use Rattle.kilim_run_turn.proofs.opening.fill.Goals as goal

pub hand_out-requires-clause-opening : goal.hand_out-requires-clause-opening
hand_out-requires-clause-opening g c = c.name.ensures.opening ∙ ap (λ (q : ℕ). (opener c.args.shelf.now.table_id q 1 (g.B.Cells.cells c.args.shelf.now.key.value), [])) (sym c.requires.seats)

pub put_in-requires-clause-inside : goal.put_in-requires-clause-inside
put_in-requires-clause-inside g c =
    let cells = g.B.Cells.cells c.args.shelf.now.key.value in
    reshown _ c.args.shelf.now.table_id (length cells) 0 (cell_at cells 0 ∷ []) (g.B.Cells.cells c.args.value) _ (c.begin.ensures.inside ∙ (λ i. (holder c.args.shelf.now.table_id (c.requires.seats i) 0 (cell_at cells 0 ∷ []) (sym c.requires.value i), (0, None) ∷ [])))

pub returns-clause-count : goal.returns-clause-count
returns-clause-count g c =
    let handed = c.hand_out.new.passes in
    let all : length handed.items ≡ c.args.seats = omega (arith, handed.ok, c.hand_out.ensures.count) in
    length-set handed.items _ _ ∙ all
