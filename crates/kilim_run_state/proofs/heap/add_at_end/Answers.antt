use Rattle.std.proofs.Common.{arith, length, ◌+◌, ◌≤◌, ◌∙◌, ap, ◌++◌, ◌∷◌, [], Some, refl}
use Rattle.std.specs.Vec.{vec_capacity}
use Rattle.kilim_run_state.proofs.Arena.{at_end_arena, roomier, ok_then}
use Rattle.kilim_run_state.proofs.heap.add_at_end.Goals as goal

pub returns-then-is_err-clause-arena : goal.returns-then-is_err-clause-arena
returns-then-is_err-clause-arena c = roomier _ _ _ _ _ _ c.requires.arena refl c.reserve.ensures.items c.reserve.ensures.capacity

pub returns-then-is_err-2-clause-arena : goal.returns-then-is_err-2-clause-arena
returns-then-is_err-2-clause-arena c = roomier _ _ _ _ _ _ c.requires.arena c.reserve-2.ensures.items c.reserve.ensures.items c.reserve.ensures.capacity

pub returns-clause-arena : goal.returns-clause-arena
returns-clause-arena c =
    let made = ok_then _ _ _ c.is_err.ensures.value c.if-is_err.false c.reserve.ensures.ok in
    let fits : length c.args.places.now.items + 1 ≤ vec_capacity c.reserve.new.self = omega (arith, made, c.reserve.ensures.len, c.len-at.ensures, c.args.places.now.ok.0) in
    at_end_arena _ _ _ _ _ _ _ c.requires.arena c.requires.none c.reserve.ensures.items (c.push_reserved.ensures.items ∙ ap (λ ps. ps ++ Some c.args.object ∷ []) c.reserve-2.ensures.items) fits
