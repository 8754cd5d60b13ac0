use Rattle.std.proofs.Common.{◌≡◌, ℕ, ◌-◌, ◌<◌, ◌%◌, ◌==◌, true, false, arith, rules}
use Rattle.kilim_link_inherited.specs.Trees.{Makes, Has, Joins, changed_at, value_at}
use Rattle.kilim_link_inherited.proofs.Putting.{ok_then, put_even, put_odd, at_levels, rest_fits, opened_fits}
use Rattle.kilim_link_inherited.proofs.Growing.{grown_length}
use Rattle.kilim_link_inherited.proofs.put.+put.Goals as goal

pub put-requires : goal.put-requires
put-requires t c =
    let some : 0 < c.args.levels = omega arith in
    let below = opened_fits c.args.nodes.now c.opened.new.nodes c.args.tree c.in-Ok.even c.in-Ok.odd c.args.levels some c.in-Ok.ensures c.requires.fits in
    (omega arith, (c.in-Ok.ensures.table, (below.0, rest_fits c.args.levels c.args.key some c.requires.key)))

pub put-requires-else-key-eq0 : goal.put-requires-else-key-eq0
put-requires-else-key-eq0 t c =
    let some : 0 < c.args.levels = omega arith in
    let below = opened_fits c.args.nodes.now c.opened.new.nodes c.args.tree c.in-Ok.even c.in-Ok.odd c.args.levels some c.in-Ok.ensures c.requires.fits in
    (omega arith, (c.in-Ok.ensures.table, (below.1, rest_fits c.args.levels c.args.key some c.requires.key)))

pub returns-in-Ok-put : goal.returns-in-Ok-put
returns-in-Ok-put t c =
    let old = c.args.nodes.now in
    let mid = c.opened.new.nodes in
    let low = c.put.new.nodes in
    let new = c.branch-nodes.new.nodes in
    let levels = c.args.levels in
    let key = c.args.key in
    let value = c.args.value in
    let tree = c.args.tree in
    let made_side = c.in-Ok-put.even in
    let some : 0 < levels = omega arith in
    let is : (key % 2 == 0) ≡ true = search rules in
    ok_then c.branch-nodes.result
    (λ (made : ℕ). Makes low new made × Joins low new made_side c.in-Ok.odd made)
    (λ (made : ℕ). Makes old new made × Has new levels made (changed_at key value (value_at old levels tree)))
    (λ made h. at_levels old new levels tree made key value some (put_even old mid low new tree (levels - 1) key value c.in-Ok.even c.in-Ok.odd made_side made c.in-Ok.ensures c.in-Ok-put.ensures.0 h.0 is c.in-Ok-put.ensures.1 h.1))
    c.branch-nodes.ensures

pub returns-in-Ok-put-2 : goal.returns-in-Ok-put-2
returns-in-Ok-put-2 t c =
    let old = c.args.nodes.now in
    let mid = c.opened.new.nodes in
    let low = c.put-else-key-eq0.new.nodes in
    let new = c.branch-nodes-else-key-eq0.new.nodes in
    let levels = c.args.levels in
    let key = c.args.key in
    let value = c.args.value in
    let tree = c.args.tree in
    let made_side = c.in-Ok-put-2.odd in
    let some : 0 < levels = omega arith in
    let isnt : (key % 2 == 0) ≡ false = search rules in
    ok_then c.branch-nodes-else-key-eq0.result
    (λ (made : ℕ). Makes low new made × Joins low new c.in-Ok.even made_side made)
    (λ (made : ℕ). Makes old new made × Has new levels made (changed_at key value (value_at old levels tree)))
    (λ made h. at_levels old new levels tree made key value some (put_odd old mid low new tree (levels - 1) key value c.in-Ok.even c.in-Ok.odd made_side made c.in-Ok.ensures c.in-Ok-put-2.ensures.0 h.0 isnt c.in-Ok-put-2.ensures.1 h.1))
    c.branch-nodes-else-key-eq0.ensures

pub branch-nodes-requires-clause-odd : goal.branch-nodes-requires-clause-odd
branch-nodes-requires-clause-odd t c = grown_length c.opened.new.nodes c.put.new.nodes c.in-Ok-put.ensures.0.grown c.in-Ok.odd c.in-Ok.ensures.odd_inside

pub branch-nodes-requires-else-key-eq0-clause-even : goal.branch-nodes-requires-else-key-eq0-clause-even
branch-nodes-requires-else-key-eq0-clause-even t c = grown_length c.opened.new.nodes c.put-else-key-eq0.new.nodes c.in-Ok-put-2.ensures.0.grown c.in-Ok.even c.in-Ok.ensures.even_inside
