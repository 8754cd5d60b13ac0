use Rattle.std.proofs.Common.{◌≡◌, ℕ, ◌<◌, ◌^◌, IfOk, subst, arith, rules}
use Rattle.kilim_link_inherited.specs.Trees.{Makes, Has, Fits, changed_at, value_at, key_levels}
use Rattle.kilim_link_inherited.proofs.Putting.{ok_then, unchanged, changed_fits}
use Rattle.kilim_link_inherited.proofs.put.put_entry.Goals as goal

pub returns-then-eq : goal.returns-then-eq
returns-then-eq c =
    let is : value_at c.args.nodes.now key_levels c.args.tree c.args.entry.key ≡ c.args.entry.value = search rules in
    let same = unchanged c.args.nodes.now key_levels c.args.tree c.args.entry.key c.args.entry.value c.requires.table c.requires.inside is in
    (same.0, same.1, c.requires.fits)

pub returns : goal.returns
returns c =
    let old = c.args.nodes.now in
    let new = c.put.new.nodes in
    let tree = c.args.tree in
    let key = c.args.entry.key in
    let value = c.args.entry.value in
    let fits : key < 2 ^ key_levels = omega arith in
    ok_then c.put.result
    (λ (made : ℕ). Makes old new made × Has new key_levels made (changed_at key value (value_at old key_levels tree)))
    (λ (made : ℕ). Makes old new made × Has new key_levels made (changed_at key value (value_at old key_levels tree)) × Fits new key_levels made)
    (λ made h. (h.0, h.1, changed_fits old new key_levels tree made key value fits c.requires.fits h.1))
    (subst (λ (n : ℕ). IfOk c.put.result (λ made. Makes old new made × Has new n made (changed_at key value (value_at old n tree)))) c.key_levels-2.ensures.levels c.put.ensures)
