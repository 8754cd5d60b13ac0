use Rattle.std.proofs.Common.{◌+◌, ◌<◌, length, take, List, sym, subst, arith}
use Rattle.kilim_link_inherited.specs.declared.entry.Entry.{Entry}
use Rattle.kilim_link_inherited.specs.Numbers.{number_at}
use Rattle.kilim_link_inherited.specs.declared.said.Said.{Said}
use Rattle.kilim_link_inherited.specs.Keyed.{Keyed, AllKeyed}
use Rattle.kilim_link_inherited.proofs.Wider.{all_kept, all_next}
use Rattle.kilim_link_inherited.proofs.entries.all_entries.Goals as goal

pub loop-one-preserved : goal.loop-one-preserved
loop-one-preserved c =
    let before = number_at c.loop-one.numbers.places in
    let after = number_at c.entries_of.new.numbers.places in
    let said = c.args.said.now in
    let i = c.loop-one.one-index in
    let lt : i < length said = omega (arith, c.loop-one-test.true) in
    let so_far = all_kept before after c.in-Ok.ensures.kept (take i said) c.loop-one.entries c.loop-one.invariant.1 in
    let one : Keyed after c.one-item.result c.in-Ok.of_one = subst (λ (ss : List Said). Keyed after ss c.in-Ok.of_one) c.as_slice.ensures c.in-Ok.ensures.keyed in
    let next = all_next after said i c.one-item.result c.loop-one.entries c.in-Ok.of_one lt c.one-item.is so_far one in (
      c.in-Ok.ensures.numbered,
      subst (λ (ess : List (List Entry)). AllKeyed after (take (i + 1) said) ess) (sym c.in-Ok-push.ensures.ok) next,
    )
