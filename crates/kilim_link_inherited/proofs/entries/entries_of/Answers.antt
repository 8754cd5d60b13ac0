use Rattle.std.proofs.Common.{◌+◌, ◌<◌, length, take, List, refl, sym, subst, arith}
use Rattle.kilim_link_inherited.specs.declared.entry.Entry.{Entry}
use Rattle.kilim_link_inherited.specs.Numbers.{number_at}
use Rattle.kilim_link_inherited.specs.Keyed.{Keyed}
use Rattle.kilim_link_inherited.proofs.Wider.{keyed_kept, keyed_next}
use Rattle.kilim_link_inherited.proofs.entries.entries_of.Goals as goal

pub loop-one-preserved : goal.loop-one-preserved
loop-one-preserved c =
    let before = number_at c.loop-one.numbers.places in
    let after = number_at c.add.new.self.places in
    let said = c.args.said.now in
    let i = c.loop-one.one-index in
    let kept = c.in-Ok.ensures.kept in
    let lt : i < length said = omega (arith, c.loop-one-test.true) in
    let so_far = keyed_kept before after kept (take i said) c.loop-one.entries c.loop-one.invariant.1.1 in
    let next = keyed_next after said i c.one-item.result c.loop-one.entries (record { key = c.in-Ok.key; value = c.one-item.result.value }) lt c.one-item.is so_far c.in-Ok.ensures.here refl in (
      c.in-Ok.ensures.numbered,
      (
        λ name descriptor k is. kept name descriptor k (c.loop-one.invariant.1.0 name descriptor k is),
        subst (λ (es : List Entry). Keyed after (take (i + 1) said) es) (sym c.in-Ok-push.ensures.ok) next,
      ),
    )
