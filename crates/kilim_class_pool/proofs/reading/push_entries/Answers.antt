use Rattle.std.proofs.Common.{◌+◌, ◌++◌, ◌∷◌, [], refl, ap, sym, ◌∙◌, true, false}
use Rattle.kilim_class_pool.specs.declared.fault.PoolFault.TheVariants as pool
use Rattle.kilim_class_pool.specs.Entries.{is_wide}
use Rattle.kilim_class_pool.specs.Reading.{entries_at}
use Rattle.kilim_class_pool.proofs.EntryLoop.{stops, is_done, same, after_second, after_entry}
use Rattle.kilim_class_pool.proofs.reading.push_entries.Goals.{then-second, else-second+in-Ok+in-Ok-push}
use Rattle.kilim_class_pool.proofs.reading.push_entries.Goals as goal

pub returns-in-Err : goal.returns-in-Err
returns-in-Err c =
    let total = entries_at c.args.count false 1 c.args.bytes.now in
    let known = same total c.args.count c.loop-i.i c.loop-i.entries c.loop-i.entries c.loop-i.second false c.loop-i.rest.now c.loop-i.rest.now refl c.if-second.false refl c.loop-i.invariant in
    stops c.loop-i.entries c.args.count c.loop-i.i c.loop-i.rest.now total pool.Memory c.in-Err.fault c.loop-i-test.true c.in-Err.ensures.read known.so_far

pub loop-i-preserved : goal.loop-i-preserved
loop-i-preserved c =
    let total = entries_at c.args.count false 1 c.args.bytes.now in
    elim c.if-second.branch [
      | then-second w ↦
          let known = same total c.args.count c.loop-i.i c.loop-i.entries c.loop-i.entries c.loop-i.second true c.loop-i.rest.now c.loop-i.rest.now refl w.if-second.true refl c.loop-i.invariant in
          same total c.args.count (c.loop-i.i + 1) c.loop-i.entries c.if-second.entries false c.if-second.second c.loop-i.rest.now c.if-second.rest.now (sym w.entries-is) (sym w.second-is) (ap (λ r. r.now) (sym w.rest-is))
          (after_second total c.args.count c.loop-i.i c.loop-i.entries c.loop-i.rest.now c.loop-i-test.true known)
      | else-second+in-Ok+in-Ok-push w ↦
          let x = w.in-Ok.entry in
          let after = w.in-Ok.after.now in
          let known = same total c.args.count c.loop-i.i c.loop-i.entries c.loop-i.entries c.loop-i.second false c.loop-i.rest.now c.loop-i.rest.now refl w.if-second.false refl c.loop-i.invariant in
          same total c.args.count (c.loop-i.i + 1) (c.loop-i.entries ++ x ∷ []) c.if-second.entries (is_wide x) c.if-second.second after c.if-second.rest.now
          (sym w.in-Ok-push.ensures.ok ∙ sym w.entries-is) (sym w.is_wide-second.ensures ∙ sym w.second-is) (ap (λ r. r.now) (sym w.rest-is))
          (after_entry total c.args.count c.loop-i.i c.loop-i.entries c.loop-i.rest.now c.loop-i-test.true x after known w.in-Ok.ensures.read w.in-Ok.ensures.wide)
    ]

pub returns : goal.returns
returns c = is_done c.loop-i.entries c.args.count c.loop-i.i c.loop-i.rest.now (entries_at c.args.count false 1 c.args.bytes.now) c.loop-i.second c.loop-i-test.false c.loop-i.invariant.so_far
