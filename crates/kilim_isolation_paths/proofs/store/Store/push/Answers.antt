use Rattle.std.proofs.Common.{◌≡◌, ap, arith, rules, length, refl, ◌∙◌}
use Rattle.std.proofs.Math.ListN.{length-set}
use Rattle.kilim_isolation_paths.proofs.Lists.{cut_back}
use Rattle.kilim_isolation_paths.proofs.Rows.{rows_pushed, rows_back}
use Rattle.kilim_isolation_paths.proofs.store.Store.push.Goals as goal

pub index_mut-requires : goal.index_mut-requires
index_mut-requires g c = let size : length c.self.inside.rows.items ≡ c.args.self.now.size = ap (λ v. v.size) c.self.view_is in omega (arith, size, c.requires)

pub invariant_of-self-in-Ok-push-2 : goal.invariant_of-self-in-Ok-push-2
invariant_of-self-in-Ok-push-2 g c =
    let size : length c.self.inside.rows.items ≡ c.args.self.now.size = ap (λ v. v.size) c.self.view_is in
    rows_pushed c.self.inside.entries.items c.push.new.self.items _ c.self.inside.rows.items c.len-at.result c.args.place c.index_mut.result.now c.push-2.new.self c.self.invariant (omega arith) c.index_mut.ensures.value c.in-Ok-push-2.ensures.items (search rules) c.in-Ok-push.ensures.items refl

pub invariant_of-self-in-Err : goal.invariant_of-self-in-Err
invariant_of-self-in-Err g c =
    let size : length c.self.inside.rows.items ≡ c.args.self.now.size = ap (λ v. v.size) c.self.view_is in
    let at : c.len-at.result ≡ length c.self.inside.entries.items = omega (arith, c.len-at.ensures, c.self.inside.entries.ok.0) in
    rows_back c.self.inside.entries.items c.truncate.new.self.items c.self.inside.rows.items c.args.place c.index_mut.result.now c.push-2.new.self c.self.invariant (omega (arith, size, c.requires)) c.index_mut.ensures.value c.in-Err.ensures.items (cut_back _ _ _ _ _ at c.in-Ok-push.ensures.items c.truncate.ensures.items)

pub returns-in-Err-clause-err : goal.returns-in-Err-clause-err
returns-in-Err-clause-err g c =
    let at : c.len-at.result ≡ length c.self.inside.entries.items = omega (arith, c.len-at.ensures, c.self.inside.entries.ok.0) in
    (λ i. record { entries = cut_back _ _ _ _ _ at c.in-Ok-push.ensures.items c.truncate.ensures.items i; size = length-set c.self.inside.rows.items c.args.place c.push-2.new.self i }) ∙ c.self.view_is
