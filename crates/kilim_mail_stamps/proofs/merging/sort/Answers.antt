use Rattle.std.proofs.Common.{rules}
use Rattle.std.proofs.lemmas.List.Sorted.{answers_always, ties_still_rise, IsPermutation-trans, IsNonDecreasingBy-from_sort_by_key}
use Rattle.kilim_mail_stamps.proofs.Merges.{sorted_is, near_from}
use Rattle.kilim_mail_stamps.proofs.merging.sort.Goals as goal

pub returns : goal.returns
returns c =
    sorted_is c.args.entries.now.items c.sort_by_key-2.new.self.items (IsPermutation-trans _ _ _ c.sort_by_key.ensures.permutation c.sort_by_key-2.ensures.permutation) c.requires
    (near_from c.sort_by_key-2.new.self.items (IsNonDecreasingBy-from_sort_by_key (λ s. s.stamp) _ c.in-Ok-sort_by_key.ensures.sorted (λ a r q k. search rules))
    (ties_still_rise (λ s. s.entry.task) (λ s. s.stamp) _ _ (c.in-Ok.ensures.sorted (λ s. s.entry.task) (answers_always _ _ _ (λ f a r g h. search rules)))
    (c.sort_by_key-2.ensures.stable (λ s. s.stamp) (answers_always _ _ _ (λ f a r g h. search rules)))))
