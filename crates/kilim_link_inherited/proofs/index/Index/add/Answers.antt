use Rattle.std.proofs.Common.{◌≡◌, ap, ◌∙◌, false, inl, inr, arith}
use Rattle.std.proofs.lemmas.Grind.{common_steps}
use Rattle.std.proofs.lemmas.Bool.{cases_Bool}
use Rattle.std.specs.Ordering.{is_eq}
use Rattle.kilim_link_inherited.specs.Index.{signature_cmp, same_signature, items_of}
use Rattle.kilim_link_inherited.proofs.Signatures.{same_is, key_is}
use Rattle.kilim_link_inherited.proofs.index.Index.add.Goals as goal

pub returns : goal.returns
returns c = λ name descriptor.
    elim (cases_Bool (same_signature c.args.signature name descriptor)) [
      | inl same ↦
          let key = key_is c.args.signature name descriptor same in
          rw same (grind (arith, common_steps, key))
      | inr apart ↦
          let other : is_eq (signature_cmp c.args.signature (record { name = name; descriptor = descriptor })) ≡ false = same_is c.args.signature (record { name = name; descriptor = descriptor }) ∙ apart in
          rw apart (ap items_of (c.in-Ok-insert.ensures.updates.2 (record { name = name; descriptor = descriptor }) other ∙ c.remove.ensures.updates.2 (record { name = name; descriptor = descriptor }) other))
    ]
