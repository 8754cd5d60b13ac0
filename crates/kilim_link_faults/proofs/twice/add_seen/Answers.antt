use Rattle.std.proofs.Common.{◌≡◌, sym, ap, ◌∙◌, false, inl, inr, Bool}
use Rattle.std.specs.Prelude.{◌||◌, is_some}
use Rattle.std.specs.BTreeMap.{get}
use Rattle.std.specs.Ordering.{is_eq}
use Rattle.std.proofs.lemmas.Bool.{cases_Bool}
use Rattle.kilim_link_inherited.specs.Index.{signature_cmp, same_signature}
use Rattle.kilim_link_faults.specs.Seen.{seen_in}
use Rattle.kilim_link_faults.proofs.Repeats.{same_is, key_is, turned_is}
use Rattle.kilim_link_faults.proofs.twice.add_seen.Goals as goal

pub returns : goal.returns
returns c = λ name descriptor.
    let old = seen_in c.args.seen.now name descriptor in
    elim (cases_Bool (same_signature c.args.signature name descriptor)) [
      | inl same ↦
          ap is_some (ap (get signature_cmp c.insert.new.self) (sym (key_is c.args.signature name descriptor same)) ∙ c.in_ok-insert.ensures.updates.1)
          ∙ sym (ap (λ (b : Bool). b || old) (turned_is c.args.signature name descriptor ∙ same))
      | inr apart ↦
          let other : is_eq (signature_cmp c.args.signature (record { name = name; descriptor = descriptor })) ≡ false = same_is c.args.signature (record { name = name; descriptor = descriptor }) ∙ apart in
          ap is_some (c.in_ok-insert.ensures.updates.2 (record { name = name; descriptor = descriptor }) other)
          ∙ sym (ap (λ (b : Bool). b || old) (turned_is c.args.signature name descriptor ∙ apart))
    ]
