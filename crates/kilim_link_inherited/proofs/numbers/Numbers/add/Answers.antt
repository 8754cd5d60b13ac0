use Rattle.std.proofs.Common.{◌≡◌, Some, None, sym, ap, ◌∙◌, arith}
use Rattle.kilim_link_inherited.specs.declared.signature.Signature.{Signature}
use Rattle.kilim_link_inherited.specs.Numbers.{number_at}
use Rattle.kilim_link_inherited.proofs.Signatures.{same_is}
use Rattle.kilim_link_inherited.proofs.Numbering.{kept, all_below, all_apart}
use Rattle.kilim_link_inherited.proofs.numbers.Numbers.add.Goals as goal

pub returns-clause-kept : goal.returns-clause-kept
returns-clause-kept c =
    let s = c.in-Ok.copy in
    let none : number_at c.args.self.now.places s.name s.descriptor ≡ None = ap (λ (q : Signature). number_at c.args.self.now.places q.name q.descriptor) c.in-Ok.ensures ∙ sym c.in_default.ensures in
    let here : number_at c.insert.new.self s.name s.descriptor ≡ Some c.args.self.now.next = c.in-Ok-insert.ensures.updates.1 in
    kept (number_at c.args.self.now.places) (number_at c.insert.new.self) s c.args.self.now.next none here
    (λ name descriptor apart. c.in-Ok-insert.ensures.updates.2 (record { name = name; descriptor = descriptor }) (same_is s (record { name = name; descriptor = descriptor }) ∙ apart))

pub returns-clause-numbered : goal.returns-clause-numbered
returns-clause-numbered c =
    let s = c.in-Ok.copy in
    let none : number_at c.args.self.now.places s.name s.descriptor ≡ None = ap (λ (q : Signature). number_at c.args.self.now.places q.name q.descriptor) c.in-Ok.ensures ∙ sym c.in_default.ensures in
    let here : number_at c.insert.new.self s.name s.descriptor ≡ Some c.args.self.now.next = c.in-Ok-insert.ensures.updates.1 in
    record {
      apart =
          all_apart (number_at c.args.self.now.places) (number_at c.insert.new.self) s c.args.self.now.next none here
          (λ name descriptor apart. c.in-Ok-insert.ensures.updates.2 (record { name = name; descriptor = descriptor }) (same_is s (record { name = name; descriptor = descriptor }) ∙ apart))
          c.requires.below c.requires.apart;
      below =
          all_below (number_at c.args.self.now.places) (number_at c.insert.new.self) s c.args.self.now.next none here
          (λ name descriptor apart. c.in-Ok-insert.ensures.updates.2 (record { name = name; descriptor = descriptor }) (same_is s (record { name = name; descriptor = descriptor }) ∙ apart))
          c.requires.below;
      fits = omega arith;
    }
