use Rattle.std.proofs.Common.{◌≡◌, ℕ, refl, arith, Some, None}
use Rattle.kilim_mail_stamps.specs.Examples.{ExamplesHold}

pub examples : ExamplesHold
examples = record {
  merged = refl;
  first_rises = (omega arith, (omega arith, (omega arith, (omega arith, (omega arith, tt)))));
  first = (_, refl, (_, refl, (_, refl, (_, refl, (_, refl, (_, refl, tt))))));
  second = (_, refl, (_, refl, (_, refl, (_, refl, (_, refl, (_, refl, tt))))));
  register = (refl, (omega arith), tt);
  bounded = (_, refl, (_, refl, (_, refl, (_, refl, (_, refl, tt)))));
  of_it = refl;
  of_no_other = refl;
  newest = λ r. absurd (let h = r.2.2.1 in cc);
  twice = λ r. absurd (let h = r.2.2.1 in cc);
  missed = λ r. absurd (let h = r.2.1 in cc);
  over = λ r. absurd (let h = r.2.2.1 in cc);
  room = λ r. absurd (let h = r.2.1 in cc);
  number = λ r. absurd (let h = r.0 in omega arith);
  tasks = λ r. absurd (let h = r.0 in omega arith);
  early = λ r. absurd (omega arith);
  same = λ r. absurd (omega arith);
}
