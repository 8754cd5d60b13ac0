-- Where no fault is named there is none.
use Rattle.std.proofs.Common.{◌≡◌, List, [], ◌∷◌, None, refl}
use Rattle.kilim_link_spec.specs.Linked.{first_of}
use Rattle.kilim_link_spec.specs.Faults.{first_fault, link_faults}
use Rattle.kilim_link_spec.specs.Laws.{NoneIsNamed}

none_first : {A : Type 0} → (xs : List A) → first_of xs ≡ None → xs ≡ []
none_first [] e = refl
none_first (x ∷ xs) e = absurd (cc)

pub none_is_named : NoneIsNamed
unfolding first_fault
none_is_named files form e = none_first (link_faults files form) e
