-- What is still to come, as the loop keeps it: the last one comes first.
use Rattle.std.proofs.Common.{◌≡◌, ℕ, zero, suc, ◌-◌, ◌<◌, List, [], ◌∷◌, ◌++◌, ap, arith, reverse, replicate}
use Rattle.std.specs.List.{flat_map}
use Rattle.std.proofs.lemmas.List.{reverse-append}
use Rattle.kilim_class_attributes.specs.declared.parts.annotation.Asked.{Asked}
use Rattle.kilim_class_attributes.specs.declared.parts.annotation.PartKind.{PartKind}
use Rattle.kilim_class_attributes.specs.parts.Annotations.{kinds_of}

abbrev pub pending : List Asked → List PartKind
pending to_come = flat_map kinds_of (reverse to_come)

pub pending_last : (to_come : List Asked) (last : Asked) → pending (to_come ++ last ∷ []) ≡ kinds_of last ++ pending to_come
pending_last to_come last = ap (flat_map kinds_of) (reverse-append to_come (last ∷ []))

-- the first of some
pub first_kind : (kind : PartKind) (count : ℕ) → 0 < count → replicate count kind ≡ kind ∷ replicate (count - 1) kind
first_kind kind zero some = absurd (omega arith)
first_kind kind (suc count) some = ap (λ (n : ℕ). kind ∷ replicate n kind) (omega arith)
