-- An entry that is added behind the others.
use Rattle.std.proofs.Common.{◌≡◌, inl, inr, ℕ, List, [], ◌∷◌, ◌++◌, ap}
use Rattle.kilim_class_pool.specs.declared.entry.Entry.{Entry}
use Rattle.kilim_class_pool.specs.Entries.{count_of}
use Rattle.kilim_class_pool.specs.Adding.{Adds}

-- it is, where the count isn't what it was
pub appended : (old new : List Entry) (entry : Entry) (index : ℕ) → Adds old entry new index → (count_of new ≡ count_of old → ⊥) → new ≡ old ++ entry ∷ []
appended old new entry index (inl there) differs = absurd (differs (ap count_of there.1))
appended old new entry index (inr behind) differs = behind.2
