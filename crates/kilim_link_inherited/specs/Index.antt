-- Where names stand in lists.
use Rattle.std.specs.Prelude.{ℕ, ◌+◌, Bool, ◌&&◌, if◌then◌else◌, List, [], ◌∷◌, Option, Some, None}
use Rattle.std.specs.BTreeMap.{BTreeMap, get}
use Rattle.std.specs.Ordering.{nat_cmp, on, then_cmp}
use Rattle.std.specs.declared.cmp.Ordering.{Ordering}
use Rattle.std.specs.Cmp.Lexicographic.{slice_cmp}
use Rattle.std.specs.Str.{bytes_eq}
use Rattle.std.specs.Global.{Vec}
use Rattle.kilim_link_inherited.specs.declared.signature.Signature.{Signature}

-- the order of names with descriptors: by name, then by descriptor
abbrev pub signature_cmp : Signature → Signature → Ordering
signature_cmp = then_cmp (on (λ s. s.name) (slice_cmp nat_cmp)) (on (λ s. s.descriptor) (slice_cmp nat_cmp))

-- the elements of a vector, none where there is none
abbrev pub items_of : Option (Vec ℕ) → List ℕ
items_of None = []
items_of (Some v) = v.items

-- the places that a map has for a name with its descriptor
abbrev pub positions : BTreeMap Signature (Vec ℕ) → List ℕ → List ℕ → List ℕ
positions m name descriptor = items_of (get signature_cmp m (record { name = name; descriptor = descriptor }))

-- whether a name and a descriptor are these
abbrev pub same_signature : Signature → List ℕ → List ℕ → Bool
same_signature s name descriptor = bytes_eq s.name name && bytes_eq s.descriptor descriptor

-- the places of those that pass a test, where the list starts at a place
abbrev pub places_from : {A : Type 0} → (A → Bool) → ℕ → List A → List ℕ
places_from test i [] = []
places_from test i (x ∷ xs) = if test x then i ∷ places_from test (i + 1) xs else places_from test (i + 1) xs
