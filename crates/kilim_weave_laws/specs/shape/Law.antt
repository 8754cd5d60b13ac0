-- Where the labels of a woven method stand.
use Rattle.std.specs.Prelude.{◌≡◌, ℕ, ◌+◌, List, [], ◌∷◌}
use Rattle.kilim_weave_spec.specs.Woven.{Does, Item, Label, Mark, Plan, behind, marks, woven_items}

-- each label with its place, where the items stand from a place on
abbrev pub labels_from : ℕ → List Item → List (Label × ℕ)
labels_from q [] = []
labels_from q (Mark label frame ∷ rest) = (label, q) ∷ labels_from q rest
labels_from q (Does i size counted ∷ rest) = labels_from (q + size q) rest

-- the plan with other places
abbrev pub placed : Plan → (at block : ℕ → ℕ) → Plan
placed x at block = record x { at = at; block = block }

-- Labels stand where they stand, the code is as long as it is, and the same instructions count, whatever the plan's places are. So
-- places that are found with others are the right ones.
abbrev pub PlacesDontMatter : Type 0
PlacesDontMatter =
    (x : Plan) (at block : ℕ → ℕ) (q : ℕ) →
    (labels_from q (woven_items (placed x at block)) ≡ labels_from q (woven_items x)) × (behind q (woven_items (placed x at block)) ≡ behind q (woven_items x)) × (marks (woven_items (placed x at block)) ≡ marks (woven_items x))
