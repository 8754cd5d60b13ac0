-- The labels of a woven method are found where they stand.
use Rattle.std.specs.Prelude.{◌≡◌, ℕ, ◌+◌, Bool, true, false, ◌==◌, if◌then◌else◌, List, [], ◌∷◌}
use Rattle.kilim_program.specs.Lengths.{code_stands}
use Rattle.kilim_weave_spec.specs.Woven.{Label, Labelled, Old, Plan, Resumes, behind, woven_items}
use Rattle.kilim_weave_laws.specs.shape.Law.{labels_from, placed}

abbrev pub same_label : Label → Label → Bool
same_label (Old a) (Old b) = a == b
same_label (Resumes a) (Resumes b) = a == b
same_label _ _ = false

-- the first place of a label, and another number where it has none
abbrev pub found : (other : ℕ) → Label → List (Label × ℕ) → ℕ
found other label [] = other
found other label (e ∷ es) = if same_label label e.0 then e.1 else found other label es

-- The plan with the places at which its labels are found. Numbers that are no places of the old code go behind the new code.
abbrev pub found_plan : Plan → Plan
found_plan x =
    let labels = labels_from 0 (woven_items x) in
    placed x (λ place. found (behind 0 (woven_items x) + place) (Old place) labels) (λ number. found 0 (Resumes number) labels)

-- Where code stands whole, the labels are right, and different old places go to different new ones.
abbrev pub LabelsAreFound : Type 0
LabelsAreFound =
    (x : Plan) → code_stands 0 x.method.code x.method.code_length ≡ true →
    Labelled (found_plan x) 0 (woven_items (found_plan x)) × ((a b : ℕ) → (found_plan x).at a ≡ (found_plan x).at b → a ≡ b)
