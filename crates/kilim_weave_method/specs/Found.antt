-- The places of labels, by tables.
use Rattle.std.specs.Prelude.{◌≡◌, ℕ, Bool, ◌==◌, if◌then◌else◌, List, [], ◌∷◌, Option, Some, None, get_or}
use Rattle.kilim_weave_spec.specs.Woven.{Item, Label, Old, Resumes, behind}
use Rattle.kilim_weave_laws.specs.woven_program.labels.Law.{same_label}
use Rattle.kilim_weave_laws.specs.shape.Law.{labels_from}
use Rattle.kilim_weave_pieces.specs.Places.{Tables}

abbrev pub or_first : Option ℕ → Option ℕ → Option ℕ
or_first None other = other
or_first (Some place) other = Some place

-- the first place of a label
abbrev pub first_place_of : Label → List (Label × ℕ) → Option ℕ
first_place_of label [] = None
first_place_of label (e ∷ es) = if same_label label e.0 then Some e.1 else first_place_of label es

-- what the tables have for it
abbrev pub looked : Tables → Label → Option ℕ
looked tables (Old place) = get_or tables.old place None
looked tables (Resumes number) = get_or tables.blocks number None

-- the tables, where the end is the place of the rest, and the rest together tell each label's first place
pub record Finds (items : List Item) (tables : Tables) (rest : List Item) : Type 0 where
  pub first : (label : Label) → or_first (looked tables label) (first_place_of label (labels_from tables.end rest)) ≡ first_place_of label (labels_from 0 items)
  pub end : behind tables.end rest ≡ behind 0 items

-- in the end
pub record AreFound (items : List Item) (tables : Tables) : Type 0 where
  pub first : (label : Label) → looked tables label ≡ first_place_of label (labels_from 0 items)
  pub end : tables.end ≡ behind 0 items
