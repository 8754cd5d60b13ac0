-- One frame behind others.
use Rattle.std.specs.Prelude.{◌≡◌, ℕ, Bool, true, false, List, [], ◌∷◌, ◌++◌, Option, Some, None}
use Rattle.kilim_class_attributes.specs.declared.parts.frame.Frame.{Frame as FrameForm}
use Rattle.kilim_class_pool.specs.declared.entry.Entry.{Entry}
use Rattle.kilim_program.specs.declared.verified.Frame.{Frame}
use Rattle.kilim_program.specs.declared.verified.VType.{VType}
use Rattle.kilim_link_spec.specs.World.{World}
use Rattle.kilim_link_spec.specs.Frames.{delta_of, entries_of, place_after, placed_frame}

-- some that were made, and one behind them, where it is there
abbrev pub with_last : {A : Type 0} → List A → Option A → Option (List A)
with_last made None = None
with_last made (Some last) = Some (made ++ last ∷ [])

-- one that is there was put behind others, or there is none
abbrev pub IsLast : {A : Type 0} → Option A → (made new : List A) → Bool → Type 0
IsLast last made new false = last ≡ None
IsLast last made new true = with_last made last ≡ Some new

-- The next frame is made, and its place and its locals are those that the one behind it starts from; or a type in it isn't there.
abbrev pub IsNext : World → List Entry → Option ℕ → List (Option VType) → FrameForm → (made new : List (ℕ × Frame)) → Option (ℕ × List (Option VType)) → Type 0
IsNext w pool before locals form made new None = placed_frame (place_after before (delta_of form)) (entries_of w pool locals form) ≡ None
IsNext w pool before locals form made new (Some next) =
    (next.0 ≡ place_after before (delta_of form)) × ((next.1 ≡ (entries_of w pool locals form).locals)
    × (with_last made (placed_frame (place_after before (delta_of form)) (entries_of w pool locals form)) ≡ Some new))
