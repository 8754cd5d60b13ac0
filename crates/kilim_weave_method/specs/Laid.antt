-- Items that are laid out one after the other.
use Rattle.std.specs.Prelude.{◌≡◌, ℕ, Bool, List, ◌++◌}
use Rattle.kilim_program.specs.declared.instr.Instr.{Instr}
use Rattle.kilim_program.specs.declared.verified.Frame.{Frame}
use Rattle.kilim_weave_spec.specs.Woven.{Item, behind, lay, lay_frames, marks}

-- what was laid out, and the place behind it
pub record Output : Type 0 where
  pub code : List (ℕ × Instr)
  pub frames : List (ℕ × Frame)
  pub counted : List Bool
  pub end : ℕ

-- with the one items behind the one output it is as with the others behind the other
pub record Follows (a : Output) (items : List Item) (b : Output) (rest : List Item) : Type 0 where
  pub code : b.code ++ lay b.end rest ≡ a.code ++ lay a.end items
  pub frames : b.frames ++ lay_frames b.end rest ≡ a.frames ++ lay_frames a.end items
  pub counted : b.counted ++ marks rest ≡ a.counted ++ marks items
  pub end : behind b.end rest ≡ behind a.end items

-- all of it
pub record IsLaid (items : List Item) (b : Output) : Type 0 where
  pub code : b.code ≡ lay 0 items
  pub frames : b.frames ≡ lay_frames 0 items
  pub counted : b.counted ≡ marks items
  pub end : b.end ≡ behind 0 items
