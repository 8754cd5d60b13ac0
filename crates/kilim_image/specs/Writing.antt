-- Writing an image: when it has bytes, and how many.
use Rattle.std.specs.Prelude.{◌≡◌, ℕ, ◌<◌, ◌≤◌, ◌^◌, List, length}
use Rattle.std.specs.List.{AllByRecursion}
use Rattle.kilim_image.specs.declared.image.Run.{Run}
use Rattle.kilim_image.specs.declared.fault.WriteFault.{WriteFault}
use Rattle.kilim_image.specs.declared.fault.WriteFault.TheVariants as fault
use Rattle.kilim_image.specs.Text.{image_text, image_limit}

-- each count but those of bytes is a number of its width
pub record HasSize (run : Run) : Type 0 where
  pub args : length run.args < 2 ^ 8
  pub main : length run.main < 2 ^ 16
  pub files : length run.files < 2 ^ 16

-- the number of each file's bytes is one of four bytes
abbrev pub AreShort : List (List ℕ) → Type 0
AreShort files = AllByRecursion (λ (file : List ℕ). length file < 2 ^ 32) files

-- the bytes are those of the image, and not too many
pub record IsWritten (run : Run) (text bytes : List ℕ) : Type 0 where
  pub bytes_are : bytes ≡ image_text run text
  pub few : length bytes ≤ image_limit

-- so many bytes the image would have, which are too many; want of memory may always be
abbrev pub IsWriteFault : Run → List ℕ → WriteFault → Type 0
IsWriteFault run text (fault.TooLarge size) = (size ≡ length (image_text run text)) × (image_limit < size)
IsWriteFault run text fault.Memory = Unit {0}
