-- The lines on images, each with its line feed (own).
use Rattle.std.specs.Prelude.{ℕ, List, [], ◌++◌, codes}
use Rattle.std.specs.Fmt.{decimal}
use Rattle.kilim_image.specs.declared.fault.ImageFault.{ImageFault}
use Rattle.kilim_image.specs.declared.fault.ImageFault.TheVariants as fault

-- what is wrong with an image, in a word
unfoldable pub image_line : List ℕ → List ℕ
image_line word = codes "image " ++ (word ++ codes "\n")

-- and with a number
unfoldable pub number_line : List ℕ → ℕ → List ℕ
number_line word number = codes "image " ++ (word ++ (codes " " ++ (decimal number ++ codes "\n")))

-- the image would have so many bytes, which are too many
unfoldable pub size_line : ℕ → List ℕ
size_line size = number_line (codes "too-large") size

-- no state follows with the journal's line of that number, from 1 on
unfoldable pub replay_line : ℕ → List ℕ
replay_line line = number_line (codes "replay") line

-- why bytes are no image; of want of memory there is no line
unfoldable pub fault_line : ImageFault → List ℕ
fault_line fault.TooLarge = image_line (codes "too-large")
fault_line fault.Magic = image_line (codes "magic")
fault_line (fault.Version version) = number_line (codes "version") version
fault_line fault.Cut = image_line (codes "cut")
fault_line (fault.Extra at) = number_line (codes "extra") at
fault_line fault.Number = image_line (codes "number")
fault_line (fault.Journal line) = number_line (codes "journal") line
fault_line fault.Memory = []
