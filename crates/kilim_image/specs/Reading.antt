-- Reading an image from its first byte to its last. Faults of lengths come first, then those of numbers.
use Rattle.std.specs.Prelude.{◌≡◌, ℕ, ℤ, ◌-◌, ◌==◌, Bool, nat_eq, nat_le, List, ◌++◌, length, take, Result, Ok, Err}
use Rattle.std.specs.List.{starts_with}
use Rattle.std.specs.Int.{Width, w8, w16, w32, w64}
use Rattle.kilim_class_grammar.specs.Reader.{Reader, ◌>>=◌, checked, number_at, signed_at, bytes_at, both, followed, made, tested, counted, is_empty}
use Rattle.kilim_image.specs.declared.image.Run.{Run}
use Rattle.kilim_image.specs.declared.fault.ImageFault.{ImageFault}
use Rattle.kilim_image.specs.declared.fault.ImageFault.TheVariants as fault
use Rattle.kilim_image.specs.Text.{magic, version, image_limit, is_right}

-- whether the first four bytes, as far as they are there, are those of an image
unfoldable pub begins_well : List ℕ → Bool
begins_well bytes = starts_with nat_eq magic (take 4 bytes)

-- a byte that differs comes before a cut
unfoldable pub magic_at : Reader ImageFault (List ℕ)
magic_at bytes = checked (begins_well bytes) fault.Magic (bytes_at fault.Cut 4 bytes)

unfoldable pub version_at : Reader ImageFault ℕ
version_at = tested (λ v. v == version) fault.Version (number_at fault.Cut w16)

-- bytes, behind their number
unfoldable pub block_at : Width → Reader ImageFault (List ℕ)
block_at w = made (λ x. x.1) (followed (number_at fault.Cut w) (bytes_at fault.Cut))

unfoldable pub args_at : Reader ImageFault (List ℤ)
args_at = counted fault.Cut w8 (signed_at fault.Cut w32)

unfoldable pub files_at : Reader ImageFault (List (List ℕ))
files_at = counted fault.Cut w16 (block_at w32)

abbrev pub Parts : Type 0
Parts = (ℕ × List ℤ) × (List ℕ × (List (List ℕ) × List ℕ))

-- the steps and the numbers; the name, the files and the journal's text
unfoldable pub parts_at : Reader ImageFault Parts
parts_at = both (both (number_at fault.Cut w64) args_at) (both (block_at w16) (both files_at (block_at w32)))

-- a run, with the text of its journal
abbrev pub Held : Type 0
Held = Run × List ℕ

abbrev pub parts_of : Held → Parts
parts_of x = ((x.0.steps, x.0.args), (x.0.main, (x.0.files, x.1)))

abbrev pub held_of : Parts → Held
held_of x = (record { steps = x.0.0; args = x.0.1; main = x.1.0; files = x.1.1.0 }, x.1.1.1)

-- an image, whatever follows
unfoldable pub image_at : Reader ImageFault Held
image_at = made (λ x. held_of x.1) (both (both magic_at version_at) parts_at)

-- all of the bytes, and then the numbers
abbrev pub ended : List ℕ → Held × List ℕ → Result Held ImageFault
ended bytes x = checked (is_empty x.1) (fault.Extra (length bytes - length x.1)) (checked (is_right x.0.0) fault.Number (Ok x.0))

-- that there are too many bytes is asked before any part
unfoldable pub read_image : List ℕ → Result Held ImageFault
read_image bytes = checked (nat_le (length bytes) image_limit) fault.TooLarge (image_at bytes >>= ended bytes)
