-- The bytes of an image: each image has one spelling. All numbers have their highest byte first.
use Rattle.std.specs.Prelude.{◌≡◌, ℕ, ℤ, ◌<◌, ◌≤◌, ◌^◌, Bool, true, false, ◌&&◌, not, nat_le, List, [], ◌++◌, length, codes, FitsSigned}
use Rattle.std.specs.List.{flat_map, AllByRecursion}
use Rattle.std.specs.Int.{Width, w16, w32, to_be_bytes}
use Rattle.std.specs.Str.{is_utf8}
use Rattle.kilim_class_grammar.specs.Format.{IsBytes}
use Rattle.kilim_class_grammar.specs.Reader.{is_empty}
use Rattle.kilim_class_grammar.specs.Spelling.{u1, u2, two_u4, signed}
use Rattle.kilim_image.specs.declared.image.Run.{Run}

-- the first four bytes, 4b 49 4c 4d
abbrev pub magic : List ℕ
magic = codes "KILM"

abbrev pub version : ℕ
version = 1

-- bytes, behind their number
abbrev pub block : Width → List ℕ → List ℕ
block w bytes = to_be_bytes w (length bytes) ++ bytes

-- behind their number, of one byte, the numbers of the command line
abbrev pub args_text : List ℤ → List ℕ
args_text args = u1 (length args) ++ flat_map (signed w32) args

-- behind their number, of two bytes, the class files
abbrev pub files_text : List (List ℕ) → List ℕ
files_text files = u2 (length files) ++ flat_map (block w32) files

-- the steps in eight bytes, the numbers, the name of the main class, the class files, and the text of the journal
abbrev pub parts_text : Run → List ℕ → List ℕ
parts_text run text = two_u4 run.steps ++ (args_text run.args ++ (block w16 run.main ++ (files_text run.files ++ block w32 text)))

-- the image of a run with this text as its journal
abbrev pub image_text : Run → List ℕ → List ℕ
image_text run text = magic ++ (u2 version ++ parts_text run text)

-- ---- what has a text

-- the most bytes of an image
unfoldable pub image_limit : ℕ
image_limit = 16777216

abbrev pub most_steps : ℕ
most_steps = 100000000

abbrev pub most_args : ℕ
most_args = 100

abbrev pub most_files : ℕ
most_files = 1000

-- A run that the words of a command may ask for: from 1 to 100,000,000 steps, at most 100 numbers, from 1 to 1,000 files, and a name in UTF-8
-- that isn't empty.
unfoldable pub is_right : Run → Bool
is_right run =
    (nat_le 1 run.steps && nat_le run.steps most_steps)
    && (nat_le (length run.args) most_args && ((nat_le 1 (length run.files) && nat_le (length run.files) most_files) && (not (is_empty run.main) && is_utf8 run.main)))

abbrev pub BlockFits : ℕ → List ℕ → Type 0
BlockFits limit bytes = (length bytes < limit) × IsBytes bytes

-- each number and each length is of its width
pub record PartsFit (run : Run) (text : List ℕ) : Type 0 where
  pub steps : run.steps < 2 ^ 64
  pub args : (length run.args < 2 ^ 8) × AllByRecursion (FitsSigned w32) run.args
  pub main : BlockFits (2 ^ 16) run.main
  pub files : (length run.files < 2 ^ 16) × AllByRecursion (BlockFits (2 ^ 32)) run.files
  pub journal : BlockFits (2 ^ 32) text

-- an image whose parts have texts and are right, and that isn't too long
pub record RunFits (run : Run) (text : List ℕ) : Type 0 where
  pub parts : PartsFit run text
  pub right : is_right run ≡ true
  pub size : length (image_text run text) ≤ image_limit
