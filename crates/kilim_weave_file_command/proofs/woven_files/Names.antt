-- Texts and their UTF-16 units.
use Rattle.std.proofs.Common.{◌≡◌, ℕ, List, sym, ap, ◌∙◌}
use Rattle.std.specs.Char.Escape.{encode_utf16}
use Rattle.std.specs.List.{flat_map}
use Rattle.std.specs.Str.{IsUtf8}
use Rattle.std.specs.String.{IsUtf16Of}
use Rattle.std.proofs.lemmas.Str.{chars_from_encodes}
use Rattle.kilim_weave_file_command.specs.woven_files.WovenFiles.{utf16_of}

pub text_is : (units bytes : List ℕ) → IsUtf8 bytes → IsUtf16Of units bytes → utf16_of bytes ≡ units
text_is units bytes utf8 is = sym (is.1 ∙ ap (flat_map encode_utf16) (chars_from_encodes is.0 bytes utf8 (sym is.2)))
