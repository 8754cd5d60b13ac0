-- Woven files with their paths.
use Rattle.std.proofs.Common.{◌≡◌, ◌≢◌, ◌≤◌, ℕ, List, [], ◌∷◌, length, map, sym, subst}
use Rattle.std.specs.List.{AllByRecursion}
use Rattle.std.specs.String.{string_bytes}
use Rattle.kilim_weave_file_command.specs.declared.woven_files.made.WovenFile.{WovenFile}
use Rattle.kilim_weave_file_command.specs.woven_files.Laws as woven
use Rattle.kilim_weave_file_command.specs.woven_files.WovenFiles.{AreWovenFiles, path_of, wove_lines}
use Rattle.kilim_outside.specs.written.OutputFile.{OutputFile}
use Rattle.kilim_outside.specs.written.Written.{HaveOwnPaths}
use Rattle.kilim_weave_file_command.specs.Weaving.{IsWeaving, output_of}

other_paths : (to path : List ℕ) (files : List WovenFile) → AllByRecursion (λ (other : WovenFile). path ≢ path_of to (string_bytes other.name)) files → AllByRecursion (λ (other : OutputFile). path ≢ other.path) (map (output_of to) files)
other_paths to path [] all = tt
other_paths to path (f ∷ files) all = (all.0, other_paths to path files all.1)

own_paths : (to : List ℕ) (files : List WovenFile) → woven.HaveOwnPaths to files → HaveOwnPaths (map (output_of to) files)
own_paths to [] own = tt
own_paths to (f ∷ files) own = (other_paths to (path_of to (string_bytes f.name)) files own.0, own_paths to files own.1)

pub is_weaving : woven.OwnPaths → (to : List ℕ) (files : List (List ℕ)) (outputs : List WovenFile) (made : List OutputFile) (text : List ℕ) → length files ≤ 1000 → AreWovenFiles files outputs → made ≡ map (output_of to) outputs → text ≡ wove_lines outputs → IsWeaving to files made text
is_weaving law to files outputs made text few are_woven are_made is_text = record {
  woven_files = outputs;
  are_woven = are_woven;
  are_made = are_made;
  own_paths = subst HaveOwnPaths (sym are_made) (own_paths to outputs (law files outputs to few are_woven));
  is_text = is_text;
}
