-- As many files were read as there are names.
use Rattle.std.proofs.Common.{◌≡◌, ℕ, suc, List, [], ◌∷◌, length, map, Option, refl, sym, ap, ◌∙◌}
use Rattle.std.proofs.lemmas.List.{length-map}
use Rattle.kilim_outside.specs.Files.{Files}
use Rattle.kilim_command.specs.Reads.{WereRead}

many : (contents : Option Files) (names files : List (List ℕ)) → WereRead contents names files → length names ≡ length files
many contents [] [] were = refl
many contents (n ∷ names) (b ∷ files) were = ap suc (many contents names files were.1)
many contents [] (b ∷ files) were = absurd were
many contents (n ∷ names) [] were = absurd were

pub many_named : {A : Type 0} (contents : Option Files) (name : A → List ℕ) (names : List A) (files read : List (List ℕ)) → read ≡ files → WereRead contents (map name names) files → length names ≡ length read
many_named contents name names files read same were = sym (length-map names name) ∙ (many contents (map name names) files were ∙ ap length (sym same))
