-- The locals of a frame, one by one.
use Rattle.std.proofs.Common.{◌≡◌, false, List, [], ◌∷◌, refl, ap}
use Rattle.kilim_program.specs.declared.verified.VType.{VType}
use Rattle.kilim_program.specs.declared.verified.VType.TheVariants.{Top, Int, Long, Null, UninitThis, Uninit, Object}
use Rattle.kilim_weave_file.specs.Parts.{entries_from}
use Rattle.kilim_weave_file_spec.specs.FullFrames.{entries}

pub entries_are : (ts : List VType) → entries_from false ts ≡ entries ts
entries_are [] = refl
entries_are (Long ∷ []) = refl
entries_are (Long ∷ half ∷ ts) = ap (λ xs. Long ∷ xs) (entries_are ts)
entries_are (Top ∷ ts) = ap (λ xs. Top ∷ xs) (entries_are ts)
entries_are (Int ∷ ts) = ap (λ xs. Int ∷ xs) (entries_are ts)
entries_are (Null ∷ ts) = ap (λ xs. Null ∷ xs) (entries_are ts)
entries_are (UninitThis ∷ ts) = ap (λ xs. UninitThis ∷ xs) (entries_are ts)
entries_are (Uninit place ∷ ts) = ap (λ xs. Uninit place ∷ xs) (entries_are ts)
entries_are (Object ty ∷ ts) = ap (λ xs. Object ty ∷ xs) (entries_are ts)
