-- Class files by their names: the classes of the first files, and the first file that is none.
use Rattle.std.proofs.Common.{◌≡◌, ℕ, zero, suc, ◌+◌, ◌<◌, List, [], ◌∷◌, ◌++◌, Option, Some, None, Result, Ok, Err, refl, sym, ap, subst, ◌∙◌, length, map, take, drop, slice_index_or, arith}
use Rattle.kilim_class_file.specs.declared.class_file.ClassFile.{ClassFile}
use Rattle.kilim_class_file.specs.declared.fault.ClassFault.{ClassFault}
use Rattle.kilim_class_file.specs.Reading.{read_class}
use Rattle.kilim_stages.specs.declared.refusal.Refusal.{Refusal}
use Rattle.kilim_stages.specs.declared.refusal.Refusal.TheVariants as refusals
use Rattle.kilim_stages.specs.ProgramOf.{IsFile, AreFiles}
use Rattle.kilim_stages.specs.Parts.{Refused, IsFaultLine}
use Rattle.kilim_stages.specs.Reports.{or_fault, first_fault, IsClassReport}

next : (i : ℕ) → suc i ≡ i + 1
next i = omega arith

-- ---- one more class file

are_more : (files : List (List ℕ)) (classes : List ClassFile) (i : ℕ) (item : List ℕ) (file : ClassFile) → item ≡ slice_index_or files i item → i < length files → AreFiles (take i files) classes → IsFile item file →
    AreFiles (take (suc i) files) (classes ++ file ∷ [])
are_more [] classes i item file is lt are this = absurd (omega arith)
are_more (b ∷ files) [] zero item file is lt are this = (subst (λ (bs : List ℕ). IsFile bs file) is this, tt)
are_more (b ∷ files) (c ∷ classes) zero item file is lt are this = absurd are
are_more (b ∷ files) [] (suc i) item file is lt are this = absurd are
are_more (b ∷ files) (c ∷ classes) (suc i) item file is lt are this = (are.0, are_more files classes i item file is (omega arith) are.1 this)

pub files_more : (files : List (List ℕ)) (classes new : List ClassFile) (i : ℕ) (item now : List ℕ) (file : ClassFile) → item ≡ slice_index_or files i item → i < length files → now ≡ item → new ≡ classes ++ file ∷ [] →
    AreFiles (take i files) classes → IsFile now file → AreFiles (take (i + 1) files) new
files_more files classes new i item now file is lt named pushed are this =
    subst (λ (cs : List ClassFile). AreFiles (take (i + 1) files) cs) (sym pushed)
    (subst (λ (k : ℕ). AreFiles (take k files) (classes ++ file ∷ [])) (next i) (are_more files classes i item file is lt are (subst (λ (bs : List ℕ). IsFile bs file) named this)))

-- ---- the first file that is no class file

fault_step : {A : Type 0} (f : A → List ℕ) (names : List A) (files : List (List ℕ)) (i : ℕ) (name : A) (item : List ℕ) → i < length names → length names ≡ length files → name ≡ slice_index_or names i name → item ≡ slice_index_or files i item →
    first_fault (map f (drop i names)) (drop i files) ≡ or_fault (f name) (read_class item) (first_fault (map f (drop (suc i) names)) (drop (suc i) files))
fault_step f [] files i name item lt same is at = absurd (omega arith)
fault_step f (n ∷ names) [] i name item lt same is at = absurd (omega (arith, same))
fault_step f (n ∷ names) (b ∷ files) zero name item lt same is at =
    ap (λ m. or_fault (f m) (read_class b) (first_fault (map f names) files)) (sym is) ∙ ap (λ (bs : List ℕ). or_fault (f name) (read_class bs) (first_fault (map f names) files)) (sym at)
fault_step f (n ∷ names) (b ∷ files) (suc i) name item lt same is at = fault_step f names files i name item (omega arith) (omega (arith, same)) is at

abbrev Named : Type 0
Named = Option (List ℕ × ClassFault)

module _ {A : Type 0} (f : A → List ℕ) (names : List A) (files : List (List ℕ)) (i : ℕ) (name : A) (item now bytes : List ℕ) (lt : i < length names) (same : length names ≡ length files) (is : name ≡ slice_index_or names i name) (at : item ≡ slice_index_or files i item) (named : now ≡ f name) (read : bytes ≡ item) where
  step_named : first_fault (map f (drop i names)) (drop i files) ≡ or_fault now (read_class bytes) (first_fault (map f (drop (suc i) names)) (drop (suc i) files))
  step_named =
      fault_step f names files i name item lt same is at
      ∙ (ap (λ (n : List ℕ). or_fault n (read_class item) (first_fault (map f (drop (suc i) names)) (drop (suc i) files))) (sym named)
      ∙ ap (λ (bs : List ℕ). or_fault now (read_class bs) (first_fault (map f (drop (suc i) names)) (drop (suc i) files))) (sym read))

  pub others_on : (file : ClassFile) (total : Named) → read_class bytes ≡ Ok file → first_fault (map f (drop i names)) (drop i files) ≡ total → first_fault (map f (drop (i + 1) names)) (drop (i + 1) files) ≡ total
  others_on file total well so_far =
      let rest : Named = first_fault (map f (drop (suc i) names)) (drop (suc i) files) in
      let here : first_fault (map f (drop i names)) (drop i files) ≡ rest = step_named ∙ ap (λ (r : Result ClassFile ClassFault). or_fault now r rest) well in
      subst (λ (k : ℕ). first_fault (map f (drop k names)) (drop k files) ≡ total) (next i) (sym here ∙ so_far)

  pub refused_report : (refusal : Refusal) → first_fault (map f (drop i names)) (drop i files) ≡ first_fault (map f names) files → Refused refusal (λ text. IsFaultLine now bytes text) → Refused refusal (λ text. IsClassReport (map f names) files text)
  refused_report refusals.NoMemory so_far line = tt
  refused_report (refusals.Report text) so_far line =
      let rest : Named = first_fault (map f (drop (suc i) names)) (drop (suc i) files) in
      record { name = now; fault = line.fault; first = sym so_far ∙ (step_named ∙ ap (λ (r : Result ClassFile ClassFault). or_fault now r rest) line.read); is_text = line.is_text }
