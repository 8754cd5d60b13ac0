-- No class files can be woven and are reported.
use Rattle.std.proofs.Common.{◌≡◌, ℕ, List, [], ◌∷◌, Option, Some, None, Result, Ok, refl, sym, ap, subst, ◌∙◌, inl, inr}
use Rattle.kilim_lemmas.proofs.Options.{none_no_some}
use Rattle.kilim_program.specs.Program.{Program}
use Rattle.kilim_class_file.specs.declared.class_file.ClassFile.{ClassFile}
use Rattle.kilim_class_file.specs.declared.fault.ClassFault.{ClassFault}
use Rattle.kilim_class_file.specs.Law.{ClassFilesAreSpelled}
use Rattle.kilim_class_file.specs.Reading.{read_class}
use Rattle.kilim_stages.specs.Laws.{NeverBoth, OneProgramOf}
use Rattle.kilim_stages.specs.ProgramOf.{AreFiles, IsFile}
use Rattle.kilim_weave.specs.Faults.{weave_fault}
use Rattle.kilim_weave_file_command.specs.woven_files.Reports.{IsSizeReport, IsWeaveReport}
use Rattle.kilim_weave_file_command.specs.woven_files.Sizes.{first_size_fault}
use Rattle.kilim_weave_file_command.specs.Weaving.{IsWeavable}

abbrev well : ClassFile → Result ClassFile ClassFault
well file = Ok file

well_is : (f g : ClassFile) → well f ≡ well g → f ≡ g
well_is f g e = cc

module _ (law : ClassFilesAreSpelled) where
  is_read : (bytes : List ℕ) (f : ClassFile) → IsFile bytes f → read_class bytes ≡ well f
  is_read bytes f is = ap read_class is.spelled ∙ law.again f is.fits

  same_classes : (files : List (List ℕ)) (cs ds : List ClassFile) → AreFiles files cs → AreFiles files ds → cs ≡ ds
  same_classes [] [] [] p q = refl
  same_classes (b ∷ files) (c ∷ cs) (d ∷ ds) p q =
      ap (λ (x : ClassFile). x ∷ cs) (well_is c d (sym (is_read b c p.0) ∙ is_read b d q.0)) ∙ ap (λ (xs : List ClassFile). d ∷ xs) (same_classes files cs ds p.1 q.1)
  same_classes [] (c ∷ cs) ds p q = absurd p
  same_classes [] [] (d ∷ ds) p q = absurd q
  same_classes (b ∷ files) [] ds p q = absurd p
  same_classes (b ∷ files) (c ∷ cs) [] p q = absurd q

  module _ (one : OneProgramOf) where
    none_too_large : (files : List (List ℕ)) → IsWeavable files → (text : List ℕ) → IsSizeReport files text → ⊥
    none_too_large files can text report =
        let program = one files can.program report.program can.accepted.of_files report.accepted.of_files in
        let classes = same_classes files can.classes report.classes can.are_files report.are_files in
        let fit = subst (λ (p : Program). first_size_fault p can.classes ≡ None) program can.fit in
        none_no_some (report.class, report.fault) (first_size_fault report.program report.classes) (subst (λ (cs : List ClassFile). first_size_fault report.program cs ≡ None) classes fit) report.first

    module _ (both : NeverBoth) where
      pub never : (names files : List (List ℕ)) (text : List ℕ) → IsWeavable files → IsWeaveReport names files text → ⊥
      never names files text can (inl stage) = both names files text can.program can.accepted stage
      never names files text can (inr (inl report)) =
          let program = one files can.program report.program can.accepted.of_files report.accepted.of_files in
          none_no_some report.fault (weave_fault report.program) (subst (λ (p : Program). weave_fault p ≡ None) program can.none) report.first
      never names files text can (inr (inr report)) = none_too_large files can text report
