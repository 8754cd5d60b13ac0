-- No files are both woven and reported.
use Rattle.std.proofs.Common.{◌≡◌, ℕ, List, [], ◌∷◌, Option, Some, None, Result, Ok, refl, sym, ap, subst, ◌∙◌, inl, inr}
use Rattle.kilim_lemmas.proofs.Options.{none_no_some}
use Rattle.kilim_program.specs.Program.{Program}
use Rattle.kilim_class_file.specs.declared.class_file.ClassFile.{ClassFile}
use Rattle.kilim_class_file.specs.declared.fault.ClassFault.{ClassFault}
use Rattle.kilim_class_file.specs.Law.{ClassFilesAreSpelled}
use Rattle.kilim_class_file.specs.Reading.{read_class}
use Rattle.kilim_stages.specs.Laws.{OneProgramOf}
use Rattle.kilim_stages.specs.ProgramOf.{AreFiles, IsFile}
use Rattle.kilim_weave_file_command.specs.woven_files.Laws.{NeverWovenAndReported}
use Rattle.kilim_weave_file_command.specs.woven_files.Sizes.{first_size_fault}
use Rattle.kilim_stages.specs.woven_stage.Laws.{WovenIsNotReported}

abbrev well : ClassFile → Result ClassFile ClassFault
well file = Ok file

well_is : (f g : ClassFile) → well f ≡ well g → f ≡ g
well_is f g e = cc

module _ (law : ClassFilesAreSpelled) where
  is_read : (bytes : List ℕ) (f : ClassFile) → IsFile bytes f → read_class bytes ≡ well f
  is_read bytes f is = ap read_class is.spelled ∙ law.again f is.fits

  same_file : (bytes : List ℕ) (f g : ClassFile) → IsFile bytes f → IsFile bytes g → f ≡ g
  same_file bytes f g p q = well_is f g (sym (is_read bytes f p) ∙ is_read bytes g q)

  pub same_classes : (files : List (List ℕ)) (cs ds : List ClassFile) → AreFiles files cs → AreFiles files ds → cs ≡ ds
  same_classes [] [] [] p q = refl
  same_classes (b ∷ files) (c ∷ cs) (d ∷ ds) p q =
      ap (λ (x : ClassFile). x ∷ cs) (same_file b c d p.0 q.0) ∙ ap (λ (xs : List ClassFile). d ∷ xs) (same_classes files cs ds p.1 q.1)
  same_classes [] (c ∷ cs) ds p q = absurd p
  same_classes [] [] (d ∷ ds) p q = absurd q
  same_classes (b ∷ files) [] ds p q = absurd p
  same_classes (b ∷ files) (c ∷ cs) [] p q = absurd q

  pub never : OneProgramOf → WovenIsNotReported → NeverWovenAndReported
  never one before names files text outputs is (inl report) = before names files text is.program is.accepted is.none (inl report)
  never one before names files text outputs is (inr (inl report)) = before names files text is.program is.accepted is.none (inr report)
  never one before names files text outputs is (inr (inr report)) =
      let same = one files is.program report.program is.accepted.of_files report.accepted.of_files in
      let classes = same_classes files is.classes report.classes is.are_files report.are_files in
      let fit = subst (λ (q : Program). first_size_fault q is.classes ≡ None) same is.fit in
      none_no_some (report.class, report.fault) (first_size_fault report.program report.classes) (subst (λ (cs : List ClassFile). first_size_fault report.program cs ≡ None) classes fit) report.first
