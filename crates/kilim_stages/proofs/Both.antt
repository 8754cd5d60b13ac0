-- No files are both accepted and reported, and they link to no two programs.
use Rattle.std.proofs.Common.{◌≡◌, ◌⊎◌, ℕ, suc, List, [], ◌∷◌, length, Option, Some, None, Result, Ok, Err, refl, sym, ap, subst, ◌∙◌, inl, inr}
use Rattle.std.specs.List.{AllByRecursion}
use Rattle.kilim_lemmas.proofs.Options.{none_no_some}
use Rattle.kilim_program.specs.declared.class.Form.TheVariants.{Plain}
use Rattle.kilim_program.specs.declared.names.MethodId.{MethodId}
use Rattle.kilim_program.specs.Program.{Program}
use Rattle.kilim_class_file.specs.declared.class_file.ClassFile.{ClassFile}
use Rattle.kilim_class_file.specs.declared.fault.ClassFault.{ClassFault}
use Rattle.kilim_class_file.specs.Text.{ClassFits}
use Rattle.kilim_class_file.specs.Reading.{read_class}
use Rattle.kilim_class_file.specs.Law.{ClassFilesAreSpelled}
use Rattle.kilim_link_spec.specs.declared.fault.LinkFault.{LinkFault}
use Rattle.kilim_link_spec.specs.Faults as link
use Rattle.kilim_link_spec.specs.Linked.{Linked, OneProgram, first_of}
use Rattle.kilim_type_spec.specs.Faults.{first_type_fault}
use Rattle.kilim_isolation.specs.Faults.{AreReports}
use Rattle.kilim_stages.specs.ProgramOf.{IsFile, AreFiles, IsProgramOf}
use Rattle.kilim_stages.specs.Accepted.{IsAcceptedOf, IsTypedOf, typed_of}
use Rattle.kilim_stages.specs.Reports.{or_fault, first_fault, IsStageReport, IsTypingReport}
use Rattle.kilim_stages.proofs.None.{no_reports}

-- ---- class files

pub all_fit : (files : List (List ℕ)) (classes : List ClassFile) → AreFiles files classes → AllByRecursion ClassFits classes
all_fit [] [] are = tt
all_fit (b ∷ files) (c ∷ classes) are = (are.0.fits, all_fit files classes are.1)
all_fit [] (c ∷ classes) are = absurd are
all_fit (b ∷ files) [] are = absurd are

pub as_many : (files : List (List ℕ)) (classes : List ClassFile) → AreFiles files classes → length classes ≡ length files
as_many [] [] are = refl
as_many (b ∷ files) (c ∷ classes) are = ap suc (as_many files classes are.1)
as_many [] (c ∷ classes) are = absurd are
as_many (b ∷ files) [] are = absurd are

abbrev well : ClassFile → Result ClassFile ClassFault
well file = Ok file

well_is : (f g : ClassFile) → well f ≡ well g → f ≡ g
well_is f g e = cc

module _ (law : ClassFilesAreSpelled) where
  is_read : (bytes : List ℕ) (f : ClassFile) → IsFile bytes f → read_class bytes ≡ well f
  is_read bytes f is = ap read_class is.spelled ∙ law.again f is.fits

  same_file : (bytes : List ℕ) (f g : ClassFile) → IsFile bytes f → IsFile bytes g → f ≡ g
  same_file bytes f g p q = well_is f g (sym (is_read bytes f p) ∙ is_read bytes g q)

  same_classes : (files : List (List ℕ)) (cs ds : List ClassFile) → AreFiles files cs → AreFiles files ds → cs ≡ ds
  same_classes [] [] [] p q = refl
  same_classes (b ∷ files) (c ∷ cs) (d ∷ ds) p q =
      ap (λ (x : ClassFile). x ∷ cs) (same_file b c d p.0 q.0) ∙ ap (λ (xs : List ClassFile). d ∷ xs) (same_classes files cs ds p.1 q.1)
  same_classes [] (c ∷ cs) ds p q = absurd p
  same_classes [] [] (d ∷ ds) p q = absurd q
  same_classes (b ∷ files) [] ds p q = absurd p
  same_classes (b ∷ files) (c ∷ cs) [] p q = absurd q

  none_refused : (names files : List (List ℕ)) (classes : List ClassFile) → AreFiles files classes → first_fault names files ≡ None
  none_refused [] files classes are = refl
  none_refused (n ∷ names) [] classes are = refl
  none_refused (n ∷ names) (b ∷ files) [] are = absurd are
  none_refused (n ∷ names) (b ∷ files) (c ∷ classes) are =
      ap (λ (r : Result ClassFile ClassFault). or_fault n r (first_fault names files)) (is_read b c are.0) ∙ none_refused names files classes are.1

  module _ (one : OneProgram) where
    pub same_program : (files : List (List ℕ)) (p q : Program) → IsProgramOf files p → IsProgramOf files q → p ≡ q
    same_program files p q a b =
        let same = same_classes files b.classes a.classes b.are_files a.are_files in
        one a.classes Plain p q a.linked (subst (λ (cs : List ClassFile). Linked cs Plain q) same b.linked)

    pub never_typed : (names files : List (List ℕ)) (text : List ℕ) (p : Program) → IsTypedOf files p → IsTypingReport names files text → ⊥
    unfolding link.first_fault
    never_typed names files text p is (inl class) = none_no_some (class.name, class.fault) (first_fault names files) (none_refused names files is.of_files.classes is.of_files.are_files) class.first
    never_typed names files text p is (inr (inl report)) =
        let same = same_classes files is.of_files.classes report.classes is.of_files.are_files report.are_files in
        let none = subst (λ (cs : List ClassFile). link.link_faults cs Plain ≡ []) same is.of_files.none in
        none_no_some _ (link.first_fault report.classes Plain) (ap (λ (faults : List LinkFault). first_of faults) none) report.first
    never_typed names files text p is (inr (inr typing)) =
        let same = same_program files p typing.program is.of_files typing.of_files in
        none_no_some (typing.method, typing.place, typing.rule) (first_type_fault typing.program) (subst (λ (q : Program). first_type_fault q ≡ None) same is.typed) typing.first

    typed_too : (files : List (List ℕ)) (p : Program) → IsAcceptedOf files p → IsTypedOf files p
    typed_too files p is = record { of_files = is.of_files; typed = is.accepts.typed }

    pub never_both : (names files : List (List ℕ)) (text : List ℕ) (p : Program) → IsAcceptedOf files p → IsStageReport names files text → ⊥
    never_both names files text p is (inl class) = never_typed names files text p (typed_too files p is) (inl class)
    never_both names files text p is (inr (inl report)) = never_typed names files text p (typed_too files p is) (inr (inl report))
    never_both names files text p is (inr (inr (inl typing))) = never_typed names files text p (typed_too files p is) (inr (inr typing))
    never_both names files text p is (inr (inr (inr rules))) =
        let same = same_program files rules.program p rules.of_files is.of_files in
        rules.some (no_reports (typed_of p) rules.reports is.accepts.isolated (subst (λ (q : Program). AreReports (typed_of q) rules.reports) same rules.are_reports))
