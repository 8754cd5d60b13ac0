-- The class files of the demo are class files: no report is that of one that isn't.
use Rattle.std.proofs.Common.{◌≡◌, inl, inr, ℕ, List, [], ◌∷◌, None, Result, Ok, Err, map, refl, ap, subst, ◌∙◌}
use Rattle.std.specs.List.{AllByRecursion}
use Rattle.kilim_lemmas.proofs.Options.{none_no_some}
use Rattle.kilim_class_file.specs.declared.class_file.ClassFile.{ClassFile}
use Rattle.kilim_class_file.specs.declared.fault.ClassFault.{ClassFault}
use Rattle.kilim_class_file.specs.Law.{ClassFilesAreSpelled}
use Rattle.kilim_class_file.specs.Text.{class_text, ClassFits}
use Rattle.kilim_stages.specs.Reports.{IsClassReport, first_fault, or_fault}
use Rattle.kilim_stages.specs.declared.refusal.Refusal.{Refusal}
use Rattle.kilim_stages.specs.declared.refusal.Refusal.TheVariants as refusal
use Rattle.kilim_stages.specs.Parts.{IfReport}
use Rattle.kilim_demo.specs.Demo.{demo_of}
use Rattle.kilim_stages.specs.woven_stage.Reports.{IsWovenReport}
use Rattle.kilim_top.specs.demo.Demo.{demo_texts, IsDemoReport}

no_fault : ClassFilesAreSpelled → (names : List (List ℕ)) (files : List ClassFile) → AllByRecursion ClassFits files → first_fault names (map class_text files) ≡ None
no_fault law [] files fit = refl
no_fault law (name ∷ names) [] fit = refl
no_fault law (name ∷ names) (file ∷ files) fit =
    ap (λ (r : Result ClassFile ClassFault). or_fault name r (first_fault names (map class_text files))) (law.again file fit.0) ∙ no_fault law names files fit.1

unclassed : ClassFilesAreSpelled → (names texts : List (List ℕ)) (files : List ClassFile) (text : List ℕ) → AllByRecursion ClassFits files → texts ≡ map class_text files → IsClassReport names texts text → ⊥
unclassed law names texts files text fit e report =
    none_no_some (report.name, report.fault) (first_fault names texts) (ap (first_fault names) e ∙ no_fault law names files fit) report.first

pub reported : ClassFilesAreSpelled → (names : List (List ℕ)) (number : ℕ) (text : List ℕ) → AllByRecursion ClassFits (demo_of number) → IsWovenReport names (demo_texts number) text → IsDemoReport number text
unfolding demo_texts
reported law names number text fit (inl (inl report)) = absurd (unclassed law names (demo_texts number) (demo_of number) text fit refl report)
reported law names number text fit (inl (inr (inl report))) = inl report
reported law names number text fit (inl (inr (inr (inl report)))) = inr (inl report)
reported law names number text fit (inl (inr (inr (inr report)))) = inr (inr (inl report))
reported law names number text fit (inr report) = inr (inr (inr report))

-- what the stages report
pub report_of : {A : Type 0} → ClassFilesAreSpelled → (names texts : List (List ℕ)) (number : ℕ) (r : Result A Refusal) → AllByRecursion ClassFits (demo_of number) → texts ≡ demo_texts number → IfReport r (IsWovenReport names texts) → IfReport r (IsDemoReport number)
report_of law names texts number (Ok x) fit e report = tt
report_of law names texts number (Err refusal.NoMemory) fit e report = tt
report_of law names texts number (Err (refusal.Report text)) fit e report =
    reported law names number text.items fit (subst (λ (ts : List (List ℕ)). IsWovenReport names ts text.items) e report)
