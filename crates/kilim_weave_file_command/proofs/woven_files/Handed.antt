-- From class files to the bytes.
use Rattle.std.proofs.Common.{◌≡◌, ◌≤◌, ℕ, List, length, None, Result, inl, inr, sym, ap, subst, ◌∙◌}
use Rattle.std.specs.List.{AllByRecursion}
use Rattle.kilim_program.specs.Program.{Program}
use Rattle.kilim_class_file.specs.declared.class_file.ClassFile.{ClassFile}
use Rattle.kilim_class_file.specs.Text.{ClassFits}
use Rattle.kilim_stages.specs.Accepted.{IsAcceptedOf}
use Rattle.kilim_stages.specs.Parts.{IfReport}
use Rattle.kilim_stages.specs.ProgramOf.{AreFiles}
use Rattle.kilim_stages.specs.declared.refusal.Refusal.{Refusal}
use Rattle.kilim_stages.specs.woven_stage.Reports.{IsWovenReport}
use Rattle.kilim_stages.proofs.Both.{all_fit, as_many}
use Rattle.kilim_stages.proofs.Parts.{reported}
use Rattle.kilim_weave.specs.declared.weaving.Woven.{Woven}
use Rattle.kilim_weave.specs.Faults.{weave_fault}
use Rattle.kilim_weave.specs.Weaves.{Weaves}
use Rattle.kilim_weave_file_command.specs.declared.woven_files.made.WovenFile.{WovenFile}
use Rattle.kilim_weave_file_command.specs.woven_files.Parts.{AreWovenFrom, IsSizeReportIn}
use Rattle.kilim_weave_file_command.specs.woven_files.Reports.{IsSizeReport, IsWeaveReport}
use Rattle.kilim_weave_file_command.specs.woven_files.WovenFiles.{AreWovenFiles}

module _ (files : List (List ℕ)) (p : Program) (is : IsAcceptedOf files p) (none : weave_fault p ≡ None) (classes : List ClassFile) (are : AreFiles files classes) where
  pub size_report : {A : Type 0} (r : Result A Refusal) → IfReport r (IsSizeReportIn p classes) → IfReport r (IsSizeReport files)
  size_report r said =
      reported r (λ text line. record { program = p; accepted = is; none = none; classes = classes; are_files = are; class = line.class; fault = line.fault; first = line.first; is_text = line.is_text }) said

  pub woven_one : (w : Woven) (outputs : List WovenFile) → Weaves p w → AreWovenFrom p w classes outputs → AreWovenFiles files outputs
  woven_one w outputs weaves from = record {
    program = p;
    accepted = is;
    classes = classes;
    are_files = are;
    woven = w;
    none = none;
    weaves = weaves;
    fit = from.fit;
    are_outputs = from.are_outputs;
    links = from.links;
  }

-- ---- the reports of the stages before

pub woven_report : (names files : List (List ℕ)) (text : List ℕ) → IsWovenReport names files text → IsWeaveReport names files text
woven_report names files text (inl stage) = inl stage
woven_report names files text (inr method) = inr (inl method)

-- ---- the class files of some bytes

pub few_files : (files : List (List ℕ)) (classes xs : List ClassFile) → xs ≡ classes → AreFiles files classes → length files ≤ 1000 → length xs ≤ 1000
few_files files classes xs same are few = subst (λ (n : ℕ). n ≤ 1000) (sym (ap length same ∙ as_many files classes are)) few

pub fit_files : (files : List (List ℕ)) (classes xs : List ClassFile) → xs ≡ classes → AreFiles files classes → AllByRecursion ClassFits xs
fit_files files classes xs same are = subst (AllByRecursion ClassFits) (sym same) (all_fit files classes are)
