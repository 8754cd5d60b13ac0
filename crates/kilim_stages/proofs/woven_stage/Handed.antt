-- From an accepted program to its woven form, or to the line of its first method that can't be woven.
use Rattle.std.proofs.Common.{◌≡◌, ℕ, List, None, Result, Ok, Err, sym, subst, inr}
use Rattle.std.specs.Prelude.{IfOk}
use Rattle.kilim_program.specs.Program.{Program}
use Rattle.kilim_weave.specs.Faults.{weave_fault}
use Rattle.kilim_weave.specs.Weaves.{Weaves}
use Rattle.kilim_stages.specs.Accepted.{IsAcceptedOf}
use Rattle.kilim_stages.specs.Parts.{IfReport}
use Rattle.kilim_stages.specs.declared.refusal.Refusal.{Refusal}
use Rattle.kilim_stages.specs.declared.woven_stage.stage.WovenProgram.{WovenProgram}
use Rattle.kilim_stages.specs.woven_stage.Parts.{IsMethodLineOf, IsWovenBy}
use Rattle.kilim_stages.specs.woven_stage.Reports.{IsWovenReport}
use Rattle.kilim_stages.specs.woven_stage.Stage.{IsWovenOf}
use Rattle.kilim_stages.proofs.Parts.{reported}

woven_one : (files : List (List ℕ)) (p : Program) (w : WovenProgram) → IsAcceptedOf files p → IsWovenBy p w → IsWovenOf files w.plain w.woven
woven_one files p w accepted by = record {
  accepted = subst (λ (q : Program). IsAcceptedOf files q) (sym by.is) accepted;
  none = subst (λ (q : Program). weave_fault q ≡ None) (sym by.is) by.none;
  weaves = subst (λ (q : Program). Weaves q w.woven) (sym by.is) by.weaves;
}

pub woven_files : (files : List (List ℕ)) (p : Program) (r : Result WovenProgram Refusal) → IsAcceptedOf files p → IfOk r (IsWovenBy p) → IfOk r (λ w. IsWovenOf files w.plain w.woven)
woven_files files p (Ok w) accepted by = woven_one files p w accepted by
woven_files files p (Err e) accepted by = tt

pub method_reported : (names files : List (List ℕ)) (p : Program) (r : Result WovenProgram Refusal) → IsAcceptedOf files p → IfReport r (IsMethodLineOf p) → IfReport r (IsWovenReport names files)
method_reported names files p r accepted said = reported r (λ text line. inr (record { program = p; accepted = accepted; fault = line.fault; first = line.first; is_text = line.is_text })) said
