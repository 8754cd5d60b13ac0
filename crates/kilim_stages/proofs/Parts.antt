-- From stage to stage: what is handed on, and what is reported.
use Rattle.std.proofs.Common.{◌≡◌, ◌⊎◌, ℕ, List, Option, Some, None, Result, Ok, Err, refl, sym, ap, subst, ◌∙◌, inl, inr}
use Rattle.std.specs.Prelude.{IfOk}
use Rattle.kilim_program.specs.Program.{Program}
use Rattle.kilim_class_file.specs.declared.class_file.ClassFile.{ClassFile}
use Rattle.kilim_isolation.specs.IsolatedProgram.{IsolatedProgram}
use Rattle.kilim_isolation.specs.Faults.{AreReports, IsAccepted}
use Rattle.kilim_type_spec.specs.Faults.{first_type_fault}
use Rattle.kilim_type_spec.specs.TypedProgram.{TypedProgram}
use Rattle.kilim_stages.specs.declared.refusal.Refusal.{Refusal}
use Rattle.kilim_stages.specs.declared.refusal.Refusal.TheVariants as refusal
use Rattle.kilim_stages.specs.ProgramOf.{AreFiles, IsProgramOf}
use Rattle.kilim_stages.specs.Accepted.{IsAcceptedOf, IsTypedOf, typed_of}
use Rattle.kilim_stages.specs.Parts.{Refused, IfReport, IsTypeLine, IsTyped, IsTypedFrom, IsTypingLine, IsIsolated, AreRuleLinesOf, LinksTo}
use Rattle.kilim_stages.specs.Reports.{IsStageReport, IsTypingReport}

-- another word for the same report
pub refused : {P Q : List ℕ → Type 0} (r : Refusal) → ((text : List ℕ) → P text → Q text) → Refused r P → Refused r Q
refused refusal.NoMemory f said = tt
refused (refusal.Report text) f said = f text.items said

pub reported : {A : Type 0} {P Q : List ℕ → Type 0} (r : Result A Refusal) → ((text : List ℕ) → P text → Q text) → IfReport r P → IfReport r Q
reported (Ok x) f said = tt
reported (Err e) f said = refused e f said

-- ---- class files

typed_one : (cs : List ClassFile) (p : Program) (t : TypedProgram) → LinksTo cs p → IsTyped p t → IsTypedFrom cs t
typed_one cs p t links typed =
    let same : p ≡ t.program = ap (λ (u : TypedProgram). u.program) (sym typed.is) in
    record { links = subst (λ (q : Program). LinksTo cs q) same links; none = subst (λ (q : Program). first_type_fault q ≡ None) same typed.none; is = typed.is ∙ ap typed_of same }

pub typed_from : (cs : List ClassFile) (p : Program) (r : Result TypedProgram Refusal) → LinksTo cs p → IfOk r (IsTyped p) → IfOk r (IsTypedFrom cs)
typed_from cs p (Ok t) links typed = typed_one cs p t links typed
typed_from cs p (Err e) links typed = tt

pub type_line : (cs : List ClassFile) (p : Program) (r : Result TypedProgram Refusal) → LinksTo cs p → IfReport r (IsTypeLine p) → IfReport r (IsTypingLine cs)
type_line cs p r links said = reported r (λ text line. inr (record { program = p; links = links; line = line })) said

-- ---- bytes

program_of : (files : List (List ℕ)) (cs : List ClassFile) (p : Program) → AreFiles files cs → LinksTo cs p → IsProgramOf files p
program_of files cs p are links = record { classes = cs; are_files = are; none = links.none; linked = links.linked }

pub typed_files : (files : List (List ℕ)) (cs : List ClassFile) (r : Result TypedProgram Refusal) → AreFiles files cs → IfOk r (IsTypedFrom cs) → IfOk r (λ t. IsTypedOf files t.program)
typed_files files cs (Ok t) are is = record { of_files = program_of files cs t.program are is.links; typed = is.none }
typed_files files cs (Err e) are is = tt

pub frames_are : (cs : List ClassFile) (r : Result TypedProgram Refusal) → IfOk r (IsTypedFrom cs) → IfOk r (λ t. t ≡ typed_of t.program)
frames_are cs (Ok t) is = is.is
frames_are cs (Err e) is = tt

typing_report : (names files : List (List ℕ)) (cs : List ClassFile) (text : List ℕ) → AreFiles files cs → IsTypingLine cs text → IsTypingReport names files text
typing_report names files cs text are (inl link) = inr (inl (record { classes = cs; are_files = are; class = link.class; problem = link.problem; first = link.first; is_text = link.is_text }))
typing_report names files cs text are (inr typing) =
    let line = typing.line in
    inr (inr (record { program = typing.program; of_files = program_of files cs typing.program are typing.links; method = line.method; place = line.place; rule = line.rule; first = line.first; is_text = line.is_text }))

pub typing_reported : (names files : List (List ℕ)) (cs : List ClassFile) (r : Result TypedProgram Refusal) → AreFiles files cs → IfReport r (IsTypingLine cs) → IfReport r (IsTypingReport names files)
typing_reported names files cs r are said = reported r (λ text line. typing_report names files cs text are line) said

-- ---- a typed program

pub accepted_one : (files : List (List ℕ)) (t : TypedProgram) (i : IsolatedProgram) → IsTypedOf files t.program → t ≡ typed_of t.program → IsIsolated t i → IsAcceptedOf files i.typed.program
accepted_one files t i of is isolated =
    subst (λ (u : TypedProgram). IsAcceptedOf files u.program) (sym isolated.is)
    (record { of_files = of.of_files; accepts = record { typed = of.typed; isolated = subst (λ (u : TypedProgram). IsAccepted u) is isolated.accepted } })

pub accepted_files : (files : List (List ℕ)) (t : TypedProgram) (r : Result IsolatedProgram Refusal) → IsTypedOf files t.program → t ≡ typed_of t.program → IfOk r (IsIsolated t) → IfOk r (λ i. IsAcceptedOf files i.typed.program)
accepted_files files t (Ok i) of is isolated = accepted_one files t i of is isolated
accepted_files files t (Err e) of is isolated = tt

rules_report : (names files : List (List ℕ)) (t : TypedProgram) (text : List ℕ) → IsTypedOf files t.program → t ≡ typed_of t.program → AreRuleLinesOf t text → IsStageReport names files text
rules_report names files t text of is lines =
    inr (inr (inr (record {
      program = t.program;
      of_files = of.of_files;
      typed = of.typed;
      reports = lines.reports;
      are_reports = subst (λ (u : TypedProgram). AreReports u lines.reports) is lines.are_reports;
      some = lines.some;
      is_text = lines.is_text;
    })))

pub rules_reported : (names files : List (List ℕ)) (t : TypedProgram) (r : Result IsolatedProgram Refusal) → IsTypedOf files t.program → t ≡ typed_of t.program → IfReport r (AreRuleLinesOf t) → IfReport r (IsStageReport names files)
rules_reported names files t r of is said = reported r (λ text lines. rules_report names files t text of is lines) said

pub stage_report : (names files : List (List ℕ)) (text : List ℕ) → IsTypingReport names files text → IsStageReport names files text
stage_report names files text (inl class) = inl class
stage_report names files text (inr (inl link)) = inr (inl link)
stage_report names files text (inr (inr typing)) = inr (inr (inl typing))
