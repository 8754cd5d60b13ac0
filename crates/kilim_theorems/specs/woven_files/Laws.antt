-- What a woven class file is read back to (own).
use Rattle.std.specs.Prelude.{◌≡◌, ℕ, ◌<◌, Bool, List, [], ◌∷◌, ◌++◌, Option, Some, None}
use Rattle.std.specs.List.{AllByRecursion}
use Rattle.kilim_class_attributes.specs.declared.parts.annotation.AnnotationPart.{AnnotationPart}
use Rattle.kilim_class_attributes.specs.declared.parts.annotation.AnnotationPart.TheVariants.{Parameters}
use Rattle.kilim_class_attributes.specs.declared.parts.annotation.PartKind.TheVariants.{ParameterCount}
use Rattle.kilim_class_attributes.specs.parts.Annotations.{PartsFit}
use Rattle.kilim_class_code.specs.Code.{Placed}
use Rattle.kilim_program.specs.declared.instr.Instr.{Instr}
use Rattle.kilim_program.specs.declared.names.ClassId.{ClassId}
use Rattle.kilim_program.specs.declared.verified.Frame.{Frame}
use Rattle.kilim_program.specs.declared.verified.VType.{VType}
use Rattle.kilim_program.specs.Program.{Program}
use Rattle.kilim_class_file.specs.declared.class_file.ClassFile.{ClassFile}
use Rattle.kilim_class_pool.specs.declared.entry.Entry.{Entry}
use Rattle.kilim_link_spec.specs.Annotations.{params_in}
use Rattle.kilim_link_spec.specs.Code.{placed_in}
use Rattle.kilim_link_spec.specs.Frames.{frames_from}
use Rattle.kilim_link_spec.specs.Linked.{linked_method}
use Rattle.kilim_link_spec.specs.Types.{each_of, itself}
use Rattle.kilim_link_spec.specs.World.{World, first_found, method_in}
use Rattle.kilim_weave_file_spec.specs.FullFrames.{full_frames}
use Rattle.kilim_weave_file_spec.specs.Raw.{raw_code}
use Rattle.kilim_weave_file_spec.specs.Texts.{woven_descriptor}
use Rattle.kilim_weave_file_spec.specs.WovenFile.{MethodPair, one_parameter_more, rewritten}
use Rattle.kilim_theorems.specs.woven_files.pool.Pools.{SameOperands}
use Rattle.kilim_theorems.specs.woven_files.Descriptors.{IsPlain}
use Rattle.kilim_theorems.specs.woven_files.Members.{FoundPauses, SameClass, pausing}
use Rattle.kilim_theorems.specs.woven_files.Resolving.{WorldsAgree}
use Rattle.kilim_theorems.specs.woven_files.Standing.{CodeFits, FrameFound, Increase, MethodStands, SameTexts}

-- Woven code that was written is, in the woven world, the code of the woven method.
abbrev pub CodeIsReadBack : Type 0
CodeIsReadBack =
    (w : Program) (u v : World) → WorldsAgree w u v → (old pool : List Entry) → SameOperands old pool → SameTexts old pool → (at : ℕ → ℕ) (code : List (ℕ × Instr)) (marks : List Bool) (rs : List Placed) →
    CodeFits u v w old pool at code marks rs → each_of (placed_in v pool) (raw_code w old pool code marks rs) ≡ Some code

-- Frames that were written in the full form are those that were declared.
abbrev pub FramesAreReadBack : Type 0
FramesAreReadBack =
    (v : World) (w : Program) (pool : List Entry) (locals : List (Option VType)) (frames : List (ℕ × Frame)) → Increase 0 frames → AllByRecursion (λ (e : ℕ × Frame). FrameFound v w pool e.1) frames →
    each_of itself (frames_from v pool None locals (full_frames w pool 0 frames)) ≡ Some frames

-- A method that pauses, written anew, links in woven form to the method of the woven program.
abbrev pub MethodsLinkAgain : Type 0
MethodsLinkAgain =
    (w : Program) (u v : World) (file woven : ClassFile) (c : ClassId) (at : ℕ → ℕ) (x : MethodPair) → MethodStands w u v file woven c at x →
    linked_method v woven c (rewritten w file woven.constant_pool x.method x.counted x.info) ≡ Some x.method

-- Annotations of parameters with one parameter more have a text, and the lists of all parameters and an empty one.
pub record ParametersFit (pool : List Entry) (n : ℕ) (rest : List AnnotationPart) : Type 0 where
  pub fit : PartsFit pool ParameterCount (one_parameter_more (Parameters n ∷ rest))
  pub lists : params_in (one_parameter_more (Parameters n ∷ rest)) ≡ params_in (Parameters n ∷ rest) ++ [] ∷ []

abbrev pub ParametersAreMore : Type 0
ParametersAreMore = (pool : List Entry) (n : ℕ) (rest : List AnnotationPart) → n < 255 → PartsFit pool ParameterCount (Parameters n ∷ rest) → ParametersFit pool n rest

-- A method is found in woven form where it was found before, with the fiber where it pauses.
abbrev pub PlainMethodsAreFound : Type 0
PlainMethodsAreFound =
    (w v : World) (cs : List ClassId) (name descriptor : List ℕ) (b : Bool) → AllByRecursion (SameClass woven_descriptor IsPlain w v) cs → IsPlain descriptor → FoundPauses w name descriptor b cs →
    first_found (method_in v name (pausing woven_descriptor b descriptor)) cs ≡ first_found (method_in w name descriptor) cs
