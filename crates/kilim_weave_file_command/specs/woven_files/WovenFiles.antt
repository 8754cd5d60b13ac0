-- The woven files of class files: what they hold, and where they lie.
use Rattle.std.specs.Prelude.{◌≡◌, ℕ, Bool, false, List, [], ◌∷◌, ◌++◌, length, map, drop, Option, Some, None, codes, count_by}
use Rattle.std.specs.Char.Escape.{encode_utf16}
use Rattle.std.specs.Fmt.{decimal}
use Rattle.std.specs.List.{flat_map}
use Rattle.std.specs.Str.{chars}
use Rattle.std.specs.String.{string_bytes}
use Rattle.kilim_program.specs.declared.class.Class.{Class}
use Rattle.kilim_program.specs.declared.class.Form.TheVariants as form
use Rattle.kilim_program.specs.declared.class.Method.{Method}
use Rattle.kilim_program.specs.Names.{method_at}
use Rattle.kilim_program.specs.Program.{Program}
use Rattle.kilim_class_file.specs.declared.class_file.ClassFile.{ClassFile}
use Rattle.kilim_class_file.specs.Text.{class_text}
use Rattle.kilim_link_spec.specs.Faults.{link_faults}
use Rattle.kilim_link_spec.specs.Linked.{Linked}
use Rattle.kilim_reports.specs.Names.{member_name_text}
use Rattle.kilim_stages.specs.Accepted.{IsAcceptedOf}
use Rattle.kilim_stages.specs.ProgramOf.{AreFiles}
use Rattle.kilim_weave.specs.declared.weaving.Woven.{Woven}
use Rattle.kilim_weave.specs.Faults.{weave_fault}
use Rattle.kilim_weave.specs.Weaves.{Weaves}
use Rattle.kilim_weave_file_spec.specs.WovenFile.{pairs_of, woven_file}
use Rattle.kilim_weave_file_command.specs.declared.woven_files.made.WovenFile.{WovenFile}
use Rattle.kilim_weave_file_command.specs.woven_files.Sizes.{first_size_fault}

-- ---- class files

-- each class file is woven with the next methods of the plain and the woven program, as many as it has
abbrev pub woven_by : Program → List ClassFile → (plain woven : List Method) → List (List Bool) → List ClassFile
woven_by w [] ps ms marks = []
woven_by w (file ∷ files) ps ms marks =
    woven_file w file (pairs_of file.methods ps ms marks) ∷ woven_by w files (drop (length file.methods) ps) (drop (length file.methods) ms) (drop (length file.methods) marks)

abbrev pub woven_of : Program → Woven → List ClassFile → List ClassFile
woven_of p w files = woven_by w.program files p.methods w.program.methods w.counted

-- ---- files that are written

-- a text as UTF-16 units
abbrev pub utf16_of : List ℕ → List ℕ
utf16_of text = flat_map encode_utf16 (chars text)

abbrev pub can_pause : Option Method → Bool
can_pause None = false
can_pause (Some m) = m.pausable

-- how many methods of a class can pause
abbrev pub pausables_of : Program → Class → ℕ
pausables_of p class = count_by (λ id. can_pause (method_at p id)) class.methods

-- the bytes are those of the class file, and the names those of the class
pub record IsOutput (p : Program) (c : Class) (file : ClassFile) (output : WovenFile) : Type 0 where
  pub class : output.class ≡ c.name
  pub name : utf16_of (string_bytes output.name) ≡ c.name
  pub bytes : output.bytes ≡ class_text file
  pub pausables : output.pausables ≡ pausables_of p c

-- one for each class file, in their order, which is that of the classes
abbrev pub AreOutputs : Program → List Class → List ClassFile → List WovenFile → Type 0
AreOutputs p classes [] [] = Unit {0}
AreOutputs p (class ∷ classes) (file ∷ files) (output ∷ outputs) = IsOutput p class file output × AreOutputs p classes files outputs
AreOutputs p classes files outputs = ⊥

-- The bytes are those of class files, in their order, that link in woven form to the program, without a fault.
pub record IsWovenProgramOf (files : List (List ℕ)) (program : Program) : Type 0 where
  pub classes : List ClassFile
  pub are_files : AreFiles files classes
  pub none : link_faults classes form.Woven ≡ []
  pub linked : Linked classes form.Woven program

-- The class files with these bytes link to an accepted program, which can be woven, and these are their woven files: their bytes are
-- those of class files that link to the woven program.
pub record AreWovenFiles (files : List (List ℕ)) (outputs : List WovenFile) : Type 0 where
  pub program : Program
  pub accepted : IsAcceptedOf files program
  pub classes : List ClassFile
  pub are_files : AreFiles files classes
  pub woven : Woven
  pub none : weave_fault program ≡ None
  pub weaves : Weaves program woven
  pub fit : first_size_fault program classes ≡ None
  pub are_outputs : AreOutputs program program.classes (woven_of program woven classes) outputs
  pub links : IsWovenProgramOf (map (λ (o : WovenFile). o.bytes) outputs) woven.program

-- ---- where they lie

-- below a directory, by the name of the class
abbrev pub path_of : (to name : List ℕ) → List ℕ
path_of to name = to ++ (codes "/" ++ (name ++ codes ".class"))

-- ---- their lines

unfoldable pub wove_line : WovenFile → List ℕ
wove_line file = codes "wove " ++ (member_name_text file.class ++ (codes " " ++ (decimal file.pausables ++ codes "\n")))

abbrev pub wove_lines : List WovenFile → List ℕ
wove_lines files = flat_map wove_line files
