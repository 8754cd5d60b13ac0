-- Woven class files have texts, stay within their bounds, and link in woven form to the woven program. Statements that aren't proved yet: no
-- clause cites them.
use Rattle.std.specs.Prelude.{◌≡◌, ◌≤◌, Bool, List, [], ◌∷◌, length, drop, None}
use Rattle.std.specs.List.{AllByRecursion}
use Rattle.kilim_program.specs.declared.class.Form.TheVariants as form
use Rattle.kilim_program.specs.declared.class.Method.{Method}
use Rattle.kilim_program.specs.Program.{Program}
use Rattle.kilim_class_file.specs.declared.class_file.ClassFile.{ClassFile}
use Rattle.kilim_class_file.specs.Text.{ClassFits, class_text}
use Rattle.kilim_class_pool.specs.Entries.{count_of}
use Rattle.kilim_link_spec.specs.Faults.{link_faults}
use Rattle.kilim_link_spec.specs.Linked.{Linked}
use Rattle.kilim_stages.specs.Accepted.{Accepts}
use Rattle.kilim_weave.specs.declared.weaving.Woven.{Woven}
use Rattle.kilim_weave.specs.Weaves.{Weaves}
use Rattle.kilim_weave_file.specs.Applied.{most_entries}
use Rattle.kilim_weave_file_spec.specs.Sizes.{file_size, pool_sum}
use Rattle.kilim_weave_file_spec.specs.WovenFile.{MethodPair, pairs_of, woven_file, woven_pool}
use Rattle.kilim_weave_file_command.specs.woven_files.Sizes.{first_size_fault}
use Rattle.kilim_weave_file_command.specs.woven_files.WovenFiles.{woven_of}

-- The class files link to an accepted program, and this is its woven form.
pub record AreWoven (files : List ClassFile) (p : Program) (w : Woven) : Type 0 where
  pub few : length files ≤ 1000
  pub fit : AllByRecursion ClassFits files
  pub none : link_faults files form.Plain ≡ []
  pub linked : Linked files form.Plain p
  pub accepts : Accepts p
  pub weaves : Weaves p w

-- the pool of a woven file has no more indices than its sum, and its text is no longer than its size
pub record IsBounded (p w : Program) (file : ClassFile) (xs : List MethodPair) : Type 0 where
  pub sum : count_of (woven_pool w file xs) ≤ pool_sum p file xs
  pub size : pool_sum p file xs ≤ most_entries → length (class_text (woven_file w file xs)) ≤ file_size p file xs

abbrev pub AllBounded : (p w : Program) → List ClassFile → (plain woven : List Method) → List (List Bool) → Type 0
AllBounded p w [] ps ms marks = Unit {0}
AllBounded p w (file ∷ files) ps ms marks =
    IsBounded p w file (pairs_of file.methods ps ms marks) × AllBounded p w files (drop (length file.methods) ps) (drop (length file.methods) ms) (drop (length file.methods) marks)

abbrev pub WovenFilesAreBounded : Type 0
WovenFilesAreBounded = (files : List ClassFile) (p : Program) (w : Woven) → AreWoven files p w → AllBounded p w.program files p.methods w.program.methods w.counted

-- Within the bounds the woven files have texts.
abbrev pub WovenFilesFit : Type 0
WovenFilesFit = (files : List ClassFile) (p : Program) (w : Woven) → AreWoven files p w → first_size_fault p files ≡ None → AllByRecursion ClassFits (woven_of p w files)

-- And they link in woven form to the woven program, without a fault.
pub record LinksToWoven (files : List ClassFile) (p : Program) (w : Woven) : Type 0 where
  pub none : link_faults (woven_of p w files) form.Woven ≡ []
  pub linked : Linked (woven_of p w files) form.Woven w.program

abbrev pub WovenFilesLink : Type 0
WovenFilesLink = (files : List ClassFile) (p : Program) (w : Woven) → AreWoven files p w → first_size_fault p files ≡ None → LinksToWoven files p w
