-- The woven form of an accepted program to which class files link.
use Rattle.std.specs.Prelude.{ℕ, ◌≤◌, List, length}
use Rattle.kilim_program.specs.declared.class.Form.TheVariants.{Plain}
use Rattle.kilim_program.specs.Keeps.{Keeps}
use Rattle.kilim_program.specs.Program.{Program}
use Rattle.kilim_class_file.specs.declared.class_file.ClassFile.{ClassFile}
use Rattle.kilim_isolation.specs.Faults.{IsAccepted}
use Rattle.kilim_link_spec.specs.LinksWell.{LinksWell}
use Rattle.kilim_stages.specs.Accepted.{IsAcceptedOf}
use Rattle.kilim_type_spec.specs.Typed.{IsWellTyped, listed_frames}
use Rattle.kilim_weave.specs.declared.weaving.Woven.{Woven}
use Rattle.kilim_weave.specs.Weaves.{Weaves}
use Rattle.kilim_fiber_laws.specs.woven_served.Served.{Serves}

-- What weaving makes of it serves, with every fit main class and all limits.
abbrev pub LinkedServes : Type 0
LinkedServes = (files : List ClassFile) (p : Program) → LinksWell files Plain p → Keeps p → IsWellTyped p → IsAccepted (record { program = p; frames = listed_frames p }) → (w : Woven) → Weaves p w → Serves p w.program w.counted

-- So does what weaving makes of the accepted program of some class files, given as bytes.
abbrev pub AcceptedServes : Type 0
AcceptedServes = (files : List (List ℕ)) (p : Program) → length files ≤ 1000 → Keeps p → IsAcceptedOf files p → (w : Woven) → Weaves p w → Serves p w.program w.counted
