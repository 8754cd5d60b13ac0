-- Programs to which class files link are plain: not woven, and with class names that begin no descriptor.
use Rattle.std.specs.Prelude.{◌≡◌, List}
use Rattle.kilim_program.specs.declared.class.Form.TheVariants.{Plain}
use Rattle.kilim_program.specs.Keeps.{Keeps}
use Rattle.kilim_program.specs.Program.{Program}
use Rattle.kilim_class_file.specs.declared.class_file.ClassFile.{ClassFile}
use Rattle.kilim_link_spec.specs.LinksWell.{LinksWell}
use Rattle.kilim_isolation_laws.specs.tree_types.Laws.{AreNamedPlainly}

abbrev pub LinkedIsPlain : Type 0
LinkedIsPlain = (files : List ClassFile) (p : Program) → LinksWell files Plain p → Keeps p → (p.form ≡ Plain) × AreNamedPlainly p
