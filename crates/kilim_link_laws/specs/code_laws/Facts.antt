-- Facts of programs that are linked.
use Rattle.std.specs.Prelude.{◌≡◌, ◌||◌, not, if◌then◌else◌, Bool, true, List, []}
use Rattle.std.specs.List.{list_all}
use Rattle.kilim_class_file.specs.declared.class_file.ClassFile.{ClassFile}
use Rattle.kilim_link_spec.specs.Faults.{link_faults}
use Rattle.kilim_link_spec.specs.Linked.{Linked}
use Rattle.kilim_link_spec.specs.LinksWell.{LinksWell}
use Rattle.kilim_link_spec.specs.World.{world_of}
use Rattle.kilim_program.specs.declared.class.Form.{Form}
use Rattle.kilim_program.specs.declared.class.Method.{Method}
use Rattle.kilim_program.specs.declared.names.ClassId.{ClassId}
use Rattle.kilim_program.specs.declared.ty.Qualifier.TheVariants.{Cuttable, Safe}
use Rattle.kilim_program.specs.Handlers.{pauses_bare, table_stands}
use Rattle.kilim_program.specs.Keeps.{caught_there, code_is_whole, constants_fit, frames_are_proper, ids_are_places, method_is_sound, no_task_arrays}
use Rattle.kilim_program.specs.Lengths.{places_increase}
use Rattle.kilim_program.specs.Names.{is_task}
use Rattle.kilim_program.specs.Program.{Program}
use Rattle.kilim_program.specs.Same.{is_constructor, same_qualifier}

-- The places of each method's frames increase.
abbrev pub FramesIncrease : Type 0
FramesIncrease = (files : List ClassFile) (form : Form) (p : Program) → LinksWell files form p → list_all (λ m. places_increase m.frames) p.methods ≡ true

-- Each object in a declared frame is a class or an array, and each long in its locals has its second half.
abbrev pub FramesAreProper : Type 0
FramesAreProper = (files : List ClassFile) (form : Form) (p : Program) → LinksWell files form p → list_all frames_are_proper p.methods ≡ true

-- No method that pauses has an exception table.
abbrev pub NonePausesWithTable : Type 0
NonePausesWithTable = (files : List ClassFile) (form : Form) (p : Program) → LinksWell files form p → list_all pauses_bare p.methods ≡ true

-- What the entries of exception tables catch is there.
abbrev pub CatchesAreThere : Type 0
CatchesAreThere = (files : List ClassFile) (form : Form) (p : Program) → LinksWell files form p → list_all (caught_there p) p.methods ≡ true

-- Each entry of an exception table is one of instructions.
abbrev pub TablesStand : Type 0
TablesStand = (files : List ClassFile) (form : Form) (p : Program) → LinksWell files form p → list_all table_stands p.methods ≡ true

-- A method has a qualifier for each parameter and few argument slots, and no constructor pauses.
abbrev pub MethodsAreSound : Type 0
MethodsAreSound = (files : List ClassFile) (form : Form) (p : Program) → LinksWell files form p → list_all method_is_sound p.methods ≡ true

-- the receiver of a constructor is cuttable; a static one has none, and is safe
abbrev pub cuts_its_receiver : Method → Bool
cuts_its_receiver m = not (is_constructor m) || same_qualifier m.receiver (if m.is_static then Safe else Cuttable)

-- That of each constructor is.
abbrev pub ReceiversAreCuttable : Type 0
ReceiversAreCuttable = (files : List ClassFile) (form : Form) (p : Program) → LinksWell files form p → list_all cuts_its_receiver p.methods ≡ true

-- The code of each method is whole.
abbrev pub CodeIsWhole : Type 0
CodeIsWhole = (files : List ClassFile) (form : Form) (p : Program) → LinksWell files form p → list_all code_is_whole p.methods ≡ true

-- A static field has a constant of its type.
abbrev pub ConstantsFit : Type 0
ConstantsFit = (files : List ClassFile) (form : Form) (p : Program) → LinksWell files form p → constants_fit p ≡ true

-- Where there is no fault there is a program.
abbrev pub NoFaultLinks : Type 0
NoFaultLinks = (files : List ClassFile) (form : Form) → link_faults files form ≡ [] → (p : Program) × Linked files form p

-- There is no array of tasks, where the tasks of the outline are those of the program.
abbrev pub NoTaskArrays : Type 0
NoTaskArrays = (files : List ClassFile) (form : Form) (p : Program) → LinksWell files form p → ((c : ClassId) → is_task (world_of files form).outline c ≡ is_task p c) → no_task_arrays p ≡ true

-- Each id is a place in its list.
abbrev pub IdsArePlaces : Type 0
IdsArePlaces = (files : List ClassFile) (form : Form) (p : Program) → LinksWell files form p → ids_are_places p ≡ true
