-- The facts of programs, of files that link well: those of classes and members.
use Rattle.std.specs.Prelude.{◌≡◌, Bool, true, not, List}
use Rattle.std.specs.List.{list_all}
use Rattle.kilim_class_file.specs.declared.class_file.ClassFile.{ClassFile}
use Rattle.kilim_program.specs.declared.class.Form.{Form}
use Rattle.kilim_program.specs.Keeps.{EndsBuiltIn, fields_fit, members_are_owned, names_differ, none_is_both, none_is_its_ancestor, none_is_left_abstract, none_is_named_as_array, overriding_agrees, own_classes_fit, superclasses_fit}
use Rattle.kilim_program.specs.Names.{is_empty}
use Rattle.kilim_program.specs.Program.{Program}
use Rattle.kilim_link_spec.specs.LinksWell.{LinksWell}

-- a class's name isn't empty
unfoldable pub each_is_named : Program → Bool
each_is_named p = list_all (λ class. not (is_empty class.name)) p.classes

-- no class is its own ancestor
abbrev pub NoneIsItsAncestor : Type 0
NoneIsItsAncestor = (files : List ClassFile) (form : Form) (p : Program) → LinksWell files form p → none_is_its_ancestor p ≡ true

-- no class is a task and a message
abbrev pub NoneIsBoth : Type 0
NoneIsBoth = (files : List ClassFile) (form : Form) (p : Program) → LinksWell files form p → none_is_both p ≡ true

-- each superclass is of a kind that its class may extend
abbrev pub SuperclassesFit : Type 0
SuperclassesFit = (files : List ClassFile) (form : Form) (p : Program) → LinksWell files form p → superclasses_fit p ≡ true

-- no class of the files is `kilim/Fiber`, and their superclasses are of the files, `java/lang/Object` or `kilim/Task`
abbrev pub OwnClassesFit : Type 0
OwnClassesFit = (files : List ClassFile) (form : Form) (p : Program) → LinksWell files form p → own_classes_fit p ≡ true

-- the last classes are the built-in ones; of the other methods exactly the abstract ones have no code
abbrev pub BuiltInIsLast : Type 0
BuiltInIsLast = (files : List ClassFile) (form : Form) (p : Program) → LinksWell files form p → EndsBuiltIn p

-- a class's members are those that name it as owner
abbrev pub MembersAreOwned : Type 0
MembersAreOwned = (files : List ClassFile) (form : Form) (p : Program) → LinksWell files form p → members_are_owned p ≡ true

-- no two classes have one name, and no two members of a class one name and descriptor
abbrev pub NamesDiffer : Type 0
NamesDiffer = (files : List ClassFile) (form : Form) (p : Program) → LinksWell files form p → names_differ p ≡ true

-- no class's name begins with `[`
abbrev pub NoneIsNamedAsArray : Type 0
NoneIsNamedAsArray = (files : List ClassFile) (form : Form) (p : Program) → LinksWell files form p → none_is_named_as_array p ≡ true

-- each class has a name
abbrev pub EachIsNamed : Type 0
EachIsNamed = (files : List ClassFile) (form : Form) (p : Program) → LinksWell files form p → each_is_named p ≡ true

-- fields hold what their class's kind allows
abbrev pub FieldsFit : Type 0
FieldsFit = (files : List ClassFile) (form : Form) (p : Program) → LinksWell files form p → fields_fit p ≡ true

-- an overriding method agrees with what it overrides
abbrev pub OverridingAgrees : Type 0
OverridingAgrees = (files : List ClassFile) (form : Form) (p : Program) → LinksWell files form p → overriding_agrees p ≡ true

-- a class that isn't abstract neither declares nor inherits an abstract method
abbrev pub NoneIsLeftAbstract : Type 0
NoneIsLeftAbstract = (files : List ClassFile) (form : Form) (p : Program) → LinksWell files form p → none_is_left_abstract p ≡ true
