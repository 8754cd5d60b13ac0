-- What a class shows of itself is the same in woven form, but for the descriptors of the methods that pause.
use Rattle.std.specs.Prelude.{◌≡◌, ◌<◌, ℕ, List, [], ◌∷◌, ◌++◌, length, map, Some}
use Rattle.std.specs.List.{AllByRecursion}
use Rattle.kilim_program.specs.declared.names.ClassId.{ClassId}
use Rattle.kilim_program.specs.Program.{Program}
use Rattle.kilim_class_file.specs.declared.class_file.ClassFile.{ClassFile}
use Rattle.kilim_class_file.specs.declared.class_file.MemberInfo.{MemberInfo}
use Rattle.kilim_class_file.specs.Text.{PartsFit}
use Rattle.kilim_link_spec.specs.declared.view.ClassView.{ClassView}
use Rattle.kilim_link_spec.specs.World.{World, class_of, world_with, declared_fields, declared_methods, field_in, first_field, first_found, first_method, built_ins, is_pausable, view_of_built_in, view_of_file}
use Rattle.kilim_program.specs.declared.class.Form.{Form}
use Rattle.kilim_program.specs.BuiltIn.{built_in_classes_in}
use Rattle.kilim_program.specs.declared.class.Form.TheVariants.{Plain, Woven}
use Rattle.kilim_weave_file_spec.specs.Texts.{woven_descriptor}
use Rattle.kilim_weave_file_spec.specs.WovenFile.{MethodPair, woven_file}
use Rattle.kilim_theorems.specs.woven_files.Members.{AllSame}

pub record SameView (u v : ClassView) : Type 0 where
  pub name : v.name ≡ u.name
  pub superclass : v.superclass ≡ u.superclass
  pub is_marked : v.is_marked ≡ u.is_marked
  pub is_abstract : v.is_abstract ≡ u.is_abstract
  pub is_final : v.is_final ≡ u.is_final
  pub is_built_in : v.is_built_in ≡ u.is_built_in
  pub fields : v.fields ≡ u.fields
  pub methods : AllSame woven_descriptor u.methods v.methods

-- the methods of a file, each with one of the program that pauses where the file says so
abbrev pub PairsAre : ClassFile → List MemberInfo → List MethodPair → Type 0
PairsAre file [] [] = Unit {0}
PairsAre file (i ∷ is) (x ∷ xs) = (x.info ≡ i) × (x.plain.pausable ≡ is_pausable file.constant_pool i) × PairsAre file is xs
PairsAre file _ _ = ⊥

abbrev pub ViewsStay : Type 0
ViewsStay = (w : Program) (file : ClassFile) (xs : List MethodPair) → PartsFit file → PairsAre file file.methods xs → SameView (view_of_file file) (view_of_file (woven_file w file xs))

-- ---- of all classes

-- each class of a list shows the same as that of its number in the other list, which may have more behind them
abbrev pub AllViews : List ClassView → List ClassView → Type 0
AllViews [] vs = Unit {0}
AllViews (u ∷ us) [] = ⊥
AllViews (u ∷ us) (v ∷ vs) = SameView u v × AllViews us vs

-- the members of a class have the same numbers, and are the same but for the fiber
pub record SameMembers (u v : World) (c : ClassId) : Type 0 where
  pub method_numbers : first_method v c ≡ first_method u c
  pub field_numbers : first_field v c ≡ first_field u c
  pub methods : AllSame woven_descriptor (declared_methods u c) (declared_methods v c)
  pub fields : declared_fields v c ≡ declared_fields u c

abbrev pub MembersStay : Type 0
MembersStay = (u v : World) → AllViews u.classes v.classes → (c : ClassId) → c.0 < length u.classes → SameMembers u v c

-- a field or a method is found where it was
abbrev pub FieldsAreFound : Type 0
FieldsAreFound = (u v : World) → AllViews u.classes v.classes → (cs : List ClassId) → AllByRecursion (λ (c : ClassId). c.0 < length u.classes) cs → (name descriptor : List ℕ) → first_found (field_in v name descriptor) cs ≡ first_found (field_in u name descriptor) cs

-- The built-in classes show the same in woven form, but for the fiber; `kilim/Fiber` stands behind them.
abbrev pub BuiltInsStay : Type 0
BuiltInsStay = AllViews (map (view_of_built_in (built_ins Plain)) (built_in_classes_in Plain 0 0)) (map (view_of_built_in (built_ins Woven)) (built_in_classes_in Woven 0 0))

-- a class is found where it was
abbrev pub ClassesAreFound : Type 0
ClassesAreFound = (f g : Form) (us vs : List ClassView) → AllViews us vs → (name : List ℕ) (c : ClassId) → class_of (world_with f us) name ≡ Some c → class_of (world_with g vs) name ≡ Some c

-- two lists behind as many classes
abbrev pub ViewsJoin : Type 0
ViewsJoin = (us vs bs cs : List ClassView) → AllViews us vs → length vs ≡ length us → AllViews bs cs → AllViews (us ++ bs) (vs ++ cs)
