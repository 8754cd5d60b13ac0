-- The parts of files without a fault, and the built-in ones behind them, are the program to which the files link.
use Rattle.std.proofs.Common.{◌≡◌, ℕ, zero, suc, ◌*◌, ◌^◌, ◌<◌, ◌≤◌, List, [], ◌∷◌, ◌++◌, length, Some, refl, sym, ap, ◌∙◌, arith}
use Rattle.std.specs.List.{AllByRecursion}
use Rattle.kilim_class_file.specs.declared.class_file.ClassFile.{ClassFile}
use Rattle.kilim_class_file.specs.Text.{ClassFits}
use Rattle.kilim_program.specs.declared.class.Class.{Class}
use Rattle.kilim_program.specs.declared.class.Field.{Field}
use Rattle.kilim_program.specs.declared.class.Form.{Form}
use Rattle.kilim_program.specs.declared.class.Method.{Method}
use Rattle.kilim_program.specs.declared.names.ClassId.{ClassId}
use Rattle.kilim_program.specs.BuiltIn.{built_in_classes_in, built_in_fields, built_in_methods_in}
use Rattle.kilim_link_spec.specs.Linked.{Linked, program_of, numbered, members, linked_class, linked_method}
use Rattle.kilim_link_spec.specs.Types.{itself}
use Rattle.kilim_link_spec.specs.World.{world_of}
use Rattle.kilim_link.specs.declared.linking.Parts.{Parts}
use Rattle.kilim_link.specs.Linking.{Made}
use Rattle.kilim_link.proofs.Counts.{each_length, members_few}

numbered_length : {A : Type 0} (make : ClassFile → ClassId → A) (n : ℕ) (files : List ClassFile) → length (numbered make n files) ≡ length files
numbered_length make n [] = refl
numbered_length make n (file ∷ files) = ap suc (numbered_length make (suc n) files)

module _ (files : List ClassFile) (form : Form) (parts : Parts) (made : Made files form parts) where
  pub classes_are_files : length parts.classes ≡ length files
  classes_are_files = each_length itself (numbered (linked_class (world_of files form)) 0 files) parts.classes made.classes ∙ numbered_length (linked_class (world_of files form)) 0 files

  pub methods_are_few : AllByRecursion ClassFits files → length parts.methods ≤ 65535 * length files
  methods_are_few fit =
      let len = each_length itself (members (λ file. file.methods) (linked_method (world_of files form)) files) parts.methods made.methods in
      let few = members_few (λ file. file.methods) (linked_method (world_of files form)) (λ file f. f.parts.methods.0) files fit in
      omega arith

  pub is_linked : (classes : List Class) (methods : List Method) (fields : List Field) → classes ≡ parts.classes ++ built_in_classes_in form (length parts.classes) (length parts.methods)
      → methods ≡ parts.methods ++ built_in_methods_in form (length files) → fields ≡ built_in_fields (length files) ++ parts.fields → Linked files form (record { classes = classes; methods = methods; fields = fields; form = form })
  unfolding program_of
  is_linked classes methods fields all_classes all_methods all_fields =
      rw (made.classes, made.fields, made.methods, all_classes, all_methods, all_fields, classes_are_files) refl
