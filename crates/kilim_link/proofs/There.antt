-- Where files have no fault, all of their parts are there.
use Rattle.std.proofs.Common.{◌≡◌, ◌≤◌, List, [], length, Option, Some, None, sym, ap, subst, ◌∙◌}
use Rattle.std.specs.List.{AllByRecursion}
use Rattle.kilim_class_file.specs.declared.class_file.ClassFile.{ClassFile}
use Rattle.kilim_class_file.specs.Text.{ClassFits}
use Rattle.kilim_program.specs.declared.class.Class.{Class}
use Rattle.kilim_program.specs.declared.class.Field.{Field}
use Rattle.kilim_program.specs.declared.class.Form.{Form}
use Rattle.kilim_program.specs.declared.class.Method.{Method}
use Rattle.kilim_link_spec.specs.Faults.{link_faults}
use Rattle.kilim_link_spec.specs.Laws.{LinkedInParts, Parts}
use Rattle.kilim_link_spec.specs.Linked.{numbered, members, linked_class, linked_field, linked_method}
use Rattle.kilim_link_spec.specs.Types.{each_of, itself}
use Rattle.kilim_link_spec.specs.World.{World, world_of}
use Rattle.kilim_link.specs.Keeping.{NoFaultIsAProgram}

some_or_none : {A : Type 0} (found : Option A) (x : A) → found ≡ Some x → found ≡ None → ⊥
some_or_none found x e f = let h : Some x ≡ None = sym e ∙ f in cc

module _ (law : NoFaultIsAProgram) (in_parts : LinkedInParts) (files : List ClassFile) (form : Form) (few : length files ≤ 1000) (fit : AllByRecursion ClassFits files) (none : link_faults files form ≡ []) (w : World) (whole : w ≡ world_of files form) where
  parts : Parts files form (law files form few fit none).0
  parts = in_parts files form (law files form few fit none).0 (law files form few fit none).1

  pub classes_there : (found : Option (List Class)) → found ≡ each_of itself (numbered (linked_class w) 0 files) → found ≡ None → ⊥
  classes_there found is e = some_or_none found parts.classes (is ∙ (ap (λ (v : World). each_of itself (numbered (linked_class v) 0 files)) whole ∙ parts.classes_are)) e

  pub fields_there : (found : Option (List Field)) → found ≡ each_of itself (members (λ file. file.fields) (linked_field w) files) → found ≡ None → ⊥
  fields_there found is e = some_or_none found parts.fields (is ∙ (ap (λ (v : World). each_of itself (members (λ file. file.fields) (linked_field v) files)) whole ∙ parts.fields_are)) e

  pub methods_there : (found : Option (List Method)) → found ≡ each_of itself (members (λ file. file.methods) (linked_method w) files) → found ≡ None → ⊥
  methods_there found is e = some_or_none found parts.methods (is ∙ (ap (λ (v : World). each_of itself (members (λ file. file.methods) (linked_method v) files)) whole ∙ parts.methods_are)) e
