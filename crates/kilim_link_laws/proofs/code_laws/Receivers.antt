-- The receiver of a constructor is cuttable.
use Rattle.std.proofs.Common.{◌≡◌, ℕ, Bool, true, false, List, [], ◌∷◌, length, Some, refl, sym, subst, ◌∙◌}
use Rattle.std.specs.Prelude.{◌||◌, not, if◌then◌else◌}
use Rattle.std.specs.List.{list_all, AllByRecursion}
use Rattle.std.proofs.lemmas.Bool.{and_from}
use Rattle.std.proofs.lemmas.List.Folds.{list_all-append}
use Rattle.kilim_class_file.specs.declared.class_file.ClassFile.{ClassFile}
use Rattle.kilim_class_file.specs.declared.class_file.MemberInfo.{MemberInfo}
use Rattle.kilim_program.specs.declared.class.Form.{Form}
use Rattle.kilim_program.specs.declared.class.Form.TheVariants.{Plain, Woven}
use Rattle.kilim_program.specs.declared.class.Method.{Method}
use Rattle.kilim_program.specs.declared.names.ClassId.{ClassId}
use Rattle.kilim_program.specs.declared.ty.Qualifier.{Qualifier}
use Rattle.kilim_program.specs.declared.ty.Qualifier.TheVariants.{Cuttable, Safe}
use Rattle.kilim_program.specs.BuiltIn.{built_in_methods_in}
use Rattle.kilim_program.specs.Kinds.{class_kind, is_tree_kind}
use Rattle.kilim_program.specs.Same.{is_constructor, same_qualifier}
use Rattle.kilim_link_spec.specs.Laws.{LinkedInParts}
use Rattle.kilim_link_spec.specs.Linked.{linked_method, method_with}
use Rattle.kilim_link_spec.specs.Qualified.{annotated_as, default_receiver, qualified}
use Rattle.kilim_link_spec.specs.World.{World, annotation_types, declared_method, world_of}
use Rattle.kilim_link_laws.proofs.code_laws.Lists.{each_file, members_pass}
use Rattle.kilim_link_laws.proofs.code_laws.Members.{method_parts}
use Rattle.kilim_link_laws.specs.code_laws.Facts.{cuts_its_receiver, ReceiversAreCuttable}

cuts_by : (constructor static : Bool) (other : Qualifier) → (not constructor || same_qualifier (if static then Safe else (if constructor then Cuttable else other)) (if static then Safe else Cuttable)) ≡ true
cuts_by false static other = refl
cuts_by true true other = refl
cuts_by true false other = refl

method_cuts : (w : World) (file : ClassFile) (c : ClassId) (method : MemberInfo) (y : Method) → linked_method w file c method ≡ Some y → cuts_its_receiver y ≡ true
unfolding qualified
method_cuts w file c method y e =
    let m = method_parts w file c method y e in
    let made = method_with w file c method m.params m.result m.body in
    let other = if is_tree_kind (class_kind w.outline c) then annotated_as (annotation_types file.constant_pool method) (default_receiver w c (declared_method file method)) else Safe in
    subst (λ x. cuts_its_receiver x ≡ true) (sym m.is) (cuts_by (is_constructor made) made.is_static other)

built_in_cut : (form : Form) (n : ℕ) → list_all cuts_its_receiver (built_in_methods_in form n) ≡ true
built_in_cut Plain n = refl
built_in_cut Woven n = refl

every : {A : Type 0} (P : A → Type 0) → ((x : A) → P x) → (xs : List A) → AllByRecursion P xs
every P all [] = tt
every P all (x ∷ xs) = (all x, every P all xs)

module _ (in_parts : LinkedInParts) where
  pub receivers_are_cuttable : ReceiversAreCuttable
  receivers_are_cuttable files form p l =
      let parts = in_parts files form p l.linked in
      let w = world_of files form in
      let each = each_file _ (λ file c. every _ (λ m. method_cuts w file c m) file.methods) 0 files in
      let own = members_pass cuts_its_receiver (λ file. file.methods) (linked_method w) 0 files parts.methods each parts.methods_are in
      subst (λ q. list_all cuts_its_receiver q.methods ≡ true) (sym parts.is)
      (list_all-append cuts_its_receiver parts.methods (built_in_methods_in form (length files)) ∙ and_from _ _ own (built_in_cut form (length files)))
