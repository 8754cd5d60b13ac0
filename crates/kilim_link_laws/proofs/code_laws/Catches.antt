-- What the entries of exception tables catch is there.
use Rattle.std.proofs.Common.{◌≡◌, ℕ, ◌==◌, Bool, true, false, cond, List, length, Option, Some, None, option_map, refl, sym, ap, subst, ◌∙◌}
use Rattle.std.specs.List.{list_all, AllByRecursion}
use Rattle.std.proofs.lemmas.Bool.{and_from}
use Rattle.std.proofs.lemmas.List.Folds.{list_all-append}
use Rattle.std.proofs.lemmas.Option.{same_Some}
use Rattle.kilim_class_attributes.specs.declared.attribute.Code.{Code}
use Rattle.kilim_class_attributes.specs.declared.attribute.ExceptionHandler.{ExceptionHandler}
use Rattle.kilim_class_file.specs.declared.class_file.ClassFile.{ClassFile}
use Rattle.kilim_class_file.specs.declared.class_file.MemberInfo.{MemberInfo}
use Rattle.kilim_class_pool.specs.declared.entry.Entry.{Entry}
use Rattle.kilim_program.specs.declared.class.Form.{Form}
use Rattle.kilim_program.specs.declared.class.Form.TheVariants.{Plain, Woven}
use Rattle.kilim_program.specs.declared.class.Handler.{Handler}
use Rattle.kilim_program.specs.declared.class.Method.{Method}
use Rattle.kilim_program.specs.declared.names.ClassId.{ClassId}
use Rattle.kilim_program.specs.BuiltIn.{built_in_methods_in}
use Rattle.kilim_program.specs.Keeps.{caught_there, has_superclass}
use Rattle.kilim_program.specs.Program.{Program}
use Rattle.kilim_link_spec.specs.Laws.{LinkedInParts, Parts}
use Rattle.kilim_link_spec.specs.Linked.{body_in, catch_of, code_attribute, handler_in, handler_with, linked_method, no_body}
use Rattle.kilim_link_spec.specs.declared.named.Body.{Body}
use Rattle.kilim_link_spec.specs.World.{World, class_of, class_text, world_of}
use Rattle.kilim_link_laws.proofs.code_laws.Counts.{Counts, ViewAt, counts, views_there}
use Rattle.kilim_link_laws.proofs.code_laws.Files.{each_file_map}
use Rattle.kilim_link_laws.proofs.code_laws.FoundIds.{class_there}
use Rattle.kilim_link_laws.proofs.code_laws.Lists.{EachFile, all_from, each_of_all, members_pass}
use Rattle.kilim_link_laws.proofs.code_laws.Members.{body_parts, method_parts}
use Rattle.kilim_link_laws.proofs.code_laws.Rows.{mapped}
use Rattle.kilim_link_laws.specs.code_laws.Facts.{CatchesAreThere}

built_in_catches : (p : Program) (form : Form) (n : ℕ) → list_all (caught_there p) (built_in_methods_in form n) ≡ true
built_in_catches p Plain n = refl
built_in_catches p Woven n = refl

module _ (w : World) (p : Program) (c : Counts w p) where
  catch_there : (pool : List Entry) (index : ℕ) (o : Option ClassId) → catch_of w pool index ≡ Some o → has_superclass p o ≡ true
  catch_there pool index o e = by (index == 0) e
    where
      by : (z : Bool) → cond z (Some None) (option_map (λ (d : ClassId). Some d) (class_of w (class_text pool index))) ≡ Some o → has_superclass p o ≡ true
      by true e = subst (λ (x : Option ClassId). has_superclass p x ≡ true) (same_Some None o e) refl
      by false e =
          let m = mapped (λ (d : ClassId). Some d) (class_of w (class_text pool index)) o e in
          subst (λ (x : Option ClassId). has_superclass p x ≡ true) m.is (class_there w p c (class_text pool index) m.x m.there)

  row_there : (pool : List Entry) (row : ExceptionHandler) (h : Handler) → handler_in w pool row ≡ Some h → has_superclass p h.catch ≡ true
  row_there pool row h e =
      let m = mapped (handler_with row) (catch_of w pool row.catch_type) h e in
      subst (λ (x : Handler). has_superclass p x.catch ≡ true) m.is (catch_there pool row.catch_type m.x m.there)

  abbrev all_there : List Handler → Bool
  all_there hs = list_all (λ (h : Handler). has_superclass p h.catch) hs

  body_catches : (file : ClassFile) (class : ClassId) (method : MemberInfo) (code : Option Code) (body : Body) → body_in w file class method code ≡ Some body → all_there body.handlers ≡ true
  body_catches file class method None body e = subst (λ (b : Body). all_there b.handlers ≡ true) (same_Some no_body body e) refl
  body_catches file class method (Some code) body e =
      let b = body_parts w file class method code body e in
      subst (λ (x : Body). all_there x.handlers ≡ true) (sym b.is)
      (each_of_all (handler_in w file.constant_pool) (λ (h : Handler). has_superclass p h.catch) code.exception_table b.handlers (all_from _ (row_there file.constant_pool) code.exception_table) b.handlers_are)

  method_catches : (file : ClassFile) (class : ClassId) → ViewAt w.classes file class → (method : MemberInfo) (y : Method) → linked_method w file class method ≡ Some y → caught_there p y ≡ true
  method_catches file class at method y e =
      let m = method_parts w file class method y e in
      subst (λ (x : Method). caught_there p x ≡ true) (sym m.is) (body_catches file class method (code_attribute method) m.body m.body_is)

module _ (files : List ClassFile) (form : Form) (p : Program) (parts : Parts files form p) where
  abbrev w : World
  w = world_of files form

  catches_there : list_all (caught_there p) p.methods ≡ true
  catches_there =
      let test = caught_there p in
      let each = each_file_map (ViewAt w.classes) _ (λ file class at. all_from _ (method_catches w p (counts files form p parts) file class at) file.methods) 0 files (views_there files form) in
      let own = members_pass test (λ file. file.methods) (linked_method w) 0 files parts.methods each parts.methods_are in
      ap (λ (q : Program). list_all test q.methods) parts.is
      ∙ (list_all-append test parts.methods (built_in_methods_in form (length files)) ∙ and_from _ _ own (built_in_catches p form (length files)))

module _ (in_parts : LinkedInParts) where
  pub catches_are_there : CatchesAreThere
  catches_are_there files form p l = catches_there files form p (in_parts files form p l.linked)
