-- What is known of files that link well: the parts of their program, and that no class has a problem.
use Rattle.std.proofs.Common.{◌≡◌, ℕ, zero, suc, ◌+◌, Bool, true, false, List, [], ◌∷◌, slice_get, Some, refl, sym, ap, subst, ◌∙◌, arith, filter}
use Rattle.std.specs.List.{AllByRecursion}
use Rattle.std.proofs.lemmas.Option.{same_Some, none-some}
use Rattle.kilim_lemmas.proofs.Lists.{cond_none}
use Rattle.kilim_class_file.specs.declared.class_file.ClassFile.{ClassFile}
use Rattle.kilim_class_file.specs.Text.{ClassFits}
use Rattle.kilim_program.specs.declared.class.Class.{Class}
use Rattle.kilim_program.specs.declared.class.Field.{Field}
use Rattle.kilim_program.specs.declared.class.Form.{Form}
use Rattle.kilim_program.specs.declared.class.Method.{Method}
use Rattle.kilim_program.specs.BuiltIn.{class_id}
use Rattle.kilim_program.specs.Program.{Program}
use Rattle.kilim_link_spec.specs.declared.fault.Problem.{Problem}
use Rattle.kilim_link_spec.specs.Faults.{if_so, problems_of}
use Rattle.kilim_link_spec.specs.Laws.{EachIsWithout, LinkedInParts, NoProblem, NoneHasAProblem, NoneOfEachKind}
use Rattle.kilim_link_spec.specs.Linked.{linked_class, linked_field, linked_method, members, numbered, program_with}
use Rattle.kilim_link_spec.specs.LinksWell.{LinksWell}
use Rattle.kilim_link_spec.specs.Types.{each_of, itself}
use Rattle.kilim_link_spec.specs.World.{World, world_of}

pub record Linking (files : List ClassFile) (form : Form) (classes : List Class) (fields : List Field) (methods : List Method) : Type 0 where
  pub classes_are : each_of itself (numbered (linked_class (world_of files form)) 0 files) ≡ Some classes
  pub fields_are : each_of itself (members (λ file. file.fields) (linked_field (world_of files form)) files) ≡ Some fields
  pub methods_are : each_of itself (members (λ file. file.methods) (linked_method (world_of files form)) files) ≡ Some methods
  pub none : (n : ℕ) (file : ClassFile) → slice_get files n ≡ Some file → NoProblem (world_of files form) file (class_id n)
  pub fit : (n : ℕ) (file : ClassFile) → slice_get files n ≡ Some file → ClassFits file

without_at : (w : World) (n : ℕ) (files : List ClassFile) → EachIsWithout w n files → (k : ℕ) (file : ClassFile) → slice_get files k ≡ Some file → problems_of w file (class_id (n + k)) ≡ []
without_at w n [] each k file there = absurd (none-some file there)
without_at w n (f ∷ files) each zero file there =
    let number : n + 0 ≡ n = omega arith in
    ap (λ (m : ℕ). problems_of w file (class_id m)) number ∙ (ap (λ (g : ClassFile). problems_of w g (class_id n)) (sym (same_Some f file there)) ∙ each.0)
without_at w n (f ∷ files) each (suc k) file there =
    let number : n + suc k ≡ suc n + k = omega arith in
    ap (λ (m : ℕ). problems_of w file (class_id m)) number ∙ without_at w (suc n) files each.1 k file there

pub of_each : {A : Type 0} (P : A → Type 0) (xs : List A) → AllByRecursion P xs → (n : ℕ) (x : A) → slice_get xs n ≡ Some x → P x
of_each P [] all n x there = absurd (none-some x there)
of_each P (y ∷ xs) all zero x there = subst P (same_Some y x there) all.0
of_each P (y ∷ xs) all (suc n) x there = of_each P xs all.1 n x there

-- A fact of the parts of a program is one of the program.
pub linking : LinkedInParts → NoneHasAProblem → NoneOfEachKind → (Fact : Program → Type 0) (files : List ClassFile) (form : Form) (p : Program) → LinksWell files form p →
    ((classes : List Class) (fields : List Field) (methods : List Method) → Linking files form classes fields methods → Fact (program_with files form classes fields methods)) → Fact p
linking in_parts none_has of_each_kind Fact files form p well of_parts =
    let parts = in_parts files form p well.linked in
    let w = world_of files form in
    let l : Linking files form parts.classes parts.fields parts.methods = record {
      classes_are = parts.classes_are;
      fields_are = parts.fields_are;
      methods_are = parts.methods_are;
      none = λ n file there.
          let number : 0 + n ≡ n = omega arith in
          of_each_kind w file (class_id n) (ap (λ (m : ℕ). problems_of w file (class_id m)) (sym number) ∙ without_at w 0 files (none_has files form well.none) n file there);
      fit = of_each ClassFits files well.fit;
    } in
    subst Fact (sym parts.is) (of_parts parts.classes parts.fields parts.methods l)

-- ---- nothing in lists

pub not_so : (b : Bool) (p : Problem) → if_so b p ≡ [] → b ≡ false
not_so true p e = absurd (cc)
not_so false p e = refl

-- nothing passes a filter
pub none_passes : {A : Type 0} (test : A → Bool) (xs : List A) → filter test xs ≡ [] → (n : ℕ) (x : A) → slice_get xs n ≡ Some x → test x ≡ false
none_passes test [] e n x there = absurd (none-some x there)
none_passes test (y ∷ xs) e zero x there = ap test (sym (same_Some y x there)) ∙ (cond_none (test y) y (filter test xs) e).0
none_passes test (y ∷ xs) e (suc n) x there = none_passes test xs (cond_none (test y) y (filter test xs) e).1 n x there
