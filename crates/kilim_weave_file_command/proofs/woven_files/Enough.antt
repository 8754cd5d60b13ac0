-- There is a class for each class file, and enough methods for all of them.
use Rattle.std.proofs.Common.{◌≡◌, ℕ, suc, ◌+◌, ◌-◌, ◌≤◌, Bool, List, [], ◌∷◌, ◌++◌, length, map, drop, slice_get, Option, Some, None, refl, sym, ap, ◌∙◌, arith}
use Rattle.std.specs.List.{flat_map}
use Rattle.std.proofs.lemmas.List.{length-append, length-drop, length-map}
use Rattle.std.proofs.lemmas.Option.{same_Some}
use Rattle.kilim_program.specs.declared.class.Form.TheVariants.{Plain}
use Rattle.kilim_program.specs.declared.class.Method.{Method}
use Rattle.kilim_program.specs.declared.names.ClassId.{ClassId}
use Rattle.kilim_program.specs.BuiltIn.{built_in_classes_in, built_in_methods_in, class_id}
use Rattle.kilim_program.specs.Program.{Program}
use Rattle.kilim_class_file.specs.declared.class_file.ClassFile.{ClassFile}
use Rattle.kilim_class_file.specs.declared.class_file.MemberInfo.{MemberInfo}
use Rattle.kilim_link_spec.specs.Laws.{LinkedInParts}
use Rattle.kilim_link_spec.specs.Linked.{Linked, linked_class, linked_method, members, numbered}
use Rattle.kilim_link_spec.specs.Types.{each_of, itself, with_first}
use Rattle.kilim_link_spec.specs.World.{world_of}
use Rattle.kilim_weave.specs.declared.weaving.Woven.{Woven}
use Rattle.kilim_weave_spec.specs.Form.{AllWoven, WovenForm}
use Rattle.kilim_weave_file_command.specs.woven_files.Parts.{HasEach, methods_in}
use Rattle.kilim_weave_file_command.proofs.woven_files.Weaving.{drop_there}

-- ---- the methods of a class file, among those that are left

module _ (files : List ClassFile) (i : ℕ) (file : ClassFile) (there : slice_get files i ≡ Some file) where
  methods_at : methods_in (drop i files) ≡ length file.methods + methods_in (drop (i + 1) files)
  methods_at = ap methods_in (drop_there files i file there)

  pub enough_here : {A : Type 0} (xs : List A) → methods_in (drop i files) ≤ length xs → length file.methods ≤ length xs
  enough_here xs le = let e = methods_at in omega (arith, e, le)

  pub enough_behind : {A : Type 0} (n : ℕ) (xs rest : List A) → n ≡ length file.methods → rest ≡ drop n xs → methods_in (drop i files) ≤ length xs → methods_in (drop (i + 1) files) ≤ length rest
  enough_behind n xs rest is left le =
      let e = methods_at in
      let long : length rest ≡ length xs - n = ap length left ∙ length-drop n xs in
      omega (arith, e, long, is, le)

-- ---- of class files that link

one_longer : {B : Type 0} (n : ℕ) (first : Option B) (others : Option (List B)) (ys : List B) → ((zs : List B) → others ≡ Some zs → length zs ≡ n) → with_first first others ≡ Some ys → length ys ≡ suc n
one_longer n (Some y) (Some zs) ys h e = ap length (sym (same_Some (y ∷ zs) ys e)) ∙ ap suc (h zs refl)
one_longer n None (Some zs) ys h e = absurd cc
one_longer n None None ys h e = absurd cc
one_longer n (Some y) None ys h e = absurd cc

-- as many are made as there were
each_length : {A B : Type 0} (make : A → Option B) (xs : List A) (ys : List B) → each_of make xs ≡ Some ys → length ys ≡ length xs
each_length make [] ys e = ap length (sym (same_Some [] ys e))
each_length make (x ∷ xs) ys e = one_longer (length xs) (make x) (each_of make xs) ys (λ zs. each_length make xs zs) e

numbered_length : {A : Type 0} (make : ClassFile → ClassId → A) (n : ℕ) (files : List ClassFile) → length (numbered make n files) ≡ length files
numbered_length make n [] = refl
numbered_length make n (file ∷ files) = ap suc (numbered_length make (suc n) files)

members_length : {A : Type 0} (make : ClassFile → ClassId → MemberInfo → A) (n : ℕ) (files : List ClassFile) → length (flat_map itself (numbered (λ file c. map (make file c) file.methods) n files)) ≡ methods_in files
members_length make n [] = refl
members_length make n (file ∷ files) =
    let sum = length-append (map (make file (class_id n)) file.methods) (flat_map itself (numbered (λ file c. map (make file c) file.methods) (suc n) files)) in
    let here = length-map file.methods (make file (class_id n)) in
    let later = members_length make (suc n) files in
    omega (arith, sum, here, later)

woven_long : (p : Program) (ms ws : List Method) (marks : List (List Bool)) → AllWoven p ms ws marks → (length ms ≤ length ws) × (length ms ≤ length marks)
woven_long p [] ws marks all = (omega arith, omega arith)
woven_long p (m ∷ ms) (w ∷ ws) (c ∷ marks) all = let r = woven_long p ms ws marks all.1 in let a = r.0 in let b = r.1 in (omega (arith, a), omega (arith, b))
woven_long p (m ∷ ms) [] marks all = absurd all
woven_long p (m ∷ ms) (w ∷ ws) [] all = absurd all

pub each_there : (law : LinkedInParts) (p : Program) (w : Woven) (files : List ClassFile) → Linked files Plain p → WovenForm p w.program w.counted → HasEach p w files
each_there law p w files linked form =
    let parts = law files Plain p linked in
    let classes : length p.classes ≡ length parts.classes + length (built_in_classes_in Plain (length files) (length parts.methods)) =
    ap (λ (q : Program). length q.classes) parts.is ∙ length-append parts.classes (built_in_classes_in Plain (length files) (length parts.methods)) in
    let as_many : length parts.classes ≡ length files = each_length itself (numbered (linked_class (world_of files Plain)) 0 files) parts.classes parts.classes_are ∙ numbered_length (linked_class (world_of files Plain)) 0 files in
    let methods : length p.methods ≡ length parts.methods + length (built_in_methods_in Plain (length files)) =
    ap (λ (q : Program). length q.methods) parts.is ∙ length-append parts.methods (built_in_methods_in Plain (length files)) in
    let those : length parts.methods ≡ methods_in files =
    each_length itself (members (λ file. file.methods) (linked_method (world_of files Plain)) files) parts.methods parts.methods_are ∙ members_length (linked_method (world_of files Plain)) 0 files in
    let woven = woven_long p p.methods w.program.methods w.counted form.methods in
    let a = woven.0 in
    let b = woven.1 in
    record { classes = omega (arith, classes, as_many); methods = omega (arith, methods, those); woven = omega (arith, methods, those, a); marks = omega (arith, methods, those, b) }
