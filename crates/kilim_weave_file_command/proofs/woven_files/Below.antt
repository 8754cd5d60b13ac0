-- The names of woven files are those of classes.
use Rattle.std.proofs.Common.{◌≡◌, ℕ, suc, Bool, true, false, not, List, [], ◌∷◌, ◌++◌, length, Option, Some, None, refl, sym, ap, ◌∙◌, arith}
use Rattle.std.specs.List.{AllByRecursion}
use Rattle.std.proofs.lemmas.Option.{none-some}
use Rattle.kilim_program.specs.declared.class.Class.{Class}
use Rattle.kilim_program.specs.declared.class.Form.TheVariants.{Plain}
use Rattle.kilim_program.specs.declared.names.ClassId.{ClassId}
use Rattle.kilim_program.specs.BuiltIn.{built_in_classes_in, class_id}
use Rattle.kilim_program.specs.Names.{◌>>=◌}
use Rattle.kilim_program.specs.Program.{Program}
use Rattle.kilim_class_file.specs.declared.class_file.ClassFile.{ClassFile}
use Rattle.kilim_link_spec.specs.declared.fault.Problem.{Problem}
use Rattle.kilim_link_spec.specs.Faults.{if_so, is_class_name, name_broken}
use Rattle.kilim_link_spec.specs.Laws.{EachIsWithout, LinkedInParts, NoneHasAProblem, NoneOfEachKind}
use Rattle.kilim_link_spec.specs.Linked.{linked_class, numbered}
use Rattle.kilim_link_spec.specs.Types.{each_of, itself, with_first}
use Rattle.kilim_link_spec.specs.World.{World, own_name, world_of}
use Rattle.kilim_stages.proofs.Both.{as_many}
use Rattle.kilim_weave_file_command.specs.declared.woven_files.made.WovenFile.{WovenFile}
use Rattle.kilim_weave_file_command.specs.woven_files.Laws.{StayBelow}
use Rattle.kilim_weave_file_command.specs.woven_files.WovenFiles.{AreOutputs, woven_of}
use Rattle.kilim_weave_file_command.proofs.woven_files.Written.{woven_length}

-- ---- classes that are there

record First {A : Type 0} (o : Option A) (os : Option (List A)) (cs : List A) : Type 0 where
  first : A
  others : List A
  is_first : o ≡ Some first
  are_others : os ≡ Some others
  are : cs ≡ first ∷ others

same_list : {A : Type 0} (xs ys : List A) → Some xs ≡ Some ys → xs ≡ ys
same_list xs ys e = cc

first_of : {A : Type 0} (o : Option A) (os : Option (List A)) (cs : List A) → with_first o os ≡ Some cs → First o os cs
first_of None os cs e = absurd (none-some cs e)
first_of (Some c) None cs e = absurd (none-some cs e)
first_of (Some c) (Some ds) cs e = record { first = c; others = ds; is_first = refl; are_others = refl; are = sym (same_list (c ∷ ds) cs e) }

same_name : (a b : Class) → Some a ≡ Some b → b.name ≡ a.name
same_name a b e = ap (λ (c : Class). c.name) (sym (same a b e))
  where
    same : (a b : Class) → Some a ≡ Some b → a ≡ b
    same a b e = cc

named_so : (o : Option ClassId) (make : ClassId → Class) (name : List ℕ) (class : Class) → ((up : ClassId) → (make up).name ≡ name) → (o >>= (λ up. Some (make up))) ≡ Some class → class.name ≡ name
named_so None make name class same e = absurd (none-some class e)
named_so (Some up) make name class same e = same_name (make up) class e ∙ same up

own_name_of : (w : World) (file : ClassFile) (c : ClassId) (class : Class) → linked_class w file c ≡ Some class → class.name ≡ own_name file
own_name_of w file c class e = named_so _ _ (own_name file) class (λ up. refl) e

-- ---- the name is one of a class

not_so : (b : Bool) (x : Problem) → if_so (not b) x ≡ [] → b ≡ true
not_so true x e = refl
not_so false x e = absurd (cc)

whole : (w : World) (file : ClassFile) (c : ClassId) → name_broken w file c ≡ [] → is_class_name (own_name file) ≡ true
unfolding name_broken
whole w file c e = not_so (is_class_name (own_name file)) _ e

module _ (p : Program) (w : World) (of_each : NoneOfEachKind) where
  each_is_whole : (n : ℕ) (files : List ClassFile) (classes own more : List Class) → each_of itself (numbered (linked_class w) n files) ≡ Some own → EachIsWithout w n files → classes ≡ own ++ more →
      (fs : List ClassFile) (os : List WovenFile) → length fs ≡ length files → AreOutputs p classes fs os → AllByRecursion (λ (o : WovenFile). is_class_name o.class ≡ true) os
  each_is_whole n files classes own more made without is [] [] len are = tt
  each_is_whole n [] classes own more made without is (f ∷ fs) os len are = absurd (omega (arith, len))
  each_is_whole n (file ∷ files) [] own more made without is (f ∷ fs) (o ∷ os) len are = absurd are
  each_is_whole n (file ∷ files) (c ∷ classes) own more made without is (f ∷ fs) (o ∷ os) len are =
      let x = first_of (linked_class w file (class_id n)) (each_of itself (numbered (linked_class w) (suc n) files)) own made in
      let both : c ∷ classes ≡ x.first ∷ (x.others ++ more) = is ∙ ap (λ (cs : List Class). cs ++ more) x.are in
      let name : o.class ≡ own_name file = are.0.class ∙ (ap (λ (k : Class). k.name) (head_is c x.first classes (x.others ++ more) both) ∙ own_name_of w file (class_id n) x.first x.is_first) in (
        ap is_class_name name ∙ whole w file (class_id n) (of_each w file (class_id n) without.0).name_is_whole,
        each_is_whole (suc n) files classes x.others more x.are_others without.1 (tail_is c x.first classes (x.others ++ more) both) fs os (omega (arith, len)) are.1,
      )
    where
      head_is : (a b : Class) (cs ds : List Class) → a ∷ cs ≡ b ∷ ds → a ≡ b
      head_is a b cs ds e = cc

      tail_is : (a b : Class) (cs ds : List Class) → a ∷ cs ≡ b ∷ ds → cs ≡ ds
      tail_is a b cs ds e = cc
  each_is_whole n files [] own more made without is [] (o ∷ os) len are = absurd are
  each_is_whole n files (c ∷ classes) own more made without is [] (o ∷ os) len are = absurd are
  each_is_whole n (file ∷ files) [] own more made without is (f ∷ fs) [] len are = absurd are
  each_is_whole n (file ∷ files) (c ∷ classes) own more made without is (f ∷ fs) [] len are = absurd are

pub stay_below : LinkedInParts → NoneHasAProblem → NoneOfEachKind → StayBelow
stay_below in_parts none_has of_each files outputs is =
    let old = is.accepted.of_files in
    let parts = in_parts old.classes Plain is.program old.linked in
    let many : length is.classes ≡ length old.classes = as_many files is.classes is.are_files ∙ sym (as_many files old.classes old.are_files) in
    each_is_whole is.program (world_of old.classes Plain) of_each 0 old.classes is.program.classes parts.classes (built_in_classes_in Plain (length old.classes) (length parts.methods))
    parts.classes_are (none_has old.classes Plain old.none) (ap (λ (q : Program). q.classes) parts.is)
    (woven_of is.program is.woven is.classes) outputs (woven_length is.woven.program is.classes is.program.methods is.woven.program.methods is.woven.counted ∙ many) is.are_outputs
