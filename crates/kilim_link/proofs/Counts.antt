-- How many members files have.
use Rattle.std.proofs.Common.{◌≡◌, ℕ, zero, suc, ◌+◌, ◌*◌, ◌^◌, ◌<◌, ◌≤◌, List, [], ◌∷◌, ◌++◌, length, map, Option, Some, None, refl, sym, ap, ◌∙◌, arith}
use Rattle.std.specs.List.{flat_map, AllByRecursion}
use Rattle.std.proofs.lemmas.List.{length-append, length-map}
use Rattle.std.proofs.lemmas.Option.{same_Some}
use Rattle.kilim_class_file.specs.declared.class_file.ClassFile.{ClassFile}
use Rattle.kilim_class_file.specs.declared.class_file.MemberInfo.{MemberInfo}
use Rattle.kilim_class_file.specs.Text.{ClassFits}
use Rattle.kilim_program.specs.declared.names.ClassId.{ClassId}
use Rattle.kilim_program.specs.BuiltIn.{class_id}
use Rattle.kilim_link_spec.specs.Linked.{numbered, members}
use Rattle.kilim_link_spec.specs.Types.{each_of, itself, with_first}

with_length : {B : Type 0} (n : ℕ) (first : Option B) (others : Option (List B)) (ys : List B) → ((zs : List B) → others ≡ Some zs → length zs ≡ n) → with_first first others ≡ Some ys → length ys ≡ suc n
with_length n (Some y) (Some zs) ys h e = ap length (sym (same_Some (y ∷ zs) ys e)) ∙ ap suc (h zs refl)
with_length n None (Some zs) ys h e = absurd cc
with_length n None None ys h e = absurd cc
with_length n (Some y) None ys h e = absurd cc

-- as many are made as there were
pub each_length : {A B : Type 0} (make : A → Option B) (xs : List A) (ys : List B) → each_of make xs ≡ Some ys → length ys ≡ length xs
each_length make [] ys e = ap length (sym (same_Some [] ys e))
each_length make (x ∷ xs) ys e = with_length (length xs) (make x) (each_of make xs) ys (λ zs. each_length make xs zs) e

module _ {A : Type 0} (list : ClassFile → List MemberInfo) (make : ClassFile → ClassId → MemberInfo → A) (few : (file : ClassFile) → ClassFits file → length (list file) < 2 ^ 16) where
  from : (n : ℕ) (files : List ClassFile) → AllByRecursion ClassFits files → length (flat_map itself (numbered (λ file c. map (make file c) (list file)) n files)) ≤ 65535 * length files
  from n [] fit = omega arith
  from n (file ∷ files) fit =
      let here = few file fit.0 in
      let others = from (suc n) files fit.1 in
      let made = map (make file (class_id n)) (list file) in
      let len = length-map (list file) (make file (class_id n)) in
      let sum = length-append made (flat_map itself (numbered (λ file c. map (make file c) (list file)) (suc n) files)) in
      omega arith

  pub members_few : (files : List ClassFile) → AllByRecursion ClassFits files → length (members list make files) ≤ 65535 * length files
  members_few files fit = from 0 files fit
