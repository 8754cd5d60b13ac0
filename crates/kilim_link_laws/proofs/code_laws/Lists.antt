-- What holds of each element of a list that was made of another, where there are all.
use Rattle.std.proofs.Common.{◌≡◌, ℕ, suc, Bool, true, List, [], ◌∷◌, ◌++◌, length, map, Option, Some, None, refl, ap, sym, subst, ◌∙◌}
use Rattle.std.specs.Prelude.{◌&&◌}
use Rattle.std.specs.List.{list_all, flat_map, AllByRecursion}
use Rattle.std.proofs.lemmas.Bool.{and_from}
use Rattle.std.proofs.lemmas.List.Folds.{list_all-append}
use Rattle.std.proofs.lemmas.Option.{same_Some, none-some}
use Rattle.kilim_class_file.specs.declared.class_file.ClassFile.{ClassFile}
use Rattle.kilim_class_file.specs.declared.class_file.MemberInfo.{MemberInfo}
use Rattle.kilim_program.specs.BuiltIn.{class_id}
use Rattle.kilim_program.specs.declared.names.ClassId.{ClassId}
use Rattle.kilim_link_spec.specs.Linked.{numbered}
use Rattle.kilim_link_spec.specs.Types.{each_of, itself, with_first}

-- the first and the others of a list whose elements are all there
pub record FirstAnd {A : Type 0} (first : Option A) (others : Option (List A)) (all : List A) : Type 0 where
  pub x : A
  pub xs : List A
  pub first_is : first ≡ Some x
  pub others_are : others ≡ Some xs
  pub is : all ≡ x ∷ xs

pub first_and : {A : Type 0} (first : Option A) (others : Option (List A)) (all : List A) → with_first first others ≡ Some all → FirstAnd first others all
first_and None others all e = absurd (none-some all e)
first_and (Some x) None all e = absurd (none-some all e)
first_and (Some x) (Some xs) all e = record { x = x; xs = xs; first_is = refl; others_are = refl; is = sym (same_Some (x ∷ xs) all e) }

pub both_there : {A : Type 0} (x : A) (xs : List A) (first : Option A) (others : Option (List A)) → first ≡ Some x → others ≡ Some xs → with_first first others ≡ Some (x ∷ xs)
both_there x xs first others e f = ap (λ o. with_first o others) e ∙ ap (λ o. with_first (Some x) o) f

-- ---- what holds of each

pub all_from : {A : Type 0} (P : A → Type 0) → ((x : A) → P x) → (xs : List A) → AllByRecursion P xs
all_from P each [] = tt
all_from P each (x ∷ xs) = (each x, all_from P each xs)

pub all_map : {A : Type 0} (P Q : A → Type 0) → ((x : A) → P x → Q x) → (xs : List A) → AllByRecursion P xs → AllByRecursion Q xs
all_map P Q each [] all = tt
all_map P Q each (x ∷ xs) all = (each x all.0, all_map P Q each xs all.1)

pub all_both : {A : Type 0} (P Q R : A → Type 0) → ((x : A) → P x → Q x → R x) → (xs : List A) → AllByRecursion P xs → AllByRecursion Q xs → AllByRecursion R xs
all_both P Q R each [] ps qs = tt
all_both P Q R each (x ∷ xs) ps qs = (each x ps.0 qs.0, all_both P Q R each xs ps.1 qs.1)

pub list_all_same : {A : Type 0} (f g : A → Bool) → ((x : A) → f x ≡ g x) → (xs : List A) → list_all f xs ≡ list_all g xs
list_all_same f g same [] = refl
list_all_same f g same (x ∷ xs) = ap (λ (b : Bool). b && list_all f xs) (same x) ∙ ap (λ (b : Bool). g x && b) (list_all_same f g same xs)

pub each_of_all : {A B : Type 0} (make : A → Option B) (test : B → Bool) (xs : List A) (ys : List B) → AllByRecursion (λ x. (y : B) → make x ≡ Some y → test y ≡ true) xs → each_of make xs ≡ Some ys → list_all test ys ≡ true
each_of_all make test [] ys all e = subst (λ zs. list_all test zs ≡ true) (same_Some [] ys e) refl
each_of_all make test (x ∷ xs) ys all e =
    let f = first_and (make x) (each_of make xs) ys e in
    subst (λ zs. list_all test zs ≡ true) (sym f.is) (and_from _ _ (all.0 f.x f.first_is) (each_of_all make test xs f.xs all.1 f.others_are))

pub each_of_length : {A B : Type 0} (make : A → Option B) (xs : List A) (ys : List B) → each_of make xs ≡ Some ys → length ys ≡ length xs
each_of_length make [] ys e = ap length (sym (same_Some [] ys e))
each_of_length make (x ∷ xs) ys e =
    let f = first_and (make x) (each_of make xs) ys e in
    ap length f.is ∙ ap suc (each_of_length make xs f.xs f.others_are)

-- what is made of a front and of the rest
pub record Halves {A B : Type 0} (make : A → Option B) (xs ys : List A) (all : List B) : Type 0 where
  pub front : List B
  pub back : List B
  pub front_is : each_of make xs ≡ Some front
  pub back_is : each_of make ys ≡ Some back
  pub is : all ≡ front ++ back

pub halves : {A B : Type 0} (make : A → Option B) (xs ys : List A) (all : List B) → each_of make (xs ++ ys) ≡ Some all → Halves make xs ys all
halves make [] ys all e = record { front = []; back = all; front_is = refl; back_is = e; is = refl }
halves make (x ∷ xs) ys all e =
    let f = first_and (make x) (each_of make (xs ++ ys)) all e in
    let h = halves make xs ys f.xs f.others_are in
    record {
      front = f.x ∷ h.front;
      back = h.back;
      front_is = both_there f.x h.front (make x) (each_of make xs) f.first_is h.front_is;
      back_is = h.back_is;
      is = f.is ∙ ap (λ zs. f.x ∷ zs) h.is;
    }

pub each_of_map : {A B : Type 0} (make : A → Option B) (xs : List A) → each_of itself (map make xs) ≡ each_of make xs
each_of_map make [] = refl
each_of_map make (x ∷ xs) = ap (λ o. with_first (make x) o) (each_of_map make xs)

-- ---- files with their numbers

abbrev pub EachFile : (ClassFile → ClassId → Type 0) → ℕ → List ClassFile → Type 0
EachFile P n [] = Unit {0}
EachFile P n (file ∷ files) = P file (class_id n) × EachFile P (suc n) files

pub each_file : (P : ClassFile → ClassId → Type 0) → ((file : ClassFile) (c : ClassId) → P file c) → (n : ℕ) (files : List ClassFile) → EachFile P n files
each_file P each n [] = tt
each_file P each n (file ∷ files) = (each file (class_id n), each_file P each (suc n) files)

-- the members of all files pass a test, where those of each file do
pub members_pass : {A : Type 0} (test : A → Bool) (list : ClassFile → List MemberInfo) (make : ClassFile → ClassId → MemberInfo → Option A) (n : ℕ) (files : List ClassFile) (ys : List A)
    → EachFile (λ file c. AllByRecursion (λ m. (y : A) → make file c m ≡ Some y → test y ≡ true) (list file)) n files
    → each_of itself (flat_map itself (numbered (λ file c. map (make file c) (list file)) n files)) ≡ Some ys → list_all test ys ≡ true
members_pass test list make n [] ys each e = subst (λ zs. list_all test zs ≡ true) (same_Some [] ys e) refl
members_pass test list make n (file ∷ files) ys each e =
    let h = halves itself (map (make file (class_id n)) (list file)) (flat_map itself (numbered (λ file c. map (make file c) (list file)) (suc n) files)) ys e in
    let front = each_of_all (make file (class_id n)) test (list file) h.front each.0 (sym (each_of_map (make file (class_id n)) (list file)) ∙ h.front_is) in
    let back = members_pass test list make (suc n) files h.back each.1 h.back_is in
    subst (λ zs. list_all test zs ≡ true) (sym h.is) (list_all-append test h.front h.back ∙ and_from _ _ front back)

-- what is made of the files passes a test, where that of each file does
pub numbered_pass : {A : Type 0} (test : A → Bool) (make : ClassFile → ClassId → Option A) (n : ℕ) (files : List ClassFile) (ys : List A) → EachFile (λ file c. (y : A) → make file c ≡ Some y → test y ≡ true) n files
    → each_of itself (numbered make n files) ≡ Some ys → list_all test ys ≡ true
numbered_pass test make n [] ys each e = subst (λ zs. list_all test zs ≡ true) (same_Some [] ys e) refl
numbered_pass test make n (file ∷ files) ys each e =
    let f = first_and (make file (class_id n)) (each_of itself (numbered make (suc n) files)) ys e in
    subst (λ zs. list_all test zs ≡ true) (sym f.is) (and_from _ _ (each.0 f.x f.first_is) (numbered_pass test make (suc n) files f.xs each.1 f.others_are))

numbered_length : {A : Type 0} (make : ClassFile → ClassId → A) (n : ℕ) (files : List ClassFile) → length (numbered make n files) ≡ length files
numbered_length make n [] = refl
numbered_length make n (file ∷ files) = ap suc (numbered_length make (suc n) files)

-- as many as there are files
pub made_length : {A : Type 0} (make : ClassFile → ClassId → Option A) (n : ℕ) (files : List ClassFile) (ys : List A) → each_of itself (numbered make n files) ≡ Some ys → length ys ≡ length files
made_length make n files ys e = each_of_length itself (numbered make n files) ys e ∙ numbered_length make n files
