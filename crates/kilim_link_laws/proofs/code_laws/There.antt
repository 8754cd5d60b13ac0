-- Options that have a value, and lists of them.
use Rattle.std.proofs.Common.{◌≡◌, ℕ, suc, true, false, List, [], ◌∷◌, ◌++◌, map, Option, Some, None, refl, ap, ◌∙◌, is_some, is_none}
use Rattle.std.specs.List.{flat_map, AllByRecursion}
use Rattle.std.specs.Option.{option_map}
use Rattle.kilim_class_file.specs.declared.class_file.ClassFile.{ClassFile}
use Rattle.kilim_class_file.specs.declared.class_file.MemberInfo.{MemberInfo}
use Rattle.kilim_program.specs.BuiltIn.{class_id}
use Rattle.kilim_program.specs.declared.names.ClassId.{ClassId}
use Rattle.kilim_program.specs.Names.{◌>>=◌}
use Rattle.kilim_link_spec.specs.Code.{applied}
use Rattle.kilim_link_spec.specs.Linked.{numbered}
use Rattle.kilim_link_spec.specs.Types.{each_of, itself, with_first}
use Rattle.kilim_link_laws.proofs.code_laws.Lists.{EachFile}

-- there is a value
pub record There {A : Type 0} (o : Option A) : Type 0 where
  pub x : A
  pub is : o ≡ Some x

pub there : {A : Type 0} (x : A) → There (Some x)
there x = record { x = x; is = refl }

pub same_there : {A : Type 0} (o q : Option A) → o ≡ q → There q → There o
same_there o q e t = record { x = t.x; is = e ∙ t.is }

pub some_there : {A : Type 0} (o : Option A) → is_some o ≡ true → There o
some_there None e = absurd (cc)
some_there (Some x) e = there x

pub not_none_there : {A : Type 0} (o : Option A) → is_none o ≡ false → There o
not_none_there None e = absurd (cc)
not_none_there (Some x) e = there x

pub next_there : {A B : Type 0} (o : Option A) (next : A → Option B) → There o → ((x : A) → o ≡ Some x → There (next x)) → There (o >>= next)
next_there o next t after = same_there (o >>= next) (next t.x) (ap (λ q. q >>= next) t.is) (after t.x t.is)

pub map_there : {A B : Type 0} (f : A → B) (o : Option A) → There o → There (option_map f o)
map_there f o t = same_there (option_map f o) (Some (f t.x)) (ap (option_map f) t.is) (there (f t.x))

pub applied_there : {A B : Type 0} (f : Option (A → B)) (o : Option A) → There f → There o → There (applied f o)
applied_there f o t u = same_there (applied f o) (Some (t.x u.x)) (ap (λ g. applied g o) t.is ∙ ap (applied (Some t.x)) u.is) (there (t.x u.x))

-- ---- all of a list

pub cons_there : {A : Type 0} (first : Option A) (others : Option (List A)) → There first → There others → There (with_first first others)
cons_there first others t u = same_there (with_first first others) (Some (t.x ∷ u.x)) (ap (λ o. with_first o others) t.is ∙ ap (with_first (Some t.x)) u.is) (there (t.x ∷ u.x))

abbrev pub AllThere : {A B : Type 0} → (A → Option B) → List A → Type 0
AllThere make xs = AllByRecursion (λ x. There (make x)) xs

pub each_there : {A B : Type 0} (make : A → Option B) (xs : List A) → AllThere make xs → There (each_of make xs)
each_there make [] all = there []
each_there make (x ∷ xs) all = cons_there (make x) (each_of make xs) all.0 (each_there make xs all.1)

pub all_append : {A : Type 0} (P : A → Type 0) (xs ys : List A) → AllByRecursion P xs → AllByRecursion P ys → AllByRecursion P (xs ++ ys)
all_append P [] ys all more = more
all_append P (x ∷ xs) ys all more = (all.0, all_append P xs ys all.1 more)

pub all_to_map : {A B : Type 0} (P : B → Type 0) (f : A → B) (xs : List A) → AllByRecursion (λ x. P (f x)) xs → AllByRecursion P (map f xs)
all_to_map P f [] all = tt
all_to_map P f (x ∷ xs) all = (all.0, all_to_map P f xs all.1)

-- ---- of all files

numbered_there : {A : Type 0} (make : ClassFile → ClassId → Option A) (n : ℕ) (files : List ClassFile) → EachFile (λ file c. There (make file c)) n files → AllThere itself (numbered make n files)
numbered_there make n [] each = tt
numbered_there make n (file ∷ files) each = (each.0, numbered_there make (suc n) files each.1)

pub classes_there : {A : Type 0} (make : ClassFile → ClassId → Option A) (n : ℕ) (files : List ClassFile) → EachFile (λ file c. There (make file c)) n files → There (each_of itself (numbered make n files))
classes_there make n files each = each_there itself (numbered make n files) (numbered_there make n files each)

all_members : {A : Type 0} (list : ClassFile → List MemberInfo) (make : ClassFile → ClassId → MemberInfo → Option A) (n : ℕ) (files : List ClassFile)
    → EachFile (λ file c. AllThere (make file c) (list file)) n files → AllThere itself (flat_map itself (numbered (λ file c. map (make file c) (list file)) n files))
all_members list make n [] each = tt
all_members list make n (file ∷ files) each =
    all_append (λ o. There o) (map (make file (class_id n)) (list file)) (flat_map itself (numbered (λ file c. map (make file c) (list file)) (suc n) files))
    (all_to_map (λ o. There o) (make file (class_id n)) (list file) each.0) (all_members list make (suc n) files each.1)

pub members_there : {A : Type 0} (list : ClassFile → List MemberInfo) (make : ClassFile → ClassId → MemberInfo → Option A) (n : ℕ) (files : List ClassFile)
    → EachFile (λ file c. AllThere (make file c) (list file)) n files → There (each_of itself (flat_map itself (numbered (λ file c. map (make file c) (list file)) n files)))
members_there list make n files each = each_there itself (flat_map itself (numbered (λ file c. map (make file c) (list file)) n files)) (all_members list make n files each)
