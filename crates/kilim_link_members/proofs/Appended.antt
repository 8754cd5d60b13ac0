-- Making the elements of one list, and then of others behind it.
use Rattle.std.proofs.Common.{◌≡◌, Bool, true, false, ℕ, ◌+◌, ◌<◌, ◌≤◌, zero, suc, List, [], ◌∷◌, ◌++◌, length, drop, get_or, map, Option, Some, None, refl, sym, ap, ◌∙◌, append_assoc, arith, subst}
use Rattle.std.specs.List.{flat_map}
use Rattle.std.proofs.lemmas.List.{append-nil, at_drop_all, get_or_default}
use Rattle.std.proofs.lemmas.Option.{same_Some}
use Rattle.kilim_class_file.specs.declared.class_file.ClassFile.{ClassFile}
use Rattle.kilim_program.specs.BuiltIn.{class_id}
use Rattle.kilim_program.specs.declared.names.ClassId.{ClassId}
use Rattle.kilim_link_spec.specs.Types.{each_of, itself, with_first}
use Rattle.kilim_link_spec.specs.Linked.{numbered}
use Rattle.kilim_link_code.specs.Each.{behind}
use Rattle.kilim_link_members.specs.Each.{if_all}

-- those of one list where there are all, and then the others
abbrev joined : {B : Type 0} → Option (List B) → Option (List B) → Option (List B)
joined None others = None
joined (Some ys) others = behind ys others

begins : {B : Type 0} (others : Option (List B)) → others ≡ behind [] others
begins None = refl
begins (Some ys) = refl

first_of_joined : {B : Type 0} (y : Option B) (ys others : Option (List B)) → with_first y (joined ys others) ≡ joined (with_first y ys) others
first_of_joined None ys others = refl
first_of_joined (Some y) None others = refl
first_of_joined (Some y) (Some ys) None = refl
first_of_joined (Some y) (Some ys) (Some zs) = refl

behind_both : {B : Type 0} (made ys : List B) (others : Option (List B)) → behind made (behind ys others) ≡ behind (made ++ ys) others
behind_both made ys None = refl
behind_both {B} made ys (Some zs) = ap (λ (all : List B). Some all) (sym (append_assoc made ys zs))

goes_behind : {B : Type 0} (made new : List B) (found others : Option (List B)) → behind made found ≡ Some new → behind made (joined found others) ≡ behind new others
goes_behind made new None others e = absurd cc
goes_behind made new (Some ys) others e = behind_both made ys others ∙ ap (λ all. behind all others) (same_Some (made ++ ys) new e)

stops_behind : {B : Type 0} (made : List B) (found others : Option (List B)) → behind made found ≡ None → behind made (joined found others) ≡ None
stops_behind made None others e = refl
stops_behind made (Some ys) others e = absurd cc

module _ {A B : Type 0} (make : A → Option B) where
  each_joined : (xs : List A) (others : List (Option B)) → each_of itself (map make xs ++ others) ≡ joined (each_of make xs) (each_of itself others)
  each_joined [] others = begins (each_of itself others)
  each_joined (x ∷ xs) others = ap (with_first (make x)) (each_joined xs others) ∙ first_of_joined (make x) (each_of make xs) (each_of itself others)

  pub all_then : (made new : List B) (xs : List A) (others : List (Option B)) → behind made (each_of make xs) ≡ Some new
      → behind made (each_of itself (map make xs ++ others)) ≡ behind new (each_of itself others)
  all_then made new xs others e = ap (behind made) (each_joined xs others) ∙ goes_behind made new (each_of make xs) (each_of itself others) e

  pub none_then : (made : List B) (xs : List A) (others : List (Option B)) → behind made (each_of make xs) ≡ None
      → behind made (each_of itself (map make xs ++ others)) ≡ None
  none_then made xs others e = ap (behind made) (each_joined xs others) ∙ stops_behind made (each_of make xs) (each_of itself others) e

drop_one : {A : Type 0} (xs : List A) (i : ℕ) (d : A) → i < length xs → drop i xs ≡ get_or xs i d ∷ drop (i + 1) xs
drop_one [] i d lt = absurd (omega arith)
drop_one (x ∷ xs) zero d lt = refl
drop_one (x ∷ xs) (suc i) d lt =
    let n : suc i + 1 ≡ suc (i + 1) = omega arith in
    drop_one xs i d (omega arith) ∙ ap (λ (k : ℕ). get_or xs i d ∷ drop k (x ∷ xs)) (sym n)

-- ---- a loop that makes each element, and stops where one isn't there

made_then : {B : Type 0} (made : List B) (y : B) (others : Option (List B)) → behind made (with_first (Some y) others) ≡ behind (made ++ y ∷ []) others
made_then made y None = refl
made_then {B} made y (Some zs) = ap (λ (all : List B). Some all) (sym (append_assoc made (y ∷ []) zs))

pub rest_at : {A : Type 0} (xs : List A) (i : ℕ) (x d : A) → i < length xs → x ≡ get_or xs i d → drop i xs ≡ x ∷ drop (i + 1) xs
rest_at xs i x d lt is = drop_one xs i d lt ∙ ap (λ y. y ∷ drop (i + 1) xs) (sym is)

module _ {A B : Type 0} (make : A → Option B) (items xs : List A) (i : ℕ) (x : A) (made : List B) {total : Option (List B)} (same : items ≡ xs) (lt : i < length items) (is : x ≡ get_or items i x) (so_far : behind made (each_of make (drop i xs)) ≡ total) where
  here_at : behind made (with_first (make x) (each_of make (drop (i + 1) xs))) ≡ total
  here_at =
      let within = subst (λ (ys : List A). i < length ys) same lt in
      let here = is ∙ ap (λ (ys : List A). get_or ys i x) same in
      ap (λ ys. behind made (each_of make ys)) (sym (rest_at xs i x x within here)) ∙ so_far

  pub one_more : (y : B) (new : List B) → Some y ≡ make x → new ≡ made ++ y ∷ [] → behind new (each_of make (drop (i + 1) xs)) ≡ total
  one_more y new there step =
      let others = each_of make (drop (i + 1) xs) in
      ap (λ ys. behind ys others) step ∙ (sym (made_then made y others) ∙ (ap (λ o. behind made (with_first o others)) there ∙ here_at))

  pub not_there : None ≡ make x → None ≡ total
  not_there none = ap (λ o. behind made (with_first o (each_of make (drop (i + 1) xs)))) none ∙ here_at

-- the same where the element is copied
module _ {A B : Type 0} (make : A → Option B) (items xs : List A) (i : ℕ) (d : A) (made : List B) {total : Option (List B)} (same : items ≡ xs) (lt : i < length items) (so_far : behind made (each_of make (drop i xs)) ≡ total) where
  abbrev copied : A
  copied = get_or items i d

  pub one_more_at : (y : B) (new : List B) → Some y ≡ make (get_or items i d) → new ≡ made ++ y ∷ [] → behind new (each_of make (drop (i + 1) xs)) ≡ total
  one_more_at y new there step = one_more make items xs i copied made same lt (get_or_default items i d copied lt) so_far y new there step

  pub not_there_at : None ≡ make (get_or items i d) → None ≡ total
  not_there_at none = not_there make items xs i copied made same lt (get_or_default items i d copied lt) so_far none

-- ---- a loop over files, which makes something of each with its number

module _ {B : Type 0} (make : ClassFile → ClassId → Option B) (files : List ClassFile) (i n : ℕ) (file : ClassFile) (made : List B) {total : Option (List B)} (lt : i < length files) (is : file ≡ get_or files i file) (so_far : behind made (each_of itself (numbered make n (drop i files))) ≡ total) where
  numbered_here : behind made (with_first (make file (class_id n)) (each_of itself (numbered make (suc n) (drop (i + 1) files)))) ≡ total
  numbered_here = ap (λ fs. behind made (each_of itself (numbered make n fs))) (sym (rest_at files i file file lt is)) ∙ so_far

  pub next_numbered : (next : ℕ) (y : B) (new : List B) → next ≡ n + 1 → Some y ≡ make file (class_id n) → new ≡ made ++ y ∷ [] → behind new (each_of itself (numbered make next (drop (i + 1) files))) ≡ total
  next_numbered next y new after there step =
      let k : next ≡ suc n = omega arith in
      let others = each_of itself (numbered make (suc n) (drop (i + 1) files)) in
      rw k (ap (λ ys. behind ys others) step ∙ (sym (made_then made y others) ∙ (ap (λ o. behind made (with_first o others)) there ∙ numbered_here)))

  pub not_numbered : None ≡ make file (class_id n) → None ≡ total
  not_numbered none = ap (λ o. behind made (with_first o (each_of itself (numbered make (suc n) (drop (i + 1) files))))) none ∙ numbered_here

-- ---- a loop over files, which makes something of each member of each

module _ {A B : Type 0} (list : ClassFile → List A) (make : ClassFile → ClassId → A → Option B) where
  abbrev in_each : ℕ → List ClassFile → List (Option B)
  in_each n files = flat_map itself (numbered (λ file c. map (make file c) (list file)) n files)

  here : (files : List ClassFile) (i n : ℕ) (file : ClassFile) (made : List B) {total : Option (List B)} → i < length files → file ≡ get_or files i file
      → behind made (each_of itself (in_each n (drop i files))) ≡ total
      → behind made (each_of itself (map (make file (class_id n)) (list file) ++ in_each (suc n) (drop (i + 1) files))) ≡ total
  here files i n file made lt is so_far =
      let at : drop i files ≡ file ∷ drop (i + 1) files = drop_one files i file lt ∙ ap (λ f. f ∷ drop (i + 1) files) (sym is) in
      ap (λ fs. behind made (each_of itself (in_each n fs))) (sym at) ∙ so_far

  pub goes_on : (files : List ClassFile) (i n next : ℕ) (file : ClassFile) (made new : List B) (all : Bool) {total : Option (List B)} → i < length files → file ≡ get_or files i file
      → next ≡ n + 1 → all ≡ true → behind made (each_of (make file (class_id n)) (list file)) ≡ if_all all new
      → behind made (each_of itself (in_each n (drop i files))) ≡ total
      → behind new (each_of itself (in_each next (drop (i + 1) files))) ≡ total
  goes_on files i n next file made new all lt is after yes_all e so_far =
      let k : next ≡ suc n = omega arith in
      let there = e ∙ ap (λ b. if_all b new) yes_all in
      rw k (sym (all_then (make file (class_id n)) made new (list file) (in_each (suc n) (drop (i + 1) files)) there) ∙ here files i n file made lt is so_far)

  pub stops : (files : List ClassFile) (i n : ℕ) (file : ClassFile) (made new : List B) (all : Bool) {total : Option (List B)} → i < length files → file ≡ get_or files i file
      → all ≡ false → behind made (each_of (make file (class_id n)) (list file)) ≡ if_all all new
      → behind made (each_of itself (in_each n (drop i files))) ≡ total
      → None ≡ total
  stops files i n file made new all lt is not_all e so_far =
      let none = e ∙ ap (λ b. if_all b new) not_all in
      sym (none_then (make file (class_id n)) made (list file) (in_each (suc n) (drop (i + 1) files)) none) ∙ here files i n file made lt is so_far

-- ---- the same loops where no element is left

ended : {X B : Type 0} (others : List X → Option (List B)) (items xs : List X) (i : ℕ) (made : List B) {total : Option (List B)} → others [] ≡ Some [] → items ≡ xs → length items ≤ i → behind made (others (drop i xs)) ≡ total → Some made ≡ total
ended {X} {B} others items xs i made none same le so_far =
    let within = subst (λ (ys : List X). length ys ≤ i) same le in
    ap (λ (all : List B). Some all) (sym (append-nil made))
    ∙ (ap (behind made) (sym none) ∙ (sym (at_drop_all (λ (ys : List X). behind made (others ys)) xs i within) ∙ so_far))

pub all_made : {A B : Type 0} (make : A → Option B) (items xs : List A) (i : ℕ) (made : List B) {total : Option (List B)} → items ≡ xs → length items ≤ i → behind made (each_of make (drop i xs)) ≡ total → Some made ≡ total
all_made make items xs i made same le so_far = ended (each_of make) items xs i made refl same le so_far

pub all_numbered : {B : Type 0} (make : ClassFile → ClassId → Option B) (files : List ClassFile) (i n : ℕ) (made : List B) {total : Option (List B)} → length files ≤ i → behind made (each_of itself (numbered make n (drop i files))) ≡ total → Some made ≡ total
all_numbered make files i n made le so_far = ended (λ (fs : List ClassFile). each_of itself (numbered make n fs)) files files i made refl refl le so_far

pub all_in_each : {A B : Type 0} (list : ClassFile → List A) (make : ClassFile → ClassId → A → Option B) (files : List ClassFile) (i n : ℕ) (made : List B) {total : Option (List B)} → length files ≤ i
    → behind made (each_of itself (in_each list make n (drop i files))) ≡ total → Some made ≡ total
all_in_each list make files i n made le so_far = ended (λ (fs : List ClassFile). each_of itself (in_each list make n fs)) files files i made refl refl le so_far

-- ---- what was appended to the empty list

alone : {B : Type 0} (before new : List B) (all : Bool) (others : Option (List B)) → before ≡ [] → behind before others ≡ if_all all new → others ≡ if_all all new
alone {B} before new all others none e = begins others ∙ (ap (λ (bs : List B). behind bs others) (sym none) ∙ e)

pub all_alone : {B : Type 0} (before new : List B) (all : Bool) (others : Option (List B)) → before ≡ [] → all ≡ true → behind before others ≡ if_all all new → Some new ≡ others
all_alone before new all others none is e = sym (alone before new all others none e ∙ ap (λ (b : Bool). if_all b new) is)

pub none_alone : {B : Type 0} (before new : List B) (all : Bool) (others : Option (List B)) → before ≡ [] → all ≡ false → behind before others ≡ if_all all new → None ≡ others
none_alone before new all others none is e = sym (alone before new all others none e ∙ ap (λ (b : Bool). if_all b new) is)
