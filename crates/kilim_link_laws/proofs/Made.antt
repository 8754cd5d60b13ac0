-- What is made of each element of a list, of each file with its number, and of each member.
use Rattle.std.proofs.Common.{◌≡◌, ℕ, zero, suc, ◌+◌, List, [], ◌∷◌, ◌++◌, length, slice_get, Option, Some, None, refl, sym, ap, ◌∙◌, arith}
use Rattle.std.proofs.lemmas.Option.{same_Some, none-some, slice_get_within}
use Rattle.kilim_lemmas.proofs.Lists.{get_some}
use Rattle.kilim_class_file.specs.declared.class_file.ClassFile.{ClassFile}
use Rattle.kilim_program.specs.declared.names.ClassId.{ClassId}
use Rattle.kilim_program.specs.BuiltIn.{class_id}
use Rattle.kilim_link_spec.specs.Linked.{numbered}
use Rattle.kilim_link_spec.specs.Types.{each_of, itself, with_first}

-- ---- all that are there

pub record FirstOf {A : Type 0} (a : Option A) (b : Option (List A)) (ys : List A) : Type 0 where
  pub first : A
  pub rest : List A
  pub first_is : a ≡ Some first
  pub rest_is : b ≡ Some rest
  pub is : ys ≡ first ∷ rest

pub first_of : {A : Type 0} (a : Option A) (b : Option (List A)) (ys : List A) → with_first a b ≡ Some ys → FirstOf a b ys
first_of None None ys e = absurd (none-some ys e)
first_of None (Some xs) ys e = absurd (none-some ys e)
first_of (Some x) None ys e = absurd (none-some ys e)
first_of (Some x) (Some xs) ys e = record { first = x; rest = xs; first_is = refl; rest_is = refl; is = sym (same_Some (x ∷ xs) ys e) }

pub each_length : {A B : Type 0} (make : A → Option B) (xs : List A) (ys : List B) → each_of make xs ≡ Some ys → length ys ≡ length xs
each_length make [] ys e = ap length (sym (same_Some [] ys e))
each_length make (x ∷ xs) ys e =
    let f = first_of (make x) (each_of make xs) ys e in
    ap length f.is ∙ ap suc (each_length make xs f.rest f.rest_is)

-- what is made of the element at a place
pub record MadeAt {A B : Type 0} (make : A → Option B) (ys : List B) (n : ℕ) (x : A) : Type 0 where
  pub made : B
  pub is : make x ≡ Some made
  pub at : slice_get ys n ≡ Some made

pub made_at : {A B : Type 0} (make : A → Option B) (xs : List A) (ys : List B) → each_of make xs ≡ Some ys → (n : ℕ) (x : A) → slice_get xs n ≡ Some x → MadeAt make ys n x
made_at make [] ys e n x there = absurd (none-some x there)
made_at make (y ∷ xs) ys e zero x there =
    let f = first_of (make y) (each_of make xs) ys e in
    record { made = f.first; is = ap make (sym (same_Some y x there)) ∙ f.first_is; at = ap (λ (zs : List _). slice_get zs 0) f.is }
made_at make (y ∷ xs) ys e (suc n) x there =
    let f = first_of (make y) (each_of make xs) ys e in
    let m = made_at make xs f.rest f.rest_is n x there in
    record { made = m.made; is = m.is; at = ap (λ (zs : List _). slice_get zs (suc n)) f.is ∙ m.at }

-- what an element is made of
pub record MadeOf {A B : Type 0} (make : A → Option B) (xs : List A) (n : ℕ) (y : B) : Type 0 where
  pub of : A
  pub at : slice_get xs n ≡ Some of
  pub is : make of ≡ Some y

pub made_of : {A B : Type 0} (make : A → Option B) (xs : List A) (ys : List B) → each_of make xs ≡ Some ys → (n : ℕ) (y : B) → slice_get ys n ≡ Some y → MadeOf make xs n y
made_of make xs ys e n y there =
    let within = slice_get_within ys n y there in
    let x = get_some xs n (omega (arith, within, each_length make xs ys e)) in
    let m = made_at make xs ys e n x.0 x.1 in
    record { of = x.0; at = x.1; is = m.is ∙ (sym m.at ∙ there) }

pub record TwoParts {A B : Type 0} (make : A → Option B) (xs zs : List A) (ys : List B) : Type 0 where
  pub left : List B
  pub right : List B
  pub left_is : each_of make xs ≡ Some left
  pub right_is : each_of make zs ≡ Some right
  pub is : ys ≡ left ++ right

-- ---- files by their numbers

pub numbered_at : {A : Type 0} (make : ClassFile → ClassId → A) (n : ℕ) (files : List ClassFile) (k : ℕ) (file : ClassFile) → slice_get files k ≡ Some file →
    slice_get (numbered make n files) k ≡ Some (make file (class_id (n + k)))
numbered_at make n [] k file there = absurd (none-some file there)
numbered_at make n (f ∷ files) zero file there =
    let same = same_Some f file there in
    let number : n ≡ n + 0 = omega arith in
    ap (λ (g : ClassFile). Some (make g (class_id n))) same ∙ ap (λ (m : ℕ). Some (make file (class_id m))) number
numbered_at make n (f ∷ files) (suc k) file there =
    let number : suc n + k ≡ n + suc k = omega arith in
    numbered_at make (suc n) files k file there ∙ ap (λ (m : ℕ). Some (make file (class_id m))) number

pub length-numbered : {A : Type 0} (make : ClassFile → ClassId → A) (n : ℕ) (files : List ClassFile) → length (numbered make n files) ≡ length files
length-numbered make n [] = refl
length-numbered make n (f ∷ files) = ap suc (length-numbered make (suc n) files)

-- the file that what is made at a place is made of
pub record FileMade {B : Type 0} (make : ClassFile → ClassId → Option B) (files : List ClassFile) (n : ℕ) (y : B) : Type 0 where
  pub file : ClassFile
  pub at : slice_get files n ≡ Some file
  pub is : make file (class_id n) ≡ Some y

pub file_made : {B : Type 0} (make : ClassFile → ClassId → Option B) (files : List ClassFile) (ys : List B) → each_of itself (numbered make 0 files) ≡ Some ys →
    (n : ℕ) (y : B) → slice_get ys n ≡ Some y → FileMade make files n y
file_made make files ys e n y there =
    let m = made_of itself (numbered make 0 files) ys e n y there in
    let within = slice_get_within (numbered make 0 files) n m.of m.at in
    let f = get_some files n (omega (arith, within, length-numbered make 0 files)) in
    let number : 0 + n ≡ n = omega arith in
    let same = same_Some _ _ (sym (numbered_at make 0 files n f.0 f.1) ∙ m.at) in
    record { file = f.0; at = f.1; is = ap (λ (m : ℕ). make f.0 (class_id m)) (sym number) ∙ (same ∙ m.is) }

pub file_makes : {B : Type 0} (make : ClassFile → ClassId → Option B) (files : List ClassFile) (ys : List B) → each_of itself (numbered make 0 files) ≡ Some ys →
    (n : ℕ) (file : ClassFile) → slice_get files n ≡ Some file → MadeAt (λ (f : ClassFile). make f (class_id n)) ys n file
file_makes make files ys e n file there =
    let number : 0 + n ≡ n = omega arith in
    let m = made_at itself (numbered make 0 files) ys e n (make file (class_id (0 + n))) (numbered_at make 0 files n file there) in
    record { made = m.made; is = ap (λ (m : ℕ). make file (class_id m)) (sym number) ∙ m.is; at = m.at }
