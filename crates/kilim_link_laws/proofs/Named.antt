-- Classes by their names: which one has a number, and which one has a name.
use Rattle.std.proofs.Common.{◌≡◌, ℕ, zero, suc, ◌+◌, ◌<◌, Bool, true, false, cond, List, [], ◌∷◌, length, slice_get, Option, Some, option_map, bytes_eq, refl, sym, ap, ◌∙◌, arith}
use Rattle.std.specs.List.{position_from}
use Rattle.std.proofs.lemmas.Bool.{both_ways, cond-false, cond-true, false_from_ne_true}
use Rattle.std.proofs.lemmas.Option.{same_Some, none-some}
use Rattle.kilim_lemmas.proofs.Texts.{text_is, same_text}
use Rattle.kilim_program.specs.declared.class.Class.{Class}
use Rattle.kilim_program.specs.declared.names.ClassId.{ClassId}
use Rattle.kilim_program.specs.BuiltIn.{class_id}
use Rattle.kilim_program.specs.Names.{◌>>=◌, class_from}
use Rattle.kilim_link_spec.specs.World.{number_of, outlined}
use Rattle.kilim_link_spec.specs.declared.view.ClassView.{ClassView}

-- ---- texts

pub texts_differ : (xs ys : List ℕ) → bytes_eq xs ys ≡ false → xs ≡ ys → ⊥
texts_differ xs ys e same = both_ways (bytes_eq xs ys) e (same_text xs ys same)

pub differ_texts : (xs ys : List ℕ) → (xs ≡ ys → ⊥) → bytes_eq xs ys ≡ false
differ_texts xs ys ne = false_from_ne_true (bytes_eq xs ys) (λ e. ne (text_is xs ys e))

pub texts_back : (xs ys : List ℕ) → bytes_eq xs ys ≡ false → bytes_eq ys xs ≡ false
texts_back xs ys e = differ_texts ys xs (λ same. texts_differ xs ys e (sym same))

-- ---- the outline

abbrev pub outlined_one : List ClassView → (ClassId → ClassView → Bool) → ℕ → ClassView → Class
outlined_one all mark n v = record { name = v.name; superclass = v.superclass >>= number_of all; is_abstract = v.is_abstract; message = mark (class_id n) v; fields = []; methods = [] }

pub outlined_at : (all : List ClassView) (mark : ClassId → ClassView → Bool) (n : ℕ) (vs : List ClassView) (k : ℕ) →
    slice_get (outlined all mark n vs) k ≡ option_map (outlined_one all mark (n + k)) (slice_get vs k)
outlined_at all mark n [] k = refl
outlined_at all mark n (v ∷ vs) zero = let number : n ≡ n + 0 = omega arith in ap (λ (m : ℕ). Some (outlined_one all mark m v)) number
outlined_at all mark n (v ∷ vs) (suc k) =
    let number : n + 1 + k ≡ n + suc k = omega arith in
    outlined_at all mark (n + 1) vs k ∙ ap (λ (m : ℕ). option_map (outlined_one all mark m) (slice_get vs k)) number

pub length-outlined : (all : List ClassView) (mark : ClassId → ClassView → Bool) (n : ℕ) (vs : List ClassView) → length (outlined all mark n vs) ≡ length vs
length-outlined all mark n [] = refl
length-outlined all mark n (v ∷ vs) = ap suc (length-outlined all mark (n + 1) vs)

-- ---- the class of a name

abbrev is_named : List ℕ → ClassView → Bool
is_named name v = bytes_eq v.name name

found_so : (b : Bool) (n : ℕ) (o : Option ℕ) → cond b (Some (class_id n)) (option_map class_id o) ≡ option_map class_id (cond b (Some n) o)
found_so true n o = refl
found_so false n o = refl

pub class_from_outlined : (all : List ClassView) (mark : ClassId → ClassView → Bool) (name : List ℕ) (n : ℕ) (vs : List ClassView) →
    class_from (outlined all mark n vs) name n ≡ option_map class_id (position_from (is_named name) n vs)
class_from_outlined all mark name n [] = refl
class_from_outlined all mark name n (v ∷ vs) =
    let number : suc n ≡ n + 1 = omega arith in
    ap (λ (m : ℕ). cond (bytes_eq v.name name) (Some (class_id n)) (class_from (outlined all mark (n + 1) vs) name m)) number
    ∙ (ap (cond (bytes_eq v.name name) (Some (class_id n))) (class_from_outlined all mark name (n + 1) vs)
    ∙ found_so (bytes_eq v.name name) n (position_from (is_named name) (n + 1) vs))

-- the place of the first one that passes
pub position_at : {A : Type 0} (test : A → Bool) (n : ℕ) (xs : List A) (k : ℕ) (x : A) → slice_get xs k ≡ Some x → test x ≡ true →
    ((i : ℕ) (y : A) → i < k → slice_get xs i ≡ Some y → test y ≡ false) → position_from test n xs ≡ Some (n + k)
position_at test n [] k x there passes before = absurd (none-some x there)
position_at test n (y ∷ xs) zero x there passes before =
    let number : n ≡ n + 0 = omega arith in
    cond-true (test y) (Some n) (position_from test (n + 1) xs) (ap test (same_Some y x there) ∙ passes) ∙ ap Some number
position_at test n (y ∷ xs) (suc k) x there passes before =
    let number : n + 1 + k ≡ n + suc k = omega arith in
    cond-false (test y) (Some n) (position_from test (n + 1) xs) (before 0 y (omega arith) refl)
    ∙ (position_at test (n + 1) xs k x there passes (λ i z l e. before (suc i) z (omega (arith, l)) e) ∙ ap Some number)

pub record Position {A : Type 0} (test : A → Bool) (n : ℕ) (xs : List A) (m : ℕ) : Type 0 where
  pub place : ℕ
  pub of : A
  pub at : slice_get xs place ≡ Some of
  pub passes : test of ≡ true
  pub is : m ≡ n + place

position_by : {A : Type 0} (test : A → Bool) (n : ℕ) (x : A) (xs : List A) (m : ℕ) → (position_from test (n + 1) xs ≡ Some m → Position test (n + 1) xs m) →
    (b : Bool) → test x ≡ b → cond b (Some n) (position_from test (n + 1) xs) ≡ Some m → Position test n (x ∷ xs) m
position_by test n x xs m later true is e = let same = same_Some n m e in record { place = 0; of = x; at = refl; passes = is; is = omega (arith, same) }
position_by test n x xs m later false is e = let p = later e in record { place = suc p.place; of = p.of; at = p.at; passes = p.passes; is = let q = p.is in omega (arith, q) }

pub position : {A : Type 0} (test : A → Bool) (n : ℕ) (xs : List A) (m : ℕ) → position_from test n xs ≡ Some m → Position test n xs m
position test n [] m e = absurd (none-some m e)
position test n (x ∷ xs) m e = position_by test n x xs m (position test (n + 1) xs m) (test x) refl e
