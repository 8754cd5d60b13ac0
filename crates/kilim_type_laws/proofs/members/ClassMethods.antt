-- Elements of lists, the methods of a class, and the first that passes a test along a line of superclasses.
use Rattle.std.proofs.Common.{◌≡◌, ◌⊎◌, inl, inr, ℕ, zero, suc, ◌+◌, ◌≤◌, Bool, true, false, cond, eqb, List, [], ◌∷◌, ◌++◌, length, map, Option, Some, None, refl, sym, ap, subst, ◌∙◌, arith}
use Rattle.std.specs.Prelude.{◌&&◌, ◌||◌, slice_get}
use Rattle.std.specs.List.{list_any, list_all, flat_map}
use Rattle.std.specs.Str.{bytes_eq}
use Rattle.std.proofs.lemmas.Bool.{and_parts, eqb-true, eq-eqb, ltb-true, or_left, or_right}
use Rattle.kilim_program.specs.declared.class.Class.{Class}
use Rattle.kilim_program.specs.declared.class.Method.{Method}
use Rattle.kilim_program.specs.declared.names.ClassId.{ClassId}
use Rattle.kilim_program.specs.declared.names.MethodId.{MethodId}
use Rattle.kilim_program.specs.Program.{Program}
use Rattle.kilim_program.specs.BuiltIn.{class_id}
use Rattle.kilim_program.specs.Names.{◌>>=◌, class_at, first_that, line_up_to, method_at, methods_of}
use Rattle.kilim_program.specs.Keeps.{Keeps, ancestors_of, class_ids_there, has_class, ids_are_places, line_above, members_are_owned, owned_from, superclass_of}
use Rattle.kilim_lemmas.proofs.Lists.{get_some}
use Rattle.kilim_lemmas.proofs.Texts.{text_is}
use Rattle.kilim_type_laws.proofs.members.FromKeeps.{all_at}
use Rattle.kilim_type_laws.proofs.members.Through.{each_at}

-- ---- elements

abbrev pub IsAmong : {A : Type 0} → A → List A → Type 0
IsAmong x [] = ⊥
IsAmong x (y ∷ ys) = (x ≡ y) ⊎ IsAmong x ys

pub among_left : {A : Type 0} (x : A) (xs ys : List A) → IsAmong x xs → IsAmong x (xs ++ ys)
among_left x [] ys i = absurd i
among_left x (z ∷ xs) ys (inl e) = inl e
among_left x (z ∷ xs) ys (inr i) = inr (among_left x xs ys i)

pub among_right : {A : Type 0} (x : A) (xs ys : List A) → IsAmong x ys → IsAmong x (xs ++ ys)
among_right x [] ys i = i
among_right x (z ∷ xs) ys i = inr (among_right x xs ys i)

pub all_among : {A : Type 0} (test : A → Bool) (xs : List A) (x : A) → list_all test xs ≡ true → IsAmong x xs → test x ≡ true
all_among test [] x all i = absurd i
all_among test (y ∷ xs) x all (inl e) = ap test e ∙ (and_parts (test y) (list_all test xs) all).0
all_among test (y ∷ xs) x all (inr i) = all_among test xs x (and_parts (test y) (list_all test xs) all).1 i

pub any_among : {A : Type 0} (test : A → Bool) (xs : List A) (x : A) → IsAmong x xs → test x ≡ true → list_any test xs ≡ true
any_among test [] x i e = absurd i
any_among test (y ∷ xs) x (inl s) e = or_left (test y) _ (ap test (sym s) ∙ e)
any_among test (y ∷ xs) x (inr i) e = or_right (test y) _ (any_among test xs x i e)

-- where a class of some number stands in a list, what it has is in the list of all
pub among_flat : {A : Type 0} (f : ClassId → List A) (ds : List ClassId) (b : ClassId) (x : A) → list_any (λ (d : ClassId). eqb d.0 b.0) ds ≡ true → IsAmong x (f b) → IsAmong x (flat_map f ds)
among_flat f [] b x e i = absurd (cc)
among_flat f (d ∷ ds) b x e i = by (eqb d.0 b.0) refl e (λ rest. among_flat f ds b x rest i)
  where
    by : (z : Bool) → eqb d.0 b.0 ≡ z → (z || list_any (λ (d : ClassId). eqb d.0 b.0) ds) ≡ true → (list_any (λ (d : ClassId). eqb d.0 b.0) ds ≡ true → IsAmong x (flat_map f ds)) → IsAmong x (f d ++ flat_map f ds)
    by true is e again = among_left x (f d) (flat_map f ds) (subst (λ (k : ℕ). IsAmong x (f (class_id k))) (sym (eqb-true d.0 b.0 is)) i)
    by false is e again = among_right x (f d) (flat_map f ds) (again e)

-- ---- the first that passes a test

pub record IsFirst {A : Type 0} (test : A → Bool) (xs : List A) : Type 0 where
  pub found : A
  pub is : first_that test xs ≡ Some found
  pub passes : test found ≡ true
  pub among : IsAmong found xs

first_in : {A : Type 0} (test : A → Bool) (xs : List A) (x : A) → IsAmong x xs → test x ≡ true → IsFirst test xs
first_in test [] x i e = absurd i
first_in test (y ∷ xs) x i e = by (test y) refl i (λ j. first_in test xs x j e)
  where
    by : (z : Bool) → test y ≡ z → (x ≡ y) ⊎ IsAmong x xs → (IsAmong x xs → IsFirst test xs) → IsFirst test (y ∷ xs)
    by true is i again = record { found = y; is = ap (λ (b : Bool). cond b (Some y) (first_that test xs)) is; passes = is; among = inl refl }
    by false is (inl s) again = absurd (let c : test y ≡ true = ap test (sym s) ∙ e in cc)
    by false is (inr j) again =
        let r = again j in
        record { found = r.found; is = ap (λ (b : Bool). cond b (Some y) (first_that test xs)) is ∙ r.is; passes = r.passes; among = inr r.among }

first_left : {A : Type 0} (test : A → Bool) (xs ys : List A) (f : A) → first_that test xs ≡ Some f → first_that test (xs ++ ys) ≡ Some f
first_left test [] ys f e = absurd (cc)
first_left test (x ∷ xs) ys f e = by (test x) e (λ rest. first_left test xs ys f rest)
  where
    by : (z : Bool) → cond z (Some x) (first_that test xs) ≡ Some f → (first_that test xs ≡ Some f → first_that test (xs ++ ys) ≡ Some f) → cond z (Some x) (first_that test (xs ++ ys)) ≡ Some f
    by true e again = e
    by false e again = again e

first_right : {A : Type 0} (test : A → Bool) (xs ys : List A) → first_that test xs ≡ None → first_that test (xs ++ ys) ≡ first_that test ys
first_right test [] ys e = refl
first_right test (x ∷ xs) ys e = by (test x) e (λ rest. first_right test xs ys rest)
  where
    by : (z : Bool) → cond z (Some x) (first_that test xs) ≡ None → (first_that test xs ≡ None → first_that test (xs ++ ys) ≡ first_that test ys) → cond z (Some x) (first_that test (xs ++ ys)) ≡ first_that test ys
    by true e again = absurd (cc)
    by false e again = again e

first_passes : {A : Type 0} (test : A → Bool) (xs : List A) (f : A) → first_that test xs ≡ Some f → (test f ≡ true) × IsAmong f xs
first_passes test [] f e = absurd (cc)
first_passes {A} test (x ∷ xs) f e = by (test x) refl e (λ rest. first_passes test xs f rest)
  where
    by : (z : Bool) → test x ≡ z → cond z (Some x) (first_that test xs) ≡ Some f → (first_that test xs ≡ Some f → (test f ≡ true) × IsAmong f xs) → (test f ≡ true) × ((f ≡ x) ⊎ IsAmong f xs)
    by true is e again = let s : x ≡ f = cc in (subst (λ (y : A). test y ≡ true) s is, inl (sym s))
    by false is e again = let r = again e in (r.0, inr r.1)

pub first_same : {A : Type 0} (f g : A → Bool) → ((x : A) → f x ≡ g x) → (xs : List A) → first_that f xs ≡ first_that g xs
first_same f g e [] = refl
first_same {A} f g e (x ∷ xs) = ap (λ (b : Bool). cond b (Some x) (first_that f xs)) (e x) ∙ ap (λ (o : Option A). cond (g x) (Some x) o) (first_same f g e xs)

-- ---- owners

pub owned_among : {A : Type 0} (owner : A → ClassId) (xs : List A) (n k : ℕ) (x : A) → slice_get xs k ≡ Some x → IsAmong (n + k) (owned_from owner (owner x) n xs)
owned_among owner [] n k x at = absurd (cc)
owned_among {A} owner (y ∷ xs) n zero x at =
    let s : y ≡ x = cc in
    let number : n + 0 ≡ n = omega arith in
    let same : eqb (owner y).0 (owner x).0 ≡ true = eq-eqb (owner y).0 (owner x).0 (ap (λ (z : A). (owner z).0) s) in
    subst (λ (z : Bool). IsAmong (n + 0) (cond z (n ∷ owned_from owner (owner x) (suc n) xs) (owned_from owner (owner x) (suc n) xs))) (sym same) (inl number)
owned_among owner (y ∷ xs) n (suc k) x at =
    let number : suc n + k ≡ n + suc k = omega arith in
    by (eqb (owner y).0 (owner x).0) (subst (λ (j : ℕ). IsAmong j (owned_from owner (owner x) (suc n) xs)) number (owned_among owner xs (suc n) k x at))
  where
    by : (z : Bool) → IsAmong (n + suc k) (owned_from owner (owner x) (suc n) xs) → IsAmong (n + suc k) (cond z (n ∷ owned_from owner (owner x) (suc n) xs) (owned_from owner (owner x) (suc n) xs))
    by true i = inr i
    by false i = i

pub owner_is : {A : Type 0} (owner : A → ClassId) (c : ClassId) (xs : List A) (n j : ℕ) → IsAmong j (owned_from owner c n xs) → (k : ℕ) × (x : A) × (j ≡ n + k) × (slice_get xs k ≡ Some x) × ((owner x).0 ≡ c.0)
owner_is owner c [] n j i = absurd i
owner_is {A} owner c (y ∷ xs) n j i = by (eqb (owner y).0 c.0) refl i (λ rest. owner_is owner c xs (suc n) j rest)
  where
    Answer : Type 0
    Answer = (k : ℕ) × (x : A) × (j ≡ n + k) × (slice_get (y ∷ xs) k ≡ Some x) × ((owner x).0 ≡ c.0)

    later : (k : ℕ) × (x : A) × (j ≡ suc n + k) × (slice_get xs k ≡ Some x) × ((owner x).0 ≡ c.0) → Answer
    later r = let e = r.2 in (suc r.0, r.1, omega (arith, e), r.3, r.4)

    by : (z : Bool) → eqb (owner y).0 c.0 ≡ z → IsAmong j (cond z (n ∷ owned_from owner c (suc n) xs) (owned_from owner c (suc n) xs)) → (IsAmong j (owned_from owner c (suc n) xs) → (k : ℕ) × (x : A) × (j ≡ suc n + k) × (slice_get xs k ≡ Some x) × ((owner x).0 ≡ c.0)) → Answer
    by true is (inl e) again = (0, y, omega (arith, e), refl, eqb-true (owner y).0 c.0 is)
    by true is (inr i) again = later (again i)
    by false is i again = later (again i)

of_numbers : (j : ℕ) (ms : List MethodId) → IsAmong j (map (λ (m : MethodId). m.0) ms) → IsAmong (record { 0 = j }) ms
of_numbers j [] i = absurd i
of_numbers j (m ∷ ms) (inl e) = inl (ap (λ (k : ℕ). record { 0 = k }) e)
of_numbers j (m ∷ ms) (inr i) = inr (of_numbers j ms i)

to_numbers : (x : MethodId) (ms : List MethodId) → IsAmong x ms → IsAmong x.0 (map (λ (m : MethodId). m.0) ms)
to_numbers x [] i = absurd i
to_numbers x (m ∷ ms) (inl e) = inl (ap (λ (y : MethodId). y.0) e)
to_numbers x (m ∷ ms) (inr i) = inr (to_numbers x ms i)

-- ---- the methods of a class

module _ (p : Program) (keeps : Keeps p) where
  numbers_of : (c : ClassId) (class : Class) → class_at p c ≡ Some class → map (λ (m : MethodId). m.0) class.methods ≡ owned_from (λ (m : Method). m.owner) c 0 p.methods
  unfolding members_are_owned
  numbers_of c class at =
      let one = each_at (λ (k : ClassId) (class : Class). bytes_eq (map (λ f. f.0) class.fields) (owned_from (λ f. f.owner) k 0 p.fields) && bytes_eq (map (λ (m : MethodId). m.0) class.methods) (owned_from (λ (m : Method). m.owner) k 0 p.methods)) 0 p.classes c.0 class keeps.members at in
      let number : 0 + c.0 ≡ c.0 = omega arith in
      let same = text_is (map (λ (m : MethodId). m.0) class.methods) (owned_from (λ (m : Method). m.owner) (class_id (0 + c.0)) 0 p.methods) (and_parts (bytes_eq (map (λ f. f.0) class.fields) (owned_from (λ f. f.owner) (class_id (0 + c.0)) 0 p.fields)) _ one).1 in
      same ∙ ap (λ (k : ℕ). owned_from (λ (m : Method). m.owner) (class_id k) 0 p.methods) number

  owner_there : (id : MethodId) (m : Method) → method_at p id ≡ Some m → (c : Class) × (class_at p m.owner ≡ Some c)
  unfolding ids_are_places
  owner_there id m at =
      let a = (and_parts (list_all (class_ids_there p) p.classes) _ keeps.ids).1 in
      let b = (and_parts (list_all (λ f. has_class p f.owner) p.fields) _ a).1 in
      let c = all_at _ p.methods id.0 m (and_parts _ _ b).0 at in
      get_some p.classes m.owner.0 (ltb-true m.owner.0 (length p.classes) (and_parts (has_class p m.owner) _ c).0)

  -- the class that a method names as owner has it
  pub owner_has : (id : MethodId) (m : Method) → method_at p id ≡ Some m → (class : Class) → class_at p m.owner ≡ Some class → IsAmong id class.methods
  owner_has id m at class there =
      let number : 0 + id.0 ≡ id.0 = omega arith in
      let among = subst (λ (k : ℕ). IsAmong k (owned_from (λ (x : Method). x.owner) m.owner 0 p.methods)) number (owned_among (λ (x : Method). x.owner) p.methods 0 id.0 m at) in
      of_numbers id.0 class.methods (subst (λ (ns : List ℕ). IsAmong id.0 ns) (sym (numbers_of m.owner class there)) among)

  pub owner_lists : (id : MethodId) (m : Method) → method_at p id ≡ Some m → IsAmong id (methods_of p m.owner)
  owner_lists id m at =
      let c = owner_there id m at in
      subst (λ (o : Option Class). IsAmong id (elim o [ None ↦ [] | Some class ↦ class.methods ])) (sym c.1) (owner_has id m at c.0 c.1)

  -- a method of a class names it as owner
  pub names_owner : (d : ClassId) (f : MethodId) (m : Method) → method_at p f ≡ Some m → IsAmong f (methods_of p d) → m.owner.0 ≡ d.0
  names_owner d f m at i = by (class_at p d) refl i
    where
      by : (o : Option Class) → class_at p d ≡ o → IsAmong f (elim o [ None ↦ [] | Some class ↦ class.methods ]) → m.owner.0 ≡ d.0
      by None there i = absurd i
      by (Some class) there i =
          let j = subst (λ (ns : List ℕ). IsAmong f.0 ns) (numbers_of d class there) (to_numbers f class.methods i) in
          let r = owner_is (λ (x : Method). x.owner) d p.methods 0 f.0 j in
          let number : r.0 ≡ f.0 = (let e = r.2 in omega (arith, e)) in
          let again : Some r.1 ≡ Some m = sym r.3 ∙ (ap (λ (k : ℕ). slice_get p.methods k) number ∙ at) in
          let same : r.1 ≡ m = cc in
          ap (λ (x : Method). x.owner.0) (sym same) ∙ r.4

-- ---- along a line

abbrev up : Program → ClassId → Option ClassId
up p a = class_at p a >>= λ (class : Class). class.superclass

abbrev line_from : Program → ℕ → Option ClassId → List ClassId
line_from p n o = elim o [ None ↦ [] | Some u ↦ line_up_to p n u ]

any_more : (p : Program) (test : ClassId → Bool) (m n : ℕ) (a : ClassId) → m ≤ n → list_any test (line_up_to p m a) ≡ true → list_any test (line_up_to p n a) ≡ true
any_more p test zero n a less e = absurd (cc)
any_more p test (suc m) zero a less e = absurd (omega (arith, less))
any_more p test (suc m) (suc n) a less e = by (test a) (up p a) e (λ u later. any_more p test m n u (omega (arith, less)) later)
  where
    by : (z : Bool) (o : Option ClassId) → (z || list_any test (line_from p m o)) ≡ true → ((u : ClassId) → list_any test (line_up_to p m u) ≡ true → list_any test (line_up_to p n u) ≡ true) → (z || list_any test (line_from p n o)) ≡ true
    by true o e again = refl
    by false None e again = e
    by false (Some u) e again = again u e

above_is : (o : Option Class) → superclass_of o ≡ (o >>= λ (class : Class). class.superclass)
above_is None = refl
above_is (Some class) = refl

-- the first method that passes, of a class that is the one of a number, or stands below it
pub record IsFoundBelow (p : Program) (test : MethodId → Bool) (n : ℕ) (k b : ClassId) : Type 0 where
  pub found : MethodId
  pub is : first_that test (flat_map (methods_of p) (line_up_to p n k)) ≡ Some found
  pub passes : test found ≡ true
  pub owner : ClassId
  pub among : IsAmong found (methods_of p owner)
  pub in_line : list_any (λ (d : ClassId). eqb d.0 owner.0) (line_up_to p n k) ≡ true
  pub below : (owner.0 ≡ b.0) ⊎ (list_any (λ (d : ClassId). eqb d.0 b.0) (ancestors_of p owner) ≡ true)

module _ (p : Program) (test : MethodId → Bool) (b : ClassId) (x : MethodId) (among : IsAmong x (methods_of p b)) (passes : test x ≡ true) where
  in_ancestors : (n : ℕ) (k : ClassId) → n ≤ length p.classes → list_any (λ (d : ClassId). eqb d.0 b.0) (line_from p n (up p k)) ≡ true → list_any (λ (d : ClassId). eqb d.0 b.0) (ancestors_of p k) ≡ true
  in_ancestors n k less e =
      by (up p k) (superclass_of (class_at p k)) (above_is (class_at p k)) e
    where
      by : (o q : Option ClassId) → q ≡ o → list_any (λ (d : ClassId). eqb d.0 b.0) (line_from p n o) ≡ true → list_any (λ (d : ClassId). eqb d.0 b.0) (line_above p q) ≡ true
      by None q s e = absurd (cc)
      by (Some u) q s e = subst (λ (r : Option ClassId). list_any (λ (d : ClassId). eqb d.0 b.0) (line_above p r) ≡ true) (sym s) (any_more p (λ (d : ClassId). eqb d.0 b.0) n (length p.classes) u less e)

  pub found_below : (n : ℕ) (k : ClassId) → n ≤ length p.classes → list_any (λ (d : ClassId). eqb d.0 b.0) (line_up_to p n k) ≡ true → IsFoundBelow p test n k b
  found_below zero k less e = absurd (cc)
  found_below (suc n) k less e = by (first_that test (methods_of p k)) refl (λ u f. found_below n u (omega (arith, less)) f)
    where
      rest : List ClassId
      rest = line_from p n (up p k)

      here : (f : MethodId) → first_that test (methods_of p k) ≡ Some f → IsFoundBelow p test (suc n) k b
      here f is =
          let r = first_passes test (methods_of p k) f is in
          record {
            found = f;
            is = first_left test (methods_of p k) (flat_map (methods_of p) rest) f is;
            passes = r.0;
            owner = k;
            among = r.1;
            in_line = or_left (eqb k.0 k.0) _ (eq-eqb k.0 k.0 refl);
            below = where_is (eqb k.0 b.0) refl e;
          }
        where
          where_is : (z : Bool) → eqb k.0 b.0 ≡ z → (z || list_any (λ (d : ClassId). eqb d.0 b.0) rest) ≡ true → (k.0 ≡ b.0) ⊎ (list_any (λ (d : ClassId). eqb d.0 b.0) (ancestors_of p k) ≡ true)
          where_is true s e = inl (eqb-true k.0 b.0 s)
          where_is false s e = inr (in_ancestors n k (omega (arith, less)) e)

      Again : Type 0
      Again = (u : ClassId) → list_any (λ (d : ClassId). eqb d.0 b.0) (line_up_to p n u) ≡ true → IsFoundBelow p test n u b

      above : Again → (u : ClassId) → up p k ≡ Some u → first_that test (methods_of p k) ≡ None → list_any (λ (d : ClassId). eqb d.0 b.0) (line_up_to p n u) ≡ true → IsFoundBelow p test (suc n) k b
      above again u is none e =
          let r = again u e in
          let line : rest ≡ line_up_to p n u = ap (line_from p n) is in
          record {
            found = r.found;
            is = first_right test (methods_of p k) (flat_map (methods_of p) rest) none ∙ (ap (λ (ds : List ClassId). first_that test (flat_map (methods_of p) ds)) line ∙ r.is);
            passes = r.passes;
            owner = r.owner;
            among = r.among;
            in_line = or_right (eqb k.0 r.owner.0) _ (subst (λ (ds : List ClassId). list_any (λ (d : ClassId). eqb d.0 r.owner.0) ds ≡ true) (sym line) r.in_line);
            below = r.below;
          }

      not_here : first_that test (methods_of p k) ≡ None → eqb k.0 b.0 ≡ true → ⊥
      not_here none s =
          let i = subst (λ (j : ℕ). IsAmong x (methods_of p (class_id j))) (sym (eqb-true k.0 b.0 s)) among in
          let f = first_in test (methods_of p k) x i passes in
          let c = f.is in cc

      later : Again → first_that test (methods_of p k) ≡ None → (z : Bool) (o : Option ClassId) → eqb k.0 b.0 ≡ z → up p k ≡ o → (z || list_any (λ (d : ClassId). eqb d.0 b.0) (line_from p n o)) ≡ true → IsFoundBelow p test (suc n) k b
      later again none true o s is e = absurd (not_here none s)
      later again none false None s is e = absurd (cc)
      later again none false (Some u) s is e = above again u is none e

      by : (o : Option MethodId) → first_that test (methods_of p k) ≡ o → Again → IsFoundBelow p test (suc n) k b
      by (Some f) is again = here f is
      by None is again = later again is (eqb k.0 b.0) (up p k) refl refl e
