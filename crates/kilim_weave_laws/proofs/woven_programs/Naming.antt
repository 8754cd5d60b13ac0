-- Names and descriptors of methods and their woven forms: two woven forms agree only where the methods did.
use Rattle.std.proofs.Common.{◌≡◌, ℕ, zero, suc, Bool, true, false, List, [], ◌∷◌, ◌++◌, length, map, Some, refl, sym, ap, subst, ◌∙◌, arith, append-nil, length-append, ltb-true}
use Rattle.std.specs.Prelude.{◌&&◌, slice_get}
use Rattle.std.specs.List.{list_all, flat_map}
use Rattle.std.proofs.lemmas.Bool.{and_parts, and_from}
use Rattle.kilim_program.specs.declared.class.Method.{Method}
use Rattle.kilim_program.specs.declared.names.MethodId.{MethodId}
use Rattle.kilim_program.specs.declared.ty.Ty.{Ty}
use Rattle.kilim_program.specs.Keeps.{Keeps, ids_are_places, class_ids_there, has_class, has_type, all_types, types_of_method, members_there}
use Rattle.kilim_program.specs.Names.{method_at}
use Rattle.kilim_program.specs.Program.{Program}
use Rattle.kilim_program.specs.Same.{same_signature}
use Rattle.kilim_weave_spec.specs.Woven.{fiber_ty}
use Rattle.kilim_type_laws.proofs.members.SameNames.{AreNamedAlike, named_alike, signature_by, signature_itself}
use Rattle.kilim_weave_laws.proofs.woven_programs.Methods.{Like, fibers}

-- ---- lists

pub all_parts : {A : Type 0} (test : A → Bool) (xs ys : List A) → list_all test (xs ++ ys) ≡ true → (list_all test xs ≡ true) × (list_all test ys ≡ true)
all_parts test [] ys e = (refl, e)
all_parts test (x ∷ xs) ys e =
    let a = and_parts (test x) (list_all test (xs ++ ys)) e in
    let b = all_parts test xs ys a.1 in
    (and_from (test x) (list_all test xs) a.0 b.0, b.1)

pub flat_part : {A B : Type 0} (test : B → Bool) (f : A → List B) (xs : List A) (k : ℕ) (x : A) → list_all test (flat_map f xs) ≡ true → slice_get xs k ≡ Some x → list_all test (f x) ≡ true
flat_part test f [] k x a e = absurd (cc)
flat_part {A} test f (y ∷ xs) zero x a e = subst (λ (z : A). list_all test (f z) ≡ true) (let s : y ≡ x = cc in s) (all_parts test (f y) (flat_map f xs) a).0
flat_part test f (y ∷ xs) (suc k) x a e = flat_part test f xs k x (all_parts test (f y) (flat_map f xs) a).1 e

last_differs : (y t : Ty) (ys : List Ty) → t ∷ [] ≡ y ∷ (ys ++ t ∷ []) → ⊥
last_differs y t ys e = let n = ap length e in let m = length-append ys (t ∷ []) in absurd (omega (arith, n, m))

append_same : (xs ys : List Ty) (t : Ty) → xs ++ t ∷ [] ≡ ys ++ t ∷ [] → xs ≡ ys
append_same [] [] t e = refl
append_same [] (y ∷ ys) t e = absurd (last_differs y t ys e)
append_same (x ∷ xs) [] t e = absurd (last_differs x t xs (sym e))
append_same (x ∷ xs) (y ∷ ys) t e =
    let head : x ≡ y = cc in
    let rest : xs ++ t ∷ [] ≡ ys ++ t ∷ [] = cc in
    ap (λ (z : Ty). z ∷ xs) head ∙ ap (λ (zs : List Ty). y ∷ zs) (append_same xs ys t rest)

module _ (P : Program) where
  -- ---- types that are there

  pub params_there : Keeps P → (id : MethodId) (m : Method) → method_at P id ≡ Some m → list_all (has_type P) m.params ≡ true
  unfolding ids_are_places
  params_there keeps id m e =
      let a = (and_parts (list_all (class_ids_there P) P.classes) _ keeps.ids).1 in
      let b = (and_parts (list_all (λ f. has_class P f.owner) P.fields) _ a).1 in
      let c = (and_parts _ (list_all (has_type P) (all_types P)) b).1 in
      let d = (all_parts (has_type P) (map (λ f. f.ty) P.fields) (flat_map types_of_method P.methods) c).1 in
      let f = flat_part (has_type P) types_of_method P.methods id.0 m d e in
      (all_parts (has_type P) m.params _ f).0

  pub owner_there : Keeps P → (id : MethodId) (m : Method) → method_at P id ≡ Some m → has_class P m.owner ≡ true
  unfolding ids_are_places
  owner_there keeps id m e =
      let a = (and_parts (list_all (class_ids_there P) P.classes) _ keeps.ids).1 in
      let b = (and_parts (list_all (λ f. has_class P f.owner) P.fields) _ a).1 in
      let c = (and_parts (list_all (λ (m : Method). has_class P m.owner && list_all (λ e. members_there P e.1) m.code) P.methods) _ b).0 in
      (and_parts (has_class P m.owner) _ (at P.methods id.0 c e)).0
    where
      at : (ms : List Method) (k : ℕ) → list_all (λ (m : Method). has_class P m.owner && list_all (λ e. members_there P e.1) m.code) ms ≡ true → slice_get ms k ≡ Some m → (has_class P m.owner && list_all (λ e. members_there P e.1) m.code) ≡ true
      at [] k a e = absurd (cc)
      at (y ∷ ms) zero a e = subst (λ (z : Method). (has_class P z.owner && list_all (λ e. members_there P e.1) z.code) ≡ true) (let s : y ≡ m = cc in s) (and_parts _ (list_all _ ms) a).0
      at (y ∷ ms) (suc k) a e = at ms k (and_parts _ (list_all _ ms) a).1 e

  -- the fiber is none of them
  no_fiber : (xs ys : List Ty) → list_all (has_type P) ys ≡ true → xs ++ fiber_ty P ∷ [] ≡ ys → ⊥
  no_fiber xs ys h e =
      let all = subst (λ (zs : List Ty). list_all (has_type P) zs ≡ true) (sym e) h in
      let last = and_parts (has_type P (fiber_ty P)) true (all_parts (has_type P) xs (fiber_ty P ∷ []) all).1 in
      let less = ltb-true (length P.classes) (length P.classes) last.0 in
      omega (arith, less)

  -- ---- signatures

  module _ (a b o w : Method) (la : Like P a b) (lo : Like P o w) where
    params_back : (x y : Bool) → list_all (has_type P) a.params ≡ true → list_all (has_type P) o.params ≡ true → a.params ++ fibers P x ≡ o.params ++ fibers P y → a.params ≡ o.params
    params_back true true ha ho e = append_same a.params o.params (fiber_ty P) e
    params_back true false ha ho e = absurd (no_fiber a.params o.params ho (e ∙ append-nil o.params))
    params_back false true ha ho e = absurd (no_fiber o.params a.params ha (sym e ∙ append-nil a.params))
    params_back false false ha ho e = sym (append-nil a.params) ∙ (e ∙ append-nil o.params)

    -- what agrees when woven, agreed before
    pub back : list_all (has_type P) a.params ≡ true → list_all (has_type P) o.params ≡ true → same_signature b w ≡ true → same_signature a o ≡ true
    back ha ho e =
        let n = named_alike b w e in
        let alike : AreNamedAlike a o = record {
          name = sym la.name ∙ (n.name ∙ lo.name);
          params = params_back a.pausable o.pausable ha ho (sym la.params ∙ (n.params ∙ lo.params));
          result = sym la.result ∙ (n.result ∙ lo.result);
        } in
        signature_by a o o alike ∙ signature_itself o

    -- what agreed, with its pausing, agrees when woven
    pub forth : AreNamedAlike a o → a.pausable ≡ o.pausable → same_signature b w ≡ true
    forth n p =
        let alike : AreNamedAlike b w = record {
          name = la.name ∙ (n.name ∙ sym lo.name);
          params = la.params ∙ (ap (λ (zs : List Ty). zs ++ fibers P a.pausable) n.params ∙ (ap (λ (z : Bool). o.params ++ fibers P z) p ∙ sym lo.params));
          result = la.result ∙ (n.result ∙ sym lo.result);
        } in
        signature_by b w w alike ∙ signature_itself w
