-- No two members have one name, and each is of its class.
use Rattle.std.proofs.Common.{◌≡◌, ◌≢◌, ℕ, zero, suc, ◌+◌, ◌-◌, ◌<◌, Bool, true, false, cond, eqb, not, List, [], ◌∷◌, ◌++◌, length, map, Some, refl, sym, ap, subst, ◌∙◌, arith, append-nil, length-append, eqb-true, eq-eqb, ltb-true, ne_eqb}
use Rattle.std.specs.Prelude.{◌&&◌, slice_get, codes}
use Rattle.std.specs.List.{list_all, list_any}
use Rattle.std.specs.Str.{bytes_eq}
use Rattle.std.proofs.lemmas.Bool.{and_parts, and_from, not-true, or_from, or_parts}
use Rattle.std.proofs.lemmas.Option.{slice_get_within}
use Rattle.kilim_program.specs.declared.class.Class.{Class}
use Rattle.kilim_program.specs.declared.class.Field.{Field}
use Rattle.kilim_program.specs.declared.class.Form.TheVariants.{Plain, Woven}
use Rattle.kilim_program.specs.declared.class.Method.{Method}
use Rattle.kilim_program.specs.declared.names.ClassId.{ClassId}
use Rattle.kilim_program.specs.declared.names.MethodId.{MethodId}
use Rattle.kilim_program.specs.BuiltIn.{class_id, fiber_methods, method_id, methods_from}
use Rattle.kilim_program.specs.Keeps.{Keeps, class_ids_there, each_class_from, has_class, has_type, ids_are_places, members_are_owned, names_differ, owned_from}
use Rattle.kilim_program.specs.Program.{Program}
use Rattle.kilim_program.specs.Same.{all_differ, same_field, same_method, same_signature}
use Rattle.kilim_lemmas.proofs.Texts.{same_text}
use Rattle.kilim_weave_spec.specs.Form.{AllWoven, WovenForm, first_class, first_method}
use Rattle.kilim_type_laws.proofs.members.FromKeeps.{all_at}
use Rattle.kilim_weave_laws.proofs.woven_programs.Methods.{Like, like}
use Rattle.kilim_weave_laws.proofs.woven_programs.Naming.{back, owner_there, params_there}
use Rattle.kilim_weave_laws.proofs.woven_programs.Theorem.{fiber_parts, first_is, grown, how_many}
use Rattle.kilim_weave_laws.proofs.woven_programs.classes.BuiltIns.{Pairs, Split, first_methods, none_is_fiber, split}
use Rattle.kilim_weave_laws.proofs.woven_programs.classes.Listing.{differ_joined, differ_more, each_joined, each_kept}
use Rattle.kilim_weave_laws.proofs.woven_programs.classes.Owners.{owned_joined, owned_none, owned_same}

-- ---- members of one class

abbrev counting : ℕ → ℕ → List ℕ
counting n zero = []
counting n (suc k) = n ∷ counting (suc n) k

abbrev pub AllOwned : {A : Type 0} → (A → ClassId) → ClassId → List A → Type 0
AllOwned owner c [] = Unit {0}
AllOwned owner c (x ∷ xs) = (owner x ≡ c) × AllOwned owner c xs

owned_every : {A : Type 0} (owner : A → ClassId) (c d : ClassId) (n : ℕ) (xs : List A) → AllOwned owner d xs → d.0 ≡ c.0 → owned_from owner c n xs ≡ counting n (length xs)
owned_every owner c d n [] all is = refl
owned_every owner c d n (x ∷ xs) all is =
    ap (λ (b : Bool). cond b (n ∷ owned_from owner c (suc n) xs) (owned_from owner c (suc n) xs)) (eq-eqb (owner x).0 c.0 (ap (λ (e : ClassId). e.0) all.0 ∙ is))
    ∙ ap (λ (zs : List ℕ). n ∷ zs) (owned_every owner c d (suc n) xs all.1 is)

counting_more : (n a k : ℕ) → counting (n + a) k ≡ map (λ j. n + j) (counting a k)
counting_more n a zero = refl
counting_more n a (suc k) = let number : suc (n + a) ≡ n + suc a = omega arith in ap (λ zs. (n + a) ∷ zs) (ap (λ (m : ℕ). counting m k) number ∙ counting_more n (suc a) k)

numbers_from : (n : ℕ) (ks : List ℕ) → map (λ (m : MethodId). m.0) (methods_from n ks) ≡ map (λ j. n + j) ks
numbers_from n [] = refl
numbers_from n (k ∷ ks) = ap (λ zs. (n + k) ∷ zs) (numbers_from n ks)

pub fiber_owned : (n : ℕ) → AllOwned (λ (m : Method). m.owner) (class_id (n + 18)) (fiber_methods Woven n)
fiber_owned n = (refl, (refl, (refl, (refl, (refl, (refl, (refl, (refl, (refl, (refl, (refl, tt)))))))))))

fiber_names : (n : ℕ) → all_differ (λ (a b : Method). bytes_eq a.name b.name) (fiber_methods Woven n) ≡ true
fiber_names n = refl

module _ (P : Program) where
  owners : (ms ws : List Method) → Pairs P ms ws → map (λ (m : Method). m.owner) ws ≡ map (λ (m : Method). m.owner) ms
  owners [] [] a = refl
  owners [] (w ∷ ws) a = absurd a
  owners (m ∷ ms) [] a = absurd a
  owners (m ∷ ms) (w ∷ ws) a =
      ap (λ (c : ClassId). c ∷ map (λ (m : Method). m.owner) ws) (like P m w a.0.0 a.0.1).owner
      ∙ ap (λ (cs : List ClassId). m.owner ∷ cs) (owners ms ws a.1)

  abbrev AreThere : List Method → Type 0
  AreThere ms = (k : ℕ) (m : Method) → slice_get ms k ≡ Some m → list_all (has_type P) m.params ≡ true

  same_back : (m w o v : Method) → Like P m w → Like P o v → list_all (has_type P) m.params ≡ true → list_all (has_type P) o.params ≡ true → same_method w v ≡ true → same_method m o ≡ true
  same_back m w o v lm lo hm ho e =
      let p = and_parts (eqb w.owner.0 v.owner.0) (same_signature w v) e in
      and_from (eqb m.owner.0 o.owner.0) _ (eq-eqb m.owner.0 o.owner.0 (ap (λ (c : ClassId). c.0) (sym lm.owner) ∙ (eqb-true w.owner.0 v.owner.0 p.0 ∙ ap (λ (c : ClassId). c.0) lo.owner)))
      (back P m w o v lm lo hm ho p.1)

  none_same : (m w : Method) → Like P m w → list_all (has_type P) m.params ≡ true → (ms ws : List Method) → Pairs P ms ws → AreThere ms → list_any (same_method m) ms ≡ false → list_any (same_method w) ws ≡ false
  none_same m w l h [] [] a there n = refl
  none_same m w l h [] (v ∷ ws) a there n = absurd a
  none_same m w l h (o ∷ ms) [] a there n = absurd a
  none_same m w l h (o ∷ ms) (v ∷ ws) a there n =
      let p = or_parts (same_method m o) _ n in
      or_from (same_method w v) _ (by (same_method w v) refl p.0) (none_same m w l h ms ws a.1 (λ k x e. there (suc k) x e) p.1)
    where
      by : (b : Bool) → same_method w v ≡ b → same_method m o ≡ false → b ≡ false
      by true is no_one = let y = same_back m w o v l (like P o v a.0.0 a.0.1) h (there 0 o refl) is in let z : true ≡ false = sym y ∙ no_one in z
      by false is no_one = refl

  differ_woven : (ms ws : List Method) → Pairs P ms ws → AreThere ms → all_differ same_method ms ≡ true → all_differ same_method ws ≡ true
  differ_woven [] [] a there h = refl
  differ_woven [] (w ∷ ws) a there h = absurd a
  differ_woven (m ∷ ms) [] a there h = absurd a
  differ_woven (m ∷ ms) (w ∷ ws) a there h =
      let p = and_parts (not (list_any (same_method m) ms)) _ h in
      and_from (not (list_any (same_method w) ws)) _ (ap not (none_same m w (like P m w a.0.0 a.0.1) (there 0 m refl) ms ws a.1 (λ k x e. there (suc k) x e) (not-true _ p.0)))
      (differ_woven ms ws a.1 (λ k x e. there (suc k) x e) p.1)

  owner_of_pair : (ms ws : List Method) → Pairs P ms ws → (k : ℕ) (w : Method) → slice_get ws k ≡ Some w → (m : Method) × (slice_get ms k ≡ Some m) × (w.owner ≡ m.owner)
  owner_of_pair [] [] a k w e = absurd (cc)
  owner_of_pair [] (v ∷ ws) a k w e = absurd a
  owner_of_pair (m ∷ ms) [] a k w e = absurd a
  owner_of_pair (m ∷ ms) (v ∷ ws) a zero w e = (m, refl, (let s : v ≡ w = cc in ap (λ (z : Method). z.owner) (sym s) ∙ (like P m v a.0.0 a.0.1).owner))
  owner_of_pair (m ∷ ms) (v ∷ ws) a (suc k) w e = owner_of_pair ms ws a.1 k w e

none_of_owner : (c d : ClassId) (xs : List Method) → AllOwned (λ (m : Method). m.owner) d xs → (w : Method) → w.owner.0 ≢ d.0 → list_any (same_method w) xs ≡ false
none_of_owner c d [] all w other = refl
none_of_owner c d (x ∷ xs) all w other =
    or_from (same_method w x) _ (ap (λ (b : Bool). b && same_signature w x) (ne_eqb w.owner.0 x.owner.0 (λ e. other (e ∙ ap (λ (o : ClassId). o.0) all.0)))) (none_of_owner c d xs all.1 w other)

owned_by : (d : ClassId) (xs : List Method) → AllOwned (λ (m : Method). m.owner) d xs → (k : ℕ) (x : Method) → slice_get xs k ≡ Some x → x.owner ≡ d
owned_by d [] all k x e = absurd (cc)
owned_by d (y ∷ xs) all zero x e = subst (λ (z : Method). z.owner ≡ d) (let s : y ≡ x = cc in s) all.0
owned_by d (y ∷ xs) all (suc k) x e = owned_by d xs all.1 k x e

module _ (P W : Program) (counted : List (List Bool)) (keeps : Keeps P) (plainly : P.form ≡ Plain) (form : WovenForm P W counted) where
  abbrev fiber : Class
  fiber = fiber_parts P W counted keeps plainly form

  -- the woven forms of all methods, and then the fiber's
  parts : Split P P.methods [] W.methods
  parts = split P P.methods [] W.methods counted (subst (λ (ms : List Method). AllWoven P ms W.methods counted) (sym (append-nil P.methods)) form.methods)

  methods_are : W.methods ≡ parts.front ++ fiber_methods Woven (first_class P)
  methods_are = parts.is ∙ ap (λ (ms : List Method). parts.front ++ ms) parts.last.0

  fiber_number : first_class P + 18 ≡ length P.classes
  fiber_number = let e = first_is P W counted keeps plainly form in let n = how_many P W counted keeps plainly form in omega (arith, e, n)

  many : length P.methods ≡ first_method P + 43
  many =
      let e = first_methods P W counted keeps plainly form in
      let f : first_method P ≡ length P.methods - 43 = refl in
      let h = ap length keeps.built_in.methods ∙ (length-append keeps.built_in.own_methods _ ∙ ap (λ f. length keeps.built_in.own_methods + length (Rattle.kilim_program.specs.BuiltIn.built_in_methods_in f (length keeps.built_in.own_classes))) plainly) in
      omega (arith, e, f, h)

  -- ---- names

  pub names : names_differ W ≡ true
  unfolding names_differ
  names =
      let p = and_parts (all_differ (λ (a b : Class). bytes_eq a.name b.name) P.classes) _ keeps.names in
      let q = and_parts (all_differ same_field P.fields) _ p.1 in
      and_from (all_differ (λ (a b : Class). bytes_eq a.name b.name) W.classes) _ (ap (all_differ (λ (a b : Class). bytes_eq a.name b.name)) (grown P W counted keeps plainly form) ∙ classes p.0)
      (and_from (all_differ same_field W.fields) _ (ap (all_differ same_field) form.fields ∙ q.0) (ap (all_differ same_method) methods_are ∙ methods q.1))
    where
      classes : all_differ (λ (a b : Class). bytes_eq a.name b.name) P.classes ≡ true → all_differ (λ (a b : Class). bytes_eq a.name b.name) (P.classes ++ fiber ∷ []) ≡ true
      classes h =
          differ_joined (λ (a b : Class). bytes_eq a.name b.name) P.classes (fiber ∷ []) h refl
          (λ k c e. or_from (bytes_eq c.name (codes "kilim/Fiber")) false (not-true _ (all_at (λ (c : Class). not (bytes_eq c.name (codes "kilim/Fiber"))) P.classes k c (none_is_fiber P W counted keeps plainly form) e)) refl)

      apart : (k : ℕ) (w : Method) → slice_get parts.front k ≡ Some w → list_any (same_method w) (fiber_methods Woven (first_class P)) ≡ false
      apart k w e =
          let o = owner_of_pair P P.methods parts.front parts.pairs k w e in
          let less = ltb-true o.0.owner.0 (length P.classes) (owner_there P keeps (method_id k) o.0 o.1) in
          let is = ap (λ (c : ClassId). c.0) o.2 in
          let n = fiber_number in
          none_of_owner w.owner (class_id (first_class P + 18)) (fiber_methods Woven (first_class P)) (fiber_owned (first_class P)) w (λ z. omega (arith, z, less, is, n))

      methods : all_differ same_method P.methods ≡ true → all_differ same_method (parts.front ++ fiber_methods Woven (first_class P)) ≡ true
      methods h =
          differ_joined same_method parts.front (fiber_methods Woven (first_class P))
          (differ_woven P P.methods parts.front parts.pairs (λ k m e. params_there P keeps (method_id k) m e) h)
          (differ_more (λ (a b : Method). bytes_eq a.name b.name) same_method (λ x y e. (and_parts (bytes_eq x.name y.name) _ (and_parts (eqb x.owner.0 y.owner.0) (same_signature x y) e).1).0) (fiber_methods Woven (first_class P)) (fiber_names (first_class P)))
          apart

  -- ---- owners

  abbrev listed : Program → ClassId → Class → Bool
  listed p c class =
      bytes_eq (map (λ f. f.0) class.fields) (owned_from (λ (f : Field). f.owner) c 0 p.fields)
      && bytes_eq (map (λ m. m.0) class.methods) (owned_from (λ (m : Method). m.owner) c 0 p.methods)

  owned_woven : (c : ClassId) → owned_from (λ (m : Method). m.owner) c 0 W.methods ≡ owned_from (λ (m : Method). m.owner) c 0 P.methods ++ owned_from (λ (m : Method). m.owner) c (length P.methods) (fiber_methods Woven (first_class P))
  owned_woven c =
      let number : 0 + length parts.front ≡ length P.methods = (let e = parts.many in omega (arith, e)) in
      ap (owned_from (λ (m : Method). m.owner) c 0) methods_are
      ∙ (owned_joined (λ (m : Method). m.owner) c 0 parts.front (fiber_methods Woven (first_class P))
      ∙ (ap (λ (zs : List ℕ). zs ++ owned_from (λ (m : Method). m.owner) c (0 + length parts.front) (fiber_methods Woven (first_class P))) (owned_same (λ (m : Method). m.owner) c 0 parts.front P.methods (owners P P.methods parts.front parts.pairs))
      ∙ ap (λ (n : ℕ). owned_from (λ (m : Method). m.owner) c 0 P.methods ++ owned_from (λ (m : Method). m.owner) c n (fiber_methods Woven (first_class P))) number))

  listed_kept : (c : ClassId) (class : Class) → c.0 < length P.classes → listed P c class ≡ true → listed W c class ≡ true
  listed_kept c class less h =
      let n = fiber_number in
      let others = owned_none (λ (m : Method). m.owner) c (length P.methods) (fiber_methods Woven (first_class P))
      (λ k x e z. let is = ap (λ (d : ClassId). d.0) (owned_by (class_id (first_class P + 18)) (fiber_methods Woven (first_class P)) (fiber_owned (first_class P)) k x e) in omega (arith, is, z, less, n)) in
      let same = owned_woven c ∙ (ap (λ (zs : List ℕ). owned_from (λ (m : Method). m.owner) c 0 P.methods ++ zs) others ∙ append-nil _) in
      ap (λ (fs : List Field). bytes_eq (map (λ f. f.0) class.fields) (owned_from (λ (f : Field). f.owner) c 0 fs) && bytes_eq (map (λ m. m.0) class.methods) (owned_from (λ (m : Method). m.owner) c 0 W.methods)) form.fields
      ∙ (ap (λ (zs : List ℕ). bytes_eq (map (λ f. f.0) class.fields) (owned_from (λ (f : Field). f.owner) c 0 P.fields) && bytes_eq (map (λ m. m.0) class.methods) zs) same ∙ h)

  fiber_listed : listed W (class_id (0 + length P.classes)) fiber ≡ true
  unfolding ids_are_places
  fiber_listed =
      let c = class_id (0 + length P.classes) in
      let i = (and_parts (list_all (class_ids_there P) P.classes) _ keeps.ids).1 in
      let j = (and_parts (list_all (λ f. has_class P f.owner) P.fields) _ i).0 in
      let fields = ap (owned_from (λ (f : Field). f.owner) c 0) form.fields ∙ owned_none (λ (f : Field). f.owner) c 0 P.fields (λ k f e z. let less = ltb-true f.owner.0 (length P.classes) (all_at (λ (f : Field). has_class P f.owner) P.fields k f j e) in omega (arith, less, z)) in
      let none = owned_none (λ (m : Method). m.owner) c 0 P.methods (λ k m e z. let less = ltb-true m.owner.0 (length P.classes) (owner_there P keeps (method_id k) m e) in omega (arith, less, z)) in
      let is : first_class P + 18 ≡ 0 + length P.classes = (let n = fiber_number in omega (arith, n)) in
      let all = owned_every (λ (m : Method). m.owner) c (class_id (first_class P + 18)) (length P.methods) (fiber_methods Woven (first_class P)) (fiber_owned (first_class P)) is in
      let members = owned_woven c ∙ (ap (λ (zs : List ℕ). zs ++ owned_from (λ (m : Method). m.owner) c (length P.methods) (fiber_methods Woven (first_class P))) none ∙ (all ∙ (ap (λ (n : ℕ). counting n 11) many ∙ counting_more (first_method P) 43 11))) in
      and_from (bytes_eq [] (owned_from (λ (f : Field). f.owner) c 0 W.fields)) _ (same_text [] _ (sym fields))
      (same_text (map (λ (m : MethodId). m.0) fiber.methods) _ (numbers_from (first_method P) (43 ∷ 44 ∷ 45 ∷ 46 ∷ 47 ∷ 48 ∷ 49 ∷ 50 ∷ 51 ∷ 52 ∷ 53 ∷ []) ∙ sym members))

  pub members : members_are_owned W ≡ true
  unfolding members_are_owned
  members =
      ap (each_class_from (listed W) 0) (grown P W counted keeps plainly form)
      ∙ each_joined (listed W) 0 P.classes (fiber ∷ [])
      (each_kept (listed P) (listed W) 0 P.classes (λ k x e h. let less = slice_get_within P.classes k x e in listed_kept (class_id (0 + k)) x (omega (arith, less)) h) keeps.members)
      (and_from (listed W (class_id (0 + length P.classes)) fiber) true fiber_listed refl)
