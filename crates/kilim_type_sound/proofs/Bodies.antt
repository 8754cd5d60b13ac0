-- Code that there is: methods that aren't abstract have it, it begins at 0, and what it makes arrays of is a class or an array.
use Rattle.std.proofs.Common.{◌≡◌, ℕ, Bool, true, false, cond, eqb, List, [], ◌∷◌, ◌++◌, zero, suc, length, map, Some, refl, sym, subst}
use Rattle.std.specs.Prelude.{◌&&◌, ◌||◌, not, slice_get, ◌==◌, ◌-◌, option_to_list}
use Rattle.std.specs.List.{list_all, flat_map}
use Rattle.std.proofs.lemmas.Bool.{and_parts, and_from, eqb-true, eq-eqb}
use Rattle.kilim_program.specs.declared.class.Form.TheVariants.{Plain, Woven}
use Rattle.kilim_program.specs.declared.class.Form.{Form}
use Rattle.kilim_program.specs.declared.class.Method.{Method}
use Rattle.kilim_program.specs.declared.instr.Instr.{Instr}
use Rattle.kilim_program.specs.declared.instr.Instr.TheVariants.{Newarray, Anewarray}
use Rattle.kilim_program.specs.declared.names.MethodId.{MethodId}
use Rattle.kilim_program.specs.Program.{Program}
use Rattle.kilim_program.specs.BuiltIn.{built_in_methods_in}
use Rattle.kilim_program.specs.Names.{is_empty, method_at}
use Rattle.kilim_program.specs.Same.{same_flag}
use Rattle.kilim_program.specs.Lengths.{code_stands, targets_stand, code_ends, fetched, first_place, has_length, is_reference}
use Rattle.kilim_program.specs.Keeps.{Keeps, all_types, class_ids_there, code_is_whole, has_base, has_class, has_type, ids_are_places, types_of_instr, types_of_method}
use Rattle.kilim_type_spec.specs.Typed.{has_code}
use Rattle.kilim_type_sound.specs.Fits.{IsProper}
use Rattle.kilim_type_laws.proofs.members.FromKeeps.{all_at, among_both, all_weaker, own_body}

-- ---- each method of the files that isn't abstract has code

abbrev with_length : Method → Bool
with_length m = m.built_in || (m.is_abstract || not (m.code_length == 0))

own_length : (p : Program) (m : Method) → own_body p m ≡ true → with_length m ≡ true
own_length p m e = by m.built_in m.is_abstract (eqb m.code_length 0) (and_parts (same_flag (eqb m.code_length 0) m.is_abstract) _ (and_parts (not m.built_in) _ e).1).0
  where
    by : (b a z : Bool) → same_flag z a ≡ true → (b || (a || not z)) ≡ true
    by true a z e = refl
    by false true z e = refl
    by false false true e = e
    by false false false e = refl

built_length : (form : Form) (n : ℕ) → list_all with_length (built_in_methods_in form n) ≡ true
built_length Plain n = refl
built_length Woven n = refl

no_code : (code : List (ℕ × Instr)) (end : ℕ) → code_stands 0 code end ≡ true → (end == 0) ≡ false → not (is_empty code) ≡ true
unfolding code_stands
no_code [] end s n = absurd (let z = eqb-true 0 end s in let y = eq-eqb end 0 (sym z) in cc)
no_code (e ∷ es) end s n = refl

whole_at : (p : Program) → Keeps p → (id : MethodId) (m : Method) → method_at p id ≡ Some m → code_stands 0 m.code m.code_length ≡ true
unfolding code_is_whole
whole_at p keeps id m e = (and_parts (code_stands 0 m.code m.code_length) (targets_stand m.code && code_ends m.code) (all_at code_is_whole p.methods id.0 m keeps.code e)).0

pub bodies : (p : Program) → Keeps p → (id : MethodId) (m : Method) → method_at p id ≡ Some m → m.built_in ≡ false → m.is_abstract ≡ false → has_code m ≡ true
bodies p keeps id m e own concrete =
    let t = among_both p with_length keeps.built_in.own_methods (built_in_methods_in p.form (length keeps.built_in.own_classes)) id.0 m (all_weaker p (own_body p) with_length (own_length p) keeps.built_in.own_methods keeps.built_in.bodies) (built_length p.form (length keeps.built_in.own_classes)) (subst (λ (ms : List Method). slice_get ms id.0 ≡ Some m) keeps.built_in.methods e) in
    no_code m.code m.code_length (whole_at p keeps id m e) (by m.built_in m.is_abstract (m.code_length == 0) own concrete t)
  where
    by : (b a z : Bool) → b ≡ false → a ≡ false → (b || (a || not z)) ≡ true → z ≡ false
    by true a z own concrete t = absurd (cc)
    by false true z own concrete t = absurd (cc)
    by false false true own concrete t = absurd (cc)
    by false false false own concrete t = refl

-- ---- it begins at 0

begins : (code : List (ℕ × Instr)) (end : ℕ) → not (is_empty code) ≡ true → code_stands 0 code end ≡ true → (e : ℕ × Instr) × (es : List (ℕ × Instr)) × (code ≡ e ∷ es) × (e.0 ≡ 0)
unfolding code_stands
begins [] end some s = absurd (cc)
begins (e ∷ es) end some s = (e, es, refl, eqb-true e.0 0 (and_parts (eqb e.0 0) _ s).0)

pub starts : (p : Program) → Keeps p → (id : MethodId) (m : Method) → method_at p id ≡ Some m → has_code m ≡ true → (e : ℕ × Instr) × (es : List (ℕ × Instr)) × (m.code ≡ e ∷ es) × (e.0 ≡ 0)
starts p keeps id m e code = begins m.code m.code_length code (whole_at p keeps id m e)

-- ---- lists

all_both : {A : Type 0} (test : A → Bool) (xs ys : List A) → list_all test (xs ++ ys) ≡ true → (list_all test xs ≡ true) × (list_all test ys ≡ true)
all_both test [] ys e = (refl, e)
all_both test (x ∷ xs) ys e =
    let a = and_parts (test x) (list_all test (xs ++ ys)) e in
    let b = all_both test xs ys a.1 in
    (and_from (test x) (list_all test xs) a.0 b.0, b.1)

all_flat : {A B : Type 0} (test : B → Bool) (f : A → List B) (xs : List A) (k : ℕ) (x : A) → list_all test (flat_map f xs) ≡ true → slice_get xs k ≡ Some x → list_all test (f x) ≡ true
all_flat test f [] k x a e = absurd (cc)
all_flat {A} test f (y ∷ xs) zero x a e = subst (λ (z : A). list_all test (f z) ≡ true) (let s : y ≡ x = cc in s) (all_both test (f y) (flat_map f xs) a).0
all_flat test f (y ∷ xs) (suc k) x a e = all_flat test f xs k x (all_both test (f y) (flat_map f xs) a).1 e

-- ---- arrays of references

proper_by : (p : Program) (at len : ℕ) (i : Instr) → has_length at i len ≡ true → list_all (has_type p) (types_of_instr i) ≡ true → IsProper p i
unfolding has_length
proper_by p at len (Newarray b) e there = (and_parts (has_base p b) true there).0
proper_by p at len (Anewarray ty) e there = ((and_parts (is_reference ty) (len == 3) e).0, (and_parts (has_base p ty.base) true there).0)
proper_by p at len i e there = tt

proper_at : (p : Program) (at : ℕ) (code : List (ℕ × Instr)) (end place : ℕ) (found : Instr × ℕ) → code_stands at code end ≡ true → list_all (has_type p) (flat_map (λ e. types_of_instr e.1) code) ≡ true → fetched code end place ≡ Some found → IsProper p found.0
unfolding code_stands
proper_at p at [] end place found stands there e = absurd (cc)
proper_at p at (x ∷ es) end place found stands there e =
    let here = and_parts (has_length at x.1 (first_place es end - at)) (code_stands (first_place es end) es end) (and_parts (x.0 == at) _ stands).1 in
    let types = all_both (has_type p) (types_of_instr x.1) (flat_map (λ e. types_of_instr e.1) es) there in
    by (x.0 == place) (proper_by p at (first_place es end - at) x.1 here.0 types.0) e (λ later. proper_at p (first_place es end) es end place found here.1 types.1 later)
  where
    by : (z : Bool) → IsProper p x.1 → cond z (Some (x.1, first_place es end)) (fetched es end place) ≡ Some found → (fetched es end place ≡ Some found → IsProper p found.0) → IsProper p found.0
    by true one e again = subst (λ (y : Instr × ℕ). IsProper p y.0) (let s : (x.1, first_place es end) ≡ found = cc in s) one
    by false one e again = again e

-- the types that stand in a method's code are there
code_types : (p : Program) → Keeps p → (id : MethodId) (m : Method) → method_at p id ≡ Some m → list_all (has_type p) (flat_map (λ e. types_of_instr e.1) m.code) ≡ true
unfolding ids_are_places
code_types p keeps id m e =
    let a = (and_parts (list_all (class_ids_there p) p.classes) _ keeps.ids).1 in
    let b = (and_parts (list_all (λ f. has_class p f.owner) p.fields) _ a).1 in
    let c = (and_parts _ (list_all (has_type p) (all_types p)) b).1 in
    let d = (all_both (has_type p) (map (λ f. f.ty) p.fields) (flat_map types_of_method p.methods) c).1 in
    let f = all_flat (has_type p) types_of_method p.methods id.0 m d e in
    let g = (all_both (has_type p) m.params _ f).1 in
    let h = (all_both (has_type p) (option_to_list m.result) _ g).1 in
    (all_both (has_type p) (flat_map (λ e. types_of_instr e.1) m.code) _ h).0

pub proper : (p : Program) → Keeps p → (id : MethodId) (m : Method) → method_at p id ≡ Some m → (place : ℕ) (found : Instr × ℕ) → fetched m.code m.code_length place ≡ Some found → IsProper p found.0
proper p keeps id m e place found there = proper_at p 0 m.code m.code_length place found (whole_at p keeps id m e) (code_types p keeps id m e) there
