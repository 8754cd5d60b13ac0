-- All of it.
use Rattle.std.proofs.Common.{◌≡◌, ℕ, zero, suc, ◌+◌, ◌-◌, ◌<◌, Bool, true, false, cond, not, List, [], ◌∷◌, length, map, Option, Some, None, refl, sym, ap, ◌∙◌, arith}
use Rattle.std.specs.Prelude.{◌&&◌, nat_lt, slice_get, codes, option_to_list}
use Rattle.std.specs.List.{list_all, flat_map}
use Rattle.std.specs.Str.{bytes_eq}
use Rattle.std.proofs.lemmas.Bool.{and_parts, and_from, lt-ltb}
use Rattle.kilim_program.specs.declared.class.Class.{Class}
use Rattle.kilim_program.specs.declared.class.Field.{Field}
use Rattle.kilim_program.specs.declared.class.Method.{Method}
use Rattle.kilim_program.specs.declared.instr.Instr.{Instr}
use Rattle.kilim_program.specs.declared.names.ClassId.{ClassId}
use Rattle.kilim_program.specs.declared.names.FieldId.{FieldId}
use Rattle.kilim_program.specs.declared.names.MethodId.{MethodId}
use Rattle.kilim_program.specs.declared.ty.Ty.{Ty}
use Rattle.kilim_program.specs.declared.verified.VType.{VType}
use Rattle.kilim_program.specs.declared.verified.VType.TheVariants.{Top, Int, Long, Null, UninitThis, Uninit, Object}
use Rattle.kilim_program.specs.Keeps.{Keeps, all_types, class_ids_there, has_class, has_type, ids_are_places, no_task_arrays, types_of_instr, types_of_method, code_is_whole}
use Rattle.kilim_program.specs.Kinds.{is_task_array, is_task_base}
use Rattle.kilim_program.specs.Lengths.{code_ends, code_stands, targets_stand}
use Rattle.kilim_program.specs.Names.{class_from, class_named, field_of, method_at}
use Rattle.kilim_program.specs.Program.{Program}
use Rattle.kilim_type_spec.specs.Step.{Types, class_vtype, peek, result_types, text_type, vtype, vtype_of_class}
use Rattle.kilim_type_spec.specs.Typed.{IsWellTyped, entry, has_code, typing_of}
use Rattle.kilim_weave_laws.proofs.woven_types.Codes.{whole_code}
use Rattle.kilim_type_laws.proofs.members.FromKeeps.{all_at}
use Rattle.kilim_weave_laws.proofs.woven_programs.Frames.{by_place}
use Rattle.kilim_weave_laws.proofs.woven_programs.Naming.{all_parts, flat_part, owner_there}
use Rattle.kilim_weave_laws.specs.woven_programs.types.Law.{StandAt, TypesAreThere, may_stand, stands}
use Rattle.kilim_weave_laws.proofs.woven_programs.types.Rows.{holds, vtype_holds}
use Rattle.kilim_weave_laws.proofs.woven_programs.types.Walk.{AllGood, entry_held, walk_held}

map_at : {A B : Type 0} (f : A → B) (xs : List A) (k : ℕ) (x : A) → slice_get xs k ≡ Some x → slice_get (map f xs) k ≡ Some (f x)
map_at f [] k x e = absurd (cc)
map_at f (y ∷ xs) zero x e = let s : y ≡ x = cc in ap (λ z. Some (f z)) s
map_at f (y ∷ xs) (suc k) x e = map_at f xs k x e

both : {A : Type 0} (f g : A → Bool) (xs : List A) → list_all f xs ≡ true → list_all g xs ≡ true → list_all (λ x. f x && g x) xs ≡ true
both f g [] a b = refl
both f g (x ∷ xs) a b =
    let p = and_parts (f x) _ a in
    let q = and_parts (g x) _ b in
    and_from (f x && g x) _ (and_from (f x) (g x) p.0 q.0) (both f g xs p.1 q.1)

found_within : (cs : List Class) (name : List ℕ) (n : ℕ) (c : ClassId) → class_from cs name n ≡ Some c → c.0 < n + length cs
found_within [] name n c e = absurd (cc)
found_within (x ∷ cs) name n c e = by (bytes_eq x.name name) e (λ r. found_within cs name (suc n) c r)
  where
    by : (b : Bool) → cond b (Some (record { 0 = n })) (class_from cs name (suc n)) ≡ Some c → (class_from cs name (suc n) ≡ Some c → c.0 < suc n + length cs) → c.0 < n + length (x ∷ cs)
    by true e again = let s : n ≡ c.0 = (let z : ◌≡◌ {A = ClassId} (record { 0 = n }) c = cc in ap (λ (d : ClassId). d.0) z) in omega (arith, s)
    by false e again = let r = again e in omega (arith, r)

module _ (P : Program) (keeps : Keeps P) where
  abbrev fine : Ty → Bool
  fine = may_stand P

  fewer : (d : ℕ) (b : Bool) → not (nat_lt 0 d && b) ≡ true → not (nat_lt 0 (d - 1) && b) ≡ true
  fewer zero b h = refl
  fewer (suc d) false h = no_and (nat_lt 0 (suc d - 1))
    where
      no_and : (x : Bool) → not (x && false) ≡ true
      no_and true = refl
      no_and false = refl
  fewer (suc d) true h = let l = lt-ltb 0 (suc d) (omega arith) in let z : false ≡ true = sym (ap (λ (b : Bool). not (b && true)) l) ∙ h in absurd (cc)

  element_fine : (ty : Ty) → fine ty ≡ true → fine (record ty { dims = ty.dims - 1 }) ≡ true
  element_fine ty h =
      let p = and_parts (has_type P ty) _ h in
      and_from (has_type P ty) _ p.0 (fewer ty.dims (is_task_base P ty.base) p.1)

  class_fine : (c : ClassId) → has_class P c ≡ true → holds fine element_fine (class_vtype c) ≡ true
  class_fine c h = and_from (has_class P c) true h refl

  all_fine : list_all fine (all_types P) ≡ true
  unfolding ids_are_places no_task_arrays
  all_fine =
      let a = (and_parts (list_all (class_ids_there P) P.classes) _ keeps.ids).1 in
      let b = (and_parts (list_all (λ f. has_class P f.owner) P.fields) _ a).1 in
      let c = (and_parts _ (list_all (has_type P) (all_types P)) b).1 in
      both (has_type P) (λ ty. not (is_task_array P ty)) (all_types P) c keeps.task_arrays

  method_fine : (id : MethodId) (m : Method) → method_at P id ≡ Some m → list_all fine (types_of_method m) ≡ true
  method_fine id m at = flat_part fine types_of_method P.methods id.0 m (all_parts fine (map (λ f. f.ty) P.fields) (flat_map types_of_method P.methods) all_fine).1 at

  field_fine : (f : FieldId) (field : Field) → field_of P f ≡ Some field → fine field.ty ≡ true
  field_fine f field at = all_at fine (map (λ (f : Field). f.ty) P.fields) f.0 field.ty (all_parts fine (map (λ f. f.ty) P.fields) (flat_map types_of_method P.methods) all_fine).0 (map_at (λ (f : Field). f.ty) P.fields f.0 field at)

  result_fine : (o : Option Ty) → list_all fine (option_to_list o) ≡ true → list_all (holds fine element_fine) (result_types o) ≡ true
  result_fine None h = refl
  result_fine (Some ty) h = let p = and_parts (fine ty) true h in and_from (holds fine element_fine (vtype ty)) true (vtype_holds fine element_fine ty p.0) refl

  callee_fine : (id : MethodId) (m : Method) → method_at P id ≡ Some m → (list_all (holds fine element_fine) (result_types m.result) ≡ true) × (holds fine element_fine (class_vtype m.owner) ≡ true)
  callee_fine id m at =
      let p = all_parts fine m.params _ (method_fine id m at) in
      let q = all_parts fine (option_to_list m.result) _ p.1 in
      (result_fine m.result q.0, class_fine m.owner (owner_there P keeps id m at))

  text_fine : holds fine element_fine (text_type P) ≡ true
  text_fine = by (class_named P (codes "java/lang/String")) refl
    where
      by : (o : Option ClassId) → class_named P (codes "java/lang/String") ≡ o → holds fine element_fine (vtype_of_class o) ≡ true
      by None is = refl
      by (Some c) is = let w = found_within P.classes (codes "java/lang/String") 0 c is in class_fine c (lt-ltb c.0 (length P.classes) (omega (arith, w)))

  same_test : (v : VType) → holds fine element_fine v ≡ true → stands P v ≡ true
  same_test (Object ty) h = h
  same_test Top h = refl
  same_test Int h = refl
  same_test Long h = refl
  same_test Null h = refl
  same_test UninitThis h = refl
  same_test (Uninit q) h = refl

  same_tests : (vs : List VType) → list_all (holds fine element_fine) vs ≡ true → list_all (stands P) vs ≡ true
  same_tests [] h = refl
  same_tests (v ∷ vs) h = let p = and_parts (holds fine element_fine v) _ h in and_from (stands P v) _ (same_test v p.0) (same_tests vs p.1)

  told : (m : Method) (own : holds fine element_fine (class_vtype m.owner) ≡ true) (typing : ℕ → Types) (es : List (ℕ × Instr)) → AllGood fine element_fine P m own typing es → StandAt P typing es
  told m own typing [] a = tt
  told m own typing (e ∷ es) a = (record { locals = λ k. same_test (peek (typing e.0).locals k) (a.0.locals k); stack = same_tests (typing e.0).stack a.0.stack }, told m own typing es a.1)

  of_method : IsWellTyped P → (id : MethodId) (m : Method) → method_at P id ≡ Some m → has_code m ≡ true → StandAt P (typing_of P m) m.code
  unfolding code_is_whole
  of_method typed id m at code =
      let all = method_fine id m at in
      let p = all_parts fine m.params _ all in
      let q = all_parts fine (option_to_list m.result) _ p.1 in
      let r = all_parts fine (flat_map (λ e. types_of_instr e.1) m.code) _ q.1 in
      let own = (callee_fine id m at).1 in
      let whole = (and_parts (code_stands 0 m.code m.code_length) (targets_stand m.code && code_ends m.code) (all_at code_is_whole P.methods id.0 m keeps.code at)).0 in
      let by_places = by_place P m (whole_code m whole).grows (typed.methods id m at code) in
      told m own (typing_of P m) m.code
      (walk_held fine element_fine P m own text_fine field_fine callee_fine r.1 (typing_of P m) m.code (Some (entry m)) r.0 (entry_held fine element_fine P m own p.0) by_places.walk)

pub all_there : TypesAreThere
all_there p keeps typed id m at code = of_method p keeps typed id m at code
