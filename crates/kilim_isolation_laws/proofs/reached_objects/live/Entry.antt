-- A parameter that names a node is of a class or an array type.
use Rattle.std.proofs.Common.{◌≡◌, ℕ, zero, suc, ◌-◌, Bool, true, false, ◌==◌, if◌then◌else◌, true≢false, List, [], ◌∷◌, ◌++◌, length, replicate, Option, Some, None, refl, sym}
use Rattle.kilim_program.specs.declared.class.Method.{Method}
use Rattle.kilim_program.specs.declared.ty.Base.{Base}
use Rattle.kilim_program.specs.declared.ty.Base.TheVariants as base
use Rattle.kilim_program.specs.declared.ty.Qualifier.{Qualifier}
use Rattle.kilim_program.specs.declared.ty.Ty.{Ty}
use Rattle.kilim_program.specs.declared.verified.VType.{VType}
use Rattle.kilim_program.specs.declared.verified.VType.TheVariants.{Top, Int, Long, Null, UninitThis, Uninit, Object}
use Rattle.kilim_program.specs.BuiltIn.{class_type}
use Rattle.kilim_program.specs.Kinds.{array_kind, base_kind, is_tree_kind, kind_of}
use Rattle.kilim_program.specs.Program.{Program}
use Rattle.kilim_program.specs.Same.{is_constructor}
use Rattle.kilim_type_spec.specs.Step.{base_vtype, class_vtype, dims_vtype, peek, vtype}
use Rattle.kilim_type_spec.specs.Typed.{entry, param_slots, slots_of_type}
use Rattle.kilim_isolation_graph.specs.Entry.{declared_parameters, entry_names, entry_nodes, name_slots, parameters_of, tree_name}
use Rattle.kilim_isolation_graph.specs.Graphs.{slot}
use Rattle.kilim_isolation_laws.specs.reached_objects.live.Laws.{is_number}

base_no_number : (p : Program) (ty : Ty) (b : Base) → is_tree_kind (base_kind p b) ≡ true → is_number (base_vtype ty b) ≡ false
base_no_number p ty (base.Class c) e = refl
base_no_number p ty b e = absurd (true≢false (sym e))

tree_no_number : (p : Program) (ty : Ty) (dims : ℕ) → is_tree_kind (if dims == 0 then base_kind p ty.base else array_kind (base_kind p ty.base)) ≡ true → is_number (dims_vtype ty dims) ≡ false
tree_no_number p ty zero e = base_no_number p ty ty.base e
tree_no_number p ty (suc dims) e = refl

name_no_number : (p : Program) (ty : Ty) (j n : ℕ) → tree_name p ty j ≡ Some n → is_number (vtype ty) ≡ false
name_no_number p ty j n e = tree_no_number p ty ty.dims (by (is_tree_kind (kind_of p ty)) refl e)
  where
    by : (b : Bool) → is_tree_kind (kind_of p ty) ≡ b → (if b then Some j else None) ≡ Some n → is_tree_kind (kind_of p ty) ≡ true
    by true is w = is
    by false is w = absurd (cc)

-- names and types stand at the same slots
abbrev AreNamed : List (Option ℕ) → List VType → Type 0
AreNamed xs ts = (k n : ℕ) → slot xs k ≡ Some n → is_number (peek ts k) ≡ false

none_some : (n : ℕ) → None ≡ Some n → ⊥
none_some n e = cc

one_more : (x : Option ℕ) (t : VType) (xs : List (Option ℕ)) (ts : List VType) → ((n : ℕ) → x ≡ Some n → is_number t ≡ false) → AreNamed xs ts → AreNamed (x ∷ xs) (t ∷ ts)
one_more x t xs ts here rest zero n e = here n e
one_more x t xs ts here rest (suc k) n e = rest k n e

slots_named : (t : VType) (x : Option ℕ) (xs : List (Option ℕ)) (ts : List VType) → ((n : ℕ) → x ≡ Some n → is_number t ≡ false) → AreNamed xs ts → AreNamed (name_slots t x xs) (slots_of_type t ts)
slots_named Long x xs ts here rest = one_more x Long (None ∷ xs) (Top ∷ ts) here (one_more None Top xs ts (λ n e. absurd (none_some n e)) rest)
slots_named Top x xs ts here rest = one_more x Top xs ts here rest
slots_named Int x xs ts here rest = one_more x Int xs ts here rest
slots_named Null x xs ts here rest = one_more x Null xs ts here rest
slots_named UninitThis x xs ts here rest = one_more x UninitThis xs ts here rest
slots_named (Uninit at) x xs ts here rest = one_more x (Uninit at) xs ts here rest
slots_named (Object ty) x xs ts here rest = one_more x (Object ty) xs ts here rest

none_named : (ts : List VType) → AreNamed [] ts
none_named ts k n e = absurd (none_some n e)

params_named : (p : Program) (tys : List Ty) (qs : List Qualifier) (j : ℕ) → AreNamed (entry_names p (declared_parameters tys qs) j) (param_slots tys)
params_named p [] qs j = none_named []
params_named p (ty ∷ tys) [] j = none_named (param_slots (ty ∷ tys))
params_named p (ty ∷ tys) (q ∷ qs) j =
    slots_named (vtype ty) (tree_name p ty j) (entry_names p (declared_parameters tys qs) (suc j)) (param_slots tys) (λ n e. name_no_number p ty j n e) (params_named p tys qs (suc j))

this_named : (p : Program) (m : Method) (static : Bool) → AreNamed
    (entry_names p (if static then declared_parameters m.params m.qualifiers else record { ty = class_type m.owner.0; qualifier = m.receiver } ∷ declared_parameters m.params m.qualifiers) 0)
    ((if static then [] else (if is_constructor m then UninitThis else class_vtype m.owner) ∷ []) ++ param_slots m.params)
this_named p m true = params_named p m.params m.qualifiers 0
this_named p m false = one_more (tree_name p (class_type m.owner.0) 0) (if is_constructor m then UninitThis else class_vtype m.owner) (entry_names p (declared_parameters m.params m.qualifiers) 1) (param_slots m.params)
    (λ n e. by (is_constructor m)) (params_named p m.params m.qualifiers 1)
  where
    by : (b : Bool) → is_number (if b then UninitThis else class_vtype m.owner) ≡ false
    by true = refl
    by false = refl

filled : (xs : List (Option ℕ)) (count k n : ℕ) → slot (xs ++ replicate count None) k ≡ Some n → slot xs k ≡ Some n
filled [] zero k n e = e
filled [] (suc count) zero n e = absurd (none_some n e)
filled [] (suc count) (suc k) n e = absurd (none_some n (filled [] count k n e))
filled (x ∷ xs) count zero n e = e
filled (x ∷ xs) count (suc k) n e = filled xs count k n e

pub entry_named : (p : Program) (m : Method) (k n : ℕ) → slot (entry_nodes p m).locals k ≡ Some n → is_number (peek (entry m).locals k) ≡ false
unfolding entry_nodes
entry_named p m k n e = this_named p m m.is_static k n (filled (entry_names p (parameters_of m) 0) (m.max_locals - length (entry_names p (parameters_of m) 0)) k n e)
