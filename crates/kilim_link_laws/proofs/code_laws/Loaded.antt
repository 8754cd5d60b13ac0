-- What an instruction loads is an int, a long or a string; an array that it names has a dimension at least.
use Rattle.std.proofs.Common.{◌≡◌, ℕ, Bool, true, false, List, Option, Some, None, refl}
use Rattle.std.specs.Prelude.{◌||◌, ◌==◌, if◌then◌else◌}
use Rattle.std.specs.Option.{option_map}
use Rattle.kilim_class_pool.specs.declared.entry.Entry.{Entry}
use Rattle.kilim_class_pool.specs.declared.entry.Entry.TheVariants as entry
use Rattle.kilim_class_pool.specs.Entries.{entry_at}
use Rattle.kilim_program.specs.Lengths.{is_loaded}
use Rattle.kilim_link_spec.specs.Code.{constant_ref, field_ref, method_ref, any_method_ref, class_ref, unless_array, operand_at}
use Rattle.kilim_link_spec.specs.declared.fault.MemberOf.{MemberOf as MemberRef}
use Rattle.kilim_link_spec.specs.declared.named.Operand.{Operand}
use Rattle.kilim_link_spec.specs.declared.named.Operand.TheVariants.{AConstant, AField, AMethod, AType}
use Rattle.kilim_link_spec.specs.declared.named.Named.{Named}
use Rattle.kilim_link_spec.specs.declared.named.Named.TheVariants.{AClass, AnArray, Malformed}
use Rattle.kilim_class_file.specs.Parts.{text_of}
use Rattle.kilim_link_laws.proofs.code_laws.References.{HasDims, named_has_dims}

-- a constant that an instruction loads, and a type that it names
abbrev pub IsLoaded : Option Operand → Type 0
IsLoaded (Some (AConstant value)) = is_loaded value ≡ true
IsLoaded (Some (AType class)) = HasDims class
IsLoaded _ = Unit {0}

constant_loaded : (pool : List Entry) (e : Option Entry) → IsLoaded (option_map AConstant (constant_ref pool e))
constant_loaded pool (Some (entry.Integer n)) = refl
constant_loaded pool (Some (entry.Long n)) = refl
constant_loaded pool (Some (entry.String text)) = refl
constant_loaded pool _ = tt

field_loaded : (o : Option MemberRef) → IsLoaded (option_map AField o)
field_loaded None = tt
field_loaded (Some member) = tt

method_loaded : (o : Option MemberRef) → IsLoaded (option_map AMethod o)
method_loaded None = tt
method_loaded (Some member) = tt

type_loaded : (pool : List Entry) (e : Option Entry) → IsLoaded (option_map AType (class_ref pool e))
type_loaded pool (Some (entry.Class name)) = named_has_dims (text_of pool name)
type_loaded pool _ = tt

class_loaded : (o : Option Named) → IsLoaded (option_map AType (unless_array o))
class_loaded None = tt
class_loaded (Some (AClass name)) = tt
class_loaded (Some (AnArray type)) = tt
class_loaded (Some (Malformed name)) = tt

loaded_if : (test : Bool) (a b : Option Operand) → IsLoaded a → IsLoaded b → IsLoaded (if test then a else b)
loaded_if true a b x y = x
loaded_if false a b x y = y

pub operand_loaded : (pool : List Entry) (x : ℕ × ℕ) → IsLoaded (operand_at pool x)
operand_loaded pool x =
    let e = entry_at pool x.1 in
    let of_type = option_map AType (class_ref pool e) in
    let of_class = option_map AType (unless_array (class_ref pool e)) in
    let of_any_method = option_map AMethod (any_method_ref pool e) in
    let of_method = option_map AMethod (method_ref pool e) in
    let of_field = option_map AField (field_ref pool e) in
    let from_type = if x.0 == 189 || x.0 == 192 || x.0 == 193 then of_type else None in
    let from_class = if x.0 == 187 then of_class else from_type in
    let from_any_method = if x.0 == 183 || x.0 == 184 then of_any_method else from_class in
    let from_method = if x.0 == 182 then of_method else from_any_method in
    let from_field = if x.0 == 178 || x.0 == 180 || x.0 == 181 then of_field else from_method in
    loaded_if (x.0 == 18 || x.0 == 19 || x.0 == 20) (option_map AConstant (constant_ref pool e)) from_field (constant_loaded pool e)
    (loaded_if (x.0 == 178 || x.0 == 180 || x.0 == 181) of_field from_method (field_loaded (field_ref pool e))
    (loaded_if (x.0 == 182) of_method from_any_method (method_loaded (method_ref pool e))
    (loaded_if (x.0 == 183 || x.0 == 184) of_any_method from_class (method_loaded (any_method_ref pool e))
    (loaded_if (x.0 == 187) of_class from_type (class_loaded (class_ref pool e))
    (loaded_if (x.0 == 189 || x.0 == 192 || x.0 == 193) of_type None (type_loaded pool e) tt)))))
