-- The code in a class file that has a text is bytes.
use Rattle.std.proofs.Common.{List, [], ◌∷◌, ◌++◌, Option, Some, None}
use Rattle.std.specs.List.{filter_map, cons_option, AllByRecursion}
use Rattle.kilim_class_attributes.specs.declared.attribute.Attribute.{Attribute}
use Rattle.kilim_class_attributes.specs.declared.attribute.Code.{Code}
use Rattle.kilim_class_attributes.specs.declared.attribute.Info.{Info}
use Rattle.kilim_class_attributes.specs.declared.attribute.Info.TheVariants as info
use Rattle.kilim_class_attributes.specs.declared.attribute.Place.{Place}
use Rattle.kilim_class_attributes.specs.declared.attribute.Place.TheVariants as place
use Rattle.kilim_class_attributes.specs.Attributes.{AttributeFits, InfoFits}
use Rattle.kilim_class_attributes.specs.Lists.{EachAfter}
use Rattle.kilim_class_file.specs.declared.class_file.ClassFile.{ClassFile}
use Rattle.kilim_class_file.specs.declared.class_file.MemberInfo.{MemberInfo}
use Rattle.kilim_class_file.specs.Text.{ClassFits, MethodFits}
use Rattle.kilim_class_pool.specs.declared.entry.Entry.{Entry}
use Rattle.kilim_class_grammar.specs.Format.{IsBytes}
use Rattle.kilim_link_spec.specs.Linked.{code_attribute, code_in, first_of}
use Rattle.kilim_link_laws.proofs.code_laws.Lists.{all_map}

-- the bytes of a method's code are bytes
abbrev pub CodeIsBytes : Option Code → Type 0
CodeIsBytes None = Unit {0}
CodeIsBytes (Some code) = IsBytes code.code

abbrev pub CodesAreBytes : ClassFile → Type 0
CodesAreBytes file = AllByRecursion (λ m. CodeIsBytes (code_attribute m)) file.methods

in_info : (pool : List Entry) (i : Info) (later : List Code) → InfoFits pool i → CodeIsBytes (first_of later) → CodeIsBytes (first_of (cons_option (code_in i) later))
in_info pool (info.Code code) later fits rest = fits.bytes
in_info pool _ later fits rest = rest

in_attributes : (pool : List Entry) (at : Place) (before rest : List Attribute) → EachAfter (AttributeFits pool at) before rest → CodeIsBytes (first_of (filter_map (λ a. code_in a.info) rest))
in_attributes pool at before [] each = tt
in_attributes pool at before (a ∷ rest) each = in_info pool a.info (filter_map (λ b. code_in b.info) rest) each.0.info (in_attributes pool at (before ++ a ∷ []) rest each.1)

in_method : (pool : List Entry) (m : MemberInfo) → MethodFits pool m → CodeIsBytes (code_attribute m)
in_method pool m fits = in_attributes pool place.Method [] m.attributes fits.member.attributes.each

pub codes_are_bytes : (file : ClassFile) → ClassFits file → CodesAreBytes file
codes_are_bytes file fits = all_map (MethodFits file.constant_pool) (λ m. CodeIsBytes (code_attribute m)) (in_method file.constant_pool) file.methods fits.parts.methods.1
