-- Names with descriptors that were met.
use Rattle.std.specs.Prelude.{ℕ, Bool, ◌&&◌, List, is_some}
use Rattle.std.specs.BTreeMap.{BTreeMap, get}
use Rattle.std.specs.List.{list_any}
use Rattle.std.specs.Str.{bytes_eq}
use Rattle.kilim_class_file.specs.declared.class_file.ClassFile.{ClassFile}
use Rattle.kilim_class_file.specs.declared.class_file.MemberInfo.{MemberInfo}
use Rattle.kilim_link_spec.specs.World.{member_name, member_descriptor}
use Rattle.kilim_link_inherited.specs.declared.signature.Signature.{Signature}
use Rattle.kilim_link_inherited.specs.Index.{signature_cmp}

abbrev pub seen_in : BTreeMap Signature (Unit {0}) → List ℕ → List ℕ → Bool
seen_in m name descriptor = is_some (get signature_cmp m (record { name = name; descriptor = descriptor }))

-- one of these members has that name and descriptor
abbrev pub met_in : ClassFile → List MemberInfo → List ℕ → List ℕ → Bool
met_in file members name descriptor = list_any (λ m. bytes_eq name (member_name file m) && bytes_eq descriptor (member_descriptor file m)) members
