-- What writing a class file needs, and its two halves.
use Rattle.std.specs.Prelude.{◌≡◌, ℕ, ◌<◌, ◌^◌, List, ◌++◌, length}
use Rattle.std.specs.List.{AllByRecursion}
use Rattle.kilim_class_grammar.specs.Spelling.{u2, u4, list_text}
use Rattle.kilim_class_pool.specs.Spelling.{pool_text}
use Rattle.kilim_class_attributes.specs.Attributes.{attributes_text, AttributesAreSized}
use Rattle.kilim_class_file.specs.declared.class_file.MemberInfo.{MemberInfo}
use Rattle.kilim_class_file.specs.declared.class_file.ClassFile.{ClassFile}
use Rattle.kilim_class_file.specs.Text.{member_text}

abbrev pub front_text : ClassFile → List ℕ
front_text f = u4 0xCAFEBABE ++ (u2 f.minor_version ++ (u2 f.major_version ++ (pool_text f.constant_pool ++ (u2 f.access_flags ++ (u2 f.this_class ++ u2 f.super_class)))))

abbrev pub lists_text : ClassFile → List ℕ
lists_text f = list_text u2 f.interfaces ++ (list_text member_text f.fields ++ (list_text member_text f.methods ++ attributes_text f.attributes))

-- ---- each count is a number of its width

abbrev pub MemberIsSized : MemberInfo → Type 0
MemberIsSized member = AttributesAreSized member.attributes

pub record MembersAreSized (members : List MemberInfo) : Type 0 where
  pub count : length members < 2 ^ 16
  pub each : AllByRecursion MemberIsSized members

pub record ListsAreSized (f : ClassFile) : Type 0 where
  pub interfaces : length f.interfaces < 2 ^ 16
  pub fields : MembersAreSized f.fields
  pub methods : MembersAreSized f.methods
  pub attributes : AttributesAreSized f.attributes
