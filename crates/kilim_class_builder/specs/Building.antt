-- The class file that is built, call by call (JVMS 4.1).
use Rattle.std.specs.Prelude.{◌≡◌, ◌⊎◌, ℕ, List, [], ◌∷◌, ◌++◌, Result, Ok, Err, codes}
use Rattle.kilim_class_file.specs.declared.class_file.ClassFile.{ClassFile}
use Rattle.kilim_class_pool.specs.declared.entry.Entry.{Entry}
use Rattle.kilim_class_pool.specs.declared.fault.AddFault.{AddFault}
use Rattle.kilim_class_pool.specs.declared.fault.AddFault.TheVariants.{Memory}
use Rattle.kilim_class_grammar.specs.Reader.{◌>>=◌}
use Rattle.kilim_class_builder.specs.declared.source.MethodSource.{MethodSource}
use Rattle.kilim_class_builder.specs.Adding.{class_added}
use Rattle.kilim_class_builder.specs.Members.{field_added, method_added}

-- a file of version 52.0, with its class and its superclass, and no members; the flag is ACC_SUPER
abbrev pub file_with : List Entry → (class superclass : ℕ) → ClassFile
file_with pool class superclass = record {
  minor_version = 0;
  major_version = 52;
  constant_pool = pool;
  access_flags = 0x20;
  this_class = class;
  super_class = superclass;
  interfaces = [];
  fields = [];
  methods = [];
  attributes = [];
}

-- `new`
unfoldable pub begun : (name superclass : List ℕ) → Result ClassFile AddFault
begun name superclass = do
  class ← class_added name []
  parent ← class_added superclass class.1
  Ok (file_with parent.1 class.0 parent.0)

-- `message`
unfoldable pub with_message : ClassFile → Result ClassFile AddFault
with_message file = do
  class ← class_added (codes "kilim/Message") file.constant_pool
  Ok (record file { constant_pool = class.1; interfaces = class.0 ∷ [] })

-- `field`
unfoldable pub with_field : (name descriptor : List ℕ) → ClassFile → Result ClassFile AddFault
with_field name descriptor file = do
  field ← field_added name descriptor file.constant_pool
  Ok (record file { constant_pool = field.1; fields = file.fields ++ field.0 ∷ [] })

-- `method`
unfoldable pub with_method : MethodSource → ClassFile → Result ClassFile AddFault
with_method m file = do
  method ← method_added m file.constant_pool
  Ok (record file { constant_pool = method.1; methods = file.methods ++ method.0 ∷ [] })

-- What a call came to: the file that it makes, or its fault; want of memory may come at any time.
abbrev pub Makes : Result Unit AddFault → ClassFile → Result ClassFile AddFault → Type 0
Makes (Ok u) new made = made ≡ Ok new
Makes (Err e) new made = (e ≡ Memory) ⊎ (made ≡ Err e)
