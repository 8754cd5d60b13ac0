-- The attributes of a method in one list, each behind those before it, and the method with them.
use Rattle.std.specs.Prelude.{List, [], ◌++◌, Option, Result, Ok, string_bytes}
use Rattle.kilim_class_attributes.specs.declared.attribute.Attribute.{Attribute}
use Rattle.kilim_class_file.specs.declared.class_file.MemberInfo.{MemberInfo}
use Rattle.kilim_class_pool.specs.declared.entry.Entry.{Entry}
use Rattle.kilim_class_pool.specs.declared.fault.AddFault.{AddFault}
use Rattle.kilim_class_grammar.specs.Reader.{◌>>=◌}
use Rattle.kilim_class_builder.specs.declared.source.MethodSource.{MethodSource}
use Rattle.kilim_class_builder.specs.Adding.{Adding, text_added}
use Rattle.kilim_class_builder.specs.Members.{code_added, exceptions_added, listed, member, parameters_added, receiver_added, utf16_of}

-- an attribute behind others, where there is one
abbrev pub appended : List Attribute → Result (Option Attribute × List Entry) AddFault → Result (List Attribute × List Entry) AddFault
appended all added = added >>= λ x. Ok (all ++ listed x.0, x.1)

-- all but the code
unfoldable pub marks_added : MethodSource → List Attribute → Adding (List Attribute)
marks_added m all pool = do
  exceptions ← appended all (exceptions_added m.pausable pool)
  receiver ← appended exceptions.0 (receiver_added m.receiver exceptions.1)
  appended receiver.0 (parameters_added m.qualifiers.items receiver.1)

-- a method before its code
unfoldable pub head_added : MethodSource → Adding MemberInfo
head_added m pool = do
  n ← text_added (utf16_of (string_bytes m.name)) pool
  d ← text_added (utf16_of (string_bytes m.descriptor)) n.1
  marks ← marks_added m [] d.1
  Ok (member m.flags n.0 d.0 marks.0, marks.1)

unfoldable pub gathered : MethodSource → Adding MemberInfo
gathered m pool = do
  head ← head_added m pool
  all ← appended head.0.attributes (code_added m.flags m.max_stack m.max_locals m.code.items m.frames.items head.1)
  Ok (record head.0 { attributes = all.0 }, all.1)
