-- The class `D/Node` of the demo: a message with an int and the node behind it (own).
--
--     class Node implements Message { int v; Node next; Node(int v, @Free Node next) { this.v = v; this.next = next; } }
use Rattle.std.specs.Prelude.{ℕ, List, [], ◌∷◌, codes}
use Rattle.kilim_class_pool.specs.declared.entry.Entry.{Entry}
use Rattle.kilim_class_pool.specs.declared.entry.Entry.TheVariants.{Utf8, Class, Fieldref, Methodref, NameAndType}
use Rattle.kilim_class_attributes.specs.declared.parts.annotation.AnnotationPart.TheVariants.{Parameters, Annotations, Annotation}
use Rattle.kilim_class_attributes.specs.declared.attribute.Attribute.{Attribute}
use Rattle.kilim_class_attributes.specs.declared.attribute.Info.TheVariants.{RuntimeVisibleParameterAnnotations}
use Rattle.kilim_class_file.specs.declared.class_file.ClassFile.{ClassFile}
use Rattle.kilim_demo.specs.declared.assembler.Op.TheVariants.{Plain, Pair}
use Rattle.kilim_demo.specs.Assembler.{code_of, aload_0, aload_2, iload_1, invokespecial, putfield, return}
use Rattle.kilim_demo.specs.Parts.{class_file, code_attribute, field, method}

-- the first entry has the index 1
unfoldable pub node_pool : List Entry
node_pool =
    Utf8 (codes "D/Node") ∷ Class 1
    ∷ Utf8 (codes "java/lang/Object") ∷ Class 3
    ∷ Utf8 (codes "kilim/Message") ∷ Class 5
    ∷ Utf8 (codes "v") ∷ Utf8 (codes "I")
    ∷ Utf8 (codes "next") ∷ Utf8 (codes "LD/Node;")
    ∷ Utf8 (codes "<init>") ∷ Utf8 (codes "(ILD/Node;)V") ∷ Utf8 (codes "()V")
    -- 14: Object.<init>()V is 15, v is 17, next is 19
    ∷ NameAndType 11 13 ∷ Methodref 4 14
    ∷ NameAndType 7 8 ∷ Fieldref 2 16
    ∷ NameAndType 9 10 ∷ Fieldref 2 18
    ∷ Utf8 (codes "Code") ∷ Utf8 (codes "RuntimeVisibleParameterAnnotations") ∷ Utf8 (codes "Lkilim/Free;")
    ∷ []

unfoldable pub node_code : List ℕ
node_code = code_of (
    Plain aload_0 ∷ Pair invokespecial 15
    ∷ Plain aload_0 ∷ Plain iload_1 ∷ Pair putfield 17
    ∷ Plain aload_0 ∷ Plain aload_2 ∷ Pair putfield 19
    ∷ Plain return ∷ [])

-- no annotation on the first parameter, and one on the second
abbrev pub free_second : Attribute
free_second = record {
  attribute_name_index = 21;
  info = RuntimeVisibleParameterAnnotations (Parameters 2 ∷ Annotations 0 ∷ Annotations 1 ∷ Annotation 22 0 ∷ []);
}

unfoldable pub node_file : ClassFile
node_file = class_file node_pool (6 ∷ []) (field 7 8 ∷ field 9 10 ∷ []) (method 0 11 12 (code_attribute 20 2 3 node_code [] ∷ free_second ∷ []) ∷ [])
