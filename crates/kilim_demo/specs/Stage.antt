-- The class `D/Sk` of stage k of the demo: a task between two mailboxes (own).
--
--     class Sk extends Task {
--         Mailbox in, out;
--         void execute() {
--             for (int i = 0; i < m; i++) {
--                 Node n = (Node) in.get();
--                 n.v = n.v + c;                                                   // where the stage adds
--                 n = new Node(c, n);                                              // where it prepends
--                 Node next = n.next; if (next != null) { n.next = null; n = next; }   // where it cuts
--                 out.put(n);
--             }
--         }
--     }
use Rattle.std.specs.Prelude.{ℕ, ◌+◌, List, [], ◌∷◌, ◌++◌, length, codes}
use Rattle.std.specs.Fmt.{decimal}
use Rattle.kilim_class_pool.specs.declared.entry.Entry.{Entry}
use Rattle.kilim_class_pool.specs.declared.entry.Entry.TheVariants.{Utf8, Class, Fieldref, Methodref, NameAndType}
use Rattle.kilim_class_attributes.specs.declared.parts.frame.Frame.{Frame}
use Rattle.kilim_class_attributes.specs.declared.parts.frame.Frame.TheVariants.{Append, Chop}
use Rattle.kilim_class_attributes.specs.declared.parts.frame.VerificationType.TheVariants.{Integer, Object}
use Rattle.kilim_class_file.specs.declared.class_file.ClassFile.{ClassFile}
use Rattle.kilim_demo.specs.declared.draws.Operation.{Operation}
use Rattle.kilim_demo.specs.declared.draws.Operation.TheVariants.{Adds, Prepends, Cuts}
use Rattle.kilim_demo.specs.declared.draws.Stage.{Stage}
use Rattle.kilim_demo.specs.declared.assembler.Op.TheVariants.{Plain, Byte, Pair, Two}
use Rattle.kilim_demo.specs.Assembler.{code_of, back, aconst_null, iconst_0, bipush, sipush, iload_1, aload_0, aload_1, aload_2, aload_3, istore_1, astore_2, astore_3, dup, iadd, iinc, if_icmpge, goto, return, getfield, putfield, invokevirtual, invokespecial, new, checkcast, ifnull}
use Rattle.kilim_demo.specs.Parts.{class_file, code_attribute, exceptions_attribute, field, frames_attribute, method, public_flag}

-- the name of the class of a stage, from 1 on
unfoldable pub stage_name : ℕ → List ℕ
stage_name k = codes "D/S" ++ decimal k

unfoldable pub stage_entries : List Entry
stage_entries =
    -- 2 is the class itself
    Class 1 ∷ Utf8 (codes "kilim/Task") ∷ Class 3
    ∷ Utf8 (codes "in") ∷ Utf8 (codes "Lkilim/Mailbox;") ∷ Utf8 (codes "out")
    ∷ Utf8 (codes "<init>") ∷ Utf8 (codes "(Lkilim/Mailbox;Lkilim/Mailbox;)V") ∷ Utf8 (codes "()V")
    -- 11: Task.<init>()V is 12, in is 14, out is 16
    ∷ NameAndType 8 10 ∷ Methodref 4 11
    ∷ NameAndType 5 6 ∷ Fieldref 2 13
    ∷ NameAndType 7 6 ∷ Fieldref 2 15
    ∷ Utf8 (codes "execute") ∷ Utf8 (codes "Code") ∷ Utf8 (codes "Exceptions") ∷ Utf8 (codes "kilim/Pausable") ∷ Class 20
    ∷ Utf8 (codes "StackMapTable")
    -- 23: get is 28, put is 32
    ∷ Utf8 (codes "kilim/Mailbox") ∷ Class 23
    ∷ Utf8 (codes "get") ∷ Utf8 (codes "()Lkilim/Message;") ∷ NameAndType 25 26 ∷ Methodref 24 27
    ∷ Utf8 (codes "put") ∷ Utf8 (codes "(Lkilim/Message;)V") ∷ NameAndType 29 30 ∷ Methodref 24 31
    -- 33: the class Node is 34, v is 38, next is 42, its constructor is 45
    ∷ Utf8 (codes "D/Node") ∷ Class 33
    ∷ Utf8 (codes "v") ∷ Utf8 (codes "I") ∷ NameAndType 35 36 ∷ Fieldref 34 37
    ∷ Utf8 (codes "next") ∷ Utf8 (codes "LD/Node;") ∷ NameAndType 39 40 ∷ Fieldref 34 41
    ∷ Utf8 (codes "(ILD/Node;)V") ∷ NameAndType 8 43 ∷ Methodref 34 44
    ∷ []

unfoldable pub stage_pool : ℕ → List Entry
stage_pool k = Utf8 (stage_name k) ∷ stage_entries

unfoldable pub stage_constructor : List ℕ
stage_constructor = code_of (
    Plain aload_0 ∷ Pair invokespecial 12
    ∷ Plain aload_0 ∷ Plain aload_1 ∷ Pair putfield 14
    ∷ Plain aload_0 ∷ Plain aload_2 ∷ Pair putfield 16
    ∷ Plain return ∷ [])

-- what is done to the node in local 2
unfoldable pub operation_code : Operation → ℕ → List ℕ
operation_code Adds c = code_of (
    Plain aload_2 ∷ Plain dup ∷ Pair getfield 38 ∷ Byte bipush c ∷ Plain iadd ∷ Pair putfield 38 ∷ [])
operation_code Prepends c = code_of (
    Pair new 34 ∷ Plain dup ∷ Byte bipush c ∷ Plain aload_2 ∷ Pair invokespecial 45 ∷ Plain astore_2 ∷ [])
operation_code Cuts c = code_of (
    Plain aload_2 ∷ Pair getfield 42 ∷ Plain astore_3
    ∷ Plain aload_3 ∷ Pair ifnull 10
    ∷ Plain aload_2 ∷ Plain aconst_null ∷ Pair putfield 42
    ∷ Plain aload_3 ∷ Plain astore_2 ∷ [])

-- 0 to 19, the operation, and 14 bytes more: the return stands behind that
unfoldable pub taking : ℕ → ℕ → List ℕ
taking messages long = code_of (
    Plain iconst_0 ∷ Plain istore_1
    -- 2: the next message, or else the return
    ∷ Plain iload_1 ∷ Pair sipush messages ∷ Pair if_icmpge (28 + long)
    ∷ Plain aload_0 ∷ Pair getfield 14 ∷ Pair invokevirtual 28 ∷ Pair checkcast 34 ∷ Plain astore_2 ∷ [])

unfoldable pub giving : ℕ → List ℕ
giving long = code_of (
    Plain aload_0 ∷ Pair getfield 16 ∷ Plain aload_2 ∷ Pair invokevirtual 32
    ∷ Two iinc 1 1 ∷ Pair goto (back (29 + long))
    ∷ Plain return ∷ [])

unfoldable pub stage_code : ℕ → Stage → List ℕ
stage_code messages stage =
    let body = operation_code stage.operation stage.number in
    taking messages (length body) ++ (body ++ giving (length body))

-- at 2 there is the count, behind the operation the node too, and at the return the count alone
unfoldable pub stage_frames : ℕ → List Frame
stage_frames long = Append 2 (Integer ∷ []) ∷ Append (17 + long) (Object 34 ∷ []) ∷ Chop 1 13 ∷ []

unfoldable pub stage_file : ℕ → ℕ → Stage → ClassFile
stage_file k messages stage =
    class_file (stage_pool k) [] (field 5 6 ∷ field 7 6 ∷ []) (
    method 0 8 9 (code_attribute 18 2 3 stage_constructor [] ∷ [])
    ∷ method public_flag 17 10 (
    code_attribute 18 4 4 (stage_code messages stage) (frames_attribute 22 (stage_frames (length (operation_code stage.operation stage.number))) ∷ [])
    ∷ exceptions_attribute 19 21 ∷ [])
    ∷ [])
