-- The class `D/Main` of the demo (own).
--
--     class Main extends Task {
--         void execute() {
--             Mailbox b0 = new Mailbox(), b1 = new Mailbox(), ..;
--             new S1(b0, b1).start(); new S2(b1, b2).start(); ..
--             for (int j = 0; j < m; j++) {
--                 Node n = null;
--                 for (int i = 0; i <= j % 8; i++) n = new Node(j, n);
--                 b0.put(n);
--             }
--             for (int j = 0; j < m; j++) {
--                 Node n = (Node) last.get();
--                 int sum = 0;
--                 while (n != null) { sum = sum + n.v; n = n.next; }
--                 Sys.print(sum);
--             }
--         }
--     }
use Rattle.std.specs.Prelude.{ℕ, zero, suc, ◌+◌, ◌*◌, List, [], ◌∷◌, ◌++◌, codes}
use Rattle.kilim_class_pool.specs.declared.entry.Entry.{Entry}
use Rattle.kilim_class_pool.specs.declared.entry.Entry.TheVariants.{Utf8, Class, Fieldref, Methodref, NameAndType}
use Rattle.kilim_class_attributes.specs.declared.parts.frame.Frame.{Frame}
use Rattle.kilim_class_attributes.specs.declared.parts.frame.Frame.TheVariants.{Same, Full}
use Rattle.kilim_class_attributes.specs.declared.parts.frame.VerificationType.{VerificationType}
use Rattle.kilim_class_attributes.specs.declared.parts.frame.VerificationType.TheVariants.{Integer, Object}
use Rattle.kilim_class_file.specs.declared.class_file.ClassFile.{ClassFile}
use Rattle.kilim_demo.specs.declared.assembler.Op.TheVariants.{Plain, Byte, Pair, Two}
use Rattle.kilim_demo.specs.Assembler.{code_of, back, aconst_null, iconst_0, bipush, sipush, aload, iload_1, iload_3, aload_0, aload_2, astore, istore_1, istore_3, astore_2, dup, iadd, irem, iinc, if_icmpge, if_icmpgt, goto, return, getfield, invokevirtual, invokespecial, invokestatic, new, checkcast, ifnull}
use Rattle.kilim_demo.specs.Parts.{class_file, code_attribute, exceptions_attribute, frames_attribute, method, public_flag}
use Rattle.kilim_demo.specs.Stage.{stage_name}

unfoldable pub main_entries : List Entry
main_entries =
    Utf8 (codes "D/Main") ∷ Class 1 ∷ Utf8 (codes "kilim/Task") ∷ Class 3
    -- 5: Task.<init>()V is 8
    ∷ Utf8 (codes "<init>") ∷ Utf8 (codes "()V") ∷ NameAndType 5 6 ∷ Methodref 4 7
    ∷ Utf8 (codes "Code") ∷ Utf8 (codes "execute") ∷ Utf8 (codes "Exceptions") ∷ Utf8 (codes "kilim/Pausable") ∷ Class 12
    ∷ Utf8 (codes "StackMapTable")
    -- 15: the class Mailbox is 16, its constructor is 17, get is 21, put is 25
    ∷ Utf8 (codes "kilim/Mailbox") ∷ Class 15 ∷ Methodref 16 7
    ∷ Utf8 (codes "get") ∷ Utf8 (codes "()Lkilim/Message;") ∷ NameAndType 18 19 ∷ Methodref 16 20
    ∷ Utf8 (codes "put") ∷ Utf8 (codes "(Lkilim/Message;)V") ∷ NameAndType 22 23 ∷ Methodref 16 24
    -- 26: the class Node is 27, its constructor is 30, v is 34, next is 38
    ∷ Utf8 (codes "D/Node") ∷ Class 26
    ∷ Utf8 (codes "(ILD/Node;)V") ∷ NameAndType 5 28 ∷ Methodref 27 29
    ∷ Utf8 (codes "v") ∷ Utf8 (codes "I") ∷ NameAndType 31 32 ∷ Fieldref 27 33
    ∷ Utf8 (codes "next") ∷ Utf8 (codes "LD/Node;") ∷ NameAndType 35 36 ∷ Fieldref 27 37
    -- 39: start is 41, print is 47, 49 is what constructors of stages are named as
    ∷ Utf8 (codes "start") ∷ NameAndType 39 6 ∷ Methodref 4 40
    ∷ Utf8 (codes "kilim/Sys") ∷ Class 42
    ∷ Utf8 (codes "print") ∷ Utf8 (codes "(I)V") ∷ NameAndType 44 45 ∷ Methodref 43 46
    ∷ Utf8 (codes "(Lkilim/Mailbox;Lkilim/Mailbox;)V") ∷ NameAndType 5 48
    ∷ []

-- of stage k, from 1 on, the class, and its constructor right behind it
abbrev pub class_index : ℕ → ℕ
class_index k = 48 + 3 * k

abbrev pub constructor_index : ℕ → ℕ
constructor_index k = 49 + 3 * k

-- the entries of so many stages from stage k on
abbrev pub stage_entries_from : ℕ → ℕ → List Entry
stage_entries_from k zero = []
stage_entries_from k (suc n) = Utf8 (stage_name k) ∷ Class (47 + 3 * k) ∷ Methodref (class_index k) 49 ∷ stage_entries_from (k + 1) n

unfoldable pub main_pool : ℕ → List Entry
main_pool stages = main_entries ++ stage_entries_from 1 stages

unfoldable pub main_constructor : List ℕ
main_constructor = code_of (Plain aload_0 ∷ Pair invokespecial 8 ∷ Plain return ∷ [])

-- local 1 counts messages, 2 is a node, 3 counts nodes or is a sum, and mailbox k is in local 4 + k
abbrev pub box_local : ℕ → ℕ
box_local k = 4 + k

-- so many mailboxes from mailbox k on
abbrev pub boxes_from : ℕ → ℕ → List ℕ
boxes_from k zero = []
boxes_from k (suc n) = code_of (Pair new 16 ∷ Plain dup ∷ Pair invokespecial 17 ∷ Byte astore (box_local k) ∷ []) ++ boxes_from (k + 1) n

-- so many stages from stage k + 1 on are made and started: it takes from mailbox k, and puts into the next one
abbrev pub starts_from : ℕ → ℕ → List ℕ
starts_from k zero = []
starts_from k (suc n) =
    code_of (
    Pair new (class_index (k + 1)) ∷ Plain dup ∷ Byte aload (box_local k) ∷ Byte aload (box_local (k + 1))
    ∷ Pair invokespecial (constructor_index (k + 1)) ∷ Pair invokevirtual 41 ∷ [])
    ++ starts_from (k + 1) n

unfoldable pub beginning : List ℕ
beginning = code_of (Plain iconst_0 ∷ Plain istore_1 ∷ Plain aconst_null ∷ Plain astore_2 ∷ Plain iconst_0 ∷ Plain istore_3 ∷ [])

-- The places in these are counted from the first of them.
unfoldable pub putting : ℕ → List ℕ
putting messages = code_of (
    -- 0: message j, or else 47
    Plain iload_1 ∷ Pair sipush messages ∷ Pair if_icmpge 43
    ∷ Plain aconst_null ∷ Plain astore_2 ∷ Plain iconst_0 ∷ Plain istore_3
    -- 11: one node more, or else 35
    ∷ Plain iload_3 ∷ Plain iload_1 ∷ Byte bipush 8 ∷ Plain irem ∷ Pair if_icmpgt 19
    ∷ Pair new 27 ∷ Plain dup ∷ Plain iload_1 ∷ Plain aload_2 ∷ Pair invokespecial 30 ∷ Plain astore_2
    ∷ Two iinc 3 1 ∷ Pair goto (back 21)
    -- 35
    ∷ Byte aload (box_local 0) ∷ Plain aload_2 ∷ Pair invokevirtual 25
    ∷ Two iinc 1 1 ∷ Pair goto (back 44) ∷ [])

unfoldable pub printing : ℕ → ℕ → List ℕ
printing stages messages = code_of (
    -- 47
    Plain iconst_0 ∷ Plain istore_1
    -- 49: the next list, or else 96
    ∷ Plain iload_1 ∷ Pair sipush messages ∷ Pair if_icmpge 43
    ∷ Byte aload (box_local stages) ∷ Pair invokevirtual 21 ∷ Pair checkcast 27 ∷ Plain astore_2 ∷ Plain iconst_0 ∷ Plain istore_3
    -- 67: the next node, or else 86
    ∷ Plain aload_2 ∷ Pair ifnull 18
    ∷ Plain iload_3 ∷ Plain aload_2 ∷ Pair getfield 34 ∷ Plain iadd ∷ Plain istore_3
    ∷ Plain aload_2 ∷ Pair getfield 38 ∷ Plain astore_2 ∷ Pair goto (back 16)
    -- 86
    ∷ Plain iload_3 ∷ Pair invokestatic 47
    ∷ Two iinc 1 1 ∷ Pair goto (back 44)
    -- 96
    ∷ Plain return ∷ [])

unfoldable pub main_code : ℕ → ℕ → List ℕ
main_code stages messages = beginning ++ (boxes_from 0 (stages + 1) ++ (starts_from 0 stages ++ (putting messages ++ printing stages messages)))

-- where the messages are put: behind 6 bytes, 9 for each mailbox and 14 for each stage
abbrev pub putting_place : ℕ → ℕ
putting_place stages = 15 + 23 * stages

abbrev pub box_types : ℕ → List VerificationType
box_types zero = []
box_types (suc n) = Object 16 ∷ box_types n

-- All frames have the same locals. They stand at 0, 11, 35, 47, 49, 67, 86 and 96 behind the beginning.
unfoldable pub main_frames : ℕ → List Frame
main_frames stages =
    Full (putting_place stages) (Object 2 ∷ Integer ∷ Object 27 ∷ Integer ∷ box_types (stages + 1)) []
    ∷ Same 10 ∷ Same 23 ∷ Same 11 ∷ Same 1 ∷ Same 17 ∷ Same 18 ∷ Same 9 ∷ []

unfoldable pub main_file : ℕ → ℕ → ClassFile
main_file stages messages =
    class_file (main_pool stages) [] [] (
    method 0 5 6 (code_attribute 9 1 1 main_constructor [] ∷ [])
    ∷ method public_flag 10 6 (
    code_attribute 9 4 (5 + stages) (main_code stages messages) (frames_attribute 14 (main_frames stages) ∷ [])
    ∷ exceptions_attribute 11 13 ∷ [])
    ∷ [])
