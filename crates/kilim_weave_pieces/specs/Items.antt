-- Which items of woven code those of a list stand for.
use Rattle.std.specs.Prelude.{◌≡◌, ℕ, ◌+◌, ◌*◌, Bool, true, false, List, [], ◌∷◌}
use Rattle.kilim_program.specs.declared.instr.Instr.{Instr}
use Rattle.kilim_program.specs.declared.instr.Instr.TheVariants.{Iload, Lload, Aload, Istore, Lstore, Astore, Tableswitch, Lookupswitch, Ifeq, Ifne, Iflt, Ifge, Ifgt, Ifle, Goto, Ifnull, Ifnonnull, GotoW, IfIcmpeq, IfIcmpne, IfIcmplt, IfIcmpge, IfIcmpgt, IfIcmple, IfAcmpeq, IfAcmpne}
use Rattle.kilim_program.specs.Lengths.{switch_padding}
use Rattle.kilim_weave_spec.specs.Woven as form
use Rattle.kilim_weave_pieces.specs.declared.item.Item.{Item}
use Rattle.kilim_weave_pieces.specs.declared.item.Item.TheVariants.{Stands, Adds}
use Rattle.kilim_weave_pieces.specs.declared.item.Items.{Items}
use Rattle.kilim_weave_pieces.specs.declared.item.Label.{Label}
use Rattle.kilim_weave_pieces.specs.declared.item.Label.TheVariants.{Old, Resumes}
use Rattle.kilim_weave_pieces.specs.declared.item.Size.{Size}
use Rattle.kilim_weave_pieces.specs.declared.item.Size.TheVariants.{Fixed, Table, Lookup}

abbrev pub label_of : Label → form.Label
label_of (Old place) = form.Old place
label_of (Resumes number) = form.Resumes number

-- the length of an instruction at a place
abbrev pub size_of : Size → ℕ → ℕ
size_of (Fixed n) = λ place. n
size_of (Table targets) = λ place. 13 + (switch_padding place + 4 * targets)
size_of (Lookup pairs) = λ place. 9 + (switch_padding place + 8 * pairs)

abbrev pub item_of : Item → form.Item
item_of (Stands label frame) = form.Mark (label_of label) frame
item_of (Adds instr size counted) = form.Does instr (size_of size) counted

-- a list whose last item comes first
abbrev pub items_on : List Item → List form.Item → List form.Item
items_on [] items = items
items_on (i ∷ is) items = items_on is (item_of i ∷ items)

-- the items that were put, in their order
abbrev pub items_of : Items → List form.Item
items_of s = items_on s.reversed.items []

-- whether an instruction keeps its length
abbrev pub is_kept : Instr → Bool
is_kept (Iload slot) = false
is_kept (Lload slot) = false
is_kept (Aload slot) = false
is_kept (Istore slot) = false
is_kept (Lstore slot) = false
is_kept (Astore slot) = false
is_kept (Tableswitch default low targets) = false
is_kept (Lookupswitch default pairs) = false
is_kept i = true

-- whether an instruction has a target
abbrev pub has_target : Instr → Bool
has_target (Ifeq to) = true
has_target (Ifne to) = true
has_target (Iflt to) = true
has_target (Ifge to) = true
has_target (Ifgt to) = true
has_target (Ifle to) = true
has_target (Goto to) = true
has_target (Ifnull to) = true
has_target (Ifnonnull to) = true
has_target (GotoW to) = true
has_target (IfIcmpeq to) = true
has_target (IfIcmpne to) = true
has_target (IfIcmplt to) = true
has_target (IfIcmpge to) = true
has_target (IfIcmpgt to) = true
has_target (IfIcmple to) = true
has_target (IfAcmpeq to) = true
has_target (IfAcmpne to) = true
has_target (Tableswitch default low targets) = true
has_target (Lookupswitch default pairs) = true
has_target i = false

-- where a jump goes, 0 for others
abbrev pub target_of : Instr → ℕ
target_of (Ifeq to) = to
target_of (Ifne to) = to
target_of (Iflt to) = to
target_of (Ifge to) = to
target_of (Ifgt to) = to
target_of (Ifle to) = to
target_of (Goto to) = to
target_of (Ifnull to) = to
target_of (Ifnonnull to) = to
target_of (GotoW to) = to
target_of (IfIcmpeq to) = to
target_of (IfIcmpne to) = to
target_of (IfIcmplt to) = to
target_of (IfIcmpge to) = to
target_of (IfIcmpgt to) = to
target_of (IfIcmple to) = to
target_of (IfAcmpeq to) = to
target_of (IfAcmpne to) = to
target_of i = 0

-- i is j with its target moved, wherever that of j comes to stand at this place
abbrev pub Moves : ℕ → Instr → Instr → Type 0
Moves to i j = (at : ℕ → ℕ) → at (target_of j) ≡ to → i ≡ form.moved_instr at j
