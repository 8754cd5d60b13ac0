-- The table of steps by what an instruction does, as the code reads it: no clause of `transfer` cites this.
use Rattle.std.specs.Prelude.{ℕ, suc, Bool, true, false, List, [], ◌∷◌, ◌++◌, Option, Some, None, length, drop, replicate}
use Rattle.kilim_program.specs.declared.class.Method.{Method}
use Rattle.kilim_program.specs.declared.ty.Kind.TheVariants as kind
use Rattle.kilim_program.specs.declared.class.Field.{Field}
use Rattle.kilim_program.specs.declared.ty.Ty.{Ty}
use Rattle.kilim_program.specs.declared.verified.VType.{VType}
use Rattle.kilim_program.specs.declared.verified.VType.TheVariants.{Object}
use Rattle.kilim_program.specs.Program.{Program}
use Rattle.kilim_program.specs.Names.{method_at, field_of}
use Rattle.kilim_program.specs.Kinds.{class_kind, kind_of}
use Rattle.kilim_program.specs.declared.instr.Instr.{Instr}
use Rattle.kilim_program.specs.declared.instr.Instr.TheVariants.{Nop, Iinc, Goto, GotoW, AconstNull, Iconst, Lconst, Bipush, Sipush, Iload, Lload, Ldc, LdcW, Ldc2W, Ineg, Lneg, I2l, L2i, I2b, I2c, I2s, Arraylength, Instanceof, Ifeq, Ifne, Iflt, Ifge, Ifgt, Ifle, Ifnull, Ifnonnull, Tableswitch, Lookupswitch, IfIcmpeq, IfIcmpne, IfIcmplt, IfIcmpge, IfIcmpgt, IfIcmple, IfAcmpeq, IfAcmpne, Iastore, Lastore, Bastore, Castore, Sastore, Aload, Astore, Istore, Lstore, Pop, Pop2, Dup, DupX1, DupX2, Dup2, Dup2X1, Dup2X2, Swap, New, Newarray, Anewarray, Getstatic, Getfield, Putfield, Aaload, Aastore, Invokevirtual, Invokespecial, Invokestatic, Areturn, Ireturn, Lreturn, Return, Checkcast, Athrow}
use Rattle.kilim_type_spec.specs.Step.{Types, peek, array_ty, field_row}
use Rattle.kilim_type_spec.specs.Step as type
use Rattle.kilim_isolation_graph.specs.declared.graph.Graph.{Graph}
use Rattle.kilim_isolation_graph.specs.Graphs.{slot, with_slot, push, popped}
use Rattle.kilim_isolation_rules.specs.declared.action.Action.{Action}
use Rattle.kilim_isolation_rules.specs.declared.action.Action.TheVariants.{Passes, LoadsReference, StoresReference, StoresValue, Shuffles, MakesObject, MakesValues, MakesReferences, GetsStatic, GetsField, PutsField, GetsElement, PutsElement, Calls, ReturnsReference, Returns, Casts}
use Rattle.kilim_isolation_rules.specs.declared.action.Words.{Words}
use Rattle.kilim_isolation_rules.specs.declared.action.Words.TheVariants.{Drops, Copies, Swaps}
use Rattle.kilim_isolation_rules.specs.declared.deed.Deed.{Deed}
use Rattle.kilim_isolation_rules.specs.Marks.{names_gone, plain, given}
use Rattle.kilim_isolation_rules.specs.Fields.{gets_field, puts_field, gets_element, puts_element}
use Rattle.kilim_isolation_rules.specs.Calls.{calls}
use Rattle.kilim_isolation_rules.specs.Rules.{by_types, passed_by, shuffled, returns, cast_mixes}

abbrev pub form_of : Words → type.Form
form_of (Drops n) = type.Drops n
form_of (Copies n passed) = type.Copies n passed
form_of Swaps = type.Swaps

-- a store of a value; a long takes two locals
abbrev pub value_stored : ℕ → Bool → Graph → Graph
value_stored k true g = record (popped 1 g) { locals = with_slot (with_slot g.locals k None) (suc k) None }
value_stored k false g = record (popped 1 g) { locals = with_slot g.locals k None }

abbrev pub reference_loaded : Graph → ℕ → Deed
reference_loaded g k = record (plain (push (slot g.locals k) g)) { gone = names_gone g (slot g.locals k) }

abbrev pub reference_stored : Graph → ℕ → Deed
reference_stored g k = plain (record (popped 1 g) { locals = with_slot g.locals k (slot g.stack 0) })

abbrev pub words_shuffled : Graph → (types : List VType) → Words → Deed
words_shuffled g ts words = plain (record g { stack = shuffled (form_of words) ts g.stack })

abbrev pub references_made : Program → Graph → Ty → Deed
references_made p g ty = plain (given (kind_of p (array_ty ty)) (popped 1 g))

abbrev pub cast : Program → Graph → (types : List VType) → Ty → Deed
cast p g ts ty = record (plain g) { mixed = cast_mixes p (peek ts 0) (Object ty) }

abbrev pub deed_by : Program → Method → Graph → Types → Action → Deed
deed_by p m g f (Passes takes gives) = plain (passed_by takes gives g)
deed_by p m g f (LoadsReference k) = reference_loaded g k
deed_by p m g f (StoresReference k) = reference_stored g k
deed_by p m g f (StoresValue k is_long) = plain (value_stored k is_long g)
deed_by p m g f (Shuffles words) = words_shuffled g f.stack words
deed_by p m g f (MakesObject c) = plain (given (class_kind p c) g)
deed_by p m g f MakesValues = plain (given kind.Tree (popped 1 g))
deed_by p m g f (MakesReferences ty) = references_made p g ty
deed_by p m g f (GetsStatic field) = plain (by_types g f (field_row (Getstatic field) m (field_of p field)))
deed_by p m g f (GetsField field) = gets_field p g field (field_of p field)
deed_by p m g f (PutsField field) = puts_field p g f.stack field (field_of p field)
deed_by p m g f GetsElement = gets_element p g f.stack
deed_by p m g f PutsElement = puts_element p g f.stack
deed_by p m g f (Calls id) = calls p g f.stack (method_at p id)
deed_by p m g f ReturnsReference = returns p m g f.stack
deed_by p m g f Returns = plain (record g { stack = [] })
deed_by p m g f (Casts ty) = cast p g f.stack ty

-- ---- which instruction does what

-- of those that only pass values: how many items they take and give; sums, comparisons and loads of elements two and one
unfoldable pub passing_action : Instr → Action
passing_action Nop = Passes 0 0
passing_action (Iinc _ _) = Passes 0 0
passing_action (Goto _) = Passes 0 0
passing_action (GotoW _) = Passes 0 0
passing_action AconstNull = Passes 0 1
passing_action (Iconst _) = Passes 0 1
passing_action (Lconst _) = Passes 0 1
passing_action (Bipush _) = Passes 0 1
passing_action (Sipush _) = Passes 0 1
passing_action (Iload _) = Passes 0 1
passing_action (Lload _) = Passes 0 1
passing_action (Ldc _) = Passes 0 1
passing_action (LdcW _) = Passes 0 1
passing_action (Ldc2W _) = Passes 0 1
passing_action Ineg = Passes 1 1
passing_action Lneg = Passes 1 1
passing_action I2l = Passes 1 1
passing_action L2i = Passes 1 1
passing_action I2b = Passes 1 1
passing_action I2c = Passes 1 1
passing_action I2s = Passes 1 1
passing_action Arraylength = Passes 1 1
passing_action (Instanceof _) = Passes 1 1
passing_action (Ifeq _) = Passes 1 0
passing_action (Ifne _) = Passes 1 0
passing_action (Iflt _) = Passes 1 0
passing_action (Ifge _) = Passes 1 0
passing_action (Ifgt _) = Passes 1 0
passing_action (Ifle _) = Passes 1 0
passing_action (Ifnull _) = Passes 1 0
passing_action (Ifnonnull _) = Passes 1 0
passing_action (Tableswitch _ _ _) = Passes 1 0
passing_action (Lookupswitch _ _) = Passes 1 0
passing_action Athrow = Passes 1 0
passing_action (IfIcmpeq _) = Passes 2 0
passing_action (IfIcmpne _) = Passes 2 0
passing_action (IfIcmplt _) = Passes 2 0
passing_action (IfIcmpge _) = Passes 2 0
passing_action (IfIcmpgt _) = Passes 2 0
passing_action (IfIcmple _) = Passes 2 0
passing_action (IfAcmpeq _) = Passes 2 0
passing_action (IfAcmpne _) = Passes 2 0
passing_action Iastore = Passes 3 0
passing_action Lastore = Passes 3 0
passing_action Bastore = Passes 3 0
passing_action Castore = Passes 3 0
passing_action Sastore = Passes 3 0
passing_action _ = Passes 2 1

-- of the pop, dup and swap forms, or of those above
unfoldable pub word_action : Instr → Action
word_action Pop = Shuffles (Drops 1)
word_action Pop2 = Shuffles (Drops 2)
word_action Dup = Shuffles (Copies 1 0)
word_action DupX1 = Shuffles (Copies 1 1)
word_action DupX2 = Shuffles (Copies 1 2)
word_action Dup2 = Shuffles (Copies 2 0)
word_action Dup2X1 = Shuffles (Copies 2 1)
word_action Dup2X2 = Shuffles (Copies 2 2)
word_action Swap = Shuffles Swaps
word_action i = passing_action i

-- of an instruction
unfoldable pub action : Instr → Action
action (Aload slot) = LoadsReference slot
action (Astore slot) = StoresReference slot
action (Istore slot) = StoresValue slot false
action (Lstore slot) = StoresValue slot true
action (New class) = MakesObject class
action (Newarray _) = MakesValues
action (Anewarray ty) = MakesReferences ty
action (Getstatic field) = GetsStatic field
action (Getfield field) = GetsField field
action (Putfield field) = PutsField field
action Aaload = GetsElement
action Aastore = PutsElement
action (Invokevirtual id) = Calls id
action (Invokespecial id) = Calls id
action (Invokestatic id) = Calls id
action Areturn = ReturnsReference
action Ireturn = Returns
action Lreturn = Returns
action Return = Returns
action (Checkcast ty) = Casts ty
action i = word_action i
