-- Exceptions: what is raised, which entry of an exception table catches it, and which frames are left then (JVMS 2.10, 4.7.3,
-- 6.5 athrow).
--
-- An exception goes to the first entry, in the order of the table, of the top frame whose range has the place of the
-- instruction and which catches the object's class; the object is then alone on the stack. Where there is none, the frame is
-- dropped, and the one below is tried at its call. Where no frame is left, the task ends.
use Rattle.std.specs.Prelude.{◌≡◌, ◌⊎◌, ℕ, Bool, true, ◌&&◌, ◌==◌, if◌then◌else◌, List, [], ◌∷◌, Option, Some, None, codes}
use Rattle.std.specs.List.{list_all, list_any}
use Rattle.std.specs.Str.{bytes_eq}
use Rattle.kilim_program.specs.declared.class.Handler.{Handler}
use Rattle.kilim_program.specs.declared.class.Method.{Method}
use Rattle.kilim_program.specs.declared.instr.Instr.{Instr}
use Rattle.kilim_program.specs.declared.instr.Instr.TheVariants.{Invokevirtual}
use Rattle.kilim_program.specs.declared.names.ClassId.{ClassId}
use Rattle.kilim_program.specs.declared.value.Value.{Value}
use Rattle.kilim_program.specs.Program.{Program}
pub use Rattle.kilim_program.specs.Handlers.{covers, is_throwable}
use Rattle.kilim_program.specs.Lengths.{fetched}
use Rattle.kilim_program.specs.Names.{◌>>=◌, class_name, class_named, is_empty, line_of, method_at}
use Rattle.kilim_run_state.specs.declared.cause.EndCause.{EndCause}
use Rattle.kilim_run_state.specs.declared.cause.EndCause.TheVariants as cause
use Rattle.kilim_run_state.specs.Machine.{Activation, stands_behind}

-- ---- which classes stand for a word, and which word for a class

-- an index past the end: of an array, of a text, and of the numbers of the command line
abbrev pub array_index : List ℕ
array_index = codes "java/lang/ArrayIndexOutOfBoundsException"

abbrev pub text_index : List ℕ
text_index = codes "java/lang/StringIndexOutOfBoundsException"

abbrev pub other_index : List ℕ
other_index = codes "java/lang/IndexOutOfBoundsException"

-- the classes with whose objects a task ends by another word than `thrown`; a subclass of theirs is none of them
abbrev pub words : List (List ℕ × EndCause)
words =
    (codes "java/lang/NullPointerException", cause.Null)
    ∷ (array_index, cause.Index)
    ∷ (text_index, cause.Index)
    ∷ (other_index, cause.Index)
    ∷ (codes "java/lang/NegativeArraySizeException", cause.Size)
    ∷ (codes "java/lang/ClassCastException", cause.Cast)
    ∷ (codes "java/lang/ArrayStoreException", cause.Store)
    ∷ (codes "java/lang/ArithmeticException", cause.Zero)
    ∷ []

abbrev pub word_in : List (List ℕ × EndCause) → List ℕ → EndCause
word_in [] name = cause.Thrown
word_in (entry ∷ entries) name = if bytes_eq name entry.0 then entry.1 else word_in entries name

-- the cause with which a task ends where an object of that class is thrown and nothing catches it
abbrev pub thrown_cause : Program → ClassId → EndCause
thrown_cause p c = word_in words (class_name p c)

-- The class of what is raised for a cause; `index` is that of an index. Other causes are raised nowhere.
abbrev pub raised_name : List ℕ → EndCause → Option (List ℕ)
raised_name index cause.Null = Some (codes "java/lang/NullPointerException")
raised_name index cause.Index = Some index
raised_name index cause.Size = Some (codes "java/lang/NegativeArraySizeException")
raised_name index cause.Cast = Some (codes "java/lang/ClassCastException")
raised_name index cause.Store = Some (codes "java/lang/ArrayStoreException")
raised_name index cause.Zero = Some (codes "java/lang/ArithmeticException")
raised_name index why = None

-- Nothing catches it in a program that hasn't the class.
abbrev pub raised_class : Program → List ℕ → EndCause → Option ClassId
raised_class p index why = raised_name index why >>= class_named p

-- The class of an index that the instruction of a frame raises: `charAt` is the one virtual call that raises one by itself.
abbrev pub index_by : Option (Instr × ℕ) → List ℕ
index_by (Some (Invokevirtual m, next)) = text_index
index_by found = array_index

abbrev pub index_in : Option Method → ℕ → List ℕ
index_in None place = array_index
index_in (Some m) place = index_by (fetched m.code m.code_length place)

abbrev pub index_at : Program → Activation → List ℕ
index_at p a = index_in (method_at p a.method) a.place

-- ---- tables

-- an entry without a catch type catches everything, another one the objects of its class and of those below
abbrev pub catches_class : Program → Option ClassId → ClassId → Bool
catches_class p None c = true
catches_class p (Some d) c = list_any (λ (e : ClassId). e.0 == d.0) (line_of p c)

abbrev pub catches : Program → ClassId → ℕ → Handler → Bool
catches p c at h = covers h at && catches_class p h.catch c

-- the first entry that catches an object of that class at that place
abbrev pub handler_of : Program → ClassId → ℕ → List Handler → Option Handler
handler_of p c at [] = None
handler_of p c at (h ∷ hs) = if catches p c at h then Some h else handler_of p c at hs

abbrev pub IsEntry : List Handler → Handler → Type 0
IsEntry [] h = ⊥
IsEntry (x ∷ xs) h = (x ≡ h) ⊎ IsEntry xs h

-- no method has an exception table
abbrev pub NoTables : Program → Type 0
NoTables p = list_all (λ (m : Method). is_empty m.handlers) p.methods ≡ true

-- ---- frames

-- the frame at a handler: the object alone on its stack
abbrev pub lands : Activation → Value → Handler → Activation
lands a v h = record { method = a.method; place = h.at; locals = a.locals; stack = v ∷ [] }

abbrev pub caught_by : Activation → Value → Option Handler → Option Activation
caught_by a v None = None
caught_by a v (Some h) = Some (lands a v h)

abbrev pub caught_in : Program → ClassId → Value → Activation → ℕ → Option Method → Option Activation
caught_in p c v a at None = None
caught_in p c v a at (Some m) = caught_by a v (handler_of p c at m.handlers)

-- the instruction behind which a frame stands
abbrev pub call_in : Option Method → ℕ → Option (ℕ × Instr)
call_in None place = None
call_in (Some m) place = stands_behind m.code m.code_length place

abbrev pub caught_behind : Program → ClassId → Value → Activation → Option (ℕ × Instr) → Option Activation
caught_behind p c v a None = None
caught_behind p c v a (Some e) = caught_in p c v a e.0 (method_at p a.method)

abbrev pub or_below : Option Activation → (rest unwound : List Activation) → List Activation
or_below None rest unwound = unwound
or_below (Some a) rest unwound = a ∷ rest

-- Frames that stand behind their calls, the top first: those from the first that catches the object on, or none.
abbrev pub unwound : Program → ClassId → Value → List Activation → List Activation
unwound p c v [] = []
unwound p c v (a ∷ rest) = or_below (caught_behind p c v a (call_in (method_at p a.method) a.place)) rest (unwound p c v rest)

-- the same, where the top frame stands at the instruction that throws
abbrev pub thrown : Program → ClassId → Value → Activation → List Activation → List Activation
thrown p c v top below = or_below (caught_in p c v top top.place (method_at p top.method)) below (unwound p c v below)
