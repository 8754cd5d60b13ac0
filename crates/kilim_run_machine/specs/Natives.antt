-- The methods of built-in classes, which have no code. A few of them the table of instructions does itself: the constructors
-- without parameters, the methods of strings, `kilim/Sys.take`, and what keeps and gives the message of an exception. Each
-- other one reaches out of the task or into its fiber, so it is handed out: what it does is no matter of one instruction.
use Rattle.std.specs.Prelude.{ℕ, Bool, false, ◌&&◌, ◌||◌, not, if◌then◌else◌, List, [], ◌∷◌, Option, Some, None, codes}
use Rattle.std.specs.Str.{bytes_eq}
use Rattle.kilim_program.specs.declared.class.Method.{Method}
use Rattle.kilim_program.specs.Program.{Program}
use Rattle.kilim_program.specs.declared.names.MethodId.{MethodId}
use Rattle.kilim_program.specs.declared.ty.Ty.{Ty}
use Rattle.kilim_program.specs.Lengths.{is_reference}
use Rattle.kilim_program.specs.Names.{◌>>=◌, method_at, class_name, is_empty}

-- ---- what the table does itself

-- a constructor of a built-in class without parameters; it does nothing more
abbrev pub is_built_in_constructor : Method → Bool
is_built_in_constructor method = method.built_in && (bytes_eq method.name (codes "<init>") && is_empty method.params)

-- a method of a built-in class of that name
abbrev pub is_of : (class name : List ℕ) → Method → Bool
is_of class name method = method.built_in && bytes_eq class name

abbrev pub is_built_in_of : Program → List ℕ → Method → Bool
is_built_in_of p name method = is_of (class_name p method.owner) name method

abbrev pub is_text_method : Program → Method → Bool
is_text_method p method = is_built_in_of p (codes "java/lang/String") method

abbrev pub is_take : Program → Method → Bool
is_take p method = is_built_in_of p (codes "kilim/Sys") method && bytes_eq method.name (codes "take")

-- there is one parameter, and it is a reference
abbrev pub takes_object : List Ty → Bool
takes_object [] = false
takes_object (ty ∷ tys) = is_reference ty && is_empty tys

-- The constructor of an exception that is given the message; among the built-in constructors no other takes a reference.
abbrev pub is_message_constructor : Method → Bool
is_message_constructor method = method.built_in && (bytes_eq method.name (codes "<init>") && takes_object method.params)

-- No other built-in method has this name.
abbrev pub is_get_message : Method → Bool
is_get_message method = method.built_in && bytes_eq method.name (codes "getMessage")

abbrev pub is_of_message : Method → Bool
is_of_message method = is_message_constructor method || is_get_message method

-- ---- what is handed out

-- of a class of that name
abbrev pub is_handed_out_of : List ℕ → Method → Bool
is_handed_out_of class method =
    method.built_in && not (is_built_in_constructor method || (is_of class (codes "java/lang/String") method || ((is_of class (codes "kilim/Sys") method && bytes_eq method.name (codes "take")) || is_of_message method)))

abbrev pub is_handed_out : Program → Method → Bool
is_handed_out p method = is_handed_out_of (class_name p method.owner) method

-- the members of `kilim/Fiber`, in woven form
pub data FiberMember : Type 0 where
  Pc : FiberMember
  Down : FiberMember
  Up : FiberMember
  -- of an int, of a long and of a reference
  Save : FiberMember
  Place : FiberMember
  -- of an int, of a long and of a reference
  Restore : FiberMember
  Receiver : FiberMember

pub data Native : Type 0 where
  -- `kilim/Task.execute` of the built-in class, which does nothing
  Execute : Native
  Start : Native
  -- a put that ends the task where the mailbox is full, and one that waits there
  Put : Native
  PutWait : Native
  -- the constructor that bounds a mailbox
  Bound : Native
  Get : Native
  Getnb : Native
  -- of an int, of a long or of a string
  Print : Native
  Yield : Native
  ArgCount : Native
  Arg : Native
  OfFiber : (member : FiberMember) → Native

-- By the name of the class and that of the method, among the methods that are handed out: of a mailbox's two constructors one is.
abbrev pub natives : List (List ℕ × List ℕ × Native)
natives =
    (codes "kilim/Task", codes "start", Start)
    ∷ (codes "kilim/Task", codes "execute", Execute)
    ∷ (codes "kilim/Mailbox", codes "put", Put)
    ∷ (codes "kilim/Mailbox", codes "putw", PutWait)
    ∷ (codes "kilim/Mailbox", codes "<init>", Bound)
    ∷ (codes "kilim/Mailbox", codes "get", Get)
    ∷ (codes "kilim/Mailbox", codes "getnb", Getnb)
    ∷ (codes "kilim/Sys", codes "print", Print)
    ∷ (codes "kilim/Sys", codes "yield", Yield)
    ∷ (codes "kilim/Sys", codes "argCount", ArgCount)
    ∷ (codes "kilim/Sys", codes "arg", Arg)
    ∷ (codes "kilim/Fiber", codes "pc", OfFiber Pc)
    ∷ (codes "kilim/Fiber", codes "down", OfFiber Down)
    ∷ (codes "kilim/Fiber", codes "up", OfFiber Up)
    ∷ (codes "kilim/Fiber", codes "saveI", OfFiber Save)
    ∷ (codes "kilim/Fiber", codes "saveJ", OfFiber Save)
    ∷ (codes "kilim/Fiber", codes "saveA", OfFiber Save)
    ∷ (codes "kilim/Fiber", codes "place", OfFiber Place)
    ∷ (codes "kilim/Fiber", codes "restI", OfFiber Restore)
    ∷ (codes "kilim/Fiber", codes "restJ", OfFiber Restore)
    ∷ (codes "kilim/Fiber", codes "restA", OfFiber Restore)
    ∷ (codes "kilim/Fiber", codes "receiver", OfFiber Receiver)
    ∷ []

abbrev pub native_named : List (List ℕ × List ℕ × Native) → List ℕ → List ℕ → Option Native
native_named [] class name = None
native_named (n ∷ ns) class name = if bytes_eq class n.0 && bytes_eq name n.1 then Some n.2 else native_named ns class name

-- a method of a class of that name
abbrev pub native_in : List ℕ → Method → Option Native
native_in class method = if is_handed_out_of class method then native_named natives class method.name else None

abbrev pub native_method : Program → Method → Option Native
native_method p method = native_in (class_name p method.owner) method

abbrev pub native_of : Program → MethodId → Option Native
native_of p m = method_at p m >>= native_method p
