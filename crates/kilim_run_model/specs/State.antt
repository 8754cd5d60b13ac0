-- The shared machine: threads over one heap, mailboxes, and a journal. There are no fibers here, no
-- records and no regions.
use Rattle.std.specs.Prelude.{ℕ, ◌+◌, ◌^◌, ◌<◌, nat_le, Bool, false, ◌&&◌, ◌==◌, if◌then◌else◌, List, [], ◌∷◌, ◌++◌, Option, Some, None, length, FitsSigned}
use Rattle.std.specs.Int.{w32}
use Rattle.std.specs.List.{AllByRecursion}
use Rattle.std.specs.FinMap.{empty, insert, get}
use Rattle.kilim_run_state.specs.declared.cause.EndCause.{EndCause}
use Rattle.kilim_program.specs.declared.class.Method.{Method}
use Rattle.kilim_program.specs.Program.{Program}
use Rattle.kilim_program.specs.declared.names.BoxName.{BoxName}
use Rattle.kilim_program.specs.declared.names.ClassId.{ClassId}
use Rattle.kilim_program.specs.declared.names.MethodId.{MethodId}
use Rattle.kilim_run_state.specs.declared.run.Limits.{Limits}
use Rattle.kilim_program.specs.declared.ty.Base.{Base}
use Rattle.kilim_program.specs.declared.ty.Base.TheVariants as base
use Rattle.kilim_run_state.specs.declared.value.Object.{Object}
use Rattle.kilim_program.specs.declared.value.Value.TheVariants.{Ref}
use Rattle.kilim_run_journal.specs.declared.entry.Act.{Act}
use Rattle.kilim_run_journal.specs.declared.entry.Entry.{Entry}
use Rattle.kilim_run_state.specs.Machine.{Objects, Activation}
use Rattle.kilim_program.specs.Names.{◌>>=◌, method_at}
use Rattle.kilim_program.specs.Members.{constructor_of, execute_of, is_fit_main}
use Rattle.kilim_run_state.specs.Objects.{new_object}
use Rattle.kilim_run_machine.specs.Moves.{entered}

-- What a run is of: a program, its main class, the steps that a task may do, and the numbers of the command
-- line.
pub record Setting : Type 0 where
  pub program : Program
  pub main : ClassId
  pub limits : Limits

-- the main class is fit to be one
abbrev pub is_fit : Setting → Bool
is_fit setting = is_fit_main setting.program setting.main

-- ---- mailboxes, whatever they hold

-- how many messages it may hold, if it has a bound, how many were put into it, and those that wait there, with their numbers
pub record Mailbox (A : Type 0) : Type 0 where
  pub most : Option ℕ
  pub puts : ℕ
  pub queue : List (ℕ × A)

abbrev pub empty_mailbox : {A : Type 0} → Mailbox A
empty_mailbox = record { most = None; puts = 0; queue = [] }

-- One more message, behind the others. Its number is how many were put before it.
abbrev pub with_message : {A : Type 0} → Mailbox A → A → Mailbox A
with_message mailbox x = record mailbox { puts = mailbox.puts + 1; queue = mailbox.queue ++ (mailbox.puts, x) ∷ [] }

-- these are left in it
abbrev pub with_queue : {A : Type 0} → Mailbox A → List (ℕ × A) → Mailbox A
with_queue mailbox queue = record mailbox { queue = queue }

-- it is bounded, and holds as many messages as it may
abbrev pub is_full_at : Option ℕ → ℕ → Bool
is_full_at None n = false
is_full_at (Some most) n = nat_le most n

abbrev pub is_full : {A : Type 0} → Mailbox A → Bool
is_full mailbox = is_full_at mailbox.most (length mailbox.queue)

-- it gets a bound
abbrev pub bounded : {A : Type 0} → Mailbox A → ℕ → Mailbox A
bounded mailbox most = record mailbox { most = Some most }

abbrev pub same_box : BoxName → BoxName → Bool
same_box a b = a.task == b.task && a.number == b.number

abbrev pub with_mailbox : {A : Type 0} → (BoxName → Mailbox A) → BoxName → Mailbox A → BoxName → Mailbox A
with_mailbox mailboxes box mailbox = λ b. if same_box b box then mailbox else mailboxes b

-- ---- threads

pub data Thread : Type 0 where
  -- its frames, the top first, the instructions that it has done, and the mailboxes that it has made
  Alive : (frames : List Activation) (done boxes : ℕ) → Thread
  Ended : (cause : EndCause) → Thread

-- The frames with which a method begins on an object. A built-in method has no frame. Without a method there is
-- nothing to begin with.
abbrev pub begun_in : Program → MethodId → ℕ → Option Method → Option (List Activation)
begun_in p m n None = None
begun_in p m n (Some method) = Some (if method.built_in then [] else entered p m (Ref n ∷ []) ∷ [])

abbrev pub begun_on : Program → Option MethodId → ℕ → Option (List Activation)
begun_on p None n = None
begun_on p (Some m) n = begun_in p m n (method_at p m)

-- those of `execute` on a task object
abbrev pub class_of : Base → Option ClassId
class_of (base.Class c) = Some c
class_of b = None

abbrev pub execute_frames : Program → Objects → ℕ → Option (List Activation)
execute_frames p heap n = begun_on p (get heap n >>= λ (object : Object). class_of object.class.base >>= λ c. execute_of p c) n

-- a thread that has done nothing yet
abbrev pub new_thread : Option (List Activation) → List Thread
new_thread None = []
new_thread (Some frames) = Alive frames 0 0 ∷ []

-- ---- the machine

pub record State : Type 0 where
  pub heap : Objects
  -- the next object's name: no name is used twice
  pub next : ℕ
  -- by their numbers
  pub threads : List Thread
  -- the objects that wait in them, by their names
  pub mailboxes : BoxName → Mailbox ℕ
  pub journal : List Entry
  -- the object of task 0, which it keeps until its `execute` begins
  pub kept : Option ℕ

-- One new object of the main class, with the name 0, and task 0 at the beginning of its constructor.
abbrev pub first_state : Setting → State
first_state setting = record {
  heap = insert empty 0 (new_object setting.program setting.main);
  next = 1;
  threads = new_thread (begun_on setting.program (constructor_of setting.program setting.main) 0);
  mailboxes = λ box. empty_mailbox;
  journal = [];
  kept = Some 0;
}

-- a task's act is noted
abbrev pub noted : State → ℕ → Act → State
noted s t act = record s { journal = s.journal ++ record { task = t; act = act } ∷ [] }
