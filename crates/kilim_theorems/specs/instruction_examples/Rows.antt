-- What single rows of the table say at their edges.
use Rattle.std.specs.Prelude.{◌≡◌, ℕ, pos, negsuc, List, [], ◌∷◌, codes}
use Rattle.kilim_program.specs.declared.class.Method.{Method}
use Rattle.kilim_program.specs.declared.instr.Instr.{Instr}
use Rattle.kilim_program.specs.declared.instr.Instr.TheVariants.{Aastore, Arraylength, Dup, Dup2, Dup2X1, Dup2X2, DupX1, DupX2, Getfield, Iaload, Iastore, Idiv, IfAcmpeq, IfAcmpne, Ifnull, Iinc, Instanceof, Irem, Laload, Ldc, Ldiv, Lookupswitch, Lrem, Newarray, Pop, Pop2, Putfield, Checkcast, Swap, Tableswitch}
use Rattle.kilim_program.specs.declared.names.FieldId.{FieldId}
use Rattle.kilim_program.specs.declared.ty.Base.TheVariants as base
use Rattle.kilim_program.specs.declared.ty.Ty.{Ty}
use Rattle.kilim_program.specs.declared.value.Value.{Value}
use Rattle.kilim_program.specs.declared.value.Value.TheVariants.{Int, Long, Null, Ref, Text, Box}
use Rattle.kilim_program.specs.Program.{Program}
use Rattle.kilim_run_state.specs.declared.cause.EndCause.TheVariants as cause
use Rattle.kilim_run_state.specs.Machine.{Objects}
use Rattle.kilim_run_state.specs.Objects.{new_array}
use Rattle.kilim_run_machine.specs.Effect.{Effect, Goes, Makes, Raises, Ends, Stuck}
use Rattle.kilim_run_machine.specs.Does.{does, narrowed_int}

abbrev pub long_array : Ty
long_array = record { dims = 1; base = base.Long }

abbrev pub switch : Instr
switch = Tableswitch 90 (pos 3) (10 ∷ 20 ∷ [])

abbrev pub matches : Instr
matches = Lookupswitch 90 ((negsuc 4, 10) ∷ (pos 7, 20) ∷ [])

module _ (p : Program) (own : Method) (heap : Objects) (f : FieldId) (ty : Ty) (a b c d : ℕ) where
  abbrev pub leaves : Instr → List Value → Effect
  leaves i stack = does p own i 1 [] stack heap

  abbrev pub goes : List Value → Effect
  goes stack = Goes 1 [] stack heap

  pub record AreAtEdges : Type 0 where
    -- a divisor of zero
    pub idiv : leaves Idiv (Int (pos 0) ∷ Int (pos 5) ∷ []) ≡ Raises cause.Zero
    pub irem : leaves Irem (Int (pos 0) ∷ Int (pos 5) ∷ []) ≡ Raises cause.Zero
    pub ldiv : leaves Ldiv (Long (pos 0) ∷ Long (pos 5) ∷ []) ≡ Raises cause.Zero
    pub lrem : leaves Lrem (Long (pos 0) ∷ Long (pos 5) ∷ []) ≡ Raises cause.Zero
    -- null, before the index
    pub iaload : leaves Iaload (Int (negsuc 0) ∷ Null ∷ []) ≡ Raises cause.Null
    pub laload : leaves Laload (Int (negsuc 0) ∷ Null ∷ []) ≡ Raises cause.Null
    pub iastore : leaves Iastore (Int (pos 1) ∷ Int (negsuc 0) ∷ Null ∷ []) ≡ Raises cause.Null
    pub aastore : leaves Aastore (Ref a ∷ Int (negsuc 0) ∷ Null ∷ []) ≡ Raises cause.Null
    pub arraylength : leaves Arraylength (Null ∷ []) ≡ Raises cause.Null
    pub getfield : leaves (Getfield f) (Null ∷ []) ≡ Raises cause.Null
    pub putfield : leaves (Putfield f) (Int (pos 1) ∷ Null ∷ []) ≡ Raises cause.Null
    -- sizes of arrays: the bound itself is allowed
    pub size : leaves (Newarray base.Long) (Int (negsuc 0) ∷ []) ≡ Raises cause.Size
    pub large : leaves (Newarray base.Long) (Int (pos 1048577) ∷ []) ≡ Ends cause.Large
    pub largest : leaves (Newarray base.Long) (Int (pos 1048576) ∷ []) ≡ Makes (new_array long_array (Long (pos 0)) 1048576) 1 [] [] heap
    -- null may be cast to each type, and is an instance of none
    pub cast : leaves (Checkcast ty) (Null ∷ []) ≡ goes (Null ∷ [])
    pub instance : leaves (Instanceof ty) (Null ∷ []) ≡ goes (Int (pos 0) ∷ [])
    -- strings by content, mailboxes by name, objects by identity
    pub texts : leaves (IfAcmpeq 9) (Text (codes "ab") ∷ Text (codes "ab") ∷ []) ≡ Goes 9 [] [] heap
    pub other_texts : leaves (IfAcmpeq 9) (Text (codes "ab") ∷ Text (codes "aB") ∷ []) ≡ Goes 1 [] [] heap
    pub boxes : leaves (IfAcmpne 9) (Box (record { task = 1; number = 2 }) ∷ Box (record { task = 1; number = 3 }) ∷ []) ≡ Goes 9 [] [] heap
    pub objects : leaves (IfAcmpne 9) (Ref 4 ∷ Ref 4 ∷ []) ≡ Goes 1 [] [] heap
    pub null_and_text : leaves (IfAcmpeq 9) (Null ∷ Text [] ∷ []) ≡ Goes 1 [] [] heap
    pub null : leaves (Ifnull 9) (Text [] ∷ []) ≡ Goes 1 [] [] heap
    -- switches at the ends of their tables
    pub below_low : leaves switch (Int (pos 2) ∷ []) ≡ Goes 90 [] [] heap
    pub low : leaves switch (Int (pos 3) ∷ []) ≡ Goes 10 [] [] heap
    pub high : leaves switch (Int (pos 4) ∷ []) ≡ Goes 20 [] [] heap
    pub above_high : leaves switch (Int (pos 5) ∷ []) ≡ Goes 90 [] [] heap
    pub least : leaves switch (Int (negsuc 2147483647) ∷ []) ≡ Goes 90 [] [] heap
    pub matched : leaves matches (Int (negsuc 4) ∷ []) ≡ Goes 10 [] [] heap
    pub unmatched : leaves matches (Int (pos 5) ∷ []) ≡ Goes 90 [] [] heap
    -- the forms that move words: a long is two of them
    pub pop_long : leaves Pop (Long (pos 1) ∷ []) ≡ Stuck
    pub pop2_long : leaves Pop2 (Long (pos 1) ∷ Int (pos 2) ∷ []) ≡ goes (Int (pos 2) ∷ [])
    pub pop2_words : leaves Pop2 (Ref a ∷ Ref b ∷ Int (pos 2) ∷ []) ≡ goes (Int (pos 2) ∷ [])
    pub dup : leaves Dup (Ref a ∷ []) ≡ goes (Ref a ∷ Ref a ∷ [])
    pub dup_x1 : leaves DupX1 (Ref a ∷ Ref b ∷ []) ≡ goes (Ref a ∷ Ref b ∷ Ref a ∷ [])
    pub dup_x2 : leaves DupX2 (Ref a ∷ Ref b ∷ Ref c ∷ []) ≡ goes (Ref a ∷ Ref b ∷ Ref c ∷ Ref a ∷ [])
    pub dup_x2_long : leaves DupX2 (Ref a ∷ Long (pos 1) ∷ []) ≡ goes (Ref a ∷ Long (pos 1) ∷ Ref a ∷ [])
    pub dup2 : leaves Dup2 (Ref a ∷ Ref b ∷ []) ≡ goes (Ref a ∷ Ref b ∷ Ref a ∷ Ref b ∷ [])
    pub dup2_long : leaves Dup2 (Long (pos 1) ∷ []) ≡ goes (Long (pos 1) ∷ Long (pos 1) ∷ [])
    pub dup2_x1 : leaves Dup2X1 (Ref a ∷ Ref b ∷ Ref c ∷ []) ≡ goes (Ref a ∷ Ref b ∷ Ref c ∷ Ref a ∷ Ref b ∷ [])
    pub dup2_x2 : leaves Dup2X2 (Ref a ∷ Ref b ∷ Ref c ∷ Ref d ∷ []) ≡ goes (Ref a ∷ Ref b ∷ Ref c ∷ Ref d ∷ Ref a ∷ Ref b ∷ [])
    pub dup2_x2_longs : leaves Dup2X2 (Long (pos 1) ∷ Long (pos 2) ∷ []) ≡ goes (Long (pos 1) ∷ Long (pos 2) ∷ Long (pos 1) ∷ [])
    pub swap : leaves Swap (Ref a ∷ Ref b ∷ []) ≡ goes (Ref b ∷ Ref a ∷ [])
    -- a constant that is an object's name would be one from nowhere
    pub name : leaves (Ldc (Ref a)) [] ≡ Stuck
    -- `iinc` wraps
    pub iinc : does p own (Iinc 0 (pos 1)) 1 (Int (pos 2147483647) ∷ []) [] heap ≡ Goes 1 (Int (negsuc 2147483647) ∷ []) [] heap
    -- stores narrow
    pub bool : narrowed_int base.Bool (negsuc 1) ≡ pos 0
    pub byte : narrowed_int base.Byte (pos 255) ≡ negsuc 0
    pub char : narrowed_int base.Char (negsuc 0) ≡ pos 65535
    pub short : narrowed_int base.Short (pos 32768) ≡ negsuc 32767
    pub int : narrowed_int base.Int (negsuc 0) ≡ negsuc 0

-- whatever the program, the method and the heap are
abbrev pub RowsAreAtEdges : Type 0
RowsAreAtEdges = (p : Program) (own : Method) (heap : Objects) (f : FieldId) (ty : Ty) (a b c d : ℕ) → AreAtEdges p own heap f ty a b c d
