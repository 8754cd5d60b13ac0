-- How long a woven code may be.
use Rattle.std.specs.Prelude.{ℕ, suc, ◌+◌, ◌*◌, List, [], ◌∷◌, Option, Some, None}
use Rattle.kilim_program.specs.declared.class.Method.{Method}
use Rattle.kilim_program.specs.declared.instr.Instr.{Instr}
use Rattle.kilim_program.specs.declared.instr.Instr.TheVariants.{Tableswitch, Lookupswitch}
use Rattle.kilim_program.specs.Program.{Program}
use Rattle.kilim_weave_spec.specs.Woven.{pausable_callee}

abbrev pub switch_bytes : Instr → ℕ
switch_bytes (Tableswitch default low targets) = 3
switch_bytes (Lookupswitch default pairs) = 3
switch_bytes i = 0

-- three for each switch
abbrev pub switches_bytes : List (ℕ × Instr) → ℕ
switches_bytes [] = 0
switches_bytes (e ∷ es) = switch_bytes e.1 + switches_bytes es

abbrev pub one_more : Option Method → ℕ → ℕ
one_more None n = n
one_more (Some callee) n = suc n

-- how many pausable calls
abbrev pub calls_in : Program → List (ℕ × Instr) → ℕ
calls_in p [] = 0
calls_in p (e ∷ es) = one_more (pausable_callee p e.1) (calls_in p es)

abbrev pub weight : Program → Method → ℕ
weight p m = m.code_length + (64 + (switches_bytes m.code + calls_in p m.code * (56 + 28 * (m.max_locals + m.max_stack))))
