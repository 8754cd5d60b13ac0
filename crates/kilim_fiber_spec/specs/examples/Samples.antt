-- A pause, computed: the second program of kilim_weave_spec, woven, from its `yield` to its rest and back.
use Rattle.std.specs.Prelude.{ℕ, Bool, true, false, pos, List, [], ◌∷◌, Some, None, codes, map}
use Rattle.std.specs.FinMap.{empty}
use Rattle.kilim_program.specs.declared.class.Form.TheVariants.{Woven}
use Rattle.kilim_program.specs.declared.value.Value.{Value}
use Rattle.kilim_program.specs.declared.value.Value.TheVariants.{Int, Long, Null, Ref, Fiber}
use Rattle.kilim_program.specs.BuiltIn.{built_in_classes_in, built_in_methods_in, class_id, method_id}
use Rattle.kilim_program.specs.Program.{Program}
use Rattle.kilim_run_model.specs.State.{Setting}
use Rattle.kilim_weave_spec.specs.Samples.{sample_class, sample_constructor, values, values_plan}
use Rattle.kilim_weave_spec.specs.Woven.{marks, woven_items, woven_method}
use Rattle.kilim_fiber_spec.specs.Acts.{World, counted}
use Rattle.kilim_fiber_spec.specs.Fibers.{Fib, Fiber_at, Saved, Woven_state, WRun, Resting, new_fiber}

abbrev pub woven_values_program : Program
woven_values_program = record {
  classes =
      sample_class (codes "A") 6 false (method_id 0 ∷ method_id 1 ∷ [])
      ∷ record (sample_class (codes "N") 2 true (method_id 2 ∷ [])) { fields = record { 0 = 1 } ∷ [] } ∷ built_in_classes_in Woven 2 3;
  methods = sample_constructor 0 7 ∷ woven_method values_plan ∷ sample_constructor 1 3 ∷ built_in_methods_in Woven 2;
  fields = values.fields;
  form = Woven;
}

abbrev pub values_marks : List (List Bool)
values_marks = (true ∷ true ∷ true ∷ []) ∷ marks (woven_items values_plan) ∷ (true ∷ true ∷ true ∷ []) ∷ map (λ m. []) (built_in_methods_in Woven 2)

abbrev pub values_setting : Setting
values_setting = record { program = values; main = class_id 0; limits = record { steps = 1000; args = [] } }

-- ten instructions are done, in an empty heap
abbrev pub ten_done : World
ten_done = record { task = 0; heap = empty; next = 0; kept = None; deeds = []; acts = []; done = 10; boxes = 0; aside = [] }

-- one that may do so many instructions, with the number 1, at its beginning: its object is a `kilim/Task`, whose `execute` is the built-in one
abbrev pub so_many : ℕ → Setting
so_many n = record values_setting { limits = record { steps = n; args = [] } }

abbrev pub none_done : World
none_done = record { task = 1; heap = empty; next = 1; kept = None; deeds = []; acts = []; done = 0; boxes = 0; aside = [] }

-- Task 0 right before the return of its constructor, with two instructions done and the main class `kilim/Task`: the return is the last that it
-- may do.
abbrev pub main_is_task : Setting
main_is_task = record (so_many 3) { main = class_id 6 }

abbrev pub two_done : World
two_done = record none_done { task = 0; kept = Some 0; done = 2 }

-- at the `yield`: an int and a long below the call, an int and a null in locals
abbrev pub values_locals : List Value
values_locals = Ref 0 ∷ Int (pos 5) ∷ Null ∷ Null ∷ Fiber ∷ Ref 0 ∷ []

abbrev pub values_stack : List Value
values_stack = Long (pos 7) ∷ Int (pos 8) ∷ []

abbrev pub before_pause : Woven_state
before_pause = WRun (method_id 1) 49 values_locals values_stack [] new_fiber ten_done []

-- The first pausable call, the receiver, and what was saved, the last one first: locals 3 and 1, then the stack from the bottom; behind it
-- the record of the leaf. One instruction more is done.
abbrev pub paused_fiber : Fib
paused_fiber = Fiber_at [] (Saved 1 (Ref 0) (Null ∷ Int (pos 5) ∷ Int (pos 8) ∷ Long (pos 7) ∷ [])) (Saved 0 Null [] ∷ []) false true

abbrev pub at_pause : Woven_state
at_pause = Resting paused_fiber (counted ten_done) []

-- Behind the `yield`: all stands as it stood, and no instruction more is done. What is left of the record is never read.
abbrev pub behind_pause : Woven_state
behind_pause = WRun (method_id 1) 96 values_locals values_stack [] (Fiber_at [] (Saved 1 (Ref 0) []) [] false false) (counted ten_done) []
