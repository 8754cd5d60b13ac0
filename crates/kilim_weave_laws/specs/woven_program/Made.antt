-- The woven form of a program, from tables of live slots, as a function.
use Rattle.std.specs.Prelude.{ℕ, suc, Bool, true, false, List, [], ◌∷◌, ◌++◌, map}
use Rattle.kilim_program.specs.declared.class.Form.TheVariants.{Woven}
use Rattle.kilim_program.specs.declared.class.Method.{Method}
use Rattle.kilim_program.specs.declared.names.MethodId.{MethodId}
use Rattle.kilim_program.specs.BuiltIn.{fiber_classes, fiber_methods, method_id}
use Rattle.kilim_program.specs.Program.{Program}
use Rattle.kilim_weave_spec.specs.Form.{all_counted, first_class, first_method, has_calls, only_with_fiber, plan_of}
use Rattle.kilim_weave_spec.specs.Woven.{Plan, marks, woven_items, woven_method}
use Rattle.kilim_weave_laws.specs.woven_program.labels.Law.{found_plan}

-- a method by which slots are live at its places, with the places at which its labels are found
abbrev pub method_plan : Program → Method → (ℕ → ℕ → Bool) → Plan
method_plan p m live = found_plan (plan_of p m live (λ place. 0) (λ number. 0))

-- a woven method, and which of its instructions count
abbrev pub made_as : (is_pausable with_calls : Bool) → Program → Method → (ℕ → ℕ → Bool) → Method × List Bool
made_as false with_calls p m live = (m, all_counted m)
made_as true false p m live = (only_with_fiber p m, all_counted m)
made_as true true p m live = let x = method_plan p m live in (woven_method x, marks (woven_items x))

abbrev pub made : Program → Method → (ℕ → ℕ → Bool) → Method × List Bool
made p m live = made_as m.pausable (has_calls p m) p m live

-- the methods from a number on, and behind them the fiber's
abbrev pub made_from : Program → (MethodId → ℕ → ℕ → Bool) → ℕ → List Method → List (Method × List Bool)
made_from p lives n [] = map (λ w. (w, all_counted w)) (fiber_methods Woven (first_class p))
made_from p lives n (m ∷ ms) = made p m (lives (method_id n)) ∷ made_from p lives (suc n) ms

abbrev pub all_made : Program → (MethodId → ℕ → ℕ → Bool) → List (Method × List Bool)
all_made p lives = made_from p lives 0 p.methods

abbrev pub woven_program : Program → (MethodId → ℕ → ℕ → Bool) → Program
woven_program p lives = record p {
  classes = p.classes ++ fiber_classes Woven (first_class p) (first_method p);
  methods = map (λ e. e.0) (all_made p lives);
  form = Woven;
}

abbrev pub woven_counted : Program → (MethodId → ℕ → ℕ → Bool) → List (List Bool)
woven_counted p lives = map (λ e. e.1) (all_made p lives)
