-- The woven form of a program (own).
use Rattle.std.specs.Prelude.{◌≡◌, ℕ, suc, ◌-◌, Bool, true, false, nat_lt, if◌then◌else◌, List, [], ◌∷◌, ◌++◌, length, map}
use Rattle.kilim_program.specs.declared.class.Form.TheVariants.{Woven}
use Rattle.kilim_program.specs.declared.class.Method.{Method}
use Rattle.kilim_program.specs.Program.{Program}
use Rattle.kilim_program.specs.BuiltIn.{built_in_classes, built_in_methods, fiber_classes, fiber_methods}
use Rattle.kilim_program.specs.Same.{argument_slots}
use Rattle.kilim_type_spec.specs.Typed.{IsLive, has_code, typing_of}
use Rattle.kilim_weave_spec.specs.Weight.{calls_in}
use Rattle.kilim_weave_spec.specs.Woven.{Plan, larger, with_fiber, IsWovenBy}

-- ---- a method

-- all instructions count
abbrev pub all_counted : Method → List Bool
all_counted m = map (λ e. true) m.code

-- without pausable calls: it has one argument more
abbrev pub only_with_fiber : Program → Method → Method
only_with_fiber p m = record (with_fiber p m) { max_locals = if has_code m then larger m.max_locals (suc (argument_slots m)) else m.max_locals }

-- with the frames that verification gives to its places
abbrev pub plan_of : Program → Method → (live : ℕ → ℕ → Bool) → (at block : ℕ → ℕ) → Plan
plan_of p m live at block = record { program = p; method = m; typing = typing_of p m; live = live; at = at; block = block }

abbrev pub has_calls : Program → Method → Bool
has_calls p m = nat_lt 0 (calls_in p m.code)

abbrev pub woven_as : (is_pausable with_calls : Bool) → Program → Method → Method → List Bool → Type 0
woven_as false with_calls p m w counted = (w ≡ m) × (counted ≡ all_counted m)
woven_as true false p m w counted = (w ≡ only_with_fiber p m) × (counted ≡ all_counted m)
woven_as true true p m w counted = (live : ℕ → ℕ → Bool) × (at : ℕ → ℕ) × (block : ℕ → ℕ) × IsLive m live × IsWovenBy (plan_of p m live at block) w counted

-- the woven form of a method, and which of its instructions count
abbrev pub IsWoven : Program → Method → Method → List Bool → Type 0
IsWoven p m w counted = woven_as m.pausable (has_calls p m) p m w counted

-- ---- a program

-- the numbers of the first built-in class and of the first built-in method
abbrev pub first_class : Program → ℕ
first_class p = length p.classes - length (built_in_classes 0 0)

abbrev pub first_method : Program → ℕ
first_method p = length p.methods - length (built_in_methods 0)

-- each method in its woven form, then the members of `kilim/Fiber`
abbrev pub AllWoven : Program → List Method → List Method → List (List Bool) → Type 0
AllWoven p [] ws counted = (ws ≡ fiber_methods Woven (first_class p)) × (counted ≡ map all_counted ws)
AllWoven p (m ∷ ms) (w ∷ ws) (marks ∷ counted) = IsWoven p m w marks × AllWoven p ms ws counted
AllWoven p (m ∷ ms) _ _ = ⊥

pub record WovenForm (p w : Program) (counted : List (List Bool)) : Type 0 where
  pub classes : w.classes ≡ p.classes ++ fiber_classes Woven (first_class p) (first_method p)
  pub fields : w.fields ≡ p.fields
  pub form : w.form ≡ Woven
  pub methods : AllWoven p p.methods w.methods counted
