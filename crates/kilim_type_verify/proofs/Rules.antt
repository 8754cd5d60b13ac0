-- The rules of one instruction.
use Rattle.std.proofs.Common.{◌≡◌, ℕ, Bool, true, false, ◌||◌, ◌&&◌, not, refl, ap, sym, ◌∙◌, List, [], ◌∷◌, ◌++◌, Option, Some, None, Result, Ok, Err}
use Rattle.std.specs.Prelude.{is_some, nat_le, cond}
use Rattle.std.specs.List.{list_all}
use Rattle.kilim_program.specs.declared.class.Method.{Method}
use Rattle.kilim_program.specs.declared.instr.Instr.{Instr}
use Rattle.kilim_program.specs.Lengths.{jump_targets, ends_path}
use Rattle.kilim_program.specs.Program.{Program}
use Rattle.kilim_type_spec.specs.Step.{Types}
use Rattle.kilim_type_spec.specs.Typed.{declared}
use Rattle.kilim_type_spec.specs.Faults.{lesser, fails_unless, flows_into_declared, next_places, begins_declared, targets_declared, instr_rule}
use Rattle.kilim_type_verify.specs.Places.{behind_declared, declared_all, behind_flows, flow_all, place_of, IsStepped}

-- ---- the place behind

or_true : (b : Bool) → (b || true) ≡ true
or_true true = refl
or_true false = refl

and_true : (a : Bool) → (a && true) ≡ a
and_true true = refl
and_true false = refl

begins : (m : Method) (ends : Bool) (es : List (ℕ × Instr)) → (not ends || begins_declared m es) ≡ behind_declared m ends (place_of es)
begins m ends [] = or_true (not ends)
begins m ends (e ∷ es) = refl

pub declared_behind : (m : Method) (i : Instr) (es : List (ℕ × Instr)) (behind : Option ℕ) (targets : List ℕ) (ends : Bool) → place_of es ≡ behind → targets ≡ jump_targets i → ends ≡ ends_path i →
    declared_all m ends targets behind ≡ targets_declared m i es
declared_behind m i es behind targets ends e t s =
    ap (λ b. list_all (λ to. is_some (declared m to)) targets && behind_declared m ends b) (sym e)
    ∙ ap (λ ts. list_all (λ to. is_some (declared m to)) ts && behind_declared m ends (place_of es)) t
    ∙ ap (λ b. list_all (λ to. is_some (declared m to)) (jump_targets i) && behind_declared m b (place_of es)) s
    ∙ sym (ap (λ b. list_all (λ to. is_some (declared m to)) (jump_targets i) && b) (begins m (ends_path i) es))

all_append : (test : ℕ → Bool) (xs ys : List ℕ) → list_all test (xs ++ ys) ≡ (list_all test xs && list_all test ys)
all_append test [] ys = refl
all_append test (x ∷ xs) ys = ap (λ b. test x && b) (all_append test xs ys) ∙ and_assoc (test x) (list_all test xs) (list_all test ys)
  where
    and_assoc : (a b c : Bool) → (a && (b && c)) ≡ ((a && b) && c)
    and_assoc true b c = refl
    and_assoc false b c = refl

next_flows : (p : Program) (m : Method) (f : Types) (ends : Bool) (es : List (ℕ × Instr)) → list_all (λ to. flows_into_declared p f (declared m to)) (next_places ends es) ≡ behind_flows p m f ends (place_of es)
next_flows p m f true [] = refl
next_flows p m f false [] = refl
next_flows p m f true (e ∷ es) = refl
next_flows p m f false (e ∷ es) = and_true (flows_into_declared p f (declared m e.0))

pub flow_behind : (p : Program) (m : Method) (i : Instr) (f : Types) (es : List (ℕ × Instr)) (behind : Option ℕ) (targets : List ℕ) (ends : Bool) → place_of es ≡ behind → targets ≡ jump_targets i → ends ≡ ends_path i →
    flow_all p m f ends targets behind ≡ list_all (λ to. flows_into_declared p f (declared m to)) (jump_targets i ++ next_places (ends_path i) es)
flow_behind p m i f es behind targets ends e t s =
    ap (λ b. list_all (λ to. flows_into_declared p f (declared m to)) targets && behind_flows p m f ends b) (sym e)
    ∙ ap (λ ts. list_all (λ to. flows_into_declared p f (declared m to)) ts && behind_flows p m f ends (place_of es)) t
    ∙ ap (λ b. list_all (λ to. flows_into_declared p f (declared m to)) (jump_targets i) && behind_flows p m f b (place_of es)) s
    ∙ sym (all_append (λ to. flows_into_declared p f (declared m to)) (jump_targets i) (next_places (ends_path i) es)
    ∙ ap (λ b. list_all (λ to. flows_into_declared p f (declared m to)) (jump_targets i) && b) (next_flows p m f (ends_path i) es))

-- ---- the least rule

-- where the flow is what it is, the frames are what they are, and the step is what it is
abbrev pub least : Bool → Bool → Result Types ℕ → Option ℕ
least flow frames (Ok g) = lesser (fails_unless flow 1) (lesser (fails_unless frames 2) None)
least flow frames (Err n) = lesser None (lesser (fails_unless frames 2) (Some n))

shown : (p : Program) (m : Method) (i : Instr) (es : List (ℕ × Instr)) (g : Types) (flow frames : Bool) → flow ≡ list_all (λ to. flows_into_declared p g (declared m to)) (jump_targets i ++ next_places (ends_path i) es) →
    frames ≡ targets_declared m i es → instr_rule p m i es (Ok g) ≡ least flow frames (Ok g)
shown p m i es g flow frames a b =
    ap (λ x. lesser (fails_unless x 1) (lesser (fails_unless (targets_declared m i es) 2) None)) (sym a) ∙ ap (λ x. lesser (fails_unless flow 1) (lesser (fails_unless x 2) None)) (sym b)

module _ (p : Program) (m : Method) (i : Instr) (es : List (ℕ × Instr)) (behind : Option ℕ) (targets : List ℕ) (ends : Bool) (e : place_of es ≡ behind) (t : targets ≡ jump_targets i) (s : ends ≡ ends_path i) where
  ok_rule : (r : Result Types ℕ) (g : Types) (flow frames : Bool) → r ≡ Ok g → flow ≡ flow_all p m g ends targets behind → frames ≡ declared_all m ends targets behind → instr_rule p m i es r ≡ least flow frames (Ok g)
  ok_rule r g flow frames is a b = ap (instr_rule p m i es) is ∙ shown p m i es g flow frames (a ∙ flow_behind p m i g es behind targets ends e t s) (b ∙ declared_behind m i es behind targets ends e t s)

  pub stepped : (r : Result Types ℕ) (g : Types) (flow frames : Bool) → r ≡ Ok g → flow ≡ flow_all p m g ends targets behind → frames ≡ declared_all m ends targets behind → flow ≡ true → frames ≡ true → IsStepped (instr_rule p m i es r) r None g
  stepped r g flow frames is a b c d = record { rule = ok_rule r g true true is (sym c ∙ a) (sym d ∙ b); left = λ n. is }

  pub no_frame : (r : Result Types ℕ) (g : Types) (flow frames : Bool) → r ≡ Ok g → flow ≡ flow_all p m g ends targets behind → frames ≡ declared_all m ends targets behind → flow ≡ true → frames ≡ false → IsStepped (instr_rule p m i es r) r (Some 2) g
  no_frame r g flow frames is a b c d = record { rule = ok_rule r g true false is (sym c ∙ a) (sym d ∙ b); left = λ n. absurd (cc (n)) }

  one_first : (b : Bool) → lesser (Some 1) (lesser (fails_unless b 2) None) ≡ Some 1
  one_first true = refl
  one_first false = refl

  pub no_flow : (r : Result Types ℕ) (g : Types) (flow frames : Bool) → r ≡ Ok g → flow ≡ flow_all p m g ends targets behind → frames ≡ declared_all m ends targets behind → flow ≡ false → IsStepped (instr_rule p m i es r) r (Some 1) g
  no_flow r g flow frames is a b c = record { rule = ok_rule r g false frames is (sym c ∙ a) b ∙ one_first frames; left = λ n. absurd (cc (n)) }

  pub step_fails : (r : Result Types ℕ) (g : Types) (n : ℕ) (frames : Bool) → r ≡ Err n → frames ≡ declared_all m ends targets behind → frames ≡ true → IsStepped (instr_rule p m i es r) r (Some n) g
  step_fails r g n frames is b c = record {
    rule = ap (instr_rule p m i es) is ∙ ap (λ x. lesser (fails_unless x 2) (Some n)) (sym (sym c ∙ b ∙ declared_behind m i es behind targets ends e t s));
    left = λ none. absurd (cc (none));
  }

  pub both_fail : (r : Result Types ℕ) (g : Types) (n : ℕ) (frames : Bool) → r ≡ Err n → frames ≡ declared_all m ends targets behind → frames ≡ false → IsStepped (instr_rule p m i es r) r (lesser (Some 2) (Some n)) g
  both_fail r g n frames is b c = record {
    rule = ap (instr_rule p m i es) is ∙ ap (λ x. lesser (fails_unless x 2) (Some n)) (sym (sym c ∙ b ∙ declared_behind m i es behind targets ends e t s));
    left = λ none. some_rule (nat_le 2 n) none;
  }
    where
      some_rule : (b : Bool) → cond b (Some 2) (Some n) ≡ None → r ≡ Ok g
      some_rule true x = absurd (cc (x))
      some_rule false x = absurd (cc (x))
