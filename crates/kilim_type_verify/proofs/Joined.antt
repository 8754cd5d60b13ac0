-- What comes of a method, by what comes of its body and by its first declared frame that doesn't fit.
use Rattle.std.proofs.Common.{◌≡◌, ℕ, Bool, true, false, not, ◌==◌, refl, ap, sym, ◌∙◌, subst, arith, List, [], ◌∷◌, length, map, Option, Some, None}
use Rattle.std.specs.Prelude.{if◌then◌else◌}
use Rattle.std.specs.Option.{option_map}
use Rattle.std.proofs.lemmas.Bool.{eqb-true}
use Rattle.kilim_program.specs.declared.class.Method.{Method}
use Rattle.kilim_program.specs.declared.instr.Instr.{Instr}
use Rattle.kilim_program.specs.Names.{is_empty}
use Rattle.kilim_program.specs.Program.{Program}
use Rattle.kilim_type_spec.specs.Typed.{has_code, entry, frames_from, frames_of, listed}
use Rattle.kilim_type_spec.specs.Faults.{body_fault, comes_first, earlier, frame_fault, method_fault}
use Rattle.kilim_type_verify.specs.declared.walk.Walked.{Walked}
use Rattle.kilim_type_verify.specs.declared.walk.Walked.TheVariants.{Frames, Fault}
use Rattle.kilim_type_verify.specs.Walks.{BodyWalked, MethodWalked}

-- ---- a method without code

is_nil : {A : Type 0} (xs : List A) → (length xs == 0) ≡ true → xs ≡ []
is_nil [] e = refl
is_nil (x ∷ xs) e = absurd (omega (arith, eqb-true (length (x ∷ xs)) 0 e))

pub no_code : (p : Program) (m : Method) → (length m.code == 0) ≡ true → (method_fault p m ≡ None) × ([] ≡ map (listed m) (frames_of p m))
unfolding method_fault
no_code p m e =
    let none : m.code ≡ [] = is_nil m.code e in (
      ap (λ (c : List (ℕ × Instr)). if not (is_empty c) then earlier (body_fault p m m.code) (frame_fault m m.frames) else None) none,
      sym (ap (λ (c : List (ℕ × Instr)). map (listed m) (frames_from p m (Some (entry m)) c)) none),
    )

-- ---- a method with code

pub some_code : (m : Method) → (length m.code == 0) ≡ false → has_code m ≡ true
some_code m e = by m.code e
  where
    by : (xs : List (ℕ × Instr)) → (length xs == 0) ≡ false → not (is_empty xs) ≡ true
    by [] x = absurd (cc (x))
    by (i ∷ is) x = refl

module _ (p : Program) (m : Method) (code : has_code m ≡ true) where
  method_is : method_fault p m ≡ earlier (body_fault p m m.code) (frame_fault m m.frames)
  unfolding method_fault
  method_is = ap (λ (b : Bool). if b then earlier (body_fault p m m.code) (frame_fault m m.frames) else None) code

  by_parts : (body unfit : Option (ℕ × ℕ)) → body_fault p m m.code ≡ body → frame_fault m m.frames ≡ unfit → method_fault p m ≡ earlier body unfit
  by_parts body unfit a b = method_is ∙ ap (λ o. earlier o (frame_fault m m.frames)) a ∙ ap (earlier body) b

  unfit_is : (unfit found : Option ℕ) → unfit ≡ found → option_map (λ (at : ℕ). (at, 12)) unfit ≡ frame_fault m m.frames → frame_fault m m.frames ≡ option_map (λ (at : ℕ). (at, 12)) found
  unfit_is unfit found is e = sym e ∙ ap (option_map (λ (at : ℕ). (at, 12))) is

  pub all_fit : (walked : Walked) (unfit : Option ℕ) → unfit ≡ None → BodyWalked p m walked → option_map (λ (at : ℕ). (at, 12)) unfit ≡ frame_fault m m.frames → MethodWalked p m walked
  all_fit (Frames fs) unfit none b e = (by_parts None None b.0 (unfit_is unfit None none e), b.1)
  all_fit (Fault at rule) unfit none b e = by_parts (Some (at, rule)) None b (unfit_is unfit None none e)

  pub unfit_alone : (walked : Walked) (unfit : Option ℕ) (fs : _) (at : ℕ) → walked ≡ Frames fs → unfit ≡ Some at → BodyWalked p m walked → option_map (λ (x : ℕ). (x, 12)) unfit ≡ frame_fault m m.frames → method_fault p m ≡ Some (at, 12)
  unfit_alone walked unfit fs at is some b e = by_parts None (Some (at, 12)) (subst (BodyWalked p m) is b).0 (unfit_is unfit (Some at) some e)

  both : (walked : Walked) (unfit : Option ℕ) (place rule at : ℕ) → walked ≡ Fault place rule → unfit ≡ Some at → BodyWalked p m walked → option_map (λ (x : ℕ). (x, 12)) unfit ≡ frame_fault m m.frames →
      method_fault p m ≡ (if comes_first (place, rule) (at, 12) then Some (place, rule) else Some (at, 12))
  both walked unfit place rule at is some b e = by_parts (Some (place, rule)) (Some (at, 12)) (subst (BodyWalked p m) is b) (unfit_is unfit (Some at) some e)

  pub body_first : (walked : Walked) (unfit : Option ℕ) (place rule at : ℕ) → walked ≡ Fault place rule → unfit ≡ Some at → comes_first (place, rule) (at, 12) ≡ true → BodyWalked p m walked → option_map (λ (x : ℕ). (x, 12)) unfit ≡ frame_fault m m.frames →
      method_fault p m ≡ Some (place, rule)
  body_first walked unfit place rule at is some first b e = both walked unfit place rule at is some b e ∙ ap (λ (t : Bool). if t then Some (place, rule) else Some (at, 12)) first

  pub frame_first : (walked : Walked) (unfit : Option ℕ) (place rule at : ℕ) → walked ≡ Fault place rule → unfit ≡ Some at → comes_first (place, rule) (at, 12) ≡ false → BodyWalked p m walked → option_map (λ (x : ℕ). (x, 12)) unfit ≡ frame_fault m m.frames →
      method_fault p m ≡ Some (at, 12)
  frame_first walked unfit place rule at is some first b e = both walked unfit place rule at is some b e ∙ ap (λ (t : Bool). if t then Some (place, rule) else Some (at, 12)) first
