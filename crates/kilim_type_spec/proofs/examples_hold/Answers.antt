use Rattle.std.proofs.Common.{◌≡◌, inl, ℕ, [], ◌∷◌, Option, Some, None, refl, sym, ap, subst, ◌∙◌}
use Rattle.std.proofs.lemmas.Bool.{false≢true}
use Rattle.kilim_program.specs.declared.instr.Instr.{Instr}
use Rattle.kilim_program.specs.declared.instr.Instr.TheVariants.{Iload, Istore, Pop}
use Rattle.kilim_program.specs.Lengths.{fetched, jump_targets, ends_path}
use Rattle.kilim_program.specs.Fits.{fits_type}
use Rattle.kilim_type_spec.specs.Step.{meets, row, special_fits}
use Rattle.kilim_type_spec.specs.Typed.{Among, Catches, GoesOn, Live, ReadsIt, handlers_at, reads, writes}
use Rattle.kilim_type_spec.specs.Faults.{method_fault}
use Rattle.kilim_type_spec.specs.Examples.{over, storing}
use Rattle.kilim_type_spec.proofs.examples_hold.Goals as goal

-- ---- live slots

abbrev entry : Instr → ℕ → Option (Instr × ℕ)
entry i to = Some (i, to)

one_is : (x y : Instr × ℕ) → Some x ≡ Some y → x ≡ y
one_is x y e = cc

first_is : (i : Instr) (to : ℕ) → entry (Istore 1) 1 ≡ entry i to → i ≡ Istore 1
first_is i to e = sym (ap (λ (x : Instr × ℕ). x.0) (one_is (Istore 1, 1) (i, to) e))

caught : Live (storing (over 0 1 2 None ∷ [])) 1 0
unfolding jump_targets ends_path
caught = Catches 0 1 2 (Istore 1) refl (inl refl) (GoesOn 2 3 3 Pop refl refl (inl refl) (ReadsIt 3 4 (Iload 1) refl refl))

dead : (p : ℕ) → p ≡ 0 → Live (storing (over 1 2 2 None ∷ [])) 1 p → ⊥
dead p z (ReadsIt q to i e r) =
    let same = first_is i to (sym (ap (fetched (storing []).code 5) z) ∙ e) in
    false≢true (sym (ap (λ (j : Instr). reads j 1) same) ∙ r)
dead p z (GoesOn q to n i e w a l) =
    let same = first_is i to (sym (ap (fetched (storing []).code 5) z) ∙ e) in
    false≢true (sym w ∙ ap (λ (j : Instr). writes j 1) same)
dead p z (Catches q to n i e a l) = subst (λ (x : ℕ). Among (handlers_at (over 1 2 2 None ∷ []) x) n) z a

pub returns : goal.returns
unfolding jump_targets ends_path fits_type meets row special_fits method_fault
returns c = record {
  assigned_all = refl;
  assigned_none = refl;
  pass = refl;
  lack = refl;
  high = refl;
  operands = refl;
  locals = refl;
  splits = refl;
  members = refl;
  named = refl;
  rest = refl;
  split_store = refl;
  makes = refl;
  constructs = refl;
  loops = refl;
  no_frame = refl;
  no_flow = refl;
  inside = refl;
  top_on_the_stack = refl;
  too_many = refl;
  no_result = refl;
  dead_code = refl;
  least = refl;
  pushes_nothing = refl;
  frames = refl;
  caught = refl;
  caught_below = refl;
  caught_above = refl;
  not_narrowed = refl;
  no_handler_frame = refl;
  set_in_range = refl;
  not_yet_set = refl;
  not_thrown = refl;
  least_of_two = refl;
  this_is_set = refl;
  this_is_unset = refl;
  live_in_range = caught;
  dead_before_it = dead 0 refl;
}
