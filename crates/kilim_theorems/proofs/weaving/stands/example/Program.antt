-- The loop is kept and well typed, and its one pause keeps the rules.
use Rattle.std.proofs.Common.{◌≡◌, ℕ, zero, suc, ◌≤◌, ltb-true, Bool, true, false, Some, List, [], ◌∷◌, refl, sym, ap, subst, ◌∙◌, arith}
use Rattle.std.specs.Prelude.{codes, slice_get, not, nat_lt, drop}
use Rattle.std.specs.List.{list_all, list_any}
use Rattle.std.proofs.lemmas.Bool.{false≢true}
use Rattle.std.proofs.lemmas.Option.{none-some, same_Some}
use Rattle.kilim_program.specs.declared.class.Form.TheVariants.{Plain}
use Rattle.kilim_program.specs.declared.class.Method.{Method}
use Rattle.kilim_program.specs.declared.instr.Instr.{Instr}
use Rattle.kilim_program.specs.declared.names.MethodId.{MethodId}
use Rattle.kilim_program.specs.BuiltIn.{built_in_methods_in, class_id, method_id}
use Rattle.kilim_program.specs.Fits.{fits_type}
use Rattle.kilim_program.specs.Keeps.{Keeps, ids_are_places, none_is_its_ancestor, code_is_whole, members_are_owned, names_differ, method_is_sound, overriding_agrees, none_is_left_abstract, none_is_both, no_task_arrays, superclasses_fit, own_classes_fit, fields_fit, constants_fit, frames_are_proper, none_is_named_as_array}
use Rattle.kilim_program.specs.Lengths.{has_length, code_stands, targets_stand, code_ends, places_increase, jump_targets, ends_path}
use Rattle.kilim_program.specs.Names.{method_at, is_empty}
use Rattle.kilim_program.proofs.lookups.Rising.{all_there}
use Rattle.kilim_program.specs.Members.{is_fit_main}
use Rattle.kilim_type_spec.proofs.FromFaults.{no_fault_is_well_typed}
use Rattle.kilim_type_spec.specs.Faults.{method_fault}
use Rattle.kilim_type_spec.specs.Step.{is_unset, meets, row, special_fits}
use Rattle.kilim_type_spec.specs.Typed.{IsWellTyped, WellTyped, has_code, typing_of}
use Rattle.kilim_weave_spec.specs.Form.{has_calls}
use Rattle.kilim_weave_spec.specs.Samples.{loop, loop_execute, sample_constructor, sample_class}
use Rattle.kilim_weave_spec.specs.Weight.{calls_in, weight}
use Rattle.kilim_weave_spec.specs.Woven.{taken}
use Rattle.kilim_weave_laws.specs.woven_programs.keeps.Law.{NoneIsTooLong, reach}
use Rattle.kilim_weave_laws.specs.woven_programs.Law.{KeepsPauses, NoneAcross}
use Rattle.kilim_fiber_spec.specs.Thread.{own_of}
use Rattle.kilim_weave_laws.specs.woven_types.Facts.{CallsNone}

pub loop_keeps : Keeps loop
unfolding has_length ids_are_places none_is_its_ancestor code_is_whole members_are_owned names_differ method_is_sound overriding_agrees none_is_left_abstract none_is_both no_task_arrays superclasses_fit own_classes_fit fields_fit constants_fit frames_are_proper none_is_named_as_array code_stands targets_stand code_ends places_increase jump_targets ends_path fits_type
loop_keeps = record {
  ids = refl;
  ancestors = refl;
  code = refl;
  frames = refl;
  frame_types = refl;
  handlers = refl;
  catches = refl;
  paused = refl;
  built_in = record { own_classes = sample_class (codes "T") 5 false (method_id 0 ∷ method_id 1 ∷ []) ∷ []; own_methods = sample_constructor 0 6 ∷ loop_execute ∷ []; own_fields = []; classes = refl; methods = refl; fields = refl; bodies = refl };
  members = refl;
  names = refl;
  class_names = refl;
  methods = refl;
  both = refl;
  task_arrays = refl;
  superclasses = refl;
  own_classes = refl;
  fields = refl;
  overriding = refl;
  abstract_left = refl;
  constants = refl;
}

-- ---- each method is one of the two, or has no code

abbrev OfEach : (Method → Type 0) → Type 0
OfEach Q = (id : MethodId) (m : Method) → method_at loop id ≡ Some m → Q m

abbrev is_codeless : Method → Bool
is_codeless m = not (has_code m)

none_has_code : list_all is_codeless (built_in_methods_in Plain 1) ≡ true
none_has_code = refl

codeless : (Q : List (ℕ × Instr) → Type 0) → Q [] → (code : List (ℕ × Instr)) → not (not (is_empty code)) ≡ true → Q code
codeless Q q [] e = q
codeless Q q (c ∷ code) e = absurd (false≢true e)

each_of : (Q : Method → Type 0) → Q (sample_constructor 0 6) → Q loop_execute → ((m : Method) → is_codeless m ≡ true → Q m) → OfEach Q
each_of Q a b c id m e = by id.0 e
  where
    by : (n : ℕ) → slice_get loop.methods n ≡ Some m → Q m
    by zero e = subst Q (same_Some (sample_constructor 0 6) m e) a
    by (suc zero) e = subst Q (same_Some loop_execute m e) b
    by (suc (suc n)) e = c m (all_there is_codeless (built_in_methods_in Plain 1) n m none_has_code e)

-- ---- types

constructor_typed : WellTyped loop (sample_constructor 0 6)
unfolding method_fault meets row special_fits fits_type jump_targets ends_path code_ends
constructor_typed = no_fault_is_well_typed loop (sample_constructor 0 6) refl refl refl

execute_typed : WellTyped loop loop_execute
unfolding method_fault meets row special_fits fits_type jump_targets ends_path code_ends
execute_typed = no_fault_is_well_typed loop loop_execute refl refl refl

pub loop_is_typed : IsWellTyped loop
loop_is_typed = record { methods = each_of (λ m. has_code m ≡ true → WellTyped loop m) (λ h. constructor_typed) (λ h. execute_typed) (λ m n h. absurd (false≢true (sym (ap not h) ∙ n))) }

-- ---- pauses

execute_across : NoneAcross loop (typing_of loop loop_execute) loop_execute.code
unfolding typing_of meets row special_fits fits_type jump_targets ends_path
execute_across = ((λ callee e. (ap (λ (m : Method). list_any is_unset (drop (taken m) (typing_of loop loop_execute 0).stack)) (sym (same_Some (own_of loop (method_id 18)) callee e)), refl)), ((λ callee e. absurd (none-some callee e)), tt))

constructor_across : NoneAcross loop (typing_of loop (sample_constructor 0 6)) (sample_constructor 0 6).code
constructor_across = ((λ callee e. absurd (none-some callee e)), ((λ callee e. absurd (none-some callee e)), ((λ callee e. absurd (none-some callee e)), tt)))

pub loop_pauses : KeepsPauses loop
loop_pauses = record {
  plain = each_of (λ m. m.pausable ≡ false → CallsNone loop m.code) (λ h. (refl, (refl, (refl, tt)))) (λ h. absurd (false≢true (sym h))) (λ m n h. codeless (CallsNone loop) tt m.code n);
  across = each_of (λ m. NoneAcross loop (typing_of loop m) m.code) constructor_across execute_across (λ m n. codeless (NoneAcross loop (typing_of loop m)) tt m.code n);
}

pub loop_is_short : NoneIsTooLong loop
unfolding reach
loop_is_short = each_of (λ m. m.pausable ≡ true → has_calls loop m ≡ true → weight loop m ≤ reach)
    (λ h c. absurd (false≢true h)) (λ h c. light) (λ m n h c. absurd (false≢true (sym (codeless (λ code. nat_lt 0 (calls_in loop code) ≡ false) refl m.code n) ∙ c)))
  where
    light : weight loop loop_execute ≤ reach
    light = let l = ltb-true (weight loop loop_execute) 32768 refl in omega (arith, l)

pub main_is_fit : is_fit_main loop (class_id 0) ≡ true
unfolding fits_type
main_is_fit = refl
