-- A chain of objects grows by one.
use Rattle.std.proofs.Common.{◌≡◌, ℕ, List, [], ◌∷◌, ◌++◌, Option, Some, None, refl, sym, ap, subst, ◌∙◌}
use Rattle.std.specs.List.{AllByRecursion}
use Rattle.std.specs.FinMap.{get, insert}
use Rattle.std.proofs.lemmas.List.{append-nil}
use Rattle.kilim_program.specs.declared.names.FieldId.{FieldId}
use Rattle.kilim_program.specs.declared.value.Value.{Value}
use Rattle.kilim_program.specs.declared.value.Value.TheVariants.{Null, Ref}
use Rattle.kilim_run_state.specs.declared.value.Object.{Object}
use Rattle.kilim_run_state.specs.Machine.{Objects}
use Rattle.kilim_run_state.proofs.Maps.{got-there, got-other}
use Rattle.kilim_run_trees.specs.Walk.{value_refs, refs, field_refs, element_refs, Leads, AreIn, places}
use Rattle.kilim_case_text.specs.run_tables.Chains.{IsBelow, IsOwn}

pub none_below : (heap : Objects) → IsBelow heap Null
none_below heap = record { entries = []; leads = refl; are_in = tt; once = tt }

other_place : (heap : Objects) (at n : ℕ) (o : Object) → get heap at ≡ None → get heap n ≡ Some o → n ≡ at → ⊥
other_place heap at n o free there is = let bad : ◌≡◌ {A = Option Object} None (Some o) = sym free ∙ (ap (λ m. get heap m) (sym is) ∙ there) in cc

pub still_in : (heap : Objects) (at : ℕ) (o : Object) (es : List (ℕ × Object)) → get heap at ≡ None → AreIn heap es → AreIn (insert heap at o) es
still_in heap at o [] free a = tt
still_in heap at o (e ∷ es) free a = (got-other heap at o e.0 (other_place heap at e.0 e.1 free a.0) ∙ a.0, still_in heap at o es free a.1)

turned : (a b : ℕ) → (b ≡ a → ⊥) → a ≡ b → ⊥
turned a b ne e = ne (sym e)

pub new_place : (heap : Objects) (at : ℕ) (es : List (ℕ × Object)) → get heap at ≡ None → AreIn heap es → AllByRecursion (λ n. at ≡ n → ⊥) (places es)
new_place heap at [] free a = tt
new_place heap at (e ∷ es) free a = (turned at e.0 (other_place heap at e.0 e.1 free a.0), new_place heap at es free a.1)

pub one_more : (heap after : Objects) (at : ℕ) (o : Object) (next : Value) → IsBelow heap next → refs o ≡ value_refs next → get heap at ≡ None → after ≡ insert heap at o → IsBelow after (Ref at)
one_more heap after at o next b r free is =
    subst (λ h. IsBelow h (Ref at)) (sym is) (record {
      entries = (at, o) ∷ b.entries;
      leads = (refl, subst (λ from. Leads from b.entries []) (sym (append-nil (refs o) ∙ r)) b.leads);
      are_in = (got-there heap at o, still_in heap at o b.entries free b.are_in);
      once = (new_place heap at b.entries free b.are_in, b.once);
    })
