-- Objects below pending places.
use Rattle.std.proofs.Common.{◌≡◌, ℕ, List, [], ◌∷◌, ◌++◌, None, refl, sym, ap, subst, ◌∙◌, reverse, append_assoc}
use Rattle.std.specs.List.{flat_map}
use Rattle.std.specs.FinMap.{get, insert}
use Rattle.std.proofs.lemmas.List.{append-nil}
use Rattle.kilim_run_state.specs.declared.value.Object.{Object}
use Rattle.kilim_run_state.specs.Machine.{Objects}
use Rattle.kilim_run_state.proofs.Maps.{got-there}
use Rattle.kilim_run_trees.specs.Walk.{refs, Leads}
use Rattle.kilim_run_trees.proofs.Stacks.{pop_reversed}
use Rattle.kilim_case_text.specs.run_tables.Chains.{AreBelow, IsOwn}
use Rattle.kilim_case_text.proofs.run_tables.Chained.{still_in, new_place}

none_pending : (heap : Objects) → AreBelow heap []
none_pending heap = record { entries = []; leads = refl; are_in = tt; once = tt }

pub none_yet : (heap : Objects) (pending : List ℕ) → pending ≡ [] → AreBelow heap (reverse pending)
none_yet heap pending e = subst (λ (ps : List ℕ). AreBelow heap (reverse ps)) (sym e) (none_pending heap)

-- an object comes in place of those that it refers to
pub one_more_below : (heap after : Objects) (at : ℕ) (o : Object) (old rest now : List ℕ) → AreBelow heap (reverse old) → reverse old ≡ refs o ++ reverse rest → get heap at ≡ None → after ≡ insert heap at o → now ≡ rest ++ at ∷ [] → AreBelow after (reverse now)
one_more_below heap after at o old rest now b r free is pushed =
    let more : AreBelow (insert heap at o) (at ∷ reverse rest) = record {
      entries = (at, o) ∷ b.entries;
      leads = (refl, subst (λ from. Leads from b.entries []) r b.leads);
      are_in = (got-there heap at o, still_in heap at o b.entries free b.are_in);
      once = (new_place heap at b.entries free b.are_in, b.once);
    } in
    subst (λ h. AreBelow h (reverse now)) (sym is) (subst (λ from. AreBelow (insert heap at o) from) (sym (pop_reversed now rest at pushed)) more)

pub last_is_own : (heap : Objects) (root : ℕ) (old rest : List ℕ) → AreBelow heap (reverse old) → old ≡ rest ++ root ∷ [] → rest ≡ [] → IsOwn heap root
last_is_own heap root old rest b e none =
    let one : reverse old ≡ root ∷ [] = pop_reversed old rest root e ∙ ap (λ xs. root ∷ reverse xs) none in
    record { entries = b.entries; tree = record { leads = subst (λ from. Leads from b.entries []) one b.leads; are_in = b.are_in }; once = b.once }
