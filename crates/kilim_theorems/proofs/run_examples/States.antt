-- Small states judged: who reaches what in them.
use Rattle.std.proofs.Common.{◌≡◌, ℕ, zero, suc, Bool, true, false, [], ◌∷◌, Some, None, refl, sym, ap, ◌∙◌, ◌+◌, subst, inl, inr, arith, ◌⊎◌}
use Rattle.std.proofs.lemmas.Bool.Decides.{nat_tests}
use Rattle.std.proofs.lemmas.Option.{same_Some}
use Rattle.kilim_lemmas.proofs.Maps.{put_other, put_there}
use Rattle.std.specs.Prelude.{if◌then◌else◌, slice_get}
use Rattle.std.specs.FinMap.{get}
use Rattle.kilim_program.specs.declared.names.BoxName.{BoxName}
use Rattle.kilim_run_state.specs.declared.value.Object.{Object}
use Rattle.kilim_run_model.specs.State.{empty_mailbox, same_box}
use Rattle.kilim_run_model.specs.Turn.{kept_by}
use Rattle.kilim_run_model.specs.Reach.{Holds, Below, Here, Then, OptionNames, Reaches, IsQueued, QueueReaches}
use Rattle.kilim_theorems.specs.run_examples.States.{EachHasOne, OnTwoStacks, BelowAnother, InALiveLocal, InALocalBelow, OnAStackAndInAQueue, TwiceInAQueue, StatesAreJudged, holding, leaf, three, box, parted, none_live}

apart : (n : ℕ) → 0 ≡ suc n → ⊥
apart n e = cc

dead : false ≡ true → ⊥
dead e = cc

differ : (n k : ℕ) → n ≡ suc (n + k) → ⊥
differ n k e = omega (arith, e)

-- ---- the heap

at_zero : get three 0 ≡ Some (holding 1)
at_zero = put_other _ 2 leaf 0 (apart 1) ∙ (put_other _ 1 leaf 0 (apart 0) ∙ put_there _ 0 (holding 1))

at_one : get three 1 ≡ Some leaf
at_one = put_other _ 2 leaf 1 (differ 1 0) ∙ put_there _ 1 leaf

at_two : get three 2 ≡ Some leaf
at_two = put_there _ 2 leaf

-- ---- what hangs below 2, and below 0

no_part : (x : ℕ) → Holds leaf x → ⊥
no_part x (inl d) = d
no_part x (inr d) = d

below_leaf : (o : Object) (x : ℕ) → Some leaf ≡ Some o → Holds o x → ⊥
below_leaf o x e h = no_part x (subst (λ z. Holds z x) (sym (same_Some _ _ e)) h)

from_two : (n x : ℕ) → n ≡ 2 → Below three n x → x ≡ 2
from_two n x e (Here d) = sym d ∙ e
from_two n x e (Then y o b g h) = absurd (below_leaf o x (sym at_two ∙ (sym (ap (get three) (from_two n y e b)) ∙ g)) h)

its_part : (x : ℕ) → Holds (holding 1) x → x ≡ 1
its_part x (inl (inl d)) = sym d
its_part x (inl (inr d)) = absurd d
its_part x (inr d) = absurd d

next_below : (y : ℕ) (o : Object) (x : ℕ) → (y ≡ 0) ⊎ (y ≡ 1) → get three y ≡ Some o → Holds o x → (x ≡ 0) ⊎ (x ≡ 1)
next_below y o x (inl d) g h = inr (its_part x (subst (λ z. Holds z x) (sym (same_Some _ _ (sym at_zero ∙ (sym (ap (get three) d) ∙ g)))) h))
next_below y o x (inr d) g h = absurd (below_leaf o x (sym at_one ∙ (sym (ap (get three) d) ∙ g)) h)

from_zero : (n x : ℕ) → n ≡ 0 → Below three n x → (x ≡ 0) ⊎ (x ≡ 1)
from_zero n x e (Here d) = inl (sym d ∙ e)
from_zero n x e (Then y o b g h) = next_below y o x (from_zero n y e b) g h

-- ---- the state in which each object has one who reaches it

names_of_first : (n : ℕ) → OptionNames none_live (slice_get parted.threads 0) (kept_by parted 0) n → ⊥
names_of_first n (inl (inl d)) = d
names_of_first n (inl (inr (inl (inl d)))) = dead d.0
names_of_first n (inl (inr (inl (inr (inl d))))) = dead d.0
names_of_first n (inl (inr (inl (inr (inr d))))) = d
names_of_first n (inl (inr (inr d))) = d
names_of_first n (inr d) = d

names_of_second : (n : ℕ) → OptionNames none_live (slice_get parted.threads 1) (kept_by parted 1) n → n ≡ 2
names_of_second n (inl (inl (inl d))) = sym d
names_of_second n (inl (inl (inr d))) = absurd d
names_of_second n (inl (inr (inl d))) = absurd d
names_of_second n (inl (inr (inr d))) = absurd d
names_of_second n (inr d) = absurd d

by_second : (t x : ℕ) → Reaches none_live parted t x → (t ≡ 1) × (x ≡ 2)
by_second zero x r = absurd (names_of_first r.0 r.1)
by_second (suc zero) x r = (refl, from_two r.0 x (names_of_second r.0 r.1) r.2)
by_second (suc (suc k)) x r = absurd r.1

queued_where : (s : Bool) (i n : ℕ) → IsQueued (if s then record { most = None; puts = 1; queue = (0, 0) ∷ [] } else empty_mailbox).queue i n → (s ≡ true) × (0 ≡ i) × (0 ≡ n)
queued_where true i n (inl d) = (refl, d.0, d.1)
queued_where true i n (inr d) = absurd d
queued_where false i n d = absurd d

named : ℕ → ℕ → BoxName
named t n = record { task = t; number = n }

same_name : (a b : BoxName) → same_box a b ≡ true → a ≡ b
unfolding named
same_name a b e =
    let f : a.task ≡ b.task = grind (arith, nat_tests) in
    let g : a.number ≡ b.number = grind (arith, nat_tests) in
    ap (λ t. named t a.number) f ∙ ap (λ n. named b.task n) g

by_queue : (b : BoxName) (i x : ℕ) → QueueReaches parted b i x → (b ≡ box) × (0 ≡ i) × ((x ≡ 0) ⊎ (x ≡ 1))
by_queue b i x r =
    let at = queued_where (same_box b box) i r.0 r.1 in
    (same_name b box at.0, at.1, from_zero r.0 x (sym at.2) r.2)

not_both : (x : ℕ) → x ≡ 2 → (x ≡ 0) ⊎ (x ≡ 1) → ⊥
not_both x e (inl d) = cc
not_both x e (inr d) = cc

each_has_one : EachHasOne
each_has_one = record {
  threads = λ t u x a b. (by_second t x a).0 ∙ sym (by_second u x b).0;
  places = λ t b i x a q. not_both x (by_second t x a).1 (by_queue b i x q).2;
  queues = λ a b i j x q r. let at = by_queue a i x q in let to = by_queue b j x r in (at.0 ∙ sym to.0, sym at.1 ∙ to.1);
}

-- ---- the others

on_two_stacks : OnTwoStacks
on_two_stacks i = apart 0 (i.threads 0 1 1 (1, inl (inl (inl refl)), Here refl) (1, inl (inl (inl refl)), Here refl))

below_another : BelowAnother
below_another i = apart 0 (i.threads 0 1 1 (0, inl (inl (inl refl)), Then 0 (holding 1) (Here refl) at_zero (inl (inl refl))) (1, inl (inl (inl refl)), Here refl))

in_a_live_local : InALiveLocal
in_a_live_local i = apart 0 (i.threads 0 1 1 (1, inl (inl (inl refl)), Here refl) (1, inl (inr (inl (inl (refl, refl)))), Here refl))

in_a_local_below : InALocalBelow
in_a_local_below i = apart 0 (i.threads 0 1 1 (1, inl (inl (inl refl)), Here refl) (1, inl (inr (inr (inr (inl (inl (refl, refl)))))), Here refl))

on_a_stack_and_in_a_queue : OnAStackAndInAQueue
on_a_stack_and_in_a_queue i = i.places 0 box 0 1 (1, inl (inl (inl refl)), Here refl) (0, inl (refl, refl), Then 0 (holding 1) (Here refl) at_zero (inl (inl refl)))

twice_in_a_queue : TwiceInAQueue
twice_in_a_queue i = apart 0 (i.queues box box 0 1 1 (1, inl (refl, refl), Here refl) (1, inr (inl (refl, refl)), Here refl)).1

pub states_are_judged : StatesAreJudged
states_are_judged = record {
  on_two_stacks = on_two_stacks;
  below_another = below_another;
  in_a_live_local = in_a_live_local;
  in_a_local_below = in_a_local_below;
  on_a_stack_and_in_a_queue = on_a_stack_and_in_a_queue;
  twice_in_a_queue = twice_in_a_queue;
  each_has_one = each_has_one;
}
