-- Places that were free.
use Rattle.std.proofs.Common.{◌≡◌, ℕ, zero, suc, ◌⊎◌, inl, inr, List, [], ◌∷◌, ◌++◌, Option, None, length, refl, sym, ap, subst, ◌∙◌, arith}
use Rattle.std.specs.List.{AllByRecursion}
use Rattle.std.specs.Prelude.{IsSome}
use Rattle.std.specs.FinMap.{get, insert, remove}
use Rattle.kilim_run_state.specs.declared.value.Object.{Object}
use Rattle.kilim_run_state.specs.Machine.{Objects}
use Rattle.kilim_run_state.specs.Places.{AllDiffer}
use Rattle.kilim_run_state.specs.Words.{IsThere}
use Rattle.kilim_run_trees.specs.Steps.{Blanked}
use Rattle.kilim_run_trees.proofs.Maps.{got-there, got-other, gone-there, gone-other, same_objects}

pub nat_dec : (k q : ℕ) → (k ≡ q) ⊎ (k ≡ q → ⊥)
nat_dec zero zero = inl refl
nat_dec zero (suc q) = inr (λ e. absurd (omega arith))
nat_dec (suc k) zero = inr (λ e. absurd (omega arith))
nat_dec (suc k) (suc q) = elim (nat_dec k q) [ inl e ↦ inl (ap suc e) | inr ne ↦ inr (λ e. ne (omega arith)) ]

pub all_into : (P Q : ℕ → Type 0) (fs : List ℕ) → ((q : ℕ) → P q → Q q) → AllByRecursion P fs → AllByRecursion Q fs
all_into P Q [] f a = tt
all_into P Q (x ∷ fs) f a = (f x a.0, all_into P Q fs f a.1)

pub all_two : (P Q R : ℕ → Type 0) (fs : List ℕ) → ((q : ℕ) → P q → Q q → R q) → AllByRecursion P fs → AllByRecursion Q fs → AllByRecursion R fs
all_two P Q R [] f a b = tt
all_two P Q R (x ∷ fs) f a b = (f x a.0 b.0, all_two P Q R fs f a.1 b.1)

pub all_front : (P : ℕ → Type 0) (fs gs : List ℕ) → AllByRecursion P (fs ++ gs) → AllByRecursion P fs
all_front P [] gs a = tt
all_front P (x ∷ fs) gs a = (a.0, all_front P fs gs a.1)

pub all_last : (P : ℕ → Type 0) (fs : List ℕ) (q : ℕ) → AllByRecursion P (fs ++ q ∷ []) → P q
all_last P [] q a = a.0
all_last P (x ∷ fs) q a = all_last P fs q a.1

pub all_more : (P : ℕ → Type 0) (fs : List ℕ) (q : ℕ) → AllByRecursion P fs → P q → AllByRecursion P (fs ++ q ∷ [])
all_more P [] q a p = (p, tt)
all_more P (x ∷ fs) q a p = (a.0, all_more P fs q a.1 p)

pub different_front : (fs gs : List ℕ) → AllDiffer (fs ++ gs) → AllDiffer fs
different_front [] gs d = tt
different_front (x ∷ fs) gs d = (all_front (λ y. x ≡ y → ⊥) fs gs d.0, different_front fs gs d.1)

pub others_differ : (fs : List ℕ) (q : ℕ) → AllDiffer (fs ++ q ∷ []) → AllByRecursion (λ f. f ≡ q → ⊥) fs
others_differ [] q d = tt
others_differ (x ∷ fs) q d = (all_last (λ y. x ≡ y → ⊥) fs q d.0, others_differ fs q d.1)

pub different_more : (fs : List ℕ) (q : ℕ) → AllDiffer fs → AllByRecursion (λ f. f ≡ q → ⊥) fs → AllDiffer (fs ++ q ∷ [])
different_more [] q d a = (tt, tt)
different_more (x ∷ fs) q d a = (all_more (λ y. x ≡ y → ⊥) fs q d.0 a.0, different_more fs q d.1 a.1)

turned : (p q : ℕ) → (p ≡ q → ⊥) → q ≡ p → ⊥
turned p q ne e = ne (sym e)

not_there : (now : Objects) (q : ℕ) → get now q ≡ None → (m : ℕ) → IsThere now m → m ≡ q → ⊥
not_there now q none m there e = let h : IsThere now q = subst (λ m. IsThere now m) e there in let nothing : Option Object = None in let bad : IsSome nothing = subst (λ o. IsSome o) none h in cc

pub blank_more : (heap now : Objects) (ns : List ℕ) (q : ℕ) (o : Object) → Blanked heap now ns → get now q ≡ None → Blanked heap (insert now q o) (ns ++ q ∷ [])
blank_more heap now ns q o b none =
    let apart : AllByRecursion (λ m. m ≡ q → ⊥) ns = all_into (IsThere now) (λ m. m ≡ q → ⊥) ns (λ m h. not_there now q none m h) b.there in
    let apart' : AllByRecursion (λ m. q ≡ m → ⊥) ns = all_into (λ m. m ≡ q → ⊥) (λ m. q ≡ m → ⊥) ns (λ m ne. turned m q ne) apart in
    record {
      free = all_more (λ n. get heap n ≡ None) ns q b.free (sym (b.others q apart') ∙ none);
      once = different_more ns q b.once apart;
      there = all_more (IsThere (insert now q o)) ns q (all_two (IsThere now) (λ m. m ≡ q → ⊥) (IsThere (insert now q o)) ns (λ m h ne. subst (λ x. IsSome x) (sym (got-other now q o m ne)) h) b.there apart) (subst (λ x. IsSome x) (sym (got-there now q o)) refl);
      others = λ n a. got-other now q o n (all_last (λ m. n ≡ m → ⊥) ns q a) ∙ b.others n (all_front (λ m. n ≡ m → ⊥) ns (q ∷ []) a);
    }

pub blank_less : (heap now : Objects) (ns : List ℕ) (q : ℕ) → Blanked heap now (ns ++ q ∷ []) → Blanked heap (remove now q) ns
blank_less heap now ns q b = record {
  free = all_front (λ n. get heap n ≡ None) ns (q ∷ []) b.free;
  once = different_front ns (q ∷ []) b.once;
  there = all_two (IsThere now) (λ m. m ≡ q → ⊥) (IsThere (remove now q)) ns (λ m h ne. subst (λ x. IsSome x) (sym (gone-other now q m ne)) h) (all_front (IsThere now) ns (q ∷ []) b.there) (others_differ ns q b.once);
  others = λ n a. elim (nat_dec n q) [
    | inl e ↦ subst (λ n. get (remove now q) n ≡ get heap n) (sym e) (gone-there now q ∙ sym (all_last (λ n. get heap n ≡ None) ns q b.free))
    | inr ne ↦ gone-other now q n ne ∙ b.others n (all_more (λ m. n ≡ m → ⊥) ns q a ne)
  ];
}

pub blank_last : (heap now : Objects) (ns : List ℕ) (q : ℕ) → Blanked heap now (ns ++ q ∷ []) → IsThere now q
blank_last heap now ns q b = all_last (IsThere now) ns q b.there

pub blank_over : (heap now : Objects) (ns : List ℕ) → length ns ≡ 0 → Blanked heap now ns → now ≡ heap
blank_over heap now [] e b = same_objects now heap (λ n. b.others n tt)
blank_over heap now (n ∷ ns) e b = absurd (omega arith)

-- in the words of the calls
pub add_blank : (heap now after : Objects) (ns ns' : List ℕ) (q : ℕ) (o : Object) → Blanked heap now ns → get now q ≡ None → after ≡ insert now q o → ns' ≡ ns ++ q ∷ [] → Blanked heap after ns'
add_blank heap now after ns ns' q o b none a n = subst (λ ns. Blanked heap after ns) (sym n) (subst (λ h. Blanked heap h (ns ++ q ∷ [])) (sym a) (blank_more heap now ns q o b none))

pub free_blank : (heap now after : Objects) (ns ns' : List ℕ) (q : ℕ) → Blanked heap now ns → ns ≡ ns' ++ q ∷ [] → after ≡ remove now q → Blanked heap after ns'
free_blank heap now after ns ns' q b n a = subst (λ h. Blanked heap h ns') (sym a) (blank_less heap now ns' q (subst (Blanked heap now) n b))

pub last_there : (heap now : Objects) (ns ns' : List ℕ) (q : ℕ) → Blanked heap now ns → ns ≡ ns' ++ q ∷ [] → IsThere now q
last_there heap now ns ns' q b n = blank_last heap now ns' q (subst (Blanked heap now) n b)
