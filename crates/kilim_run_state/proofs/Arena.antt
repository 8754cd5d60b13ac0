-- The places of an arena as a map.
use Rattle.std.proofs.Common.{◌≡◌, ℕ, zero, suc, ◌+◌, ◌<◌, ◌≤◌, Bool, false, true≢false, List, [], ◌∷◌, ◌++◌, Option, Some, None, length, get_or, set, refl, sym, ap, subst, ◌∙◌, rules, arith, length-append, get_or-set_other, get_or-set_same, inl, inr, ◌⊎◌}
use Rattle.std.specs.Prelude.{IsSome, IfOk, Result, Ok, Err, is_err}
use Rattle.std.proofs.Math.ListN.{length-set}
use Rattle.std.specs.FinMap.{empty, get, insert, remove, get-empty}
use Rattle.std.specs.List.{AllByRecursion}
use Rattle.std.specs.Ordering.{nat_cmp}
use Rattle.kilim_run_state.specs.declared.value.Object.{Object}
use Rattle.kilim_run_state.specs.Machine.{Objects}
use Rattle.kilim_run_state.specs.Places.{objects_from, IsArena, AllDiffer, IsFreeAt, taken}
use Rattle.kilim_run_state.proofs.Maps.{got-there, got-other, gone-there, gone-other, same_objects}

plus_zero : (n : ℕ) → n ≡ n + 0
plus_zero n = omega arith

plus_suc : (n k : ℕ) → suc n + k ≡ n + suc k
plus_suc n k = omega arith

not_itself : (n k : ℕ) → (n + suc k ≡ n) → ⊥
not_itself n k e = absurd (omega arith)

not_below : (q n : ℕ) → q < n → q ≡ n → ⊥
not_below q n lt e = absurd (omega arith)

below_next : (q n : ℕ) → q < n → q < suc n
below_next q n lt = omega arith

own_next : (n : ℕ) → n < suc n
own_next n = omega arith

pub below : (ps : List (Option Object)) (n q : ℕ) → q < n → get (objects_from n ps) q ≡ None
unfolding objects_from
below [] n q lt = get-empty nat_cmp q
below (None ∷ ps) n q lt = below ps (suc n) q (below_next q n lt)
below (Some o ∷ ps) n q lt = got-other _ n o q (not_below q n lt) ∙ below ps (suc n) q (below_next q n lt)

-- what stands at a place of the list
pub at : (ps : List (Option Object)) (n k : ℕ) → get (objects_from n ps) (n + k) ≡ get_or ps k None
unfolding objects_from
at [] n k = get-empty nat_cmp (n + k)
at (None ∷ ps) n zero = ap (get (objects_from (suc n) ps)) (sym (plus_zero n)) ∙ below ps (suc n) n (own_next n)
at (None ∷ ps) n (suc k) = ap (get (objects_from (suc n) ps)) (sym (plus_suc n k)) ∙ at ps (suc n) k
at (Some o ∷ ps) n zero = ap (get (insert (objects_from (suc n) ps) n o)) (sym (plus_zero n)) ∙ got-there _ n o
at (Some o ∷ ps) n (suc k) = got-other _ n o (n + suc k) (not_itself n k) ∙ (ap (get (objects_from (suc n) ps)) (sym (plus_suc n k)) ∙ at ps (suc n) k)

no_plus : (k : ℕ) → k ≡ 0 + k
no_plus k = omega arith

pub at_place : (ps : List (Option Object)) (k : ℕ) → get (objects_from 0 ps) k ≡ get_or ps k None
at_place ps k = ap (get (objects_from 0 ps)) (no_plus k) ∙ at ps 0 k

-- two lists that have the same at each place are one map
pub one_map : (ps : List (Option Object)) (h : Objects) → ((k : ℕ) → get_or ps k None ≡ get h k) → objects_from 0 ps ≡ h
one_map ps h is = same_objects _ _ (λ k. at_place ps k ∙ is k)

pub nat_dec : (k q : ℕ) → (k ≡ q) ⊎ (k ≡ q → ⊥)
nat_dec zero zero = inl refl
nat_dec zero (suc q) = inr (λ e. absurd (omega arith))
nat_dec (suc k) zero = inr (λ e. absurd (omega arith))
nat_dec (suc k) (suc q) = elim (nat_dec k q) [ inl e ↦ inl (ap suc e) | inr ne ↦ inr (λ e. ne (omega arith)) ]

-- ---- the list of free places

pub all_into : (P Q : ℕ → Type 0) (fs : List ℕ) → ((q : ℕ) → P q → Q q) → AllByRecursion P fs → AllByRecursion Q fs
all_into P Q [] f a = tt
all_into P Q (x ∷ fs) f a = (f x a.0, all_into P Q fs f a.1)

pub all_front : (P : ℕ → Type 0) (fs gs : List ℕ) → AllByRecursion P (fs ++ gs) → AllByRecursion P fs
all_front P [] gs a = tt
all_front P (x ∷ fs) gs a = (a.0, all_front P fs gs a.1)

pub all_last : (P : ℕ → Type 0) (fs : List ℕ) (q : ℕ) → AllByRecursion P (fs ++ q ∷ []) → P q
all_last P [] q a = a.0
all_last P (x ∷ fs) q a = all_last P fs q a.1

pub all_more : (P : ℕ → Type 0) (fs : List ℕ) (q : ℕ) → AllByRecursion P fs → P q → AllByRecursion P (fs ++ q ∷ [])
all_more P [] q a p = (p, tt)
all_more P (x ∷ fs) q a p = (a.0, all_more P fs q a.1 p)

both_all : (P Q : ℕ → Type 0) (fs : List ℕ) → AllByRecursion P fs → AllByRecursion Q fs → AllByRecursion (λ q. P q × Q q) fs
both_all P Q [] a b = tt
both_all P Q (x ∷ fs) a b = ((a.0, b.0), both_all P Q fs a.1 b.1)

different_front : (fs gs : List ℕ) → AllDiffer (fs ++ gs) → AllDiffer fs
different_front [] gs d = tt
different_front (x ∷ fs) gs d = (all_front (λ y. x ≡ y → ⊥) fs gs d.0, different_front fs gs d.1)

-- the last one is none of the others
others_differ : (fs : List ℕ) (q : ℕ) → AllDiffer (fs ++ q ∷ []) → AllByRecursion (λ f. f ≡ q → ⊥) fs
others_differ [] q d = tt
others_differ (x ∷ fs) q d = (all_last (λ y. x ≡ y → ⊥) fs q d.0, others_differ fs q d.1)

different_more : (fs : List ℕ) (q : ℕ) → AllDiffer fs → AllByRecursion (λ f. f ≡ q → ⊥) fs → AllDiffer (fs ++ q ∷ [])
different_more [] q d a = (tt, tt)
different_more (x ∷ fs) q d a = (all_more (λ y. x ≡ y → ⊥) fs q d.0 a.0, different_more fs q d.1 a.1)

-- ---- how many places are taken

pub taken_filled : (ps : List (Option Object)) (q : ℕ) (o : Object) → q < length ps → get_or ps q None ≡ None → taken (set ps q (Some o)) ≡ suc (taken ps)
taken_filled [] q o lt e = absurd (omega arith)
taken_filled (None ∷ ps) zero o lt e = refl
taken_filled (Some p ∷ ps) zero o lt e = cc
taken_filled (None ∷ ps) (suc q) o lt e = let lt' : q < length ps = omega arith in taken_filled ps q o lt' e
taken_filled (Some p ∷ ps) (suc q) o lt e = let lt' : q < length ps = omega arith in ap suc (taken_filled ps q o lt' e)

pub taken_emptied : (ps : List (Option Object)) (q : ℕ) (o : Object) → get_or ps q None ≡ Some o → suc (taken (set ps q None)) ≡ taken ps
taken_emptied [] q o e = cc
taken_emptied (None ∷ ps) zero o e = cc
taken_emptied (Some p ∷ ps) zero o e = refl
taken_emptied (None ∷ ps) (suc q) o e = taken_emptied ps q o e
taken_emptied (Some p ∷ ps) (suc q) o e = ap suc (taken_emptied ps q o e)

pub taken_kept : (ps : List (Option Object)) (q : ℕ) (o new : Object) → get_or ps q None ≡ Some o → taken (set ps q (Some new)) ≡ taken ps
taken_kept [] q o new e = refl
taken_kept (None ∷ ps) zero o new e = cc
taken_kept (Some p ∷ ps) zero o new e = refl
taken_kept (None ∷ ps) (suc q) o new e = taken_kept ps q o new e
taken_kept (Some p ∷ ps) (suc q) o new e = ap suc (taken_kept ps q o new e)

taken_end : (ps : List (Option Object)) (o : Object) → taken (ps ++ Some o ∷ []) ≡ suc (taken ps)
taken_end [] o = refl
taken_end (None ∷ ps) o = taken_end ps o
taken_end (Some p ∷ ps) o = ap suc (taken_end ps o)

pub there_within : (ps : List (Option Object)) (q : ℕ) (o : Object) → get_or ps q None ≡ Some o → q < length ps
there_within [] q o e = cc
there_within (p ∷ ps) zero o e = omega arith
there_within (p ∷ ps) (suc q) o e = let h = there_within ps q o e in omega arith

-- a place that was emptied is still there
pub emptied_within : (ps mid : List (Option Object)) (q : ℕ) (o : Object) → get_or ps q None ≡ Some o → mid ≡ set ps q None → q < length mid
emptied_within ps mid q o there is = omega (arith, there_within ps q o there, ap length is, length-set ps q None)

-- ---- the arena's facts

pub new_arena : (ps : List (Option Object)) (fs : List ℕ) (room : ℕ) → ps ≡ [] → fs ≡ [] → IsArena ps fs room
new_arena ps fs room e f =
    subst (λ ps. IsArena ps fs room) (sym e) (subst (λ fs. IsArena [] fs room) (sym f) (record { room_for_all = omega arith; counted = refl; empty_places = tt; different = tt }))

pub no_places : (ps : List (Option Object)) → ps ≡ [] → objects_from 0 ps ≡ empty
unfolding objects_from
no_places ps e = ap (objects_from 0) e

free_after : (ps : List (Option Object)) (q f : ℕ) (v : Option Object) → (f ≡ q → ⊥) → IsFreeAt ps f → IsFreeAt (set ps q v) f
free_after ps q f v ne h = (rw length-set h.0, get_or-set_other ps q f v None ne ∙ h.1)

-- an object at the free place that was listed last
pub filled_arena : (ps : List (Option Object)) (fs : List ℕ) (q : ℕ) (o : Object) (room : ℕ) → IsArena ps (fs ++ q ∷ []) room → IsArena (set ps q (Some o)) fs room
filled_arena ps fs q o room a =
    let free : IsFreeAt ps q = all_last (IsFreeAt ps) fs q a.empty_places in
    let counts : taken (set ps q (Some o)) ≡ suc (taken ps) = taken_filled ps q o free.0 free.1 in
    record {
      room_for_all = rw length-set a.room_for_all;
      counted = omega (arith, counts, a.counted, length-append fs (q ∷ []), length-set ps q (Some o));
      empty_places = all_into (λ f. IsFreeAt ps f × (f ≡ q → ⊥)) (IsFreeAt (set ps q (Some o))) fs (λ f h. free_after ps q f (Some o) h.1 h.0) (both_all (IsFreeAt ps) (λ f. f ≡ q → ⊥) fs (all_front (IsFreeAt ps) fs (q ∷ []) a.empty_places) (others_differ fs q a.different));
      different = different_front fs (q ∷ []) a.different;
    }

pub filled_map : (ps : List (Option Object)) (q : ℕ) (v : Object) → q < length ps → objects_from 0 (set ps q (Some v)) ≡ insert (objects_from 0 ps) q v
filled_map ps q v lt = one_map _ _ (λ k. elim (nat_dec k q) [ inl e ↦ subst (λ k. get_or (set ps q (Some v)) k None ≡ get (insert (objects_from 0 ps) q v) k) (sym e) (get_or-set_same ps q (Some v) None lt ∙ sym (got-there _ q v)) | inr ne ↦ get_or-set_other ps q k (Some v) None ne ∙ sym (got-other _ q v k ne ∙ at_place ps k) ])

pub emptied_map : (ps : List (Option Object)) (q : ℕ) → q < length ps → objects_from 0 (set ps q None) ≡ remove (objects_from 0 ps) q
emptied_map ps q lt = one_map _ _ (λ k. elim (nat_dec k q) [ inl e ↦ subst (λ k. get_or (set ps q None) k None ≡ get (remove (objects_from 0 ps) q) k) (sym e) (get_or-set_same ps q None None lt ∙ sym (gone-there _ q)) | inr ne ↦ get_or-set_other ps q k None None ne ∙ sym (gone-other _ q k ne ∙ at_place ps k) ])

pub emptied_arena : (ps : List (Option Object)) (fs : List ℕ) (q : ℕ) (o : Object) (room : ℕ) → IsArena ps fs room → get_or ps q None ≡ Some o → IsArena (set ps q None) (fs ++ q ∷ []) room × (length fs < room)
emptied_arena ps fs q o room a e =
    let lt : q < length ps = there_within ps q o e in
    let counts : suc (taken (set ps q None)) ≡ taken ps = taken_emptied ps q o e in
    let taken_one : (f : ℕ) → IsFreeAt ps f → f ≡ q → ⊥ = λ f h is. let e' : get_or ps q None ≡ None = subst (λ f. get_or ps f None ≡ None) is h.1 in cc in
    let free' : (f : ℕ) → IsFreeAt ps f → IsFreeAt (set ps q None) f = λ f h. free_after ps q f None (taken_one f h) h in
    let own : IsFreeAt (set ps q None) q = (rw length-set lt, get_or-set_same ps q None None lt) in (
      record {
        room_for_all = rw length-set a.room_for_all;
        counted = omega (arith, counts, a.counted, length-append fs (q ∷ []), length-set ps q None);
        empty_places = all_more (IsFreeAt (set ps q None)) fs q (all_into (IsFreeAt ps) (IsFreeAt (set ps q None)) fs free' a.empty_places) own;
        different = different_more fs q a.different (all_into (IsFreeAt ps) (λ f. f ≡ q → ⊥) fs taken_one a.empty_places);
      },
      omega (arith, counts, a.counted, a.room_for_all),
    )

pub kept_arena : (ps : List (Option Object)) (fs : List ℕ) (q : ℕ) (o new : Object) (room : ℕ) → IsArena ps fs room → get_or ps q None ≡ Some o → IsArena (set ps q (Some new)) fs room
kept_arena ps fs q o new room a e =
    let taken_one : (f : ℕ) → IsFreeAt ps f → f ≡ q → ⊥ = λ f h is. let e' : get_or ps q None ≡ None = subst (λ f. get_or ps f None ≡ None) is h.1 in cc in
    record {
      room_for_all = rw length-set a.room_for_all;
      counted = omega (arith, taken_kept ps q o new e, a.counted, length-set ps q (Some new));
      empty_places = all_into (IsFreeAt ps) (IsFreeAt (set ps q (Some new))) fs (λ f h. free_after ps q f (Some new) (taken_one f h) h) a.empty_places;
      different = a.different;
    }

-- a new place at the end, where no place is free
pub grown_arena : (ps : List (Option Object)) (fs : List ℕ) (o : Object) (room room' : ℕ) → IsArena ps fs room → length fs ≡ 0 → length (ps ++ Some o ∷ []) ≤ room' → IsArena (ps ++ Some o ∷ []) fs room'
grown_arena ps [] o room room' a none fits = record {
  room_for_all = fits;
  counted = omega (arith, a.counted, taken_end ps o, length-append ps (Some o ∷ []));
  empty_places = tt;
  different = tt;
}
grown_arena ps (f ∷ fs) o room room' a none fits = absurd (omega arith)

pub more_room : (ps : List (Option Object)) (fs : List ℕ) (room room' : ℕ) → IsArena ps fs room → room ≤ room' → IsArena ps fs room'
more_room ps fs room room' a le = record { room_for_all = omega (arith, a.room_for_all); counted = a.counted; empty_places = a.empty_places; different = a.different }

end_other : (ps : List (Option Object)) (v : Option Object) (k : ℕ) → (k ≡ length ps → ⊥) → get_or (ps ++ v ∷ []) k None ≡ get_or ps k None
end_other [] v zero ne = absurd (ne refl)
end_other [] v (suc k) ne = refl
end_other (p ∷ ps) v zero ne = refl
end_other (p ∷ ps) v (suc k) ne = end_other ps v k (λ e. ne (ap suc e))

end_there : (ps : List (Option Object)) (v : Option Object) → get_or (ps ++ v ∷ []) (length ps) None ≡ v
end_there [] v = refl
end_there (p ∷ ps) v = end_there ps v

past_end : (ps : List (Option Object)) → get_or ps (length ps) None ≡ None
past_end [] = refl
past_end (p ∷ ps) = past_end ps

pub grown_map : (ps : List (Option Object)) (v : Object) → objects_from 0 (ps ++ Some v ∷ []) ≡ insert (objects_from 0 ps) (length ps) v
grown_map ps v = one_map _ _ (λ k. elim (nat_dec k (length ps)) [ inl e ↦ subst (λ k. get_or (ps ++ Some v ∷ []) k None ≡ get (insert (objects_from 0 ps) (length ps) v) k) (sym e) (end_there ps (Some v) ∙ sym (got-there _ (length ps) v)) | inr ne ↦ end_other ps (Some v) k ne ∙ sym (got-other _ (length ps) v k ne ∙ at_place ps k) ])

pub none_at_end : (ps : List (Option Object)) → get (objects_from 0 ps) (length ps) ≡ None
none_at_end ps = at_place ps (length ps) ∙ past_end ps

pub there_in : (ps : List (Option Object)) (h : Objects) (q : ℕ) → objects_from 0 ps ≡ h → IsSome (get h q) → IsSome (get_or ps q None)
there_in ps h q e there = subst (λ o. IsSome o) (sym (sym (at_place ps q) ∙ ap (λ h. get h q) e)) there

pub found_in : (ps : List (Option Object)) (h : Objects) (q : ℕ) (v : Option Object) → objects_from 0 ps ≡ h → get_or ps q None ≡ v → get h q ≡ v
found_in ps h q v e is = ap (λ h. get h q) (sym e) ∙ (at_place ps q ∙ is)

-- ---- the calls

pub now_filled : (ps ps' : List (Option Object)) (fs fs' : List ℕ) (q : ℕ) (o : Object) (room room' : ℕ) → IsArena ps fs room → fs ≡ fs' ++ q ∷ [] → ps' ≡ set ps q (Some o) → room' ≡ room → IsArena ps' fs' room'
now_filled ps ps' fs fs' q o room room' a f p r =
    let a' : IsArena ps (fs' ++ q ∷ []) room = subst (λ fs. IsArena ps fs room) f a in
    subst (λ ps. IsArena ps fs' room') (sym p) (subst (λ room. IsArena (set ps q (Some o)) fs' room) (sym r) (filled_arena ps fs' q o room a'))

pub last_is_free : (ps : List (Option Object)) (fs fs' : List ℕ) (q room : ℕ) → IsArena ps fs room → fs ≡ fs' ++ q ∷ [] → IsFreeAt ps q
last_is_free ps fs fs' q room a f = all_last (IsFreeAt ps) fs' q (subst (AllByRecursion (IsFreeAt ps)) f a.empty_places)

pub now_added : (h : Objects) (ps ps' : List (Option Object)) (q : ℕ) (o : Object) → objects_from 0 ps ≡ h → IsFreeAt ps q → ps' ≡ set ps q (Some o) → (get h q ≡ None) × (objects_from 0 ps' ≡ insert h q o)
now_added h ps ps' q o e free p =
    (found_in ps h q None e free.1, ap (objects_from 0) p ∙ (filled_map ps q o free.0 ∙ ap (λ h. insert h q o) e))

pub now_grown : (h : Objects) (ps ps' : List (Option Object)) (q : ℕ) (o : Object) → objects_from 0 ps ≡ h → q ≡ length ps → ps' ≡ ps ++ Some o ∷ [] → (get h q ≡ None) × (objects_from 0 ps' ≡ insert h q o)
now_grown h ps ps' q o e at p = (
  subst (λ q. get h q ≡ None) (sym at) (ap (λ h. get h (length ps)) (sym e) ∙ none_at_end ps),
  ap (objects_from 0) p ∙ (grown_map ps o ∙ (ap (λ h. insert h (length ps) o) e ∙ ap (λ q. insert h q o) (sym at))),
)

-- what a call that may fail answers
pub grown_or_not : (h : Objects) (ps ps' : List (Option Object)) (o : Object) (r : Result ℕ Object) → objects_from 0 ps ≡ h → IfOk r (λ at. (at ≡ length ps) × (ps' ≡ ps ++ Some o ∷ [])) → IfOk r (λ at. (get h at ≡ None) × (objects_from 0 ps' ≡ insert h at o))
grown_or_not h ps ps' o (Ok at) e is = now_grown h ps ps' at o e is.0 is.1
grown_or_not h ps ps' o (Err back) e is = tt

pub now_emptied : (ps ps' : List (Option Object)) (fs fs' : List ℕ) (q : ℕ) (o : Object) (room room' : ℕ) → IsArena ps fs room → get_or ps q None ≡ Some o → ps' ≡ set ps q None → fs' ≡ fs ++ q ∷ [] → room' ≡ room → IsArena ps' fs' room'
now_emptied ps ps' fs fs' q o room room' a e p f r =
    subst (λ ps. IsArena ps fs' room') (sym p) (subst (λ fs. IsArena (set ps q None) fs room') (sym f) (subst (λ room. IsArena (set ps q None) (fs ++ q ∷ []) room) (sym r) (emptied_arena ps fs q o room a e).0))

pub now_removed : (h : Objects) (ps ps' : List (Option Object)) (q : ℕ) (o : Object) → objects_from 0 ps ≡ h → get_or ps q None ≡ Some o → ps' ≡ set ps q None → objects_from 0 ps' ≡ remove h q
now_removed h ps ps' q o e there p = ap (objects_from 0) p ∙ (emptied_map ps q (there_within ps q o there) ∙ ap (λ h. remove h q) e)

pub now_replaced : (h : Objects) (ps ps' : List (Option Object)) (q : ℕ) (o new : Object) → objects_from 0 ps ≡ h → get_or ps q None ≡ Some o → ps' ≡ set ps q (Some new) → objects_from 0 ps' ≡ insert h q new
now_replaced h ps ps' q o new e there p = ap (objects_from 0) p ∙ (filled_map ps q new (there_within ps q o there) ∙ ap (λ h. insert h q new) e)

pub still_arena : (ps ps' : List (Option Object)) (fs : List ℕ) (q : ℕ) (o new : Object) (room : ℕ) → IsArena ps fs room → get_or ps q None ≡ Some o → ps' ≡ set ps q (Some new) → IsArena ps' fs room
still_arena ps ps' fs q o new room a e p = subst (λ ps. IsArena ps fs room) (sym p) (kept_arena ps fs q o new room a e)

pub roomier : (ps ps' : List (Option Object)) (fs fs' : List ℕ) (room room' : ℕ) → IsArena ps fs room → ps' ≡ ps → fs' ≡ fs → room ≤ room' → IsArena ps' fs' room'
roomier ps ps' fs fs' room room' a p f le = subst (λ ps. IsArena ps fs' room') (sym p) (subst (λ fs. IsArena ps fs room') (sym f) (more_room ps fs room room' a le))

pub at_end_arena : (ps ps' : List (Option Object)) (fs fs' : List ℕ) (o : Object) (room room' : ℕ) → IsArena ps fs room → length fs ≡ 0 → fs' ≡ fs → ps' ≡ ps ++ Some o ∷ [] → length ps + 1 ≤ room' → IsArena ps' fs' room'
at_end_arena ps ps' fs fs' o room room' a none f p fits =
    let fits' : length (ps ++ Some o ∷ []) ≤ room' = omega (arith, fits, length-append ps (Some o ∷ [])) in
    subst (λ ps. IsArena ps fs' room') (sym p) (subst (λ fs. IsArena (ps ++ Some o ∷ []) fs room') (sym f) (grown_arena ps fs o room room' a none fits'))

pub there_is_within : (ps : List (Option Object)) (q : ℕ) → IsSome (get_or ps q None) → q < length ps
there_is_within [] q h = search rules
there_is_within (p ∷ ps) zero h = omega arith
there_is_within (p ∷ ps) (suc q) h = let h' = there_is_within ps q h in omega arith

-- what is read at a place
pub read_at : (ps : List (Option Object)) (q : ℕ) (v : Option Object) → q < length ps → v ≡ get_or ps q v → get_or ps q None ≡ v
read_at [] q v lt is = absurd (omega arith)
read_at (p ∷ ps) zero v lt is = sym is
read_at (p ∷ ps) (suc q) v lt is = let lt' : q < length ps = omega arith in read_at ps q v lt' is

pub read_there : (ps : List (Option Object)) (h : Objects) (q : ℕ) (v : Option Object) → objects_from 0 ps ≡ h → IsSome (get h q) → v ≡ get_or ps q v → get h q ≡ v
read_there ps h q v e there is = found_in ps h q v e (read_at ps q v (there_is_within ps q (there_in ps h q e there)) is)

pub none_there : (ps : List (Option Object)) (h : Objects) (q : ℕ) (v : Option Object) → objects_from 0 ps ≡ h → IsSome (get h q) → v ≡ get_or ps q v → v ≡ None → ⊥
none_there ps h q v e there is none = let no : get h q ≡ None = read_there ps h q v e there is ∙ none in let none_is : Option Object = None in let bad : IsSome none_is = subst (λ o. IsSome o) no there in true≢false (sym bad)

pub ok_then : {A E : Type 0} (r : Result A E) (P : Type 0) (b : Bool) → b ≡ is_err r → b ≡ false → IfOk r (λ x. P) → P
ok_then (Ok x) P b e f p = p
ok_then (Err x) P b e f p = cc
