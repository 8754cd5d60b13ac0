-- What is asked next can be done.
use Rattle.std.proofs.Common.{◌≡◌, ℕ, true, false, List, [], ◌∷◌, Some, refl, sym, ap, subst, ◌∙◌}
use Rattle.kilim_run_state.specs.declared.cause.EndCause.{EndCause}
use Rattle.kilim_run_state.specs.declared.cause.EndCause.TheVariants as cause
use Rattle.kilim_program.specs.declared.names.BoxName.{BoxName}
use Rattle.kilim_run_state.specs.declared.value.Token.{Token}
use Rattle.kilim_run_journal.specs.declared.entry.Act.TheVariants.{Put, Take, Empty, Start, Print, End, Bound}
use Rattle.kilim_run_model.specs.State.{Setting}
use Rattle.kilim_run_board.proofs.Replays.{some_injective}
use Rattle.kilim_run_state.specs.Trees.{OfMessage, is_allowed, built}
use Rattle.kilim_run_state.specs.declared.value.Object.{Object}
use Rattle.kilim_run_board.proofs.Allowed.{allowed_is_built}
use Rattle.kilim_run_model.specs.Lone.{Lone, Next, Goes, Puts, PutWaits, Bounds, Gets, Probes, Starts, Prints, Ends, Stands}
use Rattle.kilim_run_model.specs.Course.{done_by, tree_came, plain}
use Rattle.kilim_run_model.specs.declared.deed.Deed.{Deed}
use Rattle.kilim_run_model.specs.Moving.{is_tasks}
use Rattle.kilim_run_board.specs.fibers.Wishes.{Wish, ToPut, ToPutWait, ToBound, ToTake, ToProbe, ToStart, ToPrint, ToEnd, wish_of, end_wish}

pub end_is : (why : EndCause) (w : Wish) → end_wish why ≡ Some w → (w ≡ ToEnd why) × (is_tasks why ≡ false)
end_is cause.Tasks w e = absurd (cc)
end_is cause.Done w e = (sym (some_injective (ToEnd cause.Done) w e), refl)
end_is cause.Spent w e = (sym (some_injective (ToEnd cause.Spent) w e), refl)
end_is cause.Depth w e = (sym (some_injective (ToEnd cause.Depth) w e), refl)
end_is cause.Null w e = (sym (some_injective (ToEnd cause.Null) w e), refl)
end_is cause.Index w e = (sym (some_injective (ToEnd cause.Index) w e), refl)
end_is cause.Size w e = (sym (some_injective (ToEnd cause.Size) w e), refl)
end_is cause.Large w e = (sym (some_injective (ToEnd cause.Large) w e), refl)
end_is cause.Cast w e = (sym (some_injective (ToEnd cause.Cast) w e), refl)
end_is cause.Store w e = (sym (some_injective (ToEnd cause.Store) w e), refl)
end_is cause.Zero w e = (sym (some_injective (ToEnd cause.Zero) w e), refl)
end_is cause.Boxes w e = (sym (some_injective (ToEnd cause.Boxes) w e), refl)
end_is cause.Full w e = absurd (cc)
end_is cause.Thrown w e = (sym (some_injective (ToEnd cause.Thrown) w e), refl)

-- what a deed leads to
abbrev pub IsDone : Setting → Next → Deed → Type 0
IsDone set n d = (last : Lone) × (done_by set n d ≡ Some (record { act = d.act; after = last }))

abbrev shape_in : List Token → Wish → List Token
shape_in other (ToPut box shape) = shape
shape_in other (ToPutWait box shape) = shape
shape_in other (ToStart shape) = shape
shape_in other (ToPrint shape) = shape
shape_in other w = other

abbrev box_in : BoxName → Wish → BoxName
box_in other (ToPut box shape) = box
box_in other (ToPutWait box shape) = box
box_in other (ToBound box most) = box
box_in other (ToTake box) = box
box_in other (ToProbe box) = box
box_in other w = other

abbrev most_in : ℕ → Wish → ℕ
most_in other (ToBound box most) = most
most_in other w = other

abbrev cause_in : Wish → EndCause
cause_in (ToEnd why) = why
cause_in w = cause.Done

pub put_done : (set : Setting) (n : Next) (box : BoxName) (shape : List Token) (k : ℕ) → wish_of n ≡ Some (ToPut box shape) → IsDone set n (plain (Put box k shape))
put_done set (Goes l) box shape k e = absurd (cc)
put_done set (Puts b r s l) box shape k e =
    let w : ToPut b s ≡ ToPut box shape = some_injective (ToPut b s) (ToPut box shape) e in
    let same-box : b ≡ box = ap (box_in b) w in
    let same-shape : s ≡ shape = ap (shape_in s) w in
    subst (λ x. IsDone set (Puts x r s l) (plain (Put box k shape))) (sym same-box) (subst (λ y. IsDone set (Puts box r y l) (plain (Put box k shape))) (sym same-shape) (_, refl))
put_done set (PutWaits b r s l) box shape k e = absurd (cc)
put_done set (Bounds b most l) box shape k e = absurd (cc)
put_done set (Gets b l) box shape k e = absurd (cc)
put_done set (Probes b l) box shape k e = absurd (cc)
put_done set (Starts r s l) box shape k e = absurd (cc)
put_done set (Prints s l) box shape k e = absurd (cc)
put_done set (Ends why l) box shape k e = absurd (let h = (end_is why _ e).0 in cc)
put_done set Stands box shape k e = absurd (cc)

pub waiting_done : (set : Setting) (n : Next) (box : BoxName) (shape : List Token) (k : ℕ) → wish_of n ≡ Some (ToPutWait box shape) → IsDone set n (plain (Put box k shape))
waiting_done set (Goes l) box shape k e = absurd (cc)
waiting_done set (Puts b r s l) box shape k e = absurd (cc)
waiting_done set (PutWaits b r s l) box shape k e =
    let w : ToPutWait b s ≡ ToPutWait box shape = some_injective (ToPutWait b s) (ToPutWait box shape) e in
    let same-box : b ≡ box = ap (box_in b) w in
    let same-shape : s ≡ shape = ap (shape_in s) w in
    subst (λ x. IsDone set (PutWaits x r s l) (plain (Put box k shape))) (sym same-box) (subst (λ y. IsDone set (PutWaits box r y l) (plain (Put box k shape))) (sym same-shape) (_, refl))
waiting_done set (Bounds b most l) box shape k e = absurd (cc)
waiting_done set (Gets b l) box shape k e = absurd (cc)
waiting_done set (Probes b l) box shape k e = absurd (cc)
waiting_done set (Starts r s l) box shape k e = absurd (cc)
waiting_done set (Prints s l) box shape k e = absurd (cc)
waiting_done set (Ends why l) box shape k e = absurd (let h = (end_is why _ e).0 in cc)
waiting_done set Stands box shape k e = absurd (cc)

-- what bounds a mailbox by itself
pub bounds_next : (n : Next) (box : BoxName) (most : ℕ) → wish_of n ≡ Some (ToBound box most) → (after : Lone) × (n ≡ Bounds box most after)
bounds_next (Goes l) box most e = absurd (cc)
bounds_next (Puts b r s l) box most e = absurd (cc)
bounds_next (PutWaits b r s l) box most e = absurd (cc)
bounds_next (Bounds b m l) box most e = let w : ToBound b m ≡ ToBound box most = some_injective (ToBound b m) (ToBound box most) e in (l, ap (λ x. Bounds x m l) (ap (box_in b) w) ∙ ap (λ y. Bounds box y l) (ap (most_in m) w))
bounds_next (Gets b l) box most e = absurd (cc)
bounds_next (Probes b l) box most e = absurd (cc)
bounds_next (Starts r s l) box most e = absurd (cc)
bounds_next (Prints s l) box most e = absurd (cc)
bounds_next (Ends why l) box most e = absurd (let h = (end_is why _ e).0 in cc)
bounds_next Stands box most e = absurd (cc)

pub bound_done : (set : Setting) (n : Next) (box : BoxName) (most : ℕ) → wish_of n ≡ Some (ToBound box most) → IsDone set n (plain (Bound box most))
bound_done set n box most e = let h = bounds_next n box most e in subst (λ x. IsDone set x (plain (Bound box most))) (sym h.1) (h.0, refl)

tree_done : (set : Setting) (b box : BoxName) (l : Lone) (shape : List Token) (k : ℕ) → b ≡ box → is_allowed set.program OfMessage shape ≡ true → IsDone set (Gets b l) (record { act = Take box k; taken = shape })
tree_done set b box l shape k same allowed =
    let tree : (objects : List Object) × (built set.program OfMessage l.next shape ≡ Some objects) = allowed_is_built set.program OfMessage l.next shape allowed in
    subst (λ x. IsDone set (Gets x l) (record { act = Take box k; taken = shape })) (sym same) (_, ap (tree_came box k l) tree.1)

pub take_done : (set : Setting) (n : Next) (box : BoxName) (shape : List Token) (k : ℕ) → wish_of n ≡ Some (ToTake box) → is_allowed set.program OfMessage shape ≡ true → IsDone set n (record { act = Take box k; taken = shape })
take_done set (Goes l) box shape k e allowed = absurd (cc)
take_done set (Puts b r s l) box shape k e allowed = absurd (cc)
take_done set (PutWaits b r s l) box shape k e allowed = absurd (cc)
take_done set (Bounds b most l) box shape k e allowed = absurd (cc)
take_done set (Gets b l) box shape k e allowed = tree_done set b box l shape k (ap (box_in b) (some_injective (ToTake b) (ToTake box) e)) allowed
take_done set (Probes b l) box shape k e allowed = absurd (cc)
take_done set (Starts r s l) box shape k e allowed = absurd (cc)
take_done set (Prints s l) box shape k e allowed = absurd (cc)
take_done set (Ends why l) box shape k e allowed = absurd (let h = (end_is why _ e).0 in cc)
take_done set Stands box shape k e allowed = absurd (cc)

pub probe_done : (set : Setting) (n : Next) (box : BoxName) (shape : List Token) (k : ℕ) → wish_of n ≡ Some (ToProbe box) → is_allowed set.program OfMessage shape ≡ true → IsDone set n (record { act = Take box k; taken = shape })
probe_done set (Goes l) box shape k e allowed = absurd (cc)
probe_done set (Puts b r s l) box shape k e allowed = absurd (cc)
probe_done set (PutWaits b r s l) box shape k e allowed = absurd (cc)
probe_done set (Bounds b most l) box shape k e allowed = absurd (cc)
probe_done set (Gets b l) box shape k e allowed = absurd (cc)
probe_done set (Probes b l) box shape k e allowed = tree_done set b box l shape k (ap (box_in b) (some_injective (ToProbe b) (ToProbe box) e)) allowed
probe_done set (Starts r s l) box shape k e allowed = absurd (cc)
probe_done set (Prints s l) box shape k e allowed = absurd (cc)
probe_done set (Ends why l) box shape k e allowed = absurd (let h = (end_is why _ e).0 in cc)
probe_done set Stands box shape k e allowed = absurd (cc)

pub empty_done : (set : Setting) (n : Next) (box : BoxName) → wish_of n ≡ Some (ToProbe box) → IsDone set n (plain (Empty box))
empty_done set (Goes l) box e = absurd (cc)
empty_done set (Puts b r s l) box e = absurd (cc)
empty_done set (PutWaits b r s l) box e = absurd (cc)
empty_done set (Bounds b most l) box e = absurd (cc)
empty_done set (Gets b l) box e = absurd (cc)
empty_done set (Probes b l) box e = subst (λ x. IsDone set (Probes x l) (plain (Empty box))) (sym (ap (box_in b) (some_injective (ToProbe b) (ToProbe box) e))) (_, refl)
empty_done set (Starts r s l) box e = absurd (cc)
empty_done set (Prints s l) box e = absurd (cc)
empty_done set (Ends why l) box e = absurd (let h = (end_is why _ e).0 in cc)
empty_done set Stands box e = absurd (cc)

pub start_done : (set : Setting) (n : Next) (shape : List Token) (k : ℕ) → wish_of n ≡ Some (ToStart shape) → IsDone set n (plain (Start k shape))
start_done set (Goes l) shape k e = absurd (cc)
start_done set (Puts b r s l) shape k e = absurd (cc)
start_done set (PutWaits b r s l) shape k e = absurd (cc)
start_done set (Bounds b most l) shape k e = absurd (cc)
start_done set (Gets b l) shape k e = absurd (cc)
start_done set (Probes b l) shape k e = absurd (cc)
start_done set (Starts r s l) shape k e = subst (λ x. IsDone set (Starts r x l) (plain (Start k shape))) (sym (ap (shape_in s) (some_injective (ToStart s) (ToStart shape) e))) (_, refl)
start_done set (Prints s l) shape k e = absurd (cc)
start_done set (Ends why l) shape k e = absurd (let h = (end_is why _ e).0 in cc)
start_done set Stands shape k e = absurd (cc)

pub full_done : (set : Setting) (n : Next) (shape : List Token) → wish_of n ≡ Some (ToStart shape) → IsDone set n (plain (End cause.Tasks))
full_done set (Goes l) shape e = absurd (cc)
full_done set (Puts b r s l) shape e = absurd (cc)
full_done set (PutWaits b r s l) shape e = absurd (cc)
full_done set (Bounds b most l) shape e = absurd (cc)
full_done set (Gets b l) shape e = absurd (cc)
full_done set (Probes b l) shape e = absurd (cc)
full_done set (Starts r s l) shape e = (_, refl)
full_done set (Prints s l) shape e = absurd (cc)
full_done set (Ends why l) shape e = absurd (let h = (end_is why _ e).0 in cc)
full_done set Stands shape e = absurd (cc)

pub filled_done : (set : Setting) (n : Next) (box : BoxName) (shape : List Token) → wish_of n ≡ Some (ToPut box shape) → IsDone set n (plain (End cause.Full))
filled_done set (Goes l) box shape e = absurd (cc)
filled_done set (Puts b r s l) box shape e = (_, refl)
filled_done set (PutWaits b r s l) box shape e = absurd (cc)
filled_done set (Bounds b most l) box shape e = absurd (cc)
filled_done set (Gets b l) box shape e = absurd (cc)
filled_done set (Probes b l) box shape e = absurd (cc)
filled_done set (Starts r s l) box shape e = absurd (cc)
filled_done set (Prints s l) box shape e = absurd (cc)
filled_done set (Ends why l) box shape e = absurd (let h = (end_is why _ e).0 in cc)
filled_done set Stands box shape e = absurd (cc)

pub print_done : (set : Setting) (n : Next) (shape : List Token) → wish_of n ≡ Some (ToPrint shape) → IsDone set n (plain (Print shape))
print_done set (Goes l) shape e = absurd (cc)
print_done set (Puts b r s l) shape e = absurd (cc)
print_done set (PutWaits b r s l) shape e = absurd (cc)
print_done set (Bounds b most l) shape e = absurd (cc)
print_done set (Gets b l) shape e = absurd (cc)
print_done set (Probes b l) shape e = absurd (cc)
print_done set (Starts r s l) shape e = absurd (cc)
print_done set (Prints s l) shape e = subst (λ x. IsDone set (Prints s l) (plain (Print x))) (ap (shape_in (s ∷ [])) (some_injective (ToPrint (s ∷ [])) (ToPrint shape) e)) (_, refl)
print_done set (Ends why l) shape e = absurd (let h = (end_is why _ e).0 in cc)
print_done set Stands shape e = absurd (cc)

pub end_done : (set : Setting) (n : Next) (why : EndCause) → wish_of n ≡ Some (ToEnd why) → IsDone set n (plain (End why))
end_done set (Goes l) why e = absurd (cc)
end_done set (Puts b r s l) why e = absurd (cc)
end_done set (PutWaits b r s l) why e = absurd (cc)
end_done set (Bounds b most l) why e = absurd (cc)
end_done set (Gets b l) why e = absurd (cc)
end_done set (Probes b l) why e = absurd (cc)
end_done set (Starts r s l) why e = absurd (cc)
end_done set (Prints s l) why e = absurd (cc)
end_done set (Ends x l) why e = subst (λ y. IsDone set (Ends y l) (plain (End why))) (ap cause_in (end_is x (ToEnd why) e).0) (_, refl)
end_done set Stands why e = absurd (cc)

pub never_tasks : (n : Next) (why : EndCause) → wish_of n ≡ Some (ToEnd why) → is_tasks why ≡ false
never_tasks (Goes l) why e = absurd (cc)
never_tasks (Puts b r s l) why e = absurd (cc)
never_tasks (PutWaits b r s l) why e = absurd (cc)
never_tasks (Bounds b most l) why e = absurd (cc)
never_tasks (Gets b l) why e = absurd (cc)
never_tasks (Probes b l) why e = absurd (cc)
never_tasks (Starts r s l) why e = absurd (cc)
never_tasks (Prints s l) why e = absurd (cc)
never_tasks (Ends x l) why e = let h = end_is x (ToEnd why) e in ap is_tasks (ap cause_in h.0) ∙ h.1
never_tasks Stands why e = absurd (cc)
