-- A tree of a shape is built under any names.
use Rattle.std.proofs.Common.{◌≡◌, ℕ, zero, suc, ◌+◌, Bool, true, false, cond, List, [], ◌∷◌, length, length-append, Option, Some, None, refl, sym, ap, subst, ◌∙◌, arith}
use Rattle.kilim_program.specs.Program.{Program}
use Rattle.kilim_program.specs.declared.ty.Ty.{Ty}
use Rattle.kilim_run_state.specs.declared.value.Object.{Object}
use Rattle.kilim_run_state.specs.declared.value.Token.{Token}
use Rattle.kilim_run_state.specs.declared.value.Token.TheVariants as token
use Rattle.kilim_run_state.specs.Trees.{Read, Reads, type_named, closed, behind, and_then, read_value, read_values, is_allowed, root_alone, built}
use Rattle.kilim_run_model.specs.Alone.{BuiltAnywhere}

-- what was read under other names: as many objects, and the same is left
abbrev AlikeRead : Option Read → Option Read → Type 0
AlikeRead None None = Unit {0}
AlikeRead (Some a) (Some b) = (length a.objects ≡ length b.objects) × (a.rest ≡ b.rest)
AlikeRead a b = ⊥

abbrev AlikeReads : Option Reads → Option Reads → Type 0
AlikeReads None None = Unit {0}
AlikeReads (Some a) (Some b) = (length a.objects ≡ length b.objects) × (a.rest ≡ b.rest)
AlikeReads a b = ⊥

closed_alike : (p : Program) (base other : ℕ) (ty : Option Ty) (a b : Option Reads) → AlikeReads a b → AlikeRead (closed p base ty a) (closed p other ty b)
closed_alike p base other None a b h = tt
closed_alike p base other (Some ty) None None h = tt
closed_alike p base other (Some ty) (Some a) (Some b) h = (ap suc h.0, h.1)
closed_alike p base other (Some ty) None (Some b) h = absurd h
closed_alike p base other (Some ty) (Some a) None h = absurd h

behind_alike : (x y : Read) (a b : Option Reads) → length x.objects ≡ length y.objects → AlikeReads a b → AlikeReads (behind x a) (behind y b)
behind_alike x y None None e h = tt
behind_alike x y (Some a) (Some b) e h =
    let here = length-append x.objects a.objects in
    let there = length-append y.objects b.objects in
    let sums : length x.objects + length a.objects ≡ length y.objects + length b.objects = omega (arith, e, h.0) in
    (here ∙ sums ∙ sym there, h.1)
behind_alike x y None (Some b) e h = absurd h
behind_alike x y (Some a) None e h = absurd h

then_alike : (a b : Option Read) (f g : Read → Option Reads) → AlikeRead a b → ((x y : Read) → x.rest ≡ y.rest → AlikeReads (f x) (g y)) → AlikeReads (and_then a f) (and_then b g)
then_alike None None f g h next = tt
then_alike (Some x) (Some y) f g h next = behind_alike x y (f x) (g y) h.0 (next x y h.1)
then_alike None (Some y) f g h next = absurd h
then_alike (Some x) None f g h next = absurd h

module _ (p : Program) where
  mutual
    value_alike : (fuel base other : ℕ) (ts : List Token) → AlikeRead (read_value p fuel base ts) (read_value p fuel other ts)
    value_alike zero base other ts = tt
    value_alike (suc fuel) base other [] = tt
    value_alike (suc fuel) base other (token.Int n ∷ ts) = (refl, refl)
    value_alike (suc fuel) base other (token.Long n ∷ ts) = (refl, refl)
    value_alike (suc fuel) base other (token.Null ∷ ts) = (refl, refl)
    value_alike (suc fuel) base other (token.Text units ∷ ts) = (refl, refl)
    value_alike (suc fuel) base other (token.Box box ∷ ts) = (refl, refl)
    value_alike (suc fuel) base other (token.Close ∷ ts) = tt
    value_alike (suc fuel) base other (token.Open name ∷ ts) = closed_alike p base other (type_named p name) _ _ (values_alike fuel (suc base) (suc other) ts)

    values_alike : (fuel base other : ℕ) (ts : List Token) → AlikeReads (read_values p fuel base ts) (read_values p fuel other ts)
    values_alike zero base other ts = tt
    values_alike (suc fuel) base other [] = tt
    values_alike (suc fuel) base other (token.Close ∷ ts) = (refl, refl)
    values_alike (suc fuel) base other (t ∷ ts) =
        then_alike (read_value p fuel base (t ∷ ts)) (read_value p fuel other (t ∷ ts)) _ _ (value_alike fuel base other (t ∷ ts))
        (λ x y same. subst (λ (rest : List Token). AlikeReads (read_values p fuel (base + length x.objects) x.rest) (read_values p fuel (other + length y.objects) rest)) same
        (values_alike fuel (base + length x.objects) (other + length y.objects) x.rest))

record Others (objects : List Object) (found : Option (List Object)) : Type 0 where
  others : List Object
  is : found ≡ Some others
  same : length others ≡ length objects

alone_alike : (a b : Option Read) (objects : List Object) → AlikeRead a b → root_alone a ≡ Some objects → Others objects (root_alone b)
alone_alike None None objects h e = absurd (cc)
alone_alike (Some a) (Some b) objects h e = let is : a.objects ≡ objects = cc in record { others = b.objects; is = refl; same = sym h.0 ∙ ap (λ (os : List Object). length os) is }
alone_alike None (Some b) objects h e = absurd h
alone_alike (Some a) None objects h e = absurd h

chosen_alike : (allowed : Bool) (a b : Option Read) (objects : List Object) → AlikeRead a b → cond allowed (root_alone a) None ≡ Some objects → Others objects (cond allowed (root_alone b) None)
chosen_alike true a b objects h e = alone_alike a b objects h e
chosen_alike false a b objects h e = absurd (cc)

pub built_anywhere : BuiltAnywhere
unfolding built
built_anywhere p root base other shape objects is =
    let found = chosen_alike (is_allowed p root shape) (read_value p (suc (length shape)) base shape) (read_value p (suc (length shape)) other shape) objects (value_alike p (suc (length shape)) base other shape) is in
    (found.others, found.is, found.same)
