-- Flow into declared frames.
use Rattle.std.proofs.Common.{◌≡◌, ℕ, zero, suc, ◌+◌, ◌<◌, Bool, true, false, ◌&&◌, refl, ap, sym, ◌∙◌, arith, List, [], ◌∷◌, ◌++◌, length, drop, get_or, reverse, Option, Some, None}
use Rattle.std.specs.Option.{option_map}
use Rattle.std.proofs.lemmas.List.{reverse-append, drop_all}
use Rattle.kilim_program.specs.declared.verified.Frame.{Frame}
use Rattle.kilim_program.specs.declared.verified.VType.{VType}
use Rattle.kilim_program.specs.declared.verified.VType.TheVariants.{Top}
use Rattle.kilim_program.specs.Program.{Program}
use Rattle.kilim_type_spec.specs.Step.{Types, peek, assignable}
use Rattle.kilim_type_spec.specs.Typed.{all_assignable, frame_types}
use Rattle.kilim_type_spec.specs.Faults.{locals_flow, flows_into, flows_into_declared}

-- ---- locals, slot by slot

-- where no slot is listed
none_front : (p : Program) (ds : List VType) (k : ℕ) (d : VType) → k < length ds → locals_flow p [] (drop k ds) ≡ (assignable p Top (get_or ds k d) && locals_flow p [] (drop (suc k) ds))
none_front p [] k e h = absurd (omega arith)
none_front p (d ∷ ds) zero e h = refl
none_front p (d ∷ ds) (suc k) e h = none_front p ds k e (omega arith)

-- what is left of the flow from a slot on
front : (p : Program) (fs ds : List VType) (k : ℕ) (d : VType) → k < length ds → locals_flow p (drop k fs) (drop k ds) ≡ (assignable p (peek fs k) (get_or ds k d) && locals_flow p (drop (suc k) fs) (drop (suc k) ds))
front p fs [] k e h = absurd (omega arith)
front p [] (d ∷ ds) zero e h = refl
front p (f ∷ fs) (d ∷ ds) zero e h = refl
front p [] (d ∷ ds) (suc k) e h = none_front p ds k e (omega arith)
front p (f ∷ fs) (d ∷ ds) (suc k) e h = front p fs ds k e (omega arith)

-- the slot's type flows into the wanted one, or doesn't
front_by : (p : Program) (fs ds : List VType) (k : ℕ) (d t w : VType) (b : Bool) → k < length ds → t ≡ peek fs k → w ≡ get_or ds k d → assignable p t w ≡ b → locals_flow p (drop k fs) (drop k ds) ≡ (b && locals_flow p (drop (suc k) fs) (drop (suc k) ds))
front_by p fs ds k d t w b h from to e =
    front p fs ds k d h ∙ ap (λ x. x && locals_flow p (drop (suc k) fs) (drop (suc k) ds)) (ap (λ x. assignable p x (get_or ds k d)) (sym from) ∙ (ap (assignable p t) (sym to) ∙ e))

pub flow_on : (p : Program) (fs ds : List VType) (k : ℕ) (d t w : VType) → k < length ds → t ≡ peek fs k → w ≡ get_or ds k d → assignable p t w ≡ true → locals_flow p (drop (k + 1) fs) (drop (k + 1) ds) ≡ locals_flow p (drop k fs) (drop k ds)
flow_on p fs ds k d t w h from to e = ap (λ n. locals_flow p (drop n fs) (drop n ds)) (let n : k + 1 ≡ suc k = omega arith in n) ∙ sym (front_by p fs ds k d t w true h from to e)

pub flow_fails : (p : Program) (fs ds : List VType) (k : ℕ) (d t w : VType) → k < length ds → t ≡ peek fs k → w ≡ get_or ds k d → assignable p t w ≡ false → locals_flow p (drop k fs) (drop k ds) ≡ false
flow_fails p fs ds k d t w h from to e = front_by p fs ds k d t w false h from to e

-- ---- stacks

and_assoc : (a b c : Bool) → (a && (b && c)) ≡ ((a && b) && c)
and_assoc true b c = refl
and_assoc false b c = refl

and_swap : (a b : Bool) → (a && b) ≡ (b && a)
and_swap true true = refl
and_swap true false = refl
and_swap false true = refl
and_swap false false = refl

and_true : (a : Bool) → (a && true) ≡ a
and_true true = refl
and_true false = refl

and_false : (a : Bool) → (a && false) ≡ false
and_false true = refl
and_false false = refl

-- one more at the end of both
both_more : (p : Program) (xs ys : List VType) (x y : VType) → all_assignable p (xs ++ x ∷ []) (ys ++ y ∷ []) ≡ (all_assignable p xs ys && assignable p x y)
both_more p [] [] x y = and_true (assignable p x y)
both_more p [] (b ∷ []) x y = and_false (assignable p x b)
both_more p [] (b ∷ c ∷ ys) x y = and_false (assignable p x b)
both_more p (a ∷ []) [] x y = and_false (assignable p a y)
both_more p (a ∷ c ∷ xs) [] x y = and_false (assignable p a y)
both_more p (a ∷ xs) (b ∷ ys) x y = ap (λ t. assignable p a b && t) (both_more p xs ys x y) ∙ and_assoc (assignable p a b) (all_assignable p xs ys) (assignable p x y)

none_more : (p : Program) (ys : List VType) (y : VType) → all_assignable p [] (ys ++ y ∷ []) ≡ false
none_more p [] y = refl
none_more p (z ∷ ys) y = refl

more_none : (p : Program) (xs : List VType) (x : VType) → all_assignable p (xs ++ x ∷ []) [] ≡ false
more_none p [] x = refl
more_none p (z ∷ xs) x = refl

-- one type after the other, from the bottom
stack_front : (p : Program) (xs ys : List VType) (k : ℕ) (c d : VType) → k < length ys → length xs ≡ length ys → all_assignable p (drop k xs) (drop k ys) ≡ (assignable p (get_or xs k c) (get_or ys k d) && all_assignable p (drop (suc k) xs) (drop (suc k) ys))
stack_front p xs [] k c d h e = absurd (omega arith)
stack_front p [] (y ∷ ys) k c d h e = absurd (omega arith)
stack_front p (x ∷ xs) (y ∷ ys) zero c d h e = refl
stack_front p (x ∷ xs) (y ∷ ys) (suc k) c d h e = stack_front p xs ys k c d (omega arith) (omega arith)

stack_by : (p : Program) (xs ys : List VType) (k : ℕ) (c d x y : VType) (b : Bool) → k < length ys → length xs ≡ length ys → x ≡ get_or xs k c → y ≡ get_or ys k d → assignable p x y ≡ b →
    all_assignable p (drop k xs) (drop k ys) ≡ (b && all_assignable p (drop (suc k) xs) (drop (suc k) ys))
stack_by p xs ys k c d x y b h l from to e =
    stack_front p xs ys k c d h l ∙ ap (λ z. z && all_assignable p (drop (suc k) xs) (drop (suc k) ys)) (ap (λ z. assignable p z (get_or ys k d)) (sym from) ∙ (ap (assignable p x) (sym to) ∙ e))

pub stack_on : (p : Program) (xs ys : List VType) (k : ℕ) (c d x y : VType) → k < length ys → length xs ≡ length ys → x ≡ get_or xs k c → y ≡ get_or ys k d → assignable p x y ≡ true →
    all_assignable p (drop (k + 1) xs) (drop (k + 1) ys) ≡ all_assignable p (drop k xs) (drop k ys)
stack_on p xs ys k c d x y h l from to e = ap (λ n. all_assignable p (drop n xs) (drop n ys)) (let n : k + 1 ≡ suc k = omega arith in n) ∙ sym (stack_by p xs ys k c d x y true h l from to e)

pub stack_fails : (p : Program) (xs ys : List VType) (k : ℕ) (c d x y : VType) → k < length ys → length xs ≡ length ys → x ≡ get_or xs k c → y ≡ get_or ys k d → assignable p x y ≡ false → all_assignable p (drop k xs) (drop k ys) ≡ false
stack_fails p xs ys k c d x y h l from to e = stack_by p xs ys k c d x y false h l from to e

pub lengths_differ : (p : Program) (xs ys : List VType) → (length xs ≡ length ys → ⊥) → all_assignable p xs ys ≡ false
lengths_differ p [] [] h = absurd (h refl)
lengths_differ p [] (y ∷ ys) h = refl
lengths_differ p (x ∷ xs) [] h = refl
lengths_differ p (x ∷ xs) (y ∷ ys) h = ap (λ b. assignable p x y && b) (lengths_differ p xs ys (λ (e : length xs ≡ length ys). h (omega arith))) ∙ and_false (assignable p x y)

pub assignable_reversed : (p : Program) (xs ys : List VType) → all_assignable p xs ys ≡ all_assignable p (reverse xs) (reverse ys)
assignable_reversed p [] [] = refl
assignable_reversed p [] (y ∷ ys) = sym (ap (all_assignable p []) (reverse-append (y ∷ []) ys) ∙ none_more p (reverse ys) y)
assignable_reversed p (x ∷ xs) [] = sym (ap (λ s. all_assignable p s []) (reverse-append (x ∷ []) xs) ∙ more_none p (reverse xs) x)
assignable_reversed p (x ∷ xs) (y ∷ ys) = sym (
    ap (λ s. all_assignable p s (reverse (y ∷ ys))) (reverse-append (x ∷ []) xs) ∙ ap (all_assignable p (reverse xs ++ x ∷ [])) (reverse-append (y ∷ []) ys)
    ∙ both_more p (reverse xs) (reverse ys) x y ∙ ap (λ b. b && assignable p x y) (sym (assignable_reversed p xs ys)) ∙ and_swap (all_assignable p xs ys) (assignable p x y))

-- ---- declared frames

pub into_declared : (p : Program) (f : Types) (o : Option Frame) (frame : Frame) (d : Option Types) → option_map frame_types o ≡ d → o ≡ Some frame → flows_into p f (frame_types frame) ≡ flows_into_declared p f d
into_declared p f o frame d e some = ap (λ (x : Option Frame). flows_into_declared p f (option_map frame_types x)) (sym some) ∙ ap (flows_into_declared p f) e

pub into_none : (p : Program) (f : Types) (o : Option Frame) (d : Option Types) → option_map frame_types o ≡ d → o ≡ None → flows_into_declared p f d ≡ true
into_none p f o d e none = ap (flows_into_declared p f) (sym e) ∙ ap (λ (x : Option Frame). flows_into_declared p f (option_map frame_types x)) none

-- ---- ends

pub flow_end : (p : Program) (fs ds : List VType) (k : ℕ) → k ≡ length ds → locals_flow p (drop k fs) (drop k ds) ≡ true
flow_end p fs ds k e = ap (locals_flow p (drop k fs)) (drop_all k ds (omega arith))

pub stack_end : (p : Program) (xs ys : List VType) (k : ℕ) → k ≡ length ys → length xs ≡ length ys → all_assignable p (drop k xs) (drop k ys) ≡ true
stack_end p xs ys k e l = ap (λ zs. all_assignable p zs (drop k ys)) (drop_all k xs (omega arith)) ∙ ap (all_assignable p []) (drop_all k ys (omega arith))

-- one type
pub one_reversed : (p : Program) (x : VType) (ys : List VType) → all_assignable p (x ∷ []) ys ≡ all_assignable p (x ∷ []) (reverse ys)
one_reversed p x ys = assignable_reversed p (x ∷ []) ys
