-- Declared frames of woven code stand in order, and what they hold is proper.
use Rattle.std.proofs.Common.{◌≡◌, ℕ, suc, ◌+◌, ◌≤◌, Bool, true, false, not, List, [], ◌∷◌, ◌++◌, length, Some, None, refl, arith, lt-ltb}
use Rattle.std.specs.Prelude.{◌&&◌, ◌||◌, nat_le, nat_lt}
use Rattle.std.specs.List.{list_all, list_any}
use Rattle.std.proofs.lemmas.Bool.{and_parts, and_from}
use Rattle.kilim_program.specs.declared.class.Method.{Method}
use Rattle.kilim_program.specs.declared.verified.Frame.{Frame}
use Rattle.kilim_program.specs.declared.verified.VType.{VType}
use Rattle.kilim_program.specs.declared.verified.VType.TheVariants.{Top, Int, Long, Null, UninitThis, Uninit, Object}
use Rattle.kilim_program.specs.Keeps.{begins_with_top, frame_is_proper, halves_stand, has_its_half}
use Rattle.kilim_program.specs.Keeps as keeps
use Rattle.kilim_program.specs.Lengths.{is_code_place, places_increase}
use Rattle.kilim_program.specs.Same.{is_constructor}
use Rattle.kilim_type_spec.specs.Step.{is_top, is_unset_this, peek, words}
use Rattle.kilim_type_spec.specs.Typed.{frame_fits, halves, is_proper, stands_at_new}
use Rattle.kilim_weave_spec.specs.Woven.{Item, Mark, Does, lay_frames}
use Rattle.kilim_weave_laws.proofs.woven_types.Laying.{Sound}
use Rattle.kilim_weave_laws.proofs.woven_programs.keeps.Items.{dims_back}

-- ---- order

abbrev FirstFrom : ℕ → List (ℕ × Frame) → Type 0
FirstFrom q [] = Unit {0}
FirstFrom q (e ∷ es) = q ≤ e.0

later : (q r : ℕ) (es : List (ℕ × Frame)) → q ≤ r → FirstFrom r es → FirstFrom q es
later q r [] h f = tt
later q r (e ∷ es) h f = omega (arith, h, f)

one_more : (q : ℕ) (frame : Frame) (es : List (ℕ × Frame)) → FirstFrom (suc q) es → places_increase es ≡ true → places_increase ((q, frame) ∷ es) ≡ true
unfolding places_increase
one_more q frame [] f h = refl
one_more q frame (e ∷ es) f h = and_from (nat_lt q e.0) _ (lt-ltb q e.0 (omega (arith, f))) h

starts : (b : Bool) (items : List Item) (q : ℕ) → Sound b items → FirstFrom q (lay_frames q items)
starts b [] q s = tt
starts b (Mark label None ∷ rest) q s = starts true rest q s.1
starts b (Mark label (Some frame) ∷ rest) q s = omega arith
starts b (Does i size counted ∷ rest) q s = later q (q + size q) (lay_frames (q + size q) rest) (omega arith) (starts false rest (q + size q) s.1)

-- an instruction stands behind a mark
past : (items : List Item) (q : ℕ) → Sound true items → FirstFrom (suc q) (lay_frames q items)
past [] q s = tt
past (Mark label frame ∷ rest) q s = absurd (let e : true ≡ false = s.0 in cc)
past (Does i size counted ∷ rest) q s = let g = s.0 q in later (suc q) (q + size q) (lay_frames (q + size q) rest) (omega (arith, g)) (starts false rest (q + size q) s.1)

pub in_order : (b : Bool) (items : List Item) (q : ℕ) → Sound b items → places_increase (lay_frames q items) ≡ true
unfolding places_increase
in_order b [] q s = refl
in_order b (Mark label None ∷ rest) q s = in_order true rest q s.1
in_order b (Mark label (Some frame) ∷ rest) q s = one_more q frame (lay_frames q rest) (past rest q s.1) (in_order true rest q s.1)
in_order b (Does i size counted ∷ rest) q s = in_order false rest (q + size q) s.1

-- ---- what frames hold

proper_back : (t : VType) → is_proper t ≡ true → keeps.is_proper t ≡ true
proper_back (Object ty) h = dims_back ty ty.dims h
proper_back Top h = refl
proper_back Int h = refl
proper_back Long h = refl
proper_back Null h = refl
proper_back UninitThis h = refl
proper_back (Uninit q) h = refl

all_proper : (ts : List VType) → list_all is_proper ts ≡ true → list_all keeps.is_proper ts ≡ true
all_proper [] h = refl
all_proper (t ∷ ts) h = let p = and_parts (is_proper t) (list_all is_proper ts) h in and_from (keeps.is_proper t) _ (proper_back t p.0) (all_proper ts p.1)

split : (xs ys : List VType) → list_all is_proper (xs ++ ys) ≡ true → (list_all is_proper xs ≡ true) × (list_all is_proper ys ≡ true)
split [] ys h = (refl, h)
split (x ∷ xs) ys h = let p = and_parts (is_proper x) (list_all is_proper (xs ++ ys)) h in let r = split xs ys p.1 in (and_from (is_proper x) _ p.0 r.0, r.1)

is_the_top : (t : VType) (ts : List VType) → is_top t ≡ true → begins_with_top (t ∷ ts) ≡ true
is_the_top Top ts h = refl
is_the_top t ts h = absurd (cc)

half_behind : (ts : List VType) → (nat_lt 0 (length ts) && is_top (peek ts 0)) ≡ true → begins_with_top ts ≡ true
half_behind [] h = absurd (cc)
half_behind (t ∷ ts) h = is_the_top t ts (and_parts (nat_lt 0 (length (t ∷ ts))) (is_top t) h).1

halves_back : (ts : List VType) → halves ts ≡ true → halves_stand ts ≡ true
halves_back [] h = refl
halves_back (Long ∷ ts) h = let p = and_parts _ (halves ts) h in and_from (begins_with_top ts) _ (half_behind ts p.0) (halves_back ts p.1)
halves_back (Top ∷ ts) h = halves_back ts h
halves_back (Int ∷ ts) h = halves_back ts h
halves_back (Null ∷ ts) h = halves_back ts h
halves_back (UninitThis ∷ ts) h = halves_back ts h
halves_back (Uninit q ∷ ts) h = halves_back ts h
halves_back (Object ty ∷ ts) h = halves_back ts h

pub fits_proper : (m : Method) (x : ℕ × Frame) → frame_fits m x ≡ true → frame_is_proper x.1 ≡ true
fits_proper m x h =
    let c8 = is_constructor m || not (list_any is_unset_this (x.1.locals ++ x.1.stack)) in
    let c7 = list_all is_proper (x.1.locals ++ x.1.stack) in
    let c6 = halves x.1.locals in
    let c5 = list_all (stands_at_new m) (x.1.locals ++ x.1.stack) in
    let c4 = not (list_any is_top x.1.stack) in
    let c3 = nat_le (words x.1.stack) m.max_stack in
    let c2 = nat_le (length x.1.locals) m.max_locals in
    let p1 = and_parts (is_code_place m.code x.0) (c2 && (c3 && (c4 && (c5 && (c6 && (c7 && c8)))))) h in
    let p2 = and_parts c2 (c3 && (c4 && (c5 && (c6 && (c7 && c8))))) p1.1 in
    let p3 = and_parts c3 (c4 && (c5 && (c6 && (c7 && c8)))) p2.1 in
    let p4 = and_parts c4 (c5 && (c6 && (c7 && c8))) p3.1 in
    let p5 = and_parts c5 (c6 && (c7 && c8)) p4.1 in
    let p6 = and_parts c6 (c7 && c8) p5.1 in
    let p7 = and_parts c7 c8 p6.1 in
    let s = split x.1.locals x.1.stack p7.0 in
    and_from (list_all keeps.is_proper x.1.locals) _ (all_proper x.1.locals s.0) (and_from (list_all keeps.is_proper x.1.stack) _ (all_proper x.1.stack s.1) (halves_back x.1.locals p6.0))
