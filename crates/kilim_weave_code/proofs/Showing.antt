-- The frames of woven code.
use Rattle.std.proofs.Common.{◌≡◌, ℕ, zero, suc, ◌+◌, ◌-◌, ◌<◌, ◌≤◌, Bool, true, false, cond, List, [], ◌∷◌, ◌++◌, length, take, drop, reverse, map, get_or, slice_get, Option, Some, refl, ap, sym, subst, ◌∙◌, arith, append_assoc, eq-eqb}
use Rattle.std.proofs.lemmas.Bool.{ne_eqb}
use Rattle.std.proofs.lemmas.List.{length-map}
use Rattle.std.specs.Prelude.{◌&&◌, ◌||◌, ◌==◌, not, if◌then◌else◌}
use Rattle.kilim_lemmas.proofs.Lists.{drop_next}
use Rattle.kilim_program.specs.declared.class.Method.{Method}
use Rattle.kilim_program.specs.declared.instr.Instr.{Instr}
use Rattle.kilim_program.specs.declared.verified.Frame.{Frame}
use Rattle.kilim_program.specs.declared.verified.VType.{VType}
use Rattle.kilim_program.specs.declared.verified.VType.TheVariants.{Null, Top}
use Rattle.kilim_program.specs.Lengths.{is_code_place}
use Rattle.kilim_program.specs.Program.{Program}
use Rattle.kilim_program.specs.lookups.Places.{Above, Rising}
use Rattle.kilim_type_spec.specs.Step.{Types, is_top, peek}
use Rattle.kilim_type_spec.specs.Typed.{arriving, declared, entry, frame_among, frames_from, frames_of, left_by, listed, padded, typing_of}
use Rattle.kilim_type_laws.specs.Laws.{ListedFramesShow}
use Rattle.kilim_weave_spec.specs.Woven.{Plan, added_types, fiber_slot, first_of, kept_local, moved_type, old_frame, saved_from, slots_from}
use Rattle.kilim_weave_pieces.specs.Listed.{Listed}
use Rattle.kilim_weave_pieces.specs.Shown.{Shown}
use Rattle.kilim_weave_pieces.proofs.Lists.{drop_whole, map_around, reverse_drop, reverse_take}

-- ---- slots

pub type_there : (ts : List VType) (k : ℕ) → get_or ts k Top ≡ peek ts k
type_there [] k = refl
type_there (t ∷ ts) zero = refl
type_there (t ∷ ts) (suc k) = type_there ts k

pub slots_more : (f : ℕ → VType) (k n : ℕ) (t : VType) (done all : List VType) → k < n → t ≡ f k → done ++ slots_from k (n - k) f ≡ all → (done ++ t ∷ []) ++ slots_from (k + 1) (n - (k + 1)) f ≡ all
slots_more f k n t done all lt is h =
    let one : n - k ≡ suc (n - (k + 1)) = omega arith in
    let next : suc k ≡ k + 1 = omega arith in
    append_assoc done (t ∷ []) (slots_from (k + 1) (n - (k + 1)) f)
    ∙ (ap (λ (u : VType). done ++ u ∷ slots_from (k + 1) (n - (k + 1)) f) is
    ∙ (ap (λ (j : ℕ). done ++ f k ∷ slots_from j (n - (k + 1)) f) (sym next)
    ∙ (ap (λ (j : ℕ). done ++ slots_from k j f) (sym one) ∙ h)))

nil_behind : (xs : List VType) → xs ++ [] ≡ xs
nil_behind [] = refl
nil_behind (x ∷ xs) = ap (λ (zs : List VType). x ∷ zs) (nil_behind xs)

pub slots_done : (f : ℕ → VType) (k n : ℕ) (done all : List VType) → n ≤ k → done ++ slots_from k (n - k) f ≡ all → done ≡ all
slots_done f k n done all le h =
    let none : n - k ≡ 0 = omega arith in
    sym (nil_behind done) ∙ (ap (λ (j : ℕ). done ++ slots_from k j f) (sym none) ∙ h)

-- ---- saved locals

no_top : (b : Bool) → (b && not (is_top Top)) ≡ false
no_top true = refl
no_top false = refl

saved_padded : (live : ℕ → Bool) (k n : ℕ) (ts : List VType) → length ts ≤ n → saved_from live k (padded n ts) ≡ saved_from live k ts
saved_padded live k zero [] le = refl
saved_padded live k zero (t ∷ ts) le = absurd (omega arith)
saved_padded live k (suc n) [] le = let b = no_top (live k) in rw b (saved_padded live (suc k) n [] (omega arith))
saved_padded live k (suc n) (t ∷ ts) le =
    let r = saved_padded live (suc k) n ts (omega arith) in
    ap (λ (rest : List (ℕ × VType)). if live k && not (is_top t) then (k, t) ∷ rest else rest) r

padded_long : (n : ℕ) (ts : List VType) → length (padded n ts) ≡ n
padded_long zero ts = refl
padded_long (suc n) [] = ap suc (padded_long n [])
padded_long (suc n) (t ∷ ts) = ap suc (padded_long n ts)

pub one_saved : (live : ℕ → Bool) (k : ℕ) (t : VType) (ts : List VType) (b : Bool) (done : List (ℕ × VType)) → (live k && not (is_top t)) ≡ b
    → (done ++ (if b then (k, t) ∷ [] else [])) ++ saved_from live (suc k) ts ≡ done ++ saved_from live k (t ∷ ts)
one_saved live k t ts true done is = append_assoc done ((k, t) ∷ []) (saved_from live (suc k) ts) ∙ ap (λ (c : Bool). done ++ (if c then (k, t) ∷ saved_from live (suc k) ts else saved_from live (suc k) ts)) (sym is)
one_saved live k t ts false done is = append_assoc done [] (saved_from live (suc k) ts) ∙ ap (λ (c : Bool). done ++ (if c then (k, t) ∷ saved_from live (suc k) ts else saved_from live (suc k) ts)) (sym is)

pub saved_more : (live : ℕ → Bool) (at slot : ℕ) (t : VType) (locals : List VType) (done new all : List (ℕ × VType)) → slot ≡ at → slice_get locals at ≡ Some t
    → new ≡ done ++ (if live slot && not (is_top t) then (slot, t) ∷ [] else []) → done ++ saved_from live at (drop at locals) ≡ all → new ++ saved_from live (at + 1) (drop (at + 1) locals) ≡ all
saved_more live at slot t locals done new all same there is h =
    let one : at + 1 ≡ suc at = omega arith in
    let rest = drop (at + 1) locals in
    let moved : new ≡ done ++ (if live at && not (is_top t) then (at, t) ∷ [] else []) = is ∙ ap (λ (k : ℕ). done ++ (if live k && not (is_top t) then (k, t) ∷ [] else [])) same in
    ap (λ (xs : List (ℕ × VType)). xs ++ saved_from live (at + 1) rest) moved
    ∙ (ap (λ (k : ℕ). (done ++ (if live at && not (is_top t) then (at, t) ∷ [] else [])) ++ saved_from live k rest) one
    ∙ (one_saved live at t rest (live at && not (is_top t)) done refl
    ∙ (ap (λ (ts : List VType). done ++ saved_from live at ts) (sym (drop_next locals at t there)) ∙ h)))

none_saved : (xs : List (ℕ × VType)) → xs ++ [] ≡ xs
none_saved [] = refl
none_saved (x ∷ xs) = ap (λ (zs : List (ℕ × VType)). x ∷ zs) (none_saved xs)

pub saved_done : (live : ℕ → Bool) (at : ℕ) (locals : List VType) (done all : List (ℕ × VType)) → length locals ≤ at → done ++ saved_from live at (drop at locals) ≡ all → done ≡ all
saved_done live at locals done all le h = sym (none_saved done) ∙ (ap (λ (ts : List VType). done ++ saved_from live at ts) (sym (drop_whole locals at le)) ∙ h)

-- ---- the receiver

pub no_receiver : (stack : List VType) (n : ℕ) → length stack - n ≡ 0 → Null ≡ first_of (drop n (reverse stack))
no_receiver stack n none = ap first_of (ap (λ (k : ℕ). reverse (take k stack)) (sym none) ∙ reverse_drop stack n)

pub a_receiver : (stack : List VType) (n left : ℕ) (t : VType) → left ≡ length stack - n → 0 < left → slice_get stack (left - 1) ≡ Some t → t ≡ first_of (drop n (reverse stack))
a_receiver stack n left t is lt there =
    let one : left - 1 + 1 ≡ left = omega arith in
    ap first_of (sym (reverse_take stack (left - 1) t there) ∙ (ap (λ (k : ℕ). reverse (take k stack)) (one ∙ is) ∙ reverse_drop stack n))

-- ---- the frame of a number

above_at : (place : ℕ) (code : List (ℕ × Instr)) (i : ℕ) (entry : ℕ × Instr) → Above place code → slice_get code i ≡ Some entry → place < entry.0
above_at place [] i entry above found = absurd (cc)
above_at place (e ∷ es) zero entry above found = grind (arith, above.0, found)
above_at place (e ∷ es) (suc i) entry above found = above_at place es i entry above.1 found

eq_false : (a b : ℕ) → a < b → (a == b) ≡ false
eq_false a b lt = ne_eqb a b (λ e. omega (arith, e, lt))

frame_here : (code : List (ℕ × Instr)) (fs : List Types) (i : ℕ) (e : ℕ × Instr) (f : Types) → Rising code → slice_get code i ≡ Some e → slice_get fs i ≡ Some f → frame_among code fs e.0 ≡ f
frame_here [] fs i e f rising there is = absurd (cc)
frame_here (d ∷ code) [] i e f rising there is = absurd (cc)
frame_here (d ∷ code) (g ∷ fs) zero e f rising there is =
    let same : d ≡ e = cc in
    let t : (d.0 == e.0) ≡ true = eq-eqb d.0 e.0 (ap (λ (x : ℕ × Instr). x.0) same) in
    let is_g : g ≡ f = cc in
    rw t is_g
frame_here (d ∷ code) (g ∷ fs) (suc i) e f rising there is =
    let other : (d.0 == e.0) ≡ false = eq_false d.0 e.0 (above_at d.0 code i e rising.0 there) in
    rw other (frame_here code fs i e f rising.1 there is)

map_at : (m : Method) (fs : List Types) (i : ℕ) (frame : Frame) → slice_get (map (listed m) fs) i ≡ Some frame → (f : Types) × (slice_get fs i ≡ Some f) × (frame ≡ listed m f)
map_at m [] i frame h = absurd (cc)
map_at m (f ∷ fs) zero frame h = (f, refl, let e : listed m f ≡ frame = cc in sym e)
map_at m (f ∷ fs) (suc i) frame h = map_at m fs i frame h

or_right : (a b : Bool) → b ≡ true → (a || b) ≡ true
or_right true b h = refl
or_right false b h = h

is_place : (code : List (ℕ × Instr)) (i : ℕ) (e : ℕ × Instr) → slice_get code i ≡ Some e → is_code_place code e.0 ≡ true
is_place [] i e h = absurd (cc)
is_place (d ∷ code) zero e h = let same : d ≡ e = cc in let t : (d.0 == e.0) ≡ true = eq-eqb d.0 e.0 (ap (λ (x : ℕ × Instr). x.0) same) in rw t refl
is_place (d ∷ code) (suc i) e h = or_right (d.0 == e.0) (is_code_place code e.0) (is_place code i e h)

pub shown : (law : ListedFramesShow) (x : Plan) (p : Program) (m : Method) (frames : List Frame) (i : ℕ) (frame : Frame) (e : ℕ × Instr) → x.typing ≡ typing_of p m → x.method.max_locals ≡ m.max_locals → Rising m.code → Listed p m frames → slice_get frames i ≡ Some frame → slice_get m.code i ≡ Some e → Shown x e.0 frame
unfolding typing_of
shown law x p m frames i frame e typing most rising whole there is =
    let a = map_at m (frames_of p m) i frame (ap (λ (fs : List Frame). slice_get fs i) (sym whole.are) ∙ there) in
    let f = a.0 in
    let at : x.typing e.0 ≡ f = ap (λ (t : ℕ → Types). t e.0) typing ∙ frame_here m.code (frames_of p m) i e f rising is a.1 in
    let same : typing_of p m e.0 ≡ f = frame_here m.code (frames_of p m) i e f rising is a.1 in
    let l = law p m (typing_of p m) whole.typed e.0 (is_place m.code i e is) in
    let shows = l.1 in
    let is_f : frame ≡ listed m (typing_of p m e.0) = a.2 ∙ ap (listed m) (sym same) in
    let types : x.typing e.0 ≡ typing_of p m e.0 = at ∙ sym same in
    let s : Shown x e.0 (listed m (typing_of p m e.0)) = record {
      locals = λ slot. shows.locals slot ∙ ap (λ (t : Types). peek t.locals slot) (sym types);
      saved = λ live. saved_padded live 0 m.max_locals (typing_of p m e.0).locals l.0 ∙ ap (λ (t : Types). saved_from live 0 t.locals) (sym types);
      stack = shows.stack ∙ ap (λ (t : Types). t.stack) (sym types);
      few = let long = padded_long m.max_locals (typing_of p m e.0).locals in omega (arith, long, most);
    } in
    subst (λ (fr : Frame). Shown x e.0 fr) (sym is_f) s

-- the frame at an old place, part by part
pub frame_is : (x : Plan) (place : ℕ) (frame f : Frame) → f.locals ≡ slots_from 0 (fiber_slot x.method) (kept_local x place) ++ added_types x → f.stack ≡ map (moved_type x.at) frame.stack → Shown x place frame → f ≡ old_frame x place
frame_is x place frame f locals stack shows =
    let all = slots_from 0 (fiber_slot x.method) (kept_local x place) ++ added_types x in
    ap (λ (ts : List VType). let g : Frame = record { locals = ts; stack = f.stack } in g) locals
    ∙ ap (λ (ts : List VType). let g : Frame = record { locals = all; stack = ts } in g) (stack ∙ map_around (moved_type x.at) frame.stack (x.typing place).stack shows.stack)

-- ---- there is one for each instruction

frames_long : (p : Program) (m : Method) (flow : Option Types) (es : List (ℕ × Instr)) → length (frames_from p m flow es) ≡ length es
frames_long p m flow [] = refl
frames_long p m flow (e ∷ es) = ap suc (frames_long p m (left_by p m e (arriving flow (declared m e.0))) es)

pub listed_there : (p : Program) (m : Method) (frames : List Frame) (at : ℕ) → Listed p m frames → at < length m.code → at < length frames
listed_there p m frames at l lt =
    let long : length frames ≡ length m.code = ap length l.are ∙ (length-map (frames_of p m) (listed m) ∙ frames_long p m (Some (entry m)) m.code) in
    omega (arith, long, lt)
