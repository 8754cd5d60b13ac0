-- Linked code is whole where the written code stands and has no fault.
use Rattle.std.proofs.Common.{◌≡◌, ℕ, suc, ◌+◌, ◌-◌, Bool, true, false, ℤ, pos, List, [], ◌∷◌, length, map, Option, Some, None, refl, ap, sym, subst, ◌∙◌, arith, ⊎_elim}
use Rattle.std.specs.Prelude.{◌&&◌, ◌==◌, if◌then◌else◌, slice_get}
use Rattle.std.specs.List.{list_all, AllByRecursion}
use Rattle.std.proofs.lemmas.Bool.{and_from, or_cases, or_left, or_right, eq-eqb, eqb-true, false≢true}
use Rattle.std.proofs.lemmas.Option.{same_Some}
use Rattle.kilim_class_pool.specs.declared.entry.Entry.{Entry}
use Rattle.kilim_class_code.specs.opcodes.Instr.{instr_len}
use Rattle.kilim_class_code.specs.Code.{Placed, StandsFrom, is_place, targets_of, ends, falls, falls_off, mid_target}
use Rattle.kilim_class_code.specs.Exact.{body_fault, target_or_end, TargetsArePlaces}
use Rattle.kilim_program.specs.declared.instr.Instr.{Instr}
use Rattle.kilim_program.specs.Lengths.{has_length, code_stands, is_code_place, targets_stand, jump_targets, code_ends}
use Rattle.kilim_program.specs.Lengths.{first_place}
use Rattle.kilim_link_spec.specs.Code.{instr_in, placed_in}
use Rattle.kilim_link_spec.specs.Types.{each_of}
use Rattle.kilim_link_spec.specs.World.{World}
use Rattle.kilim_link_laws.proofs.code_laws.Instrs.{has_its_length}
use Rattle.kilim_link_laws.proofs.code_laws.Lists.{first_and, each_of_all, all_map}
use Rattle.kilim_link_laws.proofs.code_laws.Rows.{mapped}
use Rattle.kilim_link_laws.proofs.code_laws.Targets.{same_targets, same_end}

-- ---- an instruction with its place

pub record PlacedParts (w : World) (pool : List Entry) (p : Placed) (e : ℕ × Instr) : Type 0 where
  pub there : instr_in w pool p.1 ≡ Some e.1
  pub at : e.0 ≡ p.0

pub placed_parts : (w : World) (pool : List Entry) (p : Placed) (e : ℕ × Instr) → placed_in w pool p ≡ Some e → PlacedParts w pool p e
placed_parts w pool p e is =
    let m = mapped (λ (instr : Instr). (p.0, instr)) (instr_in w pool p.1) e is in
    record { there = m.there ∙ ap (λ (x : ℕ × Instr). Some x.1) m.is; at = ap (λ (x : ℕ × Instr). x.0) (sym m.is) }

-- ---- places and lengths

abbrev Stands : ℕ → List (ℕ × Instr) → ℕ → Type 0
Stands at es end = (code_stands at es end ≡ true) × (first_place es end ≡ at)

nothing_stands : (at end : ℕ) → at ≡ end → Stands at [] end
unfolding code_stands
nothing_stands at end is = (eq-eqb at end is, sym is)

one_stands : (at len end : ℕ) (e : ℕ × Instr) (es : List (ℕ × Instr)) → e.0 ≡ at → has_length at e.1 len ≡ true → Stands (at + len) es end → Stands at (e ∷ es) end
unfolding code_stands
one_stands at len end e es is has later =
    let distance : len ≡ first_place es end - at = omega (arith, later.1) in
    (and_from _ _ (eq-eqb e.0 at is) (and_from _ _ (subst (λ k. has_length at e.1 k ≡ true) distance has) (subst (λ k. code_stands k es end ≡ true) (sym later.1) later.0)), is)

stands : (w : World) (pool : List Entry) (at end : ℕ) (code : List Placed) (es : List (ℕ × Instr)) → StandsFrom at code end → each_of (placed_in w pool) code ≡ Some es → Stands at es end
unfolding StandsFrom
stands w pool at end [] es is e = subst (λ zs. Stands at zs end) (same_Some [] es e) (nothing_stands at end is)
stands w pool at end (p ∷ code) es is e =
    let f = first_and (placed_in w pool p) (each_of (placed_in w pool) code) es e in
    let parts = placed_parts w pool p f.x f.first_is in
    let later = stands w pool (at + instr_len at p.1) end code f.xs is.2 f.others_are in
    let has = has_its_length w pool at p.1 f.x.1 is.1 parts.there in
    subst (λ zs. Stands at zs end) (sym f.is) (one_stands at (instr_len at p.1) end f.x f.xs (parts.at ∙ is.0) has later)

-- ---- targets

place_there : (w : World) (pool : List Entry) (n : ℕ) (code : List Placed) (es : List (ℕ × Instr)) → each_of (placed_in w pool) code ≡ Some es → is_place code (pos n) ≡ true → is_code_place es n ≡ true
unfolding is_place
place_there w pool n [] es e h = absurd (false≢true h)
place_there w pool n (p ∷ code) es e h =
    let f = first_and (placed_in w pool p) (each_of (placed_in w pool) code) es e in
    let parts = placed_parts w pool p f.x f.first_is in
    let here : (n == p.0) ≡ true → is_code_place (f.x ∷ f.xs) n ≡ true = λ (t : (n == p.0) ≡ true). or_left _ _ (eq-eqb f.x.0 n (parts.at ∙ sym (eqb-true n p.0 t))) in
    let later : is_place code (pos n) ≡ true → is_code_place (f.x ∷ f.xs) n ≡ true = λ (t : is_place code (pos n) ≡ true). or_right _ _ (place_there w pool n code f.xs f.others_are t) in
    subst (λ zs. is_code_place zs n ≡ true) (sym f.is) (⊎_elim here later (or_cases (n == p.0) (is_place code (pos n)) h))

all_places : (test : ℤ → Bool) (passes : ℕ → Bool) (ts : List ℕ) → ((n : ℕ) → test (pos n) ≡ true → passes n ≡ true) → AllByRecursion (λ to. test to ≡ true) (map (λ n. pos n) ts) → list_all passes ts ≡ true
all_places test passes [] each all = refl
all_places test passes (t ∷ ts) each all = and_from _ _ (each t all.0) (all_places test passes ts each all.1)

abbrev AllPlaces : List Placed → Type 0
AllPlaces code = AllByRecursion (λ (p : Placed). AllByRecursion (λ to. is_place code to ≡ true) (targets_of p.1)) code

targets_there : (w : World) (pool : List Entry) (code : List Placed) (es : List (ℕ × Instr)) → each_of (placed_in w pool) code ≡ Some es → AllPlaces code → targets_stand es ≡ true
unfolding targets_stand
targets_there w pool code es e all =
    let one = λ (p : Placed) (targets : AllByRecursion (λ to. is_place code to ≡ true) (targets_of p.1)) (x : ℕ × Instr) (there : placed_in w pool p ≡ Some x).
    all_places (is_place code) (is_code_place es) (jump_targets x.1) (λ n. place_there w pool n code es e)
    (subst (λ tos. AllByRecursion (λ to. is_place code to ≡ true) tos) (sym (same_targets w pool p.1 x.1 (placed_parts w pool p x there).there)) targets) in
    each_of_all (placed_in w pool) (λ x. list_all (is_code_place es) (jump_targets x.1)) code es (all_map _ _ one code all) e

-- ---- the end

falls_more : (p q : Placed) (code : List Placed) → falls_off (p ∷ q ∷ code) ≡ falls_off (q ∷ code)
unfolding falls_off
falls_more p q code =
    let e : length (p ∷ q ∷ code) - 1 ≡ suc (length (q ∷ code) - 1) = omega arith in
    ap (λ (k : ℕ). falls (slice_get (p ∷ q ∷ code) k)) e

ends_there : (p : Placed) (is_end : Bool) → ends p.1 ≡ is_end → (if is_end then None else Some p.0) ≡ None → ends p.1 ≡ true
ends_there p true e h = e
ends_there p false e h = absurd (cc)

last_ends : (w : World) (pool : List Entry) (at end : ℕ) (code : List Placed) (es : List (ℕ × Instr)) → StandsFrom at code end → each_of (placed_in w pool) code ≡ Some es → falls_off code ≡ None → code_ends es ≡ true
unfolding StandsFrom code_ends falls_off
last_ends w pool at end [] es is e h = subst (λ zs. code_ends zs ≡ true) (same_Some [] es e) refl
last_ends w pool at end (p ∷ []) es is e h =
    let f = first_and (placed_in w pool p) (each_of (placed_in w pool) []) es e in
    let parts = placed_parts w pool p f.x f.first_is in
    let one : f.x ∷ [] ≡ es = ap (λ zs. f.x ∷ zs) (same_Some [] f.xs f.others_are) ∙ sym f.is in
    subst (λ zs. code_ends zs ≡ true) one (same_end w pool at p.1 f.x.1 is.1 parts.there (ends_there p (ends p.1) refl h))
last_ends w pool at end (p ∷ q ∷ code) es is e h =
    let f = first_and (placed_in w pool p) (each_of (placed_in w pool) (q ∷ code)) es e in
    let g = first_and (placed_in w pool q) (each_of (placed_in w pool) code) f.xs f.others_are in
    let later = last_ends w pool (at + instr_len at p.1) end (q ∷ code) f.xs is.2 f.others_are (sym (falls_more p q code) ∙ h) in
    let two : f.x ∷ g.x ∷ g.xs ≡ es = ap (λ zs. f.x ∷ zs) (sym g.is) ∙ sym f.is in
    subst (λ zs. code_ends zs ≡ true) two (subst (λ zs. code_ends zs ≡ true) g.is later)

-- ---- without a fault

pub record NoBodyFault (code : List Placed) : Type 0 where
  pub targets : mid_target code ≡ None
  pub last : falls_off code ≡ None

by_parts : (code : List Placed) (mid : Option (ℕ × ℤ)) (last : Option ℕ) → mid_target code ≡ mid → falls_off code ≡ last → target_or_end mid last ≡ None → NoBodyFault code
by_parts code None None m l e = record { targets = m; last = l }
by_parts code None (Some at) m l e = absurd (cc)
by_parts code (Some jump) last m l e = absurd (cc)

pub no_body_fault : (code : List Placed) → body_fault code ≡ None → NoBodyFault code
unfolding body_fault
no_body_fault code e = by_parts code (mid_target code) (falls_off code) refl refl e

module _ (places : TargetsArePlaces) where
  pub code_stands_there : (w : World) (pool : List Entry) (end : ℕ) (code : List Placed) (es : List (ℕ × Instr)) → StandsFrom 0 code end → body_fault code ≡ None → each_of (placed_in w pool) code ≡ Some es
      → (code_stands 0 es end && (targets_stand es && code_ends es)) ≡ true
  code_stands_there w pool end code es is none e =
      let n = no_body_fault code none in
      and_from _ _ (stands w pool 0 end code es is e).0 (and_from _ _ (targets_there w pool code es e (places code n.targets)) (last_ends w pool 0 end code es is e n.last))
