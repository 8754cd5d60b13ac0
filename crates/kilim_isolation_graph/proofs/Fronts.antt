-- Slots of which those behind the front name nothing.
use Rattle.std.proofs.Common.{◌≡◌, ℕ, zero, suc, ◌+◌, ◌-◌, ◌<◌, ◌≤◌, Bool, true, false, refl, ap, sym, ◌∙◌, arith, List, [], ◌∷◌, ◌++◌, length, get_or, map, set, take, replicate, Option, Some, None}
use Rattle.std.specs.Prelude.{if◌then◌else◌}
use Rattle.std.proofs.lemmas.List.{append-nil, append_assoc, take_more, take_all, length-replicate, replicate-append-replicate}
use Rattle.kilim_program.specs.declared.verified.VType.{VType}
use Rattle.kilim_type_spec.specs.Step.{peek, is_top}
use Rattle.kilim_isolation_graph.specs.Canonical.{named, renumbered, kept_name, kept_names}
use Rattle.kilim_isolation_graph.specs.Graphs.{slot, with_slot}

-- a slot that names nothing
abbrev nothing : Option ℕ
nothing = None

slot_none : (more k : ℕ) → slot (replicate more None) k ≡ None
slot_none zero k = refl
slot_none (suc more) zero = refl
slot_none (suc more) (suc k) = slot_none more k

pub slot_front : (front : List (Option ℕ)) (more k : ℕ) → slot front k ≡ slot (front ++ replicate more None) k
slot_front [] more k = sym (slot_none more k)
slot_front (x ∷ front) more zero = refl
slot_front (x ∷ front) more (suc k) = slot_front front more k

named_none : (more : ℕ) → named (replicate more None) ≡ []
named_none zero = refl
named_none (suc more) = named_none more

pub named_front : (front : List (Option ℕ)) (more : ℕ) → named (front ++ replicate more None) ≡ named front
named_front [] more = named_none more
named_front (None ∷ front) more = named_front front more
named_front (Some n ∷ front) more = ap (λ (ns : List ℕ). n ∷ ns) (named_front front more)

renumbered_none : (order : List ℕ) (more : ℕ) → map (renumbered order) (replicate more None) ≡ replicate more None
renumbered_none order zero = refl
renumbered_none order (suc more) = ap (λ (xs : List (Option ℕ)). None ∷ xs) (renumbered_none order more)

pub renumbered_front : (order : List ℕ) (front : List (Option ℕ)) (more : ℕ) → map (renumbered order) front ++ replicate more None ≡ map (renumbered order) (front ++ replicate more None)
renumbered_front order [] more = sym (renumbered_none order more)
renumbered_front order (x ∷ front) more = ap (λ (xs : List (Option ℕ)). renumbered order x ∷ xs) (renumbered_front order front more)

kept_none : (t : VType) → kept_name t None ≡ None
kept_none t = by (is_top t)
  where
    by : (b : Bool) → (if b then nothing else nothing) ≡ nothing
    by true = refl
    by false = refl

all_none : (types : List VType) (more : ℕ) → kept_names types (replicate more None) ≡ replicate more None
all_none types zero = refl
all_none [] (suc more) = ap (λ (x : Option ℕ). x ∷ kept_names [] (replicate more None)) (kept_none (peek [] 0)) ∙ ap (λ (xs : List (Option ℕ)). None ∷ xs) (all_none [] more)
all_none (t ∷ types) (suc more) = ap (λ (x : Option ℕ). x ∷ kept_names types (replicate more None)) (kept_none t) ∙ ap (λ (xs : List (Option ℕ)). None ∷ xs) (all_none types more)

pub kept_front : (types : List VType) (front : List (Option ℕ)) (more : ℕ) → kept_names types front ++ replicate more None ≡ kept_names types (front ++ replicate more None)
kept_front types [] more = sym (all_none types more)
kept_front [] (x ∷ front) more = ap (λ (xs : List (Option ℕ)). kept_name (peek [] 0) x ∷ xs) (kept_front [] front more)
kept_front (t ∷ types) (x ∷ front) more = ap (λ (xs : List (Option ℕ)). kept_name t x ∷ xs) (kept_front types front more)

-- ---- a slot that names something else

set_more : (xs : List (Option ℕ)) (k : ℕ) (x : Option ℕ) → length xs ≤ k → with_slot (xs ++ None ∷ []) k x ≡ with_slot xs k x
set_more [] zero x le = refl
set_more [] (suc k) x le = refl
set_more (y ∷ xs) zero x le = absurd (omega arith)
set_more (y ∷ xs) (suc k) x le = ap (λ (zs : List (Option ℕ)). y ∷ zs) (set_more xs k x (omega arith))

-- one of those behind comes to the front, or there is one more
pub one_more : (front new : List (Option ℕ)) (more left k : ℕ) (x : Option ℕ) → length front ≤ k → new ≡ front ++ None ∷ [] → left ≡ more - 1 → with_slot (new ++ replicate left None) k x ≡ with_slot (front ++ replicate more None) k x
one_more front new zero left k x le is less =
    ap (λ (n : ℕ). with_slot (new ++ replicate n None) k x) (let n : left ≡ 0 = omega (arith, less) in n)
    ∙ ap (λ (xs : List (Option ℕ)). with_slot xs k x) (append-nil new ∙ is)
    ∙ set_more front k x le
    ∙ ap (λ (xs : List (Option ℕ)). with_slot xs k x) (sym (append-nil front))
one_more front new (suc more) left k x le is less =
    ap (λ (n : ℕ). with_slot (new ++ replicate n None) k x) (let n : left ≡ more = omega (arith, less) in n)
    ∙ ap (λ (xs : List (Option ℕ)). with_slot xs k x) (ap (λ (xs : List (Option ℕ)). xs ++ replicate more None) is ∙ append_assoc front (None ∷ []) (replicate more None))

pub set_there : (front : List (Option ℕ)) (more k : ℕ) (x : Option ℕ) → k < length front → set front k x ++ replicate more None ≡ with_slot (front ++ replicate more None) k x
set_there [] more k x lt = absurd (omega arith)
set_there (y ∷ front) more zero x lt = refl
set_there (y ∷ front) more (suc k) x lt = ap (λ (xs : List (Option ℕ)). y ∷ xs) (set_there front more k x (omega arith))

-- ---- two lists of slots

get_none : (n k : ℕ) → get_or (replicate n nothing) k nothing ≡ nothing
get_none zero k = refl
get_none (suc n) zero = refl
get_none (suc n) (suc k) = get_none n k

pub none_on : (xs : List (Option ℕ)) (k : ℕ) → k < length xs → take k xs ≡ replicate k None → get_or xs k nothing ≡ nothing → take (k + 1) xs ≡ replicate (k + 1) None
none_on xs k lt so_far here = take_more xs k None lt ∙ ap (λ (ys : List (Option ℕ)). ys ++ get_or xs k None ∷ []) so_far ∙ ap (λ (x : Option ℕ). replicate k None ++ x ∷ []) here ∙ replicate-append-replicate k 1 nothing

pub none_end : (xs : List (Option ℕ)) (k : ℕ) → length xs ≡ k → take k xs ≡ replicate k None → xs ≡ replicate (length xs) None
none_end xs k is so_far = sym (take_all k xs (omega (arith, is))) ∙ so_far ∙ ap (λ (n : ℕ). replicate n nothing) (sym is)

split_same : (front rest short : List (Option ℕ)) (more others : ℕ) → length front ≡ length short → (front ++ rest) ++ replicate more None ≡ short ++ replicate others None → (front ≡ short) × (rest ++ replicate more None ≡ replicate others None)
split_same [] rest [] more others long e = (refl, e)
split_same [] rest (y ∷ short) more others long e = absurd (omega (arith, long))
split_same (x ∷ front) rest [] more others long e = absurd (omega (arith, long))
split_same (x ∷ front) rest (y ∷ short) more others long e =
    let tails : (front ++ rest) ++ replicate more None ≡ short ++ replicate others None = cc in
    let heads : x ≡ y = cc in
    let below = split_same front rest short more others (omega (arith, long)) tails in
    (ap (λ (z : Option ℕ). z ∷ front) heads ∙ ap (λ (zs : List (Option ℕ)). y ∷ zs) below.0, below.1)

rest_none : (rest : List (Option ℕ)) (more others : ℕ) → rest ++ replicate more None ≡ replicate others None → (rest ≡ replicate (length rest) None) × (length rest + more ≡ others)
rest_none [] more others e = (refl, (let same : more ≡ others = sym (length-replicate {A = Option ℕ} more None) ∙ ap length e ∙ length-replicate {A = Option ℕ} others None in omega (arith, same)))
rest_none (x ∷ rest) more zero e = absurd (cc)
rest_none (x ∷ rest) more (suc others) e =
    let tails : rest ++ replicate more None ≡ replicate others None = cc in
    let heads : x ≡ nothing = cc in
    let below = rest_none rest more others tails in
    (ap (λ (z : Option ℕ). z ∷ rest) heads ∙ ap (λ (zs : List (Option ℕ)). None ∷ zs) below.0, (let same = below.1 in omega (arith, same)))

pub same_back : (long front rest short : List (Option ℕ)) (more others : ℕ) → front ++ rest ≡ long → length front ≡ length short → long ++ replicate more None ≡ short ++ replicate others None →
    (front ≡ short) × (rest ≡ replicate (length rest) None) × (length rest + more ≡ others)
same_back long front rest short more others whole long_front e =
    let s = split_same front rest short more others long_front (ap (λ (xs : List (Option ℕ)). xs ++ replicate more None) whole ∙ e) in
    let r = rest_none rest more others s.1 in
    (s.0, r.0, r.1)

pub same_there : (long front rest short : List (Option ℕ)) (more others : ℕ) → front ++ rest ≡ long → front ≡ short → rest ≡ replicate (length rest) None → length rest + more ≡ others → long ++ replicate more None ≡ short ++ replicate others None
same_there long front rest short more others whole same none sum =
    ap (λ (xs : List (Option ℕ)). xs ++ replicate more None) (sym whole)
    ∙ append_assoc front rest (replicate more None)
    ∙ ap (λ (xs : List (Option ℕ)). xs ++ (rest ++ replicate more None)) same
    ∙ ap (λ (xs : List (Option ℕ)). short ++ (xs ++ replicate more None)) none
    ∙ ap (λ (xs : List (Option ℕ)). short ++ xs) (replicate-append-replicate (length rest) more nothing ∙ ap (λ (n : ℕ). replicate n nothing) sum)

-- ---- nothing behind the front

pub none_within : (more k : ℕ) → k < more → with_slot (replicate more None) k None ≡ replicate more None
none_within zero k lt = absurd (omega arith)
none_within (suc more) zero lt = refl
none_within (suc more) (suc k) lt = ap (λ (xs : List (Option ℕ)). None ∷ xs) (none_within more k (omega arith))

none_past : (k : ℕ) → with_slot [] k None ≡ replicate (suc k) None
none_past zero = refl
none_past (suc k) = ap (λ (xs : List (Option ℕ)). None ∷ xs) (none_past k)

none_after : (more k : ℕ) → more ≤ k → with_slot (replicate more None) k None ≡ replicate (suc k) None
none_after zero k le = none_past k
none_after (suc more) zero le = absurd (omega arith)
none_after (suc more) (suc k) le = ap (λ (xs : List (Option ℕ)). None ∷ xs) (none_after more k (omega arith))

pub none_beyond : (more k : ℕ) → more ≤ k → with_slot (replicate more None) k None ≡ replicate (k + 1) None
none_beyond more k le = none_after more k le ∙ ap (λ (n : ℕ). replicate n None) (let n : suc k ≡ k + 1 = omega arith in n)

pub none_front : (front : List (Option ℕ)) (more left k : ℕ) → length front ≤ k → with_slot (replicate more None) (k - length front) None ≡ replicate left None → front ++ replicate left None ≡ with_slot (front ++ replicate more None) k None
none_front [] more left k le e = sym e ∙ ap (λ (n : ℕ). with_slot (replicate more None) n None) (let n : k - 0 ≡ k = omega arith in n)
none_front (x ∷ front) more left zero le e = absurd (omega arith)
none_front (x ∷ front) more left (suc k) le e =
    ap (λ (xs : List (Option ℕ)). x ∷ xs) (none_front front more left k (omega arith) (ap (λ (n : ℕ). with_slot (replicate more None) n None) (let n : k - length front ≡ suc k - suc (length front) = omega arith in n) ∙ e))
