-- Where control goes from an instruction is a place of the code.
use Rattle.std.proofs.Common.{◌≡◌, ◌∙◌, sym, ap, refl, subst, ℕ, zero, suc, ◌-◌, ◌<◌, ◌≤◌, ◌==◌, Bool, true, false, not, if◌then◌else◌, true≢false, List, [], ◌∷◌, map, Option, Some, None, inl, inr, arith}
use Rattle.std.specs.List.{list_all, AllByRecursion}
use Rattle.std.specs.Prelude.{◌&&◌, ◌||◌, ◌++◌, nat_lt}
use Rattle.std.specs.Option.{IfSome}
use Rattle.std.proofs.lemmas.Bool.{and_parts, or_cases}
use Rattle.std.proofs.lemmas.Option.{same_Some}
use Rattle.kilim_program.specs.declared.class.Handler.{Handler}
use Rattle.kilim_program.specs.declared.class.Method.{Method}
use Rattle.kilim_program.specs.declared.instr.Instr.{Instr}
use Rattle.kilim_program.specs.declared.names.MethodId.{MethodId}
use Rattle.kilim_program.specs.Handlers.{entry_stands, table_stands}
use Rattle.kilim_program.specs.Keeps.{Keeps, code_is_whole}
use Rattle.kilim_program.specs.Lengths.{has_length, code_stands, code_ends, targets_stand, is_code_place, first_place, fetched, jump_targets, ends_path}
use Rattle.kilim_program.specs.Names.{method_at, is_empty}
use Rattle.kilim_program.specs.Program.{Program}
use Rattle.kilim_isolation_paths.specs.declared.machine.Exit.{Exit}
use Rattle.kilim_isolation_paths.specs.declared.machine.Exit.TheVariants as exit
use Rattle.kilim_isolation_paths.specs.Paths.{Has, target}
use Rattle.kilim_program.proofs.lookups.Rising.{longer_by, all_there, same_number}
use Rattle.kilim_type_spec.specs.Typed.{covers, edges, has_code}
use Rattle.kilim_isolation.specs.Walks.{exits_at, exits_of, exits_to, handled_at, is_throw, is_walkable}

both : (a b : Bool) → a ≡ true → b ≡ true → (a && b) ≡ true
both true b e f = f
both false b e f = absurd (true≢false (sym e))

-- the handler of each entry that stands is an instruction
each_stands : (m : Method) (hs : List Handler) → list_all (entry_stands m.code m.code_length) hs ≡ true → list_all (λ (h : Handler). is_code_place m.code h.at) hs ≡ true
each_stands m [] e = refl
each_stands m (h ∷ hs) e =
    let parts = and_parts (entry_stands m.code m.code_length h) _ e in
    let range = and_parts (is_code_place m.code h.start) _ parts.0 in
    let ends = and_parts (is_code_place m.code h.end || h.end == m.code_length) _ range.1 in
    both (is_code_place m.code h.at) _ (and_parts (nat_lt h.start h.end) _ ends.1).1 (each_stands m hs parts.1)

pub whole : (p : Program) (id : MethodId) (m : Method) → Keeps p → method_at p id ≡ Some m → is_walkable m ≡ true
whole p id m keeps there =
    both (code_is_whole m) _ (all_there code_is_whole p.methods id.0 m keeps.code there)
    (each_stands m m.handlers (all_there table_stands p.methods id.0 m keeps.handlers there))

record IsInside (at : ℕ) (es : List (ℕ × Instr)) (end : ℕ) : Type 0 where
  least : at ≤ end
  each : (q : ℕ) → is_code_place es q ≡ true → q < end

inside : (at : ℕ) (es : List (ℕ × Instr)) (end : ℕ) → code_stands at es end ≡ true → IsInside at es end
unfolding code_stands
inside at [] end stands = record { least = (let same = same_number at end stands in omega arith); each = λ q h. absurd (true≢false (sym h)) }
inside at (e ∷ es) end stands =
    let here = and_parts (e.0 == at) _ stands in
    let long = and_parts (has_length at e.1 (first_place es end - at)) _ here.1 in
    let rest = inside (first_place es end) es end long.1 in
    let same : e.0 ≡ at = same_number e.0 at here.0 in
    let less : at < first_place es end = longer_by at (first_place es end) (first_place es end - at) e.1 refl long.0 in
    let least : first_place es end ≤ end = rest.least in
    record {
      least = omega arith;
      each = λ q h. elim (or_cases (e.0 == q) (is_code_place es q) h) [ inl a ↦ (let is : e.0 ≡ q = same_number e.0 q a in omega arith) | inr b ↦ rest.each q b ];
    }

place_is : (e : ℕ × Instr) (es : List (ℕ × Instr)) → is_code_place (e ∷ es) e.0 ≡ true
place_is e es = grind arith

some_code : (es : List (ℕ × Instr)) (end : ℕ) → code_stands 0 es end ≡ true → is_empty es ≡ false → 0 < end
some_code [] end stands c = absurd (true≢false c)
some_code (e ∷ es) end stands c = let lt : e.0 < end = (inside 0 (e ∷ es) end stands).each e.0 (place_is e es) in omega arith

pub starts : (m : Method) → is_walkable m ≡ true → has_code m ≡ true → 0 < m.code_length
unfolding code_is_whole
starts m w coded = some_code m.code m.code_length (and_parts (code_stands 0 m.code m.code_length) _ (and_parts (code_is_whole m) _ w).0).0 (not_true (is_empty m.code) coded)
  where
    not_true : (b : Bool) → not b ≡ true → b ≡ false
    not_true true e = absurd (true≢false (sym e))
    not_true false e = refl

same_instr : (i j : Instr) (a b : ℕ) → (let x : Option (Instr × ℕ) = Some (i, a) in x) ≡ Some (j, b) → i ≡ j
same_instr i j a b e = ap (λ (x : Option (Instr × ℕ)). elim x [ None ↦ i | Some y ↦ y.0 ]) e

found_in : (test : Instr → Bool) (e : ℕ × Instr) (b : Bool) (next to : ℕ) (i : Instr) (rest : Option (Instr × ℕ)) → test e.1 ≡ true → (rest ≡ Some (i, to) → test i ≡ true) → (if b then Some (e.1, next) else rest) ≡ Some (i, to) → test i ≡ true
found_in test e true next to i rest here later f = ap test (sym (same_instr e.1 i next to f)) ∙ here
found_in test e false next to i rest here later f = later f

fetched_in : (test : Instr → Bool) (es : List (ℕ × Instr)) (end place to : ℕ) (i : Instr) → list_all (λ e. test e.1) es ≡ true → fetched es end place ≡ Some (i, to) → test i ≡ true
fetched_in test [] end place to i all found = absurd (cc)
fetched_in test (e ∷ es) end place to i all found =
    let parts = and_parts (test e.1) _ all in
    found_in test e (e.0 == place) (first_place es end) to i (fetched es end place) parts.0 (λ f. fetched_in test es end place to i parts.1 f) found

same_next : (i j : Instr) (a b : ℕ) → (let x : Option (Instr × ℕ) = Some (i, a) in x) ≡ Some (j, b) → a ≡ b
same_next i j a b e = ap (λ (x : Option (Instr × ℕ)). elim x [ None ↦ a | Some y ↦ y.1 ]) e

last_ends : (e : ℕ × Instr) (b : Bool) (end to : ℕ) (i : Instr) → ends_path e.1 ≡ true → ends_path i ≡ false → if◌then◌else◌ {A = Option (Instr × ℕ)} b (Some (e.1, end)) None ≡ Some (i, to) → ⊥
last_ends e true end to i ends goes f = true≢false (sym ends ∙ (ap ends_path (same_instr e.1 i end to f) ∙ goes))
last_ends e false end to i ends goes f = absurd (cc)

next_in : (e : ℕ × Instr) (b : Bool) (next end to : ℕ) (i : Instr) (rest : Option (Instr × ℕ)) → next < end → (rest ≡ Some (i, to) → to < end) → (if b then Some (e.1, next) else rest) ≡ Some (i, to) → to < end
next_in e true next end to i rest lt later f = let is = same_next e.1 i next to f in omega arith
next_in e false next end to i rest lt later f = later f

next_inside : (at : ℕ) (es : List (ℕ × Instr)) (end place to : ℕ) (i : Instr) → code_stands at es end ≡ true → code_ends es ≡ true → fetched es end place ≡ Some (i, to) → ends_path i ≡ false → to < end
unfolding code_stands code_ends
next_inside at [] end place to i stands ends found goes = absurd (cc)
next_inside at (e ∷ []) end place to i stands ends found goes = absurd (last_ends e (e.0 == place) end to i ends goes found)
next_inside at (e ∷ next ∷ es) end place to i stands ends found goes =
    let here = and_parts (e.0 == at) _ stands in
    let long = and_parts (has_length at e.1 (next.0 - at)) _ here.1 in
    next_in e (e.0 == place) next.0 end to i (fetched (next ∷ es) end place) ((inside next.0 (next ∷ es) end long.1).each next.0 (place_is next es))
    (λ f. next_inside next.0 (next ∷ es) end place to i long.1 ends f goes) found

each_inside : (at : ℕ) (code : List (ℕ × Instr)) (end : ℕ) (tos : List ℕ) → code_stands at code end ≡ true → list_all (is_code_place code) tos ≡ true → AllByRecursion (λ q. q < end) tos
each_inside at code end [] stands all = tt
each_inside at code end (to ∷ tos) stands all =
    let parts = and_parts (is_code_place code to) _ all in
    ((inside at code end stands).each to parts.0, each_inside at code end tos stands parts.1)

shown_each : (end : ℕ) (tos : List ℕ) → AllByRecursion (λ q. q < end) tos → AllByRecursion (λ x. IfSome x (λ q. q < end)) (map Some tos)
shown_each end [] all = tt
shown_each end (to ∷ tos) all = (all.0, shown_each end tos all.1)

exits_each : (end : ℕ) (tos : List ℕ) → AllByRecursion (λ q. q < end) tos → AllByRecursion (λ x. IfSome x (λ q. q < end)) (exits_to tos)
exits_each end [] all = (tt, tt)
exits_each end (to ∷ tos) all = (all.0, shown_each end tos all.1)

edges_each : (end next : ℕ) (b : Bool) (tos : List ℕ) → (b ≡ false → next < end) → AllByRecursion (λ q. q < end) tos → AllByRecursion (λ q. q < end) (if b then tos else next ∷ tos)
edges_each end next true tos lt all = all
edges_each end next false tos lt all = (lt refl, all)

unless : (end : ℕ) (b : Bool) (xs : List (Option ℕ)) → AllByRecursion (λ x. IfSome x (λ q. q < end)) xs → AllByRecursion (λ x. IfSome x (λ q. q < end)) (if b then [] else xs)
unless end true xs all = tt
unless end false xs all = all

leads_inside : (m : Method) (at : ℕ) → code_is_whole m ≡ true → AllByRecursion (λ x. IfSome x (λ q. q < m.code_length)) (exits_of (fetched m.code m.code_length at))
unfolding code_is_whole targets_stand
leads_inside m at w = by (fetched m.code m.code_length at) refl
  where
    stands : code_stands 0 m.code m.code_length ≡ true
    stands = (and_parts (code_stands 0 m.code m.code_length) _ w).0

    others : (targets_stand m.code ≡ true) × (code_ends m.code ≡ true)
    others = and_parts (targets_stand m.code) _ (and_parts (code_stands 0 m.code m.code_length) _ w).1

    by : (found : Option (Instr × ℕ)) → fetched m.code m.code_length at ≡ found → AllByRecursion (λ x. IfSome x (λ q. q < m.code_length)) (exits_of found)
    by None f = tt
    by (Some (i, next)) f =
        unless m.code_length (is_throw i) (exits_to (edges i next))
        (exits_each m.code_length (edges i next) (edges_each m.code_length next (ends_path i) (jump_targets i)
        (λ goes. next_inside 0 m.code m.code_length at next i stands others.1 f goes)
        (each_inside 0 m.code m.code_length (jump_targets i) stands (fetched_in (λ j. list_all (is_code_place m.code) (jump_targets j)) m.code m.code_length at next i others.0 f))))

-- an exit leads to a place of the code, or out
abbrev Leads : ℕ → Exit → Type 0
Leads end x = IfSome (target x) (λ q. q < end)

to_each : (end : ℕ) (xs : List (Option ℕ)) (ys : List Exit) → AllByRecursion (λ x. IfSome x (λ q. q < end)) xs → AllByRecursion (Leads end) ys → AllByRecursion (Leads end) (map exit.To xs ++ ys)
to_each end [] ys all others = others
to_each end (x ∷ xs) ys all others = (all.0, to_each end xs ys all.1 others)

with_handler : (end : ℕ) (b : Bool) (at : ℕ) (rest : List Exit) → at < end → AllByRecursion (Leads end) rest → AllByRecursion (Leads end) (if b then exit.Handler at ∷ rest else rest)
with_handler end true at rest lt all = (lt, all)
with_handler end false at rest lt all = all

handlers_inside : (m : Method) (hs : List Handler) (at : ℕ) → code_stands 0 m.code m.code_length ≡ true → list_all (λ (h : Handler). is_code_place m.code h.at) hs ≡ true → AllByRecursion (Leads m.code_length) (handled_at hs at)
handlers_inside m [] at stands all = tt
handlers_inside m (h ∷ hs) at stands all =
    let parts = and_parts (is_code_place m.code h.at) _ all in
    with_handler m.code_length (covers h at) h.at (handled_at hs at) ((inside 0 m.code m.code_length stands).each h.at parts.0) (handlers_inside m hs at stands parts.1)

pub exits_inside : (m : Method) (at : ℕ) → is_walkable m ≡ true → AllByRecursion (λ (x : Exit). IfSome (target x) (λ q. q < m.code_length)) (exits_at m at)
unfolding code_is_whole
exits_inside m at w =
    let parts = and_parts (code_is_whole m) _ w in
    to_each m.code_length (exits_of (fetched m.code m.code_length at)) (handled_at m.handlers at) (leads_inside m at parts.0)
    (handlers_inside m m.handlers at (and_parts (code_stands 0 m.code m.code_length) _ parts.0).0 parts.1)

has_each : {A : Type 0} (P : A → Type 0) (xs : List A) (x : A) → AllByRecursion P xs → Has xs x → P x
has_each P [] x all (k, there) = absurd (cc)
has_each P (y ∷ ys) x all (zero, there) = subst P (same_Some y x there) all.0
has_each P (y ∷ ys) x all (suc k, there) = has_each P ys x all.1 (k, there)

pub exit_inside : (m : Method) (at : ℕ) (x : Exit) → is_walkable m ≡ true → Has (exits_at m at) x → IfSome (target x) (λ q. q < m.code_length)
exit_inside m at x w has = has_each (λ (y : Exit). IfSome (target y) (λ q. q < m.code_length)) (exits_at m at) x (exits_inside m at w) has
