-- What tables by place say.
use Rattle.std.proofs.Common.{◌≡◌, ℕ, zero, suc, ◌+◌, ◌<◌, ◌≤◌, eqb, Bool, true, false, if◌then◌else◌, List, [], ◌∷◌, length, drop, set, replicate, get_or, slice_get, Option, Some, None, refl, sym, subst, ap, ◌∙◌, inl, inr, arith}
use Rattle.std.proofs.lemmas.Bool.{cases_eq, eq-eqb, ne_eqb}
use Rattle.std.proofs.lemmas.List.{length-map, length-set, length-replicate, get_or-map, get_or-replicate, get_or-set_same, get_or-set_other, drop_more, drop_all}
use Rattle.std.proofs.lemmas.Option.{same_Some}
use Rattle.kilim_program.specs.Lengths.{fetched, first_place}
use Rattle.kilim_program.specs.declared.instr.Instr.{Instr}
use Rattle.kilim_program.specs.declared.verified.Frame.{Frame}
use Rattle.kilim_isolation_graph.specs.Canonical.{index_of}
use Rattle.kilim_type_spec.specs.Step.{Types}
use Rattle.kilim_type_spec.specs.Typed.{frame_in, frame_types}
use Rattle.kilim_isolation.specs.Tables.{IsTable, places_of}
use Rattle.kilim_isolation.specs.Walks.{frame_among}

-- ---- the instruction

fetched_case : (x e : ℕ × Instr) (es : List (ℕ × Instr)) (end k : ℕ) (b : Bool) (rest : Option (Instr × ℕ)) → slice_get (x ∷ es) (if b then 0 else suc k) ≡ Some e →
    (slice_get es k ≡ Some e → ◌≡◌ {A = Option (Instr × ℕ)} (Some (e.1, first_place (drop (suc k) es) end)) rest) →
    ◌≡◌ {A = Option (Instr × ℕ)} (Some (e.1, first_place (drop (suc (if b then 0 else suc k)) (x ∷ es)) end)) (if b then Some (x.1, first_place es end) else rest)
fetched_case x e es end k true rest h go = let same : x ≡ e = same_Some x e h in ap (λ (y : ℕ × Instr). let z : Option (Instr × ℕ) = Some (y.1, first_place es end) in z) (sym same)
fetched_case x e es end k false rest h go = go h

fetched_some : (es : List (ℕ × Instr)) (end at : ℕ) (e : ℕ × Instr) → slice_get es (index_of at (places_of es)) ≡ Some e →
    ◌≡◌ {A = Option (Instr × ℕ)} (Some (e.1, first_place (drop (suc (index_of at (places_of es))) es) end)) (fetched es end at)
fetched_some [] end at e h = absurd (cc)
fetched_some (x ∷ es) end at e h = fetched_case x e es end (index_of at (places_of es)) (eqb x.0 at) (fetched es end at) h (fetched_some es end at e)

fetched_past : (es : List (ℕ × Instr)) (end at : ℕ) → length es ≤ index_of at (places_of es) → ◌≡◌ {A = Option (Instr × ℕ)} None (fetched es end at)
fetched_past [] end at le = refl
fetched_past (x ∷ es) end at le = past_case (eqb x.0 at) (index_of at (places_of es)) (fetched es end at) le (fetched_past es end at)
  where
    past_case : (b : Bool) (k : ℕ) (rest : Option (Instr × ℕ)) → suc (length es) ≤ (if b then 0 else suc k) → (length es ≤ k → ◌≡◌ {A = Option (Instr × ℕ)} None rest) →
        ◌≡◌ {A = Option (Instr × ℕ)} None (if b then Some (x.1, first_place es end) else rest)
    past_case true k rest le go = absurd (omega arith)
    past_case false k rest le go = go (omega arith)

-- as a function says it that has the number
pub fetch_here : (es : List (ℕ × Instr)) (end at k next : ℕ) (e : ℕ × Instr) → k ≡ index_of at (places_of es) → slice_get es k ≡ Some e → next ≡ first_place (drop (k + 1) es) end →
    ◌≡◌ {A = Option (Instr × ℕ)} (Some (e.1, next)) (fetched es end at)
fetch_here es end at k next e is there behind =
    let one : k + 1 ≡ suc (index_of at (places_of es)) = omega (arith, is) in
    ap (λ (n : ℕ). let z : Option (Instr × ℕ) = Some (e.1, n) in z) (behind ∙ ap (λ (n : ℕ). first_place (drop n es) end) one)
    ∙ fetched_some es end at e (ap (λ (n : ℕ). slice_get es n) (sym is) ∙ there)

pub fetch_past : (es : List (ℕ × Instr)) (end at k : ℕ) → k ≡ index_of at (places_of es) → length es ≤ k → ◌≡◌ {A = Option (Instr × ℕ)} None (fetched es end at)
fetch_past es end at k is le = fetched_past es end at (omega (arith, is))

-- ---- the declared frame

declared_case : (x e : ℕ × Frame) (es : List (ℕ × Frame)) (k : ℕ) (b : Bool) (rest : Option Types) → slice_get (x ∷ es) (if b then 0 else suc k) ≡ Some e → (slice_get es k ≡ Some e → Some (frame_types e.1) ≡ rest) →
    Some (frame_types e.1) ≡ (if b then Some (frame_types x.1) else rest)
declared_case x e es k true rest h go = let same : x ≡ e = same_Some x e h in ap (λ (y : ℕ × Frame). Some (frame_types y.1)) (sym same)
declared_case x e es k false rest h go = go h

declared_some : (es : List (ℕ × Frame)) (at : ℕ) (e : ℕ × Frame) → slice_get es (index_of at (places_of es)) ≡ Some e → Some (frame_types e.1) ≡ frame_in es at
declared_some [] at e h = absurd (cc)
declared_some (x ∷ es) at e h = declared_case x e es (index_of at (places_of es)) (eqb x.0 at) (frame_in es at) h (declared_some es at e)

past_case : {A : Type 0} (b : Bool) (n k : ℕ) (here rest : Option A) → suc n ≤ (if b then 0 else suc k) → (n ≤ k → None ≡ rest) → None ≡ (if b then here else rest)
past_case true n k here rest le go = absurd (omega arith)
past_case false n k here rest le go = go (omega arith)

declared_none : (es : List (ℕ × Frame)) (at : ℕ) → length es ≤ index_of at (places_of es) → None ≡ frame_in es at
declared_none [] at le = refl
declared_none (x ∷ es) at le = past_case (eqb x.0 at) (length es) (index_of at (places_of es)) (Some (frame_types x.1)) (frame_in es at) le (declared_none es at)

pub declared_here : (es : List (ℕ × Frame)) (at k : ℕ) (e : ℕ × Frame) → k ≡ index_of at (places_of es) → slice_get es k ≡ Some e → Some (frame_types e.1) ≡ frame_in es at
declared_here es at k e is there = declared_some es at e (ap (λ (n : ℕ). slice_get es n) (sym is) ∙ there)

pub declared_past : (es : List (ℕ × Frame)) (at k : ℕ) → k ≡ index_of at (places_of es) → length es ≤ k → None ≡ frame_in es at
declared_past es at k is le = declared_none es at (omega (arith, is))

-- ---- the verified frame

get_case : (b : Bool) (k n : ℕ) (g : Frame) (fs : List Frame) (rest : Option Frame) → (if b then 0 else suc k) < suc n → (k < n → slice_get fs k ≡ rest) → slice_get (g ∷ fs) (if b then 0 else suc k) ≡ (if b then Some g else rest)
get_case true k n g fs rest lt go = refl
get_case false k n g fs rest lt go = go (omega arith)

frame_get : (es : List (ℕ × Instr)) (fs : List Frame) (at : ℕ) → index_of at (places_of es) < length es → slice_get fs (index_of at (places_of es)) ≡ frame_among es fs at
frame_get [] fs at lt = absurd (omega arith)
frame_get (x ∷ es) [] at lt = refl
frame_get (x ∷ es) (g ∷ fs) at lt = get_case (eqb x.0 at) (index_of at (places_of es)) (length es) g fs (frame_among es fs at) lt (frame_get es fs at)

frame_none : (es : List (ℕ × Instr)) (fs : List Frame) (at : ℕ) → length es ≤ index_of at (places_of es) → None ≡ frame_among es fs at
frame_none [] fs at le = refl
frame_none (x ∷ es) [] at le = refl
frame_none (x ∷ es) (g ∷ fs) at le = past_case (eqb x.0 at) (length es) (index_of at (places_of es)) (Some g) (frame_among es fs at) le (frame_none es fs at)

pub frame_here : (es : List (ℕ × Instr)) (fs : List Frame) (at k : ℕ) → k ≡ index_of at (places_of es) → k < length es → slice_get fs k ≡ frame_among es fs at
frame_here es fs at k is lt = ap (λ (n : ℕ). slice_get fs n) is ∙ frame_get es fs at (omega (arith, is))

pub frame_past : (es : List (ℕ × Instr)) (fs : List Frame) (at k : ℕ) → k ≡ index_of at (places_of es) → length es ≤ k → None ≡ frame_among es fs at
frame_past es fs at k is le = frame_none es fs at (omega (arith, is))

-- ---- the table

-- those from a number on are noted
pub record IsNoted (table places : List ℕ) (size number : ℕ) : Type 0 where
  pub within : number ≤ length places
  pub long : length table ≡ size
  pub each : (at : ℕ) → at < size → get_or table at 0 ≡ number + index_of at (drop number places)

noted_none : (places : List ℕ) (size : ℕ) → IsNoted (replicate size (length places)) places size (length places)
noted_none places size = record {
  within = omega arith;
  long = length-replicate size (length places);
  each = λ at lt. get_or-replicate size at (length places) 0 lt ∙ (let zero_more : length places ≡ length places + 0 = omega arith in zero_more ∙ ap (λ xs. length places + index_of at xs) (sym (drop_all (length places) places (omega arith))));
}

noted_more : (old new places : List ℕ) (size number before place : ℕ) → IsNoted old places size before → before ≡ number + 1 → place ≡ get_or places number 0 → new ≡ set old place number → IsNoted new places size number
noted_more old new places size number before place was next is set_is = record {
  within = omega (arith, was.within);
  long = ap length set_is ∙ (length-set old place number ∙ was.long);
  each = λ at lt. ap (λ xs. get_or xs at 0) set_is ∙ (at_place at lt ∙ ap (λ xs. number + index_of at xs) (sym front));
}
  where
    front : drop number places ≡ place ∷ drop (number + 1) places
    front = drop_more places number 0 (omega (arith, was.within)) ∙ ap (λ z. z ∷ drop (number + 1) places) (sym is)

    at_place : (at : ℕ) → at < size → get_or (set old place number) at 0 ≡ number + index_of at (place ∷ drop (number + 1) places)
    at_place at lt = elim (cases_eq place at) [
      | inl same ↦ (
          let here : get_or (set old place number) at 0 ≡ number = ap (λ (k : ℕ). get_or (set old place number) k 0) (sym same) ∙ get_or-set_same old place number 0 (omega (arith, was.long)) in
          let none : index_of at (place ∷ drop (number + 1) places) ≡ 0 = ap (λ (b : Bool). if b then 0 else suc (index_of at (drop (number + 1) places))) (eq-eqb place at same) in
          omega arith)
      | inr other ↦ (
          let there : get_or (set old place number) at 0 ≡ get_or old at 0 = get_or-set_other old place at number 0 (λ e. other (sym e)) in
          let later : index_of at (place ∷ drop (number + 1) places) ≡ suc (index_of at (drop (number + 1) places)) = ap (λ (b : Bool). if b then 0 else suc (index_of at (drop (number + 1) places))) (ne_eqb place at other) in
          let before_it : get_or old at 0 ≡ before + index_of at (drop before places) = was.each at lt in
          let same : index_of at (drop before places) ≡ index_of at (drop (number + 1) places) = ap (λ (k : ℕ). index_of at (drop k places)) next in
          omega arith)
    ]

-- of entries
pub none_noted : {A : Type 0} (entries : List (ℕ × A)) (size : ℕ) → IsNoted (replicate size (length entries)) (places_of entries) size (length entries)
none_noted {A} entries size = subst (λ (n : ℕ). IsNoted (replicate size n) (places_of entries) size n) (length-map entries (λ (e : ℕ × A). e.0)) (noted_none (places_of entries) size)

pub one_noted : {A : Type 0} (old new : List ℕ) (entries : List (ℕ × A)) (size number before : ℕ) (d : ℕ × A) → IsNoted old (places_of entries) size before → before ≡ number + 1 → new ≡ set old (get_or entries number d).0 number
    → IsNoted new (places_of entries) size number
one_noted {A} old new entries size number before d was next is =
    let less : number < length entries = omega (arith, was.within, next, length-map entries (λ (e : ℕ × A). e.0)) in
    noted_more old new (places_of entries) size number before (get_or entries number d).0 was next (sym (get_or-map (λ (e : ℕ × A). e.0) entries number d 0 less)) is

pub noted_all : (table places : List ℕ) (size number : ℕ) → IsNoted table places size number → number ≤ 0 → IsTable table places size
noted_all table places size zero noted le = record { long = noted.long; each = λ at lt. noted.each at lt ∙ (let zero_more : 0 + index_of at places ≡ index_of at places = omega arith in zero_more) }
noted_all table places size (suc number) noted le = absurd (omega arith)
