-- No frame of a well-typed method has more locals than the method.
use Rattle.std.proofs.Common.{◌≡◌, ℕ, zero, suc, ◌+◌, ◌<◌, ◌≤◌, Bool, true, false, ◌||◌, ◌&&◌, cond, eqb, refl, ap, sym, subst, arith, List, [], ◌∷◌, length, drop, Option, Some, None, Result, Ok, Err}
use Rattle.std.specs.Prelude.{nat_le, sum_by, if◌then◌else◌}
use Rattle.std.specs.List.{list_all}
use Rattle.std.proofs.lemmas.Bool.{and_parts, eqb-true, leb-true, ne_eqb}
use Rattle.std.proofs.lemmas.List.{length-append}
use Rattle.std.proofs.lemmas.List.Sums.{sum_by-cons}
use Rattle.kilim_program.specs.declared.class.Method.{Method}
use Rattle.kilim_program.specs.declared.instr.Instr.{Instr}
use Rattle.kilim_program.specs.declared.names.ClassId.{ClassId}
use Rattle.kilim_program.specs.declared.ty.Base.{Base}
use Rattle.kilim_program.specs.declared.ty.Base.TheVariants as base
use Rattle.kilim_program.specs.declared.ty.Ty.{Ty}
use Rattle.kilim_program.specs.declared.verified.Frame.{Frame}
use Rattle.kilim_program.specs.declared.verified.VType.{VType}
use Rattle.kilim_program.specs.declared.verified.VType.TheVariants.{Top, Int, Long, Null, UninitThis, Uninit, Object}
use Rattle.kilim_program.specs.Lengths.{ends_path, is_code_place}
use Rattle.kilim_program.specs.Program.{Program}
use Rattle.kilim_program.specs.Same.{argument_slots, is_constructor, is_wide_base, type_slots}
use Rattle.kilim_type_spec.specs.Step.{Types, Operand, Row, Takes, Element, Shuffles, Loads, Stores, Adds, Makes, Constructs, Leaves, Further, peek, poke, is_long, size, split_at, split_long, with_half, stored, replaced, vtype, class_vtype, by_row, row, with_stack, with_element, element, shuffled, store, constructed}
use Rattle.kilim_type_spec.specs.Typed.{Here, TypedBy, WellTypedBy, declared, entry, frame_fits, frame_in, frame_types, goes_on, param_slots, slots_of_type, this_types}
use Rattle.kilim_type_laws.proofs.Tops.{passed, past}

-- ---- locals

few_poked : (ts : List VType) (j : ℕ) (t : VType) (n : ℕ) → length ts ≤ n → j < n → length (poke ts j t) ≤ n
few_poked ts j t zero few less = absurd (omega (arith, less))
few_poked [] zero t (suc n) few less = omega arith
few_poked [] (suc j) t (suc n) few less = let rest = few_poked [] j t n (omega arith) (omega (arith, less)) in omega (arith, rest)
few_poked (x ∷ xs) zero t (suc n) few less = omega (arith, few)
few_poked (x ∷ xs) (suc j) t (suc n) few less = let rest = few_poked xs j t n (omega (arith, few)) (omega (arith, less)) in omega (arith, rest)

few_split : (ts : List VType) (j n : ℕ) → length ts ≤ n → j < n → length (split_long ts j) ≤ n
few_split ts zero n few less = few
few_split ts (suc j) n few less = by (is_long (peek ts j))
  where
    by : (b : Bool) → length (split_at b ts j) ≤ n
    by true = few_poked ts j Top n few (omega (arith, less))
    by false = few

few_halved : (t : VType) (ts : List VType) (j n : ℕ) → length ts ≤ n → j + size t ≤ n → length (with_half t ts j) ≤ n
few_halved Long ts j n few within = few_poked ts (suc j) Top n few (omega (arith, within))
few_halved Top ts j n few within = few
few_halved Int ts j n few within = few
few_halved Null ts j n few within = few
few_halved UninitThis ts j n few within = few
few_halved (Uninit at) ts j n few within = few
few_halved (Object ty) ts j n few within = few

some_size : (t : VType) → 0 < size t
some_size Long = omega arith
some_size Top = omega arith
some_size Int = omega arith
some_size Null = omega arith
some_size UninitThis = omega arith
some_size (Uninit at) = omega arith
some_size (Object ty) = omega arith

few_stored : (ts : List VType) (j : ℕ) (t : VType) (n : ℕ) → length ts ≤ n → j + size t ≤ n → length (stored ts j t) ≤ n
few_stored ts j t n few within =
    let some = some_size t in
    let less : j < n = omega (arith, some, within) in
    few_halved t (poke (split_long ts j) j t) j n (few_poked (split_long ts j) j t n (few_split ts j n few less) less) within

same_replaced : (old new : VType) (ts : List VType) → length (replaced old new ts) ≡ length ts
same_replaced old new [] = refl
same_replaced old new (t ∷ ts) = ap suc (same_replaced old new ts)

few_replaced : (old new : VType) (ts : List VType) (n : ℕ) → length ts ≤ n → length (replaced old new ts) ≤ n
few_replaced old new ts n few = let same = same_replaced old new ts in omega (arith, same, few)

-- ---- rows

locals_are : (f g : Types) (n : ℕ) → (let r : Result Types ℕ = Ok f in r) ≡ Ok g → length f.locals ≤ n → length g.locals ≤ n
locals_are f g n e few = subst (λ (z : Types). length z.locals ≤ n) (let is : f ≡ g = cc in is) few

module _ (p : Program) (m : Method) where
  with_stack_few : (f g : Types) (r : Result (List VType) ℕ) (n : ℕ) → with_stack f r ≡ Ok g → length f.locals ≤ n → length g.locals ≤ n
  with_stack_few f g (Ok s) n e few = locals_are (record f { stack = s }) g n e few
  with_stack_few f g (Err r) n e few = absurd (cc)

  element_few : (f g : Types) (r : Result VType ℕ) (n : ℕ) → with_element f r ≡ Ok g → length f.locals ≤ n → length g.locals ≤ n
  element_few f g (Ok t) n e few = locals_are (record f { stack = t ∷ drop 2 f.stack }) g n e few
  element_few f g (Err r) n e few = absurd (cc)

  store_few : (o : Operand) (slot : ℕ) (s : List VType) (f g : Types) → store p m o slot s f ≡ Ok g → length f.locals ≤ m.max_locals → length g.locals ≤ m.max_locals
  store_few o slot [] f g e few = absurd (cc)
  store_few o slot (t ∷ s) f g e few =
      let one = passed 5 _ _ g e in
      let two = passed 6 (nat_le (slot + size t) m.max_locals) _ g one.1 in
      locals_are (record f { locals = stored f.locals slot t; stack = s }) g m.max_locals two.1 (few_stored f.locals slot t m.max_locals few (leb-true (slot + size t) m.max_locals two.0))

  constructed_few : (class : ClassId) (gives : List VType) (after : List Further) (s : List VType) (f g : Types) (n : ℕ) → constructed p m class gives after s f ≡ Ok g → length f.locals ≤ n → length g.locals ≤ n
  constructed_few class gives after (UninitThis ∷ s) f g n e few =
      let one = passed 10 _ _ g e in
      locals_are _ g n (past p after f.stack _ g one.1) (few_replaced UninitThis (class_vtype m.owner) f.locals n few)
  constructed_few class gives after (Uninit at ∷ s) f g n e few =
      let one = passed 10 _ _ g e in
      locals_are _ g n (past p after f.stack _ g one.1) (few_replaced (Uninit at) (class_vtype class) f.locals n few)
  constructed_few class gives after [] f g n e few = absurd (cc)
  constructed_few class gives after (Top ∷ s) f g n e few = absurd (cc)
  constructed_few class gives after (Int ∷ s) f g n e few = absurd (cc)
  constructed_few class gives after (Long ∷ s) f g n e few = absurd (cc)
  constructed_few class gives after (Null ∷ s) f g n e few = absurd (cc)
  constructed_few class gives after (Object ty ∷ s) f g n e few = absurd (cc)

  by_row_few : (at : ℕ) (r : Row) (f g : Types) → by_row p m at r f ≡ Ok g → length f.locals ≤ m.max_locals → length g.locals ≤ m.max_locals
  by_row_few at (Takes takes gives also) f g e few =
      let one = passed 3 _ _ g e in
      let two = passed 4 _ _ g one.1 in
      let three = passed 5 _ _ g two.1 in
      locals_are _ g m.max_locals (past p also f.stack _ g three.1) few
  by_row_few at Element f g e few =
      let one = passed 3 _ _ g e in
      let room = passed 4 _ _ g one.1 in
      let two = passed 5 _ _ g room.1 in
      element_few f g (element f.stack) m.max_locals two.1 few
  by_row_few at (Shuffles form) f g e few =
      let one = passed 3 _ _ g e in
      let two = passed 4 _ _ g one.1 in
      with_stack_few f g (shuffled form f.stack) m.max_locals two.1 few
  by_row_few at (Loads o slot) f g e few =
      let one = passed 4 _ _ g e in
      let two = passed 6 _ _ g one.1 in
      locals_are _ g m.max_locals two.1 few
  by_row_few at (Stores o slot) f g e few = store_few o slot f.stack f g e few
  by_row_few at (Adds slot) f g e few = locals_are f g m.max_locals (passed 6 _ _ g e).1 few
  by_row_few at (Makes may) f g e few =
      let one = passed 4 _ _ g e in
      let two = passed 10 _ _ g one.1 in
      let three = passed 13 _ _ g two.1 in
      locals_are _ g m.max_locals three.1 (few_replaced (Uninit at) Top f.locals m.max_locals few)
  by_row_few at (Constructs takes gives class before after) f g e few =
      let one = passed 3 _ _ g e in
      let two = passed 4 _ _ g one.1 in
      let three = passed 5 _ _ g two.1 in
      constructed_few class gives after (drop (length takes) f.stack) f g m.max_locals (past p before f.stack _ g three.1) few
  by_row_few at (Leaves takes also) f g e few =
      let one = passed 3 _ _ g e in
      let two = passed 5 _ _ g one.1 in
      let three = passed 11 _ _ g (past p also f.stack _ g two.1) in
      locals_are _ g m.max_locals three.1 few

-- ---- the entry

long_slots : (t : VType) (rest : List VType) → length (slots_of_type t rest) ≡ size t + length rest
long_slots Long rest = omega arith
long_slots Top rest = omega arith
long_slots Int rest = omega arith
long_slots Null rest = omega arith
long_slots UninitThis rest = omega arith
long_slots (Uninit at) rest = omega arith
long_slots (Object ty) rest = omega arith

pub size_is : (ty : Ty) → size (vtype ty) ≡ type_slots ty
size_is ty = by_dims ty.dims ty.base
  where
    by_dims : (d : ℕ) (b : Base) → size (vtype (record { dims = d; base = b })) ≡ type_slots (record { dims = d; base = b })
    by_dims zero base.Long = refl
    by_dims zero base.Bool = refl
    by_dims zero base.Byte = refl
    by_dims zero base.Char = refl
    by_dims zero base.Short = refl
    by_dims zero base.Int = refl
    by_dims zero (base.Class c) = refl
    by_dims (suc d) b = sym (ap (λ (t : Bool). if t && is_wide_base b then 2 else 1) (ne_eqb (suc d) 0 (λ e. omega (arith, e))))

params_long : (tys : List Ty) → length (param_slots tys) ≡ sum_by type_slots tys
params_long [] = refl
params_long (ty ∷ tys) =
    let here = long_slots (vtype ty) (param_slots tys) in
    let slots = size_is ty in
    let rest = params_long tys in
    let sum = sum_by-cons type_slots ty tys in
    omega (arith, here, slots, rest, sum)

this_long : (m : Method) → length (this_types m) ≡ (if m.is_static then 0 else 1)
this_long m = by m.is_static (is_constructor m)
  where
    by : (s k : Bool) → length (if s then [] else (if k then UninitThis else class_vtype m.owner) ∷ []) ≡ (if s then 0 else 1)
    by true k = refl
    by false k = refl

entry_few : (m : Method) → nat_le (argument_slots m) m.max_locals ≡ true → length (entry m).locals ≤ m.max_locals
entry_few m arguments =
    let few = leb-true (argument_slots m) m.max_locals arguments in
    let all = length-append (this_types m) (param_slots m.params) in
    let this = this_long m in
    let params = params_long m.params in
    omega (arith, few, all, this, params)

-- ---- the walk

module _ (p : Program) (m : Method) (typing : ℕ → Types) where
  few_declared : (es : List (ℕ × Frame)) (at : ℕ) (d : Types) → list_all (frame_fits m) es ≡ true → frame_in es at ≡ Some d → length d.locals ≤ m.max_locals
  few_declared [] at d h k = absurd (cc)
  few_declared (e ∷ es) at d h k = by_test (eqb e.0 at) k (λ again. few_declared es at d hs.1 again)
    where
      hs : (frame_fits m e ≡ true) × (list_all (frame_fits m) es ≡ true)
      hs = and_parts (frame_fits m e) (list_all (frame_fits m) es) h

      here : length e.1.locals ≤ m.max_locals
      here = leb-true (length e.1.locals) m.max_locals (and_parts (nat_le (length e.1.locals) m.max_locals) _ (and_parts (is_code_place m.code e.0) _ hs.0).1).0

      by_test : (b : Bool) → cond b (Some (frame_types e.1)) (frame_in es at) ≡ Some d → (frame_in es at ≡ Some d → length d.locals ≤ m.max_locals) → length d.locals ≤ m.max_locals
      by_test true k again = let is : frame_types e.1 ≡ d = cc in subst (λ (z : Types). length z.locals ≤ m.max_locals) is here
      by_test false k again = again k

  FewIn : Option Types → Type 0
  FewIn None = Unit {0}
  FewIn (Some g) = length g.locals ≤ m.max_locals

  few_on : (ends : Bool) (g : Types) → length g.locals ≤ m.max_locals → FewIn (goes_on ends g)
  unfolding FewIn
  few_on true g few = tt
  few_on false g few = few

  few_here : (frames : list_all (frame_fits m) m.frames ≡ true) (at : ℕ) (flow o : Option Types) (f : Types) → declared m at ≡ o → FewIn flow → Here p flow o f → length f.locals ≤ m.max_locals
  unfolding FewIn
  few_here frames at None None f is few h = absurd h
  few_here frames at None (Some d) f is few h = subst (λ (z : Types). length z.locals ≤ m.max_locals) (sym h) (few_declared m.frames at d frames is)
  few_here frames at (Some g) (Some d) f is few h = subst (λ (z : Types). length z.locals ≤ m.max_locals) (sym h.0) (few_declared m.frames at d frames is)
  few_here frames at (Some g) None f is few h = subst (λ (z : Types). length z.locals ≤ m.max_locals) (sym h) few

  few_at : (frames : list_all (frame_fits m) m.frames ≡ true) (flow : Option Types) (es : List (ℕ × Instr)) (at : ℕ) → FewIn flow → TypedBy p m typing flow es → is_code_place es at ≡ true → length (typing at).locals ≤ m.max_locals
  few_at frames flow [] at few h place = absurd (cc)
  few_at frames flow (e ∷ es) at few h place =
      let here : length (typing e.0).locals ≤ m.max_locals = few_here frames e.0 flow (declared m e.0) (typing e.0) refl few h.0 in
      by_test here (λ later. few_at frames (goes_on (ends_path e.1) h.1) es at (few_on (ends_path e.1) h.1 (by_row_few p m e.0 (row p m e.1) (typing e.0) h.1 h.2 here)) h.4 later) (eqb e.0 at) refl place
    where
      by_test : length (typing e.0).locals ≤ m.max_locals → (is_code_place es at ≡ true → length (typing at).locals ≤ m.max_locals) → (b : Bool) → eqb e.0 at ≡ b → (b || is_code_place es at) ≡ true → length (typing at).locals ≤ m.max_locals
      by_test here behind true is place = subst (λ (q : ℕ). length (typing q).locals ≤ m.max_locals) (eqb-true e.0 at is) here
      by_test here behind false is place = behind place

  pub few_locals : WellTypedBy p m typing → (at : ℕ) → is_code_place m.code at ≡ true → length (typing at).locals ≤ m.max_locals
  unfolding FewIn
  few_locals well at place = few_at well.frames (Some (entry m)) m.code at (entry_few m well.arguments) well.walk place
