-- Live slots of a well-typed method: they are read, they flow, and what is live behind a pausable call is saved there.
use Rattle.std.proofs.Common.{◌≡◌, ◌⊎◌, inl, inr, ℕ, zero, suc, ◌+◌, ◌<◌, Bool, true, false, not, ◌&&◌, ◌||◌, List, [], ◌∷◌, length, length-append, Option, Some, None, Result, Ok, refl, sym, ap, subst, ◌∙◌, arith}
use Rattle.std.specs.Prelude.{if◌then◌else◌, ◌==◌, sum_by}
use Rattle.std.proofs.lemmas.Bool.{and_parts, and_from, eqb-true, false≢true}
use Rattle.std.proofs.lemmas.List.Sums.{sum_by-cons}
use Rattle.kilim_program.specs.declared.class.Handler.{Handler}
use Rattle.kilim_program.specs.declared.class.Method.{Method}
use Rattle.kilim_program.specs.declared.instr.Instr.{Instr}
use Rattle.kilim_program.specs.declared.instr.Instr.TheVariants.{Istore, Lstore, Astore, Iinc, Invokevirtual, Invokespecial, Invokestatic}
use Rattle.kilim_program.specs.declared.ty.Ty.{Ty}
use Rattle.kilim_program.specs.declared.verified.VType.{VType}
use Rattle.kilim_program.specs.declared.verified.VType.TheVariants.{Top, Int, Long, Null, UninitThis, Uninit, Object}
use Rattle.kilim_program.specs.Keeps.{Keeps}
use Rattle.kilim_program.specs.Lengths.{ends_path, fetched, jump_targets}
use Rattle.kilim_program.specs.Program.{Program}
use Rattle.kilim_program.specs.Same.{argument_slots, is_constructor, type_slots}
use Rattle.kilim_type_spec.specs.Step.{Types, Is, peek, poke, is_top, meets, row, size, store, stored, split_long, vtype, class_vtype}
use Rattle.kilim_type_spec.specs.Typed.{Among, Catches, GoesOn, handlers_at, Here, IsLive, Live, ReadsIt, TypedBy, WellTypedBy, declared, edges, entry, param_slots, reads, slots_of_type, this_types, writes}
use Rattle.kilim_type_laws.specs.Laws.{Arrives}
use Rattle.kilim_type_laws.proofs.Edges.{edges_flow, stands_at}
use Rattle.kilim_type_laws.proofs.Lives.{live_is_typed}
use Rattle.kilim_type_laws.proofs.Rooms.{size_is}
use Rattle.kilim_type_laws.proofs.Tops.{passed, read_has_type, top_flows, top_stays}
use Rattle.kilim_run_machine.specs.Raising.{IsEntry, covers}
use Rattle.kilim_weave_spec.specs.Woven.{pausable_callee, saved_from}
use Rattle.kilim_fiber_spec.specs.Form.{Among_slots, sets}

none_is : {A : Type 0} (a : A) → None ≡ Some a → ⊥
none_is a e = cc

-- an entry whose range has a place leads to its handler
entry_among : (hs : List Handler) (at : ℕ) (h : Handler) → IsEntry hs h → covers h at ≡ true → Among (handlers_at hs at) h.at
entry_among [] at h i c = absurd i
entry_among (x ∷ hs) at h (inl e) c =
    subst (λ (b : Bool). Among (if b then x.at ∷ handlers_at hs at else handlers_at hs at) h.at) (sym (ap (λ (z : Handler). covers z at) e ∙ c)) (inl (ap (λ (z : Handler). z.at) e))
entry_among (x ∷ hs) at h (inr i) c = later (covers x at) (entry_among hs at h i c)
  where
    later : (b : Bool) → Among (handlers_at hs at) h.at → Among (if b then x.at ∷ handlers_at hs at else handlers_at hs at) h.at
    later true a = inr a
    later false a = a

-- ---- what a store of a long leaves

poked_there : (ts : List VType) (k : ℕ) (t : VType) → peek (poke ts k t) k ≡ t
poked_there [] zero t = refl
poked_there [] (suc k) t = poked_there [] k t
poked_there (x ∷ ts) zero t = refl
poked_there (x ∷ ts) (suc k) t = poked_there ts k t

ok_is : (f g : Types) → (let r : Result Types ℕ = Ok f in r) ≡ Ok g → f ≡ g
ok_is f g e = cc

half_top : (p : Program) (m : Method) (n : ℕ) (s : List VType) (f g : Types) → store p m (Is Long) n s f ≡ Ok g → is_top (peek g.locals (suc n)) ≡ true
unfolding meets
half_top p m n [] f g e = absurd (cc)
half_top p m n (Long ∷ s) f g e =
    let p6 = passed 6 _ _ g e in
    subst (λ (z : Types). is_top (peek z.locals (suc n)) ≡ true) (ok_is (record f { locals = stored f.locals n Long; stack = s }) g p6.1)
    (ap is_top (poked_there (poke (split_long f.locals n) n Long) (suc n) Top))
half_top p m n (Top ∷ s) f g e = absurd (cc)
half_top p m n (Int ∷ s) f g e = absurd (cc)
half_top p m n (Null ∷ s) f g e = absurd (cc)
half_top p m n (UninitThis ∷ s) f g e = absurd (cc)
half_top p m n (Uninit q ∷ s) f g e = absurd (cc)
half_top p m n (Object ty ∷ s) f g e = absurd (cc)

-- what an instruction writes it sets, or it is the second half of a long
data Written (k : ℕ) : Instr → Type 0 where
  IsSet : {i : Instr} → sets i k ≡ true → Written k i
  IsHalf : (n : ℕ) → (suc n == k) ≡ true → Written k (Lstore n)

written : (i : Instr) (k : ℕ) → writes i k ≡ true → Written k i
written (Istore n) k e = IsSet e
written (Astore n) k e = IsSet e
written (Iinc n by) k e = IsSet e
written (Lstore n) k e = by (n == k) refl e
  where
    by : (b : Bool) → (n == k) ≡ b → (b || (suc n == k)) ≡ true → Written k (Lstore n)
    by true h e = IsSet h
    by false h e = IsHalf n e
written i k e = absurd (false≢true e)

-- a call writes no local, and control goes on behind it
call_goes : (p : Program) (i : Instr) (callee : Method) → pausable_callee p i ≡ Some callee → (ends_path i ≡ false) × ((k : ℕ) → writes i k ≡ false)
unfolding ends_path
call_goes p (Invokevirtual id) callee h = (refl, λ k. refl)
call_goes p (Invokespecial id) callee h = (refl, λ k. refl)
call_goes p (Invokestatic id) callee h = (refl, λ k. refl)
call_goes p i callee h = absurd (none_is callee h)

-- ---- what is saved

among_saved : (live : ℕ → Bool) (k j : ℕ) (ts : List VType) → live (k + j) ≡ true → is_top (peek ts j) ≡ false → Among_slots (saved_from live k ts) (k + j)
among_saved live k j [] l t = absurd (false≢true (sym t))
among_saved live k zero (t ∷ ts) l n =
    let at : k + 0 ≡ k = omega arith in
    subst (λ (b : Bool). Among_slots (if b then (k, t) ∷ saved_from live (suc k) ts else saved_from live (suc k) ts) (k + 0))
    (sym (and_from (live k) (not (is_top t)) (ap live (sym at) ∙ l) (ap not n))) (inl (sym at))
among_saved live k (suc j) (t ∷ ts) l n =
    let at : suc k + j ≡ k + suc j = omega arith in
    by (live k && not (is_top t)) (subst (λ (q : ℕ). Among_slots (saved_from live (suc k) ts) q) at (among_saved live (suc k) j ts (ap live at ∙ l) n))
  where
    by : (b : Bool) → Among_slots (saved_from live (suc k) ts) (k + suc j) → Among_slots (if b then (k, t) ∷ saved_from live (suc k) ts else saved_from live (suc k) ts) (k + suc j)
    by true a = inr a
    by false a = a

saved_live : (live : ℕ → Bool) (k : ℕ) (ts : List VType) (q : ℕ) → Among_slots (saved_from live k ts) q → live q ≡ true
saved_live live k [] q a = absurd a
saved_live live k (t ∷ ts) q a = by (live k && not (is_top t)) refl a (λ h. saved_live live (suc k) ts q h)
  where
    by : (b : Bool) → (live k && not (is_top t)) ≡ b → Among_slots (if b then (k, t) ∷ saved_from live (suc k) ts else saved_from live (suc k) ts) q → (Among_slots (saved_from live (suc k) ts) q → live q ≡ true) → live q ≡ true
    by true e (inl h) go = subst (λ (z : ℕ). live z ≡ true) h (and_parts (live k) (not (is_top t)) e).0
    by true e (inr h) go = go h
    by false e h go = go h

-- ---- arguments

long_slots : (t : VType) (rest : List VType) → length (slots_of_type t rest) ≡ size t + length rest
long_slots Long rest = omega arith
long_slots Top rest = omega arith
long_slots Int rest = omega arith
long_slots Null rest = omega arith
long_slots UninitThis rest = omega arith
long_slots (Uninit at) rest = omega arith
long_slots (Object ty) rest = omega arith

params_long : (tys : List Ty) → length (param_slots tys) ≡ sum_by type_slots tys
params_long [] = refl
params_long (ty ∷ tys) =
    let here = long_slots (vtype ty) (param_slots tys) in
    let slots = size_is ty in
    let rest = params_long tys in
    let sum = sum_by-cons type_slots ty tys in
    omega (arith, here, slots, rest, sum)

this_long : (m : Method) → length (this_types m) ≡ (if m.is_static then 0 else 1)
this_long m = by m.is_static (is_constructor m)
  where
    by : (s k : Bool) → length (if s then [] else (if k then UninitThis else class_vtype m.owner) ∷ []) ≡ (if s then 0 else 1)
    by true k = refl
    by false k = refl

pub entry_long : (m : Method) → length (entry m).locals ≡ argument_slots m
entry_long m =
    let all = length-append (this_types m) (param_slots m.params) in
    let this = this_long m in
    let params = params_long m.params in
    omega (arith, all, this, params)

peek_within : (ts : List VType) (k : ℕ) → is_top (peek ts k) ≡ false → k < length ts
peek_within [] k e = absurd (false≢true (sym e))
peek_within (t ∷ ts) zero e = omega arith
peek_within (t ∷ ts) (suc k) e = let h = peek_within ts k e in omega (arith, h)

not_both : (b : Bool) → (b ≡ true → true ≡ false) → b ≡ false
not_both true h = h refl
not_both false h = refl

pub flips : (b : Bool) → not b ≡ true → b ≡ false
flips true e = absurd (false≢true e)
flips false e = refl

-- ---- locals that have a type

-- the frame at the first place is what the method begins with, or one into which that flows
pub first_typed : (p : Program) (m : Method) (typing : ℕ → Types) → WellTypedBy p m typing → (e : ℕ × Instr) (es : List (ℕ × Instr)) → m.code ≡ e ∷ es → e.0 ≡ 0 → (k : ℕ) → is_top (peek (typing 0).locals k) ≡ false → k < argument_slots m
first_typed p m typing well e es is at k typed =
    let walk = subst (λ (c : List (ℕ × Instr)). TypedBy p m typing (Some (entry m)) c) is well.walk in
    let here = subst (λ (q : ℕ). Here p (Some (entry m)) (declared m q) (typing q)) at walk.0 in
    subst (λ (n : ℕ). k < n) (entry_long m) (peek_within (entry m).locals k (by (declared m 0) here))
  where
    by : (o : Option Types) → Here p (Some (entry m)) o (typing 0) → is_top (peek (entry m).locals k) ≡ false
    by None f = subst (λ (z : Types). is_top (peek z.locals k) ≡ false) f typed
    by (Some d) f = not_both (is_top (peek (entry m).locals k)) (λ top.
        sym (top_flows p (peek (entry m).locals k) (peek d.locals k) (f.1.locals k) top) ∙ subst (λ (z : Types). is_top (peek z.locals k) ≡ false) f.0 typed)

module _ (p : Program) (keeps : Keeps p) (m : Method) (typing : ℕ → Types) (well : WellTypedBy p m typing) where
  -- what is written and has a type behind, is really set
  pub sets_it : (q to r k : ℕ) (i : Instr) → fetched m.code m.code_length q ≡ Some (i, to) → Among (edges i to) r → is_top (peek (typing r).locals k) ≡ false → writes i k ≡ true → sets i k ≡ true
  unfolding row
  sets_it q to r k i e among typed w = by i (written i k w) e among
    where
      by : (j : Instr) → Written k j → fetched m.code m.code_length q ≡ Some (j, to) → Among (edges j to) r → sets j k ≡ true
      by j (IsSet s) ej aj = s
      by _ (IsHalf n eq) ej aj =
          let goes = edges_flow p keeps m typing well q to r (Lstore n) ej aj in
          let top = half_top p m n (typing q).stack (typing q) goes.left goes.step in
          let there = top_flows p (peek goes.left.locals (suc n)) (peek (typing r).locals (suc n)) (goes.flows.locals (suc n)) top in
          absurd (false≢true (sym typed ∙ subst (λ (z : ℕ). is_top (peek (typing r).locals z) ≡ true) (eqb-true (suc n) k eq) there))

  pub typed_flows : (q to r k : ℕ) (i : Instr) → fetched m.code m.code_length q ≡ Some (i, to) → Among (edges i to) r → is_top (peek (typing r).locals k) ≡ false → (is_top (peek (typing q).locals k) ≡ false) ⊎ (sets i k ≡ true)
  typed_flows q to r k i e among h = by (writes i k) refl
    where
      goes : Arrives p m typing q i r
      goes = edges_flow p keeps m typing well q to r i e among

      by : (b : Bool) → writes i k ≡ b → (is_top (peek (typing q).locals k) ≡ false) ⊎ (sets i k ≡ true)
      by true w = inr (sets_it q to r k i e among h w)
      by false w = inl (not_both (is_top (peek (typing q).locals k)) (λ top.
          sym (top_flows p (peek goes.left.locals k) (peek (typing r).locals k) (goes.flows.locals k) (top_stays p m q i (typing q) goes.left k goes.step w top)) ∙ h))

  pub typed_reads : (q to k : ℕ) (i : Instr) → fetched m.code m.code_length q ≡ Some (i, to) → reads i k ≡ true → is_top (peek (typing q).locals k) ≡ false
  typed_reads q to k i e r = let s = stands_at p keeps m typing well q i to e in read_has_type p m q i (typing q) s.after k s.step r

-- ---- a method

module _ (p : Program) (keeps : Keeps p) (m : Method) (typing : ℕ → Types) (well : WellTypedBy p m typing) (live : ℕ → ℕ → Bool) (is_live : IsLive m live) where
  abbrev pub shown : ℕ → ℕ → Bool
  shown q k = live q k && not (is_top (peek (typing q).locals k))

  live_shown : (q k : ℕ) → Live m k q → shown q k ≡ true
  live_shown q k l = and_from (live q k) (not (is_top (peek (typing q).locals k))) ((is_live q k).1 l) (ap not (live_is_typed p keeps m typing well k q l))

  shown_live : (q k : ℕ) → shown q k ≡ true → Live m k q
  shown_live q k h = (is_live q k).0 (and_parts (live q k) (not (is_top (peek (typing q).locals k))) h).0

  shown_typed : (q k : ℕ) → shown q k ≡ true → is_top (peek (typing q).locals k) ≡ false
  shown_typed q k h = flips (is_top (peek (typing q).locals k)) (and_parts (live q k) (not (is_top (peek (typing q).locals k))) h).1

  pub reads_shown : (q to k : ℕ) (i : Instr) → fetched m.code m.code_length q ≡ Some (i, to) → reads i k ≡ true → shown q k ≡ true
  reads_shown q to k i e r = live_shown q k (ReadsIt q to i e r)

  pub flows : (q to r k : ℕ) (i : Instr) → fetched m.code m.code_length q ≡ Some (i, to) → Among (edges i to) r → shown r k ≡ true → (shown q k ≡ true) ⊎ (sets i k ≡ true)
  flows q to r k i e among h = by (writes i k) refl
    where
      by : (b : Bool) → writes i k ≡ b → (shown q k ≡ true) ⊎ (sets i k ≡ true)
      by true w = inr (sets_it p keeps m typing well q to r k i e among (shown_typed r k h) w)
      by false w = inl (live_shown q k (GoesOn q to r i e w among (shown_live r k h)))

  -- what is live at a handler is live at each instruction of its range
  pub caught : (q to k : ℕ) (i : Instr) → fetched m.code m.code_length q ≡ Some (i, to) → (h : Handler) → IsEntry m.handlers h → covers h q ≡ true → shown h.at k ≡ true → shown q k ≡ true
  caught q to k i e h among covering s = live_shown q k (Catches q to h.at i e (entry_among m.handlers q h among covering) (shown_live h.at k s))

  -- what is among those that are saved: it is live at the call, and one of `lives`
  pub kept_by : (lives : ℕ → Bool) (q k : ℕ) → lives k ≡ true → shown q k ≡ true → Among_slots (saved_from lives 0 (typing q).locals) k
  kept_by lives q k l s =
      let zero_and : 0 + k ≡ k = omega arith in
      subst (λ (z : ℕ). Among_slots (saved_from lives 0 (typing q).locals) z) zero_and (among_saved lives 0 k (typing q).locals (ap lives zero_and ∙ l) (shown_typed q k s))

  -- what is live behind a pausable call is live at it
  across : (q to k : ℕ) (i : Instr) (callee : Method) → fetched m.code m.code_length q ≡ Some (i, to) → pausable_callee p i ≡ Some callee → Live m k to → Live m k q
  across q to k i callee e c l =
      let g = call_goes p i callee c in
      GoesOn q to to i e (g.1 k) (subst (λ (b : Bool). Among (if b then jump_targets i else to ∷ jump_targets i) to) (sym g.0) (inl refl)) l

  pub kept : (q to k : ℕ) (i : Instr) (callee : Method) → fetched m.code m.code_length q ≡ Some (i, to) → pausable_callee p i ≡ Some callee → shown to k ≡ true → Among_slots (saved_from (live to) 0 (typing q).locals) k
  kept q to k i callee e c h =
      let at = across q to k i callee e c (shown_live to k h) in
      let zero_and : 0 + k ≡ k = omega arith in
      subst (λ (z : ℕ). Among_slots (saved_from (live to) 0 (typing q).locals) z) zero_and
      (among_saved (live to) 0 k (typing q).locals (ap (live to) zero_and ∙ (and_parts (live to k) (not (is_top (peek (typing to).locals k))) h).0) (live_is_typed p keeps m typing well k q at))

  pub saves : (q to k : ℕ) (i : Instr) (callee : Method) → fetched m.code m.code_length q ≡ Some (i, to) → pausable_callee p i ≡ Some callee → Among_slots (saved_from (live to) 0 (typing q).locals) k → shown q k ≡ true
  saves q to k i callee e c a = live_shown q k (across q to k i callee e c ((is_live to k).0 (saved_live (live to) 0 (typing q).locals k a)))

  -- what is live at the first place is an argument
  pub arguments : (e : ℕ × Instr) (es : List (ℕ × Instr)) → m.code ≡ e ∷ es → e.0 ≡ 0 → (k : ℕ) → shown 0 k ≡ true → k < argument_slots m
  arguments e es is at k h = first_typed p m typing well e es is at k (shown_typed 0 k h)
