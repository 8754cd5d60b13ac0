-- The exception table of a woven method: an entry for each group's call, and behind them the old entries, each place replaced.
use Rattle.std.proofs.Common.{◌≡◌, ℕ, ◌<◌, ◌≤◌, Bool, true, false, ◌&&◌, cond, List, [], ◌∷◌, ◌++◌, map, Option, Some, None, refl, sym, ap, subst, ◌∙◌, ◌⊎◌, inl, inr, arith}
use Rattle.std.specs.Prelude.{nat_le, nat_lt}
use Rattle.std.proofs.lemmas.Bool.{le-leb, lt-ltb, lt-leb, le-ltb}
use Rattle.kilim_program.specs.declared.class.Handler.{Handler}
use Rattle.kilim_program.specs.declared.names.ClassId.{ClassId}
use Rattle.kilim_program.specs.Program.{Program}
use Rattle.kilim_run_machine.specs.Raising.{IsEntry, catches, catches_class, covers, handler_of}
use Rattle.kilim_fiber_laws.specs.simulation.Handling.{Moves}

-- starts and handlers move with the code; ends move apart, as one may be the end of the code
abbrev pub moved_entry : (at ends : ℕ → ℕ) → Handler → Handler
moved_entry at ends h = record h { start = at h.start; end = ends h.end; at = at h.at }

-- no entry of the list covers the place
abbrev pub NoneCovers : List Handler → ℕ → Type 0
NoneCovers [] q = Unit {0}
NoneCovers (g ∷ gs) q = (covers g q ≡ false) × NoneCovers gs q

-- at a place that no group's call stands at, the old entries are asked
pub past_groups : (p : Program) (c : ClassId) (q : ℕ) (gs hs : List Handler) → NoneCovers gs q → handler_of p c q (gs ++ hs) ≡ handler_of p c q hs
past_groups p c q [] hs none = refl
past_groups p c q (g ∷ gs) hs none = ap (λ (b : Bool). cond (b && catches_class p g.catch c) (Some g) (handler_of p c q (gs ++ hs))) none.0 ∙ past_groups p c q gs hs none.1

-- at a group's call its own entry, which catches everything
pub at_group : (p : Program) (c : ClassId) (q : ℕ) (before : List Handler) (g : Handler) (rest : List Handler) → NoneCovers before q → covers g q ≡ true → g.catch ≡ None → handler_of p c q (before ++ g ∷ rest) ≡ Some g
at_group p c q [] g rest none here all =
    ap (λ (b : Bool). cond (b && catches_class p g.catch c) (Some g) (handler_of p c q rest)) here
    ∙ ap (λ (o : Option ClassId). cond (true && catches_class p o c) (Some g) (handler_of p c q rest)) all
at_group p c q (b ∷ before) g rest none here all = ap (λ (z : Bool). cond (z && catches_class p b.catch c) (Some b) (handler_of p c q (before ++ g ∷ rest))) none.0 ∙ at_group p c q before g rest none.1 here all

-- An old instruction at p with the next one at `next`; the new place q is its own, or one of its group's, which are below `top`. A bound of a range
-- is a place of the method or the end of its code, so it isn't between the two.
pub record IsIn (at ends : ℕ → ℕ) (p next top q : ℕ) (h : Handler) : Type 0 where
  pub low : at p ≤ q
  pub high : q < top
  pub step : p < next
  pub start : (h.start ≤ p) × (at h.start ≤ at p) ⊎ (next ≤ h.start) × (top ≤ at h.start)
  pub end : (h.end ≤ p) × (ends h.end ≤ at p) ⊎ (next ≤ h.end) × (top ≤ ends h.end)

module _ (at ends : ℕ → ℕ) (p next top q : ℕ) where
  start_same : (h : Handler) → IsIn at ends p next top q h → nat_le (at h.start) q ≡ nat_le h.start p
  start_same h i = elim i.start [
    | inl w ↦ (let a = w.0 in let b = w.1 in let l = i.low in le-leb (at h.start) q (omega (arith, b, l)) ∙ sym (le-leb h.start p a))
    | inr w ↦ (let a = w.0 in let b = w.1 in let u = i.high in let s = i.step in lt-leb (at h.start) q (omega (arith, b, u)) ∙ sym (lt-leb h.start p (omega (arith, a, s))))
  ]

  end_same : (h : Handler) → IsIn at ends p next top q h → nat_lt q (ends h.end) ≡ nat_lt p h.end
  end_same h i = elim i.end [
    | inl w ↦ (let a = w.0 in let b = w.1 in let l = i.low in le-ltb q (ends h.end) (omega (arith, b, l)) ∙ sym (le-ltb p h.end a))
    | inr w ↦ (let a = w.0 in let b = w.1 in let u = i.high in let s = i.step in lt-ltb q (ends h.end) (omega (arith, b, u)) ∙ sym (lt-ltb p h.end (omega (arith, a, s))))
  ]

  pub covers_same : (h : Handler) → IsIn at ends p next top q h → covers (moved_entry at ends h) q ≡ covers h p
  covers_same h i = ap (λ (b : Bool). b && nat_lt q (ends h.end)) (start_same h i) ∙ ap (λ (b : Bool). nat_le h.start p && b) (end_same h i)

  -- the old entries find the same one
  pub moved_table : (P W : Program) (c : ClassId) (hs : List Handler) → ((h : Handler) → IsEntry hs h → IsIn at ends p next top q h) → ((h : Handler) → IsEntry hs h → catches_class W h.catch c ≡ catches_class P h.catch c)
      → Moves at (handler_of P c p hs) (handler_of W c q (map (moved_entry at ends) hs))
  moved_table P W c [] is same = tt
  moved_table P W c (h ∷ hs) is same =
      subst (λ (b : Bool). Moves at (cond (catches P c p h) (Some h) (handler_of P c p hs)) (cond b (Some (moved_entry at ends h)) (handler_of W c q (map (moved_entry at ends) hs))))
      (sym (ap (λ (b : Bool). b && catches_class W h.catch c) (covers_same h (is h (inl refl))) ∙ ap (λ (b : Bool). covers h p && b) (same h (inl refl))))
      (by (catches P c p h) (moved_table P W c hs (λ k w. is k (inr w)) (λ k w. same k (inr w))))
    where
      by : (b : Bool) → Moves at (handler_of P c p hs) (handler_of W c q (map (moved_entry at ends) hs)) → Moves at (cond b (Some h) (handler_of P c p hs)) (cond b (Some (moved_entry at ends h)) (handler_of W c q (map (moved_entry at ends) hs)))
      by true w = refl
      by false w = w

  -- the whole table, at an old instruction and in a handling block
  pub woven_table : (P W : Program) (c : ClassId) (gs hs : List Handler) → NoneCovers gs q → ((h : Handler) → IsEntry hs h → IsIn at ends p next top q h) → ((h : Handler) → IsEntry hs h → catches_class W h.catch c ≡ catches_class P h.catch c)
      → Moves at (handler_of P c p hs) (handler_of W c q (gs ++ map (moved_entry at ends) hs))
  woven_table P W c gs hs none is same = subst (λ (z : Option Handler). Moves at (handler_of P c p hs) z) (sym (past_groups W c q gs (map (moved_entry at ends) hs) none)) (moved_table P W c hs is same)
