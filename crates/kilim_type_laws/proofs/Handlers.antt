-- The handlers whose ranges have a place.
use Rattle.std.proofs.Common.{◌≡◌, ◌⊎◌, inl, inr, ℕ, zero, suc, Bool, true, false, true≢false, cond, refl, sym, ap, ◌∙◌, subst, List, [], ◌∷◌, Some}
use Rattle.std.specs.Prelude.{slice_get}
use Rattle.kilim_program.specs.declared.class.Handler.{Handler}
use Rattle.kilim_type_spec.specs.Typed.{Among, covers, handlers_at}

-- the entry of an exception table by which a place leads to a handler
pub record IsEntry (hs : List Handler) (at q : ℕ) : Type 0 where
  pub n : ℕ
  pub entry : Handler
  pub there : slice_get hs n ≡ Some entry
  pub covering : covers entry at ≡ true
  pub leads : entry.at ≡ q

one_later : (h : Handler) (hs : List Handler) (at q : ℕ) → IsEntry hs at q → IsEntry (h ∷ hs) at q
one_later h hs at q e = record { n = suc e.n; entry = e.entry; there = e.there; covering = e.covering; leads = e.leads }

entry_by : (h : Handler) (hs : List Handler) (at q : ℕ) (b : Bool) → covers h at ≡ b → (Among (handlers_at hs at) q → IsEntry hs at q) → Among (cond b (h.at ∷ handlers_at hs at) (handlers_at hs at)) q → IsEntry (h ∷ hs) at q
entry_by h hs at q true c rest (inl e) = record { n = 0; entry = h; there = refl; covering = c; leads = e }
entry_by h hs at q true c rest (inr r) = one_later h hs at q (rest r)
entry_by h hs at q false c rest r = one_later h hs at q (rest r)

pub entry_at : (hs : List Handler) (at q : ℕ) → Among (handlers_at hs at) q → IsEntry hs at q
entry_at [] at q a = absurd a
entry_at (h ∷ hs) at q a = entry_by h hs at q (covers h at) refl (entry_at hs at q) a

pub among_handlers : (hs : List Handler) (at n : ℕ) (h : Handler) → slice_get hs n ≡ Some h → covers h at ≡ true → Among (handlers_at hs at) h.at
among_handlers [] at n h is c = absurd (cc)
among_handlers (x ∷ hs) at zero h is c = by (covers x at) refl
  where
    same : x ≡ h
    same = cc

    by : (b : Bool) → covers x at ≡ b → Among (cond b (x.at ∷ handlers_at hs at) (handlers_at hs at)) h.at
    by true e = inl (ap (λ (z : Handler). z.at) same)
    by false e = absurd (true≢false (sym c ∙ sym (ap (λ (z : Handler). covers z at) same) ∙ e))
among_handlers (x ∷ hs) at (suc n) h is c = later (covers x at) (among_handlers hs at n h is c)
  where
    later : (b : Bool) → Among (handlers_at hs at) h.at → Among (cond b (x.at ∷ handlers_at hs at) (handlers_at hs at)) h.at
    later true a = inr a
    later false a = a
