-- A fault put into the list in order
use Rattle.std.proofs.Common.{◌≡◌, ℕ, zero, suc, ◌+◌, ◌<◌, Bool, List, [], ◌∷◌, ◌++◌, length, get_or, take, drop, append_assoc, refl, sym, ap, ◌∙◌, arith, cond, true, false}
use Rattle.std.proofs.lemmas.List.{take_more, drop_more}
use Rattle.std.specs.List.{AllByRecursion}
use Rattle.std.proofs.lemmas.Grind.{common_steps}
use Rattle.kilim_isolation_paths.specs.Search.{before, noted, AreOrdered, IsNoted}
use Rattle.kilim_isolation_paths.specs.declared.found.Found.{Found}

pub before_next : (f g h : Found) → before f g ≡ true → before g h ≡ true → before f h ≡ true
before_next f g h a b = grind (arith, common_steps)

neither : (f g : Found) → before f g ≡ false → before g f ≡ false → (f.pc ≡ g.pc) × (f.rule ≡ g.rule)
neither f g a b = grind (arith, common_steps)

noted_under : (g : Found) (gs : List Found) (pc rule : ℕ) → IsNoted gs pc rule → IsNoted (g ∷ gs) pc rule
noted_under g gs pc rule h = (suc h.0, h.1, h.2, h.3, h.4)

pub noted_has : (fs : List Found) (f : Found) → IsNoted (noted fs f) f.pc f.rule
noted_has [] f = (zero, f, refl, refl, refl)
noted_has (g ∷ gs) f = elim (before g f) as (λ b. (before g f ≡ b) → IsNoted (cond b (g ∷ noted gs f) (cond (before f g) (f ∷ g ∷ gs) (g ∷ gs))) f.pc f.rule) [
  | true ↦ λ e. noted_under g (noted gs f) f.pc f.rule (noted_has gs f)
  | false ↦ λ e. elim (before f g) as (λ b. (before f g ≡ b) → IsNoted (cond b (f ∷ g ∷ gs) (g ∷ gs)) f.pc f.rule) [
    | true ↦ λ d. (zero, f, refl, refl, refl)
    | false ↦ λ d. (let s = neither f g d e in (zero, g, refl, sym s.0, sym s.1))
  ] refl
] refl

noted_tail : (g : Found) (gs hs : List Found) (pc rule : ℕ) → IsNoted (g ∷ gs) pc rule → (IsNoted gs pc rule → IsNoted hs pc rule) → IsNoted (g ∷ hs) pc rule
noted_tail g gs hs pc rule (zero, f, h, p, r) go = (zero, f, h, p, r)
noted_tail g gs hs pc rule (suc k, f, h, p, r) go = noted_under g hs pc rule (go (k, f, h, p, r))

pub noted_keeps : (fs : List Found) (f : Found) (pc rule : ℕ) → IsNoted fs pc rule → IsNoted (noted fs f) pc rule
noted_keeps [] f pc rule h = absurd (cc (h.2))
noted_keeps (g ∷ gs) f pc rule h = elim (before g f) as (λ b. IsNoted (cond b (g ∷ noted gs f) (cond (before f g) (f ∷ g ∷ gs) (g ∷ gs))) pc rule) [
  | true ↦ noted_tail g gs (noted gs f) pc rule h (noted_keeps gs f pc rule)
  | false ↦ elim (before f g) as (λ b. IsNoted (cond b (f ∷ g ∷ gs) (g ∷ gs)) pc rule) [
    | true ↦ noted_under f (g ∷ gs) pc rule h
    | false ↦ h
  ]
]

pub noted_all : (P : Found → Type 0) (fs : List Found) (f : Found) → AllByRecursion P fs → P f → AllByRecursion P (noted fs f)
noted_all P [] f a p = (p, tt)
noted_all P (g ∷ gs) f a p = elim (before g f) as (λ b. AllByRecursion P (cond b (g ∷ noted gs f) (cond (before f g) (f ∷ g ∷ gs) (g ∷ gs)))) [
  | true ↦ (a.0, noted_all P gs f a.1 p)
  | false ↦ elim (before f g) as (λ b. AllByRecursion P (cond b (f ∷ g ∷ gs) (g ∷ gs))) [
    | true ↦ (p, a)
    | false ↦ a
  ]
]

all_later : (f g : Found) (gs : List Found) → before f g ≡ true → AllByRecursion (λ h. before g h ≡ true) gs → AllByRecursion (λ h. before f h ≡ true) gs
all_later f g [] b a = tt
all_later f g (h ∷ hs) b a = (before_next f g h b a.0, all_later f g hs b a.1)

pub noted_ordered : (fs : List Found) (f : Found) → AreOrdered fs → AreOrdered (noted fs f)
noted_ordered [] f o = (tt, tt)
noted_ordered (g ∷ gs) f o = elim (before g f) as (λ b. (before g f ≡ b) → AreOrdered (cond b (g ∷ noted gs f) (cond (before f g) (f ∷ g ∷ gs) (g ∷ gs)))) [
  | true ↦ λ e. (noted_all (λ h. before g h ≡ true) gs f o.0 e, noted_ordered gs f o.1)
  | false ↦ λ e. elim (before f g) as (λ b. (before f g ≡ b) → AreOrdered (cond b (f ∷ g ∷ gs) (g ∷ gs))) [
    | true ↦ λ d. ((d, all_later f g gs d o.0), o)
    | false ↦ λ d. o
  ] refl
] refl

-- a fault that comes before the new one stays in front of it
pub passed : (fs : List Found) (k : ℕ) (f new : Found) → k < length fs → f ≡ get_or fs k f → before f new ≡ true → take k fs ++ noted (drop k fs) new ≡ noted fs new → take (k + 1) fs ++ noted (drop (k + 1) fs) new ≡ noted fs new
passed fs k f new lt is first so_far =
    let g = get_or fs k f in
    let rest = drop (k + 1) fs in
    let goes : before g new ≡ true = ap (λ (h : Found). before h new) (sym is) ∙ first in
    ap (λ (front : List Found). front ++ noted rest new) (take_more fs k f lt)
    ∙ (append_assoc (take k fs) (g ∷ []) (noted rest new)
    ∙ (ap (λ (b : Bool). take k fs ++ cond b (g ∷ noted rest new) (cond (before new g) (new ∷ g ∷ rest) (g ∷ rest))) (sym goes)
    ∙ (ap (λ (gs : List Found). take k fs ++ noted gs new) (sym (drop_more fs k f lt)) ∙ so_far)))
