-- The faults are those of the folds of all paths
use Rattle.std.proofs.Common.{◌≡◌, ℕ, List, [], ◌∷◌, ◌++◌, map, Option, Some, None, Result, Ok, Err, refl, ap, sym, ◌∙◌, subst, inl, inr}
use Rattle.kilim_isolation_paths.specs.declared.machine.Exit.{Exit}
use Rattle.kilim_isolation_paths.specs.Paths.{Machine, Has, Leads, Fails, target}
use Rattle.kilim_isolation_paths.specs.Folds.{Follow, go_on, folded, FoldFails}

-- the places to which the edges lead
abbrev places : List (Exit × ℕ) → List ℕ
places [] = []
places (x ∷ xs) = x.1 ∷ places xs

-- the part of a path before the step that fails
record Front {S : Type 0} (m : Machine S) (p : ℕ) (s : S) (pc rule : ℕ) : Type 0 where
  pub front : List ℕ
  pub t : S
  pub to : Exit
  pub leads : Leads m p s front pc t
  pub exit : Has (m.exits pc) to
  pub broke : m.moves pc t to ≡ Err rule

broken_at : {S : Type 0} (m : Machine S) (x : Exit) (n p : ℕ) (rest : List (Exit × ℕ)) (s : S) (pc rule : ℕ) (r : Result S ℕ) → m.moves p s x ≡ r → target x ≡ Some n → Has (m.exits p) x → go_on p r (λ t. folded m n t rest) ≡ Err (pc, rule) → ((t : S) → folded m n t rest ≡ Err (pc, rule) → Front m n t pc rule) → Front m p s pc rule
broken_at m x n p rest s pc rule (Ok u) e d h f go =
    let b = go u f in
    record { front = n ∷ b.front; t = b.t; to = b.to; leads = (u, x, d, h, e, b.leads); exit = b.exit; broke = b.broke }
broken_at m x n p rest s pc rule (Err r) e d h f go =
    let e2 : (let x : ℕ × ℕ = (p, r) in x) ≡ (pc, rule) = cc in
    let a : p ≡ pc = ap (λ (x : ℕ × ℕ). x.0) e2 in
    let b : r ≡ rule = ap (λ (x : ℕ × ℕ). x.1) e2 in
    record { front = []; t = s; to = x; leads = (a, refl); exit = subst (λ (z : ℕ). Has (m.exits z) x) a h; broke = subst (λ (z : ℕ). m.moves z s x ≡ Err rule) a (e ∙ ap Err b) }

broken : {S : Type 0} (m : Machine S) (rest : List (Exit × ℕ)) (p : ℕ) (s : S) (pc rule : ℕ) → Follow m p rest → folded m p s rest ≡ Err (pc, rule) → Front m p s pc rule
broken m [] p s pc rule w f = absurd (cc)
broken m (x ∷ rest) p s pc rule w f = broken_at m x.0 x.1 p rest s pc rule (m.moves p s x.0) refl w.0 w.1 f (λ t g. broken m rest x.1 t pc rule w.2 g)

leads_at : {S : Type 0} (m : Machine S) (x : Exit) (n p : ℕ) (rest : List (Exit × ℕ)) (s : S) (q : ℕ) (t : S) (r : Result S ℕ) → m.moves p s x ≡ r → target x ≡ Some n → Has (m.exits p) x → go_on p r (λ t. folded m n t rest) ≡ Ok (q, t) →
    ((u : S) → folded m n u rest ≡ Ok (q, t) → Leads m n u (places rest) q t) → Leads m p s (n ∷ places rest) q t
leads_at m x n p rest s q t (Ok u) e d h f go = (u, x, d, h, e, go u f)
leads_at m x n p rest s q t (Err r) e d h f go = absurd (cc)

leads_of : {S : Type 0} (m : Machine S) (rest : List (Exit × ℕ)) (p : ℕ) (s : S) (q : ℕ) (t : S) → Follow m p rest → folded m p s rest ≡ Ok (q, t) → Leads m p s (places rest) q t
leads_of {S} m [] p s q t w f = let e : (let x : ℕ × S = (p, s) in x) ≡ (q, t) = cc in (ap (λ (x : ℕ × S). x.0) e, ap (λ (x : ℕ × S). x.1) e)
leads_of m (x ∷ rest) p s q t w f = leads_at m x.0 x.1 p rest s q t (m.moves p s x.0) refl w.0 w.1 f (λ u g. leads_of m rest x.1 u q t w.2 g)

folded_of : {S : Type 0} (m : Machine S) (rest : List ℕ) (p : ℕ) (s : S) (q : ℕ) (t : S) → Leads m p s rest q t → (steps : List (Exit × ℕ)) × Follow m p steps × (folded m p s steps ≡ Ok (q, t))
folded_of m [] p s q t l = ([], tt, ap (λ z. Ok (z, s)) l.0 ∙ ap (λ z. Ok (q, z)) l.1)
folded_of m (n ∷ rest) p s q t l =
    let r = folded_of m rest n l.0 q t l.5 in
    ((l.1, n) ∷ r.0, (l.2, l.3, r.1), ap (λ z. go_on p z (λ u. folded m n u r.0)) l.4 ∙ r.2)

folded_more : {S : Type 0} (m : Machine S) (rest : List ℕ) (p : ℕ) (s : S) (q : ℕ) (t : S) (x : Exit) (n rule : ℕ) → Leads m p s rest q t → target x ≡ Some n → Has (m.exits q) x → m.moves q t x ≡ Err rule →
    (steps : List (Exit × ℕ)) × Follow m p steps × (folded m p s steps ≡ Err (q, rule))
folded_more m [] p s q t x n rule l d h b = (
  (x, n) ∷ [],
  (d, subst (λ (z : ℕ). Has (m.exits z) x) (sym l.0) h, tt),
  ap (λ z. go_on p z (λ u. folded m n u [])) (ap (λ z. m.moves z s x) l.0 ∙ ap (λ z. m.moves q z x) l.1 ∙ b) ∙ ap (λ z. Err (z, rule)) l.0,
)
folded_more m (k ∷ rest) p s q t x n rule l d h b =
    let r = folded_more m rest k l.0 q t x n rule l.5 d h b in
    ((l.1, k) ∷ r.0, (l.2, l.3, r.1), ap (λ z. go_on p z (λ u. folded m k u r.0)) l.4 ∙ r.2)

-- where the fold of a path fails, the part up to there is a path that fails
pub fails_of : {S : Type 0} (m : Machine S) (rest : List (Exit × ℕ)) (pc rule : ℕ) → FoldFails m rest pc rule → (path : List ℕ) × Fails m path pc rule
fails_of m rest pc rule f = elim f.1 [
  | inl e ↦ (let b = broken m rest 0 m.entry pc rule f.0 e in (0 ∷ b.front, (b.t, b.to, (refl, b.leads), b.exit, b.broke)))
  | inr e ↦ (0 ∷ places rest, (e.0, e.1, (refl, leads_of m rest 0 m.entry pc e.0 f.0 e.2), e.4, e.5))
]

fold_at : {S : Type 0} (m : Machine S) (rest : List ℕ) (pc rule : ℕ) (s : S) (x : Exit) (to : Option ℕ) → target x ≡ to → Leads m 0 m.entry rest pc s → Has (m.exits pc) x → m.moves pc s x ≡ Err rule → (steps : List (Exit × ℕ)) × FoldFails m steps pc rule
fold_at m rest pc rule s x None d l h b = let r = folded_of m rest 0 m.entry pc s l in (r.0, (r.1, inr (s, x, r.2, d, h, b)))
fold_at m rest pc rule s x (Some n) d l h b = let r = folded_more m rest 0 m.entry pc s x n rule l d h b in (r.0, (r.1, inl r.2))

-- and a path that fails goes on to one whose fold does
pub fold_of : {S : Type 0} (m : Machine S) (path : List ℕ) (pc rule : ℕ) → Fails m path pc rule → (steps : List (Exit × ℕ)) × FoldFails m steps pc rule
fold_of m [] pc rule f = absurd (f.2)
fold_of m (p ∷ rest) pc rule f = fold_at m rest pc rule f.0 f.1 (target f.1) refl f.2.1 f.3 f.4
