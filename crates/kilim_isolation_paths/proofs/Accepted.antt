-- What follows where there is no fault: a state that is reached goes on along each exit, and is reached there
use Rattle.std.proofs.Common.{◌≡◌, ℕ, List, [], ◌∷◌, ◌++◌, Option, Some, Result, Ok, Err, refl, subst, sym}
use Rattle.kilim_isolation_paths.specs.declared.machine.Exit.{Exit}
use Rattle.kilim_isolation_paths.specs.Paths.{Machine, Has, Leads, ArrivesBy, Reaches, target}
use Rattle.kilim_isolation_paths.specs.Answer.{AreFaults}
use Rattle.kilim_isolation_paths.proofs.Same.{fold_of}

leads_more : {S : Type 0} (m : Machine S) (rest : List ℕ) (p : ℕ) (s : S) (q : ℕ) (t : S) (x : Exit) (n : ℕ) (u : S) → Leads m p s rest q t → target x ≡ Some n → Has (m.exits q) x → m.moves q t x ≡ Ok u → Leads m p s (rest ++ n ∷ []) n u
leads_more {S} m [] p s q t x n u l d h e = (u, x, d, subst (λ (z : ℕ). Has (m.exits z) x) (sym l.0) h, subst (λ (z : ℕ). m.moves z s x ≡ Ok u) (sym l.0) (subst (λ (z : S). m.moves q z x ≡ Ok u) (sym l.1) e), (refl, refl))
leads_more m (k ∷ rest) p s q t x n u l d h e = (l.0, l.1, l.2, l.3, l.4, leads_more m rest k l.0 q t x n u l.5 d h e)

reaches_at : {S : Type 0} (m : Machine S) (path : List ℕ) (q : ℕ) (t : S) (x : Exit) (n : ℕ) (u : S) → ArrivesBy m path q t → target x ≡ Some n → Has (m.exits q) x → m.moves q t x ≡ Ok u → Reaches m n u
reaches_at m [] q t x n u a d h e = absurd a
reaches_at m (p ∷ rest) q t x n u a d h e = (0 ∷ (rest ++ n ∷ []), (refl, leads_more m rest 0 m.entry q t x n u a.1 d h e))

pub reaches_more : {S : Type 0} (m : Machine S) (q : ℕ) (t : S) (x : Exit) (n : ℕ) (u : S) → Reaches m q t → target x ≡ Some n → Has (m.exits q) x → m.moves q t x ≡ Ok u → Reaches m n u
reaches_more m q t x n u r d h e = reaches_at m r.0 q t x n u r.1 d h e

goes_on : {S : Type 0} (m : Machine S) (path : List ℕ) (q : ℕ) (t : S) (to : Exit) (r : Result S ℕ) → AreFaults m [] → ArrivesBy m path q t → Has (m.exits q) to → m.moves q t to ≡ r → (u : S) × (m.moves q t to ≡ Ok u)
goes_on m path q t to (Ok u) f a x e = (u, e)
goes_on m path q t to (Err rule) f a x e = let g = fold_of m path q rule (t, to, a, x, e) in absurd (cc ((f.all g.0 q rule g.1).1.1))

pub accepted : {S : Type 0} (m : Machine S) (q : ℕ) (t : S) (to : Exit) → AreFaults m [] → Reaches m q t → Has (m.exits q) to → (u : S) × (m.moves q t to ≡ Ok u)
accepted m q t to f r x = goes_on m r.0 q t to (m.moves q t to) f r.1 x refl
