-- Loops that append something for each element, by what is left or by what is done.
use Rattle.std.proofs.Common.{◌≡◌, ℕ, ◌+◌, ◌<◌, ◌≤◌, Bool, true, false, cond, List, [], ◌∷◌, ◌++◌, length, get_or, map, take, drop, refl, sym, ap, ◌∙◌, append_assoc}
use Rattle.std.proofs.lemmas.List.{append-nil, drop_all, drop_more, map_more}
use Rattle.kilim_program.specs.declared.class.Handler.{Handler}
use Rattle.kilim_type_spec.specs.Typed.{covers, handlers_at}

pub mapped_on : {X A : Type 0} (f : X → A) (now next total : List A) (xs : List X) (i : ℕ) (x d : X) (y : A) → i < length xs → x ≡ get_or xs i d → now ++ map f (drop i xs) ≡ total → y ≡ f x → next ≡ now ++ y ∷ []
    → next ++ map f (drop (i + 1) xs) ≡ total
mapped_on f now next total xs i x d y lt is so_far made step =
    let rest = map f (drop (i + 1) xs) in
    ap (λ v. v ++ rest) step
    ∙ (append_assoc now (y ∷ []) rest ∙ (ap (λ z. now ++ z ∷ rest) (made ∙ ap f is) ∙ (sym (ap (λ r. now ++ map f r) (drop_more xs i d lt)) ∙ so_far)))

pub mapped_end : {X A : Type 0} (f : X → A) (now total : List A) (xs : List X) (i : ℕ) → length xs ≤ i → now ++ map f (drop i xs) ≡ total → now ≡ total
mapped_end f now total xs i le so_far = sym (append-nil now) ∙ (ap (λ r. now ++ map f r) (sym (drop_all i xs le)) ∙ so_far)

-- behind a first one
pub mapped_behind : {X A : Type 0} (f : X → A) (first : A) (now next : List A) (xs : List X) (i : ℕ) (x d : X) (y : A) → i < length xs → x ≡ get_or xs i d → now ≡ first ∷ map f (take i xs) → y ≡ f x → next ≡ now ++ y ∷ []
    → next ≡ first ∷ map f (take (i + 1) xs)
mapped_behind f first now next xs i x d y lt is so_far made step =
    step ∙ (ap (λ z. now ++ z ∷ []) (made ∙ ap f is) ∙ (ap (λ zs. zs ++ f (get_or xs i d) ∷ []) so_far ∙ ap (λ zs. first ∷ zs) (sym (map_more f xs i d lt))))

-- ---- handlers

one_first : (b : Bool) (x : ℕ) (rest : List ℕ) → cond b (x ∷ rest) rest ≡ cond b (x ∷ []) [] ++ rest
one_first true x rest = refl
one_first false x rest = refl

pub handlers_on : (now next total : List ℕ) (hs : List Handler) (at i : ℕ) (h d : Handler) → i < length hs → h ≡ get_or hs i d → now ++ handlers_at (drop i hs) at ≡ total → next ≡ now ++ handlers_at (h ∷ []) at
    → next ++ handlers_at (drop (i + 1) hs) at ≡ total
handlers_on now next total hs at i h d lt is so_far step =
    let rest = handlers_at (drop (i + 1) hs) at in
    let here : handlers_at (drop i hs) at ≡ handlers_at (h ∷ []) at ++ rest =
    ap (λ (r : List Handler). handlers_at r at) (drop_more hs i d lt) ∙ (ap (λ (x : Handler). handlers_at (x ∷ drop (i + 1) hs) at) (sym is) ∙ one_first (covers h at) h.at rest) in
    ap (λ v. v ++ rest) step ∙ (append_assoc now (handlers_at (h ∷ []) at) rest ∙ (sym (ap (λ r. now ++ r) here) ∙ so_far))

pub handlers_end : (now total : List ℕ) (hs : List Handler) (at i : ℕ) → length hs ≤ i → now ++ handlers_at (drop i hs) at ≡ total → now ≡ total
handlers_end now total hs at i le so_far = sym (append-nil now) ∙ (ap (λ (r : List Handler). now ++ handlers_at r at) (sym (drop_all i hs le)) ∙ so_far)
