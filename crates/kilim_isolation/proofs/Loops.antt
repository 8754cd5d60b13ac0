-- Loops that append something for each element, by what is left.
use Rattle.std.proofs.Common.{◌≡◌, ℕ, ◌+◌, ◌<◌, ◌≤◌, List, [], ◌∷◌, ◌++◌, length, get_or, map, take, drop, refl, sym, ap, ◌∙◌, append_assoc}
use Rattle.std.proofs.lemmas.List.{append-nil, drop_all, drop_more, take_all, take_more}
use Rattle.std.specs.Prelude.{Bool, true, false, cond}
use Rattle.kilim_program.specs.declared.class.Handler.{Handler}
use Rattle.kilim_isolation_paths.specs.declared.machine.Exit.{Exit}
use Rattle.kilim_isolation_paths.specs.declared.machine.Exit.TheVariants as exit
use Rattle.kilim_type_spec.specs.Typed.{covers}
use Rattle.kilim_isolation.specs.Walks.{handled_at}

pub mapped_on : {X A : Type 0} (f : X → A) (now next total : List A) (xs : List X) (i : ℕ) (x d : X) (y : A) → i < length xs → x ≡ get_or xs i d → now ++ map f (drop i xs) ≡ total → y ≡ f x → next ≡ now ++ y ∷ []
    → next ++ map f (drop (i + 1) xs) ≡ total
mapped_on f now next total xs i x d y lt is so_far made step =
    let rest = map f (drop (i + 1) xs) in
    ap (λ v. v ++ rest) step
    ∙ (append_assoc now (y ∷ []) rest ∙ (ap (λ z. now ++ z ∷ rest) (made ∙ ap f is) ∙ (sym (ap (λ r. now ++ map f r) (drop_more xs i d lt)) ∙ so_far)))

pub mapped_end : {X A : Type 0} (f : X → A) (now total : List A) (xs : List X) (i : ℕ) → length xs ≤ i → now ++ map f (drop i xs) ≡ total → now ≡ total
mapped_end f now total xs i le so_far = sym (append-nil now) ∙ (ap (λ r. now ++ map f r) (sym (drop_all i xs le)) ∙ so_far)

pub twice_mapped_on : {X Y A : Type 0} (g : Y → A) (f : X → Y) (now next total : List A) (xs : List X) (i : ℕ) (x d : X) (y : A) → i < length xs → x ≡ get_or xs i d → now ++ map g (map f (drop i xs)) ≡ total → y ≡ g (f x)
    → next ≡ now ++ y ∷ [] → next ++ map g (map f (drop (i + 1) xs)) ≡ total
twice_mapped_on {X} g f now next total xs i x d y lt is so_far made step =
    let rest = map g (map f (drop (i + 1) xs)) in
    ap (λ v. v ++ rest) step
    ∙ (append_assoc now (y ∷ []) rest ∙ (ap (λ z. now ++ z ∷ rest) (made ∙ ap (λ (v : X). g (f v)) is) ∙ (sym (ap (λ r. now ++ map g (map f r)) (drop_more xs i d lt)) ∙ so_far)))

pub twice_mapped_end : {X Y A : Type 0} (g : Y → A) (f : X → Y) (now total : List A) (xs : List X) (i : ℕ) → length xs ≤ i → now ++ map g (map f (drop i xs)) ≡ total → now ≡ total
twice_mapped_end g f now total xs i le so_far = sym (append-nil now) ∙ (ap (λ r. now ++ map g (map f r)) (sym (drop_all i xs le)) ∙ so_far)

pub copied : {A : Type 0} (before now next xs : List A) (i : ℕ) (x d : A) → i < length xs → x ≡ get_or xs i d → now ≡ before ++ take i xs → next ≡ now ++ x ∷ [] → next ≡ before ++ take (i + 1) xs
copied {A} before now next xs i x d lt is so_far step =
    step
    ∙ (ap (λ (z : A). now ++ z ∷ []) is
    ∙ (ap (λ (zs : List A). zs ++ get_or xs i d ∷ []) so_far ∙ (append_assoc before (take i xs) (get_or xs i d ∷ []) ∙ ap (λ (zs : List A). before ++ zs) (sym (take_more xs i d lt)))))

-- two lists that are the same as far as either goes
pub same_end : {A : Type 0} (xs ys : List A) (k : ℕ) → length xs ≤ k → length ys ≤ k → take k xs ≡ take k ys → xs ≡ ys
same_end xs ys k le less so_far = sym (take_all k xs le) ∙ (so_far ∙ take_all k ys less)

-- and at the next place too
pub same_on : {A : Type 0} (xs ys : List A) (k : ℕ) (d : A) → k < length xs → k < length ys → take k xs ≡ take k ys → get_or xs k d ≡ get_or ys k d → take (k + 1) xs ≡ take (k + 1) ys
same_on {A} xs ys k d lt less so_far here =
    take_more xs k d lt ∙ (ap (λ (zs : List A). zs ++ get_or xs k d ∷ []) so_far ∙ (ap (λ (z : A). take k ys ++ z ∷ []) here ∙ sym (take_more ys k d less)))

handled_first : (b : Bool) (x : Exit) (rest : List Exit) → cond b (x ∷ rest) rest ≡ cond b (x ∷ []) [] ++ rest
handled_first true x rest = refl
handled_first false x rest = refl

-- a turn of `push_handlers`
pub handled_on : (now next total : List Exit) (hs : List Handler) (at i : ℕ) (h d : Handler) → i < length hs → h ≡ get_or hs i d → now ++ handled_at (drop i hs) at ≡ total → next ≡ now ++ handled_at (h ∷ []) at → next ++ handled_at (drop (i + 1) hs) at ≡ total
handled_on now next total hs at i h d lt is so_far step =
    let rest = handled_at (drop (i + 1) hs) at in
    let here : handled_at (drop i hs) at ≡ handled_at (h ∷ []) at ++ rest =
    ap (λ (r : List Handler). handled_at r at) (drop_more hs i d lt) ∙ (ap (λ (x : Handler). handled_at (x ∷ drop (i + 1) hs) at) (sym is) ∙ handled_first (covers h at) (exit.Handler h.at) rest) in
    ap (λ v. v ++ rest) step ∙ (append_assoc now (handled_at (h ∷ []) at) rest ∙ (sym (ap (λ r. now ++ r) here) ∙ so_far))

pub handled_end : (now total : List Exit) (hs : List Handler) (at i : ℕ) → length hs ≤ i → now ++ handled_at (drop i hs) at ≡ total → now ≡ total
handled_end now total hs at i le so_far = sym (append-nil now) ∙ (ap (λ (r : List Handler). now ++ handled_at r at) (sym (drop_all i hs le)) ∙ so_far)
