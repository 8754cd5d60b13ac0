-- The end of a list, read from its end.
use Rattle.std.proofs.Common.{◌≡◌, ◌∙◌, sym, ap, ℕ, ◌-◌, ◌<◌, ◌≤◌, List, ◌++◌, Some, length, take, drop, reverse, slice_get, get_or, arith, length-drop}
use Rattle.std.proofs.lemmas.List.{take-append-drop, reverse-append, reverse-reverse, length-reverse, get_or-reverse}
use Rattle.std.proofs.Math.Seq.{take-append_seam, drop-append_seam}
use Rattle.std.proofs.lemmas.Option.{slice_get_read}

-- as many as the back part has
back_taken : {A : Type 0} (fs bs : List A) → reverse (take (length bs) (reverse (fs ++ bs))) ≡ bs
back_taken fs bs =
    ap (λ (t : List _). reverse (take (length bs) t)) (reverse-append fs bs)
    ∙ ap (λ (n : ℕ). reverse (take n (reverse bs ++ reverse fs))) (sym (length-reverse bs))
    ∙ ap reverse (take-append_seam (reverse bs) (reverse fs))
    ∙ reverse-reverse bs

back_dropped : {A : Type 0} (fs bs : List A) → drop (length bs) (reverse (fs ++ bs)) ≡ reverse fs
back_dropped fs bs =
    ap (λ (t : List _). drop (length bs) t) (reverse-append fs bs)
    ∙ ap (λ (n : ℕ). drop n (reverse bs ++ reverse fs)) (sym (length-reverse bs))
    ∙ drop-append_seam (reverse bs) (reverse fs)

length_left : {A : Type 0} (xs : List A) (n : ℕ) → n ≤ length xs → length (drop (length xs - n) xs) ≡ n
length_left xs n less = length-drop (length xs - n) xs ∙ omega (arith, less)

pub last_taken : {A : Type 0} (xs : List A) (n : ℕ) → n ≤ length xs → reverse (take n (reverse xs)) ≡ drop (length xs - n) xs
last_taken xs n less =
    let start : ℕ = length xs - n in
    ap (λ (k : ℕ). reverse (take k (reverse xs))) (sym (length_left xs n less))
    ∙ ap (λ (t : List _). reverse (take (length (drop start xs)) (reverse t))) (sym (take-append-drop start xs))
    ∙ back_taken (take start xs) (drop start xs)

pub last_dropped : {A : Type 0} (xs : List A) (n : ℕ) → n ≤ length xs → drop n (reverse xs) ≡ reverse (take (length xs - n) xs)
last_dropped xs n less =
    let start : ℕ = length xs - n in
    ap (λ (k : ℕ). drop k (reverse xs)) (sym (length_left xs n less))
    ∙ ap (λ (t : List _). drop (length (drop start xs)) (reverse t)) (sym (take-append-drop start xs))
    ∙ back_dropped (take start xs) (drop start xs)
