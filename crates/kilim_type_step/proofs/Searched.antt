-- A search of the frame that is declared at a place.
use Rattle.std.proofs.Common.{◌≡◌, ℕ, ◌+◌, ◌<◌, ◌≤◌, Bool, if◌then◌else◌, List, ◌∷◌, length, drop, get_or, Option, Some, None, sym, ap, ◌∙◌}
use Rattle.std.proofs.lemmas.Bool.{eq-eqb, ne_eqb}
use Rattle.std.proofs.lemmas.List.{drop_more, drop_all}
use Rattle.kilim_program.specs.declared.verified.Frame.{Frame}
use Rattle.kilim_type_spec.specs.Step.{Types}
use Rattle.kilim_type_spec.specs.Typed.{frame_in, frame_types}

frame_front : (items all : List (ℕ × Frame)) (i : ℕ) (e d : ℕ × Frame) → items ≡ all → i < length items → e ≡ get_or items i d → drop i all ≡ e ∷ drop (i + 1) all
frame_front items all i e d same lt is =
    ap (λ (z : List (ℕ × Frame)). drop i z) (sym same)
    ∙ (drop_more items i d lt ∙ (ap (λ (z : ℕ × Frame). z ∷ drop (i + 1) items) (sym is) ∙ ap (λ (z : List (ℕ × Frame)). e ∷ drop (i + 1) z) same))

pub search_more : (items all : List (ℕ × Frame)) (i at : ℕ) (e d : ℕ × Frame) (whole : Option Types) → items ≡ all → i < length items → e ≡ get_or items i d → (e.0 ≡ at → ⊥) → frame_in (drop i all) at ≡ whole → frame_in (drop (i + 1) all) at ≡ whole
search_more items all i at e d whole same lt is other so_far =
    sym (ap (λ (z : List (ℕ × Frame)). frame_in z at) (frame_front items all i e d same lt is) ∙ ap (λ (b : Bool). if b then Some (frame_types e.1) else frame_in (drop (i + 1) all) at) (ne_eqb e.0 at other)) ∙ so_far

pub search_here : (items all : List (ℕ × Frame)) (i at : ℕ) (e d : ℕ × Frame) (whole : Option Types) → items ≡ all → i < length items → e ≡ get_or items i d → e.0 ≡ at → frame_in (drop i all) at ≡ whole → Some (frame_types e.1) ≡ whole
search_here items all i at e d whole same lt is here so_far =
    sym (ap (λ (z : List (ℕ × Frame)). frame_in z at) (frame_front items all i e d same lt is) ∙ ap (λ (b : Bool). if b then Some (frame_types e.1) else frame_in (drop (i + 1) all) at) (eq-eqb e.0 at here)) ∙ so_far

pub search_end : (all : List (ℕ × Frame)) (i at : ℕ) (whole : Option Types) → length all ≤ i → frame_in (drop i all) at ≡ whole → None ≡ whole
search_end all i at whole le so_far = sym (ap (λ (z : List (ℕ × Frame)). frame_in z at) (drop_all i all le)) ∙ so_far
