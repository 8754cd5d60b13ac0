-- The first place of each label.
use Rattle.std.proofs.Common.{◌≡◌, ℕ, ◌+◌, Bool, true, false, List, [], ◌∷◌, Option, Some, None, get_or, refl, ap, sym, subst, ◌∙◌}
use Rattle.std.specs.Prelude.{◌==◌, if◌then◌else◌}
use Rattle.kilim_weave_spec.specs.Woven.{Does, Item, Label, Mark, Old, Plan, Resumes, behind}
use Rattle.kilim_program.specs.declared.instr.Instr.{Instr}
use Rattle.kilim_program.specs.declared.verified.Frame.{Frame}
use Rattle.kilim_weave_laws.specs.woven_program.labels.Law.{found, same_label}
use Rattle.kilim_weave_laws.specs.shape.Law.{labels_from}
use Rattle.kilim_weave_pieces.specs.Places.{Tables, or_else}
use Rattle.kilim_weave_method.specs.Found.{AreFound, Finds, first_place_of, looked, or_first}

no_other : (o : Option ℕ) → or_first o None ≡ o
no_other None = refl
no_other (Some p) = refl

-- what was set stays, and then comes what is behind
joined : (o : Option ℕ) (b : Bool) (q : ℕ) (rest : Option ℕ) → or_first (or_first o (if b then Some q else None)) rest ≡ or_first o (if b then Some q else rest)
joined None true q rest = refl
joined None false q rest = refl
joined (Some p) b q rest = refl

pub old_noted : (a : Tables) (t : List (Option ℕ)) (place : ℕ) → ((k : ℕ) → get_or t k None ≡ or_first (get_or a.old k None) (if k == place then Some a.end else None))
    → (l : Label) → looked (record a { old = t }) l ≡ or_first (looked a l) (if same_label l (Old place) then Some a.end else None)
old_noted a t place h (Old k) = h k
old_noted a t place h (Resumes n) = sym (no_other (get_or a.blocks n None))

pub block_noted : (a : Tables) (t : List (Option ℕ)) (number : ℕ) → ((k : ℕ) → get_or t k None ≡ or_first (get_or a.blocks k None) (if k == number then Some a.end else None))
    → (l : Label) → looked (record a { blocks = t }) l ≡ or_first (looked a l) (if same_label l (Resumes number) then Some a.end else None)
block_noted a t number h (Old k) = sym (no_other (get_or a.old k None))
block_noted a t number h (Resumes n) = h n

at_start : (items : List Item) (l : Label) → or_first (looked (record { old = []; blocks = []; end = 0 }) l) (first_place_of l (labels_from 0 items)) ≡ first_place_of l (labels_from 0 items)
at_start items (Old k) = refl
at_start items (Resumes n) = refl

pub none_found : (items : List Item) (start : Tables) → start ≡ record { old = []; blocks = []; end = 0 } → Finds items start items
none_found items start is = subst (λ (t : Tables). Finds items t items) (sym is) (record { first = at_start items; end = refl })

pub stands_found : (all : List Item) (a b : Tables) (label : Label) (frame : Option Frame) (rest : List Item)
    → ((l : Label) → looked b l ≡ or_first (looked a l) (if same_label l label then Some a.end else None)) → b.end ≡ a.end → Finds all a (Mark label frame ∷ rest) → Finds all b rest
stands_found all a b label frame rest is end f = record {
  first = λ l.
      ap (λ (o : Option ℕ). or_first o (first_place_of l (labels_from b.end rest))) (is l)
      ∙ (ap (λ (n : ℕ). or_first (or_first (looked a l) (if same_label l label then Some a.end else None)) (first_place_of l (labels_from n rest))) end
      ∙ (joined (looked a l) (same_label l label) a.end (first_place_of l (labels_from a.end rest)) ∙ f.first l));
  end = ap (λ (n : ℕ). behind n rest) end ∙ f.end;
}

pub adds_found : (all : List Item) (a b : Tables) (i : Instr) (size : ℕ → ℕ) (c : Bool) (rest : List Item) → ((l : Label) → looked b l ≡ looked a l) → b.end ≡ a.end + size a.end → Finds all a (Does i size c ∷ rest) → Finds all b rest
adds_found all a b i size c rest same end f = record {
  first = λ l.
      ap (λ (o : Option ℕ). or_first o (first_place_of l (labels_from b.end rest))) (same l)
      ∙ (ap (λ (n : ℕ). or_first (looked a l) (first_place_of l (labels_from n rest))) end ∙ f.first l);
  end = ap (λ (n : ℕ). behind n rest) end ∙ f.end;
}

pub all_found : (all rest : List Item) (b : Tables) → rest ≡ [] → Finds all b rest → AreFound all b
all_found all rest b none f =
    let g = subst (λ (is : List Item). Finds all b is) none f in
    record { first = λ l. sym (no_other (looked b l)) ∙ g.first l; end = g.end }

found_if : (b : Bool) (other q : ℕ) (o : Option ℕ) (n : ℕ) → or_else other o ≡ n → or_else other (if b then Some q else o) ≡ (if b then q else n)
found_if true other q o n e = refl
found_if false other q o n e = e

pub found_is : (other : ℕ) (label : Label) (ls : List (Label × ℕ)) → or_else other (first_place_of label ls) ≡ found other label ls
found_is other label [] = refl
found_is other label (e ∷ es) = found_if (same_label label e.0) other e.1 (first_place_of label es) (found other label es) (found_is other label es)
