-- Laying out, item by item.
use Rattle.std.proofs.Common.{◌≡◌, ℕ, ◌+◌, Bool, List, [], ◌∷◌, ◌++◌, Option, Some, None, refl, ap, sym, subst, ◌∙◌, append_assoc}
use Rattle.kilim_program.specs.declared.instr.Instr.{Instr}
use Rattle.kilim_program.specs.declared.verified.Frame.{Frame}
use Rattle.kilim_weave_spec.specs.Woven.{Does, Item, Label, Mark, behind, lay, lay_frames, marks, with_frame}
use Rattle.kilim_weave_method.specs.Laid.{Follows, IsLaid, Output}

nil_behind : {A : Type 0} (xs : List A) → xs ++ [] ≡ xs
nil_behind [] = refl
nil_behind {A} (x ∷ xs) = ap (λ (zs : List A). x ∷ zs) (nil_behind xs)

framed : (q : ℕ) (frame : Option Frame) (done rest : List (ℕ × Frame)) → (done ++ with_frame q frame []) ++ rest ≡ done ++ with_frame q frame rest
framed q None done rest = ap (λ (fs : List (ℕ × Frame)). fs ++ rest) (nil_behind done)
framed q (Some frame) done rest = append_assoc done ((q, frame) ∷ []) rest

pub stands_follow : (a b : Output) (label : Label) (frame : Option Frame) (rest : List Item) → b ≡ record a { frames = a.frames ++ with_frame a.end frame [] } → Follows a (Mark label frame ∷ rest) b rest
stands_follow a b label frame rest is =
    subst (λ (o : Output). Follows a (Mark label frame ∷ rest) o rest) (sym is)
    (record { code = refl; frames = framed a.end frame a.frames (lay_frames a.end rest); counted = refl; end = refl })

pub adds_follow : (a b : Output) (i : Instr) (size : ℕ → ℕ) (c : Bool) (rest : List Item)
    → b ≡ record { code = a.code ++ (a.end, i) ∷ []; frames = a.frames; counted = a.counted ++ c ∷ []; end = a.end + size a.end } → Follows a (Does i size c ∷ rest) b rest
adds_follow a b i size c rest is =
    subst (λ (o : Output). Follows a (Does i size c ∷ rest) o rest) (sym is)
    (record {
      code = append_assoc a.code ((a.end, i) ∷ []) (lay (a.end + size a.end) rest);
      frames = refl;
      counted = append_assoc a.counted (c ∷ []) (marks rest);
      end = refl;
    })

pub follow_on : (a b c : Output) (all items rest : List Item) → Follows a all b items → Follows b items c rest → Follows a all c rest
follow_on a b c all items rest f g = record { code = g.code ∙ f.code; frames = g.frames ∙ f.frames; counted = g.counted ∙ f.counted; end = g.end ∙ f.end }

pub nothing_laid : (a : Output) (items : List Item) → Follows a items a items
nothing_laid a items = record { code = refl; frames = refl; counted = refl; end = refl }

pub all_laid : (a b : Output) (items rest : List Item) → a ≡ record { code = []; frames = []; counted = []; end = 0 } → rest ≡ [] → Follows a items b rest → IsLaid items b
all_laid a b items rest start none f =
    let g = subst (λ (o : Output). Follows o items b rest) start f in
    let h = subst (λ (is : List Item). Follows (record { code = []; frames = []; counted = []; end = 0 }) items b is) none g in
    record { code = sym (nil_behind b.code) ∙ h.code; frames = sym (nil_behind b.frames) ∙ h.frames; counted = sym (nil_behind b.counted) ∙ h.counted; end = h.end }
