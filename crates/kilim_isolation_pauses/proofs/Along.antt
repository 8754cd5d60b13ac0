-- Reports along the code.
use Rattle.std.proofs.Common.{◌≡◌, ℕ, suc, append_assoc, get_or, drop-cons, ◌+◌, ◌<◌, ◌≤◌, min, List, [], ◌∷◌, ◌++◌, length, drop, refl, sym, ap, ◌∙◌, ◌⊎◌, inl, inr, arith}
use Rattle.std.specs.List.{flat_map}
use Rattle.std.proofs.lemmas.Grind.{flat_map-append}
use Rattle.std.proofs.lemmas.List.{append-nil}
use Rattle.kilim_program.specs.declared.class.Method.{Method}
use Rattle.kilim_program.specs.declared.instr.Instr.{Instr}
use Rattle.kilim_program.specs.declared.names.MethodId.{MethodId}
use Rattle.kilim_program.specs.declared.verified.Frame.{Frame}
use Rattle.kilim_program.specs.Program.{Program}
use Rattle.kilim_isolation_pauses.specs.declared.report.Report.{Report}
use Rattle.kilim_isolation_pauses.specs.Pausing.{reports_along, reports_at}
use Rattle.std.proofs.lemmas.List.{length-drop, nil_from_length}

drop_end : {A : Type 0} (xs : List A) (i : ℕ) → length xs ≤ i → drop i xs ≡ []
drop_end xs i le = nil_from_length (drop i xs) (omega (arith, length-drop i xs))

no_frames : (p : Program) (id : MethodId) (m : Method) (es : List (ℕ × Instr)) → reports_along p id m es [] ≡ []
no_frames p id m [] = refl
no_frames p id m (e ∷ es) = refl

pub along_end : (p : Program) (id : MethodId) (m : Method) (es : List (ℕ × Instr)) (fs : List Frame) (old total : List Report) (i : ℕ) → min (length es) (length fs) ≤ i →
    old ++ reports_along p id m (drop i es) (drop i fs) ≡ total → old ≡ total
along_end p id m es fs old total i le so_far = sym (append-nil old) ∙ (ap (λ rs. old ++ rs) (sym none) ∙ so_far)
  where
    which : (length es ≤ i) ⊎ (length fs ≤ i)
    which = grind arith

    none : reports_along p id m (drop i es) (drop i fs) ≡ []
    none = elim which [
      | inl a ↦ ap (λ z. reports_along p id m z (drop i fs)) (drop_end es i a)
      | inr b ↦ ap (λ z. reports_along p id m (drop i es) z) (drop_end fs i b) ∙ no_frames p id m (drop i es)
    ]

drop_at : {A : Type 0} (xs : List A) (i : ℕ) (d : A) → i < length xs → drop i xs ≡ get_or xs i d ∷ drop (i + 1) xs
drop_at xs i d lt =
    let n : suc i ≡ i + 1 = omega arith in
    drop-cons xs i d lt ∙ ap (λ (k : ℕ). get_or xs i d ∷ drop k xs) n

-- a step along the code and its frames
pub along_more : (p : Program) (id : MethodId) (m : Method) (code es : List (ℕ × Instr)) (fs : List Frame) (i : ℕ) (e d : ℕ × Instr) (f g : Frame) (old new total : List Report) → code ≡ es → i < length code → i < length fs →
    e ≡ get_or code i d → f ≡ get_or fs i g → old ++ reports_along p id m (drop i es) (drop i fs) ≡ total → new ≡ old ++ reports_at p id m e f → new ++ reports_along p id m (drop (i + 1) es) (drop (i + 1) fs) ≡ total
along_more p id m code es fs i e d f g old new total same lt less is at so_far step =
    let rest : List Report = reports_along p id m (drop (i + 1) es) (drop (i + 1) fs) in
    let placed : drop i code ≡ e ∷ drop (i + 1) code = drop_at code i d lt ∙ ap (λ (x : ℕ × Instr). x ∷ drop (i + 1) code) (sym is) in
    let instr : drop i es ≡ e ∷ drop (i + 1) es = ap (λ (t : List (ℕ × Instr)). drop i t) (sym same) ∙ (placed ∙ ap (λ (t : List (ℕ × Instr)). e ∷ drop (i + 1) t) same) in
    let frame : drop i fs ≡ f ∷ drop (i + 1) fs = drop_at fs i g less ∙ ap (λ (x : Frame). x ∷ drop (i + 1) fs) (sym at) in
    let one : reports_along p id m (drop i es) (drop i fs) ≡ reports_at p id m e f ++ rest =
    ap (λ (t : List (ℕ × Instr)). reports_along p id m t (drop i fs)) instr ∙ ap (λ (t : List Frame). reports_along p id m (e ∷ drop (i + 1) es) t) frame in
    ap (λ (v : List Report). v ++ rest) step ∙ (append_assoc old (reports_at p id m e f) rest ∙ (ap (λ (v : List Report). old ++ v) (sym one) ∙ so_far))

-- what each of an element's parts gives, behind what is there
pub each_more : {A B C : Type 0} (gives : B → List C) (parts : A → List B) (xs : List A) (i : ℕ) (d : A) (old new total : List C) → i < length xs →
    new ≡ old ++ flat_map gives (parts (get_or xs i d)) → old ++ flat_map gives (flat_map parts (drop i xs)) ≡ total → new ++ flat_map gives (flat_map parts (drop (i + 1) xs)) ≡ total
each_more gives parts xs i d old new total lt is so_far =
    ap (λ v. v ++ flat_map gives (flat_map parts (drop (i + 1) xs))) is
    ∙ (append_assoc old (flat_map gives (parts (get_or xs i d))) (flat_map gives (flat_map parts (drop (i + 1) xs)))
    ∙ (ap (λ v. old ++ v) (sym (flat_map-append gives (parts (get_or xs i d)) (flat_map parts (drop (i + 1) xs))))
    ∙ (ap (λ z. old ++ flat_map gives (flat_map parts z)) (sym (drop_at xs i d lt)) ∙ so_far)))
