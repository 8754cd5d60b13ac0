-- Files of stages, one after the other.
use Rattle.std.proofs.Common.{◌≡◌, ℕ, ◌+◌, ◌<◌, ◌≤◌, List, [], ◌∷◌, ◌++◌, length, get_or, suc, drop, drop-cons, sym, ap, ◌∙◌, append_assoc, arith}
use Rattle.std.proofs.lemmas.List.{append-nil, drop_all}
use Rattle.kilim_class_file.specs.declared.class_file.ClassFile.{ClassFile}
use Rattle.kilim_demo.specs.declared.draws.Stage.{Stage}
use Rattle.kilim_demo.specs.Demo.{stage_files}
use Rattle.kilim_demo.specs.Stage.{stage_file}

pub filed_more : (messages : ℕ) (now next whole : List ClassFile) (xs : List Stage) (i : ℕ) (x d : Stage) (file : ClassFile) → i < length xs → x ≡ get_or xs i d → now ++ stage_files (i + 1) messages (drop i xs) ≡ whole →
    file ≡ stage_file (i + 1) messages x → next ≡ now ++ file ∷ [] → next ++ stage_files (i + 1 + 1) messages (drop (i + 1) xs) ≡ whole
filed_more messages now next whole xs i x d file lt is so_far made step =
    let rest : List ClassFile = stage_files (i + 1 + 1) messages (drop (i + 1) xs) in
    let n : suc i ≡ i + 1 = omega arith in
    let next_one : drop i xs ≡ x ∷ drop (i + 1) xs = drop-cons xs i d lt ∙ (ap (λ (y : Stage). y ∷ drop (suc i) xs) (sym is) ∙ ap (λ (k : ℕ). x ∷ drop k xs) n) in
    ap (λ (fs : List ClassFile). fs ++ rest) step
    ∙ (append_assoc now (file ∷ []) rest
    ∙ (ap (λ (f : ClassFile). now ++ (f ∷ rest)) made ∙ (sym (ap (λ (ys : List Stage). now ++ stage_files (i + 1) messages ys) next_one) ∙ so_far)))

-- none is left
pub filed_all : (messages : ℕ) (now whole : List ClassFile) (xs : List Stage) (i : ℕ) → length xs ≤ i → now ++ stage_files (i + 1) messages (drop i xs) ≡ whole → now ≡ whole
filed_all messages now whole xs i le so_far =
    sym (append-nil now) ∙ (ap (λ (ys : List Stage). now ++ stage_files (i + 1) messages ys) (sym (drop_all i xs le)) ∙ so_far)
