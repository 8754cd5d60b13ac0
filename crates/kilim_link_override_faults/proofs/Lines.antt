-- Lines of classes that are cut.
use Rattle.std.proofs.Common.{◌≡◌, ℕ, zero, suc, ◌≤◌, Bool, List, [], ◌∷◌, Option, Some, None, refl, sym, ap, ◌∙◌, length, filter, arith}
use Rattle.kilim_program.specs.declared.class.Class.{Class}
use Rattle.kilim_program.specs.declared.names.ClassId.{ClassId}
use Rattle.kilim_program.specs.Keeps.{superclass_of, line_above, ancestors_of}
use Rattle.kilim_program.specs.Names.{◌>>=◌, class_at, line_up_to}
use Rattle.kilim_program.specs.Program.{Program}
use Rattle.kilim_link_spec.specs.Linked.{first_of}
use Rattle.kilim_link_override_faults.proofs.Firsts.{first_is, first_isnt}
use Rattle.kilim_link_override_faults.proofs.Truth.{cases}

abbrev pub line_rest : Program → ℕ → Option ClassId → List ClassId
line_rest p n None = []
line_rest p n (Some up) = line_up_to p n up

up_is : (p : Program) (n : ℕ) (o : Option ClassId) → elim o [ None ↦ [] | Some up ↦ line_up_to p n up ] ≡ line_rest p n o
up_is p n None = refl
up_is p n (Some up) = refl

rest_is : (p : Program) (n : ℕ) (o : Option Class) → elim (o >>= λ (class : Class). class.superclass) [ None ↦ [] | Some up ↦ line_up_to p n up ] ≡ line_rest p n (superclass_of o)
rest_is p n None = refl
rest_is p n (Some class) = up_is p n class.superclass

-- the class, and what is left behind it
pub line_more : (p : Program) (n : ℕ) (c : ClassId) → line_up_to p (suc n) c ≡ c ∷ line_rest p n (superclass_of (class_at p c))
line_more p n c = ap (λ (ds : List ClassId). c ∷ ds) (rest_is p n (class_at p c))

above_is : (p : Program) (o : Option ClassId) → line_above p o ≡ line_rest p (length p.classes) o
above_is p None = refl
above_is p (Some up) = refl

pub ancestors_are : (p : Program) (c : ClassId) → ancestors_of p c ≡ line_rest p (length p.classes) (superclass_of (class_at p c))
ancestors_are p c = above_is p (superclass_of (class_at p c))

-- the first class of a line that passes a test is the same where it is cut later
pub first_cut : (p : Program) (test : ClassId → Bool) (n k : ℕ) (o : Option ClassId) (d : ClassId) → n ≤ k → Some d ≡ first_of (filter test (line_rest p n o)) → Some d ≡ first_of (filter test (line_rest p k o))
first_cut p test n k None d le e = e
first_cut p test zero k (Some up) d le e = absurd (let wrong : Some d ≡ None = e in cc)
first_cut p test (suc n) zero (Some up) d le e = absurd (omega arith)
first_cut p test (suc n) (suc k) (Some up) d le e =
    let above = superclass_of (class_at p up) in
    let first : List ClassId → Option ClassId = λ ds. first_of (filter test ds) in
    let found : Some d ≡ first (up ∷ line_rest p n above) = e ∙ ap first (line_more p n up) in
    let whole : first (line_rest p (suc k) (Some up)) ≡ first (up ∷ line_rest p k above) = ap first (line_more p k up) in
    cases (test up)
    (λ is. found ∙ (first_is test up (line_rest p n above) is ∙ sym (whole ∙ first_is test up (line_rest p k above) is)))
    (λ isnt. first_cut p test n k above d (omega arith) (found ∙ first_isnt test up (line_rest p n above) isnt) ∙ sym (whole ∙ first_isnt test up (line_rest p k above) isnt))
