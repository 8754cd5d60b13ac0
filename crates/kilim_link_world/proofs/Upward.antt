-- Lines of classes, step by step.
use Rattle.std.proofs.Common.{◌≡◌, ℕ, zero, suc, ◌-◌, ◌<◌, List, [], ◌∷◌, ◌++◌, Option, Some, None, refl, sym, ap, ◌∙◌, arith, append_assoc}
use Rattle.kilim_program.specs.declared.class.Class.{Class}
use Rattle.kilim_program.specs.declared.names.ClassId.{ClassId}
use Rattle.kilim_program.specs.Keeps.{superclass_of}
use Rattle.kilim_program.specs.Names.{◌>>=◌, class_at, line_up_to}
use Rattle.kilim_program.specs.Program.{Program}

abbrev pub line_rest : Program → ℕ → Option ClassId → List ClassId
line_rest p n None = []
line_rest p n (Some up) = line_up_to p n up

up_is : (p : Program) (n : ℕ) (o : Option ClassId) → elim o [ None ↦ [] | Some up ↦ line_up_to p n up ] ≡ line_rest p n o
up_is p n None = refl
up_is p n (Some up) = refl

pub rest_is : (p : Program) (n : ℕ) (o : Option Class) → elim (o >>= λ (class : Class). class.superclass) [ None ↦ [] | Some up ↦ line_up_to p n up ] ≡ line_rest p n (superclass_of o)
rest_is p n None = refl
rest_is p n (Some class) = up_is p n class.superclass

-- the class, and what is left behind it
pub line_more : (p : Program) (left : ℕ) (c : ClassId) → 0 < left → line_up_to p left c ≡ c ∷ line_rest p (left - 1) (superclass_of (class_at p c))
line_more p zero c lt = absurd (omega arith)
line_more p (suc n) c lt =
    let less : n ≡ suc n - 1 = omega arith in
    ap (λ (ds : List ClassId). c ∷ ds) (rest_is p n (class_at p c) ∙ ap (λ (k : ℕ). line_rest p k (superclass_of (class_at p c))) less)

module _ (p : Program) (left : ℕ) (at : ClassId) (some : 0 < left) (done : List ClassId) where
  pub line_up : (up : ClassId) → superclass_of (class_at p at) ≡ Some up → (done ++ at ∷ []) ++ line_up_to p (left - 1) up ≡ done ++ line_up_to p left at
  line_up up is =
      append_assoc done (at ∷ []) (line_up_to p (left - 1) up)
      ∙ ap (λ (ds : List ClassId). done ++ ds) (sym (line_more p left at some ∙ ap (λ (o : Option ClassId). at ∷ line_rest p (left - 1) o) is))
