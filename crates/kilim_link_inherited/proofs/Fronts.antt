-- Fronts of lines, one class more at a time.
use Rattle.std.proofs.Common.{◌≡◌, ℕ, zero, suc, true, ◌==◌, ◌-◌, ◌<◌, ◌≤◌, List, [], ◌∷◌, ◌++◌, Option, Some, None, option_and_then, length, refl, sym, ap, ◌∙◌, inl, inr, arith}
use Rattle.std.proofs.lemmas.Bool.{eqb-true}
use Rattle.kilim_program.specs.declared.names.ClassId.{ClassId}
use Rattle.kilim_link_inherited.specs.Inherited.{up_in, line_up}
use Rattle.kilim_link_inherited.specs.Fronts.{class_after, IsFront}
use Rattle.kilim_link_inherited.specs.Roots.{root_at}

module _ (ups : List (Option ClassId)) where
  -- the line that a superclass begins
  abbrev pub line_rest : ℕ → Option ClassId → List ClassId
  line_rest n None = []
  line_rest n (Some up) = line_up ups n up

  rest_is : (n : ℕ) (o : Option ClassId) → elim o [ None ↦ [] | Some up ↦ line_up ups n up ] ≡ line_rest n o
  rest_is n None = refl
  rest_is n (Some up) = refl

  pub line_more : (n : ℕ) (c : ClassId) → line_up ups (suc n) c ≡ c ∷ line_rest n (up_in ups c)
  line_more n c = ap (λ (ds : List ClassId). c ∷ ds) (rest_is n (up_in ups c))

  some_is : (c d : ClassId) → Some c ≡ Some d → c ≡ d
  some_is c d e = cc

  and_itself : (o : Option ClassId) → option_and_then (class_after ups zero) o ≡ o
  and_itself None = refl
  and_itself (Some up) = refl

  -- one superclass more
  next_of : (m : ℕ) (o : Option ClassId) (d : ClassId) → option_and_then (class_after ups m) o ≡ Some d → option_and_then (class_after ups (suc m)) o ≡ up_in ups d
  next_of m None d is = absurd cc
  next_of zero (Some c) d is = and_itself (up_in ups c) ∙ ap (up_in ups) (some_is c d is)
  next_of (suc m) (Some c) d is = next_of m (up_in ups c) d is

  pub after_next : (m : ℕ) (c d : ClassId) → class_after ups m c ≡ Some d → class_after ups (suc m) c ≡ up_in ups d
  after_next m c d is = next_of m (Some c) d is

  empty : (o : Option ClassId) → line_rest zero o ≡ []
  empty None = refl
  empty (Some up) = refl

  -- one class more
  farther : (m : ℕ) (o : Option ClassId) (d : ClassId) → option_and_then (class_after ups m) o ≡ Some d → line_rest (suc m) o ≡ line_rest m o ++ d ∷ []
  farther m None d is = absurd cc
  farther zero (Some c) d is = line_more zero c ∙ (ap (λ (ds : List ClassId). c ∷ ds) (empty (up_in ups c)) ∙ ap (λ (x : ClassId). x ∷ []) (some_is c d is))
  farther (suc m) (Some c) d is =
      line_more (suc m) c
      ∙ (ap (λ (ds : List ClassId). c ∷ ds) (farther m (up_in ups c) d is) ∙ sym (ap (λ (ds : List ClassId). ds ++ d ∷ []) (line_more m c)))

  pub one_farther : (m : ℕ) (c d : ClassId) → class_after ups m c ≡ Some d → line_up ups (suc m) c ≡ line_up ups m c ++ d ∷ []
  one_farther m c d is = farther m (Some c) d is

  -- ---- a front that has one class more

  module _ (roots : List (Option ℕ)) (c at : ClassId) (classes new : List ClassId) (m : ℕ) (are : classes ≡ line_up ups m c) (here : class_after ups m c ≡ Some at) (more : new ≡ classes ++ at ∷ []) where
    pub are_more : new ≡ line_up ups (suc m) c
    are_more = more ∙ (ap (λ (ds : List ClassId). ds ++ at ∷ []) are ∙ sym (one_farther m c at here))

    pub ends : up_in ups at ≡ None → IsFront ups roots c new 0
    ends none = record { count = suc m; classes_are = are_more; base_is = inl (refl, inl (after_next m c at here ∙ none)) }

    pub comes_back : up_in ups at ≡ Some c → IsFront ups roots c new 0
    comes_back back = record { count = suc m; classes_are = are_more; base_is = inl (refl, inr (inl (m, refl, after_next m c at here ∙ back))) }

    pub stands_on : (up : ClassId) (base : ℕ) → up_in ups at ≡ Some up → root_at roots up ≡ Some base → IsFront ups roots c new base
    stands_on up base is made = record { count = suc m; classes_are = are_more; base_is = inr (up, after_next m c at here ∙ is, made) }

  -- behind each class that there is
  pub fewer : (left : ℕ) → 0 < left → left ≤ length ups → suc (length ups - left) ≡ length ups - (left - 1)
  fewer left some le = omega arith

  pub goes_on : (c at up : ClassId) (classes new : List ClassId) (left : ℕ) → 0 < left → left ≤ length ups → classes ≡ line_up ups (length ups - left) c → class_after ups (length ups - left) c ≡ Some at → new ≡ classes ++ at ∷ []
      → up_in ups at ≡ Some up → (new ≡ line_up ups (length ups - (left - 1)) c) × (class_after ups (length ups - (left - 1)) c ≡ Some up)
  goes_on c at up classes new left some le are here more is = (
    are_more [] c at classes new (length ups - left) are here more ∙ ap (λ (n : ℕ). line_up ups n c) (fewer left some le),
    sym (ap (λ (n : ℕ). class_after ups n c) (fewer left some le)) ∙ (after_next (length ups - left) c at here ∙ is),
  )

  same_class : (c d : ClassId) → d.0 ≡ c.0 → Some d ≡ Some c
  same_class c d e = ap (λ (k : ℕ). let x : ClassId = record { 0 = k } in Some x) e

  pub is_itself : (o : Option ClassId) (up c : ClassId) → Some up ≡ o → (up.0 == c.0) ≡ true → o ≡ Some c
  is_itself o up c is same = sym is ∙ same_class c up (eqb-true up.0 c.0 same)
