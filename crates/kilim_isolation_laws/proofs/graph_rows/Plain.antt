-- Rows that push and pop values.
use Rattle.std.proofs.Common.{◌≡◌, ℕ, zero, suc, ℤ, pos, negsuc, Bool, true, false, not, List, [], ◌∷◌, ◌++◌, Option, Some, None, Ok, length, refl, sym, ap, subst, ◌∙◌, inl, inr}
use Rattle.std.specs.Prelude.{drop, replicate, slice_get}
use Rattle.std.specs.Ordering.{int_eq}
use Rattle.kilim_program.specs.declared.instr.Instr.TheVariants as instr
use Rattle.kilim_program.specs.declared.verified.VType.TheVariants as vtype
use Rattle.kilim_run_state.specs.declared.cause.EndCause.{EndCause}
use Rattle.kilim_program.specs.declared.class.Method.{Method}
use Rattle.kilim_program.specs.declared.instr.Instr.{Instr}
use Rattle.kilim_program.specs.declared.ty.Base.{Base}
use Rattle.kilim_program.specs.declared.ty.Base.TheVariants as base
use Rattle.kilim_program.specs.declared.value.Value.{Value}
use Rattle.kilim_program.specs.declared.value.Value.TheVariants.{Int, Long, Null}
use Rattle.kilim_program.specs.declared.verified.VType.{VType}
use Rattle.kilim_program.specs.Program.{Program}
use Rattle.kilim_run_state.specs.Machine.{Objects}
use Rattle.kilim_program.specs.Lengths.{jump_targets, ends_path}
use Rattle.kilim_run_machine.specs.Effect.{Effect, Goes, Ends, is_wide}
use Rattle.kilim_run_machine.specs.Does.{does, int_binary, int_unary, int_division, long_binary, long_division, int_jump, compare_jump, reference_jump, null_jump, place_if, same_reference, is_null, table_target, target_or, throws_object}
use Rattle.kilim_type_spec.specs.Step.{Types, peek, Operand, Further, Row, Takes, ints, longs, gives_int, gives_long, row, type_step}
use Rattle.kilim_type_spec.specs.Typed.{edges, Among}
use Rattle.kilim_isolation_laws.specs.forest.Relation.{Named}
use Rattle.kilim_isolation_graph.specs.declared.graph.Graph.{Graph}
use Rattle.kilim_isolation_rules.specs.declared.deed.Deed.{Deed}
use Rattle.kilim_isolation_rules.specs.Marks.{plain}
use Rattle.kilim_isolation_rules.specs.Rules.{by_types, deed, moves, raised_deed}
use Rattle.kilim_isolation_laws.specs.graph_rows.Holds.{sort, Fits, unnamed, AreSlots, SlotsFit, named_by, Waiting, Holds, Stands}
use Rattle.kilim_isolation_laws.specs.graph_rows.Outcome.{Left, EffectHolds}
use Rattle.kilim_isolation_laws.proofs.graph_rows.Passed.{takes_passed, moves_passed}
use Rattle.kilim_isolation_laws.proofs.graph_rows.Words.{cond_h, value_h, int_h, on_int_h, on_long_h, two_ints_h, two_longs_h, on_reference_h, object_h, class_h, index_h}

-- names move alone
pub moved : (p : Program) (m : Method) (f f1 : Types) (g : Graph) (xs ys : List (Option ℕ)) (at : ℕ → Option ℕ) (h : Objects) (ls st ls1 st1 : List Value) (below : List Waiting) → Holds p m f g at h ls st below →
    SlotsFit p m f1 (record g { locals = xs; stack = ys }) at h ls1 st1 → Holds p m f1 (record g { locals = xs; stack = ys }) at h ls1 st1 below
moved p m f f1 g xs ys at h ls st ls1 st1 below hd s = record { heap = hd.heap; forest = hd.forest; frames = hd.frames; tidy = hd.tidy; slots = s; waits = hd.waits }

module _ (p : Program) (m : Method) (h : Objects) (u : Named) (count : ℕ) where
  pub dropped : (n : ℕ) (ts : List VType) (xs : List (Option ℕ)) (vs : List Value) → AreSlots p m h u count ts xs vs → AreSlots p m h u count (drop n ts) (drop n xs) (drop n vs)
  dropped zero ts xs vs s = s
  dropped (suc n) [] [] [] s = tt
  dropped (suc n) (t ∷ ts) (x ∷ xs) (v ∷ vs) s = dropped n ts xs vs s.1
  dropped (suc n) [] [] (v ∷ vs) s = absurd s
  dropped (suc n) [] (x ∷ xs) vs s = absurd s
  dropped (suc n) (t ∷ ts) [] vs s = absurd s
  dropped (suc n) (t ∷ ts) (x ∷ xs) [] s = absurd s

  -- values, or objects without names
  abbrev pub AllFit : List VType → List Value → Type 0
  AllFit [] [] = Unit {0}
  AllFit (t ∷ ts) (v ∷ vs) = Fits p h (unnamed (sort p m t)) v × AllFit ts vs
  AllFit ts vs = ⊥

  pub pushed : (gives : List VType) (vs : List Value) → AllFit gives vs → (ts : List VType) (xs : List (Option ℕ)) (rest : List Value) → AreSlots p m h u count ts xs rest →
      AreSlots p m h u count (gives ++ ts) (replicate (length gives) None ++ xs) (vs ++ rest)
  pushed [] [] a ts xs rest s = s
  pushed (t ∷ gives) (v ∷ vs) a ts xs rest s = (a.0, pushed gives vs a.1 ts xs rest s)
  pushed [] (v ∷ vs) a ts xs rest s = absurd a
  pushed (t ∷ gives) [] a ts xs rest s = absurd a

pub among_if : (b : Bool) (to next : ℕ) (es : List ℕ) → Among es to → Among es next → Among es (place_if b to next)
among_if true to next es a c = a
among_if false to next es a c = c

among_at : (es : List ℕ) (k x d : ℕ) → slice_get es k ≡ Some x → Among (d ∷ es) x
among_at [] k x d e = absurd (cc)
among_at (y ∷ es) zero x d e = inr (inl (the e))
  where
    the : Some y ≡ Some x → y ≡ x
    the w = cc
among_at (y ∷ es) (suc k) x d e = elim (among_at es k x d e) [ inl w ↦ inl w | inr w ↦ inr (inr w) ]

among_table : (targets : List ℕ) (n : ℤ) (default : ℕ) → Among (default ∷ targets) (table_target targets n default)
among_table targets (negsuc i) default = inl refl
among_table targets (pos i) default = by (slice_get targets i) refl
  where
    by : (x : Option ℕ) → slice_get targets i ≡ x → Among (default ∷ targets) (target_or x default)
    by None e = inl refl
    by (Some x) e = among_at targets i x default e

module _ (p : Program) (m : Method) (pl to : ℕ) (f f1 : Types) (g g1 : Graph) (at : ℕ → Option ℕ) (h : Objects) (ls st : List Value) (below : List Waiting) (after : Option Types) where
  -- an instruction of an accepted method, in a frame that stands
  abbrev pub IsStep : Instr → Type 0
  IsStep i = Stands p m f g at h ls st below × (type_step p m pl i f ≡ Ok f1) × (moves p m g f i after ≡ Ok g1)

  abbrev pub E : Instr → Effect → Type 0
  E i e = EffectHolds p m (edges i to) f1 g1 at below h g.nodes to f (raised_deed p g f i).graph e

  abbrev pub IsPlain : Instr → List Operand → List VType → List Further → Type 0
  IsPlain i takes gives also = (row p m i ≡ Takes takes gives also) × (deed p m g f i ≡ plain (by_types g f (row p m i)))

  abbrev pub AllFitHere : List VType → List Value → Type 0
  AllFitHere ts vs = AllFit p m h (named_by g at) (length g.nodes) ts vs

  pub plain_left : (i : Instr) → IsStep i → (takes : List Operand) (gives : List VType) (also : List Further) → IsPlain i takes gives also → (vs rest : List Value) → drop (length takes) st ≡ rest →
      AllFitHere gives vs → Left p m f1 g1 h ls (vs ++ rest) below
  plain_left i s takes gives also is vs rest e fits =
      let t = takes_passed p m pl takes gives also f f1 (subst (λ r. Rattle.kilim_type_spec.specs.Step.by_row p m pl r f ≡ Ok f1) is.0 s.1) in
      let q = moves_passed p m g f i after g1 s.2 in
      let graph = q.graph ∙ ap (λ (d : Deed). d.graph) is.1 ∙ ap (by_types g f) is.0 in (
        at,
        subst (λ z. Holds p m z g1 at h ls (vs ++ rest) below) (sym t.1) (subst (λ z. Holds p m (record f { stack = gives ++ drop (length takes) f.stack }) z at h ls (vs ++ rest) below) (sym graph)
            (moved p m f (record f { stack = gives ++ drop (length takes) f.stack }) g g.locals (replicate (length gives) None ++ drop (length takes) g.stack) at h ls st ls (vs ++ rest) below s.0.holds (record {
              on_stack = pushed p m h (named_by g at) (length g.nodes) gives vs fits (drop (length takes) f.stack) (drop (length takes) g.stack) rest
                  (subst (λ z. AreSlots p m h (named_by g at) (length g.nodes) (drop (length takes) f.stack) (drop (length takes) g.stack) z) e
                  (dropped p m h (named_by g at) (length g.nodes) (length takes) f.stack g.stack st s.0.holds.slots.on_stack));
              in_locals = s.0.holds.slots.in_locals;
            }))),
      )

  abbrev stuck : (i : Instr) → E i Rattle.kilim_run_machine.specs.Effect.Stuck
  stuck i = tt

  abbrev ends : (i : Instr) (c : EndCause) → E i (Ends c)
  ends i c = tt

  word_int : (x : ℤ) → Fits p h (unnamed (sort p m vtype.Int)) (Int x)
  unfolding sort
  word_int x = (refl, refl)

  wide_long : (x : ℤ) → Fits p h (unnamed (sort p m vtype.Long)) (Long x)
  unfolding sort
  wide_long x = refl

  word_null : Fits p h (unnamed (sort p m vtype.Null)) Null
  unfolding sort
  word_null = (refl, refl)

  -- ---- families

  pub pushes_h : (i : Instr) → IsStep i → (t : VType) (also : List Further) → IsPlain i [] (t ∷ []) also → Among (edges i to) to → (v : Value) → Fits p h (unnamed (sort p m t)) v → E i (Goes to ls (v ∷ st) h)
  pushes_h i s t also is a v fits = (a, plain_left i s [] (t ∷ []) also is (v ∷ []) st refl (fits, tt))

  pub int_binary_h : (i : Instr) → IsStep i → IsPlain i ints (vtype.Int ∷ []) [] → Among (edges i to) to → (op : ℤ → ℤ → ℤ) → E i (int_binary op to ls st h)
  int_binary_h i s is a op = two_ints_h (E i) tt (λ c. tt) (λ c. tt) st _ (λ x y rest e. (a, plain_left i s ints (vtype.Int ∷ []) [] is (Int (op x y) ∷ []) rest (ap (drop 2) e) (word_int (op x y), tt)))

  pub int_division_h : (i : Instr) → IsStep i → IsPlain i ints (vtype.Int ∷ []) [] → Among (edges i to) to → (op : ℤ → ℤ → ℤ) → E i (int_division op to ls st h)
  int_division_h i s is a op = two_ints_h (E i) tt (λ c. tt) (λ c. tt) st _ (λ x y rest e. cond_h (E i) tt (λ c. tt) (λ c. tt) (int_eq y (pos 0)) _ _ (λ z. tt)
      (λ z. (a, plain_left i s ints (vtype.Int ∷ []) [] is (Int (op x y) ∷ []) rest (ap (drop 2) e) (word_int (op x y), tt))))

  pub int_unary_h : (i : Instr) → IsStep i → IsPlain i (Rattle.kilim_type_spec.specs.Step.Is vtype.Int ∷ []) (vtype.Int ∷ []) [] → Among (edges i to) to → (op : ℤ → ℤ) → E i (int_unary op to ls st h)
  int_unary_h i s is a op = on_int_h (E i) tt (λ c. tt) (λ c. tt) st _ (λ x rest e. (a, plain_left i s (Rattle.kilim_type_spec.specs.Step.Is vtype.Int ∷ []) (vtype.Int ∷ []) [] is (Int (op x) ∷ []) rest (ap (drop 1) e) (word_int (op x), tt)))

  pub long_binary_h : (i : Instr) → IsStep i → IsPlain i longs (vtype.Long ∷ []) [] → Among (edges i to) to → (op : ℤ → ℤ → ℤ) → E i (long_binary op to ls st h)
  long_binary_h i s is a op = two_longs_h (E i) tt (λ c. tt) (λ c. tt) st _ (λ x y rest e. (a, plain_left i s longs (vtype.Long ∷ []) [] is (Long (op x y) ∷ []) rest (ap (drop 2) e) (wide_long (op x y), tt)))

  pub long_division_h : (i : Instr) → IsStep i → IsPlain i longs (vtype.Long ∷ []) [] → Among (edges i to) to → (op : ℤ → ℤ → ℤ) → E i (long_division op to ls st h)
  long_division_h i s is a op = two_longs_h (E i) tt (λ c. tt) (λ c. tt) st _ (λ x y rest e. cond_h (E i) tt (λ c. tt) (λ c. tt) (int_eq y (pos 0)) _ _ (λ z. tt)
      (λ z. (a, plain_left i s longs (vtype.Long ∷ []) [] is (Long (op x y) ∷ []) rest (ap (drop 2) e) (wide_long (op x y), tt))))

  pub int_jump_h : (i : Instr) → IsStep i → IsPlain i (Rattle.kilim_type_spec.specs.Step.Is vtype.Int ∷ []) [] [] → (t : ℕ) → Among (edges i to) t → Among (edges i to) to → (test : ℤ → Bool) → E i (int_jump test t to ls st h)
  int_jump_h i s is t a b test = on_int_h (E i) tt (λ c. tt) (λ c. tt) st _ (λ x rest e. (among_if (test x) t to (edges i to) a b, plain_left i s (Rattle.kilim_type_spec.specs.Step.Is vtype.Int ∷ []) [] [] is [] rest (ap (drop 1) e) tt))

  pub compare_jump_h : (i : Instr) → IsStep i → IsPlain i ints [] [] → (t : ℕ) → Among (edges i to) t → Among (edges i to) to → (test : ℤ → ℤ → Bool) → E i (compare_jump test t to ls st h)
  compare_jump_h i s is t a b test = two_ints_h (E i) tt (λ c. tt) (λ c. tt) st _ (λ x y rest e. (among_if (test x y) t to (edges i to) a b, plain_left i s ints [] [] is [] rest (ap (drop 2) e) tt))

  reference_jump_h : (i : Instr) → IsStep i → (takes : List Operand) (also : List Further) → length takes ≡ 2 → IsPlain i takes [] also → (t : ℕ) → Among (edges i to) t → Among (edges i to) to → (test : Bool → Bool) →
      E i (reference_jump test t to ls st h)
  reference_jump_h i s takes also two is t a b test = on_reference_h (E i) tt (λ c. tt) (λ c. tt) st _ (λ w below' e _. on_reference_h (E i) tt (λ c. tt) (λ c. tt) below' _ (λ v rest e' _.
      (among_if (test (same_reference v w)) t to (edges i to) a b, plain_left i s takes [] also is [] rest (ap (λ k. drop k st) two ∙ ap (drop 2) e ∙ ap (drop 1) e') tt)))

  null_jump_h : (i : Instr) → IsStep i → (takes : List Operand) (also : List Further) → length takes ≡ 1 → IsPlain i takes [] also → (t : ℕ) → Among (edges i to) t → Among (edges i to) to → (test : Bool → Bool) →
      E i (null_jump test t to ls st h)
  null_jump_h i s takes also one is t a b test = on_reference_h (E i) tt (λ c. tt) (λ c. tt) st _ (λ v rest e _.
      (among_if (test (is_null v)) t to (edges i to) a b, plain_left i s takes [] also is [] rest (ap (λ k. drop k st) one ∙ ap (drop 1) e) tt))

  -- ---- rows

  pub nop_h : IsStep instr.Nop → E instr.Nop (does p m instr.Nop to ls st h)
  unfolding does row deed ends_path jump_targets
  nop_h s = (inl refl, plain_left instr.Nop s [] [] [] (refl, refl) [] st refl tt)

  pub null_h : IsStep instr.AconstNull → E instr.AconstNull (does p m instr.AconstNull to ls st h)
  unfolding does row deed ends_path jump_targets
  null_h s = pushes_h instr.AconstNull s vtype.Null [] (refl, refl) (inl refl) Null word_null

  pub iconst_h : (n : ℤ) → IsStep (instr.Iconst n) → E (instr.Iconst n) (does p m (instr.Iconst n) to ls st h)
  unfolding does row deed ends_path jump_targets
  iconst_h n s = pushes_h (instr.Iconst n) s vtype.Int [] (refl, refl) (inl refl) (Int n) (word_int n)

  pub bipush_h : (n : ℤ) → IsStep (instr.Bipush n) → E (instr.Bipush n) (does p m (instr.Bipush n) to ls st h)
  unfolding does row deed ends_path jump_targets
  bipush_h n s = pushes_h (instr.Bipush n) s vtype.Int [] (refl, refl) (inl refl) (Int n) (word_int n)

  pub sipush_h : (n : ℤ) → IsStep (instr.Sipush n) → E (instr.Sipush n) (does p m (instr.Sipush n) to ls st h)
  unfolding does row deed ends_path jump_targets
  sipush_h n s = pushes_h (instr.Sipush n) s vtype.Int [] (refl, refl) (inl refl) (Int n) (word_int n)

  pub lconst_h : (n : ℤ) → IsStep (instr.Lconst n) → E (instr.Lconst n) (does p m (instr.Lconst n) to ls st h)
  unfolding does row deed ends_path jump_targets
  lconst_h n s = pushes_h (instr.Lconst n) s vtype.Long [] (refl, refl) (inl refl) (Long n) (wide_long n)

  pub iadd_h : IsStep instr.Iadd → E instr.Iadd (does p m instr.Iadd to ls st h)
  unfolding does row deed ends_path jump_targets
  iadd_h s = int_binary_h instr.Iadd s (refl, refl) (inl refl) _

  pub isub_h : IsStep instr.Isub → E instr.Isub (does p m instr.Isub to ls st h)
  unfolding does row deed ends_path jump_targets
  isub_h s = int_binary_h instr.Isub s (refl, refl) (inl refl) _

  pub imul_h : IsStep instr.Imul → E instr.Imul (does p m instr.Imul to ls st h)
  unfolding does row deed ends_path jump_targets
  imul_h s = int_binary_h instr.Imul s (refl, refl) (inl refl) _

  pub iand_h : IsStep instr.Iand → E instr.Iand (does p m instr.Iand to ls st h)
  unfolding does row deed ends_path jump_targets
  iand_h s = int_binary_h instr.Iand s (refl, refl) (inl refl) _

  pub ishl_h : IsStep instr.Ishl → E instr.Ishl (does p m instr.Ishl to ls st h)
  unfolding does row deed ends_path jump_targets
  ishl_h s = int_binary_h instr.Ishl s (refl, refl) (inl refl) _

  pub idiv_h : IsStep instr.Idiv → E instr.Idiv (does p m instr.Idiv to ls st h)
  unfolding does row deed ends_path jump_targets
  idiv_h s = int_division_h instr.Idiv s (refl, refl) (inl refl) _

  pub irem_h : IsStep instr.Irem → E instr.Irem (does p m instr.Irem to ls st h)
  unfolding does row deed ends_path jump_targets
  irem_h s = int_division_h instr.Irem s (refl, refl) (inl refl) _

  pub ineg_h : IsStep instr.Ineg → E instr.Ineg (does p m instr.Ineg to ls st h)
  unfolding does row deed ends_path jump_targets
  ineg_h s = int_unary_h instr.Ineg s (refl, refl) (inl refl) _

  pub i2b_h : IsStep instr.I2b → E instr.I2b (does p m instr.I2b to ls st h)
  unfolding does row deed ends_path jump_targets
  i2b_h s = int_unary_h instr.I2b s (refl, refl) (inl refl) _

  pub i2l_h : IsStep instr.I2l → E instr.I2l (does p m instr.I2l to ls st h)
  unfolding does row deed ends_path jump_targets
  i2l_h s = on_int_h (E instr.I2l) tt (λ c. tt) (λ c. tt) st _ (λ x rest e. (inl refl, plain_left instr.I2l s (Rattle.kilim_type_spec.specs.Step.Is vtype.Int ∷ []) (vtype.Long ∷ []) [] (refl, refl) (Long x ∷ []) rest (ap (drop 1) e) (wide_long x, tt)))

  pub l2i_h : IsStep instr.L2i → E instr.L2i (does p m instr.L2i to ls st h)
  unfolding does row deed ends_path jump_targets
  l2i_h s = on_long_h (E instr.L2i) tt (λ c. tt) (λ c. tt) st _ (λ x rest e. (inl refl, plain_left instr.L2i s (Rattle.kilim_type_spec.specs.Step.Is vtype.Long ∷ []) (vtype.Int ∷ []) [] (refl, refl) (Int _ ∷ []) rest (ap (drop 1) e) (word_int _, tt)))

  pub ladd_h : IsStep instr.Ladd → E instr.Ladd (does p m instr.Ladd to ls st h)
  unfolding does row deed ends_path jump_targets
  ladd_h s = long_binary_h instr.Ladd s (refl, refl) (inl refl) _

  pub ldiv_h : IsStep instr.Ldiv → E instr.Ldiv (does p m instr.Ldiv to ls st h)
  unfolding does row deed ends_path jump_targets
  ldiv_h s = long_division_h instr.Ldiv s (refl, refl) (inl refl) _

  pub lcmp_h : IsStep instr.Lcmp → E instr.Lcmp (does p m instr.Lcmp to ls st h)
  unfolding does row deed ends_path jump_targets
  lcmp_h s = two_longs_h (E instr.Lcmp) tt (λ c. tt) (λ c. tt) st _ (λ x y rest e. (inl refl, plain_left instr.Lcmp s longs (vtype.Int ∷ []) [] (refl, refl) (Int _ ∷ []) rest (ap (drop 2) e) (word_int _, tt)))

  pub ifeq_h : (t : ℕ) → IsStep (instr.Ifeq t) → E (instr.Ifeq t) (does p m (instr.Ifeq t) to ls st h)
  unfolding does row deed ends_path jump_targets
  ifeq_h t s = int_jump_h (instr.Ifeq t) s (refl, refl) t (inr (inl refl)) (inl refl) _

  pub iflt_h : (t : ℕ) → IsStep (instr.Iflt t) → E (instr.Iflt t) (does p m (instr.Iflt t) to ls st h)
  unfolding does row deed ends_path jump_targets
  iflt_h t s = int_jump_h (instr.Iflt t) s (refl, refl) t (inr (inl refl)) (inl refl) _

  pub if_icmpeq_h : (t : ℕ) → IsStep (instr.IfIcmpeq t) → E (instr.IfIcmpeq t) (does p m (instr.IfIcmpeq t) to ls st h)
  unfolding does row deed ends_path jump_targets
  if_icmpeq_h t s = compare_jump_h (instr.IfIcmpeq t) s (refl, refl) t (inr (inl refl)) (inl refl) _

  pub if_icmplt_h : (t : ℕ) → IsStep (instr.IfIcmplt t) → E (instr.IfIcmplt t) (does p m (instr.IfIcmplt t) to ls st h)
  unfolding does row deed ends_path jump_targets
  if_icmplt_h t s = compare_jump_h (instr.IfIcmplt t) s (refl, refl) t (inr (inl refl)) (inl refl) _

  pub if_acmpeq_h : (t : ℕ) → IsStep (instr.IfAcmpeq t) → E (instr.IfAcmpeq t) (does p m (instr.IfAcmpeq t) to ls st h)
  unfolding does row deed ends_path jump_targets
  if_acmpeq_h t s = reference_jump_h (instr.IfAcmpeq t) s _ _ refl (refl, refl) t (inr (inl refl)) (inl refl) (λ b. b)

  pub if_acmpne_h : (t : ℕ) → IsStep (instr.IfAcmpne t) → E (instr.IfAcmpne t) (does p m (instr.IfAcmpne t) to ls st h)
  unfolding does row deed ends_path jump_targets
  if_acmpne_h t s = reference_jump_h (instr.IfAcmpne t) s _ _ refl (refl, refl) t (inr (inl refl)) (inl refl) not

  pub ifnull_h : (t : ℕ) → IsStep (instr.Ifnull t) → E (instr.Ifnull t) (does p m (instr.Ifnull t) to ls st h)
  unfolding does row deed ends_path jump_targets
  ifnull_h t s = null_jump_h (instr.Ifnull t) s _ _ refl (refl, refl) t (inr (inl refl)) (inl refl) (λ b. b)

  pub ifnonnull_h : (t : ℕ) → IsStep (instr.Ifnonnull t) → E (instr.Ifnonnull t) (does p m (instr.Ifnonnull t) to ls st h)
  unfolding does row deed ends_path jump_targets
  ifnonnull_h t s = null_jump_h (instr.Ifnonnull t) s _ _ refl (refl, refl) t (inr (inl refl)) (inl refl) not

  pub goto_h : (t : ℕ) → IsStep (instr.Goto t) → E (instr.Goto t) (does p m (instr.Goto t) to ls st h)
  unfolding does row deed ends_path jump_targets
  goto_h t s = (inl refl, plain_left (instr.Goto t) s [] [] [] (refl, refl) [] st refl tt)

  pub tableswitch_h : (d : ℕ) (low : ℤ) (ts : List ℕ) → IsStep (instr.Tableswitch d low ts) → E (instr.Tableswitch d low ts) (does p m (instr.Tableswitch d low ts) to ls st h)
  unfolding does row deed ends_path jump_targets
  tableswitch_h d low ts s = on_int_h (E (instr.Tableswitch d low ts)) tt (λ c. tt) (λ c. tt) st _ (λ x rest e.
      (among_table ts _ d, plain_left (instr.Tableswitch d low ts) s (Rattle.kilim_type_spec.specs.Step.Is vtype.Int ∷ []) [] [] (refl, refl) [] rest (ap (drop 1) e) tt))

  pub arraylength_h : IsStep instr.Arraylength → E instr.Arraylength (does p m instr.Arraylength to ls st h)
  unfolding does row deed ends_path jump_targets
  arraylength_h s = object_h (E instr.Arraylength) tt (λ c. tt) (λ c. tt) st h _ (λ n object rest e _. (inl refl, plain_left instr.Arraylength s _ (vtype.Int ∷ []) [] (refl, refl) (Int _ ∷ []) rest (ap (drop 1) e) (word_int _, tt)))

  thrown_h : (n dims : ℕ) (b : Base) → E instr.Athrow (throws_object p n dims b)
  thrown_h n zero (base.Class c) = tt
  thrown_h n zero b = tt
  thrown_h n (suc d) b = tt

  pub athrow_h : E instr.Athrow (does p m instr.Athrow to ls st h)
  unfolding does
  athrow_h = object_h (E instr.Athrow) tt (λ c. tt) (λ c. tt) st h _ (λ n object rest e _. thrown_h n object.class.dims object.class.base)

  pub instanceof_h : (ty : Rattle.kilim_program.specs.declared.ty.Ty.Ty) → IsStep (instr.Instanceof ty) → E (instr.Instanceof ty) (does p m (instr.Instanceof ty) to ls st h)
  unfolding does row deed ends_path jump_targets
  instanceof_h ty s = value_h (E (instr.Instanceof ty)) tt (λ c. tt) (λ c. tt) st _ (λ v rest e. class_h (E (instr.Instanceof ty)) tt (λ c. tt) (λ c. tt) p v h _ (λ class _.
      (inl refl, plain_left (instr.Instanceof ty) s _ (vtype.Int ∷ []) [] (refl, refl) (Int _ ∷ []) rest (ap (drop 1) e) (word_int _, tt))))

  pub iaload_h : IsStep instr.Iaload → E instr.Iaload (does p m instr.Iaload to ls st h)
  unfolding does row deed ends_path jump_targets
  iaload_h s = on_int_h (E instr.Iaload) tt (λ c. tt) (λ c. tt) st _ (λ k below' e. object_h (E instr.Iaload) tt (λ c. tt) (λ c. tt) below' h _ (λ n object rest e' _. index_h (E instr.Iaload) tt (λ c. tt) (λ c. tt) object.elements k _ (λ j v _.
      int_h (E instr.Iaload) tt (λ c. tt) (λ c. tt) v _ (λ x _. (inl refl, plain_left instr.Iaload s _ (vtype.Int ∷ []) [] (refl, refl) (Int x ∷ []) rest (ap (drop 2) e ∙ ap (drop 1) e') (word_int x, tt))))))
