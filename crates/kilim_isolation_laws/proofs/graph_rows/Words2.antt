-- All forms of pop, dup and swap.
use Rattle.std.proofs.Common.{◌≡◌, ℕ, suc, true, false, true≢false, List, [], ◌∷◌, ◌++◌, length, Option, Some, Ok, refl, sym, ap, subst, ◌∙◌, inl}
use Rattle.std.specs.Prelude.{drop, slice_get, take}
use Rattle.kilim_program.specs.declared.class.Method.{Method}
use Rattle.kilim_program.specs.declared.instr.Instr.{Instr}
use Rattle.kilim_program.specs.declared.instr.Instr.TheVariants as instr
use Rattle.kilim_program.specs.declared.value.Value.{Value}
use Rattle.kilim_program.specs.declared.verified.VType.{VType}
use Rattle.kilim_program.specs.declared.verified.VType.TheVariants as vtype
use Rattle.kilim_program.specs.Lengths.{ends_path, jump_targets}
use Rattle.kilim_program.specs.Program.{Program}
use Rattle.kilim_run_machine.specs.Does.{does}
use Rattle.kilim_run_machine.specs.Effect.{Effect, Goes, is_wide, on_two_words, on_word}
use Rattle.kilim_run_state.specs.Machine.{Objects}
use Rattle.kilim_type_spec.specs.Step as type
use Rattle.kilim_type_spec.specs.Step.{Copies, Drops, Swaps, Types, is_long, off, peek, row, then_off, type_step}
use Rattle.kilim_isolation_graph.specs.declared.graph.Graph.{Graph}
use Rattle.kilim_isolation_rules.specs.Rules.{copied, deed, items, shuffled}
use Rattle.kilim_isolation_laws.specs.graph_rows.Holds.{AreSlots, Stands, Waiting, named_by}
use Rattle.kilim_isolation_laws.specs.graph_rows.Outcome.{Left}
use Rattle.kilim_isolation_laws.proofs.graph_rows.Plain.{E, IsStep}
use Rattle.kilim_isolation_laws.proofs.graph_rows.Shuffling.{shuffle_left}
use Rattle.kilim_isolation_laws.proofs.graph_rows.Words.{two_words_h, word_h}

-- ---- one item or two

off_one : (t : VType) → is_long t ≡ false → (s : List VType) → (off 1 (t ∷ s) ≡ Ok (t ∷ [], s)) × (items 1 (t ∷ s) ≡ 1)
off_one vtype.Long e s = absurd (true≢false e)
off_one vtype.Top e s = (refl, refl)
off_one vtype.Int e s = (refl, refl)
off_one vtype.Null e s = (refl, refl)
off_one vtype.UninitThis e s = (refl, refl)
off_one (vtype.Uninit at) e s = (refl, refl)
off_one (vtype.Object ty) e s = (refl, refl)

off_more : (t : VType) → is_long t ≡ false → (s : List VType) → (off 2 (t ∷ s) ≡ type.above t (off 1 s)) × (items 2 (t ∷ s) ≡ suc (items 1 s))
off_more vtype.Long e s = absurd (true≢false e)
off_more vtype.Top e s = (refl, refl)
off_more vtype.Int e s = (refl, refl)
off_more vtype.Null e s = (refl, refl)
off_more vtype.UninitThis e s = (refl, refl)
off_more (vtype.Uninit at) e s = (refl, refl)
off_more (vtype.Object ty) e s = (refl, refl)

off_long : (s : List VType) → (off 2 (vtype.Long ∷ s) ≡ Ok (vtype.Long ∷ [], s)) × (items 2 (vtype.Long ∷ s) ≡ 1)
off_long s = (refl, refl)

long_is : (t : VType) → is_long t ≡ true → t ≡ vtype.Long
long_is vtype.Long e = refl
long_is vtype.Top e = absurd (true≢false (sym e))
long_is vtype.Int e = absurd (true≢false (sym e))
long_is vtype.Null e = absurd (true≢false (sym e))
long_is vtype.UninitThis e = absurd (true≢false (sym e))
long_is (vtype.Uninit at) e = absurd (true≢false (sym e))
long_is (vtype.Object ty) e = absurd (true≢false (sym e))

-- ---- items off the stack: their types, names and values

pub record IsOff (p : Program) (m : Method) (h : Objects) (g : Graph) (at : ℕ → Option ℕ) (n : ℕ) (ts : List VType) (xs : List (Option ℕ)) (vs rest : List Value) : Type 0 where
  pub ta : List VType
  pub tr : List VType
  pub off_is : off n ts ≡ Ok (ta, tr)
  pub types : drop (items n ts) ts ≡ tr
  pub first : AreSlots p m h (named_by g at) (length g.nodes) ta (take (items n ts) xs) vs
  pub last : AreSlots p m h (named_by g at) (length g.nodes) tr (drop (items n ts) xs) rest
  pub words : (k : ℕ) (v : Value) → slice_get rest k ≡ Some v → is_long (peek tr k) ≡ is_wide v

module _ (p : Program) (m : Method) (h : Objects) (g : Graph) (at : ℕ → Option ℕ) where
  abbrev Slots : List VType → List (Option ℕ) → List Value → Type 0
  Slots ts xs vs = AreSlots p m h (named_by g at) (length g.nodes) ts xs vs

  abbrev AreWords : List VType → List Value → Type 0
  AreWords ts vs = (k : ℕ) (v : Value) → slice_get vs k ≡ Some v → is_long (peek ts k) ≡ is_wide v

  none_off : (ts : List VType) (xs : List (Option ℕ)) (vs : List Value) → Slots ts xs vs → AreWords ts vs → IsOff p m h g at 0 ts xs [] vs
  none_off ts xs vs s w = record { ta = []; tr = ts; off_is = refl; types = refl; first = tt; last = s; words = w }

  pub word_off : (ts : List VType) (xs : List (Option ℕ)) (v : Value) (rest : List Value) → Slots ts xs (v ∷ rest) → AreWords ts (v ∷ rest) → is_wide v ≡ false → IsOff p m h g at 1 ts xs (v ∷ []) rest
  word_off [] [] v rest s w narrow = absurd s
  word_off [] (x ∷ xs) v rest s w narrow = absurd s
  word_off (t ∷ ts) [] v rest s w narrow = absurd s
  word_off (t ∷ ts) (x ∷ xs) v rest s w narrow =
      let o = off_one t (w 0 v refl ∙ narrow) ts in
      record {
        ta = t ∷ [];
        tr = ts;
        off_is = o.0;
        types = ap (λ n. drop n (t ∷ ts)) o.1;
        first = subst (λ n. Slots (t ∷ []) (take n (x ∷ xs)) (v ∷ [])) (sym o.1) (s.0, tt);
        last = subst (λ n. Slots ts (drop n (x ∷ xs)) rest) (sym o.1) s.1;
        words = λ k y e. w (suc k) y e;
      }

  pub wide_off : (ts : List VType) (xs : List (Option ℕ)) (v : Value) (rest : List Value) → Slots ts xs (v ∷ rest) → AreWords ts (v ∷ rest) → is_wide v ≡ true → IsOff p m h g at 2 ts xs (v ∷ []) rest
  wide_off [] [] v rest s w wide = absurd s
  wide_off [] (x ∷ xs) v rest s w wide = absurd s
  wide_off (t ∷ ts) [] v rest s w wide = absurd s
  wide_off (t ∷ ts) (x ∷ xs) v rest s w wide =
      let is = long_is t (w 0 v refl ∙ wide) in
      let o : (off 2 (t ∷ ts) ≡ Ok (t ∷ [], ts)) × (items 2 (t ∷ ts) ≡ 1) = subst (λ z. (off 2 (z ∷ ts) ≡ Ok (z ∷ [], ts)) × (items 2 (z ∷ ts) ≡ 1)) (sym is) (off_long ts) in
      record {
        ta = t ∷ [];
        tr = ts;
        off_is = o.0;
        types = ap (λ n. drop n (t ∷ ts)) o.1;
        first = subst (λ n. Slots (t ∷ []) (take n (x ∷ xs)) (v ∷ [])) (sym o.1) (s.0, tt);
        last = subst (λ n. Slots ts (drop n (x ∷ xs)) rest) (sym o.1) s.1;
        words = λ k y e. w (suc k) y e;
      }

  pub pair_off : (ts : List VType) (xs : List (Option ℕ)) (v u : Value) (rest : List Value) → Slots ts xs (v ∷ u ∷ rest) → AreWords ts (v ∷ u ∷ rest) → is_wide v ≡ false → is_wide u ≡ false → IsOff p m h g at 2 ts xs (v ∷ u ∷ []) rest
  pair_off [] [] v u rest s w a b = absurd s
  pair_off [] (x ∷ xs) v u rest s w a b = absurd s
  pair_off (t ∷ ts) [] v u rest s w a b = absurd s
  pair_off (t ∷ []) (x ∷ []) v u rest s w a b = absurd s.1
  pair_off (t ∷ []) (x ∷ y ∷ xs) v u rest s w a b = absurd s.1
  pair_off (t ∷ y ∷ ts) (x ∷ []) v u rest s w a b = absurd s.1
  pair_off (t ∷ y ∷ ts) (x ∷ z ∷ xs) v u rest s w a b =
      let one = off_more t (w 0 v refl ∙ a) (y ∷ ts) in
      let two = off_one y (w 1 u refl ∙ b) ts in
      let count : items 2 (t ∷ y ∷ ts) ≡ 2 = one.1 ∙ ap suc two.1 in
      record {
        ta = t ∷ y ∷ [];
        tr = ts;
        off_is = one.0 ∙ ap (type.above t) two.0;
        types = ap (λ n. drop n (t ∷ y ∷ ts)) count;
        first = subst (λ n. Slots (t ∷ y ∷ []) (take n (x ∷ z ∷ xs)) (v ∷ u ∷ [])) (sym count) (s.0, (s.1.0, tt));
        last = subst (λ n. Slots ts (drop n (x ∷ z ∷ xs)) rest) (sym count) s.1.1;
        words = λ k q e. w (suc (suc k)) q e;
      }

  both : (ta tb : List VType) (xa xb : List (Option ℕ)) (va vb : List Value) → Slots ta xa va → Slots tb xb vb → Slots (ta ++ tb) (xa ++ xb) (va ++ vb)
  both [] tb [] xb [] vb a b = b
  both (t ∷ ta) tb (x ∷ xa) xb (v ∷ va) vb a b = (a.0, both ta tb xa xb va vb a.1 b)
  both [] tb [] xb (v ∷ va) vb a b = absurd a
  both [] tb (x ∷ xa) xb va vb a b = absurd a
  both (t ∷ ta) tb [] xb va vb a b = absurd a
  both (t ∷ ta) tb (x ∷ xa) xb [] vb a b = absurd a

  -- copies of n words under so many others
  pub copied_slots : (n k : ℕ) (ts : List VType) (xs : List (Option ℕ)) (va vb rest : List Value) (a : IsOff p m h g at n ts xs va (vb ++ rest)) (b : IsOff p m h g at k a.tr (drop (items n ts) xs) vb rest) →
      (type.shuffled (Copies n k) ts ≡ Ok (a.ta ++ (b.ta ++ (a.ta ++ b.tr)))) × Slots (a.ta ++ (b.ta ++ (a.ta ++ b.tr))) (shuffled (Copies n k) ts xs) (va ++ (vb ++ (va ++ rest)))
  copied_slots n k ts xs va vb rest a b = (
    ap (λ z. then_off z (λ c under. then_off (off k under) (λ d more. Ok (c ++ (d ++ (c ++ more)))))) a.off_is ∙ ap (λ z. then_off z (λ d more. Ok (a.ta ++ (d ++ (a.ta ++ more))))) b.off_is,
    subst (λ z. Slots (a.ta ++ (b.ta ++ (a.ta ++ b.tr))) (copied (items n ts) (items k z) xs) (va ++ (vb ++ (va ++ rest)))) (sym a.types)
        (both a.ta (b.ta ++ (a.ta ++ b.tr)) (take (items n ts) xs) (take (items k a.tr) (drop (items n ts) xs) ++ (take (items n ts) xs ++ drop (items k a.tr) (drop (items n ts) xs))) va (vb ++ (va ++ rest)) a.first
        (both b.ta (a.ta ++ b.tr) (take (items k a.tr) (drop (items n ts) xs)) (take (items n ts) xs ++ drop (items k a.tr) (drop (items n ts) xs)) vb (va ++ rest) b.first
        (both a.ta b.tr (take (items n ts) xs) (drop (items k a.tr) (drop (items n ts) xs)) va rest a.first b.last))),
  )

  pub dropped_slots : (n : ℕ) (ts : List VType) (xs : List (Option ℕ)) (va rest : List Value) (a : IsOff p m h g at n ts xs va rest) → (type.shuffled (Drops n) ts ≡ Ok a.tr) × Slots a.tr (shuffled (Drops n) ts xs) rest
  dropped_slots n ts xs va rest a = (ap (λ z. then_off z (λ c under. Ok under)) a.off_is, a.last)

module _ (p : Program) (m : Method) (pl to : ℕ) (f f1 : Types) (g g1 : Graph) (at : ℕ → Option ℕ) (h : Objects) (ls st : List Value) (below : List Waiting) (after : Option Types)
    (words : (k : ℕ) (v : Value) → slice_get st k ≡ Some v → is_long (peek f.stack k) ≡ is_wide v) where
  abbrev EI : Instr → Effect → Type 0
  EI i e = E p m pl to f f1 g g1 at h ls st below after i e

  abbrev Off : ℕ → List VType → List (Option ℕ) → List Value → List Value → Type 0
  Off n ts xs vs rest = IsOff p m h g at n ts xs vs rest

  -- off the stack
  word : Stands p m f g at h ls st below → (v : Value) (rest : List Value) → st ≡ v ∷ rest → is_wide v ≡ false → Off 1 f.stack g.stack (v ∷ []) rest
  word s v rest e narrow = word_off p m h g at f.stack g.stack v rest (subst (AreSlots p m h (named_by g at) (length g.nodes) f.stack g.stack) e s.holds.slots.on_stack)
      (subst (λ z. (k : ℕ) (y : Value) → slice_get z k ≡ Some y → is_long (peek f.stack k) ≡ is_wide y) e words) narrow

  two : Stands p m f g at h ls st below → (v : Value) (rest : List Value) → st ≡ v ∷ rest → is_wide v ≡ true → Off 2 f.stack g.stack (v ∷ []) rest
  two s v rest e wide = wide_off p m h g at f.stack g.stack v rest (subst (AreSlots p m h (named_by g at) (length g.nodes) f.stack g.stack) e s.holds.slots.on_stack)
      (subst (λ z. (k : ℕ) (y : Value) → slice_get z k ≡ Some y → is_long (peek f.stack k) ≡ is_wide y) e words) wide

  pair : Stands p m f g at h ls st below → (v u : Value) (rest : List Value) → st ≡ v ∷ u ∷ rest → is_wide v ≡ false → is_wide u ≡ false → Off 2 f.stack g.stack (v ∷ u ∷ []) rest
  pair s v u rest e a b = pair_off p m h g at f.stack g.stack v u rest (subst (AreSlots p m h (named_by g at) (length g.nodes) f.stack g.stack) e s.holds.slots.on_stack)
      (subst (λ z. (k : ℕ) (y : Value) → slice_get z k ≡ Some y → is_long (peek f.stack k) ≡ is_wide y) e words) a b

  -- off what is left
  word_then : (n : ℕ) (va rest : List Value) (a : Off n f.stack g.stack va rest) (v : Value) (more : List Value) → rest ≡ v ∷ more → is_wide v ≡ false → Off 1 a.tr (drop (items n f.stack) g.stack) (v ∷ []) more
  word_then n va rest a v more e narrow = word_off p m h g at a.tr (drop (items n f.stack) g.stack) v more (subst (AreSlots p m h (named_by g at) (length g.nodes) a.tr (drop (items n f.stack) g.stack)) e a.last)
      (subst (λ z. (k : ℕ) (y : Value) → slice_get z k ≡ Some y → is_long (peek a.tr k) ≡ is_wide y) e a.words) narrow

  two_then : (n : ℕ) (va rest : List Value) (a : Off n f.stack g.stack va rest) (v : Value) (more : List Value) → rest ≡ v ∷ more → is_wide v ≡ true → Off 2 a.tr (drop (items n f.stack) g.stack) (v ∷ []) more
  two_then n va rest a v more e wide = wide_off p m h g at a.tr (drop (items n f.stack) g.stack) v more (subst (AreSlots p m h (named_by g at) (length g.nodes) a.tr (drop (items n f.stack) g.stack)) e a.last)
      (subst (λ z. (k : ℕ) (y : Value) → slice_get z k ≡ Some y → is_long (peek a.tr k) ≡ is_wide y) e a.words) wide

  pair_then : (n : ℕ) (va rest : List Value) (a : Off n f.stack g.stack va rest) (v u : Value) (more : List Value) → rest ≡ v ∷ u ∷ more → is_wide v ≡ false → is_wide u ≡ false → Off 2 a.tr (drop (items n f.stack) g.stack) (v ∷ u ∷ []) more
  pair_then n va rest a v u more e b c = pair_off p m h g at a.tr (drop (items n f.stack) g.stack) v u more (subst (AreSlots p m h (named_by g at) (length g.nodes) a.tr (drop (items n f.stack) g.stack)) e a.last)
      (subst (λ z. (k : ℕ) (y : Value) → slice_get z k ≡ Some y → is_long (peek a.tr k) ≡ is_wide y) e a.words) b c

  nothing_then : (n : ℕ) (va rest : List Value) (a : Off n f.stack g.stack va rest) → Off 0 a.tr (drop (items n f.stack) g.stack) [] rest
  nothing_then n va rest a = none_off p m h g at a.tr (drop (items n f.stack) g.stack) rest a.last a.words

  pub copies_left : (i : Instr) → IsStep p m pl to f f1 g g1 at h ls st below after i → (n k : ℕ) → row p m i ≡ type.Shuffles (Copies n k) → (deed p m g f i).graph ≡ record g { stack = shuffled (Copies n k) f.stack g.stack } →
      (va vb rest : List Value) (a : IsOff p m h g at n f.stack g.stack va (vb ++ rest)) → IsOff p m h g at k a.tr (drop (items n f.stack) g.stack) vb rest → Left p m f1 g1 h ls (va ++ (vb ++ (va ++ rest))) below
  copies_left i s n k is graph va vb rest a b =
      let c = copied_slots p m h g at n k f.stack g.stack va vb rest a b in
      shuffle_left p m pl to f f1 g g1 at h ls st below after i (Copies n k) s is graph (a.ta ++ (b.ta ++ (a.ta ++ b.tr))) (shuffled (Copies n k) f.stack g.stack) (va ++ (vb ++ (va ++ rest))) c.0 refl c.1

  pub pop2_h : IsStep p m pl to f f1 g g1 at h ls st below after instr.Pop2 → EI instr.Pop2 (does p m instr.Pop2 to ls st h)
  unfolding does row deed ends_path jump_targets
  pop2_h s = two_words_h (EI instr.Pop2) tt (λ c. tt) (λ c. tt) st (λ vs rest. Goes to ls rest h) (λ v rest e wide. (inl refl, left (v ∷ []) rest (two s.0 v rest e wide))) (λ v u rest e a b. (inl refl, left (v ∷ u ∷ []) rest (pair s.0 v u rest e a b)))
    where
      left : (va rest : List Value) → Off 2 f.stack g.stack va rest → Left p m f1 g1 h ls rest below
      left va rest a =
          let c = dropped_slots p m h g at 2 f.stack g.stack va rest a in
          shuffle_left p m pl to f f1 g g1 at h ls st below after instr.Pop2 (Drops 2) s refl refl a.tr (shuffled (Drops 2) f.stack g.stack) rest c.0 refl c.1

  pub dup_x1_h : IsStep p m pl to f f1 g g1 at h ls st below after instr.DupX1 → EI instr.DupX1 (does p m instr.DupX1 to ls st h)
  unfolding does row deed ends_path jump_targets
  dup_x1_h s = word_h (EI instr.DupX1) tt (λ c. tt) (λ c. tt) st _ (λ v under e a. word_h (EI instr.DupX1) tt (λ c. tt) (λ c. tt) under _ (λ w rest e' b.
      (inl refl, by v w rest (word s.0 v (w ∷ rest) (e ∙ ap (λ z. v ∷ z) e') a) b)))
    where
      by : (v w : Value) (rest : List Value) → Off 1 f.stack g.stack (v ∷ []) (w ∷ rest) → is_wide w ≡ false → Left p m f1 g1 h ls (v ∷ w ∷ v ∷ rest) below
      by v w rest a b = copies_left instr.DupX1 s 1 1 refl refl (v ∷ []) (w ∷ []) rest a (word_then 1 (v ∷ []) (w ∷ rest) a w rest refl b)

  pub dup_x2_h : IsStep p m pl to f f1 g g1 at h ls st below after instr.DupX2 → EI instr.DupX2 (does p m instr.DupX2 to ls st h)
  unfolding does row deed ends_path jump_targets
  dup_x2_h s = word_h (EI instr.DupX2) tt (λ c. tt) (λ c. tt) st _ (λ v under e a. two_words_h (EI instr.DupX2) tt (λ c. tt) (λ c. tt) under (λ ws rest. Goes to ls (v ∷ (ws ++ v ∷ rest)) h)
      (λ w rest e' wide. (inl refl, by_wide v w rest (word s.0 v (w ∷ rest) (e ∙ ap (λ z. v ∷ z) e') a) wide))
      (λ w u rest e' b c. (inl refl, by_pair v w u rest (word s.0 v (w ∷ u ∷ rest) (e ∙ ap (λ z. v ∷ z) e') a) b c)))
    where
      by_wide : (v w : Value) (rest : List Value) → Off 1 f.stack g.stack (v ∷ []) (w ∷ rest) → is_wide w ≡ true → Left p m f1 g1 h ls (v ∷ w ∷ v ∷ rest) below
      by_wide v w rest a b = copies_left instr.DupX2 s 1 2 refl refl (v ∷ []) (w ∷ []) rest a (two_then 1 (v ∷ []) (w ∷ rest) a w rest refl b)

      by_pair : (v w u : Value) (rest : List Value) → Off 1 f.stack g.stack (v ∷ []) (w ∷ u ∷ rest) → is_wide w ≡ false → is_wide u ≡ false → Left p m f1 g1 h ls (v ∷ w ∷ u ∷ v ∷ rest) below
      by_pair v w u rest a b c = copies_left instr.DupX2 s 1 2 refl refl (v ∷ []) (w ∷ u ∷ []) rest a (pair_then 1 (v ∷ []) (w ∷ u ∷ rest) a w u rest refl b c)

  pub dup2_h : IsStep p m pl to f f1 g g1 at h ls st below after instr.Dup2 → EI instr.Dup2 (does p m instr.Dup2 to ls st h)
  unfolding does row deed ends_path jump_targets
  dup2_h s = two_words_h (EI instr.Dup2) tt (λ c. tt) (λ c. tt) st (λ vs rest. Goes to ls (vs ++ (vs ++ rest)) h) (λ v rest e wide. (inl refl, by (v ∷ []) rest (two s.0 v rest e wide))) (λ v u rest e a b. (inl refl, by (v ∷ u ∷ []) rest (pair s.0 v u rest e a b)))
    where
      by : (va rest : List Value) → Off 2 f.stack g.stack va rest → Left p m f1 g1 h ls (va ++ (va ++ rest)) below
      by va rest a = copies_left instr.Dup2 s 2 0 refl refl va [] rest a (nothing_then 2 va rest a)

  pub dup2_x1_h : IsStep p m pl to f f1 g g1 at h ls st below after instr.Dup2X1 → EI instr.Dup2X1 (does p m instr.Dup2X1 to ls st h)
  unfolding does row deed ends_path jump_targets
  dup2_x1_h s = two_words_h (EI instr.Dup2X1) tt (λ c. tt) (λ c. tt) st (λ vs below'. on_word below' (λ w rest. Goes to ls (vs ++ w ∷ (vs ++ rest)) h))
      (λ v under e wide. word_h (EI instr.Dup2X1) tt (λ c. tt) (λ c. tt) under _ (λ w rest e' b. (inl refl, by (v ∷ []) w rest (two s.0 v (w ∷ rest) (e ∙ ap (λ z. v ∷ z) e') wide) b)))
      (λ v u under e a c. word_h (EI instr.Dup2X1) tt (λ c. tt) (λ c. tt) under _ (λ w rest e' b. (inl refl, by (v ∷ u ∷ []) w rest (pair s.0 v u (w ∷ rest) (e ∙ ap (λ z. v ∷ u ∷ z) e') a c) b)))
    where
      by : (va : List Value) (w : Value) (rest : List Value) → Off 2 f.stack g.stack va (w ∷ rest) → is_wide w ≡ false → Left p m f1 g1 h ls (va ++ (w ∷ (va ++ rest))) below
      by va w rest a b = copies_left instr.Dup2X1 s 2 1 refl refl va (w ∷ []) rest a (word_then 2 va (w ∷ rest) a w rest refl b)

  pub dup2_x2_h : IsStep p m pl to f f1 g g1 at h ls st below after instr.Dup2X2 → EI instr.Dup2X2 (does p m instr.Dup2X2 to ls st h)
  unfolding does row deed ends_path jump_targets
  dup2_x2_h s = two_words_h (EI instr.Dup2X2) tt (λ c. tt) (λ c. tt) st (λ vs below'. on_two_words below' (λ ws rest. Goes to ls (vs ++ (ws ++ (vs ++ rest))) h))
      (λ v under e wide. two_words_h (EI instr.Dup2X2) tt (λ c. tt) (λ c. tt) under (λ ws rest. Goes to ls ((v ∷ []) ++ (ws ++ ((v ∷ []) ++ rest))) h)
      (λ w rest e' b. (inl refl, by_wide (v ∷ []) w rest (two s.0 v (w ∷ rest) (e ∙ ap (λ z. v ∷ z) e') wide) b))
      (λ w y rest e' b d. (inl refl, by_pair (v ∷ []) w y rest (two s.0 v (w ∷ y ∷ rest) (e ∙ ap (λ z. v ∷ z) e') wide) b d)))
      (λ v u under e a c. two_words_h (EI instr.Dup2X2) tt (λ c. tt) (λ c. tt) under (λ ws rest. Goes to ls ((v ∷ u ∷ []) ++ (ws ++ ((v ∷ u ∷ []) ++ rest))) h)
      (λ w rest e' b. (inl refl, by_wide (v ∷ u ∷ []) w rest (pair s.0 v u (w ∷ rest) (e ∙ ap (λ z. v ∷ u ∷ z) e') a c) b))
      (λ w y rest e' b d. (inl refl, by_pair (v ∷ u ∷ []) w y rest (pair s.0 v u (w ∷ y ∷ rest) (e ∙ ap (λ z. v ∷ u ∷ z) e') a c) b d)))
    where
      by_wide : (va : List Value) (w : Value) (rest : List Value) → Off 2 f.stack g.stack va (w ∷ rest) → is_wide w ≡ true → Left p m f1 g1 h ls (va ++ (w ∷ (va ++ rest))) below
      by_wide va w rest a b = copies_left instr.Dup2X2 s 2 2 refl refl va (w ∷ []) rest a (two_then 2 va (w ∷ rest) a w rest refl b)

      by_pair : (va : List Value) (w y : Value) (rest : List Value) → Off 2 f.stack g.stack va (w ∷ y ∷ rest) → is_wide w ≡ false → is_wide y ≡ false → Left p m f1 g1 h ls (va ++ (w ∷ y ∷ (va ++ rest))) below
      by_pair va w y rest a b c = copies_left instr.Dup2X2 s 2 2 refl refl va (w ∷ y ∷ []) rest a (pair_then 2 va (w ∷ y ∷ rest) a w y rest refl b c)

  pub swap_h : IsStep p m pl to f f1 g g1 at h ls st below after instr.Swap → EI instr.Swap (does p m instr.Swap to ls st h)
  unfolding does row deed ends_path jump_targets
  swap_h s = word_h (EI instr.Swap) tt (λ c. tt) (λ c. tt) st _ (λ v under e a. word_h (EI instr.Swap) tt (λ c. tt) (λ c. tt) under _ (λ w rest e' b. (
    inl refl,
    by f.stack g.stack refl refl v w rest (subst (AreSlots p m h (named_by g at) (length g.nodes) f.stack g.stack) (e ∙ ap (λ z. v ∷ z) e') s.0.holds.slots.on_stack)
        (subst (λ z. (k : ℕ) (y : Value) → slice_get z k ≡ Some y → is_long (peek f.stack k) ≡ is_wide y) (e ∙ ap (λ z. v ∷ z) e') words) a b,
  )))
    where
      by : (ts : List VType) (xs : List (Option ℕ)) → f.stack ≡ ts → g.stack ≡ xs → (v w : Value) (rest : List Value) → AreSlots p m h (named_by g at) (length g.nodes) ts xs (v ∷ w ∷ rest) →
          ((k : ℕ) (y : Value) → slice_get (v ∷ w ∷ rest) k ≡ Some y → is_long (peek ts k) ≡ is_wide y) → is_wide v ≡ false → is_wide w ≡ false → Left p m f1 g1 h ls (w ∷ v ∷ rest) below
      by [] [] ef eg v w rest q ws a b = absurd q
      by [] (x ∷ xs) ef eg v w rest q ws a b = absurd q
      by (t ∷ ts) [] ef eg v w rest q ws a b = absurd q
      by (t ∷ []) (x ∷ []) ef eg v w rest q ws a b = absurd q.1
      by (t ∷ []) (x ∷ y ∷ xs) ef eg v w rest q ws a b = absurd q.1
      by (t ∷ u ∷ ts) (x ∷ []) ef eg v w rest q ws a b = absurd q.1
      by (t ∷ u ∷ ts) (x ∷ y ∷ xs) ef eg v w rest q ws a b = shuffle_left p m pl to f f1 g g1 at h ls st below after instr.Swap Swaps s refl refl (u ∷ t ∷ ts) (y ∷ x ∷ xs) (w ∷ v ∷ rest)
          (ap (type.shuffled Swaps) ef ∙ ap (λ z. then_off z (λ c under. then_off (off 1 under) (λ d more. Ok (d ++ (c ++ more))))) (off_one t (ws 0 v refl ∙ a) (u ∷ ts)).0
          ∙ ap (λ z. then_off z (λ d more. Ok (d ++ (t ∷ more)))) (off_one u (ws 1 w refl ∙ b) ts).0)
          (ap (λ z. shuffled Swaps f.stack z) eg) (q.1.0, (q.0, q.1.1))
