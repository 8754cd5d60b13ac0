-- The words of the table of instructions don't see names.
use Rattle.std.proofs.Common.{◌≡◌, ℕ, zero, suc, ℤ, pos, negsuc, Bool, true, false, not, cond, List, [], ◌∷◌, Option, Some, None, refl, sym, ap, subst, ◌∙◌, inl, inr}
use Rattle.std.specs.Prelude.{slice_get}
use Rattle.std.specs.FinMap.{get, insert}
use Rattle.std.proofs.lemmas.Bool.Decides.{eqb_tells}
use Rattle.kilim_program.specs.declared.ty.Ty.{Ty}
use Rattle.kilim_run_state.specs.declared.value.Object.{Object}
use Rattle.kilim_program.specs.declared.value.Value.{Value}
use Rattle.kilim_program.specs.declared.value.Value.TheVariants.{Int, Long, Null, Ref, Text, Box, Fiber}
use Rattle.kilim_program.specs.Program.{Program}
use Rattle.kilim_run_state.specs.Machine.{Objects}
use Rattle.kilim_run_machine.specs.Effect.{Effect, with_some, on_value, on_values, on_receiver, as_reference, as_receiver, as_int, as_long, on_int, on_two_ints, on_long, on_two_longs, is_wide, when, wide_or, on_word, on_two_words, on_reference, as_object, on_object, as_class, at_place, at_index, on_constant}
use Rattle.kilim_run_model.specs.kin.Kin.{Names, Owner, IsKin, AreKin, ObjectsKin, MaybeKin, IsHeld, AreHeld, IsThere, Alike, EffectKin}
use Rattle.kilim_lemmas.proofs.Maps.{put_there, put_other}
use Rattle.std.proofs.lemmas.Option.{same_Some}
use Rattle.kilim_run_model.proofs.kin.Kins.{kin_get}

module _ (good : ℕ → Type 0) (of : Names) (owner : ℕ → Owner) (t : ℕ) (h0 k0 : Objects) (alike : Alike of owner t k0 h0 k0) (there : (n : ℕ) → good n → IsThere h0 n) where
  abbrev pub EKin : Effect → Effect → Type 0
  EKin e d = EffectKin good of owner t h0 k0 e d

  abbrev pub Pair : Value → Value → Type 0
  Pair v w = IsKin of v w × IsHeld good v

  abbrev pub Stacks : List Value → List Value → Type 0
  Stacks vs ws = AreKin of vs ws × AreHeld good vs

  pub some_kin : {A : Type 0} (o : Option A) (go ho : A → Effect) → ((x : A) → EKin (go x) (ho x)) → EKin (with_some o go) (with_some o ho)
  some_kin None go ho k = tt
  some_kin (Some x) go ho k = k x

  pub slot_kin : (o q : Option Value) → MaybeKin of o q → (go ho : Value → Effect) → ((v w : Value) → IsKin of v w → EKin (go v) (ho w)) → EKin (with_some o go) (with_some q ho)
  slot_kin None None e go ho k = tt
  slot_kin (Some v) (Some w) e go ho k = k v w e
  slot_kin _ _ e go ho k = absurd e

  pub value_kin : (vs ws : List Value) → Stacks vs ws → (go ho : Value → List Value → Effect) → ((v w : Value) → Pair v w → (rs ss : List Value) → Stacks rs ss → EKin (go v rs) (ho w ss)) → EKin (on_value vs go) (on_value ws ho)
  value_kin [] [] e go ho k = tt
  value_kin (v ∷ vs) (w ∷ ws) e go ho k = k v w (e.0.0, e.1.0) vs ws (e.0.1, e.1.1)
  value_kin [] (w ∷ ws) e go ho k = absurd e.0
  value_kin (v ∷ vs) [] e go ho k = absurd e.0

  pub values_kin : (n : ℕ) (vs ws : List Value) → Stacks vs ws → (go ho : List Value → List Value → Effect) → ((xs ys : List Value) → Stacks xs ys → (rs ss : List Value) → Stacks rs ss → EKin (go xs rs) (ho ys ss)) → EKin (on_values n vs go) (on_values n ws ho)
  values_kin zero vs ws e go ho k = k [] [] (tt, tt) vs ws e
  values_kin (suc n) vs ws e go ho k = value_kin vs ws e _ _ (λ v w p rs ss r. values_kin n rs ss r _ _ (λ xs ys q as1 bs1 s. k (v ∷ xs) (w ∷ ys) ((p.0, q.0), (p.1, q.1)) as1 bs1 s))

  pub int_kin : (v w : Value) → IsKin of v w → (go ho : ℤ → Effect) → ((x : ℤ) → EKin (go x) (ho x)) → EKin (as_int v go) (as_int w ho)
  int_kin (Int a) (Int b) e go ho k = subst (λ (z : ℤ). EKin (go a) (ho z)) e (k a)
  int_kin (Long a) (Long b) e go ho k = tt
  int_kin Null Null e go ho k = tt
  int_kin (Ref a) (Ref b) e go ho k = tt
  int_kin (Text a) (Text b) e go ho k = tt
  int_kin (Box a) (Box b) e go ho k = tt
  int_kin Fiber Fiber e go ho k = tt
  int_kin _ _ e go ho k = absurd e

  pub long_kin : (v w : Value) → IsKin of v w → (go ho : ℤ → Effect) → ((x : ℤ) → EKin (go x) (ho x)) → EKin (as_long v go) (as_long w ho)
  long_kin (Int a) (Int b) e go ho k = tt
  long_kin (Long a) (Long b) e go ho k = subst (λ (z : ℤ). EKin (go a) (ho z)) e (k a)
  long_kin Null Null e go ho k = tt
  long_kin (Ref a) (Ref b) e go ho k = tt
  long_kin (Text a) (Text b) e go ho k = tt
  long_kin (Box a) (Box b) e go ho k = tt
  long_kin Fiber Fiber e go ho k = tt
  long_kin _ _ e go ho k = absurd e

  pub on_int_kin : (vs ws : List Value) → Stacks vs ws → (go ho : ℤ → List Value → Effect) → ((x : ℤ) (rs ss : List Value) → Stacks rs ss → EKin (go x rs) (ho x ss)) → EKin (on_int vs go) (on_int ws ho)
  on_int_kin vs ws e go ho k = value_kin vs ws e _ _ (λ v w p rs ss r. int_kin v w p.0 _ _ (λ x. k x rs ss r))

  pub on_two_ints_kin : (vs ws : List Value) → Stacks vs ws → (go ho : ℤ → ℤ → List Value → Effect) → ((x y : ℤ) (rs ss : List Value) → Stacks rs ss → EKin (go x y rs) (ho x y ss)) → EKin (on_two_ints vs go) (on_two_ints ws ho)
  on_two_ints_kin vs ws e go ho k = on_int_kin vs ws e _ _ (λ y as1 bs1 r. on_int_kin as1 bs1 r _ _ (λ x rs ss s. k x y rs ss s))

  pub on_long_kin : (vs ws : List Value) → Stacks vs ws → (go ho : ℤ → List Value → Effect) → ((x : ℤ) (rs ss : List Value) → Stacks rs ss → EKin (go x rs) (ho x ss)) → EKin (on_long vs go) (on_long ws ho)
  on_long_kin vs ws e go ho k = value_kin vs ws e _ _ (λ v w p rs ss r. long_kin v w p.0 _ _ (λ x. k x rs ss r))

  pub on_two_longs_kin : (vs ws : List Value) → Stacks vs ws → (go ho : ℤ → ℤ → List Value → Effect) → ((x y : ℤ) (rs ss : List Value) → Stacks rs ss → EKin (go x y rs) (ho x y ss)) → EKin (on_two_longs vs go) (on_two_longs ws ho)
  on_two_longs_kin vs ws e go ho k = on_long_kin vs ws e _ _ (λ y as1 bs1 r. on_long_kin as1 bs1 r _ _ (λ x rs ss s. k x y rs ss s))

  -- ---- references

  pub reference_kin : (v w : Value) → IsKin of v w → (go ho : Value → Effect) → (IsKin of v w → EKin (go v) (ho w)) → EKin (as_reference v go) (as_reference w ho)
  reference_kin (Int a) (Int b) e go ho k = tt
  reference_kin (Long a) (Long b) e go ho k = tt
  reference_kin Null Null e go ho k = k e
  reference_kin (Ref a) (Ref b) e go ho k = k e
  reference_kin (Text a) (Text b) e go ho k = k e
  reference_kin (Box a) (Box b) e go ho k = k e
  reference_kin Fiber Fiber e go ho k = k e
  reference_kin _ _ e go ho k = absurd e

  pub receiver_kin : (v w : Value) → IsKin of v w → (go ho : Value → Effect) → (IsKin of v w → EKin (go v) (ho w)) → EKin (as_receiver v go) (as_receiver w ho)
  receiver_kin (Int a) (Int b) e go ho k = tt
  receiver_kin (Long a) (Long b) e go ho k = tt
  receiver_kin Null Null e go ho k = refl
  receiver_kin (Ref a) (Ref b) e go ho k = k e
  receiver_kin (Text a) (Text b) e go ho k = k e
  receiver_kin (Box a) (Box b) e go ho k = k e
  receiver_kin Fiber Fiber e go ho k = k e
  receiver_kin _ _ e go ho k = absurd e

  pub on_reference_kin : (vs ws : List Value) → Stacks vs ws → (go ho : Value → List Value → Effect) → ((v w : Value) → Pair v w → (rs ss : List Value) → Stacks rs ss → EKin (go v rs) (ho w ss)) → EKin (on_reference vs go) (on_reference ws ho)
  on_reference_kin vs ws e go ho k = value_kin vs ws e _ _ (λ v w p rs ss r. reference_kin v w p.0 _ _ (λ d. k v w p rs ss r))

  pub on_receiver_kin : (vs ws : List Value) → Stacks vs ws → (go ho : Value → List Value → Effect) → ((v w : Value) → Pair v w → (rs ss : List Value) → Stacks rs ss → EKin (go v rs) (ho w ss)) → EKin (on_receiver vs go) (on_receiver ws ho)
  on_receiver_kin vs ws e go ho k = value_kin vs ws e _ _ (λ v w p rs ss r. receiver_kin v w p.0 _ _ (λ d. k v w p rs ss r))

  -- ---- words of the stack

  wide_same : (v w : Value) → IsKin of v w → is_wide v ≡ is_wide w
  wide_same (Int a) (Int b) e = refl
  wide_same (Long a) (Long b) e = refl
  wide_same Null Null e = refl
  wide_same (Ref a) (Ref b) e = refl
  wide_same (Text a) (Text b) e = refl
  wide_same (Box a) (Box b) e = refl
  wide_same Fiber Fiber e = refl
  wide_same _ _ e = absurd e

  pub when_kin : (b c : Bool) → b ≡ c → (e d : Effect) → EKin e d → EKin (when b e) (when c d)
  when_kin true true s e d k = k
  when_kin false false s e d k = tt
  when_kin true false s e d k = absurd (cc)
  when_kin false true s e d k = absurd (cc)

  wide_kin : (b c : Bool) → b ≡ c → (e d x y : Effect) → EKin e d → EKin x y → EKin (wide_or b e x) (wide_or c d y)
  wide_kin true true s e d x y k l = k
  wide_kin false false s e d x y k l = l
  wide_kin true false s e d x y k l = absurd (cc)
  wide_kin false true s e d x y k l = absurd (cc)

  pub word_kin : (vs ws : List Value) → Stacks vs ws → (go ho : Value → List Value → Effect) → ((v w : Value) → Pair v w → (rs ss : List Value) → Stacks rs ss → EKin (go v rs) (ho w ss)) → EKin (on_word vs go) (on_word ws ho)
  word_kin vs ws e go ho k = value_kin vs ws e _ _ (λ v w p rs ss r. when_kin (not (is_wide v)) (not (is_wide w)) (ap not (wide_same v w p.0)) (go v rs) (ho w ss) (k v w p rs ss r))

  pub two_words_kin : (vs ws : List Value) → Stacks vs ws → (go ho : List Value → List Value → Effect) → ((xs ys : List Value) → AreKin of xs ys → (rs ss : List Value) → Stacks rs ss → EKin (go xs rs) (ho ys ss)) → EKin (on_two_words vs go) (on_two_words ws ho)
  two_words_kin vs ws e go ho k = value_kin vs ws e _ _ (λ v w p rs ss r.
      wide_kin (is_wide v) (is_wide w) (wide_same v w p.0) (go (v ∷ []) rs) (ho (w ∷ []) ss) (on_word rs (λ x below. go (v ∷ x ∷ []) below)) (on_word ss (λ x below. ho (w ∷ x ∷ []) below))
      (k (v ∷ []) (w ∷ []) (p.0, tt) rs ss r)
      (word_kin rs ss r (λ x below. go (v ∷ x ∷ []) below) (λ x below. ho (w ∷ x ∷ []) below) (λ x y q ts us u. k (v ∷ x ∷ []) (w ∷ y ∷ []) (p.0, (q.0, tt)) ts us u)))

  -- ---- objects

  -- the two objects of a name
  pub both_there : (n x : ℕ) → of n ≡ Some x → (o : Object) → get h0 n ≡ Some o → (q : Object) × (get k0 x ≡ Some q) × ObjectsKin of o q
  both_there n x e o is = let s = alike.same n o is in (s.1, ap (get k0) (same_Some _ _ (sym e ∙ s.2)) ∙ s.3, s.4)

  -- an object that is written
  abbrev pub Held : ℕ → ℕ → Object → Object → Type 0
  Held n x o q = (of n ≡ Some x) × (get h0 n ≡ Some o) × (get k0 x ≡ Some q) × ObjectsKin of o q

  pub at_object_kin : (v w : Value) → Pair v w → (go ho : ℕ → Object → Effect) → ((n x : ℕ) (o q : Object) → Held n x o q → EKin (go n o) (ho x q)) → EKin (as_object v h0 go) (as_object w k0 ho)
  at_object_kin (Int a) (Int b) e go ho k = tt
  at_object_kin (Long a) (Long b) e go ho k = tt
  at_object_kin Null Null e go ho k = refl
  at_object_kin (Ref n) (Ref x) e go ho k =
      let o = there n e.1 in
      let b = both_there n x e.0 o.0 o.1 in
      subst (λ (z : Option Object). EKin (with_some z (λ o. go n o)) (with_some (get k0 x) (λ q. ho x q))) (sym o.1)
      (subst (λ (z : Option Object). EKin (go n o.0) (with_some z (λ q. ho x q))) (sym b.1) (k n x o.0 b.0 (e.0, o.1, b.1, b.2)))
  at_object_kin (Text a) (Text b) e go ho k = tt
  at_object_kin (Box a) (Box b) e go ho k = tt
  at_object_kin Fiber Fiber e go ho k = tt
  at_object_kin _ _ e go ho k = absurd e.0

  pub object_kin : (vs ws : List Value) → Stacks vs ws → (go ho : ℕ → Object → List Value → Effect) → ((n x : ℕ) (o q : Object) → Held n x o q → (rs ss : List Value) → Stacks rs ss → EKin (go n o rs) (ho x q ss)) →
      EKin (on_object vs h0 go) (on_object ws k0 ho)
  object_kin vs ws e go ho k = value_kin vs ws e _ _ (λ v w p rs ss r. at_object_kin v w p _ _ (λ n x o q held. k n x o q held rs ss r))

  pub class_kin : (p : Program) (v w : Value) → Pair v w → (go ho : Option Ty → Effect) → ((c : Option Ty) → EKin (go c) (ho c)) → EKin (as_class p v h0 go) (as_class p w k0 ho)
  class_kin p (Int a) (Int b) e go ho k = tt
  class_kin p (Long a) (Long b) e go ho k = tt
  class_kin p Null Null e go ho k = k None
  class_kin p (Ref n) (Ref x) e go ho k =
      let o = there n e.1 in
      let b = both_there n x e.0 o.0 o.1 in
      subst (λ (z : Option Object). EKin (with_some z (λ o. go (Some o.class))) (with_some (get k0 x) (λ q. ho (Some q.class)))) (sym o.1)
      (subst (λ (z : Option Object). EKin (go (Some o.0.class)) (with_some z (λ q. ho (Some q.class)))) (sym b.1) (subst (λ (z : Ty). EKin (go (Some o.0.class)) (ho (Some z))) b.2.class (k (Some o.0.class))))
  class_kin p (Text a) (Text b) e go ho k = k _
  class_kin p (Box a) (Box b) e go ho k = k _
  class_kin p Fiber Fiber e go ho k = k _
  class_kin p _ _ e go ho k = absurd e.0

  place_kin : (o q : Option Value) → MaybeKin of o q → (go ho : Value → Effect) → ((v w : Value) → IsKin of v w → EKin (go v) (ho w)) → EKin (at_place o go) (at_place q ho)
  place_kin None None e go ho k = refl
  place_kin (Some v) (Some w) e go ho k = k v w e
  place_kin _ _ e go ho k = absurd e

  pub index_kin : (es ds : List Value) → AreKin of es ds → (i : ℤ) (go ho : ℕ → Value → Effect) → ((k : ℕ) (v w : Value) → IsKin of v w → EKin (go k v) (ho k w)) → EKin (at_index es i go) (at_index ds i ho)
  index_kin es ds e (pos i) go ho k = place_kin (slice_get es i) (slice_get ds i) (kin_get of es ds i e) (go i) (ho i) (k i)
  index_kin es ds e (negsuc i) go ho k = refl

  pub cond_kin : (b : Bool) (e d x y : Effect) → EKin e d → EKin x y → EKin (cond b e x) (cond b d y)
  cond_kin true e d x y k l = k
  cond_kin false e d x y k l = l

  pub constant_kin : (v : Value) (go ho : Value → Effect) → ((w : Value) → IsKin of w w → EKin (go w) (ho w)) → EKin (on_constant v go) (on_constant v ho)
  constant_kin (Int a) go ho k = k (Int a) refl
  constant_kin (Long a) go ho k = k (Long a) refl
  constant_kin (Text a) go ho k = k (Text a) refl
  constant_kin Null go ho k = tt
  constant_kin (Ref n) go ho k = tt
  constant_kin (Box a) go ho k = tt
  constant_kin Fiber go ho k = tt

  -- both write an object of the thread's
  pub written : (n x : ℕ) (o q : Object) → Held n x o q → (r u : Object) → ObjectsKin of r u → Alike of owner t k0 (insert h0 n r) (insert k0 x u)
  written n x o q held r u kin =
      let mine = alike.same n o held.1 in
      let is_x : mine.0 ≡ x = same_Some _ _ (sym mine.2 ∙ held.0) in
      let was : (m : ℕ) (v : Object) → get (insert h0 n r) m ≡ Some v → (w : Object) × (get h0 m ≡ Some w) = λ m v e. elim (eqb_tells m n) [
        | inl d ↦ (o, ap (get h0) d.1 ∙ held.1)
        | inr d ↦ (v, sym (put_other h0 n r m d.1) ∙ e)
      ] in
      record {
        same = λ m v e. elim (eqb_tells m n) [
          | inl d ↦ (x, u, ap of d.1 ∙ held.0, put_there k0 x u, subst (λ (z : Object). ObjectsKin of z u) (same_Some _ _ (sym (put_there h0 n r) ∙ (ap (get (insert h0 n r)) (sym d.1) ∙ e))) kin, ap owner (sym is_x) ∙ mine.5)
          | inr d ↦
              let before = sym (put_other h0 n r m d.1) ∙ e in
              let s = alike.same m v before in
              (s.0, s.1, s.2, put_other k0 x u s.0 (λ z. d.1 (alike.apart m n x v o (s.2 ∙ ap Some z) held.0 before held.1)) ∙ s.3, s.4, s.5)
        ];
        apart = λ m l y v w c d e f. let a = was m v e in let b = was l w f in alike.apart m l y a.0 b.0 c d a.1 b.1;
        rest = λ y. elim (eqb_tells y x) [
          | inl d ↦ inr (ap owner (d.1 ∙ sym is_x) ∙ mine.5)
          | inr d ↦ elim (alike.rest y) [ inl z ↦ inl (put_other k0 x u y d.1 ∙ z) | inr z ↦ inr z ]
        ];
      }
