-- What stays of reading, whatever follows: for numbers and bytes, and for readers that are put together.
use Rattle.std.proofs.Common.{◌≡◌, ◌≢◌, ◌⊎◌, ℕ, zero, suc, ◌≤◌, Bool, true, false, ltb, List, [], ◌∷◌, ◌++◌, length, take, drop, Result, Ok, Err, refl, sym, ap, subst, ◌∙◌, append_assoc, arith, inl, inr}
use Rattle.std.specs.Prelude.{if◌then◌else◌}
use Rattle.std.specs.Int.{Width, byte_len, from_be_bytes, cast_signed}
use Rattle.std.proofs.lemmas.Bool.{cases_lt, lt-ltb, le-ltb}
use Rattle.std.proofs.lemmas.List.{append-nil, length-append, length-take, take-append-drop, take_at, drop_at}
use Rattle.kilim_class_grammar.specs.Reader.{Reader, ◌>>=◌, checked, number_at, signed_at, bytes_at, given, both, followed, made, tested, with_fault, refaulted, many, counted}
use Rattle.kilim_class_grammar.proofs.Formats.{Format, well, well_is}
use Rattle.kilim_class_grammar.specs.Fronts.{Stays, StaysRead, CutOrBroken, Faults, FaultsOf}

-- ---- steps

module _ {F : Type 0} (IsCut : F → Type 0) (more : List ℕ) where
  -- one part and then others
  pub then_stays : {A B : Type 0} (r longer : Result (A × List ℕ) F) (f g : A × List ℕ → Result (B × List ℕ) F) → Stays IsCut more r longer
      → ((x : A) (rest : List ℕ) → Stays IsCut more (f (x, rest)) (g (x, rest ++ more))) → Stays IsCut more (r >>= f) (longer >>= g)
  then_stays (Ok x) longer f g h other = rw h (other x.0 x.1)
  then_stays (Err fault) longer f g (inl cut) other = inl cut
  then_stays (Err fault) longer f g (inr h) other = inr (rw h refl)

  -- a step that reads nothing
  pub also_stays : {A B : Type 0} (r : Result A F) (f g : A → Result (B × List ℕ) F) → ((x : A) → Stays IsCut more (f x) (g x)) → Stays IsCut more (r >>= f) (r >>= g)
  also_stays (Ok x) f g other = other x
  also_stays (Err fault) f g other = inr refl

  pub checked_stays : {A : Type 0} (test : Bool) (fault : F) (r longer : Result (A × List ℕ) F) → Stays IsCut more r longer → Stays IsCut more (checked test fault r) (checked test fault longer)
  checked_stays true fault r longer h = h
  checked_stays false fault r longer h = inr refl

  pub choice_stays : {A : Type 0} (test : Bool) (r other longer longer_other : Result (A × List ℕ) F) → Stays IsCut more r longer → Stays IsCut more other longer_other
      → Stays IsCut more (if test then r else other) (if test then longer else longer_other)
  choice_stays true r other longer longer_other h g = h
  choice_stays false r other longer longer_other h g = g

  -- the faults in other words, which may differ where the bytes are cut
  module _ {G : Type 0} (IsCutThere : G → Type 0) (to to_longer : G → F) (cut : (fault : G) → IsCutThere fault → IsCut (to fault)) (same : (fault : G) → IsCut (to fault) ⊎ (to_longer fault ≡ to fault)) where
    in_words : {A : Type 0} (fault : G) → IsCut (to fault) ⊎ (to_longer fault ≡ to fault) → Stays IsCut more (with_fault {A = A × List ℕ} to (Err fault)) (with_fault to_longer (Err fault))
    in_words fault (inl is_cut) = inl is_cut
    in_words fault (inr e) = inr (ap (λ f. Err f) e)

    pub with_fault_stays : {A : Type 0} (r longer : Result (A × List ℕ) G) → Stays IsCutThere more r longer → Stays IsCut more (with_fault to r) (with_fault to_longer longer)
    with_fault_stays (Ok x) longer h = rw h refl
    with_fault_stays (Err fault) longer (inl is_cut) = inl (cut fault is_cut)
    with_fault_stays (Err fault) longer (inr h) = rw h (in_words fault (same fault))

-- ---- numbers and bytes

module _ (n : ℕ) (bytes more : List ℕ) (le : n ≤ length bytes) where
  take_front : take n (bytes ++ more) ≡ take n bytes
  take_front =
      ap (λ (front : List ℕ). take n (front ++ more)) (sym (take-append-drop n bytes))
      ∙ (ap (take n) (append_assoc (take n bytes) (drop n bytes) more) ∙ take_at (take n bytes) (drop n bytes ++ more) n (omega (arith, length-take n bytes)))

  drop_front : drop n (bytes ++ more) ≡ drop n bytes ++ more
  drop_front =
      ap (λ (front : List ℕ). drop n (front ++ more)) (sym (take-append-drop n bytes))
      ∙ (ap (drop n) (append_assoc (take n bytes) (drop n bytes) more) ∙ drop_at (take n bytes) (drop n bytes ++ more) n (omega (arith, length-take n bytes)))

module _ {F : Type 0} (IsCut : F → Type 0) (cut cut_longer : F) (is_cut : IsCut cut) where
  -- so many bytes, and what is made of them
  front_stays : {A : Type 0} (make : List ℕ → A) (n : ℕ) → StaysRead IsCut (λ bytes. if ltb (length bytes) n then Err cut else Ok (make (take n bytes), drop n bytes)) (λ bytes. if ltb (length bytes) n then Err cut_longer else Ok (make (take n bytes), drop n bytes))
  front_stays make n bytes more =
      elim (cases_lt (length bytes) n) [
        | inl short ↦ rw (lt-ltb _ _ short) (inl is_cut)
        | inr long ↦ rw (le-ltb _ _ long, le-ltb (length (bytes ++ more)) n (omega (arith, length-append bytes more)), take_front n bytes more long, drop_front n bytes more long) refl
      ]

  pub bytes_stay : (n : ℕ) → StaysRead IsCut (bytes_at cut n) (bytes_at cut_longer n)
  bytes_stay n = front_stays (λ xs. xs) n

  pub number_stays : (w : Width) → StaysRead IsCut (number_at cut w) (number_at cut_longer w)
  number_stays w = front_stays (from_be_bytes w) (byte_len w)

  pub signed_stays : (w : Width) → StaysRead IsCut (signed_at cut w) (signed_at cut_longer w)
  signed_stays w bytes more = then_stays IsCut more (number_at cut w bytes) (number_at cut_longer w (bytes ++ more)) _ _ (number_stays w bytes more) (λ n rest. refl)

-- ---- readers put together

module _ {F A : Type 0} (IsCut : F → Type 0) (one longer : Reader F A) (stays : StaysRead IsCut one longer) where
  pub both_stay : {B : Type 0} (other other_longer : Reader F B) → StaysRead IsCut other other_longer → StaysRead IsCut (both one other) (both longer other_longer)
  both_stay other other_longer h bytes more =
      then_stays IsCut more (one bytes) (longer (bytes ++ more)) _ _ (stays bytes more)
      (λ x rest. then_stays IsCut more (other rest) (other_longer (rest ++ more)) _ _ (h rest more) (λ y after. refl))

  pub followed_stays : {B : Type 0} (other other_longer : A → Reader F B) → ((x : A) → StaysRead IsCut (other x) (other_longer x)) → StaysRead IsCut (followed one other) (followed longer other_longer)
  followed_stays other other_longer h bytes more =
      then_stays IsCut more (one bytes) (longer (bytes ++ more)) _ _ (stays bytes more)
      (λ x rest. then_stays IsCut more (other x rest) (other_longer x (rest ++ more)) _ _ (h x rest more) (λ y after. refl))

  pub made_stays : {B : Type 0} (make : A → B) → StaysRead IsCut (made make one) (made make longer)
  made_stays make bytes more = then_stays IsCut more (one bytes) (longer (bytes ++ more)) _ _ (stays bytes more) (λ x rest. refl)

  pub tested_stays : (test : A → Bool) (fault : A → F) → StaysRead IsCut (tested test fault one) (tested test fault longer)
  tested_stays test fault bytes more =
      then_stays IsCut more (one bytes) (longer (bytes ++ more)) _ _ (stays bytes more) (λ x rest. checked_stays IsCut more (test x) (fault x) _ _ refl)

  pub many_stay : (n : ℕ) → StaysRead IsCut (many one n) (many longer n)
  unfolding many
  many_stay zero bytes more = refl
  many_stay (suc n) bytes more =
      then_stays IsCut more (one bytes) (longer (bytes ++ more)) _ _ (stays bytes more)
      (λ x rest. then_stays IsCut more (many one n rest) (many longer n (rest ++ more)) _ _ (many_stay n rest more) (λ xs after. refl))

  pub counted_stay : (cut cut_longer : F) (is_cut : IsCut cut) (w : Width) → StaysRead IsCut (counted cut w one) (counted cut_longer w longer)
  counted_stay cut cut_longer is_cut w bytes more =
      then_stays IsCut more (number_at cut w bytes) (number_at cut_longer w (bytes ++ more)) _ _ (number_stays IsCut cut cut_longer is_cut w bytes more) (λ n rest. many_stay n rest more)

-- the faults in other words
pub refaulted_stays : {F G A : Type 0} (IsCut : F → Type 0) (IsCutThere : G → Type 0) (to to_longer : G → F) (cut : (fault : G) → IsCutThere fault → IsCut (to fault)) (same : (fault : G) → IsCut (to fault) ⊎ (to_longer fault ≡ to fault))
    (one longer : Reader G A) → StaysRead IsCutThere one longer → StaysRead IsCut (refaulted to one) (refaulted to_longer longer)
refaulted_stays IsCut IsCutThere to to_longer cut same one longer stays bytes more = with_fault_stays IsCut more IsCutThere to to_longer cut same (one bytes) (longer (bytes ++ more)) (stays bytes more)

-- ---- a proper front of what is read whole is cut

no_rest : (rest more : List ℕ) → [] ≡ rest ++ more → more ≡ []
no_rest [] more e = sym e
no_rest (b ∷ rest) more e = absurd cc

same_rest : {F A : Type 0} (x y : A × List ℕ) → well {F = F} x ≡ well y → x.1 ≡ y.1
same_rest {F} {A} x y e = ap (λ (p : A × List ℕ). p.1) (well_is {F = F} x y e)

abbrev pub faulty : {F A : Type 0} → F → Result A F
faulty fault = Err fault

pub fault_is : {F A : Type 0} (e f : F) → faulty {A = A} e ≡ faulty f → e ≡ f
fault_is e f h = cc

module _ {F A : Type 0} (IsCut : F → Type 0) (more : List ℕ) (some : more ≢ []) (x : A) where
  -- `whole` is what is answered of all of the bytes
  pub front_is_cut : (r whole : Result (A × List ℕ) F) → Stays IsCut more r whole → whole ≡ Ok (x, []) → (fault : F) × (r ≡ Err fault) × IsCut fault
  front_is_cut (Ok y) whole h e = absurd (some (no_rest y.1 more (same_rest (x, []) (y.0, y.1 ++ more) (sym e ∙ h))))
  front_is_cut (Err fault) whole (inl cut) e = (fault, refl, cut)
  front_is_cut (Err fault) whole (inr h) e = absurd (let f : Err fault ≡ Ok (x, []) = sym h ∙ e in cc)

module _ {F A : Type 0} {text : A → List ℕ} {at : Reader F A} {Fits : A → Type 0} (one : Format text at Fits) (cut : F) (stays : StaysRead (λ fault. fault ≡ cut) at at) where
  fronts : (x : A) (front more : List ℕ) → Fits x → text x ≡ front ++ more → more ≢ [] → at front ≡ Err cut
  fronts x front more fits e some =
      let whole : at (front ++ more) ≡ Ok (x, []) = ap at (sym e ∙ sym (append-nil (text x))) ∙ one.again x [] fits in
      let f = front_is_cut (λ fault. fault ≡ cut) more some x (at front) (at (front ++ more)) (stays front more) whole in
      f.1 ∙ ap (λ fault. Err fault) f.2

  broken_by : (bytes more : List ℕ) (fault : F) (r : Result (A × List ℕ) F) → Stays (λ fault. fault ≡ cut) more r (at (bytes ++ more)) → r ≡ Err fault → (fault ≡ cut) ⊎ (at (bytes ++ more) ≡ Err fault)
  broken_by bytes more fault (Ok x) h e = absurd cc
  broken_by bytes more fault (Err found) h e = subst (λ f. (f ≡ cut) ⊎ (at (bytes ++ more) ≡ Err f)) (fault_is {A = A × List ℕ} found fault e) h

  pub cut_or_broken : CutOrBroken text at Fits cut
  cut_or_broken = record { fronts = fronts; broken = λ bytes more fault e. broken_by bytes more fault (at bytes) (stays bytes more) e }

-- ---- each fault is of a sort

module _ {F : Type 0} (Is : F → Type 0) where
  pub then_faults : {A B : Type 0} (r : Result A F) (f : A → Result B F) → Faults Is r → ((x : A) → Faults Is (f x)) → Faults Is (r >>= f)
  then_faults (Ok x) f h other = other x
  then_faults (Err fault) f h other = h

  pub checked_faults : {A : Type 0} (test : Bool) (fault : F) (r : Result A F) → Is fault → Faults Is r → Faults Is (checked test fault r)
  checked_faults true fault r is h = h
  checked_faults false fault r is h = is

  pub number_faults : (cut : F) (is : Is cut) (w : Width) → FaultsOf Is (number_at cut w)
  number_faults cut is w bytes = elim (cases_lt (length bytes) (byte_len w)) [
    | inl short ↦ rw (lt-ltb _ _ short) is
    | inr long ↦ rw (le-ltb _ _ long) tt
  ]

  module _ {G : Type 0} (to : G → F) (is : (fault : G) → Is (to fault)) where
    with_faults : {A : Type 0} (r : Result A G) → Faults Is (with_fault to r)
    with_faults (Ok x) = tt
    with_faults (Err fault) = is fault

    pub refaulted_faults : {A : Type 0} (one : Reader G A) → FaultsOf Is (refaulted to one)
    refaulted_faults one bytes = with_faults (one bytes)

  module _ {A : Type 0} (one : Reader F A) (faults : FaultsOf Is one) where
    pub both_faults : {B : Type 0} (other : Reader F B) → FaultsOf Is other → FaultsOf Is (both one other)
    both_faults other h bytes = then_faults (one bytes) _ (faults bytes) (λ x. then_faults (other x.1) _ (h x.1) (λ y. tt))

    pub followed_faults : {B : Type 0} (other : A → Reader F B) → ((x : A) → FaultsOf Is (other x)) → FaultsOf Is (followed one other)
    followed_faults other h bytes = then_faults (one bytes) _ (faults bytes) (λ x. then_faults (other x.0 x.1) _ (h x.0 x.1) (λ y. tt))

    pub made_faults : {B : Type 0} (make : A → B) → FaultsOf Is (made make one)
    made_faults make bytes = then_faults (one bytes) _ (faults bytes) (λ x. tt)

    pub tested_faults : (test : A → Bool) (fault : A → F) → ((x : A) → Is (fault x)) → FaultsOf Is (tested test fault one)
    tested_faults test fault is bytes = then_faults (one bytes) _ (faults bytes) (λ x. checked_faults (test x.0) (fault x.0) (Ok x) (is x.0) tt)

    pub many_faults : (n : ℕ) → FaultsOf Is (many one n)
    unfolding many
    many_faults zero bytes = tt
    many_faults (suc n) bytes = then_faults (one bytes) _ (faults bytes) (λ x. then_faults (many one n x.1) _ (many_faults n x.1) (λ xs. tt))

    pub counted_faults : (cut : F) (is : Is cut) (w : Width) → FaultsOf Is (counted cut w one)
    counted_faults cut is w bytes = then_faults (number_at cut w bytes) _ (number_faults cut is w bytes) (λ n. many_faults n.0 n.1)
