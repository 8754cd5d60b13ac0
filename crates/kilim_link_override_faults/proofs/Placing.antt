-- The numbers of methods say where the nearest ones stand.
use Rattle.std.proofs.Common.{◌≡◌, ℕ, zero, suc, ◌+◌, Bool, true, ◌<◌, List, [], ◌∷◌, ◌++◌, length, get_or, drop, filter, Option, Some, None, refl, sym, ap, ◌∙◌, subst, arith, append_assoc}
use Rattle.std.specs.Prelude.{◌==◌, if◌then◌else◌, option_map, is_some, slice_get}
use Rattle.std.specs.List.{list_any, position_from}
use Rattle.std.specs.Option.{option_and_then, option_or}
use Rattle.std.proofs.lemmas.Bool.{eq-eqb, eqb-true}
use Rattle.std.proofs.lemmas.List.{length-append}
use Rattle.kilim_lemmas.proofs.Lists.{drop_at}
use Rattle.kilim_program.specs.declared.names.ClassId.{ClassId}
use Rattle.kilim_program.specs.BuiltIn.{class_id}
use Rattle.kilim_program.specs.Keeps.{ancestors_of}
use Rattle.kilim_program.specs.Names.{line_of}
use Rattle.kilim_link_spec.specs.declared.view.ClassView.{ClassView}
use Rattle.kilim_link_spec.specs.declared.view.DeclaredMethod.{DeclaredMethod}
use Rattle.kilim_link_spec.specs.Linked.{first_of}
use Rattle.kilim_link_spec.specs.World.{World, declared_methods, methods_at, is_method}
use Rattle.kilim_link_inherited.specs.Inherited.{said_or}
use Rattle.kilim_link_inherited.specs.declared.nearest.Nearest.{Nearest}
use Rattle.kilim_link_inherited.specs.declared.said.Said.{Said}
use Rattle.kilim_link_inherited.specs.Nearest.{said_by, said_of, says}
use Rattle.kilim_link_override_faults.specs.declared.heritage.Heritage.{Heritage}
use Rattle.kilim_link_override_faults.specs.declared.heritage.Place.{Place}
use Rattle.kilim_link_override_faults.specs.Parts.{is_shared, shared_as, stands_in}
use Rattle.kilim_link_override_faults.specs.Heritage.{Finds, Places, Inherits, first_said, first_shared, first_declared, first_place, nearest_place, own_at, placed, numbered, places_in, all_numbered, all_places}
use Rattle.kilim_link_override_faults.proofs.Places.{there}
use Rattle.kilim_link_override_faults.proofs.Truth.{cases}

-- ---- positions

module _ {A : Type 0} (test : A → Bool) where
  found_at : (before xs : List A) (k : ℕ) → k ≡ length before → option_and_then (slice_get (before ++ xs)) (position_from test k xs) ≡ first_of (filter test xs)
  found_at before [] k n = refl
  found_at before (x ∷ xs) k n =
      let grown : (before ++ x ∷ []) ++ xs ≡ before ++ x ∷ xs = append_assoc before (x ∷ []) xs in
      let len : k + 1 ≡ length (before ++ x ∷ []) = ap (λ (j : ℕ). j + 1) n ∙ sym (length-append before (x ∷ [])) in
      cases (test x)
      (λ is. rw is (ap (slice_get (before ++ x ∷ xs)) n ∙ there before x xs))
      (λ isnt. rw isnt (ap (λ (ys : List A). option_and_then (slice_get ys) (position_from test (k + 1) xs)) (sym grown) ∙ found_at (before ++ x ∷ []) xs (k + 1) len))

  some_position : (xs : List A) (k : ℕ) → list_any test xs ≡ is_some (position_from test k xs)
  some_position [] k = refl
  some_position (x ∷ xs) k = cases (test x) (λ is. rw is refl) (λ isnt. rw isnt (some_position xs (k + 1)))

-- ---- what is said and where it stands

-- a number that is said stands for that place
abbrev Told : List Place → Option (Option ℕ) → Option Place → Type 0
Told places None None = Unit {0}
Told places None (Some p) = ⊥
Told places (Some None) p = ⊥
Told places (Some (Some n)) None = ⊥
Told places (Some (Some n)) (Some p) = slice_get places n ≡ Some p

told_or : (places : List Place) (s : Option (Option ℕ)) (p : Option Place) (later : Option ℕ) (rest : Option Place) → Told places s p → option_and_then (slice_get places) later ≡ rest
    → option_and_then (slice_get places) (said_or s later) ≡ option_or p rest
told_or places None None later rest t e = e
told_or places None (Some p) later rest t e = absurd t
told_or places (Some None) p later rest t e = absurd t
told_or places (Some (Some n)) None later rest t e = absurd t
told_or places (Some (Some n)) (Some p) later rest t e = t

-- in a class, at an index
abbrev place_at : ClassId → ℕ → Place
place_at c i = record { class = c; index = i }

places_length : (c : ClassId) (i : ℕ) (ms : List DeclaredMethod) → length (places_in c i ms) ≡ length (filter is_shared ms)
places_length c i [] = refl
places_length c i (m ∷ ms) = cases (is_shared m) (λ is. rw is (ap suc (places_length c (i + 1) ms))) (λ isnt. rw isnt (places_length c (i + 1) ms))

module _ (name descriptor : List ℕ) where
  told_in : (before after : List Place) (c : ClassId) (i : ℕ) (ms : List DeclaredMethod) (n : ℕ) → n ≡ length before
      → Told (before ++ (places_in c i ms ++ after)) (said_by (numbered n ms) name descriptor) (option_map (place_at c) (position_from (shared_as name descriptor) i ms))
  told_in before after c i [] n e = tt
  told_in before after c i (m ∷ ms) n e =
      let rest : List Place = places_in c (i + 1) ms ++ after in
      let len : n + 1 ≡ length (before ++ place_at c i ∷ []) = ap (λ (j : ℕ). j + 1) e ∙ sym (length-append before (place_at c i ∷ [])) in
      cases (is_shared m)
      (λ is. cases (is_method name descriptor m)
      (λ named. rw is (rw named (ap (slice_get (before ++ place_at c i ∷ rest)) e ∙ there before (place_at c i) rest)))
      (λ other. rw is (rw other (subst (λ (ps : List Place). Told ps (said_by (numbered (n + 1) ms) name descriptor) (option_map (place_at c) (position_from (shared_as name descriptor) (i + 1) ms)))
      (append_assoc before (place_at c i ∷ []) rest) (told_in (before ++ place_at c i ∷ []) after c (i + 1) ms (n + 1) len)))))
      (λ isnt. rw isnt (told_in before after c (i + 1) ms n e))

  told_of : (before : List Place) (c : ℕ) (vs : List ClassView) (n k : ℕ) → n ≡ length before
      → Told (before ++ all_places c vs) (said_of (slice_get (all_numbered n vs) k) name descriptor) (option_map (place_at (class_id (c + k))) (position_from (shared_as name descriptor) 0 (methods_at (slice_get vs k))))
  told_of before c [] n k e = tt
  told_of before c (v ∷ vs) n zero e =
      let at : c ≡ c + 0 = omega arith in
      subst (λ (j : ℕ). Told (before ++ all_places c (v ∷ vs)) (said_by (numbered n v.methods) name descriptor) (option_map (place_at (class_id j)) (position_from (shared_as name descriptor) 0 v.methods)))
      at (told_in before (all_places (c + 1) vs) (class_id c) 0 v.methods n e)
  told_of before c (v ∷ vs) n (suc k) e =
      let own : List Place = places_in (class_id c) 0 v.methods in
      let more : ℕ = length (filter is_shared v.methods) in
      let at : (c + 1) + k ≡ c + suc k = omega arith in
      let len : n + more ≡ length (before ++ own) = ap (λ (j : ℕ). j + more) e ∙ (ap (λ (j : ℕ). length before + j) (sym (places_length (class_id c) 0 v.methods)) ∙ sym (length-append before own)) in
      let said : Option (Option ℕ) = said_of (slice_get (all_numbered (n + more) vs) k) name descriptor in
      subst (λ (j : ℕ). Told (before ++ all_places c (v ∷ vs)) said (option_map (place_at (class_id j)) (position_from (shared_as name descriptor) 0 (methods_at (slice_get vs k)))))
      at
      (subst (λ (ps : List Place). Told ps said (option_map (place_at (class_id ((c + 1) + k))) (position_from (shared_as name descriptor) 0 (methods_at (slice_get vs k)))))
      (append_assoc before own (all_places (c + 1) vs)) (told_of (before ++ own) (c + 1) vs (n + more) k len))

-- one class more
module _ (i : ℕ) (classes : List ClassView) (v : ClassView) (lt : i < length classes) (is : v ≡ get_or classes i v) (places more : List Place) (kept : more ≡ places ++ places_in (class_id i) 0 v.methods) where
  rest_is : drop i classes ≡ v ∷ drop (i + 1) classes
  rest_is = drop_at classes i v lt is

  pub said_more : (said : List (List Said)) (of_class : List Said) → of_class ≡ numbered (length places) v.methods → said ++ all_numbered (length places) (drop i classes) ≡ all_numbered 0 classes
      → (said ++ of_class ∷ []) ++ all_numbered (length more) (drop (i + 1) classes) ≡ all_numbered 0 classes
  said_more said of_class one so_far =
      let later = drop (i + 1) classes in
      let len : length more ≡ length places + length (filter is_shared v.methods) =
      ap length kept ∙ (length-append places (places_in (class_id i) 0 v.methods) ∙ ap (λ (j : ℕ). length places + j) (places_length (class_id i) 0 v.methods)) in
      append_assoc said (of_class ∷ []) (all_numbered (length more) later)
      ∙ (ap (λ (j : ℕ). said ++ of_class ∷ all_numbered j later) len
      ∙ (ap (λ (ss : List Said). said ++ ss ∷ all_numbered (length places + length (filter is_shared v.methods)) later) one
      ∙ (ap (λ (vs : List ClassView). said ++ all_numbered (length places) vs) (sym rest_is) ∙ so_far)))

  pub places_more : places ++ all_places i (drop i classes) ≡ all_places 0 classes → more ++ all_places (i + 1) (drop (i + 1) classes) ≡ all_places 0 classes
  places_more so_far =
      let own = places_in (class_id i) 0 v.methods in
      let later = all_places (i + 1) (drop (i + 1) classes) in
      ap (λ (ps : List Place). ps ++ later) kept
      ∙ (append_assoc places own later
      ∙ (ap (λ (vs : List ClassView). places ++ all_places i vs) (sym rest_is) ∙ so_far))

module _ (w : World) where
  told : (name descriptor : List ℕ) (c : ClassId) → Told (all_places 0 w.classes) (says (all_numbered 0 w.classes) name descriptor c) (first_place w name descriptor c)
  told name descriptor c =
      let at : 0 + c.0 ≡ c.0 = omega arith in
      subst (λ (j : ℕ). Told (all_places 0 w.classes) (says (all_numbered 0 w.classes) name descriptor c) (option_map (place_at (class_id j)) (position_from (shared_as name descriptor) 0 (declared_methods w c))))
      at (told_of name descriptor [] 0 w.classes 0 c.0 refl)

  told_line : (name descriptor : List ℕ) (line : List ClassId) → option_and_then (slice_get (all_places 0 w.classes)) (first_said (says (all_numbered 0 w.classes) name descriptor) line) ≡ nearest_place w name descriptor line
  told_line name descriptor [] = refl
  told_line name descriptor (c ∷ line) =
      told_or (all_places 0 w.classes) (says (all_numbered 0 w.classes) name descriptor c) (first_place w name descriptor c) (first_said (says (all_numbered 0 w.classes) name descriptor) line) (nearest_place w name descriptor line)
      (told name descriptor c) (told_line name descriptor line)

  pub finds_places : (places : List Place) (it : Nearest) → places ≡ all_places 0 w.classes → Finds w it (says (all_numbered 0 w.classes)) → Places w places it
  finds_places places it are found = record {
    in_line = λ c name descriptor.
        ap (λ (ps : List Place). placed ps it c name descriptor) are
        ∙ (ap (option_and_then (slice_get (all_places 0 w.classes))) (found.in_line c name descriptor) ∙ told_line name descriptor (line_of w.outline c));
    in_longer = λ c name descriptor.
        ap (λ (ps : List Place). placed ps it c name descriptor) are
        ∙ (ap (option_and_then (slice_get (all_places 0 w.classes))) (found.in_longer c name descriptor) ∙ told_line name descriptor (c ∷ ancestors_of w.outline c));
  }

  -- ---- the nearest class

  class_or : (c : ClassId) (o : Option ℕ) (later : Option Place) (rest : List ClassId) → option_map (λ (p : Place). p.class) later ≡ first_of rest
      → option_map (λ (p : Place). p.class) (option_or (option_map (place_at c) o) later) ≡ first_of (if is_some o then c ∷ rest else rest)
  class_or c None later rest e = e
  class_or c (Some i) later rest e = refl

  class_of_place : (name descriptor : List ℕ) (line : List ClassId) → option_map (λ (p : Place). p.class) (nearest_place w name descriptor line) ≡ first_shared w name descriptor line
  class_of_place name descriptor [] = refl
  class_of_place name descriptor (c ∷ line) =
      let rest : List ClassId = filter (stands_in w name descriptor) line in
      class_or c (position_from (shared_as name descriptor) 0 (declared_methods w c)) (nearest_place w name descriptor line) rest (class_of_place name descriptor line)
      ∙ ap (λ (b : Bool). first_of (if b then c ∷ rest else rest)) (sym (some_position (shared_as name descriptor) (declared_methods w c) 0))

  -- ---- the first method of a class

  own_or : (c : ClassId) (o : Option ℕ) (later : Option Place) (r : Option DeclaredMethod) → option_and_then (slice_get (declared_methods w c)) o ≡ r → (o ≡ None → own_at w c later ≡ None)
      → own_at w c (option_or (option_map (place_at c) o) later) ≡ r
  own_or c None later r e none = none refl ∙ e
  own_or c (Some i) later r e none = rw (eq-eqb c.0 c.0 refl) e

  not_own : (c d : ClassId) (i : ℕ) → ((d.0 == c.0) ≡ true → ⊥) → own_at w c (Some (place_at d i)) ≡ None
  not_own c d i other = cases (d.0 == c.0) (λ same. absurd (other same)) (λ isnt. rw isnt refl)

  none_or : (c d : ClassId) (o : Option ℕ) (later : Option Place) → ((i : ℕ) → o ≡ Some i → (d.0 == c.0) ≡ true → ⊥) → own_at w c later ≡ None → own_at w c (option_or (option_map (place_at d) o) later) ≡ None
  none_or c d None later other none = none
  none_or c d (Some i) later other none = not_own c d i (other i refl)

  none_own : (name descriptor : List ℕ) (c : ClassId) (line : List ClassId) → position_from (shared_as name descriptor) 0 (declared_methods w c) ≡ None → own_at w c (nearest_place w name descriptor line) ≡ None
  none_own name descriptor c [] none = refl
  none_own name descriptor c (d ∷ line) none =
      none_or c d (position_from (shared_as name descriptor) 0 (declared_methods w d)) (nearest_place w name descriptor line)
      (λ i found same.
      let is : d ≡ c = ap class_id (eqb-true d.0 c.0 same) in
      let wrong : Some i ≡ None = sym found ∙ (ap (λ (e : ClassId). position_from (shared_as name descriptor) 0 (declared_methods w e)) is ∙ none) in cc)
      (none_own name descriptor c line none)

  own_is : (name descriptor : List ℕ) (c : ClassId) (line : List ClassId) → own_at w c (nearest_place w name descriptor (c ∷ line)) ≡ first_declared w name descriptor c
  own_is name descriptor c line =
      own_or c (position_from (shared_as name descriptor) 0 (declared_methods w c)) (nearest_place w name descriptor line) (first_declared w name descriptor c)
      (found_at (shared_as name descriptor) [] (declared_methods w c) 0 refl) (none_own name descriptor c line)

-- ---- what is found

-- the nearest ancestor, by the map of the superclass
pub nearest_known : (w : World) (h : Heritage) (up : ClassId) (name descriptor : List ℕ) → Inherits w h → option_map (λ (p : Place). p.class) (placed h.places h.shared up name descriptor) ≡ first_shared w name descriptor (line_of w.outline up)
nearest_known w h up name descriptor inherits =
    ap (option_map (λ (p : Place). p.class)) (inherits.shared.in_line up name descriptor) ∙ class_of_place w name descriptor (line_of w.outline up)

-- from a class up, by its own map
pub shared_known : (w : World) (h : Heritage) (c : ClassId) (name descriptor : List ℕ) → Inherits w h
    → option_map (λ (p : Place). p.class) (placed h.places h.shared c name descriptor) ≡ first_shared w name descriptor (c ∷ ancestors_of w.outline c)
shared_known w h c name descriptor inherits =
    ap (option_map (λ (p : Place). p.class)) (inherits.shared.in_longer c name descriptor) ∙ class_of_place w name descriptor (c ∷ ancestors_of w.outline c)

-- the first one of a class
pub first_known : (w : World) (h : Heritage) (c : ClassId) (name descriptor : List ℕ) → Inherits w h → own_at w c (placed h.places h.shared c name descriptor) ≡ first_declared w name descriptor c
first_known w h c name descriptor inherits = ap (own_at w c) (inherits.shared.in_longer c name descriptor) ∙ own_is w name descriptor c (ancestors_of w.outline c)
