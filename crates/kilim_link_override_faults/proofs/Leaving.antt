-- Where no abstract method is left in a line, none is left above its first class.
use Rattle.std.proofs.Common.{◌≡◌, ℕ, ◌+◌, ◌<◌, Bool, true, false, List, [], ◌∷◌, ◌++◌, length, take, drop, get_or, filter, Option, Some, None, is_some, refl, sym, ap, ◌∙◌}
use Rattle.std.specs.Prelude.{◌&&◌, ◌||◌, not, if◌then◌else◌, Contains}
use Rattle.std.specs.List.{list_any}
use Rattle.std.specs.Str.{bytes_eq}
use Rattle.std.proofs.lemmas.Bool.{and_from, eq-eqb}
use Rattle.std.proofs.lemmas.List.{take-append-drop}
use Rattle.std.proofs.lemmas.List.Folds.{list_any-append}
use Rattle.std.proofs.lemmas.Slice.Eq.{bytes_eq-Decides}
use Rattle.kilim_lemmas.proofs.Lists.{drop_at}
use Rattle.kilim_program.specs.declared.names.ClassId.{ClassId}
use Rattle.kilim_program.specs.Keeps.{ancestors_of}
use Rattle.kilim_link_spec.specs.declared.view.DeclaredMethod.{DeclaredMethod}
use Rattle.kilim_link_spec.specs.Faults.{is_left_above, left_above}
use Rattle.kilim_link_spec.specs.World.{World, declared_methods, is_method}
use Rattle.kilim_link_inherited.specs.Inherited.{said_or}
use Rattle.kilim_link_inherited.specs.Known.{known, KeysNamed, KnowsNone, KnowsSome}
use Rattle.kilim_link_override_faults.specs.declared.heritage.Heritage.{Heritage}
use Rattle.kilim_link_override_faults.specs.Parts.{shared_as, stands_in, is_nearer, is_left_over, is_class, StandsBehind}
use Rattle.kilim_link_override_faults.specs.Heritage.{Inherits, LeavesNone, LeavesSome, is_shared_abstract, asks_for, left_in, first_shared}
use Rattle.kilim_link_override_faults.proofs.Firsts.{first_behind}
use Rattle.kilim_link_override_faults.proofs.Places.{nearer_is}
use Rattle.kilim_link_override_faults.proofs.Truth.{cases, some_of_contained}

-- ---- the methods of a class

abbrev asked_as : List ℕ → List ℕ → DeclaredMethod → Bool
asked_as name descriptor o = is_shared_abstract o && is_method name descriptor o

neither : (a b : Bool) → (a || b) ≡ false → (a ≡ false) × (b ≡ false)
neither true b e = absurd cc
neither false b e = (refl, e)

pub is_itself : (m : DeclaredMethod) → is_method m.name m.descriptor m ≡ true
is_itself m = and_from (bytes_eq m.name m.name) (bytes_eq m.descriptor m.descriptor) ((bytes_eq-Decides m.name m.name).1 refl) ((bytes_eq-Decides m.descriptor m.descriptor).1 refl)

by_tests : (a p n i : Bool) → i ≡ true → (n ≡ false → ((a && p) && i) ≡ false) → (a && (p && not n)) ≡ false
by_tests false p n i is none = refl
by_tests true false n i is none = refl
by_tests true true true i is none = refl
by_tests true true false i is none = sym is ∙ none refl

skips : {A : Type 0} (test : A → Bool) (x : A) (xs : List A) → test x ≡ false → filter test xs ≡ [] → filter test (x ∷ xs) ≡ []
skips test x xs is none = ap (λ (b : Bool). if b then x ∷ filter test xs else filter test xs) is ∙ none

none_of : (nearer ms : List DeclaredMethod) → ((name descriptor : List ℕ) → list_any (shared_as name descriptor) nearer ≡ false → list_any (asked_as name descriptor) ms ≡ false) → filter (is_left_above nearer) ms ≡ []
none_of nearer [] none = refl
none_of nearer (m ∷ ms) none =
    skips (is_left_above nearer) m ms
    (by_tests m.is_abstract (not m.is_private) (list_any (shared_as m.name m.descriptor) nearer) (is_method m.name m.descriptor m) (is_itself m)
    (λ e. (neither (asked_as m.name m.descriptor m) (list_any (asked_as m.name m.descriptor) ms) (none m.name m.descriptor e)).0))
    (none_of nearer ms (λ name descriptor e. (neither (asked_as name descriptor m) (list_any (asked_as name descriptor) ms) (none name descriptor e)).1))

-- ---- in a line

goes_on : (asked stands : Bool) (later : Option ℕ) → said_or (if asked then Some (Some 0) else (if stands then Some None else None)) later ≡ None → (asked ≡ false) × (stands ≡ false → later ≡ None)
goes_on true stands later e = absurd cc
goes_on false true later e = (refl, λ f. absurd cc)
goes_on false false later e = (refl, λ f. e)

neither_of : (test : DeclaredMethod → Bool) (xs ys : List DeclaredMethod) → list_any test (xs ++ ys) ≡ false → (list_any test xs ≡ false) × (list_any test ys ≡ false)
neither_of test xs ys e = neither (list_any test xs) (list_any test ys) (sym (list_any-append test xs ys) ∙ e)

module _ (w : World) where
  none_above : (ds : List ClassId) (nearer : List DeclaredMethod) → ((name descriptor : List ℕ) → list_any (shared_as name descriptor) nearer ≡ false → left_in w name descriptor ds ≡ None) → left_above w nearer ds ≡ []
  none_above [] nearer none = refl
  none_above (d ∷ ds) nearer none =
      let methods = declared_methods w d in
      let own : filter (is_left_above nearer) methods ≡ [] =
      none_of nearer methods (λ name descriptor e. (goes_on (asks_for w name descriptor d) (stands_in w name descriptor d) (left_in w name descriptor ds) (none name descriptor e)).0) in
      let rest : left_above w (nearer ++ methods) ds ≡ [] = none_above ds (nearer ++ methods) (λ name descriptor e.
      let both = neither_of (shared_as name descriptor) nearer methods e in
      (goes_on (asks_for w name descriptor d) (stands_in w name descriptor d) (left_in w name descriptor ds) (none name descriptor both.0)).1 both.1) in
      ap (λ (ms : List DeclaredMethod). ms ++ left_above w (nearer ++ methods) ds) own ∙ rest

  none_left : (c : ClassId) (ds : List ClassId) → ((name descriptor : List ℕ) → left_in w name descriptor (c ∷ ds) ≡ None) → left_above w (declared_methods w c) ds ≡ []
  none_left c ds none = none_above ds (declared_methods w c) (λ name descriptor e. (goes_on (asks_for w name descriptor c) (stands_in w name descriptor c) (left_in w name descriptor ds) (none name descriptor)).1 e)

  -- of a class that has none of any name
  pub none_known : (h : Heritage) (c : ClassId) → Inherits w h → ((name descriptor : List ℕ) → known h.left c name descriptor ≡ None) → left_above w (declared_methods w c) (ancestors_of w.outline c) ≡ []
  none_known h c inherits none = none_left c (ancestors_of w.outline c) (λ name descriptor. sym (inherits.left.in_longer c name descriptor) ∙ none name descriptor)

  pub none_is_left : (h : Heritage) (c : ClassId) → Inherits w h → KnowsNone h.left c → LeavesNone w c
  none_is_left h c inherits none name descriptor = sym (inherits.left.in_longer c name descriptor) ∙ none name descriptor

  -- what has something is a name's number, of a key too
  pub keys_named : (h : Heritage) → Inherits w h → KeysNamed h.left
  keys_named h inherits c k fits is = inherits.left.named c k is

  -- of a class that has some of a name
  pub some_is_left : (h : Heritage) (c : ClassId) → Inherits w h → KnowsSome h.left c → LeavesSome w c
  some_is_left h c inherits some = (some.0, some.1, sym (ap is_some (inherits.left.in_longer c some.0 some.1)) ∙ some.2)

  -- ---- one method of an ancestor

  left_test : (abstract shared later : Bool) → (abstract && (shared && not later)) ≡ true → later ≡ false
  left_test true true true e = absurd cc
  left_test true true false e = refl
  left_test true false later e = absurd cc
  left_test false shared later e = absurd cc

  -- where the nearest class that declares such a method is another
  pub not_left : (c : ClassId) (nearer : List ClassId) (d : ClassId) (m : DeclaredMethod) (name descriptor : List ℕ) → name ≡ m.name → descriptor ≡ m.descriptor → StandsBehind (ancestors_of w.outline c) nearer d
      → Contains (declared_methods w d) m → m.is_private ≡ false → false ≡ is_class d (first_shared w name descriptor (c ∷ ancestors_of w.outline c)) → false ≡ is_left_over w c nearer m
  not_left c nearer d m name descriptor named described behind there shared other =
      cases (is_left_over w c nearer m)
      (λ left.
      let none : list_any (stands_in w m.name m.descriptor) (c ∷ nearer) ≡ false =
      nearer_is w c nearer m.name m.descriptor ∙ left_test m.is_abstract (not m.is_private) (is_nearer w c nearer m.name m.descriptor) left in
      let stands : stands_in w m.name m.descriptor d ≡ true =
      some_of_contained (shared_as m.name m.descriptor) (declared_methods w d) m there (and_from (not m.is_private) (is_method m.name m.descriptor m) (ap not shared) (is_itself m)) in
      let first : first_shared w m.name m.descriptor (c ∷ ancestors_of w.outline c) ≡ Some d =
      ap (λ (ds : List ClassId). first_shared w m.name m.descriptor (c ∷ ds)) behind.1 ∙ first_behind (stands_in w m.name m.descriptor) (c ∷ nearer) d behind.0 none stands in
      let same : first_shared w name descriptor (c ∷ ancestors_of w.outline c) ≡ Some d =
      ap (λ (k : List ℕ). first_shared w k descriptor (c ∷ ancestors_of w.outline c)) named ∙ (ap (λ (k : List ℕ). first_shared w m.name k (c ∷ ancestors_of w.outline c)) described ∙ first) in
      absurd (let wrong : false ≡ true = other ∙ (ap (is_class d) same ∙ eq-eqb d.0 d.0 refl) in cc))
      (λ is. sym is)

-- a class of a list stands behind the ones before it
pub stands_behind : (all ds : List ClassId) (i : ℕ) (d : ClassId) → ds ≡ all → i < length ds → d ≡ get_or ds i d → StandsBehind all (take i ds) d
stands_behind all ds i d is lt at =
    (drop (i + 1) ds, sym is ∙ (sym (take-append-drop i ds) ∙ ap (λ (later : List ClassId). take i ds ++ later) (drop_at ds i d lt at)))
