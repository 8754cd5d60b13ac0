-- Members by their places.
use Rattle.std.proofs.Common.{◌≡◌, ℕ, ◌+◌, ◌<◌, Bool, true, false, List, [], ◌∷◌, ◌++◌, length, get_or, take, drop, filter, map, Option, Some, None, Result, Ok, Err, refl, sym, ap, ◌∙◌, append_assoc}
use Rattle.std.specs.Prelude.{◌&&◌, ◌||◌, if◌then◌else◌, slice_get, not, IfOk}
use Rattle.std.specs.List.{list_any, flat_map}
use Rattle.std.proofs.lemmas.List.{length-append}
use Rattle.std.proofs.lemmas.List.Folds.{list_any-append}
use Rattle.kilim_lemmas.proofs.Lists.{drop_at}
use Rattle.kilim_units.specs.declared.memory.NoMemory.{NoMemory}
use Rattle.kilim_program.specs.declared.names.ClassId.{ClassId}
use Rattle.kilim_program.specs.Keeps.{ancestors_of}
use Rattle.kilim_link_spec.specs.declared.view.DeclaredMethod.{DeclaredMethod}
use Rattle.kilim_link_spec.specs.World.{World, declared_methods, is_method}
use Rattle.kilim_link_spec.specs.Faults.{agrees, differs_from, inherited, left_above}
use Rattle.kilim_link_spec.specs.Linked.{first_of}
use Rattle.kilim_link_inherited.specs.Index.{places_from}
use Rattle.kilim_link_override_faults.specs.Parts.{is_so, passes_at, other_differs, differs_in, is_shared, stands_in, nearer_than, is_nearer, is_left_over}
use Rattle.kilim_link_override_faults.proofs.Agreeing.{swapped, turned}
use Rattle.kilim_link_override_faults.proofs.Firsts.{flat_map_at, here, later}

pub there : {A : Type 0} (before : List A) (x : A) (xs : List A) → slice_get (before ++ x ∷ xs) (length before) ≡ Some x
there [] x xs = refl
there (y ∷ ys) x xs = there ys x xs

module _ {A : Type 0} (test good whole : A → Bool) (splits : (x : A) → whole x ≡ (test x && good x)) where
  step : (all : List A) (k : ℕ) (x : A) (found : Bool) (ks : List ℕ) (later : Bool) → slice_get all k ≡ Some x → list_any (passes_at good all) ks ≡ later
      → list_any (passes_at good all) (if found then k ∷ ks else ks) ≡ ((found && good x) || later)
  step all k x true ks later is more = ap (λ (o : Option A). is_so good o || list_any (passes_at good all) ks) is ∙ ap (λ (b : Bool). good x || b) more
  step all k x false ks later is more = more

  any_from : (before xs : List A) (k : ℕ) → k ≡ length before → list_any (passes_at good (before ++ xs)) (places_from test k xs) ≡ list_any whole xs
  any_from before [] k n = refl
  any_from before (x ∷ xs) k n =
      let all : before ++ x ∷ xs ≡ (before ++ x ∷ []) ++ xs = sym (append_assoc before (x ∷ []) xs) in
      let len : k + 1 ≡ length (before ++ x ∷ []) = ap (λ (j : ℕ). j + 1) n ∙ sym (length-append before (x ∷ [])) in
      let more : list_any (passes_at good (before ++ x ∷ xs)) (places_from test (k + 1) xs) ≡ list_any whole xs =
      ap (λ (ys : List A). list_any (passes_at good ys) (places_from test (k + 1) xs)) all ∙ any_from (before ++ x ∷ []) xs (k + 1) len in
      let is : slice_get (before ++ x ∷ xs) k ≡ Some x = ap (slice_get (before ++ x ∷ xs)) n ∙ there before x xs in
      step (before ++ x ∷ xs) k x (test x) (places_from test (k + 1) xs) (list_any whole xs) is more ∙ ap (λ (b : Bool). b || list_any whole xs) (sym (splits x))

  pub any_placed : (xs : List A) → list_any (passes_at good xs) (places_from test 0 xs) ≡ list_any whole xs
  any_placed xs = any_from [] xs 0 refl

-- ---- overriding

pub any_map : {A B : Type 0} (test : B → Bool) (f : A → B) (xs : List A) → list_any test (map f xs) ≡ list_any (λ x. test (f x)) xs
any_map test f [] = refl
any_map test f (x ∷ xs) = ap (λ (b : Bool). test (f x) || b) (any_map test f xs)

any_flat : {A B : Type 0} (test : B → Bool) (f : A → List B) (xs : List A) → list_any test (flat_map f xs) ≡ list_any (λ x. list_any test (f x)) xs
any_flat test f [] = refl
any_flat test f (x ∷ xs) = list_any-append test (f x) (flat_map f xs) ∙ ap (λ (b : Bool). list_any test (f x) || b) (any_flat test f xs)

pub ok_as : (r : Result Bool NoMemory) (x y : Bool) → x ≡ y → IfOk r (λ a. a ≡ x) → IfOk r (λ a. a ≡ y)
ok_as (Ok b) x y e is = is ∙ e
ok_as (Err e) x y _ is = is

pub differs_is : (w : World) (c : ClassId) (m : DeclaredMethod) (d : ClassId) (name descriptor places : List ℕ) → name ≡ m.name → descriptor ≡ m.descriptor → places ≡ places_from (is_method name descriptor) 0 (declared_methods w d)
    → list_any (passes_at (other_differs w c m d) (declared_methods w d)) places ≡ differs_in w c m d
differs_is w c m d name descriptor places n t is =
    let methods = declared_methods w d in
    let here : places ≡ places_from (is_method m.name m.descriptor) 0 methods = is ∙ (ap (λ (k : List ℕ). places_from (is_method k descriptor) 0 methods) n ∙ ap (λ (k : List ℕ). places_from (is_method m.name k) 0 methods) t) in
    ap (list_any (passes_at (other_differs w c m d) methods)) here
    ∙ (any_placed (is_method m.name m.descriptor) (other_differs w c m d) (λ other. differs_from w c m (d, other)) (λ other. swapped (not other.is_private) (is_method m.name m.descriptor other) (not (agrees w c m d other))) methods
    ∙ sym (any_map (differs_from w c m) (λ other. (d, other)) methods))

pub differs_above : (w : World) (c : ClassId) (m : DeclaredMethod) (ds : List ClassId) → ds ≡ ancestors_of w.outline c → list_any (differs_in w c m) ds ≡ list_any (differs_from w c m) (inherited w c)
differs_above w c m ds is = ap (list_any (differs_in w c m)) is ∙ sym (any_flat (differs_from w c m) (λ d. map (λ other. (d, other)) (declared_methods w d)) (ancestors_of w.outline c))

-- ---- abstract methods

pub stands_is : (w : World) (d : ClassId) (name descriptor : List ℕ) (methods : List DeclaredMethod) (places : List ℕ) → methods ≡ declared_methods w d → places ≡ places_from (is_method name descriptor) 0 (declared_methods w d)
    → list_any (passes_at is_shared methods) places ≡ stands_in w name descriptor d
stands_is w d name descriptor methods places m p =
    ap (λ (ms : List DeclaredMethod). list_any (passes_at is_shared ms) places) m
    ∙ (ap (list_any (passes_at is_shared (declared_methods w d))) p
    ∙ any_placed (is_method name descriptor) is_shared (λ o. not o.is_private && is_method name descriptor o) (λ o. turned (not o.is_private) (is_method name descriptor o)) (declared_methods w d))

pub nearer_is : (w : World) (c : ClassId) (ds : List ClassId) (name descriptor : List ℕ) → (stands_in w name descriptor c || list_any (stands_in w name descriptor) ds) ≡ is_nearer w c ds name descriptor
nearer_is w c ds name descriptor =
    let test : DeclaredMethod → Bool = λ o. not o.is_private && is_method name descriptor o in
    sym (list_any-append test (declared_methods w c) (flat_map (declared_methods w) ds) ∙ ap (λ (b : Bool). stands_in w name descriptor c || b) (any_flat test (declared_methods w) ds))

module _ (w : World) (c : ClassId) (ds : List ClassId) (i : ℕ) (d : ClassId) (r : Option DeclaredMethod) (lt : i < length ds) (is : d ≡ get_or ds i d) (so_far : first_of (left_above w (nearer_than w c (take i ds)) (drop i ds)) ≡ r) where
  grown : nearer_than w c (take i ds) ++ declared_methods w d ≡ nearer_than w c (take (i + 1) ds)
  grown = append_assoc (declared_methods w c) (flat_map (declared_methods w) (take i ds)) (declared_methods w d)
      ∙ ap (λ (ms : List DeclaredMethod). declared_methods w c ++ ms) (flat_map_at (declared_methods w) ds i d lt is)

  one : first_of (filter (is_left_over w c (take i ds)) (declared_methods w d) ++ left_above w (nearer_than w c (take (i + 1) ds)) (drop (i + 1) ds)) ≡ r
  one =
      ap (λ (ms : List DeclaredMethod). first_of (filter (is_left_over w c (take i ds)) (declared_methods w d) ++ left_above w ms (drop (i + 1) ds))) (sym grown)
      ∙ (ap (λ es. first_of (left_above w (nearer_than w c (take i ds)) es)) (sym (drop_at ds i d lt is)) ∙ so_far)

  pub stops_at : (m : DeclaredMethod) → Some m ≡ first_of (filter (is_left_over w c (take i ds)) (declared_methods w d)) → Some m ≡ r
  stops_at m found = here (filter (is_left_over w c (take i ds)) (declared_methods w d)) (left_above w (nearer_than w c (take (i + 1) ds)) (drop (i + 1) ds)) m found ∙ one

  pub goes_on : None ≡ first_of (filter (is_left_over w c (take i ds)) (declared_methods w d)) → first_of (left_above w (nearer_than w c (take (i + 1) ds)) (drop (i + 1) ds)) ≡ r
  goes_on none =
      let rest = left_above w (nearer_than w c (take (i + 1) ds)) (drop (i + 1) ds) in
      later (filter (is_left_over w c (take i ds)) (declared_methods w d)) rest (first_of rest) none refl ∙ one
