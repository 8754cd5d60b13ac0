-- What is said of each class is what it says.
use Rattle.std.proofs.Common.{◌≡◌, ℕ, zero, suc, ◌+◌, ◌≤◌, Bool, true, false, List, [], ◌∷◌, ◌++◌, length, filter, map, Option, Some, None, Result, Ok, Err, refl, sym, ap, ◌∙◌, subst, arith}
use Rattle.std.specs.Prelude.{◌&&◌, ◌||◌, if◌then◌else◌, IfOk, is_some, slice_get}
use Rattle.std.specs.List.{list_any}
use Rattle.std.proofs.lemmas.List.{append-nil}
use Rattle.kilim_units.specs.declared.memory.NoMemory.{NoMemory}
use Rattle.kilim_program.specs.declared.names.ClassId.{ClassId}
use Rattle.kilim_program.specs.BuiltIn.{class_id}
use Rattle.kilim_program.specs.Keeps.{superclass_of, line_above, ancestors_of}
use Rattle.kilim_program.specs.Names.{class_at, line_of}
use Rattle.kilim_link_spec.specs.declared.view.ClassView.{ClassView}
use Rattle.kilim_link_spec.specs.declared.view.DeclaredMethod.{DeclaredMethod}
use Rattle.kilim_link_spec.specs.World.{World, declared_methods, methods_at, is_method}
use Rattle.kilim_link_inherited.specs.Inherited.{said_or, line_in, up_in, from_above}
use Rattle.kilim_link_inherited.specs.declared.nearest.Nearest.{Nearest}
use Rattle.kilim_link_inherited.specs.declared.said.Said.{Said}
use Rattle.kilim_link_inherited.specs.Nearest.{said_by, said_of, says, nearest}
use Rattle.kilim_link_inherited.specs.Known.{known, Tells}
use Rattle.kilim_link_override_faults.specs.declared.heritage.Place.{Place}
use Rattle.kilim_link_override_faults.specs.Apart.{is_apart, has_apart, says_apart, apart_from}
use Rattle.kilim_link_override_faults.specs.Parts.{is_shared}
use Rattle.kilim_link_override_faults.specs.Heritage.{Finds, Places, is_shared_abstract, says_left, first_said, saying, sayings, all_numbered, all_places, left_by_class}
use Rattle.kilim_link_override_faults.proofs.Placing.{finds_places}

-- ---- of one class

either_if : (a b : Bool) (x r y : Option (Option ℕ)) → y ≡ (if b then x else r) → (if a then x else y) ≡ (if a || b then x else r)
either_if true b x r y e = refl
either_if false b x r y e = e

-- one of its methods passes and has that name and descriptor
abbrev passes : (DeclaredMethod → Bool) → List ℕ → List ℕ → List DeclaredMethod → Bool
passes test name descriptor ms = list_any (λ o. test o && is_method name descriptor o) ms

module _ (test : DeclaredMethod → Bool) (value : Option ℕ) (rest : List Said) (name descriptor : List ℕ) where
  one : (t : Bool) (m : DeclaredMethod) (ms : List DeclaredMethod)
      → said_by (map (saying value) (if t then m ∷ ms else ms) ++ rest) name descriptor ≡ (if t && is_method name descriptor m then Some value else said_by (map (saying value) ms ++ rest) name descriptor)
  one true m ms = refl
  one false m ms = refl

  said_before : (ms : List DeclaredMethod) → said_by (sayings test value ms ++ rest) name descriptor ≡ (if passes test name descriptor ms then Some value else said_by rest name descriptor)
  said_before [] = refl
  said_before (m ∷ ms) =
      one (test m) m (filter test ms)
      ∙ either_if (test m && is_method name descriptor m) (passes test name descriptor ms) (Some value) (said_by rest name descriptor) (said_by (sayings test value ms ++ rest) name descriptor) (said_before ms)

said_alone : (test : DeclaredMethod → Bool) (value : Option ℕ) (name descriptor : List ℕ) (ms : List DeclaredMethod) → said_by (sayings test value ms) name descriptor ≡ (if passes test name descriptor ms then Some value else None)
said_alone test value name descriptor ms = ap (λ (ss : List Said). said_by ss name descriptor) (sym (append-nil (sayings test value ms))) ∙ said_before test value [] name descriptor ms

-- ---- of each class

module _ (name descriptor : List ℕ) where
  class_left : (vs : List ClassView) (k : ℕ) → said_of (slice_get (left_by_class vs) k) name descriptor
      ≡ (if passes is_shared_abstract name descriptor (methods_at (slice_get vs k)) then Some (Some 0) else (if passes is_shared name descriptor (methods_at (slice_get vs k)) then Some None else None))
  class_left [] k = refl
  class_left (v ∷ vs) zero =
      said_before is_shared_abstract (Some 0) (sayings is_shared None v.methods) name descriptor v.methods
      ∙ ap (λ (o : Option (Option ℕ)). if passes is_shared_abstract name descriptor v.methods then Some (Some 0) else o) (said_alone is_shared None name descriptor v.methods)
  class_left (v ∷ vs) (suc k) = class_left vs k

module _ (w : World) (name descriptor : List ℕ) where
  class_apart : (n : ℕ) (vs : List ClassView) (k : ℕ) → said_of (slice_get (apart_from w n vs) k) name descriptor ≡ (if passes (is_apart w (class_id (n + k))) name descriptor (methods_at (slice_get vs k)) then Some (Some 0) else None)
  class_apart n [] k = refl
  class_apart n (v ∷ vs) zero =
      said_alone (is_apart w (class_id n)) (Some 0) name descriptor v.methods
      ∙ (let at : n ≡ n + 0 = omega arith in ap (λ (i : ℕ). if passes (is_apart w (class_id i)) name descriptor v.methods then Some (Some 0) else None) at)
  class_apart n (v ∷ vs) (suc k) =
      class_apart (n + 1) vs k
      ∙ (let at : (n + 1) + k ≡ n + suc k = omega arith in ap (λ (i : ℕ). if passes (is_apart w (class_id i)) name descriptor (methods_at (slice_get vs k)) then Some (Some 0) else None) at)

-- ---- how many

shared_length : (n : ℕ) (vs : List ClassView) → length (all_numbered n vs) ≡ length vs
shared_length n [] = refl
shared_length n (v ∷ vs) = ap suc (shared_length (n + length (filter is_shared v.methods)) vs)

apart_length : (w : World) (n : ℕ) (vs : List ClassView) → length (apart_from w n vs) ≡ length vs
apart_length w n [] = refl
apart_length w n (v ∷ vs) = ap suc (apart_length w (n + 1) vs)

left_length : (vs : List ClassView) → length (left_by_class vs) ≡ length vs
left_length [] = refl
left_length (v ∷ vs) = ap suc (left_length vs)

no_more : (n k m : ℕ) → n ≡ k → k ≡ m → n ≤ m
no_more n k m e f = omega arith

pub shared_fits : (said : List (List Said)) (ups : List (Option ClassId)) (vs : List ClassView) → said ≡ all_numbered 0 vs → length ups ≡ length vs → length said ≤ length ups
shared_fits said ups vs is count = no_more (length said) (length vs) (length ups) (ap length is ∙ shared_length 0 vs) (sym count)

pub left_fits : (said : List (List Said)) (ups : List (Option ClassId)) (vs : List ClassView) → said ≡ left_by_class vs → length ups ≡ length vs → length said ≤ length ups
left_fits said ups vs is count = no_more (length said) (length vs) (length ups) (ap length is ∙ left_length vs) (sym count)

pub apart_fits : (w : World) (said : List (List Said)) (ups : List (Option ClassId)) (vs : List ClassView) → said ≡ apart_from w 0 vs → length ups ≡ length vs → length said ≤ length ups
apart_fits w said ups vs is count = no_more (length said) (length vs) (length ups) (ap length is ∙ apart_length w 0 vs) (sym count)

-- ---- in lines

nearest_said : (said : List (List Said)) (name descriptor : List ℕ) (each : ClassId → Option (Option ℕ)) → ((c : ClassId) → says said name descriptor c ≡ each c) → (line : List ClassId) → nearest said name descriptor line ≡ first_said each line
nearest_said said name descriptor each are [] = refl
nearest_said said name descriptor each are (c ∷ line) =
    ap (λ (o : Option (Option ℕ)). said_or o (nearest said name descriptor line)) (are c)
    ∙ ap (said_or (each c)) (nearest_said said name descriptor each are line)

-- ---- in maps

module _ (w : World) (it : Nearest) (ups : List (Option ClassId)) (said : List (List Said)) (each : List ℕ → List ℕ → ClassId → Option (Option ℕ))
    (upped : (c : ClassId) → up_in ups c ≡ superclass_of (class_at w.outline c)) (lined : (c : ClassId) → line_in ups c ≡ line_of w.outline c)
    (are : (name descriptor : List ℕ) (c : ClassId) → says said name descriptor c ≡ each name descriptor c) (tells : Tells it ups said) where
  by_line : (c : ClassId) (name descriptor : List ℕ) → known it c name descriptor ≡ first_said (each name descriptor) (line_of w.outline c)
  by_line c name descriptor =
      tells.nearest_is c name descriptor
      ∙ (nearest_said said name descriptor (each name descriptor) (are name descriptor) (line_in ups c)
      ∙ ap (first_said (each name descriptor)) (lined c))

  above : (name descriptor : List ℕ) (o : Option ClassId) → from_above (λ up. known it up name descriptor) o ≡ first_said (each name descriptor) (line_above w.outline o)
  above name descriptor None = refl
  above name descriptor (Some up) = by_line up name descriptor

  finds : Finds w it each
  finds = record {
    in_line = by_line;
    in_longer = λ c name descriptor.
        tells.by_one c name descriptor
        ∙ (ap (λ (o : Option (Option ℕ)). said_or o (from_above (λ up. known it up name descriptor) (up_in ups c))) (are name descriptor c)
        ∙ ap (said_or (each name descriptor c)) (ap (from_above (λ up. known it up name descriptor)) (upped c) ∙ above name descriptor (superclass_of (class_at w.outline c))));
    named = tells.named;
  }

module _ (w : World) (name descriptor : List ℕ) (d : ClassId) where
  at_first : 0 + d.0 ≡ d.0
  at_first = omega arith

  says_zero : says (apart_from w 0 w.classes) name descriptor d ≡ says_apart w name descriptor d
  says_zero = class_apart w name descriptor 0 w.classes d.0 ∙ ap (λ (i : ℕ). if passes (is_apart w (class_id i)) name descriptor (declared_methods w d) then Some (Some 0) else None) at_first

module _ (w : World) (it : Nearest) (ups : List (Option ClassId)) (said : List (List Said))
    (upped : (c : ClassId) → up_in ups c ≡ superclass_of (class_at w.outline c)) (lined : (c : ClassId) → line_in ups c ≡ line_of w.outline c) (tells : Tells it ups said) where
  pub finds_shared : (places : List Place) → said ≡ all_numbered 0 w.classes → places ≡ all_places 0 w.classes → Places w places it
  finds_shared places is are =
      finds_places w places it are
      (finds w it ups (all_numbered 0 w.classes) (says (all_numbered 0 w.classes)) upped lined (λ name descriptor d. refl) (subst (Tells it ups) is tells))

  pub finds_left : said ≡ left_by_class w.classes → Finds w it (says_left w)
  finds_left is = finds w it ups (left_by_class w.classes) (says_left w) upped lined (λ name descriptor d. class_left name descriptor w.classes d.0) (subst (Tells it ups) is tells)

  pub finds_apart : said ≡ apart_from w 0 w.classes → Finds w it (says_apart w)
  finds_apart is = finds w it ups (apart_from w 0 w.classes) (says_apart w) upped lined (says_zero w) (subst (Tells it ups) is tells)

pub ok_then : {T : Type 0} (A B : T → Type 0) (r : Result T NoMemory) → ((x : T) → A x → B x) → IfOk r A → IfOk r B
ok_then A B (Ok x) f is = f x is
ok_then A B (Err fault) f is = is

-- ---- what is found

some_or : (apart : Bool) (later : Option ℕ) → is_some (said_or (if apart then Some (Some 0) else None) later) ≡ (apart || is_some later)
some_or true later = refl
some_or false later = refl

some_said : (w : World) (name descriptor : List ℕ) (line : List ClassId) → is_some (first_said (says_apart w name descriptor) line) ≡ list_any (has_apart w name descriptor) line
some_said w name descriptor [] = refl
some_said w name descriptor (c ∷ line) =
    some_or (has_apart w name descriptor c) (first_said (says_apart w name descriptor) line)
    ∙ ap (λ (b : Bool). has_apart w name descriptor c || b) (some_said w name descriptor line)

-- whether a class or an ancestor has one that differs from its nearest
pub apart_known : (w : World) (it : Nearest) (c : ClassId) (name descriptor : List ℕ) → Finds w it (says_apart w) → is_some (known it c name descriptor) ≡ list_any (has_apart w name descriptor) (c ∷ ancestors_of w.outline c)
apart_known w it c name descriptor found = ap is_some (found.in_longer c name descriptor) ∙ some_said w name descriptor (c ∷ ancestors_of w.outline c)
