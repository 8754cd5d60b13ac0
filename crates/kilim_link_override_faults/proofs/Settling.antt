-- A method that agrees with the nearest one that it overrides, where none above differs from its nearest, agrees with all.
use Rattle.std.proofs.Common.{◌≡◌, ℕ, zero, suc, ◌≤◌, Bool, true, false, List, ◌∷◌, Option, Some, None, refl, sym, ap, ◌∙◌, length, filter, arith}
use Rattle.std.specs.Prelude.{◌&&◌, ◌||◌, not, Contains}
use Rattle.std.specs.List.{list_any}
use Rattle.std.specs.Str.{bytes_eq}
use Rattle.kilim_lemmas.proofs.Truth.{rest_is_false}
use Rattle.kilim_lemmas.proofs.Texts.{text_is}
use Rattle.kilim_program.specs.declared.names.ClassId.{ClassId}
use Rattle.kilim_program.specs.Keeps.{superclass_of, ancestors_of}
use Rattle.kilim_program.specs.Names.{class_at}
use Rattle.kilim_link_spec.specs.Faults.{agrees, differs_from, inherited}
use Rattle.kilim_link_spec.specs.Linked.{first_of}
use Rattle.kilim_link_spec.specs.Qualified.{is_constructor_name}
use Rattle.kilim_link_spec.specs.World.{World, is_method, declared_methods}
use Rattle.kilim_link_spec.specs.declared.view.DeclaredMethod.{DeclaredMethod}
use Rattle.kilim_link_override_faults.specs.Apart.{disagrees, differs_there, differs_nearest, is_unlike, differs_here, is_apart, has_apart}
use Rattle.kilim_link_override_faults.specs.Heritage.{first_shared, first_declared}
use Rattle.kilim_link_override_faults.specs.Parts.{is_so, alike, differs_in, shared_as, stands_in}
use Rattle.kilim_link_override_faults.proofs.Firsts.{first_is, first_isnt, first_passes, first_isnt_there}
use Rattle.kilim_link_override_faults.proofs.Leaving.{is_itself}
use Rattle.kilim_link_override_faults.proofs.Lines.{line_rest, line_more, ancestors_are, first_cut}
use Rattle.kilim_link_override_faults.proofs.Passing.{agrees_alike, differs_passes}
use Rattle.kilim_link_override_faults.proofs.Places.{any_map, differs_above}
use Rattle.kilim_link_override_faults.proofs.Truth.{cases, none_here, none_later, none_of_two, none_of_less, none_of_contained, by_found, first_is_false, is_it}
use Rattle.kilim_link_override_faults.proofs.Unmarked.{first_of_both, second_of_both}

isnt_one : (private named apart : Bool) → (private && named) ≡ false → (private && (named && apart)) ≡ false
isnt_one true true apart e = absurd cc
isnt_one true false apart e = refl
isnt_one false named apart e = refl

none_differs : (shared named agree : Bool) → agree ≡ true → (shared && (named && not agree)) ≡ false
none_differs true true true e = refl
none_differs true true false e = absurd cc
none_differs true false agree e = refl
none_differs false named agree e = refl

-- of a method that overrides
apart_of_two : (w : World) (d : ClassId) (o : DeclaredMethod) → is_constructor_name o.name ≡ false → not o.is_private ≡ true → is_apart w d o ≡ false → (differs_here w d o || differs_nearest w d o) ≡ false
apart_of_two w d o ordinary shared e =
    rest_is_false (not o.is_private) (differs_here w d o || differs_nearest w d o) shared
    (rest_is_false (not (is_constructor_name o.name)) (not o.is_private && (differs_here w d o || differs_nearest w d o)) (ap not ordinary) e)

module _ (w : World) where
  module _ (c : ClassId) (m : DeclaredMethod) where
    differs_by_one : (d : ClassId) → differs_in w c m d ≡ list_any (λ o. differs_from w c m (d, o)) (declared_methods w d)
    differs_by_one d = any_map (differs_from w c m) (λ o. (d, o)) (declared_methods w d)

    -- a class without such a method
    differs_nowhere : (d : ClassId) → stands_in w m.name m.descriptor d ≡ false → differs_in w c m d ≡ false
    differs_nowhere d e =
        differs_by_one d
        ∙ none_of_less (λ o. not o.is_private && is_method m.name m.descriptor o) (λ o. differs_from w c m (d, o))
        (λ o. isnt_one (not o.is_private) (is_method m.name m.descriptor o) (not (agrees w c m d o))) (declared_methods w d) e

    -- another method of a class whose first one agrees
    one_agrees : (d : ClassId) (x o : DeclaredMethod) → is_constructor_name m.name ≡ false → first_declared w m.name m.descriptor d ≡ Some x → agrees w c m d x ≡ true
        → (is_apart w d o && is_method m.name m.descriptor o) ≡ false → differs_from w c m (d, o) ≡ false
    one_agrees d x o ordinary first agreed near =
        cases (shared_as m.name m.descriptor o)
        (λ is.
        let shared = first_of_both (not o.is_private) (is_method m.name m.descriptor o) is in
        let named = second_of_both (not o.is_private) (is_method m.name m.descriptor o) is in
        let name : o.name ≡ m.name = text_is o.name m.name (first_of_both (bytes_eq o.name m.name) (bytes_eq o.descriptor m.descriptor) named) in
        let descriptor : o.descriptor ≡ m.descriptor = text_is o.descriptor m.descriptor (second_of_both (bytes_eq o.name m.name) (bytes_eq o.descriptor m.descriptor) named) in
        let its : first_declared w o.name o.descriptor d ≡ Some x =
        ap (λ (k : List ℕ). first_declared w k o.descriptor d) name ∙ (ap (λ (k : List ℕ). first_declared w m.name k d) descriptor ∙ first) in
        let like : alike w d o x ≡ true =
        is_it (alike w d o x) (sym (ap (is_unlike w d o) its) ∙ none_here (differs_here w d o) (differs_nearest w d o) (apart_of_two w d o (ap is_constructor_name name ∙ ordinary) shared (first_is_false (is_apart w d o) (is_method m.name m.descriptor o) named near))) in
        none_differs (not o.is_private) (is_method m.name m.descriptor o) (agrees w c m d o) (agrees_alike w c m d x o agreed like))
        (λ isnt. isnt_one (not o.is_private) (is_method m.name m.descriptor o) (not (agrees w c m d o)) isnt)

    -- all of them
    all_agree : (d : ClassId) (r : Option DeclaredMethod) → is_constructor_name m.name ≡ false → first_declared w m.name m.descriptor d ≡ r → disagrees w c m d r ≡ false
        → has_apart w m.name m.descriptor d ≡ false → differs_in w c m d ≡ false
    all_agree d None ordinary first near none = differs_nowhere d (first_isnt_there (shared_as m.name m.descriptor) (declared_methods w d) first)
    all_agree d (Some x) ordinary first near none =
        differs_by_one d
        ∙ none_of_less (λ o. is_apart w d o && is_method m.name m.descriptor o) (λ o. differs_from w c m (d, o))
        (λ o. one_agrees d x o ordinary first (is_it (agrees w c m d x) near)) (declared_methods w d) none

    -- the nearest one of a cut line is the nearest of all
    nearest_agrees : (n : ℕ) → n ≤ length w.outline.classes → is_constructor_name m.name ≡ false → differs_nearest w c m ≡ false
        → list_any (has_apart w m.name m.descriptor) (line_rest w.outline n (superclass_of (class_at w.outline c))) ≡ false
        → (d : ClassId) → Some d ≡ first_of (filter (stands_in w m.name m.descriptor) (line_rest w.outline n (superclass_of (class_at w.outline c)))) → differs_in w c m d ≡ false
    nearest_agrees n le ordinary e none d found =
        let line = line_rest w.outline n (superclass_of (class_at w.outline c)) in
        let all : Some d ≡ first_shared w m.name m.descriptor (ancestors_of w.outline c) =
        first_cut w.outline (stands_in w m.name m.descriptor) n (length w.outline.classes) (superclass_of (class_at w.outline c)) d le found
        ∙ ap (first_shared w m.name m.descriptor) (sym (ancestors_are w.outline c)) in
        all_agree d (first_declared w m.name m.descriptor d) ordinary refl (ap (differs_there w c m) all ∙ e)
        (ap (is_so (has_apart w m.name m.descriptor)) found ∙ first_passes (stands_in w m.name m.descriptor) (has_apart w m.name m.descriptor) line none)

  -- ---- lines that are cut after so many classes

  abbrev Settles : ℕ → Type 0
  Settles n = (c : ClassId) (m : DeclaredMethod) (o : Option ClassId) → is_constructor_name m.name ≡ false
      → ((d : ClassId) → Some d ≡ first_of (filter (stands_in w m.name m.descriptor) (line_rest w.outline n o)) → differs_in w c m d ≡ false)
      → list_any (has_apart w m.name m.descriptor) (line_rest w.outline n o) ≡ false → list_any (differs_in w c m) (line_rest w.outline n o) ≡ false

  -- behind a class with such a method
  module _ (n : ℕ) (le : n ≤ length w.outline.classes) (settled : Settles n) (c : ClassId) (m : DeclaredMethod) (ordinary : is_constructor_name m.name ≡ false) (up : ClassId) where
    by_one : list_any (has_apart w m.name m.descriptor) (line_rest w.outline n (superclass_of (class_at w.outline up))) ≡ false → (o : DeclaredMethod) → (not o.is_private && is_method m.name m.descriptor o) ≡ true
        → (is_apart w up o && is_method m.name m.descriptor o) ≡ false → differs_from w c m (up, o) ≡ false → list_any (differs_in w c m) (line_rest w.outline n (superclass_of (class_at w.outline up))) ≡ false
    by_one none o is near same =
        let rest = line_rest w.outline n (superclass_of (class_at w.outline up)) in
        let shared = first_of_both (not o.is_private) (is_method m.name m.descriptor o) is in
        let named = second_of_both (not o.is_private) (is_method m.name m.descriptor o) is in
        let agreed : agrees w c m up o ≡ true =
        is_it (agrees w c m up o) (rest_is_false (is_method m.name m.descriptor o) (not (agrees w c m up o)) named (rest_is_false (not o.is_private) (is_method m.name m.descriptor o && not (agrees w c m up o)) shared same)) in
        let name : o.name ≡ m.name = text_is o.name m.name (first_of_both (bytes_eq o.name m.name) (bytes_eq o.descriptor m.descriptor) named) in
        let descriptor : o.descriptor ≡ m.descriptor = text_is o.descriptor m.descriptor (second_of_both (bytes_eq o.name m.name) (bytes_eq o.descriptor m.descriptor) named) in
        let no_constructor : is_constructor_name o.name ≡ false = ap is_constructor_name name ∙ ordinary in
        let nearest : differs_nearest w up o ≡ false =
        none_later (differs_here w up o) (differs_nearest w up o) (apart_of_two w up o no_constructor shared (first_is_false (is_apart w up o) (is_method m.name m.descriptor o) named near)) in
        let above : list_any (has_apart w o.name o.descriptor) rest ≡ false =
        ap (λ (k : List ℕ). list_any (has_apart w k o.descriptor) rest) name ∙ (ap (λ (k : List ℕ). list_any (has_apart w m.name k) rest) descriptor ∙ none) in
        differs_passes w c m up o named agreed rest (settled up o (superclass_of (class_at w.outline up)) no_constructor (nearest_agrees up o n le no_constructor nearest above) above)

  settles : (n : ℕ) → n ≤ length w.outline.classes → Settles n
  settles n le c m None ordinary near none = refl
  settles zero le c m (Some up) ordinary near none = refl
  settles (suc n) le c m (Some up) ordinary near none =
      let stands : ClassId → Bool = stands_in w m.name m.descriptor in
      let bad : ClassId → Bool = has_apart w m.name m.descriptor in
      let above = superclass_of (class_at w.outline up) in
      let rest = line_rest w.outline n above in
      let less : n ≤ length w.outline.classes = omega arith in
      let cut = line_more w.outline n up in
      let all : list_any bad (up ∷ rest) ≡ false = sym (ap (list_any bad) cut) ∙ none in
      let later = none_later (bad up) (list_any bad rest) all in
      ap (list_any (differs_in w c m)) cut
      ∙ cases (stands_in w m.name m.descriptor up)
      (λ is.
      let same : differs_in w c m up ≡ false = near up (sym (ap (λ ds. first_of (filter stands ds)) cut ∙ first_is stands up rest is)) in
      none_of_two (differs_in w c m up) (list_any (differs_in w c m) rest) same
      (by_found (λ o. not o.is_private && is_method m.name m.descriptor o) (λ o. is_apart w up o && is_method m.name m.descriptor o) (λ o. differs_from w c m (up, o)) (list_any (differs_in w c m) rest)
      (by_one n less (settles n less) c m ordinary up later) (declared_methods w up) is (none_here (bad up) (list_any bad rest) all) (sym (differs_by_one c m up) ∙ same)))
      (λ is.
      none_of_two (differs_in w c m up) (list_any (differs_in w c m) rest) (differs_nowhere c m up is)
      (settles n less c m above ordinary (λ d found. near d (found ∙ sym (ap (λ ds. first_of (filter stands ds)) cut ∙ first_isnt stands up rest is))) later))

  -- ---- a method of a class

  module _ (c : ClassId) (m : DeclaredMethod) (ordinary : is_constructor_name m.name ≡ false) (shared : m.is_private ≡ false) where
    agrees_above : is_apart w c m ≡ false → list_any (has_apart w m.name m.descriptor) (ancestors_of w.outline c) ≡ false → list_any (differs_in w c m) (ancestors_of w.outline c) ≡ false
    agrees_above near none =
        let is = ancestors_are w.outline c in
        let n = length w.outline.classes in
        let enough : n ≤ n = omega arith in
        let nearest = none_later (differs_here w c m) (differs_nearest w c m) (apart_of_two w c m ordinary (ap not shared) near) in
        let above = sym (ap (list_any (has_apart w m.name m.descriptor)) is) ∙ none in
        ap (list_any (differs_in w c m)) is
        ∙ settles n enough c m (superclass_of (class_at w.outline c)) ordinary (nearest_agrees c m n enough ordinary nearest above) above

    -- where the class declares it, and neither the class nor an ancestor has one that differs from its nearest
    pub agrees_with_all : (name descriptor : List ℕ) → name ≡ m.name → descriptor ≡ m.descriptor → Contains (declared_methods w c) m
        → false ≡ list_any (has_apart w name descriptor) (c ∷ ancestors_of w.outline c) → false ≡ list_any (differs_from w c m) (inherited w c)
    agrees_with_all name descriptor named described there e =
        let bad : ClassId → Bool = has_apart w m.name m.descriptor in
        let line = c ∷ ancestors_of w.outline c in
        let none : list_any bad line ≡ false =
        sym (e ∙ (ap (λ (k : List ℕ). list_any (has_apart w k descriptor) line) named ∙ ap (λ (k : List ℕ). list_any (has_apart w m.name k) line) described)) in
        let here = none_here (bad c) (list_any bad (ancestors_of w.outline c)) none in
        let own = none_of_contained (λ o. is_apart w c o && is_method m.name m.descriptor o) (declared_methods w c) m there here in
        sym (sym (differs_above w c m (ancestors_of w.outline c) refl)
        ∙ agrees_above (first_is_false (is_apart w c m) (is_method m.name m.descriptor m) (is_itself m) own) (none_later (bad c) (list_any bad (ancestors_of w.outline c)) none))
