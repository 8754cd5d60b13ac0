-- Trees of classes, each from its superclass's.
use Rattle.std.proofs.Common.{◌≡◌, ℕ, zero, suc, ◌^◌, ◌<◌, ◌≤◌, true, List, [], ◌∷◌, Option, Some, None, is_some, length, refl, sym, ap, subst, ◌∙◌, arith, inl, inr, ◌⊎◌, unwrap_or}
use Rattle.std.specs.Prelude.{slice_set}
use Rattle.std.specs.List.{slice_get}
use Rattle.std.proofs.lemmas.Bool.{cases_lt}
use Rattle.std.proofs.lemmas.Option.{slice_get_past}
use Rattle.kilim_program.specs.declared.names.ClassId.{ClassId}
use Rattle.kilim_link_inherited.specs.declared.entry.Entry.{Entry}
use Rattle.kilim_link_inherited.specs.declared.node.Node.{Node}
use Rattle.kilim_link_inherited.specs.declared.node.Node.TheVariants.{Empty}
use Rattle.kilim_link_inherited.specs.Fronts.{class_after, said_onto, SaysNoMore, IsBase, IsFront}
use Rattle.kilim_link_inherited.specs.Inherited.{said_of, said_at, said_or, inherited, line_up, line_in, up_in, from_above}
use Rattle.kilim_link_inherited.specs.Trees.{Forest, IsTable, Makes, Has, Fits, value_at, key_levels, ChildrenWithin}
use Rattle.kilim_link_inherited.specs.Roots.{root_at, value_in, Sound, MadeBelow, Keeps, IsRight, OnlyKeys, inherits}
use Rattle.kilim_link_inherited.proofs.Growing.{stays, grown_length}
use Rattle.kilim_link_inherited.proofs.Putting.{empty_has}
use Rattle.kilim_link_inherited.proofs.Stable.{first_in, first_or, closed_is_same, ended_is_same, made_is_same, one_more}

-- what stands at a place after a write: what was written there, or what stood there before
pub get_set : {A : Type 0} (xs : List A) (i j : ℕ) (x y : A) → slice_get (slice_set xs i x) j ≡ Some y → ((j ≡ i) × (x ≡ y)) ⊎ (slice_get xs j ≡ Some y)
get_set [] i j x y is = inr is
get_set (z ∷ zs) zero zero x y is = inl (refl, cc)
get_set (z ∷ zs) zero (suc j) x y is = inr is
get_set (z ∷ zs) (suc i) zero x y is = inr is
get_set (z ∷ zs) (suc i) (suc j) x y is =
    elim (get_set zs i j x y is) [
      | inl h ↦ inl (ap suc h.0, h.1)
      | inr h ↦ inr h
    ]

root_found : (o : Option (Option ℕ)) (root : ℕ) → unwrap_or o None ≡ Some root → o ≡ Some (Some root)
root_found None root is = absurd (cc)
root_found (Some o) root is = ap Some is

pub root_set : (roots : List (Option ℕ)) (c d : ClassId) (made root : ℕ) → root_at (slice_set roots c.0 (Some made)) d ≡ Some root → ((d ≡ c) × (made ≡ root)) ⊎ (root_at roots d ≡ Some root)
root_set roots c d made root is =
    elim (get_set roots c.0 d.0 (Some made) (Some root) (root_found (slice_get (slice_set roots c.0 (Some made)) d.0) root is)) [
      | inl h ↦ inl (ap (λ (n : ℕ). let it : ClassId = record { 0 = n } in it) h.0, let e = h.1 in cc)
      | inr h ↦ inr (ap (λ (o : Option (Option ℕ)). unwrap_or o None) h)
    ]

-- ---- a write makes one more, and loses none

abbrev is_made : Option (Option ℕ) → Type 0
is_made o = is_some (unwrap_or o None) ≡ true

set_keeps : (roots : List (Option ℕ)) (i j made : ℕ) → is_made (slice_get roots j) → is_made (slice_get (slice_set roots i (Some made)) j)
set_keeps [] i j made is = is
set_keeps (o ∷ roots) zero zero made is = refl
set_keeps (o ∷ roots) zero (suc j) made is = is
set_keeps (o ∷ roots) (suc i) zero made is = is
set_keeps (o ∷ roots) (suc i) (suc j) made is = set_keeps roots i j made is

set_makes : (roots : List (Option ℕ)) (i made : ℕ) → i < length roots → is_made (slice_get (slice_set roots i (Some made)) i)
set_makes [] i made lt = absurd (omega arith)
set_makes (o ∷ roots) zero made lt = refl
set_makes (o ∷ roots) (suc i) made lt = set_makes roots i made (omega arith)

set_length : (roots : List (Option ℕ)) (i made : ℕ) → length (slice_set roots i (Some made)) ≡ length roots
set_length [] i made = refl
set_length (o ∷ roots) zero made = refl
set_length (o ∷ roots) (suc i) made = ap suc (set_length roots i made)

pub root_keeps : (roots : List (Option ℕ)) (c : ClassId) (made : ℕ) → Keeps roots (slice_set roots c.0 (Some made))
root_keeps roots c made = record { count = set_length roots c.0 made; made = λ d is. set_keeps roots c.0 d.0 made is }

pub root_makes : (roots : List (Option ℕ)) (c : ClassId) (made : ℕ) → c.0 < length roots → is_some (root_at (slice_set roots c.0 (Some made)) c) ≡ true
root_makes roots c made lt = set_makes roots c.0 made lt

pub keeps_all : (a b c : List (Option ℕ)) → Keeps a b → Keeps b c → Keeps a c
keeps_all a b c ab bc = record { count = bc.count ∙ ab.count; made = λ d is. bc.made d (ab.made d is) }

pub keeps_same : (a : List (Option ℕ)) → Keeps a a
keeps_same a = record { count = refl; made = λ d is. is }

-- ---- what is put onto a base

module _ (ups : List (Option ClassId)) (entries : List (List Entry)) (fit : length entries ≤ length ups) where
  said_both : (x xs : Option (Option ℕ)) (later : Option ℕ) → said_or x (said_or xs later) ≡ said_or (first_or x xs) later
  said_both None xs later = refl
  said_both (Some value) xs later = refl

  onto_is : (k : ℕ) (classes : List ClassId) (value : Option ℕ) → said_onto entries k classes value ≡ said_or (first_in entries k classes) value
  onto_is k [] value = refl
  onto_is k (c ∷ classes) value = ap (said_or (said_at entries k c)) (onto_is k classes value) ∙ said_both (said_at entries k c) (first_in entries k classes) value

  onto_none : (k : ℕ) (classes : List ClassId) → said_onto entries k classes None ≡ inherited entries k classes
  onto_none k [] = refl
  onto_none k (c ∷ classes) = ap (said_or (said_at entries k c)) (onto_none k classes)

  no_more : (k : ℕ) (c : ClassId) (m : ℕ) → SaysNoMore ups c m → inherited entries k (line_up ups m c) ≡ inherited entries k (line_in ups c)
  no_more k c m (inl ends) = ended_is_same ups entries k fit c m ends
  no_more k c m (inr (inl closes)) =
      let j = closes.0 in
      let closed : class_after ups (suc j) c ≡ Some c = subst (λ (n : ℕ). class_after ups n c ≡ Some c) closes.1 closes.2 in
      ap (λ (n : ℕ). inherited entries k (line_up ups n c)) closes.1 ∙ closed_is_same ups entries k fit c j closed
  no_more k c m (inr (inr all)) = ap (λ (n : ℕ). inherited entries k (line_up ups n c)) all

  module _ (nodes : List Node) (roots : List (Option ℕ)) (sound : Sound ups entries nodes roots) where
    begins_inside : (xs : List Node) → IsTable xs → 0 < length xs
    begins_inside [] table = absurd (let e = table.begins in cc)
    begins_inside (x ∷ xs) table = omega arith

    pub base_inside : (c : ClassId) (m base : ℕ) → IsBase ups roots c m base → base < length nodes
    base_inside c m base (inl h) = let e = h.0 in let lt = begins_inside nodes sound.table in omega arith
    base_inside c m base (inr h) = sound.inside h.0 base h.2

    -- what is put onto the base is what the class inherits
    base_has : (c : ClassId) (m base k : ℕ) → IsBase ups roots c m base → said_onto entries k (line_up ups m c) (value_at nodes key_levels base k) ≡ inherited entries k (line_in ups c)
    base_has c m base k (inl h) =
        ap (said_onto entries k (line_up ups m c)) (ap (λ (t : ℕ). value_at nodes key_levels t k) h.0 ∙ empty_has nodes sound.table key_levels k)
        ∙ (onto_none k (line_up ups m c) ∙ no_more k c m h.1)
    base_has c m base k (inr h) =
        ap (said_onto entries k (line_up ups m c)) (sound.values h.0 base h.2 k)
        ∙ (onto_is k (line_up ups m c) (inherited entries k (line_in ups h.0)) ∙ made_is_same ups entries k fit c h.0 m h.1)

    pub base_fits : (c : ClassId) (m base : ℕ) → IsBase ups roots c m base → Fits nodes key_levels base
    base_fits c m base (inl h) = λ k le. ap (λ (t : ℕ). value_at nodes key_levels t k) h.0 ∙ empty_has nodes sound.table key_levels k
    base_fits c m base (inr h) = sound.fits h.0 base h.2

    pub sound_more : (new : List Node) (c : ClassId) (classes : List ClassId) (base made : ℕ) → IsFront ups roots c classes base → Makes nodes new made → Has new key_levels made (λ k. said_onto entries k classes (value_at nodes key_levels base k)) → Fits new key_levels made → Sound ups entries new (slice_set roots c.0 (Some made))
    sound_more new c classes base made front makes has fits = record {
      table = makes.table;
      inside = λ d root e.
          elim (root_set roots c d made root e) [
            | inl h ↦ subst (λ (n : ℕ). n < length new) h.1 makes.inside
            | inr h ↦ grown_length nodes new makes.grown root (sound.inside d root h)
          ];
      values = λ d root e k.
          elim (root_set roots c d made root e) [
            | inl h ↦
                ap (λ (t : ℕ). value_at new key_levels t k) (sym h.1)
                ∙ (has k ∙ (ap (λ (cs : List ClassId). said_onto entries k cs (value_at nodes key_levels base k)) front.classes_are ∙ (base_has c front.count base k front.base_is ∙ ap (λ (x : ClassId). inherited entries k (line_in ups x)) (sym h.0))))
            | inr h ↦ stays nodes new sound.table makes.grown key_levels root k (sound.inside d root h) ∙ sound.values d root h k
          ];
      fits = λ d root e k le.
          elim (root_set roots c d made root e) [
            | inl h ↦ ap (λ (t : ℕ). value_at new key_levels t k) (sym h.1) ∙ fits k le
            | inr h ↦ stays nodes new sound.table makes.grown key_levels root k (sound.inside d root h) ∙ sound.fits d root h k le
          ];
    }

first_inside : (i : ℕ) → ChildrenWithin 1 (slice_get (Empty ∷ []) i)
first_inside zero = tt
first_inside (suc i) = tt

-- before any tree is made
pub sound_first : (ups : List (Option ClassId)) (entries : List (List Entry)) (nodes : List Node) (roots : List (Option ℕ)) → nodes ≡ Empty ∷ [] → ((c : ClassId) → root_at roots c ≡ None) → Sound ups entries nodes roots
sound_first ups entries nodes roots is none = record {
  table = subst IsTable (sym is) (record { begins = refl; inside = first_inside });
  inside = λ c root e. absurd (let n = none c in cc);
  values = λ c root e k. absurd (let n = none c in cc);
  fits = λ c root e k le. absurd (let n = none c in cc);
}

-- what has something is a key
pub some_key : (it : Forest) (c : ClassId) (k : ℕ) → OnlyKeys it → is_some (inherits it c k) ≡ true → k < 2 ^ 32
some_key it c k keys is =
    elim (cases_lt k (2 ^ 32)) [
      | inl lt ↦ lt
      | inr ge ↦ absurd (let none = keys c k ge in cc)
    ]

-- ---- all of them

module _ (ups : List (Option ClassId)) (entries : List (List Entry)) (fit : length entries ≤ length ups) (nodes : List Node) (roots : List (Option ℕ)) (sound : Sound ups entries nodes roots)
    (all : MadeBelow (length ups) roots) where
  said_nowhere : (o : Option (List Entry)) (k : ℕ) → o ≡ None → said_of o k ≡ None
  said_nowhere o k is = ap (λ x. said_of x k) is

  nothing_more : (x : Option (Option ℕ)) (o : Option ClassId) (value : ClassId → Option ℕ) → x ≡ None → o ≡ None → said_or x (from_above value o) ≡ None
  nothing_more x o value is none = ap (λ y. said_or y (from_above value o)) is ∙ ap (from_above value) none

  -- past the end nothing is said
  past_is : (c : ClassId) (k : ℕ) → length ups ≤ c.0 → None ≡ inherited entries k (line_in ups c)
  past_is c k le =
      sym (nothing_more (said_at entries k c) (up_in ups c) (λ up. inherited entries k (line_in ups up))
      (said_nowhere (slice_get entries c.0) k (slice_get_past entries c.0 (omega arith)))
      (ap (λ (o : Option (Option ClassId)). unwrap_or o None) (slice_get_past ups c.0 le)))
      ∙ one_more ups entries k fit c

  not_made : (c : ClassId) (k : ℕ) → root_at roots c ≡ None → None ≡ inherited entries k (line_in ups c)
  not_made c k is =
      elim (cases_lt c.0 (length ups)) [
        | inl lt ↦ absurd (let made = all c lt in cc)
        | inr ge ↦ past_is c k (omega arith)
      ]

  value_is : (c : ClassId) (k : ℕ) (found : Option ℕ) → root_at roots c ≡ found → value_in nodes k found ≡ inherited entries k (line_in ups c)
  value_is c k (Some root) is = sound.values c root is k
  value_is c k None is = not_made c k is

  above_is : (k : ℕ) (f g : ClassId → Option ℕ) → ((c : ClassId) → f c ≡ g c) → (o : Option ClassId) → from_above f o ≡ from_above g o
  above_is k f g same None = refl
  above_is k f g same (Some up) = same up

  has : (c : ClassId) (k : ℕ) → inherits (record { nodes = nodes; roots = roots }) c k ≡ inherited entries k (line_in ups c)
  unfolding inherits
  has c k = value_is c k (root_at roots c) refl

  more_digits : (k : ℕ) → 2 ^ 32 ≤ k → 2 ^ key_levels ≤ k
  unfolding key_levels
  more_digits k le = le

  nothing_is : (c : ClassId) (k : ℕ) → 2 ^ key_levels ≤ k → (found : Option ℕ) → root_at roots c ≡ found → value_in nodes k found ≡ None
  nothing_is c k le (Some root) is = sound.fits c root is k le
  nothing_is c k le None is = refl

  pub no_more_keys : (c : ClassId) (k : ℕ) → 2 ^ 32 ≤ k → inherits (record { nodes = nodes; roots = roots }) c k ≡ None
  unfolding inherits
  no_more_keys c k le = nothing_is c k (more_digits k le) (root_at roots c) refl

  pub is_right : IsRight ups entries (record { nodes = nodes; roots = roots })
  is_right = record {
    inherited_is = has;
    by_one = λ c k.
        has c k
        ∙ (sym (one_more ups entries k fit c)
        ∙ ap (said_or (said_at entries k c)) (above_is k (λ up. inherited entries k (line_in ups up)) (λ up. inherits (record { nodes = nodes; roots = roots }) up k) (λ up. sym (has up k)) (up_in ups c)));
    only_keys = no_more_keys;
  }
