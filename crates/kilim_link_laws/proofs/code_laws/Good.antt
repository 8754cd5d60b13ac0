-- What is known of each mention of a class without a problem: the classes that it names are there, its descriptors are
-- whole, and there is no float or double in it.
use Rattle.std.proofs.Common.{◌≡◌, ℕ, Bool, true, false, List, [], refl, sym, is_none}
use Rattle.std.specs.Prelude.{◌&&◌, ◌||◌, not}
use Rattle.std.specs.List.{list_any, AllByRecursion}
use Rattle.std.proofs.lemmas.Bool.{or_parts, false≢true}
use Rattle.kilim_lemmas.proofs.Lists.{map_none}
use Rattle.kilim_class_file.specs.declared.class_file.ClassFile.{ClassFile}
use Rattle.kilim_class_descriptors.specs.declared.types.FieldText.{FieldText}
use Rattle.kilim_program.specs.declared.names.ClassId.{ClassId}
use Rattle.kilim_link_spec.specs.declared.fault.Problem.TheVariants as problem
use Rattle.kilim_link_spec.specs.Faults.{class_missing, descriptor_broken, has_float, is_fiber, is_float_base, is_float_mention, is_missing, no_descriptors}
use Rattle.kilim_link_spec.specs.Laws.{NoProblem}
use Rattle.kilim_link_spec.specs.Mentions.{mentions_of, names_mentioned, types_mentioned, class_names, all_types}
use Rattle.kilim_link_spec.specs.declared.named.Mention.{Mention}
use Rattle.kilim_link_spec.specs.Qualified.{has_fiber}
use Rattle.kilim_link_spec.specs.World.{World, class_of, own_name}
use Rattle.kilim_link_laws.proofs.code_laws.LeftOut.{NothingLeftOut, nothing_left_out}
use Rattle.kilim_link_laws.proofs.code_laws.Lists.{all_both, all_from, all_map}
use Rattle.kilim_link_laws.proofs.code_laws.Nothing.{flat_map_none, none_any, filter_none, all_flat}
use Rattle.kilim_link_laws.proofs.code_laws.There.{There, not_none_there}

-- a name of a class that is there; `kilim/Fiber` in woven form alone
pub record NameIsGood (w : World) (name : List ℕ) : Type 0 where
  pub there : There (class_of w name)
  pub usable : (has_fiber w.form || not (is_fiber name)) ≡ true

abbrev pub NoFloat : FieldText → Type 0
NoFloat f = is_float_base f.base ≡ false

pub record Good (w : World) (m : Mention) : Type 0 where
  pub names : AllByRecursion (NameIsGood w) (names_mentioned m)
  pub types : AllByRecursion NoFloat (types_mentioned m)
  pub slot : is_float_mention m ≡ false
  pub descriptors : no_descriptors m ≡ []

-- ---- names

usable_in_woven : (form fiber : Bool) → form ≡ true → (form || not fiber) ≡ true
usable_in_woven true fiber e = refl
usable_in_woven false fiber e = absurd (false≢true e)

usable_without : (form fiber : Bool) → fiber ≡ false → (form || not fiber) ≡ true
usable_without form true e = absurd (false≢true (sym e))
usable_without true false e = refl
usable_without false false e = refl

abbrev IsUsable : World → List ℕ → Type 0
IsUsable w name = (has_fiber w.form || not (is_fiber name)) ≡ true

usable_names : (w : World) (names : List (List ℕ)) (own form : Bool) → has_fiber w.form ≡ form → (not form && (own || list_any is_fiber names)) ≡ false → AllByRecursion (IsUsable w) names
usable_names w names own true is e = all_from (IsUsable w) (λ name. usable_in_woven (has_fiber w.form) (is_fiber name) is) names
usable_names w names own false is e =
    all_map (λ name. is_fiber name ≡ false) (IsUsable w) (λ name none. usable_without (has_fiber w.form) (is_fiber name) none) names (none_any is_fiber names (or_parts own (list_any is_fiber names) e).1)

present : (none usable : Bool) → (none && usable) ≡ false → usable ≡ true → none ≡ false
present true true e f = e
present true false e f = absurd (false≢true f)
present false usable e f = refl

good_names : (w : World) (file : ClassFile) (c : ClassId) → NoProblem w file c → NothingLeftOut w file → AllByRecursion (NameIsGood w) (class_names file)
unfolding class_missing
good_names w file c none left =
    all_both (λ name. is_missing w name ≡ false) (IsUsable w) (NameIsGood w)
    (λ name missing usable. record { there = not_none_there (class_of w name) (present (is_none (class_of w name)) _ missing usable); usable = usable })
    (class_names file) (filter_none (is_missing w) (class_names file) (map_none problem.Missing _ none.none_missing)) (usable_names w (class_names file) (is_fiber (own_name file)) (has_fiber w.form) refl left.fiber)

-- ---- all of it

record Typed (m : Mention) : Type 0 where
  types : AllByRecursion NoFloat (types_mentioned m)
  slot : is_float_mention m ≡ false

typed_mentions : (file : ClassFile) → has_float file ≡ false → AllByRecursion Typed (mentions_of file)
unfolding all_types
typed_mentions file e =
    let p = or_parts (list_any (λ f. is_float_base f.base) (all_types file)) (list_any is_float_mention (mentions_of file)) e in
    all_both (λ m. AllByRecursion NoFloat (types_mentioned m)) (λ m. is_float_mention m ≡ false) Typed (λ m types slot. record { types = types; slot = slot }) (mentions_of file)
    (all_flat NoFloat types_mentioned (mentions_of file) (none_any (λ f. is_float_base f.base) (all_types file) p.0)) (none_any is_float_mention (mentions_of file) p.1)

record Named (w : World) (m : Mention) : Type 0 where
  names : AllByRecursion (NameIsGood w) (names_mentioned m)
  descriptors : no_descriptors m ≡ []

named_mentions : (w : World) (file : ClassFile) (c : ClassId) → NoProblem w file c → NothingLeftOut w file → AllByRecursion (Named w) (mentions_of file)
unfolding class_names descriptor_broken
named_mentions w file c none left =
    all_both (λ m. AllByRecursion (NameIsGood w) (names_mentioned m)) (λ m. no_descriptors m ≡ []) (Named w) (λ m names descriptors. record { names = names; descriptors = descriptors }) (mentions_of file)
    (all_flat (NameIsGood w) names_mentioned (mentions_of file) (good_names w file c none left)) (flat_map_none no_descriptors (mentions_of file) (map_none problem.Descriptor _ none.descriptors_are_whole))

pub good_mentions : (w : World) (file : ClassFile) (c : ClassId) → NoProblem w file c → AllByRecursion (Good w) (mentions_of file)
good_mentions w file c none =
    let left = nothing_left_out w file c none.none_left_out in
    all_both (Named w) Typed (Good w) (λ m named typed. record { names = named.names; types = typed.types; slot = typed.slot; descriptors = named.descriptors }) (mentions_of file)
    (named_mentions w file c none left) (typed_mentions file left.float)
