-- What agrees with a method agrees with what that one agrees with.
use Rattle.std.proofs.Common.{◌≡◌, Bool, true, false, refl, sym, ap, ◌∙◌, List, [], ◌∷◌, ℕ, map}
use Rattle.std.specs.Prelude.{◌&&◌, not}
use Rattle.std.specs.List.{list_any}
use Rattle.std.specs.Str.{bytes_eq}
use Rattle.std.proofs.lemmas.Bool.{and_from}
use Rattle.kilim_lemmas.proofs.Texts.{text_is}
use Rattle.kilim_program.specs.declared.names.ClassId.{ClassId}
use Rattle.kilim_program.specs.declared.ty.Qualifier.{Qualifier}
use Rattle.kilim_program.specs.declared.ty.Qualifier.TheVariants.{Free, Cuttable, Safe}
use Rattle.kilim_program.specs.Same.{same_flag, same_qualifier, same_qualifiers}
use Rattle.kilim_link_spec.specs.Faults.{agrees, differs_from, same_qualified}
use Rattle.kilim_link_spec.specs.Qualified.{qualified}
use Rattle.kilim_link_spec.specs.declared.named.Qualified.{Qualified}
use Rattle.kilim_link_spec.specs.World.{World, is_method, declared_methods}
use Rattle.kilim_link_spec.specs.declared.view.DeclaredMethod.{DeclaredMethod}
use Rattle.kilim_link_override_faults.specs.Parts.{alike, differs_in}
use Rattle.kilim_link_override_faults.proofs.Unmarked.{first_of_both, second_of_both}
use Rattle.kilim_link_override_faults.proofs.Truth.{none_of_less}

-- two parts, each of which passes
both_pass : (a b c d e f : Bool) → (a ≡ true → c ≡ true → e ≡ true) → (b ≡ true → d ≡ true → f ≡ true) → (a && b) ≡ true → (c && d) ≡ true → (e && f) ≡ true
both_pass a b c d e f one two x y = and_from e f (one (first_of_both a b x) (first_of_both c d y)) (two (second_of_both a b x) (second_of_both c d y))

flags_pass : (a b c : Bool) → same_flag a b ≡ true → same_flag b c ≡ true → same_flag a c ≡ true
flags_pass true true c e f = f
flags_pass true false c e f = absurd cc
flags_pass false true c e f = absurd cc
flags_pass false false c e f = f

qualifier_is : (a b : Qualifier) → same_qualifier a b ≡ true → a ≡ b
qualifier_is Free Free e = refl
qualifier_is Free Cuttable e = absurd cc
qualifier_is Free Safe e = absurd cc
qualifier_is Cuttable Free e = absurd cc
qualifier_is Cuttable Cuttable e = refl
qualifier_is Cuttable Safe e = absurd cc
qualifier_is Safe Free e = absurd cc
qualifier_is Safe Cuttable e = absurd cc
qualifier_is Safe Safe e = refl

qualifier_passes : (a b c : Qualifier) → same_qualifier a b ≡ true → same_qualifier b c ≡ true → same_qualifier a c ≡ true
qualifier_passes a b c e f = ap (λ q. same_qualifier q c) (qualifier_is a b e) ∙ f

qualifiers_pass : (xs ys zs : List Qualifier) → same_qualifiers xs ys ≡ true → same_qualifiers ys zs ≡ true → same_qualifiers xs zs ≡ true
qualifiers_pass [] [] zs e f = f
qualifiers_pass [] (y ∷ ys) zs e f = absurd cc
qualifiers_pass (x ∷ xs) [] zs e f = absurd cc
qualifiers_pass (x ∷ xs) (y ∷ ys) [] e f = absurd cc
qualifiers_pass (x ∷ xs) (y ∷ ys) (z ∷ zs) e f =
    both_pass (same_qualifier x y) (same_qualifiers xs ys) (same_qualifier y z) (same_qualifiers ys zs) (same_qualifier x z) (same_qualifiers xs zs)
    (qualifier_passes x y z) (qualifiers_pass xs ys zs) e f

qualified_pass : (a b c : Qualified) → same_qualified a b ≡ true → same_qualified b c ≡ true → same_qualified a c ≡ true
qualified_pass a b c e f =
    both_pass (same_qualifier a.receiver b.receiver) (same_qualifiers a.params b.params) (same_qualifier b.receiver c.receiver) (same_qualifiers b.params c.params) (same_qualifier a.receiver c.receiver) (same_qualifiers a.params c.params)
    (qualifier_passes a.receiver b.receiver c.receiver) (qualifiers_pass a.params b.params c.params) e f

-- ---- the other way

flags_turn : (a b c : Bool) → same_flag a b ≡ true → same_flag c b ≡ true → same_flag a c ≡ true
flags_turn true true true e f = f
flags_turn true true false e f = absurd cc
flags_turn true false c e f = absurd cc
flags_turn false true c e f = absurd cc
flags_turn false false true e f = absurd cc
flags_turn false false false e f = f

both_turn : (a b c d : Bool) → (a ≡ true → c ≡ true) → (b ≡ true → d ≡ true) → (a && b) ≡ true → (c && d) ≡ true
both_turn a b c d one two e = and_from c d (one (first_of_both a b e)) (two (second_of_both a b e))

qualifier_turns : (a b : Qualifier) → same_qualifier a b ≡ true → same_qualifier b a ≡ true
qualifier_turns a b e = ap (same_qualifier b) (qualifier_is a b e) ∙ (ap (λ q. same_qualifier q b) (sym (qualifier_is a b e)) ∙ e)

qualifiers_turn : (xs ys : List Qualifier) → same_qualifiers xs ys ≡ true → same_qualifiers ys xs ≡ true
qualifiers_turn [] [] e = e
qualifiers_turn [] (y ∷ ys) e = absurd cc
qualifiers_turn (x ∷ xs) [] e = absurd cc
qualifiers_turn (x ∷ xs) (y ∷ ys) e =
    both_turn (same_qualifier x y) (same_qualifiers xs ys) (same_qualifier y x) (same_qualifiers ys xs) (qualifier_turns x y) (qualifiers_turn xs ys) e

qualified_turns : (a b : Qualified) → same_qualified a b ≡ true → same_qualified b a ≡ true
qualified_turns a b e =
    both_turn (same_qualifier a.receiver b.receiver) (same_qualifiers a.params b.params) (same_qualifier b.receiver a.receiver) (same_qualifiers b.params a.params)
    (qualifier_turns a.receiver b.receiver) (qualifiers_turn a.params b.params) e

not_final : (other final : Bool) → not other ≡ true → same_flag final other ≡ true → not final ≡ true
not_final true final e f = absurd cc
not_final false true e f = absurd cc
not_final false false e f = refl

-- what agrees with one of two that are alike agrees with the other
pub agrees_alike : (w : World) (c : ClassId) (m : DeclaredMethod) (d : ClassId) (x o : DeclaredMethod) → agrees w c m d x ≡ true → alike w d o x ≡ true → agrees w c m d o ≡ true
agrees_alike w c m d x o =
    let q = λ (e : same_qualified (qualified w c m) (qualified w d x) ≡ true) (f : same_qualified (qualified w d o) (qualified w d x) ≡ true).
    qualified_pass (qualified w c m) (qualified w d x) (qualified w d o) e (qualified_turns (qualified w d o) (qualified w d x) f) in
    both_pass (same_flag m.pausable x.pausable) (same_flag m.is_static x.is_static && (not x.is_final && same_qualified (qualified w c m) (qualified w d x)))
    (same_flag o.pausable x.pausable) (same_flag o.is_static x.is_static && (same_flag o.is_final x.is_final && same_qualified (qualified w d o) (qualified w d x)))
    (same_flag m.pausable o.pausable) (same_flag m.is_static o.is_static && (not o.is_final && same_qualified (qualified w c m) (qualified w d o)))
    (flags_turn m.pausable x.pausable o.pausable)
    (both_pass (same_flag m.is_static x.is_static) (not x.is_final && same_qualified (qualified w c m) (qualified w d x))
    (same_flag o.is_static x.is_static) (same_flag o.is_final x.is_final && same_qualified (qualified w d o) (qualified w d x))
    (same_flag m.is_static o.is_static) (not o.is_final && same_qualified (qualified w c m) (qualified w d o))
    (flags_turn m.is_static x.is_static o.is_static)
    (both_pass (not x.is_final) (same_qualified (qualified w c m) (qualified w d x))
    (same_flag o.is_final x.is_final) (same_qualified (qualified w d o) (qualified w d x))
    (not o.is_final) (same_qualified (qualified w c m) (qualified w d o))
    (not_final x.is_final o.is_final) q))

kept : (private named a b : Bool) → (a ≡ true → b ≡ true) → (private && (named && not a)) ≡ false → (private && (named && not b)) ≡ false
kept false named a b f e = refl
kept true false a b f e = refl
kept true true true b f e = ap not (f refl)
kept true true false b f e = absurd cc

module _ (w : World) (c : ClassId) (m : DeclaredMethod) (d : ClassId) (o : DeclaredMethod) where
  agrees_passes : (e : ClassId) (x : DeclaredMethod) → agrees w c m d o ≡ true → agrees w d o e x ≡ true → agrees w c m e x ≡ true
  agrees_passes e x =
      let q = qualified_pass (qualified w c m) (qualified w d o) (qualified w e x) in
      both_pass (same_flag m.pausable o.pausable) (same_flag m.is_static o.is_static && (not o.is_final && same_qualified (qualified w c m) (qualified w d o)))
      (same_flag o.pausable x.pausable) (same_flag o.is_static x.is_static && (not x.is_final && same_qualified (qualified w d o) (qualified w e x)))
      (same_flag m.pausable x.pausable) (same_flag m.is_static x.is_static && (not x.is_final && same_qualified (qualified w c m) (qualified w e x)))
      (flags_pass m.pausable o.pausable x.pausable)
      (both_pass (same_flag m.is_static o.is_static) (not o.is_final && same_qualified (qualified w c m) (qualified w d o))
      (same_flag o.is_static x.is_static) (not x.is_final && same_qualified (qualified w d o) (qualified w e x))
      (same_flag m.is_static x.is_static) (not x.is_final && same_qualified (qualified w c m) (qualified w e x))
      (flags_pass m.is_static o.is_static x.is_static)
      (both_pass (not o.is_final) (same_qualified (qualified w c m) (qualified w d o))
      (not x.is_final) (same_qualified (qualified w d o) (qualified w e x))
      (not x.is_final) (same_qualified (qualified w c m) (qualified w e x))
      (λ a b. b) q))

  module _ (same : is_method m.name m.descriptor o ≡ true) (agreed : agrees w c m d o ≡ true) where
    pub same_name : o.name ≡ m.name
    same_name = text_is o.name m.name (first_of_both (bytes_eq o.name m.name) (bytes_eq o.descriptor m.descriptor) same)

    same_method : (x : DeclaredMethod) → is_method o.name o.descriptor x ≡ is_method m.name m.descriptor x
    same_method x =
        let descriptor = text_is o.descriptor m.descriptor (second_of_both (bytes_eq o.name m.name) (bytes_eq o.descriptor m.descriptor) same) in
        ap (λ (k : List ℕ). is_method k o.descriptor x) same_name ∙ ap (λ (k : List ℕ). is_method m.name k x) descriptor

    differs_less : (x : ClassId × DeclaredMethod) → differs_from w d o x ≡ false → differs_from w c m x ≡ false
    differs_less x e =
        kept (not x.1.is_private) (is_method m.name m.descriptor x.1) (agrees w d o x.0 x.1) (agrees w c m x.0 x.1)
        (agrees_passes x.0 x.1 agreed)
        (ap (λ (named : Bool). not x.1.is_private && (named && not (agrees w d o x.0 x.1))) (sym (same_method x.1)) ∙ e)

    pub differs_passes : (ds : List ClassId) → list_any (differs_in w d o) ds ≡ false → list_any (differs_in w c m) ds ≡ false
    differs_passes = none_of_less (differs_in w d o) (differs_in w c m) (λ e. none_of_less (differs_from w d o) (differs_from w c m) differs_less (map (λ other. (e, other)) (declared_methods w e)))
