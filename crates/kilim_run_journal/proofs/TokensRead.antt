-- Units and tokens at the front of a text.
use Rattle.std.proofs.Common.{◌≡◌, ℕ, ◌<◌, ◌^◌, Bool, true, false, List, [], ◌∷◌, ◌++◌, length, get_or, refl, sym, ap, subst, ◌∙◌, arith, rules, append_assoc, ℤ}
use Rattle.std.specs.Prelude.{FitsSigned, if◌then◌else◌, ◌==◌}
use Rattle.std.specs.Int.{w32, w64}
use Rattle.std.specs.List.{AllByRecursion, flat_map}
use Rattle.kilim_program.specs.declared.names.BoxName.{BoxName}
use Rattle.kilim_run_state.specs.declared.value.Token.{Token}
use Rattle.kilim_run_state.specs.declared.value.Token.TheVariants.{Open, Close, Int, Long, Null, Text, Box}
use Rattle.kilim_units.specs.NameText.{name_unit}
use Rattle.kilim_run_journal.specs.Text.{token_text, text_unit}
use Rattle.kilim_run_journal.specs.Readable.{BoxFits, UnitsFit, TokenFits}
use Rattle.kilim_run_journal.specs.Fronts.{unit_text, is_number_unit, AfterValue, IsEnded, opens}
use Rattle.kilim_run_journal.proofs.Tokens.{Kind, Closes, Ints, Longs, Nulls, Texts, Boxes, kind, kind_at, kind_of, is_long, opens_is, word_is, kind_is}
use Rattle.kilim_run_journal.proofs.Units.{unit_goes_on}

-- ---- units

-- These units and what is left have the text that the units have which began here.
pub record UnitsSoFar (bytes : List ℕ) (end : ℕ) (done rest : List ℕ) : Type 0 where
  pub fits : UnitsFit done
  pub right : (stands : ℕ → Bool) (us x : List ℕ) → stands 92 ≡ false → stands end ≡ false → (end ≡ 92 → ⊥) → UnitsFit us → bytes ≡ flat_map (unit_text stands) us ++ (end ∷ x) → (left : List ℕ) × (us ≡ done ++ left) × UnitsFit left × (rest ≡ flat_map (unit_text stands) left ++ (end ∷ x))

all_more : (P : ℕ → Type 0) (fs : List ℕ) (q : ℕ) → AllByRecursion P fs → P q → AllByRecursion P (fs ++ q ∷ [])
all_more P [] q a p = (p, tt)
all_more P (x ∷ fs) q a p = (a.0, all_more P fs q a.1 p)

grouped : (stands : ℕ → Bool) (u : ℕ) (us : List ℕ) (end : ℕ) (x : List ℕ) → flat_map (unit_text stands) (u ∷ us) ++ (end ∷ x) ≡ unit_text stands u ++ (flat_map (unit_text stands) us ++ (end ∷ x))
grouped stands u us end x = append_assoc (unit_text stands u) (flat_map (unit_text stands) us) (end ∷ x)

-- what is left begins with what ends it, or with a unit
left_begins : (stands : ℕ → Bool) (left : List ℕ) (end first : ℕ) (x behind : List ℕ) → stands end ≡ false → (end ≡ 92 → ⊥) → first ∷ behind ≡ flat_map (unit_text stands) left ++ (end ∷ x) → first ≡ end → (left ≡ []) × (behind ≡ x)
left_begins stands [] end first x behind ends other e is = (refl, cc)
left_begins stands (u ∷ left) end first x behind ends other e is =
    let plain : end ∷ behind ≡ unit_text stands u ++ (flat_map (unit_text stands) left ++ (end ∷ x)) = ap (λ c. c ∷ behind) (sym is) ∙ (e ∙ grouped stands u left end x) in
    absurd (unit_goes_on stands end ends other u behind _ plain)

-- Some units are left where what is left doesn't begin with what ends them.
some_left : (stands : ℕ → Bool) (left : List ℕ) (end : ℕ) (x rest : List ℕ) → rest ≡ flat_map (unit_text stands) left ++ (end ∷ x) → (get_or rest 0 0 ≡ end → ⊥) → (u : ℕ) × (us : List ℕ) × (left ≡ u ∷ us) × (rest ≡ unit_text stands u ++ (flat_map (unit_text stands) us ++ (end ∷ x)))
some_left stands [] end x rest e differs = absurd (differs (ap (λ bs. get_or bs 0 0) e))
some_left stands (u ∷ left) end x rest e differs = (u, left, refl, e ∙ grouped stands u left end x)

pub units_go_on : (bytes : List ℕ) (end : ℕ) (done rest : List ℕ) (u : ℕ) (behind now : List ℕ) → UnitsSoFar bytes end done rest → (get_or rest 0 0 ≡ end → ⊥) → ((stands : ℕ → Bool) (v : ℕ) (x : List ℕ) → stands 92 ≡ false → v < 2 ^ 16 → rest ≡ unit_text stands v ++ x → (u ≡ v) × (behind ≡ x)) → u < 2 ^ 16 → now ≡ done ++ u ∷ [] → UnitsSoFar bytes end now behind
units_go_on bytes end done rest u behind now s differs read small is =
    subst (λ now. UnitsSoFar bytes end now behind) (sym is) (record {
      fits = all_more (λ v. v < 2 ^ 16) done u s.fits small;
      right = λ stands us x slash ends other fit e.
          let so = s.right stands us x slash ends other fit e in
          let next = some_left stands so.0 end x rest so.3 differs in
          let fits : UnitsFit (next.0 ∷ next.1) = subst UnitsFit next.2 so.2 in
          let found = read stands next.0 (flat_map (unit_text stands) next.1 ++ (end ∷ x)) slash fits.0 next.3 in
          let units : us ≡ done ++ (u ∷ next.1) = so.1 ∙ (ap (λ left. done ++ left) next.2 ∙ ap (λ v. done ++ (v ∷ next.1)) (sym found.0)) in
          (next.1, units ∙ sym (append_assoc done (u ∷ []) next.1), fits.1, found.1);
    })

pub units_none : (bytes : List ℕ) (end : ℕ) (done rest : List ℕ) → UnitsSoFar bytes end done rest → (get_or rest 0 0 ≡ end → ⊥) → ((stands : ℕ → Bool) (v : ℕ) (x : List ℕ) → stands 92 ≡ false → v < 2 ^ 16 → rest ≡ unit_text stands v ++ x → ⊥) → (stands : ℕ → Bool) (us x : List ℕ) → stands 92 ≡ false → stands end ≡ false → (end ≡ 92 → ⊥) → UnitsFit us → bytes ≡ flat_map (unit_text stands) us ++ (end ∷ x) → ⊥
units_none bytes end done rest s differs read stands us x slash ends other fit e =
    let so = s.right stands us x slash ends other fit e in
    let next = some_left stands so.0 end x rest so.3 differs in
    let fits : UnitsFit (next.0 ∷ next.1) = subst UnitsFit next.2 so.2 in
    read stands next.0 (flat_map (unit_text stands) next.1 ++ (end ∷ x)) slash fits.0 next.3

not_empty : (a : List ℕ) (c : ℕ) (x : List ℕ) → 0 < length (a ++ (c ∷ x))
not_empty [] c x = omega arith
not_empty (d ∷ a) c x = omega arith

pub units_out : (bytes : List ℕ) (end : ℕ) (done rest : List ℕ) → UnitsSoFar bytes end done rest → length rest ≡ 0 → (stands : ℕ → Bool) (us x : List ℕ) → stands 92 ≡ false → stands end ≡ false → (end ≡ 92 → ⊥) → UnitsFit us → bytes ≡ flat_map (unit_text stands) us ++ (end ∷ x) → ⊥
units_out bytes end done rest s none stands us x slash ends other fit e =
    let so = s.right stands us x slash ends other fit e in
    let some = not_empty (flat_map (unit_text stands) so.0) end x in
    absurd (omega (arith, ap length so.3))

nothing_more : (xs : List ℕ) → xs ++ [] ≡ xs
nothing_more [] = refl
nothing_more (x ∷ xs) = ap (λ ys. x ∷ ys) (nothing_more xs)

pub units_end : (bytes : List ℕ) (end : ℕ) (done rest : List ℕ) (first : ℕ) (others : List ℕ) → UnitsSoFar bytes end done rest → rest ≡ first ∷ others → first ≡ end → (stands : ℕ → Bool) (us x : List ℕ) → stands 92 ≡ false → stands end ≡ false → (end ≡ 92 → ⊥) → UnitsFit us → bytes ≡ flat_map (unit_text stands) us ++ (end ∷ x) → (done ≡ us) × (others ≡ x)
units_end bytes end done rest first others s at is stands us x slash ends other fit e =
    let so = s.right stands us x slash ends other fit e in
    let last = left_begins stands so.0 end first x others ends other (sym at ∙ so.3) is in
    (sym (so.1 ∙ (ap (λ left. done ++ left) last.0 ∙ nothing_more done)), last.1)

pub not_at_end : (rest : List ℕ) (first end : ℕ) (others : List ℕ) → rest ≡ first ∷ others → (first ≡ end → ⊥) → get_or rest 0 0 ≡ end → ⊥
not_at_end rest first end others at differs is = differs (sym (ap (λ bs. get_or bs 0 0) at) ∙ is)

-- ---- tokens

kind_here : (t : Token) (x bytes : List ℕ) → TokenFits t → IsEnded t x → bytes ≡ token_text t ++ x → kind_of bytes ≡ kind t
kind_here t x bytes h ended e = ap kind_of e ∙ kind_is t x h ended

plain_kind : (t : Token) (x bytes : List ℕ) → opens bytes ≡ false → TokenFits t → IsEnded t x → bytes ≡ token_text t ++ x → kind_at bytes ≡ kind t
plain_kind t x bytes plain h ended e = sym (word_is bytes plain) ∙ kind_here t x bytes h ended e

abbrev is_number_kind : Kind → Bool
is_number_kind Ints = true
is_number_kind Longs = true
is_number_kind k = false

either_number : (b : Bool) → is_number_kind (if b then Longs else Ints) ≡ true
either_number true = refl
either_number false = refl

starts_number : (first : ℕ) (others : List ℕ) → is_number_unit first ≡ true → kind_at (first ∷ others) ≡ if is_long (first ∷ others) then Longs else Ints
starts_number first others h = rw h refl

apart : (q k : ℕ) → (q ≡ k → ⊥) → (q == k) ≡ false
apart q k ne = search rules

starts_null : (first : ℕ) (others : List ℕ) → is_number_unit first ≡ false → (first == 34) ≡ false → (first == 41) ≡ false → (first == 64) ≡ false → kind_at (first ∷ others) ≡ Nulls
starts_null first others a b c d = rw (a, b, c, d) refl

-- which token begins there, by what its text begins with
pub opening_arm : (G : Token → List ℕ → Type 0) (bytes : List ℕ) → opens bytes ≡ true → ((name x : List ℕ) → UnitsFit name → bytes ≡ token_text (Open name) ++ x → G (Open name) x) → (t : Token) (x : List ℕ) → TokenFits t → IsEnded t x → bytes ≡ token_text t ++ x → G t x
opening_arm G bytes h found (Open name) x fits ended e = found name x fits e
opening_arm G bytes h found t x fits ended e = let k = sym (opens_is bytes h) ∙ kind_here t x bytes fits ended e in absurd cc

pub number_arm : (G : Token → List ℕ → Type 0) (bytes : List ℕ) (first : ℕ) (others : List ℕ) → bytes ≡ first ∷ others → is_number_unit first ≡ true → ((n : ℤ) (x : List ℕ) → FitsSigned w32 n → AfterValue x → bytes ≡ token_text (Int n) ++ x → G (Int n) x) → ((n : ℤ) (x : List ℕ) → FitsSigned w64 n → bytes ≡ token_text (Long n) ++ x → G (Long n) x) → (t : Token) (x : List ℕ) → opens bytes ≡ false → TokenFits t → IsEnded t x → bytes ≡ token_text t ++ x → G t x
number_arm G bytes first others at h int long (Int n) x plain fits ended e = int n x fits ended e
number_arm G bytes first others at h int long (Long n) x plain fits ended e = long n x fits e
number_arm G bytes first others at h int long t x plain fits ended e =
    let k : kind_at bytes ≡ kind t = plain_kind t x bytes plain fits ended e in
    let n : is_number_kind (kind t) ≡ true = ap is_number_kind (sym k ∙ (ap kind_at at ∙ starts_number first others h)) ∙ either_number _ in
    absurd cc

pub text_arm : (G : Token → List ℕ → Type 0) (bytes others : List ℕ) → bytes ≡ 34 ∷ others → ((units x : List ℕ) → UnitsFit units → bytes ≡ token_text (Text units) ++ x → G (Text units) x) → (t : Token) (x : List ℕ) → opens bytes ≡ false → TokenFits t → IsEnded t x → bytes ≡ token_text t ++ x → G t x
text_arm G bytes others at found (Text units) x plain fits ended e = found units x fits e
text_arm G bytes others at found t x plain fits ended e =
    let k : Texts ≡ kind t = sym (ap kind_at at) ∙ plain_kind t x bytes plain fits ended e in
    absurd cc

pub close_arm : (G : Token → List ℕ → Type 0) (bytes others : List ℕ) → bytes ≡ 41 ∷ others → ((x : List ℕ) → bytes ≡ token_text Close ++ x → G Close x) → (t : Token) (x : List ℕ) → opens bytes ≡ false → TokenFits t → IsEnded t x → bytes ≡ token_text t ++ x → G t x
close_arm G bytes others at found Close x plain fits ended e = found x e
close_arm G bytes others at found t x plain fits ended e =
    let k : Closes ≡ kind t = sym (ap kind_at at) ∙ plain_kind t x bytes plain fits ended e in
    absurd cc

pub box_arm : (G : Token → List ℕ → Type 0) (bytes others : List ℕ) → bytes ≡ 64 ∷ others → ((b : BoxName) (x : List ℕ) → BoxFits b → AfterValue x → bytes ≡ token_text (Box b) ++ x → G (Box b) x) → (t : Token) (x : List ℕ) → opens bytes ≡ false → TokenFits t → IsEnded t x → bytes ≡ token_text t ++ x → G t x
box_arm G bytes others at found (Box b) x plain fits ended e = found b x fits ended e
box_arm G bytes others at found t x plain fits ended e =
    let k : Boxes ≡ kind t = sym (ap kind_at at) ∙ plain_kind t x bytes plain fits ended e in
    absurd cc

pub null_arm : (G : Token → List ℕ → Type 0) (bytes : List ℕ) (first : ℕ) (others : List ℕ) → bytes ≡ first ∷ others → is_number_unit first ≡ false → (first ≡ 34 → ⊥) → (first ≡ 41 → ⊥) → (first ≡ 64 → ⊥) → ((x : List ℕ) → bytes ≡ token_text Null ++ x → G Null x) → (t : Token) (x : List ℕ) → opens bytes ≡ false → TokenFits t → IsEnded t x → bytes ≡ token_text t ++ x → G t x
null_arm G bytes first others at h a b c found Null x plain fits ended e = found x e
null_arm G bytes first others at h a b c found t x plain fits ended e =
    let k : Nulls ≡ kind t = sym (ap kind_at at ∙ starts_null first others h (apart first 34 a) (apart first 41 b) (apart first 64 c)) ∙ plain_kind t x bytes plain fits ended e in
    absurd cc

pub not_slash_40 : ◌≡◌ {A = ℕ} 40 92 → ⊥
not_slash_40 e = absurd (omega arith)

pub not_slash_34 : ◌≡◌ {A = ℕ} 34 92 → ⊥
not_slash_34 e = absurd (omega arith)

pub named : (name others x : List ℕ) (n : List ℕ) → (n ≡ name) × (others ≡ x) → (Open n ≡ Open name) × (others ≡ x)
named name others x n h = (ap Open h.0, h.1)

pub written : (units others x : List ℕ) (u : List ℕ) → (u ≡ units) × (others ≡ x) → (Text u ≡ Text units) × (others ≡ x)
written units others x u h = (ap Text h.0, h.1)

-- a name is its units and a parenthesis, a text its units and a quotation mark
pub name_parts : (bytes name x : List ℕ) → bytes ≡ token_text (Open name) ++ x → bytes ≡ flat_map name_unit name ++ (40 ∷ x)
name_parts bytes name x e = e ∙ append_assoc (flat_map name_unit name) (40 ∷ []) x

pub text_parts : (bytes units x : List ℕ) → 34 ∷ bytes ≡ token_text (Text units) ++ x → bytes ≡ flat_map text_unit units ++ (34 ∷ x)
text_parts bytes units x e = let inside : bytes ≡ (flat_map text_unit units ++ 34 ∷ []) ++ x = cc in inside ∙ append_assoc (flat_map text_unit units) (34 ∷ []) x

pub found_close : (bytes others : List ℕ) → bytes ≡ 41 ∷ others → (x : List ℕ) → bytes ≡ token_text Close ++ x → (Close ≡ Close) × (others ≡ x)
found_close bytes others at x e = let same : 41 ∷ others ≡ 41 ∷ x = sym at ∙ e in (refl, cc)

pub at_unit : (bytes : List ℕ) (first unit : ℕ) (others : List ℕ) → bytes ≡ first ∷ others → first ≡ unit → bytes ≡ unit ∷ others
at_unit bytes first unit others at is = at ∙ ap (λ c. c ∷ others) is
