-- A shape at the front of a text, token by token.
use Rattle.std.proofs.Common.{◌≡◌, ℕ, zero, suc, ◌<◌, ◌≤◌, Bool, true, false, List, [], ◌∷◌, ◌++◌, length, get_or, Some, None, refl, sym, ap, subst, ◌∙◌, arith, append_assoc}
use Rattle.std.specs.List.{flat_map}
use Rattle.std.specs.Fmt.{signed_decimal}
use Rattle.kilim_units.specs.NameText.{name_text}
use Rattle.kilim_run_state.specs.declared.value.Token.{Token}
use Rattle.kilim_run_state.specs.declared.value.Token.TheVariants.{Open, Close, Int, Long, Null, Text, Box}
use Rattle.kilim_run_journal.specs.Text.{box_text, text_unit, token_text, comma_before, is_followed, tokens_text, shape_text}
use Rattle.kilim_run_journal.specs.Readable.{TokenFits, ShapeFits, is_empty, ends_with_its_value, is_value}
use Rattle.kilim_run_journal.specs.Fronts.{IsEnded, begun_behind}
use Rattle.kilim_run_journal.proofs.Parted.{fits_32, signed_begins}
use Rattle.kilim_run_journal.proofs.Tokens.{is_ended, tokens_grouped, none_before, nothing}

-- ---- commas

-- ---- tokens take some bytes

longer : (a : List ℕ) (c : ℕ) (x : List ℕ) → length x < length (a ++ (c ∷ x))
longer [] c x = omega arith
longer (d ∷ a) c x = let rest = longer a c x in omega arith

longer_front : (a x : List ℕ) → length x ≤ length (a ++ x)
longer_front [] x = omega arith
longer_front (d ∷ a) x = let rest = longer_front a x in omega arith

some_more : (a x : List ℕ) → 0 < length a → length x < length (a ++ x)
some_more [] x some = absurd (omega arith)
some_more (d ∷ a) x some = let rest = longer_front a x in omega arith

pub takes_some : (t : Token) (x : List ℕ) → TokenFits t → length x < length (token_text t ++ x)
takes_some (Open name) x fits = some_more (name_text name ++ 40 ∷ []) x (longer (name_text name) 40 [])
takes_some Close x fits = omega arith
takes_some (Int n) x fits = let first = signed_begins n (fits_32 n fits) in some_more (signed_decimal n) x (omega (arith, ap length first.2))
takes_some (Long n) x fits = some_more (signed_decimal n ++ 76 ∷ []) x (longer (signed_decimal n) 76 [])
takes_some Null x fits = omega arith
takes_some (Text units) x fits = some_more (34 ∷ (flat_map text_unit units ++ 34 ∷ [])) x (omega arith)
takes_some (Box box) x fits = some_more (64 ∷ box_text box) x (omega arith)

pub takes_some_behind : (follows : Bool) (t : Token) (x bytes rest : List ℕ) → TokenFits t → bytes ≡ comma_before follows t ++ (token_text t ++ x) → rest ≡ x → length rest < length bytes
takes_some_behind follows t x bytes rest fits e is =
    let some = takes_some t x fits in
    let more = longer_front (comma_before follows t) (token_text t ++ x) in
    omega (arith, ap length e, ap length is, some, more)

-- ---- what has begun

pub goes_on : (begun : ℕ) (t : Token) (now : ℕ) (ts : List Token) → begun_behind begun t ≡ Some now → (now ≡ 0 → ⊥) → ends_with_its_value begun (t ∷ ts) ≡ ends_with_its_value now ts
goes_on begun (Open name) now ts is some = let n : suc begun ≡ now = cc is in ap (λ n. ends_with_its_value n ts) n
goes_on zero Close now ts is some = absurd cc
goes_on (suc zero) Close now ts is some = let n : 0 ≡ now = cc is in absurd (some (sym n))
goes_on (suc (suc begun)) Close now ts is some = let n : suc begun ≡ now = cc is in ap (λ n. ends_with_its_value n ts) n
goes_on zero t now ts is some = let n : 0 ≡ now = cc is in absurd (some (sym n))
goes_on (suc begun) t now ts is some = let n : suc begun ≡ now = cc is in ap (λ n. ends_with_its_value n ts) n

pub ends_here : (begun : ℕ) (t : Token) (now : ℕ) (ts : List Token) → begun_behind begun t ≡ Some now → now ≡ 0 → ends_with_its_value begun (t ∷ ts) ≡ is_empty ts
ends_here begun (Open name) now ts is none = let n : suc begun ≡ now = cc is in absurd (omega arith)
ends_here zero Close now ts is none = absurd cc
ends_here (suc zero) Close now ts is none = refl
ends_here (suc (suc begun)) Close now ts is none = let n : suc begun ≡ now = cc is in absurd (omega arith)
ends_here zero t now ts is none = refl
ends_here (suc begun) t now ts is none = let n : suc begun ≡ now = cc is in absurd (omega arith)

pub can_go_on : (begun : ℕ) (t : Token) (ts : List Token) → begun_behind begun t ≡ None → ends_with_its_value begun (t ∷ ts) ≡ true → ⊥
can_go_on begun (Open name) ts is h = cc is
can_go_on zero Close ts is h = cc h
can_go_on (suc zero) Close ts is h = cc is
can_go_on (suc (suc begun)) Close ts is h = cc is
can_go_on zero t ts is h = cc is
can_go_on (suc begun) t ts is h = cc is

-- ---- the shape so far

-- These tokens and what is left have the text that the shape has which began here.
pub record ShapeSoFar (bytes : List ℕ) (done : List Token) (begun : ℕ) (follows : Bool) (rest : List ℕ) : Type 0 where
  pub fits : ShapeFits done
  pub same : (ts : List Token) → ends_with_its_value begun ts ≡ ends_with_its_value 0 (done ++ ts)
  pub right : (ts : List Token) (x : List ℕ) → is_value ts ≡ true → ShapeFits ts → bytes ≡ shape_text ts ++ (10 ∷ x) → (left : List Token) × (ts ≡ done ++ left) × ShapeFits left × (rest ≡ tokens_text follows left ++ (10 ∷ x))

-- the next token of what is left
pub record Left (bytes : List ℕ) (done : List Token) (begun : ℕ) (follows : Bool) (rest : List ℕ) (ts : List Token) (x : List ℕ) : Type 0 where
  pub token : Token
  pub others : List Token
  pub tokens : ts ≡ done ++ (token ∷ others)
  pub fits : TokenFits token
  pub others_fit : ShapeFits others
  pub ended : IsEnded token (tokens_text (is_followed token) others ++ (10 ∷ x))
  pub text : rest ≡ comma_before follows token ++ (token_text token ++ (tokens_text (is_followed token) others ++ (10 ∷ x)))
  pub ends : ends_with_its_value begun (token ∷ others) ≡ true

left_of : (bytes : List ℕ) (done : List Token) (begun : ℕ) (follows : Bool) (rest : List ℕ) (ts left : List Token) (x : List ℕ) → ts ≡ done ++ left → ShapeFits left → rest ≡ tokens_text follows left ++ (10 ∷ x) → ends_with_its_value begun left ≡ true → Left bytes done begun follows rest ts x
left_of bytes done begun follows rest ts [] x is fit text ends = absurd cc
left_of bytes done begun follows rest ts (t ∷ left) x is fit text ends = record {
  token = t;
  others = left;
  tokens = is;
  fits = fit.0;
  others_fit = fit.1;
  ended = is_ended t left x;
  text = text ∙ tokens_grouped follows t left (10 ∷ x);
  ends = ends;
}

pub left : (bytes : List ℕ) (done : List Token) (begun : ℕ) (follows : Bool) (rest : List ℕ) → ShapeSoFar bytes done begun follows rest → (ts : List Token) (x : List ℕ) → is_value ts ≡ true → ShapeFits ts → bytes ≡ shape_text ts ++ (10 ∷ x) → Left bytes done begun follows rest ts x
left bytes done begun follows rest s ts x value fit e =
    let so = s.right ts x value fit e in
    left_of bytes done begun follows rest ts so.0 x so.1 so.2 so.3 (s.same so.0 ∙ (sym (ap (ends_with_its_value 0) so.1) ∙ value))

all_more : (fs : List Token) (q : Token) → ShapeFits fs → TokenFits q → ShapeFits (fs ++ q ∷ [])
all_more [] q a p = (p, tt)
all_more (x ∷ fs) q a p = (a.0, all_more fs q a.1 p)

-- what `next_at` says of a token and the bytes behind it
abbrev pub Read : List ℕ → Bool → Token → List ℕ → Type 0
Read rest follows token behind = (t : Token) (x : List ℕ) → TokenFits t → IsEnded t x → rest ≡ comma_before follows t ++ (token_text t ++ x) → (token ≡ t) × (behind ≡ x)

pub shape_goes_on : (bytes : List ℕ) (done : List Token) (begun : ℕ) (follows : Bool) (rest : List ℕ) (token : Token) (behind : List ℕ) (now : ℕ) (followed : Bool) (all : List Token) → ShapeSoFar bytes done begun follows rest → Read rest follows token behind → TokenFits token → begun_behind begun token ≡ Some now → (now ≡ 0 → ⊥) → followed ≡ is_followed token → all ≡ done ++ token ∷ [] → ShapeSoFar bytes all now followed behind
shape_goes_on bytes done begun follows rest token behind now followed all s read fit is some f e =
    subst (λ all. ShapeSoFar bytes all now followed behind) (sym e) (subst (λ g. ShapeSoFar bytes (done ++ token ∷ []) now g behind) (sym f) (record {
      fits = all_more done token s.fits fit;
      same = λ ts. sym (goes_on begun token now ts is some) ∙ (s.same (token ∷ ts) ∙ sym (ap (ends_with_its_value 0) (append_assoc done (token ∷ []) ts)));
      right = λ ts x value fits text.
          let l = left bytes done begun follows rest s ts x value fits text in
          let found = read l.token (tokens_text (is_followed l.token) l.others ++ (10 ∷ x)) l.fits l.ended l.text in (
            l.others,
            l.tokens ∙ (ap (λ t. done ++ (t ∷ l.others)) (sym found.0) ∙ sym (append_assoc done (token ∷ []) l.others)),
            l.others_fit,
            found.1 ∙ ap (λ t. tokens_text (is_followed t) l.others ++ (10 ∷ x)) (sym found.0),
          );
    }))

pub shape_ends : (bytes : List ℕ) (done : List Token) (begun : ℕ) (follows : Bool) (rest : List ℕ) (token : Token) (behind : List ℕ) (now : ℕ) (all : List Token) → ShapeSoFar bytes done begun follows rest → Read rest follows token behind → begun_behind begun token ≡ Some now → now ≡ 0 → all ≡ done ++ token ∷ [] → (ts : List Token) (x : List ℕ) → is_value ts ≡ true → ShapeFits ts → bytes ≡ shape_text ts ++ (10 ∷ x) → all ≡ ts
shape_ends bytes done begun follows rest token behind now all s read is none e ts x value fits text =
    let l = left bytes done begun follows rest s ts x value fits text in
    let found = read l.token (tokens_text (is_followed l.token) l.others ++ (10 ∷ x)) l.fits l.ended l.text in
    let last : is_empty l.others ≡ true = sym (ends_here begun token now l.others is none) ∙ (ap (λ t. ends_with_its_value begun (t ∷ l.others)) found.0 ∙ l.ends) in
    e ∙ (ap (λ t. done ++ (t ∷ [])) found.0 ∙ (sym (ap (λ ts. done ++ (l.token ∷ ts)) (nothing l.others last)) ∙ sym l.tokens))

pub shape_is : (bytes : List ℕ) (done : List Token) (begun : ℕ) (follows : Bool) (rest : List ℕ) (token : Token) (now : ℕ) (all : List Token) → ShapeSoFar bytes done begun follows rest → TokenFits token → begun_behind begun token ≡ Some now → now ≡ 0 → all ≡ done ++ token ∷ [] → (is_value all ≡ true) × ShapeFits all
shape_is bytes done begun follows rest token now all s fit is none e =
    subst (λ all. (is_value all ≡ true) × ShapeFits all) (sym e) (sym (s.same (token ∷ [])) ∙ ends_here begun token now [] is none, all_more done token s.fits fit)

pub shape_stops : (bytes : List ℕ) (done : List Token) (begun : ℕ) (follows : Bool) (rest : List ℕ) (token : Token) (behind : List ℕ) → ShapeSoFar bytes done begun follows rest → Read rest follows token behind → begun_behind begun token ≡ None → (ts : List Token) (x : List ℕ) → is_value ts ≡ true → ShapeFits ts → bytes ≡ shape_text ts ++ (10 ∷ x) → ⊥
shape_stops bytes done begun follows rest token behind s read is ts x value fits text =
    let l = left bytes done begun follows rest s ts x value fits text in
    let found = read l.token (tokens_text (is_followed l.token) l.others ++ (10 ∷ x)) l.fits l.ended l.text in
    can_go_on begun token l.others is (ap (λ t. ends_with_its_value begun (t ∷ l.others)) found.0 ∙ l.ends)

pub shape_unread : (bytes : List ℕ) (done : List Token) (begun : ℕ) (follows : Bool) (rest : List ℕ) → ShapeSoFar bytes done begun follows rest → ((t : Token) (x : List ℕ) → TokenFits t → IsEnded t x → rest ≡ comma_before follows t ++ (token_text t ++ x) → ⊥) → (ts : List Token) (x : List ℕ) → is_value ts ≡ true → ShapeFits ts → bytes ≡ shape_text ts ++ (10 ∷ x) → ⊥
shape_unread bytes done begun follows rest s none ts x value fits text =
    let l = left bytes done begun follows rest s ts x value fits text in
    none l.token (tokens_text (is_followed l.token) l.others ++ (10 ∷ x)) l.fits l.ended l.text

pub shape_out : (bytes : List ℕ) (done : List Token) (begun : ℕ) (follows : Bool) (rest : List ℕ) → ShapeSoFar bytes done begun follows rest → length rest ≡ 0 → (ts : List Token) (x : List ℕ) → is_value ts ≡ true → ShapeFits ts → bytes ≡ shape_text ts ++ (10 ∷ x) → ⊥
shape_out bytes done begun follows rest s none ts x value fits text =
    let l = left bytes done begun follows rest s ts x value fits text in
    let some = takes_some_behind follows l.token _ rest _ l.fits l.text refl in
    absurd (omega arith)
