-- Tokens: what a token is written as, before what may come after it, it is read as.
use Rattle.std.proofs.Common.{◌≡◌, ℕ, zero, suc, ◌<◌, ◌^◌, Bool, true, false, List, [], ◌∷◌, ◌++◌, refl, sym, ap, subst, ◌⊎◌, ◌∙◌, inl, inr, append_assoc, arith, ℤ, drop}
use Rattle.std.specs.Prelude.{if◌then◌else◌, ◌==◌}
use Rattle.std.specs.List.{flat_map, list_all}
use Rattle.std.specs.Fmt.{decimal, signed_decimal}
use Rattle.std.specs.Int.Signed.{mag}
use Rattle.std.proofs.lemmas.Bool.{and_from, and_parts, false≢true}
use Rattle.std.proofs.lemmas.Bool.Decides.{nat_tests}
use Rattle.kilim_program.specs.declared.names.BoxName.{BoxName}
use Rattle.kilim_run_state.specs.declared.value.Token.{Token}
use Rattle.kilim_run_state.specs.declared.value.Token.TheVariants.{Open, Close, Int, Long, Null, Text, Box}
use Rattle.kilim_units.specs.NameText.{name_text}
use Rattle.kilim_run_journal.specs.Text.{box_text, text_unit, token_text, comma_before, is_followed, tokens_text}
use Rattle.kilim_run_journal.specs.Readable.{BoxFits, TokenFits, ShapeFits, is_empty, ends_with_its_value}
use Rattle.kilim_run_journal.specs.Fronts.{ends_at, is_number_unit, is_in_word, AfterValue, comma, parenthesis, line_feed, IsEnded, opens}
use Rattle.kilim_run_journal.proofs.Parted.{first_units, decimal_pass, signed_pass, decimals_parted, signed_parted, fits_32, fits_64, signed_begins}
use Rattle.kilim_run_journal.proofs.Units.{name_in_word, names_parted, texts_parted}

-- whether the first number is a Long
abbrev pub is_long : List ℕ → Bool
is_long [] = false
is_long (c ∷ cs) = if is_number_unit c then is_long cs else c == 76

-- Which of its variants a token is. A text tells it.
pub data Kind : Type 0 where
  Opens : Kind
  Closes : Kind
  Ints : Kind
  Longs : Kind
  Nulls : Kind
  Texts : Kind
  Boxes : Kind

abbrev pub kind : Token → Kind
kind (Open name) = Opens
kind Close = Closes
kind (Int n) = Ints
kind (Long n) = Longs
kind Null = Nulls
kind (Text units) = Texts
kind (Box box) = Boxes

-- the kind of the first token of a text whose first word is no name
abbrev pub kind_at : List ℕ → Kind
kind_at [] = Nulls
kind_at (c ∷ cs) = if is_number_unit c then (if is_long (c ∷ cs) then Longs else Ints) else if c == 34 then Texts else if c == 41 then Closes else if c == 64 then Boxes else Nulls

-- the kind of the first token
abbrev pub kind_of : List ℕ → Kind
kind_of text = if opens text then Opens else kind_at text

opens_past : (a x : List ℕ) → list_all is_in_word a ≡ true → opens (a ++ x) ≡ opens x
opens_past [] x h = refl
opens_past (c ∷ a) x h =
    let both = and_parts (is_in_word c) (list_all is_in_word a) h in
    rw both.0 (opens_past a x both.1)

is_long_past : (a x : List ℕ) → list_all is_number_unit a ≡ true → is_long (a ++ x) ≡ is_long x
is_long_past [] x h = refl
is_long_past (c ∷ a) x h =
    let both = and_parts (is_number_unit c) (list_all is_number_unit a) h in
    rw both.0 (is_long_past a x both.1)

after_opens : (x : List ℕ) → AfterValue x → opens x ≡ false
after_opens x (comma y) = refl
after_opens x (parenthesis y) = refl
after_opens x (line_feed y) = refl

pub after_is_long : (x : List ℕ) → AfterValue x → is_long x ≡ false
after_is_long x (comma y) = refl
after_is_long x (parenthesis y) = refl
after_is_long x (line_feed y) = refl

pub after_number : (x : List ℕ) → AfterValue x → ends_at is_number_unit x ≡ true
after_number x (comma y) = refl
after_number x (parenthesis y) = refl
after_number x (line_feed y) = refl

unit_in_word : (c : ℕ) → is_number_unit c ≡ true → is_in_word c ≡ true
unit_in_word c h = grind (arith, nat_tests)

number_in_word : (a : List ℕ) → list_all is_number_unit a ≡ true → list_all is_in_word a ≡ true
number_in_word [] h = refl
number_in_word (c ∷ a) h =
    let both = and_parts (is_number_unit c) (list_all is_number_unit a) h in
    and_from (is_in_word c) (list_all is_in_word a) (unit_in_word c both.0) (number_in_word a both.1)

pub opens_is : (text : List ℕ) → opens text ≡ true → kind_of text ≡ Opens
opens_is text h = rw h refl

pub word_is : (text : List ℕ) → opens text ≡ false → kind_of text ≡ kind_at text
word_is text h = rw h refl

number_is : (z : ℤ) (x : List ℕ) → mag z < 2 ^ 63 → kind_at (signed_decimal z ++ x) ≡ if is_long (signed_decimal z ++ x) then Longs else Ints
number_is z x h =
    let first = signed_begins z h in
    rw (first.2, first.3) refl

number_word : (z : ℤ) (x : List ℕ) → mag z < 2 ^ 63 → opens x ≡ false → kind_of (signed_decimal z ++ x) ≡ if is_long x then Longs else Ints
number_word z x h ends =
    let pass = signed_pass z h in
    let word : opens (signed_decimal z ++ x) ≡ false = opens_past (signed_decimal z) x (number_in_word (signed_decimal z) pass) ∙ ends in
    word_is (signed_decimal z ++ x) word ∙ (number_is z x h ∙ rw (is_long_past (signed_decimal z) x pass) refl)

decimal_in_word : (n : ℕ) → n < 2 ^ 32 → list_all is_in_word (decimal n) ≡ true
decimal_in_word n h = number_in_word (decimal n) (decimal_pass n (omega arith))

box_word : (box : BoxName) (x : List ℕ) → BoxFits box → opens (box_text box ++ x) ≡ opens x
box_word box x h =
    let second : opens (decimal box.number ++ x) ≡ opens x = opens_past (decimal box.number) x (decimal_in_word box.number h.1) in
    let first : opens (decimal box.task ++ (46 ∷ (decimal box.number ++ x))) ≡ opens (46 ∷ (decimal box.number ++ x)) = opens_past (decimal box.task) (46 ∷ (decimal box.number ++ x)) (decimal_in_word box.task h.0) in
    ap opens (append_assoc (decimal box.task) (46 ∷ decimal box.number) x) ∙ (first ∙ second)

-- the text of a token tells its kind
pub kind_is : (t : Token) (x : List ℕ) → TokenFits t → IsEnded t x → kind_of (token_text t ++ x) ≡ kind t
kind_is (Open name) x h ended = opens_is ((name_text name ++ 40 ∷ []) ++ x) (ap opens (append_assoc (name_text name) (40 ∷ []) x) ∙ opens_past (name_text name) (40 ∷ x) (name_in_word name))
kind_is Close x h ended = refl
kind_is (Int n) x h ended = number_word n x (fits_32 n h) (after_opens x ended) ∙ rw (after_is_long x ended) refl
kind_is (Long n) x h ended = ap kind_of (append_assoc (signed_decimal n) (76 ∷ []) x) ∙ number_word n (76 ∷ x) (fits_64 n h) (after_opens x ended)
kind_is Null x h ended = rw (after_opens x ended) refl
kind_is (Text units) x h ended = refl
kind_is (Box box) x h ended = rw (box_word box x h, after_opens x ended) refl

-- equal texts that begin with a mailbox, whose number ends there, begin with the same mailbox
pub boxes_parted : (a b : BoxName) (x y : List ℕ) → BoxFits a → BoxFits b → ends_at is_number_unit x ≡ true → ends_at is_number_unit y ≡ true → box_text a ++ x ≡ box_text b ++ y → (a ≡ b) × (x ≡ y)
boxes_parted a b x y ha hb hx hy e =
    let grouped : decimal a.task ++ (46 ∷ (decimal a.number ++ x)) ≡ decimal b.task ++ (46 ∷ (decimal b.number ++ y)) = sym (append_assoc (decimal a.task) (46 ∷ decimal a.number) x) ∙ (e ∙ append_assoc (decimal b.task) (46 ∷ decimal b.number) y) in
    let first = decimals_parted a.task b.task (46 ∷ (decimal a.number ++ x)) (46 ∷ (decimal b.number ++ y)) (omega arith) (omega arith) refl refl grouped in
    let point = first.1 in
    let rest : decimal a.number ++ x ≡ decimal b.number ++ y = cc point in
    let second = decimals_parted a.number b.number x y (omega arith) (omega arith) hx hy rest in
    (λ i. record { task = first.0 i; number = second.0 i }, second.1)

abbrev same_kind : Kind → Kind → Bool
same_kind Opens Opens = true
same_kind Closes Closes = true
same_kind Ints Ints = true
same_kind Longs Longs = true
same_kind Nulls Nulls = true
same_kind Texts Texts = true
same_kind Boxes Boxes = true
same_kind k l = false

behind : (n : ℕ) (xs ys : List ℕ) → xs ≡ ys → drop n xs ≡ drop n ys
behind n xs ys e = ap (λ (bs : List ℕ). drop n bs) e

same_token : (t u : Token) (x y : List ℕ) → TokenFits t → TokenFits u → IsEnded t x → IsEnded u y → kind t ≡ kind u → token_text t ++ x ≡ token_text u ++ y → (t ≡ u) × (x ≡ y)
same_token (Open a) (Open b) x y ht hu tx uy k e =
    let both = names_parted a b x y (sym (append_assoc (name_text a) (40 ∷ []) x) ∙ (e ∙ append_assoc (name_text b) (40 ∷ []) y)) in
    (ap Open both.0, both.1)
same_token Close Close x y ht hu tx uy k e = (refl, behind 1 (41 ∷ x) (41 ∷ y) e)
same_token (Int m) (Int n) x y ht hu tx uy k e =
    let both = signed_parted m n x y (fits_32 m ht) (fits_32 n hu) (after_number x tx) (after_number y uy) e in
    (ap Int both.0, both.1)
same_token (Long m) (Long n) x y ht hu tx uy k e =
    let both = signed_parted m n (76 ∷ x) (76 ∷ y) (fits_64 m ht) (fits_64 n hu) refl refl (sym (append_assoc (signed_decimal m) (76 ∷ []) x) ∙ (e ∙ append_assoc (signed_decimal n) (76 ∷ []) y)) in
    (ap Long both.0, behind 1 (76 ∷ x) (76 ∷ y) both.1)
same_token Null Null x y ht hu tx uy k e = (refl, behind 4 (token_text Null ++ x) (token_text Null ++ y) e)
same_token (Text a) (Text b) x y ht hu tx uy k e =
    let inside : (flat_map text_unit a ++ 34 ∷ []) ++ x ≡ (flat_map text_unit b ++ 34 ∷ []) ++ y = behind 1 (token_text (Text a) ++ x) (token_text (Text b) ++ y) e in
    let both = texts_parted a b x y (sym (append_assoc (flat_map text_unit a) (34 ∷ []) x) ∙ (inside ∙ append_assoc (flat_map text_unit b) (34 ∷ []) y)) in
    (ap Text both.0, both.1)
same_token (Box a) (Box b) x y ht hu tx uy k e =
    let inside : box_text a ++ x ≡ box_text b ++ y = behind 1 (token_text (Box a) ++ x) (token_text (Box b) ++ y) e in
    let both = boxes_parted a b x y ht hu (after_number x tx) (after_number y uy) inside in
    (ap Box both.0, both.1)
same_token t u x y ht hu tx uy k e = absurd (false≢true (sym (ap (same_kind (kind t)) k)))

-- equal texts that begin with a token, which ends there, begin with the same token
token_parted : (t u : Token) (x y : List ℕ) → TokenFits t → TokenFits u → IsEnded t x → IsEnded u y → token_text t ++ x ≡ token_text u ++ y → (t ≡ u) × (x ≡ y)
token_parted t u x y ht hu tx uy e = same_token t u x y ht hu tx uy (sym (kind_is t x ht tx) ∙ (ap kind_of e ∙ kind_is u y hu uy)) e

pub none_before : (t : Token) → comma_before false t ≡ []
none_before Close = refl
none_before t = refl

-- equal texts are equal behind the comma too, if one stands before their first tokens
commas_parted : (follows : Bool) (t u : Token) (x y : List ℕ) → comma_before follows t ++ (token_text t ++ x) ≡ comma_before follows u ++ (token_text u ++ y) → token_text t ++ x ≡ token_text u ++ y
commas_parted false t u x y e = sym (ap (λ (front : List ℕ). front ++ (token_text t ++ x)) (none_before t)) ∙ (e ∙ ap (λ (front : List ℕ). front ++ (token_text u ++ y)) (none_before u))
commas_parted true Close Close x y e = e
commas_parted true Close u x y e = absurd (omega (arith, first_units 41 44 _ _ e))
commas_parted true t Close x y e = absurd (omega (arith, first_units 44 41 _ _ e))
commas_parted true t u x y e = behind 1 (44 ∷ (token_text t ++ x)) (44 ∷ (token_text u ++ y)) e

-- after a value comes a comma, the end of its object, or the end of the line
after_tokens : (ts : List Token) (x : List ℕ) → AfterValue (tokens_text true ts ++ (10 ∷ x))
after_tokens [] x = line_feed x
after_tokens (Close ∷ ts) x = parenthesis _
after_tokens (t ∷ ts) x = comma _

pub is_ended : (t : Token) (ts : List Token) (x : List ℕ) → IsEnded t (tokens_text (is_followed t) ts ++ (10 ∷ x))
is_ended (Open name) ts x = tt
is_ended Close ts x = tt
is_ended (Text units) ts x = tt
is_ended t ts x = after_tokens ts x

pub nothing : (ts : List Token) → is_empty ts ≡ true → ts ≡ []
nothing [] h = refl
nothing (t ∷ ts) h = absurd cc

-- after a token the value has ended, or is still to end behind so many objects
pub next : (begun : ℕ) (t : Token) → ((ts : List Token) → ends_with_its_value begun (t ∷ ts) ≡ true → ts ≡ []) ⊎ ((still : ℕ) × ((ts : List Token) → ends_with_its_value begun (t ∷ ts) ≡ true → ends_with_its_value still ts ≡ true))
next begun (Open name) = inr (suc begun, λ ts h. h)
next zero Close = inl (λ ts h. absurd cc)
next (suc zero) Close = inl nothing
next (suc (suc begun)) Close = inr (suc begun, λ ts h. h)
next zero t = inl nothing
next (suc begun) t = inr (suc begun, λ ts h. h)

pub tokens_grouped : (follows : Bool) (t : Token) (ts : List Token) (x : List ℕ) → tokens_text follows (t ∷ ts) ++ x ≡ comma_before follows t ++ (token_text t ++ (tokens_text (is_followed t) ts ++ x))
tokens_grouped follows t ts x = append_assoc (comma_before follows t) (token_text t ++ tokens_text (is_followed t) ts) x ∙ ap (λ (rest : List ℕ). comma_before follows t ++ rest) (append_assoc (token_text t) (tokens_text (is_followed t) ts) x)

-- equal texts that begin with a value, or the rest of one, and a line feed begin with the same
pub tokens_parted : (begun : ℕ) (follows : Bool) (ts us : List Token) (x y : List ℕ) → ends_with_its_value begun ts ≡ true → ends_with_its_value begun us ≡ true → ShapeFits ts → ShapeFits us → tokens_text follows ts ++ (10 ∷ x) ≡ tokens_text follows us ++ (10 ∷ y) → (ts ≡ us) × (x ≡ y)
tokens_parted begun follows [] us x y ht hu ft fu e = absurd cc
tokens_parted begun follows (t ∷ ts) [] x y ht hu ft fu e = absurd cc
tokens_parted begun follows (t ∷ ts) (u ∷ us) x y ht hu ft fu e =
    let grouped : comma_before follows t ++ (token_text t ++ (tokens_text (is_followed t) ts ++ (10 ∷ x))) ≡ comma_before follows u ++ (token_text u ++ (tokens_text (is_followed u) us ++ (10 ∷ y))) = sym (tokens_grouped follows t ts (10 ∷ x)) ∙ (e ∙ tokens_grouped follows u us (10 ∷ y)) in
    let plain = commas_parted follows t u (tokens_text (is_followed t) ts ++ (10 ∷ x)) (tokens_text (is_followed u) us ++ (10 ∷ y)) grouped in
    let first = token_parted t u (tokens_text (is_followed t) ts ++ (10 ∷ x)) (tokens_text (is_followed u) us ++ (10 ∷ y)) ft.0 fu.0 (is_ended t ts x) (is_ended u us y) plain in
    let head : t ≡ u = first.0 in
    let ends : ends_with_its_value begun (t ∷ us) ≡ true = subst (λ (v : Token). ends_with_its_value begun (v ∷ us) ≡ true) (sym head) hu in
    let rest : tokens_text (is_followed t) ts ++ (10 ∷ x) ≡ tokens_text (is_followed t) us ++ (10 ∷ y) = subst (λ (v : Token). tokens_text (is_followed t) ts ++ (10 ∷ x) ≡ tokens_text (is_followed v) us ++ (10 ∷ y)) (sym head) first.1 in
    elim (next begun t) [
      | inl last ↦
          let none_left : ts ≡ [] = last ts ht in
          let none_right : us ≡ [] = last us ends in
          let feeds : 10 ∷ x ≡ 10 ∷ y = rw (none_left, none_right) at rest in
          (cc, cc feeds)
      | inr still ↦
          let both = tokens_parted still.0 (is_followed t) ts us x y (still.1 ts ht) (still.1 us ends) ft.1 fu.1 rest in
          let tail : ts ≡ us = both.0 in
          (cc, both.1)
    ]
