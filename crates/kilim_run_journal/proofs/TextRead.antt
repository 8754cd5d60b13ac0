-- Reading entries one after the other, and the lines of a text.
use Rattle.std.proofs.Common.{◌≡◌, ℕ, zero, suc, ◌+◌, ◌<◌, ◌^◌, Bool, true, false, not, List, [], ◌∷◌, ◌++◌, length, length-append, map, refl, sym, ap, subst, ◌∙◌, inl, inr, arith, append_assoc, ◌/◌, ◌%◌}
use Rattle.std.specs.Prelude.{◌==◌, codes}
use Rattle.std.specs.List.{AllByRecursion, flat_map, list_all}
use Rattle.std.specs.Fmt.{decimal, signed_decimal}
use Rattle.std.proofs.lemmas.Bool.{and_parts, and_from, not-true, cases_Bool}
use Rattle.std.proofs.lemmas.Bool.Decides.{nat_tests}
use Rattle.std.proofs.lemmas.List.Folds.{list_all-append}
use Rattle.kilim_program.specs.declared.names.BoxName.{BoxName}
use Rattle.kilim_run_state.specs.declared.value.Token.{Token}
use Rattle.kilim_run_state.specs.declared.value.Token.TheVariants.{Open, Close, Int, Long, Null, Text, Box}
use Rattle.kilim_run_state.specs.Cause.{word_of}
use Rattle.kilim_units.specs.NameText.{hex_digit, escape, name_text}
use Rattle.kilim_run_journal.specs.declared.entry.Act.{Act}
use Rattle.kilim_run_journal.specs.declared.entry.Act.TheVariants as act
use Rattle.kilim_run_journal.specs.declared.entry.Entry.{Entry}
use Rattle.kilim_run_journal.specs.Text.{box_text, stands_in_text, text_unit, token_text, comma_before, is_followed, tokens_text, shape_text, act_text, entry_text, journal_text}
use Rattle.kilim_run_journal.specs.Readable.{BoxFits, TokenFits, ShapeFits, ActFits}
use Rattle.kilim_run_journal.specs.Fronts.{is_number_unit, is_in_word}
use Rattle.kilim_run_journal.specs.Read.{IsEntry, IsJournal, IsEntryLine, IsBadLine, lines_of, onto_line}
use Rattle.kilim_run_journal.proofs.Parted.{decimal_pass, signed_pass, fits_32, fits_64}
use Rattle.kilim_run_journal.proofs.Units.{name_in_word}
use Rattle.kilim_run_journal.proofs.Journals.{entries_parted, entry_is_some, cause_in_word}

nothing_more : (xs : List ℕ) → xs ++ [] ≡ xs
nothing_more [] = refl
nothing_more (x ∷ xs) = ap (λ ys. x ∷ ys) (nothing_more xs)

-- ---- an entry is one line

abbrev not_feed : ℕ → Bool
not_feed c = not (c == 10)

abbrev inside_line : List ℕ → Bool
inside_line text = list_all not_feed text

weaker : (p q : ℕ → Bool) → ((c : ℕ) → p c ≡ true → q c ≡ true) → (xs : List ℕ) → list_all p xs ≡ true → list_all q xs ≡ true
weaker p q from [] h = refl
weaker p q from (x ∷ xs) h =
    let both = and_parts (p x) (list_all p xs) h in
    and_from (q x) (list_all q xs) (from x both.0) (weaker p q from xs both.1)

number_unit : (c : ℕ) → is_number_unit c ≡ true → not_feed c ≡ true
number_unit c h = grind (arith, nat_tests)

word_unit : (c : ℕ) → is_in_word c ≡ true → not_feed c ≡ true
word_unit c h = grind (arith, nat_tests)

text_stands : (c : ℕ) → stands_in_text c ≡ true → not_feed c ≡ true
text_stands c h = grind (arith, nat_tests)

hex_unit : (d : ℕ) → not_feed (hex_digit d) ≡ true
hex_unit d = grind (arith, nat_tests)

joined : (a b : List ℕ) → inside_line a ≡ true → inside_line b ≡ true → inside_line (a ++ b) ≡ true
joined a b ha hb = list_all-append not_feed a b ∙ and_from _ _ ha hb

number_inside : (n : ℕ) → n < 2 ^ 64 → inside_line (decimal n) ≡ true
number_inside n h = weaker is_number_unit not_feed number_unit (decimal n) (decimal_pass n h)

name_inside : (us : List ℕ) → inside_line (name_text us) ≡ true
name_inside us = weaker is_in_word not_feed word_unit (name_text us) (name_in_word us)

escape_inside : (u : ℕ) → inside_line (escape u) ≡ true
escape_inside u = rw (hex_unit (u / 4096), hex_unit (u / 256 % 16), hex_unit (u / 16 % 16), hex_unit (u % 16)) refl

unit_inside : (u : ℕ) → inside_line (text_unit u) ≡ true
unit_inside u =
    elim (cases_Bool (stands_in_text u)) [
      | inl h ↦ rw h (and_from (not_feed u) true (text_stands u h) refl)
      | inr h ↦ rw h (escape_inside u)
    ]

units_inside : (us : List ℕ) → inside_line (flat_map text_unit us) ≡ true
units_inside [] = refl
units_inside (u ∷ us) = joined (text_unit u) (flat_map text_unit us) (unit_inside u) (units_inside us)

box_inside : (box : BoxName) → BoxFits box → inside_line (box_text box) ≡ true
box_inside box h = joined (decimal box.task) (46 ∷ decimal box.number) (number_inside box.task (omega arith)) (number_inside box.number (omega arith))

token_inside : (t : Token) → TokenFits t → inside_line (token_text t) ≡ true
token_inside (Open name) h = joined (name_text name) (40 ∷ []) (name_inside name) refl
token_inside Close h = refl
token_inside (Int n) h = weaker is_number_unit not_feed number_unit (signed_decimal n) (signed_pass n (fits_32 n h))
token_inside (Long n) h = joined (signed_decimal n) (76 ∷ []) (weaker is_number_unit not_feed number_unit (signed_decimal n) (signed_pass n (fits_64 n h))) refl
token_inside Null h = refl
token_inside (Text units) h = joined (flat_map text_unit units) (34 ∷ []) (units_inside units) refl
token_inside (Box box) h = box_inside box h

comma_inside : (follows : Bool) (t : Token) → inside_line (comma_before follows t) ≡ true
comma_inside follows Close = refl
comma_inside true t = refl
comma_inside false t = refl

shape_inside : (follows : Bool) (ts : List Token) → ShapeFits ts → inside_line (tokens_text follows ts) ≡ true
shape_inside follows [] h = refl
shape_inside follows (t ∷ ts) h = joined (comma_before follows t) (token_text t ++ tokens_text (is_followed t) ts) (comma_inside follows t) (joined (token_text t) (tokens_text (is_followed t) ts) (token_inside t h.0) (shape_inside (is_followed t) ts h.1))

spaced : (front n behind : List ℕ) → inside_line front ≡ true → inside_line n ≡ true → inside_line behind ≡ true → inside_line (front ++ (n ++ behind)) ≡ true
spaced front n behind a b c = joined front (n ++ behind) a (joined n behind b c)

numbered_inside : (box : BoxName) (n : ℕ) (behind : List ℕ) → BoxFits box → n < 2 ^ 64 → inside_line behind ≡ true → inside_line (box_text box ++ (codes " #" ++ (decimal n ++ behind))) ≡ true
numbered_inside box n behind b h inside = joined (box_text box) (codes " #" ++ (decimal n ++ behind)) (box_inside box b) (spaced (codes " #") (decimal n) behind refl (number_inside n h) inside)

act_inside : (a : Act) → ActFits a → inside_line (act_text a) ≡ true
act_inside (act.Put box n shape) h = joined (codes "put ") (box_text box ++ (codes " #" ++ (decimal n ++ (codes " " ++ shape_text shape)))) refl (numbered_inside box n (codes " " ++ shape_text shape) h.0 h.1 (joined (codes " ") (shape_text shape) refl (shape_inside false shape h.2)))
act_inside (act.Take box n) h = joined (codes "take ") (box_text box ++ (codes " #" ++ decimal n)) refl (spaced (box_text box) (codes " #") (decimal n) (box_inside box h.0) refl (number_inside n h.1))
act_inside (act.Empty box) h = joined (codes "empty ") (box_text box) refl (box_inside box h)
act_inside (act.Start task shape) h = joined (codes "start ") (decimal task ++ (codes " " ++ shape_text shape)) refl (spaced (decimal task) (codes " ") (shape_text shape) (number_inside task (omega arith)) refl (shape_inside false shape h.1))
act_inside (act.Print shape) h = joined (codes "print ") (shape_text shape) refl (shape_inside false shape h)
act_inside (act.End cause) h = joined (codes "end ") (word_of cause) refl (weaker is_in_word not_feed word_unit (word_of cause) (cause_in_word cause))
act_inside (act.Bound box most) h = joined (codes "bound ") (box_text box ++ (codes " " ++ decimal most)) refl (spaced (box_text box) (codes " ") (decimal most) (box_inside box h.0) refl (number_inside most (omega arith)))
act_inside (act.Wait box) h = joined (codes "waits ") (box_text box) refl (box_inside box h)

-- a line feed ends a line
line_ends : (front x : List ℕ) → inside_line front ≡ true → lines_of (front ++ (10 ∷ x)) ≡ (front ++ 10 ∷ []) ∷ lines_of x
line_ends [] x h = refl
line_ends (c ∷ front) x h =
    let both = and_parts (not_feed c) (inside_line front) h in
    rw (not-true (c == 10) both.0) (ap (onto_line c) (line_ends front x both.1))

entry_grouped : (n a x : List ℕ) → (n ++ (codes " " ++ (a ++ codes "\n"))) ++ x ≡ (n ++ (codes " " ++ a)) ++ (10 ∷ x)
entry_grouped n a x = simp append_assoc

entry_line : (e : Entry) (x : List ℕ) → IsEntry e → lines_of (entry_text e ++ x) ≡ entry_text e ∷ lines_of x
entry_line e x h =
    let front : List ℕ = decimal e.task ++ (codes " " ++ act_text e.act) in
    let inside : inside_line front ≡ true = joined (decimal e.task) (codes " " ++ act_text e.act) (number_inside e.task (omega (arith, h.1.0))) (joined (codes " ") (act_text e.act) refl (act_inside e.act h.1.1)) in
    ap lines_of (entry_grouped (decimal e.task) (act_text e.act) x)
    ∙ (line_ends front x inside
    ∙ ap (λ line. line ∷ lines_of x) (sym (sym (nothing_more (entry_text e)) ∙ entry_grouped (decimal e.task) (act_text e.act) [])))

lines_joined : (es : List Entry) (x : List ℕ) → AllByRecursion IsEntry es → lines_of (journal_text es ++ x) ≡ map entry_text es ++ lines_of x
lines_joined [] x h = refl
lines_joined (e ∷ es) x h =
    ap lines_of (append_assoc (entry_text e) (journal_text es) x) ∙ (entry_line e (journal_text es ++ x) h.0 ∙ ap (λ lines. entry_text e ∷ lines) (lines_joined es x h.1))

each_line : (es : List Entry) → AllByRecursion IsEntry es → AllByRecursion IsEntryLine (map entry_text es)
each_line [] h = tt
each_line (e ∷ es) h = ((e, h.0, refl), each_line es h.1)

length_map : (es : List Entry) → length (map entry_text es) ≡ length es
length_map [] = refl
length_map (e ∷ es) = ap suc (length_map es)

-- a text that isn't empty begins with its first line
record FirstLine (text : List ℕ) : Type 0 where
  line : List ℕ
  others : List (List ℕ)
  behind : List ℕ
  lines : lines_of text ≡ line ∷ others
  split : text ≡ line ++ behind

first_onto : (c : ℕ) (cs : List ℕ) → (c == 10) ≡ false → FirstLine cs → FirstLine (c ∷ cs)
first_onto c cs h f = record {
  line = c ∷ f.line;
  others = f.others;
  behind = f.behind;
  lines = rw h (ap (onto_line c) f.lines);
  split = ap (λ xs. c ∷ xs) f.split;
}

lone : (c : ℕ) → (c == 10) ≡ false → FirstLine (c ∷ [])
lone c h = record { line = c ∷ []; others = []; behind = []; lines = rw h refl; split = refl }

feed : (c : ℕ) (cs : List ℕ) → (c == 10) ≡ true → FirstLine (c ∷ cs)
feed c cs h = record { line = c ∷ []; others = lines_of cs; behind = cs; lines = rw h refl; split = refl }

first_behind : (c : ℕ) (cs : List ℕ) → FirstLine (c ∷ cs)
first_behind c [] = elim (cases_Bool (c == 10)) [ inl h ↦ feed c [] h | inr h ↦ lone c h ]
first_behind c (d ∷ cs) = elim (cases_Bool (c == 10)) [ inl h ↦ feed c (d ∷ cs) h | inr h ↦ first_onto c (d ∷ cs) h (first_behind d cs) ]

first_line : (text : List ℕ) → 0 < length text → FirstLine text
first_line [] some = absurd (omega arith)
first_line (c ∷ cs) some = first_behind c cs

-- ---- reading

-- the entries are those whose text stands before the rest
pub record Reading (bytes : List ℕ) (es : List Entry) (rest : List ℕ) : Type 0 where
  pub each : AllByRecursion IsEntry es
  pub split : bytes ≡ journal_text es ++ rest

one_more : (es : List Entry) (e : Entry) → AllByRecursion IsEntry es → IsEntry e → AllByRecursion IsEntry (es ++ e ∷ [])
one_more [] e a h = (h, tt)
one_more (d ∷ es) e a h = (a.0, one_more es e a.1 h)

text_more : (es : List Entry) (e : Entry) (x : List ℕ) → journal_text (es ++ e ∷ []) ++ x ≡ journal_text es ++ (entry_text e ++ x)
text_more [] e x = ap (λ t. t ++ x) (nothing_more (entry_text e))
text_more (d ∷ es) e x = append_assoc (entry_text d) (journal_text (es ++ e ∷ [])) x ∙ (ap (λ t. entry_text d ++ t) (text_more es e x) ∙ sym (append_assoc (entry_text d) (journal_text es) (entry_text e ++ x)))

pub reading_goes_on : (bytes : List ℕ) (es all : List Entry) (rest : List ℕ) (e : Entry) (behind : List ℕ) → Reading bytes es rest → IsEntry e → rest ≡ entry_text e ++ behind → all ≡ es ++ e ∷ [] → Reading bytes all behind
reading_goes_on bytes es all rest e behind r h at is =
    subst (λ all. Reading bytes all behind) (sym is) (record {
      each = one_more es e r.each h;
      split = r.split ∙ (ap (λ t. journal_text es ++ t) at ∙ sym (text_more es e behind));
    })

pub shorter : (rest : List ℕ) (e : Entry) (behind : List ℕ) → rest ≡ entry_text e ++ behind → length behind < length rest
shorter rest e behind at =
    omega (arith, ap length at, length-append (entry_text e) behind, length-append (decimal e.task) (codes " " ++ (act_text e.act ++ codes "\n")))

no_more : (rest : List ℕ) → length rest ≡ 0 → rest ≡ []
no_more [] h = refl
no_more (c ∷ rest) h = absurd (omega arith)

pub is_read : (bytes : List ℕ) (es : List Entry) (rest : List ℕ) → Reading bytes es rest → length rest ≡ 0 → IsJournal bytes es
is_read bytes es rest r none = record { each = r.each; text = r.split ∙ (ap (λ t. journal_text es ++ t) (no_more rest none) ∙ nothing_more (journal_text es)) }

-- no entry's text stands at the rest's front
pub is_bad : (bytes : List ℕ) (es : List Entry) (rest : List ℕ) (n : ℕ) → Reading bytes es rest → 0 < length rest → n ≡ length es + 1 → ((e : Entry) (tail : List ℕ) → IsEntry e → rest ≡ entry_text e ++ tail → ⊥) → IsBadLine bytes n
is_bad bytes es rest n r some is none =
    let first = first_line rest some in
    record {
      good = map entry_text es;
      line = first.line;
      others = first.others;
      lines = ap lines_of r.split ∙ (lines_joined es rest r.each ∙ ap (λ lines. map entry_text es ++ lines) first.lines);
      number = omega (arith, length_map es);
      each = each_line es r.each;
      bad = λ entry. none entry.0 first.behind entry.1 (first.split ∙ ap (λ line. line ++ first.behind) entry.2);
    }

-- ---- a journal's text is read

one_text : (es fs : List Entry) → AllByRecursion IsEntry es → AllByRecursion IsEntry fs → journal_text es ≡ journal_text fs → es ≡ fs
one_text [] [] a b e = refl
one_text [] (f ∷ fs) a b e = absurd (entry_is_some f (journal_text fs) (sym e))
one_text (d ∷ es) [] a b e = absurd (entry_is_some d (journal_text es) e)
one_text (d ∷ es) (f ∷ fs) a b e =
    let first = entries_parted d f (journal_text es) (journal_text fs) a.0.0 b.0.0 a.0.1 b.0.1 e in
    let others = one_text es fs a.1 b.1 first.1 in
    ap (λ x. x ∷ es) first.0 ∙ ap (λ xs. f ∷ xs) others

pub read_whole : (bytes : List ℕ) (es fs : List Entry) → IsJournal bytes es → IsJournal bytes fs → es ≡ fs
read_whole bytes es fs r j = one_text es fs r.each j.each (sym r.text ∙ j.text)

bad_from : (good es : List Entry) (rest : List ℕ) → AllByRecursion IsEntry good → AllByRecursion IsEntry es → journal_text good ++ rest ≡ journal_text es → 0 < length rest → ((e : Entry) (tail : List ℕ) → IsEntry e → rest ≡ entry_text e ++ tail → ⊥) → ⊥
bad_from [] [] rest g h e more bad = absurd (omega (arith, ap length e))
bad_from [] (f ∷ es) rest g h e more bad = bad f (journal_text es) h.0 e
bad_from (d ∷ good) [] rest g h e more bad = entry_is_some d (journal_text good ++ rest) (sym (append_assoc (entry_text d) (journal_text good) rest) ∙ e)
bad_from (d ∷ good) (f ∷ es) rest g h e more bad =
    let parts = entries_parted d f (journal_text good ++ rest) (journal_text es) g.0.0 h.0.0 g.0.1 h.0.1 (sym (append_assoc (entry_text d) (journal_text good) rest) ∙ e) in
    bad_from good es rest g.1 h.1 parts.1 more bad

pub bad_is_none : (bytes : List ℕ) (es : List Entry) (rest : List ℕ) → Reading bytes es rest → 0 < length rest → ((e : Entry) (tail : List ℕ) → IsEntry e → rest ≡ entry_text e ++ tail → ⊥) → (fs : List Entry) → IsJournal bytes fs → ⊥
bad_is_none bytes es rest r some none fs j = bad_from es fs rest r.each j.each (sym r.split ∙ j.text) some none

pub is_some : (n : ℕ) (b : Bool) → b ≡ (n == 0) → b ≡ false → 0 < n
is_some zero b e f = absurd cc
is_some (suc n) b e f = omega arith

zero_is : (n : ℕ) → (n == 0) ≡ true → n ≡ 0
zero_is n h = grind (arith, nat_tests)

pub is_none : (n : ℕ) (b : Bool) → b ≡ (n == 0) → b ≡ true → n ≡ 0
is_none n b e f = zero_is n (sym e ∙ f)
