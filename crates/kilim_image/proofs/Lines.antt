-- The lines of a text, one after the other.
use Rattle.std.proofs.Common.{◌≡◌, ◌≢◌, ℕ, zero, suc, ◌+◌, ◌<◌, ◌≤◌, ◌⊎◌, Bool, true, false, not, List, [], ◌∷◌, ◌++◌, length, map, take, drop, get_or, refl, sym, ap, subst, ◌∙◌, inl, inr, arith, append_assoc, length-append, drop-cons}
use Rattle.std.specs.Prelude.{◌==◌, ◌&&◌, ◌||◌, codes, IfSome, IfNone, Option, Some, None}
use Rattle.std.specs.List.{AllByRecursion, flat_map, list_all, list_any}
use Rattle.std.specs.Fmt.{decimal}
use Rattle.std.proofs.lemmas.Bool.{and_from, and_parts, ne_eqb, not-true, or_parts}
use Rattle.std.proofs.lemmas.List.Folds.{list_all-append}
use Rattle.std.proofs.lemmas.List.{append-nil, take_all, take_more, drop_all, take-append-drop}
use Rattle.kilim_run_journal.specs.declared.entry.Entry.{Entry}
use Rattle.kilim_run_journal.specs.Text.{act_text, entry_text, journal_text}
use Rattle.kilim_run_journal.specs.Read.{IsEntry, IsJournal, lines_of, onto_line}
use Rattle.kilim_run_journal.specs.Readable.{HasOneJournal}
use Rattle.kilim_image.specs.declared.fault.ImageFault.{ImageFault}
use Rattle.kilim_image.specs.declared.fault.ImageFault.TheVariants as fault
use Rattle.kilim_image.specs.Journal.{is_wait, IsDeed, IsDeedFault, IsDeedLine, IsBadEntry}
use Rattle.kilim_image.specs.Lines.{is_inside, IsLine, ended, open_ended, IsFirstLine, AreDeeds}

-- ---- the first line

line_ends : (front x : List ℕ) → is_inside front ≡ true → lines_of (front ++ 10 ∷ x) ≡ (front ++ 10 ∷ []) ∷ lines_of x
line_ends [] x h = refl
line_ends (c ∷ front) x h =
    let both = and_parts (not (c == 10)) (is_inside front) h in
    rw (not-true (c == 10) both.0) (ap (onto_line c) (line_ends front x both.1))

one_line : (c : ℕ) (bytes : List ℕ) → is_inside (c ∷ bytes) ≡ true → lines_of (c ∷ bytes) ≡ (c ∷ bytes) ∷ []
one_line c [] h = let both = and_parts (not (c == 10)) true h in rw (not-true (c == 10) both.0) refl
one_line c (d ∷ bytes) h =
    let both = and_parts (not (c == 10)) (is_inside (d ∷ bytes)) h in
    rw (not-true (c == 10) both.0) (ap (onto_line c) (one_line d bytes both.1))

-- a line feed at a place, and none before it
pub ends_at : (bytes : List ℕ) (i : ℕ) → i < length bytes → is_inside (take i bytes) ≡ true → get_or bytes i 0 ≡ 10 → IsFirstLine bytes (take (i + 1) bytes) (drop (i + 1) bytes)
ends_at bytes i lt inside feed =
    let line_is : take (i + 1) bytes ≡ take i bytes ++ 10 ∷ [] = take_more bytes i 0 lt ∙ ap (λ (c : ℕ). take i bytes ++ c ∷ []) feed in
    let parts : bytes ≡ take (i + 1) bytes ++ drop (i + 1) bytes = sym (take-append-drop (i + 1) bytes) in
    record {
      parts = parts;
      is_line = subst IsLine (sym line_is) (ended (take i bytes) inside);
      lines =
          ap lines_of (parts ∙ (ap (λ (l : List ℕ). l ++ drop (i + 1) bytes) line_is ∙ append_assoc (take i bytes) (10 ∷ []) (drop (i + 1) bytes)))
          ∙ (line_ends (take i bytes) (drop (i + 1) bytes) inside ∙ ap (λ (l : List ℕ). l ∷ lines_of (drop (i + 1) bytes)) (sym line_is));
    }

-- one byte more that is no line feed
pub goes_inside : (bytes : List ℕ) (i : ℕ) → i < length bytes → is_inside (take i bytes) ≡ true → (get_or bytes i 0 ≡ 10 → ⊥) → is_inside (take (i + 1) bytes) ≡ true
goes_inside bytes i lt inside other =
    let one : is_inside (get_or bytes i 0 ∷ []) ≡ true = ap (λ (b : Bool). not b && true) (ne_eqb (get_or bytes i 0) 10 other) in
    ap is_inside (take_more bytes i 0 lt) ∙ (list_all-append (λ c. not (c == 10)) (take i bytes) (get_or bytes i 0 ∷ []) ∙ and_from (is_inside (take i bytes)) (is_inside (get_or bytes i 0 ∷ [])) inside one)

-- no line feed
pub is_all : (bytes : List ℕ) → bytes ≢ [] → is_inside bytes ≡ true → IsFirstLine bytes (take (length bytes) bytes) (drop (length bytes) bytes)
is_all [] some inside = absurd (some refl)
is_all (c ∷ bytes) some inside =
    let n = length (c ∷ bytes) in
    let all : take n (c ∷ bytes) ≡ c ∷ bytes = take_all n (c ∷ bytes) (omega arith) in
    let none : drop n (c ∷ bytes) ≡ [] = drop_all n (c ∷ bytes) (omega arith) in
    rw (all, none) (record {
      parts = sym (append-nil (c ∷ bytes));
      is_line = open_ended c bytes inside;
      lines = one_line c bytes inside;
    })

-- ---- a line has one entry

text_ends : (e : Entry) → (front : List ℕ) × (entry_text e ≡ front ++ 10 ∷ [])
text_ends e = (decimal e.task ++ (codes " " ++ act_text e.act), sym (append_assoc (decimal e.task) (codes " " ++ act_text e.act) (10 ∷ [])))

text_is_some : (e : Entry) (x : List ℕ) → entry_text e ++ x ≡ [] → ⊥
text_is_some e x h =
    let len = ap length h in
    omega (arith, len, length-append (entry_text e) x, length-append (decimal e.task) (codes " " ++ (act_text e.act ++ codes "\n")))

no_nil : (front more : List ℕ) → [] ≡ front ++ 10 ∷ more → ⊥
no_nil [] more e = cc
no_nil (d ∷ front) more e = cc

feed_outside : (c : ℕ) (line : List ℕ) → is_inside (c ∷ line) ≡ true → c ≡ 10 → ⊥
feed_outside c line inside e =
    let both = and_parts (not (c == 10)) (is_inside line) inside in
    let h : (10 == 10) ≡ false = subst (λ (k : ℕ). (k == 10) ≡ false) e (not-true (c == 10) both.0) in
    cc

nothing_behind : (front more line : List ℕ) → is_inside line ≡ true → line ++ 10 ∷ [] ≡ front ++ 10 ∷ more → more ≡ []
nothing_behind [] more [] inside e = let h : [] ≡ more = cc in sym h
nothing_behind [] more (c ∷ line) inside e = absurd (feed_outside c line inside (let h : c ≡ 10 = cc in h))
nothing_behind (d ∷ front) more [] inside e = absurd (let h : [] ≡ front ++ 10 ∷ more = cc in no_nil front more h)
nothing_behind (d ∷ front) more (c ∷ line) inside e =
    nothing_behind front more line (and_parts (not (c == 10)) (is_inside line) inside).1 (let h : line ++ 10 ∷ [] ≡ front ++ 10 ∷ more = cc in h)

no_feed : (front more line : List ℕ) → is_inside line ≡ true → line ≡ front ++ 10 ∷ more → ⊥
no_feed front more [] inside e = no_nil front more e
no_feed [] more (c ∷ line) inside e = feed_outside c line inside (let h : c ≡ 10 = cc in h)
no_feed (d ∷ front) more (c ∷ line) inside e = no_feed front more line (and_parts (not (c == 10)) (is_inside line) inside).1 (let h : line ≡ front ++ 10 ∷ more = cc in h)

none_behind : (line : List ℕ) (e : Entry) (more : List ℕ) → IsLine line → line ≡ entry_text e ++ more → more ≡ []
none_behind line e more (ended front inside) is =
    let t = text_ends e in
    nothing_behind t.0 more front inside (is ∙ (ap (λ (x : List ℕ). x ++ more) t.1 ∙ append_assoc t.0 (10 ∷ []) more))
none_behind line e more (open_ended c bytes inside) is =
    let t = text_ends e in
    absurd (no_feed t.0 more (c ∷ bytes) inside (is ∙ (ap (λ (x : List ℕ). x ++ more) t.1 ∙ append_assoc t.0 (10 ∷ []) more)))

line_is_some : (line : List ℕ) → IsLine line → line ≡ [] → ⊥
line_is_some line (ended [] inside) e = cc
line_is_some line (ended (c ∷ front) inside) e = cc
line_is_some line (open_ended c bytes inside) e = cc

no_entries : (es : List Entry) → journal_text es ≡ [] → es ≡ []
no_entries [] h = refl
no_entries (e ∷ es) h = absurd (text_is_some e (journal_text es) h)

pub one_entry : (line : List ℕ) (es : List Entry) → IsLine line → IsJournal line es → (e : Entry) × (es ≡ e ∷ []) × IsEntry e × (line ≡ entry_text e)
one_entry line [] is j = absurd (line_is_some line is j.text)
one_entry line (e ∷ es) is j =
    let none : es ≡ [] = no_entries es (none_behind line e (journal_text es) is j.text) in
    (e, ap (λ (xs : List Entry). e ∷ xs) none, j.each.0, j.text ∙ (ap (λ (xs : List Entry). entry_text e ++ journal_text xs) none ∙ append-nil (entry_text e)))

-- ---- line by line

-- the entries of the lines that were read, and what is left
pub record Reading (text : List ℕ) (es : List Entry) (rest : List ℕ) : Type 0 where
  pub each : AllByRecursion IsDeed es
  pub split : text ≡ journal_text es ++ rest
  pub lines : lines_of text ≡ map entry_text es ++ lines_of rest

one_more : (es : List Entry) (e : Entry) → AllByRecursion IsDeed es → IsDeed e → AllByRecursion IsDeed (es ++ e ∷ [])
one_more [] e a h = (h, tt)
one_more (d ∷ es) e a h = (a.0, one_more es e a.1 h)

text_more : (es : List Entry) (e : Entry) (x : List ℕ) → journal_text (es ++ e ∷ []) ++ x ≡ journal_text es ++ (entry_text e ++ x)
text_more [] e x = ap (λ (t : List ℕ). t ++ x) (append-nil (entry_text e))
text_more (d ∷ es) e x = append_assoc (entry_text d) (journal_text (es ++ e ∷ [])) x ∙ (ap (λ (t : List ℕ). entry_text d ++ t) (text_more es e x) ∙ sym (append_assoc (entry_text d) (journal_text es) (entry_text e ++ x)))

lines_more : (es : List Entry) (e : Entry) (ls : List (List ℕ)) → map entry_text (es ++ e ∷ []) ++ ls ≡ map entry_text es ++ (entry_text e ∷ ls)
lines_more [] e ls = refl
lines_more (d ∷ es) e ls = ap (λ (ms : List (List ℕ)). entry_text d ∷ ms) (lines_more es e ls)

pub goes_on : (text : List ℕ) (es all : List Entry) (rest : List ℕ) (e : Entry) (line behind : List ℕ) → Reading text es rest → IsFirstLine rest line behind → IsDeed e × (line ≡ entry_text e) → all ≡ es ++ e ∷ [] → Reading text all behind
goes_on text es all rest e line behind r first deed is =
    subst (λ (xs : List Entry). Reading text xs behind) (sym is) (record {
      each = one_more es e r.each deed.0;
      split = r.split ∙ (ap (λ (t : List ℕ). journal_text es ++ t) (first.parts ∙ ap (λ (l : List ℕ). l ++ behind) deed.1) ∙ sym (text_more es e behind));
      lines = r.lines ∙ (ap (λ (ls : List (List ℕ)). map entry_text es ++ ls) (first.lines ∙ ap (λ (l : List ℕ). l ∷ lines_of behind) deed.1) ∙ sym (lines_more es e (lines_of behind)));
    })

pub shorter : (rest line behind : List ℕ) → IsFirstLine rest line behind → length behind < length rest
shorter rest line behind first =
    let some : 0 < length line = length_some line first.is_line in
    omega (arith, ap length first.parts, length-append line behind, some)
  where
    length_some : (line : List ℕ) → IsLine line → 0 < length line
    length_some line (ended front inside) = omega (arith, length-append front (10 ∷ []))
    length_some line (open_ended c bytes inside) = omega arith

each_line : (es : List Entry) → AllByRecursion IsDeed es → AllByRecursion IsDeedLine (map entry_text es)
each_line [] h = tt
each_line (e ∷ es) h = ((e, h.0, refl), each_line es h.1)

length_map : (es : List Entry) → length (map entry_text es) ≡ length es
length_map [] = refl
length_map (e ∷ es) = ap suc (length_map es)

pub is_bad : (text : List ℕ) (es : List Entry) (rest line behind : List ℕ) (n : ℕ) → Reading text es rest → IsFirstLine rest line behind → (IsDeedLine line → ⊥) → n ≡ length es + 1 → IsBadEntry text n
is_bad text es rest line behind n r first bad is =
    record {
      good = map entry_text es;
      line = line;
      others = lines_of behind;
      lines = r.lines ∙ ap (λ (ls : List (List ℕ)). map entry_text es ++ ls) first.lines;
      number = omega (arith, length_map es, is);
      each = each_line es r.each;
      bad = bad;
    }

no_more : (rest : List ℕ) → length rest ≡ 0 → rest ≡ []
no_more [] h = refl
no_more (c ∷ rest) h = absurd (omega arith)

pub is_read : (text : List ℕ) (es : List Entry) (rest : List ℕ) → Reading text es rest → length rest ≡ 0 → AreDeeds text es
is_read text es rest r none = record { each = r.each; is_text = r.split ∙ (ap (λ (t : List ℕ). journal_text es ++ t) (no_more rest none) ∙ append-nil (journal_text es)) }

-- ---- entries none of which waits

none_waits : (es : List Entry) → AllByRecursion IsEntry es → list_any (λ (e : Entry). is_wait e.act) es ≡ false → AllByRecursion IsDeed es
none_waits [] h e = tt
none_waits (e ∷ es) h none = let both = or_parts (is_wait e.act) (list_any (λ (x : Entry). is_wait x.act) es) none in ((h.0, both.0), none_waits es h.1 both.1)

pub are_deeds : (text : List ℕ) (es : List Entry) → IsJournal text es → list_any (λ (e : Entry). is_wait e.act) es ≡ false → AreDeeds text es
are_deeds text es j none = record { each = none_waits es j.each none; is_text = j.text }

are_entries : (es : List Entry) → AllByRecursion IsDeed es → AllByRecursion IsEntry es
are_entries [] h = tt
are_entries (e ∷ es) h = (h.0.0, are_entries es h.1)

pub is_journal : (text : List ℕ) (es : List Entry) → AreDeeds text es → IsJournal text es
is_journal text es d = record { each = are_entries es d.each; text = d.is_text }

pub no_wait : (es : List Entry) → AllByRecursion IsDeed es → list_any (λ (e : Entry). is_wait e.act) es ≡ false
no_wait [] h = refl
no_wait (e ∷ es) h = rw h.0.1 (no_wait es h.1)

-- ---- what a line is read as

pub journal_of : (line : List ℕ) (e : Entry) → IsEntry e → line ≡ entry_text e → IsJournal line (e ∷ [])
journal_of line e h is = record { each = (h, tt); text = is ∙ sym (append-nil (entry_text e)) }

same_last : (others : List Entry) (e d : Entry) → others ++ e ∷ [] ≡ d ∷ [] → e ≡ d
same_last [] e d h = cc
same_last (x ∷ []) e d h = absurd (let k : e ∷ [] ≡ [] = cc in cc)
same_last (x ∷ y ∷ others) e d h = absurd (let k : y ∷ (others ++ e ∷ []) ≡ [] = cc in cc)

pub deed_some : (line : List ℕ) (es : List Entry) → IsLine line → IsJournal line es → (o : Option Entry) → IfSome o (λ e. ((others : List Entry) × (es ≡ others ++ e ∷ [])) × (is_wait e.act ≡ false)) → IfSome o (λ e. IsDeed e × (line ≡ entry_text e))
deed_some line es is j None h = tt
deed_some line es is j (Some e) h =
    let one = one_entry line es is j in
    let same : e ≡ one.0 = same_last h.0.0 e one.0 (sym h.0.1 ∙ one.1) in
    ((subst IsEntry (sym same) one.2, h.1), one.3 ∙ ap entry_text (sym same))

pub deed_none : (law : HasOneJournal) (line : List ℕ) (es : List Entry) → IsLine line → IsJournal line es → (o : Option Entry) → IfNone o ((e : Entry) → es ≡ e ∷ [] → is_wait e.act ≡ true) → IfNone o (IsDeedLine line → ⊥)
deed_none law line es is j (Some e) h = tt
deed_none law line es is j None h = λ deed.
    let one = one_entry line es is j in
    let d = deed.0 in
    let texts : journal_text (one.0 ∷ []) ≡ journal_text (d ∷ []) = ap (λ (t : List ℕ). t ++ []) (sym one.3 ∙ deed.2) in
    let same : one.0 ∷ [] ≡ d ∷ [] = law (one.0 ∷ []) (d ∷ []) (one.2.0, tt) (deed.1.0.0, tt) (one.2.1, tt) (deed.1.0.1, tt) texts in
    let waits : is_wait one.0.act ≡ true = h one.0 one.1 in
    let first : one.0 ≡ d = same_last [] one.0 d same in
    let not : is_wait one.0.act ≡ false = ap (λ (e : Entry). is_wait e.act) first ∙ deed.1.1 in
    let never : true ≡ false = sym waits ∙ not in
    cc

-- ---- what the calls answer

pub fault_is : (text : List ℕ) (es : List Entry) (rest line behind : List ℕ) (found : ImageFault) → Reading text es rest → IsFirstLine rest line behind → (IsDeedLine line → ⊥) → (found ≡ fault.Memory) ⊎ (found ≡ fault.Journal (length es + 1)) → IsDeedFault text found
fault_is text es rest line behind found r first bad (inl m) = subst (IsDeedFault text) (sym m) tt
fault_is text es rest line behind found r first bad (inr j) = subst (IsDeedFault text) (sym j) (is_bad text es rest line behind (length es + 1) r first bad refl)

pub none_of : (r : Bool) (xs es : List Entry) → r ≡ list_any (λ (e : Entry). is_wait e.act) xs → xs ≡ es → r ≡ false → list_any (λ (e : Entry). is_wait e.act) es ≡ false
none_of r xs es is same none = ap (list_any (λ (e : Entry). is_wait e.act)) (sym same) ∙ (sym is ∙ none)

pub one_waits : (r : Bool) (xs es fs : List Entry) → r ≡ list_any (λ (e : Entry). is_wait e.act) xs → xs ≡ es → es ≡ fs → AllByRecursion IsDeed fs → r ≡ true → ⊥
one_waits r xs es fs is same also deeds waits =
    let none : r ≡ false = is ∙ (ap (list_any (λ (e : Entry). is_wait e.act)) (same ∙ also) ∙ no_wait fs deeds) in
    let never : true ≡ false = sym waits ∙ none in
    cc
