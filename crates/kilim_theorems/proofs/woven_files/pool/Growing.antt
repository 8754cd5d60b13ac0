-- A pool that grows by what is needed.
use Rattle.std.proofs.Common.{◌≡◌, ◌⊎◌, inl, inr, ℕ, zero, suc, true, ◌&&◌, ◌==◌, List, [], ◌∷◌, ◌++◌, Option, Some, None, bytes_eq, refl, sym, ap, subst, ◌∙◌, eqb-true, eq-eqb}
use Rattle.std.specs.List.{AllByRecursion}
use Rattle.std.proofs.lemmas.Bool.{and_parts}
use Rattle.std.proofs.lemmas.List.{append-nil, append_assoc}
use Rattle.std.proofs.lemmas.Slice.Eq.{bytes_eq-Decides}
use Rattle.std.proofs.lemmas.Option.{none-some, same_Some}
use Rattle.kilim_lemmas.proofs.Texts.{text_is}
use Rattle.kilim_class_pool.specs.declared.entry.Entry.{Entry}
use Rattle.kilim_class_pool.specs.declared.entry.Entry.TheVariants.{Utf8, Class, Methodref, NameAndType}
use Rattle.kilim_class_pool.specs.Entries.{slots_of, slots_of_entry, slot, entry_at}
use Rattle.kilim_class_pool.proofs.SlotLaws.{slots-append}
use Rattle.kilim_class_making.specs.declared.pool_needs.need.Need.{Need}
use Rattle.kilim_class_making.specs.declared.pool_needs.need.Need.TheVariants.{AText, AClass, AMethod, ACall}
use Rattle.kilim_class_making.specs.pool_needs.Adding.{Test, found, is_text, is_class_of, is_pair, is_ref, text_index, class_index, pair_index, index_or_none, unless_found, with_text, with_pair, with_ref, with_class, class_added, class_behind, with_member, with_call, with_method, with_need, with_needs}
use Rattle.kilim_theorems.specs.woven_files.pool.Pools.{ClassesAreNamed}
use Rattle.kilim_class_making.proofs.pool_needs.Searching.{stays, found_passes, found_stays, found_same, found_last}

-- ---- what passes

pub is_the_text : (units : List ℕ) (o : Option Entry) → is_text units o ≡ true → o ≡ Some (Utf8 units)
is_the_text units (Some (Utf8 other)) e = ap (λ (us : List ℕ). Some (Utf8 us)) (text_is other units e)
is_the_text units _ e = absurd (cc)

pub is_the_pair : (name descriptor : ℕ) (o : Option Entry) → is_pair name descriptor o ≡ true → o ≡ Some (NameAndType name descriptor)
is_the_pair name descriptor (Some (NameAndType n d)) e =
    let p = and_parts (n == name) (d == descriptor) e in
    ap (λ x. Some (NameAndType x d)) (eqb-true n name p.0) ∙ ap (λ x. Some (NameAndType name x)) (eqb-true d descriptor p.1)
is_the_pair name descriptor _ e = absurd (cc)

pub is_the_ref : (class member : ℕ) (o : Option Entry) → is_ref class member o ≡ true → o ≡ Some (Methodref class member)
is_the_ref class member (Some (Methodref c m)) e =
    let p = and_parts (c == class) (m == member) e in
    ap (λ x. Some (Methodref x m)) (eqb-true c class p.0) ∙ ap (λ x. Some (Methodref class x)) (eqb-true m member p.1)
is_the_ref class member _ e = absurd (cc)

-- a class of that name
pub record OfClass (pool : List Entry) (name : List ℕ) (o : Option Entry) : Type 0 where
  pub index : ℕ
  pub is : o ≡ Some (Class index)
  pub names : entry_at pool index ≡ Some (Utf8 name)

pub is_the_class : (pool : List Entry) (name : List ℕ) (o : Option Entry) → is_class_of pool name o ≡ true → OfClass pool name o
is_the_class pool name (Some (Class index)) e = record { index = index; is = refl; names = is_the_text name (entry_at pool index) e }
is_the_class pool name _ e = absurd (cc)

-- ---- the test for a class doesn't change

class_at : (old more : List Entry) (named : ClassesAreNamed old) (name : List ℕ) (at : ℕ) (o : Option Entry) → entry_at old at ≡ o → is_class_of old name o ≡ is_class_of (old ++ more) name o
class_at old more named name at (Some (Class index)) is =
    let n = named at index is in
    ap (is_text name) n.1 ∙ ap (is_text name) (sym (stays old more index (Utf8 n.0) n.1))
class_at old more named name at _ is = refl

pub class_stays : (old more : List Entry) (name : List ℕ) (index : ℕ) → ClassesAreNamed old → found (is_class_of old name) old ≡ Some index → found (is_class_of (old ++ more) name) (old ++ more) ≡ Some index
class_stays old more name index named h =
    found_stays (is_class_of (old ++ more) name) old more index
    (sym (found_same (is_class_of old name) (is_class_of (old ++ more) name) old (λ k. class_at old more named name (suc k) (entry_at old (suc k)) refl)) ∙ h)

-- ---- classes stay named

one_more : (old : List Entry) (e : Entry) (xs : List (Option Entry)) (k : ℕ) (x : Entry) → slot (xs ++ Some e ∷ []) k ≡ Some x → (slot xs k ≡ Some x) ⊎ (x ≡ e)
one_more old e [] zero x h = inr (sym (same_Some e x h))
one_more old e [] (suc k) x h = absurd (none-some x h)
one_more old e (y ∷ xs) zero x h = inl h
one_more old e (y ∷ xs) (suc k) x h = one_more old e xs k x h

plain_slots : (old : List Entry) (e : Entry) → slots_of_entry e ≡ Some e ∷ [] → slots_of (old ++ e ∷ []) ≡ slots_of old ++ Some e ∷ []
plain_slots old e plain = slots-append old (e ∷ []) ∙ ap (λ (ss : List (Option Entry)). slots_of old ++ ss) (append-nil (slots_of_entry e) ∙ plain)

side : (old : List Entry) (e : Entry) → slots_of_entry e ≡ Some e ∷ [] → (index : ℕ) (x : Entry) → entry_at (old ++ e ∷ []) index ≡ Some x → (entry_at old index ≡ Some x) ⊎ (x ≡ e)
side old e plain zero x h = inl h
side old e plain (suc k) x h = one_more old e (slots_of old) k x (sym (ap (λ (ss : List (Option Entry)). slot ss k) (plain_slots old e plain)) ∙ h)

abbrev NamedIn : List Entry → Entry → Type 0
NamedIn pool e = (name : ℕ) → Class name ≡ e → (units : List ℕ) × (entry_at pool name ≡ Some (Utf8 units))

named_by_side : (old : List Entry) (e : Entry) (index name : ℕ) → ClassesAreNamed old → NamedIn old e → (entry_at old index ≡ Some (Class name)) ⊎ (Class name ≡ e) → (units : List ℕ) × (entry_at (old ++ e ∷ []) name ≡ Some (Utf8 units))
named_by_side old e index name named fits (inl h) = let n = named index name h in (n.0, stays old (e ∷ []) name (Utf8 n.0) n.1)
named_by_side old e index name named fits (inr h) = let n = fits name h in (n.0, stays old (e ∷ []) name (Utf8 n.0) n.1)

pub named_more : (old : List Entry) (e : Entry) → slots_of_entry e ≡ Some e ∷ [] → NamedIn old e → ClassesAreNamed old → ClassesAreNamed (old ++ e ∷ [])
named_more old e plain fits named index name h = named_by_side old e index name named fits (side old e plain index (Class name) h)

-- ---- one addition

pub record Grown (old new : List Entry) : Type 0 where
  pub more : List Entry
  pub is : new ≡ old ++ more
  pub named : ClassesAreNamed new

pub grown_by : (a b c : List Entry) → Grown a b → Grown b c → Grown a c
grown_by a b c f g = record { more = f.more ++ g.more; is = g.is ∙ (ap (λ (xs : List Entry). xs ++ g.more) f.is ∙ append_assoc a f.more g.more); named = g.named }

pub same_grown : (old : List Entry) → ClassesAreNamed old → Grown old old
same_grown old named = record { more = []; is = sym (append-nil old); named = named }

-- it is there behind it
pub record Added (test : Test) (old new : List Entry) : Type 0 where
  pub grown : Grown old new
  pub index : ℕ
  pub at : found test new ≡ Some index

added_by : (test : Test) (old : List Entry) (e : Entry) → slots_of_entry e ≡ Some e ∷ [] → NamedIn old e → ClassesAreNamed old → test (Some e) ≡ true →
    (o : Option ℕ) → found test old ≡ o → Added test old (unless_found o old (old ++ e ∷ []))
added_by test old e plain fits named passes (Some index) is = record { grown = same_grown old named; index = index; at = is }
added_by test old e plain fits named passes None is =
    let l = found_last test old e plain passes in
    record { grown = record { more = e ∷ []; is = refl; named = named_more old e plain fits named }; index = l.0; at = l.1 }

pub bytes_same : (xs : List ℕ) → bytes_eq xs xs ≡ true
bytes_same xs = (bytes_eq-Decides xs xs).1 refl

eqb-same : (n : ℕ) → (n == n) ≡ true
eqb-same n = eq-eqb n n refl

pub text_added : (units : List ℕ) (old : List Entry) → ClassesAreNamed old → Added (is_text units) old (with_text units old)
unfolding with_text
text_added units old named = added_by (is_text units) old (Utf8 units) refl (λ name e. absurd (cc)) named (bytes_same units) (found (is_text units) old) refl

pub both_same : (a b : ℕ) → ((a == a) && (b == b)) ≡ true
both_same a b = ap (λ x. x && (b == b)) (eqb-same a) ∙ eqb-same b

pub pair_added : (name descriptor : ℕ) (old : List Entry) → ClassesAreNamed old → Added (is_pair name descriptor) old (with_pair name descriptor old)
unfolding with_pair
pair_added n d old named = added_by (is_pair n d) old (NameAndType n d) refl (λ name e. absurd (cc)) named (both_same n d) (found (is_pair n d) old) refl

pub ref_added : (class member : ℕ) (old : List Entry) → ClassesAreNamed old → Added (is_ref class member) old (with_ref class member old)
unfolding with_ref
ref_added c m old named = added_by (is_ref c m) old (Methodref c m) refl (λ name e. absurd (cc)) named (both_same c m) (found (is_ref c m) old) refl

-- a class of no name that is there comes behind the text of its name
class_from : (name : List ℕ) (p : List Entry) (index : ℕ) → found (is_text name) p ≡ Some index → ClassesAreNamed p →
    Grown p (class_added name p) × ((at : ℕ) × (found (is_class_of (class_added name p) name) (class_added name p) ≡ Some at))
class_from name p index there named =
    let e : Entry = Class (text_index p name) in
    let is : text_index p name ≡ index = ap index_or_none there in
    let text : entry_at p (text_index p name) ≡ Some (Utf8 name) = ap (entry_at p) is ∙ is_the_text name (entry_at p index) (found_passes (is_text name) p index there) in
    let fits : NamedIn p e = (λ n same. (name, ap (entry_at p) (class_index_same n (text_index p name) same) ∙ text)) in
    let passes : is_class_of (class_added name p) name (Some e) ≡ true = ap (is_text name) (stays p (e ∷ []) (text_index p name) (Utf8 name) text) ∙ bytes_same name in
    (record { more = e ∷ []; is = refl; named = named_more p e refl fits named }, found_last (is_class_of (class_added name p) name) p e refl passes)
  where
    class_index_same : (a b : ℕ) → Class a ≡ Class b → a ≡ b
    class_index_same a b e = cc

pub record ClassAdded (name : List ℕ) (old new : List Entry) : Type 0 where
  pub grown : Grown old new
  pub index : ℕ
  pub at : found (is_class_of new name) new ≡ Some index

class_behind_by : (name : List ℕ) (old p : List Entry) → Added (is_text name) old p → (o : Option ℕ) → found (is_class_of p name) p ≡ o → ClassAdded name old (unless_found o p (class_added name p))
class_behind_by name old p text (Some index) is = record { grown = text.grown; index = index; at = is }
class_behind_by name old p text None is =
    let c = class_from name p text.index text.at text.grown.named in
    record { grown = grown_by old p (class_added name p) text.grown c.0; index = c.1.0; at = c.1.1 }

class_by : (name : List ℕ) (old p : List Entry) → Added (is_text name) old p → ClassesAreNamed old → (o : Option ℕ) → found (is_class_of old name) old ≡ o → ClassAdded name old (unless_found o old (class_behind name p))
class_by name old p text named (Some index) is = record { grown = same_grown old named; index = index; at = is }
class_by name old p text named None is = class_behind_by name old p text (found (is_class_of p name) p) refl

pub class_is_added : (name : List ℕ) (old : List Entry) → ClassesAreNamed old → ClassAdded name old (with_class name old)
unfolding with_class
class_is_added name old named = class_by name old (with_text name old) (text_added name old named) named (found (is_class_of old name) old) refl

-- ---- needs that are there

pub record HasMember (pool : List Entry) (class name descriptor : ℕ) : Type 0 where
  pub pair : ℕ
  pub pair_at : found (is_pair name descriptor) pool ≡ Some pair
  pub ref : ℕ
  pub ref_at : found (is_ref class pair) pool ≡ Some ref

pub record HasCall (pool : List Entry) (class name : ℕ) (descriptor : List ℕ) : Type 0 where
  pub text : ℕ
  pub text_at : found (is_text descriptor) pool ≡ Some text
  pub member : HasMember pool class name text

pub record HasMethod (pool : List Entry) (owner name descriptor : List ℕ) : Type 0 where
  pub class : ℕ
  pub class_at : found (is_class_of pool owner) pool ≡ Some class
  pub text : ℕ
  pub text_at : found (is_text name) pool ≡ Some text
  pub call : HasCall pool class text descriptor

abbrev pub Has : List Entry → Need → Type 0
Has pool (AText units) = (index : ℕ) × (found (is_text units) pool ≡ Some index)
Has pool (AClass name) = (index : ℕ) × (found (is_class_of pool name) pool ≡ Some index)
Has pool (AMethod owner name descriptor) = HasMethod pool owner name descriptor
Has pool (ACall class name descriptor) = HasCall pool class name descriptor

member_stays : (old more : List Entry) (c n d : ℕ) → HasMember old c n d → HasMember (old ++ more) c n d
member_stays old more c n d h = record {
  pair = h.pair;
  pair_at = found_stays (is_pair n d) old more h.pair h.pair_at;
  ref = h.ref;
  ref_at = found_stays (is_ref c h.pair) old more h.ref h.ref_at;
}

call_stays : (old more : List Entry) (c n : ℕ) (d : List ℕ) → HasCall old c n d → HasCall (old ++ more) c n d
call_stays old more c n d h = record {
  text = h.text;
  text_at = found_stays (is_text d) old more h.text h.text_at;
  member = member_stays old more c n h.text h.member;
}

pub has_stays : (old more : List Entry) (need : Need) → ClassesAreNamed old → Has old need → Has (old ++ more) need
has_stays old more (AText units) named h = (h.0, found_stays (is_text units) old more h.0 h.1)
has_stays old more (AClass name) named h = (h.0, class_stays old more name h.0 named h.1)
has_stays old more (AMethod o n d) named h = record {
  class = h.class;
  class_at = class_stays old more o h.class named h.class_at;
  text = h.text;
  text_at = found_stays (is_text n) old more h.text h.text_at;
  call = call_stays old more h.class h.text d h.call;
}
has_stays old more (ACall c n d) named h = call_stays old more c n d h

-- ---- each need is there once it is added

pub record NeedAdded (old new : List Entry) (H : List Entry → Type 0) : Type 0 where
  pub grown : Grown old new
  pub has : H new

pub member_added : (c n d : ℕ) (old : List Entry) → ClassesAreNamed old → NeedAdded old (with_member c n d old) (λ p. HasMember p c n d)
member_added c n d old named =
    let p = pair_added n d old named in
    let r = ref_added c (pair_index (with_pair n d old) n d) (with_pair n d old) p.grown.named in
    let index : pair_index (with_pair n d old) n d ≡ p.index = ap index_or_none p.at in
    let stayed : found (is_pair n d) (with_member c n d old) ≡ Some p.index = ap (found (is_pair n d)) r.grown.is ∙ found_stays (is_pair n d) (with_pair n d old) r.grown.more p.index p.at in
    record {
      grown = grown_by old (with_pair n d old) (with_member c n d old) p.grown r.grown;
      has = record { pair = p.index; pair_at = stayed; ref = r.index; ref_at = ap (λ i. found (is_ref c i) (with_member c n d old)) (sym index) ∙ r.at };
    }

pub call_added : (c n : ℕ) (d : List ℕ) (old : List Entry) → ClassesAreNamed old → NeedAdded old (with_call c n d old) (λ p. HasCall p c n d)
call_added c n d old named =
    let t = text_added d old named in
    let m = member_added c n (text_index (with_text d old) d) (with_text d old) t.grown.named in
    let index : text_index (with_text d old) d ≡ t.index = ap index_or_none t.at in
    record {
      grown = grown_by old (with_text d old) (with_call c n d old) t.grown m.grown;
      has = record {
        text = t.index;
        text_at = ap (found (is_text d)) m.grown.is ∙ found_stays (is_text d) (with_text d old) m.grown.more t.index t.at;
        member = subst (λ i. HasMember (with_call c n d old) c n i) index m.has;
      };
    }

pub method_added : (o n d : List ℕ) (old : List Entry) → ClassesAreNamed old → NeedAdded old (with_method o n d old) (λ p. HasMethod p o n d)
method_added o n d old named =
    let p = with_class o old in
    let c = class_is_added o old named in
    let q = with_text n p in
    let t = text_added n p c.grown.named in
    let class_q : found (is_class_of q o) q ≡ Some c.index = ap (λ x. found (is_class_of x o) x) t.grown.is ∙ class_stays p t.grown.more o c.index c.grown.named c.at in
    let m = call_added (class_index q o) (text_index q n) d q t.grown.named in
    let class_is : class_index q o ≡ c.index = ap index_or_none class_q in
    let text_is : text_index q n ≡ t.index = ap index_or_none t.at in
    let new = with_method o n d old in
    record {
      grown = grown_by old p new c.grown (grown_by p q new t.grown m.grown);
      has = record {
        class = c.index;
        class_at = ap (λ x. found (is_class_of x o) x) m.grown.is ∙ class_stays q m.grown.more o c.index t.grown.named class_q;
        text = t.index;
        text_at = ap (found (is_text n)) m.grown.is ∙ found_stays (is_text n) q m.grown.more t.index t.at;
        call = subst (λ i. HasCall new i t.index d) class_is (subst (λ i. HasCall new (class_index q o) i d) text_is m.has);
      };
    }

pub need_added : (need : Need) (old : List Entry) → ClassesAreNamed old → NeedAdded old (with_need old need) (λ p. Has p need)
unfolding with_need
need_added (AText units) old named = let t = text_added units old named in record { grown = t.grown; has = (t.index, t.at) }
need_added (AClass name) old named = let c = class_is_added name old named in record { grown = c.grown; has = (c.index, c.at) }
need_added (AMethod o n d) old named = method_added o n d old named
need_added (ACall c n d) old named = call_added c n d old named

abbrev pub HasAll : List Entry → List Need → Type 0
HasAll pool needs = AllByRecursion (Has pool) needs

pub needs_added : (needs : List Need) (old : List Entry) → ClassesAreNamed old → NeedAdded old (with_needs old needs) (λ p. HasAll p needs)
unfolding with_needs
needs_added [] old named = record { grown = same_grown old named; has = tt }
needs_added (n ∷ ns) old named =
    let first = need_added n old named in
    let rest = needs_added ns (with_need old n) first.grown.named in
    record {
      grown = grown_by old (with_need old n) (with_needs (with_need old n) ns) first.grown rest.grown;
      has = (subst (λ p. Has p n) (sym rest.grown.is) (has_stays (with_need old n) rest.grown.more n first.grown.named first.has), rest.has);
    }
