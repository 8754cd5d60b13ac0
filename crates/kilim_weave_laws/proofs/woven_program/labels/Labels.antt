-- Each label stands once, so it is found where it stands.
use Rattle.std.proofs.Common.{◌≡◌, ℕ, suc, ◌+◌, ◌<◌, ◌≤◌, Bool, true, false, cond, eqb, not, pos, List, [], ◌∷◌, ◌++◌, map, Option, Some, None, refl, sym, ap, subst, ◌∙◌, arith, eq-eqb, eqb-true, ne_eqb}
use Rattle.std.specs.Prelude.{◌||◌, ◌&&◌, is_some, nat_le}
use Rattle.std.specs.List.{list_any}
use Rattle.std.proofs.lemmas.Bool.{and_parts, and_from, not-true, or_left, or_parts, or_right, or_from}
use Rattle.kilim_program.specs.declared.class.Method.{Method}
use Rattle.kilim_program.specs.declared.instr.Instr.{Instr}
use Rattle.kilim_program.specs.declared.instr.Instr.TheVariants.{AconstNull, Aload, Astore, Bipush, Iconst, Sipush}
use Rattle.kilim_program.specs.declared.ty.Ty.{Ty}
use Rattle.kilim_program.specs.declared.verified.VType.{VType}
use Rattle.kilim_program.specs.declared.verified.VType.TheVariants.{Top, Int, Long, Null, UninitThis, Uninit, Object}
use Rattle.kilim_program.specs.Lengths.{first_place}
use Rattle.kilim_program.specs.Same.{all_differ}
use Rattle.kilim_weave_spec.specs.Woven.{Does, Item, Label, Labelled, Mark, Old, Plan, Resumes, added, behind, below, block, blocks, count, drop_result, dummies, dummy_return, label_stands, leave, local_size, pausable_callee, piece, pieces, receiver, receiver_of, restore, restore_local, restore_locals, restore_receiver, restore_stack, resume_code, save, save_local, save_locals, save_stack, saved, self_slot, woven_items}
use Rattle.kilim_weave_laws.specs.shape.Law.{labels_from, placed}
use Rattle.kilim_weave_laws.proofs.shape.Shape.{same_places}
use Rattle.kilim_weave_laws.proofs.woven_types.Codes.{whole_code}
use Rattle.kilim_weave_laws.proofs.woven_types.Laying.{Grows, Sound, items_sound}
use Rattle.kilim_weave_laws.proofs.woven_types.OldFacts.{GrowsTo}
use Rattle.kilim_weave_laws.specs.woven_program.labels.Law.{LabelsAreFound, found, found_plan, same_label}

-- ---- finding

same_itself : (l : Label) → same_label l l ≡ true
same_itself (Old a) = eq-eqb a a refl
same_itself (Resumes a) = eq-eqb a a refl

label_is : (k l : Label) → same_label k l ≡ true → k ≡ l
label_is (Old a) (Old b) e = ap Old (eqb-true a b e)
label_is (Resumes a) (Resumes b) e = ap Resumes (eqb-true a b e)
label_is (Old a) (Resumes b) e = absurd (cc)
label_is (Resumes a) (Old b) e = absurd (cc)

abbrev is_in : Label → List (Label × ℕ) → Bool
is_in l es = list_any (λ e. same_label l e.0) es

abbrev Right : Plan → List (Label × ℕ) → Type 0
Right x [] = Unit {0}
Right x (e ∷ es) = label_stands x e.1 e.0 × Right x es

right_labelled : (x : Plan) (items : List Item) (q : ℕ) → Right x (labels_from q items) → Labelled x q items
right_labelled x [] q r = tt
right_labelled x (Mark label frame ∷ rest) q r = (r.0, right_labelled x rest q r.1)
right_labelled x (Does i size counted ∷ rest) q r = right_labelled x rest (q + size q) r

abbrev finder : Plan → ℕ → List (Label × ℕ) → Plan
finder x end es = placed x (λ place. found (end + place) (Old place) es) (λ number. found 0 (Resumes number) es)

stands_found : (x : Plan) (end : ℕ) (whole : List (Label × ℕ)) (l : Label) (q : ℕ) → ((other : ℕ) → found other l whole ≡ q) → label_stands (finder x end whole) q l
stands_found x end whole (Old place) q e = e (end + place)
stands_found x end whole (Resumes number) q e = e 0

all_right : (x : Plan) (end : ℕ) (whole rest : List (Label × ℕ)) → all_differ (λ (a b : Label × ℕ). same_label a.0 b.0) rest ≡ true → ((l : Label) (other : ℕ) → is_in l rest ≡ true → found other l whole ≡ found other l rest) → Right (finder x end whole) rest
all_right x end whole [] d inv = tt
all_right x end whole (e ∷ es) d inv =
    let p = and_parts (not (is_in e.0 es)) _ d in (
      stands_found x end whole e.0 e.1 (λ other. inv e.0 other (or_left (same_label e.0 e.0) _ (same_itself e.0)) ∙ ap (λ (b : Bool). cond b e.1 (found other e.0 es)) (same_itself e.0)),
      all_right x end whole es p.1 (λ l other i. inv l other (or_right (same_label l e.0) _ i) ∙ past l other (same_label l e.0) refl i (not-true _ p.0)),
    )
  where
    past : (l : Label) (other : ℕ) (b : Bool) → same_label l e.0 ≡ b → is_in l es ≡ true → is_in e.0 es ≡ false → cond (same_label l e.0) e.1 (found other l es) ≡ found other l es
    past l other true is i none = absurd (let s = label_is l e.0 is in let y : is_in e.0 es ≡ true = ap (λ (k : Label). is_in k es) (sym s) ∙ i in let z : true ≡ false = sym y ∙ none in cc)
    past l other false is i none = ap (λ (b : Bool). cond b e.1 (found other l es)) is

-- ---- labels stand one behind the other

abbrev Rises : ℕ → ℕ → List (Label × ℕ) → Type 0
Rises low end [] = Unit {0}
Rises low end (e ∷ es) = (low ≤ e.1) × (e.1 < end) × Rises (suc e.1) end es

lower : (low less end : ℕ) (es : List (Label × ℕ)) → less ≤ low → Rises low end es → Rises less end es
lower low less end [] h r = tt
lower low less end (e ∷ es) h r = let l = r.0 in (omega (arith, l, h), r.1, r.2)

grows : (items : List Item) (q : ℕ) → q ≤ behind q items
grows [] q = omega arith
grows (Mark label frame ∷ rest) q = grows rest q
grows (Does i size counted ∷ rest) q = let h = grows rest (q + size q) in omega (arith, h)

-- an instruction stands behind a mark
ends_behind : (items : List Item) (q : ℕ) → Sound true items → q < behind q items
ends_behind [] q s = absurd (let e : true ≡ false = s in cc)
ends_behind (Mark label frame ∷ rest) q s = absurd (let e : true ≡ false = s.0 in cc)
ends_behind (Does i size counted ∷ rest) q s = let g = s.0 q in let h = grows rest (q + size q) in omega (arith, g, h)

rises : (b : Bool) (items : List Item) (q : ℕ) → Sound b items → Rises (cond b (suc q) q) (behind q items) (labels_from q items)
rises b [] q s = tt
rises true (Mark label frame ∷ rest) q s = absurd (let e : true ≡ false = s.0 in cc)
rises false (Mark label frame ∷ rest) q s = (omega arith, ends_behind rest q s.1, rises true rest q s.1)
rises b (Does i size counted ∷ rest) q s = lower (q + size q) (cond b (suc q) q) (behind (q + size q) rest) (labels_from (q + size q) rest) (by b) (rises false rest (q + size q) s.1)
  where
    by : (b : Bool) → cond b (suc q) q ≤ q + size q
    by true = let g = s.0 q in omega (arith, g)
    by false = omega arith

found_within : (other : ℕ) (l : Label) (low end : ℕ) (es : List (Label × ℕ)) → Rises low end es → is_in l es ≡ true → (low ≤ found other l es) × (found other l es < end)
found_within other l low end [] r i = absurd (cc)
found_within other l low end (e ∷ es) r i = by (same_label l e.0) i (λ k. found_within other l (suc e.1) end es r.2 k)
  where
    by : (b : Bool) → (b || is_in l es) ≡ true → (is_in l es ≡ true → (suc e.1 ≤ found other l es) × (found other l es < end)) → (low ≤ cond b e.1 (found other l es)) × (cond b e.1 (found other l es) < end)
    by true i again = (r.0, r.1)
    by false i again = let k = again i in let a = k.0 in let c = r.0 in (omega (arith, a, c), k.1)

found_other : (other : ℕ) (l : Label) (es : List (Label × ℕ)) → is_in l es ≡ false → found other l es ≡ other
found_other other l [] n = refl
found_other other l (e ∷ es) n = let p = or_parts (same_label l e.0) _ n in ap (λ (b : Bool). cond b e.1 (found other l es)) p.0 ∙ found_other other l es p.1

found_once : (o1 o2 : ℕ) (l k : Label) (low end : ℕ) (es : List (Label × ℕ)) → Rises low end es → is_in l es ≡ true → is_in k es ≡ true → found o1 l es ≡ found o2 k es → l ≡ k
found_once o1 o2 l k low end [] r i j h = absurd (cc)
found_once o1 o2 l k low end (e ∷ es) r i j h = by (same_label l e.0) (same_label k e.0) refl refl i j h (λ a b c. found_once o1 o2 l k (suc e.1) end es r.2 a b c)
  where
    by : (b c : Bool) → same_label l e.0 ≡ b → same_label k e.0 ≡ c → (b || is_in l es) ≡ true → (c || is_in k es) ≡ true → cond b e.1 (found o1 l es) ≡ cond c e.1 (found o2 k es) →
        (is_in l es ≡ true → is_in k es ≡ true → found o1 l es ≡ found o2 k es → l ≡ k) → l ≡ k
    by true true a b i j h again = label_is l e.0 a ∙ sym (label_is k e.0 b)
    by true false a b i j h again = absurd (let w = (found_within o2 k (suc e.1) end es r.2 j).0 in omega (arith, w, h))
    by false true a b i j h again = absurd (let w = (found_within o1 l (suc e.1) end es r.2 i).0 in omega (arith, w, h))
    by false false a b i j h again = again i j h

old_is : (a b : ℕ) → Old a ≡ Old b → a ≡ b
old_is a b e = cc

apart : (end : ℕ) (es : List (Label × ℕ)) → Rises 0 end es → (a b : ℕ) → found (end + a) (Old a) es ≡ found (end + b) (Old b) es → a ≡ b
apart end es r a b h = by (is_in (Old a) es) (is_in (Old b) es) refl refl
  where
    by : (c d : Bool) → is_in (Old a) es ≡ c → is_in (Old b) es ≡ d → a ≡ b
    by true true i j = old_is a b (found_once (end + a) (end + b) (Old a) (Old b) 0 end es r i j h)
    by true false i j = absurd (let w = (found_within (end + a) (Old a) 0 end es r i).1 in let o = found_other (end + b) (Old b) es j in omega (arith, w, o, h))
    by false true i j = absurd (let w = (found_within (end + b) (Old b) 0 end es r j).1 in let o = found_other (end + a) (Old a) es i in omega (arith, w, o, h))
    by false false i j = let o = found_other (end + a) (Old a) es i in let p = found_other (end + b) (Old b) es j in omega (arith, o, p, h)

same_grows : (x : Plan) (w : Method) (es : List (ℕ × Instr)) → GrowsTo x.method.code_length es → Grows x w es
same_grows x w [] g = tt
same_grows x w (e ∷ es) g = (g.0, same_grows x w es g.1)

-- ---- which labels there are

abbrev names : List Item → List Label
names [] = []
names (Mark label frame ∷ rest) = label ∷ names rest
names (Does i size counted ∷ rest) = names rest

names_are : (items : List Item) (q : ℕ) → map (λ e. e.0) (labels_from q items) ≡ names items
names_are [] q = refl
names_are (Mark label frame ∷ rest) q = ap (λ ls. label ∷ ls) (names_are rest q)
names_are (Does i size counted ∷ rest) q = names_are rest (q + size q)

module _ (x : Plan) where
  save_none : (t : VType) (r : List Item) → names (save x t r) ≡ names r
  save_none Int r = refl
  save_none Long r = refl
  save_none (Object ty) r = refl
  save_none Top r = refl
  save_none Null r = refl
  save_none UninitThis r = refl
  save_none (Uninit q) r = refl

  save_stack_none : (ts : List VType) (r : List Item) → names (save_stack x ts r) ≡ names r
  save_stack_none [] r = refl
  save_stack_none (t ∷ ts) r = save_none t (save_stack x ts r) ∙ save_stack_none ts r

  save_local_none : (slot : ℕ) (t : VType) (r : List Item) → names (save_local x slot t r) ≡ names r
  save_local_none slot Null r = refl
  save_local_none slot Int r = refl
  save_local_none slot Long r = refl
  save_local_none slot Top r = refl
  save_local_none slot UninitThis r = refl
  save_local_none slot (Uninit q) r = refl
  save_local_none slot (Object ty) r = refl

  save_locals_none : (es : List (ℕ × VType)) (r : List Item) → names (save_locals x es r) ≡ names r
  save_locals_none [] r = refl
  save_locals_none (e ∷ es) r = save_local_none e.0 e.1 (save_locals x es r) ∙ save_locals_none es r

  restore_none : (t : VType) (r : List Item) → names (restore x t r) ≡ names r
  restore_none Int r = refl
  restore_none Long r = refl
  restore_none (Object ty) r = refl
  restore_none Top r = refl
  restore_none Null r = refl
  restore_none UninitThis r = refl
  restore_none (Uninit q) r = refl

  restore_stack_none : (ts : List VType) (r : List Item) → names (restore_stack x ts r) ≡ names r
  restore_stack_none [] r = refl
  restore_stack_none (t ∷ ts) r = restore_stack_none ts (restore x t r) ∙ restore_none t r

  restore_local_none : (slot : ℕ) (t : VType) (r : List Item) → names (restore_local x slot t r) ≡ names r
  restore_local_none slot Int r = refl
  restore_local_none slot Long r = refl
  restore_local_none slot (Object ty) r = refl
  restore_local_none slot Top r = refl
  restore_local_none slot Null r = refl
  restore_local_none slot UninitThis r = refl
  restore_local_none slot (Uninit q) r = refl

  restore_locals_none : (es : List (ℕ × VType)) (r : List Item) → names (restore_locals x es r) ≡ names r
  restore_locals_none [] r = refl
  restore_locals_none (e ∷ es) r = restore_locals_none es (restore_local x e.0 e.1 r) ∙ restore_local_none e.0 e.1 r

  number_none : (a b : Bool) (n : ℕ) (r : List Item) → names (cond a (added (Iconst (pos n)) 1) (cond b (added (Bipush (pos n)) 2) (added (Sipush (pos n)) 3)) ∷ r) ≡ names r
  number_none true b n r = refl
  number_none false true n r = refl
  number_none false false n r = refl

  self_none : (b : Bool) (r : List Item) → names (cond b (added AconstNull 1) (added (Aload (self_slot x.method)) (local_size (self_slot x.method))) ∷ r) ≡ names r
  self_none true r = refl
  self_none false r = refl

  dummy_return_none : (o : Option Ty) (r : List Item) → names (dummy_return o r) ≡ names r
  dummy_return_none None r = refl
  dummy_return_none (Some ty) r = refl

  drop_result_none : (o : Option Ty) (r : List Item) → names (drop_result o r) ≡ names r
  drop_result_none None r = refl
  drop_result_none (Some ty) r = refl

  dummies_none : (tys : List Ty) (r : List Item) → names (dummies tys r) ≡ names r
  dummies_none [] r = refl
  dummies_none (ty ∷ tys) r = dummies_none tys r

  receiver_none : (t : VType) (r : List Item) → names (receiver_of x t r) ≡ names r
  receiver_none (Object ty) r = refl
  receiver_none Int r = refl
  receiver_none Long r = refl
  receiver_none Top r = refl
  receiver_none Null r = refl
  receiver_none UninitThis r = refl
  receiver_none (Uninit q) r = refl

  restore_receiver_none : (b : Bool) (t : VType) (r : List Item) → names (restore_receiver b x t r) ≡ names r
  restore_receiver_none true t r = refl
  restore_receiver_none false t r = receiver_none t r

  leave_none : (number : ℕ) (callee : Method) (place to : ℕ) (r : List Item) → names (leave x number callee place to r) ≡ names r
  leave_none number callee place to r =
      save_stack_none (below x callee place) _
      ∙ (save_locals_none (saved x place to) _ ∙ (number_none (nat_le number 5) (nat_le number 127) number _ ∙ (self_none x.method.is_static _ ∙ dummy_return_none x.method.result r)))

  resume_none : (callee : Method) (place to : ℕ) (r : List Item) → names (resume_code x callee place to r) ≡ names r
  resume_none callee place to r =
      restore_locals_none (saved x place to) _
      ∙ (restore_stack_none (below x callee place) _ ∙ (restore_receiver_none callee.is_static (receiver x callee place) _ ∙ dummies_none callee.params _))

  abbrev olds : List (ℕ × Instr) → List Label
  olds [] = []
  olds (e ∷ es) = Old e.0 ∷ olds es

  abbrev one_resume : Option Method → ℕ → List Label → List Label
  one_resume None number ls = ls
  one_resume (Some callee) number ls = Resumes number ∷ ls

  abbrev resumes : ℕ → List (ℕ × Instr) → List Label
  resumes number [] = []
  resumes number (e ∷ es) = one_resume (pausable_callee x.program e.1) number (resumes (count (pausable_callee x.program e.1) number) es)

  piece_names : (o : Option Method) (first : Bool) (number place to : ℕ) (i : Instr) (r : List Item) → names (piece o x first number place to i r) ≡ Old place ∷ names r
  piece_names None first number place to i r = refl
  piece_names (Some callee) first number place to i r = ap (λ ls. Old place ∷ ls) (drop_result_none callee.result (leave x number callee place to r) ∙ leave_none number callee place to r)

  pieces_names : (es : List (ℕ × Instr)) (first : Bool) (number : ℕ) (r : List Item) → names (pieces x first number es r) ≡ olds es ++ names r
  pieces_names [] first number r = refl
  pieces_names (e ∷ es) first number r =
      let o = pausable_callee x.program e.1 in
      piece_names o first number e.0 (first_place es x.method.code_length) e.1 (pieces x (is_some o) (count o number) es r) ∙ ap (λ ls. Old e.0 ∷ ls) (pieces_names es (is_some o) (count o number) r)

  block_names : (o : Option Method) (number place to : ℕ) (r : List Item) → names (block o x number place to r) ≡ one_resume o number (names r)
  block_names None number place to r = refl
  block_names (Some callee) number place to r = ap (λ ls. Resumes number ∷ ls) (resume_none callee place to r)

  blocks_names : (es : List (ℕ × Instr)) (number : ℕ) → names (blocks x number es) ≡ resumes number es
  blocks_names [] number = refl
  blocks_names (e ∷ es) number =
      let o = pausable_callee x.program e.1 in
      block_names o number e.0 (first_place es x.method.code_length) (blocks x (count o number) es) ∙ ap (one_resume o number) (blocks_names es (count o number))

  self_items_none : (b : Bool) (r : List Item) → names (cond b r (added (Aload 0) 1 ∷ added (Astore (self_slot x.method)) (local_size (self_slot x.method)) ∷ r)) ≡ names r
  self_items_none true r = refl
  self_items_none false r = refl

  all_names : names (woven_items x) ≡ olds x.method.code ++ resumes 1 x.method.code
  all_names =
      self_items_none x.method.is_static _
      ∙ (pieces_names x.method.code true 1 (blocks x 1 x.method.code) ∙ ap (λ ls. olds x.method.code ++ ls) (blocks_names x.method.code 1))

  -- ---- no two are the same

  low_resumes : (n number : ℕ) (es : List (ℕ × Instr)) → n < number → list_any (same_label (Resumes n)) (resumes number es) ≡ false
  low_resumes n number [] h = refl
  low_resumes n number (e ∷ es) h = by (pausable_callee x.program e.1) (λ m l. low_resumes n m es l)
    where
      by : (o : Option Method) → ((m : ℕ) → n < m → list_any (same_label (Resumes n)) (resumes m es) ≡ false) → list_any (same_label (Resumes n)) (one_resume o number (resumes (count o number) es)) ≡ false
      by None again = again number h
      by (Some callee) again = or_from (eqb n number) _ (ne_eqb n number (λ s. omega (arith, s, h))) (again (suc number) (omega (arith, h)))

  resumes_differ : (number : ℕ) (es : List (ℕ × Instr)) → all_differ same_label (resumes number es) ≡ true
  resumes_differ number [] = refl
  resumes_differ number (e ∷ es) = by (pausable_callee x.program e.1) (λ m. resumes_differ m es)
    where
      by : (o : Option Method) → ((m : ℕ) → all_differ same_label (resumes m es) ≡ true) → all_differ same_label (one_resume o number (resumes (count o number) es)) ≡ true
      by None again = again number
      by (Some callee) again = and_from (not (list_any (same_label (Resumes number)) (resumes (suc number) es))) _ (ap not (low_resumes number (suc number) es (omega arith))) (again (suc number))

  no_old : (a : ℕ) (number : ℕ) (es : List (ℕ × Instr)) → list_any (same_label (Old a)) (resumes number es) ≡ false
  no_old a number [] = refl
  no_old a number (e ∷ es) = by (pausable_callee x.program e.1) (λ m. no_old a m es)
    where
      by : (o : Option Method) → ((m : ℕ) → list_any (same_label (Old a)) (resumes m es) ≡ false) → list_any (same_label (Old a)) (one_resume o number (resumes (count o number) es)) ≡ false
      by None again = again number
      by (Some callee) again = again (suc number)

  low_olds : (a end : ℕ) (es : List (ℕ × Instr)) (ls : List Label) → a < first_place es end → GrowsTo end es → list_any (same_label (Old a)) ls ≡ false → list_any (same_label (Old a)) (olds es ++ ls) ≡ false
  low_olds a end [] ls h g n = n
  low_olds a end (e ∷ es) ls h g n = let up = g.0 in or_from (eqb a e.0) _ (ne_eqb a e.0 (λ s. omega (arith, s, h))) (low_olds a end es ls (omega (arith, h, up)) g.1 n)

  olds_differ : (end : ℕ) (es code : List (ℕ × Instr)) → GrowsTo end es → all_differ same_label (olds es ++ resumes 1 code) ≡ true
  olds_differ end [] code g = resumes_differ 1 code
  olds_differ end (e ∷ es) code g = and_from (not (list_any (same_label (Old e.0)) (olds es ++ resumes 1 code))) _ (ap not (low_olds e.0 end es (resumes 1 code) g.0 g.1 (no_old e.0 1 code))) (olds_differ end es code g.1)

-- ---- all of it

any_map : (l : Label) (es : List (Label × ℕ)) → list_any (λ e. same_label l e.0) es ≡ list_any (same_label l) (map (λ e. e.0) es)
any_map l [] = refl
any_map l (e ∷ es) = ap (λ (b : Bool). same_label l e.0 || b) (any_map l es)

differ_map : (es : List (Label × ℕ)) → all_differ (λ (a b : Label × ℕ). same_label a.0 b.0) es ≡ all_differ same_label (map (λ e. e.0) es)
differ_map [] = refl
differ_map (e ∷ es) =
    ap (λ (b : Bool). not b && all_differ (λ (a b : Label × ℕ). same_label a.0 b.0) es) (any_map e.0 es)
    ∙ ap (λ (b : Bool). not (list_any (same_label e.0) (map (λ d. d.0) es)) && b) (differ_map es)

pub labelled : LabelsAreFound
labelled x whole =
    let ls = labels_from 0 (woven_items x) in
    let end = behind 0 (woven_items x) in
    let y = found_plan x in
    let g = (whole_code x.method whole).grows in
    let d : all_differ (λ (a b : Label × ℕ). same_label a.0 b.0) ls ≡ true =
    differ_map ls ∙ (ap (all_differ same_label) (names_are (woven_items x) 0 ∙ all_names x) ∙ olds_differ x x.method.code_length x.method.code x.method.code g) in
    let same : labels_from 0 (woven_items y) ≡ ls = (same_places x y.at y.block 0).0 in (
      right_labelled y (woven_items y) 0 (subst (λ (es : List (Label × ℕ)). Right y es) (sym same) (all_right x end ls ls d (λ l other i. refl))),
      apart end ls (rises false (woven_items x) 0 (items_sound x x.method (same_grows x x.method x.method.code g))),
    )
