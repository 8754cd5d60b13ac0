-- Where the `new`s of woven code stand, and what whole code gives.
use Rattle.std.proofs.Common.{◌≡◌, inl, inr, ℕ, zero, suc, ◌+◌, ◌*◌, ◌<◌, ◌≤◌, Bool, true, false, eqb, cond, List, [], ◌∷◌, ◌++◌, map, length, Option, Some, None, refl, sym, ap, subst, ◌∙◌, arith, append_assoc, eq-eqb, ne_eqb}
use Rattle.std.specs.Prelude.{◌&&◌, ◌||◌, nat_lt, ◌-◌, is_some, int_le, pos, negsuc}
use Rattle.std.specs.List.{list_all}
use Rattle.std.proofs.lemmas.Bool.{and_parts, false≢true, eqb-true}
use Rattle.std.proofs.lemmas.Bool.Decides.{eqb_tells}
use Rattle.kilim_program.specs.declared.class.Method.{Method}
use Rattle.kilim_program.specs.declared.instr.Instr.{Instr}
use Rattle.kilim_program.specs.declared.instr.Instr.TheVariants.{New, Iconst, Lconst, Ldc, LdcW, Ldc2W, Iload, Lload, Aload, Istore, Lstore, Astore, Iinc, Ifeq, Ifne, Iflt, Ifge, Ifgt, Ifle, IfIcmpeq, IfIcmpne, IfIcmplt, IfIcmpge, IfIcmpgt, IfIcmple, IfAcmpeq, IfAcmpne, Goto, Tableswitch, Lookupswitch, Newarray, Anewarray, Checkcast, Instanceof, Ifnull, Ifnonnull, GotoW}
use Rattle.kilim_program.specs.declared.names.ClassId.{ClassId}
use Rattle.kilim_program.specs.Lengths.{has_length, code_stands, switch_padding, is_local_length, is_jump_length, is_table, is_far, matches_increase, is_loaded, is_primitive, is_reference}
use Rattle.kilim_program.specs.Lengths.{first_place}
use Rattle.kilim_type_spec.specs.Step.{made_by, made_at}
use Rattle.kilim_weave_laws.specs.woven_types.Facts.{WovenMethod}
use Rattle.kilim_weave_spec.specs.Woven.{Plan, Item, Mark, Does, added, moved_instr, piece, pieces, blocks, count, pausable_callee, woven_items, lay, label_stands, Labelled}
use Rattle.kilim_weave_laws.proofs.woven_types.Spans.{Word, onto, group_span}
use Rattle.kilim_weave_laws.proofs.woven_types.Laying.{Sound, items_sound, Grows}
use Rattle.kilim_weave_laws.proofs.woven_types.Bound.{local_few}
use Rattle.kilim_weave_laws.proofs.woven_types.Spans.{local_bytes}
use Rattle.kilim_program.specs.Program.{Program}
use Rattle.kilim_program.specs.Same.{is_constructor}
use Rattle.kilim_weave_laws.proofs.woven_types.OldFacts.{GrowsTo, AllNew}
use Rattle.kilim_weave_laws.proofs.woven_types.Nothing.{none_is}

-- ---- instructions by place

LowerCode : ℕ → List (ℕ × Instr) → Type 0
LowerCode q [] = Unit {0}
LowerCode q (e ∷ es) = (e.0 < q) × LowerCode q es

lower_more : (q r : ℕ) (es : List (ℕ × Instr)) → q ≤ r → LowerCode q es → LowerCode r es
unfolding LowerCode
lower_more q r [] h l = tt
lower_more q r (e ∷ es) h l = (let y = l.0 in omega (arith, y, h), lower_more q r es h l.1)

lower_join : (q : ℕ) (a : List (ℕ × Instr)) (e : ℕ × Instr) → LowerCode q a → e.0 < q → LowerCode q (a ++ (e ∷ []))
unfolding LowerCode
lower_join q [] e l h = (h, tt)
lower_join q (c ∷ a) e l h = (l.0, lower_join q a e l.1 h)

made_past : (front rest : List (ℕ × Instr)) (q : ℕ) (i : Instr) → LowerCode q front → made_at (front ++ ((q, i) ∷ rest)) q ≡ made_by i
unfolding LowerCode
made_past [] rest q i l = let h = eq-eqb q q refl in rw h refl
made_past (c ∷ front) rest q i l = let y = l.0 in let h = ne_eqb c.0 q (λ z. omega (arith, z, y)) in let r = made_past front rest q i l.1 in rw h r

-- what the instruction at each place makes
abbrev pub Codes : Plan → Method → ℕ → List Item → Type 0
Codes x w q [] = Unit {0}
Codes x w q (Mark label frame ∷ rest) = label_stands x q label × Codes x w q rest
Codes x w q (Does i size counted ∷ rest) = (made_at w.code q ≡ made_by i) × Codes x w (q + size q) rest

module _ (x : Plan) (w : Method) where
  codes_lay : (b : Bool) (items : List Item) (q : ℕ) (front : List (ℕ × Instr)) → w.code ≡ front ++ lay q items → LowerCode q front → Sound b items → Labelled x q items → Codes x w q items
  codes_lay b [] q front e l s labels = tt
  codes_lay b (Mark label frame ∷ rest) q front e l s labels = (labels.0, codes_lay true rest q front e l s.1 labels.1)
  codes_lay b (Does i size counted ∷ rest) q front e l s labels =
      let grows = s.0 q in (
        ap (λ c. made_at c q) e ∙ made_past front (lay (q + size q) rest) q i l,
        codes_lay false rest (q + size q) (front ++ ((q, i) ∷ [])) (e ∙ sym (append_assoc front ((q, i) ∷ []) (lay (q + size q) rest)))
            (lower_join (q + size q) front (q, i) (lower_more q (q + size q) front (omega arith) l) (omega (arith, grows))) s.1 labels,
      )

  codes_behind : (ws : List Word) (q : ℕ) (rest : List Item) → Codes x w q (onto ws rest) → (q' : ℕ) × Codes x w q' rest
  codes_behind [] q rest c = (q, c)
  codes_behind (v ∷ ws) q rest c = codes_behind ws (q + v.bytes) rest c.1

  moved_makes : (at : ℕ → ℕ) (i : Instr) → made_by (moved_instr at i) ≡ made_by i
  moved_makes at (New c) = refl
  moved_makes at i = refl

  piece_codes : (o : Option Method) (first : Bool) (number place next : ℕ) (i : Instr) (q : ℕ) (rest : List Item) → pausable_callee x.program i ≡ o → Codes x w q (piece o x first number place next i rest) →
      (((c : ClassId) → made_by i ≡ Some c → made_at w.code (x.at place) ≡ Some c) × ((q' : ℕ) × Codes x w q' rest))
  piece_codes None first number place next i q rest n c = ((λ k e. ap (made_at w.code) c.0 ∙ (c.1.0 ∙ (moved_makes x.at i ∙ e))), (_, c.1.1))
  piece_codes (Some callee) first number place next i q rest n c =
      let s = group_span x number callee place next i in
      ((λ k e. absurd (calls_make_none i callee k n e)), codes_behind s.words q rest (subst (λ z. Codes x w q z) (s.is rest) c.1))
    where
      calls_make_none : (i : Instr) (callee : Method) (k : ClassId) → pausable_callee x.program i ≡ Some callee → made_by i ≡ Some k → ⊥
      calls_make_none (New c) callee k n e = absurd (none_is callee n)
      calls_make_none i callee k n e = absurd (none_is k e)

  made_in : (es : List (ℕ × Instr)) (first : Bool) (number q t : ℕ) (c : ClassId) (rest : List Item) → Codes x w q (pieces x first number es rest) → made_at es t ≡ Some c → made_at w.code (x.at t) ≡ Some c
  made_in [] first number q t c rest cs e = absurd (cc)
  made_in (d ∷ es) first number q t c rest cs e =
      let o = pausable_callee x.program d.1 in
      let p = piece_codes o first number d.0 (first_place es x.method.code_length) d.1 q _ refl cs in
      elim (eqb_tells d.0 t) [
        | inl y ↦ subst (λ z. made_at w.code (x.at z) ≡ Some c) y.1 (p.0 c (let n = y.0 in rw n at e))
        | inr y ↦ made_in es (is_some o) (count o number) p.1.0 t c rest p.1.1 (let n = y.0 in rw n at e)
      ]

  self_codes : (b : Bool) (q : ℕ) (i j : Instr) (n m : ℕ) (rest : List Item) → Codes x w q (cond b rest (added i n ∷ added j m ∷ rest)) → (q' : ℕ) × Codes x w q' rest
  self_codes true q i j n m rest st = (q, st)
  self_codes false q i j n m rest st = (q + n + m, st.1.1)

  -- the `new` of an old place stands at its new place
  pub makes_moved : WovenMethod x w → Grows x w x.method.code → (t : ℕ) (c : ClassId) → made_at x.method.code t ≡ Some c → made_at w.code (x.at t) ≡ Some c
  unfolding LowerCode
  makes_moved woven g t c e =
      let cs = codes_lay false (woven_items x) 0 [] woven.code tt (items_sound x w g) woven.labels in
      let s = self_codes x.method.is_static _ _ _ _ _ _ cs.1.1 in
      made_in x.method.code true 1 _ t c (blocks x 1 x.method.code) s.1.1.1.1 e

-- ---- whole code

jump_three : (at to n : ℕ) → is_jump_length at to n ≡ true → 1 ≤ n
jump_three at to n h = let e = eqb-true n 3 (and_parts (nat_lt at (to + 32769)) (eqb n 3) (and_parts (nat_lt to (at + 32768)) _ h).1).1 in omega (arith, e)

local_some : (slot n : ℕ) → is_local_length slot n ≡ true → 1 ≤ n
local_some slot n h = let a = local_few slot n h in let b = (local_bytes slot).0 in omega (arith, a, b)

pub some_length : (i : Instr) (at n : ℕ) → has_length at i n ≡ true → 1 ≤ n
unfolding has_length
some_length (Iload slot) at n h = local_some slot n h
some_length (Lload slot) at n h = local_some slot n h
some_length (Aload slot) at n h = local_some slot n h
some_length (Istore slot) at n h = local_some slot n h
some_length (Lstore slot) at n h = local_some slot n h
some_length (Astore slot) at n h = local_some slot n h
some_length (Ifeq to) at n h = jump_three at to n h
some_length (Ifne to) at n h = jump_three at to n h
some_length (Iflt to) at n h = jump_three at to n h
some_length (Ifge to) at n h = jump_three at to n h
some_length (Ifgt to) at n h = jump_three at to n h
some_length (Ifle to) at n h = jump_three at to n h
some_length (IfIcmpeq to) at n h = jump_three at to n h
some_length (IfIcmpne to) at n h = jump_three at to n h
some_length (IfIcmplt to) at n h = jump_three at to n h
some_length (IfIcmpge to) at n h = jump_three at to n h
some_length (IfIcmpgt to) at n h = jump_three at to n h
some_length (IfIcmple to) at n h = jump_three at to n h
some_length (IfAcmpeq to) at n h = jump_three at to n h
some_length (IfAcmpne to) at n h = jump_three at to n h
some_length (Goto to) at n h = jump_three at to n h
some_length (Ifnull to) at n h = jump_three at to n h
some_length (Ifnonnull to) at n h = jump_three at to n h
some_length (Iconst k) at n h = let e = eqb-true n 1 (and_parts _ (eqb n 1) (and_parts _ _ h).1).1 in omega (arith, e)
some_length (Lconst k) at n h = let e = eqb-true n 1 (and_parts _ (eqb n 1) (and_parts _ _ h).1).1 in omega (arith, e)
some_length (Ldc v) at n h = let e = eqb-true n 2 (and_parts (is_loaded v) (eqb n 2) h).1 in omega (arith, e)
some_length (LdcW v) at n h = let e = eqb-true n 3 (and_parts (is_loaded v) (eqb n 3) h).1 in omega (arith, e)
some_length (Ldc2W v) at n h = let e = eqb-true n 3 (and_parts (is_loaded v) (eqb n 3) h).1 in omega (arith, e)
some_length (Anewarray ty) at n h = let e = eqb-true n 3 (and_parts (is_reference ty) (eqb n 3) h).1 in omega (arith, e)
some_length (Checkcast ty) at n h = let e = eqb-true n 3 (and_parts (is_reference ty) (eqb n 3) h).1 in omega (arith, e)
some_length (Instanceof ty) at n h = let e = eqb-true n 3 (and_parts (is_reference ty) (eqb n 3) h).1 in omega (arith, e)
some_length (Newarray b) at n h = let e = eqb-true n 2 (and_parts (is_primitive b) (eqb n 2) h).1 in omega (arith, e)
some_length (GotoW to) at n h = let e = eqb-true n 5 (and_parts (is_far at to) (eqb n 5) h).1 in omega (arith, e)
some_length (Tableswitch default low targets) at n h =
    let a = (and_parts (is_table low targets) _ h).1 in
    let e = eqb-true n (13 + switch_padding at + 4 * length targets) (and_parts (list_all (is_far at) (default ∷ targets)) _ a).1 in
    omega (arith, e)
some_length (Lookupswitch default pairs) at n h =
    let a = (and_parts (matches_increase pairs) _ h).1 in
    let e = eqb-true n (9 + switch_padding at + 8 * length pairs) (and_parts (list_all (is_far at) (default ∷ map (λ pair. pair.1) pairs)) _ a).1 in
    omega (arith, e)
some_length (Iinc slot k) at zero h = absurd (iinc_some (nat_lt slot 256) (int_le (negsuc 127) k) (int_le k (pos 127)) h)
  where
    iinc_some : (a b c : Bool) → ((a && (b && (c && false))) || false) ≡ true → ⊥
    iinc_some true true true e = false≢true e
    iinc_some true true false e = false≢true e
    iinc_some true false c e = false≢true e
    iinc_some false b c e = false≢true e
some_length i at zero h = absurd (cc)
some_length i at (suc n) h = omega arith

-- places grow from 0 on, and each length is one of the instruction
pub record WholeCode (m : Method) : Type 0 where
  pub begins : first_place m.code m.code_length ≡ 0
  pub grows : GrowsTo m.code_length m.code

grows_from : (end at : ℕ) (es : List (ℕ × Instr)) → code_stands at es end ≡ true → (first_place es end ≡ at) × GrowsTo end es
unfolding code_stands
grows_from end at [] h = (sym (eqb-true at end h), tt)
grows_from end at (e ∷ es) h =
    let p1 = and_parts (eqb e.0 at) _ h in
    let p2 = and_parts (has_length at e.1 (first_place es end - at)) _ p1.1 in
    let here = eqb-true e.0 at p1.0 in
    let some = some_length e.1 at (first_place es end - at) p2.0 in
    (here, (omega (arith, here, some), (grows_from end (first_place es end) es p2.1).1))

pub whole_code : (m : Method) → code_stands 0 m.code m.code_length ≡ true → WholeCode m
whole_code m h = let g = grows_from m.code_length 0 m.code h in record { begins = g.0; grows = g.1 }

-- ---- each `new` is found at its place

-- the places of a method's `new`s
abbrev pub new_places : Method → ℕ → Bool
new_places m q = is_some (made_at m.code q)

news_from : (P : Program) (m : Method) (plain : is_constructor m ≡ false) (pre es : List (ℕ × Instr)) → m.code ≡ pre ++ es → LowerCode (first_place es m.code_length) pre → GrowsTo m.code_length es → AllNew (new_places m) P m plain (λ q. refl) es
unfolding LowerCode
news_from P m plain pre [] code l g = tt
news_from P m plain pre (e ∷ es) code l g =
    let up = g.0 in (
      (λ c h. ap (λ z. is_some (made_at z e.0)) code ∙ (ap is_some (made_past pre es e.0 e.1 l ∙ h))),
      news_from P m plain (pre ++ (e ∷ [])) es (code ∙ sym (append_assoc pre (e ∷ []) es)) (lower_join (first_place es m.code_length) pre e (lower_more e.0 (first_place es m.code_length) pre (omega (arith, up)) l) up) g.1,
    )

pub news : (P : Program) (m : Method) (plain : is_constructor m ≡ false) → GrowsTo m.code_length m.code → AllNew (new_places m) P m plain (λ q. refl) m.code
unfolding LowerCode
news P m plain g = news_from P m plain [] m.code refl tt g
