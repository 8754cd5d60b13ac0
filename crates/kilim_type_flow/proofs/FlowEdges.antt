-- Entries of code by their places, and the places before each.
use Rattle.std.proofs.Common.{◌≡◌, ◌⊎◌, inl, inr, ℕ, zero, suc, ◌+◌, ◌<◌, ◌≤◌, Bool, true, false, cond, List, [], ◌∷◌, ◌++◌, length, get_or, set, drop, slice_get, Some, refl, ap, sym, ◌∙◌, subst, arith, length-append}
use Rattle.std.specs.Prelude.{◌==◌}
use Rattle.std.proofs.lemmas.Bool.{eqb-true}
use Rattle.std.proofs.lemmas.List.{length-set}
use Rattle.std.proofs.lemmas.Option.{slice_get_within}
use Rattle.kilim_program.specs.declared.class.Method.{Method}
use Rattle.kilim_program.specs.declared.instr.Instr.{Instr}
use Rattle.kilim_program.specs.Lengths.{fetched, first_place}
use Rattle.kilim_program.specs.lookups.Places.{Above, Rising}
use Rattle.kilim_type_spec.specs.Typed.{Among}
use Rattle.kilim_type_flow.specs.Marks.{AreBefore, AreEmpty, BeforeSoFar, Further, Goes, Tos}
use Rattle.kilim_type_flow.proofs.Lists.{among_last, among_left, last_among, same_or}

-- ---- entries by their places

above_at : (place : ℕ) (code : List (ℕ × Instr)) (i : ℕ) (entry : ℕ × Instr) → Above place code → slice_get code i ≡ Some entry → place < entry.0
above_at place [] i entry above found = absurd (cc)
above_at place (e ∷ es) zero entry above found = grind (arith, above.0, found)
above_at place (e ∷ es) (suc i) entry above found = above_at place es i entry above.1 found

entry_found : (code : List (ℕ × Instr)) (end i : ℕ) (entry : ℕ × Instr) → Rising code → slice_get code i ≡ Some entry → fetched code end entry.0 ≡ Some (entry.1, first_place (drop (suc i) code) end)
entry_found [] end i entry rising found = absurd (cc)
entry_found (e ∷ es) end zero entry rising found = grind (arith, found)
entry_found (e ∷ es) end (suc i) entry rising found =
    let above = above_at e.0 es i entry rising.0 found in
    let rest = entry_found es end i entry rising.1 found in
    grind (arith, above, rest)

pub entry_fetched : (code : List (ℕ × Instr)) (end i : ℕ) (entry : ℕ × Instr) → Rising code → slice_get code i ≡ Some entry → fetched code end entry.0 ≡ Some (entry.1, first_place (drop (i + 1) code) end)
entry_fetched code end i entry rising found = let e : i + 1 ≡ suc i = omega arith in rw (e, entry_found code end i entry rising found)

-- what is found at a place is an entry
pub record Entry (code : List (ℕ × Instr)) (end p : ℕ) (i : Instr) (to : ℕ) : Type 0 where
  pub at : ℕ
  pub there : (let e : ℕ × Instr = (p, i) in slice_get code at ≡ Some e)
  pub behind : to ≡ first_place (drop (at + 1) code) end

pub found_here : (a b : Instr × ℕ) → Some a ≡ Some b → a ≡ b
found_here a b e = cc

entry_if : (e : ℕ × Instr) (es : List (ℕ × Instr)) (end p : ℕ) (i : Instr) (to : ℕ) (b : Bool) → (e.0 == p) ≡ b
    → cond b (Some (e.1, first_place es end)) (fetched es end p) ≡ Some (i, to) → (fetched es end p ≡ Some (i, to) → Entry es end p i to) → Entry (e ∷ es) end p i to
entry_if e es end p i to true is h later =
    let f = found_here (e.1, first_place es end) (i, to) h in
    record { at = 0; there = ap (λ (x : ℕ × Instr). Some x) (let a : e.0 ≡ p = eqb-true e.0 p is in let b : e.1 ≡ i = ap (λ (x : Instr × ℕ). x.0) f in ap (λ (n : ℕ). let x : ℕ × Instr = (n, e.1) in x) a ∙ ap (λ (j : Instr). let x : ℕ × Instr = (p, j) in x) b); behind = sym (ap (λ (x : Instr × ℕ). x.1) f) }
entry_if e es end p i to false is h later = let r = later h in let n : suc r.at + 1 ≡ suc (r.at + 1) = omega arith in record { at = suc r.at; there = r.there; behind = r.behind ∙ sym (ap (λ (k : ℕ). first_place (drop k (e ∷ es)) end) n) }

pub entry_of : (code : List (ℕ × Instr)) (end p : ℕ) (i : Instr) (to : ℕ) → fetched code end p ≡ Some (i, to) → Entry code end p i to
entry_of [] end p i to h = absurd (cc)
entry_of (e ∷ es) end p i to h = entry_if e es end p i to (e.0 == p) refl h (entry_of es end p i to)

pub same_entry : (code : List (ℕ × Instr)) (a b : ℕ) (d e : ℕ × Instr) → slice_get code a ≡ Some d → slice_get code b ≡ Some e → a ≡ b → d ≡ e
same_entry code a b d e x y same = let z : Some d ≡ Some e = sym x ∙ (ap (λ (n : ℕ). slice_get code n) same ∙ y) in cc

-- ---- rows

empty_on : (rows : List (List ℕ)) → ((q : ℕ) → get_or rows q [] ≡ []) → (q : ℕ) → get_or (rows ++ [] ∷ []) q [] ≡ []
empty_on [] e zero = refl
empty_on [] e (suc q) = refl
empty_on (r ∷ rows) e zero = e 0
empty_on (r ∷ rows) e (suc q) = empty_on rows (λ n. e (suc n)) q

pub no_more_rows : (size : ℕ) (rows : List (List ℕ)) → AreEmpty size rows → AreEmpty (size + 1) (rows ++ [] ∷ [])
no_more_rows size rows e = record { long = let l = length-append rows ([] ∷ []) in let s = e.long in omega (arith, l, s); none = empty_on rows e.none }

pub no_further : (p : ℕ) (rows : List (List ℕ)) → Further p [] rows rows
no_further p rows = record { same = refl; keeps = λ q x h. h; only = λ q x h. inl h; there = λ q h lt. absurd h }

row_keeps : (rows : List (List ℕ)) (to p q x : ℕ) → Among (get_or rows q []) x → Among (get_or (set rows to (get_or rows to [] ++ p ∷ [])) q []) x
row_keeps [] to p q x h = h
row_keeps (r ∷ rows) zero p zero x h = among_left r (p ∷ []) x h
row_keeps (r ∷ rows) zero p (suc q) x h = h
row_keeps (r ∷ rows) (suc to) p zero x h = h
row_keeps (r ∷ rows) (suc to) p (suc q) x h = row_keeps rows to p q x h

row_only : (rows : List (List ℕ)) (to p q x : ℕ) → Among (get_or (set rows to (get_or rows to [] ++ p ∷ [])) q []) x → Among (get_or rows q []) x ⊎ ((x ≡ p) × (q ≡ to))
row_only [] to p q x h = inl h
row_only (r ∷ rows) zero p zero x h = elim (among_last r p x h) [ inl a ↦ inl a | inr e ↦ inr (e, refl) ]
row_only (r ∷ rows) zero p (suc q) x h = inl h
row_only (r ∷ rows) (suc to) p zero x h = inl h
row_only (r ∷ rows) (suc to) p (suc q) x h = elim (row_only rows to p q x h) [ inl a ↦ inl a | inr b ↦ inr (b.0, ap suc b.1) ]

row_there : (rows : List (List ℕ)) (to p : ℕ) → to < length rows → Among (get_or (set rows to (get_or rows to [] ++ p ∷ [])) to []) p
row_there [] to p lt = absurd (omega arith)
row_there (r ∷ rows) zero p lt = last_among r p
row_there (r ∷ rows) (suc to) p lt = row_there rows to p (omega arith)

-- one more target
pub one_further : (p to : ℕ) (tos : List ℕ) (rows news : List (List ℕ)) → Further p tos rows news → Further p (tos ++ to ∷ []) rows (set news to (get_or news to [] ++ p ∷ []))
one_further p to tos rows news f = record {
  same = length-set news to (get_or news to [] ++ p ∷ []) ∙ f.same;
  keeps = λ q x h. row_keeps news to p q x (f.keeps q x h);
  only = λ q x h. elim (row_only news to p q x h) [
    | inl a ↦ elim (f.only q x a) [ inl b ↦ inl b | inr b ↦ inr (b.0, among_left tos (to ∷ []) q b.1) ]
    | inr b ↦ inr (b.0, subst (λ (n : ℕ). Among (tos ++ to ∷ []) n) (sym b.1) (last_among tos to))
  ];
  there = λ q h lt. elim (among_last tos to q h) [
    | inl a ↦ row_keeps news to p q p (f.there q a lt)
    | inr e ↦ subst (λ (n : ℕ). Among (get_or (set news to (get_or news to [] ++ p ∷ [])) n []) p) (sym e) (row_there news to p (let s = f.same in omega (arith, s)))
  ];
}

-- ---- all edges

pub none_before : (tos : Tos) (m : Method) (size : ℕ) (rows : List (List ℕ)) → AreEmpty size rows → BeforeSoFar tos m size 0 rows
none_before tos m size rows none = record {
  long = none.long;
  sound = λ p q h. absurd (subst (λ (xs : List ℕ). Among xs p) (none.none q) h);
  each = λ at e q lt. absurd (omega arith);
}

module _ (leads : Tos) (m : Method) (rising : Rising m.code) where
  goes : (at : ℕ) (e : ℕ × Instr) (q : ℕ) → slice_get m.code at ≡ Some e → Among (leads e (first_place (drop (at + 1) m.code) m.code_length)) q → Goes leads m e.0 q
  goes at e q is h = record { to = first_place (drop (at + 1) m.code) m.code_length; instr = e.1; there = entry_fetched m.code m.code_length at e rising is; along = h }

  pub one_before : (size count : ℕ) (e : ℕ × Instr) (tos : List ℕ) (rows news : List (List ℕ)) → slice_get m.code count ≡ Some e
      → tos ≡ leads e (first_place (drop (count + 1) m.code) m.code_length) → BeforeSoFar leads m size count rows → Further e.0 tos rows news → BeforeSoFar leads m size (count + 1) news
  one_before size count e tos rows news is tos_are b f = record {
    long = f.same ∙ b.long;
    sound = λ p q h. elim (f.only q p h) [
      | inl a ↦ b.sound p q a
      | inr a ↦ subst (λ (n : ℕ). Goes leads m n q) (sym a.0) (goes count e q is (subst (λ (xs : List ℕ). Among xs q) tos_are a.1))
    ];
    each = λ at d q lt there within h. elim (same_or at count) [
      | inr n ↦ f.keeps q d.0 (b.each at d q (omega arith) there within h)
      | inl same ↦
          let is_d : d ≡ e = same_entry m.code at count d e there is same in
          subst (λ (x : ℕ × Instr). Among (get_or news q []) x.0) (sym is_d)
          (f.there q (subst (λ (xs : List ℕ). Among xs q) (sym tos_are) (let h2 = subst (λ (x : ℕ × Instr). Among (leads x (first_place (drop (at + 1) m.code) m.code_length)) q) is_d h in subst (λ (n : ℕ). Among (leads e (first_place (drop (n + 1) m.code) m.code_length)) q) same h2))
          (let l = b.long in omega (arith, l, within)))
    ];
  }

  pub all_before : (size count : ℕ) (rows : List (List ℕ)) → length m.code ≤ count → BeforeSoFar leads m size count rows → AreBefore leads m size rows
  all_before size count rows all b = record {
    long = b.long;
    sound = b.sound;
    each = λ p q within g.
        let e = entry_of m.code m.code_length p g.instr g.to g.there in
        b.each e.at (p, g.instr) q (let w = slice_get_within m.code e.at _ e.there in omega (arith, w)) e.there within (subst (λ (n : ℕ). Among (leads (p, g.instr) n) q) e.behind g.along);
  }
