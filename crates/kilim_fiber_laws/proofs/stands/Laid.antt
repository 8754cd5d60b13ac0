-- From the lists of a woven method to facts by place.
use Rattle.std.proofs.Common.{◌≡◌, ◌≢◌, ◌⊎◌, inl, inr, ℕ, ◌+◌, ◌<◌, ◌≤◌, Bool, true, false, eqb, cond, pos, List, [], ◌∷◌, Option, Some, None, refl, sym, ap, subst, ◌∙◌, arith}
use Rattle.std.specs.Prelude.{nat_le, if◌then◌else◌, ◌==◌, is_some}
use Rattle.std.proofs.lemmas.Bool.Decides.{eqb_tells}
use Rattle.std.proofs.lemmas.Bool.{ne_eqb, eq-eqb}
use Rattle.kilim_program.specs.declared.class.Method.{Method}
use Rattle.kilim_program.specs.declared.instr.Instr.{Instr}
use Rattle.kilim_program.specs.declared.instr.Instr.TheVariants as instr
use Rattle.kilim_program.specs.declared.ty.Ty.{Ty}
use Rattle.kilim_program.specs.declared.verified.VType.{VType}
use Rattle.kilim_program.specs.declared.verified.VType.TheVariants.{Int, Long, Null, Object}
use Rattle.kilim_program.specs.Lengths.{ends_path}
use Rattle.kilim_program.specs.Lengths.{first_place, fetched}
use Rattle.kilim_weave_spec.specs.Woven.{store_of, local_size, self_slot, Plan, Item, Mark, Does, added, lay, behind, marks, label_stands, Labelled, save, save_stack, save_local, save_locals, restore, restore_stack, restore_local, restore_locals, number_item, self_item, load_fiber, calls_static, dummy_return, drop_result, leave, group, piece, pieces, block, blocks, count, pausable_callee, dummies, receiver_of, restore_receiver, resume_code, below, saved, receiver}
use Rattle.kilim_fiber_spec.specs.Fibers.{marked}
use Rattle.kilim_fiber_spec.specs.Form.{HasAt}

-- each instruction has a length
abbrev pub Wide : ℕ → List Item → Type 0
Wide q [] = Unit {0}
Wide q (Mark label frame ∷ rest) = Wide q rest
Wide q (Does i size counted ∷ rest) = (0 < size q) × Wide (q + size q) rest

-- these items stand there, and the marks among them are where the plan's places are
abbrev pub Laid : (ℕ → Option (Instr × ℕ × Bool)) → Plan → ℕ → List Item → Type 0
Laid code x q [] = Unit {0}
Laid code x q (Mark label frame ∷ rest) = label_stands x q label × Laid code x q rest
Laid code x q (Does i size counted ∷ rest) = (nx : ℕ) × (code q ≡ Some (i, nx, counted)) × Laid code x nx rest

first_lay : (q : ℕ) (items : List Item) → first_place (lay q items) (behind q items) ≡ q
first_lay q [] = refl
first_lay q (Mark label frame ∷ rest) = first_lay q rest
first_lay q (Does i size counted ∷ rest) = refl

-- from q on the code is that of these items
abbrev Reads : (ℕ → Option (Instr × ℕ × Bool)) → ℕ → List Item → Type 0
Reads code q items = (p : ℕ) → q ≤ p → code p ≡ marked (lay q items) (marks items) (behind q items) p

pub stand : (code : ℕ → Option (Instr × ℕ × Bool)) (x : Plan) (q : ℕ) (items : List Item) → Wide q items → Labelled x q items → Reads code q items → Laid code x q items
stand code x q [] wide labels reads = tt
stand code x q (Mark label frame ∷ rest) wide labels reads = (labels.0, stand code x q rest wide labels.1 reads)
stand code x q (Does i size counted ∷ rest) wide labels reads = (
  q + size q,
  reads q (omega arith) ∙ ap (λ (b : Bool). if b then Some (i, first_place (lay (q + size q) rest) (behind (q + size q) rest), counted) else marked (lay (q + size q) rest) (marks rest) (behind (q + size q) rest) q) (eq-eqb q q refl)
      ∙ ap (λ (nx : ℕ). Some (i, nx, counted)) (first_lay (q + size q) rest),
  stand code x (q + size q) rest wide.1 labels
      (λ p h. let g = wide.0 in reads p (omega (arith, h))
      ∙ ap (λ (b : Bool). if b then Some (i, first_place (lay (q + size q) rest) (behind (q + size q) rest), counted) else marked (lay (q + size q) rest) (marks rest) (behind (q + size q) rest) p) (ne_eqb q p (λ e. omega (arith, g, h, e)))),
)

abbrev value_of : Instr × ℕ → Option (Instr × ℕ) → Instr × ℕ
value_of z None = z
value_of z (Some y) = y

abbrev some_or : Method → Option Method → Method
some_or m None = m
some_or m (Some n) = n

-- the number of the pausable call at a place
abbrev pub number_at : Plan → (number : ℕ) → List (ℕ × Instr) → ℕ → ℕ
number_at x number [] p = number
number_at x number (e ∷ es) p = if e.0 == p then number else number_at x (count (pausable_callee x.program e.1) number) es p

-- the code ends with an instruction past which control doesn't go
abbrev pub EndsPath : List (ℕ × Instr) → Type 0
EndsPath [] = Unit {0}
EndsPath (e ∷ []) = ends_path e.1 ≡ true
EndsPath (e ∷ f ∷ es) = EndsPath (f ∷ es)

module _ (code : ℕ → Option (Instr × ℕ × Bool)) (x : Plan) where
  abbrev Past : List Item → Type 0
  Past rest = (q : ℕ) × Laid code x q rest

  -- what stands behind a stretch
  past_save : (t : VType) (rest : List Item) (q : ℕ) → Laid code x q (save x t rest) → Past rest
  past_save Int rest q h = (h.2.0, h.2.2)
  past_save Long rest q h = (h.2.0, h.2.2)
  past_save (Object ty) rest q h = (h.2.0, h.2.2)
  past_save t rest q h = (h.0, h.2)

  past_save_stack : (ts : List VType) (rest : List Item) (q : ℕ) → Laid code x q (save_stack x ts rest) → Past rest
  past_save_stack [] rest q h = (q, h)
  past_save_stack (t ∷ ts) rest q h = let r = past_save t (save_stack x ts rest) q h in past_save_stack ts rest r.0 r.1

  past_save_local : (slot : ℕ) (t : VType) (rest : List Item) (q : ℕ) → Laid code x q (save_local x slot t rest) → Past rest
  past_save_local slot Null rest q h = (q, h)
  past_save_local slot t rest q h = past_save t rest h.0 h.2

  past_save_locals : (es : List (ℕ × VType)) (rest : List Item) (q : ℕ) → Laid code x q (save_locals x es rest) → Past rest
  past_save_locals [] rest q h = (q, h)
  past_save_locals (e ∷ es) rest q h = let r = past_save_local e.0 e.1 (save_locals x es rest) q h in past_save_locals es rest r.0 r.1

  past_restore : (t : VType) (rest : List Item) (q : ℕ) → Laid code x q (restore x t rest) → Past rest
  past_restore Int rest q h = (h.2.0, h.2.2)
  past_restore Long rest q h = (h.2.0, h.2.2)
  past_restore (Object ty) rest q h = (h.2.2.0, h.2.2.2)
  past_restore t rest q h = (h.0, h.2)

  past_restore_stack : (ts : List VType) (rest : List Item) (q : ℕ) → Laid code x q (restore_stack x ts rest) → Past rest
  past_restore_stack [] rest q h = (q, h)
  past_restore_stack (t ∷ ts) rest q h = let r = past_restore_stack ts (restore x t rest) q h in past_restore t rest r.0 r.1

  past_restore_locals : (es : List (ℕ × VType)) (rest : List Item) (q : ℕ) → Laid code x q (restore_locals x es rest) → Past rest
  past_restore_locals [] rest q h = (q, h)
  past_restore_locals (e ∷ es) rest q h =
      let r = past_restore_locals es (restore_local x e.0 e.1 rest) q h in
      let s = past_restore e.1 (added (store_of e.0 e.1) (local_size e.0) ∷ rest) r.0 r.1 in (s.1.0, s.1.2)

  past_item : (item : Item) (i : Instr) (n : ℕ) (rest : List Item) (q : ℕ) → item ≡ added i n → Laid code x q (item ∷ rest) → Past rest
  past_item item i n rest q e h = let g = subst (λ (z : Item). Laid code x q (z ∷ rest)) e h in (g.0, g.2)

  past_number : (n : ℕ) (rest : List Item) (q : ℕ) → Laid code x q (number_item n ∷ rest) → Past rest
  past_number n rest q h = by (nat_le n 5) (nat_le n 127) h
    where
      by : (a d : Bool) → Laid code x q ((cond a (added (instr.Iconst (pos n)) 1) (cond d (added (instr.Bipush (pos n)) 2) (added (instr.Sipush (pos n)) 3))) ∷ rest) → Past rest
      by true d h = (h.0, h.2)
      by false true h = (h.0, h.2)
      by false false h = (h.0, h.2)

  past_self : (rest : List Item) (q : ℕ) → Laid code x q (self_item x ∷ rest) → Past rest
  past_self rest q h = by x.method.is_static h
    where
      by : (a : Bool) → Laid code x q ((if a then added instr.AconstNull 1 else added (instr.Aload (self_slot x.method)) (local_size (self_slot x.method))) ∷ rest) → Past rest
      by true h = (h.0, h.2)
      by false h = (h.0, h.2)

  past_return : (result : Option Ty) (rest : List Item) (q : ℕ) → Laid code x q (dummy_return result rest) → Past rest
  past_return None rest q h = (h.0, h.2)
  past_return (Some ty) rest q h = (h.2.0, h.2.2)

  past_drop : (result : Option Ty) (rest : List Item) (q : ℕ) → Laid code x q (drop_result result rest) → Past rest
  past_drop None rest q h = (q, h)
  past_drop (Some ty) rest q h = (h.0, h.2)

  past_leave : (number : ℕ) (callee : Method) (place next : ℕ) (rest : List Item) (q : ℕ) → Laid code x q (leave x number callee place next rest) → Past rest
  past_leave number callee place next rest q h =
      let end = load_fiber x ∷ calls_static x 6 ∷ dummy_return x.method.result rest in
      let a = past_save_stack (below x callee place) (save_locals x (saved x place next) (number_item number ∷ self_item x ∷ end)) q h in
      let b = past_save_locals (saved x place next) (number_item number ∷ self_item x ∷ end) a.0 a.1 in
      let c = past_number number (self_item x ∷ end) b.0 b.1 in
      let d = past_self end c.0 c.1 in
      past_return x.method.result rest d.1.2.0 d.1.2.2

  past_group : (number : ℕ) (callee : Method) (place next : ℕ) (i : Instr) (rest : List Item) (q : ℕ) → Laid code x q (group x number callee place next i rest) → Past rest
  past_group number callee place next i rest q h =
      let a = past_drop callee.result (leave x number callee place next rest) h.1.2.2.2.2.2.0 h.1.2.2.2.2.2.2 in
      past_leave number callee place next rest a.0 a.1

  past_piece : (o : Option Method) (first : Bool) (number place next : ℕ) (i : Instr) (rest : List Item) (q : ℕ) → Laid code x q (piece o x first number place next i rest) → Past rest
  past_piece None first number place next i rest q h = (h.1.0, h.1.2)
  past_piece (Some callee) first number place next i rest q h = past_group number callee place next i rest q h

  past_dummies : (tys : List Ty) (rest : List Item) (q : ℕ) → Laid code x q (dummies tys rest) → Past rest
  past_dummies [] rest q h = (q, h)
  past_dummies (ty ∷ tys) rest q h = past_dummies tys rest h.0 h.2

  past_receiver : (t : VType) (rest : List Item) (q : ℕ) → Laid code x q (receiver_of x t rest) → Past rest
  past_receiver (Object ty) rest q h = (h.2.2.0, h.2.2.2)
  past_receiver t rest q h = (h.0, h.2)

  past_receiver_if : (b : Bool) (t : VType) (rest : List Item) (q : ℕ) → Laid code x q (restore_receiver b x t rest) → Past rest
  past_receiver_if true t rest q h = (q, h)
  past_receiver_if false t rest q h = past_receiver t rest q h

  past_resume : (callee : Method) (place next : ℕ) (rest : List Item) (q : ℕ) → Laid code x q (resume_code x callee place next rest) → Past rest
  past_resume callee place next rest q h =
      let jump = added (instr.Goto (x.at place)) 3 ∷ rest in
      let i3 = dummies callee.params jump in
      let i2 = restore_receiver callee.is_static x (receiver x callee place) i3 in
      let a = past_restore_locals (saved x place next) (restore_stack x (below x callee place) i2) q h in
      let b = past_restore_stack (below x callee place) i2 a.0 a.1 in
      let c = past_receiver_if callee.is_static (receiver x callee place) i3 b.0 b.1 in
      let d = past_dummies callee.params jump c.0 c.1 in
      (d.1.0, d.1.2)

  past_block : (o : Option Method) (number place next : ℕ) (rest : List Item) (q : ℕ) → Laid code x q (block o x number place next rest) → Past rest
  past_block None number place next rest q h = (q, h)
  past_block (Some callee) number place next rest q h = past_resume callee place next rest q h.1

  pub forget : (items : List Item) (q : ℕ) → Laid code x q items → HasAt code q items
  forget [] q h = tt
  forget (Mark label frame ∷ rest) q h = forget rest q h.1
  forget (Does i size counted ∷ rest) q h = (h.0, h.1, forget rest h.0 h.2)

  -- the piece of an old instruction, and what stands behind it
  pub record Piece (p to number : ℕ) (i : Instr) : Type 0 where
    pub first : Bool
    pub rest : List Item
    pub laid : Laid code x (x.at p) (piece (pausable_callee x.program i) x first number p to i rest)
    -- the next piece, where control goes on
    pub goes : ends_path i ≡ false → (q : ℕ) → Laid code x q rest → x.at to ≡ q

  begins_at : (o : Option Method) (first : Bool) (number place next : ℕ) (i : Instr) (rest : List Item) (q : ℕ) → Laid code x q (piece o x first number place next i rest) → x.at place ≡ q
  begins_at None first number place next i rest q h = h.0
  begins_at (Some callee) first number place next i rest q h = h.0

  pieces_begin : (e : ℕ × Instr) (es : List (ℕ × Instr)) (first : Bool) (number : ℕ) (rest : List Item) (q : ℕ) → Laid code x q (pieces x first number (e ∷ es) rest) → x.at e.0 ≡ q
  pieces_begin e es first number rest q h = begins_at (pausable_callee x.program e.1) first number e.0 (first_place es x.method.code_length) e.1 _ q h

  pub find : (es : List (ℕ × Instr)) (first : Bool) (number : ℕ) (rest : List Item) (q p to : ℕ) (i : Instr) → EndsPath es → fetched es x.method.code_length p ≡ Some (i, to) → Laid code x q (pieces x first number es rest) → Piece p to (number_at x number es p) i
  find [] first number rest q p to i ends e h = absurd (cc)
  find (d ∷ es) first number rest q p to i ends e h =
      by (eqb_tells d.0 p) e
      (λ e2. let r = past_piece (pausable_callee x.program d.1) first number d.0 (first_place es x.method.code_length) d.1 (pieces x (is_some (pausable_callee x.program d.1)) (count (pausable_callee x.program d.1) number) es rest) q h in
      find es (is_some (pausable_callee x.program d.1)) (count (pausable_callee x.program d.1) number) rest r.0 p to i (tail_ends es ends) e2 r.1)
    where
      tail_ends : (es : List (ℕ × Instr)) → EndsPath (d ∷ es) → EndsPath es
      tail_ends [] h = tt
      tail_ends (f ∷ es) h = h

      next_place : (es : List (ℕ × Instr)) → EndsPath (d ∷ es) → ends_path d.1 ≡ false → (q : ℕ) → Laid code x q (pieces x (is_some (pausable_callee x.program d.1)) (count (pausable_callee x.program d.1) number) es rest) → x.at (first_place es x.method.code_length) ≡ q
      next_place [] ends g q h = absurd (cc)
      next_place (f ∷ es) ends g q h = pieces_begin f es _ _ rest q h

      by : ((eqb d.0 p ≡ true) × (d.0 ≡ p)) ⊎ ((eqb d.0 p ≡ false) × (d.0 ≢ p)) → (if d.0 == p then Some (d.1, first_place es x.method.code_length) else fetched es x.method.code_length p) ≡ Some (i, to)
          → (fetched es x.method.code_length p ≡ Some (i, to) → Piece p to (number_at x (count (pausable_callee x.program d.1) number) es p) i) → Piece p to (if d.0 == p then number else number_at x (count (pausable_callee x.program d.1) number) es p) i
      by (inl t) e go =
          let e2 = ap (λ (b : Bool). if b then Some (d.1, first_place es x.method.code_length) else fetched es x.method.code_length p) (sym t.0) ∙ e in
          let pair = ap (value_of (d.1, first_place es x.method.code_length)) e2 in
          subst (λ (b : Bool). Piece p to (if b then number else number_at x (count (pausable_callee x.program d.1) number) es p) i) (sym t.0)
          (subst (λ (z : Instr × ℕ). Piece p z.1 number z.0) pair
          (subst (λ (r : ℕ). Piece r (first_place es x.method.code_length) number d.1) t.1
          (record {
            first = first;
            rest = pieces x (is_some (pausable_callee x.program d.1)) (count (pausable_callee x.program d.1) number) es rest;
            laid = subst (λ (r : ℕ). Laid code x r (piece (pausable_callee x.program d.1) x first number d.0 (first_place es x.method.code_length) d.1 (pieces x (is_some (pausable_callee x.program d.1)) (count (pausable_callee x.program d.1) number) es rest))) (sym (pieces_begin d es first number rest q h)) h;
            goes = next_place es ends;
          })))
      by (inr t) e go = subst (λ (b : Bool). Piece p to (if b then number else number_at x (count (pausable_callee x.program d.1) number) es p) i) (sym t.0)
          (go (ap (λ (b : Bool). if b then Some (d.1, first_place es x.method.code_length) else fetched es x.method.code_length p) (sym t.0) ∙ e))

  pub past_pieces : (es : List (ℕ × Instr)) (first : Bool) (number : ℕ) (rest : List Item) (q : ℕ) → Laid code x q (pieces x first number es rest) → Past rest
  past_pieces [] first number rest q h = (q, h)
  past_pieces (e ∷ es) first number rest q h =
      let r = past_piece (pausable_callee x.program e.1) first number e.0 (first_place es x.method.code_length) e.1 (pieces x (is_some (pausable_callee x.program e.1)) (count (pausable_callee x.program e.1) number) es rest) q h in
      past_pieces es (is_some (pausable_callee x.program e.1)) (count (pausable_callee x.program e.1) number) rest r.0 r.1

  -- the block of a pausable call
  pub find_block : (es : List (ℕ × Instr)) (number q p to : ℕ) (i : Instr) (callee : Method) → fetched es x.method.code_length p ≡ Some (i, to) → pausable_callee x.program i ≡ Some callee → Laid code x q (blocks x number es)
      → (rest : List Item) × Laid code x (x.block (number_at x number es p)) (resume_code x callee p to rest)
  find_block [] number q p to i callee e hp h = absurd (cc)
  find_block (d ∷ es) number q p to i callee e hp h =
      by (eqb_tells d.0 p) e
      (λ e2. let r = past_block (pausable_callee x.program d.1) number d.0 (first_place es x.method.code_length) (blocks x (count (pausable_callee x.program d.1) number) es) q h in
      find_block es (count (pausable_callee x.program d.1) number) r.0 p to i callee e2 hp r.1)
    where
      here : (o : Option Method) (callee : Method) (next : ℕ) (rest : List Item) → o ≡ Some callee → Laid code x q (block o x number d.0 next rest) → Laid code x (x.block number) (resume_code x callee d.0 next rest)
      here None callee next rest e h = absurd (cc)
      here (Some c) callee next rest e h =
          let c2 = ap (some_or c) e in
          subst (λ (z : Method). Laid code x (x.block number) (resume_code x z d.0 next rest)) c2 (subst (λ (r : ℕ). Laid code x r (resume_code x c d.0 next rest)) (sym h.0) h.1)

      by : ((eqb d.0 p ≡ true) × (d.0 ≡ p)) ⊎ ((eqb d.0 p ≡ false) × (d.0 ≢ p)) → (if d.0 == p then Some (d.1, first_place es x.method.code_length) else fetched es x.method.code_length p) ≡ Some (i, to)
          → (fetched es x.method.code_length p ≡ Some (i, to) → (rest : List Item) × Laid code x (x.block (number_at x (count (pausable_callee x.program d.1) number) es p)) (resume_code x callee p to rest))
          → (rest : List Item) × Laid code x (x.block (if d.0 == p then number else number_at x (count (pausable_callee x.program d.1) number) es p)) (resume_code x callee p to rest)
      by (inl t) e go =
          let e2 = ap (λ (b : Bool). if b then Some (d.1, first_place es x.method.code_length) else fetched es x.method.code_length p) (sym t.0) ∙ e in
          let pair = ap (value_of (d.1, first_place es x.method.code_length)) e2 in
          let o = ap (λ (z : Instr × ℕ). pausable_callee x.program z.0) pair ∙ hp in
          subst (λ (b : Bool). (rest : List Item) × Laid code x (x.block (if b then number else number_at x (count (pausable_callee x.program d.1) number) es p)) (resume_code x callee p to rest)) (sym t.0) (
            blocks x (count (pausable_callee x.program d.1) number) es,
            subst (λ (r : ℕ). Laid code x (x.block number) (resume_code x callee p r (blocks x (count (pausable_callee x.program d.1) number) es))) (ap (λ (z : Instr × ℕ). z.1) pair)
                (subst (λ (r : ℕ). Laid code x (x.block number) (resume_code x callee r (first_place es x.method.code_length) (blocks x (count (pausable_callee x.program d.1) number) es))) t.1
                (here (pausable_callee x.program d.1) callee (first_place es x.method.code_length) (blocks x (count (pausable_callee x.program d.1) number) es) o h)),
          )
      by (inr t) e go = subst (λ (b : Bool). (rest : List Item) × Laid code x (x.block (if b then number else number_at x (count (pausable_callee x.program d.1) number) es p)) (resume_code x callee p to rest)) (sym t.0)
          (go (ap (λ (b : Bool). if b then Some (d.1, first_place es x.method.code_length) else fetched es x.method.code_length p) (sym t.0) ∙ e))
