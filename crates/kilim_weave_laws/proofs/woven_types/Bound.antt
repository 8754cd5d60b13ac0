-- Woven code is at most as long as its weight.
use Rattle.std.proofs.Common.{◌≡◌, ℕ, suc, ◌+◌, ◌*◌, ◌≤◌, Bool, true, false, eqb, cond, List, [], ◌∷◌, map, length, Option, Some, None, refl, ap, ◌∙◌, arith}
use Rattle.std.specs.Prelude.{◌&&◌, ◌||◌, not, nat_lt, ◌-◌, is_some}
use Rattle.std.specs.List.{list_all}
use Rattle.std.proofs.lemmas.Bool.{and_parts, eqb-true}
use Rattle.kilim_program.specs.declared.class.Method.{Method}
use Rattle.kilim_program.specs.declared.instr.Instr.{Instr}
use Rattle.kilim_program.specs.declared.instr.Instr.TheVariants.{Iload, Lload, Aload, Istore, Lstore, Astore, Tableswitch, Lookupswitch, Invokevirtual, Invokespecial, Invokestatic}
use Rattle.kilim_program.specs.declared.verified.VType.{VType}
use Rattle.kilim_program.specs.Lengths.{has_length, switch_padding, is_local_length, is_table, is_far, matches_increase}
use Rattle.kilim_program.specs.Lengths.{first_place}
use Rattle.kilim_program.specs.Same.{argument_slots}
use Rattle.kilim_type_spec.specs.Step.{is_top}
use Rattle.kilim_weave_spec.specs.Woven.{Plan, Item, added, fiber_slot, self_slot, local_size, old_size, below, saved_from, resume_code, piece, pieces, block, blocks, count, pausable_callee, resume_places, woven_items, behind, prologue}
use Rattle.kilim_weave_spec.specs.Weight.{switch_bytes, switches_bytes, one_more, calls_in, weight}
use Rattle.kilim_weave_laws.proofs.woven_types.Spans.{Word, onto, bytes_of, Span, group_code, group_span, resume_span, local_bytes}
use Rattle.kilim_weave_laws.proofs.woven_types.Nothing.{none_is}

padding_few : (q : ℕ) → switch_padding q ≤ 3
padding_few q = omega arith

pub local_few : (slot n : ℕ) → is_local_length slot n ≡ true → local_size slot ≤ n
local_few slot n h = by (nat_lt slot 4) (nat_lt slot 256) (eqb n 1) (eqb n 2) (eqb n 4) refl refl refl h
  where
    by : (a b c d e : Bool) → eqb n 1 ≡ c → eqb n 2 ≡ d → eqb n 4 ≡ e → ((a && c) || ((b && d) || e)) ≡ true → cond a 1 (cond b 2 4) ≤ n
    by true b true d e ec ed ee h = let x = eqb-true n 1 ec in omega (arith, x)
    by true true false true e ec ed ee h = let x = eqb-true n 2 ed in omega (arith, x)
    by true true false false true ec ed ee h = let x = eqb-true n 4 ee in omega (arith, x)
    by true false false d true ec ed ee h = let x = eqb-true n 4 ee in omega (arith, x)
    by false true c true e ec ed ee h = let x = eqb-true n 2 ed in omega (arith, x)
    by false true c false true ec ed ee h = let x = eqb-true n 4 ee in omega (arith, x)
    by false false c d true ec ed ee h = let x = eqb-true n 4 ee in omega (arith, x)
    by a b c d e ec ed ee h = absurd (cc)

-- an old instruction is no longer than it was, but for a switch's padding
old_few : (i : Instr) (place n q : ℕ) → has_length place i n ≡ true → old_size i n q ≤ n + switch_bytes i
unfolding has_length
old_few (Iload slot) place n q h = let x = local_few slot n h in omega (arith, x)
old_few (Lload slot) place n q h = let x = local_few slot n h in omega (arith, x)
old_few (Aload slot) place n q h = let x = local_few slot n h in omega (arith, x)
old_few (Istore slot) place n q h = let x = local_few slot n h in omega (arith, x)
old_few (Lstore slot) place n q h = let x = local_few slot n h in omega (arith, x)
old_few (Astore slot) place n q h = let x = local_few slot n h in omega (arith, x)
old_few (Tableswitch default low targets) place n q h =
    let a = (and_parts (is_table low targets) _ h).1 in
    let b = eqb-true n (13 + switch_padding place + 4 * length targets) (and_parts (list_all (is_far place) (default ∷ targets)) _ a).1 in
    let x = padding_few q in
    omega (arith, b, x)
old_few (Lookupswitch default pairs) place n q h =
    let a = (and_parts (matches_increase pairs) _ h).1 in
    let b = eqb-true n (9 + switch_padding place + 8 * length pairs) (and_parts (list_all (is_far place) (default ∷ map (λ pair. pair.1) pairs)) _ a).1 in
    let x = padding_few q in
    omega (arith, b, x)
old_few i place n q h = omega arith

onto_behind : (ws : List Word) (q : ℕ) (rest : List Item) → behind q (onto ws rest) ≡ behind (q + bytes_of ws) rest
onto_behind [] q rest = ap (λ z. behind z rest) (let e : q ≡ q + 0 = omega arith in e)
onto_behind (w ∷ ws) q rest = onto_behind ws (q + w.bytes) rest ∙ ap (λ z. behind z rest) (let e : q + w.bytes + bytes_of ws ≡ q + (w.bytes + bytes_of ws) = omega arith in e)

-- the items lead to the rest in at most so many bytes
pub record Leads (q most : ℕ) (items rest : List Item) : Type 0 where
  pub to : ℕ
  pub is : behind q items ≡ behind to rest
  pub few : to ≤ q + most

span_leads : (f : List Item → List Item) (most q : ℕ) (rest : List Item) → Span f most → Leads q most (f rest) rest
span_leads f most q rest s = record { to = q + bytes_of s.words; is = ap (behind q) (s.is rest) ∙ onto_behind s.words q rest; few = let x = s.few in omega (arith, x) }

saved_by : (b : Bool) (k : ℕ) (t : VType) (es : List (ℕ × VType)) → length (cond b ((k, t) ∷ es) es) ≤ suc (length es)
saved_by true k t es = omega arith
saved_by false k t es = omega arith

saved_few : (live : ℕ → Bool) (k : ℕ) (ts : List VType) → length (saved_from live k ts) ≤ length ts
saved_few live k [] = omega arith
saved_few live k (t ∷ ts) = let a = saved_by (live k && not (is_top t)) k t (saved_from live (suc k) ts) in let b = saved_few live (suc k) ts in omega (arith, a, b)

module _ (x : Plan) where
  -- lengths of an old instruction, and of what a call saves
  pub record Sizes (e : ℕ × Instr) (to : ℕ) : Type 0 where
    pub ordered : e.0 ≤ to
    pub length_is : has_length e.0 e.1 (to - e.0) ≡ true
    pub stack : (callee : Method) → pausable_callee x.program e.1 ≡ Some callee → length callee.params + length (below x callee e.0) ≤ x.method.max_stack
    pub locals : length (x.typing e.0).locals ≤ x.method.max_locals

  abbrev pub AllSizes : List (ℕ × Instr) → Type 0
  AllSizes [] = Unit {0}
  AllSizes (e ∷ es) = Sizes e (first_place es x.method.code_length) × AllSizes es

  -- what a group takes more than its call, and what a block takes
  abbrev pub group_bytes : ℕ
  group_bytes = 34 + (7 * x.method.max_stack + 11 * x.method.max_locals)

  abbrev pub block_bytes : ℕ
  block_bytes = 13 + (10 * x.method.max_stack + 14 * x.method.max_locals)

  call_length : (i : Instr) (callee : Method) (place n : ℕ) → pausable_callee x.program i ≡ Some callee → has_length place i n ≡ true → n ≡ 3
  unfolding has_length
  call_length (Invokevirtual id) callee place n c h = eqb-true n 3 h
  call_length (Invokespecial id) callee place n c h = eqb-true n 3 h
  call_length (Invokestatic id) callee place n c h = eqb-true n 3 h
  call_length i callee place n c h = absurd (none_is callee c)

  abbrev pub group_if : Option Method → ℕ
  group_if None = 0
  group_if (Some callee) = group_bytes

  abbrev pub block_if : Option Method → ℕ
  block_if None = 0
  block_if (Some callee) = block_bytes

  piece_leads : (o : Option Method) (first : Bool) (number : ℕ) (e : ℕ × Instr) (to q : ℕ) (rest : List Item) → pausable_callee x.program e.1 ≡ o → Sizes e to →
      Leads q ((to - e.0) + (switch_bytes e.1 + group_if o)) (piece o x first number e.0 to e.1 rest) rest
  piece_leads None first number e to q rest n s =
      let h = old_few e.1 e.0 (to - e.0) q s.length_is in
      record { to = q + old_size e.1 (to - e.0) q; is = refl; few = omega (arith, h) }
  piece_leads (Some callee) first number e to q rest n s =
      let l = span_leads (group_code x number callee e.0 to e.1) _ q rest (group_span x number callee e.0 to e.1) in
      let few = l.few in
      let three = call_length e.1 callee e.0 (to - e.0) n s.length_is in
      let stack = s.stack callee n in
      let locals = s.locals in
      let kept = saved_few (x.live to) 0 (x.typing e.0).locals in
      record { to = l.to; is = l.is; few = omega (arith, few, three, stack, locals, kept) }

  -- what groups and blocks take in all
  abbrev pub groups_bytes : List (ℕ × Instr) → ℕ
  groups_bytes [] = 0
  groups_bytes (e ∷ es) = group_if (pausable_callee x.program e.1) + groups_bytes es

  abbrev pub blocks_bytes : List (ℕ × Instr) → ℕ
  blocks_bytes [] = 0
  blocks_bytes (e ∷ es) = block_if (pausable_callee x.program e.1) + blocks_bytes es

  pub pieces_lead : (es : List (ℕ × Instr)) (first : Bool) (number q : ℕ) (rest : List Item) → AllSizes es →
      Leads q ((x.method.code_length - first_place es x.method.code_length) + (switches_bytes es + groups_bytes es)) (pieces x first number es rest) rest × (first_place es x.method.code_length ≤ x.method.code_length)
  pieces_lead [] first number q rest s = (record { to = q; is = refl; few = omega arith }, omega arith)
  pieces_lead (e ∷ es) first number q rest s =
      let o = pausable_callee x.program e.1 in
      let to = first_place es x.method.code_length in
      let p = piece_leads o first number e to q (pieces x (is_some o) (count o number) es rest) refl s.0 in
      let r = pieces_lead es (is_some o) (count o number) p.to rest s.1 in
      let few = p.few in
      let more = r.0.few in
      let within = r.1 in
      let ordered = s.0.ordered in
      (record { to = r.0.to; is = p.is ∙ r.0.is; few = omega (arith, few, more, within, ordered) }, omega (arith, within, ordered))

  block_leads : (o : Option Method) (number : ℕ) (e : ℕ × Instr) (to q : ℕ) (rest : List Item) → pausable_callee x.program e.1 ≡ o → Sizes e to → Leads q (block_if o) (block o x number e.0 to rest) rest
  block_leads None number e to q rest n s = record { to = q; is = refl; few = omega arith }
  block_leads (Some callee) number e to q rest n s =
      let l = span_leads (resume_code x callee e.0 to) _ q rest (resume_span x callee e.0 to) in
      let few = l.few in
      let stack = s.stack callee n in
      let locals = s.locals in
      let kept = saved_few (x.live to) 0 (x.typing e.0).locals in
      record { to = l.to; is = l.is; few = omega (arith, few, stack, locals, kept) }

  pub blocks_lead : (es : List (ℕ × Instr)) (number q : ℕ) → AllSizes es → behind q (blocks x number es) ≤ q + blocks_bytes es
  blocks_lead [] number q s = omega arith
  blocks_lead (e ∷ es) number q s =
      let o = pausable_callee x.program e.1 in
      let p = block_leads o number e (first_place es x.method.code_length) q (blocks x (count o number) es) refl s.0 in
      let r = blocks_lead es (count o number) p.to s.1 in
      let few = p.few in
      let is = p.is in
      omega (arith, few, r, is)

  resume_count : (number : ℕ) (es : List (ℕ × Instr)) → length (resume_places x number es) ≡ calls_in x.program es
  resume_count number [] = refl
  resume_count number (e ∷ es) = by (pausable_callee x.program e.1) (resume_count (suc number) es) (resume_count number es)
    where
      by : (o : Option Method) → length (resume_places x (suc number) es) ≡ calls_in x.program es → length (resume_places x number es) ≡ calls_in x.program es → length (cond (is_some o) (x.block number ∷ resume_places x (suc number) es) (resume_places x number es)) ≡ one_more o (calls_in x.program es)
      by None a b = b
      by (Some callee) a b = omega (arith, a)

  -- four bytes of the switch, the group and the block
  all_calls : (es : List (ℕ × Instr)) → 4 * calls_in x.program es + (groups_bytes es + blocks_bytes es) ≤ calls_in x.program es * (56 + 28 * (x.method.max_locals + x.method.max_stack))
  all_calls [] = omega arith
  all_calls (e ∷ es) = by (pausable_callee x.program e.1) (all_calls es)
    where
      by : (o : Option Method) → 4 * calls_in x.program es + (groups_bytes es + blocks_bytes es) ≤ calls_in x.program es * (56 + 28 * (x.method.max_locals + x.method.max_stack)) →
          4 * one_more o (calls_in x.program es) + ((group_if o + groups_bytes es) + (block_if o + blocks_bytes es)) ≤ one_more o (calls_in x.program es) * (56 + 28 * (x.method.max_locals + x.method.max_stack))
      by None h = omega (arith, h)
      by (Some callee) h = omega (arith, h)

  self_bytes : (b : Bool) (q : ℕ) (i j : Instr) (rest : List Item) → Leads q 5 (cond b rest (added i 1 ∷ added j (local_size (self_slot x.method)) ∷ rest)) rest
  self_bytes true q i j rest = record { to = q; is = refl; few = omega arith }
  self_bytes false q i j rest = record { to = q + 1 + local_size (self_slot x.method); is = refl; few = let h = (local_bytes (self_slot x.method)).1 in omega (arith, h) }

  prologue_leads : (rest : List Item) → Leads 0 (36 + 4 * calls_in x.program x.method.code) (prologue x rest) rest
  prologue_leads rest =
      let a = (local_bytes (argument_slots x.method)).1 in
      let b = (local_bytes (fiber_slot x.method)).1 in
      let s = self_bytes x.method.is_static (0 + local_size (argument_slots x.method) + local_size (fiber_slot x.method)) _ _ _ in
      let few = s.few in
      let n = resume_count 1 x.method.code in
      let q = s.to + local_size (fiber_slot x.method) + 3 in
      let p = padding_few q in
      record { to = q + (13 + (switch_padding q + 4 * length (resume_places x 1 x.method.code))); is = s.is; few = omega (arith, a, b, few, n, p) }

  -- the woven code is at most its weight long
  pub bound : AllSizes x.method.code → first_place x.method.code x.method.code_length ≡ 0 → behind 0 (woven_items x) ≤ weight x.program x.method
  bound s z =
      let p = prologue_leads (pieces x true 1 x.method.code (blocks x 1 x.method.code)) in
      let o = pieces_lead x.method.code true 1 p.to (blocks x 1 x.method.code) s in
      let b = blocks_lead x.method.code 1 o.0.to s in
      let c = all_calls x.method.code in
      let pf = p.few in
      let pi = p.is in
      let of = o.0.few in
      let oi = o.0.is in
      omega (arith, pf, pi, of, oi, b, c, z)
