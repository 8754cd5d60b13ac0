-- Stretches of added code: lists of instructions of fixed lengths, and how long they are.
use Rattle.std.proofs.Common.{◌≡◌, ℕ, ◌+◌, ◌*◌, ◌≤◌, Bool, true, false, cond, pos, List, [], ◌∷◌, ◌++◌, length, Option, Some, None, refl, sym, ap, ◌∙◌, arith}
use Rattle.std.specs.Prelude.{nat_le, nat_lt}
use Rattle.kilim_program.specs.declared.class.Method.{Method}
use Rattle.kilim_program.specs.declared.instr.Instr.{Instr}
use Rattle.kilim_program.specs.declared.instr.Instr.TheVariants.{AconstNull, Iconst, Bipush, Sipush, Pop, Ifeq, Return, Aload}
use Rattle.kilim_program.specs.declared.ty.Ty.{Ty}
use Rattle.kilim_program.specs.declared.verified.VType.{VType}
use Rattle.kilim_program.specs.declared.verified.VType.TheVariants.{Top, Int, Long, Null, UninitThis, Uninit, Object}
use Rattle.kilim_weave_spec.specs.Woven.{Plan, fiber_slot, self_slot, Item, Does, added, local_size, load_fiber, calls_member, calls_static, save, save_stack, save_local, save_locals, restore, restore_stack, restore_local, restore_locals, dummy_return, drop_result, dummies, receiver_of, restore_receiver, below, saved, receiver, leave, resume_code}

-- an instruction of a fixed length
pub record Word : Type 0 where
  pub instr : Instr
  pub bytes : ℕ
  pub counted : Bool

abbrev pub item : Word → Item
item w = Does w.instr (λ place. w.bytes) w.counted

abbrev pub onto : List Word → List Item → List Item
onto [] rest = rest
onto (w ∷ ws) rest = item w ∷ onto ws rest

abbrev pub bytes_of : List Word → ℕ
bytes_of [] = 0
bytes_of (w ∷ ws) = w.bytes + bytes_of ws

abbrev pub Positive : List Word → Type 0
Positive [] = Unit {0}
Positive (w ∷ ws) = (1 ≤ w.bytes) × Positive ws

-- a stretch is such a list in front of what follows
pub record Span (f : List Item → List Item) (most : ℕ) : Type 0 where
  pub words : List Word
  pub is : (rest : List Item) → f rest ≡ onto words rest
  pub positive : Positive words
  pub few : bytes_of words ≤ most

onto_more : (a b : List Word) (rest : List Item) → onto (a ++ b) rest ≡ onto a (onto b rest)
onto_more [] b rest = refl
onto_more (w ∷ a) b rest = ap (λ z. item w ∷ z) (onto_more a b rest)

bytes_more : (a b : List Word) → bytes_of (a ++ b) ≡ bytes_of a + bytes_of b
bytes_more [] b = omega arith
bytes_more (w ∷ a) b = let h = bytes_more a b in omega (arith, h)

positive_more : (a b : List Word) → Positive a → Positive b → Positive (a ++ b)
positive_more [] b p q = q
positive_more (w ∷ a) b p q = (p.0, positive_more a b p.1 q)

pub nothing_spans : Span (λ rest. rest) 0
nothing_spans = record { words = []; is = λ rest. refl; positive = tt; few = omega arith }

pub one_spans : (i : Instr) (n most : ℕ) (counted : Bool) → 1 ≤ n → n ≤ most → Span (λ rest. Does i (λ place. n) counted ∷ rest) most
one_spans i n most counted p h = record { words = record { instr = i; bytes = n; counted = counted } ∷ []; is = λ rest. refl; positive = (p, tt); few = omega (arith, h) }

pub both_span : (f g : List Item → List Item) (a b most : ℕ) → Span f a → Span g b → a + b ≤ most → Span (λ rest. f (g rest)) most
both_span f g a b most s t h = record {
  words = s.words ++ t.words;
  is = λ rest. s.is (g rest) ∙ (ap (onto s.words) (t.is rest) ∙ sym (onto_more s.words t.words rest));
  positive = positive_more s.words t.words s.positive t.positive;
  few = let e = bytes_more s.words t.words in let x = s.few in let y = t.few in omega (arith, e, x, y, h);
}

pub more_room : (f : List Item → List Item) (a b : ℕ) → Span f a → a ≤ b → Span f b
more_room f a b s h = record { words = s.words; is = s.is; positive = s.positive; few = let x = s.few in omega (arith, x, h) }

local_by : (b c : Bool) → (1 ≤ cond b 1 (cond c 2 4)) × (cond b 1 (cond c 2 4) ≤ 4)
local_by true c = (omega arith, omega arith)
local_by false true = (omega arith, omega arith)
local_by false false = (omega arith, omega arith)

pub local_bytes : (slot : ℕ) → (1 ≤ local_size slot) × (local_size slot ≤ 4)
local_bytes slot = local_by (nat_lt slot 4) (nat_lt slot 256)

module _ (x : Plan) where
  pub fiber_span : Span (λ rest. load_fiber x ∷ rest) 4
  fiber_span = let h = local_bytes (fiber_slot x.method) in one_spans _ _ 4 false h.0 h.1

  member_span : (n : ℕ) → Span (λ rest. calls_member x n ∷ rest) 3
  member_span n = one_spans _ 3 3 false (omega arith) (omega arith)

  static_span : (n : ℕ) → Span (λ rest. calls_static x n ∷ rest) 3
  static_span n = one_spans _ 3 3 false (omega arith) (omega arith)

  local_span : (i : Instr) (slot : ℕ) → Span (λ rest. added i (local_size slot) ∷ rest) 4
  local_span i slot = let h = local_bytes slot in one_spans i _ 4 false h.0 h.1

  byte_span : (i : Instr) → Span (λ rest. added i 1 ∷ rest) 1
  byte_span i = one_spans i 1 1 false (omega arith) (omega arith)

  three_span : (i : Instr) → Span (λ rest. added i 3 ∷ rest) 3
  three_span i = one_spans i 3 3 false (omega arith) (omega arith)

  save_span : (t : VType) → Span (save x t) 7
  save_span Int = both_span _ _ 4 3 7 fiber_span (static_span 3) (omega arith)
  save_span Long = both_span _ _ 4 3 7 fiber_span (static_span 4) (omega arith)
  save_span (Object ty) = both_span _ _ 4 3 7 fiber_span (static_span 5) (omega arith)
  save_span Top = more_room _ 1 7 (byte_span Pop) (omega arith)
  save_span Null = more_room _ 1 7 (byte_span Pop) (omega arith)
  save_span UninitThis = more_room _ 1 7 (byte_span Pop) (omega arith)
  save_span (Uninit q) = more_room _ 1 7 (byte_span Pop) (omega arith)

  save_stack_span : (ts : List VType) → Span (save_stack x ts) (7 * length ts)
  save_stack_span [] = more_room _ 0 _ nothing_spans (omega arith)
  save_stack_span (t ∷ ts) = both_span (save x t) (save_stack x ts) 7 (7 * length ts) _ (save_span t) (save_stack_span ts) (omega arith)

  save_local_span : (slot : ℕ) (t : VType) → Span (save_local x slot t) 11
  save_local_span slot Int = both_span _ (save x Int) 4 7 11 (local_span _ slot) (save_span Int) (omega arith)
  save_local_span slot Long = both_span _ (save x Long) 4 7 11 (local_span _ slot) (save_span Long) (omega arith)
  save_local_span slot (Object ty) = both_span _ (save x (Object ty)) 4 7 11 (local_span _ slot) (save_span (Object ty)) (omega arith)
  save_local_span slot Top = both_span _ (save x Top) 4 7 11 (local_span _ slot) (save_span Top) (omega arith)
  save_local_span slot Null = more_room _ 0 _ nothing_spans (omega arith)
  save_local_span slot UninitThis = both_span _ (save x UninitThis) 4 7 11 (local_span _ slot) (save_span UninitThis) (omega arith)
  save_local_span slot (Uninit q) = both_span _ (save x (Uninit q)) 4 7 11 (local_span _ slot) (save_span (Uninit q)) (omega arith)

  save_locals_span : (es : List (ℕ × VType)) → Span (save_locals x es) (11 * length es)
  save_locals_span [] = more_room _ 0 _ nothing_spans (omega arith)
  save_locals_span (e ∷ es) = both_span (save_local x e.0 e.1) (save_locals x es) 11 (11 * length es) _ (save_local_span e.0 e.1) (save_locals_span es) (omega arith)

  restore_span : (t : VType) → Span (restore x t) 10
  restore_span Int = both_span _ _ 4 3 10 fiber_span (member_span 7) (omega arith)
  restore_span Long = both_span _ _ 4 3 10 fiber_span (member_span 8) (omega arith)
  restore_span (Object ty) = both_span _ _ 4 6 10 fiber_span (both_span _ _ 3 3 6 (member_span 9) (three_span _) (omega arith)) (omega arith)
  restore_span Top = more_room _ 1 _ (byte_span AconstNull) (omega arith)
  restore_span Null = more_room _ 1 _ (byte_span AconstNull) (omega arith)
  restore_span UninitThis = more_room _ 1 _ (byte_span AconstNull) (omega arith)
  restore_span (Uninit q) = more_room _ 1 _ (byte_span AconstNull) (omega arith)

  pub restore_stack_span : (ts : List VType) → Span (restore_stack x ts) (10 * length ts)
  restore_stack_span [] = more_room _ 0 _ nothing_spans (omega arith)
  restore_stack_span (t ∷ ts) = both_span (restore_stack x ts) (restore x t) (10 * length ts) 10 _ (restore_stack_span ts) (restore_span t) (omega arith)

  restore_local_span : (slot : ℕ) (t : VType) → Span (restore_local x slot t) 14
  restore_local_span slot t = both_span (restore x t) _ 10 4 14 (restore_span t) (local_span _ slot) (omega arith)

  pub restore_locals_span : (es : List (ℕ × VType)) → Span (restore_locals x es) (14 * length es)
  restore_locals_span [] = more_room _ 0 _ nothing_spans (omega arith)
  restore_locals_span (e ∷ es) = both_span (restore_locals x es) (restore_local x e.0 e.1) (14 * length es) 14 _ (restore_locals_span es) (restore_local_span e.0 e.1) (omega arith)

  number_by : (a b : Bool) (n : ℕ) → Span (λ rest. cond a (added (Iconst (pos n)) 1) (cond b (added (Bipush (pos n)) 2) (added (Sipush (pos n)) 3)) ∷ rest) 3
  number_by true b n = more_room _ 1 _ (byte_span _) (omega arith)
  number_by false true n = one_spans _ 2 3 false (omega arith) (omega arith)
  number_by false false n = three_span _

  self_by : (b : Bool) → Span (λ rest. cond b (added AconstNull 1) (added (Aload (self_slot x.method)) (local_size (self_slot x.method))) ∷ rest) 4
  self_by true = more_room _ 1 _ (byte_span _) (omega arith)
  self_by false = local_span _ (self_slot x.method)

  return_span : (o : Option Ty) → Span (dummy_return o) 2
  return_span None = more_room _ 1 _ (byte_span Return) (omega arith)
  return_span (Some ty) = both_span _ _ 1 1 2 (byte_span _) (byte_span _) (omega arith)

  drop_span : (o : Option Ty) → Span (drop_result o) 1
  drop_span None = more_room _ 0 _ nothing_spans (omega arith)
  drop_span (Some ty) = byte_span _

  pub dummies_span : (tys : List Ty) → Span (dummies tys) (length tys)
  dummies_span [] = more_room _ 0 _ nothing_spans (omega arith)
  dummies_span (ty ∷ tys) = both_span _ (dummies tys) 1 (length tys) _ (byte_span _) (dummies_span tys) (omega arith)

  receiver_span : (t : VType) → Span (receiver_of x t) 10
  receiver_span (Object ty) = both_span _ _ 4 6 10 fiber_span (both_span _ _ 3 3 6 (member_span 10) (three_span _) (omega arith)) (omega arith)
  receiver_span Int = more_room _ 1 _ (byte_span AconstNull) (omega arith)
  receiver_span Long = more_room _ 1 _ (byte_span AconstNull) (omega arith)
  receiver_span Top = more_room _ 1 _ (byte_span AconstNull) (omega arith)
  receiver_span Null = more_room _ 1 _ (byte_span AconstNull) (omega arith)
  receiver_span UninitThis = more_room _ 1 _ (byte_span AconstNull) (omega arith)
  receiver_span (Uninit q) = more_room _ 1 _ (byte_span AconstNull) (omega arith)

  pub restore_receiver_span : (b : Bool) (t : VType) → Span (restore_receiver b x t) 10
  restore_receiver_span true t = more_room _ 0 _ nothing_spans (omega arith)
  restore_receiver_span false t = receiver_span t

  -- from the saves to the return: 17 bytes, and the saves
  pub leave_span : (number : ℕ) (callee : Method) (place next : ℕ) → Span (leave x number callee place next) (7 * length (below x callee place) + (11 * length (saved x place next) + 16))
  leave_span number callee place next =
      both_span (save_stack x (below x callee place)) _ (7 * length (below x callee place)) (11 * length (saved x place next) + 16) _ (save_stack_span (below x callee place))
      (both_span (save_locals x (saved x place next)) _ (11 * length (saved x place next)) 16 _ (save_locals_span (saved x place next))
      (both_span _ _ 3 13 16 (number_by (nat_le number 5) (nat_le number 127) number)
      (both_span _ _ 4 9 13 (self_by x.method.is_static)
      (both_span _ _ 4 5 9 fiber_span
      (both_span _ (dummy_return x.method.result) 3 2 5 (static_span 6) (return_span x.method.result) (omega arith)) (omega arith)) (omega arith)) (omega arith)) (omega arith)) (omega arith)

  -- the group without its mark
  abbrev pub group_code : (number : ℕ) → Method → (place next : ℕ) → Instr → List Item → List Item
  group_code number callee place next i rest = load_fiber x ∷ calls_member x 1 ∷ Does i (λ q. 3) true ∷ load_fiber x ∷ calls_member x 2 ∷ added (Ifeq (x.at next)) 3 ∷ drop_result callee.result (leave x number callee place next rest)

  pub group_span : (number : ℕ) (callee : Method) (place next : ℕ) (i : Instr) → Span (group_code number callee place next i) (7 * length (below x callee place) + (11 * length (saved x place next) + 37))
  group_span number callee place next i =
      let saves = 7 * length (below x callee place) + (11 * length (saved x place next) + 16) in
      both_span _ _ 4 (17 + saves) _ fiber_span
      (both_span _ _ 3 (14 + saves) _ (member_span 1)
      (both_span _ _ 3 (11 + saves) _ (one_spans i 3 3 true (omega arith) (omega arith))
      (both_span _ _ 4 (7 + saves) _ fiber_span
      (both_span _ _ 3 (4 + saves) _ (member_span 2)
      (both_span _ _ 3 (1 + saves) _ (three_span _)
      (both_span (drop_result callee.result) _ 1 saves _ (drop_span callee.result) (leave_span number callee place next) (omega arith)) (omega arith)) (omega arith)) (omega arith)) (omega arith)) (omega arith)) (omega arith)

  pub resume_span : (callee : Method) (place next : ℕ) → Span (resume_code x callee place next) (14 * length (saved x place next) + (10 * length (below x callee place) + (length callee.params + 13)))
  resume_span callee place next =
      let s = 14 * length (saved x place next) in
      let b = 10 * length (below x callee place) in
      let p = length callee.params in
      both_span (restore_locals x (saved x place next)) _ s (b + (p + 13)) _ (restore_locals_span (saved x place next))
      (both_span (restore_stack x (below x callee place)) _ b (p + 13) _ (restore_stack_span (below x callee place))
      (both_span (restore_receiver callee.is_static x (receiver x callee place)) _ 10 (p + 3) _ (restore_receiver_span callee.is_static (receiver x callee place))
      (both_span (dummies callee.params) _ p 3 _ (dummies_span callee.params) (three_span _) (omega arith)) (omega arith)) (omega arith)) (omega arith)
