-- A local that is Top stays Top where it isn't written, and where it is read it isn't Top.
use Rattle.std.proofs.Common.{◌≡◌, ℕ, zero, suc, Bool, true, false, ◌||◌, ◌&&◌, eqb, refl, ap, sym, ◌∙◌, subst, true≢false, List, [], ◌∷◌, length, drop, Option, Some, None, Result, Ok, Err}
use Rattle.std.specs.Prelude.{nat_lt}
use Rattle.std.proofs.lemmas.Bool.{and_parts, eq-eqb, eqb-true, false≢true}
use Rattle.kilim_program.specs.declared.class.Field.{Field}
use Rattle.kilim_program.specs.declared.class.Method.{Method}
use Rattle.kilim_program.specs.declared.instr.Instr.{Instr}
use Rattle.kilim_program.specs.declared.instr.Instr.TheVariants.{Ldc, LdcW, Ldc2W, Iload, Lload, Aload, Istore, Lstore, Astore, Iinc, Getstatic, Getfield, Putfield, Invokevirtual, Invokespecial, Invokestatic}
use Rattle.kilim_program.specs.declared.names.ClassId.{ClassId}
use Rattle.kilim_program.specs.declared.names.MethodId.{MethodId}
use Rattle.kilim_program.specs.declared.value.Value.{Value}
use Rattle.kilim_program.specs.declared.value.Value.TheVariants.{Int as IntValue, Long as LongValue, Text as TextValue}
use Rattle.kilim_program.specs.declared.verified.VType.{VType}
use Rattle.kilim_program.specs.declared.verified.VType.TheVariants.{Top, Int, Long, Null, UninitThis, Uninit, Object}
use Rattle.kilim_program.specs.Names.{field_of, method_at}
use Rattle.kilim_program.specs.Program.{Program}
use Rattle.kilim_program.specs.Same.{is_constructor}
use Rattle.kilim_type_spec.specs.Step.{Types, Operand, Is, AReference, Further, Row, Takes, Element, Shuffles, Loads, Stores, Adds, Makes, Constructs, Leaves, peek, poke, is_top, is_long, is_same, split_at, split_long, with_half, stored, one_replaced, replaced, assignable, meets, all_meet, rule, further, shuffled, with_stack, store, element, with_element, class_vtype, constructed, by_row, row, type_step, constant_row, long_constant_row, field_row, static_row, virtual_row, special_row, special_by}
use Rattle.kilim_type_spec.specs.Typed.{reads, writes}

-- ---- locals

IsTop : List VType → ℕ → Type 0
IsTop ts k = is_top (peek ts k) ≡ true

apart : (j k : ℕ) → eqb j k ≡ false → j ≡ k → ⊥
apart j k e same = true≢false (sym (eq-eqb j k same) ∙ e)

poked : (ts : List VType) (j k : ℕ) (t : VType) → (j ≡ k → ⊥) → IsTop ts k → IsTop (poke ts j t) k
unfolding IsTop
poked [] zero zero t other top = absurd (other refl)
poked [] zero (suc k) t other top = refl
poked [] (suc j) zero t other top = refl
poked [] (suc j) (suc k) t other top = poked [] j k t (λ e. other (ap suc e)) refl
poked (x ∷ xs) zero zero t other top = absurd (other refl)
poked (x ∷ xs) zero (suc k) t other top = top
poked (x ∷ xs) (suc j) zero t other top = top
poked (x ∷ xs) (suc j) (suc k) t other top = poked xs j k t (λ e. other (ap suc e)) top

topped : (ts : List VType) (j k : ℕ) → IsTop ts k → IsTop (poke ts j Top) k
unfolding IsTop
topped [] zero zero top = refl
topped [] zero (suc k) top = refl
topped [] (suc j) zero top = refl
topped [] (suc j) (suc k) top = topped [] j k refl
topped (x ∷ xs) zero zero top = refl
topped (x ∷ xs) zero (suc k) top = top
topped (x ∷ xs) (suc j) zero top = top
topped (x ∷ xs) (suc j) (suc k) top = topped xs j k top

split : (ts : List VType) (j k : ℕ) → IsTop ts k → IsTop (split_long ts j) k
split ts zero k top = top
split ts (suc j) k top = by (is_long (peek ts j))
  where
    by : (b : Bool) → IsTop (split_at b ts j) k
    by true = topped ts j k top
    by false = top

halved : (t : VType) (ts : List VType) (j k : ℕ) → IsTop ts k → IsTop (with_half t ts j) k
halved Long ts j k top = topped ts (suc j) k top
halved Top ts j k top = top
halved Int ts j k top = top
halved Null ts j k top = top
halved UninitThis ts j k top = top
halved (Uninit at) ts j k top = top
halved (Object ty) ts j k top = top

stays_stored : (ts : List VType) (j k : ℕ) (t : VType) → eqb j k ≡ false → IsTop ts k → IsTop (stored ts j t) k
stays_stored ts j k t other top = halved t (poke (split_long ts j) j t) j k (poked (split_long ts j) j k t (apart j k other) (split ts j k top))

one_stays : (old t new : VType) → is_top t ≡ true → is_top (one_replaced (is_same old t) t new) ≡ true
one_stays UninitThis Top new top = refl
one_stays (Uninit at) Top new top = refl
one_stays Top Top new top = refl
one_stays Int Top new top = refl
one_stays Long Top new top = refl
one_stays Null Top new top = refl
one_stays (Object ty) Top new top = refl
one_stays old Int new top = absurd (cc)
one_stays old Long new top = absurd (cc)
one_stays old Null new top = absurd (cc)
one_stays old UninitThis new top = absurd (cc)
one_stays old (Uninit at) new top = absurd (cc)
one_stays old (Object ty) new top = absurd (cc)

stays_replaced : (old new : VType) (ts : List VType) (k : ℕ) → IsTop ts k → IsTop (replaced old new ts) k
unfolding IsTop
stays_replaced old new [] k top = refl
stays_replaced old new (t ∷ ts) zero top = one_stays old t new top
stays_replaced old new (t ∷ ts) (suc k) top = stays_replaced old new ts k top

-- ---- rules

pub passed : {A : Type 0} (n : ℕ) (b : Bool) (go : Result A ℕ) (x : A) → rule n b go ≡ Ok x → (b ≡ true) × (go ≡ Ok x)
passed n true go x e = (refl, e)
passed n false go x e = absurd (cc)

pub past : {A : Type 0} (p : Program) (rs : List Further) (s : List VType) (go : Result A ℕ) (x : A) → further p rs s go ≡ Ok x → go ≡ Ok x
past p [] s go x e = e
past p (r ∷ rs) s go x e = past p rs s go x (passed r.number (r.holds && all_meet p r.operands s) (further p rs s go) x e).1

locals_are : (f g : Types) (k : ℕ) → (let r : Result Types ℕ = Ok f in r) ≡ Ok g → IsTop f.locals k → IsTop g.locals k
locals_are f g k e top = subst (λ (z : Types). IsTop z.locals k) (let is : f ≡ g = cc in is) top

-- ---- rows

abbrev row_writes : Row → ℕ → Bool
row_writes (Stores o slot) k = eqb slot k
row_writes r k = false

module _ (p : Program) (m : Method) where
  with_stack_top : (f g : Types) (r : Result (List VType) ℕ) (k : ℕ) → with_stack f r ≡ Ok g → IsTop f.locals k → IsTop g.locals k
  with_stack_top f g (Ok s) k e top = locals_are (record f { stack = s }) g k e top
  with_stack_top f g (Err n) k e top = absurd (cc)

  element_top : (f g : Types) (r : Result VType ℕ) (k : ℕ) → with_element f r ≡ Ok g → IsTop f.locals k → IsTop g.locals k
  element_top f g (Ok t) k e top = locals_are (record f { stack = t ∷ drop 2 f.stack }) g k e top
  element_top f g (Err n) k e top = absurd (cc)

  store_top : (o : Operand) (slot : ℕ) (s : List VType) (f g : Types) (k : ℕ) → store p m o slot s f ≡ Ok g → eqb slot k ≡ false → IsTop f.locals k → IsTop g.locals k
  store_top o slot [] f g k e other top = absurd (cc)
  store_top o slot (t ∷ s) f g k e other top =
      let one = passed 5 _ _ g e in
      let two = passed 6 _ _ g one.1 in
      locals_are (record f { locals = stored f.locals slot t; stack = s }) g k two.1 (stays_stored f.locals slot k t other top)

  constructed_top : (class : ClassId) (gives : List VType) (after : List Further) (s : List VType) (f g : Types) (k : ℕ) → constructed p m class gives after s f ≡ Ok g → IsTop f.locals k → IsTop g.locals k
  constructed_top class gives after (UninitThis ∷ s) f g k e top =
      let one = passed 10 _ _ g e in
      locals_are _ g k (past p after f.stack _ g one.1) (stays_replaced UninitThis (class_vtype m.owner) f.locals k top)
  constructed_top class gives after (Uninit at ∷ s) f g k e top =
      let one = passed 10 _ _ g e in
      locals_are _ g k (past p after f.stack _ g one.1) (stays_replaced (Uninit at) (class_vtype class) f.locals k top)
  constructed_top class gives after [] f g k e top = absurd (cc)
  constructed_top class gives after (Top ∷ s) f g k e top = absurd (cc)
  constructed_top class gives after (Int ∷ s) f g k e top = absurd (cc)
  constructed_top class gives after (Long ∷ s) f g k e top = absurd (cc)
  constructed_top class gives after (Null ∷ s) f g k e top = absurd (cc)
  constructed_top class gives after (Object ty ∷ s) f g k e top = absurd (cc)

  by_row_top : (at : ℕ) (r : Row) (f g : Types) (k : ℕ) → by_row p m at r f ≡ Ok g → row_writes r k ≡ false → IsTop f.locals k → IsTop g.locals k
  by_row_top at (Takes takes gives also) f g k e w top =
      let one = passed 3 _ _ g e in
      let two = passed 4 _ _ g one.1 in
      let three = passed 5 _ _ g two.1 in
      locals_are _ g k (past p also f.stack _ g three.1) top
  by_row_top at Element f g k e w top =
      let one = passed 3 _ _ g e in
      let room = passed 4 _ _ g one.1 in
      let two = passed 5 _ _ g room.1 in
      element_top f g (element f.stack) k two.1 top
  by_row_top at (Shuffles form) f g k e w top =
      let one = passed 3 _ _ g e in
      let two = passed 4 _ _ g one.1 in
      with_stack_top f g (shuffled form f.stack) k two.1 top
  by_row_top at (Loads o slot) f g k e w top =
      let one = passed 4 _ _ g e in
      let two = passed 6 _ _ g one.1 in
      locals_are _ g k two.1 top
  by_row_top at (Stores o slot) f g k e w top = store_top o slot f.stack f g k e w top
  by_row_top at (Adds slot) f g k e w top = locals_are f g k (passed 6 _ _ g e).1 top
  by_row_top at (Makes may) f g k e w top =
      let one = passed 4 _ _ g e in
      let two = passed 10 _ _ g one.1 in
      let three = passed 13 _ _ g two.1 in
      locals_are _ g k three.1 (stays_replaced (Uninit at) Top f.locals k top)
  by_row_top at (Constructs takes gives class before after) f g k e w top =
      let one = passed 3 _ _ g e in
      let two = passed 4 _ _ g one.1 in
      let three = passed 5 _ _ g two.1 in
      constructed_top class gives after (drop (length takes) f.stack) f g k (past p before f.stack _ g three.1) top
  by_row_top at (Leaves takes also) f g k e w top =
      let one = passed 3 _ _ g e in
      let two = passed 5 _ _ g one.1 in
      let three = passed 11 _ _ g (past p also f.stack _ g two.1) in
      locals_are _ g k three.1 top

  -- ---- instructions

  constant_writes : (v : Value) (k : ℕ) → row_writes (constant_row p v) k ≡ false
  constant_writes (IntValue n) k = refl
  constant_writes (TextValue units) k = refl
  constant_writes v k = refl

  long_constant_writes : (v : Value) (k : ℕ) → row_writes (long_constant_row v) k ≡ false
  long_constant_writes (LongValue n) k = refl
  long_constant_writes v k = refl

  static_writes : (o : Option Method) (k : ℕ) → row_writes (static_row m o) k ≡ false
  static_writes None k = refl
  static_writes (Some callee) k = refl

  virtual_writes : (o : Option Method) (k : ℕ) → row_writes (virtual_row m o) k ≡ false
  virtual_writes None k = refl
  virtual_writes (Some callee) k = refl

  special_by_writes : (b : Bool) (id : MethodId) (callee : Method) (k : ℕ) → row_writes (special_by b p m id callee) k ≡ false
  special_by_writes true id callee k = refl
  special_by_writes false id callee k = refl

  special_writes : (id : MethodId) (o : Option Method) (k : ℕ) → row_writes (special_row p m id o) k ≡ false
  special_writes id None k = refl
  special_writes id (Some callee) k = special_by_writes (is_constructor callee) id callee k

  field_writes : (i : Instr) (o : Option Field) (k : ℕ) → row_writes (field_row i m o) k ≡ false
  field_writes i None k = refl
  field_writes (Getstatic f) (Some field) k = refl
  field_writes (Getfield f) (Some field) k = refl
  field_writes i (Some field) k = refl

  or_parts : (a b : Bool) → (a || b) ≡ false → a ≡ false
  or_parts true b e = absurd (cc)
  or_parts false b e = refl

  row_keeps : (i : Instr) (k : ℕ) → writes i k ≡ false → row_writes (row p m i) k ≡ false
  unfolding row
  row_keeps (Istore n) k w = w
  row_keeps (Astore n) k w = w
  row_keeps (Lstore n) k w = or_parts (eqb n k) (eqb (suc n) k) w
  row_keeps (Ldc v) k w = constant_writes v k
  row_keeps (LdcW v) k w = constant_writes v k
  row_keeps (Ldc2W v) k w = long_constant_writes v k
  row_keeps (Getstatic f) k w = field_writes (Getstatic f) (field_of p f) k
  row_keeps (Getfield f) k w = field_writes (Getfield f) (field_of p f) k
  row_keeps (Putfield f) k w = field_writes (Putfield f) (field_of p f) k
  row_keeps (Invokevirtual id) k w = virtual_writes (method_at p id) k
  row_keeps (Invokespecial id) k w = special_writes id (method_at p id) k
  row_keeps (Invokestatic id) k w = static_writes (method_at p id) k
  row_keeps i k w = refl

  pub top_stays : (at : ℕ) (i : Instr) (f g : Types) (k : ℕ) → type_step p m at i f ≡ Ok g → writes i k ≡ false → is_top (peek f.locals k) ≡ true → is_top (peek g.locals k) ≡ true
  unfolding IsTop
  top_stays at i f g k e w top = by_row_top at (row p m i) f g k e (row_keeps i k w) top

  -- ---- what is read

  abbrev IsFirm : Operand → Type 0
  IsFirm o = (t : VType) → meets p o t ≡ true → is_top t ≡ false

  an_int : IsFirm (Is Int)
  unfolding meets
  an_int Top e = absurd (cc)
  an_int Int e = refl
  an_int Long e = refl
  an_int Null e = refl
  an_int UninitThis e = refl
  an_int (Uninit at) e = refl
  an_int (Object ty) e = refl

  a_long : IsFirm (Is Long)
  unfolding meets
  a_long Top e = absurd (cc)
  a_long Int e = refl
  a_long Long e = refl
  a_long Null e = refl
  a_long UninitThis e = refl
  a_long (Uninit at) e = refl
  a_long (Object ty) e = refl

  a_reference : IsFirm AReference
  unfolding meets
  a_reference Top e = absurd (cc)
  a_reference Int e = refl
  a_reference Long e = refl
  a_reference Null e = refl
  a_reference UninitThis e = refl
  a_reference (Uninit at) e = refl
  a_reference (Object ty) e = refl

  loads : (at : ℕ) (o : Operand) (slot k : ℕ) (f g : Types) → IsFirm o → by_row p m at (Loads o slot) f ≡ Ok g → eqb slot k ≡ true → is_top (peek f.locals k) ≡ false
  loads at o slot k f g firm e same =
      let one = passed 4 _ _ g e in
      let two = passed 6 _ _ g one.1 in
      subst (λ (n : ℕ). is_top (peek f.locals n) ≡ false) (eqb-true slot k same) (firm (peek f.locals slot) (and_parts (nat_lt slot m.max_locals) (meets p o (peek f.locals slot)) two.0).1)

  adds : (at : ℕ) (slot k : ℕ) (f g : Types) → by_row p m at (Adds slot) f ≡ Ok g → eqb slot k ≡ true → is_top (peek f.locals k) ≡ false
  adds at slot k f g e same =
      let one = passed 6 _ _ g e in
      subst (λ (n : ℕ). is_top (peek f.locals n) ≡ false) (eqb-true slot k same) (an_int (peek f.locals slot) (and_parts (nat_lt slot m.max_locals) (meets p (Is Int) (peek f.locals slot)) one.0).1)

  pub read_has_type : (at : ℕ) (i : Instr) (f g : Types) (k : ℕ) → type_step p m at i f ≡ Ok g → reads i k ≡ true → is_top (peek f.locals k) ≡ false
  unfolding row
  read_has_type at (Iload n) f g k e r = loads at (Is Int) n k f g an_int e r
  read_has_type at (Lload n) f g k e r = loads at (Is Long) n k f g a_long e r
  read_has_type at (Aload n) f g k e r = loads at AReference n k f g a_reference e r
  read_has_type at (Iinc n by) f g k e r = adds at n k f g e r
  read_has_type at i f g k e r = absurd (false≢true r)

-- ---- what flows

pub top_flows : (p : Program) (t u : VType) → assignable p t u ≡ true → is_top t ≡ true → is_top u ≡ true
top_flows p Top Top e top = refl
top_flows p Top Int e top = absurd (cc)
top_flows p Top Long e top = absurd (cc)
top_flows p Top Null e top = absurd (cc)
top_flows p Top UninitThis e top = absurd (cc)
top_flows p Top (Uninit at) e top = absurd (cc)
top_flows p Top (Object ty) e top = absurd (cc)
top_flows p Int u e top = absurd (cc)
top_flows p Long u e top = absurd (cc)
top_flows p Null u e top = absurd (cc)
top_flows p UninitThis u e top = absurd (cc)
top_flows p (Uninit at) u e top = absurd (cc)
top_flows p (Object ty) u e top = absurd (cc)
