-- What instructions leave of the names of locals and of their types: what isn't written stays, and no number comes to a name.
use Rattle.std.proofs.Common.{◌≡◌, inl, inr, ℕ, zero, suc, Bool, true, false, ◌||◌, if◌then◌else◌, eqb, refl, ap, sym, ◌∙◌, subst, true≢false, List, [], ◌∷◌, length, drop, Option, Some, None, Result, Ok, Err}
use Rattle.std.proofs.lemmas.Bool.{eq-eqb, eqb-true}
use Rattle.kilim_program.specs.declared.class.Field.{Field}
use Rattle.kilim_program.specs.declared.class.Method.{Method}
use Rattle.kilim_program.specs.declared.instr.Instr.{Instr}
use Rattle.kilim_program.specs.declared.instr.Instr.TheVariants.{Ldc, LdcW, Ldc2W, Aload, Istore, Lstore, Astore, Getstatic, Getfield, Putfield, Invokevirtual, Invokespecial, Invokestatic, New, Newarray, Anewarray, Aaload, Aastore, Areturn, Checkcast}
use Rattle.kilim_program.specs.declared.names.ClassId.{ClassId}
use Rattle.kilim_program.specs.declared.names.FieldId.{FieldId}
use Rattle.kilim_program.specs.declared.names.MethodId.{MethodId}
use Rattle.kilim_program.specs.declared.ty.Kind.{Kind}
use Rattle.kilim_program.specs.declared.ty.Kind.TheVariants as kind
use Rattle.kilim_program.specs.declared.ty.Ty.{Ty}
use Rattle.kilim_program.specs.declared.value.Value.{Value}
use Rattle.kilim_program.specs.declared.value.Value.TheVariants.{Int as IntValue, Long as LongValue, Text as TextValue}
use Rattle.kilim_program.specs.declared.verified.VType.{VType}
use Rattle.kilim_program.specs.declared.verified.VType.TheVariants.{Top, Int, Long, Null, UninitThis, Uninit, Object}
use Rattle.kilim_program.specs.Kinds.{class_kind, kind_of}
use Rattle.kilim_program.specs.Names.{field_of, method_at}
use Rattle.kilim_program.specs.Program.{Program}
use Rattle.kilim_program.specs.Same.{is_constructor}
use Rattle.kilim_type_spec.specs.Step.{Types, Operand, Is, AReference, Further, Row, Takes, Element, Shuffles, Loads, Stores, Adds, Makes, Constructs, Leaves, array_ty, peek, poke, is_long, is_same, split_at, split_long, with_half, stored, one_replaced, replaced, meets, rule, shuffled, with_stack, store, element, with_element, class_vtype, constructed, by_row, row, type_step, constant_row, long_constant_row, field_row, static_row, virtual_row, special_row, special_by}
use Rattle.kilim_type_spec.specs.Typed.{writes}
use Rattle.kilim_type_laws.proofs.Tops.{passed, past}
use Rattle.kilim_isolation_graph.specs.declared.graph.Graph.{Graph}
use Rattle.kilim_isolation_graph.specs.declared.node.Label.{Label}
use Rattle.kilim_isolation_graph.specs.declared.node.Label.TheVariants as label
use Rattle.kilim_isolation_graph.specs.Graphs.{node_of, popped, slot, with_slot}
use Rattle.kilim_isolation_graph.specs.Nodes.{is_safe}
use Rattle.kilim_isolation_rules.specs.Calls.{after_argument, after_arguments, after_call, all_passed, arguments, calls, given_result, takes_from, call_raises}
use Rattle.kilim_isolation_rules.specs.Fields.{child_by, element_kind, got, got_safe, gets_field, puts_field, read_from, reads, stored as stored_deed, stores}
use Rattle.kilim_isolation_rules.specs.Marks.{given}
use Rattle.kilim_isolation_rules.specs.Rules.{by_types, deed, raised_deed}
use Rattle.kilim_isolation_rules.specs.Steps.{Argument, Cuttable, Free}
use Rattle.kilim_isolation_laws.proofs.forest.Store.{both_ways}
use Rattle.kilim_isolation_laws.specs.reached_objects.live.Laws.{is_number}

-- ---- which instructions store

abbrev pub stores_local : Instr → Bool
stores_local (Istore n) = true
stores_local (Lstore n) = true
stores_local (Astore n) = true
stores_local i = false

abbrev pub row_stores : Row → Bool
row_stores (Stores o k) = true
row_stores r = false

module _ (p : Program) (m : Method) where
  constant_none : (v : Value) → row_stores (constant_row p v) ≡ false
  constant_none (IntValue n) = refl
  constant_none (TextValue units) = refl
  constant_none v = refl

  long_constant_none : (v : Value) → row_stores (long_constant_row v) ≡ false
  long_constant_none (LongValue n) = refl
  long_constant_none v = refl

  static_none : (o : Option Method) → row_stores (static_row m o) ≡ false
  static_none None = refl
  static_none (Some callee) = refl

  virtual_none : (o : Option Method) → row_stores (virtual_row m o) ≡ false
  virtual_none None = refl
  virtual_none (Some callee) = refl

  special_by_none : (b : Bool) (id : MethodId) (callee : Method) → row_stores (special_by b p m id callee) ≡ false
  special_by_none true id callee = refl
  special_by_none false id callee = refl

  special_none : (id : MethodId) (o : Option Method) → row_stores (special_row p m id o) ≡ false
  special_none id None = refl
  special_none id (Some callee) = special_by_none (is_constructor callee) id callee

  field_none : (i : Instr) (o : Option Field) → row_stores (field_row i m o) ≡ false
  field_none i None = refl
  field_none (Getstatic f) (Some field) = refl
  field_none (Getfield f) (Some field) = refl
  field_none i (Some field) = refl

  pub no_store : (i : Instr) → stores_local i ≡ false → row_stores (row p m i) ≡ false
  unfolding row
  no_store (Istore n) w = absurd (true≢false w)
  no_store (Astore n) w = absurd (true≢false w)
  no_store (Lstore n) w = absurd (true≢false w)
  no_store (Ldc v) w = constant_none v
  no_store (LdcW v) w = constant_none v
  no_store (Ldc2W v) w = long_constant_none v
  no_store (Getstatic f) w = field_none (Getstatic f) (field_of p f)
  no_store (Getfield f) w = field_none (Getfield f) (field_of p f)
  no_store (Putfield f) w = field_none (Putfield f) (field_of p f)
  no_store (Invokevirtual id) w = virtual_none (method_at p id)
  no_store (Invokespecial id) w = special_none id (method_at p id)
  no_store (Invokestatic id) w = static_none (method_at p id)
  no_store i w = refl

-- ---- names

typed_locals : (g : Graph) (f : Types) (r : Row) → row_stores r ≡ false → (by_types g f r).locals ≡ g.locals
typed_locals g f (Takes takes gives also) w = refl
typed_locals g f Element w = refl
typed_locals g f (Shuffles form) w = refl
typed_locals g f (Loads o k) w = refl
typed_locals g f (Stores o k) w = absurd (true≢false w)
typed_locals g f (Adds k) w = refl
typed_locals g f (Makes may) w = refl
typed_locals g f (Constructs takes gives class before after) w = refl
typed_locals g f (Leaves takes also) w = refl

given_locals : (k : Kind) (g : Graph) → (given k g).locals ≡ g.locals
given_locals kind.Tree g = refl
given_locals kind.Value g = refl
given_locals kind.Private g = refl

pub result_locals : (p : Program) (result : Option Ty) (g : Graph) → (given_result p result g).locals ≡ g.locals
result_locals p None g = refl
result_locals p (Some ty) g = given_locals (kind_of p ty) g

got_locals : (g : Graph) (l : Label) (a : ℕ) (child : Option ℕ) → (got g l a child).locals ≡ g.locals
got_locals g l a None = refl
got_locals g l a (Some c) = refl

read_locals : (g : Graph) (l : Label) (x : Option ℕ) → (read_from g l x).locals ≡ g.locals
read_locals g l None = refl
read_locals g l (Some a) = by (is_safe (node_of g a).standing)
  where
    by : (b : Bool) → (if b then got_safe g a else got g l a (child_by g l a)).locals ≡ g.locals
    by true = refl
    by false = got_locals g l a (child_by g l a)

reads_locals : (k : Kind) (takes : ℕ) (l : Label) (x : Option ℕ) (g : Graph) → (reads k takes l x g).locals ≡ g.locals
reads_locals kind.Tree takes l x g = read_locals (popped takes g) l x
reads_locals kind.Value takes l x g = refl
reads_locals kind.Private takes l x g = refl

stored_locals : (g : Graph) (l : Label) (x y : Option ℕ) → (stored_deed g l x y).graph.locals ≡ g.locals
stored_locals g l None y = refl
stored_locals g l (Some a) None = refl
stored_locals g l (Some a) (Some b) = refl

stores_locals : (p : Program) (k : Kind) (t : VType) (l : Label) (x y : Option ℕ) (g : Graph) → (stores p k t l x y g).graph.locals ≡ g.locals
stores_locals p kind.Value t l x y g = refl
stores_locals p kind.Tree t l x y g = stored_locals g l x y
stores_locals p kind.Private t l x y g = refl

argument_locals : (x : Argument) (g : Graph) → (after_argument x g).locals ≡ g.locals
argument_locals (Free n) g = refl
argument_locals (Cuttable n) g = refl

arguments_locals : (xs : List Argument) (g : Graph) → (after_arguments xs g).locals ≡ g.locals
arguments_locals [] g = refl
arguments_locals (x ∷ xs) g = arguments_locals xs (after_argument x g) ∙ argument_locals x g

calls_locals : (p : Program) (g : Graph) (ts : List VType) (o : Option Method) → (calls p g ts o).graph.locals ≡ g.locals
calls_locals p g ts None = refl
calls_locals p g ts (Some callee) =
    let after = after_call p (all_passed callee g ts) g in
    result_locals p callee.result (popped (takes_from callee) after) ∙ arguments_locals (arguments p (all_passed callee g ts)) g

field_locals : (p : Program) (g : Graph) (id : FieldId) (o : Option Field) → (gets_field p g id o).graph.locals ≡ g.locals
field_locals p g id None = refl
field_locals p g id (Some field) = reads_locals (kind_of p field.ty) 1 (label.Field id) (slot g.stack 0) g

put_locals : (p : Program) (g : Graph) (ts : List VType) (id : FieldId) (o : Option Field) → (puts_field p g ts id o).graph.locals ≡ g.locals
put_locals p g ts id None = refl
put_locals p g ts id (Some field) = stores_locals p (kind_of p field.ty) (peek ts 0) (label.Field id) (slot g.stack 1) (slot g.stack 0) (popped 2 g)

pub locals_stay : (p : Program) (m : Method) (g : Graph) (f : Types) (i : Instr) → stores_local i ≡ false → (deed p m g f i).graph.locals ≡ g.locals
unfolding deed
locals_stay p m g f (Istore n) w = absurd (true≢false w)
locals_stay p m g f (Lstore n) w = absurd (true≢false w)
locals_stay p m g f (Astore n) w = absurd (true≢false w)
locals_stay p m g f (Aload k) w = refl
locals_stay p m g f (New c) w = given_locals (class_kind p c) g
locals_stay p m g f (Newarray element) w = given_locals kind.Tree (popped 1 g)
locals_stay p m g f (Anewarray ty) w = given_locals (kind_of p (array_ty ty)) (popped 1 g)
locals_stay p m g f (Getfield field) w = field_locals p g field (field_of p field)
locals_stay p m g f (Putfield field) w = put_locals p g f.stack field (field_of p field)
locals_stay p m g f Aaload w = reads_locals (element_kind p (peek f.stack 1)) 2 label.Element (slot g.stack 1) g
locals_stay p m g f Aastore w = stores_locals p (element_kind p (peek f.stack 2)) (peek f.stack 0) label.Element (slot g.stack 2) (slot g.stack 0) (popped 3 g)
locals_stay p m g f (Invokevirtual id) w = calls_locals p g f.stack (method_at p id)
locals_stay p m g f (Invokespecial id) w = calls_locals p g f.stack (method_at p id)
locals_stay p m g f (Invokestatic id) w = calls_locals p g f.stack (method_at p id)
locals_stay p m g f Areturn w = refl
locals_stay p m g f (Checkcast ty) w = refl
locals_stay p m g f i w = typed_locals g f (row p m i) (no_store p m i w)

apart : (j k : ℕ) → eqb j k ≡ false → j ≡ k → ⊥
apart j k e same = true≢false (sym (eq-eqb j k same) ∙ e)

other_slot : (xs : List (Option ℕ)) (j k : ℕ) (x : Option ℕ) → (j ≡ k → ⊥) → slot (with_slot xs j x) k ≡ slot xs k
other_slot [] zero zero x other = absurd (other refl)
other_slot [] zero (suc k) x other = refl
other_slot [] (suc j) zero x other = refl
other_slot [] (suc j) (suc k) x other = other_slot [] j k x (λ e. other (ap suc e))
other_slot (y ∷ ys) zero zero x other = absurd (other refl)
other_slot (y ∷ ys) zero (suc k) x other = refl
other_slot (y ∷ ys) (suc j) zero x other = refl
other_slot (y ∷ ys) (suc j) (suc k) x other = other_slot ys j k x (λ e. other (ap suc e))

this_slot : (xs : List (Option ℕ)) (k : ℕ) (x : Option ℕ) → slot (with_slot xs k x) k ≡ x
this_slot [] zero x = refl
this_slot [] (suc k) x = this_slot [] k x
this_slot (y ∷ ys) zero x = refl
this_slot (y ∷ ys) (suc k) x = this_slot ys k x

or_parts : (a b : Bool) → (a || b) ≡ false → (a ≡ false) × (b ≡ false)
or_parts true b e = absurd (true≢false e)
or_parts false b e = (refl, e)

-- the name of a local that isn't written stays
pub slot_stays : (p : Program) (m : Method) (g : Graph) (f : Types) (i : Instr) (k : ℕ) → writes i k ≡ false → slot (deed p m g f i).graph.locals k ≡ slot g.locals k
unfolding deed row
slot_stays p m g f (Istore n) k w = other_slot g.locals n k None (apart n k w)
slot_stays p m g f (Astore n) k w = other_slot g.locals n k (slot g.stack 0) (apart n k w)
slot_stays p m g f (Lstore n) k w =
    let ws = or_parts (eqb n k) (eqb (suc n) k) w in
    other_slot (with_slot g.locals n None) (suc n) k None (apart (suc n) k ws.1) ∙ other_slot g.locals n k None (apart n k ws.0)
slot_stays p m g f i k w = ap (λ ls. slot ls k) (locals_stay p m g f i refl)

-- ---- types

abbrev IsNumber : List VType → ℕ → Type 0
IsNumber ts k = is_number (peek ts k) ≡ true

poked : (ts : List VType) (j k : ℕ) (t : VType) → (j ≡ k → ⊥) → peek (poke ts j t) k ≡ peek ts k
poked [] zero zero t other = absurd (other refl)
poked [] zero (suc k) t other = refl
poked [] (suc j) zero t other = refl
poked [] (suc j) (suc k) t other = poked [] j k t (λ e. other (ap suc e))
poked (x ∷ xs) zero zero t other = absurd (other refl)
poked (x ∷ xs) zero (suc k) t other = refl
poked (x ∷ xs) (suc j) zero t other = refl
poked (x ∷ xs) (suc j) (suc k) t other = poked xs j k t (λ e. other (ap suc e))

poked_here : (ts : List VType) (k : ℕ) (t : VType) → peek (poke ts k t) k ≡ t
poked_here [] zero t = refl
poked_here [] (suc k) t = poked_here [] k t
poked_here (x ∷ xs) zero t = refl
poked_here (x ∷ xs) (suc k) t = poked_here xs k t

topped : (ts : List VType) (j k : ℕ) → IsNumber (poke ts j Top) k → IsNumber ts k
topped ts j k e = elim (both_ways (eqb j k)) [
  | inl it ↦ absurd (true≢false (sym e ∙ (ap (λ (z : ℕ). is_number (peek (poke ts j Top) z)) (sym (eqb-true j k it)) ∙ ap is_number (poked_here ts j Top))))
  | inr other ↦ ap is_number (sym (poked ts j k Top (apart j k other))) ∙ e
]

split : (ts : List VType) (j k : ℕ) → IsNumber (split_long ts j) k → IsNumber ts k
split ts zero k e = e
split ts (suc j) k e = by (is_long (peek ts j)) e
  where
    by : (b : Bool) → IsNumber (split_at b ts j) k → IsNumber ts k
    by true w = topped ts j k w
    by false w = w

halved : (t : VType) (ts : List VType) (j k : ℕ) → IsNumber (with_half t ts j) k → IsNumber ts k
halved Long ts j k e = topped ts (suc j) k e
halved Top ts j k e = e
halved Int ts j k e = e
halved Null ts j k e = e
halved UninitThis ts j k e = e
halved (Uninit at) ts j k e = e
halved (Object ty) ts j k e = e

stored_back : (ts : List VType) (j k : ℕ) (t : VType) → eqb j k ≡ false → IsNumber (stored ts j t) k → IsNumber ts k
stored_back ts j k t other e = split ts j k (ap is_number (sym (poked (split_long ts j) j k t (apart j k other))) ∙ halved t (poke (split_long ts j) j t) j k e)

stored_here : (ts : List VType) (k : ℕ) (t : VType) → is_number t ≡ false → IsNumber (stored ts k t) k → ⊥
stored_here ts k t reference e = true≢false (sym (halved t (poke (split_long ts k) k t) k k e) ∙ (ap is_number (poked_here (split_long ts k) k t) ∙ reference))

one_back : (b : Bool) (t new : VType) → is_number new ≡ false → is_number (one_replaced b t new) ≡ true → is_number t ≡ true
one_back true t new none e = absurd (true≢false (sym e ∙ none))
one_back false t new none e = e

replaced_back : (old new : VType) (ts : List VType) (k : ℕ) → is_number new ≡ false → IsNumber (replaced old new ts) k → IsNumber ts k
replaced_back old new [] k none e = e
replaced_back old new (t ∷ ts) zero none e = one_back (is_same old t) t new none e
replaced_back old new (t ∷ ts) (suc k) none e = replaced_back old new ts k none e

locals_were : (f g : Types) (k : ℕ) → (let r : Result Types ℕ = Ok f in r) ≡ Ok g → IsNumber g.locals k → IsNumber f.locals k
locals_were f g k e number = subst (λ (z : Types). IsNumber z.locals k) (let is : g ≡ f = cc in is) number

module _ (p : Program) (m : Method) where
  with_stack_back : (f g : Types) (r : Result (List VType) ℕ) (k : ℕ) → with_stack f r ≡ Ok g → IsNumber g.locals k → IsNumber f.locals k
  with_stack_back f g (Ok s) k e n = locals_were (record f { stack = s }) g k e n
  with_stack_back f g (Err rule) k e n = absurd (cc)

  element_back : (f g : Types) (r : Result VType ℕ) (k : ℕ) → with_element f r ≡ Ok g → IsNumber g.locals k → IsNumber f.locals k
  element_back f g (Ok t) k e n = locals_were (record f { stack = t ∷ drop 2 f.stack }) g k e n
  element_back f g (Err rule) k e n = absurd (cc)

  -- what a store leaves of another local, and of its own where no number is stored
  store_back : (o : Operand) (j : ℕ) (s : List VType) (f g : Types) (k : ℕ) → store p m o j s f ≡ Ok g → eqb j k ≡ false → IsNumber g.locals k → IsNumber f.locals k
  store_back o j [] f g k e other n = absurd (cc)
  store_back o j (t ∷ s) f g k e other n =
      let one = passed 5 _ _ g e in
      let two = passed 6 _ _ g one.1 in
      stored_back f.locals j k t other (locals_were (record f { locals = stored f.locals j t; stack = s }) g k two.1 n)

  no_number : (t : VType) → meets p AReference t ≡ true → is_number t ≡ false
  unfolding meets
  no_number Top e = refl
  no_number Int e = absurd (true≢false (sym e))
  no_number Long e = absurd (true≢false (sym e))
  no_number Null e = refl
  no_number UninitThis e = refl
  no_number (Uninit at) e = refl
  no_number (Object ty) e = refl

  reference_stored : (k : ℕ) (s : List VType) (f g : Types) → store p m AReference k s f ≡ Ok g → IsNumber g.locals k → ⊥
  reference_stored k [] f g e n = absurd (cc)
  reference_stored k (t ∷ s) f g e n =
      let one = passed 5 _ _ g e in
      let two = passed 6 _ _ g one.1 in
      stored_here f.locals k t (no_number t one.0) (locals_were (record f { locals = stored f.locals k t; stack = s }) g k two.1 n)

  constructed_back : (class : ClassId) (gives : List VType) (after : List Further) (s : List VType) (f g : Types) (k : ℕ) → constructed p m class gives after s f ≡ Ok g → IsNumber g.locals k → IsNumber f.locals k
  constructed_back class gives after (UninitThis ∷ s) f g k e n =
      let one = passed 10 _ _ g e in
      replaced_back UninitThis (class_vtype m.owner) f.locals k refl (locals_were _ g k (past p after f.stack _ g one.1) n)
  constructed_back class gives after (Uninit at ∷ s) f g k e n =
      let one = passed 10 _ _ g e in
      replaced_back (Uninit at) (class_vtype class) f.locals k refl (locals_were _ g k (past p after f.stack _ g one.1) n)
  constructed_back class gives after [] f g k e n = absurd (cc)
  constructed_back class gives after (Top ∷ s) f g k e n = absurd (cc)
  constructed_back class gives after (Int ∷ s) f g k e n = absurd (cc)
  constructed_back class gives after (Long ∷ s) f g k e n = absurd (cc)
  constructed_back class gives after (Null ∷ s) f g k e n = absurd (cc)
  constructed_back class gives after (Object ty ∷ s) f g k e n = absurd (cc)

  by_row_back : (at : ℕ) (r : Row) (f g : Types) (k : ℕ) → by_row p m at r f ≡ Ok g → row_stores r ≡ false → IsNumber g.locals k → IsNumber f.locals k
  by_row_back at (Takes takes gives also) f g k e w n =
      let one = passed 3 _ _ g e in
      let two = passed 4 _ _ g one.1 in
      let three = passed 5 _ _ g two.1 in
      locals_were _ g k (past p also f.stack _ g three.1) n
  by_row_back at Element f g k e w n =
      let one = passed 3 _ _ g e in
      let two = passed 4 _ _ g one.1 in
      let three = passed 5 _ _ g two.1 in
      element_back f g (element f.stack) k three.1 n
  by_row_back at (Shuffles form) f g k e w n =
      let one = passed 3 _ _ g e in
      let two = passed 4 _ _ g one.1 in
      with_stack_back f g (shuffled form f.stack) k two.1 n
  by_row_back at (Loads o j) f g k e w n =
      let one = passed 4 _ _ g e in
      let two = passed 6 _ _ g one.1 in
      locals_were _ g k two.1 n
  by_row_back at (Stores o j) f g k e w n = absurd (true≢false w)
  by_row_back at (Adds j) f g k e w n = locals_were f g k (passed 6 _ _ g e).1 n
  by_row_back at (Makes may) f g k e w n =
      let one = passed 4 _ _ g e in
      let two = passed 10 _ _ g one.1 in
      let three = passed 13 _ _ g two.1 in
      replaced_back (Uninit at) Top f.locals k refl (locals_were _ g k three.1 n)
  by_row_back at (Constructs takes gives class before after) f g k e w n =
      let one = passed 3 _ _ g e in
      let two = passed 4 _ _ g one.1 in
      let three = passed 5 _ _ g two.1 in
      constructed_back class gives after (drop (length takes) f.stack) f g k (past p before f.stack _ g three.1) n
  by_row_back at (Leaves takes also) f g k e w n =
      let one = passed 3 _ _ g e in
      let two = passed 5 _ _ g one.1 in
      let three = passed 11 _ _ g (past p also f.stack _ g two.1) in
      locals_were _ g k three.1 n

  abbrev AreNamed : Graph → Types → Type 0
  AreNamed g f = (k n : ℕ) → slot g.locals k ≡ Some n → is_number (peek f.locals k) ≡ false

  kept_false : (a b : Bool) → (b ≡ true → a ≡ true) → a ≡ false → b ≡ false
  kept_false a true up e = absurd (true≢false (sym (up refl) ∙ e))
  kept_false a false up e = refl

  -- After an instruction, too, what names a node is no number. Which types the rules see is no matter.
  pub named_no_number : (at : ℕ) (i : Instr) (g : Graph) (seen f left : Types) → type_step p m at i f ≡ Ok left → AreNamed g f → AreNamed (deed p m g seen i).graph left
  unfolding deed row
  named_no_number at (Istore j) g seen f left e are k n is = elim (both_ways (eqb j k)) [
    | inl it ↦ absurd (none_some n (sym (this_slot g.locals k None) ∙ subst (λ (z : ℕ). slot (with_slot g.locals z None) k ≡ Some n) (eqb-true j k it) is))
    | inr other ↦ kept_false _ _ (store_back (Is Int) j f.stack f left k e other) (are k n (sym (other_slot g.locals j k None (apart j k other)) ∙ is))
  ]
    where
      none_some : (z : ℕ) → None ≡ Some z → ⊥
      none_some z w = cc
  named_no_number at (Astore j) g seen f left e are k n is = elim (both_ways (eqb j k)) [
    | inl it ↦ kept_false false _ (λ w. absurd (reference_stored k f.stack f left (subst (λ (z : ℕ). store p m AReference z f.stack f ≡ Ok left) (eqb-true j k it) e) w)) refl
    | inr other ↦ kept_false _ _ (store_back AReference j f.stack f left k e other) (are k n (sym (other_slot g.locals j k (slot g.stack 0) (apart j k other)) ∙ is))
  ]
  named_no_number at (Lstore j) g seen f left e are k n is = elim (both_ways (eqb (suc j) k)) [
    | inl it ↦ absurd (none_some n (sym (this_slot (with_slot g.locals j None) k None) ∙ subst (λ (z : ℕ). slot (with_slot (with_slot g.locals j None) z None) k ≡ Some n) (eqb-true (suc j) k it) is))
    | inr far ↦ elim (both_ways (eqb j k)) [
      | inl it ↦ absurd (none_some n (sym (this_slot g.locals k None) ∙ subst (λ (z : ℕ). slot (with_slot g.locals z None) k ≡ Some n) (eqb-true j k it) (sym (other_slot (with_slot g.locals j None) (suc j) k None (apart (suc j) k far)) ∙ is)))
      | inr other ↦ kept_false _ _ (store_back (Is Long) j f.stack f left k e other)
          (are k n (sym (other_slot g.locals j k None (apart j k other)) ∙ (sym (other_slot (with_slot g.locals j None) (suc j) k None (apart (suc j) k far)) ∙ is)))
    ]
  ]
    where
      none_some : (z : ℕ) → None ≡ Some z → ⊥
      none_some z w = cc
  named_no_number at i g seen f left e are k n is = kept_false _ _ (by_row_back at (row p m i) f left k e (no_store p m i refl)) (are k n (ap (λ ls. slot ls k) (sym (locals_stay p m g seen i refl)) ∙ is))

-- ---- where an instruction raises

call_raises_locals : (p : Program) (g : Graph) (ts : List VType) (o : Option Method) → (call_raises p g ts o).graph.locals ≡ g.locals
call_raises_locals p g ts None = refl
call_raises_locals p g ts (Some callee) = arguments_locals (arguments p (all_passed callee g ts)) g

pub raised_locals : (p : Program) (g : Graph) (f : Types) (i : Instr) → (raised_deed p g f i).graph.locals ≡ g.locals
unfolding raised_deed
raised_locals p g f (Invokevirtual id) = call_raises_locals p g f.stack (method_at p id)
raised_locals p g f (Invokespecial id) = call_raises_locals p g f.stack (method_at p id)
raised_locals p g f (Invokestatic id) = call_raises_locals p g f.stack (method_at p id)
raised_locals p g f i = refl
