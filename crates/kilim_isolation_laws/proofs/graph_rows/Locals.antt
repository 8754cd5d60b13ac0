-- Rows that load and store locals.
use Rattle.std.proofs.Common.{◌≡◌, ℕ, zero, suc, ℤ, ◌+◌, Bool, true, false, true≢false, ◌&&◌, List, [], ◌∷◌, length, Option, Some, None, Ok, refl, sym, ap, subst, ◌∙◌, ◌⊎◌, inl, inr, arith}
use Rattle.std.specs.Prelude.{drop, slice_get, slice_set, nat_lt, nat_le}
use Rattle.kilim_program.specs.declared.instr.Instr.TheVariants as instr
use Rattle.kilim_program.specs.declared.verified.VType.TheVariants as vtype
use Rattle.kilim_type_spec.specs.Step as type
use Rattle.kilim_program.specs.declared.class.Method.{Method}
use Rattle.kilim_program.specs.declared.instr.Instr.{Instr}
use Rattle.kilim_program.specs.declared.value.Value.{Value}
use Rattle.kilim_program.specs.declared.value.Value.TheVariants.{Int, Long}
use Rattle.kilim_program.specs.declared.verified.VType.{VType}
use Rattle.kilim_program.specs.Program.{Program}
use Rattle.kilim_run_state.specs.Machine.{Objects}
use Rattle.kilim_program.specs.Lengths.{jump_targets, ends_path}
use Rattle.kilim_run_machine.specs.Effect.{Effect}
use Rattle.kilim_run_machine.specs.Does.{does}
use Rattle.kilim_type_spec.specs.Step.{Types, peek, poke, stored, with_half, split_long, split_at, assignable, Operand, Is, AReference, meets, store, loaded, by_row, row, type_step}
use Rattle.kilim_isolation_laws.specs.forest.Relation.{Named}
use Rattle.kilim_isolation_graph.specs.declared.graph.Graph.{Graph}
use Rattle.kilim_isolation_graph.specs.Graphs.{slot, with_slot, push}
use Rattle.kilim_isolation_rules.specs.Rules.{deed}
use Rattle.kilim_isolation_laws.specs.graph_rows.Holds.{Sort, Word, sort, Fits, unnamed, SlotFits, AreSlots, named_by, value_at, Waiting, Holds, Stands}
use Rattle.kilim_isolation_laws.specs.graph_rows.Outcome.{Left}
use Rattle.kilim_isolation_laws.proofs.graph_rows.Settle.{and_right, any_slot}
use Rattle.kilim_isolation_laws.proofs.graph_rows.Passed.{rule_passed, ok_is, moves_passed}
use Rattle.kilim_isolation_laws.proofs.graph_rows.Words.{some_h, int_h, long_h, reference_h, on_int_h, on_long_h, on_reference_h}
use Rattle.kilim_isolation_laws.proofs.graph_rows.Plain.{IsStep, E, moved}

pub value_get : (vs : List Value) (k : ℕ) (v : Value) → slice_get vs k ≡ Some v → value_at vs k ≡ v
value_get [] k v e = absurd (cc)
value_get (x ∷ vs) zero v e = cc
value_get (x ∷ vs) (suc k) v e = value_get vs k v e

-- ---- lists by slots

peek_poke : (ls : List VType) (k : ℕ) (t : VType) (j : ℕ) → ((j ≡ k) × (peek (poke ls k t) j ≡ t)) ⊎ ((j ≡ k → ⊥) × (peek (poke ls k t) j ≡ peek ls j))
peek_poke [] zero t zero = inl (refl, refl)
peek_poke [] zero t (suc j) = inr ((λ e. absurd (omega arith)), refl)
peek_poke [] (suc k) t zero = inr ((λ e. absurd (omega arith)), refl)
peek_poke [] (suc k) t (suc j) = elim (peek_poke [] k t j) [ inl w ↦ inl (ap suc w.0, w.1) | inr w ↦ inr ((λ e. w.0 (omega arith)), w.1) ]
peek_poke (x ∷ ls) zero t zero = inl (refl, refl)
peek_poke (x ∷ ls) zero t (suc j) = inr ((λ e. absurd (omega arith)), refl)
peek_poke (x ∷ ls) (suc k) t zero = inr ((λ e. absurd (omega arith)), refl)
peek_poke (x ∷ ls) (suc k) t (suc j) = elim (peek_poke ls k t j) [ inl w ↦ inl (ap suc w.0, w.1) | inr w ↦ inr ((λ e. w.0 (omega arith)), w.1) ]

slot_with : (xs : List (Option ℕ)) (k : ℕ) (x : Option ℕ) (j : ℕ) → ((j ≡ k) × (slot (with_slot xs k x) j ≡ x)) ⊎ ((j ≡ k → ⊥) × (slot (with_slot xs k x) j ≡ slot xs j))
slot_with [] zero x zero = inl (refl, refl)
slot_with [] zero x (suc j) = inr ((λ e. absurd (omega arith)), refl)
slot_with [] (suc k) x zero = inr ((λ e. absurd (omega arith)), refl)
slot_with [] (suc k) x (suc j) = elim (slot_with [] k x j) [ inl w ↦ inl (ap suc w.0, w.1) | inr w ↦ inr ((λ e. w.0 (omega arith)), w.1) ]
slot_with (y ∷ xs) zero x zero = inl (refl, refl)
slot_with (y ∷ xs) zero x (suc j) = inr ((λ e. absurd (omega arith)), refl)
slot_with (y ∷ xs) (suc k) x zero = inr ((λ e. absurd (omega arith)), refl)
slot_with (y ∷ xs) (suc k) x (suc j) = elim (slot_with xs k x j) [ inl w ↦ inl (ap suc w.0, w.1) | inr w ↦ inr ((λ e. w.0 (omega arith)), w.1) ]

pub value_set : (vs : List Value) (k : ℕ) (old v : Value) → slice_get vs k ≡ Some old → (j : ℕ) → ((j ≡ k) × (value_at (slice_set vs k v) j ≡ v)) ⊎ ((j ≡ k → ⊥) × (value_at (slice_set vs k v) j ≡ value_at vs j))
value_set [] k old v e j = absurd (cc)
value_set (y ∷ vs) zero old v e zero = inl (refl, refl)
value_set (y ∷ vs) zero old v e (suc j) = inr ((λ w. absurd (omega arith)), refl)
value_set (y ∷ vs) (suc k) old v e zero = inr ((λ w. absurd (omega arith)), refl)
value_set (y ∷ vs) (suc k) old v e (suc j) = elim (value_set vs k old v e j) [ inl w ↦ inl (ap suc w.0, w.1) | inr w ↦ inr ((λ x. w.0 (omega arith)), w.1) ]

-- a place of the locals after a store: Top, what was stored, or as before
abbrev IsStored : List VType → ℕ → VType → ℕ → VType → Type 0
IsStored ls k t j x = (x ≡ vtype.Top) ⊎ (((j ≡ k) × (x ≡ t)) ⊎ ((j ≡ k → ⊥) × (x ≡ peek ls j)))

split_peek : (ls : List VType) (k j : ℕ) → (peek (split_long ls k) j ≡ vtype.Top) ⊎ (peek (split_long ls k) j ≡ peek ls j)
split_peek ls zero j = inr refl
split_peek ls (suc k) j = by (type.is_long (peek ls k))
  where
    by : (b : Bool) → (peek (split_at b ls k) j ≡ vtype.Top) ⊎ (peek (split_at b ls k) j ≡ peek ls j)
    by false = inr refl
    by true = elim (peek_poke ls k vtype.Top j) [ inl w ↦ inl w.1 | inr w ↦ inr w.1 ]

half_peek : (t : VType) (ls : List VType) (k j : ℕ) → (peek (with_half t ls k) j ≡ vtype.Top) ⊎ (peek (with_half t ls k) j ≡ peek ls j)
half_peek vtype.Long ls k j = elim (peek_poke ls (suc k) vtype.Top j) [ inl w ↦ inl w.1 | inr w ↦ inr w.1 ]
half_peek vtype.Top ls k j = inr refl
half_peek vtype.Int ls k j = inr refl
half_peek vtype.Null ls k j = inr refl
half_peek vtype.UninitThis ls k j = inr refl
half_peek (vtype.Uninit at) ls k j = inr refl
half_peek (vtype.Object ty) ls k j = inr refl

stored_peek : (ls : List VType) (k : ℕ) (t : VType) (j : ℕ) → IsStored ls k t j (peek (stored ls k t) j)
stored_peek ls k t j = elim (half_peek t (poke (split_long ls k) k t) k j) [
  | inl e ↦ inl e
  | inr e ↦ elim (peek_poke (split_long ls k) k t j) [
    | inl w ↦ inr (inl (w.0, e ∙ w.1))
    | inr w ↦ elim (split_peek ls k j) [ inl x ↦ inl (e ∙ w.1 ∙ x) | inr x ↦ inr (inr (w.0, e ∙ w.1 ∙ x)) ]
  ]
]

pub loads_passed : (p : Program) (m : Method) (at : ℕ) (o : Operand) (k : ℕ) (f f1 : Types) → by_row p m at (type.Loads o k) f ≡ Ok f1 → (meets p o (peek f.locals k) ≡ true) × (f1 ≡ record f { stack = peek f.locals k ∷ f.stack })
loads_passed p m at o k f f1 e =
    let a = rule_passed 4 (type.has_room m (type.pushed o ∷ f.stack)) _ f1 e in
    let b = rule_passed 6 (nat_lt k m.max_locals && meets p o (peek f.locals k)) _ f1 a.1 in
    (and_right (nat_lt k m.max_locals) (meets p o (peek f.locals k)) b.0, ok_is (record f { stack = peek f.locals k ∷ f.stack }) f1 b.1)

stores_passed : (p : Program) (m : Method) (o : Operand) (k : ℕ) (ts : List VType) (f f1 : Types) → store p m o k ts f ≡ Ok f1 →
    (t : VType) × (rest : List VType) × (ts ≡ t ∷ rest) × (meets p o t ≡ true) × (f1 ≡ record f { locals = stored f.locals k t; stack = rest })
stores_passed p m o k [] f f1 e = absurd (cc)
stores_passed p m o k (t ∷ rest) f f1 e =
    let a = rule_passed 5 (meets p o t) _ f1 e in
    let b = rule_passed 6 (nat_le (k + type.size t) m.max_locals) _ f1 a.1 in
    (t, rest, refl, a.0, ok_is (record f { locals = stored f.locals k t; stack = rest }) f1 b.1)

pub int_word : (p : Program) (m : Method) (t : VType) → assignable p t vtype.Int ≡ true → sort p m t ≡ Word
unfolding sort
int_word p m vtype.Int e = refl
int_word p m vtype.Top e = absurd (true≢false (sym e))
int_word p m vtype.Long e = absurd (true≢false (sym e))
int_word p m vtype.Null e = absurd (true≢false (sym e))
int_word p m vtype.UninitThis e = absurd (true≢false (sym e))
int_word p m (vtype.Uninit at) e = absurd (true≢false (sym e))
int_word p m (vtype.Object ty) e = absurd (true≢false (sym e))

pub long_is : (p : Program) (t : VType) → assignable p t vtype.Long ≡ true → t ≡ vtype.Long
long_is p vtype.Long e = refl
long_is p vtype.Int e = absurd (true≢false (sym e))
long_is p vtype.Top e = absurd (true≢false (sym e))
long_is p vtype.Null e = absurd (true≢false (sym e))
long_is p vtype.UninitThis e = absurd (true≢false (sym e))
long_is p (vtype.Uninit at) e = absurd (true≢false (sym e))
long_is p (vtype.Object ty) e = absurd (true≢false (sym e))

module _ (p : Program) (m : Method) (h : Objects) (u : Named) (count : ℕ) where
  top_slot : (s : Sort) (x : Option ℕ) (v : Value) → SlotFits p h u count s x v → SlotFits p h u count (sort p m vtype.Top) x v
  unfolding sort
  top_slot s x v f = any_slot p h u count s x v f

  local_stored : (ts : List VType) (xs : List (Option ℕ)) (vs : List Value) → ((j : ℕ) → SlotFits p h u count (sort p m (peek ts j)) (slot xs j) (value_at vs j)) → (k : ℕ) (t : VType) (x : Option ℕ) (old v : Value) →
      slice_get vs k ≡ Some old → SlotFits p h u count (sort p m t) x v → (j : ℕ) → SlotFits p h u count (sort p m (peek (stored ts k t) j)) (slot (with_slot xs k x) j) (value_at (slice_set vs k v) j)
  local_stored ts xs vs before k t x old v there s j = by (peek (stored ts k t) j) (stored_peek ts k t j) (slot_with xs k x j) (value_set vs k old v there j)
    where
      by : (y : VType) → IsStored ts k t j y → ((j ≡ k) × (slot (with_slot xs k x) j ≡ x)) ⊎ ((j ≡ k → ⊥) × (slot (with_slot xs k x) j ≡ slot xs j)) →
          ((j ≡ k) × (value_at (slice_set vs k v) j ≡ v)) ⊎ ((j ≡ k → ⊥) × (value_at (slice_set vs k v) j ≡ value_at vs j)) → SlotFits p h u count (sort p m y) (slot (with_slot xs k x) j) (value_at (slice_set vs k v) j)
      by y w (inl a) (inr b) = absurd (b.0 a.0)
      by y w (inr a) (inl b) = absurd (a.0 b.0)
      by y (inl e) (inl a) (inl b) = subst (λ z. SlotFits p h u count (sort p m z) (slot (with_slot xs k x) j) (value_at (slice_set vs k v) j)) (sym e)
          (top_slot (sort p m t) (slot (with_slot xs k x) j) (value_at (slice_set vs k v) j) (subst (λ z. SlotFits p h u count (sort p m t) z (value_at (slice_set vs k v) j)) (sym a.1) (subst (SlotFits p h u count (sort p m t) x) (sym b.1) s)))
      by y (inl e) (inr a) (inr b) = subst (λ z. SlotFits p h u count (sort p m z) (slot (with_slot xs k x) j) (value_at (slice_set vs k v) j)) (sym e)
          (top_slot (sort p m (peek ts j)) (slot (with_slot xs k x) j) (value_at (slice_set vs k v) j) (subst (λ z. SlotFits p h u count (sort p m (peek ts j)) z (value_at (slice_set vs k v) j)) (sym a.1) (subst (SlotFits p h u count (sort p m (peek ts j)) (slot xs j)) (sym b.1) (before j))))
      by y (inr (inl w)) (inl a) (inl b) = subst (λ z. SlotFits p h u count (sort p m z) (slot (with_slot xs k x) j) (value_at (slice_set vs k v) j)) (sym w.1)
          (subst (λ z. SlotFits p h u count (sort p m t) z (value_at (slice_set vs k v) j)) (sym a.1) (subst (SlotFits p h u count (sort p m t) x) (sym b.1) s))
      by y (inr (inl w)) (inr a) (inr b) = absurd (a.0 w.0)
      by y (inr (inr w)) (inl a) (inl b) = absurd (w.0 a.0)
      by y (inr (inr w)) (inr a) (inr b) = subst (λ z. SlotFits p h u count (sort p m z) (slot (with_slot xs k x) j) (value_at (slice_set vs k v) j)) (sym w.1)
          (subst (λ z. SlotFits p h u count (sort p m (peek ts j)) z (value_at (slice_set vs k v) j)) (sym a.1) (subst (SlotFits p h u count (sort p m (peek ts j)) (slot xs j)) (sym b.1) (before j)))

module _ (p : Program) (m : Method) (pl to : ℕ) (f f1 : Types) (g g1 : Graph) (at : ℕ → Option ℕ) (h : Objects) (ls st : List Value) (below : List Waiting) (after : Option Types) where
  abbrev EI : Instr → Effect → Type 0
  EI i e = E p m pl to f f1 g g1 at h ls st below after i e

  abbrev Step : Instr → Type 0
  Step i = IsStep p m pl to f f1 g g1 at h ls st below after i

  abbrev Slot : VType → Option ℕ → Value → Type 0
  Slot t x v = SlotFits p h (named_by g at) (length g.nodes) (sort p m t) x v

  load_left : (i : Instr) → Step i → (o : Operand) (k : ℕ) → row p m i ≡ type.Loads o k → (x : Option ℕ) → (deed p m g f i).graph ≡ push x g → (v : Value) → (meets p o (peek f.locals k) ≡ true → Slot (peek f.locals k) x v) →
      Left p m f1 g1 h ls (v ∷ st) below
  load_left i s o k is x graph v fits =
      let t = loads_passed p m pl o k f f1 (subst (λ z. by_row p m pl z f ≡ Ok f1) is s.1) in
      let q = moves_passed p m g f i after g1 s.2 in (
        at,
        subst (λ z. Holds p m z g1 at h ls (v ∷ st) below) (sym t.1) (subst (λ z. Holds p m (record f { stack = peek f.locals k ∷ f.stack }) z at h ls (v ∷ st) below) (sym (q.graph ∙ graph))
            (moved p m f (record f { stack = peek f.locals k ∷ f.stack }) g g.locals (x ∷ g.stack) at h ls st ls (v ∷ st) below s.0.holds (record { on_stack = (fits t.0, s.0.holds.slots.on_stack); in_locals = s.0.holds.slots.in_locals }))),
      )

  local_here : Stands p m f g at h ls st below → (k : ℕ) (v : Value) → slice_get ls k ≡ Some v → Slot (peek f.locals k) (slot g.locals k) v
  local_here hd k v e = subst (SlotFits p h (named_by g at) (length g.nodes) (sort p m (peek f.locals k)) (slot g.locals k)) (value_get ls k v e) (hd.holds.slots.in_locals k)

  pub aload_h : (k : ℕ) → Step (instr.Aload k) → EI (instr.Aload k) (does p m (instr.Aload k) to ls st h)
  unfolding does row deed ends_path jump_targets
  aload_h k s = some_h (EI (instr.Aload k)) tt (λ c. tt) (λ c. tt) (slice_get ls k) _ (λ v e. reference_h (EI (instr.Aload k)) tt (λ c. tt) (λ c. tt) v _ (λ narrow.
      (inl refl, load_left (instr.Aload k) s AReference k refl (slot g.locals k) refl v (λ _. local_here s.0 k v e))))

  int_slot : (t : VType) (x : ℤ) → assignable p t vtype.Int ≡ true → Slot t None (Int x)
  int_slot t x e = subst (λ z. Fits p h (unnamed z) (Int x)) (sym (int_word p m t e)) (refl, refl)

  long_slot : (t : VType) (x : ℤ) → assignable p t vtype.Long ≡ true → Slot t None (Long x)
  unfolding sort
  long_slot t x e = subst (λ z. Fits p h (unnamed (sort p m z)) (Long x)) (sym (long_is p t e)) refl

  pub iload_h : (k : ℕ) → Step (instr.Iload k) → EI (instr.Iload k) (does p m (instr.Iload k) to ls st h)
  unfolding does row deed ends_path jump_targets meets
  iload_h k s = some_h (EI (instr.Iload k)) tt (λ c. tt) (λ c. tt) (slice_get ls k) _ (λ v e. int_h (EI (instr.Iload k)) tt (λ c. tt) (λ c. tt) v _ (λ x is.
      (inl refl, load_left (instr.Iload k) s (Is vtype.Int) k refl None refl (Int x) (λ w. int_slot (peek f.locals k) x w))))

  pub lload_h : (k : ℕ) → Step (instr.Lload k) → EI (instr.Lload k) (does p m (instr.Lload k) to ls st h)
  unfolding does row deed ends_path jump_targets meets
  lload_h k s = some_h (EI (instr.Lload k)) tt (λ c. tt) (λ c. tt) (slice_get ls k) _ (λ v e. long_h (EI (instr.Lload k)) tt (λ c. tt) (λ c. tt) v _ (λ x is.
      (inl refl, load_left (instr.Lload k) s (Is vtype.Long) k refl None refl (Long x) (λ w. long_slot (peek f.locals k) x w))))

  -- a store, with the types and names of the stack
  module _ (s : Stands p m f g at h ls st below) (k : ℕ) (v old : Value) (rest : List Value) (e : st ≡ v ∷ rest) (there : slice_get ls k ≡ Some old) where
    tops : (t : VType) (ts : List VType) → f.stack ≡ t ∷ ts → Slot t (slot g.stack 0) v × AreSlots p m h (named_by g at) (length g.nodes) ts (drop 1 g.stack) rest
    tops t ts is = by g.stack (subst (λ z. AreSlots p m h (named_by g at) (length g.nodes) f.stack g.stack z) e s.holds.slots.on_stack)
      where
        by : (xs : List (Option ℕ)) → AreSlots p m h (named_by g at) (length g.nodes) f.stack xs (v ∷ rest) → Slot t (slot xs 0) v × AreSlots p m h (named_by g at) (length g.nodes) ts (drop 1 xs) rest
        by [] w = absurd (subst (λ z. AreSlots p m h (named_by g at) (length g.nodes) z [] (v ∷ rest)) is w)
        by (x ∷ xs) w = subst (λ z. AreSlots p m h (named_by g at) (length g.nodes) z (x ∷ xs) (v ∷ rest)) is w

    store_holds : (t : VType) (ts : List VType) → f.stack ≡ t ∷ ts → (x : Option ℕ) → Slot t x v →
        Holds p m (record f { locals = stored f.locals k t; stack = ts }) (record g { locals = with_slot g.locals k x; stack = drop 1 g.stack }) at h (slice_set ls k v) rest below
    store_holds t ts is x fits = moved p m f (record f { locals = stored f.locals k t; stack = ts }) g (with_slot g.locals k x) (drop 1 g.stack) at h ls st (slice_set ls k v) rest below s.holds (record {
      on_stack = (tops t ts is).1;
      in_locals = local_stored p m h (named_by g at) (length g.nodes) f.locals g.locals ls s.holds.slots.in_locals k t x old v there fits;
    })

  store_left : (i : Instr) (s : Step i) (o : Operand) (k : ℕ) → row p m i ≡ type.Stores o k → (v old : Value) (rest : List Value) → st ≡ v ∷ rest → slice_get ls k ≡ Some old → (x : Option ℕ) →
      (deed p m g f i).graph ≡ record g { locals = with_slot g.locals k x; stack = drop 1 g.stack } → ((t : VType) (ts : List VType) → f.stack ≡ t ∷ ts → meets p o t ≡ true → Slot t x v) → Left p m f1 g1 h (slice_set ls k v) rest below
  store_left i s o k is v old rest e there x graph fits =
      let t = stores_passed p m o k f.stack f f1 (subst (λ z. by_row p m pl z f ≡ Ok f1) is s.1) in
      let q = moves_passed p m g f i after g1 s.2 in (
        at,
        subst (λ z. Holds p m z g1 at h (slice_set ls k v) rest below) (sym t.4) (subst (λ z. Holds p m (record f { locals = stored f.locals k t.0; stack = t.1 }) z at h (slice_set ls k v) rest below) (sym (q.graph ∙ graph))
            (store_holds s.0 k v old rest e there t.0 t.1 t.2 x (fits t.0 t.1 t.2 t.3))),
      )

  pub astore_h : (k : ℕ) → Step (instr.Astore k) → EI (instr.Astore k) (does p m (instr.Astore k) to ls st h)
  unfolding does row deed ends_path jump_targets
  astore_h k s = on_reference_h (EI (instr.Astore k)) tt (λ c. tt) (λ c. tt) st _ (λ v rest e narrow. some_h (EI (instr.Astore k)) tt (λ c. tt) (λ c. tt) (slice_get ls k) _ (λ old there.
      (inl refl, store_left (instr.Astore k) s AReference k refl v old rest e there (slot g.stack 0) refl (λ t ts is _. (tops s.0 k v old rest e there t ts is).0))))

  pub istore_h : (k : ℕ) → Step (instr.Istore k) → EI (instr.Istore k) (does p m (instr.Istore k) to ls st h)
  unfolding does row deed ends_path jump_targets meets
  istore_h k s = on_int_h (EI (instr.Istore k)) tt (λ c. tt) (λ c. tt) st _ (λ x rest e. some_h (EI (instr.Istore k)) tt (λ c. tt) (λ c. tt) (slice_get ls k) _ (λ old there.
      (inl refl, store_left (instr.Istore k) s (Is vtype.Int) k refl (Int x) old rest e there None refl (λ t ts is w. int_slot t x w))))

  -- a long fills a second slot, which names nothing
  half_slot : (j k : ℕ) (ts : List VType) (vs : List Value) → ((i : ℕ) → SlotFits p h (named_by g at) (length g.nodes) (sort p m (peek (stored ts k vtype.Long) i)) (slot (with_slot g.locals k None) i) (value_at vs i)) →
      SlotFits p h (named_by g at) (length g.nodes) (sort p m (peek (stored ts k vtype.Long) j)) (slot (with_slot (with_slot g.locals k None) (suc k) None) j) (value_at vs j)
  unfolding sort
  half_slot j k ts vs before = elim (slot_with (with_slot g.locals k None) (suc k) None j) [
    | inl w ↦ subst (λ x. SlotFits p h (named_by g at) (length g.nodes) (sort p m (peek (stored ts k vtype.Long) j)) x (value_at vs j)) (sym w.1)
        (subst (λ t. SlotFits p h (named_by g at) (length g.nodes) (sort p m t) None (value_at vs j)) (sym (top_there w.0)) tt)
    | inr w ↦ subst (λ x. SlotFits p h (named_by g at) (length g.nodes) (sort p m (peek (stored ts k vtype.Long) j)) x (value_at vs j)) (sym w.1) (before j)
  ]
    where
      top_there : j ≡ suc k → peek (stored ts k vtype.Long) j ≡ vtype.Top
      top_there e = elim (peek_poke (poke (split_long ts k) k vtype.Long) (suc k) vtype.Top j) [ inl w ↦ w.1 | inr w ↦ absurd (w.0 e) ]

  pub lstore_h : (k : ℕ) → Step (instr.Lstore k) → EI (instr.Lstore k) (does p m (instr.Lstore k) to ls st h)
  unfolding does row deed ends_path jump_targets meets
  lstore_h k s = on_long_h (EI (instr.Lstore k)) tt (λ c. tt) (λ c. tt) st _ (λ x rest e. some_h (EI (instr.Lstore k)) tt (λ c. tt) (λ c. tt) (slice_get ls k) _ (λ old there. (inl refl, left x rest e old there)))
    where
      left : (x : ℤ) (rest : List Value) → st ≡ Long x ∷ rest → (old : Value) → slice_get ls k ≡ Some old → Left p m f1 g1 h (slice_set ls k (Long x)) rest below
      left x rest e old there =
          let t = stores_passed p m (Is vtype.Long) k f.stack f f1 s.1 in
          let q = moves_passed p m g f (instr.Lstore k) after g1 s.2 in
          let is_long = long_is p t.0 t.3 in
          let stack_is : f.stack ≡ vtype.Long ∷ t.1 = t.2 ∙ ap (λ z. z ∷ t.1) is_long in
          let kept = store_holds s.0 k (Long x) old rest e there vtype.Long t.1 stack_is None (long_slot vtype.Long x refl) in (
            at,
            subst (λ z. Holds p m z g1 at h (slice_set ls k (Long x)) rest below) (sym (t.4 ∙ ap (λ z. record f { locals = stored f.locals k z; stack = t.1 }) is_long))
                (subst (λ z. Holds p m (record f { locals = stored f.locals k vtype.Long; stack = t.1 }) z at h (slice_set ls k (Long x)) rest below) (sym q.graph)
                (record {
                  heap = kept.heap;
                  forest = kept.forest;
                  frames = kept.frames;
                  tidy = kept.tidy;
                  waits = kept.waits;
                  slots = record { on_stack = kept.slots.on_stack; in_locals = λ j. half_slot j k f.locals (slice_set ls k (Long x)) kept.slots.in_locals };
                })),
          )
