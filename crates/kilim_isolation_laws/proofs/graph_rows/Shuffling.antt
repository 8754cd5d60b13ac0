-- pop, dup, dup_x1 and swap.
use Rattle.std.proofs.Common.{◌≡◌, ℕ, true, false, true≢false, List, [], ◌∷◌, ◌++◌, length, Option, Some, None, Result, Ok, refl, sym, ap, subst, ◌∙◌, ◌⊎◌, inl, inr}
use Rattle.std.specs.List.{list_any}
use Rattle.std.specs.Prelude.{drop, nat_le}
use Rattle.kilim_program.specs.declared.instr.Instr.TheVariants as instr
use Rattle.kilim_program.specs.declared.verified.VType.TheVariants as vtype
use Rattle.kilim_type_spec.specs.Step as type
use Rattle.kilim_program.specs.declared.class.Method.{Method}
use Rattle.kilim_program.specs.declared.instr.Instr.{Instr}
use Rattle.kilim_program.specs.declared.value.Value.{Value}
use Rattle.kilim_program.specs.declared.verified.VType.{VType}
use Rattle.kilim_program.specs.Program.{Program}
use Rattle.kilim_run_state.specs.Machine.{Objects}
use Rattle.kilim_program.specs.Lengths.{jump_targets, ends_path}
use Rattle.kilim_run_machine.specs.Effect.{Effect, is_wide}
use Rattle.kilim_run_machine.specs.Does.{does}
use Rattle.kilim_type_spec.specs.Step.{Types, peek, size, off, above, with_stack, Form, Drops, Copies, Swaps, form_words, words, by_row, row, type_step}
use Rattle.kilim_isolation_laws.specs.forest.Relation.{is_gone}
use Rattle.kilim_isolation_laws.specs.forest.Canonical.{node_at}
use Rattle.kilim_isolation_graph.specs.declared.graph.Graph.{Graph}
use Rattle.kilim_isolation_graph.specs.Graphs.{slot}
use Rattle.kilim_isolation_rules.specs.Rules.{deed, moves, items, shuffled}
use Rattle.kilim_isolation_rules.specs.Marks.{names_gone}
use Rattle.kilim_isolation_laws.specs.graph_rows.Holds.{sort, SlotFits, AreSlots, named_by, Waiting, Holds, Stands}
use Rattle.kilim_isolation_laws.specs.graph_rows.Outcome.{Left}
use Rattle.kilim_isolation_laws.proofs.graph_rows.Settle.{not_true}
use Rattle.kilim_isolation_laws.proofs.graph_rows.Passed.{rule_passed, ok_is, moves_passed}
use Rattle.kilim_isolation_laws.proofs.graph_rows.Words.{word_h}
use Rattle.kilim_isolation_laws.proofs.graph_rows.Plain.{IsStep, E, moved}
use Rattle.kilim_isolation_laws.proofs.graph_rows.Reading.{slot_lives}

-- a type of one word
pub record IsNarrow (t : VType) : Type 0 where
  pub off_is : (s : List VType) → off 1 (t ∷ s) ≡ Ok (t ∷ [], s)
  pub items_is : (s : List VType) → items 1 (t ∷ s) ≡ 1

narrow_or_long : (t : VType) → IsNarrow t ⊎ (t ≡ vtype.Long)
narrow_or_long vtype.Long = inr refl
narrow_or_long vtype.Top = inl (record { off_is = λ s. refl; items_is = λ s. refl })
narrow_or_long vtype.Int = inl (record { off_is = λ s. refl; items_is = λ s. refl })
narrow_or_long vtype.Null = inl (record { off_is = λ s. refl; items_is = λ s. refl })
narrow_or_long vtype.UninitThis = inl (record { off_is = λ s. refl; items_is = λ s. refl })
narrow_or_long (vtype.Uninit at) = inl (record { off_is = λ s. refl; items_is = λ s. refl })
narrow_or_long (vtype.Object ty) = inl (record { off_is = λ s. refl; items_is = λ s. refl })

with_passed : (f f1 : Types) (r : Result (List VType) ℕ) (s : List VType) → r ≡ Ok s → with_stack f r ≡ Ok f1 → f1 ≡ record f { stack = s }
with_passed f f1 r s is e =
    let w : with_stack f (Ok s) ≡ Ok f1 = ap (with_stack f) (sym is) ∙ e in
    ok_is (record f { stack = s }) f1 w

then_is : {A : Type 0} (r : Result (List VType × List VType) ℕ) (a b : List VType) (go : List VType → List VType → Result A ℕ) → r ≡ Ok (a, b) → type.then_off r go ≡ go a b
then_is r a b go e = ap (λ z. type.then_off z go) e

module _ (p : Program) (m : Method) (pl to : ℕ) (f f1 : Types) (g g1 : Graph) (at : ℕ → Option ℕ) (h : Objects) (ls st : List Value) (below : List Waiting) (after : Option Types) where
  abbrev Slots : List VType → List (Option ℕ) → List Value → Type 0
  Slots ts xs vs = AreSlots p m h (named_by g at) (length g.nodes) ts xs vs

  narrow_slot : (t : VType) (x : Option ℕ) (v : Value) → SlotFits p h (named_by g at) (length g.nodes) (sort p m t) x v → ((n : ℕ) → x ≡ Some n → is_gone (node_at g.nodes n).standing ≡ false) → is_wide v ≡ false → IsNarrow t
  unfolding sort
  narrow_slot t x v s live no_wide = by (narrow_or_long t)
    where
      wide : (y : Option ℕ) → SlotFits p h (named_by g at) (length g.nodes) (sort p m vtype.Long) y v → ((n : ℕ) → y ≡ Some n → is_gone (node_at g.nodes n).standing ≡ false) → is_wide v ≡ true
      wide None f l = f
      wide (Some n) f l = f.2 (l n refl)

      by : IsNarrow t ⊎ (t ≡ vtype.Long) → IsNarrow t
      by (inl w) = w
      by (inr e) = absurd (true≢false (sym (wide x (subst (λ z. SlotFits p h (named_by g at) (length g.nodes) (sort p m z) x v) e s) live) ∙ no_wide))

  -- what the form leaves of types, names and values
  pub shuffle_left : (i : Instr) (form : Form) → IsStep p m pl to f f1 g g1 at h ls st below after i → row p m i ≡ type.Shuffles form → (deed p m g f i).graph ≡ record g { stack = shuffled form f.stack g.stack } → (ts : List VType) (xs : List (Option ℕ)) (vs : List Value) →
      type.shuffled form f.stack ≡ Ok ts → shuffled form f.stack g.stack ≡ xs → Slots ts xs vs → Left p m f1 g1 h ls vs below
  shuffle_left i form s is graph ts xs vs types names slots =
      let a = subst (λ z. by_row p m pl z f ≡ Ok f1) is s.1 in
      let b = rule_passed 3 (nat_le (form_words form) (words f.stack)) _ f1 a in
      let c = rule_passed 4 (type.form_room m form (words f.stack)) _ f1 b.1 in
      let t = with_passed f f1 (type.shuffled form f.stack) ts types c.1 in
      let q = moves_passed p m g f i after g1 s.2 in (
        at,
        subst (λ z. Holds p m z g1 at h ls vs below) (sym t) (subst (λ z. Holds p m (record f { stack = ts }) z at h ls vs below) (sym (q.graph ∙ graph ∙ ap (λ z. record g { stack = z }) names))
            (moved p m f (record f { stack = ts }) g g.locals xs at h ls st ls vs below s.0.holds (record { on_stack = slots; in_locals = s.0.holds.slots.in_locals }))),
      )

  module _ (s : Stands p m f g at h ls st below) where
    lives : (k n : ℕ) → slot g.stack k ≡ Some n → is_gone (node_at g.nodes n).standing ≡ false
    lives k n x = slot_lives g g.stack (not_true (list_any (names_gone g) g.stack) s.live) k n x

    -- the top of the stack
    one : (v : Value) (rest : List Value) → st ≡ v ∷ rest → is_wide v ≡ false → (t : VType) × (ts : List VType) × (x : Option ℕ) × (xs : List (Option ℕ)) × (f.stack ≡ t ∷ ts) × (g.stack ≡ x ∷ xs) × IsNarrow t × Slots (t ∷ ts) (x ∷ xs) (v ∷ rest)
    one v rest e narrow = by f.stack g.stack refl refl (subst (Slots f.stack g.stack) e s.holds.slots.on_stack)
      where
        by : (ts : List VType) (xs : List (Option ℕ)) → f.stack ≡ ts → g.stack ≡ xs → Slots ts xs (v ∷ rest) →
            (t : VType) × (us : List VType) × (x : Option ℕ) × (ys : List (Option ℕ)) × (f.stack ≡ t ∷ us) × (g.stack ≡ x ∷ ys) × IsNarrow t × Slots (t ∷ us) (x ∷ ys) (v ∷ rest)
        by [] [] ef eg q = absurd q
        by [] (x ∷ xs) ef eg q = absurd q
        by (t ∷ ts) [] ef eg q = absurd q
        by (t ∷ ts) (x ∷ xs) ef eg q = (t, ts, x, xs, ef, eg, narrow_slot t x v q.0 (λ n w. lives 0 n (ap (λ z. slot z 0) eg ∙ w)) narrow, q)

  abbrev EI : Instr → Effect → Type 0
  EI i e = E p m pl to f f1 g g1 at h ls st below after i e

  pub pop_h : IsStep p m pl to f f1 g g1 at h ls st below after instr.Pop → EI instr.Pop (does p m instr.Pop to ls st h)
  unfolding does row deed ends_path jump_targets
  pop_h s = word_h (EI instr.Pop) tt (λ c. tt) (λ c. tt) st _ (λ v rest e narrow.
      let w = one s.0 v rest e narrow in (
        inl refl,
        shuffle_left instr.Pop (Drops 1) s refl refl w.1 w.3 rest
            (ap (type.shuffled (Drops 1)) w.4 ∙ then_is (off 1 (w.0 ∷ w.1)) (w.0 ∷ []) w.1 (λ a b. Ok b) (w.6.off_is w.1))
            (ap (λ z. shuffled (Drops 1) z g.stack) w.4 ∙ ap (shuffled (Drops 1) (w.0 ∷ w.1)) w.5 ∙ ap (λ k. drop k (w.2 ∷ w.3)) (w.6.items_is w.1)) w.7.1,
      ))

  pub dup_h : IsStep p m pl to f f1 g g1 at h ls st below after instr.Dup → EI instr.Dup (does p m instr.Dup to ls st h)
  unfolding does row deed ends_path jump_targets
  dup_h s = word_h (EI instr.Dup) tt (λ c. tt) (λ c. tt) st _ (λ v rest e narrow.
      let w = one s.0 v rest e narrow in (
        inl refl,
        shuffle_left instr.Dup (Copies 1 0) s refl refl (w.0 ∷ w.0 ∷ w.1) (w.2 ∷ w.2 ∷ w.3) (v ∷ v ∷ rest)
            (ap (type.shuffled (Copies 1 0)) w.4 ∙ then_is (off 1 (w.0 ∷ w.1)) (w.0 ∷ []) w.1 (λ a under. type.then_off (off 0 under) (λ b more. Ok (a ++ (b ++ (a ++ more))))) (w.6.off_is w.1))
            (ap (λ z. shuffled (Copies 1 0) z g.stack) w.4 ∙ ap (shuffled (Copies 1 0) (w.0 ∷ w.1)) w.5
            ∙ ap (λ k. Rattle.kilim_isolation_rules.specs.Rules.copied k (items 0 (drop k (w.0 ∷ w.1))) (w.2 ∷ w.3)) (w.6.items_is w.1)) (w.7.0, w.7),
      ))
