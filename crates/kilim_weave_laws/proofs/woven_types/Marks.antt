-- Where marks stand, frames are declared.
use Rattle.std.proofs.Common.{◌≡◌, inl, inr, ℕ, ◌+◌, Bool, true, false, cond, List, [], ◌∷◌, Option, Some, None, refl, sym, ap, subst, ◌∙◌}
use Rattle.std.specs.Prelude.{◌||◌, is_some}
use Rattle.std.specs.List.{list_all}
use Rattle.std.proofs.lemmas.Bool.{and_parts, false≢true}
use Rattle.std.proofs.lemmas.Bool.Decides.{eqb_tells}
use Rattle.kilim_program.specs.declared.class.Method.{Method}
use Rattle.kilim_program.specs.declared.instr.Instr.{Instr}
use Rattle.kilim_program.specs.declared.verified.Frame.{Frame}
use Rattle.kilim_program.specs.Lengths.{is_code_place}
use Rattle.kilim_program.specs.Lengths.{first_place}
use Rattle.kilim_type_spec.specs.Step.{Types}
use Rattle.kilim_type_spec.specs.Typed.{declared, frame_in, frame_types, frame_fits, Here, goes_on, TypedBy}
use Rattle.kilim_weave_spec.specs.Woven.{Plan, Item, added, old_frame, resume_frame, frame_if, resume_code, piece, pieces, block, blocks, count, pausable_callee}
use Rattle.kilim_weave_laws.specs.woven_types.Facts.{Stands, types_if, Marked, Blocked, WovenMethod}
use Rattle.kilim_weave_laws.proofs.woven_types.Spans.{Word, onto, Span, group_code, group_span, resume_span}
use Rattle.kilim_weave_laws.proofs.woven_types.Laying.{Begins, resume_begins, woven_stands, Grows}

module _ (x : Plan) (w : Method) where
  -- what stands behind a stretch
  behind_onto : (ws : List Word) (q : ℕ) (before : Option Types) (rest : List Item) → (ws ≡ [] → before ≡ None) → Stands x w q before (onto ws rest) → (q' : ℕ) × Stands x w q' None rest
  behind_onto [] q before rest n st = (q, subst (λ z. Stands x w q z rest) (n refl) st)
  behind_onto (v ∷ ws) q before rest n st = behind_onto ws (q + v.bytes) None rest (λ z. refl) st.1

  begins_some : (f : List Item → List Item) (most : ℕ) (s : Span f most) → Begins (f []) → s.words ≡ [] → ⊥
  begins_some f most s b e = let a : f [] ≡ [] = (s.is [] ∙ ap (λ ws. onto ws []) e) in let c = sym b.is ∙ a in absurd (cc)

  behind_span : (f : List Item → List Item) (most q : ℕ) (before : Option Types) (rest : List Item) → Span f most → Begins (f []) → Stands x w q before (f rest) → (q' : ℕ) × Stands x w q' None rest
  behind_span f most q before rest s b st = behind_onto s.words q before rest (λ e. absurd (begins_some f most s b e)) (subst (λ z. Stands x w q before z) (s.is rest) st)

  -- the first instruction behind a mark
  first_declared : (q : ℕ) (before : Option Types) (items : List Item) → Begins items → Stands x w q before items → declared w q ≡ before
  first_declared q before items b st = let y = subst (λ z. Stands x w q before z) b.is st in y.0

  frame_true : (b : Bool) (p : ℕ) → b ≡ true → types_if (frame_if b x p) ≡ Some (frame_types (old_frame x p))
  frame_true true p h = refl
  frame_true false p h = absurd (cc)

  or_none : (a b : Bool) → (a || (b || false)) ≡ true → (a || b) ≡ true
  or_none true b h = refl
  or_none false true h = refl
  or_none false false h = h

  piece_marked : (o : Option Method) (first : Bool) (number place next : ℕ) (i : Instr) (q : ℕ) (rest : List Item) → Stands x w q None (piece o x first number place next i rest) →
      (((first || (is_some (declared x.method place) || is_some o)) ≡ true → declared w (x.at place) ≡ Some (frame_types (old_frame x place))) × ((q' : ℕ) × Stands x w q' None rest))
  piece_marked None first number place next i q rest st =
      ((λ h. ap (declared w) st.0 ∙ (st.1.0 ∙ frame_true (first || is_some (declared x.method place)) place (or_none first (is_some (declared x.method place)) h))), (_, st.1.1))
  piece_marked (Some callee) first number place next i q rest st = (
    (λ h. ap (declared w) st.0 ∙ st.1.0),
    behind_span (group_code x number callee place next i) _ q _ rest (group_span x number callee place next i) (record { instr = _; size = _; counted = false; rest = _; is = refl }) st.1,
  )

  pub pieces_marked : (es : List (ℕ × Instr)) (first : Bool) (number q : ℕ) (rest : List Item) → Stands x w q None (pieces x first number es rest) → Marked x w first es × ((q' : ℕ) × Stands x w q' None rest)
  pieces_marked [] first number q rest st = (tt, (q, st))
  pieces_marked (e ∷ es) first number q rest st =
      let o = pausable_callee x.program e.1 in
      let p = piece_marked o first number e.0 (first_place es x.method.code_length) e.1 q _ st in
      let r = pieces_marked es (is_some o) (count o number) p.1.0 rest p.1.1 in
      ((p.0, r.0), r.1)

  block_marked : (o : Option Method) (number place next q : ℕ) (rest : List Item) → Stands x w q None (block o x number place next rest) →
      ((is_some o ≡ true → declared w (x.block number) ≡ Some (frame_types (resume_frame x))) × ((q' : ℕ) × Stands x w q' None rest))
  block_marked None number place next q rest st = ((λ h. absurd (false≢true h)), (q, st))
  block_marked (Some callee) number place next q rest st = (
    (λ h. ap (declared w) st.0 ∙ first_declared q _ (resume_code x callee place next rest) (resume_begins x w callee place next rest) st.1),
    behind_span (resume_code x callee place next) _ q _ rest (resume_span x callee place next) (resume_begins x w callee place next []) st.1,
  )

  pub blocks_marked : (es : List (ℕ × Instr)) (number q : ℕ) → Stands x w q None (blocks x number es) → Blocked x w number es
  blocks_marked [] number q st = tt
  blocks_marked (e ∷ es) number q st =
      let o = pausable_callee x.program e.1 in
      let p = block_marked o number e.0 (first_place es x.method.code_length) q _ st in
      (p.0, blocks_marked es (count o number) p.1.0 p.1.1)

  self_stands : (b : Bool) (q : ℕ) (i j : Instr) (n m : ℕ) (rest : List Item) → Stands x w q None (cond b rest (added i n ∷ added j m ∷ rest)) → (q' : ℕ) × Stands x w q' None rest
  self_stands true q i j n m rest st = (q, st)
  self_stands false q i j n m rest st = (q + n + m, st.1.1)

  -- the pieces of a woven method
  pub pieces_stand : WovenMethod x w → Grows x w x.method.code → (q : ℕ) × Stands x w q None (pieces x true 1 x.method.code (blocks x 1 x.method.code))
  pieces_stand woven g =
      let st = woven_stands x w woven g in
      let s = self_stands x.method.is_static _ _ _ _ _ _ st.1.1 in
      (_, s.1.1.1.1)

  pub is_marked : WovenMethod x w → Grows x w x.method.code → Marked x w true x.method.code × Blocked x w 1 x.method.code
  is_marked woven g =
      let st = pieces_stand woven g in
      let p = pieces_marked x.method.code true 1 st.0 (blocks x 1 x.method.code) st.1 in
      (p.0, blocks_marked x.method.code 1 p.1.0 p.1.1)

  -- ---- targets of old jumps

  -- a declared frame stands at an instruction (rule 12)
  frame_place : (fs : List (ℕ × Frame)) (t : ℕ) (d : Types) → list_all (frame_fits x.method) fs ≡ true → frame_in fs t ≡ Some d → is_code_place x.method.code t ≡ true
  frame_place [] t d h e = absurd (cc)
  frame_place (f ∷ fs) t d h e =
      let p = and_parts (frame_fits x.method f) (list_all (frame_fits x.method) fs) h in
      elim (eqb_tells f.0 t) [
        | inl y ↦ subst (λ z. is_code_place x.method.code z ≡ true) y.1 (and_parts (is_code_place x.method.code f.0) _ p.0).0
        | inr y ↦ frame_place fs t d p.1 (let n = y.0 in rw n at e)
      ]

  the_same : (a b : Types) → ◌≡◌ {A = Option Types} (Some a) (Some b) → a ≡ b
  the_same a b e = ap (from a) e
    where
      from : Types → Option Types → Types
      from a None = a
      from a (Some z) = z

  here_declared : (was : Option Types) (f : Types) (o : Option Types) (d : Types) → Here x.program was o f → o ≡ Some d → f ≡ d
  here_declared None f (Some e) d h s = h ∙ the_same e d s
  here_declared (Some g) f (Some e) d h s = h.0 ∙ the_same e d s
  here_declared was f None d h s = absurd (cc)

  or_mid : (a b c : Bool) → b ≡ true → (a || (b || c)) ≡ true
  or_mid true b c h = refl
  or_mid false true c h = refl
  or_mid false false c h = absurd (cc)

  targets_in : (es : List (ℕ × Instr)) (first : Bool) (was : Option Types) (t : ℕ) (d : Types) → TypedBy x.program x.method x.typing was es → Marked x w first es → is_code_place es t ≡ true → declared x.method t ≡ Some d →
      (x.typing t ≡ d) × (declared w (x.at t) ≡ Some (frame_types (old_frame x t)))
  targets_in [] first was t d ty m h e = absurd (cc)
  targets_in (c ∷ es) first was t d ty m h e =
      elim (eqb_tells c.0 t) [
        | inl y ↦ subst (λ z. declared x.method z ≡ Some d → (x.typing z ≡ d) × (declared w (x.at z) ≡ Some (frame_types (old_frame x z)))) y.1
            (λ e'. (here_declared was (x.typing c.0) (declared x.method c.0) d ty.0 e', m.0 (or_mid first (is_some (declared x.method c.0)) _ (ap is_some e')))) e
        | inr y ↦ targets_in es (is_some (pausable_callee x.program c.1)) (goes_on _ ty.1) t d ty.4 m.1 (let n = y.0 in rw n at h) e
      ]

  pub targets : (was : Option Types) → TypedBy x.program x.method x.typing was x.method.code → list_all (frame_fits x.method) x.method.frames ≡ true → Marked x w true x.method.code → (t : ℕ) (d : Types) → declared x.method t ≡ Some d →
      (x.typing t ≡ d) × (declared w (x.at t) ≡ Some (frame_types (old_frame x t)))
  targets was ty fits m t d e = targets_in x.method.code true was t d ty m (frame_place x.method.frames t d fits e) e
