-- Moved types meet what the types met.
use Rattle.std.proofs.Common.{◌≡◌, ℕ, Bool, true, false, List, [], ◌∷◌, ◌++◌, map, Result, Ok, refl, sym, ap, ◌∙◌, arith, eq-eqb}
use Rattle.std.specs.Prelude.{◌&&◌, not, nat_le}
use Rattle.std.proofs.lemmas.Bool.{leb-true, le-leb, eqb-true, and_parts, and_from}
use Rattle.std.proofs.lemmas.List.{length-map, map-append}
use Rattle.kilim_program.specs.declared.class.Method.{Method}
use Rattle.kilim_program.specs.declared.ty.Base.{Base}
use Rattle.kilim_program.specs.declared.verified.VType.{VType}
use Rattle.kilim_program.specs.declared.verified.VType.TheVariants.{Top, Int, Long, Null, UninitThis, Uninit, Object}
use Rattle.kilim_program.specs.Program.{Program}
use Rattle.kilim_type_spec.specs.Step.{Operand, Is, AReference, Initialized, ArrayOf, References, AnArray, Own, Further, further, rule, meets, all_meet, assignable, class_vtype, size, words, is_top, is_long, is_unset, has_room, room_for, has_operands}
use Rattle.kilim_weave_spec.specs.Woven.{moved_type}
use Rattle.kilim_weave_laws.specs.woven_types.Same.{Shared}
use Rattle.std.proofs.lemmas.Bool.{false≢true}

-- ---- rules

pub passed : {A : Type 0} (n : ℕ) (b : Bool) (go : Result A ℕ) (x : A) → rule n b go ≡ Ok x → (b ≡ true) × (go ≡ Ok x)
passed n true go x e = (refl, e)
passed n false go x e = absurd (cc)

pub passes : {A : Type 0} (n : ℕ) (b : Bool) (go : Result A ℕ) (x : A) → b ≡ true → go ≡ Ok x → rule n b go ≡ Ok x
passes n b go x t e = ap (λ (z : Bool). rule n z go) t ∙ e

-- ---- types

pub moved_size : (at : ℕ → ℕ) (t : VType) → size (moved_type at t) ≡ size t
moved_size at Top = refl
moved_size at Int = refl
moved_size at Long = refl
moved_size at Null = refl
moved_size at UninitThis = refl
moved_size at (Uninit q) = refl
moved_size at (Object ty) = refl

pub moved_words : (at : ℕ → ℕ) (ts : List VType) → words (map (moved_type at) ts) ≡ words ts
moved_words at [] = refl
moved_words at (t ∷ ts) = let e = moved_size at t in let r = moved_words at ts in rw (e, r) refl

pub moved_top : (at : ℕ → ℕ) (t : VType) → is_top (moved_type at t) ≡ is_top t
moved_top at Top = refl
moved_top at Int = refl
moved_top at Long = refl
moved_top at Null = refl
moved_top at UninitThis = refl
moved_top at (Uninit q) = refl
moved_top at (Object ty) = refl

pub moved_long : (at : ℕ → ℕ) (t : VType) → is_long (moved_type at t) ≡ is_long t
moved_long at Top = refl
moved_long at Int = refl
moved_long at Long = refl
moved_long at Null = refl
moved_long at UninitThis = refl
moved_long at (Uninit q) = refl
moved_long at (Object ty) = refl

-- ---- operands and rows

abbrev pub moved_operand : (ℕ → ℕ) → Operand → Operand
moved_operand at (Is t) = Is (moved_type at t)
moved_operand at o = o

abbrev pub moved_further : (ℕ → ℕ) → Further → Further
moved_further at r = record r { operands = map (moved_operand at) r.operands }

pub moved_unset : (at : ℕ → ℕ) (t : VType) → is_unset (moved_type at t) ≡ is_unset t
moved_unset at Top = refl
moved_unset at Int = refl
moved_unset at Long = refl
moved_unset at Null = refl
moved_unset at UninitThis = refl
moved_unset at (Uninit q) = refl
moved_unset at (Object ty) = refl

module _ (P W : Program) (m w : Method) (at : ℕ → ℕ) (same : Shared P W m w at) where
  pub assigned : (t b : VType) → assignable P t b ≡ true → assignable W (moved_type at t) (moved_type at b) ≡ true
  assigned t Top h = refl
  assigned Int Int h = refl
  assigned Long Long h = refl
  assigned Null Null h = refl
  assigned UninitThis UninitThis h = refl
  assigned (Uninit a) (Uninit b) h = eq-eqb (at a) (at b) (ap at (eqb-true a b h))
  assigned Null (Object b) h = refl
  assigned (Object a) (Object b) h = same.assigns (Object a) (Object b) h
  assigned t b h = absurd (false≢true h)

  own_met : (c : _) (t : VType) → meets P (Own c) t ≡ true → meets W (Own c) (moved_type at t) ≡ true
  unfolding meets
  own_met c UninitThis h = refl
  own_met c Null h = refl
  own_met c (Object ty) h = same.assigns (Object ty) (class_vtype c) h
  own_met c t h = absurd (false≢true h)

  reference_met : (t : VType) → meets P AReference t ≡ true → meets W AReference (moved_type at t) ≡ true
  unfolding meets
  reference_met Null h = refl
  reference_met UninitThis h = refl
  reference_met (Uninit q) h = refl
  reference_met (Object ty) h = refl
  reference_met t h = absurd (false≢true h)

  array_met : (bases : List Base) (t : VType) → meets P (ArrayOf bases) t ≡ true → meets W (ArrayOf bases) (moved_type at t) ≡ true
  unfolding meets
  array_met bases Null h = refl
  array_met bases (Object ty) h = h
  array_met bases t h = absurd (false≢true h)

  references_met : (t : VType) → meets P References t ≡ true → meets W References (moved_type at t) ≡ true
  unfolding meets
  references_met Null h = refl
  references_met (Object ty) h = h
  references_met t h = absurd (false≢true h)

  any_array_met : (t : VType) → meets P AnArray t ≡ true → meets W AnArray (moved_type at t) ≡ true
  unfolding meets
  any_array_met Null h = refl
  any_array_met (Object ty) h = h
  any_array_met t h = absurd (false≢true h)

  pub met : (o : Operand) (t : VType) → meets P o t ≡ true → meets W (moved_operand at o) (moved_type at t) ≡ true
  unfolding meets
  met (Is b) t h = assigned t b h
  met AReference t h = reference_met t h
  met Initialized t h = ap (λ z. not z) (moved_unset at t) ∙ h
  met (ArrayOf bases) t h = array_met bases t h
  met References t h = references_met t h
  met AnArray t h = any_array_met t h
  met (Own c) t h = own_met c t h

  pub all_met : (os : List Operand) (s : List VType) → all_meet P os s ≡ true → all_meet W (map (moved_operand at) os) (map (moved_type at) s) ≡ true
  all_met [] s h = refl
  all_met (o ∷ os) [] h = absurd (cc)
  all_met (o ∷ os) (t ∷ s) h =
      let hs = and_parts (meets P o t) (all_meet P os s) h in
      and_from (meets W (moved_operand at o) (moved_type at t)) (all_meet W (map (moved_operand at) os) (map (moved_type at) s)) (met o t hs.0) (all_met os s hs.1)

  -- further rules: what is behind them is reached in both
  pub holds_further : {A : Type 0} (rs : List Further) (s : List VType) (go : Result A ℕ) (x : A) → further P rs s go ≡ Ok x →
      (go ≡ Ok x) × ((go' : Result A ℕ) (y : A) → go' ≡ Ok y → further W (map (moved_further at) rs) (map (moved_type at) s) go' ≡ Ok y)
  holds_further [] s go x h = (h, λ go' y e. e)
  holds_further (r ∷ rs) s go x h =
      let p = passed r.number (r.holds && all_meet P r.operands s) (further P rs s go) x h in
      let b = and_parts r.holds (all_meet P r.operands s) p.0 in
      let q = holds_further rs s go x p.1 in (
        q.0,
        λ go' y e. passes r.number (r.holds && all_meet W (map (moved_operand at) r.operands) (map (moved_type at) s)) (further W (map (moved_further at) rs) (map (moved_type at) s) go') y
            (and_from r.holds (all_meet W (map (moved_operand at) r.operands) (map (moved_type at) s)) b.0 (all_met r.operands s b.1)) (q.1 go' y e),
      )

  pub room : (s : List VType) → has_room m s ≡ true → has_room w (map (moved_type at) s) ≡ true
  room s h =
      let a = leb-true (words s) m.max_stack h in
      let e = moved_words at s in
      let b = same.stack in
      le-leb (words (map (moved_type at) s)) w.max_stack (omega (arith, a, e, b))

  -- the room for what is given, above what is left
  pub room_given : (gives below : List VType) → room_for m gives below ≡ true → room_for w (map (moved_type at) gives) (map (moved_type at) below) ≡ true
  room_given [] below h = refl
  room_given (t ∷ ts) below h = ap (λ z. has_room w (moved_type at t ∷ z)) (sym (map-append (moved_type at) ts below)) ∙ room (t ∷ (ts ++ below)) h

  pub enough : (n : ℕ) (s : List VType) → has_operands n s ≡ true → has_operands n (map (moved_type at) s) ≡ true
  enough n s h = ap (λ (z : ℕ). nat_le n z) (length-map s (moved_type at)) ∙ h
