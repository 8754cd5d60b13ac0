-- Added instructions, one by one.
use Rattle.std.proofs.Common.{◌≡◌, ℕ, suc, ◌+◌, ◌<◌, ◌≤◌, Bool, true, false, cond, List, [], ◌∷◌, ◌++◌, map, length, drop, Option, Some, None, Result, Ok, refl, sym, ap, subst, ◌∙◌, arith}
use Rattle.std.specs.Prelude.{nat_lt, reverse}
use Rattle.std.proofs.lemmas.Bool.{and_from, le-leb, lt-ltb}
use Rattle.kilim_program.specs.declared.class.Method.{Method}
use Rattle.kilim_program.specs.declared.instr.Instr.{Instr}
use Rattle.kilim_program.specs.declared.instr.Instr.TheVariants.{Aload, Invokevirtual, Invokestatic}
use Rattle.kilim_program.specs.declared.names.MethodId.{MethodId}
use Rattle.kilim_program.specs.declared.ty.Ty.{Ty}
use Rattle.kilim_program.specs.declared.verified.VType.{VType}
use Rattle.kilim_program.specs.declared.verified.VType.TheVariants.{Int}
use Rattle.kilim_program.specs.Program.{Program}
use Rattle.kilim_program.specs.Lengths.{jump_targets, ends_path}
use Rattle.kilim_type_spec.specs.Step.{Types, peek, stored, size, words, room_for, vtype, result_types, Operand, Is, AReference, Further, further, needs, meets, all_meet, pushed, loaded, virtual_row, static_row, Takes, Loads, Stores, row, by_row, type_step}
use Rattle.kilim_type_spec.specs.Typed.{Jumps, Here, goes_on, Typed}
use Rattle.kilim_weave_spec.specs.Woven.{Plan, fiber, fiber_ty, fiber_slot, Item, Does, load_fiber, lay}
use Rattle.kilim_weave_laws.specs.woven_types.Facts.{Native, Whole, Stands}
use Rattle.kilim_weave_laws.proofs.woven_types.Moved.{passes}
use Rattle.kilim_weave_laws.proofs.woven_types.Forms.{room_there}
use Rattle.kilim_weave_laws.proofs.woven_types.Flow.{Kept, has_fiber, is_larger}
use Rattle.kilim_weave_laws.proofs.woven_types.Flow as flow

-- a frame in added code
abbrev pub state : List VType → List VType → Types
state cl s = record { locals = cl; stack = s; unset = false }

module _ (x : Plan) (W : Program) (w : Method) (whole : Whole x W w) where
  -- from this frame on the items are well typed
  pub record Runs (c : Types) (rest : List Item) : Type 0 where
    pub go : (flow before : Option Types) (q : ℕ) → Here W flow before c → Stands x w q before rest → Typed W w flow (lay q rest)

  -- behind an instruction that control doesn't go past
  pub record Starts (rest : List Item) : Type 0 where
    pub go : (q : ℕ) → Stands x w q None rest → Typed W w None (lay q rest)

  pub one : (i : Instr) (size : ℕ → ℕ) (counted : Bool) (c c' : Types) (rest : List Item) → ((q : ℕ) → type_step W w q i c ≡ Ok c') → Jumps W w c' (jump_targets i) → ends_path i ≡ false → Runs c' rest → Runs c (Does i size counted ∷ rest)
  one i size counted c c' rest step jumps on r = record {
    go = λ flow before q here st.
        (c, subst (λ z. Here W flow z c) (sym st.0) here, c', step q, jumps, subst (λ b. Typed W w (goes_on b c') (lay (q + size q) rest)) (sym on) (r.go (Some c') None (q + size q) refl st.1));
  }

  pub last : (i : Instr) (size : ℕ → ℕ) (counted : Bool) (c c' : Types) (rest : List Item) → ((q : ℕ) → type_step W w q i c ≡ Ok c') → Jumps W w c' (jump_targets i) → ends_path i ≡ true → Starts rest → Runs c (Does i size counted ∷ rest)
  last i size counted c c' rest step jumps on r = record {
    go = λ flow before q here st.
        (c, subst (λ z. Here W flow z c) (sym st.0) here, c', step q, jumps, subst (λ b. Typed W w (goes_on b c') (lay (q + size q) rest)) (sym on) (r.go (q + size q) st.1));
  }

  -- ---- rows

  pub holds_all : {A : Type 0} (rs : List Further) (s : List VType) (go : Result A ℕ) (y : A) → further W [] s go ≡ Ok y → go ≡ Ok y
  holds_all rs s go y e = e

  pub asked_step : (q : ℕ) (i : Instr) (takes : List Operand) (gives : List VType) (also : List Further) (cl s : List VType) → row W w i ≡ Takes takes gives also →
      length takes ≤ length s → room_for w gives (drop (length takes) s) ≡ true → all_meet W takes s ≡ true → further W also s (Ok (state cl (gives ++ drop (length takes) s))) ≡ Ok (state cl (gives ++ drop (length takes) s)) →
      type_step W w q i (state cl s) ≡ Ok (state cl (gives ++ drop (length takes) s))
  asked_step q i takes gives also cl s is enough room meet fine =
      let out = state cl (gives ++ drop (length takes) s) in
      ap (λ r. by_row W w q r (state cl s)) is
      ∙ passes 3 _ _ out (le-leb (length takes) (length s) enough)
      (passes 4 _ _ out room
      (passes 5 _ _ out meet fine))

  pub takes_step : (q : ℕ) (i : Instr) (takes : List Operand) (gives : List VType) (also : List Further) (cl s : List VType) → row W w i ≡ Takes takes gives also →
      length takes ≤ length s → words (gives ++ drop (length takes) s) ≤ w.max_stack → all_meet W takes s ≡ true → further W also s (Ok (state cl (gives ++ drop (length takes) s))) ≡ Ok (state cl (gives ++ drop (length takes) s)) →
      type_step W w q i (state cl s) ≡ Ok (state cl (gives ++ drop (length takes) s))
  takes_step q i takes gives also cl s is enough room meet fine = asked_step q i takes gives also cl s is enough (room_there w gives (drop (length takes) s) room) meet fine

  pub loads_step : (q : ℕ) (i : Instr) (o : Operand) (slot : ℕ) (t : VType) (cl s : List VType) → row W w i ≡ Loads o slot → size (pushed o) ≤ size t → peek cl slot ≡ t → slot < w.max_locals → words (t ∷ s) ≤ w.max_stack → meets W o t ≡ true →
      type_step W w q i (state cl s) ≡ Ok (state cl (t ∷ s))
  loads_step q i o slot t cl s is less there within room meet =
      let out = state cl (t ∷ s) in
      ap (λ r. by_row W w q r (state cl s)) is ∙ (ap (λ u. loaded W w o slot u (state cl s)) there
      ∙ passes 4 _ _ out (le-leb (words (pushed o ∷ s)) w.max_stack (omega (arith, less, room)))
      (passes 6 _ _ out (and_from (nat_lt slot w.max_locals) (meets W o t) (lt-ltb slot w.max_locals within) meet) refl))

  pub stores_step : (q : ℕ) (i : Instr) (o : Operand) (slot : ℕ) (t : VType) (cl s : List VType) → row W w i ≡ Stores o slot → slot + size t ≤ w.max_locals → meets W o t ≡ true →
      type_step W w q i (state cl (t ∷ s)) ≡ Ok (state (stored cl slot t) s)
  stores_step q i o slot t cl s is within meet =
      let out = state (stored cl slot t) s in
      ap (λ r. by_row W w q r (state cl (t ∷ s))) is
      ∙ passes 5 _ _ out meet (passes 6 _ _ out (le-leb (slot + size t) w.max_locals within) refl)

  -- ---- members of the fiber

  abbrev pub fine : List Further
  fine = needs 8 true ∷ needs 10 true ∷ []

  pub member_row : (id : MethodId) (params : List Ty) (result : Option Ty) → Native x.program W id params result false →
      row W w (Invokevirtual id) ≡ Takes (reverse (map (λ ty. Is (vtype ty)) params) ++ (Is (fiber x.program) ∷ [])) (result_types result) fine
  unfolding row
  member_row id params result n =
      ap (virtual_row w) n.there ∙ (let a = n.has_params in let b = n.has_result in let c = n.has_static in let d = n.is_public in let e = n.has_owner in let f = n.plain in rw (a, b, c, d, e, f) refl)

  pub static_member : (id : MethodId) (params : List Ty) → Native x.program W id params None true →
      row W w (Invokestatic id) ≡ Takes (reverse (map (λ ty. Is (vtype ty)) params)) [] fine
  unfolding row
  static_member id params n =
      ap (static_row w) n.there ∙ (let a = n.has_params in let b = n.has_result in let c = n.has_static in let d = n.is_public in let f = n.plain in rw (a, b, c, d, f) refl)

  -- ---- the fiber

  pub fiber_within : fiber_slot x.method < w.max_locals
  fiber_within = by_static x.method.is_static whole.slots
    where
      by_static : (b : Bool) → fiber_slot x.method + cond b 1 2 ≤ w.max_locals → fiber_slot x.method < w.max_locals
      by_static true h = omega (arith, h)
      by_static false h = omega (arith, h)

  pub fiber_meets : meets W (Is (fiber x.program)) (fiber x.program) ≡ true
  unfolding meets
  fiber_meets = flow.to_itself x W w whole (fiber x.program)

  pub int_meets : (s : List VType) → all_meet W (Is Int ∷ []) (Int ∷ s) ≡ true
  unfolding meets
  int_meets s = refl

  abbrev pub Jumping : Types → List ℕ → Type 0
  Jumping c ts = Jumps W w c ts

  pub load_runs : (cl s : List VType) (rest : List Item) → Kept x cl → suc (words s) ≤ w.max_stack → Runs (state cl (fiber x.program ∷ s)) rest → Runs (state cl s) (load_fiber x ∷ rest)
  unfolding row meets jump_targets ends_path
  load_runs cl s rest k room r =
      one (Aload (fiber_slot x.method)) _ false (state cl s) (state cl (fiber x.program ∷ s)) rest
      (λ q. loads_step q (Aload (fiber_slot x.method)) AReference (fiber_slot x.method) (fiber x.program) cl s refl (omega arith) (has_fiber x cl k) fiber_within (omega (arith, room)) refl)
      tt refl r

  -- a member that takes the fiber alone
  pub member_runs : (id : MethodId) (result : Ty) (t : VType) (cl s : List VType) (rest : List Item) → Native x.program W id [] (Some result) false → vtype result ≡ t → size t + words s ≤ w.max_stack →
      Runs (state cl (t ∷ s)) rest → Runs (state cl (fiber x.program ∷ s)) (Does (Invokevirtual id) (λ q. 3) false ∷ rest)
  unfolding jump_targets ends_path meets
  member_runs id result t cl s rest n is room r =
      one (Invokevirtual id) (λ q. 3) false (state cl (fiber x.program ∷ s)) (state cl (t ∷ s)) rest
      (λ q. subst (λ u. type_step W w q (Invokevirtual id) (state cl (fiber x.program ∷ s)) ≡ Ok (state cl (u ∷ s))) is
      (takes_step q (Invokevirtual id) (Is (fiber x.program) ∷ []) (vtype result ∷ []) fine cl (fiber x.program ∷ s) (member_row id [] (Some result) n) (omega arith)
      (let e = ap size is in omega (arith, e, room)) (and_from _ true (flow.to_itself x W w whole (fiber x.program)) refl) refl))
      tt refl r

  -- a member that takes a value and the fiber
  pub static_runs : (id : MethodId) (param : Ty) (t : VType) (cl s : List VType) (rest : List Item) → Native x.program W id (param ∷ fiber_ty x.program ∷ []) None true → meets W (Is (vtype param)) t ≡ true → words s ≤ w.max_stack →
      Runs (state cl s) rest → Runs (state cl (fiber x.program ∷ t ∷ s)) (Does (Invokestatic id) (λ q. 3) false ∷ rest)
  unfolding jump_targets ends_path meets
  static_runs id param t cl s rest n meet room r =
      one (Invokestatic id) (λ q. 3) false (state cl (fiber x.program ∷ t ∷ s)) (state cl s) rest
      (λ q. takes_step q (Invokestatic id) (Is (fiber x.program) ∷ Is (vtype param) ∷ []) [] fine cl (fiber x.program ∷ t ∷ s) (static_member id (param ∷ fiber_ty x.program ∷ []) n) (omega arith)
      room (and_from _ _ (flow.to_itself x W w whole (fiber x.program)) (and_from _ true meet refl)) refl)
      tt refl r
