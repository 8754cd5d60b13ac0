-- The prologue, and with it the whole woven code.
use Rattle.std.proofs.Common.{◌≡◌, inl, inr, ℕ, zero, suc, ◌+◌, ◌<◌, ◌≤◌, Bool, true, false, cond, pos, List, [], ◌∷◌, ◌++◌, map, length, Option, Some, None, refl, sym, ap, subst, ◌∙◌, arith, eq-eqb, ne_eqb, append_assoc}
use Rattle.std.specs.Prelude.{◌&&◌, not, is_some, sum_by}
use Rattle.std.proofs.lemmas.Bool.{false≢true}
use Rattle.std.proofs.lemmas.List.{map-append, length-append}
use Rattle.std.proofs.lemmas.List.Sums.{sum_by-cons}
use Rattle.kilim_program.specs.declared.class.Method.{Method}
use Rattle.kilim_program.specs.declared.instr.Instr.{Instr}
use Rattle.kilim_program.specs.declared.instr.Instr.TheVariants.{Aload, Astore, Tableswitch}
use Rattle.kilim_program.specs.declared.ty.Base.{Base}
use Rattle.kilim_program.specs.declared.ty.Base.TheVariants as base
use Rattle.kilim_program.specs.declared.ty.Ty.{Ty}
use Rattle.kilim_program.specs.declared.verified.VType.{VType}
use Rattle.kilim_program.specs.declared.verified.VType.TheVariants.{Top, Int, Long, Null, UninitThis, Uninit, Object}
use Rattle.kilim_program.specs.Program.{Program}
use Rattle.kilim_program.specs.Lengths.{jump_targets, ends_path}
use Rattle.kilim_program.specs.Lengths.{first_place}
use Rattle.kilim_program.specs.Same.{argument_slots, type_slots, is_constructor}
use Rattle.kilim_type_spec.specs.Step.{peek, stored, is_top, is_long, size, vtype, class_vtype, Is, AReference, meets, row}
use Rattle.kilim_type_spec.specs.Typed.{declared, frame_types, FlowsInto, Jumps, Typed, TypedBy, this_types, slots_of_type, param_slots, entry}
use Rattle.kilim_weave_spec.specs.Woven.{Plan, fiber, fiber_ty, member, fiber_slot, self_slot, moved_type, old_frame, resume_frame, Item, added, local_size, lay, pieces, blocks, count, pausable_callee, resume_places, switch_item, prologue, woven_items}
use Rattle.kilim_weave_laws.specs.woven_types.Facts.{Whole, Stands, Facts, Marked, Blocked, int_ty, WovenMethod}
use Rattle.kilim_weave_laws.proofs.woven_types.Locals.{Covers, stored_here, stored_below, stored_above}
use Rattle.kilim_weave_laws.proofs.woven_types.Crux.{plain, moved_vtype}
use Rattle.kilim_weave_laws.proofs.woven_types.Flow.{Extra, Kept, is_larger, extra_type}
use Rattle.kilim_weave_laws.proofs.woven_types.Flow as flow
use Rattle.kilim_weave_laws.proofs.woven_types.Added.{state, Runs, Starts}
use Rattle.kilim_weave_laws.proofs.woven_types.Added as add
use Rattle.kilim_weave_laws.proofs.woven_types.Pieces.{pieces_typed, blocks_start, here_flows}

-- ---- the entry

slots_more : (t : VType) (a b : List VType) → slots_of_type t (a ++ b) ≡ slots_of_type t a ++ b
slots_more Long a b = refl
slots_more Top a b = refl
slots_more Int a b = refl
slots_more Null a b = refl
slots_more UninitThis a b = refl
slots_more (Uninit q) a b = refl
slots_more (Object ty) a b = refl

pub params_more : (tys more : List Ty) → param_slots (tys ++ more) ≡ param_slots tys ++ param_slots more
params_more [] more = refl
params_more (ty ∷ tys) more = ap (slots_of_type (vtype ty)) (params_more tys more) ∙ slots_more (vtype ty) (param_slots tys) (param_slots more)

slots_length : (t : VType) (rest : List VType) → length (slots_of_type t rest) ≡ size t + length rest
slots_length Long rest = omega arith
slots_length Top rest = omega arith
slots_length Int rest = omega arith
slots_length Null rest = omega arith
slots_length UninitThis rest = omega arith
slots_length (Uninit q) rest = omega arith
slots_length (Object ty) rest = omega arith

type_size_at : (n : ℕ) (b : Base) → type_slots (record { dims = n; base = b }) ≡ size (vtype (record { dims = n; base = b }))
type_size_at zero base.Bool = refl
type_size_at zero base.Byte = refl
type_size_at zero base.Char = refl
type_size_at zero base.Short = refl
type_size_at zero base.Int = refl
type_size_at zero base.Long = refl
type_size_at zero (base.Class c) = refl
type_size_at (suc n) b = let e = ne_eqb (suc n) 0 (λ z. omega (arith, z)) in rw e refl

type_size : (ty : Ty) → type_slots ty ≡ size (vtype ty)
type_size ty = type_size_at ty.dims ty.base

params_length : (tys : List Ty) → length (param_slots tys) ≡ sum_by type_slots tys
params_length [] = refl
params_length (ty ∷ tys) =
    let a = slots_length (vtype ty) (param_slots tys) in
    let b = type_size ty in
    let c = params_length tys in
    let d = sum_by-cons type_slots ty tys in
    omega (arith, a, b, c, d)

this_length : (m : Method) → length (this_types m) ≡ cond m.is_static 0 1
this_length m = by m.is_static
  where
    by : (b : Bool) → length (cond b [] ((cond (is_constructor m) UninitThis (class_vtype m.owner)) ∷ [])) ≡ cond b 0 1
    by true = refl
    by false = refl

pub entry_length : (m : Method) → length (entry m).locals ≡ argument_slots m
entry_length m =
    let a = length-append (this_types m) (param_slots m.params) in
    let b = this_length m in
    let c = params_length m.params in
    omega (arith, a, b, c)

-- the arguments of a method that is no constructor name no place
moved_slots : (at : ℕ → ℕ) (t : VType) (rest : List VType) → moved_type at t ≡ t → map (moved_type at) (slots_of_type t rest) ≡ slots_of_type t (map (moved_type at) rest)
moved_slots at Long rest e = refl
moved_slots at Top rest e = refl
moved_slots at Int rest e = refl
moved_slots at Null rest e = refl
moved_slots at UninitThis rest e = refl
moved_slots at (Uninit q) rest e = ap (λ t. t ∷ map (moved_type at) rest) e
moved_slots at (Object ty) rest e = refl

moved_params : (at : ℕ → ℕ) (tys : List Ty) → map (moved_type at) (param_slots tys) ≡ param_slots tys
moved_params at [] = refl
moved_params at (ty ∷ tys) = moved_slots at (vtype ty) (param_slots tys) (moved_vtype at ty) ∙ ap (slots_of_type (vtype ty)) (moved_params at tys)

moved_this : (at : ℕ → ℕ) (m : Method) → map (moved_type at) (this_types m) ≡ this_types m
moved_this at m = by m.is_static (is_constructor m)
  where
    by : (b c : Bool) → map (moved_type at) (cond b [] ((cond c UninitThis (class_vtype m.owner)) ∷ [])) ≡ cond b [] ((cond c UninitThis (class_vtype m.owner)) ∷ [])
    by true c = refl
    by false true = refl
    by false false = refl

moved_entry : (at : ℕ → ℕ) (m : Method) → map (moved_type at) (entry m).locals ≡ (entry m).locals
moved_entry at m = map-append (moved_type at) (this_types m) (param_slots m.params) ∙ (ap (λ z. z ++ map (moved_type at) (param_slots m.params)) (moved_this at m) ∙ ap (λ z. this_types m ++ z) (moved_params at m.params))

peek_map : (at : ℕ → ℕ) (ls : List VType) (j : ℕ) → peek (map (moved_type at) ls) j ≡ moved_type at (peek ls j)
peek_map at [] zero = refl
peek_map at [] (suc j) = refl
peek_map at (t ∷ ts) zero = refl
peek_map at (t ∷ ts) (suc j) = peek_map at ts j

pub peek_front : (ls more : List VType) (j : ℕ) → j < length ls → peek (ls ++ more) j ≡ peek ls j
peek_front [] more j h = absurd (omega (arith, h))
peek_front (t ∷ ts) more zero h = refl
peek_front (t ∷ ts) more (suc j) h = peek_front ts more j (omega (arith, h))

peek_last : (ls : List VType) (t : VType) (j : ℕ) → j ≡ length ls → peek (ls ++ (t ∷ [])) j ≡ t
peek_last [] t zero e = refl
peek_last [] t (suc j) e = absurd (omega (arith, e))
peek_last (u ∷ ts) t zero e = absurd (omega (arith, e))
peek_last (u ∷ ts) t (suc j) e = peek_last ts t j (omega (arith, e))

pub peek_end : (ls : List VType) (j : ℕ) → is_top (peek ls j) ≡ false → j < length ls
peek_end [] zero h = absurd (cc)
peek_end [] (suc j) h = absurd (cc)
peek_end (t ∷ ts) zero h = omega arith
peek_end (t ∷ ts) (suc j) h = let y = peek_end ts j h in omega (arith, y)

-- a method that isn't static has `this` in local 0
this_at : (m : Method) (more : List VType) → m.is_static ≡ false → is_constructor m ≡ false → peek ((entry m).locals ++ more) 0 ≡ class_vtype m.owner
this_at m more s c = ap (λ b. peek (((cond b [] ((cond (is_constructor m) UninitThis (class_vtype m.owner)) ∷ [])) ++ param_slots m.params) ++ more) 0) s ∙ ap (λ b. cond b UninitThis (class_vtype m.owner)) c

this_first : (m : Method) → m.is_static ≡ false → 1 ≤ argument_slots m
this_first m s = let e = ap (λ b. cond b 0 1 + sum_by type_slots m.params) s in omega (arith, e)

module _ (x : Plan) (W : Program) (w : Method) (whole : Whole x W w) (woven : WovenMethod x w) where
  front : List VType
  front = (entry x.method).locals

  abbrev start : List VType
  start = (entry x.method).locals ++ (fiber x.program ∷ [])

  no_mark : (b c : Bool) → c ≡ false → (not b && c) ≡ false
  no_mark true c e = refl
  no_mark false c e = e

  -- the woven method begins with the fiber as its last argument
  entry_is : entry w ≡ state start []
  entry_is =
      let s = woven.is_static in
      let o = woven.owner in
      let c = whole.shared.plain_too in
      let d = whole.shared.plain in
      let p = ap param_slots woven.params ∙ params_more x.method.params (fiber_ty x.program ∷ []) in
      let this : this_types w ≡ this_types x.method = (rw (s, o, c, d) refl) in
      ap (λ u. record { locals = (entry w).locals; stack = []; unset = u }) (no_mark w.is_static (is_constructor w) c)
      ∙ ap (λ ls. state ls []) (ap (λ z. z ++ param_slots w.params) this ∙ (ap (λ z. this_types x.method ++ z) p ∙ sym (append_assoc (this_types x.method) (param_slots x.method.params) (fiber x.program ∷ []))))

  old_entry : entry x.method ≡ plain (entry x.method).locals []
  old_entry = ap (λ u. record { locals = (entry x.method).locals; stack = []; unset = u }) (no_mark x.method.is_static (is_constructor x.method) whole.shared.plain)

  below_fiber : argument_slots x.method < fiber_slot x.method
  below_fiber = (is_larger x.method.max_locals (suc (argument_slots x.method))).1

  -- what the prologue makes of the locals
  abbrev with_fiber : List VType
  with_fiber = stored start (fiber_slot x.method) (fiber x.program)

  abbrev ready : Bool → List VType
  ready true = with_fiber
  ready false = stored with_fiber (self_slot x.method) (class_vtype x.method.owner)

  ready_below : (b : Bool) (j : ℕ) → j < argument_slots x.method → peek (ready b) j ≡ peek start j
  ready_below true j h = let y = below_fiber in stored_below (fiber x.program) start (fiber_slot x.method) j (omega (arith, h, y))
  ready_below false j h = let y = below_fiber in stored_below (class_vtype x.method.owner) with_fiber (self_slot x.method) j (omega (arith, h, y)) ∙ stored_below (fiber x.program) start (fiber_slot x.method) j (omega (arith, h, y))

  fiber_there : peek with_fiber (fiber_slot x.method) ≡ fiber x.program
  fiber_there = stored_here (fiber x.program) start (fiber_slot x.method)

  fiber_kept : (b : Bool) → peek (ready b) (fiber_slot x.method) ≡ fiber x.program
  fiber_kept true = fiber_there
  fiber_kept false = stored_above (class_vtype x.method.owner) with_fiber (fiber_slot x.method) (ap is_long fiber_there) ∙ fiber_there

  self_there : (b : Bool) → b ≡ false → peek (ready b) (self_slot x.method) ≡ class_vtype x.method.owner
  self_there true e = absurd (cc)
  self_there false e = stored_here (class_vtype x.method.owner) with_fiber (self_slot x.method)

  ready_kept : Kept x (ready x.method.is_static)
  ready_kept j (inl e) = ap (peek (ready x.method.is_static)) (sym e) ∙ (fiber_kept x.method.is_static ∙ sym (ap (λ z. cond z (fiber x.program) (class_vtype x.method.owner)) (eq-eqb (fiber_slot x.method) j e)))
  ready_kept j (inr e) = let y = e.1 in ap (peek (ready x.method.is_static)) (sym e.1) ∙ (self_there x.method.is_static e.0 ∙ sym (ap (λ z. cond z (fiber x.program) (class_vtype x.method.owner)) (ne_eqb (fiber_slot x.method) j (λ n. omega (arith, n, y)))))

  ready_covers : (S : ℕ → Type 0) → Covers x.at S (entry x.method).locals (ready x.method.is_static)
  ready_covers S j s top =
      let h = peek_end (entry x.method).locals j top in
      let l = entry_length x.method in
      ready_below x.method.is_static j (omega (arith, h, l)) ∙ (peek_front (entry x.method).locals (fiber x.program ∷ []) j h
      ∙ (ap (λ ls. peek ls j) (sym (moved_entry x.at x.method)) ∙ peek_map x.at (entry x.method).locals j))

  -- ---- the switch

  resume_flows : FlowsInto W (state (ready x.method.is_static) []) (frame_types (resume_frame x))
  resume_flows = record {
    locals = flow.slot_flows x W w whole (λ j. Top) (ready x.method.is_static) ready_kept (λ j h. refl);
    stack = refl;
    unset = λ e. absurd (false≢true e);
  }

  jumps_by : (o : Option Method) (number : ℕ) (es : List (ℕ × Instr)) → ((n : ℕ) → Blocked x w n es → Jumps W w (state (ready x.method.is_static) []) (resume_places x n es)) →
      (is_some o ≡ true → declared w (x.block number) ≡ Some (frame_types (resume_frame x))) × Blocked x w (count o number) es →
      Jumps W w (state (ready x.method.is_static) []) (cond (is_some o) (x.block number ∷ resume_places x (suc number) es) (resume_places x number es))
  jumps_by None number es go b = go number b.1
  jumps_by (Some callee) number es go b = ((frame_types (resume_frame x), b.0 refl, resume_flows), go (suc number) b.1)

  resume_jumps : (number : ℕ) (es : List (ℕ × Instr)) → Blocked x w number es → Jumps W w (state (ready x.method.is_static) []) (resume_places x number es)
  resume_jumps number [] b = tt
  resume_jumps number (e ∷ es) b = jumps_by (pausable_callee x.program e.1) number es (λ n. resume_jumps n es) b

  -- where the old code begins
  begins : (es : List (ℕ × Instr)) → TypedBy x.program x.method x.typing (Some (entry x.method)) es → Marked x w true es → first_place es x.method.code_length ≡ 0 →
      FlowsInto x.program (entry x.method) (x.typing 0) × (declared w (x.at 0) ≡ Some (frame_types (old_frame x 0)))
  begins [] t m z = absurd (cc)
  begins (e ∷ es) t m z = (
    subst (λ p. FlowsInto x.program (entry x.method) (x.typing p)) z (here_flows x W w whole (entry x.method) (x.typing e.0) (declared x.method e.0) t.0),
    subst (λ p. declared w (x.at p) ≡ Some (frame_types (old_frame x p))) z (m.0 refl),
  )

  switch_runs : (rest : List Item) → TypedBy x.program x.method x.typing (Some (entry x.method)) x.method.code → Marked x w true x.method.code → Blocked x w 1 x.method.code → first_place x.method.code x.method.code_length ≡ 0 → Starts x W w whole rest →
      Runs x W w whole (state (ready x.method.is_static) (Int ∷ [])) (switch_item x ∷ rest)
  unfolding row jump_targets ends_path
  switch_runs rest t m b z r =
      let cl = ready x.method.is_static in
      let at_start = begins x.method.code t m z in
      add.last x W w whole (Tableswitch (x.at 0) (pos 1) (resume_places x 1 x.method.code)) _ false (state cl (Int ∷ [])) (state cl []) rest
      (λ q. add.takes_step x W w whole q (Tableswitch (x.at 0) (pos 1) (resume_places x 1 x.method.code)) (Is Int ∷ []) [] [] cl (Int ∷ []) refl (omega arith) (omega arith) (add.int_meets x W w whole []) refl) (
        (
          frame_types (old_frame x 0),
          at_start.1,
          flow.flows_old x W w whole 0 (entry x.method).locals [] cl (ready_covers (λ j. x.live 0 j ≡ true)) ready_kept (subst (λ f. FlowsInto x.program f (x.typing 0)) old_entry at_start.0),
        ),
        resume_jumps 1 x.method.code b,
      )
      refl r

  self_within : (b : Bool) → b ≡ false → fiber_slot x.method + cond b 1 2 ≤ w.max_locals → self_slot x.method + 1 ≤ w.max_locals
  self_within true e h = absurd (cc)
  self_within false e h = omega (arith, h)

  keep_by : (b : Bool) (rest : List Item) → x.method.is_static ≡ b → 4 ≤ w.max_stack → Runs x W w whole (state (ready b) []) rest →
      Runs x W w whole (state with_fiber []) (cond b rest (added (Aload 0) 1 ∷ added (Astore (self_slot x.method)) (local_size (self_slot x.method)) ∷ rest))
  unfolding row jump_targets ends_path meets
  keep_by true rest e room r = r
  keep_by false rest e room r =
      let self = class_vtype x.method.owner in
      let below = below_fiber in
      let least = this_first x.method e in
      let slots = subst (λ b. fiber_slot x.method + cond b 1 2 ≤ w.max_locals) e whole.slots in
      add.one x W w whole (Aload 0) _ false (state with_fiber []) (state with_fiber (self ∷ [])) _
      (λ q. add.loads_step x W w whole q (Aload 0) AReference 0 self with_fiber [] refl (omega arith)
      (stored_below (fiber x.program) start (fiber_slot x.method) 0 (omega (arith, below, least)) ∙ this_at x.method (fiber x.program ∷ []) e whole.shared.plain)
      (omega (arith, slots)) (omega (arith, room)) refl) tt refl
      (add.one x W w whole (Astore (self_slot x.method)) _ false (state with_fiber (self ∷ [])) (state (ready false) []) rest
      (λ q. add.stores_step x W w whole q (Astore (self_slot x.method)) AReference (self_slot x.method) self with_fiber [] refl (omega (arith, slots)) refl) tt refl r)

  prologue_runs : (rest : List Item) → TypedBy x.program x.method x.typing (Some (entry x.method)) x.method.code → Marked x w true x.method.code → Blocked x w 1 x.method.code → first_place x.method.code x.method.code_length ≡ 0 → Starts x W w whole rest →
      Runs x W w whole (state start []) (prologue x rest)
  unfolding row jump_targets ends_path meets
  prologue_runs rest t m b z r =
      let more = whole.room in
      let within = add.fiber_within x W w whole in
      let below = below_fiber in
      let f = fiber x.program in
      add.one x W w whole (Aload (argument_slots x.method)) _ false (state start []) (state start (f ∷ [])) _
      (λ q. add.loads_step x W w whole q (Aload (argument_slots x.method)) AReference (argument_slots x.method) f start [] refl (omega arith) (peek_last (entry x.method).locals f (argument_slots x.method) (sym (entry_length x.method))) (omega (arith, within, below)) (omega (arith, more)) refl) tt refl
      (add.one x W w whole (Astore (fiber_slot x.method)) _ false (state start (f ∷ [])) (state with_fiber []) _
      (λ q. add.stores_step x W w whole q (Astore (fiber_slot x.method)) AReference (fiber_slot x.method) f start [] refl (omega (arith, within)) refl) tt refl
      (keep_by x.method.is_static _ refl (omega (arith, more))
      (add.load_runs x W w whole (ready x.method.is_static) [] _ ready_kept (omega (arith, more))
      (add.member_runs x W w whole (member x.program 0) int_ty Int (ready x.method.is_static) [] _ whole.members.pc refl (omega (arith, more))
      (switch_runs rest t m b z r)))))

  -- ---- the whole

  pub woven_walk : TypedBy x.program x.method x.typing (Some (entry x.method)) x.method.code → Facts x x.method.code → Marked x w true x.method.code → Blocked x w 1 x.method.code → first_place x.method.code x.method.code_length ≡ 0 →
      Stands x w 0 None (woven_items x) → Typed W w (Some (entry w)) w.code
  woven_walk t f m b z st =
      let blocks_start = blocks_start x W w whole x.method.code true 1 (Some (entry x.method)) t f m in
      let old : Starts x W w whole (pieces x true 1 x.method.code (blocks x 1 x.method.code)) = record { go = λ q s. pieces_typed x W w whole x.method.code true 1 (Some (entry x.method)) None q (blocks x 1 x.method.code) t f m refl blocks_start s } in
      let run = prologue_runs (pieces x true 1 x.method.code (blocks x 1 x.method.code)) t m b z old in
      subst (λ code. Typed W w (Some (entry w)) code) (sym woven.code)
      (subst (λ e. Typed W w (Some e) (lay 0 (woven_items x))) (sym entry_is) (run.go (Some (state start [])) None 0 refl st))
