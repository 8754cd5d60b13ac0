-- Groups whose handling blocks lower the level again, and the exception tables of a method and of its woven form.
use Rattle.std.specs.Prelude.{◌≡◌, ℕ, Bool, true, List, [], ◌∷◌, Option, Some, None, slice_get}
use Rattle.kilim_program.specs.declared.class.Handler.{Handler}
use Rattle.kilim_program.specs.declared.class.Method.{Method}
use Rattle.kilim_program.specs.declared.instr.Instr.{Instr}
use Rattle.kilim_program.specs.declared.instr.Instr.TheVariants.{Athrow, Pop}
use Rattle.kilim_program.specs.declared.names.ClassId.{ClassId}
use Rattle.kilim_program.specs.declared.names.MethodId.{MethodId}
use Rattle.kilim_program.specs.declared.value.Value.{Value}
use Rattle.kilim_program.specs.Names.{method_at}
use Rattle.kilim_program.specs.Program.{Program}
use Rattle.kilim_run_machine.specs.Raising.{IsEntry, call_in, covers, handler_of}
use Rattle.kilim_run_model.specs.State.{Setting}
use Rattle.kilim_weave_spec.specs.Woven.{Item, added, calls_member, load_fiber, pausable_callee, saved}
use Rattle.kilim_fiber_spec.specs.Form.{Among_slots, HasAt}
use Rattle.kilim_fiber_spec.specs.Links.{Forms, PLink, Pk, code, plan_of, shows}
use Rattle.kilim_fiber_spec.specs.Thread.{fetch}

abbrev pub handlers_in : Option Method → List Handler
handlers_in None = []
handlers_in (Some m) = m.handlers

abbrev pub handlers_of : Program → MethodId → List Handler
handlers_of p m = handlers_in (method_at p m)

-- the same entry, at the new place of its handler
abbrev pub Moves : (ℕ → ℕ) → Option Handler → Option Handler → Type 0
Moves at None None = Unit {0}
Moves at (Some h) (Some k) = k.at ≡ at h.at
Moves at o q = ⊥

module _ (set : Setting) (W : Program) (marks : List (List Bool)) (form : Forms set W marks) where
  -- The block of a group that handles what its call throws: the level is lowered again, and it is thrown on.
  pub record Block (m : MethodId) (p to : ℕ) (callee : Method) : Type 0 where
    pub handled : ℕ
    pub rest : List Item
    pub stands : HasAt (code set W marks m) handled (load_fiber (plan_of set W marks form m) ∷ calls_member (plan_of set W marks form m) 2 ∷ added Pop 1 ∷ added Athrow 1 ∷ rest)
    -- what is live at a handler whose range has the call is saved
    pub kept : (h : Handler) (k : ℕ) → IsEntry (handlers_of set.program m) h → covers h p ≡ true → shows set W marks form m h.at k ≡ true → Among_slots (saved (plan_of set W marks form m) p to) k

  abbrev pub Blocks : Type 0
  Blocks = (m : MethodId) (p to : ℕ) (i : Instr) (callee : Method) → fetch set.program m p ≡ Some (i, to) → pausable_callee set.program i ≡ Some callee → Block m p to callee

  -- where the block throws on
  abbrev pub throws_at : {m : MethodId} {p to : ℕ} {callee : Method} → Block m p to callee → ℕ
  throws_at b = b.stands.2.2.0

  -- the tables, for an object of a class
  pub record Tables (blocks : Blocks) (c : ClassId) : Type 0 where
    -- at an old instruction the old entries
    pub plain : (m : MethodId) (p to : ℕ) (i : Instr) → fetch set.program m p ≡ Some (i, to) → pausable_callee set.program i ≡ None → Moves (form m).at (handler_of set.program c p (handlers_of set.program m)) (handler_of W c ((form m).at p) (handlers_of W m))
    -- at the call of a group its handling block
    pub call : (m : MethodId) (p to : ℕ) (i : Instr) (callee : Method) (is : fetch set.program m p ≡ Some (i, to)) (pauses : pausable_callee set.program i ≡ Some callee) →
        (h : Handler) × (handler_of W c ((form m).call_at p) (handlers_of W m) ≡ Some h) × (h.at ≡ (blocks m p to i callee is pauses).handled)
    -- in the handling block the old entries again
    pub block : (m : MethodId) (p to : ℕ) (i : Instr) (callee : Method) (is : fetch set.program m p ≡ Some (i, to)) (pauses : pausable_callee set.program i ≡ Some callee) →
        Moves (form m).at (handler_of set.program c p (handlers_of set.program m)) (handler_of W c (throws_at (blocks m p to i callee is pauses)) (handlers_of W m))
    -- behind which call a frame stands
    pub behind : (m : MethodId) (p to : ℕ) (i : Instr) → fetch set.program m p ≡ Some (i, to) → call_in (method_at set.program m) to ≡ Some (p, i)
    pub behind_plain : (m : MethodId) (p to : ℕ) (i : Instr) → fetch set.program m p ≡ Some (i, to) → pausable_callee set.program i ≡ None → (j : Instr) × (call_in (method_at W m) ((form m).at to) ≡ Some ((form m).at p, j))
    pub behind_call : (m : MethodId) (p to : ℕ) (i : Instr) (callee : Method) → fetch set.program m p ≡ Some (i, to) → pausable_callee set.program i ≡ Some callee → (j : Instr) × (call_in (method_at W m) ((form m).up_at p) ≡ Some ((form m).call_at p, j))

  -- a slot that is live at a handler whose range has the place has one value on both sides
  abbrev pub AlikeCaught : MethodId → ℕ → List Value → List Value → Type 0
  AlikeCaught m p l wl = (h : Handler) (k : ℕ) → IsEntry (handlers_of set.program m) h → covers h p ≡ true → shows set W marks form m h.at k ≡ true → slice_get l k ≡ slice_get wl k

  -- the old call behind which a frame stands
  abbrev pub Behind : MethodId → ℕ → List Value → List Value → Type 0
  Behind m to l wl = (from : ℕ) × (i : Instr) × (fetch set.program m from ≡ Some (i, to)) × (pausable_callee set.program i ≡ None) × AlikeCaught m from l wl

  abbrev pub AllBehind : List PLink → Type 0
  AllBehind [] = Unit {0}
  AllBehind (Pk m to s l wl x ∷ ov) = Behind m to l wl × AllBehind ov
