-- The woven form of a method as facts by old place.
use Rattle.std.proofs.Common.{◌≡◌, ℕ, Bool, true, false, List, ◌∷◌, Option, Some, None, sym, ap, subst, ◌∙◌}
use Rattle.std.specs.Prelude.{if◌then◌else◌}
use Rattle.kilim_program.specs.declared.class.Method.{Method}
use Rattle.kilim_program.specs.declared.instr.Instr.{Instr}
use Rattle.kilim_program.specs.declared.instr.Instr.TheVariants as instr
use Rattle.kilim_program.specs.Program.{Program}
use Rattle.kilim_program.specs.Lengths.{fetched}
use Rattle.kilim_weave_spec.specs.Woven.{local_size, self_slot, Plan, Item, added, lay, behind, load_fiber, calls_member, drop_result, leave, piece, pieces, blocks, pausable_callee, resume_code}
use Rattle.kilim_fiber_spec.specs.Fibers.{marked}
use Rattle.kilim_fiber_spec.specs.Form.{HasAt}
use Rattle.kilim_program.specs.declared.names.MethodId.{MethodId}
use Rattle.kilim_program.specs.Names.{method_at}
use Rattle.kilim_type_spec.specs.Step.{Types}
use Rattle.kilim_weave_spec.specs.Woven.{IsWovenBy, woven_items, member, fiber_slot, switch_item}
use Rattle.kilim_fiber_spec.specs.Thread.{code_in, fetch}
use Rattle.kilim_fiber_spec.specs.Fibers.{wcode_in}
use Rattle.kilim_fiber_spec.specs.Form.{Form, Stays, Starts}
use Rattle.kilim_fiber_laws.proofs.stands.Laid.{Wide, Laid, stand, forget, find, find_block, past_pieces, EndsPath, number_at}

-- the code of a woven method is what its items lay out
pub laid_out : (x : Plan) (w : Method) (ms : List Bool) → IsWovenBy x w ms → Wide 0 (woven_items x) → Laid (wcode_in ms (Some w)) x 0 (woven_items x)
laid_out x w ms woven wide = stand (wcode_in ms (Some w)) x 0 (woven_items x) wide woven.labels
    (λ p h. ap (λ (z : Method). marked z.code ms z.code_length p) woven.method ∙ ap (λ (b : List Bool). marked (lay 0 (woven_items x)) b (behind 0 (woven_items x)) p) woven.counts)

module _ (P W : Program) (code : MethodId → ℕ → Option (Instr × ℕ × Bool)) (m : MethodId) (method : Method) (typing : ℕ → Types) (live : ℕ → ℕ → Bool) (at : ℕ → ℕ) (block_at : ℕ → ℕ)
    (there : method_at P m ≡ Some method) (ends : EndsPath method.code)
    (laid : Laid (code m) (record { program = P; method = method; typing = typing; live = live; at = at; block = block_at }) 0 (woven_items (record { program = P; method = method; typing = typing; live = live; at = at; block = block_at }))) where
  abbrev x : Plan
  x = record { program = P; method = method; typing = typing; live = live; at = at; block = block_at }

  -- the place behind the instruction there
  abbrev behind_of : Option (Instr × ℕ × Bool) → ℕ
  behind_of None = 0
  behind_of (Some i) = i.1

  abbrev nxt : ℕ → ℕ
  nxt q = behind_of (code m q)

  abbrev pub form : Form P W code m
  form = record {
    method = method;
    there = λ a e. ap (value (Some method)) (sym e ∙ there);
    typing = typing;
    live = live;
    at = at;
    block_at = block_at;
    has_calls = true;
    number = number_at x 1 method.code;
    call_at = λ p. nxt (nxt (at p));
    up_at = λ p. nxt (nxt (nxt (at p)));
    block = λ p. block_at (number_at x 1 method.code p);
  }
    where
      value : Option Method → Option Method → Method
      value d None = method
      value d (Some a) = a

  -- what stands behind the prologue
  pub past_prologue : (q : ℕ) × Laid (code m) x q (pieces x true 1 method.code (blocks x 1 method.code))
  past_prologue =
      let r = past_self method.is_static laid.2.2 in
      (r.1.2.2.0, r.1.2.2.2)
    where
      tail : List Item
      tail = load_fiber x ∷ calls_member x 0 ∷ switch_item x ∷ pieces x true 1 method.code (blocks x 1 method.code)

      past_self : (b : Bool) → Laid (code m) x laid.2.0 (if b then load_fiber x ∷ calls_member x 0 ∷ switch_item x ∷ pieces x true 1 method.code (blocks x 1 method.code) else added (instr.Aload 0) 1 ∷ added (instr.Astore (self_slot method)) (local_size (self_slot method)) ∷ load_fiber x ∷ calls_member x 0 ∷ switch_item x ∷ pieces x true 1 method.code (blocks x 1 method.code))
          → (q : ℕ) × Laid (code m) x q (load_fiber x ∷ calls_member x 0 ∷ switch_item x ∷ pieces x true 1 method.code (blocks x 1 method.code))
      past_self true h = (laid.2.0, h)
      past_self false h = (h.2.0, h.2.2)

  fetched_is : (p to : ℕ) (i : Instr) → fetch P m p ≡ Some (i, to) → fetched method.code method.code_length p ≡ Some (i, to)
  fetched_is p to i h = ap (λ (o : Option Method). code_in o p) (sym there) ∙ h

  pub stays : (p to : ℕ) (i : Instr) → fetch P m p ≡ Some (i, to) → pausable_callee P i ≡ None → Stays P W code form p to i
  stays p to i hf hp =
      let r = past_prologue in
      let pc = find (code m) x method.code true 1 (blocks x 1 method.code) r.0 p to i ends (fetched_is p to i hf) r.1 in
      let l = subst (λ (o : Option Method). Laid (code m) x (at p) (piece o x pc.first (number_at x 1 method.code p) p to i pc.rest)) hp pc.laid in
      record { next = l.1.0; is = l.1.1; goes = λ g. sym (pc.goes g l.1.0 l.1.2) }

  pub starts : Starts P W code form true
  starts = (pieces x true 1 method.code (blocks x 1 method.code), forget (code m) x (woven_items x) 0 laid)

  -- what stands at a pausable call
  pub record Placed_group (p to : ℕ) (i : Instr) (callee : Method) : Type 0 where
    pub down_at : ℕ
    pub load : code m (at p) ≡ Some (instr.Aload (fiber_slot method), down_at, false)
    pub down : code m down_at ≡ Some (instr.Invokevirtual (member P 1), form.call_at p, false)
    pub call : code m (form.call_at p) ≡ Some (i, form.up_at p, true)
    pub up_rest : List Item
    pub up : HasAt (code m) (form.up_at p) (load_fiber x ∷ calls_member x 2 ∷ added (instr.Ifeq (at to)) 3 ∷ drop_result callee.result (leave x (form.number p) callee p to up_rest))
    pub back_rest : List Item
    pub back : HasAt (code m) (form.block p) (resume_code x callee p to back_rest)

  pub group_stands : (p to : ℕ) (i : Instr) (callee : Method) → fetch P m p ≡ Some (i, to) → pausable_callee P i ≡ Some callee → Placed_group p to i callee
  group_stands p to i callee hf hp =
      let r = past_prologue in
      let hm = fetched_is p to i hf in
      let pc = find (code m) x method.code true 1 (blocks x 1 method.code) r.0 p to i ends hm r.1 in
      let n = number_at x 1 method.code p in
      let l0 = subst (λ (o : Option Method). Laid (code m) x (at p) (piece o x pc.first (number_at x 1 method.code p) p to i pc.rest)) hp pc.laid in
      let l = l0.1 in
      let c1 = ap behind_of l.1 in
      let c2 = ap nxt c1 ∙ ap behind_of l.2.1 in
      let c3 = ap nxt c2 ∙ ap behind_of l.2.2.1 in
      let u = l.2.2.2 in
      let bs = past_pieces (code m) x method.code true 1 (blocks x 1 method.code) r.0 r.1 in
      let bk = find_block (code m) x method.code 1 bs.0 p to i callee hm hp bs.1 in
      record {
        down_at = l.0;
        load = l.1;
        down = l.2.1 ∙ ap (λ (q : ℕ). Some (instr.Invokevirtual (member P 1), q, false)) (sym c2);
        call = ap (code m) c2 ∙ l.2.2.1 ∙ ap (λ (q : ℕ). Some (i, q, true)) (sym c3);
        up_rest = pc.rest;
        up = subst (λ (q : ℕ). HasAt (code m) q (load_fiber x ∷ calls_member x 2 ∷ added (instr.Ifeq (at to)) 3 ∷ drop_result callee.result (leave x (number_at x 1 method.code p) callee p to pc.rest))) (sym c3) (forget (code m) x (load_fiber x ∷ calls_member x 2 ∷ added (instr.Ifeq (at to)) 3 ∷ drop_result callee.result (leave x (number_at x 1 method.code p) callee p to pc.rest)) l.2.2.0 u);
        back_rest = bk.0;
        back = forget (code m) x (resume_code x callee p to bk.0) (block_at (number_at x 1 method.code p)) bk.1;
      }
