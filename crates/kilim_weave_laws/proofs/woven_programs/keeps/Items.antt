-- Each item of a woven method has a length that its instruction has at its place, in code within reach.
use Rattle.std.proofs.Common.{◌≡◌, ℕ, zero, suc, ◌+◌, ◌*◌, ◌^◌, ◌≤◌, Bool, true, false, cond, pos, negsuc, leb-true, ◌+ℤ◌, int_le, List, [], ◌∷◌, drop, length, Option, Some, None, refl, ap, ◌∙◌, arith, eq-eqb}
use Rattle.std.specs.Prelude.{◌&&◌, not, ◌-◌, is_some, nat_le, nat_lt}
use Rattle.std.specs.List.{list_all}
use Rattle.std.proofs.lemmas.Bool.{and_parts, and_from}
use Rattle.std.proofs.lemmas.Int.{ints}
use Rattle.kilim_program.specs.declared.class.Method.{Method}
use Rattle.kilim_program.specs.declared.instr.Instr.{Instr}
use Rattle.kilim_program.specs.declared.instr.Instr.TheVariants.{AconstNull, Iconst, Bipush, Sipush, Pop, Return, Checkcast, Aload, Astore, Goto, Ifeq, Invokespecial, Invokestatic, Invokevirtual, Tableswitch}
use Rattle.kilim_program.specs.declared.ty.Base.{Base}
use Rattle.kilim_program.specs.declared.ty.Base.TheVariants as base
use Rattle.kilim_program.specs.declared.ty.Ty.{Ty}
use Rattle.kilim_program.specs.declared.verified.VType.{VType}
use Rattle.kilim_program.specs.declared.verified.VType.TheVariants.{Top, Int, Long, Null, UninitThis, Uninit, Object}
use Rattle.kilim_program.specs.Lengths.{first_place, has_length, is_far, is_reference, is_reference_type, is_table, jump_targets, switch_padding}
use Rattle.kilim_program.specs.Same.{argument_slots}
use Rattle.kilim_program.specs.Program.{Program}
use Rattle.kilim_type_spec.specs.Step.{base_vtype, dims_vtype, is_object, is_top, peek, vtype}
use Rattle.kilim_weave_spec.specs.Weight.{calls_in, one_more}
use Rattle.kilim_weave_spec.specs.Woven.{Plan, Item, Mark, Does, added, below, block, blocks, count, drop_result, dummies, dummy_of, dummy_return, fiber_slot, first_of, group, leave, load_of, local_size, pausable_callee, piece, pieces, pop_of, receiver, receiver_of, restore, restore_local, restore_locals, restore_receiver, restore_stack, resume_code, resume_places, return_of, save, save_local, save_locals, save_stack, saved, saved_from, self_slot, store_of, woven_items}
use Rattle.kilim_weave_laws.specs.woven_programs.keeps.Law.{reach}
use Rattle.kilim_weave_laws.proofs.woven_programs.keeps.Lengths.{all_far, jump_fits, local_fits, near, old_fits, reach_is}

none_is : {A : Type 0} (a : A) → None ≡ Some a → ⊥
none_is a e = cc

-- an instruction of that size, wherever it stands within reach and goes within reach
abbrev pub Fit : Instr → (ℕ → ℕ) → Type 0
Fit i size = (q : ℕ) → q + size q ≤ reach → list_all near (jump_targets i) ≡ true → has_length q i (size q) ≡ true

abbrev pub AllFit : List Item → Type 0
AllFit [] = Unit {0}
AllFit (Mark label frame ∷ rest) = AllFit rest
AllFit (Does i size counted ∷ rest) = Fit i size × AllFit rest

-- ---- numbers

not_negative : (n : ℕ) → int_le (negsuc 0) (pos n) ≡ true
not_negative n = grind (arith, ints)

up_to_five : (n : ℕ) → n ≤ 5 → int_le (pos n) (pos 5) ≡ true
up_to_five n h = grind (arith, ints)

table_few : (n : ℕ) → n ≤ 32767 → int_le (pos 1 +ℤ pos n) (pos (2 ^ 31)) ≡ true
table_few n h = grind (arith, ints)

-- ---- types

base_back : (ty : Ty) (b : Base) → is_object (base_vtype ty b) ≡ true → is_reference_type 0 b ≡ true
base_back ty (base.Class c) e = refl
base_back ty base.Bool e = absurd (cc)
base_back ty base.Byte e = absurd (cc)
base_back ty base.Char e = absurd (cc)
base_back ty base.Short e = absurd (cc)
base_back ty base.Int e = absurd (cc)
base_back ty base.Long e = absurd (cc)

pub dims_back : (ty : Ty) (d : ℕ) → is_object (dims_vtype ty d) ≡ true → is_reference_type d ty.base ≡ true
dims_back ty zero e = base_back ty ty.base e
dims_back ty (suc d) e = refl

-- an object is a class or an array
abbrev pub okay : VType → Bool
okay (Object ty) = is_object (vtype ty)
okay t = true

-- ---- single instructions

load_fit : (slot : ℕ) (t : VType) → Fit (load_of slot t) (λ q. local_size slot)
unfolding has_length
load_fit slot Int q le is = local_fits slot
load_fit slot Long q le is = local_fits slot
load_fit slot Top q le is = local_fits slot
load_fit slot Null q le is = local_fits slot
load_fit slot UninitThis q le is = local_fits slot
load_fit slot (Uninit p) q le is = local_fits slot
load_fit slot (Object ty) q le is = local_fits slot

store_fit : (slot : ℕ) (t : VType) → Fit (store_of slot t) (λ q. local_size slot)
unfolding has_length
store_fit slot Int q le is = local_fits slot
store_fit slot Long q le is = local_fits slot
store_fit slot Top q le is = local_fits slot
store_fit slot Null q le is = local_fits slot
store_fit slot UninitThis q le is = local_fits slot
store_fit slot (Uninit p) q le is = local_fits slot
store_fit slot (Object ty) q le is = local_fits slot

dummy_fit : (t : VType) → Fit (dummy_of t) (λ q. 1)
unfolding has_length
dummy_fit Int q le is = refl
dummy_fit Long q le is = refl
dummy_fit Top q le is = refl
dummy_fit Null q le is = refl
dummy_fit UninitThis q le is = refl
dummy_fit (Uninit p) q le is = refl
dummy_fit (Object ty) q le is = refl

return_fit : (t : VType) → Fit (return_of t) (λ q. 1)
unfolding has_length
return_fit Int q le is = refl
return_fit Long q le is = refl
return_fit Top q le is = refl
return_fit Null q le is = refl
return_fit UninitThis q le is = refl
return_fit (Uninit p) q le is = refl
return_fit (Object ty) q le is = refl

pop_fit : (t : VType) → Fit (pop_of t) (λ q. 1)
unfolding has_length
pop_fit Long q le is = refl
pop_fit Int q le is = refl
pop_fit Top q le is = refl
pop_fit Null q le is = refl
pop_fit UninitThis q le is = refl
pop_fit (Uninit p) q le is = refl
pop_fit (Object ty) q le is = refl

aload_fit : (slot : ℕ) → Fit (Aload slot) (λ q. local_size slot)
unfolding has_length
aload_fit slot q le is = local_fits slot

astore_fit : (slot : ℕ) → Fit (Astore slot) (λ q. local_size slot)
unfolding has_length
astore_fit slot q le is = local_fits slot

virtual_fit : (id : _) → Fit (Invokevirtual id) (λ q. 3)
unfolding has_length
virtual_fit id q le is = refl

static_fit : (id : _) → Fit (Invokestatic id) (λ q. 3)
unfolding has_length
static_fit id q le is = refl

null_fit : Fit AconstNull (λ q. 1)
unfolding has_length
null_fit q le is = refl

pop_one : Fit Pop (λ q. 1)
unfolding has_length
pop_one q le is = refl

void_fit : Fit Return (λ q. 1)
unfolding has_length
void_fit q le is = refl

cast_fit : (ty : Ty) → okay (Object ty) ≡ true → Fit (Checkcast ty) (λ q. 3)
unfolding has_length
cast_fit ty h q le is = and_from (is_reference ty) _ (dims_back ty ty.dims h) refl

goto_fit : (to : ℕ) → Fit (Goto to) (λ q. 3)
unfolding has_length jump_targets
goto_fit to q le is = jump_fits q to 3 (omega (arith, le)) (and_parts (near to) true is).0 refl

ifeq_fit : (to : ℕ) → Fit (Ifeq to) (λ q. 3)
unfolding has_length jump_targets
ifeq_fit to q le is = jump_fits q to 3 (omega (arith, le)) (and_parts (near to) true is).0 refl

call_fit : (p : Program) (i : Instr) (callee : Method) → pausable_callee p i ≡ Some callee → Fit i (λ q. 3)
unfolding has_length
call_fit p (Invokevirtual id) callee n q le is = refl
call_fit p (Invokespecial id) callee n q le is = refl
call_fit p (Invokestatic id) callee n q le is = refl
call_fit p i callee n q le is = absurd (none_is callee n)

-- ---- stretches

module _ (x : Plan) where
  fiber_fit : Fit (Aload (fiber_slot x.method)) (λ q. local_size (fiber_slot x.method))
  fiber_fit = aload_fit (fiber_slot x.method)

  save_fit : (t : VType) (rest : List Item) → AllFit rest → AllFit (save x t rest)
  save_fit Int rest r = (fiber_fit, (static_fit _, r))
  save_fit Long rest r = (fiber_fit, (static_fit _, r))
  save_fit (Object ty) rest r = (fiber_fit, (static_fit _, r))
  save_fit Top rest r = (pop_one, r)
  save_fit Null rest r = (pop_one, r)
  save_fit UninitThis rest r = (pop_one, r)
  save_fit (Uninit p) rest r = (pop_one, r)

  save_stack_fit : (ts : List VType) (rest : List Item) → AllFit rest → AllFit (save_stack x ts rest)
  save_stack_fit [] rest r = r
  save_stack_fit (t ∷ ts) rest r = save_fit t (save_stack x ts rest) (save_stack_fit ts rest r)

  save_local_fit : (slot : ℕ) (t : VType) (rest : List Item) → AllFit rest → AllFit (save_local x slot t rest)
  save_local_fit slot Null rest r = r
  save_local_fit slot Int rest r = (load_fit slot Int, save_fit Int rest r)
  save_local_fit slot Long rest r = (load_fit slot Long, save_fit Long rest r)
  save_local_fit slot Top rest r = (load_fit slot Top, save_fit Top rest r)
  save_local_fit slot UninitThis rest r = (load_fit slot UninitThis, save_fit UninitThis rest r)
  save_local_fit slot (Uninit p) rest r = (load_fit slot (Uninit p), save_fit (Uninit p) rest r)
  save_local_fit slot (Object ty) rest r = (load_fit slot (Object ty), save_fit (Object ty) rest r)

  save_locals_fit : (es : List (ℕ × VType)) (rest : List Item) → AllFit rest → AllFit (save_locals x es rest)
  save_locals_fit [] rest r = r
  save_locals_fit (e ∷ es) rest r = save_local_fit e.0 e.1 (save_locals x es rest) (save_locals_fit es rest r)

  restore_fit : (t : VType) (rest : List Item) → okay t ≡ true → AllFit rest → AllFit (restore x t rest)
  restore_fit Int rest h r = (fiber_fit, (virtual_fit _, r))
  restore_fit Long rest h r = (fiber_fit, (virtual_fit _, r))
  restore_fit (Object ty) rest h r = (fiber_fit, (virtual_fit _, (cast_fit ty h, r)))
  restore_fit Top rest h r = (null_fit, r)
  restore_fit Null rest h r = (null_fit, r)
  restore_fit UninitThis rest h r = (null_fit, r)
  restore_fit (Uninit p) rest h r = (null_fit, r)

  restore_stack_fit : (ts : List VType) (rest : List Item) → list_all okay ts ≡ true → AllFit rest → AllFit (restore_stack x ts rest)
  restore_stack_fit [] rest h r = r
  restore_stack_fit (t ∷ ts) rest h r = let p = and_parts (okay t) (list_all okay ts) h in restore_stack_fit ts (restore x t rest) p.1 (restore_fit t rest p.0 r)

  restore_locals_fit : (es : List (ℕ × VType)) (rest : List Item) → list_all (λ e. okay e.1) es ≡ true → AllFit rest → AllFit (restore_locals x es rest)
  restore_locals_fit [] rest h r = r
  restore_locals_fit (e ∷ es) rest h r =
      let p = and_parts (okay e.1) (list_all (λ d. okay d.1) es) h in
      restore_locals_fit es (restore_local x e.0 e.1 rest) p.1 (restore_fit e.1 _ p.0 (store_fit e.0 e.1, r))

  number_fit : (a b : Bool) (n : ℕ) (rest : List Item) → nat_le n 5 ≡ a → AllFit rest →
      AllFit (cond a (added (Iconst (pos n)) 1) (cond b (added (Bipush (pos n)) 2) (added (Sipush (pos n)) 3)) ∷ rest)
  unfolding has_length
  number_fit true b n rest e r = (λ q le is. and_from (int_le (negsuc 0) (pos n)) _ (not_negative n) (and_from (int_le (pos n) (pos 5)) _ (up_to_five n (leb-true n 5 e)) refl), r)
  number_fit false true n rest e r = (λ q le is. refl, r)
  number_fit false false n rest e r = (λ q le is. refl, r)

  self_fit : (b : Bool) (rest : List Item) → AllFit rest → AllFit (cond b (added AconstNull 1) (added (Aload (self_slot x.method)) (local_size (self_slot x.method))) ∷ rest)
  self_fit true rest r = (null_fit, r)
  self_fit false rest r = (aload_fit (self_slot x.method), r)

  dummy_return_fit : (o : Option Ty) (rest : List Item) → AllFit rest → AllFit (dummy_return o rest)
  dummy_return_fit None rest r = (void_fit, r)
  dummy_return_fit (Some ty) rest r = (dummy_fit (vtype ty), (return_fit (vtype ty), r))

  drop_result_fit : (o : Option Ty) (rest : List Item) → AllFit rest → AllFit (drop_result o rest)
  drop_result_fit None rest r = r
  drop_result_fit (Some ty) rest r = (pop_fit (vtype ty), r)

  dummies_fit : (tys : List Ty) (rest : List Item) → AllFit rest → AllFit (dummies tys rest)
  dummies_fit [] rest r = r
  dummies_fit (ty ∷ tys) rest r = (dummy_fit (vtype ty), dummies_fit tys rest r)

  receiver_fit : (t : VType) (rest : List Item) → okay t ≡ true → AllFit rest → AllFit (receiver_of x t rest)
  receiver_fit (Object ty) rest h r = (fiber_fit, (virtual_fit _, (cast_fit ty h, r)))
  receiver_fit Int rest h r = (null_fit, r)
  receiver_fit Long rest h r = (null_fit, r)
  receiver_fit Top rest h r = (null_fit, r)
  receiver_fit Null rest h r = (null_fit, r)
  receiver_fit UninitThis rest h r = (null_fit, r)
  receiver_fit (Uninit p) rest h r = (null_fit, r)

  restore_receiver_fit : (b : Bool) (t : VType) (rest : List Item) → okay t ≡ true → AllFit rest → AllFit (restore_receiver b x t rest)
  restore_receiver_fit true t rest h r = r
  restore_receiver_fit false t rest h r = receiver_fit t rest h r

  leave_fit : (number : ℕ) (callee : Method) (place next : ℕ) (rest : List Item) → AllFit rest → AllFit (leave x number callee place next rest)
  leave_fit number callee place next rest r =
      save_stack_fit (below x callee place) _ (save_locals_fit (saved x place next) _
      (number_fit (nat_le number 5) (nat_le number 127) number _ refl (self_fit x.method.is_static _ (fiber_fit, (static_fit _, dummy_return_fit x.method.result rest r)))))

  group_fit : (number : ℕ) (callee : Method) (place next : ℕ) (i : Instr) (rest : List Item) → pausable_callee x.program i ≡ Some callee → AllFit rest → AllFit (group x number callee place next i rest)
  group_fit number callee place next i rest n r =
      (fiber_fit, (virtual_fit _, (call_fit x.program i callee n, (fiber_fit, (virtual_fit _, (ifeq_fit (x.at next), drop_result_fit callee.result _ (leave_fit number callee place next rest r)))))))

  -- what is restored at a place is okay
  pub record Ready (e : ℕ × Instr) (to : ℕ) : Type 0 where
    pub length_is : has_length e.0 e.1 (to - e.0) ≡ true
    pub stack : list_all okay (x.typing e.0).stack ≡ true
    pub locals : (k : ℕ) → okay (peek (x.typing e.0).locals k) ≡ true

  abbrev pub AllReady : List (ℕ × Instr) → Type 0
  AllReady [] = Unit {0}
  AllReady (e ∷ es) = Ready e (first_place es x.method.code_length) × AllReady es

  drop_okay : (n : ℕ) (ts : List VType) → list_all okay ts ≡ true → list_all okay (drop n ts) ≡ true
  drop_okay zero ts h = h
  drop_okay (suc n) [] h = refl
  drop_okay (suc n) (t ∷ ts) h = drop_okay n ts (and_parts (okay t) (list_all okay ts) h).1

  first_okay : (ts : List VType) → list_all okay ts ≡ true → okay (first_of ts) ≡ true
  first_okay [] h = refl
  first_okay (t ∷ ts) h = (and_parts (okay t) (list_all okay ts) h).0

  saved_okay : (live : ℕ → Bool) (k : ℕ) (ts : List VType) → ((j : ℕ) → okay (peek ts j) ≡ true) → list_all (λ e. okay e.1) (saved_from live k ts) ≡ true
  saved_okay live k [] h = refl
  saved_okay live k (t ∷ ts) h = by (live k && not (is_top t)) (saved_okay live (suc k) ts (λ j. h (suc j)))
    where
      by : (b : Bool) → list_all (λ e. okay e.1) (saved_from live (suc k) ts) ≡ true → list_all (λ e. okay e.1) (cond b ((k, t) ∷ saved_from live (suc k) ts) (saved_from live (suc k) ts)) ≡ true
      by true r = and_from (okay t) _ (h 0) r
      by false r = r

  resume_fit : (callee : Method) (e : ℕ × Instr) (to : ℕ) (rest : List Item) → Ready e to → AllFit rest → AllFit (resume_code x callee e.0 to rest)
  resume_fit callee e to rest ready r =
      restore_locals_fit (saved x e.0 to) _ (saved_okay (x.live to) 0 (x.typing e.0).locals ready.locals)
      (restore_stack_fit (below x callee e.0) _ (drop_okay _ (x.typing e.0).stack ready.stack)
      (restore_receiver_fit callee.is_static (receiver x callee e.0) _ (first_okay (drop (length callee.params) (x.typing e.0).stack) (drop_okay (length callee.params) (x.typing e.0).stack ready.stack))
      (dummies_fit callee.params _ (goto_fit (x.at e.0), r))))

  -- ---- all items

  piece_fit : (o : Option Method) (first : Bool) (number : ℕ) (e : ℕ × Instr) (to : ℕ) (rest : List Item) → pausable_callee x.program e.1 ≡ o → Ready e to → AllFit rest → AllFit (piece o x first number e.0 to e.1 rest)
  piece_fit None first number e to rest n ready r = (λ q le is. old_fits x.at e.1 e.0 (to - e.0) q ready.length_is (omega (arith, le)) is, r)
  piece_fit (Some callee) first number e to rest n ready r = group_fit number callee e.0 to e.1 rest n r

  pieces_fit : (es : List (ℕ × Instr)) (first : Bool) (number : ℕ) (rest : List Item) → AllReady es → AllFit rest → AllFit (pieces x first number es rest)
  pieces_fit [] first number rest a r = r
  pieces_fit (e ∷ es) first number rest a r =
      let o = pausable_callee x.program e.1 in
      piece_fit o first number e (first_place es x.method.code_length) _ refl a.0 (pieces_fit es (is_some o) (count o number) rest a.1 r)

  block_fit : (o : Option Method) (number : ℕ) (e : ℕ × Instr) (to : ℕ) (rest : List Item) → Ready e to → AllFit rest → AllFit (block o x number e.0 to rest)
  block_fit None number e to rest ready r = r
  block_fit (Some callee) number e to rest ready r = resume_fit callee e to rest ready r

  blocks_fit : (es : List (ℕ × Instr)) (number : ℕ) → AllReady es → AllFit (blocks x number es)
  blocks_fit [] number a = tt
  blocks_fit (e ∷ es) number a = let o = pausable_callee x.program e.1 in block_fit o number e (first_place es x.method.code_length) _ a.0 (blocks_fit es (count o number) a.1)

  resume_count : (number : ℕ) (es : List (ℕ × Instr)) → length (resume_places x number es) ≡ calls_in x.program es
  resume_count number [] = refl
  resume_count number (e ∷ es) = by (pausable_callee x.program e.1) (resume_count (suc number) es) (resume_count number es)
    where
      by : (o : Option Method) → length (resume_places x (suc number) es) ≡ calls_in x.program es → length (resume_places x number es) ≡ calls_in x.program es → length (cond (is_some o) (x.block number ∷ resume_places x (suc number) es) (resume_places x number es)) ≡ one_more o (calls_in x.program es)
      by None a b = b
      by (Some callee) a b = ap suc a

  switch_fit : nat_lt 0 (calls_in x.program x.method.code) ≡ true → (targets : List ℕ) → length targets ≡ calls_in x.program x.method.code → Fit (Tableswitch (x.at 0) (pos 1) targets) (λ place. 13 + (switch_padding place + 4 * length targets))
  unfolding has_length jump_targets
  switch_fit some targets n q le is =
      let r = reach_is in
      let few : length targets ≤ 32767 = omega (arith, le, r) in
      and_from (is_table (pos 1) targets) _ (and_from (nat_lt 0 (length targets)) _ (ap (nat_lt 0) n ∙ some) (table_few (length targets) few))
      (and_from (list_all (is_far q) (x.at 0 ∷ targets)) _ (all_far q (x.at 0 ∷ targets) (omega (arith, le)) is) (eq-eqb _ _ (omega arith)))

  self_items : (b : Bool) (rest : List Item) → AllFit rest → AllFit (cond b rest (added (Aload 0) 1 ∷ added (Astore (self_slot x.method)) (local_size (self_slot x.method)) ∷ rest))
  self_items true rest r = r
  self_items false rest r = (aload_fit 0, (astore_fit (self_slot x.method), r))

  pub items_fit : nat_lt 0 (calls_in x.program x.method.code) ≡ true → AllReady x.method.code → AllFit (woven_items x)
  items_fit some a = (
    aload_fit (argument_slots x.method),
    (
      astore_fit (fiber_slot x.method),
      self_items x.method.is_static _ (
        fiber_fit,
        (
          virtual_fit _,
          (
            switch_fit some (resume_places x 1 x.method.code) (resume_count 1 x.method.code),
            pieces_fit x.method.code true 1 _ a (blocks_fit x.method.code 1 a),
          ),
        ),
      ),
    ),
  )
