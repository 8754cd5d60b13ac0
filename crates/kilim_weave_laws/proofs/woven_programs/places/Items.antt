-- What the items of a woven method name is there.
use Rattle.std.proofs.Common.{◌≡◌, ℕ, zero, suc, ◌+◌, Bool, true, false, cond, pos, List, [], ◌∷◌, ◌++◌, length, map, drop, Option, Some, None, refl, ◌∙◌}
use Rattle.std.specs.Prelude.{◌&&◌, ◌||◌, ◌-◌, not, is_some, nat_le, nat_lt}
use Rattle.std.specs.List.{list_all, flat_map}
use Rattle.std.proofs.lemmas.Bool.{and_parts, and_from}
use Rattle.kilim_program.specs.declared.class.Method.{Method}
use Rattle.kilim_program.specs.declared.instr.Instr.{Instr}
use Rattle.kilim_program.specs.declared.instr.Instr.TheVariants.{Ifeq, Ifne, Iflt, Ifge, Ifgt, Ifle, IfIcmpeq, IfIcmpne, IfIcmplt, IfIcmpge, IfIcmpgt, IfIcmple, IfAcmpeq, IfAcmpne, Goto, GotoW, Tableswitch, Lookupswitch, Ifnull, Ifnonnull, Iconst, Bipush, Sipush, AconstNull, Aload, Astore}
use Rattle.kilim_program.specs.declared.ty.Ty.{Ty}
use Rattle.kilim_program.specs.declared.verified.Frame.{Frame}
use Rattle.kilim_program.specs.declared.verified.VType.{VType}
use Rattle.kilim_program.specs.declared.verified.VType.TheVariants.{Top, Int, Long, Null, UninitThis, Uninit, Object}
use Rattle.kilim_program.specs.Keeps.{has_method, members_there, types_of_frame, types_of_instr, types_of_slot}
use Rattle.kilim_program.specs.Lengths.{first_place}
use Rattle.kilim_program.specs.Program.{Program}
use Rattle.kilim_type_spec.specs.Step.{class_vtype, is_top, peek, vtype}
use Rattle.kilim_type_spec.specs.Typed.{declared}
use Rattle.kilim_weave_spec.specs.Woven.{Item, Label, Mark, Does, Old, Plan, added, added_types, below, block, blocks, count, drop_result, dummies, dummy_of, dummy_return, fiber, fiber_slot, first_of, frame_if, group, kept_local, lay, lay_frames, leave, live_type, load_of, local_size, member, moved_instr, moved_type, old_frame, old_size, pausable_callee, piece, pieces, pop_of, receiver, receiver_of, restore, restore_local, restore_locals, restore_receiver, restore_stack, resume_code, resume_frame, return_of, save, save_local, save_locals, save_stack, saved, saved_from, self_slot, slots_from, store_of, woven_items}
use Rattle.kilim_weave_laws.proofs.woven_types.OldFacts.{all_reverse}
use Rattle.kilim_weave_laws.proofs.woven_types.Sane.{all_append}

fresh : ℕ → Bool
fresh q = true

module _ (W : Program) (T : Ty → Bool) where
  abbrev pub names : Instr → Bool
  names i = list_all T (types_of_instr i) && members_there W i

  abbrev pub S : VType → Bool
  S (Object ty) = T ty
  S v = true

  abbrev pub AllHere : List Item → Type 0
  AllHere [] = Unit {0}
  AllHere (Mark label None ∷ rest) = AllHere rest
  AllHere (Mark label (Some frame) ∷ rest) = (list_all T (types_of_frame frame) ≡ true) × AllHere rest
  AllHere (Does i size counted ∷ rest) = (names i ≡ true) × AllHere rest

  -- ---- laid out

  pub laid : (items : List Item) (q : ℕ) → AllHere items → list_all (λ e. names e.1) (lay q items) ≡ true
  laid [] q a = refl
  laid (Mark label None ∷ rest) q a = laid rest q a
  laid (Mark label (Some frame) ∷ rest) q a = laid rest q a.1
  laid (Does i size counted ∷ rest) q a = and_from (names i) _ a.0 (laid rest (q + size q) a.1)

  types_joined : (xs ys : List Ty) → list_all T xs ≡ true → list_all T ys ≡ true → list_all T (xs ++ ys) ≡ true
  types_joined [] ys a b = b
  types_joined (x ∷ xs) ys a b = let p = and_parts (T x) _ a in and_from (T x) _ p.0 (types_joined xs ys p.1 b)

  pub laid_frames : (items : List Item) (q : ℕ) → AllHere items → list_all T (flat_map (λ e. types_of_frame e.1) (lay_frames q items)) ≡ true
  laid_frames [] q a = refl
  laid_frames (Mark label None ∷ rest) q a = laid_frames rest q a
  laid_frames (Mark label (Some frame) ∷ rest) q a = types_joined (types_of_frame frame) _ a.0 (laid_frames rest q a.1)
  laid_frames (Does i size counted ∷ rest) q a = laid_frames rest (q + size q) a.1

  -- ---- frames

  slots_named : (ts : List VType) → list_all S ts ≡ true → list_all T (flat_map types_of_slot ts) ≡ true
  slots_named [] h = refl
  slots_named (Object ty ∷ ts) h = let p = and_parts (T ty) _ h in and_from (T ty) _ p.0 (slots_named ts p.1)
  slots_named (Top ∷ ts) h = slots_named ts h
  slots_named (Int ∷ ts) h = slots_named ts h
  slots_named (Long ∷ ts) h = slots_named ts h
  slots_named (Null ∷ ts) h = slots_named ts h
  slots_named (UninitThis ∷ ts) h = slots_named ts h
  slots_named (Uninit q ∷ ts) h = slots_named ts h

  pub frame_named : (f : Frame) → list_all S f.locals ≡ true → list_all S f.stack ≡ true → list_all T (types_of_frame f) ≡ true
  frame_named f a b = types_joined (flat_map types_of_slot f.locals) _ (slots_named f.locals a) (slots_named f.stack b)

  moved_named : (at : ℕ → ℕ) (t : VType) → S t ≡ true → S (moved_type at t) ≡ true
  moved_named at (Object ty) h = h
  moved_named at Top h = refl
  moved_named at Int h = refl
  moved_named at Long h = refl
  moved_named at Null h = refl
  moved_named at UninitThis h = refl
  moved_named at (Uninit q) h = refl

  all_moved : (at : ℕ → ℕ) (ts : List VType) → list_all S ts ≡ true → list_all S (map (moved_type at) ts) ≡ true
  all_moved at [] h = refl
  all_moved at (t ∷ ts) h = let p = and_parts (S t) _ h in and_from (S (moved_type at t)) _ (moved_named at t p.0) (all_moved at ts p.1)

  live_named : (b : Bool) (t : VType) → S t ≡ true → S (live_type b t) ≡ true
  live_named true t h = h
  live_named false t h = refl

  slots_all : (k n : ℕ) (f : ℕ → VType) → ((j : ℕ) → S (f j) ≡ true) → list_all S (slots_from k n f) ≡ true
  slots_all k zero f h = refl
  slots_all k (suc n) f h = and_from (S (f k)) _ (h k) (slots_all (suc k) n f h)

  -- ---- instructions

  pub moved_names : (at : ℕ → ℕ) (i : Instr) → names (moved_instr at i) ≡ names i
  moved_names at (Ifeq to) = refl
  moved_names at (Ifne to) = refl
  moved_names at (Iflt to) = refl
  moved_names at (Ifge to) = refl
  moved_names at (Ifgt to) = refl
  moved_names at (Ifle to) = refl
  moved_names at (IfIcmpeq to) = refl
  moved_names at (IfIcmpne to) = refl
  moved_names at (IfIcmplt to) = refl
  moved_names at (IfIcmpge to) = refl
  moved_names at (IfIcmpgt to) = refl
  moved_names at (IfIcmple to) = refl
  moved_names at (IfAcmpeq to) = refl
  moved_names at (IfAcmpne to) = refl
  moved_names at (Goto to) = refl
  moved_names at (Tableswitch default low targets) = refl
  moved_names at (Lookupswitch default pairs) = refl
  moved_names at (Ifnull to) = refl
  moved_names at (Ifnonnull to) = refl
  moved_names at (GotoW to) = refl
  moved_names at i = refl

  load_named : (slot : ℕ) (t : VType) → names (load_of slot t) ≡ true
  load_named slot Int = refl
  load_named slot Long = refl
  load_named slot Top = refl
  load_named slot Null = refl
  load_named slot UninitThis = refl
  load_named slot (Uninit q) = refl
  load_named slot (Object ty) = refl

  store_named : (slot : ℕ) (t : VType) → names (store_of slot t) ≡ true
  store_named slot Int = refl
  store_named slot Long = refl
  store_named slot Top = refl
  store_named slot Null = refl
  store_named slot UninitThis = refl
  store_named slot (Uninit q) = refl
  store_named slot (Object ty) = refl

  dummy_named : (t : VType) → names (dummy_of t) ≡ true
  dummy_named Int = refl
  dummy_named Long = refl
  dummy_named Top = refl
  dummy_named Null = refl
  dummy_named UninitThis = refl
  dummy_named (Uninit q) = refl
  dummy_named (Object ty) = refl

  return_named : (t : VType) → names (return_of t) ≡ true
  return_named Int = refl
  return_named Long = refl
  return_named Top = refl
  return_named Null = refl
  return_named UninitThis = refl
  return_named (Uninit q) = refl
  return_named (Object ty) = refl

  pop_named : (t : VType) → names (pop_of t) ≡ true
  pop_named Int = refl
  pop_named Long = refl
  pop_named Top = refl
  pop_named Null = refl
  pop_named UninitThis = refl
  pop_named (Uninit q) = refl
  pop_named (Object ty) = refl

  cast_named : (ty : Ty) → T ty ≡ true → ((T ty && true) && true) ≡ true
  cast_named ty h = and_from (T ty && true) true (and_from (T ty) true h refl) refl

  -- ---- stretches

  module _ (x : Plan) (calls : (n : ℕ) → nat_lt n 11 ≡ true → has_method W (member x.program n) ≡ true) (has_fiber : S (fiber x.program) ≡ true) (own : S (class_vtype x.method.owner) ≡ true) where
    save_here : (t : VType) (rest : List Item) → AllHere rest → AllHere (save x t rest)
    save_here Int rest r = (refl, (calls 3 refl, r))
    save_here Long rest r = (refl, (calls 4 refl, r))
    save_here (Object ty) rest r = (refl, (calls 5 refl, r))
    save_here Top rest r = (refl, r)
    save_here Null rest r = (refl, r)
    save_here UninitThis rest r = (refl, r)
    save_here (Uninit q) rest r = (refl, r)

    save_stack_here : (ts : List VType) (rest : List Item) → AllHere rest → AllHere (save_stack x ts rest)
    save_stack_here [] rest r = r
    save_stack_here (t ∷ ts) rest r = save_here t (save_stack x ts rest) (save_stack_here ts rest r)

    save_local_here : (slot : ℕ) (t : VType) (rest : List Item) → AllHere rest → AllHere (save_local x slot t rest)
    save_local_here slot Null rest r = r
    save_local_here slot Int rest r = (refl, save_here Int rest r)
    save_local_here slot Long rest r = (refl, save_here Long rest r)
    save_local_here slot Top rest r = (refl, save_here Top rest r)
    save_local_here slot UninitThis rest r = (refl, save_here UninitThis rest r)
    save_local_here slot (Uninit q) rest r = (refl, save_here (Uninit q) rest r)
    save_local_here slot (Object ty) rest r = (refl, save_here (Object ty) rest r)

    save_locals_here : (es : List (ℕ × VType)) (rest : List Item) → AllHere rest → AllHere (save_locals x es rest)
    save_locals_here [] rest r = r
    save_locals_here (e ∷ es) rest r = save_local_here e.0 e.1 (save_locals x es rest) (save_locals_here es rest r)

    restore_here : (t : VType) (rest : List Item) → S t ≡ true → AllHere rest → AllHere (restore x t rest)
    restore_here Int rest h r = (refl, (calls 7 refl, r))
    restore_here Long rest h r = (refl, (calls 8 refl, r))
    restore_here (Object ty) rest h r = (refl, (calls 9 refl, (cast_named ty h, r)))
    restore_here Top rest h r = (refl, r)
    restore_here Null rest h r = (refl, r)
    restore_here UninitThis rest h r = (refl, r)
    restore_here (Uninit q) rest h r = (refl, r)

    restore_stack_here : (ts : List VType) (rest : List Item) → list_all S ts ≡ true → AllHere rest → AllHere (restore_stack x ts rest)
    restore_stack_here [] rest h r = r
    restore_stack_here (t ∷ ts) rest h r = let p = and_parts (S t) _ h in restore_stack_here ts (restore x t rest) p.1 (restore_here t rest p.0 r)

    restore_locals_here : (es : List (ℕ × VType)) (rest : List Item) → list_all (λ e. S e.1) es ≡ true → AllHere rest → AllHere (restore_locals x es rest)
    restore_locals_here [] rest h r = r
    restore_locals_here (e ∷ es) rest h r =
        let p = and_parts (S e.1) (list_all (λ d. S d.1) es) h in
        restore_locals_here es (restore_local x e.0 e.1 rest) p.1 (restore_here e.1 _ p.0 (store_named e.0 e.1, r))

    number_here : (a b : Bool) (n : ℕ) (rest : List Item) → AllHere rest → AllHere (cond a (added (Iconst (pos n)) 1) (cond b (added (Bipush (pos n)) 2) (added (Sipush (pos n)) 3)) ∷ rest)
    number_here true b n rest r = (refl, r)
    number_here false true n rest r = (refl, r)
    number_here false false n rest r = (refl, r)

    self_here : (b : Bool) (rest : List Item) → AllHere rest → AllHere (cond b (added AconstNull 1) (added (Aload (self_slot x.method)) (local_size (self_slot x.method))) ∷ rest)
    self_here true rest r = (refl, r)
    self_here false rest r = (refl, r)

    dummy_return_here : (o : Option Ty) (rest : List Item) → AllHere rest → AllHere (dummy_return o rest)
    dummy_return_here None rest r = (refl, r)
    dummy_return_here (Some ty) rest r = (dummy_named (vtype ty), (return_named (vtype ty), r))

    drop_result_here : (o : Option Ty) (rest : List Item) → AllHere rest → AllHere (drop_result o rest)
    drop_result_here None rest r = r
    drop_result_here (Some ty) rest r = (pop_named (vtype ty), r)

    dummies_here : (tys : List Ty) (rest : List Item) → AllHere rest → AllHere (dummies tys rest)
    dummies_here [] rest r = r
    dummies_here (ty ∷ tys) rest r = (dummy_named (vtype ty), dummies_here tys rest r)

    receiver_here : (t : VType) (rest : List Item) → S t ≡ true → AllHere rest → AllHere (receiver_of x t rest)
    receiver_here (Object ty) rest h r = (refl, (calls 10 refl, (cast_named ty h, r)))
    receiver_here Int rest h r = (refl, r)
    receiver_here Long rest h r = (refl, r)
    receiver_here Top rest h r = (refl, r)
    receiver_here Null rest h r = (refl, r)
    receiver_here UninitThis rest h r = (refl, r)
    receiver_here (Uninit q) rest h r = (refl, r)

    restore_receiver_here : (b : Bool) (t : VType) (rest : List Item) → S t ≡ true → AllHere rest → AllHere (restore_receiver b x t rest)
    restore_receiver_here true t rest h r = r
    restore_receiver_here false t rest h r = receiver_here t rest h r

    leave_here : (number : ℕ) (callee : Method) (place next : ℕ) (rest : List Item) → AllHere rest → AllHere (leave x number callee place next rest)
    leave_here number callee place next rest r =
        save_stack_here (below x callee place) _ (save_locals_here (saved x place next) _
        (number_here (nat_le number 5) (nat_le number 127) number _ (self_here x.method.is_static _ (refl, (calls 6 refl, dummy_return_here x.method.result rest r)))))

    -- what stands at a place
    pub record Ready (e : ℕ × Instr) : Type 0 where
      pub instr : names e.1 ≡ true
      pub stack : list_all S (x.typing e.0).stack ≡ true
      pub locals : (k : ℕ) → S (peek (x.typing e.0).locals k) ≡ true

    abbrev pub AllReady : List (ℕ × Instr) → Type 0
    AllReady [] = Unit {0}
    AllReady (e ∷ es) = Ready e × AllReady es

    self_named : (b : Bool) → list_all S (cond b [] (class_vtype x.method.owner ∷ [])) ≡ true
    self_named true = refl
    self_named false = and_from (S (class_vtype x.method.owner)) true own refl

    added_named : list_all S (added_types x) ≡ true
    added_named = and_from (S (fiber x.program)) _ has_fiber (self_named x.method.is_static)

    old_named : (e : ℕ × Instr) → Ready e → list_all T (types_of_frame (old_frame x e.0)) ≡ true
    old_named e ready =
        frame_named (old_frame x e.0)
        (all_append fresh S (slots_from 0 (fiber_slot x.method) (kept_local x e.0)) (added_types x) (slots_all 0 (fiber_slot x.method) (kept_local x e.0) (λ j. live_named (x.live e.0 j) (moved_type x.at (peek (x.typing e.0).locals j)) (moved_named x.at (peek (x.typing e.0).locals j) (ready.locals j)))) added_named)
        (all_reverse fresh S (map (moved_type x.at) (x.typing e.0).stack) (all_moved x.at (x.typing e.0).stack ready.stack))

    resume_named : list_all T (types_of_frame (resume_frame x)) ≡ true
    resume_named = frame_named (resume_frame x) (all_append fresh S (slots_from 0 (fiber_slot x.method) (λ slot. Top)) (added_types x) (slots_all 0 (fiber_slot x.method) (λ slot. Top) (λ j. refl)) added_named) refl

    group_here : (number : ℕ) (callee : Method) (e : ℕ × Instr) (next : ℕ) (rest : List Item) → Ready e → AllHere rest → AllHere (group x number callee e.0 next e.1 rest)
    group_here number callee e next rest ready r =
        (old_named e ready, (refl, (calls 1 refl, (ready.instr, (refl, (calls 2 refl, (refl, drop_result_here callee.result _ (leave_here number callee e.0 next rest r))))))))

    drop_named : (n : ℕ) (ts : List VType) → list_all S ts ≡ true → list_all S (drop n ts) ≡ true
    drop_named zero ts h = h
    drop_named (suc n) [] h = refl
    drop_named (suc n) (t ∷ ts) h = drop_named n ts (and_parts (S t) (list_all S ts) h).1

    first_named : (ts : List VType) → list_all S ts ≡ true → S (first_of ts) ≡ true
    first_named [] h = refl
    first_named (t ∷ ts) h = (and_parts (S t) (list_all S ts) h).0

    saved_named : (live : ℕ → Bool) (k : ℕ) (ts : List VType) → ((j : ℕ) → S (peek ts j) ≡ true) → list_all (λ e. S e.1) (saved_from live k ts) ≡ true
    saved_named live k [] h = refl
    saved_named live k (t ∷ ts) h = by (live k && not (is_top t)) (saved_named live (suc k) ts (λ j. h (suc j)))
      where
        by : (b : Bool) → list_all (λ e. S e.1) (saved_from live (suc k) ts) ≡ true → list_all (λ e. S e.1) (cond b ((k, t) ∷ saved_from live (suc k) ts) (saved_from live (suc k) ts)) ≡ true
        by true r = and_from (S t) _ (h 0) r
        by false r = r

    resume_here : (callee : Method) (e : ℕ × Instr) (to : ℕ) (rest : List Item) → Ready e → AllHere rest → AllHere (resume_code x callee e.0 to rest)
    resume_here callee e to rest ready r =
        restore_locals_here (saved x e.0 to) _ (saved_named (x.live to) 0 (x.typing e.0).locals ready.locals)
        (restore_stack_here (below x callee e.0) _ (drop_named _ (x.typing e.0).stack ready.stack)
        (restore_receiver_here callee.is_static (receiver x callee e.0) _ (first_named (drop (length callee.params) (x.typing e.0).stack) (drop_named (length callee.params) (x.typing e.0).stack ready.stack))
        (dummies_here callee.params _ (refl, r))))

    -- ---- all items

    mark_here : (b : Bool) (e : ℕ × Instr) (label : Label) (rest : List Item) → Ready e → AllHere rest → AllHere (Mark label (frame_if b x e.0) ∷ rest)
    mark_here true e label rest ready r = (old_named e ready, r)
    mark_here false e label rest ready r = r

    piece_here : (o : Option Method) (first : Bool) (number : ℕ) (e : ℕ × Instr) (to : ℕ) (rest : List Item) → Ready e → AllHere rest → AllHere (piece o x first number e.0 to e.1 rest)
    piece_here None first number e to rest ready r = mark_here (first || is_some (declared x.method e.0)) e (Old e.0) (Does (moved_instr x.at e.1) (old_size e.1 (to - e.0)) true ∷ rest) ready (moved_names x.at e.1 ∙ ready.instr, r)
    piece_here (Some callee) first number e to rest ready r = group_here number callee e to rest ready r

    pieces_here : (es : List (ℕ × Instr)) (first : Bool) (number : ℕ) (rest : List Item) → AllReady es → AllHere rest → AllHere (pieces x first number es rest)
    pieces_here [] first number rest a r = r
    pieces_here (e ∷ es) first number rest a r =
        let o = pausable_callee x.program e.1 in
        piece_here o first number e (first_place es x.method.code_length) _ a.0 (pieces_here es (is_some o) (count o number) rest a.1 r)

    block_here : (o : Option Method) (number : ℕ) (e : ℕ × Instr) (to : ℕ) (rest : List Item) → Ready e → AllHere rest → AllHere (block o x number e.0 to rest)
    block_here None number e to rest ready r = r
    block_here (Some callee) number e to rest ready r = (resume_named, resume_here callee e to rest ready r)

    blocks_here : (es : List (ℕ × Instr)) (number : ℕ) → AllReady es → AllHere (blocks x number es)
    blocks_here [] number a = tt
    blocks_here (e ∷ es) number a = let o = pausable_callee x.program e.1 in block_here o number e (first_place es x.method.code_length) _ a.0 (blocks_here es (count o number) a.1)

    self_items : (b : Bool) (rest : List Item) → AllHere rest → AllHere (cond b rest (added (Aload 0) 1 ∷ added (Astore (self_slot x.method)) (local_size (self_slot x.method)) ∷ rest))
    self_items true rest r = r
    self_items false rest r = (refl, (refl, r))

    pub items_here : AllReady x.method.code → AllHere (woven_items x)
    items_here a = (refl, (refl, self_items x.method.is_static _ (refl, (calls 0 refl, (refl, pieces_here x.method.code true 1 _ a (blocks_here x.method.code 1 a))))))
