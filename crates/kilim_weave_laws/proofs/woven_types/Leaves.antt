-- The end of a group: the place, the receiver, a dummy return.
use Rattle.std.proofs.Common.{◌≡◌, ℕ, suc, ◌+◌, ◌<◌, ◌≤◌, Bool, true, false, cond, pos, List, [], ◌∷◌, ◌++◌, map, length, Option, Some, None, Ok, refl, sym, ap, subst, ◌∙◌, arith}
use Rattle.std.specs.Prelude.{◌&&◌, nat_le, is_none}
use Rattle.std.specs.List.{list_all}
use Rattle.std.proofs.lemmas.Bool.{and_from, le-leb}
use Rattle.kilim_program.specs.declared.class.Method.{Method}
use Rattle.kilim_program.specs.declared.instr.Instr.{Instr}
use Rattle.kilim_program.specs.declared.instr.Instr.TheVariants.{AconstNull, Iconst, Lconst, Bipush, Sipush, Aload, Invokestatic, Return, Ireturn, Lreturn, Areturn}
use Rattle.kilim_program.specs.declared.ty.Ty.{Ty}
use Rattle.kilim_program.specs.declared.verified.VType.{VType}
use Rattle.kilim_program.specs.declared.verified.VType.TheVariants.{Int, Long, Null, Object}
use Rattle.kilim_program.specs.Program.{Program}
use Rattle.kilim_program.specs.Lengths.{jump_targets, ends_path}
use Rattle.kilim_program.specs.BuiltIn.{class_type}
use Rattle.kilim_type_spec.specs.Step.{is_long, is_int, is_object, size, words, vtype, class_vtype, result_types, Operand, Is, AReference, Further, further, needs, meets, all_meet, assignable, has_int, has_long, has_object, returns_object, Takes, Leaves, row, by_row, type_step}
use Rattle.kilim_weave_spec.specs.Woven.{Plan, fiber, fiber_ty, member, fiber_slot, self_slot, Item, added, local_size, load_fiber, calls_static, dummy_of, return_of, pop_of, save_stack, save_locals, number_item, self_item, dummy_return, drop_result}
use Rattle.kilim_weave_laws.specs.woven_types.Facts.{Whole, int_ty, is_savable}
use Rattle.kilim_weave_laws.proofs.woven_types.Moved.{passes}
use Rattle.kilim_weave_laws.proofs.woven_types.Flow.{Kept, has_self}
use Rattle.kilim_weave_laws.proofs.woven_types.Added.{state, Runs, Starts}
use Rattle.kilim_weave_laws.proofs.woven_types.Added as add
use Rattle.kilim_weave_laws.proofs.woven_types.Saves.{Sort, AnInt, ALong, AnObject, sort}
use Rattle.kilim_weave_laws.proofs.woven_types.Saves as saves

module _ (x : Plan) (W : Program) (w : Method) (whole : Whole x W w) where
  -- ---- constants

  pub gives_runs : (i : Instr) (n : ℕ) (t : VType) (cl s : List VType) (rest : List Item) → row W w i ≡ Takes [] (t ∷ []) [] → jump_targets i ≡ [] → ends_path i ≡ false → size t + words s ≤ w.max_stack → Runs x W w whole (state cl (t ∷ s)) rest → Runs x W w whole (state cl s) (added i n ∷ rest)
  gives_runs i n t cl s rest is jumps on room r =
      add.one x W w whole i _ false (state cl s) (state cl (t ∷ s)) rest (λ q. add.takes_step x W w whole q i [] (t ∷ []) [] cl s is (omega arith) room refl refl) (subst (λ z. add.Jumping x W w whole (state cl (t ∷ s)) z) (sym jumps) tt) on r

  number_by : (a b : Bool) (n : ℕ) (cl s : List VType) (rest : List Item) → suc (words s) ≤ w.max_stack → Runs x W w whole (state cl (Int ∷ s)) rest →
      Runs x W w whole (state cl s) (cond a (added (Iconst (pos n)) 1) (cond b (added (Bipush (pos n)) 2) (added (Sipush (pos n)) 3)) ∷ rest)
  unfolding row jump_targets ends_path
  number_by true b n cl s rest room r = gives_runs (Iconst (pos n)) 1 Int cl s rest refl refl refl (omega (arith, room)) r
  number_by false true n cl s rest room r = gives_runs (Bipush (pos n)) 2 Int cl s rest refl refl refl (omega (arith, room)) r
  number_by false false n cl s rest room r = gives_runs (Sipush (pos n)) 3 Int cl s rest refl refl refl (omega (arith, room)) r

  -- ---- the receiver

  abbrev pub self_type : Bool → VType
  self_type true = Null
  self_type false = class_vtype x.method.owner

  self_within : x.method.is_static ≡ false → self_slot x.method < w.max_locals
  self_within s = let h = subst (λ b. fiber_slot x.method + cond b 1 2 ≤ w.max_locals) s whole.slots in omega (arith, h)

  self_by : (b : Bool) (cl s : List VType) (rest : List Item) → x.method.is_static ≡ b → Kept x cl → suc (words s) ≤ w.max_stack → Runs x W w whole (state cl (self_type b ∷ s)) rest →
      Runs x W w whole (state cl s) (cond b (added AconstNull 1) (added (Aload (self_slot x.method)) (local_size (self_slot x.method))) ∷ rest)
  unfolding row jump_targets ends_path meets
  self_by true cl s rest e k room r = gives_runs AconstNull 1 Null cl s rest refl refl refl (omega (arith, room)) r
  self_by false cl s rest e k room r =
      add.one x W w whole (Aload (self_slot x.method)) _ false (state cl s) (state cl (class_vtype x.method.owner ∷ s)) rest
      (λ q. add.loads_step x W w whole q (Aload (self_slot x.method)) AReference (self_slot x.method) (class_vtype x.method.owner) cl s refl (omega arith) (has_self x cl k e) (self_within e) (omega (arith, room)) refl) tt refl r

  self_meets : (b : Bool) → meets W (Is (vtype whole.members.object_ty)) (self_type b) ≡ true
  unfolding meets
  self_meets true = ap (assignable W Null) whole.members.is_class
  self_meets false = saves.object_meets x W w whole (class_type x.method.owner.0) refl

  place_runs : (t : VType) (cl s : List VType) (rest : List Item) → meets W (Is (vtype whole.members.object_ty)) t ≡ true → words s ≤ w.max_stack → Runs x W w whole (state cl s) rest → Runs x W w whole (state cl (fiber x.program ∷ t ∷ Int ∷ s)) (calls_static x 6 ∷ rest)
  unfolding jump_targets ends_path
  place_runs t cl s rest meet room r =
      add.one x W w whole (Invokestatic (member x.program 6)) (λ q. 3) false (state cl (fiber x.program ∷ t ∷ Int ∷ s)) (state cl s) rest
      (λ q. add.takes_step x W w whole q (Invokestatic (member x.program 6)) (Is (fiber x.program) ∷ Is (vtype whole.members.object_ty) ∷ Is Int ∷ []) [] (add.fine x W w whole) cl (fiber x.program ∷ t ∷ Int ∷ s)
      (add.static_member x W w whole (member x.program 6) (int_ty ∷ whole.members.object_ty ∷ fiber_ty x.program ∷ []) whole.members.place) (omega arith) room
      (and_from (meets W (Is (fiber x.program)) (fiber x.program)) _ (add.fiber_meets x W w whole) (and_from (meets W (Is (vtype whole.members.object_ty)) t) _ meet int_meets)) refl) tt refl r
    where
      int_meets : all_meet W (Is Int ∷ []) (Int ∷ s) ≡ true
      int_meets = add.int_meets x W w whole s

  -- ---- returns

  returns_step : (q : ℕ) (i : Instr) (takes : List Operand) (also : List Further) (cl s : List VType) → row W w i ≡ Leaves takes also → length takes ≤ length s → all_meet W takes s ≡ true → further W also s (Ok (state cl [])) ≡ Ok (state cl []) → type_step W w q i (state cl s) ≡ Ok (state cl [])
  returns_step q i takes also cl s is enough meet fine =
      ap (λ r. by_row W w q r (state cl s)) is ∙ passes 3 _ _ (state cl []) (le-leb (length takes) (length s) enough) (passes 5 _ _ (state cl []) meet fine)

  int_return : (ty : Ty) (cl : List VType) (rest : List Item) → w.result ≡ Some ty → vtype ty ≡ Int → 1 ≤ w.max_stack → Starts x W w whole rest → Runs x W w whole (state cl []) (added (Iconst (pos 0)) 1 ∷ added Ireturn 1 ∷ rest)
  unfolding row jump_targets ends_path meets
  int_return ty cl rest result is room r =
      gives_runs (Iconst (pos 0)) 1 Int cl [] _ refl refl refl (omega (arith, room))
      (add.last x W w whole Ireturn _ false (state cl (Int ∷ [])) (state cl []) rest (λ q. returns_step q Ireturn (Is Int ∷ []) (needs 11 (has_int w.result) ∷ []) cl (Int ∷ []) refl (omega arith) refl
      (passes 11 _ _ (state cl []) (ap (λ o. has_int o && true) result ∙ ap (λ t. is_int t && true) is) refl)) tt refl r)

  long_return : (ty : Ty) (cl : List VType) (rest : List Item) → w.result ≡ Some ty → vtype ty ≡ Long → 2 ≤ w.max_stack → Starts x W w whole rest → Runs x W w whole (state cl []) (added (Lconst (pos 0)) 1 ∷ added Lreturn 1 ∷ rest)
  unfolding row jump_targets ends_path meets
  long_return ty cl rest result is room r =
      gives_runs (Lconst (pos 0)) 1 Long cl [] _ refl refl refl (omega (arith, room))
      (add.last x W w whole Lreturn _ false (state cl (Long ∷ [])) (state cl []) rest (λ q. returns_step q Lreturn (Is Long ∷ []) (needs 11 (has_long w.result) ∷ []) cl (Long ∷ []) refl (omega arith) refl
      (passes 11 _ _ (state cl []) (ap (λ o. has_long o && true) result ∙ ap (λ t. is_long t && true) is) refl)) tt refl r)

  object_return : (ty t : Ty) (cl : List VType) (rest : List Item) → w.result ≡ Some ty → vtype ty ≡ Object t → 1 ≤ w.max_stack → Starts x W w whole rest → Runs x W w whole (state cl []) (added AconstNull 1 ∷ added Areturn 1 ∷ rest)
  unfolding row jump_targets ends_path meets
  object_return ty t cl rest result is room r =
      gives_runs AconstNull 1 Null cl [] _ refl refl refl (omega (arith, room))
      (add.last x W w whole Areturn _ false (state cl (Null ∷ [])) (state cl []) rest (λ q. returns_step q Areturn (AReference ∷ []) (returns_object w) cl (Null ∷ []) refl (omega arith) refl
      (passes 10 _ _ (state cl []) refl (passes 11 _ _ (state cl []) (ap (λ o. has_object o && all_meet W (map (λ u. Is u) (result_types o)) (Null ∷ [])) result ∙ ap (λ u. is_object u && (assignable W Null u && true)) is) refl))) tt refl r)

  by_sort : (ty : Ty) (cl : List VType) (rest : List Item) → w.result ≡ Some ty → Sort (vtype ty) → 2 ≤ w.max_stack → Starts x W w whole rest → Runs x W w whole (state cl []) (added (dummy_of (vtype ty)) 1 ∷ added (return_of (vtype ty)) 1 ∷ rest)
  by_sort ty cl rest result (AnInt e) room r = subst (λ t. Runs x W w whole (state cl []) (added (dummy_of t) 1 ∷ added (return_of t) 1 ∷ rest)) (sym e) (int_return ty cl rest result e (omega (arith, room)) r)
  by_sort ty cl rest result (ALong e) room r = subst (λ t. Runs x W w whole (state cl []) (added (dummy_of t) 1 ∷ added (return_of t) 1 ∷ rest)) (sym e) (long_return ty cl rest result e (omega (arith, room)) r)
  by_sort ty cl rest result (AnObject t e) room r = subst (λ u. Runs x W w whole (state cl []) (added (dummy_of u) 1 ∷ added (return_of u) 1 ∷ rest)) (sym e) (object_return ty t cl rest result e (omega (arith, room)) r)

  dummy_runs : (o : Option Ty) (cl : List VType) (rest : List Item) → w.result ≡ o → 2 ≤ w.max_stack → Starts x W w whole rest → Runs x W w whole (state cl []) (dummy_return o rest)
  unfolding row jump_targets ends_path
  dummy_runs None cl rest result room r = add.last x W w whole Return _ false (state cl []) (state cl []) rest (λ q. returns_step q Return [] (needs 11 (is_none w.result) ∷ []) cl [] refl (omega arith) refl (passes 11 _ _ (state cl []) (ap (λ o. is_none o && true) result) refl)) tt refl r
  dummy_runs (Some ty) cl rest result room r = by_sort ty cl rest result (sort ty) room r

  -- the place, the receiver and the return
  tail_runs : (n : ℕ) (cl : List VType) (rest : List Item) → Kept x cl → 3 ≤ w.max_stack → Starts x W w whole rest → Runs x W w whole (state cl []) (number_item n ∷ self_item x ∷ load_fiber x ∷ calls_static x 6 ∷ dummy_return x.method.result rest)
  tail_runs n cl rest k room r =
      let b = x.method.is_static in
      number_by (nat_le n 5) (nat_le n 127) n cl [] _ (omega (arith, room))
      (self_by b cl (Int ∷ []) _ refl k (omega (arith, room))
      (add.load_runs x W w whole cl (self_type b ∷ Int ∷ []) _ k (let s = self_size b in omega (arith, room, s))
      (place_runs (self_type b) cl [] _ (self_meets b) (omega arith)
      (dummy_runs x.method.result cl rest whole.shared.result (omega (arith, room)) r))))
    where
      self_size : (b : Bool) → size (self_type b) ≡ 1
      self_size true = refl
      self_size false = refl

  -- saves, and leaves
  pub leave_runs : (n : ℕ) (ts : List VType) (es : List (ℕ × VType)) (cl : List VType) (rest : List Item) → list_all is_savable ts ≡ true → saves.InLocals x W w whole cl es → Kept x cl → suc (words ts) ≤ w.max_stack → 3 ≤ w.max_stack → Starts x W w whole rest →
      Runs x W w whole (state cl ts) (save_stack x ts (save_locals x es (number_item n ∷ self_item x ∷ load_fiber x ∷ calls_static x 6 ∷ dummy_return x.method.result rest)))
  leave_runs n ts es cl rest h i k room least r = saves.save_stack_runs x W w whole ts cl _ h k room (saves.save_locals_runs x W w whole es cl _ i k least (tail_runs n cl rest k least r))

  -- the result is popped
  drop_by : (t : VType) (cl s : List VType) (rest : List Item) → Sort t → words (t ∷ s) ≤ w.max_stack → Runs x W w whole (state cl s) rest → Runs x W w whole (state cl (t ∷ s)) (added (pop_of t) 1 ∷ rest)
  drop_by t cl s rest (AnInt e) room r = subst (λ u. Runs x W w whole (state cl (u ∷ s)) (added (pop_of u) 1 ∷ rest)) (sym e) (saves.pop_runs x W w whole cl s Int rest refl refl (let size_is = ap size e in omega (arith, room, size_is)) r)
  drop_by t cl s rest (ALong e) room r = subst (λ u. Runs x W w whole (state cl (u ∷ s)) (added (pop_of u) 1 ∷ rest)) (sym e) (saves.pop2_runs x W w whole cl s rest (let size_is = ap size e in omega (arith, room, size_is)) r)
  drop_by t cl s rest (AnObject ty e) room r = subst (λ u. Runs x W w whole (state cl (u ∷ s)) (added (pop_of u) 1 ∷ rest)) (sym e) (saves.pop_runs x W w whole cl s (Object ty) rest refl refl (let size_is = ap size e in omega (arith, room, size_is)) r)

  pub drop_runs : (o : Option Ty) (cl s : List VType) (rest : List Item) → words (result_types o ++ s) ≤ w.max_stack → Runs x W w whole (state cl s) rest → Runs x W w whole (state cl (result_types o ++ s)) (drop_result o rest)
  drop_runs None cl s rest room r = r
  drop_runs (Some ty) cl s rest room r = drop_by (vtype ty) cl s rest (sort ty) room r
