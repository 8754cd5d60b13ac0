-- Saves, restores, the end of a group: straight stretches.
use Rattle.std.proofs.Common.{◌≡◌, ℕ, zero, suc, ◌+◌, ◌<◌, ◌≤◌, true, false, List, [], ◌∷◌, map, refl, ap, ◌∙◌, arith}
use Rattle.std.specs.List.{list_all}
use Rattle.std.proofs.lemmas.Bool.{and_parts, and_from, le-leb}
use Rattle.kilim_program.specs.declared.class.Method.{Method}
use Rattle.kilim_program.specs.declared.instr.Instr.TheVariants.{AconstNull, Iload, Lload, Aload, Istore, Lstore, Astore, Pop, Pop2, Checkcast}
use Rattle.kilim_program.specs.declared.ty.Base.{Base}
use Rattle.kilim_program.specs.declared.ty.Base.TheVariants as base
use Rattle.kilim_program.specs.declared.ty.Ty.{Ty}
use Rattle.kilim_program.specs.declared.verified.VType.{VType}
use Rattle.kilim_program.specs.declared.verified.VType.TheVariants.{Top, Int, Long, Null, UninitThis, Uninit, Object}
use Rattle.kilim_program.specs.Program.{Program}
use Rattle.kilim_program.specs.Lengths.{jump_targets, ends_path}
use Rattle.kilim_type_spec.specs.Step.{peek, stored, is_long, size, words, base_vtype, dims_vtype, vtype, object_type, Is, AReference, meets, assignable, row}
use Rattle.kilim_weave_spec.specs.Woven.{Plan, member, moved_type, Item, added, save, save_stack, save_local, save_locals, restore, restore_stack, restore_local, restore_locals}
use Rattle.kilim_weave_laws.specs.woven_types.Facts.{Whole, int_ty, long_ty, is_savable, is_reference}
use Rattle.kilim_weave_laws.proofs.woven_types.Moved.{passes}
use Rattle.kilim_weave_laws.proofs.woven_types.Flow.{Kept, has_fiber, has_self}
use Rattle.kilim_weave_laws.proofs.woven_types.Flow as flow
use Rattle.kilim_weave_laws.proofs.woven_types.Added.{state, Runs, Starts}
use Rattle.kilim_weave_laws.proofs.woven_types.Added as add
use Rattle.std.proofs.lemmas.Bool.{false≢true}

-- the types of values are int, long and objects
pub data Sort (t : VType) : Type 0 where
  AnInt : t ≡ Int → Sort t
  ALong : t ≡ Long → Sort t
  AnObject : (ty : Ty) → t ≡ Object ty → Sort t

base_sort : (ty : Ty) (b : Base) → Sort (base_vtype ty b)
base_sort ty base.Bool = AnInt refl
base_sort ty base.Byte = AnInt refl
base_sort ty base.Char = AnInt refl
base_sort ty base.Short = AnInt refl
base_sort ty base.Int = AnInt refl
base_sort ty base.Long = ALong refl
base_sort ty (base.Class c) = AnObject ty refl

dims_sort : (ty : Ty) (n : ℕ) → Sort (dims_vtype ty n)
dims_sort ty zero = base_sort ty ty.base
dims_sort ty (suc n) = AnObject ty refl

pub sort : (ty : Ty) → Sort (vtype ty)
sort ty = dims_sort ty ty.dims

pub moved_savable : (at : ℕ → ℕ) (t : VType) → is_savable t ≡ true → moved_type at t ≡ t
moved_savable at Int h = refl
moved_savable at Long h = refl
moved_savable at Null h = refl
moved_savable at (Object ty) h = refl
moved_savable at t h = absurd (false≢true h)

pub moved_savables : (at : ℕ → ℕ) (ts : List VType) → list_all is_savable ts ≡ true → map (moved_type at) ts ≡ ts
moved_savables at [] h = refl
moved_savables at (t ∷ ts) h = let p = and_parts (is_savable t) (list_all is_savable ts) h in let a = moved_savable at t p.0 in let b = moved_savables at ts p.1 in rw (a, b) refl

-- the locals after the restores
abbrev pub put_back : List (ℕ × VType) → List VType → List VType
put_back [] cl = cl
put_back (e ∷ es) cl = stored (put_back es cl) e.0 e.1

module _ (x : Plan) (W : Program) (w : Method) (whole : Whole x W w) where
  -- ---- saves

  pub pop_runs : (cl s : List VType) (t : VType) (rest : List Item) → size t ≡ 1 → is_long t ≡ false → words (t ∷ s) ≤ w.max_stack → Runs x W w whole (state cl s) rest → Runs x W w whole (state cl (t ∷ s)) (added Pop 1 ∷ rest)
  unfolding row jump_targets ends_path
  pop_runs cl s Top rest z l room r = add.one x W w whole Pop (λ q. 1) false (state cl (Top ∷ s)) (state cl s) rest (λ q. passes 3 _ _ (state cl s) (le-leb 1 (words (Top ∷ s)) (omega arith)) refl) tt refl r
  pop_runs cl s Int rest z l room r = add.one x W w whole Pop (λ q. 1) false (state cl (Int ∷ s)) (state cl s) rest (λ q. passes 3 _ _ (state cl s) (le-leb 1 (words (Int ∷ s)) (omega arith)) refl) tt refl r
  pop_runs cl s Null rest z l room r = add.one x W w whole Pop (λ q. 1) false (state cl (Null ∷ s)) (state cl s) rest (λ q. passes 3 _ _ (state cl s) (le-leb 1 (words (Null ∷ s)) (omega arith)) refl) tt refl r
  pop_runs cl s UninitThis rest z l room r = add.one x W w whole Pop (λ q. 1) false (state cl (UninitThis ∷ s)) (state cl s) rest (λ q. passes 3 _ _ (state cl s) (le-leb 1 (words (UninitThis ∷ s)) (omega arith)) refl) tt refl r
  pop_runs cl s (Uninit p) rest z l room r = add.one x W w whole Pop (λ q. 1) false (state cl (Uninit p ∷ s)) (state cl s) rest (λ q. passes 3 _ _ (state cl s) (le-leb 1 (words (Uninit p ∷ s)) (omega arith)) refl) tt refl r
  pop_runs cl s (Object ty) rest z l room r = add.one x W w whole Pop (λ q. 1) false (state cl (Object ty ∷ s)) (state cl s) rest (λ q. passes 3 _ _ (state cl s) (le-leb 1 (words (Object ty ∷ s)) (omega arith)) refl) tt refl r
  pop_runs cl s Long rest z l room r = absurd (cc)

  pub pop2_runs : (cl s : List VType) (rest : List Item) → words (Long ∷ s) ≤ w.max_stack → Runs x W w whole (state cl s) rest → Runs x W w whole (state cl (Long ∷ s)) (added Pop2 1 ∷ rest)
  unfolding row jump_targets ends_path
  pop2_runs cl s rest room r = add.one x W w whole Pop2 (λ q. 1) false (state cl (Long ∷ s)) (state cl s) rest (λ q. passes 3 _ _ (state cl s) (le-leb 2 (words (Long ∷ s)) (omega arith)) refl) tt refl r

  pub object_meets : (ty : Ty) → is_reference (Object ty) ≡ true → meets W (Is (vtype whole.members.object_ty)) (Object ty) ≡ true
  unfolding meets
  object_meets ty h = ap (assignable W (Object ty)) whole.members.is_class ∙ whole.members.to_object ty h

  pub save_runs : (t : VType) (cl s : List VType) (rest : List Item) → is_savable t ≡ true → Kept x cl → suc (words (t ∷ s)) ≤ w.max_stack → Runs x W w whole (state cl s) rest → Runs x W w whole (state cl (t ∷ s)) (save x t rest)
  unfolding meets
  save_runs Int cl s rest h k room r = add.load_runs x W w whole cl (Int ∷ s) _ k room (add.static_runs x W w whole (member x.program 3) int_ty Int cl s rest whole.members.save_int refl (omega (arith, room)) r)
  save_runs Long cl s rest h k room r = add.load_runs x W w whole cl (Long ∷ s) _ k room (add.static_runs x W w whole (member x.program 4) long_ty Long cl s rest whole.members.save_long refl (omega (arith, room)) r)
  save_runs (Object ty) cl s rest h k room r = add.load_runs x W w whole cl (Object ty ∷ s) _ k room (add.static_runs x W w whole (member x.program 5) whole.members.object_ty (Object ty) cl s rest whole.members.save_object (object_meets ty h) (omega (arith, room)) r)
  save_runs Null cl s rest h k room r = pop_runs cl s Null rest refl refl (omega (arith, room)) r
  save_runs t cl s rest h k room r = absurd (false≢true h)

  pub save_stack_runs : (ts cl : List VType) (rest : List Item) → list_all is_savable ts ≡ true → Kept x cl → suc (words ts) ≤ w.max_stack → Runs x W w whole (state cl []) rest → Runs x W w whole (state cl ts) (save_stack x ts rest)
  save_stack_runs [] cl rest h k room r = r
  save_stack_runs (t ∷ ts) cl rest h k room r =
      let p = and_parts (is_savable t) (list_all is_savable ts) h in
      save_runs t cl ts (save_stack x ts rest) p.0 k room (save_stack_runs ts cl rest p.1 k (omega (arith, room)) r)

  -- a live local
  abbrev pub InLocals : List VType → List (ℕ × VType) → Type 0
  InLocals cl [] = Unit {0}
  InLocals cl (e ∷ es) = ((peek cl e.0 ≡ e.1) × (is_savable e.1 ≡ true) × (e.0 < w.max_locals)) × InLocals cl es

  save_local_runs : (slot : ℕ) (t : VType) (cl : List VType) (rest : List Item) → peek cl slot ≡ t → is_savable t ≡ true → slot < w.max_locals → Kept x cl → 3 ≤ w.max_stack → Runs x W w whole (state cl []) rest → Runs x W w whole (state cl []) (save_local x slot t rest)
  unfolding row meets jump_targets ends_path
  save_local_runs slot Int cl rest e h within k room r =
      add.one x W w whole (Iload slot) _ false (state cl []) (state cl (Int ∷ [])) _ (λ q. add.loads_step x W w whole q (Iload slot) (Is Int) slot Int cl [] refl (omega arith) e within (omega (arith, room)) refl) tt refl (save_runs Int cl [] rest h k (omega (arith, room)) r)
  save_local_runs slot Long cl rest e h within k room r =
      add.one x W w whole (Lload slot) _ false (state cl []) (state cl (Long ∷ [])) _ (λ q. add.loads_step x W w whole q (Lload slot) (Is Long) slot Long cl [] refl (omega arith) e within (omega (arith, room)) refl) tt refl (save_runs Long cl [] rest h k (omega (arith, room)) r)
  save_local_runs slot (Object ty) cl rest e h within k room r =
      add.one x W w whole (Aload slot) _ false (state cl []) (state cl (Object ty ∷ [])) _ (λ q. add.loads_step x W w whole q (Aload slot) AReference slot (Object ty) cl [] refl (omega arith) e within (omega (arith, room)) refl) tt refl (save_runs (Object ty) cl [] rest h k (omega (arith, room)) r)
  save_local_runs slot Null cl rest e h within k room r = r
  save_local_runs slot t cl rest e h within k room r = absurd (false≢true h)

  pub save_locals_runs : (es : List (ℕ × VType)) (cl : List VType) (rest : List Item) → InLocals cl es → Kept x cl → 3 ≤ w.max_stack → Runs x W w whole (state cl []) rest → Runs x W w whole (state cl []) (save_locals x es rest)
  save_locals_runs [] cl rest i k room r = r
  save_locals_runs (e ∷ es) cl rest i k room r = save_local_runs e.0 e.1 cl (save_locals x es rest) i.0.0 i.0.1 i.0.2 k room (save_locals_runs es cl rest i.1 k room r)

  -- ---- restores

  pub checks : (ty : Ty) (cl s : List VType) (rest : List Item) → suc (words s) ≤ w.max_stack → Runs x W w whole (state cl (Object ty ∷ s)) rest → Runs x W w whole (state cl (Object whole.members.object_ty ∷ s)) (added (Checkcast ty) 3 ∷ rest)
  unfolding row meets jump_targets ends_path
  checks ty cl s rest room r =
      add.one x W w whole (Checkcast ty) _ false (state cl (Object whole.members.object_ty ∷ s)) (state cl (Object ty ∷ s)) rest
      (λ q. add.takes_step x W w whole q (Checkcast ty) (Is (object_type W) ∷ []) (Object ty ∷ []) [] cl (Object whole.members.object_ty ∷ s) refl (omega arith) (omega (arith, room))
      (and_from _ true (ap (assignable W (Object whole.members.object_ty)) whole.members.is_object ∙ flow.to_itself x W w whole (Object whole.members.object_ty)) refl) refl)
      tt refl r

  pub null_runs : (cl s : List VType) (rest : List Item) → suc (words s) ≤ w.max_stack → Runs x W w whole (state cl (Null ∷ s)) rest → Runs x W w whole (state cl s) (added AconstNull 1 ∷ rest)
  unfolding row jump_targets ends_path
  null_runs cl s rest room r = add.one x W w whole AconstNull _ false (state cl s) (state cl (Null ∷ s)) rest (λ q. add.takes_step x W w whole q AconstNull [] (Null ∷ []) [] cl s refl (omega arith) (omega (arith, room)) refl refl) tt refl r

  pub restore_runs : (t : VType) (cl s : List VType) (rest : List Item) → is_savable t ≡ true → Kept x cl → 2 + words s ≤ w.max_stack → Runs x W w whole (state cl (t ∷ s)) rest → Runs x W w whole (state cl s) (restore x t rest)
  restore_runs Int cl s rest h k room r = add.load_runs x W w whole cl s _ k (omega (arith, room)) (add.member_runs x W w whole (member x.program 7) int_ty Int cl s rest whole.members.rest_int refl (omega (arith, room)) r)
  restore_runs Long cl s rest h k room r = add.load_runs x W w whole cl s _ k (omega (arith, room)) (add.member_runs x W w whole (member x.program 8) long_ty Long cl s rest whole.members.rest_long refl (omega (arith, room)) r)
  restore_runs (Object ty) cl s rest h k room r = add.load_runs x W w whole cl s _ k (omega (arith, room)) (add.member_runs x W w whole (member x.program 9) whole.members.object_ty (Object whole.members.object_ty) cl s _ whole.members.rest_object whole.members.is_class (omega (arith, room)) (checks ty cl s rest (omega (arith, room)) r))
  restore_runs Null cl s rest h k room r = null_runs cl s rest (omega (arith, room)) r
  restore_runs t cl s rest h k room r = absurd (false≢true h)

  pub restore_stack_runs : (ts cl : List VType) (rest : List Item) → list_all is_savable ts ≡ true → Kept x cl → 2 + words ts ≤ w.max_stack → Runs x W w whole (state cl ts) rest → Runs x W w whole (state cl []) (restore_stack x ts rest)
  restore_stack_runs [] cl rest h k room r = r
  restore_stack_runs (t ∷ ts) cl rest h k room r =
      let p = and_parts (is_savable t) (list_all is_savable ts) h in
      restore_stack_runs ts cl (restore x t rest) p.1 k (omega (arith, room)) (restore_runs t cl ts rest p.0 k (omega (arith, room)) r)

  -- each restored local keeps those of the fiber and the receiver
  abbrev pub Restores : List VType → List (ℕ × VType) → Type 0
  Restores cl [] = Unit {0}
  Restores cl (e ∷ es) = ((is_savable e.1 ≡ true) × (e.0 + size e.1 ≤ w.max_locals) × Kept x (put_back es cl)) × Restores cl es

  restore_local_runs : (slot : ℕ) (t : VType) (cl : List VType) (rest : List Item) → is_savable t ≡ true → slot + size t ≤ w.max_locals → Kept x cl → 2 ≤ w.max_stack → Runs x W w whole (state (stored cl slot t) []) rest → Runs x W w whole (state cl []) (restore_local x slot t rest)
  unfolding row meets jump_targets ends_path
  restore_local_runs slot Int cl rest h within k room r = restore_runs Int cl [] _ h k (omega (arith, room)) (add.one x W w whole (Istore slot) _ false (state cl (Int ∷ [])) (state (stored cl slot Int) []) rest (λ q. add.stores_step x W w whole q (Istore slot) (Is Int) slot Int cl [] refl within refl) tt refl r)
  restore_local_runs slot Long cl rest h within k room r = restore_runs Long cl [] _ h k (omega (arith, room)) (add.one x W w whole (Lstore slot) _ false (state cl (Long ∷ [])) (state (stored cl slot Long) []) rest (λ q. add.stores_step x W w whole q (Lstore slot) (Is Long) slot Long cl [] refl within refl) tt refl r)
  restore_local_runs slot Null cl rest h within k room r = restore_runs Null cl [] _ h k (omega (arith, room)) (add.one x W w whole (Astore slot) _ false (state cl (Null ∷ [])) (state (stored cl slot Null) []) rest (λ q. add.stores_step x W w whole q (Astore slot) AReference slot Null cl [] refl within refl) tt refl r)
  restore_local_runs slot (Object ty) cl rest h within k room r = restore_runs (Object ty) cl [] _ h k (omega (arith, room)) (add.one x W w whole (Astore slot) _ false (state cl (Object ty ∷ [])) (state (stored cl slot (Object ty)) []) rest (λ q. add.stores_step x W w whole q (Astore slot) AReference slot (Object ty) cl [] refl within refl) tt refl r)
  restore_local_runs slot t cl rest h within k room r = absurd (false≢true h)

  pub restore_locals_runs : (es : List (ℕ × VType)) (cl : List VType) (rest : List Item) → Restores cl es → 2 ≤ w.max_stack → Runs x W w whole (state (put_back es cl) []) rest → Runs x W w whole (state cl []) (restore_locals x es rest)
  restore_locals_runs [] cl rest i room r = r
  restore_locals_runs (e ∷ es) cl rest i room r = restore_locals_runs es cl (restore_local x e.0 e.1 rest) i.1 room (restore_local_runs e.0 e.1 (put_back es cl) rest i.0.0 i.0.1 i.0.2 room r)
