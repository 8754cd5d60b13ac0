-- A resume block leads to its group with the frame that is declared there.
use Rattle.std.proofs.Common.{◌≡◌, inl, inr, ℕ, zero, suc, ◌+◌, ◌≤◌, Bool, true, false, cond, pos, List, [], ◌∷◌, ◌++◌, map, length, drop, Some, refl, sym, ap, subst, ◌∙◌, arith, append_assoc}
use Rattle.std.specs.Prelude.{◌&&◌, not, reverse}
use Rattle.std.specs.List.{list_all}
use Rattle.std.proofs.lemmas.Bool.{and_parts, and_from, false≢true, not-true}
use Rattle.std.proofs.lemmas.List.{length-map, map-append, reverse-append, reverse-reverse, length-reverse}
use Rattle.kilim_program.specs.declared.class.Method.{Method}
use Rattle.kilim_program.specs.declared.instr.Instr.TheVariants.{AconstNull, Iconst, Lconst, Goto}
use Rattle.kilim_program.specs.declared.ty.Ty.{Ty}
use Rattle.kilim_program.specs.declared.verified.VType.{VType}
use Rattle.kilim_program.specs.declared.verified.VType.TheVariants.{Top, Int, Long, Null, UninitThis, Uninit, Object}
use Rattle.kilim_program.specs.Program.{Program}
use Rattle.kilim_program.specs.Lengths.{jump_targets, ends_path}
use Rattle.kilim_type_spec.specs.Step.{peek, is_top, is_long, size, words, vtype, class_vtype, arguments, Operand, Is, meets, all_meet, assignable, row}
use Rattle.kilim_type_spec.specs.Typed.{declared, frame_types, all_assignable}
use Rattle.kilim_weave_spec.specs.Woven.{Plan, member, moved_type, live_type, kept_local, old_frame, Item, added, dummy_of, saved_from, saved, taken, first_of, below, receiver, dummies, receiver_of, restore_receiver, resume_code}
use Rattle.kilim_weave_laws.specs.woven_types.Facts.{Whole, Savable, is_savable, is_local_savable}
use Rattle.kilim_weave_laws.proofs.woven_types.Locals.{untouched, stored_here, no_slot}
use Rattle.kilim_weave_laws.proofs.woven_types.Flow.{Extra, Kept, extra_apart, peek_slots}
use Rattle.kilim_weave_laws.proofs.woven_types.Flow as flow
use Rattle.kilim_weave_laws.proofs.woven_types.Forms.{words_drop}
use Rattle.kilim_weave_laws.proofs.woven_types.Rows.{map_reverse}
use Rattle.kilim_weave_laws.proofs.woven_types.Added.{state, Runs, Starts}
use Rattle.kilim_weave_laws.proofs.woven_types.Added as add
use Rattle.kilim_weave_laws.proofs.woven_types.Saves.{Sort, AnInt, ALong, AnObject, sort, moved_savable, put_back}
use Rattle.kilim_weave_laws.proofs.woven_types.Saves as saves
use Rattle.kilim_weave_laws.proofs.woven_types.Leaves as leaves
use Rattle.kilim_weave_laws.proofs.woven_types.Calls.{receiver_operand, call_takes}

-- ---- saved locals

-- what holds of the locals from slot k on
pub record Fine (most k : ℕ) (ts : List VType) : Type 0 where
  pub savable : (j : ℕ) → is_local_savable (peek ts j) ≡ true
  pub halves : (j : ℕ) → is_long (peek ts j) ≡ true → (is_top (peek ts (suc j)) ≡ true) × (k + suc (suc j) ≤ most)
  pub within : k + length ts ≤ most

pub fine_tail : (most k : ℕ) (t : VType) (ts : List VType) → Fine most k (t ∷ ts) → Fine most (suc k) ts
fine_tail most k t ts f = record {
  savable = λ j. f.savable (suc j);
  halves = λ j h. let r = f.halves (suc j) h in (r.0, let y = r.1 in omega (arith, y));
  within = let y = f.within in omega (arith, y);
}

pub no_top_savable : (t : VType) → is_local_savable t ≡ true → is_top t ≡ false → is_savable t ≡ true
no_top_savable Int h n = refl
no_top_savable Long h n = refl
no_top_savable Null h n = refl
no_top_savable (Object ty) h n = h
no_top_savable t h n = absurd (cc)

size_within : (most k : ℕ) (t : VType) (ts : List VType) → Fine most k (t ∷ ts) → k + size t ≤ most
size_within most k Long ts f = let r = (f.halves 0 refl).1 in omega (arith, r)
size_within most k Top ts f = let r = f.within in omega (arith, r)
size_within most k Int ts f = let r = f.within in omega (arith, r)
size_within most k Null ts f = let r = f.within in omega (arith, r)
size_within most k UninitThis ts f = let r = f.within in omega (arith, r)
size_within most k (Uninit q) ts f = let r = f.within in omega (arith, r)
size_within most k (Object ty) ts f = let r = f.within in omega (arith, r)

-- saved slots can be saved and lie within
abbrev pub Slots : ℕ → List (ℕ × VType) → Type 0
Slots most [] = Unit {0}
Slots most (e ∷ es) = ((is_savable e.1 ≡ true) × (e.0 + size e.1 ≤ most)) × Slots most es

slots_by : (b : Bool) (most k : ℕ) (t : VType) (es : List (ℕ × VType)) → (b ≡ true → (is_savable t ≡ true) × (k + size t ≤ most)) → Slots most es → Slots most (cond b ((k, t) ∷ es) es)
slots_by true most k t es h s = (h refl, s)
slots_by false most k t es h s = s

pub saved_slots : (live : ℕ → Bool) (most k : ℕ) (ts : List VType) → Fine most k ts → Slots most (saved_from live k ts)
saved_slots live most k [] f = tt
saved_slots live most k (t ∷ ts) f =
    slots_by (live k && not (is_top t)) most k t (saved_from live (suc k) ts)
    (λ h. (no_top_savable t (f.savable 0) (not-true (is_top t) (and_parts (live k) (not (is_top t)) h).1), size_within most k t ts f))
    (saved_slots live most (suc k) ts (fine_tail most k t ts f))

-- the locals of the fiber and of the receiver are kept
pub kept_put : (x : Plan) (es : List (ℕ × VType)) (cl : List VType) → Slots x.method.max_locals es → Kept x cl → Kept x (put_back es cl)
kept_put x [] cl s k = k
kept_put x (e ∷ es) cl s k = λ j y. untouched e.1 (put_back es cl) e.0 j (let a = extra_apart x j y in let b = s.0.1 in omega (arith, a, b)) ∙ kept_put x es cl s.1 k j y

-- a restored local is there again
here_by : (b : Bool) (k : ℕ) (t : VType) (es : List (ℕ × VType)) (cl : List VType) → b ≡ true → peek (put_back (cond b ((k, t) ∷ es) es) cl) k ≡ t
here_by true k t es cl h = stored_here t (put_back es cl) k
here_by false k t es cl h = absurd (cc)

there_by : (b : Bool) (k j : ℕ) (t : VType) (es : List (ℕ × VType)) (cl : List VType) → k + size t ≤ j → peek (put_back (cond b ((k, t) ∷ es) es) cl) j ≡ peek (put_back es cl) j
there_by true k j t es cl h = untouched t (put_back es cl) k j h
there_by false k j t es cl h = refl

past_half : (b : Bool) (k i : ℕ) (t : VType) → is_long t ≡ b → (b ≡ true → i ≡ 0 → ⊥) → k + size t ≤ k + suc i
past_half true k i Long e h = elim (flow.is_zero i) [ inl z ↦ absurd (h refl z) | inr z ↦ let y = z in omega (arith, y) ]
past_half false k i Top e h = omega arith
past_half false k i Int e h = omega arith
past_half false k i Null e h = omega arith
past_half false k i UninitThis e h = omega arith
past_half false k i (Uninit q) e h = omega arith
past_half false k i (Object ty) e h = omega arith
past_half b k i t e h = absurd (cc)

pub put_back_at : (live : ℕ → Bool) (most k : ℕ) (ts : List VType) (cl : List VType) (j : ℕ) → Fine most k ts → live (k + j) ≡ true → is_top (peek ts j) ≡ false → peek (put_back (saved_from live k ts) cl) (k + j) ≡ peek ts j
put_back_at live most k [] cl j f l n = absurd (let e = ap is_top (no_slot j) in cc)
put_back_at live most k (t ∷ ts) cl zero f l n =
    let e : k + 0 ≡ k = omega arith in
    ap (peek (put_back (saved_from live k (t ∷ ts)) cl)) e
    ∙ here_by (live k && not (is_top t)) k t (saved_from live (suc k) ts) cl (and_from (live k) (not (is_top t)) (ap live (sym e) ∙ l) (ap (λ b. not b) n))
put_back_at live most k (t ∷ ts) cl (suc i) f l n =
    let e : suc k + i ≡ k + suc i = omega arith in
    there_by (live k && not (is_top t)) k (k + suc i) t (saved_from live (suc k) ts) cl
    (past_half (is_long t) k i t refl (λ long z. let top = (f.halves 0 long).0 in absurd (let y = ap (λ m. is_top (peek ts m)) z in cc)))
    ∙ (ap (peek (put_back (saved_from live (suc k) ts) cl)) (sym e) ∙ put_back_at live most (suc k) ts cl i (fine_tail most k t ts f) (ap live e ∙ l) n)

-- ---- the arguments are dummies

abbrev pub dummy_type : VType → VType
dummy_type Int = Int
dummy_type Long = Long
dummy_type t = Null

abbrev pub dummy_stack : List Ty → List VType → List VType
dummy_stack [] s = s
dummy_stack (ty ∷ tys) s = dummy_stack tys (dummy_type (vtype ty) ∷ s)

dummy : Ty → VType
dummy ty = dummy_type (vtype ty)

dummies_are : (tys : List Ty) (s : List VType) → dummy_stack tys s ≡ map dummy (reverse tys) ++ s
unfolding dummy
dummies_are [] s = refl
dummies_are (ty ∷ tys) s =
    dummies_are tys (dummy_type (vtype ty) ∷ s)
    ∙ (sym (append_assoc (map dummy (reverse tys)) (dummy_type (vtype ty) ∷ []) s)
    ∙ (ap (λ z. z ++ s) (sym (map-append dummy (reverse tys) (ty ∷ []))) ∙ ap (λ z. map dummy z ++ s) (sym (reverse-append (ty ∷ []) tys))))

dummy_words : (tys : List Ty) (s : List VType) → words s ≤ words (dummy_stack tys s)
dummy_words [] s = omega arith
dummy_words (ty ∷ tys) s = let h = dummy_words tys (dummy_type (vtype ty) ∷ s) in omega (arith, h)

-- the stack from the receiver down
abbrev pub base_of : Bool → VType → List VType → List VType
base_of true r rest = rest
base_of false r rest = r ∷ rest

first_drop : (n : ℕ) (fs : List VType) → n + 1 ≤ length fs → drop n fs ≡ first_of (drop n fs) ∷ drop (n + 1) fs
first_drop zero [] h = absurd (omega (arith, h))
first_drop zero (f ∷ fs) h = refl
first_drop (suc n) [] h = absurd (omega (arith, h))
first_drop (suc n) (f ∷ fs) h = first_drop n fs (omega (arith, h)) ∙ ap (λ k. first_of (drop n fs) ∷ drop k (f ∷ fs)) (let e : suc (n + 1) ≡ suc n + 1 = omega arith in e)

base_by : (b : Bool) (n : ℕ) (fs : List VType) → n + cond b 0 1 ≤ length fs → drop n fs ≡ base_of b (first_of (drop n fs)) (drop (n + cond b 0 1) fs)
base_by true n fs h = ap (λ k. drop k fs) (let e : n ≡ n + 0 = omega arith in e)
base_by false n fs h = first_drop n fs h

module _ (x : Plan) (W : Program) (w : Method) (whole : Whole x W w) where
  is_assigned : (t wanted : VType) → Sort wanted → assignable x.program t wanted ≡ true → (assignable W (dummy_type wanted) (moved_type x.at t) ≡ true) × (size (dummy_type wanted) ≡ size t)
  is_assigned t wanted (AnInt e) h = subst (λ u. (assignable W (dummy_type u) (moved_type x.at t) ≡ true) × (size (dummy_type u) ≡ size t)) (sym e) (int t (ap (assignable x.program t) (sym e) ∙ h))
    where
      int : (t : VType) → assignable x.program t Int ≡ true → (assignable W Int (moved_type x.at t) ≡ true) × (size Int ≡ size t)
      int Int h = (refl, refl)
      int t h = absurd (false≢true h)
  is_assigned t wanted (ALong e) h = subst (λ u. (assignable W (dummy_type u) (moved_type x.at t) ≡ true) × (size (dummy_type u) ≡ size t)) (sym e) (long t (ap (assignable x.program t) (sym e) ∙ h))
    where
      long : (t : VType) → assignable x.program t Long ≡ true → (assignable W Long (moved_type x.at t) ≡ true) × (size Long ≡ size t)
      long Long h = (refl, refl)
      long t h = absurd (false≢true h)
  is_assigned t wanted (AnObject ty e) h = subst (λ u. (assignable W (dummy_type u) (moved_type x.at t) ≡ true) × (size (dummy_type u) ≡ size t)) (sym e) (object t (ap (assignable x.program t) (sym e) ∙ h))
    where
      object : (t : VType) → assignable x.program t (Object ty) ≡ true → (assignable W Null (moved_type x.at t) ≡ true) × (size Null ≡ size t)
      object Null h = (refl, refl)
      object (Object a) h = (refl, refl)
      object t h = absurd (false≢true h)

  -- dummies fit where the arguments did, and take as much room
  dummies_fit : (tys : List Ty) (os : List Operand) (base fs : List VType) → all_meet x.program (map (λ ty. Is (vtype ty)) tys ++ os) fs ≡ true →
      all_assignable W base (map (moved_type x.at) (drop (length tys) fs)) ≡ true → words base ≤ words (drop (length tys) fs) →
      (all_assignable W (map dummy tys ++ base) (map (moved_type x.at) fs) ≡ true) × (words (map dummy tys ++ base) ≤ words fs)
  unfolding dummy meets
  dummies_fit [] os base fs h a k = (a, k)
  dummies_fit (ty ∷ tys) os base [] h a k = absurd (cc)
  dummies_fit (ty ∷ tys) os base (t ∷ fs) h a k =
      let p = and_parts (assignable x.program t (vtype ty)) (all_meet x.program (map (λ ty. Is (vtype ty)) tys ++ os) fs) h in
      let d = is_assigned t (vtype ty) (sort ty) p.0 in
      let r = dummies_fit tys os base fs p.1 a k in
      (and_from (assignable W (dummy_type (vtype ty)) (moved_type x.at t)) (all_assignable W (map dummy tys ++ base) (map (moved_type x.at) fs)) d.0 r.0, let y = d.1 in let z = r.1 in omega (arith, y, z))

  dummy_by : (t : VType) (cl s : List VType) (rest : List Item) → Sort t → words (dummy_type t ∷ s) ≤ w.max_stack → Runs x W w whole (state cl (dummy_type t ∷ s)) rest → Runs x W w whole (state cl s) (added (dummy_of t) 1 ∷ rest)
  unfolding row jump_targets ends_path
  dummy_by t cl s rest (AnInt e) room r = subst (λ u. Runs x W w whole (state cl s) (added (dummy_of u) 1 ∷ rest)) (sym e) (leaves.gives_runs x W w whole (Iconst (pos 0)) 1 Int cl s rest refl refl refl (subst (λ u. words (dummy_type u ∷ s) ≤ w.max_stack) e room) (subst (λ u. Runs x W w whole (state cl (dummy_type u ∷ s)) rest) e r))
  dummy_by t cl s rest (ALong e) room r = subst (λ u. Runs x W w whole (state cl s) (added (dummy_of u) 1 ∷ rest)) (sym e) (leaves.gives_runs x W w whole (Lconst (pos 0)) 1 Long cl s rest refl refl refl (subst (λ u. words (dummy_type u ∷ s) ≤ w.max_stack) e room) (subst (λ u. Runs x W w whole (state cl (dummy_type u ∷ s)) rest) e r))
  dummy_by t cl s rest (AnObject ty e) room r = subst (λ u. Runs x W w whole (state cl s) (added (dummy_of u) 1 ∷ rest)) (sym e) (leaves.gives_runs x W w whole AconstNull 1 Null cl s rest refl refl refl (subst (λ u. words (dummy_type u ∷ s) ≤ w.max_stack) e room) (subst (λ u. Runs x W w whole (state cl (dummy_type u ∷ s)) rest) e r))

  dummies_runs : (tys : List Ty) (cl s : List VType) (rest : List Item) → words (dummy_stack tys s) ≤ w.max_stack → Runs x W w whole (state cl (dummy_stack tys s)) rest → Runs x W w whole (state cl s) (dummies tys rest)
  dummies_runs [] cl s rest room r = r
  dummies_runs (ty ∷ tys) cl s rest room r = dummy_by (vtype ty) cl s (dummies tys rest) (sort ty) (let h = dummy_words tys (dummy_type (vtype ty) ∷ s) in omega (arith, h, room)) (dummies_runs tys cl (dummy_type (vtype ty) ∷ s) rest room r)

  -- ---- the receiver

  receiver_runs : (t wanted : VType) (ty : Ty) (cl s : List VType) (rest : List Item) → wanted ≡ Object ty → assignable x.program t wanted ≡ true → Kept x cl → 2 + words s ≤ w.max_stack → Runs x W w whole (state cl (t ∷ s)) rest → Runs x W w whole (state cl s) (receiver_of x t rest)
  receiver_runs Null wanted ty cl s rest e h k room r = saves.null_runs x W w whole cl s rest (omega (arith, room)) r
  receiver_runs (Object a) wanted ty cl s rest e h k room r =
      add.load_runs x W w whole cl s _ k (omega (arith, room)) (add.member_runs x W w whole (member x.program 10) whole.members.object_ty (Object whole.members.object_ty) cl s _ whole.members.receiver whole.members.is_class (omega (arith, room)) (saves.checks x W w whole a cl s rest (omega (arith, room)) r))
  receiver_runs t wanted ty cl s rest e h k room r = absurd (let z = ap (assignable x.program t) (sym e) ∙ h in cc)

  restore_by : (b : Bool) (t : VType) (owner : _) (cl s fs : List VType) (rest : List Item) → all_meet x.program (cond b [] (Is (class_vtype owner) ∷ [])) (base_of b t s) ≡ true → Kept x cl → 2 + words s ≤ w.max_stack →
      Runs x W w whole (state cl (base_of b t s)) rest → Runs x W w whole (state cl s) (restore_receiver b x t rest)
  unfolding meets
  restore_by true t owner cl s fs rest h k room r = r
  restore_by false t owner cl s fs rest h k room r = receiver_runs t (class_vtype owner) _ cl s rest refl (and_parts (assignable x.program t (class_vtype owner)) true h).0 k room r

  -- ---- the whole block

  restores_of : (es : List (ℕ × VType)) (cl : List VType) → Slots x.method.max_locals es → Kept x cl → saves.Restores x W w whole cl es
  restores_of [] cl s k = tt
  restores_of (e ∷ es) cl s k = ((s.0.0, let a = s.0.1 in let b = whole.shared.locals in omega (arith, a, b), kept_put x es cl s.1 k), restores_of es cl s.1 k)

  meet_behind : (os os' : List Operand) (fs : List VType) → all_meet x.program (os ++ os') fs ≡ true → all_meet x.program os' (drop (length os) fs) ≡ true
  meet_behind [] os' fs h = h
  meet_behind (o ∷ os) os' [] h = absurd (cc)
  meet_behind (o ∷ os) os' (t ∷ fs) h = meet_behind os os' fs (and_parts (meets x.program o t) (all_meet x.program (os ++ os') fs) h).1

  all_itself : (ts : List VType) → all_assignable W ts ts ≡ true
  all_itself [] = refl
  all_itself (t ∷ ts) = and_from (assignable W t t) (all_assignable W ts ts) (flow.to_itself x W w whole t) (all_itself ts)

  moved_receiver : (t wanted : VType) (ty : Ty) → wanted ≡ Object ty → assignable x.program t wanted ≡ true → moved_type x.at t ≡ t
  moved_receiver Null wanted ty e h = refl
  moved_receiver (Object a) wanted ty e h = refl
  moved_receiver t wanted ty e h = absurd (let z = ap (assignable x.program t) (sym e) ∙ h in cc)

  moved_base : (b : Bool) (t : VType) (owner : _) (s : List VType) → all_meet x.program (cond b [] (Is (class_vtype owner) ∷ [])) (base_of b t s) ≡ true → list_all is_savable s ≡ true → map (moved_type x.at) (base_of b t s) ≡ base_of b t s
  unfolding meets
  moved_base true t owner s h v = saves.moved_savables x.at s v
  moved_base false t owner s h v =
      let a = moved_receiver t (class_vtype owner) _ refl (and_parts (assignable x.program t (class_vtype owner)) true h).0 in
      let b = saves.moved_savables x.at s v in
      rw (a, b) refl

  arguments_are : (callee : Method) → arguments callee ≡ map (λ ty. Is (vtype ty)) (reverse callee.params)
  arguments_are callee = sym (map_reverse (λ ty. Is (vtype ty)) callee.params)

  length_arguments : (callee : Method) → length (arguments callee) ≡ length callee.params
  length_arguments callee = length-reverse (map (λ ty. Is (vtype ty)) callee.params) ∙ length-map callee.params (λ ty. Is (vtype ty))

  -- the restored locals flow into the group's frame
  restored_slot : (b c : Bool) (t u : VType) → is_top t ≡ c → is_local_savable t ≡ true → (b ≡ true → c ≡ false → u ≡ t) → assignable W u (live_type b (moved_type x.at t)) ≡ true
  restored_slot false c t u e s h = refl
  restored_slot true true Top u e s h = refl
  restored_slot true true t u e s h = absurd (cc)
  restored_slot true false t u e s h =
      ap (λ z. assignable W z (moved_type x.at t)) (h refl refl) ∙ (ap (assignable W t) (moved_savable x.at t (no_top_savable t s e)) ∙ flow.to_itself x W w whole t)

  pub resume_runs : (callee : Method) (place next : ℕ) (cl : List VType) (rest : List Item) → Savable x callee place → ((k : ℕ) → x.live place k ≡ true → x.live next k ≡ true) →
      all_meet x.program (call_takes callee) (x.typing place).stack ≡ true → taken callee ≤ length (x.typing place).stack → words (x.typing place).stack ≤ x.method.max_stack → length (x.typing place).locals ≤ x.method.max_locals →
      declared w (x.at place) ≡ Some (frame_types (old_frame x place)) → Kept x cl → Starts x W w whole rest → Runs x W w whole (state cl []) (resume_code x callee place next rest)
  unfolding row jump_targets ends_path
  resume_runs callee place next cl rest sv live meet enough room inside there k r =
      let fs = (x.typing place).stack in
      let ls = (x.typing place).locals in
      let n = length callee.params in
      let st = callee.is_static in
      let es = saved x place next in
      let bel = below x callee place in
      let recv = receiver x callee place in
      let base = base_of st recv bel in
      let fine : Fine x.method.max_locals 0 ls = record { savable = sv.locals; halves = λ j h. let y = sv.halves j h in (y.0, let z = y.1 in omega (arith, z)); within = omega (arith, inside) } in
      let slots = saved_slots (x.live next) x.method.max_locals 0 ls fine in
      let clB = put_back es cl in
      let keptB = kept_put x es cl slots k in
      let is_base : drop n fs ≡ base = base_by st n fs enough in
      let ops : all_meet x.program (receiver_operand callee) base ≡ true =
      ap (all_meet x.program (receiver_operand callee)) (sym is_base) ∙ (ap (λ j. all_meet x.program (receiver_operand callee) (drop j fs)) (sym (length_arguments callee)) ∙ meet_behind (arguments callee) (receiver_operand callee) fs meet) in
      let rev = reverse callee.params in
      let at_base : drop (length rev) fs ≡ base = ap (λ j. drop j fs) (length-reverse callee.params) ∙ is_base in
      let fit = dummies_fit rev (receiver_operand callee) base fs
      (ap (λ z. all_meet x.program (z ++ receiver_operand callee) fs) (sym (arguments_are callee)) ∙ meet)
      (ap (λ z. all_assignable W base (map (moved_type x.at) z)) at_base ∙ (ap (all_assignable W base) (moved_base st recv callee.owner bel ops sv.stack) ∙ all_itself base))
      (let y = ap words at_base in omega (arith, y)) in
      let top = dummy_stack callee.params base in
      let is_top_stack = dummies_are callee.params base in
      let few : words top ≤ words fs = (let a = ap words is_top_stack in let b = fit.1 in omega (arith, a, b)) in
      let more = whole.room in
      let few_below = words_drop (taken callee) fs in
      saves.restore_locals_runs x W w whole es cl _ (restores_of es cl slots k) (omega (arith, more))
      (saves.restore_stack_runs x W w whole bel clB _ sv.stack keptB (omega (arith, more, few_below, room))
      (restore_by st recv callee.owner clB bel fs _ ops keptB (omega (arith, more, few_below, room))
      (dummies_runs callee.params clB base _ (omega (arith, more, few, room))
      (add.last x W w whole (Goto (x.at place)) _ false (state clB top) (state clB top) rest
      (λ q. add.takes_step x W w whole q (Goto (x.at place)) [] [] [] clB top refl (omega arith) (omega (arith, more, few, room)) refl refl) (
        (
          frame_types (old_frame x place),
          there,
          record {
            locals = flow.slot_flows x W w whole (kept_local x place) clB keptB (λ j h.
                restored_slot (x.live place j) (is_top (peek ls j)) (peek ls j) (peek clB j) refl (sv.locals j) (λ l t.
                let e : 0 + j ≡ j = omega arith in
                ap (peek clB) (sym e) ∙ put_back_at (x.live next) x.method.max_locals 0 ls cl j fine (ap (x.live next) e ∙ live j l) t));
            stack = ap (all_assignable W top) (reverse-reverse (map (moved_type x.at) fs)) ∙ (ap (λ z. all_assignable W z (map (moved_type x.at) fs)) is_top_stack ∙ fit.0);
            unset = λ e. absurd (false≢true e);
          },
        ),
        tt,
      )
      refl r))))
