-- Bytes are the text of one list of instructions, or of some instructions and then of none; so a code has one fault.
use Rattle.std.proofs.Common.{◌≡◌, ℕ, ◌+◌, ℤ, List, [], ◌∷◌, ◌++◌, length, Option, Some, None, Result, Ok, Err, refl, sym, ap, subst, ◌∙◌, append_assoc, inl, inr, ◌⊎◌}
use Rattle.std.specs.Prelude.{◌≢◌}
use Rattle.std.proofs.lemmas.List.{append-nil}
use Rattle.kilim_class_code.specs.declared.opcodes.fault.OpFault.{OpFault}
use Rattle.kilim_class_code.specs.declared.opcodes.fault.OpFault.TheVariants as op
use Rattle.kilim_class_code.specs.declared.opcodes.instr.RawInstr.{RawInstr}
use Rattle.kilim_class_code.specs.opcodes.Instr.{instr_text, instr_len, InstrFits}
use Rattle.kilim_class_code.specs.opcodes.Reading.{instr_at}
use Rattle.kilim_class_code.specs.opcodes.Exact.{OneSpelling}
use Rattle.kilim_class_code.specs.declared.fault.CodeFault.{CodeFault}
use Rattle.kilim_class_code.specs.declared.fault.CodeFault.TheVariants.{Op, MidTarget, FallsOff, Memory}
use Rattle.kilim_class_code.specs.Code.{Placed, placed_text, code_text, StandsFrom, mid_target, falls_off}
use Rattle.kilim_class_code.specs.Exact.{IsCode, BodyFits, OpFails, TargetFails, EndFails, HasFault, target_or_end, body_fault, op_fault, OneCode}

-- no instruction begins there
abbrev pub Ends : ℕ → List ℕ → Type 0
Ends at rest = (e : OpFault) × (instr_at at rest ≡ Err e)

pub nothing_ends : (at : ℕ) (rest : List ℕ) → rest ≡ [] → Ends at rest
unfolding instr_at
nothing_ends at rest e = (op.Cut, ap (instr_at at) e)

abbrev read : RawInstr × List ℕ → Result (RawInstr × List ℕ) OpFault
read x = Ok x

read_is : (x y : RawInstr × List ℕ) → read x ≡ read y → x ≡ y
read_is x y e = cc

not_failed : (e : OpFault) (x : RawInstr × List ℕ) (r : Result (RawInstr × List ℕ) OpFault) → r ≡ Err e → r ≡ read x → ⊥
not_failed e x r f g = let both : read x ≡ Err e = sym g ∙ f in cc

one_error : (d e : OpFault) (r : Result (RawInstr × List ℕ) OpFault) → r ≡ Err d → r ≡ Err e → d ≡ e
one_error d e r f g = let both : Err d ≡ r = sym f in cc

pub same_end : (from : ℕ) (code : List Placed) (a b : ℕ) → StandsFrom from code a → StandsFrom from code b → a ≡ b
unfolding StandsFrom
same_end from [] a b e f = sym e ∙ f
same_end from (p ∷ code) a b e f = same_end (from + instr_len from p.1) code a b e.2 f.2

module _ (spelling : OneSpelling) where
  begun : (at : ℕ) (instr : RawInstr) (x more : List ℕ) → InstrFits at instr → x ≡ instr_text at instr ++ more → instr_at at x ≡ read (instr, more)
  begun at instr x more fits e = ap (instr_at at) e ∙ (spelling at).again instr more fits

  -- an instruction at the front, with its place
  front : (at : ℕ) (p : Placed) (code : List Placed) (x : List ℕ) → p.0 ≡ at → code_text (p ∷ code) ++ x ≡ instr_text at p.1 ++ (code_text code ++ x)
  unfolding code_text
  front at p code x e = append_assoc (placed_text p) (code_text code) x ∙ ap (λ (k : ℕ). instr_text k p.1 ++ (code_text code ++ x)) e

  pub same_parts : (at : ℕ) (xs ys : List Placed) (a b : ℕ) (x y : List ℕ) → StandsFrom at xs a → StandsFrom at ys b → Ends a x → Ends b y → code_text xs ++ x ≡ code_text ys ++ y → (xs ≡ ys) × (x ≡ y)
  unfolding StandsFrom code_text
  same_parts at [] [] a b x y f g p q e = (refl, e)
  same_parts at [] (v ∷ ys) a b x y f g p q e =
      absurd (not_failed p.0 (v.1, code_text ys ++ y) (instr_at at x) (subst (λ (k : ℕ). instr_at k x ≡ Err p.0) (sym f) p.1) (begun at v.1 x (code_text ys ++ y) g.1 (e ∙ front at v ys y g.0)))
  same_parts at (u ∷ xs) [] a b x y f g p q e =
      absurd (not_failed q.0 (u.1, code_text xs ++ x) (instr_at at y) (subst (λ (k : ℕ). instr_at k y ≡ Err q.0) (sym g) q.1) (begun at u.1 y (code_text xs ++ x) f.1 (sym e ∙ front at u xs x f.0)))
  same_parts at (u ∷ xs) (v ∷ ys) a b x y f g p q e =
      let whole = code_text (u ∷ xs) ++ x in
      let left = begun at u.1 whole (code_text xs ++ x) f.1 (front at u xs x f.0) in
      let right = begun at v.1 whole (code_text ys ++ y) g.1 (e ∙ front at v ys y g.0) in
      let both : (u.1, code_text xs ++ x) ≡ (v.1, code_text ys ++ y) = read_is (u.1, code_text xs ++ x) (v.1, code_text ys ++ y) (sym left ∙ right) in
      let instr : u.1 ≡ v.1 = ap (λ (r : RawInstr × List ℕ). r.0) both in
      let rest : code_text xs ++ x ≡ code_text ys ++ y = ap (λ (r : RawInstr × List ℕ). r.1) both in
      let later : StandsFrom (at + instr_len at v.1) xs a = subst (λ (i : RawInstr). StandsFrom (at + instr_len at i) xs a) instr f.2 in
      let below = same_parts (at + instr_len at v.1) xs ys a b x y later g.2 p q rest in
      let placed : u ≡ v = ap (λ (k : ℕ). (k, u.1)) (f.0 ∙ sym g.0) ∙ ap (λ (i : RawInstr). (v.0, i)) instr in
      (ap (λ (w : Placed). w ∷ xs) placed ∙ ap (λ (ws : List Placed). v ∷ ws) below.0, below.1)

  whole : (bytes : List ℕ) (code : List Placed) → IsCode bytes code → bytes ≡ code_text code ++ []
  whole bytes code is = is.text ∙ sym (append-nil (code_text code))

  pub same_code : (bytes : List ℕ) (a b : List Placed) → IsCode bytes a → IsCode bytes b → a ≡ b
  same_code bytes a b p q =
      (same_parts 0 a b (length bytes) (length bytes) [] [] p.stands q.stands (nothing_ends (length bytes) [] refl) (nothing_ends (length bytes) [] refl) (sym (whole bytes a p) ∙ whole bytes b q)).0

  not_both : (bytes : List ℕ) (fault : OpFault) (at : ℕ) (code : List Placed) → OpFails bytes fault at → IsCode bytes code → ⊥
  not_both bytes fault at code f is =
      f.some (same_parts 0 f.front code at (length bytes) f.rest [] f.stands is.stands (fault, f.there) (nothing_ends (length bytes) [] refl) (sym f.parts ∙ whole bytes code is)).1

  same_op : (bytes : List ℕ) (d e : OpFault) (a b : ℕ) → OpFails bytes d a → OpFails bytes e b → Op d a ≡ Op e b
  same_op bytes d e a b f g =
      let s = same_parts 0 f.front g.front a b f.rest g.rest f.stands g.stands (d, f.there) (e, g.there) (sym f.parts ∙ g.parts) in
      let at : a ≡ b = same_end 0 g.front a b (subst (λ (xs : List Placed). StandsFrom 0 xs a) s.0 f.stands) g.stands in
      let fault : d ≡ e = one_error d e (instr_at b g.rest) (subst (λ (k : ℕ). instr_at k g.rest ≡ Err d) at (subst (λ (r : List ℕ). instr_at a r ≡ Err d) s.1 f.there)) g.there in
      ap (λ (k : ℕ). Op d k) at ∙ ap (λ (x : OpFault). Op x b) fault

  some_is : {A : Type 0} (x y : A) (r : Option A) → r ≡ Some x → r ≡ Some y → x ≡ y
  some_is x y r e f = let both : Some x ≡ Some y = sym e ∙ f in cc

  some_none : {A : Type 0} (x : A) (r : Option A) → r ≡ Some x → r ≡ None → ⊥
  some_none x r e f = let both : Some x ≡ None = sym e ∙ f in cc

  same_target : (bytes : List ℕ) (a b : ℕ) (x y : ℤ) → TargetFails bytes a x → TargetFails bytes b y → MidTarget a x ≡ MidTarget b y
  same_target bytes a b x y f g =
      let both = some_is (a, x) (b, y) (mid_target g.code) (subst (λ (c : List Placed). mid_target c ≡ Some (a, x)) (same_code bytes f.code g.code f.is g.is) f.mid) g.mid in
      ap (λ (p : ℕ × ℤ). MidTarget p.0 p.1) both

  not_target : (bytes : List ℕ) (a : ℕ) (x : ℤ) (code : List Placed) → TargetFails bytes a x → IsCode bytes code → mid_target code ≡ None → ⊥
  not_target bytes a x code f is none = some_none (a, x) (mid_target code) (subst (λ (c : List Placed). mid_target c ≡ Some (a, x)) (same_code bytes f.code code f.is is) f.mid) none

  same_last : (bytes : List ℕ) (a b : ℕ) → EndFails bytes a → EndFails bytes b → FallsOff a ≡ FallsOff b
  same_last bytes a b f g =
      ap (λ (k : ℕ). FallsOff k) (some_is a b (falls_off g.code) (subst (λ (c : List Placed). falls_off c ≡ Some a) (same_code bytes f.code g.code f.is g.is) f.last) g.last)

  pub one_fault : (bytes : List ℕ) (d e : CodeFault) → HasFault bytes d → HasFault bytes e → d ≡ e
  unfolding HasFault
  one_fault bytes Memory e f g = absurd f
  one_fault bytes (Op d a) Memory f g = absurd g
  one_fault bytes (Op d a) (Op e b) f g = same_op bytes d e a b f g
  one_fault bytes (Op d a) (MidTarget b y) f g = absurd (not_both bytes d a g.code f g.is)
  one_fault bytes (Op d a) (FallsOff b) f g = absurd (not_both bytes d a g.code f g.is)
  one_fault bytes (MidTarget a x) Memory f g = absurd g
  one_fault bytes (MidTarget a x) (Op e b) f g = absurd (not_both bytes e b f.code g f.is)
  one_fault bytes (MidTarget a x) (MidTarget b y) f g = same_target bytes a b x y f g
  one_fault bytes (MidTarget a x) (FallsOff b) f g = absurd (not_target bytes a x g.code f g.is g.targets)
  one_fault bytes (FallsOff a) Memory f g = absurd g
  one_fault bytes (FallsOff a) (Op e b) f g = absurd (not_both bytes e b f.code g f.is)
  one_fault bytes (FallsOff a) (MidTarget b y) f g = absurd (not_target bytes b y f.code g f.is f.targets)
  one_fault bytes (FallsOff a) (FallsOff b) f g = same_last bytes a b f g

  pub body_is : (bytes : List ℕ) (code : List Placed) → BodyFits code → bytes ≡ code_text code → IsCode bytes code
  body_is bytes code fits e = record { stands = subst (λ (bs : List ℕ). StandsFrom 0 code (length bs)) (sym e) fits.stands; text = e }

  -- code with a fault is no text
  pub no_body : (bytes : List ℕ) (e : CodeFault) (code : List Placed) → HasFault bytes e → BodyFits code → bytes ≡ code_text code → ⊥
  unfolding HasFault
  no_body bytes Memory code f fits is = f
  no_body bytes (Op e a) code f fits is = not_both bytes e a code f (body_is bytes code fits is)
  no_body bytes (MidTarget a x) code f fits is = not_target bytes a x code f (body_is bytes code fits is) fits.targets
  no_body bytes (FallsOff a) code f fits is =
      some_none a (falls_off code) (subst (λ (c : List Placed). falls_off c ≡ Some a) (same_code bytes f.code code f.is (body_is bytes code fits is)) f.last) fits.last

  -- what is said of a fault that isn't want of memory
  pub only_memory : (bytes : List ℕ) (e : CodeFault) (code : List Placed) → (e ≡ Memory) ⊎ HasFault bytes e → BodyFits code → bytes ≡ code_text code → e ≡ Memory
  only_memory bytes e code (inl m) fits is = m
  only_memory bytes e code (inr f) fits is = absurd (no_body bytes e code f fits is)

  pub is_first : (bytes : List ℕ) (e fault : CodeFault) → (e ≡ Memory) ⊎ HasFault bytes e → HasFault bytes fault → (e ≡ Memory) ⊎ (e ≡ fault)
  is_first bytes e fault (inl m) h = inl m
  is_first bytes e fault (inr f) h = inr (one_fault bytes e fault f h)

  pub one_code : OneCode
  one_code a b f g e = same_code (code_text a) a b (body_is (code_text a) a f refl) (body_is (code_text a) b g e)

-- ---- what the fault of the body is of the code

one_kind : (d e : CodeFault) → Some d ≡ Some e → d ≡ e
one_kind d e f = cc

by_parts : (bytes : List ℕ) (code : List Placed) (e : CodeFault) → IsCode bytes code → (mid : Option (ℕ × ℤ)) (last : Option ℕ) → mid_target code ≡ mid → falls_off code ≡ last → target_or_end mid last ≡ Some e → HasFault bytes e
unfolding HasFault
by_parts bytes code e is (Some jump) last m l f = subst (λ (x : CodeFault). HasFault bytes x) (one_kind (MidTarget jump.0 jump.1) e f) (record { code = code; is = is; mid = m })
by_parts bytes code e is None (Some at) m l f = subst (λ (x : CodeFault). HasFault bytes x) (one_kind (FallsOff at) e f) (record { code = code; is = is; targets = m; last = l })
by_parts bytes code e is None None m l f = absurd cc

failed : (bytes : List ℕ) (code : List Placed) (e : CodeFault) → IsCode bytes code → body_fault code ≡ Some e → HasFault bytes e
unfolding body_fault
failed bytes code e is f = by_parts bytes code e is (mid_target code) (falls_off code) refl refl f

pub of_body : (bytes : List ℕ) (code : List Placed) (e : CodeFault) → IsCode bytes code → (e ≡ Memory) ⊎ (body_fault code ≡ Some e) → (e ≡ Memory) ⊎ HasFault bytes e
of_body bytes code e is (inl m) = inl m
of_body bytes code e is (inr f) = inr (failed bytes code e is f)

fits_by_parts : (bytes : List ℕ) (code : List Placed) → IsCode bytes code → (mid : Option (ℕ × ℤ)) (last : Option ℕ) → mid_target code ≡ mid → falls_off code ≡ last → target_or_end mid last ≡ None → BodyFits code
fits_by_parts bytes code is (Some jump) last m l f = absurd cc
fits_by_parts bytes code is None (Some at) m l f = absurd cc
fits_by_parts bytes code is None None m l f = record { stands = subst (λ (bs : List ℕ). StandsFrom 0 code (length bs)) is.text is.stands; targets = m; last = l }

pub sound : (bytes : List ℕ) (code : List Placed) → IsCode bytes code → body_fault code ≡ None → BodyFits code
unfolding body_fault
sound bytes code is f = fits_by_parts bytes code is (mid_target code) (falls_off code) refl refl f

-- a fault of an instruction behind others
pub op_failed : (bytes : List ℕ) (code : List Placed) (at : ℕ) (rest : List ℕ) (e : OpFault) → StandsFrom 0 code at → bytes ≡ code_text code ++ rest → rest ≢ [] → instr_at at rest ≡ Err e → (op_fault at e ≡ Memory) ⊎ HasFault bytes (op_fault at e)
unfolding HasFault
op_failed bytes code at rest op.Memory is parts some there = inl refl
op_failed bytes code at rest op.Cut is parts some there = inr (record { front = code; rest = rest; stands = is; parts = parts; some = some; there = there; own = λ m. cc })
op_failed bytes code at rest (op.Unknown n) is parts some there = inr (record { front = code; rest = rest; stands = is; parts = parts; some = some; there = there; own = λ m. cc })
op_failed bytes code at rest (op.LeftOut n) is parts some there = inr (record { front = code; rest = rest; stands = is; parts = parts; some = some; there = there; own = λ m. cc })

pub of_op : (bytes : List ℕ) (code : List Placed) (at : ℕ) (rest : List ℕ) (e : OpFault) → StandsFrom 0 code at → bytes ≡ code_text code ++ rest → rest ≢ [] → (e ≡ op.Memory) ⊎ (instr_at at rest ≡ Err e) → (op_fault at e ≡ Memory) ⊎ HasFault bytes (op_fault at e)
of_op bytes code at rest e is parts some (inl m) = inl (ap (op_fault at) m)
of_op bytes code at rest e is parts some (inr there) = op_failed bytes code at rest e is parts some there
