-- Calls of constructors.
use Rattle.std.proofs.Common.{◌≡◌, ℕ, suc, ◌+◌, Bool, true, false, ◌||◌, ◌&&◌, ◌==◌, cond, refl, ap, sym, ◌∙◌, arith, List, [], ◌∷◌, ◌++◌, length, drop, slice_get, Option, Some, None, Result, Ok, Err}
use Rattle.kilim_program.specs.declared.class.Method.{Method}
use Rattle.std.proofs.lemmas.Bool.{eq-eqb, ne_eqb}
use Rattle.kilim_program.specs.declared.instr.Instr.{Instr}
use Rattle.kilim_program.specs.declared.names.ClassId.{ClassId}
use Rattle.kilim_program.specs.declared.verified.VType.{VType}
use Rattle.kilim_program.specs.declared.verified.VType.TheVariants.{Top, Int, Long, Null, UninitThis, Uninit, Object}
use Rattle.kilim_program.specs.Names.{class_at}
use Rattle.kilim_program.specs.Program.{Program}
use Rattle.kilim_type_spec.specs.Step.{Types, Further, needs, rule, further, constructed, replaced, class_vtype, is_class, superclass_at, made_at, made_by}
use Rattle.kilim_type_step.specs.Answers.{class_made, left_by_made}
use Rattle.kilim_type_step.proofs.Rows.{front_is, past, operands_long}
use Rattle.kilim_type_step.specs.Operands.{operands_of}
use Rattle.kilim_type_step.specs.declared.operands.Taken.{Taken}

-- what a fitting constructor leaves
abbrev pub after_made : Option ClassId → Program → List Further → List VType → VType → List VType → Types → Result Types ℕ
after_made None p after gives t s f = Err 10
after_made (Some made) p after gives t s f = further p after f.stack (Ok (left_by_made t made gives s f))

made_this : (p : Program) (m : Method) (class : ClassId) (gives : List VType) (after : List Further) (s : List VType) (f : Types) (b : Bool) →
    rule 10 b (further p after f.stack (Ok (record { locals = replaced UninitThis (class_vtype m.owner) f.locals; stack = gives ++ replaced UninitThis (class_vtype m.owner) s; unset = false })))
    ≡ after_made (cond b (Some m.owner) None) p after gives UninitThis s f
made_this p m class gives after s f true = refl
made_this p m class gives after s f false = refl

made_new : (p : Program) (m : Method) (at : ℕ) (class : ClassId) (gives : List VType) (after : List Further) (s : List VType) (f : Types) (b : Bool) →
    rule 10 b (further p after f.stack (Ok (record f { locals = replaced (Uninit at) (class_vtype class) f.locals; stack = gives ++ replaced (Uninit at) (class_vtype class) s })))
    ≡ after_made (cond b (Some class) None) p after gives (Uninit at) s f
made_new p m at class gives after s f true = refl
made_new p m at class gives after s f false = refl

made_by_type : (p : Program) (m : Method) (class : ClassId) (gives : List VType) (after : List Further) (t : VType) (s : List VType) (f : Types) →
    constructed p m class gives after (t ∷ s) f ≡ after_made (class_made p m class t) p after gives t s f
made_by_type p m class gives after UninitThis s f = made_this p m class gives after s f (class.0 == m.owner.0 || is_class class (superclass_at (class_at p m.owner)))
made_by_type p m class gives after (Uninit at) s f = made_new p m at class gives after s f (is_class class (made_at m.code at))
made_by_type p m class gives after Top s f = refl
made_by_type p m class gives after Int s f = refl
made_by_type p m class gives after Long s f = refl
made_by_type p m class gives after Null s f = refl
made_by_type p m class gives after (Object ty) s f = refl

shown : (p : Program) (m : Method) (class : ClassId) (gives : List VType) (after : List Further) (n : ℕ) (t : VType) (f : Types) → slice_get f.stack n ≡ Some t →
    constructed p m class gives after (drop n f.stack) f ≡ after_made (class_made p m class t) p after gives t (drop (n + 1) f.stack) f
shown p m class gives after n t f e = ap (λ s. constructed p m class gives after s f) (front_is f.stack n t e) ∙ made_by_type p m class gives after t (drop (n + 1) f.stack) f

pub constructs_not : (p : Program) (m : Method) (class : ClassId) (gives : List VType) (after : List Further) (n : ℕ) (t : VType) (f : Types) → slice_get f.stack n ≡ Some t → class_made p m class t ≡ None →
    constructed p m class gives after (drop n f.stack) f ≡ Err 10
constructs_not p m class gives after n t f e none = shown p m class gives after n t f e ∙ ap (λ o. after_made o p after gives t (drop (n + 1) f.stack) f) none

pub constructs : (p : Program) (m : Method) (class : ClassId) (gives : List VType) (after : List Further) (n : ℕ) (t : VType) (f : Types) (made : ClassId) → slice_get f.stack n ≡ Some t → class_made p m class t ≡ Some made →
    constructed p m class gives after (drop n f.stack) f
    ≡ further p after f.stack (Ok (left_by_made t made gives (drop (n + 1) f.stack) f))
constructs p m class gives after n t f made e some = shown p m class gives after n t f e ∙ ap (λ o. after_made o p after gives t (drop (n + 1) f.stack) f) some

pub constructs_none : (p : Program) (m : Method) (class : ClassId) (gives : List VType) (after : List Further) (n : ℕ) (f : Types) → slice_get f.stack n ≡ None → constructed p m class gives after (drop n f.stack) f ≡ Err 10
constructs_none p m class gives after n f e = ap (λ s. constructed p m class gives after s f) (past f.stack n e)

pub dropped : {A : Type 0} → (s : List A) (ts : List Taken) → drop (length ts + 1) s ≡ drop (suc (length (operands_of ts))) s
dropped s ts = ap (λ n. drop n s) (let n : length ts + 1 ≡ suc (length (operands_of ts)) = omega (arith, operands_long ts) in n)

-- ---- the `new` at a place

pub made_here : (code : List (ℕ × Instr)) (k at : ℕ) (e : ℕ × Instr) → slice_get code k ≡ Some e → e.0 ≡ at → made_by e.1 ≡ made_at (drop k code) at
made_here code k at e is here = sym (ap (λ es. made_at es at) (front_is code k e is) ∙ ap (λ b. cond b (made_by e.1) (made_at (drop (k + 1) code) at)) (eq-eqb e.0 at here))

pub made_on : (code : List (ℕ × Instr)) (k at : ℕ) (e : ℕ × Instr) → slice_get code k ≡ Some e → (e.0 ≡ at → ⊥) → made_at (drop (k + 1) code) at ≡ made_at (drop k code) at
made_on code k at e is other = sym (ap (λ es. made_at es at) (front_is code k e is) ∙ ap (λ b. cond b (made_by e.1) (made_at (drop (k + 1) code) at)) (ne_eqb e.0 at other))

-- ---- answers of a call

abbrev pub left_types : Types → Result Types ℕ
left_types f = Ok f

pub passes_four : (a b c n : Bool) (x y : Result Types ℕ) → a ≡ true → b ≡ true → c ≡ true → n ≡ true → x ≡ y → rule 3 a (rule 4 b (rule 5 c (rule 8 (n && true) x))) ≡ y
passes_four a b c n x y ea eb ec en e =
    ap (λ t. rule 3 t (rule 4 b (rule 5 c (rule 8 (n && true) x)))) ea ∙ ap (λ t. rule 4 t (rule 5 c (rule 8 (n && true) x))) eb ∙ ap (λ t. rule 5 t (rule 8 (n && true) x)) ec ∙ ap (λ t. rule 8 (t && true) x) en ∙ e

pub constructs_abstract : (p : Program) (m : Method) (class : ClassId) (gives : List VType) (fits : Bool) (n : ℕ) (t : VType) (f : Types) (made : ClassId) → slice_get f.stack n ≡ Some t → class_made p m class t ≡ Some made → fits ≡ false →
    constructed p m class gives (needs 14 fits ∷ []) (drop n f.stack) f ≡ Err 14
constructs_abstract p m class gives fits n t f made e some not_fits =
    constructs p m class gives (needs 14 fits ∷ []) n t f made e some ∙ ap (λ b. rule 14 (b && true) (left_types (left_by_made t made gives (drop (n + 1) f.stack) f))) not_fits

pub constructs_fits : (p : Program) (m : Method) (class : ClassId) (gives : List VType) (fits : Bool) (n : ℕ) (t : VType) (f g : Types) (made : ClassId) → slice_get f.stack n ≡ Some t → class_made p m class t ≡ Some made → fits ≡ true →
    g ≡ left_by_made t made gives (drop (n + 1) f.stack) f → constructed p m class gives (needs 14 fits ∷ []) (drop n f.stack) f ≡ Ok g
constructs_fits p m class gives fits n t f g made e some holds is =
    constructs p m class gives (needs 14 fits ∷ []) n t f made e some ∙ ap (λ b. rule 14 (b && true) (left_types (left_by_made t made gives (drop (n + 1) f.stack) f))) holds ∙ ap left_types (sym is)
