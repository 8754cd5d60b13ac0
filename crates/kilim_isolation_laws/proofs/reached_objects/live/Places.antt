-- Frames at places: the first one, and declared ones.
use Rattle.std.proofs.Common.{◌≡◌, ℕ, zero, suc, Bool, true, false, not, ◌||◌, eqb, refl, ap, sym, ◌∙◌, subst, true≢false, List, [], ◌∷◌, Option, Some, None, slice_get}
use Rattle.std.specs.List.{list_all}
use Rattle.std.proofs.lemmas.Bool.{and_parts, eqb-true}
use Rattle.kilim_program.specs.declared.class.Method.{Method}
use Rattle.kilim_program.specs.declared.instr.Instr.{Instr}
use Rattle.kilim_program.specs.declared.names.MethodId.{MethodId}
use Rattle.kilim_program.specs.declared.verified.VType.{VType}
use Rattle.kilim_program.specs.declared.verified.VType.TheVariants.{Top, Int, Long, Null, UninitThis, Uninit, Object}
use Rattle.kilim_program.specs.Keeps.{Keeps, code_is_whole}
use Rattle.kilim_program.specs.Lengths.{code_stands, ends_path, is_code_place}
use Rattle.kilim_program.specs.Names.{is_empty, method_at}
use Rattle.kilim_program.specs.Program.{Program}
use Rattle.kilim_type_spec.specs.Step.{Types, assignable, peek}
use Rattle.kilim_type_spec.specs.Typed.{Here, TypedBy, WellTypedBy, declared, entry, goes_on, has_code}
use Rattle.kilim_isolation_laws.proofs.forest.Store.{is_same}
use Rattle.kilim_isolation_laws.specs.reached_objects.live.Laws.{is_number}

-- ---- the code begins at place 0

all_there : {A : Type 0} (test : A → Bool) (xs : List A) (n : ℕ) (x : A) → list_all test xs ≡ true → slice_get xs n ≡ Some x → test x ≡ true
all_there test [] n x all there = absurd (cc)
all_there test (y ∷ xs) zero x all there = let e : y ≡ x = cc in ap test (sym e) ∙ (and_parts (test y) _ all).0
all_there test (y ∷ xs) (suc n) x all there = all_there test xs n x (and_parts (test y) _ all).1 there

pub record Begins (code : List (ℕ × Instr)) : Type 0 where
  pub first : ℕ × Instr
  pub rest : List (ℕ × Instr)
  pub is : code ≡ first ∷ rest
  pub zero : first.0 ≡ 0

stands_begins : (code : List (ℕ × Instr)) (end : ℕ) → not (is_empty code) ≡ true → code_stands 0 code end ≡ true → Begins code
unfolding code_stands
stands_begins [] end some stands = absurd (true≢false (sym some))
stands_begins (e ∷ es) end some stands = record { first = e; rest = es; is = refl; zero = is_same e.0 0 (and_parts (eqb e.0 0) _ stands).0 }

code_begins : (p : Program) → Keeps p → (id : MethodId) (m : Method) → method_at p id ≡ Some m → has_code m ≡ true → Begins m.code
unfolding code_is_whole
code_begins p keeps id m is coded = stands_begins m.code m.code_length coded (and_parts (code_stands 0 m.code m.code_length) _ (all_there code_is_whole p.methods id.0 m keeps.code is)).0

first_here : (p : Program) (m : Method) (typing : ℕ → Types) (flow : Types) (code : List (ℕ × Instr)) → Begins code → TypedBy p m typing (Some flow) code → Here p (Some flow) (declared m 0) (typing 0)
first_here p m typing flow code b walk =
    let w : TypedBy p m typing (Some flow) (b.first ∷ b.rest) = subst (λ (c : List (ℕ × Instr)). TypedBy p m typing (Some flow) c) b.is walk in
    subst (λ (z : ℕ). Here p (Some flow) (declared m z) (typing z)) b.zero w.0

-- the frame at place 0 is the method's first one, or the declared one into which that flows
pub entry_here : (p : Program) → Keeps p → (id : MethodId) (m : Method) (typing : ℕ → Types) → method_at p id ≡ Some m → has_code m ≡ true → WellTypedBy p m typing → Here p (Some (entry m)) (declared m 0) (typing 0)
entry_here p keeps id m typing is coded well = first_here p m typing (entry m) m.code (code_begins p keeps id m is coded) well.walk

-- ---- declared frames

here_is : (p : Program) (flow : Option Types) (d f : Types) → Here p flow (Some d) f → f ≡ d
here_is p None d f h = h
here_is p (Some g) d f h = h.0

typed_at : (p : Program) (m : Method) (typing : ℕ → Types) (flow : Option Types) (es : List (ℕ × Instr)) (q : ℕ) (d : Types) → TypedBy p m typing flow es → is_code_place es q ≡ true → declared m q ≡ Some d → typing q ≡ d
typed_at p m typing flow [] q d h c k = absurd (cc)
typed_at p m typing flow (e ∷ es) q d h c k = by_test (eqb e.0 q) refl c (typed_at p m typing (goes_on (ends_path e.1) h.1) es q d h.4)
  where
    by_test : (b : Bool) → eqb e.0 q ≡ b → (b || is_code_place es q) ≡ true → (is_code_place es q ≡ true → declared m q ≡ Some d → typing q ≡ d) → typing q ≡ d
    by_test true t c again = subst (λ (z : ℕ). typing z ≡ d) (eqb-true e.0 q t)
        (here_is p flow d (typing e.0) (subst (λ (o : Option Types). Here p flow o (typing e.0)) (ap (declared m) (eqb-true e.0 q t) ∙ k) h.0))
    by_test false t c again = again c k

pub declared_is : (p : Program) (m : Method) (typing : ℕ → Types) → WellTypedBy p m typing → (q : ℕ) (d : Types) → is_code_place m.code q ≡ true → declared m q ≡ Some d → typing q ≡ d
declared_is p m typing well q d place k = typed_at p m typing (Some (entry m)) m.code q d well.walk place k

-- ---- numbers flow from numbers alone

pub number_flows : (p : Program) (t u : VType) → assignable p t u ≡ true → is_number u ≡ true → is_number t ≡ true
number_flows p Int Int a n = refl
number_flows p Long Long a n = refl
number_flows p Int Long a n = absurd (true≢false (sym a))
number_flows p Long Int a n = absurd (true≢false (sym a))
number_flows p Top Int a n = absurd (true≢false (sym a))
number_flows p Top Long a n = absurd (true≢false (sym a))
number_flows p Null Int a n = absurd (true≢false (sym a))
number_flows p Null Long a n = absurd (true≢false (sym a))
number_flows p UninitThis Int a n = absurd (true≢false (sym a))
number_flows p UninitThis Long a n = absurd (true≢false (sym a))
number_flows p (Uninit at) Int a n = absurd (true≢false (sym a))
number_flows p (Uninit at) Long a n = absurd (true≢false (sym a))
number_flows p (Object ty) Int a n = absurd (true≢false (sym a))
number_flows p (Object ty) Long a n = absurd (true≢false (sym a))
number_flows p t Top a n = absurd (true≢false (sym n))
number_flows p t Null a n = absurd (true≢false (sym n))
number_flows p t UninitThis a n = absurd (true≢false (sym n))
number_flows p t (Uninit at) a n = absurd (true≢false (sym n))
number_flows p t (Object ty) a n = absurd (true≢false (sym n))

pub number_here : (p : Program) (flow f : Types) (o : Option Types) (k : ℕ) → Here p (Some flow) o f → is_number (peek f.locals k) ≡ true → is_number (peek flow.locals k) ≡ true
number_here p flow f None k h n = ap (λ (z : Types). is_number (peek z.locals k)) (sym h) ∙ n
number_here p flow f (Some d) k h n = number_flows p (peek flow.locals k) (peek d.locals k) (h.1.locals k) (ap (λ (z : Types). is_number (peek z.locals k)) (sym h.0) ∙ n)
