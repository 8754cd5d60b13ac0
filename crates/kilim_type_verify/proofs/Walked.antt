-- The walk through the code of a method.
use Rattle.std.proofs.Common.{◌≡◌, ℕ, ◌+◌, ◌≤◌, Bool, true, false, refl, ap, sym, ◌∙◌, List, [], ◌∷◌, ◌++◌, length, drop, slice_get, map, Option, Some, None}
use Rattle.std.specs.Prelude.{unwrap_or, nat_le, cond}
use Rattle.std.proofs.lemmas.List.{drop_more, drop_all, append_assoc}
use Rattle.std.proofs.lemmas.Option.{slice_get_within, get_or_from_slice_get}
use Rattle.kilim_program.specs.declared.class.Method.{Method}
use Rattle.kilim_program.specs.declared.instr.Instr.{Instr}
use Rattle.kilim_program.specs.declared.verified.Frame.{Frame}
use Rattle.kilim_program.specs.Lengths.{ends_path}
use Rattle.kilim_program.specs.Program.{Program}
use Rattle.kilim_type_spec.specs.Step.{Types, type_step}
use Rattle.kilim_type_spec.specs.Typed.{arriving, declared, goes_on, flows_on, left_by, listed, no_types, frames_from}
use Rattle.kilim_type_spec.specs.Faults.{lesser, fails_unless, targets_declared, instr_rule, place_rule, handler_rule, fault_or, walk_fault}
use Rattle.kilim_type_verify.specs.declared.walk.Visited.TheVariants.{Goes, Fails}
use Rattle.kilim_type_verify.specs.Places.{place_of, IsStepped}
use Rattle.kilim_type_verify.specs.Walks.{VisitedUnder}

front_is : {A : Type 0} → (s : List A) (k : ℕ) (t : A) → slice_get s k ≡ Some t → drop k s ≡ t ∷ drop (k + 1) s
front_is s k t e = drop_more s k t (slice_get_within s k t e) ∙ ap (λ x. x ∷ drop (k + 1) s) (get_or_from_slice_get s k t t e)

pub place_next : (code : List (ℕ × Instr)) (k : ℕ) (e : ℕ × Instr) → slice_get code k ≡ Some e → Some e.0 ≡ place_of (drop k code)
place_next code k e is = sym (ap place_of (front_is code k e is))

pub place_past : (code : List (ℕ × Instr)) (k : ℕ) → length code ≤ k → place_of (drop k code) ≡ None
place_past code k h = ap place_of (drop_all k code h)

lesser_none : (a b : Option ℕ) → lesser a b ≡ None → b ≡ None
lesser_none None b e = e
lesser_none (Some a) None e = refl
lesser_none (Some a) (Some b) e = absurd (by (nat_le a b) e)
  where
    by : (t : Bool) → cond t (Some a) (Some b) ≡ None → ⊥
    by true x = cc
    by false x = cc

lesser_first : (a b : Option ℕ) → lesser a b ≡ None → a ≡ None
lesser_first None b e = refl
lesser_first (Some a) None e = absurd (cc)
lesser_first (Some a) (Some b) e = absurd (by (nat_le a b) e)
  where
    by : (t : Bool) → cond t (Some a) (Some b) ≡ None → ⊥
    by true x = cc
    by false x = cc

module _ (p : Program) (m : Method) (e : ℕ × Instr) (es : List (ℕ × Instr)) (pending : Option ℕ) where
  both_rules : (state after : Types) (found unhandled : Option ℕ) → unhandled ≡ handler_rule p m e.0 state → IsStepped (instr_rule p m e.1 es (type_step p m e.0 e.1 state)) (type_step p m e.0 e.1 state) found after →
      lesser pending (place_rule p m e es (Some state)) ≡ lesser pending (lesser found unhandled)
  both_rules state after found unhandled handled done = ap (λ (a : Option ℕ). lesser pending (lesser a (handler_rule p m e.0 state))) done.rule ∙ ap (λ (b : Option ℕ). lesser pending (lesser found b)) (sym handled)

  pub visited : (state after : Types) (found unhandled : Option ℕ) (old new : List Frame) → lesser pending (lesser found unhandled) ≡ None → unhandled ≡ handler_rule p m e.0 state → IsStepped (instr_rule p m e.1 es (type_step p m e.0 e.1 state)) (type_step p m e.0 e.1 state) found after →
      new ≡ old ++ listed m state ∷ [] → VisitedUnder p m pending (Some state) e es old new (Goes (goes_on (ends_path e.1) after))
  visited state after found unhandled old new none handled done is = (
    both_rules state after found unhandled handled done ∙ none,
    ap (flows_on (ends_path e.1)) (done.left (lesser_first found unhandled (lesser_none pending (lesser found unhandled) none))),
    is,
  )

  pub broken : (state after : Types) (found unhandled : Option ℕ) (old new : List Frame) (rule : ℕ) → lesser pending (lesser found unhandled) ≡ Some rule → unhandled ≡ handler_rule p m e.0 state → IsStepped (instr_rule p m e.1 es (type_step p m e.0 e.1 state)) (type_step p m e.0 e.1 state) found after →
      VisitedUnder p m pending (Some state) e es old new (Fails rule)
  broken state after found unhandled old new rule some handled done = both_rules state after found unhandled handled done ∙ some

  pub nothing_goes : (old new : List Frame) (b : Bool) → b ≡ targets_declared m e.1 es → lesser pending (fails_unless b 2) ≡ None → new ≡ old ++ listed m no_types ∷ [] → VisitedUnder p m pending None e es old new (Goes None)
  nothing_goes old new b t none is = (ap (λ x. lesser pending (fails_unless x 2)) (sym t) ∙ none, refl, is)

  pub nothing_fails : (old new : List Frame) (b : Bool) (rule : ℕ) → b ≡ targets_declared m e.1 es → lesser pending (fails_unless b 2) ≡ Some rule → VisitedUnder p m pending None e es old new (Fails rule)
  nothing_fails old new b rule t some = ap (λ x. lesser pending (fails_unless x 2)) (sym t) ∙ some

-- ---- on through the code

pub fault_on : (p : Program) (m : Method) (code : List (ℕ × Instr)) (k : ℕ) (e : ℕ × Instr) (pending : Option ℕ) (flow next : Option Types) (old new : List Frame) → slice_get code k ≡ Some e →
    VisitedUnder p m pending (arriving flow (declared m e.0)) e (drop (k + 1) code) old new (Goes next) → walk_fault p m None next (drop (k + 1) code) ≡ walk_fault p m pending flow (drop k code)
fault_on p m code k e pending flow next old new is v =
    sym (ap (walk_fault p m pending flow) (front_is code k e is)
    ∙ ap (λ r. fault_or e.0 r (walk_fault p m None (left_by p m e (arriving flow (declared m e.0))) (drop (k + 1) code))) v.0
    ∙ ap (λ g. walk_fault p m None g (drop (k + 1) code)) v.1)

pub fault_at : (p : Program) (m : Method) (code : List (ℕ × Instr)) (k : ℕ) (e : ℕ × Instr) (pending : Option ℕ) (flow : Option Types) (old new : List Frame) (rule : ℕ) → slice_get code k ≡ Some e →
    VisitedUnder p m pending (arriving flow (declared m e.0)) e (drop (k + 1) code) old new (Fails rule) → walk_fault p m pending flow (drop k code) ≡ Some (e.0, rule)
fault_at p m code k e pending flow old new rule is v =
    ap (walk_fault p m pending flow) (front_is code k e is)
    ∙ ap (λ r. fault_or e.0 r (walk_fault p m None (left_by p m e (arriving flow (declared m e.0))) (drop (k + 1) code))) v

pub frames_on : (p : Program) (m : Method) (code : List (ℕ × Instr)) (k : ℕ) (e : ℕ × Instr) (pending : Option ℕ) (flow next : Option Types) (old new : List Frame) → slice_get code k ≡ Some e →
    VisitedUnder p m pending (arriving flow (declared m e.0)) e (drop (k + 1) code) old new (Goes next) →
    new ++ map (listed m) (frames_from p m next (drop (k + 1) code)) ≡ old ++ map (listed m) (frames_from p m flow (drop k code))
frames_on p m code k e pending flow next old new is v =
    ap (λ xs. xs ++ map (listed m) (frames_from p m next (drop (k + 1) code))) v.2
    ∙ append_assoc old (listed m (unwrap_or (arriving flow (declared m e.0)) no_types) ∷ []) (map (listed m) (frames_from p m next (drop (k + 1) code)))
    ∙ ap (λ g. old ++ (listed m (unwrap_or (arriving flow (declared m e.0)) no_types) ∷ map (listed m) (frames_from p m g (drop (k + 1) code)))) (sym v.1)
    ∙ ap (λ es. old ++ map (listed m) (frames_from p m flow es)) (sym (front_is code k e is))
