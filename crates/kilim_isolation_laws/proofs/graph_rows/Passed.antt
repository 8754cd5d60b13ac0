-- What a step that passes says.
use Rattle.std.proofs.Common.{◌≡◌, ℕ, Bool, true, false, not, ◌&&◌, ◌||◌, List, [], ◌∷◌, ◌++◌, Option, Result, Ok, length, refl}
use Rattle.std.specs.Prelude.{drop}
use Rattle.kilim_program.specs.declared.class.Method.{Method}
use Rattle.kilim_program.specs.declared.instr.Instr.{Instr}
use Rattle.kilim_program.specs.declared.verified.VType.{VType}
use Rattle.kilim_program.specs.Program.{Program}
use Rattle.kilim_type_spec.specs.Step.{Types, Operand, Further, Takes, rule, further, all_meet, has_operands, room_for, by_row}
use Rattle.kilim_isolation_graph.specs.declared.graph.Graph.{Graph}
use Rattle.kilim_isolation_rules.specs.Rules.{deed, moves, any_flow_mixes, left_by}
use Rattle.kilim_isolation_rules.specs.Marks.{stack_lives}
use Rattle.kilim_isolation_laws.proofs.graph_rows.Settle.{not_true, or_left, or_right}

pub rule_passed : {A : Type 0} (n : ℕ) (b : Bool) (go : Result A ℕ) (x : A) → rule n b go ≡ Ok x → (b ≡ true) × (go ≡ Ok x)
rule_passed n true go x e = (refl, e)
rule_passed n false go x e = absurd (cc)

pub further_passed : {A : Type 0} (p : Program) (rs : List Further) (s : List VType) (go : Result A ℕ) (x : A) → further p rs s go ≡ Ok x → go ≡ Ok x
further_passed p [] s go x e = e
further_passed p (r ∷ rs) s go x e = further_passed p rs s go x (rule_passed r.number (r.holds && all_meet p r.operands s) (further p rs s go) x e).1

pub ok_is : {A : Type 0} (x y : A) → ◌≡◌ {A = Result A ℕ} (Ok x) (Ok y) → y ≡ x
ok_is x y e = cc

pub takes_passed : (p : Program) (m : Method) (at : ℕ) (takes : List Operand) (gives : List VType) (also : List Further) (f f1 : Types) → by_row p m at (Takes takes gives also) f ≡ Ok f1 →
    (all_meet p takes f.stack ≡ true) × (f1 ≡ record f { stack = gives ++ drop (length takes) f.stack })
takes_passed p m at takes gives also f f1 e =
    let a = rule_passed 3 (has_operands (length takes) f.stack) _ f1 e in
    let b = rule_passed 4 (room_for m gives (drop (length takes) f.stack)) _ f1 a.1 in
    let c = rule_passed 5 (all_meet p takes f.stack) _ f1 b.1 in
    (c.0, ok_is (record f { stack = gives ++ drop (length takes) f.stack }) f1 (further_passed p also f.stack _ f1 c.1))

pub record IsPassed (p : Program) (m : Method) (g : Graph) (f : Types) (i : Instr) (after : Option Types) (g1 : Graph) : Type 0 where
  pub not_free : (deed p m g f i).not_free ≡ false
  pub gone : (deed p m g f i).gone ≡ false
  pub safe_changed : (deed p m g f i).safe_changed ≡ false
  pub cycle : (deed p m g f i).cycle ≡ false
  pub shared : (deed p m g f i).shared ≡ false
  pub mixed : (deed p m g f i).mixed ≡ false
  pub flow : any_flow_mixes p (left_by p m i f) after ≡ false
  pub not_cuttable : (deed p m g f i).not_cuttable ≡ false
  pub graph : g1 ≡ (deed p m g f i).graph
  pub live : stack_lives (deed p m g f i).graph ≡ true

pub moves_passed : (p : Program) (m : Method) (g : Graph) (f : Types) (i : Instr) (after : Option Types) (g1 : Graph) → moves p m g f i after ≡ Ok g1 → IsPassed p m g f i after g1
unfolding moves
moves_passed p m g f i after g1 e =
    let d = deed p m g f i in
    let r1 = rule_passed 1 (not d.not_free) _ g1 e in
    let r2 = rule_passed 2 (not d.gone) _ g1 r1.1 in
    let r3 = rule_passed 3 (not d.safe_changed) _ g1 r2.1 in
    let r4 = rule_passed 4 (not d.cycle) _ g1 r3.1 in
    let r5 = rule_passed 5 (not d.shared) _ g1 r4.1 in
    let r6 = rule_passed 6 (not (d.mixed || any_flow_mixes p (left_by p m i f) after)) _ g1 r5.1 in
    let r7 = rule_passed 7 (not d.not_cuttable) _ g1 r6.1 in
    let r9 = rule_passed 9 (stack_lives d.graph) _ g1 r7.1 in
    let six = not_true (d.mixed || any_flow_mixes p (left_by p m i f) after) r6.0 in
    record {
      not_free = not_true d.not_free r1.0;
      gone = not_true d.gone r2.0;
      safe_changed = not_true d.safe_changed r3.0;
      cycle = not_true d.cycle r4.0;
      shared = not_true d.shared r5.0;
      mixed = or_left d.mixed (any_flow_mixes p (left_by p m i f) after) six;
      flow = or_right d.mixed (any_flow_mixes p (left_by p m i f) after) six;
      not_cuttable = not_true d.not_cuttable r7.0;
      graph = ok_is d.graph g1 r9.1;
      live = r9.0;
    }
