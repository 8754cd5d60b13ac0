-- The rules let pass under the types at the places what they let pass under the listed frames.
use Rattle.std.proofs.Common.{◌≡◌, ℕ, Bool, true, false, not, ◌||◌, cond, eqb, refl, ap, sym, ◌∙◌, subst, true≢false, List, [], ◌∷◌, Option, Some, None, Ok}
use Rattle.kilim_program.specs.declared.class.Handler.{Handler}
use Rattle.kilim_program.specs.declared.class.Method.{Method}
use Rattle.kilim_program.specs.declared.names.ClassId.{ClassId}
use Rattle.kilim_program.specs.declared.names.MethodId.{MethodId}
use Rattle.kilim_program.specs.Keeps.{Keeps}
use Rattle.kilim_program.specs.Names.{method_at}
use Rattle.kilim_program.specs.declared.instr.Instr.{Instr}
use Rattle.kilim_program.specs.declared.verified.Frame.{Frame}
use Rattle.kilim_program.specs.declared.verified.VType.{VType}
use Rattle.kilim_program.specs.Lengths.{fetched, first_place, is_code_place}
use Rattle.kilim_program.specs.Program.{Program}
use Rattle.kilim_type_spec.specs.Step.{Types, class_vtype, peek}
use Rattle.kilim_type_spec.specs.Typed.{covers, declared, has_code}
use Rattle.kilim_type_spec.specs.TypedProgram.{KeepsTyped, TypedProgram}
use Rattle.kilim_type_laws.specs.Laws.{typing_at}
use Rattle.kilim_type_laws.proofs.ByPlace.{typed_by_place}
use Rattle.kilim_type_laws.proofs.Listed.{listed_frames_show}
use Rattle.kilim_type_laws.proofs.Tops.{passed}
use Rattle.kilim_isolation_paths.specs.Paths.{Has, Reaches}
use Rattle.kilim_isolation_graph.specs.declared.graph.Graph.{Graph}
use Rattle.kilim_isolation_graph.specs.Canonical.{canonical_at}
use Rattle.kilim_isolation_rules.specs.declared.deed.Deed.{Deed}
use Rattle.kilim_isolation_rules.specs.Marks.{is_tree}
use Rattle.kilim_isolation_rules.specs.Rules.{any_flow_mixes, deed, judged, left_by, moves, raised_deed}
use Rattle.kilim_isolation_pauses.specs.Pausing.{frames_at}
use Rattle.kilim_isolation.specs.Laws.{GoesOn}
use Rattle.kilim_run_machine.specs.Raising.{is_throwable}
use Rattle.kilim_type_sound.proofs.Caught.{caught_here}
use Rattle.kilim_isolation_laws.specs.reached_objects.graphs.Threads.{Becomes, Handled}
use Rattle.kilim_isolation_laws.proofs.reached_objects.graphs.FromSteps.{handled_from}
use Rattle.kilim_isolation.specs.Walks.{declared_to, exits_by, machine_of, types_at, types_of}
use Rattle.kilim_isolation_laws.specs.reached_objects.live.Laws.{IsAcceptedBy}
use Rattle.kilim_isolation_laws.proofs.reached_objects.live.Along.{by_among}
use Rattle.kilim_isolation_laws.proofs.reached_objects.live.Live.{passes}
use Rattle.kilim_isolation_laws.specs.reached_objects.walk.Laws.{WalksByTypes}
use Rattle.kilim_isolation_laws.proofs.reached_objects.walk.Agree.{AgreeLocals}
use Rattle.kilim_isolation_laws.proofs.reached_objects.walk.Listed.{frames_are_listed}
use Rattle.kilim_isolation_laws.proofs.reached_objects.walk.Same.{deed_same, left_agrees, left_by_agree}

place_of : (es : List (ℕ × Instr)) (end at : ℕ) (found : Instr × ℕ) → fetched es end at ≡ Some found → is_code_place es at ≡ true
place_of [] end at found is = absurd (cc)
place_of (e ∷ es) end at found is = by (eqb e.0 at) is (λ later. place_of es end at found later)
  where
    by : (b : Bool) → cond b (Some (e.1, first_place es end)) (fetched es end at) ≡ Some found → (fetched es end at ≡ Some found → is_code_place es at ≡ true) → (b || is_code_place es at) ≡ true
    by true here again = refl
    by false here again = again here

or_right : (a b : Bool) → not (a || b) ≡ true → b ≡ false
or_right true b e = absurd (true≢false (sym e))
or_right false true e = absurd (true≢false (sym e))
or_right false false e = refl

no_flow : (d : Deed) (flows : Bool) (g1 : Graph) → judged d flows ≡ Ok g1 → flows ≡ false
no_flow d flows g1 e =
    let one = passed 1 _ _ g1 e in
    let two = passed 2 _ _ g1 one.1 in
    let three = passed 3 _ _ g1 two.1 in
    let four = passed 4 _ _ g1 three.1 in
    let five = passed 5 _ _ g1 four.1 in
    let six = passed 6 _ _ g1 five.1 in
    or_right d.mixed flows six.0

module _ (p : Program) (m : Method) (fs : List Frame) (f seen : Types) (locals : AgreeLocals f.locals seen.locals) (stack : f.stack ≡ seen.stack) where
  -- the types that the rules see, with the same stack
  alike : Types
  alike = record { locals = seen.locals; stack = f.stack; unset = seen.unset }

  is_alike : alike ≡ seen
  unfolding alike
  is_alike = ap (λ (s : List VType). record { locals = seen.locals; stack = s; unset = seen.unset }) stack

  same_deed : (g : Graph) (i : Instr) → deed p m g f i ≡ deed p m g seen i
  unfolding alike
  same_deed g i = deed_same p m f.locals seen.locals f.stack f.unset seen.unset locals g i ∙ ap (λ (z : Types). deed p m g z i) is_alike

  no_flow_either : (i : Instr) (next : ℕ) (to : Option ℕ) → Has (exits_by i next) to → any_flow_mixes p (left_by p m i seen) (declared_to m to) ≡ false → any_flow_mixes p (left_by p m i f) (declared_to m to) ≡ false
  unfolding alike
  no_flow_either i next None exit none = refl
  no_flow_either i next (Some q) exit none =
      left_agrees p (left_by p m i f) (left_by p m i alike) (declared m q) (left_by_agree p m f.locals seen.locals f.stack f.unset seen.unset locals i next q (by_among i next q exit))
      (ap (λ (z : Types). any_flow_mixes p (left_by p m i z) (declared m q)) is_alike ∙ none)

  pub moves_too : (g : Graph) (i : Instr) (next : ℕ) (to : Option ℕ) → Has (exits_by i next) to → moves p m g seen i (declared_to m to) ≡ Ok (deed p m g seen i).graph → moves p m g f i (declared_to m to) ≡ Ok (deed p m g f i).graph
  unfolding moves
  moves_too g i next to exit goes =
      let none = no_flow (deed p m g seen i) (any_flow_mixes p (left_by p m i seen) (declared_to m to)) (deed p m g seen i).graph goes in
      ap (λ (d : Deed). judged d (any_flow_mixes p (left_by p m i f) (declared_to m to))) (same_deed g i)
      ∙ (ap (λ (b : Bool). judged (deed p m g seen i) b) (no_flow_either i next to exit none ∙ sym none)
      ∙ (goes ∙ ap (λ (d : Deed). Ok d.graph) (sym (same_deed g i))))

-- the types at a place and those that are listed for it
record AreSeen (m : Method) (f seen : Types) : Type 0 where
  locals : AgreeLocals f.locals seen.locals
  stack : f.stack ≡ seen.stack

seen_at : (t : TypedProgram) → KeepsTyped t → Keeps t.program → (id : MethodId) (m : Method) → method_at t.program id ≡ Some m → has_code m ≡ true → (at next : ℕ) (i : Instr) → fetched m.code m.code_length at ≡ Some (i, next) → AreSeen m (typing_at t.program id at) (types_at m (frames_at t id) at)
seen_at t typed keeps id m is coded at next i there =
    let p = t.program in
    let fs = frames_at t id in
    let place = place_of m.code m.code_length at (i, next) there in
    let shows = (listed_frames_show p m (typing_at p id) (typed_by_place p keeps typed.typed id m is coded) at place).1 in
    let seen_is = ap types_of (frames_are_listed t typed keeps id m is at place) in
    record { locals = λ j. sym (ap (λ (z : Types). peek z.locals j) seen_is ∙ shows.locals j); stack = sym (ap (λ (z : Types). z.stack) seen_is ∙ shows.stack) }

-- along the edge to a handler, too
pub handled_by_types : (t : TypedProgram) → KeepsTyped t → Keeps t.program → ((c : ClassId) → is_throwable t.program c ≡ true → is_tree t.program (class_vtype c) ≡ false) → (id : MethodId) (m : Method) → method_at t.program id ≡ Some m → has_code m ≡ true →
    (goes : GoesOn t.program m (frames_at t id)) → (at next : ℕ) (i : Instr) (g : Graph) → Reaches (machine_of t.program m (frames_at t id) goes.first) at g → fetched m.code m.code_length at ≡ Some (i, next) → (hd : Handler) → Has m.handlers hd → covers hd at ≡ true →
    Handled t.program m (typing_at t.program id) (frames_at t id) goes.first (typing_at t.program id at) (raised_deed t.program g (typing_at t.program id at) i).graph hd
handled_by_types t typed keeps private id m is coded goes at next i g reaches there hd has covering =
    let p = t.program in
    let seen = seen_at t typed keeps id m is coded at next i there in
    let caught = caught_here p keeps m (typing_at p id) (typed_by_place p keeps typed.typed id m is coded) at next i there has.0 hd has.1 covering in
    handled_from p m (typing_at p id) (frames_at t id) goes.first private at g seen.locals seen.stack reaches (λ e out. goes.goes at g e reaches out) i next there hd has covering
    (λ c throwable catching. subst (λ (o : Option Types). Becomes p (record (typing_at p id at) { stack = class_vtype c ∷ [] }) o (typing_at p id hd.at)) (sym caught.there) (caught.is, caught.flows c throwable catching))

pub walks_by_types : WalksByTypes
walks_by_types t typed keeps id m is coded goes at next i g to reaches there exit =
    let p = t.program in
    let fs = frames_at t id in
    let typing : ℕ → Types = typing_at p id in
    let well = typed_by_place p keeps typed.typed id m is coded in
    let a : IsAcceptedBy p id m typing fs = record { keeps = keeps; is = is; coded = coded; well = well; goes = goes } in
    let w = passes p id m typing fs a at next i g to reaches there exit in
    let seen = seen_at t typed keeps id m is coded at next i there in
    record {
      moved = moves_too p m fs (typing at) (types_at m fs at) seen.locals seen.stack g i next to exit w.moves_on;
      comes = λ q e. subst (λ (z : Graph). Reaches (machine_of p m fs goes.first) q (canonical_at (declared m q) z)) (sym (ap (λ (d : Deed). d.graph) (same_deed p m fs (typing at) (types_at m fs at) seen.locals seen.stack g i))) (w.comes q e);
    }
