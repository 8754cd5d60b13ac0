-- A fiber that rests goes on with `execute`.
use Rattle.std.proofs.Common.{◌≡◌, List, [], ◌∷◌, Some, Result, Ok, Err, sym, ap, ◌∙◌}
use Rattle.std.specs.Prelude.{IfOk}
use Rattle.kilim_program.specs.declared.names.MethodId.{MethodId}
use Rattle.kilim_program.specs.declared.value.Value.{Value}
use Rattle.kilim_program.specs.declared.value.Value.TheVariants.{Fiber}
use Rattle.kilim_program.specs.Program.{Program}
use Rattle.kilim_run_state.specs.Machine.{Objects}
use Rattle.kilim_run_machine.specs.Moves.{entered}
use Rattle.kilim_units.specs.declared.memory.NoMemory.{NoMemory}
use Rattle.kilim_run_state.specs.declared.frames.frames.Frames.{Frames}
use Rattle.kilim_run_state.specs.frames.Calls.{calls_of}
use Rattle.kilim_fiber_spec.specs.Fibers.{Fib, executes_on, first_receiver, resumed}
use Rattle.kilim_fiber_laws.specs.woven_kin.Nexts.{Goes, resumes_next}
use Rattle.kilim_fiber_body.specs.Body.{aside_in, calls_in, standing_at}
use Rattle.kilim_fiber_body.specs.declared.body.Body.{Body}

-- the frames are those of the method `execute` that the receiver has
pub executes_with : (W : Program) (h : Objects) (receiver : Value) (m : MethodId) (args : List Value) (r : Result Frames NoMemory) → executes_on W h receiver ≡ Some m → args ≡ receiver ∷ Fiber ∷ [] → IfOk r (λ frames. calls_of frames ≡ entered W m args ∷ []) →
    IfOk r (λ frames. (method : MethodId) × (executes_on W h receiver ≡ Some method) × (calls_of frames ≡ entered W method (receiver ∷ Fiber ∷ []) ∷ []))
executes_with W h receiver m args (Ok frames) has are calls = (m, has, calls ∙ ap (λ (vs : List Value). entered W m vs ∷ []) are)
executes_with W h receiver m args (Err fault) has are calls = calls

-- at the frames of that method it stands as the table of what comes next has it
pub goes_on : (W : Program) (old mid : Body) (frames : Frames) (records : Fib) (receiver : Value) (m : MethodId) → receiver ≡ first_receiver old.records → executes_on W old.heap receiver ≡ Some m →
    calls_of frames ≡ entered W m (receiver ∷ Fiber ∷ []) ∷ [] → mid ≡ record old { frames = Some frames } → records ≡ resumed mid.records →
    resumes_next W (standing_at 0 old) (executes_on W old.heap (first_receiver old.records)) ≡ Goes (standing_at 0 (record mid { records = records }))
goes_on W old mid frames records receiver m is has calls stands rewinds =
    let there : executes_on W old.heap (first_receiver old.records) ≡ Some m = ap (executes_on W old.heap) (sym is) ∙ has in
    let back : record old { frames = Some frames } ≡ mid = sym stands in
    let at : entered W m (first_receiver old.records ∷ Fiber ∷ []) ∷ [] ≡ calls_in mid.frames = ap (λ (v : Value). entered W m (v ∷ Fiber ∷ []) ∷ []) (sym is) ∙ (sym calls ∙ ap (λ (b : Body). calls_in b.frames) back) in
    let fiber : resumed old.records ≡ records = ap (λ (b : Body). resumed b.records) back ∙ sym rewinds in
    let next : Goes (record (standing_at 0 old) { frames = entered W m (first_receiver old.records ∷ Fiber ∷ []) ∷ []; fiber = resumed old.records }) ≡ Goes (standing_at 0 (record mid { records = records })) =
    λ i. Goes (record { frames = at i; fiber = fiber i; heap = (back i).heap; next = 0; done = (back i).count; boxes = (back i).boxes; kept = (back i).kept; aside = aside_in (back i).apart }) in
    ap (resumes_next W (standing_at 0 old)) there ∙ next
