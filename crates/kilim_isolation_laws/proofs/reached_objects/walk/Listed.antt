-- The frames of a typed program are listed, one for each instruction.
use Rattle.std.proofs.Common.{◌≡◌, ℕ, zero, suc, Bool, true, false, ◌||◌, cond, eqb, refl, ap, sym, ◌∙◌, true≢false, List, [], ◌∷◌, map, Option, Some, None, slice_get}
use Rattle.kilim_program.specs.declared.class.Method.{Method}
use Rattle.kilim_program.specs.declared.instr.Instr.{Instr}
use Rattle.kilim_program.specs.declared.names.MethodId.{MethodId}
use Rattle.kilim_program.specs.declared.verified.Frame.{Frame}
use Rattle.kilim_program.specs.Lengths.{is_code_place}
use Rattle.kilim_program.specs.Names.{method_at}
use Rattle.kilim_program.specs.Program.{Program}
use Rattle.kilim_type_spec.specs.Step.{Types}
use Rattle.kilim_type_spec.specs.Typed.{arriving, declared, entry, frame_among as types_among, frames_from, frames_of, left_by, listed, typing_of}
use Rattle.kilim_type_laws.specs.Laws.{typing_in}
use Rattle.kilim_type_spec.specs.TypedProgram.{KeepsTyped, TypedProgram}
use Rattle.kilim_isolation_pauses.specs.Pausing.{frames_at}
use Rattle.kilim_isolation.specs.Walks.{frame_among}
use Rattle.kilim_isolation_laws.specs.reached_objects.walk.Laws.{FramesAreListed}

abbrev AsLong : List (ℕ × Instr) → List Types → Type 0
AsLong [] fs = Unit {0}
AsLong (e ∷ es) [] = ⊥
AsLong (e ∷ es) (f ∷ fs) = AsLong es fs

as_long : (p : Program) (m : Method) (flow : Option Types) (es : List (ℕ × Instr)) → AsLong es (frames_from p m flow es)
as_long p m flow [] = tt
as_long p m flow (e ∷ es) = as_long p m (left_by p m e (arriving flow (declared m e.0))) es

found : (m : Method) (es : List (ℕ × Instr)) (fs : List Types) (at : ℕ) → AsLong es fs → is_code_place es at ≡ true → frame_among es (map (listed m) fs) at ≡ Some (listed m (types_among es fs at))
found m [] fs at long place = absurd (true≢false (sym place))
found m (e ∷ es) [] at long place = absurd long
found m (e ∷ es) (f ∷ fs) at long place = by (eqb e.0 at) place (λ later. found m es fs at long later)
  where
    by : (b : Bool) → (b || is_code_place es at) ≡ true → (is_code_place es at ≡ true → frame_among es (map (listed m) fs) at ≡ Some (listed m (types_among es fs at))) →
        cond b (Some (listed m f)) (frame_among es (map (listed m) fs) at) ≡ Some (listed m (cond b f (types_among es fs at)))
    by true here again = refl
    by false here again = again here

get_mapped : {A B : Type 0} (f : A → B) (xs : List A) (n : ℕ) (x : A) → slice_get xs n ≡ Some x → slice_get (map f xs) n ≡ Some (f x)
get_mapped f [] n x e = absurd (cc)
get_mapped {A} {B} f (y ∷ xs) zero x e = let same : y ≡ x = cc in ap (λ (z : A). Some (f z)) same
get_mapped f (y ∷ xs) (suc n) x e = get_mapped f xs n x e

pub frames_are : (t : TypedProgram) → KeepsTyped t → (id : MethodId) (m : Method) → method_at t.program id ≡ Some m → frames_at t id ≡ map (listed m) (frames_of t.program m)
frames_are t keeps id m is =
    let there : slice_get t.frames id.0 ≡ Some (map (listed m) (frames_of t.program m)) =
    ap (λ (fs : List (List Frame)). slice_get fs id.0) keeps.frames ∙ get_mapped (λ (x : Method). map (listed x) (frames_of t.program x)) t.program.methods id.0 m is in
    ap (λ (o : Option (List Frame)). elim o [ None ↦ [] | Some fs ↦ fs ]) there

pub frames_are_listed : FramesAreListed
unfolding typing_of
frames_are_listed t typed keeps id m is at place =
    ap (λ (fs : List Frame). frame_among m.code fs at) (frames_are t typed id m is)
    ∙ (found m m.code (frames_of t.program m) at (as_long t.program m (Some (entry m)) m.code) place
    ∙ ap (λ (o : Option Method). Some (listed m (typing_in t.program o at))) (sym is))
