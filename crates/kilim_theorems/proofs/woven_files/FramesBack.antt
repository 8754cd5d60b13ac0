-- Frames that were written in the full form are read as they were.
use Rattle.std.proofs.Common.{◌≡◌, ℕ, suc, ◌-◌, ◌≤◌, List, [], ◌∷◌, map, Option, Some, None, option_map, refl, sym, ap, ◌∙◌, arith}
use Rattle.std.specs.List.{flat_map, AllByRecursion}
use Rattle.kilim_class_pool.specs.declared.entry.Entry.{Entry}
use Rattle.kilim_program.specs.declared.verified.Frame.{Frame}
use Rattle.kilim_program.specs.declared.verified.VType.{VType}
use Rattle.kilim_program.specs.declared.verified.VType.TheVariants.{Top, Int, Long, Null, UninitThis, Uninit, Object}
use Rattle.kilim_program.specs.Program.{Program}
use Rattle.kilim_link_spec.specs.World.{World}
use Rattle.kilim_link_spec.specs.Types.{type_named, named_by, each_of, itself, with_first}
use Rattle.kilim_link_spec.specs.Code.{applied}
use Rattle.kilim_link_spec.specs.Frames.{slot_in, local_slots, frame_with, frame_of, frames_from, place_after}
use Rattle.kilim_weave_file_spec.specs.FullFrames.{slot_type, entries, full_frames}
use Rattle.kilim_theorems.specs.woven_files.Standing.{TypeIsFound, TypesAreFound, Halved, FrameFound, Increase}

-- ---- what a frame is

-- ---- slots

slot_back : (v : World) (w : Program) (pool : List Entry) (t : VType) → TypeIsFound v w pool t → slot_in v pool (slot_type w pool t) ≡ Some t
slot_back v w pool Top h = refl
slot_back v w pool Int h = refl
slot_back v w pool Long h = refl
slot_back v w pool Null h = refl
slot_back v w pool UninitThis h = refl
slot_back v w pool (Uninit place) h = refl
slot_back v w pool (Object ty) h = ap (λ t. option_map Object (type_named v (named_by t))) h.0 ∙ ap (option_map Object) h.1

slots_back : (v : World) (w : Program) (pool : List Entry) (ts : List VType) → TypesAreFound v w pool ts → each_of itself (map (slot_in v pool) (map (slot_type w pool) ts)) ≡ Some ts
slots_back v w pool [] h = refl
slots_back v w pool (t ∷ ts) h =
    ap (λ x. with_first x (each_of itself (map (slot_in v pool) (map (slot_type w pool) ts)))) (slot_back v w pool t h.0) ∙ ap (with_first (Some t)) (slots_back v w pool ts h.1)

entries_back : (ts : List VType) → Halved ts → flat_map local_slots (entries ts) ≡ ts
entries_back [] h = refl
entries_back (Long ∷ []) h = absurd h
entries_back (Long ∷ Top ∷ ts) h = ap (λ x. Long ∷ Top ∷ x) (entries_back ts h)
entries_back (Long ∷ Int ∷ ts) h = absurd h
entries_back (Long ∷ Long ∷ ts) h = absurd h
entries_back (Long ∷ Null ∷ ts) h = absurd h
entries_back (Long ∷ UninitThis ∷ ts) h = absurd h
entries_back (Long ∷ Uninit place ∷ ts) h = absurd h
entries_back (Long ∷ Object ty ∷ ts) h = absurd h
entries_back (Top ∷ ts) h = ap (λ x. Top ∷ x) (entries_back ts h)
entries_back (Int ∷ ts) h = ap (λ x. Int ∷ x) (entries_back ts h)
entries_back (Null ∷ ts) h = ap (λ x. Null ∷ x) (entries_back ts h)
entries_back (UninitThis ∷ ts) h = ap (λ x. UninitThis ∷ x) (entries_back ts h)
entries_back (Uninit place ∷ ts) h = ap (λ x. Uninit place ∷ x) (entries_back ts h)
entries_back (Object ty ∷ ts) h = ap (λ x. Object ty ∷ x) (entries_back ts h)

entries_found : (v : World) (w : Program) (pool : List Entry) (ts : List VType) → Halved ts → TypesAreFound v w pool ts → TypesAreFound v w pool (entries ts)
entries_found v w pool [] h f = tt
entries_found v w pool (Long ∷ []) h f = absurd h
entries_found v w pool (Long ∷ Top ∷ ts) h f = (tt, entries_found v w pool ts h f.1.1)
entries_found v w pool (Long ∷ Int ∷ ts) h f = absurd h
entries_found v w pool (Long ∷ Long ∷ ts) h f = absurd h
entries_found v w pool (Long ∷ Null ∷ ts) h f = absurd h
entries_found v w pool (Long ∷ UninitThis ∷ ts) h f = absurd h
entries_found v w pool (Long ∷ Uninit place ∷ ts) h f = absurd h
entries_found v w pool (Long ∷ Object ty ∷ ts) h f = absurd h
entries_found v w pool (Top ∷ ts) h f = (f.0, entries_found v w pool ts h f.1)
entries_found v w pool (Int ∷ ts) h f = (f.0, entries_found v w pool ts h f.1)
entries_found v w pool (Null ∷ ts) h f = (f.0, entries_found v w pool ts h f.1)
entries_found v w pool (UninitThis ∷ ts) h f = (f.0, entries_found v w pool ts h f.1)
entries_found v w pool (Uninit place ∷ ts) h f = (f.0, entries_found v w pool ts h f.1)
entries_found v w pool (Object ty ∷ ts) h f = (f.0, entries_found v w pool ts h f.1)

-- ---- frames

frame_back : (v : World) (w : Program) (pool : List Entry) (f : Frame) → FrameFound v w pool f →
    frame_of (record { locals = map (slot_in v pool) (map (slot_type w pool) (entries f.locals)); stack = map (slot_in v pool) (map (slot_type w pool) f.stack) }) ≡ Some f
frame_back v w pool f h =
    ap (λ l. applied (option_map frame_with l) (each_of itself (map (slot_in v pool) (map (slot_type w pool) f.stack)))) (slots_back v w pool (entries f.locals) (entries_found v w pool f.locals h.halved h.locals))
    ∙ (ap (applied (Some (frame_with (entries f.locals)))) (slots_back v w pool f.stack h.stack)
    ∙ ap (λ l. Some (record { locals = l; stack = f.stack })) (entries_back f.locals h.halved))

abbrev pub StandsBefore : Option ℕ → ℕ → Type 0
StandsBefore None next = next ≡ 0
StandsBefore (Some at) next = next ≡ suc at

place_back : (before : Option ℕ) (next at : ℕ) → StandsBefore before next → next ≤ at → place_after before (at - next) ≡ at
place_back None next at h le = omega (arith, h, le)
place_back (Some b) next at h le = omega (arith, h, le)

pub frames_back : (v : World) (w : Program) (pool : List Entry) (before : Option ℕ) (next : ℕ) (locals : List (Option VType)) (frames : List (ℕ × Frame)) →
    StandsBefore before next → Increase next frames → AllByRecursion (λ (e : ℕ × Frame). FrameFound v w pool e.1) frames →
    each_of itself (frames_from v pool before locals (full_frames w pool next frames)) ≡ Some frames
unfolding full_frames frames_from
frames_back v w pool before next locals [] b i h = refl
frames_back v w pool before next locals (e ∷ es) b i h =
    let at : place_after before (e.0 - next) ≡ e.0 = place_back before next e.0 b i.0 in
    let others = frames_back v w pool (Some (place_after before (e.0 - next))) (suc e.0) (map (slot_in v pool) (map (slot_type w pool) (entries e.1.locals))) es (ap suc (sym at)) i.1 h.1 in
    ap (λ o. with_first (option_map (λ f. (place_after before (e.0 - next), f)) o) (each_of itself (frames_from v pool (Some (place_after before (e.0 - next))) (map (slot_in v pool) (map (slot_type w pool) (entries e.1.locals))) (full_frames w pool (suc e.0) es)))) (frame_back v w pool e.1 h.0)
    ∙ (ap (with_first (Some (place_after before (e.0 - next), e.1))) others ∙ ap (λ a. Some ((a, e.1) ∷ es)) at)
