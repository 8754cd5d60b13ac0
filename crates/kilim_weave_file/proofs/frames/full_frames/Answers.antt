use Rattle.std.proofs.Common.{◌≡◌, ℕ, suc, ◌+◌, ◌-◌, ◌<◌, List, [], ◌∷◌, ◌++◌, length, get_or, drop, drop-cons, sym, ap, ◌∙◌, add-one, append_assoc, refl}
use Rattle.kilim_lemmas.proofs.Walks.{all_made}
use Rattle.kilim_class_attributes.specs.declared.parts.frame.Frame.{Frame as FrameForm}
use Rattle.kilim_program.specs.declared.verified.Frame.{Frame}
use Rattle.kilim_program.specs.Program.{Program}
use Rattle.kilim_class_pool.specs.declared.entry.Entry.{Entry}
use Rattle.kilim_weave_file_spec.specs.FullFrames.{full_frame, full_frames}
use Rattle.kilim_weave_file.proofs.frames.full_frames.Goals as goal

-- the frames behind one more
one_more : (w : Program) (pool : List Entry) (frames : List (ℕ × Frame)) (i : ℕ) (e : ℕ × Frame) (next later : ℕ) (all new whole : List FrameForm) → i < length frames → e ≡ get_or frames i e
    → (later ≡ suc e.0) × (new ≡ all ++ full_frame w pool (e.0 - next) e.1 ∷ []) → all ++ full_frames w pool next (drop i frames) ≡ whole → new ++ full_frames w pool later (drop (i + 1) frames) ≡ whole
unfolding full_frames
one_more w pool frames i e next later all new whole lt is made so_far =
    let rest : List FrameForm = full_frames w pool (suc e.0) (drop (suc i) frames) in
    rw add-one
    (ap (λ (n : ℕ). new ++ full_frames w pool n (drop (suc i) frames)) made.0
    ∙ (ap (λ (t : List FrameForm). t ++ rest) made.1
    ∙ (append_assoc all (full_frame w pool (e.0 - next) e.1 ∷ []) rest
    ∙ (ap (λ (x : ℕ × Frame). all ++ full_frames w pool next (x ∷ drop (suc i) frames)) is ∙ (ap (λ (es : List (ℕ × Frame)). all ++ full_frames w pool next es) (sym (drop-cons frames i e lt)) ∙ so_far)))))

pub loop-entry-preserved : goal.loop-entry-preserved
loop-entry-preserved c =
    one_more c.args.program.now c.args.pool.now c.args.frames.now c.loop-entry.entry-index c.entry-item.result c.loop-entry.next c.in-Ok.behind c.loop-entry.all c.push_frame.new.into
    (full_frames c.args.program.now c.args.pool.now 0 c.args.frames.now) c.loop-entry-test.true c.entry-item.is c.in-Ok.ensures c.loop-entry.invariant

pub returns : goal.returns
unfolding full_frames
returns c =
    all_made (full_frames c.args.program.now c.args.pool.now c.loop-entry.next) c.loop-entry.all (full_frames c.args.program.now c.args.pool.now 0 c.args.frames.now) c.args.frames.now c.loop-entry.entry-index refl c.loop-entry-test.false c.loop-entry.invariant
