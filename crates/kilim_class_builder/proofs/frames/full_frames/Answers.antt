use Rattle.std.proofs.Common.{◌≡◌, ℕ, suc, ◌+◌, ◌-◌, ◌<◌, List, [], ◌∷◌, ◌++◌, length, get_or, drop, drop-cons, refl, sym, ap, ◌∙◌, add-one, append_assoc}
use Rattle.kilim_lemmas.proofs.Walks.{all_made}
use Rattle.kilim_class_attributes.specs.declared.parts.frame.Frame.{Frame as FrameForm}
use Rattle.kilim_program.specs.declared.verified.Frame.{Frame}
use Rattle.kilim_class_pool.specs.declared.entry.Entry.{Entry}
use Rattle.kilim_class_builder.specs.Frames.{full_frame, full_frames}
use Rattle.kilim_class_builder.proofs.frames.full_frames.Goals as goal

-- the frames behind one more
one_more : (pool : List Entry) (frames : List (ℕ × Frame)) (i : ℕ) (e : ℕ × Frame) (next later delta : ℕ) (made : FrameForm) (all new whole : List FrameForm) → i < length frames → e ≡ get_or frames i e
    → delta ≡ e.0 - next → made ≡ full_frame pool delta e.1 → later ≡ suc e.0 → new ≡ all ++ made ∷ [] → all ++ full_frames pool next (drop i frames) ≡ whole → new ++ full_frames pool later (drop (i + 1) frames) ≡ whole
unfolding full_frames
one_more pool frames i e next later delta made all new whole lt is far is_made behind step so_far =
    let rest : List FrameForm = full_frames pool (suc e.0) (drop (suc i) frames) in
    rw add-one
    (ap (λ (n : ℕ). new ++ full_frames pool n (drop (suc i) frames)) behind
    ∙ (ap (λ (t : List FrameForm). t ++ rest) step
    ∙ (append_assoc all (made ∷ []) rest
    ∙ (ap (λ (f : FrameForm). all ++ (f ∷ rest)) (is_made ∙ ap (λ (n : ℕ). full_frame pool n e.1) far)
    ∙ (ap (λ (x : ℕ × Frame). all ++ full_frames pool next (x ∷ drop (suc i) frames)) is ∙ (ap (λ (es : List (ℕ × Frame)). all ++ full_frames pool next es) (sym (drop-cons frames i e lt)) ∙ so_far))))))

pub loop-entry-preserved : goal.loop-entry-preserved
loop-entry-preserved c =
    one_more c.args.pool.now c.args.frames.now c.loop-entry.entry-index c.entry-item.result c.loop-entry.next c.in_ok-next.next c.in_ok-delta.delta c.in_ok-full_frame.field-0 c.loop-entry.all c.push.new.self
    (full_frames c.args.pool.now 0 c.args.frames.now) c.loop-entry-test.true c.entry-item.is c.in_ok-delta.ensures c.in_ok-full_frame.ensures c.in_ok-next.ensures c.in_ok-push.ensures.ok c.loop-entry.invariant

pub returns : goal.returns
unfolding full_frames
returns c =
    all_made (full_frames c.args.pool.now c.loop-entry.next) c.loop-entry.all (full_frames c.args.pool.now 0 c.args.frames.now) c.args.frames.now c.loop-entry.entry-index refl c.loop-entry-test.false c.loop-entry.invariant
