use Rattle.std.proofs.Common.{◌≡◌, ℕ, List, Result, Ok, Err, arith}
use Rattle.std.specs.Prelude.{IfOk}
use Rattle.std.specs.Int.{w16}
use Rattle.kilim_class_grammar.specs.Reader.{ReadsUnless, many, number_at}
use Rattle.kilim_class_grammar.proofs.Bytes.{IsBytes}
use Rattle.kilim_class_pool.specs.declared.entry.Entry.{Entry}
use Rattle.kilim_class_attributes.specs.declared.parts.fault.AttributeFault.{AttributeFault}
use Rattle.kilim_class_attributes.specs.declared.parts.fault.AttributeFault.TheVariants.{Memory}
use Rattle.kilim_class_attributes.specs.declared.parts.frame.Frame.{Frame}
use Rattle.kilim_class_attributes.specs.parts.Frames.{ends, frame_at, FramesAreSized}
use Rattle.kilim_class_attributes.proofs.parts.FrameFormats.{read_sized}
use Rattle.kilim_class_attributes.proofs.parts.frame_reading.frames_at.Goals as goal

if_read : {X : Type 0} (pool : List Entry) (bytes : List ℕ) (count : ℕ) (behind : List ℕ) (r : Result X AttributeFault) (view : X → List Frame × List ℕ) → IsBytes bytes → number_at ends w16 bytes ≡ Ok (count, behind)
    → ReadsUnless Memory view r (many (frame_at pool) count behind) → IfOk r (λ x. FramesAreSized (view x).0)
if_read pool bytes count behind (Ok x) view fits n read = read_sized pool bytes count behind (view x).0 (view x).1 fits n read
if_read pool bytes count behind (Err e) view fits n read = tt

pub returns-in-Ok-clause-sized : goal.returns-in-Ok-clause-sized
returns-in-Ok-clause-sized c =
    if_read c.args.pool.now c.args.bytes.now c.in-Ok.count c.in-Ok.rest.now c.so_many_frames_at.result (λ x. (x.0, x.1.now)) (λ i. omega (arith, c.type_inv.bytes i)) c.in-Ok.ensures c.so_many_frames_at.ensures
