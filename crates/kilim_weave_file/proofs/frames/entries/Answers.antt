use Rattle.std.proofs.Common.{◌≡◌, ℕ, ◌+◌, ◌≤◌, Bool, List, [], ◌++◌, length, ap, drop, sym, ◌∙◌, arith}
use Rattle.std.proofs.lemmas.List.{append-nil, length-drop, nil_from_length}
use Rattle.kilim_lemmas.proofs.Lists.{drop_next}
use Rattle.kilim_program.specs.declared.verified.VType.{VType}
use Rattle.kilim_weave_file.specs.Parts.{entries_from}
use Rattle.kilim_weave_file_spec.specs.FullFrames.{entries}
use Rattle.kilim_weave_file.proofs.Entries.{entries_are}
use Rattle.kilim_weave_file.proofs.frames.entries.Goals as goal

pub loop-index-preserved : goal.loop-index-preserved
loop-index-preserved c =
    c.in-Ok.ensures (drop (c.loop-index.index + 1) c.args.locals.now)
    ∙ (ap (λ (ts : List VType). c.loop-index.all.items ++ entries_from c.loop-index.skips ts) (sym (drop_next c.args.locals.now c.loop-index.index c.local_at-of.result.now c.local_at-of.ensures)) ∙ c.loop-index.invariant)

none_left : (all : List VType) (skips : Bool) (locals : List VType) (i : ℕ) (whole : List VType) → length locals ≤ i → all ++ entries_from skips (drop i locals) ≡ whole → all ≡ whole
none_left all skips locals i whole le so_far =
    let none : drop i locals ≡ [] = nil_from_length (drop i locals) (omega (arith, length-drop i locals)) in
    sym (append-nil all) ∙ (ap (λ (ts : List VType). all ++ entries_from skips ts) (sym none) ∙ so_far)

pub loop-index-init : goal.loop-index-init
loop-index-init c = rw c.new-all.ensures.items (entries_are c.args.locals.now)

pub returns : goal.returns
returns c = none_left c.loop-index.all.items c.loop-index.skips c.args.locals.now c.loop-index.index (entries c.args.locals.now) (omega arith) c.loop-index.invariant
