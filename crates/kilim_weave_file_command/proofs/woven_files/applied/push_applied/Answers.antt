use Rattle.std.proofs.Common.{arith, drop, length, refl}
use Rattle.kilim_class_file.specs.Text.{ClassFits}
use Rattle.kilim_stages.proofs.Parts.{refused}
use Rattle.kilim_weave_file_command.specs.woven_files.WovenFiles.{woven_of}
use Rattle.kilim_weave_file_command.proofs.woven_files.Enough.{enough_behind, enough_here}
use Rattle.kilim_weave_file_command.proofs.woven_files.Weaving.{faultless, none_refused, one_more, reported, woven_more}
use Rattle.kilim_weave_file_command.proofs.woven_files.applied.push_applied.Goals as goal

pub returns-in-Err-clause-report : goal.returns-in-Err-clause-report
returns-in-Err-clause-report c =
    refused c.in-Err.refusal
    (λ text x. reported c.args.program.now c.args.woven.now.program c.args.files.now c.loop-at.at c.file_at-file.result.now c.class_at-class.result.now c.file_at-file.ensures.there c.class_at-class.ensures (length c.file_at-file.result.now.methods) refl
    c.loop-at.ps.now text x c.loop-at.invariant.none)
    c.in-Err.ensures.report

pub loop-at-preserved : goal.loop-at-preserved
loop-at-preserved c = record {
  so_far = woven_more c.args.program.now c.args.woven.now.program c.args.files.now c.loop-at.at c.file_at-file.result.now c.class_at-class.result.now c.file_at-file.ensures.there c.class_at-class.ensures c.len-count.result c.len-count.ensures
      c.loop-at.ps.now c.loop-at.ms.now c.loop-at.cs.now c.loop-at.into c.push.new.self (woven_of c.args.program.now c.args.woven.now c.args.files.now) c.in-Ok.one c.behind-ps.result.now c.behind-ms.result.now c.behind-cs.result.now
      c.behind-ps.ensures c.behind-ms.ensures c.behind-cs.ensures c.in-Ok-push.ensures.ok c.in-Ok.ensures.made c.loop-at.invariant.so_far;
  fit = one_more ClassFits c.loop-at.into c.push.new.self c.in-Ok.one c.in-Ok-push.ensures.ok c.loop-at.invariant.fit c.in-Ok.ensures.fits;
  methods = enough_behind c.args.files.now c.loop-at.at c.file_at-file.result.now c.file_at-file.ensures.there c.len-count.result c.loop-at.ps.now c.behind-ps.result.now c.len-count.ensures c.behind-ps.ensures c.loop-at.invariant.methods;
  woven = enough_behind c.args.files.now c.loop-at.at c.file_at-file.result.now c.file_at-file.ensures.there c.len-count.result c.loop-at.ms.now c.behind-ms.result.now c.len-count.ensures c.behind-ms.ensures c.loop-at.invariant.woven;
  marks = enough_behind c.args.files.now c.loop-at.at c.file_at-file.result.now c.file_at-file.ensures.there c.len-count.result c.loop-at.cs.now c.behind-cs.result.now c.len-count.ensures c.behind-cs.ensures c.loop-at.invariant.marks;
  none = faultless c.args.program.now c.args.woven.now.program c.args.files.now c.loop-at.at c.file_at-file.result.now c.class_at-class.result.now c.file_at-file.ensures.there c.class_at-class.ensures c.len-count.result c.len-count.ensures
      c.loop-at.ps.now c.behind-ps.result.now c.behind-ps.ensures c.in-Ok.ensures.none c.loop-at.invariant.none;
}

pub returns-clause-none : goal.returns-clause-none
returns-clause-none c =
    none_refused c.args.program.now c.args.files.now c.loop-at.at (drop c.loop-at.at c.args.program.now.classes) c.loop-at.ps.now (omega (arith, c.loop-at-test.false)) c.loop-at.invariant.none

pub woven_next-next-requires-clause-plain : goal.woven_next-next-requires-clause-plain
woven_next-next-requires-clause-plain c = enough_here c.args.files.now c.loop-at.at c.file_at-file.result.now c.file_at-file.ensures.there c.loop-at.ps.now c.loop-at.invariant.methods

pub woven_next-next-requires-clause-woven : goal.woven_next-next-requires-clause-woven
woven_next-next-requires-clause-woven c = enough_here c.args.files.now c.loop-at.at c.file_at-file.result.now c.file_at-file.ensures.there c.loop-at.ms.now c.loop-at.invariant.woven

pub woven_next-next-requires-clause-counted : goal.woven_next-next-requires-clause-counted
woven_next-next-requires-clause-counted c = enough_here c.args.files.now c.loop-at.at c.file_at-file.result.now c.file_at-file.ensures.there c.loop-at.cs.now c.loop-at.invariant.marks

pub behind-ps-requires : goal.behind-ps-requires
behind-ps-requires c = let e = enough_here c.args.files.now c.loop-at.at c.file_at-file.result.now c.file_at-file.ensures.there c.loop-at.ps.now c.loop-at.invariant.methods in let n = c.len-count.ensures in omega (arith, e, n)

pub behind-ms-requires : goal.behind-ms-requires
behind-ms-requires c = let e = enough_here c.args.files.now c.loop-at.at c.file_at-file.result.now c.file_at-file.ensures.there c.loop-at.ms.now c.loop-at.invariant.woven in let n = c.len-count.ensures in omega (arith, e, n)

pub behind-cs-requires : goal.behind-cs-requires
behind-cs-requires c = let e = enough_here c.args.files.now c.loop-at.at c.file_at-file.result.now c.file_at-file.ensures.there c.loop-at.cs.now c.loop-at.invariant.marks in let n = c.len-count.ensures in omega (arith, e, n)

pub class_at-class-requires : goal.class_at-class-requires
class_at-class-requires c = let each = c.requires.each.classes in omega (arith, each)
