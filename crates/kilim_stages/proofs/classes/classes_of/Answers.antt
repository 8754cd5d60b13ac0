use Rattle.std.proofs.Common.{arith}
use Rattle.std.specs.String.{string_bytes}
use Rattle.kilim_stages.proofs.Named.{files_more, others_on, refused_report}
use Rattle.kilim_stages.proofs.classes.classes_of.Goals as goal

pub returns-in-Err-clause-report : goal.returns-in-Err-clause-report
returns-in-Err-clause-report c =
    refused_report string_bytes c.args.names.now c.args.files.now c.loop-i.i c.index-names-i.result c.index-files-i.result c.as_str.result.now c.as_slice.result.now (omega (arith, c.loop-i-test.true, c.loop-i.auto.i-end)) c.requires
    c.index-names-i.is c.index-files-i.is c.as_str.ensures.value c.as_slice.ensures c.in-Err.refusal c.loop-i.invariant.others c.in-Err.ensures.report

pub loop-i-preserved : goal.loop-i-preserved
loop-i-preserved c = record {
  so_far = files_more c.args.files.now c.loop-i.classes c.push.new.self c.loop-i.i c.index-files-i.result c.as_slice.result.now c.in-Ok.file c.index-files-i.is (omega (arith, c.loop-i-test.true, c.loop-i.auto.i-end, c.requires)) c.as_slice.ensures
      c.in-Ok-push.ensures.ok c.loop-i.invariant.so_far c.in-Ok.ensures.file;
  others = others_on string_bytes c.args.names.now c.args.files.now c.loop-i.i c.index-names-i.result c.index-files-i.result c.as_str.result.now c.as_slice.result.now (omega (arith, c.loop-i-test.true, c.loop-i.auto.i-end)) c.requires
      c.index-names-i.is c.index-files-i.is c.as_str.ensures.value c.as_slice.ensures c.in-Ok.file _ c.in-Ok.ensures.read c.loop-i.invariant.others;
}
