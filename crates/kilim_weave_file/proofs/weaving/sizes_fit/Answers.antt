use Rattle.std.proofs.Common.{◌≡◌, arith, rules}
use Rattle.kilim_class_pool.specs.Entries.{count_of}
use Rattle.kilim_class_file.specs.Text.{size_limit}
use Rattle.kilim_weave_file.specs.Applied.{most_entries}
use Rattle.kilim_weave_file.proofs.Sums.{size_is, sum_is}
use Rattle.kilim_weave_file.proofs.weaving.sizes_fit.Goals as goal

pub returns-then-sum-gt-MOST_ENTRIES : goal.returns-then-sum-gt-MOST_ENTRIES
unfolding most_entries
returns-then-sum-gt-MOST_ENTRIES c =
    let count : c.from.result ≡ count_of c.args.file.now.constant_pool = search rules in
    (sum_is c.args.program.now c.args.file.now c.as_slice-infos.result.now c.args.plains.now c.args.wovens.now c.args.counted.now c.from.result c.in-Ok.added c.in-Ok-plus.sum c.as_slice-infos.ensures count c.in-Ok.ensures c.in-Ok-plus.ensures, omega arith)

pub returns-then-size-gt-MOST_BYTES : goal.returns-then-size-gt-MOST_BYTES
unfolding most_entries size_limit
returns-then-size-gt-MOST_BYTES c =
    let count : c.from.result ≡ count_of c.args.file.now.constant_pool = search rules in
    let sum = sum_is c.args.program.now c.args.file.now c.as_slice-infos.result.now c.args.plains.now c.args.wovens.now c.args.counted.now c.from.result c.in-Ok.added c.in-Ok-plus.sum c.as_slice-infos.ensures count c.in-Ok.ensures c.in-Ok-plus.ensures in (
      size_is c.args.program.now c.args.file.now c.as_slice-infos.result.now c.args.plains.now c.args.wovens.now c.args.counted.now c.args.old c.args.longest c.in-Ok.added c.in-Ok-methods_bytes.methods c.in-Ok-size_by.size c.as_slice-infos.ensures c.requires.old c.requires.longest c.in-Ok.ensures c.in-Ok-methods_bytes.ensures c.in-Ok-size_by.ensures,
      omega (arith, sum),
      omega arith,
    )

pub returns : goal.returns
unfolding most_entries size_limit
returns c =
    let count : c.from.result ≡ count_of c.args.file.now.constant_pool = search rules in
    let sum = sum_is c.args.program.now c.args.file.now c.as_slice-infos.result.now c.args.plains.now c.args.wovens.now c.args.counted.now c.from.result c.in-Ok.added c.in-Ok-plus.sum c.as_slice-infos.ensures count c.in-Ok.ensures c.in-Ok-plus.ensures in
    let size = size_is c.args.program.now c.args.file.now c.as_slice-infos.result.now c.args.plains.now c.args.wovens.now c.args.counted.now c.args.old c.args.longest c.in-Ok.added c.in-Ok-methods_bytes.methods c.in-Ok-size_by.size c.as_slice-infos.ensures c.requires.old c.requires.longest c.in-Ok.ensures c.in-Ok-methods_bytes.ensures c.in-Ok-size_by.ensures in
    (omega (arith, sum), omega (arith, size))
