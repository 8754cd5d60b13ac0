use Rattle.kilim_class_file.specs.Reading.{names_at, lists_at}
use Rattle.kilim_class_file.proofs.Boths.{both_read}
use Rattle.kilim_class_file.proofs.reading.behind_pool_at.Goals as goal

pub returns-in-Ok-lists_at : goal.returns-in-Ok-lists_at
returns-in-Ok-lists_at c =
    both_read (names_at c.args.len c.args.pool.now) (lists_at c.args.len c.args.pool.now)
    c.args.bytes.now c.in-Ok.names c.in-Ok.rest.now c.in-Ok-lists_at.lists c.in-Ok-lists_at.rest.now c.in-Ok.ensures c.in-Ok-lists_at.ensures
