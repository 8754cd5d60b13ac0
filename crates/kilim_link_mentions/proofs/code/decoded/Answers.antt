use Rattle.kilim_link_mentions.proofs.Whole.{is_code, no_fault}
use Rattle.kilim_link_mentions.proofs.code.decoded.Goals as goal

pub returns-in-Ok : goal.returns-in-Ok
returns-in-Ok c = c.decoded_is_decode.ensures.whole c.args.code.now c.in-Ok.body.code (is_code c.args.code.now c.in-Ok.body.code c.in-Ok.ensures.found c.in-Ok.ensures.text) (no_fault c.in-Ok.body.code c.in-Ok.ensures.found)
