use Rattle.std.proofs.Common.{◌+◌, ◌*◌, length, vec_len}
use Rattle.kilim_class_grammar.proofs.Bytes.{IsBytes}
use Rattle.kilim_class_attributes.specs.parts.Annotations.{asks, part_at, parts_at}
use Rattle.kilim_class_attributes.proofs.parts.Sentences.{LeadsTo}
use Rattle.kilim_class_attributes.proofs.parts.Pending.{pending}
use Rattle.kilim_class_attributes.proofs.parts.annotation_reading.push_parts_at.Given as goal

abbrev pub invariant-loop-next : goal.invariant-loop-next
invariant-loop-next l = record {
  fit : IsBytes l.rest;
  leads : LeadsTo l.ends (part_at l.pool l.ends) asks l.parts (pending l.to_come.items) l.rest (parts_at l.pool l.ends l.fn.kind l.bytes);
}

abbrev pub decreases-loop-next : goal.decreases-loop-next
decreases-loop-next l = 2 * length l.rest + vec_len l.to_come
