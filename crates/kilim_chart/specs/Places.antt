-- The rows of puts, in a map by the messages' names.
use Rattle.std.specs.Prelude.{ℕ, Option}
use Rattle.std.specs.declared.cmp.Ordering.{Ordering}
use Rattle.std.specs.Ordering.{nat_cmp, ordering_then}
use Rattle.std.specs.BTreeMap.{BTreeMap, get}
use Rattle.kilim_chart.specs.declared.rows.MessageName.{MessageName}

abbrev pub Key : Type 0
Key = (ℕ × ℕ) × ℕ

abbrev pub key_of : MessageName → Key
key_of m = ((m.mailbox.task, m.mailbox.number), m.number)

-- the order of the keys
abbrev pub key_cmp : Key → Key → Ordering
key_cmp a b = ordering_then (ordering_then (nat_cmp a.0.0 b.0.0) (nat_cmp a.0.1 b.0.1)) (nat_cmp a.1 b.1)

abbrev pub place_in : BTreeMap Key ℕ → MessageName → Option ℕ
place_in puts m = get key_cmp puts (key_of m)
