-- Rule 12 in parts.
use Rattle.std.specs.Prelude.{ℕ, ◌+◌, Bool, ◌||◌, ◌&&◌, not, nat_lt, nat_le, List, length}
use Rattle.std.specs.List.{list_all, list_any}
use Rattle.kilim_program.specs.declared.class.Method.{Method}
use Rattle.kilim_program.specs.declared.verified.Frame.{Frame}
use Rattle.kilim_program.specs.declared.verified.VType.{VType}
use Rattle.kilim_program.specs.Same.{is_constructor}
use Rattle.kilim_type_spec.specs.Step.{peek, is_top, is_long, is_unset_this, words}
use Rattle.kilim_type_spec.specs.Typed.{stands_at_new, halves, is_proper}

-- a long at a slot has its second half behind it
abbrev pub half_at : List VType → ℕ → Bool
half_at ts k = not (is_long (peek ts k)) || (nat_lt (k + 1) (length ts) && is_top (peek ts (k + 1)))

abbrev pub locals_fit : Method → Frame → Bool
locals_fit m frame = nat_le (length frame.locals) m.max_locals && (nat_le (words frame.stack) m.max_stack && (not (list_any is_top frame.stack) && halves frame.locals))

abbrev pub types_fit : Method → List VType → Bool
types_fit m ts = list_all (stands_at_new m) ts && (list_all is_proper ts && (is_constructor m || not (list_any is_unset_this ts)))
