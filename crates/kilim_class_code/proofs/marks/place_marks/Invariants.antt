use Rattle.std.proofs.Common.{◌≡◌, ℤ, take, length}
use Rattle.kilim_class_code.specs.Code.{is_place}
use Rattle.kilim_class_code.specs.Marks.{is_marked}
use Rattle.kilim_class_code.proofs.marks.place_marks.Given as goal

abbrev pub invariant-loop-at : goal.invariant-loop-at
invariant-loop-at l = record {
  len : length l.marks.items ≡ l.len;
  marked : (to : ℤ) → is_marked l.marks.items to ≡ is_place (take l.at-index l.code) to;
}
