use Rattle.std.proofs.Common.{◌≡◌, ◌≤◌, refl, arith, ℕ, List, [], ◌∷◌, length, drop, get_or, Ok}
use Rattle.kilim_class_descriptors.specs.declared.types.BaseText.{BaseText}
use Rattle.kilim_class_descriptors.specs.declared.types.BaseText.TheVariants.{Bool as Boolean, Byte, Char, Short, Int, Long, Float, Double}
use Rattle.kilim_class_descriptors.specs.Reading.{base_at}
use Rattle.kilim_class_descriptors.proofs.Fronts.{behind_first}
use Rattle.kilim_class_descriptors.proofs.fields.base_at.Goals as goal

bool_at : (rest : List ℕ) → base_at (90 ∷ rest) ≡ Ok (Boolean, rest)
unfolding base_at
bool_at rest = refl

byte_at : (rest : List ℕ) → base_at (66 ∷ rest) ≡ Ok (Byte, rest)
unfolding base_at
byte_at rest = refl

char_at : (rest : List ℕ) → base_at (67 ∷ rest) ≡ Ok (Char, rest)
unfolding base_at
char_at rest = refl

short_at : (rest : List ℕ) → base_at (83 ∷ rest) ≡ Ok (Short, rest)
unfolding base_at
short_at rest = refl

int_at : (rest : List ℕ) → base_at (73 ∷ rest) ≡ Ok (Int, rest)
unfolding base_at
int_at rest = refl

long_at : (rest : List ℕ) → base_at (74 ∷ rest) ≡ Ok (Long, rest)
unfolding base_at
long_at rest = refl

float_at : (rest : List ℕ) → base_at (70 ∷ rest) ≡ Ok (Float, rest)
unfolding base_at
float_at rest = refl

double_at : (rest : List ℕ) → base_at (68 ∷ rest) ≡ Ok (Double, rest)
unfolding base_at
double_at rest = refl

-- a base of one unit was read
read_plain : (units rest : List ℕ) (d unit : ℕ) (base : BaseText) → 1 ≤ length units → get_or units 0 d ≡ unit → rest ≡ drop 1 units → ((us : List ℕ) → base_at (unit ∷ us) ≡ Ok (base, us)) → base_at units ≡ Ok (base, rest)
read_plain [] rest d unit base long is behind known = absurd (omega arith)
read_plain (u ∷ us) rest d unit base long is behind known = rw (is, behind) (known us)

pub returns-then-unit-eq90 : goal.returns-then-unit-eq90
returns-then-unit-eq90 c = read_plain _ _ _ 90 Boolean c.in-len1-up.len_at_least c.if-unit-eq90.true (behind_first c.args.units.now) bool_at

pub returns-then-unit-eq66 : goal.returns-then-unit-eq66
returns-then-unit-eq66 c = read_plain _ _ _ 66 Byte c.in-len1-up.len_at_least c.if-unit-eq66.true (behind_first c.args.units.now) byte_at

pub returns-then-unit-eq67 : goal.returns-then-unit-eq67
returns-then-unit-eq67 c = read_plain _ _ _ 67 Char c.in-len1-up.len_at_least c.if-unit-eq67.true (behind_first c.args.units.now) char_at

pub returns-then-unit-eq83 : goal.returns-then-unit-eq83
returns-then-unit-eq83 c = read_plain _ _ _ 83 Short c.in-len1-up.len_at_least c.if-unit-eq83.true (behind_first c.args.units.now) short_at

pub returns-then-unit-eq73 : goal.returns-then-unit-eq73
returns-then-unit-eq73 c = read_plain _ _ _ 73 Int c.in-len1-up.len_at_least c.if-unit-eq73.true (behind_first c.args.units.now) int_at

pub returns-then-unit-eq74 : goal.returns-then-unit-eq74
returns-then-unit-eq74 c = read_plain _ _ _ 74 Long c.in-len1-up.len_at_least c.if-unit-eq74.true (behind_first c.args.units.now) long_at

pub returns-then-unit-eq70 : goal.returns-then-unit-eq70
returns-then-unit-eq70 c = read_plain _ _ _ 70 Float c.in-len1-up.len_at_least c.if-unit-eq70.true (behind_first c.args.units.now) float_at

pub returns-then-unit-eq68 : goal.returns-then-unit-eq68
returns-then-unit-eq68 c = read_plain _ _ _ 68 Double c.in-len1-up.len_at_least c.if-unit-eq68.true (behind_first c.args.units.now) double_at
