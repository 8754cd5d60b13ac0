-- Reading a descriptor from its first unit on. Where no descriptor goes on like this the answer is the number of
-- units that are left.
use Rattle.std.specs.Prelude.{◌≡◌, ℕ, zero, suc, ◌+◌, ◌==◌, nat_lt, if◌then◌else◌, List, [], ◌∷◌, length, Option, Some, None, Result, Ok, Err}
use Rattle.std.specs.Borrow.{Bor}
use Rattle.kilim_units.specs.Characters.{left_parenthesis, right_parenthesis, semicolon, upper_b, upper_c, upper_d, upper_f, upper_i, upper_j, upper_l, upper_s, upper_v, upper_z, left_bracket}
use Rattle.kilim_class_descriptors.specs.declared.types.BaseText.{BaseText}
use Rattle.kilim_class_descriptors.specs.declared.types.BaseText.TheVariants.{Bool as Boolean, Byte, Char, Short, Int, Long, Float, Double, Class}
use Rattle.kilim_class_descriptors.specs.declared.types.FieldText.{FieldText}
use Rattle.kilim_class_descriptors.specs.declared.types.MethodText.{MethodText}
use Rattle.kilim_class_descriptors.specs.declared.fault.Stop.{Stop}
use Rattle.kilim_class_descriptors.specs.declared.fault.Stop.TheVariants.{Memory, Left}

infixl 10 ◌>>=◌
abbrev pub ◌>>=◌ : {A B : Type 0} → Result A ℕ → (A → Result B ℕ) → Result B ℕ
(Ok x) >>= f = f x
(Err left) >>= f = Err left

abbrev pub Reader : Type 0 → Type 0
Reader A = List ℕ → Result (A × List ℕ) ℕ

-- what a function returned, seen by `view`, is what is read, unless memory ran out
abbrev pub Fails : {Y : Type 0} → Stop → Result Y ℕ → Type 0
Fails Memory read = Unit {0}
Fails (Left left) read = read ≡ Err left

abbrev pub Gives : {X Y : Type 0} → (X → Y) → Result X Stop → Result Y ℕ → Type 0
Gives view (Ok x) read = read ≡ Ok (view x)
Gives view (Err e) read = Fails e read

-- a name up to the first semicolon, and the units behind that
abbrev pub with_unit : ℕ → Option (List ℕ × List ℕ) → Option (List ℕ × List ℕ)
with_unit u None = None
with_unit u (Some x) = Some (u ∷ x.0, x.1)

abbrev pub split_name : List ℕ → Option (List ℕ × List ℕ)
split_name [] = None
split_name (u ∷ us) = if u == semicolon then Some ([], us) else with_unit u (split_name us)

abbrev pub class_of : List ℕ → Option (List ℕ × List ℕ) → Result (BaseText × List ℕ) ℕ
class_of units None = Err 0
class_of units (Some ([], rest)) = Err (length units)
class_of units (Some (u ∷ us, rest)) = Ok (Class (u ∷ us), rest)

-- behind an L
unfoldable pub class_at : Reader BaseText
class_at units = class_of units (split_name units)

unfoldable pub base_at : Reader BaseText
base_at [] = Err 0
base_at (u ∷ rest) =
    if u == upper_z then Ok (Boolean, rest)
    else (if u == upper_b then Ok (Byte, rest)
    else (if u == upper_c then Ok (Char, rest)
    else (if u == upper_s then Ok (Short, rest)
    else (if u == upper_i then Ok (Int, rest)
    else (if u == upper_j then Ok (Long, rest)
    else (if u == upper_f then Ok (Float, rest)
    else (if u == upper_d then Ok (Double, rest)
    else (if u == upper_l then class_at rest
    else Err (length (u ∷ rest))))))))))

abbrev pub in_dims : ℕ → Result (BaseText × List ℕ) ℕ → Result (FieldText × List ℕ) ℕ
in_dims dims read = read >>= λ b. Ok (record { dims = dims; base = b.0 }, b.1)

-- behind so many dimensions, of which there are at most 255
unfoldable pub field_behind : ℕ → Reader FieldText
field_behind dims [] = in_dims dims (base_at [])
field_behind dims (u ∷ rest) =
    if u == left_bracket then (if nat_lt dims 255 then field_behind (dims + 1) rest else Err (length (u ∷ rest)))
    else in_dims dims (base_at (u ∷ rest))

unfoldable pub field_at : Reader FieldText
field_at units = field_behind 0 units

-- the next parameter, or none at the closing parenthesis
unfoldable pub param_at : Reader (Option FieldText)
param_at [] = Err 0
param_at (u ∷ rest) = if u == right_parenthesis then Ok (None, rest) else field_at (u ∷ rest) >>= λ f. Ok (Some f.0, f.1)

-- the parameters up to the closing parenthesis; each takes a unit, so as many turns as there are units are enough
abbrev pub after_param : (List ℕ → Result (List FieldText × List ℕ) ℕ) → Option FieldText × List ℕ → Result (List FieldText × List ℕ) ℕ
after_param others (None, rest) = Ok ([], rest)
after_param others (Some first, rest) = others rest >>= λ x. Ok (first ∷ x.0, x.1)

unfoldable pub params_at : ℕ → Reader (List FieldText)
params_at zero units = Err (length units)
params_at (suc n) units = param_at units >>= λ p. after_param (params_at n) p

unfoldable pub result_at : Reader (Option FieldText)
result_at [] = Err 0
result_at (u ∷ rest) = if u == upper_v then Ok (None, rest) else field_at (u ∷ rest) >>= λ f. Ok (Some f.0, f.1)

-- all of the units
abbrev pub all_of : {A : Type 0} → A × List ℕ → Result A ℕ
all_of x = if length x.1 == 0 then Ok x.0 else Err (length x.1)

unfoldable pub whole_field : List ℕ → Result FieldText ℕ
whole_field units = field_at units >>= λ f. all_of f

unfoldable pub whole_method : List ℕ → Result MethodText ℕ
whole_method [] = Err 0
whole_method (u ∷ rest) =
    if u == left_parenthesis then (do
      params ← params_at (length rest) rest
      result ← result_at params.1
      all_of (record { params = params.0; result = result.0 }, result.1))
    else Err (length (u ∷ rest))

-- the dimensions were read: behind them stands no other one
abbrev pub Dims : List ℕ → Result (ℕ × Bor (List ℕ)) Stop → Type 0
Dims units (Ok x) = field_at units ≡ in_dims x.0 (base_at x.1.now)
Dims units (Err e) = Fails e (field_at units)
