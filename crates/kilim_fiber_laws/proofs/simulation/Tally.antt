-- Counts of instructions, and room on a stack.
use Rattle.std.proofs.Common.{ℕ, suc, ◌+◌, ◌<◌, ◌≤◌, arith}

-- ---- one path behind the other

pub joined : (c q n p n2 p2 : ℕ) → n + q ≤ c + p → n2 + p ≤ n + p2 → n2 + q ≤ c + p2
joined c q n p n2 p2 h h2 = omega (arith, h, h2)

pub one_more : (c q a l : ℕ) → q < a → a ≤ l → suc c + q ≤ c + l
one_more c q a l h h2 = omega (arith, h, h2)

pub two_more : (c q l : ℕ) → suc (suc q) ≤ l → suc (suc c) + q ≤ c + l
two_more c q l h = omega (arith, h)

pub two_within : (q a b l : ℕ) → q < a → a < b → b ≤ l → suc (suc q) ≤ l
two_within q a b l h h2 h3 = omega (arith, h, h2, h3)

pub last_more : (c n p l : ℕ) → n + 0 ≤ c + p → p < l → suc n ≤ c + l
last_more c n p l h h2 = omega (arith, h, h2)

-- ---- room

pub none_within : (k : ℕ) → 0 ≤ k
none_within k = omega arith

-- ---- room where four values more have room

module _ (n k : ℕ) (low : n + 4 ≤ k) where
  pub has_one : 1 ≤ k
  has_one = omega (arith, low)

  pub has_two : 2 ≤ k
  has_two = omega (arith, low)

  pub has_next : suc n ≤ k
  has_next = omega (arith, low)

  pub above_none : 0 < k
  above_none = omega (arith, low)

  pub above_two : 2 < k
  above_two = omega (arith, low)

-- ---- room where the method has room

module _ (p n a b : ℕ) (pushed : p ≤ suc n) (low : n ≤ a) (high : a + 4 ≤ b) where
  pub pushed_below : p < b
  pushed_below = omega (arith, pushed, low, high)

  pub pushed_within : p ≤ b
  pushed_within = omega (arith, pushed, low, high)

module _ (n a b : ℕ) (low : n ≤ a) (high : a + 4 ≤ b) where
  pub within : n ≤ b
  within = omega (arith, low, high)

  pub four_within : n + 4 ≤ b
  four_within = omega (arith, low, high)
