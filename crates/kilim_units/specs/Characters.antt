-- ASCII characters by name.
use Rattle.std.specs.Prelude.{ℕ}

-- the space
abbrev pub space : ℕ
space = 32

-- "
abbrev pub quotation_mark : ℕ
quotation_mark = 34

-- $
abbrev pub dollar_sign : ℕ
dollar_sign = 36

-- (
abbrev pub left_parenthesis : ℕ
left_parenthesis = 40

-- )
abbrev pub right_parenthesis : ℕ
right_parenthesis = 41

-- -
abbrev pub hyphen : ℕ
hyphen = 45

-- .
abbrev pub full_stop : ℕ
full_stop = 46

-- /
abbrev pub slash : ℕ
slash = 47

-- 0
abbrev pub digit_0 : ℕ
digit_0 = 48

-- 9
abbrev pub digit_9 : ℕ
digit_9 = 57

-- ;
abbrev pub semicolon : ℕ
semicolon = 59

-- @
abbrev pub at_sign : ℕ
at_sign = 64

-- A
abbrev pub upper_a : ℕ
upper_a = 65

-- B
abbrev pub upper_b : ℕ
upper_b = 66

-- C
abbrev pub upper_c : ℕ
upper_c = 67

-- D
abbrev pub upper_d : ℕ
upper_d = 68

-- F
abbrev pub upper_f : ℕ
upper_f = 70

-- I
abbrev pub upper_i : ℕ
upper_i = 73

-- J
abbrev pub upper_j : ℕ
upper_j = 74

-- L
abbrev pub upper_l : ℕ
upper_l = 76

-- S
abbrev pub upper_s : ℕ
upper_s = 83

-- V
abbrev pub upper_v : ℕ
upper_v = 86

-- Z
abbrev pub upper_z : ℕ
upper_z = 90

-- [
abbrev pub left_bracket : ℕ
left_bracket = 91

-- \
abbrev pub backslash : ℕ
backslash = 92

-- _
abbrev pub underscore : ℕ
underscore = 95

-- a
abbrev pub lower_a : ℕ
lower_a = 97

-- c
abbrev pub lower_c : ℕ
lower_c = 99

-- e
abbrev pub lower_e : ℕ
lower_e = 101

-- s
abbrev pub lower_s : ℕ
lower_s = 115

-- u
abbrev pub lower_u : ℕ
lower_u = 117

-- z
abbrev pub lower_z : ℕ
lower_z = 122

-- ~
abbrev pub tilde : ℕ
tilde = 126
