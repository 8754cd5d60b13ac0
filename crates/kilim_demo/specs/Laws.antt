-- The class files of the demo have texts, and are few.
use Rattle.std.specs.Prelude.{ℕ, ◌≤◌, length}
use Rattle.std.specs.List.{AllByRecursion}
use Rattle.kilim_class_file.specs.Text.{ClassFits}
use Rattle.kilim_demo.specs.Demo.{demo_of}

-- each of them, of every number, is one that can be written, and is read again
abbrev pub DemoFits : Type 0
DemoFits = (number : ℕ) → AllByRecursion ClassFits (demo_of number)

-- the nodes, at most 15 stages, and the main class
abbrev pub DemoIsShort : Type 0
DemoIsShort = (number : ℕ) → length (demo_of number) ≤ 17
