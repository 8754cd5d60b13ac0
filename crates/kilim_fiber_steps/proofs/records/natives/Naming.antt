-- No built-in method that is handed out is of a class of another name.
use Rattle.std.proofs.Common.{◌≡◌, ℕ, Bool, false, cond, List, [], ◌∷◌, Option, Some, None, refl, ap, ◌∙◌}
use Rattle.std.specs.Prelude.{◌&&◌, codes}
use Rattle.std.specs.List.{AllByRecursion}
use Rattle.std.specs.Str.{bytes_eq}
use Rattle.kilim_run_machine.specs.Natives.{Native, native_named, natives}

abbrev Differs : (class name : List ℕ) → List ℕ × List ℕ × Native → Type 0
Differs class name n = (bytes_eq class n.0 && bytes_eq name n.1) ≡ false

none_of : (class name : List ℕ) (ns : List (List ℕ × List ℕ × Native)) → AllByRecursion (Differs class name) ns → native_named ns class name ≡ None
none_of class name [] all = refl
none_of class name (n ∷ ns) all = ap (λ (z : Bool). cond z (Some n.2) (native_named ns class name)) all.0 ∙ none_of class name ns all.1

module _ (class name : List ℕ) where
  differs : (other own : List ℕ) → bytes_eq class other ≡ false → (bytes_eq class other && bytes_eq name own) ≡ false
  differs other own e = ap (λ (z : Bool). z && bytes_eq name own) e

  pub none_named : bytes_eq class (codes "kilim/Fiber") ≡ false → bytes_eq class (codes "kilim/Mailbox") ≡ false → bytes_eq class (codes "kilim/Sys") ≡ false → bytes_eq class (codes "kilim/Task") ≡ false → native_named natives class name ≡ None
  none_named fiber mailbox sys task = none_of class name natives (differs (codes "kilim/Task") _ task, (differs (codes "kilim/Task") _ task, (differs (codes "kilim/Mailbox") _ mailbox, (differs (codes "kilim/Mailbox") _ mailbox, (differs (codes "kilim/Mailbox") _ mailbox, (differs (codes "kilim/Mailbox") _ mailbox, (differs (codes "kilim/Mailbox") _ mailbox, (differs (codes "kilim/Sys") _ sys, (differs (codes "kilim/Sys") _ sys, (differs (codes "kilim/Sys") _ sys, (differs (codes "kilim/Sys") _ sys, (differs (codes "kilim/Fiber") _ fiber, (differs (codes "kilim/Fiber") _ fiber, (differs (codes "kilim/Fiber") _ fiber, (differs (codes "kilim/Fiber") _ fiber, (differs (codes "kilim/Fiber") _ fiber, (differs (codes "kilim/Fiber") _ fiber, (differs (codes "kilim/Fiber") _ fiber, (differs (codes "kilim/Fiber") _ fiber, (differs (codes "kilim/Fiber") _ fiber, (differs (codes "kilim/Fiber") _ fiber, (differs (codes "kilim/Fiber") _ fiber, tt))))))))))))))))))))))
