-- What holds of a value that comes, where it comes.
use Rattle.std.specs.Prelude.{Result, Ok, Err, IfOk, OnOk}

pub so_of : {A E : Type 0} {P Q : A → Type 0} (r : Result A E) → ((a : A) → P a → Q a) → IfOk r P → IfOk r Q
so_of (Ok a) f p = f a p
so_of (Err e) f p = p

pub so_of_both : {A E : Type 0} {P Q S : A → Type 0} (r : Result A E) → ((a : A) → P a → Q a → S a) → IfOk r P → IfOk r Q → IfOk r S
so_of_both (Ok a) f p q = f a p q
so_of_both (Err e) f p q = p

-- the same where no value comes
pub on_ok : {A E P Q : Type 0} (r : Result A E) → (P → Q) → OnOk r P → OnOk r Q
on_ok (Ok a) f p = f p
on_ok (Err e) f p = p

pub on_ok_both : {A E P Q S : Type 0} (r : Result A E) → (P → Q → S) → OnOk r P → OnOk r Q → OnOk r S
on_ok_both (Ok a) f p q = f p q
on_ok_both (Err e) f p q = p
