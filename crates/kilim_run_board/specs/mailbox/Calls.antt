-- Calls of a mailbox, one after the other.
use Rattle.std.specs.Prelude.{◌≡◌, ◌+◌, ℕ, false, List, [], ◌∷◌, ◌++◌, Option, Some, None, length}
use Rattle.kilim_run_state.specs.declared.value.Object.{Object}
use Rattle.kilim_run_model.specs.State.{is_full_at}
use Rattle.kilim_run_board.specs.OneThread.{Note, Bounds, Puts, Takes, Empties, AreOneThread}
use Rattle.kilim_run_board.specs.mailbox.Mailbox.{Content}

-- What a call leads to, by what there is to say of it: nothing of `reserve`, of a `probe` that finds a message, and of a `take` that finds
-- none; the number of a put, into a mailbox that isn't full, or of a take; and that a `probe` found none. The bound stays.
abbrev pub IsCall : Content → Option Note → Content → Type 0
IsCall before None after = (after.most ≡ before.most) × (after.puts ≡ before.puts) × (after.queue ≡ before.queue)
IsCall before (Some (Bounds n)) after = ⊥
IsCall before (Some (Puts n)) after =
    (is_full_at before.most (length before.queue) ≡ false) × (n ≡ before.puts) × (after.most ≡ before.most) × (after.puts ≡ before.puts + 1) × ((tree : List Object) × (after.queue ≡ before.queue ++ (before.puts, tree) ∷ []))
IsCall before (Some (Takes n)) after = (after.most ≡ before.most) × (after.puts ≡ before.puts) × ((tree : List Object) × (before.queue ≡ (n, tree) ∷ after.queue))
IsCall before (Some Empties) after = (before.queue ≡ []) × (after.most ≡ before.most) × (after.puts ≡ before.puts) × (after.queue ≡ [])

-- calls, each with what there is to say of it and what it leads to
abbrev pub AreCalls : Content → List (Option Note × Content) → Type 0
AreCalls before [] = Unit {0}
AreCalls before (call ∷ calls) = IsCall before call.0 call.1 × AreCalls call.1 calls

-- a call of `bound`, which sets the bound and nothing else
abbrev pub IsBounded : Content → ℕ → Content → Type 0
IsBounded before most after = (after.most ≡ Some most) × (after.puts ≡ before.puts) × (after.queue ≡ before.queue)

-- where `bound` is called, it is the only call of it, and before it there are only calls of which there is nothing to say, as of `reserve`
abbrev pub AreCallsOfNew : Content → List (Option Note × Content) → Type 0
AreCallsOfNew first ((None, after) ∷ calls) = IsCall first None after × AreCallsOfNew after calls
AreCallsOfNew first ((Some (Bounds most), after) ∷ calls) = IsBounded first most after × AreCalls after calls
AreCallsOfNew first calls = AreCalls first calls

abbrev pub said : Option Note → List Note → List Note
said None notes = notes
said (Some note) notes = note ∷ notes

abbrev pub notes_of_calls : List (Option Note × Content) → List Note
notes_of_calls [] = []
notes_of_calls (call ∷ calls) = said call.0 (notes_of_calls calls)

-- whatever is called on a new mailbox, it is one thread of messages
abbrev pub CallsAreOneThread : Type 0
CallsAreOneThread = (first : Content) (calls : List (Option Note × Content)) → first.most ≡ None → first.puts ≡ 0 → first.queue ≡ [] → AreCallsOfNew first calls → AreOneThread (notes_of_calls calls)
