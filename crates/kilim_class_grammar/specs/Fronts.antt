-- What stays of reading, whatever follows the bytes: what was read, and each fault but that the bytes are cut.
use Rattle.std.specs.Prelude.{◌≡◌, ◌≢◌, ◌⊎◌, ℕ, List, [], ◌++◌, Result, Ok, Err}
use Rattle.kilim_class_grammar.specs.Reader.{Reader}

-- What was answered of some bytes, and what is answered of them with more behind. `IsCut` are the faults that say that
-- the bytes end inside a part.
abbrev pub Stays : {F A : Type 0} → (F → Type 0) → List ℕ → Result (A × List ℕ) F → Result (A × List ℕ) F → Type 0
Stays IsCut more (Ok x) longer = longer ≡ Ok (x.0, x.1 ++ more)
Stays IsCut more (Err fault) longer = IsCut fault ⊎ (longer ≡ Err fault)

-- A reader, and the reader of more bytes. Mostly they are one; they may differ where a fault names the number of bytes.
abbrev pub StaysRead : {F A : Type 0} → (F → Type 0) → Reader F A → Reader F A → Type 0
StaysRead IsCut one longer = (bytes more : List ℕ) → Stays IsCut more (one bytes) (longer (bytes ++ more))

-- each fault that is answered is of this sort
abbrev pub Faults : {F A : Type 0} → (F → Type 0) → Result A F → Type 0
Faults Is (Ok x) = Unit {0}
Faults Is (Err fault) = Is fault

abbrev pub FaultsOf : {F A : Type 0} → (F → Type 0) → Reader F A → Type 0
FaultsOf Is one = (bytes : List ℕ) → Faults Is (one bytes)

-- A part whose text is cut at each place, and where it is broken, nothing that follows could spell it: each proper
-- front of a text is answered by the fault of the cut, and every other fault stays, whatever follows.
pub record CutOrBroken {F A : Type 0} (text : A → List ℕ) (at : Reader F A) (Fits : A → Type 0) (cut : F) : Type 0 where
  pub fronts : (x : A) (front more : List ℕ) → Fits x → text x ≡ front ++ more → more ≢ [] → at front ≡ Err cut
  pub broken : (bytes more : List ℕ) (fault : F) → at bytes ≡ Err fault → (fault ≡ cut) ⊎ (at (bytes ++ more) ≡ Err fault)
