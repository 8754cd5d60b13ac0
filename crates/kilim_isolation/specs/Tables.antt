-- Tables by place: for each place below a size the number of the first entry that stands there.
use Rattle.std.specs.Prelude.{◌≡◌, ℕ, ◌<◌, List, length, map, get_or}
use Rattle.kilim_isolation_graph.specs.Canonical.{index_of}

abbrev pub places_of : {A : Type 0} → List (ℕ × A) → List ℕ
places_of entries = map (λ e. e.0) entries

-- as many as there are entries where none stands there
pub record IsTable (table places : List ℕ) (size : ℕ) : Type 0 where
  pub long : length table ≡ size
  pub each : (at : ℕ) → at < size → get_or table at 0 ≡ index_of at places
