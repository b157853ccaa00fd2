-- What a write of a whole text leaves.
use Rattle.std.specs.Prelude.{◌≡◌, ◌⊎◌, ◌<◌, ◌≤◌, ℕ, false, List, length, take, Option, option_map}
use Rattle.tda_io.specs.Outside.{Tray, Written, refuses}
use Rattle.tda_io.specs.declared.outside.OutFault.{OutFault}
use Rattle.tda_io.specs.declared.outside.OutFault.TheVariants as fault_out
use Rattle.tda_tool.specs.Outcome.{with_last, AsksBegin}

-- a file with its first bytes, not ended
abbrev pub part : List ℕ → List ℕ → Written
part name text = record { name = name; bytes = text; ended = false }

-- what a write that was given up leaves: nothing begun, or a prefix of the text
abbrev pub LeavesPart : List ℕ → List ℕ → Option Tray → Option Tray → Type 0
LeavesPart name text old new = (new ≡ old) ⊎ ((new ≡ option_map (refuses name) old)
    ⊎ ((n : ℕ) × (n ≤ length text) × (new ≡ option_map (with_last (part name (take n text))) old)))

-- `begin` was asked for the first ones of these names
pub record BeginsFirst (names : List (List ℕ)) (old new : Option Tray) : Type 0 where
  pub count : ℕ
  pub within : count ≤ length names
  pub asked : AsksBegin (take count names) old new

-- the count rose exactly where a call failed
abbrev pub CountsFault : OutFault → ℕ → ℕ → Type 0
CountsFault fault_out.Failed before now = before < now
CountsFault fault_out.NoMemory before now = now ≡ before
