-- A room of the code as a space.
use Rattle.std.specs.Prelude.{◌≡◌, ℕ, ◌≤◌, ◌<◌, ◌^◌, length, slice_index}
use Rattle.tda_flow.specs.declared.search.Room.{Room}
use Rattle.tda_flow.specs.Network.{arc_count}
use Rattle.tda_flow.specs.Walk.{Space}

abbrev pub space_of : Room → Space
space_of room = record { net = room.net.now; flow = room.flow.now; low = slice_index room.low.now; high = slice_index room.high.now; step = room.delta }

-- the lists are as long as the net has arcs, and no number is large
pub record IsRoom (room : Room) : Type 0 where
  pub flow : length room.flow.now ≡ arc_count room.net.now
  pub low : length room.low.now ≡ arc_count room.net.now
  pub high : length room.high.now ≡ arc_count room.net.now
  pub flow_limit : (k : ℕ) → k < length room.flow.now → slice_index room.flow.now k ≤ 2 ^ 30
  pub low_limit : (k : ℕ) → k < length room.low.now → slice_index room.low.now k ≤ 2 ^ 30
  pub delta : room.delta ≤ 2 ^ 30
