-- What a work keeps.
use Rattle.std.specs.Prelude.{◌≡◌, ℕ, ◌≤◌, ◌<◌, ◌^◌, List, length, map, slice_index, slice_index_or, Option, None}
use Rattle.tda_flow.specs.declared.net.Turn.{Turn}
use Rattle.tda_flow.specs.declared.work.Work.TheInside.{Inside}
use Rattle.tda_flow.specs.Network.{Network}
use Rattle.tda_flow.specs.Search.{rank_of, last_of}
use Rattle.tda_flow.specs.Walk.{Space}

-- bounds for each arc, and for each node the rank and the last turn that the last search found
pub record Tables : Type 0 where
  pub low : List ℕ
  pub high : List ℕ
  pub ranks : List (Option ℕ)
  pub lasts : List (Option Turn)

abbrev pub rank_at : List (Option ℕ) → ℕ → Option ℕ
rank_at ranks v = slice_index_or ranks v None

abbrev pub last_at : List (Option Turn) → ℕ → Option Turn
last_at lasts v = slice_index_or lasts v None

pub record AreTables (t : Tables) : Type 0 where
  pub bounds : length t.high ≡ length t.low
  pub nodes : length t.lasts ≡ length t.ranks
  pub order : (k : ℕ) → k < length t.low → slice_index t.low k ≤ slice_index t.high k
  pub limit : (k : ℕ) → k < length t.low → slice_index t.high k ≤ 2 ^ 30

-- a flow within the bounds of a work, and the size of a step
abbrev pub space : Network → List ℕ → Tables → ℕ → Space
space net flow t step = record { net = net; flow = flow; low = slice_index t.low; high = slice_index t.high; step = step }

abbrev pub tables_of : Inside → Tables
tables_of w = record { low = w.low.items; high = w.high.items; ranks = map rank_of w.marks.items; lasts = map last_of w.marks.items }

-- the tables are sound, and the queue has a place for each node
pub record HasTables (w : Inside) : Type 0 where
  pub tables : AreTables (tables_of w)
  pub queue : length w.queue.items ≡ length w.marks.items
