-- What do the shelves and sinks in memory consist of?
use Rattle.std.specs.Prelude.{ℕ, List}
use Rattle.pearl_io.specs.Outside.{Files}

-- a `MemoryShelf`: its files, the calls that fail, the most bytes a call, and the calls and the faults so far
pub record ShelfState : Type 0 where
  pub files : Files
  pub failing : List ℕ
  pub most : ℕ
  pub calls : ℕ
  pub faults : ℕ

-- a `MemorySink`: the bytes taken, the calls that fail, the most bytes a call, and the calls and the faults so far
pub record SinkState : Type 0 where
  pub bytes : List ℕ
  pub failing : List ℕ
  pub most : ℕ
  pub calls : ℕ
  pub faults : ℕ

-- a `SureSink`: the bytes taken, and how many it takes in all
pub record RoomState : Type 0 where
  pub bytes : List ℕ
  pub room : ℕ
