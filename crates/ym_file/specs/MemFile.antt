-- The file that a sink in memory takes at present.
use Rattle.std.specs.Prelude.{◌≡◌, ℕ, ◌<◌, Option, None, Some}
use Rattle.ym_file.specs.Received.{ReceivedParts}
use Rattle.ym_file.specs.declared.mem_sink.MemFile.{MemFile}

abbrev pub opened_of : Option MemFile → Option ReceivedParts
opened_of None = None
opened_of (Some taking) = Some (record { header = taking.header; bytes = taking.collector.bytes })

-- the collector takes as many bytes as the header says, and there is room for one more file
abbrev pub IsReady : Option MemFile → ℕ → ℕ → Type 0
IsReady None count capacity = Unit {0}
IsReady (Some taking) count capacity =
    (taking.collector.wanted ≡ taking.header.length) × (count < capacity)
