-- A sink in memory as contracts see it.
use Rattle.std.specs.Prelude.{ℕ, List, [], ◌++◌, length, map, Option, None, Some, option_to_list}
use Rattle.ym_header.specs.Header.{HeaderParts}
use Rattle.ym_file.specs.Counts.{Tally, counted}
use Rattle.ym_file.specs.Kept.{Kept}
use Rattle.ym_file.specs.Received.{ReceivedParts}

-- the open file with the bytes that it took, the committed files in order, and which call is to
-- fail
pub record MemSinkParts : Type 0 where
  pub opened : Option ReceivedParts
  pub files : List ReceivedParts
  pub tally : Tally

abbrev pub open_header : Option ReceivedParts → Option HeaderParts
open_header None = None
open_header (Some file) = Some file.header

abbrev pub open_bytes_of : Option ReceivedParts → List ℕ
open_bytes_of None = []
open_bytes_of (Some file) = file.bytes

-- ---- After a call

-- one more call was counted, and the files are the same
abbrev pub after_refusal : MemSinkParts → MemSinkParts
after_refusal s = record { opened = s.opened; files = s.files; tally = counted s.tally }

-- a file without bytes is open
abbrev pub after_begin : HeaderParts → MemSinkParts → MemSinkParts
after_begin header s =
    record {
      opened = Some (record { header = header; bytes = [] });
      files = s.files;
      tally = counted s.tally;
    }

-- with bytes behind those of the open file
abbrev pub with_bytes : List ℕ → Option ReceivedParts → Option ReceivedParts
with_bytes more None = None
with_bytes more (Some file) = Some (record { header = file.header; bytes = file.bytes ++ more })

abbrev pub after_add : List ℕ → MemSinkParts → MemSinkParts
after_add more s =
    record { opened = with_bytes more s.opened; files = s.files; tally = counted s.tally }

-- the open file stands behind the committed ones
abbrev pub after_commit : MemSinkParts → MemSinkParts
after_commit s =
    record { opened = None; files = s.files ++ option_to_list s.opened; tally = counted s.tally }

-- ---- As any sink

-- what a sink in memory holds, as any sink tells it: here the bytes are known
abbrev pub kept_of : MemSinkParts → Kept
kept_of s = record {
  opened = open_header s.opened;
  taken = length (open_bytes_of s.opened);
  headers = map (λ (f : ReceivedParts). f.header) s.files;
  told = Some (record {
    open_bytes = open_bytes_of s.opened;
    files = map (λ (f : ReceivedParts). f.bytes) s.files;
  });
}
