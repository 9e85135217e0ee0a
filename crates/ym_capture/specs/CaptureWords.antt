-- Why a capture cannot be read on, in words.
use Rattle.std.specs.Prelude.{ℕ, List, ◌++◌, codes, decimal}
use Rattle.ym_capture.specs.declared.fault.CaptureFault.{CaptureFault}
use Rattle.ym_capture.specs.declared.fault.CaptureFault.TheVariants.{Cut, Link, Long, Short, Fragment, Second, Gap}

abbrev pub capture_words : CaptureFault → List ℕ
capture_words Cut = codes "the capture ends in what begins there"
capture_words (Link number) =
    codes "a link of type " ++ (decimal number ++ codes " is none that is read")
capture_words Long = codes "a packet states more than 262144 bytes"
capture_words Short = codes "not all bytes of the packet were kept (tcpdump -s 0 keeps them)"
capture_words Fragment = codes "the packet is a fragment"
capture_words Second =
    codes "the packet is of a second connection (tcpdump -r IN -w OUT tcp port N keeps one)"
capture_words Gap = codes "bytes before those of the packet are missing or late"
